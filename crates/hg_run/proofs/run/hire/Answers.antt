use Rattle.std.proofs.Common.{rules, ◌≡◌, ℕ, suc, ◌+◌, List, [], ◌∷◌, ◌++◌, length, false, sym, ap, ◌∙◌, arith, append_assoc}
use Rattle.hg_base.specs.Transcript.{of_session}
use Rattle.hg_session.specs.declared.session.Session.{Session}
use Rattle.hg_run.specs.declared.work.Worker.{Worker}
use Rattle.hg_run.proofs.Hiring.{hired_more, length_more, worker_of}
use Rattle.hg_run.proofs.run.hire.Goals as goal

pub loop-session-preserved : goal.loop-session-preserved
loop-session-preserved c =
    let script = c.args.script.now in
    let ws = c.loop-session.workers.items in
    let done : List Session = c.loop-session.yielded in
    let s : Session = c.in-Some.session in
    let w : Worker = record { session = s; records = c.records_of.result; transcript = c.new.result; refused = false } in
    let n : ℕ = suc (length done) in
    let inv = c.loop-session.invariant in
    let rest : c.loop-session.session-iterator.rest.items ≡ s ∷ c.next.new.self.rest.items = search rules in
    let items : c.push_reserved.new.self.items ≡ ws ++ w ∷ [] = c.push_reserved.ensures.items in
    let number : c.loop-session.number + 1 ≡ n = (let k = inv.2 in omega (arith, k)) in
    let records : c.records_of.result ≡ of_session n script.records = c.records_of.ensures ∙ ap (λ m. of_session m script.records) number in
    let same : w ≡ worker_of script n s = (λ i. record { session = s; records = records i; transcript = c.new.ensures i; refused = false }) in
    let all : c.push_reserved.new.self.items ≡ ws ++ worker_of script n s ∷ [] = items ∙ ap (λ (x : Worker). ws ++ x ∷ []) same in
    let many = length_more done s in (
      inv.0 ∙ ap (λ r. done ++ r) rest ∙ sym (append_assoc done (s ∷ []) c.next.new.self.rest.items),
      all ∙ ap (λ (l : List Worker). l ++ worker_of script n s ∷ []) inv.1 ∙ sym (hired_more script 1 done s n (omega arith)),
      omega (arith, number, many),
      (search rules),
      (let more = length_more ws w in let k = inv.4 in ap (λ (l : List Worker). length l) items ∙ omega (arith, more, k, many)),
    )
