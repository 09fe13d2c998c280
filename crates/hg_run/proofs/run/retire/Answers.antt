use Rattle.std.proofs.Common.{rules, ◌≡◌, List, [], ◌∷◌, ◌++◌, length, sym, ap, ◌∙◌, arith, append_assoc, refl}
use Rattle.hg_session.specs.declared.session.Session.{Session}
use Rattle.hg_run.specs.declared.work.Worker.{Worker}
use Rattle.hg_run.specs.Working.{sessions_in}
use Rattle.hg_run.proofs.Hiring.{length_more}
use Rattle.hg_run.proofs.run.retire.Goals as goal

sessions_more : (ws : List Worker) (w : Worker) → sessions_in (ws ++ w ∷ []) ≡ sessions_in ws ++ w.session ∷ []
sessions_more [] w = refl
sessions_more (v ∷ ws) w = ap (λ (l : List Session). v.session ∷ l) (sessions_more ws w)

pub loop-worker-preserved : goal.loop-worker-preserved
loop-worker-preserved c =
    let done : List Worker = c.loop-worker.yielded in
    let w : Worker = c.in-Some.worker in
    let first : List Session = c.args.sessions.now.items in
    let list : List Session = c.loop-worker.sessions.items in
    let inv = c.loop-worker.invariant in
    let rest : c.loop-worker.worker-iterator.rest.items ≡ w ∷ c.next.new.self.rest.items = search rules in
    let items : c.push_reserved.new.self.items ≡ list ++ w.session ∷ [] = c.push_reserved.ensures.items in
    let many = length_more done w in
    let more = length_more list w.session in (
      inv.0 ∙ ap (λ r. done ++ r) rest ∙ sym (append_assoc done (w ∷ []) c.next.new.self.rest.items),
      items ∙ ap (λ (l : List Session). l ++ w.session ∷ []) inv.1 ∙ append_assoc first (sessions_in done) (w.session ∷ [])
          ∙ ap (λ (l : List Session). first ++ l) (sym (sessions_more done w)),
      (let k = inv.2 in ap (λ (l : List Session). length l) items ∙ omega (arith, more, k, many)),
      (search rules),
    )
