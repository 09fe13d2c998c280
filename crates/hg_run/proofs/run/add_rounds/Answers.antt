use Rattle.std.proofs.Common.{rules, ◌≡◌, ℕ, ◌+◌, List, [], ◌∷◌, ◌++◌, sym, ap, ◌∙◌, arith, append_assoc}
use Rattle.hg_base.specs.declared.line.Line.{Line}
use Rattle.hg_base.specs.declared.report.Sweep.{Sweep}
use Rattle.hg_collectors.specs.Telling.{sweep_lines}
use Rattle.hg_run.proofs.Hiring.{length_more, sweep_line, sweeps_more}
use Rattle.hg_run.proofs.run.add_rounds.Goals as goal

pub loop-sweep-preserved : goal.loop-sweep-preserved
loop-sweep-preserved c =
    let done : List Sweep = c.loop-sweep.yielded in
    let s : Sweep = c.in-Some.sweep in
    let first : List Line = c.args.transcript.now.lines in
    let inv = c.loop-sweep.invariant in
    let n : ℕ = c.loop-sweep.place + 1 in
    let rest : c.loop-sweep.sweep-iterator.rest.items ≡ s ∷ c.next.new.self.rest.items = search rules in
    let pushed : c.add_round.new.transcript.lines ≡ c.loop-sweep.transcript.lines ++ sweep_line n s ∷ [] = c.in_ok-add_round.ensures.lines in
    let many = length_more done s in (
      inv.0 ∙ ap (λ r. done ++ r) rest ∙ sym (append_assoc done (s ∷ []) c.next.new.self.rest.items),
      pushed ∙ ap (λ (l : List Line). l ++ sweep_line n s ∷ []) inv.1 ∙ append_assoc first (sweep_lines 1 done) (sweep_line n s ∷ [])
          ∙ ap (λ (l : List Line). first ++ l) (sym (sweeps_more 1 done s n (let k = inv.3 in omega (arith, k)))),
      c.add_round.ensures.tables ∙ inv.2,
      (let k = inv.3 in omega (arith, k, many)),
      inv.4,
    )
