use Rattle.std.proofs.Common.{◌≡◌, ℕ, ◌+◌, List, ◌++◌, ◌∙◌, ap, arith}
use Rattle.std.specs.Prelude.{max, map}
use Rattle.std.specs.List.{flat_map}
use Rattle.hg_base.specs.declared.statement.Record.{Record}
use Rattle.hg_base.specs.Lists.{greatest, numbers_from}
use Rattle.hg_base.specs.Transcript.{of_session}
use Rattle.hg_known.proofs.Sequencing.{sessions_next, all_sessions}
use Rattle.hg_known.proofs.sequence.by_session.Goals as goal

pub loop-j-preserved : goal.loop-j-preserved
loop-j-preserved c =
    let f : ℕ → List Record = λ j. of_session j c.args.script.now.records in
    record {
      records = c.in_ok-add_session.ensures.records ∙ ap (λ ys. ys ++ f (c.loop-j.j + 1)) c.loop-j.invariant.records ∙ sessions_next f c.loop-j.j;
      indices = c.in_ok-add_session.ensures.indices c.loop-j.invariant.indices;
    }

pub returns-clause-records : goal.returns-clause-records
returns-clause-records c =
    let records = c.args.script.now.records in
    let all : c.loop-j.j ≡ max 1 (greatest (map (λ r. r.session) records)) = omega (arith, c.sessions-j-end.ensures) in
    c.loop-j.invariant.records ∙ ap (λ n. flat_map (λ j. of_session j records) (numbers_from 1 n)) all ∙ all_sessions records
