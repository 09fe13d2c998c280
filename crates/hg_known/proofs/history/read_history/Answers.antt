use Rattle.std.proofs.Common.{◌∙◌, sym, subst, []}
use Rattle.hg_base.specs.Lists.{onto}
use Rattle.hg_base.specs.Transcript.{history_of}
use Rattle.hg_base.proofs.Growth.{as_many}
use Rattle.hg_known.specs.Context.{IsContext, wants_of}
use Rattle.hg_known.specs.Written.{IsOfHistory}
use Rattle.hg_known.proofs.Gathering.{writes_there}
use Rattle.hg_known.proofs.Whole.{greatest_number}
use Rattle.hg_known.proofs.history.read_history.Goals as goal

pub gather-requires-clause-none : goal.gather-requires-clause-none
gather-requires-clause-none c = c.new-gathered.ensures c.find_wants-wants.result

pub returns-in-Ok-false : goal.returns-in-Ok-false
returns-in-Ok-false c = rw c.in-Ok-false.field-0-test at c.in-Ok-false.ensures

pub returns-in-Ok-true : goal.returns-in-Ok-true
returns-in-Ok-true c =
    let xs = c.args.all.now in
    let done = rw c.in-Ok-true.field-0-test at c.in-Ok-true.ensures in
    let past = c.past_of.ensures in (
      done.0,
      subst (IsOfHistory (history_of xs)) (sym past.writes) (writes_there xs c.gather.new.into.commits done.1.shows done.0),
      as_many xs ∙ sym (greatest_number xs) ∙ sym done.1.shows.greatest ∙ sym past.groups,
      past.tally xs done.1.versions,
      subst (λ context. IsContext (wants_of c.args.is_run xs) context (onto xs [])) (sym past.context)
          (subst (λ w. IsContext w c.gather.new.into.context (onto xs [])) c.find_wants-wants.ensures done.1.context),
    )
