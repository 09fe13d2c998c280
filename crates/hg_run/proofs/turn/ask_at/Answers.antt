use Rattle.std.proofs.Common.{◌≡◌, subst, rules}
use Rattle.std.specs.Prelude.{get_or}
use Rattle.hg_run.specs.Asked.{MayAsk}
use Rattle.hg_run.proofs.turn.ask_at.Goals as goal

pub ask-requires-clause-may : goal.ask-requires-clause-may
ask-requires-clause-may g c =
    let d = c.index_mut.result.now in
    let same : get_or c.args.list.now.items c.args.i d ≡ d = search rules in
    subst (λ s. MayAsk s c.args.statement) same (c.requires.may d)
