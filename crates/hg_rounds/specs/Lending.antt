-- What a collector lends. R is its type, and c the collector.
use Rattle.std.specs.Prelude.{⊤}
use Rattle.std.specs.Borrow.{Lends, follows_so, MutBor, Fml, RattleType}
use mathlib.Core.Option.{none}
use Rattle.hg_rule.specs.declared.passes.CollectorPass.{CollectorPass}
use Rattle.hg_rule.specs.contracts.passes.CollectorPass.{the_row as pass_row}

module _ (R : RattleType) where
  -- c ends with the last pass that r points to, as `with` sets it, and all else as it was
  abbrev pub LendsPass : (R.Denot → CollectorPass → R.Denot) → MutBor R.Denot → MutBor CollectorPass → Fml
  LendsPass with c r = Lends R pass_row c r (with c.now)

  -- c ends as a value of which P holds
  abbrev pub EndsAs : MutBor R.Denot → (R.Denot → Type 0) → Fml
  EndsAs c P = follows_so R R c.ghost_name none (λ _ _. ⊤) P
