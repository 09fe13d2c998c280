use Rattle.std.proofs.Common.{inl, inr, refl, sym, subst}
use Rattle.hg_core.specs.Covered.{Reads}
use Rattle.hg_core.proofs.Runs.{steady_after}
use Rattle.hg_core.proofs.theorems.no_removal_is_seen.Goals as goal

pub returns-clause-live : goal.returns-clause-live
returns-clause-live c sessions tables buckets passes quota steps r j at scope rid live with_table =
    ((steady_after sessions tables buckets passes quota steps r).covered rid).same at (inr (j, subst (λ p. Reads rid.table p at) (sym live) (refl, with_table)))

pub returns-clause-fixed : goal.returns-clause-fixed
returns-clause-fixed c sessions tables buckets passes quota steps r j f m scope rid fixed = ((steady_after sessions tables buckets passes quota steps r).covered rid).same m
    (inr (j, subst (λ p. Reads rid.table p m) (sym fixed) refl))

pub returns-clause-mark : goal.returns-clause-mark
returns-clause-mark c sessions tables buckets passes quota steps r rid = ((steady_after sessions tables buckets passes quota steps r).covered rid).same _ (inl refl)
