-- What a gather is made for, said by its own numbers.
use Rattle.std.proofs.Common.{ℕ, sym, subst}
use Rattle.hg_tracker.specs.declared.gathered.Gathered.{Gathered}
use Rattle.hg_tracker.specs.Gathers.{tables_in, IsMadeFor}

pub made_itself : (sessions tables : ℕ) (g : Gathered) → IsMadeFor sessions tables g → IsMadeFor g.sessions (tables_in g) g
made_itself sessions tables g h = subst (λ n. IsMadeFor n (tables_in g) g) (sym h.0) (subst (λ n. IsMadeFor sessions n g) (sym h.1) h)

pub made_again : (sessions tables : ℕ) (before after : Gathered) → IsMadeFor sessions tables before → IsMadeFor before.sessions (tables_in before) after → IsMadeFor sessions tables after
made_again sessions tables before after h k = subst (λ n. IsMadeFor n tables after) h.0 (subst (λ n. IsMadeFor before.sessions n after) h.1 k)
