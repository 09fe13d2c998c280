use Rattle.std.specs.Prelude.{◌≡◌, ◌++◌, take, vec_capacity}
use Rattle.hg_group.proofs.contexts.push_all.Given as goal

abbrev pub invariant-loop-rid : goal.invariant-loop-rid
invariant-loop-rid l = (l.into.items ≡ l.fn.into.items ++ take l.rid-index l.rids) × (vec_capacity l.into ≡ vec_capacity l.fn.into)
