use Rattle.std.proofs.Common.{rules, ℕ, suc, List, [], ◌∷◌, ◌++◌, Option, None, sym, subst}
use Rattle.hg_rule.specs.Seats.{BoardId}
use Rattle.hg_group.specs.declared.book.Laid.{Laid}
use Rattle.hg_group.specs.Batch.{AreLaid}
use Rattle.hg_group.proofs.book.empty_places.Goals as goal

one_more : (t : BoardId) (k : ℕ) (xs : List (Option Laid)) → AreLaid t k xs → AreLaid t k (xs ++ None ∷ [])
one_more t k [] h = (tt, tt)
one_more t k (x ∷ xs) h = (h.0, one_more t (suc k) xs h.1)

pub loop-turn-preserved : goal.loop-turn-preserved
loop-turn-preserved c = record {
  laid = λ t k. subst (AreLaid t k) (sym c.push_reserved.ensures.items) (one_more t k c.loop-turn.places.items (c.loop-turn.invariant.laid t k));
  count = search rules;
  room = search rules;
}
