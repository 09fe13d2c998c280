use Rattle.std.proofs.Common.{◌≡◌, length}
use Rattle.std.specs.Map.{keys_of}
use Rattle.std.specs.List.Sorted.{IsStrictlySortedBy}
use Rattle.hg_base.specs.declared.rid.Rid.{Rid}
use Rattle.hg_base.specs.RidOrder.{rid_cmp}
use Rattle.hg_space.specs.Index.{place_of}
use Rattle.hg_space.specs.Slots.{look_at}
use Rattle.hg_space.proofs.TableFacts.{Says}
use Rattle.hg_space.proofs.slots.Slots.of_records.Given as goal

abbrev pub invariant-loop-rid : goal.invariant-loop-rid
invariant-loop-rid l = record {
  ascends : IsStrictlySortedBy rid_cmp (keys_of l.rid-iterator);
  said : (q : Rid) → Says (look_at l.slots q) (place_of l.rid-iterator q) (place_of l.places.entries q);
  many : length l.slots ≡ l.many;
}
