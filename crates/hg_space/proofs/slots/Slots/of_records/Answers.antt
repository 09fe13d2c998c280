use Rattle.std.proofs.Common.{subst, ◌∙◌}
use Rattle.std.specs.Map.{keys_of}
use Rattle.std.specs.List.Sorted.{IsStrictlySortedBy}
use Rattle.std.proofs.lemmas.Map.Keys.{sorted_tail}
use Rattle.hg_base.specs.RidOrder.{rid_cmp}
use Rattle.hg_space.specs.Index.{place_of}
use Rattle.hg_space.specs.Slots.{look_at}
use Rattle.hg_space.proofs.TableFacts.{Says, said_first, filled}
use Rattle.hg_space.proofs.slots.Slots.of_records.Goals as goal

pub put-requires : goal.put-requires
put-requires c = said_first c.loop-rid.slots c.loop-rid.rid-iterator c.next.new.self c.in-Some.rid.now c.in-Some.place.now _ c.in-Some.ensures.steps (c.loop-rid.invariant.said c.in-Some.rid.now)

pub loop-rid-preserved : goal.loop-rid-preserved
loop-rid-preserved c =
    let r = c.in-Some.rid.now in
    let p = c.in-Some.place.now in
    let e = c.in-Some.ensures.steps in
    let up = subst (λ es. IsStrictlySortedBy rid_cmp (keys_of es)) e c.loop-rid.invariant.ascends in
    record {
      ascends = sorted_tail rid_cmp r (keys_of c.next.new.self) up;
      said = filled c.loop-rid.slots c.put.new.self c.args.places.now.entries c.next.new.self r p up c.put.ensures.here c.put.ensures.others
          (λ q. subst (λ es. Says (look_at c.loop-rid.slots q) (place_of es q) (place_of c.args.places.now.entries q)) e (c.loop-rid.invariant.said q));
      many = c.put.ensures.bins ∙ c.loop-rid.invariant.many;
    }
