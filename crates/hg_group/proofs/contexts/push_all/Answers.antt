use Rattle.std.proofs.Common.{◌≡◌, ◌++◌, ◌∷◌, [], ◌∙◌, length, take, get_or, ap, sym, arith, append_assoc}
use Rattle.hg_base.specs.declared.rid.Rid.{Rid}
use Rattle.hg_group.proofs.Recording.{take_next}
use Rattle.hg_group.proofs.Stamped.{take_all}
use Rattle.hg_group.proofs.contexts.push_all.Goals as goal

abbrev first : Rid
first = record { table = record { 0 = 0 }; key = 0 }

pub loop-rid-preserved : goal.loop-rid-preserved
loop-rid-preserved c =
    let xs = c.args.rids.now in
    let old = c.args.into.now.items in
    let i = c.loop-rid.rid-index in
    let one = get_or xs i first ∷ [] in (
      c.push_reserved.ensures.items ∙ (ap (λ l. l ++ one) c.loop-rid.invariant.0 ∙
          (append_assoc old (take i xs) one ∙ ap (λ l. old ++ l) (sym (take_next xs i first c.loop-rid-test.true)))),
      c.push_reserved.ensures.capacity ∙ c.loop-rid.invariant.1,
    )

pub returns : goal.returns
returns c =
    let xs = c.args.rids.now in
    let end : c.loop-rid.rid-index ≡ length xs = omega (arith, c.loop-rid.auto.rid-index-end, c.loop-rid-test.false) in
    record {
      pushed = c.loop-rid.invariant.0 ∙ ap (λ l. c.args.into.now.items ++ l) (ap (λ n. take n xs) end ∙ take_all xs);
      same = c.loop-rid.invariant.1;
    }
