use Rattle.std.proofs.Common.{◌≡◌, ◌+◌, [], ◌∷◌, ◌++◌, length, take, get_or, sym, ap, ◌∙◌, refl, subst, arith}
use Rattle.hg_base.specs.declared.rid.Rid.{Rid}
use Rattle.hg_group.proofs.Recording.{take_next}
use Rattle.hg_group.proofs.Stamped.{take_all}
use Rattle.hg_rule.specs.Seats.{pass_view}
use Rattle.hg_collectors.specs.Cutting.{CutsHeld}
use Rattle.hg_collectors.proofs.Held.{held_none, held_more}
use Rattle.hg_collectors.proofs.cuts.cut_held.Goals as goal

abbrev first : Rid
first = record { table = record { 0 = 0 }; key = 0 }

pub loop-rid-init : goal.loop-rid-init
loop-rid-init c = record { cuts = held_none c.args.bound (pass_view c.args.pass.now); holds = c.requires.holds; held = (refl, refl); own = c.requires.own }

-- one record more
more : (c : goal.After-cut_record-gone) → CutsHeld c.args.bound (pass_view c.args.pass.now) (take (c.loop-rid.rid-index + 1) c.args.rids.now)
    (c.loop-rid.gone + c.cut_record-gone.result) (pass_view c.cut_record-gone.new.pass)
more c =
    let v = pass_view c.args.pass.now in
    let x = pass_view c.cut_record-gone.new.pass in
    let rids = c.args.rids.now in
    let i = c.loop-rid.rid-index in
    let one = held_more c.args.bound v (pass_view c.loop-rid.pass) x (take i rids) c.loop-rid.gone (get_or rids i first) c.loop-rid.invariant.cuts c.cut_record-gone.ensures.step c.requires.bound in
    subst (λ l. CutsHeld c.args.bound v l (c.loop-rid.gone + c.cut_record-gone.result) x) (sym (take_next rids i first c.loop-rid-test.true))
    (subst (λ n. CutsHeld c.args.bound v (take i rids ++ get_or rids i first ∷ []) (c.loop-rid.gone + n) x) (sym c.cut_record-gone.ensures.gone) one)

pub overflow_add-gone : goal.overflow_add-gone
overflow_add-gone c = let all = (more c).removes.counts.versions in omega (arith, all, c.requires.few)

pub loop-rid-preserved : goal.loop-rid-preserved
loop-rid-preserved c = record {
  cuts = more c;
  holds = c.cut_record-gone.ensures.holds.0.1;
  held = (c.cut_record-gone.ensures.holds.1.0 ∙ c.loop-rid.invariant.held.0, c.cut_record-gone.ensures.holds.1.1 ∙ c.loop-rid.invariant.held.1);
  own = c.cut_record-gone.ensures.holds.0.0;
}

pub returns-clause-cuts : goal.returns-clause-cuts
returns-clause-cuts c =
    let rids = c.args.rids.now in
    let end : c.loop-rid.rid-index ≡ length rids = omega (arith, c.loop-rid.auto.rid-index-end, c.loop-rid-test.false) in
    subst (λ l. CutsHeld c.args.bound (pass_view c.args.pass.now) l c.loop-rid.gone (pass_view c.loop-rid.pass)) (ap (λ n. take n rids) end ∙ take_all rids) c.loop-rid.invariant.cuts
