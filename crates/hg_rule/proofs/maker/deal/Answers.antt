use Rattle.std.proofs.Common.{rules, arith, ◌≡◌, ℕ, suc, ◌+◌, ◌<◌, List, [], ◌∷◌, ◌++◌, drop, length, sym, ap, ◌∙◌, subst}
use Rattle.hg_rule.specs.declared.view.Part.{Part}
use Rattle.hg_rule.specs.declared.view.Sight.{Sight}
use Rattle.hg_rule.specs.Views.{seeing}
use Rattle.hg_rule.specs.Seats.{board_id, view}
use Rattle.hg_rule.specs.Moves.{run, first_of, left_tail, right_first}
use Rattle.hg_rule.specs.New.{IsNew, EachFrom}
use Rattle.hg_rule.proofs.Shifts.{deals}
use Rattle.hg_rule.proofs.Opening.{drop_next, run_at, each_from_snoc}
use Rattle.hg_rule.proofs.maker.deal.Goals as goal

pub loop-i-init : goal.loop-i-init
loop-i-init g c =
    let v = view c.args.maker.now in
    (c.requires.own.0, ap (λ (seen : List Sight). seeing v.parts seen v.events) c.requires.own.1, search rules, search rules)

pub split_seat-seat-requires : goal.split_seat-seat-requires
split_seat-seat-requires g c = (search rules, search rules, deals _ _ _)

pub loop-i-preserved : goal.loop-i-preserved
loop-i-preserved g c =
    let i : ℕ = c.loop-i.i in
    let a : ℕ = c.args.first in
    let v = view c.args.maker.now in
    let ps : List Part = v.parts in
    let m = c.loop-i.maker in
    let t = board_id c.args.board.now in
    let vi : view m ≡ seeing (drop i ps) [] v.events = c.loop-i.invariant.1 in
    let did = c.split_seat-seat.ensures in
    let r : List Part = c.requires.parts.0 in
    let is : ps ≡ run g.T.Dealt.part a c.args.count ++ r = c.requires.parts.1 in
    let l : i < c.args.count = search rules in
    let up : suc i ≡ i + 1 = omega arith in
    let one_part : first_of (drop i ps) ≡ g.T.Dealt.part (a + i) ∷ [] = ap (λ (q : List Part). first_of (drop i q)) is ∙ run_at g.T.Dealt.part a c.args.count i r l in
    let seat = c.split_seat-seat.result in
    let new : IsNew t (g.T.Dealt.part (a + i)) seat = (search rules, did.4 ∙ (λ k. (right_first (vi k), [])) ∙ (λ k. (seeing (one_part k) [] [], []))) in
    let len : a + length c.loop-i.seats.items ≡ a + i = omega (arith, c.loop-i.invariant.2) in
    let pushed : c.push.new.self.items ≡ c.loop-i.seats.items ++ c.of.result ∷ [] = search rules in
    let at_last : IsNew t (g.T.Dealt.part (a + i)) (g.T.Dealt.seat_is c.of.result) = subst (IsNew t (g.T.Dealt.part (a + i))) (sym c.of.ensures.1) new in (
      search rules,
      ap (λ z. z.0) did.2 ∙ (ap left_tail vi ∙ ap (λ (q : List Part). seeing q [] v.events) (drop_next i ps ∙ ap (λ (n : ℕ). drop n ps) up)),
      search rules,
      subst (EachFrom (λ i x. (g.T.Dealt.rest_is x ≡ g.T.Dealt.rest_for i) × IsNew t (g.T.Dealt.part i) (g.T.Dealt.seat_is x)) a) (sym pushed)
          (each_from_snoc (λ i x. (g.T.Dealt.rest_is x ≡ g.T.Dealt.rest_for i) × IsNew t (g.T.Dealt.part i) (g.T.Dealt.seat_is x)) a c.loop-i.seats.items c.of.result c.loop-i.invariant.3
          (c.of.ensures.0 ∙ ap g.T.Dealt.rest_for (sym len), subst (λ n. IsNew t (g.T.Dealt.part n) (g.T.Dealt.seat_is c.of.result)) (sym len) at_last)),
    )
