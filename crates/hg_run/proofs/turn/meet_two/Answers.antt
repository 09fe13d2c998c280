use Rattle.std.proofs.Common.{◌≡◌, ℕ, ◌<◌, List, length, take, drop, set, sym, ap, ◌∙◌, subst, arith}
use Rattle.std.specs.Prelude.{get_or}
use Rattle.hg_session.specs.declared.session.Session.{Session}
use Rattle.hg_session.specs.Sessions.{IsOf}
use Rattle.hg_run.specs.Meeting.{HaveMet}
use Rattle.hg_run.proofs.Pairs.{front_one, back_one, joined_parts, put_later, put_other, have_met, have_backed}
use Rattle.hg_run.proofs.turn.meet_two.Goals as goal

-- one of the first part, and the first of the second part, are those of the list
in_front : (whole old fs : List Session) (i j : ℕ) (x : Session) → whole ≡ old → fs ≡ take j whole → i < j → j < length old → (d : Session) → get_or fs i x ≡ get_or old i d
in_front whole old fs i j x is front below within d = (λ k. get_or ((front ∙ ap (λ (l : List Session). take j l) is) k) i x) ∙ front_one old i j x d below (omega (arith, below, within))

in_back : (whole old bs : List Session) (j : ℕ) (x : Session) → whole ≡ old → bs ≡ drop j whole → j < length old → (d : Session) → get_or bs 0 x ≡ get_or old j d
in_back whole old bs j x is back within d = (λ k. get_or ((back ∙ ap (λ (l : List Session). drop j l) is) k) 0 x) ∙ back_one old j x d within

pub meet-requires : goal.meet-requires
meet-requires c =
    let old : List Session = c.args.list.now.items in
    let split = c.split_at_mut-front.ensures in
    let x = c.index-front-i.result in
    let y = c.index-back-0.result in
    record {
      own = (
        subst (IsOf c.args.engine.now) (sym (in_front c.deref_mut.result.now old c.split_at_mut-front.result.0.now c.args.i c.args.j x c.deref_mut.ensures.value split.front
            c.if-i-j.true c.requires.second x)) (c.requires.own x).0,
        subst (IsOf c.args.engine.now) (sym (in_back c.deref_mut.result.now old c.split_at_mut-front.result.1.now c.args.j y c.deref_mut.ensures.value split.back c.requires.second y))
            (c.requires.own y).1,
      );
    }

pub returns-then-i-j-clause-backed : goal.returns-then-i-j-clause-backed
returns-then-i-j-clause-backed c =
    let old : List Session = c.args.list.now.items in
    let split = c.split_at_mut-front.ensures in
    let fs : List Session = c.split_at_mut-front.result.0.now in
    let bs : List Session = c.split_at_mut-front.result.1.now in
    have_backed c.args.engine.now c.args.i c.args.j old (get_or fs c.args.i c.index-front-i.result) (get_or bs 0 c.index-back-0.result)
    (in_front c.deref_mut.result.now old fs c.args.i c.args.j c.index-front-i.result c.deref_mut.ensures.value split.front c.if-i-j.true c.requires.second)
    (in_back c.deref_mut.result.now old bs c.args.j c.index-back-0.result c.deref_mut.ensures.value split.back c.requires.second) c.meet.ensures.backed

pub returns-then-i-j-clause-met : goal.returns-then-i-j-clause-met
returns-then-i-j-clause-met c =
    let e = c.args.engine.now in
    let i : ℕ = c.args.i in
    let j : ℕ = c.args.j in
    let old : List Session = c.args.list.now.items in
    let whole : List Session = c.deref_mut.result.now in
    let is : whole ≡ old = c.deref_mut.ensures.value in
    let split = c.split_at_mut-front.ensures in
    let fs : List Session = c.split_at_mut-front.result.0.now in
    let bs : List Session = c.split_at_mut-front.result.1.now in
    let s : Session = c.meet.new.self in
    let t : Session = c.meet.new.other in
    let met = c.meet.ensures in
    subst (HaveMet e i j old)
    (sym (joined_parts c.args.list.now.len i j old fs bs s t c.if-i-j.true (sym c.deref_mut.ensures.len ∙ ap (λ (l : List Session). length l) is)
    (split.front ∙ ap (λ (l : List Session). take j l) is) (split.back ∙ ap (λ (l : List Session). drop j l) is)))
    (have_met e i j old (set (set old i s) j t) (get_or fs i c.index-front-i.result) (get_or bs 0 c.index-back-0.result) s t (put_later i j old s t c.if-i-j.true c.requires.second)
    (in_front whole old fs i j c.index-front-i.result is split.front c.if-i-j.true c.requires.second)
    (in_back whole old bs j c.index-back-0.result is split.back c.requires.second) met.view met.other met.kept met.own)

pub meet-requires-else-i-j : goal.meet-requires-else-i-j
meet-requires-else-i-j c =
    let old : List Session = c.args.list.now.items in
    let split = c.split_at_mut-front-else-i-j.ensures in
    let x = c.index-back-0-else-i-j.result in
    let y = c.index-front-j.result in
    let after : c.args.j < c.args.i = (let no = c.if-i-j.false in omega (arith, no, c.requires.apart)) in
    record {
      own = (
        subst (IsOf c.args.engine.now) (sym (in_back c.deref_mut-else-i-j.result.now old c.split_at_mut-front-else-i-j.result.1.now c.args.i x c.deref_mut-else-i-j.ensures.value split.back
            c.requires.first x)) (c.requires.own x).0,
        subst (IsOf c.args.engine.now) (sym (in_front c.deref_mut-else-i-j.result.now old c.split_at_mut-front-else-i-j.result.0.now c.args.j c.args.i y c.deref_mut-else-i-j.ensures.value
            split.front after c.requires.first y)) (c.requires.own y).1,
      );
    }

pub returns-else-i-j-clause-backed : goal.returns-else-i-j-clause-backed
returns-else-i-j-clause-backed c =
    let old : List Session = c.args.list.now.items in
    let split = c.split_at_mut-front-else-i-j.ensures in
    let is = c.deref_mut-else-i-j.ensures.value in
    let whole : List Session = c.deref_mut-else-i-j.result.now in
    let fs : List Session = c.split_at_mut-front-else-i-j.result.0.now in
    let bs : List Session = c.split_at_mut-front-else-i-j.result.1.now in
    let after : c.args.j < c.args.i = (let no = c.if-i-j.false in omega (arith, no, c.requires.apart)) in
    have_backed c.args.engine.now c.args.i c.args.j old (get_or bs 0 c.index-back-0-else-i-j.result) (get_or fs c.args.j c.index-front-j.result)
    (in_back whole old bs c.args.i c.index-back-0-else-i-j.result is split.back c.requires.first)
    (in_front whole old fs c.args.j c.args.i c.index-front-j.result is split.front after c.requires.first) c.meet-else-i-j.ensures.backed

pub returns-else-i-j-clause-met : goal.returns-else-i-j-clause-met
returns-else-i-j-clause-met c =
    let e = c.args.engine.now in
    let i : ℕ = c.args.i in
    let j : ℕ = c.args.j in
    let old : List Session = c.args.list.now.items in
    let whole : List Session = c.deref_mut-else-i-j.result.now in
    let is : whole ≡ old = c.deref_mut-else-i-j.ensures.value in
    let split = c.split_at_mut-front-else-i-j.ensures in
    let fs : List Session = c.split_at_mut-front-else-i-j.result.0.now in
    let bs : List Session = c.split_at_mut-front-else-i-j.result.1.now in
    let after : j < i = (let no = c.if-i-j.false in omega (arith, no, c.requires.apart)) in
    let s : Session = c.meet-else-i-j.new.self in
    let t : Session = c.meet-else-i-j.new.other in
    let met = c.meet-else-i-j.ensures in
    subst (HaveMet e i j old)
    (sym (joined_parts c.args.list.now.len j i old fs bs t s after (sym c.deref_mut-else-i-j.ensures.len ∙ ap (λ (l : List Session). length l) is)
    (split.front ∙ ap (λ (l : List Session). take i l) is) (split.back ∙ ap (λ (l : List Session). drop i l) is)))
    (have_met e i j old (set (set old j t) i s) (get_or bs 0 c.index-back-0-else-i-j.result) (get_or fs j c.index-front-j.result) s t
    (put_other i j old (set (set old j t) i s) s t (put_later j i old t s after c.requires.first))
    (in_back whole old bs i c.index-back-0-else-i-j.result is split.back c.requires.first)
    (in_front whole old fs j i c.index-front-j.result is split.front after c.requires.first) met.view met.other met.kept met.own)
