-- Parts that came in after the first leave again, the last one first.
use Rattle.std.proofs.Common.{◌≡◌, ◌<◌, ℕ, suc, List, [], ◌∷◌, ◌++◌, length, refl, ap, ◌∙◌, sym, subst, arith}
use Rattle.hg_rule.specs.declared.view.Part.{Part}
use Rattle.hg_rule.specs.declared.view.Part.TheVariants.{OfPass}
use Rattle.hg_rule.specs.declared.view.View.{View}
use Rattle.hg_rule.specs.Moves.{put_in, joined, meeting, left_bare, but_second, second_of, left_but_second, right_second}
use Rattle.hg_rule.specs.Sharing.{HasOnlyPass}
use Rattle.hg_rule.specs.Views.{part_number, pass_there, first_in, after_first, seeing, HasPass}

back_parts : (ps qs : List Part) → 0 < length ps → length qs ≡ 1 → but_second (put_in ps qs) ≡ ps
back_parts [] qs l e = absurd (omega arith)
back_parts (p ∷ ps) [] l e = absurd (omega arith)
back_parts (p ∷ ps) (q ∷ []) l e = refl
back_parts (p ∷ ps) (q ∷ r ∷ qs) l e = absurd (let n : ℕ = length qs in let f : suc (suc n) ≡ 1 = e in omega arith)

second_parts : (ps qs : List Part) → 0 < length ps → length qs ≡ 1 → second_of (put_in ps qs) ≡ qs
second_parts [] qs l e = absurd (omega arith)
second_parts (p ∷ ps) [] l e = absurd (omega arith)
second_parts (p ∷ ps) (q ∷ []) l e = refl
second_parts (p ∷ ps) (q ∷ r ∷ qs) l e = absurd (let n : ℕ = length qs in let f : suc (suc n) ≡ 1 = e in omega arith)

-- u has the parts of v, and that of w after the first
pub left_as : (v w u : View) → 0 < length v.parts → length w.parts ≡ 1 → u.parts ≡ put_in v.parts w.parts → left_but_second u ≡ seeing v.parts u.sights u.events
left_as v w u some one is = ap (λ (ps : List Part). seeing ps u.sights u.events) (ap but_second is ∙ back_parts v.parts w.parts some one)

pub back_as : (v w u x : View) → 0 < length v.parts → length w.parts ≡ 1 → u.parts ≡ put_in v.parts w.parts → x ≡ left_bare w → joined x (right_second u) ≡ seeing w.parts (w.sights ++ u.sights) w.events
back_as v w u x some one is bare = ap (λ (y : View). joined y (right_second u)) bare
    ∙ ap (λ (ps : List Part). seeing ps (w.sights ++ u.sights) w.events) (ap second_of is ∙ second_parts v.parts w.parts some one)

some_put : (ps qs : List Part) → 0 < length ps → 0 < length (put_in ps qs)
some_put [] qs l = absurd (omega arith)
some_put (p ∷ ps) qs l = omega arith

-- what four know together, and what each has seen afterwards
pub record HaveMetThree (v a b d all z x y w : View) : Type 0 where
  pub all_is : all ≡ joined (joined (joined v a) b) d
  pub view : z ≡ meeting (meeting (meeting v a) b) d
  pub first : x ≡ meeting a z
  pub second : y ≡ meeting b z
  pub third : w ≡ meeting d z

pub have_met : (v a b d u1 u2 u3 all p q z a1 b1 d1 x y w : View) → 0 < length v.parts → length a.parts ≡ 1 → length b.parts ≡ 1 → length d.parts ≡ 1 →
    u1 ≡ joined v a → a1 ≡ left_bare a → u2 ≡ joined u1 b → b1 ≡ left_bare b → u3 ≡ joined u2 d → d1 ≡ left_bare d → all ≡ u3 →
    p ≡ left_but_second all → w ≡ joined d1 (right_second all) → q ≡ left_but_second p → y ≡ joined b1 (right_second p) → z ≡ left_but_second q → x ≡ joined a1 (right_second q) →
    HaveMetThree v a b d all z x y w
have_met v a b d u1 u2 u3 all p q z a1 b1 d1 x y w some one_a one_b one_d j1 ba j2 bb j3 bd same g1 e1 g2 e2 g3 e3 =
    record { all_is = whole; view = back; first = e3 ∙ third_back ∙ ap (meeting a) (sym back); second = e2 ∙ second_back ∙ ap (meeting b) (sym back); third = e1 ∙ first_back ∙ ap (meeting d) (sym back) }
  where
    two : View
    two = joined v a

    three : View
    three = joined two b

    four : View
    four = joined three d

    left_three : View
    left_three = seeing three.parts four.sights v.events

    left_two : View
    left_two = seeing two.parts four.sights v.events

    some_two : 0 < length two.parts
    some_two = some_put v.parts a.parts some

    some_three : 0 < length three.parts
    some_three = some_put two.parts b.parts some_two

    whole : all ≡ four
    whole = same ∙ j3 ∙ ap (λ (u : View). joined u d) (j2 ∙ ap (λ (u : View). joined u b) j1)

    p_is : p ≡ left_three
    p_is = g1 ∙ ap left_but_second whole ∙ left_as three d four some_three one_d refl

    q_is : q ≡ left_two
    q_is = g2 ∙ ap left_but_second p_is ∙ left_as two b left_three some_two one_b refl

    back : z ≡ meeting (meeting (meeting v a) b) d
    back = g3 ∙ ap left_but_second q_is ∙ left_as v a left_two some one_a refl

    first_back : joined d1 (right_second all) ≡ meeting d (meeting (meeting (meeting v a) b) d)
    first_back = ap (λ (u : View). joined d1 (right_second u)) whole ∙ back_as three d four d1 some_three one_d refl bd

    second_back : joined b1 (right_second p) ≡ meeting b (meeting (meeting (meeting v a) b) d)
    second_back = ap (λ (u : View). joined b1 (right_second u)) p_is ∙ back_as two b left_three b1 some_two one_b refl bb

    third_back : joined a1 (right_second q) ≡ meeting a (meeting (meeting (meeting v a) b) d)
    third_back = ap (λ (u : View). joined a1 (right_second u)) q_is ∙ back_as v a left_two a1 some one_a refl ba

-- a pass's view with other sights has its part still
pub still_pass : (v w z : View) → HasOnlyPass v → w ≡ meeting v z → HasPass w
still_pass v w z only is = subst (λ (u : View). HasPass u) (sym is) (subst (λ (ps : List Part). ps ≡ OfPass (part_number ps) (pass_there (first_in ps)) ∷ after_first ps) (sym only) refl)
