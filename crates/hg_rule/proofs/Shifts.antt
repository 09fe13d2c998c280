-- Each move of a seat is allowed.
use Rattle.std.proofs.Common.{◌≡◌, ℕ, suc, ◌+◌, ◌<◌, List, [], ◌∷◌, ◌++◌, length, refl, sym, ap, ◌∙◌, arith}
use Rattle.hg_base.specs.Lists.{Each}
use Rattle.atomic_table.specs.Table.{Splits, Joins}
use Rattle.hg_core.specs.State.{CoreState}
use Rattle.hg_rule.specs.declared.view.Part.{Part}
use Rattle.hg_rule.specs.declared.view.Event.{Event}
use Rattle.hg_rule.specs.declared.view.View.{View}
use Rattle.hg_rule.specs.declared.view.Sizes.{Sizes}
use Rattle.hg_rule.specs.Keys.{Key, has, one, count, share_of, shares}
use Rattle.hg_rule.specs.Facts.{Shown, Known, Stands}
use Rattle.hg_rule.specs.Rules.{IsTrueOf, Rule}
use Rattle.hg_rule.specs.Views.{seeing, after_first}
use Rattle.hg_rule.specs.Moves.{put_in, joined, did, merged, spent, meeting, left_bare, right_given, first_of, second_of, but_second, left_but_second, right_second, left_tail, right_first}
use Rattle.hg_rule.proofs.Counts.{count_append, shares_append}
use Rattle.hg_rule.proofs.Lists.{each_append}
use Rattle.hg_rule.proofs.Keeps.{may_split, may_join}

-- ---- joins

pub put_in_count : (k : Key) (ps qs : List Part) → count k (put_in ps qs) + 0 ≡ count k ps + count k qs
put_in_count k [] qs = let a : ℕ = count k qs in omega arith
put_in_count k (p ∷ ps) qs = let a : ℕ = one (has k p) in let b : ℕ = count k (qs ++ ps) in let c : ℕ = count k ps in let d : ℕ = count k qs in let h : b ≡ d + c = count_append k qs ps in omega arith

pub put_in_shares : (ps qs : List Part) → shares (put_in ps qs) + 0 ≡ shares ps + shares qs
put_in_shares [] qs = let a : ℕ = shares qs in omega arith
put_in_shares (p ∷ ps) qs = let a : ℕ = share_of p in let b : ℕ = shares (qs ++ ps) in let c : ℕ = shares ps in let d : ℕ = shares qs in let h : b ≡ d + c = shares_append qs ps in omega arith

pub put_in_each : (P : Part → Type 0) (ps qs : List Part) → Each P ps → Each P qs → Each P (put_in ps qs)
put_in_each P [] qs a b = b
put_in_each P (p ∷ ps) qs a b = (a.0, each_append P qs ps b a.1)

nothing_true : (s : CoreState) → IsTrueOf s spent
nothing_true s = record { parts = tt; sights = tt; events = tt }

pub joins : (z : Sizes) (id : ℕ) (v : View) (other : ℕ) (w : View) → Joins (Rule z) id v other w (joined v w) spent
joins z id v other w = may_join z id v other w (joined v w) spent record {
  counts = λ k. put_in_count k v.parts w.parts;
  shared = put_in_shares v.parts w.parts;
  left = λ s a b. record { parts = put_in_each (Shown s) v.parts w.parts a.parts b.parts; sights = each_append (Known s) v.sights w.sights a.sights b.sights; events = a.events };
  right = λ s a b. nothing_true s;
}

did_each : (s : CoreState) (es : List Event) → Each (Stands s) es → Each (Known s) (did es)
did_each s [] h = tt
did_each s (e ∷ es) h = (h.0, did_each s es h.1)

pub merges : (z : Sizes) (id : ℕ) (v : View) (other : ℕ) (w : View) → Joins (Rule z) id v other w (merged v w) spent
merges z id v other w = may_join z id v other w (merged v w) spent record {
  counts = λ k. put_in_count k v.parts w.parts;
  shared = put_in_shares v.parts w.parts;
  left = λ s a b. record {
    parts = put_in_each (Shown s) v.parts w.parts a.parts b.parts;
    sights = each_append (Known s) v.sights (w.sights ++ did w.events) a.sights (each_append (Known s) w.sights (did w.events) b.sights (did_each s w.events b.events));
    events = a.events;
  };
  right = λ s a b. nothing_true s;
}

-- ---- splits

pub gives_all : (z : Sizes) (id : ℕ) (v : View) → Splits (Rule z) id v (left_bare v) (right_given v)
gives_all z id v = may_split z id v (left_bare v) (right_given v) record {
  counts = λ k. let a : ℕ = count k v.parts in omega arith;
  shared = let a : ℕ = shares v.parts in omega arith;
  left = λ s h. record { parts = tt; sights = h.sights; events = h.events };
  right = λ s h. record { parts = h.parts; sights = h.sights; events = tt };
}

first_count : (k : Key) (ps : List Part) → count k (after_first ps) + count k (first_of ps) ≡ count k ps
first_count k [] = refl
first_count k (p ∷ ps) = let a : ℕ = one (has k p) in let b : ℕ = count k ps in omega arith

first_shares : (ps : List Part) → shares (after_first ps) + shares (first_of ps) ≡ shares ps
first_shares [] = refl
first_shares (p ∷ ps) = let a : ℕ = share_of p in let b : ℕ = shares ps in omega arith

first_each : (P : Part → Type 0) (ps : List Part) → Each P ps → Each P (after_first ps) × Each P (first_of ps)
first_each P [] e = (tt, tt)
first_each P (p ∷ ps) e = (e.1, (e.0, tt))

pub deals : (z : Sizes) (id : ℕ) (v : View) → Splits (Rule z) id v (left_tail v) (right_first v)
deals z id v = may_split z id v (left_tail v) (right_first v) record {
  counts = λ k. first_count k v.parts;
  shared = first_shares v.parts;
  left = λ s h. record { parts = (first_each (Shown s) v.parts h.parts).0; sights = h.sights; events = h.events };
  right = λ s h. record { parts = (first_each (Shown s) v.parts h.parts).1; sights = h.sights; events = tt };
}

pub second_count : (k : Key) (ps : List Part) → count k (but_second ps) + count k (second_of ps) ≡ count k ps
second_count k [] = refl
second_count k (p ∷ ps) = let a : ℕ = one (has k p) in let b : ℕ = count k ps in let x : ℕ = count k (after_first ps) in let y : ℕ = count k (first_of ps) in
    let e : x + y ≡ b = first_count k ps in omega arith

pub second_shares : (ps : List Part) → shares (but_second ps) + shares (second_of ps) ≡ shares ps
second_shares [] = refl
second_shares (p ∷ ps) = let a : ℕ = share_of p in let b : ℕ = shares ps in let x : ℕ = shares (after_first ps) in let y : ℕ = shares (first_of ps) in
    let e : x + y ≡ b = first_shares ps in omega arith

pub second_each : (P : Part → Type 0) (ps : List Part) → Each P ps → Each P (but_second ps) × Each P (second_of ps)
second_each P [] e = (tt, tt)
second_each P (p ∷ ps) e = let r = first_each P ps e.1 in ((e.0, r.0), r.1)

pub gives_second : (z : Sizes) (id : ℕ) (v : View) → Splits (Rule z) id v (left_but_second v) (right_second v)
gives_second z id v = may_split z id v (left_but_second v) (right_second v) record {
  counts = λ k. second_count k v.parts;
  shared = second_shares v.parts;
  left = λ s h. record { parts = (second_each (Shown s) v.parts h.parts).0; sights = h.sights; events = h.events };
  right = λ s h. record { parts = (second_each (Shown s) v.parts h.parts).1; sights = h.sights; events = tt };
}

-- ---- what came in behind the first leaves again

back_parts : (ps qs : List Part) → 0 < length ps → length qs ≡ 1 → but_second (put_in ps qs) ≡ ps
back_parts [] qs l e = absurd (omega arith)
back_parts (p ∷ ps) [] l e = absurd (omega arith)
back_parts (p ∷ ps) (q ∷ []) l e = refl
back_parts (p ∷ ps) (q ∷ r ∷ qs) l e = absurd (let n : ℕ = length qs in let f : suc (suc n) ≡ 1 = e in omega arith)

second_parts : (ps qs : List Part) → 0 < length ps → length qs ≡ 1 → second_of (put_in ps qs) ≡ qs
second_parts [] qs l e = absurd (omega arith)
second_parts (p ∷ ps) [] l e = absurd (omega arith)
second_parts (p ∷ ps) (q ∷ []) l e = refl
second_parts (p ∷ ps) (q ∷ r ∷ qs) l e = absurd (let n : ℕ = length qs in let f : suc (suc n) ≡ 1 = e in omega arith)

pub back_left : (v w u : View) → 0 < length v.parts → length w.parts ≡ 1 → u ≡ joined v w → left_but_second u ≡ meeting v w
back_left v w u l e is = ap left_but_second is ∙ ap (λ (ps : List Part). seeing ps (v.sights ++ w.sights) v.events) (back_parts v.parts w.parts l e)

pub back_right : (v w u t : View) → 0 < length v.parts → length w.parts ≡ 1 → u ≡ joined v w → t ≡ meeting v w → joined (left_bare w) (right_second u) ≡ meeting w t
back_right v w u t l e is left = ap (λ (x : View). joined (left_bare w) (right_second x)) is ∙
    (ap (λ (ps : List Part). seeing ps (w.sights ++ (v.sights ++ w.sights)) w.events) (second_parts v.parts w.parts l e) ∙ ap (meeting w) (sym left))
