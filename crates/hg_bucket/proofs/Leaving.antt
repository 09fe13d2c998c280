-- A record leaves its list, or enters it and leaves again.
use Rattle.std.proofs.Common.{◌-◌, length-append, set, ◌≡◌, ℕ, ◌<◌, List, [], ◌∷◌, ◌++◌, length, take, slice_get, Bool, true, false, Some, None, refl, sym, ap, ◌∙◌}
use Rattle.std.proofs.Common.{subst, arith}
use Rattle.std.specs.Prelude.{◌≢◌, ◌==◌, IsFalse, slice_index_or}
use Rattle.std.specs.Bool.{OnTrue, OnFalse}
use Rattle.std.specs.List.{swap_remove}
use Rattle.std.proofs.lemmas.Bool.Decides.{nat_tests}
use Rattle.std.proofs.lemmas.List.{take-take}
use Rattle.std.proofs.lemmas.Option.{none-some, same_Some}
use Rattle.hg_base.specs.declared.rid.Rid.{Rid}
use Rattle.hg_base.specs.History.{same_rid}
use Rattle.hg_chains.specs.Places.{Places, list_at, OthersStay as ListsStay}
use Rattle.hg_space.specs.Index.{place_of, IsIndex}
use Rattle.hg_space.specs.declared.roster.Listed.{Listed}
use Rattle.hg_space.specs.Rosters.{list_of, Has}
use Rattle.hg_space.proofs.Leaving.{front_stays}
use Rattle.hg_space.proofs.Entering.{get_last}
use Rattle.hg_bucket.specs.Parts.{listed, IsListed, AreListed, Enters, Leaves}
use Rattle.hg_bucket.proofs.Reading.{alike}
use Rattle.hg_bucket.proofs.Listing.{same_records, chain_stays}

-- ---- one leaves

pub left_lists : (es : List (Rid × ℕ)) (cs ds : Places) (ls ms : List (List Listed)) (r : Rid) (p : ℕ) → IsIndex es → AreListed es cs ls → place_of es r ≡ Some p →
    length (list_at ds p) ≡ 0 → ListsStay p cs ds → Leaves ls ms r p → AreListed es ds ms
left_lists es cs ds ls ms r p index old has bare stay h q n = (λ k. into (q.table.0 == r.table.0) refl k, λ k. out k (q.table.0 == r.table.0) refl)
  where
    there : Has (list_of ls q.table.0) (listed q n) → n ≢ p → (place_of es q ≡ Some n) × (0 < length (list_at ds n))
    there k other = let was = (old q n).0 k in (was.0, subst (λ vs. 0 < length vs) (sym (stay n other)) was.1)

    into : (b : Bool) → (q.table.0 == r.table.0) ≡ b → IsListed ms q n → (place_of es q ≡ Some n) × (0 < length (list_at ds n))
    into true e k =
        let at : q.table.0 ≡ r.table.0 = grind (arith, nat_tests, e) in
        let was = (h.stay (listed q n)).0 (subst (λ t. Has (list_of ms t) (listed q n)) at k) in
        there (subst (λ t. Has (list_of ls t) (listed q n)) (sym at) was.0) was.1
    into false e k =
        let other : q.table.0 ≡ r.table.0 → ⊥ = λ at. grind (arith, nat_tests, e, at) in
        let was = subst (λ xs. Has xs (listed q n)) (h.others q.table.0 other) k in
        there was (λ at. other (ap (λ (x : Rid). x.table.0) (same_records es q r p index (((old q n).0 was).0 ∙ ap Some at) has)))

    out : (place_of es q ≡ Some n) × (0 < length (list_at ds n)) → (b : Bool) → (q.table.0 == r.table.0) ≡ b → IsListed ms q n
    out k b e = by b e ((old q n).1 (k.0, subst (λ vs. 0 < length vs) (stay n other) k.1))
      where
        other : n ≢ p
        other at = let none : length (list_at ds n) ≡ 0 = ap (λ m. length (list_at ds m)) at ∙ bare in let long = k.1 in omega (arith, long, none)

        by : (b : Bool) → (q.table.0 == r.table.0) ≡ b → IsListed ls q n → IsListed ms q n
        by true e was =
            let at : q.table.0 ≡ r.table.0 = grind (arith, nat_tests, e) in
            subst (λ t. Has (list_of ms t) (listed q n)) (sym at) ((h.stay (listed q n)).1 (subst (λ t. Has (list_of ls t) (listed q n)) at was, other))
        by false e was = subst (λ xs. Has xs (listed q n)) (sym (h.others q.table.0 (λ at. grind (arith, nat_tests, e, at)))) was

-- where its chain is empty, or else nothing
pub may_leave : (es : List (Rid × ℕ)) (cs ds : Places) (ls ms : List (List Listed)) (r : Rid) (p : ℕ) → IsIndex es → AreListed es cs ls → place_of es r ≡ Some p →
    0 < length (list_at cs p) → ListsStay p cs ds → OnTrue (length (list_at ds p) == 0) (Leaves ls ms r p) → OnFalse (length (list_at ds p) == 0) (ms ≡ ls) → AreListed es ds ms
may_leave es cs ds ls ms r p index old has was stay leaves listed = go (length (list_at ds p) == 0) refl leaves listed
  where
    go : (b : Bool) → (length (list_at ds p) == 0) ≡ b → OnTrue b (Leaves ls ms r p) → OnFalse b (ms ≡ ls) → AreListed es ds ms
    go true e h k = left_lists es cs ds ls ms r p index old has (grind (arith, nat_tests, e)) stay h
    go false e h k = subst (AreListed es ds) (sym k) (chain_stays es cs ds ls p old stay was (grind (arith, nat_tests, e)))

-- a record without a chain leaves the index
pub unnamed_lists : (es fs : List (Rid × ℕ)) (cs : Places) (ls : List (List Listed)) (r : Rid) (p : ℕ) → AreListed es cs ls → place_of es r ≡ Some p → length (list_at cs p) ≡ 0 →
    place_of fs r ≡ None → ((q : Rid) → IsFalse (same_rid r q) → place_of fs q ≡ place_of es q) → AreListed fs cs ls
unnamed_lists es fs cs ls r p old has bare gone others q n = (λ k. into ((old q n).0 k) (same_rid r q) refl, λ k. (old q n).1 (was k.0 (same_rid r q) refl, k.1))
  where
    into : (place_of es q ≡ Some n) × (0 < length (list_at cs n)) → (b : Bool) → same_rid r q ≡ b → (place_of fs q ≡ Some n) × (0 < length (list_at cs n))
    into k false e = (others q e ∙ k.0, k.1)
    into k true e =
        let at : n ≡ p = same_Some n p (sym k.0 ∙ alike es r q e ∙ has) in
        let none : length (list_at cs n) ≡ 0 = ap (λ m. length (list_at cs m)) at ∙ bare in
        let long = k.1 in
        absurd (omega (arith, long, none))

    was : place_of fs q ≡ Some n → (b : Bool) → same_rid r q ≡ b → place_of es q ≡ Some n
    was k false e = sym (others q e) ∙ k
    was k true e = absurd (none-some n (sym gone ∙ sym (alike fs r q e) ∙ k))

-- ---- one that has entered leaves again

get_ends : {X : Type 0} (xs : List X) (x : X) → take (length xs) (xs ++ x ∷ []) ≡ xs
get_ends [] x = refl
get_ends (y ∷ xs) x = ap (λ ys. y ∷ ys) (get_ends xs x)

swapped_last : {X : Type 0} (xs : List X) (x : X) → swap_remove (xs ++ x ∷ []) (length xs) x ≡ xs
swapped_last {X} xs x =
    let long = length-append xs (x ∷ []) in
    let less : length (xs ++ x ∷ []) - 1 ≡ length xs = omega (arith, long) in
    ap (λ n. take n moved) less
    ∙ sym (take-take (length xs) (length (xs ++ x ∷ []) - 1) moved (omega (arith, less)))
    ∙ front_stays (xs ++ x ∷ []) (length xs) x (omega (arith, long))
    ∙ get_ends xs x
  where
    moved : List X
    moved = set (xs ++ x ∷ []) (length xs) (slice_index_or (xs ++ x ∷ []) (length (xs ++ x ∷ []) - 1) x)

pub left_again : (ls ms bs : List (List Listed)) (r : Rid) (p : ℕ) → Enters ls ms r p
    → ((at : ℕ) (e : Listed) → slice_get (list_of ms r.table.0) at ≡ Some e → e.place ≡ p → list_of bs r.table.0 ≡ swap_remove (list_of ms r.table.0) at e)
    → ((t : ℕ) → (t ≡ r.table.0 → ⊥) → list_of bs t ≡ list_of ms t)
    → (t : ℕ) → list_of bs t ≡ list_of ls t
left_again ls ms bs r p h moved others t = go (t == r.table.0) refl
  where
    xs : List Listed
    xs = list_of ls r.table.0

    here : list_of bs r.table.0 ≡ list_of ls r.table.0
    here = moved (length xs) (listed r p) (ap (λ ys. slice_get ys (length xs)) h.last ∙ get_last xs (listed r p)) refl ∙ ap (λ ys. swap_remove ys (length xs) (listed r p)) h.last ∙
        swapped_last xs (listed r p)

    go : (b : Bool) → (t == r.table.0) ≡ b → list_of bs t ≡ list_of ls t
    go true k = let at : t ≡ r.table.0 = grind (arith, nat_tests, k) in subst (λ n. list_of bs n ≡ list_of ls n) (sym at) here
    go false k = let apart : t ≡ r.table.0 → ⊥ = λ at. grind (arith, nat_tests, k, at) in others t apart ∙ h.others t apart
