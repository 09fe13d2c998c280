-- One more table, which its name leads to.
use Rattle.std.proofs.Common.{◌≡◌, ◌+◌, ◌∙◌, ℕ, Bool, true, false, cond, List, [], ◌∷◌, ◌++◌, length, position, Option, Some, None, option_map, inl, inr, bytes_eq, refl, sym, ap, subst, arith}
use Rattle.std.specs.Prelude.{Vec}
use Rattle.std.specs.BTreeMap.{BTreeMap, Updates}
use Rattle.std.specs.Cmp.{eq_by_cmp_equiv}
use Rattle.std.specs.Cmp.Lexicographic.{bytes_decides, nat_list_cmp_total, nat_list_eq_equiv, slice_cmp}
use Rattle.std.specs.List.{position_from}
use Rattle.std.specs.Map.{KeepsOthers}
use Rattle.std.specs.Ordering.{is_eq, nat_cmp}
use Rattle.std.proofs.lemmas.Bool.{cases_Bool}
use Rattle.std.proofs.lemmas.Iterator.Adapters.{position_from-zero}
use Rattle.std.proofs.lemmas.Map.Text.{is_eq-slice_cmp}
use Rattle.hg_base.specs.declared.rid.TableId.{TableId}
use Rattle.hg_base.specs.Script.{Declaration}
use Rattle.hg_script.specs.Fields.{Field}
use Rattle.hg_script.specs.Draft.{has_name, table_at, table_named}
use Rattle.hg_script.specs.Places.{ArePlaces, place_of}

-- ---- the first place in a list with one item more

more_fails : {X : Type 0} (P : X → Bool) (i : ℕ) (xs : List X) (d : X) → P d ≡ false → position_from P i (xs ++ d ∷ []) ≡ position_from P i xs
more_fails P i [] d fails = rw fails refl
more_fails P i (x ∷ xs) d fails = ap (λ o. cond (P x) (Some i) o) (more_fails P (i + 1) xs d fails)

by_first : (b : Bool) (i n : ℕ) (rest more : Option ℕ) → cond b (Some i) rest ≡ None → (rest ≡ None → more ≡ Some n) → cond b (Some i) more ≡ Some n
by_first true i n rest more e next = absurd (let bad : ⊥ = cc e in bad)
by_first false i n rest more e next = next e

more_passes : {X : Type 0} (P : X → Bool) (i : ℕ) (xs : List X) (d : X) → position_from P i xs ≡ None → P d ≡ true → position_from P i (xs ++ d ∷ []) ≡ Some (i + length xs)
more_passes P i [] d none passes = rw passes (ap Some (omega arith))
more_passes P i (x ∷ xs) d none passes =
    by_first (P x) i (i + length (x ∷ xs)) (position_from P (i + 1) xs) (position_from P (i + 1) (xs ++ d ∷ [])) none (λ e. more_passes P (i + 1) xs d e passes ∙ ap Some (omega arith))

is_first : {X : Type 0} (P : X → Bool) (xs : List X) → position P xs ≡ position_from P 0 xs
is_first P xs = position_from-zero P xs

-- ---- the table of a name

no_place : (place : Option ℕ) → option_map table_at place ≡ None → place ≡ None
no_place None e = refl
no_place (Some i) e = absurd (let bad : ⊥ = cc e in bad)

other_name : (tables : List Declaration) (d : Declaration) (name : Field) → bytes_eq d.name name ≡ false → table_named (tables ++ d ∷ []) name ≡ table_named tables name
other_name tables d name fails =
    ap (option_map table_at) (is_first (has_name name) (tables ++ d ∷ []) ∙ more_fails (has_name name) 0 tables d fails ∙ sym (is_first (has_name name) tables))

own_name : (tables : List Declaration) (d : Declaration) (name : Field) → table_named tables name ≡ None → bytes_eq d.name name ≡ true
    → table_named (tables ++ d ∷ []) name ≡ Some (table_at (length tables))
own_name tables d name fresh passes =
    let none = sym (is_first (has_name name) tables) ∙ no_place (position (has_name name) tables) fresh in
    ap (option_map table_at) (is_first (has_name name) (tables ++ d ∷ []) ∙ more_passes (has_name name) 0 tables d none passes ∙ ap Some (omega arith))

-- ---- the map

module _ {Y : Type 0} where
  apart : (name other : Field) (k : Vec ℕ Y) → bytes_eq name other ≡ false → is_eq (slice_cmp nat_cmp name k.items) ≡ true → is_eq (slice_cmp nat_cmp other k.items) ≡ false
  apart name other k fails passes =
      is_eq-slice_cmp other k.items ∙ nat_list_eq_equiv.symm other k.items ∙ sym (nat_list_eq_equiv.congr name k.items other (sym (is_eq-slice_cmp name k.items) ∙ passes)) ∙ fails

  stays : (old new : BTreeMap (Vec ℕ Y) TableId) (key : Vec ℕ Y) (table : TableId) (name : Field) → Updates (λ x y. slice_cmp nat_cmp x.items y.items) old new key (Some table)
      → bytes_eq key.items name ≡ false → place_of new name ≡ place_of old name
  unfolding KeepsOthers
  stays old new key table name h fails = h.3 _ (λ x y. (eq_by_cmp_equiv nat_list_cmp_total).congr name x.items y.items) (λ k. apart key.items name k fails)

  -- a table by a new name goes behind the others, and its name leads there
  pub places_more : (old new : BTreeMap (Vec ℕ Y) TableId) (tables : List Declaration) (d : Declaration) (key : Vec ℕ Y) (place : ℕ) → ArePlaces old tables → table_named tables d.name ≡ None
      → key.items ≡ d.name → place ≡ length tables → Updates (λ x y. slice_cmp nat_cmp x.items y.items) old new key (Some (table_at place)) → ArePlaces new (tables ++ d ∷ [])
  places_more old new tables d key place places fresh same at h = λ name. elim (cases_Bool (bytes_eq d.name name)) [
    | inl passes ↦
        let is : d.name ≡ name = (bytes_decides d.name name).0 passes in
        let here : place_of new name ≡ Some (table_at place) = subst (λ n. place_of new n ≡ Some (table_at place)) (same ∙ is) h.1 in
        here ∙ ap (λ n. Some (table_at n)) at ∙ sym (own_name tables d name (subst (λ n. table_named tables n ≡ None) is fresh) passes)
    | inr fails ↦ stays old new key _ name h (rw same fails) ∙ places name ∙ sym (other_name tables d name fails)
  ]
