-- The rows of a snapshot, computed, are the only rows of the snapshot.
use Rattle.std.proofs.Common.{◌≡◌, ◌↔◌, ◌∙◌, ℕ, suc, List, [], ◌∷◌, filter, true, false, nat_le, Option, Some, None, refl, sym, ap, subst, inl, inr}
use Rattle.std.specs.Prelude.{Contains, IsTrue, filter_map}
use Rattle.std.specs.List.{flat_map, list_any}
use Rattle.std.proofs.lemmas.Bool.{false≢true, or_parts}
use Rattle.std.proofs.lemmas.List.Folds.{list_any-append}
use Rattle.hg_base.specs.declared.rid.Rid.{Rid}
use Rattle.hg_base.specs.declared.image.Image.{Image}
use Rattle.hg_base.specs.declared.value.Value.{Value}
use Rattle.hg_base.specs.Lists.{Each}
use Rattle.hg_base.specs.Script.{Declaration}
use Rattle.hg_base.specs.History.{Group, History, Write, group_image, group_rids, image_in, last_image, nothing, rids_of, same_rid, visible, writes_from}
use Rattle.hg_base.proofs.ListFacts.{cases}
use Rattle.hg_base.proofs.RidOrder.{same_back}
use Rattle.hg_dump.specs.Rows.{AreRowsAt, Kept, is_before, is_declared, kept_at, rids_written, rows_at}
use Rattle.hg_dump.proofs.Ordered.{AreSorted, IsSorted, ascending, contains_cases, contains_first, contains_later, contains_none, each_at, fold_has, fold_sorted, same_rows, sorted}

-- ---- what no group writes shows nothing

not_in : (r : Rid) (ws : List Write) → list_any (same_rid r) (rids_of ws) ≡ false → image_in r ws ≡ None
not_in r [] h = refl
not_in r (w ∷ ws) h =
    let parts = or_parts (same_rid r w.rid) (list_any (same_rid r) (rids_of ws)) h in
    rw (same_back w.rid r, parts.0) (not_in r ws parts.1)

not_in_group : (r : Rid) (group : Group) → list_any (same_rid r) (group_rids group) ≡ false → group_image r group ≡ None
not_in_group r [] h = refl
not_in_group r (c ∷ cs) h =
    let parts = or_parts _ _ (sym (list_any-append (same_rid r) (rids_of c.images) (group_rids cs)) ∙ h) in
    rw (not_in r c.images parts.0) (not_in_group r cs parts.1)

not_written : (n : ℕ) (h : History) (r : Rid) → list_any (same_rid r) (flat_map group_rids h) ≡ false → writes_from n h r ≡ []
not_written n [] r e = refl
not_written n (group ∷ groups) r e =
    let parts = or_parts _ _ (sym (list_any-append (same_rid r) (group_rids group) (flat_map group_rids groups)) ∙ e) in
    rw (not_in_group r group parts.0) (not_written (suc n) groups r parts.1)

shows_nothing : (h : History) (s : ℕ) (r : Rid) → list_any (same_rid r) (flat_map group_rids h) ≡ false → visible h r s ≡ nothing
shows_nothing h s r e = ap (λ ws. last_image (filter (λ (w : ℕ × Image). nat_le w.0 s) ws)) (not_written 1 h r e)

-- a record that shows a row is written
is_written : (h : History) (s : ℕ) (r : Rid) (row : List Value) → (visible h r s).row ≡ Some row → Contains (rids_written h) r
is_written h s r row shown = cases (list_any (same_rid r) (flat_map group_rids h))
    (λ e. fold_has [] (flat_map group_rids h) r e)
    (λ e. absurd (let none : None ≡ Some row = sym (ap (λ (i : Image). i.row) (shows_nothing h s r e)) ∙ shown in let bad : ⊥ = cc none in bad))

-- ---- the rows of records

module _ (tables : List Declaration) (h : History) (s : ℕ) where
  abbrev rows_of : List Rid → List Kept
  rows_of rids = filter_map (kept_at h s) (filter (is_declared tables) rids)

  abbrev IsShown : Kept → Type 0
  IsShown kept = IsTrue (is_declared tables kept.rid) × ((visible h kept.rid s).row ≡ Some kept.row)

  -- the row of the first record, if it is declared and shows one, and then those of the others
  rows_none : (r : Rid) (rs : List Rid) → is_declared tables r ≡ false → rows_of (r ∷ rs) ≡ rows_of rs
  rows_none r rs e = rw e refl

  rows_hidden : (r : Rid) (rs : List Rid) → is_declared tables r ≡ true → (visible h r s).row ≡ None → rows_of (r ∷ rs) ≡ rows_of rs
  rows_hidden r rs e f = rw (e, f) refl

  rows_shown : (r : Rid) (rs : List Rid) (row : List Value) → is_declared tables r ≡ true → (visible h r s).row ≡ Some row → rows_of (r ∷ rs) ≡ (record { rid = r; row = row }) ∷ rows_of rs
  rows_shown r rs row e f = rw (e, f) refl

  data Next (r : Rid) (rs : List Rid) : Type 0 where
    none : rows_of (r ∷ rs) ≡ rows_of rs → ((row : List Value) → is_declared tables r ≡ true → (visible h r s).row ≡ Some row → ⊥) → Next r rs
    some : (row : List Value) → is_declared tables r ≡ true → (visible h r s).row ≡ Some row → rows_of (r ∷ rs) ≡ (record { rid = r; row = row }) ∷ rows_of rs → Next r rs

  by_image : (r : Rid) (rs : List Rid) (o : Option (List Value)) → is_declared tables r ≡ true → (visible h r s).row ≡ o → Next r rs
  by_image r rs None e f = none (rows_hidden r rs e f) (λ row d shown. let bad : None ≡ Some row = sym f ∙ shown in let no : ⊥ = cc bad in no)
  by_image r rs (Some row) e f = some row e f (rows_shown r rs row e f)

  next : (r : Rid) (rs : List Rid) → Next r rs
  next r rs = cases (is_declared tables r)
      (λ e. by_image r rs (visible h r s).row e refl)
      (λ e. none (rows_none r rs e) (λ row d shown. false≢true (sym e ∙ d)))

  each_row : (P : Rid → Type 0) (rids : List Rid) → Each P rids → Each (λ kept. P kept.rid) (rows_of rids)
  each_row P [] p = tt
  each_row P (r ∷ rs) p = elim (next r rs) [
    | none is never ↦ rw is (each_row P rs p.1)
    | some row d shown is ↦ rw is (p.0, each_row P rs p.1)
  ]

  rows_sorted : (rids : List Rid) → IsSorted rids → AreSorted (rows_of rids)
  rows_sorted [] p = tt
  rows_sorted (r ∷ rs) p = elim (next r rs) [
    | none is never ↦ rw is (rows_sorted rs p.1)
    | some row d shown is ↦ rw is (each_row (λ q. is_before r q ≡ true) rs p.0, rows_sorted rs p.1)
  ]

  rows_are_shown : (rids : List Rid) → Each IsShown (rows_of rids)
  rows_are_shown [] = tt
  rows_are_shown (r ∷ rs) = elim (next r rs) [
    | none is never ↦ rw is (rows_are_shown rs)
    | some row d shown is ↦ rw is ((d, shown), rows_are_shown rs)
  ]

  same_kept : (kept : Kept) (r : Rid) (row : List Value) → r ≡ kept.rid → (visible h r s).row ≡ Some row → IsShown kept → (record { rid = r; row = row }) ≡ kept
  same_kept kept r row e shown k =
      let both : Some row ≡ Some kept.row = sym shown ∙ ap (λ q. (visible h q s).row) e ∙ k.1 in
      let same : row ≡ kept.row = cc both in
      rw (e, same) refl

  rows_have : (rids : List Rid) (kept : Kept) → Contains rids kept.rid → IsShown kept → Contains (rows_of rids) kept
  rows_have [] kept m k = absurd (contains_none kept.rid m)
  rows_have (r ∷ rs) kept m k = elim (next r rs) [
    | none is never ↦ rw is (elim (contains_cases r rs kept.rid m) [
      | inl same ↦ absurd (never kept.row (subst (λ q. is_declared tables q ≡ true) (sym same) k.0) (ap (λ q. (visible h q s).row) same ∙ k.1))
      | inr later ↦ rows_have rs kept later k
    ])
    | some row d shown is ↦ rw is (elim (contains_cases r rs kept.rid m) [
      | inl same ↦ subst (λ x. Contains ((record { rid = r; row = row }) ∷ rows_of rs) x) (same_kept kept r row same shown k) (contains_first _ (rows_of rs))
      | inr later ↦ contains_later _ (rows_of rs) kept (rows_have rs kept later k)
    ])
  ]

  pub are_rows : AreRowsAt tables h s (rows_at tables h s)
  unfolding rows_at
  are_rows = record {
    ascend = ascending (rows_of (rids_written h)) (rows_sorted (rids_written h) (fold_sorted [] (flat_map group_rids h) tt));
    each = rows_are_shown (rids_written h);
    every = λ kept declared shown. rows_have (rids_written h) kept (is_written h s kept.rid kept.row shown) (declared, shown);
  }

  -- two lists of the rows of a snapshot are the same
  pub only_rows : (xs ys : List Kept) → AreRowsAt tables h s xs → AreRowsAt tables h s ys → xs ≡ ys
  only_rows xs ys a b =
      same_rows xs ys (sorted xs a.ascend) (sorted ys b.ascend)
      (λ x m. let is = each_at IsShown xs x a.each m in b.every x is.0 is.1)
      (λ y m. let is = each_at IsShown ys y b.each m in a.every y is.0 is.1)

  pub is_the_list : (rows : List Kept) → AreRowsAt tables h s rows ↔ (rows ≡ rows_at tables h s)
  is_the_list rows = (λ a. only_rows rows (rows_at tables h s) a are_rows, λ e. subst (AreRowsAt tables h s) (sym e) are_rows)
