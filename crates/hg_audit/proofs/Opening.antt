-- The open transactions that a report has to tell, session by session.
use Rattle.std.proofs.Common.{◌≡◌, ℕ, zero, suc, ◌+◌, ◌-◌, ◌<◌, ◌≤◌, List, [], ◌∷◌, ◌++◌, length, map, take, drop, Option, Some, None, sym, ap, ◌∙◌, arith}
use Rattle.std.specs.Prelude.{filter_map}
use Rattle.std.specs.List.{cons_option}
use Rattle.std.proofs.lemmas.List.{map-append, append_cancel_left, length-append, append-nil}
use Rattle.std.proofs.lemmas.List.Elements.{filter_map-append}
use Rattle.hg_base.specs.declared.report.Told.{Told}
use Rattle.hg_base.specs.Lists.{numbers_from, greatest}
use Rattle.hg_base.specs.Transcript.{Said, open_of}
use Rattle.hg_base.specs.Freshness.{open_snapshot, open_snapshots}
use Rattle.hg_base.proofs.ListFacts.{numbers_from_snoc}
use Rattle.hg_known.proofs.Walking.{AtLine, take_all}

abbrev pub pairs : List Told → List (ℕ × ℕ)
pairs held = map (λ (t : Told). (t.session, t.number)) held

module _ (earlier : List Said) where
  -- the session with the snapshot of its open transaction
  abbrev pub open_at : ℕ → Option (ℕ × ℕ)
  open_at j = open_snapshot j (open_of j earlier)

  abbrev pub open_up_to : ℕ → List (ℕ × ℕ)
  open_up_to j = filter_map open_at (numbers_from 1 j)

  pub all_open : (most : ℕ) → most ≡ greatest (map (λ (s : Said). s.session) earlier) → open_up_to most ≡ open_snapshots earlier
  all_open most e = ap open_up_to e

  -- one session more
  pub open_next : (j : ℕ) → open_up_to (j + 1) ≡ open_up_to j ++ cons_option (open_at (j + 1)) []
  open_next j =
      let plus : j + 1 ≡ suc j = omega arith in
      let here : 1 + j ≡ j + 1 = omega arith in
      ap (λ n. filter_map open_at (numbers_from 1 n)) plus ∙ ap (filter_map open_at) (numbers_from_snoc 1 j) ∙ filter_map-append open_at (numbers_from 1 j) ((1 + j) ∷ [])
      ∙ ap (λ n. open_up_to j ++ cons_option (open_at n) []) here

  pub numbers_split : (n k many : ℕ) → numbers_from n (k + suc many) ≡ numbers_from n k ++ (n + k) ∷ numbers_from (suc (n + k)) many
  numbers_split n zero many =
      let a : zero + suc many ≡ suc many = omega arith in
      let b : n ≡ n + zero = omega arith in
      ap (numbers_from n) a ∙ ap (λ m. m ∷ numbers_from (suc m) many) b
  numbers_split n (suc k) many =
      let a : suc k + suc many ≡ suc (k + suc many) = omega arith in
      let b : suc n + k ≡ n + suc k = omega arith in
      ap (numbers_from n) a ∙ ap (λ xs. n ∷ xs) (numbers_split (suc n) k many ∙ ap (λ m. numbers_from (suc n) k ++ m ∷ numbers_from (suc m) many) b)

  pub open_split : (j most : ℕ) (q : ℕ × ℕ) → j < most → open_at (j + 1) ≡ Some q → (rest : List (ℕ × ℕ)) × (open_up_to most ≡ open_up_to j ++ q ∷ rest)
  open_split j most q less e =
      let many : most ≡ j + suc (most - j - 1) = omega (arith, less) in
      let here : 1 + j ≡ j + 1 = omega arith in
      let rest = filter_map open_at (numbers_from (suc (1 + j)) (most - j - 1)) in (
        rest,
        ap open_up_to many ∙ ap (filter_map open_at) (numbers_split 1 j (most - j - 1)) ∙ filter_map-append open_at (numbers_from 1 j) ((1 + j) ∷ numbers_from (suc (1 + j)) (most - j - 1))
            ∙ ap (λ o. open_up_to j ++ cons_option o rest) (ap open_at here ∙ e),
      )

-- ---- lists that cannot be equal

pub longer : (xs rest : List (ℕ × ℕ)) (q : ℕ × ℕ) → xs ≡ xs ++ q ∷ rest → ⊥
longer xs rest q e = let n : length xs ≡ length xs + suc (length rest) = ap length e ∙ length-append xs (q ∷ rest) in omega (arith, n)

pub heads : (xs ps qs : List (ℕ × ℕ)) (p q : ℕ × ℕ) → xs ++ p ∷ ps ≡ xs ++ q ∷ qs → p ≡ q
heads xs ps qs p q e = first p q ps qs (append_cancel_left xs (p ∷ ps) (q ∷ qs) e)
  where
    first : (p q : ℕ × ℕ) (ps qs : List (ℕ × ℕ)) → (p ∷ ps) ≡ (q ∷ qs) → p ≡ q
    first p q ps qs e = cc

-- ---- what is held so far

module _ (earlier : List Said) (held : List Told) where
  abbrev pub SameUpTo : ℕ → ℕ → Type 0
  SameUpTo told j = pairs (take told held) ≡ open_up_to earlier j

  pub same_none : (told j : ℕ) → open_at earlier (j + 1) ≡ None → SameUpTo told j → SameUpTo told (j + 1)
  same_none told j e same = same ∙ sym (open_next earlier j ∙ ap (λ o. open_up_to earlier j ++ cons_option o []) e ∙ append-nil (open_up_to earlier j))

  pub same_some : (told j : ℕ) (t : Told) → AtLine held told t → open_at earlier (j + 1) ≡ Some (t.session, t.number) → SameUpTo told j → SameUpTo (told + 1) (j + 1)
  same_some told j t at e same =
      ap pairs at.up_to ∙ map-append (λ (t : Told). (t.session, t.number)) (take told held) (t ∷ []) ∙ ap (λ ps. ps ++ (t.session, t.number) ∷ []) same
      ∙ sym (open_next earlier j ∙ ap (λ o. open_up_to earlier j ++ cons_option o []) e)

  pub held_split : (told j : ℕ) (t : Told) → AtLine held told t → SameUpTo told j → pairs held ≡ open_up_to earlier j ++ (t.session, t.number) ∷ pairs (drop (told + 1) held)
  held_split told j t at same = ap pairs at.all ∙ map-append (λ (t : Told). (t.session, t.number)) (take told held) (t ∷ drop (told + 1) held) ∙
      ap (λ ps. ps ++ (t.session, t.number) ∷ pairs (drop (told + 1) held)) same

  module _ (most : ℕ) (top : most ≡ greatest (map (λ (s : Said). s.session) earlier)) where
    -- a session is open, and nothing more is held
    pub too_short : (told j at : ℕ) → length held ≤ told → SameUpTo told j → j < most → open_at earlier (j + 1) ≡ Some (j + 1, at) → pairs held ≡ open_snapshots earlier → ⊥
    too_short told j at over same less e all =
        let split = open_split earlier j most (j + 1, at) less e in
        longer (open_up_to earlier j) split.0 (j + 1, at) (sym same ∙ ap pairs (take_all held told over) ∙ all ∙ sym (all_open earlier most top) ∙ split.1)

    -- another is held than is open
    pub another : (told j at : ℕ) (t : Told) → AtLine held told t → SameUpTo told j → j < most → open_at earlier (j + 1) ≡ Some (j + 1, at) → pairs held ≡ open_snapshots earlier →
        (t.session ≡ j + 1) × (t.number ≡ at)
    another told j at t here same less e all =
        let split = open_split earlier j most (j + 1, at) less e in
        let same_pair = heads (open_up_to earlier j) (pairs (drop (told + 1) held)) split.0 (t.session, t.number) (j + 1, at) (sym (held_split told j t here same) ∙ all ∙
        sym (all_open earlier most top) ∙ split.1) in
        (ap (λ (p : ℕ × ℕ). p.0) same_pair, ap (λ (p : ℕ × ℕ). p.1) same_pair)

    -- all is held
    pub all_held : (told : ℕ) → length held ≤ told → SameUpTo told most → pairs held ≡ open_snapshots earlier
    all_held told over same = sym (ap pairs (take_all held told over)) ∙ same ∙ all_open earlier most top

    -- more is held than is open
    pub too_long : (told : ℕ) (t : Told) → AtLine held told t → SameUpTo told most → pairs held ≡ open_snapshots earlier → ⊥
    too_long told t here same all = longer (open_up_to earlier most) (pairs (drop (told + 1) held)) (t.session, t.number) (all_open earlier most top ∙ sym all ∙ held_split told most t here same)
