-- What a crash leaves while a group is added.
use Rattle.std.proofs.Common.{◌≡◌, ◌⊎◌, inl, inr, ⊎_elim, ℕ, ◌+◌, List, [], ◌∷◌, ◌++◌, length, take, drop, sym, ◌∙◌, ap, subst, arith, append_assoc, length-append, take-append-drop}
use Rattle.std.proofs.lemmas.List.{take_at, drop_at}
use Rattle.hg_journal.specs.Device.{Grown, Holds, LeavesOnly}
use Rattle.hg_journal.specs.Gate.{kept, at_rest, IsWhole}
use Rattle.hg_journal.specs.Journal.{KeepsWithOrWithout}
use Rattle.hg_journal.proofs.Gates.{kept_before, open_whole, whole_joined}
use Rattle.hg_journal.proofs.Moments.{weaker, joined}

-- the closed gate stays, whatever grows behind it
grown_keeps : (text : List ℕ) (n : ℕ) (c : List ℕ) → IsWhole text → Grown n (at_rest text) c → kept c ≡ text
grown_keeps text n c whole grown =
    let end = length (at_rest text) in
    let split : c ≡ text ++ 10 ∷ drop end c = sym (take-append-drop end c) ∙ ap (λ (l : List ℕ). l ++ drop end c) grown.front ∙ append_assoc text (10 ∷ []) (drop end c) in
    ap kept split ∙ kept_before text (drop end c) whole

-- a file with a group behind the closed gate
abbrev staged : List ℕ → List ℕ → List ℕ
staged text rest = at_rest text ++ at_rest rest

module _ (text : List ℕ) (first : ℕ) (rest : List ℕ) (end : ℕ) (is : end ≡ length text) where
  -- its first byte opens the gate
  opened : (c : List ℕ) → Holds (staged text rest) end (first ∷ []) c → c ≡ at_rest (text ++ first ∷ rest)
  opened c holds =
      let front : take end (staged text rest) ≡ text = ap (λ (l : List ℕ). take end l) (append_assoc text (10 ∷ []) (at_rest rest)) ∙ take_at text (10 ∷ at_rest rest) end (sym is) in
      let back : drop (end + 1) (staged text rest) ≡ at_rest rest = drop_at (at_rest text) (at_rest rest) (end + 1) (omega (arith, is, length-append text (10 ∷ []))) in
      holds
      ∙ ap (λ (l : List ℕ). l ++ (first ∷ []) ++ drop (end + 1) (staged text rest)) front
      ∙ ap (λ (l : List ℕ). text ++ (first ∷ []) ++ l) back
      ∙ append_assoc text (first ∷ []) (at_rest rest)
      ∙ sym (append_assoc text (first ∷ rest) (10 ∷ []))

  opening_keeps : (c : List ℕ) → IsWhole text → IsWhole (first ∷ rest) → (c ≡ staged text rest) ⊎ Holds (staged text rest) end (first ∷ []) c → KeepsWithOrWithout text (first ∷ rest) c
  opening_keeps c whole group =
      ⊎_elim
      (λ is. inl (ap kept is ∙ ap kept (append_assoc text (10 ∷ []) (at_rest rest)) ∙ kept_before text (at_rest rest) whole))
      (λ holds. inr (ap kept (opened c holds) ∙ kept_before (text ++ first ∷ rest) [] (whole_joined text (first ∷ rest) whole group)))

-- a file at rest
module _ (file : List ℕ) (rests : file ≡ at_rest (kept file)) where
  pub extending : (n : ℕ) (c : List ℕ) → Grown n file c → kept c ≡ kept file
  extending n c grown = grown_keeps (kept file) n c (open_whole file rests) (subst (λ (f : List ℕ). Grown n f c) rests grown)

  module _ (group : List ℕ) (first : ℕ) (rest : List ℕ) (end : ℕ) (is : end ≡ length (kept file)) (splits : group ≡ first ∷ rest) (mid : List ℕ) (extended : mid ≡ file ++ at_rest rest) where
    stands : mid ≡ staged (kept file) rest
    stands = extended ∙ ap (λ (f : List ℕ). f ++ at_rest rest) rests

    pub opening : (c : List ℕ) → IsWhole group → (c ≡ mid) ⊎ Holds mid end (first ∷ []) c → KeepsWithOrWithout (kept file) group c
    opening c whole cases =
        subst (λ (g : List ℕ). KeepsWithOrWithout (kept file) g c) (sym splits)
        (opening_keeps (kept file) first rest end is c (open_whole file rests) (subst IsWhole splits whole) (subst (λ (m : List ℕ). (c ≡ m) ⊎ Holds m end (first ∷ []) c) stands cases))

    pub open_again : (c : List ℕ) → Holds mid end (first ∷ []) c → c ≡ at_rest (kept file ++ group)
    open_again c holds = opened (kept file) first rest end is c (subst (λ (m : List ℕ). Holds m end (first ∷ []) c) stands holds) ∙ ap (λ (g : List ℕ). at_rest (kept file ++ g)) (sym splits)

    pub keeps_group : (c : List ℕ) → IsWhole group → Holds mid end (first ∷ []) c → kept c ≡ kept file ++ group
    keeps_group c whole holds = ap kept (open_again c holds) ∙ kept_before (kept file ++ group) [] (whole_joined (kept file) group (open_whole file rests) whole)

    -- the two changes of an append
    pub appending : {D : Type 0} (moment : D → ℕ) (left_since : D → ℕ → List ℕ → Type 0) (old between new : D) (n : ℕ) → IsWhole group → LeavesOnly moment left_since old between (Grown n file)
        → LeavesOnly moment left_since between new (λ c. (c ≡ mid) ⊎ Holds mid end (first ∷ []) c) → LeavesOnly moment left_since old new (KeepsWithOrWithout (kept file) group)
    appending moment left_since old between new n whole grown opens =
        joined moment left_since old between new (KeepsWithOrWithout (kept file) group)
        (weaker moment left_since old between _ _ grown (λ c is. inl (extending n c is)))
        (weaker moment left_since between new _ _ opens (λ c cases. opening c whole cases))
