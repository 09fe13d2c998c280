-- `records` lists what a reader reaches: its count of turns is enough for every record.
use Rattle.std.proofs.Common.{◌≡◌, ◌≤◌, ◌+◌, ◌∙◌, ℕ, zero, suc, List, [], ◌∷◌, ◌++◌, length, arith, sym, ap, inl, inr, refl, Option, Some, None}
use Rattle.std.proofs.lemmas.Bool.{cases_Bool}
use Rattle.std.proofs.lemmas.List.{append-nil}
use Rattle.csv.specs.Machine.{Read, next_record, ends_at_end, is_end, step, fields_after}
use Rattle.csv.specs.Reading.{Reached, records, records_from}
use Rattle.csv.specs.declared.parser.Config.{Config}
use Rattle.csv.specs.declared.parser.State.{State}
use Rattle.csv.specs.declared.parser.State.TheVariants as st

-- a record's read leaves no more than it was given
no-more : (cfg : Config) (s : State) (fields : List (List ℕ)) (field xs : List ℕ) (p : Read) → next_record cfg s fields field xs ≡ Some p → length p.2 ≤ length xs
unfolding next_record
no-more cfg s fields field [] p e = elim (cases_Bool (ends_at_end s)) [
  | inl t ↦ let k = rw t at e in let q : p ≡ (fields ++ (field ∷ []), st.StartRecord, []) = cc k in rw q (omega arith)
  | inr f ↦ let k = rw f at e in absurd (let no : ⊥ = cc k in no)
]
no-more cfg s fields field (c ∷ rest) p e = elim (cases_Bool (is_end (step cfg s c).1)) [
  | inl t ↦ let k = rw t at e in let q : p ≡ (fields_after (step cfg s c).1 fields field, (step cfg s c).0, rest) = cc k in rw q (omega arith)
  | inr f ↦ let k = rw f at e in omega (arith, no-more cfg (step cfg s c).0 _ _ rest p k)
]

-- and takes at least one byte of a text that is not empty
takes-one : (cfg : Config) (s : State) (fields : List (List ℕ)) (field : List ℕ) (c : ℕ) (rest : List ℕ) (p : Read)
    → next_record cfg s fields field (c ∷ rest) ≡ Some p → length p.2 ≤ length rest
unfolding next_record
takes-one cfg s fields field c rest p e = elim (cases_Bool (is_end (step cfg s c).1)) [
  | inl t ↦ let k = rw t at e in let q : p ≡ (fields_after (step cfg s c).1 fields field, (step cfg s c).0, rest) = cc k in rw q (omega arith)
  | inr f ↦ let k = rw f at e in no-more cfg (step cfg s c).0 _ _ rest p k
]

-- at the end of a text at most one record comes
last-one : (cfg : Config) (s : State) (p : Read) → next_record cfg s [] [] [] ≡ Some p → next_record cfg p.1 [] [] p.2 ≡ None
unfolding next_record
last-one cfg s p e = elim (cases_Bool (ends_at_end s)) [
  | inl t ↦ let k = rw t at e in let q : p ≡ ([] ∷ [], st.StartRecord, []) = cc k in rw q refl
  | inr f ↦ let k = rw f at e in absurd (let no : ⊥ = cc k in no)
]

-- this many turns are enough
pub data Enough (cfg : Config) (n : ℕ) (s : State) (xs : List ℕ) : Type 0 where
  long : length xs + 1 ≤ n → Enough cfg n s xs
  over : next_record cfg s [] [] xs ≡ None → Enough cfg n s xs

-- one record less, one turn less
record Turn (cfg : Config) (n : ℕ) (s : State) (xs : List ℕ) (p : Read) : Type 0 where
  pub left : ℕ
  pub is : n ≡ suc left
  pub enough : Enough cfg left p.1 p.2

none-some : {A : Type 0} (o : Option A) (p : A) → o ≡ None → o ≡ Some p → ⊥
none-some o p a b = cc (a, b)

less : (cfg : Config) (n : ℕ) (s : State) (xs : List ℕ) (p : Read) → next_record cfg s [] [] xs ≡ Some p → length xs + 1 ≤ n → Turn cfg n s xs p
less cfg zero s xs p e h = absurd (omega arith)
less cfg (suc n) s [] p e h = record { left = n; is = refl; enough = over (last-one cfg s p e) }
less cfg (suc n) s (c ∷ rest) p e h = record { left = n; is = refl; enough = long (omega (arith, takes-one cfg s [] [] c rest p e)) }

turn : (cfg : Config) (n : ℕ) (s : State) (xs : List ℕ) (p : Read) → next_record cfg s [] [] xs ≡ Some p → Enough cfg n s xs → Turn cfg n s xs p
turn cfg n s xs p e (long h) = less cfg n s xs p e h
turn cfg n s xs p e (over h) = absurd (none-some _ p h e)

-- the records of a text are those that were reached, and then those of what is left
pub record Begins (cfg : Config) (n : ℕ) (s : State) (xs : List ℕ) (rows : List (List (List ℕ))) (s2 : State) (ys : List ℕ) : Type 0 where
  pub left : ℕ
  pub enough : Enough cfg left s2 ys
  pub are : records_from cfg n s xs ≡ rows ++ records_from cfg left s2 ys

one-more : (cfg : Config) (n : ℕ) (s : State) (xs : List ℕ) (p : Read) → next_record cfg s [] [] xs ≡ Some p
    → records_from cfg (suc n) s xs ≡ p.0 ∷ records_from cfg n p.1 p.2
unfolding records_from
one-more cfg n s xs p e = rw e refl

begins : (cfg : Config) (n : ℕ) (s : State) (xs : List ℕ) (rows : List (List (List ℕ))) (s2 : State) (ys : List ℕ)
    → Reached cfg s xs rows s2 ys → Enough cfg n s xs → Begins cfg n s xs rows s2 ys
unfolding Reached records_from
begins cfg n s xs [] s2 ys h k = record { left = n; enough = rw (← h.0, ← h.1) k; are = rw (h.0, h.1) refl }
begins cfg n s xs (r ∷ rs) s2 ys h k =
    let p = h.0 in
    let t = turn cfg n s xs p h.1 k in
    let b = begins cfg t.left p.1 p.2 rs s2 ys h.3 t.enough in
    record {
      left = b.left;
      enough = b.enough;
      are = ap (λ k. records_from cfg k s xs) t.is ∙ one-more cfg t.left s xs p h.1 ∙ ap (λ z. p.0 ∷ z) b.are
          ∙ ap (λ q. q ∷ (rs ++ records_from cfg b.left s2 ys)) (sym h.2);
    }

done : (cfg : Config) (n : ℕ) (s : State) (xs : List ℕ) → next_record cfg s [] [] xs ≡ None → records_from cfg n s xs ≡ []
unfolding records_from
done cfg zero s xs e = refl
done cfg (suc n) s xs e = rw e refl

-- all the records
pub all-records : (cfg : Config) (xs : List ℕ) (rows : List (List (List ℕ))) (s2 : State) (ys : List ℕ)
    → Reached cfg st.StartRecord xs rows s2 ys → next_record cfg s2 [] [] ys ≡ None → records cfg xs ≡ rows
all-records cfg xs rows s2 ys h e =
    let b = begins cfg (length xs + 1) st.StartRecord xs rows s2 ys h (long (omega arith)) in
    b.are ∙ ap (λ z. rows ++ z) (done cfg b.left s2 ys e) ∙ append-nil rows

-- the first of them
pub first-records : (cfg : Config) (xs : List ℕ) (rows : List (List (List ℕ))) (s2 : State) (ys : List ℕ)
    → Reached cfg st.StartRecord xs rows s2 ys → (more : List (List (List ℕ))) × (records cfg xs ≡ rows ++ more)
first-records cfg xs rows s2 ys h =
    let b = begins cfg (length xs + 1) st.StartRecord xs rows s2 ys h (long (omega arith)) in (records_from cfg b.left s2 ys, b.are)
