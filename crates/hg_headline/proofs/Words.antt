-- Words on tests, numbers, records and lists that the proofs use.
use Rattle.std.proofs.Common.{◌≡◌, ℕ, ◌<◌, ◌≤◌, ◌⊎◌, inl, inr, List, [], ◌∷◌, ◌++◌, Bool, true, false, Option, Some, None, refl, sym, ap, ◌∙◌, arith}
use Rattle.std.specs.Prelude.{◌==◌, ◌||◌, ◌&&◌, cond, IfSome, is_some}
use Rattle.std.specs.List.{list_any, cons_option}
use Rattle.std.proofs.lemmas.Bool.Decides.{Decides-eqb, nat_tests}
use Rattle.std.proofs.lemmas.Bool.{or_right}
use Rattle.hg_base.specs.declared.rid.Rid.{Rid}
use Rattle.hg_base.specs.Lists.{Each, Ascends, onto}
use Rattle.hg_base.specs.History.{same_rid, is_among}
use Rattle.hg_base.proofs.HistoryFacts.{same_rid_equal}

-- ---- tests

pub true_false : true ≡ false → ⊥
true_false e = cc

pub and_true : (a : Bool) → (a && true) ≡ a
and_true true = refl
and_true false = refl

pub cond_same : {X : Type 0} (b : Bool) (x : X) → cond b x x ≡ x
cond_same true x = refl
cond_same false x = refl

-- ---- numbers

pub same_number : (n : ℕ) → (n == n) ≡ true
same_number n = (Decides-eqb n n).1 refl

pub differs : (n x : ℕ) → n < x → (n == x) ≡ false
differs n x h = grind (arith, nat_tests)

pub equal_back : (m n : ℕ) → (m == n) ≡ true → (n == m) ≡ true
equal_back m n e = (Decides-eqb n m).1 (sym ((Decides-eqb m n).0 e))

pub equal_both : (m n : ℕ) → m ≤ n → n ≤ m → m ≡ n
equal_both m n h k = omega (arith, h, k)

-- ---- options

pub none_is_not_some : {X : Type 0} (x : X) → None ≡ Some x → ⊥
none_is_not_some x e = cc

pub some_is_some : {X : Type 0} (x z : X) → Some x ≡ Some z → x ≡ z
some_is_some x z e = cc

pub none_of_no : {X : Type 0} (o : Option X) → is_some o ≡ false → o ≡ None
none_of_no None e = refl
none_of_no (Some x) e = absurd (true_false e)

pub if_some_by : {X : Type 0} (o : Option X) (P : X → Type 0) → ((x : X) → o ≡ Some x → P x) → IfSome o P
if_some_by None P f = tt
if_some_by (Some x) P f = f x refl

-- ---- records

-- what is not among records is not among them under an equal name
pub not_among_same : (r a : Rid) (rids : List Rid) → same_rid r a ≡ true → is_among a rids ≡ false → is_among r rids ≡ false
not_among_same r a rids k e = ap (λ q. is_among q rids) (same_rid_equal r a k) ∙ e

-- ---- lists

pub append_assoc : {X : Type 0} (xs ys zs : List X) → (xs ++ ys) ++ zs ≡ xs ++ (ys ++ zs)
append_assoc [] ys zs = refl
append_assoc (x ∷ xs) ys zs = ap (λ ws. x ∷ ws) (append_assoc xs ys zs)

pub cons_is_not_nil : {X : Type 0} (x : X) (xs : List X) → (x ∷ xs) ≡ [] → ⊥
cons_is_not_nil x xs e = cc

pub any_append : {X : Type 0} (p : X → Bool) (xs ys : List X) → list_any p (xs ++ ys) ≡ (list_any p xs || list_any p ys)
any_append p [] ys = refl
any_append p (x ∷ xs) ys = ap (λ b. p x || b) (any_append p xs ys) ∙ or_assoc (p x) (list_any p xs) (list_any p ys)
  where
    or_assoc : (a b c : Bool) → (a || (b || c)) ≡ ((a || b) || c)
    or_assoc true b c = refl
    or_assoc false b c = refl

-- one of a list that is put before another, in either
pub any_onto : {X : Type 0} (p : X → Bool) (xs es : List X) → list_any p (onto xs es) ≡ true → (list_any p xs ≡ true) ⊎ (list_any p es ≡ true)
any_onto p [] es h = inr h
any_onto p (x ∷ xs) es h = go (p x) (any_onto p xs (x ∷ es) h)
  where
    go : (b : Bool) → (list_any p xs ≡ true) ⊎ ((b || list_any p es) ≡ true) → ((b || list_any p xs) ≡ true) ⊎ (list_any p es ≡ true)
    go true k = inl refl
    go false k = k

pub any_of_onto : {X : Type 0} (p : X → Bool) (xs : List X) → list_any p (onto xs []) ≡ true → list_any p xs ≡ true
any_of_onto p xs h = go (any_onto p xs [] h)
  where
    go : (list_any p xs ≡ true) ⊎ (false ≡ true) → list_any p xs ≡ true
    go (inl e) = e
    go (inr e) = absurd (true_false (sym e))

pub any_to_onto : {X : Type 0} (p : X → Bool) (xs es : List X) → list_any p es ≡ true → list_any p (onto xs es) ≡ true
any_to_onto p [] es e = e
any_to_onto p (x ∷ xs) es e = any_to_onto p xs (x ∷ es) (or_right (p x) (list_any p es) e)

pub any_same : {X : Type 0} (p q : X → Bool) → ((x : X) → p x ≡ q x) → (xs : List X) → list_any p xs ≡ list_any q xs
any_same p q f [] = refl
any_same p q f (x ∷ xs) = λ i. f x i || any_same p q f xs i

pub each_cond : {X : Type 0} (P : X → Type 0) (b : Bool) (x : X) (xs : List X) → P x → Each P xs → Each P (cond b (x ∷ xs) xs)
each_cond P true x xs p h = (p, h)
each_cond P false x xs p h = h

pub each_left : {X : Type 0} (P : X → Type 0) (xs ys : List X) → Each P (xs ++ ys) → Each P xs × Each P ys
each_left P [] ys h = (tt, h)
each_left P (x ∷ xs) ys h = let k = each_left P xs ys h.1 in ((h.0, k.0), k.1)

pub each_onto : {X : Type 0} (P : X → Type 0) (xs es : List X) → Each P (onto xs es) → Each P xs × Each P es
each_onto P [] es h = (tt, h)
each_onto P (x ∷ xs) es h = let k = each_onto P xs (x ∷ es) h in ((k.1.0, k.0), k.1.1)

pub each_pairs : {X : Type 0} (P Q : X → Type 0) (xs : List X) → Each P xs → Each Q xs → Each (λ x. P x × Q x) xs
each_pairs P Q [] h k = tt
each_pairs P Q (x ∷ xs) h k = ((h.0, k.0), each_pairs P Q xs h.1 k.1)

pub each_cons : {X : Type 0} (P : X → Type 0) (o : Option X) (xs : List X) → IfSome o P → Each P xs → Each P (cons_option o xs)
each_cons P None xs h k = k
each_cons P (Some x) xs h k = (h, k)

pub ascends_cons : (a : ℕ) (xs : List ℕ) → Each (λ m. a < m) xs → Ascends xs → Ascends (a ∷ xs)
ascends_cons a [] h k = tt
ascends_cons a (x ∷ xs) h k = (h.0, k)

-- whether there is one
abbrev pub is_any : {X : Type 0} → List X → Bool
is_any [] = false
is_any (x ∷ xs) = true
