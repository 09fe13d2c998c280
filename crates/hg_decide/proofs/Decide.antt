-- A fact with its answer: that it holds, or that it does not. The answer is computed.
use Rattle.std.proofs.Common.{◌≡◌, ℕ, suc, ◌<◌, ◌≤◌, ◌⊎◌, inl, inr, ℤ, List, [], ◌∷◌, Bool, true, false, Option, Some, None, refl, sym, ap, arith}
use Rattle.std.specs.Prelude.{ltb, ◌==◌, IsTrue, IsFalse, ⊤, IsSome, IfSome}
use Rattle.std.specs.Bool.{MatchBool, Decides}
use Rattle.std.specs.Ordering.{int_eq}
use Rattle.std.proofs.lemmas.Bool.Decides.{Decides-eqb, Decides-ltb, Decides-int_eq}
use Rattle.hg_base.specs.Lists.{Each, EachAfter, Ascends}
use Rattle.hg_base.specs.declared.value.Value.{Value}
use Rattle.hg_base.specs.declared.value.Value.TheVariants.{Number, Text}
use Rattle.hg_base.specs.Values.{is_text, number_of}

-- Each decision is an `abbrev` and is made of decisions, so that it computes; the lemmas inside it stay closed.
pub data Decided (P : Type 0) : Type 0 where
  holds : P → Decided P
  fails : (P → ⊥) → Decided P

-- the answer as a test
abbrev pub is_yes : {P : Type 0} → Decided P → Bool
is_yes (holds p) = true
is_yes (fails n) = false

-- what computes to yes holds
pub so : {P : Type 0} (d : Decided P) → IsTrue (is_yes d) → P
so (holds p) e = p
so (fails n) e = cc

-- what computes to no does not hold
pub not_so : {P : Type 0} (d : Decided P) → IsFalse (is_yes d) → P → ⊥
not_so (holds p) e = cc
not_so (fails n) e = n

-- the same answer for a fact that comes to the same
abbrev pub decide_as : {P Q : Type 0} → (P → Q) → (Q → P) → Decided P → Decided Q
decide_as f g (holds p) = holds (f p)
decide_as f g (fails n) = fails (λ q. n (g q))

-- ---- tests

pub false_is_not_true : false ≡ true → ⊥
false_is_not_true e = cc

pub true_is_not_false : true ≡ false → ⊥
true_is_not_false e = cc

-- the test as one that a function of the program may return
pub decides : {P : Type 0} (d : Decided P) → Decides (is_yes d) P
decides (holds p) = (λ e. p, λ q. refl)
decides (fails n) = (λ e. absurd (false_is_not_true e), λ q. absurd (n q))

-- a fact that a test tells
abbrev pub decide_test : {P : Type 0} → (b : Bool) → (b ≡ true → P) → (P → b ≡ true) → Decided P
decide_test true f g = holds (f refl)
decide_test false f g = fails (λ p. false_is_not_true (g p))

abbrev pub decide_true : (b : Bool) → Decided (IsTrue b)
decide_true true = holds refl
decide_true false = fails false_is_not_true

abbrev pub decide_false : (b : Bool) → Decided (IsFalse b)
decide_false true = fails true_is_not_false
decide_false false = holds refl

abbrev pub decide_bools : (a b : Bool) → Decided (a ≡ b)
decide_bools a true = decide_true a
decide_bools a false = decide_false a

-- ---- numbers

abbrev pub decide_equal : (m n : ℕ) → Decided (m ≡ n)
decide_equal m n = decide_test (m == n) (Decides-eqb m n).0 (Decides-eqb m n).1

abbrev pub decide_below : (m n : ℕ) → Decided (m < n)
decide_below m n = decide_test (ltb m n) (Decides-ltb m n).0 (Decides-ltb m n).1

pub below_suc : (m n : ℕ) → m < suc n → m ≤ n
below_suc m n h = omega arith

pub at_most_suc : (m n : ℕ) → m ≤ n → m < suc n
at_most_suc m n h = omega arith

abbrev pub decide_at_most : (m n : ℕ) → Decided (m ≤ n)
decide_at_most m n = decide_as (below_suc m n) (at_most_suc m n) (decide_below m (suc n))

-- numbers with a sign
abbrev pub decide_signed : (x y : ℤ) → Decided (x ≡ y)
decide_signed x y = decide_test (int_eq x y) (Decides-int_eq x y).0 (Decides-int_eq x y).1

-- ---- and, or, not

abbrev pub decide_always : Decided ⊤
decide_always = holds tt

abbrev pub decide_never : Decided ⊥
decide_never = fails (λ h. h)

abbrev pub decide_both : {P Q : Type 0} → Decided P → Decided Q → Decided (P × Q)
decide_both (holds p) (holds q) = holds (p, q)
decide_both (fails n) d = fails (λ h. n h.0)
decide_both (holds p) (fails n) = fails (λ h. n h.1)

abbrev pub decide_all3 : {P Q R : Type 0} → Decided P → Decided Q → Decided R → Decided (P × Q × R)
decide_all3 p q r = decide_as (λ h. (h.0, h.1.0, h.1.1)) (λ h. (h.0, (h.1, h.2))) (decide_both p (decide_both q r))

abbrev pub decide_all4 : {P Q R S : Type 0} → Decided P → Decided Q → Decided R → Decided S → Decided (P × Q × R × S)
decide_all4 p q r s = decide_as (λ h. (h.0.0, h.0.1, h.1.0, h.1.1)) (λ h. ((h.0, h.1), (h.2, h.3))) (decide_both (decide_both p q) (decide_both r s))

abbrev pub decide_all5 : {P Q R S U : Type 0} → Decided P → Decided Q → Decided R → Decided S → Decided U → Decided (P × Q × R × S × U)
decide_all5 p q r s u = decide_as (λ h. (h.0.0, h.0.1, h.1.0, h.1.1, h.1.2)) (λ h. ((h.0, h.1), (h.2, h.3, h.4))) (decide_both (decide_both p q) (decide_all3 r s u))

pub neither : {P Q : Type 0} → (P → ⊥) → (Q → ⊥) → P ⊎ Q → ⊥
neither n m (inl p) = n p
neither n m (inr q) = m q

abbrev pub decide_either : {P Q : Type 0} → Decided P → Decided Q → Decided (P ⊎ Q)
decide_either (holds p) d = holds (inl p)
decide_either (fails n) (holds q) = holds (inr q)
decide_either (fails n) (fails m) = fails (neither n m)

abbrev pub decide_not : {P : Type 0} → Decided P → Decided (¬ P)
decide_not (holds p) = fails (λ n. n p)
decide_not (fails n) = holds n

abbrev pub decide_implies : {P Q : Type 0} → Decided P → Decided Q → Decided (P → Q)
decide_implies (holds p) (holds q) = holds (λ _. q)
decide_implies (holds p) (fails n) = fails (λ f. n (f p))
decide_implies (fails n) d = holds (λ p. absurd (n p))

abbrev pub decide_match : (b : Bool) {P Q : Type 0} → Decided P → Decided Q → Decided (MatchBool b P Q)
decide_match true p q = p
decide_match false p q = q

abbrev pub decide_if_some : {X : Type 0} (o : Option X) (P : X → Type 0) → ((x : X) → Decided (P x)) → Decided (IfSome o P)
decide_if_some None P d = holds tt
decide_if_some (Some x) P d = d x

-- ---- lists and options

abbrev pub decide_each : {X : Type 0} (P : X → Type 0) → ((x : X) → Decided (P x)) → (xs : List X) → Decided (Each P xs)
decide_each P d [] = holds tt
decide_each P d (x ∷ xs) = decide_both (d x) (decide_each P d xs)

abbrev pub decide_each_after : {X : Type 0} (P : List X → X → Type 0) → ((earlier : List X) (x : X) → Decided (P earlier x)) → (earlier xs : List X) → Decided (EachAfter P earlier xs)
decide_each_after P d earlier [] = holds tt
decide_each_after P d earlier (x ∷ xs) = decide_both (d earlier x) (decide_each_after P d (x ∷ earlier) xs)

abbrev pub decide_ascends : (ns : List ℕ) → Decided (Ascends ns)
decide_ascends [] = holds tt
decide_ascends (a ∷ []) = holds tt
decide_ascends (a ∷ b ∷ more) = decide_both (decide_below a b) (decide_ascends (b ∷ more))

pub heads : {X : Type 0} (x y : X) (xs ys : List X) → (x ∷ xs) ≡ (y ∷ ys) → x ≡ y
heads x y xs ys e = cc

pub tails : {X : Type 0} (x y : X) (xs ys : List X) → (x ∷ xs) ≡ (y ∷ ys) → xs ≡ ys
tails x y xs ys e = cc

pub conses : {X : Type 0} (x y : X) (xs ys : List X) → (x ≡ y) × (xs ≡ ys) → (x ∷ xs) ≡ (y ∷ ys)
conses x y xs ys h = let e : x ≡ y = h.0 in let f : xs ≡ ys = h.1 in cc

pub no_nil_cons : {X : Type 0} (x : X) (xs : List X) → [] ≡ (x ∷ xs) → ⊥
no_nil_cons x xs e = cc

pub no_cons_nil : {X : Type 0} (x : X) (xs : List X) → (x ∷ xs) ≡ [] → ⊥
no_cons_nil x xs e = cc

abbrev pub decide_lists : {X : Type 0} → ((x y : X) → Decided (x ≡ y)) → (xs ys : List X) → Decided (xs ≡ ys)
decide_lists d [] [] = holds refl
decide_lists d [] (y ∷ ys) = fails (no_nil_cons y ys)
decide_lists d (x ∷ xs) [] = fails (no_cons_nil x xs)
decide_lists d (x ∷ xs) (y ∷ ys) = decide_as (conses x y xs ys) (λ e. (heads x y xs ys e, tails x y xs ys e)) (decide_both (d x y) (decide_lists d xs ys))

pub somes : {X : Type 0} (x y : X) → Some x ≡ Some y → x ≡ y
somes x y e = cc

pub no_some_none : {X : Type 0} (x : X) → Some x ≡ None → ⊥
no_some_none x e = cc

pub no_none_some : {X : Type 0} (x : X) → None ≡ Some x → ⊥
no_none_some x e = cc

abbrev pub decide_options : {X : Type 0} → ((x y : X) → Decided (x ≡ y)) → (o p : Option X) → Decided (o ≡ p)
decide_options d None None = holds refl
decide_options d None (Some y) = fails (no_none_some y)
decide_options d (Some x) None = fails (no_some_none x)
decide_options d (Some x) (Some y) = decide_as (λ e. ap Some e) (somes x y) (d x y)

abbrev pub decide_some : {X : Type 0} (o : Option X) → Decided (IsSome o)
decide_some None = decide_true false
decide_some (Some x) = decide_true true

abbrev bytes_of : Value → List ℕ
bytes_of (Number x) = []
bytes_of (Text t) = t

-- values are the same where they are the same number, or the same text
pub no_text_number : (x : ℤ) (t : List ℕ) → Number x ≡ Text t → ⊥
no_text_number x t e = false_is_not_true (ap is_text e)

pub numbers_same : (x y : ℤ) → Number x ≡ Number y → x ≡ y
numbers_same x y e = ap number_of e

pub texts_same : (s t : List ℕ) → Text s ≡ Text t → s ≡ t
texts_same s t e = ap bytes_of e

abbrev pub decide_values : (v w : Value) → Decided (v ≡ w)
decide_values (Number x) (Number y) = decide_as (λ e. ap Number e) (numbers_same x y) (decide_signed x y)
decide_values (Number x) (Text t) = fails (no_text_number x t)
decide_values (Text s) (Number y) = fails (λ e. no_text_number y s (sym e))
decide_values (Text s) (Text t) = decide_as (λ e. ap Text e) (texts_same s t) (decide_lists decide_equal s t)

-- the rows of two images
abbrev pub decide_rows : (o p : Option (List Value)) → Decided (o ≡ p)
decide_rows = decide_options (decide_lists decide_values)

pub pairs : (p q : ℕ × ℕ) → (p.0 ≡ q.0) × (p.1 ≡ q.1) → p ≡ q
pairs p q h = λ i. (h.0 i, h.1 i)

abbrev pub decide_pairs : (p q : ℕ × ℕ) → Decided (p ≡ q)
decide_pairs p q = decide_as (pairs p q) (λ e. (ap (λ (x : ℕ × ℕ). x.0) e, ap (λ (x : ℕ × ℕ). x.1) e)) (decide_both (decide_equal p.0 q.0) (decide_equal p.1 q.1))
