-- Lists, options and tests, as the definitions use them.
use Rattle.std.proofs.Common.{◌≡◌, ℕ, zero, suc, ◌+◌, ◌<◌, ◌≤◌, List, [], ◌∷◌, ◌++◌, length, Bool, true, false, Option, Some, None, refl, ap, ◌∙◌, subst, arith}
use Rattle.std.specs.Prelude.{◌==◌, ◌||◌, filter_map, cond, IfSome, Contains, ⊤, nat_le}
use Rattle.std.specs.Bool.{MatchBool}
use Rattle.std.specs.List.{list_any, cons_option}
use Rattle.std.proofs.lemmas.Bool.Decides.{Decides-eqb}
use Rattle.std.proofs.lemmas.Bool.{leb-true}
use Rattle.hg_base.specs.Lists.{Each, EachAfter, onto, numbers_from}

-- a test is true or false
pub cases : {P : Type 0} (b : Bool) → (b ≡ true → P) → (b ≡ false → P) → P
cases true f g = f refl
cases false f g = g refl

pub false_true : false ≡ true → ⊥
false_true e = cc

pub or_more : (a b c : Bool) → (a || b) ≡ true → (b ≡ true → c ≡ true) → (a || c) ≡ true
or_more true b c e f = refl
or_more false b c e f = f e

pub any_more : {X : Type 0} (p : X → Bool) (xs ys : List X) → list_any p xs ≡ true → list_any p (xs ++ ys) ≡ true
any_more p [] ys e = absurd (false_true e)
any_more p (x ∷ xs) ys e = or_more (p x) (list_any p xs) (list_any p (xs ++ ys)) e (any_more p xs ys)

-- ---- options

pub none_some : {X : Type 0} (o : Option X) (x : X) → o ≡ None → o ≡ Some x → ⊥
none_some o x e f = cc

pub if_some_keeps : {X : Type 0} (o : Option X) (P Q : X → Type 0) → ((x : X) → P x → Q x) → IfSome o P → IfSome o Q
if_some_keeps None P Q f h = tt
if_some_keeps (Some x) P Q f h = f x h

pub match_keeps : (b : Bool) {P Q : Type 0} → (P → Q) → MatchBool b P ⊤ → MatchBool b Q ⊤
match_keeps true f h = f h
match_keeps false f h = tt

pub cons_option_append : {X : Type 0} (o : Option X) (xs ys : List X) → cons_option o (xs ++ ys) ≡ cons_option o xs ++ ys
cons_option_append None xs ys = refl
cons_option_append (Some x) xs ys = refl

pub append_nil : {X : Type 0} (xs : List X) → xs ++ [] ≡ xs
append_nil [] = refl
append_nil (x ∷ xs) = ap (λ ys. x ∷ ys) (append_nil xs)

-- ---- each element

pub each_snoc : {X : Type 0} (P : X → Type 0) (xs : List X) (x : X) → Each P xs → P x → Each P (xs ++ x ∷ [])
each_snoc P [] x h p = (p, tt)
each_snoc P (y ∷ ys) x h p = (h.0, each_snoc P ys x h.1 p)

pub each_append : {X : Type 0} (P : X → Type 0) (xs ys : List X) → Each P xs → Each P ys → Each P (xs ++ ys)
each_append P [] ys h k = k
each_append P (x ∷ xs) ys h k = (h.0, each_append P xs ys h.1 k)

pub each_keeps : {X : Type 0} (P Q : X → Type 0) → ((x : X) → P x → Q x) → (xs : List X) → Each P xs → Each Q xs
each_keeps P Q f [] h = tt
each_keeps P Q f (x ∷ xs) h = (f x h.0, each_keeps P Q f xs h.1)

pub each_of_option : {X : Type 0} (P : X → Type 0) (o : Option X) (xs : List X) → Each P (cons_option o xs) → Each P xs
each_of_option P None xs h = h
each_of_option P (Some x) xs h = h.1

pub each_option : {X : Type 0} (P : X → Type 0) (o : Option X) → ((x : X) → o ≡ Some x → P x) → Each P (cons_option o [])
each_option P None f = tt
each_option P (Some x) f = (f x refl, tt)

pub each_picked : {X Y : Type 0} (P : Y → Type 0) (f : X → Option Y) (b : Bool) (x : X) → ((y : Y) → f x ≡ Some y → P y) → Each P (filter_map f (cond b (x ∷ []) []))
each_picked P f true x g = each_option P (f x) g
each_picked P f false x g = tt

pub each_at : {X : Type 0} (P : X → Type 0) (xs : List X) (x : X) → Each P xs → Contains xs x → P x
each_at P [] x h (k, within, e) = absurd (omega (arith, within))
each_at P (y ∷ ys) x h (zero, within, e) = subst P e h.0
each_at P (y ∷ ys) x h (suc k, within, e) = let less : k < length ys = omega (arith, within) in each_at P ys x h.1 (k, less, e)

-- ---- each element after the earlier ones

pub each_after_snoc : {X : Type 0} (P : List X → X → Type 0) (earlier xs : List X) (x : X) → EachAfter P earlier xs → P (onto xs earlier) x → EachAfter P earlier (xs ++ x ∷ [])
each_after_snoc P earlier [] x h p = (p, tt)
each_after_snoc P earlier (y ∷ ys) x h p = (h.0, each_after_snoc P (y ∷ earlier) ys x h.1 p)

pub each_after_keeps : {X : Type 0} (P Q : List X → X → Type 0) → ((earlier : List X) (x : X) → P earlier x → Q earlier x) → (earlier xs : List X) → EachAfter P earlier xs → EachAfter Q earlier xs
each_after_keeps P Q f earlier [] h = tt
each_after_keeps P Q f earlier (x ∷ xs) h = (f earlier x h.0, each_after_keeps P Q f (x ∷ earlier) xs h.1)

-- ---- stretches of numbers

pub moved_on : (n many m : ℕ) → m < suc n + many → m < n + suc many
moved_on n many m h = omega arith

pub numbers_from_snoc : (n many : ℕ) → numbers_from n (suc many) ≡ numbers_from n many ++ (n + many) ∷ []
numbers_from_snoc n zero = let e : n ≡ n + zero = omega arith in ap (λ m. m ∷ []) e
numbers_from_snoc n (suc many) = let e : suc n + many ≡ n + suc many = omega arith in ap (λ xs. n ∷ xs) (numbers_from_snoc (suc n) many ∙ ap (λ m. numbers_from (suc n) many ++ m ∷ []) e)

pub below_itself : (m n : ℕ) → m < n → m ≡ n → ⊥
below_itself m n h e = omega (arith, h, e)

pub not_equal : (m n : ℕ) → m < n → (m == n) ≡ false
not_equal m n h = cases (m == n) (λ same. absurd (below_itself m n h ((Decides-eqb m n).0 same))) (λ e. e)

pub not_at_most : (m s : ℕ) → s < m → nat_le m s ≡ false
not_at_most m s h = cases (nat_le m s) (λ e. absurd (let k : m ≤ s = leb-true m s e in omega (arith, h, k))) (λ e. e)
