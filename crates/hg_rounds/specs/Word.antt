-- The word from which helpers draw numbers, and what its steps make of a view.
use Rattle.std.specs.Prelude.{◌≡◌, ℕ, suc, ◌+◌, ◌-◌, ◌≤◌, List, [], ◌∷◌, ◌++◌, length, slice_index, ltb, eqb}
use Rattle.atomic_table.specs.Table.{State, Me, Step}
use Rattle.hg_rule.specs.Keys.{one}
use Rattle.hg_rounds.specs.declared.draws.Drawn.{Drawn}

-- how often a number is in a list
abbrev pub times : ℕ → List ℕ → ℕ
times n [] = 0
times n (m ∷ ms) = one (eqb m n) + times n ms

-- a list has each number below some number once, and no other
abbrev pub AreAll : List ℕ → Type 0
AreAll numbers = (word : ℕ) × ((n : ℕ) → times n numbers ≡ one (ltb n word))

-- f of each view, added up
abbrev pub sum : {A : Type 0} → (A → ℕ) → List A → ℕ
sum f [] = 0
sum f (x ∷ xs) = f x + sum f xs

-- how many numbers a view has drawn
abbrev pub many : Drawn → ℕ
many v = length v.numbers

-- how many numbers a view may draw in all, with those that it has drawn
abbrev pub quota : Drawn → ℕ
quota v = v.left + length v.numbers

-- how many numbers may be drawn in all: there are fewer buckets
abbrev pub whole_quota : ℕ
whole_quota = 1099511627776

-- how many numbers one helper may draw: there are fewer buckets
abbrev pub helper_quota : ℕ
helper_quota = 8589934592

-- The numbers below the word are each in exactly one view, and no other number is in any.
pub record IsDrawn (t : State ℕ Drawn) : Type 0 where
  pub words : length t.words ≡ 1
  pub each : (n : ℕ) → sum (λ v. times n v.numbers) t.views ≡ one (ltb n (slice_index t.words 0))
  pub many_are : sum many t.views ≡ slice_index t.words 0
  pub shared : sum quota t.views ≡ whole_quota

-- ---- views

-- a drawer that has everything, and has drawn nothing
abbrev pub fresh : Drawn
fresh = record { left = whole_quota; numbers = []; joined = []; before = [] }

-- it may draw everything, and in this round nothing was drawn yet
pub record IsFresh (v : Drawn) : Type 0 where
  pub left : v.left ≡ whole_quota
  pub numbers : v.numbers ≡ []
  pub joined : v.joined ≡ []

-- the view of a new helper, which has drawn nothing
abbrev pub hired : Drawn
hired = record { left = helper_quota; numbers = []; joined = []; before = [] }

-- the view that hired a helper, after it gave the helper's quota away
abbrev pub hirer : Drawn → Drawn
hirer v = record v { left = v.left - helper_quota }

-- the view of two that are joined, which shows what the second one drew
abbrev pub together : Drawn → Drawn → Drawn
together v w = record { left = v.left + w.left; numbers = w.numbers ++ v.numbers; joined = w.numbers ∷ v.joined; before = v.before }

-- the view of a seat that was joined to another: it has nothing, and may draw nothing
abbrev pub spent : Drawn
spent = record { left = 0; numbers = []; joined = []; before = [] }

-- the view that begins a round again, and shows what those that were joined to it drew in the one before
abbrev pub anew : Drawn → Drawn
anew v = record { left = whole_quota; numbers = []; joined = []; before = v.joined }

-- one more than the last number that was drawn
abbrev pub top : List ℕ → ℕ
top [] = 0
top (n ∷ ns) = suc n

-- a number was drawn, over all that were drawn before
pub record Drew (v : Drawn) (n : ℕ) (w : Drawn) : Type 0 where
  pub numbers : w.numbers ≡ n ∷ v.numbers
  pub left : suc w.left ≡ v.left
  pub over : top v.numbers ≤ n
  pub kept : (w.joined ≡ v.joined) × (w.before ≡ v.before)

-- ---- the same steps, as the table plays them

-- the step of `Drew`, by the number that was found
abbrev pub draws : Step ℕ → Me ℕ Drawn → ℕ → Me ℕ Drawn → Type 0
draws step m n w = Drew m.0 n w.0 × (w.1 ≡ m.1)

-- the step that begins a round again, where all numbers were drawn
abbrev pub restarts : Step ℕ → Me ℕ Drawn → ℕ → Me ℕ Drawn → Type 0
restarts step m n w = AreAll m.0.numbers × ((w.0 ≡ anew m.0) × (w.1 ≡ m.1))
