-- What is kept of the printed commits.
use Rattle.std.specs.Prelude.{◌≡◌, ℕ, List, [], ◌∷◌, ◌++◌, map, Bool, ◌&&◌, ◌==◌, Option, IfSome}
use Rattle.std.specs.List.{cons_option, list_any}
use Rattle.std.specs.Bool.{MatchBool}
use Rattle.std.specs.BTreeSet.{contains}
use Rattle.std.specs.declared.cmp.Ordering.{Ordering}
use Rattle.std.specs.Ordering.{nat_cmp, ordering_then}
use Rattle.hg_base.specs.declared.rid.Rid.{Rid}
use Rattle.hg_base.specs.Lists as lists
use Rattle.hg_base.specs.History.{Commit}
use Rattle.hg_base.specs.Transcript.{Said, commit_by}
use Rattle.hg_known.specs.declared.history.Seat.{Seat}
use Rattle.hg_known.specs.declared.history.Commits as kept
use Rattle.hg_known.specs.Written.{image_at}
use Rattle.hg_known.specs.Commits.{IsFit, AreApart, image_of}

-- seats in the order of their numbers, and then of their sessions
abbrev pub seat_cmp : Seat → Seat → Ordering
seat_cmp a b = ordering_then (nat_cmp a.number b.number) (nat_cmp a.session b.session)

-- where a commit of session j under number n is kept
abbrev pub seat : ℕ → ℕ → Seat
seat n j = record { number = n; session = j }

-- whether a commit of session j has number n
abbrev pub sits : ℕ → ℕ → List (ℕ × Commit) → Bool
sits n j ps = list_any (λ p. (p.0 == n) && (p.1.session == j)) ps

-- what is kept is what these commits say
pub record Shows (c : kept.Commits) (ps : List (ℕ × Commit)) : Type 0 where
  pub writes : (r : Rid) (n : ℕ) → image_at c.writes r n ≡ image_of ps r n
  pub seats : (n j : ℕ) → contains seat_cmp c.seats (seat n j) ≡ sits n j ps
  pub numbers : (n : ℕ) → contains nat_cmp c.numbers n ≡ list_any (λ p. p.0 == n) ps
  pub greatest : c.greatest ≡ lists.greatest (map (λ p. p.0) ps)

-- a commit that fits, and clashes with none of those
abbrev pub Fits : List (ℕ × Commit) → ℕ × Commit → Type 0
Fits ps p = IsFit p × lists.Each (λ q. AreApart q p) ps

-- the transaction of a line, with its number
abbrev pub printed : ℕ → List Said → Said → ℕ × Commit
printed n earlier now = (n, commit_by earlier now)

-- the commit is kept after those, exactly where it fits them
abbrev pub Adds : kept.Commits → kept.Commits → List (ℕ × Commit) → ℕ × Commit → Bool → Type 0
Adds old new ps p fits = Shows old ps → MatchBool fits (Shows new (ps ++ p ∷ []) × Fits ps p) (¬ Fits ps p)

-- the same of a commit, if there is one
abbrev pub AddsAny : kept.Commits → List (ℕ × Commit) → Option (ℕ × Commit) → Bool → Type 0
AddsAny new ps p fits = MatchBool fits (Shows new (ps ++ cons_option p []) × IfSome p (Fits ps)) (¬ IfSome p (Fits ps))
