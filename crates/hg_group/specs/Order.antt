-- The order of commits, along what was popped from the queue.
use Rattle.std.specs.Prelude.{◌≡◌, ℕ, zero, suc, ◌+◌, ◌<◌, Bool, true, false, List, [], ◌∷◌, ◌++◌, length, map, ◌==◌, ◌&&◌, ⊤}
use Rattle.hg_base.specs.History.{Commit, Group, History}
use Rattle.hg_group.specs.declared.receipt.Receipt.{Receipt}
use Rattle.hg_core.specs.Commits.{commits_in}

-- session and transaction
abbrev pub Pairs : Type 0
Pairs = List (ℕ × ℕ)

-- of a commit
abbrev pub pair_of : Commit → ℕ × ℕ
pair_of c = (c.session, c.transaction)

-- all commits, group by group
abbrev pub flat : History → Group
flat [] = []
flat (group ∷ groups) = group ++ flat groups

-- whether two are equal
abbrev pub same_pair : ℕ × ℕ → ℕ × ℕ → Bool
same_pair p q = (p.0 == q.0) && (p.1 == q.1)

-- a place one later, and the first where there is none yet
abbrev pub later : Bool → ℕ → ℕ
later true zero = 1
later false zero = 0
later b (suc n) = suc (suc n)

-- the last place of a pair, counted from 1; 0 where it has none
abbrev pub last_place : ℕ × ℕ → Pairs → ℕ
last_place p [] = 0
last_place p (q ∷ qs) = later (same_pair q p) (last_place p qs)

-- the last places of these pairs rise, from n on: so each has one
abbrev pub IsRising : ℕ → Pairs → Pairs → Type 0
IsRising n [] popped = ⊤
IsRising n (p ∷ ps) popped = (n < last_place p popped) × IsRising (last_place p popped) ps popped

-- Each commit has its pair among those that were popped, and their last places rise along the commits.
abbrev pub FollowsQueue : History → Pairs → Type 0
FollowsQueue h popped = IsRising 0 (map pair_of (flat h)) popped

-- The receipt names the group of this commit, and how many commits stand before it.
pub record StandsIn (h : History) (receipt : Receipt) (commit : Commit) : Type 0 where
  pub before : History
  pub earlier : Group
  pub others : Group
  pub after : History
  pub is : h ≡ before ++ (earlier ++ commit ∷ others) ∷ after
  pub number_is : receipt.number ≡ suc (length before)
  pub place_is : receipt.place ≡ commits_in before + length earlier
