-- How far a merge of falling numbers with rising snapshots has come, from the greatest down.
use Rattle.std.specs.Prelude.{ℕ, zero, suc, ◌≡◌, ◌<◌, ◌≤◌, List, [], drop, slice_index, Bool, false, nat_le, Option, Some, None, ⊤}
use Rattle.hg_base.specs.Lists.{Each}

-- a number follows another: it is below it, if that is one
abbrev pub Follows : Option ℕ → Option ℕ → Type 0
Follows None n = ⊤
Follows (Some up) (Some n) = n < up
Follows (Some up) None = ⊥

-- the snapshots behind the first so many are at or over the number: none lies in a lifetime that ends there or below
abbrev pub HasPassed : Option ℕ → ℕ → List ℕ → Type 0
HasPassed None left snapshots = drop left snapshots ≡ []
HasPassed (Some up) left snapshots = Each (λ s. up ≤ s) (drop left snapshots)

-- whether the last of the first so many snapshots is at or over the number
abbrev pub last_reaches : ℕ → ℕ → List ℕ → Bool
last_reaches n zero snapshots = false
last_reaches n (suc k) snapshots = nat_le n (slice_index snapshots k)
