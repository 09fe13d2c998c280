-- What is kept of the numbers that were printed.
use Rattle.std.specs.Prelude.{◌≡◌, ℕ, List, ◌==◌, filter_map, unwrap_or}
use Rattle.std.specs.List.{list_any}
use Rattle.std.specs.BTreeMap.{get}
use Rattle.std.specs.BTreeSet.{contains}
use Rattle.std.specs.Ordering.{nat_cmp}
use Rattle.hg_base.specs.Lists.{greatest}
use Rattle.hg_base.specs.Transcript.{Said, committed, greatest_commit}
use Rattle.hg_base.specs.Freshness.{known}
use Rattle.hg_known.specs.declared.before.Heard.{Heard}
use Rattle.hg_known.specs.declared.before.Committed.{Committed}

-- of each session, the greatest number that it printed, and 0 where it printed none
abbrev pub AreHeard : Heard → List Said → Type 0
AreHeard heard earlier = (j : ℕ) → unwrap_or (get nat_cmp heard.most j) 0 ≡ greatest (known j earlier)

-- the commit numbers that were printed
pub record AreCommitted (c : Committed) (earlier : List Said) : Type 0 where
  pub numbers : (n : ℕ) → contains nat_cmp c.numbers n ≡ list_any (λ m. m == n) (filter_map committed earlier)
  pub greatest : c.greatest ≡ greatest_commit earlier
