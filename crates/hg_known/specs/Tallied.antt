-- How many versions lines made.
use Rattle.std.specs.Prelude.{◌≡◌, ℕ, List, [], ◌∷◌, length, filter, not, unwrap_or, IsFalse}
use Rattle.std.specs.List.{cons_option}
use Rattle.std.specs.BTreeMap.{get}
use Rattle.hg_base.specs.Transcript.{Said, is_of}
use Rattle.hg_base.specs.Counts.{first_write, first_writes, is_committed}
use Rattle.hg_known.specs.declared.tally.Tally.{Tally}
use Rattle.hg_known.specs.declared.tally.Versions.{Versions}
use Rattle.hg_known.specs.Ended.{tx, tx_order, is_over}

-- the first writes of lines, newest first
abbrev pub firsts : List Said → List Said
firsts [] = []
firsts (now ∷ earlier) = cons_option (first_write earlier now) (firsts earlier)

-- one version for each first write; those of transactions with a commit number are kept, and those of each open transaction counted
pub record AreTallied (versions : Versions) (earlier : List Said) : Type 0 where
  pub made : versions.made ≡ length (firsts earlier)
  pub kept : versions.kept ≡ length (filter (is_committed earlier) (firsts earlier))
  pub pending : (j x : ℕ) → IsFalse (is_over j x earlier) → unwrap_or (get tx_order versions.pending (tx j x)) 0 ≡ length (filter (is_of j x) (firsts earlier))

-- the versions that lines made, and those without a commit number
pub record IsTally (tally : Tally) (all : List Said) : Type 0 where
  pub made : tally.made ≡ length (first_writes all)
  pub undone : tally.undone ≡ length (filter (λ said. not (is_committed all said)) (first_writes all))
