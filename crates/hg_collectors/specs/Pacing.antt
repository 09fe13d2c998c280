-- Over how many records how many rounds of each collector are spread.
use Rattle.std.specs.Prelude.{ℕ, ◌+◌, ◌-◌, ◌*◌, ◌/◌, ◌<◌, length}
use Rattle.hg_collectors.specs.declared.pace.Pace.{Pace}

-- Which of all rounds this one of a collector's worker is, where the three take turns: the group collector's first round is the first.
abbrev pub turn_of : ℕ → ℕ → ℕ
turn_of worker round = 3 * round + worker - 103

-- how many of so many records lie before the k-th of n rounds that are spread evenly over them
abbrev pub records_before : ℕ → ℕ → ℕ → ℕ
records_before records k n = records * k / (n + 1)

module _ {G : Type 0} where
  abbrev pub rounds_in : Pace G → ℕ
  rounds_in pace = pace.rounds

  abbrev pub records_in : Pace G → ℕ
  records_in pace = pace.records

  -- it counts the records of this session
  abbrev pub Counts : ℕ → Pace G → Type 0
  Counts session pace = 8 * session < length pace.begun.items
