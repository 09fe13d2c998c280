-- The records of a script in the order of their lines.
use Rattle.std.specs.Prelude.{◌≡◌, ℕ, ◌+◌, ◌-◌, ◌<◌, Bool, List, ◌++◌, length, map, get_or, nat_lt, if◌then◌else◌}
use Rattle.std.specs.List.{flat_map}
use Rattle.hg_base.specs.declared.report.Kind.{Kind}
use Rattle.hg_base.specs.declared.report.Kind.TheVariants as kinds
use Rattle.hg_base.specs.declared.statement.Record.{Record}
use Rattle.hg_base.specs.declared.statement.Statement.TheVariants.{Commit, Gc}
use Rattle.hg_base.specs.Script.{Script}
use Rattle.hg_base.specs.Transcript.{of_session, rounds_of, sessions_of}

-- the record that is answered for an index out of range
abbrev pub no_record : Record
no_record = record { place = 0; session = 0; statement = Commit }

-- the record of a script at an index
abbrev pub record_at : Script → ℕ → Record
record_at script i = get_or script.records i no_record

-- the script has a record at this index
abbrev pub IsIndex : Script → ℕ → Type 0
IsIndex script i = i < length script.records

-- this record is the script's at this index
abbrev pub IsIndexOf : Script → Record → ℕ → Type 0
IsIndexOf script r i = IsIndex script i × (record_at script i ≡ r)

-- this record is one of the script's
abbrev pub IsRecordOf : Script → Record → Type 0
IsRecordOf script r = (i : ℕ) × IsIndexOf script r i

-- the records of sessions, by session
abbrev pub shown_of : List Record → List Record
shown_of records = flat_map (λ j. of_session j records) (sessions_of records)

-- records, and after them one for each round of each collector
abbrev pub with_rounds : List Record → ℕ → List Record
with_rounds shown n = shown ++ rounds_of kinds.Group n ++ rounds_of kinds.Table n ++ rounds_of kinds.Interval n

-- the records of a script as they stand, or those at these indices with as many rounds
abbrev pub sequence_of : Bool → Script → List ℕ → ℕ → List Record
sequence_of plain script is n = if plain then script.records else with_rounds (map (record_at script) is) n

-- the record of a collector's round: session 0 runs it at place n
abbrev pub round : Kind → ℕ → Record
round kind n = record { place = n; session = 0; statement = Gc kind }

-- the i-th record for rounds, of n rounds of each collector
abbrev pub round_at : ℕ → ℕ → Record
round_at i n = if nat_lt i n then round kinds.Group (i + 1) else if nat_lt (i - n) n then round kinds.Table (i - n + 1) else round kinds.Interval (i - n - n + 1)
