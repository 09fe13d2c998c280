-- What is kept of the sessions while a script grows.
use Rattle.std.specs.Prelude.{◌≡◌, ℕ, ◌≤◌, List, get_or, length, nat_lt, Bool, false}
use Rattle.hg_base.specs.declared.limits.TheConstants.{MOST_SESSIONS}
use Rattle.hg_base.specs.declared.statement.Record.{Record}
use Rattle.hg_script.specs.Rules.{is_open, is_reading}

-- for each session, whether its transaction is open
abbrev pub KnowsOpen : List Bool → List Record → Type 0
KnowsOpen flags records = (j : ℕ) → j ≤ MOST_SESSIONS → get_or flags j false ≡ is_open j records

-- for each session, whether its cursor is open
abbrev pub KnowsReading : List Bool → List Record → Type 0
KnowsReading cursors records = (j : ℕ) → j ≤ MOST_SESSIONS → get_or cursors j false ≡ is_reading j records

-- for each session, by its number, whether its transaction is open and whether its cursor is
pub record OpenFlags : Type 0 where
  pub flags : List Bool
  pub cursors : List Bool

-- both are those after these records
abbrev pub KnowsSessions : OpenFlags → List Record → Type 0
KnowsSessions known records = KnowsOpen known.flags records × KnowsReading known.cursors records

-- so they are, and whether there is any record
abbrev pub KnowsRecords : Bool → OpenFlags → List Record → Type 0
KnowsRecords started known records = (started ≡ nat_lt 0 (length records)) × KnowsSessions known records
