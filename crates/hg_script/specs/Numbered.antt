-- Places, which are counted and not kept.
use Rattle.std.specs.Prelude.{◌≡◌, ℕ, ◌+◌, ◌<◌, ◌==◌, List, [], ◌∷◌, length, get_or, if◌then◌else◌}
use Rattle.hg_base.specs.declared.statement.Record.{Record}
use Rattle.hg_base.specs.declared.statement.Statement.{Statement}
use Rattle.hg_base.specs.Script.{Script}

-- statements with their sessions, of which the first stands at this place
abbrev pub numbered : ℕ → List (ℕ × Statement) → List Record
numbered place [] = []
numbered place (said ∷ more) = (record { place = place; session = said.0; statement = said.1 }) ∷ numbered (place + 1) more

-- how many records stand before the statements of a script of this version with so many tables: the tables, and the version
-- record, which version 1 has not
abbrev pub many_before : ℕ → ℕ → ℕ
many_before version tables = tables + (if version == 1 then 0 else 1)

-- how many records stand before the statements of this script
abbrev pub records_before : Script → ℕ
records_before s = many_before s.version (length s.tables)

-- the places of the statements go on from the records before them
abbrev pub AreNumbered : Script → Type 0
AreNumbered s = (i : ℕ) (d : Record) → i < length s.records → (get_or s.records i d).place ≡ records_before s + i + 1

-- the place of the next statement
abbrev pub next_place : Script → ℕ
next_place s = records_before s + length s.records + 1
