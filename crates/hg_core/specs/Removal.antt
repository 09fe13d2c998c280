-- What a collector's pass takes of a record's versions.
-- The interval rule, and a bound for each table, are those of Lee et al., "Hybrid Garbage Collection for Multi-Version
-- Concurrency Control in SAP HANA", SIGMOD 2016, in outline.
use Rattle.std.specs.Prelude.{ℕ, List, [], ◌∷◌, Option, Some, None, if◌then◌else◌}
use Rattle.hg_base.specs.declared.rid.TableId.{TableId}
use Rattle.hg_base.specs.declared.report.Kind.{Kind}
use Rattle.hg_base.specs.declared.report.Kind.TheVariants.{Group, Interval, Table}
use Rattle.hg_base.specs.declared.value.Value.{Value}
use Rattle.hg_base.specs.Lifetimes.{goes}
use Rattle.hg_core.specs.Passes.{PassRecord, horizon, recorded, group_bound, table_bound}
use Rattle.hg_core.specs.declared.version.Stamp.TheVariants.{Oldest}
use Rattle.hg_core.specs.declared.version.Version.{Version}
use Rattle.hg_core.specs.Versions.{stamp_number, is_up_to}

-- what a sweep leaves of the versions that follow a successor with that number
abbrev pub swept : ℕ → List ℕ → Option ℕ → List Version → List Version
swept horizon snapshots successor [] = []
swept horizon snapshots successor (v ∷ vs) =
    if goes horizon snapshots successor (stamp_number v.stamp)
    then swept horizon snapshots (stamp_number v.stamp) vs
    else v ∷ swept horizon snapshots (stamp_number v.stamp) vs

-- a row with its number is the oldest image; a deletion leaves nothing
abbrev pub oldest : Option ℕ → Option (List Value) → List Version
oldest None row = []
oldest (Some number) None = []
oldest (Some number) (Some row) = record { stamp = Oldest number; image = record { row = Some row } } ∷ []

-- what a cut leaves: all versions over the bound, and the newest of the others as the oldest image
abbrev pub cut : ℕ → List Version → List Version
cut bound [] = []
cut bound (v ∷ vs) = if is_up_to bound (stamp_number v.stamp) then oldest (stamp_number v.stamp) v.image.row else v ∷ cut bound vs

-- what a pass leaves: the group collector cuts at its bound, the table collector at the table's bound, and the interval
-- collector sweeps with the horizon and the snapshots that count for the table
abbrev pub reclaimed : Kind → TableId → PassRecord → List Version → List Version
reclaimed Group table pass vs = cut (group_bound pass) vs
reclaimed Table table pass vs = cut (table_bound table pass) vs
reclaimed Interval table pass vs = swept (horizon pass) (recorded table pass) None vs
