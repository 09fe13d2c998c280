-- What the interval collector leaves of a record.
use Rattle.std.specs.Prelude.{List}
use Rattle.hg_base.specs.declared.rid.Rid.{Rid}
use Rattle.hg_core.specs.declared.version.Version.{Version}
use Rattle.hg_core.specs.Clean.{IsClean}
use Rattle.hg_core.specs.Passes.{PassRecord, horizon, recorded}

-- the versions are clean for what a pass loaded: its horizon, and the snapshots that count for the record's table
abbrev pub IsCleanBy : PassRecord → Rid → List Version → Type 0
IsCleanBy p r versions = IsClean (horizon p) (recorded r.table p) versions
