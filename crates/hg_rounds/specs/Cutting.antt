-- What the table collector leaves of a record.
use Rattle.std.specs.Prelude.{List}
use Rattle.hg_base.specs.declared.rid.Rid.{Rid}
use Rattle.hg_core.specs.declared.version.Version.{Version}
use Rattle.hg_core.specs.Clean.{IsCutAt}
use Rattle.hg_core.specs.Passes.{PassRecord, table_bound}

-- the versions are cut at the bound of the record's table, by what a pass loaded and moved
abbrev pub IsCutBy : PassRecord → Rid → List Version → Type 0
IsCutBy p r versions = IsCutAt (table_bound r.table p) versions
