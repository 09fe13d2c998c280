-- The text of lines, and what a transcript is seen as.
use Rattle.std.specs.Prelude.{ℕ, List}
use Rattle.std.specs.List.{flat_map}
use Rattle.hg_base.specs.declared.line.Line.{Line}
use Rattle.hg_base.specs.Script.{Declaration}
use Rattle.hg_base.specs.Text.{line_records}
use Rattle.hg_records.specs.Bytes.{record_bytes}

-- the bytes of lines, over these tables
abbrev pub lines_text : List Declaration → List Line → List ℕ
lines_text tables lines = flat_map record_bytes (flat_map (line_records tables) lines)

-- what a transcript is seen as: the tables that its names are of, and its lines
pub record Shown : Type 0 where
  pub tables : List Declaration
  pub lines : List Line
