-- The bytes of a record.
use Rattle.std.specs.Prelude.{ℕ, List, ◌∷◌, true}
use Rattle.csv.specs.Writing.{default_writer, with_flexible, field_text, row_text}
use Rattle.csv.specs.declared.writer.WriterBuilder.{WriterBuilder}
use Rattle.hg_base.specs.Text.{Field}

-- a CSV writer with the crate's defaults, whose records may differ in length
abbrev pub flexible_writer : WriterBuilder
flexible_writer = with_flexible default_writer true

-- the bytes of a record
unfoldable pub record_bytes : List Field → List ℕ
record_bytes fields = row_text flexible_writer fields

-- the bytes of a field, and those of a field after another one
unfoldable pub field_bytes : Field → List ℕ
field_bytes field = field_text flexible_writer field

unfoldable pub further_bytes : Field → List ℕ
further_bytes field = 44 ∷ field_text flexible_writer field
