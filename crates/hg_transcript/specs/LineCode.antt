-- Lines as plain data, which a type can carry for proofs alone.
use Rattle.std.specs.Prelude.{List}
use Rattle.std.specs.Coded.{Coded, coded_list}
use Rattle.hg_base.specs.declared.line.Line.{Line}
use Rattle.hg_base.specs.contracts.line.Line.{the_row as line_row}

-- lines as plain data
abbrev pub lines_code : Coded (List Line)
lines_code = coded_list line_row.coded
