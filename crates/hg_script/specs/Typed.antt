-- How the reader takes the values of a put in version 2 where all columns are numbers.
use Rattle.std.specs.Prelude.{ℕ, Bool, true, false}
use Rattle.hg_base.specs.declared.value.Column.{Column}
use Rattle.hg_base.specs.declared.value.Column.TheVariants as column
use Rattle.hg_script.specs.declared.values.Values.{Values}
use Rattle.hg_script.specs.declared.values.Values.TheVariants.{No, Over, Bad, Are}

-- whether a column holds numbers
abbrev pub holds_numbers : Column → Bool
holds_numbers column.Number = true
holds_numbers column.Text = false

-- what numbers are where so many columns are numbers all
abbrev pub or_bad : ℕ → Values → Values
or_bad count No = Bad count
or_bad count Over = Bad count
or_bad count (Bad n) = Bad count
or_bad count (Are row) = Are row
