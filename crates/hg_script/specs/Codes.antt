-- The printed name of each code.
use Rattle.std.specs.Prelude.{ℕ, List, codes}
use Rattle.hg_script.specs.declared.code.Code.{Code}
use Rattle.hg_script.specs.declared.code.Code.TheVariants.{Count, Word, Fields, Number, Range, Name, Columns, Value, Order}

-- the text that a code is printed as, which is its name
abbrev pub code_text : Code → List ℕ
code_text Count = codes "Count"
code_text Word = codes "Word"
code_text Fields = codes "Fields"
code_text Number = codes "Number"
code_text Range = codes "Range"
code_text Name = codes "Name"
code_text Columns = codes "Columns"
code_text Value = codes "Value"
code_text Order = codes "Order"
