-- Texts that are broken in one place: that of a transaction that reads its own write, and that of a cursor.
use Rattle.std.specs.Prelude.{[], ◌∷◌, pos}
use Rattle.hg_base.specs.declared.line.Answer.TheVariants.{Begun, Stored, Committed}
use Rattle.hg_base.specs.declared.line.Printed.{Printed}
use Rattle.hg_decide.specs.Writing.{totals, row, rows, line}
use Rattle.hg_decide.specs.Examples.{cursor_by}

-- 8 is read where 7 was written
abbrev pub another_row : Printed
another_row = record { lines = line 1 2 (Begun 0) ∷ line 1 3 Stored ∷ line 1 4 (row (pos 8)) ∷ line 1 5 (Committed 1) ∷ []; totals = totals 1 0 0 0 0 1 }

-- the first commit number is 2
abbrev pub another_number : Printed
another_number = record { lines = line 1 2 (Begun 0) ∷ line 1 3 Stored ∷ line 1 4 (row (pos 7)) ∷ line 1 5 (Committed 2) ∷ []; totals = totals 1 0 0 0 0 1 }

-- the transaction begins at the number that it is to commit with
abbrev pub another_snapshot : Printed
another_snapshot = record { lines = line 1 2 (Begun 1) ∷ line 1 3 Stored ∷ line 1 4 (row (pos 7)) ∷ line 1 5 (Committed 1) ∷ []; totals = totals 1 0 0 0 0 1 }

-- no version is left of a record that is a row
abbrev pub none_left : Printed
none_left = record { lines = line 1 2 (Begun 0) ∷ line 1 3 Stored ∷ line 1 4 (row (pos 7)) ∷ line 1 5 (Committed 1) ∷ []; totals = totals 1 0 0 0 0 0 }

-- the reply to the third record is missing
abbrev pub without_a_line : Printed
without_a_line = record { lines = line 1 2 (Begun 0) ∷ line 1 3 Stored ∷ line 1 5 (Committed 1) ∷ []; totals = totals 1 0 0 0 0 1 }

-- ---- a scan in parts, of which one fetch is broken

-- the last row is left out
abbrev pub row_skipped : Printed
row_skipped = (cursor_by (rows ((1, pos 10) ∷ (2, pos 20) ∷ [])) (rows []) (rows [])).printed

-- a row is given again
abbrev pub row_twice : Printed
row_twice = (cursor_by (rows ((1, pos 10) ∷ (2, pos 20) ∷ [])) (rows ((2, pos 20) ∷ (3, pos 30) ∷ [])) (rows [])).printed

-- a row is given as a later commit left it
abbrev pub row_too_new : Printed
row_too_new = (cursor_by (rows ((1, pos 10) ∷ (2, pos 20) ∷ [])) (rows ((3, pos 32) ∷ [])) (rows [])).printed

-- more rows are given than were asked for
abbrev pub too_many_rows : Printed
too_many_rows = (cursor_by (rows ((1, pos 10) ∷ (2, pos 20) ∷ (3, pos 30) ∷ [])) (rows []) (rows [])).printed

-- fewer rows are given than were asked for, and than there are
abbrev pub too_few_rows : Printed
too_few_rows = (cursor_by (rows ((1, pos 10) ∷ [])) (rows ((2, pos 20) ∷ (3, pos 30) ∷ [])) (rows [])).printed
