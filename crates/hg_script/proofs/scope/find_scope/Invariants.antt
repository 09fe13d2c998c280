use Rattle.std.proofs.Common.{◌≡◌, drop, fold, Some}
use Rattle.csv.specs.Records.{fields_of}
use Rattle.hg_script.specs.Draft.{set_named, with_named}
use Rattle.hg_script.proofs.scope.find_scope.Given as goal

abbrev pub invariant-loop-i : goal.invariant-loop-i
invariant-loop-i l = fold (with_named l.tables) (Some l.mask) (drop l.i (fields_of l.row)) ≡ set_named l.tables (drop 2 (fields_of l.row))
