use Rattle.std.proofs.Common.{◌≡◌, List, length, take}
use Rattle.std.specs.List.{flat_map}
use Rattle.hg_base.specs.Script.{Declaration}
use Rattle.hg_base.specs.Text.{line_records}
use Rattle.hg_audit.proofs.verdict.count_before.Given as goal

abbrev pub invariant-loop-k : goal.invariant-loop-k
invariant-loop-k l = (tables : List Declaration) → l.count ≡ length (flat_map (line_records tables) (take l.k l.lines))
