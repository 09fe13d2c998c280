use Rattle.std.proofs.Common.{◌≡◌, take}
use Rattle.std.specs.List.{list_any}
use Rattle.hg_known.specs.Asked.{names_writer, tells_held}
use Rattle.hg_known.proofs.context.find_wants.Given as goal

abbrev pub invariant-loop-k : goal.invariant-loop-k
invariant-loop-k l = record {
  numbers : l.numbers ≡ list_any names_writer (take l.k l.all);
  points : l.points ≡ list_any tells_held (take l.k l.all);
}
