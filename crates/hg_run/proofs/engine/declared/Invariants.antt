use Rattle.std.proofs.Common.{◌≡◌, length, map, take}
use Rattle.hg_run.proofs.engine.declared.Given as goal

abbrev pub invariant-loop-table : goal.invariant-loop-table
invariant-loop-table l = (length l.tables.items ≡ l.table-index) × (map (λ t. t.columns) l.tables.items ≡ map (λ d. length d.kinds) (take l.table-index l.table-items))
