use Rattle.std.proofs.Common.{ℕ}
use Rattle.std.specs.Prelude.{IfSome}
use Rattle.hg_rule.specs.declared.view.View.{View}
use Rattle.hg_rule.specs.Holding.{bucket}
use Rattle.hg_store.specs.Stores.{Holds}
use Rattle.hg_cursor.specs.Keys.{IsOwnKey, AreOwn, IsWithin, read_of}
use Rattle.hg_cursor.proofs.Rows.{IsSoFar, room}
use Rattle.hg_cursor.proofs.scans.push_rows.Given as goal

abbrev pub invariant-loop-next : goal.invariant-loop-next
invariant-loop-next l = record {
  within : IsWithin l.sought.own l.sought.range.high l.next;
  own_next : (v : View) (b : ℕ) → Holds v l.fn.held → AreOwn l.count b (bucket v).content → IsOwnKey l.count b l.sought.range.table l.sought.own →
      IfSome l.next (IsOwnKey l.count b l.sought.range.table);
  so_far : (v : View) (b : ℕ) → Holds v l.fn.held → AreOwn l.count b (bucket v).content → IsOwnKey l.count b l.sought.range.table l.sought.own →
      IsSoFar (read_of l.by l.sought.at l.sought.range.table (bucket v).content) l.sought.own l.sought.range.high l.fn.rows.items l.rows.items l.next;
}

abbrev pub decreases-loop-next : goal.decreases-loop-next
decreases-loop-next l = room l.sought.range.high l.next
