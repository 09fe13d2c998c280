use Rattle.std.proofs.Common.{◌≡◌, ℕ, ◌≤◌, ◌⊎◌}
use Rattle.std.specs.Prelude.{IfSome}
use Rattle.hg_rule.specs.declared.view.View.{View}
use Rattle.hg_rule.specs.Holding.{bucket}
use Rattle.hg_store.specs.Stores.{Holds}
use Rattle.hg_cursor.specs.Firsts.{count_upto, IsNeeded}
use Rattle.hg_cursor.specs.Keys.{IsOwnKey, AreOwn, IsWithin, read_of}
use Rattle.hg_cursor.proofs.Rows.{IsSoFar, room}
use Rattle.hg_cursor.proofs.looks.push_rows.Given as goal

abbrev pub invariant-loop-next : goal.invariant-loop-next
invariant-loop-next l = record {
  below : l.limit ≤ l.look.limit;
  within : IsWithin l.look.own l.limit l.next;
  most : l.firsts.most ≡ l.fn.firsts.most;
  needed : IsNeeded l.limit l.firsts;
  reached : l.look.own ≤ l.limit;
  own_next : (v : View) (b : ℕ) → Holds v l.fn.held → AreOwn l.count b (bucket v).content → IsOwnKey l.count b l.look.request.table l.look.own →
      IfSome l.next (IsOwnKey l.count b l.look.request.table);
  so_far : (v : View) (b : ℕ) → Holds v l.fn.held → AreOwn l.count b (bucket v).content → IsOwnKey l.count b l.look.request.table l.look.own →
      IsSoFar (read_of l.by l.look.request.at l.look.request.table (bucket v).content) l.look.own l.limit l.fn.firsts.rows l.firsts.rows l.next;
  enough : (v : View) (b : ℕ) → Holds v l.fn.held → AreOwn l.count b (bucket v).content → IsOwnKey l.count b l.look.request.table l.look.own →
      (l.limit ≡ l.look.limit) ⊎ (l.fn.firsts.most ≤ count_upto l.limit l.firsts.rows);
}

abbrev pub decreases-loop-next : goal.decreases-loop-next
decreases-loop-next l = room l.look.limit l.next
