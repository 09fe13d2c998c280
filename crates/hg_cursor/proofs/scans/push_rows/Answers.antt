use Rattle.std.proofs.Common.{◌≡◌, Some, None, subst, rules, arith}
use Rattle.std.specs.Prelude.{IfSome}
use Rattle.hg_rule.specs.Holding.{bucket}
use Rattle.hg_cursor.specs.Keys.{IsOwnKey, IsWithin, HasVersion, read_of}
use Rattle.hg_cursor.proofs.Keys.{unread}
use Rattle.hg_cursor.proofs.Rows.{IsSoFar, begins, one_more, still_within}
use Rattle.hg_cursor.proofs.scans.push_rows.Goals as goal

pub loop-next-init : goal.loop-next-init
loop-next-init c =
    let s = c.args.sought in
    record {
      within = c.next_from-next.ensures.within;
      own_next = λ v b h are own. c.next_from-next.ensures.own v b h are own;
      so_far = λ v b h are own.
          begins (read_of c.args.by s.at s.range.table (bucket v).content) (HasVersion (bucket v).content s.range.table) s.own s.range.high c.args.rows.now.items
          (unread c.args.by s.at s.range.table (bucket v).content) c.next_from-next.result (c.next_from-next.ensures.leads v h);
    }

pub loop-next-preserved : goal.loop-next-preserved
loop-next-preserved c =
    let s = c.args.sought in
    let inv = c.loop-next.invariant in
    let key = c.in-Some.key in
    let next = c.next_after-next.result in
    let here : IsWithin s.own s.range.high (Some key) = subst (IsWithin s.own s.range.high) c.in-Some.is inv.within in
    record {
      within = still_within s.own key s.range.high next here c.next_after-next.ensures.within;
      own_next = λ v b h are own. c.next_after-next.ensures.own v b h are (subst (λ o. IfSome o (IsOwnKey c.args.count b s.range.table)) c.in-Some.is (inv.own_next v b h are own));
      so_far = λ v b h are own.
          let shown = read_of c.args.by s.at s.range.table (bucket v).content in
          one_more shown (HasVersion (bucket v).content s.range.table) s.own s.range.high s.range.high c.args.rows.now.items
          (unread c.args.by s.at s.range.table (bucket v).content) c.loop-next.rows.items c.push_row.new.rows.items key next here here.1 (omega arith)
          (subst (IsSoFar shown s.own s.range.high c.args.rows.now.items c.loop-next.rows.items) c.in-Some.is (inv.so_far v b h are own))
          (c.in_ok-found.ensures v h)
          c.next_after-next.ensures.within
          (c.next_after-next.ensures.leads v b h are (subst (λ o. IfSome o (IsOwnKey c.args.count b s.range.table)) c.in-Some.is (inv.own_next v b h are own)));
    }

pub returns : goal.returns
returns c = λ v b h are own.
    let s = c.args.sought in
    let none : c.loop-next.next ≡ None = search rules in
    let all = subst (IsSoFar (read_of c.args.by s.at s.range.table (bucket v).content) s.own s.range.high c.args.rows.now.items c.loop-next.rows.items) none (c.loop-next.invariant.so_far v b h are own) in
    record { more = all.more; is = all.is; rows = record { ascend = all.ascend; each = all.each; every = λ key l m. all.every key l m tt } }
