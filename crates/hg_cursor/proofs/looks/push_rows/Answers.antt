use Rattle.std.proofs.Common.{◌≡◌, ◌≤◌, ◌⊎◌, Some, None, ◌∙◌, subst, arith, rules}
use Rattle.std.specs.Prelude.{IfSome}
use Rattle.hg_rule.specs.Holding.{bucket}
use Rattle.hg_cursor.specs.Firsts.{count_upto}
use Rattle.hg_cursor.specs.Keys.{rows_at, IsOwnKey, IsWithin, HasVersion, read_of}
use Rattle.hg_cursor.proofs.Counting.{lower_needed}
use Rattle.hg_cursor.proofs.Keys.{unread}
use Rattle.hg_cursor.proofs.Rows.{IsSoFar, one_more, still_enough, still_within, ends}
use Rattle.hg_cursor.proofs.looks.push_rows.Goals as goal

pub push_row-requires : goal.push_row-requires
push_row-requires c =
    let here : IsWithin c.args.look.own c.loop-next.limit (Some c.in-Some.key) = subst (IsWithin c.args.look.own c.loop-next.limit) c.in-Some.is c.loop-next.invariant.within in
    lower_needed c.loop-next.firsts c.loop-next.limit c.in-Some.key here.1 c.loop-next.invariant.needed

pub loop-next-preserved : goal.loop-next-preserved
loop-next-preserved c =
    let l = c.args.look in
    let inv = c.loop-next.invariant in
    let key = c.in-Some.key in
    let lower = c.limit_after-limit.result in
    let here : IsWithin l.own c.loop-next.limit (Some key) = subst (IsWithin l.own c.loop-next.limit) c.in-Some.is inv.within in
    let within = c.limit_after-limit.ensures.within in
    record {
      below = let a = within.1 in let b = inv.below in omega (arith, a, b);
      within = still_within l.own key lower c.next_after-next.result (here.0, within.0) c.next_after-next.ensures.within;
      most = c.push_row.ensures.most ∙ inv.most;
      needed = c.limit_after-limit.ensures.needed;
      reached = (let own = here.0 in let key = within.0 in omega (arith, own, key));
      own_next = λ v b h are own. c.next_after-next.ensures.own v b h are (subst (λ o. IfSome o (IsOwnKey c.args.count b l.request.table)) c.in-Some.is (inv.own_next v b h are own));
      so_far = λ v b h are own.
          one_more (read_of c.args.by l.request.at l.request.table (bucket v).content)
          (HasVersion (bucket v).content l.request.table) l.own c.loop-next.limit lower c.args.firsts.now.rows (unread c.args.by l.request.at l.request.table (bucket v).content)
          c.loop-next.firsts.rows c.push_row.new.firsts.rows key c.next_after-next.result here within.0 within.1
          (subst (IsSoFar (read_of c.args.by l.request.at l.request.table (bucket v).content) l.own c.loop-next.limit c.args.firsts.now.rows c.loop-next.firsts.rows) c.in-Some.is
          (inv.so_far v b h are own))
          (c.in_ok-found.ensures.added v h)
          c.next_after-next.ensures.within
          (c.next_after-next.ensures.leads v b h are (subst (λ o. IfSome o (IsOwnKey c.args.count b l.request.table)) c.in-Some.is (inv.own_next v b h are own)));
      enough = λ v b h are own.
          still_enough c.args.firsts.now.most lower c.loop-next.limit l.limit c.loop-next.firsts.rows
          (rows_at key (read_of c.args.by l.request.at l.request.table (bucket v).content key).row) c.push_row.new.firsts.rows (c.in_ok-found.ensures.added v h)
          (subst (λ n. (lower ≡ c.loop-next.limit) ⊎ (n ≤ count_upto lower c.push_row.new.firsts.rows)) (c.push_row.ensures.most ∙ inv.most) c.limit_after-limit.ensures.enough)
          (inv.enough v b h are own);
    }

pub returns-clause-rows : goal.returns-clause-rows
returns-clause-rows c = λ v b h are own.
    let shown = read_of c.args.by c.args.look.request.at c.args.look.request.table (bucket v).content in
    let inv = c.loop-next.invariant in
    let none : c.loop-next.next ≡ None = search rules in
    ends shown c.args.firsts.now.most c.args.look.own c.loop-next.limit c.args.look.limit c.args.firsts.now.rows c.loop-next.firsts.rows
    (subst (IsSoFar shown c.args.look.own c.loop-next.limit c.args.firsts.now.rows c.loop-next.firsts.rows) none (inv.so_far v b h are own)) inv.below (inv.enough v b h are own)
