use Rattle.std.proofs.Common.{List, length, take, drop, sym, ap, ◌∙◌, subst, arith}
use Rattle.std.specs.Prelude.{get_or}
use Rattle.hg_rule.specs.declared.board.Board.{Board}
use Rattle.hg_rule.specs.declared.view.View.{View}
use Rattle.hg_rule.specs.Facts.{StartsWith}
use Rattle.hg_rule.specs.Rules.{IsBacked}
use Rattle.hg_rule.specs.Seats.{session_view, sizes_of}
use Rattle.hg_session.specs.declared.session.Session.{Session}
use Rattle.hg_session.specs.Engines.{engine_sizes}
use Rattle.hg_session.specs.Finished.{logs_of}
use Rattle.hg_session.specs.Lent.{HasSeenMore}
use Rattle.hg_session.specs.Sessions.{IsOf}
use Rattle.hg_session.specs.SoFar.{ShowLogs}
use Rattle.hg_session.proofs.AllBack.{front_is, joined_again}
use Rattle.hg_session.proofs.OneHolder.{back_own, show_logs, mid_numbers, mid_alone, mid_unstamped, mid_parts, all_back, all_there, are_so_far}
use Rattle.hg_session.proofs.so_far.count_so_far.Goals as goal

pub lend_all-requires-clause-own : goal.lend_all-requires-clause-own
lend_all-requires-clause-own g c =
    let front = c.split_at_mut-front.ensures.front ∙ ap (λ (l : List Session). take 1 l) c.deref_mut.ensures.value in
    let back = c.split_at_mut-front.ensures.back ∙ ap (λ (l : List Session). drop 1 l) c.deref_mut.ensures.value in
    let v = session_view (get_or c.split_at_mut-front.result.0.now 0 c.index-front-0.result).pass in
    back_own c.args.engine.now c.args.list.now.items c.split_at_mut-front.result.0.now c.split_at_mut-front.result.1.now c.split_at_mut-front.result.1.now c.index-front-0.result v
    front back c.requires.some c.requires.many c.requires.own c.requires.numbers

pub lend_all-requires-clause-holder : goal.lend_all-requires-clause-holder
lend_all-requires-clause-holder g c =
    let x = c.index-front-0.result in
    (subst (IsOf c.args.engine.now) (sym (front_is c.args.list.now.items c.split_at_mut-front.result.0.now x x
    (c.split_at_mut-front.ensures.front ∙ ap (λ (l : List Session). take 1 l) c.deref_mut.ensures.value) c.requires.some)) (c.requires.own x 0 c.requires.some)).pass

pub count_each-totals-requires-clause-logs : goal.count_each-totals-requires-clause-logs
count_each-totals-requires-clause-logs g c =
    let front = c.split_at_mut-front.ensures.front ∙ ap (λ (l : List Session). take 1 l) c.deref_mut.ensures.value in
    let back = c.split_at_mut-front.ensures.back ∙ ap (λ (l : List Session). drop 1 l) c.deref_mut.ensures.value in
    let did = c.lend_all.ensures in (
      logs_of c.args.list.now.items,
      subst (λ (y : View). ShowLogs (engine_sizes c.args.engine.now) y.parts (logs_of c.args.list.now.items)) (sym c.look_at.ensures.stays)
          (show_logs c.args.engine.now c.args.list.now.items c.split_at_mut-front.result.0.now c.split_at_mut-front.result.1.now c.lend_all.new.list c.index-front-0.result
          (session_view c.lend_all.new.holder) front back c.requires.some c.requires.many c.requires.own c.requires.numbers did.many did.lent did.parts did.kept did.heard),
    )

pub return_all-requires-clause-away : goal.return_all-requires-clause-away
return_all-requires-clause-away g c d k within = (c.lend_all.ensures.lent d k (let same = c.lend_all.ensures.many in omega (arith, within, same))).own

pub return_all-requires-clause-numbers : goal.return_all-requires-clause-numbers
return_all-requires-clause-numbers g c =
    let front = c.split_at_mut-front.ensures.front ∙ ap (λ (l : List Session). take 1 l) c.deref_mut.ensures.value in
    let back = c.split_at_mut-front.ensures.back ∙ ap (λ (l : List Session). drop 1 l) c.deref_mut.ensures.value in
    let did = c.lend_all.ensures in
    mid_numbers c.args.engine.now c.args.list.now.items c.split_at_mut-front.result.0.now c.split_at_mut-front.result.1.now c.lend_all.new.list c.index-front-0.result
    (session_view c.lend_all.new.holder) front back c.requires.some c.requires.many c.requires.own c.requires.numbers did.many did.lent did.parts did.kept did.heard

pub return_all-requires-clause-alone : goal.return_all-requires-clause-alone
return_all-requires-clause-alone g c =
    let front = c.split_at_mut-front.ensures.front ∙ ap (λ (l : List Session). take 1 l) c.deref_mut.ensures.value in
    let back = c.split_at_mut-front.ensures.back ∙ ap (λ (l : List Session). drop 1 l) c.deref_mut.ensures.value in
    let did = c.lend_all.ensures in
    mid_alone c.args.engine.now c.args.list.now.items c.split_at_mut-front.result.0.now c.split_at_mut-front.result.1.now c.lend_all.new.list c.index-front-0.result
    (session_view c.lend_all.new.holder) front back c.requires.some c.requires.many c.requires.own c.requires.numbers did.many did.lent did.parts did.kept did.heard

pub return_all-requires-clause-unstamped : goal.return_all-requires-clause-unstamped
return_all-requires-clause-unstamped g c =
    let front = c.split_at_mut-front.ensures.front ∙ ap (λ (l : List Session). take 1 l) c.deref_mut.ensures.value in
    let back = c.split_at_mut-front.ensures.back ∙ ap (λ (l : List Session). drop 1 l) c.deref_mut.ensures.value in
    let did = c.lend_all.ensures in
    mid_unstamped c.args.engine.now c.args.list.now.items c.split_at_mut-front.result.0.now c.split_at_mut-front.result.1.now c.lend_all.new.list c.index-front-0.result
    (session_view c.lend_all.new.holder) front back c.requires.some c.requires.many c.requires.own c.requires.numbers did.many did.lent did.parts did.kept did.heard

pub return_all-requires-clause-parts : goal.return_all-requires-clause-parts
return_all-requires-clause-parts g c =
    let front = c.split_at_mut-front.ensures.front ∙ ap (λ (l : List Session). take 1 l) c.deref_mut.ensures.value in
    let back = c.split_at_mut-front.ensures.back ∙ ap (λ (l : List Session). drop 1 l) c.deref_mut.ensures.value in
    let did = c.lend_all.ensures in
    mid_parts c.args.engine.now c.args.list.now.items c.split_at_mut-front.result.0.now c.split_at_mut-front.result.1.now c.lend_all.new.list c.index-front-0.result
    (session_view c.lend_all.new.holder) front back c.requires.some c.requires.many c.requires.own c.requires.numbers did.many did.lent did.parts did.kept did.heard
    (session_view c.count_each-totals.new.holder) (c.count_each-totals.ensures.parts ∙ ap (λ (y : View). y.parts) c.look_at.ensures.stays)

pub returns-clause-counted : goal.returns-clause-counted
returns-clause-counted g c =
    let front = c.split_at_mut-front.ensures.front ∙ ap (λ (l : List Session). take 1 l) c.deref_mut.ensures.value in
    let back = c.split_at_mut-front.ensures.back ∙ ap (λ (l : List Session). drop 1 l) c.deref_mut.ensures.value in
    let did = c.lend_all.ensures in
    let list = c.args.list.now.items in
    let u = session_view c.lend_all.new.holder in
    let e = c.args.engine.now in
    let k : IsBacked (engine_sizes e) c.look_at.result (session_view c.look_at.new.pass) =
    subst (λ (b : Board). IsBacked (sizes_of b) c.look_at.result (session_view c.look_at.new.pass)) c.board.ensures c.look_at.ensures.backed in
    let show = show_logs e list c.split_at_mut-front.result.0.now c.split_at_mut-front.result.1.now c.lend_all.new.list c.index-front-0.result u front back c.requires.some c.requires.many
    c.requires.own c.requires.numbers did.many did.lent did.parts did.kept did.heard in
    are_so_far e list c.split_at_mut-front.result.0.now c.split_at_mut-front.result.1.now c.lend_all.new.list c.index-front-0.result u front back c.requires.some c.requires.many
    c.requires.own c.requires.numbers did.many did.lent did.parts did.kept did.heard c.look_at.result (session_view c.look_at.new.pass) c.look_at.ensures.stays k
    (let s = e.shared.value.some in let are = e.shared.value.buckets_are in omega (arith, s, are)) c.count_each-totals.result
    (c.count_each-totals.ensures.counted (logs_of list) (subst (λ (y : View). ShowLogs (engine_sizes e) y.parts (logs_of list)) (sym c.look_at.ensures.stays) show))

pub returns-clause-many : goal.returns-clause-many
returns-clause-many g c =
    let front = c.split_at_mut-front.ensures.front ∙ ap (λ (l : List Session). take 1 l) c.deref_mut.ensures.value in
    let back = c.split_at_mut-front.ensures.back ∙ ap (λ (l : List Session). drop 1 l) c.deref_mut.ensures.value in
    let did = c.lend_all.ensures in
    let done = c.return_all.ensures in
    let count = c.count_each-totals.ensures in
    let e = c.args.engine.now in
    let list = c.args.list.now.items in
    let fs = c.split_at_mut-front.result.0.now in
    let bs = c.split_at_mut-front.result.1.now in
    let x = c.index-front-0.result in
    let u = session_view c.lend_all.new.holder in
    let p = c.return_all.new.holder in
    let ns = c.return_all.new.list in
    let kept = subst (λ (y : View). StartsWith (session_view c.count_each-totals.new.holder).sights y.sights) c.look_at.ensures.stays count.kept in
    let is = count.parts ∙ ap (λ (y : View). y.parts) c.look_at.ensures.stays in
    let there = all_there e list fs bs c.lend_all.new.list x u front back c.requires.some c.requires.many c.requires.own c.requires.numbers did.many did.lent did.parts did.kept did.heard
    (session_view c.count_each-totals.new.holder) p ns is kept done.many done.back done.parts done.kept done.held in
    let whole = joined_again c.args.list.now.len list fs ns (record (get_or fs 0 x) { pass = p }) front c.requires.some
    (sym c.deref_mut.ensures.len ∙ ap (λ (l : List Session). length l) c.deref_mut.ensures.value) there in
    ap (λ (l : List Session). length l) whole ∙ there

pub returns-clause-same : goal.returns-clause-same
returns-clause-same g c d k within =
    let front = c.split_at_mut-front.ensures.front ∙ ap (λ (l : List Session). take 1 l) c.deref_mut.ensures.value in
    let back = c.split_at_mut-front.ensures.back ∙ ap (λ (l : List Session). drop 1 l) c.deref_mut.ensures.value in
    let did = c.lend_all.ensures in
    let done = c.return_all.ensures in
    let count = c.count_each-totals.ensures in
    let e = c.args.engine.now in
    let list = c.args.list.now.items in
    let fs = c.split_at_mut-front.result.0.now in
    let bs = c.split_at_mut-front.result.1.now in
    let x = c.index-front-0.result in
    let u = session_view c.lend_all.new.holder in
    let p = c.return_all.new.holder in
    let ns = c.return_all.new.list in
    let kept = subst (λ (y : View). StartsWith (session_view c.count_each-totals.new.holder).sights y.sights) c.look_at.ensures.stays count.kept in
    let is = count.parts ∙ ap (λ (y : View). y.parts) c.look_at.ensures.stays in
    let there = all_there e list fs bs c.lend_all.new.list x u front back c.requires.some c.requires.many c.requires.own c.requires.numbers did.many did.lent did.parts did.kept did.heard
    (session_view c.count_each-totals.new.holder) p ns is kept done.many done.back done.parts done.kept done.held in
    let whole = joined_again c.args.list.now.len list fs ns (record (get_or fs 0 x) { pass = p }) front c.requires.some
    (sym c.deref_mut.ensures.len ∙ ap (λ (l : List Session). length l) c.deref_mut.ensures.value) there in
    subst (λ l. HasSeenMore e (get_or list k d) (get_or l k d)) (sym whole)
    (all_back e list fs bs c.lend_all.new.list x u front back c.requires.some c.requires.many c.requires.own c.requires.numbers did.many did.lent did.parts did.kept did.heard
    (session_view c.count_each-totals.new.holder) p ns is kept done.many done.back done.parts done.kept done.held d k within)
