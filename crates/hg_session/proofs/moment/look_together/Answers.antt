use Rattle.std.proofs.Common.{List, length, take, drop, sym, ap, ◌∙◌, subst}
use Rattle.std.specs.Prelude.{get_or}
use Rattle.hg_rule.specs.declared.board.Board.{Board}
use Rattle.hg_rule.specs.declared.view.View.{View}
use Rattle.hg_rule.specs.Agreed.{IsMet}
use Rattle.hg_rule.specs.Seats.{pass_view, session_view, sizes_of}
use Rattle.hg_session.specs.declared.session.Session.{Session}
use Rattle.hg_session.specs.Lent.{HasSeenMore}
use Rattle.hg_session.specs.Passing.{passes_with}
use Rattle.hg_session.proofs.AllBack.{joined_again}
use Rattle.hg_session.proofs.AtOnce.{at_once, met_three, together}
use Rattle.hg_session.proofs.OneHolder.{held_parts, mid_parts, all_back, all_there}
use Rattle.hg_session.proofs.moment.look_together.Goals as goal

pub return_all-requires-clause-parts : goal.return_all-requires-clause-parts
return_all-requires-clause-parts c =
    let front = c.split_at_mut-front.ensures.front ∙ ap (λ (l : List Session). take 1 l) c.deref_mut.ensures.value in
    let back = c.split_at_mut-front.ensures.back ∙ ap (λ (l : List Session). drop 1 l) c.deref_mut.ensures.value in
    let did = c.lend_all.ensures in
    mid_parts c.args.engine.now c.args.list.now.items c.split_at_mut-front.result.0.now c.split_at_mut-front.result.1.now c.lend_all.new.list c.index-front-0.result
    (session_view c.lend_all.new.holder) front back c.requires.some c.requires.many c.requires.own c.requires.numbers did.many did.lent did.parts did.kept did.heard
    (session_view c.meet_three.new.self) (ap (λ (y : View). y.parts) c.meet_three.ensures.view)

pub returns-clause-moment : goal.returns-clause-moment
returns-clause-moment c =
    let front = c.split_at_mut-front.ensures.front ∙ ap (λ (l : List Session). take 1 l) c.deref_mut.ensures.value in
    let back = c.split_at_mut-front.ensures.back ∙ ap (λ (l : List Session). drop 1 l) c.deref_mut.ensures.value in
    let did = c.lend_all.ensures in
    let e = c.args.engine.now in
    let list = c.args.list.now.items in
    let fs = c.split_at_mut-front.result.0.now in
    let bs = c.split_at_mut-front.result.1.now in
    let x = c.index-front-0.result in
    let u = session_view c.lend_all.new.holder in
    let passes = passes_with c.args.group.now c.args.table.now c.args.interval.now in
    let held = held_parts e list fs bs c.lend_all.new.list x u front back c.requires.some c.requires.many c.requires.own c.requires.numbers did.many did.lent did.parts did.kept did.heard in
    let met = subst (λ (b : Board). IsMet (sizes_of b) (together e list fs bs x u passes front back c.requires.many c.requires.numbers held c.requires.alone)) c.board.ensures
    c.meet_three.ensures.backed in
    at_once e list fs bs x u passes front back c.requires.many c.requires.numbers held c.requires.alone met.mark met.backed

pub returns-clause-same : goal.returns-clause-same
returns-clause-same c d k within =
    let front = c.split_at_mut-front.ensures.front ∙ ap (λ (l : List Session). take 1 l) c.deref_mut.ensures.value in
    let back = c.split_at_mut-front.ensures.back ∙ ap (λ (l : List Session). drop 1 l) c.deref_mut.ensures.value in
    let did = c.lend_all.ensures in
    let done = c.return_all.ensures in
    let e = c.args.engine.now in
    let list = c.args.list.now.items in
    let fs = c.split_at_mut-front.result.0.now in
    let bs = c.split_at_mut-front.result.1.now in
    let x = c.index-front-0.result in
    let u = session_view c.lend_all.new.holder in
    let w = session_view c.meet_three.new.self in
    let p = c.return_all.new.holder in
    let ns = c.return_all.new.list in
    let is = ap (λ (y : View). y.parts) c.meet_three.ensures.view in
    let kept = met_three u (pass_view c.args.group.now) (pass_view c.args.table.now) (pass_view c.args.interval.now) w c.meet_three.ensures.view in
    let there = all_there e list fs bs c.lend_all.new.list x u front back c.requires.some c.requires.many c.requires.own c.requires.numbers did.many did.lent did.parts did.kept did.heard
    w p ns is kept done.many done.back done.parts done.kept done.held in
    let whole = joined_again c.args.list.now.len list fs ns (record (get_or fs 0 x) { pass = p }) front c.requires.some
    (sym c.deref_mut.ensures.len ∙ ap (λ (l : List Session). length l) c.deref_mut.ensures.value) there in
    subst (λ l. HasSeenMore e (get_or list k d) (get_or l k d)) (sym whole)
    (all_back e list fs bs c.lend_all.new.list x u front back c.requires.some c.requires.many c.requires.own c.requires.numbers did.many did.lent did.parts did.kept did.heard
    w p ns is kept done.many done.back done.parts done.kept done.held d k within)
