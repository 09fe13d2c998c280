use Rattle.std.proofs.Common.{◌≡◌, ap, ◌∙◌, subst, rules}
use Rattle.hg_rule.specs.declared.board.Board.{Board}
use Rattle.hg_rule.specs.declared.passes.CollectorPass.{CollectorPass}
use Rattle.hg_rule.specs.declared.view.View.{View}
use Rattle.hg_rule.specs.Agreed.{IsMet}
use Rattle.hg_rule.specs.Moves.{joined, meeting, merged}
use Rattle.hg_rule.specs.Seats.{pass_view, session_view, sizes_of, IsSessionOf}
use Rattle.hg_rounds.specs.TableCollectors.{view_of}
use Rattle.hg_session.specs.Engines.{engine_board_id, engine_sizes}
use Rattle.hg_run.specs.Reader.{alloc_in, engine_in, list_with, script_in}
use Rattle.hg_run.proofs.Brought.{there_ended, there_heard}
use Rattle.hg_run.proofs.Readers.{all_there, began_then, dumped_then, may_still, newest_then}
use Rattle.hg_run.proofs.end.close_read.Goals as goal

pub read-requires : goal.read-requires
read-requires g c =
    let e = engine_in c.args.reader.now in
    let own : IsSessionOf (engine_board_id e) (engine_sizes e) c.meet.new.other = search rules in
    may_still e c.args.pass c.meet.new.other (ap (λ (x : View). x.parts) c.meet.ensures.other) c.requires.reads own

pub count-requires-clause-ended : goal.count-requires-clause-ended
count-requires-clause-ended g c =
    let e = engine_in c.args.reader.now in
    let w = view_of c.bring-collector.result in
    let w1 = pass_view c.meet.new.self in
    let w2 = pass_view c.finish.new.pass in
    let lent : w1 ≡ meeting w (session_view c.args.pass) = c.meet.ensures.view ∙ ap (λ (x : CollectorPass). meeting (pass_view x) (session_view c.args.pass)) c.lend.ensures.pass in
    let met : IsMet (engine_sizes e) (joined w (session_view c.args.pass)) = subst (λ (x : CollectorPass). IsMet (engine_sizes e) (joined (pass_view x) (session_view c.args.pass))) c.lend.ensures.pass
    (subst (λ (b : Board). IsMet (sizes_of b) (joined (pass_view c.lend.result.now) (session_view c.args.pass))) c.board.ensures c.meet.ensures.backed) in
    let gone : w2 ≡ merged w1 (session_view c.read.new.pass) = c.finish.ensures.view ∙ ap (λ (x : CollectorPass). merged (pass_view x) (session_view c.read.new.pass)) c.lend-2.ensures.pass in
    there_ended e (list_with (alloc_in c.args.reader.now) c.args.list.items c.read.new.pass) c.args.collectors w2
    (all_there e (script_in c.args.reader.now) (alloc_in c.args.reader.now) c.args.list.items c.args.collectors w w1 w2 c.args.pass c.meet.new.other c.read.new.pass c.in_ok-at.at
    c.args.into.now.items c.read.new.into.items
    c.bring-collector.ensures.brought c.requires.closed c.requires.many c.requires.reads c.requires.last lent met c.meet.ensures.other c.in_ok-at.ensures.dumped c.in_ok-at.ensures.own gone)

pub count-requires-clause-heard : goal.count-requires-clause-heard
count-requires-clause-heard g c =
    let e = engine_in c.args.reader.now in
    let w = view_of c.bring-collector.result in
    let w1 = pass_view c.meet.new.self in
    let w2 = pass_view c.finish.new.pass in
    let lent : w1 ≡ meeting w (session_view c.args.pass) = c.meet.ensures.view ∙ ap (λ (x : CollectorPass). meeting (pass_view x) (session_view c.args.pass)) c.lend.ensures.pass in
    let met : IsMet (engine_sizes e) (joined w (session_view c.args.pass)) = subst (λ (x : CollectorPass). IsMet (engine_sizes e) (joined (pass_view x) (session_view c.args.pass))) c.lend.ensures.pass
    (subst (λ (b : Board). IsMet (sizes_of b) (joined (pass_view c.lend.result.now) (session_view c.args.pass))) c.board.ensures c.meet.ensures.backed) in
    let gone : w2 ≡ merged w1 (session_view c.read.new.pass) = c.finish.ensures.view ∙ ap (λ (x : CollectorPass). merged (pass_view x) (session_view c.read.new.pass)) c.lend-2.ensures.pass in
    there_heard e (list_with (alloc_in c.args.reader.now) c.args.list.items c.read.new.pass) c.args.collectors w2
    (all_there e (script_in c.args.reader.now) (alloc_in c.args.reader.now) c.args.list.items c.args.collectors w w1 w2 c.args.pass c.meet.new.other c.read.new.pass c.in_ok-at.at
    c.args.into.now.items c.read.new.into.items
    c.bring-collector.ensures.brought c.requires.closed c.requires.many c.requires.reads c.requires.last lent met c.meet.ensures.other c.in_ok-at.ensures.dumped c.in_ok-at.ensures.own gone)

pub returns-clause-closed : goal.returns-clause-closed
returns-clause-closed g c =
    let e = engine_in c.args.reader.now in
    let script = script_in c.args.reader.now in
    let alloc = alloc_in c.args.reader.now in
    let w = view_of c.bring-collector.result in
    let w1 = pass_view c.meet.new.self in
    let w2 = pass_view c.finish.new.pass in
    let q = c.meet.new.other in
    let r = c.read.new.pass in
    let lent : w1 ≡ meeting w (session_view c.args.pass) = c.meet.ensures.view ∙ ap (λ (x : CollectorPass). meeting (pass_view x) (session_view c.args.pass)) c.lend.ensures.pass in
    let met : IsMet (engine_sizes e) (joined w (session_view c.args.pass)) = subst (λ (x : CollectorPass). IsMet (engine_sizes e) (joined (pass_view x) (session_view c.args.pass))) c.lend.ensures.pass
    (subst (λ (b : Board). IsMet (sizes_of b) (joined (pass_view c.lend.result.now) (session_view c.args.pass))) c.board.ensures c.meet.ensures.backed) in
    let gone : w2 ≡ merged w1 (session_view r) = c.finish.ensures.view ∙ ap (λ (x : CollectorPass). merged (pass_view x) (session_view r)) c.lend-2.ensures.pass in
    record {
      last = r;
      dumped = dumped_then e script alloc c.args.list.items c.args.collectors w w1 w2 c.args.pass q r c.in_ok-at.at c.args.into.now.items c.read.new.into.items
          c.bring-collector.ensures.brought c.requires.closed c.requires.many c.requires.reads c.requires.last lent met c.meet.ensures.other c.in_ok-at.ensures.dumped c.in_ok-at.ensures.own gone;
      began = began_then e script alloc c.args.list.items c.args.collectors w w1 w2 c.args.pass q r c.in_ok-at.at c.args.into.now.items c.read.new.into.items
          c.bring-collector.ensures.brought c.requires.closed c.requires.many c.requires.reads c.requires.last lent met c.meet.ensures.other c.in_ok-at.ensures.dumped c.in_ok-at.ensures.own gone;
      newest = newest_then e script alloc c.args.list.items c.args.collectors w w1 w2 c.args.pass q r c.in_ok-at.at c.args.into.now.items c.read.new.into.items
          c.bring-collector.ensures.brought c.requires.closed c.requires.many c.requires.reads c.requires.last lent met c.meet.ensures.other c.in_ok-at.ensures.dumped c.in_ok-at.ensures.own gone;
      closed = c.count.ensures (list_with alloc c.args.list.items r) c.args.collectors
          (all_there e script alloc c.args.list.items c.args.collectors w w1 w2 c.args.pass q r c.in_ok-at.at c.args.into.now.items c.read.new.into.items
          c.bring-collector.ensures.brought c.requires.closed c.requires.many c.requires.reads c.requires.last lent met c.meet.ensures.other c.in_ok-at.ensures.dumped c.in_ok-at.ensures.own gone);
    }
