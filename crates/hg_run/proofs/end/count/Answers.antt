use Rattle.std.proofs.Common.{◌≡◌, inr, ℕ, ◌≤◌, length, sym, ap, ◌∙◌, subst}
use Rattle.std.specs.Prelude.{get_or}
use Rattle.hg_core.specs.Logs.{newest_of}
use Rattle.hg_rule.specs.declared.board.Board.{Board}
use Rattle.hg_rule.specs.declared.passes.CollectorPass.{CollectorPass}
use Rattle.hg_rule.specs.Reading.{passes_in}
use Rattle.hg_rule.specs.Rules.{IsBacked}
use Rattle.hg_rule.specs.Seats.{pass_view, sizes_of}
use Rattle.hg_rule.specs.Views.{number, pass, others, HasPass}
use Rattle.hg_rounds.specs.TableCollectors.{report_in, view_of}
use Rattle.hg_headline.specs.Following.{AreTotalsBy}
use Rattle.hg_headline.specs.Logged.{Logged}
use Rattle.hg_headline.specs.Totalled.{WasLeftCut}
use Rattle.hg_session.specs.Engines.{engine_sizes}
use Rattle.hg_session.specs.Ended.{logs_in, visits_in, IsEnded}
use Rattle.hg_session.specs.Finished.{logs_of, AreAmong}
use Rattle.hg_session.specs.Sessions.{seen_by}
use Rattle.hg_session.specs.Settled.{HasHeardAll, RemovesForTables}
use Rattle.hg_session.specs.Visited.{AreTotals}
use Rattle.hg_session.proofs.Quiet.{seen_newest, logs_shown}
use Rattle.hg_run.specs.Closed.{AreAllThere}
use Rattle.hg_run.specs.Collecting.{passes_of}
use Rattle.hg_collectors.specs.Collecting.{view_in, removed_of}
use Rattle.hg_run.specs.Heard.{HasSeen}
use Rattle.hg_run.proofs.Begun.{began}
use Rattle.hg_run.proofs.Brought.{brought_come, there_ended, there_logs, there_three, there_visits}
use Rattle.hg_run.proofs.Closes.{closed_totals, among_each, seen_within, some_in}
use Rattle.hg_run.proofs.Hearing.{seen_among}
use Rattle.hg_run.proofs.StepsEnd.{ends_with}
use Rattle.hg_run.proofs.end.count.Goals as goal

pub settle-requires-clause-ended : goal.settle-requires-clause-ended
settle-requires-clause-ended g c = subst (IsEnded (engine_sizes c.args.engine.now)) (sym (c.look_at.ensures.stays ∙ ap pass_view c.lend.ensures.pass)) c.requires.ended

pub settle-requires-clause-heard : goal.settle-requires-clause-heard
settle-requires-clause-heard g c = subst (HasHeardAll (engine_sizes c.args.engine.now)) (sym (c.look_at.ensures.stays ∙ ap pass_view c.lend.ensures.pass)) c.requires.heard

pub returns : goal.returns
returns g c list collectors all =
    let e = c.args.engine.now in
    let z = engine_sizes e in
    let x = pass_view c.look_at.new.pass in
    let v = view_of c.settle.new.collector in
    let same : x ≡ view_of c.args.collector = c.look_at.ensures.stays ∙ ap pass_view c.lend.ensures.pass in
    let there : AreAllThere e list collectors x = subst (AreAllThere e list collectors) (sym same) all in
    let has : HasPass x = subst HasPass (sym same) c.requires.own.0.1 in
    let ended : IsEnded z x = there_ended e list collectors x there in
    let shown : logs_in x ≡ logs_of list = there_logs e list collectors x there in
    let backed : IsBacked z c.look_at.result x = subst (λ (b : Board). IsBacked (sizes_of b) c.look_at.result x) c.board.ensures c.look_at.ensures.backed in
    let a : AreTotals z v c.totals.result = subst (λ (p : CollectorPass). AreTotals z (pass_view p) c.totals.result) c.lend-2.ensures.pass c.totals.ensures.totals in
    let logs : logs_in v ≡ logs_of list = c.settle.ensures.logs ∙ shown in
    let three : passes_in v.parts ≡ 3 = c.settle.ensures.passes ∙ there_three e list collectors x there in
    let long = a.newest ∙ ap (newest_of z.sessions) c.settle.ensures.logs in
    let within : (n : ℕ) → HasSeen n x.sights → n ≤ length a.history = λ n at. subst (λ m. n ≤ m) (sym long)
    (seen_within n _ x.sights at (λ h i. seen_newest z c.look_at.result x backed ended (number x) (pass x) (others x) has h i)) in
    let counted : AreTotalsBy z.sessions a.history (logs_in v) (λ kind. removed_of kind collectors) c.totals.result = closed_totals z v (passes_of collectors) c.totals.result a
    (λ i below. subst (λ l. WasLeftCut z.buckets (newest_of z.sessions l) (passes_in v.parts) (visits_in v) i) (sym c.settle.ensures.logs) (c.settle.ensures.settled i below))
    (record { three = three; removed = λ p. subst (λ visits. RemovesForTables (visits p) (visits_in v p)) (there_visits e list collectors x there) (c.settle.ensures.removed p) }) in
    record {
      history = a.history;
      logged = subst (Logged z.buckets a.history) logs a.logged;
      saw = λ seen last inside saw.
          let d = some_in list last inside in
          within seen (seen_among seen (seen_by (get_or list last d)) x.sights (among_each (λ s. AreAmong (seen_by s) x.sights) d list last inside there.brought.went.seen) (saw d));
      groups = λ kind n saw. within n (seen_among n (view_in kind collectors).sights x.sights (brought_come e list collectors x there.brought kind).seen (inr saw));
      began = λ kind.
          began backed.state (logs_of list) (view_in kind collectors).events
          ((λ i j. logs_shown z c.look_at.result x backed ended (number x) (pass x) (others x) has j i) ∙ shown)
          ((brought_come e list collectors x there.brought kind).did backed.state backed.true_of);
      run = ends_with e list collectors x v (report_in c.settle.new.collector) there has c.settle.ensures.others c.settle.ensures.round c.totals.result a;
      counted = subst (λ l. AreTotalsBy z.sessions a.history l (λ kind. removed_of kind collectors) c.totals.result) logs counted;
    }
