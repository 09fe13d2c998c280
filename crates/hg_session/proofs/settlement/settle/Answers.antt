use Rattle.std.proofs.Common.{◌≡◌, ℕ, subst}
use Rattle.hg_rule.specs.declared.board.Board.{Board}
use Rattle.hg_rule.specs.declared.view.View.{View}
use Rattle.hg_rule.specs.Rules.{IsBacked}
use Rattle.hg_rule.specs.Seats.{sizes_of}
use Rattle.hg_base.specs.declared.report.Report.{Report}
use Rattle.hg_rounds.specs.TableCollectors.{view_of, report_in, Cuts}
use Rattle.hg_session.specs.Engines.{engine_sizes}
use Rattle.hg_session.proofs.Leaving.{left_after, others_after, removed_after, logs_after, passes_after, ended_after, heard_after}
use Rattle.hg_session.proofs.settlement.settle.Goals as goal

-- a round at the board of the trackers is one at the engine's
cuts_at : (v w : View) (long : ℕ) (report : Report) (a b : Board) → a ≡ b → Cuts (sizes_of a) long v report w → Cuts (sizes_of b) long v report w
cuts_at v w long report a b same h = subst (λ (x : Board). Cuts (sizes_of x) long v report w) same h

backed_at : (w : View) (a b : Board) → a ≡ b → (mark : ℕ) × IsBacked (sizes_of a) mark w → (mark : ℕ) × IsBacked (sizes_of b) mark w
backed_at w a b same h = subst (λ (x : Board). (mark : ℕ) × IsBacked (sizes_of x) mark w) same h

pub returns-clause-round : goal.returns-clause-round
returns-clause-round g c = cuts_at _ _ _ _ _ _ c.trackers.ensures c.collect.ensures.cuts

pub returns-clause-settled : goal.returns-clause-settled
returns-clause-settled g c =
    let v = view_of c.args.collector.now in
    let w = view_of c.collect.new.self in
    let backed = backed_at w _ _ c.trackers.ensures c.collect.ensures.backed in
    left_after (engine_sizes c.args.engine.now) v w _ (report_in c.collect.new.self) c.requires.own.0.1
    (cuts_at v w _ _ _ _ c.trackers.ensures c.collect.ensures.cuts) backed.0 backed.1 c.requires.ended c.requires.heard

pub returns-clause-removed : goal.returns-clause-removed
returns-clause-removed g c = removed_after (engine_sizes c.args.engine.now) (view_of c.args.collector.now) (view_of c.collect.new.self) _
    (report_in c.collect.new.self) c.requires.own.0.1 (cuts_at _ _ _ _ _ _ c.trackers.ensures c.collect.ensures.cuts)

pub returns-clause-others : goal.returns-clause-others
returns-clause-others g c = others_after (engine_sizes c.args.engine.now) (view_of c.args.collector.now) (view_of c.collect.new.self) _
    (report_in c.collect.new.self) c.requires.own.0.1 (cuts_at _ _ _ _ _ _ c.trackers.ensures c.collect.ensures.cuts)

pub returns-clause-logs : goal.returns-clause-logs
returns-clause-logs g c = logs_after (engine_sizes c.args.engine.now) (view_of c.args.collector.now) (view_of c.collect.new.self) _
    (report_in c.collect.new.self) c.requires.own.0.1 (cuts_at _ _ _ _ _ _ c.trackers.ensures c.collect.ensures.cuts)

pub returns-clause-passes : goal.returns-clause-passes
returns-clause-passes g c = passes_after (engine_sizes c.args.engine.now) (view_of c.args.collector.now) (view_of c.collect.new.self) _
    (report_in c.collect.new.self) c.requires.own.0.1 (cuts_at _ _ _ _ _ _ c.trackers.ensures c.collect.ensures.cuts)

pub returns-clause-ended : goal.returns-clause-ended
returns-clause-ended g c = (
  ended_after (engine_sizes c.args.engine.now) (view_of c.args.collector.now) (view_of c.collect.new.self) _ (report_in c.collect.new.self) c.requires.own.0.1
      (cuts_at _ _ _ _ _ _ c.trackers.ensures c.collect.ensures.cuts) c.requires.ended,
  heard_after (engine_sizes c.args.engine.now) (view_of c.args.collector.now) (view_of c.collect.new.self) _ (report_in c.collect.new.self) c.requires.own.0.1
      (cuts_at _ _ _ _ _ _ c.trackers.ensures c.collect.ensures.cuts) c.requires.heard,
)
