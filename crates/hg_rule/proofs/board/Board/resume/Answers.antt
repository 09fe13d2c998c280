use Rattle.std.proofs.Common.{rules, ◌≡◌, ◌∷◌, sym, ap, ◌∙◌, subst}
use Rattle.hg_core.specs.Phases.{IsSession}
use Rattle.hg_core.specs.Logs.{begans}
use Rattle.hg_rule.specs.declared.view.Part.TheVariants.{OfSession}
use Rattle.hg_rule.specs.Views.{number, session, others, HasSession}
use Rattle.hg_rule.specs.Handing.{resuming}
use Rattle.hg_rule.specs.Seats.{sizes_of, view, session_view, tx_view}
use Rattle.hg_rule.proofs.Shifts.{joins}
use Rattle.hg_rule.proofs.Handing.{awaits, may_retake, resumed, begans_left}
use Rattle.hg_rule.proofs.board.Board.resume.Goals as goal

pub join_seat-requires : goal.join_seat-requires
join_seat-requires c = (search rules, search rules, search rules, search rules, joins _ _ _ _ _)

pub load-requires : goal.load-requires
load-requires c =
    let a = awaits (session_view c.args.pass.now) (tx_view c.args.seat) (view c.join_seat.new.seat) c.args.seat.number c.requires.own.3 c.requires.tx.0.1 (c.requires.tx.1 ∙
    sym c.requires.own.1.0) (search rules) in
    (search rules, search rules, may_retake _ _ _ _ a.has a.next)

pub returns-clause-step : goal.returns-clause-step
returns-clause-step c =
    let a = awaits (session_view c.args.pass.now) (tx_view c.args.seat) (view c.join_seat.new.seat) c.args.seat.number c.requires.own.3 c.requires.tx.0.1 (c.requires.tx.1 ∙
    sym c.requires.own.1.0) (search rules) in
    (resumed (session_view c.args.pass.now) (tx_view c.args.seat) (view c.join_seat.new.seat) (view c.load.new.seat) a (search rules)).0

pub returns-clause-back : goal.returns-clause-back
returns-clause-back c =
    let a = awaits (session_view c.args.pass.now) (tx_view c.args.seat) (view c.join_seat.new.seat) c.args.seat.number c.requires.own.3 c.requires.tx.0.1 (c.requires.tx.1 ∙
    sym c.requires.own.1.0) (search rules) in
    (resumed (session_view c.args.pass.now) (tx_view c.args.seat) (view c.join_seat.new.seat) (view c.load.new.seat) a (search rules)).1

pub returns-clause-own : goal.returns-clause-own
returns-clause-own c =
    let v = session_view c.args.pass.now in
    let w = tx_view c.args.seat in
    let x = view c.load.new.seat in
    let is : x ≡ resuming v w = returns-clause-step c in
    let back = returns-clause-back c in
    let n : number x ≡ number v = ap number is in
    let part : session x ≡ session w = ap session is in (
      (
        search rules,
        (n ∙ c.requires.own.1.0, c.requires.own.1.1 ∙ (sym (begans_left _ _ _ back.log) ∙ ap (λ s. begans s.log) (sym part))),
        subst (IsSession (sizes_of c.args.self.now).sessions) (sym n) c.requires.own.2,
        subst HasSession (sym is) (λ i. OfSession (number v) (session w) ∷ others v),
      ),
      search rules,
    )
