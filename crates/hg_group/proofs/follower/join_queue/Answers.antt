use Rattle.std.proofs.Common.{◌≡◌, ◌∙◌, ℕ, List, ◌∷◌, sym, ap, subst}
use Rattle.hg_rule.specs.declared.view.Part.{Part}
use Rattle.hg_rule.specs.declared.view.Part.TheVariants.{Away}
use Rattle.hg_rule.specs.declared.view.View.{View}
use Rattle.hg_rule.specs.Views.{number, session, after_first}
use Rattle.hg_rule.specs.declared.view.SessionPart.{SessionPart}
use Rattle.hg_rule.specs.Seats.{BoardId, session_view, tx_view, IsTxOf}
use Rattle.hg_queue.specs.declared.handed.Handed.{Handed}
use Rattle.hg_queue.specs.Handing.{IsOpenTxOf, MayCommit, seat_number, seat_part}
use Rattle.hg_group.specs.Submitting.{HasSubmitted}
use Rattle.hg_group.proofs.Through.{back_home}
use Rattle.hg_group.proofs.follower.join_queue.Goals as goal

pub push-requires-clause-handed : goal.push-requires-clause-handed
push-requires-clause-handed g c =
    let v = session_view c.args.pass.now in
    let seat = c.hand_over-mark.result.1 in
    let part : session v ≡ seat_part seat = sym (ap session c.hand_over-mark.ensures.seat) in
    let whose : number v ≡ seat_number seat = c.requires.own.1.0 ∙ sym c.hand_over-mark.ensures.tx.1 in
    record {
      seat = subst (λ (t : BoardId). IsTxOf t seat) (sym c.requires.line.3) c.hand_over-mark.ensures.tx.0;
      tx = subst (λ (p : ℕ × SessionPart). IsOpenTxOf p.0 p.1 c.args.tx) (λ i. (whose i, part i)) c.requires.tx.1;
      some = c.requires.tx.2;
      may = subst MayCommit part c.requires.tx.0;
    }

pub returns-in-Err-clause-refused : goal.returns-in-Err-clause-refused
returns-in-Err-clause-refused g c =
    let v = session_view c.args.pass.now in
    let u = session_view c.hand_over-mark.new.pass in
    let mark = c.hand_over-mark.result.0 in
    let step = c.hand_over-mark.ensures.step in
    let same = c.in-Err.ensures.refused.0 in
    let sent : HasSubmitted v mark u = record {
      step = step;
      over = c.hand_over-mark.ensures.over;
      parts = ap (λ (y : View). y.parts) step.1.1 ∙ ap (λ (ps : List Part). Away (number v) (session v) mark ∷ after_first ps) c.requires.only;
    } in (
      ap (λ (h : Handed). h.tx) same,
      (
        back_home v u (session_view c.resume.new.pass) (tx_view c.in-Err.handed.seat) mark sent
            (ap (λ (h : Handed). session (tx_view h.seat)) same ∙ ap session c.hand_over-mark.ensures.seat) c.resume.ensures.step,
        c.resume.ensures.own.0,
      ),
    )

pub returns-in-Ok-clause-submitted : goal.returns-in-Ok-clause-submitted
returns-in-Ok-clause-submitted g c =
    let v = session_view c.args.pass.now in
    let mark = c.hand_over-mark.result.0 in (
      record {
        step = c.hand_over-mark.ensures.step;
        over = c.hand_over-mark.ensures.over;
        parts = ap (λ (y : View). y.parts) c.hand_over-mark.ensures.step.1.1 ∙ ap (λ (ps : List Part). Away (number v) (session v) mark ∷ after_first ps) c.requires.only;
      },
      c.hand_over-mark.ensures.own.0,
    )
