use Rattle.std.proofs.Common.{◌≡◌, ◌+◌, ◌-◌, ◌≤◌, inr, suc, List, [], ◌∷◌, ◌++◌, length, refl, sym, ap, ◌∙◌, subst, arith, append-nil, decimal, codes}
use Rattle.hg_records.specs.Bytes.{record_bytes}
use Rattle.hg_talk.specs.Framing as framing
use Rattle.hg_talk.specs.Heard.{sent_by}
use Rattle.hg_run.specs.declared.desk.Desk.{Desk}
use Rattle.hg_run.specs.Desk.{IsSaid}
use Rattle.hg_talk.specs.declared.trouble.Stop.TheVariants as stop
use Rattle.hg_exact.specs.Conversed.{TooLong, accepted}
use Rattle.hg_exact.proofs.Due.{due_long}
use Rattle.hg_run.proofs.Asking.{on_ok}
use Rattle.hg_run.proofs.Desking.{going_ended, going_stops, if_err, said_quiet, stops}
use Rattle.hg_run.proofs.desk.Desk.say.Goals as goal

pub returns-then-self-clause-ended : goal.returns-then-self-clause-ended
returns-then-self-clause-ended g c sent answers h =
    going_ended c.args.self.now sent answers stop.Spent h (inr (let place = h.place in let most = c.if-self.true in omega (arith, place, most)))

pub returns-in_err-add_note_with-in-Long-clause-ended : goal.returns-in_err-add_note_with-in-Long-clause-ended
returns-in_err-add_note_with-in-Long-clause-ended g c =
    stops _ _ stop.NoMemory c.from_residual.ensures.1 (λ sent answers h. going_stops c.args.self.now _ sent answers h refl refl refl)

pub returns-then-asks_totals-clause-said : goal.returns-then-asks_totals-clause-said
returns-then-asks_totals-clause-said g c =
    let said = c.say_totals.new in
    on_ok _ _ c.say_totals.result (λ one sent answers h. subst (λ x. IsSaid said.self sent answers x c.args.text.now.items said.text.items) (sym (ap sent_by c.in-Record.is)) (one sent answers h))
    c.say_totals.ensures.said

pub returns-else-asks_totals-clause-said : goal.returns-else-asks_totals-clause-said
returns-else-asks_totals-clause-said g c =
    let said = c.say_record.new in
    on_ok _ _ c.say_record.result (λ one sent answers h. subst (λ x. IsSaid said.self sent answers x c.args.text.now.items said.text.items) (sym (ap sent_by c.in-Record.is)) (one sent answers h))
    c.say_record.ensures.said

pub returns-in_ok-add_note_with-in-Long-clause-said : goal.returns-in_ok-add_note_with-in-Long-clause-said
returns-in_ok-add_note_with-in-Long-clause-said g c sent answers h =
    let d = c.args.self.now in
    let place : d.place + 1 ≡ suc (length sent) = (let p = h.place in omega (arith, p)) in
    let old = c.args.text.now.items in
    let text = c.in_ok-add_note_with-in-Long.ensures ∙ ap (λ p. old ++ record_bytes (codes "bad" ∷ decimal p ∷ codes "Long" ∷ [])) place
    ∙ ap (λ b. old ++ b) (sym (append-nil (record_bytes (codes "bad" ∷ decimal (suc (length sent)) ∷ codes "Long" ∷ [])))) in
    let new : Desk = record d { place = d.place + 1 } in
    subst (λ x. IsSaid new sent answers x old c.add_note_with.new.text.items) (sym (ap sent_by c.in-Long.is))
    (said_quiet new sent answers framing.Long (TooLong (suc (length sent))) (accepted sent) old c.add_note_with.new.text.items (due_long sent answers h.due) refl refl tt h.balanced place h.knows h.live h.told h.collectors h.for_all text)
