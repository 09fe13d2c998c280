use Rattle.std.proofs.Common.{◌≡◌, ◌+◌, suc, List, [], ◌∷◌, ◌++◌, length, refl, sym, ap, ◌∙◌, subst, arith, append-nil, decimal, codes, rules}
use Rattle.csv.specs.Records.{fields_of}
use Rattle.hg_records.specs.Bytes.{record_bytes}
use Rattle.hg_script.specs.Codes.{code_text}
use Rattle.hg_script.specs.Judging.{IsJudged, script_at}
use Rattle.hg_script.specs.declared.judge.Judged.TheVariants as judged
use Rattle.hg_talk.specs.Framing as framing
use Rattle.hg_talk.specs.declared.trouble.Stop.TheVariants as stop
use Rattle.hg_exact.specs.AnswerText.{answer_text}
use Rattle.hg_exact.specs.Conversed.{Bad, Declared, accepted}
use Rattle.hg_exact.proofs.Due.{due_bad, due_declared}
use Rattle.hg_run.proofs.Accepting.{heard_as, hearing_of}
use Rattle.hg_run.proofs.Asking.{on_ok}
use Rattle.hg_run.proofs.Desking.{going_stops, if_err, said_quiet, stops}
use Rattle.hg_run.proofs.desk.Desk.say_record.Goals as goal

pub returns-in_err-code-clause-ended : goal.returns-in_err-code-clause-ended
returns-in_err-code-clause-ended g c = stops _ _ stop.NoMemory c.from_residual.ensures.1 (λ sent answers h. going_stops c.args.self.now _ sent answers h refl refl refl)

pub returns-in_default-clause-ended : goal.returns-in_default-clause-ended
returns-in_default-clause-ended g c sent answers h = going_stops c.args.self.now _ sent answers h refl refl refl

pub returns-in_err-add_note_with-in-Broken-clause-ended : goal.returns-in_err-add_note_with-in-Broken-clause-ended
returns-in_err-add_note_with-in-Broken-clause-ended g c = stops _ _ stop.NoMemory c.from_residual-in_err-add_note_with-in-Broken.ensures.1 (λ sent answers h. going_stops c.args.self.now _ sent answers h refl refl refl)

pub returns-in_err-add_note-in-Declared-clause-ended : goal.returns-in_err-add_note-in-Declared-clause-ended
returns-in_err-add_note-in-Declared-clause-ended g c = stops _ _ stop.NoMemory c.from_residual-in_err-add_note-in-Declared.ensures.1 (λ sent answers h. going_stops c.args.self.now _ sent answers h refl refl refl)

pub returns-in_ok-add_note_with-in-Broken-clause-said : goal.returns-in_ok-add_note_with-in-Broken-clause-said
returns-in_ok-add_note_with-in-Broken-clause-said g c sent answers h =
    let d = c.args.self.now in
    let r = fields_of c.args.row.now in
    let code = c.in-Broken.code in
    let place : d.place + 1 ≡ suc (length sent) = (let p = h.place in omega (arith, p)) in
    let word : c.as_bytes.result.now ≡ code_text code = search rules in
    let j = heard_as d c.hear.new.self sent answers r (judged.Broken code) h c.requires.other
    (subst (λ j. IsJudged (d.place + 1) (accepted sent) r j c.hear.new.self) c.in-Broken.is (c.in_ok-code.ensures (accepted sent) h.knows)) in
    let old = c.args.text.now.items in
    let text = c.in_ok-add_note_with-in-Broken.ensures ∙ ap (λ w. old ++ record_bytes (codes "bad" ∷ decimal (d.place + 1) ∷ w ∷ [])) word
    ∙ ap (λ p. old ++ record_bytes (codes "bad" ∷ decimal p ∷ code_text code ∷ [])) place
    ∙ ap (λ b. old ++ b) (sym (append-nil (record_bytes (codes "bad" ∷ decimal (suc (length sent)) ∷ code_text code ∷ [])))) in
    said_quiet _ sent answers (framing.Record r) (Bad (suc (length sent)) code) (accepted sent) old _ (due_bad sent answers r code c.hear.new.self h.due c.requires.other j) refl refl tt h.balanced place
    j.1 h.live h.told h.collectors h.for_all text

pub returns-in_ok-add_note-in-Declared-clause-said : goal.returns-in_ok-add_note-in-Declared-clause-said
returns-in_ok-add_note-in-Declared-clause-said g c sent answers h =
    let d = c.args.self.now in
    let r = fields_of c.args.row.now in
    let place : d.place + 1 ≡ suc (length sent) = (let p = h.place in omega (arith, p)) in
    let j = heard_as d c.hear.new.self sent answers r judged.Declared h c.requires.other
    (subst (λ j. IsJudged (d.place + 1) (accepted sent) r j c.hear.new.self) c.in-Declared.is (c.in_ok-code.ensures (accepted sent) h.knows)) in
    let old = c.args.text.now.items in
    let text = c.in_ok-add_note-in-Declared.ensures ∙ ap (λ p. old ++ record_bytes (codes "declared" ∷ decimal p ∷ [])) place
    ∙ ap (λ b. old ++ b) (sym (append-nil (record_bytes (codes "declared" ∷ decimal (suc (length sent)) ∷ [])))) in
    said_quiet _ sent answers (framing.Record r) (Declared (suc (length sent))) (script_at (suc (length sent)) (accepted sent) r) old _ (due_declared sent answers r c.hear.new.self h.due c.requires.other j)
    j.2 refl tt h.balanced place j.1 h.live h.told h.collectors h.for_all text

pub returns-in-Asked-clause-said : goal.returns-in-Asked-clause-said
returns-in-Asked-clause-said g c =
    let d = c.args.self.now in
    let r = fields_of c.args.row.now in
    on_ok _ _ c.say_reply.result (λ said sent answers h. said sent answers r (hearing_of d c.hear.new.self sent answers r (judged.Asked c.in-Asked.session c.in-Asked.statement) h c.requires.other
    (subst (λ j. IsJudged (d.place + 1) (accepted sent) r j c.hear.new.self) c.in-Asked.is (c.in_ok-code.ensures (accepted sent) h.knows))) (let p = h.place in omega (arith, p))) c.say_reply.ensures.said

pub returns-in-Asked-clause-ended : goal.returns-in-Asked-clause-ended
returns-in-Asked-clause-ended g c =
    let d = c.args.self.now in
    let r = fields_of c.args.row.now in
    if_err _ _ c.say_reply.result (λ why ended sent answers h. ended sent answers r (hearing_of d c.hear.new.self sent answers r (judged.Asked c.in-Asked.session c.in-Asked.statement) h c.requires.other
    (subst (λ j. IsJudged (d.place + 1) (accepted sent) r j c.hear.new.self) c.in-Asked.is (c.in_ok-code.ensures (accepted sent) h.knows))) (let p = h.place in omega (arith, p))) c.say_reply.ensures.ended
