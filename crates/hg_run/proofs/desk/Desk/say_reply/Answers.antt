use Rattle.std.proofs.Common.{◌≡◌, ◌≤◌, ℕ, suc, inl, List, [], ◌∷◌, ◌++◌, length, refl, sym, ap, ◌∙◌, subst}
use Rattle.std.specs.Prelude.{Err}
use Rattle.hg_base.specs.declared.line.Line.{Line}
use Rattle.hg_base.specs.Transcript.{of_session}
use Rattle.hg_records.specs.Bytes.{record_bytes}
use Rattle.hg_script.specs.Fields.{Fields}
use Rattle.hg_script.specs.declared.judge.Judged.TheVariants as judged
use Rattle.hg_session.specs.Engines.{engine_sizes}
use Rattle.hg_talk.specs.Framing.{Sent}
use Rattle.hg_talk.specs.declared.trouble.Stop.TheVariants as stop
use Rattle.hg_exact.specs.AnswerText.{answer_text}
use Rattle.hg_exact.specs.Conversed.{Answered, Replied, accepted, lines_of}
use Rattle.hg_run.specs.declared.desk.Desk.{Desk}
use Rattle.hg_run.specs.Desk.{IsHearing}
use Rattle.hg_run.specs.Live.{IsLive}
use Rattle.hg_run.specs.Untold.{HaveTold}
use Rattle.hg_run.proofs.Accepting.{hearing_accepted, hearing_comes}
use Rattle.hg_run.proofs.Desking.{cause_spent, ended_now, reply_lost, reply_said, stops}
use Rattle.hg_run.proofs.desk.Desk.say_reply.Goals as goal

pub reply-requires-clause-may : goal.reply-requires-clause-may
reply-requires-clause-may g c ks within =
    let h = c.requires.hearing in
    hearing_comes c.args.self.now h.0 h.1 h.2 c.args.asked.session c.args.asked.statement h.3 c.tables.ensures.most

pub returns-in_err-reply-clause-ended : goal.returns-in_err-reply-clause-ended
returns-in_err-reply-clause-ended g c =
    let asked = c.args.asked in
    let e = c.in_err-reply.ensures in
    let why = c.in_err-reply.field-0.0 in
    stops _ _ why c.from_residual.ensures.1 (λ sent answers r h place. ended_now c.reply.new.self sent answers why h.due h.balanced
    (e.stopped (accepted sent).records (lines_of answers) h.live) e.collectors
    (cause_spent sent why (λ is. inl (
      asked.session,
      subst (λ n. n ≤ length (of_session asked.session (accepted sent).records)) h.for_all.quota
          (e.spent (ap Err is) (accepted sent).records (lines_of answers) h.live),
    ))))

pub returns-in_err-add_reply-clause-ended : goal.returns-in_err-add_reply-clause-ended
returns-in_err-add_reply-clause-ended g c =
    let d = c.args.self.now in
    let n = c.reply.new.self in
    let asked = c.args.asked in
    let new : Desk = record { engine = n.engine; crew = n.crew; last = n.last; judge = n.judge; place = asked.place; upkeep = n.upkeep; long = n.long; alloc = n.alloc } in
    let reply = c.in_ok-reply.reply in
    let e = c.in_ok-reply.ensures in
    stops _ _ stop.NoMemory c.from_residual-in_err-add_reply.ensures.1 (λ sent answers r h place.
    let live : IsLive n.engine n.crew.sessions.items n.last
    ((accepted sent).records ++ (record { place = suc (length sent); session = asked.session; statement = asked.statement }) ∷ [])
    (lines_of answers ++ (record { session = asked.session; place = suc (length sent); reply = reply }) ∷ []) =
    subst (λ p. IsLive n.engine n.crew.sessions.items n.last ((accepted sent).records ++ (record { place = p; session = asked.session; statement = asked.statement }) ∷ [])
    (lines_of answers ++ (record { session = asked.session; place = p; reply = reply }) ∷ [])) place
    (e.live (accepted sent).records (lines_of answers) h.live (hearing_accepted d sent answers r asked.session asked.statement h).stands) in
    reply_lost d sent answers r asked.session asked.statement reply h new e.judge live e.collectors)

pub returns-clause-said : goal.returns-clause-said
returns-clause-said g c sent answers r h place =
    let d = c.args.self.now in
    let n = c.reply.new.self in
    let asked = c.args.asked in
    let new : Desk = record { engine = n.engine; crew = n.crew; last = n.last; judge = n.judge; place = asked.place; upkeep = n.upkeep; long = n.long; alloc = n.alloc } in
    let reply = c.in_ok-reply.reply in
    let e = c.in_ok-reply.ensures in
    let old = c.args.text.now.items in
    let live : IsLive n.engine n.crew.sessions.items n.last
    ((accepted sent).records ++ (record { place = suc (length sent); session = asked.session; statement = asked.statement }) ∷ [])
    (lines_of answers ++ (record { session = asked.session; place = suc (length sent); reply = reply }) ∷ []) =
    subst (λ p. IsLive n.engine n.crew.sessions.items n.last ((accepted sent).records ++ (record { place = p; session = asked.session; statement = asked.statement }) ∷ [])
    (lines_of answers ++ (record { session = asked.session; place = p; reply = reply }) ∷ [])) place
    (e.live (accepted sent).records (lines_of answers) h.live (hearing_accepted d sent answers r asked.session asked.statement h).stands) in
    let told : HaveTold n.crew.collectors (lines_of answers ++ (record { session = asked.session; place = suc (length sent); reply = reply }) ∷ []) =
    subst (λ p. HaveTold n.crew.collectors (lines_of answers ++ (record { session = asked.session; place = p; reply = reply }) ∷ [])) place (e.told (lines_of answers) h.told) in
    let text = c.in_ok-add_reply.ensures
    ∙ ap (λ t. old ++ answer_text record_bytes (Replied t (record { session = asked.session; place = asked.place; reply = reply }))) c.tables-2.ensures.same
    ∙ ap (λ p. old ++ answer_text record_bytes (Replied n.judge.tables (record { session = asked.session; place = p; reply = reply }))) place in
    reply_said d sent answers r asked.session asked.statement reply h new e.judge live e.engine place e.collectors told old c.add_reply.new.text.items text
