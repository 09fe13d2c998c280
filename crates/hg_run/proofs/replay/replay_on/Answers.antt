use Rattle.std.proofs.Common.{ℕ, ◌<◌, List, length, sym, ◌∙◌, arith}
use Rattle.std.specs.Prelude.{get_or}
use Rattle.hg_base.specs.Transcript.{of_session}
use Rattle.hg_transcript.specs.LinesText.{Shown}
use Rattle.hg_session.specs.declared.session.Session.{Session}
use Rattle.hg_session.specs.Engines.{engine_sizes}
use Rattle.hg_session.specs.Sessions.{seen_by}
use Rattle.hg_run.specs.Driven.{HasDrivenOne}
use Rattle.hg_run.specs.Played.{HasPlayed, HasPlayedOut}
use Rattle.hg_collectors.proofs.Among.{if_ok}
use Rattle.hg_run.proofs.Closes.{closed_cursors, new_logs, new_ready}
use Rattle.hg_run.proofs.Going.{ready_less, driven_one, played_out}
use Rattle.hg_run.proofs.Hearing.{seen_kept}
use Rattle.hg_run.proofs.replay.replay_on.Goals as goal

pub play-transcript-requires-clause-fits : goal.play-transcript-requires-clause-fits
play-transcript-requires-clause-fits g c ks below =
    let may = c.requires.may in
    record { lawful = may.lawful; sessions_are = sym c.requires.all ∙ may.sessions; tables = may.tables; some = may.some }

pub play-transcript-requires-clause-ready : goal.play-transcript-requires-clause-ready
play-transcript-requires-clause-ready g c ks below =
    let e = c.args.engine.now in
    let z = engine_sizes e in
    let may = c.requires.may in
    let list : List Session = c.args.crew.now.sessions.items in
    let sessions = may.sessions in
    let some : 0 < length list = omega (arith, sessions) in
    ready_less e 0 (λ j. length (of_session j c.args.script.now.records)) (λ j. z.quota) list may.quota (new_ready e z.quota list c.requires.all some may.new)

pub play-transcript-requires-clause-none : goal.play-transcript-requires-clause-none
play-transcript-requires-clause-none g c ks below =
    let e = c.args.engine.now in
    new_logs e (engine_sizes e).quota c.args.crew.now.sessions.items c.requires.may.new

pub returns-clause-driven : goal.returns-clause-driven
returns-clause-driven g c =
    let e = c.args.engine.now in
    let z = engine_sizes e in
    let script = c.args.script.now in
    let long : ℕ = c.args.options.now.long in
    let old : List Session = c.args.crew.now.sessions.items in
    let before = c.args.crew.now.collectors in
    let after = c.play-transcript.new.crew.collectors in
    let played : List Session = c.play-transcript.new.crew.sessions.items in
    let new : List Session = c.close_all.new.list.items in
    if_ok (λ (t : Shown). HasPlayed e long before after played script t.lines) (λ (t : Shown). HasDrivenOne z long script.records old before t.lines new after) c.play-transcript.result
    (λ t p. driven_one e long before after old played new script t.lines (new_logs e z.quota old c.requires.may.new) p c.close_all.ensures.closes) c.play-transcript.ensures.played

pub returns-clause-played : goal.returns-clause-played
returns-clause-played g c =
    let e = c.args.engine.now in
    let script = c.args.script.now in
    let long : ℕ = c.args.options.now.long in
    let before = c.args.crew.now.collectors in
    let after = c.play-transcript.new.crew.collectors in
    let played : List Session = c.play-transcript.new.crew.sessions.items in
    let closed : List Session = c.close_all.new.list.items in
    if_ok (λ (t : Shown). HasPlayed e long before after played script t.lines) (λ (t : Shown). HasPlayedOut e before after closed script t.lines) c.play-transcript.result
    (λ t p. played_out e long before after played closed script t.lines p c.close_all.ensures.closes c.close_all.ensures.many
    (λ seen saw d. seen_kept seen (seen_by (get_or played p.last d)) (seen_by (get_or closed p.last d)) (c.close_all.ensures.kept d p.last p.ready.within) (saw d))) c.play-transcript.ensures.played

pub returns-clause-back : goal.returns-clause-back
returns-clause-back g c = record {
  many = c.close_all.ensures.many ∙ (c.play-transcript.ensures.placed.many ∙ sym c.requires.all);
  closed = c.close_all.ensures.closed;
  cursors = closed_cursors c.args.engine.now 1 c.close_all.new.list.items c.close_all.ensures.closed;
}
