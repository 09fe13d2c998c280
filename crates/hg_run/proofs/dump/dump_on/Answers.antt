use Rattle.std.proofs.Common.{rules, ◌≡◌, ◌∙◌, length, take, subst}
use Rattle.std.specs.Prelude.{Result, Ok, IfOk}
use Rattle.hg_rule.specs.Seats.{session_view}
use Rattle.hg_session.specs.Engines.{engine_sizes}
use Rattle.hg_transcript.specs.LinesText.{Shown}
use Rattle.hg_run.specs.Driven.{HasDrivenAll}
use Rattle.hg_run.specs.Reader.{HasDumped, engine_in, script_in}
use Rattle.hg_run.proofs.Hiring.{take_whole}
use Rattle.hg_run.proofs.dump.dump_on.Goals as goal

-- what is said of an answer that is there
said : {A E : Type 0} (P : A → Type 0) (r : Result A E) (a : A) → r ≡ Ok a → IfOk r P → P a
said P r a is h = subst (λ x. IfOk x P) is h

pub returns-in_default-clause-back : goal.returns-in_default-clause-back
returns-in_default-clause-back g c = c.drive_and_read-driven.ensures.driven.back

pub returns-in_default-clause-collectors : goal.returns-in_default-clause-collectors
returns-in_default-clause-collectors g c = c.drive_and_read-driven.ensures.driven.collectors_are

pub returns-in_default-clause-extra : goal.returns-in_default-clause-extra
returns-in_default-clause-extra g c = c.drive_and_read-driven.ensures.read.own

pub returns-in-Ok-driven-clause-back : goal.returns-in-Ok-driven-clause-back
returns-in-Ok-driven-clause-back g c = c.drive_and_read-driven.ensures.driven.back

pub returns-in-Ok-driven-clause-collectors : goal.returns-in-Ok-driven-clause-collectors
returns-in-Ok-driven-clause-collectors g c = c.drive_and_read-driven.ensures.driven.collectors_are

pub returns-in-Ok-driven-clause-extra : goal.returns-in-Ok-driven-clause-extra
returns-in-Ok-driven-clause-extra g c = c.drive_and_read-driven.ensures.read.own

pub returns-in-Err-clause-back : goal.returns-in-Err-clause-back
returns-in-Err-clause-back g c = c.drive_and_read-driven.ensures.driven.back

pub returns-in-Err-clause-collectors : goal.returns-in-Err-clause-collectors
returns-in-Err-clause-collectors g c = c.drive_and_read-driven.ensures.driven.collectors_are

pub returns-in-Err-clause-extra : goal.returns-in-Err-clause-extra
returns-in-Err-clause-extra g c = c.drive_and_read-driven.ensures.read.own

pub returns-in-Ok-driven-clause-driven : goal.returns-in-Ok-driven-clause-driven
returns-in-Ok-driven-clause-driven g c =
    let new = c.drive_and_read-driven.new.crew in
    said (λ (t : Shown). HasDrivenAll (engine_sizes (engine_in c.args.reader.now)) c.args.plan.now.long c.args.plan.now.rounds (script_in c.args.reader.now).records
    c.args.crew.now.sessions.items c.args.crew.now.collectors t.lines new.sessions.items new.collectors) _ _ c.in-Ok-driven.is c.drive_and_read-driven.ensures.driven.driven

pub returns-in-Ok-driven-clause-tables : goal.returns-in-Ok-driven-clause-tables
returns-in-Ok-driven-clause-tables g c =
    said (λ (t : Shown). t.tables ≡ (script_in c.args.reader.now).tables) _ _ c.in-Ok-driven.is c.drive_and_read-driven.ensures.driven.tables

pub returns-in-Ok-driven-clause-dumped : goal.returns-in-Ok-driven-clause-dumped
returns-in-Ok-driven-clause-dumped g c =
    said (λ at. HasDumped (engine_in c.args.reader.now) (script_in c.args.reader.now) at (session_view c.args.extra.now) (session_view c.drive_and_read-driven.new.extra)
    c.args.into.now.items c.drive_and_read-driven.new.into.items) _ _ c.in-Ok.is c.drive_and_read-driven.ensures.read.dumped

pub returns-in_default-clause-refused : goal.returns-in_default-clause-refused
returns-in_default-clause-refused g c =
    let text = c.args.into.now.items in
    let starts = c.drive_and_read-driven.ensures.read.starts in
    let len : c.len-before.result ≡ length text = search rules in
    c.truncate.ensures.items ∙ ((λ i. take (len i) (starts.1 i)) ∙ take_whole text starts.0)

pub returns-in-Err-clause-refused : goal.returns-in-Err-clause-refused
returns-in-Err-clause-refused g c =
    let text = c.args.into.now.items in
    let starts = c.drive_and_read-driven.ensures.read.starts in
    let len : c.len-before.result ≡ length text = search rules in
    c.truncate-in-Err.ensures.items ∙ ((λ i. take (len i) (starts.1 i)) ∙ take_whole text starts.0)

pub returns-in_default-clause-over : goal.returns-in_default-clause-over
returns-in_default-clause-over g c = c.drive_and_read-driven.ensures.read.over

pub returns-in-Ok-driven-clause-over : goal.returns-in-Ok-driven-clause-over
returns-in-Ok-driven-clause-over g c = c.drive_and_read-driven.ensures.read.over

pub returns-in-Err-clause-over : goal.returns-in-Err-clause-over
returns-in-Err-clause-over g c = c.drive_and_read-driven.ensures.read.over
