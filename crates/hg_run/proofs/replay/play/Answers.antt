use Rattle.std.proofs.Common.{◌≡◌, ℕ, ◌≤◌, ◌<◌, ◌+◌, ◌-◌, ◌∷◌, ◌++◌, [], List, length, drop, get_or, suc, refl, sym, ap, ◌∙◌, subst, arith}
use Rattle.std.proofs.Math.Seq.{drop-cons}
use Rattle.std.proofs.lemmas.List.{drop_all}
use Rattle.hg_base.specs.declared.line.Line.{Line}
use Rattle.hg_base.specs.declared.statement.Record.{Record}
use Rattle.hg_base.specs.Script.{Script}
use Rattle.hg_session.specs.declared.engine.Engine.{Engine}
use Rattle.hg_session.specs.declared.session.Session.{Session}
use Rattle.hg_transcript.specs.LinesText.{Shown}
use Rattle.hg_run.specs.Asked.{IsOnTables}
use Rattle.hg_run.specs.Few.{KeepsFew}
use Rattle.hg_run.specs.Listed.{AreReady, none_left}
use Rattle.hg_collectors.specs.declared.collectors.Collectors.{Collectors}
use Rattle.hg_run.proofs.FewHeld.{few_more, few_none}
use Rattle.hg_run.proofs.Going.{Going, are_placed, going_first, going_turned, going_on, going_last, ready_less, ready_one_more, may_ask, on_tables}
use Rattle.hg_run.proofs.replay.play.Goals as goal

-- the next record, and those behind it
at : (e : Engine) (long : ℕ) (before now : Collectors) (list : List Session) (last : ℕ) (lines : List Line) (script : Script) (i : ℕ) (r : Record) →
    Going e long before now list last lines (drop i script.records) script
    → i < length script.records → r ≡ get_or script.records i r → Going e long before now list last lines (r ∷ drop (i + 1) script.records) script
at e long before now list last lines script i r going less is =
    let step : drop i script.records ≡ get_or script.records i r ∷ drop (suc i) script.records = drop-cons script.records i r less in
    let plus : suc i ≡ i + 1 = omega arith in
    subst (λ rs. Going e long before now list last lines rs script) (step ∙ (λ j. sym is j ∷ drop (plus j) script.records)) going

-- the transcript has one line more
shows_more : (script : Script) (t u : Shown) (line : Line) → u ≡ record { tables = t.tables; lines = t.lines ++ line ∷ [] } → t.tables ≡ script.tables → u.tables ≡ script.tables
shows_more script t u line is same = ap (λ (s : Shown). s.tables) is ∙ same

goes_more : (e : Engine) (long : ℕ) (before now : Collectors) (list : List Session) (last : ℕ) (t u : Shown) (line : Line) (rest : List Record) (script : Script) →
    u ≡ record { tables = t.tables; lines = t.lines ++ line ∷ [] } → Going e long before now list last (t.lines ++ line ∷ []) rest script → Going e long before now list last u.lines rest script
goes_more e long before now list last t u line rest script is going = subst (λ (s : Shown). Going e long before now list last s.lines rest script) (sym is) going

keeps_more : (t u : Shown) (line : Line) (script : Script) → u ≡ record { tables = t.tables; lines = t.lines ++ line ∷ [] } → KeepsFew script (t.lines ++ line ∷ []) → KeepsFew script u.lines
keeps_more t u line script is few = subst (λ (s : Shown). KeepsFew script s.lines) (sym is) few

-- all are answered
over : (e : Engine) (long : ℕ) (before now : Collectors) (list : List Session) (last : ℕ) (lines : List Line) (script : Script) (i : ℕ) →
    Going e long before now list last lines (drop i script.records) script
    → length script.records ≤ i → Going e long before now list last lines [] script
over e long before now list last lines script i going most = subst (λ rs. Going e long before now list last lines rs script) (drop_all i script.records most) going

pub loop-next-init : goal.loop-next-init
loop-next-init g c = record {
  tables = rw c.new-transcript.ensures refl;
  collectors = c.requires.collectors;
  going = rw c.new-transcript.ensures (going_first c.args.engine.now c.args.long c.args.crew.now.collectors c.args.crew.now.sessions.items c.args.script.now
      c.requires.fits.sessions_are c.requires.fits.lawful c.requires.ready c.requires.none);
  few = λ nothing. rw c.new-transcript.ensures (few_none c.args.script.now);
}

pub record-requires : goal.record-requires
record-requires g c = omega (arith, c.loop-next-test.true, c.record_count-next-end.ensures.same)

pub turn-requires-clause-ready : goal.turn-requires-clause-ready
turn-requires-clause-ready g c =
    let going = at c.args.engine.now c.args.long c.args.crew.now.collectors c.loop-next.crew.collectors c.loop-next.crew.sessions.items c.loop-next.last
    c.loop-next.transcript.lines c.args.script.now c.loop-next.next c.in_ok-record.record c.loop-next.invariant.going
    (omega (arith, c.loop-next-test.true, c.record_count-next-end.ensures.same)) c.in_ok-record.ensures in
    ready_less c.args.engine.now c.loop-next.last none_left _ c.loop-next.crew.sessions.items (λ j. omega arith) going.ready

pub turn-requires-clause-within : goal.turn-requires-clause-within
turn-requires-clause-within g c =
    let going = at c.args.engine.now c.args.long c.args.crew.now.collectors c.loop-next.crew.collectors c.loop-next.crew.sessions.items c.loop-next.last
    c.loop-next.transcript.lines c.args.script.now c.loop-next.next c.in_ok-record.record c.loop-next.invariant.going
    (omega (arith, c.loop-next-test.true, c.record_count-next-end.ensures.same)) c.in_ok-record.ensures in
    let some = going.coming.0.stands.some in
    let most = going.coming.0.most in
    let many = going.ready.many in
    omega (arith, some, most, many)

pub reply_at-requires-clause-ready : goal.reply_at-requires-clause-ready
reply_at-requires-clause-ready g c ks below =
    let going = at c.args.engine.now c.args.long c.args.crew.now.collectors c.loop-next.crew.collectors c.loop-next.crew.sessions.items c.loop-next.last
    c.loop-next.transcript.lines c.args.script.now c.loop-next.next c.in_ok-record.record c.loop-next.invariant.going
    (omega (arith, c.loop-next-test.true, c.record_count-next-end.ensures.same)) c.in_ok-record.ensures in
    let r = c.in_ok-record.record in
    let some = going.coming.0.stands.some in
    let is : suc (r.session - 1) ≡ r.session = omega (arith, some) in
    ready_one_more c.args.engine.now (r.session - 1) c.turn.new.list.items r (drop (c.loop-next.next + 1) c.args.script.now.records) is (c.turn.ensures.ready _ going.ready)

pub reply_at-requires-clause-may : goal.reply_at-requires-clause-may
reply_at-requires-clause-may g c ks below d =
    let e = c.args.engine.now in
    let first = c.args.crew.now.collectors in
    let r = c.in_ok-record.record in
    let mid = c.turn.new.list.items in
    let rest = drop (c.loop-next.next + 1) c.args.script.now.records in
    let going = at e c.args.long first c.loop-next.crew.collectors c.loop-next.crew.sessions.items c.loop-next.last c.loop-next.transcript.lines c.args.script.now c.loop-next.next
    r c.loop-next.invariant.going (omega (arith, c.loop-next-test.true, c.record_count-next-end.ensures.same)) c.in_ok-record.ensures in
    let some = going.coming.0.stands.some in
    let is : suc (r.session - 1) ≡ r.session = omega (arith, some) in
    let turned = going_turned e c.args.long first c.loop-next.crew.collectors c.loop-next.crew.sessions.items mid c.loop-next.last (r.session - 1) c.loop-next.transcript.lines
    (r ∷ rest) c.args.script.now going c.turn.ensures.logs c.turn.ensures.cursors c.turn.ensures.saw c.turn.ensures.ready c.turn.ensures.sees c.turn.ensures.own in
    may_ask e c.args.long first c.loop-next.crew.collectors mid (r.session - 1) (r.session - 1) c.loop-next.transcript.lines r rest c.args.script.now turned is turned.ready.within d

pub reply_at-requires-clause-tables : goal.reply_at-requires-clause-tables
reply_at-requires-clause-tables g c ks below =
    let r = c.in_ok-record.record in
    let going = at c.args.engine.now c.args.long c.args.crew.now.collectors c.loop-next.crew.collectors c.loop-next.crew.sessions.items c.loop-next.last
    c.loop-next.transcript.lines c.args.script.now c.loop-next.next c.in_ok-record.record c.loop-next.invariant.going
    (omega (arith, c.loop-next-test.true, c.record_count-next-end.ensures.same)) c.in_ok-record.ensures in
    subst (λ n. IsOnTables n r.statement) (sym c.requires.fits.tables) (on_tables c.args.script.now.tables r.statement going.coming.0.stands.fits going.coming.0.stands.widths)

pub loop-next-preserved : goal.loop-next-preserved
loop-next-preserved g c =
    let e = c.args.engine.now in
    let script = c.args.script.now in
    let r = c.in_ok-record.record in
    let first = c.args.crew.now.collectors in
    let before = c.loop-next.crew.collectors in
    let later = c.reply_at.new.crew.collectors in
    let rest = drop (c.loop-next.next + 1) script.records in
    let less : c.loop-next.next < length script.records = omega (arith, c.loop-next-test.true, c.record_count-next-end.ensures.same) in
    let going = at e c.args.long first before c.loop-next.crew.sessions.items c.loop-next.last c.loop-next.transcript.lines script c.loop-next.next r c.loop-next.invariant.going
    less c.in_ok-record.ensures in
    let some = going.coming.0.stands.some in
    let is : suc (r.session - 1) ≡ r.session = omega (arith, some) in
    let line : Line = record { session = r.session; place = r.place; reply = c.in_ok-reply.reply } in
    let turned = going_turned e c.args.long first before c.loop-next.crew.sessions.items c.turn.new.list.items c.loop-next.last (r.session - 1) c.loop-next.transcript.lines
    (r ∷ rest) script going c.turn.ensures.logs c.turn.ensures.cursors c.turn.ensures.saw c.turn.ensures.ready c.turn.ensures.sees c.turn.ensures.own in
    let gone = going_on e c.args.long first before later c.turn.new.list.items c.reply_at.new.crew.sessions.items (r.session - 1) c.loop-next.transcript.lines r rest script line turned is refl refl
    (c.in_ok-reply.ensures.replied turned.seen _ _ turned.saw turned.cursors) c.in_ok-reply.ensures.ready c.in_ok-reply.ensures.told.removed c.in_ok-reply.ensures.told.rounds in
    record {
      tables = shows_more script c.loop-next.transcript c.push.new.self line c.in_ok-push.ensures.ok c.loop-next.invariant.tables;
      collectors = c.reply_at.ensures.collectors;
      going = goes_more e c.args.long first later c.reply_at.new.crew.sessions.items (r.session - 1) c.loop-next.transcript c.push.new.self line rest script c.in_ok-push.ensures.ok gone;
      few = λ nothing. keeps_more c.loop-next.transcript c.push.new.self line script c.in_ok-push.ensures.ok
          (few_more e c.args.long first later c.reply_at.new.crew.sessions.items (r.session - 1) c.loop-next.transcript.lines line rest script gone nothing c.requires.fits.some
          c.in_ok-reply.ensures.few (c.loop-next.invariant.few nothing));
    }

-- all are answered, and the session that ran last is ready
ended : (e : Engine) (long : ℕ) (before now : Collectors) (list : List Session) (last : ℕ) (lines : List Line) (script : Script) → Going e long before now list last lines [] script
    → AreReady e last none_left list
ended e long before now list last lines script g = ready_less e last none_left _ list (λ j. omega arith) g.ready

pub catch_up-requires : goal.catch_up-requires
catch_up-requires g c =
    let most : length c.args.script.now.records ≤ c.loop-next.next = omega (arith, c.loop-next-test.false, c.record_count-next-end.ensures.same) in
    record {
      ready = ended c.args.engine.now c.args.long c.args.crew.now.collectors c.loop-next.crew.collectors c.loop-next.crew.sessions.items c.loop-next.last c.loop-next.transcript.lines c.args.script.now
          (over c.args.engine.now c.args.long c.args.crew.now.collectors c.loop-next.crew.collectors c.loop-next.crew.sessions.items c.loop-next.last c.loop-next.transcript.lines
          c.args.script.now c.loop-next.next c.loop-next.invariant.going most);
    }

pub returns-clause-played : goal.returns-clause-played
returns-clause-played g c =
    let most : length c.args.script.now.records ≤ c.loop-next.next = omega (arith, c.loop-next-test.false, c.record_count-next-end.ensures.same) in
    going_last c.args.engine.now c.args.long c.args.crew.now.collectors c.loop-next.crew.collectors c.loop-next.crew.sessions.items c.catch_up.new.list.items c.loop-next.last
    c.catch_up.result c.loop-next.transcript.lines c.args.script.now
    (over c.args.engine.now c.args.long c.args.crew.now.collectors c.loop-next.crew.collectors c.loop-next.crew.sessions.items c.loop-next.last c.loop-next.transcript.lines
    c.args.script.now c.loop-next.next c.loop-next.invariant.going most)
    c.catch_up.ensures.logs c.catch_up.ensures.saw c.catch_up.ensures.ready c.catch_up.ensures.caught c.loop-next.invariant.few

pub returns-clause-placed : goal.returns-clause-placed
returns-clause-placed g c = are_placed c.args.engine.now c.catch_up.result none_left c.catch_up.new.list.items c.catch_up.ensures.ready
