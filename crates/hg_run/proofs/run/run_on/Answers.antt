use Rattle.std.proofs.Common.{rules, ◌≡◌, ℕ, ◌<◌, ◌≤◌, List, [], ◌++◌, length, take, drop, get_or, refl, sym, ap, ◌∙◌, subst, arith}
use Rattle.std.specs.Prelude.{All, IfOk, vec_capacity}
use Rattle.hg_base.specs.declared.line.Line.{Line}
use Rattle.hg_base.specs.Lists.{Each}
use Rattle.hg_transcript.specs.LinesText.{Shown}
use Rattle.hg_rule.specs.New.{EachFrom}
use Rattle.hg_session.specs.declared.session.Session.{Session}
use Rattle.hg_session.specs.Engines.{engine_sizes}
use Rattle.hg_session.specs.Finished.{IsClosed}
use Rattle.hg_run.specs.declared.work.Worker.{Worker}
use Rattle.hg_run.specs.Driven.{HasDrivenAll}
use Rattle.hg_collectors.specs.Telling.{sweep_lines}
use Rattle.hg_run.specs.Working.{AreEnded, AreWilling, HasEnded, IsHired, hired, lines_in, sessions_in}
use Rattle.hg_run.proofs.Closes.{closed_cursors}
use Rattle.hg_run.proofs.Hiring.{closed_from, driven_all, ended_each, hired_all, hired_many, new_back, on_gathered, sessions_many, tables_from, take_whole}
use Rattle.hg_run.proofs.run.run_on.Goals as goal

pub returns-in_err-told-clause-back : goal.returns-in_err-told-clause-back
returns-in_err-told-clause-back g c = new_back c.args.engine.now (engine_sizes c.args.engine.now).quota c.args.crew.now.sessions.items c.args.crew.now.sessions.items refl c.requires.new

pub returns-in_err-back-clause-back : goal.returns-in_err-back-clause-back
returns-in_err-back-clause-back g c = new_back c.args.engine.now (engine_sizes c.args.engine.now).quota c.args.crew.now.sessions.items c.args.crew.now.sessions.items refl c.requires.new

pub returns-in-Err-clause-back : goal.returns-in-Err-clause-back
returns-in-Err-clause-back g c =
    let same : c.in-Err.list.items ≡ c.args.crew.now.sessions.items = search rules in
    new_back c.args.engine.now (engine_sizes c.args.engine.now).quota c.args.crew.now.sessions.items c.in-Err.list.items same c.requires.new

pub run_beside-requires-clause-hired : goal.run_beside-requires-clause-hired
run_beside-requires-clause-hired g c κs within =
    let e = c.args.engine.now in
    let z = engine_sizes e in
    let script = c.args.script.now in
    let old : List Session = c.args.crew.now.sessions.items in
    let list : List Session = c.replace-list.result.items in
    let is : list ≡ old = ap (λ v. v.items) c.replace-list.ensures.value in
    let was : List Worker = c.in-Ok.workers.items in
    let value : c.as_mut_slice.result.now ≡ was = c.as_mut_slice.ensures.value in
    let hired_is : was ≡ hired script 1 old = c.in-Ok.ensures.hired ∙ ap (λ (l : List Session). hired script 1 l) is in
    subst (All (IsHired e)) (sym (value ∙ hired_is)) (hired_all e z.quota script c.requires.lawful c.requires.tables c.requires.quota old c.requires.new)

pub gather-transcript-requires : goal.gather-transcript-requires
gather-transcript-requires g c =
    let e = c.args.engine.now in
    let z = engine_sizes e in
    let script = c.args.script.now in
    let old : List Session = c.args.crew.now.sessions.items in
    let list : List Session = c.replace-list.result.items in
    let is : list ≡ old = ap (λ v. v.items) c.replace-list.ensures.value in
    let was : List Worker = c.in-Ok.workers.items in
    let value : c.as_mut_slice.result.now ≡ was = c.as_mut_slice.ensures.value in
    let hired_is : was ≡ hired script 1 old = c.in-Ok.ensures.hired ∙ ap (λ (l : List Session). hired script 1 l) is in
    let now : List Worker = c.run_beside.new.workers in
    let same : length now ≡ length was = c.run_beside.auto.workers ∙ ap (λ (l : List Worker). length l) value in
    let len : c.in-Ok.workers.len ≡ length now = sym c.as_mut_slice.ensures.len ∙ sym c.run_beside.auto.workers in
    let taken : List Worker = take c.in-Ok.workers.len (now ++ drop (length now) was) in
    let all : taken ≡ now = ap (λ (m : ℕ). take m (now ++ drop (length now) was)) len ∙ take_whole now (drop (length now) was) in
    let ran : (k : ℕ) (d : Worker) → k < length was → HasEnded e (get_or was k d) (get_or now k d) = subst (λ (l : List Worker). (k : ℕ) (d : Worker) → k < length l →
    HasEnded e (get_or l k d) (get_or now k d)) value c.run_beside.ensures.ended in
    let ended : AreEnded e (hired script 1 old) now = subst (λ (vs : List Worker). AreEnded e vs now) hired_is (ended_each e was now same ran) in
    let value-2 : c.as_slice.result.now ≡ now = c.as_slice.ensures.value ∙ all in
    subst (Each (λ (w : Worker). w.transcript.tables ≡ script.tables)) (sym value-2) (tables_from e script 1 old now ended)

pub retire-requires : goal.retire-requires
retire-requires g c =
    let e = c.args.engine.now in
    let z = engine_sizes e in
    let script = c.args.script.now in
    let old : List Session = c.args.crew.now.sessions.items in
    let list : List Session = c.replace-list.result.items in
    let is : list ≡ old = ap (λ v. v.items) c.replace-list.ensures.value in
    let was : List Worker = c.in-Ok.workers.items in
    let value : c.as_mut_slice.result.now ≡ was = c.as_mut_slice.ensures.value in
    let hired_is : was ≡ hired script 1 old = c.in-Ok.ensures.hired ∙ ap (λ (l : List Session). hired script 1 l) is in
    let now : List Worker = c.run_beside.new.workers in
    let same : length now ≡ length was = c.run_beside.auto.workers ∙ ap (λ (l : List Worker). length l) value in
    let len : c.in-Ok.workers.len ≡ length now = sym c.as_mut_slice.ensures.len ∙ sym c.run_beside.auto.workers in
    let taken : List Worker = take c.in-Ok.workers.len (now ++ drop (length now) was) in
    let all : taken ≡ now = ap (λ (m : ℕ). take m (now ++ drop (length now) was)) len ∙ take_whole now (drop (length now) was) in
    let many : length now ≡ length old = same ∙ ap (λ (l : List Worker). length l) hired_is ∙ hired_many script 1 old in
    let none : length c.replace-list.new.dest.items ≡ 0 = ap (λ v. length v.items) c.replace-list.ensures.after ∙ ap (λ (l : List Session). length l) c.in_ok-back.ensures.items in
    let room : length old ≤ vec_capacity c.replace-list.new.dest = search rules in
    let long : length taken ≡ length now = ap (λ (l : List Worker). length l) all in
    omega (arith, none, room, long, many)

pub returns-clause-driven : goal.returns-clause-driven
returns-clause-driven g c =
    let e = c.args.engine.now in
    let z = engine_sizes e in
    let script = c.args.script.now in
    let old : List Session = c.args.crew.now.sessions.items in
    let list : List Session = c.replace-list.result.items in
    let is : list ≡ old = ap (λ v. v.items) c.replace-list.ensures.value in
    let was : List Worker = c.in-Ok.workers.items in
    let value : c.as_mut_slice.result.now ≡ was = c.as_mut_slice.ensures.value in
    let hired_is : was ≡ hired script 1 old = c.in-Ok.ensures.hired ∙ ap (λ (l : List Session). hired script 1 l) is in
    let now : List Worker = c.run_beside.new.workers in
    let same : length now ≡ length was = c.run_beside.auto.workers ∙ ap (λ (l : List Worker). length l) value in
    let len : c.in-Ok.workers.len ≡ length now = sym c.as_mut_slice.ensures.len ∙ sym c.run_beside.auto.workers in
    let taken : List Worker = take c.in-Ok.workers.len (now ++ drop (length now) was) in
    let all : taken ≡ now = ap (λ (m : ℕ). take m (now ++ drop (length now) was)) len ∙ take_whole now (drop (length now) was) in
    let ran : (k : ℕ) (d : Worker) → k < length was → HasEnded e (get_or was k d) (get_or now k d) = subst (λ (l : List Worker). (k : ℕ) (d : Worker) → k < length l →
    HasEnded e (get_or l k d) (get_or now k d)) value c.run_beside.ensures.ended in
    let ended : AreEnded e (hired script 1 old) now = subst (λ (vs : List Worker). AreEnded e vs now) hired_is (ended_each e was now same ran) in
    let many : length now ≡ length old = same ∙ ap (λ (l : List Worker). length l) hired_is ∙ hired_many script 1 old in
    let none : c.replace-list.new.dest.items ≡ [] = ap (λ v. v.items) c.replace-list.ensures.after ∙ c.in_ok-back.ensures.items in
    let new_is : c.retire.new.sessions.items ≡ sessions_in now = c.retire.ensures ∙ (ap (λ (l : List Session). l ++ sessions_in taken) none ∙ ap (λ (ws : List Worker). sessions_in ws) all) in
    let value-2 : c.as_slice.result.now ≡ now = c.as_slice.ensures.value ∙ all in
    let told = c.run_beside.new.told in
    let long : ℕ = c.args.plan.now.long in
    let rounds : ℕ = c.args.plan.now.rounds in
    let before = c.args.crew.now.collectors in
    let after = c.run_beside.new.collectors in
    let rest : List Line = sweep_lines 1 told.group.sweeps.items ++ (sweep_lines 1 told.table.sweeps.items ++ sweep_lines 1 told.interval.sweeps.items) in
    subst (λ (new : List Session). IfOk c.gather-transcript.result (λ (t : Shown). HasDrivenAll z long rounds script.records old before t.lines new after)) (sym new_is)
    (on_gathered (lines_in c.as_slice.result.now ++ rest) (AreWilling c.as_slice.result.now told)
    (λ lines. HasDrivenAll z long rounds script.records old before lines (sessions_in now) after) c.gather-transcript.result c.gather-transcript.ensures.lines c.gather-transcript.ensures.willing
    (λ lines told_is willing. driven_all e long rounds script old now before after told lines c.requires.lawful c.requires.sessions many ended c.run_beside.ensures.made
    (subst (λ (ws : List Worker). AreWilling ws told) value-2 willing) (told_is ∙ ap (λ (ws : List Worker). lines_in ws ++ rest) value-2)))

pub returns-clause-back : goal.returns-clause-back
returns-clause-back g c =
    let e = c.args.engine.now in
    let z = engine_sizes e in
    let script = c.args.script.now in
    let old : List Session = c.args.crew.now.sessions.items in
    let list : List Session = c.replace-list.result.items in
    let is : list ≡ old = ap (λ v. v.items) c.replace-list.ensures.value in
    let was : List Worker = c.in-Ok.workers.items in
    let value : c.as_mut_slice.result.now ≡ was = c.as_mut_slice.ensures.value in
    let hired_is : was ≡ hired script 1 old = c.in-Ok.ensures.hired ∙ ap (λ (l : List Session). hired script 1 l) is in
    let now : List Worker = c.run_beside.new.workers in
    let same : length now ≡ length was = c.run_beside.auto.workers ∙ ap (λ (l : List Worker). length l) value in
    let len : c.in-Ok.workers.len ≡ length now = sym c.as_mut_slice.ensures.len ∙ sym c.run_beside.auto.workers in
    let taken : List Worker = take c.in-Ok.workers.len (now ++ drop (length now) was) in
    let all : taken ≡ now = ap (λ (m : ℕ). take m (now ++ drop (length now) was)) len ∙ take_whole now (drop (length now) was) in
    let ran : (k : ℕ) (d : Worker) → k < length was → HasEnded e (get_or was k d) (get_or now k d) = subst (λ (l : List Worker). (k : ℕ) (d : Worker) → k < length l →
    HasEnded e (get_or l k d) (get_or now k d)) value c.run_beside.ensures.ended in
    let ended : AreEnded e (hired script 1 old) now = subst (λ (vs : List Worker). AreEnded e vs now) hired_is (ended_each e was now same ran) in
    let many : length now ≡ length old = same ∙ ap (λ (l : List Worker). length l) hired_is ∙ hired_many script 1 old in
    let none : c.replace-list.new.dest.items ≡ [] = ap (λ v. v.items) c.replace-list.ensures.after ∙ c.in_ok-back.ensures.items in
    let new_is : c.retire.new.sessions.items ≡ sessions_in now = c.retire.ensures ∙ (ap (λ (l : List Session). l ++ sessions_in taken) none ∙ ap (λ (ws : List Worker). sessions_in ws) all) in
    let closed : EachFrom (IsClosed e) 1 c.retire.new.sessions.items = subst (EachFrom (IsClosed e) 1) (sym new_is) (closed_from e z.quota script 1 old now c.requires.new ended) in
    record {
      many = ap (λ (l : List Session). length l) new_is ∙ (sessions_many now ∙ many);
      closed = closed;
      cursors = closed_cursors e 1 c.retire.new.sessions.items closed;
    }
