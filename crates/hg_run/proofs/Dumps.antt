-- What an export leaves, as it is said of a dump.
use Rattle.std.proofs.Common.{◌≡◌, ◌++◌, ℕ, List, subst}
use Rattle.std.specs.Prelude.{Result, Ok, Err, IfOk}
use Rattle.hg_base.specs.declared.fault.NoMemory.{NoMemory}
use Rattle.hg_base.specs.History.{History}
use Rattle.hg_base.specs.Lists.{Each}
use Rattle.hg_base.specs.Script.{Script}
use Rattle.hg_core.specs.declared.log.LogEntry.{LogEntry}
use Rattle.hg_cursor.specs.Logs.{GoesOn}
use Rattle.hg_dump.specs.Exports.{HasRead}
use Rattle.hg_rule.specs.declared.view.View.{View}
use Rattle.hg_session.specs.declared.engine.Engine.{Engine}
use Rattle.hg_session.specs.Engines.{engine_sizes}
use Rattle.hg_dump.specs.Records.{dump_text}
use Rattle.hg_dump.specs.Rows.{rows_at}
use Rattle.hg_tracker.specs.Begun.{AtMost}
use Rattle.hg_run.specs.Reader.{HasDumped, IsOver}

pub dumped_of : (e : Engine) (buckets : ℕ) (script : Script) (r : Result ℕ NoMemory) (old new : View) (before after : List ℕ) → buckets ≡ (engine_sizes e).buckets
    → IfOk r (λ s. (h : History) (logs : ℕ → List LogEntry) → GoesOn buckets new h logs → after ≡ before ++ dump_text script (rows_at script.tables h s)) →
    IfOk r (λ s. Each (AtMost s) old.sights) → HasRead old r new
    → IfOk r (λ at. HasDumped e script at old new before after)
dumped_of e buckets script (Ok s) old new before after is text fresh read = record {
  text = subst (λ n. (h : History) (logs : ℕ → List LogEntry) → GoesOn n new h logs → after ≡ before ++ dump_text script (rows_at script.tables h s)) is text;
  fresh = fresh;
  read = read;
}
dumped_of e buckets script (Err x) old new before after is text fresh read = tt

pub over_of : (old new : View) (r : Result ℕ NoMemory) → HasRead old r new → IsOver old new
over_of old new (Ok s) read = (s, read)
over_of old new (Err x) read = read
