-- What a dump prints.
use Rattle.std.specs.Prelude.{◌≡◌, ℕ, ◌≤◌, List, [], ◌∷◌, ◌++◌, length, codes, decimal}
use Rattle.std.specs.declared.alloc.Global.{Global}
use Rattle.hg_dump.specs.Backup.{IsBackup}
use Rattle.hg_dump.specs.Reader.{IsSoundWith}
use Rattle.hg_base.specs.declared.line.Line.{Line}
use Rattle.hg_base.specs.declared.line.Printed.{Printed}
use Rattle.hg_base.specs.declared.line.Totals.{Totals}
use Rattle.hg_base.specs.History.{History}
use Rattle.hg_base.specs.Script.{Script}
use Rattle.hg_base.specs.Sound.{all_said}
use Rattle.hg_base.specs.Text.{IsFit, text_of}
use Rattle.hg_base.specs.Transcript.{history_of}
use Rattle.hg_records.specs.Bytes.{record_bytes}
use Rattle.hg_dump.specs.Records.{dump_text}
use Rattle.hg_dump.specs.Rows.{rows_at}
use Rattle.hg_rule.specs.declared.passes.SessionPass.{SessionPass}
use Rattle.hg_rule.specs.Seats.{session_view, IsSessionOf}
use Rattle.hg_session.specs.declared.engine.Engine.{Engine}
use Rattle.hg_session.specs.declared.session.Session.{Session}
use Rattle.hg_session.specs.Engines.{engine_board_id, engine_sizes}
use Rattle.hg_collectors.specs.declared.collectors.Collectors.{Collectors}
use Rattle.hg_run.specs.Driven.{HasDrivenAll}
use Rattle.hg_run.specs.Reader.{HasDumped, IsReadAndClosed}
use Rattle.hg_run.specs.declared.dump_text.Dumps.{Dumps}
use Rattle.hg_run.specs.Printing.{PrintsOneRun}
use Rattle.hg_exact.specs.Modes.{rounds_beside}
use Rattle.hg_run.specs.Words.{Settings}

-- the history that lines print
abbrev pub printed_history : Settings → Script → List Line → History
printed_history settings script lines = history_of (all_said settings.mode script lines)

-- a dump under the number of its snapshot
abbrev pub part_text : ℕ → List ℕ → List ℕ
part_text at dump = codes "snapshot," ++ decimal at ++ codes "\n" ++ dump

-- the dump of a history at a snapshot
abbrev pub dump_at : Script → History → ℕ → List ℕ
dump_at script h at = dump_text script (rows_at script.tables h at)

-- the same under the number of the snapshot
abbrev pub dump_part : Script → History → ℕ → List ℕ
dump_part script h at = part_text at (dump_at script h at)

-- A text that a dump may print under these settings: that of a printed value which is sound for the script concurrently with a reader of
-- all tables at a snapshot, fits it, and is what one list of steps printed. Then the dump of its history at that snapshot follows, and the dump of its history at its end. Both are
-- backups.
pub record IsDumpedFor (settings : Settings) (script : Script) (text : List ℕ) : Type 0 where
  pub printed : Printed
  pub at : ℕ
  pub sound : IsSoundWith (rounds_beside settings.mode) script (at ∷ []) printed
  pub fit : IsFit script printed
  pub within : at ≤ length (printed_history settings script printed.lines)
  pub one_run : PrintsOneRun 1 settings script printed.lines printed.totals
  pub same : text ≡ text_of record_bytes script printed
      ++ (dump_part script (printed_history settings script printed.lines) at
      ++ dump_part script (printed_history settings script printed.lines) (length (printed_history settings script printed.lines)))
  pub first : IsBackup script (printed_history settings script printed.lines) at (dump_at script (printed_history settings script printed.lines) at)
  pub last : IsBackup script (printed_history settings script printed.lines) (length (printed_history settings script printed.lines))
      (dump_at script (printed_history settings script printed.lines) (length (printed_history settings script printed.lines)))

-- A run next to a reader printed these lines of the sessions and the collectors that an engine had before. The reader appended a dump while
-- they ran, and one more after they had ended, and the totals are those of what they and the reader left.
pub record HasRunAndRead (alloc : Global) (e : Engine) (long rounds : ℕ) (script : Script) (old : List Session) (before : Collectors) (pass : SessionPass) (was : Dumps)
    (lines : List Line) (totals : Totals) (dumps : Dumps) : Type 0 where
  pub new : List Session
  pub after : Collectors
  pub middle : SessionPass
  pub driven : HasDrivenAll (engine_sizes e) long rounds script.records old before lines new after
  pub many : length new ≡ length old
  pub dumped : HasDumped e script dumps.at (session_view pass) (session_view middle) was.first.items dumps.first.items
  pub own : IsSessionOf (engine_board_id e) (engine_sizes e) middle
  pub closed : IsReadAndClosed alloc e script new after middle was.last.items dumps.last.items totals dumps.end

-- The lines and the totals of a run with a reader, and what it read: the first dump at a snapshot, and the last one at the end of the
-- history that the lines print.
pub record HasReadBoth (settings : Settings) (script : Script) (lines : List Line) (totals : Totals) (dumps : Dumps) : Type 0 where
  pub sound : IsSoundWith (rounds_beside settings.mode) script (dumps.at ∷ []) (record { lines = lines; totals = totals })
  pub within : dumps.at ≤ length (printed_history settings script lines)
  pub one_run : PrintsOneRun 1 settings script lines totals
  pub first : dumps.first.items ≡ dump_text script (rows_at script.tables (printed_history settings script lines) dumps.at)
  pub end_is : dumps.end ≡ length (printed_history settings script lines)
  pub last : dumps.last.items ≡ dump_text script (rows_at script.tables (printed_history settings script lines) dumps.end)
