-- What a dump is worth: it is a script again, and a replay of it leaves the same rows.
use Rattle.std.specs.Prelude.{◌≡◌, ℕ, ◌+◌, ◌≤◌, List, length, map, Contains, Some, None}
use Rattle.hg_base.specs.declared.line.Line.{Line}
use Rattle.hg_base.specs.declared.rid.Rid.{Rid}
use Rattle.hg_base.specs.declared.statement.Record.{Record}
use Rattle.hg_base.specs.declared.statement.Statement.TheVariants.{Put}
use Rattle.hg_base.specs.declared.value.Value.{Value}
use Rattle.hg_base.specs.History.{History, visible}
use Rattle.hg_base.specs.Script.{Script, replay}
use Rattle.hg_base.specs.Sound.{LinesAreSound, all_said}
use Rattle.hg_base.specs.Transcript.{history_of}
use Rattle.hg_script.specs.Fields.{rows_of}
use Rattle.hg_script.specs.Meaning.{refusal_of, script_of}
use Rattle.hg_script.specs.Numbered.{records_before}
use Rattle.hg_dump.specs.Dumps.{dump_of}
use Rattle.hg_dump.specs.Rows.{rows_at}

-- each row that a history shows at a snapshot was put by one of the records
abbrev pub ShowsPutRows : List Record → History → ℕ → Type 0
ShowsPutRows records h s = (r : Rid) (row : List Value) → (visible h r s).row ≡ Some row → Contains (map (λ q. q.statement) records) (Put r row)

-- The text of a dump of the script's tables at a snapshot. It has at most as many records as the script, none breaks a rule, and
-- they mean the dump. Any replay of what they mean leaves the rows of the snapshot.
pub record IsBackup (script : Script) (h : History) (s : ℕ) (dump : List ℕ) : Type 0 where
  pub few : length (rows_of dump) ≤ records_before script + length script.records
  pub valid : refusal_of (rows_of dump) ≡ None
  pub means : script_of (rows_of dump) ≡ dump_of script h s
  pub restores : (lines : List Line) → LinesAreSound replay (script_of (rows_of dump)) lines → let restored = history_of (all_said replay (script_of (rows_of dump)) lines) in
      rows_at script.tables restored (length restored) ≡ rows_at script.tables h s
