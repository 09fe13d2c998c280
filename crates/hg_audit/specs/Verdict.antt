-- What an audit answers of a script and a printed value.
use Rattle.std.specs.Prelude.{◌≡◌, ℕ, suc, ◌⊎◌, List, ◌++◌, length, take, codes, decimal, Bool, not, ◌&&◌, ◌==◌, IsFalse, Option, Some, None, is_some}
use Rattle.std.specs.List.{flat_map, list_any}
use Rattle.hg_base.specs.declared.line.Line.{Line}
use Rattle.hg_base.specs.declared.line.Printed.{Printed}
use Rattle.hg_base.specs.Script.{Script, Mode, replay, run}
use Rattle.hg_base.specs.Transcript.{in_order}
use Rattle.hg_base.specs.Shape.{HasShape, report_of}
use Rattle.hg_base.specs.Sound.{IsSound}
use Rattle.hg_base.specs.Text.{line_records, text_records}
use Rattle.hg_report.specs.Readable.{IsTextOf, IsRefusedAt}
use Rattle.hg_decide.specs.Audit.{Fault, in_shape, in_commits, in_reply, in_fresh, in_totals, HasFault}
use Rattle.hg_audit.specs.declared.verdict.Why.{Why}
use Rattle.hg_audit.specs.declared.verdict.Why.TheVariants as whys
use Rattle.hg_audit.specs.declared.verdict.Verdict.{Verdict}
use Rattle.hg_audit.specs.declared.verdict.Verdict.TheVariants.{Sound, Unsound}

-- ---- by which command a text is judged

-- a session's record is answered by a report
abbrev pub is_session_report : Line → Bool
is_session_report line = not (line.session == 0) && is_some (report_of line.reply)

-- A text is judged as one of a run with so many rounds where its lines have that shape and no session's record is answered
-- by a report, and else as one of a replay.
abbrev pub IsJudgedAs : Script → List Line → Mode → Type 0
IsJudgedAs script lines (run rounds) = IsFalse (list_any is_session_report lines) × HasShape (in_order (run rounds) script.records) lines
IsJudgedAs script lines replay = IsFalse (list_any is_session_report lines) → (rounds : ℕ) → ¬ HasShape (in_order (run rounds) script.records) lines

-- ---- what fails first, and where

-- the kind of a fault, as a verdict prints it
abbrev pub why_of : Fault → Why
why_of (in_shape k) = whys.Shape
why_of in_commits = whys.Commits
why_of (in_reply k) = whys.Reply
why_of (in_fresh k) = whys.Fresh
why_of in_totals = whys.Totals

-- the first record of line k; where there is no such line, the first of the totals
abbrev pub first_record : Script → Printed → ℕ → ℕ
first_record script printed k = suc (length (flat_map (line_records script.tables) (take k printed.lines)))

-- the last record of the printed text
abbrev pub last_record : Script → Printed → ℕ
last_record script printed = length (text_records script printed)

-- the record of the text that shows a fault
abbrev pub record_of : Script → Printed → Fault → ℕ
record_of script printed (in_shape k) = first_record script printed k
record_of script printed in_commits = last_record script printed
record_of script printed (in_reply k) = first_record script printed k
record_of script printed (in_fresh k) = first_record script printed k
record_of script printed in_totals = last_record script printed

-- sound, or the first fault with its record
abbrev pub IsFinding : Mode → Script → Printed → Verdict → Type 0
IsFinding mode script printed Sound = IsSound mode script printed
IsFinding mode script printed (Unsound line why) = (fault : Fault) × HasFault mode script printed fault × (line ≡ record_of script printed fault) × (why ≡ why_of fault)

-- the verdict on a printed value
abbrev pub IsVerdict : Script → Printed → Verdict → Type 0
IsVerdict script printed verdict = (mode : Mode) × IsJudgedAs script printed.lines mode × IsFinding mode script printed verdict

-- as a run, where the lines have the shape of one
abbrev pub IsOfRun : Script → Printed → Option Verdict → Type 0
IsOfRun script printed None = (rounds : ℕ) → ¬ HasShape (in_order (run rounds) script.records) printed.lines
IsOfRun script printed (Some verdict) = (rounds : ℕ) × HasShape (in_order (run rounds) script.records) printed.lines × IsFinding (run rounds) script printed verdict

-- ---- the text of a verdict

-- the word that a verdict prints for a kind of fault
abbrev pub why_text : Why → List ℕ
why_text whys.Text = codes "Text"
why_text whys.Shape = codes "Shape"
why_text whys.Commits = codes "Commits"
why_text whys.Reply = codes "Reply"
why_text whys.Fresh = codes "Fresh"
why_text whys.Totals = codes "Totals"

-- that a text is sound, or the first record that shows what fails, and what fails
abbrev pub verdict_text : Verdict → List ℕ
verdict_text Sound = codes "sound"
verdict_text (Unsound line why) = codes "unsound," ++ decimal line ++ codes "," ++ why_text why

-- ---- the verdict on bytes

-- of bytes that are no text, the first record with which they do not begin one; of a text, the verdict on what was printed
abbrev pub IsAudit : Script → List ℕ → Verdict → Type 0
IsAudit script bytes verdict =
    ((printed : Printed) × IsTextOf script bytes printed × IsVerdict script printed verdict) ⊎ ((line : ℕ) × IsRefusedAt script bytes line × (verdict ≡ Unsound line whys.Text))

-- the bytes are a text that is sound as it is judged
abbrev pub IsSoundText : Script → List ℕ → Type 0
IsSoundText script bytes =
    (printed : Printed) × (mode : Mode) × IsTextOf script bytes printed × IsJudgedAs script printed.lines mode × IsSound mode script printed
