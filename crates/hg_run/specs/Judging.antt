-- What is told of a text that is held against a script.
use Rattle.std.specs.Prelude.{◌≡◌, ℕ, ◌≤◌, ◌↔◌, List, ◌++◌, length, codes, None}
use Rattle.hg_base.specs.declared.limits.TheConstants.{MOST_SCRIPT_BYTES}
use Rattle.hg_script.specs.Fields.{rows_of}
use Rattle.hg_script.specs.Meaning.{refusal_of, script_of}
use Rattle.hg_audit.specs.declared.verdict.Verdict.{Verdict}
use Rattle.hg_audit.specs.declared.verdict.Verdict.TheVariants.{Sound}
use Rattle.hg_audit.specs.Verdict.{IsAudit, IsSoundText, verdict_text}
use Rattle.hg_streams.specs.Parting.{AreParts}

-- The bytes are a script and a text; the script is no longer than one may be, and breaks no rule; and this is the verdict on the text, which is `Sound` exactly where the
-- text is sound for the script.
pub record IsVerdictOn (bytes : List ℕ) (verdict : Verdict) : Type 0 where
  pub script : List ℕ
  pub text : List ℕ
  pub parts : AreParts bytes script text
  pub short : length script ≤ MOST_SCRIPT_BYTES
  pub valid : refusal_of (rows_of script) ≡ None
  pub audit : IsAudit (script_of (rows_of script)) text verdict
  pub sound : (verdict ≡ Sound) ↔ IsSoundText (script_of (rows_of script)) text

-- the line of a verdict
abbrev pub line_of : Verdict → List ℕ
line_of verdict = verdict_text verdict ++ codes "\n"

-- the answer is the line of the verdict on the bytes
pub record IsJudgedBy (bytes answer : List ℕ) : Type 0 where
  pub verdict : Verdict
  pub on : IsVerdictOn bytes verdict
  pub told : answer ≡ line_of verdict
