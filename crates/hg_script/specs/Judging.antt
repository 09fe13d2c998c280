-- What is known of the records so far where their statements are not kept, and how the next one is judged.
use Rattle.std.specs.Prelude.{◌≡◌, ℕ, min, List, [], ◌∷◌, ◌++◌, Bool, false, Option, Some, None}
use Rattle.hg_base.specs.declared.limits.TheConstants.{MOST_RECORDS}
use Rattle.hg_base.specs.Script.{Declaration, Script}
use Rattle.hg_script.specs.declared.code.Code.{Code}
use Rattle.hg_script.specs.declared.judge.Judged.{Judged}
use Rattle.hg_script.specs.declared.judge.Judged.TheVariants.{Declared, Asked, Broken}
use Rattle.hg_script.specs.Fields.{Fields}
use Rattle.hg_script.specs.declared.draft.Draft.{Draft}
use Rattle.hg_script.specs.Meaning.{first_code, with_draft, with_row}
use Rattle.hg_script.specs.Rules.{number_breaks, range_breaks, name_breaks, value_breaks}
use Rattle.hg_script.specs.Sessions.{OpenFlags, KnowsRecords}

-- the version, the tables, what the sessions have open, and whether a session's record came
pub record Known : Type 0 where
  pub version : ℕ
  pub tables : List Declaration
  pub open_in : OpenFlags
  pub started : Bool

-- these are those of the records that gave a script
pub record Knows (k : Known) (s : Script) : Type 0 where
  pub version_is : k.version ≡ s.version
  pub tables_are : k.tables ≡ s.tables
  pub records_are : KnowsRecords k.started k.open_in s.records

-- The first code whose rule the record at this place breaks, after the records that gave s. It is that of a script, but no record is one
-- too many.
abbrev pub code_at : ℕ → Script → Fields → Option Code
code_at place s r = first_code (min place MOST_RECORDS) s r

-- s with one more record that has these fields; but for its place, which has no bound, it is that of a script
abbrev pub script_at : ℕ → Script → Fields → Script
script_at place s r = with_row place s r

-- a record that breaks no rule makes t of s: a version or a table is no statement, and a statement comes after those before it
abbrev pub Makes : ℕ → Script → Judged → Script → Type 0
Makes place s (Broken code) t = ⊥
Makes place s Declared t = t.records ≡ s.records
Makes place s (Asked session statement) t = t ≡ record s { records = s.records ++ (record { place = place; session = session; statement = statement }) ∷ [] }

-- the record at this place was judged, and this is known then: what breaks a rule changes nothing
abbrev pub IsJudged : ℕ → Script → Fields → Judged → Known → Type 0
IsJudged place s r (Broken code) new = (code_at place s r ≡ Some code) × Knows new s
IsJudged place s r Declared new = (code_at place s r ≡ None) × Knows new (script_at place s r) × Makes place s Declared (script_at place s r)
IsJudged place s r (Asked session statement) new = (code_at place s r ≡ None) × Knows new (script_at place s r) × Makes place s (Asked session statement) (script_at place s r)

-- a draft breaks no rule of its own
abbrev pub KeepsOwn : Draft → Type 0
KeepsOwn draft = (number_breaks draft ≡ false) × (range_breaks draft ≡ false) × (name_breaks draft ≡ false) × (value_breaks draft ≡ false)

-- a draft that breaks no rule was taken after the records that gave s, and this is known then
abbrev pub IsTaken : ℕ → Script → Fields → Draft → Judged → Known → Type 0
IsTaken place s r draft judged new = Knows new (with_draft place s r draft) × Makes place s judged (with_draft place s r draft)
