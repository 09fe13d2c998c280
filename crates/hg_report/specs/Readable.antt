-- Which bytes are the text of a printed value, and where other bytes cease to be the start of one.
use Rattle.std.specs.Prelude.{◌≡◌, ℕ, suc, ◌≤◌, List, ◌++◌, length, take, ⊤}
use Rattle.std.specs.List.{flat_map}
use Rattle.hg_base.specs.declared.line.Printed.{Printed}
use Rattle.hg_base.specs.Script.{Script}
use Rattle.hg_base.specs.Text.{IsFit, text_records, text_of}
use Rattle.hg_report.specs.declared.refusal.TextRefusal.{TextRefusal}
use Rattle.hg_report.specs.declared.refusal.TextRefusal.TheVariants.{At, NoMemory}
use Rattle.hg_records.specs.Bytes.{record_bytes}

-- the bytes are the text of a printed value that fits the script
pub record IsTextOf (script : Script) (bytes : List ℕ) (printed : Printed) : Type 0 where
  pub fits : IsFit script printed
  pub text : bytes ≡ text_of record_bytes script printed

-- the bytes begin with the first n records of some text
pub record BeginsText (script : Script) (bytes : List ℕ) (n : ℕ) : Type 0 where
  pub printed : Printed
  pub fits : IsFit script printed
  pub many : n ≤ length (text_records script printed)
  pub rest : List ℕ
  pub text : bytes ≡ flat_map record_bytes (take n (text_records script printed)) ++ rest

-- The bytes are no text, and this is the first record, counted from 1, with which they do not begin one: it is another than may
-- stand there, or it is not there whole.
pub record IsRefusedAt (script : Script) (bytes : List ℕ) (line : ℕ) : Type 0 where
  pub none : (printed : Printed) → IsTextOf script bytes printed → ⊥
  pub before : (n : ℕ) × (suc n ≡ line) × BeginsText script bytes n
  pub first : BeginsText script bytes line → ⊥

-- a refusal names that record; running out of memory says nothing
abbrev pub TellsRefusal : Script → List ℕ → TextRefusal → Type 0
TellsRefusal script bytes (At line) = IsRefusedAt script bytes line
TellsRefusal script bytes NoMemory = ⊤
