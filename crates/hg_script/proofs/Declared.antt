-- What a table's record that breaks no rule says of the script before it.
use Rattle.std.proofs.Common.{◌≡◌, ◌<◌, ℕ, Bool, true, false, ◌&&◌, not, List, [], ◌∷◌, length, Option, Some, None, is_some, nat_lt, nat_le, refl, arith}
use Rattle.std.proofs.lemmas.Bool.{or_parts}
use Rattle.std.proofs.lemmas.Bool.Decides.{nat_tests}
use Rattle.hg_base.specs.declared.limits.TheConstants.{MOST_RECORDS, MOST_TABLES}
use Rattle.hg_base.specs.declared.rid.TableId.{TableId}
use Rattle.hg_base.specs.declared.statement.Record.{Record}
use Rattle.hg_base.specs.Script.{Script}
use Rattle.hg_script.specs.declared.columns.Columns.{Columns}
use Rattle.hg_script.specs.declared.draft.Draft.TheVariants.{Table}
use Rattle.hg_script.specs.declared.word.Word.{Word}
use Rattle.hg_script.specs.declared.word.Word.TheVariants as word
use Rattle.hg_script.specs.Fields.{Fields, nth}
use Rattle.hg_script.specs.Draft.{draft_of, is_fresh, table_named}
use Rattle.hg_script.specs.Rules.{KeepsRules, count_breaks}

-- one table more may be declared by this name
pub record MayDeclare (s : Script) (r : Fields) : Type 0 where
  pub room : length s.tables < MOST_TABLES
  pub fresh : table_named s.tables (nth r 1) ≡ None
  pub first : s.records ≡ []

no-statement : (rs : List Record) → nat_lt 0 (length rs) ≡ false → rs ≡ []
no-statement [] h = refl
no-statement (r ∷ rs) h = absurd (let no : ⊥ = grind (arith, nat_tests, h) in no)

unnamed : (b : Bool) (o : Option TableId) → not (b && not (is_some o)) ≡ false → o ≡ None
unnamed true None h = refl
unnamed true (Some t) h = absurd (let no : ⊥ = cc h in no)
unnamed false o h = absurd (let no : ⊥ = cc h in no)

pub may_declare : (place : ℕ) (s : Script) (w : Word) (r : Fields) (fresh : Bool) (cols : Columns) → draft_of s.version s.tables w r ≡ Table fresh cols →
    count_breaks place s.tables (Some w) ≡ false → KeepsRules s.records (Table fresh cols) → MayDeclare s r
may_declare place s word.Table r fresh cols e count kept =
    let few : nat_le MOST_TABLES (length s.tables) ≡ false = (or_parts (nat_lt MOST_RECORDS place) _ count).1 in
    let named : fresh ≡ is_fresh s.tables (nth r 1) = cc e in record {
      room = grind (arith, nat_tests, few);
      fresh = unnamed _ (table_named s.tables (nth r 1)) (rw named at kept.2);
      first = no-statement s.records kept.4;
    }
may_declare place s word.Version r fresh cols e count kept = absurd (let no : ⊥ = cc e in no)
may_declare place s word.Begin r fresh cols e count kept = absurd (let no : ⊥ = cc e in no)
may_declare place s word.Get r fresh cols e count kept = absurd (let no : ⊥ = cc e in no)
may_declare place s word.Put r fresh cols e count kept = absurd (let no : ⊥ = cc e in no)
may_declare place s word.Del r fresh cols e count kept = absurd (let no : ⊥ = cc e in no)
may_declare place s word.Scan r fresh cols e count kept = absurd (let no : ⊥ = cc e in no)
may_declare place s word.Commit r fresh cols e count kept = absurd (let no : ⊥ = cc e in no)
may_declare place s word.Rollback r fresh cols e count kept = absurd (let no : ⊥ = cc e in no)
may_declare place s word.Gc r fresh cols e count kept = absurd (let no : ⊥ = cc e in no)
may_declare place s word.Open r fresh cols e count kept = absurd (let no : ⊥ = cc e in no)
may_declare place s word.Fetch r fresh cols e count kept = absurd (let no : ⊥ = cc e in no)
may_declare place s word.Close r fresh cols e count kept = absurd (let no : ⊥ = cc e in no)
