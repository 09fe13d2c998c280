-- The text of rows, part by part.
use Rattle.std.proofs.Common.{◌≡◌, ◌∙◌, ℕ, List, [], ◌++◌, map, sym, ap, append_assoc}
use Rattle.std.specs.Prelude.{Result, Ok, Err, OnOk, OnErr}
use Rattle.std.specs.List.{flat_map}
use Rattle.std.proofs.lemmas.List.{append-nil, map-append}
use Rattle.std.proofs.lemmas.List.Concat.{flat_map-append}
use Rattle.hg_base.specs.declared.rid.TableId.{TableId}
use Rattle.hg_base.specs.Script.{Declaration, Script}
use Rattle.hg_rule.specs.Facts.{StartsWith}
use Rattle.hg_cursor.specs.Keys.{Rows}
use Rattle.hg_records.specs.Bytes.{record_bytes}
use Rattle.hg_dump.specs.Records.{dump_text, heading, put_fields}
use Rattle.hg_dump.specs.Rows.{Kept, kept_in}
use Rattle.hg_dump.specs.Writes.{puts_bytes}

puts_append : (tables : List Declaration) (xs ys : List Kept) → puts_bytes tables (xs ++ ys) ≡ puts_bytes tables xs ++ puts_bytes tables ys
puts_append tables xs ys = ap (flat_map record_bytes) (map-append (put_fields tables) xs ys) ∙ flat_map-append record_bytes (map (put_fields tables) xs) (map (put_fields tables) ys)

kept_append : (table : TableId) (xs ys : Rows) → kept_in table (xs ++ ys) ≡ kept_in table xs ++ kept_in table ys
kept_append table xs ys = map-append _ xs ys

-- some rows, and then others
pub text_more : (tables : List Declaration) (before mid after : List ℕ) (xs ys : List Kept) → mid ≡ before ++ puts_bytes tables xs → after ≡ mid ++ puts_bytes tables ys →
    after ≡ before ++ puts_bytes tables (xs ++ ys)
text_more tables before mid after xs ys e f =
    f ∙ ap (λ (t : List ℕ). t ++ puts_bytes tables ys) e ∙ append_assoc before (puts_bytes tables xs) (puts_bytes tables ys) ∙ ap (λ (t : List ℕ). before ++ t) (sym (puts_append tables xs ys))

pub table_text_more : (tables : List Declaration) (table : TableId) (before mid after : List ℕ) (xs ys : Rows) → mid ≡ before ++ puts_bytes tables (kept_in table xs) →
    after ≡ mid ++ puts_bytes tables (kept_in table ys) → after ≡ before ++ puts_bytes tables (kept_in table (xs ++ ys))
table_text_more tables table before mid after xs ys e f =
    text_more tables before mid after (kept_in table xs) (kept_in table ys) e f ∙ ap (λ rows. before ++ puts_bytes tables rows) (sym (kept_append table xs ys))

-- no row
pub text_none : (tables : List Declaration) (before : List ℕ) → before ≡ before ++ puts_bytes tables []
text_none tables before = sym (append-nil before)

-- the heading, and then the puts
pub text_all : (script : Script) (before mid after : List ℕ) (rows : List Kept) → mid ≡ before ++ flat_map record_bytes (heading script) →
    after ≡ mid ++ puts_bytes script.tables rows → after ≡ before ++ dump_text script rows
text_all script before mid after rows e f =
    f ∙ ap (λ (t : List ℕ). t ++ puts_bytes script.tables rows) e ∙ append_assoc before (flat_map record_bytes (heading script)) (puts_bytes script.tables rows)
    ∙ ap (λ (t : List ℕ). before ++ t) (sym (flat_map-append record_bytes (heading script) (map (put_fields script.tables) rows)))

-- ---- what was there before stays

pub starts_from : (before after more : List ℕ) → after ≡ before ++ more → StartsWith after before
starts_from before after more e = (more, e)

pub starts_itself : (before : List ℕ) → StartsWith before before
starts_itself before = ([], sym (append-nil before))

-- what was appended to something that starts with it
pub starts_on : (before mid after more : List ℕ) → mid ≡ before ++ more → StartsWith after mid → StartsWith after before
starts_on before mid after more e s = (more ++ s.0, s.1 ∙ ap (λ (t : List ℕ). t ++ s.0) e ∙ append_assoc before more s.0)

-- what was appended, or was not
pub starts_either : {T E : Type 0} (r : Result T E) (before after more : List ℕ) → OnOk r (after ≡ before ++ more) → OnErr r (after ≡ before) → StartsWith after before
starts_either (Ok t) before after more text same = starts_from before after more text
starts_either (Err e) before after more text same = starts_from before after [] (same ∙ sym (append-nil before))
