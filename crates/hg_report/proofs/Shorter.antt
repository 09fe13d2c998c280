-- Bytes that begin with some records of a text begin with fewer, so one record alone is the first that is refused.
use Rattle.std.proofs.Common.{◌≡◌, ◌<◌, ◌≤◌, ◌∙◌, ℕ, List, ◌++◌, take, drop, take-append-drop, sym, ap, append_assoc, arith}
use Rattle.std.specs.List.{flat_map}
use Rattle.std.proofs.lemmas.List.{take-take}
use Rattle.std.proofs.lemmas.List.Concat.{flat_map-append}
use Rattle.hg_base.specs.Script.{Script}
use Rattle.hg_base.specs.Text.{Field, text_records}
use Rattle.hg_records.specs.Bytes.{record_bytes}
use Rattle.hg_report.specs.Readable.{BeginsText, IsRefusedAt}

fewer : (m n : ℕ) (records : List (List Field)) → m ≤ n → flat_map record_bytes (take n records) ≡ flat_map record_bytes (take m records) ++ flat_map record_bytes (drop m (take n records))
fewer m n records h =
    ap (flat_map record_bytes) (sym (take-append-drop m (take n records)))
    ∙ flat_map-append record_bytes (take m (take n records)) (drop m (take n records))
    ∙ ap (λ (front : List (List Field)). flat_map record_bytes front ++ flat_map record_bytes (drop m (take n records))) (take-take m n records h)

pub shorter : (script : Script) (bytes : List ℕ) (m n : ℕ) → m ≤ n → BeginsText script bytes n → BeginsText script bytes m
shorter script bytes m n h b =
    let records = text_records script b.printed in record {
      printed = b.printed;
      fits = b.fits;
      many = omega (arith, b.many);
      rest = flat_map record_bytes (drop m (take n records)) ++ b.rest;
      text = b.text ∙ ap (λ bytes. bytes ++ b.rest) (fewer m n records h) ∙ append_assoc (flat_map record_bytes (take m records)) (flat_map record_bytes (drop m (take n records))) b.rest;
    }

at_most : (script : Script) (bytes : List ℕ) (a b : ℕ) → IsRefusedAt script bytes a → IsRefusedAt script bytes b → a < b → ⊥
at_most script bytes a b h k lt = h.first (shorter script bytes a k.before.0 (omega (arith, k.before.1)) k.before.2)

pub one_line : (script : Script) (bytes : List ℕ) (a b : ℕ) → IsRefusedAt script bytes a → IsRefusedAt script bytes b → a ≡ b
one_line script bytes a b h k = omega (arith, at_most script bytes a b h k, at_most script bytes b a k h)
