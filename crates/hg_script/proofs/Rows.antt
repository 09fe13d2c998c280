-- Fields of a record by their place, and the meaning of many records and then one.
use Rattle.std.proofs.Common.{◌≡◌, ◌<◌, ◌+◌, ◌∙◌, ℕ, zero, suc, List, [], ◌∷◌, ◌++◌, length, drop, get_or, arith, ap, refl, Option, Some, None, add-one, append_assoc, drop-cons}
use Rattle.csv.specs.Records.{field_at}
use Rattle.hg_base.specs.Script.{Script}
use Rattle.hg_script.specs.declared.code.Code.{Code}
use Rattle.hg_script.specs.declared.refusal.ScriptRefusal.{ScriptRefusal}
use Rattle.hg_script.specs.declared.refusal.ScriptRefusal.TheVariants.{At, NoMemory}
use Rattle.hg_script.specs.Fields.{Fields}
use Rattle.hg_script.specs.Meaning.{refusal_from, script_from, first_code, with_row, or_next, TellsCode, TellsRefusal}

pub field-none : (fields : List (List ℕ)) (i : ℕ) → field_at fields i ≡ None → get_or fields i [] ≡ []
unfolding field_at
field-none [] i e = refl
field-none (f ∷ fs) zero e = cc e
field-none (f ∷ fs) (suc i) e = field-none fs i e

-- the rest from i is the field at i and the rest after it
pub rest-at : (r : List (List ℕ)) (i : ℕ) → i < length r → drop i r ≡ get_or r i [] ∷ drop (i + 1) r
rest-at r i h = rw (add-one) (drop-cons r i [] h)

-- ---- many records and then one

over-append : (n : ℕ) (s : Script) (r : Fields) (rs more : List Fields) (o : Option Code) → first_code n s r ≡ o
    → or_next n (first_code n s r) (refusal_from (n + 1) (with_row n s r) rs) ≡ None
    → (refusal_from (n + 1) (with_row n s r) rs ≡ None → refusal_from (n + 1) (with_row n s r) (rs ++ more) ≡ refusal_from (n + 1 + length rs) (script_from (n + 1) (with_row n s r) rs) more)
    → or_next n (first_code n s r) (refusal_from (n + 1) (with_row n s r) (rs ++ more)) ≡ refusal_from (n + suc (length rs)) (script_from (n + 1) (with_row n s r) rs) more
over-append n s r rs more (Some c) w k next = absurd (let b = rw w at k in let no : ⊥ = cc b in no)
over-append n s r rs more None w k next =
    rw w (next (rw w at k) ∙ ap (λ z. refusal_from z (script_from (n + 1) (with_row n s r) rs) more) (omega arith))

refusal-append : (n : ℕ) (s : Script) (rows : List Fields) (more : List Fields) → refusal_from n s rows ≡ None
    → refusal_from n s (rows ++ more) ≡ refusal_from (n + length rows) (script_from n s rows) more
unfolding refusal_from script_from
refusal-append n s [] more e = ap (λ k. refusal_from k s more) (omega arith)
refusal-append n s (r ∷ rs) more e = over-append n s r rs more (first_code n s r) refl e (refusal-append (n + 1) (with_row n s r) rs more)

pub script-append : (n : ℕ) (s : Script) (rows : List Fields) (r : Fields)
    → script_from n s (rows ++ r ∷ []) ≡ with_row (n + length rows) (script_from n s rows) r
unfolding script_from
script-append n s [] r = ap (λ k. with_row k s r) (omega arith)
script-append n s (x ∷ rs) r = script-append (n + 1) (with_row n s x) rs r ∙ ap (λ k. with_row k (script_from (n + 1) (with_row n s x) rs) r) (omega arith)

-- one more record that breaks no rule
pub accepts : (n : ℕ) (s : Script) (rows : List Fields) (r : Fields) → refusal_from n s rows ≡ None
    → first_code (n + length rows) (script_from n s rows) r ≡ None → refusal_from n s (rows ++ r ∷ []) ≡ None
unfolding refusal_from
accepts n s rows r e f = refusal-append n s rows (r ∷ []) e ∙ rw f refl

-- the first record that breaks a rule
pub refuses : (n : ℕ) (s : Script) (rows : List Fields) (r : Fields) (more : List Fields) (c : Code) → refusal_from n s rows ≡ None
    → first_code (n + length rows) (script_from n s rows) r ≡ Some c → refusal_from n s ((rows ++ r ∷ []) ++ more) ≡ Some (n + length rows, c)
unfolding refusal_from
refuses n s rows r more c e f = rw append_assoc (refusal-append n s rows (r ∷ more) e ∙ rw f refl)

-- what one record's refusal says of the whole text
pub tells : (place : ℕ) (o : Option Code) (all : Option (ℕ × Code)) (e : ScriptRefusal) → ((c : Code) → o ≡ Some c → all ≡ Some (place, c))
    → TellsCode place o e → TellsRefusal all e
tells place o all (At line code) h k = rw k.0 (h code k.1)
tells place o all NoMemory h k = tt
