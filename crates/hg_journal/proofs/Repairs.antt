-- What a crash leaves while the end of a file is repaired.
use Rattle.std.proofs.Common.{◌≡◌, ℕ, zero, suc, ◌+◌, ◌-◌, ◌≤◌, List, [], ◌∷◌, ◌++◌, length, take, Option, Some, None, option_map, unwrap_or, refl, sym, ◌∙◌, ap, subst, arith, append_assoc, length-append}
use Rattle.std.proofs.lemmas.List.{take_at, length-take}
use Rattle.hg_journal.specs.Device.{Cut, Grown, LeavesOnly}
use Rattle.hg_journal.specs.Gate.{before_gate, kept, at_rest}
use Rattle.hg_journal.specs.declared.gate.Place.TheVariants.{Start}
use Rattle.hg_journal.proofs.Gates.{Parts, parts, kept_before, kept_short}
use Rattle.hg_journal.proofs.Moments.{weaker, joined}

-- a file with a gate, and where it is
pub record HasGate (file : List ℕ) (end : ℕ) : Type 0 where
  pub text : List ℕ
  pub parts : Parts Start file text
  pub keeps : kept file ≡ text
  pub size : end ≡ length text

pub has_gate : (file : List ℕ) (end : ℕ) → Some end ≡ option_map length (before_gate Start file) → HasGate file end
has_gate file end found = on (before_gate Start file) refl found
  where
    on : (o : Option (List ℕ)) → before_gate Start file ≡ o → Some end ≡ option_map length o → HasGate file end
    on None none e = absurd (cc e)
    on (Some a) some e = record {
      text = a;
      parts = parts Start file a some;
      keeps = ap (λ (x : Option (List ℕ)). unwrap_or x []) some;
      size = ap (λ (x : Option ℕ). unwrap_or x 0) e;
    }

pub no_gate : (file : List ℕ) → None ≡ option_map length (before_gate Start file) → before_gate Start file ≡ None
no_gate file found = on (before_gate Start file) found
  where
    on : (o : Option (List ℕ)) → None ≡ option_map length o → o ≡ None
    on None e = refl
    on (Some a) e = absurd (cc e)

take_past : (xs ys : List ℕ) (m n : ℕ) → m ≡ length xs + n → take m (xs ++ ys) ≡ xs ++ take n ys
take_past [] ys m n is = let same : m ≡ n = omega arith in ap (λ (k : ℕ). take k ys) same
take_past (x ∷ xs) ys zero n is = absurd (omega arith)
take_past (x ∷ xs) ys (suc m) n is = ap (λ (l : List ℕ). x ∷ l) (take_past xs ys m n (omega arith))

module _ (file : List ℕ) (end : ℕ) (has : HasGate file end) where
  whole_split : file ≡ at_rest has.text ++ has.parts.rest
  whole_split = has.parts.split ∙ sym (append_assoc has.text (10 ∷ []) has.parts.rest)

  size : length (at_rest has.text) ≡ end + 1
  size = omega (arith, has.size, length-append has.text (10 ∷ []))

  pub cut_keeps : (c : List ℕ) → Cut (end + 1) file c → kept c ≡ kept file
  cut_keeps c cut =
      let more = take (length c - (end + 1)) has.parts.rest in
      let is : c ≡ at_rest has.text ++ more =
      sym cut.front ∙ ap (λ (l : List ℕ). take (length c) l) whole_split ∙ take_past (at_rest has.text) has.parts.rest (length c) (length c - (end + 1)) (omega (arith, size, cut.no_shorter)) in
      ap kept (is ∙ append_assoc has.text (10 ∷ []) more) ∙ kept_before has.text more has.parts.whole ∙ sym has.keeps

  pub cut_done : take (end + 1) file ≡ at_rest (kept file)
  cut_done = ap (λ (l : List ℕ). take (end + 1) l) whole_split ∙ take_at (at_rest has.text) has.parts.rest (end + 1) size ∙ ap at_rest (sym has.keeps)

  pub cut_again : (c : List ℕ) → c ≡ at_rest (kept file) → kept c ≡ kept file
  cut_again c is = ap kept (is ∙ ap at_rest has.keeps) ∙ kept_before has.text [] has.parts.whole ∙ sym has.keeps

pub short_keeps : (file c : List ℕ) → length file ≤ 1 → length c ≤ 1 → kept c ≡ kept file
short_keeps file c file_short short = kept_short c short ∙ sym (kept_short file file_short)

-- a file that one byte or none was cut from, and what grows by one byte
module _ {D : Type 0} (moment : D → ℕ) (left_since : D → ℕ → List ℕ → Type 0) (old : D) (file : List ℕ) (is : List ℕ) (read : file ≡ is) where
  pub cutting : (new : D) (end : ℕ) → HasGate file end → LeavesOnly moment left_since old new (Cut (end + 1) is) → LeavesOnly moment left_since old new (λ c. kept c ≡ kept file)
  cutting new end has run = weaker moment left_since old new _ _ run (λ c cut. cut_keeps file end has c (subst (λ (f : List ℕ). Cut (end + 1) f c) (sym read) cut))

  pub emptying : (new : D) → length file ≤ 1 → LeavesOnly moment left_since old new (Cut 0 is) → LeavesOnly moment left_since old new (λ c. kept c ≡ kept file)
  emptying new short run =
      weaker moment left_since old new _ _ run (λ c cut. short_keeps file c short (omega (arith, short, ap length cut.front, ap length read, length-take (length c) is)))

  pub beginning : (mid new : D) (seen : List ℕ) → length file ≤ 1 → seen ≡ take 0 is → LeavesOnly moment left_since old mid (Cut 0 is) → LeavesOnly moment left_since mid new (Grown 1 seen) → LeavesOnly moment left_since old new (λ c. kept c ≡ kept file)
  beginning mid new seen short empty cut run =
      joined moment left_since old mid new _ (emptying mid short cut)
      (weaker moment left_since mid new _ _ run (λ c grown. short_keeps file c short (omega (arith, grown.no_longer, ap length empty))))
