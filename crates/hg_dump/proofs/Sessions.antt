-- The records and lines of the script's sessions, with those of the reader after them.
use Rattle.std.proofs.Common.{◌≡◌, ℕ, zero, suc, ◌+◌, ◌<◌, ◌≤◌, List, [], ◌∷◌, ◌++◌, map, max, false, refl, sym, ap, ◌∙◌, arith}
use Rattle.std.specs.Prelude.{◌==◌}
use Rattle.std.specs.List.{flat_map}
use Rattle.std.proofs.lemmas.Bool.Decides.{nat_tests}
use Rattle.std.proofs.lemmas.Grind.{flat_map-append}
use Rattle.std.proofs.lemmas.List.Elements.{filter-append}
use Rattle.hg_base.specs.declared.statement.Record.{Record}
use Rattle.hg_base.specs.declared.line.Line.{Line}
use Rattle.hg_base.specs.Lists.{greatest, numbers_from}
use Rattle.hg_base.specs.Script.{Script}
use Rattle.hg_base.specs.Transcript.{of_session, sessions_of}
use Rattle.hg_base.proofs.ListFacts.{append_nil, numbers_from_snoc}
use Rattle.hg_core.specs.Events.{put}
use Rattle.hg_core.proofs.Indices.{put_else, put_here}
use Rattle.hg_headline.proofs.Running.{none_over}
use Rattle.hg_dump.specs.Reader.{read_lines, read_records, reader_of, with_reader}
use Rattle.hg_dump.proofs.Reading.{no_records, own_records}

-- ---- sessions by number

module _ {X : Type 0} where
  -- one session more
  pub flat_snoc : (f : ℕ → List X) (m : ℕ) → flat_map f (numbers_from 1 (suc m)) ≡ flat_map f (numbers_from 1 m) ++ f (suc m)
  flat_snoc f m =
      let next : 1 + m ≡ suc m = omega arith in
      ap (flat_map f) (numbers_from_snoc 1 m) ∙ flat_map-append f (numbers_from 1 m) ((1 + m) ∷ []) ∙ (λ i. flat_map f (numbers_from 1 m) ++ append_nil (f (next i)) i)

  -- a script without records has one session, which has none
  one_least : (f : ℕ → List X) (g : ℕ) → (g ≡ 0 → f 1 ≡ []) → flat_map f (numbers_from 1 (max 1 g)) ≡ flat_map f (numbers_from 1 g)
  one_least f zero e = ap (λ l. l ++ []) (e refl)
  one_least f (suc g) e = let same : max 1 (suc g) ≡ suc g = omega arith in ap (λ n. flat_map f (numbers_from 1 n)) same

  flat_same : (f g : ℕ → List X) (i many : ℕ) → ((j : ℕ) → j < i + many → f j ≡ g j) → flat_map f (numbers_from i many) ≡ flat_map g (numbers_from i many)
  flat_same f g i zero e = refl
  flat_same f g i (suc many) e = (λ k. e i (omega arith) k ++ flat_same f g (suc i) many (λ j less. e j (omega (arith, less))) k)

  -- those of sessions 1, 2, .., of which the first ones are as they were, and then those of the last one
  pub one_further : (f old : ℕ → List X) (g : ℕ) → (g ≡ 0 → old 1 ≡ []) → ((j : ℕ) → j < suc (max 1 g) → f j ≡ old j) →
      flat_map f (numbers_from 1 (suc (max 1 g))) ≡ flat_map old (numbers_from 1 g) ++ f (suc (max 1 g))
  one_further f old g e same =
      flat_snoc f (max 1 g) ∙ ap (λ xs. xs ++ f (suc (max 1 g))) (flat_same f old 1 (max 1 g) (λ j less. same j (omega (arith, less))) ∙ one_least old g e)

-- ---- whose records they are

abbrev pub session_in : Record → ℕ
session_in r = r.session

greatest_append : (xs ys : List ℕ) → greatest (xs ++ ys) ≡ max (greatest xs) (greatest ys)
greatest_append [] ys = omega arith
greatest_append (x ∷ xs) ys = let rest = greatest_append xs ys in omega (arith, rest)

sessions_append : (rs more : List Record) → map session_in (rs ++ more) ≡ map session_in rs ++ map session_in more
sessions_append [] more = refl
sessions_append (r ∷ rs) more = ap (λ l. r.session ∷ l) (sessions_append rs more)

read_most : (j : ℕ) (ats : List ℕ) → greatest (map session_in (read_records j ats)) ≤ j
read_most j [] = omega arith
read_most j (at ∷ ats) = let rest = read_most j ats in omega (arith, rest)

module _ (script : Script) where
  abbrev records : List Record
  records = script.records

  abbrev pub top : ℕ
  top = greatest (map session_in records)

  abbrev pub reader : ℕ
  reader = reader_of script

  abbrev pub all_records : List Record
  all_records = flat_map (λ j. of_session j records) (sessions_of records)

  -- the records of one session, with the reader's
  pub session_with : (ats : List ℕ) (j : ℕ) → of_session j (with_reader script ats).records ≡ of_session j records ++ of_session j (read_records reader ats)
  session_with ats j = filter-append (λ (r : Record). r.session == j) records (read_records reader ats)

  pub session_else : (ats : List ℕ) (j : ℕ) → (reader == j) ≡ false → of_session j (with_reader script ats).records ≡ of_session j records
  session_else ats j e = session_with ats j ∙ ap (λ l. of_session j records ++ l) (no_records reader j ats e) ∙ append_nil (of_session j records)

  pub session_here : (ats : List ℕ) → of_session reader (with_reader script ats).records ≡ read_records reader ats
  session_here ats = session_with ats reader ∙ (λ i. none_over records reader (omega arith) i ++ own_records reader ats i)

  other_number : (j : ℕ) → j < reader → (reader == j) ≡ false
  other_number j less = grind (arith, nat_tests, less)

  pub greatest_with : (at : ℕ) (ats : List ℕ) → greatest (map session_in (with_reader script (at ∷ ats)).records) ≡ reader
  greatest_with at ats =
      let is : greatest (map session_in (with_reader script (at ∷ ats)).records) ≡ max top (greatest (map session_in (read_records reader (at ∷ ats)))) =
      ap greatest (sessions_append records (read_records reader (at ∷ ats))) ∙ greatest_append (map session_in records) (map session_in (read_records reader (at ∷ ats))) in
      let most = read_most reader (at ∷ ats) in
      let least : reader ≤ greatest (map session_in (read_records reader (at ∷ ats))) = omega arith in
      omega (arith, is, most, least)

  pub records_with : (ats : List ℕ) → flat_map (λ j. of_session j (with_reader script ats).records) (sessions_of (with_reader script ats).records) ≡ all_records ++ read_records reader ats
  records_with [] = ap (λ rs. flat_map (λ j. of_session j rs) (sessions_of rs)) (append_nil records) ∙ sym (append_nil all_records)
  records_with (at ∷ ats) =
      ap (λ n. flat_map (λ j. of_session j (with_reader script (at ∷ ats)).records) (numbers_from 1 n)) (greatest_with at ats)
      ∙ one_further (λ j. of_session j (with_reader script (at ∷ ats)).records) (λ j. of_session j records) top (λ zero_is. none_over records 1 (omega (arith, zero_is)))
      (λ j less. session_else (at ∷ ats) j (other_number j less))
      ∙ ap (λ l. all_records ++ l) (session_here (at ∷ ats))

  -- the lines of sessions, with the reader's
  pub lines_flat : (at : ℕ) (ats : List ℕ) (lines : ℕ → List Line) → (top ≡ 0 → lines 1 ≡ [])
      → flat_map (put lines reader (read_lines reader (at ∷ ats))) (sessions_of (with_reader script (at ∷ ats)).records) ≡ flat_map lines (sessions_of records) ++ read_lines reader (at ∷ ats)
  lines_flat at ats lines none =
      let own : List Line = read_lines reader (at ∷ ats) in
      ap (λ n. flat_map (put lines reader own) (numbers_from 1 n)) (greatest_with at ats)
      ∙ one_further (put lines reader own) lines top none (λ j less. put_else lines reader j own (λ e. omega (arith, less, e)))
      ∙ ap (λ l. flat_map lines (sessions_of records) ++ l) (put_here lines reader own)
