-- Which records stand at the start of some bytes is told by the bytes, so what is taken of a text is the text's, and a refusal is right.
use Rattle.std.proofs.Common.{◌≡◌, ◌<◌, ◌≤◌, ◌∙◌, ℕ, suc, List, [], ◌∷◌, ◌++◌, length, length-append, take, false, refl, sym, ap, subst, append_assoc, arith}
use Rattle.std.specs.List.{flat_map}
use Rattle.std.proofs.lemmas.List.{append-nil, append_cancel_left}
use Rattle.std.proofs.Math.Seq.{take-append_seam}
use Rattle.hg_base.specs.declared.line.Line.{Line}
use Rattle.hg_base.specs.declared.line.Totals.{Totals}
use Rattle.hg_base.specs.declared.line.Printed.{Printed}
use Rattle.hg_base.specs.Script.{Declaration, Script}
use Rattle.hg_base.specs.Text.{Field, IsFit, text_of, text_records}
use Rattle.hg_script.specs.Lawful.{IsLawful}
use Rattle.hg_transcript.specs.declared.piece.Piece.{Piece}
use Rattle.hg_transcript.specs.declared.piece.Piece.TheVariants as piece
use Rattle.hg_report.specs.declared.progress.Progress.{Progress}
use Rattle.hg_records.specs.Bytes.{record_bytes}
use Rattle.hg_report.specs.Readable.{IsTextOf, IsRefusedAt}
use Rattle.hg_transcript.specs.Piece.{piece_fields}
use Rattle.hg_report.specs.Progress.{guess_after, after, at_start, finished, standing, totals_of, IsNext, Runs}
use Rattle.hg_report.specs.Fields.{parted}
use Rattle.hg_records.proofs.RecordBytes.{record_is}
use Rattle.hg_report.proofs.Unquoted.{same_fields}
use Rattle.hg_report.proofs.Parted.{parted_record}
use Rattle.hg_report.proofs.Counts.{Records}
use Rattle.hg_report.proofs.Stands.{runs_stand, runs_begin, at_start_stands, whole_text}
use Rattle.hg_report.proofs.Running.{text_runs}

-- ---- a record's bytes are parted into its fields

pub parted_piece : (tables : List Declaration) (next : Piece) (rest : List ℕ) → parted false [] (record_bytes (piece_fields tables next) ++ rest) ≡ standing (piece_fields tables next)
parted_piece tables (piece.Line line) rest = parted_record _ _ _ rest
parted_piece tables (piece.Scan session place at table left) rest = parted_record _ _ _ rest
parted_piece tables (piece.Sweep session place sweep) rest = parted_record _ _ _ rest
parted_piece tables (piece.Row session place key row) rest = parted_record _ _ _ rest
parted_piece tables (piece.Held session place told) rest = parted_record _ _ _ rest
parted_piece tables (piece.Total index number) rest = parted_record _ _ _ rest

some_many : (x y : Field) (more : List Field) → 0 < length (record_bytes (x ∷ y ∷ more))
some_many x y more = rw record_is (simp length-append (omega arith))

pub some_bytes : (tables : List Declaration) (next : Piece) → 0 < length (record_bytes (piece_fields tables next))
some_bytes tables (piece.Line line) = some_many _ _ _
some_bytes tables (piece.Scan session place at table left) = some_many _ _ _
some_bytes tables (piece.Sweep session place sweep) = some_many _ _ _
some_bytes tables (piece.Row session place key row) = some_many _ _ _
some_bytes tables (piece.Held session place told) = some_many _ _ _
some_bytes tables (piece.Total index number) = some_many _ _ _

record Same (q r : List Field) (xs ys : List ℕ) : Type 0 where
  fields : q ≡ r
  rest : xs ≡ ys

module _ (script : Script) where
  some_next : (a : Progress) (fields : List Field) (next : Piece) → IsNext script a fields next → 0 < length (record_bytes fields)
  some_next a fields next h = subst (λ (f : List Field). 0 < length (record_bytes f)) h.is (some_bytes script.tables next)

  not_empty : (a : Progress) (fields : List Field) (next : Piece) (rest : List ℕ) → IsNext script a fields next → [] ≡ record_bytes fields ++ rest → ⊥
  not_empty a fields next rest h e = let some = some_next a fields next h in let many = ap length e ∙ length-append (record_bytes fields) rest in omega (arith, some, many)

  pub parted_next : (a : Progress) (fields : List Field) (next : Piece) (rest : List ℕ) → IsNext script a fields next → parted false [] (record_bytes fields ++ rest) ≡ standing fields
  parted_next a fields next rest h = subst (λ (f : List Field). parted false [] (record_bytes f ++ rest) ≡ standing f) h.is (parted_piece script.tables next rest)

  same_next : (a b : Progress) (q r : List Field) (m n : Piece) (xs ys : List ℕ) → IsNext script a q m → IsNext script b r n → record_bytes q ++ xs ≡ record_bytes r ++ ys → Same q r xs ys
  same_next a b q r m n xs ys h k e =
      let same : q ≡ r = same_fields q r (sym (parted_next a q m xs h) ∙ ap (parted false []) e ∙ parted_next b r n ys k) in
      record { fields = same; rest = append_cancel_left (record_bytes r) xs ys (ap (λ (f : List Field). record_bytes f ++ xs) (sym same) ∙ e) }

  same_guess : (a : Progress) (q r : List Field) (m n : Piece) → IsNext script a q m → IsNext script a r n → q ≡ r → n ≡ m
  same_guess a q r m n h k e = let both = sym k.guess ∙ ap (λ (f : List Field). guess_after script a.last (standing f)) (sym e) ∙ h.guess in cc both

  abbrev pub bytes_of : Records → List ℕ
  bytes_of records = flat_map record_bytes records

  -- no record stands there that may come next
  abbrev pub NoNext : Progress → List ℕ → Type 0
  NoNext a bytes = (fields : List Field) (next : Piece) → IsNext script a fields next → (rest : List ℕ) → bytes ≡ record_bytes fields ++ rest → ⊥

  -- the text that is taken in part has no record more, where none may come next
  not_more : (a s e : Progress) (records text : Records) (xs ys : List ℕ) → Runs script a records s → Runs script a text e → NoNext s xs → suc (length records) ≤ length text
      → bytes_of records ++ xs ≡ bytes_of (take (suc (length records)) text) ++ ys → ⊥
  not_more a s e [] [] xs ys h k none more same = absurd (omega arith)
  not_more a s e [] (r ∷ rs) xs ys h (n, is, runs) none more same =
      let here : IsNext script s r n = subst (λ (p : Progress). IsNext script p r n) (sym h) is in
      none r n here ys (same ∙ append_assoc (record_bytes r) [] ys)
  not_more a s e (q ∷ qs) [] xs ys h k none more same = absurd (omega arith)
  not_more a s e (q ∷ qs) (r ∷ rs) xs ys (m, here, before) (n, is, runs) none more same =
      let split = sym (append_assoc (record_bytes q) (bytes_of qs) xs) ∙ same ∙ append_assoc (record_bytes r) (bytes_of (take (suc (length qs)) rs)) ys in
      let one = same_next a a q r m n (bytes_of qs ++ xs) (bytes_of (take (suc (length qs)) rs) ++ ys) here is split in
      let others = subst (λ (p : Piece). Runs script (after a p) rs e) (same_guess a q r m n here is one.fields) runs in
      not_more (after a m) s e qs rs xs ys before others none (omega arith) one.rest

  record Ends (xs : List ℕ) (s e : Progress) : Type 0 where
    none_left : xs ≡ []
    state : s ≡ e

  -- and where it is taken whole, nothing is left
  ends : (a s e : Progress) (records text : Records) (xs : List ℕ) → Runs script a records s → Runs script a text e → NoNext s xs → bytes_of records ++ xs ≡ bytes_of text → Ends xs s e
  ends a s e [] [] xs h k none same = record { none_left = same; state = h ∙ sym k }
  ends a s e [] (r ∷ rs) xs h (n, is, runs) none same =
      let here : IsNext script s r n = subst (λ (p : Progress). IsNext script p r n) (sym h) is in
      absurd (none r n here (bytes_of rs) same)
  ends a s e (q ∷ qs) [] xs (m, here, before) k none same = absurd (not_empty a q m (bytes_of qs ++ xs) here (sym same ∙ append_assoc (record_bytes q) (bytes_of qs) xs))
  ends a s e (q ∷ qs) (r ∷ rs) xs (m, here, before) (n, is, runs) none same =
      let split = sym (append_assoc (record_bytes q) (bytes_of qs) xs) ∙ same in
      let one = same_next a a q r m n (bytes_of qs ++ xs) (bytes_of rs) here is split in
      let others = subst (λ (p : Piece). Runs script (after a p) rs e) (same_guess a q r m n here is one.fields) runs in
      ends (after a m) s e qs rs xs before others none one.rest

  pub none_next_of_none : (a : Progress) (bytes : List ℕ) → bytes ≡ [] → NoNext a bytes
  none_next_of_none a bytes none = λ fields next is rest e. not_empty a fields next rest is (sym none ∙ e)

  -- ---- the answers of the reader

  abbrev printed_of : Progress → Printed
  printed_of progress = record { lines = progress.lines; totals = totals_of progress.last }

  abbrev pub printed : List Line → Totals → Printed
  printed lines totals = record { lines = lines; totals = totals }

  pub is_text : (bytes : List ℕ) (records : Records) (lines : List Line) (totals : Totals) → Runs script at_start records (finished lines totals) → bytes ≡ bytes_of records →
      IsTextOf script bytes (printed lines totals)
  is_text bytes records lines totals h e =
      let whole = whole_text script lines totals records (runs_stand script at_start (finished lines totals) [] records (at_start_stands script) h) in
      record { fits = whole.0; text = e ∙ ap bytes_of whole.1 }

  pub is_only_text : IsLawful script → (bytes : List ℕ) (records : Records) (lines : List Line) (totals : Totals) → Runs script at_start records (finished lines totals) → bytes ≡ bytes_of records
      → (other : Printed) → IsTextOf script bytes other → other ≡ printed lines totals
  is_only_text lawful bytes records lines totals h e other k =
      let runs = text_runs script other lawful k.fits in
      let end = ends at_start (finished lines totals) (finished other.lines other.totals) records (text_records script other) [] h runs (none_next_of_none _ [] refl)
      (append-nil (bytes_of records) ∙ sym e ∙ k.text) in
      ap printed_of (sym end.state)

  pub is_refused : IsLawful script → (bytes rest : List ℕ) (records : Records) (state : Progress) (line : ℕ) → Runs script at_start records state →
      bytes ≡ bytes_of records ++ rest → suc (length records) ≡ line → NoNext state rest
      → ((lines : List Line) (totals : Totals) → rest ≡ [] → state ≡ finished lines totals → ⊥) → IsRefusedAt script bytes line
  is_refused lawful bytes rest records state line h e count none unfinished =
      let begun = runs_begin script state records h in
      let first : take (length records) (text_records script begun.printed) ≡ records = ap (take (length records)) begun.are ∙ take-append_seam records begun.more in
      record {
        none = λ other k.
            let end = ends at_start state (finished other.lines other.totals) records (text_records script other) rest h (text_runs script other lawful k.fits) none (sym e ∙ k.text) in
            unfinished other.lines other.totals end.none_left end.state;
        before = (
          length records,
          count,
          record {
            printed = begun.printed;
            fits = begun.fits;
            many = omega (arith, ap length begun.are, length-append records begun.more);
            rest = rest;
            text = e ∙ ap (λ records. bytes_of records ++ rest) (sym first);
          },
        );
        first = λ b.
            let many : suc (length records) ≤ length (text_records script b.printed) = omega (arith, b.many, count) in
            let text = sym e ∙ b.text ∙ ap (λ n. bytes_of (take n (text_records script b.printed)) ++ b.rest) (sym count) in
            not_more at_start state (finished b.printed.lines b.printed.totals) records (text_records script b.printed) rest b.rest h (text_runs script b.printed lawful b.fits) none many text;
      }

-- two texts of the same bytes tell the same
pub one_value : (script : Script) (a b : Printed) → IsLawful script → IsFit script a → IsFit script b → text_of record_bytes script a ≡ text_of record_bytes script b → a ≡ b
one_value script a b lawful fits more same =
    is_only_text script lawful (text_of record_bytes script b) (text_records script b) b.lines b.totals (text_runs script b lawful more) refl a (record { fits = fits; text = sym same })
