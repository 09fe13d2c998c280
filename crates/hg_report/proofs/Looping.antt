-- One turn of the reader's loop.
use Rattle.std.proofs.Common.{◌≡◌, ◌<◌, ◌∙◌, ℕ, List, [], ◌∷◌, ◌++◌, length, false, Some, None, refl, sym, ap, append_assoc}
use Rattle.std.specs.List.{flat_map}
use Rattle.std.proofs.lemmas.List.{append-nil}
use Rattle.std.proofs.lemmas.List.Concat.{flat_map-append}
use Rattle.hg_base.specs.Script.{Script}
use Rattle.hg_base.specs.Text.{Field}
use Rattle.hg_transcript.specs.declared.piece.Piece.{Piece}
use Rattle.hg_report.specs.declared.progress.Progress.{Progress}
use Rattle.hg_records.specs.Bytes.{record_bytes}
use Rattle.hg_report.specs.Fields.{parted}
use Rattle.hg_transcript.specs.Piece.{piece_fields}
use Rattle.hg_report.specs.Progress.{after, at_start, guess_after, standing, IsNext, Runs, Takes}
use Rattle.hg_report.proofs.Runs.{runs_append}
use Rattle.hg_report.proofs.Following.{parted_piece, parted_next, some_bytes, NoNext}

-- a record is taken whose fields stand as those that were read
pub record HasTaken (script : Script) (old new : Progress) (bytes rest : List ℕ) : Type 0 where
  pub fields : List Field
  pub next : Piece
  pub is : IsNext script old fields next
  pub new_is : new ≡ after old next
  pub split : bytes ≡ record_bytes fields ++ rest
  pub some : 0 < length (record_bytes fields)

pub has_taken : (script : Script) (old new : Progress) (stood : List Field) (bytes rest : List ℕ) → stood ≡ parted false [] bytes → Takes script old stood bytes new (Some rest) →
    HasTaken script old new bytes rest
has_taken script old new stood bytes rest part (next, guess, split, new_is) =
    let is : stood ≡ standing (piece_fields script.tables next) = part ∙ ap (parted false []) split ∙ parted_piece script.tables next rest in
    record {
      fields = piece_fields script.tables next;
      next = next;
      is = record { guess = ap (guess_after script old.last) (sym is) ∙ guess; is = refl };
      new_is = new_is;
      split = split;
      some = some_bytes script.tables next;
    }

module _ (script : Script) where
  abbrev bytes_of : List (List Field) → List ℕ
  bytes_of records = flat_map record_bytes records

  pub record Stood (records : List (List Field)) (progress : Progress) (bytes rest : List ℕ) : Type 0 where
    pub runs : Runs script at_start records progress
    pub split : bytes ≡ bytes_of records ++ rest

  pub stood_more : (records : List (List Field)) (old new : Progress) (bytes rest more : List ℕ) → Runs script at_start records old → bytes ≡ bytes_of records ++ rest →
      (took : HasTaken script old new rest more)
      → Stood (records ++ took.fields ∷ []) new bytes more
  stood_more records old new bytes rest more h split took = record {
    runs = runs_append script at_start old new records (took.fields ∷ []) h (took.next, took.is, took.new_is);
    split = split ∙ ap (λ r. bytes_of records ++ r) took.split ∙ sym (append_assoc (bytes_of records) (record_bytes took.fields) more)
        ∙ ap (λ t. t ++ more) (ap (λ t. bytes_of records ++ t) (sym (append-nil (record_bytes took.fields))) ∙ sym (flat_map-append record_bytes records (took.fields ∷ [])));
  }

  -- where the record that stands there is not taken, none may come next
  pub none_next : (old new : Progress) (stood : List Field) (bytes : List ℕ) → stood ≡ parted false [] bytes → Takes script old stood bytes new None → NoNext script old bytes
  none_next old new stood bytes part h fields next is rest e =
      h fields next is (sym (parted_next script old fields next rest is) ∙ ap (parted false []) (sym e) ∙ sym part) rest e
