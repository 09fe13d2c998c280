use Rattle.std.proofs.Common.{◌≡◌, ◌∙◌, ◌++◌, [], decimal, sym, ap, append_assoc, append-nil}
use Rattle.std.proofs.lemmas.Result.{on_ok_weaker}
use Rattle.hg_records.specs.Bytes.{field_bytes, further_bytes}
use Rattle.hg_transcript.proofs.RecordBytes.{ended}
use Rattle.hg_transcript.proofs.notes.add_note.Goals as goal

pub returns : goal.returns
returns c =
    let begun : c.add_number.new.text.items ≡ c.args.text.now.items ++ (field_bytes c.args.word.now ++ further_bytes (decimal c.args.number)) =
    c.in_ok-add_number.ensures ∙ ap (λ z. z ++ further_bytes (decimal c.args.number)) c.in_ok-add_first.ensures.added ∙
    append_assoc c.args.text.now.items (field_bytes c.args.word.now) (further_bytes (decimal c.args.number)) in
    on_ok_weaker c.end_record.result (ended _ _ c.add_number.new.text.items _ c.args.word.now (decimal c.args.number) [] begun (sym (append-nil c.add_number.new.text.items)))
    c.end_record.ensures.added
