use Rattle.std.proofs.Common.{◌≡◌, ◌∙◌, ◌++◌, List, ℕ, ap}
use Rattle.std.proofs.lemmas.Bool.Decides.{Decides-eqb}
use Rattle.std.proofs.lemmas.Slice.Eq.{strip_prefix_is}
use Rattle.hg_records.specs.Bytes.{record_bytes}
use Rattle.hg_transcript.specs.Piece.{piece_fields}
use Rattle.hg_report.proofs.Taking.{begins}
use Rattle.hg_report.proofs.reader.behind.Goals as goal

pub returns : goal.returns
returns c =
    let wrote : c.deref.result.now ≡ record_bytes (piece_fields c.args.script.now.tables c.args.piece.now) =
    c.deref.ensures.value ∙ c.in_ok-write.ensures ∙ ap (λ (t : List ℕ). t ++ record_bytes (piece_fields c.tables.result.now c.args.piece.now)) c.clear.ensures.items
    ∙ ap (λ ts. record_bytes (piece_fields ts c.args.piece.now)) c.tables.ensures.same in
    begins c.args.bytes.now c.deref.result.now _ c.strip_prefix.result wrote
    (strip_prefix_is Decides-eqb c.args.bytes.now c.deref.result.now c.strip_prefix.result c.strip_prefix.ensures.cases)
