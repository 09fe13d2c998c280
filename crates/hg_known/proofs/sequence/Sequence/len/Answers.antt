use Rattle.std.proofs.Common.{◌≡◌, ◌+◌, ◌*◌, ◌∙◌, sym, ap, arith, length, map}
use Rattle.std.proofs.lemmas.List.{length-map}
use Rattle.hg_known.specs.Sequenced.{record_at, sequence_of}
use Rattle.hg_known.proofs.Sequencing.{run_length}
use Rattle.hg_known.proofs.sequence.Sequence.len.Goals as goal

pub returns : goal.returns
returns c =
    let s = c.self.inside in
    let shown = map (record_at s.script.now) s.indices.items in
    let many : length shown ≡ length s.indices.items = length-map s.indices.items (record_at s.script.now) in
    let all : length shown + 3 * s.rounds ≡ length c.args.self.now = sym (run_length shown s.rounds) ∙
    ap (λ b. length (sequence_of b s.script.now s.indices.items s.rounds)) (sym c.if-self.false) ∙ ap length c.self.view_is in
    omega (arith, many, all, c.len.ensures)
