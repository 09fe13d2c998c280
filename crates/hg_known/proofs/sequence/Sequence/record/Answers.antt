use Rattle.std.proofs.Common.{◌≡◌, ◌+◌, ◌-◌, ◌*◌, ◌≤◌, ◌∙◌, sym, ap, arith, length, map, get_or}
use Rattle.std.proofs.lemmas.List.{length-map}
use Rattle.hg_known.specs.Sequenced.{record_at, sequence_of, round_at}
use Rattle.hg_known.proofs.Sequencing.{at_round, run_length}
use Rattle.hg_known.proofs.sequence.Sequence.record.Goals as goal

pub round-requires : goal.round-requires
round-requires c =
    let s = c.self.inside in
    let shown = map (record_at s.script.now) s.indices.items in
    let many : length shown ≡ length s.indices.items = length-map s.indices.items (record_at s.script.now) in
    let all : length shown + 3 * s.rounds ≡ length c.args.self.now = sym (run_length shown s.rounds) ∙
    ap (λ b. length (sequence_of b s.script.now s.indices.items s.rounds)) (sym c.if-self.false) ∙ ap length c.self.view_is in
    omega (arith, many, all, c.requires, c.len.ensures, c.len-then-k-len.ensures, c.if-k-len.true)

pub returns-then-k-len : goal.returns-then-k-len
returns-then-k-len c =
    let s = c.self.inside in
    let shown = map (record_at s.script.now) s.indices.items in
    let many : length shown ≡ length s.indices.items = length-map s.indices.items (record_at s.script.now) in
    let all : length shown + 3 * s.rounds ≡ length c.args.self.now = sym (run_length shown s.rounds) ∙
    ap (λ b. length (sequence_of b s.script.now s.indices.items s.rounds)) (sym c.if-self.false) ∙ ap length c.self.view_is in
    let low : length shown ≤ c.args.k = omega (arith, many, c.len.ensures, c.if-k-len.true) in
    let is : c.args.k - c.len-then-k-len.result ≡ c.args.k - length shown = omega (arith, many, c.len-then-k-len.ensures) in
    c.round.ensures ∙ ap (λ n. round_at n s.rounds) is ∙ sym (at_round shown s.rounds c.args.k c.round.result low (omega (arith, all, c.requires))) ∙
    ap (λ b. get_or (sequence_of b s.script.now s.indices.items s.rounds) c.args.k c.round.result) (sym c.if-self.false) ∙ ap (λ rs. get_or rs c.args.k c.round.result) c.self.view_is
