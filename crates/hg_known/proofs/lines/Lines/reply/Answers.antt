use Rattle.std.proofs.Common.{◌≡◌, ◌∙◌, sym, ap, arith, length, get_or, []}
use Rattle.hg_known.proofs.Reading.{all_read, reply_at}
use Rattle.hg_known.proofs.lines.Lines.reply.Goals as goal

pub bounds-lines-k : goal.bounds-lines-k
bounds-lines-k c =
    let l = c.self.inside in
    let same : length l.lines.now ≡ length c.args.self.now = sym (all_read [] l.sequence.now l.lines.now c.self.invariant.0) ∙ ap length c.self.view_is in
    omega (arith, same, c.requires)

pub offset_bounds-lines-k : goal.offset_bounds-lines-k
offset_bounds-lines-k c =
    let l = c.self.inside in
    let same : length l.lines.now ≡ length c.args.self.now = sym (all_read [] l.sequence.now l.lines.now c.self.invariant.0) ∙ ap length c.self.view_is in
    omega (arith, same, c.requires, c.self.invariant.1, c.self.told)

pub returns : goal.returns
returns c =
    λ said e.
    let l = c.self.inside in
    let same : length l.lines.now ≡ length c.args.self.now = sym (all_read [] l.sequence.now l.lines.now c.self.invariant.0) ∙ ap length c.self.view_is in
    (λ i. (sym c.index-lines-k.is i).reply) ∙ reply_at [] l.sequence.now l.lines.now c.args.k c.index-lines-k.result said c.self.invariant.0
    (omega (arith, same, c.requires)) c.index-lines-k.is ∙ (λ i. (get_or (c.self.view_is i) c.args.k said).reply) ∙ (λ i. (sym e i).reply)
