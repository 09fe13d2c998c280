use Rattle.std.proofs.Common.{sym, subst, None, false, ◌∙◌, ap, length, ◌<◌, ◌≡◌, arith, set}
use Rattle.std.specs.List.{list_any}
use Rattle.hg_space.specs.Slots.{look_from, bin_of, Fits, StayFit, is_empty}
use Rattle.hg_space.proofs.BinFacts.{out_here, out_others}
use Rattle.hg_space.proofs.TableFacts.{bin_in_set, others_in_set}
use Rattle.hg_space.proofs.slots.Slots.take_out.Goals as goal

pub returns-then-at-len-clause-here : goal.returns-then-at-len-clause-here
returns-then-at-len-clause-here c =
    let ls = c.self.inside.bins.items in
    let l = c.index_mut.result.now in
    let within : c.bin_of-at.result < length ls = omega (arith, c.if-at-len.true, c.len-2.ensures) in
    let many : c.len.result ≡ length ls = omega (arith, c.len.ensures) in
    let at : bin_of (length ls) c.args.rid ≡ c.bin_of-at.result = sym (c.bin_of-at.ensures ∙ ap (λ n. bin_of n c.args.rid) many) in
    bin_in_set ls c.args.rid c.bin_of-at.result c.take_out.new.bin None within at
    (subst (λ bin. Fits (look_from false c.args.rid bin) None) (sym c.take_out.ensures) (out_here (list_any is_empty l) c.args.rid false l))

pub returns-then-at-len-clause-others : goal.returns-then-at-len-clause-others
returns-then-at-len-clause-others c =
    let ls = c.self.inside.bins.items in
    let within : c.bin_of-at.result < length ls = omega (arith, c.if-at-len.true, c.len-2.ensures) in
    subst (λ xs. StayFit c.args.rid xs (set ls c.bin_of-at.result c.take_out.new.bin)) c.self.view_is
    (others_in_set ls c.args.rid c.bin_of-at.result c.index_mut.result.now c.take_out.new.bin within c.index_mut.ensures.value
    (λ q w apart h. subst (λ bin. Fits (look_from false q bin) w) (sym c.take_out.ensures) (out_others c.args.rid q c.index_mut.result.now w apart h)))
