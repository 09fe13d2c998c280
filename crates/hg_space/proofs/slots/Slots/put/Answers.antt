use Rattle.std.proofs.Common.{sym, subst, None, Some, false, ◌∙◌, ap, length, ◌<◌, ◌≡◌, arith, set}
use Rattle.hg_space.specs.Slots.{look_from, bin_of, look_at, Fits, StayFit}
use Rattle.hg_space.proofs.BinFacts.{put_here, put_others}
use Rattle.hg_space.proofs.TableFacts.{fits_in_set, others_in_set}
use Rattle.hg_space.proofs.slots.Slots.put.Goals as goal

pub returns-then-at-len-clause-here : goal.returns-then-at-len-clause-here
returns-then-at-len-clause-here c =
    let ls = c.self.inside.bins.items in
    let within : c.bin_of-at.result < length ls = omega (arith, c.if-at-len.true, c.len-2.ensures) in
    let many : c.len.result ≡ length ls = omega (arith, c.len.ensures) in
    let at : bin_of (length ls) c.args.rid ≡ c.bin_of-at.result = sym (c.bin_of-at.ensures ∙ ap (λ n. bin_of n c.args.rid) many) in
    fits_in_set ls c.args.rid c.bin_of-at.result c.index_mut.result.now c.put.new.bin None (Some c.args.place) within c.index_mut.ensures.value at
    (λ h. subst (λ bin. Fits (look_from false c.args.rid bin) (Some c.args.place)) (sym c.put.ensures) (put_here c.args.rid c.args.place c.index_mut.result.now h))
    (subst (λ xs. Fits (look_at xs c.args.rid) None) (sym c.self.view_is) c.requires)

pub returns-then-at-len-clause-others : goal.returns-then-at-len-clause-others
returns-then-at-len-clause-others c =
    let ls = c.self.inside.bins.items in
    let within : c.bin_of-at.result < length ls = omega (arith, c.if-at-len.true, c.len-2.ensures) in
    subst (λ xs. StayFit c.args.rid xs (set ls c.bin_of-at.result c.put.new.bin)) c.self.view_is
    (others_in_set ls c.args.rid c.bin_of-at.result c.index_mut.result.now c.put.new.bin within c.index_mut.ensures.value
    (λ q w apart h. subst (λ bin. Fits (look_from false q bin) w) (sym c.put.ensures) (put_others c.args.rid q c.args.place false c.index_mut.result.now w apart h)))
