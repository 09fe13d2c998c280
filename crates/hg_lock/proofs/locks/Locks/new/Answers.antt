use Rattle.std.proofs.Common.{◌≡◌, ◌<◌, ◌^◌, ◌∙◌, length, ap, arith, rules}
use Rattle.hg_lock.specs.Guarded.{line_of}
use Rattle.hg_lock.proofs.Values.{begins, length-spread}
use Rattle.hg_lock.proofs.locks.Locks.new.Goals as goal

pub new-requires : goal.new-requires
new-requires g c = begins (g.X.Fits.fits c.args.tag.now) c.args.values.items _ _ record { tag = c.args.tag.now; found = 0; left = 0 } (search rules) c.in_ok-slots.ensures c.requires

pub invariant_of-result : goal.invariant_of-result
invariant_of-result g c =
    let slots : length c.in_ok-slots.slots.items ≡ line_of c.len-count.result = ap length c.in_ok-slots.ensures ∙ length-spread c.args.values.items ∙ ap line_of (search rules) in
    let words : length c.in_ok-words.words.items ≡ length c.in_ok-slots.slots.items = search rules in
    let small : length c.in_ok-slots.slots.items < 2 ^ 64 = search rules in
    let t = c.in-Ok.ensures.ok in record {
      words = t.0 ∙ ap length c.as_slice.ensures.value ∙ words ∙ slots;
      slots = t.1 ∙ slots;
      small = omega (arith, small, slots);
    }
