use Rattle.std.proofs.Common.{length, rules, ap, sym, ◌∙◌, subst, take, drop, ◌++◌, ◌≡◌, ◌<◌, set}
use Rattle.hg_space.specs.Slots.{put_in}
use Rattle.hg_space.proofs.TableFacts.{put_at}
use Rattle.hg_space.proofs.slots.put.Goals as goal

pub returns-then-not-is_used : goal.returns-then-not-is_used
returns-then-not-is_used c =
    let k = c.loop-i.invariant in
    let within : c.loop-i.i < length c.loop-i.bin = search rules in
    let far = subst (λ xs. take c.loop-i.i xs ++ put_in c.args.rid c.args.place (drop c.loop-i.i xs) ≡ put_in c.args.rid c.args.place c.args.bin.now) (sym k.same) k.far in
    ap (set c.loop-i.bin c.loop-i.i) c.used.ensures ∙ put_at c.args.rid c.args.place c.loop-i.i c.loop-i.bin (put_in c.args.rid c.args.place c.args.bin.now) _ within
    (sym c.is_used.ensures ∙ c.if-not-is_used.true) far
