use Rattle.std.proofs.Common.{◌<◌, length, rules}
use Rattle.std.specs.BinaryHeap.{heap_items}
use Rattle.hg_cursor.proofs.Counting.{added}
use Rattle.hg_cursor.proofs.firsts.Firsts.keep_least.Goals as goal

pub returns-then-len-most-clause-least : goal.returns-then-len-most-clause-least
returns-then-len-most-clause-least c = λ rows row h needed a.
    let fewer : length (heap_items c.args.keys.now) < c.args.most = search rules in
    added c.args.most (heap_items c.args.keys.now) (heap_items c.push.new.self) rows c.args.key row fewer c.in_ok-push.ensures.permutation a
