use Rattle.std.proofs.Common.{◌≡◌, ◌∙◌, ◌++◌, ◌-◌, length, drop, ap, arith, rules}
use Rattle.hg_transcript.proofs.Backwards.{put_tail}
use Rattle.hg_transcript.proofs.row_start.RowStart.put.Goals as goal

pub returns-clause-written : goal.returns-clause-written
returns-clause-written c =
    let start = c.args.self.now in
    let copied = c.copy_from_slice.ensures.after in
    let long : length c.copy_from_slice.new.self ≡ 48 = search rules in
    put_tail c.args.bytes.now c.copy_from_slice.new.self (c.args.end - 48) (c.args.end - (c.args.end - 48)) start.from c.args.end (omega arith) (omega arith) (omega arith) (omega arith)
    ∙ ap (λ t. t ++ drop c.args.end c.args.bytes.now) (ap (drop start.from) copied ∙ start.begun.1)
