use Rattle.std.proofs.Common.{◌<◌, arith, length, take}
use Rattle.hg_base.specs.Transcript.{commits}
use Rattle.hg_known.specs.Lines.{said_of}
use Rattle.hg_known.proofs.Closing.{open_at}
use Rattle.hg_known.proofs.Tallying.{few_at}
use Rattle.hg_known.proofs.Walking.{AtLine, at_reader, earlier_at, reader_next}
use Rattle.hg_known.proofs.Gathering.{gathered_next, gathered_all, lost_there}
use Rattle.hg_known.proofs.gathered.gather.Goals as goal

pub returns-then-not-branch : goal.returns-then-not-branch
returns-then-not-branch c =
    let xs = c.args.all.now in
    let k = c.loop.counter in
    let less : k < length xs = omega (arith, c.len-end.ensures.same) in
    let now = said_of c.in_ok-said.said in
    let at : AtLine xs k now = at_reader c.loop.reader xs k now c.loop.invariant.reader less c.in_ok-said.ensures.said in
    lost_there xs k now c.args.wants c.add.new.self c.in_ok-add.field-0 at c.if-not-branch.true
    (c.in_ok-add.ensures (earlier_at xs k) (commits (take k xs)) c.loop.invariant.gathered (open_at xs k now at c.requires.open) (few_at xs k less c.len-end.ensures.few c.len-end.ensures.same))

pub loop-preserved : goal.loop-preserved
loop-preserved c =
    let xs = c.args.all.now in
    let k = c.loop.counter in
    let less : k < length xs = omega (arith, c.len-end.ensures.same) in
    let now = said_of c.in_ok-said.said in
    let at : AtLine xs k now = at_reader c.loop.reader xs k now c.loop.invariant.reader less c.in_ok-said.ensures.said in
    let next = gathered_next xs k now c.args.wants c.add.new.self c.in_ok-add.field-0 at c.loop.invariant.fine c.if-not-branch.false
    (c.in_ok-add.ensures (earlier_at xs k) (commits (take k xs)) c.loop.invariant.gathered (open_at xs k now at c.requires.open)
    (few_at xs k less c.len-end.ensures.few c.len-end.ensures.same)) in
    record {
      reader = reader_next c.loop.reader c.read.new.self xs k c.loop.invariant.reader c.in_ok-said.ensures.next;
      gathered = next.0;
      fine = next.1;
    }

pub returns : goal.returns
returns c = gathered_all c.args.all.now c.loop.counter c.args.wants c.loop.into c.has_each.result (omega (arith, c.len-end.ensures.same)) c.loop.invariant.gathered c.loop.invariant.fine
    c.has_each.ensures
