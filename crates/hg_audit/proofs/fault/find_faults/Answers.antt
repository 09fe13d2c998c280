use Rattle.std.proofs.Common.{◌<◌, ◌∙◌, sym, subst, arith, length}
use Rattle.hg_base.specs.Transcript.{history_of}
use Rattle.hg_base.proofs.ListFacts.{false_true}
use Rattle.hg_decide.specs.Audit.{IsKnown, IsRightReply}
use Rattle.hg_known.specs.Asked.{names_writer, tells_held}
use Rattle.hg_known.specs.Before.{AreBefore}
use Rattle.hg_known.specs.Ended.{AreOpenOwn, ForgetsOver}
use Rattle.hg_known.specs.Lines.{said_of}
use Rattle.hg_known.proofs.Asking.{any_here}
use Rattle.hg_known.proofs.Closing.{forgets_more, its_own, open_at, others_own}
use Rattle.hg_known.proofs.Losing.{all_kept, line_keeps, line_lost}
use Rattle.hg_known.proofs.Walking.{AtLine, at_reader, earlier_at, earlier_next, reader_next, read_item}
use Rattle.hg_audit.proofs.Conflicting.{part_at}
use Rattle.hg_audit.proofs.Firsts.{rest_at, so_far, so_far_all}
use Rattle.hg_audit.proofs.fault.find_faults.Goals as goal

pub loop-k-preserved : goal.loop-k-preserved
loop-k-preserved c =
    let xs = c.args.all.now in
    let k = c.loop-k.k in
    let less : k < length xs = omega (arith, c.len-k-end.ensures.same) in
    let now = said_of c.in_ok-said.said in
    let at : AtLine xs k now = at_reader c.loop-k.reader xs k now c.loop-k.invariant.reader less c.in_ok-said.ensures.said in
    let is = read_item c.loop-k.reader xs k now c.loop-k.invariant.reader c.in_ok-said.ensures.said in
    let opened = open_at xs k now at c.requires.opened in
    let own = its_own c.loop-k.own c.add.new.self (earlier_at xs k) now c.loop-k.invariant.own opened (c.in_ok-add.ensures.added (earlier_at xs k)) in
    record {
      reader = reader_next c.loop-k.reader c.read.new.self xs k c.loop-k.invariant.reader c.in_ok-said.ensures.next;
      own = subst (AreOpenOwn c.close.new.self) (sym (earlier_next xs k now at))
          (c.close.ensures.kept (earlier_at xs k) (others_own c.loop-k.own c.add.new.self (earlier_at xs k) now c.loop-k.invariant.own (c.in_ok-add.ensures.added (earlier_at xs k))));
      over = subst (ForgetsOver c.close.new.self) (sym (earlier_next xs k now at))
          (c.close.ensures.over (earlier_at xs k) (forgets_more c.loop-k.own c.add.new.self (earlier_at xs k) now opened c.in_ok-add.ensures.others c.loop-k.invariant.over));
      before = subst (AreBefore c.add-in-loop-k.new.self) (sym (earlier_next xs k now at)) (c.in_ok-add-2.ensures (earlier_at xs k) c.loop-k.invariant.before);
      kept = λ whole shows. line_keeps xs c.args.facts.now.past.now.writes whole shows k now c.add.new.self at own (c.keeps_update.ensures.0 c.if-not-keeps_update.false)
          (c.loop-k.invariant.kept whole shows);
      answered = λ mode command knows. so_far (IsRightReply mode xs) xs k now c.loop-k.unanswered c.first-unanswered.result c.is_answered-answered.result less is at
          (c.loop-k.invariant.answered mode command knows)
          (c.is_answered-answered.ensures mode xs (earlier_at xs k) command knows (any_here names_writer xs k now at) (part_at xs k)
          (c.loop-k.invariant.own now.session now.transaction opened) (rest_at c.loop-k.reader xs k c.in_ok-said.said c.loop-k.invariant.reader c.in_ok-said.ensures.rest)
          c.loop-k.invariant.own c.loop-k.invariant.over) c.first-unanswered.ensures;
      ordered = λ mode command knows. so_far (IsKnown mode xs) xs k now c.loop-k.unordered c.first-unordered.result c.is_fresh-ordered.result less is at (c.loop-k.invariant.ordered mode command knows)
          (c.is_fresh-ordered.ensures mode (history_of xs) xs (earlier_at xs k) command knows.groups
          (λ asked. knows.points (any_here tells_held xs k now at asked)) c.loop-k.invariant.before) c.first-unordered.ensures;
    }

pub returns-then-not-keeps_update : goal.returns-then-not-keeps_update
returns-then-not-keeps_update c =
    λ mode command whole knows kept.
    let xs = c.args.all.now in
    let k = c.loop-k.k in
    let less : k < length xs = omega (arith, c.len-k-end.ensures.same) in
    let now = said_of c.in_ok-said.said in
    let at : AtLine xs k now = at_reader c.loop-k.reader xs k now c.loop-k.invariant.reader less c.in_ok-said.ensures.said in
    let own = its_own c.loop-k.own c.add.new.self (earlier_at xs k) now c.loop-k.invariant.own (open_at xs k now at c.requires.opened) (c.in_ok-add.ensures.added (earlier_at xs k)) in
    line_lost xs c.args.facts.now.past.now.writes whole knows.writes k now c.add.new.self at own (λ keeps. false_true (sym c.if-not-keeps_update.true ∙ c.keeps_update.ensures.1 keeps)) kept

pub returns : goal.returns
returns c =
    λ mode command whole knows.
    let xs = c.args.all.now in
    let k = c.loop-k.k in (
      all_kept xs c.args.facts.now.past.now.writes whole knows.writes k (omega (arith, c.len-k-end.ensures.same)) (c.loop-k.invariant.kept whole knows.writes),
      so_far_all (IsRightReply mode xs) xs k c.loop-k.unanswered (omega (arith, c.len-k-end.ensures.same)) (c.loop-k.invariant.answered mode command knows),
      so_far_all (IsKnown mode xs) xs k c.loop-k.unordered (omega (arith, c.len-k-end.ensures.same)) (c.loop-k.invariant.ordered mode command knows),
    )
