use Rattle.std.proofs.Common.{rules, ◌∙◌, length, sym, ap, subst}
use Rattle.hg_lock.specs.Locks.{EachFits}
use Rattle.hg_lock.proofs.Values.{EachFits-push}
use Rattle.hg_queue.specs.declared.known.Known.{Known}
use Rattle.hg_queue.specs.Queues.{IsPassOf}
use Rattle.hg_group.specs.declared.follower.Pusher.{Pusher}
use Rattle.hg_group.specs.Pushing.{PusherFits}
use Rattle.hg_group.proofs.follower.make_pushers.Goals as goal

pub loop-turn-preserved : goal.loop-turn-preserved
loop-turn-preserved c =
    let fits = PusherFits c.args.founding.now in
    let was = c.loop-turn.invariant in
    let new = c.twin.ensures in
    let pusher : Pusher = record { line = c.twin.result } in
    let line : fits (length c.loop-turn.pushers.items) pusher = (
      subst (λ q. IsPassOf q c.twin.result) (sym c.requires.queue) new.own.1,
      ap (λ (k : Known). k.opens) new.same.1 ∙ was.line.1,
      ap (λ (k : Known). k.leads) new.same.1 ∙ was.line.2,
      ap (λ (k : Known). k.board.id) new.same.1 ∙ was.line.3,
    ) in
    record {
      line = (
        new.own.0,
        ap (λ (k : Known). k.opens) new.same.0 ∙ was.line.1,
        ap (λ (k : Known). k.leads) new.same.0 ∙ was.line.2,
        ap (λ (k : Known). k.board.id) new.same.0 ∙ was.line.3,
      );
      fit = subst (EachFits fits) (sym c.push_reserved.ensures.items) (EachFits-push fits c.loop-turn.pushers.items pusher was.fit line);
      count = search rules;
      room = search rules;
    }
