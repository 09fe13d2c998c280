use Rattle.std.proofs.Common.{ℕ, ◌++◌, ◌∙◌, sym, subst, append_assoc, [], ◌∷◌}
use Rattle.hg_lock.specs.Locks.{lock_of, tag_of}
use Rattle.hg_rule.specs.Views.{number}
use Rattle.hg_rule.specs.Seats.{board_id, session_view}
use Rattle.hg_queue.specs.Queues.{known}
use Rattle.hg_group.specs.Pushing.{PusherFits}
use Rattle.hg_group.proofs.Pushing.{pushes, fits_again}
use Rattle.hg_group.proofs.list.GroupList.submit.Goals as goal

pub join_queue-requires-clause-line : goal.join_queue-requires-clause-line
join_queue-requires-clause-line g c = pushes c.args.self.now (board_id c.args.board.now) (lock_of c.take-pusher.result.1) c.take-pusher.result.0 c.requires.list.0
    (subst (λ (k : ℕ). PusherFits (tag_of c.args.self.now.pushers) k c.take-pusher.result.0) (sym c.take-pusher.ensures.lock) c.take-pusher.ensures.fits)

pub give-requires-clause-fits : goal.give-requires-clause-fits
give-requires-clause-fits g c = fits_again c.args.self.now (board_id c.args.board.now) (lock_of c.take-pusher.result.1)
    (record c.take-pusher.result.0 { line = c.join_queue.new.line }) c.requires.list.0 c.join_queue.ensures.line

pub returns-in-Ok-clause-submitted : goal.returns-in-Ok-clause-submitted
returns-in-Ok-clause-submitted g c = (
  (
    c.take-pusher.ensures.loan,
    fits_again c.args.self.now (board_id c.args.board.now) (lock_of c.take-pusher.result.1) (record c.take-pusher.result.0 { line = c.join_queue.new.line })
        c.requires.list.0 c.join_queue.ensures.line,
  ),
  ((_, c.in-Ok.ensures.submitted.0), c.in-Ok.ensures.submitted.1),
)

pub returns-in-Ok-clause-pair : goal.returns-in-Ok-clause-pair
returns-in-Ok-clause-pair g c =
    let old = (known c.take-pusher.result.0.line).pairs in
    let e = c.in-Ok.ensures.pair in
    (old ++ e.0, e.1 ∙ sym (append_assoc old e.0 ((number (session_view c.args.pass.now), c.args.tx.writer.transaction) ∷ [])))
