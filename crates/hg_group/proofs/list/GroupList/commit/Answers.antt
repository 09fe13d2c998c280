use Rattle.hg_rule.specs.Views.{number, session}
use Rattle.hg_rule.specs.Seats.{session_view}
use Rattle.hg_queue.specs.Handing.{IsOpenTxOf}
use Rattle.hg_group.specs.Batch.{HasFinished, IsRefused}
use Rattle.hg_group.specs.Submitting.{IsBackAgain, HasCommitted}
use Rattle.hg_group.proofs.Through.{published, back_again, if_ok, if_err}
use Rattle.hg_group.proofs.list.GroupList.commit.Goals as goal

pub returns-clause-committed : goal.returns-clause-committed
returns-clause-committed g c =
    let v = session_view c.args.pass.now in
    let u = session_view c.submit.new.pass in
    let w = session_view c.finish.new.pass in
    let s = c.in_ok-submitted.ensures.submitted.1.0 in
    if_ok (λ r. HasFinished u r w) (λ r. HasCommitted v r w) c.finish.result (λ r f. published v u w s.0 r s.1 f) c.finish.ensures.finished

pub returns-clause-refused : goal.returns-clause-refused
returns-clause-refused g c =
    let v = session_view c.args.pass.now in
    let u = session_view c.submit.new.pass in
    let w = session_view c.finish.new.pass in
    let s = c.in_ok-submitted.ensures.submitted.1.0 in
    if_err (λ e. IsRefused u e.0 w) (λ e. IsOpenTxOf (number v) (session v) e.0 × IsBackAgain v w) c.finish.result (λ e f. back_again v u w s.0 e.0 s.1 f) c.finish.ensures.refused
