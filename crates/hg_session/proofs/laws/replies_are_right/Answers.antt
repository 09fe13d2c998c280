use Rattle.hg_session.proofs.Right.{is_right}
use Rattle.hg_session.proofs.laws.replies_are_right.Goals as goal

pub returns : goal.returns
returns c = is_right
