use Rattle.std.proofs.Common.{◌≡◌, ◌+◌, ◌≤◌, None}
use Rattle.hg_session.specs.Sessions.{IsOf, open_of, left_of}
use Rattle.hg_trials.proofs.sharing_tests.commit_often.Given as goal

abbrev pub invariant-loop-i : goal.invariant-loop-i
invariant-loop-i g l = IsOf l.engine l.session × (open_of l.session ≡ None) × (400 ≤ left_of l.session + (l.i + l.i))
