-- New sessions are at rest.
use Rattle.std.proofs.Common.{ℕ, zero, suc, ◌<◌, ◌≤◌, List, [], ◌∷◌, length, slice_index_or, ap, arith}
use Rattle.hg_core.specs.Logs.{current}
use Rattle.hg_rule.specs.New.{EachFrom}
use Rattle.hg_session.specs.declared.engine.Engine.{Engine}
use Rattle.hg_session.specs.declared.session.Session.{Session}
use Rattle.hg_session.specs.Opened.{IsNewOf}
use Rattle.hg_session.specs.Resting.{MayRun}

pub may_run : (e : Engine) (quota n i : ℕ) (sessions : List Session) → n ≤ quota → EachFrom (IsNewOf e quota) i sessions → (k : ℕ) (d : Session) → k < length sessions →
    MayRun e n (slice_index_or sessions k d)
may_run e quota n i [] le r k d h = absurd (omega (arith, h))
may_run e quota n i (s ∷ sessions) le r zero d h = let l = r.0.left in (r.0.own, ap current r.0.log, omega (arith, le, l))
may_run e quota n i (s ∷ sessions) le r (suc k) d h = may_run e quota n (suc i) sessions le r.1 k d (omega (arith, h))
