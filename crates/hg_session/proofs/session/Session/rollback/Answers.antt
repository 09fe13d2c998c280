use Rattle.std.proofs.Common.{◌≡◌, Some, None, refl}
use Rattle.std.specs.Prelude.{IsSome, Option}
use Rattle.hg_base.specs.declared.scope.Snapshot.{Snapshot}
use Rattle.hg_core.specs.Logs.{current}
use Rattle.hg_rule.specs.Views.{session}
use Rattle.hg_session.specs.Engines.{engine_sizes}
use Rattle.hg_session.specs.Sessions.{view_of}
use Rattle.hg_session.proofs.Putting.{rollback_inside}
use Rattle.hg_session.proofs.session.Session.rollback.Goals as goal

open_one : (o : Option Snapshot) → IsSome o → (c : Snapshot) × (o ≡ Some c)
open_one None h = absurd (let k = h in cc)
open_one (Some c) h = (c, refl)

pub returns-clause-answers : goal.returns-clause-answers
returns-clause-answers g c =
    let v = view_of c.args.self.now in
    let one = open_one (current (session v).log) c.requires.opened in
    let r = c.undo_open.ensures.gains in
    rollback_inside (engine_sizes c.args.engine.now) v (view_of c.undo_open.new.session) one.0 r.0 one.1 r.1.0 r.1.1
