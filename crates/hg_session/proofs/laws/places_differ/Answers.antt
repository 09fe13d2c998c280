use Rattle.hg_session.proofs.Placed.{places_apart, sessions_apart}
use Rattle.hg_session.proofs.laws.places_differ.Goals as goal

pub returns-clause-histories : goal.returns-clause-histories
returns-clause-histories c = places_apart

pub returns-clause-sessions : goal.returns-clause-sessions
returns-clause-sessions c = sessions_apart
