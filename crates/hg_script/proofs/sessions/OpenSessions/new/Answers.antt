use Rattle.hg_script.proofs.Open.{closed}
use Rattle.hg_script.proofs.sessions.OpenSessions.new.Goals as goal

pub returns : goal.returns
returns c = (λ j le. closed 65 j, λ j le. closed 65 j)
