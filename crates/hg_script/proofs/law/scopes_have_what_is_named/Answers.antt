use Rattle.hg_script.proofs.Sets.{set-has}
use Rattle.hg_script.proofs.law.scopes_have_what_is_named.Goals as goal

pub returns : goal.returns
returns c = λ tables names set e. set-has tables names set _ e
