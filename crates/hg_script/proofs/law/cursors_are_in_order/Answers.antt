use Rattle.std.proofs.Common.{refl}
use Rattle.hg_script.specs.Meaning.{first_code, refusal_from, with_row}
use Rattle.hg_script.proofs.law.cursors_are_in_order.Goals as goal

pub returns-clause-get_within : goal.returns-clause-get_within
unfolding first_code refusal_from with_row
returns-clause-get_within c = refl

pub returns-clause-fetch_outside : goal.returns-clause-fetch_outside
unfolding first_code refusal_from with_row
returns-clause-fetch_outside c = refl

pub returns-clause-fetch_of_none : goal.returns-clause-fetch_of_none
unfolding first_code refusal_from with_row
returns-clause-fetch_of_none c = refl
