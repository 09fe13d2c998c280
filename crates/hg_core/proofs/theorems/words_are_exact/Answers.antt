use Rattle.hg_core.proofs.Words.{has_word, has_mask_word, mask_has_all}
use Rattle.hg_core.proofs.theorems.words_are_exact.Goals as goal

pub returns-clause-all : goal.returns-clause-all
returns-clause-all c = has_word

pub returns-clause-mask : goal.returns-clause-mask
returns-clause-mask c = has_mask_word

pub returns-clause-has : goal.returns-clause-has
returns-clause-has c = mask_has_all
