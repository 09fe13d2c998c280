use Rattle.std.proofs.Common.{rules}
use Rattle.hg_rounds.proofs.Word.{starts}
use Rattle.hg_rounds.proofs.draws.Draws.new.Goals as goal

pub of_words-requires : goal.of_words-requires
of_words-requires c = starts _ (search rules)
