use Rattle.hg_base.proofs.TextLines.{texts_determine}
use Rattle.hg_base.proofs.laws.texts_determine_values.Goals as goal

pub returns : goal.returns
returns c = texts_determine
