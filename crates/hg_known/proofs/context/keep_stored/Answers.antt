use Rattle.hg_known.proofs.context.keep_stored.Goals as goal

pub returns : goal.returns
returns c = λ earlier before wanted j x r. c.in_ok-add.ensures.added earlier j x r (before wanted j x r)
