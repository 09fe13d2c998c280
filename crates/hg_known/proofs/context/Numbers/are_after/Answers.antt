use Rattle.std.proofs.Common.{◌∙◌, sym, ap, refl}
use Rattle.std.specs.Prelude.{option_copied}
use Rattle.hg_base.specs.Transcript.{numbers_in}
use Rattle.hg_known.proofs.Ending.{after_some, after_none}
use Rattle.hg_known.proofs.context.Numbers.are_after.Goals as goal

pub returns-in-Some : goal.returns-in-Some
returns-in-Some c = λ earlier h. after_some c.args.at (numbers_in c.args.tx.session c.args.tx.number earlier) c.in-Some.least.now (sym (h c.args.tx.session c.args.tx.number) ∙
    sym c.get.ensures.value ∙ ap option_copied c.in-Some.is)

pub returns-in-None : goal.returns-in-None
returns-in-None c = λ earlier h. (
  λ _. after_none c.args.at (numbers_in c.args.tx.session c.args.tx.number earlier) (sym (h c.args.tx.session c.args.tx.number) ∙
      sym c.get.ensures.value ∙ ap option_copied c.in-None.is),
  λ _. refl,
)
