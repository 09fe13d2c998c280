use Rattle.std.proofs.Common.{◌∙◌, ap}
use Rattle.std.specs.Prelude.{unwrap_or}
use Rattle.hg_base.specs.Freshness.{known}
use Rattle.hg_known.proofs.Fresher.{decides_within}
use Rattle.hg_known.proofs.before.Heard.rises.Goals as goal

pub returns : goal.returns
returns c = λ earlier heard. decides_within c.unwrap_or.result c.args.at (known c.args.session earlier) (c.unwrap_or.ensures ∙
    ap (λ o. unwrap_or o 0) (c.copied.ensures ∙ c.get.ensures.value) ∙ heard c.args.session)
