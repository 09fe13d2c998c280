use Rattle.std.proofs.Common.{◌∙◌, sym, ap}
use Rattle.std.specs.Prelude.{min, unwrap_or}
use Rattle.hg_known.specs.Lines.{said_of}
use Rattle.hg_known.proofs.Ending.{numbers_more, numbers_same}
use Rattle.hg_known.proofs.context.Numbers.add.Goals as goal

pub returns-in_default : goal.returns-in_default
returns-in_default c = λ earlier h. numbers_same c.args.self.now.least earlier (said_of c.args.said.now) (sym c.committed.ensures ∙ c.in_default.is) h

pub returns : goal.returns
returns c =
    λ earlier h.
    numbers_more c.args.self.now.least c.insert.new.self earlier (said_of c.args.said.now) c.in-Some.number c.min-least.result (sym c.committed.ensures ∙ c.in-Some.is)
    (c.min-least.ensures ∙ ap (min c.in-Some.number) (c.unwrap_or.ensures ∙ ap (λ o. unwrap_or o c.in-Some.number) (c.copied.ensures ∙ c.get.ensures.value))) c.in_ok-insert.ensures.updates.0 h
