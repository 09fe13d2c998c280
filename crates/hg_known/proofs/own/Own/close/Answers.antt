use Rattle.std.proofs.Common.{◌∙◌, sym}
use Rattle.hg_known.specs.Lines.{said_of}
use Rattle.hg_known.proofs.Closing.{closed, still_open, forgets, forgets_on}
use Rattle.hg_known.proofs.own.Own.close.Goals as goal

pub returns-then-not-ends-clause-kept : goal.returns-then-not-ends-clause-kept
returns-then-not-ends-clause-kept c = λ earlier own. still_open c.args.self.now earlier (said_of c.args.said.now) (sym c.ends.ensures ∙ c.if-not-ends.true) own

pub returns-then-not-ends-clause-over : goal.returns-then-not-ends-clause-over
returns-then-not-ends-clause-over c = λ earlier over. forgets_on c.args.self.now earlier (said_of c.args.said.now) (sym c.ends.ensures ∙ c.if-not-ends.true) over

pub returns-clause-kept : goal.returns-clause-kept
returns-clause-kept c = λ earlier own. closed c.args.self.now c.forget.new.self earlier (said_of c.args.said.now) (sym c.ends.ensures ∙ c.if-not-ends.false) c.forget.ensures.others own

pub returns-clause-over : goal.returns-clause-over
returns-clause-over c = λ earlier over. forgets c.args.self.now c.forget.new.self earlier (said_of c.args.said.now) c.forget.ensures.others c.forget.ensures.gone over
