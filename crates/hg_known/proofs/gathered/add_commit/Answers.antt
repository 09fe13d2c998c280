use Rattle.std.proofs.Common.{◌∙◌, sym}
use Rattle.hg_known.specs.Lines.{said_of}
use Rattle.hg_known.proofs.Gathering.{adds_there}
use Rattle.hg_known.proofs.gathered.add_commit.Goals as goal

pub returns-in-Some : goal.returns-in-Some
returns-in-Some c = adds_there c.args.commits.now c.add.new.self (said_of c.args.said.now) c.in-Some.number c.args.own.now c.add.result (sym c.committed.ensures ∙ c.in-Some.is) c.add.ensures
