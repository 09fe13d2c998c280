use Rattle.std.proofs.Common.{refl, ◌∙◌, arith}
use Rattle.hg_chains.proofs.LandmarkLists.{set_here, set_apart}
use Rattle.hg_chains.proofs.landmarks.Landmarks.clear.Goals as goal

pub returns-in-Some-clause-here : goal.returns-in-Some-clause-here
returns-in-Some-clause-here c = set_here c.args.self.now.lists.items c.args.place c.clear.new.self (let k = c.in-Some.ensures.variant.0 refl in omega (arith, k)) ∙ c.clear.ensures.items

pub returns-in-Some-clause-others : goal.returns-in-Some-clause-others
returns-in-Some-clause-others c = λ q apart. set_apart c.args.self.now.lists.items c.args.place c.clear.new.self q apart
