use Rattle.std.proofs.Common.{◌<◌, length, ap, ◌∙◌, ◌∷◌, ◌++◌, [], arith}
use Rattle.hg_chains.proofs.LandmarkLists.{set_apart, set_more, set_same, always_err}
use Rattle.hg_chains.proofs.landmarks.Landmarks.add.Goals as goal

pub returns-in_err-push-clause-others : goal.returns-in_err-push-clause-others
returns-in_err-push-clause-others c = λ q apart. set_apart c.begin.new.self.lists.items c.args.place c.push.new.self q apart ∙ c.begin.ensures.same q

pub returns-in_err-push-clause-refused : goal.returns-in_err-push-clause-refused
returns-in_err-push-clause-refused c =
    let there : c.args.place < length c.begin.new.self.lists.items = (let k = c.in_ok-begin.ensures.there in omega (arith, k)) in
    let same = set_same c.begin.new.self.lists.items c.args.place c.index_mut-list.result.now c.push.new.self there c.index_mut-list.ensures.value c.in_err-push.ensures.items in
    always_err c.from_residual-in_err-push.result _ (λ q. same q ∙ c.begin.ensures.same q)

pub returns-clause-last : goal.returns-clause-last
returns-clause-last c =
    let there : c.args.place < length c.begin.new.self.lists.items = (let k = c.in_ok-begin.ensures.there in omega (arith, k)) in
    set_more c.begin.new.self.lists.items c.args.place c.index_mut-list.result.now c.push.new.self c.args.landmark there c.index_mut-list.ensures.value c.in_ok-push.ensures.items ∙
    ap (λ ms. ms ++ c.args.landmark ∷ []) (c.begin.ensures.same c.args.place)

pub returns-clause-others : goal.returns-clause-others
returns-clause-others c = λ q apart. set_apart c.begin.new.self.lists.items c.args.place c.push.new.self q apart ∙ c.begin.ensures.same q
