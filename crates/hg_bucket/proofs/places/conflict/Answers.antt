use Rattle.std.proofs.Common.{sym, ◌∙◌}
use Rattle.hg_space.specs.Places.{image_at}
use Rattle.hg_chains.specs.Places.{list_at}
use Rattle.hg_bucket.proofs.Installing.{conflict_of_chain, conflict_of_oldest, all_free, free_chain, none_free}
use Rattle.hg_bucket.proofs.places.conflict.Goals as goal

pub returns-in-Some-clause-refusal : goal.returns-in-Some-clause-refusal
returns-in-Some-clause-refusal c = conflict_of_chain c.args.by c.args.snapshot c.args.mark c.refusal.result (list_at c.args.chains.now c.args.place)
    (image_at c.args.space.now.places c.args.place) c.in-Some.stamp (sym c.in-Some.is ∙ c.newest.ensures.newest) c.refusal.ensures

pub returns-in-Some-clause-free : goal.returns-in-Some-clause-free
returns-in-Some-clause-free c e =
    let vs = list_at c.args.chains.now c.args.place in
    let im = image_at c.args.space.now.places c.args.place in
    let is = conflict_of_chain c.args.by c.args.snapshot c.args.mark c.refusal.result vs im c.in-Some.stamp (sym c.in-Some.is ∙ c.newest.ensures.newest) c.refusal.ensures in
    free_chain c.args.by vs im (all_free c.args.by c.args.snapshot c.args.mark vs im c.newest.ensures.others (sym is ∙ e))

pub returns-in-None-clause-refusal : goal.returns-in-None-clause-refusal
returns-in-None-clause-refusal c = c.newer.ensures ∙ conflict_of_oldest c.args.by c.args.snapshot c.args.mark (list_at c.args.chains.now c.args.place)
    (image_at c.args.space.now.places c.args.place) (sym c.in-None.is ∙ c.newest.ensures.newest)

pub returns-in-None-clause-free : goal.returns-in-None-clause-free
returns-in-None-clause-free c e = none_free c.args.by (list_at c.args.chains.now c.args.place) (sym c.in-None.is ∙ c.newest.ensures.newest)
