use Rattle.std.proofs.Common.{◌≡◌, Some, true, false, ap, sym, ◌∙◌, arith}
use Rattle.std.proofs.lemmas.List.{get_or_read}
use Rattle.hg_chains.specs.declared.head.Head.{Head}
use Rattle.hg_chains.specs.Versions.{is_open_by, image_by}
use Rattle.hg_chains.specs.Strands.{no_head}
use Rattle.hg_chains.specs.Arenas.{head_in, front_in, list_in}
use Rattle.hg_chains.proofs.Cuts.{not_open_image}
use Rattle.hg_chains.proofs.Held.{list_was}
use Rattle.hg_chains.proofs.Newest.{open_first, open_there, own_first}
use Rattle.hg_chains.proofs.chains.Chains.own.Goals as goal

pub index-requires : goal.index-requires
index-requires c = let k = open_there c.self.inside.arena c.args.place c.args.by (sym c.is_open_by.ensures ∙ c.if-not-is_open_by.false) in omega (arith, k)

pub returns-then-not-is_open_by : goal.returns-then-not-is_open_by
returns-then-not-is_open_by c =
    let a = c.self.inside.arena in
    let was = list_was a c.self.inside.free c.args.self.now c.args.place c.self.view_is in
    let e : is_open_by c.args.by (list_in a c.args.place) ≡ false = open_first a c.args.place c.args.by c.self.invariant.arena ∙ sym c.is_open_by.ensures ∙ c.if-not-is_open_by.true in
    sym (ap (image_by c.args.by) was ∙ not_open_image c.args.by (list_in a c.args.place) (c.self.invariant.chains c.args.place) e)

pub returns : goal.returns
returns c =
    let a = c.self.inside.arena in
    let was = list_was a c.self.inside.free c.args.self.now c.args.place c.self.view_is in
    let first : is_open_by c.args.by (front_in a c.args.place) ≡ true = sym c.is_open_by.ensures ∙ c.if-not-is_open_by.false in
    let within = open_there a c.args.place c.args.by first in
    let read : c.index.result.now ≡ head_in a c.args.place = get_or_read a.heads.items c.args.place c.index.result.now within c.index.ensures no_head in
    sym (ap (image_by c.args.by) was ∙ own_first a c.args.place c.args.by c.self.invariant.arena (open_first a c.args.place c.args.by c.self.invariant.arena ∙ first) ∙
    sym (ap (λ (h : Head). Some h.image) read))
