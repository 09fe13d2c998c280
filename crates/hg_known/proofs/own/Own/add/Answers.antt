use Rattle.std.proofs.Common.{◌≡◌, ◌∙◌, sym, ap, subst, cond, Some}
use Rattle.std.specs.Prelude.{◌&&◌, option_map}
use Rattle.hg_base.specs.History.{same_rid}
use Rattle.hg_base.specs.Transcript.{stored}
use Rattle.hg_known.specs.Lines.{said_of}
use Rattle.hg_known.specs.Owned.{spot, own_at, write_of, IsOwn}
use Rattle.hg_known.proofs.SlotOrder.{is_none_of}
use Rattle.hg_known.proofs.SpotOrder.{looked_up, own_more, first_some, put}
use Rattle.hg_known.proofs.own.Own.add.Goals as goal

pub returns-clause-first : goal.returns-clause-first
returns-clause-first c =
    λ earlier own.
    let now = said_of c.args.said.now in
    let w = write_of (c.in-Some.rid, c.in-Some.image) in
    let is : stored now ≡ Some w = sym c.in_ok-rid.ensures ∙ ap (option_map write_of) c.in-Some.is in
    let es = c.self.inside.images.entries in
    is_none_of c.in_ok-before.before c.is_none.result c.is_none.ensures
    ∙ sym (first_some earlier now w c.in_ok-before.before is (c.in_ok-before.ensures.old ∙ looked_up es (spot now.session now.transaction c.in-Some.rid) ∙
    ap (λ es. own_at es now.session now.transaction c.in-Some.rid) c.self.view_is ∙ own c.in-Some.rid))

pub returns-clause-added : goal.returns-clause-added
returns-clause-added c =
    λ earlier j x r own.
    let now = said_of c.args.said.now in
    let w = write_of (c.in-Some.rid, c.in-Some.image) in
    let is : stored now ≡ Some w = sym c.in_ok-rid.ensures ∙ ap (option_map write_of) c.in-Some.is in
    own_more c.self.inside.images.entries c.insert.new.self.entries earlier now w is c.in_ok-before.ensures.updates.0 j x r (subst (λ es. IsOwn es earlier j x r) (sym c.self.view_is) own)

pub returns-clause-others : goal.returns-clause-others
returns-clause-others c =
    λ j x r other.
    let now = said_of c.args.said.now in
    let es = c.self.inside.images.entries in
    put es c.insert.new.self.entries (spot now.session now.transaction c.in-Some.rid) c.in-Some.image c.in_ok-before.ensures.updates.0 (spot j x r)
    ∙ (λ i. cond (other i && same_rid c.in-Some.rid r) (Some c.in-Some.image) (own_at es j x r))
    ∙ ap (λ es. own_at es j x r) c.self.view_is
