use Rattle.std.proofs.Common.{◌<◌, length, sym, ap, ◌∙◌, subst, drop}
use Rattle.std.specs.Prelude.{IsTrue}
use Rattle.hg_base.specs.Lists.{Each}
use Rattle.hg_chains.specs.Places.{list_at}
use Rattle.hg_space.specs.Places.{image_at}
use Rattle.hg_bucket.specs.BucketModel.{begins_open, versions_of, IsBelow, stamped, OthersStay, left}
use Rattle.hg_bucket.specs.Parts.{records_of}
use Rattle.hg_bucket.proofs.Changing.{below_behind}
use Rattle.hg_bucket.proofs.Stamping.{open_at, open_placed, stamps}
use Rattle.hg_bucket.specs.Parts.{Recorded}
use Rattle.hg_bucket.proofs.Listing.{chain_stays, open_some, stamped_some}
use Rattle.hg_bucket.proofs.records.Records.stamp.Goals as goal

pub stamp-requires-clause-open_write : goal.stamp-requires-clause-open_write
stamp-requires-clause-open_write c =
    let b = c.self.inside in
    let open_write = subst (λ h. IsTrue (begins_open c.args.by (versions_of h c.args.rid))) (sym (ap (λ (h : Recorded). h.records) c.self.view_is)) c.requires.open_write in
    (open_at c.args.by b.index b.chains b.space.places c.args.rid c.in-Some.place (sym c.place.ensures.place ∙ c.in-Some.is) open_write).begins

pub stamp-requires-clause-over : goal.stamp-requires-clause-over
stamp-requires-clause-over c =
    let b = c.self.inside in
    let p = c.in-Some.place in
    let open_write = subst (λ h. IsTrue (begins_open c.args.by (versions_of h c.args.rid))) (sym (ap (λ (h : Recorded). h.records) c.self.view_is)) c.requires.open_write in
    let over = subst (λ h. Each (IsBelow c.args.number) (drop 1 (versions_of h c.args.rid))) (sym (ap (λ (h : Recorded). h.records) c.self.view_is)) c.requires.over in
    let at = open_at c.args.by b.index b.chains b.space.places c.args.rid p (sym c.place.ensures.place ∙ c.in-Some.is) open_write in
    (below_behind c.args.by c.args.number (list_at b.chains p) (image_at b.space.places p) at.begins (subst (λ vs. Each (IsBelow c.args.number) (drop 1 vs)) at.there over)).0

pub invariant_of-self : goal.invariant_of-self
invariant_of-self c =
    let b = c.self.inside in
    let open_write = subst (λ h. IsTrue (begins_open c.args.by (versions_of h c.args.rid))) (sym (ap (λ (h : Recorded). h.records) c.self.view_is)) c.requires.open_write in
    let over = subst (λ h. Each (IsBelow c.args.number) (drop 1 (versions_of h c.args.rid))) (sym (ap (λ (h : Recorded). h.records) c.self.view_is)) c.requires.over in
    let done = stamps b.index b.chains c.stamp.new.self b.space.places c.args.rid c.in-Some.place c.args.by c.args.number c.place.ensures.index c.self.invariant.whole
    (sym c.place.ensures.place ∙ c.in-Some.is) open_write over c.stamp.ensures.here c.stamp.ensures.others in
    let p = c.in-Some.place in
    let some = open_some c.args.by (list_at b.chains p) (open_at c.args.by b.index b.chains b.space.places c.args.rid p (sym c.place.ensures.place ∙ c.in-Some.is) open_write).begins in
    record {
      whole = done.whole;
      listed = chain_stays b.index b.chains c.stamp.new.self b.longs p c.self.invariant.listed c.stamp.ensures.others some
          (subst (λ vs. 0 < length vs) (sym c.stamp.ensures.here) (stamped_some c.args.by c.args.number (list_at b.chains p) some));
    }

pub returns-in-Some-clause-here : goal.returns-in-Some-clause-here
returns-in-Some-clause-here c =
    let b = c.self.inside in
    let open_write = subst (λ h. IsTrue (begins_open c.args.by (versions_of h c.args.rid))) (sym (ap (λ (h : Recorded). h.records) c.self.view_is)) c.requires.open_write in
    let over = subst (λ h. Each (IsBelow c.args.number) (drop 1 (versions_of h c.args.rid))) (sym (ap (λ (h : Recorded). h.records) c.self.view_is)) c.requires.over in
    let done = stamps b.index b.chains c.stamp.new.self b.space.places c.args.rid c.in-Some.place c.args.by c.args.number c.place.ensures.index c.self.invariant.whole
    (sym c.place.ensures.place ∙ c.in-Some.is) open_write over c.stamp.ensures.here c.stamp.ensures.others in
    done.here ∙ ap (λ h. stamped c.args.by c.args.number (versions_of h c.args.rid)) (ap (λ (h : Recorded). h.records) c.self.view_is)

pub returns-in-Some-clause-others : goal.returns-in-Some-clause-others
returns-in-Some-clause-others c =
    let b = c.self.inside in
    let open_write = subst (λ h. IsTrue (begins_open c.args.by (versions_of h c.args.rid))) (sym (ap (λ (h : Recorded). h.records) c.self.view_is)) c.requires.open_write in
    let over = subst (λ h. Each (IsBelow c.args.number) (drop 1 (versions_of h c.args.rid))) (sym (ap (λ (h : Recorded). h.records) c.self.view_is)) c.requires.over in
    let done = stamps b.index b.chains c.stamp.new.self b.space.places c.args.rid c.in-Some.place c.args.by c.args.number c.place.ensures.index c.self.invariant.whole
    (sym c.place.ensures.place ∙ c.in-Some.is) open_write over c.stamp.ensures.here c.stamp.ensures.others in
    subst (λ h. OthersStay h (records_of b.index c.stamp.new.self b.space.places) c.args.rid) (ap (λ (h : Recorded). h.records) c.self.view_is) done.others

pub returns-in-Some-clause-left : goal.returns-in-Some-clause-left
returns-in-Some-clause-left c =
    let b = c.self.inside in
    let open_write = subst (λ h. IsTrue (begins_open c.args.by (versions_of h c.args.rid))) (sym (ap (λ (h : Recorded). h.records) c.self.view_is)) c.requires.open_write in
    let over = subst (λ h. Each (IsBelow c.args.number) (drop 1 (versions_of h c.args.rid))) (sym (ap (λ (h : Recorded). h.records) c.self.view_is)) c.requires.over in
    let done = stamps b.index b.chains c.stamp.new.self b.space.places c.args.rid c.in-Some.place c.args.by c.args.number c.place.ensures.index c.self.invariant.whole
    (sym c.place.ensures.place ∙ c.in-Some.is) open_write over c.stamp.ensures.here c.stamp.ensures.others in
    done.left ∙ ap left (ap (λ (h : Recorded). h.records) c.self.view_is)

pub returns-in_default-clause-here : goal.returns-in_default-clause-here
returns-in_default-clause-here c =
    let b = c.self.inside in
    absurd (open_placed c.args.by b.index b.chains b.space.places c.args.rid (sym c.place.ensures.place ∙ c.in_default.is)
    (subst (λ h. IsTrue (begins_open c.args.by (versions_of h c.args.rid))) (sym (ap (λ (h : Recorded). h.records) c.self.view_is)) c.requires.open_write))
