use Rattle.std.proofs.Common.{◌+◌, sym, ap, ◌∙◌, subst, drop}
use Rattle.std.specs.Prelude.{IsTrue}
use Rattle.hg_bucket.specs.BucketModel.{begins_open, versions_of, OthersStay, left}
use Rattle.hg_bucket.specs.Parts.{records_of}
use Rattle.hg_bucket.proofs.Stamping.{open_at, open_placed, undoes, others_then}
use Rattle.hg_bucket.specs.Parts.{Recorded}
use Rattle.hg_chains.specs.Places.{list_at}
use Rattle.hg_bucket.proofs.Listing.{open_some, stands}
use Rattle.hg_bucket.proofs.Leaving.{may_leave}
use Rattle.hg_bucket.proofs.records.Records.undo.Goals as goal

pub returns-in_default-clause-here : goal.returns-in_default-clause-here
returns-in_default-clause-here c =
    let b = c.self.inside in
    absurd (open_placed c.args.by b.index b.chains b.space.places c.args.rid (sym c.place.ensures.place ∙ c.in_default.is)
    (subst (λ h. IsTrue (begins_open c.args.by (versions_of h c.args.rid))) (sym (ap (λ (h : Recorded). h.records) c.self.view_is)) c.requires))

pub returns-in_default-clause-left : goal.returns-in_default-clause-left
returns-in_default-clause-left c =
    let b = c.self.inside in
    absurd (open_placed c.args.by b.index b.chains b.space.places c.args.rid (sym c.place.ensures.place ∙ c.in_default.is)
    (subst (λ h. IsTrue (begins_open c.args.by (versions_of h c.args.rid))) (sym (ap (λ (h : Recorded). h.records) c.self.view_is)) c.requires))

pub undo-requires : goal.undo-requires
undo-requires c =
    let b = c.self.inside in
    let open_write = subst (λ h. IsTrue (begins_open c.args.by (versions_of h c.args.rid))) (sym (ap (λ (h : Recorded). h.records) c.self.view_is)) c.requires in
    (open_at c.args.by b.index b.chains b.space.places c.args.rid c.in-Some.place (sym c.place.ensures.place ∙ c.in-Some.is) open_write).begins

pub drop_bare-requires-clause-bare : goal.drop_bare-requires-clause-bare
drop_bare-requires-clause-bare c =
    let b = c.self.inside in
    let open_write = subst (λ h. IsTrue (begins_open c.args.by (versions_of h c.args.rid))) (sym (ap (λ (h : Recorded). h.records) c.self.view_is)) c.requires in
    let done = undoes b.index b.chains c.undo.new.self b.space.places c.args.rid c.in-Some.place c.args.by c.place.ensures.index c.self.invariant.whole (sym c.place.ensures.place ∙
    c.in-Some.is) open_write c.undo.ensures.here c.undo.ensures.others in
    done.bare

pub invariant_of-self : goal.invariant_of-self
invariant_of-self c =
    let b = c.self.inside in
    let open_write = subst (λ h. IsTrue (begins_open c.args.by (versions_of h c.args.rid))) (sym (ap (λ (h : Recorded). h.records) c.self.view_is)) c.requires in
    let p = c.in-Some.place in
    let some = open_some c.args.by (list_at b.chains p) (open_at c.args.by b.index b.chains b.space.places c.args.rid p (sym c.place.ensures.place ∙ c.in-Some.is) open_write).begins in
    record {
      whole = c.drop_bare.ensures.whole;
      listed = c.drop_bare.ensures.lists c.leave_bare.new.longs
          (may_leave b.index b.chains c.undo.new.self b.longs c.leave_bare.new.longs c.args.rid p c.place.ensures.index c.self.invariant.listed (sym c.place.ensures.place ∙
          c.in-Some.is) some c.undo.ensures.others c.leave_bare.ensures.bare c.leave_bare.ensures.listed);
    }

pub returns-clause-here : goal.returns-clause-here
returns-clause-here c =
    let b = c.self.inside in
    let open_write = subst (λ h. IsTrue (begins_open c.args.by (versions_of h c.args.rid))) (sym (ap (λ (h : Recorded). h.records) c.self.view_is)) c.requires in
    let done = undoes b.index b.chains c.undo.new.self b.space.places c.args.rid c.in-Some.place c.args.by c.place.ensures.index c.self.invariant.whole (sym c.place.ensures.place ∙
    c.in-Some.is) open_write c.undo.ensures.here c.undo.ensures.others in
    c.drop_bare.ensures.here ∙ done.here ∙ ap (λ h. drop 1 (versions_of h c.args.rid)) (ap (λ (h : Recorded). h.records) c.self.view_is)

pub returns-clause-others : goal.returns-clause-others
returns-clause-others c =
    let b = c.self.inside in
    let open_write = subst (λ h. IsTrue (begins_open c.args.by (versions_of h c.args.rid))) (sym (ap (λ (h : Recorded). h.records) c.self.view_is)) c.requires in
    let done = undoes b.index b.chains c.undo.new.self b.space.places c.args.rid c.in-Some.place c.args.by c.place.ensures.index c.self.invariant.whole (sym c.place.ensures.place ∙
    c.in-Some.is) open_write c.undo.ensures.here c.undo.ensures.others in
    subst (λ h. OthersStay h (records_of c.drop_bare.new.index c.undo.new.self c.drop_bare.new.space.places) c.args.rid) (ap (λ (h : Recorded). h.records) c.self.view_is)
    (others_then _ _ _ c.args.rid done.others c.drop_bare.ensures.others)

pub returns-clause-left : goal.returns-clause-left
returns-clause-left c =
    let b = c.self.inside in
    let open_write = subst (λ h. IsTrue (begins_open c.args.by (versions_of h c.args.rid))) (sym (ap (λ (h : Recorded). h.records) c.self.view_is)) c.requires in
    let done = undoes b.index b.chains c.undo.new.self b.space.places c.args.rid c.in-Some.place c.args.by c.place.ensures.index c.self.invariant.whole (sym c.place.ensures.place ∙
    c.in-Some.is) open_write c.undo.ensures.here c.undo.ensures.others in
    ap (λ n. n + 1) c.drop_bare.ensures.left ∙ done.left ∙ ap left (ap (λ (h : Recorded). h.records) c.self.view_is)

pub leave_bare-requires : goal.leave_bare-requires
leave_bare-requires c =
    let b = c.self.inside in
    let open_write = subst (λ h. IsTrue (begins_open c.args.by (versions_of h c.args.rid))) (sym (ap (λ (h : Recorded). h.records) c.self.view_is)) c.requires in
    let p = c.in-Some.place in
    let some = open_some c.args.by (list_at b.chains p) (open_at c.args.by b.index b.chains b.space.places c.args.rid p (sym c.place.ensures.place ∙ c.in-Some.is) open_write).begins in
    stands b.index b.chains b.longs c.args.rid p c.self.invariant.listed (sym c.place.ensures.place ∙ c.in-Some.is) some
