use Rattle.std.proofs.Common.{◌<◌, length, Ok, sym, ap, ◌∙◌, subst, not, refl}
use Rattle.std.proofs.lemmas.Result.{err_from_is_err_and}
use Rattle.hg_chains.specs.Places.{list_at}
use Rattle.hg_space.specs.Places.{image_at}
use Rattle.hg_bucket.specs.BucketModel.{versions_of, begins_open}
use Rattle.hg_bucket.specs.Conflicts.{conflict}
use Rattle.hg_bucket.specs.Parts.{records_of, longs_of, AreListed}
use Rattle.hg_bucket.specs.Writes.{Writes}
use Rattle.hg_bucket.proofs.Reading.{versions_there, no_versions}
use Rattle.hg_bucket.proofs.Changing.{open_chain}
use Rattle.hg_bucket.proofs.Installing.{extends}
use Rattle.hg_bucket.proofs.Refusing.{not_own}
use Rattle.hg_bucket.proofs.Putting.{turned_down, starved, stores, begins}
use Rattle.hg_bucket.specs.Parts.{Recorded}
use Rattle.hg_bucket.proofs.Naming.{records_stay, stays_whole}
use Rattle.hg_bucket.proofs.Listing.{on_bare, chains_alike, may_enter, installed_some}
use Rattle.hg_bucket.proofs.Listed.{recorded}
use Rattle.hg_bucket.proofs.records.Records.write.Goals as goal

pub begin-requires : goal.begin-requires
begin-requires c =
    let b = c.self.inside in
    let bare = ap (λ h. versions_of h c.args.rid) (sym (ap (λ (h : Recorded). h.records) c.self.view_is)) ∙
    no_versions b.index b.chains b.space.places c.args.rid (sym c.place.ensures.place ∙ c.in_default.is) in
    bare

pub returns-in_err-begin-clause-writes : goal.returns-in_err-begin-clause-writes
returns-in_err-begin-clause-writes c =
    let b = c.self.inside in
    let bare = ap (λ h. versions_of h c.args.rid) (sym (ap (λ (h : Recorded). h.records) c.self.view_is)) ∙
    no_versions b.index b.chains b.space.places c.args.rid (sym c.place.ensures.place ∙ c.in_default.is) in
    let e = err_from_is_err_and c.from_residual.result c.from_residual.ensures.1 in
    rw (e.1, e.2) (starved c.args.by c.args.image c.args.snapshot c.args.mark c.args.self.now.records c.begin.new.self.records c.args.rid
    (ap (conflict c.args.by c.args.snapshot c.args.mark) bare) (ap (begins_open c.args.by) bare) (ap (λ (h : Recorded). h.records) c.in_err-begin.ensures.refused))

pub returns-in_default-clause-writes : goal.returns-in_default-clause-writes
returns-in_default-clause-writes c =
    let b = c.self.inside in
    let bare = ap (λ h. versions_of h c.args.rid) (sym (ap (λ (h : Recorded). h.records) c.self.view_is)) ∙
    no_versions b.index b.chains b.space.places c.args.rid (sym c.place.ensures.place ∙ c.in_default.is) in
    begins c.args.by c.args.image c.args.snapshot c.args.mark c.args.self.now.records c.begin.new.self.records c.args.rid bare c.in_ok-begin.ensures.stored c.begin.ensures.others
    c.in_ok-begin.ensures.left

pub returns-in-Some-refusal-clause-writes : goal.returns-in-Some-refusal-clause-writes
returns-in-Some-refusal-clause-writes c =
    let b = c.self.inside in
    let r = c.args.rid in
    let p = c.in-Some.place in
    let has = sym c.place.ensures.place ∙ c.in-Some.is in
    let there = versions_there b.index b.chains b.space.places r p has in
    let now = ap (λ h. versions_of h r) (sym (ap (λ (h : Recorded). h.records) c.self.view_is)) ∙ there in
    turned_down c.args.by c.args.image c.args.snapshot c.args.mark c.args.self.now.records c.args.self.now.records r c.in-Some-refusal.refusal
    (ap (conflict c.args.by c.args.snapshot c.args.mark) now ∙ sym c.conflict-refusal.ensures.refusal ∙ c.in-Some-refusal.is) refl

pub returns-in_err-add-clause-writes : goal.returns-in_err-add-clause-writes
returns-in_err-add-clause-writes c =
    let b = c.self.inside in
    let r = c.args.rid in
    let p = c.in-Some.place in
    let has = sym c.place.ensures.place ∙ c.in-Some.is in
    let there = versions_there b.index b.chains b.space.places r p has in
    let now = ap (λ h. versions_of h r) (sym (ap (λ (h : Recorded). h.records) c.self.view_is)) ∙ there in
    let e = err_from_is_err_and c.from_residual-in_err-add.result c.from_residual-in_err-add.ensures.1 in
    let free = ap (conflict c.args.by c.args.snapshot c.args.mark) now ∙ sym c.conflict-refusal.ensures.refusal ∙ c.in_default-refusal.is in
    let closed = not_own c.args.by (versions_of c.args.self.now.records r) c.add.result c.in_err-add.was
    (λ own. c.add.ensures.replaced (sym (ap (begins_open c.args.by) now ∙ open_chain c.args.by (list_at b.chains p) (image_at b.space.places p)) ∙ own)) in
    rw (e.1, e.2) (starved c.args.by c.args.image c.args.snapshot c.args.mark c.args.self.now.records (records_of b.index c.add.new.chains b.space.places) r free closed
    (records_stay b.index b.chains c.add.new.chains b.space.places b.space.places c.in_err-add.ensures.refused.0 (λ q. refl) ∙ (ap (λ (h : Recorded). h.records) c.self.view_is)))

pub invariant_of-self-2 : goal.invariant_of-self-2
invariant_of-self-2 c =
    let b = c.self.inside in
    let r = c.args.rid in
    let p = c.in-Some.place in
    let has = sym c.place.ensures.place ∙ c.in-Some.is in
    let there = versions_there b.index b.chains b.space.places r p has in
    let now = ap (λ h. versions_of h r) (sym (ap (λ (h : Recorded). h.records) c.self.view_is)) ∙ there in
    let done = extends b.index b.chains c.add.new.chains b.space.places r p c.args.by c.args.image c.place.ensures.index c.self.invariant.whole has c.in_ok-add.ensures.here c.add.ensures.others in
    record {
      whole = done.whole;
      listed = may_enter b.index b.chains c.add.new.chains b.longs c.add.new.longs r p c.place.ensures.index c.self.invariant.listed has
          (subst (λ vs. 0 < length vs) (sym c.in_ok-add.ensures.here) (installed_some c.args.by c.args.image (list_at b.chains p))) c.add.ensures.others c.in_ok-add.ensures.entered
          c.in_ok-add.ensures.listed;
    }

pub returns-clause-writes : goal.returns-clause-writes
returns-clause-writes c =
    let b = c.self.inside in
    let r = c.args.rid in
    let p = c.in-Some.place in
    let has = sym c.place.ensures.place ∙ c.in-Some.is in
    let there = versions_there b.index b.chains b.space.places r p has in
    let now = ap (λ h. versions_of h r) (sym (ap (λ (h : Recorded). h.records) c.self.view_is)) ∙ there in
    let done = extends b.index b.chains c.add.new.chains b.space.places r p c.args.by c.args.image c.place.ensures.index c.self.invariant.whole has c.in_ok-add.ensures.here c.add.ensures.others in
    let free = ap (conflict c.args.by c.args.snapshot c.args.mark) there ∙ sym c.conflict-refusal.ensures.refusal ∙ c.in_default-refusal.is in
    let added = c.in_ok-add.ensures.added ∙ sym (ap (λ vs. not (begins_open c.args.by vs)) there ∙ ap not (open_chain c.args.by (list_at b.chains p) (image_at b.space.places p))) in
    subst (λ h. Writes c.args.by c.args.image c.args.snapshot c.args.mark h (records_of b.index c.add.new.chains b.space.places) r (Ok c.in_ok-add.field-0))
    (ap (λ (h : Recorded). h.records) c.self.view_is) (stores c.args.by c.args.image c.args.snapshot c.args.mark b.index b.index b.chains c.add.new.chains b.space.places
    b.space.places r c.in_ok-add.field-0 done free added)

pub add-requires-clause-not_listed : goal.add-requires-clause-not_listed
add-requires-clause-not_listed c =
    let b = c.self.inside in
    on_bare b.index b.chains b.longs c.in-Some.place c.self.invariant.listed

pub invariant_of-self : goal.invariant_of-self
invariant_of-self c =
    let b = c.self.inside in
    record {
      whole = stays_whole b.index b.chains c.add.new.chains b.space.places b.space.places c.self.invariant.whole c.in_err-add.ensures.refused.0 (λ q. refl);
      listed = subst (AreListed b.index c.add.new.chains) (sym c.in_err-add.ensures.refused.1)
          (chains_alike b.index b.chains c.add.new.chains b.longs c.self.invariant.listed c.in_err-add.ensures.refused.0);
    }

pub returns-in_err-add-clause-refused : goal.returns-in_err-add-clause-refused
returns-in_err-add-clause-refused c =
    let b = c.self.inside in
    let e = err_from_is_err_and c.from_residual-in_err-add.result c.from_residual-in_err-add.ensures.1 in
    rw (e.1) (recorded (records_stay b.index b.chains c.add.new.chains b.space.places b.space.places c.in_err-add.ensures.refused.0 (λ q. refl))
    (ap longs_of c.in_err-add.ensures.refused.1) ∙ c.self.view_is)
