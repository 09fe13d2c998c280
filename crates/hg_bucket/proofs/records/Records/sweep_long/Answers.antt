use Rattle.std.proofs.Common.{not, ◌≡◌, ◌+◌, ◌≤◌, length, sym, ap, ◌∙◌, subst, slice_get, arith}
use Rattle.std.specs.Prelude.{is_some, ◌^◌}
use Rattle.hg_space.specs.Places.{image_at}
use Rattle.hg_bucket.specs.BucketModel.{keys_in, versions_of}
use Rattle.hg_bucket.specs.Sweeping.{swept, IsClean}
use Rattle.hg_bucket.specs.Parts.{records_of, Recorded}
use Rattle.hg_bucket.proofs.Settling.{lone}
use Rattle.hg_bucket.proofs.Bare.{mapped_some}
use Rattle.hg_bucket.proofs.Sweeps.{lone_swept, lone_clean}
use Rattle.hg_bucket.proofs.Listed.{listed_within}
use Rattle.hg_bucket.proofs.LongSweeps.{found_at, long_keeps, long_drops, long_paid}
use Rattle.hg_bucket.proofs.records.Records.sweep_long.Goals as goal

pub invariant_of-self : goal.invariant_of-self
invariant_of-self g c =
    let b = c.self.inside in
    let r = c.args.rid in
    let p = c.place-place.result in
    let found = found_at _ b.index b.chains b.space.places b.longs r p c.args.at c.self.invariant.listed c.self.view_is c.requires.stands c.place-place.ensures in
    let s = c.sweep-swept.result in
    let t = c.sweep-swept.ensures in
    (long_keeps c.args.horizon c.args.snapshots.now _ b.index b.chains c.sweep-swept.new.self b.space.places b.longs r p c.number-base.result s.base_gone s.gone c.stands_once.ensures
    c.self.invariant c.self.view_is found c.number-base.ensures
    (record { left = t.left; others = t.others; base_gone = t.base_gone; gone = t.gone; clean = t.clean; base_clean = t.base_clean }) c.if-not-swept.true).kept

pub returns-then-not-swept-clause-here : goal.returns-then-not-swept-clause-here
returns-then-not-swept-clause-here g c =
    let b = c.self.inside in
    let r = c.args.rid in
    let p = c.place-place.result in
    let found = found_at _ b.index b.chains b.space.places b.longs r p c.args.at c.self.invariant.listed c.self.view_is c.requires.stands c.place-place.ensures in
    let s = c.sweep-swept.result in
    let t = c.sweep-swept.ensures in
    (long_keeps c.args.horizon c.args.snapshots.now _ b.index b.chains c.sweep-swept.new.self b.space.places b.longs r p c.number-base.result s.base_gone s.gone c.stands_once.ensures
    c.self.invariant c.self.view_is found c.number-base.ensures
    (record { left = t.left; others = t.others; base_gone = t.base_gone; gone = t.gone; clean = t.clean; base_clean = t.base_clean }) c.if-not-swept.true).here

pub returns-then-not-swept-clause-clean : goal.returns-then-not-swept-clause-clean
returns-then-not-swept-clause-clean g c =
    let b = c.self.inside in
    let r = c.args.rid in
    let p = c.place-place.result in
    let found = found_at _ b.index b.chains b.space.places b.longs r p c.args.at c.self.invariant.listed c.self.view_is c.requires.stands c.place-place.ensures in
    let s = c.sweep-swept.result in
    let t = c.sweep-swept.ensures in
    (long_keeps c.args.horizon c.args.snapshots.now _ b.index b.chains c.sweep-swept.new.self b.space.places b.longs r p c.number-base.result s.base_gone s.gone c.stands_once.ensures
    c.self.invariant c.self.view_is found c.number-base.ensures
    (record { left = t.left; others = t.others; base_gone = t.base_gone; gone = t.gone; clean = t.clean; base_clean = t.base_clean }) c.if-not-swept.true).clean

pub returns-then-not-swept-clause-others : goal.returns-then-not-swept-clause-others
returns-then-not-swept-clause-others g c =
    let b = c.self.inside in
    let r = c.args.rid in
    let p = c.place-place.result in
    let found = found_at _ b.index b.chains b.space.places b.longs r p c.args.at c.self.invariant.listed c.self.view_is c.requires.stands c.place-place.ensures in
    let s = c.sweep-swept.result in
    let t = c.sweep-swept.ensures in
    (long_keeps c.args.horizon c.args.snapshots.now _ b.index b.chains c.sweep-swept.new.self b.space.places b.longs r p c.number-base.result s.base_gone s.gone c.stands_once.ensures
    c.self.invariant c.self.view_is found c.number-base.ensures
    (record { left = t.left; others = t.others; base_gone = t.base_gone; gone = t.gone; clean = t.clean; base_clean = t.base_clean }) c.if-not-swept.true).others

pub returns-then-not-swept-clause-gone : goal.returns-then-not-swept-clause-gone
returns-then-not-swept-clause-gone g c =
    let b = c.self.inside in
    let r = c.args.rid in
    let p = c.place-place.result in
    let found = found_at _ b.index b.chains b.space.places b.longs r p c.args.at c.self.invariant.listed c.self.view_is c.requires.stands c.place-place.ensures in
    let s = c.sweep-swept.result in
    let t = c.sweep-swept.ensures in
    (long_keeps c.args.horizon c.args.snapshots.now _ b.index b.chains c.sweep-swept.new.self b.space.places b.longs r p c.number-base.result s.base_gone s.gone c.stands_once.ensures
    c.self.invariant c.self.view_is found c.number-base.ensures
    (record { left = t.left; others = t.others; base_gone = t.base_gone; gone = t.gone; clean = t.clean; base_clean = t.base_clean }) c.if-not-swept.true).lost

pub returns-then-not-swept-clause-left : goal.returns-then-not-swept-clause-left
returns-then-not-swept-clause-left g c =
    let b = c.self.inside in
    let r = c.args.rid in
    let p = c.place-place.result in
    let found = found_at _ b.index b.chains b.space.places b.longs r p c.args.at c.self.invariant.listed c.self.view_is c.requires.stands c.place-place.ensures in
    let s = c.sweep-swept.result in
    let t = c.sweep-swept.ensures in
    (long_keeps c.args.horizon c.args.snapshots.now _ b.index b.chains c.sweep-swept.new.self b.space.places b.longs r p c.number-base.result s.base_gone s.gone c.stands_once.ensures
    c.self.invariant c.self.view_is found c.number-base.ensures
    (record { left = t.left; others = t.others; base_gone = t.base_gone; gone = t.gone; clean = t.clean; base_clean = t.base_clean }) c.if-not-swept.true).left

pub overflow_add-result : goal.overflow_add-result
overflow_add-result g c =
    let b = c.self.inside in
    let r = c.args.rid in
    let p = c.place-place.result in
    let found = found_at _ b.index b.chains b.space.places b.longs r p c.args.at c.self.invariant.listed c.self.view_is c.requires.stands c.place-place.ensures in
    let s = c.sweep-swept.result in
    let t = c.sweep-swept.ensures in
    let few =
    (long_drops c.args.horizon c.args.snapshots.now _ b.index b.chains c.sweep-swept.new.self b.space.places c.set_image.new.self.places b.longs r p c.number-base.result s.base_gone s.gone
    c.stands_once.ensures c.self.invariant c.self.view_is found c.number-base.ensures
    (record { left = t.left; others = t.others; base_gone = t.base_gone; gone = t.gone; clean = t.clean; base_clean = t.base_clean }) c.if-not-swept.false c.set_image.ensures.set).few in
    omega (arith, c.requires.few, few)

pub invariant_of-self-2 : goal.invariant_of-self-2
invariant_of-self-2 g c =
    let b = c.self.inside in
    let r = c.args.rid in
    let p = c.place-place.result in
    let found = found_at _ b.index b.chains b.space.places b.longs r p c.args.at c.self.invariant.listed c.self.view_is c.requires.stands c.place-place.ensures in
    let s = c.sweep-swept.result in
    let t = c.sweep-swept.ensures in
    (long_drops c.args.horizon c.args.snapshots.now _ b.index b.chains c.sweep-swept.new.self b.space.places c.set_image.new.self.places b.longs r p c.number-base.result s.base_gone s.gone
    c.stands_once.ensures c.self.invariant c.self.view_is found c.number-base.ensures
    (record { left = t.left; others = t.others; base_gone = t.base_gone; gone = t.gone; clean = t.clean; base_clean = t.base_clean }) c.if-not-swept.false c.set_image.ensures.set).kept

pub returns-clause-here : goal.returns-clause-here
returns-clause-here g c =
    let b = c.self.inside in
    let r = c.args.rid in
    let p = c.place-place.result in
    let found = found_at _ b.index b.chains b.space.places b.longs r p c.args.at c.self.invariant.listed c.self.view_is c.requires.stands c.place-place.ensures in
    let s = c.sweep-swept.result in
    let t = c.sweep-swept.ensures in
    (long_drops c.args.horizon c.args.snapshots.now _ b.index b.chains c.sweep-swept.new.self b.space.places c.set_image.new.self.places b.longs r p c.number-base.result s.base_gone s.gone
    c.stands_once.ensures c.self.invariant c.self.view_is found c.number-base.ensures
    (record { left = t.left; others = t.others; base_gone = t.base_gone; gone = t.gone; clean = t.clean; base_clean = t.base_clean }) c.if-not-swept.false c.set_image.ensures.set).here

pub returns-clause-clean : goal.returns-clause-clean
returns-clause-clean g c =
    let b = c.self.inside in
    let r = c.args.rid in
    let p = c.place-place.result in
    let found = found_at _ b.index b.chains b.space.places b.longs r p c.args.at c.self.invariant.listed c.self.view_is c.requires.stands c.place-place.ensures in
    let s = c.sweep-swept.result in
    let t = c.sweep-swept.ensures in
    (long_drops c.args.horizon c.args.snapshots.now _ b.index b.chains c.sweep-swept.new.self b.space.places c.set_image.new.self.places b.longs r p c.number-base.result s.base_gone s.gone
    c.stands_once.ensures c.self.invariant c.self.view_is found c.number-base.ensures
    (record { left = t.left; others = t.others; base_gone = t.base_gone; gone = t.gone; clean = t.clean; base_clean = t.base_clean }) c.if-not-swept.false c.set_image.ensures.set).clean

pub returns-clause-others : goal.returns-clause-others
returns-clause-others g c =
    let b = c.self.inside in
    let r = c.args.rid in
    let p = c.place-place.result in
    let found = found_at _ b.index b.chains b.space.places b.longs r p c.args.at c.self.invariant.listed c.self.view_is c.requires.stands c.place-place.ensures in
    let s = c.sweep-swept.result in
    let t = c.sweep-swept.ensures in
    (long_drops c.args.horizon c.args.snapshots.now _ b.index b.chains c.sweep-swept.new.self b.space.places c.set_image.new.self.places b.longs r p c.number-base.result s.base_gone s.gone
    c.stands_once.ensures c.self.invariant c.self.view_is found c.number-base.ensures
    (record { left = t.left; others = t.others; base_gone = t.base_gone; gone = t.gone; clean = t.clean; base_clean = t.base_clean }) c.if-not-swept.false c.set_image.ensures.set).others

pub returns-clause-gone : goal.returns-clause-gone
returns-clause-gone g c =
    let b = c.self.inside in
    let r = c.args.rid in
    let p = c.place-place.result in
    let found = found_at _ b.index b.chains b.space.places b.longs r p c.args.at c.self.invariant.listed c.self.view_is c.requires.stands c.place-place.ensures in
    let s = c.sweep-swept.result in
    let t = c.sweep-swept.ensures in
    (long_drops c.args.horizon c.args.snapshots.now _ b.index b.chains c.sweep-swept.new.self b.space.places c.set_image.new.self.places b.longs r p c.number-base.result s.base_gone s.gone
    c.stands_once.ensures c.self.invariant c.self.view_is found c.number-base.ensures
    (record { left = t.left; others = t.others; base_gone = t.base_gone; gone = t.gone; clean = t.clean; base_clean = t.base_clean }) c.if-not-swept.false c.set_image.ensures.set).lost

pub returns-clause-left : goal.returns-clause-left
returns-clause-left g c =
    let b = c.self.inside in
    let r = c.args.rid in
    let p = c.place-place.result in
    let found = found_at _ b.index b.chains b.space.places b.longs r p c.args.at c.self.invariant.listed c.self.view_is c.requires.stands c.place-place.ensures in
    let s = c.sweep-swept.result in
    let t = c.sweep-swept.ensures in
    (long_drops c.args.horizon c.args.snapshots.now _ b.index b.chains c.sweep-swept.new.self b.space.places c.set_image.new.self.places b.longs r p c.number-base.result s.base_gone s.gone
    c.stands_once.ensures c.self.invariant c.self.view_is found c.number-base.ensures
    (record { left = t.left; others = t.others; base_gone = t.base_gone; gone = t.gone; clean = t.clean; base_clean = t.base_clean }) c.if-not-swept.false c.set_image.ensures.set).left

pub returns-then-not-swept-clause-cost : goal.returns-then-not-swept-clause-cost
returns-then-not-swept-clause-cost g c =
    let b = c.self.inside in
    let r = c.args.rid in
    let p = c.place-place.result in
    let found = found_at _ b.index b.chains b.space.places b.longs r p c.args.at c.self.invariant.listed c.self.view_is c.requires.stands c.place-place.ensures in
    long_paid (length c.args.snapshots.now) c.args.steps.now c.sweep-swept.new.steps _ b.index b.chains b.space.places b.longs r p c.number-base.result c.self.view_is found
    c.number-base.ensures c.sweep-swept.ensures.cost

pub returns-clause-cost : goal.returns-clause-cost
returns-clause-cost g c =
    let b = c.self.inside in
    let r = c.args.rid in
    let p = c.place-place.result in
    let found = found_at _ b.index b.chains b.space.places b.longs r p c.args.at c.self.invariant.listed c.self.view_is c.requires.stands c.place-place.ensures in
    long_paid (length c.args.snapshots.now) c.args.steps.now c.sweep-swept.new.steps _ b.index b.chains b.space.places b.longs r p c.number-base.result c.self.view_is found
    c.number-base.ensures c.sweep-swept.ensures.cost

pub place-place-requires : goal.place-place-requires
place-place-requires g c = listed_within c.self.inside.longs c.args.rid c.args.at (ap (λ (h : Recorded). slice_get (keys_in h.long c.args.rid.table) c.args.at) c.self.view_is ∙ c.requires.stands)

pub number-base-requires : goal.number-base-requires
number-base-requires g c =
    let b = c.self.inside in
    let r = c.args.rid in
    let p = c.place-place.result in
    let found = found_at _ b.index b.chains b.space.places b.longs r p c.args.at c.self.invariant.listed c.self.view_is c.requires.stands c.place-place.ensures in
    c.self.invariant.whole.taken r p found.0

pub returns-then-is_none-clause-here : goal.returns-then-is_none-clause-here
returns-then-is_none-clause-here g c =
    let b = c.self.inside in
    let r = c.args.rid in
    let p = c.place-place.result in
    let found = found_at _ b.index b.chains b.space.places b.longs r p c.args.at c.self.invariant.listed c.self.view_is c.requires.stands c.place-place.ensures in
    let none = sym (mapped_some (λ oldest. oldest.0) (image_at b.space.places p)) ∙ ap is_some (sym c.number-base.ensures) ∙ c.is_none.ensures ∙ ap not c.if-is_none.true in
    let one = lone b.index b.chains b.space.places r p found.0 (sym c.count.ensures ∙ c.if-count-eq1.true) none in
    subst (λ h. versions_of h r ≡ swept c.args.horizon c.args.snapshots.now (versions_of h r)) (ap (λ (h : Recorded). h.records) c.self.view_is)
    (lone_swept c.args.horizon c.args.snapshots.now (versions_of (records_of b.index b.chains b.space.places) r) one)

pub returns-then-is_none-clause-clean : goal.returns-then-is_none-clause-clean
returns-then-is_none-clause-clean g c =
    let b = c.self.inside in
    let r = c.args.rid in
    let p = c.place-place.result in
    let found = found_at _ b.index b.chains b.space.places b.longs r p c.args.at c.self.invariant.listed c.self.view_is c.requires.stands c.place-place.ensures in
    let none = sym (mapped_some (λ oldest. oldest.0) (image_at b.space.places p)) ∙ ap is_some (sym c.number-base.ensures) ∙ c.is_none.ensures ∙ ap not c.if-is_none.true in
    let one = lone b.index b.chains b.space.places r p found.0 (sym c.count.ensures ∙ c.if-count-eq1.true) none in
    subst (λ h. IsClean c.args.horizon c.args.snapshots.now (versions_of h r)) (ap (λ (h : Recorded). h.records) c.self.view_is)
    (lone_clean c.args.horizon c.args.snapshots.now (versions_of (records_of b.index b.chains b.space.places) r) one)
