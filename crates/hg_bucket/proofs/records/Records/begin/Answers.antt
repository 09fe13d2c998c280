use Rattle.std.proofs.Common.{◌≡◌, ◌+◌, None, sym, ap, ◌∙◌, subst}
use Rattle.hg_chains.specs.Places.{list_at}
use Rattle.hg_chains.specs.Versions as chain
use Rattle.hg_space.specs.Index.{place_of}
use Rattle.hg_bucket.specs.BucketModel.{versions_of, OthersStay, left}
use Rattle.hg_bucket.specs.Parts.{records_of, longs_of, AreKept, AreListed, ListsAlike}
use Rattle.hg_bucket.proofs.Seating.{given_taken, given_back}
use Rattle.hg_bucket.proofs.Naming.{Comes, bare_free, taken_back, come_whole, come_here, come_others, come_left, records_stay, stays_whole}
use Rattle.hg_bucket.proofs.Putting.{unplaced_of}
use Rattle.hg_bucket.specs.Parts.{Recorded}
use Rattle.hg_bucket.proofs.Listing.{on_bare, chains_alike, lists_alike, entered_stands, has_entered, come_listed}
use Rattle.hg_bucket.proofs.Leaving.{left_again}
use Rattle.hg_bucket.proofs.Listed.{recorded, seen_alike}
use Rattle.hg_bucket.proofs.records.Records.begin.Goals as goal

pub add-requires-clause-own : goal.add-requires-clause-own
add-requires-clause-own c =
    let b = c.self.inside in
    let p = c.in_ok-place.place in
    let given = c.in_ok-place.ensures.given in
    subst (chain.NoOther c.args.by) (sym (bare_free b.index b.chains b.space.places p c.self.invariant.whole given.was)) tt

pub add-requires-clause-not_listed : goal.add-requires-clause-not_listed
add-requires-clause-not_listed c =
    let b = c.self.inside in
    on_bare b.index b.chains b.longs c.in_ok-place.place c.self.invariant.listed

pub leave-requires : goal.leave-requires
leave-requires c =
    let b = c.self.inside in
    let p = c.in_ok-place.place in
    let given = c.in_ok-place.ensures.given in
    let bare = bare_free b.index b.chains b.space.places p c.self.invariant.whole given.was in
    entered_stands b.longs c.add.new.longs c.args.rid p (has_entered b.longs c.add.new.longs c.args.rid p (list_at b.chains p) bare c.in_default.ensures.entered)

pub give_place-requires : goal.give_place-requires
give_place-requires c =
    let b = c.self.inside in
    let p = c.in_ok-place.place in
    let given = c.in_ok-place.ensures.given in
    given_taken b.space.places c.take.new.space.places p given

pub invariant_of-self-in-Err : goal.invariant_of-self-in-Err
invariant_of-self-in-Err c =
    let b = c.self.inside in
    let p = c.in_ok-place.place in
    let given = c.in_ok-place.ensures.given in
    let lists : ListsAlike b.chains c.add.new.chains = c.in-Err.ensures.refused.0 in
    let seats = given_back b.space.places c.take.new.space.places c.give_place.new.self.places p given c.give_place.ensures.freed in
    record {
      whole = stays_whole b.index b.chains c.add.new.chains b.space.places c.give_place.new.self.places c.self.invariant.whole lists seats;
      listed = subst (AreListed b.index c.add.new.chains) (sym c.in-Err.ensures.refused.1) (chains_alike b.index b.chains c.add.new.chains b.longs c.self.invariant.listed lists);
    }

pub returns-in-Err-clause-others : goal.returns-in-Err-clause-others
returns-in-Err-clause-others c =
    let b = c.self.inside in
    let p = c.in_ok-place.place in
    let given = c.in_ok-place.ensures.given in
    let lists : ListsAlike b.chains c.add.new.chains = c.in-Err.ensures.refused.0 in
    let seats = given_back b.space.places c.take.new.space.places c.give_place.new.self.places p given c.give_place.ensures.freed in
    let same = records_stay b.index b.chains c.add.new.chains b.space.places c.give_place.new.self.places lists seats ∙ (ap (λ (h : Recorded). h.records) c.self.view_is) in
    λ q apart. ap (λ h. versions_of h q) same

pub returns-in-Err-clause-refused : goal.returns-in-Err-clause-refused
returns-in-Err-clause-refused c =
    let b = c.self.inside in
    let p = c.in_ok-place.place in
    let given = c.in_ok-place.ensures.given in
    let lists : ListsAlike b.chains c.add.new.chains = c.in-Err.ensures.refused.0 in
    let seats = given_back b.space.places c.take.new.space.places c.give_place.new.self.places p given c.give_place.ensures.freed in
    let same = records_stay b.index b.chains c.add.new.chains b.space.places c.give_place.new.self.places lists seats in
    recorded same (ap longs_of c.in-Err.ensures.refused.1) ∙ c.self.view_is

pub insert-requires-clause-new_record : goal.insert-requires-clause-new_record
insert-requires-clause-new_record c =
    let b = c.self.inside in
    let p = c.in_ok-place.place in
    let given = c.in_ok-place.ensures.given in
    let none : place_of b.index c.args.rid ≡ None = unplaced_of b.index b.chains b.space.places c.args.rid c.self.invariant.whole
    (ap (λ h. versions_of h c.args.rid) (ap (λ (h : Recorded). h.records) c.self.view_is) ∙ c.requires) in
    none

pub invariant_of-self-in-Err-insert : goal.invariant_of-self-in-Err-insert
invariant_of-self-in-Err-insert c =
    let b = c.self.inside in
    let p = c.in_ok-place.place in
    let given = c.in_ok-place.ensures.given in
    let bare = bare_free b.index b.chains b.space.places p c.self.invariant.whole given.was in
    let here = c.in_default.ensures.here ∙ ap (chain.installed c.args.by c.args.image) bare in
    let lists = taken_back b.chains c.add.new.chains c.undo.new.self p (chain.open_write c.args.by c.args.image) bare here c.add.ensures.others c.undo.ensures.here c.undo.ensures.others in
    let seats = given_back b.space.places c.take.new.space.places c.give_place-in-Err-insert.new.self.places p given c.give_place-in-Err-insert.ensures.freed in
    let enters = has_entered b.longs c.add.new.longs c.args.rid p (list_at b.chains p) bare c.in_default.ensures.entered in
    let again = left_again b.longs c.add.new.longs c.leave.new.self c.args.rid p enters c.leave.ensures.moved c.leave.ensures.others in
    subst (λ es. AreKept es c.undo.new.self c.give_place-in-Err-insert.new.self.places c.leave.new.self) (sym c.in-Err-insert.ensures.refused) (record {
      whole = stays_whole b.index b.chains c.undo.new.self b.space.places c.give_place-in-Err-insert.new.self.places c.self.invariant.whole lists seats;
      listed = chains_alike b.index b.chains c.undo.new.self c.leave.new.self (lists_alike b.index b.chains b.longs c.leave.new.self c.self.invariant.listed again) lists;
    })

pub returns-in-Err-insert-clause-others : goal.returns-in-Err-insert-clause-others
returns-in-Err-insert-clause-others c =
    let b = c.self.inside in
    let p = c.in_ok-place.place in
    let given = c.in_ok-place.ensures.given in
    let bare = bare_free b.index b.chains b.space.places p c.self.invariant.whole given.was in
    let here = c.in_default.ensures.here ∙ ap (chain.installed c.args.by c.args.image) bare in
    let lists = taken_back b.chains c.add.new.chains c.undo.new.self p (chain.open_write c.args.by c.args.image) bare here c.add.ensures.others c.undo.ensures.here c.undo.ensures.others in
    let seats = given_back b.space.places c.take.new.space.places c.give_place-in-Err-insert.new.self.places p given c.give_place-in-Err-insert.ensures.freed in
    let same = ap (λ es. records_of es c.undo.new.self c.give_place-in-Err-insert.new.self.places) c.in-Err-insert.ensures.refused ∙
    records_stay b.index b.chains c.undo.new.self b.space.places c.give_place-in-Err-insert.new.self.places lists seats ∙ (ap (λ (h : Recorded). h.records) c.self.view_is) in
    λ q apart. ap (λ h. versions_of h q) same

pub returns-in-Err-insert-clause-refused : goal.returns-in-Err-insert-clause-refused
returns-in-Err-insert-clause-refused c =
    let b = c.self.inside in
    let p = c.in_ok-place.place in
    let given = c.in_ok-place.ensures.given in
    let bare = bare_free b.index b.chains b.space.places p c.self.invariant.whole given.was in
    let here = c.in_default.ensures.here ∙ ap (chain.installed c.args.by c.args.image) bare in
    let lists = taken_back b.chains c.add.new.chains c.undo.new.self p (chain.open_write c.args.by c.args.image) bare here c.add.ensures.others c.undo.ensures.here c.undo.ensures.others in
    let seats = given_back b.space.places c.take.new.space.places c.give_place-in-Err-insert.new.self.places p given c.give_place-in-Err-insert.ensures.freed in
    let same = ap (λ es. records_of es c.undo.new.self c.give_place-in-Err-insert.new.self.places) c.in-Err-insert.ensures.refused ∙
    records_stay b.index b.chains c.undo.new.self b.space.places c.give_place-in-Err-insert.new.self.places lists seats in
    let enters = has_entered b.longs c.add.new.longs c.args.rid p (list_at b.chains p) bare c.in_default.ensures.entered in
    let again = left_again b.longs c.add.new.longs c.leave.new.self c.args.rid p enters c.leave.ensures.moved c.leave.ensures.others in
    recorded same (seen_alike b.longs c.leave.new.self again) ∙ c.self.view_is

pub invariant_of-self-in_default-insert : goal.invariant_of-self-in_default-insert
invariant_of-self-in_default-insert c =
    let b = c.self.inside in
    let p = c.in_ok-place.place in
    let given = c.in_ok-place.ensures.given in
    let none : place_of b.index c.args.rid ≡ None = unplaced_of b.index b.chains b.space.places c.args.rid c.self.invariant.whole
    (ap (λ h. versions_of h c.args.rid) (ap (λ (h : Recorded). h.records) c.self.view_is) ∙ c.requires) in
    let bare = bare_free b.index b.chains b.space.places p c.self.invariant.whole given.was in
    let w = chain.open_write c.args.by c.args.image in
    let comes : Comes b.index c.insert.new.self b.chains c.add.new.chains b.space.places c.take.new.space.places c.args.rid p w = record {
      index = c.stands_once.ensures;
      old = c.self.invariant.whole;
      new = none;
      list = c.in_default-insert.ensures.list;
      here = c.in_default-insert.ensures.here;
      others = c.insert.ensures.others;
      given = given;
      fits = c.in_ok-place.ensures.fits;
      chain = c.in_default.ensures.here ∙ ap (chain.installed c.args.by c.args.image) bare;
      lists = c.add.ensures.others;
    } in
    record {
      whole = come_whole b.index c.insert.new.self b.chains c.add.new.chains b.space.places c.take.new.space.places c.args.rid p w comes;
      listed = come_listed b.index c.insert.new.self b.chains c.add.new.chains b.space.places c.take.new.space.places b.longs c.add.new.longs c.args.rid p w c.self.invariant.listed
          comes (has_entered b.longs c.add.new.longs c.args.rid p (list_at b.chains p) bare c.in_default.ensures.entered);
    }

pub returns-clause-stored : goal.returns-clause-stored
returns-clause-stored c =
    let b = c.self.inside in
    let p = c.in_ok-place.place in
    let given = c.in_ok-place.ensures.given in
    let none : place_of b.index c.args.rid ≡ None = unplaced_of b.index b.chains b.space.places c.args.rid c.self.invariant.whole
    (ap (λ h. versions_of h c.args.rid) (ap (λ (h : Recorded). h.records) c.self.view_is) ∙ c.requires) in
    let bare = bare_free b.index b.chains b.space.places p c.self.invariant.whole given.was in
    let w = chain.open_write c.args.by c.args.image in
    let comes : Comes b.index c.insert.new.self b.chains c.add.new.chains b.space.places c.take.new.space.places c.args.rid p w = record {
      index = c.stands_once.ensures;
      old = c.self.invariant.whole;
      new = none;
      list = c.in_default-insert.ensures.list;
      here = c.in_default-insert.ensures.here;
      others = c.insert.ensures.others;
      given = given;
      fits = c.in_ok-place.ensures.fits;
      chain = c.in_default.ensures.here ∙ ap (chain.installed c.args.by c.args.image) bare;
      lists = c.add.ensures.others;
    } in
    come_here b.index c.insert.new.self b.chains c.add.new.chains b.space.places c.take.new.space.places c.args.rid p w comes

pub returns-clause-others : goal.returns-clause-others
returns-clause-others c =
    let b = c.self.inside in
    let p = c.in_ok-place.place in
    let given = c.in_ok-place.ensures.given in
    let none : place_of b.index c.args.rid ≡ None = unplaced_of b.index b.chains b.space.places c.args.rid c.self.invariant.whole
    (ap (λ h. versions_of h c.args.rid) (ap (λ (h : Recorded). h.records) c.self.view_is) ∙ c.requires) in
    let bare = bare_free b.index b.chains b.space.places p c.self.invariant.whole given.was in
    let w = chain.open_write c.args.by c.args.image in
    let comes : Comes b.index c.insert.new.self b.chains c.add.new.chains b.space.places c.take.new.space.places c.args.rid p w = record {
      index = c.stands_once.ensures;
      old = c.self.invariant.whole;
      new = none;
      list = c.in_default-insert.ensures.list;
      here = c.in_default-insert.ensures.here;
      others = c.insert.ensures.others;
      given = given;
      fits = c.in_ok-place.ensures.fits;
      chain = c.in_default.ensures.here ∙ ap (chain.installed c.args.by c.args.image) bare;
      lists = c.add.ensures.others;
    } in
    subst (λ h. OthersStay h (records_of c.insert.new.self c.add.new.chains c.take.new.space.places) c.args.rid) (ap (λ (h : Recorded). h.records) c.self.view_is)
    (come_others b.index c.insert.new.self b.chains c.add.new.chains b.space.places c.take.new.space.places c.args.rid p w comes)

pub returns-clause-left : goal.returns-clause-left
returns-clause-left c =
    let b = c.self.inside in
    let p = c.in_ok-place.place in
    let given = c.in_ok-place.ensures.given in
    let none : place_of b.index c.args.rid ≡ None = unplaced_of b.index b.chains b.space.places c.args.rid c.self.invariant.whole
    (ap (λ h. versions_of h c.args.rid) (ap (λ (h : Recorded). h.records) c.self.view_is) ∙ c.requires) in
    let bare = bare_free b.index b.chains b.space.places p c.self.invariant.whole given.was in
    let w = chain.open_write c.args.by c.args.image in
    let comes : Comes b.index c.insert.new.self b.chains c.add.new.chains b.space.places c.take.new.space.places c.args.rid p w = record {
      index = c.stands_once.ensures;
      old = c.self.invariant.whole;
      new = none;
      list = c.in_default-insert.ensures.list;
      here = c.in_default-insert.ensures.here;
      others = c.insert.ensures.others;
      given = given;
      fits = c.in_ok-place.ensures.fits;
      chain = c.in_default.ensures.here ∙ ap (chain.installed c.args.by c.args.image) bare;
      lists = c.add.ensures.others;
    } in
    come_left b.index c.insert.new.self b.chains c.add.new.chains b.space.places c.take.new.space.places c.args.rid p w comes ∙ ap (λ h. left h + 1) (ap (λ (h : Recorded). h.records) c.self.view_is)
