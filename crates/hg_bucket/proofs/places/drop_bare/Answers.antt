use Rattle.std.proofs.Common.{length, sym, ap, ◌∙◌}
use Rattle.std.specs.Prelude.{is_some}
use Rattle.hg_chains.specs.Places.{list_at}
use Rattle.hg_space.specs.Places.{image_at, free}
use Rattle.hg_bucket.specs.Parts.{seat_at}
use Rattle.hg_bucket.proofs.Seating.{freed_here, seat_apart}
use Rattle.hg_bucket.proofs.Turning.{filled}
use Rattle.hg_bucket.proofs.Bare.{with_image, no_chain, some_chain, long_chain, no_image, mapped_some}
use Rattle.hg_bucket.proofs.Dropping.{gone_whole, gone_here, gone_others, gone_left}
use Rattle.hg_bucket.proofs.Leaving.{unnamed_lists}
use Rattle.hg_bucket.proofs.places.drop_bare.Goals as goal

pub returns-then-not-is_empty-clause-whole : goal.returns-then-not-is_empty-clause-whole
returns-then-not-is_empty-clause-whole c =
    let vs = list_at c.args.chains.now c.args.placed.place in
    filled c.args.placed.place c.args.index.now c.args.chains.now c.args.space.now.places c.requires.bare
    (long_chain vs (image_at c.args.space.now.places c.args.placed.place) (some_chain vs (sym c.is_empty.ensures ∙ c.if-not-is_empty.true)))

pub returns-then-is_some-clause-whole : goal.returns-then-is_some-clause-whole
returns-then-is_some-clause-whole c =
    let some = ap is_some (sym c.image.ensures) ∙ mapped_some (λ p. (p.0, p.1.now)) c.image.result ∙ sym c.is_some.ensures ∙ c.if-is_some.true in
    filled c.args.placed.place c.args.index.now c.args.chains.now c.args.space.now.places c.requires.bare
    (with_image (list_at c.args.chains.now c.args.placed.place) (image_at c.args.space.now.places c.args.placed.place) some)

pub returns-clause-whole : goal.returns-clause-whole
returns-clause-whole c =
    let p = c.args.placed.place in
    let places = c.args.space.now.places in
    let seats = c.give_place.new.self.places in
    gone_whole c.args.placed.rid c.args.index.now c.remove.new.self c.args.chains.now places seats p c.requires.bare (record {
      index = c.requires.index;
      has = c.requires.has;
      gone = c.remove.ensures.gone;
      others = c.remove.ensures.others;
      list = c.remove.ensures.list;
      freed = ap (λ ps. seat_at ps p) c.give_place.ensures.freed ∙ freed_here places p;
      stay = λ q apart. ap (λ ps. seat_at ps q) c.give_place.ensures.freed ∙ seat_apart places p q free apart;
      chain = no_chain (list_at c.args.chains.now p) (sym c.is_empty.ensures ∙ c.if-not-is_empty.false);
      image = no_image (image_at places p) (ap is_some (sym c.image.ensures) ∙ mapped_some (λ p. (p.0, p.1.now)) c.image.result ∙ sym c.is_some.ensures ∙ c.if-is_some.false);
    })

pub returns-clause-here : goal.returns-clause-here
returns-clause-here c =
    let p = c.args.placed.place in
    let places = c.args.space.now.places in
    let seats = c.give_place.new.self.places in
    gone_here c.args.placed.rid c.args.index.now c.remove.new.self c.args.chains.now places seats p (record {
      index = c.requires.index;
      has = c.requires.has;
      gone = c.remove.ensures.gone;
      others = c.remove.ensures.others;
      list = c.remove.ensures.list;
      freed = ap (λ ps. seat_at ps p) c.give_place.ensures.freed ∙ freed_here places p;
      stay = λ q apart. ap (λ ps. seat_at ps q) c.give_place.ensures.freed ∙ seat_apart places p q free apart;
      chain = no_chain (list_at c.args.chains.now p) (sym c.is_empty.ensures ∙ c.if-not-is_empty.false);
      image = no_image (image_at places p) (ap is_some (sym c.image.ensures) ∙ mapped_some (λ p. (p.0, p.1.now)) c.image.result ∙ sym c.is_some.ensures ∙ c.if-is_some.false);
    })

pub returns-clause-others : goal.returns-clause-others
returns-clause-others c =
    let p = c.args.placed.place in
    let places = c.args.space.now.places in
    let seats = c.give_place.new.self.places in
    gone_others c.args.placed.rid c.args.index.now c.remove.new.self c.args.chains.now places seats p (record {
      index = c.requires.index;
      has = c.requires.has;
      gone = c.remove.ensures.gone;
      others = c.remove.ensures.others;
      list = c.remove.ensures.list;
      freed = ap (λ ps. seat_at ps p) c.give_place.ensures.freed ∙ freed_here places p;
      stay = λ q apart. ap (λ ps. seat_at ps q) c.give_place.ensures.freed ∙ seat_apart places p q free apart;
      chain = no_chain (list_at c.args.chains.now p) (sym c.is_empty.ensures ∙ c.if-not-is_empty.false);
      image = no_image (image_at places p) (ap is_some (sym c.image.ensures) ∙ mapped_some (λ p. (p.0, p.1.now)) c.image.result ∙ sym c.is_some.ensures ∙ c.if-is_some.false);
    })

pub returns-clause-left : goal.returns-clause-left
returns-clause-left c =
    let p = c.args.placed.place in
    let places = c.args.space.now.places in
    let seats = c.give_place.new.self.places in
    gone_left c.args.placed.rid c.args.index.now c.remove.new.self c.args.chains.now places seats p (record {
      index = c.requires.index;
      has = c.requires.has;
      gone = c.remove.ensures.gone;
      others = c.remove.ensures.others;
      list = c.remove.ensures.list;
      freed = ap (λ ps. seat_at ps p) c.give_place.ensures.freed ∙ freed_here places p;
      stay = λ q apart. ap (λ ps. seat_at ps q) c.give_place.ensures.freed ∙ seat_apart places p q free apart;
      chain = no_chain (list_at c.args.chains.now p) (sym c.is_empty.ensures ∙ c.if-not-is_empty.false);
      image = no_image (image_at places p) (ap is_some (sym c.image.ensures) ∙ mapped_some (λ p. (p.0, p.1.now)) c.image.result ∙ sym c.is_some.ensures ∙ c.if-is_some.false);
    })

pub returns-then-not-is_empty-clause-lists : goal.returns-then-not-is_empty-clause-lists
returns-then-not-is_empty-clause-lists c = λ ls h. h

pub returns-then-is_some-clause-lists : goal.returns-then-is_some-clause-lists
returns-then-is_some-clause-lists c = λ ls h. h

pub returns-clause-lists : goal.returns-clause-lists
returns-clause-lists c =
    λ ls h.
    let none = ap (λ vs. length vs) (no_chain (list_at c.args.chains.now c.args.placed.place) (sym c.is_empty.ensures ∙ c.if-not-is_empty.false)) in
    unnamed_lists c.args.index.now c.remove.new.self c.args.chains.now ls c.args.placed.rid c.args.placed.place h c.requires.has none c.remove.ensures.gone c.remove.ensures.others
