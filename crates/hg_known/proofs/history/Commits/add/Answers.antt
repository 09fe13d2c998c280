use Rattle.std.proofs.Common.{◌<◌, ◌≤◌, ◌∙◌, sym, ap, subst, arith}
use Rattle.std.specs.Prelude.{IsSome, max}
use Rattle.std.specs.Bool.{MatchBool}
use Rattle.hg_known.specs.Lines.{said_of}
use Rattle.hg_known.specs.Joined.{IsJoined, Clashes}
use Rattle.hg_known.specs.Shown.{printed}
use Rattle.hg_known.proofs.Joining.{from_least}
use Rattle.hg_known.proofs.Showing.{stored_is, wrote_none, wrote_some, sat, clashed, all_apart, writes_more, seats_more, numbers_more, greatest_more, taken, free}
use Rattle.hg_known.proofs.history.Commits.add.Goals as goal

pub returns-in_default : goal.returns-in_default
returns-in_default c =
    λ earlier ps own shows fits.
    let now = said_of c.args.said.now in
    wrote_none (printed c.args.number earlier now).1.images (λ r. sym (stored_is c.args.own.now earlier now own c.args.number r) ∙ c.in_default.ensures.next r (from_least r)) fits.0.some

pub returns-then-not-branch : goal.returns-then-not-branch
returns-then-not-branch c =
    λ earlier ps own shows fits.
    let p = printed c.args.number earlier (said_of c.args.said.now) in
    sat p ps (sym (shows.seats c.args.number c.args.said.now.session) ∙ taken c.in_ok-insert.field-0 _ c.in_ok-insert.ensures.added c.if-not-branch.true) fits.1

pub returns-then-not-branch-2 : goal.returns-then-not-branch-2
returns-then-not-branch-2 c =
    λ earlier ps own shows fits.
    let now = said_of c.args.said.now in
    let clash : Clashes c.args.own.now c.args.said.now.session c.args.said.now.transaction c.args.number c.args.self.now.writes =
    subst (λ b. MatchBool b (IsJoined c.args.own.now c.args.said.now.session c.args.said.now.transaction c.args.number c.args.self.now.writes c.add_writes.new.writes)
    (Clashes c.args.own.now c.args.said.now.session c.args.said.now.transaction c.args.number c.args.self.now.writes)) c.if-not-branch-2.true c.in_ok-add_writes.ensures in
    clashed (printed c.args.number earlier now) ps clash.0 (subst IsSome (stored_is c.args.own.now earlier now own c.args.number clash.0) clash.1)
    (subst IsSome (shows.writes clash.0 c.args.number) clash.2) fits.1

pub returns : goal.returns
returns c =
    λ earlier ps own shows.
    let now = said_of c.args.said.now in
    let n = c.args.number in
    let p = printed n earlier now in
    let joined : IsJoined c.args.own.now c.args.said.now.session c.args.said.now.transaction n c.args.self.now.writes c.add_writes.new.writes =
    subst (λ b. MatchBool b (IsJoined c.args.own.now c.args.said.now.session c.args.said.now.transaction n c.args.self.now.writes c.add_writes.new.writes)
    (Clashes c.args.own.now c.args.said.now.session c.args.said.now.transaction n c.args.self.now.writes)) c.if-not-branch-2.false c.in_ok-add_writes.ensures in
    let its = stored_is c.args.own.now earlier now own n in
    let no_seat = sym (shows.seats n c.args.said.now.session) ∙ free c.in_ok-insert.field-0 _ c.in_ok-insert.ensures.added c.if-not-branch.false in
    let below : c.args.said.now.at < n = omega (arith, c.if-said-number.false) in
    let least : 1 ≤ n = omega (arith, below) in (
      record {
        writes = writes_more c.args.own.now now.session now.transaction c.args.self.now.writes c.add_writes.new.writes ps p joined its shows.writes;
        seats = seats_more c.args.self.now.seats c.insert.new.self ps p c.in_ok-insert.ensures.updates.0 shows.seats;
        numbers = numbers_more c.args.self.now.numbers c.insert-2.new.self ps p c.in_ok-insert-2.ensures.updates.0 shows.numbers;
        greatest = c.max-self.ensures ∙ ap (λ m. max m n) shows.greatest ∙ sym (greatest_more ps p);
      },
      (
        record {
          number = least;
          some = wrote_some p.1.images c.in-Some.field-0 (subst IsSome (its c.in-Some.field-0) c.in-Some.ensures.next.1);
          before = below;
        },
        all_apart p ps no_seat (λ r s. sym (shows.writes r n) ∙ joined.fresh r (subst IsSome (sym (its r)) s)),
      ),
    )
