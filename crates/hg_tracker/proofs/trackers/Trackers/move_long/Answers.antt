use Rattle.std.proofs.Common.{rules, ◌≡◌, ℕ, ◌<◌, List, [], ◌∷◌, length, take, filter, get_or, true, false, refl, sym, ap, ◌∙◌, subst, arith, append-nil}
use Rattle.std.proofs.Math.Seq.{take-length}
use Rattle.hg_base.specs.declared.report.Entry.{Entry}
use Rattle.hg_rule.specs.declared.view.Part.TheVariants.{OfPass}
use Rattle.hg_rule.specs.Views.{number, pass, others}
use Rattle.hg_rule.specs.Seats.{pass_view}
use Rattle.hg_rule.specs.Steps.{Moves}
use Rattle.hg_rule.specs.Rounds.{entries_of}
use Rattle.hg_tracker.specs.Tries.{is_long, HasTried}
use Rattle.hg_tracker.specs.Boards.{board_sizes}
use Rattle.hg_tracker.proofs.Made.{made_itself, made_again}
use Rattle.hg_tracker.proofs.TableLists.{entries_most}
use Rattle.hg_tracker.proofs.After.{keys_length}
use Rattle.hg_tracker.proofs.Tries.{next_tried, skip_tried, drop_at, drop_more}
use Rattle.hg_tracker.proofs.trackers.Trackers.move_long.Goals as goal
use Rattle.hg_tracker.proofs.trackers.Trackers.move_long.Goals.{then-is_long_in_use+then-moved, then-is_long_in_use+else-moved, else-is_long_in_use}

pub overflow_add-count : goal.overflow_add-count
overflow_add-count c =
    let loaded = (pass (pass_view c.args.pass.now)).loaded in
    let l = entries_most loaded in
    let k = keys_length loaded (board_sizes c.args.self.now).sessions c.requires.shown.loaded.0 in
    let e : length c.args.gathered.now.entries.items ≡ length (entries_of loaded) = ap length c.requires.shown.noted.2 in
    let inside : c.loop-position.position < length c.args.gathered.now.entries.items = search rules in
    omega (arith, c.loop-position.invariant.7, c.args.self.now.board.sessions)

pub sum_up-requires-clause-room : goal.sum_up-requires-clause-room
sum_up-requires-clause-room c =
    let loaded = (pass (pass_view c.loop-position.pass)).loaded in
    let l = entries_most loaded in
    let k = keys_length loaded (board_sizes c.args.self.now).sessions c.loop-position.invariant.2.0 in
    let e : length c.loop-position.gathered.entries.items ≡ length (entries_of loaded) = ap length c.loop-position.invariant.1.2 in
    omega (arith, c.loop-position.invariant.5.0)

pub loop-position-preserved : goal.loop-position-preserved
loop-position-preserved c =
    let v = pass_view c.args.pass.now in
    let w = pass_view c.loop-position.pass in
    let es = c.args.gathered.now.entries.items in
    let k : ℕ = c.loop-position.position in
    let e = c.index.result.now in
    let h = c.loop-position.invariant in
    let inside : k < length es = search rules in
    let now : get_or c.loop-position.gathered.entries.items k e ≡ e = search rules in
    let at : get_or es k e ≡ e = sym (drop_at k c.loop-position.gathered.entries.items es e h.3) ∙ now in
    let says : c.is_long_in_use.result ≡ is_long c.loop-position.gathered.mark c.args.long e = search rules in
    elim c.if-is_long_in_use.branch [
      | then-is_long_in_use+then-moved b ↦ rw (b.pass-is, b.gathered-is, b.count-is) (
        next_tried v w (pass_view b.try_move-moved.new.pass) c.loop-position.gathered.mark c.args.long k c.loop-position.count _ es e true h.1.0 inside at h.0 (sym says ∙ b.if-is_long_in_use.true)
            (subst (λ x. Moves w e.session e.number x (pass_view b.try_move-moved.new.pass)) b.if-moved.true b.try_move-moved.ensures.step) (omega arith),
        b.try_move-moved.ensures.noted,
        b.try_move-moved.ensures.loaded,
        b.try_move-moved.ensures.rest.0 ∙ drop_more k c.loop-position.gathered.entries.items es h.3,
        b.try_move-moved.ensures.rest.1 ∙ h.4,
        b.try_move-moved.ensures.rest.2 _ _ h.5,
        b.try_move-moved.ensures.own,
        omega (arith, h.7),
      )
      | then-is_long_in_use+else-moved b ↦ rw (b.pass-is, b.gathered-is, b.count-is) (
        next_tried v w (pass_view b.try_move-moved.new.pass) c.loop-position.gathered.mark c.args.long k c.loop-position.count _ es e false h.1.0 inside at h.0 (sym says ∙ b.if-is_long_in_use.true)
            (subst (λ x. Moves w e.session e.number x (pass_view b.try_move-moved.new.pass)) b.if-moved.false b.try_move-moved.ensures.step) (λ i. c.loop-position.count),
        b.try_move-moved.ensures.noted,
        b.try_move-moved.ensures.loaded,
        b.try_move-moved.ensures.rest.0 ∙ drop_more k c.loop-position.gathered.entries.items es h.3,
        b.try_move-moved.ensures.rest.1 ∙ h.4,
        b.try_move-moved.ensures.rest.2 _ _ h.5,
        b.try_move-moved.ensures.own,
        omega (arith, h.7),
      )
      | else-is_long_in_use b ↦ rw (b.pass-is, b.gathered-is, b.count-is) (
        skip_tried v w c.loop-position.gathered.mark c.args.long k c.loop-position.count es e h.1.0 inside at h.0 (sym says ∙ b.if-is_long_in_use.false),
        h.1,
        h.2,
        drop_more k c.loop-position.gathered.entries.items es h.3,
        h.4,
        h.5,
        h.6,
        omega (arith, h.7),
      )
    ]

pub loop-position-init : goal.loop-position-init
loop-position-init c = let v = pass_view c.args.pass.now in
    let same = ap (λ l. OfPass (number v) (record (pass v) { journal = l }) ∷ others v) (sym (append-nil (pass v).journal)) in (
      record { outcomes = []; each = refl; count_is = refl; parts = c.requires.own.1 ∙ same; sights = refl; events = sym (append-nil v.events) },
      c.requires.shown.noted,
      c.requires.shown.loaded,
      refl,
      refl,
      c.requires.made,
      c.requires.own,
      omega arith,
    )

pub try_move-moved-requires-clause-own : goal.try_move-moved-requires-clause-own
try_move-moved-requires-clause-own c = c.loop-position.invariant.6

pub try_move-moved-requires-clause-noted : goal.try_move-moved-requires-clause-noted
try_move-moved-requires-clause-noted c = c.loop-position.invariant.1

pub try_move-moved-requires-clause-loaded : goal.try_move-moved-requires-clause-loaded
try_move-moved-requires-clause-loaded c = c.loop-position.invariant.2

pub sum_up-requires-clause-made : goal.sum_up-requires-clause-made
sum_up-requires-clause-made c = made_itself (board_sizes c.args.self.now).sessions (board_sizes c.args.self.now).tables c.loop-position.gathered c.loop-position.invariant.5

pub returns-clause-moved : goal.returns-clause-moved
returns-clause-moved c =
    let v = pass_view c.args.pass.now in
    let es = c.args.gathered.now.entries.items in
    let end : c.loop-position.position ≡ length es = omega (arith, c.loop-position.auto.position-end, c.loop-position-test.false) in
    subst (λ (l : List Entry). HasTried v (filter (is_long (pass v).mark c.args.long) l) c.loop-position.count (pass_view c.loop-position.pass))
    (ap (λ n. take n es) end ∙ (take-length es ∙ c.requires.shown.noted.2)) c.loop-position.invariant.0

pub returns-clause-shown : goal.returns-clause-shown
returns-clause-shown c =
    let same = c.sum_up.ensures.noted in
    let noted = c.loop-position.invariant.1 in
    record {
      noted = (same.0 ∙ noted.0, same.1 ∙ noted.1, same.2 ∙ noted.2);
      loaded = c.loop-position.invariant.2;
      shuffled = c.sum_up.ensures.shuffled;
      rises = c.sum_up.ensures.rises;
      lists = c.sum_up.ensures.lists;
    }

pub returns-clause-made : goal.returns-clause-made
returns-clause-made c = made_again (board_sizes c.args.self.now).sessions (board_sizes c.args.self.now).tables c.loop-position.gathered c.sum_up.new.self
    c.loop-position.invariant.5 c.sum_up.ensures.made

pub returns-clause-own : goal.returns-clause-own
returns-clause-own c = c.loop-position.invariant.6
