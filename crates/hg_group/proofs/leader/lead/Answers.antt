use Rattle.std.proofs.Common.{rules, ◌≡◌, inl, ◌+◌, ◌++◌, ◌∷◌, [], ℕ, suc, List, length, map, refl, sym, ap, ◌∙◌, subst, arith, append-nil}
use Rattle.hg_base.specs.History.{History, NoNumberTwice}
use Rattle.hg_rule.specs.declared.groups.Groups.{Groups}
use Rattle.hg_rule.specs.declared.view.CommitPart.{CommitPart}
use Rattle.hg_rule.specs.declared.view.View.{View}
use Rattle.hg_rule.specs.declared.view.Part.TheVariants.{Away}
use Rattle.hg_rule.specs.Views.{number, session, since, commit_there, first_in}
use Rattle.hg_rule.specs.declared.view.Sight.TheVariants.{Saw, Took}
use Rattle.hg_rule.specs.Facts.{groups}
use Rattle.hg_rule.specs.Holding.{beyond, commit}
use Rattle.hg_rule.specs.Handing.{Members, lent, members, who, numbered, hears, group_of}
use Rattle.hg_rule.specs.Seats.{board_id, sizes_of, session_view, commit_view}
use Rattle.hg_queue.specs.declared.open_tx.OpenTx.{OpenTx}
use Rattle.hg_queue.specs.Queues.{known}
use Rattle.hg_core.specs.Commits.{commits_in}
use Rattle.hg_group.specs.Contexts.{context_of, AreContexts}
use Rattle.hg_group.specs.Order.{FollowsQueue}
use Rattle.hg_group.specs.Places.{part_in}
use Rattle.hg_group.specs.Batch.{AreTaken, all_records, HasGroup, pair_in, with_room}
use Rattle.hg_group.proofs.Grouped.{once, follows_group, follows_still, commits_more, group_length}
use Rattle.hg_group.proofs.Laying_down.{whose_length}
use Rattle.hg_group.proofs.Stamped.{on_way}
use Rattle.hg_group.proofs.Whole.{may_all}
use Rattle.std.specs.Prelude.{◌≤◌, vec_capacity}
use Rattle.hg_group.specs.declared.book.Book.{Book}
use Rattle.hg_group.specs.Pushing.{IsPopping}
use Rattle.hg_group.proofs.Batching.{away_joins, away_leaves}
use Rattle.hg_group.proofs.Bound.{low, room_long, at_most, batch_fits}
use Rattle.hg_group.proofs.Led.{no_items, alone_led, laid_led, split_parts, kept_back, refused_whole, kept_through}
use Rattle.hg_group.proofs.Joint.{in_hand, taken_whose, u_parts, u_sights, after_is, none_after, taken_after, has_group, has_batch}
use Rattle.hg_core.proofs.Groups.{length_more}
use Rattle.hg_queue.specs.Rids.{Rids}
use Rattle.hg_group.proofs.Booked.{booked_kept}
use Rattle.hg_group.proofs.ContextFacts.{contexts_more}
use Rattle.hg_group.proofs.Collecting.{group_context}
use Rattle.hg_group.proofs.Listing.{records_room, pairs_room, taken_room}
use Rattle.hg_group.proofs.Turning.{published_whole}
use Rattle.hg_group.proofs.leader.lead.Goals as goal

roomy : (txs was : List OpenTx) (ms : Members) → (room : ℕ) × (txs ≡ with_room room was) → AreTaken was ms → AreTaken txs ms
roomy txs was ms w h = subst (λ l. AreTaken l ms) (sym w.1) (taken_room w.0 was ms h)

pub gather-requires-clause-line : goal.gather-requires-clause-line
gather-requires-clause-line g c = subst (λ (b : Book). IsPopping c.args.tools.now.queue.now (board_id c.args.tools.now.board.now) b.line) (sym c.deref_mut-open.ensures.value)
    (c.requires.kept.1, c.requires.kept.0.line.0, c.requires.kept.0.line.1.0, c.requires.kept.0.line.1.1)

pub gather-requires-clause-room : goal.gather-requires-clause-room
gather-requires-clause-room g c =
    let book = c.deref_mut-open.result.now in
    let kept = booked_kept (board_id c.args.tools.now.board.now) (sizes_of c.args.tools.now.board.now).sessions c.args.kept book c.deref_mut-open.ensures.value c.requires.kept.0 in
    (kept.room.0, subst (λ (n : ℕ). n ≤ vec_capacity book.popped) (sym (c.len-sessions.ensures ∙ (book.laid.ok.0 ∙ kept.laid.1))) kept.room.1)

pub returns-then-is_empty-clause-kept : goal.returns-then-is_empty-clause-kept
returns-then-is_empty-clause-kept g c =
    let book = c.deref_mut-open.result.now in let h = c.gather.ensures.gathered in
    let kept = booked_kept (board_id c.args.tools.now.board.now) (sizes_of c.args.tools.now.board.now).sessions c.args.kept book c.deref_mut-open.ensures.value c.requires.kept.0 in
    let empty : length c.gather.new.popped.items ≡ 0 = search rules in let none = no_items c.gather.new.popped.items empty in let old = (known book.line).pairs in
    let same : (known c.gather.new.line).pairs ≡ old = h.pairs ∙ (ap (λ (txs : List OpenTx). old ++ map pair_in txs) none ∙ append-nil old) in (
      record {
        seat = kept.seat;
        unstamped = kept.unstamped;
        taken = kept.taken;
        contexts_are = kept.contexts_are;
        count_is = kept.count_is;
        follows = subst (FollowsQueue (part_in c.args.kept.seat).history.list) (sym same) kept.follows;
        line = (c.gather.ensures.line.1, (c.gather.ensures.line.2, c.gather.ensures.line.3));
        room = (none, search rules);
        laid = kept.laid;
      },
      c.gather.ensures.line.0,
    )

pub stamp_batch-requires-clause-own : goal.stamp_batch-requires-clause-own
stamp_batch-requires-clause-own g c = (
  (away_joins (board_id c.args.tools.now.board.now) (sizes_of c.args.tools.now.board.now) c.gather.new.pass c.join_commit-number.new.pass (commit_view c.args.kept.seat) (part_in c.args.kept.seat)
      c.gather.ensures.own.0 c.join_commit-number.ensures.own.0 c.join_commit-number.ensures.own.1 c.requires.kept.0.seat.1 c.join_commit-number.ensures.view).0,
  c.join_commit-number.ensures.holds.1,
)

pub lay_back-requires-clause-own : goal.lay_back-requires-clause-own
lay_back-requires-clause-own g c =
    let t = board_id c.args.tools.now.board.now in let z = sizes_of c.args.tools.now.board.now in
    let joined = away_joins t z c.gather.new.pass c.join_commit-number.new.pass (commit_view c.args.kept.seat) (part_in c.args.kept.seat) c.gather.ensures.own.0
    c.join_commit-number.ensures.own.0 c.join_commit-number.ensures.own.1 c.requires.kept.0.seat.1 c.join_commit-number.ensures.view in
    (away_leaves t z c.join_commit-number.new.pass c.split_commit-seat.new.pass joined.0 c.split_commit-seat.ensures.own.0 c.split_commit-seat.ensures.own.1 c.split_commit-seat.ensures.view).0

pub lay-requires-clause-own : goal.lay-requires-clause-own
lay-requires-clause-own g c = (away_leaves (board_id c.args.tools.now.board.now) (sizes_of c.args.tools.now.board.now) c.publish.new.pass c.split_commit-seat-2.new.pass
    c.publish.ensures.own.0 c.split_commit-seat-2.ensures.own.0 c.split_commit-seat-2.ensures.own.1 c.split_commit-seat-2.ensures.view).0

pub stamp_batch-requires-clause-received : goal.stamp_batch-requires-clause-received
stamp_batch-requires-clause-received g c =
    let h = c.gather.ensures.gathered in
    let o = in_hand (session_view c.args.pass.now) (session_view c.gather.new.pass) (commit_view c.args.kept.seat) (session_view c.join_commit-number.new.pass)
    (part_in c.args.kept.seat) h.ms h.parts c.requires.kept.0.seat.1 c.join_commit-number.ensures.view in
    o.beyond_is ∙ ap lent (sym o.members_are)

pub stamp_batch-requires-clause-taken : goal.stamp_batch-requires-clause-taken
stamp_batch-requires-clause-taken g c =
    let v = session_view c.args.pass.now in let h = c.gather.ensures.gathered in let part = part_in c.args.kept.seat in let w = session_view c.join_commit-number.new.pass in
    let o = in_hand v (session_view c.gather.new.pass) (commit_view c.args.kept.seat) w part h.ms h.parts c.requires.kept.0.seat.1 c.join_commit-number.ensures.view in (
      subst (λ l. AreTaken l (members (beyond w))) (sym c.as_slice-txs.ensures.value)
          (subst (AreTaken c.make_room.new.popped.items) (sym o.members_are) (roomy c.make_room.new.popped.items c.gather.new.popped.items h.ms c.make_room.ensures.whole h.taken)),
      subst (λ ms. NoNumberTwice (who ms)) (sym o.members_are) (once (sizes_of c.args.tools.now.board.now) c.join_commit-number.result w c.join_commit-number.ensures.backed
          (Away (number v) (session v) (since v)) part h.ms o.parts),
    )

pub publish-requires-clause-received : goal.publish-requires-clause-received
publish-requires-clause-received g c =
    let s = c.stamp_batch.ensures.stamped in let o = on_way (session_view c.join_commit-number.new.pass) (session_view c.stamp_batch.new.pass) s.ms s.list s.parts in
    o.beyond_is ∙ ap lent (sym o.members_are)

pub publish-requires-clause-may : goal.publish-requires-clause-may
publish-requires-clause-may g c =
    let h = c.gather.ensures.gathered in let w = session_view c.join_commit-number.new.pass in
    let o = in_hand (session_view c.args.pass.now) (session_view c.gather.new.pass) (commit_view c.args.kept.seat) w
    (part_in c.args.kept.seat) h.ms h.parts c.requires.kept.0.seat.1 c.join_commit-number.ensures.view in
    may_all w (session_view c.stamp_batch.new.pass) c.as_slice-txs.result.now (subst (λ l. AreTaken l (members (beyond w))) (sym c.as_slice-txs.ensures.value)
    (subst (AreTaken c.make_room.new.popped.items) (sym o.members_are) (roomy c.make_room.new.popped.items c.gather.new.popped.items h.ms c.make_room.ensures.whole h.taken)))
    (search rules) c.stamp_batch.ensures.stamped

pub lay-requires-clause-group : goal.lay-requires-clause-group
lay-requires-clause-group g c =
    let v = session_view c.args.pass.now in let h = c.gather.ensures.gathered in let part = part_in c.args.kept.seat in let w = session_view c.join_commit-number.new.pass in
    let o = in_hand v (session_view c.gather.new.pass) (commit_view c.args.kept.seat) w part h.ms h.parts c.requires.kept.0.seat.1 c.join_commit-number.ensures.view in
    let mark = c.join_commit-number.result in let n : ℕ = mark + 1 in
    let long : length part.history.list ≡ mark = ap (λ (q : CommitPart). length q.history.list) (sym o.commit_is) ∙ c.join_commit-number.ensures.mark.is_length in
    let next : n ≡ suc (length part.history.list) = omega (arith, long) in
    let taken : AreTaken c.as_slice-txs.result.now h.ms = subst (λ l. AreTaken l h.ms) (sym c.as_slice-txs.ensures.value)
    (roomy c.make_room.new.popped.items c.gather.new.popped.items h.ms c.make_room.ensures.whole h.taken) in
    (has_group v w (session_view c.stamp_batch.new.pass) (session_view c.publish.new.pass) (session_view c.split_commit-seat-2.new.pass) part h.ms c.as_slice-txs.result.now n o
    c.stamp_batch.ensures.stamped c.publish.ensures.step c.split_commit-seat-2.ensures.view
    (sizes_of c.args.tools.now.board.now) mark c.deref_mut-open.result.now.count c.join_commit-number.ensures.backed taken next
    (booked_kept (board_id c.args.tools.now.board.now) (sizes_of c.args.tools.now.board.now).sessions c.args.kept c.deref_mut-open.result.now c.deref_mut-open.ensures.value
    c.requires.kept.0).count_is)

pub returns-then-is_empty-clause-turn : goal.returns-then-is_empty-clause-turn
returns-then-is_empty-clause-turn g c = record { steps = []; events = c.gather.ensures.gathered.events ∙ sym (append-nil (session_view c.args.pass.now).events); whole = inl ([], refl) }

pub returns-clause-turn : goal.returns-clause-turn
returns-clause-turn g c =
    let v = session_view c.args.pass.now in let h = c.gather.ensures.gathered in let part = part_in c.args.kept.seat in
    let w = session_view c.join_commit-number.new.pass in let x = session_view c.stamp_batch.new.pass in let y = session_view c.publish.new.pass in
    let u = session_view c.split_commit-seat-2.new.pass in
    let o = in_hand v (session_view c.gather.new.pass) (commit_view c.args.kept.seat) w part h.ms h.parts c.requires.kept.0.seat.1 c.join_commit-number.ensures.view in
    let mark = c.join_commit-number.result in let n : ℕ = mark + 1 in let s = c.stamp_batch.ensures.stamped in
    let long : length part.history.list ≡ mark = ap (λ (q : CommitPart). length q.history.list) (sym o.commit_is) ∙ c.join_commit-number.ensures.mark.is_length in
    let next : n ≡ suc (length part.history.list) = omega (arith, long) in let z = (sizes_of c.args.tools.now.board.now).sessions in
    let taken : AreTaken c.as_slice-txs.result.now h.ms = subst (λ l. AreTaken l h.ms) (sym c.as_slice-txs.ensures.value)
    (roomy c.make_room.new.popped.items c.gather.new.popped.items h.ms c.make_room.ensures.whole h.taken) in
    let group : HasGroup z u c.as_slice-txs.result.now n c.deref_mut-open.result.now.count =
    (has_group v w x y u part h.ms c.as_slice-txs.result.now n o s c.publish.ensures.step c.split_commit-seat-2.ensures.view
    (sizes_of c.args.tools.now.board.now) mark c.deref_mut-open.result.now.count c.join_commit-number.ensures.backed taken next
    (booked_kept (board_id c.args.tools.now.board.now) (sizes_of c.args.tools.now.board.now).sessions c.args.kept c.deref_mut-open.result.now c.deref_mut-open.ensures.value
    c.requires.kept.0).count_is) in
    published_whole v w x y u (session_view c.lay.new.pass) s.steps n c.deref_mut-open.result.now.count z c.as_slice-txs.result.now
    (ap (λ (t : View). t.events) c.join_commit-number.ensures.view ∙ h.events) s.only s.events (ap (λ (t : View). t.events) c.publish.ensures.step.1)
    (ap (λ (t : View). t.events) c.split_commit-seat-2.ensures.view) group c.lay.ensures.all

pub returns-clause-kept : goal.returns-clause-kept
returns-clause-kept g c =
    let v = session_view c.args.pass.now in let h = c.gather.ensures.gathered in
    let kept = booked_kept (board_id c.args.tools.now.board.now) (sizes_of c.args.tools.now.board.now).sessions c.args.kept c.deref_mut-open.result.now
    c.deref_mut-open.ensures.value c.requires.kept.0 in
    let part = part_in c.args.kept.seat in let w = session_view c.join_commit-number.new.pass in let y = session_view c.publish.new.pass in
    let u = session_view c.split_commit-seat-2.new.pass in
    let o = in_hand v (session_view c.gather.new.pass) (commit_view c.args.kept.seat) w part h.ms h.parts kept.seat.1 c.join_commit-number.ensures.view in
    let n : ℕ = c.join_commit-number.result + 1 in let txs = c.as_slice-txs.result.now in
    let taken : AreTaken txs h.ms = subst (λ l. AreTaken l h.ms) (sym c.as_slice-txs.ensures.value)
    (roomy c.make_room.new.popped.items c.gather.new.popped.items h.ms c.make_room.ensures.whole h.taken) in
    let part_is = ap (λ (t : View). commit_there (first_in t.parts)) c.split_commit-seat-2.ensures.seat in
    let history : (part_in c.split_commit-seat-2.result).history.list ≡ part.history.list ++ group_of h.ms ∷ [] = ap (λ (q : CommitPart). q.history.list) part_is ∙
    ap (λ (gs : Groups). gs.list) (after_is v w (session_view c.stamp_batch.new.pass) y u part h.ms txs n o c.stamp_batch.ensures.stamped c.publish.ensures.step
    c.split_commit-seat-2.ensures.view) in
    let taken_is : (part_in c.split_commit-seat-2.result).taken ≡ part.taken = ap (λ (q : CommitPart). q.taken) part_is ∙
    taken_after v w (session_view c.stamp_batch.new.pass) y u part h.ms txs n o c.stamp_batch.ensures.stamped c.publish.ensures.step c.split_commit-seat-2.ensures.view in
    let long : length part.history.list ≡ c.join_commit-number.result = ap (λ (q : CommitPart). length q.history.list) (sym o.commit_is) ∙ c.join_commit-number.ensures.mark.is_length in
    let next : n ≡ suc (length part.history.list) = omega (arith, long) in let records = c.join_records-records.result in
    let listed : c.push_back_reserved.new.self.items ≡ c.deref_mut-open.result.now.contexts.items ++ records ∷ [] = c.push_back_reserved.ensures.items ∙
    ap (λ l. l ++ records ∷ []) c.make_room.ensures.same in
    let many : length (group_of h.ms) ≡ length txs = group_length h.ms ∙ whose_length txs h.ms (taken_whose txs h.ms taken) in
    let more : c.deref_mut-open.result.now.count + length txs ≡ commits_in (part.history.list ++ group_of h.ms ∷ []) = (λ i. kept.count_is i + sym many i) ∙
    sym (commits_more part.history.list (group_of h.ms)) in
    let pairs : (known c.gather.new.line).pairs ≡ (known c.deref_mut-open.result.now.line).pairs ++ map pair_in txs = h.pairs ∙
    ap (λ l. (known c.deref_mut-open.result.now.line).pairs ++ l) (sym (pairs_room c.make_room.ensures.whole.0 c.gather.new.popped.items) ∙
    ap (map pair_in) (sym c.make_room.ensures.whole.1 ∙ sym c.as_slice-txs.ensures.value)) in
    let follows = follows_group (sizes_of c.args.tools.now.board.now) c.join_commit-number.result w c.join_commit-number.ensures.backed
    (Away (number v) (session v) (since v)) part h.ms o.parts txs taken (known c.deref_mut-open.result.now.line).pairs kept.follows in (
      record {
        seat = c.split_commit-seat-2.ensures.commit;
        unstamped = ap (λ (q : CommitPart). q.stamped) part_is ∙
            none_after v w (session_view c.stamp_batch.new.pass) y u part h.ms txs n o c.stamp_batch.ensures.stamped c.publish.ensures.step c.split_commit-seat-2.ensures.view;
        taken = low part.taken (length part.history.list) (part_in c.split_commit-seat-2.result).taken
            (length (part_in c.split_commit-seat-2.result).history.list) kept.taken taken_is (ap length history ∙ length_more part.history.list (group_of h.ms));
        contexts_are = subst (λ (x : History × (ℕ × List Rids)). AreContexts x.0 x.1.0 x.1.1) (λ i. (sym history i, (sym taken_is i, sym listed i)))
            (contexts_more part.history.list part.taken c.deref_mut-open.result.now.contexts.items (group_of h.ms) records kept.taken kept.contexts_are
            (group_context (sizes_of c.args.tools.now.board.now) c.join_commit-number.result w c.join_commit-number.ensures.backed
            (Away (number v) (session v) (since v)) part h.ms o.parts c.gather.new.popped.items h.taken (suc (length part.history.list))
            (context_of (suc (length part.history.list)) records) refl (c.join_records-records.ensures.records ∙
            (ap all_records c.make_room.ensures.whole.1 ∙ records_room c.make_room.ensures.whole.0 c.gather.new.popped.items))));
        count_is = search rules;
        follows = subst (λ (hs : History). FollowsQueue hs (known c.gather.new.line).pairs) (sym history) (subst (FollowsQueue (part.history.list ++ group_of h.ms ∷ [])) (sym pairs) follows);
        line = (c.gather.ensures.line.1, (c.gather.ensures.line.2, c.gather.ensures.line.3));
        room = (c.join_records-records.ensures.gone.0, search rules);
        laid = c.lay.ensures.laid;
      },
      c.gather.ensures.line.0,
    )

pub lay-requires-clause-small : goal.lay-requires-clause-small
lay-requires-clause-small g c =
    let v = session_view c.args.pass.now in let z = sizes_of c.args.tools.now.board.now in let h = c.gather.ensures.gathered in
    let part = part_in c.args.kept.seat in let w = session_view c.join_commit-number.new.pass in let book = c.deref_mut-open.result.now in let txs = c.as_slice-txs.result.now in
    let kept = booked_kept (board_id c.args.tools.now.board.now) z.sessions c.args.kept book c.deref_mut-open.ensures.value c.requires.kept.0 in
    let o = in_hand v (session_view c.gather.new.pass) (commit_view c.args.kept.seat) w part h.ms h.parts c.requires.kept.0.seat.1 c.join_commit-number.ensures.view in
    let long : length txs ≡ length c.gather.new.popped.items = ap length c.as_slice-txs.ensures.value ∙
    (ap length c.make_room.ensures.whole.1 ∙ room_long c.make_room.ensures.whole.0 c.gather.new.popped.items) in
    let most : length txs ≤ z.sessions = at_most (length txs) (length c.gather.new.popped.items) c.len-sessions.result
    (length book.laid.items) z.sessions long c.gather.ensures.room.1 (c.len-sessions.ensures ∙ book.laid.ok.0) kept.laid.1 in
    batch_fits z c.join_commit-number.result book.count (length txs) z.sessions w (Away (number v) (session v) (since v)) part
    (lent h.ms) c.join_commit-number.ensures.backed o.parts c.args.tools.now.board.now.room kept.count_is most (search rules)

pub overflow_add-open : goal.overflow_add-open
overflow_add-open g c =
    let v = session_view c.args.pass.now in let z = sizes_of c.args.tools.now.board.now in let h = c.gather.ensures.gathered in
    let part = part_in c.args.kept.seat in let w = session_view c.join_commit-number.new.pass in let book = c.deref_mut-open.result.now in let txs = c.as_slice-txs.result.now in
    let kept = booked_kept (board_id c.args.tools.now.board.now) z.sessions c.args.kept book c.deref_mut-open.ensures.value c.requires.kept.0 in
    let o = in_hand v (session_view c.gather.new.pass) (commit_view c.args.kept.seat) w part h.ms h.parts c.requires.kept.0.seat.1 c.join_commit-number.ensures.view in
    let long : length txs ≡ length c.gather.new.popped.items = ap length c.as_slice-txs.ensures.value ∙
    (ap length c.make_room.ensures.whole.1 ∙ room_long c.make_room.ensures.whole.0 c.gather.new.popped.items) in
    let most : length txs ≤ z.sessions = at_most (length txs) (length c.gather.new.popped.items) c.len-sessions.result
    (length book.laid.items) z.sessions long c.gather.ensures.room.1 (c.len-sessions.ensures ∙ book.laid.ok.0) kept.laid.1 in
    record {
      fits = batch_fits z c.join_commit-number.result book.count (length txs) z.sessions w (Away (number v) (session v) (since v)) part
          (lent h.ms) c.join_commit-number.ensures.backed o.parts c.args.tools.now.board.now.room kept.count_is most (search rules);
    }

pub lay_back-requires-clause-batch : goal.lay_back-requires-clause-batch
lay_back-requires-clause-batch g c =
    let v = session_view c.args.pass.now in let h = c.gather.ensures.gathered in let part = part_in c.args.kept.seat in let w = session_view c.join_commit-number.new.pass in
    let o = in_hand v (session_view c.gather.new.pass) (commit_view c.args.kept.seat) w part h.ms h.parts c.requires.kept.0.seat.1 c.join_commit-number.ensures.view in
    has_batch v w (session_view c.split_commit-seat.new.pass) part h.ms c.make_room.new.popped.items
    (sizes_of c.args.tools.now.board.now) c.join_commit-number.result o c.split_commit-seat.ensures.view c.join_commit-number.ensures.backed
    (roomy c.make_room.new.popped.items c.gather.new.popped.items h.ms c.make_room.ensures.whole h.taken)

pub returns-in_default-clause-kept : goal.returns-in_default-clause-kept
returns-in_default-clause-kept g c =
    let v = session_view c.args.pass.now in let h = c.gather.ensures.gathered in
    let kept = booked_kept (board_id c.args.tools.now.board.now) (sizes_of c.args.tools.now.board.now).sessions c.args.kept c.deref_mut-open.result.now
    c.deref_mut-open.ensures.value c.requires.kept.0 in
    let part = part_in c.args.kept.seat in let w = session_view c.join_commit-number.new.pass in
    let o = in_hand v (session_view c.gather.new.pass) (commit_view c.args.kept.seat) w part h.ms h.parts kept.seat.1 c.join_commit-number.ensures.view in
    let same : part_in c.split_commit-seat.result ≡ part = ap (λ (t : View). commit_there (first_in t.parts)) c.split_commit-seat.ensures.seat ∙ o.commit_is in
    let follows = follows_still (sizes_of c.args.tools.now.board.now) c.join_commit-number.result w c.join_commit-number.ensures.backed
    (Away (number v) (session v) (since v)) part h.ms o.parts c.gather.new.popped.items h.taken (known c.deref_mut-open.result.now.line).pairs kept.follows in (
      record {
        seat = c.split_commit-seat.ensures.commit;
        unstamped = ap (λ (q : CommitPart). q.stamped) same ∙ kept.unstamped;
        taken = subst (λ (q : CommitPart). q.taken ≤ length q.history.list) (sym same) kept.taken;
        contexts_are = subst (λ (x : CommitPart × List Rids). AreContexts x.0.history.list x.0.taken x.1) (λ i. (sym same i, sym c.make_room.ensures.same i)) kept.contexts_are;
        count_is = kept.count_is ∙ ap (λ (q : CommitPart). commits_in q.history.list) (sym same);
        follows = subst (λ (q : CommitPart). FollowsQueue q.history.list (known c.gather.new.line).pairs) (sym same) (subst (FollowsQueue part.history.list) (sym h.pairs) follows);
        line = (c.gather.ensures.line.1, (c.gather.ensures.line.2, c.gather.ensures.line.3));
        room = (c.lay_back.ensures.popped.0, search rules);
        laid = c.lay_back.ensures.laid;
      },
      c.gather.ensures.line.0,
    )

pub returns-then-is_empty-clause-led : goal.returns-then-is_empty-clause-led
returns-then-is_empty-clause-led g c =
    let h = c.gather.ensures.gathered in let none : length c.gather.new.popped.items ≡ 0 = search rules in
    alone_led (session_view c.args.pass.now) (session_view c.gather.new.pass) h.ms c.gather.new.popped.items none h.taken h.parts h.kept h.events

pub returns-in_default-clause-turn : goal.returns-in_default-clause-turn
returns-in_default-clause-turn g c = refused_whole (session_view c.args.pass.now) (session_view c.join_commit-number.new.pass) (session_view c.split_commit-seat.new.pass)
    (session_view c.lay_back.new.pass) c.make_room.new.popped.items
    (ap (λ (t : View). t.events) c.join_commit-number.ensures.view ∙ c.gather.ensures.gathered.events) (ap (λ (t : View). t.events) c.split_commit-seat.ensures.view) c.lay_back.ensures.all

pub returns-in_default-clause-led : goal.returns-in_default-clause-led
returns-in_default-clause-led g c =
    let v = session_view c.args.pass.now in let h = c.gather.ensures.gathered in let part = part_in c.args.kept.seat in
    let w = session_view c.join_commit-number.new.pass in let u = session_view c.split_commit-seat.new.pass in
    let o = in_hand v (session_view c.gather.new.pass) (commit_view c.args.kept.seat) w part h.ms h.parts c.requires.kept.0.seat.1 c.join_commit-number.ensures.view in
    laid_led v u (session_view c.lay_back.new.pass) h.ms c.make_room.new.popped.items (split_parts v w u part h.ms o c.split_commit-seat.ensures.view)
    (kept_back v (session_view c.gather.new.pass) w u (commit_view c.args.kept.seat).sights (Saw (commit w).history ∷ Took (commit w).taken ∷ []) h.kept
    (ap (λ (t : View). t.sights) c.join_commit-number.ensures.view) (ap (λ (t : View). t.sights) c.split_commit-seat.ensures.view))
    c.lay_back.ensures.all (returns-in_default-clause-turn g c)

pub returns-clause-led : goal.returns-clause-led
returns-clause-led g c =
    let v = session_view c.args.pass.now in let h = c.gather.ensures.gathered in let part = part_in c.args.kept.seat in
    let w = session_view c.join_commit-number.new.pass in let x = session_view c.stamp_batch.new.pass in let y = session_view c.publish.new.pass in
    let u = session_view c.split_commit-seat-2.new.pass in let n : ℕ = c.join_commit-number.result + 1 in let txs = c.as_slice-txs.result.now in let s = c.stamp_batch.ensures.stamped in
    let o = in_hand v (session_view c.gather.new.pass) (commit_view c.args.kept.seat) w part h.ms h.parts c.requires.kept.0.seat.1 c.join_commit-number.ensures.view in
    laid_led v u (session_view c.lay.new.pass) (numbered n h.ms) txs (u_parts v w x y u part h.ms txs n o s c.publish.ensures.step c.split_commit-seat-2.ensures.view)
    (kept_through v (session_view c.gather.new.pass) w x u (commit_view c.args.kept.seat).sights (Saw (groups (part.history.list ++ group_of h.ms ∷ [])) ∷ hears n h.ms)
    (Saw (commit y).history ∷ Took (commit y).taken ∷ []) h.kept (ap (λ (t : View). t.sights) c.join_commit-number.ensures.view) s.kept
    (u_sights v w x y u part h.ms txs n o s c.publish.ensures.step c.split_commit-seat-2.ensures.view)) c.lay.ensures.all (returns-clause-turn g c)
