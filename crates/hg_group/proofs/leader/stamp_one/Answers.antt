use Rattle.std.proofs.Common.{◌≡◌, suc, length, sym, ap, ◌∙◌, subst}
use Rattle.std.specs.Prelude.{IsSome, IsTrue}
use Rattle.hg_core.specs.Contents.{bucket_of, is_stamped}
use Rattle.hg_store.specs.Stores.{store_buckets}
use Rattle.hg_core.specs.Logs.{is_in, is_plain, open_in}
use Rattle.hg_core.specs.Versions.{IsOpenBy}
use Rattle.hg_rule.specs.declared.view.CommitPart.{CommitPart}
use Rattle.hg_rule.specs.Holding.{held}
use Rattle.hg_rule.specs.Places.{HoldsBucket}
use Rattle.hg_rule.specs.Handing.{lent, members, who, part_of, writer_at}
use Rattle.hg_rule.specs.Seats.{board_id, sizes_of, session_view}
use Rattle.hg_rule.specs.Views.{others}
use Rattle.hg_group.proofs.Batching.{away_first, away_taken, away_with, lent_open, stamped_one}
use Rattle.hg_group.proofs.leader.stamp_one.Goals as goal

pub take-held-requires-clause-own : goal.take-held-requires-clause-own
take-held-requires-clause-own g c = (c.requires.own.0.0, away_first (session_view c.args.pass.now) c.requires.own.0.3)

pub stamp-requires-clause-holds : goal.stamp-requires-clause-holds
stamp-requires-clause-holds g c =
    let u = session_view c.take-held.new.pass in
    let t = away_taken (session_view c.args.pass.now) u c.bucket_of-bucket.result c.requires.own.0.3 c.requires.own.1 c.take-held.ensures.view in (
      (away_with (board_id c.args.tools.now.board.now) (sizes_of c.args.tools.now.board.now) c.args.pass.now c.take-held.new.pass
          (others u) c.requires.own.0 c.take-held.ensures.own.0 c.take-held.ensures.own.1 t.parts).0,
      c.take-held.ensures.holds,
    )

pub stamp-requires-clause-received : goal.stamp-requires-clause-received
stamp-requires-clause-received g c =
    let t = away_taken (session_view c.args.pass.now) (session_view c.take-held.new.pass) c.bucket_of-bucket.result c.requires.own.0.3 c.requires.own.1 c.take-held.ensures.view in
    (subst (λ l. l ≡ lent (members l)) (sym t.farther_is) c.requires.received.0, subst (λ l. IsTrue (is_in (who (members l)) c.args.by.session)) (sym t.farther_is) c.requires.received.1)

pub stamp-requires-clause-plain : goal.stamp-requires-clause-plain
stamp-requires-clause-plain g c =
    let t = away_taken (session_view c.args.pass.now) (session_view c.take-held.new.pass) c.bucket_of-bucket.result c.requires.own.0.3 c.requires.own.1 c.take-held.ensures.view in
    subst (λ l. IsTrue (is_plain (part_of c.args.by.session (members l)).log)) (sym t.farther_is) c.requires.plain

pub stamp-requires-clause-both : goal.stamp-requires-clause-both
stamp-requires-clause-both g c = (away_taken (session_view c.args.pass.now) (session_view c.take-held.new.pass)
    c.bucket_of-bucket.result c.requires.own.0.3 c.requires.own.1 c.take-held.ensures.view).both

pub stamp-requires-clause-next : goal.stamp-requires-clause-next
stamp-requires-clause-next g c =
    let t = away_taken (session_view c.args.pass.now) (session_view c.take-held.new.pass) c.bucket_of-bucket.result c.requires.own.0.3 c.requires.own.1 c.take-held.ensures.view in
    c.requires.next ∙ ap (λ (p : CommitPart). suc (length p.history.list)) (sym t.commit_is)

pub stamp-requires-clause-by : goal.stamp-requires-clause-by
stamp-requires-clause-by g c =
    let t = away_taken (session_view c.args.pass.now) (session_view c.take-held.new.pass) c.bucket_of-bucket.result c.requires.own.0.3 c.requires.own.1 c.take-held.ensures.view in
    c.requires.by ∙ ap (λ l. writer_at c.args.by.session (members l)) (sym t.farther_is)

pub returns-clause-stamped : goal.returns-clause-stamped
returns-clause-stamped g c =
    let v = session_view c.args.pass.now in
    let u = session_view c.take-held.new.pass in
    let t = away_taken v u c.bucket_of-bucket.result c.requires.own.0.3 c.requires.own.1 c.take-held.ensures.view in
    stamped_one v u (session_view c.stamp.new.pass) (session_view c.give.new.pass) c.bucket_of-bucket.result
    c.args.by.session c.args.number c.args.rid t c.stamp.ensures.step c.give.ensures.view

pub stamp-requires-clause-mine : goal.stamp-requires-clause-mine
stamp-requires-clause-mine g c =
    let v = session_view c.args.pass.now in
    let u = session_view c.take-held.new.pass in
    let j = c.args.by.session in
    let backed = c.take-held.ensures.backed in
    let t = away_taken v u c.bucket_of-bucket.result c.requires.own.0.3 c.requires.own.1 c.take-held.ensures.view in
    let open_ = lent_open (sizes_of c.args.tools.now.board.now) backed.0 j c.bucket_of-bucket.result u c.args.rid backed.1 t.own t.both
    (subst (λ b. HoldsBucket b u) c.take-held.ensures.held.1 c.take-held.ensures.holds.has)
    (subst (λ l. l ≡ lent (members l)) (sym t.farther_is) c.requires.received.0) (subst (λ l. IsTrue (is_in (who (members l)) j)) (sym t.farther_is) c.requires.received.1)
    (sym (c.bucket_of-bucket.ensures.own ∙ here c.requires.store.2))
    (subst (λ l. IsSome (open_in c.args.rid (part_of j (members l)).log)) (sym t.farther_is) c.requires.mine)
    (ap (λ (p : CommitPart). is_stamped j c.args.rid p.stamped) t.commit_is ∙ c.requires.once) in
    subst (λ w. IsOpenBy w (held u c.args.rid)) (ap (λ l. writer_at j (members l)) t.farther_is ∙ sym c.requires.by) open_
  where
    here : store_buckets c.args.tools.now.store.now ≡ (sizes_of c.args.tools.now.board.now).buckets →
        bucket_of (store_buckets c.args.tools.now.store.now) c.args.rid ≡ bucket_of (sizes_of c.args.tools.now.board.now).buckets c.args.rid
    here e = ap (λ n. bucket_of n c.args.rid) e
