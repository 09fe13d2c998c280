use Rattle.std.proofs.Common.{◌≡◌, ◌∷◌, sym, ap, ◌∙◌, subst, rules}
use Rattle.std.specs.Prelude.{IsSome, false}
use Rattle.hg_core.specs.Contents.{bucket_of}
use Rattle.hg_core.specs.Logs.{open_in}
use Rattle.hg_rule.specs.declared.view.SessionPart.{SessionPart}
use Rattle.hg_rule.specs.declared.view.Part.TheVariants.{OfBucket}
use Rattle.hg_rule.specs.Views.{number, session, HasSession}
use Rattle.hg_rule.specs.Holding.{bucket, beyond, bucket_number, HasBucket}
use Rattle.hg_rule.specs.Seats.{session_view, sizes_of}
use Rattle.hg_store.proofs.Holding.{number_is}
use Rattle.hg_store.proofs.Mine.{mine_unstamped}
use Rattle.hg_cursor.proofs.Trips.{first_session, arrived}
use Rattle.hg_session.proofs.Undoing.{undid_once}
use Rattle.hg_session.proofs.rollback.undo_one.Goals as goal

pub undo-requires-clause-mine : goal.undo-requires-clause-mine
undo-requires-clause-mine g c =
    let v = session_view c.args.pass.now in
    let u = session_view c.take-held.new.pass in
    let b = c.bucket_of-bucket.result in
    let h = arrived v u b c.requires.only c.take-held.ensures.view in
    let s = first_session u (number v) (session v) _ h.parts in
    let holds = c.take-held.ensures.holds.has in
    let num = number_is _ u holds in
    let has : HasBucket u = holds.1.0 ∙ (λ i. OfBucket (sym num i) (bucket u) ∷ beyond u) in
    let own : HasSession u = search rules in
    let here : bucket_of (sizes_of c.board-board.result.now).buckets c.args.rid ≡ bucket_number u = search rules in
    let some : IsSome (open_in c.args.rid (session u).log) = subst (λ (p : SessionPart). IsSome (open_in c.args.rid p.log)) (sym s) c.requires.mine in
    let bare : (session u).stamped ≡ false = ap (λ (p : SessionPart). p.stamped) s ∙ c.requires.unstamped in
    mine_unstamped (sizes_of c.board-board.result.now) c.take-held.ensures.backed.0 u c.take-held.ensures.backed.1 own has c.args.rid here some bare

pub returns-clause-undone : goal.returns-clause-undone
returns-clause-undone g c = undid_once (session_view c.args.pass.now) (session_view c.take-held.new.pass) (session_view c.undo.new.pass)
    (session_view c.give.new.pass) c.bucket_of-bucket.result c.args.rid c.requires.only c.take-held.ensures.view c.undo.ensures.step c.give.ensures.view

pub give-requires-clause-own : goal.give-requires-clause-own
give-requires-clause-own g c = c.undo.ensures.holds.0.0.0

pub give-requires-clause-holds : goal.give-requires-clause-holds
give-requires-clause-holds g c = c.undo.ensures.holds.0.1
