use Rattle.std.proofs.Common.{◌≡◌, ◌∷◌, [], get_or, sym, ap, ◌∙◌, subst, arith}
use Rattle.hg_base.specs.declared.rid.Rid.{Rid}
use Rattle.hg_core.specs.Contents.{bucket_of}
use Rattle.hg_rule.specs.Places.{HoldsBucket}
use Rattle.hg_rule.specs.Seats.{sizes_of, pass_view}
use Rattle.hg_store.specs.Stores.{held_number}
use Rattle.hg_store.proofs.Holding.{total_at}
use Rattle.hg_collectors.specs.Cutting.{AreIn, VisitsInOrder}
use Rattle.hg_collectors.proofs.Going.{first_of}
use Rattle.hg_collectors.proofs.One.{cuts_run, run_few, visits_run}
use Rattle.hg_collectors.proofs.cuts.cut_run.Given as given
use Rattle.hg_collectors.proofs.cuts.cut_run.Goals as goal

abbrev first : Rid
first = record { table = record { 0 = 0 }; key = 0 }

pub cut_held-gone-requires-clause-few : goal.cut_held-gone-requires-clause-few
cut_held-gone-requires-clause-few g c =
    let t = c.take-held.ensures.backed in
    let most = total_at (sizes_of c.args.board.now) t.0 (held_number c.take-held.result) (pass_view c.take-held.new.pass) t.1 c.take-held.ensures.holds.has in
    omega (arith, most, c.args.board.now.room.begins)

-- they are in the bucket that was taken
placed : (g : given.Over) (c : goal.After-give g) → AreIn (sizes_of c.args.board.now).buckets c.bucket_of.result c.args.rids.now
placed g c =
    let z = (sizes_of c.args.board.now).buckets in
    let one = c.requires.one in
    let at = first_of (λ r. bucket_of z r ≡ one.0) c.args.rids.now first c.requires.some one.1 in
    let same : c.bucket_of.result ≡ one.0 = c.bucket_of.ensures.own ∙ (ap (λ n. bucket_of n (get_or c.args.rids.now 0 first)) c.requires.buckets.1 ∙ at) in
    subst (λ b. AreIn z b c.args.rids.now) (sym same) one.1

pub returns-clause-cuts : goal.returns-clause-cuts
returns-clause-cuts g c =
    cuts_run (sizes_of c.args.board.now).buckets c.bucket_of.result c.args.bound c.cut_held-gone.result (pass_view c.args.pass.now) (pass_view c.take-held.new.pass)
    (pass_view c.cut_held-gone.new.pass) (pass_view c.give.new.pass) c.args.rids.now
    c.requires.own.1 c.take-held.ensures.view c.cut_held-gone.ensures.own.1 c.cut_held-gone.ensures.cuts c.give.ensures.view (placed g c)

pub returns-clause-few : goal.returns-clause-few
returns-clause-few g c =
    let x = pass_view c.take-held.new.pass in
    let t = c.take-held.ensures.backed in
    run_few (sizes_of c.args.board.now).buckets c.bucket_of.result c.args.bound c.cut_held-gone.result (pass_view c.args.pass.now) x (pass_view c.cut_held-gone.new.pass)
    (pass_view c.give.new.pass) c.args.rids.now
    c.requires.own.1 c.take-held.ensures.view c.cut_held-gone.ensures.own.1 c.cut_held-gone.ensures.cuts c.give.ensures.view (placed g c)
    (sizes_of c.args.board.now) t.0 t.1 c.args.board.now.room (subst (λ n. HoldsBucket n x) c.take-held.ensures.held.1 c.take-held.ensures.holds.has)

pub returns-clause-visits : goal.returns-clause-visits
returns-clause-visits g c = λ b all.
    let z = (sizes_of c.args.board.now).buckets in
    let at = first_of (λ r. bucket_of z r ≡ b) c.args.rids.now first c.requires.some all in
    let taken = first_of (λ r. bucket_of z r ≡ c.bucket_of.result) c.args.rids.now first c.requires.some (placed g c) in
    subst (λ n. VisitsInOrder (n ∷ []) (pass_view c.args.pass.now) (pass_view c.give.new.pass)) (sym taken ∙ at)
    (visits_run z c.bucket_of.result c.args.bound c.cut_held-gone.result (pass_view c.args.pass.now) (pass_view c.take-held.new.pass)
    (pass_view c.cut_held-gone.new.pass) (pass_view c.give.new.pass) c.args.rids.now
    c.requires.own.1 c.take-held.ensures.view c.cut_held-gone.ensures.own.1 c.cut_held-gone.ensures.cuts c.give.ensures.view (placed g c))
