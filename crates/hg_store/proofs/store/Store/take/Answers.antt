use Rattle.std.proofs.Common.{◌≡◌, [], ◌∷◌, refl, subst}
use Rattle.hg_rule.specs.declared.view.Part.TheVariants.{OfBucket}
use Rattle.hg_rule.specs.Views.{bucket_there, first_in}
use Rattle.hg_rule.specs.Seats.{view, bucket_view, sizes_of}
use Rattle.hg_rule.specs.Places.{HoldsBucket}
use Rattle.hg_store.proofs.Holding.{taken_holds}
use Rattle.hg_store.proofs.store.Store.take.Goals as goal

pub returns-clause-holds : goal.returns-clause-holds
returns-clause-holds g c =
    let seat = c.take-slot.result.0.seat in
    let part = bucket_there (first_in (bucket_view seat).parts) in
    let fits = c.take-slot.ensures.fits in
    let x = view (g.P.Pass.seat_of c.join_bucket.new.pass) in
    let only = subst (λ b. (bucket_view seat).parts ≡ OfBucket b part ∷ []) fits.1.0 fits.0.1 in
    taken_holds (sizes_of c.args.board.now) c.join_bucket.result (view (g.P.Pass.seat_of c.args.pass.now))
    (bucket_view seat) x c.args.bucket part _ c.requires.own.1 only c.join_bucket.ensures.view
    (subst (λ b. HoldsBucket b x) fits.1.0 c.join_bucket.ensures.holds) c.join_bucket.ensures.backed refl fits.1.1
