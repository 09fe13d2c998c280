use Rattle.std.proofs.Common.{◌≡◌, ℕ, suc, ◌+◌, length, List, [], refl, ap, ◌∙◌, subst, sym, arith}
use Rattle.hg_base.specs.declared.rid.Rid.{Rid}
use Rattle.hg_base.specs.declared.writer.Writer.{Writer}
use Rattle.hg_core.specs.Versions.{IsOpenBy}
use Rattle.hg_core.specs.Contents.{look}
use Rattle.hg_rule.specs.declared.view.Part.{Part}
use Rattle.hg_rule.specs.declared.view.BucketPart.{BucketPart}
use Rattle.hg_rule.specs.Views.{seeing}
use Rattle.hg_rule.specs.Holding.{writer}
use Rattle.hg_rule.specs.Seats.{sizes_of, session_view}
use Rattle.hg_rule.specs.Writes.{stamping}
use Rattle.hg_trials.specs.Between.{own_bucket, own_commit, IsFreeFrom}
use Rattle.hg_trials.proofs.Between.{one_bucket, opened, free_after}
use Rattle.hg_trials.proofs.entering_tests.commit_one.Goals as goal

pub write-bucket-requires-clause-there : goal.write-bucket-requires-clause-there
write-bucket-requires-clause-there c = one_bucket (sizes_of c.args.board.now).buckets _ c.requires.sizes.1

pub commit_alone-seats-requires-clause-mine : goal.commit_alone-seats-requires-clause-mine
commit_alone-seats-requires-clause-mine c =
    let rid : Rid = record { table = record { 0 = 0 }; key = c.args.key } in
    let w : Writer = writer (session_view c.begin.new.pass) in
    let same : writer (session_view c.write-bucket.new.pass) ≡ w = ap (λ (ps : List Part). writer (seeing ps [] [])) c.write-bucket.ensures.parts in (
      one_bucket (sizes_of c.args.board.now).buckets _ c.requires.sizes.1,
      subst (λ x. IsOpenBy x (look rid (own_bucket c.write-bucket.result).content)) (sym same)
          (subst (λ (b : BucketPart). IsOpenBy w (look rid b.content)) (sym c.write-bucket.ensures.written) (opened w rid _ (own_bucket c.args.bucket) (c.requires.bucket.1 rid (omega arith)))),
    )

pub returns-clause-free : goal.returns-clause-free
returns-clause-free c =
    let rid : Rid = record { table = record { 0 = 0 }; key = c.args.key } in
    let w : Writer = writer (session_view c.begin.new.pass) in
    let n : ℕ = suc (length (own_commit c.args.commit).history.list) in
    let same : writer (session_view c.write-bucket.new.pass) ≡ w = ap (λ (ps : List Part). writer (seeing ps [] [])) c.write-bucket.ensures.parts in
    subst (λ (b : BucketPart). IsFreeFrom (c.args.key + 1) b.content) (sym (c.commit_alone-seats.ensures.bucket.1 ∙ (λ i. stamping n (same i) rid (c.write-bucket.ensures.written i))))
    (free_after c.args.key n w rid _ (own_bucket c.args.bucket) refl c.requires.bucket.1)
