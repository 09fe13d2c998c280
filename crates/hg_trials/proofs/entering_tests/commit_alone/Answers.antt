use Rattle.std.proofs.Common.{rules, ◌≡◌, ◌∷◌, [], sym, subst}
use Rattle.hg_rule.specs.Holding.{beyond, commit}
use Rattle.hg_rule.specs.Writes.{listing}
use Rattle.hg_rule.specs.Handing.{Members, members, flag, MayPublish}
use Rattle.hg_rule.specs.Seats.{session_view}
use Rattle.hg_trials.specs.Between.{own_session, own_commit}
use Rattle.hg_trials.proofs.Between.{may_alone}
use Rattle.hg_trials.proofs.entering_tests.commit_alone.Goals as goal

pub publish-requires-clause-may : goal.publish-requires-clause-may
publish-requires-clause-may c =
    let v = session_view c.split_bucket-bucket.new.pass in
    let j = c.args.pass.now.number in
    let who : members (beyond v) ≡ flag j ((j, own_session c.args.pass.now) ∷ []) = search rules in
    let list : (commit v).stamped ≡ (listing j c.args.rid (own_commit c.args.commit)).stamped = search rules in
    subst (λ l. MayPublish (members (beyond v)) l) (sym list)
    (subst (λ (ms : Members). MayPublish ms (listing j c.args.rid (own_commit c.args.commit)).stamped) (sym who)
    (may_alone j (own_session c.args.pass.now) (own_commit c.args.commit) c.args.rid c.requires.open.0.0 c.requires.open.0.1 c.requires.only c.requires.commit.1))
