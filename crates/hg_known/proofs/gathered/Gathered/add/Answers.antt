use Rattle.std.proofs.Common.{subst}
use Rattle.hg_base.specs.Transcript.{commit_of}
use Rattle.hg_known.specs.Lines.{said_of}
use Rattle.hg_known.specs.Shown.{AddsAny}
use Rattle.hg_known.proofs.Closing.{its_own, others_own}
use Rattle.hg_known.proofs.gathered.Gathered.add.Goals as goal

pub returns-then-not-branch : goal.returns-then-not-branch
returns-then-not-branch c =
    λ earlier ps g opened few.
    let now = said_of c.args.said.now in
    let own = its_own c.args.self.now.own c.add.new.self earlier now g.own opened (c.in_ok-first.ensures.added earlier) in
    subst (AddsAny c.add_commit.new.commits ps (commit_of earlier now)) c.if-not-branch.true (c.in_ok-add_commit.ensures earlier ps own g.shows)

pub returns : goal.returns
returns c =
    λ earlier ps g opened few.
    let now = said_of c.args.said.now in
    let own = its_own c.args.self.now.own c.add.new.self earlier now g.own opened (c.in_ok-first.ensures.added earlier) in
    let added = subst (AddsAny c.add_commit.new.commits ps (commit_of earlier now)) c.if-not-branch.false (c.in_ok-add_commit.ensures earlier ps own g.shows) in (
      record {
        context = c.in_ok-keep.ensures earlier g.context;
        own = c.close.ensures.kept earlier (others_own c.args.self.now.own c.add.new.self earlier now g.own (c.in_ok-first.ensures.added earlier));
        versions = c.in_ok-add.ensures earlier g.versions opened (c.in_ok-first.ensures.first earlier (g.own now.session now.transaction opened)) few;
        shows = added.0;
      },
      added.1,
    )
