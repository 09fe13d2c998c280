-- What is gathered of lines, one after the other.
use Rattle.std.specs.Prelude.{ℕ, List, [], ◌∷◌, ◌++◌, Bool, IfSome}
use Rattle.std.specs.List.{cons_option}
use Rattle.std.specs.Bool.{MatchBool}
use Rattle.hg_base.specs.History.{Commit}
use Rattle.hg_base.specs.Transcript.{Said, commit_of}
use Rattle.hg_known.specs.declared.gathered.Gathered.{Gathered}
use Rattle.hg_known.specs.declared.context.Wants.{Wants}
use Rattle.hg_known.specs.Context.{IsContext}
use Rattle.hg_known.specs.Ended.{AreOpenOwn}
use Rattle.hg_known.specs.Tallied.{AreTallied}
use Rattle.hg_known.specs.Shown.{Fits, Shows}

-- each part is that of these lines, newest first, which print these commits
pub record IsGathered (wants : Wants) (g : Gathered) (earlier : List Said) (ps : List (ℕ × Commit)) : Type 0 where
  pub context : IsContext wants g.context earlier
  pub own : AreOpenOwn g.own earlier
  pub versions : AreTallied g.versions earlier
  pub shows : Shows g.commits ps

-- a line is gathered after those, exactly where its commit, if it prints one, fits theirs
abbrev pub Gathers : Wants → Gathered → List Said → Said → List (ℕ × Commit) → Bool → Type 0
Gathers wants new earlier now ps fits =
    MatchBool fits (IsGathered wants new (now ∷ earlier) (ps ++ cons_option (commit_of earlier now) []) × IfSome (commit_of earlier now) (Fits ps)) (¬ IfSome (commit_of earlier now) (Fits ps))
