-- What a pass is still, with a bucket or the committer's part and without; and what a look says that refused nothing.
use Rattle.std.proofs.Common.{◌≡◌, ℕ, List, [], ◌∷◌, sym, ap, ◌∙◌, subst}
use Rattle.atomic_table.specs.Seated.{TableId as BoardId}
use Rattle.hg_core.specs.Phases.{IsSession}
use Rattle.hg_core.specs.Logs.{begans}
use Rattle.hg_rule.specs.declared.passes.SessionPass.{SessionPass}
use Rattle.hg_rule.specs.declared.view.BucketPart.{BucketPart}
use Rattle.hg_rule.specs.declared.view.CommitPart.{CommitPart}
use Rattle.hg_rule.specs.declared.view.SessionPart.{SessionPart}
use Rattle.hg_rule.specs.declared.view.Part.{Part}
use Rattle.hg_rule.specs.declared.view.Part.TheVariants.{OfSession, OfBucket, OfCommit, OfPass, Away}
use Rattle.hg_rule.specs.declared.view.View.{View}
use Rattle.hg_rule.specs.declared.view.Sizes.{Sizes}
use Rattle.hg_rule.specs.Views.{number, part_number, session, session_there, since, since_there, pass, first_in, after_first, others, HasSession, HasPass, HasAway}
use Rattle.hg_rule.specs.Moves.{put_in, joined}
use Rattle.hg_rule.specs.Holding.{beyond, bucket}
use Rattle.hg_rule.specs.Places.{arrive_first, depart, departing, with_bucket, without_bucket}
use Rattle.hg_rule.specs.Seats.{session_view, session_rest, IsSeatOf, IsSessionOf, IsAwayOf}

-- ---- what the parts are

-- v's session comes first in a view of these parts
has_session : (v : View) (j : ℕ) (s : SessionPart) (os : List Part) → v.parts ≡ OfSession j s ∷ os → HasSession v × (number v ≡ j) × (session v ≡ s)
has_session v j s os e =
    let n : number v ≡ j = ap part_number e in
    let p : session v ≡ s = ap (λ (ps : List Part). session_there (first_in ps)) e in
    let o : others v ≡ os = ap after_first e in
    (e ∙ (λ i. OfSession (sym n i) (sym p i) ∷ sym o i), n, p)

-- a session's pass is still one where its view has the same part first
pub still_session : (t : BoardId) (z : Sizes) (p q : SessionPass) (os : List Part) → IsSessionOf t z p → IsSeatOf t q.seat → session_rest q ≡ session_rest p
    → (session_view q).parts ≡ OfSession (number (session_view p)) (session (session_view p)) ∷ os → IsSessionOf t z q
still_session t z p q os own seat rest e =
    let h = has_session (session_view q) (number (session_view p)) (session (session_view p)) os e in (
      seat,
      (h.1 ∙ (own.1.0 ∙ sym (ap (λ x. x.0) rest)), ap (λ x. x.1) rest ∙ (own.1.1 ∙ ap (λ s. begans s.log) (sym h.2))),
      subst (IsSession z.sessions) (sym h.1) own.2,
      h.0,
    )

-- ---- with a bucket, and without

pub session_arrives : (v w u : View) (b : ℕ) (part : BucketPart) → HasSession v → w.parts ≡ OfBucket b part ∷ [] → u ≡ with_bucket v w →
    u.parts ≡ OfSession (number v) (session v) ∷ OfBucket b part ∷ others v
session_arrives v w u b part is only e = ap (λ (x : View). x.parts) e ∙ (λ i. put_in (arrive_first (part_number (only i)) (is i)) (only i))

pub session_departs : (v u : View) → HasSession v → u ≡ without_bucket v → u.parts ≡ OfSession (number v) (session v) ∷ beyond v
session_departs v u is e = ap (λ (x : View). x.parts) e ∙ (λ i. depart (bucket v).content (first_in (is i)) ∷ beyond v)

pub pass_departs : (v u : View) → HasPass v → u ≡ without_bucket v → u.parts ≡ OfPass (number v) (departing (bucket v).content (pass v)) ∷ beyond v
pass_departs v u is e = ap (λ (x : View). x.parts) e ∙ (λ i. depart (bucket v).content (first_in (is i)) ∷ beyond v)

-- ---- with the committer's part, and without

pub pass_joins : (v w u : View) (part : CommitPart) → HasPass v → w.parts ≡ OfCommit part ∷ [] → u ≡ joined v w → u.parts ≡ OfPass (number v) (pass v) ∷ OfCommit part ∷ others v
pass_joins v w u part is only e = ap (λ (x : View). x.parts) e ∙ (λ i. put_in (is i) (only i))

-- ---- a session's pass whose own part was handed over

has_away : (v : View) (j n : ℕ) (s : SessionPart) (os : List Part) → v.parts ≡ Away j s n ∷ os → HasAway v × (number v ≡ j) × (session v ≡ s) × (since v ≡ n)
has_away v j n s os e =
    let a : number v ≡ j = ap part_number e in
    let p : session v ≡ s = ap (λ (ps : List Part). session_there (first_in ps)) e in
    let m : since v ≡ n = ap (λ (ps : List Part). since_there (first_in ps)) e in
    let o : others v ≡ os = ap after_first e in
    (e ∙ (λ i. Away (sym a i) (sym p i) (sym m i) ∷ sym o i), a, p, m)

pub still_away : (t : BoardId) (z : Sizes) (p q : SessionPass) (os : List Part) → IsAwayOf t z p → IsSeatOf t q.seat → session_rest q ≡ session_rest p
    → (session_view q).parts ≡ Away (number (session_view p)) (session (session_view p)) (since (session_view p)) ∷ os → IsAwayOf t z q
still_away t z p q os own seat rest e =
    let h = has_away (session_view q) (number (session_view p)) (since (session_view p)) (session (session_view p)) os e in (
      seat,
      (h.1 ∙ (own.1.0 ∙ sym (ap (λ x. x.0) rest)), ap (λ x. x.1) rest ∙ (own.1.1 ∙ ap (λ s. begans s.log) (sym h.2))),
      subst (IsSession z.sessions) (sym h.1) own.2,
      h.0,
    )
