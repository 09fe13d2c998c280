-- What a session's pass that has heard all logs knows.
use Rattle.std.proofs.Common.{◌≡◌, ℕ, ◌<◌, ◌≤◌, ◌⊎◌, inl, inr, List, [], ◌∷◌, ◌++◌, length, false, refl, sym, ◌∙◌, subst, arith}
use Rattle.hg_base.specs.declared.writer.Writer.{Writer}
use Rattle.hg_base.specs.Lists.{Each}
use Rattle.hg_core.specs.declared.log.LogEntry.{LogEntry}
use Rattle.hg_core.specs.State.{CoreState}
use Rattle.hg_core.specs.Events.{put}
use Rattle.hg_core.proofs.Indices.{at_index, put_here, put_else}
use Rattle.hg_rule.specs.declared.view.Part.TheVariants.{OfSession}
use Rattle.hg_rule.specs.declared.view.Sight.{Sight}
use Rattle.hg_rule.specs.declared.view.Sight.TheVariants.{Saw, Heard}
use Rattle.hg_rule.specs.declared.view.View.{View}
use Rattle.hg_rule.specs.declared.view.Sizes.{Sizes}
use Rattle.hg_rule.specs.Facts.{IsAmong, StartsWith, Shown, groups, IsHeard}
use Rattle.hg_rule.specs.Moves.{joined, meeting, put_in}
use Rattle.hg_rule.specs.Agreed.{IsMet}
use Rattle.hg_rule.specs.Views.{number, session, HasOnlySession}
use Rattle.hg_rule.proofs.Lists.{among_left}
use Rattle.hg_tracker.specs.Begun.{AtMost}
use Rattle.hg_store.specs.Ends.{HasNoEnd}
use Rattle.hg_headline.specs.Logged.{Logged}
use Rattle.hg_core.specs.Logs.{has_end}
use Rattle.hg_headline.specs.Following.{AreUpTo, IsOver, KnowsOpen}
use Rattle.hg_headline.proofs.OpenWrites.{knows_open}
use Rattle.hg_headline.proofs.OverBuckets.{state_logged}
use Rattle.hg_session.specs.Finished.{AreAmong}
use Rattle.hg_rule.proofs.Growing.{among_later}
use Rattle.hg_collectors.proofs.Among.{of_among}
use Rattle.hg_run.specs.Heard.{HasLog, HasHeard, HasSeen}

-- ---- what is known of every log

pub heard_log : (logs : ℕ → List LogEntry) (v : View) (P : Sight → Type 0) (k : ℕ) → HasHeard logs v → Each P v.sights → P (Heard k []) → P (Heard k (logs k))
heard_log logs v P k h each empty = go (h k)
  where
    go : (logs k ≡ []) ⊎ IsAmong (Heard k (logs k)) v.sights → P (Heard k (logs k))
    go (inl e) = subst (λ l. P (Heard k l)) (sym e) empty
    go (inr i) = of_among P (Heard k (logs k)) v.sights each i

-- a begin: its snapshot is at or over every number in them
pub heard_at_most : (logs : ℕ → List LogEntry) (v : View) (n : ℕ) → HasHeard logs v → Each (AtMost n) v.sights → AreUpTo n logs
heard_at_most logs v n h each k = heard_log logs v (AtMost n) k h each tt

-- and over every group that was seen
pub seen_at_most : (seen n : ℕ) (sights : List Sight) → HasSeen seen sights → Each (AtMost n) sights → seen ≤ n
seen_at_most seen n sights (inl e) each = omega (arith, e)
seen_at_most seen n sights (inr (h, e, i)) each = let most : length h ≤ n = of_among (AtMost n) (Saw (groups h)) sights each i in omega (arith, e, most)

pub over_at_most : (logs : ℕ → List LogEntry) (seen : ℕ) (v : View) (n : ℕ) → HasHeard logs v → HasSeen seen v.sights → Each (AtMost n) v.sights → IsOver logs seen n
over_at_most logs seen v n h saw each = record { entries = heard_at_most logs v n h each; groups = seen_at_most seen n v.sights saw each }

-- a write that is refused: the other's transaction has no end in its log
pub heard_goes : (logs : ℕ → List LogEntry) (v : View) (w : Writer) → HasHeard logs v → Each (HasNoEnd w) v.sights → has_end w.transaction (logs w.session) ≡ false
heard_goes logs v w h each = heard_log logs v (HasNoEnd w) w.session h each (λ e. refl) refl

-- ---- how it is kept

-- as the first record finds it
pub heard_none : (logs : ℕ → List LogEntry) (v : View) → ((k : ℕ) → logs k ≡ []) → HasHeard logs v
heard_none logs v none k = inl (none k)

-- the session of a record meets the one of the record before
pub heard_met : (logs : ℕ → List LogEntry) (v w : View) → HasHeard logs w → HasHeard logs (meeting v w)
heard_met logs v w h k = go (h k)
  where
    go : (logs k ≡ []) ⊎ IsAmong (Heard k (logs k)) w.sights → (logs k ≡ []) ⊎ IsAmong (Heard k (logs k)) (v.sights ++ w.sights)
    go (inl e) = inl e
    go (inr i) = inr (among_later (Heard k (logs k)) v.sights w.sights i)

-- what was seen is seen where all of that is
pub seen_among : (n : ℕ) (xs ys : List Sight) → AreAmong xs ys → HasSeen n xs → HasSeen n ys
seen_among n xs ys all (inl e) = inl e
seen_among n xs ys all (inr (h, e, i)) = inr (h, e, all (Saw (groups h)) i)

pub seen_kept : (n : ℕ) (xs ys : List Sight) → StartsWith ys xs → HasSeen n xs → HasSeen n ys
seen_kept n xs ys kept s = seen_among n xs ys (λ x i. subst (IsAmong x) (sym kept.1) (among_left x xs kept.0 i)) s

-- its steps keep what it heard
pub heard_kept : (logs : ℕ → List LogEntry) (v w : View) → HasHeard logs v → StartsWith w.sights v.sights → HasHeard logs w
heard_kept logs v w h kept k = go (h k)
  where
    go : (logs k ≡ []) ⊎ IsAmong (Heard k (logs k)) v.sights → (logs k ≡ []) ⊎ IsAmong (Heard k (logs k)) w.sights
    go (inl e) = inl e
    go (inr i) = inr (subst (IsAmong (Heard k (logs k))) (sym kept.1) (among_left (Heard k (logs k)) v.sights kept.0 i))

-- its statement has given it the log l, which it has heard itself
pub heard_more : (logs : ℕ → List LogEntry) (v w : View) (j : ℕ) (l : List LogEntry) → HasHeard logs v → StartsWith w.sights v.sights → IsHeard j l w.sights → HasHeard (put logs j l) w
heard_more logs v w j l h kept now = at_index j (λ k. IsHeard k (put logs j l k) w.sights)
    (subst (λ m. IsHeard j m w.sights) (sym (put_here logs j l)) now)
    (λ k z. subst (λ m. IsHeard k m w.sights) (sym (put_else logs j k l z)) (heard_kept logs v w h kept k))

-- ---- what a meeting tells of a refused write

-- Session j, after a write that was refused for another's, meets the other's session, whose log is as it was.
pub met_open : (z : Sizes) (logs : ℕ → List LogEntry) (v w : View) (after : List LogEntry) (o : Writer) → 0 < z.buckets → IsMet z (joined v w) → HasOnlySession v →
    (session v).log ≡ after → HasLog logs w → number w ≡ o.session → has_end o.transaction (logs o.session) ≡ false →
    KnowsOpen z.buckets logs (number v) after o
met_open z logs v w after o some met only own other same goes =
    let s : CoreState = met.backed.state in
    let buckets : s.buckets ≡ z.buckets = met.backed.sized.buckets in
    let logged : Logged s.buckets s.history s.log = state_logged s met.backed.steady (subst (λ n. 0 < n) (sym buckets) some) in
    let parts : Each (Shown s) (OfSession (number v) (session v) ∷ (w.parts ++ [])) = subst (λ ps. Each (Shown s) (put_in ps w.parts)) only met.backed.true_of.parts in
    let theirs : Each (Shown s) (OfSession (number w) (session w) ∷ []) = subst (λ ps. Each (Shown s) (ps ++ [])) other.only parts.1 in
    let there : s.log o.session ≡ logs o.session = subst (λ k. s.log k ≡ logs k) same (theirs.0.1.0 ∙ other.own) in
    subst (λ n. KnowsOpen n logs (number v) after o) buckets (knows_open s.buckets s.history logs s.log (number v) after o logged (parts.0.1.0 ∙ own) there goes)
