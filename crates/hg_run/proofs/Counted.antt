-- What was counted between two statements of a conversation, and what is known after it.
use Rattle.std.proofs.Common.{◌≡◌, inl, inr, ℕ, suc, ◌+◌, ◌≤◌, ◌<◌, List, [], ◌∷◌, ◌++◌, length, None, sym, ap, ◌∙◌, subst, arith}
use Rattle.std.specs.Prelude.{get_or, is_some}
use Rattle.hg_base.specs.declared.line.Line.{Line}
use Rattle.hg_base.specs.declared.line.Totals.{Totals}
use Rattle.hg_base.specs.declared.report.Kind.{Kind}
use Rattle.hg_base.specs.declared.statement.Record.{Record}
use Rattle.hg_base.specs.History.{History}
use Rattle.hg_base.specs.Script.{Script, replay}
use Rattle.hg_base.specs.Sound.{all_said}
use Rattle.hg_base.specs.Transcript.{history_of}
use Rattle.hg_collectors.specs.declared.collectors.Collectors.{Collectors}
use Rattle.hg_collectors.specs.Collecting.{removed_of}
use Rattle.hg_collectors.specs.Swept.{told_of}
use Rattle.hg_core.specs.declared.log.LogEntry.{LogEntry}
use Rattle.hg_core.specs.Logs.{current}
use Rattle.hg_core.specs.Reading.{Follows, left_after}
use Rattle.hg_core.specs.Shown.{ShowsFirsts}
use Rattle.hg_exact.specs.Opening.{AreOpen}
use Rattle.hg_exact.specs.SoFar.{made_so_far, undone_so_far, AreFinal}
use Rattle.hg_headline.specs.Counted.{Closes}
use Rattle.hg_headline.specs.Following.{IsFollowing, AreTotalsBy}
use Rattle.hg_headline.specs.Logged.{Logged}
use Rattle.hg_headline.specs.Replayed.{HasReplayed}
use Rattle.hg_headline.proofs.Before.{logged_before}
use Rattle.hg_headline.proofs.Following.{following_ends}
use Rattle.hg_script.specs.Rules.{is_open, is_reading}
use Rattle.hg_session.specs.declared.engine.Engine.{Engine}
use Rattle.hg_session.specs.declared.session.Session.{Session}
use Rattle.hg_session.specs.Engines.{engine_sizes}
use Rattle.hg_session.specs.Finished.{logs_of}
use Rattle.hg_session.specs.Lent.{HasSeenMore}
use Rattle.hg_session.specs.Sessions.{seen_by}
use Rattle.hg_session.specs.SoFar.{AreSoFar}
use Rattle.hg_run.specs.Listed.{SawAt}
use Rattle.hg_run.specs.Heard.{HasSeen}
use Rattle.hg_run.specs.Live.{IsLive, left_in}
use Rattle.hg_run.specs.Untold.{HaveTold}
use Rattle.hg_run.proofs.Cursors.{cursors_kept}
use Rattle.hg_run.proofs.Final.{final_totals}
use Rattle.hg_run.proofs.Going.{told_more}
use Rattle.hg_run.proofs.LookedAt.{caught_back, cursors_back, logs_kept, ready_kept, saw_kept}
use Rattle.hg_run.proofs.RolledBack.{made_said, undone_said}

-- ---- in the midst

one_of : {X : Type 0} (xs : List X) (k : ℕ) → k < length xs → X
one_of [] k h = absurd (omega (arith, h))
one_of (x ∷ xs) k h = x

module _ (e : Engine) (old new : List Session) (many : length new ≡ length old)
    (same : (d : Session) (k : ℕ) → k < length old → HasSeenMore e (get_or old k d) (get_or new k d)) where
  -- all is known that was
  pub live_counted : (last : ℕ) (records : List Record) (lines : List Line) → IsLive e old last records lines → IsLive e new last records lines
  live_counted last records lines g =
      let z = engine_sizes e in
      let logs : logs_of new ≡ logs_of old = logs_kept e old new many same last g.ready.within in
      record {
        seen = g.seen;
        top = g.top;
        following = subst (λ l. IsFollowing z.buckets z.sessions l g.seen g.top records lines) (sym logs) g.following;
        firsts = λ caught. subst (λ l. Follows z.buckets ShowsFirsts (λ j. []) (λ j. None) records lines l) (sym logs) (g.firsts (caught_back e old new many same last g.ready.within caught));
        opened = λ j. subst (λ (l : ℕ → List LogEntry). AreOpen (is_open j records) (is_reading j records) (is_some (current (l j)))) (sym logs) (g.opened j);
        cursors = cursors_kept (λ j. is_reading j records) (left_after (λ j. None) records lines) old new many (cursors_back e old new many same) g.cursors;
        ready = ready_kept e old new many same last (left_in z records) g.ready;
        saw = saw_kept e old new many same g.seen last g.ready.within g.saw;
      }

-- what was counted is of a replay so far
module _ (e : Engine) (list : List Session) (last : ℕ) (script : Script) (lines : List Line) (totals : Totals) (k : AreSoFar e list totals) (g : IsLive e list last script.records lines) where
  replayed_so_far : HasReplayed (engine_sizes e).buckets (engine_sizes e).sessions k.history (logs_of list) g.top script.records lines
  replayed_so_far = following_ends (engine_sizes e).buckets (engine_sizes e).sessions k.history (logs_of list) g.seen g.top script.records lines g.following k.logged
      (most (g.saw (one_of list last g.ready.within)))
    where
      most : HasSeen g.seen (seen_by (get_or list last (one_of list last g.ready.within))) → g.seen ≤ length k.history
      most (inl none) = omega (arith, none)
      most (inr seen) = k.saw (one_of list last g.ready.within) last g.seen g.ready.within seen

  pub made_live : totals.made ≡ made_so_far (all_said replay script lines)
  made_live = k.counted.made ∙ made_said (engine_sizes e).buckets (engine_sizes e).sessions g.top k.history (logs_of list) script lines replayed_so_far

  pub undone_live : totals.undone ≡ undone_so_far (all_said replay script lines)
  undone_live = k.counted.undone ∙ undone_said (engine_sizes e).buckets (engine_sizes e).sessions g.top k.history (logs_of list) script lines replayed_so_far

-- ---- at the end

-- where each session has met in turn the one that ran last, and what was open was closed, in a history that the logs have then
pub live_final : (e : Engine) (old caught closed : List Session) (last seer : ℕ) (h : History) (script : Script) (lines : List Line) (collectors : Collectors) (totals : Totals) →
    IsLive e old last script.records lines → logs_of caught ≡ logs_of old → ((seen : ℕ) → SawAt seen last old → SawAt seen seer caught) → seer < length caught →
    ((j : ℕ) → Closes (logs_of caught j) (logs_of closed j)) → length closed ≡ length caught → ((seen : ℕ) → SawAt seen seer caught → SawAt seen seer closed) →
    Logged (engine_sizes e).buckets h (logs_of closed) → ((seen last : ℕ) → last < length closed → SawAt seen last closed → seen ≤ length h) →
    AreTotalsBy (engine_sizes e).sessions h (logs_of closed) (λ kind. removed_of kind collectors) totals → HaveTold collectors lines →
    AreFinal (all_said replay script lines) (history_of (all_said replay script lines)) totals
live_final e old caught closed last seer h script lines collectors totals g same saw within closes many kept logged seen counted told =
    let z = engine_sizes e in
    let inside : seer < length closed = omega (arith, within, many) in
    let most : g.seen ≤ length h = seen g.seen seer inside (kept g.seen (saw g.seen g.saw)) in
    let before : Logged z.buckets h (logs_of old) = subst (Logged z.buckets h) same (logged_before z.buckets h (logs_of caught) (logs_of closed) closes logged) in
    let r = following_ends z.buckets z.sessions h (logs_of old) g.seen g.top script.records lines g.following before most in
    final_totals z.buckets z.sessions g.top h (logs_of old) (logs_of closed) script lines (λ kind. removed_of kind collectors) totals r
    (λ j. subst (λ (l : ℕ → List LogEntry). Closes (l j) (logs_of closed j)) same (closes j)) counted told

-- ---- what the reports say

pub told_on : (before after : Collectors) (lines : List Line) (line : Line) → ((k : Kind) → removed_of k after ≡ removed_of k before + told_of k line.reply) → HaveTold before lines →
    HaveTold after (lines ++ line ∷ [])
told_on before after lines line gone told k = let more = told_more k lines line in let here = gone k in let first = told k in omega (arith, more, here, first)

pub told_kept : (before after : Collectors) (lines : List Line) → ((k : Kind) → removed_of k before ≤ removed_of k after) → HaveTold before lines → HaveTold after lines
told_kept before after lines kept told k = let here = kept k in let first = told k in omega (arith, here, first)
