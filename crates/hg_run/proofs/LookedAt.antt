-- Sessions whose parts were with one of them and came back: what is known of them still.
use Rattle.std.proofs.Common.{◌≡◌, ℕ, suc, ◌+◌, ◌≤◌, ◌<◌, List, [], length, sym, ap, ◌∙◌, subst, arith}
use Rattle.std.specs.Prelude.{Bool, Option, get_or}
use Rattle.hg_base.specs.declared.line.Reply.{Reply}
use Rattle.hg_base.specs.declared.report.Kind.{Kind}
use Rattle.hg_base.specs.declared.report.Kind.TheVariants.{Group, Table, Interval}
use Rattle.hg_base.specs.declared.report.Sweep.{Sweep}
use Rattle.hg_base.specs.declared.statement.Statement.{Statement}
use Rattle.hg_base.specs.Transcript.{Rest, rest_after}
use Rattle.hg_base.proofs.ListFacts.{append_nil}
use Rattle.hg_core.specs.declared.log.LogEntry.{LogEntry}
use Rattle.hg_core.specs.Counters.{removed_all}
use Rattle.hg_core.specs.Events.{put}
use Rattle.hg_rule.specs.declared.view.Part.{Part}
use Rattle.hg_rule.specs.declared.view.Sizes.{Sizes}
use Rattle.hg_rule.specs.Facts.{IsAmong}
use Rattle.hg_rule.specs.Views.{part_number, pass_there, session_there, first_in}
use Rattle.hg_rule.proofs.Lists.{among_left}
use Rattle.hg_script.specs.Rules.{reading}
use Rattle.hg_session.specs.declared.engine.Engine.{Engine}
use Rattle.hg_session.specs.declared.session.Session.{Session}
use Rattle.hg_session.specs.Engines.{engine_sizes}
use Rattle.hg_session.specs.Finished.{logs_of}
use Rattle.hg_session.specs.Lent.{HasSeenMore}
use Rattle.hg_session.specs.Sessions.{view_of, left_of, cursor_of, seen_by}
use Rattle.hg_collectors.specs.declared.collectors.Collectors.{Collectors}
use Rattle.hg_collectors.specs.Collecting.{HaveMade, removed_of, view_in}
use Rattle.hg_collectors.specs.Rounding.{IsRoundBy, AreRounds}
use Rattle.hg_collectors.specs.Swept.{HasMetSessions}
use Rattle.hg_collectors.proofs.Driving.{rounds_append}
use Rattle.hg_run.specs.Asked.{IsReplied, HasReplied}
use Rattle.hg_run.specs.Caught.{HasCaughtUp, SeesAll}
use Rattle.hg_run.specs.Heard.{HasHeard}
use Rattle.hg_run.specs.Listed.{AreReady, KeepCursors, SawAt}
use Rattle.hg_run.proofs.Caught.{caught_kept}
use Rattle.hg_run.proofs.Cursors.{cursors_kept}
use Rattle.hg_run.proofs.Hearing.{seen_kept, heard_kept}
use Rattle.hg_run.proofs.Listing.{logs_same}
use Rattle.hg_run.proofs.Turns.{some_of}

module _ (e : Engine) (old new : List Session) (many : length new ≡ length old)
    (same : (d : Session) (k : ℕ) → k < length old → HasSeenMore e (get_or old k d) (get_or new k d)) where
  pub logs_kept : (i : ℕ) → i < length old → logs_of new ≡ logs_of old
  logs_kept i within =
      let d = some_of old i within in
      logs_same d old new many (λ k below. ap (λ (ps : List Part). (session_there (first_in ps)).log) (same d k below).parts)

  pub sees_kept : (i : ℕ) → i < length old → SeesAll i old i new
  sees_kept i within d x there =
      let kept = (same d i within).keeps.kept in
      subst (IsAmong x) (sym kept.1) (among_left x (seen_by (get_or old i d)) kept.0 there)

  pub cursors_back : KeepCursors old new
  cursors_back d k within = ap cursor_of (same d k within).keeps.same

  pub saw_kept : (seen i : ℕ) → i < length old → SawAt seen i old → SawAt seen i new
  saw_kept seen i within saw d = seen_kept seen (seen_by (get_or old i d)) (seen_by (get_or new i d)) (same d i within).keeps.kept (saw d)

  pub caught_back : (i : ℕ) → i < length old → HasCaughtUp i new → HasCaughtUp i old
  caught_back i within = caught_kept i old new many (λ k apart. ap (λ (l : ℕ → List LogEntry). l (suc k)) (logs_kept i within)) (sees_kept i within)

  pub ready_kept : (i : ℕ) (left : ℕ → ℕ) → AreReady e i left old → AreReady e i left new
  ready_kept i left r = record {
    many = many ∙ r.many;
    within = (let a = r.within in omega (arith, a, many));
    placed = λ d k within. (let below : k < length old = omega (arith, within, many) in record {
      own = (same d k below).own;
      number_is = ap part_number (same d k below).parts ∙ (r.placed d k below).number_is;
    });
    left_is = λ d k within. (let below : k < length old = omega (arith, within, many) in
        subst (λ n. left (suc k) ≤ n) (sym (ap left_of (same d k below).keeps.same)) (r.left_is d k below));
    heard = λ d. heard_kept (logs_of new) (view_of (get_or old i d)) (view_of (get_or new i d)) (subst (λ l. HasHeard l (view_of (get_or old i d))) (sym (logs_kept i r.within)) (r.heard d))
        (same d i r.within).keeps.kept;
  }

  pub replied_kept : (seen : ℕ) (reads : ℕ → Bool) (rest : ℕ → Option Rest) (first : List Session) (i : ℕ) (statement : Statement) (reply : Reply) → i < length old →
      HasReplied e seen reads rest first i statement reply old → HasReplied e seen reads rest first i statement reply new
  replied_kept seen reads rest first i statement reply within h = record {
    later = h.later;
    replied = subst (IsReplied (engine_sizes e).buckets (engine_sizes e).sessions (logs_of first) seen h.later (suc i) (rest (suc i)) statement reply) (sym (logs_kept i within)) h.replied;
    cursors = cursors_kept (put reads (suc i) (reading (reads (suc i)) statement)) (put rest (suc i) (rest_after statement reply.answer (rest (suc i)))) old new many cursors_back h.cursors;
    saw = saw_kept h.later i within h.saw;
    caught = λ caught. h.caught (caught_back i within caught);
    first = λ caught. h.first (caught_back i within caught);
  }

-- ---- collectors whose passes have met sessions

pub removed_met : (a b : Collectors) → ((k : Kind) → HasMetSessions (view_in k a) (view_in k b)) → (kind : Kind) → removed_of kind b ≡ removed_of kind a
removed_met a b met kind = λ i. by ((met Group).parts i) + by ((met Table).parts i) + by ((met Interval).parts i)
  where
    by : List Part → ℕ
    by parts = removed_all kind (pass_there (first_in parts)).visits

pub made_met : (z : Sizes) (long : ℕ) (a b c : Collectors) (sweeps : Kind → List Sweep) → HaveMade z long a sweeps b → ((k : Kind) → HasMetSessions (view_in k b) (view_in k c)) →
    HaveMade z long a sweeps c
made_met z long a b c sweeps made met k =
    subst (λ xs. AreRounds (IsRoundBy k z long) (view_in k a) xs (view_in k c)) (append_nil (sweeps k))
    (rounds_append (IsRoundBy k z long) (view_in k a) (view_in k b) (view_in k c) (sweeps k) [] (made k) (met k))
