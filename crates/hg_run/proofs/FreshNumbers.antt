-- What an answered statement shows, where its session has heard all logs.
use Rattle.std.proofs.Common.{◌≡◌, ℕ, suc, ◌<◌, ◌≤◌, List, [], ◌∷◌, Bool, true, false, Option, Some, None, refl, sym, ap, ◌∙◌, subst, arith}
use Rattle.std.specs.Prelude.{◌&&◌, is_some, IfSome, option_map}
use Rattle.std.specs.Option.{option_or}
use Rattle.hg_base.specs.declared.report.Sweep.{Sweep}
use Rattle.hg_base.specs.declared.statement.Statement.{Statement}
use Rattle.hg_base.specs.declared.statement.Statement.TheVariants.{Begin, Get, Put, Del, Scan, CursorOpen, Fetch, CursorClose, Commit as CommitIt, Rollback, Gc}
use Rattle.hg_base.specs.declared.line.Answer.{Answer}
use Rattle.hg_base.specs.declared.line.Answer.TheVariants.{Newer}
use Rattle.hg_base.specs.declared.line.Reply.{Reply}
use Rattle.hg_base.specs.Lists.{Each, present}
use Rattle.hg_base.specs.Transcript.{committed_by, stored_by}
use Rattle.hg_base.proofs.ListFacts.{if_some_keeps}
use Rattle.hg_core.specs.declared.log.LogEntry.{LogEntry}
use Rattle.hg_core.specs.Logs.{current, own_writes}
use Rattle.hg_core.specs.Reading.{Unprinted, Fits, is_alone}
use Rattle.hg_rule.specs.declared.view.View.{View}
use Rattle.hg_tracker.specs.Begun.{AtMost}
use Rattle.hg_headline.specs.Timely.{snapshot_in, newer_in, mark_in, commit_in, reads_in}
use Rattle.hg_headline.specs.Following.{IsOver, IsFreshIn}
use Rattle.hg_headline.specs.Ran.{LeavesGc}
use Rattle.hg_headline.proofs.Reports.{no_report}
use Rattle.hg_session.specs.Replies.{IsNext}
use Rattle.hg_run.specs.Heard.{HasHeard, HasSeen}
use Rattle.hg_run.specs.Asked.{collector_asked}
use Rattle.hg_run.proofs.Hearing.{over_at_most}

-- ---- what it doesn't print

-- a statement of a session's own is no `gc`
pub leaves_gc : (s : Statement) (a : Answer) → collector_asked s ≡ None → LeavesGc s a
leaves_gc (Gc kind) a h = absurd (let z : Some kind ≡ None = h in cc)
leaves_gc (Begin scope) a h = tt
leaves_gc (Get r) a h = tt
leaves_gc (Put r row) a h = tt
leaves_gc (Del r) a h = tt
leaves_gc (Scan t low high) a h = tt
leaves_gc (CursorOpen t low high) a h = tt
leaves_gc (Fetch n) a h = tt
leaves_gc CursorClose a h = tt
leaves_gc CommitIt a h = tt
leaves_gc Rollback a h = tt

pub no_mark : (buckets : ℕ) (u : Unprinted) (log : List LogEntry) (s : Statement) (reply : Reply) → collector_asked s ≡ None → Fits buckets u log s reply → mark_in reply ≡ None
no_mark buckets u log s reply other fits = ap (λ (r : Option Sweep). option_map (λ sweep. sweep.mark) r)
    (no_report buckets u (own_writes log) s reply.answer (leaves_gc s reply.answer other) fits.answer)

-- a reply with a commit number names no newer one
pub stored_is_not_newer : (s : Statement) (c : ℕ) → stored_by s (Newer c) ≡ None
stored_is_not_newer (Put r row) c = refl
stored_is_not_newer (Del r) c = refl
stored_is_not_newer _ c = refl

pub commit_is_not_newer : (s : Statement) (c : ℕ) → committed_by s (Newer c) ≡ None
commit_is_not_newer CommitIt c = refl
commit_is_not_newer _ c = refl

pub newer_no_commit : (alone : Bool) (s : Statement) (number : Option ℕ) (c : ℕ) → is_some number ≡ (alone && is_some (stored_by s (Newer c))) → option_or number (committed_by s (Newer c)) ≡ None
newer_no_commit alone s None c e = commit_is_not_newer s c
newer_no_commit false s (Some n) c e = absurd (let k : true ≡ false = e in cc)
newer_no_commit true s (Some n) c e = absurd (let k : true ≡ false = e ∙ ap is_some (stored_is_not_newer s c) in cc)

-- what a reply with a commit number has read is its snapshot alone
pub reads_snapshot : (n : ℕ) (s : Statement) (alone : Bool) (at : Option ℕ) (a : Answer) (number : Option ℕ) (c : ℕ) → is_some number ≡ (alone && is_some (stored_by s a)) →
    option_or number (committed_by s a) ≡ Some c → mark_in (record { at = at; answer = a; number = number }) ≡ None →
    IfSome (snapshot_in (record { at = at; answer = a; number = number })) (λ m. m ≤ n) → Each (λ m. m ≤ n) (reads_in (record { at = at; answer = a; number = number }))
reads_snapshot n s alone at (Newer m) number c e some mark below = absurd (let k : None ≡ Some c = sym (newer_no_commit alone s number m e) ∙ some in cc)
reads_snapshot n s alone at a number c e some mark below = go (snapshot_in (record { at = at; answer = a; number = number })) (mark_in (record { at = at; answer = a; number = number })) mark below
  where
    go : (o m : Option ℕ) → m ≡ None → IfSome o (λ m. m ≤ n) → Each (λ m. m ≤ n) (present (o ∷ None ∷ m ∷ []))
    go None None e k = tt
    go (Some x) None e k = (k, tt)
    go o (Some m) e k = absurd (let z : Some m ≡ None = e in cc)

-- ---- its numbers are fresh

pub fresh_heard : (buckets : ℕ) (u : Unprinted) (logs : ℕ → List LogEntry) (log : List LogEntry) (seen : ℕ) (v : View) (s : Statement) (reply : Reply) → collector_asked s ≡ None →
    Fits buckets u log s reply → HasHeard logs v → HasSeen seen v.sights → IfSome (snapshot_in reply) (λ at. Each (AtMost at) v.sights) →
    IfSome (commit_in s reply) (IsNext v.sights (snapshot_in reply)) →
    IfSome (newer_in reply) (λ c. 0 < c) → IsFreshIn logs seen seen s reply
fresh_heard buckets u logs log seen v s reply other fits heard saw snapshot commit newer =
    let mark : mark_in reply ≡ None = no_mark buckets u log s reply other fits in
    record {
      grows = omega arith;
      snapshot = if_some_keeps (snapshot_in reply) (λ at. Each (AtMost at) v.sights) (λ at. IsOver logs seen at) (λ at k. over_at_most logs seen v at heard saw k) snapshot;
      mark = subst (λ m. IfSome m (λ x. IsOver logs seen x × (x ≤ seen))) (sym mark) tt;
      newer = newer;
      commit = go (commit_in s reply) refl commit;
    }
  where
    go : (c : Option ℕ) → commit_in s reply ≡ c → IfSome c (IsNext v.sights (snapshot_in reply)) → IfSome c (λ c. (n : ℕ) × (c ≡ suc n) × IsOver logs seen n × Each (λ m. m ≤ n) (reads_in reply))
    go None e k = tt
    go (Some c) e k = (
      k.before,
      k.next,
      over_at_most logs seen v k.before heard saw k.over,
      reads_snapshot k.before s
          (is_alone (current log) s) reply.at reply.answer reply.number c fits.number e (no_mark buckets u log s reply other fits) k.begun,
    )
