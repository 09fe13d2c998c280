-- All lines: from the history and the logs to what the printed lines have to be.
use Rattle.std.proofs.Common.{◌≡◌, ℕ, ◌<◌, ◌≤◌, List, [], ◌∷◌, ◌++◌, length, Bool, true, false, Option, Some, None, refl, sym, ap, ◌∙◌, subst, arith}
use Rattle.std.specs.Prelude.{◌==◌, filter, filter_map, if◌then◌else◌, nat_le, IfSome, IsSome}
use Rattle.std.specs.List.{list_any}
use Rattle.std.proofs.lemmas.Bool.Decides.{nat_tests}
use Rattle.hg_base.specs.declared.image.Image.{Image}
use Rattle.hg_base.specs.declared.report.Told.{Told}
use Rattle.hg_base.specs.declared.report.Sweep.{Sweep}
use Rattle.hg_base.specs.declared.statement.Record.{Record}
use Rattle.hg_base.specs.declared.statement.Statement.{Statement}
use Rattle.hg_base.specs.declared.statement.Statement.TheVariants.{Begin, CursorOpen, Gc}
use Rattle.hg_base.specs.declared.line.Reply.{Reply}
use Rattle.hg_base.specs.declared.line.Line.{Line}
use Rattle.hg_base.specs.Lists.{Each, EachAfter, onto}
use Rattle.hg_base.specs.Script.{Mode}
use Rattle.hg_base.specs.History.{History, Commit, last_image, image_in}
use Rattle.hg_base.specs.Transcript.{Said, open_after, next_after, standing, said_after, committed, commits, history_of, stored_in}
use Rattle.hg_base.specs.Transcript.{numbers_in as printed_numbers}
use Rattle.hg_base.specs.Shape.{report_of}
use Rattle.hg_base.specs.Replies.{IsReply}
use Rattle.hg_base.specs.Conflicts.{ShowsConflict, OnReplay}
use Rattle.hg_base.specs.Freshness.{IsReported, IsHeld, IsExact, prints}
use Rattle.hg_base.specs.Sound.{AreRight, IsRight}
use Rattle.hg_base.proofs.ListFacts.{each_keeps, if_some_keeps, match_keeps}
use Rattle.hg_core.specs.declared.log.LogEntry.{LogEntry}
use Rattle.hg_core.specs.Logs.{current}
use Rattle.hg_core.specs.Judged.{Judged}
use Rattle.hg_core.specs.Replies.{AreReplied}
use Rattle.hg_core.specs.Events.{put}
use Rattle.hg_core.specs.Reading.{Unprinted, own_entries, close, log_with, log_after, is_alone, Fits, Follows}
use Rattle.hg_core.proofs.Indices.{by_number}
use Rattle.hg_base.specs.Transcript.{Rest, rest_after}
use Rattle.hg_headline.specs.Logged.{Logged}
use Rattle.hg_headline.specs.Gathered.{WasLive, IsGathered}
use Rattle.hg_headline.specs.Timely.{commit_in}
use Rattle.hg_headline.proofs.Words.{and_true, any_same, any_of_onto, each_onto}
use Rattle.hg_headline.proofs.Same.{SameGroups, history_same, kept_same, writes_same, length_same}
use Rattle.hg_headline.proofs.Ties.{Ties, commits_onto, shows_begun, pick}
use Rattle.hg_headline.proofs.Right.{Reads}
use Rattle.hg_headline.proofs.LineParts.{IsRising, IsStill}
use Rattle.hg_headline.proofs.Commits.{Matches, same_printed, numbers_within, stored_onto, printed_onto, image_of_onto}

-- ---- a beginning of a log

-- what holds of a log holds of its beginning
abbrev pub OfBeginnings : (ℕ → List LogEntry → Type 0) → Type 0
OfBeginnings Q = (j : ℕ) (e : LogEntry) (l : List LogEntry) → Q j (e ∷ l) → Q j l

pub append_first : (Q : ℕ → List LogEntry → Type 0) → OfBeginnings Q → (j : ℕ) (es l : List LogEntry) → Q j (es ++ l) → Q j l
append_first Q less j [] l q = q
append_first Q less j (e ∷ es) l q = append_first Q less j es l (less j e (es ++ l) q)

pub log_first : (Q : ℕ → List LogEntry → Type 0) → OfBeginnings Q → (j : ℕ) (b : Bool) (buckets : ℕ) (u : Unprinted) (s : Statement) (reply : Reply) (l : List LogEntry) →
    Q j (log_with b buckets u s reply l) → Q j l
log_first Q less j false buckets u s reply l q = append_first Q less j (own_entries buckets u s reply.answer) l q
log_first Q less j true buckets u s reply l q = less j _ l (append_first Q less j (own_entries buckets u s reply.answer) _ (append_first Q less j (close reply.number) _ q))

-- what holds of the last logs holds of the first ones
pub follows_first : (Q : ℕ → List LogEntry → Type 0) → OfBeginnings Q → (buckets : ℕ) (P : (ℕ → List LogEntry) → Record → Line → Type 0) (rs : List Record) (lines : List Line)
    (logs final : ℕ → List LogEntry) (left : ℕ → Option Rest) → Follows buckets P logs left rs lines final → ((j : ℕ) → Q j (final j)) → (j : ℕ) → Q j (logs j)
follows_first Q less buckets P [] [] logs final left f q j = subst (Q j) (f j) (q j)
follows_first Q less buckets P [] (line ∷ lines) logs final left f q j = absurd f
follows_first Q less buckets P (r ∷ rs) [] logs final left f q j = absurd f
follows_first Q less buckets P (r ∷ rs) (line ∷ lines) logs final left f q j =
    let after : List LogEntry = log_after buckets f.1.0 r.statement line.reply (logs r.session) in
    by_number r.session (λ i b. Q i (if b then after else logs i) → Q i (logs i))
    (λ k. log_first Q less r.session (is_alone (current (logs r.session)) r.statement) buckets f.1.0 r.statement line.reply (logs r.session) k) (λ i e k. k) j
    (follows_first Q less buckets P rs lines (put logs r.session after) final (put left r.session (rest_after r.statement line.reply.answer (left r.session))) f.1.2 q j)

pub judged_less : (h : History) → OfBeginnings (λ j l. Judged h l)
judged_less h j e l d = d.1

pub replied_less : (buckets : ℕ) (h : History) (logs : ℕ → List LogEntry) → OfBeginnings (AreReplied buckets h logs)
replied_less buckets h logs j e l g = g.1

-- ---- line by line

pub stands_says : (o : Option Said) (n : ℕ) (r : Record) (reply : Reply) → ((standing o n r reply).session ≡ r.session) × ((standing o n r reply).statement ≡ r.statement) ×
    ((standing o n r reply).reply ≡ reply)
stands_says None n r reply = (refl, refl, refl)
stands_says (Some opened) n r reply = (refl, refl, refl)

-- a line has its record's session and statement, and its reply
pub said_says : (last : Option Said) (r : Record) (reply : Reply) (s : Statement) → ((said_after last r reply s).session ≡ r.session) ×
    ((said_after last r reply s).statement ≡ r.statement) × ((said_after last r reply s).reply ≡ reply)
said_says last r reply (Begin scope) = (refl, refl, refl)
said_says last r reply (CursorOpen table low high) = (refl, refl, refl)
said_says last r reply (Gc kind) = (refl, refl, refl)
said_says last r reply _ = stands_says (open_after last) (next_after last) r reply

pub differs_from : (m n k : ℕ) → m ≡ n → (k ≡ n → ⊥) → (m == k) ≡ false
differs_from m n k e f = grind (arith, nat_tests)

-- a line, once all lines are known to show the history and the logs
pub record IsTold (mode : Mode) (h k : History) (logs : ℕ → List LogEntry) (all : List Said) (earlier : List Said) (now : Said) : Type 0 where
  pub reply : Reads h k logs all → IsReply mode k earlier now
  pub conflict : Reads h k logs all → IsStill mode earlier now → ShowsConflict mode k all earlier now
  pub rising : IsRising earlier now
  pub commit : committed now ≡ commit_in now.statement now.reply

-- a record with its line, and the logs as they stand there, which the lines before show
pub record AtLine (buckets : ℕ) (P : (ℕ → List LogEntry) → Record → Line → Type 0) (Q : ℕ → List LogEntry → Type 0) (earlier : List Said) (now : Said) : Type 0 where
  pub logs : ℕ → List LogEntry
  pub asked : Record
  pub line : Line
  pub ties : (j : ℕ) → Ties j earlier (logs j)
  pub met : P logs asked line
  pub holds : (j : ℕ) → Q j (logs j)
  pub unprinted : Unprinted
  pub fits : Fits buckets unprinted (logs asked.session) asked.statement line.reply
  pub says : (now.session ≡ asked.session) × (now.statement ≡ asked.statement) × (now.reply ≡ line.reply)

-- ---- what all lines show

pub reads_all : (buckets : ℕ) (h : History) (final : ℕ → List LogEntry) (all : List Said) → Logged buckets h final → ((j : ℕ) → Ties j (onto all []) (final j)) →
    Matches h (commits all) → Reads h (history_of all) final all
reads_all buckets h final all logged ties m =
    let same : SameGroups h (history_of all) = same_printed h all logged.history m in
    record {
      count = length_same h (history_of all) same;
      sees = λ r s. ap (λ ws. last_image (filter (λ (w : ℕ × Image). nat_le w.0 s) ws)) (writes_same 1 h (history_of all) r same logged.history);
      does = λ n r. ap (list_any (λ (w : ℕ × Image). w.0 == n)) (writes_same 1 h (history_of all) r same logged.history);
      stored = λ w r e. image_of_onto r (stored_in w.session w.transaction all) (subst (λ ws. IsSome (image_in r ws)) (sym ((ties w.session).own w.transaction) ∙
          stored_onto w.session w.transaction all) e);
      late = λ w s f. (each_onto (λ n. s < n) (printed_numbers w.session w.transaction all) []
          (subst (Each (λ n. s < n)) (sym ((ties w.session).numbers w.transaction) ∙ printed_onto w.session w.transaction all) f)).0;
    }

-- ---- reports

pub held_is : (final : ℕ → List LogEntry) (all : List Said) (told : Told) → ((j : ℕ) → Ties j (onto all []) (final j)) → WasLive final told → IsHeld all told
held_is final all told ties w = record {
  printed = sym (any_same (shows_begun false told) (prints told) (λ x. and_true (prints told x)) all) ∙ any_of_onto (shows_begun false told) all ((ties told.session).begun false told refl w.begun);
  declared = match_keeps told.moved (λ e. any_of_onto (shows_begun true told) all ((ties told.session).begun true told refl e)) w.declared;
}

pub report_is : (h : History) (final : ℕ → List LogEntry) (all earlier : List Said) (sweep : Sweep) → length h ≡ length (history_of all) →
    ((j : ℕ) → Ties j (onto all []) (final j)) → IsGathered h final earlier sweep → IsReported (history_of all) all earlier sweep
report_is h final all earlier sweep e ties g = record {
  rising = g.rising;
  horizon = g.horizon;
  mark = subst (λ n. sweep.mark ≤ n) e g.mark;
  sessions = g.sessions;
  held = each_keeps (WasLive final) (IsHeld all) (λ told. held_is final all told ties) sweep.held g.held;
}

-- ---- all of it

-- Of a line, beside what its session's log says: what a report tells, and, in a replay, what was known there.
pub record IsKnown (mode : Mode) (h : History) (logs : ℕ → List LogEntry) (earlier : List Said) (now : Said) : Type 0 where
  pub exact : OnReplay mode (IsExact earlier now)
  pub still : IsStill mode earlier now
  pub report : IfSome (report_of now.reply) (IsGathered h logs earlier)

pub each_after_two : {X : Type 0} (P Q R : List X → X → Type 0) → ((earlier : List X) (x : X) → P earlier x → Q earlier x → R earlier x) → (earlier xs : List X) →
    EachAfter P earlier xs → EachAfter Q earlier xs → EachAfter R earlier xs
each_after_two P Q R f earlier [] h k = tt
each_after_two P Q R f earlier (x ∷ xs) h k = (f earlier x h.0 k.0, each_after_two P Q R f (x ∷ earlier) xs h.1 k.1)

-- the commits that the lines print are those of the history
pub matches_all : (buckets : ℕ) (h : History) (final : ℕ → List LogEntry) (all : List Said) → Logged buckets h final → ((j : ℕ) → Ties j (onto all []) (final j)) → Matches h (commits all)
matches_all buckets h final all logged ties n j = sym (ap (filter_map (pick n j)) (commits_onto [] all)) ∙ (ties j).published n ∙ sym (logged.commits n j)

-- where the lines show the logs and the history, every line is right in the history that the lines print
pub told_right : (mode : Mode) (buckets : ℕ) (h : History) (final : ℕ → List LogEntry) (all : List Said) → Logged buckets h final → ((j : ℕ) → Ties j (onto all []) (final j)) →
    EachAfter (IsTold mode h (history_of all) final all) [] all → EachAfter (IsKnown mode h final) [] all → AreRight mode all
told_right mode buckets h final all logged ties told known =
    let k : History = history_of all in
    let m : Matches h (commits all) = matches_all buckets h final all logged ties in
    let same : SameGroups h k = same_printed h all logged.history m in
    let reads : Reads h k final all = reads_all buckets h final all logged ties m in
    record {
      whole = record {
        numbers = each_keeps (λ (p : ℕ × Commit). (1 ≤ p.0) × (p.0 ≤ length h)) (λ (p : ℕ × Commit). 1 ≤ p.0) (λ p q. q.0) (commits all)
            (numbers_within h (commits all) m);
        history = history_same 1 h k same logged.history;
      };
      kept = kept_same h k same logged.history logged.kept;
      lines = each_after_two (IsTold mode h k final all) (IsKnown mode h final) (IsRight mode k all)
          (λ earlier now t q. record {
            reply = t.reply reads;
            conflict = t.conflict reads q.still;
            fresh = record {
              rising = t.rising;
              exact = q.exact;
              report = if_some_keeps (report_of now.reply) (IsGathered h final earlier) (IsReported k all earlier)
                  (λ sweep. report_is h final all earlier sweep reads.count ties) q.report;
            };
          })
          [] all told known;
    }
