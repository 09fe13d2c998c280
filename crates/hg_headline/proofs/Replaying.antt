-- The lines of a replay are sound.
use Rattle.std.proofs.Common.{◌≡◌, ℕ, ◌<◌, ◌≤◌, List, [], ◌∷◌, length, map, true, false, Option, Some, None, refl, sym, ap, ◌∙◌, subst, arith}
use Rattle.std.specs.Prelude.{◌==◌, filter, filter_map, option_map, IsTrue, IsSome, IfSome, ⊤}
use Rattle.std.specs.Bool.{MatchBool}
use Rattle.std.specs.List.{list_any}
use Rattle.hg_base.specs.declared.rid.Rid.{Rid}
use Rattle.hg_base.specs.declared.scope.Snapshot.{Snapshot}
use Rattle.hg_base.specs.declared.writer.Writer.{Writer}
use Rattle.hg_base.specs.declared.report.Kind.{Kind}
use Rattle.hg_base.specs.declared.report.Told.{Told}
use Rattle.hg_base.specs.declared.report.Sweep.{Sweep}
use Rattle.hg_base.specs.declared.statement.Record.{Record}
use Rattle.hg_base.specs.declared.statement.Statement.{Statement}
use Rattle.hg_base.specs.declared.statement.Statement.TheVariants.{Put, Del, Gc}
use Rattle.hg_base.specs.declared.line.Answer.{Answer}
use Rattle.hg_base.specs.declared.line.Answer.TheVariants.{OpenBy, Swept}
use Rattle.hg_base.specs.declared.line.Line.{Line}
use Rattle.hg_base.specs.Lists.{Each, EachAfter, Ascends, onto}
use Rattle.hg_base.specs.Script.{Script, replay}
use Rattle.hg_base.specs.History.{Write, History, image_in}
use Rattle.hg_base.specs.Transcript.{Said, said, said_from, last_of, open_of, committed, commits, history_of, is_of, ends, stored_in, greatest_commit}
use Rattle.hg_base.specs.Shape.{report_of, IsReportOf}
use Rattle.hg_base.specs.Conflicts.{IsStillOpen, target}
use Rattle.hg_base.specs.Freshness.{IsReplayed}
use Rattle.hg_base.specs.Sound.{LinesAreSound}
use Rattle.hg_base.proofs.ListFacts.{each_keeps}
use Rattle.hg_core.specs.declared.log.LogEntry.{LogEntry}
use Rattle.hg_core.specs.Logs.{current, begans, own_writes}
use Rattle.hg_core.specs.Reading.{Unprinted, FitsAnswer}
use Rattle.hg_core.proofs.Right.{of_some, places_of}
use Rattle.hg_core.proofs.Updates.{some_is as some_of_yes}
use Rattle.hg_headline.specs.Gathered.{WasLive, IsGathered}
use Rattle.hg_headline.specs.Timely.{reads_in, snapshot_in, newer_in, mark_in, commit_in}
use Rattle.hg_headline.specs.Met.{live_in, HasDeclared, IsMetReport, IsOpenWrite, IsMetWrite, IsMetAnswer, IsMet}
use Rattle.hg_headline.specs.Replayed.{HasReplayed}
use Rattle.hg_headline.proofs.Words.{none_is_not_some, if_some_by, each_pairs}
use Rattle.hg_headline.proofs.Commits.{Matches}
use Rattle.hg_headline.proofs.Ties.{Ties, StandsIn, ties_nothing}
use Rattle.hg_headline.proofs.Ended.{own_is}
use Rattle.hg_headline.proofs.Reports.{report_in, no_report}
use Rattle.hg_headline.proofs.Right.{StillIn}
use Rattle.hg_headline.proofs.LineParts.{AsCollected}
use Rattle.hg_headline.proofs.Whole.{IsTold, AtLine, IsKnown, said_says, told_right, matches_all}
use Rattle.hg_headline.proofs.Telling.{lines_told}
use Rattle.hg_base.proofs.Resting.{left_nothing}
use Rattle.hg_headline.proofs.Orderly.{Orderly, orderly_nothing, orderly_all}
use Rattle.hg_headline.proofs.Numbers.{IsOrdered, AllPrinted, below_nothing, lines_ordered, of_reads, each_up, now_over, printed_before, is_greatest, all_printed}
use Rattle.hg_headline.proofs.OpenSnapshots.{IsLive, Begins, begins_less, live_is_open, live_ascends, live_each, map_twice, each_unmap, was_live}

-- ---- what is met there

-- the report that an answer gives
-- a report is that of a `gc`
abbrev pub IsMetBy : ℕ → (ℕ → List LogEntry) → Statement → Sweep → Type 0
IsMetBy sessions logs s sweep = (kind : Kind) × (s ≡ Gc kind) × IsMetReport sessions logs kind sweep

pub met_report : (buckets sessions : ℕ) (u : Unprinted) (own : List Write) (logs : ℕ → List LogEntry) (s : Statement) (a : Answer) → FitsAnswer buckets u own s a →
    IsMetAnswer sessions logs s a → IfSome (report_in a) (IsMetBy sessions logs s)
met_report buckets sessions u own logs (Gc kind) (Swept sweep) f m = (kind, refl, m)
met_report buckets sessions u own logs s (Swept sweep) f m = absurd (none_is_not_some sweep (sym (no_report buckets u own s (Swept sweep) tt f)))
met_report buckets sessions u own logs s _ f m = tt

pub met_collected : (sessions j : ℕ) (logs : ℕ → List LogEntry) (s : Statement) (a : Answer) → IsMetAnswer sessions logs s a → AsCollected replay j s a
met_collected sessions j logs (Gc kind) (Swept sweep) m = tt
met_collected sessions j logs (Gc kind) _ m = absurd m
met_collected sessions j logs _ a m = tt

pub same_kind_reports : (s : Statement) (kind : Kind) (sweep : Sweep) → s ≡ Gc kind → IsReportOf (Gc kind) (Swept sweep) → IsReportOf s (Swept sweep)
same_kind_reports s kind sweep e h = subst (λ x. IsReportOf x (Swept sweep)) (sym e) h

-- ---- a write that is open there

pub in_some : (o : Option Said) (c : Option Snapshot) (x : ℕ) → IsSome c → StandsIn o c x → (s : Said) × (o ≡ Some s) × (s.transaction ≡ x)
in_some None None x i h = absurd (let k : false ≡ true = i in cc)
in_some (Some s) None x i h = absurd h
in_some None (Some c) x i h = absurd h
in_some (Some s) (Some c) x i h = (s, refl, h.0)

pub still_open : (logs : ℕ → List LogEntry) (earlier : List Said) (r : Rid) (w : Writer) → ((j : ℕ) → Ties j earlier (logs j)) → ((j : ℕ) → Orderly j earlier) →
    IsOpenWrite logs r w → IsStillOpen earlier r w
still_open logs earlier r w t o m =
    let its = in_some (open_of w.session earlier) (current (logs w.session)) (begans (logs w.session)) m.opened (t w.session).standing in
    let c = some_of_yes (current (logs w.session)) m.opened in
    let own : own_writes (logs w.session) ≡ stored_in w.session w.transaction earlier = own_is (logs w.session) c.0 c.1 ∙ sym ((t w.session).own (begans (logs w.session))) ∙
    ap (λ x. stored_in w.session x earlier) m.number in
    record {
      does = subst (λ ws. IsSome (image_in r ws)) own m.does;
      opened = ap (λ n. list_any ends (filter (is_of w.session n) earlier)) (sym (its.2 ∙ m.number)) ∙ (o w.session).going its.0 its.1;
    }

pub still_in : (logs : ℕ → List LogEntry) (earlier : List Said) (r : Rid) (a : Answer) → ((j : ℕ) → Ties j earlier (logs j)) → ((j : ℕ) → Orderly j earlier) → IsMetWrite logs r a → StillIn earlier r a
still_in logs earlier r (OpenBy w) t o m = still_open logs earlier r w t o m
still_in logs earlier r _ t o m = tt

pub still_line : (sessions : ℕ) (logs : ℕ → List LogEntry) (earlier : List Said) (s : Statement) (a : Answer) → ((j : ℕ) → Ties j earlier (logs j)) →
    ((j : ℕ) → Orderly j earlier) → IsMetAnswer sessions logs s a → IfSome (target s) (λ r. StillIn earlier r a)
still_line sessions logs earlier (Put r row) a t o m = still_in logs earlier r a t o m
still_line sessions logs earlier (Del r) a t o m = still_in logs earlier r a t o m
still_line sessions logs earlier _ a t o m = tt

-- ---- a report there

pub held_live : (sessions : ℕ) (logs final : ℕ → List LogEntry) → ((j : ℕ) → Begins final j (logs j)) → (held : List Told) →
    map (λ (told : Told). (told.session, told.number)) held ≡ live_in sessions logs → Each (λ told. MatchBool told.moved (HasDeclared logs told) ⊤) held → Each (WasLive final) held
held_live sessions logs final more held e moved =
    let live : Each (IsLive logs) (map (λ (told : Told). (told.session, told.number)) held) = subst (Each (IsLive logs)) (sym e) (live_each logs 1 sessions) in
    each_keeps (λ (told : Told). IsLive logs (told.session, told.number) × MatchBool told.moved (HasDeclared logs told) ⊤) (WasLive final) (λ told k. was_live logs final more told k.0 k.1) held
    (each_pairs (λ (told : Told). IsLive logs (told.session, told.number)) (λ told. MatchBool told.moved (HasDeclared logs told) ⊤) held
    (each_unmap (IsLive logs) (λ (told : Told). (told.session, told.number)) held live) moved)

pub held_ascends : (sessions : ℕ) (logs : ℕ → List LogEntry) (held : List Told) → map (λ (told : Told). (told.session, told.number)) held ≡ live_in sessions logs →
    Ascends (map (λ (told : Told). told.session) held)
held_ascends sessions logs held e = subst Ascends (sym (ap (map (λ (p : ℕ × ℕ). p.0)) e) ∙ map_twice (λ (told : Told). (told.session, told.number)) held) (live_ascends logs 1 sessions)

-- the mark of a report
pub mark_is : (now : Said) (sweep : Sweep) → report_of now.reply ≡ Some sweep → mark_in now.reply ≡ Some sweep.mark
mark_is now sweep e = ap (option_map (λ s. s.mark)) e

pub at_most : (m n top : ℕ) → m ≤ n → n ≤ top → m ≤ top
at_most m n top a b = omega (arith, a, b)

pub equal_within : (m n : ℕ) → m ≡ n → m ≤ n
equal_within m n e = omega (arith, e)

-- ---- a line

-- What is known of a line of a replay.
pub line_known : (h : History) (final : ℕ → List LogEntry) (buckets sessions top : ℕ) (earlier : List Said) (now : Said) (later : List Said) → top ≤ length h →
    AllPrinted (length h) (onto (now ∷ later) earlier) → EachAfter (IsOrdered top) earlier (now ∷ later) →
    AtLine buckets (IsMet sessions) (Begins final) earlier now → Each (λ (s : Said). s.session ≤ sessions) earlier → ((j : ℕ) → Orderly j earlier) → IsKnown replay h final earlier now
line_known h final buckets sessions top earlier now later k w o at within orderly =
    let met : IsMetAnswer sessions at.logs now.statement now.reply.answer = subst (λ p. p) (λ i. IsMetAnswer sessions at.logs (sym at.says.1 i) (sym at.says.2 i).answer) at.met in
    let fits = subst (λ p. p) (λ i. FitsAnswer buckets at.unprinted (own_writes (at.logs at.asked.session)) (sym at.says.1 i) (sym at.says.2 i).answer) at.fits.answer in
    let report : IfSome (report_of now.reply) (IsMetBy sessions at.logs now.statement) = met_report buckets sessions at.unprinted
    (own_writes (at.logs at.asked.session)) at.logs now.statement now.reply.answer fits met in
    let small = of_reads (λ n. n ≤ length h) now.reply (each_up top (length h) (reads_in now.reply) k o.0.reads) in
    record {
      exact = record {
        snapshot = if_some_by (snapshot_in now.reply) (λ s. s ≡ greatest_commit earlier) (λ s e.
            is_greatest (length h) s earlier (now ∷ later) w (of_some (snapshot_in now.reply) (λ n. n ≤ length h) s e small.0)
            (of_some (snapshot_in now.reply) (λ n. Each (λ c. c ≤ n) (filter_map committed earlier)) s e o.0.snapshot)
            (now_over top s earlier now later (λ P q. of_some (snapshot_in now.reply) P s e (of_reads P now.reply q).0) o));
        newer = if_some_by (newer_in now.reply) (λ c. IsTrue (list_any (λ n. n == c) (filter_map committed earlier))) (λ c e.
            printed_before (length h) c earlier (now ∷ later) w (of_some (newer_in now.reply) (λ n. 0 < n) c e o.0.newer)
            (of_some (newer_in now.reply) (λ n. n ≤ length h) c e small.1)
            (now_over top c earlier now later (λ P q. of_some (newer_in now.reply) P c e (of_reads P now.reply q).1) o));
        report = if_some_by (report_of now.reply) (IsReplayed earlier now.statement) (λ sweep e.
            let seen = of_some (report_of now.reply) (IsMetBy sessions at.logs now.statement) sweep e report in
            let mark : mark_in now.reply ≡ Some sweep.mark = mark_is now sweep e in
            record {
              kind = same_kind_reports now.statement seen.0 sweep seen.1 seen.2.same;
              mark = is_greatest (length h) sweep.mark earlier (now ∷ later) w (of_some (mark_in now.reply) (λ n. n ≤ length h) sweep.mark mark small.2)
                  (of_some (mark_in now.reply) (λ n. Each (λ c. c ≤ n) (filter_map committed earlier)) sweep.mark mark o.0.mark)
                  (now_over top sweep.mark earlier now later (λ P q. of_some (mark_in now.reply) P sweep.mark mark (of_reads P now.reply q).2) o);
              horizon = seen.2.horizon;
              held = seen.2.held ∙ live_is_open sessions at.logs earlier at.ties within;
            });
      };
      still = still_line sessions at.logs earlier now.statement now.reply.answer at.ties orderly met;
      report = if_some_by (report_of now.reply) (IsGathered h final earlier) (λ sweep e.
          let seen = of_some (report_of now.reply) (IsMetBy sessions at.logs now.statement) sweep e report in
          record {
            rising = of_some (report_of now.reply) _ sweep e o.0.marks;
            horizon = equal_within sweep.horizon sweep.mark seen.2.horizon;
            mark = of_some (mark_in now.reply) (λ n. n ≤ length h) sweep.mark (mark_is now sweep e) small.2;
            sessions = held_ascends sessions at.logs sweep.held seen.2.held;
            held = held_live sessions at.logs final at.holds sweep.held seen.2.held seen.2.moved;
          });
    }

pub lines_known : (h : History) (final : ℕ → List LogEntry) (buckets sessions top : ℕ) (earlier rest : List Said) → top ≤ length h → AllPrinted (length h) (onto rest earlier) →
    EachAfter (IsOrdered top) earlier rest → EachAfter (AtLine buckets (IsMet sessions) (Begins final)) earlier rest →
    EachAfter (λ es now. Each (λ (s : Said). s.session ≤ sessions) es) earlier rest → EachAfter (λ es now. (j : ℕ) → Orderly j es) earlier rest → EachAfter (IsKnown replay h final) earlier rest
lines_known h final buckets sessions top earlier [] k w o at within orderly = tt
lines_known h final buckets sessions top earlier (now ∷ later) k w o at within orderly = (
  line_known h final buckets sessions top earlier now later k w o at.0 within.0 orderly.0,
  lines_known h final buckets sessions top (now ∷ earlier) later k w o.1 at.1 within.1 orderly.1,
)

-- the sessions of the lines
pub lines_within : (sessions : ℕ) (rs : List Record) (lines : List Line) (earlier : List Said) → Each (λ (r : Record). (1 ≤ r.session) × (r.session ≤ sessions)) rs →
    Each (λ (s : Said). s.session ≤ sessions) earlier → EachAfter (λ es now. Each (λ (s : Said). s.session ≤ sessions) es) earlier (said_from earlier rs lines)
lines_within sessions [] lines earlier w h = tt
lines_within sessions (r ∷ rs) [] earlier w h = tt
lines_within sessions (r ∷ rs) (line ∷ lines) earlier w h = (
  h,
  lines_within sessions rs lines (said earlier r line.reply ∷ earlier) w.1
      (subst (λ n. n ≤ sessions) (sym (said_says (last_of r.session earlier) r line.reply r.statement).0) w.0.1, h),
)

pub each_after_first : {X : Type 0} (P Q : List X → X → Type 0) (earlier xs : List X) → EachAfter (λ es x. P es x × Q es x) earlier xs → EachAfter P earlier xs × EachAfter Q earlier xs
each_after_first P Q earlier [] h = (tt, tt)
each_after_first P Q earlier (x ∷ xs) h = let k = each_after_first P Q (x ∷ earlier) xs h.1 in ((h.0.0, k.0), (h.0.1, k.1))

pub told_commits : (h k : History) (logs : ℕ → List LogEntry) (all earlier rest : List Said) → EachAfter (IsTold replay h k logs all) earlier rest →
    EachAfter (λ es now. committed now ≡ commit_in now.statement now.reply) earlier rest
told_commits h k logs all earlier [] t = tt
told_commits h k logs all earlier (now ∷ later) t = (t.0.commit, told_commits h k logs all (now ∷ earlier) later t.1)

pub replay_sound : (buckets sessions top : ℕ) (h : History) (logs : ℕ → List LogEntry) (script : Script) (lines : List Line) →
    HasReplayed buckets sessions h logs top script.records lines → LinesAreSound replay script lines
replay_sound buckets sessions top h logs script lines r =
    let all : List Said = said_from [] script.records lines in
    let k : History = history_of all in
    let told = lines_told replay buckets h k logs all (IsMet sessions) (Begins logs) (begins_less logs) (places_of buckets r.logged.some)
    (λ ls q line m. met_collected sessions q.session ls q.statement line.reply.answer m) script.records lines (λ j. []) logs []
    (λ j. ties_nothing j) (λ j. None) (λ j. left_nothing j) r.follows r.logged.judged r.logged.replied (λ j d n e. e) in
    let both = each_after_first (IsTold replay h k logs all) (AtLine buckets (IsMet sessions) (Begins logs)) [] all told.0 in
    let m : Matches h (commits all) = matches_all buckets h logs all r.logged told.1 in
    let ordered : EachAfter (IsOrdered top) [] all = lines_ordered script.records lines 0 top [] (below_nothing 0) r.rises (told_commits h k logs all [] all both.0) in
    record {
      shape = r.shape;
      right = told_right replay buckets h logs all r.logged told.1 both.0
          (lines_known h logs buckets sessions top [] all r.below (all_printed h all r.logged.history m) ordered both.1 (lines_within sessions script.records lines [] r.within tt)
          (orderly_all script.records lines [] (λ j. orderly_nothing j)));
    }
