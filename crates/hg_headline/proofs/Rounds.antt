-- A run: its shape, what its reports tell, and that its lines are sound.
use Rattle.std.proofs.Common.{◌≡◌, ℕ, zero, suc, ◌≤◌, ◌⊎◌, inl, inr, List, [], ◌∷◌, ◌++◌, length, map, Bool, true, false, Option, Some, None, refl, sym, ap, ◌∙◌, subst}
use Rattle.std.specs.Prelude.{◌==◌, ◌&&◌, ◌||◌, filter_map, if◌then◌else◌, ⊤}
use Rattle.std.specs.List.{flat_map, cons_option}
use Rattle.std.proofs.lemmas.Bool.{or_left, or_right, or_cases}
use Rattle.hg_base.specs.declared.scope.Scope.TheVariants.{All}
use Rattle.hg_base.specs.declared.report.Kind.{Kind}
use Rattle.hg_base.specs.declared.report.Kind.TheVariants as kinds
use Rattle.hg_base.specs.declared.report.Entry.{Entry}
use Rattle.hg_base.specs.declared.report.Report.{Report}
use Rattle.hg_base.specs.declared.report.Told.{Told}
use Rattle.hg_base.specs.declared.report.Sweep.{Sweep}
use Rattle.hg_base.specs.declared.statement.Record.{Record}
use Rattle.hg_base.specs.declared.statement.Statement.TheVariants.{Gc}
use Rattle.hg_base.specs.declared.line.Answer.TheVariants.{Swept}
use Rattle.hg_base.specs.declared.line.Line.{Line}
use Rattle.hg_base.specs.Lists.{Each, EachAfter, Ascends, numbers_from, greatest}
use Rattle.hg_base.specs.Script.{Script, run}
use Rattle.hg_base.specs.History.{History}
use Rattle.hg_base.specs.Reports.{told_of, sweep_of}
use Rattle.hg_base.specs.Transcript.{Said, said, said_from, last_of, of_session, sessions_of, rounds_of, in_order, history_of, Rest, rest_after}
use Rattle.hg_base.specs.Shape.{same_kind, report_of, HasShape}
use Rattle.hg_base.specs.Conflicts.{target}
use Rattle.hg_base.specs.Freshness.{mark_of, is_declared}
use Rattle.hg_base.specs.Sound.{LinesAreSound}
use Rattle.hg_base.proofs.ListFacts.{each_keeps, append_nil, match_keeps}
use Rattle.hg_core.specs.declared.log.LogEntry.{LogEntry}
use Rattle.hg_core.specs.declared.log.LogEntry.TheVariants.{Began, Saw, Refused, Outside, Wrote, Undid, Published, Over}
use Rattle.hg_core.specs.Logs.{own_writes}
use Rattle.hg_core.specs.Reading.{log_after, Tells}
use Rattle.hg_core.proofs.Right.{if_any, if_none, places_of}
use Rattle.hg_headline.specs.Gathered.{began_at, WasLive, IsGathered}
use Rattle.hg_headline.specs.Ran.{WasMet, IsPassReport, NotFalling, AreReports, report_lines, run_lines, HasRun}
use Rattle.hg_headline.proofs.Words.{append_assoc, each_pairs}
use Rattle.hg_headline.proofs.Ties.{ties_nothing}
use Rattle.hg_headline.proofs.Whole.{IsTold, AtLine, IsKnown, said_says, told_right}
use Rattle.hg_headline.proofs.Telling.{lines_told}
use Rattle.hg_base.proofs.Resting.{left_nothing}
use Rattle.hg_headline.proofs.OpenSnapshots.{each_unmap}
use Rattle.hg_headline.proofs.Reports.{no_report}
use Rattle.hg_headline.proofs.Replaying.{each_after_first}
use Rattle.hg_headline.proofs.Running.{RunsGc, LeavesLine, round_of, parted, in_order_is, run_follows}

-- ---- the shape
pub shape_more : (rs more : List Record) (lines later : List Line) → HasShape rs lines → HasShape more later → HasShape (rs ++ more) (lines ++ later)
shape_more [] more [] later h k = k
shape_more [] more (line ∷ lines) later h k = absurd h
shape_more (r ∷ rs) more [] later h k = absurd h
shape_more (r ∷ rs) more (line ∷ lines) later h k = (h.0, shape_more rs more lines later h.1 k)

pub sessions_shape : (records : List Record) (lines : ℕ → List Line) → ((j : ℕ) → HasShape (of_session j records) (lines j)) → (n many : ℕ) →
    HasShape (flat_map (λ j. of_session j records) (numbers_from n many)) (flat_map lines (numbers_from n many))
sessions_shape records lines h n zero = tt
sessions_shape records lines h n (suc many) = shape_more (of_session n records) (flat_map (λ j. of_session j records) (numbers_from (suc n) many)) (lines n)
    (flat_map lines (numbers_from (suc n) many)) (h n) (sessions_shape records lines h (suc n) many)

pub same_kind_itself : (kind : Kind) → same_kind kind kind ≡ true
same_kind_itself kinds.Group = refl
same_kind_itself kinds.Table = refl
same_kind_itself kinds.Interval = refl

pub same_kind_is : (a b : Kind) → a ≡ b → same_kind a b ≡ true
same_kind_is a b e = ap (λ k. same_kind k b) e ∙ same_kind_itself b

pub reports_shape : (h : History) (logs : ℕ → List LogEntry) (kind : Kind) (reports : List Report) (n : ℕ) → Each (IsPassReport h logs kind) reports →
    HasShape (map (round_of kind) (numbers_from n (length reports))) (report_lines n reports)
reports_shape h logs kind [] n k = tt
reports_shape h logs kind (report ∷ reports) n k = (record { session = refl; place = refl; report = same_kind_is report.kind kind k.0.kind }, reports_shape h logs kind reports (suc n) k.1)

pub rounds_shape : (h : History) (logs : ℕ → List LogEntry) (rounds : ℕ) (kind : Kind) (reports : List Report) → AreReports h logs kind rounds reports →
    HasShape (rounds_of kind rounds) (report_lines 1 reports)
rounds_shape h logs rounds kind reports k = subst (λ n. HasShape (map (round_of kind) (numbers_from 1 n)) (report_lines 1 reports)) k.count (reports_shape h logs kind reports 1 k.each)

-- ---- a session's lines are no reports

-- no report stands among the lines
abbrev pub NoMarks : List Said → Type 0
NoMarks earlier = (kind : Kind) → filter_map (mark_of kind) earlier ≡ []

pub no_mark : (kind : Kind) (now : Said) (earlier : List Said) → report_of now.reply ≡ None → filter_map (mark_of kind) earlier ≡ [] → filter_map (mark_of kind) (now ∷ earlier) ≡ []
no_mark kind now earlier e h = go (report_of now.reply) e
  where
    go : (o : Option Sweep) → o ≡ None → cons_option (elim o [ None ↦ None | Some sweep ↦ if same_kind sweep.kind kind then Some sweep.mark else None ]) (filter_map (mark_of kind) earlier) ≡ []
    go None k = h
    go (Some sweep) k = absurd (let z : Some sweep ≡ None = k in cc)

pub session_known : (rounds buckets : ℕ) (h : History) (logs : ℕ → List LogEntry) (l m : List LogEntry) (rs more : List Record) (lines later : List Line) (earlier : List Said)
    (left : Option Rest) → Tells buckets LeavesLine l left rs lines m → NoMarks earlier →
    ((es : List Said) → NoMarks es → EachAfter (IsKnown (run rounds) h logs) es (said_from es more later)) →
    EachAfter (IsKnown (run rounds) h logs) earlier (said_from earlier (rs ++ more) (lines ++ later))
session_known rounds buckets h logs l m [] more [] later earlier left t none f = f earlier none
session_known rounds buckets h logs l m [] more (line ∷ lines) later earlier left t none f = absurd t
session_known rounds buckets h logs l m (r ∷ rs) more [] later earlier left t none f = absurd t
session_known rounds buckets h logs l m (r ∷ rs) more (line ∷ lines) later earlier left t none f =
    let now : Said = said earlier r line.reply in
    let no : report_of now.reply ≡ None = ap report_of (said_says (last_of r.session earlier) r line.reply r.statement).2 ∙
    no_report buckets t.1.0 (own_writes l) r.statement line.reply.answer t.0 t.1.1.answer in (
      record { exact = tt; still = if_any (target now.statement) _ (λ r. tt); report = if_none (report_of now.reply) (IsGathered h logs earlier) no },
      session_known rounds buckets h logs (log_after buckets t.1.0 r.statement line.reply l) m rs more lines later (now ∷ earlier)
          (rest_after r.statement line.reply.answer left) t.1.2 (λ kind. no_mark kind now earlier no (none kind)) f,
    )

pub sessions_known : (rounds buckets : ℕ) (h : History) (logs : ℕ → List LogEntry) (records : List Record) (lines : ℕ → List Line) (more : List Record) (later : List Line) →
    ((j : ℕ) → Tells buckets LeavesLine [] None (of_session j records) (lines j) (logs j)) →
    ((es : List Said) → NoMarks es → EachAfter (IsKnown (run rounds) h logs) es (said_from es more later)) → (n many : ℕ) (earlier : List Said) → NoMarks earlier →
    EachAfter (IsKnown (run rounds) h logs) earlier (said_from earlier (flat_map (λ j. of_session j records) (numbers_from n many) ++ more) (flat_map lines (numbers_from n many) ++ later))
sessions_known rounds buckets h logs records lines more later t f n zero earlier none = f earlier none
sessions_known rounds buckets h logs records lines more later t f n (suc many) earlier none =
    let rest_r : List Record = flat_map (λ j. of_session j records) (numbers_from (suc n) many) in
    let rest_l : List Line = flat_map lines (numbers_from (suc n) many) in
    subst (λ rs. EachAfter (IsKnown (run rounds) h logs) earlier (said_from earlier rs ((lines n ++ rest_l) ++ later))) (sym (append_assoc (of_session n records) rest_r more))
    (subst (λ ls. EachAfter (IsKnown (run rounds) h logs) earlier (said_from earlier (of_session n records ++ (rest_r ++ more)) ls)) (sym (append_assoc (lines n) rest_l later))
    (session_known rounds buckets h logs [] (logs n) (of_session n records) (rest_r ++ more) (lines n) (rest_l ++ later) earlier None (t n) none
    (λ es k. sessions_known rounds buckets h logs records lines more later t f (suc n) many es k)))

-- ---- what a report tells

pub begun_at_all : (d : Bool) (n : ℕ) (l : List LogEntry) → began_at d n l ≡ true → began_at false n l ≡ true
begun_at_all d n [] e = e
begun_at_all d n (Began at scope ∷ l) e = go (or_cases ((at == n) && (if d then is_declared scope else true)) (began_at d n l) e) (λ k. begun_at_all d n l k)
  where
    first : (a b : Bool) → (a && b) ≡ true → (a && true) ≡ true
    first true b k = refl
    first false b k = k

    go : (((at == n) && (if d then is_declared scope else true)) ≡ true) ⊎ (began_at d n l ≡ true) → (began_at d n l ≡ true → began_at false n l ≡ true) →
        (((at == n) && true) || began_at false n l) ≡ true
    go (inl k) f = or_left ((at == n) && true) (began_at false n l) (first (at == n) (if d then is_declared scope else true) k)
    go (inr k) f = or_right ((at == n) && true) (began_at false n l) (f k)
begun_at_all d n (Saw t low high b rows ∷ l) e = begun_at_all d n l e
begun_at_all d n (Refused r a ∷ l) e = begun_at_all d n l e
begun_at_all d n (Outside t ∷ l) e = begun_at_all d n l e
begun_at_all d n (Wrote r image ∷ l) e = begun_at_all d n l e
begun_at_all d n (Undid r ∷ l) e = begun_at_all d n l e
begun_at_all d n (Published c ∷ l) e = begun_at_all d n l e
begun_at_all d n (Over ∷ l) e = begun_at_all d n l e

pub entries_were : (logs : ℕ → List LogEntry) (entries : List Entry) → Each (WasMet logs) entries → Each (WasLive logs) (map told_of entries)
entries_were logs [] h = tt
entries_were logs (e ∷ es) h = (
  record {
    begun = begun_at_all (is_declared e.scope) e.number (logs e.session) h.0.0;
    declared = match_keeps e.moved (λ d. ap (λ b. began_at b e.number (logs e.session)) (sym d) ∙ h.0.0) h.0.1;
  },
  entries_were logs es h.1,
)

pub entry_sessions : (entries : List Entry) → map (λ (t : Told). t.session) (map told_of entries) ≡ map (λ (e : Entry). e.session) entries
entry_sessions [] = refl
entry_sessions (e ∷ es) = ap (λ ns. e.session ∷ ns) (entry_sessions es)

pub told_gathered : (h : History) (logs : ℕ → List LogEntry) (kind : Kind) (report : Report) (earlier : List Said) → IsPassReport h logs kind report →
    Each (λ m. m ≤ report.mark) (filter_map (mark_of kind) earlier) → IsGathered h logs earlier (sweep_of report)
told_gathered h logs kind report earlier p rising = record {
  rising = subst (λ k. Each (λ m. m ≤ report.mark) (filter_map (mark_of k) earlier)) (sym p.kind) rising;
  horizon = p.horizon;
  mark = p.mark;
  sessions = subst Ascends (sym (entry_sessions report.entries.list)) p.order;
  held = entries_were logs report.entries.list p.met;
}

-- each mark so far is at or below each of these
abbrev pub Below : Kind → List Said → List Report → Type 0
Below kind earlier reports = Each (λ (p : Report). Each (λ m. m ≤ p.mark) (filter_map (mark_of kind) earlier)) reports

abbrev pub report_said : Kind → ℕ → Report → Said
report_said kind n report = record {
  session = 0;
  place = n;
  transaction = 0;
  at = 0;
  scope = All;
  alone = false;
  statement = Gc kind;
  reply = record { at = None; answer = Swept (sweep_of report); number = None };
}

pub marks_with : (kind : Kind) (n : ℕ) (report : Report) (earlier : List Said) → report.kind ≡ kind →
    filter_map (mark_of kind) (report_said kind n report ∷ earlier) ≡ report.mark ∷ filter_map (mark_of kind) earlier
marks_with kind n report earlier e = ap (λ b. cons_option (if b then Some report.mark else None) (filter_map (mark_of kind) earlier)) (same_kind_is report.kind kind e)

pub reports_known : (rounds : ℕ) (h : History) (logs : ℕ → List LogEntry) (kind : Kind) (reports : List Report) (n : ℕ) (more : List Record) (later : List Line)
    (earlier : List Said) → Each (IsPassReport h logs kind) reports → NotFalling (map (λ (p : Report). p.mark) reports) → Below kind earlier reports →
    ((es : List Said) → ((k : Kind) → same_kind kind k ≡ false → filter_map (mark_of k) es ≡ filter_map (mark_of k) earlier) → EachAfter (IsKnown (run rounds) h logs) es (said_from es more later)) →
    EachAfter (IsKnown (run rounds) h logs) earlier (said_from earlier (map (round_of kind) (numbers_from n (length reports)) ++ more) (report_lines n reports ++ later))
reports_known rounds h logs kind [] n more later earlier ps rising below f = f earlier (λ k e. refl)
reports_known rounds h logs kind (report ∷ reports) n more later earlier ps rising below f =
    let now : Said = report_said kind n report in (
      record { exact = tt; still = tt; report = told_gathered h logs kind report earlier ps.0 below.0 },
      reports_known rounds h logs kind reports (suc n) more later (now ∷ earlier) ps.1 rising.1
          (each_after_mark reports (each_unmap (λ m. report.mark ≤ m) (λ (p : Report). p.mark) reports rising.0) below.1)
          (λ es k. f es (λ i e. k i e ∙ ap (λ b. cons_option (if b then Some report.mark else None) (filter_map (mark_of i) earlier)) (ap (λ c. same_kind c i) ps.0.kind ∙ e))),
    )
  where
    each_after_mark : (qs : List Report) → Each (λ (p : Report). report.mark ≤ p.mark) qs → Below kind earlier qs → Below kind (report_said kind n report ∷ earlier) qs
    each_after_mark qs a b = each_keeps (λ (p : Report). (report.mark ≤ p.mark) × Each (λ m. m ≤ p.mark) (filter_map (mark_of kind) earlier))
        (λ (p : Report). Each (λ m. m ≤ p.mark) (filter_map (mark_of kind) (report_said kind n report ∷ earlier)))
        (λ p k. subst (Each (λ m. m ≤ p.mark)) (sym (marks_with kind n report earlier ps.0.kind)) (k.0, k.1)) qs (each_pairs _ _ qs a b)

pub below_none : (kind : Kind) (earlier : List Said) (reports : List Report) → filter_map (mark_of kind) earlier ≡ [] → Below kind earlier reports
below_none kind earlier [] e = tt
below_none kind earlier (p ∷ ps) e = (subst (Each (λ m. m ≤ p.mark)) (sym e) tt, below_none kind earlier ps e)

pub rounds_known : (rounds : ℕ) (h : History) (logs : ℕ → List LogEntry) (kind : Kind) (reports : List Report) (more : List Record) (later : List Line) (earlier : List Said) →
    AreReports h logs kind rounds reports → filter_map (mark_of kind) earlier ≡ [] →
    ((es : List Said) → ((k : Kind) → same_kind kind k ≡ false → filter_map (mark_of k) es ≡ filter_map (mark_of k) earlier) → EachAfter (IsKnown (run rounds) h logs) es (said_from es more later)) →
    EachAfter (IsKnown (run rounds) h logs) earlier (said_from earlier (rounds_of kind rounds ++ more) (report_lines 1 reports ++ later))
rounds_known rounds h logs kind reports more later earlier p none f =
    subst (λ n. EachAfter (IsKnown (run rounds) h logs) earlier (said_from earlier (map (round_of kind) (numbers_from 1 n) ++ more) (report_lines 1 reports ++ later))) p.count
    (reports_known rounds h logs kind reports 1 more later earlier p.each p.rising (below_none kind earlier reports none) f)

pub last_known : (rounds : ℕ) (h : History) (logs : ℕ → List LogEntry) (reports : List Report) (earlier : List Said) → AreReports h logs kinds.Interval rounds reports →
    filter_map (mark_of kinds.Interval) earlier ≡ [] → EachAfter (IsKnown (run rounds) h logs) earlier (said_from earlier (rounds_of kinds.Interval rounds) (report_lines 1 reports))
last_known rounds h logs reports earlier p none =
    subst (λ rs. EachAfter (IsKnown (run rounds) h logs) earlier (said_from earlier rs (report_lines 1 reports))) (append_nil (rounds_of kinds.Interval rounds))
    (subst (λ ls. EachAfter (IsKnown (run rounds) h logs) earlier (said_from earlier (rounds_of kinds.Interval rounds ++ []) ls)) (append_nil (report_lines 1 reports))
    (rounds_known rounds h logs kinds.Interval reports [] [] earlier p none (λ es k. tt)))

-- ---- the whole run

pub run_known : (buckets : ℕ) (h : History) (logs : ℕ → List LogEntry) (rounds : ℕ) (records : List Record) (lines : ℕ → List Line) (group table interval : List Report) →
    HasRun buckets h logs rounds records lines group table interval → EachAfter (IsKnown (run rounds) h logs) [] (said_from [] (parted rounds records) (run_lines records lines group table interval))
run_known buckets h logs rounds records lines group table interval ran =
    sessions_known rounds buckets h logs records lines _ _ ran.tells
    (λ es none. rounds_known rounds h logs kinds.Group group _ _ es ran.of_group (none kinds.Group)
    (λ fs k. rounds_known rounds h logs kinds.Table table _ _ fs ran.of_table (k kinds.Table refl ∙ none kinds.Table)
    (λ gs i. last_known rounds h logs interval gs ran.of_interval (i kinds.Interval refl ∙ k kinds.Interval refl ∙ none kinds.Interval))))
    1 (greatest (map (λ (r : Record). r.session) records)) [] (λ kind. refl)

pub run_shape : (buckets : ℕ) (h : History) (logs : ℕ → List LogEntry) (rounds : ℕ) (records : List Record) (lines : ℕ → List Line) (group table interval : List Report) →
    HasRun buckets h logs rounds records lines group table interval → HasShape (parted rounds records) (run_lines records lines group table interval)
run_shape buckets h logs rounds records lines group table interval ran =
    shape_more (flat_map (λ j. of_session j records) (sessions_of records)) _ (flat_map lines (sessions_of records)) _
    (sessions_shape records lines ran.shape 1 (greatest (map (λ (r : Record). r.session) records)))
    (shape_more (rounds_of kinds.Group rounds) _ (report_lines 1 group) _ (rounds_shape h logs rounds kinds.Group group ran.of_group)
    (shape_more (rounds_of kinds.Table rounds) (rounds_of kinds.Interval rounds) (report_lines 1 table) (report_lines 1 interval)
    (rounds_shape h logs rounds kinds.Table table ran.of_table) (rounds_shape h logs rounds kinds.Interval interval ran.of_interval)))

pub run_sound : (buckets : ℕ) (h : History) (logs : ℕ → List LogEntry) (rounds : ℕ) (script : Script) (lines : ℕ → List Line) (group table interval : List Report) →
    HasRun buckets h logs rounds script.records lines group table interval → LinesAreSound (run rounds) script (run_lines script.records lines group table interval)
run_sound buckets h logs rounds script lines group table interval ran =
    let records : List Record = script.records in
    let printed : List Line = run_lines records lines group table interval in
    let asked : List Record = in_order (run rounds) records in
    let all : List Said = said_from [] asked printed in
    let e : parted rounds records ≡ asked = sym (in_order_is rounds records) in
    let told = lines_told (run rounds) buckets h (history_of all) logs all (RunsGc rounds) (λ j l. ⊤) (λ j x l q. tt) (places_of buckets ran.logged.some)
    (λ ls q line m. m) asked printed (λ j. []) logs []
    (λ j. ties_nothing j) (λ j. None) (λ j. left_nothing j) (run_follows buckets h logs rounds records lines group table interval ran) ran.logged.judged ran.logged.replied (λ j. tt) in
    let both = each_after_first (IsTold (run rounds) h (history_of all) logs all) (AtLine buckets (RunsGc rounds) (λ j l. ⊤)) [] all told.0 in
    record {
      shape = subst (λ rs. HasShape rs printed) e (run_shape buckets h logs rounds records lines group table interval ran);
      right = told_right (run rounds) buckets h logs all ran.logged told.1 both.0 (subst (λ rs. EachAfter (IsKnown (run rounds) h logs) [] (said_from [] rs printed)) e
          (run_known buckets h logs rounds records lines group table interval ran));
    }
