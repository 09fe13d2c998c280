-- What is driven beside each other, and closed then, is sound as a run.
use Rattle.std.proofs.Common.{◌≡◌, ℕ, zero, suc, ◌≤◌, List, [], ◌∷◌, ◌++◌, length, map, Option, None, refl, sym, ap, ◌∙◌, subst, arith}
use Rattle.std.specs.Prelude.{max, sum_by}
use Rattle.std.specs.List.{flat_map}
use Rattle.std.specs.Option.{option_map_or}
use Rattle.std.proofs.lemmas.List.Sums.{sum_by-cons, sum_by-append}
use Rattle.hg_base.specs.declared.line.Line.{Line}
use Rattle.hg_base.specs.declared.line.Totals.{Totals}
use Rattle.hg_base.specs.declared.report.Kind.{Kind}
use Rattle.hg_base.specs.declared.report.Kind.TheVariants.{Group, Table, Interval}
use Rattle.hg_base.specs.declared.report.Report.{Report}
use Rattle.hg_base.specs.declared.statement.Record.{Record}
use Rattle.hg_base.specs.declared.statement.Statement.{Statement}
use Rattle.hg_base.specs.Counts.{removed_by}
use Rattle.hg_base.specs.History.{History, Write}
use Rattle.hg_base.specs.Lists.{Each, greatest, numbers_from}
use Rattle.hg_base.specs.Script.{Script, run}
use Rattle.hg_base.specs.Shape.{HasShape, report_of}
use Rattle.hg_base.specs.Sound.{IsSound}
use Rattle.hg_base.specs.Transcript.{Rest, of_session, rest_after, said_from, in_order}
use Rattle.hg_core.specs.declared.log.LogEntry.{LogEntry}
use Rattle.hg_core.specs.Logs.{own_writes}
use Rattle.hg_core.specs.Reading.{Unprinted, FitsAnswer, Tells, log_after}
use Rattle.hg_rule.specs.declared.view.Sizes.{Sizes}
use Rattle.hg_headline.specs.Counted.{Closes, IsCounted}
use Rattle.hg_headline.specs.Following.{told_by, told_removed}
use Rattle.hg_headline.specs.Ran.{LeavesGc, AreReports, report_lines, run_lines, HasRun}
use Rattle.hg_headline.proofs.Before.{logged_before}
use Rattle.hg_headline.proofs.Counting.{run_whole}
use Rattle.hg_headline.proofs.Removed.{removed_said}
use Rattle.hg_headline.proofs.Reports.{no_report}
use Rattle.hg_headline.proofs.Rounds.{run_shape}
use Rattle.hg_headline.proofs.Running.{in_order_is, none_over}
use Rattle.hg_tracker.specs.Begun.{SawGroups}
use Rattle.hg_session.specs.declared.engine.Engine.{Engine}
use Rattle.hg_session.specs.declared.session.Session.{Session}
use Rattle.hg_session.specs.Engines.{engine_sizes}
use Rattle.hg_session.specs.Finished.{logs_of}
use Rattle.hg_collectors.specs.declared.collectors.Collectors.{Collectors}
use Rattle.hg_run.specs.Closed.{IsClosedBy}
use Rattle.hg_collectors.specs.Collecting.{view_in, removed_of}
use Rattle.hg_run.specs.Driven.{HasDrivenAll}
use Rattle.hg_collectors.specs.Telling.{sweep_lines}
use Rattle.hg_collectors.specs.Rounding.{BeganIn, IsRoundBy, AreRounds}
use Rattle.hg_collectors.specs.Swept.{HasSwept, swept_by}
use Rattle.hg_run.proofs.Begun.{began_before}
use Rattle.hg_collectors.proofs.Driving.{swept_of, removed_rounds}
use Rattle.hg_collectors.proofs.Reported.{rounds_map, reported, lines_removed}

-- ---- a session's lines tell of no round

none_reported : (buckets : ℕ) (u : Unprinted) (own : List Write) (s : Statement) (line : Line) → FitsAnswer buckets u own s line.reply.answer → LeavesGc s line.reply.answer →
    report_of line.reply ≡ None
none_reported buckets u own s line h l = no_report buckets u own s line.reply.answer l h

none_told : (k : Kind) (buckets : ℕ) (u : Unprinted) (own : List Write) (s : Statement) (line : Line) → FitsAnswer buckets u own s line.reply.answer → LeavesGc s line.reply.answer → told_by k line ≡ 0
none_told k buckets u own s line h l = ap (λ o. option_map_or (swept_by k) o 0) (none_reported buckets u own s line h l)

tells_none : (k : Kind) (buckets : ℕ) (rs : List Record) (lines : List Line) (log final : List LogEntry) (left : Option Rest) →
    Tells buckets (λ r line. LeavesGc r.statement line.reply.answer) log left rs lines final → told_removed k lines ≡ 0
tells_none k buckets [] [] log final left t = refl
tells_none k buckets [] (line ∷ lines) log final left t = absurd t
tells_none k buckets (r ∷ rs) [] log final left t = absurd t
tells_none k buckets (r ∷ rs) (line ∷ lines) log final left t =
    let here = none_told k buckets t.1.0 (own_writes log) r.statement line t.1.1.answer t.0 in
    let later = tells_none k buckets rs lines (log_after buckets t.1.0 r.statement line.reply log) final (rest_after r.statement line.reply.answer left) t.1.2 in
    let sum = sum_by-cons (told_by k) line lines in
    omega (arith, here, later, sum)

flat_none : (k : Kind) (lines : ℕ → List Line) → ((j : ℕ) → told_removed k (lines j) ≡ 0) → (i n : ℕ) → told_removed k (flat_map lines (numbers_from i n)) ≡ 0
flat_none k lines none i zero = refl
flat_none k lines none i (suc n) =
    let here = none i in
    let later = flat_none k lines none (suc i) n in
    let sum = sum_by-append (told_by k) (lines i) (flat_map lines (numbers_from (suc i) n)) in
    omega (arith, here, later, sum)

-- ---- which sessions there are

within : (m : ℕ) (records : List Record) → greatest (map (λ (r : Record). r.session) records) ≤ m → Each (λ (r : Record). r.session ≤ m) records
within m [] most = tt
within m (r ∷ records) most = (omega (arith, most), within m records (omega (arith, most)))

-- a script without records has one session, which has no lines
all_lines : (lines : ℕ → List Line) (g m : ℕ) → m ≡ max 1 g → (g ≡ 0 → lines 1 ≡ []) → flat_map lines (numbers_from 1 m) ≡ flat_map lines (numbers_from 1 g)
all_lines lines zero m e none = let one : m ≡ 1 = omega (arith, e) in ap (λ n. flat_map lines (numbers_from 1 n)) one ∙ ap (λ l. l ++ []) (none refl)
all_lines lines (suc g) m e none = let same : m ≡ suc g = omega (arith, e) in ap (λ n. flat_map lines (numbers_from 1 n)) same

no_lines : (records : List Record) (lines : List Line) → records ≡ [] → HasShape records lines → lines ≡ []
no_lines records lines e h = go lines (subst (λ rs. HasShape rs lines) e h)
  where
    go : (lines : List Line) → HasShape [] lines → lines ≡ []
    go [] h = refl
    go (line ∷ lines) h = absurd h

-- what the lines of a run tell of each collector's rounds
module _ (e : Engine) (long rounds : ℕ) (script : Script) (old new : List Session) (before after : Collectors) (all : List Line)
    (d : HasDrivenAll (engine_sizes e) long rounds script.records old before all new after) where
  abbrev sizes : Sizes
  sizes = engine_sizes e

  -- what the lines tell is what the passes removed
  pub told_all : ((k : Kind) → removed_of k before ≡ 0) → (k : Kind) → removed_of k after ≡ told_removed k all
  told_all fresh k =
      let a = removed_rounds k Group sizes long (view_in Group before) (view_in Group after) (d.sweeps Group) (d.made Group) in
      let b = removed_rounds k Table sizes long (view_in Table before) (view_in Table after) (d.sweeps Table) (d.made Table) in
      let c = removed_rounds k Interval sizes long (view_in Interval before) (view_in Interval after) (d.sweeps Interval) (d.made Interval) in
      let f = fresh k in
      let flat : List Line = flat_map d.lines (numbers_from 1 (length old)) in
      let g_lines : List Line = sweep_lines 1 (d.sweeps Group) in
      let t_lines : List Line = sweep_lines 1 (d.sweeps Table) in
      let i_lines : List Line = sweep_lines 1 (d.sweeps Interval) in
      let first : told_removed k flat ≡ 0 = flat_none k d.lines (λ j. tells_none k sizes.buckets (of_session j script.records) (d.lines j) (logs_of old j) (d.worked j).log None
      (d.worked j).tells) 1 (length old) in
      let x : told_removed k g_lines ≡ sum_by (swept_by k) (d.sweeps Group) = lines_removed k 1 (d.sweeps Group) in
      let y : told_removed k t_lines ≡ sum_by (swept_by k) (d.sweeps Table) = lines_removed k 1 (d.sweeps Table) in
      let w : told_removed k i_lines ≡ sum_by (swept_by k) (d.sweeps Interval) = lines_removed k 1 (d.sweeps Interval) in
      let p = sum_by-append (told_by k) flat (g_lines ++ (t_lines ++ i_lines)) in
      let q = sum_by-append (told_by k) g_lines (t_lines ++ i_lines) in
      let r = sum_by-append (told_by k) t_lines i_lines in
      let is : told_removed k all ≡ told_removed k (flat ++ (g_lines ++ (t_lines ++ i_lines))) = ap (told_removed k) d.told in
      omega (arith, a, b, c, f, first, x, y, w, p, q, r, is)

  -- The rounds of each kind of collector, as reports over logs that have a begin for each register that its steps loaded. No mark is over
  -- the end of the history.
  pub reports_of : (h : History) (logs : ℕ → List LogEntry) (kind : Kind) → ((n : ℕ) → SawGroups n (view_in kind after).sights → n ≤ length h) →
      Each (BeganIn logs) (view_in kind after).events → (reports : List Report) × (AreReports h logs kind rounds reports × (report_lines 1 reports ≡ sweep_lines 1 (d.sweeps kind)))
  reports_of h logs kind groups began =
      let swept : AreRounds (HasSwept kind sizes.sessions) (view_in kind before) (d.sweeps kind) (view_in kind after) = rounds_map (IsRoundBy kind sizes long)
      (HasSwept kind sizes.sessions) (λ a sweep b. swept_of kind sizes long a b sweep) (view_in kind before) (view_in kind after) (d.sweeps kind) (d.made kind) in
      let r = reported kind sizes.sessions h logs (view_in kind before) (view_in kind after) (d.sweeps kind) swept groups began in
      (r.0, (subst (λ n. AreReports h logs kind n r.0) (d.count kind) r.1.0, r.1.1))

  abbrev greatest_session : ℕ
  greatest_session = greatest (map (λ (r : Record). r.session) script.records)

  -- all lines, where each collector's are its reports
  pub lines_told : length old ≡ max 1 greatest_session → (reports : Kind → List Report) → ((kind : Kind) → report_lines 1 (reports kind) ≡ sweep_lines 1 (d.sweeps kind)) →
      all ≡ run_lines script.records d.lines (reports Group) (reports Table) (reports Interval)
  lines_told many reports are = d.told ∙ (λ i. sessions i ++ (sym (are Group) i ++ (sym (are Table) i ++ sym (are Interval) i)))
    where
      sessions : flat_map d.lines (numbers_from 1 (length old)) ≡ flat_map d.lines (numbers_from 1 greatest_session)
      sessions = all_lines d.lines greatest_session (length old) many
          (λ zero_is. no_lines (of_session 1 script.records) (d.lines 1) (none_over script.records 1 (let g : greatest_session ≡ 0 = zero_is in omega (arith, g))) (d.worked 1).shape)

-- ---- the whole

module _ (e : Engine) (long rounds : ℕ) (script : Script) (old new : List Session) (before after : Collectors) (all : List Line) (totals : Totals)
    (d : HasDrivenAll (engine_sizes e) long rounds script.records old before all new after) (t : IsClosedBy e new after totals)
    (none : (j : ℕ) → logs_of old j ≡ []) (fresh : (k : Kind) → removed_of k before ≡ 0) (numbered : Each (λ (r : Record). 1 ≤ r.session) script.records)
    (sessions : (engine_sizes e).sessions ≡ length old) (many : length old ≡ max 1 (greatest (map (λ (r : Record). r.session) script.records))) where
  abbrev z : Sizes
  z = engine_sizes e

  abbrev logs : ℕ → List LogEntry
  logs j = (d.worked j).log

  closes : (j : ℕ) → Closes (logs j) (logs_of new j)
  closes j = (d.worked j).closes

  told_of : (kind : Kind) → (reports : List Report) × (AreReports t.history logs kind rounds reports × (report_lines 1 reports ≡ sweep_lines 1 (d.sweeps kind)))
  told_of kind = reports_of e long rounds script old new before after all d t.history logs kind (t.groups kind) (began_before logs (logs_of new) (view_in kind after).events closes (t.began kind))

  abbrev reports : Kind → List Report
  reports kind = (told_of kind).0

  ran : HasRun z.buckets t.history logs rounds script.records d.lines (reports Group) (reports Table) (reports Interval)
  ran = record {
    logged = logged_before z.buckets t.history logs (logs_of new) closes t.logged;
    numbered = numbered;
    shape = λ j. (d.worked j).shape;
    tells = λ j. subst (λ l. Tells z.buckets (λ (r : Record) (line : Line). LeavesGc r.statement line.reply.answer) l None (of_session j script.records) (d.lines j) (logs j))
        (none j) (d.worked j).tells;
    of_group = (told_of Group).1.0;
    of_table = (told_of Table).1.0;
    of_interval = (told_of Interval).1.0;
  }

  abbrev printed : List Line
  printed = run_lines script.records d.lines (reports Group) (reports Table) (reports Interval)

  abbrev top : ℕ
  top = greatest (map (λ (r : Record). r.session) script.records)

  same : all ≡ printed
  same = lines_told e long rounds script old new before after all d many reports (λ kind. (told_of kind).1.1)

  counted : IsCounted z.sessions t.history (logs_of new) (said_from [] (in_order (run rounds) script.records) printed) totals
  counted =
      let shape : HasShape (in_order (run rounds) script.records) printed = subst (λ rs. HasShape rs printed) (sym (in_order_is rounds script.records))
      (run_shape z.buckets t.history logs rounds script.records d.lines (reports Group) (reports Table) (reports Interval) ran) in
      let told : (k : Kind) → removed_of k after ≡ sum_by (removed_by k) (said_from [] (in_order (run rounds) script.records) printed) = λ k. told_all e long rounds script old new
      before after all d fresh k ∙ (ap (told_removed k) same ∙ sym (removed_said k [] (in_order (run rounds) script.records) printed shape)) in
      let c = t.counted in
      record {
        made = c.made;
        undone = c.undone;
        group = c.group ∙ told Group;
        table = (let i = told Table in let k = c.table in omega (arith, i, k));
        interval = c.interval ∙ told Interval;
        left = c.left;
        balance = c.balance;
      }

  pub driven_sound : IsSound (run rounds) script (record { lines = all; totals = totals })
  driven_sound =
      let most : top ≤ z.sessions = omega (arith, many, sessions) in
      subst (λ (lines : List Line). IsSound (run rounds) script (record { lines = lines; totals = totals })) (sym same)
      (run_whole z.buckets z.sessions t.history logs (logs_of new) rounds script d.lines (reports Group) (reports Table) (reports Interval) totals ran
      (within z.sessions script.records most) closes counted)
