-- A run with a reader, as a run of all these sessions.
use Rattle.std.proofs.Common.{◌≡◌, ℕ, suc, ◌<◌, ◌≤◌, List, [], ◌∷◌, ◌++◌, length, map, max, Bool, false, None, inl, inr, refl, sym, ap, ◌∙◌, subst, arith, append_assoc}
use Rattle.std.specs.Prelude.{◌==◌, take, drop, sum_by, is_some, if◌then◌else◌, IsTrue}
use Rattle.std.specs.List.{flat_map}
use Rattle.std.proofs.lemmas.Bool.{true≢false}
use Rattle.std.proofs.lemmas.Bool.Decides.{nat_tests}
use Rattle.std.proofs.lemmas.List.Sums.{sum_by-append}
use Rattle.std.proofs.Math.Seq.{drop-append_seam, take-append_seam}
use Rattle.hg_base.specs.declared.report.Entry.{Entry}
use Rattle.hg_base.specs.declared.report.Kind.{Kind}
use Rattle.hg_base.specs.declared.report.Kind.TheVariants as kinds
use Rattle.hg_base.specs.declared.report.Report.{Report}
use Rattle.hg_base.specs.declared.statement.Record.{Record}
use Rattle.hg_base.specs.declared.line.Line.{Line}
use Rattle.hg_base.specs.declared.line.Totals.{Totals}
use Rattle.hg_base.specs.Counts.{removed_by}
use Rattle.hg_base.specs.Freshness.{is_declared}
use Rattle.hg_base.specs.History.{History}
use Rattle.hg_base.specs.Lists.{Each, greatest}
use Rattle.hg_base.specs.Script.{Script, run}
use Rattle.hg_base.specs.Shape.{HasShape}
use Rattle.hg_base.specs.Sound.{IsSound}
use Rattle.hg_base.specs.Transcript.{in_order, of_session, said_from, sessions_of}
use Rattle.hg_base.proofs.ListFacts.{each_append, each_keeps}
use Rattle.hg_core.specs.declared.log.LogEntry.{LogEntry}
use Rattle.hg_core.specs.Counters.{first_writes, undos}
use Rattle.hg_core.specs.Events.{put}
use Rattle.hg_core.specs.Logs.{current}
use Rattle.hg_core.specs.Reading.{Tells}
use Rattle.hg_core.proofs.Indices.{at_index, by_number, put_else, put_here}
use Rattle.hg_core.proofs.Sums.{sum_same}
use Rattle.hg_headline.specs.Counted.{Closes, IsCounted, every, made_in, undone_in}
use Rattle.hg_headline.specs.Following.{AreTotalsBy, told_by, told_removed}
use Rattle.hg_headline.specs.Gathered.{began_at}
use Rattle.hg_headline.specs.Ran.{AreReports, HasRun, IsPassReport, WasMet, report_lines, run_lines}
use Rattle.hg_headline.proofs.Counting.{run_whole}
use Rattle.hg_headline.proofs.Removed.{removed_said}
use Rattle.hg_headline.proofs.Rounds.{run_shape, sessions_shape}
use Rattle.hg_headline.proofs.Running.{in_order_is, none_over}
use Rattle.hg_dump.specs.Ran.{HasRunWith}
use Rattle.hg_dump.specs.Reader.{HasReadAll, IsSoundWith, lines_with, log_at, read_lines, read_records, reader_of, session_lines, with_reader}
use Rattle.hg_dump.proofs.Looks.{beginning, logged_read, made, read_as, read_closed, skipped, undone, without_none}
use Rattle.hg_dump.proofs.Reading.{Leaves, each_read, reader_shape, reader_tells, told_none}
use Rattle.hg_dump.proofs.Sessions.{all_records, lines_flat, session_else, session_here, session_in, top}

-- ---- reports

module _ (h : History) (logs : ℕ → List LogEntry) (j : ℕ) (ats : List ℕ) (before : List LogEntry) (read : HasReadAll ats before) where
  -- a begin is in the log with its looks as it is without
  begins_same : (d : Bool) (n k : ℕ) → began_at d n (put logs j before k) ≡ began_at d n (put logs j (log_at ats []) k)
  begins_same d n k = by_number j (λ i b. began_at d n (if b then before else logs i) ≡ began_at d n (if b then log_at ats [] else logs i)) (sym (beginning d n before) ∙
      ap (began_at d n) read) (λ i e. refl) k

  met_same : (e : Entry) → WasMet (put logs j before) e → WasMet (put logs j (log_at ats [])) e
  met_same e m = (subst (λ b. IsTrue b) (begins_same (is_declared e.scope) e.number e.session) m.0, m.1)

  report_same : (kind : Kind) (r : Report) → IsPassReport h (put logs j before) kind r → IsPassReport h (put logs j (log_at ats [])) kind r
  report_same kind r p = record {
    kind = p.kind;
    horizon = p.horizon;
    mark = p.mark;
    order = p.order;
    met = each_keeps (WasMet (put logs j before)) (WasMet (put logs j (log_at ats []))) met_same r.entries.list p.met;
  }

  pub reports_same : (kind : Kind) (rounds : ℕ) (reports : List Report) → AreReports h (put logs j before) kind rounds reports → AreReports h (put logs j (log_at ats [])) kind rounds reports
  reports_same kind rounds reports a = record {
    count = a.count;
    each = each_keeps (IsPassReport h (put logs j before) kind) (IsPassReport h (put logs j (log_at ats [])) kind)
        (report_same kind) reports a.each;
    rising = a.rising;
  }

-- ---- lines

pub shape_length : (rs : List Record) (lines : List Line) → HasShape rs lines → length rs ≡ length lines
shape_length [] [] h = refl
shape_length [] (line ∷ lines) h = absurd h
shape_length (r ∷ rs) [] h = absurd h
shape_length (r ∷ rs) (line ∷ lines) h = let rest = shape_length rs lines h.1 in omega (arith, rest)

no_lines : (rs : List Record) (lines : List Line) → rs ≡ [] → HasShape rs lines → lines ≡ []
no_lines rs lines e h = go lines (subst (λ q. HasShape q lines) e h)
  where
    go : (lines : List Line) → HasShape [] lines → lines ≡ []
    go [] k = refl
    go (line ∷ lines) k = absurd k

-- lines put between those of the sessions and those of the collectors
put_between : (n : ℕ) (first own last : List Line) → n ≡ length first → (first ++ own) ++ last ≡ take n (first ++ last) ++ (own ++ drop n (first ++ last))
put_between n first own last e =
    append_assoc first own last
    ∙ (λ i. sym (take-append_seam first last) i ++ (own ++ sym (drop-append_seam first last) i))
    ∙ ap (λ m. take m (first ++ last) ++ (own ++ drop m (first ++ last))) (sym e)

-- ---- the run

pub reader_not_zero : (m : ℕ) → (suc m == 0) ≡ false
reader_not_zero m = grind (arith, nat_tests)

not_same : (j k : ℕ) → (k ≡ j → ⊥) → (j == k) ≡ false
not_same j k e = grind (arith, nat_tests, e)

within_top : (m : ℕ) (rs : List Record) → greatest (map session_in rs) ≤ m → Each (λ (r : Record). r.session ≤ m) rs
within_top m [] most = tt
within_top m (r ∷ rs) most = (omega (arith, most), within_top m rs (omega (arith, most)))

closed_same : (l c : List LogEntry) → current l ≡ None → Closes l c → c ≡ l
closed_same l c none (inl e) = e.1
closed_same l c none (inr e) = absurd (true≢false (sym e.0 ∙ ap is_some none))

module _ (buckets : ℕ) (h : History) (logs : ℕ → List LogEntry) (rounds : ℕ) (script : Script) (at : ℕ) (ats : List ℕ) (lines : ℕ → List Line) (group table interval : List Report)
    (r : HasRunWith buckets h logs rounds script (at ∷ ats) lines group table interval) where
  abbrev j : ℕ
  j = reader_of script

  abbrev read : List ℕ
  read = at ∷ ats

  abbrev asked : List Record
  asked = (with_reader script read).records

  abbrev pub logs_with : ℕ → List LogEntry
  logs_with = put logs j (log_at read [])

  abbrev pub lines_of : ℕ → List Line
  lines_of = put lines j (read_lines j read)

  logs_here : logs_with j ≡ log_at read []
  logs_here = put_here logs j (log_at read [])

  lines_here : lines_of j ≡ read_lines j read
  lines_here = put_here lines j (read_lines j read)

  shape : (k : ℕ) → HasShape (of_session k asked) (lines_of k)
  shape k = at_index j (λ i. HasShape (of_session i asked) (lines_of i))
      (subst (λ rs. HasShape rs (lines_of j)) (sym (session_here script read))
      (subst (λ ls. HasShape (read_records j read) ls) (sym lines_here) (reader_shape j read (reader_not_zero (max 1 (top script))))))
      (λ i e. subst (λ rs. HasShape rs (lines_of i)) (sym (session_else script read i (not_same j i e)))
      (subst (λ ls. HasShape (of_session i script.records) ls) (sym (put_else lines j i (read_lines j read) e)) (r.shape i))) k

  tells : (k : ℕ) → Tells buckets Leaves [] None (of_session k asked) (lines_of k) (logs_with k)
  tells k = at_index j (λ i. Tells buckets Leaves [] None (of_session i asked) (lines_of i) (logs_with i))
      (subst (λ rs. Tells buckets Leaves [] None rs (lines_of j) (logs_with j)) (sym (session_here script read))
      (subst (λ ls. Tells buckets Leaves [] None (read_records j read) ls (logs_with j)) (sym lines_here)
      (subst (λ l. Tells buckets Leaves [] None (read_records j read) (read_lines j read) l) (sym logs_here) (reader_tells buckets j read [] None refl))))
      (λ i e. subst (λ rs. Tells buckets Leaves [] None rs (lines_of i) (logs_with i)) (sym (session_else script read i (not_same j i e)))
      (subst (λ ls. Tells buckets Leaves [] None (of_session i script.records) ls (logs_with i)) (sym (put_else lines j i (read_lines j read) e))
      (subst (λ l. Tells buckets Leaves [] None (of_session i script.records) (lines i) l) (sym (put_else logs j i (log_at read []) e)) (r.tells i e)))) k

  pub ran_with : HasRun buckets h logs_with rounds asked lines_of group table interval
  ran_with = record {
    logged = logged_read buckets j h logs read r.later r.logged r.ended;
    numbered = each_append (λ (q : Record). 1 ≤ q.session) script.records (read_records j read) r.numbered (each_read (λ (q : Record). 1 ≤ q.session) j read (omega arith) (omega arith));
    shape = shape;
    tells = tells;
    of_group = reports_same h logs j read r.before r.read kinds.Group rounds group r.of_group;
    of_table = reports_same h logs j read r.before r.read kinds.Table rounds table r.of_table;
    of_interval = reports_same h logs j read r.before r.read kinds.Interval rounds interval r.of_interval;
  }

  -- ---- its lines

  abbrev flat : List Line
  flat = flat_map lines (sessions_of script.records)

  abbrev reports : List Line
  reports = report_lines 1 group ++ (report_lines 1 table ++ report_lines 1 interval)

  abbrev pub printed : List Line
  printed = run_lines script.records lines group table interval

  flat_shape : HasShape (all_records script) flat
  flat_shape = sessions_shape script.records lines r.shape 1 (top script)

  flat_with : flat_map lines_of (sessions_of asked) ≡ flat ++ read_lines j read
  flat_with = lines_flat script at ats lines (λ zero_is. no_lines (of_session 1 script.records) (lines 1) (none_over script.records 1 (omega (arith, zero_is))) (r.shape 1))

  pub printed_with : run_lines asked lines_of group table interval ≡ lines_with script read printed
  printed_with = ap (λ ls. ls ++ reports) flat_with ∙ put_between (session_lines script) flat (read_lines j read) reports (shape_length (all_records script) flat flat_shape)

  told_with : (kind : Kind) → told_removed kind (run_lines asked lines_of group table interval) ≡ told_removed kind printed
  told_with kind =
      let is : told_removed kind (run_lines asked lines_of group table interval) ≡ told_removed kind ((flat ++ read_lines j read) ++ reports) = ap
      (λ ls. told_removed kind (ls ++ reports)) flat_with in
      let a = sum_by-append (told_by kind) (flat ++ read_lines j read) reports in
      let b = sum_by-append (told_by kind) flat (read_lines j read) in
      let c = sum_by-append (told_by kind) flat reports in
      let none = told_none kind j read in
      omega (arith, is, a, b, c, none)

  -- ---- its totals

  module _ (closed : ℕ → List LogEntry) (closes : (k : ℕ) → Closes (logs k) (closed k)) where
    abbrev closed_with : ℕ → List LogEntry
    closed_with = put closed j (log_at read [])

    closes_with : (k : ℕ) → Closes (logs_with k) (closed_with k)
    closes_with k = by_number j (λ i b. Closes (if b then log_at read [] else logs i) (if b then log_at read [] else closed i))
        (inl (read_closed read (log_at read []) (without_none read []), refl)) (λ i e. closes i) k

    reader_closed : closed j ≡ logs j
    reader_closed = closed_same (logs j) (closed j) (read_closed (read ++ r.later) (logs j) r.ended) (closes j)

    made_same : made_in j closed_with ≡ made_in j closed
    made_same = sum_same j (λ k. first_writes every (closed k)) (λ k. first_writes every (closed_with k))
        (λ k w. by_number j (λ i b. first_writes every (if b then log_at read [] else closed i) ≡ first_writes every (closed i))
        (skipped (first_writes every) (λ n m. refl) read [] ∙ sym (ap (first_writes every) reader_closed ∙
        read_as (first_writes every) (made every) (λ n m. refl) (read ++ r.later) (logs j) r.ended)) (λ i e. refl) k)

    undone_same : undone_in j closed_with ≡ undone_in j closed
    undone_same = sum_same j (λ k. undos every (closed k)) (λ k. undos every (closed_with k))
        (λ k w. by_number j (λ i b. undos every (if b then log_at read [] else closed i) ≡ undos every (closed i))
        (skipped (undos every) (λ n m. refl) read [] ∙ sym (ap (undos every) reader_closed ∙ read_as (undos every) (undone every) (λ n m. refl) (read ++ r.later) (logs j) r.ended)) (λ i e. refl) k)

    removed_with : (kind : Kind) → sum_by (removed_by kind) (said_from [] (in_order (run rounds) asked) (run_lines asked lines_of group table interval)) ≡ told_removed kind printed
    removed_with kind =
        removed_said kind [] (in_order (run rounds) asked) (run_lines asked lines_of group table interval)
        (subst (λ rs. HasShape rs (run_lines asked lines_of group table interval)) (sym (in_order_is rounds asked)) (run_shape buckets h logs_with rounds asked lines_of group table interval ran_with))
        ∙ told_with kind

    counted_with : (totals : Totals) → AreTotalsBy j h closed (λ kind. told_removed kind printed) totals →
        IsCounted j h closed_with (said_from [] (in_order (run rounds) asked) (run_lines asked lines_of group table interval)) totals
    counted_with totals t = record {
      made = t.made ∙ sym made_same;
      undone = t.undone ∙ sym undone_same;
      group = t.group ∙ sym (removed_with kinds.Group);
      table = (let is = removed_with kinds.Table in let most = t.table in omega (arith, is, most));
      interval = t.interval ∙ sym (removed_with kinds.Interval);
      left = t.left;
      balance = t.balance;
    }

    pub sound_some : (totals : Totals) → AreTotalsBy j h closed (λ kind. told_removed kind printed) totals → IsSoundWith rounds script read (record { lines = printed; totals = totals })
    sound_some totals t =
        let within : Each (λ (q : Record). q.session ≤ j) asked = each_append (λ (q : Record). q.session ≤ j) script.records (read_records j read)
        (within_top j script.records (omega arith)) (each_read (λ (q : Record). q.session ≤ j) j read (omega arith) (omega arith)) in
        subst (λ (ls : List Line). IsSound (run rounds) (with_reader script read) (record { lines = ls; totals = totals })) printed_with
        (run_whole buckets j h logs_with closed_with rounds (with_reader script read) lines_of group table interval totals ran_with within closes_with (counted_with totals t))

pub sound_with : (buckets : ℕ) (h : History) (logs closed : ℕ → List LogEntry) (rounds : ℕ) (script : Script) (ats : List ℕ) (lines : ℕ → List Line)
    (group table interval : List Report) (totals : Totals) → HasRunWith buckets h logs rounds script ats lines group table interval → ((j : ℕ) → Closes (logs j) (closed j)) →
    let shown : List Line = run_lines script.records lines group table interval in
    AreTotalsBy (reader_of script) h closed (λ kind. told_removed kind shown) totals → IsSoundWith rounds script ats (record { lines = shown; totals = totals })
sound_with buckets h logs closed rounds script [] lines group table interval totals r c t = absurd (let some : 0 < 0 = r.some in omega (arith, some))
sound_with buckets h logs closed rounds script (at ∷ ats) lines group table interval totals r c t = sound_some buckets h logs rounds script at ats lines group table interval r closed c totals t
