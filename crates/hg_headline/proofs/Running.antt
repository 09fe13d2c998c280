-- The lines of a run are sound.
use Rattle.std.proofs.Common.{◌≡◌, ℕ, zero, suc, ◌+◌, ◌<◌, ◌≤◌, List, [], ◌∷◌, ◌++◌, length, map, Bool, true, false, None, refl, sym, ap, ◌∙◌, subst, arith, Option}
use Rattle.std.specs.Prelude.{◌==◌, ◌&&◌, cond, if◌then◌else◌, nat_lt, ⊤}
use Rattle.std.specs.List.{flat_map}
use Rattle.std.proofs.lemmas.Bool.Decides.{Decides-eqb, nat_tests}
use Rattle.std.specs.Bool.{MatchBool}
use Rattle.hg_base.specs.declared.report.Kind.{Kind}
use Rattle.hg_base.specs.declared.report.Kind.TheVariants as kinds
use Rattle.hg_base.specs.declared.report.Report.{Report}
use Rattle.hg_base.specs.declared.statement.Record.{Record}
use Rattle.hg_base.specs.declared.statement.Statement.{Statement}
use Rattle.hg_base.specs.declared.statement.Statement.TheVariants.{Gc}
use Rattle.hg_base.specs.declared.line.Answer.{Answer}
use Rattle.hg_base.specs.declared.line.Answer.TheVariants.{Swept}
use Rattle.hg_base.specs.declared.line.Reply.{Reply}
use Rattle.hg_base.specs.declared.line.Line.{Line}
use Rattle.hg_base.specs.Lists.{Each, numbers_from, greatest}
use Rattle.hg_base.specs.Script.{run}
use Rattle.hg_base.specs.History.{History}
use Rattle.hg_base.specs.Reports.{sweep_of}
use Rattle.hg_base.specs.Transcript.{of_session, sessions_of, rounds_of, in_order, Rest, rest_after}
use Rattle.hg_base.specs.Replies.{IsSwept, IsBeside}
use Rattle.hg_base.proofs.ListFacts.{cases, append_nil}
use Rattle.hg_base.proofs.Growth.{left_below, right_below}
use Rattle.hg_core.specs.declared.log.LogEntry.{LogEntry}
use Rattle.hg_core.specs.Logs.{current}
use Rattle.hg_core.specs.Events.{put}
use Rattle.hg_core.proofs.Right.{if_any}
use Rattle.hg_core.proofs.Answering.{not_alone}
use Rattle.hg_core.specs.Reading.{Unprinted, Fits, is_alone, log_with, log_after, Tells, Follows, HasRest, rest_over}
use Rattle.hg_core.proofs.Indices.{by_number, put_here}
use Rattle.hg_headline.specs.Ran.{LeavesGc, report_lines, run_lines, HasRun}
use Rattle.hg_headline.proofs.Words.{differs, cons_is_not_nil, append_assoc}
use Rattle.hg_headline.proofs.Commits.{plus_zero, plus_suc}
use Rattle.hg_headline.proofs.LineParts.{AsCollected}
use Rattle.hg_headline.proofs.Growing.{put_same, put_twice}
use Rattle.hg_headline.proofs.Answering.{nothing_more}

-- ---- one session after the other

-- a `gc` is left to the collectors, whose reports stand at session 0
abbrev pub RunsGc : ℕ → (ℕ → List LogEntry) → Record → Line → Type 0
RunsGc rounds logs r line = AsCollected (run rounds) r.session r.statement line.reply.answer

-- and so is that of a session's line
abbrev pub LeavesLine : Record → Line → Type 0
LeavesLine r line = LeavesGc r.statement line.reply.answer

pub leaves_gc : (rounds j : ℕ) (s : Statement) (a : Answer) → (j == 0) ≡ false → LeavesGc s a → AsCollected (run rounds) j s a
leaves_gc rounds j (Gc kind) a e k = subst (λ b. MatchBool b (IsSwept a) (IsBeside a)) (sym e) k
leaves_gc rounds j _ a e k = tt

not_zero : (m : ℕ) → 1 ≤ m → (m == 0) ≡ false
not_zero m k = grind (arith, nat_tests)

rests_twice : (left : ℕ → Option Rest) (j : ℕ) (a b : Option Rest) → put (put left j a) j b ≡ put left j b
rests_twice left j a b = λ i k. (go k (k == j)) i
  where
    go : (k : ℕ) (t : Bool) → (if t then b else (if t then a else left k)) ≡ (if t then b else left k)
    go k true = refl
    go k false = refl

rests_same : (left : ℕ → Option Rest) (j : ℕ) → put left j (left j) ≡ left
rests_same left j = λ i k. by_number j (λ k b. (if b then left j else left k) ≡ left k) refl (λ k z. refl) k i

-- the records of one session, from its log, and then the others
pub session_follows : (rounds buckets j : ℕ) (rs more : List Record) (lines later : List Line) (logs final : ℕ → List LogEntry) (left : ℕ → Option Rest) (l m : List LogEntry)
    (rest : Option Rest) → (j == 0) ≡ false → Each (λ (r : Record). r.session ≡ j) rs → l ≡ logs j → rest ≡ left j → Tells buckets LeavesLine l rest rs lines m →
    Follows buckets (RunsGc rounds) (put logs j m) (put left j (rest_over rest rs lines)) more later final → Follows buckets (RunsGc rounds) logs left (rs ++ more) (lines ++ later) final
session_follows rounds buckets j [] more [] later logs final left l m rest not is e k t f =
    subst (λ ls. Follows buckets (RunsGc rounds) ls left more later final) (ap (put logs j) (t ∙ e) ∙ put_same logs j)
    (subst (λ lf. Follows buckets (RunsGc rounds) (put logs j m) lf more later final) (ap (put left j) k ∙ rests_same left j) f)
session_follows rounds buckets j [] more (line ∷ lines) later logs final left l m rest not is e k t f = absurd t
session_follows rounds buckets j (r ∷ rs) more [] later logs final left l m rest not is e k t f = absurd t
session_follows rounds buckets j (r ∷ rs) more (line ∷ lines) later logs final left l m rest not is e k t f =
    let u : Unprinted = t.1.0 in
    let after : List LogEntry = log_after buckets u r.statement line.reply l in
    let behind : Option Rest = rest_after r.statement line.reply.answer rest in
    let at : ℕ → List LogEntry → Option Rest → Type 0 = λ i x y. (v : Unprinted) × Fits buckets v x r.statement line.reply
    × Follows buckets (RunsGc rounds) (put logs i (log_after buckets v r.statement line.reply x)) (put left i (rest_after r.statement line.reply.answer y)) (rs ++ more)
    (lines ++ later) final × HasRest r.statement v.rest y in
    let here : at j l rest = (
      u,
      t.1.1,
      session_follows rounds buckets j rs more lines later (put logs j after) final (put left j behind) after m behind not is.1 (sym (put_here logs j after)) (sym (put_here left j behind)) t.1.2
          (subst (λ lf. Follows buckets (RunsGc rounds) (put (put logs j after) j m) lf more later final) (sym (rests_twice left j behind (rest_over behind rs lines)))
          (subst (λ ls. Follows buckets (RunsGc rounds) ls (put left j (rest_over behind rs lines)) more later final) (sym (put_twice logs j after m)) f)),
      t.1.3,
    ) in (
      leaves_gc rounds r.session r.statement line.reply.answer (ap (λ i. i == 0) is.0 ∙ not) t.0,
      subst (λ i. at i (logs i) (left i)) (sym is.0)
          (subst (at j (logs j)) k (subst (λ x. at j x rest) e here)),
    )

pub of_session_is : (j : ℕ) (rs : List Record) → Each (λ (r : Record). r.session ≡ j) (of_session j rs)
of_session_is j [] = tt
of_session_is j (r ∷ rs) = go (r.session == j) refl (of_session_is j rs)
  where
    go : (b : Bool) → (r.session == j) ≡ b → Each (λ (q : Record). q.session ≡ j) (of_session j rs) → Each (λ (q : Record). q.session ≡ j) (cond b (r ∷ of_session j rs) (of_session j rs))
    go true e h = ((Decides-eqb r.session j).0 e, h)
    go false e h = h

-- the logs of the sessions that are done
abbrev pub done : (ℕ → List LogEntry) → ℕ → ℕ → List LogEntry
done final n = λ j. if nat_lt j n then final j else []

pub begun_with : (final : ℕ → List LogEntry) (n : ℕ) → put (done final n) n (final n) ≡ done final (suc n)
begun_with final n = λ z k. (by_number n (λ i b. (if b then final n else (if nat_lt i n then final i else [])) ≡ (if nat_lt i (suc n) then final i else []))
    (ap (λ b. if b then final n else []) (sym (below n)))
    (λ i e. ap (λ b. if b then final i else []) (same_below i n e)) k) z
  where
    below : (m : ℕ) → nat_lt m (suc m) ≡ true
    below m = grind (arith, nat_tests)

    same_below : (i m : ℕ) → (i ≡ m → ⊥) → nat_lt i m ≡ nat_lt i (suc m)
    same_below i m e = cases (nat_lt i m) (λ q. q ∙ sym (more_true i m q)) (λ q. q ∙ sym (more_false i m e q))
      where
        more_true : (i m : ℕ) → nat_lt i m ≡ true → nat_lt i (suc m) ≡ true
        more_true i m q = grind (arith, nat_tests)

        more_false : (i m : ℕ) → (i ≡ m → ⊥) → nat_lt i m ≡ false → nat_lt i (suc m) ≡ false
        more_false i m e q = grind (arith, nat_tests)

-- what the cursors of the sessions that are done have left
abbrev pub rests_done : (ℕ → Option Rest) → ℕ → ℕ → Option Rest
rests_done rests n = λ j. if nat_lt j n then rests j else None

rests_begun : (rests : ℕ → Option Rest) (n : ℕ) → put (rests_done rests n) n (rests n) ≡ rests_done rests (suc n)
rests_begun rests n = λ z k. (by_number n (λ i b. (if b then rests n else (if nat_lt i n then rests i else None)) ≡ (if nat_lt i (suc n) then rests i else None))
    (ap (λ b. if b then rests n else None) (sym (below n)))
    (λ i e. ap (λ b. if b then rests i else None) (same_below i n e)) k) z
  where
    below : (m : ℕ) → nat_lt m (suc m) ≡ true
    below m = grind (arith, nat_tests)

    same_below : (i m : ℕ) → (i ≡ m → ⊥) → nat_lt i m ≡ nat_lt i (suc m)
    same_below i m e = cases (nat_lt i m) (λ q. q ∙ sym (more_true i m q)) (λ q. q ∙ sym (more_false i m e q))
      where
        more_true : (i m : ℕ) → nat_lt i m ≡ true → nat_lt i (suc m) ≡ true
        more_true i m q = grind (arith, nat_tests)

        more_false : (i m : ℕ) → (i ≡ m → ⊥) → nat_lt i m ≡ false → nat_lt i (suc m) ≡ false
        more_false i m e q = grind (arith, nat_tests)

rests_not_done : (rests : ℕ → Option Rest) (n : ℕ) → rests_done rests n n ≡ None
rests_not_done rests n = ap (λ b. if b then rests n else None) (not_below n)
  where
    not_below : (m : ℕ) → nat_lt m m ≡ false
    not_below m = grind (arith, nat_tests)

-- what each session's cursor has left after its records
abbrev pub rests_of : List Record → (ℕ → List Line) → ℕ → Option Rest
rests_of records lines j = rest_over None (of_session j records) (lines j)

pub not_done : (final : ℕ → List LogEntry) (n : ℕ) → done final n n ≡ []
not_done final n = ap (λ b. if b then final n else []) (not_below n)
  where
    not_below : (m : ℕ) → nat_lt m m ≡ false
    not_below m = grind (arith, nat_tests)

pub sessions_follow : (rounds buckets : ℕ) (records : List Record) (lines : ℕ → List Line) (final : ℕ → List LogEntry) (more : List Record) (later : List Line) →
    ((j : ℕ) → Tells buckets LeavesLine [] None (of_session j records) (lines j) (final j)) → (n many : ℕ) → 1 ≤ n →
    Follows buckets (RunsGc rounds) (done final (n + many)) (rests_done (rests_of records lines) (n + many)) more later final →
    Follows buckets (RunsGc rounds) (done final n) (rests_done (rests_of records lines) n) (flat_map (λ j. of_session j records) (numbers_from n many) ++ more)
    (flat_map lines (numbers_from n many) ++ later) final
sessions_follow rounds buckets records lines final more later t n zero some f = subst
    (λ m. Follows buckets (RunsGc rounds) (done final m) (rests_done (rests_of records lines) m) more later final) (plus_zero n) f
sessions_follow rounds buckets records lines final more later t n (suc many) some f =
    let rests : ℕ → Option Rest = rests_of records lines in
    let rest_r : List Record = flat_map (λ j. of_session j records) (numbers_from (suc n) many) in
    let rest_l : List Line = flat_map lines (numbers_from (suc n) many) in
    subst (λ rs. Follows buckets (RunsGc rounds) (done final n) (rests_done rests n) rs ((lines n ++ rest_l) ++ later) final) (sym (append_assoc (of_session n records) rest_r more))
    (subst (λ ls. Follows buckets (RunsGc rounds) (done final n) (rests_done rests n) (of_session n records ++ (rest_r ++ more)) ls final) (sym (append_assoc (lines n) rest_l later))
    (session_follows rounds buckets n (of_session n records) (rest_r ++ more) (lines n) (rest_l ++ later) (done final n) final (rests_done rests n) [] (final n) None
    (not_zero n some) (of_session_is n records) (sym (not_done final n)) (sym (rests_not_done rests n)) (t n)
    (subst (λ lf. Follows buckets (RunsGc rounds) (put (done final n) n (final n)) lf (rest_r ++ more) (rest_l ++ later) final) (sym (rests_begun rests n))
    (subst (λ ls. Follows buckets (RunsGc rounds) ls (rests_done rests (suc n)) (rest_r ++ more) (rest_l ++ later) final) (sym (begun_with final n))
    (sessions_follow rounds buckets records lines final more later t (suc n) many (omega (arith, some))
    (subst (λ m. Follows buckets (RunsGc rounds) (done final m) (rests_done rests m) more later final) (plus_suc n many) f))))))

-- ---- the reports leave the logs as they are

abbrev pub round_of : Kind → ℕ → Record
round_of kind n = record { place = n; session = 0; statement = Gc kind }

pub reports_follow : (rounds buckets : ℕ) (kind : Kind) (reports : List Report) (n : ℕ) (logs final : ℕ → List LogEntry) (left : ℕ → Option Rest) (more : List Record)
    (later : List Line) → Follows buckets (RunsGc rounds) logs left more later final →
    Follows buckets (RunsGc rounds) logs left (map (round_of kind) (numbers_from n (length reports)) ++ more) (report_lines n reports ++ later) final
reports_follow rounds buckets kind [] n logs final left more later f = f
reports_follow rounds buckets kind (report ∷ reports) n logs final left more later f =
    let out : is_alone (current (logs 0)) (Gc kind) ≡ false = not_alone (current (logs 0)) (Gc kind) refl in
    let reply : Reply = record { at = None; answer = Swept (sweep_of report); number = None } in
    let rest = reports_follow rounds buckets kind reports (suc n) logs final left more later f in
    let after : log_after buckets nothing_more (Gc kind) reply (logs 0) ≡ logs 0 = ap (λ b. log_with b buckets nothing_more (Gc kind) reply (logs 0)) out in (
      tt,
      (
        nothing_more,
        record { at = sym out; number = sym (ap (λ b. b && false) out); answer = tt; scope = if_any (current (logs 0)) (λ snapshot. ⊤) (λ snapshot. tt); inside = tt },
        subst (λ lf. Follows buckets (RunsGc rounds) (put logs 0 (log_after buckets nothing_more (Gc kind) reply (logs 0))) lf
            (map (round_of kind) (numbers_from (suc n) (length reports)) ++ more) (report_lines (suc n) reports ++ later) final) (sym (rests_same left 0))
            (subst (λ ls. Follows buckets (RunsGc rounds) ls left (map (round_of kind) (numbers_from (suc n) (length reports)) ++ more)
            (report_lines (suc n) reports ++ later) final) (sym (ap (put logs 0) after ∙ put_same logs 0)) rest),
        tt,
      ),
    )

-- ---- no records of a session

pub none_over : (records : List Record) (j : ℕ) → greatest (map (λ (r : Record). r.session) records) < j → of_session j records ≡ []
none_over [] j h = refl
none_over (r ∷ rs) j h =
    ap (λ b. cond b (r ∷ of_session j rs) (of_session j rs)) (differs r.session j (left_below r.session (greatest (map (λ (q : Record). q.session) rs)) j h))
    ∙ none_over rs j (right_below r.session (greatest (map (λ (q : Record). q.session) rs)) j h)

pub none_at_zero : (records : List Record) → Each (λ (r : Record). 1 ≤ r.session) records → of_session 0 records ≡ []
none_at_zero [] h = refl
none_at_zero (r ∷ rs) h = ap (λ b. cond b (r ∷ of_session 0 rs) (of_session 0 rs)) (not_zero r.session h.0) ∙ none_at_zero rs h.1

pub tells_nothing : (buckets : ℕ) (l m : List LogEntry) (left : Option Rest) (rs : List Record) (lines : List Line) → rs ≡ [] → Tells buckets LeavesLine l left rs lines m → m ≡ l
tells_nothing buckets l m left [] [] e t = t
tells_nothing buckets l m left [] (line ∷ lines) e t = absurd t
tells_nothing buckets l m left (r ∷ rs) lines e t = absurd (cons_is_not_nil r rs e)

pub parts_follow : (rounds : ℕ) (buckets : ℕ) (kind : Kind) (reports : List Report) (logs final : ℕ → List LogEntry) (left : ℕ → Option Rest) (more : List Record)
    (later : List Line) → length reports ≡ rounds → Follows buckets (RunsGc rounds) logs left more later final →
    Follows buckets (RunsGc rounds) logs left (rounds_of kind rounds ++ more) (report_lines 1 reports ++ later) final
parts_follow rounds buckets kind reports logs final left more later e f = subst (λ n. Follows buckets (RunsGc rounds) logs left (map (round_of kind) (numbers_from 1 n) ++ more)
    (report_lines 1 reports ++ later) final) e (reports_follow rounds buckets kind reports 1 logs final left more later f)

pub all_done : (buckets : ℕ) (records : List Record) (lines : ℕ → List Line) (final : ℕ → List LogEntry) →
    ((j : ℕ) → Tells buckets LeavesLine [] None (of_session j records) (lines j) (final j)) → (j : ℕ) → final j ≡ done final (1 + greatest (map (λ (r : Record). r.session) records)) j
all_done buckets records lines final t j = cases (nat_lt j (1 + greatest (map (λ (r : Record). r.session) records)))
    (λ e. ap (λ b. if b then final j else []) (sym e))
    (λ e. tells_nothing buckets [] (final j) None (of_session j records) (lines j) (none_over records j (over j (greatest (map (λ (r : Record). r.session) records)) e)) (t j) ∙
    ap (λ b. if b then final j else []) (sym e))
  where
    over : (i m : ℕ) → nat_lt i (1 + m) ≡ false → m < i
    over i m e = grind (arith, nat_tests)

-- the records of the sessions, and those of the rounds
abbrev pub parted : ℕ → List Record → List Record
parted rounds records = flat_map (λ j. of_session j records) (sessions_of records) ++ (rounds_of kinds.Group rounds ++ (rounds_of kinds.Table rounds ++ rounds_of kinds.Interval rounds))

pub in_order_is : (rounds : ℕ) (records : List Record) → in_order (run rounds) records ≡ parted rounds records
in_order_is rounds records =
    append_assoc (flat_map (λ j. of_session j records) (sessions_of records) ++ rounds_of kinds.Group rounds) (rounds_of kinds.Table rounds) (rounds_of kinds.Interval rounds)
    ∙ append_assoc (flat_map (λ j. of_session j records) (sessions_of records)) (rounds_of kinds.Group rounds) (rounds_of kinds.Table rounds ++ rounds_of kinds.Interval rounds)

pub run_follows : (buckets : ℕ) (h : History) (logs : ℕ → List LogEntry) (rounds : ℕ) (records : List Record) (lines : ℕ → List Line) (group table interval : List Report) →
    HasRun buckets h logs rounds records lines group table interval → Follows buckets (RunsGc rounds) (λ j. []) (λ j. None) (in_order (run rounds) records)
    (run_lines records lines group table interval) logs
run_follows buckets h logs rounds records lines group table interval ran =
    let top : ℕ = greatest (map (λ (r : Record). r.session) records) in
    let rests : ℕ → Option Rest = rests_of records lines in
    let end : Follows buckets (RunsGc rounds) (done logs (1 + top)) (rests_done rests (1 + top)) [] [] logs = all_done buckets records lines logs ran.tells in
    let last : Follows buckets (RunsGc rounds) (done logs (1 + top)) (rests_done rests (1 + top)) (rounds_of kinds.Interval rounds) (report_lines 1 interval) logs =
    subst (λ rs. Follows buckets (RunsGc rounds) (done logs (1 + top)) (rests_done rests (1 + top)) rs (report_lines 1 interval) logs) (append_nil (rounds_of kinds.Interval rounds))
    (subst (λ ls. Follows buckets (RunsGc rounds) (done logs (1 + top)) (rests_done rests (1 + top)) (rounds_of kinds.Interval rounds ++ []) ls logs) (append_nil (report_lines 1 interval))
    (parts_follow rounds buckets kinds.Interval interval (done logs (1 + top)) logs (rests_done rests (1 + top)) [] [] ran.of_interval.count end)) in
    subst (λ lf. Follows buckets (RunsGc rounds) (λ j. []) lf (in_order (run rounds) records) (run_lines records lines group table interval) logs) (λ i j. start_rests j i)
    (subst (λ ls. Follows buckets (RunsGc rounds) ls (rests_done rests 1) (in_order (run rounds) records) (run_lines records lines group table interval) logs) (λ i j. start j i)
    (subst (λ rs. Follows buckets (RunsGc rounds) (done logs 1) (rests_done rests 1) rs (run_lines records lines group table interval) logs) (sym (in_order_is rounds records))
    (sessions_follow rounds buckets records lines logs _ _ ran.tells 1 top (omega arith)
    (parts_follow rounds buckets kinds.Group group (done logs (1 + top)) logs (rests_done rests (1 + top)) _ _ ran.of_group.count
    (parts_follow rounds buckets kinds.Table table (done logs (1 + top)) logs (rests_done rests (1 + top)) _ _ ran.of_table.count last)))))
  where
    first_is : logs 0 ≡ []
    first_is = tells_nothing buckets [] (logs 0) None (of_session 0 records) (lines 0) (none_at_zero records ran.numbered) (ran.tells 0)

    start : (j : ℕ) → done logs 1 j ≡ []
    start zero = first_is
    start (suc j) = ap (λ b. if b then logs (suc j) else []) (not_first j)
      where
        not_first : (i : ℕ) → nat_lt (suc i) 1 ≡ false
        not_first i = grind (arith, nat_tests)

    start_rests : (j : ℕ) → rests_done (rests_of records lines) 1 j ≡ None
    start_rests zero = no_rest (of_session 0 records) (lines 0) (none_at_zero records ran.numbered)
      where
        no_rest : (rs : List Record) (ls : List Line) → rs ≡ [] → rest_over None rs ls ≡ None
        no_rest [] ls e = refl
        no_rest (r ∷ rs) ls e = absurd (cons_is_not_nil r rs e)
    start_rests (suc j) = ap (λ b. if b then rests_of records lines (suc j) else None) (not_first j)
      where
        not_first : (i : ℕ) → nat_lt (suc i) 1 ≡ false
        not_first i = grind (arith, nat_tests)
