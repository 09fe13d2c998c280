-- The totals of a replay are those of its lines.
use Rattle.std.proofs.Common.{◌≡◌, inl, inr, ℕ, ◌+◌, ◌≤◌, subst, List, [], ◌∷◌, ◌++◌, length, map, Bool, true, false, not, Option, Some, None, refl, sym, ap, ◌∙◌, arith}
use Rattle.std.specs.Prelude.{◌==◌, ◌||◌, filter, filter_map, if◌then◌else◌, is_some, ⊤}
use Rattle.std.specs.List.{flat_map, list_any, cons_option}
use Rattle.hg_base.specs.declared.rid.Rid.{Rid}
use Rattle.hg_base.specs.declared.line.Line.{Line}
use Rattle.hg_base.specs.declared.line.Totals.{Totals}
use Rattle.hg_base.specs.declared.line.Printed.{Printed}
use Rattle.hg_base.specs.Lists.{Each, numbers_from, onto}
use Rattle.hg_base.specs.Script.{Mode, Script, replay, run}
use Rattle.hg_base.specs.History.{History}
use Rattle.hg_base.specs.Transcript.{Said, is_of, committed, commits, history_of, said_from, of_session, sessions_of, rounds_of, in_order}
use Rattle.hg_base.specs.Transcript.{numbers_in as printed_numbers}
use Rattle.hg_base.specs.Counts.{AreTotals, is_committed}
use Rattle.hg_base.specs.Counts.{first_writes as printed_firsts}
use Rattle.hg_base.specs.Sound.{IsSound}
use Rattle.hg_core.specs.declared.log.LogEntry.{LogEntry}
use Rattle.hg_core.specs.declared.log.LogEntry.TheVariants.{Began, Saw, Refused, Outside, Wrote, Undid, Published, Over}
use Rattle.hg_core.specs.Logs.{begans}
use Rattle.hg_core.specs.Replies.{numbers_in}
use Rattle.hg_core.specs.Counters.{first_writes, undos}
use Rattle.hg_core.specs.Sums.{sum_to}
use Rattle.hg_core.proofs.Sums.{sum_same, sum_none}
use Rattle.hg_base.specs.declared.report.Kind.{Kind}
use Rattle.hg_base.specs.declared.report.Kind.TheVariants as kinds
use Rattle.hg_base.specs.declared.report.Report.{Report}
use Rattle.hg_base.specs.declared.statement.Record.{Record}
use Rattle.hg_base.specs.declared.statement.Statement.TheVariants.{Gc}
use Rattle.hg_base.proofs.ListFacts.{each_keeps, each_append}
use Rattle.hg_core.specs.Reading.{Follows}
use Rattle.hg_core.proofs.Right.{places_of}
use Rattle.hg_headline.specs.Logged.{Logged}
use Rattle.hg_headline.specs.Ran.{run_lines, HasRun}
use Rattle.hg_headline.proofs.Words.{each_pairs, is_any}
use Rattle.hg_headline.proofs.Same.{each_filter}
use Rattle.hg_headline.proofs.LineParts.{AsCollected}
use Rattle.hg_headline.proofs.Running.{RunsGc, in_order_is, run_follows}
use Rattle.hg_headline.proofs.Rounds.{run_sound}
use Rattle.hg_headline.specs.Met.{IsMet}
use Rattle.hg_headline.specs.Replayed.{HasReplayed}
use Rattle.hg_headline.specs.Counted.{every, Closes, IsCounted}
use Rattle.hg_headline.proofs.Ties.{Ties, ties_nothing}
use Rattle.hg_headline.proofs.Commits.{Matches, same_printed, printed_onto}
use Rattle.hg_headline.proofs.Whole.{matches_all}
use Rattle.hg_headline.proofs.Telling.{lines_told}
use Rattle.hg_base.proofs.Resting.{left_nothing}
use Rattle.hg_headline.proofs.Replaying.{met_collected, replay_sound}
use Rattle.hg_headline.proofs.Firsts.{first_by, first_writes_is, first_undone, passes, CountsFor, lines_counted}
use Rattle.hg_headline.proofs.Undone.{publishes, undone_in_log}
use Rattle.hg_headline.proofs.Tidy.{IsTidyBetween, follows_tidy, closed_tidy}
use Rattle.hg_headline.proofs.Lives.{lives_same}

-- ---- transactions with a number

pub any_number : (o : Option ℕ) (b : Bool) (ns : List ℕ) → b ≡ is_any ns → (is_some o || b) ≡ is_any (cons_option o ns)
any_number None b ns e = e
any_number (Some n) b ns e = refl

pub any_committed : (xs : List Said) → list_any (λ said. is_some (committed said)) xs ≡ is_any (filter_map committed xs)
any_committed [] = refl
any_committed (x ∷ xs) = any_number (committed x) (list_any (λ said. is_some (committed said)) xs) (filter_map committed xs) (any_committed xs)

any_onto : (ns es : List ℕ) → is_any (onto ns es) ≡ (is_any ns || is_any es)
any_onto [] es = refl
any_onto (n ∷ ns) es = any_onto ns (n ∷ es) ∙ go (is_any ns)
  where
    go : (b : Bool) → (b || true) ≡ true
    go true = refl
    go false = refl

any_back : (ns : List ℕ) → is_any ns ≡ is_any (onto ns [])
any_back ns = sym (any_onto ns [] ∙ go (is_any ns))
  where
    go : (b : Bool) → (b || false) ≡ b
    go true = refl
    go false = refl

publishes_is : (x : ℕ) (l : List LogEntry) → is_any (numbers_in x l) ≡ publishes x l
publishes_is x [] = refl
publishes_is x (Published n ∷ l) = go (begans l == x) (publishes_is x l)
  where
    go : (b : Bool) → is_any (numbers_in x l) ≡ publishes x l → is_any (if b then n ∷ numbers_in x l else numbers_in x l) ≡ (b || publishes x l)
    go true e = refl
    go false e = e
publishes_is x (Began at scope ∷ l) = publishes_is x l
publishes_is x (Wrote r i ∷ l) = publishes_is x l
publishes_is x (Saw t low high b rows ∷ l) = publishes_is x l
publishes_is x (Refused r a ∷ l) = publishes_is x l
publishes_is x (Outside t ∷ l) = publishes_is x l
publishes_is x (Undid r ∷ l) = publishes_is x l
publishes_is x (Over ∷ l) = publishes_is x l

-- a line's transaction has a number just where its session's log has one for it
pub committed_is : (logs : ℕ → List LogEntry) (all : List Said) → ((j : ℕ) → Ties j (onto all []) (logs j)) → (now : Said) → is_committed all now ≡ publishes now.transaction (logs now.session)
committed_is logs all ties now =
    any_committed (filter (is_of now.session now.transaction) all)
    ∙ any_back (printed_numbers now.session now.transaction all)
    ∙ ap is_any (sym (printed_onto now.session now.transaction all) ∙ (ties now.session).numbers now.transaction)
    ∙ publishes_is now.transaction (logs now.session)

-- ---- as the logs are closed

publishes_undone : (x : ℕ) (rids : List Rid) (l : List LogEntry) → publishes x (map Undid rids ++ l) ≡ publishes x l
publishes_undone x [] l = refl
publishes_undone x (r ∷ rids) l = publishes_undone x rids l

closed_firsts : (test : ℕ → Bool) (l m : List LogEntry) → Closes l m → first_by test m ≡ first_by test l
closed_firsts test l m (inl k) = ap (first_by test) k.1
closed_firsts test l m (inr k) = ap (first_by test) k.1.2 ∙ first_undone test k.1.0 l

closed_publishes : (x : ℕ) (l m : List LogEntry) → Closes l m → publishes x m ≡ publishes x l
closed_publishes x l m (inl k) = ap (publishes x) k.1
closed_publishes x l m (inr k) = ap (publishes x) k.1.2 ∙ publishes_undone x k.1.0 l

pub all_pass : {X : Type 0} (xs : List X) → filter (λ x. true) xs ≡ xs
all_pass [] = refl
all_pass (x ∷ xs) = ap (λ ys. x ∷ ys) (all_pass xs)

add_nothing : (m n z : ℕ) → z ≡ 0 → m + z ≡ n → m ≡ n
add_nothing m n z e f = omega (arith, e, f)

-- ---- what lines say of their sessions' logs

-- the first writes that a test of session and transaction passes are as many as in the logs
pub record CountFirsts (sessions : ℕ) (logs : ℕ → List LogEntry) (all : List Said) : Type 0 where
  pub counted : (test : ℕ → ℕ → Bool) → length (filter (passes test) (printed_firsts all)) ≡ sum_to sessions (λ j. first_by (test j) (logs j))
  pub tidy : (j : ℕ) → IsTidyBetween (logs j)
  pub ties : (j : ℕ) → Ties j (onto all []) (logs j)

pub firsts_counted : (mode : Mode) (buckets sessions : ℕ) (h : History) (logs : ℕ → List LogEntry) (P : (ℕ → List LogEntry) → Record → Line → Type 0) (records : List Record)
    (lines : List Line) → ((ls : ℕ → List LogEntry) (r : Record) (line : Line) → P ls r line → AsCollected mode r.session r.statement line.reply.answer) →
    Each (CountsFor sessions) records →
    Logged buckets h logs → Follows buckets P (λ j. []) (λ j. None) records lines logs → CountFirsts sessions logs (said_from [] records lines)
firsts_counted mode buckets sessions h logs P records lines gc within logged follows =
    let all : List Said = said_from [] records lines in
    let k : History = history_of all in
    let places = places_of buckets logged.some in
    record {
      counted = λ test. add_nothing (length (filter (passes test) (printed_firsts all))) (sum_to sessions (λ j. first_by (test j) (logs j)))
          (sum_to sessions (λ j. 0)) (sum_none sessions)
          (lines_counted mode buckets sessions h k logs all test P places gc records lines (λ j. []) logs [] (λ j. ties_nothing j) (λ j. None)
          (λ j. left_nothing j) within follows logged.judged logged.replied);
      tidy = follows_tidy buckets h logs P records lines (λ j. []) logs (λ j. None) follows logged.judged logged.replied (λ j. (tt, refl));
      ties = (lines_told mode buckets h k logs all P (λ j l. ⊤) (λ j e l q. tt) places gc records lines (λ j. []) logs [] (λ j. ties_nothing j) (λ j. None)
          (λ j. left_nothing j) follows logged.judged logged.replied (λ j. tt)).1;
    }

-- ---- the totals

pub counts_are : (mode : Mode) (buckets sessions : ℕ) (h : History) (logs closed : ℕ → List LogEntry) (P : (ℕ → List LogEntry) → Record → Line → Type 0) (records : List Record)
    (lines : List Line) (totals : Totals) → ((ls : ℕ → List LogEntry) (r : Record) (line : Line) → P ls r line → AsCollected mode r.session r.statement line.reply.answer) →
    Each (CountsFor sessions) records →
    Logged buckets h logs → Follows buckets P (λ j. []) (λ j. None) records lines logs → ((j : ℕ) → Closes (logs j) (closed j)) →
    IsCounted sessions h closed (said_from [] records lines) totals → AreTotals (said_from [] records lines) (history_of (said_from [] records lines)) totals
counts_are mode buckets sessions h logs closed P records lines totals gc within logged follows c t =
    let all : List Said = said_from [] records lines in
    let f = firsts_counted mode buckets sessions h logs P records lines gc within logged follows in
    let m : Matches h (commits all) = matches_all buckets h logs all logged f.ties in
    record {
      made =
          t.made
          ∙ sum_same sessions (λ j. first_by (λ x. true) (logs j)) (λ j. first_writes every (closed j)) (λ j le. first_writes_is (closed j) ∙ closed_firsts (λ x. true) (logs j) (closed j) (c j))
          ∙ sym (f.counted (λ j x. true)) ∙ ap length (all_pass (printed_firsts all));
      undone =
          t.undone
          ∙ sum_same sessions (λ j. first_by (λ x. not (publishes x (logs j))) (logs j)) (λ j. undos every (closed j)) (λ j le.
          let end = closed_tidy (logs j) (closed j) (c j) (f.tidy j) in
          undone_in_log (closed j) end.0 end.1
          ∙ ap (λ (q : ℕ → Bool). first_by (λ x. not (q x)) (closed j)) (λ i x. closed_publishes x (logs j) (closed j) (c j) i)
          ∙ closed_firsts (λ x. not (publishes x (logs j))) (logs j) (closed j) (c j))
          ∙ sym (f.counted (λ j x. not (publishes x (logs j))))
          ∙ ap (λ (p : Said → Bool). length (filter (λ said. not (p said)) (printed_firsts all))) (λ i said. sym (committed_is logs all f.ties said) i);
      group = t.group;
      table = t.table;
      interval = t.interval;
      left = t.left ∙ lives_same h (history_of all) (same_printed h all logged.history m) logged.history;
      balance = t.balance;
    }

-- ---- a replay

pub replay_whole : (buckets sessions top : ℕ) (h : History) (logs closed : ℕ → List LogEntry) (script : Script) (printed : Printed) →
    HasReplayed buckets sessions h logs top script.records printed.lines → ((j : ℕ) → Closes (logs j) (closed j)) →
    IsCounted sessions h closed (said_from [] script.records printed.lines) printed.totals → IsSound replay script printed
replay_whole buckets sessions top h logs closed script printed r c t = record {
  lines = replay_sound buckets sessions top h logs script printed.lines r;
  totals = counts_are replay buckets sessions h logs closed (IsMet sessions) script.records printed.lines printed.totals
      (λ ls q line m. met_collected sessions q.session ls q.statement line.reply.answer m)
      (each_keeps (λ (q : Record). (1 ≤ q.session) × (q.session ≤ sessions)) (CountsFor sessions) (λ q k. inl k) script.records r.within) r.logged r.follows c t;
}

-- ---- a run

-- The records of each session are counted where the sessions are those that the script names, and those of the rounds read and
-- write nothing.
run_counts : (rounds sessions : ℕ) (records : List Record) → Each (λ (q : Record). (1 ≤ q.session) × (q.session ≤ sessions)) records → Each (CountsFor sessions) (in_order (run rounds) records)
run_counts rounds sessions records w =
    subst (Each (CountsFor sessions)) (sym (in_order_is rounds records))
    (each_append (CountsFor sessions) (flat_map (λ j. of_session j records) (sessions_of records)) _ (by_session (sessions_of records))
    (each_append (CountsFor sessions) (rounds_of kinds.Group rounds) _ (of_rounds kinds.Group (numbers_from 1 rounds))
    (each_append (CountsFor sessions) (rounds_of kinds.Table rounds) (rounds_of kinds.Interval rounds) (of_rounds kinds.Table (numbers_from 1 rounds))
    (of_rounds kinds.Interval (numbers_from 1 rounds)))))
  where
    of_rounds : (kind : Kind) (ns : List ℕ) → Each (CountsFor sessions) (map (λ n. record { place = n; session = 0; statement = Gc kind }) ns)
    of_rounds kind [] = tt
    of_rounds kind (n ∷ ns) = (inr refl, of_rounds kind ns)

    by_session : (js : List ℕ) → Each (CountsFor sessions) (flat_map (λ j. of_session j records) js)
    by_session [] = tt
    by_session (j ∷ js) = each_append (CountsFor sessions) (of_session j records) (flat_map (λ i. of_session i records) js)
        (each_filter (CountsFor sessions) (λ (q : Record). q.session == j) records (each_keeps (λ (q : Record). (1 ≤ q.session) × (q.session ≤ sessions)) (CountsFor sessions)
        (λ q k. inl k) records w)) (by_session js)

pub run_whole : (buckets sessions : ℕ) (h : History) (logs closed : ℕ → List LogEntry) (rounds : ℕ) (script : Script) (lines : ℕ → List Line) (group table interval : List Report)
    (totals : Totals) → HasRun buckets h logs rounds script.records lines group table interval → Each (λ (q : Record). q.session ≤ sessions) script.records → ((j : ℕ) → Closes (logs j) (closed j)) →
    let printed : List Line = run_lines script.records lines group table interval in
    IsCounted sessions h closed (said_from [] (in_order (run rounds) script.records) printed) totals → IsSound (run rounds) script (record { lines = printed; totals = totals })
run_whole buckets sessions h logs closed rounds script lines group table interval totals r w c t = record {
  lines = run_sound buckets h logs rounds script lines group table interval r;
  totals = counts_are (run rounds) buckets sessions h logs closed (RunsGc rounds) (in_order (run rounds) script.records) (run_lines script.records lines group table interval) totals (λ ls q line m. m)
      (run_counts rounds sessions script.records (each_pairs (λ (q : Record). 1 ≤ q.session) (λ q. q.session ≤ sessions) script.records r.numbered w)) r.logged
      (run_follows buckets h logs rounds script.records lines group table interval r) c t;
}
