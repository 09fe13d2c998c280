-- Where a list of steps ends, what a driver knows makes its lines those of one run.
use Rattle.std.proofs.Common.{◌≡◌, ℕ, zero, suc, ◌+◌, ◌<◌, ◌≤◌, List, [], ◌∷◌, ◌++◌, length, Bool, true, false, Option, None, refl, sym, ap, ◌∙◌, subst, arith, append-nil}
use Rattle.std.specs.Prelude.{◌==◌, cond, if◌then◌else◌, ⊤}
use Rattle.std.specs.List.{flat_map}
use Rattle.std.proofs.lemmas.Bool.Decides.{nat_tests}
use Rattle.std.proofs.lemmas.List.Elements.{filter-append}
use Rattle.hg_base.specs.declared.line.Line.{Line}
use Rattle.hg_base.specs.declared.line.Totals.{Totals}
use Rattle.hg_base.specs.declared.report.Kind.{Kind}
use Rattle.hg_base.specs.declared.report.Kind.TheVariants.{Group, Table, Interval}
use Rattle.hg_base.specs.declared.statement.Record.{Record}
use Rattle.hg_base.specs.Lists.{Each, numbers_from}
use Rattle.hg_base.specs.Script.{Script}
use Rattle.hg_base.specs.Shape.{HasShape}
use Rattle.hg_base.specs.Transcript.{Rest, of_session, rest_after}
use Rattle.hg_base.proofs.ListFacts.{cases, each_keeps}
use Rattle.hg_core.specs.declared.log.LogEntry.{LogEntry}
use Rattle.hg_core.specs.Events.{put}
use Rattle.hg_core.specs.Invariant.{IsSteady}
use Rattle.hg_core.specs.Phases.{IsSession}
use Rattle.hg_core.specs.Reading.{Unprinted, Fits, HasRest, Tells, Follows, log_after}
use Rattle.hg_core.specs.State.{CoreState, opened}
use Rattle.hg_core.specs.Steps.{Always}
use Rattle.hg_core.proofs.Indices.{put_here, put_else}
use Rattle.hg_core.proofs.Runs.{steady_after}
use Rattle.hg_headline.specs.Counted.{Closes}
use Rattle.hg_headline.specs.OneRun.{AreTotalsAt, HasEnded, HasReported, IsOneRun, lines_of, reports_in}
use Rattle.hg_headline.specs.Totalled.{TotalsTell}
use Rattle.hg_headline.proofs.OverBuckets.{state_made, state_undone, state_removed}
use Rattle.hg_headline.proofs.Running.{of_session_is}

-- ---- totals

pub totals_at : (s : CoreState) (totals : Totals) → IsSteady s → 0 < s.buckets → TotalsTell s.sessions s.buckets s.passes s.log s.visits s.history totals → AreTotalsAt s totals
totals_at s totals h some t = record {
  made = t.made ∙ sym (state_made s h some);
  undone = t.undone ∙ sym (state_undone s h some);
  group = t.group ∙ sym (state_removed s Group h);
  table = t.table ∙ sym (state_removed s Table h);
  interval = t.interval ∙ sym (state_removed s Interval h);
}

pub always_totals : Always (λ s. (totals : Totals) → 0 < s.buckets → TotalsTell s.sessions s.buckets s.passes s.log s.visits s.history totals → AreTotalsAt s totals)
always_totals sessions tables buckets passes quota steps r totals = totals_at _ totals (steady_after sessions tables buckets passes quota steps r)

-- ---- what is told of one session

-- a session's lines tell whatever else holds of them
told_alone : (buckets : ℕ) (P : Record → Line → Type 0) (log : List LogEntry) (left : Option Rest) (rs : List Record) (lines : List Line) (final : List LogEntry) →
    Tells buckets P log left rs lines final → Tells buckets (λ r line. ⊤) log left rs lines final
told_alone buckets P log left [] [] final t = t
told_alone buckets P log left [] (line ∷ lines) final t = absurd t
told_alone buckets P log left (r ∷ rs) [] final t = absurd t
told_alone buckets P log left (r ∷ rs) (line ∷ lines) final t = (
  tt,
  (
    t.1.0,
    t.1.1,
    told_alone buckets P (log_after buckets t.1.0 r.statement line.reply log) (rest_after r.statement line.reply.answer left) rs lines final t.1.2,
    t.1.3,
  ),
)

-- of lines that follow all logs, those of one session are told by its own
told_each : (buckets : ℕ) (P : (ℕ → List LogEntry) → Record → Line → Type 0) (j : ℕ) (logs : ℕ → List LogEntry) (left : ℕ → Option Rest) (rs : List Record) (lines : List Line)
    (final : ℕ → List LogEntry) → HasShape rs lines → Follows buckets P logs left rs lines final →
    Tells buckets (λ r line. ⊤) (logs j) (left j) (of_session j rs) (lines_of j lines) (final j)
told_each buckets P j logs left [] [] final shape f = f j
told_each buckets P j logs left [] (line ∷ lines) final shape f = absurd f
told_each buckets P j logs left (r ∷ rs) [] final shape f = absurd f
told_each buckets P j logs left (r ∷ rs) (line ∷ lines) final shape f =
    let after = told_each buckets P j (put logs r.session (log_after buckets f.1.0 r.statement line.reply (logs r.session)))
    (put left r.session (rest_after r.statement line.reply.answer (left r.session))) rs lines final shape.1 f.1.2 in
    cases (r.session == j) (λ e. own e after) (λ e. other e after)
  where
    u : Unprinted
    u = f.1.0

    log : ℕ → List LogEntry
    log i = log_after buckets u r.statement line.reply (logs i)

    rest : ℕ → Option Rest
    rest i = rest_after r.statement line.reply.answer (left i)

    Later : Type 0
    Later = Tells buckets (λ r line. ⊤) (put logs r.session (log r.session) j) (put left r.session (rest r.session) j) (of_session j rs) (lines_of j lines) (final j)

    tested : (b : Bool) → (r.session == j) ≡ b → (line.session == j) ≡ b
    tested b e = ap (λ i. i == j) shape.0.session ∙ e

    both : (b : Bool) → (r.session == j) ≡ b → Tells buckets (λ r line. ⊤) (logs j) (left j) (cond b (r ∷ of_session j rs) (of_session j rs)) (cond b (line ∷ lines_of j lines) (lines_of j lines)) (final j) →
        Tells buckets (λ r line. ⊤) (logs j) (left j) (of_session j (r ∷ rs)) (lines_of j (line ∷ lines)) (final j)
    both b e t =
        subst (λ c. Tells buckets (λ r line. ⊤) (logs j) (left j) (of_session j (r ∷ rs)) (cond c (line ∷ lines_of j lines) (lines_of j lines)) (final j)) (sym (tested b e))
        (subst (λ c. Tells buckets (λ r line. ⊤) (logs j) (left j) (cond c (r ∷ of_session j rs) (of_session j rs)) (cond b (line ∷ lines_of j lines) (lines_of j lines)) (final j)) (sym e) t)

    own : (r.session == j) ≡ true → Later → Tells buckets (λ r line. ⊤) (logs j) (left j) (of_session j (r ∷ rs)) (lines_of j (line ∷ lines)) (final j)
    own e later =
        let same : r.session ≡ j = grind (arith, nat_tests) in
        both true e (
          tt,
          subst (λ i. (v : Unprinted) × Fits buckets v (logs i) r.statement line.reply
              × Tells buckets (λ r line. ⊤) (log_after buckets v r.statement line.reply (logs i)) (rest_after r.statement line.reply.answer (left i)) (of_session j rs) (lines_of j lines) (final j)
              × HasRest r.statement v.rest (left i)) same (
                u,
                f.1.1,
                subst (λ l. Tells buckets (λ r line. ⊤) l (rest r.session) (of_session j rs) (lines_of j lines) (final j)) (ap (put logs r.session (log r.session)) (sym same) ∙ put_here logs r.session (log r.session))
                    (subst (λ x. Tells buckets (λ r line. ⊤) (put logs r.session (log r.session) j) x (of_session j rs) (lines_of j lines) (final j))
                    (ap (put left r.session (rest r.session)) (sym same) ∙ put_here left r.session (rest r.session)) later),
                f.1.3,
              ),
        )

    other : (r.session == j) ≡ false → Later → Tells buckets (λ r line. ⊤) (logs j) (left j) (of_session j (r ∷ rs)) (lines_of j (line ∷ lines)) (final j)
    other e later =
        let differ : j ≡ r.session → ⊥ = λ k. absurd (grind (arith, nat_tests)) in
        both false e
        (subst (λ l. Tells buckets (λ r line. ⊤) l (left j) (of_session j rs) (lines_of j lines) (final j)) (put_else logs r.session j (log r.session) differ)
        (subst (λ x. Tells buckets (λ r line. ⊤) (put logs r.session (log r.session) j) x (of_session j rs) (lines_of j lines) (final j)) (put_else left r.session j (rest r.session) differ) later))

-- ---- the lines of one session among those of all

are_of : (j : ℕ) (rs : List Record) (lines : List Line) → Each (λ (r : Record). r.session ≡ j) rs → HasShape rs lines → Each (λ (line : Line). line.session ≡ j) lines
are_of j [] [] own shape = tt
are_of j [] (line ∷ lines) own shape = absurd shape
are_of j (r ∷ rs) [] own shape = absurd shape
are_of j (r ∷ rs) (line ∷ lines) own shape = (shape.0.session ∙ own.0, are_of j rs lines own.1 shape.1)

all_of : (j : ℕ) (lines : List Line) → Each (λ (line : Line). line.session ≡ j) lines → lines_of j lines ≡ lines
all_of j [] h = refl
all_of j (line ∷ lines) h = let e : (line.session == j) ≡ true = (let same = h.0 in grind (arith, nat_tests)) in
    ap (λ b. cond b (line ∷ lines_of j lines) (lines_of j lines)) e ∙ ap (λ l. line ∷ l) (all_of j lines h.1)

none_of : (j : ℕ) (lines : List Line) → Each (λ (line : Line). line.session ≡ j → ⊥) lines → lines_of j lines ≡ []
none_of j [] h = refl
none_of j (line ∷ lines) h = let e : (line.session == j) ≡ false = (let away = h.0 in grind (arith, nat_tests)) in
    ap (λ b. cond b (line ∷ lines_of j lines) (lines_of j lines)) e ∙ none_of j lines h.1

of_both : (j : ℕ) (xs ys : List Line) → lines_of j (xs ++ ys) ≡ lines_of j xs ++ lines_of j ys
of_both j xs ys = filter-append (λ (line : Line). line.session == j) xs ys

module _ (lines : ℕ → List Line) (own : (k : ℕ) → Each (λ (line : Line). line.session ≡ k) (lines k)) where
  away : (j k : ℕ) → (k ≡ j → ⊥) → lines_of j (lines k) ≡ []
  away j k differ = none_of j (lines k) (each_keeps (λ (line : Line). line.session ≡ k) (λ (line : Line). line.session ≡ j → ⊥) (λ line is e. differ (sym is ∙ e)) (lines k) (own k))

  before : (j i n : ℕ) → j < i → lines_of j (flat_map lines (numbers_from i n)) ≡ []
  before j i zero less = refl
  before j i (suc n) less = of_both j (lines i) (flat_map lines (numbers_from (suc i) n)) ∙
      (λ k. away j i (λ e. absurd (omega (arith, less, e))) k ++ before j (suc i) n (omega (arith, less)) k)

  one_of : (j i n : ℕ) → i ≤ j → (i + n ≤ j → lines j ≡ []) → lines_of j (flat_map lines (numbers_from i n)) ≡ lines j
  one_of j i zero from none = sym (none (omega (arith, from)))
  one_of j i (suc n) from none = of_both j (lines i) (flat_map lines (numbers_from (suc i) n)) ∙
      cases (i == j) here (λ e. later e (λ l. one_of j (suc i) n l (λ le. none (omega (arith, le)))))
    where
      here : (i == j) ≡ true → lines_of j (lines i) ++ lines_of j (flat_map lines (numbers_from (suc i) n)) ≡ lines j
      here e = let same : i ≡ j = grind (arith, nat_tests) in
          (λ k. lines_of j (lines (same k)) ++ before j (suc i) n (omega (arith, same)) k) ∙ (append-nil (lines_of j (lines j)) ∙ all_of j (lines j) (own j))

      later : (i == j) ≡ false → (suc i ≤ j → lines_of j (flat_map lines (numbers_from (suc i) n)) ≡ lines j) →
          lines_of j (lines i) ++ lines_of j (flat_map lines (numbers_from (suc i) n)) ≡ lines j
      later e ih = let differ : i ≡ j → ⊥ = λ k. absurd (grind (arith, nat_tests)) in
          (λ k. away j i differ k ++ ih (omega (arith, from, differ)) k)

-- ---- the whole

module _ (sessions more buckets quota long : ℕ) (script : Script) (logs : ℕ → List LogEntry) (lines : List Line) (totals : Totals)
    (h : HasEnded sessions more buckets quota long script logs lines totals) where
  abbrev start : CoreState
  start = opened (more + sessions) (length script.tables) buckets 3 quota

  pub one_run : ((j : ℕ) → IsSession sessions j → Tells buckets (λ r line. ⊤) [] None (of_session j script.records) (lines_of j lines) (logs j)) →
      IsOneRun sessions more buckets quota long script lines totals
  one_run told = record {
    steps = h.reached.steps;
    may = h.reached.may;
    logs = logs;
    told = told;
    closed = subst (λ (s : CoreState). (j : ℕ) → IsSession sessions j → Closes (logs j) (s.log j)) (sym h.reached.leads) h.closed;
    passes = subst (λ (s : CoreState). s.passes ≡ 3) (sym h.reached.leads) h.passes;
    reported = subst (λ (s : CoreState). (kind : Kind) → HasReported kind long s (reports_in kind lines)) (sym h.reached.leads) h.reported;
    counted = subst (λ (s : CoreState). AreTotalsAt s totals) (sym h.reached.leads) h.counted;
  }

pub replay_run : (P : (ℕ → List LogEntry) → Record → Line → Type 0) (sessions more buckets quota long : ℕ) (script : Script) (logs : ℕ → List LogEntry) (lines : List Line) (totals : Totals) →
    HasEnded sessions more buckets quota long script logs lines totals → HasShape script.records lines → Follows buckets P (λ j. []) (λ j. None) script.records lines logs →
    IsOneRun sessions more buckets quota long script lines totals
replay_run P sessions more buckets quota long script logs lines totals h shape f = one_run sessions more buckets quota long script logs lines totals h
    (λ j is. told_each buckets P j (λ j. []) (λ j. None) script.records lines logs shape f)

pub run_run : (P : Record → Line → Type 0) (sessions more buckets quota long : ℕ) (script : Script) (logs : ℕ → List LogEntry) (lines : ℕ → List Line) (others : List Line) (totals : Totals) →
    HasEnded sessions more buckets quota long script logs (flat_map lines (numbers_from 1 sessions) ++ others) totals →
    ((j : ℕ) → HasShape (of_session j script.records) (lines j)) → ((j : ℕ) → Tells buckets P [] None (of_session j script.records) (lines j) (logs j)) →
    Each (λ (line : Line). line.session ≡ 0) others → IsOneRun sessions more buckets quota long script (flat_map lines (numbers_from 1 sessions) ++ others) totals
run_run P sessions more buckets quota long script logs lines others totals h shape tells outside =
    one_run sessions more buckets quota long script logs (flat_map lines (numbers_from 1 sessions) ++ others) totals h
    (λ j is. subst (λ ls. Tells buckets (λ r line. ⊤) [] None (of_session j script.records) ls (logs j)) (sym (mine j is.first is.last))
    (told_alone buckets P [] None (of_session j script.records) (lines j) (logs j) (tells j)))
  where
    own : (k : ℕ) → Each (λ (line : Line). line.session ≡ k) (lines k)
    own k = are_of k (of_session k script.records) (lines k) (of_session_is k script.records) (shape k)

    mine : (j : ℕ) → 0 < j → j ≤ sessions → lines_of j (flat_map lines (numbers_from 1 sessions) ++ others) ≡ lines j
    mine j some last = of_both j (flat_map lines (numbers_from 1 sessions)) others ∙
        ((λ k. one_of lines own j 1 sessions (omega (arith, some)) (λ le. absurd (omega (arith, le, last))) k
        ++ none_of j others (each_keeps (λ (line : Line). line.session ≡ 0) (λ (line : Line). line.session ≡ j → ⊥) (λ line is e. absurd (omega (arith, is, e, some))) others outside) k)
        ∙ append-nil (lines j))
