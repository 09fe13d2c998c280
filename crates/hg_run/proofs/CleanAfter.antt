-- What an interval round left is clean at the mark, in a state that has all logs and visits after it.
use Rattle.std.proofs.Common.{◌≡◌, ◌⊎◌, inl, inr, ℕ, zero, suc, ◌+◌, ◌<◌, ◌≤◌, Bool, true, false, eqb, List, [], ◌∷◌, ◌++◌, length, refl, sym, ap, ◌∙◌, subst, arith, length-append}
use Rattle.std.proofs.Common.{eqb-true, lt-ltb}
use Rattle.std.specs.Prelude.{Option, Some, None, cond, filter, option_map, IfSome, not, ◌||◌, if◌then◌else◌}
use Rattle.std.specs.List.{cons_option}
use Rattle.std.proofs.lemmas.List.{length-map}
use Rattle.hg_base.specs.declared.rid.Rid.{Rid}
use Rattle.hg_base.specs.declared.rid.TableId.{TableId}
use Rattle.hg_base.specs.declared.report.Entry.{Entry}
use Rattle.hg_base.specs.declared.line.Answer.{Answer}
use Rattle.hg_base.specs.declared.line.Answer.TheVariants.{Swept}
use Rattle.hg_base.specs.declared.line.Reply.{Reply}
use Rattle.hg_base.specs.declared.report.Kind.{Kind}
use Rattle.hg_base.specs.declared.report.Kind.TheVariants.{Group, Table, Interval}
use Rattle.hg_base.specs.declared.report.Report.{Report}
use Rattle.hg_base.specs.declared.report.Sweep.{Sweep}
use Rattle.hg_base.specs.declared.statement.Statement.TheVariants.{Gc}
use Rattle.hg_base.specs.Reports.{told_of, sweep_of}
use Rattle.hg_base.specs.Shape.{report_of, same_kind}
use Rattle.hg_core.specs.declared.loaded.Loaded.{Loaded}
use Rattle.hg_core.specs.declared.log.LogEntry.{LogEntry}
use Rattle.hg_core.specs.declared.register.Register.{Register}
use Rattle.hg_core.specs.declared.register.Register.TheVariants.{Idle, Entering, Live}
use Rattle.hg_core.specs.declared.version.Version.{Version}
use Rattle.hg_core.specs.declared.visit.Visit.{Visit}
use Rattle.hg_core.specs.Clean.{IsClean}
use Rattle.hg_core.specs.Contents.{bucket_of, versions}
use Rattle.hg_core.specs.Events.{put}
use Rattle.hg_core.specs.Few.{IsCleanFor}
use Rattle.hg_core.specs.Logs.{current, newest_of}
use Rattle.hg_core.specs.Passes.{horizon, if_live, least_entering, live_numbers, mask_has, recorded}
use Rattle.hg_core.specs.Reading.{is_alone, log_with}
use Rattle.hg_core.specs.State.{CoreState}
use Rattle.hg_core.specs.Visits.{IsVisit, StaysAsGiven}
use Rattle.hg_core.proofs.Answering.{not_alone}
use Rattle.hg_core.proofs.Bounded.{mark_told, newest_most}
use Rattle.hg_core.proofs.Right.{places_of}
use Rattle.hg_rule.specs.declared.view.Part.{Part}
use Rattle.hg_rule.specs.declared.view.PassPart.{PassPart}
use Rattle.hg_rule.specs.declared.view.Sizes.{Sizes}
use Rattle.hg_rule.specs.declared.view.View.{View}
use Rattle.hg_rule.specs.Facts.{IsAmong, record_of}
use Rattle.hg_rule.specs.Keys.{one}
use Rattle.hg_rule.specs.Rounds.{entries_of, live_entry, round_record}
use Rattle.hg_rule.specs.Views.{pass, pass_there, first_in}
use Rattle.hg_rule.proofs.Lists.{among_left}
use Rattle.hg_headline.specs.Following.{AreUpTo, IsOver}
use Rattle.hg_headline.specs.Met.{IsMetGc}
use Rattle.hg_headline.proofs.Growing.{put_same}
use Rattle.hg_rounds.specs.Helpers.{AreVisits, visited}
use Rattle.hg_rounds.specs.Reports.{Reports}
use Rattle.hg_rounds.specs.Sweeping.{IsCleanBy}
use Rattle.hg_rounds.specs.Visits.{GoesOn, IsVisitOf, OneEach, closed_visit}
use Rattle.hg_rounds.specs.Word.{times}
use Rattle.hg_session.specs.declared.engine.Engine.{Engine}
use Rattle.hg_session.specs.declared.session.Session.{Session}
use Rattle.hg_session.specs.Engines.{engine_sizes}
use Rattle.hg_session.specs.Finished.{logs_of}
use Rattle.hg_session.specs.Moment.{AreAtOnce}
use Rattle.hg_session.specs.Passing.{visits_of}
use Rattle.hg_collectors.specs.declared.collectors.Collectors.{Collectors}
use Rattle.hg_collectors.specs.Collecting.{HaveMade, view_in}
use Rattle.hg_collectors.specs.Rounding.{IsRoundBy, AreRounds}
use Rattle.hg_collectors.specs.Swept.{HasMetSessions}
use Rattle.hg_collectors.specs.Telling.{sweeps_in}
use Rattle.hg_collectors.proofs.Among.{of_among}
use Rattle.hg_run.specs.Asked.{HasReplied, Replies}
use Rattle.hg_run.specs.Collecting.{passes_of}
use Rattle.hg_run.specs.Few.{LeavesFewIfSwept}
use Rattle.hg_run.proofs.Cursors.{any_cursors, reads_in, rests_in}

-- ---- one visit of each bucket

abbrev IsDone : (Rid → List Version → Type 0) → ℕ → ℕ → ℕ → List Visit → Type 0
IsDone Q mark round b visits = (x : Visit) × IsAmong x visits × IsVisitOf Interval Q mark round b x

last_or_before : (b n : ℕ) → b < suc n → (b ≡ n) ⊎ (b < n)
last_or_before zero zero l = inl refl
last_or_before zero (suc n) l = inr (omega arith)
last_or_before (suc b) zero l = absurd (omega (arith, l))
last_or_before (suc b) (suc n) l = more (last_or_before b n (omega (arith, l)))
  where
    more : (b ≡ n) ⊎ (b < n) → (suc b ≡ suc n) ⊎ (suc b < suc n)
    more (inl e) = inl (ap suc e)
    more (inr l) = inr (omega (arith, l))

module _ (Q : Rid → List Version → Type 0) (mark round b : ℕ) where
  -- by one collector
  in_order : (n : ℕ) (visits : List Visit) → OneEach (IsVisitOf Interval Q mark round) n visits → b < n → IsDone Q mark round b visits
  in_order zero visits once l = absurd (omega (arith, l))
  in_order (suc n) [] once l = absurd once
  in_order (suc n) (x ∷ visits) once l = go (last_or_before b n l) (λ less. in_order n visits once.1 less)
    where
      go : (b ≡ n) ⊎ (b < n) → (b < n → IsDone Q mark round b visits) → IsDone Q mark round b (x ∷ visits)
      go (inl e) before = (x, inl refl, subst (λ k. IsVisitOf Interval Q mark round k x) (sym e) once.0)
      go (inr less) before = let k = before less in (k.0, inr k.1, k.2)

  -- by a team
  by_team : (n : ℕ) (visits : List Visit) → AreVisits Q mark round n visits → times b (visited visits) ≡ 1 → IsDone Q mark round b visits
  by_team n [] each e = absurd (omega (arith, e))
  by_team n (x ∷ visits) each e = go (eqb x.bucket b) refl e (λ k. by_team n visits each.1 k)
    where
      go : (t : Bool) → eqb x.bucket b ≡ t → one t + times b (visited visits) ≡ 1 → (times b (visited visits) ≡ 1 → IsDone Q mark round b visits) → IsDone Q mark round b (x ∷ visits)
      go true same k rest = (x, inl refl, subst (λ k. IsVisitOf Interval Q mark round k x) (eqb-true x.bucket b same) each.0.1)
      go false other k rest = let later = rest (omega (arith, k)) in (later.0, inr later.1, later.2)

-- ---- the snapshots of a record

few_live : (test : Bool → Option ℕ → Bool) (loaded : List (ℕ × Loaded)) → length (live_numbers test loaded) ≤ length (entries_of loaded)
few_live test [] = omega arith
few_live test (x ∷ loaded) = omega (arith, go x.1.register, length-append (entries_of loaded) (live_entry x.0 x.1.register x.1.mask), few_live test loaded)
  where
    numbers : List ℕ
    numbers = live_numbers test loaded

    go : (r : Register) → length (if_live test r x.1.mask numbers) ≤ length numbers + length (live_entry x.0 r x.1.mask)
    go Idle = omega arith
    go (Entering f) = omega arith
    go (Live number declared moved) = counts (test moved x.1.mask)
      where
        counts : (t : Bool) → length (if t then number ∷ numbers else numbers) ≤ length numbers + 1
        counts true = omega arith
        counts false = omega arith

-- ---- the mark

newest_below : (n most : ℕ) (logs : ℕ → List LogEntry) → AreUpTo most logs → newest_of n logs ≤ most
newest_below zero most logs h = omega arith
newest_below (suc n) most logs h = omega (arith, newest_below n most logs h, newest_most most (logs (suc n)) (h (suc n)))

-- ---- after a round

-- the round of a gather, in which each bucket was visited
pub record HasSweptAll (z : Sizes) (a b : View) (sweep : Sweep) : Type 0 where
  pub gathered : View
  pub report : Report
  pub is : sweep ≡ sweep_of report
  pub on : GoesOn Interval gathered b
  pub reports : Reports Interval a report b
  pub done : (k : ℕ) → k < z.buckets → IsDone (IsCleanBy (record_of (pass gathered))) (pass gathered).mark (pass gathered).round k on.visits

swept_all : (z : Sizes) (long : ℕ) (a b : View) (sweep : Sweep) → IsRoundBy Interval z long a sweep b → HasSweptAll z a b sweep
swept_all z long a b sweep (report, (inl s, is)) = record {
  gathered = s.gathered;
  report = report;
  is = is;
  on = s.visits.on;
  reports = s.reports;
  done = λ k less. in_order (IsCleanBy (record_of (pass s.gathered))) (pass s.gathered).mark (pass s.gathered).round k z.buckets s.visits.on.visits s.visits.once less;
}
swept_all z long a b sweep (report, (inr s, is)) = record {
  gathered = s.gathered;
  report = report;
  is = is;
  on = s.on;
  reports = s.reports;
  done = λ k less. by_team (IsCleanBy (record_of (pass s.gathered))) (pass s.gathered).mark (pass s.gathered).round k z.buckets s.on.visits s.visit_once.each
      (s.visit_once.once k ∙ ap one (lt-ltb k z.buckets less));
}

module _ (e : Engine) (list : List Session) (after : Collectors) (m : AreAtOnce e list (passes_of after)) (long : ℕ) (a b : View) (sweep : Sweep)
    (h : HasSweptAll (engine_sizes e) a b sweep) (met : HasMetSessions b (view_in Interval after)) (level : sweep.horizon ≡ sweep.mark) (most : AreUpTo sweep.mark (logs_of list))
    (some : 0 < (engine_sizes e).buckets) where
  abbrev s : CoreState
  s = m.state

  abbrev part : PassPart
  part = pass h.gathered

  -- what the pass has is what it gathered, with its visits
  now : pass b ≡ record part { visits = h.on.visits ++ part.visits }
  now = ap (λ (ps : List Part). pass_there (first_in ps)) h.on.parts

  visits_are : s.visits 2 ≡ h.on.visits ++ part.visits
  visits_are = m.visits 2 (omega arith) ∙ ap (λ (ps : List Part). (pass_there (first_in ps)).visits) met.parts ∙ ap (λ (p : PassPart). p.visits) now

  mark_is : part.mark ≡ sweep.mark
  mark_is = sym (ap (λ (p : PassPart). p.mark) now) ∙ h.reports.round.mark_is ∙ sym h.reports.report_is.mark_is ∙ sym (ap (λ (x : Sweep). x.mark) h.is)

  loaded_is : part.loaded ≡ (round_record h.reports.steps).loaded
  loaded_is = sym (ap (λ (p : PassPart). p.loaded) now) ∙ h.reports.round.loaded_is

  horizon_is : horizon (record_of part) ≡ sweep.mark
  horizon_is =
      (λ i. least_entering ((mark_is ∙ ap (λ (x : Sweep). x.mark) h.is ∙ h.reports.report_is.mark_is) i) (loaded_is i))
      ∙ (sym h.reports.report_is.horizon_is ∙ (sym (ap (λ (x : Sweep). x.horizon) h.is) ∙ level))

  few : (t : TableId) → length (recorded t (record_of part)) ≤ length sweep.held
  few t =
      let entries : length (entries_of part.loaded) ≡ length h.report.entries.list = ap (λ l. length (entries_of l)) loaded_is ∙ ap (λ (l : List Entry). length l) (sym h.reports.report_is.entries_are) in
      let held : length sweep.held ≡ length h.report.entries.list = ap (λ (x : Sweep). length x.held) h.is ∙ length-map h.report.entries.list told_of in
      let numbers : length (recorded t (record_of part)) ≤ length (entries_of part.loaded) = few_live (λ moved mask. not moved || mask_has t mask) part.loaded in
      omega (arith, entries, held, numbers)

  pub clean_after : (r : Rid) → IsCleanFor s (length sweep.held) r
  clean_after r = (recorded r.table (record_of part), few r.table, clean)
    where
      k : ℕ
      k = bucket_of s.buckets r

      less : k < (engine_sizes e).buckets
      less = subst (λ n. k < n) m.sized.buckets (places_of s.buckets (subst (λ n. 0 < n) (sym m.sized.buckets) some) r)

      done : IsDone (IsCleanBy (record_of part)) part.mark part.round k h.on.visits
      done = h.done k less

      of : IsVisitOf Interval (IsCleanBy (record_of part)) part.mark part.round k done.0
      of = done.2

      there : IsAmong done.0 (s.visits 2)
      there = subst (IsAmong done.0) (sym visits_are) (among_left done.0 h.on.visits part.visits done.1)

      visit : IsVisit s.buckets s.mark (versions s.buckets s.bucket) (closed_visit Interval part.mark part.round k of.gone of.given)
      visit = subst (IsVisit s.buckets s.mark (versions s.buckets s.bucket)) of.is (of_among (IsVisit s.buckets s.mark (versions s.buckets s.bucket)) done.0 (s.visits 2) (m.steady.visits_stay.each 2) there)

      stays : StaysAsGiven s.buckets k part.mark (versions s.buckets s.bucket) of.given
      stays = visit.stays

      mark_now : s.mark ≡ sweep.mark
      mark_now =
          let told = mark_told s m.steady in
          let upper : newest_of s.sessions s.log ≤ sweep.mark = newest_below s.sessions sweep.mark s.log (subst (AreUpTo sweep.mark) (sym m.logs) most) in
          let lower : part.mark ≤ s.mark = visit.kept in
          omega (arith, told, upper, lower, mark_is)

      clean : IsClean s.mark (recorded r.table (record_of part)) (versions s.buckets s.bucket r)
      clean = subst (λ n. IsClean n (recorded r.table (record_of part)) (versions s.buckets s.bucket r)) (horizon_is ∙ sym mark_now)
          (stays.clean r (horizon (record_of part)) (recorded r.table (record_of part)) refl (omega (arith, horizon_is, mark_is)) (of.left r))

-- ---- as a reply

level_of : (sessions : ℕ) (logs : ℕ → List LogEntry) (kind : Kind) (at number : Option ℕ) (answer : Answer) (sweep : Sweep) →
    report_of (record { at = at; answer = answer; number = number }) ≡ Some sweep → IsMetGc sessions logs kind answer → sweep.horizon ≡ sweep.mark
level_of sessions logs kind at number (Swept told) sweep is m = let same : told ≡ sweep = cc in subst (λ (x : Sweep). x.horizon ≡ x.mark) same m.horizon
level_of sessions logs kind at number _ sweep is m = absurd m

most_of : (logs : ℕ → List LogEntry) (seen later : ℕ) (o : Option Sweep) (sweep : Sweep) → o ≡ Some sweep → IfSome (option_map (λ (x : Sweep). x.mark) o) (λ n. IsOver logs seen n × (n ≤ later)) →
    AreUpTo sweep.mark logs
most_of logs seen later None sweep is h = absurd (let z : None ≡ Some sweep = is in cc)
most_of logs seen later (Some told) sweep is h = let same : told ≡ sweep = cc in subst (λ (x : Sweep). AreUpTo x.mark logs) same h.0.entries

-- the one round that a reply tells
one_told : (P : View → Sweep → View → Type 0) (v w : View) (o : Option Sweep) (sweep : Sweep) → o ≡ Some sweep → sweep.kind ≡ Interval →
    AreRounds P v (filter (λ s. same_kind s.kind Interval) (cons_option o [])) w → (a : View) × ((b : View) × (P a sweep b × HasMetSessions b w))
one_told P v w None sweep is kind h = absurd (let z : None ≡ Some sweep = is in cc)
one_told P v w (Some told) sweep is kind h =
    let same : told ≡ sweep = cc in
    let only : AreRounds P v (sweep ∷ []) w = subst (λ k. AreRounds P v (cond (same_kind k Interval) (sweep ∷ []) []) w) kind
    (subst (λ (x : Sweep). AreRounds P v (cond (same_kind x.kind Interval) (x ∷ []) []) w) same h) in
    (only.0, (only.1.1.0, (only.1.1.1.0, only.1.1.1.1)))

module _ (e : Engine) (long : ℕ) (before after now : Collectors) (old mid new : List Session) (i : ℕ) (kind : Kind) (reply : Reply) (moment : AreAtOnce e mid (passes_of after))
    (replied : Replies e old i (Gc kind) reply mid) (rounds : HaveMade (engine_sizes e) long before (λ k. sweeps_in k reply) after) (some : 0 < (engine_sizes e).buckets)
    (logs : logs_of new ≡ logs_of mid) (met : (k : Kind) → HasMetSessions (view_in k after) (view_in k now)) where
  h : HasReplied e 0 (reads_in old) (rests_in old) old i (Gc kind) reply mid
  h = replied 0 (reads_in old) (rests_in old) (λ d. inl refl) (any_cursors old)

  alone : is_alone (current (logs_of old (suc i))) (Gc kind) ≡ false
  alone = not_alone (current (logs_of old (suc i))) (Gc kind) refl

  still : logs_of mid ≡ logs_of old
  still = h.replied.logs ∙ (ap (λ b. put (logs_of old) (suc i) (log_with b (engine_sizes e).buckets h.replied.u (Gc kind) reply (logs_of old (suc i)))) alone ∙ put_same (logs_of old) (suc i))

  at_now : AreAtOnce e new (passes_of now)
  at_now = record {
    state = moment.state;
    steady = moment.steady;
    sized = moment.sized;
    logs = moment.logs ∙ sym logs;
    three = moment.three;
    visits = λ p less. moment.visits p less ∙ go p less;
  }
    where
      same : (k : Kind) → (pass (view_in k after)).visits ≡ (pass (view_in k now)).visits
      same k = sym (ap (λ (ps : List Part). (pass_there (first_in ps)).visits) (met k).parts)

      go : (p : ℕ) → p < 3 → visits_of (passes_of after) p ≡ visits_of (passes_of now) p
      go zero less = same Group
      go (suc zero) less = same Table
      go (suc (suc zero)) less = same Interval
      go (suc (suc (suc p))) less = absurd (omega (arith, less))

  pub leaves_few : LeavesFewIfSwept e new now reply
  unfolding at_now
  leaves_few sweep is is_kind =
      let z = engine_sizes e in
      let round = one_told (IsRoundBy Interval z long) (view_in Interval before) (view_in Interval after) (report_of reply) sweep is is_kind (rounds Interval) in
      let level = level_of z.sessions (logs_of old) kind reply.at reply.number reply.answer sweep is h.replied.met in
      let most = subst (AreUpTo sweep.mark) (sym still) (most_of (logs_of old) 0 h.later (report_of reply) sweep is h.replied.fresh.mark) in
      record {
        moment = at_now;
        clean = clean_after e mid after moment long round.0 round.1.0 sweep (swept_all z long round.0 round.1.0 sweep round.1.1.0) round.1.1.1 level most some;
      }
