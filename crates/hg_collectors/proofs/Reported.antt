-- What a run prints of a collector's rounds are reports.
use Rattle.std.proofs.Common.{◌≡◌, inl, inr, ℕ, zero, suc, ◌+◌, ◌<◌, ◌≤◌, List, [], ◌∷◌, ◌++◌, length, map, Bool, true, false, Option, Some, None, refl, sym, ap, ◌∙◌, subst, arith, append-nil}
use Rattle.std.specs.Prelude.{◌==◌, ◌&&◌, ◌||◌, if◌then◌else◌, is_some, sum_by}
use Rattle.std.proofs.lemmas.List.{map-append}
use Rattle.std.proofs.lemmas.List.Sums.{sum_by-cons}
use Rattle.std.proofs.lemmas.Bool.Decides.{nat_tests}
use Rattle.std.proofs.lemmas.Bool.{or_right}
use Rattle.hg_base.specs.declared.line.Line.{Line}
use Rattle.hg_base.specs.declared.report.Kind.{Kind}
use Rattle.hg_base.specs.declared.report.Entry.{Entry}
use Rattle.hg_base.specs.declared.report.Report.{Report}
use Rattle.hg_base.specs.declared.report.Sweep.{Sweep}
use Rattle.hg_base.specs.declared.scope.Scope.{Scope}
use Rattle.hg_base.specs.Freshness.{is_declared}
use Rattle.hg_base.specs.History.{History}
use Rattle.hg_base.specs.Lists.{Each, Ascends}
use Rattle.hg_base.specs.Reports.{sweep_of}
use Rattle.hg_base.proofs.ListFacts.{false_true}
use Rattle.hg_core.specs.declared.log.LogEntry.{LogEntry}
use Rattle.hg_core.specs.declared.log.LogEntry.TheVariants.{Began}
use Rattle.hg_core.specs.declared.loaded.Loaded.{Loaded}
use Rattle.hg_core.specs.declared.register.Register.{Register}
use Rattle.hg_core.specs.declared.register.Register.TheVariants.{Idle, Entering, Live}
use Rattle.hg_core.specs.Events.{moved, moved_in, masked_in}
use Rattle.hg_core.specs.Passes.{lower, least_entering}
use Rattle.hg_core.specs.Words.{IsRegister, shows_declared}
use Rattle.hg_rule.specs.declared.view.Event.{Event}
use Rattle.hg_rule.specs.declared.view.Event.TheVariants.{Sample, SampleMask, Move}
use Rattle.hg_rule.specs.declared.view.Sight.TheVariants.{Saw}
use Rattle.hg_rule.specs.declared.view.View.{View}
use Rattle.hg_rule.specs.Facts.{StartsWith, IsAmong, HasBegun, groups}
use Rattle.hg_rule.specs.Rounds.{mark_in, then_loaded, loaded_after, round_record, gone_in, masked_scope, live_entry, entries_of}
use Rattle.hg_rule.specs.Views.{pass}
use Rattle.hg_rule.proofs.Lists.{starts_on, each_append, each_left, each_right, each_map}
use Rattle.hg_tracker.specs.Begun.{AtMost, SawGroups}
use Rattle.hg_tracker.specs.Entries.{down_from}
use Rattle.hg_tracker.specs.Gathers.{IsFull}
use Rattle.hg_tracker.proofs.After.{first_key}
use Rattle.hg_headline.specs.Following.{told_by, told_removed}
use Rattle.hg_headline.specs.Gathered.{began_at}
use Rattle.hg_headline.specs.Ran.{WasMet, IsPassReport, NotFalling, AreReports, report_lines}
use Rattle.hg_collectors.specs.Rounding.{AreRounds, BeganIn}
use Rattle.hg_collectors.specs.Telling.{reply_of, sweep_lines}
use Rattle.hg_collectors.specs.Swept.{HasSwept, HasMetSessions, swept_by}
use Rattle.hg_collectors.proofs.Among.{of_among}
use Rattle.hg_collectors.proofs.Rounds.{saw_more}

-- ---- the registers that a round loaded

or_here : (a b c : Bool) → a ≡ true → b ≡ true → ((a && b) || c) ≡ true
or_here true true c p q = refl
or_here true false c p q = absurd (false_true q)
or_here false b c p q = absurd (false_true p)

began_in : (n : ℕ) (scope : Scope) (log : List LogEntry) → IsAmong (Began n scope) log → began_at (is_declared scope) n log ≡ true
began_in n scope [] h = absurd h
began_in n scope (Began at other ∷ log) (inl e) =
    let same : at ≡ n = cc in
    let scopes : other ≡ scope = cc in
    or_here (at == n) (if is_declared scope then is_declared other else true) (began_at (is_declared scope) n log) (grind (arith, nat_tests, same))
    (subst (λ s. (if is_declared scope then is_declared s else true) ≡ true) (sym scopes) (itself (is_declared scope)))
  where
    itself : (b : Bool) → (if b then b else true) ≡ true
    itself true = refl
    itself false = refl
began_in n scope (Began at other ∷ log) (inr i) = or_right ((at == n) && (if is_declared scope then is_declared other else true)) (began_at (is_declared scope) n log) (began_in n scope log i)
began_in n scope (_ ∷ log) (inl e) = absurd (cc)
began_in n scope (_ ∷ log) (inr i) = began_in n scope log i

-- each has its begin in its session's log
abbrev HaveBegun : (ℕ → List LogEntry) → List (ℕ × Loaded) → Type 0
HaveBegun logs loaded = Each (λ (e : ℕ × Loaded). HasBegun e.1.register (logs e.0)) loaded

moved_begun : (r : Register) (log : List LogEntry) → HasBegun r log → HasBegun (moved r) log
moved_begun Idle log h = tt
moved_begun (Entering f) log h = tt
moved_begun (Live number declared moved) log h = h

moves_begun : (logs : ℕ → List LogEntry) (j : ℕ) (loaded : List (ℕ × Loaded)) → HaveBegun logs loaded → HaveBegun logs (moved_in j loaded)
moves_begun logs j [] h = tt
moves_begun logs j (e ∷ loaded) h = go (j == e.0) (moves_begun logs j loaded h.1)
  where
    go : (b : Bool) → HaveBegun logs (moved_in j loaded) → HaveBegun logs (if b then (e.0, record e.1 { register = moved e.1.register }) ∷ loaded else e ∷ moved_in j loaded)
    go true k = (moved_begun e.1.register (logs e.0) h.0, h.1)
    go false k = (h.0, k)

masks_begun : (logs : ℕ → List LogEntry) (j mask : ℕ) (loaded : List (ℕ × Loaded)) → HaveBegun logs loaded → HaveBegun logs (masked_in j mask loaded)
masks_begun logs j mask [] h = tt
masks_begun logs j mask (e ∷ loaded) h = go (j == e.0) (masks_begun logs j mask loaded h.1)
  where
    go : (b : Bool) → HaveBegun logs (masked_in j mask loaded) → HaveBegun logs (if b then (e.0, record e.1 { mask = Some mask }) ∷ loaded else e ∷ masked_in j mask loaded)
    go true k = h
    go false k = (h.0, k)

then_begun : (logs : ℕ → List LogEntry) (x : Event) (loaded : List (ℕ × Loaded)) → BeganIn logs x → HaveBegun logs loaded → HaveBegun logs (then_loaded x loaded)
then_begun logs (Sample p j register) loaded b h = (b, h)
then_begun logs (SampleMask p j mask) loaded b h = masks_begun logs j mask loaded h
then_begun logs (Move p j number true) loaded b h = moves_begun logs j loaded h
then_begun logs (Move p j number false) loaded b h = h
then_begun logs _ loaded b h = h

all_begun : (logs : ℕ → List LogEntry) (events : List Event) (loaded : List (ℕ × Loaded)) → Each (BeganIn logs) events → HaveBegun logs loaded → HaveBegun logs (loaded_after loaded events)
all_begun logs [] loaded b h = h
all_begun logs (x ∷ events) loaded b h = all_begun logs events (then_loaded x loaded) b.1 (then_begun logs x loaded b.0 h)

-- ---- and what is told of them

-- its entry has declared tables exactly where its mask was loaded
masked_declared : (mask : Option ℕ) → is_declared (masked_scope mask) ≡ is_some mask
masked_declared None = refl
masked_declared (Some mask) = refl

entries_met : (logs : ℕ → List LogEntry) (loaded : List (ℕ × Loaded)) → Each (λ e. IsFull e.1) loaded → HaveBegun logs loaded → Each (WasMet logs) (entries_of loaded)
entries_met logs [] full h = tt
entries_met logs (e ∷ loaded) full h =
    each_append (WasMet logs) (entries_of loaded) (live_entry e.0 e.1.register e.1.mask) (entries_met logs loaded full.1 h.1) (go e.1.register e.1.mask full.0.0 full.0.1 h.0)
  where
    go : (r : Register) (mask : Option ℕ) → IsRegister r → is_some mask ≡ shows_declared r → HasBegun r (logs e.0) → Each (WasMet logs) (live_entry e.0 r mask)
    go Idle mask w k b = tt
    go (Entering f) mask w k b = tt
    go (Live number declared true) mask w k (scope, same, b) =
        let bit : is_declared (masked_scope mask) ≡ declared = masked_declared mask ∙ k in
        ((subst (λ d. began_at d number (logs e.0) ≡ true) (sym (bit ∙ same)) (began_in number scope (logs e.0) b), bit ∙ w.declared refl), tt)
    go (Live number declared false) mask w k (scope, same, b) =
        let bit : is_declared (masked_scope mask) ≡ declared = masked_declared mask ∙ k in
        ((subst (λ d. began_at d number (logs e.0) ≡ true) (sym (bit ∙ same)) (began_in number scope (logs e.0) b), tt), tt)

lower_below : (n : ℕ) (loaded : List (ℕ × Loaded)) → least_entering n loaded ≤ n
lower_below n [] = omega arith
lower_below n (e ∷ loaded) = go e.1.register (lower_below n loaded)
  where
    go : (r : Register) → least_entering n loaded ≤ n → lower (least_entering n loaded) r ≤ n
    go Idle h = h
    go (Entering f) h = omega (arith, h)
    go (Live number declared moved) h = h

abbrev sessions_in : List (ℕ × Loaded) → List ℕ
sessions_in loaded = map (λ (e : Entry). e.session) (entries_of loaded)

ascends_more : (xs : List ℕ) (x : ℕ) → Ascends xs → Each (λ y. y < x) xs → Ascends (xs ++ x ∷ [])
ascends_more [] x s h = tt
ascends_more (a ∷ []) x s h = (h.0, tt)
ascends_more (a ∷ b ∷ more) x s h = (s.0, ascends_more (b ∷ more) x s.1 h.1)

in_order : (n : ℕ) (loaded : List (ℕ × Loaded)) → map (λ e. e.0) loaded ≡ down_from n → Ascends (sessions_in loaded) × Each (λ j. j ≤ n) (sessions_in loaded)
in_order n [] keys = (tt, tt)
in_order zero (e ∷ loaded) keys = absurd (let m : suc (length (map (λ (e : ℕ × Loaded). e.0) loaded)) ≡ 0 = ap length keys in omega (arith, m))
in_order (suc n) (e ∷ loaded) keys = subst Right (sym (map-append (λ (x : Entry). x.session) (entries_of loaded) (live_entry e.0 e.1.register e.1.mask)))
    (go e.1.register e.1.mask (in_order n loaded key.1))
  where
    Right : List ℕ → Type 0
    Right js = Ascends js × Each (λ j. j ≤ suc n) js

    key : (e.0 ≡ suc n) × (map (λ (e : ℕ × Loaded). e.0) loaded ≡ down_from n)
    key = first_key e loaded n keys

    more : Each (λ j. j ≤ n) (sessions_in loaded) → Each (λ j. j ≤ suc n) (sessions_in loaded)
    more h = each_map (λ j. j ≤ n) (λ j. j ≤ suc n) (λ j l. omega (arith, l)) (sessions_in loaded) h

    go : (r : Register) (mask : Option ℕ) → Ascends (sessions_in loaded) × Each (λ j. j ≤ n) (sessions_in loaded) → Right (sessions_in loaded ++ map (λ (x : Entry). x.session) (live_entry e.0 r mask))
    go Idle mask h = subst Right (sym (append-nil (sessions_in loaded))) (h.0, more h.1)
    go (Entering f) mask h = subst Right (sym (append-nil (sessions_in loaded))) (h.0, more h.1)
    go (Live number declared moved) mask h = (
      ascends_more (sessions_in loaded) e.0 h.0 (each_map (λ j. j ≤ n) (λ j. j < e.0) (λ j l. let k = key.0 in omega (arith, l, k)) (sessions_in loaded) h.1),
      each_append (λ j. j ≤ suc n) (sessions_in loaded) (e.0 ∷ []) (more h.1) (let k = key.0 in omega (arith, k), tt),
    )

-- ---- one round

module _ (kind : Kind) (n : ℕ) (h : History) (logs : ℕ → List LogEntry) (a b : View) (sweep : Sweep) (r : HasSwept kind n a sweep b) where
  abbrev loaded : List (ℕ × Loaded)
  loaded = (round_record r.steps).loaded

  abbrev pub report : Report
  report = record { kind = kind; mark = mark_in r.steps; horizon = least_entering (mark_in r.steps) loaded; removed = gone_in r.steps; entries = record { list = entries_of loaded; room = 0 } }

  same : (pass b).loaded ≡ loaded
  same = r.round.loaded_is

  pub report_is : sweep.mark ≤ length h → Each (BeganIn logs) b.events → IsPassReport h logs kind report
  report_is most began = record {
    kind = refl;
    horizon = lower_below (mark_in r.steps) loaded;
    mark = subst (λ (s : Sweep). s.mark ≤ length h) r.told most;
    order = (in_order n loaded (subst (λ (l : List (ℕ × Loaded)). map (λ (e : ℕ × Loaded). e.0) l ≡ down_from n) same r.keys)).0;
    met = entries_met logs loaded (subst (Each (λ (e : ℕ × Loaded). IsFull e.1)) same r.registers)
        (all_begun logs r.steps [] (each_right (BeganIn logs) a.events r.steps (subst (Each (BeganIn logs)) r.events began)) tt);
  }

-- ---- all rounds

-- what holds of each round by P holds by Q where that follows
pub rounds_map : (P Q : View → Sweep → View → Type 0) → ((a : View) (sweep : Sweep) (b : View) → P a sweep b → Q a sweep b) → (v w : View) (sweeps : List Sweep) →
    AreRounds P v sweeps w → AreRounds Q v sweeps w
rounds_map P Q f v w [] t = t
rounds_map P Q f v w (sweep ∷ sweeps) t = (t.0, (t.1.0, (t.1.1.0, (f t.0 sweep t.1.1.0 t.1.1.1.0, rounds_map P Q f t.1.1.0 w sweeps t.1.1.1.1))))

met_events : (v w : View) → HasMetSessions v w → StartsWith w.events v.events
met_events v w m = ([], m.events ∙ sym (append-nil v.events))

-- what was seen and done before stays
pub rounds_kept : (kind : Kind) (n : ℕ) (v w : View) (sweeps : List Sweep) → AreRounds (HasSwept kind n) v sweeps w → StartsWith w.sights v.sights × StartsWith w.events v.events
rounds_kept kind n v w [] t = (t.kept, met_events v w t)
rounds_kept kind n v w (sweep ∷ sweeps) t =
    let a = t.0 in
    let b = t.1.1.0 in
    let r = t.1.1.1.0 in
    let later = rounds_kept kind n b w sweeps t.1.1.1.1 in (
      starts_on w.sights a.sights v.sights t.1.0.kept (starts_on w.sights b.sights a.sights r.kept later.0),
      starts_on w.events a.events v.events (met_events v a t.1.0) (starts_on w.events b.events a.events (r.steps, r.events) later.1),
    )

-- no later mark is lower than how many groups were seen
marks_over : (kind : Kind) (n m : ℕ) (v w : View) (sweeps : List Sweep) → AreRounds (HasSwept kind n) v sweeps w → SawGroups m v.sights → Each (λ k. m ≤ k) (map (λ (s : Sweep). s.mark) sweeps)
marks_over kind n m v w [] t saw = tt
marks_over kind n m v w (sweep ∷ sweeps) t saw =
    let a = t.0 in
    let b = t.1.1.0 in
    let r = t.1.1.1.0 in
    let there : SawGroups m a.sights = saw_more m v.sights a.sights t.1.0.kept saw in
    let high : length there.0 ≤ sweep.mark = of_among (AtMost sweep.mark) (Saw (groups there.0)) a.sights r.most there.2 in
    let is : length there.0 ≡ m = there.1 in
    (omega (arith, high, is), marks_over kind n m b w sweeps t.1.1.1.1 (saw_more m a.sights b.sights r.kept there))

marks_rise : (kind : Kind) (n : ℕ) (v w : View) (sweeps : List Sweep) → AreRounds (HasSwept kind n) v sweeps w → NotFalling (map (λ (s : Sweep). s.mark) sweeps)
marks_rise kind n v w [] t = tt
marks_rise kind n v w (sweep ∷ sweeps) t = (marks_over kind n sweep.mark t.1.1.0 w sweeps t.1.1.1.1 t.1.1.1.0.saw, marks_rise kind n t.1.1.0 w sweeps t.1.1.1.1)

-- the reports of these sweeps
record AreToldBy (h : History) (logs : ℕ → List LogEntry) (kind : Kind) (sweeps : List Sweep) (reports : List Report) : Type 0 where
  pub told : map sweep_of reports ≡ sweeps
  pub each : Each (IsPassReport h logs kind) reports

all_told : (kind : Kind) (n : ℕ) (h : History) (logs : ℕ → List LogEntry) (v w : View) (sweeps : List Sweep) → AreRounds (HasSwept kind n) v sweeps w →
    ((m : ℕ) → SawGroups m w.sights → m ≤ length h) → Each (BeganIn logs) w.events → (reports : List Report) × AreToldBy h logs kind sweeps reports
all_told kind n h logs v w [] t most began = ([], record { told = refl; each = tt })
all_told kind n h logs v w (sweep ∷ sweeps) t most began =
    let b = t.1.1.0 in
    let r = t.1.1.1.0 in
    let kept = rounds_kept kind n b w sweeps t.1.1.1.1 in
    let one = report kind n h logs t.0 b sweep r in
    let later = all_told kind n h logs b w sweeps t.1.1.1.1 most began in
    let here : IsPassReport h logs kind one = report_is kind n h logs t.0 b sweep r (most sweep.mark (saw_more sweep.mark b.sights w.sights kept.0 r.saw))
    (each_left (BeganIn logs) b.events kept.1.0 (subst (Each (BeganIn logs)) kept.1.1 began)) in
    (one ∷ later.0, record { told = (λ i. sym r.told i ∷ later.1.told i); each = (here, later.1.each) })

counted : (reports : List Report) → length reports ≡ length (map sweep_of reports)
counted [] = refl
counted (r ∷ reports) = ap suc (counted reports)

marks_told : (reports : List Report) → map (λ (s : Sweep). s.mark) (map sweep_of reports) ≡ map (λ (r : Report). r.mark) reports
marks_told [] = refl
marks_told (r ∷ reports) = ap (λ l. r.mark ∷ l) (marks_told reports)

lines_told : (n : ℕ) (reports : List Report) → report_lines n reports ≡ sweep_lines n (map sweep_of reports)
lines_told n [] = refl
lines_told n (r ∷ reports) = ap (λ l. record { session = 0; place = n; reply = reply_of (sweep_of r) } ∷ l) (lines_told (suc n) reports)

-- The rounds that a collector's pass made are told by reports. All groups that it saw are in the history, and each live register
-- that it loaded has its begin in the logs.
pub reported : (kind : Kind) (n : ℕ) (h : History) (logs : ℕ → List LogEntry) (v w : View) (sweeps : List Sweep) → AreRounds (HasSwept kind n) v sweeps w →
    ((m : ℕ) → SawGroups m w.sights → m ≤ length h) → Each (BeganIn logs) w.events →
    (reports : List Report) × (AreReports h logs kind (length sweeps) reports × (report_lines 1 reports ≡ sweep_lines 1 sweeps))
reported kind n h logs v w sweeps t most began =
    let all = all_told kind n h logs v w sweeps t most began in
    let reports = all.0 in
    let told = all.1.told in (
      reports,
      (
        record {
          count = counted reports ∙ ap length told;
          each = all.1.each;
          rising = subst NotFalling (ap (map (λ (s : Sweep). s.mark)) (sym told) ∙ marks_told reports) (marks_rise kind n v w sweeps t);
        },
        lines_told 1 reports ∙ ap (sweep_lines 1) told,
      ),
    )

-- ---- what they removed

-- the lines tell what the sweeps do
pub lines_removed : (k : Kind) (n : ℕ) (sweeps : List Sweep) → told_removed k (sweep_lines n sweeps) ≡ sum_by (swept_by k) sweeps
lines_removed k n [] = refl
lines_removed k n (sweep ∷ sweeps) =
    let line : Line = record { session = 0; place = n; reply = reply_of sweep } in
    let a = sum_by-cons (told_by k) line (sweep_lines (suc n) sweeps) in
    let b = sum_by-cons (swept_by k) sweep sweeps in
    a ∙ (ap (λ m. swept_by k sweep + m) (lines_removed k (suc n) sweeps) ∙ sym b)
