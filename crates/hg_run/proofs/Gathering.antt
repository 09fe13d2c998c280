-- A record that reaches to the end of each log shows what the logs have open.
use Rattle.std.proofs.Common.{◌≡◌, ◌⊎◌, inl, inr, ℕ, zero, suc, ◌+◌, ◌<◌, ◌≤◌, List, [], ◌∷◌, ◌++◌, length, map, Bool, true, false, Option, Some, None, refl, sym, ap, ◌∙◌, subst, arith, length-append}
use Rattle.std.specs.Prelude.{◌==◌, if◌then◌else◌, option_map, IsTrue, IfSome, ⊤}
use Rattle.std.specs.Bool.{MatchBool}
use Rattle.std.specs.List.{cons_option, filter_map}
use Rattle.std.proofs.lemmas.List.{map-append}
use Rattle.std.proofs.lemmas.List.Elements.{filter_map-append}
use Rattle.std.proofs.lemmas.Bool.Decides.{nat_tests}
use Rattle.hg_base.specs.declared.scope.Scope.{Scope}
use Rattle.hg_base.specs.declared.scope.Snapshot.{Snapshot}
use Rattle.hg_base.specs.declared.report.Entry.{Entry}
use Rattle.hg_base.specs.declared.report.Told.{Told}
use Rattle.hg_base.specs.Freshness.{is_declared}
use Rattle.hg_base.specs.Lists.{Each, numbers_from}
use Rattle.hg_base.specs.Reports.{told_of}
use Rattle.hg_base.proofs.ListFacts.{false_true, each_append, numbers_from_snoc}
use Rattle.hg_core.specs.declared.log.LogEntry.{LogEntry}
use Rattle.hg_core.specs.declared.loaded.Loaded.{Loaded}
use Rattle.hg_core.specs.declared.register.Register.{Register}
use Rattle.hg_core.specs.declared.register.Register.TheVariants.{Idle, Entering, Live}
use Rattle.hg_core.specs.declared.phase.Phase.{Phase}
use Rattle.hg_core.specs.Logs.{current, has_begun}
use Rattle.hg_core.specs.Passes.{found, lower, least_entering}
use Rattle.hg_core.specs.Phases.{IsEntering}
use Rattle.hg_core.specs.Reach.{Says, SaysLive, StandsIn}
use Rattle.hg_rule.specs.Rounds.{live_entry, entries_of}
use Rattle.hg_tracker.specs.Entries.{down_from}
use Rattle.hg_tracker.proofs.After.{first_key}
use Rattle.hg_headline.specs.Met.{live_in, HasDeclared}
use Rattle.hg_session.specs.Ties.{phase_at}

-- ---- one register

-- the register is what the log has open
abbrev pub ShowsLog : Register → List LogEntry → Type 0
ShowsLog Idle log = current log ≡ None
ShowsLog (Entering f) log = ⊥
ShowsLog (Live number declared moved) log = (scope : Scope) × SaysLive number declared moved log scope

nothing_later : (later early : List LogEntry) → length (later ++ early) ≤ length early → later ≡ []
nothing_later [] early h = refl
nothing_later (e ∷ later) early h = absurd (let l = length-append later early in omega (arith, l, h))

pub reached : (known : ℕ) (r : Register) (log : List LogEntry) (phase : Phase) → length log ≤ known → (IsEntering phase → ⊥) → StandsIn known r log phase → ShowsLog r log
reached known r log phase all rests (later, early, h) =
    let none : later ≡ [] = nothing_later later early (let e = ap length h.log_is in let k = h.longer in omega (arith, e, k, all)) in
    let same : early ≡ log = sym (h.log_is ∙ ap (λ l. l ++ early) none) in
    subst (ShowsLog r) same (go r h.says none)
  where
    go : (r : Register) → Says r later early phase → later ≡ [] → ShowsLog r early
    go Idle s none = s
    go (Live number declared moved) s none = s
    go (Entering f) s none = or s.1
      where
        or : IsTrue (has_begun later) ⊎ IsEntering phase → ⊥
        or (inl b) = false_true (sym (ap has_begun none) ∙ b)
        or (inr p) = rests p

pub at_rest : (o : Option Snapshot) → IsEntering (phase_at o) → ⊥
at_rest None h = h
at_rest (Some snapshot) h = h

-- ---- all registers

abbrev pub ShowLogs : (ℕ → List LogEntry) → List (ℕ × Loaded) → Type 0
ShowLogs logs loaded = Each (λ (e : ℕ × Loaded). ShowsLog e.1.register (logs e.0)) loaded

pub all_show : (logs : ℕ → List LogEntry) (n : ℕ) (loaded : List (ℕ × Loaded)) → map (λ e. e.0) loaded ≡ down_from n →
    ((j : ℕ) → 0 < j → j ≤ n → IfSome (found j loaded) (λ r. ShowsLog r.register (logs j))) → ShowLogs logs loaded
all_show logs n [] keys h = tt
all_show logs zero (e ∷ loaded) keys h = absurd (let m : suc (length (map (λ (e : ℕ × Loaded). e.0) loaded)) ≡ 0 = ap length keys in omega (arith, m))
all_show logs (suc n) (e ∷ loaded) keys h =
    let key = first_key e loaded n keys in (
      subst (λ k. ShowsLog e.1.register (logs k)) (sym key.0) (here (suc n == e.0) (let k = key.0 in grind (arith, nat_tests)) (h (suc n) (omega arith) (omega arith))),
      all_show logs n loaded key.1 (λ j low high. there j (j == e.0) (let k = key.0 in grind (arith, nat_tests)) (h j low (omega (arith, high)))),
    )
  where
    here : (b : Bool) → b ≡ true → IfSome (if b then Some e.1 else found (suc n) loaded) (λ r. ShowsLog r.register (logs (suc n))) → ShowsLog e.1.register (logs (suc n))
    here true q s = s
    here false q s = absurd (false_true q)

    there : (j : ℕ) (b : Bool) → b ≡ false → IfSome (if b then Some e.1 else found j loaded) (λ r. ShowsLog r.register (logs j)) → IfSome (found j loaded) (λ r. ShowsLog r.register (logs j))
    there j true q s = absurd (false_true (sym q))
    there j false q s = s

-- ---- the horizon

pub none_enters : (logs : ℕ → List LogEntry) (mark : ℕ) (loaded : List (ℕ × Loaded)) → ShowLogs logs loaded → least_entering mark loaded ≡ mark
none_enters logs mark [] h = refl
none_enters logs mark (e ∷ loaded) h = go e.1.register h.0 ∙ none_enters logs mark loaded h.1
  where
    go : (r : Register) → ShowsLog r (logs e.0) → lower (least_entering mark loaded) r ≡ least_entering mark loaded
    go Idle s = refl
    go (Entering f) s = absurd s
    go (Live number declared moved) s = refl

-- ---- the entries

abbrev pair_of : Told → ℕ × ℕ
pair_of told = (told.session, told.number)

abbrev pairs : List Entry → List (ℕ × ℕ)
pairs entries = map pair_of (map told_of entries)

pairs_append : (xs ys : List Entry) → pairs (xs ++ ys) ≡ pairs xs ++ pairs ys
pairs_append xs ys = ap (map pair_of) (map-append told_of xs ys) ∙ map-append pair_of (map told_of xs) (map told_of ys)

abbrev live_at : (ℕ → List LogEntry) → ℕ → Option (ℕ × ℕ)
live_at logs j = option_map (λ (snapshot : Snapshot). (j, snapshot.at)) (current (logs j))

live_more : (logs : ℕ → List LogEntry) (n : ℕ) → live_in (suc n) logs ≡ live_in n logs ++ cons_option (live_at logs (suc n)) []
live_more logs n =
    let next : 1 + n ≡ suc n = omega arith in
    ap (filter_map (live_at logs)) (numbers_from_snoc 1 n ∙ ap (λ m. numbers_from 1 n ++ m ∷ []) next) ∙ filter_map-append (live_at logs) (numbers_from 1 n) (suc n ∷ [])

pub held_are : (logs : ℕ → List LogEntry) (n : ℕ) (loaded : List (ℕ × Loaded)) → map (λ e. e.0) loaded ≡ down_from n → ShowLogs logs loaded → pairs (entries_of loaded) ≡ live_in n logs
held_are logs zero [] keys h = refl
held_are logs (suc n) [] keys h = absurd (let m : 0 ≡ suc (length (down_from n)) = ap length keys in omega (arith, m))
held_are logs zero (e ∷ loaded) keys h = absurd (let m : suc (length (map (λ (e : ℕ × Loaded). e.0) loaded)) ≡ 0 = ap length keys in omega (arith, m))
held_are logs (suc n) (e ∷ loaded) keys h =
    let key = first_key e loaded n keys in
    pairs_append (entries_of loaded) (live_entry e.0 e.1.register e.1.mask)
    ∙ ((λ i. held_are logs n loaded key.1 h.1 i ++ one i) ∙ ((λ i. live_in n logs ++ cons_option (live_at logs (key.0 i)) []) ∙ sym (live_more logs n)))
  where
    go : (r : Register) (mask : Option ℕ) → ShowsLog r (logs e.0) → pairs (live_entry e.0 r mask) ≡ cons_option (live_at logs e.0) []
    go Idle mask s = ap (λ o. cons_option (option_map (λ (snapshot : Snapshot). (e.0, snapshot.at)) o) []) (sym s)
    go (Entering f) mask s = absurd s
    go (Live number declared moved) mask (scope, s) = ap (λ o. cons_option (option_map (λ (snapshot : Snapshot). (e.0, snapshot.at)) o) []) (sym s.snapshot)

    one : pairs (live_entry e.0 e.1.register e.1.mask) ≡ cons_option (live_at logs e.0) []
    one = go e.1.register e.1.mask h.0

-- ---- those that were moved

abbrev IsRightlyMoved : (ℕ → List LogEntry) → Told → Type 0
IsRightlyMoved logs told = MatchBool told.moved (HasDeclared logs told) ⊤

pub moved_are : (logs : ℕ → List LogEntry) (loaded : List (ℕ × Loaded)) → ShowLogs logs loaded → Each (λ told. MatchBool told.moved (HasDeclared logs told) ⊤) (map told_of (entries_of loaded))
moved_are logs [] h = tt
moved_are logs (e ∷ loaded) h =
    subst (Each (IsRightlyMoved logs)) (sym (map-append told_of (entries_of loaded) (live_entry e.0 e.1.register e.1.mask)))
    (each_append (IsRightlyMoved logs) (map told_of (entries_of loaded)) (map told_of (live_entry e.0 e.1.register e.1.mask)) (moved_are logs loaded h.1) (go e.1.register e.1.mask h.0))
  where
    go : (r : Register) (mask : Option ℕ) → ShowsLog r (logs e.0) → Each (IsRightlyMoved logs) (map told_of (live_entry e.0 r mask))
    go Idle mask s = tt
    go (Entering f) mask s = absurd s
    go (Live number declared true) mask (scope, s) = (subst (λ o. IfSome o (λ (snapshot : Snapshot). IsTrue (is_declared snapshot.scope))) (sym s.snapshot) (subst IsTrue s.tables (s.moves refl)), tt)
    go (Live number declared false) mask s = (tt, tt)
