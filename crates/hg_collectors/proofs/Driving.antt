-- Rounds one after the other, with meetings between them.
use Rattle.std.proofs.Common.{◌≡◌, ◌⊎◌, inl, inr, ℕ, ◌+◌, ◌≢◌, List, [], ◌∷◌, ◌++◌, Bool, true, false, Option, None, refl, sym, ap, ◌∙◌, subst, arith}
use Rattle.std.specs.Prelude.{cond, filter, filter_map, sum_by, IfOk, Result}
use Rattle.std.specs.List.{cons_option}
use Rattle.std.proofs.lemmas.List.Elements.{filter-append, filter_map-append}
use Rattle.std.proofs.lemmas.List.Sums.{sum_by-cons}
use Rattle.hg_base.specs.declared.line.Line.{Line}
use Rattle.hg_base.specs.declared.line.Reply.{Reply}
use Rattle.hg_base.specs.declared.report.Kind.{Kind}
use Rattle.hg_base.specs.declared.report.Kind.TheVariants.{Group, Table, Interval}
use Rattle.hg_base.specs.declared.report.Sweep.{Sweep}
use Rattle.hg_base.specs.Shape.{same_kind, report_of}
use Rattle.hg_core.specs.Counters.{removed_all}
use Rattle.hg_collectors.specs.GroupCollectors as group
use Rattle.hg_collectors.specs.declared.group.GroupCollector.{GroupCollector}
use Rattle.hg_rounds.specs.TableCollectors as table
use Rattle.hg_rounds.specs.declared.table.TableCollector.{TableCollector}
use Rattle.hg_collectors.specs.Workers as interval
use Rattle.hg_collectors.specs.declared.interval.IntervalWorker.{IntervalWorker}
use Rattle.hg_rule.specs.declared.passes.CollectorPass.{CollectorPass}
use Rattle.hg_rule.specs.declared.view.Part.{Part}
use Rattle.hg_rule.specs.declared.view.Part.TheVariants.{OfPass}
use Rattle.hg_rule.specs.declared.view.Sizes.{Sizes}
use Rattle.hg_rule.specs.declared.view.View.{View}
use Rattle.hg_rule.specs.Seats.{BoardId, pass_view, IsPassOf}
use Rattle.hg_rule.specs.Views.{part_number, pass, pass_there, first_in, after_first}
use Rattle.hg_collectors.specs.declared.collectors.Collectors.{Collectors}
use Rattle.hg_collectors.specs.Collecting.{HaveMade, IsLone, removed_of, view_in}
use Rattle.hg_collectors.specs.Rounding.{IsRoundBy, AreRounds}
use Rattle.hg_collectors.specs.Telling.{reply_of, sweeps_in, sweeps_of}
use Rattle.hg_collectors.specs.Swept.{HasSwept, HasMetSessions, swept_by}
use Rattle.hg_collectors.proofs.Among.{if_ok}
use Rattle.hg_collectors.proofs.Meetings.{met_none, met_more}
use Rattle.hg_collectors.proofs.Rounds.{group_swept, table_swept, interval_swept, team_swept}

-- ---- one round

pub swept_of : (kind : Kind) (z : Sizes) (long : ℕ) (v w : View) (sweep : Sweep) → IsRoundBy kind z long v sweep w → HasSwept kind z.sessions v sweep w
swept_of Group z long v w sweep (report, (collects, is)) = subst (λ s. HasSwept Group z.sessions v s w) (sym is) (group_swept z v w report collects)
swept_of Table z long v w sweep (report, (cuts, is)) = subst (λ s. HasSwept Table z.sessions v s w) (sym is) (table_swept z long v w report cuts)
swept_of Interval z long v w sweep (report, (inl sweeps, is)) = subst (λ s. HasSwept Interval z.sessions v s w) (sym is) (interval_swept z v w report sweeps)
swept_of Interval z long v w sweep (report, (inr sweeps, is)) = subst (λ s. HasSwept Interval z.sessions v s w) (sym is) (team_swept z v w report sweeps)

-- where it is told, this is known of it
pub told_swept : {E : Type 0} (kind : Kind) (z : Sizes) (long : ℕ) (v w : View) (result : Result Sweep E) → IfOk result (λ sweep. IsRoundBy kind z long v sweep w) →
    IfOk result (λ sweep. HasSwept kind z.sessions v sweep w)
told_swept kind z long v w result round =
    if_ok (λ sweep. IsRoundBy kind z long v sweep w) (λ sweep. HasSwept kind z.sessions v sweep w) result (λ sweep r. swept_of kind z long v w sweep r) round

-- ---- rounds

module _ (P : View → Sweep → View → Type 0) where
  pub rounds_after : (u v w : View) (sweeps : List Sweep) → HasMetSessions u v → AreRounds P v sweeps w → AreRounds P u sweeps w
  rounds_after u v w [] m h = met_more u v w m h
  rounds_after u v w (sweep ∷ sweeps) m (a, (n, (b, (p, rest)))) = (a, (met_more u v a m n, (b, (p, rest))))

  pub rounds_append : (u v w : View) (xs ys : List Sweep) → AreRounds P u xs v → AreRounds P v ys w → AreRounds P u (xs ++ ys) w
  rounds_append u v w [] ys m h = rounds_after u v w ys m h
  rounds_append u v w (x ∷ xs) ys (a, (m, (b, (p, rest)))) h = (a, (m, (b, (p, rounds_append b v w xs ys rest h))))

  pub one_round : (v w : View) (sweep : Sweep) → P v sweep w → AreRounds P v (sweep ∷ []) w
  one_round v w sweep p = (v, (met_none v, (w, (p, met_none w))))

-- a pass with its own part alone keeps it over rounds, with its share
pub lone_rounds : (t : BoardId) (p : ℕ) (kind : Kind) (z : Sizes) (long : ℕ) (sweeps : List Sweep) (c d : CollectorPass) → IsLone t p c → IsPassOf t d →
    AreRounds (IsRoundBy kind z long) (pass_view c) sweeps (pass_view d) → IsLone t p d
lone_rounds t p kind z long sweeps c d h own rounds = let k = go (pass_view c) (pass_view d) sweeps rounds h.only in record { own = own; only = k.0; share = k.1 ∙ h.share }
  where
    after_met : (v w : View) → HasMetSessions v w → v.parts ≡ OfPass p (pass v) ∷ [] → (w.parts ≡ OfPass p (pass w) ∷ []) × ((pass w).share ≡ (pass v).share)
    after_met v w m only = (
      m.parts ∙ (only ∙ ap (λ (ps : List Part). OfPass p (pass_there (first_in ps)) ∷ []) (sym m.parts)),
      ap (λ (ps : List Part). (pass_there (first_in ps)).share) m.parts,
    )

    after_round : (v w : View) (sweep : Sweep) → HasSwept kind z.sessions v sweep w → v.parts ≡ OfPass p (pass v) ∷ [] → (w.parts ≡ OfPass p (pass w) ∷ []) × ((pass w).share ≡ (pass v).share)
    after_round v w sweep s only = (s.parts ∙ (λ i. OfPass (ap part_number only i) (pass w) ∷ ap after_first only i), s.share)

    go : (v w : View) (sweeps : List Sweep) → AreRounds (IsRoundBy kind z long) v sweeps w → v.parts ≡ OfPass p (pass v) ∷ [] → (w.parts ≡ OfPass p (pass w) ∷ []) × ((pass w).share ≡ (pass v).share)
    go v w [] m only = after_met v w m only
    go v w (sweep ∷ sweeps) (a, (m, (b, (round, rest)))) only =
        let first = after_met v a m only in
        let then = after_round a b sweep (swept_of kind z long a b sweep round) first.0 in
        let last = go b w sweeps rest then.0 in
        (last.0, last.1 ∙ (then.1 ∙ first.1))

-- what rounds removed is what they tell
pub removed_rounds : (k kind : Kind) (z : Sizes) (long : ℕ) (v w : View) (sweeps : List Sweep) → AreRounds (IsRoundBy kind z long) v sweeps w →
    removed_all k (pass w).visits ≡ removed_all k (pass v).visits + sum_by (swept_by k) sweeps
removed_rounds k kind z long v w [] m =
    let none : sum_by (swept_by k) [] ≡ 0 = refl in
    let same : removed_all k (pass w).visits ≡ removed_all k (pass v).visits = ap (λ (ps : List Part). removed_all k (pass_there (first_in ps)).visits) m.parts in
    omega (arith, none, same)
removed_rounds k kind z long v w (sweep ∷ sweeps) (a, (m, (b, (round, rest)))) =
    let same : removed_all k (pass a).visits ≡ removed_all k (pass v).visits = ap (λ (ps : List Part). removed_all k (pass_there (first_in ps)).visits) m.parts in
    let here : removed_all k (pass b).visits ≡ removed_all k (pass a).visits + swept_by k sweep = (swept_of kind z long a b sweep round).removed k in
    let later = removed_rounds k kind z long b w sweeps rest in
    let sum = sum_by-cons (swept_by k) sweep sweeps in
    omega (arith, same, here, later, sum)

-- ---- the collectors of a replay

kinds_apart : (kind k : Kind) → ((k ≡ kind) × (same_kind kind k ≡ true)) ⊎ ((k ≢ kind) × (same_kind kind k ≡ false))
kinds_apart Group Group = inl (refl, refl)
kinds_apart Group Table = inr ((λ e. let z : Table ≡ Group = e in cc), refl)
kinds_apart Group Interval = inr ((λ e. let z : Interval ≡ Group = e in cc), refl)
kinds_apart Table Group = inr ((λ e. let z : Group ≡ Table = e in cc), refl)
kinds_apart Table Table = inl (refl, refl)
kinds_apart Table Interval = inr ((λ e. let z : Interval ≡ Table = e in cc), refl)
kinds_apart Interval Group = inr ((λ e. let z : Group ≡ Interval = e in cc), refl)
kinds_apart Interval Table = inr ((λ e. let z : Table ≡ Interval = e in cc), refl)
kinds_apart Interval Interval = inl (refl, refl)

-- one of them made a round between meetings of its pass
pub made_one : (z : Sizes) (long : ℕ) (kind : Kind) (a b c d : Collectors) (sweep : Sweep) → sweep.kind ≡ kind → ((k : Kind) → HasMetSessions (view_in k a) (view_in k b)) →
    IsRoundBy kind z long (view_in kind b) sweep (view_in kind c) → ((k : Kind) → k ≢ kind → view_in k c ≡ view_in k b)
    → ((k : Kind) → HasMetSessions (view_in k c) (view_in k d)) → HaveMade z long a (λ k. sweeps_in k (reply_of sweep)) d
made_one z long kind a b c d sweep is first round others last k = go (kinds_apart kind k)
  where
    Are : List Sweep → Type 0
    Are sweeps = AreRounds (IsRoundBy k z long) (view_in k a) sweeps (view_in k d)

    told : same_kind sweep.kind k ≡ same_kind kind k
    told = ap (λ (x : Kind). same_kind x k) is

    go : ((k ≡ kind) × (same_kind kind k ≡ true)) ⊎ ((k ≢ kind) × (same_kind kind k ≡ false)) → Are (sweeps_in k (reply_of sweep))
    go (inl (same, here)) = subst (λ t. Are (cond t (sweep ∷ []) [])) (sym (told ∙ here))
        (view_in k b, (first k, (view_in k c, (subst (λ x. IsRoundBy x z long (view_in x b) sweep (view_in x c)) (sym same) round, last k))))
    go (inr (apart, gone)) = subst (λ t. Are (cond t (sweep ∷ []) [])) (sym (told ∙ gone))
        (met_more (view_in k a) (view_in k b) (view_in k d) (first k) (subst (λ v. HasMetSessions v (view_in k d)) (others k apart) (last k)))

-- none did
pub made_none : (z : Sizes) (long : ℕ) (c : Collectors) (reply : Reply) → report_of reply ≡ None → HaveMade z long c (λ k. sweeps_in k reply) c
made_none z long c reply none k = subst (λ o. AreRounds (IsRoundBy k z long) (view_in k c) (filter (λ sweep. same_kind sweep.kind k) (cons_option o [])) (view_in k c)) (sym none)
    (met_none (view_in k c))

pub made_first : (z : Sizes) (long : ℕ) (c : Collectors) → HaveMade z long c (λ k. sweeps_of k []) c
made_first z long c k = met_none (view_in k c)

-- what two rows of lines tell
pub told_append : (k : Kind) (xs ys : List Line) → sweeps_of k (xs ++ ys) ≡ sweeps_of k xs ++ sweeps_of k ys
told_append k xs ys = ap (filter test) (filter_map-append report xs ys) ∙ filter-append test (filter_map report xs) (filter_map report ys)
  where
    test : Sweep → Bool
    test sweep = same_kind sweep.kind k

    report : Line → Option Sweep
    report l = report_of l.reply

-- one line more
pub made_more : (z : Sizes) (long : ℕ) (a b c : Collectors) (lines : List Line) (line : Line) → HaveMade z long a (λ k. sweeps_of k lines) b →
    HaveMade z long b (λ k. sweeps_in k line.reply) c → HaveMade z long a (λ k. sweeps_of k (lines ++ line ∷ [])) c
made_more z long a b c lines line before now k =
    subst (λ sweeps. AreRounds (IsRoundBy k z long) (view_in k a) sweeps (view_in k c)) (sym (told_append k lines (line ∷ [])))
    (rounds_append (IsRoundBy k z long) (view_in k a) (view_in k b) (view_in k c) (sweeps_of k lines) (sweeps_in k line.reply) (before k) (now k))

-- ---- what a round of one leaves of all

pub removed_group : (z : Sizes) (long : ℕ) (c : Collectors) (new : GroupCollector) (sweep : Sweep) → IsRoundBy Group z long (view_in Group c) sweep (group.view_of new) →
    (k : Kind) → removed_of k (record c { group = new }) ≡ removed_of k c + swept_by k sweep
removed_group z long c new sweep round k = let s = (swept_of Group z long (view_in Group c) (group.view_of new) sweep round).removed k in omega (arith, s)

pub removed_table : (z : Sizes) (long : ℕ) (c : Collectors) (new : TableCollector) (sweep : Sweep) → IsRoundBy Table z long (view_in Table c) sweep (table.view_of new) →
    (k : Kind) → removed_of k (record c { table = new }) ≡ removed_of k c + swept_by k sweep
removed_table z long c new sweep round k = let s = (swept_of Table z long (view_in Table c) (table.view_of new) sweep round).removed k in omega (arith, s)

pub removed_interval : (z : Sizes) (long : ℕ) (c : Collectors) (new : IntervalWorker) (sweep : Sweep) → IsRoundBy Interval z long (view_in Interval c) sweep (interval.view_of new)
    → (k : Kind) → removed_of k (record c { interval = new }) ≡ removed_of k c + swept_by k sweep
removed_interval z long c new sweep round k = let s = (swept_of Interval z long (view_in Interval c) (interval.view_of new) sweep round).removed k in omega (arith, s)
