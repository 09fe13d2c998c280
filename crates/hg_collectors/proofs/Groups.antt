-- Groups are taken one after the other, and their records cut.
use Rattle.std.proofs.Common.{◌≡◌, ℕ, suc, ◌+◌, ◌-◌, ◌<◌, ◌≤◌, ◌^◌, List, [], ◌∷◌, ◌++◌, length, Option, Some, None, refl, sym, ap, ◌∙◌, subst, arith, append_assoc, append-nil, length-append}
use Rattle.std.specs.Prelude.{true, false, Bool, ◌||◌, option_to_list}
use Rattle.hg_base.specs.declared.rid.Rid.{Rid}
use Rattle.hg_base.specs.declared.report.Kind.TheVariants.{Group}
use Rattle.hg_base.specs.Lists.{Each}
use Rattle.hg_base.specs.History.{History, is_among, same_rid}
use Rattle.hg_base.proofs.HistoryFacts.{same_rid_equal}
use Rattle.hg_base.proofs.ListFacts.{each_keeps}
use Rattle.hg_core.specs.declared.journal.PassEntry.TheVariants as entries
use Rattle.hg_core.specs.declared.visit.Visit.{Visit}
use Rattle.hg_core.specs.declared.loaded.Loaded.{Loaded}
use Rattle.hg_core.specs.declared.register.Register.{Register}
use Rattle.hg_core.specs.declared.register.Register.TheVariants.{Idle, Entering, Live}
use Rattle.hg_core.specs.Passes.{lower, least_entering, least, horizon, all_recorded, group_bound}
use Rattle.hg_rule.specs.declared.view.Event.{Event}
use Rattle.hg_rule.specs.declared.view.Part.{Part}
use Rattle.hg_rule.specs.declared.view.Part.TheVariants.{OfPass}
use Rattle.hg_rule.specs.declared.view.Sight.{Sight}
use Rattle.hg_rule.specs.declared.view.Sight.TheVariants.{Saw}
use Rattle.hg_rule.specs.declared.view.View.{View}
use Rattle.hg_rule.specs.Facts.{IsAmong, StartsWith, groups, record_of}
use Rattle.hg_rule.specs.Views.{number, pass, others, seeing, HasPass}
use Rattle.hg_rule.specs.Rounds.{IsWork, takes_in, gone_in, seen_taken}
use Rattle.hg_rule.proofs.Lists.{each_left, each_right, among_left}
use Rattle.hg_rule.proofs.Rounds.{gone_on, takes_on, taken_append}
use Rattle.hg_group.specs.declared.contexts.GroupContext.{GroupContext}
use Rattle.hg_group.specs.Oldest.{AreNext, records_of, takes_by, took_next, TakesNext, TakesSome}
use Rattle.hg_group.proofs.NextGroup.{records_more}
use Rattle.hg_core.specs.Counters.{removed_all}
use Rattle.hg_rounds.specs.Visits.{GoesOn}
use Rattle.hg_rounds.proofs.Going.{works, same_pass, visits_after, removed_append, goes_on}
use Rattle.hg_collectors.specs.Cutting.{WasCut, CutsAll}
use Rattle.hg_collectors.specs.Taking.{took, noted, WasTaken, FallsBelow, TakesGroups, TakesAll}
use Rattle.hg_collectors.proofs.Going.{cut_before, cut_after, cuts_more}

-- ---- steps that take groups

takes_are : (p : ℕ) (marks : List ℕ) → takes_in (takes_by p marks) ≡ length marks
takes_are p [] = refl
takes_are p (m ∷ marks) = ap suc (takes_are p marks)

gone_none : (p : ℕ) (marks : List ℕ) → gone_in (takes_by p marks) ≡ 0
gone_none p [] = refl
gone_none p (m ∷ marks) = gone_none p marks

all_work : (p : ℕ) (marks : List ℕ) → Each IsWork (takes_by p marks)
all_work p [] = tt
all_work p (m ∷ marks) = (tt, all_work p marks)

-- ---- counts

seen_kept : (xs ys : List Sight) → StartsWith ys xs → seen_taken xs ≤ seen_taken ys
seen_kept xs ys k = let e : seen_taken ys ≡ seen_taken (xs ++ k.0) = ap seen_taken k.1 in omega (arith, e, taken_append xs k.0)

falls_up : (m n : ℕ) (ks : List ℕ) → m ≤ n → FallsBelow m ks → FallsBelow n ks
falls_up m n [] le f = tt
falls_up m n (k ∷ ks) le f = (omega (arith, le, f.0), f.1)

each_among : (P : Rid → Type 0) (r : Rid) (rids : List Rid) → Each P rids → is_among r rids ≡ true → P r
each_among P r [] e a = absurd cc
each_among P r (x ∷ rids) e a = pick (same_rid r x) refl a (each_among P r rids e.1)
  where
    pick : (b : Bool) → same_rid r x ≡ b → (b || is_among r rids) ≡ true → (is_among r rids ≡ true → P r) → P r
    pick true q h later = subst P (sym (same_rid_equal r x q)) e.0
    pick false q h later = later h

saw_later : {A : Type 0} (a : A) (xs ys : List A) → StartsWith ys xs → IsAmong a xs → IsAmong a ys
saw_later a xs ys k h = subst (IsAmong a) (sym k.1) (among_left a xs k.0 h)

-- what was taken earlier
taken_before : (buckets p mark round bound : ℕ) (sights seen : List Sight) (visits more : List Visit) (steps later : List Event) (k : ℕ) → StartsWith seen sights →
    WasTaken buckets p mark round bound sights visits steps k → WasTaken buckets p mark round bound seen (more ++ visits) (steps ++ later) k
taken_before buckets p mark round bound sights seen visits more steps later k kept t = record {
  history = t.history;
  saw = saw_later _ sights seen kept t.saw;
  before = t.before;
  taken_is = t.taken_is;
  group = t.group;
  stands = t.stands;
  cut = λ r some. cut_before buckets p mark round bound r visits more steps later (t.cut r some);
}

-- ---- the groups of contexts whose records were cut

-- the numbers of these contexts, from n on, put before the earlier ones, so that the last stands first
abbrev onto : ℕ → List GroupContext → List ℕ → List ℕ
onto n [] earlier = earlier
onto n (c ∷ cs) earlier = onto (suc n) cs (suc n ∷ earlier)

onto_long : (n : ℕ) (cs : List GroupContext) (earlier : List ℕ) → length (onto n cs earlier) ≡ length cs + length earlier
onto_long n [] earlier = let e : length earlier ≡ 0 + length earlier = omega arith in e
onto_long n (c ∷ cs) earlier = let long : length (suc n ∷ earlier) ≡ suc (length earlier) = refl in omega (arith, onto_long (suc n) cs (suc n ∷ earlier), long)

onto_falls : (n : ℕ) (cs : List GroupContext) (earlier : List ℕ) → FallsBelow (suc n) earlier → FallsBelow (suc (n + length cs)) (onto n cs earlier)
onto_falls n [] earlier f = falls_up (suc n) (suc (n + 0)) earlier (omega arith) f
onto_falls n (c ∷ cs) earlier f = falls_up (suc (suc n + length cs)) (suc (n + suc (length cs))) (onto (suc n) cs (suc n ∷ earlier)) (omega arith)
    (onto_falls (suc n) cs (suc n ∷ earlier) (omega arith, f))

-- and so they are noted
onto_noted : (n : ℕ) (cs : List GroupContext) (earlier : List ℕ) → took earlier ++ took_next n cs ≡ took (onto n cs earlier)
onto_noted n [] earlier = append-nil (took earlier)
onto_noted n (c ∷ cs) earlier = sym (append_assoc (took earlier) (entries.Took (suc n) ∷ []) (took_next (suc n) cs)) ∙ onto_noted (suc n) cs (suc n ∷ earlier)

onto_over : (low n : ℕ) (cs : List GroupContext) (earlier : List ℕ) → low ≤ n → Each (λ k. low < k) earlier → Each (λ k. low < k) (onto n cs earlier)
onto_over low n [] earlier le each = each
onto_over low n (c ∷ cs) earlier le each = onto_over low (suc n) cs (suc n ∷ earlier) (omega (arith, le)) (omega (arith, le), each)

module _ (buckets p mark round bound : ℕ) (sights : List Sight) (visits : List Visit) (steps : List Event) (h : History) (saw : IsAmong (Saw (groups h)) sights) where
  abbrev Cut : Rid → Type 0
  Cut r = WasCut buckets p mark round bound visits steps r

  taken_each : (n : ℕ) (cs : List GroupContext) (earlier : List ℕ) → AreNext n h cs → Each Cut (records_of cs) → Each (WasTaken buckets p mark round bound sights visits steps) earlier →
      Each (WasTaken buckets p mark round bound sights visits steps) (onto n cs earlier)
  taken_each n [] earlier next cuts each = each
  taken_each n (c ∷ cs) earlier next cuts each = taken_each (suc n) cs (suc n ∷ earlier) next.1 (each_right Cut c.records.list (records_of cs) cuts) (
    record {
      history = h;
      saw = saw;
      before = n;
      taken_is = refl;
      group = next.0.0;
      stands = next.0.1.0;
      cut = λ r some. each_among Cut r c.records.list (each_left Cut c.records.list (records_of cs) cuts) (next.0.1.1.exact r ∙ some);
    },
    each,
  )

-- ---- the loop

-- nothing is noted yet
abbrev begun : (v : View) → HasPass v → GoesOn Group (noted v []) v
begun v own = record {
  visits = [];
  steps = [];
  work = tt;
  only = tt;
  now = tt;
  sum = refl;
  parts = own ∙ ap (λ l. OfPass (number v) (record (pass v) { journal = l }) ∷ others v) (sym (append-nil (pass v).journal));
  kept = ([], sym (append-nil v.sights));
  events = sym (append-nil v.events);
}

pub groups_none : (buckets bound : ℕ) (v : View) → HasPass v → TakesGroups buckets bound v 0 v
groups_none buckets bound v own = record { taken = []; on = begun v own; gone_is = refl; count = refl; falls = tt; over = tt; each = tt }

module _ (buckets bound : ℕ) (u v : View) (m : ℕ) (a : TakesGroups buckets bound u m v) where
  module _ (x : View) (cs : List GroupContext) (t : TakesNext v bound cs x) where
    -- the numbers of all that were taken
    abbrev now : List ℕ
    now = onto t.before cs a.taken

    -- what pops noted follows in the journal
    abbrev noting : List Part → List Part
    noting ps = let y = seeing ps [] [] in OfPass (number y) (record (pass y) { journal = (pass y).journal ++ took_next t.before cs }) ∷ others y

    abbrev to : GoesOn Group (noted u now) x
    to = record {
      visits = a.on.visits;
      steps = a.on.steps ++ takes_by (number v) t.marks;
      work = works a.on.steps (takes_by (number v) t.marks) a.on.work (all_work (number v) t.marks);
      only = a.on.only;
      now = a.on.now;
      sum = let l = gone_on a.on.steps (takes_by (number v) t.marks) in omega (arith, l, gone_none (number v) t.marks, a.on.sum);
      parts = t.parts ∙ ap noting a.on.parts
          ∙ ap (λ l. OfPass (number u) (record (pass u) { visits = a.on.visits ++ (pass u).visits; journal = l }) ∷ others u)
          (append_assoc (pass u).journal (took a.taken) (took_next t.before cs) ∙ ap (λ l. (pass u).journal ++ l) (onto_noted t.before cs a.taken));
      kept = (a.on.kept.0 ++ t.kept.0, t.kept.1 ∙ (ap (λ l. l ++ t.kept.0) a.on.kept.1 ∙ append_assoc u.sights a.on.kept.0 t.kept.0));
      events = t.events ∙ (ap (λ l. l ++ takes_by (number v) t.marks) a.on.events ∙ append_assoc u.events a.on.steps (takes_by (number v) t.marks));
    }

    module _ (w : View) (rids : List Rid) (n : ℕ) (b : CutsAll buckets bound x rids n w) where
      abbrev on : GoesOn Group (noted u now) w
      on = goes_on Group (noted u now) x w to b.on

      gone_is : m + n ≡ gone_in on.steps
      gone_is =
          let r1 = gone_on a.on.steps (takes_by (number v) t.marks) in
          let r2 = gone_on to.steps b.on.steps in
          omega (arith, r1, r2, gone_none (number v) t.marks, a.gone_is, b.gone_is)

      -- no more went than were ever made
      pub more_few : removed_all Group (pass w).visits ≤ 2 ^ 41 → m + n ≤ 2 ^ 41
      more_few few =
          let e : removed_all Group (pass w).visits ≡ removed_all Group (on.visits ++ (pass u).visits) = ap (removed_all Group) (visits_after Group (noted u now) w on) in
          let s = removed_append Group on.visits (pass u).visits in
          omega (arith, e, s, few, gone_is, on.sum)

      -- fewer are left
      pub fewer_left : 0 < length cs → bound - seen_taken w.sights < bound - seen_taken v.sights
      fewer_left some = let k = seen_kept x.sights w.sights b.on.kept in omega (arith, k, some, t.below, t.seen, t.taken)

      module _ (old : List Rid) (is : rids ≡ old ++ records_of cs) where
        cuts : Each (WasCut buckets (number u) (pass u).mark (pass u).round bound on.visits on.steps) (records_of cs)
        cuts =
            let s = same_pass Group (noted u now) x to in
            each_keeps _ _ (λ r c. cut_after buckets (number u) (pass u).mark (pass u).round bound r a.on.visits b.on.visits to.steps b.on.steps c) (records_of cs)
            (each_right _ old (records_of cs) (subst (λ (k : ℕ × (ℕ × (ℕ × List Rid))). Each (WasCut buckets k.0 k.1.0 k.1.1.0 bound b.on.visits b.on.steps) k.1.1.1)
            (λ i. (s.number_is i, (s.mark_is i, (s.round_is i, is i)))) b.cut))

        earlier : Each (WasTaken buckets (number u) (pass u).mark (pass u).round bound w.sights on.visits on.steps) a.taken
        earlier = each_keeps _ _ (λ k e. taken_before buckets (number u) (pass u).mark (pass u).round bound x.sights w.sights a.on.visits b.on.visits to.steps b.on.steps k b.on.kept
            (taken_before buckets (number u) (pass u).mark (pass u).round bound v.sights x.sights a.on.visits [] a.on.steps (takes_by (number v) t.marks) k t.kept e)) a.taken a.each

        pub groups_more : TakesGroups buckets bound u (m + n) w
        groups_more =
            let k1 = takes_on a.on.steps (takes_by (number v) t.marks) in
            let k2 = takes_on to.steps b.on.steps in
            let seen = seen_kept x.sights w.sights b.on.kept in
            let low = seen_kept u.sights v.sights a.on.kept in record {
              taken = now;
              on = on;
              gone_is = gone_is;
              count = omega (arith, k1, k2, takes_are (number v) t.marks, t.count, a.count, b.takes_none, onto_long t.before cs a.taken);
              falls = falls_up (suc (t.before + length cs)) (suc (seen_taken w.sights)) (onto t.before cs a.taken) (omega (arith, seen, t.taken))
                  (onto_falls t.before cs a.taken (falls_up (suc (seen_taken v.sights)) (suc t.before) a.taken (omega (arith, t.seen)) a.falls));
              over = onto_over (seen_taken u.sights) t.before cs a.taken (omega (arith, low, t.seen)) a.over;
              each = taken_each buckets (number u) (pass u).mark (pass u).round bound w.sights on.visits on.steps t.history (saw_later _ x.sights w.sights b.on.kept t.saw) t.before cs a.taken t.next cuts earlier;
            }

-- ---- one turn

-- the records of the groups that were taken together were cut
module _ (buckets bound : ℕ) (u v x y : View) (m n : ℕ) (old new : List Rid) (o : Option GroupContext) (a : TakesGroups buckets bound u m v) (t : TakesSome v bound old o new x)
    (b : CutsAll buckets bound x new n y) where
  pub batch_few : removed_all Group (pass y).visits ≤ 2 ^ 41 → m + n ≤ 2 ^ 41
  batch_few few = more_few buckets bound u v m a x (t.contexts ++ option_to_list o) t.takes y new n b few

-- and those of the last one
module _ (buckets bound : ℕ) (u v x y w : View) (m n k : ℕ) (old new rids : List Rid) (last : GroupContext) (a : TakesGroups buckets bound u m v)
    (t : TakesSome v bound old (Some last) new x) (b : CutsAll buckets bound x new n y) (is : rids ≡ last.records.list) (d : CutsAll buckets bound y rids k w) where
  abbrev all : List GroupContext
  all = t.contexts ++ last ∷ []

  both : CutsAll buckets bound x (new ++ rids) (n + k) w
  both = cuts_more buckets bound x y w new rids n k b d

  whole : new ++ rids ≡ old ++ records_of all
  whole = (λ i. t.listed i ++ is i) ∙ (append_assoc old (records_of t.contexts) last.records.list ∙ ap (λ l. old ++ l) (sym (records_more t.contexts last)))

  pub turn : TakesGroups buckets bound u (m + n + k) w
  turn = let e : m + (n + k) ≡ m + n + k = omega arith in subst (λ j. TakesGroups buckets bound u j w) e (groups_more buckets bound u v m a x all t.takes w (new ++ rids) (n + k) both old whole)

  pub turn_few : removed_all Group (pass w).visits ≤ 2 ^ 41 → m + n + k ≤ 2 ^ 41
  turn_few few = let h = more_few buckets bound u v m a x all t.takes w (new ++ rids) (n + k) both few in omega (arith, h)

  pub turn_ends : bound - seen_taken w.sights < bound - seen_taken v.sights
  turn_ends = fewer_left buckets bound u v m a x all t.takes w (new ++ rids) (n + k) both (let e = length-append t.contexts (last ∷ []) in omega (arith, e))

-- the last turn
module _ (buckets bound : ℕ) (u v x w : View) (m n : ℕ) (old new : List Rid) (a : TakesGroups buckets bound u m v) (t : TakesSome v bound old None new x) (b : CutsAll buckets bound x new n w) where
  pub groups_all : TakesAll buckets bound u (m + n) w
  groups_all = record {
    some = groups_more buckets bound u v m a x (t.contexts ++ []) t.takes w new n b old (t.listed ∙ ap (λ l. old ++ records_of l) (sym (append-nil t.contexts)));
    enough = let k = seen_kept x.sights w.sights b.on.kept in omega (arith, k, t.enough refl);
  }

-- ---- the record

-- the bound is at or below the record's mark
least_low : (n : ℕ) (ks : List ℕ) → least n ks ≤ n
least_low n [] = omega arith
least_low n (k ∷ ks) = omega (arith, least_low n ks)

entering_low : (n : ℕ) (loaded : List (ℕ × Loaded)) → least_entering n loaded ≤ n
entering_low n [] = omega arith
entering_low n (e ∷ loaded) = go e.1.register (entering_low n loaded)
  where
    go : (r : Register) → least_entering n loaded ≤ n → lower (least_entering n loaded) r ≤ n
    go Idle ih = ih
    go (Entering f) ih = omega (arith, ih)
    go (Live number declared moved) ih = ih

pub bound_low : (buckets bound : ℕ) (u v : View) (m : ℕ) → TakesGroups buckets bound u m v → bound ≡ group_bound (record_of (pass u)) → bound ≤ (pass v).mark
bound_low buckets bound u v m a is =
    let low = least_low (horizon (record_of (pass u))) (all_recorded (record_of (pass u))) in
    let most = entering_low (pass u).mark (pass u).loaded in
    let same = (same_pass Group (noted u a.taken) v a.on).mark_is in
    omega (arith, is, low, most, same)

-- ---- no more than were ever made

pub cut_few : (buckets bound : ℕ) (v w : View) (rids : List Rid) (n : ℕ) → CutsAll buckets bound v rids n w → removed_all Group (pass w).visits ≤ 2 ^ 41 → n ≤ 2 ^ 41
cut_few buckets bound v w rids n c few =
    let e : removed_all Group (pass w).visits ≡ removed_all Group (c.on.visits ++ (pass v).visits) = ap (removed_all Group) (visits_after Group v w c.on) in
    let s = removed_append Group c.on.visits (pass v).visits in
    omega (arith, e, s, few, c.gone_is, c.on.sum)
