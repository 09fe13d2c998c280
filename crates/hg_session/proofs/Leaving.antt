-- A round of the table collector leaves each bucket cut at the mark, where all sessions rest.
use Rattle.std.proofs.Common.{◌≡◌, ◌⊎◌, inl, inr, ℕ, zero, suc, ◌+◌, ◌<◌, ◌≤◌, Bool, true, false, List, [], ◌∷◌, ◌++◌, length, refl, sym, ap, ◌∙◌, subst, arith}
use Rattle.std.proofs.Common.{eqb, ne_eqb}
use Rattle.std.specs.Prelude.{max, map, filter}
use Rattle.hg_base.specs.declared.rid.Rid.{Rid}
use Rattle.hg_base.specs.declared.report.Entry.{Entry}
use Rattle.hg_base.specs.declared.report.Report.{Report}
use Rattle.hg_base.specs.declared.report.Kind.TheVariants.{Table}
use Rattle.hg_core.specs.declared.loaded.Loaded.{Loaded}
use Rattle.hg_core.specs.declared.log.LogEntry.{LogEntry}
use Rattle.hg_core.specs.declared.version.Version.{Version}
use Rattle.hg_core.specs.declared.visit.Visit.{Visit}
use Rattle.hg_core.specs.Events.{moved_in}
use Rattle.hg_core.specs.Clean.{IsCutAt}
use Rattle.hg_core.specs.Contents.{look}
use Rattle.hg_core.specs.Logs.{newest_of, UpTo}
use Rattle.hg_core.specs.Passes.{table_bound}
use Rattle.hg_core.specs.Phases.{IsSession}
use Rattle.hg_core.proofs.Settling.{idle_table}
use Rattle.hg_rule.specs.declared.view.PassPart.{PassPart}
use Rattle.hg_rule.specs.declared.view.Part.TheVariants.{OfPass}
use Rattle.hg_rule.specs.declared.view.Sight.{Sight}
use Rattle.hg_rule.specs.declared.view.Sight.TheVariants.{Heard}
use Rattle.hg_rule.specs.declared.view.View.{View}
use Rattle.hg_rule.specs.declared.view.Sizes.{Sizes}
use Rattle.hg_rule.specs.Keys.{session_key, pass_key, has, count, shares}
use Rattle.hg_rule.specs.Facts.{StartsWith, IsAmong, heard, record_of, IsHeard}
use Rattle.hg_rule.specs.Reading.{chosen, seek, passes_in}
use Rattle.hg_rule.specs.Views.{number, pass, others, part_number, session_there, pass_there, first_in, after_first, HasPass}
use Rattle.hg_rule.proofs.Counts.{key_self}
use Rattle.hg_rule.proofs.Lists.{starts_on}
use Rattle.hg_rule.specs.Rules.{IsBacked}
use Rattle.hg_rule.specs.Rounds.{entries_of}
use Rattle.hg_tracker.specs.Begun.{gathering, gathered_notes}
use Rattle.hg_tracker.specs.Entries.{down_from}
use Rattle.hg_tracker.specs.Tries.{is_long, try_notes, moved_by}
use Rattle.hg_tracker.proofs.Entries.{keys_moved}
use Rattle.hg_rounds.specs.Visits.{OneEach, IsVisitOf}
use Rattle.hg_rounds.specs.Cutting.{IsCutBy}
use Rattle.hg_rounds.specs.TableCollectors.{Cuts}
use Rattle.hg_headline.specs.Totalled.{LeavesCut, HasCut, WasLeftCut}
use Rattle.hg_session.specs.Ended.{logs_in, visits_in, IsEnded}
use Rattle.hg_session.specs.Settled.{HasHeardAll, KeepsOthers, RemovesForTables}
use Rattle.hg_session.proofs.Quiet.{heard_whole, up_to_whole, found_idle, mark_newest}

-- ---- the pass's own part has changed, and no other

module _ (v w : View) (r : PassPart) (own : HasPass v) (now : w.parts ≡ OfPass (number v) r ∷ others v) where
  pub logs_own : logs_in w ≡ logs_in v
  logs_own = (λ i j. (session_there (seek (session_key j) (now i))).log) ∙ sym (λ i j. (session_there (seek (session_key j) (own i))).log)

  pub passes_own : passes_in w.parts ≡ passes_in v.parts
  passes_own = ap passes_in now ∙ sym (ap passes_in own)

  pub ended_own : (z : Sizes) → r.share ≡ (pass v).share → IsEnded z v → IsEnded z w
  ended_own z same e = record {
    sessions = λ j is. subst (λ ps. 0 < count (session_key j) ps) (sym now) (subst (λ ps. 0 < count (session_key j) ps) own (e.sessions j is));
    passes = ap shares now ∙ ap (λ n. n + shares (others v)) same ∙ sym (ap shares own) ∙ e.passes;
    rest = λ j. ap (λ ps. (session_there (seek (session_key j) ps)).phase) now ∙ sym (ap (λ ps. (session_there (seek (session_key j) ps)).phase) own) ∙ e.rest j;
  }

  -- the visits of each pass
  pub visits_own : (P : List Visit → List Visit → Type 0) → P (pass v).visits r.visits → ((vs : List Visit) → P vs vs) → (p : ℕ) → P (visits_in v p) (visits_in w p)
  visits_own P changed other p =
      subst (λ ps. P (pass_there (seek (pass_key p) ps)).visits (visits_in w p)) (sym own)
      (subst (λ ps. P (pass_there (seek (pass_key p) (OfPass (number v) (pass v) ∷ others v))).visits (pass_there (seek (pass_key p) ps)).visits) (sym now)
      (go (has (pass_key p) (OfPass (number v) r))))
    where
      go : (t : Bool) → P (pass_there (chosen t (OfPass (number v) (pass v)) (seek (pass_key p) (others v)))).visits (pass_there (chosen t (OfPass (number v) r) (seek (pass_key p) (others v)))).visits
      go true = changed
      go false = other _

  pub others_own : KeepsOthers v w
  others_own = record {
    number_is = ap part_number now;
    own_visits = ap (λ (t : PassPart). t.visits) here;
    own_journal = ap (λ (t : PassPart). t.journal) here;
    visits = λ p other. ap (λ part. (pass_there part).visits) (there p other);
    journals = λ p other. ap (λ part. (pass_there part).journal) (there p other);
  }
    where
      here : pass_there (seek (pass_key (number v)) w.parts) ≡ pass w
      here = ap (λ ps. pass_there (seek (pass_key (number v)) ps)) now
          ∙ (ap (λ b. pass_there (chosen b (OfPass (number v) r) (seek (pass_key (number v)) (others v)))) (key_self (pass_key (number v)))
          ∙ sym (ap (λ ps. pass_there (first_in ps)) now))

      there : (p : ℕ) → (p ≡ number v → ⊥) → seek (pass_key p) w.parts ≡ seek (pass_key p) v.parts
      there p other =
          let away : eqb (number v) p ≡ false = ne_eqb (number v) p (λ e. other (sym e)) in
          ap (seek (pass_key p)) now ∙ (ap (λ b. chosen b (OfPass (number v) r) (seek (pass_key p) (others v))) away
          ∙ sym (ap (seek (pass_key p)) own ∙ ap (λ b. chosen b (OfPass (number v) (pass v)) (seek (pass_key p) (others v))) away))

  pub left_own : (buckets mark b : ℕ) → HasCut buckets mark b r.visits → WasLeftCut buckets mark (passes_in w.parts) (visits_in w) b
  left_own buckets mark b cut = (
    number v,
    (
      subst (λ ps. number v < passes_in ps) (sym now) (below (passes_in (others v))),
      subst (λ ps. HasCut buckets mark b (pass_there (seek (pass_key (number v)) ps)).visits) (sym now)
          (subst (λ t. HasCut buckets mark b (pass_there (chosen t (OfPass (number v) r) (seek (pass_key (number v)) (others v)))).visits) (sym (key_self (pass_key (number v)))) cut),
    ),
  )
    where
      below : (m : ℕ) → number v < max (suc (number v)) m
      below m = let n : ℕ = number v in let l : n < max (suc n) m = omega arith in l

-- ---- one visit of each bucket

last_or_before : (b n : ℕ) → b < suc n → (b ≡ n) ⊎ (b < n)
last_or_before zero zero l = inl refl
last_or_before zero (suc n) l = inr (omega arith)
last_or_before (suc b) zero l = absurd (omega arith)
last_or_before (suc b) (suc n) l = more (last_or_before b n (omega arith))
  where
    more : (b ≡ n) ⊎ (b < n) → (suc b ≡ suc n) ⊎ (suc b < suc n)
    more (inl e) = inl (ap suc e)
    more (inr l) = inr (omega arith)

one_has : (buckets mark : ℕ) (P : ℕ → Visit → Type 0) → ((b : ℕ) (visit : Visit) → P b visit → LeavesCut buckets mark b visit) → (n : ℕ) (vs more : List Visit) → OneEach P n vs →
    (b : ℕ) → b < n → HasCut buckets mark b (vs ++ more)
one_has buckets mark P leaves zero vs more once b l = absurd (omega arith)
one_has buckets mark P leaves (suc n) [] more once b l = absurd once
one_has buckets mark P leaves (suc n) (visit ∷ vs) more once b l = by_number (last_or_before b n l) (one_has buckets mark P leaves n vs more once.1 b)
  where
    by_number : (b ≡ n) ⊎ (b < n) → (b < n → HasCut buckets mark b (vs ++ more)) → HasCut buckets mark b ((visit ∷ vs) ++ more)
    by_number (inl e) before = inl (leaves b visit (subst (λ k. P k visit) (sym e) once.0))
    by_number (inr less) before = inr (before less)

nothing_removed : (vs : List Visit) → RemovesForTables vs vs
nothing_removed vs = record { group = refl; table = omega arith; interval = refl }

removes : (Q : Rid → List Version → Type 0) (mark round n : ℕ) (vs more : List Visit) → OneEach (IsVisitOf Table Q mark round) n vs → RemovesForTables more (vs ++ more)
removes Q mark round zero [] more once = nothing_removed more
removes Q mark round zero (visit ∷ vs) more once = absurd once
removes Q mark round (suc n) [] more once = absurd once
removes Q mark round (suc n) (visit ∷ vs) more once =
    let k = removes Q mark round n vs more once.1 in
    let group : visit.removed.group ≡ 0 = ap (λ (x : Visit). x.removed.group) once.0.is in
    let interval : visit.removed.interval ≡ 0 = ap (λ (x : Visit). x.removed.interval) once.0.is in
    record { group = omega (arith, group, k.group); table = omega (arith, k.table); interval = omega (arith, interval, k.interval) }

-- ---- a round of the table collector, at whose end a state backs the view

keys_tried : (es : List Entry) (outcomes : List Bool) (loaded : List (ℕ × Loaded)) → map (λ e. e.0) (moved_by es outcomes loaded) ≡ map (λ e. e.0) loaded
keys_tried [] outcomes loaded = refl
keys_tried (e ∷ es) [] loaded = refl
keys_tried (e ∷ es) (true ∷ outcomes) loaded = keys_tried es outcomes (moved_in e.session loaded) ∙ keys_moved e.session loaded
keys_tried (e ∷ es) (false ∷ outcomes) loaded = keys_tried es outcomes loaded

among_before : (x : Sight) (xs more : List Sight) → IsAmong x xs → IsAmong x (xs ++ more)
among_before x [] more a = absurd a
among_before x (y ∷ xs) more (inl e) = inl e
among_before x (y ∷ xs) more (inr a) = inr (among_before x xs more a)

module _ (z : Sizes) (v w : View) (long : ℕ) (report : Report) (own : HasPass v) (c : Cuts z long v report w) where
  abbrev outcomes : List Bool
  outcomes = c.moves.outcomes

  abbrev tried : List Entry
  tried = filter (is_long (pass c.gathered).mark long) (entries_of (pass c.gathered).loaded)

  abbrev moved : PassPart
  moved = gathering (pass c.gathered).mark (moved_by tried outcomes (pass c.gathered).loaded)
      (gathered_notes (pass c.gathered).mark (pass c.gathered).loaded v ++ try_notes tried outcomes) v

  abbrev after : PassPart
  after = record moved { visits = c.visits.on.visits ++ (pass v).visits }

  parts_moved : c.moved.parts ≡ OfPass (number v) moved ∷ others v
  parts_moved = c.moves.parts ∙ (λ i. OfPass (part_number (c.gathers.parts i))
      (record (pass_there (first_in (c.gathers.parts i))) {
        loaded = moved_by tried outcomes (pass_there (first_in (c.gathers.parts i))).loaded;
        journal = (pass_there (first_in (c.gathers.parts i))).journal ++ try_notes tried outcomes;
      }) ∷ after_first (c.gathers.parts i))

  parts_after : w.parts ≡ OfPass (number v) after ∷ others v
  parts_after = c.visits.on.parts ∙ (λ i. OfPass (part_number (parts_moved i))
      (record (pass_there (first_in (parts_moved i))) { visits = c.visits.on.visits ++ (pass_there (first_in (parts_moved i))).visits }) ∷ after_first (parts_moved i))

  pub others_after : KeepsOthers v w
  others_after = others_own v w after own parts_after

  pub logs_after : logs_in w ≡ logs_in v
  logs_after = logs_own v w after own parts_after

  pub passes_after : passes_in w.parts ≡ passes_in v.parts
  passes_after = passes_own v w after own parts_after

  pub ended_after : IsEnded z v → IsEnded z w
  ended_after e = ended_own v w after own parts_after z refl e

  -- what was heard is heard still
  pub heard_after : HasHeardAll z v → HasHeardAll z w
  heard_after whole j is = subst (λ (l : ℕ → List _). IsHeard j (l j) w.sights) (sym logs_after) (later (whole j is))
    where
      kept : StartsWith w.sights v.sights
      kept = starts_on w.sights c.gathered.sights v.sights c.gathers.kept (subst (StartsWith w.sights) c.moves.sights c.visits.on.kept)

      later : IsHeard j (logs_in v j) v.sights → IsHeard j (logs_in v j) w.sights
      later (inl e) = inl e
      later (inr a) = inr (subst (λ xs. IsAmong (Heard j (logs_in v j)) xs) (sym kept.1) (among_before (Heard j (logs_in v j)) v.sights kept.0 a))

  pub removed_after : (p : ℕ) → RemovesForTables (visits_in v p) (visits_in w p)
  removed_after p = visits_own v w after own parts_after RemovesForTables (removes (IsCutBy (record_of (pass c.moved))) (pass c.moved).mark (pass c.moved).round z.buckets c.visits.on.visits
      (pass v).visits c.visits.once) (λ vs. nothing_removed vs) p

  module _ (mark : ℕ) (backed : IsBacked z mark w) (ended : IsEnded z v) (whole : HasHeardAll z v) where
    abbrev newest : ℕ
    newest = newest_of z.sessions (logs_in v)

    keys : map (λ e. e.0) after.loaded ≡ down_from z.sessions
    keys = keys_tried tried outcomes (pass c.gathered).loaded ∙ c.gathers.keys

    known : (j : ℕ) → IsSession z.sessions j → length (logs_in w j) ≤ heard j after.seen
    known j is = subst (λ (l : ℕ → List LogEntry). length (l j) ≤ heard j v.sights) (sym logs_after) (heard_whole j (logs_in v j) v.sights (whole j is))

    most : (j : ℕ) → IsSession z.sessions j → UpTo after.mark (logs_in w j)
    most j is = subst (λ (l : ℕ → List LogEntry). UpTo after.mark (l j)) (sym logs_after) (up_to_whole after.mark j (logs_in v j) v.sights c.gathers.most (whole j is))

    mark_is : after.mark ≡ newest
    mark_is = mark_newest z mark w backed (ended_after ended) (number v) after (others v) parts_after most ∙ ap (newest_of z.sessions) logs_after

    bound_is : (r : Rid) → table_bound r.table (record_of (pass c.moved)) ≡ newest
    bound_is r = ap (λ ps. table_bound r.table (record_of (pass_there (first_in ps)))) parts_moved
        ∙ idle_table (record_of after) r.table (found_idle z mark w backed (ended_after ended) (number v) after (others v) parts_after keys known) ∙ mark_is

    leaves : (b : ℕ) (visit : Visit) → IsVisitOf Table (IsCutBy (record_of (pass c.moved))) (pass c.moved).mark (pass c.moved).round b visit → LeavesCut z.buckets newest b visit
    leaves b visit i = record {
      bucket = ap (λ (x : Visit). x.bucket) i.is;
      mark_is = ap (λ (x : Visit). x.mark) i.is ∙ (ap (λ ps. (pass_there (first_in ps)).mark) parts_moved ∙ mark_is);
      given = i.given;
      gives = ap (λ (x : Visit). x.given) i.is;
      cut = λ r at. subst (λ m. IsCutAt m (look r i.given)) (bound_is r) (i.left r);
    }

    pub left_after : (b : ℕ) → b < z.buckets → WasLeftCut z.buckets newest (passes_in w.parts) (visits_in w) b
    left_after b l = left_own v w after own parts_after z.buckets newest b
        (one_has z.buckets newest (IsVisitOf Table (IsCutBy (record_of (pass c.moved))) (pass c.moved).mark (pass c.moved).round) leaves z.buckets c.visits.on.visits (pass v).visits c.visits.once b l)
