-- What a round of each collector reports is read from what its pass noted, and from the visits that it made.
use Rattle.std.proofs.Common.{◌≡◌, inl, inr, ℕ, zero, suc, ◌<◌, List, [], ◌∷◌, ◌++◌, length, take, drop, map, refl, sym, ap, ◌∙◌, subst, arith, append_assoc}
use Rattle.std.proofs.Common.{ltb}
use Rattle.std.proofs.lemmas.Bool.{lt-ltb}
use Rattle.std.proofs.lemmas.List.{take-append-drop}
use Rattle.std.specs.Prelude.{filter}
use Rattle.hg_base.specs.declared.report.Entry.{Entry}
use Rattle.hg_base.specs.declared.report.Kind.{Kind}
use Rattle.hg_base.specs.declared.report.Kind.TheVariants.{Group, Table, Interval}
use Rattle.hg_base.specs.declared.report.Report.{Report}
use Rattle.hg_base.specs.declared.report.Sweep.{Sweep}
use Rattle.hg_base.specs.declared.rid.Rid.{Rid}
use Rattle.hg_base.specs.History.{Group as Commits, History}
use Rattle.hg_base.specs.Lists.{Each}
use Rattle.hg_base.specs.Reports.{told_of, sweep_of}
use Rattle.hg_base.proofs.ListFacts.{each_append, each_keeps}
use Rattle.hg_core.specs.declared.journal.PassEntry.{PassEntry}
use Rattle.hg_core.specs.declared.journal.PassEntry.TheVariants.{Marked}
use Rattle.hg_core.specs.declared.loaded.Loaded.{Loaded}
use Rattle.hg_core.specs.declared.version.Version.{Version}
use Rattle.hg_core.specs.declared.visit.Visit.{Visit}
use Rattle.hg_core.specs.Contents.{bucket_of, look}
use Rattle.hg_core.specs.Clean.{IsClean, IsCutAt}
use Rattle.hg_core.specs.Counters.{removed_all}
use Rattle.hg_core.specs.Passes.{PassRecord, least_entering, horizon, recorded, group_bound, table_bound}
use Rattle.hg_headline.specs.OneRun.{Round, loaded_in, sampled_in, tries_in, taken_in, entries_in, is_old, round_report, TriesBy, record_in, GaveBack}
use Rattle.hg_rule.specs.declared.view.Part.{Part}
use Rattle.hg_rule.specs.declared.view.Part.TheVariants.{OfPass}
use Rattle.hg_rule.specs.declared.view.PassPart.{PassPart}
use Rattle.hg_rule.specs.declared.view.Event.{Event}
use Rattle.hg_rule.specs.declared.view.Sight.{Sight}
use Rattle.hg_rule.specs.declared.view.View.{View}
use Rattle.hg_rule.specs.declared.view.Sizes.{Sizes}
use Rattle.hg_rule.specs.Facts.{record_of}
use Rattle.hg_rule.specs.Keys.{one}
use Rattle.hg_rule.specs.Rounds.{entries_of, mark_in, loaded_after, round_told, gone_in}
use Rattle.hg_rule.specs.Views.{number, pass, pass_there, first_in, others, seeing}
use Rattle.hg_rule.proofs.Rounds.{told_is}
use Rattle.hg_tracker.specs.Begun.{notes_of, gathering, gathered_notes, HasGathered}
use Rattle.hg_tracker.specs.Tries.{is_long, try_notes, moved_by}
use Rattle.hg_rounds.specs.Cutting.{IsCutBy}
use Rattle.hg_rounds.specs.Helpers.{visited}
use Rattle.hg_rounds.specs.IntervalCollectors.{Sweeps}
use Rattle.hg_rounds.specs.Reports.{Reports}
use Rattle.hg_rounds.specs.Sweeping.{IsCleanBy}
use Rattle.hg_rounds.specs.TableCollectors.{Cuts}
use Rattle.hg_rounds.specs.Teams.{SweepsBeside}
use Rattle.hg_rounds.specs.Visits.{IsIn, closed_visit, GoesOn}
use Rattle.hg_rounds.specs.Word.{times}
use Rattle.hg_collectors.specs.GroupCollectors.{Collects}
use Rattle.hg_collectors.specs.Noted.{IsInside, SawCut, SawCleans, IsNoted}
use Rattle.hg_collectors.specs.Rounding.{IsRoundBy}
use Rattle.hg_collectors.specs.Taking.{took, noted, WasTaken}
use Rattle.hg_collectors.proofs.Notes.{notes_loaded, all_loaded, then_loaded, notes_inside, tries_inside, took_inside}
use Rattle.hg_collectors.proofs.Rounds.{own}
use Rattle.hg_collectors.proofs.Told.{same_entries, sampled_more, notes_sampled, tries_sampled, tries_more, notes_tries, took_tries, whose, number_of, tries_are, taken_more, notes_taken, took_each}
use Rattle.hg_collectors.proofs.Gave.{gave_map, All, each_gave, found_gave, among_gave}

-- ---- what a round loaded

module _ (p : PassRecord) (round : Round) (mark : p.mark ≡ round.mark) (loaded : p.loaded ≡ loaded_in [] round.notes) where
  -- the same of what both have
  abbrev Same : (PassRecord → Type 0) → ℕ × List (ℕ × Loaded) → Type 0
  Same P t = P (record { mark = t.0; round = 0; known = λ j. 0; loaded = t.1; journal = [] })

  cut_so : (r : Rid) (vs : List Version) → IsCutBy p r vs → IsCutAt (table_bound r.table (record_in round)) vs
  cut_so r vs c = subst (Same (λ q. IsCutBy q r vs)) (λ i. (mark i, loaded i)) c

  clean_so : (r : Rid) (vs : List Version) → IsCleanBy p r vs → IsClean (horizon (record_in round)) (recorded r.table (record_in round)) vs
  clean_so r vs c = subst (Same (λ q. IsCleanBy q r vs)) (λ i. (mark i, loaded i)) c

  group_so : group_bound p ≡ group_bound (record_in round)
  group_so = ap (λ (t : ℕ × List (ℕ × Loaded)). group_bound (record { mark = t.0; round = 0; known = λ j. 0; loaded = t.1; journal = [] })) (λ i. (mark i, loaded i))

-- ---- a group that was taken

take_long : (n : ℕ) (h later : History) (g : Commits) → drop n h ≡ g ∷ later → length (take n h) ≡ n
take_long zero h later g e = refl
take_long (suc n) [] later g e = absurd (let z : [] ≡ g ∷ later = e in cc)
take_long (suc n) (x ∷ h) later g e = ap suc (take_long n h later g e)

module _ (buckets p mark nth bound : ℕ) (sights : List Sight) (visits : List Visit) (steps : List Event) (round : Round) (same : bound ≡ group_bound (record_in round)) where
  saw_cut : (n : ℕ) → WasTaken buckets p mark nth bound sights visits steps n → SawCut buckets sights round visits n
  saw_cut n t = (
    t.history,
    (
      t.saw,
      record {
        before = take t.before t.history;
        group = t.group;
        later = t.stands.0;
        parts = sym (take-append-drop t.before t.history) ∙ ap (λ l. take t.before t.history ++ l) t.stands.1;
        number = t.taken_is ∙ ap suc (sym (take_long t.before t.history t.stands.0 t.group t.stands.1));
        cut = λ r some. let c = t.cut r some in
            among_gave (bucket_of buckets r) (λ given. IsCutAt (group_bound (record_in round)) (look r given)) (closed_visit Group mark nth (bucket_of buckets r) c.all c.given) c.given refl refl (subst (λ b. IsCutAt b (look r c.given)) same c.cut) visits c.visit;
      },
    ),
  )

-- ---- a round, whichever collector's

module _ (kind : Kind) (long buckets : ℕ) (v y w : View) (report : Report) (mark : ℕ) (loaded : List (ℕ × Loaded)) (notes ns : List PassEntry)
    (there : y.parts ≡ OfPass (number v) (gathering mark loaded notes v) ∷ others v) (on : GoesOn kind y w) (r : Reports kind v report w) where
  abbrev round : Round
  round = record { number = suc (pass v).round; mark = report.mark; notes = ns }

  now_is : pass w ≡ record (gathering mark loaded notes v) { visits = on.visits ++ (pass v).visits }
  now_is = own kind v y w report mark 0 loaded notes there on

  pub mark_is : mark ≡ report.mark
  mark_is = sym (ap (λ (p : PassPart). p.mark) now_is) ∙ (r.round.mark_is ∙ sym r.report_is.mark_is)

  pub is_noted : report.removed ≡ gone_in on.steps → Each IsInside ns → notes ≡ (pass v).journal ++ Marked mark ∷ ns → loaded_in [] ns ≡ loaded →
      TriesBy kind long round → SawCleans kind buckets w.sights round on.visits → IsNoted kind long buckets v (sweep_of report) w
  is_noted gone inside journal noted rule clean =
      let l : loaded_in [] ns ≡ loaded_after [] r.steps = noted ∙ sym (ap (λ (p : PassPart). p.loaded) now_is) ∙ r.round.loaded_is in
      let g : removed_all kind on.visits ≡ gone_in r.steps = sym on.sum ∙ sym gone ∙ r.report_is.removed_is in
      let m : report.mark ≡ mark_in r.steps = r.report_is.mark_is in
      let e : entries_in (loaded_in [] ns) ≡ entries_of (loaded_after [] r.steps) = same_entries (loaded_in [] ns) ∙ ap entries_of l in
      let same : round_report kind on.visits round ≡ round_told kind r.steps =
      (λ i. record { kind = kind; mark = m i; horizon = least_entering (m i) (l i); removed = g i; held = map told_of (e i) }) in
      record {
        round = round;
        number = refl;
        next = ap (λ (p : PassPart). p.round) now_is;
        inside = inside;
        journal = ap (λ (p : PassPart). p.journal) now_is ∙ (journal ∙ (λ i. (pass v).journal ++ Marked (mark_is i) ∷ ns));
        visits = on.visits;
        more = ap (λ (p : PassPart). p.visits) now_is;
        now = subst (λ n. Each (IsIn n) on.visits) (ap (λ ps. (pass_there (first_in ps)).round) there) on.now;
        report = same ∙ sym (told_is kind r.steps report r.report_is);
        rule = rule;
        clean = clean;
      }

-- ---- each collector's

pub group_noted : (z : Sizes) (long : ℕ) (v w : View) (report : Report) → Collects z v report w → IsNoted Group long z.buckets v (sweep_of report) w
group_noted z long v w report c =
    let x : View = c.gathered in
    let loaded : List (ℕ × Loaded) = (pass x).loaded in
    let taken : List ℕ = c.takes.some.taken in
    let j : List PassEntry = (pass v).journal in
    let mark : ℕ = (pass x).mark in
    let ns : List PassEntry = notes_of loaded ++ took taken in
    let there = ap (noting taken) c.gathers.parts in
    let round : Round = record { number = suc (pass v).round; mark = report.mark; notes = ns } in
    let is : mark ≡ report.mark = mark_is Group long z.buckets v (noted x taken) w report mark loaded (gathered_notes mark loaded v ++ took taken) ns there c.takes.some.on c.reports in
    let bound : group_bound (record_of (pass x)) ≡ group_bound (record_in round) = group_so (record_of (pass x)) round is (sym (then_loaded loaded taken)) in
    is_noted Group long z.buckets v (noted x taken) w report mark loaded (gathered_notes mark loaded v ++ took taken) ns there c.takes.some.on c.reports c.takes.some.gone_is
    (each_append IsInside (notes_of loaded) (took taken) (notes_inside loaded) (took_inside taken))
    (append_assoc (j ++ Marked mark ∷ []) (notes_of loaded) (took taken) ∙ append_assoc j (Marked mark ∷ []) ns) (then_loaded loaded taken)
    (tries_more (notes_of loaded) (took taken) ∙ (λ i. notes_tries loaded i ++ took_tries taken i))
    (subst (Each (SawCut z.buckets w.sights round c.takes.some.on.visits)) (sym (taken_more (notes_of loaded) (took taken) ∙ ap (λ l. l ++ taken_in (took taken)) (notes_taken loaded)))
    (took_each (SawCut z.buckets w.sights round c.takes.some.on.visits) taken
    (each_keeps _ _ (λ n t. saw_cut z.buckets (number x) (pass x).mark (pass x).round (group_bound (record_of (pass x))) w.sights c.takes.some.on.visits c.takes.some.on.steps round bound n t) taken
    c.takes.some.each)))
  where
    noting : List ℕ → List Part → List Part
    noting taken ps = let u = seeing ps [] [] in OfPass (number u) (record (pass u) { journal = (pass u).journal ++ took taken }) ∷ others u

pub table_noted : (z : Sizes) (long : ℕ) (v w : View) (report : Report) → Cuts z long v report w → IsNoted Table long z.buckets v (sweep_of report) w
table_noted z long v w report c =
    let gathered : List (ℕ × Loaded) = (pass c.gathered).loaded in
    let mark : ℕ = (pass c.gathered).mark in
    let es : List Entry = filter (is_long mark long) (entries_of gathered) in
    let moved : List (ℕ × Loaded) = moved_by es c.moves.outcomes gathered in
    let notes : List PassEntry = gathered_notes mark gathered v ++ try_notes es c.moves.outcomes in
    let ns : List PassEntry = notes_of gathered ++ try_notes es c.moves.outcomes in
    let there : c.moved.parts ≡ OfPass (number v) (gathering mark moved notes v) ∷ others v = c.moves.parts ∙ ap F c.gathers.parts in
    let same : (pass c.moved).loaded ≡ moved = ap (λ ps. (pass_there (first_in ps)).loaded) there in
    let marks : (pass c.moved).mark ≡ mark = ap (λ ps. (pass_there (first_in ps)).mark) there in
    let round : Round = record { number = suc (pass v).round; mark = report.mark; notes = ns } in
    let is : mark ≡ report.mark = mark_is Table long z.buckets v c.moved w report mark moved notes ns there c.visits.on c.reports in
    let sampled : sampled_in [] ns ≡ gathered = sampled_more [] (notes_of gathered) (try_notes es c.moves.outcomes) ∙
    (tries_sampled (sampled_in [] (notes_of gathered)) es c.moves.outcomes ∙ (notes_sampled gathered ∙ notes_loaded gathered)) in
    let tried : tries_in ns ≡ tries_in (try_notes es c.moves.outcomes) = tries_more (notes_of gathered) (try_notes es c.moves.outcomes) ∙
    ap (λ l. l ++ tries_in (try_notes es c.moves.outcomes)) (notes_tries gathered) in
    is_noted Table long z.buckets v c.moved w report mark moved notes ns there c.visits.on c.reports c.visits.gone_is
    (each_append IsInside (notes_of gathered) (try_notes es c.moves.outcomes) (notes_inside gathered) (tries_inside es c.moves.outcomes))
    (append_assoc ((pass v).journal ++ Marked mark ∷ []) (notes_of gathered) (try_notes es c.moves.outcomes) ∙ append_assoc (pass v).journal (Marked mark ∷ []) ns)
    (all_loaded gathered es c.moves.outcomes)
    (ap (map whose) tried ∙ (tries_are es c.moves.outcomes c.moves.each ∙
    (λ i. map number_of (filter (is_old (is i) long) ((sym (ap entries_in sampled ∙ same_entries gathered)) i)))))
    (λ b l. gave_map b (All (IsCutBy (record_of (pass c.moved)))) (λ given. (r : Rid) → IsCutAt (table_bound r.table (record_in round)) (look r given))
    (λ given all r. cut_so (record_of (pass c.moved)) round (marks ∙ is) (same ∙ sym (all_loaded gathered es c.moves.outcomes)) r (look r given) (all r)) c.visits.on.visits
    (each_gave Table (IsCutBy (record_of (pass c.moved))) (pass c.moved).mark (pass c.moved).round z.buckets b c.visits.on.visits c.visits.once l))
  where
    F : List Part → List Part
    F ps = let u = seeing ps [] [] in OfPass (number u) (record
        (pass u) {
          loaded = moved_by (filter (is_long (pass c.gathered).mark long) (entries_of (pass c.gathered).loaded)) c.moves.outcomes (pass u).loaded;
          journal = (pass u).journal ++ try_notes (filter (is_long (pass c.gathered).mark long) (entries_of (pass c.gathered).loaded)) c.moves.outcomes;
        }) ∷ others u

-- an interval collector's, by one collector or by a team
module _ (z : Sizes) (long : ℕ) (v x w : View) (report : Report) (g : HasGathered v z.sessions x) (on : GoesOn Interval x w) (r : Reports Interval v report w) (gone : report.removed ≡ gone_in on.steps)
    (gave : (b : ℕ) → b < z.buckets → GaveBack b (All (IsCleanBy (record_of (pass x)))) on.visits) where
  abbrev loaded : List (ℕ × Loaded)
  loaded = (pass x).loaded

  abbrev of_interval : Round
  of_interval = record { number = suc (pass v).round; mark = report.mark; notes = notes_of loaded }

  its_mark : (pass x).mark ≡ report.mark
  its_mark = mark_is Interval long z.buckets v x w report (pass x).mark loaded (gathered_notes (pass x).mark loaded v) (notes_of loaded) g.parts on r

  swept_noted : IsNoted Interval long z.buckets v (sweep_of report) w
  swept_noted = is_noted Interval long z.buckets v x w report (pass x).mark loaded (gathered_notes (pass x).mark loaded v) (notes_of loaded) g.parts on r gone (notes_inside loaded)
      (append_assoc (pass v).journal (Marked (pass x).mark ∷ []) (notes_of loaded)) (notes_loaded loaded) (notes_tries loaded)
      (λ b l. gave_map b (All (IsCleanBy (record_of (pass x)))) (λ given. (r : Rid) → IsClean (horizon (record_in of_interval)) (recorded r.table (record_in of_interval)) (look r given))
      (λ given all r. clean_so (record_of (pass x)) of_interval its_mark (sym (notes_loaded loaded)) r (look r given) (all r)) on.visits (gave b l))

pub interval_noted : (z : Sizes) (long : ℕ) (v w : View) (report : Report) → Sweeps z v report w → IsNoted Interval long z.buckets v (sweep_of report) w
interval_noted z long v w report c = swept_noted z long v c.gathered w report c.gathers c.visits.on c.reports c.visits.gone_is
    (λ b l. each_gave Interval (IsCleanBy (record_of (pass c.gathered))) (pass c.gathered).mark (pass c.gathered).round z.buckets b c.visits.on.visits c.visits.once l)

pub team_noted : (z : Sizes) (long : ℕ) (v w : View) (report : Report) → SweepsBeside z v report w → IsNoted Interval long z.buckets v (sweep_of report) w
team_noted z long v w report c = swept_noted z long v c.gathered w report c.gathers c.on c.reports c.gone_is
    (λ b l. found_gave (IsCleanBy (record_of (pass c.gathered))) (pass c.gathered).mark (pass c.gathered).round z.buckets b c.on.visits c.visit_once.each
    (let a : ℕ = times b (visited c.on.visits) in let d : ℕ = one (ltb b z.buckets) in let e : a ≡ d = c.visit_once.once b in let t : d ≡ 1 = ap one (lt-ltb b z.buckets l) in omega arith))

pub round_noted : (kind : Kind) (z : Sizes) (long : ℕ) (v w : View) (sweep : Sweep) → IsRoundBy kind z long v sweep w → IsNoted kind long z.buckets v sweep w
round_noted Group z long v w sweep (report, (collects, is)) = subst (λ s. IsNoted Group long z.buckets v s w) (sym is) (group_noted z long v w report collects)
round_noted Table z long v w sweep (report, (cuts, is)) = subst (λ s. IsNoted Table long z.buckets v s w) (sym is) (table_noted z long v w report cuts)
round_noted Interval z long v w sweep (report, (inl sweeps, is)) = subst (λ s. IsNoted Interval long z.buckets v s w) (sym is) (interval_noted z long v w report sweeps)
round_noted Interval z long v w sweep (report, (inr sweeps, is)) = subst (λ s. IsNoted Interval long z.buckets v s w) (sym is) (team_noted z long v w report sweeps)
