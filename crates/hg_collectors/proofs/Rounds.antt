-- Each collector's own round is one as the driver knows it.
use Rattle.std.proofs.Common.{◌≡◌, ℕ, ◌+◌, List, [], ◌∷◌, ◌++◌, map, sym, ap, ◌∙◌, subst, arith, append_assoc}
use Rattle.std.specs.Prelude.{if◌then◌else◌, filter}
use Rattle.hg_base.specs.declared.report.Kind.{Kind}
use Rattle.hg_base.specs.declared.report.Kind.TheVariants.{Group, Table, Interval}
use Rattle.hg_base.specs.declared.report.Report.{Report}
use Rattle.hg_base.specs.Lists.{Each}
use Rattle.hg_base.specs.Reports.{sweep_of}
use Rattle.hg_base.specs.Shape.{same_kind}
use Rattle.hg_core.specs.declared.loaded.Loaded.{Loaded}
use Rattle.hg_base.specs.declared.report.Entry.{Entry}
use Rattle.hg_core.specs.declared.journal.PassEntry.{PassEntry}
use Rattle.hg_rule.specs.declared.view.Part.{Part}
use Rattle.hg_rule.specs.declared.view.Part.TheVariants.{OfPass}
use Rattle.hg_rule.specs.declared.view.PassPart.{PassPart}
use Rattle.hg_rule.specs.declared.view.Sight.{Sight}
use Rattle.hg_rule.specs.declared.view.Sight.TheVariants.{Saw}
use Rattle.hg_rule.specs.declared.view.View.{View}
use Rattle.hg_rule.specs.declared.view.Sizes.{Sizes}
use Rattle.hg_rule.specs.Facts.{StartsWith, IsAmong, groups}
use Rattle.hg_rule.specs.Rounds.{entries_of, gone_in}
use Rattle.hg_rule.specs.Views.{number, pass, pass_there, first_in, others, seeing}
use Rattle.hg_rule.proofs.Rounds.{told_is}
use Rattle.hg_rule.proofs.Lists.{among_left}
use Rattle.hg_tracker.specs.Begun.{HasGathered, SawGroups, gathering, gathered_notes}
use Rattle.hg_tracker.specs.Gathers.{IsFull, IsLoaded}
use Rattle.hg_tracker.specs.Tries.{is_long, try_notes, moved_by}
use Rattle.hg_rounds.specs.Visits.{GoesOn}
use Rattle.hg_rounds.specs.Reports.{Reports}
use Rattle.hg_rounds.proofs.Going.{removed_append, removed_for}
use Rattle.hg_rounds.specs.TableCollectors.{Cuts}
use Rattle.hg_rounds.specs.IntervalCollectors.{Sweeps}
use Rattle.hg_rounds.specs.Teams.{SweepsBeside}
use Rattle.hg_collectors.specs.GroupCollectors.{Collects}
use Rattle.hg_collectors.specs.Taking.{took, noted}
use Rattle.hg_core.specs.Counters.{removed_all}
use Rattle.hg_collectors.specs.Swept.{HasSwept, swept_by}

-- ---- visits

pub saw_more : (n : ℕ) (xs ys : List Sight) → StartsWith ys xs → SawGroups n xs → SawGroups n ys
saw_more n xs ys kept s = (s.0, s.1, subst (IsAmong (Saw (groups s.0))) (sym kept.1) (among_left (Saw (groups s.0)) xs kept.0 s.2))

pub starts_more : {A : Type 0} (xs ys zs : List A) → StartsWith ys xs → StartsWith zs ys → StartsWith zs xs
starts_more xs ys zs a b = (a.0 ++ b.0, b.1 ∙ (ap (λ l. l ++ b.0) a.1 ∙ append_assoc xs a.0 b.0))

-- ---- a round, whichever collector's

-- The pass gathered, maybe moved, and then visited.
module _ (kind : Kind) (v y w : View) (report : Report) (mark sessions : ℕ) (loaded : List (ℕ × Loaded)) (notes : List PassEntry)
    (there : y.parts ≡ OfPass (number v) (gathering mark loaded notes v) ∷ others v) (on : GoesOn kind y w) where
  abbrev pub part : PassPart
  part = record (gathering mark loaded notes v) { visits = on.visits ++ (pass v).visits }

  parts : w.parts ≡ OfPass (number v) part ∷ others v
  parts = on.parts ∙ ap F there
    where
      F : List Part → List Part
      F ps = let u = seeing ps [] [] in OfPass (number u) (record (pass u) { visits = on.visits ++ (pass u).visits }) ∷ others u

  pub own : pass w ≡ part
  own = ap (λ ps. pass_there (first_in ps)) parts

  pub swept : Reports kind v report w → report.removed ≡ gone_in on.steps → IsLoaded sessions loaded → SawGroups mark y.sights → StartsWith y.sights v.sights →
      HasSwept kind sessions v (sweep_of report) w
  swept r gone is saw kept =
      let same : mark ≡ report.mark = sym (ap (λ (p : PassPart). p.mark) own) ∙ (r.round.mark_is ∙ sym r.report_is.mark_is) in
      let held : (pass w).loaded ≡ loaded = ap (λ (p : PassPart). p.loaded) own in
      record {
        steps = r.steps;
        events = r.events;
        round = r.round;
        told = told_is kind r.steps report r.report_is;
        parts = parts ∙ ap (λ (p : PassPart). OfPass (number v) p ∷ others v) (sym own);
        share = ap (λ (p : PassPart). p.share) own;
        seen = ap (λ (p : PassPart). p.seen) own;
        keys = ap (map (λ (e : ℕ × Loaded). e.0)) held ∙ is.0;
        registers = subst (Each (λ (e : ℕ × Loaded). IsFull e.1)) (sym held) is.1;
        most = r.most;
        saw = saw_more report.mark y.sights w.sights on.kept (subst (λ n. SawGroups n y.sights) same saw);
        kept = starts_more v.sights y.sights w.sights kept on.kept;
        removed = λ k.
            let all : removed_all k (pass w).visits ≡ removed_all k on.visits + removed_all k (pass v).visits = ap (λ (p : PassPart). removed_all k p.visits) own ∙
            removed_append k on.visits (pass v).visits in
            let new : removed_all k on.visits ≡ swept_by k (sweep_of report) = removed_for kind k on.visits on.only ∙
            (ap (λ n. if same_kind kind k then n else 0) (sym on.sum ∙ sym gone) ∙ ap (λ c. if same_kind c k then report.removed else 0) (sym r.report_is.kind_is)) in
            omega (arith, all, new);
      }

-- it gathered, and moved nothing
gathered_swept : (kind : Kind) (v x w : View) (report : Report) (sessions : ℕ) → HasGathered v sessions x → (on : GoesOn kind x w) → Reports kind v report w →
    report.removed ≡ gone_in on.steps → HasSwept kind sessions v (sweep_of report) w
gathered_swept kind v x w report sessions g on r gone = swept kind v x w report (pass x).mark sessions (pass x).loaded (gathered_notes (pass x).mark (pass x).loaded v) g.parts on r gone (g.keys, g.registers) g.saw g.kept

-- ---- each collector's

pub group_swept : (z : Sizes) (v w : View) (report : Report) → Collects z v report w → HasSwept Group z.sessions v (sweep_of report) w
group_swept z v w report c =
    let x : View = c.gathered in
    let loaded : List (ℕ × Loaded) = (pass x).loaded in
    let taken : List ℕ = c.takes.some.taken in
    let mark : ℕ = (pass x).mark in
    swept Group v (noted x taken) w report mark z.sessions loaded (gathered_notes mark loaded v ++ took taken) (ap (F taken) c.gathers.parts) c.takes.some.on c.reports c.takes.some.gone_is
    (c.gathers.keys, c.gathers.registers) c.gathers.saw c.gathers.kept
  where
    F : List ℕ → List Part → List Part
    F taken ps = let u = seeing ps [] [] in OfPass (number u) (record (pass u) { journal = (pass u).journal ++ took taken }) ∷ others u

pub table_swept : (z : Sizes) (long : ℕ) (v w : View) (report : Report) → Cuts z long v report w → HasSwept Table z.sessions v (sweep_of report) w
table_swept z long v w report c =
    let gathered : List (ℕ × Loaded) = (pass c.gathered).loaded in
    let moved : List (ℕ × Loaded) = moved_by (filter (is_long (pass c.gathered).mark long) (entries_of gathered)) c.moves.outcomes gathered in
    let es : List Entry = filter (is_long (pass c.gathered).mark long) (entries_of gathered) in
    let notes : List PassEntry = gathered_notes (pass c.gathered).mark gathered v ++ try_notes es c.moves.outcomes in
    let there : c.moved.parts ≡ OfPass (number v) (gathering (pass c.gathered).mark moved notes v) ∷ others v = c.moves.parts ∙ ap F c.gathers.parts in
    let same : (pass c.moved).loaded ≡ moved = ap (λ ps. (pass_there (first_in ps)).loaded) there in
    swept Table v c.moved w report (pass c.gathered).mark z.sessions moved notes there c.visits.on c.reports c.visits.gone_is (subst (IsLoaded z.sessions) same c.loaded)
    (subst (SawGroups (pass c.gathered).mark) (sym c.moves.sights) c.gathers.saw) (subst (λ xs. StartsWith xs v.sights) (sym c.moves.sights) c.gathers.kept)
  where
    F : List Part → List Part
    F ps = let u = seeing ps [] [] in OfPass (number u) (record
        (pass u) {
          loaded = moved_by (filter (is_long (pass c.gathered).mark long) (entries_of (pass c.gathered).loaded)) c.moves.outcomes (pass u).loaded;
          journal = (pass u).journal ++ try_notes (filter (is_long (pass c.gathered).mark long) (entries_of (pass c.gathered).loaded)) c.moves.outcomes;
        }) ∷ others u

pub interval_swept : (z : Sizes) (v w : View) (report : Report) → Sweeps z v report w → HasSwept Interval z.sessions v (sweep_of report) w
interval_swept z v w report c = gathered_swept Interval v c.gathered w report z.sessions c.gathers c.visits.on c.reports c.visits.gone_is

pub team_swept : (z : Sizes) (v w : View) (report : Report) → SweepsBeside z v report w → HasSwept Interval z.sessions v (sweep_of report) w
team_swept z v w report c = gathered_swept Interval v c.gathered w report z.sessions c.gathers c.on c.reports c.gone_is
