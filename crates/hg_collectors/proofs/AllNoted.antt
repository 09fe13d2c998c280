-- Rounds one after the other: each report is read from the notes of its own round, and from the visits that have its number.
use Rattle.std.proofs.Common.{◌≡◌, ℕ, suc, ◌+◌, ◌<◌, ◌==◌, Bool, true, false, if◌then◌else◌, List, [], ◌∷◌, ◌++◌, length, map, refl, sym, ap, ◌∙◌, subst, arith, append_assoc, append-nil}
use Rattle.std.proofs.lemmas.Bool.Decides.{nat_tests}
use Rattle.std.proofs.lemmas.List.Elements.{filter-append}
use Rattle.hg_base.specs.declared.report.Kind.{Kind}
use Rattle.hg_base.specs.declared.report.Kind.TheVariants.{Group, Table, Interval}
use Rattle.hg_base.specs.declared.report.Sweep.{Sweep}
use Rattle.hg_base.specs.Lists.{Each}
use Rattle.hg_base.proofs.ListFacts.{each_append, each_keeps}
use Rattle.hg_core.specs.declared.journal.PassEntry.{PassEntry}
use Rattle.hg_core.specs.declared.journal.PassEntry.TheVariants.{Marked, Sampled, Masked, Tried, Took}
use Rattle.hg_core.specs.declared.visit.Visit.{Visit}
use Rattle.hg_headline.specs.OneRun.{Round, up_to_mark, rounds_after, taken_in, visits_of, round_report, TriesBy}
use Rattle.hg_rule.specs.declared.view.Sizes.{Sizes}
use Rattle.hg_rule.specs.declared.view.Part.{Part}
use Rattle.hg_rule.specs.declared.view.PassPart.{PassPart}
use Rattle.hg_rule.specs.declared.view.Sight.{Sight}
use Rattle.hg_rule.specs.declared.view.View.{View}
use Rattle.hg_rule.specs.Facts.{IsAmong, StartsWith}
use Rattle.hg_rule.specs.Views.{pass, pass_there, first_in}
use Rattle.hg_rule.proofs.Lists.{among_left, starts_on}
use Rattle.hg_collectors.specs.Noted.{IsInside, SawCut, SawCleans, IsNoted, AreNoted}
use Rattle.hg_collectors.specs.Rounding.{IsRoundBy, AreRounds}
use Rattle.hg_collectors.proofs.Driving.{swept_of}
use Rattle.hg_collectors.proofs.OneNoted.{round_noted}

-- ---- notes

inside_ends : (notes more : List PassEntry) → Each IsInside notes → up_to_mark more ≡ [] → up_to_mark (notes ++ more) ≡ notes
inside_ends [] more h e = e
inside_ends (Marked mark ∷ notes) more h e = absurd h.0
inside_ends (Sampled j register ∷ notes) more h e = ap (λ l. Sampled j register ∷ l) (inside_ends notes more h.1 e)
inside_ends (Masked j mask ∷ notes) more h e = ap (λ l. Masked j mask ∷ l) (inside_ends notes more h.1 e)
inside_ends (Tried j number moved ∷ notes) more h e = ap (λ l. Tried j number moved ∷ l) (inside_ends notes more h.1 e)
inside_ends (Took group ∷ notes) more h e = ap (λ l. Took group ∷ l) (inside_ends notes more h.1 e)

inside_none : (n : ℕ) (notes more : List PassEntry) → Each IsInside notes → rounds_after n (notes ++ more) ≡ rounds_after n more
inside_none n [] more h = refl
inside_none n (Marked mark ∷ notes) more h = absurd h.0
inside_none n (Sampled j register ∷ notes) more h = inside_none n notes more h.1
inside_none n (Masked j mask ∷ notes) more h = inside_none n notes more h.1
inside_none n (Tried j number moved ∷ notes) more h = inside_none n notes more h.1
inside_none n (Took group ∷ notes) more h = inside_none n notes more h.1

numbers_over : (n : ℕ) (notes : List PassEntry) → Each (λ (r : Round). n < r.number) (rounds_after n notes)
numbers_over n [] = tt
numbers_over n (Marked mark ∷ notes) = (omega arith, each_keeps (λ (r : Round). suc n < r.number) (λ (r : Round). n < r.number) (λ r l. omega (arith, l)) (rounds_after (suc n) notes) (numbers_over (suc n) notes))
numbers_over n (Sampled j register ∷ notes) = numbers_over n notes
numbers_over n (Masked j mask ∷ notes) = numbers_over n notes
numbers_over n (Tried j number moved ∷ notes) = numbers_over n notes
numbers_over n (Took group ∷ notes) = numbers_over n notes

-- ---- visits

abbrev pick : Bool → Visit → List Visit → List Visit
pick b x xs = if b then x ∷ xs else xs

pub of_none : (round : Round) (visits : List Visit) → Each (λ (x : Visit). x.round ≡ round.number → ⊥) visits → visits_of round visits ≡ []
of_none round [] h = refl
of_none round (x ∷ visits) h = let e : (x.round == round.number) ≡ false = (let away = h.0 in grind (arith, nat_tests, away)) in
    ap (λ b. pick b x (visits_of round visits)) e ∙ of_none round visits h.1

of_all : (round : Round) (visits : List Visit) → Each (λ (x : Visit). x.round ≡ round.number) visits → visits_of round visits ≡ visits
of_all round [] h = refl
of_all round (x ∷ visits) h = let e : (x.round == round.number) ≡ true = (let same = h.0 in grind (arith, nat_tests, same)) in
    ap (λ b. pick b x (visits_of round visits)) e ∙ ap (λ l. x ∷ l) (of_all round visits h.1)

pub of_both : (round : Round) (xs ys : List Visit) → visits_of round (xs ++ ys) ≡ visits_of round xs ++ visits_of round ys
of_both round xs ys = filter-append (λ (x : Visit). x.round == round.number) xs ys

-- a round's visits are not among those of later rounds
of_this : (round : Round) (later visits : List Visit) → Each (λ (x : Visit). round.number < x.round) later → Each (λ (x : Visit). x.round ≡ round.number) visits → visits_of round (later ++ visits) ≡ visits
of_this round later visits over now = of_both round later visits ∙
    (λ i. of_none round later (each_keeps (λ (x : Visit). round.number < x.round) (λ (x : Visit). x.round ≡ round.number → ⊥) (λ x l e. omega (arith, l, e)) later over) i ++ of_all round visits now i)

-- nor those of later rounds among a round's
of_later : (n : ℕ) (round : Round) (later visits : List Visit) → n < round.number → Each (λ (x : Visit). x.round ≡ n) visits → visits_of round (later ++ visits) ≡ visits_of round later
of_later n round later visits l now = of_both round later visits ∙
    (ap (λ xs. visits_of round later ++ xs) (of_none round visits (each_keeps (λ (x : Visit). x.round ≡ n) (λ (x : Visit). x.round ≡ round.number → ⊥) (λ x is e. omega (arith, l, is, e)) visits now))
    ∙ append-nil (visits_of round later))

-- ---- lists of rounds

pub map_same : (f g : Round → Sweep) (rounds : List Round) → Each (λ r. f r ≡ g r) rounds → map f rounds ≡ map g rounds
map_same f g [] h = refl
map_same f g (r ∷ rounds) h = λ i. h.0 i ∷ map_same f g rounds h.1 i

pub each_both : (P Q S : Round → Type 0) → ((r : Round) → P r → Q r → S r) → (rounds : List Round) → Each P rounds → Each Q rounds → Each S rounds
each_both P Q S f [] a b = tt
each_both P Q S f (r ∷ rounds) a b = (f r a.0 b.0, each_both P Q S f rounds a.1 b.1)

saw_later : (kind : Kind) (buckets : ℕ) (xs ys : List Sight) (round : Round) (visits : List Visit) → StartsWith ys xs → SawCleans kind buckets xs round visits → SawCleans kind buckets ys round visits
saw_later Group buckets xs ys round visits kept h = each_keeps (SawCut buckets xs round visits) (SawCut buckets ys round visits)
    (λ n s. (s.0, (subst (IsAmong _) (sym kept.1) (among_left _ xs kept.0 s.1.0), s.1.1))) (taken_in round.notes) h
saw_later Table buckets xs ys round visits kept h = h
saw_later Interval buckets xs ys round visits kept h = h

-- ---- one round more before the others

pub noted_none : (kind : Kind) (long buckets : ℕ) (v w : View) → w.parts ≡ v.parts → AreNoted kind long buckets v [] w
noted_none kind long buckets v w same =
    let is : pass w ≡ pass v = ap (λ (ps : List Part). pass_there (first_in ps)) same in record {
      notes = [];
      begins = refl;
      journal = ap (λ (p : PassPart). p.journal) is ∙ sym (append-nil (pass v).journal);
      last = (let n : ℕ = (pass v).round in let m : ℕ = (pass w).round in let e : m ≡ n = ap (λ (p : PassPart). p.round) is in omega arith);
      visits = [];
      more = ap (λ (p : PassPart). p.visits) is;
      later = tt;
      reports = refl;
      rule = tt;
      clean = tt;
    }

-- The pass met sessions after v, and made a round from a to b.
module _ (kind : Kind) (long buckets : ℕ) (v a b w : View) (sweep : Sweep) (sweeps : List Sweep) (met : a.parts ≡ v.parts) (r : IsNoted kind long buckets a sweep b)
    (k : AreNoted kind long buckets b sweeps w) (kept : StartsWith w.sights b.sights) where
  met_is : pass a ≡ pass v
  met_is = ap (λ (ps : List Part). pass_there (first_in ps)) met

  number_is : r.round.number ≡ suc (pass v).round
  number_is = r.number ∙ ap (λ (p : PassPart). suc p.round) met_is

  next_is : (pass b).round ≡ r.round.number
  next_is = r.next ∙ sym r.number

  abbrev notes : List PassEntry
  notes = Marked r.round.mark ∷ (r.round.notes ++ k.notes)

  abbrev rest : List Round
  rest = rounds_after (pass b).round k.notes

  abbrev visits : List Visit
  visits = k.visits ++ r.visits

  rounds_are : rounds_after (pass v).round notes ≡ r.round ∷ rest
  rounds_are = (λ i. record { number = sym number_is i; mark = r.round.mark; notes = inside_ends r.round.notes k.notes r.inside k.begins i } ∷
      rounds_after (sym (next_is ∙ number_is) i) (r.round.notes ++ k.notes)) ∙ ap (λ l. r.round ∷ l) (inside_none (pass b).round r.round.notes k.notes r.inside)

  its_visits : visits_of r.round visits ≡ r.visits
  its_visits = of_this r.round k.visits r.visits (subst (λ n. Each (λ (x : Visit). n < x.round) k.visits) next_is k.later) r.now

  other_visits : Each (λ (q : Round). visits_of q visits ≡ visits_of q k.visits) rest
  other_visits = each_keeps (λ (q : Round). (pass b).round < q.number) _ (λ q l. of_later (pass b).round q k.visits r.visits l (subst (λ n. Each (λ (x : Visit). x.round ≡ n) r.visits) (sym next_is) r.now))
      rest (numbers_over (pass b).round k.notes)

  pub noted_more : AreNoted kind long buckets v (sweep ∷ sweeps) w
  noted_more = record {
    notes = notes;
    begins = refl;
    journal = k.journal ∙ (ap (λ l. l ++ k.notes) (r.journal ∙ ap (λ (p : PassPart). p.journal ++ Marked r.round.mark ∷ r.round.notes) met_is) ∙
        append_assoc (pass v).journal (Marked r.round.mark ∷ r.round.notes) k.notes);
    last = (let x : ℕ = (pass w).round in let y : ℕ = (pass b).round in let z : ℕ = (pass v).round in let n : ℕ = length sweeps in
        let e : x ≡ y + n = k.last in let f : y ≡ suc z = next_is ∙ number_is in omega arith);
    visits = visits;
    more = k.more ∙ (ap (λ l. k.visits ++ l) (r.more ∙ ap (λ (p : PassPart). r.visits ++ p.visits) met_is) ∙ sym (append_assoc k.visits r.visits (pass v).visits));
    later = each_append (λ (x : Visit). (pass v).round < x.round) k.visits r.visits
        (each_keeps (λ (x : Visit). (pass b).round < x.round) _ (λ x l. (let f = next_is ∙ number_is in omega (arith, l, f))) k.visits k.later)
        (each_keeps (λ (x : Visit). x.round ≡ r.round.number) _ (λ x e. (let f = number_is in omega (arith, e, f))) r.visits r.now);
    reports = ap (map (λ (q : Round). round_report kind (visits_of q visits) q)) rounds_are ∙
        (λ i. (ap (λ vs. round_report kind vs r.round) its_visits ∙ r.report) i ∷
        (map_same (λ (q : Round). round_report kind (visits_of q visits) q) (λ (q : Round). round_report kind (visits_of q k.visits) q) rest
        (each_keeps (λ (q : Round). visits_of q visits ≡ visits_of q k.visits) _ (λ q e. ap (λ vs. round_report kind vs q) e) rest other_visits) ∙ k.reports) i);
    rule = subst (Each (TriesBy kind long)) (sym rounds_are) (r.rule, k.rule);
    clean = subst (Each (λ (q : Round). SawCleans kind buckets w.sights q (visits_of q visits))) (sym rounds_are) (
      subst (SawCleans kind buckets w.sights r.round) (sym its_visits) (saw_later kind buckets b.sights w.sights r.round r.visits kept r.clean),
      each_both (λ (q : Round). visits_of q visits ≡ visits_of q k.visits) (λ (q : Round). SawCleans kind buckets w.sights q (visits_of q k.visits)) _
          (λ q e h. subst (SawCleans kind buckets w.sights q) (sym e) h) rest other_visits k.clean,
    );
  }

-- ---- all rounds

-- what was seen before stays
rounds_seen : (kind : Kind) (z : Sizes) (long : ℕ) (v w : View) (sweeps : List Sweep) → AreRounds (IsRoundBy kind z long) v sweeps w → StartsWith w.sights v.sights
rounds_seen kind z long v w [] t = t.kept
rounds_seen kind z long v w (sweep ∷ sweeps) t =
    let a = t.0 in
    let b = t.1.1.0 in
    starts_on w.sights a.sights v.sights t.1.0.kept (starts_on w.sights b.sights a.sights (swept_of kind z long a b sweep t.1.1.1.0).kept (rounds_seen kind z long b w sweeps t.1.1.1.1))

pub rounds_noted : (kind : Kind) (z : Sizes) (long : ℕ) (v w : View) (sweeps : List Sweep) → AreRounds (IsRoundBy kind z long) v sweeps w → AreNoted kind long z.buckets v sweeps w
rounds_noted kind z long v w [] t = noted_none kind long z.buckets v w t.parts
rounds_noted kind z long v w (sweep ∷ sweeps) t = noted_more kind long z.buckets v t.0 t.1.1.0 w sweep sweeps t.1.0.parts (round_noted kind z long t.0 t.1.1.0 sweep t.1.1.1.0)
    (rounds_noted kind z long t.1.1.0 w sweeps t.1.1.1.1) (rounds_seen kind z long t.1.1.0 w sweeps t.1.1.1.1)
