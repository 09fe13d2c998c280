-- What a pass noted from its first round on is what a state reports that has its journal and its visits.
use Rattle.std.proofs.Common.{◌≡◌, ℕ, suc, ◌+◌, ◌-◌, ◌^◌, ◌<◌, ◌≤◌, List, [], ◌∷◌, ◌++◌, inl, inr, length, map, refl, sym, ap, ◌∙◌, subst, arith, append_assoc, append-nil}
use Rattle.hg_base.specs.declared.report.Kind.{Kind}
use Rattle.hg_base.specs.declared.report.Kind.TheVariants.{Group, Table, Interval}
use Rattle.hg_base.specs.declared.report.Sweep.{Sweep}
use Rattle.hg_base.specs.History.{History}
use Rattle.hg_base.specs.Lists.{Each}
use Rattle.hg_base.proofs.ListFacts.{each_keeps}
use Rattle.hg_core.specs.declared.journal.PassEntry.{PassEntry}
use Rattle.hg_core.specs.declared.journal.PassEntry.TheVariants.{Marked, Sampled, Masked, Tried, Took}
use Rattle.hg_core.specs.declared.visit.Visit.{Visit}
use Rattle.hg_core.specs.State.{CoreState}
use Rattle.hg_headline.specs.OneRun.{Round, up_to_mark, rounds_after, rounds_in, taken_in, visits_of, round_report, pass_of, TriesBy, HasCutGroup, Cleans, HasReported}
use Rattle.hg_rule.specs.declared.view.PassPart.{PassPart}
use Rattle.hg_rule.specs.declared.view.Sight.{Sight}
use Rattle.hg_rule.specs.declared.view.View.{View}
use Rattle.hg_rule.specs.Facts.{IsAmong, Known, new_pass}
use Rattle.hg_rule.specs.Views.{pass}
use Rattle.hg_collectors.specs.Noted.{SawCut, SawCleans, AreNoted, HasNoted}
use Rattle.hg_collectors.proofs.AllNoted.{of_none, of_both, map_same, each_both}

-- ---- rounds before and after

ends_same : (notes more : List PassEntry) → up_to_mark more ≡ [] → up_to_mark (notes ++ more) ≡ up_to_mark notes
ends_same [] more e = e
ends_same (Marked mark ∷ notes) more e = refl
ends_same (Sampled j register ∷ notes) more e = ap (λ l. Sampled j register ∷ l) (ends_same notes more e)
ends_same (Masked j mask ∷ notes) more e = ap (λ l. Masked j mask ∷ l) (ends_same notes more e)
ends_same (Tried j number moved ∷ notes) more e = ap (λ l. Tried j number moved ∷ l) (ends_same notes more e)
ends_same (Took group ∷ notes) more e = ap (λ l. Took group ∷ l) (ends_same notes more e)

both_rounds : (n : ℕ) (notes more : List PassEntry) → up_to_mark more ≡ [] → rounds_after n (notes ++ more) ≡ rounds_after n notes ++ rounds_after (n + length (rounds_after n notes)) more
both_rounds n [] more e = let same : n ≡ n + 0 = omega arith in ap (λ k. rounds_after k more) same
both_rounds n (Marked mark ∷ notes) more e =
    let k : ℕ = length (rounds_after (suc n) notes) in
    let same : suc n + k ≡ n + suc k = omega arith in
    (λ i. record { number = suc n; mark = mark; notes = ends_same notes more e i } ∷ both_rounds (suc n) notes more e i)
    ∙ ap (λ m. (record { number = suc n; mark = mark; notes = up_to_mark notes } ∷ rounds_after (suc n) notes) ++ rounds_after m more) same
both_rounds n (Sampled j register ∷ notes) more e = both_rounds n notes more e
both_rounds n (Masked j mask ∷ notes) more e = both_rounds n notes more e
both_rounds n (Tried j number moved ∷ notes) more e = both_rounds n notes more e
both_rounds n (Took group ∷ notes) more e = both_rounds n notes more e

numbers_within : (n : ℕ) (notes : List PassEntry) → Each (λ (r : Round). r.number ≤ n + length (rounds_after n notes)) (rounds_after n notes)
numbers_within n [] = tt
numbers_within n (Marked mark ∷ notes) =
    let k : ℕ = length (rounds_after (suc n) notes) in (
      omega arith,
      each_keeps (λ (r : Round). r.number ≤ suc n + k) (λ (r : Round). r.number ≤ n + suc k) (λ r le. omega (arith, le)) (rounds_after (suc n) notes) (numbers_within (suc n) notes),
    )
numbers_within n (Sampled j register ∷ notes) = numbers_within n notes
numbers_within n (Masked j mask ∷ notes) = numbers_within n notes
numbers_within n (Tried j number moved ∷ notes) = numbers_within n notes
numbers_within n (Took group ∷ notes) = numbers_within n notes

many_same : {A B : Type 0} (f : A → B) (xs : List A) → length (map f xs) ≡ length xs
many_same f [] = refl
many_same f (x ∷ xs) = ap suc (many_same f xs)

-- ---- what was seen is so

known_of : (s : CoreState) (x : Sight) (sights : List Sight) → Each (Known s) sights → IsAmong x sights → Known s x
known_of s x [] h i = absurd i
known_of s x (y ∷ sights) h (inl e) = subst (Known s) e h.0
known_of s x (y ∷ sights) h (inr i) = known_of s x sights h.1 i

cut_longer : (buckets : ℕ) (h rest : History) (round : Round) (visits : List Visit) (n : ℕ) → HasCutGroup buckets h round visits n → HasCutGroup buckets (h ++ rest) round visits n
cut_longer buckets h rest round visits n c = record {
  before = c.before;
  group = c.group;
  later = c.later ++ rest;
  parts = ap (λ l. l ++ rest) c.parts ∙ append_assoc c.before (c.group ∷ c.later) rest;
  number = c.number;
  cut = c.cut;
}

cleans_of : (kind : Kind) (s : CoreState) (sights : List Sight) (round : Round) (visits : List Visit) → Each (Known s) sights → SawCleans kind s.buckets sights round visits →
    Cleans kind s.buckets s.history round visits
cleans_of Group s sights round visits known h = each_keeps (SawCut s.buckets sights round visits) (HasCutGroup s.buckets s.history round visits)
    (λ n saw. (let begins = known_of s _ sights known saw.1.0 in
    subst (λ k. HasCutGroup s.buckets k round visits n) (sym begins.1) (cut_longer s.buckets saw.0 begins.0 round visits n saw.1.1))) (taken_in round.notes) h
cleans_of Table s sights round visits known h = h
cleans_of Interval s sights round visits known h = h

-- ---- the whole

module _ (kind : Kind) (long : ℕ) (s : CoreState) (v w : View) (sweeps : List Sweep) (new : pass v ≡ new_pass) (k : AreNoted kind long s.buckets v sweeps w) (h : HasNoted kind s w) where
  abbrev printed : List Round
  printed = rounds_after 0 k.notes

  abbrev others : List Round
  others = rounds_after (0 + length printed) h.notes

  journal_is : (s.pass (pass_of kind)).journal ≡ k.notes ++ h.notes
  journal_is = h.journal ∙ ap (λ l. l ++ h.notes) (k.journal ∙ ap (λ (p : PassPart). p.journal ++ k.notes) new)

  reports_are : map (λ (round : Round). round_report kind (visits_of round k.visits) round) printed ≡ sweeps
  reports_are = subst (λ (p : PassPart). map (λ (round : Round). round_report kind (visits_of round k.visits) round) (rounds_after p.round k.notes) ≡ sweeps) new k.reports

  last_is : (pass w).round ≡ length printed
  last_is =
      let x : ℕ = (pass w).round in
      let y : ℕ = (pass v).round in
      let n : ℕ = length sweeps in
      let m : ℕ = length printed in
      let e : x ≡ y + n = k.last in
      let f : y ≡ 0 = ap (λ (p : PassPart). p.round) new in
      let g : n ≡ m = sym (ap (λ (l : List Sweep). length l) reports_are) ∙ many_same (λ (round : Round). round_report kind (visits_of round k.visits) round) printed in
      omega arith

  later_from : (pass w).round ≡ 0 + length printed
  later_from = let n : ℕ = length printed in let m : ℕ = (pass w).round in let e : m ≡ n = last_is in omega arith

  visits_are : s.visits (pass_of kind) ≡ h.visits ++ k.visits
  visits_are = h.more ∙ ap (λ l. h.visits ++ l) (k.more ∙ (ap (λ (p : PassPart). k.visits ++ p.visits) new ∙ append-nil k.visits))

  -- the visits of a round that is printed are not among the later ones
  its_visits : (round : Round) → round.number ≤ length printed → visits_of round (s.visits (pass_of kind)) ≡ visits_of round k.visits
  its_visits round le = ap (visits_of round) visits_are ∙ (of_both round h.visits k.visits ∙ ap (λ l. l ++ visits_of round k.visits)
      (of_none round h.visits (each_keeps (λ (x : Visit). (pass w).round < x.round) (λ (x : Visit). x.round ≡ round.number → ⊥) (λ x less e. absurd (omega (arith, less, e, le, last_is))) h.visits h.later)))

  each_same : Each (λ (round : Round). visits_of round (s.visits (pass_of kind)) ≡ visits_of round k.visits) printed
  each_same = each_keeps (λ (round : Round). round.number ≤ 0 + length printed) (λ (round : Round). visits_of round (s.visits (pass_of kind)) ≡ visits_of round k.visits)
      (λ round le. its_visits round (omega (arith, le))) printed (numbers_within 0 k.notes)

  pub has_reported : HasReported kind long s sweeps
  has_reported = record {
    printed = printed;
    others = others;
    begins = ap up_to_mark journal_is ∙ (ends_same k.notes h.notes h.begins ∙ k.begins);
    rounds = ap rounds_in journal_is ∙ both_rounds 0 k.notes h.notes h.begins;
    reports = map_same (λ (round : Round). round_report kind (visits_of round (s.visits (pass_of kind))) round) (λ (round : Round). round_report kind (visits_of round k.visits) round) printed
        (each_keeps (λ (round : Round). visits_of round (s.visits (pass_of kind)) ≡ visits_of round k.visits) _ (λ round e. ap (λ vs. round_report kind vs round) e) printed each_same) ∙ reports_are;
    rule = subst (λ (p : PassPart). Each (TriesBy kind long) (rounds_after p.round k.notes)) new k.rule;
    rest = subst (λ n. Each (TriesBy kind (2 ^ 64 - 1)) (rounds_after n h.notes)) later_from h.rule;
    clean = each_both (λ (round : Round). visits_of round (s.visits (pass_of kind)) ≡ visits_of round k.visits) (λ (round : Round). SawCleans kind s.buckets w.sights round (visits_of round k.visits)) _
        (λ round e c. subst (Cleans kind s.buckets s.history round) (sym e) (cleans_of kind s w.sights round (visits_of round k.visits) h.seen c)) printed
        each_same (subst (λ (p : PassPart). Each (λ (round : Round). SawCleans kind s.buckets w.sights round (visits_of round k.visits)) (rounds_after p.round k.notes)) new k.clean);
  }
