-- One stretch of visits and steps after another.
use Rattle.std.proofs.Common.{◌≡◌, ℕ, ◌+◌, Bool, true, false, List, [], ◌∷◌, ◌++◌, refl, sym, ap, ◌∙◌, subst, arith, append_assoc, append-nil}
use Rattle.std.specs.Prelude.{if◌then◌else◌}
use Rattle.hg_base.specs.declared.report.Kind.{Kind}
use Rattle.hg_base.specs.declared.report.Kind.TheVariants.{Group, Table, Interval}
use Rattle.hg_base.specs.Shape.{same_kind}
use Rattle.hg_base.proofs.ListFacts.{each_append}
use Rattle.hg_core.specs.Contents.{Content}
use Rattle.hg_core.specs.Counters.{none_removed, removed_by, removed_more, removed_all}
use Rattle.hg_base.specs.Lists.{Each}
use Rattle.hg_core.specs.declared.visit.Visit.{Visit}
use Rattle.hg_rule.specs.declared.view.Event.{Event}
use Rattle.hg_rule.specs.declared.view.Part.{Part}
use Rattle.hg_rule.specs.declared.view.Part.TheVariants.{OfPass}
use Rattle.hg_rule.specs.declared.view.PassPart.{PassPart}
use Rattle.hg_rule.specs.declared.view.View.{View}
use Rattle.hg_rule.specs.Facts.{record_of}
use Rattle.hg_rule.specs.Views.{number, part_number, pass, pass_there, first_in, after_first, others, seeing, HasPass}
use Rattle.hg_rule.specs.Rounds.{IsWork}
use Rattle.hg_rule.proofs.Rounds.{gone_on}
use Rattle.hg_rounds.specs.Visits.{closed_visit, IsOnlyFor, IsIn, GoesOn}

pub works : (xs ys : List Event) → Each IsWork xs → Each IsWork ys → Each IsWork (xs ++ ys)
works [] ys a b = b
works (x ∷ xs) ys a b = (a.0, works xs ys a.1 b)

pub removed_append : (kind : Kind) (xs ys : List Visit) → removed_all kind (xs ++ ys) ≡ removed_all kind xs + removed_all kind ys
removed_append kind [] ys = let e : removed_all kind ys ≡ 0 + removed_all kind ys = omega arith in e
removed_append kind (x ∷ xs) ys = omega (arith, removed_append kind xs ys)

-- ---- one kind of collector alone

by_more : (kind k : Kind) (n : ℕ) → removed_by k (removed_more kind n none_removed) ≡ (if same_kind kind k then n else 0)
by_more Group Group n = let e : 0 + n ≡ n = omega arith in e
by_more Group Table n = refl
by_more Group Interval n = refl
by_more Table Group n = refl
by_more Table Table n = let e : 0 + n ≡ n = omega arith in e
by_more Table Interval n = refl
by_more Interval Group n = refl
by_more Interval Table n = refl
by_more Interval Interval n = let e : 0 + n ≡ n = omega arith in e

same_self : (kind : Kind) → same_kind kind kind ≡ true
same_self Group = refl
same_self Table = refl
same_self Interval = refl

-- so many are removed for the kind
pub more_is : (kind : Kind) (n : ℕ) → removed_by kind (removed_more kind n none_removed) ≡ n
more_is kind n = by_more kind kind n ∙ ap (λ b. if b then n else 0) (same_self kind)

pub more_only : (kind : Kind) (mark round b n : ℕ) (given : Content) → IsOnlyFor kind (closed_visit kind mark round b n given)
more_only kind mark round b n given = ap (λ m. removed_more kind m none_removed) (sym (more_is kind n))

-- visits for one kind removed nothing for another
pub removed_for : (kind k : Kind) (visits : List Visit) → Each (IsOnlyFor kind) visits → removed_all k visits ≡ (if same_kind kind k then removed_all kind visits else 0)
removed_for kind k [] h = go (same_kind kind k)
  where
    go : (t : Bool) → removed_all k [] ≡ (if t then removed_all kind [] else 0)
    go true = refl
    go false = refl
removed_for kind k (v ∷ visits) h = go (same_kind kind k) (ap (removed_by k) h.0 ∙ by_more kind k (removed_by kind v.removed)) (removed_for kind k visits h.1)
  where
    go : (t : Bool) → removed_by k v.removed ≡ (if t then removed_by kind v.removed else 0) → removed_all k visits ≡ (if t then removed_all kind visits else 0) →
        removed_all k (v ∷ visits) ≡ (if t then removed_all kind (v ∷ visits) else 0)
    go true a b = omega (arith, a, b)
    go false a b = omega (arith, a, b)

-- ---- the pass

-- what the pass is after a stretch
pub record IsSame (v w : View) : Type 0 where
  pub own : HasPass w
  pub number_is : number w ≡ number v
  pub mark_is : (pass w).mark ≡ (pass v).mark
  pub round_is : (pass w).round ≡ (pass v).round
  pub loaded_is : (pass w).loaded ≡ (pass v).loaded
  pub record_is : record_of (pass w) ≡ record_of (pass v)

pub same_pass : (kind : Kind) (v w : View) → GoesOn kind v w → IsSame v w
same_pass kind v w g =
    let a : number w ≡ number v = ap part_number g.parts in
    let p : pass w ≡ record (pass v) { visits = g.visits ++ (pass v).visits } = ap (λ ps. pass_there (first_in ps)) g.parts in
    let o : others w ≡ others v = ap after_first g.parts in record {
      own = g.parts ∙ (λ i. OfPass (sym a i) (sym p i) ∷ sym o i);
      number_is = a;
      mark_is = ap (λ (x : PassPart). x.mark) p;
      round_is = ap (λ (x : PassPart). x.round) p;
      loaded_is = ap (λ (x : PassPart). x.loaded) p;
      record_is = ap record_of p;
    }

pub visits_after : (kind : Kind) (v w : View) (g : GoesOn kind v w) → (pass w).visits ≡ g.visits ++ (pass v).visits
visits_after kind v w g = ap (λ ps. (pass_there (first_in ps)).visits) g.parts

-- ---- stretches

abbrev pub goes_none : (kind : Kind) (v : View) → HasPass v → GoesOn kind v v
goes_none kind v own = record { visits = []; steps = []; work = tt; only = tt; now = tt; sum = refl; parts = own; kept = ([], sym (append-nil v.sights)); events = sym (append-nil v.events) }

abbrev pub goes_on : (kind : Kind) (u v w : View) → GoesOn kind u v → GoesOn kind v w → GoesOn kind u w
goes_on kind u v w a b = record {
  visits = b.visits ++ a.visits;
  steps = a.steps ++ b.steps;
  work = works a.steps b.steps a.work b.work;
  only = each_append (IsOnlyFor kind) b.visits a.visits b.only a.only;
  now = each_append (IsIn (pass u).round) b.visits a.visits (subst (λ n. Each (IsIn n) b.visits) (same_pass kind u v a).round_is b.now) a.now;
  sum = let l = gone_on a.steps b.steps in let r = removed_append kind b.visits a.visits in omega (arith, l, r, a.sum, b.sum);
  parts = b.parts ∙ ap F a.parts ∙ ap (λ vs. OfPass (number u) (record (pass u) { visits = vs }) ∷ others u) (sym (append_assoc b.visits a.visits (pass u).visits));
  kept = (a.kept.0 ++ b.kept.0, b.kept.1 ∙ (ap (λ l. l ++ b.kept.0) a.kept.1 ∙ append_assoc u.sights a.kept.0 b.kept.0));
  events = b.events ∙ (ap (λ l. l ++ b.steps) a.events ∙ append_assoc u.events a.steps b.steps);
}
  where
    F : List Part → List Part
    F ps = let x = seeing ps [] [] in OfPass (number x) (record (pass x) { visits = b.visits ++ (pass x).visits }) ∷ others x
