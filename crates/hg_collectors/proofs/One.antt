-- A bucket is taken, some of its records are cut, and it is given back.
use Rattle.std.proofs.Common.{refl, ◌≡◌, inl, ℕ, ◌≤◌, ◌^◌, List, [], ◌∷◌, ◌++◌, map, sym, ap, ◌∙◌, subst, arith}
use Rattle.hg_base.specs.declared.rid.Rid.{Rid}
use Rattle.hg_base.specs.declared.report.Kind.TheVariants.{Group}
use Rattle.hg_base.specs.Lists.{Each}
use Rattle.hg_core.specs.declared.visit.Visit.{Visit}
use Rattle.hg_core.specs.Contents.{Content, bucket_of}
use Rattle.hg_core.specs.Counters.{removed_all}
use Rattle.hg_rule.specs.declared.view.PassPart.{PassPart}
use Rattle.hg_rule.specs.declared.view.Event.TheVariants.{Reclaim}
use Rattle.hg_rule.specs.declared.view.Part.TheVariants.{OfPass}
use Rattle.hg_rule.specs.declared.view.View.{View}
use Rattle.hg_rule.specs.declared.view.Sizes.{Sizes}
use Rattle.hg_rule.specs.Facts.{IsAmong}
use Rattle.hg_rule.specs.Rules.{HasRoom, IsBacked}
use Rattle.hg_rule.specs.Views.{number, pass, others, after_first, HasPass}
use Rattle.hg_rule.specs.Holding.{bucket, beyond}
use Rattle.hg_rule.specs.Places.{HoldsBucket, arriving, departing, without_bucket}
use Rattle.hg_rule.specs.Removes.{visiting}
use Rattle.hg_rule.proofs.Holders.{pass_departs}
use Rattle.hg_store.specs.Stores.{Takes}
use Rattle.hg_store.proofs.Holding.{total_at}
use Rattle.hg_rounds.specs.Visits.{closed_visit}
use Rattle.hg_rounds.proofs.Counted.{few}
use Rattle.hg_rounds.proofs.Going.{more_is, more_only, visits_after}
use Rattle.hg_rounds.proofs.Visiting.{parts_taken, pass_taken, number_taken, own_taken}
use Rattle.hg_collectors.specs.Cutting.{AreIn, WasCut, IsCutIn, CutsHeld, CutsAll, VisitsInOrder}

each_both : (P Q S : Rid → Type 0) → ((r : Rid) → P r → Q r → S r) → (rids : List Rid) → Each P rids → Each Q rids → Each S rids
each_both P Q S f [] a b = tt
each_both P Q S f (r ∷ rids) a b = (f r a.0 b.0, each_both P Q S f rids a.1 b.1)

module _ (buckets b bound gone : ℕ) (v x y w : View) (rids : List Rid) (own : HasPass v) (takes : Takes v b x) (owns : HasPass y) (c : CutsHeld bound x rids gone y)
    (left : w ≡ without_bucket y) (placed : AreIn buckets b rids) where
  abbrev content : Content
  content = (bucket y).content

  numbers : number y ≡ number v
  numbers = c.removes.counts.same_number ∙ number_taken Group v x b own takes

  visited : pass y ≡ visiting Group gone (arriving b (pass v))
  visited = c.removes.counts.visit ∙ ap (visiting Group gone) (pass_taken Group v x b own takes)

  behind : beyond y ≡ others v
  behind = c.removes.counts.rest ∙ ap (λ ps. after_first (after_first ps)) (parts_taken Group v x b own takes)

  was_cut : (r : Rid) → bucket_of buckets r ≡ b → IsCutIn bound (number x) c.removes.steps y r →
      WasCut buckets (number v) (pass v).mark (pass v).round bound (closed_visit Group (pass v).mark (pass v).round b gone content ∷ []) c.removes.steps r
  was_cut r at cut = record {
    gone = cut.0;
    step = subst (λ p. IsAmong (Reclaim p Group r cut.0) c.removes.steps) (number_taken Group v x b own takes) cut.1.0;
    all = gone;
    given = content;
    visit = inl (ap (λ k. closed_visit Group (pass v).mark (pass v).round k gone content) (sym at));
    cut = cut.1.1;
  }

  pub cuts_run : CutsAll buckets bound v rids gone w
  cuts_run = record {
    on = record {
      visits = closed_visit Group (pass v).mark (pass v).round b gone content ∷ [];
      steps = c.removes.steps;
      work = c.removes.work;
      only = (more_only Group (pass v).mark (pass v).round b gone content, tt);
      now = (refl, tt);
      sum = omega (arith, c.removes.removed, more_is Group gone);
      parts = pass_departs y w owns left ∙ (λ i. OfPass (numbers i) (departing content (visited i)) ∷ behind i);
      kept = (takes.seen, ap (λ (t : View). t.sights) left ∙ c.removes.counts.sights ∙ ap (λ (t : View). t.sights) takes.after);
      events = ap (λ (t : View). t.events) left ∙ c.removes.events ∙ ap (λ (t : View). t.events ++ c.removes.steps) takes.after;
    };
    gone_is = sym c.removes.removed;
    takes_none = c.takes_none;
    cut = each_both (λ r. bucket_of buckets r ≡ b) (IsCutIn bound (number x) c.removes.steps y)
        (WasCut buckets (number v) (pass v).mark (pass v).round bound (closed_visit Group (pass v).mark (pass v).round b gone content ∷ []) c.removes.steps) was_cut rids placed c.cut;
  }

  -- the bucket was visited, and no other
  pub visits_run : VisitsInOrder (b ∷ []) v w
  unfolding cuts_run
  visits_run = ap (λ (visits : List Visit). map (λ visit. visit.bucket) visits) (visits_after Group v w cuts_run.on)

  -- no more went than was ever made
  pub run_few : (z : Sizes) (mark : ℕ) → IsBacked z mark x → HasRoom z → HoldsBucket b x → removed_all Group (pass w).visits ≤ 2 ^ 41
  unfolding cuts_run
  run_few z mark backed room holds =
      let before = few Group z mark x room backed (own_taken Group v x b own takes) in
      let arrived : removed_all Group (pass x).visits ≡ removed_all Group (arriving b (pass v)).visits = ap (λ (p : PassPart). removed_all Group p.visits) (pass_taken Group v x b own takes) in
      let most = total_at z mark b x backed holds in
      let all : removed_all Group (pass w).visits ≡ removed_all Group (closed_visit Group (pass v).mark (pass v).round b gone content ∷ (pass v).visits) = ap (removed_all Group)
      (visits_after Group v w cuts_run.on) in
      omega (arith, before, arrived, most, all, more_is Group gone, c.removes.counts.versions, room.begins)
