-- Records of a bucket that a pass holds are cut, one after the other.
use Rattle.std.proofs.Common.{◌≡◌, inl, ℕ, ◌+◌, Bool, true, false, List, [], ◌∷◌, ◌++◌, refl, sym, ap, ◌∙◌, subst, arith, append_assoc, append-nil}
use Rattle.std.specs.Prelude.{if◌then◌else◌}
use Rattle.hg_base.specs.declared.rid.Rid.{Rid}
use Rattle.hg_base.specs.declared.report.Kind.TheVariants.{Group}
use Rattle.hg_base.specs.History.{same_rid}
use Rattle.hg_base.proofs.ListFacts.{each_snoc, each_keeps}
use Rattle.hg_core.specs.Clean.{IsCutAt}
use Rattle.hg_core.specs.Passes.{group_bound}
use Rattle.hg_core.proofs.Cuts.{cut_is_cut}
use Rattle.hg_rule.specs.declared.view.Event.{Event}
use Rattle.hg_rule.specs.declared.view.Event.TheVariants.{Reclaim}
use Rattle.hg_rule.specs.declared.view.View.{View}
use Rattle.hg_rule.specs.Facts.{record_of}
use Rattle.hg_rule.specs.Holding.{held}
use Rattle.hg_rule.specs.Views.{number, pass}
use Rattle.hg_rule.specs.Removes.{Reclaims, left_of, removed_of}
use Rattle.hg_rule.proofs.Growing.{among_later}
use Rattle.hg_rule.proofs.Rounds.{gone_on, takes_on}
use Rattle.hg_store.proofs.Clearing.{counts_none, counts_more, same_record, held_after, held_here}
use Rattle.hg_rounds.proofs.Going.{works}
use Rattle.hg_rule.proofs.Lists.{among_left}
use Rattle.hg_collectors.specs.Cutting.{IsCutIn, CutsHeld}

pub held_none : (bound : ℕ) (v : View) → CutsHeld bound v [] 0 v
held_none bound v = record { removes = record { counts = counts_none v Group; steps = []; work = tt; removed = refl; events = sym (append-nil v.events) }; takes_none = refl; cut = tt }

-- the pass's record is as it was
pub record_still : (bound : ℕ) (v w : View) (rids : List Rid) (gone : ℕ) → CutsHeld bound v rids gone w → record_of (pass w) ≡ record_of (pass v)
record_still bound v w rids gone c = same_record v w Group gone c.removes.counts

module _ (bound : ℕ) (v w x : View) (rids : List Rid) (m : ℕ) (r : Rid) (a : CutsHeld bound v rids m w) (step : Reclaims w r Group x) (is : bound ≡ group_bound (record_of (pass v))) where
  abbrev one : List Event
  one = Reclaim (number w) Group r (removed_of w r Group) ∷ []

  left_cut : IsCutAt bound (left_of w r Group)
  left_cut = subst (λ b. IsCutAt b (left_of w r Group)) (ap group_bound (record_still bound v w rids m a) ∙ sym is) (cut_is_cut (group_bound (record_of (pass w))) (held w r))

  -- what was cut earlier is cut still
  cut_still : (q : Rid) → IsCutIn bound (number v) a.removes.steps w q → IsCutIn bound (number v) (a.removes.steps ++ one) x q
  cut_still q c = (c.0, (among_left _ a.removes.steps one c.1.0, go (same_rid q r) (held_after w x r Group step q)))
    where
      go : (t : Bool) → held x q ≡ (if t then left_of w r Group else held w q) → IsCutAt bound (held x q)
      go true e = subst (IsCutAt bound) (sym e) left_cut
      go false e = subst (IsCutAt bound) (sym e) c.1.1

  cut_now : IsCutIn bound (number v) (a.removes.steps ++ one) x r
  cut_now = (
    removed_of w r Group,
    (
      among_later _ a.removes.steps one (inl (λ i. Reclaim (a.removes.counts.same_number i) Group r (removed_of w r Group))),
      subst (IsCutAt bound)
          (sym (held_here w x r Group step)) left_cut,
    ),
  )

  pub held_more : CutsHeld bound v (rids ++ r ∷ []) (m + removed_of w r Group) x
  held_more = record {
    removes = record {
      counts = counts_more v w x Group m r a.removes.counts step;
      steps = a.removes.steps ++ one;
      work = works a.removes.steps one a.removes.work (tt, tt);
      removed = let l = gone_on a.removes.steps one in omega (arith, l, a.removes.removed);
      events = ap (λ (u : View). u.events) step ∙ (ap (λ l. l ++ one) a.removes.events ∙ append_assoc v.events a.removes.steps one);
    };
    takes_none = let l = takes_on a.removes.steps one in omega (arith, l, a.takes_none);
    cut = each_snoc (IsCutIn bound (number v) (a.removes.steps ++ one) x) rids r
        (each_keeps (IsCutIn bound (number v) a.removes.steps w) (IsCutIn bound (number v) (a.removes.steps ++ one) x) cut_still rids a.cut) cut_now;
  }
