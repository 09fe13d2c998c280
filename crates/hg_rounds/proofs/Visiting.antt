-- A bucket is taken, its tables are cleared, and it is given back.
use Rattle.std.proofs.Common.{◌≡◌, ℕ, suc, ◌+◌, ◌<◌, ◌≤◌, ◌^◌, Bool, true, false, List, [], ◌∷◌, ◌++◌, refl, sym, ap, ◌∙◌, subst, arith}
use Rattle.std.specs.Prelude.{if◌then◌else◌}
use native.Mathlib.Decide.{dec_le}
use Rattle.hg_base.specs.declared.rid.Rid.{Rid}
use Rattle.hg_base.specs.declared.report.Kind.{Kind}
use Rattle.hg_base.specs.Lists.{Each}
use Rattle.hg_base.specs.History.{same_rid}
use Rattle.hg_base.proofs.HistoryFacts.{same_rid_equal}
use Rattle.hg_core.specs.declared.version.Version.{Version}
use Rattle.hg_core.specs.declared.visit.Visit.{Visit}
use Rattle.hg_core.specs.Contents.{Content, look}
use Rattle.hg_core.specs.Counters.{removed_all}
use Rattle.hg_core.specs.Passes.{PassRecord}
use Rattle.hg_rule.specs.declared.view.PassPart.{PassPart}
use Rattle.hg_rule.specs.declared.view.Part.TheVariants.{OfBucket, OfPass}
use Rattle.hg_rule.specs.declared.view.View.{View}
use Rattle.hg_rule.specs.declared.view.Sizes.{Sizes}
use Rattle.hg_rule.specs.Facts.{record_of, Shown}
use Rattle.hg_rule.specs.Rules.{HasRoom, IsBacked}
use Rattle.hg_rule.specs.Views.{number, pass, others, part_number, pass_there, first_in, after_first, HasPass}
use Rattle.hg_rule.specs.Holding.{bucket, beyond, held}
use Rattle.hg_rule.specs.Places.{HoldsBucket, arriving, arrive_first, departing, without_bucket}
use Rattle.hg_rule.specs.Moves.{put_in}
use Rattle.hg_rule.specs.Removes.{visiting}
use Rattle.hg_rule.proofs.Holders.{pass_departs}
use Rattle.hg_rule.proofs.Rounds.{gone_on}
use Rattle.hg_store.specs.Stores.{Takes}
use Rattle.hg_store.proofs.Holding.{total_at}
use Rattle.hg_rounds.specs.Visits.{closed_visit, IsVisitOf, OneEach, Visits, VisitsAll}
use Rattle.hg_rounds.specs.Tables.{ClearsTables}
use Rattle.hg_rounds.proofs.Counted.{few}
use Rattle.hg_rounds.proofs.Going.{more_is, more_only, same_pass, visits_after, removed_append, goes_none, goes_on}

none_placed : (n : ℕ) (r : Rid) (es : Content) → Each (λ e. e.0.table.0 < n) es → n ≤ r.table.0 → look r es ≡ []
none_placed n r [] h l = refl
none_placed n r (e ∷ es) h l = go (same_rid r e.0) refl (none_placed n r es h.1 l)
  where
    go : (t : Bool) → same_rid r e.0 ≡ t → look r es ≡ [] → (if t then e.1 else look r es) ≡ []
    go true q ih = absurd (let same : r.table.0 ≡ e.0.table.0 = ap (λ (x : Rid). x.table.0) (same_rid_equal r e.0 q) in omega (arith, same, h.0, l))
    go false q ih = ih

-- ---- a visit

module _ (kind : Kind) (v x : View) (b : ℕ) (own : HasPass v) (takes : Takes v b x) where
  pub parts_taken : x.parts ≡ OfPass (number v) (arriving b (pass v)) ∷ OfBucket b takes.part ∷ others v
  parts_taken = ap (λ (y : View). y.parts) takes.after ∙ (λ i. put_in (arrive_first b (own i)) (OfBucket b takes.part ∷ []))

  pub pass_taken : pass x ≡ arriving b (pass v)
  pass_taken = ap (λ ps. pass_there (first_in ps)) parts_taken

  pub number_taken : number x ≡ number v
  number_taken = ap part_number parts_taken

  -- the pass has its part first still
  pub own_taken : HasPass x
  own_taken = parts_taken ∙ (λ i. OfPass (sym number_taken i) (sym pass_taken i) ∷ sym (ap after_first parts_taken) i)

  -- and its record is as it was
  pub record_taken : record_of (pass x) ≡ record_of (pass v)
  record_taken = ap record_of pass_taken

  module _ (z : Sizes) (mark : ℕ) (backed : IsBacked z mark x) where
    -- no record of another table is there
    none_other : (r : Rid) → z.tables ≤ r.table.0 → held x r ≡ []
    none_other r l =
        let s = backed.state in
        let there = subst (Each (Shown s)) parts_taken backed.true_of.parts in
        let same : (bucket x).content ≡ s.bucket b = ap (λ ps. (bucket (record x { parts = ps })).content) parts_taken ∙ sym there.1.0.0 in
        ap (look r) same ∙ none_placed z.tables r (s.bucket b) (subst (λ n. Each (λ e. e.0.table.0 < n) (s.bucket b)) backed.sized.tables (backed.steady.contents_are_placed b).table) l

    -- the tables are cleared by what is recorded, which the take left as it was
    module _ (Q : PassRecord → Rid → List Version → Type 0) (empty : (p : PassRecord) (r : Rid) → Q p r []) (gone : ℕ) (y w : View) (owns : HasPass y)
        (c : ClearsTables kind (Q (record_of (pass x))) z.tables gone x y) (left : w ≡ without_bucket y) where
      abbrev content : Content
      content = (bucket y).content

      as_given : (r : Rid) → Dec (r.table.0 < z.tables) → Q (record_of (pass v)) r (look r content)
      as_given r (yes l) = subst (λ p. Q p r (look r content)) record_taken (c.left r l)
      as_given r (no l) = subst (Q (record_of (pass v)) r) (sym (c.rest r (omega (arith, l)) ∙ none_other r (omega (arith, l)))) (empty (record_of (pass v)) r)

      numbers : number y ≡ number v
      numbers = c.removes.counts.same_number ∙ number_taken

      visited : pass y ≡ visiting kind gone (arriving b (pass v))
      visited = c.removes.counts.visit ∙ ap (visiting kind gone) pass_taken

      behind : beyond y ≡ others v
      behind = c.removes.counts.rest ∙ ap (λ ps. after_first (after_first ps)) parts_taken

      pub visit_is : Visits kind (Q (record_of (pass v))) b gone v w
      visit_is = record {
        on = record {
          visits = closed_visit kind (pass v).mark (pass v).round b gone content ∷ [];
          steps = c.removes.steps;
          work = c.removes.work;
          only = (more_only kind (pass v).mark (pass v).round b gone content, tt);
          now = (refl, tt);
          sum = omega (arith, c.removes.removed, more_is kind gone);
          parts = pass_departs y w owns left ∙ (λ i. OfPass (numbers i) (departing content (visited i)) ∷ behind i);
          kept = (takes.seen, ap (λ (t : View). t.sights) left ∙ c.removes.counts.sights ∙ ap (λ (t : View). t.sights) takes.after);
          events = ap (λ (t : View). t.events) left ∙ c.removes.events ∙ ap (λ (t : View). t.events ++ c.removes.steps) takes.after;
        };
        gone_is = sym c.removes.removed;
        visit = closed_visit kind (pass v).mark (pass v).round b gone content;
        only = refl;
        is = record { gone = gone; given = content; is = refl; left = λ r. as_given r (dec_le (suc r.table.0) z.tables) };
      }

      -- no more went than was ever made
      pub visit_few : HasRoom z → HoldsBucket b x → removed_all kind (pass w).visits ≤ 2 ^ 41
      unfolding visit_is
      visit_few room holds =
          let before = few kind z mark x room backed own_taken in
          let arrived : removed_all kind (pass x).visits ≡ removed_all kind (arriving b (pass v)).visits = ap (λ (p : PassPart). removed_all kind p.visits) pass_taken in
          let most = total_at z mark b x backed holds in
          let all : removed_all kind (pass w).visits ≡ removed_all kind (closed_visit kind (pass v).mark (pass v).round b gone content ∷ (pass v).visits) = ap (removed_all kind)
          (visits_after kind v w visit_is.on) in
          omega (arith, before, arrived, most, all, more_is kind gone, c.removes.counts.versions, room.begins)

-- ---- one visit after the other

pub visits_none : (kind : Kind) (Q : Rid → List Version → Type 0) (v : View) → HasPass v → VisitsAll kind Q 0 0 v v
visits_none kind Q v own = record { on = goes_none kind v own; gone_is = refl; once = tt }

-- a bucket more, each by what was recorded when it was taken
pub visits_more : (kind : Kind) (Q : PassRecord → Rid → List Version → Type 0) (u v w : View) (n m k : ℕ) → VisitsAll kind (Q (record_of (pass u))) n m u v →
    Visits kind (Q (record_of (pass v))) n k v w → VisitsAll kind (Q (record_of (pass u))) (n + 1) (m + k) u w
visits_more kind Q u v w n m k a b =
    let s = same_pass kind u v a.on in
    let P : ℕ → Visit → Type 0 = IsVisitOf kind (Q (record_of (pass u))) (pass u).mark (pass u).round in
    let is : P n b.visit = subst (λ (t : PassRecord). IsVisitOf kind (Q t) t.mark t.round n b.visit) s.record_is b.is in
    let next : suc n ≡ n + 1 = omega arith in
    let all : VisitsAll kind (Q (record_of (pass u))) (suc n) (m + k) u w = record {
      on = goes_on kind u v w a.on b.on;
      gone_is = let l = gone_on a.on.steps b.on.steps in omega (arith, l, a.gone_is, b.gone_is);
      once = subst (λ vs. OneEach P (suc n) (vs ++ a.on.visits)) (sym b.only) (is, a.once);
    } in
    subst (λ j. VisitsAll kind (Q (record_of (pass u))) j (m + k) u w) next all

-- so many are few
pub visits_few : (kind : Kind) (Q : Rid → List Version → Type 0) (n m : ℕ) (v w : View) → VisitsAll kind Q n m v w → removed_all kind (pass w).visits ≤ 2 ^ 41 → m ≤ 2 ^ 41
visits_few kind Q n m v w c few =
    let e : removed_all kind (pass w).visits ≡ removed_all kind (c.on.visits ++ (pass v).visits) = ap (removed_all kind) (visits_after kind v w c.on) in
    let s = removed_append kind c.on.visits (pass v).visits in
    omega (arith, e, s, few, c.gone_is, c.on.sum)
