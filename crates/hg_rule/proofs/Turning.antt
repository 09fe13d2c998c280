-- A bucket or the committer's part comes to a pass and leaves it. With a bucket a collector's visit begins and ends.
use Rattle.std.proofs.Common.{◌≡◌, ℕ, zero, suc, ◌+◌, ◌<◌, ◌≤◌, List, [], ◌∷◌, ◌++◌, length, set, refl, sym, ap, ◌∙◌, subst, arith}
use mathlib.Core.Option.{some, some-ne-none}
use Rattle.std.specs.Prelude.{Some, None}
use Rattle.hg_core.specs.Counters.{none_removed}
use Rattle.hg_rule.specs.Facts.{StartsWith}
use lib.ListN.{get_elem?}
use Rattle.hg_base.specs.Lists.{Each}
use Rattle.atomic_table.specs.Table.{Splits, Joins}
use Rattle.atomic_table.proofs.Lists.{set_here, set_else, set_again}
use Rattle.hg_core.specs.declared.visit.Visit.{Visit}
use Rattle.hg_core.specs.Contents.{Content}
use Rattle.hg_core.specs.Visits.{IsVisiting, giving}
use Rattle.hg_core.specs.State.{CoreState}
use Rattle.hg_core.specs.Events.{put}
use Rattle.hg_core.specs.Steps.{Arrive, Leave, step, LeadsTo}
use Rattle.hg_core.proofs.Indices.{put_here, put_else}
use Rattle.hg_rule.specs.declared.view.BucketPart.{BucketPart}
use Rattle.hg_rule.specs.declared.view.CommitPart.{CommitPart}
use Rattle.hg_rule.specs.declared.view.PassPart.{PassPart}
use Rattle.hg_rule.specs.declared.view.Part.{Part}
use Rattle.hg_rule.specs.declared.view.Part.TheVariants.{OfSession, OfBucket, OfCommit, OfPass, Away, Lent}
use Rattle.hg_rule.specs.declared.view.View.{View}
use Rattle.hg_rule.specs.declared.view.Sizes.{Sizes}
use Rattle.hg_rule.specs.Keys.{Key, bucket_key, pass_key, key_of, has, one, count, tally, share_of, shares, expected}
use Rattle.hg_rule.specs.Facts.{Shown, Known}
use Rattle.hg_rule.specs.Rules.{new_state, Rule}
use Rattle.hg_rule.specs.Views.{seeing, first_in, others, part_number}
use Rattle.hg_rule.specs.Moves.{put_in, joined, spent}
use Rattle.hg_rule.specs.Holding.{bucket, bucket_number, beyond, commit}
use Rattle.hg_rule.specs.Places.{HasFirst, arriving, arrive, arrive_first, with_bucket, departing, depart, without_bucket, IsThere, HoldsBucket, bucket_alone, without_commit, commit_alone}
use Rattle.hg_rule.specs.Places.{HoldsCommit}
use Rattle.hg_rule.proofs.Counts.{another, count_self, one_true}
use Rattle.hg_rule.proofs.Found.{ltb_less}
use Rattle.hg_rule.proofs.Growing.{Grows}
use Rattle.hg_rule.proofs.Lists.{starts_same, ends_same, each_append}
use Rattle.hg_rule.proofs.Keeps.{Table, turn, true_on, may_split, tally_one}
use Rattle.hg_rule.proofs.Shifts.{joins}
use Rattle.hg_rule.proofs.Reached.{stepped}

-- ---- the parts that a view has are there

pub in_range : (n : ℕ) (views : List View) (id : ℕ) (v : View) → get_elem? views id ≡ some v → id < length views
in_range n [] id v e = absurd (some-ne-none v (sym e))
in_range n (x ∷ views) zero v e = omega arith
in_range n (x ∷ views) (suc id) v e = let h = in_range n views id v e in omega arith

set_twice : (views : List View) (id : ℕ) (v w : View) → set (set views id v) id w ≡ set views id w
set_twice [] id v w = refl
set_twice (x ∷ views) zero v w = refl
set_twice (x ∷ views) (suc id) v w = ap (λ l. x ∷ l) (set_twice views id v w)

pub there : (z : Sizes) (t : Table) (r : Rule z t) (id : ℕ) (v : View) (k : Key) → get_elem? t.views id ≡ some v → 0 < count k v.parts → 0 < expected z r.used k
there z t r id v k at l = let a : ℕ = count k v.parts in let b : ℕ = tally k t.views in let c : ℕ = expected z r.used k in let h : a ≤ b = tally_one k t.views id v at in
    let e : b ≡ c = r.exact k in omega arith

pub has_part : (p : Part) (ps qs : List Part) → qs ≡ p ∷ ps → 0 < count (key_of p) qs
has_part p ps qs e = subst (λ l. 0 < count (key_of p) l) (sym e) (count_self p ps)

-- ---- a collector's visits change

visits_only : (c : CoreState) (p : ℕ) (old : PassPart) (visits : List Visit) (q : Part) → count (key_of q) (OfPass p old ∷ []) ≡ 0 → Shown c q → Shown (record c { visits = put c.visits p visits }) q
visits_only c p old visits (OfSession k t) away s = s
visits_only c p old visits (OfBucket b t) away s = s
visits_only c p old visits (OfCommit t) away s = s
visits_only c p old visits (Away k t n) away s = s
visits_only c p old visits (Lent k t) away s = s
visits_only c p old visits (OfPass q t) away s = (s.0, (put_else c.visits p q visits (another p q away) ∙ s.1.0, s.1.1))

turned : (z : Sizes) (t : Table) (r : Rule z t) (id : ℕ) (v : View) (p : ℕ) (part : PassPart) (ps : List Part) (visits : List Visit) → get_elem? t.views id ≡ some v → v.parts ≡ OfPass p part ∷ ps
    → LeadsTo (new_state z) (record r.state { visits = put r.state.visits p visits })
    → Rule z record { words = t.words; homes = t.homes; views = set t.views id (seeing (OfPass p (record part { visits = visits }) ∷ ps) v.sights v.events) }
turned z t r id v p part ps visits at is reached = turn z t r id v (seeing (OfPass p new ∷ ps) v.sights v.events) (OfPass p part ∷ []) (OfPass p new ∷ []) ps t.words d at is refl
    record {
      reached = reached;
      sized = record { sessions = r.sized.sessions; tables = r.sized.tables; buckets = r.sized.buckets; quota = r.sized.quota };
      passes = refl;
      shows = record { count = r.words.count; mark = r.words.mark; registers = r.words.registers; masks = r.words.masks };
      grows = grows;
      only = visits_only c p part visits;
      counts = λ k. refl;
      shared = refl;
    }
    (λ rest. true_on c d v (OfPass p new ∷ ps) grows ((own.0, (put_here c.visits p visits, own.1.1)), rest) (r.shown id v at))
  where
    c : CoreState
    c = r.state

    new : PassPart
    new = record part { visits = visits }

    d : CoreState
    d = record c { visits = put c.visits p visits }

    grows : Grows c d
    grows = record { history = starts_same c.history; logs = λ k. ends_same (c.log k); taken = omega arith }

    own : Shown c (OfPass p part)
    own = (subst (Each (Shown c)) is (r.shown id v at).parts).0

-- the part is the same, or is a pass's with other visits
same_view : (z : Sizes) (t : Table) (id : ℕ) (v : View) (parts : List Part) → get_elem? t.views id ≡ some v → v.parts ≡ parts → Rule z t →
    Rule z record { words = t.words; homes = t.homes; views = set t.views id (seeing parts v.sights v.events) }
same_view z t id v parts at is r = subst (λ (l : List View). Rule z record { words = t.words; homes = t.homes; views = l })
    (sym (ap (λ (ps : List Part). set t.views id (seeing ps v.sights v.events)) (sym is) ∙ set_again t.views id v at)) r

arrived : (z : Sizes) (t : Table) (id : ℕ) (v : View) (b : ℕ) (parts : List Part) → get_elem? t.views id ≡ some v → v.parts ≡ parts → (r : Rule z t) → 0 < expected z r.used (bucket_key b)
    → Rule z record { words = t.words; homes = t.homes; views = set t.views id (seeing (arrive_first b parts) v.sights v.events) }
arrived z t id v b [] at is r l = same_view z t id v [] at is r
arrived z t id v b (OfSession j s ∷ ps) at is r l = same_view z t id v (OfSession j s ∷ ps) at is r
arrived z t id v b (OfBucket c s ∷ ps) at is r l = same_view z t id v (OfBucket c s ∷ ps) at is r
arrived z t id v b (OfCommit s ∷ ps) at is r l = same_view z t id v (OfCommit s ∷ ps) at is r
arrived z t id v b (Away j s n ∷ ps) at is r l = same_view z t id v (Away j s n ∷ ps) at is r
arrived z t id v b (Lent j s ∷ ps) at is r l = same_view z t id v (Lent j s ∷ ps) at is r
arrived z t id v b (OfPass p part ∷ ps) at is r l =
    let c = r.state in
    let own : Shown c (OfPass p part) = (subst (Each (Shown c)) is (r.shown id v at).parts).0 in
    let small : p < c.passes = r.passes.below p (one_true (r.used p) (there z t r id v (pass_key p) at (has_part (OfPass p part) ps v.parts is))) in
    let low : b < z.buckets = ltb_less b z.buckets l in
    let kept : LeadsTo (new_state z) (step c (Arrive p b)) = stepped z c (Arrive p b) r.reached record { pass = small; bucket = subst (λ n. b < n) (sym r.sized.buckets) low } in
    turned z t r id v p part ps (arriving b part).visits at is
    (subst (λ (visits : List Visit). LeadsTo (new_state z) (record c { visits = put c.visits p visits })) (λ i. record { bucket = b; mark = (own.0 i).mark; round = (own.0 i).round; removed = none_removed; given = None } ∷ own.1.0 i) kept)

departed : (z : Sizes) (t : Table) (id : ℕ) (v : View) (b : ℕ) (part : BucketPart) (ps : List Part) (p : Part) → get_elem? t.views id ≡ some v →
    v.parts ≡ p ∷ OfBucket b part ∷ ps → (r : Rule z t) → IsThere b p
    → Rule z record { words = t.words; homes = t.homes; views = set t.views id (seeing (depart part.content p ∷ OfBucket b part ∷ ps) v.sights v.events) }
departed z t id v b part ps (OfSession j s) at is r l = same_view z t id v (OfSession j s ∷ OfBucket b part ∷ ps) at is r
departed z t id v b part ps (OfBucket c s) at is r l = same_view z t id v (OfBucket c s ∷ OfBucket b part ∷ ps) at is r
departed z t id v b part ps (OfCommit s) at is r l = same_view z t id v (OfCommit s ∷ OfBucket b part ∷ ps) at is r
departed z t id v b part ps (Away j s n) at is r l = same_view z t id v (Away j s n ∷ OfBucket b part ∷ ps) at is r
departed z t id v b part ps (Lent j s) at is r l = same_view z t id v (Lent j s ∷ OfBucket b part ∷ ps) at is r
departed z t id v b part ps (OfPass p s) at is r l =
    let c = r.state in
    let own : Each (Shown c) (OfPass p s ∷ OfBucket b part ∷ ps) = subst (Each (Shown c)) is (r.shown id v at).parts in
    let kept : LeadsTo (new_state z) (step c (Leave p)) = stepped z c (Leave p) r.reached (b, subst (IsVisiting b) (sym own.0.1.0) l) in
    turned z t r id v p s (OfBucket b part ∷ ps) (departing part.content s).visits at is
    (subst (λ (visits : List Visit). LeadsTo (new_state z) (record c { visits = put c.visits p visits })) (given c.bucket part.content b s.visits l own.1.0.0 (c.visits p) own.0.1.0) kept)
  where
    given : (bucket : ℕ → Content) (content : Content) (b : ℕ) (visits : List Visit) → IsVisiting b visits → bucket b ≡ content → (vs : List Visit) → vs ≡ visits →
        giving bucket vs ≡ giving (λ b. content) visits
    given bucket content b [] l e vs is = absurd l
    given bucket content b (x ∷ visits) l e vs is = ap (giving bucket) is ∙ ap (λ (c : Content). record x { given = Some c } ∷ visits) (ap bucket l.0 ∙ e)

-- ---- the moves

pub arrives : (z : Sizes) (id : ℕ) (v : View) (other : ℕ) (w : View) (b : ℕ) (part : BucketPart) → w.parts ≡ OfBucket b part ∷ [] → Joins (Rule z) id v other w (with_bucket v w) spent
arrives z id v other w b part only t r at apart at2 =
    let at3 : get_elem? t.views other ≡ some w = sym (set_else t.views id other (with_bucket v w) apart) ∙ at2 in
    let low : 0 < expected z r.used (bucket_key b) = there z t r other w (bucket_key b) at3 (has_part (OfBucket b part) [] w.parts only) in
    let number : part_number w.parts ≡ b = ap part_number only in
    let r1 = arrived z t id v (part_number w.parts) v.parts at refl r (subst (λ n. 0 < expected z r.used (bucket_key n)) (sym number) low) in
    let views : List View = set t.views id mid in
    let at1 : get_elem? views id ≡ some mid = set_here t.views id mid (in_range 0 t.views id v at) in
    let at4 : get_elem? (set views id (with_bucket v w)) other ≡ some w = ap (λ (l : List View). get_elem? l other) (set_twice t.views id mid (with_bucket v w)) ∙ at2 in
    subst (λ (l : List View). Rule z record { words = t.words; homes = t.homes; views = set l other spent }) (set_twice t.views id mid (with_bucket v w))
    (joins z id mid other w (record { words = t.words; homes = t.homes; views = views }) r1 at1 apart at4)
  where
    mid : View
    mid = seeing (arrive_first (part_number w.parts) v.parts) v.sights v.events

pub departs : (z : Sizes) (id : ℕ) (v : View) (b : ℕ) → HoldsBucket b v → Splits (Rule z) id v (without_bucket v) (bucket_alone v)
departs z id v b holds t r at =
    let r1 = departed z t id v b (bucket v) (beyond v) (first_in v.parts) at is r holds.1.1 in
    let at1 : get_elem? (set t.views id mid) id ≡ some mid = set_here t.views id mid (in_range 0 t.views id v at) in
    subst (λ (l : List View). Rule z record { words = t.words; homes = t.homes; views = l ++ bucket_alone v ∷ [] }) (set_twice t.views id mid (without_bucket v))
    (parted (record { words = t.words; homes = t.homes; views = set t.views id mid }) r1 at1)
  where
    mid : View
    mid = seeing (depart (bucket v).content (first_in v.parts) ∷ OfBucket b (bucket v) ∷ beyond v) v.sights v.events

    is : v.parts ≡ first_in v.parts ∷ OfBucket b (bucket v) ∷ beyond v
    is = holds.0 ∙ ap (λ (l : List Part). first_in v.parts ∷ l) holds.1.0

    number : b ≡ bucket_number v
    number = sym (ap part_number holds.1.0)

    alone : View
    alone = seeing (OfBucket b (bucket v) ∷ []) v.sights []

    parted : Splits (Rule z) id mid (without_bucket v) (bucket_alone v)
    parted = subst (λ (n : ℕ). Splits (Rule z) id mid (without_bucket v) (seeing (OfBucket n (bucket v) ∷ []) v.sights [])) number (may_split z id mid (without_bucket v) alone record {
      counts = λ k. let x : ℕ = one (has k (depart (bucket v).content (first_in v.parts))) in let y : ℕ = one (has k (OfBucket b (bucket v))) in let n : ℕ = count k (beyond v) in omega arith;
      shared = let x : ℕ = share_of (depart (bucket v).content (first_in v.parts)) in let n : ℕ = shares (beyond v) in omega arith;
      left = λ s h. record { parts = (h.parts.0, h.parts.1.1); sights = h.sights; events = h.events };
      right = λ s h. record { parts = (h.parts.1.0, tt); sights = h.sights; events = tt };
    })

pub resigns : (z : Sizes) (id : ℕ) (v : View) → HoldsCommit v → Splits (Rule z) id v (without_commit v) (commit_alone v)
resigns z id v holds = may_split z id v (without_commit v) (commit_alone v) record {
  counts = λ k. let a : ℕ = count k v.parts in let x : ℕ = one (has k (first_in v.parts)) in let y : ℕ = one (has k (OfCommit (commit v))) in let n : ℕ = count k (beyond v) in
      let e : a ≡ x + (y + n) = ap (count k) is in omega arith;
  shared = let a : ℕ = shares v.parts in let x : ℕ = share_of (first_in v.parts) in let n : ℕ = shares (beyond v) in let e : a ≡ x + (0 + n) = ap shares is in omega arith;
  left = λ s h. let ps = subst (Each (Shown s)) is h.parts in record {
    parts = (ps.0, ps.1.1);
    sights = each_append (Known s) v.sights _ h.sights (subst (λ h'. StartsWith s.history h') ps.1.0.0 (starts_same s.history), (let e : s.taken ≡ (commit v).taken = ps.1.0.1.1 in omega arith, tt));
    events = h.events;
  };
  right = λ s h. let ps = subst (Each (Shown s)) is h.parts in record { parts = (ps.1.0, tt); sights = h.sights; events = tt };
}
  where
    is : v.parts ≡ first_in v.parts ∷ OfCommit (commit v) ∷ beyond v
    is = holds.0 ∙ ap (λ (l : List Part). first_in v.parts ∷ l) holds.1

-- ---- what a view has then

pub holds_bucket : (v w u : View) (b : ℕ) (part : BucketPart) → HasFirst v → w.parts ≡ OfBucket b part ∷ [] → u ≡ with_bucket v w → HoldsBucket b u
holds_bucket v w u b part first only e = subst (HoldsBucket b) (sym e) (go v.parts w.parts first only)
  where
    here : (p : Part) (b : ℕ) → IsThere b (arrive b p)
    here (OfSession j s) b = tt
    here (OfBucket c s) b = tt
    here (OfCommit s) b = tt
    here (OfPass q s) b = (refl, refl)
    here (Away j s n) b = tt
    here (Lent j s) b = tt

    go : (ps qs : List Part) → ps ≡ first_in v.parts ∷ others v → qs ≡ OfBucket b part ∷ [] → HoldsBucket b (seeing (put_in (arrive_first (part_number qs) ps) qs) (v.sights ++ w.sights) v.events)
    go ps qs is is' = subst (λ (ps : List Part). HoldsBucket b (seeing (put_in (arrive_first (part_number qs) ps) qs) (v.sights ++ w.sights) v.events)) (sym is)
        (subst (λ (qs : List Part). HoldsBucket b (seeing (put_in (arrive_first (part_number qs) (first_in v.parts ∷ others v)) qs) (v.sights ++ w.sights) v.events)) (sym is')
        (refl, (refl, here (first_in v.parts) b)))

pub holds_commit : (v w u : View) (part : CommitPart) → HasFirst v → w.parts ≡ OfCommit part ∷ [] → u ≡ joined v w → HoldsCommit u
holds_commit v w u part first only e = subst HoldsCommit (sym e) (go v.parts w.parts first only)
  where
    go : (ps qs : List Part) → ps ≡ first_in v.parts ∷ others v → qs ≡ OfCommit part ∷ [] → HoldsCommit (seeing (put_in ps qs) (v.sights ++ w.sights) v.events)
    go ps qs is is' = subst (λ (ps : List Part). HoldsCommit (seeing (put_in ps qs) (v.sights ++ w.sights) v.events)) (sym is)
        (subst (λ (qs : List Part). HoldsCommit (seeing (put_in (first_in v.parts ∷ others v) qs) (v.sights ++ w.sights) v.events)) (sym is') (refl, refl))
