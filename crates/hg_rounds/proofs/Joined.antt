-- Helpers have worked and come back: their passes are united, and each bucket was visited once.
use Rattle.std.proofs.Common.{◌≡◌, inl, inr, ℕ, suc, ◌+◌, ◌*◌, ◌<◌, ◌≤◌, ◌^◌, eqb, ltb, List, [], ◌∷◌, ◌++◌, length, take, get_or, refl, sym, ap, ◌∙◌, subst, arith, append_assoc}
use Rattle.std.proofs.Common.{append-nil, length-append, eq-eqb, ne_eqb}
use Rattle.std.proofs.lemmas.Bool.{lt-ltb, le-ltb}
use Rattle.std.specs.List.{flat_map}
use native.Mathlib.Decide.{dec_le}
use Rattle.atomic_table.specs.Seated.{TableId}
use Rattle.hg_base.specs.declared.report.Kind.TheVariants.{Interval}
use Rattle.hg_base.specs.Lists.{Each}
use Rattle.hg_base.proofs.ListFacts.{each_keeps}
use Rattle.hg_core.specs.declared.visit.Visit.{Visit}
use Rattle.hg_core.specs.Counters.{removed_all}
use Rattle.hg_core.specs.Passes.{PassRecord}
use Rattle.hg_rule.specs.declared.view.Part.TheVariants.{OfPass}
use Rattle.hg_rule.specs.declared.view.View.{View}
use Rattle.hg_rule.specs.Facts.{record_of}
use Rattle.hg_rule.specs.Keys.{one}
use Rattle.hg_rule.specs.Sharing.{HasOnlyPass, united}
use Rattle.hg_rule.specs.Views.{number, part_number, pass, pass_there, first_in, after_first, others}
use Rattle.hg_rule.specs.Seats.{BoardId, pass_view}
use Rattle.hg_rule.proofs.Lists.{each_append, each_left, each_right}
use Rattle.hg_rule.proofs.Found.{ltb_less}
use Rattle.hg_rule.proofs.Rounds.{gone_on}
use Rattle.hg_rounds.specs.Visits.{IsVisitOf, GoesOn, IsOnlyFor}
use Rattle.hg_rounds.proofs.Going.{removed_append, works}
use Rattle.hg_rounds.specs.Sweeping.{IsCleanBy}
use Rattle.hg_rounds.specs.declared.draws.Drawn.{Drawn}
use Rattle.hg_rounds.specs.declared.helper.Helper.{Helper}
use Rattle.hg_rounds.specs.Word.{times, AreAll, together, whole_quota, helper_quota}
use Rattle.hg_rounds.specs.Helpers.{visited, own_buckets, AreVisits, EndsPast, IsHelperOf, HasHelped}
use Rattle.hg_rounds.specs.Crew.{share_of, shares, IsHiredBy, HasHired, IsBack, HasPast, Unites}
use Rattle.hg_rounds.specs.Seats.{drawn_by}
use Rattle.hg_rounds.specs.Teams.{VisitOnce}
use Rattle.hg_rounds.proofs.Adding.{sum_snoc}
use Rattle.hg_rounds.proofs.Word.{times_append}

-- ---- work

-- what a helper has is of its share still
share_stays : (v w : View) → GoesOn Interval v w → (pass w).share ≡ (pass v).share
share_stays v w g = ap (λ ps. (pass_there (first_in ps)).share) g.parts

module _ (t : BoardId) (d : TableId) (buckets : ℕ) (x : View) where
  pub record Worked (hs later : List Helper) : Type 0 where
    pub back : Each (IsBack t d buckets x) later
    pub shared : shares later ≡ shares hs
    pub many : length later ≡ length hs

  pub worked : (hs later : List Helper) → Each (IsHiredBy t d x) hs → length later ≡ length hs →
      ((i : ℕ) (o : Helper) → i < length hs → HasHelped buckets (get_or hs i o) (get_or later i o) × IsHelperOf t d (get_or later i o)) → Worked hs later
  worked [] [] h e f = record { back = tt; shared = refl; many = refl }
  worked [] (b ∷ later) h e f = absurd (let a : ℕ = length later in let e' : suc a ≡ 0 = e in omega arith)
  worked (a ∷ hs) [] h e f = absurd (let b : ℕ = length hs in let e' : 0 ≡ suc b = e in omega arith)
  worked (a ∷ hs) (b ∷ later) h e f =
      let one : HasHelped buckets a b × IsHelperOf t d b = f 0 a (omega arith) in
      let fewer : (m n : ℕ) → suc m ≡ suc n → m ≡ n = (λ m n e. omega arith) in
      let rest = worked hs later h.1 (fewer _ _ e) (λ i o l. f (suc i) o (omega arith)) in
      let same = share_stays (pass_view a.pass) (pass_view b.pass) one.0.helps.on in record {
        back = (record { hired = a; hired_is = h.0; helped = one.0; own = one.1; same = same }, rest.back);
        shared = (λ i. same i + rest.shared i);
        many = ap suc rest.many;
      }

-- ---- coming back

module _ (t : BoardId) (d : TableId) (buckets n : ℕ) (x : View) where
  pub unites_none : (hs later : List Helper) (y : View) (drawn : Drawn) → HasHired t d n x hs y drawn → Worked t d buckets x hs later → Unites t d buckets n x later y drawn 0
  unites_none hs later y drawn a w = record {
    share = (pass y).share;
    visits = [];
    parts = ap (λ (v : View). v.parts) a.own_is;
    shared = (let a1 : ℕ = (pass y).share in let a2 : ℕ = shares later in let a3 : ℕ = shares hs in let a4 : ℕ = (pass x).share in let h1 : a2 ≡ a3 = w.shared in
        let h2 : a1 + a3 ≡ a4 = a.shared in omega arith);
    steps = [];
    kept = ([], ap (λ (v : View). v.sights) a.own_is ∙ sym (append-nil x.sights));
    events = ap (λ (v : View). v.events) a.own_is ∙ sym (append-nil x.events);
    work = tt;
    only = tt;
    sum_is = refl;
    gone_is = refl;
    each = tt;
    numbers = λ b l. ap (times b) a.none;
    quota_is = (let a1 : ℕ = length later in let a2 : ℕ = length hs in let a3 : ℕ = length drawn.numbers in let h1 : a1 ≡ a2 = w.many in let h2 : a2 ≡ n = a.count in
        let h3 : a3 ≡ 0 = ap length a.none in let h4 : drawn.left + n * helper_quota ≡ whole_quota = a.left in omega arith);
    past = inl (w.many ∙ a.count);
    few = (let a1 : ℕ = length later in let a2 : ℕ = length hs in let h1 : a1 ≡ a2 = w.many in let h2 : a2 ≡ n = a.count in omega arith);
    back = w.back;
    many = (let a1 : ℕ = length later in let a2 : ℕ = length hs in let a3 : ℕ = length drawn.joined in let h1 : a1 ≡ a2 = w.many in let h2 : a2 ≡ n = a.count in
        let h3 : a3 ≡ 0 = ap length a.joined in omega arith);
    ended = subst (Each (EndsPast buckets)) (sym a.joined) tt;
    by_helpers = ap (flat_map own_buckets) (sym a.joined);
  }

  -- what the part of a helper that is back is
  module _ (h : Helper) (b : IsBack t d buckets x h) where
    abbrev w : View
    w = pass_view h.pass

    abbrev v0 : View
    v0 = pass_view b.hired.pass

    abbrev more : List Visit
    more = b.helped.helps.on.visits

    pub back_parts : w.parts ≡ OfPass (number v0) (record (pass x) { visits = more; journal = []; share = share_of b.hired }) ∷ []
    back_parts = b.helped.helps.on.parts ∙ ((λ i. OfPass (number v0) (record (pass (b.hired_is.view_is i)) {
      visits = more ++ (pass (b.hired_is.view_is i)).visits;
      journal = (pass (b.hired_is.view_is i)).journal;
      share = share_of b.hired;
    }) ∷ others (b.hired_is.view_is i))
        ∙ ap (λ (vs : List Visit). OfPass (number v0) (record (pass x) { visits = vs; journal = []; share = share_of b.hired }) ∷ []) (append-nil more))

    pub back_alone : HasOnlyPass w
    back_alone = back_parts ∙ (λ i. OfPass (sym (ap part_number back_parts) i) (sym (ap (λ ps. pass_there (first_in ps)) back_parts) i) ∷ [])

    back_events : w.events ≡ b.helped.helps.on.steps
    back_events = b.helped.helps.on.events ∙ ap (λ (v : View). v.events ++ b.helped.helps.on.steps) b.hired_is.view_is

    back_visits : (pass w).visits ≡ more
    back_visits = ap (λ ps. (pass_there (first_in ps)).visits) back_parts

    back_journal : (pass w).journal ≡ []
    back_journal = ap (λ ps. (pass_there (first_in ps)).journal) back_parts

    back_record : record_of (pass v0) ≡ record (record_of (pass x)) { journal = [] }
    back_record = ap (λ (v : View). record_of (pass v)) b.hired_is.view_is

    back_each : AreVisits (IsCleanBy (record_of (pass x))) (pass x).mark (pass x).round buckets more
    back_each = subst (λ (p : PassRecord). AreVisits (IsCleanBy p) p.mark p.round buckets more) back_record b.helped.helps.each

    -- a helper more is united
    module _ (hs : List Helper) (y : View) (drawn : Drawn) (m : ℕ) (a : Unites t d buckets n x (hs ++ h ∷ []) y drawn m) (z : View) (z_is : z ≡ united y w) (later : Drawn)
        (later_is : later ≡ together drawn (drawn_by h.drawer)) where
      abbrev nh : List ℕ
      nh = b.helped.numbers

      united_number_same : number y ≡ number x
      united_number_same = ap part_number a.parts

      united_pass_same : pass y ≡ record (pass x) { visits = a.visits ++ (pass x).visits; share = a.share }
      united_pass_same = ap (λ ps. pass_there (first_in ps)) a.parts

      united_others_same : others y ≡ others x
      united_others_same = ap after_first a.parts

      numbers_after : later.numbers ≡ (b.helped.past ∷ nh) ++ drawn.numbers
      numbers_after = ap (λ (v : Drawn). v.numbers) later_is ∙ ap (λ ns. ns ++ drawn.numbers) b.helped.drew

      joined_after : later.joined ≡ (b.helped.past ∷ nh) ∷ drawn.joined
      joined_after = ap (λ (v : Drawn). v.joined) later_is ∙ ap (λ ns. ns ∷ drawn.joined) b.helped.drew

      visited_append : (vs us : List Visit) → visited (vs ++ us) ≡ visited vs ++ visited us
      visited_append [] us = refl
      visited_append (u ∷ vs) us = ap (λ l. u.bucket ∷ l) (visited_append vs us)

      counted : (k : ℕ) → k < buckets → times k later.numbers ≡ times k (visited (more ++ a.visits))
      counted k low =
          let c1 : ℕ = times k later.numbers in
          let c2 : ℕ = one (eqb b.helped.past k) in
          let c3 : ℕ = times k nh in
          let c4 : ℕ = times k drawn.numbers in
          let c5 : ℕ = times k (visited more) in
          let c6 : ℕ = times k (visited a.visits) in
          let c7 : ℕ = times k (visited (more ++ a.visits)) in
          let e1 : c1 ≡ (c2 + c3) + c4 = ap (times k) numbers_after ∙ times_append k (b.helped.past ∷ nh) drawn.numbers in
          let e2 : c2 ≡ 0 = ap one (ne_eqb b.helped.past k (λ (e : b.helped.past ≡ k). let o = b.helped.over in omega arith)) in
          let e3 : c3 ≡ c5 = ap (times k) b.helped.helps.numbers_are in
          let e4 : c4 ≡ c6 = a.numbers k low in
          let e5 : c7 ≡ c5 + c6 = ap (times k) (visited_append more a.visits) ∙ times_append k (visited more) (visited a.visits) in
          omega arith

      sums : shares (hs ++ h ∷ []) ≡ shares hs + share_of h
      sums = sum_snoc share_of hs h

      longer : length (hs ++ h ∷ []) ≡ length hs + 1
      longer = length-append hs (h ∷ [])

      pub unites_more : Unites t d buckets n x hs z later (m + h.removed)
      unites_more = record {
        share = a.share + share_of h;
        visits = more ++ a.visits;
        parts = ap (λ (v : View). v.parts) z_is ∙ ((λ i. OfPass (united_number_same i) (record (united_pass_same i) {
          visits = back_visits i ++ (united_pass_same i).visits;
          journal = (united_pass_same i).journal ++ back_journal i;
          share = (united_pass_same i).share + share_of h;
        }) ∷ united_others_same i)
            ∙ (λ i. OfPass (number x) (record (pass x) {
              visits = sym (append_assoc more a.visits (pass x).visits) i;
              journal = append-nil (pass x).journal i;
              share = a.share + share_of h;
            }) ∷ others x));
        shared = (let a1 : ℕ = a.share in let a2 : ℕ = share_of h in let a3 : ℕ = shares hs in let a4 : ℕ = shares (hs ++ h ∷ []) in let a5 : ℕ = (pass x).share in
            let h1 : a4 ≡ a3 + a2 = sums in let h2 : a1 + a4 ≡ a5 = a.shared in omega arith);
        steps = a.steps ++ b.helped.helps.on.steps;
        kept = (a.kept.0 ++ w.sights, ap (λ (v : View). v.sights) z_is ∙ (ap (λ l. l ++ w.sights) a.kept.1 ∙ append_assoc x.sights a.kept.0 w.sights));
        events = ap (λ (v : View). v.events) z_is ∙ ((λ i. a.events i ++ back_events i) ∙ append_assoc x.events a.steps b.helped.helps.on.steps);
        work = works a.steps b.helped.helps.on.steps a.work b.helped.helps.on.work;
        only = each_append (IsOnlyFor Interval) more a.visits b.helped.helps.on.only a.only;
        sum_is = (let s : removed_all Interval (more ++ a.visits) ≡ removed_all Interval more + removed_all Interval a.visits = removed_append Interval more a.visits in
            let l = gone_on a.steps b.helped.helps.on.steps in let g1 = a.sum_is in let g2 = b.helped.helps.on.sum in omega (arith, s, l, g1, g2));
        gone_is = (let l = gone_on a.steps b.helped.helps.on.steps in let g1 = a.gone_is in let g2 = b.helped.helps.gone_is in let g3 = b.helped.helps.on.sum in omega (arith, l, g1, g2, g3));
        each = each_append (λ (v : Visit). (v.bucket < buckets) × IsVisitOf Interval (IsCleanBy (record_of (pass x))) (pass x).mark (pass x).round v.bucket v) more a.visits back_each a.each;
        numbers = counted;
        quota_is = (let l1 : ℕ = later.left in let l2 : ℕ = drawn.left in let l3 : ℕ = (drawn_by h.drawer).left in let l4 : ℕ = length later.numbers in
            let l5 : ℕ = length drawn.numbers in let l6 : ℕ = length nh in let l7 : ℕ = length hs in let l8 : ℕ = length (hs ++ h ∷ []) in
            let e1 : l1 ≡ l2 + l3 = ap (λ (v : Drawn). v.left) later_is in let e2 : l4 ≡ suc l6 + l5 = ap length numbers_after ∙ length-append (b.helped.past ∷ nh) drawn.numbers in
            let e3 : l8 ≡ l7 + 1 = longer in let e4 : l3 + suc l6 ≡ helper_quota = b.helped.quota_is in let e5 : l2 + l5 + l8 * helper_quota ≡ whole_quota = a.quota_is in omega arith);
        past = inr (
          b.helped.past,
          b.helped.over,
          (let c1 : ℕ = times b.helped.past later.numbers in let c2 : ℕ = one (eqb b.helped.past b.helped.past) in let c3 : ℕ = times b.helped.past nh in
              let c4 : ℕ = times b.helped.past drawn.numbers in
              let e1 : c1 ≡ (c2 + c3) + c4 = ap (times b.helped.past) numbers_after ∙ times_append b.helped.past (b.helped.past ∷ nh) drawn.numbers in
              let e2 : c2 ≡ 1 = ap one (eq-eqb b.helped.past b.helped.past refl) in omega arith),
        );
        few = (let r1 : ℕ = h.removed in let r2 : ℕ = length hs in let r3 : ℕ = length (hs ++ h ∷ []) in let e1 : r3 ≡ r2 + 1 = longer in let l1 : r1 ≤ 2 ^ 41 = b.helped.few in
            let l2 : m + r3 * 2 ^ 41 ≤ n * 2 ^ 41 = a.few in omega arith);
        back = each_left (IsBack t d buckets x) hs (h ∷ []) a.back;
        many = (let l1 : ℕ = length later.joined in let l2 : ℕ = length drawn.joined in let l3 : ℕ = length hs in let l4 : ℕ = length (hs ++ h ∷ []) in
            let e1 : l1 ≡ suc l2 = ap length joined_after in let e2 : l4 ≡ l3 + 1 = longer in let e3 : l2 + l4 ≡ n = a.many in omega arith);
        ended = subst (Each (EndsPast buckets)) (sym joined_after) (b.helped.over, a.ended);
        by_helpers = visited_append more a.visits ∙ ((λ i. sym b.helped.helps.numbers_are i ++ a.by_helpers i) ∙ ap (flat_map own_buckets) (sym joined_after));
      }

  -- ---- all are back

  module _ (y : View) (drawn : Drawn) (m : ℕ) (a : Unites t d buckets n x [] y drawn m) (some : 0 < n) (all : AreAll drawn.numbers) where
    -- a number past the last bucket was drawn, so all numbers of buckets were
    over : buckets < all.0
    over = go a.past
      where
        go : HasPast buckets n [] drawn.numbers → buckets < all.0
        go (inl e) = absurd (let e' : 0 ≡ n = e in omega arith)
        go (inr p) = let l : p.0 < all.0 = ltb_less p.0 all.0 (let c1 : ℕ = times p.0 drawn.numbers in let c2 : ℕ = one (ltb p.0 all.0) in let e : c1 ≡ c2 = all.1 p.0 in
            let l : 0 < c1 = p.2 in omega arith) in let o = p.1 in omega arith

    none_over : (b : ℕ) (visits : List Visit) → buckets ≤ b → AreVisits (IsCleanBy (record_of (pass x))) (pass x).mark (pass x).round buckets visits → times b (visited visits) ≡ 0
    none_over b [] l h = refl
    none_over b (v ∷ visits) l h = let c1 : ℕ = one (eqb v.bucket b) in let c2 : ℕ = times b (visited visits) in
        let e1 : c1 ≡ 0 = ap one (ne_eqb v.bucket b (λ (e : v.bucket ≡ b). let o = h.0.0 in omega arith)) in let e2 : c2 ≡ 0 = none_over b visits l h.1 in omega arith

    once : (b : ℕ) → times b (visited a.visits) ≡ one (ltb b buckets)
    once b = go (dec_le (suc b) buckets)
      where
        go : Dec (suc b ≤ buckets) → times b (visited a.visits) ≡ one (ltb b buckets)
        go (yes l) = sym (a.numbers b l) ∙ (all.1 b ∙ (ap one (lt-ltb b all.0 (let o = over in omega arith)) ∙ sym (ap one (lt-ltb b buckets l))))
        go (no l) = none_over b a.visits (omega arith) a.each ∙ sym (ap one (le-ltb b buckets (omega arith)))

    pub visit_once : VisitOnce buckets x a.visits
    visit_once = record { once = once; each = a.each }

    pub united_parts : y.parts ≡ OfPass (number x) (record (pass x) { visits = a.visits ++ (pass x).visits }) ∷ others x
    united_parts = a.parts ∙ ap (λ (s : ℕ). OfPass (number x) (record (pass x) { visits = a.visits ++ (pass x).visits; share = s }) ∷ others x) (let s : ℕ = a.share in
        let u : ℕ = (pass x).share in let e : s + 0 ≡ u = a.shared in let h : s ≡ u = omega arith in h)

    -- the round's visits and steps
    abbrev pub goes : GoesOn Interval x y
    goes = record { visits = a.visits; steps = a.steps; work = a.work; only = a.only; now = each_keeps _ _ (λ v i. ap (λ (y : Visit). y.round) i.1.is) a.visits a.each; sum = a.sum_is; parts = united_parts; kept = a.kept; events = a.events }

-- ---- the last helper of a list

module _ (t : BoardId) (d : TableId) (buckets n : ℕ) (x : View) (hs l : List Helper) (h : Helper) (y : View) (drawn : Drawn) (m : ℕ) (a : Unites t d buckets n x l y drawn m)
    (last : l ≡ hs ++ h ∷ []) where
  pub last_unites : Unites t d buckets n x (hs ++ h ∷ []) y drawn m
  last_unites = subst (λ (k : List Helper). Unites t d buckets n x k y drawn m) last a

  pub last_back : IsBack t d buckets x h
  last_back = (each_right (IsBack t d buckets x) hs (h ∷ []) (subst (Each (IsBack t d buckets x)) last a.back)).0

  pub last_fits : m + h.removed ≤ n * 2 ^ 41
  last_fits =
      let u : m + length l * 2 ^ 41 ≤ n * 2 ^ 41 = a.few in
      let e : length l ≡ length hs + 1 = ap (λ (k : List Helper). length k) last ∙ length-append hs (h ∷ []) in
      let s : h.removed ≤ 2 ^ 41 = last_back.helped.few in
      omega (arith, u, e, s)

pub all_quota : (t : BoardId) (d : TableId) (buckets n : ℕ) (x : View) (l : List Helper) (y : View) (drawn : Drawn) (m : ℕ) → Unites t d buckets n x l y drawn m → l ≡ [] →
    drawn.left + length drawn.numbers ≡ whole_quota
all_quota t d buckets n x l y drawn m a none =
    let q : drawn.left + length drawn.numbers + length l * helper_quota ≡ whole_quota = a.quota_is in
    let e : length l ≡ 0 = ap (λ (k : List Helper). length k) none in
    omega (arith, q, e)

pub take_whole : {A : Type 0} (xs ys : List A) → take (length xs) (xs ++ ys) ≡ xs
take_whole [] ys = refl
take_whole (x ∷ xs) ys = ap (λ l. x ∷ l) (take_whole xs ys)
