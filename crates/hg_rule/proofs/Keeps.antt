-- A step that changes the state in its own word and in the parts of its own view alone keeps the rule, and so does a move of
-- a seat.
use Rattle.std.proofs.Common.{◌≡◌, ◌≢◌, ℕ, ◌+◌, ◌≤◌, List, [], ◌∷◌, ◌++◌, set, refl, sym, ap, ◌∙◌, subst, ⊎_elim, arith}
use mathlib.Core.Option.{some}
use lib.ListN.{get_elem?}
use Rattle.hg_base.specs.Lists.{Each}
use Rattle.atomic_table.specs.Table.{State, Splits, Joins}
use Rattle.atomic_table.proofs.Lists.{at_set, at_snoc, set_else}
use Rattle.hg_core.specs.State.{CoreState}
use Rattle.hg_core.specs.Steps.{LeadsTo}
use Rattle.hg_rule.specs.declared.view.Part.{Part}
use Rattle.hg_rule.specs.declared.view.Sight.{Sight}
use Rattle.hg_rule.specs.declared.view.Event.{Event}
use Rattle.hg_rule.specs.declared.view.View.{View}
use Rattle.hg_rule.specs.declared.view.Sizes.{Sizes}
use Rattle.hg_rule.specs.Keys.{Key, pass_key, count, tally, shares, all_shares, whole_share, expected}
use Rattle.hg_rule.specs.Facts.{Shown, Known, Stands, new_part}
use Rattle.hg_rule.specs.Rules.{IsSized, ShowsWords, IsTrueOf, AreUsed, new_state, Rule, IsBacked}
use Rattle.hg_rule.specs.Views.{seeing, then_has}
use Rattle.hg_rule.proofs.Counts.{count_append, new_key, expected_small, sum, sum_set, sum_snoc, sum_one, sum_two, sum_alone, tally_is, all_shares_is, shares_append, no_share, Only, stay}
use Rattle.hg_rule.proofs.Lists.{each_append, each_right, each_map}
use Rattle.hg_rule.proofs.Growing.{Grows, known_on, stands_on}
use Rattle.hg_rule.proofs.Reached.{steady}

abbrev pub Table : Type 0
Table = State ℕ View

-- ---- tallies and shares of views that change

pub tally_set : (k : Key) (vs : List View) (i : ℕ) (v w : View) → get_elem? vs i ≡ some v → tally k (set vs i w) + count k v.parts ≡ tally k vs + count k w.parts
tally_set k vs i v w e = let a : ℕ = tally k (set vs i w) in let b : ℕ = tally k vs in let a' : ℕ = sum (λ v. count k v.parts) (set vs i w) in
    let b' : ℕ = sum (λ v. count k v.parts) vs in let x : ℕ = count k v.parts in let y : ℕ = count k w.parts in
    let p : a ≡ a' = tally_is k (set vs i w) in let q : b ≡ b' = tally_is k vs in let h : a' + x ≡ b' + y = sum_set (λ v. count k v.parts) vs i v w e in omega arith

tally_snoc : (k : Key) (vs : List View) (w : View) → tally k (vs ++ w ∷ []) ≡ tally k vs + count k w.parts
tally_snoc k vs w = let a : ℕ = tally k (vs ++ w ∷ []) in let b : ℕ = tally k vs in let a' : ℕ = sum (λ v. count k v.parts) (vs ++ w ∷ []) in
    let b' : ℕ = sum (λ v. count k v.parts) vs in let y : ℕ = count k w.parts in
    let p : a ≡ a' = tally_is k (vs ++ w ∷ []) in let q : b ≡ b' = tally_is k vs in let h : a' ≡ b' + y = sum_snoc (λ v. count k v.parts) vs w in omega arith

pub tally_one : (k : Key) (vs : List View) (i : ℕ) (v : View) → get_elem? vs i ≡ some v → count k v.parts ≤ tally k vs
tally_one k vs i v e = subst (λ n. count k v.parts ≤ n) (sym (tally_is k vs)) (sum_one (λ v. count k v.parts) vs i v e)

pub tally_two : (k : Key) (vs : List View) (i j : ℕ) (v w : View) → i ≢ j → get_elem? vs i ≡ some v → get_elem? vs j ≡ some w → count k v.parts + count k w.parts ≤ tally k vs
tally_two k vs i j v w n e g = subst (λ n. count k v.parts + count k w.parts ≤ n) (sym (tally_is k vs)) (sum_two (λ v. count k v.parts) vs i j v w n e g)

pub shares_set : (vs : List View) (i : ℕ) (v w : View) → get_elem? vs i ≡ some v → all_shares (set vs i w) + shares v.parts ≡ all_shares vs + shares w.parts
shares_set vs i v w e = let a : ℕ = all_shares (set vs i w) in let b : ℕ = all_shares vs in let a' : ℕ = sum (λ v. shares v.parts) (set vs i w) in
    let b' : ℕ = sum (λ v. shares v.parts) vs in let x : ℕ = shares v.parts in let y : ℕ = shares w.parts in
    let p : a ≡ a' = all_shares_is (set vs i w) in let q : b ≡ b' = all_shares_is vs in let h : a' + x ≡ b' + y = sum_set (λ v. shares v.parts) vs i v w e in omega arith

shares_snoc : (vs : List View) (w : View) → all_shares (vs ++ w ∷ []) ≡ all_shares vs + shares w.parts
shares_snoc vs w = let a : ℕ = all_shares (vs ++ w ∷ []) in let b : ℕ = all_shares vs in let a' : ℕ = sum (λ v. shares v.parts) (vs ++ w ∷ []) in
    let b' : ℕ = sum (λ v. shares v.parts) vs in let y : ℕ = shares w.parts in
    let p : a ≡ a' = all_shares_is (vs ++ w ∷ []) in let q : b ≡ b' = all_shares_is vs in let h : a' ≡ b' + y = sum_snoc (λ v. shares v.parts) vs w in omega arith

-- ---- the step

-- A step turns the state c into d, where the view's parts qs become qs', more is seen and the event is done.
pub record Changes (z : Sizes) (c d : CoreState) (words : List ℕ) (qs qs' : List Part) (more : List Sight) (event : Event) : Type 0 where
  pub reached : LeadsTo (new_state z) d
  pub sized : IsSized z d
  pub passes : d.passes ≡ c.passes
  pub shows : ShowsWords z d words
  pub grows : Grows c d
  pub only : Only c d qs
  pub counts : (k : Key) → count k qs' ≡ count k qs
  pub shared : shares qs' ≡ shares qs
  pub shown : Each (Shown d) qs'
  pub known : Each (Known d) more
  pub stands : Stands d event

pub true_on : (c d : CoreState) (v : View) (parts : List Part) → Grows c d → Each (Shown d) parts → IsTrueOf c v → IsTrueOf d (seeing parts v.sights v.events)
true_on c d v parts g shown h = record {
  parts = shown;
  sights = each_map (Known c) (Known d) (known_on c d g) v.sights h.sights;
  events = each_map (Stands c) (Stands d) (stands_on c d g) v.events h.events;
}

-- the same of a view that becomes another, in whatever way
pub record Turns (z : Sizes) (c d : CoreState) (words : List ℕ) (qs qs' : List Part) : Type 0 where
  pub reached : LeadsTo (new_state z) d
  pub sized : IsSized z d
  pub passes : d.passes ≡ c.passes
  pub shows : ShowsWords z d words
  pub grows : Grows c d
  pub only : Only c d qs
  pub counts : (k : Key) → count k qs' ≡ count k qs
  pub shared : shares qs' ≡ shares qs

pub turn : (z : Sizes) (t : Table) (r : Rule z t) (id : ℕ) (v w : View) (qs qs' ps : List Part) (words : List ℕ) (d : CoreState) → get_elem? t.views id ≡ some v →
    v.parts ≡ qs ++ ps → w.parts ≡ qs' ++ ps
    → Turns z r.state d words qs qs' → (Each (Shown d) ps → IsTrueOf d w)
    → Rule z record { words = words; homes = t.homes; views = set t.views id w }
turn z t r id v w qs qs' ps words d at is is' h own = record {
  state = d;
  reached = h.reached;
  sized = h.sized;
  words = h.shows;
  used = r.used;
  passes = subst (λ n. AreUsed n r.used) (sym h.passes) r.passes;
  exact = λ k. let a : ℕ = tally k (set t.views id w) in let b : ℕ = count k v.parts in let f : ℕ = tally k t.views in let g : ℕ = count k w.parts in let q : ℕ = count k qs in
      let q' : ℕ = count k qs' in let p : ℕ = count k ps in
      let h0 : a + b ≡ f + g = tally_set k t.views id v w at in let h1 : g ≡ q' + p = ap (count k) is' ∙ count_append k qs' ps in let h2 : b ≡ q + p = parted k in
      let h3 : q' ≡ q = h.counts k in let h4 : a ≡ f = omega arith in
      h4 ∙ r.exact k;
  shared = let a : ℕ = all_shares (set t.views id w) in let b : ℕ = shares v.parts in let f : ℕ = all_shares t.views in let g : ℕ = shares w.parts in let q : ℕ = shares qs in
      let q' : ℕ = shares qs' in let p : ℕ = shares ps in
      let h0 : a + b ≡ f + g = shares_set t.views id v w at in let h1 : g ≡ q' + p = ap shares is' ∙ shares_append qs' ps in
      let h2 : b ≡ q + p = ap shares is ∙ shares_append qs ps in let h3 : q' ≡ q = h.shared in let h4 : a ≡ f = omega arith in h4 ∙ r.shared;
  outside = λ k none. h.only (new_part k) (ap (λ k'. count k' qs) (new_key k) ∙ (let b : ℕ = count k v.parts in let q : ℕ = count k qs in let p : ℕ = count k ps in
      let f : ℕ = tally k t.views in let y : ℕ = expected z r.used k in
      let h2 : b ≡ q + p = parted k in let h3 : b ≤ f = tally_one k t.views id v at in let h4 : f ≡ y = r.exact k in let h5 : y ≡ 0 = none in omega arith)) (r.outside k none);
  shown = λ j y at'. ⊎_elim
      (λ (u : (j ≡ id) × (w ≡ y)). subst (IsTrueOf d) u.1 mine)
      (λ (u : (j ≢ id) × (get_elem? t.views j ≡ some y)). other j y u.0 u.1)
      (at_set t.views id j w y at');
}
  where
    c : CoreState
    c = r.state

    parted : (k : Key) → count k v.parts ≡ count k qs + count k ps
    parted k = ap (count k) is ∙ count_append k qs ps

    small : (k : Key) → tally k t.views ≤ 1
    small k = subst (λ n. n ≤ 1) (sym (r.exact k)) (expected_small z r.used k)

    mine : IsTrueOf d w
    mine = own (stay c d qs ps h.only (λ k. let b : ℕ = count k v.parts in let q : ℕ = count k qs in let p : ℕ = count k ps in let f : ℕ = tally k t.views in
        let h2 : b ≡ q + p = parted k in let h3 : b ≤ f = tally_one k t.views id v at in let h4 : f ≤ 1 = small k in
        omega arith) (each_right (Shown c) qs ps (subst (Each (Shown c)) is (r.shown id v at).parts)))

    other : (j : ℕ) (y : View) → j ≢ id → get_elem? t.views j ≡ some y → IsTrueOf d y
    other j y apart at' = true_on c d y y.parts h.grows (stay c d qs y.parts h.only (λ k. let b : ℕ = count k v.parts in let q : ℕ = count k qs in let p : ℕ = count k ps in
        let m : ℕ = count k y.parts in let f : ℕ = tally k t.views in
        let h2 : b ≡ q + p = parted k in let h3 : b + m ≤ f = tally_two k t.views id j v y (λ o. apart (sym o)) at at' in let h4 : f ≤ 1 = small k in
        omega arith) (r.shown j y at').parts) (r.shown j y at')

-- and that is the state
pub turn_state : (z : Sizes) (t : Table) (r : Rule z t) (id : ℕ) (v w : View) (qs qs' ps : List Part) (words : List ℕ) (d : CoreState) (at : get_elem? t.views id ≡ some v)
    (is : v.parts ≡ qs ++ ps) (is' : w.parts ≡ qs' ++ ps)
    (h : Turns z r.state d words qs qs') (own : Each (Shown d) ps → IsTrueOf d w) → (turn z t r id v w qs qs' ps words d at is is' h own).state ≡ d
unfolding turn
turn_state z t r id v w qs qs' ps words d at is is' h own = refl

pub keep : (z : Sizes) (t : Table) (r : Rule z t) (id : ℕ) (v : View) (qs qs' ps : List Part) (more : List Sight) (e : Event) (i x : ℕ) (d : CoreState) →
    get_elem? t.views id ≡ some v → v.parts ≡ qs ++ ps
    → Changes z r.state d (set t.words i x) qs qs' more e
    → Rule z record { words = set t.words i x; homes = t.homes; views = set t.views id (then_has v (qs' ++ ps) more e) }
keep z t r id v qs qs' ps more e i x d at is h = turn z t r id v (then_has v (qs' ++ ps) more e) qs qs' ps (set t.words i x) d at is refl
    (record { reached = h.reached; sized = h.sized; passes = h.passes; shows = h.shows; grows = h.grows; only = h.only; counts = h.counts; shared = h.shared })
    (λ rest. let s = true_on r.state d v (qs' ++ ps) h.grows (each_append (Shown d) qs' ps h.shown rest) (r.shown id v at) in record {
      parts = s.parts;
      sights = each_append (Known d) v.sights more s.sights h.known;
      events = each_append (Stands d) v.events (e ∷ []) s.events (h.stands, tt);
    })

pub keep_state : (z : Sizes) (t : Table) (r : Rule z t) (id : ℕ) (v : View) (qs qs' ps : List Part) (more : List Sight) (e : Event) (i x : ℕ) (d : CoreState)
    (at : get_elem? t.views id ≡ some v) (is : v.parts ≡ qs ++ ps)
    (h : Changes z r.state d (set t.words i x) qs qs' more e) → (keep z t r id v qs qs' ps more e i x d at is h).state ≡ d
unfolding keep
keep_state z t r id v qs qs' ps more e i x d at is h = turn_state z t r id v (then_has v (qs' ++ ps) more e) qs qs' ps (set t.words i x) d at is refl _ _

-- ---- moves of seats

-- a view is split in two
pub record SplitsInto (v l o : View) : Type 0 where
  pub counts : (k : Key) → count k l.parts + count k o.parts ≡ count k v.parts
  pub shared : shares l.parts + shares o.parts ≡ shares v.parts
  pub left : (s : CoreState) → IsTrueOf s v → IsTrueOf s l
  pub right : (s : CoreState) → IsTrueOf s v → IsTrueOf s o

pub may_split : (z : Sizes) (id : ℕ) (v l o : View) → SplitsInto v l o → Splits (Rule z) id v l o
may_split z id v l o h t r at = record {
  state = r.state;
  reached = r.reached;
  sized = r.sized;
  words = r.words;
  used = r.used;
  passes = r.passes;
  exact = λ k. let a : ℕ = tally k (set t.views id l ++ o ∷ []) in let b : ℕ = tally k (set t.views id l) in let x : ℕ = count k o.parts in let d : ℕ = count k v.parts in
      let e : ℕ = tally k t.views in let f : ℕ = count k l.parts in
      let h1 : a ≡ b + x = tally_snoc k (set t.views id l) o in let h2 : b + d ≡ e + f = tally_set k t.views id v l at in let h3 : f + x ≡ d = h.counts k in
      let h4 : a ≡ e = omega arith in h4 ∙ r.exact k;
  shared = let a : ℕ = all_shares (set t.views id l ++ o ∷ []) in let b : ℕ = all_shares (set t.views id l) in let x : ℕ = shares o.parts in let d : ℕ = shares v.parts in
      let e : ℕ = all_shares t.views in let f : ℕ = shares l.parts in
      let h1 : a ≡ b + x = shares_snoc (set t.views id l) o in let h2 : b + d ≡ e + f = shares_set t.views id v l at in let h3 : f + x ≡ d = h.shared in let h4 : a ≡ e = omega arith in h4 ∙ r.shared;
  outside = r.outside;
  shown = λ j y at'. ⊎_elim
      (λ (u : get_elem? (set t.views id l) j ≡ some y). ⊎_elim
      (λ (u : (j ≡ id) × (l ≡ y)). subst (IsTrueOf r.state) u.1 (h.left r.state (r.shown id v at)))
      (λ (u : (j ≢ id) × (get_elem? t.views j ≡ some y)). r.shown j y u.1)
      (at_set t.views id j l y u))
      (λ (u : o ≡ y). subst (IsTrueOf r.state) u (h.right r.state (r.shown id v at)))
      (at_snoc (set t.views id l) o y j at');
}

-- one view is made of two, and the other is left with nothing
pub record JoinsInto (v w b o : View) : Type 0 where
  pub counts : (k : Key) → count k b.parts + count k o.parts ≡ count k v.parts + count k w.parts
  pub shared : shares b.parts + shares o.parts ≡ shares v.parts + shares w.parts
  pub left : (s : CoreState) → IsTrueOf s v → IsTrueOf s w → IsTrueOf s b
  pub right : (s : CoreState) → IsTrueOf s v → IsTrueOf s w → IsTrueOf s o

pub may_join : (z : Sizes) (id : ℕ) (v : View) (other : ℕ) (w b o : View) → JoinsInto v w b o → Joins (Rule z) id v other w b o
may_join z id v other w b o h t r at apart at2 = record {
  state = r.state;
  reached = r.reached;
  sized = r.sized;
  words = r.words;
  used = r.used;
  passes = r.passes;
  exact = λ k. let a1 : ℕ = tally k (set (set t.views id b) other o) in let a2 : ℕ = tally k (set t.views id b) in let a3 : ℕ = tally k t.views in let cb : ℕ = count k b.parts in
      let co : ℕ = count k o.parts in let cv : ℕ = count k v.parts in let cw : ℕ = count k w.parts in
      let h1 : a1 + cw ≡ a2 + co = tally_set k (set t.views id b) other w o at2 in let h2 : a2 + cv ≡ a3 + cb = tally_set k t.views id v b at in
      let h3 : cb + co ≡ cv + cw = h.counts k in let h4 : a1 ≡ a3 = omega arith in h4 ∙ r.exact k;
  shared = let a1 : ℕ = all_shares (set (set t.views id b) other o) in let a2 : ℕ = all_shares (set t.views id b) in let a3 : ℕ = all_shares t.views in
      let cb : ℕ = shares b.parts in let co : ℕ = shares o.parts in let cv : ℕ = shares v.parts in let cw : ℕ = shares w.parts in
      let h1 : a1 + cw ≡ a2 + co = shares_set (set t.views id b) other w o at2 in let h2 : a2 + cv ≡ a3 + cb = shares_set t.views id v b at in
      let h3 : cb + co ≡ cv + cw = h.shared in let h4 : a1 ≡ a3 = omega arith in h4 ∙ r.shared;
  outside = r.outside;
  shown = λ j y at'. ⊎_elim
      (λ (u : (j ≡ other) × (o ≡ y)). subst (IsTrueOf r.state) u.1 (h.right r.state (r.shown id v at) (r.shown other w at3)))
      (λ (u : (j ≢ other) × (get_elem? (set t.views id b) j ≡ some y)). ⊎_elim
      (λ (u : (j ≡ id) × (b ≡ y)). subst (IsTrueOf r.state) u.1 (h.left r.state (r.shown id v at) (r.shown other w at3)))
      (λ (u : (j ≢ id) × (get_elem? t.views j ≡ some y)). r.shown j y u.1)
      (at_set t.views id j b y u.1))
      (at_set (set t.views id b) other j o y at');
}
  where
    at3 : get_elem? t.views other ≡ some w
    at3 = sym (set_else t.views id other b apart) ∙ at2

-- ---- what the rule tells of a view

pub backs : (z : Sizes) (t : Table) (r : Rule z t) (id : ℕ) (v : View) (n : ℕ) → get_elem? t.views id ≡ some v → r.state.mark ≡ n → IsBacked z n v
backs z t r id v n at is = record {
  state = r.state;
  reached = r.reached;
  steady = steady r;
  sized = r.sized;
  mark_is = is;
  used = r.used;
  passes = r.passes;
  most = λ k. subst (λ n. count k v.parts ≤ n) (r.exact k) (tally_one k t.views id v at);
  alone = λ all p. sym (tally_is (pass_key p) t.views ∙ sum_alone (λ v. count (pass_key p) v.parts) t.views id v at
      (λ j w apart at'. no_share r.state p w.parts (r.shown j w at').parts (none j w apart at' all))) ∙ r.exact (pass_key p);
  outside = r.outside;
  true_of = r.shown id v at;
}
  where
    none : (j : ℕ) (w : View) → j ≢ id → get_elem? t.views j ≡ some w → shares v.parts ≡ whole_share → shares w.parts ≡ 0
    none j w apart at' all = let a : ℕ = shares v.parts in let b : ℕ = shares w.parts in let s : ℕ = sum (λ v. shares v.parts) t.views in let x : ℕ = whole_share in
        let h : a + b ≤ s = sum_two (λ v. shares v.parts) t.views id j v w (λ o. apart (sym o)) at at' in let e : s ≡ x = sym (all_shares_is t.views) ∙ r.shared in let f : a ≡ x = all in omega arith

pub backs_state : (z : Sizes) (t : Table) (r : Rule z t) (id : ℕ) (v : View) (n : ℕ) (at : get_elem? t.views id ≡ some v) (is : r.state.mark ≡ n) → (backs z t r id v n at is).state ≡ r.state
unfolding backs
backs_state z t r id v n at is = refl
