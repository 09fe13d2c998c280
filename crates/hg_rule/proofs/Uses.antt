-- The rule is kept where another pass comes into use, or one goes out of use.
use Rattle.std.proofs.Common.{◌≡◌, ◌≢◌, ℕ, suc, ◌+◌, ◌≤◌, Bool, true, false, eqb, List, [], ◌∷◌, ◌++◌, set, refl, sym, ap, ◌∙◌, subst, ⊎_elim, arith}
use Rattle.std.proofs.Common.{eq-eqb}
use mathlib.Core.Option.{some}
use lib.ListN.{get_elem?}
use Rattle.atomic_table.proofs.Lists.{at_set}
use Rattle.hg_base.specs.Lists.{Each}
use Rattle.hg_core.specs.declared.visit.Visit.{Visit}
use Rattle.hg_core.specs.Passes.{PassRecord}
use Rattle.hg_core.specs.State.{CoreState}
use Rattle.hg_core.specs.Steps.{LeadsTo}
use Rattle.hg_rule.specs.declared.view.PassPart.{PassPart}
use Rattle.hg_rule.specs.declared.view.Part.{Part}
use Rattle.hg_rule.specs.declared.view.Part.TheVariants.{OfSession, OfBucket, OfCommit, OfPass, Away, Lent}
use Rattle.hg_rule.specs.declared.view.View.{View}
use Rattle.hg_rule.specs.declared.view.Sizes.{Sizes}
use Rattle.hg_rule.specs.Keys.{Key, one, count, tally, shares, all_shares, expected}
use Rattle.hg_rule.specs.Facts.{Shown, new_part}
use Rattle.hg_rule.specs.Rules.{IsSized, ShowsWords, IsTrueOf, AreUsed, new_state, Rule}
use Rattle.hg_rule.proofs.Counts.{count_append, shares_append, Only, stay}
use Rattle.hg_rule.proofs.Growing.{Grows}
use Rattle.hg_rule.proofs.Lists.{each_right}
use Rattle.hg_rule.proofs.Keeps.{Table, tally_set, tally_one, tally_two, shares_set, true_on}

-- ---- a step that begins or ends the use of a pass

-- The state c turns into d, where other passes are in use. The two differ in the keys of some parts alone.
pub record TurnsTo (z : Sizes) (used used' : ℕ → Bool) (c d : CoreState) (words : List ℕ) (ts qs qs' : List Part) : Type 0 where
  pub reached : LeadsTo (new_state z) d
  pub sized : IsSized z d
  pub passes : AreUsed d.passes used'
  pub shows : ShowsWords z d words
  pub grows : Grows c d
  pub only : Only c d ts
  pub apart : (k : Key) → count k ts + expected z used k ≤ suc (count k qs)
  pub counts : (k : Key) → expected z used' k + count k qs ≡ expected z used k + count k qs'
  pub outside : (k : Key) → expected z used' k ≡ 0 → Shown d (new_part k)
  pub shared : shares qs' ≡ shares qs

pub turn_to : (z : Sizes) (t : Table) (r : Rule z t) (id : ℕ) (v w : View) (ts qs qs' ps : List Part) (words : List ℕ) (used' : ℕ → Bool) (d : CoreState) →
    get_elem? t.views id ≡ some v → v.parts ≡ qs ++ ps → w.parts ≡ qs' ++ ps
    → TurnsTo z r.used used' r.state d words ts qs qs' → (Each (Shown d) ps → IsTrueOf d w)
    → Rule z record { words = words; homes = t.homes; views = set t.views id w }
turn_to z t r id v w ts qs qs' ps words used' d at is is' h own = record {
  state = d;
  reached = h.reached;
  sized = h.sized;
  words = h.shows;
  used = used';
  passes = h.passes;
  exact = λ k. let a : ℕ = tally k (set t.views id w) in let b : ℕ = count k v.parts in let f : ℕ = tally k t.views in let g : ℕ = count k w.parts in let q : ℕ = count k qs in
      let q' : ℕ = count k qs' in let p : ℕ = count k ps in let x : ℕ = expected z r.used k in let x' : ℕ = expected z used' k in
      let h0 : a + b ≡ f + g = tally_set k t.views id v w at in let h1 : g ≡ q' + p = ap (count k) is' ∙ count_append k qs' ps in let h2 : b ≡ q + p = parted k in
      let h3 : x' + q ≡ x + q' = h.counts k in let h4 : f ≡ x = r.exact k in omega arith;
  shared = let a : ℕ = all_shares (set t.views id w) in let b : ℕ = shares v.parts in let f : ℕ = all_shares t.views in let g : ℕ = shares w.parts in let q : ℕ = shares qs in
      let q' : ℕ = shares qs' in let p : ℕ = shares ps in
      let h0 : a + b ≡ f + g = shares_set t.views id v w at in let h1 : g ≡ q' + p = ap shares is' ∙ shares_append qs' ps in
      let h2 : b ≡ q + p = ap shares is ∙ shares_append qs ps in let h3 : q' ≡ q = h.shared in let h4 : a ≡ f = omega arith in h4 ∙ r.shared;
  outside = h.outside;
  shown = λ j y at'. ⊎_elim
      (λ (u : (j ≡ id) × (w ≡ y)). subst (IsTrueOf d) u.1 mine)
      (λ (u : (j ≢ id) × (get_elem? t.views j ≡ some y)). other j y u.0 u.1)
      (at_set t.views id j w y at');
}
  where
    c : CoreState
    c = r.state

    parted : (k : Key) → count k v.parts ≡ count k qs + count k ps
    parted k = ap (count k) is ∙ count_append k qs ps

    mine : IsTrueOf d w
    mine = own (stay c d ts ps h.only (λ k. let b : ℕ = count k v.parts in let q : ℕ = count k qs in let p : ℕ = count k ps in let f : ℕ = tally k t.views in
        let u : ℕ = count k ts in let x : ℕ = expected z r.used k in
        let h2 : b ≡ q + p = parted k in let h3 : b ≤ f = tally_one k t.views id v at in let h4 : f ≡ x = r.exact k in let h5 : u + x ≤ suc q = h.apart k in
        omega arith) (each_right (Shown c) qs ps (subst (Each (Shown c)) is (r.shown id v at).parts)))

    other : (j : ℕ) (y : View) → j ≢ id → get_elem? t.views j ≡ some y → IsTrueOf d y
    other j y away at' = true_on c d y y.parts h.grows (stay c d ts y.parts h.only (λ k. let b : ℕ = count k v.parts in let q : ℕ = count k qs in let p : ℕ = count k ps in
        let m : ℕ = count k y.parts in let f : ℕ = tally k t.views in let u : ℕ = count k ts in let x : ℕ = expected z r.used k in
        let h2 : b ≡ q + p = parted k in let h3 : b + m ≤ f = tally_two k t.views id j v y (λ o. away (sym o)) at at' in let h4 : f ≡ x = r.exact k in
        let h5 : u + x ≤ suc q = h.apart k in omega arith) (r.shown j y at').parts) (r.shown j y at')

-- another number, where a list that begins with two passes has none of it
not_either : (i j k : ℕ) → one (eqb i k) + (one (eqb j k) + 0) ≡ 0 → (k ≡ i → ⊥) × (k ≡ j → ⊥)
not_either i j k e = (
  λ (same : k ≡ i). (let x : ℕ = one (eqb i k) in let y : ℕ = one (eqb j k) in let t : x ≡ 1 = ap one (eq-eqb i k (sym same)) in let e' : x + (y + 0) ≡ 0 = e in omega arith),
  λ (same : k ≡ j). (let x : ℕ = one (eqb i k) in let y : ℕ = one (eqb j k) in let t : y ≡ 1 = ap one (eq-eqb j k (sym same)) in let e' : x + (y + 0) ≡ 0 = e in omega arith),
)

pub record Passing (c d : CoreState) (i j : ℕ) : Type 0 where
  pub pass : (k : ℕ) → (k ≡ i → ⊥) → (k ≡ j → ⊥) → d.pass k ≡ c.pass k
  pub visits : (k : ℕ) → (k ≡ i → ⊥) → (k ≡ j → ⊥) → d.visits k ≡ c.visits k

-- none but two passes change where all else stays
pub passing_only : (c : CoreState) (passes i j : ℕ) (ps : ℕ → PassRecord) (vs : ℕ → List Visit) (a b : PassPart) → Passing c (record c { passes = passes; pass = ps; visits = vs }) i j
    → Only c (record c { passes = passes; pass = ps; visits = vs }) (OfPass i a ∷ OfPass j b ∷ [])
passing_only c passes i j ps vs a b h (OfSession k t) away s = s
passing_only c passes i j ps vs a b h (OfBucket k t) away s = s
passing_only c passes i j ps vs a b h (OfCommit t) away s = s
passing_only c passes i j ps vs a b h (Away k t n) away s = s
passing_only c passes i j ps vs a b h (Lent k t) away s = s
passing_only c passes i j ps vs a b h (OfPass k t) away s = let n = not_either i j k away in (h.pass k n.0 n.1 ∙ s.0, (h.visits k n.0 n.1 ∙ s.1.0, s.1.1))

pub unlike : (b : Bool) → one b ≡ 0 → b ≡ false
unlike true e = absurd (omega (arith, e))
unlike false e = refl
