-- Two passes may be united: one pass less.
use Rattle.std.proofs.Common.{◌≡◌, ◌≢◌, ◌⊎◌, inl, inr, ℕ, ◌+◌, ◌<◌, ◌≤◌, Bool, true, false, eqb, List, [], ◌∷◌, ◌++◌, refl, sym, ap, ◌∙◌, subst, arith}
use Rattle.std.proofs.Common.{eq-eqb, ne_eqb, true≢false}
use Rattle.std.specs.Prelude.{if◌then◌else◌}
use mathlib.Core.Option.{none}
use native.Mathlib.Decide.{ℕ_discrete}
use Rattle.atomic_table.specs.Table.{step, keeps, Allows, Joins}
use Rattle.hg_base.specs.Lists.{Each}
use Rattle.hg_core.specs.declared.visit.Visit.{Visit}
use Rattle.hg_core.specs.State.{CoreState}
use Rattle.hg_core.specs.Events.{put}
use Rattle.hg_core.specs.Passes.{PassRecord}
use Rattle.hg_core.specs.Steps.{IsUnused, Unite, with_journal, united as passes_united}
use Rattle.hg_core.proofs.Indices.{by_number, put_here, put_else}
use Rattle.hg_rule.specs.declared.view.PassPart.{PassPart}
use Rattle.hg_rule.specs.declared.view.Part.{Part}
use Rattle.hg_rule.specs.declared.view.Part.TheVariants.{OfPass}
use Rattle.hg_rule.specs.declared.view.View.{View}
use Rattle.hg_rule.specs.declared.view.Sizes.{Sizes}
use Rattle.hg_rule.specs.Keys.{Key, session_key, bucket_key, commit_key, pass_key, home_key, one, count, tally, expected}
use Rattle.hg_rule.specs.Facts.{Shown, Known, Stands, new_part}
use Rattle.hg_rule.specs.Rules.{AreUsed, Rule}
use Rattle.hg_rule.specs.Views.{number, part_number, pass, others, seeing, HasPass}
use Rattle.hg_rule.specs.Moves.{put_in, spent}
use Rattle.hg_rule.specs.Holding.{beyond}
use Rattle.hg_rule.specs.Sharing.{HasOnlyPass, uniting, united, rejoined, next_pass, HasNextPass, Unites, unites}
use Rattle.hg_rule.specs.Steps.{Seated}
use Rattle.hg_rule.proofs.Counts.{one_true, expected_small}
use Rattle.hg_rule.proofs.Growing.{Grows}
use Rattle.hg_rule.proofs.Lists.{each_append, starts_same, ends_same}
use Rattle.hg_rule.proofs.Keeps.{tally_one, true_on, may_join}
use Rattle.hg_rule.proofs.Registers.{loaded_words}
use Rattle.hg_rule.proofs.Shifts.{put_in_count, put_in_shares, put_in_each}
use Rattle.hg_rule.proofs.Unity.{tight}
use Rattle.hg_rule.proofs.Uses.{turn_to, passing_only, unlike}
use Rattle.hg_rule.proofs.Reached.{stepped}

module _ (used : ℕ → Bool) (p q : ℕ) (is_used : used q ≡ true) where
  abbrev one_less : ℕ → Bool
  one_less = put used q false

  less_count : (x : ℕ) → one (one_less x) + (one (eqb p x) + (one (eqb q x) + 0)) ≡ one (used x) + (one (eqb p x) + 0)
  less_count x = go (ℕ_discrete x q)
    where
      go : Dec (x ≡ q) → one (one_less x) + (one (eqb p x) + (one (eqb q x) + 0)) ≡ one (used x) + (one (eqb p x) + 0)
      go (yes same) = let a : ℕ = one (one_less x) in let b : ℕ = one (eqb p x) in let c : ℕ = one (used x) in let d : ℕ = one (eqb q x) in
          let e1 : a ≡ 0 = ap one (ap one_less same ∙ put_here used q false) in let e2 : c ≡ 1 = ap one (ap used same ∙ is_used) in let e3 : d ≡ 1 = ap one (eq-eqb q x (sym same)) in omega arith
      go (no away) = let a : ℕ = one (one_less x) in let b : ℕ = one (eqb p x) in let c : ℕ = one (used x) in let d : ℕ = one (eqb q x) in
          let e1 : a ≡ c = ap one (put_else used q x false away) in let e3 : d ≡ 0 = ap one (ne_eqb q x (λ t. away (sym t))) in omega arith

nothing_less : (x : ℕ) → x + (0 + (0 + 0)) ≡ x + (0 + 0)
nothing_less x = omega arith

pub may_unite : (z : Sizes) (slots id : ℕ) (m : Seated) → HasPass m.0 → HasNextPass m.0 → Allows (Rule z) slots id m 0 (λ n. n) (unites (step slots 0 0 0 none) m)
may_unite z slots id m is next t r deep at small =
    let u : View = seeing (OfPass p both ∷ beyond v) v.sights v.events in
    let w = loaded_words z c t.words 0 r.words in (
      u,
      keeps,
      tt,
      turn_to z t r id v u qs qs (OfPass p both ∷ []) (beyond v) _ used' d at parts refl
          (record {
            reached = stepped z c (Unite p q fewer.0) r.reached record { apart = apart_from; first = r.passes.below p p_used; other = r.passes.below q q_used; most = fewer.1.0; rest = rest };
            sized = record { sessions = r.sized.sessions; tables = r.sized.tables; buckets = r.sized.buckets; quota = r.sized.quota };
            passes = fewer.1.1;
            shows = record { count = w.count; mark = w.mark; registers = w.registers; masks = w.masks };
            grows = grows;
            only = passing_only c fewer.0 p q d.pass d.visits old more record { pass = λ k a b. put_else noted q k _ b ∙ put_else c.pass p k _ a; visits = λ k a b. put_else gathered q k [] b ∙ put_else c.visits p k _ a };
            apart = λ k. let a : ℕ = count k qs in let x : ℕ = expected z r.used k in let l : x ≤ 1 = expected_small z r.used k in omega arith;
            counts = counts;
            outside = outside;
            shared = let a : ℕ = old.share in let b : ℕ = more.share in omega arith;
          })
          (λ ps. true_on c d v (OfPass p both ∷ beyond v) grows (
            (
              put_else noted q p _ apart_from ∙
                  (put_here c.pass p _ ∙ (λ i. record (all.0.0 i) { journal = (all.0.0 i).journal ++ (all.1.0.0 i).journal })),
              (
                put_else gathered q p [] apart_from ∙
                    (put_here c.visits p _ ∙ (λ i. all.1.0.1.0 i ++ all.0.1.0 i)),
                (let a : ℕ = old.share in let b : ℕ = more.share in let l : 0 < a = all.0.1.1 in omega arith),
              ),
            ),
            ps,
          ) (r.shown id v at)),
      (refl, refl),
    )
  where
    v : View
    v = m.0

    c : CoreState
    c = r.state

    p : ℕ
    p = number v

    q : ℕ
    q = part_number (others v)

    old : PassPart
    old = pass v

    more : PassPart
    more = next_pass v

    both : PassPart
    both = uniting more old

    qs : List Part
    qs = OfPass p old ∷ OfPass q more ∷ []

    parts : v.parts ≡ OfPass p old ∷ OfPass q more ∷ beyond v
    parts = is ∙ ap (λ (l : List Part). OfPass p old ∷ l) next

    all : Each (Shown c) (OfPass p old ∷ OfPass q more ∷ beyond v)
    all = subst (Each (Shown c)) parts (r.shown id v at).parts

    -- there is one part of a pass, and here are two
    at_most : (x : ℕ) → one (eqb p x) + (one (eqb q x) + count (pass_key x) (beyond v)) ≤ one (r.used x)
    at_most x = let a : ℕ = count (pass_key x) v.parts in let f : ℕ = tally (pass_key x) t.views in let y : ℕ = one (r.used x) in let b : ℕ = one (eqb p x) in
        let d : ℕ = one (eqb q x) in let e : ℕ = count (pass_key x) (beyond v) in
        let h1 : a ≡ b + (d + e) = ap (count (pass_key x)) parts in let h2 : a ≤ f = tally_one (pass_key x) t.views id v at in let h3 : f ≡ y = r.exact (pass_key x) in omega arith

    p_used : r.used p ≡ true
    p_used = one_true (r.used p) (let b : ℕ = one (eqb p p) in let d : ℕ = one (eqb q p) in let e : ℕ = count (pass_key p) (beyond v) in let y : ℕ = one (r.used p) in
        let l : b + (d + e) ≤ y = at_most p in let s : b ≡ 1 = ap one (eq-eqb p p refl) in omega arith)

    q_used : r.used q ≡ true
    q_used = one_true (r.used q) (let b : ℕ = one (eqb p q) in let d : ℕ = one (eqb q q) in let e : ℕ = count (pass_key q) (beyond v) in let y : ℕ = one (r.used q) in
        let l : b + (d + e) ≤ y = at_most q in let s : d ≡ 1 = ap one (eq-eqb q q refl) in omega arith)

    apart_from : p ≢ q
    apart_from same = let b : ℕ = one (eqb p q) in let d : ℕ = one (eqb q q) in let e : ℕ = count (pass_key q) (beyond v) in let y : ℕ = one (r.used q) in
        let l : b + (d + e) ≤ y = at_most q in let s : d ≡ 1 = ap one (eq-eqb q q refl) in let s' : b ≡ 1 = ap one (eq-eqb p q same) in
        let y' : y ≤ 1 = expected_small z r.used (pass_key q) in omega arith

    used' : ℕ → Bool
    used' = put r.used q false

    still : (x : ℕ) → used' x ≡ true → x < c.passes
    still = by_number q (λ x b. (if b then false else r.used x) ≡ true → x < c.passes) (λ e. absurd (true≢false (sym e))) (λ x other e. r.passes.below x e)

    fewer : (m : ℕ) × ((m ≤ c.passes) × AreUsed m used')
    fewer = tight c.passes used' still

    noted : ℕ → PassRecord
    noted = put c.pass p (with_journal c p q)

    gathered : ℕ → List Visit
    gathered = put c.visits p (c.visits q ++ c.visits p)

    d : CoreState
    d = passes_united c p q fewer.0

    grows : Grows c d
    grows = record { history = starts_same c.history; logs = λ k. ends_same (c.log k); taken = omega arith }

    -- a pass that isn't in use then has a new one's record and no visits
    unused : (x : ℕ) → used' x ≡ false → Shown d (new_part (pass_key x))
    unused x e = go (ℕ_discrete x q)
      where
        go : Dec (x ≡ q) → Shown d (new_part (pass_key x))
        go (yes same) = (ap d.pass same ∙ put_here noted q _, (ap d.visits same ∙ put_here gathered q [], omega arith))
        go (no away) =
            let none : r.used x ≡ false = sym (put_else r.used q x false away) ∙ e in
            let other : x ≢ p = (λ (same : x ≡ p). true≢false (sym (ap r.used same ∙ p_used) ∙ none)) in
            let h = r.outside (pass_key x) (ap one none) in
            (put_else noted q x _ away ∙ (put_else c.pass p x _ other ∙ h.0), (put_else gathered q x [] away ∙ (put_else c.visits p x _ other ∙ h.1.0), h.1.1))

    rest : (x : ℕ) → (x < fewer.0) ⊎ IsUnused d x
    rest x = go (used' x) refl
      where
        go : (b : Bool) → used' x ≡ b → (x < fewer.0) ⊎ IsUnused d x
        go true e = inl (fewer.1.1.below x e)
        go false e = let h = unused x e in inr record { bare = h.0; none = h.1.0 }

    counts : (k : Key) → expected z used' k + count k qs ≡ expected z r.used k + count k (OfPass p both ∷ [])
    counts (session_key j) = nothing_less (expected z r.used (session_key j))
    counts (home_key j) = nothing_less (expected z r.used (home_key j))
    counts (bucket_key b) = nothing_less (expected z r.used (bucket_key b))
    counts commit_key = nothing_less 1
    counts (pass_key x) = less_count r.used p q q_used x

    outside : (k : Key) → expected z used' k ≡ 0 → Shown d (new_part k)
    outside (session_key j) e = r.outside (session_key j) e
    outside (home_key j) e = r.outside (home_key j) e
    outside (bucket_key b) e = r.outside (bucket_key b) e
    outside commit_key e = absurd (omega (arith, e))
    outside (pass_key x) e = unused x (unlike (used' x) e)

pub united_pass : (v w x : View) → x ≡ united v w → HasPass x
united_pass v w x e = subst HasPass (sym e) refl

pub may_rejoin : (z : Sizes) (id : ℕ) (v : View) (other : ℕ) (w : View) → Joins (Rule z) id v other w (rejoined v w) spent
may_rejoin z id v other w = may_join z id v other w (rejoined v w) spent record {
  counts = λ k. put_in_count k v.parts w.parts;
  shared = put_in_shares v.parts w.parts;
  left = λ s a b. record {
    parts = put_in_each (Shown s) v.parts w.parts a.parts b.parts;
    sights = each_append (Known s) v.sights w.sights a.sights b.sights;
    events = each_append (Stands s) v.events w.events a.events b.events;
  };
  right = λ s a b. record { parts = tt; sights = tt; events = tt };
}

-- behind v's first stands the one part of w then
pub record Rejoins (v w u : View) : Type 0 where
  pub has : HasPass u
  pub next : HasNextPass u
  pub unites_as : (x : View) → Unites u x → x ≡ united v w

pub rejoining : (v w u : View) → HasPass v → HasOnlyPass w → u ≡ rejoined v w → Rejoins v w u
rejoining v w u is only e = subst (Rejoins v w) (sym all) record { has = refl; next = refl; unites_as = λ x h. h }
  where
    all : u ≡ seeing (OfPass (number v) (pass v) ∷ OfPass (number w) (pass w) ∷ others v) (v.sights ++ w.sights) (v.events ++ w.events)
    all = e ∙ (λ i. seeing (put_in (is i) (only i)) (v.sights ++ w.sights) (v.events ++ w.events))
