-- A pass may be split: one pass more.
use Rattle.std.proofs.Common.{◌≡◌, ◌≢◌, ℕ, suc, ◌+◌, ◌<◌, ◌≤◌, Bool, true, false, eqb, [], ◌∷◌, refl, sym, ap, ◌∙◌, subst, arith}
use Rattle.std.proofs.Common.{eq-eqb, ne_eqb, true≢false}
use Rattle.std.specs.Prelude.{if◌then◌else◌}
use mathlib.Core.Option.{none}
use native.Mathlib.Decide.{ℕ_discrete}
use Rattle.atomic_table.specs.Table.{step, keeps, Allows}
use Rattle.hg_core.specs.State.{CoreState}
use Rattle.hg_core.specs.Events.{put}
use Rattle.hg_core.specs.Steps.{Split, split}
use Rattle.hg_core.proofs.Indices.{by_number, put_here, put_else}
use Rattle.hg_rule.specs.declared.view.PassPart.{PassPart}
use Rattle.hg_rule.specs.declared.view.Part.TheVariants.{OfPass}
use Rattle.hg_rule.specs.declared.view.View.{View}
use Rattle.hg_rule.specs.declared.view.Sizes.{Sizes}
use Rattle.hg_rule.specs.Keys.{Key, session_key, bucket_key, commit_key, pass_key, home_key, one, count, expected}
use Rattle.hg_rule.specs.Facts.{Shown, record_of, new_part}
use Rattle.hg_rule.specs.Rules.{Rule}
use Rattle.hg_rule.specs.Views.{number, pass, others, seeing, HasPass}
use Rattle.hg_rule.specs.Moves.{left_but_second, right_second}
use Rattle.hg_rule.specs.Sharing.{kept_of, given_of, halving, branching, halved, branch, Buds, budded}
use Rattle.hg_rule.specs.Steps.{Seated}
use Rattle.hg_rule.proofs.Counts.{one_true, expected_small}
use Rattle.hg_rule.proofs.Growing.{Grows}
use Rattle.hg_rule.proofs.Lists.{starts_same, ends_same}
use Rattle.hg_rule.proofs.Keeps.{true_on}
use Rattle.hg_rule.proofs.Evidence.{own_pass}
use Rattle.hg_rule.proofs.Registers.{loaded_words}
use Rattle.hg_rule.proofs.Turning.{there, has_part}
use Rattle.hg_rule.proofs.Uses.{turn_to, passing_only, unlike}
use Rattle.hg_rule.proofs.Reached.{stepped}

pub halves_kept : (share : ℕ) → 2 ≤ share → 0 < kept_of share
halves_kept share l = omega arith

pub halves_given : (share : ℕ) → 2 ≤ share → 0 < given_of share
halves_given share l = omega arith

pub halves_both : (share : ℕ) → kept_of share + given_of share ≡ share
halves_both share = omega arith

module _ (used : ℕ → Bool) (n p : ℕ) (unused : used n ≡ false) where
  abbrev one_more : ℕ → Bool
  one_more = put used n true

  more_count : (x : ℕ) → one (one_more x) + (one (eqb p x) + 0) ≡ one (used x) + (one (eqb p x) + (one (eqb n x) + 0))
  more_count x = go (ℕ_discrete x n)
    where
      go : Dec (x ≡ n) → one (one_more x) + (one (eqb p x) + 0) ≡ one (used x) + (one (eqb p x) + (one (eqb n x) + 0))
      go (yes same) = let a : ℕ = one (one_more x) in let b : ℕ = one (eqb p x) in let c : ℕ = one (used x) in let d : ℕ = one (eqb n x) in
          let e1 : a ≡ 1 = ap one (ap one_more same ∙ put_here used n true) in let e2 : c ≡ 0 = ap one (ap used same ∙ unused) in let e3 : d ≡ 1 = ap one (eq-eqb n x (sym same)) in omega arith
      go (no away) = let a : ℕ = one (one_more x) in let b : ℕ = one (eqb p x) in let c : ℕ = one (used x) in let d : ℕ = one (eqb n x) in
          let e1 : a ≡ c = ap one (put_else used n x true away) in let e3 : d ≡ 0 = ap one (ne_eqb n x (λ t. away (sym t))) in omega arith

  more_apart : (z : Sizes) (x : ℕ) → (one (eqb n x) + (one (eqb p x) + 0)) + one (used x) ≤ suc (one (eqb p x) + 0)
  more_apart z x = go (ℕ_discrete x n)
    where
      go : Dec (x ≡ n) → (one (eqb n x) + (one (eqb p x) + 0)) + one (used x) ≤ suc (one (eqb p x) + 0)
      go (yes same) = let b : ℕ = one (eqb p x) in let c : ℕ = one (used x) in let d : ℕ = one (eqb n x) in
          let e2 : c ≡ 0 = ap one (ap used same ∙ unused) in let e3 : d ≡ 1 = ap one (eq-eqb n x (sym same)) in omega arith
      go (no away) = let b : ℕ = one (eqb p x) in let c : ℕ = one (used x) in let d : ℕ = one (eqb n x) in
          let e3 : d ≡ 0 = ap one (ne_eqb n x (λ t. away (sym t))) in let e4 : c ≤ 1 = expected_small z used (pass_key x) in omega arith

nothing_else : (x : ℕ) → x + (0 + 0) ≡ x + (0 + (0 + 0))
nothing_else x = omega arith

least_else : (x : ℕ) → x ≤ 1 → (0 + (0 + 0)) + x ≤ suc (0 + 0)
least_else x l = omega arith

pub may_bud : (z : Sizes) (slots id : ℕ) (m : Seated) → HasPass m.0 → 2 ≤ (pass m.0).share → Allows (Rule z) slots id m 0 (λ n. n) (budded (step slots 0 0 0 none) m)
may_bud z slots id m is two t r deep at small =
    let u : View = seeing (OfPass p kept ∷ OfPass n new ∷ others v) v.sights v.events in
    let w = loaded_words z c t.words 0 r.words in (
      u,
      keeps,
      tt,
      turn_to z t r id v u (OfPass n new ∷ OfPass p old ∷ []) (OfPass p old ∷ []) (OfPass p kept ∷ OfPass n new ∷ []) (others v) _ used' d at is refl
          (record {
            reached = stepped z c (Split p) r.reached p_low;
            sized = record { sessions = r.sized.sessions; tables = r.sized.tables; buckets = r.sized.buckets; quota = r.sized.quota };
            passes = record {
              below = by_number n (λ k b. (if b then true else r.used k) ≡ true → k < suc n) (λ e. omega arith) (λ k other e. let l = r.passes.below k e in omega arith);
              last = λ k e. let same : k ≡ n = last_is k e in ap used' same ∙ put_here r.used n true;
            };
            shows = record { count = w.count; mark = w.mark; registers = w.registers; masks = w.masks };
            grows = grows;
            only = passing_only c (suc n) n p d.pass c.visits new old record { pass = λ k a b. put_else c.pass n k _ a; visits = λ k a b. refl };
            apart = apart;
            counts = counts;
            outside = outside;
            shared = let a : ℕ = kept_of old.share in let b : ℕ = given_of old.share in let e : ℕ = old.share in let h : a + b ≡ e = halves_both old.share in omega arith;
          })
          (λ rest. true_on c d v (OfPass p kept ∷ OfPass n new ∷ others v) grows (
            (put_else c.pass n p _ (λ (e : p ≡ n). let l = p_low in omega arith) ∙ own.0, (own.1.0, halves_kept old.share two)),
            ((put_here c.pass n _ ∙ (λ i. record (own.0 i) { journal = [] }), (fresh.1.0, halves_given old.share two)), rest),
          ) (r.shown id v at)),
      ((n, refl), refl),
    )
  where
    v : View
    v = m.0

    c : CoreState
    c = r.state

    p : ℕ
    p = number v

    n : ℕ
    n = c.passes

    old : PassPart
    old = pass v

    kept : PassPart
    kept = halving old

    new : PassPart
    new = branching old

    d : CoreState
    d = split c p

    own : (c.pass p ≡ record_of old) × ((c.visits p ≡ old.visits) × (0 < old.share))
    own = own_pass z t r id v at is

    p_low : p < c.passes
    p_low = r.passes.below p (one_true (r.used p) (there z t r id v (pass_key p) at (has_part (OfPass p old) (others v) v.parts is)))

    unused : r.used n ≡ false
    unused = go (r.used n) refl
      where
        go : (b : Bool) → r.used n ≡ b → b ≡ false
        go true e = absurd (let l = r.passes.below n e in omega arith)
        go false e = refl

    used' : ℕ → Bool
    used' = put r.used n true

    fresh : Shown c (new_part (pass_key n))
    fresh = r.outside (pass_key n) (ap one unused)

    grows : Grows c d
    grows = record { history = starts_same c.history; logs = λ k. ends_same (c.log k); taken = omega arith }

    last_is : (k : ℕ) → suc k ≡ suc n → k ≡ n
    last_is k e = omega arith

    apart : (k : Key) → count k (OfPass n new ∷ OfPass p old ∷ []) + expected z r.used k ≤ suc (count k (OfPass p old ∷ []))
    apart (session_key j) = least_else _ (expected_small z r.used (session_key j))
    apart (home_key j) = least_else _ (expected_small z r.used (home_key j))
    apart (bucket_key b) = least_else _ (expected_small z r.used (bucket_key b))
    apart commit_key = least_else _ (expected_small z r.used commit_key)
    apart (pass_key x) = more_apart r.used n p unused z x

    counts : (k : Key) → expected z used' k + count k (OfPass p old ∷ []) ≡ expected z r.used k + count k (OfPass p kept ∷ OfPass n new ∷ [])
    counts (session_key j) = nothing_else (expected z r.used (session_key j))
    counts (home_key j) = nothing_else (expected z r.used (home_key j))
    counts (bucket_key b) = nothing_else (expected z r.used (bucket_key b))
    counts commit_key = nothing_else 1
    counts (pass_key x) = more_count r.used n p unused x

    outside : (k : Key) → expected z used' k ≡ 0 → Shown d (new_part k)
    outside (session_key j) e = r.outside (session_key j) e
    outside (home_key j) e = r.outside (home_key j) e
    outside (bucket_key b) e = r.outside (bucket_key b) e
    outside commit_key e = absurd (omega (arith, e))
    outside (pass_key x) e = let away : x ≢ n = (λ (same : x ≡ n). true≢false (sym (ap used' same ∙ put_here r.used n true) ∙ unlike (used' x) e)) in
        let h = r.outside (pass_key x) (ap one (sym (put_else r.used n x true away)) ∙ e) in (put_else c.pass n x _ away ∙ h.0, h.1)

pub halved_is : (n : ℕ) (v u x : View) → Buds n v u → x ≡ left_but_second u → x ≡ halved v
halved_is n v u x is e = e ∙ ap left_but_second is

pub branch_is : (n : ℕ) (v u x : View) → Buds n v u → x ≡ right_second u → x ≡ branch (number x) v
branch_is n v u x is e = let h : x ≡ branch n v = e ∙ ap right_second is in h ∙ ap (λ k. branch k v) (sym (ap number h))

pub halved_pass : (v x : View) → x ≡ halved v → HasPass x
halved_pass v x e = subst HasPass (sym e) refl

pub branch_pass : (n : ℕ) (v x : View) → x ≡ branch n v → HasPass x
branch_pass n v x e = subst HasPass (sym e) refl
