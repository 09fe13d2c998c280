-- Each step of the word keeps its rule.
use Rattle.std.proofs.Common.{◌≡◌, ℕ, suc, ◌+◌, ◌-◌, ◌%◌, ◌^◌, ◌<◌, ◌≤◌, eqb, ltb, List, [], ◌∷◌, ◌++◌, length, get_or, set, refl, sym, ap, ◌∙◌, subst, arith, eq-eqb, ne_eqb, length-set}
use Rattle.std.proofs.Common.{length-append, get_or-set_same}
use Rattle.std.specs.Prelude.{slice_index}
use Rattle.std.proofs.lemmas.Bool.{lt-ltb, le-ltb}
use mathlib.Core.Option.{some, none}
use native.Mathlib.Decide.{ℕ_discrete, dec_le}
use lib.ListN.{get_elem?}
use Rattle.atomic_table.specs.Table.{State, Me, step, keeps, Allows, Splits, Joins, opening}
use Rattle.hg_rule.specs.Keys.{one}
use Rattle.hg_rule.proofs.Found.{ltb_less}
use Rattle.hg_rounds.specs.declared.draws.Drawn.{Drawn}
use Rattle.hg_rounds.specs.Word.{times, sum, many, quota, whole_quota, helper_quota, IsDrawn, fresh, hired, hirer, together, spent, anew, top, draws, restarts}
use Rattle.hg_rounds.proofs.Adding.{sum_set, sum_snoc, sum_one, sum_whole}

abbrev Seated : Type 0
Seated = Me ℕ Drawn

-- ---- numbers in lists

pub times_append : (n : ℕ) (xs ys : List ℕ) → times n (xs ++ ys) ≡ times n xs + times n ys
times_append n [] ys = omega arith
times_append n (x ∷ xs) ys = let a : ℕ = one (eqb x n) in let b : ℕ = times n (xs ++ ys) in let c : ℕ = times n xs in let d : ℕ = times n ys in let h : b ≡ c + d = times_append n xs ys in omega arith

times_none : (n : ℕ) (xs : List ℕ) → length xs ≡ 0 → times n xs ≡ 0
times_none n [] e = refl
times_none n (x ∷ xs) e = absurd (let a : ℕ = length xs in let e' : suc a ≡ 0 = e in omega arith)

-- one number more is below
next_below : (n word : ℕ) → one (ltb n (suc word)) ≡ one (eqb word n) + one (ltb n word)
next_below n word = go (dec_le (suc n) word) (ℕ_discrete word n)
  where
    go : Dec (suc n ≤ word) → Dec (word ≡ n) → one (ltb n (suc word)) ≡ one (eqb word n) + one (ltb n word)
    go (yes l) d = let x : ℕ = one (ltb n (suc word)) in let y : ℕ = one (eqb word n) in let z : ℕ = one (ltb n word) in
        let e1 : x ≡ 1 = ap one (lt-ltb n (suc word) (omega arith)) in let e2 : y ≡ 0 = ap one (ne_eqb word n (λ (e : word ≡ n). omega arith)) in
        let e3 : z ≡ 1 = ap one (lt-ltb n word (omega arith)) in omega arith
    go (no l) (yes e) = let x : ℕ = one (ltb n (suc word)) in let y : ℕ = one (eqb word n) in let z : ℕ = one (ltb n word) in
        let e1 : x ≡ 1 = ap one (lt-ltb n (suc word) (omega arith)) in let e2 : y ≡ 1 = ap one (eq-eqb word n e) in let e3 : z ≡ 0 = ap one (le-ltb n word (omega arith)) in omega arith
    go (no l) (no apart) = let x : ℕ = one (ltb n (suc word)) in let y : ℕ = one (eqb word n) in let z : ℕ = one (ltb n word) in
        let big : suc word ≤ n = omega arith in let e1 : x ≡ 0 = ap one (le-ltb n (suc word) big) in let e2 : y ≡ 0 = ap one (ne_eqb word n apart) in
        let e3 : z ≡ 0 = ap one (le-ltb n word (omega arith)) in omega arith

-- ---- the rule at first

pub starts : (ws : List ℕ) → ws ≡ 0 ∷ [] → IsDrawn (opening ws [] fresh)
starts ws e = subst (λ (l : List ℕ). IsDrawn (opening l [] fresh)) (sym e) record {
  words = refl;
  each = λ n. sym (ap one (le-ltb n 0 (omega arith)));
  many_are = refl;
  shared = refl;
}

-- ---- steps

-- a view's numbers are below the word
below : (t : State ℕ Drawn) → IsDrawn t → (id : ℕ) (v : Drawn) → get_elem? t.views id ≡ some v → top v.numbers ≤ slice_index t.words 0
below t r id v at = go v.numbers refl
  where
    go : (ns : List ℕ) → v.numbers ≡ ns → top ns ≤ slice_index t.words 0
    go [] e = omega arith
    go (n ∷ ns) e = ltb_less n (slice_index t.words 0)
        (let a : ℕ = times n v.numbers in let b : ℕ = sum (λ v. times n v.numbers) t.views in let c : ℕ = one (ltb n (slice_index t.words 0)) in let d : ℕ = one (eqb n n) in let f : ℕ = times n ns in
        let h1 : a ≤ b = sum_one (λ v. times n v.numbers) t.views id v at in let h2 : b ≡ c = r.each n in let h3 : a ≡ d + f = ap (times n) e in
        let h4 : d ≡ 1 = ap one (eq-eqb n n refl) in omega arith)

pub may_draw : (slots id : ℕ) (m : Seated) → 0 < m.0.left → Allows IsDrawn slots id m 0 (λ n. (n + 1) % 2 ^ 64) (draws (step slots 0 1 0 none) m)
may_draw slots id m some_left t r deep at small =
    let v : Drawn = m.0 in
    let n : ℕ = get_or t.words 0 0 in
    let w : Drawn = record v { left = v.left - 1; numbers = n ∷ v.numbers } in
    let new : ℕ = (n + 1) % 2 ^ 64 in
    let all : ℕ = sum quota t.views in
    let mine : ℕ = quota v in
    let fit : n + v.left ≤ all = (let s : ℕ = sum many t.views in let e : s ≡ n = r.many_are in let l : s + v.left ≤ all = room t.views id v at in omega arith) in
    let next : new ≡ suc n = (let e : all ≡ whole_quota = r.shared in let low : n + 1 < 2 ^ 64 = omega arith in small_rest (n + 1) low ∙ plus_one n) in
    let long : 0 < length t.words = (let e = r.words in omega arith) in
    let word : slice_index (set t.words 0 new) 0 ≡ suc n = get_or-set_same t.words 0 new 0 long ∙ next in (
      w,
      keeps,
      tt,
      record {
        words = length-set t.words 0 new ∙ r.words;
        each = λ k. (let a : ℕ = sum (λ v. times k v.numbers) (set t.views id w) in let b : ℕ = sum (λ v. times k v.numbers) t.views in let c : ℕ = times k v.numbers in
            let d : ℕ = one (eqb n k) in let x : ℕ = one (ltb k (suc n)) in let y : ℕ = one (ltb k n) in
            let h1 : a + c ≡ b + (d + c) = sum_set (λ v. times k v.numbers) t.views id v w at in let h2 : b ≡ y = r.each k in let h3 : x ≡ d + y = next_below k n in
            let h4 : a ≡ x = omega arith in h4) ∙ ap (λ u. one (ltb k u)) (sym word);
        many_are = (let a : ℕ = sum many (set t.views id w) in let b : ℕ = sum many t.views in let c : ℕ = length v.numbers in
            let h1 : a + c ≡ b + suc c = sum_set many t.views id v w at in let h2 : b ≡ n = r.many_are in let h3 : a ≡ suc n = omega arith in h3) ∙ sym word;
        shared = (let a : ℕ = sum quota (set t.views id w) in let b : ℕ = sum quota t.views in let c : ℕ = length v.numbers in let l : ℕ = v.left in
            let h1 : a + (l + c) ≡ b + ((l - 1) + suc c) = sum_set quota t.views id v w at in let h3 : a ≡ b = omega arith in h3) ∙ r.shared;
      },
      (record { numbers = refl; left = (let l : ℕ = v.left in let h : suc (l - 1) ≡ l = omega arith in h); over = below t r id v at; kept = (refl, refl) }, refl),
    )
  where
    plus_one : (n : ℕ) → n + 1 ≡ suc n
    plus_one n = omega arith

    small_rest : (n : ℕ) → n < 2 ^ 64 → n % 2 ^ 64 ≡ n
    small_rest n l = omega arith

    -- who has left some has them beside all that were drawn
    room : (vs : List Drawn) (i : ℕ) (v : Drawn) → get_elem? vs i ≡ some v → sum many vs + v.left ≤ sum quota vs
    room vs i v at =
        let w : Drawn = record v { left = 0 } in
        let a : ℕ = sum quota (set vs i w) in let b : ℕ = sum quota vs in let c : ℕ = length v.numbers in let l : ℕ = v.left in let h : a + (l + c) ≡ b + (0 + c) = sum_set quota vs i v w at in
        let d : ℕ = sum many (set vs i w) in let e : ℕ = sum many vs in let k : d + c ≡ e + c = sum_set many vs i v w at in
        let f : d ≤ a = less (set vs i w) in omega arith
      where
        less : (xs : List Drawn) → sum many xs ≤ sum quota xs
        less [] = omega arith
        less (x ∷ xs) = let a : ℕ = length x.numbers in let b : ℕ = x.left in let c : ℕ = sum many xs in let d : ℕ = sum quota xs in let h : c ≤ d = less xs in omega arith

pub may_restart : (slots id : ℕ) (m : Seated) → m.0.left + length m.0.numbers ≡ whole_quota → Allows IsDrawn slots id m 0 (λ n. 0) (λ n. restarts (step slots 0 0 0 none) m 0)
may_restart slots id m all t r deep at small =
    let v : Drawn = m.0 in
    let w : Drawn = anew v in
    let word : slice_index (set t.words 0 0) 0 ≡ 0 = get_or-set_same t.words 0 0 0 (let e = r.words in omega arith) in
    let mine : sum quota t.views ≡ quota v = r.shared ∙ sym all in
    let alone : (n : ℕ) → sum (λ v. times n v.numbers) t.views ≡ times n v.numbers =
    (λ n. sum_whole quota (λ v. times n v.numbers) (λ x e. times_none n x.numbers (let a : ℕ = x.left in let b : ℕ = length x.numbers in let e' : a + b ≡ 0 = e in
    let h : b ≡ 0 = omega arith in h)) t.views id v at mine) in
    let length_alone : sum many t.views ≡ many v = sum_whole quota many (λ x e. (let a : ℕ = x.left in let b : ℕ = length x.numbers in let e' : a + b ≡ 0 = e in
    let h : b ≡ 0 = omega arith in h)) t.views id v at mine in (
      w,
      keeps,
      tt,
      record {
        words = length-set t.words 0 0 ∙ r.words;
        each = λ n. (let a : ℕ = sum (λ v. times n v.numbers) (set t.views id w) in let b : ℕ = sum (λ v. times n v.numbers) t.views in let c : ℕ = times n v.numbers in
            let h1 : a + c ≡ b + 0 = sum_set (λ v. times n v.numbers) t.views id v w at in let h2 : b ≡ c = alone n in let h3 : a ≡ 0 = omega arith in h3) ∙
            (sym (ap one (le-ltb n 0 (omega arith))) ∙ ap (λ u. one (ltb n u)) (sym word));
        many_are = (let a : ℕ = sum many (set t.views id w) in let b : ℕ = sum many t.views in let c : ℕ = length v.numbers in
            let h1 : a + c ≡ b + 0 = sum_set many t.views id v w at in let h2 : b ≡ c = length_alone in let h3 : a ≡ 0 = omega arith in h3) ∙ sym word;
        shared = let a : ℕ = sum quota (set t.views id w) in let b : ℕ = sum quota t.views in let c : ℕ = v.left + length v.numbers in let x : ℕ = whole_quota in
            let h1 : a + c ≡ b + (x + 0) = sum_set quota t.views id v w at in let h2 : c ≡ x = all in let h4 : b ≡ x = r.shared in omega arith;
      },
      ((get_or t.words 0 0, λ n. sym (alone n) ∙ r.each n), (refl, refl)),
    )

-- ---- moves of seats

pub may_hire : (id : ℕ) (v : Drawn) → helper_quota ≤ v.left → Splits IsDrawn id v (hirer v) hired
may_hire id v enough t r at = record {
  words = r.words;
  each = λ n. (let a : ℕ = sum (λ v. times n v.numbers) (set t.views id (hirer v) ++ hired ∷ []) in let b : ℕ = sum (λ v. times n v.numbers) (set t.views id (hirer v)) in
      let c : ℕ = sum (λ v. times n v.numbers) t.views in let d : ℕ = times n v.numbers in
      let h1 : a ≡ b + 0 = sum_snoc (λ v. times n v.numbers) (set t.views id (hirer v)) hired in
      let h2 : b + d ≡ c + d = sum_set (λ v. times n v.numbers) t.views id v (hirer v) at in let h3 : a ≡ c = omega arith in h3) ∙ r.each n;
  many_are = (let a : ℕ = sum many (set t.views id (hirer v) ++ hired ∷ []) in let b : ℕ = sum many (set t.views id (hirer v)) in let c : ℕ = sum many t.views in let d : ℕ = length v.numbers in
      let h1 : a ≡ b + 0 = sum_snoc many (set t.views id (hirer v)) hired in let h2 : b + d ≡ c + d = sum_set many t.views id v (hirer v) at in let h3 : a ≡ c = omega arith in h3) ∙ r.many_are;
  shared = (let a : ℕ = sum quota (set t.views id (hirer v) ++ hired ∷ []) in let b : ℕ = sum quota (set t.views id (hirer v)) in let c : ℕ = sum quota t.views in
      let d : ℕ = length v.numbers in let l : ℕ = v.left in let x : ℕ = helper_quota in
      let h1 : a ≡ b + (x + 0) = sum_snoc quota (set t.views id (hirer v)) hired in let h2 : b + (l + d) ≡ c + ((l - x) + d) = sum_set quota t.views id v (hirer v) at in
      let h4 : x ≤ l = enough in let h3 : a ≡ c = omega arith in h3) ∙ r.shared;
}

pub may_take_back : (id : ℕ) (v : Drawn) (other : ℕ) (w : Drawn) → Joins IsDrawn id v other w (together v w) spent
may_take_back id v other w t r at apart at2 = record {
  words = r.words;
  each = λ n. (let f : Drawn → ℕ = (λ v. times n v.numbers) in let a : ℕ = sum f (set (set t.views id b) other spent) in let c : ℕ = sum f (set t.views id b) in
      let d : ℕ = sum f t.views in let x : ℕ = times n v.numbers in let y : ℕ = times n w.numbers in let z : ℕ = times n (w.numbers ++ v.numbers) in
      let h1 : a + y ≡ c + 0 = sum_set f (set t.views id b) other w spent at2 in let h2 : c + x ≡ d + z = sum_set f t.views id v b at in
      let h3 : z ≡ y + x = times_append n w.numbers v.numbers in let h4 : a ≡ d = omega arith in h4) ∙ r.each n;
  many_are = (let a : ℕ = sum many (set (set t.views id b) other spent) in let c : ℕ = sum many (set t.views id b) in let d : ℕ = sum many t.views in
      let x : ℕ = length v.numbers in let y : ℕ = length w.numbers in let z : ℕ = length (w.numbers ++ v.numbers) in
      let h1 : a + y ≡ c + 0 = sum_set many (set t.views id b) other w spent at2 in let h2 : c + x ≡ d + z = sum_set many t.views id v b at in
      let h3 : z ≡ y + x = length-append w.numbers v.numbers in let h4 : a ≡ d = omega arith in h4) ∙ r.many_are;
  shared = (let a : ℕ = sum quota (set (set t.views id b) other spent) in let c : ℕ = sum quota (set t.views id b) in let d : ℕ = sum quota t.views in
      let x : ℕ = length v.numbers in let y : ℕ = length w.numbers in let z : ℕ = length (w.numbers ++ v.numbers) in let l : ℕ = v.left in let k : ℕ = w.left in
      let h1 : a + (k + y) ≡ c + (0 + 0) = sum_set quota (set t.views id b) other w spent at2 in let h2 : c + (l + x) ≡ d + ((l + k) + z) = sum_set quota t.views id v b at in
      let h3 : z ≡ y + x = length-append w.numbers v.numbers in let h4 : a ≡ d = omega arith in h4) ∙ r.shared;
}
  where
    b : Drawn
    b = together v w
