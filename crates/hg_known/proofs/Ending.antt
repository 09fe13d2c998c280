-- How transactions end, with one line more.
use Rattle.std.proofs.Common.{◌≡◌, ℕ, ◌<◌, List, [], ◌∷◌, Bool, true, false, Option, Some, None, refl, sym, ap, ◌∙◌, subst, arith, cond}
use Rattle.std.specs.Prelude.{◌==◌, filter, filter_map, min, unwrap_or, nat_lt, Decides}
use Rattle.std.specs.List.{cons_option}
use Rattle.std.specs.Option.{MatchOption}
use Rattle.std.specs.BTreeMap.{BTreeMap, is_at, get}
use Rattle.std.proofs.lemmas.Bool.{ltb-true}
use Rattle.std.proofs.lemmas.Bool.Decides.{Decides-eqb, Decides-ltb}
use Rattle.hg_base.specs.Lists.{Each}
use Rattle.hg_base.specs.Transcript.{Said, is_of, committed, numbers_in}
use Rattle.hg_base.proofs.HistoryFacts.{and_parts}
use Rattle.hg_known.specs.declared.own.Tx.{Tx}
use Rattle.hg_known.specs.Ended.{tx, tx_order, least_of}
use Rattle.hg_known.proofs.SpotOrder.{at_tx}

-- ---- numbers

pub numbers_same : (old : BTreeMap Tx ℕ) (earlier : List Said) (now : Said) → committed now ≡ None → ((j x : ℕ) → get tx_order old (tx j x) ≡ least_of (numbers_in j x earlier)) →
    (j x : ℕ) → get tx_order old (tx j x) ≡ least_of (numbers_in j x (now ∷ earlier))
numbers_same old earlier now e h j x = h j x ∙ go (is_of j x now)
  where
    go : (b : Bool) → least_of (numbers_in j x earlier) ≡ least_of (filter_map committed (cond b (now ∷ filter (is_of j x) earlier) (filter (is_of j x) earlier)))
    go true = ap (λ o. least_of (cons_option o (numbers_in j x earlier))) (sym e)
    go false = refl

pub numbers_more : (old new : BTreeMap Tx ℕ) (earlier : List Said) (now : Said) (n least : ℕ) → committed now ≡ Some n →
    least ≡ min n (unwrap_or (get tx_order old (tx now.session now.transaction)) n) →
    ((q : Tx) → get tx_order new q ≡ cond (is_at (tx_order (tx now.session now.transaction)) q) (Some least) (get tx_order old q)) →
    ((j x : ℕ) → get tx_order old (tx j x) ≡ least_of (numbers_in j x earlier)) → (j x : ℕ) → get tx_order new (tx j x) ≡ least_of (numbers_in j x (now ∷ earlier))
numbers_more old new earlier now n least e is put h j x = put (tx j x) ∙ (λ i. cond (at_tx (tx now.session now.transaction) (tx j x) i) (Some least) (h j x i)) ∙ go (is_of j x now) refl
  where
    at : is_of j x now ≡ true → least ≡ min n (unwrap_or (least_of (numbers_in j x earlier)) n)
    at same =
        let parts = and_parts (now.session == j) (now.transaction == x) same in
        let s : now.session ≡ j = (Decides-eqb now.session j).0 parts.0 in
        let t : now.transaction ≡ x = (Decides-eqb now.transaction x).0 parts.1 in
        is ∙ ap (λ o. min n (unwrap_or o n)) (h now.session now.transaction ∙ (λ i. least_of (numbers_in (s i) (t i) earlier)))

    go : (b : Bool) → is_of j x now ≡ b → cond b (Some least) (least_of (numbers_in j x earlier)) ≡ least_of
        (filter_map committed (cond b (now ∷ filter (is_of j x) earlier) (filter (is_of j x) earlier)))
    go true same = ap Some (at same) ∙ sym (ap (λ o. least_of (cons_option o (numbers_in j x earlier))) e)
    go false same = refl

-- ---- all numbers are over a snapshot

pub least_none : (ns : List ℕ) → least_of ns ≡ None → ns ≡ []
least_none [] e = refl
least_none (n ∷ ns) e = cc

pub each_over : (at : ℕ) (ns : List ℕ) → MatchOption (least_of ns) (Unit {0}) (λ m. at < m) → Each (λ c. at < c) ns
each_over at [] h = tt
each_over at (n ∷ ns) h = go (least_of ns) refl h (each_over at ns)
  where
    go : (o : Option ℕ) → least_of ns ≡ o → at < min n (unwrap_or o n) → (MatchOption (least_of ns) (Unit {0}) (λ m. at < m) → Each (λ c. at < c) ns) → (at < n) × Each (λ c. at < c) ns
    go None e h more = (omega (arith, h), subst (Each (λ c. at < c)) (sym (least_none ns e)) tt)
    go (Some m) e h more = (omega (arith, h), more (subst (λ o. MatchOption o (Unit {0}) (λ m. at < m)) (sym e) (omega (arith, h))))

pub over_each : (at : ℕ) (ns : List ℕ) → Each (λ c. at < c) ns → MatchOption (least_of ns) (Unit {0}) (λ m. at < m)
over_each at [] h = tt
over_each at (n ∷ ns) h = go (least_of ns) (over_each at ns h.1)
  where
    go : (o : Option ℕ) → MatchOption o (Unit {0}) (λ m. at < m) → at < min n (unwrap_or o n)
    go None k = let l : at < n = h.0 in omega (arith, l)
    go (Some m) k = let l : at < n = h.0 in omega (arith, l, k)

pub after_some : (at : ℕ) (ns : List ℕ) (m : ℕ) → least_of ns ≡ Some m → Decides (nat_lt at m) (Each (λ c. at < c) ns)
after_some at ns m e = (
  λ t. each_over at ns (subst (λ o. MatchOption o (Unit {0}) (λ m. at < m)) (sym e) (ltb-true at m t)),
  λ each. (Decides-ltb at m).1 (subst (λ o. MatchOption o (Unit {0}) (λ m. at < m)) e (over_each at ns each)),
)

pub after_none : (at : ℕ) (ns : List ℕ) → least_of ns ≡ None → Each (λ c. at < c) ns
after_none at ns e = each_over at ns (subst (λ o. MatchOption o (Unit {0}) (λ m. at < m)) (sym e) tt)
