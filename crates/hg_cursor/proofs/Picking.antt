-- The rows that a fetch returns, once no further bucket is needed.
use Rattle.std.proofs.Common.{◌≡◌, ℕ, ◌+◌, ◌<◌, ◌≤◌, ◌⊎◌, inl, inr, [], ◌∷◌, length, cond, true, false, sym, ap, ◌∙◌, subst, arith}
use Rattle.std.specs.Prelude.{nat_lt, nat_le, ◌&&◌, if◌then◌else◌, Contains}
use Rattle.std.specs.List.{sum_by}
use Rattle.std.proofs.lemmas.Bool.Decides.{nat_tests}
use Rattle.std.proofs.lemmas.List.Sorted.{sum_by-IsPermutation}
use Rattle.std.proofs.lemmas.List.Sums.{sum_by-cons, sum_by-take-le}
use Rattle.hg_base.specs.declared.rid.TableId.{TableId}
use Rattle.hg_base.specs.Lists.{Each}
use Rattle.hg_base.proofs.ListFacts.{cases, each_keeps}
use Rattle.hg_base.specs.Transcript.{last_key, passed}
use Rattle.hg_rule.specs.declared.view.View.{View}
use Rattle.hg_cursor.specs.Keys.{Rows}
use Rattle.hg_cursor.specs.Cursors.{FetchesRows}
use Rattle.hg_cursor.specs.Firsts.{Copied, one_upto, count_upto, rows_upto, Keeps, IsNeeded}
use Rattle.hg_cursor.proofs.Gathering.{all_count}
use Rattle.hg_cursor.proofs.Keys.{of_first}
use Rattle.hg_cursor.proofs.Cutting.{IsCut, count_few, last_same}

-- no further bucket is needed: all were taken, or the next one's first key is over the limit
pub unneeded : (ahead count low limit : ℕ) → (nat_lt ahead count && nat_le (low + ahead) limit) ≡ false → (count ≤ ahead) ⊎ (limit < low + ahead)
unneeded ahead count low limit e = cases (nat_lt ahead count)
    (λ t. inr (let f : nat_le (low + ahead) limit ≡ false = ap (λ b. b && nat_le (low + ahead) limit) (sym t) ∙ e in grind (arith, nat_tests, f)))
    (λ f. inl (grind (arith, nat_tests, f)))

pub needed : (ahead count low limit : ℕ) → (nat_lt ahead count && nat_le (low + ahead) limit) ≡ true → (ahead < count) × (low + ahead ≤ limit)
needed ahead count low limit e = cases (nat_lt ahead count)
    (λ t. let f : nat_le (low + ahead) limit ≡ true = ap (λ b. b && nat_le (low + ahead) limit) (sym t) ∙ e in (grind (arith, nat_tests, t), grind (arith, nat_tests, f)))
    (λ f. absurd (let z : false ≡ true = ap (λ b. b && nat_le (low + ahead) limit) (sym f) ∙ e in cc))

-- rows up to a limit are rows
upto_few : (k limit : ℕ) (rows : Rows) → count_upto k (rows_upto limit rows) ≤ count_upto k rows
upto_few k limit [] = omega arith
upto_few k limit (p ∷ rows) =
    let rest = upto_few k limit rows in
    let all = sum_by-cons (one_upto k) p rows in
    cases (nat_le p.0 limit)
    (λ t.
    let here : rows_upto limit (p ∷ rows) ≡ p ∷ rows_upto limit rows = ap (λ b. cond b (p ∷ rows_upto limit rows) (rows_upto limit rows)) t in
    let more = sum_by-cons (one_upto k) p (rows_upto limit rows) in
    let same = ap (count_upto k) here in
    omega (arith, rest, all, more, same))
    (λ f.
    let here : rows_upto limit (p ∷ rows) ≡ rows_upto limit rows = ap (λ b. cond b (p ∷ rows_upto limit rows) (rows_upto limit rows)) f in
    let same = ap (count_upto k) here in
    omega (arith, rest, all, same))

-- where all rows up to a limit are needed, the first n of them pass all keys up to it
pub passes : (n limit upto : ℕ) (all : Copied) (rows : Rows) → all.most ≡ n → IsNeeded limit all → Keeps n limit (rows_upto limit all.rows) rows upto → Each (λ p. p.0 ≤ upto) rows → limit ≤ upto
passes n limit upto all rows most needed keeps below = cases (nat_lt (length rows) n)
    (λ t. let same = keeps.upto_is ∙ ap (λ b. if b then limit else last_key limit rows) t in omega (arith, same))
    (λ f. cases (nat_lt upto limit)
    (λ u.
    let few = needed upto (grind (arith, nat_tests, u)) in
    let long : n ≤ length rows = grind (arith, nat_tests, f) in
    let whole = all_count upto rows below in
    let taken = ap (count_upto upto) keeps.is in
    let some = sum_by-take-le (one_upto upto) keeps.sorted n in
    let permuted = sum_by-IsPermutation (one_upto upto) (rows_upto limit all.rows) keeps.sorted keeps.permutes in
    let copied = upto_few upto limit all.rows in
    absurd (omega (arith, few, most, long, whole, taken, some, permuted, copied)))
    (λ o. grind (arith, nat_tests, o)))

module _ (count n : ℕ) (v w : View) (table : TableId) (low high number limit upto : ℕ) (rows : Rows) (some : 0 < n) (buckets : 0 < count)
    (k : IsCut count n v table low high number limit upto rows w) (is : upto ≡ passed n limit rows) (end : (count ≤ number) ⊎ (limit < low + number)) where
  reached_to : passed n high rows ≡ upto
  reached_to = cases (nat_lt (length rows) n)
      (λ t. ap (λ b. if b then high else last_key high rows) t ∙ sym (all (grind (arith, nat_tests, t)) k.gathered.enough))
      (λ f.
      let long : 0 < length rows = grind (arith, nat_tests, f, some) in
      ap (λ b. if b then high else last_key high rows) f ∙ (last_same high limit rows long ∙ sym (is ∙ ap (λ b. if b then limit else last_key limit rows) f)))
    where
      all : length rows < n → (upto ≡ high) ⊎ (n ≤ sum_by (one_upto upto) rows) → upto ≡ high
      all l (inl e) = e
      all l (inr many) = let few = count_few upto rows in absurd (omega (arith, l, many, few))

  pub fetched : low + number ≤ upto + 1 → FetchesRows count n v table low high rows w
  fetched far = record {
    looked = record { number = number; once = k.gathered.once; reached = k.gathered.reached; part = k.gathered.part; adds = k.gathered.adds };
    picks = record {
      few = k.few;
      within = let b = k.gathered.within in omega (arith, b, reached_to);
      ascend = k.ascend;
      each = each_two rows k.gathered.each k.below;
      every = λ i l. each_keeps _ (λ p. p.0 ≤ passed n high rows → Contains rows p) (λ p f m. f (omega (arith, m, reached_to))) (k.gathered.part i) (k.gathered.every i l);
      none_left = λ key l h.
          let first = of_first count table low key buckets l in
          let under = first.1 in
          let near = first.2 in
          let less = k.less in
          (first.0, before first.0 under (omega (arith, near, h, reached_to, less)) end, first.3);
    };
    needed = omega (arith, far, reached_to);
  }
    where
      before : (i : ℕ) → i < count → low + i ≤ limit → (count ≤ number) ⊎ (limit < low + number) → i < number
      before i under near (inl a) = omega (arith, under, a)
      before i under near (inr b) = omega (arith, near, b)

      each_two : (ys : Rows) → Each (λ p. (i : ℕ) × (i < number) × Contains (k.gathered.part i) p) ys → Each (λ p. p.0 ≤ upto) ys →
          Each (λ p. ((i : ℕ) × (i < number) × Contains (k.gathered.part i) p) × (p.0 ≤ passed n high rows)) ys
      each_two [] c d = tt
      each_two (y ∷ ys) c d = ((c.0, subst (λ m. y.0 ≤ m) (sym reached_to) d.0), each_two ys c.1 d.1)
