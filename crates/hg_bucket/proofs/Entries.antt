-- Entries of the index: what is so of each, and sums over them.
use Rattle.std.proofs.Common.{◌≡◌, ℕ, ◌+◌, List, [], ◌∷◌, length, Bool, true, false, Some, None, refl, sym, ap, ◌∙◌, cond, subst, arith}
use Rattle.std.specs.Prelude.{sum_by, is_some}
use Rattle.std.specs.List.{IsDistinct}
use Rattle.std.specs.Map.{keys_of, remove_entry}
use Rattle.std.specs.BTreeMap.{insert_entry}
use Rattle.std.specs.Ordering.{match_ordering, is_eq}
use Rattle.std.specs.declared.cmp.Ordering.{Ordering}
use Rattle.std.specs.declared.cmp.Ordering.TheVariants.{Less, Equal, Greater}
use Rattle.std.proofs.lemmas.Option.{none-some, same_Some}
use Rattle.std.proofs.lemmas.Map.{NonePasses, lookup-none}
use Rattle.std.proofs.lemmas.Map.Keys.{IsDistinct-tail, IsDistinct-from_sorted}
use Rattle.std.proofs.lemmas.Map.Entries.{none_past_head}
use Rattle.std.proofs.lemmas.List.Sums.{sum_by-cons}
use Rattle.hg_base.specs.declared.rid.Rid.{Rid}
use Rattle.hg_base.specs.History.{same_rid}
use Rattle.hg_base.specs.Lists.{Each}
use Rattle.hg_base.specs.RidOrder.{rid_cmp}
use Rattle.hg_base.proofs.RidOrder.{rids_equiv, at_rid, is_same}
use Rattle.hg_base.proofs.HistoryFacts.{same_rid_equal}
use Rattle.hg_chains.specs.Places.{Places}
use Rattle.hg_space.specs.Index.{place_of, IsIndex}
use Rattle.hg_space.specs.Places.{Seat}
use Rattle.hg_bucket.specs.BucketModel.{left}
use Rattle.hg_bucket.specs.Parts.{versions_at, records_of}

pub distinct : (es : List (Rid × ℕ)) → IsIndex es → IsDistinct same_rid (keys_of es)
distinct es h = subst (λ (test : Rid → Rid → Bool). IsDistinct test (keys_of es)) (λ i a b. at_rid a b i) (IsDistinct-from_sorted rid_cmp (keys_of es) h.ascends)

-- what is so of each record with its place is so of each entry
pub each_entry : (P : Rid × ℕ → Type 0) (es : List (Rid × ℕ)) → IsDistinct same_rid (keys_of es) → ((r : Rid) (p : ℕ) → place_of es r ≡ Some p → P (r, p)) → Each P es
each_entry P [] d h = tt
each_entry P (e ∷ es) d h = (h e.0 e.1 (ap (λ b. cond b (Some e.1) (place_of es e.0)) (is_same e.0)), each_entry P es (IsDistinct-tail same_rid e.0 (keys_of es) d) rest)
  where
    rest : (r : Rid) (p : ℕ) → place_of es r ≡ Some p → P (r, p)
    rest r p k = go (same_rid r e.0) refl
      where
        go : (b : Bool) → same_rid r e.0 ≡ b → P (r, p)
        go true same = absurd (none-some p (sym (lookup-none (same_rid r) es (none_past_head rids_equiv r e es d same)) ∙ k))
        go false apart = h r p (ap (λ b. cond b (Some e.1) (place_of es r)) apart ∙ k)

-- ---- sums

pub sums_alike : (f g : Rid × ℕ → ℕ) (es : List (Rid × ℕ)) → Each (λ e. f e ≡ g e) es → sum_by f es ≡ sum_by g es
sums_alike f g [] h = refl
sums_alike f g (e ∷ es) h = sum_by-cons f e es ∙ (λ i. h.0 i + sums_alike f g es h.1 i) ∙ sym (sum_by-cons g e es)

pub all_apart : (r : Rid) (Q : Rid × ℕ → Type 0) (es : List (Rid × ℕ)) → NonePasses (same_rid r) es → Each (λ e. same_rid r e.0 ≡ false → Q e) es → Each Q es
all_apart r Q [] n h = tt
all_apart r Q (e ∷ es) n h = (h.0 n.0, all_apart r Q es n.1 h.1)

pub each_removed : (r : Rid) (Q : Rid × ℕ → Type 0) (es : List (Rid × ℕ)) → IsDistinct same_rid (keys_of es) → Each (λ e. same_rid r e.0 ≡ false → Q e) es → Each Q (remove_entry (same_rid r) es)
each_removed r Q [] d h = tt
each_removed r Q (e ∷ es) d h = go (same_rid r e.0) refl (each_removed r Q es (IsDistinct-tail same_rid e.0 (keys_of es) d) h.1)
  where
    go : (b : Bool) → same_rid r e.0 ≡ b → Each Q (remove_entry (same_rid r) es) → Each Q (cond b es (e ∷ remove_entry (same_rid r) es))
    go true same rest = all_apart r Q es (none_past_head rids_equiv r e es d same) h.1
    go false apart rest = (h.0 apart, rest)

-- the terms of all entries but one stay
pub one_changed : (f g : Rid × ℕ → ℕ) (es : List (Rid × ℕ)) (r : Rid) (p : ℕ) → IsDistinct same_rid (keys_of es) → place_of es r ≡ Some p →
    Each (λ e. same_rid r e.0 ≡ false → f e ≡ g e) es → sum_by f es + g (r, p) ≡ sum_by g es + f (r, p)
one_changed f g [] r p d h others = absurd (none-some p h)
one_changed f g (e ∷ es) r p d h others = go (same_rid r e.0) refl h (λ k. one_changed f g es r p (IsDistinct-tail same_rid e.0 (keys_of es) d) k others.1)
  where
    go : (b : Bool) → same_rid r e.0 ≡ b → cond b (Some e.1) (place_of es r) ≡ Some p → (place_of es r ≡ Some p → sum_by f es + g (r, p) ≡ sum_by g es + f (r, p)) →
        sum_by f (e ∷ es) + g (r, p) ≡ sum_by g (e ∷ es) + f (r, p)
    go true same k rest =
        let at : e ≡ (r, p) = (λ i. (sym (same_rid_equal r e.0 same) i, same_Some e.1 p k i)) in
        let tail = sums_alike f g es (all_apart r (λ e. f e ≡ g e) es (none_past_head rids_equiv r e es d same) others.1) in
        omega (arith, sum_by-cons f e es, sum_by-cons g e es, ap f at, ap g at, tail)
    go false apart k rest =
        let more = rest k in
        omega (arith, sum_by-cons f e es, sum_by-cons g e es, others.0 apart, more)

-- an entry leaves
pub one_removed : (f : Rid × ℕ → ℕ) (es : List (Rid × ℕ)) (r : Rid) (p : ℕ) → place_of es r ≡ Some p → sum_by f es ≡ f (r, p) + sum_by f (remove_entry (same_rid r) es)
one_removed f [] r p h = absurd (none-some p h)
one_removed f (e ∷ es) r p h = go (same_rid r e.0) refl h (one_removed f es r p)
  where
    go : (b : Bool) → same_rid r e.0 ≡ b → cond b (Some e.1) (place_of es r) ≡ Some p → (place_of es r ≡ Some p → sum_by f es ≡ f (r, p) + sum_by f (remove_entry (same_rid r) es))
        → sum_by f (e ∷ es) ≡ f (r, p) + sum_by f (cond b es (e ∷ remove_entry (same_rid r) es))
    go true same k rest = sum_by-cons f e es ∙ ap (λ x. f x + sum_by f es) (λ i. (sym (same_rid_equal r e.0 same) i, same_Some e.1 p k i))
    go false apart k rest =
        let more = rest k in
        omega (arith, sum_by-cons f e es, sum_by-cons f e (remove_entry (same_rid r) es), more)

-- an entry comes
pub one_added : (f : Rid × ℕ → ℕ) (es : List (Rid × ℕ)) (r : Rid) (p : ℕ) → place_of es r ≡ None → sum_by f (insert_entry rid_cmp es r p) ≡ f (r, p) + sum_by f es
one_added f [] r p h = sum_by-cons f (r, p) []
one_added f (e ∷ es) r p h = go (rid_cmp r e.0) (ap is_some h) (sym (at_rid r e.0)) (one_added f es r p)
  where
    go : (o : Ordering) → is_some (cond (same_rid r e.0) (Some e.1) (place_of es r)) ≡ false → same_rid r e.0 ≡ is_eq o →
        (place_of es r ≡ None → sum_by f (insert_entry rid_cmp es r p) ≡ f (r, p) + sum_by f es) →
        sum_by f (match_ordering o ((r, p) ∷ e ∷ es) ((e.0, p) ∷ es) (e ∷ insert_entry rid_cmp es r p)) ≡ f (r, p) + sum_by f (e ∷ es)
    go Less k same rest = sum_by-cons f (r, p) (e ∷ es)
    go Equal k same rest = absurd (let j = ap (λ b. is_some (cond b (Some e.1) (place_of es r))) (sym same) ∙ k in cc)
    go Greater k same rest =
        let more = rest (ap (λ b. cond b (Some e.1) (place_of es r)) (sym same) ∙ h) in
        omega (arith, sum_by-cons f e (insert_entry rid_cmp es r p), sum_by-cons f e es, more)

-- ---- how many versions are held

abbrev pub how_many : Places → List Seat → Rid × ℕ → ℕ
how_many cs places e = length (versions_at cs places e.1)

pub left_is : (es : List (Rid × ℕ)) (cs : Places) (places : List Seat) → left (records_of es cs places) ≡ sum_by (how_many cs places) es
left_is [] cs places = refl
left_is (e ∷ es) cs places =
    sum_by-cons (λ x. length x.1) (e.0, versions_at cs places e.1) (records_of es cs places)
    ∙ ap (λ n. how_many cs places e + n) (left_is es cs places)
    ∙ sym (sum_by-cons (how_many cs places) e es)
