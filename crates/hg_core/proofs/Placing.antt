-- Each record stays in its own bucket, once.
use Rattle.std.proofs.Common.{◌≡◌, ℕ, ◌<◌, List, [], ◌∷◌, length, Bool, true, false, ◌||◌, refl, sym, ap, ◌∙◌, subst, arith}
use Rattle.std.specs.Prelude.{if◌then◌else◌, map, IsFalse}
use Rattle.hg_base.specs.declared.rid.Rid.{Rid}
use Rattle.hg_base.specs.Lists.{Each}
use Rattle.hg_base.specs.History.{same_rid, is_among, NoneTwice}
use Rattle.hg_base.proofs.HistoryFacts.{same_rid_equal}
use Rattle.hg_core.specs.declared.version.Version.{Version}
use Rattle.hg_core.specs.Contents.{Content, bucket_of, look, store, stored}
use Rattle.hg_core.specs.Placed.{IsPlaced}
use Rattle.hg_core.proofs.Indices.{by_number}
use Rattle.hg_core.proofs.Records.{turned_rid}

-- what holds of the record and of those that are there, holds of those after a store
each_store : (P : Rid → Type 0) (r : Rid) (vs : List Version) (es : Content) → (0 < length vs → P r) → Each (λ e. P e.0) es → Each (λ e. P e.0) (store r vs es)
each_store P r [] [] f h = tt
each_store P r (v ∷ vs) [] f h = (f (omega arith), tt)
each_store P r vs (e ∷ es) f h = go (same_rid r e.0) refl (each_store P r vs es f h.1)
  where
    go : (b : Bool) → same_rid r e.0 ≡ b → Each (λ e. P e.0) (store r vs es) → Each (λ e. P e.0) (if b then (r, vs) ∷ es else e ∷ store r vs es)
    go true t later = (subst P (sym (same_rid_equal r e.0 t)) h.0, h.1)
    go false t later = (h.0, later)

-- another record is there afterwards just where it was
among_store : (q r : Rid) (vs : List Version) (es : Content) → same_rid r q ≡ false →
    is_among q (map (λ (e : Rid × List Version). e.0) (store r vs es)) ≡ is_among q (map (λ (e : Rid × List Version). e.0) es)
among_store q r [] [] n = refl
among_store q r (v ∷ vs) [] n = ap (λ b. b || false) (turned_rid q r ∙ n)
among_store q r vs (e ∷ es) n = go (same_rid r e.0) refl (among_store q r vs es n)
  where
    go : (b : Bool) → same_rid r e.0 ≡ b → is_among q (map (λ (e : Rid × List Version). e.0) (store r vs es)) ≡ is_among q (map (λ (e : Rid × List Version). e.0) es) →
        is_among q (map (λ (e : Rid × List Version). e.0) (if b then (r, vs) ∷ es else e ∷ store r vs es)) ≡ is_among q (map (λ (e : Rid × List Version). e.0) (e ∷ es))
    go true t later = ap (λ x. same_rid q x || is_among q (map (λ (e : Rid × List Version). e.0) es)) (same_rid_equal r e.0 t)
    go false t later = ap (λ b. same_rid q e.0 || b) later

once_store : (r : Rid) (vs : List Version) (es : Content) → NoneTwice (map (λ (e : Rid × List Version). e.0) es) → NoneTwice (map (λ (e : Rid × List Version). e.0) (store r vs es))
once_store r [] [] h = tt
once_store r (v ∷ vs) [] h = (refl, tt)
once_store r vs (e ∷ es) h = go (same_rid r e.0) refl (once_store r vs es h.1)
  where
    go : (b : Bool) → same_rid r e.0 ≡ b → NoneTwice (map (λ (e : Rid × List Version). e.0) (store r vs es)) →
        NoneTwice (map (λ (e : Rid × List Version). e.0) (if b then (r, vs) ∷ es else e ∷ store r vs es))
    go true t later = (subst (λ x. IsFalse (is_among x (map (λ (e : Rid × List Version). e.0) es))) (sym (same_rid_equal r e.0 t)) h.0, h.1)
    go false t later = (among_store e.0 r vs es t ∙ h.0, later)

pub placed_stored : (tables buckets : ℕ) (bucket : ℕ → Content) (r : Rid) (vs : List Version) → (0 < length vs → r.table.0 < tables) →
    ((b : ℕ) → IsPlaced tables buckets b (bucket b)) → (b : ℕ) → IsPlaced tables buckets b (stored buckets bucket r vs b)
placed_stored tables buckets bucket r vs table h =
    let at : ℕ = bucket_of buckets r in
    let here : IsPlaced tables buckets at (bucket at) = h at in
    by_number at (λ b x. IsPlaced tables buckets b (if x then store r vs (bucket at) else bucket b))
    (record {
      bucket = each_store (λ q. bucket_of buckets q ≡ at) r vs (bucket at) (λ some. refl) here.bucket;
      table = each_store (λ q. q.table.0 < tables) r vs (bucket at) table here.table;
      once = once_store r vs (bucket at) here.once;
    })
    (λ b other. h b)

-- a record that has a version is of a table that is there
pub table_of_held : (tables : ℕ) (r : Rid) (es : Content) → Each (λ e. e.0.table.0 < tables) es → 0 < length (look r es) → r.table.0 < tables
table_of_held tables r [] h some = absurd (omega arith)
table_of_held tables r (e ∷ es) h some = go (same_rid r e.0) refl some (λ k. table_of_held tables r es h.1 k)
  where
    go : (b : Bool) → same_rid r e.0 ≡ b → 0 < length (if b then e.1 else look r es) → (0 < length (look r es) → r.table.0 < tables) → r.table.0 < tables
    go true t some later = subst (λ (q : Rid). q.table.0 < tables) (sym (same_rid_equal r e.0 t)) h.0
    go false t some later = later some
