-- One record's versions given anew.
use Rattle.std.proofs.Common.{◌≡◌, ℕ, List, [], ◌∷◌, Bool, true, false, ◌==◌, refl, sym, ap, ◌∙◌, subst, arith}
use Rattle.std.specs.Prelude.{if◌then◌else◌}
use Rattle.std.proofs.lemmas.Bool.Decides.{nat_tests}
use Rattle.hg_base.specs.declared.rid.Rid.{Rid}
use Rattle.hg_base.specs.History.{same_rid}
use Rattle.hg_base.proofs.HistoryFacts.{same_rid_equal}
use Rattle.hg_core.specs.declared.version.Version.{Version}
use Rattle.hg_core.specs.Contents.{Content, bucket_of, look, store, versions, stored}

-- what holds of r where the test passes, and of others where it fails, holds of all
pub by_rid : (r : Rid) (Q : Rid → Bool → Type 0) → Q r true → ((q : Rid) → same_rid r q ≡ false → Q q false) → (q : Rid) → Q q (same_rid r q)
by_rid r Q here there q = go (same_rid r q) refl
  where
    go : (b : Bool) → same_rid r q ≡ b → Q q b
    go true e = let same : r ≡ q = same_rid_equal r q e in subst (λ x. Q x true) same here
    go false e = there q e

pub turned_rid : (q r : Rid) → same_rid q r ≡ same_rid r q
turned_rid q r = grind (arith, nat_tests)

-- what a content shows after a store
pub look_store : (q r : Rid) (vs : List Version) (es : Content) → look q (store r vs es) ≡ (if same_rid q r then vs else look q es)
look_store q r [] [] = either (same_rid q r) []
  where
    either : (b : Bool) (es : List Version) → es ≡ (if b then es else es)
    either true es = refl
    either false es = refl
look_store q r (v ∷ vs) [] = refl
look_store q r vs (e ∷ es) = go (same_rid r e.0) refl (look_store q r vs es)
  where
    go : (b : Bool) → same_rid r e.0 ≡ b → look q (store r vs es) ≡ (if same_rid q r then vs else look q es) →
        look q (if b then (r, vs) ∷ es else e ∷ store r vs es) ≡ (if same_rid q r then vs else look q (e ∷ es))
    go true t ih = let same : r ≡ e.0 = same_rid_equal r e.0 t in merge (same_rid q r) (same_rid q e.0) (ap (same_rid q) same) (look q es)
      where
        merge : (a b : Bool) → a ≡ b → (rest : List Version) → (if a then vs else rest) ≡ (if a then vs else (if b then e.1 else rest))
        merge true b p rest = refl
        merge false b p rest = ap (λ x. if x then e.1 else rest) p
    go false t ih = split (same_rid q e.0) refl
      where
        split : (b : Bool) → same_rid q e.0 ≡ b → (if b then e.1 else look q (store r vs es)) ≡ (if same_rid q r then vs else (if b then e.1 else look q es))
        split true p = let same : q ≡ e.0 = same_rid_equal q e.0 p in let u : same_rid q r ≡ false = ap (λ x. same_rid x r) same ∙ turned_rid e.0 r ∙ t in ap (λ b. if b then vs else e.1) (sym u)
        split false p = ih

-- what holds of r with the new versions, and of others with their own, holds of all afterwards
pub at_record : (buckets : ℕ) (bucket : ℕ → Content) (r : Rid) (vs : List Version) (Q : Rid → List Version → Type 0) → Q r vs →
    ((q : Rid) → same_rid r q ≡ false → Q q (versions buckets bucket q)) → (q : Rid) → Q q (versions buckets (stored buckets bucket r vs) q)
at_record buckets bucket r vs Q here there q = go (bucket_of buckets q == bucket_of buckets r) refl (same_rid q r) refl
  where
    go : (b : Bool) → (bucket_of buckets q == bucket_of buckets r) ≡ b → (c : Bool) → same_rid q r ≡ c →
        Q q (look q (if b then store r vs (bucket (bucket_of buckets r)) else bucket (bucket_of buckets q)))
    go true e true t = let same : r ≡ q = sym (same_rid_equal q r t) in rw (look_store q r vs (bucket (bucket_of buckets r)), t) (subst (λ x. Q x vs) same here)
    go true e false t =
        let at : bucket_of buckets q ≡ bucket_of buckets r = grind (arith, nat_tests) in
        rw (look_store q r vs (bucket (bucket_of buckets r)), t) (subst (λ x. Q q (look q (bucket x))) at (there q (turned_rid r q ∙ t)))
    go false e true t = absurd (let same : bucket_of buckets q ≡ bucket_of buckets r = ap (bucket_of buckets) (same_rid_equal q r t) in grind (arith, nat_tests))
    go false e false t = there q (turned_rid r q ∙ t)
