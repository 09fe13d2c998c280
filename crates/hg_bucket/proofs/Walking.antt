-- What a walk through a table does of each record, and leaves of what is short.
use Rattle.std.proofs.Common.{◌≡◌, ℕ, List, Bool, true, false, refl, sym, arith}
use Rattle.std.specs.Prelude.{◌==◌}
use Rattle.std.proofs.lemmas.Bool.Decides.{nat_tests}
use Rattle.hg_base.specs.declared.rid.Rid.{Rid}
use Rattle.hg_base.specs.declared.rid.TableId.{TableId}
use Rattle.hg_base.specs.History.{same_rid}
use Rattle.hg_bucket.specs.BucketModel.{Kept, record_at, cut_at}
use Rattle.hg_bucket.specs.Long.{IsShort}
use Rattle.hg_bucket.specs.Sweeping.{swept, IsClean}

-- what can't be shortened stays
abbrev pub KeepsShort : (List Kept → List Kept → Type 0) → Type 0
KeepsShort Done = (vs : List Kept) → IsShort vs → Done vs vs

pub keys_apart : (t : TableId) (n k : ℕ) → (n ≡ k → ⊥) → same_rid (record_at t n) (record_at t k) ≡ false
keys_apart t n k h = grind (arith, nat_tests, h)

pub tables_apart : (t : TableId) (n : ℕ) (q : Rid) → (q.table ≡ t → ⊥) → same_rid (record_at t n) q ≡ false
tables_apart t n q h = go (t.0 == q.table.0) refl
  where
    go : (b : Bool) → (t.0 == q.table.0) ≡ b → same_rid (record_at t n) q ≡ false
    go true e = let same : q.table.0 ≡ t.0 = grind (arith, nat_tests, e) in absurd (h (λ i. record { 0 = same i }))
    go false e = grind (arith, nat_tests, e)

-- ---- what a walk of cuts does, and one of sweeps

abbrev pub Cut : ℕ → List Kept → List Kept → Type 0
Cut bound vs ws = ws ≡ cut_at bound vs

pub cut_keeps : (bound : ℕ) → KeepsShort (Cut bound)
cut_keeps bound vs h = sym (h.cut bound)

abbrev pub Swept : ℕ → List ℕ → List Kept → List Kept → Type 0
Swept horizon snapshots vs ws = (ws ≡ swept horizon snapshots vs) × IsClean horizon snapshots ws

pub swept_keeps : (horizon : ℕ) (snapshots : List ℕ) → KeepsShort (Swept horizon snapshots)
swept_keeps horizon snapshots vs h = (sym (h.swept horizon snapshots), h.clean horizon snapshots)
