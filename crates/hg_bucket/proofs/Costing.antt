-- What a sweep of a table costs.
use Rattle.std.proofs.Common.{◌≡◌, ℕ, ◌+◌, ◌≤◌, ◌<◌, List, [], ◌∷◌, length, Bool, true, false, Some, None, refl, sym, ap, ◌∙◌, cond, arith}
use Rattle.std.specs.Prelude.{◌&&◌, ◌==◌, nat_le, sum_by, filter, option_to_list, option_map}
use Rattle.std.proofs.lemmas.Bool.Decides.{nat_tests}
use Rattle.std.proofs.lemmas.List.Sums.{sum_by-cons}
use Rattle.hg_base.specs.declared.rid.Rid.{Rid}
use Rattle.hg_base.specs.declared.rid.TableId.{TableId}
use Rattle.hg_base.specs.declared.image.Image.{Image}
use Rattle.hg_chains.specs.declared.version.Stamp.{Stamp}
use Rattle.hg_chains.specs.declared.version.Stamp.TheVariants.{Written, Numbered}
use Rattle.hg_chains.specs.declared.version.Version.{Version}
use Rattle.hg_space.specs.Places.{Oldest}
use Rattle.hg_bucket.specs.BucketModel.{Kept}
use Rattle.hg_bucket.specs.Parts.{kept_as, whole}
use Rattle.hg_bucket.specs.Sweeping.{is_long, is_looked_at, sweep_steps}
use Rattle.hg_bucket.proofs.Bare.{whole_sum}

-- what one record costs, for so many snapshots
abbrev pub cost_of : ℕ → List Kept → ℕ
cost_of n vs = cond (is_long vs) (length vs + n) 0

-- what those of a table cost from a key on
abbrev pub is_to_come : TableId → ℕ → Rid → Bool
is_to_come t from q = (q.table.0 == t.0) && nat_le from q.key

abbrev pub cost_at : TableId → ℕ → ℕ → Rid × List Kept → ℕ
cost_at t from n e = cond (is_to_come t from e.0) (cost_of n e.1) 0

abbrev pub cost_from : TableId → ℕ → ℕ → List (Rid × List Kept) → ℕ
cost_from t from n records = sum_by (cost_at t from n) records

-- all of them
pub all_paid : (t : TableId) (xs : List ℕ) (records : List (Rid × List Kept)) → cost_from t 0 (length xs) records ≡ sweep_steps t xs records
all_paid t xs [] = refl
all_paid t xs (e ∷ records) = sum_by-cons (cost_at t 0 (length xs)) e records ∙ go (e.0.table.0 == t.0) refl (is_long e.1) refl (all_paid t xs records)
  where
    come : is_to_come t 0 e.0 ≡ (e.0.table.0 == t.0)
    come = let from_zero : nat_le 0 e.0.key ≡ true = grind (arith, nat_tests) in (λ i. (e.0.table.0 == t.0) && from_zero i) ∙ either (e.0.table.0 == t.0)
      where
        either : (b : Bool) → (b && true) ≡ b
        either true = refl
        either false = refl

    go : (a : Bool) → (e.0.table.0 == t.0) ≡ a → (b : Bool) → is_long e.1 ≡ b → cost_from t 0 (length xs) records ≡ sweep_steps t xs records →
        cost_at t 0 (length xs) e + cost_from t 0 (length xs) records ≡ sweep_steps t xs (e ∷ records)
    go a h b k rest =
        (λ i. cond ((come ∙ h) i) (cond (k i) (length e.1 + length xs) 0) 0 + rest i)
        ∙ each a b
        ∙ sym (λ i. sum_by (λ f. length f.1 + length xs) (cond (h i && k i) (e ∷ filter (is_looked_at t) records) (filter (is_looked_at t) records)))
      where
        each : (a b : Bool) → cond a (cond b (length e.1 + length xs) 0) 0 + sweep_steps t xs records ≡ sum_by (λ f. length f.1 + length xs)
            (cond (a && b) (e ∷ filter (is_looked_at t) records) (filter (is_looked_at t) records))
        each true true = sym (sum_by-cons (λ f. length f.1 + length xs) e (filter (is_looked_at t) records))
        each true false = omega arith
        each false true = omega arith
        each false false = omega arith

-- ---- one record, of its chain and its oldest image

pub whole_long : (v : Version) (vs : List Version) (im : Oldest) → is_long (whole (v ∷ vs) im) ≡ true
whole_long v [] None = written v.stamp v.image
  where
    written : (s : Stamp) (image : Image) → is_long (kept_as s image ∷ []) ≡ true
    written (Written w) image = refl
    written (Numbered n w) image = refl
whole_long v [] (Some p) = refl
whole_long v (w ∷ vs) im = refl

-- a record that has a chain costs its versions and the snapshots
pub record_paid : (n before after : ℕ) (vs : List Version) (im : Oldest) → 0 < length vs → after ≤ before + length vs + length (option_to_list (option_map (λ p. p.0) im)) + n →
    after ≤ before + cost_of n (whole vs im)
record_paid n before after [] im long some = absurd (omega (arith, long))
record_paid n before after (v ∷ vs) im long some =
    let cost : cost_of n (whole (v ∷ vs) im) ≡ length (whole (v ∷ vs) im) + n = ap (λ b. cond b (length (whole (v ∷ vs) im) + n) 0) (whole_long v vs im) in
    omega (arith, some, cost, whole_sum (v ∷ vs) im, numbers im)
  where
    numbers : (im : Oldest) → length (option_to_list (option_map (λ p. p.0) im)) ≡ length (option_to_list im)
    numbers None = refl
    numbers (Some p) = refl
