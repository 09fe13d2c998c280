-- When a write is refused.
use Rattle.std.specs.Prelude.{◌≡◌, ℕ, List, [], ◌∷◌, ◌||◌, ◌&&◌, not, nat_lt, is_some, if◌then◌else◌, Option, Some, None, option_map, option_and_then, unwrap_or, Bool, false, IsTrue, IsFalse}
use Rattle.std.specs.Option.{option_or}
use Rattle.hg_base.specs.declared.writer.Writer.{Writer}
use Rattle.hg_base.specs.Lists.{Each}
use Rattle.hg_bucket.specs.declared.refusal.WriteRefusal.{WriteRefusal}
use Rattle.hg_bucket.specs.declared.refusal.WriteRefusal.TheVariants.{Open, Newer, NoMemory}
use Rattle.hg_bucket.specs.BucketModel.{Kept, is_open_by, begins_open}

-- whether a version is another's open write, or numbered over the mark
abbrev pub is_unpublished : Writer → ℕ → Kept → Bool
is_unpublished by mark v = (not (is_some v.number) && not (is_open_by by v)) || unwrap_or (option_map (nat_lt mark) v.number) false

-- the writer of the newest version, where that is another's open write or numbered over the mark
abbrev pub holder : Writer → ℕ → List Kept → Option Writer
holder by mark [] = None
holder by mark (v ∷ vs) = if is_unpublished by mark v then v.by else None

-- the number of the newest version, where that is over the snapshot
abbrev pub newer : ℕ → List Kept → Option ℕ
newer snapshot [] = None
newer snapshot (v ∷ vs) = option_and_then (λ n. if nat_lt snapshot n then Some n else None) v.number

-- the refusal for an open write of that transaction
abbrev pub open_by : Writer → WriteRefusal
open_by w = Open w.session w.transaction

-- what a refusal says is so, and each test before it
abbrev pub IsCause : Writer → ℕ → ℕ → List Kept → WriteRefusal → Type 0
IsCause by snapshot mark vs (Open session transaction) = holder by mark vs ≡ Some (record { session = session; transaction = transaction })
IsCause by snapshot mark vs (Newer n) = (holder by mark vs ≡ None) × (newer snapshot vs ≡ Some n)
IsCause by snapshot mark vs NoMemory = (holder by mark vs ≡ None) × (newer snapshot vs ≡ None) × IsFalse (begins_open by vs)

-- why a write is refused, memory aside
abbrev pub conflict : Writer → ℕ → ℕ → List Kept → Option WriteRefusal
conflict by snapshot mark vs = option_or (option_map open_by (holder by mark vs)) (option_map Newer (newer snapshot vs))

-- no version is an open write of another transaction
abbrev pub NoOther : Writer → List Kept → Type 0
NoOther by vs = Each (λ v. IsTrue (is_some v.number || is_open_by by v)) vs
