use Rattle.std.proofs.Common.{◌≡◌, ℕ, ◌-◌, ◌<◌, ◌≤◌, Some, length}
use Rattle.std.specs.Prelude.{IfSome, IsSomeAnd, slice_get}
use Rattle.hg_chains.specs.declared.landmarks.Landmark.{Landmark}
use Rattle.hg_chains.specs.Landmarks.{HasLandmarks, IsLandmarkIn, IsOver}
use Rattle.hg_chains.proofs.landmarks.Landmarks.nearest.Given as goal

-- none of the landmarks before `from` is over the bound, and none from `to` on is lower than the nearest so far
abbrev pub invariant-loop-from : goal.invariant-loop-from
invariant-loop-from l = record {
  landmarks : HasLandmarks l.arena l.place l.list.items;
  within : l.to ≤ length l.list.items;
  landmark : IfSome l.nearest (IsLandmarkIn l.arena l.place);
  over : IfSome l.nearest (IsOver l.arena l.bound);
  before : (k : ℕ) (m : Landmark) → k < l.from → slice_get l.list.items k ≡ Some m → IsOver l.arena l.bound m → ⊥;
  from_on : (k : ℕ) (m : Landmark) → l.to ≤ k → k < length l.list.items → slice_get l.list.items k ≡ Some m → IsSomeAnd l.nearest (λ n. n.height ≤ m.height);
}

abbrev pub decreases-loop-from : goal.decreases-loop-from
decreases-loop-from l = l.to - l.from
