-- A collector's pass is split in two that have its record, and two are united again.
use Rattle.std.specs.Prelude.{◌≡◌, ℕ, zero, suc, ◌+◌, ◌-◌, ◌/◌, ◌≤◌, [], ◌∷◌, ◌++◌, ⊤}
use Rattle.atomic_table.specs.Table.{Step}
use Rattle.hg_rule.specs.declared.view.PassPart.{PassPart}
use Rattle.hg_rule.specs.declared.view.Part.TheVariants.{OfPass}
use Rattle.hg_rule.specs.declared.view.View.{View}
use Rattle.hg_rule.specs.Views.{number, part_number, pass, pass_there, first_in, others, seeing}
use Rattle.hg_rule.specs.Moves.{put_in}
use Rattle.hg_rule.specs.Holding.{beyond}
use Rattle.hg_rule.specs.Steps.{Seated}

-- ---- shares

-- what a pass that is split gives of its share
abbrev pub given_of : ℕ → ℕ
given_of share = share / 2

-- what a pass that is split keeps of its share
abbrev pub kept_of : ℕ → ℕ
kept_of share = share - share / 2

-- a pass with this share may be split so often, one time after another
abbrev pub MaySplit : ℕ → ℕ → Type 0
MaySplit zero share = ⊤
MaySplit (suc n) share = (2 ≤ share) × MaySplit n (kept_of share)

-- ---- a split

-- the pass's part after a split: it keeps its record and its visits
abbrev pub halving : PassPart → PassPart
halving part = record part { share = kept_of part.share }

-- the new pass's part after a split: it has the same record, no visits, and an empty journal
abbrev pub branching : PassPart → PassPart
branching part = record part { visits = []; journal = []; share = given_of part.share }

-- the view of a pass after a split
abbrev pub halved : View → View
halved v = seeing (OfPass (number v) (halving (pass v)) ∷ others v) v.sights v.events

-- the new pass alone, which has seen what v has
abbrev pub branch : ℕ → View → View
branch n v = seeing (OfPass n (branching (pass v)) ∷ []) v.sights []

-- w is v in the middle of a split: the new pass's part follows the first, and has not left yet
abbrev pub Buds : ℕ → View → View → Type 0
Buds n v w = w ≡ seeing (OfPass (number v) (halving (pass v)) ∷ OfPass n (branching (pass v)) ∷ others v) v.sights v.events

-- ---- two are united

-- a view has a pass's part and nothing else
abbrev pub HasOnlyPass : View → Type 0
HasOnlyPass v = v.parts ≡ OfPass (number v) (pass v) ∷ []

-- the part of two passes that become one: the other's visits come before the pass's own, its journal after it, and its share is added
abbrev pub uniting : PassPart → PassPart → PassPart
uniting other part = record part { visits = other.visits ++ part.visits; journal = part.journal ++ other.journal; share = part.share + other.share }

-- v after it was united with w: what w had seen and done is v's too
abbrev pub united : View → View → View
united v w = seeing (OfPass (number v) (uniting (pass w) (pass v)) ∷ others v) (v.sights ++ w.sights) (v.events ++ w.events)

-- v in the middle of a union: the part of w follows the first, and they are not one yet
abbrev pub rejoined : View → View → View
rejoined v w = seeing (put_in v.parts w.parts) (v.sights ++ w.sights) (v.events ++ w.events)

-- the pass's part that follows the first
abbrev pub next_pass : View → PassPart
next_pass v = pass_there (first_in (others v))

-- the part that follows the first is a pass's
abbrev pub HasNextPass : View → Type 0
HasNextPass v = others v ≡ OfPass (part_number (others v)) (next_pass v) ∷ beyond v

-- w is v after its first part and the pass's part that follows it became one
abbrev pub Unites : View → View → Type 0
Unites v w = w ≡ seeing (OfPass (number v) (uniting (next_pass v) (pass v)) ∷ beyond v) v.sights v.events

-- ---- the same steps, as the table plays them

-- the step of `Buds`, for some number of the new pass
abbrev pub budded : Step ℕ → Seated → ℕ → Seated → Type 0
budded step m n w = ((p : ℕ) × Buds p m.0 w.0) × (w.1 ≡ m.1)

-- the step of `Unites`
abbrev pub unites : Step ℕ → Seated → ℕ → Seated → Type 0
unites step m n w = Unites m.0 w.0 × (w.1 ≡ m.1)
