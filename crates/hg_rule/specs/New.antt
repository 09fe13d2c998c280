-- Seats of a new board.
use Rattle.std.specs.Prelude.{◌≡◌, ℕ, suc, List, [], ◌∷◌, ⊤}
use Rattle.atomic_table.specs.Seated.{TableId as BoardId}
use Rattle.atomic_table.specs.declared.shared.Seat.{Seat}
use Rattle.hg_rule.specs.declared.passes.SessionPass.{SessionPass}
use Rattle.hg_rule.specs.declared.passes.CollectorPass.{CollectorPass}
use Rattle.hg_rule.specs.declared.passes.BucketSeat.{BucketSeat}
use Rattle.hg_rule.specs.declared.passes.CommitSeat.{CommitSeat}
use Rattle.hg_rule.specs.declared.view.Part.{Part}
use Rattle.hg_rule.specs.declared.view.View.{View}
use Rattle.hg_rule.specs.Keys.{commit_key}
use Rattle.hg_rule.specs.Facts.{new_part}
use Rattle.hg_rule.specs.Views.{seeing}
use Rattle.hg_rule.specs.Moves.{first_of, session_part, bucket_part, pass_part}

-- P of each with its number, from i on
abbrev pub EachFrom : {A : Type 0} → (ℕ → A → Type 0) → ℕ → List A → Type 0
EachFrom P i [] = ⊤
EachFrom P i (x ∷ xs) = P i x × EachFrom P (suc i) xs

-- a seat of the table that has these parts, and has seen and done nothing
abbrev pub HasNew : BoardId → List Part → Seat ℕ View → Type 0
HasNew t parts s = (s.table_id ≡ t) × (s.me ≡ (seeing parts [] [], []))

-- a seat of the table with this part alone, which has seen and done nothing
abbrev pub IsNew : BoardId → Part → Seat ℕ View → Type 0
IsNew t part s = HasNew t (part ∷ []) s

-- a seat of the table with the first of these parts alone, which has seen and done nothing
abbrev pub IsNewFirst : BoardId → List Part → Seat ℕ View → Type 0
IsNewFirst t parts s = HasNew t (first_of parts) s

-- the pass of session j on a new board
abbrev pub IsNewSession : BoardId → ℕ → SessionPass → Type 0
IsNewSession t j p = (p.number ≡ j) × (p.begun ≡ 0) × IsNew t (session_part j) p.seat

-- the seat of bucket b on a new board
abbrev pub IsNewBucket : BoardId → ℕ → BucketSeat → Type 0
IsNewBucket t b p = (p.number ≡ b) × IsNew t (bucket_part b) p.seat

-- collector pass n on a new board
abbrev pub IsNewPass : BoardId → ℕ → CollectorPass → Type 0
IsNewPass t n p = IsNew t (pass_part n) p.seat

-- the committer's seat on a new board
abbrev pub IsNewCommit : BoardId → CommitSeat → Type 0
IsNewCommit t p = IsNew t (new_part commit_key) p.seat
