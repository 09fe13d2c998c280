-- Whose seats they are, and what they have.
use Rattle.std.specs.Prelude.{◌≡◌, ℕ, [], ◌∷◌}
pub use Rattle.atomic_table.specs.Seated.{TableId as BoardId}
use Rattle.atomic_table.specs.declared.shared.Seat.{Seat}
use Rattle.hg_core.specs.Logs.{begans}
use Rattle.hg_core.specs.Phases.{IsSession}
use Rattle.hg_rule.specs.declared.board.Board.{Board}
use Rattle.hg_rule.specs.declared.passes.SessionPass.{SessionPass}
use Rattle.hg_rule.specs.declared.passes.CollectorPass.{CollectorPass}
use Rattle.hg_rule.specs.declared.passes.BucketSeat.{BucketSeat}
use Rattle.hg_rule.specs.declared.passes.CommitSeat.{CommitSeat}
use Rattle.hg_rule.specs.declared.passes.TxSeat.{TxSeat}
use Rattle.hg_rule.specs.declared.view.Part.TheVariants.{OfBucket, OfCommit, Lent}
use Rattle.hg_rule.specs.declared.view.View.{View}
use Rattle.hg_rule.specs.declared.view.Sizes.{Sizes}
use Rattle.hg_rule.specs.Views.{number, session, first_in, bucket_there, commit_there, HasSession, HasPass, HasAway}

-- a board's identity
abbrev pub board_id : Board → BoardId
board_id b = b.table.shared.table_id

-- the sizes that a board was made for
abbrev pub sizes_of : Board → Sizes
sizes_of b = b.table.shared.key

-- the view of a seat
abbrev pub view : Seat ℕ View → View
view s = s.me.0

-- the seat of a session's pass
abbrev pub session_seat : SessionPass → Seat ℕ View
session_seat p = p.seat

-- a session's pass with another seat
abbrev pub with_session_seat : SessionPass → Seat ℕ View → SessionPass
with_session_seat p s = record p { seat = s }

-- what a session's pass has besides its seat: its number, and how often it began
abbrev pub session_rest : SessionPass → ℕ × ℕ
session_rest p = (p.number, p.begun)

-- the seat of a collector's pass
abbrev pub pass_seat : CollectorPass → Seat ℕ View
pass_seat p = p.seat

-- a collector's pass with another seat
abbrev pub with_pass_seat : CollectorPass → Seat ℕ View → CollectorPass
with_pass_seat p s = record p { seat = s }

-- the seat of a bucket
abbrev pub bucket_seat : BucketSeat → Seat ℕ View
bucket_seat p = p.seat

-- a bucket's seat with another seat of the table
abbrev pub with_bucket_seat : BucketSeat → Seat ℕ View → BucketSeat
with_bucket_seat p s = record p { seat = s }

-- what a bucket's seat has besides the seat of the table: its number
abbrev pub bucket_rest : BucketSeat → ℕ × ℕ
bucket_rest p = (p.number, 0)

-- the seat of the committer
abbrev pub commit_seat : CommitSeat → Seat ℕ View
commit_seat p = p.seat

-- the committer's seat with another seat of the table
abbrev pub with_commit_seat : CommitSeat → Seat ℕ View → CommitSeat
with_commit_seat p s = record p { seat = s }

-- the view of a session's pass
abbrev pub session_view : SessionPass → View
session_view p = view p.seat

-- the view of a collector's pass
abbrev pub pass_view : CollectorPass → View
pass_view p = view p.seat

-- the view of a bucket's seat
abbrev pub bucket_view : BucketSeat → View
bucket_view p = view p.seat

-- the view of the committer's seat
abbrev pub commit_view : CommitSeat → View
commit_view p = view p.seat

-- the view of a seat that carries a session's part which was handed over
abbrev pub tx_view : TxSeat → View
tx_view p = view p.seat

-- the seat is one of this table, and carries no slot
abbrev pub IsSeatOf : BoardId → Seat ℕ View → Type 0
IsSeatOf t s = (s.table_id ≡ t) × (s.me.1 ≡ [])

-- the number and the count of begins that a session's pass has are those of its view
abbrev pub IsTied : SessionPass → Type 0
IsTied p = (number (session_view p) ≡ p.number) × (p.begun ≡ begans (session (session_view p)).log)

-- a bucket's seat at a board, which has that bucket's part alone
abbrev pub IsBucketOf : BoardId → BucketSeat → Type 0
IsBucketOf t p = IsSeatOf t p.seat × ((bucket_view p).parts ≡ OfBucket p.number (bucket_there (first_in (bucket_view p).parts)) ∷ [])

-- the committer's seat at a board, which has its part alone
abbrev pub IsCommitOf : BoardId → CommitSeat → Type 0
IsCommitOf t p = IsSeatOf t p.seat × ((commit_view p).parts ≡ OfCommit (commit_there (first_in (commit_view p).parts)) ∷ [])

-- a session's pass at a board, whose view begins with its session's part
abbrev pub IsSessionOf : BoardId → Sizes → SessionPass → Type 0
IsSessionOf t z p = IsSeatOf t p.seat × IsTied p × IsSession z.sessions (number (session_view p)) × HasSession (session_view p)

-- a collector's pass at a board, whose view begins with its part
abbrev pub IsPassOf : BoardId → CollectorPass → Type 0
IsPassOf t p = IsSeatOf t p.seat × HasPass (pass_view p)

-- a session's pass at a board whose own part was handed over
abbrev pub IsAwayOf : BoardId → Sizes → SessionPass → Type 0
IsAwayOf t z p = IsSeatOf t p.seat × IsTied p × IsSession z.sessions (number (session_view p)) × HasAway (session_view p)

-- a seat at a board, which has a session's part that was handed over, and nothing else
abbrev pub IsTxOf : BoardId → TxSeat → Type 0
IsTxOf t p = IsSeatOf t p.seat × ((tx_view p).parts ≡ Lent p.number (session (tx_view p)) ∷ [])
