-- A seat that a pass lends to the table, and what a move leaves of it.
use Rattle.std.proofs.Common.{◌≡◌, ℕ, ◌<◌, ◌∙◌, ap, arith}
use Rattle.atomic_table.specs.declared.shared.Seat.{Seat}
use Rattle.hg_rule.specs.declared.board.Board.{Board}
use Rattle.hg_rule.specs.declared.view.View.{View}
use Rattle.hg_rule.specs.Seats.{BoardId, board_id, view, IsSeatOf}

-- a board has words
pub has_words : (b : Board) → 0 < (board_id b).words
has_words b = omega (arith, b.words)

-- the view of a seat that is lent
pub seen : (s t : Seat ℕ View) → s ≡ t → view s ≡ view t
seen s t e = ap (λ (x : Seat ℕ View). view x) e

-- a seat that is lent is one of the table that the pass's seat is of
pub lent : (t : BoardId) (s of : Seat ℕ View) → s ≡ of → IsSeatOf t of → IsSeatOf t s
lent t s of e own = (ap (λ (x : Seat ℕ View). x.table_id) e ∙ own.0, ap (λ (x : Seat ℕ View). x.me.1) e ∙ own.1)

-- and so it is after a move
pub moved : (t : BoardId) (s new : Seat ℕ View) (v : View) → new.table_id ≡ s.table_id → new.me ≡ (v, s.me.1) → IsSeatOf t s → IsSeatOf t new
moved t s new v same e own = (same ∙ own.0, ap (λ m. m.1) e ∙ own.1)
