-- What a transaction is that was handed over.
use Rattle.std.specs.Prelude.{◌≡◌, ℕ, ◌<◌, false, length, is_some, IsSome, IsTrue}
use Rattle.hg_base.specs.declared.rid.Rid.{Rid}
use Rattle.hg_base.specs.History.{NoneTwice, is_among}
use Rattle.hg_core.specs.Logs.{begans, is_plain, open_in}
use Rattle.hg_core.specs.Phases.{declared_in, snapshot_in}
use Rattle.hg_rule.specs.declared.view.SessionPart.{SessionPart}
use Rattle.hg_rule.specs.declared.passes.TxSeat.{TxSeat}
use Rattle.hg_rule.specs.Views.{session}
use Rattle.hg_rule.specs.Steps.{loaded_in}
use Rattle.hg_rule.specs.Seats.{BoardId, tx_view, IsTxOf}
use Rattle.hg_queue.specs.declared.open_tx.OpenTx.{OpenTx}
use Rattle.hg_queue.specs.declared.handed.Handed.{Handed}

-- The context of the open transaction of session j, whose part this is, with each of its open writes once.
pub record IsOpenTxOf (j : ℕ) (part : SessionPart) (tx : OpenTx) : Type 0 where
  pub writer_is : tx.writer ≡ record { session = j; transaction = begans part.log }
  pub snapshot_is : (tx.snapshot.at ≡ loaded_in part.phase) × (tx.snapshot.scope ≡ declared_in part.phase)
  pub once : NoneTwice tx.records.list
  pub exact : (r : Rid) → is_among r tx.records.list ≡ is_some (open_in r part.log)

-- a session's part may be committed: it is live, nothing of its transaction was undone or published, and no write has a number
pub record MayCommit (part : SessionPart) : Type 0 where
  pub live : IsSome (snapshot_in part.phase)
  pub plain : IsTrue (is_plain part.log)
  pub unstamped : part.stamped ≡ false

-- the session whose part a seat carries
abbrev pub seat_number : TxSeat → ℕ
seat_number s = s.number

-- the part that it carries
abbrev pub seat_part : TxSeat → SessionPart
seat_part s = session (tx_view s)

-- A transaction of this board with its session's part, which may be committed and has open writes.
pub record IsHandedOf (t : BoardId) (x : Handed) : Type 0 where
  pub seat : IsTxOf t x.seat
  pub tx : IsOpenTxOf (seat_number x.seat) (seat_part x.seat) x.tx
  pub some : 0 < length x.tx.records.list
  pub may : MayCommit (seat_part x.seat)
