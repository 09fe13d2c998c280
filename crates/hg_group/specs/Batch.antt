-- A batch of transactions that were popped, and what becomes of them.
use Rattle.std.specs.Prelude.{◌≡◌, ℕ, suc, ◌<◌, ◌≤◌, true, false, IsTrue, List, [], ◌∷◌, ◌++◌, length, map, Option, IfSome, ⊤}
use Rattle.hg_base.specs.declared.rid.Rid.{Rid}
use Rattle.hg_base.specs.History.{History}
use Rattle.hg_core.specs.declared.log.LogEntry.{LogEntry}
use Rattle.hg_core.specs.declared.log.LogEntry.TheVariants.{Published}
use Rattle.hg_core.specs.Logs.{is_in, commit_in}
use Rattle.hg_rule.specs.declared.view.SessionPart.{SessionPart}
use Rattle.hg_rule.specs.declared.view.Part.TheVariants.{OfSession, OfCommit, Away}
use Rattle.hg_rule.specs.declared.view.Sight.{Sight}
use Rattle.hg_rule.specs.declared.view.Sight.TheVariants.{Saw, Heard}
use Rattle.hg_rule.specs.declared.view.View.{View}
use Rattle.hg_rule.specs.Facts.{StartsWith, IsAmong, groups}
use Rattle.hg_rule.specs.Views.{number, session, since}
use Rattle.hg_rule.specs.declared.view.Event.{Event}
use Rattle.hg_rule.specs.declared.view.Event.TheVariants.{Stamp, HandBack}
use Rattle.hg_rule.specs.Holding.{commit, beyond}
use Rattle.hg_base.specs.Lists.{Each}
use Rattle.hg_core.specs.Contents.{is_stamped, has_stamped}
use Rattle.hg_core.specs.Phases.{IsSession}
use Rattle.hg_rule.specs.Handing.{Members, members, who, lent, flag, numbered, group_of}
use Rattle.hg_core.specs.Commits.{commits_in}
use Rattle.hg_rule.specs.Seats.{BoardId, tx_view, IsTxOf}
use Rattle.hg_queue.specs.declared.open_tx.OpenTx.{OpenTx}
use Rattle.hg_queue.specs.Handing.{IsOpenTxOf, MayCommit, seat_number, seat_part}
use Rattle.hg_group.specs.declared.book.Outcome.{Outcome}
use Rattle.hg_group.specs.declared.book.Outcome.TheVariants.{Committed, Refused}
use Rattle.hg_group.specs.declared.book.Laid.{Laid}
use Rattle.hg_rule.specs.Writes.{with_published, listing}
use Rattle.hg_group.specs.declared.receipt.Receipt.{Receipt}
use Rattle.hg_group.specs.Order.{Pairs, StandsIn}

-- ---- what was popped

-- session and transaction
abbrev pub pair_in : OpenTx → ℕ × ℕ
pair_in tx = (tx.writer.session, tx.writer.transaction)

-- an open transaction with its session's part
pub record IsTaken (tx : OpenTx) (m : ℕ × SessionPart) : Type 0 where
  pub tx_is : IsOpenTxOf m.0 m.1 tx
  pub some : 0 < length tx.records.list
  pub may : MayCommit m.1

-- as many parts as transactions, in the same order
abbrev pub AreTaken : List OpenTx → Members → Type 0
AreTaken [] [] = ⊤
AreTaken [] (m ∷ ms) = ⊥
AreTaken (tx ∷ txs) [] = ⊥
AreTaken (tx ∷ txs) (m ∷ ms) = IsTaken tx m × AreTaken txs ms

-- the transactions came after the pass's own place, in the queue's order
pub record Gathers (v : View) (old : Pairs) (txs : List OpenTx) (new : Pairs) (w : View) : Type 0 where
  pub ms : Members
  pub taken : AreTaken txs ms
  pub parts : w.parts ≡ Away (number v) (session v) (since v) ∷ lent ms
  pub kept : StartsWith w.sights v.sights
  pub events : w.events ≡ v.events
  pub pairs : new ≡ old ++ map pair_in txs

-- ---- stamps

-- with the committer's part joined, this record of session j was stamped
pub record StampsOne (v : View) (j : ℕ) (rid : Rid) (n : ℕ) (w : View) : Type 0 where
  pub parts : w.parts ≡ Away (number v) (session v) (since v) ∷ OfCommit (listing j rid (commit v)) ∷ lent (flag j (members (beyond v)))
  pub kept : StartsWith w.sights v.sights
  pub events : w.events ≡ v.events ++ Stamp j rid n ∷ []

-- these records, each with session j
abbrev pub with_session : ℕ → List Rid → List (ℕ × Rid)
with_session j rids = map (λ r. (j, r)) rids

-- each record of each transaction, in order, with its session
abbrev pub all_pairs : List OpenTx → List (ℕ × Rid)
all_pairs [] = []
all_pairs (tx ∷ txs) = with_session tx.writer.session tx.records.list ++ all_pairs txs

-- sessions with their parts, whatever is stamped
abbrev pub bare : Members → Members
bare [] = []
bare (m ∷ ms) = (m.0, record m.1 { stamped = false }) ∷ bare ms

-- the records of each transaction, in order
abbrev pub all_records : List OpenTx → List Rid
all_records [] = []
all_records (tx ∷ txs) = tx.records.list ++ all_records txs

-- the same transactions, where the first one's list has other room
abbrev pub with_room : ℕ → List OpenTx → List OpenTx
with_room n [] = []
with_room n (tx ∷ txs) = record tx { records = record tx.records { room = n } } ∷ txs

-- the first one's list has room for the records of the others
abbrev pub HasRoomForAll : List OpenTx → Type 0
HasRoomForAll [] = ⊤
HasRoomForAll (tx ∷ txs) = length (all_records txs) ≤ tx.records.room

-- a step that gives an open write its number
abbrev pub IsStamp : Event → Type 0
IsStamp (Stamp j rid n) = ⊤
IsStamp _ = ⊥

-- With the committer's part joined, these were stamped, and nothing else of the parts has changed.
pub record Stamped (v : View) (done : List (ℕ × Rid)) (w : View) : Type 0 where
  pub ms : Members
  pub list : List (ℕ × Rid)
  pub parts : w.parts ≡ Away (number v) (session v) (since v) ∷ OfCommit (record (commit v) { stamped = list }) ∷ lent ms
  pub alike : bare ms ≡ bare (members (beyond v))
  pub flagged : Each (λ m. has_stamped m.0 list ≡ true → m.1.stamped ≡ true) ms
  pub exact : (j : ℕ) (r : Rid) → is_stamped j r list ≡ is_stamped j r done
  pub alone : Each (λ e. IsTrue (is_in (who ms) e.0)) list
  pub kept : StartsWith w.sights v.sights
  pub steps : List Event
  pub only : Each IsStamp steps
  pub events : w.events ≡ v.events ++ steps

-- ---- what is laid for a session

-- A commit is in a history that was seen, and the log has its number. Or the transaction is open still.
abbrev pub IsOutcome : ℕ → SessionPart → List Sight → Outcome → Type 0
IsOutcome j part sights (Committed receipt) = (log : List LogEntry) ×
    ((h : History) × ((part.log ≡ Published receipt.number ∷ log) × ((IsAmong (Saw (groups h)) sights × IsAmong (Heard j part.log) sights) × StandsIn h receipt (commit_in j log))))
IsOutcome j part sights (Refused tx) = IsOpenTxOf j part tx × MayCommit part

-- What is laid for session j: its part of this board's state, and what became of its transaction.
pub record IsLaid (t : BoardId) (j : ℕ) (x : Laid) : Type 0 where
  pub seat : IsTxOf t x.seat
  pub number_is : seat_number x.seat ≡ j
  pub unstamped : (seat_part x.seat).stamped ≡ false
  pub outcome : IsOutcome j (seat_part x.seat) (tx_view x.seat).sights x.outcome

-- each place has what is laid for its session, or nothing
abbrev pub AreLaid : BoardId → ℕ → List (Option Laid) → Type 0
AreLaid t k [] = ⊤
AreLaid t k (x ∷ laids) = IfSome x (IsLaid t k) × AreLaid t (suc k) laids

-- The transactions are the last group of a history that was seen, in this order, and their parts are with the pass.
pub record HasGroup (sessions : ℕ) (v : View) (txs : List OpenTx) (number_ place : ℕ) : Type 0 where
  pub ms : Members
  pub history : History
  pub whose : who ms ≡ map (λ tx. tx.writer.session) txs
  pub inside : Each (λ tx. IsSession sessions tx.writer.session) txs
  pub parts : v.parts ≡ Away (number v) (session v) (since v) ∷ lent (numbered number_ ms)
  pub saw : IsAmong (Saw (groups (history ++ group_of ms ∷ []))) v.sights
  pub heard : Each (λ m. IsAmong (Heard m.0 (Published number_ ∷ m.1.log)) v.sights) ms
  pub number_is : number_ ≡ suc (length history)
  pub place_is : place ≡ commits_in history

-- The parts of these transactions are with the pass, in this order.
pub record HasBatch (sessions : ℕ) (v : View) (txs : List OpenTx) : Type 0 where
  pub ms : Members
  pub taken : AreTaken txs ms
  pub inside : Each (λ tx. IsSession sessions tx.writer.session) txs
  pub parts : v.parts ≡ Away (number v) (session v) (since v) ∷ lent ms

-- the sessions of these transactions, in order
abbrev pub sessions_of : List OpenTx → List ℕ
sessions_of txs = map (λ tx. tx.writer.session) txs

-- the steps by which sessions have their parts back, in order
abbrev pub backs : List ℕ → List Event
backs js = map (λ j. HandBack j) js

-- the sessions of these transactions have their parts back, and the pass has nothing of others now
pub record LaysAll (v : View) (txs : List OpenTx) (w : View) : Type 0 where
  pub parts : w.parts ≡ Away (number v) (session v) (since v) ∷ []
  pub sights : w.sights ≡ v.sights
  pub events : w.events ≡ v.events ++ backs (sessions_of txs)

-- ---- what a session has again

-- v is as it handed over, at the mark `since v`: its transaction was published under the receipt's number, which is over that mark.
pub record HasFinished (v : View) (receipt : Receipt) (w : View) : Type 0 where
  pub over : since v < receipt.number
  -- a history that was seen, which has its commit
  pub history : History
  pub saw : IsAmong (Saw (groups history)) w.sights
  pub stands : StandsIn history receipt (commit_in (number v) (session v).log)
  pub heard : IsAmong (Heard (number v) (Published receipt.number ∷ (session v).log)) w.sights
  pub parts : w.parts ≡ OfSession (number v) (with_published receipt.number (session v)) ∷ []
  pub kept : StartsWith w.sights v.sights
  pub events : StartsWith w.events v.events

-- It is open still, and nothing else has changed.
pub record IsRefused (v : View) (tx : OpenTx) (w : View) : Type 0 where
  pub tx_is : IsOpenTxOf (number v) (session v) tx
  pub parts : w.parts ≡ OfSession (number v) (session v) ∷ []
  pub kept : StartsWith w.sights v.sights
  pub events : StartsWith w.events v.events
