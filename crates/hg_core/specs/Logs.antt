-- The log of a session, newest entry first, and what it says of the session's transactions.
use Rattle.std.specs.Prelude.{ℕ, zero, suc, max, ◌≤◌, List, [], ◌∷◌, ◌++◌, map, Bool, true, false, ◌||◌, ◌==◌, if◌then◌else◌, Option, Some, None, ⊤}
use Rattle.std.specs.List.{list_any}
use Rattle.hg_base.specs.declared.scope.Snapshot.{Snapshot}
use Rattle.hg_base.specs.declared.rid.Rid.{Rid}
use Rattle.hg_base.specs.declared.image.Image.{Image}
use Rattle.hg_base.specs.declared.line.Answer.{Answer}
use Rattle.hg_base.specs.declared.line.Answer.TheVariants.{Newer}
use Rattle.hg_base.specs.History.{Write, Commit, Group, same_rid}
use Rattle.hg_base.specs.Transcript.{last_images}
use Rattle.hg_core.specs.declared.log.LogEntry.{LogEntry}
use Rattle.hg_core.specs.declared.log.LogEntry.TheVariants.{Began, Refused, Wrote, Undid, Published, Over}

-- the snapshot of the transaction that is not over
abbrev pub current : List LogEntry → Option Snapshot
current [] = None
current (Began at scope ∷ log) = Some (record { at = at; scope = scope })
current (Over ∷ log) = None
current (_ ∷ log) = current log

-- how many transactions were begun: the number of the last one
abbrev pub begans : List LogEntry → ℕ
begans [] = 0
begans (Began at scope ∷ log) = suc (begans log)
begans (_ ∷ log) = begans log

-- whether transaction x was published or is over
abbrev pub has_end : ℕ → List LogEntry → Bool
has_end x [] = false
has_end x (Published number ∷ log) = (begans log == x) || has_end x log
has_end x (Over ∷ log) = (begans log == x) || has_end x log
has_end x (_ ∷ log) = has_end x log

-- how many writes were stored
abbrev pub wrotes : List LogEntry → ℕ
wrotes [] = 0
wrotes (Wrote rid image ∷ log) = suc (wrotes log)
wrotes (_ ∷ log) = wrotes log

-- whether a transaction was begun
abbrev pub has_begun : List LogEntry → Bool
has_begun [] = false
has_begun (Began at scope ∷ log) = true
has_begun (_ ∷ log) = has_begun log

-- whether nothing of the last transaction was undone or published
abbrev pub is_plain : List LogEntry → Bool
is_plain [] = true
is_plain (Began at scope ∷ log) = true
is_plain (Over ∷ log) = true
is_plain (Undid rid ∷ log) = false
is_plain (Published number ∷ log) = false
is_plain (_ ∷ log) = is_plain log

-- the stored writes of the transaction that is not over, newest first
abbrev pub own_writes : List LogEntry → List Write
own_writes [] = []
own_writes (Began at scope ∷ log) = []
own_writes (Over ∷ log) = []
own_writes (Wrote rid image ∷ log) = record { rid = rid; image = image } ∷ own_writes log
own_writes (_ ∷ log) = own_writes log

-- the open write of r in the transaction that is not over: its last stored one, unless it was undone or published
abbrev pub open_in : Rid → List LogEntry → Option Image
open_in r [] = None
open_in r (Began at scope ∷ log) = None
open_in r (Over ∷ log) = None
open_in r (Published number ∷ log) = None
open_in r (Wrote rid image ∷ log) = if same_rid rid r then Some image else open_in r log
open_in r (Undid rid ∷ log) = if same_rid rid r then None else open_in r log
open_in r (_ ∷ log) = open_in r log

-- the open writes of each session
abbrev pub open_writes : (ℕ → List LogEntry) → ℕ → Rid → Option Image
open_writes log j r = open_in r (log j)

-- how many transactions each session has begun
abbrev pub begun_in : (ℕ → List LogEntry) → ℕ → ℕ
begun_in log j = begans (log j)

-- the number of a snapshot, and 0 where there is none
abbrev pub snapshot_number : Option Snapshot → ℕ
snapshot_number None = 0
snapshot_number (Some snapshot) = snapshot.at

-- the transaction of session j that is not over, as a commit: each record that it writes, with the image of its last write
abbrev pub commit_in : ℕ → List LogEntry → Commit
commit_in j log = record { session = j; transaction = begans log; at = snapshot_number (current log); images = last_images (own_writes log) }

-- the commits of session j that its log has with the number n, oldest first
abbrev pub published : ℕ → ℕ → List LogEntry → List Commit
published n j [] = []
published n j (Published number ∷ log) = published n j log ++ (if number == n then commit_in j log ∷ [] else [])
published n j (_ ∷ log) = published n j log

-- whether a log has the commit number n
abbrev pub has_number : ℕ → List LogEntry → Bool
has_number n [] = false
has_number n (Published number ∷ log) = (number == n) || has_number n log
has_number n (_ ∷ log) = has_number n log

-- the greatest commit number of a log
abbrev pub newest_number : List LogEntry → ℕ
newest_number [] = 0
newest_number (Published number ∷ log) = max number (newest_number log)
newest_number (_ ∷ log) = newest_number log

-- the greatest commit number of the logs of the first n sessions
abbrev pub newest_of : ℕ → (ℕ → List LogEntry) → ℕ
newest_of zero log = 0
newest_of (suc n) log = max (newest_of n log) (newest_number (log (suc n)))

-- the transactions of these sessions as one group
abbrev pub new_group : (ℕ → List LogEntry) → List ℕ → Group
new_group log sessions = map (λ j. commit_in j (log j)) sessions

-- whether a number is listed
abbrev pub is_in : List ℕ → ℕ → Bool
is_in numbers n = list_any (λ m. m == n) numbers

-- the logs after these sessions published under one number
abbrev pub published_logs : (ℕ → List LogEntry) → List ℕ → ℕ → ℕ → List LogEntry
published_logs log sessions number j = if is_in sessions j then Published number ∷ log j else log j

-- the number of a newer commit that an answer names is at or below n
abbrev pub AnswerUpTo : ℕ → Answer → Type 0
AnswerUpTo n (Newer number) = number ≤ n
AnswerUpTo n _ = ⊤

-- each snapshot, commit number and newer commit's number in a log is at or below n
abbrev pub UpTo : ℕ → List LogEntry → Type 0
UpTo n [] = ⊤
UpTo n (Began at scope ∷ log) = (at ≤ n) × UpTo n log
UpTo n (Refused rid answer ∷ log) = AnswerUpTo n answer × UpTo n log
UpTo n (Published number ∷ log) = (number ≤ n) × UpTo n log
UpTo n (_ ∷ log) = UpTo n log
