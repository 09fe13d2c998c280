-- What is known while a client is answered: nothing is withheld from it.
use Rattle.std.specs.Prelude.{◌≡◌, ◌⊎◌, ℕ, List, [], ◌++◌, map, Bool, true, false, ⊤}
use Rattle.std.specs.List.{flat_map}
use Rattle.hg_base.specs.Faults.{Rose}
use Rattle.hg_talk.specs.Events.{Event, ReadFailed, WriteFailed, BeforeReads, IsNewest, read_of, written_of}
use Rattle.hg_talk.specs.declared.trouble.Stop.{Stop}
use Rattle.hg_talk.specs.declared.trouble.Trouble.{Trouble}
use Rattle.hg_talk.specs.declared.trouble.Trouble.TheVariants as trouble
use Rattle.hg_talk.specs.Framing.{Sent, all_in, complete_in}

-- what was heard, and the bytes of its answer
pub record Exchange : Type 0 where
  pub asked : Sent
  pub answer : List ℕ

-- all that was heard
abbrev pub asked_in : List Exchange → List Sent
asked_in heard = map (λ (e : Exchange). e.asked) heard

-- the bytes of all answers, one after the other
abbrev pub answers_in : List Exchange → List ℕ
answers_in heard = flat_map (λ (e : Exchange). e.answer) heard

-- What had been written is the answers to the records that are complete in what had been read: to all of them, and nothing else.
pub record IsPrompt (heard : List Exchange) (read written : List ℕ) : Type 0 where
  pub first : List Exchange
  pub later : List Exchange
  pub all : heard ≡ first ++ later
  pub asked : asked_in first ≡ complete_in read
  pub answered : written ≡ answers_in first

-- nothing is withheld: so it is before each read
abbrev pub IsNotWithheld : List Exchange → List Event → Type 0
IsNotWithheld heard log = BeforeReads (IsPrompt heard) log

-- The client ended it: all records of what was read were heard, with the one that the end of the input ends, and nothing is withheld.
-- The last answers, `text`, are still to be written.
pub record IsOver (log : List Event) (heard : List Exchange) (text : List ℕ) : Type 0 where
  pub asked : asked_in heard ≡ all_in (read_of log)
  pub written : written_of log ++ text ≡ answers_in heard
  pub prompt : IsNotWithheld heard log

-- In the midst of a conversation: of what was read, the records were heard that are complete in `taken`. Of the answers, `text` was not
-- written yet.
pub record IsTalking (log : List Event) (heard : List Exchange) (taken rest text : List ℕ) : Type 0 where
  pub read : read_of log ≡ taken ++ rest
  pub asked : asked_in heard ≡ complete_in taken
  pub written : written_of log ++ text ≡ answers_in heard
  pub prompt : IsNotWithheld heard log

-- whether a write to the client failed
abbrev pub is_write : Trouble → Bool
is_write trouble.Write = true
is_write trouble.Read = false
is_write trouble.NoMemory = false
is_write (trouble.Stopped stop) = false

-- It was stopped in the midst. What was answered was written, unless a write failed.
pub record IsStopped (log : List Event) (heard : List Exchange) (why : Trouble) : Type 0 where
  pub taken : List ℕ
  pub rest : List ℕ
  pub text : List ℕ
  pub talking : IsTalking log heard taken rest text
  pub written : is_write why ≡ false → text ≡ []

-- If the client is the cause, the last call of it failed, and its count of faults rose.
abbrev pub HasFault : List Event → ℕ → ℕ → Trouble → Type 0
HasFault log before now trouble.Read = IsNewest ReadFailed log × Rose before now
HasFault log before now trouble.Write = IsNewest WriteFailed log × Rose before now
HasFault log before now trouble.NoMemory = ⊤
HasFault log before now (trouble.Stopped why) = ⊤

-- If the host is the cause, it stopped for the reason that is told. Else it is ready, or its last answers could not be written.
abbrev pub LeavesHost : Type 0 → (Stop → Type 0) → Trouble → Type 0
LeavesHost ready stopped trouble.Read = ready
LeavesHost ready stopped trouble.Write = ready ⊎ ((why : Stop) × stopped why)
LeavesHost ready stopped trouble.NoMemory = ready
LeavesHost ready stopped (trouble.Stopped why) = stopped why
