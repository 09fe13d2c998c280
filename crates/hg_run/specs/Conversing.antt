-- What a conversation with a client is, and when each status comes.
use Rattle.std.specs.Prelude.{◌≡◌, ◌⊎◌, ℕ, List, [], ◌∷◌, ◌++◌, map, None}
use Rattle.std.specs.List.{flat_map}
use Rattle.hg_base.specs.declared.line.Totals.{Totals}
use Rattle.hg_base.specs.Faults.{Rose}
use Rattle.hg_base.specs.Text.{totals_records}
use Rattle.hg_base.specs.Transcript.{history_of}
use Rattle.hg_records.specs.Bytes.{record_bytes}
use Rattle.hg_streams.specs.declared.status.Status.{Status}
use Rattle.hg_streams.specs.declared.status.Status.TheVariants.{Done, Usage, BadScript, ReadFault, WriteFault, TooLong, LongInput, NoMemory, Spent}
use Rattle.hg_words.specs.Live.{live_options_of}
use Rattle.hg_talk.specs.declared.trouble.Stop.TheVariants as stop
use Rattle.hg_talk.specs.declared.trouble.Trouble.{Trouble}
use Rattle.hg_talk.specs.declared.trouble.Trouble.TheVariants as trouble
use Rattle.hg_talk.specs.Events.{Event, ReadFailed, WriteFailed, HasWritten, IsNewest, read_of, written_of}
use Rattle.hg_talk.specs.Framing.{all_in, complete_in}
use Rattle.hg_talk.specs.Talking.{Exchange, IsNotWithheld, answers_in, asked_in}
use Rattle.hg_exact.specs.AnswerText.{AreAnswers}
use Rattle.hg_exact.specs.Conversed.{Answered}
use Rattle.hg_exact.specs.Due.{said_so_far}
use Rattle.hg_exact.specs.SoFar.{AreFinal}
use Rattle.hg_run.specs.Desk.{IsSpent}

-- ---- what was heard

-- all records were heard that are complete in the first bytes of what was read
pub record HearsFirst (log : List Event) (heard : List Exchange) : Type 0 where
  pub taken : List ℕ
  pub rest : List ℕ
  pub read : read_of log ≡ taken ++ rest
  pub asked : asked_in heard ≡ complete_in taken

-- all records of what was read were heard, with the one that the end of the input ends
abbrev pub HearsAll : List Event → List Exchange → Type 0
HearsAll log heard = asked_in heard ≡ all_in (read_of log)

-- ---- what was written

-- the text of the totals
abbrev pub totals_bytes : Totals → List ℕ
totals_bytes totals = flat_map record_bytes (totals_records totals)

-- all answers were written, and nothing else
abbrev pub AreWritten : List Event → List Exchange → Type 0
AreWritten log heard = written_of log ≡ answers_in heard

-- the first bytes of the answers were written, or all of them and the first bytes of the totals
pub record ArePartWritten (log : List Event) (heard : List Exchange) : Type 0 where
  pub left : List ℕ
  pub part : (written_of log ++ left ≡ answers_in heard) ⊎ ((totals : Totals) × (written_of log ++ left ≡ answers_in heard ++ totals_bytes totals))

-- The client ended it: all was answered, and then these totals were written. They are those of the answers, a replay's.
pub record IsDone (log : List Event) (heard : List Exchange) (answers : List Answered) : Type 0 where
  pub all : HearsAll log heard
  pub totals : Totals
  pub written : written_of log ≡ answers_in heard ++ totals_bytes totals
  pub final : AreFinal (said_so_far (asked_in heard) answers) (history_of (said_so_far (asked_in heard) answers)) totals

-- the last call of the client failed so, and its count of faults rose
pub record FailsBy (failed : Event) (log : List Event) (before now : ℕ) : Type 0 where
  pub newest : IsNewest failed log
  pub rose : Rose before now

-- The last answers were written, and the totals after them; or this much of them, and why no more.
abbrev pub WritesLast : List Event → List Event → ℕ → ℕ → List ℕ → Totals → Status → Type 0
WritesLast old new before now text totals Done = HasWritten old new (text ++ totals_bytes totals)
WritesLast old new before now text totals NoMemory = HasWritten old new text
WritesLast old new before now text totals WriteFault = FailsBy WriteFailed new before now × ((first : List ℕ) × (left : List ℕ) × (text ++ totals_bytes totals ≡ first ++ left) × HasWritten old new first)
WritesLast old new before now text totals _ = ⊥

-- ---- the whole

-- the status where a conversation is stopped
abbrev pub status_of_trouble : Trouble → Status
status_of_trouble trouble.Read = ReadFault
status_of_trouble trouble.Write = WriteFault
status_of_trouble trouble.NoMemory = NoMemory
status_of_trouble (trouble.Stopped stop.NoMemory) = NoMemory
status_of_trouble (trouble.Stopped stop.Spent) = Spent

-- What was heard was answered by what is conversed, and the totals are those of the answers.
pub record IsTold (heard : List Exchange) (totals : Totals) : Type 0 where
  pub exact : AreAnswers record_bytes (asked_in heard) (map (λ (e : Exchange). e.answer) heard)
  pub final : AreFinal (said_so_far (asked_in heard) exact.answers) (history_of (said_so_far (asked_in heard) exact.answers)) totals

-- When each status comes, and what was written then. Running out of memory says nothing but that.
abbrev pub EndsWith : List (List ℕ) → List Event → ℕ → ℕ → List Exchange → List Answered → Status → Type 0
EndsWith words log before now heard answers Done = IsDone log heard answers
EndsWith words log before now heard answers Usage = (live_options_of words ≡ None) × (log ≡ [])
EndsWith words log before now heard answers ReadFault = FailsBy ReadFailed log before now × AreWritten log heard
EndsWith words log before now heard answers WriteFault = FailsBy WriteFailed log before now × ArePartWritten log heard
EndsWith words log before now heard answers NoMemory = AreWritten log heard
EndsWith words log before now heard answers Spent = IsSpent (asked_in heard) × AreWritten log heard
EndsWith words log before now heard answers (BadScript line code) = ⊥
EndsWith words log before now heard answers TooLong = ⊥
EndsWith words log before now heard answers LongInput = ⊥

-- A conversation: what was heard of the client, the first records of what it sent, was answered by what is conversed; nothing was withheld;
-- and it ended so.
pub record IsConversation (words : List (List ℕ)) (log : List Event) (before now : ℕ) (status : Status) : Type 0 where
  pub heard : List Exchange
  pub asked : HearsFirst log heard ⊎ HearsAll log heard
  pub prompt : IsNotWithheld heard log
  pub exact : AreAnswers record_bytes (asked_in heard) (map (λ (e : Exchange). e.answer) heard)
  pub ended : EndsWith words log before now heard exact.answers status
