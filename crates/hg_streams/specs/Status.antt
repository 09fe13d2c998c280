-- The exit status that each status gives, and the status that each refusal gives.
use Rattle.std.specs.Prelude.{ℕ, List, [], ◌++◌, codes, decimal}
use Rattle.hg_base.specs.declared.limits.TheConstants.{MOST_SCRIPT_BYTES}
use Rattle.hg_script.specs.Codes.{code_text}
use Rattle.hg_script.specs.declared.refusal.ScriptRefusal.{ScriptRefusal}
use Rattle.hg_script.specs.declared.refusal.ScriptRefusal.TheVariants as refusal
use Rattle.hg_words.specs.declared.options.WordsRefusal.{WordsRefusal}
use Rattle.hg_words.specs.declared.options.WordsRefusal.TheVariants as words
use Rattle.hg_streams.specs.declared.limits.TheConstants.{MOST_AUDIT_BYTES}
use Rattle.hg_streams.specs.declared.source.ReadError.{ReadError}
use Rattle.hg_streams.specs.declared.source.ReadError.TheVariants as error
use Rattle.hg_streams.specs.declared.status.Status.{Status}
use Rattle.hg_streams.specs.declared.status.Status.TheVariants.{Done, Usage, BadScript, ReadFault, WriteFault, TooLong, LongInput, NoMemory, Spent}

-- the exit status of the program
abbrev pub exit_code_of : Status → ℕ
exit_code_of Done = 0
exit_code_of Usage = 2
exit_code_of (BadScript line code) = 3
exit_code_of ReadFault = 4
exit_code_of WriteFault = 5
exit_code_of TooLong = 6
exit_code_of NoMemory = 7
exit_code_of Spent = 8
exit_code_of LongInput = 9

-- what the program says of a status
abbrev pub said_of : Status → List ℕ
said_of Done = []
said_of Usage = codes "usage: hybridgc replay or run or load SEED or audit or dump, with --buckets N, --long N, --rounds N, --sweepers N"
said_of (BadScript line code) = codes "script record " ++ decimal line ++ codes ": " ++ code_text code
said_of ReadFault = codes "read fault"
said_of WriteFault = codes "write fault"
said_of TooLong = codes "script longer than " ++ decimal MOST_SCRIPT_BYTES ++ codes " bytes"
said_of LongInput = codes "input longer than " ++ decimal MOST_AUDIT_BYTES ++ codes " bytes"
said_of NoMemory = codes "out of memory"
said_of Spent = codes "no statement left"

-- the status where the words of the command line are refused
abbrev pub status_of_words : WordsRefusal → Status
status_of_words words.Usage = Usage
status_of_words words.NoMemory = NoMemory

-- the status where the source can't be read
abbrev pub status_of_read : ReadError → Status
status_of_read error.Fault = ReadFault
status_of_read error.TooLong = TooLong
status_of_read error.NoMemory = NoMemory

-- the status where the script is refused
abbrev pub status_of_script : ScriptRefusal → Status
status_of_script (refusal.At line code) = BadScript line code
status_of_script refusal.NoMemory = NoMemory
