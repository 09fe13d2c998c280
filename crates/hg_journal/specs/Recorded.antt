-- What a recorded file tells.
use Rattle.std.specs.Prelude.{List}
use Rattle.hg_journal.specs.Calls.{Answered}
use Rattle.hg_journal.specs.declared.recorded.Recorded.{Recorded}

-- its calls so far, the newest first
abbrev pub calls_of : {F : Type 0} → Recorded F → List Answered
calls_of r = r.told.calls

-- the file itself
abbrev pub file_of : {F : Type 0} → Recorded F → F
file_of r = r.file
