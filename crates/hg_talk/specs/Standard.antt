-- What passed over standard input and output, and the faults that they count.
use Rattle.std.specs.Prelude.{ℕ, List}
use Rattle.hg_talk.specs.declared.talker.StandardClient.{StandardClient}
use Rattle.hg_talk.specs.Events.{Event}

-- what passed, newest first
abbrev pub log_of : StandardClient → List Event
log_of s = s.log.events

-- the calls that failed
abbrev pub failed_calls : StandardClient → ℕ
failed_calls s = s.faults
