-- What a call asks, without where its bytes lie in memory.
use Rattle.hg_journal.specs.Calls.{Answered, FileCall, Opens, Writes, Replaces, Cuts, Syncs}
use Rattle.hg_journal.specs.declared.calls.Ask.{Ask}
use Rattle.hg_journal.specs.declared.calls.Ask.TheVariants as ask
use Rattle.hg_journal.specs.declared.calls.Call.{Call}

-- the call that is asked
abbrev pub asked : Ask → FileCall
asked (ask.Open bytes) = Opens bytes.now
asked (ask.Write at bytes) = Writes at bytes.now
asked (ask.Replace at byte) = Replaces at byte
asked (ask.Cut len) = Cuts len
asked ask.Sync = Syncs

-- with its answer
abbrev pub answered : Call → Answered
answered call = (asked call.ask, call.is_done)
