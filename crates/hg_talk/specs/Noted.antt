-- The event that a note stands for.
use Rattle.hg_talk.specs.Events.{Event, Read, Wrote, ReadFailed, WriteFailed}
use Rattle.hg_talk.specs.Heard.{sent_by}
use Rattle.hg_talk.specs.Talking.{Exchange}
use Rattle.hg_talk.specs.declared.minutes.Said.{Said}
use Rattle.hg_talk.specs.declared.told.Note.{Note}
use Rattle.hg_talk.specs.declared.told.Note.TheVariants as note

-- its bytes are those that it borrows
abbrev pub event_of : Note → Event
event_of (note.Read bytes) = Read bytes.now
event_of (note.Wrote bytes) = Wrote bytes.now
event_of note.ReadFailed = ReadFailed
event_of note.WriteFailed = WriteFailed

-- the exchange of what was heard and its answer
abbrev pub exchange_of : Said → Exchange
exchange_of s = record { asked = sent_by s.asked; answer = s.answer.now }
