-- What a host is given, as it was sent.
use Rattle.csv.specs.Records.{fields_of}
use Rattle.hg_talk.specs.declared.heard.Heard.{Heard}
use Rattle.hg_talk.specs.declared.heard.Heard.TheVariants as heard
use Rattle.hg_talk.specs.Framing.{Sent, Record, Long}

-- the record that is lent, or that it is too long
abbrev pub sent_by : Heard → Sent
sent_by (heard.Record row) = Record (fields_of row.now)
sent_by heard.Long = Long
