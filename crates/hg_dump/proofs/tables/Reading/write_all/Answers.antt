use Rattle.std.proofs.Common.{◌∙◌, [], sym, append-nil}
use Rattle.std.specs.List.{flat_map}
use Rattle.hg_rule.specs.Seats.{session_view}
use Rattle.hg_records.specs.Bytes.{record_bytes}
use Rattle.hg_dump.specs.Records.{heading}
use Rattle.hg_dump.specs.Readings.{script_in, at_in}
use Rattle.hg_dump.proofs.Looking.{looks_first, on_ok}
use Rattle.hg_dump.proofs.Texts.{starts_from, starts_on, text_all}
use Rattle.hg_dump.proofs.tables.Reading.write_all.Goals as goal

pub returns-in_err-heading_text-clause-starts : goal.returns-in_err-heading_text-clause-starts
returns-in_err-heading_text-clause-starts g c =
    starts_from c.args.into.now.items c.heading_text.new.into.items [] (c.in_err-heading_text.ensures.refused ∙ sym (append-nil c.args.into.now.items))

pub returns-in_err-heading_text-clause-looks : goal.returns-in_err-heading_text-clause-looks
returns-in_err-heading_text-clause-looks g c = looks_first (at_in c.args.self.now) (session_view c.args.pass.now) c.requires.reads

pub returns-clause-rows : goal.returns-clause-rows
returns-clause-rows g c = on_ok c.write_tables.result (λ m. record {
  rows = m.rows;
  text = text_all (script_in c.args.self.now) c.args.into.now.items c.heading_text.new.into.items c.write_tables.new.into.items m.rows c.in_ok-heading_text.ensures.text m.text;
  all = m.all;
}) c.write_tables.ensures.rows

pub returns-clause-starts : goal.returns-clause-starts
returns-clause-starts g c = starts_on c.args.into.now.items c.heading_text.new.into.items c.write_tables.new.into.items
    (flat_map record_bytes (heading (script_in c.args.self.now))) c.in_ok-heading_text.ensures.text c.write_tables.ensures.starts
