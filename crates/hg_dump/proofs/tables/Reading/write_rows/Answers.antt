use Rattle.std.proofs.Common.{◌∙◌, ◌++◌, sym}
use Rattle.hg_rule.specs.Seats.{session_view}
use Rattle.hg_store.specs.Stores.{store_buckets}
use Rattle.hg_cursor.specs.Cursors.{table_of, high_of, rest_of}
use Rattle.hg_dump.specs.Rows.{kept_in}
use Rattle.hg_dump.specs.declared.tables.TheConstants.{FETCHED}
use Rattle.hg_dump.specs.Readings.{store_in, script_in}
use Rattle.hg_dump.specs.Writes.{puts_bytes}
use Rattle.hg_dump.proofs.Looking.{looks_fetched, on_ok}
use Rattle.hg_dump.proofs.Texts.{starts_either, starts_itself}
use Rattle.hg_dump.proofs.tables.Reading.write_rows.Goals as goal

pub returns-in_err-rows-clause-looks : goal.returns-in_err-rows-clause-looks
returns-in_err-rows-clause-looks g c =
    looks_fetched (store_buckets (store_in c.args.self.now)) FETCHED (session_view c.args.pass.now) (table_of c.args.cursor.now) (rest_of c.args.cursor.now)
    (high_of c.args.cursor.now) _ (session_view c.fetch.new.pass) c.requires.reads.only c.fetch.ensures.looks

pub returns-clause-rows : goal.returns-clause-rows
returns-clause-rows g c = on_ok c.puts_text.result (λ text. record {
  rows = c.in_ok-rows.rows;
  text = text ∙ (λ i. c.args.into.now.items ++ puts_bytes (script_in c.args.self.now).tables (kept_in (sym c.requires.table i) (c.as_slice.ensures i)));
  moved = c.in_ok-rows.ensures.moved;
  first = c.in_ok-rows.ensures.rows;
}) c.puts_text.ensures.text

pub returns-clause-looks : goal.returns-clause-looks
returns-clause-looks g c =
    looks_fetched (store_buckets (store_in c.args.self.now)) FETCHED (session_view c.args.pass.now) (table_of c.args.cursor.now) (rest_of c.args.cursor.now)
    (high_of c.args.cursor.now) _ (session_view c.fetch.new.pass) c.requires.reads.only c.fetch.ensures.looks

pub returns-in_err-rows-clause-starts : goal.returns-in_err-rows-clause-starts
returns-in_err-rows-clause-starts g c = starts_itself c.args.into.now.items

pub returns-clause-starts : goal.returns-clause-starts
returns-clause-starts g c = starts_either c.puts_text.result c.args.into.now.items c.puts_text.new.into.items
    (puts_bytes (script_in c.args.self.now).tables (kept_in c.args.table c.as_slice.result.now)) c.puts_text.ensures.text c.puts_text.ensures.refused
