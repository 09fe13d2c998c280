use Rattle.std.proofs.Common.{◌<◌, ◌≤◌, length, rules}
use Rattle.hg_rule.specs.Seats.{session_view}
use Rattle.hg_store.specs.Stores.{store_buckets}
use Rattle.hg_dump.specs.Readings.{store_in, script_in, at_in}
use Rattle.hg_dump.proofs.Looking.{looks_first, looks_more, reading_on}
use Rattle.hg_dump.proofs.Fetches.{tables_none, tables_more, tables_all}
use Rattle.hg_dump.proofs.Texts.{starts_from, starts_on}
use Rattle.hg_dump.specs.Writes.{puts_bytes}
use Rattle.hg_dump.proofs.tables.Reading.write_tables.Goals as goal

pub loop-i-init : goal.loop-i-init
loop-i-init g c =
    let v = session_view c.args.pass.now in
    record {
      written = tables_none (script_in c.args.self.now).tables (store_buckets (store_in c.args.self.now)) (at_in c.args.self.now) v c.args.into.now.items;
      looks = looks_first (at_in c.args.self.now) v c.requires.reads;
      own = c.requires.own;
    }

pub write_table-requires-clause-reads : goal.write_table-requires-clause-reads
write_table-requires-clause-reads g c = reading_on (at_in c.args.self.now) (session_view c.args.pass.now) (session_view c.loop-i.pass) c.requires.reads c.loop-i.invariant.looks

pub returns-in_err-write_table-clause-looks : goal.returns-in_err-write_table-clause-looks
returns-in_err-write_table-clause-looks g c = looks_more (session_view c.args.pass.now) (session_view c.loop-i.pass)
    (session_view c.write_table.new.pass) c.loop-i.invariant.looks c.write_table.ensures.looks

pub returns-in_err-write_table-clause-starts : goal.returns-in_err-write_table-clause-starts
returns-in_err-write_table-clause-starts g c =
    let m = c.loop-i.invariant.written in
    starts_on c.args.into.now.items c.loop-i.into.items c.write_table.new.into.items (puts_bytes (script_in c.args.self.now).tables m.rows) m.text c.write_table.ensures.starts

pub loop-i-preserved : goal.loop-i-preserved
loop-i-preserved g c =
    let v = session_view c.loop-i.pass in
    let w = session_view c.write_table.new.pass in
    let tables = (script_in c.args.self.now).tables in
    let less : c.loop-i.i < length tables = search rules in
    record {
      written = tables_more tables (store_buckets (store_in c.args.self.now)) (at_in c.args.self.now) c.loop-i.i v w c.args.into.now.items c.loop-i.into.items
          c.write_table.new.into.items less c.write_table.ensures.looks
          c.loop-i.invariant.written c.in_ok-write_table.ensures.rows;
      looks = looks_more (session_view c.args.pass.now) v w c.loop-i.invariant.looks c.write_table.ensures.looks;
      own = c.write_table.ensures.own;
    }

pub returns-clause-reads : goal.returns-clause-reads
returns-clause-reads g c = reading_on (at_in c.args.self.now) (session_view c.args.pass.now) (session_view c.loop-i.pass) c.requires.reads c.loop-i.invariant.looks

pub returns-clause-rows : goal.returns-clause-rows
returns-clause-rows g c =
    let tables = (script_in c.args.self.now).tables in
    let over : length tables ≤ c.loop-i.i = search rules in
    tables_all tables (store_buckets (store_in c.args.self.now)) (at_in c.args.self.now) c.loop-i.i (session_view c.loop-i.pass)
    c.args.into.now.items c.loop-i.into.items over c.loop-i.invariant.written

pub returns-clause-starts : goal.returns-clause-starts
returns-clause-starts g c =
    let m = c.loop-i.invariant.written in
    starts_from c.args.into.now.items c.loop-i.into.items (puts_bytes (script_in c.args.self.now).tables m.rows) m.text

pub returns-clause-looks : goal.returns-clause-looks
returns-clause-looks g c = c.loop-i.invariant.looks
