use Rattle.std.proofs.Common.{◌≡◌, true, sym, subst, rules}
use Rattle.std.specs.Prelude.{is_none}
use Rattle.hg_rule.specs.Seats.{session_view}
use Rattle.hg_store.specs.Stores.{store_buckets}
use Rattle.hg_cursor.specs.Cursors.{table_of, rest_of}
use Rattle.hg_cursor.specs.Logs.{ReadsAt}
use Rattle.hg_dump.specs.Readings.{store_in, script_in, at_in}
use Rattle.hg_dump.proofs.Looking.{looks_first, looks_more, reading_on, reads_table}
use Rattle.hg_dump.proofs.Fetches.{so_far_none, so_far_more, table_whole}
use Rattle.hg_dump.proofs.Texts.{starts_from, starts_on}
use Rattle.hg_cursor.specs.Given.{joined}
use Rattle.hg_dump.specs.Rows.{kept_in}
use Rattle.hg_dump.specs.Writes.{puts_bytes}
use Rattle.hg_dump.proofs.tables.Reading.write_rest.Goals as goal

pub loop-init : goal.loop-init
loop-init g c =
    let v = session_view c.args.pass.now in
    record {
      so_far = so_far_none (script_in c.args.self.now).tables (store_buckets (store_in c.args.self.now)) (at_in c.args.self.now)
          c.args.table c.args.cursor.now v c.args.into.now.items c.requires.from;
      looks = looks_first (at_in c.args.self.now) v c.requires.reads;
      own = c.requires.own;
    }

pub write_rows-requires-clause-reads : goal.write_rows-requires-clause-reads
write_rows-requires-clause-reads g c =
    let at = at_in c.args.self.now in
    let w = session_view c.loop.pass in
    subst (λ a. ReadsAt a (table_of c.loop.cursor) w) (sym c.loop.invariant.so_far.at_is)
    (reads_table at w (table_of c.loop.cursor) (reading_on at (session_view c.args.pass.now) w c.requires.reads c.loop.invariant.looks))

pub loop-preserved : goal.loop-preserved
loop-preserved g c =
    let v = session_view c.loop.pass in
    let w = session_view c.write_rows.new.pass in
    record {
      so_far = so_far_more (script_in c.args.self.now).tables (store_buckets (store_in c.args.self.now))
          (at_in c.args.self.now) c.args.table c.loop.cursor c.write_rows.new.cursor v w c.args.into.now.items c.loop.into.items c.write_rows.new.into.items
          c.loop.invariant.so_far c.write_rows.ensures.looks c.in_ok-write_rows.ensures.rows;
      looks = looks_more (session_view c.args.pass.now) v w c.loop.invariant.looks c.write_rows.ensures.looks;
      own = c.write_rows.ensures.own;
    }

pub returns-in_err-write_rows-clause-looks : goal.returns-in_err-write_rows-clause-looks
returns-in_err-write_rows-clause-looks g c = looks_more (session_view c.args.pass.now) (session_view c.loop.pass) (session_view c.write_rows.new.pass) c.loop.invariant.looks c.write_rows.ensures.looks

pub returns-in_err-write_rows-clause-starts : goal.returns-in_err-write_rows-clause-starts
returns-in_err-write_rows-clause-starts g c =
    let m = c.loop.invariant.so_far in
    starts_on c.args.into.now.items c.loop.into.items c.write_rows.new.into.items (puts_bytes (script_in c.args.self.now).tables (kept_in c.args.table (joined m.fetches)))
    m.text c.write_rows.ensures.starts

pub returns-clause-starts : goal.returns-clause-starts
returns-clause-starts g c =
    let m = c.loop.invariant.so_far in
    starts_from c.args.into.now.items c.loop.into.items (puts_bytes (script_in c.args.self.now).tables (kept_in c.args.table (joined m.fetches))) m.text

pub returns-clause-rows : goal.returns-clause-rows
returns-clause-rows g c =
    let done : is_none (rest_of c.loop.cursor) ≡ true = search rules in
    table_whole (script_in c.args.self.now).tables (store_buckets (store_in c.args.self.now)) (at_in c.args.self.now) c.args.table c.loop.cursor
    (session_view c.loop.pass) c.args.into.now.items c.loop.into.items c.loop.invariant.so_far done

pub returns-clause-reads : goal.returns-clause-reads
returns-clause-reads g c = reading_on (at_in c.args.self.now) (session_view c.args.pass.now) (session_view c.loop.pass) c.requires.reads c.loop.invariant.looks
