use Rattle.std.proofs.Common.{sym, ap}
use Rattle.std.specs.Prelude.{unwrap_or}
use Rattle.std.specs.Option.{option_copied}
use Rattle.hg_base.specs.declared.image.Image.{Image}
use Rattle.hg_base.specs.History.{nothing}
use Rattle.hg_core.specs.declared.ask.Ask.TheVariants.{Read}
use Rattle.hg_rule.specs.Seats.{board_id, sizes_of, session_view}
use Rattle.hg_store.specs.Stores.{store_buckets}
use Rattle.hg_cursor.proofs.Seeing.{look_heard, look_own, saw_record}
use Rattle.hg_cursor.proofs.record.read_row.Goals as goal

pub returns-clause-adds : goal.returns-clause-adds
returns-clause-adds g c =
    let u = session_view c.take-held.new.pass in
    let row = (unwrap_or (option_copied c.read.result) nothing).row in
    let adds = saw_record (store_buckets c.args.tables.now.store.now) (session_view c.args.pass.now) u (session_view c.see.new.pass) (session_view c.give.new.pass)
    c.bucket_of-bucket.result c.see.ensures.step.0 c.args.at c.args.rid c.writer-by.result row c.requires.reads c.bucket_of-bucket.ensures.own c.take-held.ensures.view
    c.see.ensures.step.1 c.give.ensures.view c.writer-by.ensures.session c.writer-by.ensures.transaction (ap (λ (i : Image). i.row) (sym (c.read.ensures.shown u c.take-held.ensures.holds))) in
    (row, (adds, c.row_of-row.ensures))

pub returns-clause-heard : goal.returns-clause-heard
returns-clause-heard g c = look_heard (session_view c.args.pass.now) (session_view c.take-held.new.pass) (session_view c.see.new.pass) (session_view c.give.new.pass)
    c.bucket_of-bucket.result c.see.ensures.step.0 (Read c.args.rid.table c.args.rid.key c.args.rid.key) c.requires.reads.only c.take-held.ensures.view c.see.ensures.step.1 c.give.ensures.view

pub returns-clause-own : goal.returns-clause-own
returns-clause-own g c = look_own (board_id c.args.tables.now.board.now) (sizes_of c.args.tables.now.board.now) (session_view c.args.pass.now) (session_view c.take-held.new.pass)
    c.see.new.pass c.give.new.pass c.bucket_of-bucket.result c.see.ensures.step.0 (Read c.args.rid.table c.args.rid.key c.args.rid.key) c.requires.reads.only c.take-held.ensures.view
    c.see.ensures.step.1 c.give.ensures.view c.see.ensures.holds.0 c.give.ensures.own.0 c.give.ensures.own.1
