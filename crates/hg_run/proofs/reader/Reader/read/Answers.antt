use Rattle.std.proofs.Common.{◌≡◌, rules}
use Rattle.hg_rule.specs.Seats.{session_view}
use Rattle.hg_session.specs.Engines.{engine_sizes}
use Rattle.hg_store.specs.Stores.{store_buckets}
use Rattle.hg_run.specs.Reader.{engine_in, script_in}
use Rattle.hg_run.proofs.Dumps.{dumped_of, over_of}
use Rattle.hg_run.proofs.reader.Reader.read.Goals as goal

pub returns-clause-dumped : goal.returns-clause-dumped
returns-clause-dumped g c =
    let buckets : store_buckets c.store.result.now ≡ (engine_sizes (engine_in c.args.self.now)).buckets = search rules in
    dumped_of (engine_in c.args.self.now) (store_buckets c.store.result.now) (script_in c.args.self.now) c.export.result (session_view c.args.pass.now)
    (session_view c.export.new.pass) c.args.into.now.items c.export.new.into.items
    buckets c.export.ensures.text c.export.ensures.fresh c.export.ensures.read

pub returns-clause-over : goal.returns-clause-over
returns-clause-over g c = over_of (session_view c.args.pass.now) (session_view c.export.new.pass) c.export.result c.export.ensures.read
