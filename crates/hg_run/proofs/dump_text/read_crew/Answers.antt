use Rattle.std.proofs.Common.{length, suc, sym, subst}
use Rattle.hg_session.specs.Engines.{engine_sizes}
use Rattle.hg_session.specs.Finished.{IsClosed}
use Rattle.hg_session.specs.Opened.{seated}
use Rattle.hg_run.specs.Reader.{alloc_in, engine_in, script_in}
use Rattle.hg_run.proofs.Readers.{read_is_closed}
use Rattle.hg_run.proofs.Dumped.{last_closed, may_again}
use Rattle.hg_run.proofs.dump_text.read_crew.Goals as goal

pub close_read-requires-clause-reads : goal.close_read-requires-clause-reads
close_read-requires-clause-reads g c =
    let e = engine_in c.args.reader.now in
    let told = c.in-Ok.ensures in
    may_again (script_in c.args.reader.now) (engine_sizes e).buckets e c.args.crew.sessions.items c.args.crew.collectors c.args.extra c.requires.opened c.dump_on.new.extra c.in-Ok.at
    told.dumped.read told.extra

pub close_read-requires-clause-last : goal.close_read-requires-clause-last
close_read-requires-clause-last g c =
    let e = engine_in c.args.reader.now in
    let alloc = alloc_in c.args.reader.now in
    let list = c.args.crew.sessions.items in
    let o = c.requires.opened in
    let told = c.in-Ok.ensures in
    subst (λ m. IsClosed e (suc m) (seated alloc 0 c.dump_on.new.extra)) (sym told.back.many)
    (read_is_closed e alloc (suc (length list)) c.in-Ok.at c.args.extra c.dump_on.new.extra
    (last_closed (script_in c.args.reader.now) (engine_sizes e).buckets e list c.args.crew.collectors c.args.extra o alloc) o.may.begins told.dumped.read told.extra)
