use Rattle.std.proofs.Common.{◌≡◌, suc, ◌+◌, ◌≤◌, [], ◌∷◌, ◌++◌, length, ap, subst, arith, rules}
use Rattle.hg_core.specs.Logs.{current}
use Rattle.hg_rule.specs.New.{EachFrom}
use Rattle.hg_session.specs.Engines.{engine_sizes}
use Rattle.hg_session.specs.Opened.{IsNewOf}
use Rattle.hg_store.proofs.Filling.{each_from_at}
use Rattle.hg_dump.specs.Reader.{reader_of}
use Rattle.hg_run.specs.Driven.{IsOpenedWith, sessions_in}
use Rattle.hg_run.proofs.Opened.{more_is, own_many, own_new}
use Rattle.hg_run.proofs.engine.open_beside.Goals as goal

pub into_pass-requires : goal.into_pass-requires
into_pass-requires c =
    let e = c.in_ok-engine.engine in
    let last : c.in_ok-engine.crew.sessions.items ≡ c.pop.new.self.items ++ c.in-Some.last ∷ [] = search rules in
    let new : IsNewOf e (engine_sizes e).quota (1 + length c.pop.new.self.items) c.in-Some.last =
    each_from_at (IsNewOf e (engine_sizes e).quota) 1 c.pop.new.self.items [] c.in-Some.last (subst (EachFrom (IsNewOf e (engine_sizes e).quota) 1) last c.in_ok-engine.ensures.opened.new) in
    record { closed = ap current new.log }

pub returns-clause-opened : goal.returns-clause-opened
returns-clause-opened c =
    let e = c.in_ok-engine.engine in
    let last : c.in_ok-engine.crew.sessions.items ≡ c.pop.new.self.items ++ c.in-Some.last ∷ [] = search rules in
    let new : IsNewOf e (engine_sizes e).quota (1 + length c.pop.new.self.items) c.in-Some.last =
    each_from_at (IsNewOf e (engine_sizes e).quota) 1 c.pop.new.self.items [] c.in-Some.last (subst (EachFrom (IsNewOf e (engine_sizes e).quota) 1) last c.in_ok-engine.ensures.opened.new) in
    let p = c.into_pass.ensures in
    let one : 1 + sessions_in c.args.script.now ≡ suc (sessions_in c.args.script.now) = omega arith in
    let opened : IsOpenedWith (reader_of c.args.script.now) c.args.script.now c.args.options.now.buckets e (c.pop.new.self.items ++ c.in-Some.last ∷ []) c.in_ok-engine.crew.collectors =
    subst (λ list. IsOpenedWith (reader_of c.args.script.now) c.args.script.now c.args.options.now.buckets e list c.in_ok-engine.crew.collectors)
    last
    (subst (λ n. IsOpenedWith n c.args.script.now c.args.options.now.buckets e c.in_ok-engine.crew.sessions.items c.in_ok-engine.crew.collectors) one c.in_ok-engine.ensures.opened) in
    let reads : 2 ≤ (engine_sizes e).quota = (let quota = c.in_ok-engine.ensures.quota in omega (arith, quota)) in
    record {
      last = c.in-Some.last;
      opened = opened;
      reads = reads;
      many = own_many c.args.script.now c.args.options.now.buckets e c.pop.new.self.items c.in-Some.last c.in_ok-engine.crew.collectors opened;
      more = more_is c.args.script.now c.args.options.now.buckets e c.pop.new.self.items c.in-Some.last c.in_ok-engine.crew.collectors opened;
      new = own_new c.args.script.now c.args.options.now.buckets e c.pop.new.self.items c.in-Some.last c.in_ok-engine.crew.collectors opened;
      pass_is = p.same;
      may = record {
        own = p.own e new.own;
        rests = record { only = p.only e new.own; idle = p.idle e new.own; unstamped = p.unstamped e new.own };
        begins = (let most = p.begins e new.own in omega (arith, most, new.left, reads));
      };
    }
