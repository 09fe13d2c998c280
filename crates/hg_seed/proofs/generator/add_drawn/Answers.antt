use Rattle.std.proofs.Common.{◌≡◌, ◌+◌, ◌∙◌, ap, length}
use Rattle.hg_base.specs.declared.statement.Record.{Record}
use Rattle.hg_seed.specs.Generator.{statement_at}
use Rattle.hg_script.specs.Numbered.{records_before}
use Rattle.hg_script.specs.Rules.{is_open}
use Rattle.hg_script.proofs.Open.{notes}
use Rattle.hg_seed.proofs.generator.add_drawn.Goals as goal

pub returns-clause-script : goal.returns-clause-script
returns-clause-script c =
    let within : c.is_open-within.result ≡ is_open c.args.session c.args.script.now.records = c.is_open-within.ensures ∙ c.requires.known c.args.session c.requires.session in
    let asked : c.in_ok-statement.statement ≡ statement_at c.args.draws.now (is_open c.args.session c.args.script.now.records) = c.in_ok-statement.ensures.statement ∙
    ap (statement_at c.args.draws.now) within in
    rw asked at c.in_ok-add.ensures

pub returns-clause-state : goal.returns-clause-state
returns-clause-state c =
    let within : c.is_open-within.result ≡ is_open c.args.session c.args.script.now.records = c.is_open-within.ensures ∙ c.requires.known c.args.session c.requires.session in
    let asked : c.in_ok-statement.statement ≡ statement_at c.args.draws.now (is_open c.args.session c.args.script.now.records) = c.in_ok-statement.ensures.statement ∙
    ap (statement_at c.args.draws.now) within in
    rw asked at c.in_ok-statement.ensures.state

pub returns-clause-known : goal.returns-clause-known
returns-clause-known c =
    let added : Record = record { place = records_before c.args.script.now + length c.args.script.now.records + 1; session = c.args.session; statement = c.in_ok-statement.statement } in
    rw c.in_ok-add.ensures (notes c.args.sessions.now.flags c.note.new.self.flags c.args.script.now.records added c.requires.known c.note.ensures.flags)
