use Rattle.std.proofs.Common.{◌∙◌, ap}
use Rattle.hg_script.specs.Draft.{table_named}
use Rattle.hg_script.proofs.Scopes.{found-among}
use Rattle.hg_script.proofs.tables.Tables.find.Goals as goal

pub returns-clause-bound : goal.returns-clause-bound
returns-clause-bound c =
    let named = c.copied.ensures ∙ c.get.ensures.value ∙ c.self.invariant.1 c.args.name.now ∙ ap (λ tables. table_named tables c.args.name.now) c.self.view_is in
    found-among c.args.self.now c.args.name.now c.copied.result named
