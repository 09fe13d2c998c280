use Rattle.std.proofs.Common.{ℕ, ◌<◌, ◌+◌, sym, length, arith}
use Rattle.hg_base.specs.declared.statement.Statement.{Statement}
use Rattle.hg_script.specs.Numbered.{many_before}
use Rattle.hg_script.proofs.Numbered.{few_before, numbered_at, numbered_many}
use Rattle.hg_script.proofs.script.Script.record.Goals as goal

pub get-requires : goal.get-requires
get-requires c =
    let less = rw (← c.self.view_is) at c.requires in
    omega (arith, less, numbered_many (many_before c.self.inside.version (length c.self.inside.tables) + 1) c.self.inside.statements)

pub overflow_add-place-2 : goal.overflow_add-place-2
overflow_add-place-2 c =
    let less = rw (← c.self.view_is) at c.requires in
    let most = c.self.invariant in
    let before = rw (← c.self.view_is) at c.records_before.ensures in
    omega (
      arith,
      less,
      before,
      few_before c.self.inside.version (length c.self.inside.tables),
      most.0,
      most.1,
      numbered_many
          (many_before c.self.inside.version (length c.self.inside.tables) + 1) c.self.inside.statements,
    )

pub returns : goal.returns
returns c =
    let place = many_before c.self.inside.version (length c.self.inside.tables) + 1 in
    let said : ℕ × Statement = (c.in_ok-session.session, c.in_ok-session.statement) in
    let less = rw (← c.self.view_is) at c.requires in
    let within : c.args.i < length c.self.inside.statements = omega (arith, less, numbered_many place c.self.inside.statements) in
    let before = rw (← c.self.view_is) at c.records_before.ensures in
    let at = numbered_at place c.self.inside.statements c.args.i _ said (c.records_before.result + 1 + c.args.i) within c.in_ok-session.ensures (omega (arith, before)) in
    rw (← c.self.view_is) (sym at)
