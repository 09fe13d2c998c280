use Rattle.std.proofs.Common.{◌+◌, ◌∷◌, [], refl, length, arith, length-append}
use Rattle.hg_script.specs.Numbered.{many_before}
use Rattle.hg_script.proofs.Numbered.{numbered_many, numbered_one}
use Rattle.hg_script.proofs.script.Script.add.Goals as goal

pub push-requires : goal.push-requires
push-requires c =
    let room = rw (← c.self.view_is) at c.requires in
    omega (arith, room, numbered_many (many_before c.self.inside.version (length c.self.inside.tables) + 1) c.self.inside.statements)

pub invariant_of-self-2 : goal.invariant_of-self-2
invariant_of-self-2 c =
    let s = c.self.inside.statements in
    let room = rw (← c.self.view_is) at c.requires in
    rw c.in_ok-push.ensures.ok
    (c.self.invariant.0, omega (arith, room, numbered_many (many_before c.self.inside.version (length c.self.inside.tables) + 1) s, length-append s ((c.args.session, c.args.statement) ∷ [])))

pub returns : goal.returns
returns c =
    let s = c.self.inside.statements in
    let place = many_before c.self.inside.version (length c.self.inside.tables) + 1 in
    rw (
      ← c.self.view_is,
      numbered_many place s,
      c.in_ok-push.ensures.ok,
      numbered_one place s c.args.session c.args.statement
          (many_before c.self.inside.version (length c.self.inside.tables) + length s + 1) (omega arith),
    ) refl
