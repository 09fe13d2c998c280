-- The command with one argument more.
use Rattle.std.proofs.Common.{◌≡◌, subst}
use Rattle.std.specs.Prelude.{Result, IfOk}
use Rattle.std.specs.declared.alloc.AllocError.{AllocError}
use Rattle.clap.specs.Words.{App, Rule, app_of, rule_of, with_rule}
use Rattle.clap.specs.declared.builder.arg.Arg.{Arg}
use Rattle.clap.specs.declared.builder.command.Command.{Command}

-- an argument of this rule was added to a command of these
pub added : (line result : Result Command AllocError) (argument : Arg) (app : App) (rule : Rule) →
    ((a : App) → IfOk line (λ c. app_of c ≡ a) → IfOk result (λ c. app_of c ≡ with_rule a (rule_of argument))) → rule_of argument ≡ rule →
    IfOk line (λ c. app_of c ≡ app) → IfOk result (λ c. app_of c ≡ with_rule app rule)
added line result argument app rule adds is before = subst (λ r. IfOk result (λ c. app_of c ≡ with_rule app r)) is (adds app before)
