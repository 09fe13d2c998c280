-- How many sessions a script has.
use Rattle.std.proofs.Common.{◌≤◌, List, [], ◌∷◌, arith}
use Rattle.std.specs.Prelude.{map, max}
use Rattle.hg_base.specs.declared.limits.TheConstants.{MOST_SESSIONS}
use Rattle.hg_base.specs.declared.statement.Record.{Record}
use Rattle.hg_base.specs.Lists.{Each, greatest}
use Rattle.hg_base.specs.Script.{Script}
use Rattle.hg_script.specs.Lawful.{IsLawful, IsStatement}

pub greatest_within : (script : Script) (rs : List Record) → Each (IsStatement script.tables) rs → greatest (map (λ r. r.session) rs) ≤ MOST_SESSIONS
greatest_within script [] h = omega arith
greatest_within script (r ∷ rs) h =
    let rest = greatest_within script rs h.1 in
    let here = h.0.most in
    omega (arith, here, rest)

pub sessions_within : (script : Script) → IsLawful script → max 1 (greatest (map (λ r. r.session) script.records)) ≤ MOST_SESSIONS
sessions_within script h = let most = greatest_within script script.records h.statements in omega (arith, most)
