-- What the rule says of its state: a list of steps reaches it, so it meets the invariant; and a step more reaches the next.
use Rattle.std.proofs.Common.{ℕ}
use Rattle.atomic_table.specs.Table.{State}
use Rattle.hg_core.specs.State.{CoreState}
use Rattle.hg_core.specs.Events.{Event, happens, May}
use Rattle.hg_core.specs.Steps.{Step, Act, step, Can, LeadsTo}
use Rattle.hg_core.specs.Invariant.{IsSteady}
use Rattle.hg_core.proofs.Runs.{reached_next, reached_steady}
use Rattle.hg_rule.specs.declared.view.View.{View}
use Rattle.hg_rule.specs.declared.view.Sizes.{Sizes}
use Rattle.hg_rule.specs.Rules.{Rule, new_state}

pub steady : {z : Sizes} {t : State ℕ View} → (r : Rule z t) → IsSteady r.state
steady {z} {t} r = reached_steady z.sessions z.tables z.buckets 3 z.quota r.state r.reached

pub stepped : (z : Sizes) (c : CoreState) (e : Step) → LeadsTo (new_state z) c → Can c e → LeadsTo (new_state z) (step c e)
stepped z c e r can = reached_next (new_state z) c e r can

pub acted : (z : Sizes) (c : CoreState) (e : Event) → LeadsTo (new_state z) c → May c e → LeadsTo (new_state z) (happens c e)
acted z c e r may = stepped z c (Act e) r may
