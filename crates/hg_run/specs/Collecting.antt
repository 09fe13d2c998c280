-- The collectors of an engine.
use Rattle.std.specs.Prelude.{◌≡◌, ℕ, ◌+◌}
use Rattle.hg_base.specs.declared.line.Reply.{Reply}
use Rattle.hg_base.specs.declared.report.Kind.{Kind}
use Rattle.hg_base.specs.declared.report.Kind.TheVariants.{Group, Table, Interval}
use Rattle.hg_collectors.specs.declared.collectors.Collectors.{Collectors}
use Rattle.hg_collectors.specs.Collecting.{AreCollectorsOf, HaveMade, pass_in, removed_of}
use Rattle.hg_collectors.specs.Swept.{told_of}
use Rattle.hg_collectors.specs.Telling.{sweeps_in}
use Rattle.hg_core.specs.Counters.{removed_all}
use Rattle.hg_rule.specs.declared.view.Sizes.{Sizes}
use Rattle.hg_rule.specs.Seats.{pass_view}
use Rattle.hg_rule.specs.Views.{pass}
use Rattle.hg_session.specs.declared.engine.Engine.{Engine}
use Rattle.hg_session.specs.declared.engine.Passes.{Passes}
use Rattle.hg_session.specs.Engines.{engine_board_id, engine_sizes}

-- their passes
abbrev pub passes_of : Collectors → Passes
passes_of c = record { group = pass_in Group c; table = pass_in Table c; interval = pass_in Interval c }

-- how many versions the passes' visits removed of a kind
abbrev pub removed_in : Kind → Passes → ℕ
removed_in kind passes = removed_all kind (pass (pass_view passes.group)).visits + removed_all kind (pass (pass_view passes.table)).visits + removed_all kind (pass (pass_view passes.interval)).visits

-- each has room for its rounds, and its pass has its own part alone
abbrev pub AreCollectors : Engine → Collectors → Type 0
AreCollectors e c = AreCollectorsOf (engine_board_id e) (engine_sizes e) c

-- a reply reports all that they removed, and each round of theirs
pub record TellsAll (z : Sizes) (long : ℕ) (before : Collectors) (reply : Reply) (after : Collectors) : Type 0 where
  pub removed : (k : Kind) → removed_of k after ≡ removed_of k before + told_of k reply
  pub rounds : HaveMade z long before (λ k. sweeps_in k reply) after
