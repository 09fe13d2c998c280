-- A pass that has its own part alone, as the sessions' crate says it and as the collectors' does.
use Rattle.std.proofs.Common.{ℕ}
use Rattle.hg_collectors.specs.declared.collectors.Collectors.{Collectors}
use Rattle.hg_collectors.specs.Collecting.{IsLone}
use Rattle.hg_rule.specs.declared.passes.CollectorPass.{CollectorPass}
use Rattle.hg_rule.specs.Seats.{BoardId}
use Rattle.hg_session.specs.declared.engine.Engine.{Engine}
use Rattle.hg_session.specs.Engines.{engine_board_id}
use Rattle.hg_session.specs.Passing.{AreAlone, IsAlonePass}
use Rattle.hg_run.specs.Collecting.{AreCollectors, passes_of}

pub lone : (t : BoardId) (p : ℕ) (c : CollectorPass) → IsAlonePass t p c → IsLone t p c
lone t p c h = record { own = h.own; only = h.only; share = h.share }

alone : (t : BoardId) (p : ℕ) (c : CollectorPass) → IsLone t p c → IsAlonePass t p c
alone t p c h = record { own = h.own; only = h.only; share = h.share }

-- those of an engine
pub all_alone : (e : Engine) (c : Collectors) → AreCollectors e c → AreAlone e (passes_of c)
all_alone e c h = record {
  group = alone (engine_board_id e) 0 (passes_of c).group h.alone.group;
  table = alone (engine_board_id e) 1 (passes_of c).table h.alone.table;
  interval = alone (engine_board_id e) 2 (passes_of c).interval h.alone.interval;
}
