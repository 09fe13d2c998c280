-- A source and a sink that lie in memory, as contracts see them.
use Rattle.std.specs.Prelude.{ℕ, Bool, List, Some}
use Rattle.hg_base.specs.Flows.{Inflow, Outflow}

-- the bytes that were given and those still to come, whether the last read found the end, at most how many a call gives, which calls fail,
-- and how many calls and faults there were
pub record Feed : Type 0 where
  pub given : List ℕ
  pub left : List ℕ
  pub is_over : Bool
  pub most : ℕ
  pub failing : List ℕ
  pub calls : ℕ
  pub faults : ℕ

-- the same of a source that never fails
pub record SteadyFeed : Type 0 where
  pub given : List ℕ
  pub left : List ℕ
  pub is_over : Bool
  pub most : ℕ

-- the bytes that were taken, for how many more there is room, at most how many a call takes, and the rest as of a source
pub record Tray : Type 0 where
  pub taken : List ℕ
  pub room : ℕ
  pub most : ℕ
  pub failing : List ℕ
  pub calls : ℕ
  pub faults : ℕ

-- the bytes that were taken, those that were kept, for how many more there is room, at most how many a call takes, and how many came past
-- the room
pub record SteadyTray : Type 0 where
  pub taken : List ℕ
  pub kept : List ℕ
  pub room : ℕ
  pub most : ℕ
  pub past : ℕ

-- ---- what they tell as sources and sinks

abbrev pub inflow_of : Feed → Inflow
inflow_of s = record { given = s.given; is_over = s.is_over; left = Some s.left; faults = s.faults }

abbrev pub outflow_of : Tray → Outflow
outflow_of s = record { taken = s.taken; faults = s.faults }

abbrev pub steady_inflow : SteadyFeed → Inflow
steady_inflow s = record { given = s.given; is_over = s.is_over; left = Some s.left; faults = 0 }

abbrev pub steady_outflow : SteadyTray → Outflow
steady_outflow s = record { taken = s.taken; faults = 0 }
