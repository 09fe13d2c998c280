-- What visits of buckets make of a pass's view.
pub mod Visits
-- What a pass takes from a bucket that it holds, table by table.
pub mod Tables
-- A round, and its report.
pub mod Reports
-- A collector's pass and report between its rounds, and what a collector lends.
pub mod Rounds
pub mod Lending
-- What the table collector leaves of a record, which snapshots a round of it tries to move, and the collector.
pub mod Cutting
pub mod Moving
pub mod TableCollectors
-- What the interval collector leaves of a record, what a round of it costs, and the collector.
pub mod Sweeping
pub mod Costs
pub mod IntervalCollectors
-- The word from which helpers of the interval collector draw.
pub mod Word
pub mod Seats
-- What helpers make of a round.
pub mod Helpers
pub mod Crew
-- The team.
pub mod Teams
