-- What a source over a reader and a sink over a writer tell.
use Rattle.std.specs.Prelude.{ℕ, List, Option}
use Rattle.hg_base.specs.Flows.{Inflow, Outflow}
use Rattle.hg_streams.specs.declared.standard.ReaderSource.{ReaderSource}
use Rattle.hg_streams.specs.declared.standard.WriterSink.{WriterSink}

-- of a source: what is left is what its reader has left, where that is known
abbrev pub inflow_of : {R : Type 0} → (R → Option (List ℕ)) → ReaderSource R → Inflow
inflow_of remaining s = record { given = s.given.bytes; is_over = s.is_over; left = remaining s.inner; faults = s.faults }

-- of a sink
abbrev pub outflow_of : {W : Type 0} → WriterSink W → Outflow
outflow_of s = record { taken = s.taken.bytes; faults = s.faults }

-- the writer that a sink writes to
abbrev pub writer_of : {W : Type 0} → WriterSink W → W
writer_of s = s.inner
