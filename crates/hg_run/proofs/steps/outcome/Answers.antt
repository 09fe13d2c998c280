use Rattle.std.proofs.Common.{ℕ, [], sym, arith}
use Rattle.std.proofs.lemmas.List.{append-nil}
use Rattle.std.proofs.KnownBytes.{Consumes-nil}
use Rattle.hg_base.specs.Flows.{Inflow}
use Rattle.hg_streams.specs.Streams.{HasGiven}
use Rattle.hg_run.proofs.steps.outcome.Goals as goal

-- of a source that was not read
none_given : (most : ℕ) (source : Inflow) → HasGiven most (record { old = source; new = source })
none_given most source = record { bytes = []; gave = record { given = sym (append-nil source.given); next = Consumes-nil source.left }; few = omega arith }

pub returns-in-Err-clause-no_more : goal.returns-in-Err-clause-no_more
returns-in-Err-clause-no_more g c = none_given _ _
