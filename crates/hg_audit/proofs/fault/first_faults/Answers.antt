use Rattle.hg_audit.proofs.fault.first_faults.Goals as goal

pub find_faults-requires-clause-own : goal.find_faults-requires-clause-own
find_faults-requires-clause-own c = λ j x opened r. c.new-own.ensures.none j x r
