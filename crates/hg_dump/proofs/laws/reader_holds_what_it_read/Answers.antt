use Rattle.hg_dump.proofs.Holding.{held_alone, within_alone}
use Rattle.hg_dump.proofs.Parting.{history_alone, shape_alone}
use Rattle.hg_dump.proofs.laws.reader_holds_what_it_read.Goals as goal

pub returns-clause-shape : goal.returns-clause-shape
returns-clause-shape c = λ rounds script ats printed s. shape_alone rounds script ats printed.lines s.lines.shape

pub returns-clause-history : goal.returns-clause-history
returns-clause-history c = λ rounds script ats printed s. history_alone rounds script ats printed.lines s.lines.shape

pub returns-clause-within : goal.returns-clause-within
returns-clause-within c = within_alone

pub returns-clause-held : goal.returns-clause-held
returns-clause-held c = held_alone
