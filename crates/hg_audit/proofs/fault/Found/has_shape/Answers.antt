use Rattle.std.proofs.Common.{subst}
use Rattle.hg_audit.specs.Found.{IsFound}
use Rattle.hg_audit.proofs.Sequencing.{out_of_shape}
use Rattle.hg_audit.proofs.fault.Found.has_shape.Goals as goal

pub returns-in-Shape : goal.returns-in-Shape
returns-in-Shape c = λ mode records lines totals h shape. out_of_shape records lines _ (subst (IsFound mode records lines totals) c.in-Shape.is h) shape

pub returns-in-Right : goal.returns-in-Right
returns-in-Right c = λ mode records lines totals h. (subst (IsFound mode records lines totals) c.in-Right.is h).0

pub returns-in-Commits : goal.returns-in-Commits
returns-in-Commits c = λ mode records lines totals h. (subst (IsFound mode records lines totals) c.in-Commits.is h).0

pub returns-in-Reply : goal.returns-in-Reply
returns-in-Reply c = λ mode records lines totals h. (subst (IsFound mode records lines totals) c.in-Reply.is h).0

pub returns-in-Fresh : goal.returns-in-Fresh
returns-in-Fresh c = λ mode records lines totals h. (subst (IsFound mode records lines totals) c.in-Fresh.is h).0

pub returns-in-Totals : goal.returns-in-Totals
returns-in-Totals c = λ mode records lines totals h. (subst (IsFound mode records lines totals) c.in-Totals.is h).0
