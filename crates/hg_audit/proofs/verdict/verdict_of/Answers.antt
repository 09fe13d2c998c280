use Rattle.std.proofs.Common.{subst}
use Rattle.hg_audit.proofs.Sounding.{sound_of}
use Rattle.hg_audit.proofs.Finding.{Finds, if_ok_keeps, shape_found, commits_found, reply_found, fresh_found, totals_found}
use Rattle.hg_audit.proofs.verdict.verdict_of.Goals as goal

pub returns-in-Right : goal.returns-in-Right
returns-in-Right c = λ mode script printed same h. sound_of mode script printed (subst (Finds mode script printed) c.in-Right.is h)

pub returns-in-Shape : goal.returns-in-Shape
returns-in-Shape c =
    if_ok_keeps c.at_line.result _ _
    (λ v e mode script printed same h. shape_found mode script printed v c.in-Shape.k (subst (Finds mode script printed) c.in-Shape.is h) (e script printed same))
    c.at_line.ensures

pub returns-in-Commits : goal.returns-in-Commits
returns-in-Commits c =
    if_ok_keeps c.at_end.result _ _
    (λ v e mode script printed same h. commits_found mode script printed v (subst (Finds mode script printed) c.in-Commits.is h) (e script printed same))
    c.at_end.ensures

pub returns-in-Reply : goal.returns-in-Reply
returns-in-Reply c =
    if_ok_keeps c.at_line-in-Reply.result _ _
    (λ v e mode script printed same h. reply_found mode script printed v c.in-Reply.k (subst (Finds mode script printed) c.in-Reply.is h) (e script printed same))
    c.at_line-in-Reply.ensures

pub returns-in-Fresh : goal.returns-in-Fresh
returns-in-Fresh c =
    if_ok_keeps c.at_line-in-Fresh.result _ _
    (λ v e mode script printed same h. fresh_found mode script printed v c.in-Fresh.k (subst (Finds mode script printed) c.in-Fresh.is h) (e script printed same))
    c.at_line-in-Fresh.ensures

pub returns-in-Totals : goal.returns-in-Totals
returns-in-Totals c =
    if_ok_keeps c.at_end-in-Totals.result _ _
    (λ v e mode script printed same h. totals_found mode script printed v (subst (Finds mode script printed) c.in-Totals.is h) (e script printed same))
    c.at_end-in-Totals.ensures
