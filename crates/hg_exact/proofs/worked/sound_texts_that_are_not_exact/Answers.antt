use Rattle.std.proofs.Common.{ℕ, suc, ◌+◌, ◌*◌, List, [], ◌∷◌, refl, ap, arith}
use Rattle.hg_base.specs.Script.{replay}
use Rattle.hg_base.specs.declared.line.Answer.{Answer}
use Rattle.hg_base.specs.declared.line.Answer.TheVariants.{Stored, Committed, Newer}
use Rattle.hg_base.specs.declared.line.Line.{Line}
use Rattle.hg_decide.proofs.Decide.{so}
use Rattle.hg_decide.proofs.Decided.{decide_sound}
use Rattle.hg_exact.specs.Worked.{exchanged, one_group, older_newer, over_open}
use Rattle.hg_exact.proofs.worked.sound_texts_that_are_not_exact.Goals as goal

-- the numbers that lines print, each weighed by its place, so that lines that differ in one have another sum
abbrev weight : Answer → ℕ
weight Stored = 1
weight (Committed c) = suc c
weight (Newer c) = suc c
weight _ = 0

abbrev weighed : ℕ → List Line → ℕ
weighed n [] = 0
weighed n (line ∷ lines) = n * weight line.reply.answer + weighed (suc n) lines

pub returns-clause-exchanged : goal.returns-clause-exchanged
returns-clause-exchanged c = so (decide_sound replay exchanged.script exchanged.printed) refl

pub returns-clause-exchanged_is_not : goal.returns-clause-exchanged_is_not
returns-clause-exchanged_is_not c = λ e. let f = ap (weighed 1) e in omega (arith, f)

pub returns-clause-one_group : goal.returns-clause-one_group
returns-clause-one_group c = so (decide_sound replay one_group.script one_group.printed) refl

pub returns-clause-one_group_is_not : goal.returns-clause-one_group_is_not
returns-clause-one_group_is_not c = λ e. let f = ap (weighed 1) e in omega (arith, f)

pub returns-clause-older_newer : goal.returns-clause-older_newer
returns-clause-older_newer c = so (decide_sound replay older_newer.script older_newer.printed) refl

pub returns-clause-older_newer_is_not : goal.returns-clause-older_newer_is_not
returns-clause-older_newer_is_not c = λ e. let f = ap (weighed 1) e in omega (arith, f)

pub returns-clause-over_open : goal.returns-clause-over_open
returns-clause-over_open c = so (decide_sound replay over_open.script over_open.printed) refl

pub returns-clause-over_open_is_not : goal.returns-clause-over_open_is_not
returns-clause-over_open_is_not c = λ e. let f = ap (weighed 1) e in omega (arith, f)
