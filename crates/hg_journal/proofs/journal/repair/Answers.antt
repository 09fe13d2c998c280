use Rattle.std.proofs.Common.{◌+◌, List, ℕ, take, sym, ◌∙◌, ap}
use Rattle.hg_journal.proofs.Repairs.{has_gate, cut_done, cut_again, cutting, beginning}
use Rattle.hg_journal.proofs.journal.repair.Goals as goal

pub returns-in_err-cut-in-Some-clause-any_moment : goal.returns-in_err-cut-in-Some-clause-any_moment
returns-in_err-cut-in-Some-clause-any_moment g c =
    cutting g.D.Device.moment g.D.Device.left_since c.args.device.now c.args.file.now _ c.requires.read c.cut.new.device c.in-Some.end (has_gate c.args.file.now c.in-Some.end c.in-Some.ensures.gate) c.cut.ensures.any_moment

pub returns-in_ok-cut-in-Some-clause-any_moment : goal.returns-in_ok-cut-in-Some-clause-any_moment
returns-in_ok-cut-in-Some-clause-any_moment g c =
    cutting g.D.Device.moment g.D.Device.left_since c.args.device.now c.args.file.now _ c.requires.read c.cut.new.device c.in-Some.end (has_gate c.args.file.now c.in-Some.end c.in-Some.ensures.gate) c.cut.ensures.any_moment

pub returns-in_ok-cut-in-Some-clause-at_rest : goal.returns-in_ok-cut-in-Some-clause-at_rest
returns-in_ok-cut-in-Some-clause-at_rest g c =
    c.in_ok-cut-in-Some.ensures.cut ∙ ap (λ (f : List ℕ). take (c.in-Some.end + 1) f) (sym c.requires.read)
    ∙ cut_done c.args.file.now c.in-Some.end (has_gate c.args.file.now c.in-Some.end c.in-Some.ensures.gate)

pub returns-in_ok-cut-in-Some-clause-same : goal.returns-in_ok-cut-in-Some-clause-same
returns-in_ok-cut-in-Some-clause-same g c =
    cut_again c.args.file.now c.in-Some.end (has_gate c.args.file.now c.in-Some.end c.in-Some.ensures.gate) _ (returns-in_ok-cut-in-Some-clause-at_rest g c)

pub returns-in_err-extend-in-None-2-clause-any_moment : goal.returns-in_err-extend-in-None-2-clause-any_moment
returns-in_err-extend-in-None-2-clause-any_moment g c =
    beginning g.D.Device.moment g.D.Device.left_since c.args.device.now c.args.file.now _ c.requires.read c.cut-in-None-2.new.device c.extend.new.device _ c.if-file-gt1.false c.in_ok-cut-in-None-2.ensures.cut c.cut-in-None-2.ensures.any_moment c.extend.ensures.any_moment

pub returns-in_ok-extend-in-None-2-clause-any_moment : goal.returns-in_ok-extend-in-None-2-clause-any_moment
returns-in_ok-extend-in-None-2-clause-any_moment g c =
    beginning g.D.Device.moment g.D.Device.left_since c.args.device.now c.args.file.now _ c.requires.read c.cut-in-None-2.new.device c.extend.new.device _ c.if-file-gt1.false c.in_ok-cut-in-None-2.ensures.cut c.cut-in-None-2.ensures.any_moment c.extend.ensures.any_moment
