use Rattle.std.proofs.Common.{◌∙◌, sym, ap}
use Rattle.std.specs.BTreeMap.{get}
use Rattle.std.specs.Ordering.{nat_cmp}
use Rattle.hg_base.specs.Transcript.{last_of}
use Rattle.hg_known.specs.Lines.{open_left}
use Rattle.hg_known.proofs.Opened.{open_is, open_without}
use Rattle.hg_known.proofs.before.Before.open_at.Goals as goal

pub returns : goal.returns
returns c = λ earlier before. let j = c.args.session in c.left_open.ensures ∙ sym (open_without j (get nat_cmp c.args.self.now.lasts j)) ∙ ap (open_left j) (before.lasts j) ∙
    sym (open_is j (last_of j earlier))
