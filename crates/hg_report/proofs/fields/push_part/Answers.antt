use Rattle.std.proofs.Common.{◌∙◌, ap}
use Rattle.hg_report.specs.Fields.{fields_of}
use Rattle.hg_report.proofs.Parted.{fields_more}
use Rattle.hg_report.proofs.fields.push_part.Goals as goal

pub returns : goal.returns
returns c = ap fields_of c.in_ok-push.ensures.items ∙ fields_more c.args.fields.now.items _
