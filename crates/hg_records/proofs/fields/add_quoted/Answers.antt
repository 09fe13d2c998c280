use Rattle.std.proofs.Common.{◌∷◌, ◌++◌, ◌∙◌, ap, append_assoc, [], ℕ, List}
use Rattle.csv.specs.Writing.{escaped}
use Rattle.hg_records.specs.Bytes.{flexible_writer}
use Rattle.hg_records.proofs.RecordBytes.{after_error, begins_with, quoted_of, still_begins}
use Rattle.hg_records.proofs.fields.add_quoted.Goals as goal

pub returns-in_err-add_escaped-clause-kept : goal.returns-in_err-add_escaped-clause-kept
returns-in_err-add_escaped-clause-kept c =
    after_error c.from_residual-in_err-add_escaped.result
    (still_begins c.args.text.now.items _ c.push.new.self.items c.add_escaped.new.text.items c.in_ok-push.ensures.items c.in_err-add_escaped.ensures.kept)

pub returns-in_err-push-2-clause-kept : goal.returns-in_err-push-2-clause-kept
returns-in_err-push-2-clause-kept c =
    let old = c.args.text.now.items in
    let field = escaped flexible_writer c.args.field.now in
    after_error c.from_residual-in_err-push-2.result (begins_with old (34 ∷ field) c.push-2.new.self.items
    (c.in_err-push-2.ensures.items ∙ (c.in_ok-add_escaped.ensures.added ∙ (ap (λ (bytes : List ℕ). bytes ++ field) c.in_ok-push.ensures.items ∙ append_assoc old (34 ∷ []) field))))

pub returns-clause-added : goal.returns-clause-added
returns-clause-added c = quoted_of c.args.text.now.items c.push.new.self.items c.add_escaped.new.text.items c.push-2.new.self.items c.args.field.now
    c.in_ok-push.ensures.items c.in_ok-add_escaped.ensures.added c.in_ok-push-2.ensures.items
