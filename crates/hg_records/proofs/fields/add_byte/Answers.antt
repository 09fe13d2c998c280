use Rattle.std.proofs.Common.{◌≡◌, ℕ, [], ◌∷◌, ◌++◌, ◌∙◌, length, take, sym, ap, append-nil, Vec}
use Rattle.std.specs.declared.alloc.Global.{Global}
use Rattle.hg_records.proofs.RecordBytes.{after_error, begins_with, escaped_plain, escaped_quote}
use Rattle.hg_records.proofs.fields.add_byte.Goals as goal
use Rattle.hg_records.proofs.fields.add_byte.Goals.{then-b-eq34+in_ok-push, else-b-eq34}

pub returns-in_err-push-2-clause-kept : goal.returns-in_err-push-2-clause-kept
returns-in_err-push-2-clause-kept c =
    let old = c.args.text.now.items in
    let kept : take (length old) c.push-2.new.self.items ≡ old = elim c.if-b-eq34.branch [
      | then-b-eq34+in_ok-push w ↦ begins_with old (34 ∷ []) c.push-2.new.self.items
          (c.in_err-push-2.ensures.items ∙ (ap (λ (v : Vec ℕ Global). v.items) w.text-is ∙ w.in_ok-push.ensures.items))
      | else-b-eq34 w ↦ begins_with old [] c.push-2.new.self.items
          (c.in_err-push-2.ensures.items ∙ (ap (λ (v : Vec ℕ Global). v.items) w.text-is ∙ sym (append-nil old)))
    ] in
    after_error c.from_residual-in_err-push-2.result kept

pub returns-clause-added : goal.returns-clause-added
returns-clause-added c =
    let old = c.args.text.now.items in
    let now = c.push-2.new.self.items in
    elim c.if-b-eq34.branch [
      | then-b-eq34+in_ok-push w ↦ escaped_quote c.args.b old c.if-b-eq34.text.items now w.if-b-eq34.true
          (ap (λ (v : Vec ℕ Global). v.items) w.text-is ∙ w.in_ok-push.ensures.items) c.in_ok-push-2.ensures.items
      | else-b-eq34 w ↦ escaped_plain c.args.b old now w.if-b-eq34.false
          (c.in_ok-push-2.ensures.items ∙ ap (λ (v : Vec ℕ Global). v.items ++ c.args.b ∷ []) w.text-is)
    ]
