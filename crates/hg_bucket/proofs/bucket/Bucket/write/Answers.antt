use Rattle.std.proofs.Common.{◌≡◌, ℕ, ◌+◌, sym, ap, ◌∙◌, subst}
use Rattle.std.specs.Prelude.{Err, Ok, if◌then◌else◌, IsTrue}
use Rattle.std.proofs.lemmas.Result.{err_from_is_err_and}
use Rattle.hg_bucket.specs.BucketModel.{BucketModel, versions_of, begins_open, IsSound}
use Rattle.hg_bucket.specs.Conflicts.{conflict}
use Rattle.hg_bucket.specs.Writes.{Writes}
use Rattle.hg_bucket.specs.Parts.{Recorded}
use Rattle.hg_bucket.proofs.Refusing.{told_on, told_none, told_open, told_newer, never_own, one_more, none_more}
use Rattle.hg_bucket.proofs.bucket.Bucket.write.Goals.{then-added, else-added}
use Rattle.hg_bucket.proofs.bucket.Bucket.write.Goals as goal

pub invariant_of-self : goal.invariant_of-self
invariant_of-self c = subst (λ (rs : Recorded). IsSound record {
  records = rs.records;
  long = rs.long;
  made = c.self.inside.made;
  undone = c.self.inside.undone;
  group = c.self.inside.group;
  table = c.self.inside.table;
  interval = c.self.inside.interval;
}) (sym c.in_err-added.ensures.refused) c.self.invariant

pub returns-in_err-added-clause-open : goal.returns-in_err-added-clause-open
returns-in_err-added-clause-open c =
    let vs = versions_of c.self.inside.records.records c.args.rid in
    let p = err_from_is_err_and c.from_residual.result c.from_residual.ensures.1 in
    rw (← c.self.view_is) (told_open c.args.by c.args.snapshot c.args.mark vs c.from_residual.result
    (told_on (conflict c.args.by c.args.snapshot c.args.mark vs) c.write.result c.from_residual.result c.in_err-added.field-0.0 c.in_err-added.was (p.1 ∙
    ap Err p.2) c.write.ensures.writes.refusal))

pub returns-in_err-added-clause-newer : goal.returns-in_err-added-clause-newer
returns-in_err-added-clause-newer c =
    let vs = versions_of c.self.inside.records.records c.args.rid in
    let p = err_from_is_err_and c.from_residual.result c.from_residual.ensures.1 in
    rw (← c.self.view_is) (told_newer c.args.by c.args.snapshot c.args.mark vs c.from_residual.result
    (told_on (conflict c.args.by c.args.snapshot c.args.mark vs) c.write.result c.from_residual.result c.in_err-added.field-0.0 c.in_err-added.was (p.1 ∙
    ap Err p.2) c.write.ensures.writes.refusal))

pub returns-in_err-added-clause-cause : goal.returns-in_err-added-clause-cause
returns-in_err-added-clause-cause c =
    let p = err_from_is_err_and c.from_residual.result c.from_residual.ensures.1 in
    rw (p.1, p.2, ← c.self.view_is) (subst (λ a. Writes c.args.by c.args.image c.args.snapshot c.args.mark c.self.inside.records.records c.write.new.self.records c.args.rid a)
    c.in_err-added.was c.write.ensures.writes).cause

pub returns-in_err-added-clause-replaced : goal.returns-in_err-added-clause-replaced
returns-in_err-added-clause-replaced c =
    λ own.
    absurd (never_own c.args.by c.args.snapshot c.args.mark (versions_of c.self.inside.records.records c.args.rid) c.in_err-added.field-0.0
    (subst (λ a. Writes c.args.by c.args.image c.args.snapshot c.args.mark c.self.inside.records.records c.write.new.self.records c.args.rid a) c.in_err-added.was
    c.write.ensures.writes).cause (subst (λ h. IsTrue (begins_open c.args.by (versions_of h.records c.args.rid))) (sym c.self.view_is) own))

pub returns-clause-open : goal.returns-clause-open
returns-clause-open c =
    let vs = versions_of c.self.inside.records.records c.args.rid in
    rw (← c.self.view_is) (told_open c.args.by c.args.snapshot c.args.mark vs (Ok _)
    (told_none (conflict c.args.by c.args.snapshot c.args.mark vs) c.write.result (Ok _) c.in_ok-added.added c.in_ok-added.was c.write.ensures.writes.refusal))

pub returns-clause-newer : goal.returns-clause-newer
returns-clause-newer c =
    let vs = versions_of c.self.inside.records.records c.args.rid in
    rw (← c.self.view_is) (told_newer c.args.by c.args.snapshot c.args.mark vs (Ok _)
    (told_none (conflict c.args.by c.args.snapshot c.args.mark vs) c.write.result (Ok _) c.in_ok-added.added c.in_ok-added.was c.write.ensures.writes.refusal))

pub returns-clause-made : goal.returns-clause-made
returns-clause-made c =
    let own = begins_open c.args.by (versions_of c.self.inside.records.records c.args.rid) in
    let count : c.if-added.self ≡ (if own then 0 else 1) =
    elim c.if-added.branch [
      | then-added w ↦ w.self-is ∙ one_more c.in_ok-added.added own
          (subst (λ a. Writes c.args.by c.args.image c.args.snapshot c.args.mark c.self.inside.records.records c.write.new.self.records c.args.rid a) c.in_ok-added.was
          c.write.ensures.writes).added w.if-added.true
      | else-added w ↦ w.self-is ∙ none_more c.in_ok-added.added own
          (subst (λ a. Writes c.args.by c.args.image c.args.snapshot c.args.mark c.self.inside.records.records c.write.new.self.records c.args.rid a) c.in_ok-added.was
          c.write.ensures.writes).added w.if-added.false
    ] in
    let counted : BucketModel = record {
      records = c.write.new.self.records;
      long = c.write.new.self.long;
      made = c.self.inside.made + c.if-added.self;
      undone = c.self.inside.undone;
      group = c.self.inside.group;
      table = c.self.inside.table;
      interval = c.self.inside.interval;
    } in
    let add : ℕ → BucketModel = λ n. record counted { made = c.self.inside.made + n } in
    let seen : BucketModel → BucketModel = λ h. record h {
      records = c.write.new.self.records;
      long = c.write.new.self.long;
      made = h.made + (if begins_open c.args.by (versions_of h.records c.args.rid) then 0 else 1);
    } in
    ap add count ∙ ap seen c.self.view_is
