use Rattle.std.proofs.Common.{◌≡◌, ◌∙◌, [], ◌++◌, ℕ, false, length, ap, subst, arith}
use Rattle.std.proofs.lemmas.Result.{on_ok_weaker}
use Rattle.hg_report.specs.Fields.{fields_of, parted}
use Rattle.hg_report.proofs.Parted.{So, fields_none, not_outside, closed_at_feed, closed_at_comma, closed_at_end, goes_on, goes_over}
use Rattle.hg_report.proofs.fields.part.Goals as goal
use Rattle.hg_report.proofs.fields.part.Goals.{then-bytes-i-le44+else-bytes-i-eq10, then-bytes-i-eq44+then-not-quoted-2+in_ok-push_part, else-bytes-i-eq44, else-bytes-i-le44}

pub loop-i-init : goal.loop-i-init
loop-i-init c = record {
  start = omega arith;
  parts = ap (λ row. fields_of row ++ parted false [] c.args.bytes.now) c.clear.ensures.items ∙ ap (λ fs. fs ++ parted false [] c.args.bytes.now) fields_none;
}

pub returns-then-not-quoted : goal.returns-then-not-quoted
returns-then-not-quoted c =
    on_ok_weaker c.push_part.result
    (λ h. closed_at_feed _ _ c.args.bytes.now c.loop-i.start c.loop-i.i c.loop-i.quoted h c.loop-i.invariant.parts c.loop-i-test.true c.if-bytes-i-eq10.true c.if-not-quoted.true)
    c.push_part.ensures

pub loop-i-preserved : goal.loop-i-preserved
loop-i-preserved c =
    let bytes = c.args.bytes.now in
    let i = c.loop-i.i in
    let quoted = c.loop-i.quoted in
    let inv = c.loop-i.invariant in
    elim c.if-bytes-i-le44.branch [
      | then-bytes-i-le44+else-bytes-i-eq10 w ↦
          elim w.if-bytes-i-eq44.branch [
            | then-bytes-i-eq44+then-not-quoted-2+in_ok-push_part v ↦ record {
              start = omega (arith, w.start-is, v.start-is);
              parts = rw (w.fields-is, v.fields-is, w.start-is, v.start-is, w.quoted-is, w.is_quoted_behind-quoted.ensures)
                  (closed_at_comma _ _ bytes c.loop-i.start i quoted v.in_ok-push_part.ensures inv.parts c.loop-i-test.true v.if-bytes-i-eq44.true v.if-not-quoted-2.true);
            }
            | else-bytes-i-eq44 v ↦ record {
              start = omega (arith, w.start-is, v.start-is, inv.start);
              parts = rw (w.fields-is, v.fields-is, w.start-is, v.start-is, w.quoted-is, w.is_quoted_behind-quoted.ensures)
                  (goes_on quoted _ bytes c.loop-i.start i inv.start c.loop-i-test.true (not_outside _ quoted w.else-bytes-i-eq10.either) (not_outside _ quoted v.else-bytes-i-eq44.either) inv.parts);
            }
          ]
      | else-bytes-i-le44 w ↦ record {
        start = omega (arith, w.start-is, inv.start);
        parts = rw (w.fields-is, w.start-is, w.quoted-is) (goes_over quoted _ bytes c.loop-i.start i inv.start c.loop-i-test.true (omega (arith, w.if-bytes-i-le44.false)) inv.parts);
      }
    ]

pub returns : goal.returns
returns c =
    let bytes = c.args.bytes.now in
    let all : c.loop-i.i ≡ length bytes = omega (arith, c.loop-i-test.false, c.loop-i.auto.i-end) in
    let so = subst (λ (i : ℕ). So c.loop-i.quoted (fields_of c.loop-i.fields.items) bytes c.loop-i.start i) all c.loop-i.invariant.parts in
    on_ok_weaker c.push_part-2.result (λ h. closed_at_end _ _ bytes c.loop-i.start (length bytes) c.loop-i.quoted h so (omega arith)) c.push_part-2.ensures
