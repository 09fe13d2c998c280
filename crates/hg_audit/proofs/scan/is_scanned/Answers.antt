use Rattle.std.proofs.Common.{◌≡◌, ℕ, ◌+◌, ◌<◌, ◌≤◌, ◌∙◌, sym, subst, arith, length, refl, take, drop, None}
use Rattle.hg_base.specs.Replies.{AreRows}
use Rattle.hg_base.proofs.ListFacts.{false_true}
use Rattle.hg_known.specs.Lines.{rest_of, said_of}
use Rattle.hg_audit.specs.Seen.{look}
use Rattle.hg_known.proofs.Walking.{at_line, take_all}
use Rattle.hg_audit.proofs.Scanned.{Scanning, scan_first, scan_more, scan_end, scan_full, end_none, its_row, not_low, no_next, gap_none}
use Rattle.hg_audit.proofs.scan.is_scanned.Goals as goal
use Rattle.hg_audit.proofs.scan.is_scanned.Goals.{then-key-first-via-then-key-first, then-key-first-via-else-key-first+then-key-high}
use Rattle.hg_audit.proofs.scan.is_scanned.Goals.{else-key-first-2-via-then-key-first-2+else-not-none_seen, else-key-first-2-via-else-key-first-2}

pub loop-key-init : goal.loop-key-init
loop-key-init c =
    λ h earlier shows is.
    let small : c.args.range.high < 18446744073709551616 = omega arith in
    scan_first (look h earlier (said_of c.args.now.now) c.args.range.table) (rest_of c.args.range).low c.args.range.high c.args.range.next refl small

pub returns-in_default : goal.returns-in_default
returns-in_default c =
    λ h earlier shows is.
    let see = look h earlier (said_of c.args.now.now) c.args.range.table in
    let rows = c.args.rows.now in
    let k = c.loop-key.key-index in
    let less : k < length rows = omega arith in
    let at = at_line rows k c.loop-key-item.result less c.loop-key-item.is in
    let small : c.args.range.high < 18446744073709551616 = omega arith in (
      λ e. absurd (false_true e),
      λ are. absurd (no_next see (rest_of c.args.range).low c.args.range.high (take k rows) (drop (k + 1) rows) c.loop-key-item.result small
          (subst (Scanning see (rest_of c.args.range).low c.args.range.high (take k rows)) c.in_default.is (c.loop-key.invariant h earlier shows is))
          (subst (AreRows see (rest_of c.args.range).low c.args.range.high) at.all are)),
    )

pub returns-then-key-first : goal.returns-then-key-first
returns-then-key-first c =
    λ h earlier shows is.
    let see = look h earlier (said_of c.args.now.now) c.args.range.table in
    let rows = c.args.rows.now in
    let k = c.loop-key.key-index in
    let q = c.loop-key-item.result in
    let less : k < length rows = omega arith in
    let at = at_line rows k q less c.loop-key-item.is in
    let scanning = subst (Scanning see (rest_of c.args.range).low c.args.range.high (take k rows)) c.in-Some.is (c.loop-key.invariant h earlier shows is) in (
      λ e. absurd (false_true e),
      λ are.
          let there = subst (AreRows see (rest_of c.args.range).low c.args.range.high) at.all are in
          let low : c.in-Some.first ≤ q.0 = not_low see (rest_of c.args.range).low c.args.range.high (take k rows) (drop (k + 1) rows) q c.in-Some.first scanning there in
          let high : q.0 ≤ c.args.range.high = (its_row see (rest_of c.args.range).low c.args.range.high (take k rows) (drop (k + 1) rows) q there).1 in
          elim c.then-key-first.branch [
            | then-key-first-via-then-key-first w ↦ absurd (omega (arith, low, w.if-key-first.true))
            | then-key-first-via-else-key-first+then-key-high w ↦ absurd (omega (arith, high, w.if-key-high.true))
          ],
    )

pub returns-then-not-none_seen : goal.returns-then-not-none_seen
returns-then-not-none_seen c =
    λ h earlier shows is.
    let see = look h earlier (said_of c.args.now.now) c.args.range.table in
    let rows = c.args.rows.now in
    let k = c.loop-key.key-index in
    let q = c.loop-key-item.result in
    let less : k < length rows = omega arith in
    let at = at_line rows k q less c.loop-key-item.is in
    let scanning = subst (Scanning see (rest_of c.args.range).low c.args.range.high (take k rows)) c.in-Some.is (c.loop-key.invariant h earlier shows is) in (
      λ e. absurd (false_true e),
      λ are. absurd (false_true (sym c.if-not-none_seen.true ∙ (c.none_seen.ensures h earlier shows is).1
          (gap_none see (rest_of c.args.range).low c.args.range.high (take k rows) (drop (k + 1) rows) q c.in-Some.first scanning
          (subst (AreRows see (rest_of c.args.range).low c.args.range.high) at.all are) c.if-key-first-2.true))),
    )

pub loop-key-preserved : goal.loop-key-preserved
loop-key-preserved c =
    λ h earlier shows is.
    let see = look h earlier (said_of c.args.now.now) c.args.range.table in
    let rows = c.args.rows.now in
    let k = c.loop-key.key-index in
    let q = c.loop-key-item.result in
    let less : k < length rows = omega arith in
    let at = at_line rows k q less c.loop-key-item.is in
    let small : c.args.range.high < 18446744073709551616 = omega arith in
    let scanning = subst (Scanning see (rest_of c.args.range).low c.args.range.high (take k rows)) c.in-Some.is (c.loop-key.invariant h earlier shows is) in
    let gap : (n : ℕ) → c.in-Some.first ≤ n → n < q.0 → (see n).row ≡ None = λ n low high. elim c.else-key-first-2.branch [
      | else-key-first-2-via-then-key-first-2+else-not-none_seen w ↦ (w.none_seen.ensures h earlier shows is).0 w.if-not-none_seen.false n low (omega (arith, high))
      | else-key-first-2-via-else-key-first-2 w ↦ absurd (omega (arith, low, high, w.if-key-first-2.false))
    ] in
    subst (λ done. Scanning see (rest_of c.args.range).low c.args.range.high done c.checked_add-from.result) (sym at.up_to)
    (scan_more see (rest_of c.args.range).low c.args.range.high (take k rows) c.in-Some.first q.0 q.1 c.checked_add-from.result scanning (omega (arith, c.if-key-first.false))
    (omega (arith, c.if-key-high.false))
    (sym (c.see.ensures h earlier shows is) ∙ c.is_row.ensures.0 c.if-not-is_row.false) gap c.checked_add-from.ensures small)

pub returns-in-Some-from : goal.returns-in-Some-from
returns-in-Some-from c =
    λ h earlier shows is.
    let see = look h earlier (said_of c.args.now.now) c.args.range.table in
    let rows = c.args.rows.now in
    let k = c.loop-key.key-index in
    let all : take k rows ≡ rows = take_all rows k (omega arith) in
    let scanning = subst (λ done. Scanning see (rest_of c.args.range).low c.args.range.high done c.loop-key.from) all (c.loop-key.invariant h earlier shows is) in
    let s = subst (Scanning see (rest_of c.args.range).low c.args.range.high rows) c.in-Some-from.is scanning in
    let d = c.none_seen-in-Some-from.ensures h earlier shows is in (
      λ e. scan_end see (rest_of c.args.range).low c.args.range.high rows c.in-Some-from.first s (d.0 e),
      λ are. d.1
          (end_none see (rest_of c.args.range).low c.args.range.high rows c.in-Some-from.first s are),
    )

pub returns-in-None : goal.returns-in-None
returns-in-None c =
    λ h earlier shows is.
    let see = look h earlier (said_of c.args.now.now) c.args.range.table in
    let rows = c.args.rows.now in
    let k = c.loop-key.key-index in
    let all : take k rows ≡ rows = take_all rows k (omega arith) in
    let scanning = subst (λ done. Scanning see (rest_of c.args.range).low c.args.range.high done c.loop-key.from) all (c.loop-key.invariant h earlier shows is) in
    (λ _. scan_full see (rest_of c.args.range).low c.args.range.high rows (subst (Scanning see (rest_of c.args.range).low c.args.range.high rows) c.in-None.is scanning), λ _. refl)
