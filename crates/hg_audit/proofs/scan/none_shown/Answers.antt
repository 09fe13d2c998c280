use Rattle.std.proofs.Common.{◌≡◌, ℕ, ◌∙◌, ◌-◌, None, refl, sym, ap, arith, cond}
use Rattle.std.specs.Prelude.{is_some}
use Rattle.hg_base.specs.History.{visible}
use Rattle.hg_base.proofs.ListFacts.{false_true}
use Rattle.hg_known.specs.Lines.{said_of}
use Rattle.hg_known.specs.Owned.{own_at}
use Rattle.hg_known.specs.Written.{record_at}
use Rattle.hg_audit.specs.Seen.{other_look}
use Rattle.hg_audit.proofs.Looking.{isnt_some, isnt_none, other_row, other_none, down_more, down_all, from_here}
use Rattle.hg_audit.proofs.scan.none_shown.Goals as goal

pub returns-then-key-from : goal.returns-then-key-from
returns-then-key-from c =
    λ h is.
    let now = said_of c.args.now.now in
    let own_of = λ (k : ℕ). own_at c.args.own.now now.session now.transaction (record_at c.args.table k) in
    let table_of = λ (k : ℕ). visible h (record_at c.args.table k) now.at in
    let look = other_look h c.args.own.now now.session now.transaction now.at c.args.table in (
      λ _. down_all look c.args.from c.loop-key.to c.args.to (c.loop-key.invariant.passed h is)
          (λ k low high. other_none (own_of k) (table_of k) ((c.in-Some.ensures.shown h is).2 k (omega (arith, low, c.if-key-from.true)) high)),
      λ _. refl,
    )

pub returns-then-is_shown : goal.returns-then-is_shown
returns-then-is_shown c =
    λ h is.
    let now = said_of c.args.now.now in
    let own_of = λ (k : ℕ). own_at c.args.own.now now.session now.transaction (record_at c.args.table k) in
    let table_of = λ (k : ℕ). visible h (record_at c.args.table k) now.at in
    let look = other_look h c.args.own.now now.session now.transaction now.at c.args.table in
    let key = c.in-Some.key in (
      λ e. absurd (false_true e),
      λ none. absurd (isnt_none _ c.is_shown.result c.is_shown.ensures c.if-is_shown.true
          (ap (λ r. cond (is_some (own_of key)) None r) (c.in-Some.ensures.shown h is).1 ∙ sym (other_row (own_of key) (table_of key)) ∙
          none key (omega (arith, c.if-key-from.false)) (omega (arith, (c.in-Some.ensures.shown h is).0, c.loop-key.invariant.last)))),
    )

pub returns-then-key-from-2 : goal.returns-then-key-from-2
returns-then-key-from-2 c =
    λ h is.
    let now = said_of c.args.now.now in
    let own_of = λ (k : ℕ). own_at c.args.own.now now.session now.transaction (record_at c.args.table k) in
    let table_of = λ (k : ℕ). visible h (record_at c.args.table k) now.at in
    let look = other_look h c.args.own.now now.session now.transaction now.at c.args.table in
    let key = c.in-Some.key in
    let here : (look key).row ≡ None = other_row (own_of key) (table_of key) ∙ ap (λ r. cond (is_some (own_of key)) None r) (sym (c.in-Some.ensures.shown h is).1) ∙
    isnt_some _ c.is_shown.result c.is_shown.ensures c.if-is_shown.false in (
      λ _. down_all look c.args.from c.loop-key.to c.args.to (c.loop-key.invariant.passed h is)
          (λ k low high. from_here look key c.loop-key.to (λ k over high. other_none (own_of k) (table_of k) ((c.in-Some.ensures.shown h is).2 k over high)) here k
          (omega (arith, low, c.if-key-from-2.true)) high),
      λ _. refl,
    )

pub loop-key-smaller : goal.loop-key-smaller
loop-key-smaller c = omega (arith, c.in-Some.ensures.within, c.if-key-from.false, c.if-key-from-2.false)

pub loop-key-preserved : goal.loop-key-preserved
loop-key-preserved c = record {
  last = omega (arith, c.loop-key.invariant.last, c.in-Some.ensures.within);
  passed = λ h is.
      let now = said_of c.args.now.now in
      let own_of = λ (k : ℕ). own_at c.args.own.now now.session now.transaction (record_at c.args.table k) in
      let table_of = λ (k : ℕ). visible h (record_at c.args.table k) now.at in
      let look = other_look h c.args.own.now now.session now.transaction now.at c.args.table in
      let key = c.in-Some.key in
      let here : (look key).row ≡ None = other_row (own_of key) (table_of key) ∙ ap (λ r. cond (is_some (own_of key)) None r) (sym (c.in-Some.ensures.shown h is).1) ∙
      isnt_some _ c.is_shown.result c.is_shown.ensures c.if-is_shown.false in
      down_more look c.loop-key.to c.args.to key (key - 1) (c.loop-key.invariant.passed h is)
      (λ k over high. other_none (own_of k) (table_of k) ((c.in-Some.ensures.shown h is).2 k over high)) here (omega arith);
}

pub returns : goal.returns
returns c =
    λ h is.
    let now = said_of c.args.now.now in
    let own_of = λ (k : ℕ). own_at c.args.own.now now.session now.transaction (record_at c.args.table k) in
    let table_of = λ (k : ℕ). visible h (record_at c.args.table k) now.at in
    let look = other_look h c.args.own.now now.session now.transaction now.at c.args.table in (
      λ _. down_all look c.args.from c.loop-key.to c.args.to (c.loop-key.invariant.passed h is) (λ k low high. other_none (own_of k) (table_of k) (c.in_default.ensures.shown h is k high)),
      λ _. refl,
    )
