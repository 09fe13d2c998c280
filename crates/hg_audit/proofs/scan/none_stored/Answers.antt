use Rattle.std.proofs.Common.{refl, arith}
use Rattle.hg_base.proofs.ListFacts.{false_true}
use Rattle.hg_audit.specs.Seen.{own_look}
use Rattle.hg_audit.proofs.Looking.{isnt_some, isnt_none, unstored, passed_more, passed_all}
use Rattle.hg_audit.proofs.scan.none_stored.Goals as goal

pub returns-then-key-to : goal.returns-then-key-to
returns-then-key-to c =
    let look = own_look c.args.own.now c.args.tx.session c.args.tx.number c.args.table in (
      λ _. passed_all look c.args.from c.loop-key.from c.args.to c.loop-key.invariant.passed
          (λ k low high. unstored c.args.own.now c.args.tx.session c.args.tx.number c.args.table k (c.in-Some.ensures.1 k low (omega (arith, high, c.if-key-to.true)))),
      λ _. refl,
    )

pub returns-then-stores_row : goal.returns-then-stores_row
returns-then-stores_row c = (
  λ e. absurd (false_true e),
  λ none. absurd (isnt_none _ c.stores_row.result c.stores_row.ensures c.if-stores_row.true (none c.in-Some.key (omega (arith, c.in-Some.ensures.0, c.loop-key.invariant.first))
      (omega (arith, c.if-key-to.false)))),
)

pub returns-then-key-to-2 : goal.returns-then-key-to-2
returns-then-key-to-2 c =
    let look = own_look c.args.own.now c.args.tx.session c.args.tx.number c.args.table in (
      λ _. λ k low high. passed_more look c.args.from c.loop-key.from c.in-Some.key c.loop-key.invariant.passed
          (λ k low less. unstored c.args.own.now c.args.tx.session c.args.tx.number c.args.table k (c.in-Some.ensures.1 k low less))
          (isnt_some _ c.stores_row.result c.stores_row.ensures c.if-stores_row.false) k low (omega (arith, high, c.if-key-to-2.true)),
      λ _. refl,
    )

pub loop-key-preserved : goal.loop-key-preserved
loop-key-preserved c = record {
  first = omega (arith, c.in-Some.ensures.0, c.loop-key.invariant.first);
  passed = passed_more (own_look c.args.own.now c.args.tx.session c.args.tx.number c.args.table) c.args.from c.loop-key.from c.in-Some.key c.loop-key.invariant.passed
      (λ k low less. unstored c.args.own.now c.args.tx.session c.args.tx.number c.args.table k (c.in-Some.ensures.1 k low less))
      (isnt_some _ c.stores_row.result c.stores_row.ensures c.if-stores_row.false);
}

pub returns : goal.returns
returns c = (
  λ _. passed_all (own_look c.args.own.now c.args.tx.session c.args.tx.number c.args.table) c.args.from c.loop-key.from c.args.to c.loop-key.invariant.passed
      (λ k low high. unstored c.args.own.now c.args.tx.session c.args.tx.number c.args.table k (c.in_default.ensures k low)),
  λ _. refl,
)
