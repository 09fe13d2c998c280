use Rattle.std.proofs.Common.{rules, ℕ, ◌∙◌, not, map, take, sym, ap, Vec}
use Rattle.std.specs.declared.alloc.Global.{Global}
use Rattle.hg_base.specs.declared.report.Entry.{Entry}
use Rattle.hg_tracker.proofs.TableLists.{common_most, keeps_number, drops_next, pushed, appended}
use Rattle.hg_tracker.proofs.lists.fill_common.Goals as goal
use Rattle.hg_tracker.proofs.lists.fill_common.Goals.{else-not-entry-via-then-not-entry+else-is_err, else-not-entry-via-else-not-entry}

pub unreachable-requires : goal.unreachable-requires
unreachable-requires c = let most = common_most (take c.loop-entry.entry-index c.args.ranked.now) in search rules

pub loop-entry-preserved : goal.loop-entry-preserved
loop-entry-preserved c =
    let i = c.loop-entry.entry-index in
    elim c.else-not-entry.branch [
      | else-not-entry-via-then-not-entry+else-is_err w ↦ (
        ap (λ (v : Vec ℕ Global). v.items) w.common-is ∙ (pushed _ _ w.push.new.self.items _ _ w.push.ensures.items w.is_err.ensures.negation w.if-is_err.false ∙
            appended c.loop-entry.common.items _ _ _ c.loop-entry.invariant.0 (keeps_number (λ (e : Entry). not e.moved) c.args.ranked.now i _ c.loop-entry-test.true (ap not w.if-not-entry.true))),
        search rules,
      )
      | else-not-entry-via-else-not-entry w ↦ (ap (λ (v : Vec ℕ Global). v.items) w.common-is ∙ (c.loop-entry.invariant.0 ∙ sym (ap (map (λ (e : Entry). e.number)) (drops_next (λ (e : Entry). not e.moved) c.args.ranked.now i _ c.loop-entry-test.true (ap not w.if-not-entry.false)))), search rules)
    ]
