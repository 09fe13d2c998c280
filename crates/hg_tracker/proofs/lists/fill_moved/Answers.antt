use Rattle.std.proofs.Common.{rules, ◌∙◌, take, sym, ap, Vec}
use Rattle.std.specs.declared.alloc.Global.{Global}
use Rattle.hg_base.specs.declared.report.Entry.{Entry}
use Rattle.hg_tracker.proofs.TableLists.{moved_most, keeps_next, drops_next, pushed, appended}
use Rattle.hg_tracker.proofs.lists.fill_moved.Goals as goal
use Rattle.hg_tracker.proofs.lists.fill_moved.Goals.{else-entry-via-then-entry+else-is_err, else-entry-via-else-entry}

pub unreachable-requires : goal.unreachable-requires
unreachable-requires c = let most = moved_most (take c.loop-entry.entry-index c.args.ranked.now) in search rules

pub loop-entry-preserved : goal.loop-entry-preserved
loop-entry-preserved c =
    let i = c.loop-entry.entry-index in
    elim c.else-entry.branch [
      | else-entry-via-then-entry+else-is_err w ↦ (
        ap (λ (v : Vec Entry Global). v.items) w.moved-is ∙ (pushed _ _ w.push.new.self.items _ _ w.push.ensures.items w.is_err.ensures.negation w.if-is_err.false ∙
            appended c.loop-entry.moved.items _ _ _ c.loop-entry.invariant.0 (keeps_next (λ (e : Entry). e.moved) c.args.ranked.now i _ c.loop-entry-test.true w.if-entry.true)),
        search rules,
      )
      | else-entry-via-else-entry w ↦ (ap (λ (v : Vec Entry Global). v.items) w.moved-is ∙ (c.loop-entry.invariant.0 ∙ sym (drops_next (λ (e : Entry). e.moved) c.args.ranked.now i _ c.loop-entry-test.true w.if-entry.false)), search rules)
    ]
