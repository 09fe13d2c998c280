use Rattle.std.proofs.Common.{rules, ℕ, ◌∙◌, map, take, sym, ap, Vec}
use Rattle.std.specs.declared.alloc.Global.{Global}
use Rattle.hg_base.specs.declared.report.Entry.{Entry}
use Rattle.hg_tracker.specs.Entries.{counts_for}
use Rattle.hg_tracker.proofs.TableLists.{numbers_most, keeps_number, drops_next, pushed, appended}
use Rattle.hg_tracker.proofs.lists.fill.Goals as goal
use Rattle.hg_tracker.proofs.lists.fill.Goals.{else-counts-via-then-counts+else-is_err, else-counts-via-else-counts}

pub unreachable-requires : goal.unreachable-requires
unreachable-requires c = let most = numbers_most c.args.table (take c.loop-entry.entry-index c.args.ranked.now) in search rules

pub loop-entry-preserved : goal.loop-entry-preserved
loop-entry-preserved c =
    let i = c.loop-entry.entry-index in
    elim c.else-counts.branch [
      | else-counts-via-then-counts+else-is_err w ↦ (
        ap (λ (v : Vec ℕ Global). v.items) w.list-is ∙ (pushed _ _ w.push.new.self.items _ _ w.push.ensures.items w.is_err.ensures.negation w.if-is_err.false ∙
            appended c.loop-entry.list.items _ _ _ c.loop-entry.invariant.0 (keeps_number (counts_for c.args.table) c.args.ranked.now i _ c.loop-entry-test.true (sym c.counts.ensures ∙ w.if-counts.true))),
        search rules,
      )
      | else-counts-via-else-counts w ↦ (ap (λ (v : Vec ℕ Global). v.items) w.list-is ∙ (c.loop-entry.invariant.0 ∙ sym (ap (map (λ (e : Entry). e.number)) (drops_next (counts_for c.args.table) c.args.ranked.now i _ c.loop-entry-test.true (sym c.counts.ensures ∙ w.if-counts.false)))), search rules)
    ]
