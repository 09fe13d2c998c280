use Rattle.std.proofs.Common.{rules, ◌≡◌, ℕ, ◌+◌, ◌<◌, length, take, sym, ap, ◌∙◌, subst}
use Rattle.std.proofs.lemmas.List.{take_more_set}
use Rattle.hg_tracker.specs.Entries.{numbers_for, common_numbers}
use Rattle.hg_tracker.specs.Gathers.{AreEmpty, AreListsOf}
use Rattle.hg_tracker.proofs.TableLists.{lists_snoc, empty_snoc}
use Rattle.hg_tracker.proofs.lists.fill_all.Goals as goal

pub loop-table-preserved : goal.loop-table-preserved
loop-table-preserved c =
    let lists = c.loop-table.lists in
    let t : ℕ = c.loop-table.table in
    let inside : t < length lists = search rules in
    let count : 0 + length (take t lists) ≡ t = search rules in (
      subst (AreListsOf 0 (common_numbers c.args.ranked.now) c.args.ranked.now) (sym (take_more_set lists t c.fill_own.new.list inside))
          (lists_snoc 0 (common_numbers c.args.ranked.now) c.args.ranked.now (take t lists) c.fill_own.new.list c.loop-table.invariant.0 (c.fill_own.ensures.items ∙
          ap (λ n. numbers_for n c.args.ranked.now) (sym count))),
      search rules,
      search rules,
      λ none. subst AreEmpty (sym (take_more_set lists t c.fill_own.new.list inside)) (empty_snoc (take t lists) c.fill_own.new.list (c.loop-table.invariant.3 none) (c.fill_own.ensures.none none)),
    )
