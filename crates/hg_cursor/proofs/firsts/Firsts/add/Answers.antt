use Rattle.std.proofs.Common.{◌∷◌, ◌++◌, [], ap, subst, sym, ◌∙◌}
use Rattle.std.specs.BinaryHeap.{heap_items}
use Rattle.hg_cursor.specs.Firsts.{Copied, AreLeast, IsNeeded}
use Rattle.hg_cursor.proofs.Counting.{still_needed}
use Rattle.hg_cursor.proofs.firsts.Firsts.add.Goals as goal

pub invariant_of-self-2 : goal.invariant_of-self-2
invariant_of-self-2 c =
    let b = c.self.inside in
    let needed = subst (IsNeeded c.args.key) (sym c.self.view_is) c.requires in
    let least = c.in_ok-keep_least.ensures.least b.rows.items c.args.row c.self.invariant.1 needed c.self.invariant.2 in
    let rows = c.push_reserved.ensures.items ∙ ap (λ rs. rs ++ (c.args.key, c.args.row) ∷ []) c.reserve.ensures.items in
    (c.self.invariant.0, c.in_ok-keep_least.ensures.heap c.self.invariant.1, subst (AreLeast b.most (heap_items c.keep_least.new.keys)) (sym rows) least)

pub returns-clause-needed : goal.returns-clause-needed
returns-clause-needed c =
    let rows = c.push_reserved.ensures.items ∙ ap (λ rs. rs ++ (c.args.key, c.args.row) ∷ []) (c.reserve.ensures.items ∙ ap (λ (k : Copied). k.rows) c.self.view_is) in
    still_needed c.args.self.now (record { rows = c.push_reserved.new.self.items; most = c.self.inside.most }) c.args.key c.args.row (ap (λ (k : Copied). k.most) c.self.view_is) rows c.requires
