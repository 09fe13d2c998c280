use Rattle.std.proofs.Common.{◌≤◌, ℕ, length, vec_capacity, Vec, sym, ap, subst}
use Rattle.std.proofs.lemmas.List.Elements.{All-nil, All-same}
use Rattle.std.specs.declared.alloc.Global.{Global}
use Rattle.hg_tracker.specs.Gathers.{AreEmpty}
use Rattle.hg_tracker.proofs.TableLists.{one_list_more}
use Rattle.hg_tracker.proofs.gathered.empty_lists.Goals as goal

pub loop-init : goal.loop-init
loop-init c =
    let none = c.in_ok-lists.ensures.items in
    let room : Vec ℕ Global → Type 0 = λ list. c.args.sessions ≤ vec_capacity list in
    (ap length none, All-same room c.in_ok-lists.lists.items _ none (All-nil room), subst AreEmpty (sym none) tt)

pub loop-preserved : goal.loop-preserved
loop-preserved c = one_list_more c.args.sessions c.loop.counter c.loop.lists.items c.push.new.self.items c.in_ok-list.list
    c.in_ok-push.ensures.items c.in_ok-list.ensures.capacity c.in_ok-list.ensures.items c.loop.invariant
