use Rattle.std.proofs.Common.{◌≡◌, ◌+◌, ◌≤◌, List, [], length, arith, sym, ap, ◌∙◌, subst}
use Rattle.hg_rule.specs.declared.view.Part.{Part}
use Rattle.hg_rule.specs.Views.{pass, seeing}
use Rattle.hg_rule.specs.Seats.{pass_view}
use Rattle.hg_rule.specs.Rounds.{entries_of}
use Rattle.hg_tracker.specs.Gathers.{IsNotedOf}
use Rattle.hg_tracker.specs.Begun.{HasLoaded}
use Rattle.hg_tracker.specs.Boards.{board_sizes}
use Rattle.hg_tracker.proofs.Made.{made_itself, made_again}
use Rattle.hg_tracker.proofs.TableLists.{entries_most}
use Rattle.hg_tracker.proofs.After.{loads_none, keys_length, none_past, gathered_of, whole_of, noted_one}
use Rattle.hg_tracker.proofs.trackers.Trackers.gather.Goals as goal

pub load-loaded-requires-clause-fresh : goal.load-loaded-requires-clause-fresh
load-loaded-requires-clause-fresh c = none_past c.loop-j.j (c.loop-j.j + 1) (pass (pass_view c.loop-j.pass)).loaded c.loop-j.invariant.0.keys (omega arith)

pub loop-j-init : goal.loop-j-init
loop-j-init c =
    let none = loads_none (pass_view c.args.pass.now) (pass_view c.mark-mark.new.pass) c.mark-mark.result c.mark-mark.ensures.step in
    (none.0, subst (λ l. IsNotedOf c.mark-mark.result l c.start.new.self) (sym none.1) c.start.ensures.noted, c.start.ensures.made _ _ c.requires.made, c.mark-mark.ensures.own)

-- the entries are at most as many as the registers
few : (c : goal.After-note-arg-1) → length c.loop-j.into.entries.items ≤ c.loop-j.j
few c =
    let loaded = (pass (pass_view c.loop-j.pass)).loaded in
    omega (arith, ap length c.loop-j.invariant.1.2, entries_most loaded, keys_length loaded c.loop-j.j c.loop-j.invariant.0.keys)

pub note-requires : goal.note-requires
note-requires c = record { room = let made = (c.start.ensures.made _ _ c.requires.made).0 in omega (arith, few c, made, c.loop-j.invariant.2.3, c.loop-j-test.true, c.loop-j.auto.j-end) }

pub loop-j-preserved : goal.loop-j-preserved
loop-j-preserved c =
    let both = noted_one (pass_view c.args.pass.now) (pass_view c.loop-j.pass) (pass_view c.load-loaded.new.pass) c.mark-mark.result c.loop-j.j
    (c.loop-j.j + 1) c.load-loaded.result c.loop-j.into c.note.new.self
    (omega arith) c.loop-j.invariant.0 c.load-loaded.ensures.step c.load-loaded.ensures.full c.loop-j.invariant.1 c.note.ensures.mark c.note.ensures.horizon c.note.ensures.entries in
    (both.0, both.1, c.note.ensures.made _ _ c.loop-j.invariant.2, c.load-loaded.ensures.own)

pub sum_up-requires-clause-room : goal.sum_up-requires-clause-room
sum_up-requires-clause-room c =
    let loaded = (pass (pass_view c.loop-j.pass)).loaded in
    let l = entries_most loaded in
    let k = keys_length loaded c.loop-j.j c.loop-j.invariant.0.keys in
    let e : length c.loop-j.into.entries.items ≡ length (entries_of loaded) = ap length c.loop-j.invariant.1.2 in
    omega (arith, (c.start.ensures.made _ _ c.requires.made).0, c.loop-j.invariant.2.0, c.loop-j.auto.j-end)

all_loaded : (c : goal.After-sum_up) → HasLoaded (pass_view c.args.pass.now) c.mark-mark.result (board_sizes c.args.self.now).sessions (pass (pass_view c.loop-j.pass)).loaded (pass_view c.loop-j.pass)
all_loaded c =
    let made = (c.start.ensures.made _ _ c.requires.made).0 in
    let end : c.loop-j.j ≡ (board_sizes c.args.self.now).sessions = omega (arith, made, c.loop-j.auto.j-end, c.loop-j-test.false) in
    subst (λ n. HasLoaded (pass_view c.args.pass.now) c.mark-mark.result n (pass (pass_view c.loop-j.pass)).loaded (pass_view c.loop-j.pass)) end c.loop-j.invariant.0

pub returns-clause-gathered : goal.returns-clause-gathered
returns-clause-gathered c = gathered_of (pass_view c.args.pass.now) (pass_view c.loop-j.pass) c.mark-mark.result (board_sizes c.args.self.now).sessions (all_loaded c)

pub returns-clause-whole : goal.returns-clause-whole
returns-clause-whole c = whole_of (pass_view c.args.pass.now) (pass_view c.loop-j.pass) c.mark-mark.result (board_sizes c.args.self.now).sessions (all_loaded c)

pub load-loaded-requires-clause-own : goal.load-loaded-requires-clause-own
load-loaded-requires-clause-own c = c.loop-j.invariant.3

pub sum_up-requires-clause-made : goal.sum_up-requires-clause-made
sum_up-requires-clause-made c = made_itself (board_sizes c.args.self.now).sessions (board_sizes c.args.self.now).tables c.loop-j.into c.loop-j.invariant.2

pub returns-clause-shown : goal.returns-clause-shown
returns-clause-shown c =
    let w = pass_view c.loop-j.pass in
    let l = all_loaded c in
    let mark : (pass w).mark ≡ c.mark-mark.result = ap (λ (ps : List Part). (pass (seeing ps [] [])).mark) l.parts in
    let same = c.sum_up.ensures.noted in
    let noted = c.loop-j.invariant.1 in
    record {
      noted = subst (λ n. IsNotedOf n (pass w).loaded c.sum_up.new.self) (sym mark) (same.0 ∙ noted.0, same.1 ∙ noted.1, same.2 ∙ noted.2);
      loaded = (l.keys, l.registers);
      shuffled = c.sum_up.ensures.shuffled;
      rises = c.sum_up.ensures.rises;
      lists = c.sum_up.ensures.lists;
    }

pub returns-clause-made : goal.returns-clause-made
returns-clause-made c = made_again (board_sizes c.args.self.now).sessions (board_sizes c.args.self.now).tables c.loop-j.into c.sum_up.new.self
    c.loop-j.invariant.2 c.sum_up.ensures.made

pub returns-clause-own : goal.returns-clause-own
returns-clause-own c = c.loop-j.invariant.3
