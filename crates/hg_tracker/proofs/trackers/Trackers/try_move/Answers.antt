use Rattle.std.proofs.Common.{rules, ◌≡◌, true, false, Option, Some, refl, sym, subst}
use Rattle.std.specs.Prelude.{ℕ}
use Rattle.hg_core.specs.declared.register.Register.TheVariants.{Live}
use Rattle.hg_core.specs.Passes.{found}
use Rattle.hg_rule.specs.Views.{pass}
use Rattle.hg_rule.specs.Seats.{pass_view}
use Rattle.hg_rule.specs.Steps.{HasRegister, Moves}
use Rattle.hg_tracker.specs.Gathers.{StandsAt}
use Rattle.hg_tracker.specs.Boards.{board_sizes}
use Rattle.hg_tracker.proofs.Entries.{found_session, full_found, movable_found}
use Rattle.hg_tracker.proofs.Tries.{noted_moved, loaded_moved}
use Rattle.hg_tracker.proofs.trackers.Trackers.try_move.Goals as goal

-- what was loaded of the entry's session
one : (c : goal.After-move_one-arg-1) → (mask : Option ℕ) × (found c.args.entry.session (pass (pass_view c.args.pass.now)).loaded ≡ Some
    (record { register = Live c.args.entry.number true false; mask = mask }))
one c =
    let loaded = (pass (pass_view c.args.pass.now)).loaded in
    movable_found (board_sizes c.args.self.now).sessions loaded c.args.position c.args.entry c.requires.loaded
    (subst (StandsAt c.args.position c.args.entry) c.requires.noted.2 c.requires.position) c.requires.movable.0 c.requires.movable.1

pub move_one-moved-requires-clause-loaded : goal.move_one-moved-requires-clause-loaded
move_one-moved-requires-clause-loaded c = subst (HasRegister (Live c.args.entry.number true false)) (sym (one c).1) refl

pub move_one-moved-requires-clause-session : goal.move_one-moved-requires-clause-session
move_one-moved-requires-clause-session c = found_session (board_sizes c.args.self.now).sessions c.args.entry.session _ (pass (pass_view c.args.pass.now)).loaded c.requires.loaded.0 (one c).1

pub move_one-moved-requires-clause-movable : goal.move_one-moved-requires-clause-movable
move_one-moved-requires-clause-movable c = (tt, (full_found c.args.entry.session _ (pass (pass_view c.args.pass.now)).loaded c.requires.loaded.1 (one c).1).0)

pub returns-then-moved-clause-noted : goal.returns-then-moved-clause-noted
returns-then-moved-clause-noted c =
    let v = pass_view c.args.pass.now in
    let w = pass_view c.move_one-moved.new.pass in
    let e = c.args.entry in
    let is : Moves v e.session e.number true w = subst (λ b. Moves v e.session e.number b w) c.if-moved.true c.move_one-moved.ensures.step in
    let same : c.index_mut.result.now ≡ e = search rules in
    noted_moved (board_sizes c.args.self.now).sessions v w c.args.gathered.now c.args.position e c.index_mut.result.now same c.requires.noted c.requires.loaded.0 c.requires.position is

pub returns-then-moved-clause-loaded : goal.returns-then-moved-clause-loaded
returns-then-moved-clause-loaded c =
    let v = pass_view c.args.pass.now in
    let w = pass_view c.move_one-moved.new.pass in
    let e = c.args.entry in
    let there = movable_found (board_sizes c.args.self.now).sessions (pass v).loaded c.args.position e c.requires.loaded
    (subst (StandsAt c.args.position e) c.requires.noted.2 c.requires.position) c.requires.movable.0 c.requires.movable.1 in
    loaded_moved (board_sizes c.args.self.now).sessions v w e.session e.number there.0 there.1 c.requires.loaded
    (subst (λ b. Moves v e.session e.number b w) c.if-moved.true c.move_one-moved.ensures.step)
