use Rattle.std.proofs.Common.{rules, ◌≡◌, ℕ, ◌<◌, List, [], ◌++◌, length, take, drop, sym, ap, ◌∙◌, subst, arith}
use Rattle.std.specs.Prelude.{All}
use Rattle.hg_rule.specs.declared.passes.CollectorPass.{CollectorPass}
use Rattle.hg_rule.specs.Sharing.{MaySplit}
use Rattle.hg_rule.specs.Views.{pass}
use Rattle.hg_rule.specs.Seats.{board_id, pass_view, IsPassOf}
use Rattle.hg_store.specs.Stores.{store_buckets}
use Rattle.hg_tracker.specs.Boards.{trackers_board_id, board_sizes}
use Rattle.hg_rounds.specs.Rounds.{report_in}
use Rattle.hg_rounds.specs.declared.helper.Helper.{Helper}
use Rattle.hg_rounds.specs.Crew.{IsWilling, Unites}
use Rattle.hg_rounds.specs.Seats.{draws_id, drawn_by}
use Rattle.hg_rounds.specs.Teams.{SweepsBeside, IsShared}
use Rattle.hg_rounds.proofs.Hired.{willing}
use Rattle.hg_rounds.proofs.Rounded.{many_back, places_back, round_made, round_share, round_shared}
use Rattle.hg_rounds.proofs.team.SweepTeam.collect.Given as given
use Rattle.hg_rounds.proofs.team.SweepTeam.collect.Goals as goal

pub retire-removed-requires-clause-back : goal.retire-removed-requires-clause-back
retire-removed-requires-clause-back g c =
    let x = pass_view c.gather.new.pass in
    let same : length c.work.new.helpers ≡ length c.hire.new.helpers.items = search rules in
    let long : c.hire.new.helpers.len ≡ length c.work.new.helpers = search rules in (
      store_buckets c.args.store.now,
      x,
      places_back _ _ _ _ _ _ x _ _ _ _ c.work.new.helpers (sym (ap board_id c.board-board.ensures)) c.hire.ensures.hired c.as_mut_slice.ensures.value same long
          c.work.ensures.helped,
    )

-- what lies in their places
abbrev taken_of : (g : given.Over) → goal.After-rewrite g → List Helper
taken_of g c = take c.hire.new.helpers.len (c.work.new.helpers ++ drop (length c.work.new.helpers) c.hire.new.helpers.items)

-- the helpers are back, as many as there are
began : (g : given.Over) (c : goal.After-rewrite g) → (length (taken_of g c) ≡ c.args.self.now.count) × Unites (board_id c.board-board.result.now) (draws_id c.args.self.now.draws)
    (store_buckets c.args.store.now) (length (taken_of g c)) (pass_view c.gather.new.pass) (taken_of g c) (pass_view c.hire.new.pass) (drawn_by c.hire.new.drawer) 0
began g c =
    let x = pass_view c.gather.new.pass in
    let ids = sym (ap board_id c.board-board.ensures) in
    let value = c.as_mut_slice.ensures.value in
    let same : length c.work.new.helpers ≡ length c.hire.new.helpers.items = search rules in
    let long : c.hire.new.helpers.len ≡ length c.work.new.helpers = search rules in (
      many_back _ _ _ (store_buckets c.args.store.now) _ _ x _ _ _ _ c.work.new.helpers ids c.hire.ensures.hired value same long,
      places_back _ _ _ _ _ _ x _ _ _ _ c.work.new.helpers ids c.hire.ensures.hired value same long c.work.ensures.helped,
    )

pub work-requires-clause-hired : goal.work-requires-clause-hired
work-requires-clause-hired g c κs within =
    let t = board_id c.board-board.result.now in
    let d = draws_id c.args.self.now.draws in
    let z = board_sizes c.args.trackers.now in
    let ids : t ≡ trackers_board_id c.args.trackers.now = ap board_id c.board-board.ensures in
    subst (All (IsWilling (trackers_board_id c.args.trackers.now) d z c.gather.new.into)) (sym c.as_mut_slice.ensures.value)
    (subst (λ b. All (IsWilling b d z c.gather.new.into) c.hire.new.helpers.items) ids
    (willing t d z c.gather.new.into (pass_view c.gather.new.pass) c.hire.new.helpers.items c.gather.ensures.shown c.hire.ensures.hired.each))

pub returns-clause-sweeps : goal.returns-clause-sweeps
returns-clause-sweeps g c =
    let t = board_id c.board-board.result.now in
    let d = draws_id c.args.self.now.draws in
    let z = board_sizes c.args.trackers.now in
    let v = pass_view c.args.self.now.rounds.pass in
    let x = pass_view c.gather.new.pass in
    let w = pass_view c.retire-removed.new.pass in
    let u = c.retire-removed.ensures.united (store_buckets c.args.store.now) x (began g c).1 in
    let n : ℕ = length (taken_of g c) in
    let made : Unites t d z.buckets n x [] w u.0 c.retire-removed.result = subst (λ k. Unites t d k n x [] w u.0 c.retire-removed.result) c.requires.buckets u.1 in
    let some : 0 < n = (let many = (began g c).0 in let least = c.requires.own.some in omega (arith, many, least)) in
    let report = report_in c.rewrite.new.self in
    subst (λ (p : CollectorPass). SweepsBeside z v report (pass_view p)) (sym c.rewrite.ensures.same.0)
    (round_made t d z n v x w u.0 c.retire-removed.result report c.gather.ensures.gathered made some u.2 (c.rewrite.ensures.reports _ _ c.gather.ensures.shown))

pub returns-clause-shared : goal.returns-clause-shared
returns-clause-shared g c =
    let t = board_id c.board-board.result.now in
    let d = draws_id c.args.self.now.draws in
    let z = board_sizes c.args.trackers.now in
    let v = pass_view c.args.self.now.rounds.pass in
    let x = pass_view c.gather.new.pass in
    let w = pass_view c.retire-removed.new.pass in
    let u = c.retire-removed.ensures.united (store_buckets c.args.store.now) x (began g c).1 in
    let n : ℕ = length (taken_of g c) in
    let made : Unites t d z.buckets n x [] w u.0 c.retire-removed.result = subst (λ k. Unites t d k n x [] w u.0 c.retire-removed.result) c.requires.buckets u.1 in
    let some : 0 < n = (let many = (began g c).0 in let least = c.requires.own.some in omega (arith, many, least)) in
    let shared = round_shared t d z n v x w u.0 c.retire-removed.result c.gather.ensures.gathered made some u.2 in
    subst (λ k. IsShared k z.buckets v (drawn_by c.retire-removed.new.drawer).before (pass_view c.rewrite.new.self.pass)) (began g c).0
    (subst (λ (p : CollectorPass). IsShared n z.buckets v (drawn_by c.retire-removed.new.drawer).before (pass_view p)) (sym c.rewrite.ensures.same.0)
    (subst (λ draws. IsShared n z.buckets v draws w) (sym u.3) shared))

pub returns-clause-own : goal.returns-clause-own
returns-clause-own g c =
    let t = board_id c.board-board.result.now in
    let d = draws_id c.args.self.now.draws in
    let z = board_sizes c.args.trackers.now in
    let v = pass_view c.args.self.now.rounds.pass in
    let x = pass_view c.gather.new.pass in
    let w = pass_view c.retire-removed.new.pass in
    let own = c.requires.own in
    let ids : t ≡ trackers_board_id c.args.trackers.now = ap board_id c.board-board.ensures in
    let u = c.retire-removed.ensures.united (store_buckets c.args.store.now) x (began g c).1 in
    let n : ℕ = length (taken_of g c) in
    let made : Unites t d z.buckets n x [] w u.0 c.retire-removed.result = subst (λ k. Unites t d k n x [] w u.0 c.retire-removed.result) c.requires.buckets u.1 in
    let some : 0 < n = (let many = (began g c).0 in let least = c.requires.own.some in omega (arith, many, least)) in
    let share : (pass w).share ≡ (pass v).share = round_share t d z n v x w u.0 c.retire-removed.result c.gather.ensures.gathered made some u.2 in
    record {
      own = c.rewrite.ensures.rounds _ z (subst (λ b. IsPassOf b c.retire-removed.new.pass) ids c.retire-removed.ensures.own.0, (c.gather.ensures.made, own.own.1.1));
      may = subst (MaySplit c.args.self.now.count) (sym (ap (λ (p : CollectorPass). (pass (pass_view p)).share) c.rewrite.ensures.same.0 ∙ share)) own.may;
      some = own.some;
      few = own.few;
      none = c.retire-removed.ensures.none;
      places = search rules;
      drawer = c.retire-removed.ensures.own.1;
      fresh_is = c.retire-removed.ensures.fresh;
    }
