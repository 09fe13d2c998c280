use Rattle.std.proofs.Common.{◌≡◌, ◌≢◌, ◌+◌, refl, sym, subst, arith}
use Rattle.std.specs.Prelude.{IfOk}
use Rattle.hg_base.specs.declared.report.Kind.{Kind}
use Rattle.hg_base.specs.declared.report.Kind.TheVariants as kinds
use Rattle.hg_collectors.specs.GroupCollectors as group
use Rattle.hg_rounds.specs.TableCollectors as table
use Rattle.hg_collectors.specs.Workers as interval
use Rattle.hg_collectors.specs.Lent.{lent_board_id, lent_sizes}
use Rattle.hg_collectors.specs.Collecting.{removed_of, view_in}
use Rattle.hg_collectors.specs.Rounding.{IsRoundBy}
use Rattle.hg_collectors.specs.Swept.{HasSwept, swept_by}
use Rattle.hg_collectors.proofs.Among.{by_kind, if_ok}
use Rattle.hg_collectors.proofs.Driving.{swept_of, told_swept, removed_group, removed_table, removed_interval}
use Rattle.hg_collectors.proofs.Meetings.{lone_swept}
use Rattle.hg_collectors.proofs.Teams.{worker_pass}
use Rattle.hg_collectors.proofs.collectors.Collectors.collect.Goals as goal

pub returns-in-Group-clause-round : goal.returns-in-Group-clause-round
returns-in-Group-clause-round g c =
    let z = lent_sizes c.args.lent.now in
    let old = c.args.self.now in
    let new = record old { group = c.make_round.new.self } in
    subst (λ kind. IfOk c.make_round.result (λ sweep. IsRoundBy kind z c.args.long (view_in kind old) sweep (view_in kind new))) (sym c.in-Group.is) c.make_round.ensures.round

pub returns-in-Group-clause-others : goal.returns-in-Group-clause-others
returns-in-Group-clause-others g c =
    let old = c.args.self.now in
    let new = record old { group = c.make_round.new.self } in
    by_kind (λ k. k ≢ c.args.kind → view_in k new ≡ view_in k old) (λ apart. absurd (apart (sym c.in-Group.is))) (λ apart. refl) (λ apart. refl)

pub returns-in-Table-clause-round : goal.returns-in-Table-clause-round
returns-in-Table-clause-round g c =
    let z = lent_sizes c.args.lent.now in
    let old = c.args.self.now in
    let new = record old { table = c.make_round-in-Table.new.self } in
    subst (λ kind. IfOk c.make_round-in-Table.result (λ sweep. IsRoundBy kind z c.args.long (view_in kind old) sweep (view_in kind new))) (sym c.in-Table.is) c.make_round-in-Table.ensures.round

pub returns-in-Table-clause-others : goal.returns-in-Table-clause-others
returns-in-Table-clause-others g c =
    let old = c.args.self.now in
    let new = record old { table = c.make_round-in-Table.new.self } in
    by_kind (λ k. k ≢ c.args.kind → view_in k new ≡ view_in k old) (λ apart. refl) (λ apart. absurd (apart (sym c.in-Table.is))) (λ apart. refl)

pub returns-in-Interval-clause-round : goal.returns-in-Interval-clause-round
returns-in-Interval-clause-round g c =
    let z = lent_sizes c.args.lent.now in
    let old = c.args.self.now in
    let new = record old { interval = c.sweep_round.new.worker } in
    subst (λ kind. IfOk c.sweep_round.result (λ sweep. IsRoundBy kind z c.args.long (view_in kind old) sweep (view_in kind new))) (sym c.in-Interval.is) c.sweep_round.ensures.round

pub returns-in-Interval-clause-others : goal.returns-in-Interval-clause-others
returns-in-Interval-clause-others g c =
    let old = c.args.self.now in
    let new = record old { interval = c.sweep_round.new.worker } in
    by_kind (λ k. k ≢ c.args.kind → view_in k new ≡ view_in k old) (λ apart. refl) (λ apart. refl) (λ apart. absurd (apart (sym c.in-Interval.is)))

pub returns-in-Group-clause-swept : goal.returns-in-Group-clause-swept
returns-in-Group-clause-swept g c =
    let z = lent_sizes c.args.lent.now in
    let old = c.args.self.now in
    let new = c.make_round.new.self in
    subst (λ kind. IfOk c.make_round.result (λ sweep. HasSwept kind z.sessions (view_in kind old) sweep (view_in kind (record old { group = new })))) (sym c.in-Group.is)
    (told_swept kinds.Group z c.args.long (view_in kinds.Group old) (group.view_of new) c.make_round.result c.make_round.ensures.round)

pub returns-in-Group-clause-removed : goal.returns-in-Group-clause-removed
returns-in-Group-clause-removed g c =
    let z = lent_sizes c.args.lent.now in
    let old = c.args.self.now in
    let new = c.make_round.new.self in
    if_ok (λ sweep. IsRoundBy kinds.Group z c.args.long (view_in kinds.Group old) sweep (group.view_of new)) (λ sweep. (k : Kind) →
    removed_of k (record old { group = new }) ≡ removed_of k old + swept_by k sweep) c.make_round.result (λ sweep round. removed_group z c.args.long old new sweep round) c.make_round.ensures.round

pub returns-in-Table-clause-swept : goal.returns-in-Table-clause-swept
returns-in-Table-clause-swept g c =
    let z = lent_sizes c.args.lent.now in
    let old = c.args.self.now in
    let new = c.make_round-in-Table.new.self in
    subst (λ kind. IfOk c.make_round-in-Table.result (λ sweep. HasSwept kind z.sessions (view_in kind old) sweep (view_in kind (record old { table = new })))) (sym c.in-Table.is)
    (told_swept kinds.Table z c.args.long (view_in kinds.Table old) (table.view_of new) c.make_round-in-Table.result c.make_round-in-Table.ensures.round)

pub returns-in-Table-clause-removed : goal.returns-in-Table-clause-removed
returns-in-Table-clause-removed g c =
    let z = lent_sizes c.args.lent.now in
    let old = c.args.self.now in
    let new = c.make_round-in-Table.new.self in
    if_ok (λ sweep. IsRoundBy kinds.Table z c.args.long (view_in kinds.Table old) sweep (table.view_of new)) (λ sweep. (k : Kind) →
    removed_of k (record old { table = new }) ≡ removed_of k old + swept_by k sweep) c.make_round-in-Table.result
    (λ sweep round. removed_table z c.args.long old new sweep round) c.make_round-in-Table.ensures.round

pub returns-in-Interval-clause-swept : goal.returns-in-Interval-clause-swept
returns-in-Interval-clause-swept g c =
    let z = lent_sizes c.args.lent.now in
    let old = c.args.self.now in
    let new = c.sweep_round.new.worker in
    subst (λ kind. IfOk c.sweep_round.result (λ sweep. HasSwept kind z.sessions (view_in kind old) sweep (view_in kind (record old { interval = new })))) (sym c.in-Interval.is)
    (told_swept kinds.Interval z c.args.long (view_in kinds.Interval old) (interval.view_of new) c.sweep_round.result c.sweep_round.ensures.round)

pub returns-in-Interval-clause-removed : goal.returns-in-Interval-clause-removed
returns-in-Interval-clause-removed g c =
    let z = lent_sizes c.args.lent.now in
    let old = c.args.self.now in
    let new = c.sweep_round.new.worker in
    if_ok (λ sweep. IsRoundBy kinds.Interval z c.args.long (view_in kinds.Interval old) sweep (interval.view_of new)) (λ sweep. (k : Kind) →
    removed_of k (record old { interval = new }) ≡ removed_of k old + swept_by k sweep) c.sweep_round.result
    (λ sweep round. removed_interval z c.args.long old new sweep round) c.sweep_round.ensures.round

pub returns-in-Group-clause-own : goal.returns-in-Group-clause-own
returns-in-Group-clause-own g c =
    let t = lent_board_id c.args.lent.now in
    let z = lent_sizes c.args.lent.now in
    let old = c.args.self.now in
    let new = c.make_round.new.self in
    let own = c.requires.own in
    let made = c.make_round.ensures.made in
    let swept = swept_of kinds.Group z c.args.long (group.view_of old.group) (group.view_of new) made.0 made.1 in
    record {
      group_is = c.make_round.ensures.own;
      table_is = own.table_is;
      interval_is = own.interval_is;
      alone = record {
        group = lone_swept t 0 kinds.Group z.sessions made.0 (group.pass_of old.group) (group.pass_of new) own.alone.group c.make_round.ensures.own.0.0 swept;
        table = own.alone.table;
        interval = own.alone.interval;
      };
    }

pub returns-in-Table-clause-own : goal.returns-in-Table-clause-own
returns-in-Table-clause-own g c =
    let t = lent_board_id c.args.lent.now in
    let z = lent_sizes c.args.lent.now in
    let old = c.args.self.now in
    let new = c.make_round-in-Table.new.self in
    let own = c.requires.own in
    let made = c.make_round-in-Table.ensures.made in
    let swept = swept_of kinds.Table z c.args.long (table.view_of old.table) (table.view_of new) made.0 made.1 in
    record {
      group_is = own.group_is;
      table_is = c.make_round-in-Table.ensures.own;
      interval_is = own.interval_is;
      alone = record {
        group = own.alone.group;
        table = lone_swept t 1 kinds.Table z.sessions made.0 (table.pass_of old.table) (table.pass_of new) own.alone.table c.make_round-in-Table.ensures.own.0 swept;
        interval = own.alone.interval;
      };
    }

pub returns-in-Interval-clause-own : goal.returns-in-Interval-clause-own
returns-in-Interval-clause-own g c =
    let t = lent_board_id c.args.lent.now in
    let z = lent_sizes c.args.lent.now in
    let old = c.args.self.now in
    let new = c.sweep_round.new.worker in
    let own = c.requires.own in
    let made = c.sweep_round.ensures.made in
    let swept = swept_of kinds.Interval z 0 (interval.view_of old.interval) (interval.view_of new) made.0 made.1 in
    record {
      group_is = own.group_is;
      table_is = own.table_is;
      interval_is = c.sweep_round.ensures.own;
      alone = record {
        group = own.alone.group;
        table = own.alone.table;
        interval = lone_swept t 2 kinds.Interval z.sessions made.0 (interval.pass_of old.interval) (interval.pass_of new) own.alone.interval (worker_pass t z new c.sweep_round.ensures.own) swept;
      };
    }

pub returns-in-Group-clause-kept : goal.returns-in-Group-clause-kept
returns-in-Group-clause-kept g c k =
    let made = c.make_round.ensures.made in
    let e = removed_group (lent_sizes c.args.lent.now) c.args.long c.args.self.now c.make_round.new.self made.0 made.1 k in
    omega (arith, e)

pub returns-in-Table-clause-kept : goal.returns-in-Table-clause-kept
returns-in-Table-clause-kept g c k =
    let made = c.make_round-in-Table.ensures.made in
    let e = removed_table (lent_sizes c.args.lent.now) c.args.long c.args.self.now c.make_round-in-Table.new.self made.0 made.1 k in
    omega (arith, e)

pub returns-in-Interval-clause-kept : goal.returns-in-Interval-clause-kept
returns-in-Interval-clause-kept g c k =
    let made = c.sweep_round.ensures.made in
    let e = removed_interval (lent_sizes c.args.lent.now) 0 c.args.self.now c.sweep_round.new.worker made.0 made.1 k in
    omega (arith, e)
