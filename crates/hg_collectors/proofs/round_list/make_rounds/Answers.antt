use Rattle.std.proofs.Common.{◌≤◌, ◌+◌, [], ◌∷◌, ◌++◌, length, length-append, sym, ap, ◌∙◌, subst}
use Rattle.hg_base.proofs.ListFacts.{false_true}
use Rattle.hg_collectors.specs.Lent.{lent_sizes}
use Rattle.hg_collectors.specs.Rounding.{IsRoundBy, AreRounds}
use Rattle.hg_collectors.proofs.Driving.{rounds_append, one_round}
use Rattle.hg_collectors.proofs.Meetings.{met_none}
use Rattle.hg_collectors.proofs.round_list.make_rounds.Goals as goal

pub loop-round-init : goal.loop-round-init
loop-round-init g c = record {
  own = c.requires.own;
  made = subst (λ sweeps. AreRounds (IsRoundBy g.C.Worker.kind (lent_sizes c.args.lent.now) c.args.plan.now.long) (g.C.Worker.view_of c.args.collector.now) sweeps
      (g.C.Worker.view_of c.args.collector.now)) (sym c.requires.places.none) (met_none (g.C.Worker.view_of c.args.collector.now));
  count = ap (λ sweeps. length sweeps) c.requires.places.none;
  room = c.requires.places.room;
  willing = c.requires.places.willing;
}

pub loop-round-preserved : goal.loop-round-preserved
loop-round-preserved g c =
    let inv = c.loop-round.invariant in
    let P = IsRoundBy g.C.Worker.kind (lent_sizes c.args.lent.now) c.args.plan.now.long in
    let v = g.C.Worker.view_of c.args.collector.now in
    let u = g.C.Worker.view_of c.loop-round.collector in
    let w = g.C.Worker.view_of c.make_round.new.self in
    let items = c.push_reserved.ensures.items in
    record {
      own = c.make_round.ensures.own;
      made = subst (λ sweeps. AreRounds P v sweeps w) (sym items) (rounds_append P v u w c.loop-round.told.sweeps.items (c.in-Ok.sweep ∷ []) inv.made
          (one_round P u w c.in-Ok.sweep c.in-Ok.ensures.round));
      count = ap (λ sweeps. length sweeps) items ∙ (length-append c.loop-round.told.sweeps.items (c.in-Ok.sweep ∷ []) ∙ ap (λ n. n + 1) inv.count);
      room = subst (λ n. c.args.plan.now.rounds ≤ n) (sym c.push_reserved.ensures.capacity) inv.room;
      willing = inv.willing;
    }

pub returns-in_default-clause-made : goal.returns-in_default-clause-made
returns-in_default-clause-made g c =
    let inv = c.loop-round.invariant in
    let P = IsRoundBy g.C.Worker.kind (lent_sizes c.args.lent.now) c.args.plan.now.long in
    let v = g.C.Worker.view_of c.args.collector.now in
    let u = g.C.Worker.view_of c.loop-round.collector in
    let w = g.C.Worker.view_of c.make_round.new.self in
    let made = c.make_round.ensures.made in
    record {
      sweeps = c.loop-round.told.sweeps.items ++ made.0 ∷ [];
      made = rounds_append P v u w c.loop-round.told.sweeps.items (made.0 ∷ []) inv.made (one_round P u w made.0 made.1);
      told_is = λ none. absurd (false_true (sym none));
    }
