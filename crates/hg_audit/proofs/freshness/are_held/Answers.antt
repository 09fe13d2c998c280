use Rattle.std.proofs.Common.{◌≡◌, ◌+◌, ◌<◌, ◌≤◌, sym, subst, arith, length, take, drop, get_or, false}
use Rattle.std.proofs.lemmas.List.{get_or_default}
use Rattle.hg_base.specs.declared.report.Told.{Told}
use Rattle.hg_base.specs.Lists.{Ascends, Each}
use Rattle.hg_base.specs.Freshness.{IsHeld}
use Rattle.hg_base.proofs.ListFacts.{false_true, each_snoc}
use Rattle.hg_known.proofs.Walking.{at_line}
use Rattle.hg_audit.proofs.Holding.{sessions, IsLeast, ascends_below, ascends_push, all_below, least_push}
use Rattle.hg_audit.proofs.freshness.are_held.Goals as goal

pub returns-then-session-least : goal.returns-then-session-least
returns-then-session-least c =
    λ all points.
    let held = c.args.held.now in
    let k = c.loop-k.k in
    let less : k < length held = omega arith in
    let t : Told = get_or held k (record { session = 0; number = 0; moved = false }) in
    let at = at_line held k t less (get_or_default held k (record { session = 0; number = 0; moved = false }) t less) in (
      λ e. absurd (false_true e),
      λ p.
          let below = ascends_below (take k held) (drop (k + 1) held) t (subst (λ h. Ascends (sessions h)) at.all p.0) in
          let most = c.loop-k.invariant.least.1 t.session below in
          absurd (omega (arith, most, c.if-session-least.true, c.from-session.ensures)),
    )

pub loop-k-preserved : goal.loop-k-preserved
loop-k-preserved c =
    let held = c.args.held.now in
    let k = c.loop-k.k in
    let less : k < length held = omega arith in
    let t : Told = get_or held k (record { session = 0; number = 0; moved = false }) in
    let at = at_line held k t less (get_or_default held k (record { session = 0; number = 0; moved = false }) t less) in
    let over : c.loop-k.least ≤ t.session = omega (arith, c.if-session-least.false, c.from-session.ensures) in
    let same : t.session + 1 ≡ c.from-session.result + 1 = omega (arith, c.from-session.ensures) in
    record {
      least = subst (λ n. IsLeast n (take (k + 1) held)) same (subst (IsLeast (t.session + 1)) (sym at.up_to) (least_push (take k held) t c.loop-k.least c.loop-k.invariant.least over));
      ascend = subst (λ h. Ascends (sessions h)) (sym at.up_to)
          (ascends_push (take k held) t c.loop-k.invariant.ascend (all_below (take k held) c.loop-k.least t.session over c.loop-k.invariant.least.0));
      each = λ all points. subst (Each (IsHeld all)) (sym at.up_to)
          (each_snoc (IsHeld all) (take k held) t (c.loop-k.invariant.each all points) ((c.is_held.ensures all (points (omega (arith, less)))).0 c.if-not-is_held.false));
    }
