use Rattle.std.proofs.Common.{◌<◌, length, subst, arith}
use Rattle.std.specs.Prelude.{filter_map, Decides}
use Rattle.hg_base.specs.Lists.{Each, Ascends}
use Rattle.hg_base.specs.Freshness.{mark_of, IsHeld}
use Rattle.hg_base.proofs.ListFacts.{false_true}
use Rattle.hg_known.proofs.Fresher.{each_within, within_each}
use Rattle.hg_audit.proofs.Holding.{sessions}
use Rattle.hg_audit.proofs.freshness.is_reported.Goals as goal

pub returns-then-mark-sweep : goal.returns-then-mark-sweep
returns-then-mark-sweep c =
    λ h all earlier many points before.
    let sweep = c.args.sweep.now in
    let most = c.mark.ensures earlier before in
    (λ e. absurd (false_true e), λ r. let within = within_each sweep.mark (filter_map (mark_of sweep.kind) earlier) r.rising in absurd (omega (arith, within, most, c.if-mark-sweep.true)))

pub returns : goal.returns
returns c =
    λ h all earlier many points before.
    let sweep = c.args.sweep.now in
    let most = c.mark.ensures earlier before in
    let d = subst (λ held. Decides c.are_held.result (Ascends (sessions held) × Each (IsHeld all) held)) c.as_slice.ensures
    (c.are_held.ensures all (λ some. points (subst (λ held. 0 < length held) c.as_slice.ensures some))) in (
      λ e. record {
        rising = each_within sweep.mark (filter_map (mark_of sweep.kind) earlier) (omega (arith, most, c.if-mark-sweep.false));
        horizon = c.if-sweep.false;
        mark = omega (arith, many, c.if-sweep-groups.false);
        sessions = (d.0 e).0;
        held = (d.0 e).1;
      },
      λ r. d.1 (r.sessions, r.held),
    )
