use Rattle.std.proofs.Common.{◌∙◌, sym}
use Rattle.hg_base.proofs.ListFacts.{false_true}
use Rattle.hg_audit.proofs.freshness.is_fresh.Goals as goal

pub returns-then-not-is_rising : goal.returns-then-not-is_rising
returns-then-not-is_rising c =
    λ mode h all earlier command many points before.
    (λ e. absurd (false_true e), λ f. absurd (false_true (sym c.if-not-is_rising.true ∙ (c.is_rising.ensures earlier before).1 f.rising)))

pub returns-then-not-is_exact_on_replay : goal.returns-then-not-is_exact_on_replay
returns-then-not-is_exact_on_replay c =
    λ mode h all earlier command many points before.
    (λ e. absurd (false_true e), λ f. absurd (false_true (sym c.if-not-is_exact_on_replay.true ∙ (c.is_exact_on_replay.ensures mode earlier command before).1 f.exact)))

pub returns : goal.returns
returns c =
    λ mode h all earlier command many points before.
    let d = c.gives_order.ensures h all earlier many points before in (
      λ e. record {
        rising = (c.is_rising.ensures earlier before).0 c.if-not-is_rising.false;
        exact = (c.is_exact_on_replay.ensures mode earlier command before).0 c.if-not-is_exact_on_replay.false;
        report = d.0 e;
      },
      λ f. d.1 f.report,
    )
