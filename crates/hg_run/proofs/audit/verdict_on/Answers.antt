use Rattle.std.proofs.Common.{◌≡◌, rules, subst}
use Rattle.std.specs.Prelude.{◌↔◌}
use Rattle.hg_audit.specs.declared.verdict.Verdict.TheVariants.{Sound}
use Rattle.hg_audit.specs.Verdict.{IsAudit, IsSoundText}
use Rattle.hg_base.specs.Script.{Script}
use Rattle.hg_run.proofs.audit.verdict_on.Goals as goal

pub returns-clause-verdict : goal.returns-clause-verdict
returns-clause-verdict c =
    let text = c.part.result.1.now in
    let verdict = c.in_ok-audit.field-0 in
    record {
      script = c.part.result.0.now;
      text = text;
      parts = c.part.ensures;
      short = search rules;
      valid = c.in_ok-script.ensures.valid;
      audit = subst (λ (s : Script). IsAudit s text verdict) c.in_ok-script.ensures.script c.in_ok-audit.ensures.verdict;
      sound = subst (λ (s : Script). (verdict ≡ Sound) ↔ IsSoundText s text) c.in_ok-script.ensures.script c.in_ok-audit.ensures.sound;
    }
