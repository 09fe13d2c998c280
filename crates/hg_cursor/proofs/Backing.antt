-- Histories in which a session's log goes on.
use Rattle.std.proofs.Common.{ℕ, List, [], ◌++◌, sym, ap, ◌∙◌, subst, append_assoc}
use Rattle.hg_base.specs.History.{History}
use Rattle.hg_base.specs.Lists.{Each}
use Rattle.hg_core.specs.declared.log.LogEntry.{LogEntry}
use Rattle.hg_core.specs.Replies.{RepliesAnswer}
use Rattle.hg_rule.specs.declared.view.View.{View}
use Rattle.hg_rule.specs.declared.view.Sizes.{Sizes}
use Rattle.hg_rule.specs.declared.view.SessionPart.{SessionPart}
use Rattle.hg_rule.specs.Facts.{Shown}
use Rattle.hg_rule.specs.Rules.{IsBacked}
use Rattle.hg_rule.specs.Views.{session, HasOnlySession}
use Rattle.hg_cursor.specs.Logs.{Adds, GoesOn}
use Rattle.hg_cursor.proofs.Trips.{added_number, added_session}

pub backing : (z : Sizes) (mark : ℕ) (v : View) (b : IsBacked z mark v) → HasOnlySession v → GoesOn z.buckets v b.state.history b.state.log
backing z mark v b only =
    let parts = subst (Each (Shown b.state)) only b.true_of.parts in record {
      answers = subst (λ n. RepliesAnswer n b.state.history b.state.log) b.sized.buckets b.steady.replies_answer;
      later = ([], parts.0.1.0);
    }

pub earlier : (buckets : ℕ) (v w : View) (entries : List LogEntry) (h : History) (logs : ℕ → List LogEntry) → Adds v entries w → GoesOn buckets w h logs → GoesOn buckets v h logs
earlier buckets v w entries h logs a g =
    let n = added_number v w entries a in
    let s = ap (λ (p : SessionPart). p.log) (added_session v w entries a) in record {
      answers = g.answers;
      later = (g.later.0 ++ entries, ap logs (sym n) ∙ (g.later.1 ∙ (ap (λ l. g.later.0 ++ l) s ∙ sym (append_assoc g.later.0 entries (session v).log))));
    }
