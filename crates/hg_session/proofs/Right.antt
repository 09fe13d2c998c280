-- A reply that a view has heard, once some state backs that view.
use Rattle.std.proofs.Common.{◌≡◌, inl, inr, ℕ, ◌<◌, List, ◌++◌, sym, ap, ◌∙◌, subst, append-nil}
use Rattle.hg_base.specs.declared.line.Reply.{Reply}
use Rattle.hg_base.specs.declared.statement.Statement.{Statement}
use Rattle.hg_base.specs.Lists.{Each}
use Rattle.hg_base.specs.Transcript.{Said}
use Rattle.hg_base.proofs.ListFacts.{each_keeps}
use Rattle.hg_core.specs.declared.log.LogEntry.{LogEntry}
use Rattle.hg_core.specs.Answered.{StandsAt, IsAnswered}
use Rattle.hg_core.specs.Reading.{Fits, log_after}
use Rattle.hg_core.specs.State.{CoreState}
use Rattle.hg_core.proofs.Answering.{answered}
use Rattle.hg_rule.specs.declared.view.Sight.{Sight}
use Rattle.hg_rule.specs.declared.view.Sight.TheVariants.{Saw, Heard, Took, Did}
use Rattle.hg_rule.specs.declared.view.Sizes.{Sizes}
use Rattle.hg_rule.specs.declared.view.View.{View}
use Rattle.hg_rule.specs.Facts.{EndsWith, Known, IsHeard}
use Rattle.hg_rule.specs.Rules.{IsBacked}
use Rattle.hg_rule.specs.Views.{number, session}
use Rattle.hg_headline.specs.Logged.{Logged}
use Rattle.hg_headline.proofs.OverBuckets.{state_logged}
use Rattle.hg_session.specs.Replies.{Answers}
use Rattle.hg_session.specs.Right.{GoesOnFrom, IsRight}
use Rattle.hg_session.proofs.Placed.{known_sight}

goes_on : (s : CoreState) (x : Sight) → Known s x → GoesOnFrom s.history s.log x
goes_on s (Saw h) k = k
goes_on s (Heard j log) k = k
goes_on s (Took n) k = tt
goes_on s (Did e) k = tt

-- a log that was heard is the older part of the state's
heard_ends : (s : CoreState) (j : ℕ) (log : List LogEntry) (sights : List Sight) → Each (Known s) sights → IsHeard j log sights → EndsWith (s.log j) log
heard_ends s j log sights known (inl none) = (s.log j, sym (append-nil (s.log j)) ∙ ap (λ l. s.log j ++ l) (sym none))
heard_ends s j log sights known (inr among) = known_sight (Known s) (Heard j log) sights known among

pub is_right : (z : Sizes) (mark : ℕ) (v old new : View) (statement : Statement) (reply : Reply) (now : Said) → 0 < z.buckets → IsBacked z mark v →
    (a : Answers z old statement reply new) → IsHeard (number new) (session new).log v.sights → now.statement ≡ statement → now.reply ≡ reply → StandsAt (number old) (session old).log now
    → IsRight z.buckets v (number old) a.u (session old).log now
is_right z mark v old new statement reply now some backed a heard said replied stands =
    let s = backed.state in
    let j = number old in
    let before = (session old).log in
    let same : s.buckets ≡ z.buckets = backed.sized.buckets in
    let positive : 0 < s.buckets = subst (λ n. 0 < n) (sym same) some in
    let ends = heard_ends s (number new) (session new).log v.sights backed.true_of.sights heard in
    let log : s.log j ≡ ends.0 ++ log_after z.buckets a.u statement reply before = ap s.log (sym a.number_is) ∙ (ends.1 ∙ ap (λ l. ends.0 ++ l) a.log) in
    let grown : s.log j ≡ ends.0 ++ log_after s.buckets a.u now.statement now.reply before = log ∙ (λ i. ends.0 ++ log_after (sym same i) a.u (sym said i) (sym replied i) before) in
    let fits : Fits s.buckets a.u before now.statement now.reply = subst (λ (q : ℕ × (Statement × Reply)). Fits q.0 a.u before q.1.0 q.1.1) (λ i. (sym same i, (sym said i, sym replied i))) a.fits in
    record {
      history = s.history;
      logs = s.log;
      known = record {
        logged = subst (λ b. Logged b s.history s.log) same (state_logged s backed.steady positive);
        seen = each_keeps (Known s) (GoesOnFrom s.history s.log) (goes_on s) v.sights backed.true_of.sights;
      };
      answered = subst (λ b. IsAnswered b s.history s.log j a.u before now) same (answered s backed.steady positive j ends.0 before a.u now grown fits stands);
    }
