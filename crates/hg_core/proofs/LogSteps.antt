-- One log grows, or its session's phase changes.
use Rattle.std.proofs.Common.{◌≡◌, ℕ, ◌≤◌, List, length, sym, ◌∙◌, subst}
use Rattle.std.specs.Prelude.{IsTrue}
use Rattle.hg_base.specs.History.{History, group_at}
use Rattle.hg_core.specs.declared.phase.Phase.{Phase}
use Rattle.hg_core.specs.declared.log.LogEntry.{LogEntry}
use Rattle.hg_core.specs.Logs.{current, begans, wrotes, published, has_number, UpTo}
use Rattle.hg_core.specs.Phases.{snapshot_in, MayHaveBegun}
use Rattle.hg_core.specs.Judged.{Judged, UndoesOpen, FixedOver, of_session, LogsAnswer}
use Rattle.hg_core.proofs.Indices.{at_index, Only}

pub log_step : (sessions quota : ℕ) (history : History) (phase phase' : ℕ → Phase) (log log' : ℕ → List LogEntry) (j : ℕ) (p : Phase) (l : List LogEntry)
    → LogsAnswer sessions quota history phase log → Only phase phase' j p → Only log log' j l
    → current l ≡ snapshot_in p
    → MayHaveBegun quota p (begans l)
    → FixedOver p l
    → UpTo (length history) l
    → Judged history l
    → UndoesOpen l
    → wrotes l ≤ quota
    → ((n : ℕ) → published n j l ≡ published n j (log j))
    → ((n : ℕ) → IsTrue (has_number n (log j)) → IsTrue (has_number n l))
    → LogsAnswer sessions quota history phase' log'
log_step sessions quota history phase phase' log log' j p l h op ol reads room fixed within judged undone wrote commits named = record {
  reads = at_index j (λ k. current (log' k) ≡ snapshot_in (phase' k)) (rw (ol.here, op.here) reads) (λ k other. rw (ol.there k other, op.there k other) (h.reads k));
  room = at_index j (λ k. MayHaveBegun quota (phase' k) (begans (log' k))) (rw (ol.here, op.here) room) (λ k other. rw (ol.there k other, op.there k other) (h.room k));
  written = at_index j (λ k. wrotes (log' k) ≤ quota) (rw ol.here wrote) (λ k other. rw (ol.there k other) (h.written k));
  fixed = at_index j (λ k. FixedOver (phase' k) (log' k)) (rw (ol.here, op.here) fixed) (λ k other. rw (ol.there k other, op.there k other) (h.fixed k));
  within = at_index j (λ k. UpTo (length history) (log' k)) (rw ol.here within) (λ k other. rw (ol.there k other) (h.within k));
  judged = at_index j (λ k. Judged history (log' k)) (rw ol.here judged) (λ k other. rw (ol.there k other) (h.judged k));
  undone = at_index j (λ k. UndoesOpen (log' k)) (rw ol.here undone) (λ k other. rw (ol.there k other) (h.undone k));
  commits = λ n. at_index j (λ k. of_session k (group_at history n) ≡ published n k (log' k)) (rw ol.here (h.commits n j ∙ sym (commits n))) (λ k other. rw (ol.there k other) (h.commits n k));
  named = λ n some last. let was = h.named n some last in (was.0, was.1, stays n was.0 was.2);
}
  where
    stays : (n k : ℕ) → IsTrue (has_number n (log k)) → IsTrue (has_number n (log' k))
    stays n = at_index j (λ k. IsTrue (has_number n (log k)) → IsTrue (has_number n (log' k)))
        (λ e. subst (λ x. IsTrue (has_number n x)) (sym ol.here) (named n e))
        (λ k other e. subst (λ x. IsTrue (has_number n x)) (sym (ol.there k other)) e)
