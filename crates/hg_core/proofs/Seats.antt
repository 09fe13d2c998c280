-- A bucket is taken and given back, and a pass is split.
use Rattle.std.proofs.Common.{◌≡◌, ℕ, ◌+◌, ◌<◌, ◌≤◌, List, [], ◌∷◌, Bool, true, false, ◌==◌, inl, inr, refl, sym, ap, ◌∙◌, subst, arith}
use Rattle.std.specs.Prelude.{if◌then◌else◌, IfSome, length}
use Rattle.hg_base.specs.declared.report.Kind.{Kind}
use Rattle.hg_base.specs.declared.report.Kind.TheVariants.{Group, Table, Interval}
use Rattle.hg_base.specs.Lists.{Each}
use Rattle.hg_core.specs.declared.visit.Visit.{Visit}
use Rattle.hg_core.specs.Contents.{Content, look, versions}
use Rattle.hg_core.specs.Passes.{found}
use Rattle.hg_core.specs.Counters.{none_removed, removed_by, removed_in}
use Rattle.hg_core.specs.Visits.{giving, StaysAsGiven, IsVisit}
use Rattle.hg_core.specs.Bounds.{Bounds}
use Rattle.hg_core.specs.Reach.{StandsIn}
use Rattle.hg_core.specs.State.{CoreState}
use Rattle.hg_core.specs.Events.{put}
use Rattle.hg_core.specs.Steps.{Arrive, Leave, Split, step, Can}
use Rattle.hg_core.specs.Invariant.{IsSteady}
use Rattle.hg_core.proofs.Indices.{by_number}
use Rattle.hg_core.proofs.Sums.{below_same}
use Rattle.hg_core.proofs.Visits.{visits_changed, visitor}
use Rattle.hg_core.specs.Clean.{IsClean, IsCutAt}

-- a pass whose visits are others, and removed the same
with_visits : (s : CoreState) (p : ℕ) (vs : List Visit) → IsSteady s → p < s.passes → Each (IsVisit s.buckets s.mark (versions s.buckets s.bucket)) vs →
    ((kind : Kind) (b : ℕ) → removed_in kind b vs ≡ removed_in kind b (s.visits p)) → IsSteady (record s { visits = put s.visits p vs })
with_visits s p vs h less each same = record {
  mark_is_length = h.mark_is_length;
  registers_agree = h.registers_agree;
  covered = h.covered;
  open_writes_stand = h.open_writes_stand;
  stamped_is_next = h.stamped_is_next;
  contents_are_ordered = h.contents_are_ordered;
  contents_are_placed = h.contents_are_placed;
  records_bound_sessions = h.records_bound_sessions;
  open_writes_may_commit = h.open_writes_may_commit;
  history = h.history;
  no_update_is_lost = h.no_update_is_lost;
  logs_answer = h.logs_answer;
  replies_answer = h.replies_answer;
  records_reach_logs = h.records_reach_logs;
  taken_at_most_mark = h.taken_at_most_mark;
  counters_balance = record {
    made = h.counters_balance.made;
    undone = h.counters_balance.undone;
    removed = λ kind b. h.counters_balance.removed kind b ∙ sym (below_same s.passes (λ q. removed_in kind b (s.visits q)) (λ q. removed_in kind b (put s.visits p vs q))
        (λ k lt. by_number p (λ k x. removed_in kind b (if x then vs else s.visits k) ≡ removed_in kind b (s.visits k)) (same kind b) (λ k other. refl) k));
    balance = h.counters_balance.balance;
  };
  visits_stay = visits_changed s.passes s.buckets s.mark (versions s.buckets s.bucket) s.visits p vs less each h.visits_stay;
}

pub arrive_kept : (s : CoreState) (p b : ℕ) → IsSteady s → Can s (Arrive p b) → IsSteady (step s (Arrive p b))
arrive_kept s p b h may = with_visits s p _ h may.pass
    (record { bucket = may.bucket; kept = h.mark_is_length.passes p; stays = tt }, h.visits_stay.each p)
    (λ kind c. go kind (b == c) (removed_in kind c (s.visits p)))
  where
    go : (kind : Kind) (t : Bool) (n : ℕ) → (if t then removed_by kind none_removed else 0) + n ≡ n
    go Group true n = omega arith
    go Table true n = omega arith
    go Interval true n = omega arith
    go kind false n = omega arith

-- what a bucket has stays as it has it
given_now : (buckets mark b : ℕ) (bucket : ℕ → Content) → StaysAsGiven buckets b mark (versions buckets bucket) (bucket b)
given_now buckets mark b bucket = record {
  cut = λ r bound at le k. subst (λ c. IsCutAt bound (look r (bucket c))) (sym at) k;
  clean = λ r horizon snapshots at le c. subst (λ x. IsClean horizon snapshots (look r (bucket x))) (sym at) c;
}

pub leave_kept : (s : CoreState) (p : ℕ) → IsSteady s → Can s (Leave p) → IsSteady (step s (Leave p))
leave_kept s p h may = with_visits s p _ h (visitor s.passes s.buckets s.mark (versions s.buckets s.bucket) s.visits p may.0 may.1 h.visits_stay)
    (each (s.visits p) (h.visits_stay.each p)) (λ kind b. same kind b (s.visits p))
  where
    each : (vs : List Visit) → Each (IsVisit s.buckets s.mark (versions s.buckets s.bucket)) vs → Each (IsVisit s.buckets s.mark (versions s.buckets s.bucket)) (giving s.bucket vs)
    each [] e = tt
    each (v ∷ vs) e = (record { bucket = e.0.bucket; kept = e.0.kept; stays = given_now s.buckets v.mark v.bucket s.bucket }, e.1)

    same : (kind : Kind) (b : ℕ) (vs : List Visit) → removed_in kind b (giving s.bucket vs) ≡ removed_in kind b vs
    same kind b [] = refl
    same kind b (v ∷ vs) = refl

pub split_kept : (s : CoreState) (p : ℕ) → IsSteady s → Can s (Split p) → IsSteady (step s (Split p))
split_kept s p h may = record {
  mark_is_length = record {
    is_length = h.mark_is_length.is_length;
    sessions = h.mark_is_length.sessions;
    passes = by_number s.passes (λ q b. (if b then record (s.pass p) { journal = [] } else s.pass q).mark ≤ s.mark) (h.mark_is_length.passes p) (λ q other. h.mark_is_length.passes q);
  };
  registers_agree = h.registers_agree;
  covered = h.covered;
  open_writes_stand = h.open_writes_stand;
  stamped_is_next = h.stamped_is_next;
  contents_are_ordered = h.contents_are_ordered;
  contents_are_placed = h.contents_are_placed;
  records_bound_sessions = by_number s.passes (λ q b. (j : ℕ) →
      IfSome (found j (if b then record (s.pass p) { journal = [] } else s.pass q).loaded) (λ loaded. Bounds (if b then record (s.pass p) { journal = [] } else s.pass q).mark loaded (s.phase j))) (h.records_bound_sessions p)
      (λ q other. h.records_bound_sessions q);
  open_writes_may_commit = h.open_writes_may_commit;
  history = h.history;
  no_update_is_lost = h.no_update_is_lost;
  logs_answer = h.logs_answer;
  replies_answer = h.replies_answer;
  records_reach_logs = record {
    known = by_number s.passes (λ q b. (j : ℕ) → (if b then record (s.pass p) { journal = [] } else s.pass q).known j ≤ length (s.log j)) (h.records_reach_logs.known p) (λ q other. h.records_reach_logs.known q);
    stands = by_number s.passes (λ q b. (j : ℕ) → IfSome (found j (if b then record (s.pass p) { journal = [] } else s.pass q).loaded)
        (λ loaded. StandsIn ((if b then record (s.pass p) { journal = [] } else s.pass q).known j) loaded.register (s.log j) (s.phase j))) (h.records_reach_logs.stands p) (λ q other. h.records_reach_logs.stands q);
  };
  taken_at_most_mark = h.taken_at_most_mark;
  counters_balance = record {
    made = h.counters_balance.made;
    undone = h.counters_balance.undone;
    removed = λ kind b. h.counters_balance.removed kind b ∙ (let none = ap (removed_in kind b) new in omega arith);
    balance = h.counters_balance.balance;
  };
  visits_stay = record { each = h.visits_stay.each; others = λ q. elim (h.visits_stay.others q) [ inl less ↦ inl (omega arith) | inr none ↦ inr none ] };
}
  where
    new : s.visits s.passes ≡ []
    new = elim (h.visits_stay.others s.passes) [ inl less ↦ absurd (omega arith) | inr none ↦ none ]
