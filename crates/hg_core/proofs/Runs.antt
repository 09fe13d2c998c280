-- Each event keeps the invariant, so it holds after every list of events.
use Rattle.std.proofs.Common.{ℕ, List, [], ◌∷◌, ◌++◌, inl, inr, refl, arith, ◌≡◌, sym, ap, subst, ◌∙◌}
use Rattle.hg_core.specs.State.{CoreState, opened}
use Rattle.hg_core.specs.Events.{Event, Declare, Probe, Enter, Fix, GoLive, End, Mark, Sample, SampleMask, Move, Miss, Install, Undo, Stamp, Publish, Reclaim, Take, Look, happens, May}
use Rattle.hg_core.specs.Steps.{Step, Act, Arrive, Leave, Split, Unite, step, Can, Run, run, LeadsTo, Always}
use Rattle.hg_core.specs.Invariant.{IsSteady}
use Rattle.hg_core.proofs.Begins.{declare_kept, probe_kept, enter_kept, fix_kept, go_live_kept, end_kept}
use Rattle.hg_core.proofs.Gathers.{mark_kept, sample_kept, sample_mask_kept, move_kept, miss_kept, take_kept}
use Rattle.hg_core.proofs.Writing.{install_kept, undo_kept, stamp_kept}
use Rattle.hg_core.proofs.Publishing.{publish_kept}
use Rattle.hg_core.proofs.Looking.{look_kept}
use Rattle.hg_core.proofs.Reclaiming.{reclaim_kept}
use Rattle.hg_core.proofs.Sums.{sum_none, below_none}
use Rattle.hg_core.specs.Counters.{no_counters, removed_by}
use Rattle.hg_base.specs.declared.report.Kind.{Kind}
use Rattle.hg_base.specs.declared.report.Kind.TheVariants.{Group, Table, Interval}
use Rattle.hg_core.proofs.Seats.{arrive_kept, leave_kept, split_kept}
use Rattle.hg_core.proofs.Unions.{unite_kept}

pub kept : (s : CoreState) (e : Event) → IsSteady s → May s e → IsSteady (happens s e)
kept s (Declare j scope) h may = declare_kept s j scope h may
kept s (Probe j) h may = probe_kept s j h may
kept s (Enter j f) h may = enter_kept s j f h may
kept s (Fix j f) h may = fix_kept s j f h may
kept s (GoLive j m scope) h may = go_live_kept s j m scope h may
kept s (End j) h may = end_kept s j h may
kept s (Mark p known) h may = mark_kept s p known h may
kept s (Sample p j) h may = sample_kept s p j h may
kept s (SampleMask p j) h may = sample_mask_kept s p j h may
kept s (Move p j) h may = move_kept s p j h may
kept s (Miss p j number) h may = miss_kept s p j number h may
kept s (Install j r image) h may = install_kept s j r image h may
kept s (Undo j r) h may = undo_kept s j r h may
kept s (Stamp j r) h may = stamp_kept s j r h may
kept s (Publish sessions) h may = publish_kept s sessions h may
kept s (Reclaim p kind r) h may = reclaim_kept s p kind r h may
kept s (Take p) h may = take_kept s p h may
kept s (Look j ask b rows) h may = look_kept s j ask b rows h may

pub step_kept : (s : CoreState) (e : Step) → IsSteady s → Can s e → IsSteady (step s e)
step_kept s (Act event) h may = kept s event h may
step_kept s (Arrive p b) h may = arrive_kept s p b h may
step_kept s (Leave p) h may = leave_kept s p h may
step_kept s (Split p) h may = split_kept s p h may
step_kept s (Unite p q m) h may = unite_kept s p q m h may

pub run_kept : (s : CoreState) (steps : List Step) → IsSteady s → Run s steps → IsSteady (run s steps)
run_kept s [] h r = h
run_kept s (e ∷ steps) h r = run_kept (step s e) steps (step_kept s e h r.0) r.1

none_removed : (kind : Kind) → removed_by kind no_counters.removed ≡ 0
none_removed Group = refl
none_removed Table = refl
none_removed Interval = refl

pub opened_steady : (sessions tables buckets passes quota : ℕ) → IsSteady (opened sessions tables buckets passes quota)
opened_steady sessions tables buckets passes quota = record {
  contents_are_placed = λ b. record { bucket = tt; table = tt; once = tt };
  counters_balance = record { made = λ b. sym (sum_none sessions); undone = λ b. sym (sum_none sessions); removed = λ kind b. none_removed kind ∙ sym (below_none passes); balance = λ b. refl };
  visits_stay = record { each = λ p. tt; others = λ p. inr refl };
  mark_is_length = record { is_length = refl; sessions = λ j. tt; passes = λ p. omega arith };
  registers_agree = record { shows = λ j. refl; masks = λ j. tt; others = λ j. inr refl };
  records_bound_sessions = λ p j. tt;
  records_reach_logs = record { known = λ p j. omega arith; stands = λ p j. tt };
  taken_at_most_mark = omega arith;
  history = tt;
  no_update_is_lost = tt;
  replies_answer = λ j. tt;
  covered = λ r. record { same = λ n g. refl; newest = inl refl };
  open_writes_may_commit = λ j r i e. absurd (cc);
  contents_are_ordered = record { ordered = λ r. tt; backed = λ r. tt };
  open_writes_stand = record { owned = λ r w i e. absurd (cc); owns = λ r j i e. absurd (cc) };
  stamped_is_next = record { exact = λ r w i e. absurd (cc); standing = λ j r e. absurd (cc) };
  logs_answer = record {
    reads = λ j. refl;
    room = λ j. omega arith;
    written = λ j. omega arith;
    fixed = λ j. tt;
    within = λ j. tt;
    judged = λ j. tt;
    undone = λ j. tt;
    commits = λ n j. refl;
    named = λ n some last. absurd (omega arith);
  };
}

pub steady_after : Always IsSteady
steady_after sessions tables buckets passes quota steps r = run_kept (opened sessions tables buckets passes quota) steps (opened_steady sessions tables buckets passes quota) r

-- ---- states that are reached

pub run_append : (s : CoreState) (steps more : List Step) → run s (steps ++ more) ≡ run (run s steps) more
run_append s [] more = refl
run_append s (e ∷ steps) more = run_append (step s e) steps more

pub may_append : (s : CoreState) (steps more : List Step) → Run s steps → Run (run s steps) more → Run s (steps ++ more)
may_append s [] more r m = m
may_append s (e ∷ steps) more r m = (r.0, may_append (step s e) steps more r.1 m)

pub reached_first : (s : CoreState) → LeadsTo s s
reached_first s = record { steps = []; may = tt; leads = refl }

pub reached_next : (start s : CoreState) (e : Step) → LeadsTo start s → Can s e → LeadsTo start (step s e)
reached_next start s e r can = record {
  steps = r.steps ++ e ∷ [];
  may = may_append start r.steps (e ∷ []) r.may (subst (λ c. Can c e) (sym r.leads) can, tt);
  leads = run_append start r.steps (e ∷ []) ∙ ap (λ c. step c e) r.leads;
}

pub reached_steady : (sessions tables buckets passes quota : ℕ) (s : CoreState) → LeadsTo (opened sessions tables buckets passes quota) s → IsSteady s
reached_steady sessions tables buckets passes quota s r = subst IsSteady r.leads (steady_after sessions tables buckets passes quota r.steps r.may)
