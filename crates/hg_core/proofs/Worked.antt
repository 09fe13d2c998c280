-- The events of the run in which each kind happens may happen in their turn.
use Rattle.std.proofs.Common.{◌≡◌, ◌++◌, ◌∷◌, [], Some, None, true, false, refl, arith}
use Rattle.hg_base.specs.declared.scope.Scope.TheVariants.{All, Declared}
use Rattle.hg_core.specs.declared.register.Register.TheVariants as registers
use Rattle.hg_core.specs.Contents.{bucket_of}
use Rattle.hg_core.specs.State.{opened}
use Rattle.hg_core.specs.Steps.{Unite, Run, run}
use Rattle.hg_core.specs.Worked.{slow_begin, two_passes, long_snapshot}
use Rattle.hg_core.proofs.Runs.{may_append, run_kept, opened_steady}
use Rattle.hg_core.proofs.Moves.{bare_run, unites_last}
use Rattle.hg_core.proofs.WorkedParts.{first, second, publishes, none_left, slow_whole}

-- all but that the two passes become one
all_but_last : Run (opened 2 1 1 1 1) (slow_begin ++ two_passes)
unfolding bucket_of
all_but_last = (
  record { session = first; rests = refl; room = omega arith; tables = omega arith },
  (
    (Declared 1, refl),
    (
      (Declared 1, refl),
      (
        (Declared 1, refl),
        (
          record { session = second; rests = refl; room = omega arith; tables = tt },
          (
            (All, refl),
            (
              (All, refl),
              (
                (All, refl),
                (
                  (0, refl),
                  (
                    (
                      0,
                      All,
                      record {
                        live = refl;
                        table = refl;
                        there = omega arith;
                        plain = refl;
                        unstamped = refl;
                        room = omega arith;
                        free = tt;
                        newest = tt;
                      },
                    ),
                    (
                      record { mine = refl; plain = refl },
                      (
                        publishes _ _ _ _ refl,
                        (
                          record { live = refl; none = λ r. refl },
                          (
                            record { there = omega arith; known_of = λ j. omega arith },
                            (
                              record { session = first; fresh = refl; there = omega arith },
                              (
                                record { session = second; fresh = refl; there = omega arith },
                                (
                                  (0, refl),
                                  (
                                    record { there = omega arith; left = omega arith },
                                    (
                                      record { pass = omega arith; bucket = omega arith },
                                      (
                                        record { whole = record { registers = slow_whole.registers; masks = slow_whole.masks }; here = (refl, refl) },
                                        (
                                          (0, (refl, refl)),
                                          (
                                            omega arith,
                                            (
                                              record { there = omega arith; known_of = λ j. omega arith },
                                              (
                                                record { session = first; fresh = refl; there = omega arith },
                                                (
                                                  record { there = omega arith; known_of = λ j. omega arith },
                                                  (
                                                    record { session = first; fresh = refl; there = omega arith },
                                                    (
                                                      (0, false, refl),
                                                      (
                                                        (0, Some 1, record { shown = refl; loaded = refl }),
                                                        (
                                                          (None, record { gone = λ e. absurd (let z : registers.Live 0 true true ≡ registers.Live 0 true false = e in cc); loaded = refl }),
                                                          (
                                                            (0, Declared 1, record { live = refl; plain = refl; unstamped = refl; asks = refl }),
                                                            (
                                                              (
                                                                0,
                                                                Declared 1,
                                                                record { live = refl; table = refl; there = omega arith; plain = refl; unstamped = refl; room = omega arith; free = tt; newest = tt },
                                                              ),
                                                              (record { mine = refl; unstamped = refl }, (record { live = refl; none = none_left }, tt)),
                                                            ),
                                                          ),
                                                        ),
                                                      ),
                                                    ),
                                                  ),
                                                ),
                                              ),
                                            ),
                                          ),
                                        ),
                                      ),
                                    ),
                                  ),
                                ),
                              ),
                            ),
                          ),
                        ),
                      ),
                    ),
                  ),
                ),
              ),
            ),
          ),
        ),
      ),
    ),
  ),
)

pub every_event_runs : Run (opened 2 1 1 1 1) (slow_begin ++ long_snapshot)
every_event_runs = may_append (opened 2 1 1 1 1) (slow_begin ++ two_passes) (Unite 0 1 1 ∷ []) all_but_last (
  unites_last (run (opened 2 1 1 1 1) (slow_begin ++ two_passes)) 0 1 (run_kept _ (slow_begin ++ two_passes) (opened_steady 2 1 1 1 1) all_but_last)
      (bare_run (opened 2 1 1 1 1) (slow_begin ++ two_passes) all_but_last (λ x le. refl)) refl (omega arith),
  tt,
)
