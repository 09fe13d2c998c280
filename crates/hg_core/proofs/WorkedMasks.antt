-- The events of the worked runs with declared tables, with none, and without masks may happen in their turn.
use Rattle.std.proofs.Common.{Some, false, refl, arith}
use Rattle.hg_base.specs.declared.scope.Scope.TheVariants.{All, Declared}
use Rattle.hg_core.specs.Contents.{bucket_of}
use Rattle.hg_core.specs.State.{opened}
use Rattle.hg_core.specs.Steps.{Run}
use Rattle.hg_core.specs.Worked.{no_masks, no_tables, early_live}
use Rattle.hg_core.proofs.WorkedParts.{first, second, publishes}

pub no_tables_runs : Run (opened 2 1 1 1 1) no_tables
unfolding bucket_of
no_tables_runs = (
  record { session = first; rests = refl; room = omega arith; tables = omega arith },
  (
    (Declared 0, refl),
    (
      (Declared 0, refl),
      (
        (Declared 0, refl),
        (
          record { session = second; rests = refl; room = omega arith; tables = tt },
          (
            (All, refl),
            (
              (All, refl),
              (
                (All, refl),
                (
                  (0, refl),
                  (
                    (
                      0,
                      All,
                      record {
                        live = refl;
                        table = refl;
                        there = omega arith;
                        plain = refl;
                        unstamped = refl;
                        room = omega arith;
                        free = tt;
                        newest = tt;
                      },
                    ),
                    (record { mine = refl; plain = refl }, (publishes _ _ _ _ refl, (record { live = refl; none = λ r. refl }, (record { there = omega arith; known_of = λ j. omega arith }, tt)))),
                  ),
                ),
              ),
            ),
          ),
        ),
      ),
    ),
  ),
)

pub early_live_runs : Run (opened 2 1 1 1 1) early_live
unfolding bucket_of
early_live_runs = (
  record { session = first; rests = refl; room = omega arith; tables = omega arith },
  (
    (Declared 1, refl),
    (
      (Declared 1, refl),
      (
        (Declared 1, refl),
        (
          (0, refl),
          (
            record { session = second; rests = refl; room = omega arith; tables = tt },
            (
              (All, refl),
              (
                (All, refl),
                (
                  (All, refl),
                  (
                    (0, refl),
                    (
                      (
                        0,
                        All,
                        record {
                          live = refl;
                          table = refl;
                          there = omega arith;
                          plain = refl;
                          unstamped = refl;
                          room = omega arith;
                          free = tt;
                          newest = tt;
                        },
                      ),
                      (record { mine = refl; plain = refl }, (publishes _ _ _ _ refl, (record { live = refl; none = λ r. refl }, (record { there = omega arith; known_of = λ j. omega arith }, tt)))),
                    ),
                  ),
                ),
              ),
            ),
          ),
        ),
      ),
    ),
  ),
)

pub no_masks_runs : Run (opened 2 1 1 1 2) no_masks
unfolding bucket_of
no_masks_runs = (
  record { session = second; rests = refl; room = omega arith; tables = tt },
  (
    (All, refl),
    (
      (All, refl),
      (
        (All, refl),
        (
          (0, refl),
          (
            (
              0,
              All,
              record {
                live = refl;
                table = refl;
                there = omega arith;
                plain = refl;
                unstamped = refl;
                room = omega arith;
                free = tt;
                newest = tt;
              },
            ),
            (
              record { mine = refl; plain = refl },
              (
                publishes _ _ _ _ refl,
                (
                  record { live = refl; none = λ r. refl },
                  (
                    record { session = first; rests = refl; room = omega arith; tables = omega arith },
                    (
                      (Declared 1, refl),
                      (
                        (Declared 1, refl),
                        (
                          (Declared 1, refl),
                          (
                            (1, refl),
                            (
                              record { session = second; rests = refl; room = omega arith; tables = tt },
                              (
                                (All, refl),
                                (
                                  (All, refl),
                                  (
                                    (All, refl),
                                    (
                                      (1, refl),
                                      (
                                        (
                                          1,
                                          All,
                                          record {
                                            live = refl;
                                            table = refl;
                                            there = omega arith;
                                            plain = refl;
                                            unstamped = refl;
                                            room = omega arith;
                                            free = omega arith;
                                            newest = omega arith;
                                          },
                                        ),
                                        (
                                          record { mine = refl; plain = refl },
                                          (
                                            publishes _ _ _ _ refl,
                                            (
                                              record { live = refl; none = λ r. refl },
                                              (
                                                record { there = omega arith; known_of = λ j. omega arith },
                                                (
                                                  record { session = first; fresh = refl; there = omega arith },
                                                  (
                                                    (1, false, refl),
                                                    (
                                                      record { session = second; fresh = refl; there = omega arith },
                                                      (
                                                        record { pass = omega arith; bucket = omega arith },
                                                        (
                                                          (1, Some 1, record { shown = refl; loaded = refl }),
                                                          (record { there = omega arith; known_of = λ j. omega arith }, (record { session = first; fresh = refl; there = omega arith }, (record { session = second; fresh = refl; there = omega arith }, tt))),
                                                        ),
                                                      ),
                                                    ),
                                                  ),
                                                ),
                                              ),
                                            ),
                                          ),
                                        ),
                                      ),
                                    ),
                                  ),
                                ),
                              ),
                            ),
                          ),
                        ),
                      ),
                    ),
                  ),
                ),
              ),
            ),
          ),
        ),
      ),
    ),
  ),
)
