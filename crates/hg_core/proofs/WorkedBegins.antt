-- The events of the worked runs in which a session begins slowly or late, and of that with an open write, may happen in their turn.
use Rattle.std.proofs.Common.{refl, arith}
use Rattle.hg_base.specs.declared.scope.Scope.TheVariants.{All, Declared}
use Rattle.hg_core.specs.Contents.{bucket_of}
use Rattle.hg_core.specs.State.{opened}
use Rattle.hg_core.specs.Steps.{Run}
use Rattle.hg_core.specs.Worked.{slow_begin, late_entry, early_sample, low_fix}
use Rattle.hg_core.specs.Worked.{open_write}
use Rattle.hg_core.proofs.WorkedParts.{first, second, publishes}

pub slow_begin_runs : Run (opened 2 1 1 1 1) slow_begin
unfolding bucket_of
slow_begin_runs = (
  record { session = first; rests = refl; room = omega arith; tables = omega arith },
  (
    (Declared 1, refl),
    (
      (Declared 1, refl),
      (
        (Declared 1, refl),
        (
          record { session = second; rests = refl; room = omega arith; tables = tt },
          (
            (All, refl),
            (
              (All, refl),
              (
                (All, refl),
                (
                  (0, refl),
                  (
                    (
                      0,
                      All,
                      record {
                        live = refl;
                        table = refl;
                        there = omega arith;
                        plain = refl;
                        unstamped = refl;
                        room = omega arith;
                        free = tt;
                        newest = tt;
                      },
                    ),
                    (
                      record { mine = refl; plain = refl },
                      (
                        publishes _ _ _ _ refl,
                        (
                          record { live = refl; none = λ r. refl },
                          (record { there = omega arith; known_of = λ j. omega arith }, (record { session = first; fresh = refl; there = omega arith }, (record { session = second; fresh = refl; there = omega arith }, ((0, refl), tt)))),
                        ),
                      ),
                    ),
                  ),
                ),
              ),
            ),
          ),
        ),
      ),
    ),
  ),
)

pub late_entry_runs : Run (opened 2 1 1 1 1) late_entry
unfolding bucket_of
late_entry_runs = (
  record { session = first; rests = refl; room = omega arith; tables = tt },
  (
    (All, refl),
    (
      record { session = second; rests = refl; room = omega arith; tables = tt },
      (
        (All, refl),
        (
          (All, refl),
          (
            (All, refl),
            (
              (0, refl),
              (
                (
                  0,
                  All,
                  record {
                    live = refl;
                    table = refl;
                    there = omega arith;
                    plain = refl;
                    unstamped = refl;
                    room = omega arith;
                    free = tt;
                    newest = tt;
                  },
                ),
                (
                  record { mine = refl; plain = refl },
                  (publishes _ _ _ _ refl, (record { live = refl; none = λ r. refl }, (record { there = omega arith; known_of = λ j. omega arith }, (record { session = first; fresh = refl; there = omega arith }, ((All, refl), tt))))),
                ),
              ),
            ),
          ),
        ),
      ),
    ),
  ),
)

pub early_sample_runs : Run (opened 2 1 1 1 1) early_sample
unfolding bucket_of
early_sample_runs = (
  record { there = omega arith; known_of = λ j. omega arith },
  (
    record { session = first; fresh = refl; there = omega arith },
    (
      record { session = first; rests = refl; room = omega arith; tables = tt },
      (
        (All, refl),
        (
          (All, refl),
          (
            (All, refl),
            (
              (0, refl),
              (
                record { session = second; rests = refl; room = omega arith; tables = tt },
                (
                  (All, refl),
                  (
                    (All, refl),
                    (
                      (All, refl),
                      (
                        (0, refl),
                        (
                          (
                            0,
                            All,
                            record {
                              live = refl;
                              table = refl;
                              there = omega arith;
                              plain = refl;
                              unstamped = refl;
                              room = omega arith;
                              free = tt;
                              newest = tt;
                            },
                          ),
                          (record { mine = refl; plain = refl }, (publishes _ _ _ _ refl, (record { live = refl; none = λ r. refl }, tt))),
                        ),
                      ),
                    ),
                  ),
                ),
              ),
            ),
          ),
        ),
      ),
    ),
  ),
)

pub low_fix_runs : Run (opened 2 1 1 1 1) low_fix
unfolding bucket_of
low_fix_runs = (
  record { session = first; rests = refl; room = omega arith; tables = tt },
  (
    (All, refl),
    (
      (All, refl),
      (
        (All, refl),
        (
          record { session = second; rests = refl; room = omega arith; tables = tt },
          (
            (All, refl),
            (
              (All, refl),
              (
                (All, refl),
                (
                  (0, refl),
                  (
                    (
                      0,
                      All,
                      record {
                        live = refl;
                        table = refl;
                        there = omega arith;
                        plain = refl;
                        unstamped = refl;
                        room = omega arith;
                        free = tt;
                        newest = tt;
                      },
                    ),
                    (record { mine = refl; plain = refl }, (publishes _ _ _ _ refl, (record { live = refl; none = λ r. refl }, (record { there = omega arith; known_of = λ j. omega arith }, tt)))),
                  ),
                ),
              ),
            ),
          ),
        ),
      ),
    ),
  ),
)

pub open_write_runs : Run (opened 2 1 1 1 2) open_write
unfolding bucket_of
open_write_runs = (
  record { session = first; rests = refl; room = omega arith; tables = tt },
  (
    (All, refl),
    (
      (All, refl),
      (
        (All, refl),
        (
          (0, refl),
          (
            record { session = second; rests = refl; room = omega arith; tables = tt },
            (
              (All, refl),
              (
                (All, refl),
                (
                  (All, refl),
                  (
                    (0, refl),
                    (
                      (
                        0,
                        All,
                        record {
                          live = refl;
                          table = refl;
                          there = omega arith;
                          plain = refl;
                          unstamped = refl;
                          room = omega arith;
                          free = tt;
                          newest = tt;
                        },
                      ),
                      tt,
                    ),
                  ),
                ),
              ),
            ),
          ),
        ),
      ),
    ),
  ),
)
