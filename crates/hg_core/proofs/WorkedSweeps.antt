-- The events of the worked runs of a late snapshot, and of a visit that sweeps, may happen in their turn.
use Rattle.std.proofs.Common.{refl, arith}
use Rattle.hg_base.specs.declared.scope.Scope.TheVariants.{All}
use Rattle.hg_core.specs.Contents.{bucket_of}
use Rattle.hg_core.specs.State.{opened}
use Rattle.hg_core.specs.Steps.{Run}
use Rattle.hg_core.specs.Worked.{late_snapshot, swept_visit}
use Rattle.hg_core.proofs.WorkedParts.{first, second, publishes, late_whole}

pub late_snapshot_runs : Run (opened 2 1 1 1 2) late_snapshot
unfolding bucket_of
late_snapshot_runs = (
  record { session = second; rests = refl; room = omega arith; tables = tt },
  (
    (All, refl),
    (
      (All, refl),
      (
        (All, refl),
        (
          (0, refl),
          (
            (
              0,
              All,
              record {
                live = refl;
                table = refl;
                there = omega arith;
                plain = refl;
                unstamped = refl;
                room = omega arith;
                free = tt;
                newest = tt;
              },
            ),
            (
              record { mine = refl; plain = refl },
              (
                publishes _ _ _ _ refl,
                (
                  record { live = refl; none = λ r. refl },
                  (
                    record { session = second; rests = refl; room = omega arith; tables = tt },
                    (
                      (All, refl),
                      (
                        (All, refl),
                        (
                          (All, refl),
                          (
                            (1, refl),
                            (
                              (
                                1,
                                All,
                                record {
                                  live = refl;
                                  table = refl;
                                  there = omega arith;
                                  plain = refl;
                                  unstamped = refl;
                                  room = omega arith;
                                  free = omega arith;
                                  newest = omega arith;
                                },
                              ),
                              (
                                record { mine = refl; plain = refl },
                                (
                                  publishes _ _ _ _ refl,
                                  (
                                    record { live = refl; none = λ r. refl },
                                    (
                                      record { session = first; rests = refl; room = omega arith; tables = tt },
                                      (
                                        (All, refl),
                                        (
                                          (All, refl),
                                          (
                                            (All, refl),
                                            (
                                              (2, refl),
                                              (
                                                record { there = omega arith; known_of = λ j. omega arith },
                                                (record { session = first; fresh = refl; there = omega arith }, (record { session = second; fresh = refl; there = omega arith }, (record { pass = omega arith; bucket = omega arith }, tt))),
                                              ),
                                            ),
                                          ),
                                        ),
                                      ),
                                    ),
                                  ),
                                ),
                              ),
                            ),
                          ),
                        ),
                      ),
                    ),
                  ),
                ),
              ),
            ),
          ),
        ),
      ),
    ),
  ),
)

pub swept_visit_runs : Run (opened 2 1 1 1 2) swept_visit
unfolding bucket_of
swept_visit_runs = (
  record { session = second; rests = refl; room = omega arith; tables = tt },
  (
    (All, refl),
    (
      (All, refl),
      (
        (All, refl),
        (
          (0, refl),
          (
            (
              0,
              All,
              record {
                live = refl;
                table = refl;
                there = omega arith;
                plain = refl;
                unstamped = refl;
                room = omega arith;
                free = tt;
                newest = tt;
              },
            ),
            (
              record { mine = refl; plain = refl },
              (
                publishes _ _ _ _ refl,
                (
                  record { live = refl; none = λ r. refl },
                  (
                    record { session = second; rests = refl; room = omega arith; tables = tt },
                    (
                      (All, refl),
                      (
                        (All, refl),
                        (
                          (All, refl),
                          (
                            (1, refl),
                            (
                              (
                                1,
                                All,
                                record {
                                  live = refl;
                                  table = refl;
                                  there = omega arith;
                                  plain = refl;
                                  unstamped = refl;
                                  room = omega arith;
                                  free = omega arith;
                                  newest = omega arith;
                                },
                              ),
                              (
                                record { mine = refl; plain = refl },
                                (
                                  publishes _ _ _ _ refl,
                                  (
                                    record { live = refl; none = λ r. refl },
                                    (
                                      record { session = first; rests = refl; room = omega arith; tables = tt },
                                      (
                                        (All, refl),
                                        (
                                          (All, refl),
                                          (
                                            (All, refl),
                                            (
                                              (2, refl),
                                              (
                                                record { there = omega arith; known_of = λ j. omega arith },
                                                (
                                                  record { session = first; fresh = refl; there = omega arith },
                                                  (
                                                    record { session = second; fresh = refl; there = omega arith },
                                                    (record { pass = omega arith; bucket = omega arith }, (record { whole = late_whole; here = (refl, refl) }, ((0, (refl, refl)), tt))),
                                                  ),
                                                ),
                                              ),
                                            ),
                                          ),
                                        ),
                                      ),
                                    ),
                                  ),
                                ),
                              ),
                            ),
                          ),
                        ),
                      ),
                    ),
                  ),
                ),
              ),
            ),
          ),
        ),
      ),
    ),
  ),
)
