-- The events of the worked runs of two versions, and of a snapshot that is moved, may happen in their turn.
use Rattle.std.proofs.Common.{Some, false, refl, arith}
use Rattle.hg_base.specs.declared.image.Image.{Image}
use Rattle.hg_base.specs.declared.scope.Scope.TheVariants.{All, Declared}
use Rattle.hg_core.specs.Contents.{bucket_of}
use Rattle.hg_core.specs.State.{opened}
use Rattle.hg_core.specs.Steps.{Run}
use Rattle.hg_core.specs.Worked.{two_versions, moved_snapshot}
use Rattle.hg_core.proofs.WorkedParts.{first, second, publishes}

pub two_versions_runs : (image : Image) → Run (opened 2 1 1 1 2) (two_versions image)
unfolding bucket_of
two_versions_runs image = (
  record { session = second; rests = refl; room = omega arith; tables = tt },
  (
    (All, refl),
    (
      (All, refl),
      (
        (All, refl),
        (
          (0, refl),
          (
            (
              0,
              All,
              record {
                live = refl;
                table = refl;
                there = omega arith;
                plain = refl;
                unstamped = refl;
                room = omega arith;
                free = tt;
                newest = tt;
              },
            ),
            (
              record { mine = refl; plain = refl },
              (
                publishes _ _ _ _ refl,
                (
                  record { live = refl; none = λ r. refl },
                  (
                    record { session = first; rests = refl; room = omega arith; tables = omega arith },
                    (
                      (Declared 1, refl),
                      (
                        (Declared 1, refl),
                        (
                          (Declared 1, refl),
                          (
                            (1, refl),
                            (
                              record { session = second; rests = refl; room = omega arith; tables = tt },
                              (
                                (All, refl),
                                (
                                  (All, refl),
                                  (
                                    (All, refl),
                                    (
                                      (1, refl),
                                      (
                                        (
                                          1,
                                          All,
                                          record {
                                            live = refl;
                                            table = refl;
                                            there = omega arith;
                                            plain = refl;
                                            unstamped = refl;
                                            room = omega arith;
                                            free = omega arith;
                                            newest = omega arith;
                                          },
                                        ),
                                        (
                                          record { mine = refl; plain = refl },
                                          (
                                            publishes _ _ _ _ refl,
                                            (
                                              record { live = refl; none = λ r. refl },
                                              (
                                                record { there = omega arith; known_of = λ j. omega arith },
                                                (
                                                  record { session = first; fresh = refl; there = omega arith },
                                                  ((1, false, refl), (record { session = second; fresh = refl; there = omega arith }, (record { pass = omega arith; bucket = omega arith }, tt))),
                                                ),
                                              ),
                                            ),
                                          ),
                                        ),
                                      ),
                                    ),
                                  ),
                                ),
                              ),
                            ),
                          ),
                        ),
                      ),
                    ),
                  ),
                ),
              ),
            ),
          ),
        ),
      ),
    ),
  ),
)

pub moved_snapshot_runs : Run (opened 2 1 1 1 2) moved_snapshot
unfolding bucket_of
moved_snapshot_runs = (
  record { session = second; rests = refl; room = omega arith; tables = tt },
  (
    (All, refl),
    (
      (All, refl),
      (
        (All, refl),
        (
          (0, refl),
          (
            (
              0,
              All,
              record {
                live = refl;
                table = refl;
                there = omega arith;
                plain = refl;
                unstamped = refl;
                room = omega arith;
                free = tt;
                newest = tt;
              },
            ),
            (
              record { mine = refl; plain = refl },
              (
                publishes _ _ _ _ refl,
                (
                  record { live = refl; none = λ r. refl },
                  (
                    record { session = first; rests = refl; room = omega arith; tables = omega arith },
                    (
                      (Declared 1, refl),
                      (
                        (Declared 1, refl),
                        (
                          (Declared 1, refl),
                          (
                            (1, refl),
                            (
                              record { session = second; rests = refl; room = omega arith; tables = tt },
                              (
                                (All, refl),
                                (
                                  (All, refl),
                                  (
                                    (All, refl),
                                    (
                                      (1, refl),
                                      (
                                        (
                                          1,
                                          All,
                                          record {
                                            live = refl;
                                            table = refl;
                                            there = omega arith;
                                            plain = refl;
                                            unstamped = refl;
                                            room = omega arith;
                                            free = omega arith;
                                            newest = omega arith;
                                          },
                                        ),
                                        (
                                          record { mine = refl; plain = refl },
                                          (
                                            publishes _ _ _ _ refl,
                                            (
                                              record { live = refl; none = λ r. refl },
                                              (
                                                record { there = omega arith; known_of = λ j. omega arith },
                                                (
                                                  record { session = first; fresh = refl; there = omega arith },
                                                  (
                                                    (1, false, refl),
                                                    (
                                                      record { session = second; fresh = refl; there = omega arith },
                                                      (record { pass = omega arith; bucket = omega arith }, ((1, Some 1, record { shown = refl; loaded = refl }), tt)),
                                                    ),
                                                  ),
                                                ),
                                              ),
                                            ),
                                          ),
                                        ),
                                      ),
                                    ),
                                  ),
                                ),
                              ),
                            ),
                          ),
                        ),
                      ),
                    ),
                  ),
                ),
              ),
            ),
          ),
        ),
      ),
    ),
  ),
)
