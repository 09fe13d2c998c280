-- Three lists of steps may happen in their turn, and leave what they say.
use Rattle.std.proofs.Common.{◌≡◌, ℕ, ◌≤◌, List, [], ◌∷◌, inl, refl, subst, arith}
use Rattle.std.specs.Prelude.{◌==◌, IsTrue}
use Rattle.std.specs.List.{list_any}
use Rattle.hg_base.specs.declared.scope.Scope.TheVariants.{All, Declared}
use Rattle.hg_base.specs.declared.value.Value.{Value}
use Rattle.hg_core.specs.Contents.{bucket_of}
use Rattle.hg_core.specs.Worked.{open_write, two_versions}
use Rattle.hg_core.proofs.Runs.{may_append}
use Rattle.hg_core.proofs.WorkedBegins.{open_write_runs}
use Rattle.hg_core.proofs.WorkedMoves.{two_versions_runs, moved_snapshot_runs}
use Rattle.hg_core.proofs.WorkedParts.{two_whole}
use Rattle.hg_headline.specs.WorkedSteps.{start, seven, eight, tries, sweeps_and_reads, IsRefused, IsHeldBack, IsMoved}

pub refused : IsRefused
unfolding bucket_of
refused = record {
  may = may_append start open_write tries open_write_runs ((0, All, record { live = refl; plain = refl; unstamped = refl; asks = refl }), tt);
  log = refl;
}

-- the one key of the range is in the rows
one_key : (key : ℕ) → 5 ≤ key → key ≤ 5 → IsTrue (list_any (λ (p : ℕ × List Value). p.0 == key) ((5, seven) ∷ []))
one_key key low high = let five : 5 ≡ key = omega (arith, low, high) in subst (λ k. IsTrue (list_any (λ (p : ℕ × List Value). p.0 == k) ((5, seven) ∷ []))) five refl

pub held_back : IsHeldBack
unfolding bucket_of
held_back = record {
  may = may_append start (two_versions eight) sweeps_and_reads (two_versions_runs eight) (
    record { whole = two_whole eight; here = (refl, refl) },
    (
      (0, (refl, refl)),
      (
        (
          1,
          Declared 1,
          record {
            live = refl;
            plain = refl;
            unstamped = refl;
            asks = (refl, record { ascend = tt; each = ((omega arith, omega arith, refl), tt); every = λ key low high. inl (one_key key low high) });
          },
        ),
        tt,
      ),
    ),
  );
  log = refl;
  reports = (refl, tt);
}

pub moved : IsMoved
unfolding bucket_of
moved = record { may = moved_snapshot_runs; tries = (refl, tt); reports = (refl, tt) }
