-- What is known of a report that a collector prints.
use Rattle.std.specs.Prelude.{ℕ, ◌≤◌, List, [], ◌∷◌, map, filter_map, length, Bool, true, false, ◌&&◌, ◌||◌, ◌==◌, if◌then◌else◌, IsTrue, ⊤}
use Rattle.std.specs.Bool.{MatchBool}
use Rattle.hg_base.specs.declared.report.Told.{Told}
use Rattle.hg_base.specs.declared.report.Sweep.{Sweep}
use Rattle.hg_base.specs.Lists.{Each, Ascends}
use Rattle.hg_base.specs.History.{History}
use Rattle.hg_base.specs.Transcript.{Said}
use Rattle.hg_base.specs.Freshness.{is_declared, mark_of}
use Rattle.hg_core.specs.declared.log.LogEntry.{LogEntry}
use Rattle.hg_core.specs.declared.log.LogEntry.TheVariants.{Began}

-- whether a transaction began at n; with declared tables, where that is asked
abbrev pub began_at : Bool → ℕ → List LogEntry → Bool
began_at declared n [] = false
began_at declared n (Began at scope ∷ log) = ((at == n) && (if declared then is_declared scope else true)) || began_at declared n log
began_at declared n (_ ∷ log) = began_at declared n log

-- a live snapshot that a pass met: its session's log has its begin, with declared tables where it was moved
pub record WasLive (logs : ℕ → List LogEntry) (told : Told) : Type 0 where
  pub begun : IsTrue (began_at false told.number (logs told.session))
  pub declared : MatchBool told.moved (IsTrue (began_at true told.number (logs told.session))) ⊤

-- a printed report, after the lines before it
pub record IsGathered (h : History) (logs : ℕ → List LogEntry) (earlier : List Said) (sweep : Sweep) : Type 0 where
  pub rising : Each (λ mark. mark ≤ sweep.mark) (filter_map (mark_of sweep.kind) earlier)
  pub horizon : sweep.horizon ≤ sweep.mark
  pub mark : sweep.mark ≤ length h
  pub sessions : Ascends (map (λ told. told.session) sweep.held)
  pub held : Each (WasLive logs) sweep.held
