-- Wrong steps. Each is refuted by a state that meets the invariant.
use Rattle.std.specs.Prelude.{◌≡◌, ℕ, ◌<◌, ◌≤◌, List, [], ◌∷◌, length, Bool, false, ◌&&◌, not, nat_le, nat_lt, if◌then◌else◌, Option, Some, None, is_none, IsSome, IfSome, IsTrue, IsFalse}
use Rattle.std.specs.List.{list_any}
use Rattle.hg_base.specs.declared.rid.Rid.{Rid}
use Rattle.hg_base.specs.Lists.{Each}
use Rattle.hg_base.specs.History.{NoNumberTwice}
use Rattle.hg_base.specs.Transcript.{has}
use Rattle.hg_base.specs.Freshness.{is_declared}
use Rattle.hg_core.specs.declared.log.LogEntry.{LogEntry}
use Rattle.hg_core.specs.Logs.{current, is_plain}
use Rattle.hg_core.specs.declared.version.Version.{Version}
use Rattle.hg_core.specs.Versions.{stamp_number, is_up_to, newest_at}
use Rattle.hg_base.specs.declared.report.Kind.{Kind}
use Rattle.hg_base.specs.declared.report.Kind.TheVariants.{Interval}
use Rattle.hg_core.specs.Contents.{bucket_of, versions, has_stamped}
use Rattle.hg_core.specs.Removal.{swept, cut}
use Rattle.hg_base.specs.declared.scope.Scope.{Scope}
use Rattle.hg_core.specs.declared.register.Register.{Register}
use Rattle.hg_core.specs.declared.register.Register.TheVariants as registers
use Rattle.hg_core.specs.declared.phase.Phase.TheVariants.{Fixed, Live}
use Rattle.hg_core.specs.declared.log.LogEntry.TheVariants.{Began}
use Rattle.hg_core.specs.Words.{IsBelow, mask_of}
use Rattle.hg_core.specs.Phases.{IsSession}
use Rattle.hg_core.specs.Passes.{PassRecord, found, horizon, live_numbers, recorded, least}
use Rattle.hg_core.specs.Visits.{IsVisiting}
use Rattle.hg_core.specs.State.{CoreState}
use Rattle.hg_core.specs.Events.{GoLive, Sample, SampleMask, put, sampled, shortened, happens}

-- a session that entered goes live at the mark that it loaded before: it loads the mark once alone
abbrev pub live_by_one_load : CoreState → ℕ → ℕ → Scope → CoreState
live_by_one_load s j f scope = record s { phase = put s.phase j (Live f scope); register = put s.register j (registers.Live f (is_declared scope) false); log = put s.log j (Began f scope ∷ s.log j) }

-- a record that keeps the registers that it has, and loads the mark after them
abbrev pub mark_loaded_last : CoreState → ℕ → CoreState
mark_loaded_last s p = record s { pass = put s.pass p (record (s.pass p) { mark = s.mark }) }

-- a horizon that leaves out the entering numbers
abbrev pub mark_alone : PassRecord → ℕ
mark_alone pass = pass.mark

-- a register whose entering number is left out
abbrev pub without_entering : Register → Register
without_entering registers.Idle = registers.Idle
without_entering (registers.Entering f) = registers.Idle
without_entering (registers.Live number declared moved) = registers.Live number declared moved

-- a pass that loads a register and leaves out its entering number
abbrev pub sampled_without_entering : CoreState → ℕ → ℕ → CoreState
sampled_without_entering s p j = record s { pass = put s.pass p (sampled (s.pass p) j (without_entering (s.register j))) }

-- a session that has fixed a number may go live there with any tables that are there, whatever it declared
pub record MayGoLiveWith (s : CoreState) (j m : ℕ) (scope : Scope) : Type 0 where
  pub fixed : (declared : Scope) × (f : ℕ) × (s.phase j ≡ Fixed declared f m)
  pub tables : IsBelow s.tables scope

-- a session goes live, a pass loads its register and its mask word, and then it stores the mask word
abbrev pub mask_stored_late : CoreState → ℕ → ℕ → ℕ → Scope → CoreState
mask_stored_late s p j m scope = let loaded = happens (happens (happens s (GoLive j m scope)) (Sample p j)) (SampleMask p j) in record loaded { mask = put loaded.mask j (mask_of scope) }

-- a register comes into a record with a mask that the pass has loaded before
abbrev pub sampled_with : CoreState → ℕ → ℕ → ℕ → CoreState
sampled_with s p j mask = record s { pass = put s.pass p (record (s.pass p) { loaded = (j, record { register = s.register j; mask = Some mask }) ∷ (s.pass p).loaded }) }

-- a pass may take away versions once it has loaded all registers, whatever masks it has
pub record MayReclaimUnmasked (s : CoreState) (p : ℕ) (r : Rid) : Type 0 where
  pub registers : (j : ℕ) → IsSession s.sessions j → IsSome (found j (s.pass p).loaded)
  pub here : IsVisiting (bucket_of s.buckets r) (s.visits p)

-- whether a version goes whose lifetime begins after its own number
abbrev pub goes_early : ℕ → List ℕ → Option ℕ → Option ℕ → Bool
goes_early horizon snapshots None number = false
goes_early horizon snapshots (Some u) None = false
goes_early horizon snapshots (Some u) (Some n) = nat_le u horizon && not (list_any (λ s. nat_lt n s && nat_lt s u) snapshots)

-- what a sweep by that test leaves
abbrev pub swept_early : ℕ → List ℕ → Option ℕ → List Version → List Version
swept_early horizon snapshots successor [] = []
swept_early horizon snapshots successor (v ∷ vs) =
    if goes_early horizon snapshots successor (stamp_number v.stamp)
    then swept_early horizon snapshots (stamp_number v.stamp) vs
    else v ∷ swept_early horizon snapshots (stamp_number v.stamp) vs

-- whether a version goes whose lifetime ends with its successor's number
abbrev pub goes_late : ℕ → List ℕ → Option ℕ → Option ℕ → Bool
goes_late horizon snapshots None number = false
goes_late horizon snapshots (Some u) None = false
goes_late horizon snapshots (Some u) (Some n) = nat_le u horizon && not (list_any (λ s. nat_le n s && nat_le s u) snapshots)

-- what a sweep by that test leaves
abbrev pub swept_late : ℕ → List ℕ → Option ℕ → List Version → List Version
swept_late horizon snapshots successor [] = []
swept_late horizon snapshots successor (v ∷ vs) =
    if goes_late horizon snapshots successor (stamp_number v.stamp)
    then swept_late horizon snapshots (stamp_number v.stamp) vs
    else v ∷ swept_late horizon snapshots (stamp_number v.stamp) vs

-- a sweep with lifetimes that don't have their own number
abbrev pub lifetime_past : CoreState → ℕ → Rid → CoreState
lifetime_past s p r = shortened s p Interval r (swept_early (horizon (s.pass p)) (recorded r.table (s.pass p)) None (versions s.buckets s.bucket r))

-- a cut by a collector of a kind, at a bound that leaves out all moved snapshots
abbrev pub cut_past_moved : CoreState → ℕ → Kind → Rid → CoreState
cut_past_moved s p kind r = shortened s p kind r (cut (least (horizon (s.pass p)) (live_numbers (λ moved mask. not moved) (s.pass p).loaded)) (versions s.buckets s.bucket r))

-- the versions without the newest, where that is a deletion at or below a horizon
abbrev pub without_deletion : ℕ → List Version → List Version
without_deletion horizon [] = []
without_deletion horizon (v ∷ vs) = if is_up_to horizon (stamp_number v.stamp) && is_none v.image.row then vs else v ∷ vs

-- a sweep that takes a deletion though older versions stay
abbrev pub newest_deletion_removed : CoreState → ℕ → Rid → CoreState
newest_deletion_removed s p r = shortened s p Interval r (without_deletion (horizon (s.pass p)) (swept (horizon (s.pass p)) (recorded r.table (s.pass p)) None (versions s.buckets s.bucket r)))

-- some sessions may publish, as far as their logs tell, whatever is stamped
pub record MayPublishEarly (log : ℕ → List LogEntry) (sessions : List ℕ) : Type 0 where
  pub some : 0 < length sessions
  pub distinct : NoNumberTwice sessions
  pub opened : Each (λ j. IsSome (current (log j))) sessions
  pub plain : Each (λ j. IsTrue (is_plain (log j))) sessions

-- a session may write, whoever else has the record open
pub record MayInstallOver (s : CoreState) (j : ℕ) (r : Rid) (at : ℕ) (scope : Scope) : Type 0 where
  pub live : s.phase j ≡ Live at scope
  pub table : IsTrue (has scope r.table)
  pub there : r.table.0 < s.tables
  pub plain : IsTrue (is_plain (s.log j))
  pub unstamped : IsFalse (has_stamped j s.stamped_list)
  pub newest : IfSome (newest_at s.mark (versions s.buckets s.bucket r)) (λ pair. pair.0 ≤ at)
