-- The state that words and views show, read by one function.
use Rattle.std.specs.Prelude.{◌≡◌, ℕ, suc, ◌<◌, max, List, [], ◌∷◌, ◌++◌, length, slice_index, Bool, true, false, ltb, if◌then◌else◌}
use Rattle.hg_core.specs.declared.register.Register.{Register}
use Rattle.hg_core.specs.declared.register.Register.TheVariants as registers
use Rattle.hg_core.specs.declared.phase.Phase.TheVariants as phases
use Rattle.hg_core.specs.Words.{register_of}
use Rattle.hg_core.specs.Phases.{IsSession}
use Rattle.hg_core.specs.State.{CoreState}
use Rattle.hg_core.specs.Steps.{LeadsTo}
use Rattle.hg_rule.specs.declared.view.Part.{Part}
use Rattle.hg_rule.specs.declared.view.Part.TheVariants.{OfSession, OfBucket, OfCommit, OfPass, Away, Lent}
use Rattle.hg_rule.specs.declared.view.View.{View}
use Rattle.hg_rule.specs.declared.view.Sizes.{Sizes}
use Rattle.hg_rule.specs.Keys.{Key, session_key, bucket_key, commit_key, pass_key, both, has, count, shares, whole_share}
use Rattle.hg_rule.specs.Words.{register_at, mask_at}
use Rattle.hg_rule.specs.Facts.{record_of, new_part}
use Rattle.hg_rule.specs.Rules.{new_state}
use Rattle.hg_rule.specs.Views.{session_there, bucket_there, commit_there, pass_there}

-- one of two parts, by a test
abbrev pub chosen : Bool → Part → Part → Part
chosen true p other = p
chosen false p other = other

-- the first part in a list that counts for a key, and the part of a new board where there is none
abbrev pub seek : Key → List Part → Part
seek k [] = new_part k
seek k (p ∷ parts) = chosen (has k p) p (seek k parts)

-- how many passes there are, where the list has the last one
abbrev pub passes_in : List Part → ℕ
passes_in [] = 0
passes_in (OfSession j s ∷ parts) = passes_in parts
passes_in (OfBucket b c ∷ parts) = passes_in parts
passes_in (OfCommit h ∷ parts) = passes_in parts
passes_in (OfPass p r ∷ parts) = max (suc p) (passes_in parts)
passes_in (Away j s n ∷ parts) = passes_in parts
passes_in (Lent j s ∷ parts) = passes_in parts

-- the state with this mark, these registers and these masks whose parts are those of a list
abbrev pub state_of : Sizes → ℕ → (ℕ → Register) → (ℕ → ℕ) → List Part → CoreState
state_of z mark register mask parts = record {
  sessions = z.sessions;
  tables = z.tables;
  buckets = z.buckets;
  quota = z.quota;
  passes = passes_in parts;
  mark = mark;
  register = register;
  mask = mask;
  history = (commit_there (seek commit_key parts)).history.list;
  stamped_list = (commit_there (seek commit_key parts)).stamped;
  taken = (commit_there (seek commit_key parts)).taken;
  phase = λ j. (session_there (seek (session_key j) parts)).phase;
  log = λ j. (session_there (seek (session_key j) parts)).log;
  bucket = λ b. (bucket_there (seek (bucket_key b) parts)).content;
  counters = λ b. (bucket_there (seek (bucket_key b) parts)).counters;
  pass = λ p. record_of (pass_there (seek (pass_key p) parts));
  visits = λ p. (pass_there (seek (pass_key p) parts)).visits;
}

-- the parts of all views
abbrev pub all_parts : List View → List Part
all_parts [] = []
all_parts (v ∷ views) = v.parts ++ all_parts views

-- the register of each session, from its word
abbrev pub registers_in : Sizes → List ℕ → ℕ → Register
registers_in z words j = if both (ltb 0 j) (ltb j (suc z.sessions)) then register_of (slice_index words (register_at j)) else registers.Idle

-- the state that these words and views show
abbrev pub read : Sizes → List ℕ → List View → CoreState
read z words views = state_of z (slice_index words 0) (registers_in z words) (λ j. slice_index words (mask_at j)) (all_parts views)

-- ---- one view that has everything

-- the view has each session, each bucket, the committer's part and all passes
pub record HasAll (z : Sizes) (v : View) : Type 0 where
  pub sessions : (j : ℕ) → IsSession z.sessions j → 0 < count (session_key j) v.parts
  pub buckets : (b : ℕ) → b < z.buckets → 0 < count (bucket_key b) v.parts
  pub commit : 0 < count commit_key v.parts
  -- a view that has all shares has all passes
  pub passes : shares v.parts ≡ whole_share

-- each of its sessions is at rest
abbrev pub AllRest : View → Type 0
AllRest v = (j : ℕ) → (session_there (seek (session_key j) v.parts)).phase ≡ phases.Idle

-- the state that its parts are, while all registers are idle, so that no mask counts
abbrev pub own_state : Sizes → View → CoreState
own_state z v = state_of z (length (commit_there (seek commit_key v.parts)).history.list) (λ _. registers.Idle) (λ _. 0) v.parts

-- a state without its masks
abbrev pub unmasked : CoreState → CoreState
unmasked s = record s { mask = λ _. 0 }

-- The view's parts are the state in which one list of steps ends that begins at a new board. At rest no mask counts.
pub record IsRunsEnd (z : Sizes) (v : View) : Type 0 where
  pub state : CoreState
  pub reached : LeadsTo (new_state z) state
  pub own : unmasked state ≡ own_state z v
