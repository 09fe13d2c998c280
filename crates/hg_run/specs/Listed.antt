-- The sessions of a replay in the order of their numbers: session j is at index j - 1.
use Rattle.std.specs.Prelude.{◌≡◌, ℕ, suc, ◌+◌, ◌≤◌, ◌<◌, ◌≢◌, List, length, get_or, Bool, cond, ◌==◌, Option, is_some}
use Rattle.hg_base.specs.Transcript.{Rest}
use Rattle.hg_session.specs.declared.engine.Engine.{Engine}
use Rattle.hg_session.specs.declared.session.Session.{Session}
use Rattle.hg_session.specs.Cursors.{HasLeft}
use Rattle.hg_session.specs.Engines.{engine_sizes}
use Rattle.hg_session.specs.Sessions.{view_of, number_of, left_of, cursor_of, IsOf}
use Rattle.hg_session.specs.Finished.{logs_of}
use Rattle.hg_run.specs.Heard.{HasHeard, HasSeen}

-- one at place k, which has number k + 1
pub record IsPlaced (e : Engine) (k : ℕ) (s : Session) : Type 0 where
  pub own : IsOf e s
  pub number_is : number_of s ≡ suc k

-- all sessions of the engine, each in its place
pub record ArePlaced (e : Engine) (list : List Session) : Type 0 where
  pub many : length list ≡ (engine_sizes e).sessions
  pub placed : (d : Session) (k : ℕ) → k < length list → IsPlaced e k (get_or list k d)

-- how many statements more each session may run: none
abbrev pub none_left : ℕ → ℕ
none_left j = 0

-- or one more for session i, and as many as before for each other
abbrev pub one_more : ℕ → (ℕ → ℕ) → ℕ → ℕ
one_more i left j = cond (i == j) (suc (left j)) (left j)

-- All sessions of the engine, each in its place. Session j may run `left j` statements more. The last one that ran has heard every log.
pub record AreReady (e : Engine) (last : ℕ) (left : ℕ → ℕ) (list : List Session) : Type 0 where
  pub many : length list ≡ (engine_sizes e).sessions
  pub within : last < length list
  pub placed : (d : Session) (k : ℕ) → k < length list → IsPlaced e k (get_or list k d)
  pub left_is : (d : Session) (k : ℕ) → k < length list → left (suc k) ≤ left_of (get_or list k d)
  pub heard : (d : Session) → HasHeard (logs_of list) (view_of (get_or list last d))

-- the one at a place has seen so many groups
abbrev pub SawAt : ℕ → ℕ → List Session → Type 0
SawAt n i list = (d : Session) → HasSeen n (view_of (get_or list i d)).sights

-- ---- one of them

-- only the one at a place may have changed
pub record HasChangedAt (i : ℕ) (old new : List Session) : Type 0 where
  pub many : length new ≡ length old
  pub rest : (d : Session) (k : ℕ) → k ≢ i → get_or new k d ≡ get_or old k d

-- It is the engine's, has the number that it had, and may run as many statements more as before, or one less.
pub record HasRunOne (e : Engine) (old new : Session) : Type 0 where
  pub number_is : number_of new ≡ number_of old
  pub left : left_of old ≤ left_of new + 1
  pub own : IsOf e new

-- ---- cursors

-- its cursor is open or not, and if it is, it has this left
pub record HasCursor (reads : Bool) (rest : Option Rest) (s : Session) : Type 0 where
  pub reads_is : is_some (cursor_of s) ≡ reads
  pub left : HasLeft s rest

-- the same of each session, by its number
abbrev pub HaveCursors : (ℕ → Bool) → (ℕ → Option Rest) → List Session → Type 0
HaveCursors reads rest list = (d : Session) (k : ℕ) → k < length list → HasCursor (reads (suc k)) (rest (suc k)) (get_or list k d)

-- each has the cursor that it had
abbrev pub KeepCursors : List Session → List Session → Type 0
KeepCursors old new = (d : Session) (k : ℕ) → k < length old → cursor_of (get_or new k d) ≡ cursor_of (get_or old k d)
