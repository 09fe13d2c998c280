-- What a session's part becomes when it is handed over, what is done with it there, and how it comes back.
use Rattle.std.specs.Prelude.{◌≡◌, ℕ, suc, ◌<◌, ◌≤◌, true, List, [], ◌∷◌, ◌++◌, length, map, ◌==◌, if◌then◌else◌, IsSome, IsTrue}
use Rattle.atomic_table.specs.Table.{Step}
use Rattle.hg_base.specs.declared.rid.Rid.{Rid}
use Rattle.hg_base.specs.declared.writer.Writer.{Writer}
use Rattle.hg_base.specs.History.{Group, History}
use Rattle.hg_base.specs.Lists.{Each}
use Rattle.hg_core.specs.declared.log.LogEntry.TheVariants.{Published}
use Rattle.hg_core.specs.Logs.{begans, is_plain, open_in, is_in, commit_in}
use Rattle.hg_core.specs.Phases.{snapshot_in}
use Rattle.hg_core.specs.Contents.{is_stamped}
use Rattle.hg_rule.specs.declared.view.SessionPart.{SessionPart}
use Rattle.hg_rule.specs.declared.view.CommitPart.{CommitPart}
use Rattle.hg_rule.specs.declared.view.Part.{Part}
use Rattle.hg_rule.specs.declared.view.Part.TheVariants.{OfSession, OfBucket, OfCommit, OfPass, Away, Lent}
use Rattle.hg_rule.specs.declared.view.Sight.{Sight}
use Rattle.hg_rule.specs.declared.view.Sight.TheVariants.{Saw, Heard}
use Rattle.hg_rule.specs.declared.view.Event.TheVariants.{Stamp, HandOver, HandBack, Publish}
use Rattle.hg_rule.specs.declared.view.View.{View}
use Rattle.hg_rule.specs.Facts.{groups, new_session, IsLeft}
use Rattle.hg_rule.specs.Views.{number, part_number, session, session_there, since, first_in, others, seeing, then_has}
use Rattle.hg_rule.specs.Moves.{but_second}
use Rattle.hg_rule.specs.Steps.{IsHistoryAt, Seated, loaded_in}
use Rattle.hg_rule.specs.Holding.{bucket_number, bucket, beyond, farther, commit, commit_behind}
use Rattle.hg_rule.specs.Writes.{stamping, listing, with_stamp, with_published}

-- ---- sessions with their parts

-- sessions, each with its part
abbrev pub Members : Type 0
Members = List (ℕ × SessionPart)

-- the parts of these sessions, as parts that were handed over
abbrev pub lent : Members → List Part
lent [] = []
lent (m ∷ ms) = Lent m.0 m.1 ∷ lent ms

-- the sessions that handed over a part among these, each with that part
abbrev pub members : List Part → Members
members [] = []
members (OfSession j s ∷ parts) = members parts
members (OfBucket b c ∷ parts) = members parts
members (OfCommit h ∷ parts) = members parts
members (OfPass p r ∷ parts) = members parts
members (Away j s n ∷ parts) = members parts
members (Lent j s ∷ parts) = (j, s) ∷ members parts

-- these parts were handed over, all of them
abbrev pub AreLent : List Part → Type 0
AreLent parts = parts ≡ lent (members parts)

-- the numbers of these sessions
abbrev pub who : Members → List ℕ
who ms = map (λ m. m.0) ms

-- session j's part among these, and a new session's where it is not one of them
abbrev pub part_of : ℕ → Members → SessionPart
part_of j [] = new_session
part_of j (m ∷ ms) = if m.0 == j then m.1 else part_of j ms

-- the open transaction of session j, by the begins in its part's log
abbrev pub writer_at : ℕ → Members → Writer
writer_at j ms = record { session = j; transaction = begans (part_of j ms).log }

-- the same sessions, where session j is noted to have a write with the next number
abbrev pub flag : ℕ → Members → Members
flag j [] = []
flag j (m ∷ ms) = (m.0, if m.0 == j then with_stamp m.1 else m.1) ∷ flag j ms

-- the same sessions, after each one's transaction was published under n
abbrev pub numbered : ℕ → Members → Members
numbered n [] = []
numbered n (m ∷ ms) = (m.0, with_published n m.1) ∷ numbered n ms

-- the sights of these sessions' logs after they were published under n
abbrev pub hears : ℕ → Members → List Sight
hears n [] = []
hears n (m ∷ ms) = Heard m.0 (Published n ∷ m.1.log) ∷ hears n ms

-- the transactions of these sessions as one group of the history
abbrev pub group_of : Members → Group
group_of ms = map (λ m. commit_in m.0 m.1.log) ms

-- what has to hold of a group before it is published
pub record MayPublish (ms : Members) (list : List (ℕ × Rid)) : Type 0 where
  -- the group has a session
  pub some : 0 < length ms
  -- each of its sessions is live
  pub live : Each (λ m. IsSome (snapshot_in m.1.phase)) ms
  -- nothing of its sessions' transactions was undone or published
  pub plain : Each (λ m. IsTrue (is_plain m.1.log)) ms
  -- each session has a write with the next number
  pub flagged : Each (λ m. m.1.stamped ≡ true) ms
  -- no other session has one
  pub alone : Each (λ e. IsTrue (is_in (who ms) e.0)) list
  -- each open write of its sessions has the next number
  pub every : Each (λ m. (rid : Rid) → IsSome (open_in rid m.1.log) → IsTrue (is_stamped m.0 rid list)) ms

-- ---- handing over, and back

-- the session's part that follows the view's first part
abbrev pub next_lent : View → SessionPart
next_lent v = session_there (first_in (others v))

-- the part that follows the view's first was handed over by session j
abbrev pub HasLent : ℕ → View → Type 0
HasLent j v = others v ≡ Lent j (next_lent v) ∷ beyond v

-- the note that v keeps in place of its session's part, which was handed over when the mark was n
abbrev pub away : View → ℕ → Part
away v n = Away (number v) (session v) n

-- w is v after its session's part left it, when the mark was n; a note keeps the part's place
abbrev pub HandsOver : View → ℕ → View → Type 0
HandsOver v n w = (h : History) × (IsHistoryAt v n h × (w ≡ then_has v (away v n ∷ others v) (Saw (groups h) ∷ []) (HandOver (number v) n)))

-- w is v in the middle of a hand-over: the part follows its place, and has not left yet
abbrev pub Lends : View → ℕ → View → Type 0
Lends v n w = (h : History) × (IsHistoryAt v n h × ((loaded_in (session v).phase ≤ n)
    × (w ≡ then_has v (away v n ∷ Lent (number v) (session v) ∷ others v) (Saw (groups h) ∷ []) (HandOver (number v) n))))

-- the view of the seat that leaves: session j's part alone, and what w has seen
abbrev pub lent_alone : ℕ → SessionPart → View → View
lent_alone j s w = seeing (Lent j s ∷ []) w.sights []

-- v with the part of w after all of its own
abbrev pub received : View → View → View
received v w = seeing (v.parts ++ w.parts) (v.sights ++ w.sights) v.events

-- v without the part that follows its first, which is handed back
abbrev pub hands_back : View → View
hands_back v = seeing (but_second v.parts) v.sights (v.events ++ HandBack (part_number (others v)) ∷ [])

-- The part is as it was, or its transaction was published under a number over n, the mark at which it was handed over.
pub record IsBack (n : ℕ) (was now : SessionPart) : Type 0 where
  pub phase : now.phase ≡ was.phase
  pub log : IsLeft n was.log now.log

-- v after its session's part came back with w
abbrev pub resuming : View → View → View
resuming v w = seeing (OfSession (number v) (session w) ∷ others v) (v.sights ++ w.sights) v.events

-- w is v after its session's part, which follows its place, came back to that place
abbrev pub Retakes : View → View → Type 0
Retakes v w = (w ≡ seeing (OfSession (number v) (next_lent v) ∷ beyond v) v.sights v.events) × IsBack (since v) (session v) (next_lent v)

-- ---- a group

-- w is v after session j's open write of the record got number n, and was listed in the committer's part
abbrev pub Stamps : View → ℕ → Rid → ℕ → View → Type 0
Stamps v j rid n w = let ms = members (farther v) in
    w ≡ then_has v (away v (since v) ∷ OfBucket (bucket_number v) (stamping n (writer_at j ms) rid (bucket v)) ∷ OfCommit (listing j rid (commit_behind v)) ∷ lent (flag j ms)) [] (Stamp j rid n)

-- the committer's part after the group of these sessions joined the history: no write has the next number then
abbrev pub publishing : Members → CommitPart → CommitPart
publishing ms part = record part { history = groups (part.history.list ++ group_of ms ∷ []); stamped = [] }

-- w is v after all that it received was published under n. The history before is the whole one, so n is over all that was seen.
abbrev pub Publishes : View → ℕ → View → Type 0
Publishes v n w = let ms = members (beyond v) in let h = (commit v).history.list in
    IsHistoryAt v (length h) h × (w ≡ then_has v (away v (since v) ∷ OfCommit (publishing ms (commit v)) ∷ lent (numbered n ms)) (Saw (groups (h ++ group_of ms ∷ [])) ∷ hears n ms) (Publish n))

-- ---- the same steps, as the table plays them

-- the step of `Lends`, by the mark that was found
abbrev pub lends : Step ℕ → Seated → ℕ → Seated → Type 0
lends step m n w = Lends m.0 n w.0 × (w.1 ≡ m.1)

-- the step of `Retakes`
abbrev pub retakes : Step ℕ → Seated → ℕ → Seated → Type 0
retakes step m n w = Retakes m.0 w.0 × (w.1 ≡ m.1)

-- the step of `Stamps`, with the number that follows the length of the history
abbrev pub stamps : ℕ → Rid → Step ℕ → Seated → ℕ → Seated → Type 0
stamps j rid step m n w = Stamps m.0 j rid (suc (length (commit_behind m.0).history.list)) w.0 × (w.1 ≡ m.1)

-- the step of `Publishes`, by the number that was stored
abbrev pub publishes : Step ℕ → Seated → ℕ → Seated → Type 0
publishes step m n w = Publishes m.0 n w.0 × (w.1 ≡ m.1)
