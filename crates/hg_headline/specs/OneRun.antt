-- One run of the state machine that prints a text: one list of steps, whose logs give the replies and whose journals give the reports.
use Rattle.std.specs.Prelude.{◌≡◌, ◌⊎◌, ℕ, suc, ◌+◌, ◌-◌, ◌^◌, ◌<◌, ◌==◌, ◌&&◌, not, nat_le, Bool, true, Option, Some, None, List, [], ◌∷◌, ◌++◌, length, map, filter, filter_map, IsSome, ⊤}
use Rattle.hg_base.specs.declared.rid.Rid.{Rid}
use Rattle.hg_base.specs.declared.report.Kind.{Kind}
use Rattle.hg_base.specs.declared.report.Kind.TheVariants as kinds
use Rattle.hg_base.specs.declared.report.Entry.{Entry}
use Rattle.hg_base.specs.declared.report.Sweep.{Sweep}
use Rattle.hg_base.specs.declared.scope.Scope.{Scope}
use Rattle.hg_base.specs.declared.scope.Scope.TheVariants.{All, Declared}
use Rattle.hg_base.specs.declared.line.Line.{Line}
use Rattle.hg_base.specs.declared.line.Totals.{Totals}
use Rattle.hg_base.specs.Lists.{Each}
use Rattle.hg_base.specs.Freshness.{is_declared}
use Rattle.hg_base.specs.History.{Group, History, group_image}
use Rattle.hg_base.specs.Reports.{told_of}
use Rattle.hg_base.specs.Script.{Script}
use Rattle.hg_base.specs.Shape.{same_kind, report_of}
use Rattle.hg_base.specs.Transcript.{of_session}
use Rattle.hg_core.specs.declared.journal.PassEntry.{PassEntry}
use Rattle.hg_core.specs.declared.journal.PassEntry.TheVariants.{Marked, Sampled, Masked, Tried, Took}
use Rattle.hg_core.specs.declared.loaded.Loaded.{Loaded}
use Rattle.hg_core.specs.declared.log.LogEntry.{LogEntry}
use Rattle.hg_core.specs.declared.register.Register.{Register}
use Rattle.hg_core.specs.declared.register.Register.TheVariants.{Idle, Entering, Live}
use Rattle.hg_core.specs.declared.visit.Visit.{Visit}
use Rattle.hg_core.specs.Clean.{IsClean, IsCutAt}
use Rattle.hg_core.specs.Contents.{Content, bucket_of, look}
use Rattle.hg_core.specs.Counters.{removed_all}
use Rattle.hg_core.specs.Events.{masked_in, moved_in}
use Rattle.hg_core.specs.Passes.{PassRecord, least_entering, horizon, recorded, group_bound, table_bound}
use Rattle.hg_core.specs.Phases.{IsSession}
use Rattle.hg_core.specs.Reading.{Tells}
use Rattle.hg_core.specs.State.{CoreState, opened}
use Rattle.hg_core.specs.Steps.{Step, Run, run, LeadsTo}
use Rattle.hg_core.specs.Sums.{sum_below}
use Rattle.hg_headline.specs.Counted.{Closes}

-- ---- the rounds of a journal

-- a round: its number, the mark that its pass loaded, and what the pass noted up to the next mark
pub record Round : Type 0 where
  pub number : ℕ
  pub mark : ℕ
  pub notes : List PassEntry

-- what is noted before the next load of the mark
abbrev pub up_to_mark : List PassEntry → List PassEntry
up_to_mark [] = []
up_to_mark (Marked mark ∷ notes) = []
up_to_mark (note ∷ notes) = note ∷ up_to_mark notes

-- the rounds after the first n, oldest first
abbrev pub rounds_after : ℕ → List PassEntry → List Round
rounds_after n [] = []
rounds_after n (Marked mark ∷ notes) = record { number = suc n; mark = mark; notes = up_to_mark notes } ∷ rounds_after (suc n) notes
rounds_after n (_ ∷ notes) = rounds_after n notes

-- all rounds of a journal
abbrev pub rounds_in : List PassEntry → List Round
rounds_in journal = rounds_after 0 journal

-- what was loaded before any move, the last one first
abbrev pub sampled_in : List (ℕ × Loaded) → List PassEntry → List (ℕ × Loaded)
sampled_in loaded [] = loaded
sampled_in loaded (Sampled j register ∷ notes) = sampled_in ((j, record { register = register; mask = None }) ∷ loaded) notes
sampled_in loaded (Masked j mask ∷ notes) = sampled_in (masked_in j mask loaded) notes
sampled_in loaded (_ ∷ notes) = sampled_in loaded notes

-- and after those moves that succeeded
abbrev pub loaded_in : List (ℕ × Loaded) → List PassEntry → List (ℕ × Loaded)
loaded_in loaded [] = loaded
loaded_in loaded (Sampled j register ∷ notes) = loaded_in ((j, record { register = register; mask = None }) ∷ loaded) notes
loaded_in loaded (Masked j mask ∷ notes) = loaded_in (masked_in j mask loaded) notes
loaded_in loaded (Tried j number true ∷ notes) = loaded_in (moved_in j loaded) notes
loaded_in loaded (_ ∷ notes) = loaded_in loaded notes

-- the tries: of which session, at which number, and whether it was moved
abbrev pub tries_in : List PassEntry → List (ℕ × (ℕ × Bool))
tries_in [] = []
tries_in (Tried j number moved ∷ notes) = (j, (number, moved)) ∷ tries_in notes
tries_in (_ ∷ notes) = tries_in notes

-- ---- what a round reports

-- the tables of a mask, and all where none was loaded
abbrev pub scope_of : Option ℕ → Scope
scope_of None = All
scope_of (Some mask) = Declared mask

-- the entry of a session's register, where it is live
abbrev pub entry_of : ℕ → Register → Option ℕ → List Entry
entry_of j Idle mask = []
entry_of j (Entering f) mask = []
entry_of j (Live number declared moved) mask = record { session = j; number = number; scope = scope_of mask; moved = moved } ∷ []

-- the entries of what was loaded, in the order of sessions
abbrev pub entries_in : List (ℕ × Loaded) → List Entry
entries_in [] = []
entries_in (e ∷ loaded) = entries_in loaded ++ entry_of e.0 e.1.register e.1.mask

-- of the visits of a pass, those that it made in this round
abbrev pub visits_of : Round → List Visit → List Visit
visits_of round visits = filter (λ visit. visit.round == round.number) visits

-- the report of a round of this kind in which these visits were made
abbrev pub round_report : Kind → List Visit → Round → Sweep
round_report kind visits round = record {
  kind = kind;
  mark = round.mark;
  horizon = least_entering round.mark (loaded_in [] round.notes);
  removed = removed_all kind visits;
  held = map told_of (entries_in (loaded_in [] round.notes));
}

-- an entry is long in use at a mark: its tables are declared, it isn't moved, and it is so many commit numbers old
abbrev pub is_old : ℕ → ℕ → Entry → Bool
is_old mark long e = is_declared e.scope && (not e.moved && (nat_le e.number mark && nat_le long (mark - e.number)))

-- the round tried each snapshot that it loaded and that is long in use once, in the order of sessions, and no other
abbrev pub MovesLong : ℕ → Round → Type 0
MovesLong long round = map {B = ℕ × ℕ} (λ t. (t.0, t.1.0)) (tries_in round.notes) ≡
    map {B = ℕ × ℕ} (λ e. (e.session, e.number)) (filter (is_old round.mark long) (entries_in (sampled_in [] round.notes)))

-- the round tried none
abbrev pub MovesNone : Round → Type 0
MovesNone round = tries_in round.notes ≡ []

-- which tries a round of a collector makes
abbrev pub TriesBy : Kind → ℕ → Round → Type 0
TriesBy kinds.Table long round = MovesLong long round
TriesBy kind long round = MovesNone round

-- what a round loaded, as the record of its pass
abbrev pub record_in : Round → PassRecord
record_in round = record { mark = round.mark; round = round.number; known = λ j. 0; loaded = loaded_in [] round.notes; journal = [] }

-- one of the visits is of bucket b, and gave back such a content
abbrev pub GaveBack : ℕ → (Content → Type 0) → List Visit → Type 0
GaveBack b P [] = ⊥
GaveBack b P (visit ∷ visits) = ((visit.bucket ≡ b) × ((given : Content) × ((visit.given ≡ Some given) × P given))) ⊎ GaveBack b P visits

-- each record that group n of the history writes was given back cut at the bound of what the round loaded
pub record HasCutGroup (buckets : ℕ) (history : History) (round : Round) (visits : List Visit) (n : ℕ) : Type 0 where
  pub before : History
  pub group : Group
  pub later : History
  pub parts : history ≡ before ++ group ∷ later
  pub number : n ≡ suc (length before)
  pub cut : (r : Rid) → IsSome (group_image r group) → GaveBack (bucket_of buckets r) (λ given. IsCutAt (group_bound (record_in round)) (look r given)) visits

-- the groups that a round took
abbrev pub taken_in : List PassEntry → List ℕ
taken_in [] = []
taken_in (Took group ∷ notes) = group ∷ taken_in notes
taken_in (_ ∷ notes) = taken_in notes

-- What a round of this kind did by these visits. A group collector's round cut each record of the groups that it took. Each other round
-- left each bucket with all of its records cut at their table's bound, or clean.
abbrev pub Cleans : Kind → ℕ → History → Round → List Visit → Type 0
Cleans kinds.Group buckets history round visits = Each (HasCutGroup buckets history round visits) (taken_in round.notes)
Cleans kinds.Table buckets history round visits = (b : ℕ) → b < buckets → GaveBack b (λ given. (r : Rid) → IsCutAt (table_bound r.table (record_in round)) (look r given)) visits
Cleans kinds.Interval buckets history round visits = (b : ℕ) → b < buckets → GaveBack b (λ given. (r : Rid) → IsClean (horizon (record_in round)) (recorded r.table (record_in round)) (look r given)) visits

-- the number of a collector's pass
abbrev pub pass_of : Kind → ℕ
pass_of kinds.Group = 0
pass_of kinds.Table = 1
pass_of kinds.Interval = 2

-- The pass of that collector made the rounds of these reports, and none between them, by the rule of its kind; and then others that print
-- nothing, which try no snapshot unless it is 2^64 - 1 commit numbers old. Before its first round it noted nothing.
pub record HasReported (kind : Kind) (long : ℕ) (s : CoreState) (sweeps : List Sweep) : Type 0 where
  pub printed : List Round
  pub others : List Round
  pub begins : up_to_mark (s.pass (pass_of kind)).journal ≡ []
  pub rounds : rounds_in (s.pass (pass_of kind)).journal ≡ printed ++ others
  pub reports : map (λ round. round_report kind (visits_of round (s.visits (pass_of kind))) round) printed ≡ sweeps
  pub rule : Each (TriesBy kind long) printed
  pub rest : Each (TriesBy kind (2 ^ 64 - 1)) others
  pub clean : Each (λ round. Cleans kind s.buckets s.history round (visits_of round (s.visits (pass_of kind)))) printed

-- ---- the run

-- the lines of session j
abbrev pub lines_of : ℕ → List Line → List Line
lines_of j lines = filter (λ line. line.session == j) lines

-- the reports of that kind among the lines
abbrev pub reports_in : Kind → List Line → List Sweep
reports_in kind lines = filter (λ sweep. same_kind sweep.kind kind) (filter_map (λ line. report_of line.reply) lines)

-- the totals are those of the counters of all buckets, and of the rest
pub record AreTotalsAt (s : CoreState) (totals : Totals) : Type 0 where
  pub made : totals.made ≡ sum_below s.buckets (λ b. (s.counters b).made)
  pub undone : totals.undone ≡ sum_below s.buckets (λ b. (s.counters b).undone)
  pub group : totals.group ≡ sum_below s.buckets (λ b. (s.counters b).removed.group)
  pub table : totals.table ≡ sum_below s.buckets (λ b. (s.counters b).removed.table)
  pub interval : totals.interval ≡ sum_below s.buckets (λ b. (s.counters b).removed.interval)

-- What is known at the end of a run: a list of steps leads there, the log of each session is as these lines leave it but for what is rolled
-- back then, and the state has the lines' reports, and the totals.
pub record HasEnded (sessions more buckets quota long : ℕ) (script : Script) (logs : ℕ → List LogEntry) (lines : List Line) (totals : Totals) : Type 0 where
  pub state : CoreState
  pub reached : LeadsTo (opened (more + sessions) (length script.tables) buckets 3 quota) state
  pub closed : (j : ℕ) → IsSession sessions j → Closes (logs j) (state.log j)
  pub passes : state.passes ≡ 3
  pub reported : (kind : Kind) → HasReported kind long state (reports_in kind lines)
  pub counted : AreTotalsAt state totals

-- One list of steps of sessions, committers and collectors, each of which may happen in its turn, printed these lines and these totals.
-- Besides the sessions of the script there are so many more that print no line: a dump has one, which reads.
pub record IsOneRun (sessions more buckets quota long : ℕ) (script : Script) (lines : List Line) (totals : Totals) : Type 0 where
  pub steps : List Step
  pub may : Run (opened (more + sessions) (length script.tables) buckets 3 quota) steps
  -- the log of each session as its lines leave it
  pub logs : ℕ → List LogEntry
  -- each session's lines are the replies that its log gives
  pub told : (j : ℕ) → IsSession sessions j → Tells buckets (λ r line. ⊤) [] None (of_session j script.records) (lines_of j lines) (logs j)
  -- and what is open then is rolled back without a line
  pub closed : (j : ℕ) → IsSession sessions j → Closes (logs j) ((run (opened (more + sessions) (length script.tables) buckets 3 quota) steps).log j)
  -- each pass that was split off is united with one of the three
  pub passes : (run (opened (more + sessions) (length script.tables) buckets 3 quota) steps).passes ≡ 3
  -- the reports of each kind are those of the rounds of its collector's pass
  pub reported : (kind : Kind) → HasReported kind long (run (opened (more + sessions) (length script.tables) buckets 3 quota) steps) (reports_in kind lines)
  pub counted : AreTotalsAt (run (opened (more + sessions) (length script.tables) buckets 3 quota) steps) totals
