-- The numbers that lines print, in the order of the lines.
use Rattle.std.specs.Prelude.{ℕ, ◌<◌, ◌≤◌, List, [], ◌∷◌, Option, Some, None, option_map, IfSome}
use Rattle.std.specs.Option.{option_or}
use Rattle.hg_base.specs.declared.statement.Statement.{Statement}
use Rattle.hg_base.specs.declared.statement.Record.{Record}
use Rattle.hg_base.specs.declared.line.Answer.TheVariants.{Begun, Newer}
use Rattle.hg_base.specs.declared.line.Reply.{Reply}
use Rattle.hg_base.specs.declared.line.Line.{Line}
use Rattle.hg_base.specs.Lists.{Each, present}
use Rattle.hg_base.specs.Transcript.{committed_by}
use Rattle.hg_base.specs.Shape.{report_of}

-- the snapshot that a reply prints
abbrev pub snapshot_in : Reply → Option ℕ
snapshot_in reply = elim reply.answer [ Begun at ↦ Some at | _ ↦ reply.at ]

-- the number of the newer commit for which a reply refuses a write
abbrev pub newer_in : Reply → Option ℕ
newer_in reply = elim reply.answer [ Newer c ↦ Some c | _ ↦ None ]

-- the mark of the report that a reply prints
abbrev pub mark_in : Reply → Option ℕ
mark_in reply = option_map (λ sweep. sweep.mark) (report_of reply)

-- the commit number that a reply prints
abbrev pub commit_in : Statement → Reply → Option ℕ
commit_in statement reply = option_or reply.number (committed_by statement reply.answer)

-- the numbers that it read
abbrev pub reads_in : Reply → List ℕ
reads_in reply = present (snapshot_in reply ∷ newer_in reply ∷ mark_in reply ∷ [])

-- Where each number printed before is at or below top, each one after it is at or below next. A snapshot and a mark are at or
-- over all numbers before; a commit number is over them, and over those that its own line read.
pub record IsTimely (top : ℕ) (next : ℕ) (statement : Statement) (reply : Reply) : Type 0 where
  pub grows : top ≤ next
  pub reads : Each (λ n. n ≤ next) (reads_in reply)
  pub snapshot : IfSome (snapshot_in reply) (λ at. top ≤ at)
  pub mark : IfSome (mark_in reply) (λ m. top ≤ m)
  pub newer : IfSome (newer_in reply) (λ c. 0 < c)
  pub commit : IfSome (commit_in statement reply) (λ c. (top < c) × (c ≤ next) × Each (λ n. n < c) (reads_in reply))

-- line by line, where each number printed before is at or below the first top, and each one at the end at or below the last
abbrev pub Rises : ℕ → List Record → List Line → ℕ → Type 0
Rises top [] [] last = top ≤ last
Rises top [] (line ∷ lines) last = ⊥
Rises top (r ∷ rs) [] last = ⊥
Rises top (r ∷ rs) (line ∷ lines) last = (next : ℕ) × IsTimely top next r.statement line.reply × Rises next rs lines last
