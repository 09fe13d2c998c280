-- What a replay prints for a script: the one text, but for what its reports say was removed and moved.
use Rattle.std.specs.Prelude.{ℕ, suc, List, [], ◌∷◌, map, if◌then◌else◌, Option, Some, None, is_some, false}
use Rattle.hg_base.specs.declared.statement.Statement.{Statement}
use Rattle.hg_base.specs.declared.statement.Statement.TheVariants.{Begin, CursorOpen, Gc}
use Rattle.hg_base.specs.declared.statement.Record.{Record}
use Rattle.hg_base.specs.declared.report.Told.{Told}
use Rattle.hg_base.specs.declared.report.Sweep.{Sweep}
use Rattle.hg_base.specs.declared.line.Answer.{Answer}
use Rattle.hg_base.specs.declared.line.Answer.TheVariants.{Begun, Swept}
use Rattle.hg_base.specs.declared.line.Reply.{Reply}
use Rattle.hg_base.specs.declared.line.Line.{Line}
use Rattle.hg_base.specs.Lists.{greatest}
use Rattle.hg_base.specs.Script.{Script}
use Rattle.hg_base.specs.Transcript.{only, table_of, is_end, stored_by, committed_by}
use Rattle.hg_exact.specs.State.{Open, State, start, mark, but, next, going, with_group}
use Rattle.hg_exact.specs.Answers.{answer_in, report}

-- an answer by itself, in a transaction or of a `gc`
abbrev pub inside : Answer → Reply
inside answer = record { at = None; answer = answer; number = None }

-- session j begins a transaction
abbrev pub begins : State → ℕ → Open → State
begins s j o = record s { begun = but s.begun j (suc (s.begun j)); opened = but s.opened j (Some o) }

-- A statement in the open transaction: a `commit` that is answered with a number makes its group, and an end leaves none open.
abbrev pub within : State → ℕ → Open → Statement → Answer → State
within s j o st answer = record s { history = with_group (committed_by st answer) j (going o st answer) s.history; opened = but s.opened j (if is_end st then None else Some (going o st answer)) }

-- the commit number of a statement outside, which is a transaction of its own and is committed if it stores a write
abbrev pub number_for : State → Statement → Answer → Option ℕ
number_for s st answer = if is_some (stored_by st answer) then Some (suc (mark s)) else None

-- the state after a statement outside, which declared its one table
abbrev pub alone : State → ℕ → Open → Statement → Answer → State
alone s j o st answer = record s { history = with_group (number_for s st answer) j (going o st answer) s.history; begun = but s.begun j (suc (s.begun j)) }

-- a statement of session j, inside its open transaction or outside: its reply, and the state after it
abbrev pub stands : State → ℕ → Option Open → Statement → Reply × State
stands s j (Some o) st = let answer = answer_in s o st in (inside answer, within s j o st answer)
stands s j None st =
    let o = next s j (only (table_of st)) None in
    let answer = answer_in s o st in
    (record { at = Some (mark s); answer = answer; number = number_for s st answer }, alone s j o st answer)

-- one statement of session j: its reply, and what is known after it
abbrev pub step : State → ℕ → Statement → Reply × State
step s j (Begin scope) = (inside (Begun (mark s)), begins s j (next s j scope None))
step s j (CursorOpen table low high) = (inside (Begun (mark s)), begins s j (next s j (only (Some table)) (Some (record { table = table; low = low; high = high }))))
step s j (Gc kind) = (inside (Swept (report s kind)), s)
step s j st = stands s j (s.opened j) st

-- the lines of these records, from this state on
abbrev pub lines_from : State → List Record → List Line
lines_from s [] = []
lines_from s (r ∷ rs) = let now = step s r.session r.statement in record { session = r.session; place = r.place; reply = now.0 } ∷ lines_from now.1 rs

-- the lines of a script, where no report says that anything was removed or moved
abbrev pub replayed : Script → List Line
replayed script = lines_from (start (greatest (map (λ r. r.session) script.records))) script.records

-- ---- what is left open

-- a held snapshot, without whether it was moved
abbrev pub plain_told : Told → Told
plain_told told = record { session = told.session; number = told.number; moved = false }

-- a report, without what was removed and moved
abbrev pub plain_sweep : Sweep → Sweep
plain_sweep sweep = record { kind = sweep.kind; mark = sweep.mark; horizon = sweep.horizon; removed = 0; held = map plain_told sweep.held }

-- an answer, without what a report says was removed and moved
abbrev pub plain_answer : Answer → Answer
plain_answer (Swept sweep) = Swept (plain_sweep sweep)
plain_answer answer = answer

-- a reply, without what a report says was removed and moved
abbrev pub plain_reply : Reply → Reply
plain_reply reply = record { at = reply.at; answer = plain_answer reply.answer; number = reply.number }

-- a line without what its report says was removed and moved
abbrev pub plain : Line → Line
plain line = record { session = line.session; place = line.place; reply = plain_reply line.reply }
