-- What is asked of a script: that there is an answer to each of its statements.
use Rattle.std.specs.Prelude.{◌≤◌, List, [], ◌∷◌, Option, Some, None, IfSome, IsSome, IsTrue, ⊤}
use Rattle.std.specs.Bool.{MatchBool}
use Rattle.hg_base.specs.declared.statement.Statement.{Statement}
use Rattle.hg_base.specs.declared.statement.Statement.TheVariants.{Begin, CursorOpen, Fetch}
use Rattle.hg_base.specs.declared.statement.Record.{Record}
use Rattle.hg_base.specs.Lists.{Each}
use Rattle.hg_base.specs.Transcript.{Said, open_of}
use Rattle.hg_base.specs.Shape.{report_of}
use Rattle.hg_base.specs.Freshness.{is_declared}
use Rattle.hg_exact.specs.State.{Open, State}
use Rattle.hg_exact.specs.Replayed.{step}

-- a transaction or a cursor begins only while none is open, and a fetch is of one row at least, of an open cursor
abbrev pub MayAsk : Option Open → Statement → Type 0
MayAsk None (Fetch n) = ⊥
MayAsk (Some o) (Fetch n) = (1 ≤ n) × IsSome o.rest
MayAsk (Some o) (Begin scope) = ⊥
MayAsk (Some o) (CursorOpen table low high) = ⊥
MayAsk o _ = ⊤

-- Sessions are counted from 1, and each statement may be where it is. What `hg_script` accepts is so.
abbrev pub AreAnswered : State → List Record → Type 0
AreAnswered s [] = ⊤
AreAnswered s (r ∷ rs) = (1 ≤ r.session) × MayAsk (s.opened r.session) r.statement × AreAnswered (step s r.session r.statement).1 rs

-- a report may say that a snapshot was moved only if its transaction, which is open there, declared its tables
abbrev pub MovesDeclared : List Said → Said → Type 0
MovesDeclared earlier now = IfSome (report_of now.reply) (λ sweep. Each (λ told. MatchBool told.moved (IfSome (open_of told.session earlier) (λ said. IsTrue (is_declared said.scope))) ⊤) sweep.held)
