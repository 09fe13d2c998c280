-- What one thread knows between two records of a script: the committed groups, and what each session has open.
use Rattle.std.specs.Prelude.{ℕ, suc, List, [], ◌∷◌, ◌++◌, length, ◌==◌, if◌then◌else◌, Option, Some, None}
use Rattle.std.specs.List.{cons_option}
use Rattle.hg_base.specs.declared.scope.Scope.{Scope}
use Rattle.hg_base.specs.declared.statement.Statement.{Statement}
use Rattle.hg_base.specs.declared.line.Answer.{Answer}
use Rattle.hg_base.specs.History.{Write, History}
use Rattle.hg_base.specs.Transcript.{Rest, rest_after, stored_by, last_images}

-- A session's open transaction, or its cursor, which is one that only reads: its number among the session's, its snapshot, the tables
-- that it may name, its writes, newest first, and what its cursor has left.
pub record Open : Type 0 where
  pub transaction : ℕ
  pub at : ℕ
  pub scope : Scope
  pub wrote : List Write
  pub rest : Option Rest

-- How many sessions there are, the groups that are committed, how many transactions each session has begun, and what it has open.
pub record State : Type 0 where
  pub sessions : ℕ
  pub history : History
  pub begun : ℕ → ℕ
  pub opened : ℕ → Option Open

-- nothing is committed, and nothing is open
abbrev pub start : ℕ → State
start sessions = record { sessions = sessions; history = []; begun = λ j. 0; opened = λ j. None }

-- the newest commit number
abbrev pub mark : State → ℕ
mark s = length s.history

-- f with another value at j
abbrev pub but : {A : Type 0} → (ℕ → A) → ℕ → A → ℕ → A
but f j value = λ k. if k == j then value else f k

-- the session's next transaction, which reads at the newest commit
abbrev pub next : State → ℕ → Scope → Option Rest → Open
next s j scope rest = record { transaction = suc (s.begun j); at = mark s; scope = scope; wrote = []; rest = rest }

-- the transaction after a statement that was answered so
abbrev pub going : Open → Statement → Answer → Open
going o st answer = record { transaction = o.transaction; at = o.at; scope = o.scope; wrote = cons_option (stored_by st answer) o.wrote; rest = rest_after st answer o.rest }

-- the history, where a commit number makes the transaction of session j a group of its own
abbrev pub with_group : Option ℕ → ℕ → Open → History → History
with_group None j o h = h
with_group (Some c) j o h = h ++ (record { session = j; transaction = o.transaction; at = o.at; images = last_images o.wrote } ∷ []) ∷ []
