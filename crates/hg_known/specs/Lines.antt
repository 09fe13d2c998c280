-- Lines as the audit keeps them.
use Rattle.std.specs.Prelude.{◌≡◌, ℕ, ◌<◌, ◌≤◌, ◌^◌, List, Option, Some, None, option_map, unwrap_or, IfSome, if◌then◌else◌, ⊤}
use Rattle.std.specs.BTreeMap.{BTreeMap, get}
use Rattle.std.specs.Ordering.{nat_cmp}
use Rattle.hg_base.specs.declared.limits.TheConstants.{MOST_TABLES}
use Rattle.hg_base.specs.declared.statement.Statement.{Statement}
use Rattle.hg_base.specs.declared.statement.Statement.TheVariants.{CursorOpen}
use Rattle.hg_base.specs.Transcript.{Said, Rest, only, table_of, ends, last_of, open_of, next_after, rest_in}
use Rattle.hg_known.specs.declared.said.Rest as rests
use Rattle.hg_known.specs.declared.said.Said as kept
use Rattle.hg_known.specs.declared.said.Last.{Last}
use Rattle.hg_known.specs.declared.said.Last.TheVariants.{Over, Open}

-- what a line says; a transaction of its own declares the statement's one table
abbrev pub said_of : kept.Said → Said
said_of s = record {
  session = s.session;
  place = s.place;
  transaction = s.transaction;
  at = s.at;
  scope = (if s.alone then only (table_of s.statement) else s.scope);
  alone = s.alone;
  statement = s.statement;
  reply = s.reply.now;
}

-- what a cursor has left; after the greatest key of 64 bits it goes on at 2^64
abbrev pub rest_of : rests.Rest → Rest
rest_of rest = record { table = rest.table; low = unwrap_or rest.next (2 ^ 64); high = rest.high }

-- a line is kept with what its transaction's cursor had left before it
abbrev pub HasRest : List Said → kept.Said → Type 0
HasRest earlier s = option_map rest_of s.rest ≡ rest_in s.session s.transaction earlier

-- the transaction of a session's last line
abbrev pub number_of : Last → ℕ
number_of (Over x) = x
number_of (Open x at scope rest) = x

-- the same without what the cursor has left
abbrev pub without_rest : Last → Last
without_rest (Over x) = Over x
without_rest (Open x at scope rest) = Open x at scope None

-- what the cursor of an open transaction has left
abbrev pub left_rest : Option Last → Option Rest
left_rest None = None
left_rest (Some (Over x)) = None
left_rest (Some (Open x at scope rest)) = option_map rest_of rest

-- what a line leaves to the session's next, without what the cursor has left
abbrev pub left_by : Said → Last
left_by said = if ends said then Over said.transaction else Open said.transaction said.at said.scope None

-- for each session, what its last line left
abbrev pub AreLasts : BTreeMap ℕ Last → List Said → Type 0
AreLasts lasts earlier = (j : ℕ) → option_map without_rest (get nat_cmp lasts j) ≡ option_map left_by (last_of j earlier)

-- What session j's last line left has what the cursor of its open transaction has left. No line belongs to a later transaction of the
-- session, so none has a cursor, and none has one outside of all transactions.
pub record IsRest (j : ℕ) (earlier : List Said) (last : Option Last) : Type 0 where
  pub within : (opened : Said) → open_of j earlier ≡ Some opened → left_rest last ≡ rest_in j opened.transaction earlier
  pub later : (x : ℕ) → next_after (last_of j earlier) ≤ x → rest_in j x earlier ≡ None
  pub outside : rest_in j 0 earlier ≡ None

-- for each session, what its cursor has left
abbrev pub AreRests : BTreeMap ℕ Last → List Said → Type 0
AreRests lasts earlier = (j : ℕ) → IsRest j earlier (get nat_cmp lasts j)

-- no transaction has a number over n
abbrev pub ReachTo : ℕ → BTreeMap ℕ Last → Type 0
ReachTo n lasts = (j : ℕ) → IfSome (get nat_cmp lasts j) (λ l. number_of l ≤ n)

-- a session with the snapshot of its open transaction, by what its last line left
abbrev pub open_left : ℕ → Option Last → Option (ℕ × ℕ)
open_left j None = None
open_left j (Some (Over x)) = None
open_left j (Some (Open x at scope rest)) = Some (j, at)

-- an `open` names a table with a number below the limit
abbrev pub OpensKnown : Statement → Type 0
OpensKnown (CursorOpen table low high) = table.0 < MOST_TABLES
OpensKnown statement = ⊤
