-- An answer is that of the table, and a refused write shows its cause.
use Rattle.std.proofs.Common.{◌≡◌, ℕ, suc, ◌<◌, ◌≤◌, ◌⊎◌, inl, inr, List, [], ◌∷◌, Bool, true, false, Option, Some, None, refl, sym, subst, arith}
use Rattle.std.specs.Prelude.{is_some, if◌then◌else◌, IsSome, ⊤}
use Rattle.std.specs.Bool.{MatchBool}
use Rattle.hg_base.specs.declared.rid.Rid.{Rid}
use Rattle.hg_base.specs.declared.rid.TableId.{TableId}
use Rattle.hg_base.specs.declared.image.Image.{Image}
use Rattle.hg_base.specs.declared.writer.Writer.{Writer}
use Rattle.hg_base.specs.declared.value.Value.{Value}
use Rattle.hg_base.specs.declared.scope.Scope.{Scope}
use Rattle.hg_base.specs.declared.statement.Statement.{Statement}
use Rattle.hg_base.specs.declared.statement.Statement.TheVariants.{Begin, Get, Put, Del, Scan, CursorOpen, Fetch, CursorClose, Commit as CommitIt, Rollback, Gc}
use Rattle.hg_base.specs.declared.line.Answer.{Answer}
use Rattle.hg_base.specs.declared.line.Answer.TheVariants.{Begun, Stored, Nothing, Gone, Rows, Committed, Ended, Newer, OpenBy, Undeclared, Swept}
use Rattle.hg_base.specs.Conflicts.{target}
use Rattle.hg_base.specs.History.{image_in}
use Rattle.hg_base.specs.Replies.{IsAnswer, IsDeleted, IsFetched, IsGot, IsPut, IsScanned, IsUndeclared, WithinScope, IsCommitted, is_written}
use Rattle.hg_base.specs.Script.{replay}
use Rattle.hg_base.specs.Transcript.{Said, Rest, has}
use Rattle.hg_exact.specs.State.{Open, State, mark}
use Rattle.hg_exact.specs.Answers.{answer_in, declared, fetched, found, newest, rows_seen, sees, writers, written}
use Rattle.hg_exact.specs.Lawful.{MayAsk}
use Rattle.hg_exact.proofs.Keeping.{newest_most, written_by}
use Rattle.hg_exact.proofs.Rows.{first_rows, rows_are}

-- a statement that stands in a transaction, and not beside or before one
abbrev pub IsPlain : Statement → Type 0
IsPlain (Begin scope) = ⊥
IsPlain (CursorOpen table low high) = ⊥
IsPlain (Gc kind) = ⊥
IsPlain _ = ⊤

-- ---- the answer is that of the table

within_scope : (scope : Scope) (table : TableId) (a : Answer) (P : Answer → Type 0) → P a → let answer : Answer = (if has scope table then a else Undeclared table) in
    WithinScope scope table answer (P answer)
within_scope scope table a P p = go (has scope table)
  where
    go : (b : Bool) → let answer : Answer = (if b then a else Undeclared table) in MatchBool b (P answer) (IsUndeclared table answer)
    go true = p
    go false = refl

got : (image : Image) → IsGot image (found image.row)
got image = go image.row refl
  where
    go : (o : Option (List Value)) → image.row ≡ o → IsGot image (found o)
    go None e = e
    go (Some row) e = e

put : (s : State) (o : Open) (r : Rid) → IsPut (written s o r Stored)
put s o r = written_by IsPut s o r Stored (λ e. tt) (λ e f g. tt) (λ w ws e f. tt) (λ e f g. tt)

deleted : (s : State) (o : Open) (r : Rid) (image : Image) → IsDeleted image (if is_some image.row then written s o r Gone else Nothing)
deleted s o r image = go (is_some image.row) refl
  where
    none : (x : Option (List Value)) → is_some x ≡ false → x ≡ None
    none None e = refl
    none (Some row) e = absurd (let bad : true ≡ false = e in cc)

    go : (b : Bool) → is_some image.row ≡ b → IsDeleted image (if b then written s o r Gone else Nothing)
    go true e = written_by (IsDeleted image) s o r Gone (λ _. e) (λ _ _ _. e) (λ w ws _ _. e) (λ _ _ _. e)
    go false e = none image.row e

fetch : (s : State) (o : Open) (n : ℕ) (x : Option Rest) → 1 ≤ n → IsSome x → IsFetched (sees s o) n x (fetched s o n x)
fetch s o n None k some = absurd (let bad : false ≡ true = some in cc)
fetch s o n (Some rest) k some = first_rows (λ key. sees s o (record { table = rest.table; key = key })) n rest.low rest.high (rows_seen s o rest.table rest.low rest.high) k
    (rows_are s o rest.table rest.low rest.high)

committed_by_it : (m : ℕ) (b : Bool) → IsCommitted b (if b then Committed m else Ended)
committed_by_it m true = refl
committed_by_it m false = refl

-- what a line says, where its answer and its scope are these
abbrev pub told : Said → Statement → Scope → Answer → Said
told base st scope answer = record base { scope = scope; statement = st; reply = record { at = base.reply.at; answer = answer; number = base.reply.number } }

pub answered : (s : State) (o : Open) (st : Statement) (base : Said) → IsPlain st → MayAsk (Some o) st →
    IsAnswer replay (sees s o) (is_written o.wrote) o.rest (told base st o.scope (answer_in s o st)) st
answered s o (Begin scope) base plain may = absurd plain
answered s o (CursorOpen table low high) base plain may = absurd plain
answered s o (Gc kind) base plain may = absurd plain
answered s o (Get r) base plain may = within_scope o.scope r.table (found (sees s o r).row) (IsGot (sees s o r)) (got (sees s o r))
answered s o (Scan table low high) base plain may = within_scope o.scope table (Rows (rows_seen s o table low high))
    (IsScanned (λ key. sees s o (record { table = table; key = key })) low high) (rows_are s o table low high)
answered s o (Fetch n) base plain may = fetch s o n o.rest may.0 may.1
answered s o CursorClose base plain may = tt
answered s o (Put r row) base plain may = within_scope o.scope r.table (written s o r Stored) IsPut (put s o r)
answered s o (Del r) base plain may = within_scope o.scope r.table (if is_some (sees s o r).row then written s o r Gone else Nothing) (IsDeleted (sees s o r)) (deleted s o r (sees s o r))
answered s o CommitIt base plain may = committed_by_it (suc (mark s)) (is_written o.wrote)
answered s o Rollback base plain may = tt

some_same : (q r : Rid) → Some q ≡ Some r → q ≡ r
some_same q r e = cc

none_some : (r : Rid) → None ≡ Some r → ⊥
none_some r e = cc

-- ---- what holds of each answer in a transaction

declared_by : (P : Answer → Type 0) (o : Open) (table : TableId) (a : Answer) → P a → P (Undeclared table) → P (declared o table a)
declared_by P o table a p q = go (has o.scope table)
  where
    go : (b : Bool) → P (if b then a else Undeclared table)
    go true = p
    go false = q

-- no snapshot and no report, and the number of a newer commit is one of the history, over the transaction's snapshot
abbrev pub Prints : ℕ → Answer → Type 0
Prints m (Begun at) = ⊥
Prints m (Swept sweep) = ⊥
Prints m (Newer c) = (0 < c) × (c ≤ m)
Prints m (Committed c) = c ≡ suc m
Prints m _ = ⊤

found_prints : (m : ℕ) (o : Option (List Value)) → Prints m (found o)
found_prints m None = tt
found_prints m (Some row) = tt

written_prints : (s : State) (o : Open) (r : Rid) (a : Answer) → Prints (mark s) a → Prints (mark s) (written s o r a)
written_prints s o r a p = written_by (Prints (mark s)) s o r a (λ e. p) (λ e f g. p) (λ w ws e f. tt) (λ e f g. (let k : o.at < newest s.history r = g in omega (arith, k), newest_most s.history r))

pub answer_prints : (s : State) (o : Open) (st : Statement) → IsPlain st → Prints (mark s) (answer_in s o st)
answer_prints s o (Begin scope) plain = absurd plain
answer_prints s o (CursorOpen table low high) plain = absurd plain
answer_prints s o (Gc kind) plain = absurd plain
answer_prints s o (Get r) plain = declared_by (Prints (mark s)) o r.table (found (sees s o r).row) (found_prints (mark s) (sees s o r).row) tt
answer_prints s o (Scan table low high) plain = declared_by (Prints (mark s)) o table (Rows (rows_seen s o table low high)) tt tt
answer_prints s o (Fetch n) plain = go o.rest
  where
    go : (x : Option Rest) → Prints (mark s) (fetched s o n x)
    go None = tt
    go (Some rest) = tt
answer_prints s o CursorClose plain = tt
answer_prints s o (Put r row) plain = declared_by (Prints (mark s)) o r.table (written s o r Stored) (written_prints s o r Stored tt) tt
answer_prints s o (Del r) plain = declared_by (Prints (mark s)) o r.table (if is_some (sees s o r).row then written s o r Gone else Nothing) (go (is_some (sees s o r).row)) tt
  where
    go : (b : Bool) → Prints (mark s) (if b then written s o r Gone else Nothing)
    go true = written_prints s o r Gone tt
    go false = tt
answer_prints s o CommitIt plain = go (is_written o.wrote)
  where
    go : (b : Bool) → Prints (mark s) (if b then Committed (suc (mark s)) else Ended)
    go true = refl
    go false = tt
answer_prints s o Rollback plain = tt

-- what holds of a write's outcomes, and of an answer that is no write, holds of the answer to a put or a del
pub target_by : (P : Answer → Type 0) (s : State) (o : Open) (r : Rid) (st : Statement) → target st ≡ Some r → P (Undeclared r.table) → P Nothing
    → ((a : Answer) → (a ≡ Stored) ⊎ (a ≡ Gone) → IsSome (image_in r o.wrote) ⊎ ((writers s r ≡ []) × (newest s.history r ≤ o.at)) → P a)
    → ((w : Writer) (ws : List Writer) → image_in r o.wrote ≡ None → writers s r ≡ w ∷ ws → P (OpenBy w)) →
    (image_in r o.wrote ≡ None → writers s r ≡ [] → o.at < newest s.history r → P (Newer (newest s.history r))) → P (answer_in s o st)
target_by P s o r (Put q row) e out none stored held newer =
    let same : q ≡ r = some_same q r e in
    subst (λ (x : Rid). P (answer_in s o (Put x row))) (sym same)
    (declared_by P o r.table (written s o r Stored) (written_by P s o r Stored (λ own. stored Stored (inl refl) (inl own)) (λ f g k. stored Stored (inl refl) (inr (g, k))) held newer) out)
target_by P s o r (Del q) e out none stored held newer =
    let same : q ≡ r = some_same q r e in
    subst (λ (x : Rid). P (answer_in s o (Del x))) (sym same)
    (declared_by P o r.table (if is_some (sees s o r).row then written s o r Gone else Nothing) (go (is_some (sees s o r).row)) out)
  where
    go : (b : Bool) → P (if b then written s o r Gone else Nothing)
    go true = written_by P s o r Gone (λ own. stored Gone (inr refl) (inl own)) (λ f g k. stored Gone (inr refl) (inr (g, k))) held newer
    go false = none
target_by P s o r _ e out none stored held newer = absurd (let bad : None ≡ Some r = e in none_some r bad)
