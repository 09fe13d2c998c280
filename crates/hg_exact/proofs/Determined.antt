-- What a sound line has, with its first cause, determines its answer.
use Rattle.std.proofs.Common.{◌≡◌, ℕ, zero, suc, ◌+◌, ◌<◌, ◌≤◌, ◌⊎◌, inl, inr, List, [], ◌∷◌, Bool, true, false, Option, Some, None, refl, sym, ap, ◌∙◌, arith}
use Rattle.std.specs.Prelude.{◌==◌, cond, filter_map, is_some, nat_lt, if◌then◌else◌, IfSome, IsSome, IsTrue, ⊤}
use Rattle.std.specs.Bool.{MatchBool}
use Rattle.std.specs.List.{cons_option}
use Rattle.std.proofs.lemmas.Bool.Decides.{Decides-eqb, nat_tests}
use Rattle.hg_base.specs.declared.rid.Rid.{Rid}
use Rattle.hg_base.specs.declared.rid.TableId.{TableId}
use Rattle.hg_base.specs.declared.image.Image.{Image}
use Rattle.hg_base.specs.declared.writer.Writer.{Writer}
use Rattle.hg_base.specs.declared.value.Value.{Value}
use Rattle.hg_base.specs.declared.scope.Scope.{Scope}
use Rattle.hg_base.specs.declared.statement.Statement.{Statement}
use Rattle.hg_base.specs.declared.statement.Statement.TheVariants.{Begin, Get, Put, Del, Scan, CursorOpen, Fetch, CursorClose, Commit as CommitIt, Rollback, Gc}
use Rattle.hg_base.specs.declared.line.Answer.{Answer}
use Rattle.hg_base.specs.declared.line.Answer.TheVariants.{Stored, Found, Nothing, Gone, Rows, Committed, Ended, Undone, Newer, OpenBy, Undeclared}
use Rattle.hg_base.specs.Lists.{numbers_from}
use Rattle.hg_base.specs.History.{image_in}
use Rattle.hg_base.specs.Conflicts.{target}
use Rattle.hg_base.specs.Replies.{IsAnswer, IsCommitted, IsDeleted, IsEnded, IsFetched, IsGot, IsPut, IsScanned, IsUndeclared, IsUndone, is_written}
use Rattle.hg_base.specs.Script.{replay}
use Rattle.hg_base.specs.Transcript.{Said, Rest, committed_by, has}
use Rattle.hg_base.proofs.ListFacts.{cases}
use Rattle.hg_exact.specs.State.{Open, State, mark}
use Rattle.hg_exact.specs.Answers.{answer_in, fetched, found, has_written, newest, rows_seen, sees, unless_refused, writer_of, writers, written}
use Rattle.hg_exact.specs.Lawful.{MayAsk}
use Rattle.hg_exact.proofs.Alike.{same_first, same_rows}
use Rattle.hg_exact.proofs.Answering.{IsPlain, told}
use Rattle.hg_exact.proofs.Keeping.{wrote_by}
use Rattle.hg_exact.proofs.Rows.{first_rows, rows_are}

-- ---- the outcomes of a write

-- what decides the answer to a write
abbrev pub Caused : State → Open → Rid → Answer → Type 0
Caused s o r Stored = IsSome (image_in r o.wrote) ⊎ ((writers s r ≡ []) × (newest s.history r ≤ o.at))
Caused s o r Gone = IsSome (image_in r o.wrote) ⊎ ((writers s r ≡ []) × (newest s.history r ≤ o.at))
Caused s o r (Newer c) = (image_in r o.wrote ≡ None) × (writers s r ≡ []) × (o.at < c) × (newest s.history r ≡ c)
Caused s o r (OpenBy w) = (image_in r o.wrote ≡ None) × ((ws : List Writer) × (writers s r ≡ w ∷ ws))
Caused s o r _ = ⊤

module _ (s : State) (o : Open) (r : Rid) where
  written_other : (answer : Answer) → image_in r o.wrote ≡ None → written s o r answer ≡ unless_refused (writers s r) (newest s.history r) o.at answer
  written_other answer e = ap (λ (x : Option Image). if is_some x then answer else unless_refused (writers s r) (newest s.history r) o.at answer) e

  pub written_stored : (answer : Answer) → IsSome (image_in r o.wrote) ⊎ ((writers s r ≡ []) × (newest s.history r ≤ o.at)) → written s o r answer ≡ answer
  written_stored answer (inl own) = ap (λ b. if b then answer else unless_refused (writers s r) (newest s.history r) o.at answer) own
  written_stored answer (inr h) = go (has_written r o)
    where
      over : nat_lt o.at (newest s.history r) ≡ false
      over = let k = h.1 in grind (arith, nat_tests)

      go : (b : Bool) → (if b then answer else unless_refused (writers s r) (newest s.history r) o.at answer) ≡ answer
      go true = refl
      go false = ap (λ l. unless_refused l (newest s.history r) o.at answer) h.0 ∙ ap (λ b. if b then Newer (newest s.history r) else answer) over

  written_newer : (answer : Answer) (c : ℕ) → Caused s o r (Newer c) → written s o r answer ≡ Newer c
  written_newer answer c h =
      let below : nat_lt o.at c ≡ true = (let k = h.2 in grind (arith, nat_tests)) in
      written_other answer h.0 ∙ ap (λ l. unless_refused l (newest s.history r) o.at answer) h.1 ∙ ap (λ n. if nat_lt o.at n then Newer n else answer) h.3 ∙
      ap (λ b. if b then Newer c else answer) below

  written_open : (answer : Answer) (w : Writer) → Caused s o r (OpenBy w) → written s o r answer ≡ OpenBy w
  written_open answer w h = written_other answer h.0 ∙ ap (λ l. unless_refused l (newest s.history r) o.at answer) h.1.1

  put_is : (a : Answer) → IsPut a → Caused s o r a → a ≡ written s o r Stored
  put_is Stored p c = sym (written_stored Stored c)
  put_is (Newer n) p c = sym (written_newer Stored n c)
  put_is (OpenBy w) p c = sym (written_open Stored w c)
  put_is _ p c = absurd p

  del_is : (image : Image) (a : Answer) → IsDeleted image a → Caused s o r a → a ≡ (if is_some image.row then written s o r Gone else Nothing)
  del_is image Nothing p c = sym (ap (λ (x : Option (List Value)). if is_some x then written s o r Gone else Nothing) p)
  del_is image Gone p c = sym (ap (λ b. if b then written s o r Gone else Nothing) p ∙ written_stored Gone c)
  del_is image (Newer n) p c = sym (ap (λ b. if b then written s o r Gone else Nothing) p ∙ written_newer Gone n c)
  del_is image (OpenBy w) p c = sym (ap (λ b. if b then written s o r Gone else Nothing) p ∙ written_open Gone w c)
  del_is image _ p c = absurd p

-- ---- the other answers

undeclared_is : (table : TableId) (a : Answer) → IsUndeclared table a → a ≡ Undeclared table
undeclared_is table (Undeclared other) e = λ i. Undeclared (record { 0 = e i })
undeclared_is table _ e = absurd e

declared_is : (scope : Scope) (table : TableId) (a b : Answer) (P : Type 0) → MatchBool (has scope table) P (IsUndeclared table a) → (P → a ≡ b) → a ≡ (if has scope table then b else Undeclared table)
declared_is scope table a b P h f = go (has scope table) h
  where
    go : (c : Bool) → MatchBool c P (IsUndeclared table a) → a ≡ (if c then b else Undeclared table)
    go true k = f k
    go false k = undeclared_is table a k

got_is : (image : Image) (a : Answer) → IsGot image a → a ≡ found image.row
got_is image (Found row) e = sym (ap found e)
got_is image Nothing e = sym (ap found e)
got_is image _ e = absurd e

scanned_is : (s : State) (o : Open) (table : TableId) (low high : ℕ) (a : Answer) → IsScanned (λ key. sees s o (record { table = table; key = key })) low high a →
    a ≡ Rows (rows_seen s o table low high)
scanned_is s o table low high (Rows rows) h = ap Rows (same_rows (λ key. sees s o (record { table = table; key = key })) low high rows (rows_seen s o table low high) h (rows_are s o table low high))
scanned_is s o table low high _ h = absurd h

fetched_is : (s : State) (o : Open) (n : ℕ) (x : Option Rest) (a : Answer) → 1 ≤ n → IsFetched (sees s o) n x a → a ≡ fetched s o n x
fetched_is s o n (Some rest) (Rows rows) k h = ap Rows (same_first (λ key. sees s o (record { table = rest.table; key = key })) n rest.low rest.high rows _ h
    (first_rows (λ key. sees s o (record { table = rest.table; key = key })) n rest.low rest.high (rows_seen s o rest.table rest.low rest.high) k (rows_are s o rest.table rest.low rest.high)))
fetched_is s o n x a k h = absurd h

commit_is : (m : ℕ) (b : Bool) (a : Answer) → IsCommitted b a → (IsTrue b → IfSome (committed_by CommitIt a) (λ c. c ≡ suc m)) → a ≡ (if b then Committed (suc m) else Ended)
commit_is m b (Committed c) h e = ap Committed (e h) ∙ sym (ap (λ x. if x then Committed (suc m) else Ended) h)
commit_is m b Ended h e = sym (ap (λ x. if x then Committed (suc m) else Ended) h)
commit_is m b _ h e = absurd h

ended_is : (a : Answer) → IsEnded a → a ≡ Ended
ended_is Ended h = refl
ended_is _ h = absurd h

undone_is : (a : Answer) → IsUndone a → a ≡ Undone
undone_is Undone h = refl
undone_is _ h = absurd h

pub determined : (s : State) (o : Open) (st : Statement) (base : Said) (a : Answer) → IsPlain st → MayAsk (Some o) st →
    IsAnswer replay (sees s o) (is_written o.wrote) o.rest (told base st o.scope a) st → IfSome (target st) (λ r. Caused s o r a) →
    (IsTrue (is_written o.wrote) → IfSome (committed_by st a) (λ c. c ≡ suc (mark s))) → a ≡ answer_in s o st
determined s o (Begin scope) base a plain may h c n = absurd plain
determined s o (CursorOpen table low high) base a plain may h c n = absurd plain
determined s o (Gc kind) base a plain may h c n = absurd plain
determined s o (Get r) base a plain may h c n = declared_is o.scope r.table a (found (sees s o r).row) (IsGot (sees s o r) a) h (got_is (sees s o r) a)
determined s o (Scan table low high) base a plain may h c n = declared_is o.scope table a (Rows (rows_seen s o table low high))
    (IsScanned (λ key. sees s o (record { table = table; key = key })) low high a) h (scanned_is s o table low high a)
determined s o (Fetch k) base a plain may h c n = fetched_is s o k o.rest a may.0 h
determined s o CursorClose base a plain may h c n = ended_is a h
determined s o (Put r row) base a plain may h c n = declared_is o.scope r.table a (written s o r Stored) (IsPut a) h (λ p. put_is s o r a p c)
determined s o (Del r) base a plain may h c n = declared_is o.scope r.table a (if is_some (sees s o r).row then written s o r Gone else Nothing) (IsDeleted (sees s o r) a) h
    (λ p. del_is s o r (sees s o r) a p c)
determined s o CommitIt base a plain may h c n = commit_is (mark s) (is_written o.wrote) a h n
determined s o Rollback base a plain may h c n = undone_is a h

-- ---- who has an open write

pub not_writer : (r : Rid) (k : ℕ) (x : Option Open) → image_in r (wrote_by x) ≡ None → writer_of r k x ≡ None
not_writer r k None e = refl
not_writer r k (Some o) e =
    let its : Writer = record { session = k; transaction = o.transaction } in
    ap (λ (y : Option Image). cond (is_some y) (Some its) None) e

picked_none : {Y : Type 0} (f : ℕ → Option Y) (n many : ℕ) → ((k : ℕ) → n ≤ k → k < n + many → f k ≡ None) → filter_map f (numbers_from n many) ≡ []
picked_none f n zero h = refl
picked_none f n (suc many) h = ap (λ o. cons_option o (filter_map f (numbers_from (suc n) many))) (h n (omega arith) (omega arith)) ∙
    picked_none f (suc n) many (λ k a b. h k (omega (arith, a)) (omega (arith, b)))

-- where one is picked, of one number
picked_one : {Y : Type 0} (f : ℕ → Option Y) (n many j : ℕ) (y : Y) → n ≤ j → j < n + many → f j ≡ Some y → ((k : ℕ) → (k ≡ j → ⊥) → f k ≡ None) → filter_map f (numbers_from n many) ≡ y ∷ []
picked_one f n zero j y a b e h = absurd (omega (arith, a, b))
picked_one f n (suc many) j y a b e h = cases (n == j)
    (λ q. let same : n ≡ j = (Decides-eqb n j).0 q in ap (λ o. cons_option o (filter_map f (numbers_from (suc n) many))) (ap f same ∙ e) ∙
    ap (λ l. y ∷ l) (picked_none f (suc n) many (λ k c d. h k (λ g. omega (arith, c, same, g)))))
    (λ q. ap (λ o. cons_option o (filter_map f (numbers_from (suc n) many))) (h n (λ g. true_not q g)) ∙ picked_one f (suc n) many j y (grind (arith, nat_tests)) (omega (arith, b)) e h)
  where
    true_not : (n == j) ≡ false → n ≡ j → ⊥
    true_not q g = let bad : (n == j) ≡ true = (Decides-eqb n j).1 g in cc

pub nobody_has : (s : State) (r : Rid) → ((k : ℕ) → image_in r (wrote_by (s.opened k)) ≡ None) → writers s r ≡ []
nobody_has s r h = picked_none (λ j. writer_of r j (s.opened j)) 1 s.sessions (λ k a b. not_writer r k (s.opened k) (h k))

pub one_has : (s : State) (r : Rid) (j : ℕ) (o : Open) → 1 ≤ j → j ≤ s.sessions → s.opened j ≡ Some o → IsSome (image_in r o.wrote) →
    ((k : ℕ) → (k ≡ j → ⊥) → image_in r (wrote_by (s.opened k)) ≡ None) → writers s r ≡ record { session = j; transaction = o.transaction } ∷ []
one_has s r j o a b e w h =
    let its : Writer = record { session = j; transaction = o.transaction } in
    picked_one (λ k. writer_of r k (s.opened k)) 1 s.sessions j its a (omega (arith, b)) (ap (writer_of r j) e ∙ ap (λ x. cond x (Some its) None) w) (λ k f. not_writer r k (s.opened k) (h k f))
