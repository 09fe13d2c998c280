-- The table of each session's last cursor, and what one more statement changes.
use Rattle.std.proofs.Common.{◌≡◌, ◌<◌, ◌==◌, ◌∙◌, ℕ, zero, suc, ℤ, List, [], ◌∷◌, ◌++◌, length, map, take, get_or, Option, Some, None, if◌then◌else◌, refl, sym, ap, subst, arith, append_assoc}
use Rattle.std.specs.List.{list_any}
use Rattle.std.specs.Option.{option_or}
use Rattle.hg_base.specs.declared.rid.TableId.{TableId}
use Rattle.hg_base.specs.declared.scope.Scope.TheVariants.{All, Declared}
use Rattle.hg_base.specs.declared.statement.Statement.{Statement}
use Rattle.hg_base.specs.declared.statement.Statement.TheVariants as say
use Rattle.hg_base.specs.declared.value.Value.{Value}
use Rattle.hg_base.specs.Text.{opens}
use Rattle.hg_base.specs.Values.{is_text}
use Rattle.hg_base.proofs.ListFacts.{append_nil, cases}
use Rattle.hg_records.specs.declared.statements.Entry.{Entry}
use Rattle.hg_records.specs.declared.packed.Packed.{Packed}
use Rattle.hg_records.specs.declared.packed.Packed.TheVariants.{Begin, BeginDeclared, Get, Put, PutRow, Del, Scan, CursorOpen, Fetch, CursorClose, Commit, Rollback, Gc}
use Rattle.hg_records.specs.Cursors.{AreCursored, HasCursor, cursor_among, cursor_in, table_opened}
use Rattle.hg_records.specs.Links.{led}
use Rattle.hg_records.specs.Packed.{packed_as, statement_in, unpacked}

-- ---- the first that there is

or_none : (o : Option TableId) → option_or o None ≡ o
or_none None = refl
or_none (Some t) = refl

or_parts : (a b c : Option TableId) → option_or (option_or a b) c ≡ option_or a (option_or b c)
or_parts None b c = refl
or_parts (Some t) b c = refl

-- ---- one statement more

-- a stored statement opens a cursor on the same table as the statement
pub packed_opens : (cursor : Option TableId) (n k : ℕ) (s : Statement) → table_opened (packed_as cursor n k s) ≡ opens s
packed_opens cursor n k (say.Begin All) = refl
packed_opens cursor n k (say.Begin (Declared mask)) = refl
packed_opens cursor n k (say.Get rid) = refl
packed_opens cursor n k (say.Put rid row) = cases (list_any is_text row) (λ e. rw e refl) (λ e. rw e refl)
packed_opens cursor n k (say.Del rid) = refl
packed_opens cursor n k (say.Scan table low high) = refl
packed_opens cursor n k (say.CursorOpen table low high) = refl
packed_opens cursor n k (say.Fetch most) = refl
packed_opens cursor n k say.CursorClose = refl
packed_opens cursor n k say.Commit = refl
packed_opens cursor n k say.Rollback = refl
packed_opens cursor n k (say.Gc kind) = refl

pub packed_has : (cursor : Option TableId) (n k : ℕ) (s : Statement) → HasCursor cursor (packed_as cursor n k s)
packed_has cursor n k (say.Begin All) = tt
packed_has cursor n k (say.Begin (Declared mask)) = tt
packed_has cursor n k (say.Get rid) = tt
packed_has cursor n k (say.Put rid row) = cases (list_any is_text row) (λ e. rw e tt) (λ e. rw e tt)
packed_has cursor n k (say.Del rid) = tt
packed_has cursor n k (say.Scan table low high) = tt
packed_has cursor n k (say.CursorOpen table low high) = tt
packed_has cursor n k (say.Fetch most) = refl
packed_has cursor n k say.CursorClose = tt
packed_has cursor n k say.Commit = tt
packed_has cursor n k say.Rollback = tt
packed_has cursor n k (say.Gc kind) = tt

pub cursor_more : (j : ℕ) (es : List Entry) (x : Entry) → cursor_among j (es ++ x ∷ []) ≡ option_or (if x.session == j then table_opened x.packed else None) (cursor_among j es)
cursor_more j [] x = sym (or_none (if x.session == j then table_opened x.packed else None))
cursor_more j (e ∷ es) x =
    ap (λ o. option_or o (if e.session == j then table_opened e.packed else None)) (cursor_more j es x)
    ∙ or_parts (if x.session == j then table_opened x.packed else None) (cursor_among j es) (if e.session == j then table_opened e.packed else None)

pub cursored_more : (before es : List Entry) (x : Entry) → AreCursored before es → HasCursor (cursor_among x.session (before ++ es)) x.packed → AreCursored before (es ++ x ∷ [])
cursored_more before [] x h k = (subst (λ es. HasCursor (cursor_among x.session es) x.packed) (append_nil before) k, tt)
cursored_more before (e ∷ es) x h k = (h.0, cursored_more (before ++ e ∷ []) es x h.1 (subst (λ es. HasCursor (cursor_among x.session es) x.packed) (sym (append_assoc before (e ∷ []) es)) k))

-- ---- where an entry leads says nothing of its cursor

pub led_cursor : (j l i : ℕ) (es : List Entry) → cursor_among j (led l i es) ≡ cursor_among j es
led_cursor j l i [] = refl
led_cursor j zero i (e ∷ es) = refl
led_cursor j (suc l) i (e ∷ es) = ap (λ o. option_or o (if e.session == j then table_opened e.packed else None)) (led_cursor j l i es)

abbrev Alike : List Entry → List Entry → Type 0
Alike before other = (j : ℕ) → cursor_among j before ≡ cursor_among j other

alike_more : (before other : List Entry) (e : Entry) (n : ℕ) → Alike before other → Alike (before ++ e ∷ []) (other ++ (record e { next = n }) ∷ [])
alike_more before other e n same j =
    cursor_more j before e ∙ ap (λ o. option_or (if e.session == j then table_opened e.packed else None) o) (same j) ∙ sym (cursor_more j other (record e { next = n }))

cursored_alike : (before other es : List Entry) → Alike before other → AreCursored before es → AreCursored other es
cursored_alike before other [] same h = tt
cursored_alike before other (e ∷ es) same h =
    (subst (λ c. HasCursor c e.packed) (same e.session) h.0, cursored_alike (before ++ e ∷ []) (other ++ e ∷ []) es (alike_more before other e e.next same) h.1)

led_alike : (l i : ℕ) (before other es : List Entry) → Alike before other → AreCursored before es → AreCursored other (led l i es)
led_alike l i before other [] same h = tt
led_alike zero i before other (e ∷ es) same h =
    (subst (λ c. HasCursor c e.packed) (same e.session) h.0, cursored_alike (before ++ e ∷ []) (other ++ (record e { next = i }) ∷ []) es (alike_more before other e i same) h.1)
led_alike (suc l) i before other (e ∷ es) same h =
    (subst (λ c. HasCursor c e.packed) (same e.session) h.0, led_alike l i (before ++ e ∷ []) (other ++ e ∷ []) es (alike_more before other e e.next same) h.1)

pub led_cursored : (l i : ℕ) (es : List Entry) → AreCursored [] es → AreCursored [] (led l i es)
led_cursored l i es h = led_alike l i [] [] es (λ j. refl) h

-- ---- the statement at i

pub cursored_at : (before es : List Entry) (i : ℕ) (d : Entry) → i < length es → AreCursored before es → HasCursor (cursor_among (get_or es i d).session (before ++ take i es)) (get_or es i d).packed
cursored_at before [] i d less h = absurd (omega (arith, less))
cursored_at before (e ∷ es) zero d less h = subst (λ es. HasCursor (cursor_among e.session es) e.packed) (sym (append_nil before)) h.0
cursored_at before (e ∷ es) (suc i) d less h =
    subst (λ fs. HasCursor (cursor_among (get_or es i d).session fs) (get_or es i d).packed) (append_assoc before (e ∷ []) (take i es))
    (cursored_at (before ++ e ∷ []) es i d (omega (arith, less)) h.1)

stored_opens : (ns : List ℤ) (rows : List (List Value)) (p : Packed) → table_opened p ≡ opens (statement_in ns rows p)
stored_opens ns rows Begin = refl
stored_opens ns rows (BeginDeclared mask) = refl
stored_opens ns rows (Get table key) = refl
stored_opens ns rows (Put table count first key) = refl
stored_opens ns rows (PutRow table i key) = refl
stored_opens ns rows (Del table key) = refl
stored_opens ns rows (Scan table first) = refl
stored_opens ns rows (CursorOpen table first) = refl
stored_opens ns rows (Fetch n cursor) = refl
stored_opens ns rows CursorClose = refl
stored_opens ns rows Commit = refl
stored_opens ns rows Rollback = refl
stored_opens ns rows (Gc kind) = refl

pub unpacked_cursor : (ns : List ℤ) (rows : List (List Value)) (j i : ℕ) (es : List Entry) → cursor_among j (take i es) ≡ cursor_in j (take i (map (unpacked ns rows) es))
unpacked_cursor ns rows j zero [] = refl
unpacked_cursor ns rows j zero (e ∷ es) = refl
unpacked_cursor ns rows j (suc i) [] = refl
unpacked_cursor ns rows j (suc i) (e ∷ es) =
    ap (λ o. option_or o (if e.session == j then table_opened e.packed else None)) (unpacked_cursor ns rows j i es)
    ∙ ap (λ o. option_or (cursor_in j (take i (map (unpacked ns rows) es))) (if e.session == j then o else None)) (stored_opens ns rows e.packed)
