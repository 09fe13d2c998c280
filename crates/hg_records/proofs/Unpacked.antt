-- Statements whose values stand in one list.
use Rattle.std.proofs.Common.{◌≡◌, ◌≤◌, ◌<◌, ◌+◌, ◌^◌, ◌∙◌, ℕ, zero, suc, ℤ, false, List, [], ◌∷◌, ◌++◌, length, length-drop, map, take, drop, max, fold, get_or, Option, None, refl, ap, arith}
use Rattle.std.proofs.Common.{length-append}
use Rattle.std.specs.Int.{w64}
use Rattle.std.specs.List.{list_any}
use Rattle.std.proofs.lemmas.Int.{of_z-to_z}
use Rattle.std.proofs.Math.ListN.{get_or-append}
use Rattle.std.proofs.Math.Seq.{get_or-append_seam, take-append-le, drop-append-le, drop-append_seam}
use Rattle.std.proofs.lemmas.List.{length-map, map-append, take_all}
use Rattle.hg_base.specs.Lists.{Each, greatest}
use Rattle.hg_base.specs.declared.rid.Rid.{Rid}
use Rattle.hg_base.specs.declared.rid.TableId.{TableId}
use Rattle.hg_base.specs.declared.value.Value.{Value}
use Rattle.hg_base.specs.declared.value.Value.TheVariants.{Number}
use Rattle.hg_base.specs.Values.{is_text, number_of}
use Rattle.hg_base.specs.declared.scope.Scope.TheVariants.{All, Declared}
use Rattle.hg_base.specs.declared.statement.Statement.{Statement}
use Rattle.hg_base.specs.declared.statement.Statement.TheVariants as say
use Rattle.hg_base.proofs.ListFacts.{cases, each_keeps}
use Rattle.hg_base.proofs.Numbers.{numbers_alone}
use Rattle.hg_records.specs.declared.statements.Entry.{Entry}
use Rattle.hg_records.specs.declared.packed.Packed.{Packed}
use Rattle.hg_records.specs.declared.packed.Packed.TheVariants.{Begin, BeginDeclared, Get, Put, PutRow, Del, Scan, CursorOpen, Fetch, CursorClose, Commit, Rollback, Gc}
use Rattle.hg_records.specs.Links.{led, sessions_in}
use Rattle.hg_records.specs.Packed.{HasKeys, HasSession, HasValues, IsWithin, added, added_rows, key_at, keys_in, packed_as, packed_keys, rid_at, statement_in, unpacked}

-- ---- one statement

-- numbers have no text, and are those of their values
pub no_texts : (ns : List ℤ) → list_any is_text (map Number ns) ≡ false
no_texts [] = refl
no_texts (n ∷ ns) = no_texts ns

pub numbers_back : (ns : List ℤ) → map number_of (map Number ns) ≡ ns
numbers_back [] = refl
numbers_back (n ∷ ns) = ap (λ rest. n ∷ rest) (numbers_back ns)

put_back : (ns : List ℤ) (rows : List (List Value)) (rid : Rid) (row : List Value) → statement_in (ns ++ added (say.Put rid row)) (rows ++ added_rows (say.Put rid row))
    (packed_as None (length ns) (length rows) (say.Put rid row)) ≡ say.Put rid row
put_back ns rows rid row = cases (list_any is_text row)
    (λ e. rw e (ap (say.Put rid) (get_or-append_seam rows row [] [])))
    (λ e. rw e (rw (drop-append_seam ns (map number_of row), take_all (length row) (map number_of row) (omega (arith, length-map row number_of))) (ap (say.Put rid) (numbers_alone row e))))

keys_back : (ns : List ℤ) (low high : ℕ) → low < 2 ^ 64 → high < 2 ^ 64 → keys_in (length ns) (ns ++ packed_keys low high) ≡ (low, high)
keys_back ns low high small few = rw (drop-append_seam ns (packed_keys low high), of_z-to_z w64 low small, of_z-to_z w64 high few) refl

pub comes_back : (cursor : Option TableId) (ns : List ℤ) (rows : List (List Value)) (s : Statement) → HasKeys s →
    statement_in (ns ++ added s) (rows ++ added_rows s) (packed_as cursor (length ns) (length rows) s) ≡ s
comes_back cursor ns rows (say.Begin All) h = refl
comes_back cursor ns rows (say.Begin (Declared mask)) h = refl
comes_back cursor ns rows (say.Get rid) h = refl
comes_back cursor ns rows (say.Put rid row) h = put_back ns rows rid row
comes_back cursor ns rows (say.Del rid) h = refl
comes_back cursor ns rows (say.Scan table low high) h = ap (λ (keys : ℕ × ℕ). say.Scan table keys.0 keys.1) (keys_back ns low high h.0 h.1)
comes_back cursor ns rows (say.CursorOpen table low high) h = ap (λ (keys : ℕ × ℕ). say.CursorOpen table keys.0 keys.1) (keys_back ns low high h.0 h.1)
comes_back cursor ns rows (say.Fetch n) h = refl
comes_back cursor ns rows say.CursorClose h = refl
comes_back cursor ns rows say.Commit h = refl
comes_back cursor ns rows say.Rollback h = refl
comes_back cursor ns rows (say.Gc kind) h = refl

-- at most one row is added
pub one_row : (s : Statement) → length (added_rows s) ≤ 1
one_row (say.Begin scope) = omega arith
one_row (say.Get rid) = omega arith
one_row (say.Put rid row) = cases (list_any is_text row) (λ e. rw e (omega arith)) (λ e. rw e (omega arith))
one_row (say.Del rid) = omega arith
one_row (say.Scan table low high) = omega arith
one_row (say.CursorOpen table low high) = omega arith
one_row (say.Fetch n) = omega arith
one_row say.CursorClose = omega arith
one_row say.Commit = omega arith
one_row say.Rollback = omega arith
one_row (say.Gc kind) = omega arith

row_stays : (ns more : List ℤ) (first count : ℕ) → first + count ≤ length ns → take count (drop first (ns ++ more)) ≡ take count (drop first ns)
row_stays ns more first count within = rw (drop-append-le first ns more (omega (arith, within))) (take-append-le count (drop first ns) more (omega (arith, within, length-drop first ns)))

stays : (ns more : List ℤ) (rows others : List (List Value)) (p : Packed) → HasValues (length ns) (length rows) p → statement_in (ns ++ more) (rows ++ others) p ≡ statement_in ns rows p
stays ns more rows others Begin h = refl
stays ns more rows others (BeginDeclared mask) h = refl
stays ns more rows others (Get table key) h = refl
stays ns more rows others (Put table count first key) h = ap (λ xs. say.Put (rid_at table key) (map Number xs)) (row_stays ns more first count h.2)
stays ns more rows others (PutRow table i key) h = ap (say.Put (rid_at table key)) (get_or-append rows others [] i h)
stays ns more rows others (Del table key) h = refl
stays ns more rows others (Scan table first) h = ap (λ xs. say.Scan table (key_at 0 xs) (key_at 1 xs)) (row_stays ns more first 2 h)
stays ns more rows others (CursorOpen table first) h = ap (λ xs. say.CursorOpen table (key_at 0 xs) (key_at 1 xs)) (row_stays ns more first 2 h)
stays ns more rows others (Fetch n cursor) h = refl
stays ns more rows others CursorClose h = refl
stays ns more rows others Commit h = refl
stays ns more rows others Rollback h = refl
stays ns more rows others (Gc kind) h = refl

more_room : (n m k l : ℕ) (p : Packed) → n ≤ m → k ≤ l → HasValues n k p → HasValues m l p
more_room n m k l Begin le less h = tt
more_room n m k l (BeginDeclared mask) le less h = tt
more_room n m k l (Get table key) le less h = tt
more_room n m k l (Put table count first key) le less h = (h.0, h.1, omega (arith, le, h.2))
more_room n m k l (PutRow table i key) le less h = omega (arith, less, h)
more_room n m k l (Del table key) le less h = tt
more_room n m k l (Scan table first) le less h = omega (arith, le, h)
more_room n m k l (CursorOpen table first) le less h = omega (arith, le, h)
more_room n m k l (Fetch most cursor) le less h = tt
more_room n m k l CursorClose le less h = tt
more_room n m k l Commit le less h = tt
more_room n m k l Rollback le less h = tt
more_room n m k l (Gc kind) le less h = tt

-- ---- all statements

all_stay : (ns more : List ℤ) (rows others : List (List Value)) (es : List Entry) → Each (IsWithin (length ns) (length rows)) es →
    map (unpacked (ns ++ more) (rows ++ others)) es ≡ map (unpacked ns rows) es
all_stay ns more rows others [] h = refl
all_stay ns more rows others (e ∷ es) h = rw (stays ns more rows others e.packed h.0, all_stay ns more rows others es h.1) refl

-- one statement more
pub one_more : (cursor : Option TableId) (ns : List ℤ) (rows : List (List Value)) (es : List Entry) (session next : ℕ) (s : Statement) → HasKeys s → Each (IsWithin (length ns) (length rows)) es
    → map (unpacked (ns ++ added s) (rows ++ added_rows s)) (es ++ (record { session = session; next = next; packed = packed_as cursor (length ns) (length rows) s }) ∷ []) ≡ map
    (unpacked ns rows) es ++ (session, s) ∷ []
one_more cursor ns rows es session next s keys h =
    let e : Entry = record { session = session; next = next; packed = packed_as cursor (length ns) (length rows) s } in
    map-append (unpacked (ns ++ added s) (rows ++ added_rows s)) es (e ∷ []) ∙ rw (all_stay ns (added s) rows (added_rows s) es h, comes_back cursor ns rows s keys) refl

pub within_more : (ns more : List ℤ) (rows others : List (List Value)) (es : List Entry) → Each (IsWithin (length ns) (length rows)) es →
    Each (IsWithin (length (ns ++ more)) (length (rows ++ others))) es
within_more ns more rows others es h =
    each_keeps (IsWithin (length ns) (length rows)) (IsWithin (length (ns ++ more)) (length (rows ++ others)))
    (λ e k. more_room (length ns) (length (ns ++ more)) (length rows) (length (rows ++ others)) e.packed (omega (arith, length-append ns more)) (omega (arith, length-append rows others)) k) es h

pub fold_greatest : (n : ℕ) (ns : List ℤ) (rows : List (List Value)) (es : List Entry) →
    fold (λ (most : ℕ) (e : Entry). max most e.session) n es ≡ max n (greatest (map (λ said. said.0) (map (unpacked ns rows) es)))
fold_greatest n ns rows [] = omega arith
fold_greatest n ns rows (e ∷ es) = omega (arith, fold_greatest (max n e.session) ns rows es)

-- ---- where an entry leads says nothing of its statement

pub led_unpacked : (ns : List ℤ) (rows : List (List Value)) (l i : ℕ) (es : List Entry) → map (unpacked ns rows) (led l i es) ≡ map (unpacked ns rows) es
led_unpacked ns rows l i [] = refl
led_unpacked ns rows zero i (e ∷ es) = refl
led_unpacked ns rows (suc l) i (e ∷ es) = ap (λ said. unpacked ns rows e ∷ said) (led_unpacked ns rows l i es)

pub led_within : (n k l i : ℕ) (es : List Entry) → Each (IsWithin n k) es → Each (IsWithin n k) (led l i es)
led_within n k l i [] h = tt
led_within n k zero i (e ∷ es) h = h
led_within n k (suc l) i (e ∷ es) h = (h.0, led_within n k l i es h.1)

pub led_session : (l i : ℕ) (es : List Entry) → Each HasSession es → Each HasSession (led l i es)
led_session l i [] h = tt
led_session zero i (e ∷ es) h = h
led_session (suc l) i (e ∷ es) h = (h.0, led_session l i es h.1)

-- the sessions are those of the entries
pub unpacked_sessions : (ns : List ℤ) (rows : List (List Value)) (es : List Entry) → map (λ (said : ℕ × Statement). said.0) (map (unpacked ns rows) es) ≡ sessions_in es
unpacked_sessions ns rows [] = refl
unpacked_sessions ns rows (e ∷ es) = ap (λ ks. e.session ∷ ks) (unpacked_sessions ns rows es)

pub unpacked_session : (ns : List ℤ) (rows : List (List Value)) (es : List Entry) (i : ℕ) (said : ℕ × Statement) (e : Entry) → i < length es →
    (get_or (map (unpacked ns rows) es) i said).0 ≡ (get_or es i e).session
unpacked_session ns rows [] i said e less = absurd (omega (arith, less))
unpacked_session ns rows (x ∷ es) zero said e less = refl
unpacked_session ns rows (x ∷ es) (suc i) said e less = unpacked_session ns rows es i said e (omega (arith, less))

-- the statement at i
pub unpacked_at : (ns : List ℤ) (rows : List (List Value)) (es : List Entry) (i : ℕ) (said : ℕ × Statement) (e : Entry) → i < length es →
    get_or (map (unpacked ns rows) es) i said ≡ unpacked ns rows (get_or es i e)
unpacked_at ns rows [] i said e less = absurd (omega (arith, less))
unpacked_at ns rows (x ∷ es) zero said e less = refl
unpacked_at ns rows (x ∷ es) (suc i) said e less = unpacked_at ns rows es i said e (omega (arith, less))
