-- The rows of the fetches of a table, and those of all tables.
use Rattle.std.proofs.Common.{◌≡◌, ◌<◌, ◌≤◌, ◌+◌, ◌^◌, ◌⊎◌, ◌∙◌, ℕ, List, [], ◌∷◌, ◌++◌, length, map, take, Bool, true, ◌==◌, ◌&&◌, nat_lt, Option, Some, None, inl, inr, refl, sym, ap}
use Rattle.std.proofs.Common.{subst, arith, append_assoc}
use Rattle.std.specs.Prelude.{Contains, IsTrue, is_none}
use Rattle.std.specs.List.{list_any}
use Rattle.std.proofs.lemmas.Bool.{eqb-true, false≢true}
use Rattle.std.proofs.lemmas.Bool.Decides.{nat_tests}
use Rattle.std.proofs.lemmas.List.{append-nil, length-take-le, take_all}
use Rattle.std.proofs.lemmas.List.Elements.{Contains-append_left, Contains-append_right}
use Rattle.hg_base.specs.declared.image.Image.{Image}
use Rattle.hg_base.specs.declared.rid.Rid.{Rid}
use Rattle.hg_base.specs.declared.rid.TableId.{TableId}
use Rattle.hg_base.specs.declared.value.Value.{Value}
use Rattle.hg_base.specs.Lists.{Ascends, Each}
use Rattle.hg_base.specs.History.{History, visible}
use Rattle.hg_base.specs.Replies.{AreRows}
use Rattle.hg_base.specs.Script.{Declaration}
use Rattle.hg_base.proofs.ListFacts.{cases, each_append}
use Rattle.hg_core.specs.declared.log.LogEntry.{LogEntry}
use Rattle.hg_rule.specs.declared.view.View.{View}
use Rattle.hg_cursor.specs.declared.cursor.Cursor.{Cursor}
use Rattle.hg_cursor.specs.Cursors.{at_of, table_of, high_of, rest_of, shown_at}
use Rattle.hg_cursor.specs.Given.{begins_at, goes_on, AreFirstOf, Fetched, joined}
use Rattle.hg_cursor.specs.Keys.{Rows}
use Rattle.hg_cursor.specs.Logs.{GoesOn}
use Rattle.hg_cursor.proofs.Joining.{given_all, given_none}
use Rattle.hg_dump.specs.Rows.{AreAscending, AreRowsAt, Kept, kept_in}
use Rattle.hg_dump.proofs.Ordered.{contains_first, contains_later}
use Rattle.hg_dump.specs.declared.tables.TheConstants.{FETCHED}
use Rattle.hg_dump.specs.Exports.{Looks}
use Rattle.hg_dump.specs.Writes.{IsOver, HasWritten, HasWrittenTable, HasWrittenTables, last_of_all, puts_bytes}
use Rattle.hg_dump.proofs.Looking.{goes_back}
use Rattle.hg_dump.proofs.Texts.{table_text_more, text_more, text_none}

-- ---- one table, fetch by fetch

-- the fetches so far
pub record IsSoFar (tables : List Declaration) (buckets at : ℕ) (table : TableId) (cursor : Cursor) (w : View) (before after : List ℕ) : Type 0 where
  pub fetches : List (ℕ × Rows)
  pub text : after ≡ before ++ puts_bytes tables (kept_in table (joined fetches))
  pub at_is : at_of cursor ≡ at
  pub table_is : table_of cursor ≡ table
  pub high_is : high_of cursor ≡ last_of_all
  pub fetched : (h : History) (logs : ℕ → List LogEntry) → GoesOn buckets w h logs → Fetched (shown_at h table at) last_of_all (begins_at 0 last_of_all) fetches (rest_of cursor)

pub so_far_none : (tables : List Declaration) (buckets at : ℕ) (table : TableId) (cursor : Cursor) (w : View) (before : List ℕ) → IsOver at table cursor →
    IsSoFar tables buckets at table cursor w before before
so_far_none tables buckets at table cursor w before o =
    record { fetches = []; text = text_none tables before; at_is = o.at_is; table_is = o.table_is; high_is = o.high_is; fetched = λ hs logs g. o.rest_is }

fetched_more : (look : ℕ → Image) (high n : ℕ) (from : Option ℕ) (fetches : List (ℕ × Rows)) (rest : Option ℕ) (rows : Rows) → 0 < n → Fetched look high from fetches rest →
    AreFirstOf look n rest high rows
    → Fetched look high from (fetches ++ (n, rows) ∷ []) (goes_on n high rows rest)
fetched_more look high n from [] rest rows some f a = (some, subst (λ o. AreFirstOf look n o high rows) f a, ap (goes_on n high rows) f)
fetched_more look high n from (x ∷ fetches) rest rows some f a = (f.0, f.1, fetched_more look high n (goes_on x.0 high x.1 from) fetches rest rows some f.2 a)

joined_more : (fetches : List (ℕ × Rows)) (n : ℕ) (rows : Rows) → joined (fetches ++ (n, rows) ∷ []) ≡ joined fetches ++ rows
joined_more [] n rows = append-nil rows
joined_more (x ∷ fetches) n rows = ap (λ rs. x.1 ++ rs) (joined_more fetches n rows) ∙ sym (append_assoc x.1 (joined fetches) rows)

-- one fetch more
pub so_far_more : (tables : List Declaration) (buckets at : ℕ) (table : TableId) (old new : Cursor) (v w : View) (before mid after : List ℕ) →
    IsSoFar tables buckets at table old v before mid → Looks v w
    → HasWritten tables buckets old new w mid after → IsSoFar tables buckets at table new w before after
so_far_more tables buckets at table old new v w before mid after s k m =
    let text = subst (λ t. after ≡ mid ++ puts_bytes tables (kept_in t m.rows)) s.table_is m.text in record {
      fetches = s.fetches ++ (FETCHED, m.rows) ∷ [];
      text = subst (λ rows. after ≡ before ++ puts_bytes tables (kept_in table rows)) (sym (joined_more s.fetches FETCHED m.rows))
          (table_text_more tables table before mid after (joined s.fetches) m.rows s.text text);
      at_is = m.moved.0 ∙ s.at_is;
      table_is = m.moved.1 ∙ s.table_is;
      high_is = m.moved.2 ∙ s.high_is;
      fetched = λ h logs g.
          let first = subst (λ a. AreFirstOf (shown_at h table a) FETCHED (rest_of old) last_of_all m.rows) s.at_is
          (subst (λ t. AreFirstOf (shown_at h t (at_of old)) FETCHED (rest_of old) last_of_all m.rows) s.table_is
          (subst (λ high. AreFirstOf (shown_at h (table_of old) (at_of old)) FETCHED (rest_of old) high m.rows) s.high_is (m.first h logs g))) in
          let moved : rest_of new ≡ goes_on FETCHED last_of_all m.rows (rest_of old) = m.moved.3 ∙ ap (λ high. goes_on FETCHED high m.rows (rest_of old)) s.high_is in
          subst (Fetched (shown_at h table at) last_of_all (begins_at 0 last_of_all) (s.fetches ++ (FETCHED, m.rows) ∷ [])) (sym moved)
          (fetched_more (shown_at h table at) last_of_all FETCHED (begins_at 0 last_of_all) s.fetches (rest_of old) m.rows (omega arith) (s.fetched h logs (goes_back buckets v w h logs k g)) first);
    }

nothing_left : (o : Option ℕ) → is_none o ≡ true → o ≡ None
nothing_left None e = refl
nothing_left (Some k) e = absurd (false≢true e)

-- the cursor is done
pub table_whole : (tables : List Declaration) (buckets at : ℕ) (table : TableId) (cursor : Cursor) (w : View) (before after : List ℕ) →
    IsSoFar tables buckets at table cursor w before after → is_none (rest_of cursor) ≡ true
    → HasWrittenTable tables buckets at table w before after
table_whole tables buckets at table cursor w before after s done = record {
  rows = joined s.fetches;
  text = s.text;
  all = λ h logs g.
      let look = shown_at h table at in
      let whole = subst (Fetched look last_of_all (begins_at 0 last_of_all) s.fetches) (nothing_left (rest_of cursor) done) (s.fetched h logs g) in
      given_all look 0 last_of_all (begins_at 0 last_of_all) None [] s.fetches (given_none look 0 last_of_all) whole;
}

-- ---- all tables

-- the table of a number
abbrev pub table_number : ℕ → TableId
table_number i = record { 0 = i }

in_order : (i : ℕ) (rows : Rows) → Ascends (map (λ p. p.0) rows) → AreAscending (kept_in (table_number i) rows)
in_order i [] a = tt
in_order i (p ∷ []) a = tt
in_order i (p ∷ q ∷ rows) a = let less = a.0 in (grind (arith, nat_tests, less), in_order i (q ∷ rows) a.1)

abbrev IsBelow : ℕ → Kept → Type 0
IsBelow i kept = kept.rid.table.0 < i

then_table : (i : ℕ) (xs : List Kept) (rows : Rows) → AreAscending xs → Each (IsBelow i) xs → Ascends (map (λ p. p.0) rows) → AreAscending (xs ++ kept_in (table_number i) rows)
then_table i [] rows a b c = in_order i rows c
then_table i (x ∷ []) [] a b c = tt
then_table i (x ∷ []) (p ∷ rows) a b c = let less = b.0 in (grind (arith, nat_tests, less), in_order i (p ∷ rows) c)
then_table i (x ∷ y ∷ xs) rows a b c = (a.0, then_table i (y ∷ xs) rows a.1 b.1 c)

module _ (h : History) (at i : ℕ) where
  abbrev shown : ℕ → Image
  shown = shown_at h (table_number i) at

  abbrev IsRow : ℕ × List Value → Type 0
  IsRow p = (0 ≤ p.0) × (p.0 ≤ last_of_all) × ((shown p.0).row ≡ Some p.1)

  -- the tests of a record, by its table and its key
  abbrev is_below : ℕ → Rid → Bool
  is_below n r = nat_lt r.table.0 n && nat_lt r.key (2 ^ 64)

  abbrev IsKept : ℕ → Kept → Type 0
  IsKept n kept = IsTrue (is_below n kept.rid) × ((visible h kept.rid at).row ≡ Some kept.row)

  rows_kept : (rows : Rows) → Each IsRow rows → Each (IsKept (i + 1)) (kept_in (table_number i) rows)
  rows_kept [] e = tt
  rows_kept (p ∷ rows) e = let small = e.0.1 in ((grind (arith, nat_tests, small), e.0.2), rows_kept rows e.1)

  still_kept : (xs : List Kept) → Each (IsKept i) xs → Each (IsKept (i + 1)) xs
  still_kept [] e = tt
  still_kept (x ∷ xs) e = let below = e.0.0 in ((grind (arith, nat_tests, below), e.0.1), still_kept xs e.1)

  are_below : (xs : List Kept) → Each (IsKept i) xs → Each (IsBelow i) xs
  are_below [] e = tt
  are_below (x ∷ xs) e = let below = e.0.0 in (grind (arith, nat_tests, below), are_below xs e.1)

  same_kept : (kept : Kept) (p : ℕ × List Value) → kept.rid.table.0 ≡ i → p.0 ≡ kept.rid.key → (shown p.0).row ≡ Some p.1 → (visible h kept.rid at).row ≡ Some kept.row
      → (record { rid = record { table = table_number i; key = p.0 }; row = p.1 }) ≡ kept
  same_kept kept p t k shows is =
      let rid : (record { table = table_number i; key = p.0 }) ≡ kept.rid = rw (← t, k) refl in
      let both : Some p.1 ≡ Some kept.row = sym shows ∙ ap (λ r. (visible h r at).row) rid ∙ is in
      let row : p.1 ≡ kept.row = cc both in
      rw (rid, row) refl

  found : (rows : Rows) (kept : Kept) → kept.rid.table.0 ≡ i → (visible h kept.rid at).row ≡ Some kept.row → Each IsRow rows → IsTrue (list_any (λ p. p.0 == kept.rid.key) rows) →
      Contains (kept_in (table_number i) rows) kept
  found [] kept t is e m = absurd (false≢true m)
  found (p ∷ rows) kept t is e m = cases (p.0 == kept.rid.key)
      (λ same. subst (λ x. Contains (kept_in (table_number i) (p ∷ rows)) x) (same_kept kept p t (eqb-true p.0 kept.rid.key same) e.0.2 is) (contains_first _ (kept_in (table_number i) rows)))
      (λ other. contains_later _ (kept_in (table_number i) rows) kept (found rows kept t is e.1 (rw other at m)))

  by_key : (rows : Rows) (kept : Kept) → kept.rid.table.0 ≡ i → (visible h kept.rid at).row ≡ Some kept.row → Each IsRow rows →
      IsTrue (list_any (λ p. p.0 == kept.rid.key) rows) ⊎ ((shown kept.rid.key).row ≡ None)
      → Contains (kept_in (table_number i) rows) kept
  by_key rows kept t is e (inl m) = found rows kept t is e m
  by_key rows kept t is e (inr none) =
      let rid : (record { table = table_number i; key = kept.rid.key }) ≡ kept.rid = rw (← t) refl in
      let bad : None ≡ Some kept.row = sym none ∙ ap (λ r. (visible h r at).row) rid ∙ is in
      absurd (let no : ⊥ = cc bad in no)

  -- rows of the tables below a number, by their tests
  pub record AreBelow (n : ℕ) (xs : List Kept) : Type 0 where
    pub ascend : AreAscending xs
    pub each : Each (IsKept n) xs
    pub every : (kept : Kept) → IsTrue (is_below n kept.rid) → (visible h kept.rid at).row ≡ Some kept.row → Contains xs kept

  below_more : (xs : List Kept) (rows : Rows) → AreBelow i xs → AreRows shown 0 last_of_all rows → AreBelow (i + 1) (xs ++ kept_in (table_number i) rows)
  below_more xs rows a b = record {
    ascend = then_table i xs rows a.ascend (are_below xs a.each) b.ascend;
    each = each_append (IsKept (i + 1)) xs (kept_in (table_number i) rows) (still_kept xs a.each) (rows_kept rows b.each);
    every = λ kept below is. cases (nat_lt kept.rid.table.0 i)
        (λ less. Contains-append_left xs (kept_in (table_number i) rows) kept (a.every kept (grind (arith, nat_tests, below, less)) is))
        (λ over.
        let here : kept.rid.table.0 ≡ i = grind (arith, nat_tests, below, over) in
        let small : kept.rid.key ≤ last_of_all = grind (arith, nat_tests, below) in
        Contains-append_right xs (kept_in (table_number i) rows) kept (by_key rows kept here is b.each (b.every kept.rid.key (omega arith) small)));
  }

  below_tables : (tables : List Declaration) (xs : List Kept) → AreBelow (length tables) xs → AreRowsAt tables h at xs
  below_tables tables xs a = record { ascend = a.ascend; each = a.each; every = a.every }

  tables_below : (tables : List Declaration) (n : ℕ) (xs : List Kept) → length tables ≡ n → AreRowsAt tables h at xs → AreBelow n xs
  tables_below tables n xs e a = subst (λ k. AreBelow k xs) e (record { ascend = a.ascend; each = a.each; every = a.every })

  rows_more : (tables : List Declaration) (xs : List Kept) (rows : Rows) → i < length tables → AreRowsAt (take i tables) h at xs → AreRows shown 0 last_of_all rows →
      AreRowsAt (take (i + 1) tables) h at (xs ++ kept_in (table_number i) rows)
  rows_more tables xs rows less a b =
      below_tables (take (i + 1) tables) (xs ++ kept_in (table_number i) rows)
      (subst (λ n. AreBelow n (xs ++ kept_in (table_number i) rows)) (sym (length-take-le (i + 1) tables (omega (arith, less))))
      (below_more xs rows (tables_below (take i tables) i xs (length-take-le i tables (omega (arith, less))) a) b))

-- no table
none_at : (tables : List Declaration) (h : History) (at : ℕ) → AreRowsAt (take 0 tables) h at []
none_at tables h at = record { ascend = tt; each = tt; every = λ kept declared is. absurd (let bad : kept.rid.table.0 < 0 = grind (arith, nat_tests, declared) in omega (arith, bad)) }

pub tables_none : (tables : List Declaration) (buckets at : ℕ) (w : View) (before : List ℕ) → HasWrittenTables tables (take 0 tables) buckets at w before before
tables_none tables buckets at w before = record { rows = []; text = text_none tables before; all = λ h logs g. none_at tables h at }

-- one table more
pub tables_more : (tables : List Declaration) (buckets at i : ℕ) (v w : View) (before mid after : List ℕ) → i < length tables → Looks v w →
    HasWrittenTables tables (take i tables) buckets at v before mid
    → HasWrittenTable tables buckets at (record { 0 = i }) w mid after → HasWrittenTables tables (take (i + 1) tables) buckets at w before after
tables_more tables buckets at i v w before mid after less k s m = record {
  rows = s.rows ++ kept_in (record { 0 = i }) m.rows;
  text = text_more tables before mid after s.rows (kept_in (record { 0 = i }) m.rows) s.text m.text;
  all = λ h logs g. rows_more h at i tables s.rows m.rows less (s.all h logs (goes_back buckets v w h logs k g)) (m.all h logs g);
}

pub tables_all : (tables : List Declaration) (buckets at i : ℕ) (w : View) (before after : List ℕ) → length tables ≤ i →
    HasWrittenTables tables (take i tables) buckets at w before after → HasWrittenTables tables tables buckets at w before after
tables_all tables buckets at i w before after over s = subst (λ ds. HasWrittenTables tables ds buckets at w before after) (take_all i tables over) s
