-- A session with a cursor: how its calls begin and end, and what a fetch leaves.
use Rattle.std.proofs.Common.{◌≡◌, ℕ, zero, suc, ◌≤◌, List, [], Bool, true, false, Option, Some, None, refl, sym, ap, ◌∙◌, subst, arith, append-nil}
use Rattle.std.specs.Prelude.{◌==◌, ◌&&◌, ◌%◌, IsSome, IsTrue, if◌then◌else◌, nat_lt, nat_le, Result, Ok, Err}
use Rattle.std.proofs.Math.Nat.{div_self}
use Rattle.std.proofs.lemmas.Bool.Decides.{nat_tests}
use Rattle.std.proofs.lemmas.Nat.{pow_pos}
use Rattle.hg_base.specs.declared.fault.NoMemory.{NoMemory}
use Rattle.hg_base.specs.declared.rid.Rid.{Rid}
use Rattle.hg_base.specs.declared.rid.TableId.{TableId}
use Rattle.hg_base.specs.declared.scope.Snapshot.{Snapshot}
use Rattle.hg_base.specs.declared.statement.Statement.TheVariants as say
use Rattle.hg_base.specs.declared.line.Answer.TheVariants as answers
use Rattle.hg_base.specs.Lists.{Each}
use Rattle.hg_base.specs.Transcript.{Rest, only, has, passed, rest_behind, rest_after}
use Rattle.hg_core.specs.Logs.{current}
use Rattle.hg_core.specs.Reading.{Unprinted, FitsScope, Picks, looks, log_with}
use Rattle.hg_core.specs.Reading as reading
use Rattle.hg_core.proofs.Right.{if_any}
use Rattle.hg_cursor.specs.declared.cursor.Cursor.{Cursor}
use Rattle.hg_cursor.specs.Cursors.{at_of, table_of, high_of, rest_of, FetchesRest}
use Rattle.hg_cursor.specs.Given.{begins_at, goes_on, key_after}
use Rattle.hg_cursor.specs.Logs.{ReadsAt}
use Rattle.hg_rule.specs.declared.view.Sizes.{Sizes}
use Rattle.hg_rule.specs.declared.view.View.{View}
use Rattle.hg_rule.specs.Seats.{IsSessionOf}
use Rattle.hg_rule.specs.Views.{number, session, HasOnlySession}
use Rattle.hg_cursor.specs.Keys.{Rows}
use Rattle.hg_session.specs.declared.engine.Engine.{Engine}
use Rattle.hg_session.specs.declared.session.Session.{Session}
use Rattle.hg_session.specs.Cursors.{IsLeftBy, FitsRest, HasLookedOn}
use Rattle.hg_session.specs.Engines.{engine_board_id, engine_sizes}
use Rattle.hg_session.specs.Gains.{Gains}
use Rattle.hg_session.specs.Refused.{IsLookAt}
use Rattle.hg_session.specs.Replies.{AnswersFrom, inside}
use Rattle.hg_session.specs.Sessions.{IsIn, IsOf, pass_of, view_of, number_of, log_of, seen_by, open_of, cursor_of, left_of, opened_of, written_of}
use Rattle.hg_session.specs.Ties.{Ties, FitsCursor, phase_at, snapshot_of}
use Rattle.hg_rule.specs.Facts.{IsHeard}
use Rattle.hg_session.proofs.Replying.{no_writes}
use Rattle.hg_cursor.proofs.Trips.{first_session}
use Rattle.hg_session.proofs.Tying.{IsQuiet}
use Rattle.hg_session.proofs.Reading.{adds_gain, ties_looked}

-- ---- with no cursor

-- where no transaction is open, no cursor is
pub no_cursor : (e : Engine) (s : Session) → IsOf e s → open_of s ≡ None → cursor_of s ≡ None
no_cursor e s own closed = go (cursor_of s) own.cursor
  where
    go : (c : Option Cursor) → FitsCursor c (opened_of s) (written_of s) → c ≡ None
    go None f = refl
    go (Some c) f = absurd (let k : Some (snapshot_of c) ≡ None = sym f.0 ∙ (sym own.ties.opens ∙ closed) in cc)

pub between : (e : Engine) (s : Session) → IsIn e 0 0 s → IsOf e s
between e s i = record {
  pass = i.pass;
  only = i.only;
  ties = i.ties;
  heard = i.heard;
  cursor = subst (λ c. FitsCursor c (opened_of s) (written_of s)) (sym i.closed) tt;
}

-- ---- what a cursor reads

-- a table is in the scope of it alone
pub has_only : (table : TableId) → IsTrue (has (only (Some table)) table)
has_only table = ap (λ n. n % 2 == 1) (div_self (pow_pos table.0))

pub some_cursor : (o : Option Cursor) → IsSome o → (c : Cursor) × (o ≡ Some c)
some_cursor None h = absurd (let k = h in cc)
some_cursor (Some c) h = (c, refl)

pub fits_some : (s : Session) (c : Cursor) → FitsCursor (cursor_of s) (opened_of s) (written_of s) → cursor_of s ≡ Some c → FitsCursor (Some c) (opened_of s) (written_of s)
fits_some s c f is = subst (λ o. FitsCursor o (opened_of s) (written_of s)) is f

pub reads_at : (e : Engine) (s : Session) (c : Cursor) → IsOf e s → cursor_of s ≡ Some c → ReadsAt (at_of c) (table_of c) (view_of s)
reads_at e s c own is =
    let f = fits_some s c own.cursor is in
    let t = own.ties in record {
      only = own.only;
      scope = only (Some (table_of c));
      live = t.phase ∙ ap phase_at f.0;
      opens = t.opens ∙ f.0;
      declared = has_only (table_of c);
      unwritten = no_writes (written_of s) (log_of s) t.plain t.written_is f.1;
      plain = t.plain;
      unstamped = t.unstamped;
    }

-- ---- the looks of a fetch

looks_there : (buckets : ℕ) (table : TableId) (low high : ℕ) (part : ℕ → Rows) (n : ℕ) → Each (IsLookAt table low high) (looks buckets table low high part n)
looks_there buckets table low high part zero = tt
looks_there buckets table low high part (suc n) = ((refl, (refl, refl)), looks_there buckets table low high part n)

looks_quiet : (buckets : ℕ) (table : TableId) (low high : ℕ) (part : ℕ → Rows) (n : ℕ) → Each IsQuiet (looks buckets table low high part n)
looks_quiet buckets table low high part zero = tt
looks_quiet buckets table low high part (suc n) = (tt, looks_quiet buckets table low high part n)

same_gain : (v w : View) → w ≡ v → Gains v [] w
same_gain v w e = record { number_is = ap number e; log = ap (λ x. (session x).log) e; kept = ([], ap (λ (x : View). x.sights) e ∙ sym (append-nil v.sights)) }

-- ---- what a session keeps after them

ties_fetched : (quota left count most : ℕ) (opened : Option Snapshot) (written : List Rid) (v w : View) (table : TableId) (rest : Option ℕ) (high : ℕ)
    (answer : Result Rows NoMemory) → FetchesRest count most v table rest high answer w → Ties quota opened written left 0 0 (session v) → Ties quota opened written left 0 0 (session w)
ties_fetched quota left count most opened written v w table None high answer f t = subst (λ x. Ties quota opened written left 0 0 (session x)) (sym f.1) t
ties_fetched quota left count most opened written v w table (Some low) high (Ok rows) f t = subst (Ties quota opened written left 0 0)
    (sym (first_session w (number v) _ [] f.looked.adds.parts)) (ties_looked quota left 0 0 opened written (session v) _ (looks_quiet count table low high f.looked.part f.looked.number) t)
ties_fetched quota left count most opened written v w table (Some low) high (Err e) f t = subst (Ties quota opened written left 0 0)
    (sym (first_session w (number v) _ [] f.adds.parts)) (ties_looked quota left 0 0 opened written (session v) _ (looks_quiet count table low high f.part f.number) t)

-- the session after a fetch, whose cursor may have gone on
pub fetched : (e : Engine) (s t : Session) (c d : Cursor) (count most : ℕ) (answer : Result Rows NoMemory) → IsOf e s → cursor_of s ≡ Some c → cursor_of t ≡ Some d →
    at_of d ≡ at_of c → table_of d ≡ table_of c
    → opened_of t ≡ opened_of s → written_of t ≡ written_of s → left_of t ≡ left_of s → IsSessionOf (engine_board_id e) (engine_sizes e) (pass_of t) →
    FetchesRest count most (view_of s) (table_of c) (rest_of c) (high_of c) answer (view_of t) → HasOnlySession (view_of t) → IsHeard (number_of t) (log_of t) (seen_by t) → IsOf e t
fetched e s t c d count most answer own is now at table opened written left pass f alone heard =
    let fits = fits_some s c own.cursor is in
    let quota = (engine_sizes e).quota in
    let ties = ties_fetched quota (left_of s) count most (opened_of s) (written_of s) (view_of s) (view_of t) (table_of c) (rest_of c) (high_of c) answer f own.ties in record {
      pass = pass;
      only = alone;
      ties = subst (λ (k : Option Snapshot × (List Rid × ℕ)). Ties quota k.0 k.1.0 k.1.1 0 0 (session (view_of t))) (λ i. (sym opened i, (sym written i, sym left i))) ties;
      heard = heard;
      cursor = subst (λ o. FitsCursor o (opened_of t) (written_of t)) (sym now)
          (opened ∙ (fits.0 ∙ (λ i. Some (record { at = sym at i; scope = only (Some (sym table i)) }))), written ∙ fits.1);
    }

-- ---- what a fetch replies

abbrev pub with_looks : Rest → (ℕ → Rows) → ℕ → Unprinted
with_looks rest part looked = record { found = []; part = part; undone = []; rest = Some rest; looked = looked }

passed_none : (n high : ℕ) → passed n high [] ≡ high
passed_none n high = go (nat_lt 0 n)
  where
    go : (b : Bool) → (if b then high else high) ≡ high
    go true = refl
    go false = refl

-- where nothing is left, no look picks no row
picks_none : (buckets most : ℕ) (rest : Rest) (rows : Rows) → nat_le rest.low rest.high ≡ false → rows ≡ [] → Picks buckets most rest.table rest.low rest.high 0 (λ i. []) rows
picks_none buckets most rest rows gone none = subst (Picks buckets most rest.table rest.low rest.high 0 (λ i. [])) (sym none) (record {
  few = omega arith;
  within = let p = passed_none most rest.high in omega (arith, p);
  ascend = tt;
  each = tt;
  every = λ i l. tt;
  none_left = λ k low up. absurd (over k low (subst (λ n. k ≤ n) (passed_none most rest.high) up));
})
  where
    over : (k : ℕ) → rest.low ≤ k → k ≤ rest.high → ⊥
    over k low up = grind (arith, nat_tests, gone)

module _ (z : Sizes) (v w : View) (most : ℕ) (snapshot : Snapshot) (rest : Rest) (rows : Rows) (opened : current (session v).log ≡ Some snapshot) where
  answers_with : (part : ℕ → Rows) (looked : ℕ) → Gains v (looks z.buckets rest.table rest.low rest.high part looked) w →
      Picks z.buckets most rest.table rest.low rest.high looked part rows → AnswersFrom (Some rest) z v (say.Fetch most) (inside (answers.Rows rows)) w
  answers_with part looked g picks =
      let log = (session v).log in
      let says = say.Fetch most in
      let alone : reading.is_alone (current log) says ≡ false = ap (λ o. reading.is_alone o says) opened in record {
        answers = record {
          u = with_looks rest part looked;
          fits = record {
            at = sym alone;
            number = ap (λ b. b && false) (sym alone);
            answer = picks;
            scope = if_any (current log) (λ c. FitsScope c.scope says (answers.Rows rows)) (λ c. tt);
            inside = subst IsSome (sym opened) refl;
          };
          log = g.log ∙ ap (λ b. log_with b z.buckets (with_looks rest part looked) says (inside (answers.Rows rows)) log) (sym alone);
          number_is = g.number_is;
          kept = g.kept;
          snapshot = tt;
          commit = tt;
          newer = tt;
          goes_on = tt;
        };
        rest_is = refl;
      }

  go_from : (b : Bool) → nat_le rest.low rest.high ≡ b → FetchesRest z.buckets most v rest.table (if b then Some rest.low else None) rest.high (Ok rows) w →
      AnswersFrom (Some rest) z v (say.Fetch most) (inside (answers.Rows rows)) w
  go_from true some f = answers_with f.looked.part f.looked.number (adds_gain v w _ f.looked.adds) f.picks
  go_from false gone f = answers_with (λ i. []) 0 (same_gain v w f.1) (picks_none z.buckets most rest rows gone (let e : ◌≡◌ {A = Result Rows NoMemory} (Ok rows) (Ok []) = f.0 in cc))

  fetch_answers : (c : Cursor) → IsLeftBy c rest → FetchesRest z.buckets most v (table_of c) (rest_of c) (high_of c) (Ok rows) w →
      AnswersFrom (Some rest) z v (say.Fetch most) (inside (answers.Rows rows)) w
  fetch_answers c left f = go_from (nat_le rest.low rest.high) refl
      (subst (λ o. FetchesRest z.buckets most v rest.table o rest.high (Ok rows) w) left.from
      (subst (λ (k : TableId × ℕ). FetchesRest z.buckets most v k.0 (rest_of c) k.1 (Ok rows) w) (λ i. (sym left.table i, sym left.high i)) f))

pub fetch_replies : (z : Sizes) (v w : View) (most : ℕ) (snapshot : Snapshot) (c : Cursor) (rows : Rows) (rest : Option Rest) → current (session v).log ≡ Some snapshot →
    FetchesRest z.buckets most v (table_of c) (rest_of c) (high_of c) (Ok rows) w → FitsRest (Some c) rest → AnswersFrom rest z v (say.Fetch most) (inside (answers.Rows rows)) w
fetch_replies z v w most snapshot c rows None opened f left = absurd left
fetch_replies z v w most snapshot c rows (Some rest) opened f left = fetch_answers z v w most snapshot rest rows opened c left f

-- ---- what the cursor has left after it

-- a cursor goes on after a key where one over the rest of its range begins
behind_is : (high key : ℕ) → key_after high key ≡ begins_at (suc key) high
behind_is high key = grind (arith, nat_tests)

none_behind : (high : ℕ) → begins_at (suc high) high ≡ None
none_behind high = grind (arith, nat_tests)

left_moved : (count most : ℕ) (c d : Cursor) (rest : Rest) (rows : Rows) (v w : View) → table_of d ≡ table_of c → high_of d ≡ high_of c →
    rest_of d ≡ goes_on most (high_of c) rows (rest_of c) → FetchesRest count most v (table_of c) (rest_of c) (high_of c) (Ok rows) w → IsLeftBy c rest → IsLeftBy d (rest_behind most rows rest)
left_moved count most c d rest rows v w table high goes f left = record {
  table = left.table ∙ sym table;
  high = left.high ∙ sym high;
  from = goes ∙ ((λ i. goes_on most (sym left.high i) rows (left.from i)) ∙ go (nat_le rest.low rest.high) (subst (λ o. FetchesRest count most v (table_of c) o (high_of c) (Ok rows) w) left.from f));
}
  where
    go : (b : Bool) → FetchesRest count most v (table_of c) (if b then Some rest.low else None) (high_of c) (Ok rows) w →
        goes_on most rest.high rows (if b then Some rest.low else None) ≡ begins_at (suc (passed most rest.high rows)) rest.high
    go true g = behind_is rest.high (passed most rest.high rows)
    go false g =
        let none : rows ≡ [] = (let e : ◌≡◌ {A = Result Rows NoMemory} (Ok rows) (Ok []) = g.0 in cc) in
        sym (ap (λ k. begins_at (suc k) rest.high) (ap (passed most rest.high) none ∙ passed_none most rest.high) ∙ none_behind rest.high)

pub fetch_moves : (count most : ℕ) (c d : Cursor) (rows : Rows) (v w : View) (rest : Option Rest) → table_of d ≡ table_of c → high_of d ≡ high_of c →
    rest_of d ≡ goes_on most (high_of c) rows (rest_of c) → FetchesRest count most v (table_of c) (rest_of c) (high_of c) (Ok rows) w → FitsRest (Some c) rest →
    FitsRest (Some d) (rest_after (say.Fetch most) (answers.Rows rows) rest)
fetch_moves count most c d rows v w None table high goes f left = absurd left
fetch_moves count most c d rows v w (Some rest) table high goes f left = left_moved count most c d rest rows v w table high goes f left

-- ---- what it leaves where it is refused

pub looked_on : (count most : ℕ) (c : Cursor) (v w : View) (e : NoMemory) → FetchesRest count most v (table_of c) (rest_of c) (high_of c) (Err e) w → HasLookedOn (Some c) v w
looked_on count most c v w e f = go (rest_of c) refl f
  where
    go : (rest : Option ℕ) → rest_of c ≡ rest → FetchesRest count most v (table_of c) rest (high_of c) (Err e) w → HasLookedOn (Some c) v w
    go None is g = absurd (let k : ◌≡◌ {A = Result Rows NoMemory} (Err e) (Ok []) = g.0 in cc)
    go (Some low) is g = (low, is, record { looks = _; there = looks_there count (table_of c) low (high_of c) g.part g.number; gains = adds_gain v w _ g.adds })
