-- Statements as records, by counted places.
use Rattle.std.proofs.Common.{◌≡◌, ◌<◌, ◌≤◌, ◌==◌, ◌&&◌, ◌+◌, ◌∙◌, ℕ, zero, suc, Bool, true, false, List, [], ◌∷◌, ◌++◌, length, map, take, get_or, Option, None, nat_lt, if◌then◌else◌, refl}
use Rattle.std.proofs.Common.{ap, arith}
use Rattle.std.specs.Option.{option_or}
use Rattle.std.proofs.lemmas.Bool.{cond_both}
use Rattle.std.proofs.lemmas.Bool.Decides.{nat_tests}
use Rattle.hg_base.specs.Text.{opens, cursor_before}
use Rattle.hg_base.specs.declared.rid.TableId.{TableId}
use Rattle.hg_base.specs.declared.statement.Record.{Record}
use Rattle.hg_base.specs.declared.statement.Statement.{Statement}
use Rattle.hg_records.specs.Asked.{asked_by, said_by}
use Rattle.hg_records.specs.Cursors.{cursor_in}
use Rattle.hg_script.specs.Numbered.{many_before, numbered}

-- at most one record more than the tables
pub few_before : (version tables : ℕ) → many_before version tables ≤ tables + 1
few_before version tables = cond_both (version == 1) 0 1 (λ (n : ℕ). tables + n ≤ tables + 1) (λ e. omega arith) (λ e. omega arith)

pub numbered_many : (place : ℕ) (xs : List (ℕ × Statement)) → length (numbered place xs) ≡ length xs
numbered_many place [] = refl
numbered_many place (x ∷ xs) = ap suc (numbered_many (place + 1) xs)

-- the record at i
pub numbered_at : (place : ℕ) (xs : List (ℕ × Statement)) (i : ℕ) (d : Record) (x : ℕ × Statement) (at : ℕ) → i < length xs → x ≡ get_or xs i x → at ≡ place + i
    → get_or (numbered place xs) i d ≡ record { place = at; session = x.0; statement = x.1 }
numbered_at place [] i d x at less is here = absurd (omega arith)
numbered_at place (y ∷ xs) zero d x at less is here =
    let same : at ≡ place = omega (arith, here) in rw (is, same) refl
numbered_at place (y ∷ xs) (suc i) d x at less is here = numbered_at (place + 1) xs i d x at (omega arith) is (omega (arith, here))

pub places_are : (place : ℕ) (xs : List (ℕ × Statement)) (i : ℕ) (d : Record) → i < length xs → (get_or (numbered place xs) i d).place ≡ place + i
places_are place [] i d less = absurd (omega arith)
places_are place (x ∷ xs) zero d less = omega arith
places_are place (x ∷ xs) (suc i) d less = places_are (place + 1) xs i d (omega arith) ∙ omega arith

-- one statement more
pub numbered_one : (place : ℕ) (xs : List (ℕ × Statement)) (session : ℕ) (s : Statement) (at : ℕ) → at ≡ place + length xs
    → numbered place (xs ++ (session, s) ∷ []) ≡ numbered place xs ++ (record { place = at; session = session; statement = s }) ∷ []
numbered_one place [] session s at here = let same : at ≡ place = omega (arith, here) in rw same refl
numbered_one place (x ∷ xs) session s at here = rw (numbered_one (place + 1) xs session s at (omega (arith, here))) refl

pub numbered_sessions : (place : ℕ) (xs : List (ℕ × Statement)) → map (λ (r : Record). r.session) (numbered place xs) ≡ map (λ x. x.0) xs
numbered_sessions place [] = refl
numbered_sessions place (x ∷ xs) = ap (λ ns. x.0 ∷ ns) (numbered_sessions (place + 1) xs)

-- of no records, whatever the place of the first
pub none_numbered : (place other : ℕ) (xs : List (ℕ × Statement)) → numbered place xs ≡ [] → numbered other xs ≡ []
none_numbered place other [] h = refl
none_numbered place other (x ∷ xs) h = absurd (let no : ⊥ = cc h in no)

-- what is asked at i, whatever its place
pub numbered_asks : (place : ℕ) (xs : List (ℕ × Statement)) (i : ℕ) (d : Record) (e : ℕ × Statement) (cursor : Option TableId) → i < length xs
    → said_by cursor (get_or (numbered place xs) i d) ≡ ((get_or xs i e).0, asked_by cursor (get_or xs i e).1)
numbered_asks place [] i d e cursor less = absurd (omega (arith, less))
numbered_asks place (x ∷ xs) zero d e cursor less = refl
numbered_asks place (x ∷ xs) (suc i) d e cursor less = numbered_asks (place + 1) xs i d e cursor (omega (arith, less))

-- ---- the table of a session's last cursor

over : (b : Bool) (place at : ℕ) (o : Option TableId) → at ≤ place → (if b && nat_lt place at then o else None) ≡ None
over true place at o most = let none : nat_lt place at ≡ false = grind (arith, nat_tests, most) in rw none refl
over false place at o most = refl

under : (b : Bool) (place at : ℕ) (o : Option TableId) → place < at → (if b && nat_lt place at then o else None) ≡ (if b then o else None)
under true place at o less = let some : nat_lt place at ≡ true = grind (arith, nat_tests, less) in rw some refl
under false place at o less = refl

none_before : (place : ℕ) (xs : List (ℕ × Statement)) (session at : ℕ) → at ≤ place → cursor_before (numbered place xs) session at ≡ None
none_before place [] session at most = refl
none_before place (x ∷ xs) session at most =
    ap (λ o. option_or o (if (x.0 == session) && nat_lt place at then opens x.1 else None)) (none_before (place + 1) xs session at (omega (arith, most)))
    ∙ over (x.0 == session) place at (opens x.1) most

pub numbered_cursor : (place : ℕ) (xs : List (ℕ × Statement)) (session i at : ℕ) → at ≡ place + i → cursor_before (numbered place xs) session at ≡ cursor_in session (take i xs)
numbered_cursor place [] session zero at is = refl
numbered_cursor place [] session (suc i) at is = refl
numbered_cursor place (x ∷ xs) session zero at is = none_before place (x ∷ xs) session at (omega (arith, is))
numbered_cursor place (x ∷ xs) session (suc i) at is =
    ap (λ o. option_or o (if (x.0 == session) && nat_lt place at then opens x.1 else None)) (numbered_cursor (place + 1) xs session i at (omega (arith, is)))
    ∙ ap (option_or (cursor_in session (take i xs))) (under (x.0 == session) place at (opens x.1) (omega (arith, is)))
