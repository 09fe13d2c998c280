-- Every `open` of a lawful script names a table with a number below the limit, and so does each of the records in the order of a run.
use Rattle.std.proofs.Common.{ℕ, ◌<◌, ◌≤◌, List, [], ◌∷◌, ◌++◌, length, map, Bool, true, false, cond, arith}
use Rattle.std.specs.Prelude.{◌==◌, filter}
use Rattle.std.specs.List.{flat_map}
use Rattle.hg_base.specs.declared.limits.TheConstants.{MOST_TABLES}
use Rattle.hg_base.specs.declared.report.Kind.{Kind}
use Rattle.hg_base.specs.declared.report.Kind.TheVariants as kinds
use Rattle.hg_base.specs.declared.statement.Record.{Record}
use Rattle.hg_base.specs.declared.statement.Statement.{Statement}
use Rattle.hg_base.specs.declared.statement.Statement.TheVariants.{CursorOpen, Gc}
use Rattle.hg_base.specs.Lists.{Each, numbers_from}
use Rattle.hg_base.specs.Script.{Declaration, Script, run}
use Rattle.hg_base.specs.Transcript.{in_order, of_session, rounds_of, sessions_of}
use Rattle.hg_script.specs.Lawful.{FitsTables, IsLawful, IsStatement}
use Rattle.hg_known.specs.Lines.{OpensKnown}

abbrev pub AllKnown : List Record → Type 0
AllKnown records = Each (λ r. OpensKnown r.statement) records

-- ---- in the order of a run

known_both : (xs ys : List Record) → AllKnown xs → AllKnown ys → AllKnown (xs ++ ys)
known_both [] ys h k = k
known_both (x ∷ xs) ys h k = (h.0, known_both xs ys h.1 k)

known_if : (b : Bool) (x : Record) (xs : List Record) → OpensKnown x.statement → AllKnown xs → AllKnown (cond b (x ∷ xs) xs)
known_if true x xs h k = (h, k)
known_if false x xs h k = k

known_some : (f : Record → Bool) (xs : List Record) → AllKnown xs → AllKnown (filter f xs)
known_some f [] h = tt
known_some f (x ∷ xs) h = known_if (f x) x (filter f xs) h.0 (known_some f xs h.1)

known_parts : (f : ℕ → List Record) → ((j : ℕ) → AllKnown (f j)) → (js : List ℕ) → AllKnown (flat_map f js)
known_parts f h [] = tt
known_parts f h (j ∷ js) = known_both (f j) (flat_map f js) (h j) (known_parts f h js)

known_rounds : (kind : Kind) (ns : List ℕ) → AllKnown (map (λ n. record { place = n; session = 0; statement = Gc kind }) ns)
known_rounds kind [] = tt
known_rounds kind (n ∷ ns) = (tt, known_rounds kind ns)

pub known_in_run : (records : List Record) (rounds : ℕ) → AllKnown records → AllKnown (in_order (run rounds) records)
known_in_run records rounds h =
    let shown = flat_map (λ j. of_session j records) (sessions_of records) in
    let ns = numbers_from 1 rounds in
    let a = known_parts (λ j. of_session j records) (λ j. known_some (λ r. r.session == j) records h) (sessions_of records) in
    let b = known_both shown (rounds_of kinds.Group rounds) a (known_rounds kinds.Group ns) in
    let c = known_both (shown ++ rounds_of kinds.Group rounds) (rounds_of kinds.Table rounds) b (known_rounds kinds.Table ns) in
    known_both (shown ++ rounds_of kinds.Group rounds ++ rounds_of kinds.Table rounds) (rounds_of kinds.Interval rounds) c (known_rounds kinds.Interval ns)

-- ---- of a lawful script

opens_known : (tables : List Declaration) (statement : Statement) → length tables ≤ MOST_TABLES → FitsTables tables statement → OpensKnown statement
opens_known tables (CursorOpen table low high) most fits = let less : table.0 < length tables = fits in omega (arith, less, most)
opens_known tables statement most fits = tt

all_known : (tables : List Declaration) (records : List Record) → length tables ≤ MOST_TABLES → Each (IsStatement tables) records → AllKnown records
all_known tables [] most h = tt
all_known tables (r ∷ rs) most h = (opens_known tables r.statement most h.0.fits, all_known tables rs most h.1)

pub known_of_lawful : (s : Script) → IsLawful s → AllKnown s.records
known_of_lawful s h = all_known s.tables s.records h.most h.statements
