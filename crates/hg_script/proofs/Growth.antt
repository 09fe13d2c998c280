-- A statement or a table that breaks no rule keeps the script lawful.
use Rattle.std.proofs.Common.{◌≡◌, ◌<◌, ◌≤◌, ◌+◌, ℕ, Bool, true, false, not, nat_lt, nat_le, List, [], ◌∷◌, ◌++◌}
use Rattle.std.proofs.Common.{length, map, Option, Some, None, if◌then◌else◌, refl, sym, subst, arith, length-append, append_assoc}
use Rattle.std.proofs.lemmas.Bool.{and_parts as and-parts, or_parts}
use Rattle.std.proofs.lemmas.Bool.Decides.{nat_tests}
use Rattle.hg_base.specs.declared.limits.TheConstants.{MOST_SESSIONS, MOST_RECORDS}
use Rattle.hg_base.specs.declared.statement.Record.{Record}
use Rattle.hg_base.specs.declared.statement.Statement.{Statement}
use Rattle.hg_base.specs.Lists.{Each, Ascends}
use Rattle.hg_base.specs.Script.{Declaration, Script}
use Rattle.hg_base.proofs.ListFacts.{append_nil, each_snoc as each-one}
use Rattle.hg_script.proofs.Names.{distinct-more}
use Rattle.hg_script.specs.declared.code.Code.{Code}
use Rattle.hg_base.specs.declared.number.Natural.{Natural}
use Rattle.hg_base.specs.declared.number.Natural.TheVariants as n
use Rattle.hg_script.specs.declared.draft.Ask.{Ask}
use Rattle.hg_script.specs.declared.draft.Ask.TheVariants.{Begin, Get, Put, Del, Scan, CursorOpen, Fetch, CursorClose, Commit, Rollback, Gc}
use Rattle.hg_script.specs.declared.draft.Draft.{Draft}
use Rattle.hg_script.specs.declared.draft.Draft.TheVariants.{Table, Session}
use Rattle.hg_base.specs.Number.{is_between, value_of}
use Rattle.hg_script.specs.Numbered.{records_before}
use Rattle.hg_script.specs.Fields.{Field}
use Rattle.hg_script.specs.Draft.{before, columns_by, is_fresh}
use Rattle.hg_script.specs.Rules.{number_breaks, range_breaks, name_breaks, columns_breaks, value_breaks}
use Rattle.hg_script.specs.Rules.{ask_order_breaks, is_open, is_reading, order_breaks}
use Rattle.hg_script.specs.Meaning.{draft_code, kinds_in, statement_of}
use Rattle.hg_script.specs.Lawful.{AreInOrder, FitsTables, HasNumbers, HasWidths, IsLawful, IsStatement, IsTable, MayStand}
use Rattle.hg_script.proofs.Fitting.{columns-fit}

-- ---- lists

-- every statement stands before this place
abbrev pub Before : ℕ → List Record → Type 0
Before place rs = Each (λ r. r.place < place) rs

pub later : (place : ℕ) (rs : List Record) → Before place rs → Before (place + 1) rs
later place [] h = tt
later place (r ∷ rs) h = (omega (arith, h.0), later place rs h.1)

ascends-one : (rs : List Record) (r : Record) → Ascends (map (λ r. r.place) rs) → Before r.place rs → Ascends (map (λ r. r.place) (rs ++ r ∷ []))
ascends-one [] r h k = tt
ascends-one (a ∷ []) r h k = (k.0, tt)
ascends-one (a ∷ b ∷ rs) r h k = (h.0, ascends-one (b ∷ rs) r h.1 k.1)

-- one more record that may stand after those before it
in-order-one : (before rs : List Record) (r : Record) → AreInOrder before rs → MayStand (is_open r.session (before ++ rs)) (is_reading r.session (before ++ rs)) r.statement →
    AreInOrder before (rs ++ r ∷ [])
in-order-one before [] r h may = (subst (λ ls. MayStand (is_open r.session ls) (is_reading r.session ls) r.statement) (append_nil before) may, tt)
in-order-one before (q ∷ qs) r h may = (
  h.0,
  in-order-one (before ++ q ∷ []) qs r h.1 (subst (λ ls. MayStand (is_open r.session ls) (is_reading r.session ls) r.statement)
      (sym (append_assoc before (q ∷ []) qs)) may),
)

-- what no rule of order refuses may stand
pub may-stand : (within reads : Bool) (ask : Ask) → ask_order_breaks within reads ask ≡ false → MayStand within reads (statement_of ask)
may-stand within reads (Begin scope) e = e
may-stand within reads (Get table key) e = e
may-stand within reads (Put table key values) e = e
may-stand within reads (Del table key) e = e
may-stand within reads (Scan table low high) e = e
may-stand within reads (CursorOpen table low high) e = e
may-stand within true (Fetch most) e = refl
may-stand within false (Fetch most) e = absurd (let bad : ⊥ = cc e in bad)
may-stand within true CursorClose e = refl
may-stand within false CursorClose e = absurd (let bad : ⊥ = cc e in bad)
may-stand true reads Commit e = refl
may-stand false reads Commit e = absurd (let bad : ⊥ = cc e in bad)
may-stand true reads Rollback e = refl
may-stand false reads Rollback e = absurd (let bad : ⊥ = cc e in bad)
may-stand within reads (Gc kind) e = tt

-- ---- the tests, as facts

pub no-code : (b : Bool) (c : Code) (rest : Option Code) → (if b then Some c else rest) ≡ None → (b ≡ false) × (rest ≡ None)
no-code true c rest e = absurd (let bad : ⊥ = cc e in bad)
no-code false c rest e = (refl, e)

-- the rules of a record that breaks none
pub record Keeps (s : Script) (d : Draft) : Type 0 where
  pub number : number_breaks d ≡ false
  pub range : range_breaks d ≡ false
  pub name : name_breaks d ≡ false
  pub columns : columns_breaks s.tables d ≡ false
  pub value : value_breaks d ≡ false
  pub order : order_breaks s.records d ≡ false

pub keeps : (s : Script) (d : Draft) → draft_code s d ≡ None → Keeps s d
unfolding draft_code
keeps s d e =
    let a = no-code _ _ _ e in
    let b = no-code _ _ _ a.1 in
    let c = no-code _ _ _ b.1 in
    let f = no-code _ _ _ c.1 in
    let h = no-code _ _ _ f.1 in
    let g = no-code _ _ _ h.1 in
    record { number = a.0; range = b.0; name = c.0; columns = f.0; value = h.0; order = g.0 }

pub record Lies (low high n : ℕ) : Type 0 where
  pub some : low ≤ n
  pub most : n ≤ high

pub lies : (low high : ℕ) (k : Natural) → not (is_between low high k) ≡ false → Lies low high (value_of k)
lies low high n.No e = absurd (let bad : ⊥ = cc e in bad)
lies low high n.Over e = absurd (let bad : ⊥ = cc e in bad)
lies low high (n.Is k) e = record { some = grind (arith, nat_tests, e); most = grind (arith, nat_tests, e) }

-- ---- records

-- the script so far, where the next record stands at this place
pub record Grown (place : ℕ) (s : Script) : Type 0 where
  pub lawful : IsLawful s
  pub many : records_before s + length s.records < place
  pub before : Before place s.records

abbrev pub with-statement : ℕ → Script → ℕ → Statement → Script
with-statement place s session st = record s { records = s.records ++ (record { place = place; session = session; statement = st }) ∷ [] }

pub statement-more : (place : ℕ) (s : Script) (session : ℕ) (st : Statement) → Grown place s → place ≤ MOST_RECORDS → Lies 1 MOST_SESSIONS session → FitsTables s.tables st
    → HasWidths st → MayStand (is_open session s.records) (is_reading session s.records) st → Grown (place + 1) (with-statement place s session st)
statement-more place s session st g room in_range fits widths may =
    let added : Record = record { place = place; session = session; statement = st } in
    let many : length (s.records ++ added ∷ []) ≡ length s.records + 1 = length-append s.records (added ∷ []) in record {
      lawful = record {
        version = g.lawful.version;
        numbers = g.lawful.numbers;
        most = g.lawful.most;
        records = omega (arith, g.many, room, many);
        tables = g.lawful.tables;
        names = g.lawful.names;
        statements = each-one (IsStatement s.tables) s.records added g.lawful.statements (record { place = room; some = in_range.some; most = in_range.most; fits = fits; widths = widths });
        order = in-order-one [] s.records added g.lawful.order may;
        places = ascends-one s.records added g.lawful.places g.before;
      };
      many = omega (arith, g.many, many);
      before = each-one (λ r. r.place < place + 1) s.records added (later place s.records g.before) (omega arith);
    }

none-left : (rs : List Record) → nat_lt 0 (length rs) ≡ false → rs ≡ []
none-left [] h = refl
none-left (r ∷ rs) h = absurd (let bad : 0 < 0 = grind (arith, nat_tests, h) in omega (arith, bad))

table-more : (place : ℕ) (s : Script) (d : Declaration) → Grown place s → place ≤ MOST_RECORDS → length s.tables < 64 → IsTable d → (s.version ≡ 1 → HasNumbers d) →
    is_fresh s.tables d.name ≡ true → s.records ≡ []
    → Grown (place + 1) (record s { tables = s.tables ++ d ∷ [] })
table-more place s d g free room is numbers fresh none = record {
  lawful = record {
    version = g.lawful.version;
    numbers = λ one. each-one HasNumbers s.tables d (g.lawful.numbers one) (numbers one);
    most = omega (arith, length-append s.tables (d ∷ []), room);
    records = omega (arith, length-append s.tables (d ∷ []), g.many, free);
    tables = each-one IsTable s.tables d g.lawful.tables is;
    names = distinct-more s.tables d g.lawful.names fresh;
    statements = subst (λ rs. Each (IsStatement (s.tables ++ d ∷ [])) rs) (sym none) tt;
    order = g.lawful.order;
    places = g.lawful.places;
  };
  many = omega (arith, length-append s.tables (d ∷ []), g.many);
  before = later place s.records g.before;
}

not-not : (b : Bool) → not b ≡ false → b ≡ true
not-not true h = refl
not-not false h = absurd (let bad : ⊥ = cc h in bad)

has-room : (n : ℕ) → nat_le 64 n ≡ false → n < 64
has-room n h = grind (arith, nat_tests, h)

pub within-most : (place : ℕ) → nat_lt MOST_RECORDS place ≡ false → place ≤ MOST_RECORDS
within-most place h = grind (arith, nat_tests, h)

pub asked-more : (place : ℕ) (s : Script) (session : Natural) (ask : Ask) → Grown place s → place ≤ MOST_RECORDS → range_breaks (Session session ask) ≡ false →
    ask_order_breaks (is_open (value_of session) s.records) (is_reading (value_of session) s.records) ask ≡ false
    → FitsTables s.tables (statement_of ask) → HasWidths (statement_of ask) → Grown (place + 1) (with-statement place s (value_of session) (statement_of ask))
asked-more place s session ask g room range order fits widths =
    statement-more place s (value_of session) (statement_of ask) g room (lies 1 MOST_SESSIONS session (or_parts _ _ range).0) fits widths
    (may-stand (is_open (value_of session) s.records) (is_reading (value_of session) s.records) ask order)

pub declared-more : (place : ℕ) (s : Script) (name text : Field) → Grown place s → place ≤ MOST_RECORDS → nat_le 64 (length s.tables) ≡ false
    → Keeps s (Table (is_fresh s.tables name) (columns_by s.version text))
    → Grown (place + 1) (record s { tables = s.tables ++ (record { name = name; kinds = kinds_in (columns_by s.version text) }) ∷ [] })
declared-more place s name text g free count k =
    let are = columns-fit s.version text k.number k.range in
    let fresh = not-not (is_fresh s.tables name) k.name in
    table-more place s (record { name = name; kinds = kinds_in (columns_by s.version text) }) g free (has-room _ count)
    (record { name = (and-parts _ _ fresh).0; some = are.some; most = are.most }) are.numbers fresh (none-left s.records k.order)
