-- A statement that breaks no rule, whatever its place: it fits the tables, has its widths, and may stand after the records before it.
use Rattle.std.proofs.Common.{◌≡◌, ◌≤◌, ◌∙◌, ℕ, min, List, [], ◌∷◌, drop, false, Option, Some, None, unwrap_or, subst, sym, ap, refl}
use Rattle.std.proofs.lemmas.Bool.{or_parts}
use Rattle.std.specs.Prelude.{⊤}
use Rattle.hg_base.specs.declared.limits.TheConstants.{MOST_RECORDS, MOST_SESSIONS}
use Rattle.hg_base.specs.declared.number.Natural.{Natural}
use Rattle.hg_base.specs.declared.statement.Statement.{Statement}
use Rattle.hg_base.specs.Lists.{Each}
use Rattle.hg_base.specs.Number.{natural_of, value_of}
use Rattle.hg_base.specs.Script.{Script}
use Rattle.hg_script.specs.declared.draft.Ask.{Ask}
use Rattle.hg_script.specs.declared.draft.Ask.TheVariants.{Begin, Get, Put, Del, Scan, CursorOpen, Fetch, CursorClose, Commit, Rollback, Gc}
use Rattle.hg_script.specs.declared.draft.Draft.{Draft}
use Rattle.hg_script.specs.declared.draft.Draft.TheVariants.{Version, Table, Session}
use Rattle.hg_script.specs.declared.rules.TheConstants.{MOST_FETCHED}
use Rattle.hg_script.specs.declared.word.Word.{Word}
use Rattle.hg_script.specs.declared.word.Word.TheVariants as word
use Rattle.hg_script.specs.Draft.{draft_of, first_table, kind_named, kinds_at, scope_named, table_named, values_by}
use Rattle.hg_script.specs.Fields.{Fields, nth, word_of}
use Rattle.hg_script.specs.Lawful.{FitsTables, HasNumbers, HasWidths, IsAccepted}
use Rattle.hg_script.specs.Judging.{code_at}
use Rattle.hg_script.specs.Meaning.{read_as, statement_of}
use Rattle.hg_script.specs.Rules.{ask_order_breaks, is_open, is_reading, range_breaks}
use Rattle.hg_script.proofs.Fitting.{numbers-at, row-fits}
use Rattle.hg_script.proofs.Growth.{Keeps, keeps, lies, may-stand}
use Rattle.hg_script.proofs.Judging.{by_word, draft_kept, read_alike}
use Rattle.hg_script.proofs.Scopes.{among, scope-fits}
use Rattle.hg_script.proofs.Widths.{natural-fits, values-fit}

accepts : (s : Script) (session : Natural) (ask : Ask) → range_breaks (Session session ask) ≡ false →
    ask_order_breaks (is_open (value_of session) s.records) (is_reading (value_of session) s.records) ask ≡ false → FitsTables s.tables (statement_of ask) → HasWidths (statement_of ask) →
    IsAccepted s (value_of session) (statement_of ask)
accepts s session ask range order fits widths =
    let lie = lies 1 MOST_SESSIONS session (or_parts _ _ range).0 in
    record {
      some = lie.some;
      most = lie.most;
      fits = fits;
      widths = widths;
      stands = may-stand (is_open (value_of session) s.records) (is_reading (value_of session) s.records) ask order;
    }

-- of a draft that is a statement's
abbrev pub Accepts : Script → Draft → Type 0
Accepts s (Session session ask) = IsAccepted s (value_of session) (statement_of ask)
Accepts s _ = ⊤

pub accepted : (s : Script) (r : Fields) (w : Word) → (s.version ≡ 1 → Each HasNumbers s.tables) → Keeps s (draft_of s.version s.tables w r) → Accepts s (draft_of s.version s.tables w r)
accepted s r word.Version numbers k = tt
accepted s r word.Table numbers k = tt
accepted s r word.Begin numbers k =
    accepts s (natural_of (nth r 0)) (Begin (scope_named s.tables (drop 2 r))) k.range k.order (scope-fits s.tables (drop 2 r) k.name) tt
accepted s r word.Get numbers k =
    accepts s (natural_of (nth r 0)) (Get (table_named s.tables (nth r 2)) (natural_of (nth r 3))) k.range k.order (among s.tables (nth r 2) k.name) (natural-fits (nth r 3))
accepted s r word.Put numbers k =
    accepts s (natural_of (nth r 0)) (Put (table_named s.tables (nth r 2)) (natural_of (nth r 3))
    (values_by s.version (kinds_at s.tables (table_named s.tables (nth r 2))) (drop 4 r))) k.range k.order (
      among s.tables (nth r 2) k.name,
      row-fits s.version (kinds_at s.tables (table_named s.tables (nth r 2))) (drop 4 r)
          (λ one. numbers-at s.tables (unwrap_or (table_named s.tables (nth r 2)) first_table).0 (numbers one)) k.columns k.value,
    )
    (natural-fits (nth r 3), values-fit s.version (kinds_at s.tables (table_named s.tables (nth r 2))) (drop 4 r))
accepted s r word.Del numbers k =
    accepts s (natural_of (nth r 0)) (Del (table_named s.tables (nth r 2)) (natural_of (nth r 3))) k.range k.order (among s.tables (nth r 2) k.name) (natural-fits (nth r 3))
accepted s r word.Scan numbers k =
    accepts s (natural_of (nth r 0)) (Scan (table_named s.tables (nth r 2)) (natural_of (nth r 3)) (natural_of (nth r 4))) k.range k.order
    (among s.tables (nth r 2) k.name) (natural-fits (nth r 3), natural-fits (nth r 4))
accepted s r word.Commit numbers k = accepts s (natural_of (nth r 0)) Commit k.range k.order tt tt
accepted s r word.Rollback numbers k = accepts s (natural_of (nth r 0)) Rollback k.range k.order tt tt
accepted s r word.Gc numbers k = accepts s (natural_of (nth r 0)) (Gc (kind_named (nth r 2))) k.range k.order tt tt
accepted s r word.Open numbers k =
    accepts s (natural_of (nth r 0)) (CursorOpen (table_named s.tables (nth r 2)) (natural_of (nth r 3)) (natural_of (nth r 4))) k.range k.order
    (among s.tables (nth r 2) k.name) (natural-fits (nth r 3), natural-fits (nth r 4))
accepted s r word.Fetch numbers k =
    let lie = lies 1 MOST_FETCHED (natural_of (nth r 2)) (or_parts _ _ k.range).1 in
    accepts s (natural_of (nth r 0)) (Fetch (natural_of (nth r 2))) k.range k.order tt (lie.some, lie.most)
accepted s r word.Close numbers k = accepts s (natural_of (nth r 0)) CursorClose k.range k.order tt tt

-- a statement that breaks no rule fits the tables and may stand after the records before it, whatever its place
pub session_accepted : (place : ℕ) (s : Script) (r : Fields) (session : Natural) (ask : Ask) → (s.version ≡ 1 → Each HasNumbers s.tables) → code_at place s r ≡ None →
    read_as place s r ≡ Some (Session session ask) → IsAccepted s (value_of session) (statement_of ask)
session_accepted place s r session ask numbers none is =
    let same : read_as (min place MOST_RECORDS) s r ≡ Some (Session session ask) = read_alike place s r ∙ is in
    let kept = keeps s (Session session ask) (draft_kept (min place MOST_RECORDS) s r (Session session ask) none same) in
    let w = by_word s r (word_of (min place MOST_RECORDS) r) (Session session ask) same in
    subst (Accepts s) w.1 (accepted s r w.0 numbers (subst (Keeps s) (sym w.1) kept))
