-- Every row that is printed was put.
use Rattle.std.proofs.Common.{ℕ, List, [], ◌∷◌, Bool, true, false, Option, Some, None, sym, subst}
use Rattle.std.specs.Prelude.{IfSome, MatchOption, unwrap_or}
use Rattle.std.specs.Bool.{MatchBool}
use Rattle.hg_base.specs.declared.rid.Rid.{Rid}
use Rattle.hg_base.specs.declared.rid.TableId.{TableId}
use Rattle.hg_base.specs.declared.image.Image.{Image}
use Rattle.hg_base.specs.declared.statement.Statement.{Statement}
use Rattle.hg_base.specs.declared.statement.Statement.TheVariants.{Get, Put, Scan, Fetch}
use Rattle.hg_base.specs.declared.statement.Record.{Record}
use Rattle.hg_base.specs.declared.line.Answer.{Answer}
use Rattle.hg_base.specs.declared.line.Answer.TheVariants.{Begun, Stored, Found, Nothing, Gone, Rows, Committed, Ended, Undone, Newer, OpenBy, Undeclared, Swept, Beside}
use Rattle.hg_base.specs.declared.line.Printed.{Printed}
use Rattle.hg_base.specs.declared.value.Value.{Value}
use Rattle.hg_base.specs.Lists.{Each, EachAfter}
use Rattle.hg_base.specs.Script.{Mode, Declaration, Script}
use Rattle.hg_base.specs.History.{Write, History, image_in, visible, seen}
use Rattle.hg_base.specs.Text.{cursor_before}
use Rattle.hg_base.specs.Transcript.{Rest, Said, has, passed, rest_in, own_writes}
use Rattle.hg_base.specs.Transcript.{history_of, in_order}
use Rattle.hg_base.specs.Replies.{IsGot, IsScanned, IsFetched, IsUndeclared, IsAnswer, IsReply}
use Rattle.hg_base.specs.Sound.{IsSound, IsRight, all_said}
use Rattle.hg_base.proofs.ListFacts.{each_after_keeps, each_keeps}
use Rattle.hg_script.specs.Lawful.{IsLawful, IsStatement, FitsTables}
use Rattle.hg_exact.specs.Rows.{AsksRow, FoundRow, FoundRows, PrintsRow, HasColumns, PrintsColumns}
use Rattle.hg_exact.proofs.Fetched.{FindsRest, IfFetch, IsRestOf, lines_find}
use Rattle.hg_exact.proofs.InOrder.{each_in_order}
use Rattle.hg_exact.proofs.PutRows.{Holds, IsOne, one_in, one_visible, one_own, one_history, all_ask}

-- ---- what a transaction sees

one_seen : (P : Rid → List Value → Type 0) (h : History) (own : List Write) (at : ℕ) (r : Rid) → Each (Each (λ c. Each (IsOne P) c.images)) h → Each (IsOne P) own → Holds P r (seen h own at r)
one_seen P h own at r history mine = go (image_in r own) (one_in P r own mine)
  where
    go : (o : Option Image) → IfSome o (Holds P r) → Holds P r (unwrap_or o (visible h r at))
    go (Some image) h = h
    go None k = one_visible P h at r history

-- ---- the answers

got : (P : Rid → List Value → Type 0) (r : Rid) (image : Image) (a : Answer) → Holds P r image → IsGot image a → FoundRow P r a
got P r image (Found row) h g = subst (λ o. IfSome o (P r)) g h
got P r image Nothing h g = tt
got P r image (Begun s) h g = absurd g
got P r image Stored h g = absurd g
got P r image Gone h g = absurd g
got P r image (Rows x) h g = absurd g
got P r image (Committed c) h g = absurd g
got P r image Ended h g = absurd g
got P r image Undone h g = absurd g
got P r image (Newer c) h g = absurd g
got P r image (OpenBy w) h g = absurd g
got P r image (Undeclared t) h g = absurd g
got P r image (Swept s) h g = absurd g
got P r image Beside h g = absurd g

scanned : (P : Rid → List Value → Type 0) (table : TableId) (look : ℕ → Image) (low high : ℕ) (a : Answer) → ((key : ℕ) → Holds P (record { table = table; key = key }) (look key))
    → IsScanned look low high a → FoundRows P table a
scanned P table look low high (Rows rows) h s = each_keeps _ (λ (p : ℕ × List Value). P (record { table = table; key = p.0 }) p.1)
    (λ p k. subst (λ o. IfSome o (P (record { table = table; key = p.0 }))) k.2 (h p.0)) rows s.each
scanned P table look low high Nothing h g = absurd g
scanned P table look low high (Found row) h g = absurd g
scanned P table look low high (Begun s) h g = absurd g
scanned P table look low high Stored h g = absurd g
scanned P table look low high Gone h g = absurd g
scanned P table look low high (Committed c) h g = absurd g
scanned P table look low high Ended h g = absurd g
scanned P table look low high Undone h g = absurd g
scanned P table look low high (Newer c) h g = absurd g
scanned P table look low high (OpenBy w) h g = absurd g
scanned P table look low high (Undeclared t) h g = absurd g
scanned P table look low high (Swept s) h g = absurd g
scanned P table look low high Beside h g = absurd g

found_out : (P : Rid → List Value → Type 0) (r : Rid) (table : TableId) (a : Answer) → IsUndeclared table a → FoundRow P r a
found_out P r table (Begun s) u = tt
found_out P r table Stored u = tt
found_out P r table (Found x) u = absurd u
found_out P r table Nothing u = tt
found_out P r table Gone u = tt
found_out P r table (Rows x) u = tt
found_out P r table (Committed c) u = tt
found_out P r table Ended u = tt
found_out P r table Undone u = tt
found_out P r table (Newer c) u = tt
found_out P r table (OpenBy w) u = tt
found_out P r table (Undeclared t) u = tt
found_out P r table (Swept s) u = tt
found_out P r table Beside u = tt

rows_out : (P : Rid → List Value → Type 0) (t : TableId) (table : TableId) (a : Answer) → IsUndeclared table a → FoundRows P t a
rows_out P t table (Begun s) u = tt
rows_out P t table Stored u = tt
rows_out P t table (Found x) u = tt
rows_out P t table Nothing u = tt
rows_out P t table Gone u = tt
rows_out P t table (Rows x) u = absurd u
rows_out P t table (Committed c) u = tt
rows_out P t table Ended u = tt
rows_out P t table Undone u = tt
rows_out P t table (Newer c) u = tt
rows_out P t table (OpenBy w) u = tt
rows_out P t table (Undeclared other) u = tt
rows_out P t table (Swept s) u = tt
rows_out P t table Beside u = tt

fetched : (P : Rid → List Value → Type 0) (look : Rid → Image) (n : ℕ) (cursor : Option TableId) (rest : Option Rest) (a : Answer) → ((r : Rid) → Holds P r (look r)) →
    IsRestOf cursor rest → IsFetched look n rest a → MatchOption cursor ⊥ (λ table. FoundRows P table a)
fetched P look n cursor None a h found f = absurd f
fetched P look n cursor (Some rest) (Rows rows) h found f =
    subst (λ o. MatchOption o ⊥ (λ table. FoundRows P table (Rows rows))) (sym found.0)
    (scanned P rest.table (λ key. look (record { table = rest.table; key = key })) rest.low (passed n rest.high rows) (Rows rows) (λ key. h (record { table = rest.table; key = key })) f.all)
fetched P look n cursor (Some rest) _ h found f = absurd f

answered : (P : Rid → List Value → Type 0) (mode : Mode) (look : Rid → Image) (wrote : Bool) (cursor : Option TableId) (rest : Option Rest) (now : Said) (s : Statement) →
    ((r : Rid) → Holds P r (look r)) → IfFetch s (IsRestOf cursor rest) → IsAnswer mode look wrote rest now s → PrintsRow P cursor s now.reply.answer
answered P mode look wrote cursor rest now (Get r) h found a = go (has now.scope r.table) a
  where
    go : (b : Bool) → MatchBool b (IsGot (look r) now.reply.answer) (IsUndeclared r.table now.reply.answer) → FoundRow P r now.reply.answer
    go true a = got P r (look r) now.reply.answer (h r) a
    go false a = found_out P r r.table now.reply.answer a
answered P mode look wrote cursor rest now (Scan table low high) h found a = go (has now.scope table) a
  where
    go : (b : Bool) → MatchBool b (IsScanned (λ key. look (record { table = table; key = key })) low high now.reply.answer) (IsUndeclared table now.reply.answer) → FoundRows P table now.reply.answer
    go true a = scanned P table (λ key. look (record { table = table; key = key })) low high now.reply.answer (λ key. h (record { table = table; key = key })) a
    go false a = rows_out P table table now.reply.answer a
answered P mode look wrote cursor rest now (Fetch n) h found a = fetched P look n cursor rest now.reply.answer h found a
answered P mode look wrote cursor rest now _ h found a = tt

all_print : (P : Rid → List Value → Type 0) (mode : Mode) (h : History) (records : List Record) (earlier xs : List Said) → Each (Each (λ c. Each (IsOne P) c.images)) h →
    Each (λ now. AsksRow P now.statement) earlier → Each (λ now. AsksRow P now.statement) xs → EachAfter (IsReply mode h) earlier xs → EachAfter (FindsRest records) earlier xs →
    Each (λ now. PrintsRow P (cursor_before records now.session now.place) now.statement now.reply.answer) xs
all_print P mode h records earlier [] history before asks right finds = tt
all_print P mode h records earlier (now ∷ later) history before asks right finds = (
  answered P mode (seen h (own_writes earlier now) now.at) _ (cursor_before records now.session now.place) (rest_in now.session now.transaction earlier) now now.statement
      (λ r. one_seen P h (own_writes earlier now) now.at r history (one_own P now.session now.transaction earlier before)) finds.0 right.0.answer,
  all_print P mode h records (now ∷ earlier) later history (asks.0, before) asks.1 right.1 finds.1,
)

pub rows_put : (P : Rid → List Value → Type 0) (mode : Mode) (records : List Record) (all : List Said) → Each (λ now. AsksRow P now.statement) all →
    EachAfter (IsReply mode (history_of all)) [] all → EachAfter (FindsRest records) [] all → Each (λ now. PrintsRow P (cursor_before records now.session now.place) now.statement now.reply.answer) all
rows_put P mode records all asks right finds = all_print P mode (history_of all) records [] all (one_history P all asks) tt asks right finds

-- ---- the columns

lawful_row : (tables : List Declaration) (s : Statement) → FitsTables tables s → AsksRow (HasColumns tables) s
lawful_row tables (Put r row) fits = fits.1
lawful_row tables _ fits = tt

pub rows_have_columns : (mode : Mode) (script : Script) (printed : Printed) → IsLawful script → IsSound mode script printed → Each (PrintsColumns script) (all_said mode script printed.lines)
rows_have_columns mode script printed lawful sound =
    let P = HasColumns script.tables in
    rows_put P mode script.records (all_said mode script printed.lines)
    (all_ask P [] (in_order mode script.records) printed.lines
    (each_in_order (λ r. AsksRow P r.statement) mode script.records
    (each_keeps (IsStatement script.tables) (λ r. AsksRow P r.statement) (λ r is. lawful_row script.tables r.statement is.fits) script.records lawful.statements) (λ kind m k. tt)))
    (each_after_keeps (IsRight mode (history_of (all_said mode script printed.lines)) (all_said mode script printed.lines))
    (IsReply mode (history_of (all_said mode script printed.lines))) (λ earlier now r. r.reply) [] (all_said mode script printed.lines) sound.lines.right.lines)
    (lines_find mode script printed.lines lawful)
