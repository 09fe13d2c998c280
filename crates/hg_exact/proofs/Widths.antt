-- The answer to a statement has numbers and rows of their widths.
use Rattle.std.proofs.Common.{◌≡◌, ℕ, ◌<◌, ◌≤◌, ◌^◌, List, [], ◌∷◌, length, Bool, true, false, Option, Some, None, refl, sym, ap, subst, arith}
use Rattle.std.specs.Prelude.{map, is_some, IfSome, MatchOption, ⊤, ◌==◌, ◌||◌}
use Rattle.std.specs.List.{list_any}
use Rattle.std.specs.Bool.{MatchBool}
use Rattle.std.proofs.lemmas.List.{length-map}
use Rattle.hg_base.specs.declared.rid.Rid.{Rid}
use Rattle.hg_base.specs.declared.rid.TableId.{TableId}
use Rattle.hg_base.specs.declared.image.Image.{Image}
use Rattle.hg_base.specs.declared.statement.Statement.{Statement}
use Rattle.hg_base.specs.declared.statement.Statement.TheVariants.{Put, Del, Commit as CommitIt}
use Rattle.hg_base.specs.declared.statement.Record.{Record}
use Rattle.hg_base.specs.declared.line.Answer.{Answer}
use Rattle.hg_base.specs.declared.line.Answer.TheVariants.{Begun, Stored, Found, Nothing, Gone, Rows, Committed, Ended, Undone, Newer, OpenBy, Undeclared, Swept, Beside}
use Rattle.hg_base.specs.declared.line.Line.{Line}
use Rattle.hg_base.specs.declared.value.Value.{Value}
use Rattle.hg_base.specs.Lists.{Each}
use Rattle.hg_base.specs.Script.{Mode, Declaration, Script, replay, run}
use Rattle.hg_base.specs.Transcript.{Rest, stored_by}
use Rattle.hg_base.specs.Transcript.{committed_by, table_of, in_order}
use Rattle.hg_base.specs.Replies.{IsBegun, IsGot, IsPut, IsDeleted, IsScanned, IsFetched, IsEnded, IsCommitted, IsUndone, IsSwept, IsBeside, IsCollected, IsUndeclared}
use Rattle.hg_base.specs.Sound.{all_said}
use Rattle.hg_base.specs.Text.{Fits64, Fits32, FitsRow, FitsBegin, FitsGet, FitsPut, FitsDel, FitsScan, FitsFetch, FitsClose, FitsCommit, FitsRollback, FitsReport, FitsGc}
use Rattle.hg_base.specs.Text.{is_write}
use Rattle.hg_base.proofs.ListFacts.{false_true, each_keeps}
use Rattle.hg_headline.proofs.Words.{same_number}
use Rattle.hg_script.specs.declared.rules.TheConstants.{MOST_FETCHED}
use Rattle.hg_script.specs.Lawful.{IsLawful, IsStatement, FitsTables, HasWidths}
use Rattle.hg_exact.specs.Rows.{AsksRow, FoundRow, FoundRows}
use Rattle.hg_exact.proofs.PutRows.{all_ask}
use Rattle.hg_exact.proofs.Counts.{IsIn, no_more}
use Rattle.hg_exact.proofs.Fetched.{IsRestOf}
use Rattle.hg_exact.proofs.InOrder.{each_in_order}

-- ---- lists

pub both_each : {X : Type 0} (P Q R : X → Type 0) → ((x : X) → P x → Q x → R x) → (xs : List X) → Each P xs → Each Q xs → Each R xs
both_each P Q R f [] p q = tt
both_each P Q R f (x ∷ xs) p q = (f x p.0 q.0, both_each P Q R f xs p.1 q.1)

each_map : {X Y : Type 0} (P : Y → Type 0) (f : X → Y) (xs : List X) → Each (λ x. P (f x)) xs → Each P (map f xs)
each_map P f [] h = tt
each_map P f (x ∷ xs) h = (h.0, each_map P f xs h.1)

each_among : {X : Type 0} (f : X → ℕ) (xs : List X) → Each (λ x. IsIn (map f xs) (f x)) xs
each_among f [] = tt
each_among f (x ∷ xs) = (
  ap (λ b. b || list_any (λ k. k == f x) (map f xs)) (same_number (f x)),
  each_keeps (λ y. IsIn (map f xs) (f y)) (λ y. IsIn (f x ∷ map f xs) (f y)) (λ y h. later (f x == f y) _ h) xs (each_among f xs),
)
  where
    later : (a b : Bool) → b ≡ true → (a || b) ≡ true
    later true b h = refl
    later false b h = h

-- ---- rows: of their widths, and put by a record

abbrev key_put : Record → ℕ
key_put r = elim r.statement [ Put rid row ↦ rid.key | _ ↦ 0 ]

-- a row fits its table, and some record puts one of its key
abbrev pub IsPutRow : Script → Rid → List Value → Type 0
IsPutRow script r row = FitsRow script.tables r.table row × IsIn (map key_put script.records) r.key

asks_row : (script : Script) (place j : ℕ) (s : Statement) → FitsTables script.tables s → HasWidths s →
    IsIn (map key_put script.records) (key_put (record { place = place; session = j; statement = s })) → AsksRow (IsPutRow script) s
asks_row script place j (Put r row) fits widths among = ((fits.1, widths.1), among)
asks_row script place j _ fits widths among = tt

pub all_rows : (mode : Mode) (script : Script) (lines : List Line) → IsLawful script → Each (λ now. AsksRow (IsPutRow script) now.statement) (all_said mode script lines)
all_rows mode script lines lawful = all_ask (IsPutRow script) [] (in_order mode script.records) lines
    (each_in_order (λ r. AsksRow (IsPutRow script) r.statement) mode script.records
    (both_each (IsStatement script.tables) (λ r. IsIn (map key_put script.records) (key_put r)) (λ r. AsksRow (IsPutRow script) r.statement)
    (λ r is among. asks_row script r.place r.session r.statement is.fits is.widths among) script.records lawful.statements (each_among key_put script.records))
    (λ kind m k. tt))

-- ---- answers

pub out_fits : (tables : List Declaration) (table : TableId) (a : Answer) → IsUndeclared table a → FitsGet tables table a × FitsPut table a × FitsDel table a × FitsScan tables table a
out_fits tables table (Undeclared other) u = (u, u, u, u)
out_fits tables table _ u = absurd u

-- the numbers of a refusal for a conflict have their widths
abbrev pub FitsCause : Answer → Type 0
FitsCause (Newer c) = Fits64 c
FitsCause (OpenBy writer) = Fits32 writer.session × Fits64 writer.transaction
FitsCause _ = ⊤

pub begin_fits : (a : Answer) → IsBegun a → Fits64 (elim a [ Begun s ↦ s | _ ↦ 0 ]) → FitsBegin a
begin_fits (Begun s) b fits = fits
begin_fits _ b fits = absurd b

pub put_fits : (table : TableId) (a : Answer) → IsPut a → FitsCause a → FitsPut table a
put_fits table Stored p c = tt
put_fits table (Newer n) p c = c
put_fits table (OpenBy writer) p c = c
put_fits table _ p c = absurd p

pub del_fits : (table : TableId) (image : Image) (a : Answer) → IsDeleted image a → FitsCause a → FitsDel table a
del_fits table image Nothing d c = tt
del_fits table image Gone d c = tt
del_fits table image (Newer n) d c = c
del_fits table image (OpenBy writer) d c = c
del_fits table image _ d c = absurd d

pub get_fits : (script : Script) (r : Rid) (image : Image) (a : Answer) → IsGot image a → FoundRow (IsPutRow script) r a → FitsGet script.tables r.table a
get_fits script r image (Found row) g found = found.0
get_fits script r image Nothing g found = tt
get_fits script r image _ g found = absurd g

pub scan_fits : (script : Script) (table : TableId) (look : ℕ → Image) (low high : ℕ) (a : Answer) → length script.records < 2 ^ 64 → Fits64 high → IsScanned look low high a →
    FoundRows (IsPutRow script) table a → FitsScan script.tables table a
scan_fits script table look low high (Rows rows) few wide s found =
    let key = λ (p : ℕ × List Value). p.0 in
    let many : length (map key rows) ≤ length (map key_put script.records) = no_more (map key rows) (map key_put script.records) s.ascend
    (each_map (IsIn (map key_put script.records)) key rows (each_keeps _ (λ (p : ℕ × List Value). IsIn (map key_put script.records) p.0) (λ p k. k.1) rows found)) in (
      omega (arith, many, few, length-map rows key, length-map script.records key_put),
      both_each _ _ (λ (p : ℕ × List Value). Fits64 p.0 × FitsRow script.tables table p.1) (λ p k q. (omega (arith, k.1, wide), q.0)) rows s.each found,
    )
scan_fits script table look low high _ few wide s found = absurd s

pub fetch_fits : (script : Script) (look : Rid → Image) (n : ℕ) (cursor : Option TableId) (rest : Option Rest) (a : Answer) → n ≤ MOST_FETCHED → IsRestOf cursor rest →
    IsFetched look n rest a → MatchOption cursor ⊥ (λ table. FoundRows (IsPutRow script) table a) → FitsFetch script.tables cursor a
fetch_fits script look n cursor None a most found f put = absurd f
fetch_fits script look n cursor (Some rest) (Rows rows) most found f put =
    let rows_are : Each (λ (p : ℕ × List Value). IsPutRow script (record { table = rest.table; key = p.0 }) p.1) rows = subst
    (λ o. MatchOption o ⊥ (λ table. FoundRows (IsPutRow script) table (Rows rows))) found.0 put in
    subst (λ o. FitsFetch script.tables o (Rows rows)) (sym found.0) (
      omega (arith, f.few, most),
      both_each _ _ (λ (p : ℕ × List Value). Fits64 p.0 × FitsRow script.tables rest.table p.1) (λ p k q. (omega (arith, k.1, f.within, found.1), q.0)) rows f.all.each rows_are,
    )
fetch_fits script look n cursor (Some rest) _ most found f put = absurd f

pub close_fits : (a : Answer) → IsEnded a → FitsClose a
close_fits Ended e = tt
close_fits _ e = absurd e

pub commit_fits : (wrote : Bool) (a : Answer) → IsCommitted wrote a → IfSome (committed_by CommitIt a) (λ c. Fits64 c) → FitsCommit a
commit_fits wrote (Committed c) w fits = fits
commit_fits wrote Ended w fits = tt
commit_fits wrote _ w fits = absurd w

pub rollback_fits : (a : Answer) → IsUndone a → FitsRollback a
rollback_fits Undone u = tt
rollback_fits _ u = absurd u

pub either : {P Q R : Type 0} (b : Bool) → (P → R) → (Q → R) → MatchBool b P Q → R
either true f g p = f p
either false f g q = g q

-- a `gc` record that is run is answered by its report, and one that is left out is told so
pub collected_fits : (mode : Mode) (session : ℕ) (a : Answer) → IsCollected mode session a → (IsSwept a → FitsReport a) → FitsGc a
collected_fits mode session a c f = go mode c
  where
    wide : (a : Answer) → FitsReport a → FitsGc a
    wide (Swept sweep) r = r
    wide _ r = absurd r

    beside : (a : Answer) → IsBeside a → FitsGc a
    beside Beside b = tt
    beside _ b = absurd b

    go : (mode : Mode) → IsCollected mode session a → FitsGc a
    go replay c = wide a (f c)
    go (run rounds) c = either (session == 0) (λ s. wide a (f s)) (λ b. beside a b) c

-- of session 0 it is run
pub is_reported : (mode : Mode) (session : ℕ) (a : Answer) → (session == 0) ≡ true → IsCollected mode session a → IsSwept a
is_reported replay session a e c = c
is_reported (run rounds) session a e c = subst (λ b. MatchBool b (IsSwept a) (IsBeside a)) e c

pub written : (s : Statement) (a : Answer) → is_some (stored_by s a) ≡ true → is_write a ≡ true
written (Put r row) Stored e = refl
written (Del r) Gone e = refl
written _ _ e = absurd (false_true e)

-- a statement on a table is no commit
pub no_commit : (s : Statement) (a : Answer) → is_some (table_of s) ≡ true → committed_by s a ≡ None
no_commit CommitIt a e = absurd (false_true e)
no_commit _ a e = refl
