-- The tables that a `begin` names, one by one, and what set they are.
use Rattle.std.proofs.Common.{◌≡◌, ◌<◌, ◌≤◌, ◌+◌, ◌^◌, ◌∙◌, ℕ, List, [], ◌∷◌, length, drop, fold, position, Option, Some, None, IfSome, is_some, not, false, option_map, unwrap_or, refl}
use Rattle.std.proofs.Common.{arith, sym, subst, length-drop}
use Rattle.std.proofs.Math.Pow.{pow-lt}
use Rattle.std.proofs.lemmas.List.{drop_all}
use Rattle.std.proofs.lemmas.List.Quantifiers.{position-Some}
use Rattle.std.proofs.lemmas.Nat.{le_or_l, le_or_r, or_lt, pow_pos}
use Rattle.std.specs.Int.Bits.{bit_or}
use Rattle.hg_base.specs.declared.rid.TableId.{TableId}
use Rattle.hg_base.specs.declared.scope.Scope.TheVariants.{All, Declared}
use Rattle.hg_base.specs.Script.{Declaration}
use Rattle.hg_script.specs.Fields.{Field, Fields, nth}
use Rattle.hg_script.specs.Draft.{first_table, has_name, scope_named, set_named, table_at, table_named, with_named, with_table}
use Rattle.hg_script.specs.Lawful.{IsAmong, IsScope}
use Rattle.hg_script.proofs.Rows.{rest-at}

some-set : (tables : List Declaration) (names : List Field) → 1 ≤ length names → scope_named tables names ≡ option_map Declared (set_named tables names)
some-set tables [] h = absurd (omega (arith, h))
some-set tables (n ∷ ns) h = refl

-- more than two fields name a set, if each is declared
pub by-set : (tables : List Declaration) (r : Fields) → 2 < length r → scope_named tables (drop 2 r) ≡ option_map Declared (set_named tables (drop 2 r))
by-set tables r h = some-set tables (drop 2 r) (omega (arith, h, length-drop 2 r))

-- no name makes good one that is not declared
pub stays-none : (tables : List Declaration) (names : List Field) → fold (with_named tables) None names ≡ None
stays-none tables [] = refl
stays-none tables (n ∷ ns) = stays-none tables ns

-- one name more
pub named-more : (tables : List Declaration) (r : Fields) (i : ℕ) (set all : Option ℕ) → i < length r
    → fold (with_named tables) set (drop i r) ≡ all → fold (with_named tables) (with_table set (table_named tables (nth r i))) (drop (i + 1) r) ≡ all
named-more tables r i set all h e = rw (rest-at r i h) at e

-- a name of no table
pub named-none : (tables : List Declaration) (r : Fields) (i : ℕ) (set all : Option ℕ) → i < length r → table_named tables (nth r i) ≡ None
    → fold (with_named tables) set (drop i r) ≡ all → all ≡ None
named-none tables r i None all h none e = sym e ∙ stays-none tables (drop i r)
named-none tables r i (Some set) all h none e = sym (rw none at (named-more tables r i (Some set) all h e)) ∙ stays-none tables (drop (i + 1) r)

-- all names are told
pub named-all : (tables : List Declaration) (r : Fields) (i : ℕ) (set all : Option ℕ) → length r ≤ i
    → fold (with_named tables) set (drop i r) ≡ all → all ≡ set
named-all tables r i set all h e = sym (rw (drop_all i r h) at e)

-- ---- the set has declared tables alone, and some

among-by : (tables : List Declaration) (name : Field) (place : Option ℕ) → position (has_name name) tables ≡ place
    → not (is_some (option_map table_at place)) ≡ false
    → IsAmong tables (unwrap_or (option_map table_at place) first_table)
among-by tables name None e h = absurd (let bad : ⊥ = cc h in bad)
among-by tables name (Some i) e h = (position-Some (has_name name) tables i (record { name = []; kinds = [] }) e).0

-- a table that is found is one of the tables
pub among : (tables : List Declaration) (name : Field) → not (is_some (table_named tables name)) ≡ false → IsAmong tables (unwrap_or (table_named tables name) first_table)
among tables name h = among-by tables name (position (has_name name) tables) refl h

found : (tables : List Declaration) (name : Field) (table : TableId) → table_named tables name ≡ Some table → table.0 < length tables
found tables name table e = rw e at (among tables name (rw e refl))

pub found-among : (tables : List Declaration) (name : Field) (table : Option TableId) → table ≡ table_named tables name → IfSome table (λ t. t.0 < length tables)
found-among tables name None e = tt
found-among tables name (Some table) e = found tables name table (sym e)

-- the set that a set grows to by more names
pub record Grows (tables : List Declaration) (set all : ℕ) : Type 0 where
  pub more : set ≤ all
  pub below : all < 2 ^ length tables

one-grows : (tables : List Declaration) (set : ℕ) (table : TableId) → set < 2 ^ length tables → table.0 < length tables → Grows tables set (bit_or set (2 ^ table.0))
one-grows tables set table h k = record { more = le_or_l set (2 ^ table.0); below = or_lt (length tables) set (2 ^ table.0) h (pow-lt k) }

grows-by : (tables : List Declaration) (set all : ℕ) (name : Field) (names : List Field) (table : Option TableId) → table_named tables name ≡ table → set < 2 ^ length tables
    → ((more : ℕ) → more < 2 ^ length tables → fold (with_named tables) (Some more) names ≡ Some all → Grows tables more all)
    → fold (with_named tables) (with_table (Some set) table) names ≡ Some all → Grows tables set all
grows-by tables set all name names None is h next e = absurd (let no = sym (stays-none tables names) ∙ e in let bad : ⊥ = cc no in bad)
grows-by tables set all name names (Some table) is h next e =
    let one = one-grows tables set table h (found tables name table is) in
    let rest = next (bit_or set (2 ^ table.0)) one.below e in
    record { more = omega (arith, one.more, rest.more); below = rest.below }

grows : (tables : List Declaration) (set all : ℕ) (names : List Field) → set < 2 ^ length tables → fold (with_named tables) (Some set) names ≡ Some all → Grows tables set all
grows tables set all [] h e = let same : set ≡ all = cc e in record { more = omega (arith, same); below = subst (λ n. n < 2 ^ length tables) same h }
grows tables set all (n ∷ ns) h e = grows-by tables set all n ns (table_named tables n) refl h (λ more. grows tables more all ns) e

some-by : (tables : List Declaration) (name : Field) (names : List Field) (table : Option TableId) (all : ℕ) → table_named tables name ≡ table
    → fold (with_named tables) (with_table (Some 0) table) names ≡ Some all → IsScope tables (Declared all)
some-by tables name names None all is e = absurd (let no = sym (stays-none tables names) ∙ e in let bad : ⊥ = cc no in bad)
some-by tables name names (Some table) all is e =
    let one = one-grows tables 0 table (pow_pos (length tables)) (found tables name table is) in
    let rest = grows tables (bit_or 0 (2 ^ table.0)) all names one.below e in
    (omega (arith, pow_pos table.0, le_or_r 0 (2 ^ table.0), rest.more), rest.below)

scope-by : (tables : List Declaration) (name : Field) (names : List Field) (set : Option ℕ) → set_named tables (name ∷ names) ≡ set
    → not (is_some (option_map Declared set)) ≡ false → IsScope tables (unwrap_or (option_map Declared set) All)
scope-by tables name names None e h = absurd (let bad : ⊥ = cc h in bad)
scope-by tables name names (Some all) e h = some-by tables name names (table_named tables name) all refl e

-- a scope whose names are all declared
pub scope-fits : (tables : List Declaration) (names : List Field) → not (is_some (scope_named tables names)) ≡ false → IsScope tables (unwrap_or (scope_named tables names) All)
scope-fits tables [] h = tt
scope-fits tables (name ∷ names) h = scope-by tables name names (set_named tables (name ∷ names)) refl h
