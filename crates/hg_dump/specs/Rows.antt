-- The rows of a snapshot.
use Rattle.std.specs.Prelude.{◌≡◌, ℕ, ◌^◌, List, [], ◌∷◌, length, map, filter, filter_map, fold, Bool, ◌&&◌, ◌||◌, ◌==◌, nat_lt, if◌then◌else◌, IsTrue, Contains, Option, Some, option_map, ⊤}
use Rattle.std.specs.List.{flat_map}
use Rattle.hg_base.specs.declared.rid.Rid.{Rid}
use Rattle.hg_base.specs.declared.rid.TableId.{TableId}
use Rattle.hg_base.specs.declared.value.Value.{Value}
use Rattle.hg_base.specs.Lists.{Each}
use Rattle.hg_base.specs.Script.{Declaration}
use Rattle.hg_base.specs.History.{History, group_rids, same_rid, visible}

-- a record that has a row, with that row
pub record Kept : Type 0 where
  pub rid : Rid
  pub row : List Value

-- rows of one table, given by their keys
abbrev pub kept_in : TableId → List (ℕ × List Value) → List Kept
kept_in table rows = map (λ p. record { rid = record { table = table; key = p.0 }; row = p.1 }) rows

-- ---- the order of records

-- by table, and then by key
abbrev pub is_before : Rid → Rid → Bool
is_before a b = nat_lt a.table.0 b.table.0 || ((a.table.0 == b.table.0) && nat_lt a.key b.key)

-- each record is before the next
abbrev pub AreAscending : List Kept → Type 0
AreAscending [] = ⊤
AreAscending (a ∷ []) = ⊤
AreAscending (a ∷ b ∷ more) = IsTrue (is_before a.rid b.rid) × AreAscending (b ∷ more)

-- ---- the rows of a snapshot

-- a record of one of the tables, with a key of 64 bits
abbrev pub is_declared : List Declaration → Rid → Bool
is_declared tables r = nat_lt r.table.0 (length tables) && nat_lt r.key (2 ^ 64)

-- Rows by ascending table and key: each is what the table shows of its record at the snapshot, and each record of a declared table
-- that shows a row is there.
pub record AreRowsAt (tables : List Declaration) (h : History) (s : ℕ) (rows : List Kept) : Type 0 where
  pub ascend : AreAscending rows
  pub each : Each (λ kept. IsTrue (is_declared tables kept.rid) × ((visible h kept.rid s).row ≡ Some kept.row)) rows
  pub every : (kept : Kept) → IsTrue (is_declared tables kept.rid) → (visible h kept.rid s).row ≡ Some kept.row → Contains rows kept

-- ---- the same list, computed

-- a record in its place among some that ascend, none twice
abbrev pub placed : List Rid → Rid → List Rid
placed [] r = r ∷ []
placed (q ∷ qs) r = if same_rid r q then q ∷ qs else if is_before r q then r ∷ q ∷ qs else q ∷ placed qs r

-- every record that a history writes, ascending
abbrev pub rids_written : History → List Rid
rids_written h = fold placed [] (flat_map group_rids h)

-- the row that a record shows at a snapshot, if there is one
abbrev pub kept_at : History → ℕ → Rid → Option Kept
kept_at h s r = option_map (λ row. record { rid = r; row = row }) (visible h r s).row

-- the rows of the declared tables at a snapshot
unfoldable pub rows_at : List Declaration → History → ℕ → List Kept
rows_at tables h s = filter_map (kept_at h s) (filter (is_declared tables) (rids_written h))
