-- What a record's registers show, as entries by ascending session.
use Rattle.std.specs.Prelude.{ℕ, zero, suc, if◌then◌else◌, ◌^◌, ◌/◌, ◌%◌, ◌==◌, ◌||◌, not, Bool, true, min, map, filter, List, [], ◌∷◌}
use Rattle.hg_base.specs.declared.scope.Scope.{Scope}
use Rattle.hg_base.specs.declared.scope.Scope.TheVariants.{All, Declared}
use Rattle.hg_base.specs.declared.report.Entry.{Entry}

-- whether a scope has the table of a number
abbrev pub has_number : Scope → ℕ → Bool
has_number All table = true
has_number (Declared mask) table = (mask / 2 ^ table) % 2 == 1

-- a live register counts for a table where it was not moved, or has it declared
abbrev pub counts_for : ℕ → Entry → Bool
counts_for table e = not e.moved || has_number e.scope table

-- n, .., 2, 1
abbrev pub down_from : ℕ → List ℕ
down_from zero = []
down_from (suc n) = suc n ∷ down_from n

-- how often a number is in a list
abbrev pub times : ℕ → List ℕ → ℕ
times n [] = 0
times n (m ∷ numbers) = if m == n then suc (times n numbers) else times n numbers

-- the numbers of the entries that count for a table
abbrev pub numbers_for : ℕ → List Entry → List ℕ
numbers_for table entries = map (λ e. e.number) (filter (counts_for table) entries)

-- the numbers of the entries that count for all tables
abbrev pub common_numbers : List Entry → List ℕ
common_numbers entries = map (λ e. e.number) (filter (λ e. not e.moved) entries)

-- the entries that were moved
abbrev pub moved_of : List Entry → List Entry
moved_of entries = filter (λ e. e.moved) entries

-- a table's own list, or the common one where that is empty
abbrev pub served : List ℕ → List ℕ → List ℕ
served common [] = common
served common (n ∷ own) = n ∷ own

-- a number, or the first of a list where that is less
abbrev pub lowest : ℕ → List ℕ → ℕ
lowest n [] = n
lowest n (m ∷ numbers) = min n m
