-- What a gather is of a pass's record.
use Rattle.std.specs.Prelude.{◌≡◌, ℕ, suc, ◌+◌, ◌<◌, ◌≤◌, slice_index_or, is_some, false, List, [], ◌∷◌, map, drop, length, Vec, vec_capacity, All, IsPermutation, ⊤}
use Rattle.std.specs.declared.alloc.Global.{Global}
use Rattle.std.specs.List.Sorted.{IsNonDecreasingBy}
use Rattle.hg_base.specs.declared.report.Entry.{Entry}
use Rattle.hg_base.specs.Lists.{Each}
use Rattle.hg_core.specs.declared.loaded.Loaded.{Loaded}
use Rattle.hg_core.specs.Words.{IsRegister, shows_declared}
use Rattle.hg_core.specs.Passes.{least_entering}
use Rattle.hg_rule.specs.declared.view.PassPart.{PassPart}
use Rattle.hg_tracker.specs.declared.gathered.Gathered.{Gathered}
use Rattle.hg_rule.specs.Rounds.{entries_of}
use Rattle.hg_tracker.specs.Entries.{numbers_for, served, down_from}

-- how many tables it is made for
abbrev pub tables_in : Gathered → ℕ
tables_in g = length g.lists.items

-- no table has a list of its own
abbrev pub AreEmpty : List (Vec ℕ Global) → Type 0
AreEmpty lists = Each (λ list. length list.items ≡ 0) lists

-- it has room for so many sessions, and a list for each of so many tables, of which none has anything that isn't claimed
abbrev pub IsMadeFor : ℕ → ℕ → Gathered → Type 0
IsMadeFor sessions tables g =
    (g.sessions ≡ sessions) × (tables_in g ≡ tables) × (tables ≤ 64)
    × (sessions ≤ vec_capacity g.entries) × (sessions ≤ vec_capacity g.ranked) × All (λ list. sessions ≤ vec_capacity list) g.lists.items
    × (sessions ≤ vec_capacity g.moved) × (sessions ≤ vec_capacity g.common) × (g.claimed ≡ false → AreEmpty g.lists.items)

-- the mark, the horizon and the entries are those of a record so far
abbrev pub IsNotedOf : ℕ → List (ℕ × Loaded) → Gathered → Type 0
IsNotedOf mark loaded g = (g.mark ≡ mark) × (g.horizon ≡ least_entering mark loaded) × (g.entries.items ≡ entries_of loaded)

-- a register that has a word was loaded, and the mask exactly where that is live and declared
abbrev pub IsFull : Loaded → Type 0
IsFull loaded = IsRegister loaded.register × (is_some loaded.mask ≡ shows_declared loaded.register)

-- a record has the first sessions in order, the last one first
abbrev pub IsLoaded : ℕ → List (ℕ × Loaded) → Type 0
IsLoaded sessions loaded = (map (λ e. e.0) loaded ≡ down_from sessions) × Each (λ e. IsFull e.1) loaded

-- the entry is at that place of a list
abbrev pub StandsAt : ℕ → Entry → List Entry → Type 0
StandsAt position e entries = (position < length entries) × ((other : Entry) → slice_index_or entries position other ≡ e)

-- a try for the entry at that place leaves the later entries, and how many there are, and what the gather is made for
abbrev pub LeavesRest : ℕ → Gathered → Gathered → Type 0
LeavesRest position before after =
    (drop (position + 1) after.entries.items ≡ drop (position + 1) before.entries.items)
    × (length after.entries.items ≡ length before.entries.items)
    × ((sessions tables : ℕ) → IsMadeFor sessions tables before → IsMadeFor sessions tables after)

-- what each table is served are its numbers, from number t on
abbrev pub AreListsOf : ℕ → List ℕ → List Entry → List (Vec ℕ Global) → Type 0
AreListsOf t common ranked [] = ⊤
AreListsOf t common ranked (list ∷ lists) = (served common list.items ≡ numbers_for t ranked) × AreListsOf (suc t) common ranked lists

-- The gather is the record of a pass that loaded the words of each session: the mark, the horizon, the entries, and of each table the
-- numbers that count for it, ascending.
pub record IsGatherOf (sessions : ℕ) (part : PassPart) (g : Gathered) : Type 0 where
  pub noted : IsNotedOf part.mark part.loaded g
  pub loaded : IsLoaded sessions part.loaded
  pub shuffled : IsPermutation g.entries.items g.ranked.items
  pub rises : IsNonDecreasingBy (λ (e : Entry). e.number) g.ranked.items
  pub lists : AreListsOf 0 g.common.items g.ranked.items g.lists.items
