-- The set of the tables that are named, bit by bit.
use Rattle.std.proofs.Common.{◌≡◌, ◌<◌, ◌^◌, ◌∙◌, ℕ, List, [], ◌∷◌, fold, Bool, true, false, ◌==◌, ◌||◌, ◌≢◌, max, inl, inr, Option, Some, None, refl, ap, arith, sym}
use Rattle.std.proofs.lemmas.Bool.{cases_Bool}
use Rattle.std.proofs.lemmas.Bool.Decides.{nat_tests}
use Rattle.std.proofs.lemmas.Nat.Bits.{bit_at-lt, bit_at-pow_other, bit_at-pow_same, bit_at-zero, bit_at_or}
use Rattle.std.specs.Int.{bit_at}
use Rattle.std.specs.Int.Bits.{bit_or}
use Rattle.std.specs.Option.{option_map_or}
use Rattle.hg_base.specs.declared.rid.TableId.{TableId}
use Rattle.hg_base.specs.declared.scope.Scope.TheVariants.{Declared}
use Rattle.hg_base.specs.Script.{Declaration}
use Rattle.hg_base.specs.Transcript.{has}
use Rattle.hg_script.specs.Fields.{Field}
use Rattle.hg_script.specs.Draft.{is_named, set_named, table_named, with_named, with_table}
use Rattle.hg_script.proofs.Scopes.{stays-none}

bit-or : (a b c : ℕ) → a < 2 → b < 2 → c ≡ max a b → (c == 1) ≡ ((a == 1) || (b == 1))
bit-or a b c h k e = grind (arith, nat_tests, h, k, e)

bit-of : (t x : ℕ) → (bit_at (2 ^ t) x == 1) ≡ (t == x)
bit-of t x = elim (cases_Bool (t == x)) [
  | inl same ↦
      let is : t ≡ x = grind (arith, nat_tests, same) in
      rw (same, is, bit_at-pow_same x) refl
  | inr other ↦
      let apart : x ≢ t = λ e. let bad : ⊥ = grind (arith, nat_tests, other, e) in bad in
      rw (other, bit_at-pow_other t x apart) refl
]

or-false : (b : Bool) → b ≡ (b || false)
or-false true = refl
or-false false = refl

one-more : (set : ℕ) (t table : TableId) → has (Declared (bit_or set (2 ^ t.0))) table ≡ (has (Declared set) table || (t.0 == table.0))
one-more set t table =
    bit-or (bit_at set table.0) (bit_at (2 ^ t.0) table.0) _ (bit_at-lt set table.0) (bit_at-lt (2 ^ t.0) table.0) (bit_at_or set (2 ^ t.0) table.0)
    ∙ ap (λ b. has (Declared set) table || b) (bit-of t.0 table.0)

or-assoc : (a b c : Bool) → ((a || b) || c) ≡ (a || (b || c))
or-assoc true b c = refl
or-assoc false b c = refl

has-by : (tables : List Declaration) (set all : ℕ) (names : List Field) (found : Option TableId) (table : TableId)
    → ((more : ℕ) → fold (with_named tables) (Some more) names ≡ Some all → has (Declared all) table ≡ (has (Declared more) table || is_named tables names table))
    → fold (with_named tables) (with_table (Some set) found) names ≡ Some all
    → has (Declared all) table ≡ (has (Declared set) table || (option_map_or (λ t. t.0 == table.0) found false || is_named tables names table))
has-by tables set all names None table next e = absurd (let no = sym (stays-none tables names) ∙ e in let bad : ⊥ = cc no in bad)
has-by tables set all names (Some t) table next e =
    next (bit_or set (2 ^ t.0)) e ∙ ap (λ b. b || is_named tables names table) (one-more set t table) ∙ or-assoc (has (Declared set) table) (t.0 == table.0) (is_named tables names table)

has-named : (tables : List Declaration) (set all : ℕ) (names : List Field) (table : TableId) → fold (with_named tables) (Some set) names ≡ Some all
    → has (Declared all) table ≡ (has (Declared set) table || is_named tables names table)
has-named tables set all [] table e = let same : set ≡ all = cc e in rw same (or-false (has (Declared all) table))
has-named tables set all (n ∷ ns) table e = has-by tables set all ns (table_named tables n) table (λ more. has-named tables more all ns table) e

none-at : (x : ℕ) → (bit_at 0 x == 1) ≡ false
none-at x = rw (bit_at-zero x) refl

-- a set has exactly the tables that are named
pub set-has : (tables : List Declaration) (names : List Field) (set : ℕ) (table : TableId) → set_named tables names ≡ Some set
    → has (Declared set) table ≡ is_named tables names table
set-has tables names set table e = has-named tables 0 set names table e ∙ ap (λ b. b || is_named tables names table) (none-at table.0)
