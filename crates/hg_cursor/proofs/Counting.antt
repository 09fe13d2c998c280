-- How many of the rows that were copied are up to a key, and how many keys of the heap.
use Rattle.std.proofs.Common.{◌≡◌, ℕ, suc, ◌+◌, ◌<◌, ◌≤◌, List, [], ◌∷◌, ◌++◌, length, get_or, true, false, refl, ap, arith}
use Rattle.std.specs.Prelude.{nat_le, if◌then◌else◌}
use Rattle.std.specs.List.{All}
use Rattle.std.specs.List.Sorted.{IsPermutation}
use Rattle.std.proofs.lemmas.Bool.Decides.{nat_tests}
use Rattle.std.proofs.lemmas.List.Sorted.{sum_by_pushed, sum_by_popped, length_permutation}
use Rattle.std.proofs.lemmas.List.Sums.{sum_by-append, sum_by-cons}
use Rattle.hg_base.specs.declared.value.Value.{Value}
use Rattle.hg_base.proofs.ListFacts.{cases}
use Rattle.hg_cursor.specs.Keys.{Rows}
use Rattle.hg_cursor.specs.Firsts.{Copied, one_upto, count_upto, keys_upto, AreLeast, IsNeeded}

-- ---- keys up to a limit, and over it

abbrev pub key_upto : ℕ → ℕ → ℕ
key_upto limit k = if nat_le k limit then 1 else 0

counts : (limit k : ℕ) → k ≤ limit → key_upto limit k ≡ 1
counts limit k l = let yes : nat_le k limit ≡ true = grind (arith, nat_tests, l) in ap {B = ℕ} (λ b. if b then 1 else 0) yes

counts_not : (limit k : ℕ) → limit < k → key_upto limit k ≡ 0
counts_not limit k l = let no : nat_le k limit ≡ false = grind (arith, nat_tests, l) in ap {B = ℕ} (λ b. if b then 1 else 0) no

pub few_keys : (limit : ℕ) (keys : List ℕ) → keys_upto limit keys ≤ length keys
few_keys limit [] = omega arith
few_keys limit (k ∷ keys) =
    let rest = few_keys limit keys in
    let all = sum_by-cons (key_upto limit) k keys in
    cases (nat_le k limit)
    (λ t. let one = counts limit k (grind (arith, nat_tests, t)) in omega (arith, rest, all, one))
    (λ f. let none = counts_not limit k (grind (arith, nat_tests, f)) in omega (arith, rest, all, none))

few_rows : (limit : ℕ) (rows : Rows) → count_upto limit rows ≤ length rows
few_rows limit [] = omega arith
few_rows limit (p ∷ rows) =
    let rest = few_rows limit rows in
    let all = sum_by-cons (one_upto limit) p rows in
    cases (nat_le p.0 limit)
    (λ t. let one = counts limit p.0 (grind (arith, nat_tests, t)) in omega (arith, rest, all, one))
    (λ f. let none = counts_not limit p.0 (grind (arith, nat_tests, f)) in omega (arith, rest, all, none))

all_upto : (limit : ℕ) (keys : List ℕ) → All (λ k. k ≤ limit) keys → keys_upto limit keys ≡ length keys
all_upto limit [] a = refl
all_upto limit (k ∷ keys) a =
    let rest = all_upto limit keys (λ i d l. a (suc i) d (omega (arith, l))) in
    let all = sum_by-cons (key_upto limit) k keys in
    let one = counts limit k (a 0 k (omega arith)) in
    omega (arith, rest, all, one)

-- all rows are up to some key
pub furthest : (rows : Rows) → ℕ
furthest [] = 0
furthest (p ∷ rows) = p.0 + furthest rows

all_rows : (rows : Rows) (limit : ℕ) → furthest rows ≤ limit → count_upto limit rows ≡ length rows
unfolding furthest
all_rows [] limit l = refl
all_rows (p ∷ rows) limit l =
    let rest = all_rows rows limit (omega (arith, l)) in
    let all = sum_by-cons (one_upto limit) p rows in
    let one = counts limit p.0 (omega (arith, l)) in
    omega (arith, rest, all, one)

-- ---- the least keys

-- there are n of them at most
at_most : (n : ℕ) (keys : List ℕ) (rows : Rows) (top : ℕ) → AreLeast n keys rows → All (λ k. k ≤ top) keys → length keys ≤ n
at_most n keys rows top a all = let same = all_upto top keys all in let here = a top in omega (arith, same, here)

pub none_least : (n : ℕ) → AreLeast n [] []
none_least n limit = omega arith

-- a row is added, and its key to the heap, where there are fewer than n
pub added : (n : ℕ) (keys new : List ℕ) (rows : Rows) (key : ℕ) (row : List Value) → length keys < n → IsPermutation (key ∷ keys) new → AreLeast n keys rows →
    AreLeast n new (rows ++ (key, row) ∷ [])
added n keys new rows key row less p a limit =
    let pushed = sum_by_pushed (key_upto limit) key keys new p in
    let sums = sum_by-append (one_upto limit) rows ((key, row) ∷ []) in
    let one = sum_by-cons (one_upto limit) (key, row) [] in
    let before = a limit in
    let few = few_keys limit keys in
    cases (nat_le key limit)
    (λ t. let yes = counts limit key (grind (arith, nat_tests, t)) in omega (arith, pushed, sums, one, before, few, less, yes))
    (λ f. let no = counts_not limit key (grind (arith, nat_tests, f)) in omega (arith, pushed, sums, one, before, few, less, no))

-- a row that is needed is added, and its key takes the place of the greatest, where there are n
pub replaced : (n : ℕ) (keys rest new : List ℕ) (rows : Rows) (top key : ℕ) (row : List Value) → IsPermutation keys (top ∷ rest) → IsPermutation (key ∷ rest) new →
    All (λ k. k ≤ top) keys → n ≤ length keys → IsNeeded key (record { rows = rows; most = n }) → AreLeast n keys rows → AreLeast n new (rows ++ (key, row) ∷ [])
replaced n keys rest new rows top key row leaves comes all many needed a limit =
    let popped = sum_by_popped (key_upto limit) top keys rest leaves in
    let pushed = sum_by_pushed (key_upto limit) key rest new comes in
    let sums = sum_by-append (one_upto limit) rows ((key, row) ∷ []) in
    let one = sum_by-cons (one_upto limit) (key, row) [] in
    let before = a limit in
    let few = at_most n keys rows top a all in
    cases (nat_le top limit)
    (λ t.
    let under : top ≤ limit = grind (arith, nat_tests, t) in
    let whole = all_upto limit keys (λ i d l. let m = all i d l in omega (arith, m, under)) in
    let gone = counts limit top under in
    cases (nat_le key limit)
    (λ u. let yes = counts limit key (grind (arith, nat_tests, u)) in omega (arith, popped, pushed, sums, one, before, few, many, whole, gone, yes))
    (λ o. let none = needed limit (grind (arith, nat_tests, o)) in absurd (omega (arith, none, before, whole, many))))
    (λ f.
    let over : limit < top = grind (arith, nat_tests, f) in
    let stays = counts_not limit top over in
    let length_rest = length_permutation keys (top ∷ rest) leaves in
    let part = few_keys limit rest in
    cases (nat_le key limit)
    (λ u. let yes = counts limit key (grind (arith, nat_tests, u)) in omega (arith, popped, pushed, sums, one, before, few, many, stays, length_rest, part, yes))
    (λ o. let no = counts_not limit key (grind (arith, nat_tests, o)) in omega (arith, popped, pushed, sums, one, before, few, many, stays, length_rest, part, no)))

-- no row is to be returned
pub nothing : (n : ℕ) (keys : List ℕ) (rows : Rows) → length keys ≡ 0 → n ≤ length keys → AreLeast n keys rows
nothing n keys rows none many limit = let few = few_keys limit keys in omega (arith, none, many, few)

-- ---- which rows are needed

-- where the heap has n keys, so many rows are up to the last of them
pub enough : (n : ℕ) (keys : List ℕ) (rows : Rows) (last : ℕ) → AreLeast n keys rows → All (λ k. k ≤ last) keys → n ≤ length keys → n ≤ count_upto last rows
enough n keys rows last a all many = let whole = all_upto last keys all in let here = a last in omega (arith, whole, here, many)

-- where it has fewer, all rows are needed
pub all_needed : (n : ℕ) (keys : List ℕ) (rows : Rows) (key : ℕ) → AreLeast n keys rows → length keys < n → IsNeeded key (record { rows = rows; most = n })
all_needed n keys rows key a less k under =
    let whole = all_rows rows (furthest rows) (omega arith) in
    let here = a (furthest rows) in
    let few = few_keys (furthest rows) keys in
    let some = few_rows k rows in
    omega (arith, whole, here, few, some, less)

not_all : (keys : List ℕ) (last k : ℕ) → 0 < length keys → last ≡ get_or keys 0 last → k < last → keys_upto k keys < length keys
not_all [] last k some e under = absurd (omega (arith, some))
not_all (x ∷ keys) last k some e under =
    let all = sum_by-cons (key_upto k) x keys in
    let few = few_keys k keys in
    let no = counts_not k x (omega (arith, e, under)) in
    omega (arith, all, few, no)

-- and else those up to the last of the keys
pub last_needed : (n : ℕ) (keys : List ℕ) (rows : Rows) (last : ℕ) → AreLeast n keys rows → All (λ k. k ≤ last) keys → 0 < length keys → last ≡ get_or keys 0 last →
    IsNeeded last (record { rows = rows; most = n })
last_needed n keys rows last a all some first k under =
    let fewer = not_all keys last k some first under in
    let few = at_most n keys rows last a all in
    let here = a k in
    omega (arith, fewer, few, here)

-- a lower key is needed too
pub lower_needed : (copied : Copied) (key lower : ℕ) → lower ≤ key → IsNeeded key copied → IsNeeded lower copied
lower_needed copied key lower down needed k under = needed k (omega (arith, under, down))

-- a key is still needed once its row was added
pub still_needed : (old new : Copied) (key : ℕ) (row : List Value) → new.most ≡ old.most → new.rows ≡ old.rows ++ (key, row) ∷ [] → IsNeeded key old → IsNeeded key new
still_needed old new key row most is needed k under =
    let was = needed k under in
    let sums = sum_by-append (one_upto k) old.rows ((key, row) ∷ []) in
    let one = sum_by-cons (one_upto k) (key, row) [] in
    let no = counts_not k key under in
    let same = ap (count_upto k) is in
    omega (arith, was, sums, one, no, same, most)
