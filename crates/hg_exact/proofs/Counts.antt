-- How many there are at most: lines, commits, groups and transactions are no more than the records.
use Rattle.std.proofs.Common.{◌≡◌, ℕ, zero, suc, ◌+◌, ◌<◌, ◌≤◌, ◌^◌, List, [], ◌∷◌, length, Bool, true, false, Option, Some, None, refl, sym, ap, ◌∙◌, arith}
use Rattle.std.specs.Prelude.{cond, filter, find, map, not, IfSome, if◌then◌else◌, ◌==◌, ◌||◌}
use Rattle.std.specs.List.{cons_option, filter_map, list_any}
use Rattle.std.proofs.lemmas.List.{length-map}
use Rattle.std.proofs.lemmas.Bool.Decides.{Decides-eqb}
use Rattle.hg_base.specs.declared.statement.Statement.{Statement}
use Rattle.hg_base.specs.declared.statement.Statement.TheVariants.{Begin, CursorOpen, Gc}
use Rattle.hg_base.specs.declared.statement.Record.{Record}
use Rattle.hg_base.specs.declared.line.Line.{Line}
use Rattle.hg_base.specs.declared.line.Reply.{Reply}
use Rattle.hg_base.specs.declared.line.Totals.{Totals}
use Rattle.hg_base.specs.Lists.{Each, Ascends, numbers_from}
use Rattle.hg_base.specs.History.{Commit, History, EachGroup, IsGroup, IsHistory}
use Rattle.hg_base.specs.Transcript.{Said, said, said_after, said_from, standing, last_of, open_after, next_after, ends, committed, commit_of, commits_from, commits, put_by_session}
use Rattle.hg_base.specs.Transcript.{group_of, greatest_commit, history_of}
use Rattle.hg_base.specs.Counts.{AreTotals, first_write, first_writes_from}
use Rattle.hg_base.specs.Text.{FitTotals}
use Rattle.hg_base.proofs.Growth.{as_many}
use Rattle.hg_base.proofs.ListFacts.{false_true, or_more, not_equal, each_keeps}
use Rattle.hg_headline.proofs.Following.{each_greatest}
use Rattle.hg_headline.proofs.Parts.{ascends_over, ascends_rest}

-- ---- numbers that ascend, each among others, are no more than those

abbrev others : ℕ → List ℕ → List ℕ
others n ys = filter (λ y. not (y == n)) ys

abbrev pub IsIn : List ℕ → ℕ → Type 0
IsIn ys n = list_any (λ y. y == n) ys ≡ true

filtered_few : (p : ℕ → Bool) (ys : List ℕ) → length (filter p ys) ≤ length ys
filtered_few p [] = omega arith
filtered_few p (y ∷ ys) = go (p y) (filtered_few p ys)
  where
    go : (b : Bool) → length (filter p ys) ≤ length ys → length (cond b (y ∷ filter p ys) (filter p ys)) ≤ suc (length ys)
    go true k = omega (arith, k)
    go false k = omega (arith, k)

others_fewer : (n : ℕ) (ys : List ℕ) → IsIn ys n → length (others n ys) < length ys
others_fewer n [] e = absurd (false_true e)
others_fewer n (y ∷ ys) e = go (y == n) e (others_fewer n ys)
  where
    go : (b : Bool) → (b || list_any (λ y. y == n) ys) ≡ true → (IsIn ys n → length (others n ys) < length ys) → length (cond (not b) (y ∷ others n ys) (others n ys)) < suc (length ys)
    go true e later = let k = filtered_few (λ y. not (y == n)) ys in omega (arith, k)
    go false e later = let k = later e in omega (arith, k)

still_in : (n m : ℕ) (ys : List ℕ) → n < m → IsIn ys m → IsIn (others n ys) m
still_in n m [] l e = absurd (false_true e)
still_in n m (y ∷ ys) l e = go (y == n) refl (still_in n m ys l)
  where
    apart : (y == n) ≡ true → (y == m) ≡ false
    apart is = let same : y ≡ n = (Decides-eqb y n).0 is in not_equal y m (omega (arith, same, l))

    go : (b : Bool) → (y == n) ≡ b → (IsIn ys m → IsIn (others n ys) m) → list_any (λ y. y == m) (cond (not b) (y ∷ others n ys) (others n ys)) ≡ true
    go true is later = later (sym (ap (λ b. b || list_any (λ y. y == m) ys) (apart is)) ∙ e)
    go false is later = or_more (y == m) (list_any (λ y. y == m) ys) (list_any (λ y. y == m) (others n ys)) e later

all_still_in : (n : ℕ) (ys ms : List ℕ) → Each (λ m. n < m) ms → Each (IsIn ys) ms → Each (IsIn (others n ys)) ms
all_still_in n ys [] l e = tt
all_still_in n ys (m ∷ ms) l e = (still_in n m ys l.0 e.0, all_still_in n ys ms l.1 e.1)

pub no_more : (xs ys : List ℕ) → Ascends xs → Each (IsIn ys) xs → length xs ≤ length ys
no_more [] ys a e = omega arith
no_more (x ∷ xs) ys a e =
    let rest = no_more xs (others x ys) (ascends_rest x xs a) (all_still_in x ys xs (ascends_over x xs a) e.1) in
    let fewer = others_fewer x ys e.0 in
    omega (arith, rest, fewer)

-- ---- lines and commits

pub lines_few : (earlier : List Said) (rs : List Record) (lines : List Line) → length (said_from earlier rs lines) ≤ length rs
lines_few earlier [] lines = omega arith
lines_few earlier (r ∷ rs) [] = omega arith
lines_few earlier (r ∷ rs) (line ∷ lines) = let k = lines_few (said earlier r line.reply ∷ earlier) rs lines in omega (arith, k)

one_more : {X : Type 0} (o : Option X) (xs : List X) (n : ℕ) → length xs ≤ n → length (cons_option o xs) ≤ suc n
one_more None xs n k = omega (arith, k)
one_more (Some x) xs n k = omega (arith, k)

commits_few : (earlier all : List Said) → length (commits_from earlier all) ≤ length all
commits_few earlier [] = omega arith
commits_few earlier (now ∷ later) = one_more (commit_of earlier now) (commits_from (now ∷ earlier) later) (length later) (commits_few (now ∷ earlier) later)

firsts_few : (earlier all : List Said) → length (first_writes_from earlier all) ≤ length all
firsts_few earlier [] = omega arith
firsts_few earlier (now ∷ later) = one_more (first_write earlier now) (first_writes_from (now ∷ earlier) later) (length later) (firsts_few (now ∷ earlier) later)

-- ---- groups: each number has a commit

has_number : (n : ℕ) (ps : List (ℕ × Commit)) → 0 < length (group_of ps n) → IsIn (map (λ p. p.0) ps) n
has_number n [] h = absurd (omega (arith, h))
has_number n (p ∷ ps) h = go (p.0 == n) h (has_number n ps)
  where
    go : (b : Bool) → 0 < length (cond b (put_by_session p.1 (group_of ps n)) (group_of ps n)) → (0 < length (group_of ps n) → IsIn (map (λ p. p.0) ps) n) →
        (b || list_any (λ m. m == n) (map (λ p. p.0) ps)) ≡ true
    go true h later = refl
    go false h later = later h

have_numbers : (ps : List (ℕ × Commit)) (n many : ℕ) → EachGroup IsGroup n (map (group_of ps) (numbers_from n many)) → Each (IsIn (map (λ p. p.0) ps)) (numbers_from n many)
have_numbers ps n zero h = tt
have_numbers ps n (suc many) h = (has_number n ps h.0.some, have_numbers ps (suc n) many h.1)

numbers_ascend : (n many : ℕ) → Ascends (numbers_from n many)
numbers_ascend n zero = tt
numbers_ascend n (suc zero) = tt
numbers_ascend n (suc (suc many)) = (omega arith, numbers_ascend (suc n) (suc many))

pub as_many_numbers : (n many : ℕ) → length (numbers_from n many) ≡ many
as_many_numbers n zero = refl
as_many_numbers n (suc many) = ap suc (as_many_numbers (suc n) many)

pub groups_few : (all : List Said) → IsHistory (history_of all) → length (history_of all) ≤ length all
groups_few all h =
    let top = greatest_commit all in
    let firsts : List ℕ = map (λ (p : ℕ × Commit). p.0) (commits all) in
    let few : length (numbers_from 1 top) ≤ length firsts = no_more (numbers_from 1 top) firsts (numbers_ascend 1 top) (have_numbers (commits all) 1 top h) in
    let many : length firsts ≡ length (commits all) = length-map (commits all) (λ (p : ℕ × Commit). p.0) in
    omega (arith, as_many all, as_many_numbers 1 top, few, many, commits_few [] all)

-- each printed commit number is a group's

unpicked : {X Y : Type 0} (P : Y → Type 0) (f : X → Option Y) (xs : List X) → Each P (filter_map f xs) → Each (λ x. IfSome (f x) P) xs
unpicked P f [] e = tt
unpicked {Y = Y} P f (x ∷ xs) e = go (f x) e (unpicked P f xs)
  where
    go : (o : Option Y) → Each P (cons_option o (filter_map f xs)) → (Each P (filter_map f xs) → Each (λ x. IfSome (f x) P) xs) → IfSome o P × Each (λ x. IfSome (f x) P) xs
    go None e later = (tt, later e)
    go (Some y) e later = (e.0, later e.1)

pub numbers_within : (all : List Said) → Each (λ now. IfSome (committed now) (λ c. c ≤ length (history_of all))) all
numbers_within all = unpicked (λ c. c ≤ length (history_of all)) committed all (each_greatest (filter_map committed all) (length (history_of all)) (omega (arith, as_many all)))

-- ---- transactions

found : {X : Type 0} (P : X → Type 0) (p : X → Bool) (xs : List X) → Each P xs → IfSome (find p xs) P
found P p [] e = tt
found P p (x ∷ xs) e = go (p x) (found P p xs e.1)
  where
    go : (b : Bool) → IfSome (find p xs) P → IfSome (cond b (Some x) (find p xs)) P
    go true k = e.0
    go false k = k

stands_next : (last : Option Said) (n : ℕ) (r : Record) (reply : Reply) → IfSome last (λ s. s.transaction ≤ n) → (standing (open_after last) (next_after last) r reply).transaction ≤ suc n
stands_next None n r reply h = omega arith
stands_next (Some s) n r reply h = go (ends s)
  where
    go : (b : Bool) → (standing (if b then None else Some s) (suc s.transaction) r reply).transaction ≤ suc n
    go true = omega (arith, h)
    go false = omega (arith, h)

begins_next : (last : Option Said) (n : ℕ) → IfSome last (λ s. s.transaction ≤ n) → next_after last ≤ suc n
begins_next None n h = omega arith
begins_next (Some s) n h = omega (arith, h)

says_next : (last : Option Said) (n : ℕ) (r : Record) (reply : Reply) (s : Statement) → IfSome last (λ s. s.transaction ≤ n) → (said_after last r reply s).transaction ≤ suc n
says_next last n r reply (Begin scope) h = begins_next last n h
says_next last n r reply (CursorOpen table low high) h = begins_next last n h
says_next last n r reply (Gc kind) h = omega arith
says_next last n r reply _ h = stands_next last n r reply h

pub transactions_few : (rs : List Record) (lines : List Line) (earlier : List Said) (n : ℕ) → Each (λ s. s.transaction ≤ n) earlier →
    Each (λ s. s.transaction ≤ n + length rs) (said_from earlier rs lines)
transactions_few [] lines earlier n h = tt
transactions_few (r ∷ rs) [] earlier n h = tt
transactions_few (r ∷ rs) (line ∷ lines) earlier n h =
    let now : Said = said earlier r line.reply in
    let one : now.transaction ≤ suc n = says_next (last_of r.session earlier) n r line.reply r.statement (found (λ (s : Said). s.transaction ≤ n) _ earlier h) in
    let before : Each (λ (s : Said). s.transaction ≤ suc n) earlier = each_keeps (λ (s : Said). s.transaction ≤ n) (λ (s : Said). s.transaction ≤ suc n) (λ s k. omega (arith, k)) earlier h in
    let later : Each (λ (s : Said). s.transaction ≤ suc n + length rs) (said_from (now ∷ earlier) rs lines) = transactions_few rs lines (now ∷ earlier) (suc n) (one, before) in (
      omega (arith, one),
      each_keeps (λ (s : Said). s.transaction ≤ suc n + length rs) (λ (s : Said). s.transaction ≤ n + suc (length rs)) (λ s k. omega (arith, k))
          (said_from (now ∷ earlier) rs lines) later,
    )

-- ---- totals

pub totals_fit : (all : List Said) (h : History) (t : Totals) → AreTotals all h t → length all < 2 ^ 64 → FitTotals t
totals_fit all h t a few =
    let made : t.made < 2 ^ 64 = omega (arith, a.made, firsts_few [] all, few) in record {
      made = made;
      undone = omega (arith, made, a.balance);
      group = omega (arith, made, a.balance);
      table = omega (arith, made, a.balance);
      interval = omega (arith, made, a.balance);
      left = omega (arith, made, a.balance);
    }
