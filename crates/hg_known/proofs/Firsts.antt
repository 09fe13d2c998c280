-- Whether a transaction is committed, which writes are the first of their record, and counts that lines bound.
use Rattle.std.proofs.Common.{◌≡◌, ℕ, suc, ◌+◌, ◌≤◌, ◌<◌, List, [], ◌∷◌, length, Bool, true, false, Option, Some, None, refl, sym, ap, ◌∙◌, arith, cond}
use Rattle.std.specs.Prelude.{◌||◌, filter, is_some, min}
use Rattle.std.specs.List.{cons_option, list_any}
use Rattle.std.specs.Int.{from_bool}
use Rattle.std.specs.Option.{option_map_or}
use Rattle.std.specs.Prelude.{is_none}
use Rattle.hg_base.specs.declared.statement.Statement.{Statement}
use Rattle.hg_base.specs.declared.statement.Statement.TheVariants.{Begin, Get, Put, Del, Scan, CursorOpen, Fetch, CursorClose, Commit, Rollback, Gc}
use Rattle.hg_base.specs.Lists.{onto}
use Rattle.hg_base.specs.Transcript.{Said, is_of, is_end, ends, committed, committed_by, stored, own_writes}
use Rattle.hg_base.specs.History.{Write, image_in}
use Rattle.hg_base.specs.Counts.{first_write, first_writes_from, is_committed}
use Rattle.hg_base.proofs.ListFacts.{false_true}
use Rattle.hg_known.specs.Tallied.{firsts}
use Rattle.hg_known.proofs.Pointing.{any_onto}

-- ---- whether a transaction is committed

-- whether one of the lines prints a commit number for its transaction
abbrev pub commits_one : List Said → Bool
commits_one lines = list_any (λ (s : Said). is_some (committed s)) lines

pub committed_ends : (s : Said) → ends s ≡ false → committed s ≡ None
committed_ends s e = go s.alone s.statement refl refl
  where
    by : (asked : Statement) → is_end asked ≡ false → committed_by asked s.reply.answer ≡ None
    by Commit f = absurd (false_true (sym f))
    by (Begin scope) f = refl
    by (Get rid) f = refl
    by (Put rid row) f = refl
    by (Del rid) f = refl
    by (Scan table low high) f = refl
    by (CursorOpen table low high) f = refl
    by (Fetch n) f = refl
    by CursorClose f = refl
    by Rollback f = refl
    by (Gc kind) f = refl

    go : (b : Bool) (asked : Statement) → s.alone ≡ b → s.statement ≡ asked → cond b s.reply.number (committed_by asked s.reply.answer) ≡ None
    go true asked f g = absurd (false_true (sym e ∙ ap (λ c. c || is_end s.statement) f))
    go false asked f g = by asked (ap is_end (sym g) ∙ sym (ap (λ c. c || is_end s.statement) f) ∙ e)

pub none_commits : (lines : List Said) → list_any ends lines ≡ false → commits_one lines ≡ false
none_commits [] e = refl
none_commits (s ∷ lines) e = go (ends s) refl e (none_commits lines)
  where
    go : (b : Bool) → ends s ≡ b → (b || list_any ends lines) ≡ false → (list_any ends lines ≡ false → commits_one lines ≡ false) → (is_some (committed s) || commits_one lines) ≡ false
    go true f g more = absurd (false_true (sym g))
    go false f g more = ap (λ o. is_some o || commits_one lines) (committed_ends s f) ∙ more g

pub filter_onto : (q : Said → Bool) (xs es : List Said) → filter q (onto xs es) ≡ onto (filter q xs) (filter q es)
filter_onto q [] es = refl
filter_onto q (x ∷ xs) es = filter_onto q xs (x ∷ es) ∙ go (q x)
  where
    go : (b : Bool) → onto (filter q xs) (cond b (x ∷ filter q es) (filter q es)) ≡ onto (cond b (x ∷ filter q xs) (filter q xs)) (filter q es)
    go true = refl
    go false = refl

pub committed_is : (all : List Said) (now : Said) → is_committed (onto all []) now ≡ is_committed all now
committed_is all now =
    ap commits_one (filter_onto (is_of now.session now.transaction) all [])
    ∙ any_onto (λ (s : Said). is_some (committed s)) (filter (is_of now.session now.transaction) all) [] ∙ or_false (is_committed all now)
  where
    or_false : (b : Bool) → (b || false) ≡ b
    or_false true = refl
    or_false false = refl

-- ---- first writes

pub first_is : (earlier : List Said) (now : Said) → is_some (first_write earlier now) ≡ true → first_write earlier now ≡ Some now
first_is earlier now = go (option_map_or (λ (w : Write). is_none (image_in w.rid (own_writes earlier now))) (stored now) false)
  where
    go : (b : Bool) → is_some (cond b (Some now) None) ≡ true → cond b (Some now) None ≡ Some now
    go true e = refl
    go false e = cc

pub first_isnt : (o : Option Said) → is_some o ≡ false → o ≡ None
first_isnt None e = refl
first_isnt (Some s) e = cc

pub firsts_next : (earlier : List Said) (now : Said) (b : Bool) → b ≡ is_some (first_write earlier now) → firsts (now ∷ earlier) ≡ cond b (now ∷ firsts earlier) (firsts earlier)
firsts_next earlier now true e = ap (λ o. cons_option o (firsts earlier)) (first_is earlier now (sym e))
firsts_next earlier now false e = ap (λ o. cons_option o (firsts earlier)) (first_isnt (first_write earlier now) (sym e))

pub firsts_onto : (xs earlier : List Said) → firsts (onto xs earlier) ≡ onto (first_writes_from earlier xs) (firsts earlier)
firsts_onto [] earlier = refl
firsts_onto (x ∷ xs) earlier = firsts_onto xs (x ∷ earlier) ∙ go (first_write earlier x)
  where
    go : (o : Option Said) → onto (first_writes_from (x ∷ earlier) xs) (cons_option o (firsts earlier)) ≡ onto (cons_option o (first_writes_from (x ∷ earlier) xs)) (firsts earlier)
    go None = refl
    go (Some s) = refl

pub length_onto : {X : Type 0} (xs ys : List X) → length (onto xs ys) ≡ length xs + length ys
length_onto [] ys = omega arith
length_onto (x ∷ xs) ys = length_onto xs (x ∷ ys) ∙ omega arith

pub firsts_few : (earlier : List Said) → length (firsts earlier) ≤ length earlier
firsts_few [] = omega arith
firsts_few (now ∷ earlier) = go (first_write earlier now) (firsts_few earlier)
  where
    go : (o : Option Said) → length (firsts earlier) ≤ length earlier → length (cons_option o (firsts earlier)) ≤ suc (length earlier)
    go None h = omega (arith, h)
    go (Some s) h = omega (arith, h)

pub filter_few : {X : Type 0} (q : X → Bool) (xs : List X) → length (filter q xs) ≤ length xs
filter_few q [] = omega arith
filter_few q (x ∷ xs) = go (q x) (filter_few q xs)
  where
    go : (b : Bool) → length (filter q xs) ≤ length xs → length (cond b (x ∷ filter q xs) (filter q xs)) ≤ suc (length xs)
    go true h = omega (arith, h)
    go false h = omega (arith, h)

pub filter_head : {X : Type 0} (q : X → Bool) (x : X) (xs : List X) (b c : Bool) → q x ≡ c → length (filter q (cond b (x ∷ xs) xs)) ≡ length (filter q xs) + cond b (cond c 1 0) 0
filter_head q x xs false c e = omega arith
filter_head q x xs true c e = ap (λ d. length (cond d (x ∷ filter q xs) (filter q xs))) e ∙ go c
  where
    go : (c : Bool) → length (cond c (x ∷ filter q xs) (filter q xs)) ≡ length (filter q xs) + cond c 1 0
    go true = omega arith
    go false = omega arith

-- ---- counts that lines bound

pub one_more : (n m r limit : ℕ) (b : Bool) → r ≡ min (n + m) 18446744073709551615 → m ≡ from_bool b → n ≤ limit → limit < 4611686018427387904 → r ≡ n + cond b 1 0
one_more n m r limit true e f low small = omega (arith, e, f, low, small)
one_more n m r limit false e f low small = omega (arith, e, f, low, small)

pub its_more : (n k r limit its : ℕ) (b : Bool) → r ≡ min (n + k) 18446744073709551615 → k ≡ its + cond b 1 0 → n ≤ limit → its ≤ limit → limit < 4611686018427387904 → r ≡ n + (its + cond b 1 0)
its_more n k r limit its true e f low least small = omega (arith, e, f, low, least, small)
its_more n k r limit its false e f low least small = omega (arith, e, f, low, least, small)
