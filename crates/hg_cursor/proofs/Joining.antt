-- The rows of all fetches are a prefix of the scan.
use Rattle.std.proofs.Common.{◌≡◌, ℕ, suc, ◌+◌, ◌<◌, ◌≤◌, ◌⊎◌, inl, inr, List, [], ◌∷◌, ◌++◌, map, length, Option, Some, None, sym, ◌∙◌, subst, arith, append_assoc}
use Rattle.std.specs.Prelude.{◌==◌, nat_le, nat_lt, IsTrue, if◌then◌else◌}
use Rattle.std.specs.List.{list_any}
use Rattle.std.proofs.lemmas.Bool.Decides.{nat_tests}
use Rattle.hg_base.specs.declared.image.Image.{Image}
use Rattle.hg_base.specs.Lists.{Each, Ascends}
use Rattle.hg_base.specs.Replies.{AreRows, AreFirst}
use Rattle.hg_base.proofs.ListFacts.{cases, each_append, each_keeps, any_more, append_nil}
use Rattle.hg_base.specs.Transcript.{last_key, passed}
use Rattle.hg_rule.specs.Facts.{StartsWith}
use Rattle.hg_cursor.specs.Keys.{Rows}
use Rattle.hg_cursor.specs.Given.{begins_at, key_after, goes_on, AreFirstOf, Fetched, joined, AreGiven}
use Rattle.hg_cursor.proofs.Rows.{key_of, any_later}
use Rattle.hg_cursor.proofs.Uniqueness.{rest_rows, rows_over, same_rows}
use Rattle.hg_cursor.proofs.Cutting.{last_of}

-- ---- two ranges, one after the other

ascends_append : (xs ys : Rows) (m : ℕ) → Ascends (map key_of xs) → Ascends (map key_of ys) → Each (λ p. p.0 ≤ m) xs → Each (λ p. m + 1 ≤ p.0) ys → Ascends (map key_of (xs ++ ys))
ascends_append [] ys m a b c d = b
ascends_append (x ∷ []) [] m a b c d = tt
ascends_append (x ∷ []) (y ∷ ys) m a b c d = (let l = c.0 in let k = d.0 in omega (arith, l, k), b)
ascends_append (x ∷ z ∷ xs) ys m a b c d = (a.0, ascends_append (z ∷ xs) ys m a.1 b c.1 d)

pub join : (look : ℕ → Image) (low m high : ℕ) (xs ys : Rows) → low ≤ m + 1 → m ≤ high → AreRows look low m xs → AreRows look (m + 1) high ys → AreRows look low high (xs ++ ys)
join look low m high xs ys from to a b = record {
  ascend = ascends_append xs ys m a.ascend b.ascend (each_keeps _ (λ p. p.0 ≤ m) (λ p q. q.1) xs a.each) (each_keeps _ (λ p. m + 1 ≤ p.0) (λ p q. q.0) ys b.each);
  each = each_append _ xs ys
      (each_keeps _ (λ p. (low ≤ p.0) × (p.0 ≤ high) × ((look p.0).row ≡ Some p.1)) (λ p q. (q.0, (let l = q.1 in omega (arith, l, to)), q.2)) xs a.each)
      (each_keeps _ (λ p. (low ≤ p.0) × (p.0 ≤ high) × ((look p.0).row ≡ Some p.1)) (λ p q. ((let l = q.0 in omega (arith, l, from)), q.1, q.2)) ys b.each);
  every = λ key l h. cases (nat_le key m)
      (λ t. let under : key ≤ m = grind (arith, nat_tests, t) in before key (a.every key l under))
      (λ f. let over : m + 1 ≤ key = grind (arith, nat_tests, f) in later key (b.every key over h));
}
  where
    before : (key : ℕ) → IsTrue (list_any (λ p. p.0 == key) xs) ⊎ ((look key).row ≡ None) → IsTrue (list_any (λ p. p.0 == key) (xs ++ ys)) ⊎ ((look key).row ≡ None)
    before key (inl t) = inl (any_more (λ p. p.0 == key) xs ys t)
    before key (inr n) = inr n

    later : (key : ℕ) → IsTrue (list_any (λ p. p.0 == key) ys) ⊎ ((look key).row ≡ None) → IsTrue (list_any (λ p. p.0 == key) (xs ++ ys)) ⊎ ((look key).row ≡ None)
    later key (inl t) = inl (any_later (λ p. p.0 == key) xs ys t)
    later key (inr n) = inr n

-- ---- one fetch more

-- what was passed is not before the range
passed_over : (look : ℕ → Image) (n low high : ℕ) (rows : Rows) → 0 < n → low ≤ high → AreFirst look n low high rows → low ≤ passed n high rows
passed_over look n low high rows some le a = cases (nat_lt (length rows) n)
    (λ t. subst (λ b. low ≤ (if b then high else last_key high rows)) (sym t) le)
    (λ f.
    let long : 0 < length rows = grind (arith, nat_tests, f, some) in
    subst (λ b. low ≤ (if b then high else last_key high rows)) (sym f) (last_of (λ k. low ≤ k) high rows long (each_keeps _ (λ p. low ≤ p.0) (λ p q. q.0) rows a.all.each)))

given_on : (look : ℕ → Image) (n low high next : ℕ) (given rows : Rows) → 0 < n → AreGiven look low high (Some next) given → AreFirst look n next high rows →
    AreGiven look low high (key_after high (passed n high rows)) (given ++ rows)
given_on look n low high next given rows some g a = cases (nat_lt (passed n high rows) high)
    (λ t.
    let less : passed n high rows < high = grind (arith, nat_tests, t) in
    let over = passed_over look n next high rows some g.1 a in
    let from = g.0 in
    let there : AreGiven look low high (Some (passed n high rows + 1)) (given ++ rows) = (
      omega (arith, over, from),
      omega (arith, less),
      λ rest r. subst (AreRows look low high) (sym (append_assoc given rows rest)) (g.2 (rows ++ rest) (join look next (passed n high rows) high rows rest (omega (arith, over)) a.within a.all r)),
    ) in
    subst (λ b. AreGiven look low high (if b then Some (passed n high rows + 1) else None) (given ++ rows)) (sym t) there)
    (λ f.
    let within = a.within in
    let all : passed n high rows ≡ high = grind (arith, nat_tests, f, within) in
    let there : AreGiven look low high None (given ++ rows) = g.2 rows (subst (λ m. AreRows look next m rows) all a.all) in
    subst (λ b. AreGiven look low high (if b then Some (passed n high rows + 1) else None) (given ++ rows)) (sym f) there)

given_first : (look : ℕ → Image) (n low high : ℕ) (from : Option ℕ) (given rows : Rows) → 0 < n → AreGiven look low high from given → AreFirstOf look n from high rows →
    AreGiven look low high (goes_on n high rows from) (given ++ rows)
given_first look n low high None given rows some g a = subst (λ r. AreRows look low high (given ++ r)) (sym a) (subst (AreRows look low high) (sym (append_nil given)) g)
given_first look n low high (Some next) given rows some g a = given_on look n low high next given rows some g a

pub given_all : (look : ℕ → Image) (low high : ℕ) (from rest : Option ℕ) (given : Rows) (fetches : List (ℕ × Rows)) → AreGiven look low high from given →
    Fetched look high from fetches rest → AreGiven look low high rest (given ++ joined fetches)
given_all look low high from rest given [] g e = subst (λ o. AreGiven look low high o (given ++ [])) (sym e) (subst (AreGiven look low high from) (sym (append_nil given)) g)
given_all look low high from rest given (f ∷ fetches) g e =
    subst (AreGiven look low high rest) (append_assoc given f.1 (joined fetches))
    (given_all look low high (goes_on f.0 high f.1 from) rest (given ++ f.1) fetches (given_first look f.0 low high from given f.1 e.0 g e.1) e.2)

pub given_none : (look : ℕ → Image) (low high : ℕ) → AreGiven look low high (begins_at low high) []
given_none look low high = cases (nat_le low high)
    (λ t.
    let le : low ≤ high = grind (arith, nat_tests, t) in
    let there : AreGiven look low high (Some low) [] = (omega arith, le, λ rest r. r) in
    subst (λ b. AreGiven look low high (if b then Some low else None) []) (sym t) there)
    (λ f.
    let over : high < low = grind (arith, nat_tests, f) in
    let there : AreGiven look low high None [] = record { ascend = tt; each = tt; every = λ key l h. absurd (omega (arith, over, l, h)) } in
    subst (λ b. AreGiven look low high (if b then Some low else None) []) (sym f) there)

-- ---- what was returned is a prefix of the scan

-- the rows from a key on
abbrev from_key : ℕ → Rows → Rows
from_key k [] = []
from_key k (p ∷ rows) = if nat_le k p.0 then p ∷ rows else from_key k rows

rows_from : (look : ℕ → Image) (low high k : ℕ) (rows : Rows) → low ≤ k → AreRows look low high rows → AreRows look k high (from_key k rows)
rows_from look low high k [] le a = record { ascend = tt; each = tt; every = λ key l h. a.every key (omega (arith, le, l)) h }
rows_from look low high k (p ∷ rows) le a = cases (nat_le k p.0)
    (λ t.
    let here : k ≤ p.0 = grind (arith, nat_tests, t) in
    let there : AreRows look k high (p ∷ rows) = record {
      ascend = a.ascend;
      each = ((here, a.each.0.1, a.each.0.2), both rows here (rows_over p.0 rows a.ascend) a.each.1);
      every = λ key l h. a.every key (omega (arith, le, l)) h;
    } in
    subst (λ b. AreRows look k high (if b then p ∷ rows else from_key k rows)) (sym t) there)
    (λ f.
    let under : suc p.0 ≤ k = grind (arith, nat_tests, f) in
    subst (λ b. AreRows look k high (if b then p ∷ rows else from_key k rows)) (sym f) (rows_from look (suc p.0) high k rows under (rest_rows look low high p rows a)))
  where
    both : (xs : Rows) → k ≤ p.0 → Each (λ q. suc p.0 ≤ q.0) xs → Each (λ q. (low ≤ q.0) × (q.0 ≤ high) × ((look q.0).row ≡ Some q.1)) xs →
        Each (λ q. (k ≤ q.0) × (q.0 ≤ high) × ((look q.0).row ≡ Some q.1)) xs
    both [] here l e = tt
    both (x ∷ xs) here l e = ((let o = l.0 in omega (arith, here, o), e.0.1, e.0.2), both xs here l.1 e.1)

pub given_begins : (look : ℕ → Image) (low high : ℕ) (rest : Option ℕ) (given all : Rows) → AreGiven look low high rest given → AreRows look low high all → StartsWith all given
given_begins look low high None given all g a = ([], same_rows look low high all given a g ∙ sym (append_nil given))
given_begins look low high (Some next) given all g a =
    let rest = from_key next all in
    (rest, same_rows look low high all (given ++ rest) a (g.2 rest (rows_from look low high next all g.0 a)))

pub given_whole : (look : ℕ → Image) (low high : ℕ) (given all : Rows) → AreGiven look low high None given → AreRows look low high all → given ≡ all
given_whole look low high given all g a = same_rows look low high given all g a
