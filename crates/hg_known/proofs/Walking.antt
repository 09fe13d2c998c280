-- Lines gone over one after the other.
use Rattle.std.proofs.Common.{◌≡◌, ℕ, zero, suc, ◌+◌, ◌<◌, ◌≤◌, List, [], ◌∷◌, ◌++◌, length, map, take, drop, get_or, Bool, true, false, Option, Some, None, refl, sym, ap, ◌∙◌, subst, arith}
use Rattle.std.specs.Prelude.{◌==◌, ◌||◌, option_map, max, nat_lt}
use Rattle.std.specs.List.{list_any, cons_option}
use Rattle.std.proofs.lemmas.Bool.Decides.{Decides-eqb}
use Rattle.std.proofs.lemmas.Bool.{ltb-true, ltb-false}
use Rattle.hg_base.specs.Lists.{Each, EachAfter, onto, greatest}
use Rattle.hg_base.specs.History.{Commit}
use Rattle.hg_base.specs.Transcript.{Said, committed, commit_by, commit_of, commits, commits_from, history_of}
use Rattle.hg_base.specs.Sound.{IsWhole}
use Rattle.hg_base.proofs.ListFacts.{cases, each_snoc, append_nil, each_after_snoc}
use Rattle.hg_base.proofs.Growth.{commits_from_snoc}
use Rattle.hg_known.specs.Commits.{IsFit, AreApart, AllApart, AreCommits, has_number}
use Rattle.hg_known.specs.declared.history.Commits as kept
use Rattle.hg_known.specs.Written.{IsOfHistory}
use Rattle.hg_known.specs.Shown.{Shows, Fits, printed}
use Rattle.hg_known.proofs.Reading.{onto_push}
use Rattle.hg_known.proofs.Whole.{whole_of, history_writes}

-- where line k is `now`: the lines up to it, and all lines
pub record AtLine {X : Type 0} (xs : List X) (k : ℕ) (now : X) : Type 0 where
  pub up_to : take (k + 1) xs ≡ take k xs ++ now ∷ []
  pub all : xs ≡ take k xs ++ now ∷ drop (k + 1) xs

pub take_suc : {X : Type 0} (xs : List X) (k : ℕ) (now : X) → k < length xs → now ≡ get_or xs k now → (take (suc k) xs ≡ take k xs ++ now ∷ []) × (xs ≡ take k xs ++ now ∷ drop (suc k) xs)
take_suc [] k now less e = absurd (omega (arith, less))
take_suc (x ∷ xs) zero now less e = (ap (λ y. y ∷ []) (sym e), ap (λ y. y ∷ xs) (sym e))
take_suc (x ∷ xs) (suc k) now less e =
    let more : k < length xs = omega (arith, less) in
    let here = take_suc xs k now more e in
    (ap (λ ys. x ∷ ys) here.0, ap (λ ys. x ∷ ys) here.1)

pub at_line : {X : Type 0} (xs : List X) (k : ℕ) (now : X) → k < length xs → now ≡ get_or xs k now → AtLine xs k now
at_line xs k now less e =
    let here = take_suc xs k now less e in
    let plus : suc k ≡ k + 1 = omega arith in
    record { up_to = ap (λ n. take n xs) (sym plus) ∙ here.0; all = here.1 ∙ ap (λ n. take k xs ++ now ∷ drop n xs) plus }

-- where a reader stands at line k, the line that it reads
pub at_reader : (reader : ℕ × List Said) (xs : List Said) (k : ℕ) (now : Said) → reader ≡ (k, xs) → k < length xs → now ≡ get_or reader.1 reader.0 now → AtLine xs k now
at_reader reader xs k now e less is = at_line xs k now less (is ∙ (λ i. get_or (e i).1 (e i).0 now))

pub reader_next : (old new : ℕ × List Said) (xs : List Said) (k : ℕ) → old ≡ (k, xs) → new ≡ (old.0 + 1, old.1) → new ≡ (k + 1, xs)
reader_next old new xs k e is = is ∙ (λ i. ((e i).0 + 1, (e i).1))

-- the lines so far, newest first
abbrev pub earlier_at : {X : Type 0} → List X → ℕ → List X
earlier_at xs k = onto (take k xs) []

pub earlier_next : {X : Type 0} (xs : List X) (k : ℕ) (now : X) → AtLine xs k now → earlier_at xs (k + 1) ≡ now ∷ earlier_at xs k
earlier_next xs k now at = ap (λ ys. onto ys []) at.up_to ∙ onto_push (take k xs) [] now

pub take_all : {X : Type 0} (xs : List X) (k : ℕ) → length xs ≤ k → take k xs ≡ xs
take_all [] zero h = refl
take_all [] (suc k) h = refl
take_all (x ∷ xs) zero h = absurd (omega (arith, h))
take_all (x ∷ xs) (suc k) h = let less : length xs ≤ k = omega (arith, h) in ap (λ ys. x ∷ ys) (take_all xs k less)

-- ---- commits so far

-- each fits those before it
pub record Fine (ps : List (ℕ × Commit)) : Type 0 where
  pub fit : Each IsFit ps
  pub apart : AllApart ps

pub apart_push : (ps : List (ℕ × Commit)) (p : ℕ × Commit) → AllApart ps → Each (λ q. AreApart q p) ps → AllApart (ps ++ p ∷ [])
apart_push [] p a h = (tt, tt)
apart_push (q ∷ qs) p a h = (each_snoc (AreApart q) qs p a.0 h.0, apart_push qs p a.1 h.1)

pub fine_push : (ps : List (ℕ × Commit)) (p : ℕ × Commit) → Fine ps → Fits ps p → Fine (ps ++ p ∷ [])
fine_push ps p f h = record { fit = each_snoc IsFit ps p f.fit h.0; apart = apart_push ps p f.apart h.1 }

pub each_right : {X : Type 0} (P : X → Type 0) (xs ys : List X) → Each P (xs ++ ys) → Each P ys
each_right P [] ys h = h
each_right P (x ∷ xs) ys h = each_right P xs ys h.1

pub fits_there : (ps rest : List (ℕ × Commit)) (p : ℕ × Commit) → AllApart (ps ++ p ∷ rest) → Each (λ q. AreApart q p) ps
fits_there [] rest p h = tt
fits_there (q ∷ qs) rest p h = ((each_right (AreApart q) qs (p ∷ rest) h.0).0, fits_there qs rest p h.1)

pub commits_append : (earlier xs ys : List Said) → commits_from earlier (xs ++ ys) ≡ commits_from earlier xs ++ commits_from (onto xs earlier) ys
commits_append earlier [] ys = refl
commits_append earlier (x ∷ xs) ys = ap (cons_option (commit_of earlier x)) (commits_append (x ∷ earlier) xs ys) ∙ go (commit_of earlier x)
  where
    go : (o : Option (ℕ × Commit)) → cons_option o (commits_from (x ∷ earlier) xs ++ commits_from (onto xs (x ∷ earlier)) ys) ≡ cons_option o
        (commits_from (x ∷ earlier) xs) ++ commits_from (onto xs (x ∷ earlier)) ys
    go None = refl
    go (Some p) = refl

-- a line that prints none, and one that prints one
pub commits_same : (xs : List Said) (k : ℕ) (now : Said) → AtLine xs k now → committed now ≡ None → commits (take k xs) ≡ commits (take (k + 1) xs)
commits_same xs k now at e = sym (ap commits at.up_to ∙ commits_from_snoc [] (take k xs) now ∙
    ap (λ o. commits (take k xs) ++ cons_option (option_map (λ c. (c, commit_by (earlier_at xs k) now)) o) []) e ∙ append_nil (commits (take k xs)))

pub commits_more : (xs : List Said) (k : ℕ) (now : Said) (n : ℕ) → AtLine xs k now → committed now ≡ Some n → commits (take k xs) ++ printed n (earlier_at xs k) now ∷ [] ≡ commits (take (k + 1) xs)
commits_more xs k now n at e = sym (ap commits at.up_to ∙ commits_from_snoc [] (take k xs) now ∙
    ap (λ o. commits (take k xs) ++ cons_option (option_map (λ c. (c, commit_by (earlier_at xs k) now)) o) []) e)

-- ---- the numbers

pub greatest_there : (ps : List (ℕ × Commit)) → 0 < greatest (map (λ (p : ℕ × Commit). p.0) ps) → has_number (greatest (map (λ (p : ℕ × Commit). p.0) ps)) ps
greatest_there [] h = absurd (omega (arith, h))
greatest_there (p ∷ ps) h = cases (nat_lt p.0 top)
    (λ e. let k : p.0 < top = ltb-true p.0 top e in
    let is : max p.0 top ≡ top = omega (arith, k) in
    let some : 0 < top = omega (arith, k) in
    subst (λ m. has_number m (p ∷ ps)) (sym is) (or_later (p.0 == top) (list_any (λ (q : ℕ × Commit). q.0 == top) ps) (greatest_there ps some)))
    (λ e. let k : top ≤ p.0 = ltb-false p.0 top e in
    let is : max p.0 top ≡ p.0 = omega (arith, k) in
    subst (λ m. has_number m (p ∷ ps)) (sym is) (ap (λ b. b || list_any (λ (q : ℕ × Commit). q.0 == p.0) ps) ((Decides-eqb p.0 p.0).1 refl)))
  where
    top : ℕ
    top = greatest (map (λ (p : ℕ × Commit). p.0) ps)

    or_later : (a b : Bool) → b ≡ true → (a || b) ≡ true
    or_later true b e = refl
    or_later false b e = e

pub all_numbers : (ps : List (ℕ × Commit)) → Fine ps → ((n : ℕ) → 1 ≤ n → n < greatest (map (λ (p : ℕ × Commit). p.0) ps) → has_number n ps) → AreCommits ps
all_numbers ps f h = record {
  fit = f.fit;
  apart = f.apart;
  every = λ n j k. cases (nat_lt n (greatest (map (λ (p : ℕ × Commit). p.0) ps)))
      (λ e. h n j (ltb-true n (greatest (map (λ (p : ℕ × Commit). p.0) ps)) e))
      (λ e. let over : greatest (map (λ (p : ℕ × Commit). p.0) ps) ≤ n = ltb-false n (greatest (map (λ (p : ℕ × Commit). p.0) ps)) e in
      let is : greatest (map (λ (p : ℕ × Commit). p.0) ps) ≡ n = omega (arith, over, k) in
      let some : 0 < greatest (map (λ (p : ℕ × Commit). p.0) ps) = omega (arith, is, j) in
      subst (λ m. has_number m ps) is (greatest_there ps some));
}

-- ---- all lines

pub history_is : (xs : List Said) (c : kept.Commits) (k : ℕ) → Shows c (commits xs) → Fine (commits xs) → ((n : ℕ) → 1 ≤ n → n < k → has_number n (commits xs)) → c.greatest ≤ k →
    IsWhole xs × IsOfHistory (history_of xs) c.writes
history_is xs c k shows fine every over =
    let top = shows.greatest in
    let are : AreCommits (commits xs) = all_numbers (commits xs) fine (λ n low high. every n low (omega (arith, high, top, over))) in
    (whole_of xs are, λ r n. shows.writes r n ∙ sym (history_writes xs are r n))

-- ---- what holds of each line

pub each_more : (P : List Said → Said → Type 0) (xs : List Said) (k : ℕ) (now : Said) → AtLine xs k now → EachAfter P [] (take k xs) → P (earlier_at xs k) now → EachAfter P [] (take (k + 1) xs)
each_more P xs k now at h p = subst (EachAfter P []) (sym at.up_to) (each_after_snoc P [] (take k xs) now h p)

pub each_all : (P : List Said → Said → Type 0) (xs : List Said) (k : ℕ) → length xs ≤ k → EachAfter P [] (take k xs) → EachAfter P [] xs
each_all P xs k over h = subst (EachAfter P []) (take_all xs k over) h

-- the line that a reader at line k reads
pub read_item : (reader : ℕ × List Said) (xs : List Said) (k : ℕ) (now : Said) → reader ≡ (k, xs) → now ≡ get_or reader.1 reader.0 now → now ≡ get_or xs k now
read_item reader xs k now e is = is ∙ (λ i. get_or (e i).1 (e i).0 now)
