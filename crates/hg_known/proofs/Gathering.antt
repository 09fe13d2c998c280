-- Lines gathered one after the other, and the commits that they print.
use Rattle.std.proofs.Common.{◌≡◌, ℕ, ◌+◌, ◌<◌, ◌≤◌, List, [], ◌∷◌, ◌++◌, length, take, drop, Bool, true, false, Option, Some, None, refl, sym, ap, ◌∙◌, subst, arith}
use Rattle.std.specs.Prelude.{option_map, map, Result, Ok, Err, IfOk, IfSome, IsTrue, ◌↔◌}
use Rattle.std.specs.Bool.{MatchBool}
use Rattle.std.specs.List.{cons_option}
use Rattle.std.specs.BTreeSet.{contains}
use Rattle.std.specs.Ordering.{nat_cmp}
use Rattle.hg_base.specs.declared.fault.NoMemory.{NoMemory}
use Rattle.hg_base.specs.declared.image.Image.{Image}
use Rattle.hg_base.specs.Lists.{greatest, onto}
use Rattle.hg_base.specs.History.{Commit}
use Rattle.hg_base.specs.Transcript.{Said, committed, commit_of, commits, commits_from, history_of}
use Rattle.hg_base.specs.Sound.{IsWhole}
use Rattle.hg_base.proofs.ListFacts.{false_true, append_nil}
use Rattle.hg_base.proofs.Growth.{commits_from_snoc}
use Rattle.hg_known.specs.Commits.{IsFit, AreCommits, has_number}
use Rattle.hg_known.specs.declared.context.Wants.{Wants}
use Rattle.hg_known.specs.declared.gathered.Gathered.{Gathered}
use Rattle.hg_known.specs.declared.history.Commits as kept
use Rattle.hg_known.specs.Gathered.{IsGathered, Gathers}
use Rattle.hg_known.specs.Written.{IsOfHistory}
use Rattle.hg_known.specs.declared.own.Spot.{Spot}
use Rattle.hg_known.specs.Owned.{HasOwn}
use Rattle.hg_known.specs.Shown.{Adds, AddsAny, Shows, Fits, printed}
use Rattle.hg_known.proofs.Walking.{AtLine, Fine, commits_append, each_right, earlier_at, earlier_next, fine_push, fits_there, history_is, take_all}
use Rattle.hg_known.proofs.Whole.{commits_of, history_writes}

-- the commit of a line that prints a number, and of one that prints none
pub some_there : (earlier : List Said) (now : Said) (o : Option ℕ) → committed now ≡ o → commit_of earlier now ≡ option_map (λ n. printed n earlier now) o
some_there earlier now o e = ap (option_map (λ n. printed n earlier now)) e

pub adds_there : (old new : kept.Commits) (now : Said) (n : ℕ) (own : List (Spot × Image)) (result : Result Bool NoMemory) → committed now ≡ Some n →
    IfOk result (λ fits. (earlier : List Said) (ps : List (ℕ × Commit)) → HasOwn own (now ∷ earlier) now → Adds old new ps (printed n earlier now) fits) →
    IfOk result (λ fits. (earlier : List Said) (ps : List (ℕ × Commit)) → HasOwn own (now ∷ earlier) now → Shows old ps → AddsAny new ps (commit_of earlier now) fits)
adds_there old new now n own (Ok fits) e h = λ earlier ps its shows. subst (λ o. AddsAny new ps o fits) (sym (some_there earlier now (Some n) e)) (h earlier ps its shows)
adds_there old new now n own (Err fault) e h = tt

-- a line's commit follows those before it
pub commits_next : (xs : List Said) (k : ℕ) (now : Said) → AtLine xs k now → commits (take (k + 1) xs) ≡ commits (take k xs) ++ cons_option (commit_of (earlier_at xs k) now) []
commits_next xs k now at = ap commits at.up_to ∙ commits_from_snoc [] (take k xs) now

pub fine_next : (ps : List (ℕ × Commit)) (o : Option (ℕ × Commit)) → Fine ps → IfSome o (Fits ps) → Fine (ps ++ cons_option o [])
fine_next ps None fine h = subst Fine (sym (append_nil ps)) fine
fine_next ps (Some p) fine h = fine_push ps p fine h

-- where all commits give a history, each fits those before it
pub fits_before : (ps rest : List (ℕ × Commit)) (o : Option (ℕ × Commit)) → AreCommits (ps ++ cons_option o rest) → IfSome o (Fits ps)
fits_before ps rest None h = tt
fits_before ps rest (Some p) h = ((each_right IsFit ps (p ∷ rest) h.fit).0, fits_there ps rest p h.apart)

pub each_fits : (xs : List Said) (k : ℕ) (now : Said) → AtLine xs k now → IsWhole xs → IfSome (commit_of (earlier_at xs k) now) (Fits (commits (take k xs)))
each_fits xs k now at whole =
    let ps = commits (take k xs) in
    let o = commit_of (earlier_at xs k) now in
    let rest = commits_from (now ∷ earlier_at xs k) (drop (k + 1) xs) in
    let is : commits xs ≡ ps ++ cons_option o rest = ap commits at.all ∙ commits_append [] (take k xs) (now ∷ drop (k + 1) xs) in
    fits_before ps rest o (subst AreCommits is (commits_of xs whole))

-- ---- one line more, and all

pub gathered_next : (xs : List Said) (k : ℕ) (now : Said) (wants : Wants) (new : Gathered) (b : Bool) → AtLine xs k now → Fine (commits (take k xs)) → b ≡ true →
    Gathers wants new (earlier_at xs k) now (commits (take k xs)) b → IsGathered wants new (earlier_at xs (k + 1)) (commits (take (k + 1) xs)) × Fine (commits (take (k + 1) xs))
gathered_next xs k now wants new true at fine is h =
    let more = sym (commits_next xs k now at) in (
      subst (λ ys. IsGathered wants new ys (commits (take (k + 1) xs))) (sym (earlier_next xs k now at)) (subst (IsGathered wants new (now ∷ earlier_at xs k)) more h.0),
      subst Fine more (fine_next (commits (take k xs)) (commit_of (earlier_at xs k) now) fine h.1),
    )
gathered_next xs k now wants new false at fine is h = absurd (false_true is)

pub lost_there : (xs : List Said) (k : ℕ) (now : Said) (wants : Wants) (new : Gathered) (b : Bool) → AtLine xs k now → b ≡ false →
    Gathers wants new (earlier_at xs k) now (commits (take k xs)) b → IsWhole xs → ⊥
lost_there xs k now wants new true at is h whole = false_true (sym is)
lost_there xs k now wants new false at is h whole = h (each_fits xs k now at whole)

pub gathered_all : (xs : List Said) (k : ℕ) (wants : Wants) (g : Gathered) (b : Bool) → length xs ≤ k → IsGathered wants g (earlier_at xs k) (commits (take k xs)) →
    Fine (commits (take k xs)) → ((ps : List (ℕ × Commit)) → Shows g.commits ps → IsTrue b ↔ ((n : ℕ) → 1 ≤ n → n < g.commits.greatest → has_number n ps)) →
    MatchBool b (IsWhole xs × IsGathered wants g (onto xs []) (commits xs)) (IsWhole xs → ⊥)
gathered_all xs k wants g b over h fine each = go b (each (commits xs) shown)
  where
    all : take k xs ≡ xs
    all = take_all xs k over

    there : IsGathered wants g (onto xs []) (commits xs)
    there = subst (λ ys. IsGathered wants g (onto ys []) (commits ys)) all h

    shown : Shows g.commits (commits xs)
    shown = there.shows

    go : (b : Bool) → (IsTrue b ↔ ((n : ℕ) → 1 ≤ n → n < g.commits.greatest → has_number n (commits xs))) →
        MatchBool b (IsWhole xs × IsGathered wants g (onto xs []) (commits xs)) (IsWhole xs → ⊥)
    go true e = ((history_is xs g.commits g.commits.greatest shown (subst (λ ys. Fine (commits ys)) all fine) (e.0 refl) (omega arith)).0, there)
    go false e = λ whole. false_true (e.1 (λ n low high. every n low (omega (arith, high, top)) whole))
      where
        top : g.commits.greatest ≡ greatest (map (λ (p : ℕ × Commit). p.0) (commits xs))
        top = shown.greatest

        every : (n : ℕ) → 1 ≤ n → n ≤ greatest (map (λ (p : ℕ × Commit). p.0) (commits xs)) → IsWhole xs → has_number n (commits xs)
        every n low high whole = (commits_of xs whole).every n low high

-- what the history of all lines writes
pub writes_there : (xs : List Said) (c : kept.Commits) → Shows c (commits xs) → IsWhole xs → IsOfHistory (history_of xs) c.writes
writes_there xs c shows whole r n = shows.writes r n ∙ sym (history_writes xs (commits_of xs whole) r n)

-- ---- the numbers

pub left_out : (ps : List (ℕ × Commit)) (c : kept.Commits) (n : ℕ) → Shows c ps → 1 ≤ n → n < c.greatest → contains nat_cmp c.numbers n ≡ false →
    ((m : ℕ) → 1 ≤ m → m < c.greatest → has_number m ps) → ⊥
left_out ps c n shows low high e h = false_true (sym (sym (shows.numbers n) ∙ e) ∙ h n low high)
