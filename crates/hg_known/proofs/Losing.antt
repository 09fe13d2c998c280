-- Commits that lose no update, record by record and line by line.
use Rattle.std.proofs.Common.{◌≡◌, ℕ, ◌+◌, ◌<◌, ◌≤◌, List, [], ◌∷◌, ◌++◌, length, take, drop, cond, Bool, true, false, Option, Some, None, refl, sym, ap, ◌∙◌, subst}
use Rattle.std.specs.Prelude.{IsSome, IfSome, option_map}
use Rattle.std.specs.List.{cons_option}
use Rattle.std.specs.declared.cmp.Ordering.{Ordering}
use Rattle.std.specs.declared.cmp.Ordering.TheVariants.{Less, Equal, Greater}
use Rattle.std.specs.Ordering.{ordering_reverse, is_eq, is_gt, is_lt}
use Rattle.hg_base.specs.declared.rid.Rid.{Rid}
use Rattle.hg_base.specs.declared.image.Image.{Image}
use Rattle.hg_base.specs.RidOrder.{rid_cmp}
use Rattle.hg_base.specs.Lists.{Each}
use Rattle.hg_base.specs.History.{NoLostUpdate, same_rid}
use Rattle.hg_base.specs.Transcript.{Said, committed, commit_by, commits, commits_from, history_of}
use Rattle.hg_base.specs.Sound.{IsWhole}
use Rattle.hg_base.proofs.RidOrder.{rids_total, at_rid}
use Rattle.hg_base.proofs.HistoryFacts.{same_rid_equal}
use Rattle.hg_base.proofs.ListFacts.{each_snoc, false_true}
use Rattle.hg_known.proofs.SlotOrder.{none_if}
use Rattle.hg_known.specs.declared.own.Spot.{Spot}
use Rattle.hg_known.specs.declared.writes.Slot.{Slot}
use Rattle.hg_known.specs.Written.{image_at, IsOfHistory}
use Rattle.hg_known.specs.Owned.{own_at, HasOwn, IsNextOwn, IsNextAfter}
use Rattle.hg_known.specs.Commits.{image_of, LosesNone}
use Rattle.hg_known.specs.Shown.{printed}
use Rattle.hg_known.proofs.Joining.{before, first_joining, none_between, from_least}
use Rattle.hg_known.proofs.Showing.{stored_is, is_not_none}
use Rattle.hg_known.proofs.Walking.{AtLine, earlier_at, commits_same, commits_more, commits_append, each_right, take_all}
use Rattle.hg_known.proofs.Whole.{commits_of, history_writes}
use Rattle.hg_known.proofs.Overwrites.{kept_of, of_kept}

-- ---- the records of one commit

-- P holds of each record that the transaction stored before the next
pub record Going (own : List (Spot × Image)) (j : ℕ) (x : ℕ) (P : Rid → Type 0) (found : Option Rid) : Type 0 where
  pub each : (q : Rid) → before found q ≡ true → IsSome (own_at own j x q) → P q
  pub here : IfSome found (λ r. IsSome (own_at own j x r))

pub going_first : (own : List (Spot × Image)) (j x : ℕ) (P : Rid → Type 0) (found : Option Rid) → IsNextOwn own j x (record { table = record { 0 = 0 }; key = 0 }) found → Going own j x P found
going_first own j x P found next =
    let joining = first_joining own j x 0 [] found next in
    record { each = λ q e s. absurd (none found next q e s); here = joining.here }
  where
    none : (found : Option Rid) → IsNextOwn own j x (record { table = record { 0 = 0 }; key = 0 }) found → (q : Rid) → before found q ≡ true → IsSome (own_at own j x q) → ⊥
    none None next q e s = is_not_none (own_at own j x q) (next q (from_least q)) s
    none (Some r) next q e s = back (rid_cmp q r) e (ap is_gt (sym (rids_total.antisymm r q)) ∙ next.2 q (from_least q) s)
      where
        back : (o : Ordering) → is_lt o ≡ true → is_gt (ordering_reverse o) ≡ false → ⊥
        back Less l g = cc
        back Equal l g = cc
        back Greater l g = cc

pub going_on : (own : List (Spot × Image)) (j x : ℕ) (P : Rid → Type 0) (r : Rid) (found : Option Rid) → Going own j x P (Some r) → P r → IsNextAfter own j x r found → Going own j x P found
going_on own j x P r found h p next = record { each = λ q e s. go q (rid_cmp r q) refl e s; here = here found next }
  where
    here : (found : Option Rid) → IsNextAfter own j x r found → IfSome found (λ s. IsSome (own_at own j x s))
    here None next = tt
    here (Some s) next = next.1

    go : (q : Rid) (o : Ordering) → rid_cmp r q ≡ o → before found q ≡ true → IsSome (own_at own j x q) → P q
    go q Less f e s = absurd (is_not_none (own_at own j x q) (none_between own j x r found next q f e) s)
    go q Equal f e s = subst P (same_rid_equal r q (sym (at_rid r q) ∙ ap is_eq f)) p
    go q Greater f e s = h.each q (ap is_lt (rids_total.antisymm q r ∙ ap ordering_reverse f)) s

-- of what the transaction stored, nothing stands before the next
abbrev pub Left : List (Spot × Image) → ℕ → ℕ → Option Rid → Type 0
Left own j x found = (q : Rid) → before found q ≡ true → own_at own j x q ≡ None

pub left_first : (own : List (Spot × Image)) (j x : ℕ) (found : Option Rid) → IsNextOwn own j x (record { table = record { 0 = 0 }; key = 0 }) found → Left own j x found
left_first own j x found next q e = none_if (own_at own j x q) (λ s. (going_first own j x (λ r. ⊥) found next).each q e s)

pub left_on : (old new : List (Spot × Image)) (j x : ℕ) (r : Rid) (found : Option Rid) → ((q : Rid) → own_at new j x q ≡ cond (same_rid r q) None (own_at old j x q)) →
    IsNextAfter old j x r found → Left old j x (Some r) → Left new j x found
left_on old new j x r found is next h q e = is q ∙ go (same_rid r q) refl
  where
    by : (o : Ordering) → rid_cmp r q ≡ o → same_rid r q ≡ false → own_at old j x q ≡ None
    by Less f d = none_between old j x r found next q f e
    by Equal f d = absurd (false_true (sym d ∙ sym (at_rid r q) ∙ ap is_eq f))
    by Greater f d = h q (ap is_lt (rids_total.antisymm q r ∙ ap ordering_reverse f))

    go : (b : Bool) → same_rid r q ≡ b → cond b None (own_at old j x q) ≡ None
    go true d = refl
    go false d = by (rid_cmp r q) refl d

-- ---- line by line

-- what is asked of the commit of a line, where `own` is what was stored up to it
abbrev pub LineKeeps : List (Spot × Image) → List (Slot × Image) → Said → ℕ → Type 0
LineKeeps own writes now n = (r : Rid) → IsSome (own_at own now.session now.transaction r) → (m : ℕ) → now.at < m → m < n → image_at writes r m ≡ None

module _ (xs : List Said) (writes : List (Slot × Image)) (whole : IsWhole xs) (shows : IsOfHistory (history_of xs) writes) where
  pub written_is : (r : Rid) (n : ℕ) → image_at writes r n ≡ image_of (commits xs) r n
  written_is r n = shows r n ∙ history_writes xs (commits_of xs whole) r n

  pub line_loses : (own : List (Spot × Image)) (earlier : List Said) (now : Said) (n : ℕ) → HasOwn own (now ∷ earlier) now → LineKeeps own writes now n → LosesNone (commits xs) (printed n earlier now)
  line_loses own earlier now n is keeps r s m over below = sym (written_is r m) ∙ keeps r (subst IsSome (sym (stored_is own earlier now is n r)) s) m over below

  pub loses_line : (own : List (Spot × Image)) (earlier : List Said) (now : Said) (n : ℕ) → HasOwn own (now ∷ earlier) now → LosesNone (commits xs) (printed n earlier now) → LineKeeps own writes now n
  loses_line own earlier now n is none r s m over below = written_is r m ∙ none r (subst IsSome (stored_is own earlier now is n r) s) m over below

  -- the commits so far lose nothing
  abbrev pub SoFar : ℕ → Type 0
  SoFar k = Each (LosesNone (commits xs)) (commits (take k xs))

  pub so_far_same : (k : ℕ) (now : Said) → AtLine xs k now → committed now ≡ None → SoFar k → SoFar (k + 1)
  so_far_same k now at e h = subst (Each (LosesNone (commits xs))) (commits_same xs k now at e) h

  pub so_far_more : (k : ℕ) (now : Said) (n : ℕ) (own : List (Spot × Image)) → AtLine xs k now → committed now ≡ Some n → HasOwn own (now ∷ earlier_at xs k) now →
      LineKeeps own writes now n → SoFar k → SoFar (k + 1)
  so_far_more k now n own at e is keeps h = subst (Each (LosesNone (commits xs))) (commits_more xs k now n at e)
      (each_snoc (LosesNone (commits xs)) (commits (take k xs)) (printed n (earlier_at xs k) now) h (line_loses own (earlier_at xs k) now n is keeps))

  pub all_kept : (k : ℕ) → length xs ≤ k → SoFar k → NoLostUpdate (history_of xs)
  all_kept k over h = kept_of xs (commits_of xs whole) (subst (λ ys. Each (LosesNone (commits xs)) (commits ys)) (take_all xs k over) h)

  pub one_lost : (k : ℕ) (now : Said) (n : ℕ) (own : List (Spot × Image)) → AtLine xs k now → committed now ≡ Some n → HasOwn own (now ∷ earlier_at xs k) now →
      (LineKeeps own writes now n → ⊥) → NoLostUpdate (history_of xs) → ⊥
  one_lost k now n own at e is f kept =
      let rest = commits_from (now ∷ earlier_at xs k) (drop (k + 1) xs) in
      let split : commits xs ≡ commits (take k xs) ++ printed n (earlier_at xs k) now ∷ rest = ap commits at.all ∙ commits_append [] (take k xs) (now ∷ drop (k + 1) xs) ∙
      ap (λ o. commits (take k xs) ++ cons_option (option_map (λ c. (c, commit_by (earlier_at xs k) now)) o) rest) e in
      let each = subst (Each (LosesNone (commits xs))) split (of_kept xs (commits_of xs whole) kept) in
      f (loses_line own (earlier_at xs k) now n is (each_right (LosesNone (commits xs)) (commits (take k xs)) (printed n (earlier_at xs k) now ∷ rest) each).0)

  -- the same where it is decided of any line whether its commit, if it prints one, loses none
  pub line_keeps : (k : ℕ) (now : Said) (own : List (Spot × Image)) → AtLine xs k now → HasOwn own (now ∷ earlier_at xs k) now → IfSome (committed now) (LineKeeps own writes now) →
      SoFar k → SoFar (k + 1)
  line_keeps k now own at is keeps h = go (committed now) refl keeps
    where
      go : (o : Option ℕ) → committed now ≡ o → IfSome o (LineKeeps own writes now) → SoFar (k + 1)
      go None e keeps = so_far_same k now at e h
      go (Some n) e keeps = so_far_more k now n own at e is keeps h

  pub line_lost : (k : ℕ) (now : Said) (own : List (Spot × Image)) → AtLine xs k now → HasOwn own (now ∷ earlier_at xs k) now →
      (IfSome (committed now) (LineKeeps own writes now) → ⊥) → NoLostUpdate (history_of xs) → ⊥
  line_lost k now own at is f kept = go (committed now) refl f
    where
      go : (o : Option ℕ) → committed now ≡ o → (IfSome o (LineKeeps own writes now) → ⊥) → ⊥
      go None e f = f tt
      go (Some n) e f = one_lost k now n own at e is f kept
