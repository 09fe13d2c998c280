-- No update is lost exactly where no commit loses one.
use Rattle.std.proofs.Common.{◌≡◌, ℕ, suc, ◌<◌, ◌≤◌, ◌⊎◌, inl, inr, List, [], ◌∷◌, Bool, true, false, Option, Some, None, refl, sym, ap, subst, arith}
use Rattle.std.specs.Prelude.{◌==◌, cond, option_map, IsSome, is_some, nat_lt}
use Rattle.std.specs.List.{cons_option}
use Rattle.std.proofs.lemmas.Bool.Decides.{Decides-eqb}
use Rattle.std.proofs.lemmas.Bool.{ltb-true, ltb-false}
use Rattle.hg_base.specs.declared.rid.Rid.{Rid}
use Rattle.hg_base.specs.declared.image.Image.{Image}
use Rattle.hg_base.specs.Lists.{Each}
use Rattle.hg_base.specs.History.{Write, Commit, History, NoLostUpdate, group_from, group_image, image_in, same_rid, writes, writes_from}
use Rattle.hg_base.specs.Transcript.{Said, commits, greatest_commit, history_of, group_of}
use Rattle.hg_base.proofs.ListFacts.{cases, false_true, each_keeps}
use Rattle.hg_base.proofs.HistoryFacts.{same_rid_itself, written_each}
use Rattle.hg_known.specs.Commits.{AreCommits, image_of, LosesNone}
use Rattle.hg_known.proofs.Pairs.{each_group, group_each, none_of_no}
use Rattle.hg_known.proofs.Groups.{below_first}
use Rattle.hg_known.proofs.Whole.{numbered_to, numbered_of, history_writes, each_own, IsNumber, numbers_within, whole_of}

pub is_not_none : (o : Option Image) → o ≡ None → IsSome o → ⊥
is_not_none None e s = false_true s
is_not_none (Some i) e s = cc

-- ---- the numbers that write a record

pub writes_to : (Q : ℕ → Type 0) (r : Rid) (first : ℕ) (h : History) → ((m : ℕ) → IsSome (group_image r (group_from first h m)) → Q m) → Each (λ w. Q w.0) (writes_from first h r)
writes_to Q r first [] f = tt
writes_to Q r first (g ∷ gs) f = go (group_image r g) refl (writes_to Q r (suc first) gs (λ m s. later m s (nat_lt first m) refl))
  where
    later : (m : ℕ) → IsSome (group_image r (group_from (suc first) gs m)) → (b : Bool) → nat_lt first m ≡ b → Q m
    later m s b e = cases (first == m)
        (λ same. absurd (is_not_none (group_image r (group_from (suc first) gs m)) (ap (group_image r) (below_first (suc first) gs m (let q = (Decides-eqb first m).0 same in omega (arith, q)))) s))
        (λ other. f m (subst (λ x. IsSome (group_image r (cond x g (group_from (suc first) gs m)))) (sym other) s))

    here : (i : Image) → group_image r g ≡ Some i → IsSome (group_image r (group_from first (g ∷ gs) first))
    here i e = subst (λ x. IsSome (group_image r (cond x g (group_from (suc first) gs first)))) (sym ((Decides-eqb first first).1 refl)) (ap is_some e)

    go : (o : Option Image) → group_image r g ≡ o → Each (λ w. Q w.0) (writes_from (suc first) gs r) →
        Each (λ w. Q w.0) (cons_option (option_map (λ image. (first, image)) o) (writes_from (suc first) gs r))
    go None e k = k
    go (Some i) e k = (f first (here i e), k)

pub writes_of : (Q : ℕ → Type 0) (r : Rid) (first : ℕ) (h : History) → Each (λ w. Q w.0) (writes_from first h r) → (m : ℕ) → IsSome (group_image r (group_from first h m)) → Q m
writes_of Q r first [] k m s = absurd (false_true s)
writes_of Q r first (g ∷ gs) k m s = go (first == m) refl s (group_image r g) refl k (λ rest some. writes_of Q r (suc first) gs rest m some)
  where
    go : (b : Bool) → (first == m) ≡ b → IsSome (group_image r (cond b g (group_from (suc first) gs m))) → (o : Option Image) → group_image r g ≡ o →
        Each (λ w. Q w.0) (cons_option (option_map (λ image. (first, image)) o) (writes_from (suc first) gs r)) →
        (Each (λ w. Q w.0) (writes_from (suc first) gs r) → IsSome (group_image r (group_from (suc first) gs m)) → Q m) → Q m
    go true same s None e k more = absurd (is_not_none (group_image r g) e s)
    go true same s (Some i) e k more = subst Q ((Decides-eqb first m).0 same) k.0
    go false other s None e k more = more k s
    go false other s (Some i) e k more = more k.1 s

-- ---- the records that a commit writes

pub each_written : (P : Rid → Type 0) (ws : List Write) → ((r : Rid) → IsSome (image_in r ws) → P r) → Each (λ w. P w.rid) ws
each_written P [] f = tt
each_written P (w ∷ ws) f = (
  f w.rid (subst (λ b. IsSome (cond b (Some w.image) (image_in w.rid ws))) (sym (same_rid_itself w.rid)) refl),
  each_written P ws (λ r s. f r (go r (same_rid w.rid r) s)),
)
  where
    go : (r : Rid) (b : Bool) → IsSome (image_in r ws) → IsSome (cond b (Some w.image) (image_in r ws))
    go r true s = refl
    go r false s = s

-- ---- no update is lost

abbrev pub Keeps : History → ℕ → Commit → Type 0
Keeps h n c = Each (λ w. Each (λ other. (other.0 ≤ c.at) ⊎ (n ≤ other.0)) (writes h w.rid)) c.images

pub split : (m at n : ℕ) → (m ≤ at) ⊎ (n ≤ m) → at < m → m < n → ⊥
split m at n (inl k) j l = omega (arith, k, j)
split m at n (inr k) j l = omega (arith, k, l)

pub keeps_of : (all : List Said) → AreCommits (commits all) → (p : ℕ × Commit) → LosesNone (commits all) p → Keeps (history_of all) p.0 p.1
keeps_of all h p none =
    each_written (λ r. Each (λ other. (other.0 ≤ p.1.at) ⊎ (p.0 ≤ other.0)) (writes (history_of all) r)) p.1.images
    (λ r s. writes_to (λ m. (m ≤ p.1.at) ⊎ (p.0 ≤ m)) r 1 (history_of all) (λ m some. cases (nat_lt p.1.at m)
    (λ over. cases (nat_lt m p.0)
    (λ below. absurd (is_not_none (image_of (commits all) r m) (none r s m (ltb-true p.1.at m over) (ltb-true m p.0 below)) (subst IsSome (history_writes all h r m) some)))
    (λ e. inr (ltb-false m p.0 e)))
    (λ e. inl (ltb-false p.1.at m e))))

pub of_keeps : (all : List Said) → AreCommits (commits all) → (p : ℕ × Commit) → Keeps (history_of all) p.0 p.1 → LosesNone (commits all) p
of_keeps all h p k r s m over below =
    cases (is_some (image_of (commits all) r m))
    (λ some. let each = written_each (λ q. Each (λ other. (other.0 ≤ p.1.at) ⊎ (p.0 ≤ other.0)) (writes (history_of all) q)) p.1.images r k s in
    absurd (split m p.1.at p.0 (writes_of (λ m. (m ≤ p.1.at) ⊎ (p.0 ≤ m)) r 1 (history_of all) each m (subst IsSome (sym (history_writes all h r m)) some)) over below))
    (λ e. none_of_no (image_of (commits all) r m) e)

pub kept_of : (all : List Said) → AreCommits (commits all) → Each (LosesNone (commits all)) (commits all) → NoLostUpdate (history_of all)
kept_of all h none =
    numbered_to (λ n g. Each (Keeps (history_of all) n) g) (group_of (commits all)) 1 (greatest_commit all)
    (λ n j k. each_group (Keeps (history_of all) n) n (commits all) (each_keeps (LosesNone (commits all)) (λ q. q.0 ≡ n → Keeps (history_of all) n q.1)
    (λ q f e. subst (λ m. Keeps (history_of all) m q.1) e (keeps_of all h q f)) (commits all) none))

pub of_kept : (all : List Said) → AreCommits (commits all) → NoLostUpdate (history_of all) → Each (LosesNone (commits all)) (commits all)
of_kept all h kept =
    each_own (IsNumber all) (LosesNone (commits all)) (commits all)
    (λ n q. each_keeps (λ p. p.0 ≡ n → Keeps (history_of all) n p.1) (λ p. p.0 ≡ n → LosesNone (commits all) p)
    (λ p f e. of_keeps all h p (subst (λ m. Keeps (history_of all) m p.1) (sym e) (f e))) (commits all)
    (group_each (Keeps (history_of all) n) n (commits all) (let low : 1 ≤ n = q.0 in let high = q.1 in
    numbered_of (λ n g. Each (Keeps (history_of all) n) g) (group_of (commits all)) 1 (greatest_commit all) kept n low (omega (arith, high)))))
    (numbers_within all (whole_of all h))
