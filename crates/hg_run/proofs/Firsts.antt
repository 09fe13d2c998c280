-- What a look showed of a write shows the first cause by the logs that a driver has, where no other log has gone on since.
use Rattle.std.proofs.Common.{◌≡◌, ◌⊎◌, inl, inr, ℕ, ◌+◌, List, [], ◌∷◌, ◌++◌, length, true, false, ◌==◌, refl, sym, ap, ◌∙◌, subst, arith}
use Rattle.std.specs.Prelude.{if◌then◌else◌, IsSome}
use Rattle.hg_base.specs.declared.rid.Rid.{Rid}
use Rattle.hg_base.specs.declared.line.Answer.{Answer}
use Rattle.hg_base.specs.declared.line.Answer.TheVariants.{Stored, Gone, Newer}
use Rattle.hg_base.specs.History.{Group, group_image, image_in}
use Rattle.hg_core.specs.declared.log.LogEntry.{LogEntry}
use Rattle.hg_core.specs.declared.log.LogEntry.TheVariants.{Began, Saw, Refused, Outside, Wrote, Undid, Published, Over}
use Rattle.hg_core.specs.Logs.{commit_in, open_in, published}
use Rattle.hg_core.specs.Shown.{HasOpen, IsFirstAt, IsFreeIn, IsNewestIn, NoOtherHas, ShowsFirst}
use Rattle.hg_core.proofs.Firsts.{not_open, some_keeps}
use Rattle.hg_rule.specs.Facts.{EndsWith, IsAmong, IsHeard}
use Rattle.hg_rule.specs.declared.view.Sight.{Sight}
use Rattle.hg_rule.specs.declared.view.Sight.TheVariants.{Heard}
use Rattle.hg_run.specs.Caught.{IsHeardUpTo, IsStill}

-- ---- logs that are ends of each other

length_of : {A : Type 0} (xs ys : List A) → length (xs ++ ys) ≡ length xs + length ys
length_of [] ys = omega arith
length_of (x ∷ xs) ys = let more = length_of xs ys in omega (arith, more)

ends_both : (a b : List LogEntry) → EndsWith a b → EndsWith b a → a ≡ b
ends_both a b p q = go p.0 p.1
  where
    short : (x : LogEntry) (xs : List LogEntry) → a ≡ (x ∷ xs) ++ b → ⊥
    short x xs e =
        let m : length a ≡ length (x ∷ xs) + length b = ap length e ∙ length_of (x ∷ xs) b in
        let n : length b ≡ length q.0 + length a = ap length q.1 ∙ length_of q.0 a in
        omega (arith, m, n)

    go : (xs : List LogEntry) → a ≡ xs ++ b → a ≡ b
    go [] e = e
    go (x ∷ xs) e = absurd (short x xs e)

-- ---- a log that goes on has each commit still

group_more : (r : Rid) (g more : Group) → IsSome (group_image r g) → IsSome (group_image r (g ++ more))
group_more r [] more k = absurd (let z : false ≡ true = k in cc)
group_more r (c ∷ g) more k = some_keeps (image_in r c.images) (group_image r g) (group_image r (g ++ more)) (group_more r g more) k

entry_more : (r : Rid) (n k : ℕ) (e : LogEntry) (log : List LogEntry) → IsSome (group_image r (published n k log)) → IsSome (group_image r (published n k (e ∷ log)))
entry_more r n k (Published number) log s = group_more r (published n k log) (if number == n then commit_in k log ∷ [] else []) s
entry_more r n k (Began at scope) log s = s
entry_more r n k (Saw t low high b rows) log s = s
entry_more r n k (Refused q answer) log s = s
entry_more r n k (Outside t) log s = s
entry_more r n k (Wrote q image) log s = s
entry_more r n k (Undid q) log s = s
entry_more r n k Over log s = s

entries_more : (r : Rid) (n k : ℕ) (later log : List LogEntry) → IsSome (group_image r (published n k log)) → IsSome (group_image r (published n k (later ++ log)))
entries_more r n k [] log s = s
entries_more r n k (e ∷ later) log s = entry_more r n k e (later ++ log) (entries_more r n k later log s)

pub newest_before : (more logs : ℕ → List LogEntry) (r : Rid) (c : ℕ) → ((k : ℕ) → EndsWith (more k) (logs k)) → IsNewestIn more r c → IsNewestIn logs r c
newest_before more logs r c ends f k n s = f k n (subst (λ l. IsSome (group_image r (published n k l))) (sym (ends k).1) (entries_more r n k (ends k).0 (logs k) s))

-- ---- a write's first cause

pub free_still : (more logs : ℕ → List LogEntry) (j : ℕ) (r : Rid) → ((k : ℕ) → (k ≡ j → ⊥) → IsStill (more k) (logs k)) → NoOtherHas more j r → IsFreeIn logs j r
free_still more logs j r still none k other h = go (still k other)
  where
    go : IsStill (more k) (logs k) → ⊥
    go (inl empty) = let z : HasOpen [] r = subst (λ l. HasOpen l r) empty h in let q : false ≡ true = z.0 in absurd (let p = q in cc)
    go (inr s) = not_open (logs k) r s.1 (ap (open_in r) (sym s.0) ∙ none k other) h

pub first_still : (more logs : ℕ → List LogEntry) (j at : ℕ) (r : Rid) (a : Answer) → ((k : ℕ) → (k ≡ j → ⊥) → IsStill (more k) (logs k)) → ((k : ℕ) → EndsWith (more k) (logs k)) →
    IsFirstAt more (logs j) j at r a → ShowsFirst logs j at r a
first_still more logs j at r a still ends = go a
  where
    stored : HasOpen (logs j) r ⊎ (NoOtherHas more j r × IsNewestIn more r at) → HasOpen (logs j) r ⊎ (IsFreeIn logs j r × IsNewestIn logs r at)
    stored (inl own) = inl own
    stored (inr first) = inr (free_still more logs j r still first.0, newest_before more logs r at ends first.1)

    go : (b : Answer) → IsFirstAt more (logs j) j at r b → ShowsFirst logs j at r b
    go Stored k = stored k
    go Gone k = stored k
    go (Newer c) k = (free_still more logs j r still k.0, newest_before more logs r c ends k.1)
    go _ k = tt

-- ---- what was heard

-- A log that was heard as it is, then at a look, and that nobody has heard further since, was the same at the look.
pub still_heard : (k : ℕ) (more log : List LogEntry) (old new : List Sight) → IsHeard k log old → ((l : List LogEntry) → IsAmong (Heard k l) old → EndsWith more l) →
    IsHeard k more new → IsHeardUpTo k log new → (log ≡ []) ⊎ (more ≡ log)
still_heard k more log old new (inl empty) goes now most = inl empty
still_heard k more log old new (inr there) goes now most = inr (go now)
  where
    before : EndsWith more log
    before = goes log there

    go : IsHeard k more new → more ≡ log
    go (inl none) = ends_both more log before (log, (λ i. sym (nothing_after log) i) ∙ ap (λ m. log ++ m) (sym none))
      where
        nothing_after : (l : List LogEntry) → l ++ [] ≡ l
        nothing_after [] = refl
        nothing_after (e ∷ l) = ap (λ m. e ∷ m) (nothing_after l)
    go (inr heard) = ends_both more log before (most more heard)
