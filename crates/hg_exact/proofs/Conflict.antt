-- The premise can be met: the logs of a replay with a conflict show the first cause of each of its writes.
use Rattle.std.proofs.Common.{◌≡◌, inr, ℕ, ◌≤◌, List, [], ◌∷◌, Bool, true, false, None, refl, subst, arith}
use Rattle.std.specs.Prelude.{◌==◌, if◌then◌else◌, IsSome}
use Rattle.std.proofs.lemmas.Bool.Decides.{Decides-eqb}
use Rattle.hg_base.specs.History.{Commit, group_image}
use Rattle.hg_core.specs.declared.log.LogEntry.{LogEntry}
use Rattle.hg_core.specs.Events.{put}
use Rattle.hg_core.specs.Logs.{published}
use Rattle.hg_core.specs.Reading.{Follows}
use Rattle.hg_core.proofs.Indices.{at_index, put_else}
use Rattle.hg_headline.specs.Replayed.{HasReplayed}
use Rattle.hg_headline.specs.Worked.{five, history, lines, records}
use Rattle.hg_headline.proofs.Worked.{met}
use Rattle.hg_core.specs.Shown.{HasOpen, IsFreeIn, IsNewestIn, ShowsFirsts}

pub record Shown : Type 0 where
  pub logs : ℕ → List LogEntry
  pub replayed : HasReplayed 1 2 history logs 1 records lines
  pub firsts : Follows 1 ShowsFirsts (λ j. []) (λ j. None) records lines logs

abbrev none : ℕ → List LogEntry
none j = []

no_test : false ≡ true → ⊥
no_test e = cc

free_in_none : (j : ℕ) → IsFreeIn none j five
free_in_none j k other h = no_test h.0

newest_in_none : (c : ℕ) → IsNewestIn none five c
newest_in_none c k n e = absurd (no_test e)

-- no commit of the record in a log is over 1
abbrev IsNew : List LogEntry → Type 0
IsNew l = (n k : ℕ) → IsSome (group_image five (published n k l)) → n ≤ 1

-- two sessions with these logs, where the first has nothing open
two_free : (one two : List LogEntry) → (HasOpen one five → ⊥) → IsFreeIn (put (put none 1 one) 2 two) 2 five
two_free one two over k other h =
    let at : put (put none 1 one) 2 two k ≡ put none 1 one k = put_else (put none 1 one) 2 k two other in
    at_index 1 (λ i. HasOpen (put none 1 one i) five → ⊥) over (λ i f g. no_test (subst (λ l. HasOpen l five) (put_else none 1 i one f) g).0) k (subst (λ l. HasOpen l five) at h)

two_newest : (one two : List LogEntry) → IsNew one → IsNew two → IsNewestIn (put (put none 1 one) 2 two) five 1
two_newest one two first second k = at_index 2 (λ i. (n : ℕ) → IsSome (group_image five (published n i (put (put none 1 one) 2 two i))) → n ≤ 1) (λ n e. second n 2 e)
    (λ i f n e. at_index 1 (λ m. IsSome (group_image five (published n m (put none 1 one m))) → n ≤ 1) (λ g. first n 1 g)
    (λ m f' g. absurd (no_test (subst (λ l. IsSome (group_image five (published n m l))) (put_else none 1 m one f') g)))
    i (subst (λ l. IsSome (group_image five (published n i l))) (put_else (put none 1 one) 2 i two f) e)) k

-- a commit under the number 1, or none
one_at : (n : ℕ) (c : Commit) (b : Bool) → (1 == n) ≡ b → IsSome (group_image five (if b then c ∷ [] else [])) → n ≤ 1
one_at n c true e k = let same : 1 ≡ n = (Decides-eqb 1 n).0 e in omega (arith, same)
one_at n c false e k = absurd (no_test k)

-- Only the first and the third record are stored writes: the others have nothing to show.
pub shown : Shown
shown =
    let f = met.replayed.follows in
    let g = f.1.2 in
    let h = g.1.2 in
    let i = h.1.2 in
    let j = i.1.2 in
    let last = j.1.2 in
    record {
      logs = met.logs;
      replayed = met.replayed;
      firsts = (
        inr (free_in_none 1, newest_in_none 0),
        (
          f.1.0,
          f.1.1,
          (
            tt,
            (
              g.1.0,
              g.1.1,
              (
                inr (two_free _ _ (λ q. no_test q.0), two_newest _ _ (λ n k. one_at n _ (1 == n) refl) (λ n k e. absurd (no_test e))),
                (h.1.0, h.1.1, (tt, (i.1.0, i.1.1, (tt, (j.1.0, j.1.1, (tt, last.1), j.1.3)), i.1.3)), h.1.3),
              ),
              g.1.3,
            ),
          ),
          f.1.3,
        ),
      );
    }
