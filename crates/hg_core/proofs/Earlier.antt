-- A session's commits are of earlier transactions than the one that its log has open.
use Rattle.std.proofs.Common.{◌≡◌, ℕ, suc, ◌<◌, ◌≤◌, Bool, true, false, List, [], ◌∷◌, refl, sym, ap, ◌∙◌, subst, arith, true≢false}
use Rattle.std.specs.Prelude.{◌==◌, if◌then◌else◌, IsSome, IsTrue}
use Rattle.std.proofs.lemmas.Bool.Decides.{Decides-eqb, nat_tests}
use Rattle.hg_base.specs.Lists.{Each}
use Rattle.hg_base.specs.History.{Commit, Group, History, group_from, group_at}
use Rattle.hg_base.proofs.ListFacts.{each_append}
use Rattle.hg_core.specs.declared.log.LogEntry.{LogEntry}
use Rattle.hg_core.specs.declared.log.LogEntry.TheVariants.{Began, Saw, Refused, Outside, Wrote, Undid, Published, Over}
use Rattle.hg_core.specs.Logs.{current, begans, is_plain, commit_in, published}
use Rattle.hg_core.specs.Judged.{of_session}
use Rattle.hg_core.specs.Commits.{AreEarlier}
use Rattle.hg_core.proofs.Commits.{no_group}

each_le : (j n : ℕ) (log : List LogEntry) → Each (λ c. c.transaction ≤ begans log) (published n j log)
each_le j n [] = tt
each_le j n (Began at scope ∷ log) = wider (published n j log) (each_le j n log)
  where
    wider : (cs : List Commit) → Each (λ c. c.transaction ≤ begans log) cs → Each (λ c. c.transaction ≤ suc (begans log)) cs
    wider [] h = tt
    wider (c ∷ cs) h = (omega (arith, h.0), wider cs h.1)
each_le j n (Published m ∷ log) = each_append (λ c. c.transaction ≤ begans log) (published n j log) _ (each_le j n log) (one (m == n))
  where
    one : (b : Bool) → Each (λ c. c.transaction ≤ begans log) (if b then commit_in j log ∷ [] else [])
    one true = (omega arith, tt)
    one false = tt
each_le j n (Saw t low high b rows ∷ log) = each_le j n log
each_le j n (Refused r answer ∷ log) = each_le j n log
each_le j n (Outside t ∷ log) = each_le j n log
each_le j n (Wrote r image ∷ log) = each_le j n log
each_le j n (Undid r ∷ log) = each_le j n log
each_le j n (Over ∷ log) = each_le j n log

open_less : (j n : ℕ) (log : List LogEntry) → IsTrue (is_plain log) → IsSome (current log) → Each (λ c. c.transaction < begans log) (published n j log)
open_less j n [] p o = tt
open_less j n (Began at scope ∷ log) p o = under (published n j log) (each_le j n log)
  where
    under : (cs : List Commit) → Each (λ c. c.transaction ≤ begans log) cs → Each (λ c. c.transaction < suc (begans log)) cs
    under [] h = tt
    under (c ∷ cs) h = (omega (arith, h.0), under cs h.1)
open_less j n (Published m ∷ log) p o = absurd (true≢false (sym p))
open_less j n (Over ∷ log) p o = absurd (let x = o in cc)
open_less j n (Undid r ∷ log) p o = absurd (true≢false (sym p))
open_less j n (Saw t low high b rows ∷ log) p o = open_less j n log p o
open_less j n (Refused r answer ∷ log) p o = open_less j n log p o
open_less j n (Outside t ∷ log) p o = open_less j n log p o
open_less j n (Wrote r image ∷ log) p o = open_less j n log p o

of_group : (j x : ℕ) (g : Group) → Each (λ c. c.transaction < x) (of_session j g) → AreEarlier j x g
of_group j x [] h = tt
of_group j x (c ∷ g) h = go (c.session == j) refl h (λ k. of_group j x g k)
  where
    go : (b : Bool) → (c.session == j) ≡ b → Each (λ c. c.transaction < x) (if b then c ∷ of_session j g else of_session j g) →
        (Each (λ c. c.transaction < x) (of_session j g) → AreEarlier j x g) → AreEarlier j x (c ∷ g)
    go true e k rest = ((λ _. k.0), rest k.1)
    go false e k rest = ((λ q. absurd (true≢false (sym (let t : (c.session == j) ≡ true = (Decides-eqb c.session j).1 q in t) ∙ e))), rest k)

each_group : (P : Group → Type 0) → P [] → (first : ℕ) (h : History) → ((n : ℕ) → P (group_from first h n)) → Each P h
each_group P none first [] f = tt
each_group P none first (g ∷ h) f = (subst P (ap (λ b. if b then g else group_from (suc first) h first) here) (f first), each_group P none (suc first) h rest)
  where
    here : (first == first) ≡ true
    here = grind (arith, nat_tests)

    rest : (n : ℕ) → P (group_from (suc first) h n)
    rest n = go (first == n) refl
      where
        go : (b : Bool) → (first == n) ≡ b → P (group_from (suc first) h n)
        go true e = subst P (sym (no_group (suc first) h n (let k : first ≡ n = (Decides-eqb first n).0 e in omega arith))) none
        go false e = subst (λ b. P (if b then g else group_from (suc first) h n)) e (f n)

pub earlier : (h : History) (log : ℕ → List LogEntry) (j : ℕ) → ((n j : ℕ) → of_session j (group_at h n) ≡ published n j (log j)) → IsTrue (is_plain (log j)) →
    IsSome (current (log j)) → Each (AreEarlier j (begans (log j))) h
earlier h log j commits plain open_ = each_group (AreEarlier j (begans (log j))) tt 1 h
    (λ n. of_group j (begans (log j)) (group_at h n) (subst (Each (λ c. c.transaction < begans (log j))) (sym (commits n j)) (open_less j n (log j) plain open_)))
