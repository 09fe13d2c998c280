-- A transaction with an open write has no end in its log, and none in what was seen of it.
use Rattle.std.proofs.Common.{◌≡◌, ℕ, suc, ◌<◌, List, [], ◌∷◌, ◌++◌, Bool, true, false, None, refl, ap, ◌∙◌, cond, arith}
use Rattle.std.specs.Prelude.{◌||◌, ◌==◌, IsTrue, IsSome}
use Rattle.std.proofs.lemmas.Bool.Decides.{nat_tests}
use Rattle.hg_base.specs.declared.rid.Rid.{Rid}
use Rattle.hg_base.specs.History.{History, same_rid}
use Rattle.hg_core.specs.declared.log.LogEntry.{LogEntry}
use Rattle.hg_core.specs.declared.log.LogEntry.TheVariants.{Began, Saw, Refused, Outside, Wrote, Undid, Published, Over}
use Rattle.hg_core.specs.Logs.{current, begans, is_plain, open_in, has_end}
use Rattle.hg_core.specs.Replies.{AreReplied}
use Rattle.hg_core.specs.Judged.{Judged}

-- no transaction ends that hasn't begun
later_ends : (x : ℕ) (log : List LogEntry) → begans log < x → has_end x log ≡ false
later_ends x [] h = refl
later_ends x (Published n ∷ log) h = ap (λ b. b || has_end x log) (let k : (begans log == x) ≡ false = grind (arith, nat_tests) in k) ∙ later_ends x log h
later_ends x (Over ∷ log) h = ap (λ b. b || has_end x log) (let k : (begans log == x) ≡ false = grind (arith, nat_tests) in k) ∙ later_ends x log h
later_ends x (Began at scope ∷ log) h = later_ends x log (omega arith)
later_ends x (Saw table low high b rows ∷ log) h = later_ends x log h
later_ends x (Refused r answer ∷ log) h = later_ends x log h
later_ends x (Outside table ∷ log) h = later_ends x log h
later_ends x (Wrote r image ∷ log) h = later_ends x log h
later_ends x (Undid r ∷ log) h = later_ends x log h

plain_goes_on : (log : List LogEntry) → IsTrue (is_plain log) → IsSome (current log) → has_end (begans log) log ≡ false
plain_goes_on [] p o = absurd (let k = o in cc)
plain_goes_on (Began at scope ∷ log) p o = later_ends (suc (begans log)) log (omega arith)
plain_goes_on (Over ∷ log) p o = absurd (let k = o in cc)
plain_goes_on (Published n ∷ log) p o = absurd (let k = p in cc)
plain_goes_on (Undid r ∷ log) p o = absurd (let k = p in cc)
plain_goes_on (Saw table low high b rows ∷ log) p o = plain_goes_on log p o
plain_goes_on (Refused r answer ∷ log) p o = plain_goes_on log p o
plain_goes_on (Outside table ∷ log) p o = plain_goes_on log p o
plain_goes_on (Wrote r image ∷ log) p o = plain_goes_on log p o

pub open_goes_on : (buckets : ℕ) (h : History) (logs : ℕ → List LogEntry) (j : ℕ) (r : Rid) (log : List LogEntry) → AreReplied buckets h logs j log → Judged h log →
    IsSome (open_in r log) → has_end (begans log) log ≡ false
open_goes_on buckets h logs j r [] a d o = absurd (let k = o in cc)
open_goes_on buckets h logs j r (Began at scope ∷ log) a d o = absurd (let k = o in cc)
open_goes_on buckets h logs j r (Over ∷ log) a d o = absurd (let k = o in cc)
open_goes_on buckets h logs j r (Published n ∷ log) a d o = absurd (let k = o in cc)
open_goes_on buckets h logs j r (Wrote rid image ∷ log) a d o = plain_goes_on log a.0.1 d.0
open_goes_on buckets h logs j r (Undid rid ∷ log) a d o = go (same_rid rid r) o (λ k. open_goes_on buckets h logs j r log a.1 d.1 k)
  where
    go : (b : Bool) → IsSome (cond b None (open_in r log)) → (IsSome (open_in r log) → has_end (begans log) log ≡ false) → has_end (begans log) log ≡ false
    go true k rest = absurd (let e = k in cc)
    go false k rest = rest k
open_goes_on buckets h logs j r (Saw table low high b rows ∷ log) a d o = open_goes_on buckets h logs j r log a.1 d.1 o
open_goes_on buckets h logs j r (Refused rid answer ∷ log) a d o = open_goes_on buckets h logs j r log a.1 d.1 o
open_goes_on buckets h logs j r (Outside table ∷ log) a d o = open_goes_on buckets h logs j r log a.1 d.1 o

pub seen_goes_on : (x : ℕ) (later log : List LogEntry) → has_end x (later ++ log) ≡ false → has_end x log ≡ false
seen_goes_on x [] log h = h
seen_goes_on x (e ∷ later) log h = seen_goes_on x later log (go e h)
  where
    rest : (a b : Bool) → (a || b) ≡ false → b ≡ false
    rest true b k = absurd cc
    rest false b k = k

    go : (e : LogEntry) → has_end x (e ∷ (later ++ log)) ≡ false → has_end x (later ++ log) ≡ false
    go (Published n) k = rest (begans (later ++ log) == x) (has_end x (later ++ log)) k
    go Over k = rest (begans (later ++ log) == x) (has_end x (later ++ log)) k
    go (Began at scope) k = k
    go (Saw table low high b rows) k = k
    go (Refused r answer) k = k
    go (Outside table) k = k
    go (Wrote r image) k = k
    go (Undid r) k = k
