-- What is seen of a record of calls is one of what a crash may leave.
use Rattle.std.proofs.Common.{◌≡◌, inl, inr, ℕ, ◌+◌, ◌≤◌, max, Bool, true, false, ◌&&◌, List, [], ◌∷◌, ◌++◌, length, take, drop, if◌then◌else◌, refl, sym, ◌∙◌, ap, subst, arith, append_assoc, length-append}
use Rattle.std.proofs.lemmas.Bool.Decides.{nat_tests}
use Rattle.std.proofs.lemmas.List.{take_at, drop_at, take_all, length-take-le, length-drop}
use Rattle.hg_journal.specs.Device.{Torn}
use Rattle.hg_journal.specs.Calls.{Answered, FileCall, Opens, Writes, Replaces, Cuts, Syncs, changed, seen_after, Leaves, MayLeave, is_within, all_within}

module _ (at : ℕ) (bytes file : List ℕ) (within : at ≤ length file) where
  abbrev written : List ℕ
  written = take at file ++ bytes ++ drop (at + length bytes) file

  size : length (take at file) ≡ at
  size = length-take-le at file within

  front_size : length (take at file ++ bytes) ≡ at + length bytes
  front_size = omega (arith, size, length-append (take at file) bytes)

  length-written : length written ≡ max (length file) (at + length bytes)
  length-written = omega (arith, front_size, length-append (take at file ++ bytes) (drop (at + length bytes) file), length-drop (at + length bytes) file)

  -- a write that was done is one that a crash may leave
  written_torn : Torn at (length bytes) file written
  written_torn = record {
    before = ap (λ (l : List ℕ). take at l) (append_assoc (take at file) bytes (drop (at + length bytes) file)) ∙ take_at (take at file) (bytes ++ drop (at + length bytes) file) at size;
    after = drop_at (take at file ++ bytes) (drop (at + length bytes) file) (at + length bytes) front_size;
    no_shorter = omega (arith, length-written);
    no_longer = omega (arith, length-written);
  }

same_torn : (at n : ℕ) (file : List ℕ) → Torn at n file file
same_torn at n file = record { before = refl; after = refl; no_shorter = omega arith; no_longer = omega arith }

two : (a b : Bool) → a && b ≡ true → (a ≡ true) × (b ≡ true)
two true true both = (refl, refl)
two true false both = absurd (cc both)
two false b both = absurd (cc both)

-- what is seen after a call is one of what a crash may leave
seen_left : (call : FileCall) (done : Bool) (file : List ℕ) (before : List ℕ → Type 0) → is_within call file ≡ true → before file → Leaves call done file before (if done then changed call file else file)
seen_left (Opens bytes) true file before within was = refl
seen_left (Opens bytes) false file before within was = was
seen_left (Writes at bytes) true file before within was = (file, was, written_torn at bytes file (grind (arith, nat_tests)))
seen_left (Writes at bytes) false file before within was = (file, was, same_torn at (length bytes) file)
seen_left (Replaces at byte) true file before within was =
    let here : at ≤ length file = grind (arith, nat_tests) in
    (file, was, record { elsewhere = written_torn at (byte ∷ []) file here; here = λ _. inr refl })
seen_left (Replaces at byte) false file before within was = (file, was, record { elsewhere = same_torn at 1 file; here = λ _. inl refl })
seen_left (Cuts len) true file before within was =
    let here : len ≤ length file = grind (arith, nat_tests) in
    let size : length (take len file) ≡ len = length-take-le len file here in
    (file, was, record { no_shorter = omega (arith, size); front = ap (λ (n : ℕ). take n file) size })
seen_left (Cuts len) false file before within was =
    let here : len ≤ length file = grind (arith, nat_tests) in
    (file, was, record { no_shorter = here; front = take_all (length file) file (omega arith) })
seen_left Syncs true file before within was = refl
seen_left Syncs false file before within was = was

-- so is what is seen after all of them
seen_may_be_left : (calls : List Answered) → all_within calls ≡ true → MayLeave calls (seen_after calls)
seen_may_be_left [] within = refl
seen_may_be_left (call ∷ calls) within =
    let both = two (is_within call.0 (seen_after calls)) (all_within calls) within in
    seen_left call.0 call.1 (seen_after calls) (MayLeave calls) both.0 (seen_may_be_left calls both.1)

-- a sync leaves nothing new
pub synced : (done : Bool) (calls new : List Answered) → new ≡ (Syncs, done) ∷ calls → all_within calls ≡ true → (c : List ℕ) → MayLeave new c → MayLeave calls c
synced true calls new is within c left =
    let seen : c ≡ seen_after calls = subst (λ (l : List Answered). MayLeave l c) is left in
    subst (MayLeave calls) (sym seen) (seen_may_be_left calls within)
synced false calls new is within c left = subst (λ (l : List Answered). MayLeave l c) is left
