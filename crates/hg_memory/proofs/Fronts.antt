-- The front of what is left was copied to the front of a buffer.
use Rattle.std.proofs.Common.{◌≡◌, ◌≤◌, ◌+◌, ◌-◌, ◌++◌, List, ℕ, length, take, drop, arith, length-drop, length-append}
use Rattle.std.proofs.lemmas.List.{take-append-drop, drop-drop, length-take}
use Rattle.std.proofs.Math.Seq.{take-add}
use Rattle.std.proofs.lemmas.Grind.{common_steps}

-- what was left begins with it
pub given : (xs buf into : List ℕ) (at n : ℕ) → n ≤ length xs - at → into ≡ take n (drop at xs) ++ drop n buf → drop at xs ≡ take n into ++ drop (at + n) xs
given xs buf into at n h e =
    let len : length (take n (drop at xs)) ≡ n = omega (arith, h, length-take n (drop at xs), length-drop at xs) in
    rw e (grind (arith, common_steps, take-append-drop n (drop at xs), drop-drop))

-- the buffer is as long as before
pub as_long : (xs buf into : List ℕ) (at n : ℕ) → n ≤ length xs - at → n ≤ length buf → into ≡ take n (drop at xs) ++ drop n buf → length into ≡ length buf
as_long xs buf into at n h l e = rw e (omega (arith, h, l, length-take n (drop at xs), length-drop at xs, length-drop n buf, length-append {A = ℕ}))

-- and so does the whole that was given
pub added : (xs buf into : List ℕ) (at n : ℕ) → n ≤ length xs - at → into ≡ take n (drop at xs) ++ drop n buf → take (at + n) xs ≡ take at xs ++ take n into
added xs buf into at n h e =
    let len : length (take n (drop at xs)) ≡ n = omega (arith, h, length-take n (drop at xs), length-drop at xs) in
    rw e (grind (arith, common_steps, take-add at n xs))
