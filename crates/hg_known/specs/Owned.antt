-- What transactions store, as a finite map from a transaction and a record to an image.
use Rattle.std.specs.Prelude.{◌≡◌, ℕ, List, Bool, false, ◌&&◌, ◌==◌, Option, None, IsSome}
use Rattle.std.specs.Map.{lookup}
use Rattle.std.specs.Option.{MatchOption}
use Rattle.std.specs.Ordering.{is_gt}
use Rattle.std.specs.declared.cmp.Ordering.TheVariants.{Less}
use Rattle.hg_base.specs.declared.rid.Rid.{Rid}
use Rattle.hg_base.specs.declared.image.Image.{Image}
use Rattle.hg_base.specs.RidOrder.{rid_cmp}
use Rattle.hg_base.specs.History.{Write, same_rid, image_in}
use Rattle.hg_base.specs.Transcript.{Said, stored_in}
use Rattle.hg_known.specs.declared.own.Spot.{Spot}

-- whether two places are of one transaction and one record
abbrev pub same_spot : Spot → Spot → Bool
same_spot a b = ((a.tx.session == b.tx.session) && (a.tx.number == b.tx.number)) && same_rid a.rid b.rid

-- the place of what transaction x of session j stores of record r
abbrev pub spot : ℕ → ℕ → Rid → Spot
spot j x r = record { tx = record { session = j; number = x }; rid = r }

-- the image that transaction x of session j stored of r, if it did
abbrev pub own_at : List (Spot × Image) → ℕ → ℕ → Rid → Option Image
own_at own j x r = lookup (same_spot (spot j x r)) own

-- a record and its image as a write
abbrev pub write_of : Rid × Image → Write
write_of p = record { rid = p.0; image = p.1 }

-- of one record, the last write that transaction x of session j stored, of lines newest first
abbrev pub IsOwn : List (Spot × Image) → List Said → ℕ → ℕ → Rid → Type 0
IsOwn own earlier j x r = own_at own j x r ≡ image_in r (stored_in j x earlier)

-- of each record, of every transaction
abbrev pub AreOwn : List (Spot × Image) → List Said → Type 0
AreOwn own earlier = (j x : ℕ) (r : Rid) → IsOwn own earlier j x r

-- of each record, of the transaction of a line
abbrev pub HasOwn : List (Spot × Image) → List Said → Said → Type 0
HasOwn own earlier now = (r : Rid) → IsOwn own earlier now.session now.transaction r

-- a comes no later than b
abbrev pub IsUpTo : Rid → Rid → Type 0
IsUpTo a b = is_gt (rid_cmp a b) ≡ false

-- the least record that transaction x of session j stored, at or over a record, and none where there is none
abbrev pub IsNextOwn : List (Spot × Image) → ℕ → ℕ → Rid → Option Rid → Type 0
IsNextOwn own j x from found =
    MatchOption found
    ((r : Rid) → IsUpTo from r → own_at own j x r ≡ None)
    (λ least. IsUpTo from least × IsSome (own_at own j x least) × ((r : Rid) → IsUpTo from r → IsSome (own_at own j x r) → IsUpTo least r))

-- a comes before b
abbrev pub IsBelow : Rid → Rid → Type 0
IsBelow a b = rid_cmp a b ≡ Less

-- the least record that transaction x of session j stored, over a record, and none where there is none
abbrev pub IsNextAfter : List (Spot × Image) → ℕ → ℕ → Rid → Option Rid → Type 0
IsNextAfter own j x from found =
    MatchOption found
    ((r : Rid) → IsBelow from r → own_at own j x r ≡ None)
    (λ least. IsBelow from least × IsSome (own_at own j x least) × ((r : Rid) → IsBelow from r → IsSome (own_at own j x r) → IsUpTo least r))
