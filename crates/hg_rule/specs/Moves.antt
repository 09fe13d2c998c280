-- What a move of a seat makes of views.
use Rattle.std.specs.Prelude.{ℕ, zero, suc, List, [], ◌∷◌, ◌++◌}
use Rattle.hg_rule.specs.declared.view.Part.{Part}
use Rattle.hg_rule.specs.declared.view.Sight.{Sight}
use Rattle.hg_rule.specs.declared.view.Sight.TheVariants.{Did}
use Rattle.hg_rule.specs.declared.view.Event.{Event}
use Rattle.hg_rule.specs.declared.view.View.{View}
use Rattle.hg_rule.specs.declared.view.Sizes.{Sizes}
use Rattle.hg_rule.specs.Keys.{session_key, bucket_key, commit_key, pass_key}
use Rattle.hg_rule.specs.Facts.{new_part}
use Rattle.hg_rule.specs.Views.{seeing, after_first}

-- ---- joins

-- other parts, put between the first and the rest
abbrev pub put_in : List Part → List Part → List Part
put_in [] others = others
put_in (p ∷ parts) others = p ∷ (others ++ parts)

-- a view with another's parts, which has seen what the other had seen
abbrev pub joined : View → View → View
joined v w = seeing (put_in v.parts w.parts) (v.sights ++ w.sights) v.events

-- the other's steps are known too
abbrev pub did : List Event → List Sight
did [] = []
did (e ∷ events) = Did e ∷ did events

-- as joined, and the other's steps are known as seen
abbrev pub merged : View → View → View
merged v w = seeing (put_in v.parts w.parts) (v.sights ++ (w.sights ++ did w.events)) v.events

-- a view that has nothing
abbrev pub spent : View
spent = seeing [] [] []

-- ---- a meeting: the other gives all its parts, and gets them back

-- it has seen what the other had seen
abbrev pub meeting : View → View → View
meeting v w = seeing v.parts (v.sights ++ w.sights) v.events

-- what the giver keeps: no part, and all else
abbrev pub left_bare : View → View
left_bare v = seeing [] v.sights v.events

-- what it gives: all its parts, with what it has seen
abbrev pub right_given : View → View
right_given v = seeing v.parts v.sights []

-- the first part alone, if there is one
abbrev pub first_of : List Part → List Part
first_of [] = []
first_of (p ∷ parts) = p ∷ []

-- the second part alone, if there is one
abbrev pub second_of : List Part → List Part
second_of [] = []
second_of (p ∷ parts) = first_of parts

-- all parts but the second
abbrev pub but_second : List Part → List Part
but_second [] = []
but_second (p ∷ parts) = p ∷ after_first parts

-- what is left when the second part leaves
abbrev pub left_but_second : View → View
left_but_second v = seeing (but_second v.parts) v.sights v.events

-- what leaves then: the second part, with what was seen
abbrev pub right_second : View → View
right_second v = seeing (second_of v.parts) v.sights []

-- ---- a new board: its parts are dealt one by one

-- what is left when the first part is dealt
abbrev pub left_tail : View → View
left_tail v = seeing (after_first v.parts) v.sights v.events

-- what is dealt: the first part, with what was seen
abbrev pub right_first : View → View
right_first v = seeing (first_of v.parts) v.sights []

-- f of so many numbers, from i on
abbrev pub run : (ℕ → Part) → ℕ → ℕ → List Part
run f i zero = []
run f i (suc n) = f i ∷ run f (suc i) n

-- the part of session j on a new board
abbrev pub session_part : ℕ → Part
session_part j = new_part (session_key j)

-- the part of bucket b on a new board
abbrev pub bucket_part : ℕ → Part
bucket_part b = new_part (bucket_key b)

-- the part of pass p on a new board
abbrev pub pass_part : ℕ → Part
pass_part p = new_part (pass_key p)

-- the view of a new board's first seat, which has all
abbrev pub first_view : Sizes → View
first_view z = seeing (run session_part 1 z.sessions ++ (run bucket_part 0 z.buckets ++ (run pass_part 0 3 ++ new_part commit_key ∷ []))) [] []
