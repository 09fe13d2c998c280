-- What a record of a file's calls says of the file, the newest call first.
use Rattle.std.specs.Prelude.{◌≡◌, ◌⊎◌, ℕ, ◌+◌, ◌≤◌, nat_le, nat_lt, Bool, true, false, ◌&&◌, ◌||◌, not, List, [], ◌∷◌, ◌++◌, length, take, drop, if◌then◌else◌}
use Rattle.std.proofs.Common.{inl, inr, arith}
use Rattle.hg_journal.specs.Device.{Cut, Replaced, Torn}

-- what a call asks of a file; the first finds what it contains
pub data FileCall : Type 0 where
  Opens : (bytes : List ℕ) → FileCall
  Writes : (at : ℕ) (bytes : List ℕ) → FileCall
  Replaces : (at byte : ℕ) → FileCall
  Cuts : (len : ℕ) → FileCall
  Syncs : FileCall

-- a call, and whether it was done
abbrev pub Answered : Type 0
Answered = FileCall × Bool

-- the file after a call that was done
abbrev pub changed : FileCall → List ℕ → List ℕ
changed (Opens bytes) file = bytes
changed (Writes at bytes) file = take at file ++ bytes ++ drop (at + length bytes) file
changed (Replaces at byte) file = take at file ++ (byte ∷ []) ++ drop (at + 1) file
changed (Cuts len) file = take len file
changed Syncs file = file

-- what a read returns
abbrev pub seen_after : List Answered → List ℕ
seen_after [] = []
seen_after (call ∷ calls) = if call.1 then changed call.0 (seen_after calls) else seen_after calls

-- what a crash may leave after a call, of a file that was seen so, and of which it might have left this before
abbrev pub Leaves : FileCall → Bool → List ℕ → (List ℕ → Type 0) → List ℕ → Type 0
Leaves (Opens bytes) true file before c = c ≡ bytes
Leaves (Opens bytes) false file before c = before c
Leaves (Writes at bytes) done file before c = (d : List ℕ) × before d × Torn at (length bytes) d c
Leaves (Replaces at byte) done file before c = (d : List ℕ) × before d × Replaced at byte d c
Leaves (Cuts len) done file before c = (d : List ℕ) × before d × Cut len d c
Leaves Syncs true file before c = c ≡ file
Leaves Syncs false file before c = before c

-- what a crash may leave now
abbrev pub MayLeave : List Answered → List ℕ → Type 0
MayLeave [] c = c ≡ []
MayLeave (call ∷ calls) c = Leaves call.0 call.1 (seen_after calls) (MayLeave calls) c

-- what a crash might have left since so many calls were made
abbrev pub LeftSince : List Answered → ℕ → List ℕ → Type 0
LeftSince [] t c = MayLeave [] c
LeftSince (call ∷ calls) t c = MayLeave (call ∷ calls) c ⊎ ((t ≤ length calls) × LeftSince calls t c)

-- how many calls were not done
abbrev pub faults_in : List Answered → ℕ
faults_in [] = 0
faults_in (call ∷ calls) = if call.1 then faults_in calls else faults_in calls + 1

-- a call lies within the file
abbrev pub is_within : FileCall → List ℕ → Bool
is_within (Opens bytes) file = true
is_within (Writes at bytes) file = nat_le at (length file)
is_within (Replaces at byte) file = nat_lt at (length file)
is_within (Cuts len) file = nat_le len (length file)
is_within Syncs file = true

-- each did
abbrev pub all_within : List Answered → Bool
all_within [] = true
all_within (call ∷ calls) = is_within call.0 (seen_after calls) && all_within calls

-- each was done
abbrev pub all_done : List Answered → Bool
all_done [] = true
all_done (call ∷ calls) = call.1 && all_done calls

-- none was done after one that was not
abbrev pub stops_at_fault : List Answered → Bool
stops_at_fault [] = true
stops_at_fault (call ∷ calls) = (not call.1 || all_done calls) && stops_at_fault calls

-- a crash now is one of those since an earlier call
pub counted_now : (calls : List Answered) (t : ℕ) (c : List ℕ) → MayLeave calls c → LeftSince calls t c
counted_now [] t c now = now
counted_now (call ∷ calls) t c now = inl now

-- since the last call there is no other
pub alone_now : (calls : List Answered) (c : List ℕ) → LeftSince calls (length calls) c → MayLeave calls c
alone_now [] c left = left
alone_now (call ∷ calls) c (inl now) = now
alone_now (call ∷ calls) c (inr past) = absurd (omega (arith, past.0))
