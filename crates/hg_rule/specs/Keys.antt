-- Whose a part is, and how many parts of a key there are.
use Rattle.std.specs.Prelude.{ℕ, ◌+◌, suc, Bool, true, false, eqb, ltb, List, [], ◌∷◌}
use Rattle.hg_rule.specs.declared.view.Part.{Part}
use Rattle.hg_rule.specs.declared.view.Part.TheVariants.{OfSession, OfBucket, OfCommit, OfPass, Away, Lent}
use Rattle.hg_rule.specs.declared.view.View.{View}
use Rattle.hg_rule.specs.declared.view.Sizes.{Sizes}

-- A session's part, a bucket's, the committer's or a collector pass's; and the place of a session's part, which stays with its
-- pass when the part is handed over.
pub data Key : Type 0 where
  session_key : ℕ → Key
  home_key : ℕ → Key
  bucket_key : ℕ → Key
  commit_key : Key
  pass_key : ℕ → Key

-- a part's key; of one at its place the one that it has when it is handed over
abbrev pub key_of : Part → Key
key_of (OfSession j s) = session_key j
key_of (OfBucket b c) = bucket_key b
key_of (OfCommit h) = commit_key
key_of (OfPass p r) = pass_key p
key_of (Away j s n) = home_key j
key_of (Lent j s) = session_key j

-- whether both are so
abbrev pub both : Bool → Bool → Bool
both true b = b
both false b = false

-- a number for the kind of a key
abbrev pub kind_of : Key → ℕ
kind_of (session_key j) = 0
kind_of (bucket_key b) = 1
kind_of commit_key = 2
kind_of (pass_key p) = 3
kind_of (home_key j) = 4

-- the number that a key has within its kind
abbrev pub index_of : Key → ℕ
index_of (session_key j) = j
index_of (bucket_key b) = b
index_of commit_key = 0
index_of (pass_key p) = p
index_of (home_key j) = j

-- whether two keys are of one kind and have one number
abbrev pub same_key : Key → Key → Bool
same_key k h = both (eqb (kind_of k) (kind_of h)) (eqb (index_of k) (index_of h))

-- whether a key is of session j: of its part, or of its part's place
abbrev pub is_sessions : Key → ℕ → Bool
is_sessions (session_key i) j = eqb j i
is_sessions (home_key i) j = eqb j i
is_sessions (bucket_key b) j = false
is_sessions commit_key j = false
is_sessions (pass_key p) j = false

-- whether a part counts for a key
abbrev pub has : Key → Part → Bool
has k (OfSession j s) = is_sessions k j
has k (OfBucket b c) = same_key (bucket_key b) k
has k (OfCommit h) = same_key commit_key k
has k (OfPass p r) = same_key (pass_key p) k
has k (Away j s n) = same_key (home_key j) k
has k (Lent j s) = same_key (session_key j) k

-- 1 where the test is true, else 0
abbrev pub one : Bool → ℕ
one true = 1
one false = 0

-- how many parts of the key there are in one list
abbrev pub count : Key → List Part → ℕ
count k [] = 0
count k (p ∷ ps) = one (has k p) + count k ps

-- how many parts of the key there are in all views together
abbrev pub tally : Key → List View → ℕ
tally k [] = 0
tally k (v ∷ vs) = count k v.parts + tally k vs

-- the share of a collector's pass; other parts have none
abbrev pub share_of : Part → ℕ
share_of (OfSession j s) = 0
share_of (OfBucket b c) = 0
share_of (OfCommit h) = 0
share_of (OfPass p r) = r.share
share_of (Away j s n) = 0
share_of (Lent j s) = 0

-- the shares of the passes in one list, added up
abbrev pub shares : List Part → ℕ
shares [] = 0
shares (p ∷ ps) = share_of p + shares ps

-- the shares of the passes in all views, added up
abbrev pub all_shares : List View → ℕ
all_shares [] = 0
all_shares (v ∷ vs) = shares v.parts + all_shares vs

-- the share of a pass on a new board
abbrev pub first_share : ℕ
first_share = 4294967296

-- the shares of the three passes of a new board together; splits and unions keep this sum
abbrev pub whole_share : ℕ
whole_share = 12884901888

-- how many parts of a key there are at a board of these sizes, where these passes are in use: sessions are counted from 1
abbrev pub expected : Sizes → (ℕ → Bool) → Key → ℕ
expected z used (session_key j) = one (both (ltb 0 j) (ltb j (suc z.sessions)))
expected z used (bucket_key b) = one (ltb b z.buckets)
expected z used commit_key = 1
expected z used (pass_key p) = one (used p)
expected z used (home_key j) = one (both (ltb 0 j) (ltb j (suc z.sessions)))
