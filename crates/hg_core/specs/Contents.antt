-- What the buckets hold: records with their versions.
use Rattle.std.specs.Prelude.{ℕ, ◌+◌, ◌-◌, ◌*◌, ◌%◌, List, [], ◌∷◌, Bool, false, ◌==◌, ◌&&◌, ◌||◌, if◌then◌else◌}
use Rattle.std.specs.List.{list_any}
use Rattle.hg_base.specs.declared.rid.Rid.{Rid}
use Rattle.hg_base.specs.declared.rid.TableId.{TableId}
use Rattle.hg_base.specs.Lists.{numbers_from}
use Rattle.hg_base.specs.History.{same_rid}
use Rattle.hg_core.specs.declared.version.Version.{Version}

-- a bucket's records, each with its versions
abbrev pub Content : Type 0
Content = List (Rid × List Version)

-- the bucket of a record
unfoldable pub bucket_of : ℕ → Rid → ℕ
bucket_of buckets r = (r.key % buckets + 31 * r.table.0) % buckets

-- whether some key from low to high is the bucket's own
unfoldable pub has_own : ℕ → TableId → ℕ → ℕ → ℕ → Bool
has_own buckets table low high b = list_any (λ k. bucket_of buckets (record { table = table; key = k }) == b) (numbers_from low (high + 1 - low))

-- the versions of a record in a content
abbrev pub look : Rid → Content → List Version
look r [] = []
look r (e ∷ content) = if same_rid r e.0 then e.1 else look r content

-- a content with these versions for a record; one that isn't there comes in where it has any
abbrev pub store : Rid → List Version → Content → Content
store r [] [] = []
store r (v ∷ vs) [] = (r, v ∷ vs) ∷ []
store r vs (e ∷ content) = if same_rid r e.0 then (r, vs) ∷ content else e ∷ store r vs content

-- the versions of each record, in its bucket
abbrev pub versions : ℕ → (ℕ → Content) → Rid → List Version
versions buckets bucket r = look r (bucket (bucket_of buckets r))

-- the buckets with these versions for a record
abbrev pub stored : ℕ → (ℕ → Content) → Rid → List Version → ℕ → Content
stored buckets bucket r vs = λ b. if b == bucket_of buckets r then store r vs (bucket (bucket_of buckets r)) else bucket b

-- whether a session's write of r is in a list of stamped writes
abbrev pub is_stamped : ℕ → Rid → List (ℕ × Rid) → Bool
is_stamped j r [] = false
is_stamped j r (e ∷ list) = (e.0 == j && same_rid e.1 r) || is_stamped j r list

-- whether any write of a session is
abbrev pub has_stamped : ℕ → List (ℕ × Rid) → Bool
has_stamped j [] = false
has_stamped j (e ∷ list) = (e.0 == j) || has_stamped j list
