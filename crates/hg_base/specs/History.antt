-- Histories of commits: what a table holds that never reclaims.
-- Group commit is that of Lee et al., "Hybrid Garbage Collection for Multi-Version Concurrency Control in SAP HANA",
-- SIGMOD 2016, in outline; that numbers are 1, 2, 3, .. is own.
use Rattle.std.specs.Prelude.{ℕ, suc, ◌<◌, ◌≤◌, ◌⊎◌, List, [], ◌∷◌, length, map, filter, Bool, ◌&&◌, ◌==◌, nat_le, if◌then◌else◌, IsFalse, Option, Some, None, option_map, unwrap_or, ⊤}
use Rattle.std.specs.List.{flat_map, list_any, cons_option}
use Rattle.std.specs.Option.{option_or}
use Rattle.hg_base.specs.declared.rid.Rid.{Rid}
use Rattle.hg_base.specs.declared.image.Image.{Image}
use Rattle.hg_base.specs.declared.writer.Writer.{Writer}
use Rattle.hg_base.specs.Lists.{Each}

-- the same record: one table and one key
abbrev pub same_rid : Rid → Rid → Bool
same_rid a b = (a.table.0 == b.table.0) && (a.key == b.key)

-- the same transaction of one session
abbrev pub same_writer : Writer → Writer → Bool
same_writer a b = (a.session == b.session) && (a.transaction == b.transaction)

-- the image of a deletion
abbrev pub nothing : Image
nothing = record { row = None }

-- a record and the image that is written to it
pub record Write : Type 0 where
  pub rid : Rid
  pub image : Image

-- A commit: whose transaction it is, the snapshot at which it read, and the image of each record that it writes.
pub record Commit : Type 0 where
  pub session : ℕ
  pub transaction : ℕ
  pub at : ℕ
  pub images : List Write

-- the commits that share a commit number
abbrev pub Group : Type 0
Group = List Commit

-- The groups in the order of commit numbers: the first has number 1.
abbrev pub History : Type 0
History = List Group

-- P holds of each group with its commit number, the first having number n
abbrev pub EachGroup : (ℕ → Group → Type 0) → ℕ → History → Type 0
EachGroup P n [] = ⊤
EachGroup P n (group ∷ groups) = P n group × EachGroup P (suc n) groups

-- the group with number n, where the first has number `first`; no commits where there is no such group
abbrev pub group_from : ℕ → History → ℕ → Group
group_from first [] n = []
group_from first (group ∷ groups) n = if first == n then group else group_from (suc first) groups n

-- the group with number n, where the first has number 1; no commits where there is no such group
abbrev pub group_at : History → ℕ → Group
group_at h n = group_from 1 h n

-- the first image that is written to r
abbrev pub image_in : Rid → List Write → Option Image
image_in r [] = None
image_in r (w ∷ ws) = if same_rid w.rid r then Some w.image else image_in r ws

-- whether r is among the records
abbrev pub is_among : Rid → List Rid → Bool
is_among r rids = list_any (same_rid r) rids

-- no record twice
abbrev pub NoneTwice : List Rid → Type 0
NoneTwice [] = ⊤
NoneTwice (r ∷ rids) = IsFalse (is_among r rids) × NoneTwice rids

-- no number twice
abbrev pub NoNumberTwice : List ℕ → Type 0
NoNumberTwice [] = ⊤
NoNumberTwice (n ∷ ns) = IsFalse (list_any (λ m. m == n) ns) × NoNumberTwice ns

-- the records that these writes are of
abbrev pub rids_of : List Write → List Rid
rids_of images = map (λ w. w.rid) images

-- the records that a group writes
abbrev pub group_rids : Group → List Rid
group_rids group = flat_map (λ c. rids_of c.images) group

-- a commit in the group with number n: it writes something, and its snapshot is below n
pub record IsCommit (n : ℕ) (c : Commit) : Type 0 where
  pub some : 0 < length c.images
  pub before : c.at < n

-- a group with number n: it has a commit, and no session and no record occurs twice in it
pub record IsGroup (n : ℕ) (group : Group) : Type 0 where
  pub some : 0 < length group
  pub commits : Each (IsCommit n) group
  pub sessions : NoNumberTwice (map (λ c. c.session) group)
  pub rids : NoneTwice (group_rids group)

-- each group is one of its number
abbrev pub IsHistory : History → Type 0
IsHistory h = EachGroup IsGroup 1 h

-- what a group writes to r, if it does
abbrev pub group_image : Rid → Group → Option Image
group_image r [] = None
group_image r (c ∷ cs) = option_or (image_in r c.images) (group_image r cs)

-- every number whose group writes r, with the image, ascending; the first group has number n
abbrev pub writes_from : ℕ → History → Rid → List (ℕ × Image)
writes_from n [] r = []
writes_from n (group ∷ groups) r = cons_option (option_map (λ image. (n, image)) (group_image r group)) (writes_from (suc n) groups r)

-- every write of a record, ascending, never shortened
abbrev pub writes : History → Rid → List (ℕ × Image)
writes h r = writes_from 1 h r

-- the image of the last pair, and nothing where there is none
abbrev pub last_image : List (ℕ × Image) → Image
last_image [] = nothing
last_image (w ∷ []) = w.1
last_image (w ∷ v ∷ more) = last_image (v ∷ more)

-- what a table that never reclaims shows of r at snapshot s: the last write numbered at or below s (snapshot isolation)
abbrev pub visible : History → Rid → ℕ → Image
visible h r s = last_image (filter (λ w. nat_le w.0 s) (writes h r))

-- what a transaction sees of r: the last of its own writes, which stand newest first, and else the table at its snapshot
abbrev pub seen : History → List Write → ℕ → Rid → Image
seen h own at r = unwrap_or (image_in r own) (visible h r at)

-- whether group number n writes r
abbrev pub does_write : History → ℕ → Rid → Bool
does_write h n r = list_any (λ w. w.0 == n) (writes h r)

-- No update is lost: each write of a record that a commit in group n writes is at or below its snapshot, or at or over n.
abbrev pub NoLostUpdate : History → Type 0
NoLostUpdate h = EachGroup (λ n group. Each (λ c. Each (λ w. Each (λ other. (other.0 ≤ c.at) ⊎ (n ≤ other.0)) (writes h w.rid)) c.images) group) 1 h

-- a commit that overwrites nothing that it did not see
abbrev pub LosesNothing : History → Commit → Type 0
LosesNothing h c = Each (λ w. Each (λ other. other.0 ≤ c.at) (writes h w.rid)) c.images
