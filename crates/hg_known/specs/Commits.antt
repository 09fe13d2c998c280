-- What printed commits have to be, so that they give a history.
use Rattle.std.specs.Prelude.{◌≡◌, ℕ, ◌<◌, ◌≤◌, List, [], ◌∷◌, length, map, ◌==◌, if◌then◌else◌, IsTrue, IsFalse, Option, None, IsSome, ⊤}
use Rattle.std.specs.List.{list_any}
use Rattle.std.specs.Option.{option_or}
use Rattle.hg_base.specs.declared.rid.Rid.{Rid}
use Rattle.hg_base.specs.declared.image.Image.{Image}
use Rattle.hg_base.specs.Lists.{Each, greatest}
use Rattle.hg_base.specs.History.{Commit, image_in}

-- a commit with its number: it is numbered from 1 and over its snapshot, and writes something
pub record IsFit (p : ℕ × Commit) : Type 0 where
  pub number : 1 ≤ p.0
  pub some : 0 < length p.1.images
  pub before : p.1.at < p.0

-- two commits of one group are of two sessions, and write no record both
abbrev pub AreOfTwo : Commit → Commit → Type 0
AreOfTwo c d = IsFalse (c.session == d.session) × ((r : Rid) → IsSome (image_in r c.images) → image_in r d.images ≡ None)

-- two numbered commits of one number are of two sessions, and write no record both
abbrev pub AreApart : ℕ × Commit → ℕ × Commit → Type 0
AreApart p q = p.0 ≡ q.0 → AreOfTwo p.1 q.1

-- any two of these numbered commits are apart
abbrev pub AllApart : List (ℕ × Commit) → Type 0
AllApart [] = ⊤
AllApart (p ∷ ps) = Each (AreApart p) ps × AllApart ps

-- one of these numbered commits has number n
abbrev pub has_number : ℕ → List (ℕ × Commit) → Type 0
has_number n ps = IsTrue (list_any (λ p. p.0 == n) ps)

-- each is fit, no two clash, and no number is left out
pub record AreCommits (ps : List (ℕ × Commit)) : Type 0 where
  pub fit : Each IsFit ps
  pub apart : AllApart ps
  pub every : (n : ℕ) → 1 ≤ n → n ≤ greatest (map (λ p. p.0) ps) → has_number n ps

-- what the commits of number n write to r: that of the first which does
abbrev pub image_of : List (ℕ × Commit) → Rid → ℕ → Option Image
image_of [] r n = None
image_of (p ∷ ps) r n = if p.0 == n then option_or (image_in r p.1.images) (image_of ps r n) else image_of ps r n

-- a commit that overwrites nothing that it did not see: no commit numbered over its snapshot and below its number writes what it writes
abbrev pub LosesNone : List (ℕ × Commit) → ℕ × Commit → Type 0
LosesNone ps p = (r : Rid) → IsSome (image_in r p.1.images) → (m : ℕ) → p.1.at < m → m < p.0 → image_of ps r m ≡ None
