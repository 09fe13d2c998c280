-- What the lines of one thread have besides being sound: which write is refused, and by which transaction, is decided by the
-- first conflict, and commit numbers ascend. A sound text that has this is the one text that is replayed.
use Rattle.std.specs.Prelude.{◌≡◌, ◌⊎◌, ℕ, ◌<◌, ◌≤◌, List, None, IfSome, IsSome, IsTrue, ⊤}
use Rattle.hg_base.specs.declared.rid.Rid.{Rid}
use Rattle.hg_base.specs.declared.line.Answer.{Answer}
use Rattle.hg_base.specs.declared.line.Answer.TheVariants.{Stored, Gone, Newer}
use Rattle.hg_base.specs.History.{History, does_write, image_in}
use Rattle.hg_base.specs.Transcript.{Said, committed, greatest_commit, open_of, own_writes, stored_in}
use Rattle.hg_base.specs.Conflicts.{target}

-- no other session's open transaction has written the record, by the lines before
abbrev pub IsFree : List Said → ℕ → Rid → Type 0
IsFree earlier j r = (k : ℕ) → (k ≡ j → ⊥) → IfSome (open_of k earlier) (λ opened. image_in r (stored_in k opened.transaction earlier) ≡ None)

-- no group that was printed before and writes the record is over c
abbrev pub IsNewest : History → List Said → Rid → ℕ → Type 0
IsNewest h earlier r c = (n : ℕ) → n ≤ greatest_commit earlier → IsTrue (does_write h n r) → n ≤ c

-- A write is stored where its transaction has written the record, or where nobody has it open and no newer group wrote it. One that
-- is refused for a newer group names the newest, and nobody has the record open.
abbrev pub IsFirstCause : History → List Said → Said → Rid → Answer → Type 0
IsFirstCause h earlier now r Stored = IsSome (image_in r (own_writes earlier now)) ⊎ (IsFree earlier now.session r × IsNewest h earlier r now.at)
IsFirstCause h earlier now r Gone = IsSome (image_in r (own_writes earlier now)) ⊎ (IsFree earlier now.session r × IsNewest h earlier r now.at)
IsFirstCause h earlier now r (Newer c) = IsFree earlier now.session r × IsNewest h earlier r c
IsFirstCause h earlier now r _ = ⊤

-- of one line, in the history of all lines
pub record IsFirst (h : History) (earlier : List Said) (now : Said) : Type 0 where
  pub number : IfSome (committed now) (λ c. greatest_commit earlier < c)
  pub cause : IfSome (target now.statement) (λ r. IsFirstCause h earlier now r now.reply.answer)
