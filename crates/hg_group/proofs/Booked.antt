-- The book that lies in a batch's box.
use Rattle.std.proofs.Common.{◌≡◌, ℕ, sym, subst}
use Rattle.hg_rule.specs.Seats.{BoardId}
use Rattle.hg_group.specs.declared.book.Batches.{Batches}
use Rattle.hg_group.specs.declared.book.Book.{Book}
use Rattle.hg_group.specs.Leading.{IsKept}

-- with another book in the box
abbrev pub booked : Batches → Book → Batches
booked x b = record x { book = record x.book { value = b } }

pub booked_kept : (t : BoardId) (sessions : ℕ) (x : Batches) (b : Book) → b ≡ x.book.value → IsKept t sessions x → IsKept t sessions (booked x b)
booked_kept t sessions x b same k = subst (λ b. IsKept t sessions (booked x b)) (sym same) k
