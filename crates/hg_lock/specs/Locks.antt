-- What a clause says of a list of locks, and of a loan.
use Rattle.std.specs.Prelude.{◌≡◌, ℕ, List, Some, slice_get}
use Rattle.hg_lock.specs.declared.locks.Locks.{Locks}
use Rattle.hg_lock.specs.declared.loan.Loan.{Loan}

module _ {X T : Type 0} where
  -- what the list is about
  abbrev pub tag_of : Locks X T → T
  tag_of locks = locks.table.shared.key

  -- how many locks it has
  abbrev pub count_of : Locks X T → ℕ
  count_of locks = locks.count

  -- the place of the lock that the loan is of
  abbrev pub lock_of : Loan X T → ℕ
  lock_of loan = loan.lock

  -- the loan is of a lock of this list
  abbrev pub IsLoanOf : Locks X T → Loan X T → Type 0
  IsLoanOf locks loan = loan.seat.table_id ≡ locks.table.shared.table_id

-- each value fits at its own place
abbrev pub EachFits : {X : Type 0} → (ℕ → X → Type 0) → List X → Type 0
EachFits {X} fits values = (k : ℕ) (x : X) → slice_get values k ≡ Some x → fits k x
