-- The words of a session: the register and the mask.
use Rattle.std.specs.Prelude.{ℕ, ◌+◌, ◌-◌, ◌*◌, ◌/◌, ◌%◌, ◌^◌, ◌<◌, ◌==◌, Bool, true, false, if◌then◌else◌, IsTrue, ⊤}
use Rattle.hg_base.specs.declared.scope.Scope.{Scope}
use Rattle.hg_base.specs.declared.scope.Scope.TheVariants.{All, Declared}
use Rattle.hg_core.specs.declared.register.Register.{Register}
use Rattle.hg_core.specs.declared.register.Register.TheVariants.{Idle, Entering, Live}

-- ---- the mask

-- each declared table is below a number of tables
abbrev pub IsBelow : ℕ → Scope → Type 0
IsBelow tables All = ⊤
IsBelow tables (Declared mask) = mask < 2 ^ tables

-- the mask word of a scope: all ones where no tables are declared
abbrev pub mask_of : Scope → ℕ
mask_of All = 2 ^ 64 - 1
mask_of (Declared mask) = mask

-- ---- the register

-- the number that a register shows, and 0 where it is idle
abbrev pub number_of : Register → ℕ
number_of Idle = 0
number_of (Entering number) = number
number_of (Live number declared moved) = number

-- whether it is live, and shows that the session declared its tables
abbrev pub shows_declared : Register → Bool
shows_declared Idle = false
shows_declared (Entering number) = false
shows_declared (Live number declared moved) = declared

-- whether the snapshot was moved
abbrev pub is_moved : Register → Bool
is_moved Idle = false
is_moved (Entering number) = false
is_moved (Live number declared moved) = moved

-- A register that has a word: its number is below 2 ^ 44, and it was moved only where tables are declared.
pub record IsRegister (register : Register) : Type 0 where
  pub number : number_of register < 2 ^ 44
  pub declared : IsTrue (is_moved register) → IsTrue (shows_declared register)

-- 1 where it is set
abbrev pub flag : Bool → ℕ
flag true = 1
flag false = 0

-- the tag in bits 0 and 1, whether tables are declared in bit 2, whether it was moved in bit 3, and the number from bit 20
abbrev pub packed : ℕ → Bool → Bool → ℕ → ℕ
packed tag declared moved number = number * 2 ^ 20 + flag moved * 2 ^ 3 + flag declared * 2 ^ 2 + tag

-- the word of a register
abbrev pub word_of : Register → ℕ
word_of Idle = 0
word_of (Entering number) = packed 1 false false number
word_of (Live number declared moved) = packed 2 declared moved number

-- the register that a word shows
abbrev pub register_of : ℕ → Register
register_of word =
    if word % 4 == 1 then Entering (word / 2 ^ 20)
    else (if word % 4 == 2 then Live (word / 2 ^ 20) (word / 2 ^ 2 % 2 == 1) (word / 2 ^ 3 % 2 == 1)
    else Idle)
