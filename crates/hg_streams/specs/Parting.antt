-- A source in two parts: a script, and after a line of its own a text that is held against it.
use Rattle.std.specs.Prelude.{◌≡◌, ℕ, ◌+◌, ◌-◌, ◌<◌, ◌⊎◌, List, [], take, drop, get_or, codes}

-- the line is after k bytes: at the start or directly after a line feed, and with a line feed of its own
pub record IsLineAt (bytes : List ℕ) (k : ℕ) : Type 0 where
  pub line : take 5 (drop k bytes) ≡ codes "====\n"
  pub behind : (k ≡ 0) ⊎ (get_or bytes (k - 1) 0 ≡ 10)

-- and not before
pub record IsFirstAt (bytes : List ℕ) (k : ℕ) : Type 0 where
  pub here : IsLineAt bytes k
  pub none_before : (j : ℕ) → j < k → ¬ IsLineAt bytes j

-- the script is before the first such line, and the text after it
pub record IsParted (bytes script text : List ℕ) : Type 0 where
  pub count : ℕ
  pub first : IsFirstAt bytes count
  pub before : script ≡ take count bytes
  pub behind : text ≡ drop (count + 5) bytes

-- there is no such line: all bytes are the script, and the text is empty
pub record IsUnparted (bytes script text : List ℕ) : Type 0 where
  pub none : (k : ℕ) → ¬ IsLineAt bytes k
  pub all : script ≡ bytes
  pub empty : text ≡ []

-- the bytes are a script and a text
abbrev pub AreParts : List ℕ → List ℕ → List ℕ → Type 0
AreParts bytes script text = IsParted bytes script text ⊎ IsUnparted bytes script text
