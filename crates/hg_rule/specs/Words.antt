-- The places of the words. Eight words are a cache line. Line 0 begins with the mark, and line j with the two words of session j;
-- nobody uses the other words of a line.
use Rattle.std.specs.Prelude.{ℕ, ◌+◌, ◌*◌}

-- the register of session j
abbrev pub register_at : ℕ → ℕ
register_at j = 8 * j

-- the mask of its tables
abbrev pub mask_at : ℕ → ℕ
mask_at j = 8 * j + 1

-- how many words there are for so many sessions
abbrev pub words_for : ℕ → ℕ
words_for sessions = 8 * (sessions + 1)
