use Rattle.std.specs.Prelude.{ℕ, List, ◌≤◌, All}

-- each byte is ASCII that is printed, so none ends a line
abbrev pub IsOneLine : List ℕ → Type 0
IsOneLine text = All (λ b. (32 ≤ b) × (b ≤ 126)) text
