use Rattle.std.proofs.Common.{arith, ℕ, List, ◌≤◌, ◌<◌}
use Rattle.std.proofs.lemmas.List.Elements.{All-weaker}
use Rattle.std.proofs.lemmas.Str.{IsUtf8-from_ascii}
use Rattle.std.proofs.lemmas.Str.Ascii.{IsAscii-from_all}
use Rattle.std.specs.Str.{IsUtf8}
use Rattle.hg_reason.specs.Printed.{IsOneLine}

pub is_utf8 : (text : List ℕ) → IsOneLine text → IsUtf8 text
is_utf8 text line =
    let below : (b : ℕ) → (32 ≤ b) × (b ≤ 126) → b < 128 = λ b h. omega (arith, h.1) in
    IsUtf8-from_ascii text (IsAscii-from_all text (All-weaker (λ b. (32 ≤ b) × (b ≤ 126)) (λ b. b < 128) below text line))
