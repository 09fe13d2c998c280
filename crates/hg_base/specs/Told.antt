-- Bytes as plain data, which a type can carry for proofs alone.
use Rattle.std.specs.Prelude.{List, ℕ}
use Rattle.std.specs.Coded.{Coded, coded_list, coded_ℕ}

-- bytes as plain data
abbrev pub bytes_code : Coded (List ℕ)
bytes_code = coded_list coded_ℕ
