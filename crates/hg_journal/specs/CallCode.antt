-- Calls as plain data, which a type can carry for proofs alone.
use Rattle.std.specs.Prelude.{◌≡◌, ◌⊎◌, ℕ, List, refl}
use Rattle.std.specs.Coded.{Coded, code_by, coded_list, coded_ℕ, coded_bool, coded×, coded⊎}
use mathlib.Core.Logic.{inl, inr}
use base.Stored.{coded_unit}
use Rattle.hg_journal.specs.Calls.{Answered, FileCall, Opens, Writes, Replaces, Cuts, Syncs}

abbrev Parts : Type 0
Parts = List ℕ ⊎ ((ℕ × List ℕ) ⊎ ((ℕ × ℕ) ⊎ (ℕ ⊎ Unit {0})))

abbrev parts_of : FileCall → Parts
parts_of (Opens bytes) = inl bytes
parts_of (Writes at bytes) = inr (inl (at, bytes))
parts_of (Replaces at byte) = inr (inr (inl (at, byte)))
parts_of (Cuts len) = inr (inr (inr (inl len)))
parts_of Syncs = inr (inr (inr (inr tt)))

abbrev call_of : Parts → FileCall
call_of (inl bytes) = Opens bytes
call_of (inr (inl p)) = Writes p.0 p.1
call_of (inr (inr (inl p))) = Replaces p.0 p.1
call_of (inr (inr (inr (inl len)))) = Cuts len
call_of (inr (inr (inr (inr _)))) = Syncs

pub same_call : (call : FileCall) → call_of (parts_of call) ≡ call
same_call (Opens bytes) = refl
same_call (Writes at bytes) = refl
same_call (Replaces at byte) = refl
same_call (Cuts len) = refl
same_call Syncs = refl

abbrev call_code : Coded FileCall
call_code = code_by Parts (coded⊎ (coded_list coded_ℕ) (coded⊎ (coded× coded_ℕ (coded_list coded_ℕ)) (coded⊎ (coded× coded_ℕ coded_ℕ) (coded⊎ coded_ℕ coded_unit)))) parts_of call_of same_call

-- calls as plain data
abbrev pub calls_code : Coded (List Answered)
calls_code = coded_list (coded× call_code coded_bool)
