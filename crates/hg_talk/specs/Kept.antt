-- A log as plain data, which a type can carry for proofs alone.
use Rattle.std.specs.Prelude.{◌≡◌, ◌⊎◌, ℕ, List, refl}
use Rattle.std.specs.Coded.{Coded, coded_list, coded_ℕ, coded×, coded⊎, code_by}
use base.Stored.{coded_unit}
use mathlib.Core.Logic.{inl, inr}
use Rattle.hg_talk.specs.Events.{Event, Read, Wrote, ReadFailed, WriteFailed}
use Rattle.hg_talk.specs.Framing.{Sent, Record, Long}
use Rattle.hg_talk.specs.Talking.{Exchange}

-- ---- events

abbrev Parts : Type 0
Parts = List ℕ ⊎ (List ℕ ⊎ (Unit {0} ⊎ Unit {0}))

abbrev split : Event → Parts
split (Read bytes) = inl bytes
split (Wrote bytes) = inr (inl bytes)
split ReadFailed = inr (inr (inl tt))
split WriteFailed = inr (inr (inr tt))

abbrev join : Parts → Event
join (inl bytes) = Read bytes
join (inr (inl bytes)) = Wrote bytes
join (inr (inr (inl none))) = ReadFailed
join (inr (inr (inr none))) = WriteFailed

pub join_split : (e : Event) → join (split e) ≡ e
join_split (Read bytes) = refl
join_split (Wrote bytes) = refl
join_split ReadFailed = refl
join_split WriteFailed = refl

-- events as plain data
abbrev pub events_code : Coded (List Event)
events_code = coded_list (code_by Parts (coded⊎ (coded_list coded_ℕ) (coded⊎ (coded_list coded_ℕ) (coded⊎ coded_unit coded_unit))) split join join_split)

-- ---- what was sent

abbrev SentParts : Type 0
SentParts = List (List ℕ) ⊎ Unit {0}

abbrev split_sent : Sent → SentParts
split_sent (Record fields) = inl fields
split_sent Long = inr tt

abbrev join_sent : SentParts → Sent
join_sent (inl fields) = Record fields
join_sent (inr none) = Long

pub join_split_sent : (s : Sent) → join_sent (split_sent s) ≡ s
join_split_sent (Record fields) = refl
join_split_sent Long = refl

abbrev sent_code : Coded Sent
sent_code = code_by SentParts (coded⊎ (coded_list (coded_list coded_ℕ)) coded_unit) split_sent join_sent join_split_sent

-- exchanges as plain data
abbrev pub exchanges_code : Coded (List Exchange)
exchanges_code = coded_list (code_by (Sent × List ℕ) (coded× sent_code (coded_list coded_ℕ)) (λ e. (e.asked, e.answer)) (λ p. record { asked = p.0; answer = p.1 }) (λ _. refl))
