-- The records of a conversation are those of a script.
use Rattle.std.proofs.Common.{◌≡◌, ◌∙◌, ◌⊎◌, inl, inr, ℕ, zero, suc, ◌+◌, ◌<◌, ◌≤◌, length, nat_le, arith, List, [], ◌∷◌, ◌++◌, map, fold, Option, Some, None, true, false, refl, sym, ap, subst, append_assoc, append-nil}
use Rattle.std.specs.List.{AllZip, Contains}
use Rattle.std.proofs.lemmas.Bool.{cases_Bool}
use Rattle.csv.specs.declared.parser.State.{State}
use Rattle.csv.specs.declared.parser.State.TheVariants as state
use Rattle.csv.specs.Machine.{Read as ReadRecord, ends_at_end, next_record}
use Rattle.csv.specs.Reading.{default_config, records, records_from, records_next, strip_bom}
use Rattle.hg_talk.specs.declared.limits.TheConstants.{MOST_RECORD_BYTES}
use Rattle.hg_talk.specs.Framing.{Begun, Fields, Framed, IsSent, Long, Record, Sent, all_in, all_of, begun_after, does_end, framed_after, none_begun, sent_of}

-- all records, where these have ended and one has begun
abbrev all_from : List Sent → Begun → List ℕ → List Sent
all_from ended b xs = all_of (fold framed_after (record { ended = ended; begun = b }) xs)

-- the next record of n bytes is the first of all that come after those that have ended
abbrev IsNext : List Sent → List Sent → ℕ → Option ReadRecord → Type 0
IsNext all ended n None = all ≡ ended
IsNext all ended n (Some p) =
    (size : ℕ) × (all ≡ all_from (ended ++ sent_of size p.0 ∷ []) (none_begun p.1) p.2) × ((length p.2 < n) ⊎ ((p.1 ≡ state.StartRecord) × (p.2 ≡ [])))

further : (all ended : List Sent) (n m : ℕ) (o : Option ReadRecord) → n ≤ m → IsNext all ended n o → IsNext all ended m o
further all ended n m None less h = h
further all ended n m (Some p) less h = (h.0, h.1, go h.2)
  where
    go : (length p.2 < n) ⊎ ((p.1 ≡ state.StartRecord) × (p.2 ≡ [])) → (length p.2 < m) ⊎ ((p.1 ≡ state.StartRecord) × (p.2 ≡ []))
    go (inl below) = inl (omega (arith, below, less))
    go (inr end) = inr end

ended_after : (ended : List Sent) (b : Begun) (c : ℕ) → does_end b c ≡ true →
    framed_after (record { ended = ended; begun = b }) c ≡ record { ended = ended ++ sent_of (begun_after b c).size (begun_after b c).fields ∷ []; begun = none_begun (begun_after b c).state }
ended_after ended b c y = rw y refl

begun_on : (ended : List Sent) (b : Begun) (c : ℕ) → does_end b c ≡ false → framed_after (record { ended = ended; begun = b }) c ≡ record { ended = ended; begun = begun_after b c }
begun_on ended b c n = rw n refl

next_is : (xs : List ℕ) (ended : List Sent) (b : Begun) → IsNext (all_from ended b xs) ended (length xs) (next_record default_config b.state b.fields b.field xs)
unfolding next_record
next_is [] ended b = elim (cases_Bool (ends_at_end b.state)) [
  | inl y ↦ rw y (b.size, refl, inr (refl, refl))
  | inr n ↦ rw n refl
]
next_is (c ∷ xs) ended b = elim (cases_Bool (does_end b c)) [
  | inl y ↦ rw y ((begun_after b c).size, ap (λ (f : Framed). all_of (fold framed_after f xs)) (ended_after ended b c y), inl (omega arith))
  | inr n ↦ rw n (subst (λ all. IsNext all ended (suc (length xs)) (next_record default_config (begun_after b c).state (begun_after b c).fields (begun_after b c).field xs)) (sym (ap (λ (f : Framed). all_of (fold framed_after f xs)) (begun_on ended b c n)))
      (further _ _ (length xs) (suc (length xs)) _ (omega arith) (next_is xs ended (begun_after b c))))
]

-- after those that have ended, each of all records is one of these, or is too long
record AreNext (all ended : List Sent) (rows : List Fields) : Type 0 where
  later : List Sent
  joined : all ≡ ended ++ later
  each : AllZip IsSent later rows

-- a record that has ended is what was sent
is_sent : (size : ℕ) (fields : Fields) → IsSent (sent_of size fields) fields
is_sent size fields = elim (cases_Bool (nat_le size MOST_RECORD_BYTES)) [ inl y ↦ rw y refl | inr n ↦ rw n tt ]

no_next : next_record default_config state.StartRecord [] [] [] ≡ None
unfolding next_record
no_next = refl

none_from : (n : ℕ) → records_from default_config n state.StartRecord [] ≡ []
unfolding records_from
none_from zero = refl
none_from (suc n) = ap (records_next (records_from default_config n)) no_next

one_more : (all ended : List Sent) (size : ℕ) (fields : Fields) (rows : List Fields) → AreNext all (ended ++ sent_of size fields ∷ []) rows → AreNext all ended (fields ∷ rows)
one_more all ended size fields rows h = record {
  later = sent_of size fields ∷ h.later;
  joined = h.joined ∙ append_assoc ended (sent_of size fields ∷ []) h.later;
  each = (is_sent size fields, h.each);
}

-- what is known of n records, where there may be so many
abbrev Known : ℕ → Type 0
Known n = (xs : List ℕ) (ended : List Sent) (s : State) → length xs < n → AreNext (all_from ended (none_begun s) xs) ended (records_from default_config n s xs)

after_one : (n size : ℕ) (all : List Sent) (ended : List Sent) (p : ReadRecord) (many : ℕ) → Known n → many < suc n → all ≡ all_from (ended ++ sent_of size p.0 ∷ []) (none_begun p.1) p.2 →
    (length p.2 < many) ⊎ ((p.1 ≡ state.StartRecord) × (p.2 ≡ [])) → AreNext all (ended ++ sent_of size p.0 ∷ []) (records_from default_config n p.1 p.2)
after_one n size all ended p many known few joined (inl below) = subst (λ z. AreNext z (ended ++ sent_of size p.0 ∷ []) (records_from default_config n p.1 p.2)) (sym joined)
    (known p.2 (ended ++ sent_of size p.0 ∷ []) p.1 (omega (arith, below, few)))
after_one n size all ended p many known few joined (inr end) = record {
  later = [];
  joined = joined ∙ ap (λ t. all_from (ended ++ sent_of size p.0 ∷ []) (none_begun p.1) t) end.1
      ∙ ap (λ t. all_from (ended ++ sent_of size p.0 ∷ []) (none_begun t) []) end.0
      ∙ sym (append-nil (ended ++ sent_of size p.0 ∷ []));
  each = subst (λ rows. AllZip IsSent [] rows) (sym (ap (λ t. records_from default_config n p.1 t) end.1 ∙ ap (λ t. records_from default_config n t []) end.0 ∙ none_from n)) tt;
}

from_next : (n many : ℕ) (all ended : List Sent) (o : Option ReadRecord) → Known n → many < suc n → IsNext all ended many o → AreNext all ended (records_next (records_from default_config n) o)
from_next n many all ended None known few h = record { later = []; joined = h ∙ sym (append-nil ended); each = tt }
from_next n many all ended (Some p) known few h = one_more all ended h.0 p.0 _ (after_one n h.0 all ended p many known few h.1 h.2)

all_next : (n : ℕ) → Known n
unfolding records_from
all_next zero xs ended s few = absurd (omega (arith, few))
all_next (suc n) xs ended s few = from_next n (length xs) _ ended (next_record default_config s [] [] xs) (λ ys e t less. all_next n ys e t less) few (next_is xs ended (none_begun s))

-- each record of a conversation is one of a script, or is too long
pub each_is_sent : (bytes : List ℕ) → AllZip IsSent (all_in bytes) (records default_config (strip_bom bytes))
each_is_sent bytes =
    let all = all_next (length (strip_bom bytes) + 1) (strip_bom bytes) [] state.StartRecord (omega arith) in
    subst (λ sent. AllZip IsSent sent (records default_config (strip_bom bytes))) (sym all.joined) all.each

same_rows : (sent : List Sent) (rows : List Fields) → AllZip IsSent sent rows → ¬ Contains sent Long → sent ≡ map Record rows
same_rows [] [] h none = refl
same_rows [] (r ∷ rows) h none = absurd h
same_rows (s ∷ sent) [] h none = absurd h
same_rows (Record r ∷ sent) (row ∷ rows) h none =
    ap (λ f. Record f ∷ sent) h.0 ∙ ap (λ more. Record row ∷ more) (same_rows sent rows h.1 (λ at. none (suc at.0, omega (arith, at.1), at.2)))
same_rows (Long ∷ sent) (row ∷ rows) h none = absurd (none (0, omega arith, refl))

-- if none is too long, they are the same
pub all_are_sent : (bytes : List ℕ) → ¬ Contains (all_in bytes) Long → all_in bytes ≡ map Record (records default_config (strip_bom bytes))
all_are_sent bytes none = same_rows (all_in bytes) (records default_config (strip_bom bytes)) (each_is_sent bytes) none
