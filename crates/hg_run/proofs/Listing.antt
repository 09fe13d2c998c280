-- What becomes of the logs of a list of sessions.
use Rattle.std.proofs.Common.{◌≡◌, ℕ, zero, suc, ◌<◌, ◌≢◌, List, [], ◌∷◌, length, map, Bool, true, false, refl, sym, ap, ◌∙◌, subst, arith}
use Rattle.std.specs.Prelude.{get_or, nat_lt, ◌==◌, if◌then◌else◌}
use Rattle.std.proofs.lemmas.Bool.Decides.{nat_tests, Decides-eqb}
use Rattle.hg_core.specs.declared.log.LogEntry.{LogEntry}
use Rattle.hg_core.specs.Events.{put}
use Rattle.hg_core.proofs.Indices.{by_number}
use Rattle.hg_session.specs.declared.session.Session.{Session}
use Rattle.hg_session.specs.Sessions.{log_of}
use Rattle.hg_session.specs.Finished.{logs_of}

pub map_get : {X : Type 0} (f : X → List LogEntry) (d : X) (xs : List X) (k : ℕ) → k < length xs → get_or (map f xs) k [] ≡ f (get_or xs k d)
map_get f d [] k h = absurd (omega (arith, h))
map_get f d (x ∷ xs) zero h = refl
map_get f d (x ∷ xs) (suc k) h = map_get f d xs k (omega (arith, h))

pub map_over : {X : Type 0} (f : X → List LogEntry) (xs : List X) (k : ℕ) → (k < length xs → ⊥) → get_or (map f xs) k [] ≡ []
map_over f [] k h = refl
map_over f (x ∷ xs) zero h = absurd (h (omega arith))
map_over f (x ∷ xs) (suc k) h = map_over f xs k (λ q. h (omega (arith, q)))

-- the log at a place
pub log_at : (d : Session) (xs : List Session) (k : ℕ) → k < length xs → logs_of xs (suc k) ≡ log_of (get_or xs k d)
log_at d xs k h = map_get log_of d xs k h

pub get_any : {X : Type 0} (d x : X) (xs : List X) (k : ℕ) → k < length xs → get_or xs k d ≡ get_or xs k x
get_any d x [] k h = absurd (omega (arith, h))
get_any d x (y ∷ ys) zero h = refl
get_any d x (y ∷ ys) (suc k) h = get_any d x ys k (omega (arith, h))

-- where each session has the log that it had
pub logs_same : (d : Session) (xs ys : List Session) → length ys ≡ length xs → ((k : ℕ) → k < length xs → log_of (get_or ys k d) ≡ log_of (get_or xs k d)) → logs_of ys ≡ logs_of xs
logs_same d xs ys many same = λ p j. at j p
  where
    go : (k : ℕ) (b : Bool) → nat_lt k (length xs) ≡ b → logs_of ys (suc k) ≡ logs_of xs (suc k)
    go k true e = let below : k < length xs = grind (arith, nat_tests, e) in let too : k < length ys = omega (arith, below, many) in map_get log_of d ys k too ∙ same k below ∙
        sym (map_get log_of d xs k below)
    go k false e = map_over log_of ys k (λ q. let below : k < length xs = omega (arith, q, many) in grind (arith, nat_tests, e, below)) ∙
        sym (map_over log_of xs k (λ q. grind (arith, nat_tests, e, q)))

    at : (j : ℕ) → logs_of ys j ≡ logs_of xs j
    at zero = refl
    at (suc k) = go k (nat_lt k (length xs)) refl

-- where one session has the log l, and each other is as it was
pub logs_put : (d : Session) (xs ys : List Session) (i : ℕ) (l : List LogEntry) → length ys ≡ length xs → i < length xs → log_of (get_or ys i d) ≡ l →
    ((k : ℕ) → k ≢ i → get_or ys k d ≡ get_or xs k d) → logs_of ys ≡ put (logs_of xs) (suc i) l
logs_put d xs ys i l many within here rest = λ p j. by_number (suc i) (λ j b. logs_of ys j ≡ (if b then l else logs_of xs j)) now others j p
  where
    now : logs_of ys (suc i) ≡ l
    now = let too : i < length ys = omega (arith, within, many) in map_get log_of d ys i too ∙ here

    at : (k : ℕ) (b : Bool) → nat_lt k (length xs) ≡ b → k ≢ i → get_or (map log_of ys) k [] ≡ get_or (map log_of xs) k []
    at k true e z = let below : k < length xs = grind (arith, nat_tests, e) in let too : k < length ys = omega (arith, below, many) in
        map_get log_of d ys k too ∙ ap log_of (rest k z) ∙ sym (map_get log_of d xs k below)
    at k false e z = map_over log_of ys k (λ q. let below : k < length xs = omega (arith, q, many) in grind (arith, nat_tests, e, below)) ∙
        sym (map_over log_of xs k (λ q. grind (arith, nat_tests, e, q)))

    others : (j : ℕ) → (j ≡ suc i → ⊥) → logs_of ys j ≡ logs_of xs j
    others zero z = refl
    others (suc k) z = at k (nat_lt k (length xs)) refl (λ e. z (ap suc e))

-- one of two, or another
pub by_two : (i j k : ℕ) (P : ℕ → Type 0) → P i → P j → (k ≢ i → k ≢ j → P k) → P k
by_two i j k P here there other = go (k == i) refl (k == j) refl
  where
    go : (a : Bool) → (k == i) ≡ a → (c : Bool) → (k == j) ≡ c → P k
    go true e c f = subst P (sym ((Decides-eqb k i).0 e)) here
    go false e true f = subst P (sym ((Decides-eqb k j).0 f)) there
    go false e false f = other (λ q. grind (arith, nat_tests, e, q)) (λ q. grind (arith, nat_tests, f, q))
