-- An entry of a gather: its register, and the record in which it is moved.
use Rattle.std.proofs.Common.{◌≡◌, ◌⊎◌, inl, inr, ℕ, zero, suc, ◌+◌, ◌<◌, ◌≤◌, List, [], ◌∷◌, ◌++◌, length, map, get_or, set, Option, Some, None, Bool, true, false, ◌==◌}
use Rattle.std.proofs.Common.{if◌then◌else◌, refl, sym, ap, ◌∙◌, subst, arith, append-nil, length-append}
use native.Mathlib.Decide.{dec_le}
use Rattle.std.proofs.lemmas.Bool.Decides.{nat_tests}
use Rattle.std.proofs.lemmas.List.{set-append_left, get_or_append_left}
use Rattle.std.proofs.Math.Seq.{set-append_seam, get_or-append_seam}
use Rattle.std.specs.Prelude.{IsTrue, is_some}
use Rattle.hg_base.specs.Lists.{Each}
use Rattle.hg_base.specs.Freshness.{is_declared}
use Rattle.hg_base.specs.declared.report.Entry.{Entry}
use Rattle.hg_core.specs.declared.loaded.Loaded.{Loaded}
use Rattle.hg_core.specs.declared.register.Register.{Register}
use Rattle.hg_core.specs.declared.register.Register.TheVariants.{Idle, Entering, Live}
use Rattle.hg_core.specs.Words.{IsRegister, shows_declared}
use Rattle.hg_core.specs.Phases.{IsSession}
use Rattle.hg_core.specs.Passes.{found, lower, least_entering}
use Rattle.hg_core.specs.Events.{moved, moved_in}
use Rattle.hg_rule.specs.Views.{number}
use Rattle.hg_rule.specs.Rounds.{masked_scope, live_entry, entries_of}
use Rattle.hg_tracker.specs.Entries.{down_from}
use Rattle.hg_tracker.specs.Gathers.{IsFull, IsLoaded, StandsAt}
use Rattle.hg_tracker.proofs.After.{first_key, none_past}

-- ---- an entry's register

-- an entry of a list's end stands before it, or is it
split_at : (xs : List Entry) (y e : Entry) (i : ℕ) → StandsAt i e (xs ++ y ∷ []) → StandsAt i e xs ⊎ ((i ≡ length xs) × (y ≡ e))
split_at xs y e i at = go (dec_le (suc i) (length xs))
  where
    go : Dec (suc i ≤ length xs) → StandsAt i e xs ⊎ ((i ≡ length xs) × (y ≡ e))
    go (yes l) = inl (l, λ d. sym (get_or_append_left xs (y ∷ []) d i l) ∙ at.1 d)
    go (no l) =
        let m : length (xs ++ y ∷ []) ≡ length xs + 1 = length-append xs (y ∷ []) in
        let here : i ≡ length xs = omega (arith, at.0) in
        inr (here, sym (get_or-append_seam xs y [] y) ∙ (ap (λ k. get_or (xs ++ y ∷ []) k y) (sym here) ∙ at.1 y))

other_found : (n : ℕ) (e : ℕ × Loaded) (loaded : List (ℕ × Loaded)) (k : ℕ) (r : Loaded) → map (λ e. e.0) (e ∷ loaded) ≡ down_from (suc n) → found k loaded ≡ Some r → (k == e.0) ≡ false
other_found n e loaded k r keys f = go (k == e.0) refl
  where
    go : (b : Bool) → (k == e.0) ≡ b → b ≡ false
    go false q = refl
    go true q = absurd (let same : k ≡ e.0 = grind (arith, nat_tests) in let key = first_key e loaded n keys in let l : n < k = omega (arith, key.0) in let z = none_past n k loaded key.1 l in cc)

-- what was loaded of an entry's session: its register, and the mask that gives its tables
pub record IsEntryOf (loaded : List (ℕ × Loaded)) (e : Entry) (declared : Bool) (mask : Option ℕ) : Type 0 where
  pub there : found e.session loaded ≡ Some (record { register = Live e.number declared e.moved; mask = mask })
  pub tables : e.scope ≡ masked_scope mask

pub entry_found : (n : ℕ) (loaded : List (ℕ × Loaded)) (i : ℕ) (e : Entry) → map (λ e. e.0) loaded ≡ down_from n → StandsAt i e (entries_of loaded) → (declared : Bool) ×
    (mask : Option ℕ) × IsEntryOf loaded e declared mask
entry_found n [] i e keys at = absurd (let l = at.0 in omega arith)
entry_found zero (x ∷ loaded) i e keys at = absurd (let m : suc (length (map (λ e. e.0) loaded)) ≡ 0 = ap length keys in omega arith)
entry_found (suc n) (x ∷ loaded) i e keys at = go x.1.register refl at (λ a. entry_found n loaded i e (first_key x loaded n keys).1 a)
  where
    later : (declared : Bool) × (mask : Option ℕ) × IsEntryOf loaded e declared mask → (declared : Bool) × (mask : Option ℕ) × IsEntryOf (x ∷ loaded) e declared mask
    later (declared, mask, h) = (
      declared,
      mask,
      record {
        there = ap (λ b. if b then Some x.1 else found e.session loaded) (other_found n x loaded e.session _ keys h.there) ∙
            h.there;
        tables = h.tables;
      },
    )

    go : (r : Register) → x.1.register ≡ r → StandsAt i e (entries_of loaded ++ live_entry x.0 r x.1.mask) →
        (StandsAt i e (entries_of loaded) → (declared : Bool) × (mask : Option ℕ) × IsEntryOf loaded e declared mask) → (declared : Bool) × (mask : Option ℕ) × IsEntryOf (x ∷ loaded) e declared mask
    go Idle q at ih = later (ih (subst (StandsAt i e) (append-nil (entries_of loaded)) at))
    go (Entering f) q at ih = later (ih (subst (StandsAt i e) (append-nil (entries_of loaded)) at))
    go (Live number declared was) q at ih = pick (split_at (entries_of loaded) (record { session = x.0; number = number; scope = masked_scope x.1.mask; moved = was }) e i at)
      where
        pick : StandsAt i e (entries_of loaded) ⊎ ((i ≡ length (entries_of loaded)) × (record { session = x.0; number = number; scope = masked_scope x.1.mask; moved = was } ≡ e)) →
            (declared : Bool) × (mask : Option ℕ) × IsEntryOf (x ∷ loaded) e declared mask
        pick (inl a) = later (ih a)
        pick (inr a) =
            let same : (e.session == x.0) ≡ true = (let k : x.0 ≡ e.session = ap (λ (y : Entry). y.session) a.1 in grind (arith, nat_tests)) in (
              declared,
              x.1.mask,
              record {
                there = ap (λ b. if b then Some x.1 else found e.session loaded) same ∙
                    (ap (λ r. Some (record { register = r; mask = x.1.mask })) q ∙ ap (λ (y : Entry). Some (record { register = Live y.number declared y.moved; mask = x.1.mask })) a.1);
                tables = sym (ap (λ (y : Entry). y.scope) a.1);
              },
            )

-- ---- the record with the entry moved

pub horizon_moved : (mark j : ℕ) (loaded : List (ℕ × Loaded)) → least_entering mark (moved_in j loaded) ≡ least_entering mark loaded
horizon_moved mark j [] = refl
horizon_moved mark j (x ∷ loaded) = go (j == x.0) x.1.register (horizon_moved mark j loaded)
  where
    go : (b : Bool) (r : Register) → least_entering mark (moved_in j loaded) ≡ least_entering mark loaded →
        least_entering mark (if b then (x.0, record x.1 { register = moved r }) ∷ loaded else (x.0, record x.1 { register = r }) ∷ moved_in j loaded) ≡ lower (least_entering mark loaded) r
    go true Idle h = refl
    go true (Entering f) h = refl
    go true (Live n declared was) h = refl
    go false r h = ap (λ m. lower m r) h

pub keys_moved : (j : ℕ) (loaded : List (ℕ × Loaded)) → map (λ e. e.0) (moved_in j loaded) ≡ map (λ e. e.0) loaded
keys_moved j [] = refl
keys_moved j (x ∷ loaded) = go (j == x.0) (keys_moved j loaded)
  where
    go : (b : Bool) → map (λ e. e.0) (moved_in j loaded) ≡ map (λ e. e.0) loaded →
        map (λ e. e.0) (if b then (x.0, record x.1 { register = moved x.1.register }) ∷ loaded else x ∷ moved_in j loaded) ≡ x.0 ∷ map (λ e. e.0) loaded
    go true h = refl
    go false h = ap (λ ks. x.0 ∷ ks) h

-- a live register, of declared tables
abbrev pub IsLiveDeclared : Option Loaded → Type 0
IsLiveDeclared None = ⊥
IsLiveDeclared (Some loaded) = IsTrue (shows_declared loaded.register)

word_moved : (r : Register) → IsTrue (shows_declared r) → IsRegister r → IsRegister (moved r)
word_moved Idle d h = h
word_moved (Entering f) d h = h
word_moved (Live n declared was) d h = record { number = h.number; declared = λ yes. d }

shows_moved : (r : Register) → shows_declared (moved r) ≡ shows_declared r
shows_moved Idle = refl
shows_moved (Entering f) = refl
shows_moved (Live n declared was) = refl

pub registers_moved : (j : ℕ) (loaded : List (ℕ × Loaded)) → IsLiveDeclared (found j loaded) → Each (λ e. IsFull e.1) loaded → Each (λ e. IsFull e.1) (moved_in j loaded)
registers_moved j [] d h = tt
registers_moved j (x ∷ loaded) d h = go (j == x.0) d (λ d. registers_moved j loaded d h.1)
  where
    go : (b : Bool) → IsLiveDeclared (if b then Some x.1 else found j loaded) → (IsLiveDeclared (found j loaded) → Each (λ e. IsFull e.1) (moved_in j loaded)) →
        Each (λ e. IsFull e.1) (if b then (x.0, record x.1 { register = moved x.1.register }) ∷ loaded else x ∷ moved_in j loaded)
    go true d k = ((word_moved x.1.register d h.0.0, h.0.1 ∙ sym (shows_moved x.1.register)), h.1)
    go false d k = (h.0, k d)

pub full_found : (k : ℕ) (r : Loaded) (loaded : List (ℕ × Loaded)) → Each (λ e. IsFull e.1) loaded → found k loaded ≡ Some r → IsFull r
full_found k r [] h f = cc
full_found k r (x ∷ loaded) h f = go (k == x.0) f (λ g. full_found k r loaded h.1 g)
  where
    go : (b : Bool) → (if b then Some x.1 else found k loaded) ≡ Some r → (found k loaded ≡ Some r → IsFull r) → IsFull r
    go true f ih = let same : x.1 ≡ r = cc in subst IsFull same h.0
    go false f ih = ih f

pub found_session : (n k : ℕ) (r : Loaded) (loaded : List (ℕ × Loaded)) → map (λ e. e.0) loaded ≡ down_from n → found k loaded ≡ Some r → IsSession n k
found_session n k r [] keys f = cc
found_session zero k r (x ∷ loaded) keys f = absurd (let m : suc (length (map (λ e. e.0) loaded)) ≡ 0 = ap length keys in omega arith)
found_session (suc n) k r (x ∷ loaded) keys f = go (k == x.0) refl f (λ g. found_session n k r loaded (first_key x loaded n keys).1 g)
  where
    go : (b : Bool) → (k == x.0) ≡ b → (if b then Some x.1 else found k loaded) ≡ Some r → (found k loaded ≡ Some r → IsSession n k) → IsSession (suc n) k
    go true q f ih = let same : k ≡ x.0 = grind (arith, nat_tests) in let key = (first_key x loaded n keys).0 in record { first = omega arith; last = omega arith }
    go false q f ih = let h = ih f in record { first = h.first; last = omega (arith, h.last) }

pub entries_moved : (n : ℕ) (loaded : List (ℕ × Loaded)) (i : ℕ) (e : Entry) → map (λ e. e.0) loaded ≡ down_from n → StandsAt i e (entries_of loaded) →
    entries_of (moved_in e.session loaded) ≡ set (entries_of loaded) i (record e { moved = true })
entries_moved n [] i e keys at = absurd (let l = at.0 in omega arith)
entries_moved zero (x ∷ loaded) i e keys at = absurd (let m : suc (length (map (λ e. e.0) loaded)) ≡ 0 = ap length keys in omega arith)
entries_moved (suc n) (x ∷ loaded) i e keys at = go x.1.register refl at (λ a. entries_moved n loaded i e (first_key x loaded n keys).1 a)
  where
    es : List Entry
    es = entries_of loaded

    e' : Entry
    e' = record e { moved = true }

    -- it stands among the later ones
    later : StandsAt i e es → (entries_of (moved_in e.session loaded) ≡ set es i e') → entries_of (moved_in e.session (x ∷ loaded)) ≡ set (es ++ live_entry x.0 x.1.register x.1.mask) i e'
    later a ih =
        let apart : (e.session == x.0) ≡ false = other_found n x loaded e.session _ keys (entry_found n loaded i e (first_key x loaded n keys).1 a).2.there in
        ap (λ b. entries_of (if b then (x.0, record x.1 { register = moved x.1.register }) ∷ loaded else x ∷ moved_in e.session loaded)) apart ∙
        (ap (λ l. l ++ live_entry x.0 x.1.register x.1.mask) ih ∙ sym (set-append_left es (live_entry x.0 x.1.register x.1.mask) i e' a.0))

    go : (r : Register) → x.1.register ≡ r → StandsAt i e (es ++ live_entry x.0 r x.1.mask) → (StandsAt i e es → entries_of (moved_in e.session loaded) ≡ set es i e') →
        entries_of (moved_in e.session (x ∷ loaded)) ≡ set (es ++ live_entry x.0 x.1.register x.1.mask) i e'
    go Idle q at ih = let a = subst (StandsAt i e) (append-nil es) at in later a (ih a)
    go (Entering f) q at ih = let a = subst (StandsAt i e) (append-nil es) at in later a (ih a)
    go (Live number declared was) q at ih = pick (split_at es (record { session = x.0; number = number; scope = masked_scope x.1.mask; moved = was }) e i at)
      where
        y : Entry
        y = record { session = x.0; number = number; scope = masked_scope x.1.mask; moved = was }

        pick : StandsAt i e es ⊎ ((i ≡ length es) × (y ≡ e)) → entries_of (moved_in e.session (x ∷ loaded)) ≡ set (es ++ live_entry x.0 x.1.register x.1.mask) i e'
        pick (inl a) = later a (ih a)
        pick (inr a) =
            let same : (e.session == x.0) ≡ true = (let k : x.0 ≡ e.session = ap (λ (z : Entry). z.session) a.1 in grind (arith, nat_tests)) in
            ap (λ b. entries_of (if b then (x.0, record x.1 { register = moved x.1.register }) ∷ loaded else x ∷ moved_in e.session loaded)) same
            ∙ (ap (λ r. es ++ live_entry x.0 (moved r) x.1.mask) q
            ∙ (ap (λ (z : Entry). es ++ record z { moved = true } ∷ []) a.1
            ∙ sym (ap (λ r. set (es ++ live_entry x.0 r x.1.mask) i e') q ∙ (ap (λ k. set (es ++ y ∷ []) k e') a.0 ∙ set-append_seam es y [] e'))))

-- an entry whose tables are declared, and that isn't moved, shows a register that can be moved
declared_scope : (mask : Option ℕ) → is_declared (masked_scope mask) ≡ is_some mask
declared_scope None = refl
declared_scope (Some mask) = refl

pub movable_found : (n : ℕ) (loaded : List (ℕ × Loaded)) (i : ℕ) (e : Entry) → IsLoaded n loaded → StandsAt i e (entries_of loaded) → IsTrue (is_declared e.scope) →
    e.moved ≡ false → (mask : Option ℕ) × (found e.session loaded ≡ Some (record { register = Live e.number true false; mask = mask }))
movable_found n loaded i e h at d unmoved =
    let at_one = entry_found n loaded i e h.0 at in
    let one = at_one.2 in
    let full = full_found e.session _ loaded h.1 one.there in
    let says : at_one.0 ≡ true = sym full.1 ∙ (sym (declared_scope at_one.1) ∙ (ap is_declared (sym one.tables) ∙ d)) in
    (at_one.1, one.there ∙ (λ k. Some (record { register = Live e.number (says k) (unmoved k); mask = at_one.1 })))
