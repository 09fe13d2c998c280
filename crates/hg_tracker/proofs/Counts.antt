-- How often a number counts for a table.
use Rattle.std.proofs.Common.{◌≡◌, ℕ, suc, ◌+◌, Bool, true, false, true≢false, Option, Some, None, List, [], ◌∷◌, ◌++◌, map, filter, ◌==◌}
use Rattle.std.proofs.Common.{if◌then◌else◌, not, ◌||◌, refl, sym, ap, ◌∙◌, arith, append-nil}
use Rattle.std.specs.Prelude.{IsPermutation, is_some, ⊤}
use Rattle.std.specs.List.{sum_by}
use Rattle.std.proofs.lemmas.List.Sums.{sum_by-cons, sum_by-append}
use Rattle.std.proofs.lemmas.List.Sorted.{sum_by-IsPermutation}
use Rattle.hg_base.specs.declared.scope.Scope.{Scope}
use Rattle.hg_base.specs.declared.rid.TableId.{TableId}
use Rattle.hg_base.specs.declared.report.Entry.{Entry}
use Rattle.hg_base.specs.Lists.{Each}
use Rattle.hg_core.specs.declared.loaded.Loaded.{Loaded}
use Rattle.hg_core.specs.declared.register.Register.{Register}
use Rattle.hg_core.specs.declared.register.Register.TheVariants.{Idle, Entering, Live}
use Rattle.hg_core.specs.Words.{IsRegister, shows_declared}
use Rattle.hg_core.specs.Passes.{mask_has, live_numbers, if_live}
use Rattle.hg_rule.proofs.Lists.{each_map}
use Rattle.hg_rule.specs.Rounds.{masked_scope, live_entry, entries_of}
use Rattle.hg_tracker.specs.Entries.{has_number, counts_for, times, numbers_for}
use Rattle.hg_tracker.specs.Gathers.{IsFull}

abbrev weight : ℕ → (Entry → Bool) → Entry → ℕ
weight n test e = if test e then (if e.number == n then 1 else 0) else 0

picked : (n : ℕ) (b : Bool) (m : ℕ) (ms : List ℕ) (w : ℕ) → times n ms ≡ w → times n (if b then m ∷ ms else ms) ≡ (if b then (if m == n then 1 else 0) else 0) + w
picked n false m ms w e = omega (arith, e)
picked n true m ms w e = go (m == n)
  where
    go : (c : Bool) → (if c then suc (times n ms) else times n ms) ≡ (if c then 1 else 0) + w
    go true = omega (arith, e)
    go false = omega (arith, e)

push_in : (b : Bool) (e : Entry) (es : List Entry) → map (λ (x : Entry). x.number) (if b then e ∷ es else es) ≡
    (if b then e.number ∷ map (λ (x : Entry). x.number) es else map (λ (x : Entry). x.number) es)
push_in true e es = refl
push_in false e es = refl

times_filter : (n : ℕ) (test : Entry → Bool) (es : List Entry) → times n (map (λ (x : Entry). x.number) (filter test es)) ≡ sum_by (weight n test) es
times_filter n test [] = refl
times_filter n test (e ∷ es) = ap (times n) (push_in (test e) e (filter test es)) ∙
    (picked n (test e) e.number (map (λ (x : Entry). x.number) (filter test es)) (sum_by (weight n test) es) (times_filter n test es) ∙ sym (sum_by-cons (weight n test) e es))

-- ---- what a record's registers count

-- a test of a register agrees with one of its entry
abbrev Agrees : (Bool → Option ℕ → Bool) → (Scope → Bool → Bool) → Register → Option ℕ → Type 0
Agrees test pick Idle mask = ⊤
Agrees test pick (Entering f) mask = ⊤
Agrees test pick (Live number declared moved) mask = test moved mask ≡ pick (masked_scope mask) moved

-- a moved entry has a mask
has_is : (table : TableId) (register : Register) (mask : Option ℕ) → IsRegister register → is_some mask ≡ shows_declared register →
    Agrees (λ moved mask. not moved || mask_has table mask) (λ scope moved. not moved || has_number scope table.0) register mask
has_is table Idle mask h full = tt
has_is table (Entering f) mask h full = tt
has_is table (Live number declared false) mask h full = refl
has_is table (Live number declared true) None h full = absurd (true≢false (sym (h.declared refl) ∙ sym full))
has_is table (Live number declared true) (Some mask) h full = refl

sum_by-snoc : (f : Entry → ℕ) (es : List Entry) (e : Entry) → sum_by f (es ++ e ∷ []) ≡ sum_by f es + f e
sum_by-snoc f es e = let a : ℕ = sum_by f es in let b : ℕ = sum_by f (e ∷ []) in let c : ℕ = f e in let h : b ≡ c + 0 = sum_by-cons f e [] in
    let k : sum_by f (es ++ e ∷ []) ≡ a + b = sum_by-append f es (e ∷ []) in k ∙ (let g : a + b ≡ a + c = omega arith in g)

recorded_weight : (n : ℕ) (test : Bool → Option ℕ → Bool) (pick : Scope → Bool → Bool) (loaded : List (ℕ × Loaded)) → Each (λ e. Agrees test pick e.1.register e.1.mask) loaded →
    times n (live_numbers test loaded) ≡ sum_by (weight n (λ e. pick e.scope e.moved)) (entries_of loaded)
recorded_weight n test pick [] agree = refl
recorded_weight n test pick (e ∷ loaded) agree = go e.0 e.1.register e.1.mask agree.0 (recorded_weight n test pick loaded agree.1)
  where
    W : Entry → ℕ
    W = weight n (λ x. pick x.scope x.moved)

    es : List Entry
    es = entries_of loaded

    go : (j : ℕ) (register : Register) (mask : Option ℕ) → Agrees test pick register mask → times n (live_numbers test loaded) ≡ sum_by W es →
        times n (if_live test register mask (live_numbers test loaded)) ≡ sum_by W (es ++ live_entry j register mask)
    go j Idle mask agree h = h ∙ ap (sum_by W) (sym (append-nil es))
    go j (Entering f) mask agree h = h ∙ ap (sum_by W) (sym (append-nil es))
    go j (Live number declared moved) mask agree h =
        let x : Entry = record { session = j; number = number; scope = masked_scope mask; moved = moved } in
        ap (λ (b : Bool). times n (if b then number ∷ live_numbers test loaded else live_numbers test loaded)) agree
        ∙ (picked n (pick (masked_scope mask) moved) number (live_numbers test loaded) (sum_by W es) h ∙ (turn (W x) (sum_by W es) ∙ sym (sum_by-snoc W es x)))
      where
        turn : (a b : ℕ) → a + b ≡ b + a
        turn a b = omega arith

pub recorded_times : (n : ℕ) (table : TableId) (loaded : List (ℕ × Loaded)) (ranked : List Entry) → Each (λ e. IsFull e.1) loaded → IsPermutation (entries_of loaded) ranked →
    times n (numbers_for table.0 ranked) ≡ times n (live_numbers (λ moved mask. not moved || mask_has table mask) loaded)
recorded_times n table loaded ranked full p =
    times_filter n (counts_for table.0) ranked
    ∙ (sum_by-IsPermutation (weight n (counts_for table.0)) (entries_of loaded) ranked p
    ∙ sym (recorded_weight n (λ moved mask. not moved || mask_has table mask) (λ scope moved. not moved || has_number scope table.0) loaded
    (each_map _ _ (λ e h. has_is table e.1.register e.1.mask h.0 h.1) loaded full)))

every : (loaded : List (ℕ × Loaded)) → Each (λ e. Agrees (λ moved mask. true) (λ scope moved. true) e.1.register e.1.mask) loaded
every [] = tt
every (e ∷ loaded) = (go e.1.register, every loaded)
  where
    go : (register : Register) → Agrees (λ moved mask. true) (λ scope moved. true) register e.1.mask
    go Idle = tt
    go (Entering f) = tt
    go (Live number declared moved) = refl

times_numbers : (n : ℕ) (es : List Entry) → times n (map (λ (x : Entry). x.number) es) ≡ sum_by (weight n (λ e. true)) es
times_numbers n [] = refl
times_numbers n (e ∷ es) = picked n true e.number (map (λ (x : Entry). x.number) es) (sum_by (weight n (λ x. true)) es) (times_numbers n es) ∙ sym (sum_by-cons (weight n (λ x. true)) e es)

pub all_times : (n : ℕ) (loaded : List (ℕ × Loaded)) (ranked : List Entry) → IsPermutation (entries_of loaded) ranked →
    times n (map (λ (x : Entry). x.number) ranked) ≡ times n (live_numbers (λ moved mask. true) loaded)
all_times n loaded ranked p = times_numbers n ranked ∙ (sum_by-IsPermutation (weight n (λ e. true)) (entries_of loaded) ranked p ∙
    sym (recorded_weight n (λ moved mask. true) (λ scope moved. true) loaded (every loaded)))
