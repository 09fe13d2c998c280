-- Steps, one after another.
use Rattle.std.proofs.Common.{◌≡◌, ℕ, zero, suc, ◌<◌, ◌≤◌, List, [], ◌∷◌, ◌++◌, length, map, drop, get_or, None, Some, Bool, true, false, ◌==◌, if◌then◌else◌, refl, sym, ap, ◌∙◌, subst}
use Rattle.std.proofs.Common.{arith, append_assoc, append-nil, length-append, inl}
use Rattle.std.specs.Prelude.{IsSome, IsTrue, IfSome}
use native.Mathlib.Decide.{dec_le}
use Rattle.std.proofs.lemmas.Bool.Decides.{nat_tests}
use Rattle.hg_base.specs.declared.scope.Scope.{Scope}
use Rattle.hg_base.specs.History.{History}
use Rattle.hg_base.specs.Lists.{Each}
use Rattle.hg_core.specs.declared.loaded.Loaded.{Loaded}
use Rattle.hg_core.specs.declared.journal.PassEntry.TheVariants.{Marked}
use Rattle.hg_core.specs.Passes.{found, lower, least_entering, HasMask, IsWhole}
use Rattle.hg_core.specs.Logs.{UpTo}
use Rattle.hg_rule.specs.declared.view.Part.{Part}
use Rattle.hg_rule.specs.declared.view.Part.TheVariants.{OfPass}
use Rattle.hg_rule.specs.declared.view.Sight.{Sight}
use Rattle.hg_rule.specs.declared.view.Sight.TheVariants.{Saw, Heard, Took, Did}
use Rattle.hg_rule.specs.declared.view.Event.TheVariants.{Mark}
use Rattle.hg_rule.specs.declared.view.View.{View}
use Rattle.hg_rule.specs.Facts.{record_of, groups}
use Rattle.hg_rule.specs.Views.{number, pass, others, seeing}
use Rattle.hg_rule.specs.Steps.{Within, IsHistoryAt, Declares, Probes, Enters, Fixes, GoesLive, Marks}
use Rattle.hg_core.specs.declared.log.LogEntry.TheVariants.{Began}
use Rattle.hg_rule.specs.Views.{session}
use Rattle.hg_rule.proofs.Lists.{each_left, each_map}
use Rattle.hg_rule.proofs.Growing.{among_later}
use Rattle.hg_tracker.specs.declared.gathered.Gathered.{Gathered}
use Rattle.hg_rule.specs.Rounds.{live_entry, entries_of}
use Rattle.hg_tracker.specs.Entries.{down_from}
use Rattle.hg_tracker.specs.Gathers.{IsNotedOf, IsFull}
use Rattle.hg_tracker.specs.Begun.{AtMost, HasBegun, sample_of, samples_of, note_of, notes_of, Loads, gathering, HasLoaded, HasGathered}

pub within_most : (h : History) (n : ℕ) → length h ≡ n → (x : Sight) → Within h x → AtMost n x
within_most h n l (Saw g) b = omega (arith, ap length b.1, length-append g.list b.0)
within_most h n l (Heard j log) b = subst (λ m. UpTo m log) l b
within_most h n l (Took m) b = omega (arith, b)
within_most h n l (Did e) b = tt

most : (v : View) (n : ℕ) (h : History) → IsHistoryAt v n h → Each (AtMost n) v.sights
most v n h w = each_map (Within h) (AtMost n) (within_most h n w.is_length) v.sights w.within

five : {A : Type 0} (xs os ps qs rs ss : List A) → ((((xs ++ os) ++ ps) ++ qs) ++ rs) ++ ss ≡ xs ++ (os ++ (ps ++ (qs ++ (rs ++ ss))))
five xs os ps qs rs ss = append_assoc _ rs ss ∙ (append_assoc _ qs (rs ++ ss) ∙ (append_assoc _ ps (qs ++ (rs ++ ss)) ∙ append_assoc xs os (ps ++ (qs ++ (rs ++ ss)))))

pub begins_all : (v v0 v1 v2 v3 w : View) (f m : ℕ) (scope : Scope) → Declares v scope v0 → Probes v0 f v1 → Enters v1 f v2 → Fixes v2 m v3 → GoesLive v3 m scope w → HasBegun v m scope w
begins_all v v0 v1 v2 v3 w f m scope de p en fi li = subst (λ (v0 : View). Probes v0 f v1 → HasBegun v m scope w) (sym de)
    (λ p. subst (λ (v1 : View). Enters v1 f v2 → HasBegun v m scope w) (sym p.1.1)
    (λ en. subst (λ (v2 : View). Fixes v2 m v3 → HasBegun v m scope w) (sym en)
    (λ fi. subst (λ (v3 : View). GoesLive v3 m scope w → HasBegun v m scope w) (sym fi.1.1)
    (λ li. subst (HasBegun v m scope) (sym li) record {
      parts = refl;
      most = each_left (AtMost m) v.sights _ (each_left (AtMost m) (v.sights ++ _) _ (each_left (AtMost m) ((v.sights ++ _) ++ _) _ (most _ m fi.0 fi.1.0)));
      kept = (_, five v.sights _ _ _ _ _);
      heard = among_later _ _ (Heard (number v) (Began m scope ∷ (session v).log) ∷ []) (inl refl);
      from = f;
      events = five v.events _ _ _ _ _;
    }) li) fi) en) p

-- ---- a gather

pub loads_none : (v w : View) (m : ℕ) → Marks v m w → HasLoaded v m 0 (pass w).loaded w × ((pass w).loaded ≡ [])
loads_none v w m is = subst (λ (w : View). HasLoaded v m 0 (pass w).loaded w × ((pass w).loaded ≡ [])) (sym is.1.1) (
  record {
    parts = (λ i. OfPass (number v) (gathering m [] (sym (append-nil ((pass v).journal ++ Marked m ∷ [])) i) v) ∷ others v);
    keys = refl;
    registers = tt;
    most = most v m is.0 is.1.0;
    saw = (is.0, is.1.0.is_length, among_later _ v.sights (Saw (groups is.0) ∷ []) (inl refl));
    kept = (_, refl);
    events = sym (append-nil _);
  },
  refl,
)

-- a session more
pub loads_one : (v w w' : View) (m n : ℕ) (loaded : List (ℕ × Loaded)) (r : Loaded) → HasLoaded v m n loaded w → Loads w (suc n) r w' → IsFull r → HasLoaded v m (suc n) ((suc n, r) ∷ loaded) w'
loads_one v w w' m n loaded r g is full = subst (HasLoaded v m (suc n) ((suc n, r) ∷ loaded)) (sym is) record {
  parts = ap F g.parts ∙ ap (λ l. OfPass (number v) (gathering m ((suc n, r) ∷ loaded) l v) ∷ others v)
      (append_assoc ((pass v).journal ++ Marked m ∷ []) (notes_of loaded) (note_of (suc n) r));
  keys = ap (λ ks. suc n ∷ ks) g.keys;
  registers = (full, g.registers);
  most = g.most;
  saw = g.saw;
  kept = g.kept;
  events = (λ i. g.events i ++ sample_of (same i) (suc n) r) ∙ append_assoc (v.events ++ Mark (number v) m ∷ []) (samples_of (number v) loaded) (sample_of (number v) (suc n) r);
}
  where
    F : List Part → List Part
    F ps = let u = seeing ps [] [] in OfPass (number u) (record (pass u) { loaded = (suc n, r) ∷ (pass u).loaded; journal = (pass u).journal ++ note_of (suc n) r }) ∷ others u

    same : number w ≡ number v
    same = ap (λ (ps : List Part). number (seeing ps [] [])) g.parts

pub loaded_is : (v w : View) (m n : ℕ) (loaded : List (ℕ × Loaded)) → HasLoaded v m n loaded w → ((pass w).loaded ≡ loaded) × ((pass w).mark ≡ m)
loaded_is v w m n loaded g = (ap (λ (ps : List Part). (pass (seeing ps [] [])).loaded) g.parts, ap (λ (ps : List Part). (pass (seeing ps [] [])).mark) g.parts)

pub first_key : (e : ℕ × Loaded) (loaded : List (ℕ × Loaded)) (n : ℕ) → map (λ e. e.0) (e ∷ loaded) ≡ down_from (suc n) → (e.0 ≡ suc n) × (map (λ e. e.0) loaded ≡ down_from n)
first_key e loaded n keys = (ap (λ ks. get_or ks 0 0) keys, ap (drop 1) keys)

pub keys_length : (loaded : List (ℕ × Loaded)) (n : ℕ) → map (λ e. e.0) loaded ≡ down_from n → length loaded ≡ n
keys_length [] zero keys = refl
keys_length [] (suc n) keys = absurd (let l : 0 ≡ suc (length (down_from n)) = ap length keys in omega arith)
keys_length (e ∷ loaded) zero keys = absurd (let l : suc (length (map (λ e. e.0) loaded)) ≡ 0 = ap length keys in omega arith)
keys_length (e ∷ loaded) (suc n) keys = ap suc (keys_length loaded n (first_key e loaded n keys).1)

-- the register of a later session isn't there
pub none_past : (n k : ℕ) (loaded : List (ℕ × Loaded)) → map (λ e. e.0) loaded ≡ down_from n → n < k → found k loaded ≡ None
none_past n k [] keys l = refl
none_past zero k (e ∷ loaded) keys l = absurd (let m : suc (length (map (λ e. e.0) loaded)) ≡ 0 = ap length keys in omega arith)
none_past (suc n) k (e ∷ loaded) keys l = go (k == e.0) refl (none_past n k loaded (first_key e loaded n keys).1 (omega arith))
  where
    go : (b : Bool) → (k == e.0) ≡ b → found k loaded ≡ None → (if b then Some e.1 else found k loaded) ≡ None
    go false q h = h
    go true q h = absurd (let same : k ≡ e.0 = grind (arith, nat_tests) in let first = (first_key e loaded n keys).0 in omega arith)

-- each earlier one is
pub some_up_to : (n k : ℕ) (loaded : List (ℕ × Loaded)) → map (λ e. e.0) loaded ≡ down_from n → 0 < k → k ≤ n → IsSome (found k loaded)
some_up_to zero k loaded keys low high = absurd (omega arith)
some_up_to (suc n) k [] keys low high = absurd (let l : 0 ≡ suc (length (down_from n)) = ap length keys in omega arith)
some_up_to (suc n) k (e ∷ loaded) keys low high = go (k == e.0) refl (λ less. some_up_to n k loaded (first_key e loaded n keys).1 low less)
  where
    go : (b : Bool) → (k == e.0) ≡ b → (k ≤ n → IsSome (found k loaded)) → IsSome (if b then Some e.1 else found k loaded)
    go true q h = refl
    go false q h = h (let other : k ≡ e.0 → ⊥ = grind (arith, nat_tests) in let first = (first_key e loaded n keys).0 in apart other first)
      where
        apart : (k ≡ e.0 → ⊥) → e.0 ≡ suc n → k ≤ n
        apart other first = pick (dec_le k n)
          where
            pick : Dec (k ≤ n) → k ≤ n
            pick (yes l) = l
            pick (no l) = absurd (other (omega arith))

-- the record's own list
pub with_own : (v w : View) (m n : ℕ) (loaded : List (ℕ × Loaded)) → HasLoaded v m n loaded w → HasLoaded v m n (pass w).loaded w
with_own v w m n loaded g = subst (λ l. HasLoaded v m n l w) (sym (loaded_is v w m n loaded g).0) g

pub gathered_of : (v w : View) (m n : ℕ) → HasLoaded v m n (pass w).loaded w → HasGathered v n w
gathered_of v w m n g = subst (λ k. HasLoaded v k n (pass w).loaded w) (sym (loaded_is v w m n (pass w).loaded g).1) g

-- a mask was loaded wherever one is declared
pub masks_found : (j : ℕ) (loaded : List (ℕ × Loaded)) → Each (λ e. IsFull e.1) loaded → IfSome (found j loaded) HasMask
masks_found j [] h = tt
masks_found j (e ∷ loaded) h = go (j == e.0) (masks_found j loaded h.1)
  where
    go : (b : Bool) → IfSome (found j loaded) HasMask → IfSome (if b then Some e.1 else found j loaded) HasMask
    go true k = λ says. subst IsTrue (sym h.0.1) says
    go false k = k

pub whole_of : (v w : View) (m n : ℕ) → HasLoaded v m n (pass w).loaded w → IsWhole n (record_of (pass w))
whole_of v w m n g = record { registers = λ j inside. some_up_to n j (pass w).loaded g.keys inside.first inside.last; masks = λ j. masks_found j (pass w).loaded g.registers }

-- what was loaded of the next session comes in, and is noted
pub noted_one : (v w w' : View) (m n k : ℕ) (r : Loaded) (g g' : Gathered) → k ≡ suc n → HasLoaded v m n (pass w).loaded w → Loads w k r w' → IsFull r → IsNotedOf m (pass w).loaded g
    → g'.mark ≡ g.mark → g'.horizon ≡ lower g.horizon r.register → g'.entries.items ≡ g.entries.items ++ live_entry k r.register r.mask
    → HasLoaded v m k (pass w').loaded w' × IsNotedOf m (pass w').loaded g'
noted_one v w w' m n k r g g' next h is full noted mark horizon entries =
    let loaded = (pass w).loaded in
    let to : HasLoaded v m (suc n) ((suc n, r) ∷ loaded) w' = loads_one v w w' m n loaded r h (subst (λ k. Loads w k r w') next is) full in
    let own : (pass w').loaded ≡ (k, r) ∷ loaded = (loaded_is v w' m (suc n) ((suc n, r) ∷ loaded) to).0 ∙ ap (λ k. (k, r) ∷ loaded) (sym next) in (
      subst (λ k. HasLoaded v m k (pass w').loaded w') (sym next) (with_own v w' m (suc n) ((suc n, r) ∷ loaded) to),
      (
        mark ∙ noted.0,
        horizon ∙ (ap (λ x. lower x r.register) noted.1 ∙ ap (least_entering m) (sym own)),
        entries ∙ (ap (λ es. es ++ live_entry k r.register r.mask) noted.2 ∙ ap entries_of (sym own)),
      ),
    )
