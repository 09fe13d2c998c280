-- A register that shows a moved snapshot has the try that moved it in some pass's journal.
use Rattle.std.proofs.Common.{◌≡◌, ℕ, suc, ◌<◌, ◌≤◌, Bool, true, false, List, [], ◌∷◌, ◌++◌, inl, inr, refl, sym, ap, ◌∙◌, subst, arith}
use Rattle.std.specs.Prelude.{◌⊎◌, Some, None, if◌then◌else◌}
use native.Mathlib.Decide.{ℕ_discrete, dec_le}
use Rattle.hg_core.specs.declared.journal.PassEntry.{PassEntry}
use Rattle.hg_core.specs.declared.journal.PassEntry.TheVariants.{Marked, Sampled, Masked, Tried, Took}
use Rattle.hg_core.specs.declared.loaded.Loaded.{Loaded}
use Rattle.hg_core.specs.declared.register.Register.{Register}
use Rattle.hg_core.specs.declared.register.Register.TheVariants as registers
use Rattle.hg_core.specs.Words.{number_of}
use Rattle.hg_core.specs.Passes.{PassRecord, no_record, found}
use Rattle.hg_core.specs.State.{CoreState, opened}
use Rattle.hg_core.specs.Events.{Event, Declare, Probe, Enter, Fix, GoLive, End, Mark, Sample, SampleMask, Move, Miss, Install, Undo, Stamp, Publish, Reclaim, Take, Look, put, moved, happens, May}
use Rattle.hg_core.specs.Steps.{Step, Act, Arrive, Leave, Split, Unite, IsUnused, MayUnite, with_journal, united, step, Can, Run, run}
use Rattle.hg_core.specs.Invariant.{IsSteady}
use Rattle.hg_core.specs.Causes.{WasMoved}
use Rattle.hg_core.proofs.Indices.{by_number, put_here, put_else}
use Rattle.hg_core.proofs.Causes.{HasMove}

-- ---- passes that aren't there

-- they have no record
abbrev pub AreBare : CoreState → Type 0
AreBare s = (x : ℕ) → s.passes ≤ x → s.pass x ≡ no_record

-- the record of a pass that is there is another
past : (s : CoreState) (p : ℕ) (r : PassRecord) → p < s.passes → AreBare s → (x : ℕ) → s.passes ≤ x → put s.pass p r x ≡ no_record
past s p r there b x le = put_else s.pass p x r (λ (e : x ≡ p). omega arith) ∙ b x le

-- a pass that has loaded something is there
loads_there : (s : CoreState) (p j : ℕ) (one : Loaded) → AreBare s → found j (s.pass p).loaded ≡ Some one → p < s.passes
loads_there s p j one b e = go (dec_le s.passes p)
  where
    go : Dec (s.passes ≤ p) → p < s.passes
    go (yes le) = absurd (let z : None ≡ Some one = sym (ap (λ (y : PassRecord). found j y.loaded) (b p le)) ∙ e in cc)
    go (no l) = omega arith

bare_act : (s : CoreState) (e : Event) → May s e → AreBare s → AreBare (happens s e)
bare_act s (Declare i scope) may b = b
bare_act s (Probe i) may b = b
bare_act s (Enter i f) may b = b
bare_act s (Fix i f) may b = b
bare_act s (GoLive i m scope) may b = b
bare_act s (End i) may b = b
bare_act s (Mark p known) may b = past s p _ may.there b
bare_act s (Sample p i) may b = past s p _ may.there b
bare_act s (SampleMask p i) may b = past s p _ (loads_there s p i _ b may.2) b
bare_act s (Move p i) may b = past s p _ (loads_there s p i _ b may.2.loaded) b
bare_act s (Miss p i m) may b = past s p _ (loads_there s p i _ b may.1.loaded) b
bare_act s (Install i r image) may b = b
bare_act s (Undo i r) may b = b
bare_act s (Stamp i r) may b = b
bare_act s (Publish js) may b = b
bare_act s (Reclaim p kind r) may b = b
bare_act s (Take p) may b = past s p _ may.there b
bare_act s (Look i ask c rows) may b = b

bare_step : (s : CoreState) (e : Step) → Can s e → AreBare s → AreBare (step s e)
bare_step s (Act e) can b = bare_act s e can b
bare_step s (Arrive p c) can b = b
bare_step s (Leave p) can b = b
bare_step s (Split p) can b = λ x le. put_else s.pass s.passes x _ (λ (e : x ≡ s.passes). omega arith) ∙ b x (omega arith)
bare_step s (Unite p q m) can b = λ x le. elim (can.rest x) [ inl less ↦ absurd (omega arith) | inr unused ↦ unused.bare ]

pub bare_run : (s : CoreState) (steps : List Step) → Run s steps → AreBare s → AreBare (run s steps)
bare_run s [] t b = b
bare_run s (e ∷ steps) t b = bare_run (step s e) steps t.1 (bare_step s e t.0 b)

-- so the last pass may become one with another
pub unites_last : (s : CoreState) (p n : ℕ) → IsSteady s → AreBare s → s.passes ≡ suc n → p < n → MayUnite s p n n
unites_last s p n h b many less = record {
  apart = λ e. omega arith;
  first = omega arith;
  other = omega arith;
  most = omega arith;
  rest = λ x. pick x (dec_le n x) (dec_le (suc n) x);
}
  where
    pick : (x : ℕ) → Dec (n ≤ x) → Dec (suc n ≤ x) → (x < n) ⊎ IsUnused (united s p n n) x
    pick x (no low) d = inl (omega arith)
    pick x (yes le) (no last) = let same : n ≡ x = omega arith in inr (subst (IsUnused (united s p n n)) same
        (record { bare = put_here (put s.pass p (with_journal s p n)) n no_record; none = put_here (put s.visits p (s.visits n ++ s.visits p)) n [] }))
    pick x (yes le) (yes more) = inr (record {
      bare = put_else (put s.pass p (with_journal s p n)) n x no_record (λ (e : x ≡ n). omega arith) ∙
          (put_else s.pass p x (with_journal s p n) (λ (e : x ≡ p). omega arith) ∙ b x (omega arith));
      none = put_else (put s.visits p (s.visits n ++ s.visits p)) n x [] (λ (e : x ≡ n). omega arith) ∙
          (put_else s.visits p x (s.visits n ++ s.visits p) (λ (e : x ≡ p). omega arith) ∙ unvisited x more);
    })
      where
        unvisited : (x : ℕ) → suc n ≤ x → s.visits x ≡ []
        unvisited x more = elim (h.visits_stay.others x) [ inl there ↦ absurd (omega arith) | inr none ↦ none ]

-- ---- a try that was noted stays

module _ (j n : ℕ) where
  moved_before : (xs ys : List PassEntry) → WasMoved j n xs → WasMoved j n (xs ++ ys)
  moved_before [] ys x = absurd x
  moved_before (Marked mark ∷ xs) ys x = moved_before xs ys x
  moved_before (Took group ∷ xs) ys x = moved_before xs ys x
  moved_before (Sampled i register ∷ xs) ys x = moved_before xs ys x
  moved_before (Masked i mask ∷ xs) ys x = moved_before xs ys x
  moved_before (Tried i number false ∷ xs) ys x = moved_before xs ys x
  moved_before (Tried i number true ∷ xs) ys (inl x) = inl x
  moved_before (Tried i number true ∷ xs) ys (inr x) = inr (moved_before xs ys x)

  moved_after : (xs ys : List PassEntry) → WasMoved j n ys → WasMoved j n (xs ++ ys)
  moved_after [] ys x = x
  moved_after (Marked mark ∷ xs) ys x = moved_after xs ys x
  moved_after (Took group ∷ xs) ys x = moved_after xs ys x
  moved_after (Sampled i register ∷ xs) ys x = moved_after xs ys x
  moved_after (Masked i mask ∷ xs) ys x = moved_after xs ys x
  moved_after (Tried i number false ∷ xs) ys x = moved_after xs ys x
  moved_after (Tried i number true ∷ xs) ys x = inr (moved_after xs ys x)

  stays_put : (s : CoreState) (i : ℕ) (r : PassRecord) → (WasMoved j n (s.pass i).journal → WasMoved j n r.journal) → (x : ℕ) → WasMoved j n (s.pass x).journal → WasMoved j n (put s.pass i r x).journal
  stays_put s i r f = by_number i (λ k b. WasMoved j n (s.pass k).journal → WasMoved j n (if b then r else s.pass k).journal) f (λ k other y. y)

  stay_act : (s : CoreState) (e : Event) → HasMove j n s → HasMove j n (happens s e)
  stay_act s (Declare i scope) h = h
  stay_act s (Probe i) h = h
  stay_act s (Enter i f) h = h
  stay_act s (Fix i f) h = h
  stay_act s (GoLive i m scope) h = h
  stay_act s (End i) h = h
  stay_act s (Mark p known) h = (h.0, stays_put s p _ (moved_before (s.pass p).journal _) h.0 h.1)
  stay_act s (Sample p i) h = (h.0, stays_put s p _ (moved_before (s.pass p).journal _) h.0 h.1)
  stay_act s (SampleMask p i) h = (h.0, stays_put s p _ (moved_before (s.pass p).journal _) h.0 h.1)
  stay_act s (Move p i) h = (h.0, stays_put s p _ (moved_before (s.pass p).journal _) h.0 h.1)
  stay_act s (Miss p i m) h = (h.0, stays_put s p _ (moved_before (s.pass p).journal _) h.0 h.1)
  stay_act s (Install i r image) h = h
  stay_act s (Undo i r) h = h
  stay_act s (Stamp i r) h = h
  stay_act s (Publish js) h = h
  stay_act s (Reclaim p kind r) h = h
  stay_act s (Take p) h = (h.0, stays_put s p _ (moved_before (s.pass p).journal _) h.0 h.1)
  stay_act s (Look i ask c rows) h = h

  stay_united : (s : CoreState) (p q m : ℕ) → (p ≡ q → ⊥) → HasMove j n s → HasMove j n (step s (Unite p q m))
  stay_united s p q m apart (x, y) = go (ℕ_discrete x q) (ℕ_discrete x p)
    where
      first : put (put s.pass p (with_journal s p q)) q no_record p ≡ with_journal s p q
      first = put_else (put s.pass p (with_journal s p q)) q p no_record apart ∙ put_here s.pass p (with_journal s p q)

      here : WasMoved j n ((s.pass p).journal ++ (s.pass q).journal) → HasMove j n (step s (Unite p q m))
      here w = (p, subst (λ (r : PassRecord). WasMoved j n r.journal) (sym first) w)

      go : Dec (x ≡ q) → Dec (x ≡ p) → HasMove j n (step s (Unite p q m))
      go (yes same) d = here (moved_after (s.pass p).journal (s.pass q).journal (subst (λ k. WasMoved j n (s.pass k).journal) same y))
      go (no away) (yes same) = here (moved_before (s.pass p).journal (s.pass q).journal (subst (λ k. WasMoved j n (s.pass k).journal) same y))
      go (no away) (no other) = (
        x,
        subst (λ (r : PassRecord). WasMoved j n r.journal)
            (sym (put_else (put s.pass p (with_journal s p q)) q x no_record away ∙ put_else s.pass p x (with_journal s p q) other)) y,
      )

  stay_step : (s : CoreState) (e : Step) → Can s e → AreBare s → HasMove j n s → HasMove j n (step s e)
  stay_step s (Act e) can b h = stay_act s e h
  stay_step s (Arrive p c) can b h = h
  stay_step s (Leave p) can b h = h
  stay_step s (Split p) can b h = (h.0, stays_put s s.passes _ (λ y. absurd (subst (λ (r : PassRecord). WasMoved j n r.journal) (b s.passes (omega arith)) y)) h.0 h.1)
  stay_step s (Unite p q m) can b h = stay_united s p q m can.apart h

  -- ---- a moved register was moved by a try

  abbrev IsNoted : CoreState → Type 0
  IsNoted s = (declared : Bool) → s.register j ≡ registers.Live n declared true → HasMove j n s

  -- session i's register is another
  shows_put : (s : CoreState) (i : ℕ) (r : Register) (declared : Bool) → put s.register i r j ≡ registers.Live n declared true →
      (s.register j ≡ registers.Live n declared true) ⊎ ((j ≡ i) × (r ≡ registers.Live n declared true))
  shows_put s i r declared e = go (ℕ_discrete j i)
    where
      go : Dec (j ≡ i) → (s.register j ≡ registers.Live n declared true) ⊎ ((j ≡ i) × (r ≡ registers.Live n declared true))
      go (yes same) = inr (same, sym (ap (put s.register i r) same ∙ put_here s.register i r) ∙ e)
      go (no away) = inl (sym (put_else s.register i j r away) ∙ e)

  noted_now : (s : CoreState) (p i : ℕ) → May s (Move p i) → (declared : Bool) → j ≡ i → moved (s.register i) ≡ registers.Live n declared true → HasMove j n (happens s (Move p i))
  noted_now s p i may declared same e = (
    p,
    subst (λ (r : PassRecord). WasMoved j n r.journal) (sym (put_here s.pass p _))
        (moved_after (s.pass p).journal _ (inl (sym same, ap number_of may.2.shown ∙ ap number_of (sym (ap moved may.2.shown) ∙ e)))),
  )

  noted_act : (s : CoreState) (e : Event) → May s e → IsNoted s → IsNoted (happens s e)
  noted_act s (Declare i scope) may h declared e = h declared e
  noted_act s (Probe i) may h declared e = h declared e
  noted_act s (Enter i f) may h declared e = elim (shows_put s i _ declared e) [ inl was ↦ h declared was | inr now ↦ absurd (let z = now.1 in cc) ]
  noted_act s (Fix i f) may h declared e = h declared e
  noted_act s (GoLive i m scope) may h declared e = elim (shows_put s i _ declared e) [ inl was ↦ h declared was | inr now ↦ absurd (let z = now.1 in cc) ]
  noted_act s (End i) may h declared e = elim (shows_put s i _ declared e) [ inl was ↦ h declared was | inr now ↦ absurd (let z = now.1 in cc) ]
  noted_act s (Mark p known) may h declared e = stay_act s (Mark p known) (h declared e)
  noted_act s (Sample p i) may h declared e = stay_act s (Sample p i) (h declared e)
  noted_act s (SampleMask p i) may h declared e = stay_act s (SampleMask p i) (h declared e)
  noted_act s (Move p i) may h declared e = elim (shows_put s i _ declared e) [ inl was ↦ stay_act s (Move p i) (h declared was) | inr now ↦ noted_now s p i may declared now.0 now.1 ]
  noted_act s (Miss p i m) may h declared e = stay_act s (Miss p i m) (h declared e)
  noted_act s (Install i r image) may h declared e = h declared e
  noted_act s (Undo i r) may h declared e = h declared e
  noted_act s (Stamp i r) may h declared e = h declared e
  noted_act s (Publish js) may h declared e = h declared e
  noted_act s (Reclaim p kind r) may h declared e = h declared e
  noted_act s (Take p) may h declared e = stay_act s (Take p) (h declared e)
  noted_act s (Look i ask c rows) may h declared e = h declared e

  noted_step : (s : CoreState) (e : Step) → Can s e → AreBare s → IsNoted s → IsNoted (step s e)
  noted_step s (Act event) can b h declared e = noted_act s event can h declared e
  noted_step s (Arrive p c) can b h declared e = h declared e
  noted_step s (Leave p) can b h declared e = h declared e
  noted_step s (Split p) can b h declared e = stay_step s (Split p) can b (h declared e)
  noted_step s (Unite p q m) can b h declared e = stay_step s (Unite p q m) can b (h declared e)

  noted_run : (s : CoreState) (steps : List Step) → Run s steps → AreBare s → IsNoted s → IsNoted (run s steps)
  noted_run s [] t b h = h
  noted_run s (e ∷ steps) t b h = noted_run (step s e) steps t.1 (bare_step s e t.0 b) (noted_step s e t.0 b h)

pub each_moved : (sessions tables buckets passes quota : ℕ) (steps : List Step) → Run (opened sessions tables buckets passes quota) steps → (j n : ℕ) (declared : Bool) →
    (run (opened sessions tables buckets passes quota) steps).register j ≡ registers.Live n declared true → HasMove j n (run (opened sessions tables buckets passes quota) steps)
each_moved sessions tables buckets passes quota steps t j n declared e = noted_run j n (opened sessions tables buckets passes quota) steps t
    (λ x le. refl) (λ d i. absurd (let z = i in cc)) declared e
