-- There are no more commits than the sessions may begin transactions.
use Rattle.std.proofs.Common.{◌≡◌, ℕ, suc, ◌+◌, ◌*◌, ◌<◌, ◌≤◌, Bool, true, false, List, [], ◌∷◌, length, inl, inr, refl, sym, ap, ◌∙◌, arith, length-append, true≢false}
use Rattle.std.specs.Prelude.{◌==◌, ◌&&◌, ◌⊎◌, if◌then◌else◌, IsSome, IsTrue}
use Rattle.std.proofs.lemmas.Bool.Decides.{nat_tests}
use Rattle.hg_base.specs.Lists.{Each}
use Rattle.hg_base.specs.History.{Group, History, group_from, group_at}
use Rattle.hg_core.specs.declared.phase.Phase.{Phase}
use Rattle.hg_core.specs.declared.phase.Phase.TheVariants.{Idle, Declared, Probed, Entered, Fixed, Live}
use Rattle.hg_core.specs.declared.log.LogEntry.{LogEntry}
use Rattle.hg_core.specs.declared.log.LogEntry.TheVariants.{Began, Saw, Refused, Outside, Wrote, Undid, Published, Over}
use Rattle.hg_core.specs.Logs.{current, begans, is_plain, commit_in, published}
use Rattle.hg_core.specs.Phases.{IsSession, MayHaveBegun}
use Rattle.hg_core.specs.Judged.{Judged, of_session}
use Rattle.hg_core.specs.State.{CoreState}
use Rattle.hg_core.specs.Sums.{sum_to, sum_below}
use Rattle.hg_core.specs.Commits.{commits_in, AloneHaveLogs}
use Rattle.hg_core.specs.Invariant.{IsSteady}
use Rattle.hg_core.proofs.Sums.{sum_most, sum_none, sum_grown, below_same, below_plus, below_none, below_grown, below_one, sums_swap}

-- ---- one log

pubs : List LogEntry → ℕ
pubs [] = 0
pubs (Published n ∷ log) = suc (pubs log)
pubs (Began at scope ∷ log) = pubs log
pubs (Saw t low high b rows ∷ log) = pubs log
pubs (Refused r answer ∷ log) = pubs log
pubs (Outside t ∷ log) = pubs log
pubs (Wrote r image ∷ log) = pubs log
pubs (Undid r ∷ log) = pubs log
pubs (Over ∷ log) = pubs log

record Fewer (log : List LogEntry) : Type 0 where
  pub most : pubs log ≤ begans log
  pub open_ : IsTrue (is_plain log) → IsSome (current log) → suc (pubs log) ≤ begans log

fewer : (h : History) (log : List LogEntry) → Judged h log → Fewer log
unfolding pubs
fewer h [] j = record { most = omega arith; open_ = λ p o. absurd (let x = o in cc) }
fewer h (Began at scope ∷ log) j = let f = fewer h log j.1 in let m = f.most in record { most = omega (arith, m); open_ = λ p o. omega (arith, m) }
fewer h (Published n ∷ log) j = let f = fewer h log j.1 in let m = f.open_ j.0.plain j.0.opened in record { most = m; open_ = λ p o. absurd (true≢false (sym p)) }
fewer h (Saw t low high b rows ∷ log) j = let f = fewer h log j.1 in record { most = f.most; open_ = f.open_ }
fewer h (Refused r answer ∷ log) j = let f = fewer h log j.1 in record { most = f.most; open_ = f.open_ }
fewer h (Outside t ∷ log) j = let f = fewer h log j.1 in record { most = f.most; open_ = f.open_ }
fewer h (Wrote r image ∷ log) j = let f = fewer h log j.1 in record { most = f.most; open_ = f.open_ }
fewer h (Undid r ∷ log) j = let f = fewer h log j.1 in record { most = f.most; open_ = λ p o. absurd (true≢false (sym p)) }
fewer h (Over ∷ log) j = let f = fewer h log j.1 in record { most = f.most; open_ = λ p o. absurd (let x = o in cc) }

-- each commit number is counted once
numbers_most : (m j : ℕ) (log : List LogEntry) → sum_below m (λ n. length (published n j log)) ≤ pubs log
unfolding pubs
numbers_most m j [] = omega (arith, below_none m)
numbers_most m j (Published k ∷ log) =
    let f : ℕ → ℕ = λ n. length (published n j log) in
    let g : ℕ → ℕ = λ n. if (k == n) && true then 1 else 0 in
    let each : (n : ℕ) → length (published n j (Published k ∷ log)) ≡ f n + g n = λ n. length-append (published n j log) (if k == n then commit_in j log ∷ [] else []) ∙
    ap (λ x. f n + x) (one_long (k == n)) in
    let a = below_same m (λ n. f n + g n) (λ n. length (published n j (Published k ∷ log))) (λ n l. each n) in
    let b = below_plus m f g in
    let c = below_one m k true in
    let d = numbers_most m j log in omega (arith, a, b, c, d)
  where
    one_long : (b : Bool) → length (if b then commit_in j log ∷ [] else []) ≡ (if b && true then 1 else 0)
    one_long true = refl
    one_long false = refl
numbers_most m j (Began at scope ∷ log) = numbers_most m j log
numbers_most m j (Saw t low high b rows ∷ log) = numbers_most m j log
numbers_most m j (Refused r answer ∷ log) = numbers_most m j log
numbers_most m j (Outside t ∷ log) = numbers_most m j log
numbers_most m j (Wrote r image ∷ log) = numbers_most m j log
numbers_most m j (Undid r ∷ log) = numbers_most m j log
numbers_most m j (Over ∷ log) = numbers_most m j log

begun_most : (quota n : ℕ) (p : Phase) → MayHaveBegun quota p n → n ≤ quota
begun_most quota n Idle h = h
begun_most quota n (Declared scope) h = omega (arith, h)
begun_most quota n (Probed scope f) h = omega (arith, h)
begun_most quota n (Entered scope f) h = omega (arith, h)
begun_most quota n (Fixed scope f m) h = omega (arith, h)
begun_most quota n (Live at scope) h = h

-- ---- one group

-- its commits, session by session
by_session : (sessions : ℕ) (g : Group) → Each (λ c. IsSession sessions c.session) g → length g ≡ sum_to sessions (λ j. length (of_session j g))
by_session n [] h = sym (sum_none n)
by_session n (c ∷ g) h =
    let f : ℕ → ℕ = λ j. length (of_session j g) in
    let f' : ℕ → ℕ = λ j. length (of_session j (c ∷ g)) in
    let rest : length g ≡ sum_to n f = by_session n g h.1 in
    let here : f' c.session ≡ f c.session + 1 = ap (λ b. length (if b then c ∷ of_session c.session g else of_session c.session g)) (alike c.session) ∙
    (let x : ℕ = f c.session in let e : suc x ≡ x + 1 = omega arith in e) in
    let there : (k : ℕ) → (k ≡ c.session → ⊥) → f' k ≡ f k = λ k other. ap (λ b. length (if b then c ∷ of_session k g else of_session k g)) (unlike c.session k other) in
    let all : sum_to n f' ≡ sum_to n f + 1 = sum_grown n c.session 1 f f' h.0.first h.0.last there here in omega (arith, rest, all)
  where
    alike : (j : ℕ) → (j == j) ≡ true
    alike j = grind (arith, nat_tests)

    unlike : (j k : ℕ) → (k ≡ j → ⊥) → (j == k) ≡ false
    unlike j k other = grind (arith, nat_tests)

-- sessions that have no commit there
all_inside : (sessions : ℕ) (g : Group) → ((j : ℕ) → IsSession sessions j ⊎ (of_session j g ≡ [])) → Each (λ c. IsSession sessions c.session) g
all_inside z [] f = tt
all_inside z (c ∷ g) f = (elim (f c.session) [ inl a ↦ a | inr e ↦ absurd (some e) ], all_inside z g (λ j. elim (f j) [ inl a ↦ inl a | inr e ↦ inr (tail j (c.session == j) e) ]))
  where
    alike : (j : ℕ) → (j == j) ≡ true
    alike j = grind (arith, nat_tests)

    some : (if c.session == c.session then c ∷ of_session c.session g else of_session c.session g) ≡ [] → ⊥
    some e = let x : suc (length (of_session c.session g)) ≡ 0 = ap (λ b. length (if b then c ∷ of_session c.session g else of_session c.session g)) (sym (alike c.session)) ∙
        ap length e in absurd (omega (arith, x))

    tail : (j : ℕ) (b : Bool) → (if b then c ∷ of_session j g else of_session j g) ≡ [] → of_session j g ≡ []
    tail j true e = absurd (let x : suc (length (of_session j g)) ≡ 0 = ap length e in omega (arith, x))
    tail j false e = e

-- ---- all groups

pub no_group : (first : ℕ) (h : History) (n : ℕ) → n < first → group_from first h n ≡ []
no_group first [] n l = refl
no_group first (g ∷ h) n l = let e : (first == n) ≡ false = grind (arith, nat_tests) in ap (λ b. if b then g else group_from (suc first) h n) e ∙ no_group (suc first) h n (omega (arith, l))

summed : (first : ℕ) (h : History) → commits_in h ≡ sum_below (first + length h) (λ n. length (group_from first h n))
summed first [] = sym (below_none (first + 0))
summed first (g ∷ h) =
    let f : ℕ → ℕ = λ n. length (group_from (suc first) h n) in
    let f' : ℕ → ℕ = λ n. length (group_from first (g ∷ h) n) in
    let top : suc first + length h ≡ first + suc (length h) = omega arith in
    let rest : commits_in h ≡ sum_below (first + suc (length h)) f = summed (suc first) h ∙ ap (λ m. sum_below m f) top in
    let none : f first ≡ 0 = ap length (no_group (suc first) h first (omega arith)) in
    let here : f' first ≡ f first + length g = ap (λ b. length (if b then g else group_from (suc first) h first)) (alike first) ∙ (let x : ℕ = f first in let y : ℕ = length g in
    let e : y ≡ x + y = omega (arith, none) in e) in
    let there : (k : ℕ) → (k ≡ first → ⊥) → f' k ≡ f k = λ k other. ap (λ b. length (if b then g else group_from (suc first) h k)) (unlike first k other) in
    let all : sum_below (first + suc (length h)) f' ≡ sum_below (first + suc (length h)) f + length g = below_grown (first + suc (length h)) first (length g) f f'
    (omega arith) there here in omega (arith, rest, all)
  where
    alike : (j : ℕ) → (j == j) ≡ true
    alike j = grind (arith, nat_tests)

    unlike : (j k : ℕ) → (k ≡ j → ⊥) → (j == k) ≡ false
    unlike j k other = grind (arith, nat_tests)

-- the commits are at most the begins
pub commits_most : (s : CoreState) → IsSteady s → AloneHaveLogs s.sessions s.log → commits_in s.history ≤ s.sessions * s.quota
commits_most s h alone =
    let a = h.logs_answer in
    let m : ℕ = 1 + length s.history in
    let outside : (i j : ℕ) → IsSession s.sessions j ⊎ (of_session j (group_at s.history i) ≡ []) = λ i j. elim
    (alone j) [ inl session ↦ inl session | inr none ↦ inr (a.commits i j ∙ ap (published i j) none) ] in
    let group : (i : ℕ) → length (group_at s.history i) ≡ sum_to s.sessions (λ j. length (published i j (s.log j))) = λ i. by_session s.sessions (group_at s.history i)
    (all_inside s.sessions (group_at s.history i) (outside i)) ∙ (λ q. sum_to s.sessions (λ j. length (a.commits i j q))) in
    let total : commits_in s.history ≡ sum_below m (λ i. length (group_at s.history i)) = summed 1 s.history in
    let turned : sum_below m (λ i. length (group_at s.history i)) ≡ sum_below m (λ i. sum_to s.sessions (λ j. length (published i j (s.log j)))) = below_same m
    (λ i. sum_to s.sessions (λ j. length (published i j (s.log j)))) (λ i. length (group_at s.history i)) (λ i l. group i) in
    let swapped = sums_swap m s.sessions (λ i j. length (published i j (s.log j))) in
    let few : (j : ℕ) → sum_below m (λ i. length (published i j (s.log j))) ≤ s.quota = λ j. omega
    (arith, numbers_most m j (s.log j), (fewer s.history (s.log j) (a.judged j)).most, begun_most s.quota (begans (s.log j)) (s.phase j) (a.room j)) in
    let most = sum_most s.sessions s.quota (λ j. sum_below m (λ i. length (published i j (s.log j)))) few in
    omega (arith, total, turned, swapped, most)
