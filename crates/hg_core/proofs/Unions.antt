-- Two passes become one: the first has the visits of both.
use Rattle.std.proofs.Common.{◌≡◌, ◌≢◌, ◌⊎◌, inl, inr, ℕ, zero, suc, ◌+◌, ◌<◌, ◌≤◌, List, [], ◌∷◌, ◌++◌, length, sym, ap, ◌∙◌, arith}
use Rattle.std.specs.Prelude.{if◌then◌else◌, IfSome, ◌==◌}
use native.Mathlib.Decide.{dec_le}
use Rattle.hg_base.specs.declared.report.Kind.{Kind}
use Rattle.hg_base.specs.Lists.{Each}
use Rattle.hg_core.specs.declared.visit.Visit.{Visit}
use Rattle.hg_core.specs.Contents.{versions}
use Rattle.hg_core.specs.Passes.{PassRecord, found, no_record}
use Rattle.hg_core.specs.Counters.{removed_by, removed_in}
use Rattle.hg_core.specs.Sums.{sum_below}
use Rattle.hg_core.specs.Visits.{IsVisit}
use Rattle.hg_core.specs.Bounds.{Bounds}
use Rattle.hg_core.specs.Reach.{StandsIn}
use Rattle.hg_core.specs.State.{CoreState}
use Rattle.hg_core.specs.Events.{put}
use Rattle.hg_core.specs.Steps.{Unite, with_journal, united, step, Can}
use Rattle.hg_core.specs.Invariant.{IsSteady}
use Rattle.hg_core.proofs.Indices.{by_number, put_here, put_else}
use Rattle.hg_core.proofs.Sums.{below_grown}

each_both : {A : Type 0} (P : A → Type 0) (xs ys : List A) → Each P xs → Each P ys → Each P (xs ++ ys)
each_both P [] ys a b = b
each_both P (x ∷ xs) ys a b = (a.0, each_both P xs ys a.1 b)

removed_append : (kind : Kind) (b : ℕ) (xs ys : List Visit) → removed_in kind b (xs ++ ys) ≡ removed_in kind b xs + removed_in kind b ys
removed_append kind b [] ys = omega arith
removed_append kind b (x ∷ xs) ys = let a : ℕ = if x.bucket == b then removed_by kind x.removed else 0 in let c : ℕ = removed_in kind b (xs ++ ys) in
    let d : ℕ = removed_in kind b xs in let e : ℕ = removed_in kind b ys in let h : c ≡ d + e = removed_append kind b xs ys in omega arith

below_rest : (n m : ℕ) (f : ℕ → ℕ) → m ≤ n → ((x : ℕ) → m ≤ x → f x ≡ 0) → sum_below n f ≡ sum_below m f
below_rest zero m f le gone = let z : m ≡ 0 = omega arith in ap (λ k. sum_below k f) (sym z)
below_rest (suc n) m f le gone = go (dec_le m n) (λ h. below_rest n m f h gone)
  where
    go : Dec (m ≤ n) → (m ≤ n → sum_below n f ≡ sum_below m f) → sum_below (suc n) f ≡ sum_below m f
    go (yes h) more = let a : ℕ = sum_below n f in let b : ℕ = sum_below m f in let c : ℕ = f n in let e : a ≡ b = more h in let z : c ≡ 0 = gone n h in omega arith
    go (no h) more = let same : suc n ≡ m = omega arith in ap (λ k. sum_below k f) same

module _ (s : CoreState) (p q m : ℕ) (h : IsSteady s) (apart : p ≢ q) (p_low : p < s.passes) (q_low : q < s.passes) (m_low : m ≤ s.passes) (rest : (x : ℕ) →
    (x < m) ⊎ (put (put s.visits p (s.visits q ++ s.visits p)) q [] x ≡ [])) where
  abbrev moved : ℕ → List Visit
  moved = put s.visits p (s.visits q ++ s.visits p)

  abbrev after : ℕ → List Visit
  after = put moved q []

  abbrev noted : ℕ → PassRecord
  noted = put s.pass p (with_journal s p q)

  after_q : after q ≡ []
  after_q = put_here moved q []

  after_p : after p ≡ s.visits q ++ s.visits p
  after_p = put_else moved q p [] apart ∙ put_here s.visits p _

  sums : (kind : Kind) (b : ℕ) → sum_below s.passes (λ x. removed_in kind b (s.visits x)) ≡ sum_below m (λ x. removed_in kind b (after x))
  sums kind b =
      let f : ℕ → ℕ = λ x. removed_in kind b (s.visits x) in
      let f1 : ℕ → ℕ = λ x. removed_in kind b (moved x) in
      let g : ℕ → ℕ = λ x. removed_in kind b (after x) in
      let n : ℕ = s.passes in
      let a : ℕ = sum_below n f in
      let c : ℕ = sum_below n f1 in
      let d : ℕ = sum_below n g in
      let e : ℕ = sum_below m g in
      let k : ℕ = f q in
      let one : c ≡ a + k = below_grown n p (f q) f f1 p_low (λ x other. ap (removed_in kind b) (put_else s.visits p x _ other)) (grown kind b) in
      let two : c ≡ d + k = below_grown n q (f q) g f1 q_low (λ x other. ap (removed_in kind b) (sym (put_else moved q x [] other))) (gone kind b) in
      let three : d ≡ e = below_rest n m g m_low (λ x le. zero_there kind b x le) in
      omega arith
    where
      grown : (kind : Kind) (b : ℕ) → removed_in kind b (moved p) ≡ removed_in kind b (s.visits p) + removed_in kind b (s.visits q)
      grown kind b = let x : ℕ = removed_in kind b (moved p) in let y : ℕ = removed_in kind b (s.visits p) in let z : ℕ = removed_in kind b (s.visits q) in
          let e : x ≡ z + y = ap (removed_in kind b) (put_here s.visits p _) ∙ removed_append kind b (s.visits q) (s.visits p) in omega arith

      gone : (kind : Kind) (b : ℕ) → removed_in kind b (moved q) ≡ removed_in kind b (after q) + removed_in kind b (s.visits q)
      gone kind b = let x : ℕ = removed_in kind b (moved q) in let y : ℕ = removed_in kind b (after q) in let z : ℕ = removed_in kind b (s.visits q) in
          let e : x ≡ z = ap (removed_in kind b) (put_else s.visits p q _ (λ (t : q ≡ p). apart (sym t))) in let o : y ≡ 0 = ap (removed_in kind b) after_q in omega arith

      zero_there : (kind : Kind) (b x : ℕ) → m ≤ x → removed_in kind b (after x) ≡ 0
      zero_there kind b x le = elim (rest x) [ inl less ↦ absurd (omega arith) | inr bare ↦ ap (removed_in kind b) bare ]

  together_kept : IsSteady (united s p q m)
  together_kept = record {
    mark_is_length = record {
      is_length = h.mark_is_length.is_length;
      sessions = h.mark_is_length.sessions;
      passes = by_number q (λ x b. (if b then no_record else noted x).mark ≤ s.mark) (omega arith)
          (λ x other. by_number p (λ y b. (if b then with_journal s p q else s.pass y).mark ≤ s.mark) (h.mark_is_length.passes p) (λ y away. h.mark_is_length.passes y) x);
    };
    registers_agree = h.registers_agree;
    covered = h.covered;
    open_writes_stand = h.open_writes_stand;
    stamped_is_next = h.stamped_is_next;
    contents_are_ordered = h.contents_are_ordered;
    contents_are_placed = h.contents_are_placed;
    records_bound_sessions = by_number q (λ x b. (j : ℕ) → IfSome (found j (if b then no_record else noted x).loaded)
        (λ loaded. Bounds (if b then no_record else noted x).mark loaded (s.phase j))) (λ j. tt)
        (λ x other. by_number p (λ y b. (j : ℕ) → IfSome (found j (if b then with_journal s p q else s.pass y).loaded) (λ loaded. Bounds (if b then with_journal s p q else s.pass y).mark loaded (s.phase j)))
        (h.records_bound_sessions p) (λ y away. h.records_bound_sessions y) x);
    open_writes_may_commit = h.open_writes_may_commit;
    history = h.history;
    no_update_is_lost = h.no_update_is_lost;
    logs_answer = h.logs_answer;
    replies_answer = h.replies_answer;
    records_reach_logs = record {
      known = by_number q (λ x b. (j : ℕ) → (if b then no_record else noted x).known j ≤ length (s.log j)) (λ j. omega arith)
          (λ x other. by_number p (λ y b. (j : ℕ) → (if b then with_journal s p q else s.pass y).known j ≤ length (s.log j)) (h.records_reach_logs.known p) (λ y away. h.records_reach_logs.known y) x);
      stands = by_number q (λ x b. (j : ℕ) → IfSome (found j (if b then no_record else noted x).loaded)
          (λ loaded. StandsIn ((if b then no_record else noted x).known j) loaded.register (s.log j) (s.phase j))) (λ j. tt)
          (λ x other. by_number p (λ y b. (j : ℕ) → IfSome (found j (if b then with_journal s p q else s.pass y).loaded) (λ loaded. StandsIn ((if b then with_journal s p q else s.pass y).known j) loaded.register (s.log j) (s.phase j)))
          (h.records_reach_logs.stands p) (λ y away. h.records_reach_logs.stands y) x);
    };
    taken_at_most_mark = h.taken_at_most_mark;
    counters_balance = record {
      made = h.counters_balance.made;
      undone = h.counters_balance.undone;
      removed = λ kind b. h.counters_balance.removed kind b ∙ sums kind b;
      balance = h.counters_balance.balance;
    };
    visits_stay = record {
      each = by_number q (λ x b. Each (IsVisit s.buckets s.mark (versions s.buckets s.bucket)) (if b then [] else moved x)) tt
          (λ x other. by_number p (λ y b. Each (IsVisit s.buckets s.mark (versions s.buckets s.bucket)) (if b then s.visits q ++ s.visits p else s.visits y))
          (each_both _ (s.visits q) (s.visits p) (h.visits_stay.each q) (h.visits_stay.each p)) (λ y away. h.visits_stay.each y) x);
      others = rest;
    };
  }

pub unite_kept : (s : CoreState) (p q m : ℕ) → IsSteady s → Can s (Unite p q m) → IsSteady (step s (Unite p q m))
unite_kept s p q m h may = together_kept s p q m h may.apart may.first may.other may.most (λ x. elim (may.rest x) [ inl less ↦ inl less | inr unused ↦ inr unused.none ])
