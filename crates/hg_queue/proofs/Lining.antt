-- Each step of the queue keeps its rule.
use Rattle.std.proofs.Common.{◌≡◌, ◌≢◌, inl, inr, ℕ, zero, suc, true, false, true≢false, List, [], ◌∷◌, ◌++◌, map, set, sym, refl, ap, ◌∙◌, subst, ⊎_elim, append_assoc}
use Rattle.std.proofs.lemmas.List.{map-append}
use mathlib.Core.Option.{some, some-ne-none, some-injective}
use lib.ListN.{get_elem?}
use Rattle.crossbeam_queue.specs.Fifo.{Pushes, Pops, Forks}
use Rattle.crossbeam_queue.proofs.Lists.{at_set, at_snoc}
use Rattle.hg_rule.specs.Facts.{StartsWith}
use Rattle.hg_rule.specs.Seats.{BoardId}
use Rattle.hg_rule.proofs.Lists.{each_append, starts_same, starts_on}
use Rattle.hg_queue.specs.declared.handed.Handed.{Handed}
use Rattle.hg_queue.specs.declared.known.Known.{Known}
use Rattle.hg_queue.specs.Handing.{IsHandedOf}
use Rattle.hg_queue.specs.Lines.{pair_of, opening, leader, pusher, with_pairs, Fits, Queued, Ordered, pushed, popped}

-- the only pass is the first of all
only : (v : Known) (i : ℕ) → get_elem? (opening ∷ []) i ≡ some v → (i ≡ 0) × (opening ≡ v)
only v zero e = (refl, some-injective opening v e)
only v (suc i) e = absurd (some-ne-none v (sym e))

-- a pass that does not open is of a queue with a board
queued : (items : List Handed) (views : List Known) (i : ℕ) (v : Known) → Ordered items views → get_elem? views i ≡ some v → v.opens ≡ false → Queued items views
queued items views i v (inl h) at shut = absurd (true≢false (ap (λ (k : Known). k.opens) (only v i (ap (λ l. get_elem? l i) (sym h.1) ∙ at)).1 ∙ shut))
queued items views i v (inr h) at shut = h

pub begins : Ordered [] (opening ∷ [])
begins = inl (refl, refl)

pub opens : (i : ℕ) (v : Known) (t : BoardId) → v ≡ opening → Forks Ordered i v (leader t) (pusher t)
opens i v t is items views (inl h) at = let e = only v i (ap (λ l. get_elem? l i) (sym h.1) ∙ at) in
    inr (subst (λ (l : List Known). Queued items (l ++ pusher t ∷ [])) (sym (ap (λ (l : List Known). set l i (leader t)) h.1 ∙ ap (λ n. set (opening ∷ []) n (leader t)) e.0))
    (subst (λ (l : List Handed). Queued l (leader t ∷ pusher t ∷ [])) (sym h.0) record { board = t; at = 0; out = []; good = tt; fits = two }))
  where
    two : (j : ℕ) (u : Known) → get_elem? (leader t ∷ pusher t ∷ []) j ≡ some u → Fits t 0 [] [] j u
    two zero u e = subst (Fits t 0 [] [] 0) (some-injective (leader t) u e) record { opened = refl; board_is = refl; leads = λ _. (refl, refl); pushes = λ p. absurd (true≢false p) }
    two (suc zero) u e = subst (Fits t 0 [] [] 1) (some-injective (pusher t) u e) record { opened = refl; board_is = refl; leads = λ p. absurd (true≢false (sym p)); pushes = λ _. ([], refl) }
    two (suc (suc j)) u e = absurd (some-ne-none u (sym e))
opens i v t is items views (inr q) at = absurd (true≢false (sym (ap (λ (k : Known). k.opens) is) ∙ (q.fits i v at).opened))

pub twins : (i : ℕ) (v : Known) → v.opens ≡ false → v.leads ≡ false → Forks Ordered i v v v
twins i v shut push items views h at = let q = queued items views i v h at shut in let mine = q.fits i v at in
    inr record {
      board = q.board;
      at = q.at;
      out = q.out;
      good = q.good;
      fits = λ j u e. ⊎_elim
          (λ (x : get_elem? (set views i v) j ≡ some u). ⊎_elim (λ (y : (j ≡ i) × (v ≡ u)). subst (Fits q.board q.at q.out (q.out ++ map pair_of items) j) y.1
          (subst (λ n. Fits q.board q.at q.out (q.out ++ map pair_of items) n v) (sym y.0) mine)) (λ (y : (j ≢ i) × (get_elem? views j ≡ some u)). q.fits j u y.1) (at_set views i j v u x))
          (λ (x : v ≡ u). subst (Fits q.board q.at q.out (q.out ++ map pair_of items) j) x record {
            opened = mine.opened;
            board_is = mine.board_is;
            leads = λ p. absurd (true≢false (sym p ∙ push));
            pushes = mine.pushes;
          })
          (at_snoc (set views i v) v u j e);
    }

pub may_push : (n i : ℕ) (v : Known) (x : Handed) → v.opens ≡ false → v.leads ≡ false → IsHandedOf v.board.id x → Pushes Ordered n i v x (pushed v x)
may_push n i v x shut push good items views room h at = let q = queued items views i v h at shut in let mine = q.fits i v at in let start = mine.pushes push in
    let all : List (ℕ × ℕ) = q.out ++ map pair_of items in
    let new : List (ℕ × ℕ) = q.out ++ map pair_of (items ++ x ∷ []) in
    let more : new ≡ all ++ pair_of x ∷ [] = ap (λ l. q.out ++ l) (map-append pair_of items (x ∷ [])) ∙ sym (append_assoc q.out (map pair_of items) (pair_of x ∷ [])) in
    let is : v.pairs ++ (start.0 ++ pair_of x ∷ []) ≡ new = sym (append_assoc v.pairs start.0 (pair_of x ∷ [])) ∙ (ap (λ l. l ++ pair_of x ∷ []) (sym start.1) ∙ sym more) in
    let w : Known = with_pairs (v.pairs ++ (start.0 ++ pair_of x ∷ [])) v in (
      w,
      inr record {
        board = q.board;
        at = q.at;
        out = q.out;
        good = each_append (IsHandedOf q.board) items (x ∷ []) q.good (subst (λ t. IsHandedOf t x) mine.board_is good, tt);
        fits = λ j u e. ⊎_elim
            (λ (y : (j ≡ i) × (w ≡ u)). subst (Fits q.board q.at q.out new j) y.1 record {
              opened = shut;
              board_is = mine.board_is;
              leads = λ p. absurd (true≢false (sym p ∙ push));
              pushes = λ _. subst (StartsWith new) (sym is) (starts_same new);
            })
            (λ (y : (j ≢ i) × (get_elem? views j ≡ some u)). let f = q.fits j u y.1 in
            record { opened = f.opened; board_is = f.board_is; leads = f.leads; pushes = λ p. starts_on new all u.pairs (f.pushes p) (pair_of x ∷ [], more) })
            (at_set views i j w u e);
      },
      (start.0, refl),
    )

pub may_pop : (i : ℕ) (v : Known) → v.opens ≡ false → v.leads ≡ true → Pops Ordered i v (popped v)
may_pop i v shut pop x items views h at = let q = queued (x ∷ items) views i v h at shut in let mine = q.fits i v at in let lead = mine.leads pop in
    let w : Known = with_pairs (v.pairs ++ pair_of x ∷ []) v in
    let out : List (ℕ × ℕ) = q.out ++ pair_of x ∷ [] in
    let same : q.out ++ map pair_of (x ∷ items) ≡ out ++ map pair_of items = sym (append_assoc q.out (pair_of x ∷ []) (map pair_of items)) in (
      w,
      inr record {
        board = q.board;
        at = q.at;
        out = out;
        good = q.good.1;
        fits = λ j u e. ⊎_elim
            (λ (y : (j ≡ i) × (w ≡ u)). subst (Fits q.board q.at out (out ++ map pair_of items) j) y.1 record {
              opened = shut;
              board_is = mine.board_is;
              leads = λ _. (y.0 ∙ lead.0, ap (λ l. l ++ pair_of x ∷ []) lead.1);
              pushes = λ p. absurd (true≢false (sym pop ∙ p));
            })
            (λ (y : (j ≢ i) × (get_elem? views j ≡ some u)). let f = q.fits j u y.1 in record {
              opened = f.opened;
              board_is = f.board_is;
              leads = λ p. absurd (y.0 ((f.leads p).0 ∙ sym lead.0));
              pushes = λ p. subst (λ l. StartsWith l u.pairs) same (f.pushes p);
            })
            (at_set views i j w u e);
      },
      (refl, subst (λ t. IsHandedOf t x) (sym mine.board_is) q.good.0),
    )
