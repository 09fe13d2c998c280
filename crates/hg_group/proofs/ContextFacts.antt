-- The contexts with a group more.
use Rattle.std.proofs.Common.{◌≡◌, ℕ, zero, suc, ◌+◌, ◌≤◌, List, [], ◌∷◌, ◌++◌, length, drop, refl, sym, subst, arith}
use Rattle.hg_base.specs.History.{Group, History}
use Rattle.hg_queue.specs.Rids.{Rids}
use Rattle.hg_group.specs.Contexts.{IsContextOf, context_of, EachContextOf, AreContexts}

each_more : (n : ℕ) (gs : List Group) (cs : List Rids) (g : Group) (c : Rids) → EachContextOf n gs cs → IsContextOf (n + length gs) g (context_of (n + length gs) c) →
    EachContextOf n (gs ++ g ∷ []) (cs ++ c ∷ [])
each_more n [] [] g c each last = let e : n + 0 ≡ n = omega arith in (subst (λ m. IsContextOf m g (context_of m c)) e last, tt)
each_more n [] (d ∷ cs) g c each last = absurd each
each_more n (f ∷ gs) [] g c each last = absurd each
each_more n (f ∷ gs) (d ∷ cs) g c each last = let e : n + suc (length gs) ≡ suc n + length gs = omega arith in
    (each.0, each_more (suc n) gs cs g c each.1 (subst (λ m. IsContextOf m g (context_of m c)) e last))

drop_more : (k : ℕ) (h : History) (g : Group) → k ≤ length h → drop k (h ++ g ∷ []) ≡ drop k h ++ g ∷ []
drop_more zero h g le = refl
drop_more (suc k) [] g le = absurd (omega (arith, le))
drop_more (suc k) (f ∷ h) g le = drop_more k h g (omega (arith, le))

pub drop_length : (k : ℕ) (h : History) → k ≤ length h → suc k + length (drop k h) ≡ suc (length h)
drop_length zero h le = let e : length (drop 0 h) ≡ length h = refl in omega (arith, e)
drop_length (suc k) [] le = absurd (omega (arith, le))
drop_length (suc k) (f ∷ h) le = let e : suc k + length (drop k h) ≡ suc (length h) = drop_length k h (omega (arith, le)) in omega (arith, e)

pub contexts_more : (h : History) (taken : ℕ) (cs : List Rids) (g : Group) (c : Rids) → taken ≤ length h → AreContexts h taken cs →
    IsContextOf (suc (length h)) g (context_of (suc (length h)) c) → AreContexts (h ++ g ∷ []) taken (cs ++ c ∷ [])
contexts_more h taken cs g c le are last = subst (λ gs. EachContextOf (suc taken) gs (cs ++ c ∷ [])) (sym (drop_more taken h g le))
    (each_more (suc taken) (drop taken h) cs g c are (subst (λ m. IsContextOf m g (context_of m c)) (sym (drop_length taken h le)) last))
