-- A history that goes on: what it shows at its first numbers, and the newest group that writes a record.
use Rattle.std.proofs.Common.{◌≡◌, ℕ, zero, suc, ◌+◌, ◌<◌, ◌≤◌, List, [], ◌∷◌, ◌++◌, length, map, Bool, true, false, Option, Some, None, refl, sym, ap, ◌∙◌, subst, arith}
use Rattle.std.specs.Prelude.{◌==◌, ◌||◌, filter, nat_le, option_map, unwrap_or, IsTrue}
use Rattle.std.specs.List.{list_any, cons_option}
use Rattle.std.proofs.lemmas.Bool.Decides.{Decides-eqb, nat_tests}
use Rattle.std.proofs.lemmas.List.Elements.{filter-append}
use Rattle.hg_base.specs.declared.rid.Rid.{Rid}
use Rattle.hg_base.specs.declared.image.Image.{Image}
use Rattle.hg_base.specs.Lists.{Each, greatest}
use Rattle.hg_base.specs.History.{Write, History, does_write, group_image, image_in, last_image, seen, visible, writes, writes_from}
use Rattle.hg_base.proofs.ListFacts.{any_more, append_nil, cases, cons_option_append, each_keeps}
use Rattle.hg_base.proofs.HistoryFacts.{filter_none}
use Rattle.hg_exact.specs.Answers.{newest}
use Rattle.hg_exact.proofs.Causes.{greatest_in}
use Rattle.hg_exact.proofs.Keeping.{newest_most}

pub writes_append : (n : ℕ) (h k : History) (r : Rid) → writes_from n (h ++ k) r ≡ writes_from n h r ++ writes_from (n + length h) k r
writes_append n [] k r = let e : n ≡ n + zero = omega arith in ap (λ m. writes_from m k r) e
writes_append n (g ∷ gs) k r =
    let e : suc n + length gs ≡ n + suc (length gs) = omega arith in
    ap (cons_option (option_map (λ image. (n, image)) (group_image r g))) (writes_append (suc n) gs k r ∙ ap (λ m. writes_from (suc n) gs r ++ writes_from m k r) e)
    ∙ cons_option_append (option_map (λ image. (n, image)) (group_image r g)) (writes_from (suc n) gs r) (writes_from (n + suc (length gs)) k r)

pub writes_over : (n : ℕ) (k : History) (r : Rid) → Each (λ (w : ℕ × Image). n ≤ w.0) (writes_from n k r)
writes_over n [] r = tt
writes_over n (g ∷ gs) r = go (group_image r g) (each_keeps (λ (w : ℕ × Image). suc n ≤ w.0) (λ w. n ≤ w.0) (λ w l. omega (arith, l)) (writes_from (suc n) gs r) (writes_over (suc n) gs r))
  where
    go : (o : Option Image) → Each (λ (w : ℕ × Image). n ≤ w.0) (writes_from (suc n) gs r) →
        Each (λ (w : ℕ × Image). n ≤ w.0) (cons_option (option_map (λ image. (n, image)) o) (writes_from (suc n) gs r))
    go None h = h
    go (Some i) h = (omega arith, h)

pub visible_longer : (h k : History) (r : Rid) (s : ℕ) → s ≤ length h → visible (h ++ k) r s ≡ visible h r s
visible_longer h k r s l =
    let p : ℕ × Image → Bool = λ w. nat_le w.0 s in
    let later = writes_from (1 + length h) k r in
    ap last_image (ap (filter p) (writes_append 1 h k r) ∙ filter-append p (writes h r) later
    ∙ ap (λ ws. filter p (writes h r) ++ ws) (filter_none s later (each_keeps (λ (w : ℕ × Image). 1 + length h ≤ w.0) (λ w. s < w.0) (λ w m. omega (arith, l, m)) later
    (writes_over (1 + length h) k r))) ∙ append_nil (filter p (writes h r)))

pub seen_longer : (h k : History) (own : List Write) (at : ℕ) → at ≤ length h → seen (h ++ k) own at ≡ seen h own at
seen_longer h k own at l = λ i r. unwrap_or (image_in r own) (visible_longer h k r at l i)

-- ---- the newest

pub none_there : (n c : ℕ) (ws : List (ℕ × Image)) → c < n → Each (λ (w : ℕ × Image). n ≤ w.0) ws → list_any (λ (w : ℕ × Image). w.0 == c) ws ≡ false
none_there n c [] l e = refl
none_there n c (w ∷ ws) l e = ap (λ b. b || list_any (λ (v : ℕ × Image). v.0 == c) ws) (let m = e.0 in let f : (w.0 == c) ≡ false = grind (arith, nat_tests) in f) ∙ none_there n c ws l e.1

any_split : (c : ℕ) (xs ys : List (ℕ × Image)) → list_any (λ (w : ℕ × Image). w.0 == c) ys ≡ false → list_any (λ (w : ℕ × Image). w.0 == c) (xs ++ ys) ≡ true →
    list_any (λ (w : ℕ × Image). w.0 == c) xs ≡ true
any_split c [] ys f e = absurd (let bad : true ≡ false = sym e ∙ f in cc)
any_split c (x ∷ xs) ys f e = cases (x.0 == c) (λ q. ap (λ b. b || list_any (λ (w : ℕ × Image). w.0 == c) xs) q)
    (λ q. ap (λ b. b || list_any (λ (w : ℕ × Image). w.0 == c) xs) q ∙ any_split c xs ys f (sym (ap (λ b. b || list_any (λ (w : ℕ × Image). w.0 == c) (xs ++ ys)) q) ∙ e))

any_most : (c : ℕ) (ws : List (ℕ × Image)) → list_any (λ (w : ℕ × Image). w.0 == c) ws ≡ true → c ≤ greatest (map (λ (w : ℕ × Image). w.0) ws)
any_most c [] e = absurd (let bad : false ≡ true = e in cc)
any_most c (w ∷ ws) e = cases (w.0 == c) (λ q. let s : w.0 ≡ c = (Decides-eqb w.0 c).0 q in
    omega (arith, s)) (λ q. let k = any_most c ws (sym (ap (λ b. b || list_any (λ (v : ℕ × Image). v.0 == c) ws) q) ∙ e) in omega (arith, k))

-- no group up to the end of h that writes r is over c
pub newest_within : (h k : History) (r : Rid) (c : ℕ) → ((n : ℕ) → n ≤ length h → IsTrue (does_write (h ++ k) n r) → n ≤ c) → newest h r ≤ c
newest_within h k r c f = go (newest h r) refl
  where
    go : (m : ℕ) → newest h r ≡ m → m ≤ c
    go zero e = omega arith
    go (suc m) e =
        let there : list_any (λ (w : ℕ × Image). w.0 == newest h r) (writes h r) ≡ true = greatest_in (writes h r) (omega (arith, e)) in
        subst (λ n. n ≤ c) e (f (newest h r) (newest_most h r) (ap (list_any (λ (w : ℕ × Image). w.0 == newest h r)) (writes_append 1 h k r) ∙
        any_more (λ (w : ℕ × Image). w.0 == newest h r) (writes h r) (writes_from (1 + length h) k r) there))

pub newest_is : (h k : History) (r : Rid) (c : ℕ) → c ≤ length h → IsTrue (does_write (h ++ k) c r) → ((n : ℕ) → n ≤ length h → IsTrue (does_write (h ++ k) n r) → n ≤ c) → newest h r ≡ c
newest_is h k r c l does f =
    let most : newest h r ≤ c = newest_within h k r c f in
    let there = any_split c (writes h r) (writes_from (1 + length h) k r) (none_there (1 + length h) c (writes_from (1 + length h) k r) (omega (arith, l))
    (writes_over (1 + length h) k r)) (sym (ap (list_any (λ (w : ℕ × Image). w.0 == c)) (writes_append 1 h k r)) ∙ does) in
    let least : c ≤ newest h r = any_most c (writes h r) there in
    omega (arith, most, least)
