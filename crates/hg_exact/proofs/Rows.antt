-- The rows that are seen of a table are those of a scan, and the first of them those of a fetch.
use Rattle.std.proofs.Common.{◌≡◌, ℕ, suc, ◌<◌, ◌≤◌, ◌⊎◌, inl, inr, List, [], ◌∷◌, ◌++◌, length, take, drop, Bool, true, false, Option, Some, None, refl, sym, ap, ◌∙◌, subst, arith}
use Rattle.std.proofs.Common.{take_all, length-take, take-append-drop}
use Rattle.std.specs.Prelude.{◌==◌, ◌&&◌, ◌||◌, cond, filter, filter_map, unwrap_or, nat_lt, nat_le, option_map, IsTrue}
use Rattle.std.specs.List.{list_any, cons_option, flat_map}
use Rattle.std.specs.Option.{option_or}
use Rattle.std.proofs.lemmas.Bool.{or_parts}
use Rattle.std.proofs.lemmas.Bool.Decides.{Decides-eqb, nat_tests}
use Rattle.hg_base.specs.declared.rid.Rid.{Rid}
use Rattle.hg_base.specs.declared.rid.TableId.{TableId}
use Rattle.hg_base.specs.declared.image.Image.{Image}
use Rattle.hg_base.specs.declared.value.Value.{Value}
use Rattle.hg_base.specs.Lists.{Each, Ascends}
use Rattle.hg_base.specs.History.{Write, Group, History, group_image, group_rids, image_in, is_among, last_image, nothing, rids_of, same_rid, seen, visible, writes_from}
use Rattle.hg_base.specs.Replies.{AreRows, AreFirst}
use Rattle.hg_base.specs.Transcript.{last_key, passed}
use Rattle.hg_base.proofs.ListFacts.{cases}
use Rattle.hg_exact.specs.State.{Open, State}
use Rattle.hg_exact.specs.Answers.{keys_in, row_within, rows_seen}
use Rattle.hg_exact.proofs.Keys.{Rows, keys, ascends_tail, ascends_over, ascends_cons, keys_ascend, has, same_number, or_more, or_keeps, keys_have}

-- ---- what is not written is not seen

among_append : (r : Rid) (xs ys : List Rid) → is_among r (xs ++ ys) ≡ (is_among r xs || is_among r ys)
among_append r [] ys = refl
among_append r (x ∷ xs) ys = ap (λ b. same_rid r x || b) (among_append r xs ys) ∙ or_assoc (same_rid r x) (is_among r xs) (is_among r ys)
  where
    or_assoc : (a b c : Bool) → (a || (b || c)) ≡ ((a || b) || c)
    or_assoc true b c = refl
    or_assoc false b c = refl

same_back : (r q : Rid) → same_rid r q ≡ false → same_rid q r ≡ false
same_back r q e = grind (arith, nat_tests)

pub no_image : (r : Rid) (ws : List Write) → is_among r (rids_of ws) ≡ false → image_in r ws ≡ None
no_image r [] e = refl
no_image r (w ∷ ws) e =
    let k = or_parts (same_rid r w.rid) (is_among r (rids_of ws)) e in
    ap (λ b. cond b (Some w.image) (image_in r ws)) (same_back r w.rid k.0) ∙ no_image r ws k.1

no_group : (r : Rid) (g : Group) → is_among r (group_rids g) ≡ false → group_image r g ≡ None
no_group r [] e = refl
no_group r (c ∷ cs) e =
    let k = or_parts (is_among r (rids_of c.images)) (is_among r (group_rids cs)) (sym (among_append r (rids_of c.images) (group_rids cs)) ∙ e) in
    ap (λ o. option_or o (group_image r cs)) (no_image r c.images k.0) ∙ no_group r cs k.1

no_writes : (r : Rid) (n : ℕ) (h : History) → is_among r (flat_map group_rids h) ≡ false → writes_from n h r ≡ []
no_writes r n [] e = refl
no_writes r n (g ∷ gs) e =
    let k = or_parts (is_among r (group_rids g)) (is_among r (flat_map group_rids gs)) (sym (among_append r (group_rids g) (flat_map group_rids gs)) ∙ e) in
    ap (λ o. cons_option (option_map (λ image. (n, image)) o) (writes_from (suc n) gs r)) (no_group r g k.0) ∙ no_writes r (suc n) gs k.1

not_seen : (h : History) (own : List Write) (at : ℕ) (r : Rid) → is_among r (flat_map group_rids h ++ rids_of own) ≡ false → seen h own at r ≡ nothing
not_seen h own at r e =
    let k = or_parts (is_among r (flat_map group_rids h)) (is_among r (rids_of own)) (sym (among_append r (flat_map group_rids h) (rids_of own)) ∙ e) in
    ap (λ o. unwrap_or o (visible h r at)) (no_image r own k.1) ∙ ap (λ ws. last_image (filter (λ (w : ℕ × Image). nat_le w.0 at) ws)) (no_writes r 1 h k.0)

-- ---- the rows of a range

module _ (look : ℕ → Image) (low : ℕ) (high : ℕ) where
  abbrev picked : List ℕ → Rows
  picked ks = filter_map (row_within look low high) ks

  -- a row of the range, by its key
  abbrev IsRow : ℕ × List Value → Type 0
  IsRow p = (low ≤ p.0) × (p.0 ≤ high) × ((look p.0).row ≡ Some p.1)

  one_over : (a : ℕ) (k : ℕ) (rows : Rows) → a < k → Each (λ m. a < m) (keys rows) → Each (λ m. a < m) (keys (cons_option (row_within look low high k) rows))
  one_over a k rows h e = go (nat_le low k && nat_le k high) (look k).row
    where
      go : (b : Bool) (o : Option (List Value)) → Each (λ m. a < m) (keys (cons_option (cond b (option_map (λ row. (k, row)) o) None) rows))
      go true None = e
      go true (Some row) = (h, e)
      go false o = e

  picked_over : (a : ℕ) (ks : List ℕ) → Each (λ k. a < k) ks → Each (λ m. a < m) (keys (picked ks))
  picked_over a [] e = tt
  picked_over a (k ∷ ks) e = one_over a k (picked ks) e.0 (picked_over a ks e.1)

  picked_ascend : (ks : List ℕ) → Ascends ks → Ascends (keys (picked ks))
  picked_ascend [] h = tt
  picked_ascend (k ∷ ks) h = go (nat_le low k && nat_le k high) (look k).row (picked_ascend ks (ascends_tail k ks h)) (picked_over k ks (ascends_over k ks h))
    where
      go : (b : Bool) (o : Option (List Value)) → Ascends (keys (picked ks)) → Each (λ m. k < m) (keys (picked ks)) →
          Ascends (keys (cons_option (cond b (option_map (λ row. (k, row)) o) None) (picked ks)))
      go true None a e = a
      go true (Some row) a e = ascends_cons k (keys (picked ks)) e a
      go false o a e = a

  in_range : (k : ℕ) → (nat_le low k && nat_le k high) ≡ true → (low ≤ k) × (k ≤ high)
  in_range k e = (let a : low ≤ k = grind (arith, nat_tests) in a, let a : k ≤ high = grind (arith, nat_tests) in a)

  picked_each : (ks : List ℕ) → Each IsRow (picked ks)
  picked_each [] = tt
  picked_each (k ∷ ks) = go (nat_le low k && nat_le k high) refl (look k).row refl (picked_each ks)
    where
      go : (b : Bool) → (nat_le low k && nat_le k high) ≡ b → (o : Option (List Value)) → (look k).row ≡ o → Each IsRow (picked ks) →
          Each IsRow (cons_option (cond b (option_map (λ row. (k, row)) o) None) (picked ks))
      go true e None f h = h
      go true e (Some row) f h = (((in_range k e).0, (in_range k e).1, f), h)
      go false e o f h = h

  -- the key of a row that is picked, or none is seen there
  picked_every : (key : ℕ) (ks : List ℕ) → low ≤ key → key ≤ high → has key ks ≡ true → IsTrue (list_any (λ p. p.0 == key) (picked ks)) ⊎ ((look key).row ≡ None)
  picked_every key [] a b e = absurd (let bad : false ≡ true = e in cc)
  picked_every key (k ∷ ks) a b e = cases (k == key)
      (λ f. subst (λ n. IsTrue (list_any (λ p. p.0 == key) (cons_option (row_within look low high n) (picked ks))) ⊎ ((look key).row ≡ None)) (sym ((Decides-eqb k key).0 f))
      (here (look key).row refl))
      (λ f. there (row_within look low high k) (picked_every key ks a b (sym (ap (λ c. c || has key ks) f) ∙ e)))
    where
      inside : (nat_le low key && nat_le key high) ≡ true
      inside = grind (arith, nat_tests)

      here : (o : Option (List Value)) → (look key).row ≡ o → IsTrue (list_any (λ p. p.0 == key) (cons_option (row_within look low high key) (picked ks))) ⊎ ((look key).row ≡ None)
      here None f = inr f
      here (Some row) f = inl (ap (λ (x : Bool). list_any (λ (p : ℕ × List Value). p.0 == key)
          (cons_option (cond x (option_map (λ row. (key, row)) (look key).row) None) (picked ks))) inside ∙
          ap (λ (o : Option (List Value)). list_any (λ (p : ℕ × List Value). p.0 == key) (cons_option (option_map (λ row. (key, row)) o) (picked ks))) f ∙
          ap (λ c. c || list_any (λ (p : ℕ × List Value). p.0 == key) (picked ks)) (same_number key))

      there : (o : Option (ℕ × List Value)) → IsTrue (list_any (λ p. p.0 == key) (picked ks)) ⊎ ((look key).row ≡ None) →
          IsTrue (list_any (λ p. p.0 == key) (cons_option o (picked ks))) ⊎ ((look key).row ≡ None)
      there None h = h
      there (Some p) (inl h) = inl (or_keeps (p.0 == key) (list_any (λ (q : ℕ × List Value). q.0 == key) (picked ks)) h)
      there (Some p) (inr h) = inr h

-- the rows that are seen are those of a scan
pub rows_are : (s : State) (o : Open) (table : TableId) (low high : ℕ) → AreRows (λ key. seen s.history o.wrote o.at (record { table = table; key = key })) low high (rows_seen s o table low high)
rows_are s o table low high =
    let look : ℕ → Image = λ key. seen s.history o.wrote o.at (record { table = table; key = key }) in
    let rids : List Rid = flat_map group_rids s.history ++ rids_of o.wrote in
    record {
      ascend = picked_ascend look low high (keys_in table rids) (keys_ascend table rids);
      each = picked_each look low high (keys_in table rids);
      every = λ key a b. cases (is_among (record { table = table; key = key }) rids)
          (λ e. picked_every look low high key (keys_in table rids) a b (keys_have table key rids e))
          (λ e. inr (ap (λ (i : Image). i.row) (not_seen s.history o.wrote o.at (record { table = table; key = key }) e)));
    }

-- ---- the first rows

last_over : (none : ℕ) (p : ℕ × List Value) (rows : Rows) → Ascends (keys (p ∷ rows)) → Each (λ q. q.0 ≤ last_key none (p ∷ rows)) (p ∷ rows)
last_over none p [] h = (omega arith, tt)
last_over none p (q ∷ rows) h =
    let later = last_over none q rows h.1 in
    ((let a : p.0 < q.0 = h.0 in let b : q.0 ≤ last_key none (q ∷ rows) = later.0 in omega (arith, a, b)), later)

over_keys : (n : ℕ) (rows : Rows) → Each (λ m. n < m) (keys rows) → Each (λ q. n < q.0) rows
over_keys n [] h = tt
over_keys n (p ∷ rows) h = (h.0, over_keys n rows h.1)

after_last : (none : ℕ) (p : ℕ × List Value) (rows more : Rows) → Ascends (keys (p ∷ (rows ++ more))) → Each (λ q. last_key none (p ∷ rows) < q.0) more
after_last none p [] more h = over_keys p.0 more (ascends_over p.0 (keys more) h)
after_last none p (q ∷ rows) more h = after_last none q rows more h.1

ascends_first : (rows more : Rows) → Ascends (keys (rows ++ more)) → Ascends (keys rows)
ascends_first [] more h = tt
ascends_first (p ∷ []) more h = tt
ascends_first (p ∷ q ∷ rows) more h = (h.0, ascends_first (q ∷ rows) more h.1)

each_first : {X : Type 0} (P : X → Type 0) (xs ys : List X) → Each P (xs ++ ys) → Each P xs
each_first P [] ys h = tt
each_first P (x ∷ xs) ys h = (h.0, each_first P xs ys h.1)

each_two : {X : Type 0} (P Q R : X → Type 0) (xs : List X) → ((x : X) → P x → Q x → R x) → Each P xs → Each Q xs → Each R xs
each_two P Q R [] f h k = tt
each_two P Q R (x ∷ xs) f h k = (f x h.0 k.0, each_two P Q R xs f h.1 k.1)

-- of the rows of a range, one that is not over those of the beginning is in the beginning
in_first : (key n : ℕ) (xs ys : Rows) → key ≤ n → Each (λ q. n < q.0) ys → IsTrue (list_any (λ p. p.0 == key) (xs ++ ys)) → IsTrue (list_any (λ p. p.0 == key) xs)
in_first key n [] [] k h e = e
in_first key n [] (y ∷ ys) k h e = in_first key n [] ys k h.1 (sym (ap (λ b. b || list_any (λ (p : ℕ × List Value). p.0 == key) ys) (let a : n < y.0 = h.0 in
    let f : (y.0 == key) ≡ false = grind (arith, nat_tests) in f)) ∙ e)
in_first key n (x ∷ xs) ys k h e = or_more (x.0 == key) (list_any (λ (p : ℕ × List Value). p.0 == key) (xs ++ ys)) (list_any (λ (p : ℕ × List Value). p.0 == key) xs) e (in_first key n xs ys k h)

first_are : (look : ℕ → Image) (low high : ℕ) (p : ℕ × List Value) (rows more : Rows) → AreRows look low high (p ∷ (rows ++ more)) → AreRows look low (last_key high (p ∷ rows)) (p ∷ rows)
first_are look low high p rows more a =
    let first : Ascends (keys (p ∷ rows)) = ascends_first (p ∷ rows) more a.ascend in
    let top : ℕ = last_key high (p ∷ rows) in
    let most : top ≤ high = last_most p rows (each_first _ (p ∷ rows) more a.each) in
    record {
      ascend = first;
      each = each_two _ (λ q. q.0 ≤ top) _ (p ∷ rows) (λ q h k. (h.0, k, h.2)) (each_first _ (p ∷ rows) more a.each) (last_over high p rows first);
      every = λ key b c. among key c (a.every key b (omega (arith, c, most)));
    }
  where
    last_most : (q : ℕ × List Value) (qs : Rows) → Each (λ x. (low ≤ x.0) × (x.0 ≤ high) × ((look x.0).row ≡ Some x.1)) (q ∷ qs) → last_key high (q ∷ qs) ≤ high
    last_most q [] h = h.0.1
    last_most q (r ∷ qs) h = last_most r qs h.1

    among : (key : ℕ) → key ≤ last_key high (p ∷ rows) → IsTrue (list_any (λ q. q.0 == key) (p ∷ (rows ++ more))) ⊎ ((look key).row ≡ None) →
        IsTrue (list_any (λ q. q.0 == key) (p ∷ rows)) ⊎ ((look key).row ≡ None)
    among key c (inl e) = inl (in_first key (last_key high (p ∷ rows)) (p ∷ rows) more c (after_last high p rows more a.ascend) e)
    among key c (inr e) = inr e

pub first_rows : (look : ℕ → Image) (n low high : ℕ) (rows : Rows) → 0 < n → AreRows look low high rows → AreFirst look n low high (take n rows)
first_rows look n low high rows some a = go (nat_lt (length (take n rows)) n) refl
  where
    whole : nat_lt (length (take n rows)) n ≡ true → take n rows ≡ rows
    whole e = take_all n rows (let k = length-take n rows in grind (arith, nat_tests))

    few : length (take n rows) ≤ n
    few = let k = length-take n rows in omega (arith, k)

    last_within : (xs ys : Rows) → 0 < length xs → AreRows look low high (xs ++ ys) → (last_key high xs ≤ high) × AreRows look low (last_key high xs) xs
    last_within [] ys k b = absurd (omega (arith, k))
    last_within (x ∷ xs) ys k b =
        let is = first_are look low high x xs ys b in
        (most x xs (each_first _ (x ∷ xs) ys b.each), is)
      where
        most : (q : ℕ × List Value) (qs : Rows) → Each (λ z. (low ≤ z.0) × (z.0 ≤ high) × ((look z.0).row ≡ Some z.1)) (q ∷ qs) → last_key high (q ∷ qs) ≤ high
        most q [] h = h.0.1
        most q (r ∷ qs) h = most r qs h.1

    go : (b : Bool) → nat_lt (length (take n rows)) n ≡ b → AreFirst look n low high (take n rows)
    go true e =
        let is : passed n high (take n rows) ≡ high = ap (λ b. cond b high (last_key high (take n rows))) e in
        record {
          few = few;
          within = subst (λ m. m ≤ high) (sym is) (omega arith);
          all = subst (λ m. AreRows look low m (take n rows)) (sym is) (subst (AreRows look low high) (sym (whole e)) a);
        }
    go false e =
        let is : passed n high (take n rows) ≡ last_key high (take n rows) = ap (λ b. cond b high (last_key high (take n rows))) e in
        let all = last_within (take n rows) (drop n rows) (let k : n ≤ length (take n rows) = grind (arith, nat_tests) in
        omega (arith, k, some)) (subst (AreRows look low high) (sym (take-append-drop n rows)) a) in
        record {
          few = few;
          within = subst (λ m. m ≤ high) (sym is) all.0;
          all = subst (λ m. AreRows look low m (take n rows)) (sym is) all.1;
        }
