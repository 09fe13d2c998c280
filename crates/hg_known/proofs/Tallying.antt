-- The first writes of records, line by line.
use Rattle.std.proofs.Common.{◌≡◌, ℕ, suc, ◌+◌, ◌-◌, ◌≤◌, ◌<◌, List, [], ◌∷◌, length, take, Bool, true, false, Some, None, refl, sym, ap, ◌∙◌, subst, arith, cond}
use Rattle.std.specs.Prelude.{◌||◌, ◌==◌, filter, is_some, sum_by, unwrap_or, not}
use Rattle.std.proofs.lemmas.List.Sums.{sum_by-append, sum_by-take-le}
use Rattle.std.specs.List.{list_any}
use Rattle.std.proofs.lemmas.List.{length-take}
use Rattle.std.proofs.lemmas.List.Filters.{length-filter_both}
use Rattle.std.proofs.lemmas.Bool.Decides.{Decides-eqb, nat_tests}
use Rattle.std.specs.BTreeMap.{get, is_at}
use Rattle.hg_base.specs.Lists.{onto}
use Rattle.hg_base.specs.Transcript.{Said, is_of, ends, committed}
use Rattle.hg_base.specs.Counts.{first_write, first_writes, is_committed}
use Rattle.hg_base.proofs.HistoryFacts.{and_parts}
use Rattle.hg_base.proofs.ListFacts.{false_true}
use Rattle.hg_known.specs.declared.own.Tx.{Tx}
use Rattle.hg_known.specs.declared.tally.Tally.{Tally}
use Rattle.hg_known.specs.declared.tally.Versions.{Versions}
use Rattle.hg_known.specs.Ended.{tx, tx_order, is_over, IsOpen}
use Rattle.hg_known.specs.Tallied.{firsts, AreTallied, IsTally}
use Rattle.hg_known.proofs.Walking.{AtLine, earlier_at}
use Rattle.hg_known.proofs.SpotOrder.{at_tx}
use Rattle.hg_known.proofs.Firsts.{commits_one, committed_ends, none_commits, filter_onto, committed_is, firsts_next, firsts_onto, length_onto, firsts_few, filter_few, filter_head}

-- ---- one line more

pub same_of : (a b : Said) → is_of a.session a.transaction b ≡ is_of b.session b.transaction a
same_of a b = grind (arith, nat_tests)

pub of_itself : (a : Said) → is_of a.session a.transaction a ≡ true
of_itself a = grind (arith, nat_tests)

module _ (earlier : List Said) (now : Said) (opened : IsOpen earlier now) where
  pub its_none : (f : Said) → is_of now.session now.transaction f ≡ true → is_committed earlier f ≡ false
  its_none f e =
      let parts = and_parts (f.session == now.session) (f.transaction == now.transaction) e in
      let s : f.session ≡ now.session = (Decides-eqb f.session now.session).0 parts.0 in
      let t : f.transaction ≡ now.transaction = (Decides-eqb f.transaction now.transaction).0 parts.1 in
      (λ i. commits_one (filter (is_of (s i) (t i)) earlier)) ∙ none_commits (filter (is_of now.session now.transaction) earlier) opened

  pub committed_more : (f : Said) (b : Bool) → is_of now.session now.transaction f ≡ b → is_committed (now ∷ earlier) f ≡ cond b (is_some (committed now)) (is_committed earlier f)
  committed_more f b e = ap (λ d. commits_one (cond d (now ∷ filter (is_of f.session f.transaction) earlier) (filter (is_of f.session f.transaction) earlier))) (same_of f now ∙ e) ∙ go b e
    where
      last : (c : Bool) → (c || is_committed earlier f) ≡ cond c true (is_committed earlier f)
      last true = refl
      last false = refl

      go : (b : Bool) → is_of now.session now.transaction f ≡ b →
          commits_one (cond b (now ∷ filter (is_of f.session f.transaction) earlier) (filter (is_of f.session f.transaction) earlier)) ≡ cond b (is_some (committed now)) (is_committed earlier f)
      go false e = refl
      go true e = ap (λ c. is_some (committed now) || c) (its_none f e) ∙ or_false (is_some (committed now))
        where
          or_false : (b : Bool) → (b || false) ≡ b
          or_false true = refl
          or_false false = refl

  pub kept_more : (fs : List Said) → length (filter (is_committed (now ∷ earlier)) fs) ≡ length (filter (is_committed earlier) fs) + cond (is_some (committed now))
      (length (filter (is_of now.session now.transaction) fs)) 0
  kept_more [] = go (is_some (committed now))
    where
      go : (c : Bool) → 0 ≡ 0 + cond c 0 0
      go true = omega arith
      go false = omega arith
  kept_more (f ∷ fs) = go (is_of now.session now.transaction f) refl (kept_more fs)
    where
      new : List Said
      new = filter (is_committed (now ∷ earlier)) fs

      old : List Said
      old = filter (is_committed earlier) fs

      its : List Said
      its = filter (is_of now.session now.transaction) fs

      mine : (c : Bool) → length new ≡ length old + cond c (length its) 0 → length (cond c (f ∷ new) new) ≡ length old + cond c (suc (length its)) 0
      mine true h = omega (arith, h)
      mine false h = h

      other : (c d : Bool) → length new ≡ length old + cond c (length its) 0 → length (cond d (f ∷ new) new) ≡ length (cond d (f ∷ old) old) + cond c (length its) 0
      other true true h = omega (arith, h)
      other true false h = h
      other false true h = omega (arith, h)
      other false false h = h

      go : (b : Bool) → is_of now.session now.transaction f ≡ b → length new ≡ length old + cond (is_some (committed now)) (length its) 0 →
          length (cond (is_committed (now ∷ earlier) f) (f ∷ new) new) ≡ length (cond (is_committed earlier f) (f ∷ old) old) + cond (is_some (committed now)) (length (cond b (f ∷ its) its)) 0
      go true e h =
          (λ i. length (cond (committed_more f true e i) (f ∷ new) new)) ∙ mine (is_some (committed now)) h
          ∙ sym (λ i. length (cond (its_none f e i) (f ∷ old) old) + cond (is_some (committed now)) (suc (length its)) 0)
      go false e h = (λ i. length (cond (committed_more f false e i) (f ∷ new) new)) ∙ other (is_some (committed now)) (is_committed earlier f) h

  pub still_not_over : (j x : ℕ) → is_over j x (now ∷ earlier) ≡ false → is_over j x earlier ≡ false
  still_not_over j x = go (is_of j x now)
    where
      was : List Said
      was = filter (is_of j x) earlier

      some : (e : Bool) → (e || list_any ends was) ≡ false → list_any ends was ≡ false
      some true o = absurd (false_true (sym o))
      some false o = o

      go : (b : Bool) → list_any ends (cond b (now ∷ was) was) ≡ false → list_any ends was ≡ false
      go true o = some (ends now) o
      go false o = o

  -- what is counted after the line, where `b` says whether it is a first write
  pub tallied_more : (old new : Versions) (b : Bool) → AreTallied old earlier → b ≡ is_some (first_write earlier now) → new.made ≡ old.made + cond b 1 0 →
      new.kept ≡ old.kept + cond (is_some (committed now)) (unwrap_or (get tx_order old.pending (tx now.session now.transaction)) 0 + cond b 1 0) 0 →
      ((j x : ℕ) → is_over j x (now ∷ earlier) ≡ false → unwrap_or (get tx_order new.pending (tx j x)) 0 ≡ unwrap_or (get tx_order old.pending (tx j x)) 0 + cond b
      (cond (is_of j x now) 1 0) 0) → AreTallied new (now ∷ earlier)
  tallied_more old new b is e made kept pending = record {
    made = made ∙ ap (λ n. n + cond b 1 0) is.made ∙ sym (ap length (firsts_next earlier now b e) ∙ longer b);
    kept = kept ∙ (λ i. is.kept i + cond (is_some (committed now)) (is.pending now.session now.transaction opened i + cond b 1 0) 0) ∙ sym (all_kept (is_some (committed now)) refl);
    pending = λ j x o.
        pending j x o ∙ ap (λ n. n + cond b (cond (is_of j x now) 1 0) 0) (is.pending j x (still_not_over j x o))
        ∙ sym (ap (λ fs. length (filter (is_of j x) fs)) (firsts_next earlier now b e) ∙ filter_head (is_of j x) now (firsts earlier) b (is_of j x now) refl);
  }
    where
      fs : List Said
      fs = firsts earlier

      its : ℕ
      its = length (filter (is_of now.session now.transaction) fs)

      longer : (b : Bool) → length (cond b (now ∷ fs) fs) ≡ length fs + cond b 1 0
      longer true = omega arith
      longer false = omega arith

      all_kept : (c : Bool) → is_some (committed now) ≡ c → length (filter (is_committed (now ∷ earlier)) (firsts (now ∷ earlier))) ≡ length
          (filter (is_committed earlier) fs) + cond c (its + cond b 1 0) 0
      all_kept c f =
          ap (λ gs. length (filter (is_committed (now ∷ earlier)) gs)) (firsts_next earlier now b e)
          ∙ filter_head (is_committed (now ∷ earlier)) now fs b c (committed_more now true (of_itself now) ∙ f)
          ∙ ap (λ n. n + cond b (cond c 1 0) 0) (kept_more fs ∙ ap (λ d. length (filter (is_committed earlier) fs) + cond d its 0) f)
          ∙ sum b c
        where
          sum : (b c : Bool) → (length (filter (is_committed earlier) fs) + cond c its 0) + cond b (cond c 1 0) 0 ≡ length (filter (is_committed earlier) fs) + cond c (its + cond b 1 0) 0
          sum true true = omega arith
          sum true false = omega arith
          sum false true = omega arith
          sum false false = omega arith

  -- none of the counts is over the lines
  pub tallied_few : (old : Versions) → AreTallied old earlier → (old.made ≤ length earlier) × (old.kept ≤ length earlier) ×
      (unwrap_or (get tx_order old.pending (tx now.session now.transaction)) 0 ≤ length earlier)
  tallied_few old is =
      let few = firsts_few earlier in
      let one = is.made in
      let two = is.kept in
      let three = is.pending now.session now.transaction opened in
      let fewer = filter_few (is_committed earlier) (firsts earlier) in
      let fewest = filter_few (is_of now.session now.transaction) (firsts earlier) in
      (omega (arith, one, few), omega (arith, two, fewer, few), omega (arith, three, fewest, few))

  -- ---- by what is done with it

  abbrev pub its_count : Versions → ℕ
  its_count versions = unwrap_or (get tx_order versions.pending (tx now.session now.transaction)) 0

  -- nothing is made, and nothing ends
  pub tallied_idle : (old : Versions) (b : Bool) → AreTallied old earlier → b ≡ is_some (first_write earlier now) → b ≡ false → ends now ≡ false → AreTallied old (now ∷ earlier)
  tallied_idle old b is e f g =
      tallied_more old old false is (sym f ∙ e) (omega arith) (omega arith ∙ sym (ap (λ o. old.kept + cond (is_some o) (its_count old + 0) 0) (committed_ends now g))) (λ j x o. omega arith)

  -- nothing ends
  pub tallied_going : (old new : Versions) (b : Bool) (count : ℕ) → AreTallied old earlier → b ≡ is_some (first_write earlier now) → ends now ≡ false →
      new.made ≡ old.made + cond b 1 0 → new.kept ≡ old.kept → count ≡ its_count old + cond b 1 0 →
      ((q : Tx) → get tx_order new.pending q ≡ cond (is_at (tx_order (tx now.session now.transaction)) q) (Some count) (get tx_order old.pending q)) → AreTallied new (now ∷ earlier)
  tallied_going old new b count is e g made kept counts put =
      tallied_more old new b is e made (kept ∙ omega arith ∙ sym (ap (λ o. old.kept + cond (is_some o) (its_count old + cond b 1 0) 0) (committed_ends now g)))
      (λ j x o. ap (λ n. unwrap_or n 0) (put (tx j x)) ∙ (λ i. unwrap_or (cond (at_tx (tx now.session now.transaction) (tx j x) i) (Some count) (get tx_order old.pending (tx j x)))
      0) ∙ go j x (is_of j x now) refl)
    where
      none : (b : Bool) (n : ℕ) → n ≡ n + cond b 0 0
      none true n = omega arith
      none false n = omega arith

      go : (j x : ℕ) (c : Bool) → is_of j x now ≡ c → unwrap_or (cond c (Some count) (get tx_order old.pending (tx j x))) 0 ≡ unwrap_or (get tx_order old.pending (tx j x)) 0 + cond b (cond c 1 0) 0
      go j x false f = none b (unwrap_or (get tx_order old.pending (tx j x)) 0)
      go j x true f =
          let parts = and_parts (now.session == j) (now.transaction == x) f in
          let s : now.session ≡ j = (Decides-eqb now.session j).0 parts.0 in
          let t : now.transaction ≡ x = (Decides-eqb now.transaction x).0 parts.1 in
          counts ∙ (λ i. unwrap_or (get tx_order old.pending (tx (s i) (t i))) 0 + cond b 1 0)

  -- its transaction ends
  pub tallied_ended : (old new : Versions) (b : Bool) → AreTallied old earlier → b ≡ is_some (first_write earlier now) → ends now ≡ true → new.made ≡ old.made + cond b 1 0 →
      new.kept ≡ old.kept + cond (is_some (committed now)) (its_count old + cond b 1 0) 0 →
      ((q : Tx) → get tx_order new.pending q ≡ cond (is_at (tx_order (tx now.session now.transaction)) q) None (get tx_order old.pending q)) → AreTallied new (now ∷ earlier)
  tallied_ended old new b is e g made kept drop =
      tallied_more old new b is e made kept
      (λ j x o. ap (λ n. unwrap_or n 0) (drop (tx j x)) ∙ (λ i. unwrap_or (cond (at_tx (tx now.session now.transaction) (tx j x) i) None (get tx_order old.pending (tx j x))) 0) ∙
      go j x (is_of j x now) o)
    where
      none : (b : Bool) (n : ℕ) → n ≡ n + cond b 0 0
      none true n = omega arith
      none false n = omega arith

      go : (j x : ℕ) (c : Bool) → list_any ends (cond c (now ∷ filter (is_of j x) earlier) (filter (is_of j x) earlier)) ≡ false →
          unwrap_or (cond c None (get tx_order old.pending (tx j x))) 0 ≡ unwrap_or (get tx_order old.pending (tx j x)) 0 + cond b (cond c 1 0) 0
      go j x false o = none b (unwrap_or (get tx_order old.pending (tx j x)) 0)
      go j x true o = absurd (false_true (sym o ∙ ap (λ d. d || list_any ends (filter (is_of j x) earlier)) g))

-- ---- all lines

pub tallied_all : (all : List Said) (versions : Versions) (tally : Tally) → AreTallied versions (onto all []) → tally.made ≡ versions.made →
    tally.undone ≡ versions.made - versions.kept → IsTally tally all
tallied_all all versions tally is made undone =
    let q : Said → Bool = is_committed all in
    let fs = first_writes all in
    let here : firsts (onto all []) ≡ onto fs [] = firsts_onto all [] in
    let many : versions.made ≡ length fs = is.made ∙ ap length here ∙ length_onto fs [] ∙ omega arith in
    let kept : versions.kept ≡ length (filter q fs) =
    is.kept ∙ (λ i. length (filter (λ f. committed_is all f i) (here i))) ∙ ap length (filter_onto q fs []) ∙ length_onto (filter q fs) [] ∙ omega arith in
    let both = length-filter_both q (λ f. not (q f)) (λ f. refl) fs in
    record { made = made ∙ many; undone = undone ∙ omega (arith, many, kept, both) }

pub few_at : {X : Type 0} (xs : List X) (k : ℕ) {end : ℕ} → k < length xs → end < 4611686018427387904 → end ≡ length xs → length (earlier_at xs k) < 4611686018427387904
few_at xs k less small same = let most = length-take k xs in let here = length_onto (take k xs) [] in omega (arith, here, most, less, small, same)

-- ---- sums

pub sum_next : {X : Type 0} (f : X → ℕ) (xs : List X) (k : ℕ) (now : X) → AtLine xs k now → sum_by f (take (k + 1) xs) ≡ sum_by f (take k xs) + f now
sum_next f xs k now at = ap (sum_by f) at.up_to ∙ sum_by-append f (take k xs) (now ∷ []) ∙ ap (λ n. sum_by f (take k xs) + n) (omega arith)

pub sum_within : {X : Type 0} (f : X → ℕ) (xs : List X) (k : ℕ) (now : X) → AtLine xs k now → sum_by f (take k xs) + f now ≤ sum_by f xs
sum_within f xs k now at = subst (λ n. n ≤ sum_by f xs) (sum_next f xs k now at) (sum_by-take-le f xs (k + 1))
