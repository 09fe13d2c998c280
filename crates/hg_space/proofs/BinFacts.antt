-- What a bin says of records after one is put in, and after one is taken out.
use Rattle.std.proofs.Common.{◌≡◌, ℕ, List, [], ◌∷◌, map, Bool, true, false, Option, Some, None, refl, sym, ap, ◌∙◌, cond, subst, ◌&&◌, ◌||◌}
use Rattle.std.specs.List.{list_any}
use Rattle.std.proofs.lemmas.Option.{none-some}
use Rattle.hg_base.specs.declared.rid.Rid.{Rid}
use Rattle.hg_base.specs.History.{same_rid}
use Rattle.hg_base.proofs.RidOrder.{rids_equiv}
use Rattle.hg_space.specs.declared.slot.Slot.{Slot}
use Rattle.hg_space.specs.declared.slot.State.{State}
use Rattle.hg_space.specs.declared.slot.State.TheVariants.{Empty, Left, Used}
use Rattle.hg_space.specs.declared.slots.Finding.{Finding}
use Rattle.hg_space.specs.declared.slots.Finding.TheVariants.{There}
use Rattle.hg_space.specs.Slots.{has_record, was_never_used, is_used, is_empty, is_of, used_by, left_by, look_from, put_in, without, taken_out, Fits}

-- a slot with a record is no other record's
pub not_of : (r q : Rid) (s : Slot) → same_rid r q ≡ false → is_of r s ≡ true → is_of q s ≡ false
not_of r q s apart h = go (same_rid r (record { table = s.table; key = s.key })) refl (is_used s) refl
  where
    here : Rid
    here = record { table = s.table; key = s.key }

    go : (b : Bool) → same_rid r here ≡ b → (u : Bool) → is_used s ≡ u → is_of q s ≡ false
    go false e u k = absurd (let z : is_of r s ≡ false = ap (λ c. c && is_used s) e in let w : true ≡ false = sym h ∙ z in cc)
    go true e u k = ap (λ c. c && is_used s) (rids_equiv.symm q here ∙ sym (rids_equiv.congr r here q e) ∙ apart)

pub used_is_of : (r : Rid) (p : ℕ) → is_of r (used_by r p) ≡ true
used_is_of r p = ap (λ c. c && true) (rids_equiv.refl r)

pub used_not_of : (r q : Rid) (p : ℕ) → same_rid r q ≡ false → is_of q (used_by r p) ≡ false
used_not_of r q p apart = not_of r q (used_by r p) apart (used_is_of r p)

-- a slot without a record is nobody's
pub free_not_of : (q : Rid) (s : Slot) → is_used s ≡ false → is_of q s ≡ false
free_not_of q s h = go (same_rid q (record { table = s.table; key = s.key })) refl
  where
    go : (b : Bool) → same_rid q (record { table = s.table; key = s.key }) ≡ b → is_of q s ≡ false
    go false e = ap (λ c. c && is_used s) e
    go true e = ap (λ c. c && is_used s) e ∙ h

pub used_not_empty : (s : Slot) → is_used s ≡ true → is_empty s ≡ false
used_not_empty s h = go s.state refl
  where
    go : (t : State) → s.state ≡ t → is_empty s ≡ false
    go Empty e = absurd (let z : is_used s ≡ false = ap has_record e in let w : true ≡ false = sym h ∙ z in cc)
    go Left e = ap was_never_used e
    go Used e = ap was_never_used e

-- what comes behind a slot
pub here_there : (g : Bool) (q : Rid) (s : Slot) (bin : List Slot) → is_of q s ≡ true → look_from g q (s ∷ bin) ≡ There s.place
here_there g q s bin h = ap (λ b. cond b (There s.place) (look_from (g || is_empty s) q bin)) h

pub past : (g : Bool) (q : Rid) (s : Slot) (bin : List Slot) → is_of q s ≡ false → look_from g q (s ∷ bin) ≡ look_from (g || is_empty s) q bin
past g q s bin h = ap (λ b. cond b (There s.place) (look_from (g || is_empty s) q bin)) h

fits_at : (w : Option ℕ) {a b : Finding} → a ≡ b → Fits a w → Fits b w
fits_at w e h = subst (λ f. Fits f w) e h

-- with a gap before it, a bin says no less
pub less_gap : (g : Bool) (q : Rid) (bin : List Slot) (w : Option ℕ) → Fits (look_from true q bin) w → Fits (look_from g q bin) w
less_gap true q bin w h = h
less_gap false q [] w h = tt
less_gap false q (s ∷ bin) w h = go (less_gap (is_empty s) q bin w) (is_of q s) refl
  where
    go : (Fits (look_from true q bin) w → Fits (look_from (is_empty s) q bin) w) → (b : Bool) → is_of q s ≡ b → Fits (look_from false q (s ∷ bin)) w
    go less true e = fits_at w (here_there true q s bin e ∙ sym (here_there false q s bin e)) h
    go less false e = fits_at w (sym (past false q s bin e)) (less (fits_at w (past true q s bin e) h))

-- ---- a record is put in

pub put_here : (r : Rid) (p : ℕ) (bin : List Slot) → Fits (look_from false r bin) None → Fits (look_from false r (put_in r p bin)) (Some p)
put_here r p [] h = tt
put_here r p (s ∷ bin) h = go (put_here r p bin) (is_used s) refl
  where
    Later : Type 0
    Later = Fits (look_from false r bin) None → Fits (look_from false r (put_in r p bin)) (Some p)

    at : (u : Bool) → is_used s ≡ u → put_in r p (s ∷ bin) ≡ cond u (s ∷ put_in r p bin) (used_by r p ∷ bin)
    at u e = ap (λ c. cond c (s ∷ put_in r p bin) (used_by r p ∷ bin)) e

    go : Later → (u : Bool) → is_used s ≡ u → Fits (look_from false r (put_in r p (s ∷ bin))) (Some p)
    go later false e = fits_at (Some p) (sym (ap (look_from false r) (at false e) ∙ here_there false r (used_by r p) bin (used_is_of r p))) refl
    go later true e = more (is_of r s) refl
      where
        closed : (ls : List Slot) → is_of r s ≡ false → look_from false r (s ∷ ls) ≡ look_from false r ls
        closed ls k = past false r s ls k ∙ ap (λ g. look_from g r ls) (used_not_empty s e)

        more : (b : Bool) → is_of r s ≡ b → Fits (look_from false r (put_in r p (s ∷ bin))) (Some p)
        more true k = absurd (none-some s.place (fits_at None (here_there false r s bin k) h))
        more false k = fits_at (Some p) (sym (ap (look_from false r) (at true e) ∙ closed (put_in r p bin) k)) (later (fits_at None (closed bin k) h))

pub put_others : (r q : Rid) (p : ℕ) (g : Bool) (bin : List Slot) (w : Option ℕ) → same_rid r q ≡ false → Fits (look_from g q bin) w → Fits (look_from g q (put_in r p bin)) w
put_others r q p g [] w apart h = h
put_others r q p g (s ∷ bin) w apart h = go (put_others r q p (g || is_empty s) bin w apart) (is_used s) refl
  where
    Later : Type 0
    Later = Fits (look_from (g || is_empty s) q bin) w → Fits (look_from (g || is_empty s) q (put_in r p bin)) w

    at : (u : Bool) → is_used s ≡ u → put_in r p (s ∷ bin) ≡ cond u (s ∷ put_in r p bin) (used_by r p ∷ bin)
    at u e = ap (λ c. cond c (s ∷ put_in r p bin) (used_by r p ∷ bin)) e

    go : Later → (u : Bool) → is_used s ≡ u → Fits (look_from g q (put_in r p (s ∷ bin))) w
    go later false e =
        let was = fits_at w (past g q s bin (free_not_of q s e)) h in
        let now = ap (look_from g q) (at false e) ∙ past g q (used_by r p) bin (used_not_of r q p apart) in
        fits_at w (sym now) (fewer g (is_empty s) was)
      where
        fewer : (a b : Bool) → Fits (look_from (a || b) q bin) w → Fits (look_from (a || false) q bin) w
        fewer true b k = k
        fewer false true k = less_gap false q bin w k
        fewer false false k = k
    go later true e = more (is_of q s) refl
      where
        more : (b : Bool) → is_of q s ≡ b → Fits (look_from g q (put_in r p (s ∷ bin))) w
        more true k = fits_at w (here_there g q s bin k ∙ sym (ap (look_from g q) (at true e) ∙ here_there g q s (put_in r p bin) k)) h
        more false k = fits_at w (sym (ap (look_from g q) (at true e) ∙ past g q s (put_in r p bin) k)) (later (fits_at w (past g q s bin k) h))

-- ---- a record is taken out

left_not_of : (gap : Bool) (r q : Rid) (s : Slot) → is_of q (left_by gap s) ≡ false
left_not_of true r q s = free_not_of q (left_by true s) refl
left_not_of false r q s = free_not_of q (left_by false s) refl

at_without : (gap : Bool) (r : Rid) (s : Slot) (b : Bool) → is_of r s ≡ b → without gap r s ≡ cond b (left_by gap s) s
at_without gap r s b e = ap (λ c. cond c (left_by gap s) s) e

without_not_of : (gap : Bool) (r : Rid) (s : Slot) → is_of r (without gap r s) ≡ false
without_not_of gap r s = go (is_of r s) refl
  where
    go : (b : Bool) → is_of r s ≡ b → is_of r (without gap r s) ≡ false
    go true e = ap (is_of r) (at_without gap r s true e) ∙ left_not_of gap r r s
    go false e = ap (is_of r) (at_without gap r s false e) ∙ e

-- the slots of the other records stay
without_stays : (gap : Bool) (r q : Rid) (s : Slot) → same_rid r q ≡ false → is_of q s ≡ true → without gap r s ≡ s
without_stays gap r q s apart h = at_without gap r s false (not_of q r s (rids_equiv.symm q r ∙ apart) h)

without_still : (gap : Bool) (r q : Rid) (s : Slot) → is_of q s ≡ false → is_of q (without gap r s) ≡ false
without_still gap r q s h = go (is_of r s) refl
  where
    go : (b : Bool) → is_of r s ≡ b → is_of q (without gap r s) ≡ false
    go true e = ap (is_of q) (at_without gap r s true e) ∙ left_not_of gap r q s
    go false e = ap (is_of q) (at_without gap r s false e) ∙ h

pub out_here : (gap : Bool) (r : Rid) (g : Bool) (bin : List Slot) → Fits (look_from g r (map (without gap r) bin)) None
out_here gap r true [] = refl
out_here gap r false [] = tt
out_here gap r g (s ∷ bin) = fits_at None (sym (past g r (without gap r s) (map (without gap r) bin) (without_not_of gap r s))) (out_here gap r (g || is_empty (without gap r s)) bin)

-- where no slot is empty, the bin says the same of the others
out_closed : (r q : Rid) (g : Bool) (bin : List Slot) → same_rid r q ≡ false → look_from g q (map (without false r) bin) ≡ look_from g q bin
out_closed r q g [] apart = refl
out_closed r q g (s ∷ bin) apart = go (out_closed r q (g || is_empty (without false r s)) bin apart) (is_of q s) refl
  where
    rest : List Slot
    rest = map (without false r) bin

    empty_alike : is_empty (without false r s) ≡ is_empty s
    empty_alike = by (is_of r s) refl
      where
        by : (b : Bool) → is_of r s ≡ b → is_empty (without false r s) ≡ is_empty s
        by false e = ap is_empty (at_without false r s false e)
        by true e = ap is_empty (at_without false r s true e) ∙ sym (used_not_empty s (owned (same_rid r (record { table = s.table; key = s.key })) e))
          where
            owned : (c : Bool) → (c && is_used s) ≡ true → is_used s ≡ true
            owned true k = k
            owned false k = absurd (let z : false ≡ true = k in cc)

    Later : Type 0
    Later = look_from (g || is_empty (without false r s)) q rest ≡ look_from (g || is_empty (without false r s)) q bin

    go : Later → (b : Bool) → is_of q s ≡ b → look_from g q (without false r s ∷ rest) ≡ look_from g q (s ∷ bin)
    go later true e = ap (λ t. look_from g q (t ∷ rest)) (without_stays false r q s apart e) ∙ here_there g q s rest e ∙ sym (here_there g q s bin e)
    go later false e = past g q (without false r s) rest (without_still false r q s e) ∙ later ∙ ap (λ b. look_from (g || b) q bin) empty_alike ∙ sym (past g q s bin e)

-- where one is, it may say less of them
out_open : (r q : Rid) (g g2 : Bool) (bin : List Slot) (w : Option ℕ) → same_rid r q ≡ false → (g || list_any is_empty bin) ≡ true → Fits (look_from g q bin) w →
    Fits (look_from g2 q (map (without true r) bin)) w
out_open r q true true [] w apart gap h = h
out_open r q true false [] w apart gap h = tt
out_open r q false g2 [] w apart gap h = absurd (let z : false ≡ true = gap in cc)
out_open r q g g2 (s ∷ bin) w apart gap h = go (out_open r q (g || is_empty s) (g2 || is_empty (without true r s)) bin w apart) (is_of q s) refl
  where
    rest : List Slot
    rest = map (without true r) bin

    joined : (a b c : Bool) → (a || (b || c)) ≡ true → ((a || b) || c) ≡ true
    joined true b c k = k
    joined false b c k = k

    Later : Type 0
    Later = ((g || is_empty s) || list_any is_empty bin) ≡ true → Fits (look_from (g || is_empty s) q bin) w → Fits (look_from (g2 || is_empty (without true r s)) q rest) w

    go : Later → (b : Bool) → is_of q s ≡ b → Fits (look_from g2 q (without true r s ∷ rest)) w
    go later true e = fits_at w (here_there g q s bin e ∙ sym (ap (λ t. look_from g2 q (t ∷ rest)) (without_stays true r q s apart e) ∙ here_there g2 q s rest e)) h
    go later false e = fits_at w (sym (past g2 q (without true r s) rest (without_still true r q s e))) (later (joined g (is_empty s) (list_any is_empty bin) gap) (fits_at w (past g q s bin e) h))

pub out_others : (r q : Rid) (bin : List Slot) (w : Option ℕ) → same_rid r q ≡ false → Fits (look_from false q bin) w → Fits (look_from false q (taken_out r bin)) w
out_others r q bin w apart h = go (list_any is_empty bin) refl
  where
    go : (b : Bool) → list_any is_empty bin ≡ b → Fits (look_from false q (taken_out r bin)) w
    go true e = subst (λ b. Fits (look_from false q (map (without b r) bin)) w) (sym e) (out_open r q false false bin w apart e h)
    go false e = subst (λ b. Fits (look_from false q (map (without b r) bin)) w) (sym e) (fits_at w (sym (out_closed r q false bin apart)) h)
