-- What one thread knows of each session is what the lines so far show of it.
use Rattle.std.proofs.Common.{◌≡◌, ℕ, suc, ◌<◌, List, [], ◌∷◌, Bool, true, false, Option, Some, None, refl, sym, ap, ◌∙◌, subst, arith}
use Rattle.std.specs.Prelude.{◌==◌, ◌&&◌, ◌||◌, cond, filter, filter_map, nat_lt, option_map, if◌then◌else◌}
use Rattle.std.specs.List.{list_any, cons_option}
use Rattle.std.proofs.lemmas.Bool.Decides.{Decides-eqb, nat_tests}
use Rattle.hg_base.specs.Transcript.{Said, Rest, ends, is_end, is_of, last_of, next_after, open_after, open_of, rest_after, rest_in, stored, stored_in}
use Rattle.hg_core.proofs.Indices.{by_number}
use Rattle.hg_exact.specs.State.{Open, but, going}

-- ---- lines of others

pub same_number : (n : ℕ) → (n == n) ≡ true
same_number n = (Decides-eqb n n).1 refl

pub differs : (m n : ℕ) → (m ≡ n → ⊥) → (m == n) ≡ false
differs m n f = grind (arith, nat_tests)

pub true_false : true ≡ false → ⊥
true_false e = cc

pub last_other : (k : ℕ) (earlier : List Said) (now : Said) → (now.session == k) ≡ false → last_of k (now ∷ earlier) ≡ last_of k earlier
last_other k earlier now e = ap (λ b. cond (b && nat_lt 0 now.transaction) (Some now) (last_of k earlier)) e

pub last_by : (j : ℕ) (earlier : List Said) (now : Said) (b : Bool) → now.session ≡ j → nat_lt 0 now.transaction ≡ b → last_of j (now ∷ earlier) ≡ cond b (Some now) (last_of j earlier)
last_by j earlier now b mine e =
    ap (λ n. cond ((n == j) && nat_lt 0 now.transaction) (Some now) (last_of j earlier)) mine ∙
    ap (λ c. cond (c && nat_lt 0 now.transaction) (Some now) (last_of j earlier)) (same_number j) ∙ ap (λ c. cond c (Some now) (last_of j earlier)) e

-- a line that is not of a transaction adds nothing to it
pub lines_other : (k x : ℕ) (earlier : List Said) (now : Said) → is_of k x now ≡ false → filter (is_of k x) (now ∷ earlier) ≡ filter (is_of k x) earlier
lines_other k x earlier now e = ap (λ b. cond b (now ∷ filter (is_of k x) earlier) (filter (is_of k x) earlier)) e

pub rest_other : (k x : ℕ) (earlier : List Said) (now : Said) → is_of k x now ≡ false → rest_in k x (now ∷ earlier) ≡ rest_in k x earlier
rest_other k x earlier now e = ap (λ b. if b then rest_after now.statement now.reply.answer (rest_in k x earlier) else rest_in k x earlier) e

pub not_session : (k x : ℕ) (now : Said) → (now.session == k) ≡ false → is_of k x now ≡ false
not_session k x now e = ap (λ b. b && (now.transaction == x)) e

pub is_mine : (j x : ℕ) (now : Said) → now.session ≡ j → now.transaction ≡ x → is_of j x now ≡ true
is_mine j x now mine number = ap (λ n. (n == j) && (now.transaction == x)) mine ∙ ap (λ b. b && (now.transaction == x)) (same_number j) ∙ ap (λ n. n == x) number ∙ same_number x

-- ---- what the lines show of a session

-- the open transaction, as its last line and all its lines show it
abbrev pub open_as : ℕ → List Said → Said → Open
open_as j earlier q = record { transaction = q.transaction; at = q.at; scope = q.scope; wrote = stored_in j q.transaction earlier; rest = rest_in j q.transaction earlier }

abbrev pub opened_in : ℕ → List Said → Option Open
opened_in j earlier = option_map (open_as j earlier) (open_of j earlier)

-- no line has ended it
abbrev pub GoesOn : ℕ → List Said → Said → Type 0
GoesOn j earlier q = list_any ends (filter (is_of j q.transaction) earlier) ≡ false

pub record Shows (earlier : List Said) (begun_by : ℕ → ℕ) (opens : ℕ → Option Open) : Type 0 where
  pub begun : (j : ℕ) → next_after (last_of j earlier) ≡ suc (begun_by j)
  pub opened : (j : ℕ) → opens j ≡ opened_in j earlier
  pub goes : (j : ℕ) (q : Said) → open_of j earlier ≡ Some q → GoesOn j earlier q
  pub fresh : (j x : ℕ) → begun_by j < x → filter (is_of j x) earlier ≡ []

pub shows_nothing : Shows [] (λ j. 0) (λ j. None)
shows_nothing = record { begun = λ j. refl; opened = λ j. refl; goes = λ j q e. absurd (let bad : None ≡ Some q = e in no_some q bad); fresh = λ j x k. refl }
  where
    no_some : (q : Said) → None ≡ Some q → ⊥
    no_some q e = cc

none_some : (q : Said) → None ≡ Some q → ⊥
none_some q e = cc

some_same : (p q : Said) → Some p ≡ Some q → p ≡ q
some_same p q e = cc

-- ---- sessions other than the line's

module _ (j : ℕ) (earlier : List Said) (now : Said) (mine : now.session ≡ j) where
  other_test : (k : ℕ) → (k ≡ j → ⊥) → (now.session == k) ≡ false
  other_test k f = differs now.session k (λ e. f (sym e ∙ mine))

  pub opened_other : (k : ℕ) → (k ≡ j → ⊥) → opened_in k (now ∷ earlier) ≡ opened_in k earlier
  opened_other k f =
      let t = other_test k f in
      ap (λ o. option_map (open_as k (now ∷ earlier)) (open_after o)) (last_other k earlier now t) ∙ go (open_of k earlier)
    where
      go : (o : Option Said) → option_map (open_as k (now ∷ earlier)) o ≡ option_map (open_as k earlier) o
      go None = refl
      go (Some q) =
          let off : is_of k q.transaction now ≡ false = not_session k q.transaction now (other_test k f) in
          λ i. Some (record {
            transaction = q.transaction;
            at = q.at;
            scope = q.scope;
            wrote = filter_map stored (lines_other k q.transaction earlier now off i);
            rest = rest_other k q.transaction earlier now off i;
          })

  pub goes_other : (k : ℕ) → (k ≡ j → ⊥) → ((q : Said) → open_of k earlier ≡ Some q → GoesOn k earlier q) → (q : Said) → open_of k (now ∷ earlier) ≡ Some q → GoesOn k (now ∷ earlier) q
  goes_other k f h q e =
      let t = other_test k f in
      ap (list_any ends) (lines_other k q.transaction earlier now (not_session k q.transaction now t)) ∙ h q (sym (ap open_after (last_other k earlier now t)) ∙ e)

  pub begun_other : (k : ℕ) → (k ≡ j → ⊥) → next_after (last_of k (now ∷ earlier)) ≡ next_after (last_of k earlier)
  begun_other k f = ap next_after (last_other k earlier now (other_test k f))

  pub fresh_other : (k x : ℕ) → (k ≡ j → ⊥) → filter (is_of k x) (now ∷ earlier) ≡ filter (is_of k x) earlier
  fresh_other k x f = lines_other k x earlier now (not_session k x now (other_test k f))

-- ---- a line that begins a transaction

some_number : (n : ℕ) → nat_lt 0 (suc n) ≡ true
some_number n = grind (arith, nat_tests)

not_of : (j x : ℕ) (now : Said) → now.transaction < x → is_of j x now ≡ false
not_of j x now k = and_false (now.session == j) (now.transaction == x) (let f : (now.transaction == x) ≡ false = grind (arith, nat_tests) in f)
  where
    and_false : (a b : Bool) → b ≡ false → (a && b) ≡ false
    and_false true b e = e
    and_false false b e = refl

module _ (j : ℕ) (earlier : List Said) (begun_by : ℕ → ℕ) (opened : ℕ → Option Open) (shows : Shows earlier begun_by opened) where
  -- its number is the next
  fresh_new : (now : Said) → now.session ≡ j → now.transaction ≡ suc (begun_by j) → (k x : ℕ) → but begun_by j (suc (begun_by j)) k < x → filter (is_of k x) (now ∷ earlier) ≡ []
  fresh_new now mine number k x = by_number j (λ i b. (if b then suc (begun_by j) else begun_by i) < x → filter (is_of i x) (now ∷ earlier) ≡ [])
      (λ l. lines_other j x earlier now (not_of j x now (subst (λ n. n < x) (sym number) l)) ∙ shows.fresh j x (omega (arith, l)))
      (λ i f l. fresh_other j earlier now mine i x f ∙ shows.fresh i x l) k

  pub shows_begun : (now : Said) (o : Open) → now.session ≡ j → now.transaction ≡ suc (begun_by j) → ends now ≡ false → stored now ≡ None
      → o ≡ record {
        transaction = suc (begun_by j);
        at = now.at;
        scope = now.scope;
        wrote = [];
        rest = rest_after now.statement now.reply.answer (rest_in j (suc (begun_by j)) earlier);
      } → Shows (now ∷ earlier) (but begun_by j (suc (begun_by j))) (but opened j (Some o))
  shows_begun now o mine number on writes_none is =
      let last : last_of j (now ∷ earlier) ≡ Some now = last_by j earlier now true mine (ap (nat_lt 0) number ∙ some_number (begun_by j)) in
      let here : open_of j (now ∷ earlier) ≡ Some now = ap open_after last ∙ ap (λ b. cond b None (Some now)) on in
      let mine_is : is_of j now.transaction now ≡ true = is_mine j now.transaction now mine refl in
      let none : filter (is_of j now.transaction) earlier ≡ [] = ap (λ x. filter (is_of j x) earlier) number ∙ shows.fresh j (suc (begun_by j)) (omega arith) in
      let lines : filter (is_of j now.transaction) (now ∷ earlier) ≡ now ∷ [] = ap
      (λ b. cond b (now ∷ filter (is_of j now.transaction) earlier) (filter (is_of j now.transaction) earlier)) mine_is ∙ ap (λ xs. now ∷ xs) none in
      let wrote : stored_in j now.transaction (now ∷ earlier) ≡ [] = ap (filter_map stored) lines ∙ ap (λ w. cons_option w []) writes_none in
      let rest : rest_in j now.transaction (now ∷ earlier) ≡ rest_after now.statement now.reply.answer (rest_in j (suc (begun_by j)) earlier) =
      ap (λ b. if b then rest_after now.statement now.reply.answer (rest_in j now.transaction earlier) else rest_in j now.transaction earlier) mine_is ∙
      ap (λ x. rest_after now.statement now.reply.answer (rest_in j x earlier)) number in
      let whole : Some o ≡ opened_in j (now ∷ earlier) = ap Some is ∙
      (λ i. Some (record { transaction = sym number i; at = now.at; scope = now.scope; wrote = sym wrote i; rest = sym rest i })) ∙ ap (option_map (open_as j (now ∷ earlier))) (sym here) in
      record {
        begun = by_number j (λ k b. next_after (last_of k (now ∷ earlier)) ≡ suc (if b then suc (begun_by j) else begun_by k)) (ap next_after last ∙ ap suc number)
            (λ k f. begun_other j earlier now mine k f ∙ shows.begun k);
        opened = by_number j (λ k b. (if b then Some o else opened k) ≡ opened_in k (now ∷ earlier)) whole (λ k f. shows.opened k ∙ sym (opened_other j earlier now mine k f));
        goes = by_number j (λ k b. (q : Said) → open_of k (now ∷ earlier) ≡ Some q → GoesOn k (now ∷ earlier) q)
            (λ q e. subst (GoesOn j (now ∷ earlier)) (some_same now q (sym here ∙ e)) (ap (list_any ends) lines ∙ ap (λ b. b || false) on))
            (λ k f. goes_other j earlier now mine k f (shows.goes k));
        fresh = fresh_new now mine number;
      }

  -- ---- a line that is a transaction of its own

  pub shows_alone : (now : Said) → now.session ≡ j → now.transaction ≡ suc (begun_by j) → ends now ≡ true → open_of j earlier ≡ None → Shows (now ∷ earlier) (but begun_by j (suc (begun_by j))) opened
  shows_alone now mine number over none =
      let last : last_of j (now ∷ earlier) ≡ Some now = last_by j earlier now true mine (ap (nat_lt 0) number ∙ some_number (begun_by j)) in
      let here : open_of j (now ∷ earlier) ≡ None = ap open_after last ∙ ap (λ b. cond b None (Some now)) over in
      record {
        begun = by_number j (λ k b. next_after (last_of k (now ∷ earlier)) ≡ suc (if b then suc (begun_by j) else begun_by k)) (ap next_after last ∙ ap suc number)
            (λ k f. begun_other j earlier now mine k f ∙ shows.begun k);
        opened = by_number j (λ k b. opened k ≡ opened_in k (now ∷ earlier)) (shows.opened j ∙ ap (option_map (open_as j earlier)) none ∙
            ap (option_map (open_as j (now ∷ earlier))) (sym here)) (λ k f. shows.opened k ∙ sym (opened_other j earlier now mine k f));
        goes = by_number j (λ k b. (q : Said) → open_of k (now ∷ earlier) ≡ Some q → GoesOn k (now ∷ earlier) q) (λ q e. absurd (none_some q (sym here ∙ e)))
            (λ k f. goes_other j earlier now mine k f (shows.goes k));
        fresh = fresh_new now mine number;
      }

  -- ---- a line in the open transaction

  -- it has a number, which is that of the last one begun
  pub opened_last : (q : Said) → open_of j earlier ≡ Some q → last_of j earlier ≡ Some q
  opened_last q e = go (last_of j earlier) e
    where
      go : (o : Option Said) → open_after o ≡ Some q → o ≡ Some q
      go None f = f
      go (Some p) f = at (ends p) f
        where
          at : (b : Bool) → cond b None (Some p) ≡ Some q → Some p ≡ Some q
          at true g = absurd (none_some q g)
          at false g = g

  pub opened_number : (q : Said) → open_of j earlier ≡ Some q → q.transaction ≡ begun_by j
  opened_number q e = less q.transaction (begun_by j) (sym (ap next_after (opened_last q e)) ∙ shows.begun j)
    where
      less : (m n : ℕ) → suc m ≡ suc n → m ≡ n
      less m n f = omega (arith, f)

  pub shows_within : (now : Said) (q : Said) → now.session ≡ j → open_of j earlier ≡ Some q → nat_lt 0 q.transaction ≡ true → now.transaction ≡ q.transaction → now.at ≡ q.at →
      now.scope ≡ q.scope → now.alone ≡ false →
      Shows (now ∷ earlier) begun_by (but opened j (if is_end now.statement then None else Some (going (open_as j earlier q) now.statement now.reply.answer)))
  shows_within now q mine held some number at scope alone =
      let last : last_of j (now ∷ earlier) ≡ Some now = last_by j earlier now true mine (ap (nat_lt 0) number ∙ some) in
      let here : open_of j (now ∷ earlier) ≡ cond (is_end now.statement) None (Some now) = ap open_after last ∙ ap (λ b. cond (b || is_end now.statement) None (Some now)) alone in
      let mine_is : is_of j q.transaction now ≡ true = is_mine j q.transaction now mine number in
      let lines : filter (is_of j q.transaction) (now ∷ earlier) ≡ now ∷ filter (is_of j q.transaction) earlier = ap
      (λ b. cond b (now ∷ filter (is_of j q.transaction) earlier) (filter (is_of j q.transaction) earlier)) mine_is in
      let rest : rest_in j q.transaction (now ∷ earlier) ≡ rest_after now.statement now.reply.answer (rest_in j q.transaction earlier) =
      ap (λ b. if b then rest_after now.statement now.reply.answer (rest_in j q.transaction earlier) else rest_in j q.transaction earlier) mine_is in
      let same : going (open_as j earlier q) now.statement now.reply.answer ≡ open_as j (now ∷ earlier) now = (λ i. record {
        transaction = sym number i;
        at = sym at i;
        scope = sym scope i;
        wrote = (sym (ap (filter_map stored) lines) ∙ ap (λ x. stored_in j x (now ∷ earlier)) (sym number)) i;
        rest = (sym rest ∙ ap (λ x. rest_in j x (now ∷ earlier)) (sym number)) i;
      }) in
      record {
        begun = by_number j (λ k b. next_after (last_of k (now ∷ earlier)) ≡ suc (begun_by k)) (ap next_after last ∙ ap suc (number ∙ opened_number q held))
            (λ k f. begun_other j earlier now mine k f ∙ shows.begun k);
        opened = by_number j (λ k b. (if b then (if is_end now.statement then None else Some (going (open_as j earlier q) now.statement now.reply.answer)) else opened k) ≡ opened_in k (now ∷ earlier))
            (whole (is_end now.statement) same ∙ ap (option_map (open_as j (now ∷ earlier))) (sym here)) (λ k f. shows.opened k ∙ sym (opened_other j earlier now mine k f));
        goes = by_number j (λ k b. (p : Said) → open_of k (now ∷ earlier) ≡ Some p → GoesOn k (now ∷ earlier) p)
            (λ p e. going_on (is_end now.statement) refl p (sym here ∙ e) lines)
            (λ k f. goes_other j earlier now mine k f (shows.goes k));
        fresh = λ k x l. by_number j (λ i b. begun_by i < x → filter (is_of i x) (now ∷ earlier) ≡ [])
            (λ m. lines_other j x earlier now (not_of j x now (subst (λ n. n < x) (sym (number ∙ opened_number q held)) m)) ∙ shows.fresh j x m)
            (λ i f m. fresh_other j earlier now mine i x f ∙ shows.fresh i x m) k l;
      }
    where
      whole : (b : Bool) → going (open_as j earlier q) now.statement now.reply.answer ≡ open_as j (now ∷ earlier) now →
          (if b then None else Some (going (open_as j earlier q) now.statement now.reply.answer)) ≡ option_map (open_as j (now ∷ earlier)) (cond b None (Some now))
      whole true e = refl
      whole false e = ap Some e

      going_on : (b : Bool) → is_end now.statement ≡ b → (p : Said) → cond b None (Some now) ≡ Some p →
          filter (is_of j q.transaction) (now ∷ earlier) ≡ now ∷ filter (is_of j q.transaction) earlier → GoesOn j (now ∷ earlier) p
      going_on true e p f lines = absurd (none_some p f)
      going_on false e p f lines =
          subst (GoesOn j (now ∷ earlier)) (some_same now p f)
          (ap (λ x. list_any ends (filter (is_of j x) (now ∷ earlier))) number ∙ ap (list_any ends) lines
          ∙ ap (λ b. (b || is_end now.statement) || list_any ends (filter (is_of j q.transaction) earlier)) alone ∙
          ap (λ b. b || list_any ends (filter (is_of j q.transaction) earlier)) e ∙ shows.goes j q held)

  -- ---- a line that stands in no transaction

  pub shows_beside : (now : Said) → now.session ≡ j → now.transaction ≡ 0 → stored now ≡ None → ((rest : Option Rest) → rest_after now.statement now.reply.answer rest ≡ rest) →
      ((q : Said) → open_of j earlier ≡ Some q → nat_lt 0 q.transaction ≡ true) → Shows (now ∷ earlier) begun_by opened
  shows_beside now mine zero writes_none same_rest some =
      let last : last_of j (now ∷ earlier) ≡ last_of j earlier = last_by j earlier now false mine (ap (nat_lt 0) zero) in
      record {
        begun = by_number j (λ k b. next_after (last_of k (now ∷ earlier)) ≡ suc (begun_by k)) (ap next_after last ∙ shows.begun j) (λ k f. begun_other j earlier now mine k f ∙ shows.begun k);
        opened = by_number j (λ k b. opened k ≡ opened_in k (now ∷ earlier)) (shows.opened j ∙
            sym (ap (λ o. option_map (open_as j (now ∷ earlier)) (open_after o)) last ∙ whole (open_of j earlier) refl)) (λ k f. shows.opened k ∙ sym (opened_other j earlier now mine k f));
        goes = by_number j (λ k b. (q : Said) → open_of k (now ∷ earlier) ≡ Some q → GoesOn k (now ∷ earlier) q)
            (λ q e. let was : open_of j earlier ≡ Some q = sym (ap open_after last) ∙ e in ap (list_any ends) (lines_other j q.transaction earlier now (off q was)) ∙ shows.goes j q was)
            (λ k f. goes_other j earlier now mine k f (shows.goes k));
        fresh = λ k x l. lines_other k x earlier now (not_of k x now (subst (λ n. n < x) (sym zero) (omega (arith, l)))) ∙ shows.fresh k x l;
      }
    where
      off : (q : Said) → open_of j earlier ≡ Some q → is_of j q.transaction now ≡ false
      off q e = not_of j q.transaction now (let k = some q e in let z = zero in grind (arith, nat_tests))

      whole : (o : Option Said) → open_of j earlier ≡ o → option_map (open_as j (now ∷ earlier)) o ≡ option_map (open_as j earlier) o
      whole None e = refl
      whole (Some q) e = λ i. Some (record {
        transaction = q.transaction;
        at = q.at;
        scope = q.scope;
        wrote = filter_map stored (lines_other j q.transaction earlier now (off q e) i);
        rest = rest_other j q.transaction earlier now (off q e) i;
      })

-- the last line of a session stands in a transaction, which has a number
pub last_some : (j : ℕ) (earlier : List Said) (q : Said) → last_of j earlier ≡ Some q → nat_lt 0 q.transaction ≡ true
last_some j [] q e = absurd (none_some q e)
last_some j (s ∷ ss) q e = go ((s.session == j) && nat_lt 0 s.transaction) refl e (λ f. last_some j ss q f)
  where
    and_right : (a b : Bool) → (a && b) ≡ true → b ≡ true
    and_right true b f = f
    and_right false b f = absurd (true_false (sym f))

    go : (b : Bool) → ((s.session == j) && nat_lt 0 s.transaction) ≡ b → cond b (Some s) (last_of j ss) ≡ Some q → (last_of j ss ≡ Some q → nat_lt 0 q.transaction ≡ true) →
        nat_lt 0 q.transaction ≡ true
    go true f g later = subst (λ (x : Said). nat_lt 0 x.transaction ≡ true) (some_same s q g) (and_right (s.session == j) (nat_lt 0 s.transaction) f)
    go false f g later = later g
