-- What the cursors of sessions have left, line by line.
use Rattle.std.proofs.Common.{◌≡◌, ℕ, zero, suc, ◌+◌, ◌<◌, ◌≤◌, List, [], ◌∷◌, length, get_or, Bool, true, false, Option, Some, None, refl, cond, sym, ap, ◌∙◌, subst, arith}
use Rattle.std.specs.Prelude.{◌==◌, ◌&&◌, nat_lt, option_map, if◌then◌else◌}
use Rattle.std.specs.BTreeMap.{BTreeMap, get}
use Rattle.std.specs.Ordering.{nat_cmp}
use Rattle.std.proofs.lemmas.Bool.{ltb-true}
use Rattle.std.proofs.lemmas.Bool.Decides.{Decides-eqb, nat_tests}
use Rattle.hg_base.specs.declared.value.Value.{Value}
use Rattle.hg_base.specs.declared.scope.Scope.{Scope}
use Rattle.hg_base.specs.declared.statement.Statement.{Statement}
use Rattle.hg_base.specs.declared.statement.Statement.TheVariants.{Begin, Get, Put, Del, Scan, CursorOpen, Fetch, CursorClose, Commit, Rollback, Gc}
use Rattle.hg_base.specs.declared.statement.Record.{Record}
use Rattle.hg_base.specs.declared.line.Reply.{Reply}
use Rattle.hg_base.specs.Transcript.{Said, Rest, last_key, passed, last_of, open_after, next_after, ends, is_of, standing, said, said_after, rest_after, rest_in}
use Rattle.hg_base.proofs.ListFacts.{cases, false_true}
use Rattle.hg_base.proofs.Resting.{left_other}
use Rattle.hg_known.specs.declared.said.Rest as rests
use Rattle.hg_known.specs.declared.said.Last.{Last}
use Rattle.hg_known.specs.declared.said.Last.TheVariants.{Over, Open}
use Rattle.hg_known.specs.Lines.{rest_of, left_by, left_rest, without_rest, AreRests, IsRest}
use Rattle.hg_known.proofs.Closing.{IsCounted, last_counts, next_one}
use Rattle.hg_known.proofs.Reading.{Puts, put_at}

-- ---- the last key of rows

pub last_at : (none : ℕ) (rows : List (ℕ × List Value)) (k : ℕ) (p : ℕ × List Value) → k + 1 ≡ length rows → p ≡ get_or rows k p → p.0 ≡ last_key none rows
last_at none [] k p e is = absurd (omega (arith, e))
last_at none (q ∷ []) zero p e is = ap (λ (r : ℕ × List Value). r.0) is
last_at none (q ∷ []) (suc k) p e is = absurd (omega (arith, e))
last_at none (q ∷ r ∷ rows) zero p e is = absurd (omega (arith, e))
last_at none (q ∷ r ∷ rows) (suc k) p e is = last_at none (r ∷ rows) k p (omega (arith, e)) is

pub passed_none : (n high : ℕ) (rows : List (ℕ × List Value)) → length rows ≡ 0 → passed n high rows ≡ high
passed_none n high [] e = go (nat_lt 0 n)
  where
    go : (b : Bool) → (if b then high else high) ≡ high
    go true = refl
    go false = refl
passed_none n high (p ∷ rows) e = absurd (omega (arith, e))

pub passed_last : (n high : ℕ) (rows : List (ℕ × List Value)) (k : ℕ) (p : ℕ × List Value) → n ≤ length rows → k + 1 ≡ length rows → p ≡ get_or rows k p → p.0 ≡ passed n high rows
passed_last n high rows k p many e is = last_at high rows k p e is ∙ sym (go (nat_lt (length rows) n) refl)
  where
    go : (b : Bool) → nat_lt (length rows) n ≡ b → (if b then high else last_key high rows) ≡ last_key high rows
    go true f = let less : length rows < n = ltb-true (length rows) n f in absurd (omega (arith, less, many))
    go false f = refl

-- ---- what one line changes

same_number : (n : ℕ) → (n == n) ≡ true
same_number n = (Decides-eqb n n).1 refl

other_number : (n m : ℕ) → (n ≡ m → ⊥) → (n == m) ≡ false
other_number n m f = cases (n == m) (λ e. absurd (f ((Decides-eqb n m).0 e))) (λ e. e)

-- a line of another transaction
rest_apart : (j x : ℕ) (earlier : List Said) (now : Said) → is_of j x now ≡ false → rest_in j x (now ∷ earlier) ≡ rest_in j x earlier
rest_apart j x earlier now e = ap (λ b. if b then rest_after now.statement now.reply.answer (rest_in j x earlier) else rest_in j x earlier) e

-- a line of that transaction
rest_here : (j x : ℕ) (earlier : List Said) (now : Said) → is_of j x now ≡ true → rest_in j x (now ∷ earlier) ≡ rest_after now.statement now.reply.answer (rest_in j x earlier)
rest_here j x earlier now e = ap (λ b. if b then rest_after now.statement now.reply.answer (rest_in j x earlier) else rest_in j x earlier) e

-- another transaction of any session
not_of : (j x : ℕ) (now : Said) → (now.transaction ≡ x → ⊥) → is_of j x now ≡ false
not_of j x now f = ap (λ b. (now.session == j) && b) (other_number now.transaction x f) ∙ go (now.session == j)
  where
    go : (b : Bool) → (b && false) ≡ false
    go true = refl
    go false = refl

its_own : (now : Said) → is_of now.session now.transaction now ≡ true
its_own now = ap (λ b. b && (now.transaction == now.transaction)) (same_number now.session) ∙ same_number now.transaction

-- a line of another session
rests_other : (j : ℕ) (earlier : List Said) (now : Said) (last : Option Last) → (now.session == j) ≡ false → IsRest j earlier last → IsRest j (now ∷ earlier) last
rests_other j earlier now last e h =
    let same : last_of j (now ∷ earlier) ≡ last_of j earlier = ap (λ b. cond (b && nat_lt 0 now.transaction) (Some now) (last_of j earlier)) e in
    record {
      within = left_other j earlier now (left_rest last) e h.within;
      later = λ x over. rest_apart j x earlier now (ap (λ b. b && (now.transaction == x)) e) ∙ h.later x (subst (λ o. next_after o ≤ x) same over);
      outside = rest_apart j 0 earlier now (ap (λ b. b && (now.transaction == 0)) e) ∙ h.outside;
    }

none_is_not_some : (s : Said) → None ≡ Some s → ⊥
none_is_not_some s e = cc

some_is_some : (s t : Said) → Some s ≡ Some t → s ≡ t
some_is_some s t e = cc

-- a line of a transaction of the session
rests_own : (earlier : List Said) (now : Said) (old : Option Last) (left : Last) → IsRest now.session earlier old → nat_lt 0 now.transaction ≡ true →
    next_after (last_of now.session earlier) ≤ suc now.transaction →
    (ends now ≡ false → left_rest (Some left) ≡ rest_after now.statement now.reply.answer (rest_in now.session now.transaction earlier)) → IsRest now.session (now ∷ earlier) (Some left)
rests_own earlier now old left h some next is = record {
  within = λ opened o. go (ends now) refl opened (sym (ap open_after last) ∙ o);
  later = λ x over.
      let over_now : suc now.transaction ≤ x = subst (λ o. next_after o ≤ x) last over in
      rest_apart now.session x earlier now (not_of now.session x now (λ e. omega (arith, over_now, e))) ∙ h.later x (omega (arith, next, over_now));
  outside = let one : 0 < now.transaction = ltb-true 0 now.transaction some in rest_apart now.session 0 earlier now (not_of now.session 0 now (λ e. omega (arith, one, e))) ∙ h.outside;
}
  where
    last : last_of now.session (now ∷ earlier) ≡ Some now
    last = ap (λ b. cond (b && nat_lt 0 now.transaction) (Some now) (last_of now.session earlier)) (same_number now.session) ∙ ap (λ b. cond b (Some now) (last_of now.session earlier)) some

    go : (b : Bool) → ends now ≡ b → (opened : Said) → (if b then None else Some now) ≡ Some opened → left_rest (Some left) ≡ rest_in now.session opened.transaction (now ∷ earlier)
    go true e opened o = absurd (none_is_not_some opened o)
    go false e opened o = subst (λ (s : Said). left_rest (Some left) ≡ rest_in now.session s.transaction (now ∷ earlier)) (some_is_some now opened o) (is e ∙
        sym (rest_here now.session now.transaction earlier now (its_own now)))

-- a line in no transaction
rests_outside : (j : ℕ) (earlier : List Said) (now : Said) (last : Option Last) → nat_lt 0 now.transaction ≡ false →
    ((q : Option Rest) → rest_after now.statement now.reply.answer q ≡ q) → IsRest j earlier last → IsRest j (now ∷ earlier) last
rests_outside j earlier now last none keeps h = record {
  within = λ opened o. h.within opened (sym (ap open_after same) ∙ o) ∙ sym (kept opened.transaction);
  later = λ x over. kept x ∙ h.later x (subst (λ o. next_after o ≤ x) same over);
  outside = kept 0 ∙ h.outside;
}
  where
    go : (b : Bool) → (b && nat_lt 0 now.transaction) ≡ false
    go true = none
    go false = refl

    same : last_of j (now ∷ earlier) ≡ last_of j earlier
    same = ap (λ b. cond b (Some now) (last_of j earlier)) (go (now.session == j))

    kept : (x : ℕ) → rest_in j x (now ∷ earlier) ≡ rest_in j x earlier
    kept x = ap (λ q. if is_of j x now then q else rest_in j x earlier) (keeps (rest_in j x earlier)) ∙ both (is_of j x now) (rest_in j x earlier)
      where
        both : (b : Bool) (q : Option Rest) → (if b then q else q) ≡ q
        both true q = refl
        both false q = refl

-- ---- which lines stand in no transaction

standing_some : (last : Option Said) → IsCounted last → (r : Record) (reply : Reply) → 1 ≤ (standing (open_after last) (next_after last) r reply).transaction
standing_some None p r reply = omega arith
standing_some (Some last) p r reply = go (ends last)
  where
    go : (b : Bool) → 1 ≤ (standing (cond b None (Some last)) (suc last.transaction) r reply).transaction
    go true = omega arith
    go false = p

standing_next : (last : Option Said) (r : Record) (reply : Reply) → next_after last ≤ suc (standing (open_after last) (next_after last) r reply).transaction
standing_next None r reply = omega arith
standing_next (Some last) r reply = go (ends last)
  where
    go : (b : Bool) → suc last.transaction ≤ suc (standing (cond b None (Some last)) (suc last.transaction) r reply).transaction
    go true = omega arith
    go false = omega arith

standing_statement : (o : Option Said) (x : ℕ) (r : Record) (reply : Reply) → (standing o x r reply).statement ≡ r.statement
standing_statement None x r reply = refl
standing_statement (Some opened) x r reply = refl

-- the statement changes nothing of what a cursor has left, or the line stands in a transaction, which is the last or a later one
abbrev Stands : Option Said → Said → Statement → Reply → Type 0
Stands last now asked reply = (nat_lt 0 now.transaction ≡ false → (q : Option Rest) → rest_after asked reply.answer q ≡ q) × (nat_lt 0 now.transaction ≡ true → next_after last ≤ suc now.transaction)

in_some : (last : Option Said) (now : Said) (asked : Statement) (reply : Reply) → 1 ≤ now.transaction → next_after last ≤ suc now.transaction → Stands last now asked reply
in_some last now asked reply one next = (λ none q. absurd (false_true (sym none ∙ positive now.transaction one)), λ some. next)
  where
    positive : (n : ℕ) → 1 ≤ n → nat_lt 0 n ≡ true
    positive n = grind (arith, nat_tests)

in_standing : (last : Option Said) → IsCounted last → (r : Record) (reply : Reply) (asked : Statement) → Stands last (standing (open_after last) (next_after last) r reply) asked reply
in_standing last p r reply asked = in_some last (standing (open_after last) (next_after last) r reply) asked reply (standing_some last p r reply) (standing_next last r reply)

after_stands : (last : Option Said) → IsCounted last → (r : Record) (reply : Reply) (asked : Statement) → Stands last (said_after last r reply asked) asked reply
after_stands last p r reply (Begin scope) = in_some last (said_after last r reply (Begin scope)) (Begin scope) reply (next_one last) (omega arith)
after_stands last p r reply (CursorOpen table low high) = in_some last (said_after last r reply (CursorOpen table low high)) (CursorOpen table low high) reply (next_one last) (omega arith)
after_stands last p r reply (Gc kind) = (λ none q. refl, λ some. absurd (false_true some))
after_stands last p r reply (Fetch n) = in_standing last p r reply (Fetch n)
after_stands last p r reply CursorClose = in_standing last p r reply CursorClose
after_stands last p r reply (Get rid) = in_standing last p r reply (Get rid)
after_stands last p r reply (Put rid row) = in_standing last p r reply (Put rid row)
after_stands last p r reply (Del rid) = in_standing last p r reply (Del rid)
after_stands last p r reply (Scan table low high) = in_standing last p r reply (Scan table low high)
after_stands last p r reply Commit = in_standing last p r reply Commit
after_stands last p r reply Rollback = in_standing last p r reply Rollback

-- a line says what its record asks
abbrev Says : Said → Record → Reply → Type 0
Says now r reply = (now.session ≡ r.session) × (now.statement ≡ r.statement) × (now.reply ≡ reply)

standing_says : (o : Option Said) (x : ℕ) (r : Record) (reply : Reply) → Says (standing o x r reply) r reply
standing_says None x r reply = (refl, refl, refl)
standing_says (Some opened) x r reply = (refl, refl, refl)

after_says : (last : Option Said) (r : Record) (reply : Reply) (asked : Statement) → Says (said_after last r reply asked) r reply
after_says last r reply (Begin scope) = (refl, refl, refl)
after_says last r reply (CursorOpen table low high) = (refl, refl, refl)
after_says last r reply (Gc kind) = (refl, refl, refl)
after_says last r reply (Fetch n) = standing_says (open_after last) (next_after last) r reply
after_says last r reply CursorClose = standing_says (open_after last) (next_after last) r reply
after_says last r reply (Get rid) = standing_says (open_after last) (next_after last) r reply
after_says last r reply (Put rid row) = standing_says (open_after last) (next_after last) r reply
after_says last r reply (Del rid) = standing_says (open_after last) (next_after last) r reply
after_says last r reply (Scan table low high) = standing_says (open_after last) (next_after last) r reply
after_says last r reply Commit = standing_says (open_after last) (next_after last) r reply
after_says last r reply Rollback = standing_says (open_after last) (next_after last) r reply

said_stands : (earlier : List Said) (r : Record) (reply : Reply) (now : Said) → now ≡ said earlier r reply → Stands (last_of now.session earlier) now now.statement now.reply
said_stands earlier r reply now is =
    let last = last_of r.session earlier in
    let says = after_says last r reply r.statement in
    let here : Stands last (said earlier r reply) r.statement reply = after_stands last (last_counts r.session earlier) r reply r.statement in
    subst (λ (s : Said). Stands (last_of s.session earlier) s s.statement s.reply) (sym is)
    (subst (λ j. Stands (last_of j earlier) (said earlier r reply) (said earlier r reply).statement (said earlier r reply).reply) (sym says.0)
    (subst (λ s. Stands last (said earlier r reply) s (said earlier r reply).reply) (sym says.1) (subst (Stands last (said earlier r reply) r.statement) (sym says.2) here)))

-- ---- one line more

pub rests_more : (old new : BTreeMap ℕ Last) (earlier : List Said) (r : Record) (reply : Reply) (now : Said) (left : Last) (rest : Option rests.Rest) → now ≡ said earlier r reply →
    AreRests old earlier → nat_lt 0 now.transaction ≡ true →
    option_map rest_of rest ≡ rest_in now.session now.transaction earlier →
    (ends now ≡ false → left_rest (Some left) ≡ rest_after now.statement now.reply.answer (option_map rest_of rest)) → Puts old new now.session left → AreRests new (now ∷ earlier)
rests_more old new earlier r reply now left rest is h some shown left_is put j = subst (IsRest j (now ∷ earlier)) (sym (put_at old new now.session left put j)) (cases (now.session == j) mine other)
  where
    mine : (now.session == j) ≡ true → IsRest j (now ∷ earlier) (cond (now.session == j) (Some left) (get nat_cmp old j))
    mine e = subst (λ b. IsRest j (now ∷ earlier) (cond b (Some left) (get nat_cmp old j))) (sym e)
        (subst (λ i. IsRest i (now ∷ earlier) (Some left)) ((Decides-eqb now.session j).0 e)
        (rests_own earlier now (get nat_cmp old now.session) left (h now.session) some ((said_stands earlier r reply now is).1 some) (λ f. left_is f ∙
        ap (rest_after now.statement now.reply.answer) shown)))

    other : (now.session == j) ≡ false → IsRest j (now ∷ earlier) (cond (now.session == j) (Some left) (get nat_cmp old j))
    other e = subst (λ b. IsRest j (now ∷ earlier) (cond b (Some left) (get nat_cmp old j))) (sym e) (rests_other j earlier now (get nat_cmp old j) e (h j))

pub rests_same : (old : BTreeMap ℕ Last) (earlier : List Said) (r : Record) (reply : Reply) (now : Said) → now ≡ said earlier r reply → AreRests old earlier →
    nat_lt 0 now.transaction ≡ false → AreRests old (now ∷ earlier)
rests_same old earlier r reply now is h none j = rests_outside j earlier now (get nat_cmp old j) none ((said_stands earlier r reply now is).0 none) (h j)

-- no line was read
pub rests_first : (j : ℕ) → IsRest j [] None
rests_first j = record { within = λ opened o. absurd (none_is_not_some opened o); later = λ x over. refl; outside = refl }

-- ---- the line itself

-- the first line of a transaction has no cursor before it
pub none_before : (j : ℕ) (earlier : List Said) (last : Option Last) (next : ℕ) → next ≡ next_after (last_of j earlier) → IsRest j earlier last → None ≡ rest_in j next earlier
none_before j earlier last next e h = sym (h.later next (omega (arith, e)))

-- a line of the open transaction
pub open_before : (j : ℕ) (earlier : List Said) (transaction at : ℕ) (scope : Scope) (rest : Option rests.Rest) →
    option_map without_rest (Some (Open transaction at scope rest)) ≡ option_map left_by (last_of j earlier) → IsRest j earlier (Some (Open transaction at scope rest)) →
    option_map rest_of rest ≡ rest_in j transaction earlier
open_before j earlier transaction at scope rest e h = go (last_of j earlier) refl e
  where
    within : (said : Said) (b : Bool) → ends said ≡ b → last_of j earlier ≡ Some said →
        Some (Open transaction at scope None) ≡ Some (if b then Over said.transaction else Open said.transaction said.at said.scope None) → option_map rest_of rest ≡ rest_in j transaction earlier
    within said true f is e = absurd (apart e)
      where
        apart : Some (Open transaction at scope None) ≡ Some (Over said.transaction) → ⊥
        apart e = cc
    within said false f is e = h.within said (ap open_after is ∙ ap (λ b. if b then None else Some said) f) ∙ ap (λ x. rest_in j x earlier) (sym (number e))
      where
        number : Some (Open transaction at scope None) ≡ Some (Open said.transaction said.at said.scope None) → transaction ≡ said.transaction
        number e = cc

    go : (o : Option Said) → last_of j earlier ≡ o → Some (Open transaction at scope None) ≡ option_map left_by o → option_map rest_of rest ≡ rest_in j transaction earlier
    go None is e = absurd (none_here e)
      where
        none_here : Some (Open transaction at scope None) ≡ None → ⊥
        none_here e = cc
    go (Some said) is e = within said (ends said) refl is e
