-- What a session's cursor has left, as the lines before show it.
use Rattle.std.proofs.Common.{◌≡◌, ℕ, suc, List, [], ◌∷◌, Bool, true, false, Option, Some, None, refl, sym, ap, ◌∙◌, subst, arith}
use Rattle.std.specs.Prelude.{◌==◌, ◌&&◌, cond, if◌then◌else◌, nat_lt}
use Rattle.std.proofs.lemmas.Bool.Decides.{Decides-eqb, nat_tests}
use Rattle.hg_base.specs.declared.statement.Statement.{Statement}
use Rattle.hg_base.specs.declared.statement.Statement.TheVariants.{Begin, CursorOpen, Gc}
use Rattle.hg_base.specs.declared.statement.Record.{Record}
use Rattle.hg_base.specs.declared.line.Reply.{Reply}
use Rattle.hg_base.specs.Transcript.{Said, Rest, last_of, open_of, open_after, next_after, ends, standing, said, rest_after, rest_in}
use Rattle.hg_base.proofs.ListFacts.{cases}

-- this is what the cursor of the session's open transaction has left, if there is one
abbrev pub ShowsRest : ℕ → List Said → Option Rest → Type 0
ShowsRest j earlier left = (opened : Said) → open_of j earlier ≡ Some opened → left ≡ rest_in j opened.transaction earlier

abbrev pub record_of : ℕ → ℕ → Statement → Record
record_of place j s = record { place = place; session = j; statement = s }

same_number : (n : ℕ) → (n == n) ≡ true
same_number n = (Decides-eqb n n).1 refl

none_is_not_some : {X : Type 0} (x : X) → None ≡ Some x → ⊥
none_is_not_some x e = cc

some_is_some : {X : Type 0} (x z : X) → Some x ≡ Some z → x ≡ z
some_is_some x z e = cc

pub left_nothing : (j : ℕ) → ShowsRest j [] None
left_nothing j = λ opened o. absurd (none_is_not_some opened o)

-- a line of another session
pub left_other : (j : ℕ) (earlier : List Said) (now : Said) (left : Option Rest) → (now.session == j) ≡ false → ShowsRest j earlier left → ShowsRest j (now ∷ earlier) left
left_other j earlier now left e h = λ opened o.
    let last : last_of j (now ∷ earlier) ≡ last_of j earlier = ap (λ b. cond (b && nat_lt 0 now.transaction) (Some now) (last_of j earlier)) e in
    h opened (sym (ap open_after last) ∙ o)
    ∙ sym (ap (λ b. if b && (now.transaction == opened.transaction) then rest_after now.statement now.reply.answer (rest_in j opened.transaction earlier) else rest_in j opened.transaction earlier) e)

-- what stands there after a line of that transaction
rest_here : (j x : ℕ) (earlier : List Said) (now : Said) → now.session ≡ j → now.transaction ≡ x → rest_in j x (now ∷ earlier) ≡ rest_after now.statement now.reply.answer (rest_in j x earlier)
rest_here j x earlier now mine number =
    let session : (now.session == j) ≡ true = subst (λ n. (n == j) ≡ true) (sym mine) (same_number j) in
    let transaction : (now.transaction == x) ≡ true = subst (λ n. (n == x) ≡ true) (sym number) (same_number x) in
    ap (λ b. if b && (now.transaction == x) then rest_after now.statement now.reply.answer (rest_in j x earlier) else rest_in j x earlier) session
    ∙ ap (λ b. if b then rest_after now.statement now.reply.answer (rest_in j x earlier) else rest_in j x earlier) transaction

last_by : (j : ℕ) (earlier : List Said) (now : Said) (b : Bool) → now.session ≡ j → nat_lt 0 now.transaction ≡ b → last_of j (now ∷ earlier) ≡ cond b (Some now) (last_of j earlier)
last_by j earlier now b mine e =
    let session : (now.session == j) ≡ true = subst (λ n. (n == j) ≡ true) (sym mine) (same_number j) in
    ap (λ c. cond (c && nat_lt 0 now.transaction) (Some now) (last_of j earlier)) session ∙ ap (λ c. cond c (Some now) (last_of j earlier)) e

-- the first line of a transaction
left_first : (j : ℕ) (earlier : List Said) (now : Said) (left : Option Rest) → now.session ≡ j → nat_lt 0 now.transaction ≡ true → left ≡ rest_in j now.transaction (now ∷ earlier)
    → ShowsRest j (now ∷ earlier) left
left_first j earlier now left mine some is = λ opened o. go (ends now) refl opened (sym (ap open_after (last_by j earlier now true mine some)) ∙ o)
  where
    go : (b : Bool) → ends now ≡ b → (opened : Said) → (if b then None else Some now) ≡ Some opened → left ≡ rest_in j opened.transaction (now ∷ earlier)
    go true e opened o = absurd (none_is_not_some opened o)
    go false e opened o = subst (λ (s : Said). left ≡ rest_in j s.transaction (now ∷ earlier)) (some_is_some now opened o) is

next_some : (last : Option Said) → nat_lt 0 (next_after last) ≡ true
next_some None = refl
next_some (Some s) = over s.transaction
  where
    over : (n : ℕ) → nat_lt 0 (suc n) ≡ true
    over n = grind (arith, nat_tests)

-- a line that stands in the open transaction, or is one of its own
left_stands : (j : ℕ) (earlier : List Said) (r : Record) (reply : Reply) (left : Option Rest) (q : Option Said) → r.session ≡ j → open_of j earlier ≡ q → ShowsRest j earlier left →
    ShowsRest j (standing q (next_after (last_of j earlier)) r reply ∷ earlier) (rest_after r.statement reply.answer left)
left_stands j earlier r reply left None mine was h =
    let now : Said = standing None (next_after (last_of j earlier)) r reply in
    λ opened o. absurd (none_is_not_some opened (sym (ap open_after (last_by j earlier now true mine (next_some (last_of j earlier)))) ∙ o))
left_stands j earlier r reply left (Some was_open) mine was h =
    let now : Said = standing (Some was_open) (next_after (last_of j earlier)) r reply in
    let here : rest_after r.statement reply.answer left ≡ rest_in j was_open.transaction (now ∷ earlier) = ap (rest_after r.statement reply.answer) (h was_open was) ∙
    sym (rest_here j was_open.transaction earlier now mine refl) in
    cases (nat_lt 0 was_open.transaction)
    (λ t. left_first j earlier now (rest_after r.statement reply.answer left) mine t here)
    (λ f. λ opened o.
    let same : was_open ≡ opened = some_is_some was_open opened (sym was ∙ (sym (ap open_after (last_by j earlier now false mine f)) ∙ o)) in
    subst (λ (s : Said). rest_after r.statement reply.answer left ≡ rest_in j s.transaction (now ∷ earlier)) same here)

-- a line of the session itself
pub left_own : (earlier : List Said) (place j : ℕ) (reply : Reply) (s : Statement) (left : Option Rest) → ShowsRest j earlier left →
    ShowsRest j (said earlier (record_of place j s) reply ∷ earlier) (rest_after s reply.answer left)
left_own earlier place j reply (Begin scope) left h =
    let now : Said = said earlier (record_of place j (Begin scope)) reply in
    left_first j earlier now None refl (next_some (last_of j earlier)) (sym (rest_here j now.transaction earlier now refl refl))
left_own earlier place j reply (CursorOpen table low high) left h =
    let now : Said = said earlier (record_of place j (CursorOpen table low high)) reply in
    left_first j earlier now (Some (record { table = table; low = low; high = high })) refl (next_some (last_of j earlier)) (sym (rest_here j now.transaction earlier now refl refl))
left_own earlier place j reply (Gc kind) left h =
    let now : Said = said earlier (record_of place j (Gc kind)) reply in
    λ opened o.
    h opened (sym (ap open_after (last_by j earlier now false refl refl)) ∙ o)
    ∙ sym (same ((j == j) && (0 == opened.transaction)) (rest_in j opened.transaction earlier))
  where
    same : (b : Bool) (rest : Option Rest) → (if b then rest else rest) ≡ rest
    same true rest = refl
    same false rest = refl
left_own earlier place j reply s left h = left_stands j earlier (record_of place j s) reply left (open_of j earlier) refl refl h
