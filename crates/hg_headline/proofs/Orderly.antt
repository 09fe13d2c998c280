-- Of printed lines alone: no line of an open transaction ends it.
use Rattle.std.proofs.Common.{◌≡◌, ℕ, suc, ◌<◌, ◌≤◌, ◌⊎◌, inl, inr, List, [], ◌∷◌, Bool, true, false, Option, Some, None, refl, sym, ap, ◌∙◌, subst, arith}
use Rattle.std.specs.Prelude.{◌==◌, ◌&&◌, ◌||◌, filter, cond, if◌then◌else◌, nat_lt}
use Rattle.std.specs.List.{list_any}
use Rattle.std.proofs.lemmas.Bool.Decides.{Decides-eqb, Decides-ltb}
use Rattle.hg_base.specs.declared.statement.Record.{Record}
use Rattle.hg_base.specs.declared.statement.Statement.{Statement}
use Rattle.hg_base.specs.declared.statement.Statement.TheVariants.{Begin, Gc, CursorOpen}
use Rattle.hg_base.specs.declared.line.Reply.{Reply}
use Rattle.hg_base.specs.declared.line.Line.{Line}
use Rattle.hg_base.specs.Lists.{Each, EachAfter}
use Rattle.hg_base.specs.Transcript.{Said, last_of, open_of, open_after, next_after, standing, said, said_from, is_of, ends}
use Rattle.hg_base.proofs.ListFacts.{cases, each_keeps}
use Rattle.hg_headline.proofs.Words.{same_number, differs, none_is_not_some, some_is_some}
use Rattle.hg_headline.proofs.Whole.{said_says}

-- none of another session, and each of this one below the number
abbrev pub BelowIn : ℕ → ℕ → Said → Type 0
BelowIn j n s = ((s.session == j) ≡ false) ⊎ (s.transaction < n)

pub record Orderly (j : ℕ) (earlier : List Said) : Type 0 where
  pub top : Each (BelowIn j (next_after (last_of j earlier))) earlier
  pub numbered : (s : Said) → last_of j earlier ≡ Some s → nat_lt 0 s.transaction ≡ true
  pub going : (s : Said) → open_of j earlier ≡ Some s → list_any ends (filter (is_of j s.transaction) earlier) ≡ false

pub orderly_nothing : (j : ℕ) → Orderly j []
orderly_nothing j = record { top = tt; numbered = λ s e. absurd (none_is_not_some s e); going = λ s e. absurd (none_is_not_some s e) }

pub orderly_other : (j : ℕ) (earlier : List Said) (now : Said) → (now.session == j) ≡ false → Orderly j earlier → Orderly j (now ∷ earlier)
orderly_other j earlier now e o =
    let last : last_of j (now ∷ earlier) ≡ last_of j earlier = ap (λ b. cond (b && nat_lt 0 now.transaction) (Some now) (last_of j earlier)) e in
    record {
      top = (inl e, subst (λ l. Each (BelowIn j (next_after l)) earlier) (sym last) o.top);
      numbered = λ s k. o.numbered s (sym last ∙ k);
      going = λ s k. ap (λ b. list_any ends (cond (b && (now.transaction == s.transaction)) (now ∷ filter (is_of j s.transaction) earlier)
          (filter (is_of j s.transaction) earlier))) e ∙ o.going s (ap open_after (sym last) ∙ k);
    }

pub below_wider : (j n m : ℕ) → n ≤ m → (xs : List Said) → Each (BelowIn j n) xs → Each (BelowIn j m) xs
below_wider j n m k xs h = each_keeps (BelowIn j n) (BelowIn j m) (λ s q. go s q) xs h
  where
    go : (s : Said) → BelowIn j n s → BelowIn j m s
    go s (inl e) = inl e
    go s (inr q) = inr (omega (arith, k, q))

pub none_above : (j n : ℕ) (xs : List Said) → Each (BelowIn j n) xs → filter (is_of j n) xs ≡ []
none_above j n [] h = refl
none_above j n (x ∷ xs) h = ap (λ b. cond b (x ∷ filter (is_of j n) xs) (filter (is_of j n) xs)) (out h.0) ∙ none_above j n xs h.1
  where
    out : BelowIn j n x → ((x.session == j) && (x.transaction == n)) ≡ false
    out (inl e) = ap (λ b. b && (x.transaction == n)) e
    out (inr k) = ap (λ b. (x.session == j) && b) (differs x.transaction n k) ∙ none (x.session == j)
      where
        none : (b : Bool) → (b && false) ≡ false
        none true = refl
        none false = refl

pub next_over : (last : Option Said) → 0 < next_after last
next_over None = omega arith
next_over (Some s) = omega arith

pub last_is_now : (j : ℕ) (earlier : List Said) (now : Said) → (now.session == j) ≡ true → nat_lt 0 now.transaction ≡ true → last_of j (now ∷ earlier) ≡ Some now
last_is_now j earlier now e k = ap (λ b. cond (b && nat_lt 0 now.transaction) (Some now) (last_of j earlier)) e ∙ ap (λ b. cond b (Some now) (last_of j earlier)) k

pub any_with : (j n : ℕ) (earlier : List Said) (now : Said) → (now.session == j) ≡ true → ends now ≡ false → list_any ends (filter (is_of j n) earlier) ≡ false →
    list_any ends (filter (is_of j n) (now ∷ earlier)) ≡ false
any_with j n earlier now e goes_on h = ap (λ b. list_any ends (cond (b && (now.transaction == n)) (now ∷ filter (is_of j n) earlier) (filter (is_of j n) earlier))) e ∙ go (now.transaction == n)
  where
    go : (b : Bool) → list_any ends (cond b (now ∷ filter (is_of j n) earlier) (filter (is_of j n) earlier)) ≡ false
    go true = ap (λ b. b || list_any ends (filter (is_of j n) earlier)) goes_on ∙ h
    go false = h

-- a line that stands in no transaction
pub orderly_beside : (j : ℕ) (earlier : List Said) (now : Said) → (now.session == j) ≡ true → now.transaction ≡ 0 → ends now ≡ false → Orderly j earlier → Orderly j (now ∷ earlier)
orderly_beside j earlier now e z goes_on o =
    let last : last_of j (now ∷ earlier) ≡ last_of j earlier = ap (λ n. cond ((now.session == j) && nat_lt 0 n) (Some now) (last_of j earlier)) z ∙ none (now.session == j) in
    record {
      top = (inr (first last), subst (λ l. Each (BelowIn j (next_after l)) earlier) (sym last) o.top);
      numbered = λ s k. o.numbered s (sym last ∙ k);
      going = λ s k. any_with j s.transaction earlier now e goes_on (o.going s (ap open_after (sym last) ∙ k));
    }
  where
    none : (b : Bool) → cond (b && false) (Some now) (last_of j earlier) ≡ last_of j earlier
    none true = refl
    none false = refl

    first : last_of j (now ∷ earlier) ≡ last_of j earlier → now.transaction < next_after (last_of j (now ∷ earlier))
    first last = let k : 0 < next_after (last_of j (now ∷ earlier)) = next_over (last_of j (now ∷ earlier)) in omega (arith, z, k)

-- the first line of a transaction
pub orderly_next : (j : ℕ) (earlier : List Said) (now : Said) → (now.session == j) ≡ true → now.transaction ≡ next_after (last_of j earlier) → Orderly j earlier → Orderly j (now ∷ earlier)
orderly_next j earlier now e z o =
    let over : 0 < next_after (last_of j earlier) = next_over (last_of j earlier) in
    let number : nat_lt 0 now.transaction ≡ true = (Decides-ltb 0 now.transaction).1 (omega (arith, z, over)) in
    let last : last_of j (now ∷ earlier) ≡ Some now = last_is_now j earlier now e number in
    let before : filter (is_of j now.transaction) earlier ≡ [] = none_above j now.transaction earlier (subst (λ n. Each (BelowIn j n) earlier) (sym z) o.top) in
    record {
      top = subst (λ l. Each (BelowIn j (next_after l)) (now ∷ earlier)) (sym last) (
        inr (omega arith),
        below_wider j (next_after (last_of j earlier)) (suc now.transaction)
            (omega (arith, z)) earlier o.top,
      );
      numbered = λ s k. subst (λ t. nat_lt 0 t.transaction ≡ true) (some_is_some now s (sym last ∙ k)) number;
      going = λ s k. opens (ends now) refl before s (ap open_after (sym last) ∙ k);
    }
  where
    opens : (b : Bool) → ends now ≡ b → filter (is_of j now.transaction) earlier ≡ [] → (s : Said) → (if b then None else Some now) ≡ Some s →
        list_any ends (filter (is_of j s.transaction) (now ∷ earlier)) ≡ false
    opens true goes_on before s k = absurd (none_is_not_some s k)
    opens false goes_on before s k = subst (λ t. list_any ends (filter (is_of j t.transaction) (now ∷ earlier)) ≡ false) (some_is_some now s k)
        (any_with j now.transaction earlier now e goes_on (ap (list_any ends) before))

-- a line of the open transaction
pub orderly_in : (j : ℕ) (earlier : List Said) (now : Said) (opened : Said) → (now.session == j) ≡ true → open_of j earlier ≡ Some opened → now.transaction ≡ opened.transaction →
    Orderly j earlier → Orderly j (now ∷ earlier)
orderly_in j earlier now opened e f z o =
    let was : last_of j earlier ≡ Some opened = the_last (last_of j earlier) f in
    let number : nat_lt 0 now.transaction ≡ true = ap (nat_lt 0) z ∙ o.numbered opened was in
    let last : last_of j (now ∷ earlier) ≡ Some now = last_is_now j earlier now e number in
    record {
      top = subst (λ l. Each (BelowIn j (next_after l)) (now ∷ earlier)) (sym last) (
        inr (omega arith),
        below_wider j (suc opened.transaction) (suc now.transaction)
            (omega (arith, z)) earlier (subst (λ l. Each (BelowIn j (next_after l)) earlier) was o.top),
      );
      numbered = λ s k. subst (λ t. nat_lt 0 t.transaction ≡ true) (some_is_some now s (sym last ∙ k)) number;
      going = λ s k. opens (ends now) refl s (ap open_after (sym last) ∙ k);
    }
  where
    the_last : (l : Option Said) → open_after l ≡ Some opened → l ≡ Some opened
    the_last None k = k
    the_last (Some s) k = open_one (ends s) k
      where
        open_one : (b : Bool) → (if b then None else Some s) ≡ Some opened → Some s ≡ Some opened
        open_one true q = absurd (none_is_not_some opened q)
        open_one false q = q

    opens : (b : Bool) → ends now ≡ b → (s : Said) → (if b then None else Some now) ≡ Some s → list_any ends (filter (is_of j s.transaction) (now ∷ earlier)) ≡ false
    opens true goes_on s k = absurd (none_is_not_some s k)
    opens false goes_on s k = subst (λ t. list_any ends (filter (is_of j t.transaction) (now ∷ earlier)) ≡ false) (some_is_some now s k)
        (any_with j now.transaction earlier now e goes_on (ap (λ n. list_any ends (filter (is_of j n) earlier)) z ∙ o.going opened f))

pub orderly_stands : (earlier : List Said) (r : Record) (reply : Reply) (q : Option Said) → open_of r.session earlier ≡ q → Orderly r.session earlier →
    Orderly r.session (standing q (next_after (last_of r.session earlier)) r reply ∷ earlier)
orderly_stands earlier r reply None f o = orderly_next r.session earlier (standing None (next_after (last_of r.session earlier)) r reply) (same_number r.session) refl o
orderly_stands earlier r reply (Some opened) f o = orderly_in r.session earlier (standing (Some opened) (next_after (last_of r.session earlier)) r reply) opened (same_number r.session) f refl o

pub orderly_own : (earlier : List Said) (place j : ℕ) (reply : Reply) (s : Statement) → Orderly j earlier →
    Orderly j (said earlier (record { place = place; session = j; statement = s }) reply ∷ earlier)
orderly_own earlier place j reply (Begin scope) o = orderly_next j earlier (said earlier (record { place = place; session = j; statement = Begin scope }) reply) (same_number j) refl o
orderly_own earlier place j reply (CursorOpen table low high) o = orderly_next j earlier
    (said earlier (record { place = place; session = j; statement = CursorOpen table low high }) reply) (same_number j) refl o
orderly_own earlier place j reply (Gc kind) o = orderly_beside j earlier (said earlier (record { place = place; session = j; statement = Gc kind }) reply) (same_number j) refl refl o
orderly_own earlier place j reply s o = orderly_stands earlier (record { place = place; session = j; statement = s }) reply (open_of j earlier) refl o

pub orderly_step : (earlier : List Said) (r : Record) (reply : Reply) → ((j : ℕ) → Orderly j earlier) → (j : ℕ) → Orderly j (said earlier r reply ∷ earlier)
orderly_step earlier r reply o j = cases ((said earlier r reply).session == j)
    (λ e. let same : r.session ≡ j = sym ((said_says (last_of r.session earlier) r reply r.statement).0) ∙ (Decides-eqb (said earlier r reply).session j).0 e in
    subst (λ i. Orderly i (said earlier r reply ∷ earlier)) same (orderly_own earlier r.place r.session reply r.statement (o r.session)))
    (λ e. orderly_other j earlier (said earlier r reply) e (o j))

pub orderly_all : (rs : List Record) (lines : List Line) (earlier : List Said) → ((j : ℕ) → Orderly j earlier) → EachAfter (λ es now. (j : ℕ) → Orderly j es) earlier (said_from earlier rs lines)
orderly_all [] lines earlier o = tt
orderly_all (r ∷ rs) [] earlier o = tt
orderly_all (r ∷ rs) (line ∷ lines) earlier o = (o, orderly_all rs lines (said earlier r line.reply ∷ earlier) (orderly_step earlier r line.reply o))
