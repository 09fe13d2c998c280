-- What is kept of the printed commits, with one commit more.
use Rattle.std.proofs.Common.{◌≡◌, ℕ, ◌<◌, List, [], ◌∷◌, ◌++◌, length, map, Bool, true, false, Option, Some, None, refl, sym, ap, ◌∙◌, subst, arith}
use Rattle.std.specs.Prelude.{◌==◌, ◌&&◌, ◌||◌, cond, IsSome, is_some, IsFalse, max, not}
use Rattle.std.specs.List.{list_any}
use Rattle.std.specs.Option.{option_or}
use Rattle.std.specs.BTreeSet.{BTreeSet, contains}
use Rattle.std.specs.BTreeMap.{is_at}
use Rattle.std.specs.Ordering.{nat_cmp}
use Rattle.std.proofs.lemmas.Bool.Decides.{Decides-eqb}
use Rattle.std.proofs.lemmas.List.{map-append}
use Rattle.hg_base.specs.declared.rid.Rid.{Rid}
use Rattle.hg_base.specs.declared.image.Image.{Image}
use Rattle.hg_base.specs.Lists.{Each, greatest}
use Rattle.hg_base.specs.History.{Write, Commit, image_in}
use Rattle.hg_base.specs.Transcript.{Said, own_writes}
use Rattle.hg_base.proofs.ListFacts.{cases, false_true}
use Rattle.hg_base.proofs.HistoryFacts.{same_rid_itself, and_parts}
use Rattle.hg_base.proofs.RidOrder.{alike_numbers, alike_parts}
use Rattle.hg_known.specs.declared.own.Spot.{Spot}
use Rattle.hg_known.specs.declared.writes.Slot.{Slot}
use Rattle.hg_known.specs.declared.history.Seat.{Seat}
use Rattle.hg_known.specs.Written.{image_at}
use Rattle.hg_known.specs.Owned.{own_at, HasOwn}
use Rattle.hg_known.specs.Joined.{IsJoined}
use Rattle.hg_known.specs.Commits.{AreApart, image_of}
use Rattle.hg_known.specs.Shown.{seat, seat_cmp, sits, printed}
use Rattle.hg_known.proofs.Pairs.{any_append, none_of_no, or_left, or_right}
use Rattle.hg_known.proofs.Whole.{last_image_in, image_push}

-- what the transaction stored is what it commits
pub stored_is : (own : List (Spot × Image)) (earlier : List Said) (now : Said) → HasOwn own (now ∷ earlier) now → (n : ℕ) (r : Rid) →
    own_at own now.session now.transaction r ≡ image_in r (printed n earlier now).1.images
stored_is own earlier now h n r = h r ∙ sym (last_image_in r (own_writes (now ∷ earlier) now))

pub is_not_none : (o : Option Image) → o ≡ None → IsSome o → ⊥
is_not_none None e s = false_true s
is_not_none (Some i) e s = cc

-- ---- a commit that writes nothing, or something

pub wrote_none : (ws : List Write) → ((r : Rid) → image_in r ws ≡ None) → 0 < length ws → ⊥
wrote_none [] f k = absurd (omega (arith, k))
wrote_none (w ∷ ws) f k = is_not_none (image_in w.rid (w ∷ ws)) (f w.rid) (subst (λ b. IsSome (cond b (Some w.image) (image_in w.rid ws))) (sym (same_rid_itself w.rid)) refl)

pub wrote_some : (ws : List Write) (r : Rid) → IsSome (image_in r ws) → 0 < length ws
wrote_some [] r s = absurd (false_true s)
wrote_some (w ∷ ws) r s = omega arith

-- ---- clashes

pub sat : (p : ℕ × Commit) (ps : List (ℕ × Commit)) → sits p.0 p.1.session ps ≡ true → Each (λ q. AreApart q p) ps → ⊥
sat p [] e h = false_true e
sat p (q ∷ qs) e h = cases ((q.0 == p.0) && (q.1.session == p.1.session))
    (λ both. let parts = and_parts (q.0 == p.0) (q.1.session == p.1.session) both in
    let apart = h.0 ((Decides-eqb q.0 p.0).0 parts.0) in
    false_true (sym apart.0 ∙ parts.1))
    (λ no. sat p qs (sym (ap (λ b. b || sits p.0 p.1.session qs) no) ∙ e) h.1)

pub clashed : (p : ℕ × Commit) (ps : List (ℕ × Commit)) (r : Rid) → IsSome (image_in r p.1.images) → IsSome (image_of ps r p.0) → Each (λ q. AreApart q p) ps → ⊥
clashed p [] r s t h = false_true t
clashed p (q ∷ qs) r s t h = go (q.0 == p.0) refl t (λ t. clashed p qs r s t h.1)
  where
    first_or : (o x : Option Image) → IsSome (option_or o x) → (IsSome o → ⊥) → (IsSome x → ⊥) → ⊥
    first_or None x s f g = g s
    first_or (Some i) x s f g = f refl

    go : (b : Bool) → (q.0 == p.0) ≡ b → IsSome (cond b (option_or (image_in r q.1.images) (image_of qs r p.0)) (image_of qs r p.0)) → (IsSome (image_of qs r p.0) → ⊥) → ⊥
    go true e t more = first_or (image_in r q.1.images) (image_of qs r p.0) t (λ o. is_not_none (image_in r p.1.images) ((h.0 ((Decides-eqb q.0 p.0).0 e)).1 r o) s) more
    go false e t more = more t

pub all_apart : (p : ℕ × Commit) (ps : List (ℕ × Commit)) → sits p.0 p.1.session ps ≡ false → ((r : Rid) → IsSome (image_in r p.1.images) → image_of ps r p.0 ≡ None) → Each (λ q. AreApart q p) ps
all_apart p [] e f = tt
all_apart p (q ∷ qs) e f = (
  λ same. (
    other ((Decides-eqb q.0 p.0).1 same),
    λ r s. cases (is_some (image_in r p.1.images))
        (λ t. absurd (is_not_none (image_in r q.1.images) (first_none (image_in r q.1.images) (image_of qs r p.0) (here r t same)) s)) (λ n. none_of_no (image_in r p.1.images) n),
  ),
  all_apart p qs (or_right ((q.0 == p.0) && (q.1.session == p.1.session)) (sits p.0 p.1.session qs) e) (λ r s. rest r (q.0 == p.0) (f r s)),
)
  where
    other : (q.0 == p.0) ≡ true → IsFalse (q.1.session == p.1.session)
    other k = sym (ap (λ b. b && (q.1.session == p.1.session)) k) ∙ or_left ((q.0 == p.0) && (q.1.session == p.1.session)) (sits p.0 p.1.session qs) e

    first_none : (o x : Option Image) → option_or o x ≡ None → o ≡ None
    first_none None x e = refl
    first_none (Some i) x e = e

    second_none : (o x : Option Image) → option_or o x ≡ None → x ≡ None
    second_none None x e = e
    second_none (Some i) x e = cc

    here : (r : Rid) → IsSome (image_in r p.1.images) → q.0 ≡ p.0 → option_or (image_in r q.1.images) (image_of qs r p.0) ≡ None
    here r s same = sym (ap (λ b. cond b (option_or (image_in r q.1.images) (image_of qs r p.0)) (image_of qs r p.0)) ((Decides-eqb q.0 p.0).1 same)) ∙ f r s

    rest : (r : Rid) (b : Bool) → cond b (option_or (image_in r q.1.images) (image_of qs r p.0)) (image_of qs r p.0) ≡ None → image_of qs r p.0 ≡ None
    rest r true k = second_none (image_in r q.1.images) (image_of qs r p.0) k
    rest r false k = k

-- ---- one more is kept

pub or_flip : (a b : Option Image) → (IsSome a → b ≡ None) → option_or a b ≡ option_or b a
or_flip None None f = refl
or_flip None (Some i) f = refl
or_flip (Some i) b f = ap (λ o. option_or o (Some i)) (sym (f refl))

pub writes_more : (own : List (Spot × Image)) (j x : ℕ) (old new : List (Slot × Image)) (ps : List (ℕ × Commit)) (p : ℕ × Commit) → IsJoined own j x p.0 old new →
    ((r : Rid) → own_at own j x r ≡ image_in r p.1.images) → ((r : Rid) (n : ℕ) → image_at old r n ≡ image_of ps r n) → (r : Rid) (n : ℕ) → image_at new r n ≡ image_of (ps ++ p ∷ []) r n
writes_more own j x old new ps p joined its shows r n =
    joined.joined r n ∙ go (p.0 == n) refl ∙ sym (image_push ps p r n)
  where
    or_none : (o : Option Image) → o ≡ option_or o None
    or_none None = refl
    or_none (Some i) = refl

    go : (b : Bool) → (p.0 == n) ≡ b → cond b (option_or (own_at own j x r) (image_at old r n)) (image_at old r n) ≡ option_or (image_of ps r n) (cond b (image_in r p.1.images) None)
    go true e = or_flip (own_at own j x r) (image_at old r n) (λ s. subst (λ m. image_at old r m ≡ None) ((Decides-eqb p.0 n).0 e) (joined.fresh r s)) ∙ (λ i. option_or (shows r n i) (its r i))
    go false e = shows r n ∙ or_none (image_of ps r n)

pub or_last : (a b : Bool) → cond a true b ≡ (b || (a || false))
or_last true true = refl
or_last true false = refl
or_last false true = refl
or_last false false = refl

pub at_seat : (a b : Seat) → is_at (seat_cmp a) b ≡ ((a.number == b.number) && (a.session == b.session))
at_seat a b = alike_parts (nat_cmp a.number b.number) (nat_cmp a.session b.session) ∙ (λ i. alike_numbers a.number b.number i && alike_numbers a.session b.session i)

pub seats_more : (old new : BTreeSet Seat) (ps : List (ℕ × Commit)) (p : ℕ × Commit) →
    ((q : Seat) → contains seat_cmp new q ≡ cond (is_at (seat_cmp (seat p.0 p.1.session)) q) true (contains seat_cmp old q)) →
    ((n j : ℕ) → contains seat_cmp old (seat n j) ≡ sits n j ps) → (n j : ℕ) → contains seat_cmp new (seat n j) ≡ sits n j (ps ++ p ∷ [])
seats_more old new ps p put shows n j =
    put (seat n j) ∙ (λ i. cond (at_seat (seat p.0 p.1.session) (seat n j) i) true (shows n j i)) ∙ or_last ((p.0 == n) && (p.1.session == j)) (sits n j ps)
    ∙ sym (any_append (λ (q : ℕ × Commit). (q.0 == n) && (q.1.session == j)) ps (p ∷ []))

pub numbers_more : (old new : BTreeSet ℕ) (ps : List (ℕ × Commit)) (p : ℕ × Commit) →
    ((q : ℕ) → contains nat_cmp new q ≡ cond (is_at (nat_cmp p.0) q) true (contains nat_cmp old q)) → ((n : ℕ) → contains nat_cmp old n ≡ list_any (λ p. p.0 == n) ps) → (n : ℕ) →
    contains nat_cmp new n ≡ list_any (λ p. p.0 == n) (ps ++ p ∷ [])
numbers_more old new ps p put shows n =
    put n ∙ (λ i. cond (alike_numbers p.0 n i) true (shows n i)) ∙ or_last (p.0 == n) (list_any (λ p. p.0 == n) ps)
    ∙ sym (any_append (λ (q : ℕ × Commit). q.0 == n) ps (p ∷ []))

pub greatest_push : (ns : List ℕ) (n : ℕ) → greatest (ns ++ n ∷ []) ≡ max (greatest ns) n
greatest_push [] n = omega arith
greatest_push (m ∷ ns) n = ap (max m) (greatest_push ns n) ∙ max_assoc m (greatest ns) n
  where
    max_assoc : (a b c : ℕ) → max a (max b c) ≡ max (max a b) c
    max_assoc a b c = omega arith

pub greatest_more : (ps : List (ℕ × Commit)) (p : ℕ × Commit) → greatest (map (λ (q : ℕ × Commit). q.0) (ps ++ p ∷ [])) ≡ max (greatest (map (λ (q : ℕ × Commit). q.0) ps)) p.0
greatest_more ps p = ap greatest (map-append (λ (q : ℕ × Commit). q.0) ps (p ∷ [])) ∙ greatest_push (map (λ (q : ℕ × Commit). q.0) ps) p.0

pub taken : (b t : Bool) → b ≡ not t → b ≡ false → t ≡ true
taken b true e f = refl
taken b false e f = cc

pub free : (b t : Bool) → b ≡ not t → b ≡ true → t ≡ false
free b true e f = cc
free b false e f = refl
