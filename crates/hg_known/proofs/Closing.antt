-- No line stands in a transaction that ended before it.
use Rattle.std.proofs.Common.{◌≡◌, ℕ, suc, ◌≤◌, ◌<◌, ◌⊎◌, inl, inr, List, [], ◌∷◌, ◌++◌, ◌+◌, take, drop, Bool, true, false, Option, Some, None, refl, sym, ap, ◌∙◌, subst, arith, cond}
use Rattle.std.specs.Prelude.{◌==◌, ◌&&◌, ◌||◌, nat_lt, filter, IsFalse, IfSome}
use Rattle.std.specs.List.{list_any}
use Rattle.std.proofs.lemmas.Bool.{ltb-true}
use Rattle.std.proofs.lemmas.Bool.Decides.{Decides-eqb, Decides-ltb}
use Rattle.hg_base.specs.declared.statement.Statement.{Statement}
use Rattle.hg_base.specs.declared.statement.Statement.TheVariants.{Begin, Get, Put, Del, Scan, CursorOpen, Fetch, CursorClose, Commit, Rollback, Gc}
use Rattle.hg_base.specs.declared.statement.Record.{Record}
use Rattle.hg_base.specs.declared.line.Line.{Line}
use Rattle.hg_base.specs.declared.rid.Rid.{Rid}
use Rattle.hg_base.specs.declared.image.Image.{Image}
use Rattle.hg_base.specs.declared.line.Reply.{Reply}
use Rattle.hg_base.specs.Lists.{EachAfter, onto}
use Rattle.hg_base.specs.Transcript.{Said, is_of, is_end, ends, last_of, open_after, next_after, standing, said_after, said, said_from}
use Rattle.hg_base.proofs.HistoryFacts.{and_parts}
use Rattle.hg_base.proofs.ListFacts.{cases, false_true}
use Rattle.hg_known.specs.declared.own.Spot.{Spot}
use Rattle.hg_known.specs.Owned.{own_at, IsOwn, HasOwn}
use Rattle.hg_known.specs.Ended.{is_over, IsOpen, AreOpenOwn, ForgetsOver}
use Rattle.hg_known.proofs.Walking.{AtLine, earlier_at}

-- a transaction that ended is none of those that may follow a session's last line
abbrev pub Reaches : Option Said → ℕ → Type 0
Reaches None x = ⊥
Reaches (Some last) x = (1 ≤ x) × (x ≤ last.transaction) × (ends last ≡ false → x < last.transaction)

pub reaches_one : (o : Option Said) (x : ℕ) → Reaches o x → 1 ≤ x
reaches_one None x h = absurd h
reaches_one (Some last) x h = h.0

abbrev pub Ended : List Said → Type 0
Ended earlier = (j x : ℕ) → is_over j x earlier ≡ true → Reaches (last_of j earlier) x

-- a line stands in none and ends nothing, or in a transaction over all that ended
abbrev pub Follows : Option Said → Said → Type 0
Follows last now = ((now.transaction ≡ 0) × (ends now ≡ false)) ⊎ ((1 ≤ now.transaction) × ((x : ℕ) → Reaches last x → x < now.transaction))

abbrev pub IsCounted : Option Said → Type 0
IsCounted o = IfSome o (λ last. 1 ≤ last.transaction)

pub standing_follows : (last : Option Said) → IsCounted last → (r : Record) (reply : Reply) → Follows last (standing (open_after last) (next_after last) r reply)
standing_follows None p r reply = inr (omega arith, λ x h. absurd h)
standing_follows (Some last) p r reply = go (ends last) refl
  where
    go : (b : Bool) → ends last ≡ b → Follows (Some last) (standing (cond b None (Some last)) (suc last.transaction) r reply)
    go true e = inr (omega arith, λ x h. let most : x ≤ last.transaction = h.1 in omega (arith, most))
    go false e = inr (p, λ x h. h.2 e)

pub begin_follows : (last : Option Said) (x : ℕ) → Reaches last x → x < next_after last
begin_follows None x h = absurd h
begin_follows (Some last) x h = let most : x ≤ last.transaction = h.1 in omega (arith, most)

pub next_one : (last : Option Said) → 1 ≤ next_after last
next_one None = omega arith
next_one (Some last) = omega arith

pub after_follows : (last : Option Said) → IsCounted last → (r : Record) (reply : Reply) (asked : Statement) → r.statement ≡ asked → Follows last (said_after last r reply asked)
after_follows last p r reply (Begin scope) e = inr (next_one last, begin_follows last)
after_follows last p r reply (CursorOpen table low high) e = inr (next_one last, begin_follows last)
after_follows last p r reply (Fetch n) e = standing_follows last p r reply
after_follows last p r reply CursorClose e = standing_follows last p r reply
after_follows last p r reply (Gc kind) e = inl (refl, ap is_end e)
after_follows last p r reply (Get rid) e = standing_follows last p r reply
after_follows last p r reply (Put rid row) e = standing_follows last p r reply
after_follows last p r reply (Del rid) e = standing_follows last p r reply
after_follows last p r reply (Scan table low high) e = standing_follows last p r reply
after_follows last p r reply Commit e = standing_follows last p r reply
after_follows last p r reply Rollback e = standing_follows last p r reply

pub standing_session : (opened : Option Said) (next : ℕ) (r : Record) (reply : Reply) → (standing opened next r reply).session ≡ r.session
standing_session None next r reply = refl
standing_session (Some opened) next r reply = refl

pub after_session : (last : Option Said) (r : Record) (reply : Reply) (asked : Statement) → (said_after last r reply asked).session ≡ r.session
after_session last r reply (Begin scope) = refl
after_session last r reply (CursorOpen table low high) = refl
after_session last r reply (Gc kind) = refl
after_session last r reply (Fetch n) = standing_session (open_after last) (next_after last) r reply
after_session last r reply CursorClose = standing_session (open_after last) (next_after last) r reply
after_session last r reply (Get rid) = standing_session (open_after last) (next_after last) r reply
after_session last r reply (Put rid row) = standing_session (open_after last) (next_after last) r reply
after_session last r reply (Del rid) = standing_session (open_after last) (next_after last) r reply
after_session last r reply (Scan table low high) = standing_session (open_after last) (next_after last) r reply
after_session last r reply Commit = standing_session (open_after last) (next_after last) r reply
after_session last r reply Rollback = standing_session (open_after last) (next_after last) r reply

-- the session's last line stands in a transaction
pub last_counts : (j : ℕ) (earlier : List Said) → IsCounted (last_of j earlier)
last_counts j [] = tt
last_counts j (now ∷ earlier) = go (now.session == j) (nat_lt 0 now.transaction) refl (last_counts j earlier)
  where
    go : (s t : Bool) → nat_lt 0 now.transaction ≡ t → IsCounted (last_of j earlier) → IsCounted (cond (s && t) (Some now) (last_of j earlier))
    go true true e h = ltb-true 0 now.transaction e
    go true false e h = h
    go false t e h = h

-- ---- one line more

pub reached : (now : Said) (last : Option Said) (x : ℕ) (was : List Said) → (list_any ends was ≡ true → Reaches last x) → Follows last now → (b : Bool) →
    (now.transaction == x) ≡ b → list_any ends (cond b (now ∷ was) was) ≡ true → Reaches (cond (nat_lt 0 now.transaction) (Some now) last) x
reached now last x was h (inl none) b t o = subst (λ n. Reaches (cond (nat_lt 0 n) (Some now) last) x) (sym none.0) (h (go b o))
  where
    go : (b : Bool) → list_any ends (cond b (now ∷ was) was) ≡ true → list_any ends was ≡ true
    go true o = sym (ap (λ e. e || list_any ends was) none.1) ∙ o
    go false o = o
reached now last x was h (inr some) b t o =
    let counted : nat_lt 0 now.transaction ≡ true = (Decides-ltb 0 now.transaction).1 some.0 in
    subst (λ c. Reaches (cond c (Some now) last) x) (sym counted) (go b t o)
  where
    before : list_any ends was ≡ true → Reaches (Some now) x
    before o =
        let one : 1 ≤ x = reaches_one last x (h o) in
        let less : x < now.transaction = some.1 x (h o) in
        (one, omega (arith, less), λ e. less)

    here : now.transaction ≡ x → (e : Bool) → ends now ≡ e → (e || list_any ends was) ≡ true → Reaches (Some now) x
    here is true e o = let one : 1 ≤ now.transaction = some.0 in (omega (arith, one, is), omega (arith, is), λ f. absurd (false_true (sym f ∙ e)))
    here is false e o = before o

    go : (b : Bool) → (now.transaction == x) ≡ b → list_any ends (cond b (now ∷ was) was) ≡ true → Reaches (Some now) x
    go true t o = here ((Decides-eqb now.transaction x).0 t) (ends now) refl o
    go false t o = before o

pub ended_more : (earlier : List Said) (now : Said) → Ended earlier → Follows (last_of now.session earlier) now → Ended (now ∷ earlier)
ended_more earlier now ended follows j x = cases (now.session == j) same other
  where
    was : List Said
    was = filter (is_of j x) earlier

    same : (now.session == j) ≡ true → is_over j x (now ∷ earlier) ≡ true → Reaches (last_of j (now ∷ earlier)) x
    same e o =
        let is : now.session ≡ j = (Decides-eqb now.session j).0 e in
        let over : list_any ends (cond (now.transaction == x) (now ∷ was) was) ≡ true = sym (ap (λ b. list_any ends (cond (b && (now.transaction == x)) (now ∷ was) was)) e) ∙ o in
        subst (λ b. Reaches (cond (b && nat_lt 0 now.transaction) (Some now) (last_of j earlier)) x) (sym e)
        (reached now (last_of j earlier) x was (ended j x) (subst (λ i. Follows (last_of i earlier) now) is follows) (now.transaction == x) refl over)

    other : (now.session == j) ≡ false → is_over j x (now ∷ earlier) ≡ true → Reaches (last_of j (now ∷ earlier)) x
    other e o =
        let over : is_over j x earlier ≡ true = sym (ap (λ b. list_any ends (cond (b && (now.transaction == x)) (now ∷ was) was)) e) ∙ o in
        subst (λ b. Reaches (cond (b && nat_lt 0 now.transaction) (Some now) (last_of j earlier)) x) (sym e) (ended j x over)

pub follows_open : (earlier : List Said) (now : Said) → Ended earlier → Follows (last_of now.session earlier) now → IsOpen earlier now
follows_open earlier now ended (inl none) = go (is_over now.session now.transaction earlier) refl
  where
    go : (b : Bool) → is_over now.session now.transaction earlier ≡ b → b ≡ false
    go false e = refl
    go true e = let one : 1 ≤ now.transaction = reaches_one (last_of now.session earlier) now.transaction (ended now.session now.transaction e) in
        absurd (let zero : now.transaction ≡ 0 = none.0 in omega (arith, one, zero))
follows_open earlier now ended (inr some) = go (is_over now.session now.transaction earlier) refl
  where
    go : (b : Bool) → is_over now.session now.transaction earlier ≡ b → b ≡ false
    go false e = refl
    go true e = let less : now.transaction < now.transaction = some.1 now.transaction (ended now.session now.transaction e) in absurd (omega (arith, less))

pub said_follows : (earlier : List Said) (r : Record) (reply : Reply) → Follows (last_of (said earlier r reply).session earlier) (said earlier r reply)
said_follows earlier r reply =
    let last = last_of r.session earlier in
    subst (λ j. Follows (last_of j earlier) (said earlier r reply)) (sym (after_session last r reply r.statement)) (after_follows last (last_counts r.session earlier) r reply r.statement refl)

pub each_open : (earlier : List Said) → Ended earlier → (records : List Record) (lines : List Line) → EachAfter IsOpen earlier (said_from earlier records lines)
each_open earlier ended [] lines = tt
each_open earlier ended (r ∷ rs) [] = tt
each_open earlier ended (r ∷ rs) (line ∷ lines) =
    let now = said earlier r line.reply in
    let follows = said_follows earlier r line.reply in
    (follows_open earlier now ended follows, each_open (now ∷ earlier) (ended_more earlier now ended follows) rs lines)

-- no line of a text does
pub all_open : (records : List Record) (lines : List Line) → EachAfter IsOpen [] (said_from [] records lines)
all_open records lines = each_open [] (λ j x e. absurd (false_true e)) records lines

pub open_there : {X : Type 0} (P : List X → X → Type 0) (earlier xs rest : List X) (now : X) → EachAfter P earlier (xs ++ now ∷ rest) → P (onto xs earlier) now
open_there P earlier [] rest now h = h.0
open_there P earlier (x ∷ xs) rest now h = open_there P (x ∷ earlier) xs rest now h.1

pub open_at : (xs : List Said) (k : ℕ) (now : Said) → AtLine xs k now → EachAfter IsOpen [] xs → IsOpen (earlier_at xs k) now
open_at xs k now at h = open_there IsOpen [] (take k xs) (drop (k + 1) xs) now (subst (EachAfter IsOpen []) at.all h)

-- ---- what is kept of a transaction that a line ends

pub closed : (old new : List (Spot × Image)) (earlier : List Said) (now : Said) → ends now ≡ true →
    ((j x : ℕ) (r : Rid) → IsFalse (is_of j x now) → own_at new j x r ≡ own_at old j x r) →
    ((j x : ℕ) → IsFalse (is_over j x earlier) → (r : Rid) → IsOwn old (now ∷ earlier) j x r) → AreOpenOwn new (now ∷ earlier)
closed old new earlier now e kept own j x not_over r = go (is_of j x now) refl not_over
  where
    was : List Said
    was = filter (is_of j x) earlier

    go : (b : Bool) → is_of j x now ≡ b → list_any ends (cond b (now ∷ was) was) ≡ false → IsOwn new (now ∷ earlier) j x r
    go true is o = absurd (false_true (sym o ∙ ap (λ t. t || list_any ends was) e))
    go false is o = kept j x r is ∙ own j x o r

pub still_open : (own : List (Spot × Image)) (earlier : List Said) (now : Said) → ends now ≡ false →
    ((j x : ℕ) → IsFalse (is_over j x earlier) → (r : Rid) → IsOwn own (now ∷ earlier) j x r) → AreOpenOwn own (now ∷ earlier)
still_open own earlier now e is j x not_over r = is j x (go (is_of j x now) not_over) r
  where
    was : List Said
    was = filter (is_of j x) earlier

    go : (b : Bool) → list_any ends (cond b (now ∷ was) was) ≡ false → list_any ends was ≡ false
    go true o = sym (ap (λ t. t || list_any ends was) e) ∙ o
    go false o = o

-- ---- what a line adds

abbrev pub Adds : List (Spot × Image) → List (Spot × Image) → List Said → Said → Type 0
Adds old new earlier now = (j x : ℕ) (r : Rid) → IsOwn old earlier j x r → IsOwn new (now ∷ earlier) j x r

pub its_own : (old new : List (Spot × Image)) (earlier : List Said) (now : Said) → AreOpenOwn old earlier → IsOpen earlier now → Adds old new earlier now → HasOwn new (now ∷ earlier) now
its_own old new earlier now own opened adds r = adds now.session now.transaction r (own now.session now.transaction opened r)

pub others_own : (old new : List (Spot × Image)) (earlier : List Said) (now : Said) → AreOpenOwn old earlier → Adds old new earlier now → (j x : ℕ) →
    IsFalse (is_over j x earlier) → (r : Rid) → IsOwn new (now ∷ earlier) j x r
others_own old new earlier now own adds j x not_over r = adds j x r (own j x not_over r)

-- ---- what is kept of no transaction that ended

-- the line's own transaction is gone, and no other changes
pub forgets : (old new : List (Spot × Image)) (earlier : List Said) (now : Said) → ((j x : ℕ) (r : Rid) → IsFalse (is_of j x now) → own_at new j x r ≡ own_at old j x r) →
    ((r : Rid) → own_at new now.session now.transaction r ≡ None) → ForgetsOver old earlier → ForgetsOver new (now ∷ earlier)
forgets old new earlier now others gone over j x o r = go (is_of j x now) refl o
  where
    was : List Said
    was = filter (is_of j x) earlier

    go : (b : Bool) → is_of j x now ≡ b → list_any ends (cond b (now ∷ was) was) ≡ true → own_at new j x r ≡ None
    go true is o =
        let parts = and_parts (now.session == j) (now.transaction == x) is in
        let s : now.session ≡ j = (Decides-eqb now.session j).0 parts.0 in
        let t : now.transaction ≡ x = (Decides-eqb now.transaction x).0 parts.1 in
        (λ i. own_at new (sym s i) (sym t i) r) ∙ gone r
    go false is o = others j x r is ∙ over j x o r

-- a line that ends none changes nothing
pub forgets_on : (own : List (Spot × Image)) (earlier : List Said) (now : Said) → ends now ≡ false → ForgetsOver own earlier → ForgetsOver own (now ∷ earlier)
forgets_on own earlier now e over j x o r = over j x (go (is_of j x now) o) r
  where
    was : List Said
    was = filter (is_of j x) earlier

    go : (b : Bool) → list_any ends (cond b (now ∷ was) was) ≡ true → list_any ends was ≡ true
    go true o = sym (ap (λ t. t || list_any ends was) e) ∙ o
    go false o = o

-- a line stores nothing in a transaction that ended before it
pub forgets_more : (old new : List (Spot × Image)) (earlier : List Said) (now : Said) → IsOpen earlier now →
    ((j x : ℕ) (r : Rid) → IsFalse (is_of j x now) → own_at new j x r ≡ own_at old j x r) → ForgetsOver old earlier → ForgetsOver new earlier
forgets_more old new earlier now opened others over j x o r = others j x r (go (is_of j x now) refl) ∙ over j x o r
  where
    go : (b : Bool) → is_of j x now ≡ b → b ≡ false
    go false is = refl
    go true is =
        let parts = and_parts (now.session == j) (now.transaction == x) is in
        let s : now.session ≡ j = (Decides-eqb now.session j).0 parts.0 in
        let t : now.transaction ≡ x = (Decides-eqb now.transaction x).0 parts.1 in
        absurd (false_true (sym ((λ i. is_over (sym s i) (sym t i) earlier) ∙ opened) ∙ o))
