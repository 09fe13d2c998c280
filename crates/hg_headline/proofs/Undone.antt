-- Of a log with no transaction open, the writes that were taken back are the first writes of the transactions without a number.
use Rattle.std.proofs.Common.{◌≡◌, ℕ, suc, ◌+◌, ◌<◌, List, [], ◌∷◌, length, Bool, true, false, not, Option, Some, None, refl, sym, ap, ◌∙◌, arith}
use Rattle.std.specs.Prelude.{◌==◌, ◌&&◌, ◌||◌, cond, filter, if◌then◌else◌, IsSome, is_some, is_none, ⊤}
use Rattle.std.proofs.lemmas.Bool.Decides.{nat_tests}
use Rattle.hg_base.specs.declared.rid.Rid.{Rid}
use Rattle.hg_base.specs.declared.image.Image.{Image}
use Rattle.hg_base.specs.declared.scope.Snapshot.{Snapshot}
use Rattle.hg_base.specs.History.{same_rid, is_among, image_in, NoneTwice}
use Rattle.hg_base.proofs.HistoryFacts.{same_rid_equal, same_rid_itself}
use Rattle.hg_base.proofs.RidOrder.{same_back as same_rid_turned}
use Rattle.hg_core.specs.declared.log.LogEntry.{LogEntry}
use Rattle.hg_core.specs.declared.log.LogEntry.TheVariants.{Began, Saw, Refused, Outside, Wrote, Undid, Published, Over}
use Rattle.hg_core.specs.Logs.{current, begans, own_writes, is_plain, open_in}
use Rattle.hg_core.specs.Counters.{undos}
use Rattle.hg_core.proofs.NewGroup.{image_open}
use Rattle.hg_headline.specs.Counted.{every}
use Rattle.hg_headline.proofs.Words.{true_false, none_is_not_some, same_number}
use Rattle.hg_headline.proofs.Firsts.{one_if, first_by}

-- ---- logs in which each entry stands where it may

-- A begin where none is open; a write, a number and an undo in a transaction that is open; a write and a number where nothing
-- of it was undone or published; an undo of an open write; an end where no write is open.
abbrev pub IsTidyEntry : LogEntry → List LogEntry → Type 0
IsTidyEntry (Began at scope) l = current l ≡ None
IsTidyEntry (Wrote r image) l = IsSome (current l) × (is_plain l ≡ true)
IsTidyEntry (Undid r) l = IsSome (open_in r l)
IsTidyEntry (Published n) l = IsSome (current l) × (is_plain l ≡ true)
IsTidyEntry Over l = (r : Rid) → open_in r l ≡ None
IsTidyEntry _ l = ⊤

abbrev pub IsTidy : List LogEntry → Type 0
IsTidy [] = ⊤
IsTidy (e ∷ l) = IsTidyEntry e l × IsTidy l

-- ---- the records that stand open

abbrev pub take_out : Rid → List Rid → List Rid
take_out q rids = filter (λ o. not (same_rid q o)) rids

abbrev pub add_open : Bool → Rid → List Rid → List Rid
add_open true q os = os
add_open false q os = q ∷ os

abbrev pub opens : List LogEntry → List Rid
opens [] = []
opens (Began at scope ∷ l) = []
opens (Over ∷ l) = []
opens (Published n ∷ l) = []
opens (Wrote q image ∷ l) = add_open (is_some (open_in q l)) q (opens l)
opens (Undid q ∷ l) = take_out q (opens l)
opens (_ ∷ l) = opens l

pub take_out_has : (r q : Rid) (os : List Rid) → is_among r (take_out q os) ≡ (if same_rid r q then false else is_among r os)
take_out_has r q [] = go (same_rid r q)
  where
    go : (b : Bool) → false ≡ (if b then false else false)
    go true = refl
    go false = refl
take_out_has r q (o ∷ os) = go (same_rid q o) refl (same_rid r q) refl (take_out_has r q os)
  where
    go : (b : Bool) → same_rid q o ≡ b → (c : Bool) → same_rid r q ≡ c → is_among r (take_out q os) ≡ (if c then false else is_among r os) →
        is_among r (cond (not b) (o ∷ take_out q os) (take_out q os)) ≡ (if c then false else (same_rid r o || is_among r os))
    go true e true f ih = ih
    go true e false f ih = ih ∙ ap (λ b. b || is_among r os) (sym (ap (same_rid r) (sym (same_rid_equal q o e)) ∙ f))
    go false e true f ih = ap (λ b. b || is_among r (take_out q os)) (ap (λ x. same_rid x o) (same_rid_equal r q f) ∙ e) ∙ ih
    go false e false f ih = ap (λ b. same_rid r o || b) ih

take_out_once : (q : Rid) (os : List Rid) → NoneTwice os → NoneTwice (take_out q os)
take_out_once q [] h = tt
take_out_once q (o ∷ os) h = go (same_rid q o) refl (take_out_once q os h.1)
  where
    out : same_rid q o ≡ false → is_among o (take_out q os) ≡ false
    out e = take_out_has o q os ∙ ap (λ b. if b then false else is_among o os) (same_rid_turned o q ∙ e) ∙ h.0

    go : (b : Bool) → same_rid q o ≡ b → NoneTwice (take_out q os) → NoneTwice (cond (not b) (o ∷ take_out q os) (take_out q os))
    go true e ih = ih
    go false e ih = (out e, ih)

-- none is taken out where it does not stand
take_out_none : (q : Rid) (os : List Rid) → is_among q os ≡ false → length (take_out q os) ≡ length os
take_out_none q [] h = refl
take_out_none q (o ∷ os) h = go (same_rid q o) h (take_out_none q os)
  where
    go : (b : Bool) → (b || is_among q os) ≡ false → (is_among q os ≡ false → length (take_out q os) ≡ length os) → length (cond (not b) (o ∷ take_out q os) (take_out q os)) ≡ suc (length os)
    go true e ih = absurd (true_false e)
    go false e ih = ap suc (ih e)

take_out_one : (q : Rid) (os : List Rid) → NoneTwice os → is_among q os ≡ true → length (take_out q os) + 1 ≡ length os
take_out_one q [] h e = absurd (true_false (sym e))
take_out_one q (o ∷ os) h e = go (same_rid q o) refl e (take_out_one q os h.1)
  where
    go : (b : Bool) → same_rid q o ≡ b → (b || is_among q os) ≡ true → (is_among q os ≡ true → length (take_out q os) + 1 ≡ length os) →
        length (cond (not b) (o ∷ take_out q os) (take_out q os)) + 1 ≡ suc (length os)
    go true t e ih = let same : length (take_out q os) ≡ length os = take_out_none q os (ap (λ x. is_among x os) (same_rid_equal q o t) ∙ h.0) in omega (arith, same)
    go false t e ih = let one = ih e in omega (arith, one)

pub opens_has : (r : Rid) (l : List LogEntry) → is_among r (opens l) ≡ is_some (open_in r l)
opens_has r [] = refl
opens_has r (Began at scope ∷ l) = refl
opens_has r (Over ∷ l) = refl
opens_has r (Published n ∷ l) = refl
opens_has r (Wrote q image ∷ l) = go (is_some (open_in q l)) refl (same_rid r q) refl (opens_has r l) ∙ ap (λ b. is_some (if b then Some image else open_in r l)) (same_rid_turned r q)
  where
    go : (o : Bool) → is_some (open_in q l) ≡ o → (b : Bool) → same_rid r q ≡ b → is_among r (opens l) ≡ is_some (open_in r l) →
        is_among r (add_open o q (opens l)) ≡ is_some (if b then Some image else open_in r l)
    go false e true f ih = ap (λ b. b || is_among r (opens l)) f
    go false e false f ih = ap (λ b. b || is_among r (opens l)) f ∙ ih
    go true e true f ih = ih ∙ ap (λ x. is_some (open_in x l)) (same_rid_equal r q f) ∙ e
    go true e false f ih = ih
opens_has r (Undid q ∷ l) = take_out_has r q (opens l) ∙ go (same_rid r q) (opens_has r l) ∙ ap (λ b. is_some (if b then None else open_in r l)) (same_rid_turned r q)
  where
    go : (b : Bool) → is_among r (opens l) ≡ is_some (open_in r l) → (if b then false else is_among r (opens l)) ≡ is_some (if b then None else open_in r l)
    go true ih = refl
    go false ih = ih
opens_has r (Saw t low high b rows ∷ l) = opens_has r l
opens_has r (Refused q a ∷ l) = opens_has r l
opens_has r (Outside t ∷ l) = opens_has r l

pub opens_once : (l : List LogEntry) → NoneTwice (opens l)
opens_once [] = tt
opens_once (Began at scope ∷ l) = tt
opens_once (Over ∷ l) = tt
opens_once (Published n ∷ l) = tt
opens_once (Wrote q image ∷ l) = go (is_some (open_in q l)) refl (opens_once l)
  where
    go : (o : Bool) → is_some (open_in q l) ≡ o → NoneTwice (opens l) → NoneTwice (add_open o q (opens l))
    go false e ih = (opens_has q l ∙ e, ih)
    go true e ih = ih
opens_once (Undid q ∷ l) = take_out_once q (opens l) (opens_once l)
opens_once (Saw t low high b rows ∷ l) = opens_once l
opens_once (Refused q a ∷ l) = opens_once l
opens_once (Outside t ∷ l) = opens_once l

some_none : (o : Option Snapshot) → IsSome o → o ≡ None → ⊥
some_none o s e = true_false (sym s ∙ ap is_some e)

idle_opens : (l : List LogEntry) → IsTidy l → current l ≡ None → opens l ≡ []
idle_opens [] k e = refl
idle_opens (Began at scope ∷ l) k e = absurd (none_is_not_some (record { at = at; scope = scope }) (sym e))
idle_opens (Over ∷ l) k e = refl
idle_opens (Published n ∷ l) k e = refl
idle_opens (Wrote r image ∷ l) k e = absurd (some_none (current l) k.0.0 e)
idle_opens (Undid q ∷ l) k e = ap (take_out q) (idle_opens l k.1 e)
idle_opens (Saw t low high b rows ∷ l) k e = idle_opens l k.1 e
idle_opens (Refused q a ∷ l) k e = idle_opens l k.1 e
idle_opens (Outside t ∷ l) k e = idle_opens l k.1 e

none_opens : (l : List LogEntry) → ((r : Rid) → open_in r l ≡ None) → opens l ≡ []
none_opens l h = go (opens l) refl
  where
    go : (os : List Rid) → opens l ≡ os → opens l ≡ []
    go [] e = e
    go (o ∷ os) e = absurd (
        let a : is_among o (opens l) ≡ false = opens_has o l ∙ ap is_some (h o) in
        let b : is_among o (opens l) ≡ true = ap (is_among o) e ∙ ap (λ x. x || is_among o os) (same_rid_itself o) in
        true_false (sym b ∙ a)
        )

-- ---- the first writes of transactions that are not published, where the flag says that the last is

abbrev pub lost : Bool → List LogEntry → ℕ
lost flag [] = 0
lost flag (Wrote r image ∷ l) = one_if (not flag && is_none (image_in r (own_writes l))) + lost flag l
lost flag (Published n ∷ l) = lost true l
lost flag (Began at scope ∷ l) = lost false l
lost flag (Over ∷ l) = lost false l
lost flag (_ ∷ l) = lost flag l

add_open_length : (o : Option Image) (q : Rid) (os : List Rid) → length (add_open (is_some o) q os) ≡ one_if (is_none o) + length os
add_open_length None q os = omega arith
add_open_length (Some i) q os = omega arith

-- each is undone, or stands open
lost_undone : (l : List LogEntry) → IsTidy l → (lost false l ≡ undos every l + length (opens l)) × (is_plain l ≡ true → lost true l ≡ undos every l)
lost_undone [] k = (omega arith, λ e. refl)
lost_undone (Began at scope ∷ l) k =
    let ih = lost_undone l k.1 in
    let none : length (opens l) ≡ 0 = ap length (idle_opens l k.1 k.0) in
    (omega (arith, ih.0, none), λ e. omega (arith, ih.0, none))
lost_undone (Over ∷ l) k =
    let ih = lost_undone l k.1 in
    let none : length (opens l) ≡ 0 = ap length (none_opens l k.0) in
    (omega (arith, ih.0, none), λ e. omega (arith, ih.0, none))
lost_undone (Wrote r image ∷ l) k =
    let ih = lost_undone l k.1 in
    let more = add_open_length (open_in r l) r (opens l) in
    let same : one_if (is_none (image_in r (own_writes l))) ≡ one_if (is_none (open_in r l)) = ap (λ o. one_if (is_none o)) (image_open r l k.0.1) in
    (omega (arith, ih.0, more, same), λ e. (let z = ih.1 e in omega (arith, z)))
lost_undone (Undid q ∷ l) k =
    let ih = lost_undone l k.1 in
    let one = take_out_one q (opens l) (opens_once l) (opens_has q l ∙ k.0) in
    (omega (arith, ih.0, one), λ e. absurd (true_false (sym e)))
lost_undone (Published n ∷ l) k =
    let z = (lost_undone l k.1).1 k.0.1 in
    (omega (arith, z), λ e. absurd (true_false (sym e)))
lost_undone (Saw t low high b rows ∷ l) k = lost_undone l k.1
lost_undone (Refused q a ∷ l) k = lost_undone l k.1
lost_undone (Outside t ∷ l) k = lost_undone l k.1

-- ---- and they are those of the transactions without a number

-- whether transaction x has a commit number, and whether the last one has
abbrev pub publishes : ℕ → List LogEntry → Bool
publishes x [] = false
publishes x (Published n ∷ l) = (begans l == x) || publishes x l
publishes x (_ ∷ l) = publishes x l

abbrev pub published_last : List LogEntry → Bool
published_last [] = false
published_last (Began at scope ∷ l) = false
published_last (Published n ∷ l) = true
published_last (_ ∷ l) = published_last l

published_below : (x : ℕ) (l : List LogEntry) → begans l < x → publishes x l ≡ false
published_below x [] h = refl
published_below x (Began at scope ∷ l) h = published_below x l (omega (arith, h))
published_below x (Published n ∷ l) h = let e : (begans l == x) ≡ false = grind (arith, nat_tests) in ap (λ b. b || publishes x l) e ∙ published_below x l h
published_below x (Wrote q i ∷ l) h = published_below x l h
published_below x (Over ∷ l) h = published_below x l h
published_below x (Undid q ∷ l) h = published_below x l h
published_below x (Saw t low high b rows ∷ l) h = published_below x l h
published_below x (Refused q a ∷ l) h = published_below x l h
published_below x (Outside t ∷ l) h = published_below x l h

last_published : (l : List LogEntry) → publishes (begans l) l ≡ published_last l
last_published [] = refl
last_published (Began at scope ∷ l) = published_below (suc (begans l)) l (omega arith)
last_published (Published n ∷ l) = ap (λ b. b || publishes (begans l) l) (same_number (begans l))
last_published (Wrote q i ∷ l) = last_published l
last_published (Over ∷ l) = last_published l
last_published (Undid q ∷ l) = last_published l
last_published (Saw t low high b rows ∷ l) = last_published l
last_published (Refused q a ∷ l) = last_published l
last_published (Outside t ∷ l) = last_published l

-- nothing of a transaction is published where it is plain
plain_unpublished : (l : List LogEntry) → IsSome (current l) → is_plain l ≡ true → published_last l ≡ false
plain_unpublished [] s p = refl
plain_unpublished (Began at scope ∷ l) s p = refl
plain_unpublished (Published n ∷ l) s p = absurd (true_false (sym p))
plain_unpublished (Undid r ∷ l) s p = absurd (true_false (sym p))
plain_unpublished (Over ∷ l) s p = absurd (true_false (sym s))
plain_unpublished (Wrote r i ∷ l) s p = plain_unpublished l s p
plain_unpublished (Saw t low high b rows ∷ l) s p = plain_unpublished l s p
plain_unpublished (Refused q a ∷ l) s p = plain_unpublished l s p
plain_unpublished (Outside t ∷ l) s p = plain_unpublished l s p

not_true : (flag b : Bool) → b ≡ not (flag || true) → b ≡ not (true || true)
not_true true b e = e
not_true false b e = e

or_none : (b : Bool) → not (b || false) ≡ not b
or_none true = refl
or_none false = refl

lost_by : (q : ℕ → Bool) (flag : Bool) (l : List LogEntry) → IsTidy l → (flag ≡ true → IsSome (current l)) → ((x : ℕ) → x < begans l → q x ≡ not (publishes x l)) →
    q (begans l) ≡ not (flag || published_last l) → first_by q l ≡ lost flag l
lost_by q flag [] k c old now = refl
lost_by q flag (Began at scope ∷ l) k c old now = lost_by q false l k.1 (λ e. absurd (true_false (sym e))) (λ x lt. old x (omega (arith, lt))) (old (begans l) (omega arith) ∙
    ap not (last_published l))
lost_by q true (Over ∷ l) k c old now = absurd (true_false (sym (c refl)))
lost_by q false (Over ∷ l) k c old now = lost_by q false l k.1 (λ e. absurd (true_false (sym e))) old now
lost_by q flag (Wrote r image ∷ l) k c old now =
    let same : q (begans l) ≡ not flag = now ∙ ap (λ b. not (flag || b)) (plain_unpublished l k.0.0 k.0.1) ∙ or_none flag in
    let ih = lost_by q flag l k.1 c old now in
    λ i. one_if (same i && is_none (image_in r (own_writes l))) + ih i
lost_by q flag (Published n ∷ l) k c old now =
    lost_by q true l k.1 (λ e. k.0.0) (λ x lt. (let e : (begans l == x) ≡ false = grind (arith, nat_tests) in old x lt ∙ ap (λ b. not (b || publishes x l)) e)) (not_true flag (q (begans l)) now)
lost_by q flag (Undid r ∷ l) k c old now = lost_by q flag l k.1 c old now
lost_by q flag (Saw t low high b rows ∷ l) k c old now = lost_by q flag l k.1 c old now
lost_by q flag (Refused r a ∷ l) k c old now = lost_by q flag l k.1 c old now
lost_by q flag (Outside t ∷ l) k c old now = lost_by q flag l k.1 c old now

-- the first writes of transactions that are not published are undone, or open
pub unpublished_firsts : (l : List LogEntry) → IsTidy l → first_by (λ x. not (publishes x l)) l ≡ undos every l + length (opens l)
unpublished_firsts l k = lost_by (λ x. not (publishes x l)) false l k (λ e. absurd (true_false (sym e))) (λ x lt. refl) (ap not (last_published l)) ∙ (lost_undone l k).0

pub undone_in_log : (l : List LogEntry) → IsTidy l → current l ≡ None → undos every l ≡ first_by (λ x. not (publishes x l)) l
undone_in_log l k e =
    let a = unpublished_firsts l k in
    let none : length (opens l) ≡ 0 = ap length (idle_opens l k e) in
    omega (arith, a, none)
