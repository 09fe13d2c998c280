-- What holds of the open transactions: each has overwritten nothing that it did not see, and no two have written one record.
use Rattle.std.proofs.Common.{◌≡◌, ℕ, zero, suc, ◌+◌, ◌<◌, ◌≤◌, List, [], ◌∷◌, ◌++◌, length, map, Bool, true, false, Option, Some, None, refl, sym, ap, ◌∙◌, subst, arith}
use Rattle.std.specs.Prelude.{◌==◌, cond, filter_map, is_some, nat_lt, option_map, if◌then◌else◌, IfSome, IsSome}
use Rattle.std.specs.List.{cons_option}
use Rattle.std.specs.Option.{option_or}
use Rattle.std.proofs.lemmas.Bool.Decides.{Decides-eqb, nat_tests}
use Rattle.hg_base.specs.declared.rid.Rid.{Rid}
use Rattle.hg_base.specs.declared.image.Image.{Image}
use Rattle.hg_base.specs.declared.writer.Writer.{Writer}
use Rattle.hg_base.specs.declared.line.Answer.{Answer}
use Rattle.hg_base.specs.declared.line.Answer.TheVariants.{Newer, OpenBy}
use Rattle.hg_base.specs.Lists.{Each, greatest, numbers_from}
use Rattle.hg_base.specs.History.{Write, Commit, History, group_image, image_in, same_rid, writes}
use Rattle.hg_base.specs.Transcript.{last_images}
use Rattle.hg_base.proofs.ListFacts.{cases}
use Rattle.hg_base.proofs.HistoryFacts.{same_rid_itself, writes_from_snoc}
use Rattle.hg_base.proofs.Extending.{snoc_longer}
use Rattle.hg_core.proofs.Indices.{by_number}
use Rattle.hg_core.proofs.Past.{writes_within}
use Rattle.hg_core.proofs.Updates.{each_last}
use Rattle.hg_exact.specs.State.{Open, State, but}
use Rattle.hg_exact.specs.Answers.{has_written, newest, unless_refused, writer_of, writers, written}

-- ---- a write of a list

some_none : {X : Type 0} (x : X) → Some x ≡ None → ⊥
some_none x e = cc

pub not_none : (o : Option Image) → o ≡ None → IsSome o → ⊥
not_none None e s = let bad : false ≡ true = s in cc
not_none (Some i) e s = some_none i e

pub none_of : (o : Option Image) → is_some o ≡ false → o ≡ None
none_of None e = refl
none_of (Some i) e = absurd (let bad : true ≡ false = e in cc)

-- what no write of a list is of, no write of its last images is of
pub others : (r : Rid) (ws : List Write) → image_in r ws ≡ None → Each (λ w. same_rid w.rid r ≡ false) ws
others r [] e = tt
others r (w ∷ ws) e = go (same_rid w.rid r) refl e (λ f. others r ws f)
  where
    go : (b : Bool) → same_rid w.rid r ≡ b → cond b (Some w.image) (image_in r ws) ≡ None → (image_in r ws ≡ None → Each (λ v. same_rid v.rid r ≡ false) ws) →
        (same_rid w.rid r ≡ false) × Each (λ v. same_rid v.rid r ≡ false) ws
    go true f g later = absurd (some_none w.image g)
    go false f g later = (f, later g)

pub none_among : (r : Rid) (ws : List Write) → Each (λ w. same_rid w.rid r ≡ false) ws → image_in r ws ≡ None
none_among r [] h = refl
none_among r (w ∷ ws) h = ap (λ b. cond b (Some w.image) (image_in r ws)) h.0 ∙ none_among r ws h.1

pub none_last : (r : Rid) (ws : List Write) → image_in r ws ≡ None → image_in r (last_images ws) ≡ None
none_last r ws e = none_among r (last_images ws) (each_last (λ w. same_rid w.rid r ≡ false) ws (others r ws e))

pub first_image : (r : Rid) (w : Write) (ws : List Write) → same_rid w.rid r ≡ true → IsSome (image_in r (w ∷ ws))
first_image r w ws e = ap (λ b. is_some (cond b (Some w.image) (image_in r ws))) e

-- each write is of a record that is written
pub each_written : (P : Rid → Type 0) (ws : List Write) → ((r : Rid) → IsSome (image_in r ws) → P r) → Each (λ w. P w.rid) ws
each_written P [] f = tt
each_written P (w ∷ ws) f = (f w.rid (first_image w.rid w ws (same_rid_itself w.rid)), each_written P ws (λ r s. f r (later r s)))
  where
    later : (r : Rid) → IsSome (image_in r ws) → IsSome (image_in r (w ∷ ws))
    later r s = go (same_rid w.rid r)
      where
        go : (b : Bool) → IsSome (cond b (Some w.image) (image_in r ws))
        go true = refl
        go false = s

-- ---- the newest group that writes a record

pub each_newest : (h : History) (r : Rid) (n : ℕ) → newest h r ≤ n → Each (λ (w : ℕ × Image). w.0 ≤ n) (writes h r)
each_newest h r n k = go (writes h r) k
  where
    go : (ws : List (ℕ × Image)) → greatest (map (λ (w : ℕ × Image). w.0) ws) ≤ n → Each (λ (w : ℕ × Image). w.0 ≤ n) ws
    go [] k = tt
    go (w ∷ ws) k = (omega (arith, k), go ws (omega (arith, k)))

pub newest_most : (h : History) (r : Rid) → newest h r ≤ length h
newest_most h r = go (writes h r) (writes_within 1 (length h) h r (omega arith))
  where
    go : (ws : List (ℕ × Image)) → Each (λ (w : ℕ × Image). w.0 ≤ length h) ws → greatest (map (λ (w : ℕ × Image). w.0) ws) ≤ length h
    go [] e = omega arith
    go (w ∷ ws) e = let a : w.0 ≤ length h = e.0 in let b = go ws e.1 in omega (arith, a, b)

-- ---- open transactions

abbrev pub wrote_by : Option Open → List Write
wrote_by None = []
wrote_by (Some o) = o.wrote

-- of session j, one of so many: its snapshot is a number of the history, and it has overwritten nothing over its snapshot
pub record IsKept (sessions : ℕ) (h : History) (j : ℕ) (o : Open) : Type 0 where
  pub some : 1 ≤ j
  pub most : j ≤ sessions
  pub at : o.at ≤ length h
  pub loses : Each (λ w. Each (λ (other : ℕ × Image). other.0 ≤ o.at) (writes h w.rid)) o.wrote

pub record AreKept (sessions : ℕ) (h : History) (opens : ℕ → Option Open) : Type 0 where
  pub each : (j : ℕ) → IfSome (opens j) (IsKept sessions h j)
  pub apart : (j k : ℕ) (r : Rid) → (j ≡ k → ⊥) → IsSome (image_in r (wrote_by (opens j))) → image_in r (wrote_by (opens k)) ≡ None

pub kept_nothing : (sessions : ℕ) → AreKept sessions [] (λ j. None)
kept_nothing sessions = record { each = λ j. tt; apart = λ j k r f s. refl }

-- session j has another transaction open, or none: what it wrote there, no other has written
pub kept_but : (sessions : ℕ) (h : History) (opens : ℕ → Option Open) (j : ℕ) (x : Option Open) → AreKept sessions h opens → IfSome x (IsKept sessions h j) →
    ((k : ℕ) (r : Rid) → (k ≡ j → ⊥) → IsSome (image_in r (wrote_by x)) → image_in r (wrote_by (opens k)) ≡ None) → AreKept sessions h (but opens j x)
kept_but sessions h opens j x kept is alone = record {
  each = by_number j (λ k b. IfSome (if b then x else opens k) (IsKept sessions h k)) is (λ k f. kept.each k);
  apart = λ i k r f. by_number j (λ i b. (i ≡ k → ⊥) → IsSome (image_in r (wrote_by (if b then x else opens i))) → image_in r (wrote_by (but opens j x k)) ≡ None)
      (λ g. by_number j (λ k b. (j ≡ k → ⊥) → IsSome (image_in r (wrote_by x)) → image_in r (wrote_by (if b then x else opens k)) ≡ None) (λ g s. absurd (g refl)) (λ k z g s. alone k r z s) k g)
      (λ i y g. by_number j (λ k b. (i ≡ k → ⊥) → IsSome (image_in r (wrote_by (opens i))) → image_in r (wrote_by (if b then x else opens k)) ≡ None)
      (λ g s. by_none (image_in r (wrote_by x)) (λ t. not_none (image_in r (wrote_by (opens i))) (alone i r y t) s))
      (λ k z g s. kept.apart i k r g s) k g) i f;
}
  where
    by_none : (o : Option Image) → (IsSome o → ⊥) → o ≡ None
    by_none None f = refl
    by_none (Some i) f = absurd (f refl)

-- ---- a group more

group_none : (r : Rid) (c : Commit) → image_in r c.images ≡ None → group_image r (c ∷ []) ≡ None
group_none r c e = ap (λ o. option_or o None) e

writes_more : (h : History) (c : Commit) (r : Rid) → image_in r c.images ≡ None → writes (h ++ (c ∷ []) ∷ []) r ≡ writes h r
writes_more h c r e = writes_from_snoc 1 h (c ∷ []) r ∙ ap (λ o. writes h r ++ cons_option (option_map (λ image. (1 + length h, image)) o) []) (group_none r c e) ∙ nil (writes h r)
  where
    nil : (ws : List (ℕ × Image)) → ws ++ [] ≡ ws
    nil [] = refl
    nil (w ∷ ws) = ap (λ vs. w ∷ vs) (nil ws)

-- a transaction that has written none of what the group writes
pub kept_longer : (sessions : ℕ) (h : History) (c : Commit) (ws : List Write) (k : ℕ) (o : Open) → c.images ≡ last_images ws →
    ((r : Rid) → IsSome (image_in r o.wrote) → image_in r ws ≡ None) → IsKept sessions h k o → IsKept sessions (h ++ (c ∷ []) ∷ []) k o
kept_longer sessions h c ws k o is alone kept = record {
  some = kept.some;
  most = kept.most;
  at = let a : o.at ≤ length h = kept.at in let b = snoc_longer h (c ∷ []) in omega (arith, a, b);
  loses = longer o.wrote (λ r s. ap (image_in r) is ∙ none_last r ws (alone r s)) kept.loses;
}
  where
    longer : (vs : List Write) → ((r : Rid) → IsSome (image_in r vs) → image_in r c.images ≡ None) → Each (λ w. Each (λ (other : ℕ × Image). other.0 ≤ o.at) (writes h w.rid)) vs →
        Each (λ w. Each (λ (other : ℕ × Image). other.0 ≤ o.at) (writes (h ++ (c ∷ []) ∷ []) w.rid)) vs
    longer vs f e = both vs (each_written (λ r. image_in r c.images ≡ None) vs f) e
      where
        both : (us : List Write) → Each (λ w. image_in w.rid c.images ≡ None) us → Each (λ w. Each (λ (other : ℕ × Image). other.0 ≤ o.at) (writes h w.rid)) us →
            Each (λ w. Each (λ (other : ℕ × Image). other.0 ≤ o.at) (writes (h ++ (c ∷ []) ∷ []) w.rid)) us
        both [] n e = tt
        both (u ∷ us) n e = (subst (Each (λ (other : ℕ × Image). other.0 ≤ o.at)) (sym (writes_more h c u.rid n.0)) e.0, both us n.1 e.1)

-- the transaction of session j is committed, and then it has none open
pub kept_commit : (sessions : ℕ) (h : History) (c : Commit) (ws : List Write) (opens : ℕ → Option Open) (j : ℕ) → c.images ≡ last_images ws →
    ((k : ℕ) (r : Rid) → (k ≡ j → ⊥) → IsSome (image_in r (wrote_by (opens k))) → image_in r ws ≡ None) → AreKept sessions h opens → AreKept sessions (h ++ (c ∷ []) ∷ []) (but opens j None)
kept_commit sessions h c ws opens j is alone kept =
    let closed : AreKept sessions h (but opens j None) = kept_but sessions h opens j None kept tt (λ k r f s. absurd (let bad : false ≡ true = s in cc)) in
    record {
      each = by_number j (λ k b. IfSome (if b then None else opens k) (IsKept sessions (h ++ (c ∷ []) ∷ []) k)) tt (λ k f. go k (opens k) (λ r s. alone k r f s) (kept.each k));
      apart = closed.apart;
    }
  where
    go : (k : ℕ) (x : Option Open) → ((r : Rid) → IsSome (image_in r (wrote_by x)) → image_in r ws ≡ None) → IfSome x (IsKept sessions h k) → IfSome x (IsKept sessions (h ++ (c ∷ []) ∷ []) k)
    go k None f e = tt
    go k (Some o) f e = kept_longer sessions h c ws k o is f e

-- ---- who has an open write

-- the first that is picked is picked of one of them
pub picked_first : {Y : Type 0} (f : ℕ → Option Y) (n many : ℕ) (y : Y) (ys : List Y) → filter_map f (numbers_from n many) ≡ y ∷ ys → (k : ℕ) × (f k ≡ Some y)
picked_first f n zero y ys e = absurd (let bad : [] ≡ y ∷ ys = e in cc)
picked_first f n (suc many) y ys e = go (f n) refl e (λ g. picked_first f (suc n) many y ys g)
  where
    go : (o : Option _) → f n ≡ o → cons_option o (filter_map f (numbers_from (suc n) many)) ≡ y ∷ ys →
        (filter_map f (numbers_from (suc n) many) ≡ y ∷ ys → (k : ℕ) × (f k ≡ Some y)) → (k : ℕ) × (f k ≡ Some y)
    go None g e later = later e
    go (Some z) g e later = (n, g ∙ ap Some (first_same e))
      where
        first_same : (z ∷ filter_map f (numbers_from (suc n) many)) ≡ y ∷ ys → z ≡ y
        first_same q = cc

-- where none is picked, none of them is one
pub picked_nothing : {Y : Type 0} (f : ℕ → Option Y) (n many : ℕ) → filter_map f (numbers_from n many) ≡ [] → (k : ℕ) → n ≤ k → k < n + many → f k ≡ None
picked_nothing f n zero e k a b = absurd (omega (arith, a, b))
picked_nothing f n (suc many) e k a b = go (f n) refl e (λ g c. picked_nothing f (suc n) many g k c (omega (arith, b)))
  where
    go : (o : Option _) → f n ≡ o → cons_option o (filter_map f (numbers_from (suc n) many)) ≡ [] → (filter_map f (numbers_from (suc n) many) ≡ [] → suc n ≤ k → f k ≡ None) → f k ≡ None
    go (Some z) g e later = absurd (let bad : (z ∷ filter_map f (numbers_from (suc n) many)) ≡ [] = e in cc)
    go None g e later = cases (n == k) (λ q. subst (λ m. f m ≡ None) ((Decides-eqb n k).0 q) g) (λ q. later e (grind (arith, nat_tests)))

-- the writer of an open write, and its transaction
pub writer_is : (r : Rid) (j : ℕ) (x : Option Open) (w : Writer) → writer_of r j x ≡ Some w → (o : Open) × (x ≡ Some o) × IsSome (image_in r o.wrote) × (w.session ≡ j) ×
    (w.transaction ≡ o.transaction)
writer_is r j None w e = absurd (let bad : None ≡ Some w = e in cc)
writer_is r j (Some o) w e = go (has_written r o) refl e
  where
    go : (b : Bool) → has_written r o ≡ b → (if b then Some (record { session = j; transaction = o.transaction }) else None) ≡ Some w → (p : Open) × (Some o ≡ Some p) ×
        IsSome (image_in r p.wrote) × (w.session ≡ j) × (w.transaction ≡ p.transaction)
    go true f g = (o, refl, f, ap (λ (v : Writer). v.session) (same g), ap (λ (v : Writer). v.transaction) (same g))
      where
        same : Some (record { session = j; transaction = o.transaction }) ≡ Some w → w ≡ record { session = j; transaction = o.transaction }
        same q = cc
    go false f g = absurd (let bad : None ≡ Some w = g in cc)

abbrev writer_at : ℕ → ℕ → Writer
writer_at j x = record { session = j; transaction = x }

-- where nobody has an open write of a record, no open transaction has written it
pub nobody : (s : State) (r : Rid) → AreKept s.sessions s.history s.opened → writers s r ≡ [] → (k : ℕ) → image_in r (wrote_by (s.opened k)) ≡ None
nobody s r kept e k = go (s.opened k) refl (kept.each k)
  where
    go : (x : Option Open) → s.opened k ≡ x → IfSome x (IsKept s.sessions s.history k) → image_in r (wrote_by x) ≡ None
    go None f g = refl
    go (Some o) f g =
        let none : writer_of r k (s.opened k) ≡ None = picked_nothing (λ j. writer_of r j (s.opened j)) 1 s.sessions e k g.some (let m = g.most in omega (arith, m)) in
        none_of (image_in r o.wrote) (unwritten (has_written r o) (sym (ap (writer_of r k) f) ∙ none))
      where
        unwritten : (b : Bool) → cond b (Some (writer_at k o.transaction)) None ≡ None → b ≡ false
        unwritten true q = absurd (let bad : Some (writer_at k o.transaction) ≡ None = q in cc)
        unwritten false q = refl

-- ---- the outcomes of a write

pub written_by : (P : Answer → Type 0) (s : State) (o : Open) (r : Rid) (answer : Answer) → (IsSome (image_in r o.wrote) → P answer) →
    (image_in r o.wrote ≡ None → writers s r ≡ [] → newest s.history r ≤ o.at → P answer)
    → ((w : Writer) (ws : List Writer) → image_in r o.wrote ≡ None → writers s r ≡ w ∷ ws → P (OpenBy w)) →
    (image_in r o.wrote ≡ None → writers s r ≡ [] → o.at < newest s.history r → P (Newer (newest s.history r))) → P (written s o r answer)
written_by P s o r answer own stored held newer = go (has_written r o) refl (writers s r) refl
  where
    at_most : (m n : ℕ) → nat_lt m n ≡ false → n ≤ m
    at_most m n e = grind (arith, nat_tests)

    below : (m n : ℕ) → nat_lt m n ≡ true → m < n
    below m n e = grind (arith, nat_tests)

    last : image_in r o.wrote ≡ None → writers s r ≡ [] → (c : Bool) → nat_lt o.at (newest s.history r) ≡ c → P (if c then Newer (newest s.history r) else answer)
    last e f true g = newer e f (below o.at (newest s.history r) g)
    last e f false g = stored e f (at_most o.at (newest s.history r) g)

    go : (b : Bool) → has_written r o ≡ b → (l : List Writer) → writers s r ≡ l → P (if b then answer else unless_refused l (newest s.history r) o.at answer)
    go true e l f = own e
    go false e (w ∷ ws) f = held w ws (none_of (image_in r o.wrote) e) f
    go false e [] f = last (none_of (image_in r o.wrote) e) f (nat_lt o.at (newest s.history r)) refl
