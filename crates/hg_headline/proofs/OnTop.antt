-- Entries of a transaction that is open, each on top of those before it.
use Rattle.std.proofs.Common.{◌≡◌, ℕ, zero, suc, ◌<◌, ◌≤◌, inl, inr, List, [], ◌∷◌, ◌++◌, length, Bool, true, false, Option, Some, None, refl, sym, ap, ◌∙◌, subst, arith}
use Rattle.std.specs.Prelude.{◌==◌, ◌||◌, if◌then◌else◌, IsTrue, IsFalse, IsSome, IfSome, is_some}
use Rattle.std.proofs.lemmas.Bool.Decides.{Decides-eqb}
use Rattle.hg_base.specs.declared.rid.Rid.{Rid}
use Rattle.hg_base.specs.declared.rid.TableId.{TableId}
use Rattle.hg_base.specs.declared.image.Image.{Image}
use Rattle.hg_base.specs.declared.scope.Snapshot.{Snapshot}
use Rattle.hg_base.specs.declared.line.Answer.{Answer}
use Rattle.hg_base.specs.declared.line.Answer.TheVariants.{Stored, Newer, OpenBy}
use Rattle.hg_base.specs.declared.value.Value.{Value}
use Rattle.hg_base.specs.Lists.{Each}
use Rattle.hg_base.specs.History.{Write, History, seen, image_in}
use Rattle.hg_base.specs.Transcript.{has}
use Rattle.hg_base.specs.Replies.{IsPut, AreRows}
use Rattle.hg_core.specs.declared.log.LogEntry.{LogEntry}
use Rattle.hg_core.specs.declared.log.LogEntry.TheVariants.{Began, Saw, Refused, Outside, Wrote, Undid, Published, Over}
use Rattle.hg_core.specs.Logs.{current, begans, own_writes, is_plain, AnswerUpTo}
use Rattle.hg_core.specs.Contents.{bucket_of, has_own}
use Rattle.hg_core.specs.Events.{put}
use Rattle.hg_core.specs.Replies.{in_bucket, writes_in, numbers_in, Refuses}
use Rattle.hg_core.specs.Reading.{saws}
use Rattle.hg_core.proofs.Indices.{put_else}
use Rattle.hg_core.proofs.Updates.{some_is as some_of_yes}
use Rattle.hg_core.proofs.Shows.{numbers_under}
use Rattle.hg_core.proofs.Right.{shown_here}
use Rattle.hg_headline.specs.Logged.{Logged}
use Rattle.hg_headline.specs.Answered.{MayRefuse}
use Rattle.hg_headline.proofs.Words.{true_false, none_is_not_some}
use Rattle.hg_headline.proofs.Adds.{adds_saws}
use Rattle.hg_headline.proofs.Ended.{own_is}
use Rattle.hg_headline.proofs.Growing.{logged_on}
use Rattle.hg_headline.proofs.Parts.{part_of, part_rows}

-- what holds of the open transaction
pub for_open : (o : Option Snapshot) (c : Snapshot) (P : Snapshot → Type 0) → o ≡ Some c → P c → IfSome o P
for_open o c P e p = subst (λ x. IfSome x P) (sym e) p

pub is_open : (o : Option Snapshot) (c : Snapshot) → o ≡ Some c → IsSome o
is_open o c e = ap is_some e

-- ---- one key

pub within_key : (k key : ℕ) → k ≤ key → key ≤ k → k ≡ key
within_key k key a b = omega (arith, a, b)

pub key_row : (buckets : ℕ) (f : Rid → Image) (r : Rid) (row : List Value) → (f r).row ≡ Some row → AreRows (in_bucket buckets (bucket_of buckets r) r.table f) r.key r.key ((r.key, row) ∷ [])
key_row buckets f r row e = record {
  ascend = tt;
  each = ((omega arith, omega arith, ap (λ (i : Image). i.row) (shown_here buckets r f) ∙ e), tt);
  every = λ key lo hi. inl (ap (λ b. b || false) ((Decides-eqb r.key key).1 (within_key r.key key lo hi)));
}

pub key_nothing : (buckets : ℕ) (f : Rid → Image) (r : Rid) → (f r).row ≡ None → AreRows (in_bucket buckets (bucket_of buckets r) r.table f) r.key r.key []
key_nothing buckets f r e = record {
  ascend = tt;
  each = tt;
  every = λ key lo hi. inr (subst (λ k. (in_bucket buckets (bucket_of buckets r) r.table f k).row ≡ None) (within_key r.key key lo hi) (ap (λ (i : Image). i.row) (shown_here buckets r f) ∙ e));
}

-- ---- entries of a transaction that is open, each on top of those before it

-- where a log of session j may go on: its transaction reads at c, with these stored writes
pub record GoesOn (buckets : ℕ) (h : History) (logs : ℕ → List LogEntry) (j : ℕ) (c : Snapshot) (l : List LogEntry) : Type 0 where
  pub logged : Logged buckets h (put logs j l)
  pub opened : current l ≡ Some c

pub on_saw : (buckets : ℕ) (h : History) (logs : ℕ → List LogEntry) (j : ℕ) (c : Snapshot) (l : List LogEntry) (t : TableId) (low high b : ℕ) (rows : List (ℕ × List Value)) →
    GoesOn buckets h logs j c l → has c.scope t ≡ true → AreRows (in_bucket buckets b t (seen h (own_writes l) c.at)) low high rows → GoesOn buckets h logs j c (Saw t low high b rows ∷ l)
on_saw buckets h logs j c l t low high b rows g s a = record {
  logged = logged_on buckets h logs j (Saw t low high b rows) l g.logged tt (is_open (current l) c g.opened)
      (for_open (current l) c (λ snapshot. IsTrue (has snapshot.scope t) × AreRows (in_bucket buckets b t (seen h (own_writes l) snapshot.at)) low high rows) g.opened (s, a));
  opened = g.opened;
}

pub on_outside : (buckets : ℕ) (h : History) (logs : ℕ → List LogEntry) (j : ℕ) (c : Snapshot) (l : List LogEntry) (t : TableId) → GoesOn buckets h logs j c l →
    has c.scope t ≡ false → GoesOn buckets h logs j c (Outside t ∷ l)
on_outside buckets h logs j c l t g s = record {
  logged = logged_on buckets h logs j (Outside t) l g.logged tt (is_open (current l) c g.opened) (for_open (current l) c (λ snapshot. IsFalse (has snapshot.scope t)) g.opened s);
  opened = g.opened;
}

pub on_wrote : (buckets : ℕ) (h : History) (logs : ℕ → List LogEntry) (j : ℕ) (c : Snapshot) (l : List LogEntry) (r : Rid) (image : Image) → GoesOn buckets h logs j c l →
    has c.scope r.table ≡ true → is_plain l ≡ true → GoesOn buckets h logs j c (Wrote r image ∷ l)
on_wrote buckets h logs j c l r image g s p = record {
  logged = logged_on buckets h logs j (Wrote r image) l g.logged tt (is_open (current l) c g.opened) (for_open (current l) c (λ snapshot. IsTrue (has snapshot.scope r.table)) g.opened s, p);
  opened = g.opened;
}

-- a transaction of which nothing was published has no number
pub plain_numbers : (l : List LogEntry) (c : Snapshot) → current l ≡ Some c → is_plain l ≡ true → numbers_in (begans l) l ≡ []
plain_numbers [] c e p = refl
plain_numbers (Began at scope ∷ l) c e p = numbers_under (suc (begans l)) l (omega arith)
plain_numbers (Published n ∷ l) c e p = absurd (true_false (sym p))
plain_numbers (Undid r ∷ l) c e p = absurd (true_false (sym p))
plain_numbers (Saw t low high b rows ∷ l) c e p = plain_numbers l c e p
plain_numbers (Refused r a ∷ l) c e p = plain_numbers l c e p
plain_numbers (Outside t ∷ l) c e p = plain_numbers l c e p
plain_numbers (Wrote r image ∷ l) c e p = plain_numbers l c e p
plain_numbers (Over ∷ l) c e p = absurd (none_is_not_some c e)

pub other_session : (logs : ℕ → List LogEntry) (j k : ℕ) (l : List LogEntry) → (k == j) ≡ false → put logs j l k ≡ logs k
other_session logs j k l e = put_else logs j k l (λ same. true_false (sym ((Decides-eqb k j).1 same) ∙ e))

-- the conflict that an answer shows
abbrev pub refusal_in : Answer → Option Answer
refusal_in (Newer n) = Some (Newer n)
refusal_in (OpenBy w) = Some (OpenBy w)
refusal_in _ = None

-- the cause of a refusal, as the core has it
pub refuses : (h : History) (logs : ℕ → List LogEntry) (j : ℕ) (own : List Write) (at : ℕ) (r : Rid) (a : Answer) (l : List LogEntry) → IsPut a → IsSome (refusal_in a) →
    MayRefuse h logs j own at r a → IsFalse (is_some (image_in r own)) × Refuses h (put logs j l) j at r a
refuses h logs j own at r (Newer n) l p s c = c
refuses h logs j own at r (OpenBy w) l p s c =
    let open_one = some_of_yes (current (logs w.session)) c.3.opened in
    let same : put logs j l w.session ≡ logs w.session = other_session logs j w.session l c.1 in
    let number : begans (logs w.session) ≡ w.transaction = c.3.number in
    let written : own_writes (logs w.session) ≡ writes_in w.transaction (put logs j l w.session) = own_is (logs w.session) open_one.0 open_one.1 ∙
    ap (λ x. writes_in x (logs w.session)) number ∙ ap (writes_in w.transaction) (sym same) in
    let numbers : [] ≡ numbers_in w.transaction (put logs j l w.session) = sym (plain_numbers (logs w.session) open_one.0 open_one.1 c.2) ∙
    ap (λ x. numbers_in x (logs w.session)) number ∙ ap (numbers_in w.transaction) (sym same) in
    (c.0, record { other = c.1; does = subst (λ ws. IsSome (image_in r ws)) written c.3.does; after = subst (Each (λ n. at < n)) numbers tt })
refuses h logs j own at r Stored l p s c = absurd (let k : false ≡ true = s in cc)
refuses h logs j own at r _ l p s c = absurd p

pub on_refused : (buckets : ℕ) (h : History) (logs : ℕ → List LogEntry) (j : ℕ) (c : Snapshot) (l : List LogEntry) (r : Rid) (a : Answer) → GoesOn buckets h logs j c l →
    has c.scope r.table ≡ true → IsPut a → IsSome (refusal_in a) → MayRefuse h logs j (own_writes l) c.at r a → GoesOn buckets h logs j c (Refused r a ∷ l)
on_refused buckets h logs j c l r a g s p q cause = record {
  logged = logged_on buckets h logs j (Refused r a) l g.logged (small a q cause) (is_open (current l) c g.opened)
      (for_open (current l) c (λ snapshot. IsTrue (has snapshot.scope r.table) × (IsFalse (is_some (image_in r (own_writes l))) × Refuses h (put logs j l) j snapshot.at r a))
      g.opened (s, refuses h logs j (own_writes l) c.at r a l p q cause));
  opened = g.opened;
}
  where
    small : (a : Answer) → IsSome (refusal_in a) → MayRefuse h logs j (own_writes l) c.at r a → AnswerUpTo (length h) a
    small (Newer n) q cause = cause.1.within
    small (OpenBy w) q cause = tt
    small _ q cause = absurd (let k : false ≡ true = q in cc)

-- a read of a range in those of the first buckets that can have a key of it
pub on_saws : (buckets : ℕ) (h : History) (logs : ℕ → List LogEntry) (j : ℕ) (c : Snapshot) (l : List LogEntry) (t : TableId) (low high : ℕ) (rows : List (ℕ × List Value)) (n : ℕ)
    → GoesOn buckets h logs j c l → has c.scope t ≡ true → AreRows (λ key. seen h (own_writes l) c.at (record { table = t; key = key })) low high rows →
    GoesOn buckets h logs j c (saws buckets t low high (part_of buckets t rows) n ++ l)
on_saws buckets h logs j c l t low high rows zero g s a = g
on_saws buckets h logs j c l t low high rows (suc n) g s a =
    let same : own_writes (saws buckets t low high (part_of buckets t rows) n ++ l) ≡ own_writes l = (adds_saws buckets t low high (part_of buckets t rows) n l Stored tt).own in
    go (has_own buckets t low high n) (on_saws buckets h logs j c l t low high rows n g s a)
    (part_rows buckets n t (seen h (own_writes (saws buckets t low high (part_of buckets t rows) n ++ l)) c.at) low high rows
    (subst (λ ws. AreRows (λ key. seen h ws c.at (record { table = t; key = key })) low high rows) (sym same) a))
  where
    earlier : List LogEntry
    earlier = saws buckets t low high (part_of buckets t rows) n

    go : (x : Bool) → GoesOn buckets h logs j c (earlier ++ l) → AreRows (in_bucket buckets n t (seen h (own_writes (earlier ++ l)) c.at)) low high (part_of buckets t rows n) →
        GoesOn buckets h logs j c ((if x then Saw t low high n (part_of buckets t rows n) ∷ earlier else earlier) ++ l)
    go true k are = on_saw buckets h logs j c (earlier ++ l) t low high n (part_of buckets t rows n) k s are
    go false k are = k
