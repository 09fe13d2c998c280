-- What a log says without its looks, and without its last transactions where they only looked.
use Rattle.std.proofs.Common.{◌≡◌, ℕ, suc, ◌+◌, List, [], ◌∷◌, ◌++◌, length, Some, None, refl, sym, ap, ◌∙◌, subst}
use Rattle.std.specs.Prelude.{◌&&◌, ◌||◌, ◌==◌, not, is_some, if◌then◌else◌, Bool, true, IfSome, IsSome, IsTrue, IsFalse}
use Rattle.hg_base.specs.declared.rid.Rid.{Rid}
use Rattle.hg_base.specs.declared.scope.Snapshot.{Snapshot}
use Rattle.hg_base.specs.declared.scope.Scope.TheVariants.{All}
use Rattle.hg_base.specs.Freshness.{is_declared}
use Rattle.hg_base.specs.History.{History, group_at, image_in, same_rid}
use Rattle.hg_base.specs.Transcript.{has, last_images}
use Rattle.hg_core.specs.declared.log.LogEntry.{LogEntry}
use Rattle.hg_core.specs.declared.log.LogEntry.TheVariants.{Began, Saw, Refused, Outside, Wrote, Undid, Published, Over}
use Rattle.hg_core.specs.Counters.{first_writes, undos}
use Rattle.hg_core.specs.Events.{put}
use Rattle.hg_core.specs.Judged.{Judged, of_session}
use Rattle.hg_core.specs.Logs.{begans, commit_in, current, is_plain, open_in, own_writes, published, snapshot_number, UpTo}
use Rattle.hg_core.specs.Replies.{AreReplied, Refuses, numbers_in, writes_in}
use Rattle.hg_core.proofs.Indices.{by_number}
use Rattle.hg_headline.specs.Gathered.{began_at}
use Rattle.hg_headline.specs.Logged.{Logged}
use Rattle.hg_headline.proofs.Before.{all_alike}
use Rattle.hg_dump.specs.Reader.{HasReadAll, log_at, without_looks}

-- ---- what does not look at looks

-- a fact of a log that its looks do not change, and that each other entry makes of what it was before
abbrev Passes : {X : Type 0} → (List LogEntry → X) → Type 0
Passes f = (l : List LogEntry) → f (without_looks l) ≡ f l

now : Passes current
now [] = refl
now (Began at scope ∷ l) = refl
now (Saw t low high b rows ∷ l) = now l
now (Refused r a ∷ l) = now l
now (Outside t ∷ l) = now l
now (Wrote r i ∷ l) = now l
now (Undid r ∷ l) = now l
now (Published n ∷ l) = now l
now (Over ∷ l) = refl

begun : Passes begans
begun [] = refl
begun (Began at scope ∷ l) = ap suc (begun l)
begun (Saw t low high b rows ∷ l) = begun l
begun (Refused r a ∷ l) = begun l
begun (Outside t ∷ l) = begun l
begun (Wrote r i ∷ l) = begun l
begun (Undid r ∷ l) = begun l
begun (Published n ∷ l) = begun l
begun (Over ∷ l) = begun l

plain : Passes is_plain
plain [] = refl
plain (Began at scope ∷ l) = refl
plain (Saw t low high b rows ∷ l) = plain l
plain (Refused r a ∷ l) = plain l
plain (Outside t ∷ l) = plain l
plain (Wrote r i ∷ l) = plain l
plain (Undid r ∷ l) = refl
plain (Published n ∷ l) = refl
plain (Over ∷ l) = refl

own : Passes own_writes
own [] = refl
own (Began at scope ∷ l) = refl
own (Saw t low high b rows ∷ l) = own l
own (Refused r a ∷ l) = own l
own (Outside t ∷ l) = own l
own (Wrote r i ∷ l) = ap (λ ws. record { rid = r; image = i } ∷ ws) (own l)
own (Undid r ∷ l) = own l
own (Published n ∷ l) = own l
own (Over ∷ l) = refl

opened : (r : Rid) → Passes (open_in r)
opened q [] = refl
opened q (Began at scope ∷ l) = refl
opened q (Saw t low high b rows ∷ l) = opened q l
opened q (Refused r a ∷ l) = opened q l
opened q (Outside t ∷ l) = opened q l
opened q (Wrote r i ∷ l) = ap (λ o. if same_rid r q then Some i else o) (opened q l)
opened q (Undid r ∷ l) = ap (λ o. if same_rid r q then None else o) (opened q l)
opened q (Published n ∷ l) = refl
opened q (Over ∷ l) = refl

committing : (j : ℕ) → Passes (commit_in j)
committing j l = λ i. record { session = j; transaction = begun l i; at = snapshot_number (now l i); images = last_images (own l i) }

publishes : (n j : ℕ) → Passes (published n j)
publishes n j [] = refl
publishes n j (Began at scope ∷ l) = publishes n j l
publishes n j (Saw t low high b rows ∷ l) = publishes n j l
publishes n j (Refused r a ∷ l) = publishes n j l
publishes n j (Outside t ∷ l) = publishes n j l
publishes n j (Wrote r i ∷ l) = publishes n j l
publishes n j (Undid r ∷ l) = publishes n j l
publishes n j (Published m ∷ l) = λ i. publishes n j l i ++ (if m == n then committing j l i ∷ [] else [])
publishes n j (Over ∷ l) = publishes n j l

writing : (x : ℕ) → Passes (writes_in x)
writing x [] = refl
writing x (Began at scope ∷ l) = writing x l
writing x (Saw t low high b rows ∷ l) = writing x l
writing x (Refused r a ∷ l) = writing x l
writing x (Outside t ∷ l) = writing x l
writing x (Wrote r image ∷ l) = λ i. if begun l i == x then record { rid = r; image = image } ∷ writing x l i else writing x l i
writing x (Undid r ∷ l) = writing x l
writing x (Published n ∷ l) = writing x l
writing x (Over ∷ l) = writing x l

numbering : (x : ℕ) → Passes (numbers_in x)
numbering x [] = refl
numbering x (Began at scope ∷ l) = numbering x l
numbering x (Saw t low high b rows ∷ l) = numbering x l
numbering x (Refused r a ∷ l) = numbering x l
numbering x (Outside t ∷ l) = numbering x l
numbering x (Wrote r image ∷ l) = numbering x l
numbering x (Undid r ∷ l) = numbering x l
numbering x (Published n ∷ l) = λ i. if begun l i == x then n ∷ numbering x l i else numbering x l i
numbering x (Over ∷ l) = numbering x l

pub made : (test : Rid → Bool) → Passes (first_writes test)
made test [] = refl
made test (Began at scope ∷ l) = made test l
made test (Saw t low high b rows ∷ l) = made test l
made test (Refused r a ∷ l) = made test l
made test (Outside t ∷ l) = made test l
made test (Wrote r image ∷ l) = λ i. (if test r && not (is_some (image_in r (own l i))) then 1 else 0) + made test l i
made test (Undid r ∷ l) = made test l
made test (Published n ∷ l) = made test l
made test (Over ∷ l) = made test l

pub undone : (test : Rid → Bool) → Passes (undos test)
undone test [] = refl
undone test (Began at scope ∷ l) = undone test l
undone test (Saw t low high b rows ∷ l) = undone test l
undone test (Refused r a ∷ l) = undone test l
undone test (Outside t ∷ l) = undone test l
undone test (Wrote r image ∷ l) = undone test l
undone test (Undid r ∷ l) = ap (λ n. (if test r then 1 else 0) + n) (undone test l)
undone test (Published n ∷ l) = undone test l
undone test (Over ∷ l) = undone test l

pub beginning : (d : Bool) (n : ℕ) → Passes (began_at d n)
beginning d n [] = refl
beginning d n (Began at scope ∷ l) = ap (λ b. ((at == n) && (if d then is_declared scope else true)) || b) (beginning d n l)
beginning d n (Saw t low high b rows ∷ l) = beginning d n l
beginning d n (Refused r a ∷ l) = beginning d n l
beginning d n (Outside t ∷ l) = beginning d n l
beginning d n (Wrote r image ∷ l) = beginning d n l
beginning d n (Undid r ∷ l) = beginning d n l
beginning d n (Published m ∷ l) = beginning d n l
beginning d n (Over ∷ l) = beginning d n l

-- ---- what holds of each entry holds of those that are no looks

up_to : (n : ℕ) (l : List LogEntry) → UpTo n l → UpTo n (without_looks l)
up_to n [] u = tt
up_to n (Began at scope ∷ l) u = (u.0, up_to n l u.1)
up_to n (Saw t low high b rows ∷ l) u = up_to n l u
up_to n (Refused r a ∷ l) u = (u.0, up_to n l u.1)
up_to n (Outside t ∷ l) u = up_to n l u
up_to n (Wrote r image ∷ l) u = up_to n l u
up_to n (Undid r ∷ l) u = up_to n l u
up_to n (Published m ∷ l) u = (u.0, up_to n l u.1)
up_to n (Over ∷ l) u = up_to n l u

abbrev Someone : List LogEntry → Type 0
Someone l = IsSome (current l)

some : (l : List LogEntry) → Someone l → Someone (without_looks l)
some l s = subst (λ o. IsSome o) (sym (now l)) s

judged : (h : History) (l : List LogEntry) → Judged h l → Judged h (without_looks l)
judged h [] d = tt
judged h (Began at scope ∷ l) d = (record { within = d.0.within; over = up_to at l d.0.over; alone = now l ∙ d.0.alone }, judged h l d.1)
judged h (Saw t low high b rows ∷ l) d = judged h l d.1
judged h (Refused r a ∷ l) d = (some l d.0, judged h l d.1)
judged h (Outside t ∷ l) d = (some l d.0, judged h l d.1)
judged h (Wrote r image ∷ l) d = (some l d.0, judged h l d.1)
judged h (Undid r ∷ l) d = (some l d.0, judged h l d.1)
judged h (Published n ∷ l) d = (record { opened = some l d.0.opened; plain = subst (λ b. IsTrue b) (sym (plain l)) d.0.plain }, judged h l d.1)
judged h (Over ∷ l) d = (record { opened = some l d.0.opened; none = λ r. opened r l ∙ d.0.none r }, judged h l d.1)

replied : (buckets : ℕ) (h : History) (logs : ℕ → List LogEntry) (j : ℕ) (l : List LogEntry) → AreReplied buckets h logs j l → AreReplied buckets h logs j (without_looks l)
replied buckets h logs j [] q = tt
replied buckets h logs j (Began at scope ∷ l) q = (tt, replied buckets h logs j l q.1)
replied buckets h logs j (Saw t low high b rows ∷ l) q = replied buckets h logs j l q.1
replied buckets h logs j (Refused r a ∷ l) q = (
  subst (λ ws. IfSome (current (without_looks l)) (λ (snapshot : Snapshot). IsTrue (has snapshot.scope r.table) × (IsFalse (is_some (image_in r ws)) × Refuses h logs j snapshot.at r a))) (sym (own l))
      (subst (λ o. IfSome o (λ (snapshot : Snapshot). IsTrue (has snapshot.scope r.table) × (IsFalse (is_some (image_in r (own_writes l))) × Refuses h logs j snapshot.at r a))) (sym (now l)) q.0),
  replied buckets h logs j l q.1,
)
replied buckets h logs j (Outside t ∷ l) q = (subst (λ o. IfSome o (λ (snapshot : Snapshot). IsFalse (has snapshot.scope t))) (sym (now l)) q.0, replied buckets h logs j l q.1)
replied buckets h logs j (Wrote r image ∷ l) q = (
  (subst (λ o. IfSome o (λ (snapshot : Snapshot). IsTrue (has snapshot.scope r.table))) (sym (now l)) q.0.0, subst (λ b. IsTrue b) (sym (plain l)) q.0.1),
  replied buckets h logs j l q.1,
)
replied buckets h logs j (Undid r ∷ l) q = (tt, replied buckets h logs j l q.1)
replied buckets h logs j (Published n ∷ l) q = (tt, replied buckets h logs j l q.1)
replied buckets h logs j (Over ∷ l) q = (tt, replied buckets h logs j l q.1)

-- ---- transactions that only looked

-- a fact that the begin and the end of a transaction leave as it is
abbrev Skips : {X : Type 0} → (List LogEntry → X) → Type 0
Skips f = (at : ℕ) (l : List LogEntry) → f (Over ∷ Began at All ∷ l) ≡ f l

pub skipped : {X : Type 0} (f : List LogEntry → X) → Skips f → (ats : List ℕ) (l : List LogEntry) → f (log_at ats l) ≡ f l
skipped f s [] l = refl
skipped f s (at ∷ ats) l = skipped f s ats (Over ∷ Began at All ∷ l) ∙ s at l

pub log_more : (ats later : List ℕ) (l : List LogEntry) → log_at (ats ++ later) l ≡ log_at later (log_at ats l)
log_more [] later l = refl
log_more (at ∷ ats) later l = log_more ats later (Over ∷ Began at All ∷ l)

-- what a log keeps without its last two entries holds of it without its last transactions
abbrev Keeps : (List LogEntry → Type 0) → Type 0
Keeps Q = (at : ℕ) (l : List LogEntry) → Q (Over ∷ Began at All ∷ l) → Q l

first_ones : (Q : List LogEntry → Type 0) → Keeps Q → (later : List ℕ) (l : List LogEntry) → Q (log_at later l) → Q l
first_ones Q k [] l q = q
first_ones Q k (at ∷ later) l q = k at l (first_ones Q k later (Over ∷ Began at All ∷ l) q)

-- ---- a log in the place of another

logged_put : (buckets j : ℕ) (h : History) (logs : ℕ → List LogEntry) (l : List LogEntry) → Logged buckets h logs → Judged h l → AreReplied buckets h logs j l → UpTo (length h) l →
    ((n k : ℕ) → published n k l ≡ published n k (logs j))
    → ((x : ℕ) → writes_in x l ≡ writes_in x (logs j)) → ((x : ℕ) → numbers_in x l ≡ numbers_in x (logs j)) → Logged buckets h (put logs j l)
logged_put buckets j h logs l g judged_is replied_is within_is publishes_is writes_is numbers_is = record {
  some = g.some;
  history = g.history;
  kept = g.kept;
  judged = λ i. by_number j (λ k b. Judged h (if b then l else logs k)) judged_is (λ k e. g.judged k) i;
  replied = λ i. all_alike buckets h (put logs j l) logs i (put logs j l i)
      (λ k x. by_number j (λ m b. writes_in x (logs m) ≡ writes_in x (if b then l else logs m)) (sym (writes_is x)) (λ m e. refl) k)
      (λ k x. by_number j (λ m b. numbers_in x (logs m) ≡ numbers_in x (if b then l else logs m)) (sym (numbers_is x)) (λ m e. refl) k)
      (by_number j (λ k b. AreReplied buckets h logs k (if b then l else logs k)) replied_is (λ k e. g.replied k) i);
  within = λ i. by_number j (λ k b. UpTo (length h) (if b then l else logs k)) within_is (λ k e. g.within k) i;
  commits = λ n i. by_number j (λ k b. of_session k (group_at h n) ≡ published n k (if b then l else logs k)) (g.commits n j ∙ sym (publishes_is n j)) (λ k e. g.commits n k) i;
}

pub logged_without : (buckets j : ℕ) (h : History) (logs : ℕ → List LogEntry) → Logged buckets h logs → Logged buckets h (put logs j (without_looks (logs j)))
logged_without buckets j h logs g =
    let l : List LogEntry = logs j in
    logged_put buckets j h logs (without_looks l) g (judged h l (g.judged j)) (replied buckets h logs j l (g.replied j)) (up_to (length h) l (g.within j)) (λ n k. publishes n k l)
    (λ x. writing x l) (λ x. numbering x l)

-- what the whole log is, and what is left of it
pub read_as : {X : Type 0} (f : List LogEntry → X) → Passes f → Skips f → (ats : List ℕ) (l : List LogEntry) → HasReadAll ats l → f l ≡ f []
read_as f p s ats l r = sym (p l) ∙ ap f r ∙ skipped f s ats []

pub logged_read : (buckets j : ℕ) (h : History) (logs : ℕ → List LogEntry) (ats later : List ℕ) → Logged buckets h logs → HasReadAll (ats ++ later) (logs j) →
    Logged buckets h (put logs j (log_at ats []))
logged_read buckets j h logs ats later g r =
    let l : List LogEntry = logs j in
    let is : without_looks l ≡ log_at later (log_at ats []) = r ∙ log_more ats later [] in
    logged_put buckets j h logs (log_at ats []) g
    (first_ones (Judged h) (λ at k d. d.1.1) later (log_at ats []) (subst (Judged h) is (judged h l (g.judged j))))
    (first_ones (AreReplied buckets h logs j) (λ at k d. d.1.1) later (log_at ats []) (subst (AreReplied buckets h logs j) is (replied buckets h logs j l (g.replied j))))
    (first_ones (UpTo (length h)) (λ at k d. d.1) later (log_at ats []) (subst (UpTo (length h)) is (up_to (length h) l (g.within j))))
    (λ n k. skipped (published n k) (λ at m. refl) ats [] ∙ sym (read_as (published n k) (publishes n k) (λ at m. refl) (ats ++ later) l r))
    (λ x. skipped (writes_in x) (λ at m. refl) ats [] ∙ sym (read_as (writes_in x) (writing x) (λ at m. refl) (ats ++ later) l r))
    (λ x. skipped (numbers_in x) (λ at m. refl) ats [] ∙ sym (read_as (numbers_in x) (numbering x) (λ at m. refl) (ats ++ later) l r))

-- no transaction is open
pub read_closed : (ats : List ℕ) (l : List LogEntry) → HasReadAll ats l → current l ≡ None
read_closed ats l r = sym (now l) ∙ ap current r ∙ closed ats [] refl
  where
    closed : (ats : List ℕ) (l : List LogEntry) → current l ≡ None → current (log_at ats l) ≡ None
    closed [] l e = e
    closed (at ∷ ats) l e = closed ats (Over ∷ Began at All ∷ l) refl

-- there are no looks in it
pub without_none : (ats : List ℕ) (l : List LogEntry) → without_looks (log_at ats l) ≡ log_at ats (without_looks l)
without_none [] l = refl
without_none (at ∷ ats) l = without_none ats (Over ∷ Began at All ∷ l)
