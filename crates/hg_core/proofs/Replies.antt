-- What a log says of its replies stays true while logs and the history grow.
use Rattle.std.proofs.Common.{◌≡◌, ℕ, suc, ◌<◌, ◌≤◌, List, [], ◌∷◌, ◌++◌, length, Option, None, Some, Bool, true, false, ◌==◌, refl, sym, ap, ◌∙◌, subst, arith}
use Rattle.std.specs.Prelude.{if◌then◌else◌, IsSome, IfSome, ⊤}
use Rattle.std.specs.List.{list_any}
use Rattle.hg_base.specs.declared.rid.Rid.{Rid}
use Rattle.hg_base.specs.declared.image.Image.{Image}
use Rattle.hg_base.specs.declared.line.Answer.{Answer}
use Rattle.hg_base.specs.declared.line.Answer.TheVariants.{Newer, OpenBy}
use Rattle.hg_base.specs.Lists.{Each}
use Rattle.hg_base.specs.History.{Group, History, same_rid, image_in, writes}
use Rattle.hg_base.specs.Replies.{AreRows}
use Rattle.hg_base.proofs.HistoryFacts.{seen_stays, writes_from_snoc}
use Rattle.hg_base.proofs.ListFacts.{any_more}
use Rattle.hg_core.specs.declared.log.LogEntry.{LogEntry}
use Rattle.hg_core.specs.declared.log.LogEntry.TheVariants.{Began, Saw, Refused, Outside, Wrote, Undid, Published, Over}
use Rattle.hg_core.specs.Logs.{current, begans, own_writes, is_in, published_logs, UpTo}
use Rattle.hg_core.specs.Replies.{in_bucket, writes_in, numbers_in, Refuses, IsReplied, AreReplied, RepliesAnswer}
use Rattle.hg_core.specs.Events.{put}
use Rattle.hg_core.proofs.Indices.{by_number}
use Rattle.hg_core.proofs.Groups.{length_more}

-- ---- other logs grow, and the history

-- what a longer log still says of a transaction to readers up to a mark
pub record GrewOn (mark : ℕ) (log log' : ℕ → List LogEntry) : Type 0 where
  pub writes : (k x : ℕ) (r : Rid) → IsSome (image_in r (writes_in x (log k))) → IsSome (image_in r (writes_in x (log' k)))
  pub numbers : (k x at : ℕ) → at ≤ mark → Each (λ c. at < c) (numbers_in x (log k)) → Each (λ c. at < c) (numbers_in x (log' k))

pub current_within : (n : ℕ) (log : List LogEntry) → UpTo n log → IfSome (current log) (λ snapshot. snapshot.at ≤ n)
current_within n [] u = tt
current_within n (Began at scope ∷ log) u = u.0
current_within n (Over ∷ log) u = tt
current_within n (Published c ∷ log) u = current_within n log u.1
current_within n (Refused r answer ∷ log) u = current_within n log u.1
current_within n (Saw t low high b rows ∷ log) u = current_within n log u
current_within n (Outside t ∷ log) u = current_within n log u
current_within n (Wrote r image ∷ log) u = current_within n log u
current_within n (Undid r ∷ log) u = current_within n log u

both : {X : Type 0} (o : Option X) (P Q R : X → Type 0) → ((x : X) → P x → Q x → R x) → IfSome o P → IfSome o Q → IfSome o R
both None P Q R f p q = tt
both (Some x) P Q R f p q = f x p q

refuses_more : (h : History) (log log' : ℕ → List LogEntry) (j at : ℕ) (r : Rid) (answer : Answer) → GrewOn (length h) log log' → at ≤ length h → Refuses h log j at r answer →
    Refuses h log' j at r answer
refuses_more h log log' j at r (Newer c) g le q = q
refuses_more h log log' j at r (OpenBy w) g le q = record { other = q.other; does = g.writes w.session w.transaction r q.does; after = g.numbers w.session w.transaction at le q.after }
refuses_more h log log' j at r _ g le q = absurd q

replied_more : (buckets : ℕ) (h : History) (log log' : ℕ → List LogEntry) (j : ℕ) (e : LogEntry) (earlier : List LogEntry) → GrewOn (length h) log log' → UpTo (length h) earlier →
    IsReplied buckets h log j e earlier → IsReplied buckets h log' j e earlier
replied_more buckets h log log' j (Refused r answer) earlier g u q = both (current earlier) _ _ _
    (λ snapshot le a. (a.0, (a.1.0, refuses_more h log log' j snapshot.at r answer g le a.1.1))) (current_within (length h) earlier u) q
replied_more buckets h log log' j (Saw t low high b rows) earlier g u q = q
replied_more buckets h log log' j (Began at scope) earlier g u q = q
replied_more buckets h log log' j (Outside t) earlier g u q = q
replied_more buckets h log log' j (Wrote r image) earlier g u q = q
replied_more buckets h log log' j (Undid r) earlier g u q = q
replied_more buckets h log log' j (Published n) earlier g u q = q
replied_more buckets h log log' j Over earlier g u q = q

up_earlier : (n : ℕ) (e : LogEntry) (log : List LogEntry) → UpTo n (e ∷ log) → UpTo n log
up_earlier n (Began at scope) log u = u.1
up_earlier n (Refused r answer) log u = u.1
up_earlier n (Published c) log u = u.1
up_earlier n (Saw t low high b rows) log u = u
up_earlier n (Outside t) log u = u
up_earlier n (Wrote r image) log u = u
up_earlier n (Undid r) log u = u
up_earlier n Over log u = u

pub all_more : (buckets : ℕ) (h : History) (log log' : ℕ → List LogEntry) (j : ℕ) (l : List LogEntry) → GrewOn (length h) log log' → UpTo (length h) l →
    AreReplied buckets h log j l → AreReplied buckets h log' j l
all_more buckets h log log' j [] g u a = tt
all_more buckets h log log' j (e ∷ l) g u a = (replied_more buckets h log log' j e l g (up_earlier (length h) e l u) a.0, all_more buckets h log log' j l g (up_earlier (length h) e l u) a.1)

-- a group more
refuses_longer : (h : History) (group : Group) (log : ℕ → List LogEntry) (j at : ℕ) (r : Rid) (answer : Answer) → length h ≤ length (h ++ group ∷ []) →
    Refuses h log j at r answer → Refuses (h ++ group ∷ []) log j at r answer
refuses_longer h group log j at r (Newer c) more q = record {
  over = q.over;
  within = (let w = q.within in omega arith);
  does = ap (list_any (λ (w : ℕ × Image). w.0 == c)) (writes_from_snoc 1 h group r) ∙ any_more (λ (w : ℕ × Image). w.0 == c) (writes h r) _ q.does;
}
refuses_longer h group log j at r (OpenBy w) more q = record { other = q.other; does = q.does; after = q.after }
refuses_longer h group log j at r _ more q = absurd q

replied_longer : (buckets : ℕ) (h : History) (group : Group) (log : ℕ → List LogEntry) (j : ℕ) (e : LogEntry) (earlier : List LogEntry) → length h ≤ length (h ++ group ∷ []) →
    UpTo (length h) earlier → IsReplied buckets h log j e earlier → IsReplied buckets (h ++ group ∷ []) log j e earlier
replied_longer buckets h group log j (Refused r answer) earlier more u q = both (current earlier) _ _ _
    (λ snapshot le a. (a.0, (a.1.0, refuses_longer h group log j snapshot.at r answer more a.1.1))) (current_within (length h) earlier u) q
replied_longer buckets h group log j (Saw t low high b rows) earlier more u q = both (current earlier) _ _ _
    (λ snapshot le a. (a.0, subst (λ f. AreRows (in_bucket buckets b t f) low high rows) (sym (seen_stays h group (own_writes earlier) snapshot.at le)) a.1)) (current_within (length h) earlier u) q
replied_longer buckets h group log j (Began at scope) earlier more u q = q
replied_longer buckets h group log j (Outside t) earlier more u q = q
replied_longer buckets h group log j (Wrote r image) earlier more u q = q
replied_longer buckets h group log j (Undid r) earlier more u q = q
replied_longer buckets h group log j (Published n) earlier more u q = q
replied_longer buckets h group log j Over earlier more u q = q

pub all_longer : (buckets : ℕ) (h : History) (group : Group) (log : ℕ → List LogEntry) (j : ℕ) (l : List LogEntry) → length h ≤ length (h ++ group ∷ []) → UpTo (length h) l →
    AreReplied buckets h log j l → AreReplied buckets (h ++ group ∷ []) log j l
all_longer buckets h group log j [] more u a = tt
all_longer buckets h group log j (e ∷ l) more u a = (
  replied_longer buckets h group log j e l more (up_earlier (length h) e l u) a.0,
  all_longer buckets h group log j l more
      (up_earlier (length h) e l u) a.1,
)

-- ---- one entry more, and a group more

-- an entry that is no number
abbrev pub IsNoNumber : LogEntry → Type 0
IsNoNumber (Published n) = ⊥
IsNoNumber _ = ⊤

writes_entry : (e : LogEntry) (log : List LogEntry) (x : ℕ) (r : Rid) → IsSome (image_in r (writes_in x log)) → IsSome (image_in r (writes_in x (e ∷ log)))
writes_entry (Wrote q image) log x r s = go (begans log == x)
  where
    first : (b : Bool) → IsSome (if b then Some image else image_in r (writes_in x log))
    first true = refl
    first false = s

    go : (b : Bool) → IsSome (image_in r (if b then record { rid = q; image = image } ∷ writes_in x log else writes_in x log))
    go true = first (same_rid q r)
    go false = s
writes_entry (Began at scope) log x r s = s
writes_entry (Saw t low high b rows) log x r s = s
writes_entry (Refused q answer) log x r s = s
writes_entry (Outside t) log x r s = s
writes_entry (Undid q) log x r s = s
writes_entry (Published n) log x r s = s
writes_entry Over log x r s = s

numbers_entry : (e : LogEntry) (log : List LogEntry) (x : ℕ) → IsNoNumber e → numbers_in x (e ∷ log) ≡ numbers_in x log
numbers_entry (Published n) log x no_one = absurd no_one
numbers_entry (Wrote q image) log x no_one = refl
numbers_entry (Began at scope) log x no_one = refl
numbers_entry (Saw t low high b rows) log x no_one = refl
numbers_entry (Refused q answer) log x no_one = refl
numbers_entry (Outside t) log x no_one = refl
numbers_entry (Undid q) log x no_one = refl
numbers_entry Over log x no_one = refl

grew_entry : (mark : ℕ) (log : ℕ → List LogEntry) (j : ℕ) (e : LogEntry) → IsNoNumber e → GrewOn mark log (put log j (e ∷ log j))
grew_entry mark log j e no_one = record {
  writes = by_number j (λ k b. (x : ℕ) (r : Rid) → IsSome (image_in r (writes_in x (log k))) → IsSome (image_in r (writes_in x (if b then e ∷ log j else log k))))
      (λ x r s. writes_entry e (log j) x r s) (λ k other x r s. s);
  numbers = by_number j (λ k b. (x at : ℕ) → at ≤ mark → Each (λ c. at < c) (numbers_in x (log k)) → Each (λ c. at < c) (numbers_in x (if b then e ∷ log j else log k)))
      (λ x at le n. subst (Each (λ c. at < c)) (sym (numbers_entry e (log j) x no_one)) n) (λ k other x at le n. n);
}

pub replies_entry : (buckets : ℕ) (h : History) (log : ℕ → List LogEntry) (j : ℕ) (e : LogEntry) → IsNoNumber e → ((k : ℕ) → UpTo (length h) (log k)) →
    IsReplied buckets h log j e (log j) → RepliesAnswer buckets h log → RepliesAnswer buckets h (put log j (e ∷ log j))
replies_entry buckets h log j e no_one up now a = by_number j (λ k b. AreReplied buckets h (put log j (e ∷ log j)) k (if b then e ∷ log j else log k))
    (replied_more buckets h log (put log j (e ∷ log j)) j e (log j) grew (up j) now, all_more buckets h log (put log j (e ∷ log j)) j (log j) grew (up j) (a j))
    (λ k other. all_more buckets h log (put log j (e ∷ log j)) k (log k) grew (up k) (a k))
  where
    grew : GrewOn (length h) log (put log j (e ∷ log j))
    grew = grew_entry (length h) log j e no_one

pub replies_published : (buckets : ℕ) (h : History) (group : Group) (log : ℕ → List LogEntry) (js : List ℕ) → ((k : ℕ) → UpTo (length h) (log k)) → RepliesAnswer buckets h log →
    RepliesAnswer buckets (h ++ group ∷ []) (published_logs log js (suc (length h)))
replies_published buckets h group log js up a j = go (is_in js j)
  where
    next : ℕ → List LogEntry
    next = published_logs log js (suc (length h))

    writes_new : (k x : ℕ) (r : Rid) (b : Bool) → IsSome (image_in r (writes_in x (log k))) → IsSome (image_in r (writes_in x (if b then Published (suc (length h)) ∷ log k else log k)))
    writes_new k x r true s = s
    writes_new k x r false s = s

    with_one : (k x at : ℕ) (t : Bool) → at ≤ length h → Each (λ c. at < c) (numbers_in x (log k)) → Each (λ c. at < c) (if t then suc (length h) ∷ numbers_in x (log k) else numbers_in x (log k))
    with_one k x at true le n = (omega arith, n)
    with_one k x at false le n = n

    numbers_new : (k x at : ℕ) (b : Bool) → at ≤ length h → Each (λ c. at < c) (numbers_in x (log k)) → Each (λ c. at < c) (numbers_in x (if b then Published (suc (length h)) ∷ log k else log k))
    numbers_new k x at true le n = with_one k x at (begans (log k) == x) le n
    numbers_new k x at false le n = n

    grew : GrewOn (length h) log next
    grew = record { writes = λ k x r s. writes_new k x r (is_in js k) s; numbers = λ k x at le n. numbers_new k x at (is_in js k) le n }

    longer : length h ≤ length (h ++ group ∷ [])
    longer = omega (arith, length_more h group)

    old : AreReplied buckets (h ++ group ∷ []) next j (log j)
    old = all_longer buckets h group next j (log j) longer (up j) (all_more buckets h log next j (log j) grew (up j) (a j))

    go : (b : Bool) → AreReplied buckets (h ++ group ∷ []) next j (if b then Published (suc (length h)) ∷ log j else log j)
    go true = (tt, old)
    go false = old
