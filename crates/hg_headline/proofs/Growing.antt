-- The history and the logs go on as they were known to be: with an entry more, and with a group more.
use Rattle.std.proofs.Common.{◌≡◌, ℕ, suc, ◌+◌, ◌<◌, ◌≤◌, List, [], ◌∷◌, ◌++◌, length, Bool, true, false, refl, sym, ap, ◌∙◌, subst, arith}
use Rattle.std.specs.Prelude.{◌==◌, ◌||◌, if◌then◌else◌, IsTrue, ⊤}
use Rattle.std.proofs.lemmas.Bool.Decides.{Decides-eqb, nat_tests}
use Rattle.hg_base.specs.Lists.{Each}
use Rattle.hg_base.specs.History.{Write, History, IsGroup, LosesNothing, NoneTwice, NoNumberTwice, rids_of, group_at}
use Rattle.hg_base.specs.Transcript.{last_images}
use Rattle.hg_base.specs.Replies.{is_written}
use Rattle.hg_base.proofs.ListFacts.{cases, append_nil}
use Rattle.hg_base.proofs.Growth.{each_group_snoc as group_more}
use Rattle.hg_core.specs.declared.log.LogEntry.{LogEntry}
use Rattle.hg_core.specs.declared.log.LogEntry.TheVariants.{Began, Saw, Refused, Outside, Wrote, Undid, Published, Over}
use Rattle.hg_core.specs.Logs.{current, snapshot_number, own_writes, commit_in, published, is_in, new_group, published_logs, UpTo, AnswerUpTo}
use Rattle.hg_core.specs.Judged.{IsPublish, Judge, Judged, of_session}
use Rattle.hg_core.specs.Replies.{IsReplied}
use Rattle.hg_core.specs.Events.{put}
use Rattle.hg_core.proofs.Indices.{by_number, put_here}
use Rattle.hg_core.proofs.Groups.{wider, length_more, commits_kept}
use Rattle.hg_core.proofs.Replies.{IsNoNumber, replies_entry, replies_published}
use Rattle.hg_core.proofs.Updates.{update_more}
use Rattle.hg_core.proofs.Grouping.{none_last}
use Rattle.hg_headline.specs.Logged.{Logged}
use Rattle.hg_headline.proofs.Words.{same_number}

-- ---- as a board opens

pub logged_opened : (buckets : ℕ) → 0 < buckets → Logged buckets [] (λ j. [])
logged_opened buckets some = record { some = some; history = tt; kept = tt; judged = λ j. tt; replied = λ j. tt; within = λ j. tt; commits = λ n j. refl }

-- ---- an entry more

-- an entry that is no commit number, and has no number over n
abbrev pub IsPlainEntry : ℕ → LogEntry → Type 0
IsPlainEntry n (Published number) = ⊥
IsPlainEntry n (Began at scope) = at ≤ n
IsPlainEntry n (Refused r answer) = AnswerUpTo n answer
IsPlainEntry n _ = ⊤

plain_number : (n : ℕ) (e : LogEntry) → IsPlainEntry n e → IsNoNumber e
plain_number n (Published number) p = absurd p
plain_number n (Began at scope) p = tt
plain_number n (Refused r a) p = tt
plain_number n (Saw t low high b rows) p = tt
plain_number n (Outside t) p = tt
plain_number n (Wrote r image) p = tt
plain_number n (Undid r) p = tt
plain_number n Over p = tt

pub plain_within : (n : ℕ) (e : LogEntry) (l : List LogEntry) → IsPlainEntry n e → UpTo n l → UpTo n (e ∷ l)
plain_within n (Published m) l p u = absurd p
plain_within n (Began at scope) l p u = (p, u)
plain_within n (Refused r a) l p u = (p, u)
plain_within n (Saw t low high b rows) l p u = u
plain_within n (Outside t) l p u = u
plain_within n (Wrote r image) l p u = u
plain_within n (Undid r) l p u = u
plain_within n Over l p u = u

plain_published : (top n j : ℕ) (e : LogEntry) (l : List LogEntry) → IsPlainEntry top e → published n j (e ∷ l) ≡ published n j l
plain_published top n j (Published m) l p = absurd p
plain_published top n j (Began at scope) l p = refl
plain_published top n j (Refused r a) l p = refl
plain_published top n j (Saw t low high b rows) l p = refl
plain_published top n j (Outside t) l p = refl
plain_published top n j (Wrote r image) l p = refl
plain_published top n j (Undid r) l p = refl
plain_published top n j Over l p = refl

-- an entry that is right may be logged
pub logged_entry : (buckets : ℕ) (h : History) (logs : ℕ → List LogEntry) (j : ℕ) (e : LogEntry) → Logged buckets h logs → IsPlainEntry (length h) e → Judge h e (logs j) →
    IsReplied buckets h logs j e (logs j) → Logged buckets h (put logs j (e ∷ logs j))
logged_entry buckets h logs j e g p d q = record {
  some = g.some;
  history = g.history;
  kept = g.kept;
  judged = by_number j (λ k b. Judged h (if b then e ∷ logs j else logs k)) (d, g.judged j) (λ k z. g.judged k);
  replied = replies_entry buckets h logs j e (plain_number (length h) e p) g.within q g.replied;
  within = by_number j (λ k b. UpTo (length h) (if b then e ∷ logs j else logs k)) (plain_within (length h) e (logs j) p (g.within j)) (λ k z. g.within k);
  commits = λ n. by_number j (λ k b. of_session k (group_at h n) ≡ published n k (if b then e ∷ logs j else logs k)) (g.commits n j ∙
      sym (plain_published (length h) n j e (logs j) p)) (λ k z. g.commits n k);
}

pub put_twice : (logs : ℕ → List LogEntry) (j : ℕ) (l m : List LogEntry) → put (put logs j l) j m ≡ put logs j m
put_twice logs j l m = λ i k. (go k (k == j)) i
  where
    go : (k : ℕ) (b : Bool) → (if b then m else (if b then l else logs k)) ≡ (if b then m else logs k)
    go k true = refl
    go k false = refl

pub put_same : (logs : ℕ → List LogEntry) (j : ℕ) → put logs j (logs j) ≡ logs
put_same logs j = λ i k. by_number j (λ k b. (if b then logs j else logs k) ≡ logs k) refl (λ k z. refl) k i

-- and on top of others of the session
pub logged_on : (buckets : ℕ) (h : History) (logs : ℕ → List LogEntry) (j : ℕ) (e : LogEntry) (l : List LogEntry) → Logged buckets h (put logs j l) → IsPlainEntry (length h) e →
    Judge h e l → IsReplied buckets h (put logs j l) j e l → Logged buckets h (put logs j (e ∷ l))
logged_on buckets h logs j e l g p d q =
    let here : put logs j l j ≡ l = put_here logs j l in
    let more : Logged buckets h (put (put logs j l) j (e ∷ put logs j l j)) = logged_entry buckets h (put logs j l) j e g p (subst (Judge h e) (sym here) d)
    (subst (IsReplied buckets h (put logs j l) j e) (sym here) q) in
    subst (Logged buckets h) (ap (λ m. put (put logs j l) j (e ∷ m)) here ∙ put_twice logs j l (e ∷ l)) more

-- ---- a group more

pub logged_published : (buckets : ℕ) (h : History) (logs : ℕ → List LogEntry) (js : List ℕ) → Logged buckets h logs → NoNumberTwice js →
    IsGroup (suc (length h)) (new_group logs js) → ((j : ℕ) → IsTrue (is_in js j) → IsPublish (logs j)) → Each (LosesNothing h) (new_group logs js) →
    Logged buckets (h ++ new_group logs js ∷ []) (published_logs logs js (suc (length h)))
logged_published buckets h logs js g distinct group publish loses = record {
  some = g.some;
  history = group_more IsGroup 1 h (new_group logs js) g.history (subst (λ n. IsGroup n (new_group logs js)) one group);
  kept = update_more h (new_group logs js) g.kept loses;
  judged = λ j. judged_new j (is_in js j) refl;
  replied = replies_published buckets h (new_group logs js) logs js g.within g.replied;
  within = λ j. within_new j (is_in js j);
  commits = commits_kept h logs js g.commits g.within distinct;
}
  where
    one : suc (length h) ≡ 1 + length h
    one = omega arith

    more : length h ≤ length (h ++ new_group logs js ∷ [])
    more = omega (arith, length_more h (new_group logs js))

    longer : (e : LogEntry) (l : List LogEntry) → Judge h e l → Judge (h ++ new_group logs js ∷ []) e l
    longer (Began at scope) l q = record { within = (let w = q.within in omega (arith, w, more)); over = q.over; alone = q.alone }
    longer (Saw t low high b rows) l q = q
    longer (Refused r a) l q = q
    longer (Outside t) l q = q
    longer (Wrote r image) l q = q
    longer (Undid r) l q = q
    longer (Published n) l q = q
    longer Over l q = q

    all_longer : (l : List LogEntry) → Judged h l → Judged (h ++ new_group logs js ∷ []) l
    all_longer [] d = tt
    all_longer (e ∷ l) d = (longer e l d.0, all_longer l d.1)

    judged_new : (j : ℕ) (b : Bool) → is_in js j ≡ b → Judged (h ++ new_group logs js ∷ []) (if b then Published (suc (length h)) ∷ logs j else logs j)
    judged_new j true e = (publish j e, all_longer (logs j) (g.judged j))
    judged_new j false e = all_longer (logs j) (g.judged j)

    within_new : (j : ℕ) (b : Bool) → UpTo (length (h ++ new_group logs js ∷ [])) (if b then Published (suc (length h)) ∷ logs j else logs j)
    within_new j true = (omega (arith, length_more h (new_group logs js)), wider (length h) _ (logs j) more (g.within j))
    within_new j false = wider (length h) _ (logs j) more (g.within j)

-- ---- a group of one session

written_some : (ws : List Write) → is_written ws ≡ true → 0 < length (last_images ws)
written_some [] e = absurd (let k : false ≡ true = e in cc)
written_some (w ∷ ws) e = omega arith

-- one transaction that wrote, as a group
pub group_of_one : (h : History) (j : ℕ) (log : List LogEntry) → is_written (own_writes log) ≡ true → snapshot_number (current log) ≤ length h → IsGroup (suc (length h)) (commit_in j log ∷ [])
group_of_one h j log wrote at = record {
  some = omega arith;
  commits = (record { some = written_some (own_writes log) wrote; before = omega (arith, at) }, tt);
  sessions = (refl, tt);
  rids = subst NoneTwice (sym (append_nil (rids_of (last_images (own_writes log))))) (none_last (own_writes log));
}

pub published_one : (logs : ℕ → List LogEntry) (j n : ℕ) → published_logs logs (j ∷ []) n ≡ put logs j (Published n ∷ logs j)
published_one logs j n = λ i k. by_number j (λ k b. (if is_in (j ∷ []) k then Published n ∷ logs k else logs k) ≡ (if b then Published n ∷ logs j else logs k)) here (λ k z. there k z) k i
  where
    here : (if is_in (j ∷ []) j then Published n ∷ logs j else logs j) ≡ Published n ∷ logs j
    here = ap (λ b. if b || false then Published n ∷ logs j else logs j) (same_number j)

    there : (k : ℕ) → (k ≡ j → ⊥) → (if is_in (j ∷ []) k then Published n ∷ logs k else logs k) ≡ logs k
    there k z = let e : (j == k) ≡ false = grind (arith, nat_tests) in ap (λ b. if b || false then Published n ∷ logs k else logs k) e

-- one session publishes
pub logged_commit : (buckets : ℕ) (h : History) (logs : ℕ → List LogEntry) (j : ℕ) → Logged buckets h logs → IsPublish (logs j) → is_written (own_writes (logs j)) ≡ true →
    snapshot_number (current (logs j)) ≤ length h → LosesNothing h (commit_in j (logs j)) →
    Logged buckets (h ++ (commit_in j (logs j) ∷ []) ∷ []) (put logs j (Published (suc (length h)) ∷ logs j))
logged_commit buckets h logs j g publish wrote at loses =
    subst (Logged buckets (h ++ (commit_in j (logs j) ∷ []) ∷ [])) (published_one logs j (suc (length h)))
    (logged_published buckets h logs (j ∷ []) g (refl, tt) (group_of_one h j (logs j) wrote at) (λ k e. mine k e) (loses, tt))
  where
    mine : (k : ℕ) → IsTrue (is_in (j ∷ []) k) → IsPublish (logs k)
    mine k e = cases (j == k) (λ q. subst (λ i. IsPublish (logs i)) ((Decides-eqb j k).0 q) publish) (λ q. absurd (let z : false ≡ true = sym (ap (λ b. b || false) q) ∙ e in cc))
