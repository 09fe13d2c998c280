-- What is known of the logs as they are closed was so before they were closed.
use Rattle.std.proofs.Common.{◌≡◌, ℕ, ◌<◌, inl, inr, List, [], ◌∷◌, ◌++◌, map, length, true, refl, ap, ◌∙◌, subst}
use Rattle.std.specs.Prelude.{IsTrue, IsFalse, is_some}
use Rattle.hg_base.specs.declared.rid.Rid.{Rid}
use Rattle.hg_base.specs.declared.scope.Snapshot.{Snapshot}
use Rattle.hg_base.specs.declared.line.Answer.{Answer}
use Rattle.hg_base.specs.declared.line.Answer.TheVariants.{Newer, OpenBy}
use Rattle.hg_base.specs.Lists.{Each}
use Rattle.hg_base.specs.History.{History, image_in}
use Rattle.hg_base.specs.Transcript.{has}
use Rattle.hg_base.proofs.ListFacts.{if_some_keeps}
use Rattle.hg_core.specs.declared.log.LogEntry.{LogEntry}
use Rattle.hg_core.specs.declared.log.LogEntry.TheVariants.{Began, Saw, Refused, Outside, Wrote, Undid, Published, Over}
use Rattle.hg_core.specs.Logs.{current, own_writes, published, UpTo}
use Rattle.hg_core.specs.Judged.{Judged}
use Rattle.hg_core.specs.Replies.{IsReplied, AreReplied, Refuses, writes_in, numbers_in}
use Rattle.hg_headline.specs.Logged.{Logged}
use Rattle.hg_headline.specs.Counted.{Closes}
use Rattle.hg_headline.proofs.Whole.{OfBeginnings, append_first, judged_less, replied_less}
use Rattle.hg_headline.proofs.Following.{up_to_less}

-- ---- a log that is closed has no write, number or commit more

pub closed_same : {X : Type 0} (f : List LogEntry → X) → ((r : Rid) (l : List LogEntry) → f (Undid r ∷ l) ≡ f l) → ((l : List LogEntry) → f (Over ∷ l) ≡ f l) →
    (log closed : List LogEntry) → Closes log closed → f closed ≡ f log
closed_same f undid over log closed (inl e) = ap f e.1
closed_same f undid over log closed (inr e) = ap f e.1.2 ∙ over (map Undid e.1.0 ++ log) ∙ all e.1.0
  where
    all : (rids : List Rid) → f (map Undid rids ++ log) ≡ f log
    all [] = refl
    all (r ∷ rids) = undid r (map Undid rids ++ log) ∙ all rids

-- and what holds of it with its beginnings held of it before
pub closed_first : (Q : ℕ → List LogEntry → Type 0) → OfBeginnings Q → (j : ℕ) (log closed : List LogEntry) → Closes log closed → Q j closed → Q j log
closed_first Q less j log closed (inl e) q = subst (Q j) e.1 q
closed_first Q less j log closed (inr e) q = append_first Q less j (map Undid e.1.0) log (less j Over (map Undid e.1.0 ++ log) (subst (Q j) e.1.2 q))

-- ---- replies look into other logs for their writes and numbers alone

pub refuses_alike : (h : History) (logs more : ℕ → List LogEntry) (j at : ℕ) (r : Rid) (a : Answer) → ((i x : ℕ) → writes_in x (more i) ≡ writes_in x (logs i)) →
    ((i x : ℕ) → numbers_in x (more i) ≡ numbers_in x (logs i)) → Refuses h more j at r a → Refuses h logs j at r a
refuses_alike h logs more j at r (Newer c) writes numbers f = f
refuses_alike h logs more j at r (OpenBy w) writes numbers f = record {
  other = f.other;
  does = subst (λ ws. is_some (image_in r ws) ≡ true) (writes w.session w.transaction) f.does;
  after = subst (Each (λ c. at < c)) (numbers w.session w.transaction) f.after;
}
refuses_alike h logs more j at r _ writes numbers f = absurd f

pub replied_alike : (buckets : ℕ) (h : History) (logs more : ℕ → List LogEntry) (j : ℕ) (e : LogEntry) (l : List LogEntry) →
    ((i x : ℕ) → writes_in x (more i) ≡ writes_in x (logs i)) → ((i x : ℕ) → numbers_in x (more i) ≡ numbers_in x (logs i)) → IsReplied buckets h more j e l → IsReplied buckets h logs j e l
replied_alike buckets h logs more j (Refused r a) l writes numbers q =
    let Told : (ℕ → List LogEntry) → Snapshot → Type 0 = λ ls snapshot. IsTrue (has snapshot.scope r.table) × (IsFalse (is_some (image_in r (own_writes l))) × Refuses h ls j snapshot.at r a) in
    if_some_keeps (current l) (Told more) (Told logs) (λ snapshot p. (p.0, (p.1.0, refuses_alike h logs more j snapshot.at r a writes numbers p.1.1))) q
replied_alike buckets h logs more j (Began at scope) l writes numbers q = q
replied_alike buckets h logs more j (Saw t low high b rows) l writes numbers q = q
replied_alike buckets h logs more j (Outside t) l writes numbers q = q
replied_alike buckets h logs more j (Wrote r image) l writes numbers q = q
replied_alike buckets h logs more j (Undid r) l writes numbers q = q
replied_alike buckets h logs more j (Published n) l writes numbers q = q
replied_alike buckets h logs more j Over l writes numbers q = q

pub all_alike : (buckets : ℕ) (h : History) (logs more : ℕ → List LogEntry) (j : ℕ) (l : List LogEntry) → ((i x : ℕ) → writes_in x (more i) ≡ writes_in x (logs i)) →
    ((i x : ℕ) → numbers_in x (more i) ≡ numbers_in x (logs i)) → AreReplied buckets h more j l → AreReplied buckets h logs j l
all_alike buckets h logs more j [] writes numbers q = tt
all_alike buckets h logs more j (e ∷ l) writes numbers q = (replied_alike buckets h logs more j e l writes numbers q.0, all_alike buckets h logs more j l writes numbers q.1)

-- ---- the whole

pub logged_before : (buckets : ℕ) (h : History) (logs closed : ℕ → List LogEntry) → ((j : ℕ) → Closes (logs j) (closed j)) → Logged buckets h closed → Logged buckets h logs
logged_before buckets h logs closed c g = record {
  some = g.some;
  history = g.history;
  kept = g.kept;
  judged = λ j. closed_first (λ i l. Judged h l) (judged_less h) j (logs j) (closed j) (c j) (g.judged j);
  replied = λ j. all_alike buckets h logs closed j (logs j)
      (λ i x. closed_same (writes_in x) (λ r l. refl) (λ l. refl) (logs i) (closed i) (c i))
      (λ i x. closed_same (numbers_in x) (λ r l. refl) (λ l. refl) (logs i) (closed i) (c i))
      (closed_first (AreReplied buckets h closed) (replied_less buckets h closed) j (logs j) (closed j) (c j) (g.replied j));
  within = λ j. closed_first (λ i l. UpTo (length h) l) (up_to_less (length h)) j (logs j) (closed j) (c j) (g.within j);
  commits = λ n j. g.commits n j ∙ closed_same (published n j) (λ r l. refl) (λ l. refl) (logs j) (closed j) (c j);
}
