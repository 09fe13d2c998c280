-- What is known of logs in which a statement left what no line tells was so before it.
use Rattle.std.proofs.Common.{◌≡◌, inl, inr, ℕ, suc, ◌≤◌, List, [], ◌∷◌, ◌++◌, length, true, false, None, refl, ap, ◌∙◌, subst, arith}
use Rattle.std.specs.Prelude.{◌==◌, ◌<◌, if◌then◌else◌, is_some, IsTrue, IsFalse}
use Rattle.std.proofs.lemmas.Bool.Decides.{nat_tests}
use Rattle.hg_base.specs.declared.rid.Rid.{Rid}
use Rattle.hg_base.specs.declared.rid.TableId.{TableId}
use Rattle.hg_base.specs.declared.image.Image.{Image}
use Rattle.hg_base.specs.declared.scope.Scope.{Scope}
use Rattle.hg_base.specs.declared.scope.Snapshot.{Snapshot}
use Rattle.hg_base.specs.declared.value.Value.{Value}
use Rattle.hg_base.specs.declared.statement.Record.{Record}
use Rattle.hg_base.specs.declared.line.Answer.{Answer}
use Rattle.hg_base.specs.declared.line.Answer.TheVariants.{Newer, OpenBy}
use Rattle.hg_base.specs.declared.line.Line.{Line}
use Rattle.hg_base.specs.Lists.{Each}
use Rattle.hg_base.specs.History.{History, image_in}
use Rattle.hg_base.specs.Transcript.{has}
use Rattle.hg_base.proofs.ListFacts.{if_some_keeps}
use Rattle.hg_core.specs.declared.log.LogEntry.{LogEntry}
use Rattle.hg_core.specs.declared.log.LogEntry.TheVariants.{Began, Saw, Refused, Outside, Wrote, Undid, Published, Over}
use Rattle.hg_core.specs.Judged.{Judged}
use Rattle.hg_core.specs.Logs.{begans, current, own_writes, published, UpTo}
use Rattle.hg_core.specs.Reading.{Follows}
use Rattle.hg_core.specs.Replies.{AreReplied, Refuses, numbers_in, writes_in}
use Rattle.hg_headline.specs.Logged.{Logged}
use Rattle.hg_headline.specs.Met.{IsMet}
use Rattle.hg_headline.proofs.Following.{up_to_less}
use Rattle.hg_headline.proofs.Whole.{OfBeginnings, append_first, judged_less, replied_less}
use Rattle.hg_run.specs.Unsaid.{IsLook, LeavesUnsaid, NothingStays}
use Rattle.hg_run.proofs.Named.{IsBegunIn, NamesBegun, names_followed}

-- ---- what a log shows that has more than the lines say

looks_same : {X : Type 0} (f : List LogEntry → X) → ((t : TableId) (low high b : ℕ) (rows : List (ℕ × List Value)) (l : List LogEntry) → f (Saw t low high b rows ∷ l) ≡ f l) →
    (es l : List LogEntry) → Each IsLook es → f (es ++ l) ≡ f l
looks_same f saw [] l k = refl
looks_same f saw (Saw t low high b rows ∷ es) l k = saw t low high b rows (es ++ l) ∙ looks_same f saw es l k.1
looks_same f saw (_ ∷ es) l k = absurd k.0

-- it has no commit more
unsaid_same : {X : Type 0} (f : List LogEntry → X) → ((t : TableId) (low high b : ℕ) (rows : List (ℕ × List Value)) (l : List LogEntry) → f (Saw t low high b rows ∷ l) ≡ f l) →
    ((at : ℕ) (scope : Scope) (l : List LogEntry) → f (Began at scope ∷ l) ≡ f l) → ((r : Rid) (image : Image) (l : List LogEntry) → f (Wrote r image ∷ l) ≡ f l) →
    ((r : Rid) (l : List LogEntry) → f (Undid r ∷ l) ≡ f l) → ((l : List LogEntry) → f (Over ∷ l) ≡ f l) → (old new : List LogEntry) → LeavesUnsaid old new → f new ≡ f old
unsaid_same f saw began wrote undid over old new (inl looked) = ap f looked.log ∙ looks_same f saw looked.looks old looked.only
unsaid_same f saw began wrote undid over old new (inr gave) =
    let l0 : List LogEntry = gave.looks ++ Began gave.at gave.scope ∷ old in
    ap f gave.log ∙ over (gave.stored ++ l0) ∙ back gave.stored gave.nothing l0 ∙ looks_same f saw gave.looks (Began gave.at gave.scope ∷ old) gave.only ∙ began gave.at gave.scope old
  where
    back : (stored : List LogEntry) → NothingStays stored → (l : List LogEntry) → f (stored ++ l) ≡ f l
    back stored (inl none) l = ap (λ es. f (es ++ l)) none
    back stored (inr (r, image, one)) l = ap (λ es. f (es ++ l)) one ∙ undid r (Wrote r image ∷ l) ∙ wrote r image l

-- and no write in a transaction that was begun
writes_same : (x : ℕ) (old new : List LogEntry) → x ≤ begans old → LeavesUnsaid old new → writes_in x new ≡ writes_in x old
writes_same x old new begun (inl looked) = ap (writes_in x) looked.log ∙ looks_same (writes_in x) (λ t low high b rows l. refl) looked.looks old looked.only
writes_same x old new begun (inr gave) =
    let l0 : List LogEntry = gave.looks ++ Began gave.at gave.scope ∷ old in
    ap (writes_in x) gave.log ∙ back gave.stored gave.nothing ∙ looks_same (writes_in x) (λ t low high b rows l. refl) gave.looks (Began gave.at gave.scope ∷ old) gave.only
  where
    l0 : List LogEntry
    l0 = gave.looks ++ Began gave.at gave.scope ∷ old

    count : begans l0 ≡ suc (begans old)
    count = looks_same begans (λ t low high b rows l. refl) gave.looks (Began gave.at gave.scope ∷ old) gave.only

    other : (begans l0 == x) ≡ false
    other = grind (arith, nat_tests, count, begun)

    back : (stored : List LogEntry) → NothingStays stored → writes_in x (stored ++ l0) ≡ writes_in x l0
    back stored (inl none) = ap (λ es. writes_in x (es ++ l0)) none
    back stored (inr (r, image, one)) = ap (λ es. writes_in x (es ++ l0)) one ∙
        ap (λ b. if b then record { rid = r; image = image } ∷ writes_in x l0 else writes_in x l0) other

-- what holds of it with its beginnings held of it before
unsaid_first : (Q : ℕ → List LogEntry → Type 0) → OfBeginnings Q → (j : ℕ) (old new : List LogEntry) → LeavesUnsaid old new → Q j new → Q j old
unsaid_first Q less j old new (inl looked) q = append_first Q less j looked.looks old (subst (Q j) looked.log q)
unsaid_first Q less j old new (inr gave) q =
    let l0 : List LogEntry = gave.looks ++ Began gave.at gave.scope ∷ old in
    less j (Began gave.at gave.scope) old (append_first Q less j gave.looks (Began gave.at gave.scope ∷ old)
    (append_first Q less j gave.stored l0 (less j Over (gave.stored ++ l0) (subst (Q j) gave.log q))))

-- ---- replies look into other logs for the writes of transactions that were begun, and for numbers

module _ (h : History) (logs more : ℕ → List LogEntry) (writes : (i x : ℕ) → x ≤ begans (logs i) → writes_in x (more i) ≡ writes_in x (logs i))
    (numbers : (i x : ℕ) → numbers_in x (more i) ≡ numbers_in x (logs i)) where
  refuses_before : (j at : ℕ) (r : Rid) (a : Answer) → IsBegunIn logs a → Refuses h more j at r a → Refuses h logs j at r a
  refuses_before j at r (Newer c) begun f = f
  refuses_before j at r (OpenBy w) begun f = record {
    other = f.other;
    does = subst (λ ws. is_some (image_in r ws) ≡ true) (writes w.session w.transaction begun) f.does;
    after = subst (Each (λ c. at < c)) (numbers w.session w.transaction) f.after;
  }
  refuses_before j at r _ begun f = absurd f

  all_before : (buckets j : ℕ) (l : List LogEntry) → NamesBegun logs l → AreReplied buckets h more j l → AreReplied buckets h logs j l
  all_before buckets j [] named q = tt
  all_before buckets j (Refused r a ∷ l) named q =
      let Told : (ℕ → List LogEntry) → Snapshot → Type 0 = λ ls snapshot. IsTrue (has snapshot.scope r.table) × (IsFalse (is_some (image_in r (own_writes l))) × Refuses h ls j snapshot.at r a) in
      (if_some_keeps (current l) (Told more) (Told logs) (λ snapshot p. (p.0, (p.1.0, refuses_before j snapshot.at r a named.0 p.1.1))) q.0, all_before buckets j l named.1 q.1)
  all_before buckets j (Began at scope ∷ l) named q = (q.0, all_before buckets j l named q.1)
  all_before buckets j (Saw t low high b rows ∷ l) named q = (q.0, all_before buckets j l named q.1)
  all_before buckets j (Outside t ∷ l) named q = (q.0, all_before buckets j l named q.1)
  all_before buckets j (Wrote r image ∷ l) named q = (q.0, all_before buckets j l named q.1)
  all_before buckets j (Undid r ∷ l) named q = (q.0, all_before buckets j l named q.1)
  all_before buckets j (Published n ∷ l) named q = (q.0, all_before buckets j l named q.1)
  all_before buckets j (Over ∷ l) named q = (q.0, all_before buckets j l named q.1)

-- ---- the whole

-- where lines follow the logs as they were, the history that the logs have was theirs
pub logged_unsaid : (buckets sessions : ℕ) (h : History) (logs more : ℕ → List LogEntry) (rs : List Record) (lines : List Line) →
    Follows buckets (IsMet sessions) (λ j. []) (λ j. None) rs lines logs → ((j : ℕ) → LeavesUnsaid (logs j) (more j)) → Logged buckets h more → Logged buckets h logs
logged_unsaid buckets sessions h logs more rs lines follows unsaid g =
    let named : (j : ℕ) → NamesBegun logs (logs j) = names_followed buckets sessions rs lines (λ j. []) logs (λ j. None) follows (λ j. tt) in
    record {
      some = g.some;
      history = g.history;
      kept = g.kept;
      judged = λ j. unsaid_first (λ i l. Judged h l) (judged_less h) j (logs j) (more j) (unsaid j) (g.judged j);
      replied = λ j. all_before h logs more (λ i x begun. writes_same x (logs i) (more i) begun (unsaid i))
          (λ i x. unsaid_same (numbers_in x) (λ t low high b rows l. refl) (λ at scope l. refl) (λ r image l. refl) (λ r l. refl) (λ l. refl) (logs i) (more i) (unsaid i))
          buckets j (logs j) (named j) (unsaid_first (AreReplied buckets h more) (replied_less buckets h more) j (logs j) (more j) (unsaid j) (g.replied j));
      within = λ j. unsaid_first (λ i l. UpTo (length h) l) (up_to_less (length h)) j (logs j) (more j) (unsaid j) (g.within j);
      commits = λ n j. g.commits n j ∙
          unsaid_same (published n j) (λ t low high b rows l. refl) (λ at scope l. refl) (λ r image l. refl) (λ r l. refl) (λ l. refl) (logs j) (more j) (unsaid j);
    }
