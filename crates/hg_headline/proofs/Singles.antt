-- A replay on one thread, at a statement that is a transaction of its own: what is known before it is known after it.
use Rattle.std.proofs.Common.{◌≡◌, ◌+◌, ℕ, suc, ◌<◌, ◌≤◌, List, [], ◌∷◌, ◌++◌, length, true, Option, Some, None, refl, sym, ap, ◌∙◌, subst, arith}
use Rattle.std.specs.Prelude.{◌&&◌, IsTrue, IfSome, is_some}
use Rattle.std.specs.List.{cons_option}
use Rattle.std.specs.Option.{option_or}
use Rattle.hg_base.specs.declared.rid.Rid.{Rid}
use Rattle.hg_base.specs.declared.image.Image.{Image}
use Rattle.hg_base.specs.declared.scope.Snapshot.{Snapshot}
use Rattle.hg_base.specs.declared.statement.Record.{Record}
use Rattle.hg_base.specs.declared.statement.Statement.{Statement}
use Rattle.hg_base.specs.declared.line.Answer.{Answer}
use Rattle.hg_base.specs.declared.line.Answer.TheVariants.{Begun, Newer, Swept}
use Rattle.hg_base.specs.declared.line.Line.{Line}
use Rattle.hg_base.specs.Lists.{Each}
use Rattle.hg_base.specs.History.{Write, Commit, History, LosesNothing, image_in, writes}
use Rattle.hg_base.specs.Transcript.{only, table_of, stored_by, committed_by, last_images}
use Rattle.hg_base.specs.Replies.{is_written}
use Rattle.hg_core.specs.declared.log.LogEntry.{LogEntry}
use Rattle.hg_core.specs.declared.log.LogEntry.TheVariants.{Began, Published, Over}
use Rattle.hg_core.specs.Logs.{current, begans, own_writes, is_plain, open_in, snapshot_number, commit_in}
use Rattle.hg_core.specs.Events.{put}
use Rattle.hg_core.specs.Reading.{Unprinted, own_entries, is_access, is_alone, close, log_with, log_after, FitsScope, left_after}
use Rattle.hg_core.proofs.Groups.{length_more}
use Rattle.hg_core.proofs.Indices.{put_here}
use Rattle.hg_core.proofs.NewGroup.{image_open}
use Rattle.hg_core.proofs.Past.{writes_within}
use Rattle.hg_core.specs.Counters.{first_writes, undos}
use Rattle.hg_core.specs.Judged.{IsPublish}
use Rattle.hg_core.proofs.Right.{if_none, places_of}
use Rattle.hg_headline.specs.Logged.{Logged}
use Rattle.hg_headline.specs.Timely.{reads_in, snapshot_in, mark_in, newer_in, IsTimely}
use Rattle.hg_headline.specs.Replayed.{HasReplayed}
use Rattle.hg_headline.specs.Answered.{MayAnswer}
use Rattle.hg_headline.specs.Counted.{every, adding}
use Rattle.hg_headline.proofs.Tallying.{made_put, undone_put, no_more, made_access, undos_access}
use Rattle.hg_headline.proofs.Adds.{Adds, adds_access, access_commits}
use Rattle.hg_headline.proofs.Growing.{logged_on, logged_commit, put_twice, put_same}
use Rattle.hg_headline.proofs.Loops.{replayed_more}
use Rattle.hg_headline.proofs.OnTop.{is_open}
use Rattle.hg_headline.proofs.Answering.{Leaves, leaves}
use Rattle.hg_headline.proofs.Replaying.{equal_within}
use Rattle.hg_headline.proofs.Knowledge.{line_for, alone, Next, IsAsked, gone_put, answered_access, answered_met, IsSmall, access_in, access_rest, fits_small}

-- it reads at the mark, and declares its one table
abbrev pub own_snapshot : History → Statement → Snapshot
own_snapshot h s = record { at = length h; scope = only (table_of s) }

pub timely_alone : (top next : ℕ) (s : Statement) (a : Answer) (number : Option ℕ) → committed_by s a ≡ None → IsSmall top a → top ≤ next →
    IfSome number (λ c. (top < c) × (c ≤ next)) → IsTimely top next s (alone top a number)
timely_alone top next s a number e k up f = record {
  grows = up;
  reads = reads a k;
  snapshot = snapshot a k;
  mark = mark a k;
  newer = newer a k;
  commit = commit number e f;
}
  where
    reads : (a : Answer) → IsSmall top a → Each (λ n. n ≤ next) (reads_in (alone top a number))
    reads (Newer n) k = (up, (omega (arith, k.1, up), tt))
    reads (Begun n) k = absurd k
    reads (Swept sweep) k = absurd k
    reads a k = (up, tt)

    below : (c : ℕ) (a : Answer) → top < c → IsSmall top a → Each (λ n. n < c) (reads_in (alone top a number))
    below c (Newer n) q k = (q, (omega (arith, k.1, q), tt))
    below c (Begun n) q k = absurd k
    below c (Swept sweep) q k = absurd k
    below c a q k = (q, tt)

    snapshot : (a : Answer) → IsSmall top a → IfSome (snapshot_in (alone top a number)) (λ at. top ≤ at)
    snapshot (Begun n) k = absurd k
    snapshot a k = omega arith

    mark : (a : Answer) → IsSmall top a → IfSome (mark_in (alone top a number)) (λ m. top ≤ m)
    mark (Swept sweep) k = absurd k
    mark a k = tt

    newer : (a : Answer) → IsSmall top a → IfSome (newer_in (alone top a number)) (λ c. 0 < c)
    newer (Newer n) k = k.0
    newer a k = tt

    commit : (o : Option ℕ) → committed_by s a ≡ None → IfSome o (λ c. (top < c) × (c ≤ next)) →
        IfSome (option_or o (committed_by s a)) (λ c. (top < c) × (c ≤ next) × Each (λ n. n < c) (reads_in (alone top a number)))
    commit None e f = subst (λ p. IfSome p (λ c. (top < c) × (c ≤ next) × Each (λ n. n < c) (reads_in (alone top a number)))) (sym e) tt
    commit (Some c) e f = (f.0, f.1, below c a f.0 k)

-- the entries of a statement that stands alone, up to its end
pub record Stood (buckets : ℕ) (h : History) (logs : ℕ → List LogEntry) (j : ℕ) (s : Statement) (a : Answer) : Type 0 where
  pub left : Leaves buckets h logs j (own_snapshot h s) (Began (length h) (only (table_of s)) ∷ logs j) (own_writes (logs j)) s a
  pub access : IsTrue (is_access s)
  pub adds : Adds (Began (length h) (only (table_of s)) ∷ logs j) (own_entries buckets left.unprinted s a ++ (Began (length h) (only (table_of s)) ∷ logs j)) (stored_by s a) a

pub stood : (buckets : ℕ) (h : History) (logs : ℕ → List LogEntry) (j : ℕ) (s : Statement) (a : Answer) → Logged buckets h logs → current (logs j) ≡ None →
    MayAnswer h logs j (own_snapshot h s) [] s a → Stood buckets h logs j s a
stood buckets h logs j s a g none m =
    let c : Snapshot = own_snapshot h s in
    let l : List LogEntry = Began (length h) (only (table_of s)) ∷ logs j in
    let began : Logged buckets h (put logs j l) = logged_on buckets h logs j (Began (length h) (only (table_of s))) (logs j) (subst (Logged buckets h) (sym (put_same logs j)) g)
    (omega arith) (record { within = omega arith; over = g.within j; alone = none }) tt in
    let left : Leaves buckets h logs j c l (own_writes (logs j)) s a = leaves buckets h logs j c l (own_writes (logs j)) s a (places_of buckets g.some)
    (record { logged = began; opened = refl }) refl m in
    let access : IsTrue (is_access s) = answered_access h logs j c [] s a m in
    record { left = left; access = access; adds = adds_access buckets left.unprinted (own_writes (logs j)) s a l access left.fits }

-- no write is open at an end
pub none_open_in : (l : List LogEntry) → is_plain l ≡ true → own_writes l ≡ [] → (r : Rid) → open_in r l ≡ None
none_open_in l p e r = sym (image_open r l p) ∙ ap (image_in r) e

pub alone_after : (buckets : ℕ) (u : Unprinted) (s : Statement) (a : Answer) (number : Option ℕ) (h : History) (l : List LogEntry) → current l ≡ None → IsTrue (is_access s) →
    close number ++ (own_entries buckets u s a ++ (Began (length h) (only (table_of s)) ∷ l)) ≡ log_after buckets u s (alone (length h) a number) l
alone_after buckets u s a number h l none access = sym (ap (λ b. log_with b buckets u s (alone (length h) a number) l) (ap (λ o. is_alone o s) none ∙ access))

-- one that stores nothing
pub replayed_alone : (buckets sessions : ℕ) (h : History) (logs : ℕ → List LogEntry) (rs : List Record) (lines : List Line) (r : Record) (a : Answer) →
    HasReplayed buckets sessions h logs (length h) rs lines → IsAsked sessions r →
    current (logs r.session) ≡ None → stored_by r.statement a ≡ None → MayAnswer h logs r.session (own_snapshot h r.statement) [] r.statement a →
    Next buckets sessions h logs (rs ++ r ∷ []) (lines ++ line_for r (alone (length h) a None) ∷ []) r.session None (suc (begans (logs r.session))) [] 0 0
replayed_alone buckets sessions h logs rs lines r a g asked none stored m =
    let j : ℕ = r.session in
    let s : Statement = r.statement in
    let l : List LogEntry = logs j in
    let it : Stood buckets h logs j s a = stood buckets h logs j s a g.logged none m in
    let u : Unprinted = it.left.unprinted in
    let last : List LogEntry = own_entries buckets u s a ++ (Began (length h) (only (table_of s)) ∷ l) in
    let after : Over ∷ last ≡ log_after buckets u s (alone (length h) a None) l = alone_after buckets u s a None h l none it.access in
    let own : own_writes last ≡ [] = it.adds.own ∙ ap (λ o. cons_option o []) stored in
    let ended : Logged buckets h (put logs j (Over ∷ last)) = logged_on buckets h logs j Over last it.left.goes.logged tt
    (record { opened = is_open (current last) (own_snapshot h s) it.left.goes.opened; none = none_open_in last it.left.plain own }) tt in
    let is : is_alone (current l) s ≡ true = ap (λ o. is_alone o s) none ∙ it.access in
    record {
      more = put logs j (log_after buckets u s (alone (length h) a None) l);
      replayed = replayed_more buckets sessions h h logs (length h) (length h) rs lines r (line_for r (alone (length h) a None)) u g asked.some asked.most refl refl
          (answered_met sessions h logs j (own_snapshot h s) [] s a m)
          (record {
            at = sym is;
            number = sym (ap (λ b. b && is_some (stored_by s a)) is ∙ ap is_some stored);
            answer = it.left.fits;
            scope = if_none (current l) (λ snapshot. FitsScope snapshot.scope s a) none;
            inside = access_in (current l) s it.access;
          })
          (access_rest s u.rest (left_after (λ j. None) rs lines j) it.access)
          (timely_alone (length h) (length h) s a None (access_commits s a it.access) (fits_small buckets u (own_writes l) h logs j (own_snapshot h s) [] s a it.left.fits m) (omega arith) tt)
          (omega arith) (subst (λ x. Logged buckets h (put logs j x)) after ended);
      gone = gone_put logs j (log_after buckets u s (alone (length h) a None) l) None (suc (begans l)) [] (ap current (sym after)) (ap begans (sym after) ∙ it.adds.count)
          (ap own_writes (sym after)) (ap is_plain (sym after));
      made = made_put sessions logs j (log_after buckets u s (alone (length h) a None) l) 0 asked.some asked.most (ap (first_writes every) (sym after) ∙
          made_access buckets u (own_writes l) s a (Began (length h) (only (table_of s)) ∷ l) it.access it.left.fits ∙ ap (λ o. first_writes every l + adding [] o) stored);
      undone = undone_put sessions logs j (log_after buckets u s (alone (length h) a None) l) 0 asked.some asked.most
          (no_more _ _ (ap (undos every) (sym after) ∙ undos_access buckets u (own_writes l) s a (Began (length h) (only (table_of s)) ∷ l) it.access it.left.fits));
    }

-- the commit of a statement that stores one write
abbrev pub own_commit : ℕ → ℕ → ℕ → Write → Commit
own_commit j count at w = record { session = j; transaction = suc count; at = at; images = w ∷ [] }

pub loses_nothing : (h : History) (c : Commit) → c.at ≡ length h → LosesNothing h c
loses_nothing h c e = all c.images
  where
    all : (ws : List Write) → Each (λ w. Each (λ other. other.0 ≤ c.at) (writes h w.rid)) ws
    all [] = tt
    all (w ∷ ws) = (subst (λ n. Each (λ (other : ℕ × Image). other.0 ≤ n) (writes h w.rid)) (sym e) (writes_within 1 (length h) h w.rid (omega arith)), all ws)

-- one that stores a write, and so commits it
pub replayed_commits : (buckets sessions : ℕ) (h : History) (logs : ℕ → List LogEntry) (rs : List Record) (lines : List Line) (r : Record) (a : Answer) (w : Write) →
    HasReplayed buckets sessions h logs (length h) rs lines → IsAsked sessions r →
    current (logs r.session) ≡ None → stored_by r.statement a ≡ Some w → MayAnswer h logs r.session (own_snapshot h r.statement) [] r.statement a →
    let more : History = h ++ (own_commit r.session (begans (logs r.session)) (length h) w ∷ []) ∷ [] in
    Next buckets sessions more logs (rs ++ r ∷ []) (lines ++ line_for r (alone (length h) a (Some (suc (length h)))) ∷ []) r.session None (suc (begans (logs r.session))) [] 1 0
replayed_commits buckets sessions h logs rs lines r a w g asked none stored m =
    let j : ℕ = r.session in
    let s : Statement = r.statement in
    let l : List LogEntry = logs j in
    let n : ℕ = suc (length h) in
    let it : Stood buckets h logs j s a = stood buckets h logs j s a g.logged none m in
    let u : Unprinted = it.left.unprinted in
    let last : List LogEntry = own_entries buckets u s a ++ (Began (length h) (only (table_of s)) ∷ l) in
    let after : Over ∷ Published n ∷ last ≡ log_after buckets u s (alone (length h) a (Some n)) l = alone_after buckets u s a (Some n) h l none it.access in
    let own : own_writes last ≡ w ∷ [] = it.adds.own ∙ ap (λ o. cons_option o []) stored in
    let at : snapshot_number (current last) ≡ length h = ap snapshot_number it.left.goes.opened in
    let here : put logs j last j ≡ last = put_here logs j last in
    let commit : commit_in j last ≡ own_commit j (begans l) (length h) w = λ i. record { session = j; transaction = it.adds.count i; at = at i; images = last_images (own i) } in
    let more : History = h ++ (own_commit j (begans l) (length h) w ∷ []) ∷ [] in
    let grown : length more ≡ n = length_more h (own_commit j (begans l) (length h) w ∷ []) in
    let published : Logged buckets (h ++ (commit_in j (put logs j last j) ∷ []) ∷ []) (put (put logs j last) j (Published n ∷ put logs j last j)) =
    logged_commit buckets h (put logs j last) j it.left.goes.logged
    (subst IsPublish (sym here) (record { opened = is_open (current last) (own_snapshot h s) it.left.goes.opened; plain = it.left.plain }))
    (ap is_written (ap own_writes here ∙ own)) (equal_within (snapshot_number (current (put logs j last j))) (length h) (ap (λ x. snapshot_number (current x)) here ∙ at))
    (loses_nothing h (commit_in j (put logs j last j)) (ap (λ x. snapshot_number (current x)) here ∙ at)) in
    let in_it : Logged buckets more (put logs j (Published n ∷ last)) =
    subst (λ ls. Logged buckets more ls) (ap (λ x. put (put logs j last) j (Published n ∷ x)) here ∙ put_twice logs j last (Published n ∷ last))
    (subst (λ x. Logged buckets (h ++ (x ∷ []) ∷ []) (put (put logs j last) j (Published n ∷ put logs j last j))) (ap (commit_in j) here ∙ commit) published) in
    let ended : Logged buckets more (put logs j (Over ∷ Published n ∷ last)) = logged_on buckets more logs j Over (Published n ∷ last) in_it tt
    (record { opened = is_open (current last) (own_snapshot h s) it.left.goes.opened; none = λ q. refl }) tt in
    let is : is_alone (current l) s ≡ true = ap (λ o. is_alone o s) none ∙ it.access in
    record {
      more = put logs j (log_after buckets u s (alone (length h) a (Some n)) l);
      replayed = replayed_more buckets sessions h more logs (length h) (length more) rs lines r (line_for r (alone (length h) a (Some n))) u g asked.some asked.most refl refl
          (answered_met sessions h logs j (own_snapshot h s) [] s a m)
          (record {
            at = sym is;
            number = sym (ap (λ b. b && is_some (stored_by s a)) is ∙ ap is_some stored);
            answer = it.left.fits;
            scope = if_none (current l) (λ snapshot. FitsScope snapshot.scope s a) none;
            inside = access_in (current l) s it.access;
          })
          (access_rest s u.rest (left_after (λ j. None) rs lines j) it.access)
          (timely_alone (length h) (length more) s a (Some n) (access_commits s a it.access) (fits_small buckets u (own_writes l) h logs j (own_snapshot h s) [] s a it.left.fits m)
          (omega (arith, grown)) (omega arith, omega (arith, grown)))
          (omega arith) (subst (λ x. Logged buckets more (put logs j x)) after ended);
      gone = gone_put logs j (log_after buckets u s (alone (length h) a (Some n)) l) None (suc (begans l)) [] (ap current (sym after)) (ap begans (sym after) ∙ it.adds.count)
          (ap own_writes (sym after)) (ap is_plain (sym after));
      made = made_put sessions logs j (log_after buckets u s (alone (length h) a (Some n)) l) 1 asked.some asked.most (ap (first_writes every) (sym after) ∙
          made_access buckets u (own_writes l) s a (Began (length h) (only (table_of s)) ∷ l) it.access it.left.fits ∙ ap (λ o. first_writes every l + adding [] o) stored);
      undone = undone_put sessions logs j (log_after buckets u s (alone (length h) a (Some n)) l) 0 asked.some asked.most
          (no_more _ _ (ap (undos every) (sym after) ∙ undos_access buckets u (own_writes l) s a (Began (length h) (only (table_of s)) ∷ l) it.access it.left.fits));
    }
