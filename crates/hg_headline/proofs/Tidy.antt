-- The logs of a replay are tidy, also as they are closed.
use Rattle.std.proofs.Common.{◌≡◌, inl, inr, ℕ, zero, suc, List, [], ◌∷◌, ◌++◌, map, Bool, true, false, Option, Some, None, refl, sym, ap, ◌∙◌, subst}
use Rattle.std.specs.Prelude.{◌||◌, if◌then◌else◌, is_some, unwrap_or, ⊤}
use Rattle.std.proofs.lemmas.Bool.{or_right}
use Rattle.hg_base.specs.declared.rid.Rid.{Rid}
use Rattle.hg_base.specs.declared.rid.TableId.{TableId}
use Rattle.hg_base.specs.declared.scope.Scope.{Scope}
use Rattle.hg_base.specs.declared.statement.Record.{Record}
use Rattle.hg_base.specs.declared.statement.Statement.{Statement}
use Rattle.hg_base.specs.declared.statement.Statement.TheVariants.{Begin, Get, Put, Del, Scan, Commit as CommitIt, Rollback, Gc, CursorOpen, Fetch, CursorClose}
use Rattle.hg_base.specs.declared.line.Answer.{Answer}
use Rattle.hg_base.specs.declared.line.Answer.TheVariants.{Begun, Stored, Found, Nothing, Gone, Rows, Committed, Newer, OpenBy, Undeclared}
use Rattle.hg_base.specs.declared.line.Reply.{Reply}
use Rattle.hg_base.specs.declared.line.Line.{Line}
use Rattle.hg_base.specs.declared.value.Value.{Value}
use Rattle.hg_base.specs.Lists.{Each}
use Rattle.hg_base.specs.History.{Write, History, same_rid, image_in, is_among, NoneTwice}
use Rattle.hg_base.specs.Transcript.{only, table_of, Rest, rest_after}
use Rattle.hg_base.specs.Replies.{IsBegun}
use Rattle.hg_base.proofs.HistoryFacts.{same_rid_itself}
use Rattle.hg_base.proofs.ListFacts.{each_keeps}
use Rattle.hg_core.specs.declared.log.LogEntry.{LogEntry}
use Rattle.hg_core.specs.declared.log.LogEntry.TheVariants.{Began, Saw, Refused, Outside, Wrote, Undid, Over}
use Rattle.hg_core.specs.Logs.{current, own_writes, is_plain, open_in}
use Rattle.hg_core.specs.Contents.{has_own}
use Rattle.hg_core.specs.Judged.{Judged}
use Rattle.hg_core.specs.Replies.{AreReplied}
use Rattle.hg_core.specs.Events.{put}
use Rattle.hg_core.specs.Reading.{Unprinted, saws, own_entries, begin_entries, commit_entries, is_access, is_alone, close, log_with, log_after, UndoesAll, FitsAnswer, Fits, Follows, looks}
use Rattle.hg_core.specs.Reading.{fetch_entries}
use Rattle.hg_core.proofs.Indices.{by_number, put_here}
use Rattle.hg_core.proofs.NewGroup.{image_open}
use Rattle.hg_headline.specs.Counted.{Closes}
use Rattle.hg_headline.proofs.Words.{true_false}
use Rattle.hg_headline.proofs.LineParts.{close_judged, append_judged, close_replied}
use Rattle.hg_headline.proofs.Lines.{plain_after}
use Rattle.hg_headline.proofs.Whole.{follows_first, judged_less, replied_less}
use Rattle.hg_headline.proofs.Stepping.{undone_open, none_undone}
use Rattle.hg_headline.proofs.Undone.{IsTidy}

-- ---- a rollback

-- each record of a list is among it
each_among : (more rids : List Rid) → Each (λ q. is_among q (more ++ rids) ≡ true) rids
each_among more [] = tt
each_among more (r ∷ rids) = (among_later more r rids, subst (λ all. Each (λ q. is_among q all ≡ true) rids) (one_by_one more r rids) (each_among (more ++ r ∷ []) rids))
  where
    among_later : (xs : List Rid) (r : Rid) (rest : List Rid) → is_among r (xs ++ r ∷ rest) ≡ true
    among_later [] r rest = ap (λ b. b || is_among r rest) (same_rid_itself r)
    among_later (x ∷ xs) r rest = or_right (same_rid r x) (is_among r (xs ++ r ∷ rest)) (among_later xs r rest)

    one_by_one : (xs : List Rid) (r : Rid) (rest : List Rid) → (xs ++ r ∷ []) ++ rest ≡ xs ++ r ∷ rest
    one_by_one [] r rest = refl
    one_by_one (x ∷ xs) r rest = ap (λ ys. x ∷ ys) (one_by_one xs r rest)

tidy_undone : (rids : List Rid) (l : List LogEntry) → is_plain l ≡ true → NoneTwice rids → Each (λ q. is_some (image_in q (own_writes l)) ≡ true) rids → IsTidy l → IsTidy (map Undid rids ++ l)
tidy_undone [] l p n e k = k
tidy_undone (q ∷ rids) l p n e k = (
  ap is_some (undone_open q rids l) ∙ ap (λ b. is_some (if b then None else open_in q l)) n.0 ∙ ap is_some (sym (image_open q l p)) ∙ e.0,
  tidy_undone rids l p n.1 e.1 k,
)

pub tidy_rollback : (undone : List Rid) (l : List LogEntry) → is_plain l ≡ true → UndoesAll (own_writes l) undone → IsTidy l → IsTidy (Over ∷ (map Undid undone ++ l))
tidy_rollback undone l p all k = (
  none_undone l undone p all,
  tidy_undone undone l p all.0 (each_keeps (λ q. is_among q undone ≡ true) (λ q. is_some (image_in q (own_writes l)) ≡ true) (λ q e. sym (all.1 q) ∙ e) undone (each_among [] undone)) k,
)

-- ---- reads and writes take nothing back, and publish nothing

abbrev pub IsQuiet : List LogEntry → Type 0
IsQuiet [] = ⊤
IsQuiet (Saw t low high b rows ∷ es) = IsQuiet es
IsQuiet (Refused r a ∷ es) = IsQuiet es
IsQuiet (Outside t ∷ es) = IsQuiet es
IsQuiet (Wrote r image ∷ es) = IsQuiet es
IsQuiet (_ ∷ es) = ⊥

quiet_saws : (buckets : ℕ) (t : TableId) (low high : ℕ) (part : ℕ → List (ℕ × List Value)) (n : ℕ) → IsQuiet (saws buckets t low high part n)
quiet_saws buckets t low high part zero = tt
quiet_saws buckets t low high part (suc n) = go (has_own buckets t low high n) (quiet_saws buckets t low high part n)
  where
    go : (x : Bool) → IsQuiet (saws buckets t low high part n) → IsQuiet (if x then Saw t low high n (part n) ∷ saws buckets t low high part n else saws buckets t low high part n)
    go true rest = rest
    go false rest = rest

quiet_looks : (buckets : ℕ) (t : TableId) (low high : ℕ) (part : ℕ → List (ℕ × List Value)) (n : ℕ) → IsQuiet (looks buckets t low high part n)
quiet_looks buckets t low high part zero = tt
quiet_looks buckets t low high part (suc n) = quiet_looks buckets t low high part n

quiet_fetch : (buckets : ℕ) (rest : Option Rest) (part : ℕ → List (ℕ × List Value)) (looked : ℕ) (a : Answer) → IsQuiet (fetch_entries buckets rest part looked a)
quiet_fetch buckets (Some rest) part looked (Rows rows) = quiet_looks buckets rest.table rest.low rest.high part looked
quiet_fetch buckets (Some rest) part looked _ = tt
quiet_fetch buckets None part looked a = tt

quiet_access : (buckets : ℕ) (u : Unprinted) (own : List Write) (s : Statement) (a : Answer) → FitsAnswer buckets u own s a → is_access s ≡ true → IsQuiet (own_entries buckets u s a)
quiet_access buckets u own (Get r) (Found row) f e = tt
quiet_access buckets u own (Get r) Nothing f e = tt
quiet_access buckets u own (Get r) (Undeclared t) f e = tt
quiet_access buckets u own (Get r) _ f e = absurd f
quiet_access buckets u own (Put r row) Stored f e = tt
quiet_access buckets u own (Put r row) (Newer n) f e = tt
quiet_access buckets u own (Put r row) (OpenBy w) f e = tt
quiet_access buckets u own (Put r row) (Undeclared t) f e = tt
quiet_access buckets u own (Put r row) _ f e = absurd f
quiet_access buckets u own (Del r) Nothing f e = tt
quiet_access buckets u own (Del r) Gone f e = tt
quiet_access buckets u own (Del r) (Newer n) f e = tt
quiet_access buckets u own (Del r) (OpenBy w) f e = tt
quiet_access buckets u own (Del r) (Undeclared t) f e = tt
quiet_access buckets u own (Del r) _ f e = absurd f
quiet_access buckets u own (Scan t low high) (Rows rows) f e = quiet_saws buckets t low high u.part buckets
quiet_access buckets u own (Scan t low high) (Undeclared other) f e = tt
quiet_access buckets u own (Scan t low high) _ f e = absurd f
quiet_access buckets u own _ a f e = absurd (true_false (sym e))

tidy_quiet : (buckets : ℕ) (h : History) (logs : ℕ → List LogEntry) (j : ℕ) (es l : List LogEntry) → IsQuiet es → Judged h (es ++ l) → AreReplied buckets h logs j (es ++ l) →
    IsTidy l → IsTidy (es ++ l)
tidy_quiet buckets h logs j [] l n d g k = k
tidy_quiet buckets h logs j (Wrote r image ∷ es) l n d g k = ((d.0, g.0.1), tidy_quiet buckets h logs j es l n d.1 g.1 k)
tidy_quiet buckets h logs j (Saw t low high b rows ∷ es) l n d g k = (tt, tidy_quiet buckets h logs j es l n d.1 g.1 k)
tidy_quiet buckets h logs j (Refused r a ∷ es) l n d g k = (tt, tidy_quiet buckets h logs j es l n d.1 g.1 k)
tidy_quiet buckets h logs j (Outside t ∷ es) l n d g k = (tt, tidy_quiet buckets h logs j es l n d.1 g.1 k)
tidy_quiet buckets h logs j (_ ∷ es) l n d g k = absurd n

plain_quiet : (es l : List LogEntry) → IsQuiet es → is_plain (es ++ l) ≡ is_plain l
plain_quiet [] l n = refl
plain_quiet (Wrote r image ∷ es) l n = plain_quiet es l n
plain_quiet (Saw t low high b rows ∷ es) l n = plain_quiet es l n
plain_quiet (Refused r a ∷ es) l n = plain_quiet es l n
plain_quiet (Outside t ∷ es) l n = plain_quiet es l n
plain_quiet (_ ∷ es) l n = absurd n

tidy_close : (h : History) (o : Option ℕ) (l : List LogEntry) → Judged h (close o ++ l) → IsTidy l → IsTidy (close o ++ l)
tidy_close h None l d k = (d.0.none, k)
tidy_close h (Some n) l d k = (d.0.none, ((d.1.0.opened, d.1.0.plain), k))

plain_close : (o : Option ℕ) (l : List LogEntry) → is_plain (close o ++ l) ≡ true
plain_close None l = refl
plain_close (Some n) l = refl

-- ---- a line

-- a log between two statements
abbrev pub IsTidyBetween : List LogEntry → Type 0
IsTidyBetween l = IsTidy l × (is_plain l ≡ true)

access_tidy : (buckets : ℕ) (h : History) (logs : ℕ → List LogEntry) (j : ℕ) (u : Unprinted) (own : List Write) (s : Statement) (reply : Reply) (l : List LogEntry) (b : Bool) →
    is_access s ≡ true → FitsAnswer buckets u own s reply.answer → IsTidyBetween l → Judged h (log_with b buckets u s reply l) →
    AreReplied buckets h logs j (log_with b buckets u s reply l) → IsTidyBetween (log_with b buckets u s reply l)
access_tidy buckets h logs j u own s reply l false e f k d g =
    let quiet : IsQuiet (own_entries buckets u s reply.answer) = quiet_access buckets u own s reply.answer f e in
    (tidy_quiet buckets h logs j (own_entries buckets u s reply.answer) l quiet d g k.0, plain_quiet (own_entries buckets u s reply.answer) l quiet ∙ k.1)
access_tidy buckets h logs j u own s reply l true e f k d g =
    let quiet : IsQuiet (own_entries buckets u s reply.answer) = quiet_access buckets u own s reply.answer f e in
    let l0 : List LogEntry = Began (unwrap_or reply.at 0) (only (table_of s)) ∷ l in
    let d0 : Judged h (own_entries buckets u s reply.answer ++ l0) = close_judged h reply.number (own_entries buckets u s reply.answer ++ l0) d in
    let g0 : AreReplied buckets h logs j (own_entries buckets u s reply.answer ++ l0) = close_replied buckets h logs j reply.number (own_entries buckets u s reply.answer ++ l0) g in
    let began : IsTidy l0 = ((append_judged h (own_entries buckets u s reply.answer) l0 d0).0.alone, k.0) in (
      tidy_close h reply.number (own_entries buckets u s reply.answer ++ l0) d (tidy_quiet buckets h logs j (own_entries buckets u s reply.answer) l0 quiet d0 g0 began),
      plain_close
          reply.number (own_entries buckets u s reply.answer ++ l0),
    )

begin_tidy : (h : History) (scope : Scope) (a : Answer) (l : List LogEntry) → IsBegun a → IsTidyBetween l → Judged h (begin_entries scope a ++ l) → IsTidyBetween (begin_entries scope a ++ l)
begin_tidy h scope (Begun n) l f k d = ((d.0.alone, k.0), refl)
begin_tidy h scope _ l f k d = absurd f

commit_tidy : (h : History) (a : Answer) (l : List LogEntry) → IsTidyBetween l → Judged h (commit_entries a ++ l) → IsTidyBetween (commit_entries a ++ l)
commit_tidy h (Committed n) l k d = (tidy_close h (Some n) l d k.0, refl)
commit_tidy h _ l k d = (tidy_close h None l d k.0, refl)

line_tidy : (buckets : ℕ) (h : History) (logs : ℕ → List LogEntry) (j : ℕ) (u : Unprinted) (s : Statement) (reply : Reply) (l : List LogEntry) → Fits buckets u l s reply →
    IsTidyBetween l → Judged h (log_after buckets u s reply l) → AreReplied buckets h logs j (log_after buckets u s reply l) → IsTidyBetween (log_after buckets u s reply l)
line_tidy buckets h logs j u (Get r) reply l f k d g = access_tidy buckets h logs j u (own_writes l) (Get r) reply l (is_alone (current l) (Get r)) refl f.answer k d g
line_tidy buckets h logs j u (Put r row) reply l f k d g = access_tidy buckets h logs j u (own_writes l) (Put r row) reply l (is_alone (current l) (Put r row)) refl f.answer k d g
line_tidy buckets h logs j u (Del r) reply l f k d g = access_tidy buckets h logs j u (own_writes l) (Del r) reply l (is_alone (current l) (Del r)) refl f.answer k d g
line_tidy buckets h logs j u (Scan t low high) reply l f k d g = access_tidy buckets h logs j u (own_writes l) (Scan t low high) reply l (is_alone (current l) (Scan t low high)) refl f.answer k d g
line_tidy buckets h logs j u (Begin scope) reply l f k d g = let e = plain_after buckets u (Begin scope) reply l refl in
    subst IsTidyBetween e (begin_tidy h scope reply.answer l f.answer k (subst (Judged h) (sym e) d))
line_tidy buckets h logs j u (CursorOpen table low high) reply l f k d g = let e = plain_after buckets u (CursorOpen table low high) reply l refl in
    subst IsTidyBetween e (begin_tidy h (only (Some table)) reply.answer l f.answer k (subst (Judged h) (sym e) d))
line_tidy buckets h logs j u (Fetch n) reply l f k d g =
    let e = plain_after buckets u (Fetch n) reply l refl in
    let quiet = quiet_fetch buckets u.rest u.part u.looked reply.answer in
    subst IsTidyBetween e (
      tidy_quiet buckets h logs j (fetch_entries buckets u.rest u.part u.looked reply.answer) l quiet (subst (Judged h) (sym e) d)
          (subst (AreReplied buckets h logs j) (sym e) g) k.0,
      plain_quiet (fetch_entries buckets u.rest u.part u.looked reply.answer) l quiet ∙ k.1,
    )
line_tidy buckets h logs j u CursorClose reply l f k d g = let e = plain_after buckets u CursorClose reply l refl in subst IsTidyBetween e (tidy_close h None l (subst (Judged h) (sym e) d) k.0, refl)
line_tidy buckets h logs j u CommitIt reply l f k d g = let e = plain_after buckets u CommitIt reply l refl in subst IsTidyBetween e (commit_tidy h reply.answer l k (subst (Judged h) (sym e) d))
line_tidy buckets h logs j u Rollback reply l f k d g = let e = plain_after buckets u Rollback reply l refl in subst IsTidyBetween e (tidy_rollback u.undone l k.1 f.answer.1 k.0, refl)
line_tidy buckets h logs j u (Gc kind) reply l f k d g = let e = plain_after buckets u (Gc kind) reply l refl in subst IsTidyBetween e k

-- ---- all lines

pub follows_tidy : (buckets : ℕ) (h : History) (all_logs : ℕ → List LogEntry) (P : (ℕ → List LogEntry) → Record → Line → Type 0) (rs : List Record) (lines : List Line)
    (logs final : ℕ → List LogEntry) (left : ℕ → Option Rest) → Follows buckets P logs left rs lines final → ((j : ℕ) → Judged h (final j)) →
    ((j : ℕ) → AreReplied buckets h all_logs j (final j)) → ((j : ℕ) → IsTidyBetween (logs j)) → (j : ℕ) → IsTidyBetween (final j)
follows_tidy buckets h all_logs P [] [] logs final left f d g k j = subst IsTidyBetween (sym (f j)) (k j)
follows_tidy buckets h all_logs P [] (line ∷ lines) logs final left f d g k j = absurd f
follows_tidy buckets h all_logs P (r ∷ rs) [] logs final left f d g k j = absurd f
follows_tidy buckets h all_logs P (r ∷ rs) (line ∷ lines) logs final left f d g k j =
    let after : List LogEntry = log_after buckets f.1.0 r.statement line.reply (logs r.session) in
    let next : ℕ → List LogEntry = put logs r.session after in
    let judged : Judged h after = subst (Judged h) (put_here logs r.session after) (follows_first (λ j l. Judged h l) (judged_less h) buckets P rs lines next final
    (put left r.session (rest_after r.statement line.reply.answer (left r.session))) f.1.2 d r.session) in
    let replied : AreReplied buckets h all_logs r.session after = subst (AreReplied buckets h all_logs r.session) (put_here logs r.session after)
    (follows_first (AreReplied buckets h all_logs) (replied_less buckets h all_logs) buckets P rs lines next final
    (put left r.session (rest_after r.statement line.reply.answer (left r.session))) f.1.2 g r.session) in
    follows_tidy buckets h all_logs P rs lines next final (put left r.session (rest_after r.statement line.reply.answer (left r.session))) f.1.2 d g
    (by_number r.session (λ i b. IsTidyBetween (if b then after else logs i)) (line_tidy buckets h all_logs r.session f.1.0 r.statement line.reply (logs r.session) f.1.1
    (k r.session) judged replied) (λ i e. k i)) j

-- ---- as they are closed

pub closed_tidy : (l m : List LogEntry) → Closes l m → IsTidyBetween l → IsTidy m × (current m ≡ None)
closed_tidy l m (inl k) t = (subst IsTidy (sym k.1) t.0, subst (λ x. current x ≡ None) (sym k.1) k.0)
closed_tidy l m (inr k) t = (subst IsTidy (sym k.1.2) (tidy_rollback k.1.0 l t.1 k.1.1 t.0), ap current k.1.2)
