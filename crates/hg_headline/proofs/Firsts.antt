-- The first writes of records in transactions: those that lines print are those that logs have.
use Rattle.std.proofs.Common.{◌⊎◌, inl, inr, ◌≡◌, not, ℕ, ◌+◌, ◌<◌, ◌≤◌, List, [], ◌∷◌, ◌++◌, length, map, Bool, true, false, Option, Some, None, refl, sym, ap, ◌∙◌, subst, arith, zero, suc}
use Rattle.std.specs.Prelude.{is_some, ◌&&◌, cond, filter, if◌then◌else◌, IsTrue, is_none, unwrap_or}
use Rattle.std.specs.List.{cons_option}
use Rattle.std.specs.Option.{option_map_or}
use Rattle.hg_base.specs.declared.rid.Rid.{Rid}
use Rattle.hg_base.specs.declared.image.Image.{Image}
use Rattle.hg_base.specs.declared.rid.TableId.{TableId}
use Rattle.hg_base.specs.declared.scope.Snapshot.{Snapshot}
use Rattle.hg_base.specs.declared.statement.Record.{Record}
use Rattle.hg_base.specs.declared.statement.Statement.{Statement}
use Rattle.hg_base.specs.declared.statement.Statement.TheVariants.{Begin, Get, Put, Del, Scan, Commit as CommitIt, Rollback, Gc, CursorOpen, Fetch, CursorClose}
use Rattle.hg_base.specs.declared.line.Answer.{Answer}
use Rattle.hg_base.specs.declared.line.Answer.TheVariants.{Begun, Stored, Found, Nothing, Gone, Rows, Committed, Newer, OpenBy, Undeclared}
use Rattle.hg_base.specs.declared.line.Reply.{Reply}
use Rattle.hg_base.specs.declared.line.Line.{Line}
use Rattle.hg_base.specs.declared.value.Value.{Value}
use Rattle.hg_base.specs.Lists.{Each}
use Rattle.hg_base.specs.Script.{Mode}
use Rattle.hg_base.specs.History.{Write, History, image_in}
use Rattle.hg_base.specs.Transcript.{Said, last_of, open_of, next_after, standing, said, said_from, only, table_of, stored, stored_by, Rest, rest_after}
use Rattle.hg_base.specs.Transcript.{own_writes as own_before}
use Rattle.hg_base.specs.Counts.{first_writes_from}
use Rattle.hg_core.specs.declared.log.LogEntry.{LogEntry}
use Rattle.hg_core.specs.declared.log.LogEntry.TheVariants.{Began, Saw, Refused, Outside, Wrote, Undid, Published, Over}
use Rattle.hg_core.specs.Logs.{current, begans, own_writes}
use Rattle.hg_core.specs.Contents.{bucket_of}
use Rattle.hg_core.specs.Judged.{Judged}
use Rattle.hg_core.specs.Replies.{AreReplied}
use Rattle.hg_core.specs.Events.{put}
use Rattle.hg_core.specs.Sums.{sum_to}
use Rattle.hg_core.specs.Counters.{first_writes}
use Rattle.hg_core.specs.Reading.{Unprinted, saws, own_entries, is_access, is_alone, close, log_with, log_after, FitsAnswer, Fits, Follows, looks, fetch_entries}
use Rattle.hg_core.proofs.OwnKeys.{saws_keep}
use Rattle.hg_core.proofs.Answering.{not_alone}
use Rattle.hg_core.proofs.Indices.{by_number, at_index, put_here, put_else}
use Rattle.hg_core.proofs.Sums.{sum_same, sum_grown}
use Rattle.hg_headline.specs.Counted.{every}
use Rattle.hg_headline.proofs.Words.{true_false}
use Rattle.hg_headline.proofs.Ties.{Ties, StandsIn, ties_other}
use Rattle.hg_headline.proofs.Ended.{writes_above}
use Rattle.hg_headline.proofs.Entries.{record_of}
use Rattle.hg_base.proofs.Resting.{ShowsRest}
use Rattle.hg_headline.proofs.LineParts.{Right, AsCollected, above, inside_own}
use Rattle.hg_headline.proofs.Lines.{line_right}
use Rattle.hg_headline.proofs.Lefts.{left_step}
use Rattle.hg_headline.proofs.Whole.{follows_first, judged_less, replied_less, differs_from, said_says}

abbrev pub one_if : Bool → ℕ
one_if true = 1
one_if false = 0

-- how many writes in a log are the first of their record, in transactions that pass a test
abbrev pub first_by : (ℕ → Bool) → List LogEntry → ℕ
first_by test [] = 0
first_by test (Wrote r image ∷ log) = one_if (test (begans log) && is_none (image_in r (own_writes log))) + first_by test log
first_by test (_ ∷ log) = first_by test log

-- and with one write more
abbrev pub first_with : (ℕ → Bool) → ℕ → List Write → Option Write → ℕ → ℕ
first_with test x own None rest = rest
first_with test x own (Some w) rest = one_if (test x && is_none (image_in w.rid own)) + rest

-- those of all transactions
first_of : (o : Option Image) → one_if (true && is_none o) ≡ (if true && not (is_some o) then 1 else 0)
first_of None = refl
first_of (Some i) = refl

pub first_writes_is : (l : List LogEntry) → first_writes every l ≡ first_by (λ x. true) l
first_writes_is [] = refl
first_writes_is (Wrote r image ∷ l) = λ i. sym (first_of (image_in r (own_writes l))) i + first_writes_is l i
first_writes_is (Began at scope ∷ l) = first_writes_is l
first_writes_is (Published n ∷ l) = first_writes_is l
first_writes_is (Saw t low high b rows ∷ l) = first_writes_is l
first_writes_is (Refused r a ∷ l) = first_writes_is l
first_writes_is (Outside t ∷ l) = first_writes_is l
first_writes_is (Undid r ∷ l) = first_writes_is l
first_writes_is (Over ∷ l) = first_writes_is l

-- ---- the entries of a statement

pub first_saws : (test : ℕ → Bool) (buckets : ℕ) (t : TableId) (low high : ℕ) (part : ℕ → List (ℕ × List Value)) (n : ℕ) (l : List LogEntry) →
    first_by test (saws buckets t low high part n ++ l) ≡ first_by test l
first_saws test buckets t low high part n l = saws_keep (λ m. first_by test m ≡ first_by test l) buckets t low high part n l (λ b rows m e. e) refl

pub first_access : (test : ℕ → Bool) (buckets : ℕ) (u : Unprinted) (own : List Write) (s : Statement) (a : Answer) (l : List LogEntry) → IsTrue (is_access s) →
    FitsAnswer buckets u own s a → first_by test (own_entries buckets u s a ++ l) ≡ first_with test (begans l) (own_writes l) (stored_by s a) (first_by test l)
first_access test buckets u own (Get r) (Found row) l e f = refl
first_access test buckets u own (Get r) Nothing l e f = refl
first_access test buckets u own (Get r) (Undeclared t) l e f = refl
first_access test buckets u own (Get r) _ l e f = absurd f
first_access test buckets u own (Put r row) Stored l e f = refl
first_access test buckets u own (Put r row) (Newer n) l e f = refl
first_access test buckets u own (Put r row) (OpenBy w) l e f = refl
first_access test buckets u own (Put r row) (Undeclared t) l e f = refl
first_access test buckets u own (Put r row) _ l e f = absurd f
first_access test buckets u own (Del r) Nothing l e f = refl
first_access test buckets u own (Del r) Gone l e f = refl
first_access test buckets u own (Del r) (Newer n) l e f = refl
first_access test buckets u own (Del r) (OpenBy w) l e f = refl
first_access test buckets u own (Del r) (Undeclared t) l e f = refl
first_access test buckets u own (Del r) _ l e f = absurd f
first_access test buckets u own (Scan t low high) (Rows rows) l e f = first_saws test buckets t low high u.part buckets l
first_access test buckets u own (Scan t low high) (Undeclared other) l e f = refl
first_access test buckets u own (Scan t low high) _ l e f = absurd f
first_access test buckets u own _ a l e f = absurd (true_false (sym e))

pub first_close : (test : ℕ → Bool) (o : Option ℕ) (l : List LogEntry) → first_by test (close o ++ l) ≡ first_by test l
first_close test None l = refl
first_close test (Some n) l = refl

pub first_undone : (test : ℕ → Bool) (rids : List Rid) (l : List LogEntry) → first_by test (map Undid rids ++ l) ≡ first_by test l
first_undone test [] l = refl
first_undone test (r ∷ rids) l = first_undone test rids l

first_looks : (test : ℕ → Bool) (buckets : ℕ) (t : TableId) (low high : ℕ) (part : ℕ → List (ℕ × List Value)) (n : ℕ) (l : List LogEntry) →
    first_by test (looks buckets t low high part n ++ l) ≡ first_by test l
first_looks test buckets t low high part zero l = refl
first_looks test buckets t low high part (suc n) l = first_looks test buckets t low high part n l

first_fetch : (test : ℕ → Bool) (buckets : ℕ) (rest : Option Rest) (part : ℕ → List (ℕ × List Value)) (looked : ℕ) (a : Answer) (l : List LogEntry) →
    first_by test (fetch_entries buckets rest part looked a ++ l) ≡ first_by test l
first_fetch test buckets (Some rest) part looked (Rows rows) l = first_looks test buckets rest.table rest.low rest.high part looked l
first_fetch test buckets (Some rest) part looked _ l = refl
first_fetch test buckets None part looked a l = refl

-- the entries of another statement have no write
pub first_plain : (test : ℕ → Bool) (buckets : ℕ) (u : Unprinted) (s : Statement) (a : Answer) (l : List LogEntry) → is_access s ≡ false →
    (first_by test (own_entries buckets u s a ++ l) ≡ first_by test l) × (stored_by s a ≡ None)
first_plain test buckets u (Begin scope) (Begun n) l e = (refl, refl)
first_plain test buckets u (Begin scope) _ l e = (refl, refl)
first_plain test buckets u (CursorOpen table low high) (Begun n) l e = (refl, refl)
first_plain test buckets u (CursorOpen table low high) _ l e = (refl, refl)
first_plain test buckets u (Fetch n) a l e = (first_fetch test buckets u.rest u.part u.looked a l, refl)
first_plain test buckets u CursorClose a l e = (refl, refl)
first_plain test buckets u CommitIt (Committed n) l e = (refl, refl)
first_plain test buckets u CommitIt _ l e = (refl, refl)
first_plain test buckets u Rollback a l e = (first_undone test u.undone l, refl)
first_plain test buckets u (Gc kind) a l e = (refl, refl)
first_plain test buckets u (Get r) a l e = absurd (true_false e)
first_plain test buckets u (Put r row) a l e = absurd (true_false e)
first_plain test buckets u (Del r) a l e = absurd (true_false e)
first_plain test buckets u (Scan t low high) a l e = absurd (true_false e)

-- ---- a line

-- a line's write comes to those of its session's log
abbrev pub IsCountedLine : (ℕ → Bool) → List Said → Said → List LogEntry → List LogEntry → Type 0
IsCountedLine test earlier now l after = first_by test after ≡ first_with test now.transaction (own_before earlier now) (stored now) (first_by test l)

pub line_access : (test : ℕ → Bool) (buckets : ℕ) (earlier : List Said) (u : Unprinted) (l : List LogEntry) (place j : ℕ) (s : Statement) (reply : Reply) → Ties j earlier l →
    is_access s ≡ true → FitsAnswer buckets u (own_writes l) s reply.answer →
    (o : Option Said) (c : Option Snapshot) → open_of j earlier ≡ o → current l ≡ c → StandsIn o c (begans l) →
    IsCountedLine test earlier (standing o (next_after (last_of j earlier)) (record_of place j s) reply) l (log_with (is_alone c s) buckets u s reply l)
line_access test buckets earlier u l place j s reply ties e f None (Some c) p q st = absurd st
line_access test buckets earlier u l place j s reply ties e f (Some opened) None p q st = absurd st
line_access test buckets earlier u l place j s reply ties e f (Some opened) (Some c) p q st =
    let now : Said = standing (Some opened) (next_after (last_of j earlier)) (record_of place j s) reply in
    first_access test buckets u (own_writes l) s reply.answer l e f ∙
    (λ i. first_with test (sym st.0 i) (sym (inside_own j earlier l c now ties refl st.0 q) i) (stored_by s reply.answer) (first_by test l))
line_access test buckets earlier u l place j s reply ties e f None None p q st =
    let nxt : ℕ = next_after (last_of j earlier) in
    let now : Said = standing None nxt (record_of place j s) reply in
    let l0 : List LogEntry = Began (unwrap_or reply.at 0) (only (table_of s)) ∷ l in
    let fresh : own_before earlier now ≡ [] = ties.own nxt ∙ writes_above nxt l (above nxt (begans l) ties.next) in
    ap (λ b. first_by test (log_with b buckets u s reply l)) e ∙ first_close test reply.number (own_entries buckets u s reply.answer ++ l0) ∙
    first_access test buckets u (own_writes l) s reply.answer l0 e f
    ∙ (λ i. first_with test (sym ties.next i) (sym fresh i) (stored_by s reply.answer) (first_by test l))

pub first_with_none : (test : ℕ → Bool) (x : ℕ) (own : List Write) (o : Option Write) (rest : ℕ) → o ≡ None → rest ≡ first_with test x own o rest
first_with_none test x own o rest e = ap (λ p. first_with test x own p rest) (sym e)

pub line_plain : (test : ℕ → Bool) (buckets : ℕ) (earlier : List Said) (u : Unprinted) (l : List LogEntry) (r : Record) (reply : Reply) → is_access r.statement ≡ false →
    IsCountedLine test earlier (said earlier r reply) l (log_after buckets u r.statement reply l)
line_plain test buckets earlier u l r reply e =
    let now : Said = said earlier r reply in
    let says = said_says (last_of r.session earlier) r reply r.statement in
    let plain = first_plain test buckets u r.statement reply.answer l e in
    ap (λ b. first_by test (log_with b buckets u r.statement reply l)) (not_alone (current l) r.statement e) ∙ plain.0
    ∙ first_with_none test now.transaction (own_before earlier now) (stored now) (first_by test l) ((λ i. stored_by (says.1 i) (says.2 i).answer) ∙ plain.1)

pub line_counted : (test : ℕ → Bool) (buckets : ℕ) (earlier : List Said) (u : Unprinted) (l : List LogEntry) (place j : ℕ) (s : Statement) (reply : Reply) → Ties j earlier l →
    Fits buckets u l s reply → IsCountedLine test earlier (said earlier (record_of place j s) reply) l (log_after buckets u s reply l)
line_counted test buckets earlier u l place j (Get r) reply ties f = line_access test buckets earlier u l place j (Get r) reply ties refl f.answer (open_of j earlier)
    (current l) refl refl ties.standing
line_counted test buckets earlier u l place j (Put r row) reply ties f = line_access test buckets earlier u l place j (Put r row) reply ties refl f.answer (open_of j earlier)
    (current l) refl refl ties.standing
line_counted test buckets earlier u l place j (Del r) reply ties f = line_access test buckets earlier u l place j (Del r) reply ties refl f.answer (open_of j earlier)
    (current l) refl refl ties.standing
line_counted test buckets earlier u l place j (Scan t low high) reply ties f = line_access test buckets earlier u l place j (Scan t low high) reply ties refl f.answer
    (open_of j earlier) (current l) refl refl ties.standing
line_counted test buckets earlier u l place j s reply ties f = line_plain test buckets earlier u l (record_of place j s) reply refl

-- ---- all lines

-- how much a write adds
abbrev pub first_more : (ℕ → Bool) → ℕ → List Write → Option Write → ℕ
first_more test x own None = 0
first_more test x own (Some w) = one_if (test x && is_none (image_in w.rid own))

pub first_adds : (test : ℕ → Bool) (x : ℕ) (own : List Write) (o : Option Write) (rest : ℕ) → first_with test x own o rest ≡ rest + first_more test x own o
first_adds test x own None rest = omega arith
first_adds test x own (Some w) rest = omega arith

pub filter_step : (p : Said → Bool) (now : Said) (own : List Write) (o : Option Write) (rest : List Said) (test : ℕ → Bool) → p now ≡ test now.transaction →
    length (filter p (cons_option (if option_map_or (λ w. is_none (image_in w.rid own)) o false then Some now else None) rest)) ≡ first_more test now.transaction own o + length (filter p rest)
filter_step p now own None rest test e = omega arith
filter_step p now own (Some w) rest test e = go (is_none (image_in w.rid own))
  where
    kept : (b : Bool) → length (cond b (now ∷ filter p rest) (filter p rest)) ≡ one_if (b && true) + length (filter p rest)
    kept true = omega arith
    kept false = omega arith

    dropped : (b : Bool) → length (filter p rest) ≡ one_if (b && false) + length (filter p rest)
    dropped true = omega arith
    dropped false = omega arith

    go : (b : Bool) → length (filter p (cons_option (if b then Some now else None) rest)) ≡ one_if (test now.transaction && b) + length (filter p rest)
    go true = kept (p now) ∙ ap (λ b. one_if (b && true) + length (filter p rest)) e
    go false = dropped (test now.transaction)

-- whether a line's transaction passes a test
abbrev pub passes : (ℕ → ℕ → Bool) → Said → Bool
passes test said = test said.session said.transaction

-- a record of a session that is counted, or one that neither reads nor writes
abbrev pub CountsFor : ℕ → Record → Type 0
CountsFor sessions r = ((1 ≤ r.session) × (r.session ≤ sessions)) ⊎ (is_access r.statement ≡ false)

no_write : (s : Statement) (a : Answer) → is_access s ≡ false → stored_by s a ≡ None
no_write (Get r) a e = absurd (true_false e)
no_write (Put r row) a e = absurd (true_false e)
no_write (Del r) a e = absurd (true_false e)
no_write (Scan t low high) a e = absurd (true_false e)
no_write _ a e = refl

-- a sum of which one number grows, or none
sum_with : (n j d : ℕ) (f g : ℕ → ℕ) {P : Type 0} → ((1 ≤ j) × (j ≤ n)) ⊎ P → (P → d ≡ 0) → ((k : ℕ) → (k ≡ j → ⊥) → g k ≡ f k) → g j ≡ f j + d → sum_to n g ≡ sum_to n f + d
sum_with n j d f g (inl w) none there here = sum_grown n j d f g w.0 w.1 there here
sum_with n j d f g (inr p) none there here =
    let zero_more : d ≡ 0 = none p in
    let same : sum_to n g ≡ sum_to n f = sum_same n f g (λ k le. at_index j (λ i. g i ≡ f i) (nothing_more (f j) (g j) d here zero_more) there k) in
    omega (arith, same, zero_more)
  where
    nothing_more : (a b c : ℕ) → b ≡ a + c → c ≡ 0 → b ≡ a
    nothing_more a b c e z = omega (arith, e, z)

pub lines_counted : (mode : Mode) (buckets sessions : ℕ) (h k : History) (all_logs : ℕ → List LogEntry) (all : List Said) (test : ℕ → ℕ → Bool) (P : (ℕ → List LogEntry) → Record →
    Line → Type 0) → ((r : Rid) → bucket_of buckets r < buckets) → ((logs : ℕ → List LogEntry) (r : Record) (line : Line) → P logs r line → AsCollected mode r.session r.statement line.reply.answer) →
    (rs : List Record) (lines : List Line) (logs final : ℕ → List LogEntry) (earlier : List Said) → ((j : ℕ) → Ties j earlier (logs j)) → (left : ℕ → Option Rest) →
    ((j : ℕ) → ShowsRest j earlier (left j)) → Each (CountsFor sessions) rs → Follows buckets P logs left rs lines final → ((j : ℕ) → Judged h (final j)) →
    ((j : ℕ) → AreReplied buckets h all_logs j (final j)) →
    length (filter (passes test) (first_writes_from earlier (said_from earlier rs lines))) + sum_to sessions (λ j. first_by (test j) (logs j)) ≡ sum_to sessions (λ j. first_by (test j) (final j))
lines_counted mode buckets sessions h k all_logs all test P places gc [] [] logs final earlier t left shown w f d g = let same = sum_same sessions
    (λ j. first_by (test j) (final j)) (λ j. first_by (test j) (logs j)) (λ j le. ap (first_by (test j)) (sym (f j))) in omega (arith, same)
lines_counted mode buckets sessions h k all_logs all test P places gc [] (line ∷ lines) logs final earlier t left shown w f d g = absurd f
lines_counted mode buckets sessions h k all_logs all test P places gc (r ∷ rs) [] logs final earlier t left shown w f d g = absurd f
lines_counted mode buckets sessions h k all_logs all test P places gc (r ∷ rs) (line ∷ lines) logs final earlier t left shown w f d g =
    let now : Said = said earlier r line.reply in
    let l : List LogEntry = logs r.session in
    let after : List LogEntry = log_after buckets f.1.0 r.statement line.reply l in
    let next : ℕ → List LogEntry = put logs r.session after in
    let judged : Judged h after = subst (Judged h) (put_here logs r.session after) (follows_first (λ j l. Judged h l) (judged_less h) buckets P rs lines next final
    (put left r.session (rest_after r.statement line.reply.answer (left r.session))) f.1.2 d r.session) in
    let replied : AreReplied buckets h all_logs r.session after = subst (AreReplied buckets h all_logs r.session) (put_here logs r.session after)
    (follows_first (AreReplied buckets h all_logs) (replied_less buckets h all_logs) buckets P rs lines next final
    (put left r.session (rest_after r.statement line.reply.answer (left r.session))) f.1.2 g r.session) in
    let right : Right h all_logs mode k all earlier now r.session after =
    line_right mode buckets h k all_logs all earlier f.1.0 l r.place r.session r.statement line.reply places (t r.session) f.1.1 (gc logs r line f.0) judged replied
    (left r.session) (shown r.session) f.1.3 in
    let says = said_says (last_of r.session earlier) r line.reply r.statement in
    let own : List Write = own_before earlier now in
    let more : ℕ = first_more (test now.session) now.transaction own (stored now) in
    let here : first_by (test r.session) (next r.session) ≡ first_by (test r.session) l + more =
    ap (first_by (test r.session)) (put_here logs r.session after) ∙ line_counted (test r.session) buckets earlier f.1.0 l r.place r.session r.statement line.reply (t r.session) f.1.1
    ∙ first_adds (test r.session) now.transaction own (stored now) (first_by (test r.session) l) ∙
    ap (λ j. first_by (test r.session) l + first_more (test j) now.transaction own (stored now)) (sym says.0) in
    let grown : sum_to sessions (λ j. first_by (test j) (next j)) ≡ sum_to sessions (λ j. first_by (test j) (logs j)) + more =
    sum_with sessions r.session more (λ j. first_by (test j) (logs j)) (λ j. first_by (test j) (next j)) w.0
    (λ e. ap (first_more (test now.session) now.transaction own) ((λ i. stored_by (says.1 i) (says.2 i).answer) ∙ no_write r.statement line.reply.answer e))
    (λ j z. ap (first_by (test j)) (put_else logs r.session j after z)) here in
    let rest = lines_counted mode buckets sessions h k all_logs all test P places gc rs lines next final (now ∷ earlier)
    (by_number r.session (λ i b. Ties i (now ∷ earlier) (if b then after else logs i)) right.ties
    (λ i e. ties_other i earlier now (logs i) (differs_from now.session r.session i says.0 e) (t i)))
    (put left r.session (rest_after r.statement line.reply.answer (left r.session))) (left_step earlier r line.reply left shown) w.1 f.1.2 d g in
    let step = filter_step (passes test) now own (stored now) (first_writes_from (now ∷ earlier) (said_from (now ∷ earlier) rs lines)) (test now.session) refl in
    omega (arith, step, grown, rest)
