-- Between two lines, the writes that the logs took back are the first writes of the transactions that a line rolled back.
use Rattle.std.proofs.Common.{◌≡◌, ◌⊎◌, inl, inr, ℕ, suc, ◌+◌, ◌<◌, ◌≤◌, List, [], ◌∷◌, ◌++◌, length, map, Bool, true, false, Option, Some, None, refl, sym, ap, ◌∙◌, subst, arith}
use Rattle.std.specs.Prelude.{◌==◌, ◌&&◌, ◌||◌, cond, filter, if◌then◌else◌, nat_lt, IsSome, is_some, is_none}
use Rattle.std.proofs.lemmas.Bool.Decides.{nat_tests}
use Rattle.hg_base.specs.declared.rid.Rid.{Rid}
use Rattle.hg_base.specs.declared.scope.Snapshot.{Snapshot}
use Rattle.hg_base.specs.declared.statement.Record.{Record}
use Rattle.hg_base.specs.declared.statement.Statement.{Statement}
use Rattle.hg_base.specs.declared.statement.Statement.TheVariants.{Begin, Get, Put, Del, Scan, Commit as CommitIt, Rollback, Gc, CursorOpen, Fetch, CursorClose}
use Rattle.hg_base.specs.declared.line.Reply.{Reply}
use Rattle.hg_base.specs.declared.line.Line.{Line}
use Rattle.hg_base.specs.Lists.{onto}
use Rattle.hg_base.specs.Script.{Mode}
use Rattle.hg_base.specs.History.{Write, History, image_in}
use Rattle.hg_base.specs.Transcript.{Said, Rest, last_of, open_of, next_after, standing, said, said_from, stored, rest_after}
use Rattle.hg_base.specs.Transcript.{own_writes as own_before}
use Rattle.hg_base.proofs.Resting.{ShowsRest}
use Rattle.hg_core.specs.declared.log.LogEntry.{LogEntry}
use Rattle.hg_core.specs.declared.log.LogEntry.TheVariants.{Began, Saw, Refused, Outside, Wrote, Undid, Published, Over}
use Rattle.hg_core.specs.Logs.{current, begans, own_writes}
use Rattle.hg_core.specs.Contents.{bucket_of}
use Rattle.hg_core.specs.Judged.{Judged}
use Rattle.hg_core.specs.Replies.{AreReplied}
use Rattle.hg_core.specs.Events.{put}
use Rattle.hg_core.specs.Counters.{undos}
use Rattle.hg_core.specs.Reading.{Unprinted, log_with, log_after, UndoesAll, Fits, Follows}
use Rattle.hg_core.proofs.Answering.{not_alone}
use Rattle.hg_core.proofs.Indices.{by_number, put_here}
use Rattle.hg_headline.specs.Counted.{every}
use Rattle.hg_headline.proofs.Words.{true_false, same_number}
use Rattle.hg_headline.proofs.EndLines.{undone_current}
use Rattle.hg_headline.proofs.Entries.{record_of}
use Rattle.hg_headline.proofs.Firsts.{one_if, first_by, first_with, first_more, first_adds, first_undone, line_counted}
use Rattle.hg_headline.proofs.Lefts.{left_step}
use Rattle.hg_headline.proofs.LineParts.{Right, AsCollected}
use Rattle.hg_headline.proofs.Lines.{line_right}
use Rattle.hg_headline.proofs.Tallying.{undos_undone}
use Rattle.hg_headline.proofs.Ties.{Ties, StandsIn, ties_other}
use Rattle.hg_headline.proofs.Whole.{follows_first, judged_less, replied_less, differs_from, said_says}
use Rattle.hg_base.specs.Script.{Script, replay}
use Rattle.hg_base.specs.Sound.{all_said}
use Rattle.hg_base.specs.Counts.{first_writes}
use Rattle.hg_base.specs.Transcript.{history_of}
use Rattle.hg_base.proofs.ListFacts.{each_keeps}
use Rattle.hg_base.proofs.Resting.{left_nothing}
use Rattle.hg_core.specs.Counters.{first_writes as counted_writes}
use Rattle.hg_core.specs.Sums.{sum_to}
use Rattle.hg_core.proofs.Right.{places_of}
use Rattle.hg_core.proofs.Sums.{sum_same, sum_none}
use Rattle.hg_headline.specs.Counted.{made_in, undone_in}
use Rattle.hg_headline.specs.Met.{IsMet}
use Rattle.hg_headline.specs.Replayed.{HasReplayed}
use Rattle.hg_headline.proofs.Firsts.{first_writes_is, passes, CountsFor, lines_counted}
use Rattle.hg_headline.proofs.Replaying.{met_collected}
use Rattle.hg_headline.proofs.Ties.{ties_nothing}
use Rattle.hg_exact.specs.SoFar.{is_rollback, made_so_far, undone_so_far}
use Rattle.hg_run.proofs.TakenBack.{rolled, first_last, first_or, rolled_back, rolled_here, rolled_not, rolled_other, undone_many, undos_line}

-- ---- a line

-- what a session's lines rolled back is what its log took back, and nothing of its last transaction where that is open
pub record RolledBack (j : ℕ) (earlier : List Said) (l : List LogEntry) : Type 0 where
  pub same : first_by (λ x. rolled j x earlier) l ≡ undos every l
  pub none : (x : ℕ) → begans l < x → rolled j x earlier ≡ false
  pub goes : IsSome (current l) → rolled j (begans l) earlier ≡ false

pub rolled_nothing : (j : ℕ) → RolledBack j [] []
rolled_nothing j = record { same = refl; none = λ x h. refl; goes = λ c. refl }

-- a line in a transaction: the one that is open, or the next
abbrev Stood : ℕ → List LogEntry → Type 0
Stood x l = ((x ≡ begans l) × IsSome (current l)) ⊎ (x ≡ suc (begans l))

stood : (j : ℕ) (earlier : List Said) (l : List LogEntry) (r : Record) (reply : Reply) → Ties j earlier l →
    Stood (standing (open_of j earlier) (next_after (last_of j earlier)) r reply).transaction l
stood j earlier l r reply t = go (open_of j earlier) (current l) refl t.standing
  where
    go : (o : Option Said) (c : Option Snapshot) → current l ≡ c → StandsIn o c (begans l) → Stood (standing o (next_after (last_of j earlier)) r reply).transaction l
    go None None e s = inr t.next
    go None (Some c) e s = absurd s
    go (Some opened) None e s = absurd s
    go (Some opened) (Some c) e s = inl (s.0, ap is_some e)

some_begun : (l : List LogEntry) → IsSome (current l) → 0 < begans l
some_begun [] c = absurd (true_false (sym c))
some_begun (Began at scope ∷ l) c = omega arith
some_begun (Over ∷ l) c = absurd (true_false (sym c))
some_begun (Wrote r image ∷ l) c = some_begun l c
some_begun (Published n ∷ l) c = some_begun l c
some_begun (Saw t low high b rows ∷ l) c = some_begun l c
some_begun (Refused r a ∷ l) c = some_begun l c
some_begun (Outside t ∷ l) c = some_begun l c
some_begun (Undid r ∷ l) c = some_begun l c

-- it is the last then
last_begun : (j : ℕ) (earlier : List Said) (now : Said) (l after : List LogEntry) → Ties j (now ∷ earlier) after → (now.session == j) ≡ true → Stood now.transaction l →
    begans after ≡ now.transaction
last_begun j earlier now l after t mine st =
    let some : nat_lt 0 now.transaction ≡ true = over st in
    let last : last_of j (now ∷ earlier) ≡ Some now = ap (λ b. cond (b && nat_lt 0 now.transaction) (Some now) (last_of j earlier)) mine ∙ ap (λ b. cond b (Some now) (last_of j earlier)) some in
    let e : suc now.transaction ≡ suc (begans after) = sym (ap next_after last) ∙ t.next in
    omega (arith, e)
  where
    over : Stood now.transaction l → nat_lt 0 now.transaction ≡ true
    over (inl k) = let some = some_begun l k.1 in let e = k.0 in grind (arith, nat_tests, some, e)
    over (inr e) = grind (arith, nat_tests, e)

none_rolled : (j x : ℕ) (earlier : List Said) (l : List LogEntry) → RolledBack j earlier l → Stood x l → rolled j x earlier ≡ false
none_rolled j x earlier l h (inl k) = ap (λ y. rolled j y earlier) k.0 ∙ h.goes k.1
none_rolled j x earlier l h (inr e) = h.none x (omega (arith, e))

stood_over : (x y : ℕ) (l : List LogEntry) → Stood x l → x < y → begans l < y
stood_over x y l (inl k) h = let e = k.0 in omega (arith, e, h)
stood_over x y l (inr e) h = omega (arith, e, h)

no_more : (test : ℕ → Bool) (x : ℕ) (own : List Write) (o : Option Write) → test x ≡ false → first_more test x own o ≡ 0
no_more test x own None e = refl
no_more test x own (Some w) e = ap (λ b. one_if (b && is_none (image_in w.rid own))) e

-- one that is no rollback
rolled_inside : (j : ℕ) (earlier : List Said) (now : Said) (own : List Write) (o : Option Write) (l after : List LogEntry) → is_rollback now.statement ≡ false → begans after ≡ now.transaction →
    Stood now.transaction l → ((test : ℕ → Bool) → first_by test after ≡ first_with test now.transaction own o (first_by test l)) → undos every after ≡ undos every l →
    RolledBack j earlier l → RolledBack j (now ∷ earlier) after
rolled_inside j earlier now own o l after plain last st firsts undo h = record {
  same =
      ap (λ (test : ℕ → Bool). first_by test after) (λ i x. rolled_not j x now earlier plain i) ∙ firsts (λ x. rolled j x earlier)
      ∙ first_adds (λ x. rolled j x earlier) now.transaction own o (first_by (λ x. rolled j x earlier) l)
      ∙ plus_none (first_by (λ x. rolled j x earlier) l) (first_more (λ x. rolled j x earlier) now.transaction own o)
      (no_more (λ x. rolled j x earlier) now.transaction own o (none_rolled j now.transaction earlier l h st)) ∙ h.same ∙ sym undo;
  none = λ x less. rolled_not j x now earlier plain ∙ h.none x (stood_over now.transaction x l st (subst (λ n. n < x) last less));
  goes = λ c. ap (λ x. rolled j x (now ∷ earlier)) last ∙ rolled_not j now.transaction now earlier plain ∙ none_rolled j now.transaction earlier l h st;
}
  where
    plus_none : (a b : ℕ) → b ≡ 0 → a + b ≡ a
    plus_none a b e = omega (arith, e)

-- a rollback
rolled_taken : (j : ℕ) (earlier : List Said) (now : Said) (undone : List Rid) (l : List LogEntry) → (now.session == j) ≡ true → is_rollback now.statement ≡ true →
    begans (Over ∷ (map Undid undone ++ l)) ≡ now.transaction → Stood now.transaction l → IsSome (current l) → UndoesAll (own_writes l) undone →
    RolledBack j earlier l → RolledBack j (now ∷ earlier) (Over ∷ (map Undid undone ++ l))
rolled_taken j earlier now undone l mine is last st opened all h =
    let x : ℕ = now.transaction in
    let same : x ≡ begans l = sym last ∙ begans_undone undone in
    let test : ℕ → Bool = λ y. rolled j y earlier in
    let of_last : first_by (λ y. x == y) l ≡ length undone = ap (λ n. first_by (λ y. n == y) l) same ∙ first_last l opened ∙ sym (undone_many (own_writes l) undone all) in
    let both = first_or x test l (none_rolled j x earlier l h st) in
    let undo = undos_undone undone l in
    let before = h.same in
    record {
      same = ap (λ (test : ℕ → Bool). first_by test (map Undid undone ++ l)) (λ i y. rolled_here j y now earlier mine is i) ∙ first_undone (λ y. (x == y) || test y) undone l ∙
          sums (first_by (λ y. (x == y) || test y) l) (first_by (λ y. x == y) l) (first_by test l) (length undone) (undos every l) (undos every (map Undid undone ++ l)) both of_last before undo;
      none = λ y less. (let e : (x == y) ≡ false = other y (subst (λ n. n < y) last less) in rolled_here j y now earlier mine is ∙ ap (λ b. b || rolled j y earlier) e ∙
          h.none y (stood_over x y l st (subst (λ n. n < y) last less)));
      goes = λ c. absurd (true_false (sym c));
    }
  where
    begans_undone : (rids : List Rid) → begans (map Undid rids ++ l) ≡ begans l
    begans_undone [] = refl
    begans_undone (r ∷ rids) = begans_undone rids

    sums : (a b c n m k : ℕ) → a ≡ b + c → b ≡ n → c ≡ m → k ≡ m + n → a ≡ k
    sums a b c n m k p q r s = omega (arith, p, q, r, s)

    other : (y : ℕ) → now.transaction < y → (now.transaction == y) ≡ false
    other y less = grind (arith, nat_tests, less)

-- a `gc` stands in no transaction
rolled_beside : (j : ℕ) (earlier : List Said) (now : Said) (l : List LogEntry) → is_rollback now.statement ≡ false → RolledBack j earlier l → RolledBack j (now ∷ earlier) l
rolled_beside j earlier now l plain h = record {
  same = ap (λ (test : ℕ → Bool). first_by test l) (λ i x. rolled_not j x now earlier plain i) ∙ h.same;
  none = λ x less. rolled_not j x now earlier plain ∙ h.none x less;
  goes = λ c. rolled_not j (begans l) now earlier plain ∙ h.goes c;
}

-- one that begins no transaction of its own, or is one of its own
rolled_standing : (h : History) (buckets : ℕ) (earlier : List Said) (u : Unprinted) (l : List LogEntry) (place j : ℕ) (s : Statement) (reply : Reply) → is_rollback s ≡ false →
    Stood (said earlier (record_of place j s) reply).transaction l → Ties j earlier l → Ties j (said earlier (record_of place j s) reply ∷ earlier) (log_after buckets u s reply l) →
    Fits buckets u l s reply → RolledBack j earlier l → RolledBack j (said earlier (record_of place j s) reply ∷ earlier) (log_after buckets u s reply l)
rolled_standing h buckets earlier u l place j s reply plain st t t' f k =
    let now : Said = said earlier (record_of place j s) reply in
    let says = said_says (last_of j earlier) (record_of place j s) reply s in
    let mine : (now.session == j) ≡ true = ap (λ n. n == j) says.0 ∙ same_number j in
    rolled_inside j earlier now (own_before earlier now) (stored now) l (log_after buckets u s reply l) (ap is_rollback says.1 ∙ plain) (last_begun j earlier now l (log_after buckets u s reply l) t' mine st) st
    (λ test. line_counted test buckets earlier u l place j s reply t f) (undos_line buckets u s reply l f plain) k

rolled_line : (h : History) (buckets : ℕ) (earlier : List Said) (u : Unprinted) (l : List LogEntry) (place j : ℕ) (s : Statement) (reply : Reply) → Ties j earlier l →
    Ties j (said earlier (record_of place j s) reply ∷ earlier) (log_after buckets u s reply l) → Fits buckets u l s reply → Judged h (log_after buckets u s reply l) → RolledBack j earlier l →
    RolledBack j (said earlier (record_of place j s) reply ∷ earlier) (log_after buckets u s reply l)
rolled_line h buckets earlier u l place j (Gc kind) reply t t' f d k =
    let now : Said = said earlier (record_of place j (Gc kind)) reply in
    subst (RolledBack j (now ∷ earlier)) (sym (ap (λ b. log_with b buckets u (Gc kind) reply l) (not_alone (current l) (Gc kind) refl))) (rolled_beside j earlier now l refl k)
rolled_line h buckets earlier u l place j Rollback reply t t' f d k =
    let now : Said = said earlier (record_of place j Rollback) reply in
    let is : log_after buckets u Rollback reply l ≡ Over ∷ (map Undid u.undone ++ l) = ap (λ b. log_with b buckets u Rollback reply l) (not_alone (current l) Rollback refl) in
    let says = said_says (last_of j earlier) (record_of place j Rollback) reply Rollback in
    let mine : (now.session == j) ≡ true = ap (λ n. n == j) says.0 ∙ same_number j in
    let st : Stood now.transaction l = stood j earlier l (record_of place j Rollback) reply t in
    let judged : Judged h (Over ∷ (map Undid u.undone ++ l)) = subst (Judged h) is d in
    let opened : IsSome (current l) = sym (ap is_some (undone_current u.undone l)) ∙ judged.0.opened in
    subst (RolledBack j (now ∷ earlier)) (sym is) (rolled_taken j earlier now u.undone l mine (ap is_rollback says.1)
    (last_begun j earlier now l (Over ∷ (map Undid u.undone ++ l)) (subst (Ties j (now ∷ earlier)) is t') mine st) st opened f.answer.1 k)
rolled_line h buckets earlier u l place j (Begin scope) reply t t' f d k = rolled_standing h buckets earlier u l place j (Begin scope) reply refl (inr t.next) t t' f k
rolled_line h buckets earlier u l place j (CursorOpen table low high) reply t t' f d k =
    rolled_standing h buckets earlier u l place j (CursorOpen table low high) reply refl (inr t.next) t t' f k
rolled_line h buckets earlier u l place j (Get r) reply t t' f d k =
    rolled_standing h buckets earlier u l place j (Get r) reply refl (stood j earlier l (record_of place j (Get r)) reply t) t t' f k
rolled_line h buckets earlier u l place j (Put r row) reply t t' f d k =
    rolled_standing h buckets earlier u l place j (Put r row) reply refl (stood j earlier l (record_of place j (Put r row)) reply t) t t' f k
rolled_line h buckets earlier u l place j (Del r) reply t t' f d k =
    rolled_standing h buckets earlier u l place j (Del r) reply refl (stood j earlier l (record_of place j (Del r)) reply t) t t' f k
rolled_line h buckets earlier u l place j (Scan table low high) reply t t' f d k =
    rolled_standing h buckets earlier u l place j (Scan table low high) reply refl (stood j earlier l (record_of place j (Scan table low high)) reply t) t t' f k
rolled_line h buckets earlier u l place j (Fetch n) reply t t' f d k =
    rolled_standing h buckets earlier u l place j (Fetch n) reply refl (stood j earlier l (record_of place j (Fetch n)) reply t) t t' f k
rolled_line h buckets earlier u l place j CursorClose reply t t' f d k =
    rolled_standing h buckets earlier u l place j CursorClose reply refl (stood j earlier l (record_of place j CursorClose) reply t) t t' f k
rolled_line h buckets earlier u l place j CommitIt reply t t' f d k =
    rolled_standing h buckets earlier u l place j CommitIt reply refl (stood j earlier l (record_of place j CommitIt) reply t) t t' f k

rolled_elsewhere : (j : ℕ) (earlier : List Said) (now : Said) (l : List LogEntry) → (now.session == j) ≡ false → RolledBack j earlier l → RolledBack j (now ∷ earlier) l
rolled_elsewhere j earlier now l e h = record {
  same = ap (λ (test : ℕ → Bool). first_by test l) (λ i x. rolled_other j x now earlier e i) ∙ h.same;
  none = λ x less. rolled_other j x now earlier e ∙ h.none x less;
  goes = λ c. rolled_other j (begans l) now earlier e ∙ h.goes c;
}

-- ---- all lines

pub lines_rolled : (mode : Mode) (buckets : ℕ) (h k : History) (all_logs : ℕ → List LogEntry) (all : List Said) (P : (ℕ → List LogEntry) → Record → Line → Type 0) →
    ((r : Rid) → bucket_of buckets r < buckets) → ((logs : ℕ → List LogEntry) (r : Record) (line : Line) → P logs r line → AsCollected mode r.session r.statement line.reply.answer) →
    (rs : List Record) (lines : List Line) (logs final : ℕ → List LogEntry) (earlier : List Said) → ((j : ℕ) → Ties j earlier (logs j)) → (left : ℕ → Option Rest) →
    ((j : ℕ) → ShowsRest j earlier (left j)) → Follows buckets P logs left rs lines final → ((j : ℕ) → Judged h (final j)) → ((j : ℕ) → AreReplied buckets h all_logs j (final j)) →
    ((j : ℕ) → RolledBack j earlier (logs j)) → (j : ℕ) → RolledBack j (onto (said_from earlier rs lines) earlier) (final j)
lines_rolled mode buckets h k all_logs all P places gc [] [] logs final earlier t left shown f d g b j = subst (RolledBack j earlier) (sym (f j)) (b j)
lines_rolled mode buckets h k all_logs all P places gc [] (line ∷ lines) logs final earlier t left shown f d g b j = absurd f
lines_rolled mode buckets h k all_logs all P places gc (r ∷ rs) [] logs final earlier t left shown f d g b j = absurd f
lines_rolled mode buckets h k all_logs all P places gc (r ∷ rs) (line ∷ lines) logs final earlier t left shown f d g b i =
    let now : Said = said earlier r line.reply in
    let l : List LogEntry = logs r.session in
    let after : List LogEntry = log_after buckets f.1.0 r.statement line.reply l in
    let next : ℕ → List LogEntry = put logs r.session after in
    let judged : Judged h after = subst (Judged h) (put_here logs r.session after) (follows_first (λ j l. Judged h l) (judged_less h) buckets P rs lines next final
    (put left r.session (rest_after r.statement line.reply.answer (left r.session))) f.1.2 d r.session) in
    let replied : AreReplied buckets h all_logs r.session after = subst (AreReplied buckets h all_logs r.session) (put_here logs r.session after)
    (follows_first (AreReplied buckets h all_logs) (replied_less buckets h all_logs) buckets P rs lines next final
    (put left r.session (rest_after r.statement line.reply.answer (left r.session))) f.1.2 g r.session) in
    let right : Right h all_logs mode k all earlier now r.session after =
    line_right mode buckets h k all_logs all earlier f.1.0 l r.place r.session r.statement line.reply places (t r.session) f.1.1 (gc logs r line f.0) judged replied
    (left r.session) (shown r.session) f.1.3 in
    let says = said_says (last_of r.session earlier) r line.reply r.statement in
    lines_rolled mode buckets h k all_logs all P places gc rs lines next final (now ∷ earlier)
    (by_number r.session (λ i b. Ties i (now ∷ earlier) (if b then after else logs i)) right.ties
    (λ i e. ties_other i earlier now (logs i) (differs_from now.session r.session i says.0 e) (t i)))
    (put left r.session (rest_after r.statement line.reply.answer (left r.session))) (left_step earlier r line.reply left shown) f.1.2 d g
    (by_number r.session (λ i b. RolledBack i (now ∷ earlier) (if b then after else logs i))
    (rolled_line h buckets earlier f.1.0 l r.place r.session r.statement line.reply (t r.session) right.ties f.1.1 judged (b r.session))
    (λ i e. rolled_elsewhere i earlier now (logs i) (differs_from now.session r.session i says.0 e) (b i))) i

-- ---- a replay so far

all_pass : {X : Type 0} (xs : List X) → filter (λ x. true) xs ≡ xs
all_pass [] = refl
all_pass (x ∷ xs) = ap (λ ys. x ∷ ys) (all_pass xs)

module _ (buckets sessions top : ℕ) (h : History) (logs : ℕ → List LogEntry) (script : Script) (lines : List Line) (r : HasReplayed buckets sessions h logs top script.records lines) where
  abbrev all : List Said
  all = said_from [] script.records lines

  gc : (ls : ℕ → List LogEntry) (q : Record) (line : Line) → IsMet sessions ls q line → AsCollected replay q.session q.statement line.reply.answer
  gc ls q line m = met_collected sessions q.session ls q.statement line.reply.answer m

  counted : (test : ℕ → ℕ → Bool) → sum_to sessions (λ j. first_by (test j) (logs j)) ≡ length (filter (passes test) (first_writes all))
  counted test =
      let n = lines_counted replay buckets sessions h (history_of all) logs all test (IsMet sessions) (places_of buckets r.logged.some) gc script.records lines (λ j. []) logs []
      (λ j. ties_nothing j) (λ j. None) (λ j. left_nothing j)
      (each_keeps (λ (q : Record). (1 ≤ q.session) × (q.session ≤ sessions)) (CountsFor sessions) (λ q k. inl k) script.records r.within) r.follows r.logged.judged r.logged.replied in
      none_before _ _ _ (sum_none sessions) n
    where
      none_before : (m n z : ℕ) → z ≡ 0 → m + z ≡ n → n ≡ m
      none_before m n z e f = omega (arith, e, f)

  pub made_said : made_in sessions logs ≡ made_so_far (all_said replay script lines)
  made_said =
      sum_same sessions (λ j. first_by (λ x. true) (logs j)) (λ j. counted_writes every (logs j)) (λ j le. first_writes_is (logs j)) ∙ counted (λ j x. true) ∙ ap length (all_pass (first_writes all))

  pub undone_said : undone_in sessions logs ≡ undone_so_far (all_said replay script lines)
  undone_said =
      let back = lines_rolled replay buckets h (history_of all) logs all (IsMet sessions) (places_of buckets r.logged.some) gc script.records lines (λ j. []) logs []
      (λ j. ties_nothing j) (λ j. None) (λ j. left_nothing j) r.follows r.logged.judged r.logged.replied (λ j. rolled_nothing j) in
      sum_same sessions (λ j. first_by (λ x. rolled j x all) (logs j)) (λ j. undos every (logs j)) (λ j le. sym (back j).same
      ∙ ap (λ (test : ℕ → Bool). first_by test (logs j)) (λ i x. rolled_back j x all i)) ∙ counted (λ j x. rolled j x all)
