-- A session's transaction or cursor is open after some records exactly where their lines show that one is. So `at` is printed only
-- where a get, put, del or scan stands alone.
use Rattle.std.proofs.Common.{◌≡◌, ℕ, List, [], ◌∷◌, ◌++◌, Bool, true, false, Option, Some, None, refl, sym, ap, ◌∙◌, subst}
use Rattle.std.specs.Prelude.{cond, not, is_some, unwrap_or, IsTrue, if◌then◌else◌, nat_lt, ◌==◌, ◌&&◌}
use Rattle.std.proofs.lemmas.Bool.Decides.{Decides-eqb, Decides-ltb}
use Rattle.hg_base.specs.declared.report.Kind.{Kind}
use Rattle.hg_base.specs.declared.statement.Statement.{Statement}
use Rattle.hg_base.specs.declared.statement.Statement.TheVariants.{Begin, Get, Put, Del, Scan, CursorOpen, Fetch, CursorClose, Commit as CommitIt, Rollback, Gc}
use Rattle.hg_base.specs.declared.statement.Record.{Record}
use Rattle.hg_base.specs.declared.line.Line.{Line}
use Rattle.hg_base.specs.declared.line.Reply.{Reply}
use Rattle.hg_base.specs.Lists.{Each}
use Rattle.hg_base.specs.Transcript.{Said, said, said_after, said_from, standing, last_of, open_of, open_after, next_after, ends, is_end, begun, table_of}
use Rattle.hg_base.proofs.ListFacts.{cases, false_true}
use Rattle.hg_core.specs.Answered.{is_gc}
use Rattle.hg_headline.proofs.Orderly.{Orderly, orderly_step, last_is_now, next_over}
use Rattle.hg_headline.proofs.Whole.{said_says}
use Rattle.hg_headline.proofs.Words.{none_is_not_some, same_number}
use Rattle.hg_script.specs.Lawful.{HasWidths, MayStand}
use Rattle.hg_script.specs.Rules.{is_open, is_reading, opened, reading}
use Rattle.hg_exact.specs.Opening.{AreOpen}
use Rattle.hg_exact.proofs.InOrder.{AreInTurn}
use Rattle.hg_exact.proofs.OpenAfter.{held, open_other, open_own, open_step, reads_held, within_held}

-- the lines before show which transactions and cursors the records before leave open
abbrev pub ShowsOpen : List Record → List Said → Type 0
ShowsOpen done earlier = (j : ℕ) → AreOpen (is_open j done) (is_reading j done) (is_some (open_of j earlier))

-- whether it begins a transaction, as `begin` and `open` do
abbrev pub begins : Statement → Bool
begins (Begin scope) = true
begins (CursorOpen table low high) = true
begins _ = false

-- A line that prints its snapshot is that of a get, put, del or scan outside a transaction, and a `begin` or `open` prints that of
-- its transaction. The numbers of the statement have their widths.
pub record IsStanding (now : Said) : Type 0 where
  pub alone : now.alone ≡ true → (now.at ≡ unwrap_or now.reply.at 0) × IsTrue (is_some (table_of now.statement))
  pub begun : begins now.statement ≡ true → now.at ≡ begun now.reply
  pub widths : HasWidths now.statement

-- ---- one line of a session, by its statement

the_last : (last : Option Said) (s : Said) → open_after last ≡ Some s → last ≡ Some s
the_last None s k = absurd (none_is_not_some s k)
the_last (Some l) s k = go (ends l) k
  where
    go : (b : Bool) → (if b then None else Some l) ≡ Some s → Some l ≡ Some s
    go true q = absurd (none_is_not_some s q)
    go false q = q

module _ (earlier : List Said) (r : Record) (reply : Reply) (orderly : Orderly r.session earlier) where
  abbrev last : Option Said
  last = last_of r.session earlier

  abbrev stands : Option Said → Said
  stands o = standing o (next_after last) r reply

  next_some : nat_lt 0 (next_after last) ≡ true
  next_some = (Decides-ltb 0 (next_after last)).1 (next_over last)

  has_number : (o : Option Said) → open_after last ≡ o → nat_lt 0 (stands o).transaction ≡ true
  has_number None e = next_some
  has_number (Some s) e = orderly.numbered s (the_last last s e)

  goes_on : (o : Option Said) → is_end r.statement ≡ false → is_some o ≡ not (ends (stands o))
  goes_on None e = refl
  goes_on (Some s) e = sym (ap not e)

  is_over : (o : Option Said) → is_end r.statement ≡ true → false ≡ not (ends (stands o))
  is_over None e = refl
  is_over (Some s) e = sym (ap not e)

  -- the line has a transaction, and leaves it open where the statement does
  abbrev Leaves : Statement → Type 0
  Leaves s = (nat_lt 0 (said_after last r reply s).transaction ≡ true) × (held (is_some (open_after last)) s ≡ not (ends (said_after last r reply s)))

  leaves : (s : Statement) → r.statement ≡ s → is_gc s ≡ false → Leaves s
  leaves (Begin scope) e g = (next_some, sym (ap (λ s. not (is_end s)) e))
  leaves (CursorOpen t low high) e g = (next_some, sym (ap (λ s. not (is_end s)) e))
  leaves (Get x) e g = (has_number (open_after last) refl, goes_on (open_after last) (ap is_end e))
  leaves (Put x row) e g = (has_number (open_after last) refl, goes_on (open_after last) (ap is_end e))
  leaves (Del x) e g = (has_number (open_after last) refl, goes_on (open_after last) (ap is_end e))
  leaves (Scan t low high) e g = (has_number (open_after last) refl, goes_on (open_after last) (ap is_end e))
  leaves (Fetch n) e g = (has_number (open_after last) refl, goes_on (open_after last) (ap is_end e))
  leaves CursorClose e g = (has_number (open_after last) refl, is_over (open_after last) (ap is_end e))
  leaves CommitIt e g = (has_number (open_after last) refl, is_over (open_after last) (ap is_end e))
  leaves Rollback e g = (has_number (open_after last) refl, is_over (open_after last) (ap is_end e))
  leaves (Gc kind) e g = absurd (false_true (sym g))

  abbrev IsAlone : Said → Type 0
  IsAlone now = now.alone ≡ true → (now.at ≡ unwrap_or now.reply.at 0) × IsTrue (is_some (table_of now.statement))

  on_table : (o : Option Said) → IsTrue (is_some (table_of r.statement)) → IsAlone (stands o)
  on_table None t a = (refl, t)
  on_table (Some s) t a = absurd (false_true a)

  inside : (o : Option Said) → IsTrue (is_some o) → IsAlone (stands o)
  inside None may a = absurd (false_true may)
  inside (Some s) may a = absurd (false_true a)

  is_alone : (s : Statement) (within reads : Bool) → r.statement ≡ s → AreOpen within reads (is_some (open_after last)) → MayStand within reads s → IsAlone (said_after last r reply s)
  is_alone (Begin scope) within reads e held may a = absurd (false_true a)
  is_alone (CursorOpen t low high) within reads e held may a = absurd (false_true a)
  is_alone (Get x) within reads e held may a = on_table (open_after last) (ap (λ s. is_some (table_of s)) e) a
  is_alone (Put x row) within reads e held may a = on_table (open_after last) (ap (λ s. is_some (table_of s)) e) a
  is_alone (Del x) within reads e held may a = on_table (open_after last) (ap (λ s. is_some (table_of s)) e) a
  is_alone (Scan t low high) within reads e held may a = on_table (open_after last) (ap (λ s. is_some (table_of s)) e) a
  is_alone (Fetch n) within reads e held may a = inside (open_after last) (reads_held within reads (is_some (open_after last)) held may) a
  is_alone CursorClose within reads e held may a = inside (open_after last) (reads_held within reads (is_some (open_after last)) held may) a
  is_alone CommitIt within reads e held may a = inside (open_after last) (within_held within reads (is_some (open_after last)) held may).1 a
  is_alone Rollback within reads e held may a = inside (open_after last) (within_held within reads (is_some (open_after last)) held may).1 a
  is_alone (Gc kind) within reads e held may a = absurd (false_true a)

  is_other : (s : Statement) → r.statement ≡ s → begins s ≡ false → begins (said_after last r reply s).statement ≡ true → ⊥
  is_other s e none k = false_true (sym none ∙ ap begins (sym e ∙ sym (said_says last r reply s).1) ∙ k)

  at_begun : (s : Statement) → r.statement ≡ s → begins (said_after last r reply s).statement ≡ true → (said_after last r reply s).at ≡ begun (said_after last r reply s).reply
  at_begun (Begin other) e k = refl
  at_begun (CursorOpen t low high) e k = refl
  at_begun (Get x) e k = absurd (is_other (Get x) e refl k)
  at_begun (Put x row) e k = absurd (is_other (Put x row) e refl k)
  at_begun (Del x) e k = absurd (is_other (Del x) e refl k)
  at_begun (Scan t low high) e k = absurd (is_other (Scan t low high) e refl k)
  at_begun (Fetch n) e k = absurd (is_other (Fetch n) e refl k)
  at_begun CursorClose e k = absurd (is_other CursorClose e refl k)
  at_begun CommitIt e k = absurd (is_other CommitIt e refl k)
  at_begun Rollback e k = absurd (is_other Rollback e refl k)
  at_begun (Gc kind) e k = absurd (is_other (Gc kind) e refl k)

  line_stands : (within reads : Bool) → AreOpen within reads (is_some (open_after last)) → MayStand within reads r.statement → HasWidths r.statement → IsStanding (said earlier r reply)
  line_stands within reads held may widths =
      let same = (said_says last r reply r.statement).1 in record {
        alone = is_alone r.statement within reads refl held may;
        begun = at_begun r.statement refl;
        widths = subst HasWidths (sym same) widths;
      }

-- ---- one record more

opens_now : (earlier : List Said) (now : Said) → nat_lt 0 now.transaction ≡ true → is_some (open_of now.session (now ∷ earlier)) ≡ not (ends now)
opens_now earlier now k = ap (λ l. is_some (open_after l)) (last_is_now now.session earlier now (same_number now.session) k) ∙ go (ends now)
  where
    go : (b : Bool) → is_some (if b then None else Some now) ≡ not b
    go true = refl
    go false = refl

-- a `gc` leaves each transaction and each cursor as it was
shows_gc : (done : List Record) (earlier : List Said) (r : Record) (reply : Reply) (kind : Kind) → r.statement ≡ Gc kind → ShowsOpen done earlier →
    ShowsOpen (done ++ r ∷ []) (said earlier r reply ∷ earlier)
shows_gc done earlier r reply kind is shows j =
    let line : Said = said earlier r reply in
    let none : line.transaction ≡ 0 = ap (λ s. (said_after (last_of r.session earlier) r reply s).transaction) is in
    let kept : last_of j (line ∷ earlier) ≡ last_of j earlier = ap (λ n. cond ((line.session == j) && nat_lt 0 n) (Some line) (last_of j earlier)) none ∙
    outside (line.session == j) (Some line) (last_of j earlier) in
    let same = cases (r.session == j) own (open_other j done r) in
    subst (λ p. p) (λ i. AreOpen (sym same.0 i) (sym same.1 i) (is_some (open_after (sym kept i)))) (shows j)
  where
    outside : (b : Bool) (x y : Option Said) → cond (b && false) x y ≡ y
    outside true x y = refl
    outside false x y = refl

    own : (r.session == j) ≡ true → (is_open j (done ++ r ∷ []) ≡ is_open j done) × (is_reading j (done ++ r ∷ []) ≡ is_reading j done)
    own e =
        let k = open_own j done r ((Decides-eqb r.session j).0 e) in
        (k.0 ∙ ap (opened (is_open j done)) is, k.1 ∙ ap (reading (is_reading j done)) is)

pub gc_of : (s : Statement) → is_gc s ≡ true → (kind : Kind) × (s ≡ Gc kind)
gc_of (Gc kind) e = (kind, refl)
gc_of (Begin scope) e = absurd (false_true e)
gc_of (Get x) e = absurd (false_true e)
gc_of (Put x row) e = absurd (false_true e)
gc_of (Del x) e = absurd (false_true e)
gc_of (Scan t low high) e = absurd (false_true e)
gc_of (CursorOpen t low high) e = absurd (false_true e)
gc_of (Fetch n) e = absurd (false_true e)
gc_of CursorClose e = absurd (false_true e)
gc_of CommitIt e = absurd (false_true e)
gc_of Rollback e = absurd (false_true e)

shows_own : (done : List Record) (earlier : List Said) (r : Record) (reply : Reply) → Orderly r.session earlier → is_gc r.statement ≡ false →
    MayStand (is_open r.session done) (is_reading r.session done) r.statement → ShowsOpen done earlier → ShowsOpen (done ++ r ∷ []) (said earlier r reply ∷ earlier)
shows_own done earlier r reply orderly other_word may shows j = cases (r.session == j) (λ e. subst Shows ((Decides-eqb r.session j).0 e) own) other
  where
    Shows : ℕ → Type 0
    Shows i = AreOpen (is_open i (done ++ r ∷ [])) (is_reading i (done ++ r ∷ [])) (is_some (open_of i (said earlier r reply ∷ earlier)))

    own : Shows r.session
    own =
        let by : (said earlier r reply).session ≡ r.session = (said_says (last_of r.session earlier) r reply r.statement).0 in
        let left = leaves earlier r reply orderly r.statement refl other_word in
        let same = open_own r.session done r refl in
        let now : held (is_some (open_of r.session earlier)) r.statement ≡ is_some (open_of r.session (said earlier r reply ∷ earlier)) =
        left.1 ∙ subst (λ i. not (ends (said earlier r reply)) ≡ is_some (open_of i (said earlier r reply ∷ earlier))) by (sym (opens_now earlier (said earlier r reply) left.0)) in
        subst (λ p. p) (λ i. AreOpen (sym same.0 i) (sym same.1 i) (now i))
        (open_step r.statement (is_open r.session done) (is_reading r.session done) (is_some (open_of r.session earlier)) (shows r.session) may)

    other : (r.session == j) ≡ false → Shows j
    other e =
        let line : Said = said earlier r reply in
        let apart : (line.session == j) ≡ false = ap (λ i. i == j) (said_says (last_of r.session earlier) r reply r.statement).0 ∙ e in
        let kept : last_of j (line ∷ earlier) ≡ last_of j earlier = ap (λ b. cond (b && nat_lt 0 line.transaction) (Some line) (last_of j earlier)) apart in
        let same = open_other j done r e in
        subst (λ p. p) (λ i. AreOpen (sym same.0 i) (sym same.1 i) (is_some (open_after (sym kept i)))) (shows j)

pub shows_more : (done : List Record) (earlier : List Said) (r : Record) (reply : Reply) → Orderly r.session earlier →
    MayStand (is_open r.session done) (is_reading r.session done) r.statement → ShowsOpen done earlier → ShowsOpen (done ++ r ∷ []) (said earlier r reply ∷ earlier)
shows_more done earlier r reply orderly may shows =
    cases (is_gc r.statement)
    (λ yes. let k = gc_of r.statement yes in shows_gc done earlier r reply k.0 k.1 shows)
    (λ no. shows_own done earlier r reply orderly no may shows)

-- ---- all lines

pub all_stand : (all before rs : List Record) (lines : List Line) (earlier : List Said) → AreInTurn all before rs → Each (λ r. HasWidths r.statement) rs →
    ((j : ℕ) → Orderly j earlier) → ShowsOpen before earlier → Each IsStanding (said_from earlier rs lines)
all_stand all before [] lines earlier turn widths orderly shows = tt
all_stand all before (r ∷ rs) [] earlier turn widths orderly shows = tt
all_stand all before (r ∷ rs) (line ∷ lines) earlier turn widths orderly shows = (
  line_stands earlier r line.reply (orderly r.session) (is_open r.session before) (is_reading r.session before) (shows r.session) turn.0.may widths.0,
  all_stand all (before ++ r ∷ []) rs lines (said earlier r line.reply ∷ earlier) turn.1 widths.1 (orderly_step earlier r line.reply orderly)
      (shows_more before earlier r line.reply (orderly r.session) turn.0.may shows),
)
