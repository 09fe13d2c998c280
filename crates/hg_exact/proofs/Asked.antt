-- A script that breaks no rule has an answer to each of its statements.
use Rattle.std.proofs.Common.{◌≡◌, ℕ, ◌⊎◌, inl, inr, List, [], ◌∷◌, ◌++◌, Bool, true, false, Option, Some, None, refl, sym, ap, ◌∙◌, subst}
use Rattle.std.specs.Prelude.{◌==◌, ◌||◌, cond, fold, if◌then◌else◌, IsFalse, IsSome}
use Rattle.std.proofs.lemmas.Bool.{or_parts}
use Rattle.hg_base.specs.declared.statement.Record.{Record}
use Rattle.hg_base.specs.declared.statement.Statement.{Statement}
use Rattle.hg_base.specs.declared.statement.Statement.TheVariants.{Begin, Get, Put, Del, Scan, CursorOpen, Fetch, CursorClose, Commit as CommitIt, Rollback, Gc}
use Rattle.hg_base.specs.declared.line.Answer.{Answer}
use Rattle.hg_base.specs.declared.line.Answer.TheVariants.{Rows}
use Rattle.hg_base.specs.Lists.{Each}
use Rattle.hg_base.specs.Script.{Declaration, Script}
use Rattle.hg_base.specs.Transcript.{Rest, is_end, only, rest_after}
use Rattle.hg_core.proofs.Indices.{at_index, put_else, put_here}
use Rattle.hg_script.specs.Lawful.{AreInOrder, HasWidths, IsLawful, IsStatement, MayStand}
use Rattle.hg_script.specs.Rules.{is_open, is_reading, opened, opened_by, reading, reading_by}
use Rattle.hg_exact.specs.State.{Open, State, going, next, start}
use Rattle.hg_exact.specs.Answers.{answer_in}
use Rattle.hg_exact.specs.Lawful.{AreAnswered, MayAsk}
use Rattle.hg_exact.specs.Replayed.{stands, step}
use Rattle.hg_exact.proofs.Answering.{IsPlain}
use Rattle.hg_exact.proofs.Standing.{differs, same_number}

-- a session has a transaction open, or a cursor, or neither
abbrev pub IsHeld : Bool → Bool → Option Open → Type 0
IsHeld within reads None = (within ≡ false) × (reads ≡ false)
IsHeld within reads (Some o) = ((within ≡ true) × (reads ≡ false)) ⊎ ((within ≡ false) × (reads ≡ true) × IsSome o.rest)

true_not : true ≡ false → ⊥
true_not e = cc

-- ---- a statement that may stand may be asked

none_held : (within reads : Bool) (o : Open) → IsFalse (within || reads) → IsHeld within reads (Some o) → ⊥
none_held within reads o e (inl h) = true_not (sym h.0 ∙ (or_parts within reads e).0)
none_held within reads o e (inr h) = true_not (sym h.1 ∙ (or_parts within reads e).1)

pub may_ask : (within reads : Bool) (x : Option Open) (st : Statement) → IsHeld within reads x → MayStand within reads st → HasWidths st → MayAsk x st
may_ask within reads None (Fetch n) h m w = absurd (true_not (sym m ∙ h.1))
may_ask within reads (Some o) (Fetch n) (inl h) m w = absurd (true_not (sym m ∙ h.1))
may_ask within reads (Some o) (Fetch n) (inr h) m w = (w.0, h.2)
may_ask within reads (Some o) (Begin scope) h m w = none_held within reads o m h
may_ask within reads (Some o) (CursorOpen table low high) h m w = none_held within reads o m h
may_ask within reads None (Begin scope) h m w = tt
may_ask within reads None (CursorOpen table low high) h m w = tt
may_ask within reads None (Get r) h m w = tt
may_ask within reads None (Put r row) h m w = tt
may_ask within reads None (Del r) h m w = tt
may_ask within reads None (Scan table low high) h m w = tt
may_ask within reads None CursorClose h m w = tt
may_ask within reads None CommitIt h m w = tt
may_ask within reads None Rollback h m w = tt
may_ask within reads None (Gc kind) h m w = tt
may_ask within reads (Some o) (Get r) h m w = tt
may_ask within reads (Some o) (Put r row) h m w = tt
may_ask within reads (Some o) (Del r) h m w = tt
may_ask within reads (Some o) (Scan table low high) h m w = tt
may_ask within reads (Some o) CursorClose h m w = tt
may_ask within reads (Some o) CommitIt h m w = tt
may_ask within reads (Some o) Rollback h m w = tt
may_ask within reads (Some o) (Gc kind) h m w = tt

-- ---- what is held after a statement

fetch_some : (n : ℕ) (a : Answer) (x : Option Rest) → IsSome x → IsSome (rest_after (Fetch n) a x)
fetch_some n (Rows rows) None e = e
fetch_some n (Rows rows) (Some rest) e = refl
fetch_some n _ x e = e

none_after : (within reads : Bool) (st : Statement) → IsPlain st → (within ≡ false) × (reads ≡ false) → (opened within st ≡ false) × (reading reads st ≡ false)
none_after within reads (Begin scope) plain h = absurd plain
none_after within reads (CursorOpen table low high) plain h = absurd plain
none_after within reads (Gc kind) plain h = absurd plain
none_after within reads CommitIt plain h = (refl, h.1)
none_after within reads Rollback plain h = (refl, h.1)
none_after within reads CursorClose plain h = (h.0, refl)
none_after within reads (Get r) plain h = h
none_after within reads (Put r row) plain h = h
none_after within reads (Del r) plain h = h
none_after within reads (Scan table low high) plain h = h
none_after within reads (Fetch n) plain h = h

some_after : (within reads : Bool) (o p : Open) (st : Statement) (a : Answer) → IsPlain st → p.rest ≡ rest_after st a o.rest → IsHeld within reads (Some o) →
    MayStand within reads st → IsHeld (opened within st) (reading reads st) (if is_end st then None else Some p)
some_after within reads o p (Begin scope) a plain e h m = absurd plain
some_after within reads o p (CursorOpen table low high) a plain e h m = absurd plain
some_after within reads o p (Gc kind) a plain e h m = absurd plain
some_after within reads o p CommitIt a plain e (inl h) m = (refl, h.1)
some_after within reads o p CommitIt a plain e (inr h) m = absurd (true_not (sym m ∙ h.0))
some_after within reads o p Rollback a plain e (inl h) m = (refl, h.1)
some_after within reads o p Rollback a plain e (inr h) m = absurd (true_not (sym m ∙ h.0))
some_after within reads o p CursorClose a plain e (inl h) m = absurd (true_not (sym m ∙ h.1))
some_after within reads o p CursorClose a plain e (inr h) m = (h.0, refl)
some_after within reads o p (Fetch n) a plain e (inl h) m = inl h
some_after within reads o p (Fetch n) a plain e (inr h) m = inr (h.0, h.1, subst IsSome (sym e) (fetch_some n a o.rest h.2))
some_after within reads o p (Get r) a plain e (inl h) m = inl h
some_after within reads o p (Get r) a plain e (inr h) m = inr (h.0, h.1, subst IsSome (sym e) h.2)
some_after within reads o p (Put r row) a plain e (inl h) m = inl h
some_after within reads o p (Put r row) a plain e (inr h) m = inr (h.0, h.1, subst IsSome (sym e) h.2)
some_after within reads o p (Del r) a plain e (inl h) m = inl h
some_after within reads o p (Del r) a plain e (inr h) m = inr (h.0, h.1, subst IsSome (sym e) h.2)
some_after within reads o p (Scan table low high) a plain e (inl h) m = inl h
some_after within reads o p (Scan table low high) a plain e (inr h) m = inr (h.0, h.1, subst IsSome (sym e) h.2)

stands_held : (within reads : Bool) (s : State) (j : ℕ) (st : Statement) (x : Option Open) → s.opened j ≡ x → IsPlain st → IsHeld within reads x → MayStand within reads st →
    IsHeld (opened within st) (reading reads st) ((stands s j x st).1.opened j)
stands_held within reads s j st None e plain h m = subst (IsHeld (opened within st) (reading reads st)) (sym e) (none_after within reads st plain h)
stands_held within reads s j st (Some o) e plain h m =
    let p : Open = going o st (answer_in s o st) in
    subst (IsHeld (opened within st) (reading reads st)) (sym (put_here s.opened j (if is_end st then None else Some p))) (some_after within reads o p st (answer_in s o st) plain refl h m)

step_held : (within reads : Bool) (s : State) (j : ℕ) (st : Statement) → IsHeld within reads (s.opened j) → MayStand within reads st →
    IsHeld (opened within st) (reading reads st) ((step s j st).1.opened j)
step_held within reads s j (Begin scope) h m = subst (IsHeld true reads) (sym (put_here s.opened j (Some (next s j scope None)))) (inl (refl, (or_parts within reads m).1))
step_held within reads s j (CursorOpen table low high) h m =
    let o : Open = next s j (only (Some table)) (Some (record { table = table; low = low; high = high })) in
    subst (IsHeld within true) (sym (put_here s.opened j (Some o))) (inr ((or_parts within reads m).0, refl, refl))
step_held within reads s j (Gc kind) h m = h
step_held within reads s j st h m = stands_held within reads s j st (s.opened j) refl tt h m

stands_other : (s : State) (j k : ℕ) (x : Option Open) (st : Statement) → (k ≡ j → ⊥) → (stands s j x st).1.opened k ≡ s.opened k
stands_other s j k None st f = refl
stands_other s j k (Some o) st f = put_else s.opened j k _ f

step_other : (s : State) (j k : ℕ) (st : Statement) → (k ≡ j → ⊥) → (step s j st).1.opened k ≡ s.opened k
step_other s j k (Begin scope) f = put_else s.opened j k _ f
step_other s j k (CursorOpen table low high) f = put_else s.opened j k _ f
step_other s j k (Gc kind) f = refl
step_other s j k st f = stands_other s j k (s.opened j) st f

-- ---- record by record

open_snoc : (j : ℕ) (rs : List Record) (r : Record) → is_open j (rs ++ r ∷ []) ≡ opened_by j (is_open j rs) r
open_snoc j rs r = folds false rs
  where
    folds : (b : Bool) (rs : List Record) → fold (opened_by j) b (rs ++ r ∷ []) ≡ opened_by j (fold (opened_by j) b rs) r
    folds b [] = refl
    folds b (q ∷ rs) = folds (opened_by j b q) rs

reads_snoc : (j : ℕ) (rs : List Record) (r : Record) → is_reading j (rs ++ r ∷ []) ≡ reading_by j (is_reading j rs) r
reads_snoc j rs r = folds false rs
  where
    folds : (b : Bool) (rs : List Record) → fold (reading_by j) b (rs ++ r ∷ []) ≡ reading_by j (fold (reading_by j) b rs) r
    folds b [] = refl
    folds b (q ∷ rs) = folds (reading_by j b q) rs

abbrev pub Holds : List Record → State → ℕ → Type 0
Holds before s j = IsHeld (is_open j before) (is_reading j before) (s.opened j)

pub held_more : (before : List Record) (s : State) (r : Record) → ((j : ℕ) → Holds before s j) → MayStand (is_open r.session before) (is_reading r.session before) r.statement →
    (j : ℕ) → Holds (before ++ r ∷ []) (step s r.session r.statement).1 j
held_more before s r h m = at_index r.session (λ j. IsHeld (is_open j (before ++ r ∷ [])) (is_reading j (before ++ r ∷ [])) ((step s r.session r.statement).1.opened j))
    (subst (λ (p : Bool × Bool). IsHeld p.0 p.1 ((step s r.session r.statement).1.opened r.session)) (λ i. (sym own.0 i, sym own.1 i))
    (step_held (is_open r.session before) (is_reading r.session before) s r.session r.statement (h r.session) m))
    (λ j f. subst (λ (p : Bool × Bool × Option Open). IsHeld p.0 p.1 p.2) (λ i. (sym (other j f).0 i, sym (other j f).1 i, sym (step_other s r.session j r.statement f) i)) (h j))
  where
    own : (is_open r.session (before ++ r ∷ []) ≡ opened (is_open r.session before) r.statement) × (is_reading r.session (before ++ r ∷ []) ≡ reading (is_reading r.session before) r.statement)
    own = (
      open_snoc r.session before r ∙ ap (λ b. cond b (opened (is_open r.session before) r.statement) (is_open r.session before))
          (same_number r.session),
      reads_snoc r.session before r ∙ ap (λ b. cond b (reading (is_reading r.session before) r.statement) (is_reading r.session before)) (same_number r.session),
    )

    other : (j : ℕ) → (j ≡ r.session → ⊥) → (is_open j (before ++ r ∷ []) ≡ is_open j before) × (is_reading j (before ++ r ∷ []) ≡ is_reading j before)
    other j f =
        let t : (r.session == j) ≡ false = differs r.session j (λ g. f (sym g)) in (
          open_snoc j before r ∙ ap (λ b. cond b (opened (is_open j before) r.statement) (is_open j before)) t,
          reads_snoc j before r ∙
              ap (λ b. cond b (reading (is_reading j before) r.statement) (is_reading j before)) t,
        )

records_asked : (tables : List Declaration) (before rs : List Record) (s : State) → ((j : ℕ) → Holds before s j) → AreInOrder before rs → Each (IsStatement tables) rs → AreAnswered s rs
records_asked tables before [] s h order each = tt
records_asked tables before (r ∷ rs) s h order each = (
  each.0.some,
  may_ask (is_open r.session before) (is_reading r.session before) (s.opened r.session) r.statement (h r.session) order.0 each.0.widths,
  records_asked tables (before ++ r ∷ []) rs (step s r.session r.statement).1 (held_more before s r h order.0) order.1 each.1,
)

pub lawful_asked : (script : Script) → IsLawful script → (sessions : ℕ) → AreAnswered (start sessions) script.records
lawful_asked script lawful sessions = records_asked script.tables [] script.records (start sessions) (λ j. (refl, refl)) lawful.order lawful.statements
