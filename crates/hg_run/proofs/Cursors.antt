-- What becomes of the cursors of a list of sessions.
use Rattle.std.proofs.Common.{◌≡◌, ℕ, zero, suc, ◌<◌, ◌≤◌, ◌≢◌, List, [], ◌∷◌, ◌++◌, length, Bool, true, false, Option, Some, None, refl, sym, ap, ◌∙◌, subst, arith}
use Rattle.std.specs.Prelude.{get_or, nat_le, if◌then◌else◌, is_some, IsSome, IfSome}
use Rattle.std.proofs.lemmas.Bool.Decides.{nat_tests}
use Rattle.hg_base.specs.declared.rid.Rid.{Rid}
use Rattle.hg_base.specs.declared.statement.Statement.{Statement}
use Rattle.hg_base.specs.declared.statement.Statement.TheVariants.{Begin, Get, Put, Del, Scan, CursorOpen, Fetch, CursorClose, Commit as CommitIt, Rollback, Gc}
use Rattle.hg_base.specs.declared.statement.Record.{Record}
use Rattle.hg_base.specs.declared.line.Answer.TheVariants.{Rows}
use Rattle.hg_base.specs.declared.value.Value.{Value}
use Rattle.hg_base.specs.declared.line.Line.{Line}
use Rattle.hg_base.specs.declared.line.Reply.{Reply}
use Rattle.hg_base.specs.Shape.{HasShape}
use Rattle.hg_base.specs.Conflicts.{target}
use Rattle.hg_base.proofs.ListFacts.{if_some_keeps}
use Rattle.hg_core.specs.Shown.{reads_at}
use Rattle.hg_base.specs.Transcript.{Rest, rest_after}
use Rattle.hg_base.proofs.ListFacts.{false_true}
use Rattle.hg_core.specs.Events.{put}
use Rattle.hg_core.specs.Reading.{HasRest, left_after}
use Rattle.hg_core.proofs.Indices.{at_index, put_here, put_else}
use Rattle.hg_cursor.specs.declared.cursor.Cursor.{Cursor}
use Rattle.hg_cursor.specs.Cursors.{table_of, high_of, rest_of}
use Rattle.hg_cursor.specs.Given.{begins_at}
use Rattle.hg_rule.specs.declared.view.Sizes.{Sizes}
use Rattle.hg_script.specs.Lawful.{MayStand}
use Rattle.hg_script.specs.Rules.{is_reading, reading}
use Rattle.hg_session.specs.declared.session.Session.{Session}
use Rattle.hg_session.specs.Cursors.{FitsRest, HasLeft}
use Rattle.hg_session.specs.Firsts.{AnswersWrite, HasFirst}
use Rattle.hg_session.specs.Replies.{Answers, AnswersFrom, inside}
use Rattle.hg_session.specs.Sessions.{view_of, open_of, cursor_of}
use Rattle.hg_run.specs.Asked.{IsAnswered, MayAsk, collector_asked}
use Rattle.hg_run.specs.Listed.{HasCursor, HaveCursors, KeepCursors}
use Rattle.hg_run.proofs.Listing.{get_any}
use Rattle.hg_exact.proofs.OpenAfter.{none_held, none_open, open_own, open_other, within_held}

-- ---- one session

-- a statement that neither reads by a cursor nor opens or closes one
abbrev pub is_plain : Statement → Bool
is_plain (CursorOpen table low high) = false
is_plain (Fetch n) = false
is_plain CursorClose = false
is_plain s = true

no_rest : (s : Statement) (x y : Option Rest) → is_plain s ≡ true → HasRest s x y
no_rest (Fetch n) x y plain = absurd (false_true plain)
no_rest _ x y plain = tt

keeps_reading : (b : Bool) (s : Statement) → is_plain s ≡ true → reading b s ≡ b
keeps_reading b (CursorOpen table low high) plain = absurd (false_true plain)
keeps_reading b CursorClose plain = absurd (false_true plain)
keeps_reading b _ plain = refl

-- where one of these may stand, no cursor is open
pub none_read : (s : Session) (it : Statement) → is_plain it ≡ true → collector_asked it ≡ None → MayAsk s it → cursor_of s ≡ None
none_read s it plain own ask = none_open (cursor_of s) (go it plain own ask.may)
  where
    reads : Bool
    reads = is_some (cursor_of s)

    go : (it : Statement) → is_plain it ≡ true → collector_asked it ≡ None → MayStand ask.within reads it → reads ≡ false
    go (Begin scope) plain own may = (none_held ask.within reads (is_some (open_of s)) ask.opens may).0
    go (Get r) plain own may = may
    go (Put r row) plain own may = may
    go (Del r) plain own may = may
    go (Scan t low high) plain own may = may
    go (CursorOpen t low high) plain own may = absurd (false_true plain)
    go (Fetch n) plain own may = absurd (false_true plain)
    go CursorClose plain own may = absurd (false_true plain)
    go CommitIt plain own may = (within_held ask.within reads (is_some (open_of s)) ask.opens may).0
    go Rollback plain own may = (within_held ask.within reads (is_some (open_of s)) ask.opens may).0
    go (Gc kind) plain own may = absurd (let z : Some kind ≡ None = own in cc)

-- where none is open, whatever was left is left
pub nothing_left : (s : Session) (rest : Option Rest) → cursor_of s ≡ None → HasLeft s rest
nothing_left s rest none = subst (λ c. FitsRest c rest) (sym none) tt

pub kept_left : (s t : Session) (rest : Option Rest) → cursor_of t ≡ cursor_of s → HasLeft s rest → HasLeft t rest
kept_left s t rest same left = subst (λ c. FitsRest c rest) (sym same) left

pub answered_plain : (z : Sizes) (old new : Session) (s : Statement) (reply : Reply) → is_plain s ≡ true → cursor_of old ≡ None → cursor_of new ≡ None →
    Answers z (view_of old) s reply (view_of new) → IfSome (target s) (λ r. HasFirst (view_of old) r (reads_at (open_of old) reply) reply.answer (view_of new)) → IsAnswered z old s reply new
answered_plain z old new s reply plain before after a first = record {
  answers = λ rest left. record { answers = a; rest_is = no_rest s a.u.rest rest plain };
  moved = λ rest left. nothing_left new (rest_after s reply.answer rest) after;
  reads = ap is_some after ∙ sym (keeps_reading (is_some (cursor_of old)) s plain ∙ ap is_some before);
  first = first;
}

pub answered_fetch : (z : Sizes) (old new : Session) (n : ℕ) (rows : List (ℕ × List Value)) → IsSome (cursor_of old) → IsSome (cursor_of new) →
    ((rest : Option Rest) → HasLeft old rest → AnswersFrom rest z (view_of old) (Fetch n) (inside (Rows rows)) (view_of new)) →
    ((rest : Option Rest) → HasLeft old rest → HasLeft new (rest_after (Fetch n) (Rows rows) rest)) → IsAnswered z old (Fetch n) (inside (Rows rows)) new
answered_fetch z old new n rows before after a moved = record { answers = a; moved = moved; reads = after ∙ sym before; first = tt }

-- the same of the reply of a call, if there is one, and of that of a write
pub some_plain : (z : Sizes) (old new : Session) (s : Statement) (o : Option Reply) → is_plain s ≡ true → target s ≡ None → cursor_of old ≡ None → cursor_of new ≡ None →
    IfSome o (λ reply. Answers z (view_of old) s reply (view_of new)) → IfSome o (λ reply. IsAnswered z old s reply new)
some_plain z old new s o plain none before after a = if_some_keeps o _ _
    (λ reply a. answered_plain z old new s reply plain before after a (subst (λ o. IfSome o (λ r. HasFirst (view_of old) r (reads_at (open_of old) reply) reply.answer (view_of new))) (sym none) tt)) a

pub some_write : (z : Sizes) (old new : Session) (s : Statement) (r : Rid) (o : Option Reply) → is_plain s ≡ true → target s ≡ Some r → cursor_of old ≡ None →
    cursor_of new ≡ None → IfSome o (λ reply. AnswersWrite z (view_of old) s r reply (view_of new)) → IfSome o (λ reply. IsAnswered z old s reply new)
some_write z old new s r o plain some before after a = if_some_keeps o _ _
    (λ reply a. answered_plain z old new s reply plain before after a.answers
    (subst (λ o. IfSome o (λ r. HasFirst (view_of old) r (reads_at (open_of old) reply) reply.answer (view_of new))) (sym some) a.first)) a

-- whatever cursor is open, something is what it has left
pub any_rest : (s : Session) → (rest : Option Rest) × HasLeft s rest
any_rest s = go (cursor_of s)
  where
    from : (c : Cursor) (r : Option ℕ) → rest_of c ≡ r → (low : ℕ) × (rest_of c ≡ begins_at low (high_of c))
    from c None e = let over : nat_le (suc (high_of c)) (high_of c) ≡ false = grind (arith, nat_tests) in (suc (high_of c), e ∙ sym (ap (λ b. if b then Some (suc (high_of c)) else None) over))
    from c (Some low) e =
        let most : low ≤ high_of c = c.within low e in
        let below : nat_le low (high_of c) ≡ true = grind (arith, nat_tests, most) in
        (low, e ∙ sym (ap (λ b. if b then Some low else None) below))

    go : (o : Option Cursor) → (rest : Option Rest) × FitsRest o rest
    go None = (None, tt)
    go (Some c) = let f = from c (rest_of c) refl in (Some (record { table = table_of c; low = f.0; high = high_of c }), record { table = refl; high = refl; from = f.1 })

-- ---- all of a list

pub any_rest_at : (list : List Session) (i : ℕ) → i < length list → (rest : Option Rest) × ((d : Session) → HasLeft (get_or list i d) rest)
any_rest_at [] i within = absurd (omega (arith, within))
any_rest_at (s ∷ list) i within = (any.0, λ d. subst (λ t. HasLeft t any.0) (get_any s d (s ∷ list) i within) any.1)
  where
    any : (rest : Option Rest) × HasLeft (get_or (s ∷ list) i s) rest
    any = any_rest (get_or (s ∷ list) i s)

-- of each session by its number whether its cursor is open, and what it has left
abbrev pub reads_in : List Session → ℕ → Bool
reads_in [] j = false
reads_in (s ∷ list) zero = false
reads_in (s ∷ list) (suc zero) = is_some (cursor_of s)
reads_in (s ∷ list) (suc (suc k)) = reads_in list (suc k)

abbrev pub rests_in : List Session → ℕ → Option Rest
rests_in [] j = None
rests_in (s ∷ list) zero = None
rests_in (s ∷ list) (suc zero) = (any_rest s).0
rests_in (s ∷ list) (suc (suc k)) = rests_in list (suc k)

pub any_cursors : (list : List Session) → HaveCursors (reads_in list) (rests_in list) list
any_cursors [] d k within = absurd (omega (arith, within))
any_cursors (s ∷ list) d zero within = record { reads_is = refl; left = (any_rest s).1 }
any_cursors (s ∷ list) d (suc k) within = any_cursors list d k (omega (arith, within))

-- no cursor is open
pub no_cursors : (list : List Session) (rest : ℕ → Option Rest) → ((d : Session) (k : ℕ) → k < length list → cursor_of (get_or list k d) ≡ None) → HaveCursors (λ j. false) rest list
no_cursors list rest none d k within = record { reads_is = ap is_some (none d k within); left = nothing_left (get_or list k d) (rest (suc k)) (none d k within) }

pub cursors_kept : (reads : ℕ → Bool) (rest : ℕ → Option Rest) (old new : List Session) → length new ≡ length old → KeepCursors old new → HaveCursors reads rest old → HaveCursors reads rest new
cursors_kept reads rest old new many kept have d k within =
    let below : k < length old = omega (arith, many, within) in
    let h = have d k below in
    record { reads_is = ap is_some (kept d k below) ∙ h.reads_is; left = kept_left (get_or old k d) (get_or new k d) (rest (suc k)) (kept d k below) h.left }

-- the same cursors, where the functions are the same at each number
pub cursors_same : (r r2 : ℕ → Bool) (x x2 : ℕ → Option Rest) (list : List Session) → ((j : ℕ) → r j ≡ r2 j) → ((j : ℕ) → x j ≡ x2 j) → HaveCursors r x list → HaveCursors r2 x2 list
cursors_same r r2 x x2 list a b have d k within = let h = have d k within in record { reads_is = h.reads_is ∙ a (suc k); left = subst (HasLeft (get_or list k d)) (b (suc k)) h.left }

-- a function given at one number what it has there
pub put_still : {A : Type 0} (f : ℕ → A) (j k : ℕ) → f k ≡ put f j (f j) k
put_still f j k = at_index j (λ k. f k ≡ put f j (f j) k) (sym (put_here f j (f j))) (λ k z. sym (put_else f j k (f j) z)) k

-- the session at i answered a statement
pub cursors_moved : (z : Sizes) (reads : ℕ → Bool) (rest : ℕ → Option Rest) (old new : List Session) (i : ℕ) (s : Statement) (reply : Reply) → length new ≡ length old →
    i < length old → ((d : Session) → IsAnswered z (get_or old i d) s reply (get_or new i d)) → ((d : Session) (k : ℕ) → k ≢ i → get_or new k d ≡ get_or old k d) →
    HaveCursors reads rest old → HaveCursors (put reads (suc i) (reading (reads (suc i)) s)) (put rest (suc i) (rest_after s reply.answer (rest (suc i)))) new
cursors_moved z reads rest old new i s reply many first answered others have d = at_index i (λ k. k < length new →
    HasCursor (put reads (suc i) after (suc k)) (put rest (suc i) left (suc k)) (get_or new k d)) here there
  where
    after : Bool
    after = reading (reads (suc i)) s

    left : Option Rest
    left = rest_after s reply.answer (rest (suc i))

    here : i < length new → HasCursor (put reads (suc i) after (suc i)) (put rest (suc i) left (suc i)) (get_or new i d)
    here within =
        let h = have d i first in
        record {
          reads_is = (answered d).reads ∙ ap (λ b. reading b s) h.reads_is ∙ sym (put_here reads (suc i) after);
          left = subst (HasLeft (get_or new i d)) (sym (put_here rest (suc i) left)) ((answered d).moved (rest (suc i)) h.left);
        }

    there : (k : ℕ) → (k ≡ i → ⊥) → k < length new → HasCursor (put reads (suc i) after (suc k)) (put rest (suc i) left (suc k)) (get_or new k d)
    there k apart within =
        let h = have d k (omega (arith, many, within)) in
        let far : suc k ≡ suc i → ⊥ = λ e. apart (omega (arith, e)) in
        let same : get_or old k d ≡ get_or new k d = sym (others d k apart) in
        record {
          reads_is = subst (λ t. is_some (cursor_of t) ≡ reads (suc k)) same h.reads_is ∙ sym (put_else reads (suc i) (suc k) after far);
          left = subst (HasLeft (get_or new k d)) (sym (put_else rest (suc i) (suc k) left far)) (subst (λ t. HasLeft t (rest (suc k))) same h.left);
        }

-- ---- by the records so far

-- one record more, of any session
pub left_more : (left : ℕ → Option Rest) (rs : List Record) (lines : List Line) (r : Record) (line : Line) → HasShape rs lines →
    left_after left (rs ++ r ∷ []) (lines ++ line ∷ []) ≡ put (left_after left rs lines) r.session (rest_after r.statement line.reply.answer (left_after left rs lines r.session))
left_more left [] [] r line shape = refl
left_more left [] (e ∷ es) r line shape = absurd shape
left_more left (q ∷ qs) [] r line shape = absurd shape
left_more left (q ∷ qs) (e ∷ es) r line shape = left_more (put left q.session (rest_after q.statement e.reply.answer (left q.session))) qs es r line shape.1

pub reading_more : (rs : List Record) (r : Record) (j : ℕ) → put (λ j. is_reading j rs) r.session (reading (is_reading r.session rs) r.statement) j ≡ is_reading j (rs ++ r ∷ [])
reading_more rs r = at_index r.session (λ j. put (λ j. is_reading j rs) r.session after j ≡ is_reading j (rs ++ r ∷ []))
    (put_here (λ j. is_reading j rs) r.session after ∙ sym (open_own r.session rs r refl).1)
    (λ j apart. put_else (λ j. is_reading j rs) r.session j after apart ∙ sym (open_other j rs r (grind (arith, nat_tests, apart))).1)
  where
    after : Bool
    after = reading (is_reading r.session rs) r.statement
