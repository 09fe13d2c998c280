-- What a rollback takes back, in the lines and in a log.
use Rattle.std.proofs.Common.{◌≡◌, ℕ, zero, suc, ◌+◌, ◌<◌, List, [], ◌∷◌, ◌++◌, length, Bool, true, false, Option, Some, None, refl, sym, ap, ◌∙◌, arith}
use Rattle.std.specs.Prelude.{◌==◌, ◌&&◌, ◌||◌, cond, filter, if◌then◌else◌, IsSome, is_some, is_none, unwrap_or}
use Rattle.std.specs.List.{list_any}
use Rattle.std.proofs.lemmas.Bool.Decides.{nat_tests, Decides-eqb}
use Rattle.hg_base.specs.declared.rid.Rid.{Rid}
use Rattle.hg_base.specs.declared.image.Image.{Image}
use Rattle.hg_base.specs.declared.rid.TableId.{TableId}
use Rattle.hg_base.specs.declared.statement.Statement.{Statement}
use Rattle.hg_base.specs.declared.statement.Statement.TheVariants.{Begin, Get, Put, Del, Scan, Commit as CommitIt, Rollback, Gc, CursorOpen, Fetch, CursorClose}
use Rattle.hg_base.specs.declared.line.Answer.{Answer}
use Rattle.hg_base.specs.declared.line.Answer.TheVariants.{Begun, Rows, Committed}
use Rattle.hg_base.specs.declared.line.Reply.{Reply}
use Rattle.hg_base.specs.declared.value.Value.{Value}
use Rattle.hg_base.specs.Lists.{onto}
use Rattle.hg_base.specs.History.{Write, same_rid, is_among, image_in, NoneTwice}
use Rattle.hg_base.specs.Transcript.{Said, Rest, is_of, only, table_of}
use Rattle.hg_base.proofs.HistoryFacts.{same_rid_equal}
use Rattle.hg_base.proofs.RidOrder.{same_back as same_rid_turned}
use Rattle.hg_core.specs.declared.log.LogEntry.{LogEntry}
use Rattle.hg_core.specs.declared.log.LogEntry.TheVariants.{Began, Saw, Refused, Outside, Wrote, Undid, Published, Over}
use Rattle.hg_core.specs.Logs.{current, begans, own_writes}
use Rattle.hg_core.specs.Counters.{undos}
use Rattle.hg_core.specs.Reading.{Unprinted, own_entries, is_access, is_alone, close, looks, fetch_entries, log_with, log_after, UndoesAll, Fits}
use Rattle.hg_core.proofs.Answering.{not_alone}
use Rattle.hg_headline.specs.Counted.{every}
use Rattle.hg_headline.proofs.Words.{true_false, same_number}
use Rattle.hg_headline.proofs.Firsts.{one_if, first_by}
use Rattle.hg_headline.proofs.Lives.{as_many_records}
use Rattle.hg_headline.proofs.Tallying.{undos_access}
use Rattle.hg_exact.specs.SoFar.{is_rollback}

-- ---- whether a line rolled transaction x of session j back

abbrev pub rolled : ℕ → ℕ → List Said → Bool
rolled j x all = list_any (λ said. is_rollback said.statement) (filter (is_of j x) all)

rolled_with : (j x : ℕ) (now : Said) (es : List Said) → rolled j x (now ∷ es) ≡ ((is_of j x now && is_rollback now.statement) || rolled j x es)
rolled_with j x now es = go (is_of j x now)
  where
    go : (b : Bool) → list_any (λ (said : Said). is_rollback said.statement) (cond b (now ∷ filter (is_of j x) es) (filter (is_of j x) es)) ≡
        ((b && is_rollback now.statement) || list_any (λ said. is_rollback said.statement) (filter (is_of j x) es))
    go true = refl
    go false = refl

rolled_onto : (j x : ℕ) (xs es : List Said) → rolled j x (onto xs es) ≡ (rolled j x xs || rolled j x es)
rolled_onto j x [] es = refl
rolled_onto j x (now ∷ xs) es =
    rolled_onto j x xs (now ∷ es) ∙ (λ i. rolled j x xs || rolled_with j x now es i)
    ∙ turned (rolled j x xs) (is_of j x now && is_rollback now.statement) (rolled j x es) ∙ (λ i. sym (rolled_with j x now xs) i || rolled j x es)
  where
    turned : (a b c : Bool) → (a || (b || c)) ≡ ((b || a) || c)
    turned true true c = refl
    turned true false c = refl
    turned false true c = refl
    turned false false c = refl

pub rolled_back : (j x : ℕ) (xs : List Said) → rolled j x (onto xs []) ≡ rolled j x xs
rolled_back j x xs = rolled_onto j x xs [] ∙ or_false (rolled j x xs)
  where
    or_false : (b : Bool) → (b || false) ≡ b
    or_false true = refl
    or_false false = refl

-- another session's line, or one that is no rollback, changes none
pub rolled_other : (j x : ℕ) (now : Said) (es : List Said) → (now.session == j) ≡ false → rolled j x (now ∷ es) ≡ rolled j x es
rolled_other j x now es e = rolled_with j x now es ∙ ap (λ b. ((b && (now.transaction == x)) && is_rollback now.statement) || rolled j x es) e

pub rolled_not : (j x : ℕ) (now : Said) (es : List Said) → is_rollback now.statement ≡ false → rolled j x (now ∷ es) ≡ rolled j x es
rolled_not j x now es e = rolled_with j x now es ∙ go (is_of j x now)
  where
    go : (b : Bool) → ((b && is_rollback now.statement) || rolled j x es) ≡ rolled j x es
    go true = ap (λ c. c || rolled j x es) e
    go false = refl

pub rolled_here : (j x : ℕ) (now : Said) (es : List Said) → (now.session == j) ≡ true → is_rollback now.statement ≡ true → rolled j x (now ∷ es) ≡ ((now.transaction == x) || rolled j x es)
rolled_here j x now es e f = rolled_with j x now es ∙ (λ i. ((e i && (now.transaction == x)) && f i) || rolled j x es) ∙ ap (λ b. b || rolled j x es) (and_true (now.transaction == x))
  where
    and_true : (b : Bool) → (b && true) ≡ b
    and_true true = refl
    and_true false = refl

-- ---- the records of a transaction

abbrev own_rids : List Write → List Rid
own_rids [] = []
own_rids (w ∷ ws) = if is_some (image_in w.rid ws) then own_rids ws else w.rid ∷ own_rids ws

own_has : (r : Rid) (ws : List Write) → is_among r (own_rids ws) ≡ is_some (image_in r ws)
own_has r [] = refl
own_has r (w ∷ ws) = go (is_some (image_in w.rid ws)) refl (same_rid r w.rid) refl (own_has r ws) ∙ ap (λ b. is_some (if b then Some w.image else image_in r ws)) (same_rid_turned r w.rid)
  where
    go : (o : Bool) → is_some (image_in w.rid ws) ≡ o → (b : Bool) → same_rid r w.rid ≡ b → is_among r (own_rids ws) ≡ is_some (image_in r ws) →
        is_among r (if o then own_rids ws else w.rid ∷ own_rids ws) ≡ is_some (if b then Some w.image else image_in r ws)
    go false e true f ih = ap (λ b. b || is_among r (own_rids ws)) f
    go false e false f ih = ap (λ b. b || is_among r (own_rids ws)) f ∙ ih
    go true e true f ih = ih ∙ ap (λ x. is_some (image_in x ws)) (same_rid_equal r w.rid f) ∙ e
    go true e false f ih = ih

own_once : (ws : List Write) → NoneTwice (own_rids ws)
own_once [] = tt
own_once (w ∷ ws) = go (is_some (image_in w.rid ws)) refl (own_once ws)
  where
    go : (o : Bool) → is_some (image_in w.rid ws) ≡ o → NoneTwice (own_rids ws) → NoneTwice (if o then own_rids ws else w.rid ∷ own_rids ws)
    go true e ih = ih
    go false e ih = (own_has w.rid ws ∙ e, ih)

pub undone_many : (own : List Write) (undone : List Rid) → UndoesAll own undone → length undone ≡ length (own_rids own)
undone_many own undone u = as_many_records undone (own_rids own) u.0 (own_once own) (λ r. u.1 r ∙ sym (own_has r own))

-- ---- the first writes of the last transaction

first_over : (x : ℕ) (l : List LogEntry) → begans l < x → first_by (λ y. x == y) l ≡ 0
first_over x [] h = refl
first_over x (Wrote r image ∷ l) h =
    let e : (x == begans l) ≡ false = grind (arith, nat_tests) in
    let ih = first_over x l h in
    (λ i. one_if (e i && is_none (image_in r (own_writes l))) + ih i)
first_over x (Began at scope ∷ l) h = first_over x l (omega (arith, h))
first_over x (Published n ∷ l) h = first_over x l h
first_over x (Saw t low high b rows ∷ l) h = first_over x l h
first_over x (Refused r a ∷ l) h = first_over x l h
first_over x (Outside t ∷ l) h = first_over x l h
first_over x (Undid r ∷ l) h = first_over x l h
first_over x (Over ∷ l) h = first_over x l h

own_more : (o : Option Image) (r : Rid) (rs : List Rid) → one_if (true && is_none o) + length rs ≡ length (if is_some o then rs else r ∷ rs)
own_more None r rs = omega arith
own_more (Some i) r rs = omega arith

pub first_last : (l : List LogEntry) → IsSome (current l) → first_by (λ y. begans l == y) l ≡ length (own_rids (own_writes l))
first_last [] c = absurd (true_false (sym c))
first_last (Wrote r image ∷ l) c =
    let ih = first_last l c in
    (λ i. one_if (same_number (begans l) i && is_none (image_in r (own_writes l))) + ih i) ∙ own_more (image_in r (own_writes l)) r (own_rids (own_writes l))
first_last (Began at scope ∷ l) c = first_over (suc (begans l)) l (omega arith)
first_last (Over ∷ l) c = absurd (true_false (sym c))
first_last (Published n ∷ l) c = first_last l c
first_last (Saw t low high b rows ∷ l) c = first_last l c
first_last (Refused r a ∷ l) c = first_last l c
first_last (Outside t ∷ l) c = first_last l c
first_last (Undid r ∷ l) c = first_last l c

-- with those of one transaction more
pub first_or : (x : ℕ) (test : ℕ → Bool) (l : List LogEntry) → test x ≡ false → first_by (λ y. (x == y) || test y) l ≡ first_by (λ y. x == y) l + first_by test l
first_or x test [] e = refl
first_or x test (Wrote r image ∷ l) e =
    let ih = first_or x test l e in
    let here = go (x == begans l) refl (test (begans l)) refl (is_none (image_in r (own_writes l))) in
    omega (arith, ih, here)
  where
    go : (a : Bool) → (x == begans l) ≡ a → (b : Bool) → test (begans l) ≡ b → (c : Bool) → one_if ((a || b) && c) ≡ one_if (a && c) + one_if (b && c)
    go true f true g c = absurd (true_false (sym g ∙ ap test (sym ((Decides-eqb x (begans l)).0 f)) ∙ e))
    go true f false g true = refl
    go true f false g false = refl
    go false f true g true = refl
    go false f true g false = refl
    go false f false g c = refl
first_or x test (Began at scope ∷ l) e = first_or x test l e
first_or x test (Published n ∷ l) e = first_or x test l e
first_or x test (Saw t low high b rows ∷ l) e = first_or x test l e
first_or x test (Refused r a ∷ l) e = first_or x test l e
first_or x test (Outside t ∷ l) e = first_or x test l e
first_or x test (Undid r ∷ l) e = first_or x test l e
first_or x test (Over ∷ l) e = first_or x test l e

-- ---- what a statement that is no rollback takes back

undos_looks : (buckets : ℕ) (t : TableId) (low high : ℕ) (part : ℕ → List (ℕ × List Value)) (n : ℕ) (l : List LogEntry) → undos every (looks buckets t low high part n ++ l) ≡ undos every l
undos_looks buckets t low high part zero l = refl
undos_looks buckets t low high part (suc n) l = undos_looks buckets t low high part n l

undos_fetch : (buckets : ℕ) (rest : Option Rest) (part : ℕ → List (ℕ × List Value)) (looked : ℕ) (a : Answer) (l : List LogEntry) →
    undos every (fetch_entries buckets rest part looked a ++ l) ≡ undos every l
undos_fetch buckets (Some rest) part looked (Rows rows) l = undos_looks buckets rest.table rest.low rest.high part looked l
undos_fetch buckets (Some rest) part looked _ l = refl
undos_fetch buckets None part looked a l = refl

undos_close : (o : Option ℕ) (l : List LogEntry) → undos every (close o ++ l) ≡ undos every l
undos_close None l = refl
undos_close (Some n) l = refl

undos_plain : (buckets : ℕ) (u : Unprinted) (s : Statement) (a : Answer) (l : List LogEntry) → is_access s ≡ false → is_rollback s ≡ false → undos every (own_entries buckets u s a ++ l) ≡ undos every l
undos_plain buckets u (Begin scope) (Begun n) l e f = refl
undos_plain buckets u (Begin scope) _ l e f = refl
undos_plain buckets u (CursorOpen table low high) (Begun n) l e f = refl
undos_plain buckets u (CursorOpen table low high) _ l e f = refl
undos_plain buckets u (Fetch n) a l e f = undos_fetch buckets u.rest u.part u.looked a l
undos_plain buckets u CursorClose a l e f = refl
undos_plain buckets u CommitIt (Committed n) l e f = refl
undos_plain buckets u CommitIt _ l e f = refl
undos_plain buckets u (Gc kind) a l e f = refl
undos_plain buckets u Rollback a l e f = absurd (true_false f)
undos_plain buckets u (Get r) a l e f = absurd (true_false e)
undos_plain buckets u (Put r row) a l e f = absurd (true_false e)
undos_plain buckets u (Del r) a l e f = absurd (true_false e)
undos_plain buckets u (Scan t low high) a l e f = absurd (true_false e)

pub undos_line : (buckets : ℕ) (u : Unprinted) (s : Statement) (reply : Reply) (l : List LogEntry) → Fits buckets u l s reply → is_rollback s ≡ false →
    undos every (log_after buckets u s reply l) ≡ undos every l
undos_line buckets u s reply l f plain = by_access (is_access s) refl
  where
    access : (b : Bool) → is_access s ≡ true → undos every (log_with b buckets u s reply l) ≡ undos every l
    access false e = undos_access buckets u (own_writes l) s reply.answer l e f.answer
    access true e = undos_close reply.number _ ∙ undos_access buckets u (own_writes l) s reply.answer (Began (unwrap_or reply.at 0) (only (table_of s)) ∷ l) e f.answer

    by_access : (b : Bool) → is_access s ≡ b → undos every (log_after buckets u s reply l) ≡ undos every l
    by_access true e = access (is_alone (current l) s) e
    by_access false e = ap (λ b. undos every (log_with b buckets u s reply l)) (not_alone (current l) s e) ∙ undos_plain buckets u s reply.answer l e plain
