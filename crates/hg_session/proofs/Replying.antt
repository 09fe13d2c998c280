-- What a call replies, once its entries are known.
use Rattle.std.proofs.Common.{◌≡◌, ℕ, zero, suc, ◌^◌, arith, ◌<◌, List, [], ◌∷◌, ◌++◌, true, false, Option, Some, None, refl, sym, ap, ◌∙◌, subst, append_assoc}
use Rattle.std.specs.Prelude.{◌&&◌, is_some, IsTrue, IfSome}
use Rattle.hg_base.specs.declared.rid.Rid.{Rid}
use Rattle.hg_base.specs.declared.scope.Scope.{Scope}
use Rattle.hg_base.specs.declared.scope.Snapshot.{Snapshot}
use Rattle.hg_base.specs.declared.statement.Statement.{Statement}
use Rattle.hg_base.specs.declared.statement.Statement.TheVariants as say
use Rattle.hg_base.specs.declared.line.Answer.{Answer}
use Rattle.hg_base.specs.declared.line.Answer.TheVariants as answers
use Rattle.hg_base.specs.Lists.{Each}
use Rattle.hg_base.specs.Transcript.{only, table_of, stored_by}
use Rattle.hg_core.specs.declared.log.LogEntry.{LogEntry}
use Rattle.hg_core.specs.declared.log.LogEntry.TheVariants.{Began, Outside}
use Rattle.hg_core.specs.Logs.{current, is_plain, own_writes}
use Rattle.hg_core.specs.Reading.{Unprinted, own_entries, close, is_access, log_with, FitsAnswer, FitsScope, FitsIn, saw}
use Rattle.hg_core.specs.Reading as reading
use Rattle.hg_core.proofs.Right.{if_none}
use Rattle.hg_rule.specs.declared.view.Sizes.{Sizes}
use Rattle.hg_rule.specs.declared.view.View.{View}
use Rattle.hg_rule.specs.Views.{session}
use Rattle.hg_tracker.specs.Begun.{AtMost}
use Rattle.hg_headline.specs.Timely.{snapshot_in, newer_in, commit_in}
use Rattle.std.proofs.lemmas.Nat.{pow_pos}
use Rattle.hg_base.specs.declared.rid.TableId.{TableId}
use Rattle.hg_base.specs.declared.value.Value.{Value}
use Rattle.hg_base.specs.History.{Write}
use Rattle.hg_base.specs.Replies.{is_written}
use Rattle.hg_base.specs.Transcript.{committed_by}
use Rattle.hg_cursor.specs.Keys.{rows_at}
use Rattle.hg_session.specs.Ties.{AreWritten}
use Rattle.hg_session.proofs.Done.{unwritten}
use Rattle.hg_session.specs.Gains.{Gains}
use Rattle.hg_session.specs.Replies.{inside, row_answer, IsNext, GoesOn, Answers}

-- nothing that a reply doesn't print
abbrev pub nothing_more : Unprinted
nothing_more = record { found = []; part = λ b. []; undone = []; rest = None; looked = 0 }

if_known : {X : Type 0} (o : Option X) (P : X → Type 0) → ((x : X) → o ≡ Some x → P x) → IfSome o P
if_known None P f = tt
if_known (Some x) P f = f x refl

-- in a transaction, or a statement that begins or ends one
pub answers_inside : (z : Sizes) (v w : View) (s : Statement) (a : Answer) (u : Unprinted) → reading.is_alone (current (session v).log) s ≡ false →
    Gains v (own_entries z.buckets u s a) w → FitsAnswer z.buckets u (own_writes (session v).log) s a → ((c : Snapshot) → current (session v).log ≡ Some c → FitsScope c.scope s a)
    → FitsIn (current (session v).log) s → IfSome (snapshot_in (inside a)) (λ at. Each (AtMost at) v.sights) →
    IfSome (commit_in s (inside a)) (IsNext v.sights (snapshot_in (inside a))) → IfSome (newer_in (inside a)) (λ c. 0 < c) → GoesOn z v a → Answers z v s (inside a) w
answers_inside z v w s a u alone g fits scope stands snapshot commit newer goes = record {
  u = u;
  fits = record {
    at = sym alone;
    number = ap (λ b. b && is_some (stored_by s a)) (sym alone);
    answer = fits;
    scope = if_known (current (session v).log) (λ c. FitsScope c.scope s a) scope;
    inside = stands;
  };
  log = g.log ∙ ap (λ b. log_with b z.buckets u s (inside a) (session v).log) (sym alone);
  number_is = g.number_is;
  kept = g.kept;
  snapshot = snapshot;
  commit = commit;
  newer = newer;
  goes_on = goes;
}

is_alone_now : (log : List LogEntry) (s : Statement) → current log ≡ None → IsTrue (is_access s) → reading.is_alone (current log) s ≡ true
is_alone_now log s e i = ap (λ o. reading.is_alone o s) e ∙ i

-- a fetch is none
access_stands : (o : Option Snapshot) (s : Statement) → IsTrue (is_access s) → FitsIn o s
access_stands o (say.Fetch n) i = absurd (let k = i in cc)
access_stands o (say.Get r) i = tt
access_stands o (say.Put r row) i = tt
access_stands o (say.Del r) i = tt
access_stands o (say.Scan table low high) i = tt
access_stands o (say.Begin scope) i = tt
access_stands o (say.CursorOpen table low high) i = tt
access_stands o say.CursorClose i = tt
access_stands o say.Commit i = tt
access_stands o say.Rollback i = tt
access_stands o (say.Gc kind) i = tt

-- a transaction of its own
pub answers_alone : (z : Sizes) (v w : View) (s : Statement) (a : Answer) (at : ℕ) (n : Option ℕ) (u : Unprinted) → current (session v).log ≡ None → IsTrue (is_access s) →
    Gains v (close n ++ (own_entries z.buckets u s a ++ Began at (only (table_of s)) ∷ [])) w
    → is_some n ≡ is_some (stored_by s a) → FitsAnswer z.buckets u (own_writes (session v).log) s a → snapshot_in (record { at = Some at; answer = a; number = n }) ≡ Some at →
    commit_in s (record { at = Some at; answer = a; number = n }) ≡ n
    → Each (AtMost at) v.sights → IfSome n (IsNext v.sights (Some at)) → IfSome (newer_in (record { at = Some at; answer = a; number = n })) (λ c. 0 < c) → GoesOn z v a →
    Answers z v s (record { at = Some at; answer = a; number = n }) w
answers_alone z v w s a at n u none access g stored fits snapshot commit most next newer goes =
    let alone = is_alone_now (session v).log s none access in record {
      u = u;
      fits = record {
        at = sym alone;
        number = stored ∙ ap (λ b. b && is_some (stored_by s a)) (sym alone);
        answer = fits;
        scope = if_none (current (session v).log) (λ c. FitsScope c.scope s a) none;
        inside = access_stands (current (session v).log) s access;
      };
      log = g.log ∙ (append_assoc (close n) (own_entries z.buckets u s a ++ Began at (only (table_of s)) ∷ []) (session v).log ∙
          (ap (λ l. close n ++ l) (append_assoc (own_entries z.buckets u s a) (Began at (only (table_of s)) ∷ []) (session v).log) ∙
          ap (λ b. log_with b z.buckets u s (record { at = Some at; answer = a; number = n }) (session v).log) (sym alone)));
      number_is = g.number_is;
      kept = g.kept;
      snapshot = subst (λ o. IfSome o (λ x. Each (AtMost x) v.sights)) (sym snapshot) most;
      commit = subst (λ o. IfSome o (IsNext v.sights (snapshot_in (record { at = Some at; answer = a; number = n })))) (sym commit) (subst (λ o. IfSome n (IsNext v.sights o)) (sym snapshot) next);
      newer = newer;
      goes_on = goes;
    }

-- ---- a get

pub get_inside : (z : Sizes) (v w : View) (c : Snapshot) (rid : Rid) (row : Option (List Value)) → current (session v).log ≡ Some c →
    Gains v (saw z.buckets rid (rows_at rid.key row) ∷ []) w → Answers z v (say.Get rid) (inside (row_answer row)) w
get_inside z v w c rid None e g = answers_inside z v w (say.Get rid) answers.Nothing nothing_more (ap (λ o. reading.is_alone o (say.Get rid)) e) g tt (λ c e. tt) tt tt tt tt tt
get_inside z v w c rid (Some row) e g = answers_inside z v w (say.Get rid) (answers.Found row) nothing_more (ap (λ o. reading.is_alone o (say.Get rid)) e) g tt (λ c e. tt) tt tt tt tt tt

pub get_alone : (z : Sizes) (v w : View) (at : ℕ) (rid : Rid) (row : Option (List Value)) → current (session v).log ≡ None → Each (AtMost at) v.sights →
    Gains v (close None ++ (saw z.buckets rid (rows_at rid.key row) ∷ Began at (only (Some rid.table)) ∷ [])) w →
    Answers z v (say.Get rid) (record { at = Some at; answer = row_answer row; number = None }) w
get_alone z v w at rid None e most g = answers_alone z v w (say.Get rid) answers.Nothing at None nothing_more e refl g refl tt refl refl most tt tt tt
get_alone z v w at rid (Some row) e most g = answers_alone z v w (say.Get rid) (answers.Found row) at None nothing_more e refl g refl tt refl refl most tt tt tt

-- ---- a refusal

-- it shows no rows
undeclared_scope : (scope : Scope) (s : Statement) (table : TableId) → FitsScope scope s (answers.Undeclared table)
undeclared_scope scope (say.Scan other low high) table = tt
undeclared_scope scope s table = tt

pub undeclared_inside : (z : Sizes) (v w : View) (c : Snapshot) (s : Statement) (table : TableId) → current (session v).log ≡ Some c →
    (own_entries z.buckets nothing_more s (answers.Undeclared table) ≡ Outside table ∷ []) →
    FitsAnswer z.buckets nothing_more (own_writes (session v).log) s (answers.Undeclared table) → FitsIn (current (session v).log) s → committed_by s (answers.Undeclared table) ≡ None
    → Gains v (Outside table ∷ []) w → Answers z v s (inside (answers.Undeclared table)) w
undeclared_inside z v w c s table e entries fits stands none g = answers_inside z v w s (answers.Undeclared table) nothing_more (ap (λ o. reading.is_alone o s) e)
    (subst (λ es. Gains v es w) (sym entries) g) fits (λ c e. undeclared_scope c.scope s table) stands tt (subst (λ o. IfSome o (IsNext v.sights None)) (sym none) tt) tt tt

-- ---- a transaction that lists nothing stored nothing
pub no_writes : (rids : List Rid) (log : List LogEntry) → IsTrue (is_plain log) → AreWritten rids log → rids ≡ [] → own_writes log ≡ []
no_writes rids log plain a none = go (own_writes log) (unwritten rids log plain a none)
  where
    go : (own : List Write) → is_written own ≡ false → own ≡ []
    go [] e = refl
    go (w ∷ own) e = absurd (let k = e in cc)

-- ---- declared tables

pub pow_less : (n m : ℕ) → n < m → 2 ^ n < 2 ^ m
pow_less n zero h = absurd (omega (arith, h))
pow_less zero (suc m) h = let p = pow_pos m in omega (arith, p)
pow_less (suc n) (suc m) h = let ih = pow_less n m (omega (arith, h)) in omega (arith, ih)
