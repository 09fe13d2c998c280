-- What the entries of a get, put, del or scan add to a log, and what its reply shows.
use Rattle.std.proofs.Common.{◌≡◌, ℕ, ◌≤◌, List, [], ◌∷◌, ◌++◌, Bool, true, false, Option, Some, None, refl, sym, zero, suc}
use Rattle.std.specs.Prelude.{◌==◌, cond, ⊤, IsTrue}
use Rattle.std.specs.List.{cons_option}
use Rattle.hg_base.specs.declared.rid.Rid.{Rid}
use Rattle.hg_base.specs.declared.rid.TableId.{TableId}
use Rattle.hg_base.specs.declared.image.Image.{Image}
use Rattle.hg_base.specs.declared.statement.Statement.{Statement}
use Rattle.hg_base.specs.declared.statement.Statement.TheVariants.{Get, Put, Del, Scan}
use Rattle.hg_base.specs.declared.line.Answer.{Answer}
use Rattle.hg_base.specs.declared.line.Answer.TheVariants.{Begun, Stored, Found, Nothing, Gone, Rows, Committed, Ended, Undone, Newer, OpenBy, Undeclared, Swept, Beside}
use Rattle.hg_base.specs.declared.value.Value.{Value}
use Rattle.hg_base.specs.Lists.{Each}
use Rattle.hg_base.specs.History.{Write, nothing}
use Rattle.hg_base.specs.Transcript.{stored_by, committed_by, is_end, Rest}
use Rattle.hg_base.specs.Replies.{IsPut}
use Rattle.hg_core.specs.declared.log.LogEntry.{LogEntry}
use Rattle.hg_core.specs.declared.log.LogEntry.TheVariants.{Saw, Refused, Outside, Wrote}
use Rattle.hg_core.specs.Logs.{current, begans, own_writes, published, UpTo, AnswerUpTo}
use Rattle.hg_core.specs.Replies.{writes_in, numbers_in}
use Rattle.hg_core.specs.Reading.{Unprinted, saw, saws, get_entries, put_entries, del_entries, scan_entries, own_entries, is_access, IsReached, IsGetAnswer, IsDelAnswer, IsScanAnswer}
use Rattle.hg_core.specs.Reading.{FitsTable, FitsAnswer, looks, fetch_entries, IsFetchAnswer}
use Rattle.hg_core.proofs.OwnKeys.{saws_keep}
use Rattle.hg_headline.specs.Gathered.{began_at}
use Rattle.hg_headline.proofs.Words.{cond_same}

pub record Adds (before : List LogEntry) (after : List LogEntry) (w : Option Write) (a : Answer) : Type 0 where
  pub count : begans after ≡ begans before
  pub same : current after ≡ current before
  pub own : own_writes after ≡ cons_option w (own_writes before)
  pub writes : (x : ℕ) → writes_in x after ≡ cond (begans before == x) (cons_option w (writes_in x before)) (writes_in x before)
  pub numbers : (x : ℕ) → numbers_in x after ≡ numbers_in x before
  pub known : (n : ℕ) → UpTo n after → UpTo n before × AnswerUpTo n a
  pub begun : (d : Bool) (n : ℕ) → began_at d n after ≡ began_at d n before
  pub made : (n j : ℕ) → published n j after ≡ published n j before

-- not `newer`
abbrev pub NotNewer : Answer → Type 0
NotNewer (Newer c) = ⊥
NotNewer _ = ⊤

pub up_to_any : (n : ℕ) (a : Answer) → NotNewer a → AnswerUpTo n a
up_to_any n (Newer c) h = absurd h
up_to_any n _ h = tt

pub adds_nothing : (l : List LogEntry) (a : Answer) → NotNewer a → Adds l l None a
adds_nothing l a h = record {
  count = refl;
  same = refl;
  own = refl;
  writes = λ x. sym (cond_same (begans l == x) (writes_in x l));
  numbers = λ x. refl;
  known = λ n k. (k, up_to_any n a h);
  begun = λ d n. refl;
  made = λ n j. refl;
}

pub adds_saw : (t : TableId) (low high b : ℕ) (rows : List (ℕ × List Value)) (before l : List LogEntry) (w : Option Write) (a : Answer) → Adds before l w a →
    Adds before (Saw t low high b rows ∷ l) w a
adds_saw t low high b rows before l w a h = record { count = h.count; same = h.same; own = h.own; writes = h.writes; numbers = h.numbers; known = h.known; begun = h.begun; made = h.made }

pub adds_outside : (t : TableId) (l : List LogEntry) (a : Answer) → NotNewer a → Adds l (Outside t ∷ l) None a
adds_outside t l a h = record {
  count = refl;
  same = refl;
  own = refl;
  writes = λ x. sym (cond_same (begans l == x) (writes_in x l));
  numbers = λ x. refl;
  known = λ n k. (k, up_to_any n a h);
  begun = λ d n. refl;
  made = λ n j. refl;
}

pub adds_refused : (r : Rid) (a : Answer) (before l : List LogEntry) (b : Answer) → Adds before l None b → Adds before (Refused r a ∷ l) None a
adds_refused r a before l b h = record { count = h.count; same = h.same; own = h.own; writes = h.writes; numbers = h.numbers; known = λ n k. ((h.known n k.1).0, k.0); begun = h.begun; made = h.made }

pub adds_wrote : (r : Rid) (image : Image) (a : Answer) (l : List LogEntry) → NotNewer a → Adds l (Wrote r image ∷ l) (Some (record { rid = r; image = image })) a
adds_wrote r image a l h = record { count = refl; same = refl; own = refl; writes = λ x. refl; numbers = λ x. refl; known = λ n k. (k, up_to_any n a h); begun = λ d n. refl; made = λ n j. refl }

-- below a seen entry all is as before it
pub adds_past_saw : (t : TableId) (low high b : ℕ) (rows : List (ℕ × List Value)) (l after : List LogEntry) (w : Option Write) (a : Answer) →
    Adds (Saw t low high b rows ∷ l) after w a → Adds l after w a
adds_past_saw t low high b rows l after w a h = record { count = h.count; same = h.same; own = h.own; writes = h.writes; numbers = h.numbers; known = h.known; begun = h.begun; made = h.made }

pub adds_saws : (buckets : ℕ) (t : TableId) (low high : ℕ) (part : ℕ → List (ℕ × List Value)) (n : ℕ) (l : List LogEntry) (a : Answer) → NotNewer a →
    Adds l (saws buckets t low high part n ++ l) None a
adds_saws buckets t low high part n l a h = saws_keep (λ m. Adds l m None a) buckets t low high part n l (λ b rows m k. adds_saw t low high b rows l m None a k) (adds_nothing l a h)

pub adds_looks : (buckets : ℕ) (t : TableId) (low high : ℕ) (part : ℕ → List (ℕ × List Value)) (n : ℕ) (l : List LogEntry) (a : Answer) → NotNewer a →
    Adds l (looks buckets t low high part n ++ l) None a
adds_looks buckets t low high part zero l a h = adds_nothing l a h
adds_looks buckets t low high part (suc n) l a h = adds_saw _ _ _ _ _ l _ None a (adds_looks buckets t low high part n l a h)

pub adds_fetch : (buckets n : ℕ) (rest : Option Rest) (part : ℕ → List (ℕ × List Value)) (looked : ℕ) (a : Answer) (l : List LogEntry) → IsFetchAnswer buckets n rest part looked a
    → Adds l (fetch_entries buckets rest part looked a ++ l) None a
adds_fetch buckets n (Some rest) part looked (Rows rows) l f = adds_looks buckets rest.table rest.low rest.high part looked l (Rows rows) tt
adds_fetch buckets n (Some rest) part looked _ l f = absurd f
adds_fetch buckets n None part looked a l f = absurd f

pub adds_get : (buckets : ℕ) (r : Rid) (a : Answer) (l : List LogEntry) → FitsTable r.table a (IsGetAnswer a) → Adds l (get_entries buckets r a ++ l) None a
adds_get buckets r (Found row) l f = adds_saw _ _ _ _ _ l l None (Found row) (adds_nothing l (Found row) tt)
adds_get buckets r Nothing l f = adds_saw _ _ _ _ _ l l None Nothing (adds_nothing l Nothing tt)
adds_get buckets r (Undeclared t) l f = adds_outside t l (Undeclared t) tt
adds_get buckets r _ l f = absurd f

pub adds_put : (r : Rid) (row : List Value) (a : Answer) (l : List LogEntry) → FitsTable r.table a (IsPut a) → Adds l (put_entries r row a ++ l) (stored_by (Put r row) a) a
adds_put r row Stored l f = adds_wrote r (record { row = Some row }) Stored l tt
adds_put r row (Newer c) l f = adds_refused r (Newer c) l l Stored (adds_nothing l Stored tt)
adds_put r row (OpenBy w) l f = adds_refused r (OpenBy w) l l Stored (adds_nothing l Stored tt)
adds_put r row (Undeclared t) l f = adds_outside t l (Undeclared t) tt
adds_put r row _ l f = absurd f

pub adds_del : (buckets : ℕ) (found : List Value) (r : Rid) (a : Answer) (l : List LogEntry) → FitsTable r.table a (IsDelAnswer a) → Adds l (del_entries buckets found r a ++ l) (stored_by (Del r) a) a
adds_del buckets found r Nothing l f = adds_saw _ _ _ _ _ l l None Nothing (adds_nothing l Nothing tt)
adds_del buckets found r Gone l f = adds_past_saw _ _ _ _ _ l _ _ Gone (adds_wrote r nothing Gone (saw buckets r ((r.key, found) ∷ []) ∷ l) tt)
adds_del buckets found r (Newer c) l f = adds_refused r (Newer c) l (saw buckets r ((r.key, found) ∷ []) ∷ l) Stored (adds_saw _ _ _ _ _ l l None Stored (adds_nothing l Stored tt))
adds_del buckets found r (OpenBy w) l f = adds_refused r (OpenBy w) l (saw buckets r ((r.key, found) ∷ []) ∷ l) Stored (adds_saw _ _ _ _ _ l l None Stored (adds_nothing l Stored tt))
adds_del buckets found r (Undeclared t) l f = adds_outside t l (Undeclared t) tt
adds_del buckets found r _ l f = absurd f

pub adds_scan : (buckets : ℕ) (part : ℕ → List (ℕ × List Value)) (t : TableId) (low high : ℕ) (a : Answer) (l : List LogEntry) →
    FitsTable t a (IsScanAnswer (IsReached buckets t low high) part a) → Adds l (scan_entries buckets part t low high a ++ l) None a
adds_scan buckets part t low high (Rows rows) l f = adds_saws buckets t low high part buckets l (Rows rows) tt
adds_scan buckets part t low high (Undeclared other) l f = adds_outside other l (Undeclared other) tt
adds_scan buckets part t low high _ l f = absurd f

pub adds_access : (buckets : ℕ) (u : Unprinted) (own : List Write) (s : Statement) (a : Answer) (l : List LogEntry) → IsTrue (is_access s) → FitsAnswer buckets u own s a →
    Adds l (own_entries buckets u s a ++ l) (stored_by s a) a
adds_access buckets u own (Get r) a l e f = adds_get buckets r a l f
adds_access buckets u own (Put r row) a l e f = adds_put r row a l f
adds_access buckets u own (Del r) a l e f = adds_del buckets u.found r a l f
adds_access buckets u own (Scan t low high) a l e f = adds_scan buckets u.part t low high a l f
adds_access buckets u own _ a l e f = absurd (let k : false ≡ true = e in cc)

-- ---- the answers of a get, put, del or scan

abbrev pub IsAccessAnswer : Answer → Type 0
IsAccessAnswer (Begun n) = ⊥
IsAccessAnswer (Committed n) = ⊥
IsAccessAnswer Ended = ⊥
IsAccessAnswer Undone = ⊥
IsAccessAnswer (Swept sweep) = ⊥
IsAccessAnswer Beside = ⊥
IsAccessAnswer _ = ⊤

pub get_answer : (r : Rid) (a : Answer) → FitsTable r.table a (IsGetAnswer a) → IsAccessAnswer a
get_answer r (Found row) f = tt
get_answer r Nothing f = tt
get_answer r (Undeclared t) f = tt
get_answer r _ f = absurd f

pub put_answer : (r : Rid) (a : Answer) → FitsTable r.table a (IsPut a) → IsAccessAnswer a
put_answer r Stored f = tt
put_answer r (Newer c) f = tt
put_answer r (OpenBy w) f = tt
put_answer r (Undeclared t) f = tt
put_answer r _ f = absurd f

pub del_answer : (r : Rid) (a : Answer) → FitsTable r.table a (IsDelAnswer a) → IsAccessAnswer a
del_answer r Nothing f = tt
del_answer r Gone f = tt
del_answer r (Newer c) f = tt
del_answer r (OpenBy w) f = tt
del_answer r (Undeclared t) f = tt
del_answer r _ f = absurd f

pub scan_answer : (Reached : ℕ → Type 0) (part : ℕ → List (ℕ × List Value)) (t : TableId) (a : Answer) → FitsTable t a (IsScanAnswer Reached part a) → IsAccessAnswer a
scan_answer Reached part t (Rows rows) f = tt
scan_answer Reached part t (Undeclared other) f = tt
scan_answer Reached part t _ f = absurd f

pub fetch_answer : (buckets n : ℕ) (rest : Option Rest) (part : ℕ → List (ℕ × List Value)) (looked : ℕ) (a : Answer) → IsFetchAnswer buckets n rest part looked a → IsAccessAnswer a
fetch_answer buckets n (Some rest) part looked (Rows rows) f = tt
fetch_answer buckets n (Some rest) part looked _ f = absurd f
fetch_answer buckets n None part looked a f = absurd f

pub access_answer : (buckets : ℕ) (u : Unprinted) (own : List Write) (s : Statement) (a : Answer) → IsTrue (is_access s) → FitsAnswer buckets u own s a → IsAccessAnswer a
access_answer buckets u own (Get r) a e f = get_answer r a f
access_answer buckets u own (Put r row) a e f = put_answer r a f
access_answer buckets u own (Del r) a e f = del_answer r a f
access_answer buckets u own (Scan t low high) a e f = scan_answer (IsReached buckets t low high) u.part t a f
access_answer buckets u own _ a e f = absurd (let k : false ≡ true = e in cc)

pub access_no_end : (s : Statement) → IsTrue (is_access s) → is_end s ≡ false
access_no_end (Get r) e = refl
access_no_end (Put r row) e = refl
access_no_end (Del r) e = refl
access_no_end (Scan t low high) e = refl
access_no_end _ e = absurd (let k : false ≡ true = e in cc)

-- what such an answer prints
pub access_commits : (s : Statement) (a : Answer) → IsTrue (is_access s) → committed_by s a ≡ None
access_commits (Get r) a e = refl
access_commits (Put r row) a e = refl
access_commits (Del r) a e = refl
access_commits (Scan t low high) a e = refl
access_commits _ a e = absurd (let k : false ≡ true = e in cc)

pub access_snapshot : (a : Answer) (at : Option ℕ) → IsAccessAnswer a → elim a [ Begun s ↦ Some s | _ ↦ at ] ≡ at
access_snapshot (Begun n) at f = absurd f
access_snapshot _ at f = refl

pub access_newer : (n : ℕ) (a : Answer) → AnswerUpTo n a → Each (λ m. m ≤ n) (cons_option (elim a [ Newer c ↦ Some c | _ ↦ None ]) [])
access_newer n (Newer c) h = (h, tt)
access_newer n _ h = tt
