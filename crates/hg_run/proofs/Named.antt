-- A transaction that a refused write names was begun before.
use Rattle.std.proofs.Common.{ℕ, zero, suc, ◌≤◌, List, [], ◌∷◌, ◌++◌, map, Bool, true, false, Option, Some, None, sym, subst, arith}
use Rattle.std.specs.Prelude.{unwrap_or, ⊤}
use Rattle.hg_base.specs.declared.rid.Rid.{Rid}
use Rattle.hg_base.specs.declared.rid.TableId.{TableId}
use Rattle.hg_base.specs.declared.scope.Scope.{Scope}
use Rattle.hg_base.specs.declared.value.Value.{Value}
use Rattle.hg_base.specs.declared.statement.Statement.{Statement}
use Rattle.hg_base.specs.declared.statement.Statement.TheVariants.{Begin, Get, Put, Del, Scan, CursorOpen, Fetch, CursorClose, Commit as CommitIt, Rollback, Gc}
use Rattle.hg_base.specs.declared.statement.Record.{Record}
use Rattle.hg_base.specs.declared.line.Answer.{Answer}
use Rattle.hg_base.specs.declared.line.Answer.TheVariants.{Begun, Stored, Found, Nothing, Gone, Rows, Committed, Newer, OpenBy, Undeclared}
use Rattle.hg_base.specs.declared.line.Line.{Line}
use Rattle.hg_base.specs.declared.line.Reply.{Reply}
use Rattle.hg_base.specs.Transcript.{Rest, only, rest_after, table_of}
use Rattle.hg_core.specs.declared.log.LogEntry.{LogEntry}
use Rattle.hg_core.specs.declared.log.LogEntry.TheVariants.{Began, Saw, Refused, Outside, Wrote, Undid, Published, Over}
use Rattle.hg_core.specs.Events.{put}
use Rattle.hg_core.specs.Logs.{begans, current}
use Rattle.hg_core.specs.Reading.{Unprinted, Follows, begin_entries, close, commit_entries, del_entries, fetch_entries, get_entries, is_alone, log_after, log_with, looks, own_entries, put_entries, scan_entries}
use Rattle.hg_core.proofs.Indices.{at_index, put_else, put_here}
use Rattle.hg_core.proofs.OwnKeys.{saws_keep}
use Rattle.hg_headline.specs.Met.{IsMet, IsMetAnswer, IsMetWrite}

-- an answer names a transaction that was begun
abbrev pub IsBegunIn : (ℕ → List LogEntry) → Answer → Type 0
IsBegunIn logs (OpenBy w) = w.transaction ≤ begans (logs w.session)
IsBegunIn logs _ = ⊤

-- so does each refused write in a log
abbrev pub NamesBegun : (ℕ → List LogEntry) → List LogEntry → Type 0
NamesBegun logs [] = ⊤
NamesBegun logs (Refused r a ∷ l) = IsBegunIn logs a × NamesBegun logs l
NamesBegun logs (_ ∷ l) = NamesBegun logs l

-- more transactions begin
abbrev pub Grows : (ℕ → List LogEntry) → (ℕ → List LogEntry) → Type 0
Grows logs more = (j : ℕ) → begans (logs j) ≤ begans (more j)

begun_later : (logs more : ℕ → List LogEntry) (a : Answer) → Grows logs more → IsBegunIn logs a → IsBegunIn more a
begun_later logs more (OpenBy w) grows k = let g = grows w.session in omega (arith, g, k)
begun_later logs more _ grows k = tt

names_later : (logs more : ℕ → List LogEntry) (l : List LogEntry) → Grows logs more → NamesBegun logs l → NamesBegun more l
names_later logs more [] grows k = tt
names_later logs more (Refused r a ∷ l) grows k = (begun_later logs more a grows k.0, names_later logs more l grows k.1)
names_later logs more (Began at scope ∷ l) grows k = names_later logs more l grows k
names_later logs more (Saw t low high b rows ∷ l) grows k = names_later logs more l grows k
names_later logs more (Outside t ∷ l) grows k = names_later logs more l grows k
names_later logs more (Wrote r image ∷ l) grows k = names_later logs more l grows k
names_later logs more (Undid r ∷ l) grows k = names_later logs more l grows k
names_later logs more (Published n ∷ l) grows k = names_later logs more l grows k
names_later logs more (Over ∷ l) grows k = names_later logs more l grows k

-- a write that is refused for another's names one that is open
met_begun : (logs more : ℕ → List LogEntry) (r : Rid) (a : Answer) → Grows logs more → IsMetWrite logs r a → IsBegunIn more a
met_begun logs more r (OpenBy w) grows met = let number = met.number in let g = grows w.session in omega (arith, number, g)
met_begun logs more r _ grows met = tt

names_get : (more : ℕ → List LogEntry) (n : ℕ) (r : Rid) (a : Answer) (l : List LogEntry) → NamesBegun more l → NamesBegun more (get_entries n r a ++ l)
names_get more n r (Found row) l k = k
names_get more n r Nothing l k = k
names_get more n r (Undeclared table) l k = k
names_get more n r _ l k = k

names_put : (more : ℕ → List LogEntry) (r : Rid) (row : List Value) (a : Answer) (l : List LogEntry) → IsBegunIn more a → NamesBegun more l → NamesBegun more (put_entries r row a ++ l)
names_put more r row Stored l b k = k
names_put more r row (Newer number) l b k = (b, k)
names_put more r row (OpenBy writer) l b k = (b, k)
names_put more r row (Undeclared table) l b k = k
names_put more r row _ l b k = k

names_del : (more : ℕ → List LogEntry) (n : ℕ) (found : List Value) (r : Rid) (a : Answer) (l : List LogEntry) → IsBegunIn more a → NamesBegun more l →
    NamesBegun more (del_entries n found r a ++ l)
names_del more n found r Nothing l b k = k
names_del more n found r Gone l b k = k
names_del more n found r (Newer number) l b k = (b, k)
names_del more n found r (OpenBy writer) l b k = (b, k)
names_del more n found r (Undeclared table) l b k = k
names_del more n found r _ l b k = k

names_scan : (more : ℕ → List LogEntry) (n : ℕ) (part : ℕ → List (ℕ × List Value)) (t : TableId) (low high : ℕ) (a : Answer) (l : List LogEntry) → NamesBegun more l →
    NamesBegun more (scan_entries n part t low high a ++ l)
names_scan more n part t low high (Rows rows) l k = saws_keep (NamesBegun more) n t low high part n l (λ b rows m e. e) k
names_scan more n part t low high (Undeclared table) l k = k
names_scan more n part t low high _ l k = k

names_looks : (more : ℕ → List LogEntry) (buckets : ℕ) (t : TableId) (low high : ℕ) (part : ℕ → List (ℕ × List Value)) (n : ℕ) (l : List LogEntry) → NamesBegun more l →
    NamesBegun more (looks buckets t low high part n ++ l)
names_looks more buckets t low high part zero l k = k
names_looks more buckets t low high part (suc n) l k = names_looks more buckets t low high part n l k

names_fetch : (more : ℕ → List LogEntry) (n : ℕ) (rest : Option Rest) (part : ℕ → List (ℕ × List Value)) (looked : ℕ) (a : Answer) (l : List LogEntry) → NamesBegun more l →
    NamesBegun more (fetch_entries n rest part looked a ++ l)
names_fetch more n (Some rest) part looked (Rows rows) l k = names_looks more n rest.table rest.low rest.high part looked l k
names_fetch more n (Some rest) part looked _ l k = k
names_fetch more n None part looked a l k = k

names_begin : (more : ℕ → List LogEntry) (scope : Scope) (a : Answer) (l : List LogEntry) → NamesBegun more l → NamesBegun more (begin_entries scope a ++ l)
names_begin more scope (Begun at) l k = k
names_begin more scope _ l k = k

names_close : (more : ℕ → List LogEntry) (number : Option ℕ) (l : List LogEntry) → NamesBegun more l → NamesBegun more (close number ++ l)
names_close more None l k = k
names_close more (Some n) l k = k

names_commit : (more : ℕ → List LogEntry) (a : Answer) (l : List LogEntry) → NamesBegun more l → NamesBegun more (commit_entries a ++ l)
names_commit more (Committed n) l k = k
names_commit more _ l k = k

names_undone : (more : ℕ → List LogEntry) (rids : List Rid) (l : List LogEntry) → NamesBegun more l → NamesBegun more (map Undid rids ++ l)
names_undone more [] l k = k
names_undone more (r ∷ rids) l k = names_undone more rids l k

-- the entries of a statement name what was begun, where its answer was met
names_own : (sessions buckets : ℕ) (logs more : ℕ → List LogEntry) (u : Unprinted) (s : Statement) (a : Answer) (l : List LogEntry) → Grows logs more →
    IsMetAnswer sessions logs s a → NamesBegun more l → NamesBegun more (own_entries buckets u s a ++ l)
names_own sessions buckets logs more u (Begin scope) a l grows met k = names_begin more scope a l k
names_own sessions buckets logs more u (Get r) a l grows met k = names_get more buckets r a l k
names_own sessions buckets logs more u (Put r row) a l grows met k = names_put more r row a l (met_begun logs more r a grows met) k
names_own sessions buckets logs more u (Del r) a l grows met k = names_del more buckets u.found r a l (met_begun logs more r a grows met) k
names_own sessions buckets logs more u (Scan t low high) a l grows met k = names_scan more buckets u.part t low high a l k
names_own sessions buckets logs more u (CursorOpen t low high) a l grows met k = names_begin more (only (Some t)) a l k
names_own sessions buckets logs more u (Fetch n) a l grows met k = names_fetch more buckets u.rest u.part u.looked a l k
names_own sessions buckets logs more u CursorClose a l grows met k = k
names_own sessions buckets logs more u CommitIt a l grows met k = names_commit more a l k
names_own sessions buckets logs more u Rollback a l grows met k = names_undone more u.undone l k
names_own sessions buckets logs more u (Gc kind) a l grows met k = k

names_after : (b : Bool) (sessions buckets : ℕ) (logs more : ℕ → List LogEntry) (u : Unprinted) (s : Statement) (reply : Reply) (l : List LogEntry) → Grows logs more →
    IsMetAnswer sessions logs s reply.answer → NamesBegun more l → NamesBegun more (log_with b buckets u s reply l)
names_after false sessions buckets logs more u s reply l grows met k = names_own sessions buckets logs more u s reply.answer l grows met k
names_after true sessions buckets logs more u s reply l grows met k =
    names_close more reply.number (own_entries buckets u s reply.answer ++ (Began (unwrap_or reply.at 0) (only (table_of s)) ∷ l))
    (names_own sessions buckets logs more u s reply.answer (Began (unwrap_or reply.at 0) (only (table_of s)) ∷ l) grows met k)

begans_less : (e : LogEntry) (l : List LogEntry) → begans l ≤ begans (e ∷ l)
begans_less (Began at scope) l = omega arith
begans_less (Saw t low high b rows) l = omega arith
begans_less (Refused r a) l = omega arith
begans_less (Outside t) l = omega arith
begans_less (Wrote r image) l = omega arith
begans_less (Undid r) l = omega arith
begans_less (Published n) l = omega arith
begans_less Over l = omega arith

begans_append : (es l : List LogEntry) → begans l ≤ begans (es ++ l)
begans_append [] l = omega arith
begans_append (e ∷ es) l = let one = begans_less e (es ++ l) in let rest = begans_append es l in omega (arith, one, rest)

begans_after : (b : Bool) (buckets : ℕ) (u : Unprinted) (s : Statement) (reply : Reply) (l : List LogEntry) → begans l ≤ begans (log_with b buckets u s reply l)
begans_after false buckets u s reply l = begans_append (own_entries buckets u s reply.answer) l
begans_after true buckets u s reply l =
    let began : LogEntry = Began (unwrap_or reply.at 0) (only (table_of s)) in
    let a = begans_append (own_entries buckets u s reply.answer) (began ∷ l) in
    let c = begans_append (close reply.number) (own_entries buckets u s reply.answer ++ (began ∷ l)) in
    let one = begans_less began l in
    omega (arith, a, c, one)

-- where lines follow logs, each refused write names a transaction that was begun
pub names_followed : (buckets sessions : ℕ) (rs : List Record) (lines : List Line) (logs final : ℕ → List LogEntry) (left : ℕ → Option Rest) →
    Follows buckets (IsMet sessions) logs left rs lines final → ((j : ℕ) → NamesBegun logs (logs j)) → (j : ℕ) → NamesBegun final (final j)
names_followed buckets sessions [] [] logs final left f named j = subst (λ (ls : ℕ → List LogEntry). NamesBegun ls (ls j)) (λ p k. sym (f k) p) (named j)
names_followed buckets sessions [] (line ∷ lines) logs final left f named j = absurd f
names_followed buckets sessions (r ∷ rs) [] logs final left f named j = absurd f
names_followed buckets sessions (r ∷ rs) (line ∷ lines) logs final left f named j =
    let u : Unprinted = f.1.0 in
    let s : Statement = r.statement in
    let b : Bool = is_alone (current (logs r.session)) s in
    let after : List LogEntry = log_after buckets u s line.reply (logs r.session) in
    let next : ℕ → List LogEntry = put logs r.session after in
    let grows : Grows logs next = at_index r.session (λ k. begans (logs k) ≤ begans (next k))
    (subst (λ l. begans (logs r.session) ≤ begans l) (sym (put_here logs r.session after)) (begans_after b buckets u s line.reply (logs r.session)))
    (λ k other. subst (λ l. begans (logs k) ≤ begans l) (sym (put_else logs r.session k after other)) (omega arith)) in
    names_followed buckets sessions rs lines next final (put left r.session (rest_after s line.reply.answer (left r.session))) f.1.2
    (at_index r.session (λ k. NamesBegun next (next k))
    (subst (NamesBegun next) (sym (put_here logs r.session after))
    (names_after b sessions buckets logs next u s line.reply (logs r.session) grows f.0 (names_later logs next (logs r.session) grows (named r.session))))
    (λ k other. subst (NamesBegun next) (sym (put_else logs r.session k after other)) (names_later logs next (logs k) grows (named k))))
    j
