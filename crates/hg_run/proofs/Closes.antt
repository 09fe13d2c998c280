-- The end of a replay: what is open is rolled back, and what is counted.
use Rattle.std.proofs.Common.{◌≡◌, ℕ, zero, suc, ◌+◌, ◌<◌, ◌≤◌, ◌≢◌, inl, inr, List, [], ◌∷◌, length, Bool, true, false, None, refl, sym, ap, ◌∙◌, subst, arith}
use Rattle.std.specs.Prelude.{get_or, map, nat_lt, is_some, IsSome}
use Rattle.std.proofs.lemmas.Bool.Decides.{nat_tests}
use Rattle.hg_base.specs.declared.statement.Statement.TheVariants.{CursorClose, Rollback}
use Rattle.hg_base.specs.declared.report.Kind.{Kind}
use Rattle.hg_base.specs.declared.report.Kind.TheVariants.{Group, Table, Interval}
use Rattle.hg_base.specs.declared.line.Reply.{Reply}
use Rattle.hg_base.specs.declared.line.Totals.{Totals}
use Rattle.hg_base.specs.History.{History}
use Rattle.hg_base.specs.Lists.{Each}
use Rattle.hg_core.specs.Logs.{current, newest_of, own_writes}
use Rattle.hg_core.specs.Reading.{UndoesAll, is_alone, log_with}
use Rattle.hg_core.proofs.Answering.{not_alone}
use Rattle.hg_core.specs.Sums.{sum_below}
use Rattle.hg_rule.specs.declared.view.View.{View}
use Rattle.hg_rule.specs.declared.view.Sizes.{Sizes}
use Rattle.hg_rule.specs.declared.view.Sight.{Sight}
use Rattle.hg_rule.specs.declared.view.Sight.TheVariants.{Saw}
use Rattle.hg_rule.specs.Facts.{IsAmong, StartsWith, groups, new_pass}
use Rattle.hg_rule.specs.declared.passes.CollectorPass.{CollectorPass}
use Rattle.hg_rule.specs.New.{EachFrom, IsNewPass}
use Rattle.hg_rule.specs.Seats.{BoardId, pass_view}
use Rattle.hg_rule.specs.Reading.{passes_in}
use Rattle.hg_rule.specs.Views.{session, pass, pass_there, first_in}
use Rattle.hg_core.specs.Counters.{removed_all}
use Rattle.hg_headline.specs.Counted.{Closes}
use Rattle.hg_headline.specs.Totalled.{WasLeftCut}
use Rattle.hg_headline.specs.Following.{AreTotalsBy}
use Rattle.hg_headline.proofs.Closing.{closes_rollback}
use Rattle.hg_session.specs.declared.engine.Engine.{Engine}
use Rattle.hg_session.specs.declared.session.Session.{Session}
use Rattle.hg_session.specs.Engines.{engine_board_id, engine_sizes}
use Rattle.hg_session.specs.Sessions.{IsOf, view_of, number_of, log_of, open_of, seen_by, cursor_of}
use Rattle.hg_session.proofs.Cursors.{no_cursor, reads_at, some_cursor}
use Rattle.hg_session.specs.Opened.{IsNewOf}
use Rattle.hg_session.specs.declared.engine.Passes.{Passes}
use Rattle.hg_session.specs.Ended.{logs_in, visits_in}
use Rattle.hg_session.specs.Passing.{visits_of}
use Rattle.hg_session.specs.Settled.{RemovesForTables}
use Rattle.hg_session.specs.Finished.{logs_of, IsClosed}
use Rattle.hg_session.specs.Replies.{Answers}
use Rattle.hg_session.specs.Visited.{AreTotals}
use Rattle.hg_run.specs.Listed.{IsPlaced, AreReady}
use Rattle.hg_run.specs.Collecting.{removed_in}
use Rattle.hg_run.specs.Heard.{HasSeen}
use Rattle.hg_run.proofs.Hearing.{heard_none}
use Rattle.hg_collectors.proofs.Rounds.{starts_more}
use Rattle.hg_run.proofs.Listing.{by_two, log_at, map_over}
use Rattle.hg_exact.proofs.OpenAfter.{none_open, open_after}

-- ---- a row, place by place

pub each_from_at : {A : Type 0} (P : ℕ → A → Type 0) (d : A) (i : ℕ) (xs : List A) → EachFrom P i xs → (k n : ℕ) → n ≡ i + k → k < length xs → P n (get_or xs k d)
each_from_at P d i [] r k n e h = absurd (omega (arith, h))
each_from_at P d i (x ∷ xs) r zero n e h = let same : i ≡ n = omega (arith, e) in subst (λ m. P m x) same r.0
each_from_at P d i (x ∷ xs) r (suc k) n e h = each_from_at P d (suc i) xs r.1 k n (omega (arith, e)) (omega (arith, h))

pub each_from_of : {A : Type 0} (P : ℕ → A → Type 0) (i : ℕ) (xs : List A) → ((d : A) (k n : ℕ) → n ≡ i + k → k < length xs → P n (get_or xs k d)) → EachFrom P i xs
each_from_of P i [] f = tt
each_from_of P i (x ∷ xs) f = (f x zero i (omega arith) (omega arith), each_from_of P (suc i) xs (λ d k n e h. f d (suc k) n (omega (arith, e)) (omega (arith, h))))

-- what holds of each session's log holds of all logs
pub by_place : (P : ℕ → Type 0) (xs : List Session) → P zero → ((k : ℕ) → k < length xs → P (suc k)) → ((k : ℕ) → (k < length xs → ⊥) → P (suc k)) → (j : ℕ) → P j
by_place P xs none within beyond zero = none
by_place P xs none within beyond (suc k) = go (nat_lt k (length xs)) refl
  where
    go : (b : Bool) → nat_lt k (length xs) ≡ b → P (suc k)
    go true e = let below : k < length xs = grind (arith, nat_tests, e) in within k below
    go false e = beyond k (λ q. grind (arith, nat_tests, e, q))

-- ---- the first

pub new_logs : (e : Engine) (quota : ℕ) (list : List Session) → EachFrom (IsNewOf e quota) 1 list → (j : ℕ) → logs_of list j ≡ []
new_logs e quota list row = by_place (λ j. logs_of list j ≡ []) list refl
    (λ k h. from 1 list row k)
    (λ k over. map_over log_of list k over)
  where
    from : (i : ℕ) (ys : List Session) → EachFrom (IsNewOf e quota) i ys → (k : ℕ) → get_or (map log_of ys) k [] ≡ []
    from i [] r k = refl
    from i (y ∷ ys) r zero = r.0.log
    from i (y ∷ ys) r (suc k) = from (suc i) ys r.1 k

pub new_ready : (e : Engine) (quota : ℕ) (list : List Session) → length list ≡ (engine_sizes e).sessions → 0 < length list → EachFrom (IsNewOf e quota) 1 list → AreReady e 0 (λ j. quota) list
new_ready e quota list many some row = record {
  many = many;
  within = some;
  placed = λ d k h. let n = each_from_at (IsNewOf e quota) d 1 list row k (suc k) (omega arith) h in record { own = n.own; number_is = n.number_is };
  left_is = λ d k h. let n = each_from_at (IsNewOf e quota) d 1 list row k (suc k) (omega arith) h in (let left = n.left in omega (arith, left));
  heard = λ d. heard_none (logs_of list) (view_of (get_or list 0 d)) (new_logs e quota list row);
}

-- the passes of a new engine removed nothing
pub new_removed : (e : Engine) (passes : Passes) (k : Kind) → IsNewPass (engine_board_id e) 0 passes.group × IsNewPass (engine_board_id e) 1 passes.table ×
    IsNewPass (engine_board_id e) 2 passes.interval → removed_in k passes ≡ 0
new_removed e passes k h =
    let a = none (engine_board_id e) 0 passes.group h.0 in
    let b = none (engine_board_id e) 1 passes.table h.1 in
    let d = none (engine_board_id e) 2 passes.interval h.2 in
    omega (arith, a, b, d)
  where
    none : (t : BoardId) (p : ℕ) (c : CollectorPass) → IsNewPass t p c → removed_all k (pass (pass_view c)).visits ≡ 0
    none t p c n = ap (λ m. removed_all k (pass_there (first_in m.0.parts)).visits) n.1

-- and their parts are new
pub new_part_of : (t : BoardId) (p : ℕ) (c : CollectorPass) → IsNewPass t p c → pass (pass_view c) ≡ new_pass
new_part_of t p c n = ap (λ m. pass_there (first_in m.0.parts)) n.1

-- ---- rolling back

-- a cursor that is open is closed, whose transaction wrote nothing
pub cursor_closed : (e : Engine) (s t : Session) (reply : Reply) → IsOf e s → IsSome (cursor_of s) → Answers (engine_sizes e) (view_of s) CursorClose reply (view_of t) → Closes (log_of s) (log_of t)
cursor_closed e s t reply own reads a =
    let one = some_cursor (cursor_of s) reads in
    let r = reads_at e s one.0 own one.1 in
    let written : UndoesAll (own_writes (log_of s)) [] = subst (λ ws. UndoesAll ws []) (sym r.unwritten) (tt, λ rid. refl) in
    let within : is_alone (current (log_of s)) CursorClose ≡ false = not_alone (current (log_of s)) CursorClose refl in
    inr (subst IsSome (sym r.opens) refl, ([], written, a.log ∙ ap (λ b. log_with b (engine_sizes e).buckets a.u CursorClose reply (log_of s)) within))

pub rolled_back : (z : Sizes) (v w : View) (reply : Reply) → IsSome (current (session v).log) → Answers z v Rollback reply w → Closes (session v).log (session w).log × (current (session w).log ≡ None)
rolled_back z v w reply opened a = (
  closes_rollback z.buckets a.u (session v).log (session w).log reply opened a.fits a.log,
  none_open (current (session w).log) (ap (λ l. is_some (current l)) a.log ∙ open_after z.buckets a.u Rollback reply (session v).log a.fits),
)

-- the sessions below n are closed, and those from n on are as they were
pub record ArePartlyClosed (e : Engine) (old now : List Session) (n : ℕ) : Type 0 where
  pub many : length now ≡ length old
  pub below : (d : Session) (k : ℕ) → k < n → k < length old → IsClosed e (suc k) (get_or now k d) × Closes (log_of (get_or old k d)) (log_of (get_or now k d))
  pub kept : (d : Session) (k : ℕ) → StartsWith (seen_by (get_or now k d)) (seen_by (get_or old k d))
  pub above : (d : Session) (k : ℕ) → n ≤ k → get_or now k d ≡ get_or old k d

-- what the closing of the session at i says
pub record HasClosed (e : Engine) (i : ℕ) (old new : List Session) : Type 0 where
  pub many : length new ≡ length old
  pub closed : (d : Session) → open_of (get_or new i d) ≡ None
  pub closes : (d : Session) → Closes (log_of (get_or old i d)) (log_of (get_or new i d))
  pub number : (d : Session) → number_of (get_or new i d) ≡ number_of (get_or old i d)
  pub kept : (d : Session) → StartsWith (seen_by (get_or new i d)) (seen_by (get_or old i d))
  pub rest : (d : Session) (k : ℕ) → k ≢ i → get_or new k d ≡ get_or old k d
  pub own : (d : Session) → IsOf e (get_or new i d)

pub partly_more : (e : Engine) (i n : ℕ) (old now new : List Session) → n ≡ i + 1 → i < length old → ((d : Session) (k : ℕ) → k < length old → IsPlaced e k (get_or old k d)) →
    HasClosed e i now new → ArePartlyClosed e old now i → ArePartlyClosed e old new n
partly_more e i n old now new is within placed c p = record {
  many = c.many ∙ p.many;
  below = λ d k less inside. by_two i i k (λ k. k < n → k < length old → IsClosed e (suc k) (get_or new k d) × Closes (log_of (get_or old k d)) (log_of (get_or new k d))) (here d) (here d)
      (λ apart _ less inside. let lower : k < i = omega (arith, less, is, apart) in
      subst (λ s. IsClosed e (suc k) s × Closes (log_of (get_or old k d)) (log_of s)) (sym (c.rest d k apart)) (p.below d k lower inside)) less inside;
  kept = λ d k. by_two i i k (λ k. StartsWith (seen_by (get_or new k d)) (seen_by (get_or old k d))) (more_seen d) (more_seen d)
      (λ apart _. subst (λ s. StartsWith (seen_by s) (seen_by (get_or old k d))) (sym (c.rest d k apart)) (p.kept d k));
  above = λ d k more. let over : i ≤ k = omega (arith, more, is) in c.rest d k (λ same. omega (arith, more, is, same)) ∙ p.above d k over;
}
  where
    was : (d : Session) → get_or now i d ≡ get_or old i d
    was d = let same : i ≤ i = omega arith in p.above d i same

    more_seen : (d : Session) → StartsWith (seen_by (get_or new i d)) (seen_by (get_or old i d))
    more_seen d = starts_more (seen_by (get_or old i d)) (seen_by (get_or now i d)) (seen_by (get_or new i d)) (p.kept d i) (c.kept d)

    here : (d : Session) → i < n → i < length old → IsClosed e (suc i) (get_or new i d) × Closes (log_of (get_or old i d)) (log_of (get_or new i d))
    here d less inside = (
      record { own = c.own d; number_is = c.number d ∙ ap number_of (was d) ∙ (placed d i within).number_is; closed = c.closed d },
      subst (λ s. Closes (log_of s) (log_of (get_or new i d))) (was d) (c.closes d),
    )

pub partly_row : (e : Engine) (old now : List Session) (n : ℕ) → length old ≤ n → ArePartlyClosed e old now n → EachFrom (IsClosed e) 1 now
partly_row e old now n most p = each_from_of (IsClosed e) 1 now (λ d k m is within.
    let many = p.many in
    let inside : k < length old = omega (arith, within, many) in
    let less : k < n = omega (arith, inside, most) in
    let same : suc k ≡ m = omega (arith, is) in
    subst (λ j. IsClosed e j (get_or now k d)) same (p.below d k less inside).0)

pub partly_logs : (e : Engine) (old now : List Session) (n : ℕ) → length old ≤ n → ArePartlyClosed e old now n → (j : ℕ) → Closes (logs_of old j) (logs_of now j)
partly_logs e old now n most p = by_place (λ j. Closes (logs_of old j) (logs_of now j)) old (inl (refl, refl))
    (λ k within. at k within)
    (λ k over.
    let gone : logs_of old (suc k) ≡ [] = map_over log_of old k over in
    let many = p.many in
    let too : logs_of now (suc k) ≡ [] = map_over log_of now k (λ q. over (omega (arith, q, many))) in
    inl (ap current gone, too ∙ sym gone))
  where
    one_in : (xs : List Session) (k : ℕ) → k < length xs → Session
    one_in [] k h = absurd (omega (arith, h))
    one_in (x ∷ xs) k h = x

    at : (k : ℕ) → k < length old → Closes (logs_of old (suc k)) (logs_of now (suc k))
    at k within =
        let d = one_in old k within in
        let many = p.many in
        let inside : k < length now = omega (arith, within, many) in
        let less : k < n = omega (arith, within, most) in
        subst (λ l. Closes l (logs_of now (suc k))) (sym (log_at d old k within)) (subst (λ l. Closes (log_of (get_or old k d)) l) (sym (log_at d now k inside)) (p.below d k less within).1)

-- so no cursor is open
pub closed_cursors : (e : Engine) (j : ℕ) (list : List Session) → EachFrom (IsClosed e) j list → Each (λ s. cursor_of s ≡ None) list
closed_cursors e j [] row = tt
closed_cursors e j (s ∷ list) row = (no_cursor e s row.0.own row.0.closed, closed_cursors e (suc j) list row.1)

-- ---- counting

-- where no visit came for groups or intervals since, and none for tables was lost
pub record HasSettled (passes : Passes) (v : View) : Type 0 where
  pub three : passes_in v.parts ≡ 3
  pub removed : (p : ℕ) → RemovesForTables (visits_of passes p) (visits_in v p)

three_of : (n : ℕ) (f : ℕ → ℕ) → n ≡ 3 → sum_below n f ≡ f 0 + f 1 + f 2
three_of n f e = ap (λ n. sum_below n f) e ∙ (let s : sum_below 3 f ≡ 0 + f 0 + f 1 + f 2 = refl in omega (arith, s))

pub closed_totals : (z : Sizes) (v : View) (passes : Passes) (totals : Totals) (a : AreTotals z v totals) →
    ((b : ℕ) → b < z.buckets → WasLeftCut z.buckets (newest_of z.sessions (logs_in v)) (passes_in v.parts) (visits_in v) b) →
    HasSettled passes v → AreTotalsBy z.sessions a.history (logs_in v) (λ kind. removed_in kind passes) totals
closed_totals z v passes totals a settled s =
    let zero_is = s.removed 0 in
    let one_is = s.removed 1 in
    let two_is = s.removed 2 in
    record {
      made = a.tells.made;
      undone = a.tells.undone;
      group = (let t = a.tells.group in let k = three_of (passes_in v.parts) (λ p. removed_all Group (visits_in v p)) s.three in let x = zero_is.group in let y = one_is.group in
          let w = two_is.group in omega (arith, t, k, x, y, w));
      table = (let t = a.tells.table in let k = three_of (passes_in v.parts) (λ p. removed_all Table (visits_in v p)) s.three in let x = zero_is.table in let y = one_is.table in
          let w = two_is.table in omega (arith, t, k, x, y, w));
      interval = (let t = a.tells.interval in let k = three_of (passes_in v.parts) (λ p. removed_all Interval (visits_in v p)) s.three in let x = zero_is.interval in
          let y = one_is.interval in let w = two_is.interval in omega (arith, t, k, x, y, w));
      left = a.tells.left (λ b below. subst (λ n. WasLeftCut z.buckets n (passes_in v.parts) (visits_in v) b) (sym a.newest) (settled b below));
      balance = a.tells.balance;
    }

-- ---- what was seen is in the history

pub some_in : (xs : List Session) (k : ℕ) → k < length xs → Session
some_in [] k h = absurd (omega (arith, h))
some_in (x ∷ xs) k h = x

pub among_each : (P : Session → Type 0) (d : Session) (xs : List Session) (k : ℕ) → k < length xs → Each P xs → P (get_or xs k d)
among_each P d [] k h e = absurd (omega (arith, h))
among_each P d (x ∷ xs) zero h e = e.0
among_each P d (x ∷ xs) (suc k) h e = among_each P d xs k (omega (arith, h)) e.1

pub seen_within : (seen m : ℕ) (sights : List Sight) → HasSeen seen sights → ((h : History) → IsAmong (Saw (groups h)) sights → length h ≤ m) → seen ≤ m
seen_within seen m sights (inl e) f = omega (arith, e)
seen_within seen m sights (inr (h, e, i)) f = let k = f h i in omega (arith, e, k)
