-- The workers of a run: what they are hired with, what they end with, and all that is told.
use Rattle.std.proofs.Common.{◌≡◌, ℕ, zero, suc, ◌+◌, ◌<◌, ◌≤◌, inl, List, [], ◌∷◌, ◌++◌, length, take, get_or, Bool, true, false, refl, sym, ap, ◌∙◌, subst, arith, append_assoc}
use Rattle.std.specs.Prelude.{All, cond, filter, is_some, map, max, Result, Ok, Err, IfOk, OnOk, ◌==◌}
use Rattle.std.specs.List.{flat_map}
use Rattle.std.proofs.lemmas.Bool.Decides.{nat_tests}
use Rattle.hg_base.specs.declared.fault.NoMemory.{NoMemory}
use Rattle.hg_base.specs.declared.line.Answer.TheVariants.{Swept}
use Rattle.hg_base.specs.declared.line.Line.{Line}
use Rattle.hg_base.specs.declared.report.Kind.{Kind}
use Rattle.hg_base.specs.declared.report.Sweep.{Sweep}
use Rattle.hg_base.specs.declared.statement.Record.{Record}
use Rattle.hg_base.specs.Lists.{Each, greatest, numbers_from}
use Rattle.hg_base.specs.Script.{Script}
use Rattle.hg_base.specs.Transcript.{of_session}
use Rattle.hg_base.proofs.ListFacts.{append_nil, each_keeps}
use Rattle.hg_core.specs.declared.log.LogEntry.{LogEntry}
use Rattle.hg_core.specs.Logs.{current}
use Rattle.hg_rule.specs.New.{EachFrom}
use Rattle.hg_headline.proofs.Running.{none_over, none_at_zero}
use Rattle.hg_transcript.specs.LinesText.{Shown}
use Rattle.hg_script.specs.Lawful.{AreInOrder, IsLawful, IsStatement, MayStand}
use Rattle.hg_script.specs.Rules.{is_open, is_reading}
use Rattle.hg_session.specs.declared.engine.Engine.{Engine}
use Rattle.hg_session.specs.declared.session.Session.{Session}
use Rattle.hg_session.specs.Engines.{engine_sizes}
use Rattle.hg_session.specs.Finished.{logs_of, IsClosed}
use Rattle.hg_session.specs.Opened.{IsNewOf}
use Rattle.hg_session.specs.Replies.{inside}
use Rattle.hg_session.specs.Sessions.{log_of, open_of, cursor_of}
use Rattle.hg_collectors.specs.declared.round_lists.RoundLists.{RoundLists}
use Rattle.hg_collectors.specs.declared.collectors.Collectors.{Collectors}
use Rattle.hg_run.specs.declared.work.Worker.{Worker}
use Rattle.hg_run.specs.Asked.{IsOnTables}
use Rattle.hg_collectors.specs.Collecting.{view_in, HaveMadeAll, told_in}
use Rattle.hg_run.specs.Driven.{AreBack, HasDrivenAll}
use Rattle.hg_exact.specs.Opening.{AreOpen}
use Rattle.hg_collectors.specs.Rounding.{IsRoundBy, AreRounds}
use Rattle.hg_collectors.specs.Telling.{sweep_lines}
use Rattle.hg_run.specs.Working.{AreEnded, AreWilling, HasEnded, HasWorked, IsAskedOf, IsHired, MayFollow, hired, lines_in, sessions_in}
use Rattle.hg_collectors.proofs.Among.{by_kind}
use Rattle.hg_run.proofs.Closes.{by_place, closed_cursors}
use Rattle.hg_run.proofs.Going.{on_tables}
use Rattle.hg_exact.proofs.OpenAfter.{open_other, open_own}

-- ---- lists

pub length_more : {A : Type 0} (xs : List A) (x : A) → length (xs ++ x ∷ []) ≡ length xs + 1
length_more [] x = refl
length_more (y ∷ ys) x = let more = length_more ys x in omega (arith, more)

pub take_more : {A : Type 0} (xs : List A) (i n : ℕ) (d : A) → n ≡ i + 1 → i < length xs → take n xs ≡ take i xs ++ get_or xs i d ∷ []
take_more [] i n d e h = absurd (omega (arith, h))
take_more (x ∷ xs) zero n d e h = let same : n ≡ suc zero = omega (arith, e) in ap (λ m. take m (x ∷ xs)) same
take_more (x ∷ xs) (suc i) n d e h =
    let same : n ≡ suc (suc i) = omega (arith, e) in
    let less : i < length xs = omega (arith, h) in
    ap (λ m. take m (x ∷ xs)) same ∙ ap (λ ys. x ∷ ys) (take_more xs i (suc i) d (omega arith) less)

pub take_all : {A : Type 0} (xs : List A) (n : ℕ) → length xs ≤ n → take n xs ≡ xs
take_all [] zero h = refl
take_all [] (suc n) h = refl
take_all (x ∷ xs) zero h = absurd (omega (arith, h))
take_all (x ∷ xs) (suc n) h = let less : length xs ≤ n = omega (arith, h) in ap (λ ys. x ∷ ys) (take_all xs n less)

pub take_whole : {A : Type 0} (xs ys : List A) → take (length xs) (xs ++ ys) ≡ xs
take_whole [] ys = refl
take_whole (x ∷ xs) ys = ap (λ l. x ∷ l) (take_whole xs ys)

pub each_at : {A : Type 0} (P : A → Type 0) (xs : List A) (k : ℕ) (d : A) → k < length xs → Each P xs → P (get_or xs k d)
each_at P [] k d h e = absurd (omega (arith, h))
each_at P (x ∷ xs) zero d h e = e.0
each_at P (x ∷ xs) (suc k) d h e = each_at P xs k d (omega (arith, h)) e.1

pub each_more : {A : Type 0} (P : A → Type 0) (xs : List A) (x : A) → Each P xs → P x → Each P (xs ++ x ∷ [])
each_more P [] x e p = (p, tt)
each_more P (y ∷ ys) x e p = (e.0, each_more P ys x e.1 p)

each_filter : {A : Type 0} (P : A → Type 0) (f : A → Bool) (xs : List A) → Each P xs → Each P (filter f xs)
each_filter P f [] h = tt
each_filter P f (x ∷ xs) h = go (f x) (each_filter P f xs h.1)
  where
    go : (b : Bool) → Each P (filter f xs) → Each P (cond b (x ∷ filter f xs) (filter f xs))
    go true rest = (h.0, rest)
    go false rest = rest

pub few : {A : Type 0} (f : A → Bool) (xs : List A) → length (filter f xs) ≤ length xs
few f [] = omega arith
few f (x ∷ xs) = go (f x) (few f xs)
  where
    go : (b : Bool) → length (filter f xs) ≤ length xs → length (cond b (x ∷ filter f xs) (filter f xs)) ≤ length (x ∷ xs)
    go true h = omega (arith, h)
    go false h = omega (arith, h)

over_map : {A B : Type 0} (f : A → B) (xs : List A) (k : ℕ) (d : B) → (k < length xs → ⊥) → get_or (map f xs) k d ≡ d
over_map f [] k d h = refl
over_map f (x ∷ xs) zero d h = absurd (h (omega arith))
over_map f (x ∷ xs) (suc k) d h = over_map f xs k d (λ q. h (omega (arith, q)))

-- ---- who is hired

abbrev pub worker_of : Script → ℕ → Session → Worker
worker_of script j s = record { session = s; records = of_session j script.records; transcript = record { tables = script.tables; lines = [] }; refused = false }

pub hired_more : (script : Script) (j : ℕ) (ss : List Session) (s : Session) (n : ℕ) → n ≡ j + length ss → hired script j (ss ++ s ∷ []) ≡ hired script j ss ++ worker_of script n s ∷ []
hired_more script j [] s n e = let same : j ≡ n = omega (arith, e) in ap (λ m. worker_of script m s ∷ []) same
hired_more script j (x ∷ ss) s n e = ap (λ ws. worker_of script j x ∷ ws) (hired_more script (suc j) ss s n (omega (arith, e)))

pub hired_many : (script : Script) (j : ℕ) (ss : List Session) → length (hired script j ss) ≡ length ss
hired_many script j [] = refl
hired_many script j (s ∷ ss) = let more = hired_many script (suc j) ss in omega (arith, more)

-- the records of one session are in order where all are
follow : (j : ℕ) (before rs : List Record) → AreInOrder before rs → MayFollow (is_open j before) (is_reading j before) (of_session j rs)
follow j before [] h = tt
follow j before (r ∷ rs) h = go (follow j (before ++ r ∷ []) rs h.1) (r.session == j) refl
  where
    go : MayFollow (is_open j (before ++ r ∷ [])) (is_reading j (before ++ r ∷ [])) (of_session j rs) → (b : Bool) → (r.session == j) ≡ b →
        MayFollow (is_open j before) (is_reading j before) (cond b (r ∷ of_session j rs) (of_session j rs))
    go later true e =
        let same : r.session ≡ j = grind (arith, nat_tests, e) in
        let own = open_own j before r same in (
          subst (λ i. MayStand (is_open i before) (is_reading i before) r.statement) same h.0,
          subst (λ p. p) (λ i. MayFollow (own.0 i) (own.1 i) (of_session j rs)) later,
        )
    go later false e = let other = open_other j before r e in subst (λ p. p) (λ i. MayFollow (other.0 i) (other.1 i) (of_session j rs)) later

module _ (e : Engine) (quota : ℕ) (script : Script) (lawful : IsLawful script) (tables : (engine_sizes e).tables ≡ length script.tables) (room : (j : ℕ) →
    length (of_session j script.records) ≤ quota) where
  hired_one : (j : ℕ) (s : Session) → IsNewOf e quota j s → IsHired e (worker_of script j s)
  hired_one j s n = record {
    ready = record {
      own = n.own;
      asked = each_filter (IsAskedOf (engine_sizes e).tables) (λ (r : Record). r.session == j) script.records
          (each_keeps (IsStatement script.tables) (IsAskedOf (engine_sizes e).tables)
          (λ r is. record { some = is.some; on = subst (λ m. IsOnTables m r.statement) (sym tables) (on_tables script.tables r.statement is.fits is.widths) }) script.records lawful.statements);
      within = false;
      opens = subst (λ p. p) (λ i. AreOpen false (sym none i) (sym closed i)) refl;
      may = subst (λ b. MayFollow false b (of_session j script.records)) (sym none) (follow j [] script.records lawful.order);
      left = (let here = room j in let left = n.left in omega (arith, here, left));
    };
    cursor = n.cursor;
    most = (let here = few (λ (r : Record). r.session == j) script.records in let all = lawful.records in omega (arith, here, all));
    none = refl;
    willing = refl;
  }
    where
      none : is_some (cursor_of s) ≡ false
      none = ap (λ o. is_some o) n.cursor

      closed : is_some (open_of s) ≡ false
      closed = ap (λ log. is_some (current log)) n.log

  hired_from : (j : ℕ) (list : List Session) → EachFrom (IsNewOf e quota) j list → (k : ℕ) (d : Worker) → k < length (hired script j list) → IsHired e (get_or (hired script j list) k d)
  hired_from j [] r k d h = absurd (omega (arith, h))
  hired_from j (s ∷ ss) r zero d h = hired_one j s r.0
  hired_from j (s ∷ ss) r (suc k) d h = hired_from (suc j) ss r.1 k d (omega (arith, h))

  pub hired_all : (list : List Session) → EachFrom (IsNewOf e quota) 1 list → All (IsHired e) (hired script 1 list)
  hired_all list r = hired_from 1 list r

-- ---- sessions that ran nothing, and those whose workers are done

pub new_closed : (e : Engine) (quota j : ℕ) (list : List Session) → EachFrom (IsNewOf e quota) j list → EachFrom (IsClosed e) j list
new_closed e quota j [] r = tt
new_closed e quota j (s ∷ ss) r = (record { own = r.0.own; number_is = r.0.number_is; closed = ap current r.0.log }, new_closed e quota (suc j) ss r.1)

-- they are back as they were
pub new_back : (e : Engine) (quota : ℕ) (old now : List Session) → now ≡ old → EachFrom (IsNewOf e quota) 1 old → AreBack e old now
new_back e quota old now same new =
    let closed : EachFrom (IsClosed e) 1 now = subst (EachFrom (IsClosed e) 1) (sym same) (new_closed e quota 1 old new) in
    record { many = ap (λ (l : List Session). length l) same; closed = closed; cursors = closed_cursors e 1 now closed }

pub ended_each : (e : Engine) (vs ws : List Worker) → length ws ≡ length vs → ((k : ℕ) (d : Worker) → k < length vs → HasEnded e (get_or vs k d) (get_or ws k d)) → AreEnded e vs ws
ended_each e [] [] m f = tt
ended_each e [] (w ∷ ws) m f = absurd (omega (arith, m))
ended_each e (v ∷ vs) [] m f = absurd (omega (arith, m))
ended_each e (v ∷ vs) (w ∷ ws) m f = (f zero v (omega arith), ended_each e vs ws (omega (arith, m)) (λ k d h. f (suc k) d (omega (arith, h))))

pub closed_from : (e : Engine) (quota : ℕ) (script : Script) (j : ℕ) (list : List Session) (ws : List Worker) → EachFrom (IsNewOf e quota) j list →
    AreEnded e (hired script j list) ws → EachFrom (IsClosed e) j (sessions_in ws)
closed_from e quota script j [] [] r a = tt
closed_from e quota script j [] (w ∷ ws) r a = absurd a
closed_from e quota script j (s ∷ ss) [] r a = absurd a
closed_from e quota script j (s ∷ ss) (w ∷ ws) r a = (record { own = a.0.own; number_is = a.0.number_is ∙ r.0.number_is; closed = a.0.closed }, closed_from e quota script (suc j) ss ws r.1 a.1)

pub tables_from : (e : Engine) (script : Script) (j : ℕ) (list : List Session) (ws : List Worker) → AreEnded e (hired script j list) ws → Each (λ (w : Worker). w.transcript.tables ≡ script.tables) ws
tables_from e script j [] [] a = tt
tables_from e script j [] (w ∷ ws) a = absurd a
tables_from e script j (s ∷ ss) [] a = absurd a
tables_from e script j (s ∷ ss) (w ∷ ws) a = (a.0.tables, tables_from e script (suc j) ss ws a.1)

pub sessions_many : (ws : List Worker) → length (sessions_in ws) ≡ length ws
sessions_many [] = refl
sessions_many (w ∷ ws) = let more = sessions_many ws in omega (arith, more)

-- ---- their lines

pub lines_more : (ws : List Worker) (w : Worker) → lines_in (ws ++ w ∷ []) ≡ lines_in ws ++ w.transcript.lines
lines_more [] w = append_nil w.transcript.lines
lines_more (v ∷ vs) w = ap (λ lines. v.transcript.lines ++ lines) (lines_more vs w) ∙ sym (append_assoc v.transcript.lines (lines_in vs) w.transcript.lines)

abbrev pub sweep_line : ℕ → Sweep → Line
sweep_line n sweep = record { session = 0; place = n; reply = inside (Swept sweep) }

pub sweeps_more : (j : ℕ) (sweeps : List Sweep) (sweep : Sweep) (n : ℕ) → n ≡ j + length sweeps → sweep_lines j (sweeps ++ sweep ∷ []) ≡ sweep_lines j sweeps ++ sweep_line n sweep ∷ []
sweeps_more j [] sweep n e = let same : j ≡ n = omega (arith, e) in ap (λ m. sweep_line m sweep ∷ []) same
sweeps_more j (x ∷ sweeps) sweep n e = ap (λ lines. sweep_line j x ∷ lines) (sweeps_more (suc j) sweeps sweep n (omega (arith, e)))

abbrev text_of : Worker → List Line
text_of w = w.transcript.lines

-- the lines of session j, whose worker stands at j - 1
abbrev pub lines_at : List Worker → ℕ → List Line
lines_at ws zero = []
lines_at ws (suc k) = get_or (map text_of ws) k []

flat_from : (f : ℕ → List Line) (j : ℕ) (ws : List Worker) → ((k n : ℕ) → n ≡ j + k → k < length ws → f n ≡ get_or (map text_of ws) k []) → flat_map f (numbers_from j (length ws)) ≡ lines_in ws
flat_from f j [] p = refl
flat_from f j (w ∷ ws) p =
    let here : f j ≡ w.transcript.lines = p zero j (omega arith) (omega arith) in
    let later : flat_map f (numbers_from (suc j) (length ws)) ≡ lines_in ws = flat_from f (suc j) ws (λ k n e h. p (suc k) n (omega (arith, e)) (omega (arith, h))) in
    λ i. here i ++ later i

pub flat_lines : (ws : List Worker) → flat_map (lines_at ws) (numbers_from 1 (length ws)) ≡ lines_in ws
flat_lines ws = flat_from (lines_at ws) 1 ws (λ k n e h. let same : n ≡ suc k = omega (arith, e) in ap (lines_at ws) same)

-- what is gathered, where nobody was refused memory
pub on_gathered : (all : List Line) (W : Type 0) (Q : List Line → Type 0) (r : Result Shown NoMemory) → IfOk r (λ (t : Shown). t.lines ≡ all) → OnOk r W →
    ((lines : List Line) → lines ≡ all → W → Q lines) → IfOk r (λ (t : Shown). Q t.lines)
on_gathered all W Q (Ok t) is w f = f t.lines is w
on_gathered all W Q (Err e) is w f = tt

-- ---- what each session has worked

nothing_worked : (buckets : ℕ) → HasWorked buckets [] [] [] []
nothing_worked buckets = record { log = []; shape = tt; tells = refl; closes = inl (refl, refl) }

none_worked : (buckets : ℕ) (old : List LogEntry) (rs : List Record) (lines : List Line) (new : List LogEntry) → old ≡ [] → rs ≡ [] → lines ≡ [] → new ≡ [] → HasWorked buckets old rs lines new
none_worked buckets old rs lines new a b c d =
    subst (λ (l : List LogEntry). HasWorked buckets l rs lines new) (sym a)
    (subst (λ (l : List Record). HasWorked buckets [] l lines new) (sym b)
    (subst (λ (l : List Line). HasWorked buckets [] [] l new) (sym c)
    (subst (λ (l : List LogEntry). HasWorked buckets [] [] [] l) (sym d) (nothing_worked buckets))))

worked_from : (e : Engine) (script : Script) (j : ℕ) (list : List Session) (ws : List Worker) → AreEnded e (hired script j list) ws → Each (λ (w : Worker). w.refused ≡ false) ws →
    (k n : ℕ) → n ≡ j + k → k < length list →
    HasWorked (engine_sizes e).buckets (get_or (map log_of list) k []) (of_session n script.records) (get_or (map text_of ws) k []) (get_or (map log_of (sessions_in ws)) k [])
worked_from e script j [] ws a w k n is h = absurd (omega (arith, h))
worked_from e script j (s ∷ ss) [] a w k n is h = absurd a
worked_from e script j (s ∷ ss) (x ∷ ws) a w zero n is h =
    let same : j ≡ n = omega (arith, is) in
    subst (λ m. HasWorked (engine_sizes e).buckets (log_of s) (of_session m script.records) x.transcript.lines (log_of x.session)) same (a.0.worked w.0)
worked_from e script j (s ∷ ss) (x ∷ ws) a w (suc k) n is h = worked_from e script (suc j) ss ws a.1 w.1 k n (omega (arith, is)) (omega (arith, h))

pub driven_all : (e : Engine) (long rounds : ℕ) (script : Script) (list : List Session) (ws : List Worker) (before after : Collectors) (told : RoundLists) (all : List Line) →
    IsLawful script → length list ≡ max 1 (greatest (map (λ (r : Record). r.session) script.records)) →
    length ws ≡ length list → AreEnded e (hired script 1 list) ws → HaveMadeAll (engine_sizes e) long rounds before told after → AreWilling ws told →
    all ≡ lines_in ws ++ (sweep_lines 1 told.group.sweeps.items ++ (sweep_lines 1 told.table.sweeps.items ++ sweep_lines 1 told.interval.sweeps.items)) →
    HasDrivenAll (engine_sizes e) long rounds script.records list before all (sessions_in ws) after
driven_all e long rounds script list ws before after told all lawful sessions same ended made willing is = record {
  lines = lines_at ws;
  sweeps = λ kind. (told_in kind told).sweeps.items;
  told = is ∙ ap (λ lines. lines ++ (sweep_lines 1 told.group.sweeps.items ++ (sweep_lines 1 told.table.sweeps.items ++ sweep_lines 1 told.interval.sweeps.items))) (sym flat);
  worked = worked;
  count = λ kind. ap (λ sweeps. length sweeps) (told_is kind).0 ∙ (told_is kind).1;
  made = λ kind. subst (λ sweeps. AreRounds (IsRoundBy kind (engine_sizes e) long) (view_in kind before) sweeps (view_in kind after)) (sym (told_is kind).0) (made kind).made;
}
  where
    kept : (kind : Kind) → (told_in kind told).refused ≡ false
    kept = by_kind (λ kind. (told_in kind told).refused ≡ false) willing.group willing.table willing.interval

    told_is : (kind : Kind) → ((told_in kind told).sweeps.items ≡ (made kind).sweeps) × (length (made kind).sweeps ≡ rounds)
    told_is kind = (made kind).told_is (kept kind)

    flat : flat_map (lines_at ws) (numbers_from 1 (length list)) ≡ lines_in ws
    flat = ap (λ n. flat_map (lines_at ws) (numbers_from 1 n)) (sym same) ∙ flat_lines ws

    worked : (j : ℕ) → HasWorked (engine_sizes e).buckets (logs_of list j) (of_session j script.records) (lines_at ws j) (logs_of (sessions_in ws) j)
    worked = by_place (λ j. HasWorked (engine_sizes e).buckets (logs_of list j) (of_session j script.records) (lines_at ws j) (logs_of (sessions_in ws) j)) list
        (none_worked (engine_sizes e).buckets [] (of_session 0 script.records) [] [] refl
        (none_at_zero script.records (each_keeps (IsStatement script.tables) (λ (r : Record). 1 ≤ r.session) (λ r s. s.some) script.records lawful.statements)) refl refl)
        (λ k h. worked_from e script 1 list ws ended willing.each k (suc k) (omega arith) h)
        (λ k h. let few_sessions : greatest (map (λ (r : Record). r.session) script.records) < suc k = beyond k h in
        none_worked (engine_sizes e).buckets (logs_of list (suc k)) (of_session (suc k) script.records) (lines_at ws (suc k)) (logs_of (sessions_in ws) (suc k))
        (over_map log_of list k [] h)
        (none_over script.records (suc k) few_sessions)
        (over_map text_of ws k [] (λ q. h (omega (arith, q, same))))
        (over_map log_of (sessions_in ws) k [] (λ q. let n = sessions_many ws in h (omega (arith, q, same, n)))))
      where
        beyond : (k : ℕ) → (k < length list → ⊥) → greatest (map (λ (r : Record). r.session) script.records) < suc k
        beyond k h = go (greatest (map (λ (r : Record). r.session) script.records)) sessions
          where
            go : (g : ℕ) → length list ≡ max 1 g → g < suc k
            go g is = omega (arith, h, is)
