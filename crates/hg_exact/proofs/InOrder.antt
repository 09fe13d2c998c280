-- The records in the order of their lines: what holds of the script's records and of rounds holds of each, they are few, and each
-- may stand where it does, a fetch behind its cursor.
use Rattle.std.proofs.Common.{◌≡◌, ℕ, zero, suc, ◌+◌, ◌*◌, ◌<◌, ◌≤◌, List, [], ◌∷◌, ◌++◌, length, Bool, true, false, Option, Some, None, refl, sym, ap, ◌∙◌, subst, arith, append_assoc, length-append}
use Rattle.std.specs.Prelude.{cond, map, nat_lt, if◌then◌else◌, ◌==◌, ◌&&◌, ⊤}
use Rattle.std.specs.List.{flat_map}
use Rattle.std.specs.Option.{option_or}
use Rattle.std.proofs.lemmas.List.{length-map}
use Rattle.std.proofs.lemmas.Bool.Decides.{Decides-eqb, nat_tests}
use Rattle.hg_base.specs.declared.report.Kind.{Kind}
use Rattle.hg_base.specs.declared.report.Kind.TheVariants as kinds
use Rattle.hg_base.specs.declared.rid.TableId.{TableId}
use Rattle.hg_base.specs.declared.statement.Statement.{Statement}
use Rattle.hg_base.specs.declared.statement.Statement.TheVariants.{Fetch, Gc}
use Rattle.hg_base.specs.declared.statement.Record.{Record}
use Rattle.hg_base.specs.Lists.{Each, Ascends, greatest, numbers_from}
use Rattle.hg_base.specs.Script.{Mode, replay, run}
use Rattle.hg_base.specs.Text.{cursor_before, opens}
use Rattle.hg_base.specs.Transcript.{in_order, of_session, rounds_of, sessions_of}
use Rattle.hg_base.proofs.ListFacts.{append_nil, each_append, not_equal}
use Rattle.hg_script.specs.Lawful.{AreInOrder, MayStand}
use Rattle.hg_script.specs.Rules.{is_open, is_reading, opened, reading}
use Rattle.hg_headline.proofs.Parts.{ascends_over, ascends_rest}
use Rattle.hg_exact.specs.Modes.{rounds_beside}
use Rattle.hg_exact.proofs.Counts.{as_many_numbers}
use Rattle.hg_exact.proofs.OpenAfter.{open_other, open_own}

-- ---- what holds of each

-- a round of a collector beside the sessions, as a record
abbrev pub round : Kind → ℕ → Record
round kind n = record { place = n; session = 0; statement = Gc kind }

each_own : (P : Record → Type 0) (j : ℕ) (records : List Record) → Each P records → Each P (of_session j records)
each_own P j [] e = tt
each_own P j (r ∷ rs) e = go (r.session == j) (each_own P j rs e.1)
  where
    go : (b : Bool) → Each P (of_session j rs) → Each P (cond b (r ∷ of_session j rs) (of_session j rs))
    go true k = (e.0, k)
    go false k = k

each_sessions : (P : Record → Type 0) (records : List Record) (js : List ℕ) → Each P records → Each P (flat_map (λ j. of_session j records) js)
each_sessions P records [] e = tt
each_sessions P records (j ∷ js) e = each_append P (of_session j records) (flat_map (λ j. of_session j records) js) (each_own P j records e) (each_sessions P records js e)

each_round : (P : Record → Type 0) (kind : Kind) (n many most : ℕ) → n + many ≤ suc most → ((m : ℕ) → m ≤ most → P (round kind m)) → Each P (map (round kind) (numbers_from n many))
each_round P kind n zero most k f = tt
each_round P kind n (suc many) most k f = (f n (omega (arith, k)), each_round P kind (suc n) many most (omega (arith, k)) f)

pub each_in_order : (P : Record → Type 0) (mode : Mode) (records : List Record) → Each P records → ((kind : Kind) (m : ℕ) → m ≤ rounds_beside mode → P (round kind m)) → Each P (in_order mode records)
each_in_order P replay records e f = e
each_in_order P (run rounds) records e f =
    let own : List Record = flat_map (λ j. of_session j records) (sessions_of records) in
    let g : List Record = rounds_of kinds.Group rounds in
    let t : List Record = rounds_of kinds.Table rounds in
    let i : List Record = rounds_of kinds.Interval rounds in
    let each : (kind : Kind) → Each P (map (round kind) (numbers_from 1 rounds)) = λ kind. each_round P kind 1 rounds rounds (omega arith) (f kind) in
    each_append P (own ++ g ++ t) i
    (each_append P (own ++ g) t (each_append P own g (each_sessions P records (sessions_of records) e) (each kinds.Group)) (each kinds.Table)) (each kinds.Interval)

-- ---- how many there are

own_few : (j : ℕ) (records : List Record) → length (of_session j records) ≤ length records
own_few j [] = omega arith
own_few j (r ∷ rs) = go (r.session == j) (own_few j rs)
  where
    go : (b : Bool) → length (of_session j rs) ≤ length rs → length (cond b (r ∷ of_session j rs) (of_session j rs)) ≤ suc (length rs)
    go true k = omega (arith, k)
    go false k = omega (arith, k)

sessions_few : (records : List Record) (js : List ℕ) → length records ≤ 1048576 → length (flat_map (λ j. of_session j records) js) ≤ length js * 1048576
sessions_few records [] k = omega arith
sessions_few records (j ∷ js) k =
    omega (arith, length-append (of_session j records) (flat_map (λ j. of_session j records) js), own_few j records, sessions_few records js k, k)

rounds_many : (kind : Kind) (rounds : ℕ) → length (rounds_of kind rounds) ≡ rounds
rounds_many kind rounds = length-map (numbers_from 1 rounds) (round kind) ∙ as_many_numbers 1 rounds

pub few_in_order : (mode : Mode) (records : List Record) → length records ≤ 1048576 → greatest (map (λ r. r.session) records) ≤ 64 → rounds_beside mode < 4294967296 →
    length (in_order mode records) < 18446744073709551616
few_in_order replay records k most rounds = omega (arith, k)
few_in_order (run rounds) records k most less =
    let own : List Record = flat_map (λ j. of_session j records) (sessions_of records) in
    let g : List Record = rounds_of kinds.Group rounds in
    let t : List Record = rounds_of kinds.Table rounds in
    let i : List Record = rounds_of kinds.Interval rounds in
    let many : length (own ++ g ++ t ++ i) ≡ length own + length g + length t + length i = omega (arith, length-append (own ++ g ++ t) i, length-append (own ++ g) t, length-append own g) in
    let sessions : length own ≤ length (sessions_of records) * 1048576 = sessions_few records (sessions_of records) k in
    let named : length (sessions_of records) ≡ greatest (map (λ (r : Record). r.session) records) = as_many_numbers 1 (greatest (map (λ (r : Record). r.session) records)) in
    let a : length g ≡ rounds = rounds_many kinds.Group rounds in
    let b : length t ≡ rounds = rounds_many kinds.Table rounds in
    let c : length i ≡ rounds = rounds_many kinds.Interval rounds in
    let less : rounds < 4294967296 = less in
    let sum : length own + length g + length t + length i < 18446744073709551616 = omega (arith, sessions, named, most, a, b, c, less) in
    subst (λ n. n < 18446744073709551616) (sym many) sum

-- ---- what a session's records before a line leave

-- the table of the last cursor that session j opened
abbrev pub last_opened : ℕ → List Record → Option TableId
last_opened j [] = None
last_opened j (r ∷ rs) = option_or (last_opened j rs) (if r.session == j then opens r.statement else None)

-- whether its transaction is open, whether its cursor is, and the table of its last one
pub record Stand : Type 0 where
  pub within : Bool
  pub reads : Bool
  pub cursor : Option TableId

abbrev pub stand_of : ℕ → List Record → Stand
stand_of j rs = record { within = is_open j rs; reads = is_reading j rs; cursor = last_opened j rs }

abbrev pub stand_on : Stand → Statement → Stand
stand_on x s = record { within = opened x.within s; reads = reading x.reads s; cursor = option_or (opens s) x.cursor }

or_none : (o : Option TableId) → option_or o None ≡ o
or_none None = refl
or_none (Some t) = refl

or_parts : (a b c : Option TableId) → option_or (option_or a b) c ≡ option_or a (option_or b c)
or_parts None b c = refl
or_parts (Some t) b c = refl

opened_last : (j : ℕ) (rs : List Record) (r : Record) → last_opened j (rs ++ r ∷ []) ≡ option_or (if r.session == j then opens r.statement else None) (last_opened j rs)
opened_last j [] r = sym (or_none (if r.session == j then opens r.statement else None))
opened_last j (q ∷ qs) r =
    ap (λ o. option_or o (if q.session == j then opens q.statement else None)) (opened_last j qs r)
    ∙ or_parts (if r.session == j then opens r.statement else None) (last_opened j qs) (if q.session == j then opens q.statement else None)

-- one record more
pub stand_more : (j : ℕ) (rs : List Record) (r : Record) → stand_of j (rs ++ r ∷ []) ≡ cond (r.session == j) (stand_on (stand_of j rs) r.statement) (stand_of j rs)
stand_more j rs r = go (r.session == j) refl
  where
    go : (b : Bool) → (r.session == j) ≡ b → stand_of j (rs ++ r ∷ []) ≡ cond b (stand_on (stand_of j rs) r.statement) (stand_of j rs)
    go true e =
        let own = open_own j rs r ((Decides-eqb r.session j).0 e) in
        let last : last_opened j (rs ++ r ∷ []) ≡ option_or (opens r.statement) (last_opened j rs) = opened_last j rs r ∙
        ap (λ b. option_or (if b then opens r.statement else None) (last_opened j rs)) e in
        λ i. record { within = own.0 i; reads = own.1 i; cursor = last i }
    go false e =
        let other = open_other j rs r e in
        let last : last_opened j (rs ++ r ∷ []) ≡ last_opened j rs = opened_last j rs r ∙ ap (λ b. option_or (if b then opens r.statement else None) (last_opened j rs)) e in
        λ i. record { within = other.0 i; reads = other.1 i; cursor = last i }

-- ---- by the places of the script

over : (b : Bool) (place at : ℕ) (o : Option TableId) → at ≤ place → (if b && nat_lt place at then o else None) ≡ None
over true place at o most = let none : nat_lt place at ≡ false = grind (arith, nat_tests, most) in rw none refl
over false place at o most = refl

under : (b : Bool) (place at : ℕ) (o : Option TableId) → place < at → (if b && nat_lt place at then o else None) ≡ (if b then o else None)
under true place at o less = let some : nat_lt place at ≡ true = grind (arith, nat_tests, less) in rw some refl
under false place at o less = refl

none_before : (rs : List Record) (session at : ℕ) → Each (λ r. at ≤ r.place) rs → cursor_before rs session at ≡ None
none_before [] session at e = refl
none_before (r ∷ rs) session at e =
    ap (λ o. option_or o (if (r.session == session) && nat_lt r.place at then opens r.statement else None)) (none_before rs session at e.1)
    ∙ over (r.session == session) r.place at (opens r.statement) e.0

-- the last cursor before a record is that of the records before it
last_before : (before rs : List Record) (session at : ℕ) → Each (λ r. r.place < at) before → Each (λ r. at ≤ r.place) rs → cursor_before (before ++ rs) session at ≡ last_opened session before
last_before [] rs session at less most = none_before rs session at most
last_before (r ∷ before) rs session at less most =
    ap (λ o. option_or o (if (r.session == session) && nat_lt r.place at then opens r.statement else None)) (last_before before rs session at less.1 most)
    ∙ ap (option_or (last_opened session before)) (under (r.session == session) r.place at (opens r.statement) less.0)

pub lower : (before rs : List Record) (r : Record) → Ascends (map (λ r. r.place) (before ++ r ∷ rs)) → Each (λ q. q.place < r.place) before
lower [] rs r a = tt
lower (q ∷ qs) rs r a = (
  middle qs (ascends_over q.place (map (λ (r : Record). r.place) (qs ++ r ∷ rs)) a),
  lower qs rs r (ascends_rest q.place (map (λ (r : Record). r.place) (qs ++ r ∷ rs)) a),
)
  where
    middle : (ps : List Record) → Each (λ m. q.place < m) (map (λ (r : Record). r.place) (ps ++ r ∷ rs)) → q.place < r.place
    middle [] e = e.0
    middle (p ∷ ps) e = middle ps e.1

higher : (before rs : List Record) (r : Record) → Ascends (map (λ r. r.place) (before ++ r ∷ rs)) → Each (λ q. r.place ≤ q.place) (r ∷ rs)
higher [] rs r a = (omega arith, behind rs (ascends_over r.place (map (λ (r : Record). r.place) rs) a))
  where
    behind : (qs : List Record) → Each (λ m. r.place < m) (map (λ (r : Record). r.place) qs) → Each (λ q. r.place ≤ q.place) qs
    behind [] e = tt
    behind (q ∷ qs) e = (let less = e.0 in omega (arith, less), behind qs e.1)
higher (q ∷ qs) rs r a = higher qs rs r (ascends_rest q.place (map (λ (r : Record). r.place) (qs ++ r ∷ rs)) a)

-- ---- each may stand where it does

-- a fetch is of the cursor that the session's last `open` names
abbrev pub IsOfCursor : List Record → Option TableId → Record → Statement → Type 0
IsOfCursor all cursor r (Fetch n) = cursor ≡ cursor_before all r.session r.place
IsOfCursor all cursor r s = ⊤

pub record MayCome (all : List Record) (x : Stand) (r : Record) : Type 0 where
  pub may : MayStand x.within x.reads r.statement
  pub cursor : IsOfCursor all x.cursor r r.statement

-- each of the records, behind those before it
abbrev pub AreInTurn : List Record → List Record → List Record → Type 0
AreInTurn all before [] = ⊤
AreInTurn all before (r ∷ rs) = MayCome all (stand_of r.session before) r × AreInTurn all (before ++ r ∷ []) rs

of_cursor : (all : List Record) (cursor : Option TableId) (r : Record) (s : Statement) → cursor ≡ cursor_before all r.session r.place → IsOfCursor all cursor r s
of_cursor all cursor r (Fetch n) is = is
of_cursor all cursor r _ is = tt

in_turn : (all before rs : List Record) → all ≡ before ++ rs → Ascends (map (λ r. r.place) all) → AreInOrder before rs → AreInTurn all before rs
in_turn all before [] e places h = tt
in_turn all before (r ∷ rs) e places h =
    let ascend : Ascends (map (λ (r : Record). r.place) (before ++ r ∷ rs)) = subst (λ (rs : List Record). Ascends (map (λ (r : Record). r.place) rs)) e places in
    let last : last_opened r.session before ≡ cursor_before all r.session r.place = sym (ap (λ rs. cursor_before rs r.session r.place) e ∙
    last_before before (r ∷ rs) r.session r.place (lower before rs r ascend) (higher before rs r ascend)) in (
      record { may = h.0; cursor = of_cursor all (last_opened r.session before) r r.statement last },
      in_turn all (before ++ r ∷ []) rs (e ∙ sym (append_assoc before (r ∷ []) rs)) places h.1,
    )

module _ (all : List Record) where
  more_in_turn : (before xs ys : List Record) → AreInTurn all before xs → AreInTurn all (before ++ xs) ys → AreInTurn all before (xs ++ ys)
  more_in_turn before [] ys h k = subst (λ (z : List Record). AreInTurn all z ys) (append_nil before) k
  more_in_turn before (x ∷ xs) ys h k = (h.0, more_in_turn (before ++ x ∷ []) xs ys h.1 (subst (λ (z : List Record). AreInTurn all z ys) (sym (append_assoc before (x ∷ []) xs)) k))

  -- a session's records alone, behind others that leave it where those before do
  own_in_turn : (j : ℕ) (before behind rs : List Record) → stand_of j behind ≡ stand_of j before → AreInTurn all before rs → AreInTurn all behind (of_session j rs)
  own_in_turn j before behind [] e h = tt
  own_in_turn j before behind (r ∷ rs) e h = go (r.session == j) refl (λ behind e. own_in_turn j (before ++ r ∷ []) behind rs e h.1)
    where
      go : (b : Bool) → (r.session == j) ≡ b → ((more : List Record) → stand_of j more ≡ stand_of j (before ++ r ∷ []) → AreInTurn all more (of_session j rs)) →
          AreInTurn all behind (cond b (r ∷ of_session j rs) (of_session j rs))
      go true is later =
          let same : r.session ≡ j = (Decides-eqb r.session j).0 is in
          let here : stand_of r.session before ≡ stand_of r.session behind = subst (λ i. stand_of i before ≡ stand_of i behind) (sym same) (sym e) in (
            subst (λ x. MayCome all x r) here h.0,
            later (behind ++ r ∷ []) (stand_more j behind r ∙ ap (λ x. cond (r.session == j) (stand_on x r.statement) x) e ∙ sym (stand_more j before r)),
          )
      go false is later = later behind (e ∙ sym (stand_more j before r ∙ ap (λ b. cond b (stand_on (stand_of j before) r.statement) (stand_of j before)) is))

  -- what another session does leaves it where it was
  others_leave : (j i : ℕ) (before rs : List Record) → i < j → stand_of j (before ++ of_session i rs) ≡ stand_of j before
  others_leave j i before [] k = ap (stand_of j) (append_nil before)
  others_leave j i before (r ∷ rs) k = go (r.session == i) refl (λ before. others_leave j i before rs k)
    where
      go : (b : Bool) → (r.session == i) ≡ b → ((more : List Record) → stand_of j (more ++ of_session i rs) ≡ stand_of j more) →
          stand_of j (before ++ cond b (r ∷ of_session i rs) (of_session i rs)) ≡ stand_of j before
      go true is later =
          let same : r.session ≡ i = (Decides-eqb r.session i).0 is in
          let apart : (r.session == j) ≡ false = not_equal r.session j (omega (arith, same, k)) in
          ap (stand_of j) (sym (append_assoc before (r ∷ []) (of_session i rs))) ∙ later (before ++ r ∷ [])
          ∙ stand_more j before r ∙ ap (λ b. cond b (stand_on (stand_of j before) r.statement) (stand_of j before)) apart
      go false is later = later before

  sessions_in_turn : (records : List Record) → AreInTurn all [] records → (n many : ℕ) (before : List Record) → ((j : ℕ) → n ≤ j → stand_of j before ≡ stand_of j []) →
      AreInTurn all before (flat_map (λ j. of_session j records) (numbers_from n many))
  sessions_in_turn records h n zero before closed = tt
  sessions_in_turn records h n (suc many) before closed =
      more_in_turn before (of_session n records) (flat_map (λ j. of_session j records) (numbers_from (suc n) many)) (own_in_turn n [] before records (closed n (omega arith)) h)
      (sessions_in_turn records h (suc n) many (before ++ of_session n records) (λ j k. others_leave j n before records (omega (arith, k)) ∙ closed j (omega (arith, k))))

  rounds_in_turn : (kind : Kind) (n many : ℕ) (before : List Record) → AreInTurn all before (map (round kind) (numbers_from n many))
  rounds_in_turn kind n zero before = tt
  rounds_in_turn kind n (suc many) before = (record { may = tt; cursor = tt }, rounds_in_turn kind (suc n) many (before ++ round kind n ∷ []))

-- the records of a script in the order of their lines
pub stand_in_turn : (mode : Mode) (records : List Record) → Ascends (map (λ r. r.place) records) → AreInOrder [] records → AreInTurn records [] (in_order mode records)
stand_in_turn replay records places h = in_turn records [] records refl places h
stand_in_turn (run rounds) records places h =
    let own : List Record = flat_map (λ j. of_session j records) (sessions_of records) in
    let g : List Record = rounds_of kinds.Group rounds in
    let t : List Record = rounds_of kinds.Table rounds in
    let i : List Record = rounds_of kinds.Interval rounds in
    more_in_turn records [] (own ++ g ++ t) i
    (more_in_turn records [] (own ++ g) t
    (more_in_turn records [] own g (sessions_in_turn records records (in_turn records [] records refl places h) 1 (greatest (map (λ (r : Record). r.session) records)) []
    (λ j k. refl)) (rounds_in_turn records kinds.Group 1 rounds own))
    (rounds_in_turn records kinds.Table 1 rounds (own ++ g)))
    (rounds_in_turn records kinds.Interval 1 rounds (own ++ g ++ t))
