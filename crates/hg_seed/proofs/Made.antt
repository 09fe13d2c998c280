-- A script that is made keeps the rules, statement by statement.
use Rattle.std.proofs.Common.{◌≡◌, ◌∙◌, ◌+◌, ◌*◌, ◌/◌, ◌%◌, ◌<◌, ◌^◌, ◌==◌, ℕ, zero, suc, pos, Bool, true, false, List, [], ◌∷◌, ◌++◌, length, map, fold, if◌then◌else◌, inl, refl, sym, ap}
use Rattle.std.proofs.Common.{subst, arith, length-append, append_assoc, nat_le}
use Rattle.std.proofs.lemmas.Nat.{mod_below}
use Rattle.std.proofs.Math.Nat.{mod-add-mod}
use Rattle.std.specs.List.{IsDistinct}
use Rattle.hg_base.specs.declared.limits.TheConstants.{MOST_SESSIONS}
use Rattle.hg_base.specs.declared.statement.Record.{Record}
use Rattle.hg_base.specs.Lists.{Each, numbers_from}
use Rattle.hg_base.specs.Script.{Script}
use Rattle.hg_base.specs.Text.{kinds_of}
use Rattle.hg_base.specs.Values.{FitsValue, kind_of}
use Rattle.hg_base.specs.declared.value.Column.{Column}
use Rattle.hg_base.specs.declared.value.Value.TheVariants.{Number}
use Rattle.hg_base.proofs.ListFacts.{append_nil}
use Rattle.hg_script.proofs.Growth.{Grown, Lies, statement-more, with-statement}
use Rattle.hg_script.proofs.Fitting.{AreNumbers, numbers-at}
use Rattle.hg_seed.specs.declared.choice.Choice.{Choice}
use Rattle.hg_seed.specs.declared.choice.Choice.TheVariants.{Begin, BeginC, Get, Put, Del, Scan, Commit, Rollback, Gc}
use Rattle.hg_seed.specs.Generator.{AreMade, IsMade, below, chosen, chosen_in, draws_of, drawn, inside, made_tables, next_state, outside, record_after, state_after, state_behind}
use Rattle.hg_seed.specs.Generator.{statement_at, statement_by, table_drawn}
use Rattle.hg_script.specs.Numbered.{many_before, records_before}
use Rattle.hg_script.specs.Lawful.{FitsTables, HasNumbers, HasWidths, MayStand}
use Rattle.hg_script.specs.Rules.{is_open, is_reading, reading, reading_by}
use Rattle.hg_script.proofs.Open.{fold-one as reads-one}

-- ---- draws

-- a product that wraps and a sum that wraps
pub next : (x : ℕ) → (x * 6364136223846793005 % 18446744073709551616 + 1442695040888963407) % 18446744073709551616 ≡ next_state x
unfolding next_state
next x = mod-add-mod (x * 6364136223846793005) 18446744073709551616 1442695040888963407

pub below-is : (bound x : ℕ) → (x / 8589934592) % bound ≡ below bound x
unfolding below
below-is bound x = refl

pub below-lt : (bound x : ℕ) → 0 < bound → below bound x < bound
unfolding below
below-lt bound x some = mod_below (x / 2 ^ 33) bound some

-- draws after draws
pub state-plus : (n m x : ℕ) → state_after n (state_after m x) ≡ state_after (m + n) x
state-plus zero m x = let e : m ≡ m + 0 = omega arith in ap (λ k. state_after k x) e
state-plus (suc n) m x =
    let e : suc (m + n) ≡ m + suc n = omega arith in
    ap next_state (state-plus n m x) ∙ ap (λ k. state_after k x) e

fold-one : {A B : Type 0} (f : B → A → B) (b : B) (xs : List A) (x : A) → fold f b (xs ++ x ∷ []) ≡ f (fold f b xs) x
fold-one f b [] x = refl
fold-one f b (y ∷ xs) x = fold-one f (f b y) xs x

-- ---- statements

row-kinds : (kinds : List Column) (n x : ℕ) → AreNumbers kinds → map kind_of (map (λ k. Number (pos (drawn k 1000 x))) (numbers_from n (length kinds))) ≡ kinds
row-kinds [] n x h = refl
row-kinds (k ∷ ks) n x h = ap (λ c. c ∷ map kind_of (map (λ k. Number (pos (drawn k 1000 x))) (numbers_from (suc n) (length ks)))) (sym h.0) ∙ ap (λ cs. k ∷ cs) (row-kinds ks (suc n) x h.1)

row-narrow : (columns n x : ℕ) → Each FitsValue (map (λ k. Number (pos (drawn k 1000 x))) (numbers_from n columns))
row-narrow zero n x = tt
row-narrow (suc columns) n x = (omega (arith, below-lt 1000 (state_after n x) (omega arith)), row-narrow columns (suc n) x)

made-numbers : Each HasNumbers made_tables
made-numbers = ((refl, tt), ((refl, (refl, tt)), ((refl, tt), tt)))

made-kinds : (x : ℕ) → AreNumbers (kinds_of made_tables (table_drawn x))
made-kinds x = numbers-at made_tables (table_drawn x).0 made-numbers

fits : (x : ℕ) (c : Choice) → FitsTables made_tables (statement_by x c)
fits x Begin = tt
fits x BeginC = (omega arith, omega arith)
fits x Get = below-lt 3 (state_after 2 x) (omega arith)
fits x Put = (below-lt 3 (state_after 2 x) (omega arith), row-kinds (kinds_of made_tables (table_drawn x)) 1 (state_after 3 x) (made-kinds x))
fits x Del = below-lt 3 (state_after 2 x) (omega arith)
fits x Scan = below-lt 3 (state_after 2 x) (omega arith)
fits x Commit = tt
fits x Rollback = tt
fits x Gc = tt

widths : (x : ℕ) (c : Choice) → HasWidths (statement_by x c)
widths x c = go c
  where
    key : below 256 (state_after 3 x) < 256
    key = below-lt 256 (state_after 3 x) (omega arith)

    go : (c : Choice) → HasWidths (statement_by x c)
    go Begin = tt
    go BeginC = tt
    go Get = omega (arith, key)
    go Put = (omega (arith, key), row-narrow (length (kinds_of made_tables (table_drawn x))) 1 (state_after 3 x))
    go Del = omega (arith, key)
    go Scan = (omega (arith, key), omega (arith, key))
    go Commit = tt
    go Rollback = tt
    go Gc = tt

if-either : (P : Choice → Type 0) (b : Bool) (c d : Choice) → P c → P d → P (if b then c else d)
if-either P true c d h k = h
if-either P false c d h k = k

-- what holds of each row's choice holds of the one that is chosen
chosen-has : (P : Choice → Type 0) (rows : List (ℕ × Choice)) (r : ℕ) → P Gc → Each (λ row. P row.1) rows → P (chosen_in rows r)
chosen-has P [] r gc h = gc
chosen-has P ((last, choice) ∷ more) r gc h = if-either P (nat_le r last) choice (chosen_in more r) h.0 (chosen-has P more r gc h.1)

may : (x : ℕ) (within : Bool) → MayStand within false (statement_at x within)
may x true = chosen-has (λ c. MayStand true false (statement_by x c)) inside (drawn 1 16 x) tt (refl, (refl, (refl, (refl, (refl, (refl, (tt, tt)))))))
may x false = chosen-has (λ c. MayStand false false (statement_by x c)) outside (drawn 1 16 x) tt (refl, (refl, (refl, (refl, (refl, (refl, (tt, tt)))))))

-- no cursor is opened
reads-nothing : (x : ℕ) (c : Choice) → reading false (statement_by x c) ≡ false
reads-nothing x Begin = refl
reads-nothing x BeginC = refl
reads-nothing x Get = refl
reads-nothing x Put = refl
reads-nothing x Del = refl
reads-nothing x Scan = refl
reads-nothing x Commit = refl
reads-nothing x Rollback = refl
reads-nothing x Gc = refl

if-same : (b : Bool) (x : Bool) → x ≡ false → (if b then x else false) ≡ false
if-same true x h = h
if-same false x h = refl

reads-none : (j : ℕ) (rs : List Record) (r : Record) → is_reading j rs ≡ false → reading false r.statement ≡ false → is_reading j (rs ++ r ∷ []) ≡ false
reads-none j rs r h k = reads-one (reading_by j) false rs r ∙ ap (λ b. reading_by j b r) h ∙ if-same (r.session == j) (reading false r.statement) k

-- ---- the script

made-one : (seed : ℕ) (before rs : List Record) (r : Record) → AreMade seed before rs → r ≡ record_after seed (before ++ rs) → AreMade seed before (rs ++ r ∷ [])
made-one seed before [] r h e = (e ∙ ap (record_after seed) (append_nil before), tt)
made-one seed before (q ∷ qs) r h e = (h.0, made-one seed (before ++ q ∷ []) qs r h.1 (e ∙ ap (record_after seed) (sym (append_assoc before (q ∷ []) qs))))

-- the record that is added is the one after those that are there
same-record : (seed place i x : ℕ) (rs : List Record) → place ≡ i + 4 → length rs ≡ i → x ≡ state_behind seed rs
    → ◌≡◌ {A = Record} (record { place = place; session = i % 8 + 1; statement = statement_at x (is_open (i % 8 + 1) rs) }) (record_after seed rs)
same-record seed place i x rs here many state =
    let f : ℕ → ℕ → ℕ → Record = λ p n y. record { place = p; session = n % 8 + 1; statement = statement_at y (is_open (n % 8 + 1) rs) } in
    ap (λ p. f p i x) here ∙ ap (λ n. f (n + 4) n x) (sym many) ∙ ap (λ y. f (length rs + 4) (length rs) y) state

-- the script of a seed after so many statements, where the state is x
pub record Making (seed i x : ℕ) (s : Script) : Type 0 where
  pub version : s.version ≡ 1
  pub tables : s.tables ≡ made_tables
  pub many : length s.records ≡ i
  pub each : AreMade seed [] s.records
  pub state : x ≡ state_behind seed s.records
  pub grown : Grown (i + 4) s
  pub calm : (j : ℕ) → is_reading j s.records ≡ false

pub making-more : (seed i x : ℕ) (s : Script) → Making seed i x s → i < 16000
    → Making seed (i + 1) (state_after (draws_of (statement_at x (is_open (i % 8 + 1) s.records))) x)
    (with-statement (records_before s + length s.records + 1) s (i % 8 + 1) (statement_at x (is_open (i % 8 + 1) s.records)))
making-more seed i x s m more =
    let session = i % 8 + 1 in
    let st = statement_at x (is_open session s.records) in
    let place = records_before s + length s.records + 1 in
    let here : place ≡ i + 4 = ap (λ v. many_before v (length s.tables) + length s.records + 1) m.version ∙ omega (arith, ap length m.tables, m.many) in
    let added : Record = record { place = place; session = session; statement = st } in
    let lies : Lies 1 MOST_SESSIONS session = record { some = omega arith; most = omega (arith, mod_below i 8 (omega arith)) } in
    let c = chosen (is_open session s.records) (drawn 1 16 x) in
    let fitting : FitsTables s.tables st = subst (λ ts. FitsTables ts st) (sym m.tables) (fits x c) in
    let grown = statement-more (i + 4) s session st m.grown (omega (arith, more)) lies fitting (widths x c)
    (subst (λ b. MayStand (is_open session s.records) b st) (sym (m.calm session)) (may x (is_open session s.records))) in
    let order : i + 4 + 1 ≡ i + 1 + 4 = omega arith in record {
      version = m.version;
      tables = m.tables;
      many = omega (arith, m.many, length-append s.records (added ∷ []));
      each = made-one seed [] s.records added m.each (same-record seed place i x s.records here m.many m.state);
      state = sym (fold-one (λ x r. state_after (draws_of r.statement) x) seed s.records added ∙ ap (state_after (draws_of st)) (sym m.state));
      grown = subst (λ p. Grown (i + 1 + 4) (with-statement p s session st)) (sym here) (subst (λ q. Grown q (with-statement (i + 4) s session st)) order grown);
      calm = λ j. reads-none j s.records added (m.calm j) (reads-nothing x c);
    }

-- the tables alone
pub making-none : (seed : ℕ) → Making seed 0 seed (record { version = 1; tables = made_tables; records = [] })
unfolding IsDistinct
making-none seed = record {
  version = refl;
  tables = refl;
  many = refl;
  each = tt;
  state = refl;
  grown = record {
    lawful = record {
      version = inl refl;
      numbers = λ one. made-numbers;
      most = omega arith;
      records = omega arith;
      tables = (
        record { name = refl; some = omega arith; most = omega arith },
        (record { name = refl; some = omega arith; most = omega arith }, (record { name = refl; some = omega arith; most = omega arith }, tt)),
      );
      names = ((refl, (refl, tt)), ((refl, tt), (tt, tt)));
      statements = tt;
      order = tt;
      places = tt;
    };
    many = omega arith;
    before = tt;
  };
  calm = λ j. refl;
}

-- ---- there is one

one : (seed : ℕ) (before rs qs : List Record) → length rs ≡ length qs → AreMade seed before rs → AreMade seed before qs → rs ≡ qs
one seed before [] [] many h k = refl
one seed before [] (q ∷ qs) many h k = absurd (omega (arith, many))
one seed before (r ∷ rs) [] many h k = absurd (omega (arith, many))
one seed before (r ∷ rs) (q ∷ qs) many h k =
    let same : r ≡ q = h.0 ∙ sym k.0 in
    let rest : rs ≡ qs = one seed (before ++ r ∷ []) rs qs (omega (arith, many)) h.1 (subst (λ z. AreMade seed (before ++ z ∷ []) qs) (sym same) k.1) in
    ap (λ z. z ∷ rs) same ∙ ap (λ zs. q ∷ zs) rest

pub made-once : (seed : ℕ) (s t : Script) → IsMade seed s → IsMade seed t → s ≡ t
made-once seed s t h k =
    let tables : s.tables ≡ t.tables = h.tables ∙ sym k.tables in
    let records : s.records ≡ t.records = one seed [] s.records t.records (h.many ∙ sym k.many) h.each k.each in
    let version : s.version ≡ t.version = h.version ∙ sym k.version in
    ap (λ v. record { version = v; tables = s.tables; records = s.records }) version ∙ ap (λ ts. record { version = t.version; tables = ts; records = s.records }) tables ∙
    ap (λ rs. record { version = t.version; tables = t.tables; records = rs }) records
