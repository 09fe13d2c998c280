-- Records in the order of their lines, and how many there are.
use Rattle.std.proofs.Common.{◌≡◌, ℕ, zero, suc, ◌+◌, ◌-◌, ◌*◌, ◌<◌, ◌≤◌, List, [], ◌∷◌, ◌++◌, length, map, get_or, Bool, true, false, refl, sym, ap, ◌∙◌, subst, arith, cond}
use Rattle.std.specs.Prelude.{max, ◌==◌, nat_lt, if◌then◌else◌, filter}
use Rattle.std.specs.List.{flat_map}
use Rattle.std.proofs.Math.ListN.{get_or-append}
use Rattle.std.proofs.Math.Seq.{get_or-append_right, get_or-append_seam}
use Rattle.std.proofs.lemmas.List.{append_assoc, length-append, length-map, get_or_default}
use Rattle.std.proofs.lemmas.Bool.{ltb-true, ltb-false}
use Rattle.std.proofs.lemmas.Grind.{flat_map-append}
use Rattle.hg_base.specs.declared.statement.Record.{Record}
use Rattle.hg_base.specs.declared.report.Kind.{Kind}
use Rattle.hg_base.specs.declared.report.Kind.TheVariants as kinds
use Rattle.hg_base.specs.Lists.{Each, greatest, numbers_from}
use Rattle.hg_base.specs.Script.{Script}
use Rattle.hg_base.specs.Transcript.{rounds_of, of_session}
use Rattle.hg_base.proofs.ListFacts.{append_nil, cases, numbers_from_snoc}
use Rattle.hg_known.specs.Sequenced.{IsRecordOf, no_record, record_at, round, round_at, shown_of, with_rounds}
use Rattle.hg_known.proofs.Reading.{mapped_at}

pub sessions_next : (f : ℕ → List Record) (j : ℕ) → flat_map f (numbers_from 1 j) ++ f (j + 1) ≡ flat_map f (numbers_from 1 (j + 1))
sessions_next f j =
    let one : j + 1 ≡ suc j = omega arith in
    let back : 1 + j ≡ j + 1 = omega arith in
    sym (ap (λ m. flat_map f (numbers_from 1 m)) one ∙ ap (flat_map f) (numbers_from_snoc 1 j) ∙ flat_map-append f (numbers_from 1 j) ((1 + j) ∷ []) ∙
    ap (λ ys. flat_map f (numbers_from 1 j) ++ ys) (append_nil (f (1 + j)) ∙ ap f back))

-- where no session is named, the first has no record
pub none_of_one : (records : List Record) → greatest (map (λ (r : Record). r.session) records) ≡ 0 → of_session 1 records ≡ []
none_of_one [] e = refl
none_of_one (r ∷ rs) e =
    let none : r.session ≡ 0 = omega (arith, e) in
    let rest : greatest (map (λ (x : Record). x.session) rs) ≡ 0 = omega (arith, e) in
    ap (λ n. if n == 1 then r ∷ of_session 1 rs else of_session 1 rs) none ∙ none_of_one rs rest

-- there is always a first session
pub all_sessions : (records : List Record) → flat_map (λ j. of_session j records) (numbers_from 1 (max 1 (greatest (map (λ (r : Record). r.session) records)))) ≡ shown_of records
all_sessions records =
    let g = greatest (map (λ (r : Record). r.session) records) in
    let f : ℕ → List Record = λ j. of_session j records in
    cases (nat_lt 0 g)
    (λ e. let some : 0 < g = ltb-true 0 g e in let same : max 1 g ≡ g = omega (arith, some) in ap (λ n. flat_map f (numbers_from 1 n)) same)
    (λ e. let most : g ≤ 0 = ltb-false 0 g e in let none : g ≡ 0 = omega (arith, most) in ap (λ n. flat_map f (numbers_from 1 (max 1 n))) none ∙ append_nil (f 1) ∙
    none_of_one records none ∙ sym (ap (λ n. flat_map f (numbers_from 1 n)) none))

-- ---- lengths

pub numbers_length : (first many : ℕ) → length (numbers_from first many) ≡ many
numbers_length first zero = refl
numbers_length first (suc many) = ap suc (numbers_length (suc first) many)

pub rounds_length : (kind : Kind) (n : ℕ) → length (rounds_of kind n) ≡ n
rounds_length kind n = length-map (numbers_from 1 n) (round kind) ∙ numbers_length 1 n

pub run_length : (shown : List Record) (n : ℕ) → length (with_rounds shown n) ≡ length shown + 3 * n
run_length shown n =
    let g = rounds_length kinds.Group n in
    let t = rounds_length kinds.Table n in
    let i = rounds_length kinds.Interval n in
    let a = length-append shown (rounds_of kinds.Group n) in
    let b = length-append (shown ++ rounds_of kinds.Group n) (rounds_of kinds.Table n) in
    let c = length-append (shown ++ rounds_of kinds.Group n ++ rounds_of kinds.Table n) (rounds_of kinds.Interval n) in
    sum (length (with_rounds shown n)) (length (shown ++ rounds_of kinds.Group n ++ rounds_of kinds.Table n)) (length (shown ++ rounds_of kinds.Group n)) (length shown)
    (length (rounds_of kinds.Group n)) (length (rounds_of kinds.Table n)) (length (rounds_of kinds.Interval n)) n a b c g t i
  where
    sum : (all two one none g t i n : ℕ) → one ≡ none + g → two ≡ one + t → all ≡ two + i → g ≡ n → t ≡ n → i ≡ n → all ≡ none + 3 * n
    sum all two one none g t i n a b c x y z = omega (arith, a, b, c, x, y, z)

pub no_rounds : (shown : List Record) → with_rounds shown 0 ≡ shown
no_rounds shown = append_nil (shown ++ [] ++ []) ∙ append_nil (shown ++ []) ∙ append_nil shown

-- ---- the record at an index

pub rounds_from : (kind : Kind) (first many i : ℕ) (d : Record) → i < many → get_or (map (round kind) (numbers_from first many)) i d ≡ round kind (first + i)
rounds_from kind first zero i d h = absurd (omega (arith, h))
rounds_from kind first (suc many) zero d h = ap (round kind) (omega arith)
rounds_from kind first (suc many) (suc i) d h = rounds_from kind (suc first) many i d (omega (arith, h)) ∙ ap (round kind) (omega arith)

pub rounds_at : (kind : Kind) (n i j : ℕ) (d : Record) → i ≡ j → i < n → get_or (rounds_of kind n) i d ≡ round kind (j + 1)
rounds_at kind n i j d e h = rounds_from kind 1 n i d h ∙ ap (round kind) (omega (arith, e))

pub at_shown : (shown : List Record) (n k : ℕ) (d : Record) → k < length shown → get_or (with_rounds shown n) k d ≡ get_or shown k d
at_shown shown n k d h =
    let one = shown ++ rounds_of kinds.Group n in
    let two = one ++ rounds_of kinds.Table n in
    let a = length-append shown (rounds_of kinds.Group n) in
    let b = length-append one (rounds_of kinds.Table n) in
    get_or-append two (rounds_of kinds.Interval n) d k (omega (arith, a, b, h)) ∙ get_or-append one (rounds_of kinds.Table n) d k (omega (arith, a, h)) ∙
    get_or-append shown (rounds_of kinds.Group n) d k h

pub at_round : (shown : List Record) (n k : ℕ) (d : Record) → length shown ≤ k → k < length shown + 3 * n → get_or (with_rounds shown n) k d ≡ round_at (k - length shown) n
at_round shown n k d low high = cases (nat_lt i n) group (λ e. cases (nat_lt (i - n) n) (table e) (interval e))
  where
    i : ℕ
    i = k - length shown

    one : List Record
    one = shown ++ rounds_of kinds.Group n

    two : List Record
    two = one ++ rounds_of kinds.Table n

    first : length one ≡ length shown + n
    first = let g = rounds_length kinds.Group n in length-append shown (rounds_of kinds.Group n) ∙ ap (λ m. length shown + m) g

    second : length two ≡ length shown + n + n
    second = let t = rounds_length kinds.Table n in length-append one (rounds_of kinds.Table n) ∙ (λ j. first j + t j)

    group : nat_lt i n ≡ true → get_or (with_rounds shown n) k d ≡ round_at i n
    group e =
        let less : i < n = ltb-true i n e in
        let a : k < length one = omega (arith, less, first, low) in
        let b : k < length two = omega (arith, a, first, second) in
        get_or-append two (rounds_of kinds.Interval n) d k b ∙ get_or-append one (rounds_of kinds.Table n) d k a ∙ get_or-append_right shown (rounds_of kinds.Group n) k d low ∙
        rounds_at kinds.Group n i i d refl less
        ∙ sym (ap (λ b. cond b (round kinds.Group (i + 1)) (cond (nat_lt (i - n) n) (round kinds.Table (i - n + 1)) (round kinds.Interval (i - n - n + 1)))) e)

    table : nat_lt i n ≡ false → nat_lt (i - n) n ≡ true → get_or (with_rounds shown n) k d ≡ round_at i n
    table e f =
        let over : n ≤ i = ltb-false i n e in
        let less : i - n < n = ltb-true (i - n) n f in
        let a : length one ≤ k = omega (arith, over, first, low) in
        let b : k < length two = omega (arith, less, over, second, low) in
        let here : k - length one ≡ i - n = omega (arith, first) in
        get_or-append two (rounds_of kinds.Interval n) d k b ∙ get_or-append_right one (rounds_of kinds.Table n) k d a ∙
        rounds_at kinds.Table n (k - length one) (i - n) d here (omega (arith, here, less))
        ∙ sym (ap (λ b. cond b (round kinds.Group (i + 1)) (cond (nat_lt (i - n) n) (round kinds.Table (i - n + 1)) (round kinds.Interval (i - n - n + 1)))) e ∙
        ap (λ b. cond b (round kinds.Table (i - n + 1)) (round kinds.Interval (i - n - n + 1))) f)

    interval : nat_lt i n ≡ false → nat_lt (i - n) n ≡ false → get_or (with_rounds shown n) k d ≡ round_at i n
    interval e f =
        let over : n ≤ i = ltb-false i n e in
        let more : n ≤ i - n = ltb-false (i - n) n f in
        let b : length two ≤ k = omega (arith, more, over, second, low) in
        let here : k - length two ≡ i - n - n = omega (arith, second) in
        get_or-append_right two (rounds_of kinds.Interval n) k d b ∙ rounds_at kinds.Interval n (k - length two) (i - n - n) d here (omega (arith, here, high, low, over, more))
        ∙ sym (ap (λ b. cond b (round kinds.Group (i + 1)) (cond (nat_lt (i - n) n) (round kinds.Table (i - n + 1)) (round kinds.Interval (i - n - n + 1)))) e ∙
        ap (λ b. cond b (round kinds.Table (i - n + 1)) (round kinds.Interval (i - n - n + 1))) f)

-- ---- records of a script

pub are_records : (script : Script) (done rest : List Record) → script.records ≡ done ++ rest → Each (IsRecordOf script) rest
are_records script done [] e = tt
are_records script done (r ∷ rest) e =
    let long = length-append done (r ∷ rest) in
    let all : length script.records ≡ length done + length (r ∷ rest) = ap length e ∙ long in (
      (length done, (omega (arith, all), ap (λ rs. get_or rs (length done) no_record) e ∙ get_or-append_seam done r rest no_record)),
      are_records script (done ++ r ∷ []) rest (e ∙
          sym (append_assoc done (r ∷ []) rest)),
    )

pub each_filter : {X : Type 0} (P : X → Type 0) (q : X → Bool) (xs : List X) → Each P xs → Each P (filter q xs)
each_filter P q [] h = tt
each_filter P q (x ∷ xs) h = go (q x) (each_filter P q xs h.1)
  where
    go : (b : Bool) → Each P (filter q xs) → Each P (cond b (x ∷ filter q xs) (filter q xs))
    go true rest = (h.0, rest)
    go false rest = rest

pub of_script : (script : Script) (j : ℕ) → Each (IsRecordOf script) (of_session j script.records)
of_script script j = each_filter (IsRecordOf script) (λ r. r.session == j) script.records (are_records script [] script.records refl)

pub each_item : {X : Type 0} (P : X → Type 0) (xs : List X) (k : ℕ) (x : X) → k < length xs → x ≡ get_or xs k x → Each P xs → P x
each_item P [] k x less e h = absurd (omega (arith, less))
each_item P (y ∷ ys) zero x less e h = subst P (sym e) h.0
each_item P (y ∷ ys) (suc k) x less e h = each_item P ys k x (omega (arith, less)) e h.1

pub from_script : (script : Script) (is : List ℕ) (k i : ℕ) (r : Record) → k < length is → i ≡ get_or is k i → i < length script.records → r ≡ get_or script.records i r →
    r ≡ get_or (map (record_at script) is) k r
from_script script is k i r less e within at =
    let there : k < length (map (record_at script) is) = subst (λ n. k < n) (sym (length-map is (record_at script))) less in
    let same : record_at script i ≡ r = sym (at ∙ get_or_default script.records i r no_record within) in
    let here : record_at script i ≡ get_or (map (record_at script) is) k (record_at script i) = ap (record_at script) e ∙ sym (mapped_at (record_at script) is k i) in
    subst (λ x. x ≡ get_or (map (record_at script) is) k x) same here
