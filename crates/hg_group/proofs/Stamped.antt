-- The records of a batch are stamped, one after the other.
use Rattle.std.proofs.Common.{◌≡◌, ℕ, zero, suc, ◌+◌, ◌<◌, Bool, true, false, List, [], ◌∷◌, ◌++◌, length, take, get_or, refl, sym, ap, ◌∙◌, subst, arith, append_assoc, append-nil, true≢false}
use Rattle.std.specs.Prelude.{◌==◌, ◌&&◌, ◌||◌, if◌then◌else◌, IsSome, IsTrue, is_some}
use Rattle.std.proofs.lemmas.Bool.Decides.{Decides-eqb, nat_tests}
use Rattle.std.proofs.lemmas.List.{map-append}
use Rattle.hg_base.specs.declared.rid.Rid.{Rid}
use Rattle.hg_base.specs.Lists.{Each}
use Rattle.hg_base.proofs.ListFacts.{each_snoc}
use Rattle.hg_base.specs.History.{NoNumberTwice, NoneTwice, same_rid, is_among}
use Rattle.hg_core.specs.Contents.{is_stamped, has_stamped}
use Rattle.hg_core.specs.Logs.{begans, is_plain, is_in, open_in}
use Rattle.hg_rule.specs.declared.view.CommitPart.{CommitPart}
use Rattle.hg_rule.specs.declared.view.Part.{Part}
use Rattle.hg_rule.specs.declared.view.Part.TheVariants.{OfCommit, Away}
use Rattle.hg_rule.specs.declared.view.Event.TheVariants.{Stamp}
use Rattle.hg_rule.specs.declared.view.View.{View}
use Rattle.hg_rule.specs.Views.{number, session, since, seeing, HasAway}
use Rattle.hg_rule.specs.Holding.{beyond, commit, HasCommit}
use Rattle.hg_rule.specs.Writes.{with_stamp, listing}
use Rattle.hg_rule.specs.Handing.{Members, members, lent, who, part_of, writer_at, flag}
use Rattle.hg_rule.proofs.Lists.{starts_same, starts_on}
use Rattle.hg_queue.specs.declared.open_tx.OpenTx.{OpenTx}
use Rattle.hg_group.specs.Batch.{IsTaken, AreTaken, StampsOne, with_session, all_pairs, bare, IsStamp, Stamped}
use Rattle.hg_base.proofs.RidOrder.{same_back}
use Rattle.hg_group.proofs.Recording.{among_at, among_before, take_next}
use Rattle.hg_group.proofs.Batching.{away_there}

-- ---- sessions with their parts, whatever is stamped

pub members_lent : (ms : Members) → members (lent ms) ≡ ms
members_lent [] = refl
members_lent (m ∷ ms) = ap (λ l. m ∷ l) (members_lent ms)

bare_flag : (j : ℕ) (ms : Members) → bare (flag j ms) ≡ bare ms
bare_flag j [] = refl
bare_flag j (m ∷ ms) = λ i. (m.0, one (m.0 == j) i) ∷ bare_flag j ms i
  where
    one : (b : Bool) → record (if b then with_stamp m.1 else m.1) { stamped = false } ≡ record m.1 { stamped = false }
    one true = refl
    one false = refl

who_bare : (ms : Members) → who (bare ms) ≡ who ms
who_bare [] = refl
who_bare (m ∷ ms) = ap (λ l. m.0 ∷ l) (who_bare ms)

log_bare : (j : ℕ) (ms : Members) → (part_of j (bare ms)).log ≡ (part_of j ms).log
log_bare j [] = refl
log_bare j (m ∷ ms) = go (m.0 == j) (log_bare j ms)
  where
    go : (b : Bool) → (part_of j (bare ms)).log ≡ (part_of j ms).log → (if b then record m.1 { stamped = false } else part_of j (bare ms)).log ≡ (if b then m.1 else part_of j ms).log
    go true later = refl
    go false later = later

pub same_who : (ms ns : Members) → bare ms ≡ bare ns → who ms ≡ who ns
same_who ms ns e = sym (who_bare ms) ∙ (ap who e ∙ who_bare ns)

pub same_log : (j : ℕ) (ms ns : Members) → bare ms ≡ bare ns → (part_of j ms).log ≡ (part_of j ns).log
same_log j ms ns e = sym (log_bare j ms) ∙ (ap (λ l. (part_of j l).log) e ∙ log_bare j ns)

flags_more : (j : ℕ) (rid : Rid) (list : List (ℕ × Rid)) (ms : Members) → Each (λ m. has_stamped m.0 list ≡ true → m.1.stamped ≡ true) ms →
    Each (λ m. has_stamped m.0 ((j, rid) ∷ list) ≡ true → m.1.stamped ≡ true) (flag j ms)
flags_more j rid list [] h = tt
flags_more j rid list (m ∷ ms) h = (go (m.0 == j) refl, flags_more j rid list ms h.1)
  where
    turned : (j k : ℕ) → (k == j) ≡ false → (j == k) ≡ false
    turned j k e = grind (arith, nat_tests)

    go : (b : Bool) → (m.0 == j) ≡ b → ((j == m.0) || has_stamped m.0 list) ≡ true → (if b then with_stamp m.1 else m.1).stamped ≡ true
    go true q e = refl
    go false q e = h.0 (sym (ap (λ x. x || has_stamped m.0 list) (turned j m.0 q)) ∙ e)

pub stamped_append : (j : ℕ) (r : Rid) (xs ys : List (ℕ × Rid)) → is_stamped j r (xs ++ ys) ≡ (is_stamped j r xs || is_stamped j r ys)
stamped_append j r [] ys = refl
stamped_append j r (x ∷ xs) ys = ap (λ b. (x.0 == j && same_rid x.1 r) || b) (stamped_append j r xs ys) ∙ turn (x.0 == j && same_rid x.1 r) (is_stamped j r xs) (is_stamped j r ys)
  where
    turn : (a b c : Bool) → (a || (b || c)) ≡ ((a || b) || c)
    turn true b c = refl
    turn false b c = refl

-- ---- one more

-- what a view says on the way
pub record OnWay (v : View) (ms : Members) (list : List (ℕ × Rid)) (w : View) : Type 0 where
  pub number_is : number w ≡ number v
  pub session_is : session w ≡ session v
  pub since_is : since w ≡ since v
  pub has : HasCommit w
  pub commit_is : commit w ≡ record (commit v) { stamped = list }
  pub beyond_is : beyond w ≡ lent ms
  pub members_are : members (beyond w) ≡ ms

pub on_way : (v w : View) (ms : Members) (list : List (ℕ × Rid)) → w.parts ≡ Away (number v) (session v) (since v) ∷ OfCommit (record (commit v) { stamped = list }) ∷ lent ms → OnWay v ms list w
on_way v w ms list e = go w.parts e w.sights w.events
  where
    go : (ps : List Part) → ps ≡ Away (number v) (session v) (since v) ∷ OfCommit (record (commit v) { stamped = list }) ∷ lent ms → (sights : _) (events : _) →
        OnWay v ms list (seeing ps sights events)
    go ps e sights events = subst (λ x. OnWay v ms list (seeing x sights events)) (sym e) record {
      number_is = refl;
      session_is = refl;
      since_is = refl;
      has = refl;
      commit_is = refl;
      beyond_is = refl;
      members_are = members_lent ms;
    }

pub stamped_start : (v : View) → HasAway v → HasCommit v → beyond v ≡ lent (members (beyond v)) → (commit v).stamped ≡ [] → Stamped v [] v
stamped_start v own has far none = record {
  ms = members (beyond v);
  list = [];
  parts = away_there v own has ∙ (λ i. Away (number v) (session v) (since v) ∷ OfCommit (record (commit v) { stamped = none i }) ∷ far i);
  alike = refl;
  flagged = never (members (beyond v));
  exact = λ j r. refl;
  alone = tt;
  kept = starts_same v.sights;
  steps = [];
  only = tt;
  events = sym (append-nil v.events);
}
  where
    never : (ms : Members) → Each (λ m. has_stamped m.0 [] ≡ true → m.1.stamped ≡ true) ms
    never [] = tt
    never (m ∷ ms) = ((λ e. absurd (true≢false (sym e))), never ms)

pub stamped_next : (v w x : View) (done : List (ℕ × Rid)) (j n : ℕ) (r : Rid) → IsTrue (is_in (who (members (beyond v))) j) → Stamped v done w → StampsOne w j r n x → Stamped v (done ++ (j, r) ∷ []) x
stamped_next v w x done j n r among s one =
    let o = on_way v w s.ms s.list s.parts in
    let who_flag : who (flag j s.ms) ≡ who s.ms = same_who (flag j s.ms) s.ms (bare_flag j s.ms) in record {
      ms = flag j s.ms;
      list = (j, r) ∷ s.list;
      parts = one.parts ∙ (λ i. Away (o.number_is i) (o.session_is i) (o.since_is i) ∷ OfCommit (listing j r (o.commit_is i)) ∷ lent (flag j (o.members_are i)));
      alike = bare_flag j s.ms ∙ s.alike;
      flagged = flags_more j r s.list s.ms s.flagged;
      exact = λ k q. ap (λ b. (j == k && same_rid r q) || b) (s.exact k q) ∙ (swap_or (j == k && same_rid r q) (is_stamped k q done) ∙ sym (stamped_append k q done ((j, r) ∷ [])));
      alone = subst (λ js. Each (λ e. IsTrue (is_in js e.0)) ((j, r) ∷ s.list)) (sym who_flag) (subst (λ js. IsTrue (is_in js j)) (sym (same_who s.ms (members (beyond v)) s.alike)) among, s.alone);
      kept = starts_on x.sights w.sights v.sights s.kept one.kept;
      steps = s.steps ++ Stamp j r n ∷ [];
      only = each_snoc IsStamp s.steps (Stamp j r n) s.only tt;
      events = one.events ∙ (ap (λ l. l ++ Stamp j r n ∷ []) s.events ∙ append_assoc v.events s.steps (Stamp j r n ∷ []));
    }
  where
    swap_or : (a b : Bool) → (a || b) ≡ (b || (a || false))
    swap_or true true = refl
    swap_or true false = refl
    swap_or false true = refl
    swap_or false false = refl

-- ---- which transaction is next

-- the transaction at a place, with its part, and nobody before it is of its session
pub taken_at : (txs : List OpenTx) (ms : Members) (i : ℕ) (d : OpenTx) → AreTaken txs ms → NoNumberTwice (who ms) → i < length txs
    → (is_in (who ms) (get_or txs i d).writer.session ≡ true) × (IsTaken (get_or txs i d) ((get_or txs i d).writer.session, part_of (get_or txs i d).writer.session ms) ×
    ((r : Rid) → is_stamped (get_or txs i d).writer.session r (all_pairs (take i txs)) ≡ false))
taken_at [] ms i d h once l = absurd (omega (arith, l))
taken_at (tx ∷ txs) [] i d h once l = absurd h
taken_at (tx ∷ txs) (m ∷ ms) zero d h once l =
    let same : m.0 ≡ tx.writer.session = sym (ap (λ w. w.session) h.0.tx_is.writer_is) in
    let here : (m.0 == tx.writer.session) ≡ true = (Decides-eqb m.0 tx.writer.session).1 same in (
      ap (λ b. b || is_in (who ms) tx.writer.session) here,
      (
        subst (λ p. IsTaken tx (tx.writer.session, p)) (sym (ap (λ b. if b then m.1 else part_of tx.writer.session ms) here))
            (subst (λ k. IsTaken tx (k, m.1)) same h.0),
        (λ r. refl),
      ),
    )
taken_at (tx ∷ txs) (m ∷ ms) (suc i) d h once l =
    let rest = taken_at txs ms i d h.1 once.1 (omega (arith, l)) in
    let j = (get_or txs i d).writer.session in
    let apart : (m.0 == j) ≡ false = unlike m.0 j (λ (e : m.0 ≡ j). true≢false (sym rest.0 ∙ (ap (is_in (who ms)) (sym e) ∙ once.0))) in
    let same : tx.writer.session ≡ m.0 = ap (λ w. w.session) h.0.tx_is.writer_is in (
      ap (λ b. b || is_in (who ms) j) apart ∙ rest.0,
      (
        subst (λ p. IsTaken (get_or txs i d) (j, p)) (sym (ap (λ b. if b then m.1 else part_of j ms) apart)) rest.1.0,
        (λ r. stamped_append j r (with_session tx.writer.session tx.records.list) (all_pairs (take i txs)) ∙
            (λ k. others j r tx.writer.session tx.records.list (ap (λ n. n == j) same ∙ apart) k || rest.1.1 r k)),
      ),
    )
  where
    unlike : (a b : ℕ) → (a ≡ b → ⊥) → (a == b) ≡ false
    unlike a b other = grind (arith, nat_tests)

    others : (j : ℕ) (r : Rid) (k : ℕ) (rs : List Rid) → (k == j) ≡ false → is_stamped j r (with_session k rs) ≡ false
    others j r k [] e = refl
    others j r k (q ∷ rs) e = (λ i. ((e i) && same_rid q r) || others j r k rs e i)

-- its own records: those that were stamped of it so far
pub own_pairs : (j : ℕ) (r : Rid) (rs : List Rid) → is_stamped j r (with_session j rs) ≡ is_among r rs
own_pairs j r [] = refl
own_pairs j r (q ∷ rs) = (λ i. (alike i && back q r i) || own_pairs j r rs i)
  where
    alike : (j == j) ≡ true
    alike = grind (arith, nat_tests)

    back : (q r : Rid) → same_rid q r ≡ same_rid r q
    back q r = same_back q r

pub unstamped_yet : (j : ℕ) (done : List (ℕ × Rid)) (rs : List Rid) (k : ℕ) (d : Rid) → k < length rs → NoneTwice rs → is_stamped j (get_or rs k d) done ≡ false →
    is_stamped j (get_or rs k d) (done ++ with_session j (take k rs)) ≡ false
unstamped_yet j done rs k d l once none = stamped_append j (get_or rs k d) done (with_session j (take k rs)) ∙
    ((λ i. none i || (own_pairs j (get_or rs k d) (take k rs) ∙ among_before rs k d l once) i))

-- ---- what a stamp asks

pub record Ready (v w : View) (tx : OpenTx) (rid : Rid) (n : ℕ) : Type 0 where
  pub has : HasCommit w
  pub received : (beyond w ≡ lent (members (beyond w))) × IsTrue (is_in (who (members (beyond w))) tx.writer.session)
  pub among : IsTrue (is_in (who (members (beyond v))) tx.writer.session)
  pub plain : IsTrue (is_plain (part_of tx.writer.session (members (beyond w))).log)
  pub next : n ≡ suc (length (commit w).history.list)
  pub by : tx.writer ≡ writer_at tx.writer.session (members (beyond w))
  pub mine : IsSome (open_in rid (part_of tx.writer.session (members (beyond w))).log)
  pub once : is_stamped tx.writer.session rid (commit w).stamped ≡ false

pub ready : (v w : View) (txs : List OpenTx) (i k n : ℕ) (tx : OpenTx) (rs : List Rid) (d : Rid) → tx ≡ get_or txs i tx → i < length txs → rs ≡ tx.records.list → k < length rs →
    AreTaken txs (members (beyond v)) → NoNumberTwice (who (members (beyond v)))
    → n ≡ suc (length (commit v).history.list) → Stamped v (all_pairs (take i txs) ++ with_session tx.writer.session (take k rs)) w → Ready v w tx (get_or rs k d) n
ready v w txs i k n tx rs d is less same inside taken once next s =
    let ms0 : Members = members (beyond v) in
    let j : ℕ = tx.writer.session in
    let r : Rid = get_or rs k d in
    let o = on_way v w s.ms s.list s.parts in
    let t = taken_at txs ms0 i tx taken once less in
    let at : (is_in (who ms0) j ≡ true) × (IsTaken tx (j, part_of j ms0) × ((q : Rid) → is_stamped j q (all_pairs (take i txs)) ≡ false)) =
    subst (λ (x : OpenTx). (is_in (who ms0) x.writer.session ≡ true) ×
    (IsTaken x (x.writer.session, part_of x.writer.session ms0) × ((q : Rid) → is_stamped x.writer.session q (all_pairs (take i txs)) ≡ false))) (sym is) t in
    let log : (part_of j (members (beyond w))).log ≡ (part_of j ms0).log = ap (λ l. (part_of j l).log) o.members_are ∙ same_log j s.ms ms0 s.alike in
    let who_is : who (members (beyond w)) ≡ who ms0 = ap who o.members_are ∙ same_who s.ms ms0 s.alike in
    let own : is_among r tx.records.list ≡ true = subst (λ l. is_among r l ≡ true) same (among_at rs k d inside) in
    record {
      has = o.has;
      received = (o.beyond_is ∙ ap lent (sym o.members_are), ap (λ js. is_in js j) who_is ∙ at.0);
      among = at.0;
      plain = subst (λ l. IsTrue (is_plain l)) (sym log) at.1.0.may.plain;
      next = next ∙ ap (λ (p : CommitPart). suc (length p.history.list)) (sym o.commit_is);
      by = at.1.0.tx_is.writer_is ∙ (λ q. record { session = j; transaction = begans (sym log q) });
      mine = ap (λ l. is_some (open_in r l)) log ∙ (sym (at.1.0.tx_is.exact r) ∙ own);
      once = ap (λ (p : CommitPart). is_stamped j r p.stamped) o.commit_is ∙
          (s.exact j r ∙ unstamped_yet j (all_pairs (take i txs)) rs k d inside (subst NoneTwice (sym same) at.1.0.tx_is.once) (at.1.1 r));
    }

-- ---- lists, one place further

pub take_all : {A : Type 0} (xs : List A) → take (length xs) xs ≡ xs
take_all [] = refl
take_all (x ∷ xs) = ap (λ l. x ∷ l) (take_all xs)

more : (i : ℕ) → suc i + 1 ≡ suc (i + 1)
more i = omega arith

pub all_next : (txs : List OpenTx) (i : ℕ) (tx : OpenTx) → tx ≡ get_or txs i tx → i < length txs →
    all_pairs (take (i + 1) txs) ≡ all_pairs (take i txs) ++ with_session tx.writer.session tx.records.list
all_next [] i tx is l = absurd (omega (arith, l))
all_next (x ∷ txs) zero tx is l = append_nil (with_session x.writer.session x.records.list) ∙ (λ i. with_session (sym is i).writer.session (sym is i).records.list)
  where
    append_nil : (xs : List (ℕ × Rid)) → xs ++ [] ≡ xs
    append_nil [] = refl
    append_nil (y ∷ ys) = ap (λ l. y ∷ l) (append_nil ys)
all_next (x ∷ txs) (suc i) tx is l =
    ap (λ n. all_pairs (take n (x ∷ txs))) (more i) ∙ (ap (λ l. with_session x.writer.session x.records.list ++ l) (all_next txs i tx is (omega (arith, l))) ∙
    sym (append_assoc (with_session x.writer.session x.records.list) (all_pairs (take i txs)) (with_session tx.writer.session tx.records.list)))

pub with_next : (j : ℕ) (done : List (ℕ × Rid)) (rs : List Rid) (k : ℕ) (d : Rid) → k < length rs →
    (done ++ with_session j (take k rs)) ++ (j, get_or rs k d) ∷ [] ≡ done ++ with_session j (take (k + 1) rs)
with_next j done rs k d l = append_assoc done (with_session j (take k rs)) ((j, get_or rs k d) ∷ []) ∙
    ap (λ x. done ++ x) (sym (map-append (λ r. (j, r)) (take k rs) (get_or rs k d ∷ [])) ∙ ap (with_session j) (sym (take_next rs k d l)))
