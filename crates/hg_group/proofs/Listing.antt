-- One list for a batch: the first transaction's own, with the records of the others behind.
use Rattle.std.proofs.Common.{◌≡◌, ℕ, zero, suc, ◌+◌, ◌<◌, ◌≤◌, List, [], ◌∷◌, ◌++◌, length, map, take, drop, get_or, slice_index_or, slice_set, refl, sym, ap, ◌∙◌, subst, arith}
use Rattle.std.proofs.Common.{append_assoc, append-nil, length-append}
use Rattle.std.proofs.lemmas.List.{length-take-le}
use Rattle.hg_base.specs.declared.rid.Rid.{Rid}
use Rattle.hg_rule.specs.Handing.{Members}
use Rattle.hg_queue.specs.Rids.{Rids}
use Rattle.hg_queue.specs.declared.open_tx.OpenTx.{OpenTx}
use Rattle.hg_group.specs.Batch.{AreTaken, all_records, pair_in, with_room, HasRoomForAll}
use Rattle.hg_group.proofs.Recording.{take_next}
use Rattle.hg_group.proofs.Stamped.{take_all}
use Rattle.hg_group.proofs.Collecting.{records_next}

-- ---- other room

pub records_room : (n : ℕ) (txs : List OpenTx) → all_records (with_room n txs) ≡ all_records txs
records_room n [] = refl
records_room n (tx ∷ txs) = refl

pub pairs_room : (n : ℕ) (txs : List OpenTx) → map pair_in (with_room n txs) ≡ map pair_in txs
pairs_room n [] = refl
pairs_room n (tx ∷ txs) = refl

pub taken_room : (n : ℕ) (txs : List OpenTx) (ms : Members) → AreTaken txs ms → AreTaken (with_room n txs) ms
taken_room n [] [] h = tt
taken_room n [] (m ∷ ms) h = absurd h
taken_room n (tx ∷ txs) [] h = absurd h
taken_room n (tx ∷ txs) (m ∷ ms) h = (
  record {
    tx_is = record {
      writer_is = h.0.tx_is.writer_is;
      snapshot_is = h.0.tx_is.snapshot_is;
      once = h.0.tx_is.once;
      exact = h.0.tx_is.exact;
    };
    some = h.0.some;
    may = h.0.may;
  },
  h.1,
)

pub same_room : (txs : List OpenTx) → (n : ℕ) × (txs ≡ with_room n txs)
same_room [] = (0, refl)
same_room (tx ∷ txs) = (tx.records.room, refl)

pub set_room : (txs : List OpenTx) (tx : OpenTx) (records : Rids) → tx ≡ slice_index_or txs 0 tx → records.list ≡ tx.records.list → (n : ℕ) ×
    (slice_set txs 0 (record { writer = tx.writer; snapshot = tx.snapshot; records = records }) ≡ with_room n txs)
set_room [] tx records is same = (0, refl)
set_room (x ∷ txs) tx records is same = (
  records.room,
  λ i. record {
    writer = (is i).writer;
    snapshot = (is i).snapshot;
    records = record { list = (same ∙ ap (λ (y : OpenTx). y.records.list) is) i; room = records.room };
  } ∷ txs,
)

-- ---- counted

pub count_next : (txs : List OpenTx) (i : ℕ) (tx : OpenTx) (count : ℕ) → count ≡ length (all_records (take i txs)) → tx ≡ get_or txs i tx → i < length txs →
    count + length tx.records.list ≡ length (all_records (take (i + 1) txs))
count_next txs i tx count e is l = ap (λ n. n + length tx.records.list) e ∙ (sym (length-append (all_records (take i txs)) tx.records.list) ∙ ap length (sym (records_next txs i tx is l)))

pub count_all : (txs : List OpenTx) (i : ℕ) → i ≤ length txs → length txs ≤ i → all_records (take i txs) ≡ all_records txs
count_all txs i a b = let e : i ≡ length txs = omega (arith, a, b) in ap (λ n. all_records (take n txs)) e ∙ ap all_records (take_all txs)

-- the first records are no more than all
few : (txs : List OpenTx) (i : ℕ) → length (all_records (take i txs)) ≤ length (all_records txs)
few [] zero = omega arith
few [] (suc i) = omega arith
few (tx ∷ txs) zero = omega arith
few (tx ∷ txs) (suc i) = let a : ℕ = length tx.records.list in let b = length-append tx.records.list (all_records (take i txs)) in
    let d = length-append tx.records.list (all_records txs) in omega (arith, b, d, few txs i)

-- ---- the list grows

-- these records were moved to the list
pub record Joined (first : Rids) (done : List Rid) (now : Rids) : Type 0 where
  pub listed : now.list ≡ first.list ++ done
  pub room : length done + now.room ≡ first.room

pub none_joined : (first : Rids) → Joined first [] first
none_joined first = record { listed = sym (append-nil first.list); room = let n : ℕ = first.room in let e : 0 + n ≡ n = omega arith in e }

pub one_joined : (first now new : Rids) (rs : List Rid) (k : ℕ) (d : Rid) → Joined first (take k rs) now → k < length rs → new.list ≡ now.list ++ get_or rs k d ∷ [] →
    new.room + 1 ≡ now.room → Joined first (take (k + 1) rs) new
one_joined first now new rs k d j l pushed less =
    let next = take_next rs k d l in
    let long : length (take (k + 1) rs) ≡ length (take k rs) + 1 = ap length next ∙ length-append (take k rs) (get_or rs k d ∷ []) in
    record {
      listed = pushed ∙ (ap (λ x. x ++ get_or rs k d ∷ []) j.listed ∙ (append_assoc first.list (take k rs) (get_or rs k d ∷ []) ∙ ap (λ x. first.list ++ x) (sym next)));
      room = omega (arith, j.room, less, long);
    }

pub tx_joined : (first mid now : Rids) (txs : List OpenTx) (i k : ℕ) (tx : OpenTx) (rs : List Rid) → Joined first (all_records (take i txs)) mid → Joined mid (take k rs) now →
    rs ≡ tx.records.list → k ≤ length rs → length rs ≤ k → tx ≡ get_or txs i tx → i < length txs → Joined first (all_records (take (i + 1) txs)) now
tx_joined first mid now txs i k tx rs a b same le ge is l =
    let done = all_records (take i txs) in
    let own = tx.records.list in
    let end : k ≡ length rs = omega (arith, le, ge) in
    let whole : take k rs ≡ own = ap (λ n. take n rs) end ∙ (take_all rs ∙ same) in
    let next : all_records (take (i + 1) txs) ≡ done ++ own = records_next txs i tx is l in
    let long : length (all_records (take (i + 1) txs)) ≡ length done + length own = ap length next ∙ length-append done own in
    let short : length (take k rs) ≡ length own = ap length whole in
    record {
      listed = b.listed ∙ (ap (λ x. x ++ take k rs) a.listed ∙
          (append_assoc first.list done (take k rs) ∙ ap (λ x. first.list ++ x) (ap (λ x. done ++ x) whole ∙ sym next)));
      room = omega (arith, a.room, b.room, long, short);
    }

-- ---- and has room

pub has_place : (first mid now : Rids) (txs : List OpenTx) (i k : ℕ) (tx : OpenTx) (rs : List Rid) → length (all_records txs) ≤ first.room →
    Joined first (all_records (take i txs)) mid → Joined mid (take k rs) now → rs ≡ tx.records.list → k < length rs → tx ≡ get_or txs i tx → i < length txs → 0 < now.room
has_place first mid now txs i k tx rs all a b same less is l =
    let done = all_records (take i txs) in
    let long : length (all_records (take (i + 1) txs)) ≡ length done + length tx.records.list = ap length (records_next txs i tx is l) ∙ length-append done tx.records.list in
    let own : length rs ≡ length tx.records.list = ap length same in
    let short : length (take k rs) ≡ k = length-take-le k rs (omega (arith, less)) in
    omega (arith, all, a.room, b.room, long, own, short, less, few txs (i + 1))

parted : (txs : List OpenTx) (tx : OpenTx) → tx ≡ slice_index_or txs 0 tx → 0 < length txs → txs ≡ tx ∷ drop 1 txs
parted [] tx e l = absurd (omega (arith, l))
parted (x ∷ txs) tx e l = ap (λ y. y ∷ txs) (sym e)

pub room_beside : (txs rest : List OpenTx) (tx : OpenTx) → tx ≡ slice_index_or txs 0 tx → 0 < length txs → rest ≡ drop 1 txs → HasRoomForAll txs → length (all_records rest) ≤ tx.records.room
room_beside txs rest tx is some left h = subst (λ r. length (all_records r) ≤ tx.records.room) (sym left) (subst HasRoomForAll (parted txs tx is some) h)

pub all_joined : (txs rest : List OpenTx) (tx : OpenTx) (i : ℕ) (now : Rids) → tx ≡ slice_index_or txs 0 tx → 0 < length txs → rest ≡ drop 1 txs → i ≤ length rest →
    length rest ≤ i → Joined tx.records (all_records (take i rest)) now → now.list ≡ all_records txs
all_joined txs rest tx i now is some left le ge j = j.listed ∙ (ap (λ x. tx.records.list ++ x) (count_all rest i le ge ∙ ap all_records left) ∙ sym (ap all_records (parted txs tx is some)))
