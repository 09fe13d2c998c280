use Rattle.std.proofs.Common.{rules, ◌≡◌, [], ◌∷◌, length, ℕ, suc, ◌+◌, ◌-◌, ◌<◌, ◌≤◌, List, drop, slice_index_or, sym, ap, ◌∙◌, subst, arith, refl}
use Rattle.hg_rule.specs.Seats.{board_id, sizes_of, session_view}
use Rattle.hg_rule.specs.declared.view.View.{View}
use Rattle.hg_queue.specs.declared.open_tx.OpenTx.{OpenTx}
use Rattle.hg_group.specs.declared.book.Laid.{Laid}
use Rattle.hg_group.specs.declared.book.Outcome.TheVariants.{Refused}
use Rattle.hg_group.specs.Batch.{IsLaid, HasBatch}
use Rattle.hg_group.proofs.Batching.{away_back}
use Rattle.hg_group.proofs.Laying_down.{laid_set}
use Rattle.hg_group.proofs.Back.{Same, Parted, Next, next_of, parted_none, parted_more, refused_one, back_end}
use Rattle.hg_group.proofs.leader.lay_back.Goals as goal

none : (n : ℕ) → 0 + n ≡ n
none n = omega arith

pub loop-turn-init : goal.loop-turn-init
loop-turn-init c = record {
  own = (c.requires.own, refl);
  laid = c.requires.laid;
  batch = c.requires.batch;
  parted = parted_none (session_view c.args.pass.now) c.args.popped.now.items;
  left = none (length c.args.popped.now.items);
  room = refl;
}

some_left : (n i long all : ℕ) → i + long ≡ all → n ≡ all → i < n → 0 < long
some_left n i long all e f l = omega (arith, e, f, l)

parted : (txs : List OpenTx) (x : OpenTx) → x ≡ slice_index_or txs 0 x → 0 < length txs → txs ≡ x ∷ drop 1 txs
parted [] x e l = absurd (omega (arith, l))
parted (tx ∷ txs) x e l = ap (λ y. y ∷ txs) (sym e)

pub remove-tx-requires : goal.remove-tx-requires
remove-tx-requires c = subst (λ m. 0 < m) (sym c.loop-turn.popped.ok.0) (some_left c.len-turn-end.result c.loop-turn.turn (length c.loop-turn.popped.items)
    (length c.args.popped.now.items) c.loop-turn.invariant.left (c.len-turn-end.ensures ∙ c.args.popped.now.ok.0) c.loop-turn-test.true)

next : (z : ℕ) (v : View) (txs rest : List OpenTx) (tx : OpenTx) (n i : ℕ) (all : ℕ) → HasBatch z v txs → tx ≡ slice_index_or txs 0 tx → rest ≡ drop 1 txs → i + length txs ≡ all →
    n ≡ all → i < n → Next z v tx rest
next z v txs rest tx n i all b is left e f l = next_of z v tx rest (subst (HasBatch z v) (parted txs tx is (some_left n i (length txs) all e f l) ∙ ap (λ ys. tx ∷ ys) (sym left)) b)

pub hand_back-seat-requires-clause-own : goal.hand_back-seat-requires-clause-own
hand_back-seat-requires-clause-own c = c.loop-turn.invariant.own.0.0

pub hand_back-seat-requires-clause-next : goal.hand_back-seat-requires-clause-next
hand_back-seat-requires-clause-next c = (next (sizes_of c.args.board.now).sessions (session_view c.loop-turn.pass) c.loop-turn.popped.items c.remove-tx.new.self.items
    c.remove-tx.result c.len-turn-end.result c.loop-turn.turn (length c.args.popped.now.items) c.loop-turn.invariant.batch c.remove-tx.ensures.value c.remove-tx.ensures.items
    c.loop-turn.invariant.left (c.len-turn-end.ensures ∙ c.args.popped.now.ok.0) c.loop-turn-test.true).is

pub hand_back-seat-requires-clause-unstamped : goal.hand_back-seat-requires-clause-unstamped
hand_back-seat-requires-clause-unstamped c = (next (sizes_of c.args.board.now).sessions (session_view c.loop-turn.pass) c.loop-turn.popped.items c.remove-tx.new.self.items
    c.remove-tx.result c.len-turn-end.result c.loop-turn.turn (length c.args.popped.now.items) c.loop-turn.invariant.batch c.remove-tx.ensures.value c.remove-tx.ensures.items
    c.loop-turn.invariant.left (c.len-turn-end.ensures ∙ c.args.popped.now.ok.0) c.loop-turn-test.true).taken.may.unstamped

pub overflow_sub-session : goal.overflow_sub-session
overflow_sub-session c =
    let n = next (sizes_of c.args.board.now).sessions (session_view c.loop-turn.pass) c.loop-turn.popped.items c.remove-tx.new.self.items c.remove-tx.result c.len-turn-end.result
    c.loop-turn.turn (length c.args.popped.now.items) c.loop-turn.invariant.batch c.remove-tx.ensures.value c.remove-tx.ensures.items c.loop-turn.invariant.left
    (c.len-turn-end.ensures ∙ c.args.popped.now.ok.0) c.loop-turn-test.true in
    n.inside.first

low : (j z long : ℕ) → 0 < j → j ≤ z → long ≡ z → j - 1 < long
low j z long a b e = omega (arith, a, b, e)

pub index_mut-requires : goal.index_mut-requires
index_mut-requires c =
    let n = next (sizes_of c.args.board.now).sessions (session_view c.loop-turn.pass) c.loop-turn.popped.items c.remove-tx.new.self.items c.remove-tx.result c.len-turn-end.result
    c.loop-turn.turn (length c.args.popped.now.items) c.loop-turn.invariant.batch c.remove-tx.ensures.value c.remove-tx.ensures.items c.loop-turn.invariant.left
    (c.len-turn-end.ensures ∙ c.args.popped.now.ok.0) c.loop-turn-test.true in
    subst (λ m. c.remove-tx.result.writer.session - 1 < m) (sym c.loop-turn.laid.ok.0)
    (low c.remove-tx.result.writer.session (sizes_of c.args.board.now).sessions (length c.loop-turn.laid.items) n.inside.first n.inside.last c.loop-turn.invariant.laid.1)

back_up : (j : ℕ) → 0 < j → j ≡ 1 + (j - 1)
back_up j a = omega (arith, a)

one_less : (i long short all : ℕ) → i + long ≡ all → long ≡ suc short → i + 1 + short ≡ all
one_less i long short all e f = omega (arith, e, f)

pub loop-turn-preserved : goal.loop-turn-preserved
loop-turn-preserved c =
    let z : ℕ = (sizes_of c.args.board.now).sessions in
    let t = board_id c.args.board.now in
    let w = session_view c.loop-turn.pass in
    let u = session_view c.hand_back-seat.new.pass in
    let tx = c.remove-tx.result in
    let j : ℕ = tx.writer.session in
    let txs = c.loop-turn.popped.items in
    let rest = c.remove-tx.new.self.items in
    let n = next z w txs rest tx c.len-turn-end.result c.loop-turn.turn (length c.args.popped.now.items) c.loop-turn.invariant.batch c.remove-tx.ensures.value
    c.remove-tx.ensures.items c.loop-turn.invariant.left (c.len-turn-end.ensures ∙ c.args.popped.now.ok.0) c.loop-turn-test.true in
    let new : Laid = record { seat = c.hand_back-seat.result; outcome = Refused tx } in
    let one : IsLaid t j new = refused_one z w tx rest t new n refl c.hand_back-seat.ensures.tx.0 c.hand_back-seat.ensures.tx.1 c.hand_back-seat.ensures.seat in
    let away = away_back t (sizes_of c.args.board.now) c.loop-turn.pass c.hand_back-seat.new.pass c.loop-turn.invariant.own.0 c.hand_back-seat.ensures.own.0
    c.hand_back-seat.ensures.own.1 c.hand_back-seat.ensures.view in
    let first : txs ≡ tx ∷ drop 1 txs = parted txs tx c.remove-tx.ensures.value
    (some_left c.len-turn-end.result c.loop-turn.turn (length txs) (length c.args.popped.now.items) c.loop-turn.invariant.left (c.len-turn-end.ensures ∙
    c.args.popped.now.ok.0) c.loop-turn-test.true) in
    let long : length txs ≡ suc (length rest) = ap length first ∙ ap (λ (ys : List OpenTx). suc (length ys)) (sym c.remove-tx.ensures.items) in
    record {
      own = (away.0, away.1 ∙ c.loop-turn.invariant.own.1);
      laid = (
        laid_set t 1 (j - 1) c.loop-turn.laid.items new (low j z (length c.loop-turn.laid.items) n.inside.first n.inside.last c.loop-turn.invariant.laid.1)
            c.loop-turn.invariant.laid.0 (subst (λ m. IsLaid t m new) (back_up j n.inside.first) one),
        search rules,
      );
      batch = subst (λ y. HasBatch z y rest) (sym c.hand_back-seat.ensures.view) n.rest;
      parted = parted_more (session_view c.args.pass.now) w u c.args.popped.now.items rest tx (subst (Parted (session_view c.args.pass.now) c.args.popped.now.items w) (first ∙
          ap (λ ys. tx ∷ ys) (sym c.remove-tx.ensures.items)) c.loop-turn.invariant.parted) (subst (λ y. Same w (j ∷ []) y) (sym c.hand_back-seat.ensures.view) n.same);
      left = one_less c.loop-turn.turn (length txs) (length rest) (length c.args.popped.now.items) c.loop-turn.invariant.left long;
      room = c.remove-tx.ensures.capacity ∙ c.loop-turn.invariant.room;
    }

none_left : (n i long all : ℕ) → i + long ≡ all → n ≡ all → n ≤ i → long ≡ 0
none_left n i long all e f l = omega (arith, e, f, l)

empty : (txs : List OpenTx) → length txs ≡ 0 → txs ≡ []
empty [] e = refl
empty (tx ∷ txs) e = absurd (let n : ℕ = length txs in let f : suc n ≡ 0 = e in omega (arith, f))

pub returns-clause-laid : goal.returns-clause-laid
returns-clause-laid c = c.loop-turn.invariant.laid

pub returns-clause-all : goal.returns-clause-all
returns-clause-all c =
    let txs = c.loop-turn.popped.items in
    let none : txs ≡ [] = empty txs (none_left c.len-turn-end.result c.loop-turn.turn (length txs) (length c.args.popped.now.items) c.loop-turn.invariant.left
    (c.len-turn-end.ensures ∙ c.args.popped.now.ok.0) (search rules)) in
    back_end (sizes_of c.args.board.now).sessions (session_view c.args.pass.now) (session_view c.loop-turn.pass) c.args.popped.now.items txs none c.loop-turn.invariant.batch
    c.loop-turn.invariant.parted

pub returns-clause-own : goal.returns-clause-own
returns-clause-own c = c.loop-turn.invariant.own

pub returns-clause-popped : goal.returns-clause-popped
returns-clause-popped c = let txs = c.loop-turn.popped.items in (
  empty txs (none_left c.len-turn-end.result c.loop-turn.turn (length txs) (length c.args.popped.now.items) c.loop-turn.invariant.left (c.len-turn-end.ensures ∙
      c.args.popped.now.ok.0) (search rules)),
  c.loop-turn.invariant.room,
)
