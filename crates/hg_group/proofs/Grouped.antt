-- A batch becomes a group: its order, and the places of its receipts.
use Rattle.std.proofs.Common.{◌≡◌, ℕ, suc, ◌+◌, ◌≤◌, Bool, true, false, List, [], ◌∷◌, ◌++◌, length, map, refl, sym, ap, ◌∙◌, subst, arith, true≢false}
use Rattle.std.specs.Prelude.{◌==◌, ◌&&◌, ◌||◌, IsSome, IsTrue}
use Rattle.hg_base.specs.Lists.{Each}
use Rattle.hg_base.specs.History.{Group, History, NoNumberTwice}
use Rattle.hg_core.specs.declared.log.LogEntry.{LogEntry}
use Rattle.hg_core.specs.Logs.{current, begans, is_plain, is_in, commit_in}
use Rattle.hg_core.specs.Phases.{snapshot_in}
use Rattle.hg_core.specs.State.{CoreState}
use Rattle.hg_core.specs.Invariant.{IsSteady}
use Rattle.hg_rule.specs.declared.view.SessionPart.{SessionPart}
use Rattle.hg_rule.specs.declared.view.CommitPart.{CommitPart}
use Rattle.hg_rule.specs.declared.view.Part.{Part}
use Rattle.hg_rule.specs.declared.view.Part.TheVariants.{OfCommit}
use Rattle.hg_rule.specs.declared.view.View.{View}
use Rattle.hg_rule.specs.declared.view.Sizes.{Sizes}
use Rattle.hg_rule.specs.Keys.{session_key, one, has, count}
use Rattle.hg_rule.specs.Facts.{Shown}
use Rattle.hg_rule.specs.Rules.{IsBacked}
use Rattle.hg_rule.specs.Handing.{Members, lent, who, group_of}
use Rattle.hg_rule.proofs.Counts.{expected_small}
use Rattle.hg_rule.proofs.Members.{none_twice}
use Rattle.hg_queue.specs.declared.open_tx.OpenTx.{OpenTx}
use Rattle.hg_group.specs.declared.receipt.Receipt.{Receipt}
use Rattle.hg_core.specs.Commits.{commits_in}
use Rattle.hg_group.specs.Order.{Pairs, pair_of, flat, same_pair, FollowsQueue, StandsIn}
use Rattle.hg_group.specs.Batch.{pair_in, AreTaken}
use Rattle.hg_core.proofs.Earlier.{earlier as open_earlier}
use Rattle.hg_group.proofs.Ordering.{IsNone, NoPairTwice, follows_refused, follows_more, earlier}

-- the group has the pairs that were popped
pub pairs_are : (txs : List OpenTx) (ms : Members) → AreTaken txs ms → map pair_of (group_of ms) ≡ map pair_in txs
pairs_are [] [] h = refl
pairs_are [] (m ∷ ms) h = absurd h
pairs_are (tx ∷ txs) [] h = absurd h
pairs_are (tx ∷ txs) (m ∷ ms) h = λ i. ((sym h.0.tx_is.writer_is i).session, (sym h.0.tx_is.writer_is i).transaction) ∷ pairs_are txs ms h.1 i

-- each session once, so each pair once
not_here : (j x : ℕ) (ms : Members) → is_in (who ms) j ≡ false → IsNone (j, x) (map pair_of (group_of ms))
not_here j x [] e = tt
not_here j x (m ∷ ms) e = (ap (λ b. b && (begans m.1.log == x)) (left (m.0 == j) (is_in (who ms) j) e), not_here j x ms (right (m.0 == j) (is_in (who ms) j) e))
  where
    left : (a b : Bool) → (a || b) ≡ false → a ≡ false
    left true b q = q
    left false b q = refl

    right : (a b : Bool) → (a || b) ≡ false → b ≡ false
    right true b q = absurd (true≢false q)
    right false b q = q

pub pairs_apart : (ms : Members) → NoNumberTwice (who ms) → NoPairTwice (map pair_of (group_of ms))
pairs_apart [] h = tt
pairs_apart (m ∷ ms) h = (not_here m.0 (begans m.1.log) ms h.0, pairs_apart ms h.1)

-- what holds of each of one list and each of another
swap : {A B : Type 0} (R : A → B → Type 0) (xs : List A) (ys : List B) → Each (λ x. Each (R x) ys) xs → Each (λ y. Each (λ x. R x y) xs) ys
swap R xs [] h = tt
swap R xs (y ∷ ys) h = (heads xs h, swap R xs ys (tails xs h))
  where
    heads : (zs : List _) → Each (λ x. Each (R x) (y ∷ ys)) zs → Each (λ x. R x y) zs
    heads [] h = tt
    heads (z ∷ zs) h = (h.0.0, heads zs h.1)

    tails : (zs : List _) → Each (λ x. Each (R x) (y ∷ ys)) zs → Each (λ x. Each (R x) ys) zs
    tails [] h = tt
    tails (z ∷ zs) h = (h.0.1, tails zs h.1)

-- none of the batch was committed before
fresh : (s : CoreState) (txs : List OpenTx) (ms : Members) → IsSteady s → AreTaken txs ms → Each (Shown s) (lent ms) →
    Each (λ q. Each (λ p. same_pair q p ≡ false) (map pair_of (flat s.history))) (map pair_of (group_of ms))
fresh s [] [] h a k = tt
fresh s [] (m ∷ ms) h a k = absurd a
fresh s (tx ∷ txs) [] h a k = absurd a
fresh s (tx ∷ txs) (m ∷ ms) h a k =
    let plain : IsTrue (is_plain (s.log m.0)) = subst (λ l. IsTrue (is_plain l)) (sym k.0.1.0) a.0.may.plain in
    let live : IsSome (current (s.log m.0)) = subst IsSome (sym (h.logs_answer.reads m.0 ∙ ap snapshot_in k.0.0)) a.0.may.live in (
      subst (λ (l : List LogEntry). Each (λ p. same_pair (m.0, begans l) p ≡ false) (map pair_of (flat s.history))) k.0.1.0
          (earlier s.history m.0 (begans (s.log m.0)) (open_earlier s.history s.log m.0 h.logs_answer.commits plain live)),
      fresh s txs ms h a.1 k.1,
    )

module _ (z : Sizes) (n : ℕ) (v : View) (k : IsBacked z n v) (first : Part) (c : CommitPart) (ms : Members) (is : v.parts ≡ first ∷ OfCommit c ∷ lent ms) where
  all : Each (Shown k.state) (first ∷ OfCommit c ∷ lent ms)
  all = subst (Each (Shown k.state)) is k.true_of.parts

  pub once : NoNumberTwice (who ms)
  once = none_twice ms (λ j. let a : ℕ = count (session_key j) v.parts in let b : ℕ = count (session_key j) (lent ms) in let x : ℕ = one (has (session_key j) first) in
      let h1 : a ≡ x + (0 + b) = ap (count (session_key j)) is in let h2 : a ≤ 1 = subst (λ m. a ≤ m) refl (most j) in omega arith)
    where
      most : (j : ℕ) → count (session_key j) v.parts ≤ 1
      most j = let e = k.most (session_key j) in let f = expected_small z k.used (session_key j) in omega (arith, e, f)

  module _ (txs : List OpenTx) (taken : AreTaken txs ms) (popped : Pairs) (follows : FollowsQueue c.history.list popped) where
    none : Each (λ p. IsNone p (map pair_of (group_of ms))) (map pair_of (flat c.history.list))
    none = subst (λ (h : History). Each (λ p. IsNone p (map pair_of (group_of ms))) (map pair_of (flat h))) all.1.0.0
        (swap (λ q p. same_pair q p ≡ false) (map pair_of (group_of ms)) (map pair_of (flat k.state.history)) (fresh k.state txs ms k.steady taken all.1.1))

    -- a batch that is committed follows the queue, and so does what was committed where it is refused
    pub follows_group : FollowsQueue (c.history.list ++ group_of ms ∷ []) (popped ++ map pair_in txs)
    follows_group = subst (λ bs. FollowsQueue (c.history.list ++ group_of ms ∷ []) (popped ++ bs)) (pairs_are txs ms taken)
        (follows_more c.history.list (group_of ms) popped (map pair_of (group_of ms)) refl (pairs_apart ms once) none follows)

    pub follows_still : FollowsQueue c.history.list (popped ++ map pair_in txs)
    follows_still = subst (λ bs. FollowsQueue c.history.list (popped ++ bs)) (pairs_are txs ms taken) (follows_refused c.history.list popped (map pair_of (group_of ms)) none follows)

-- ---- the places of the receipts

pub commits_more : (h : History) (g : Group) → commits_in (h ++ g ∷ []) ≡ commits_in h + length g
commits_more [] g = let n : ℕ = length g in let e : n + 0 ≡ 0 + n = omega arith in e
commits_more (f ∷ h) g = let a : ℕ = length f in let b : ℕ = commits_in h in let d : ℕ = length g in let e : commits_in (h ++ g ∷ []) ≡ b + d = commits_more h g in
    let r : a + (b + d) ≡ (a + b) + d = omega arith in ap (λ x. a + x) e ∙ r

group_append : (ms ns : Members) → group_of (ms ++ ns) ≡ group_of ms ++ group_of ns
group_append [] ns = refl
group_append (m ∷ ms) ns = ap (λ l. commit_in m.0 m.1.log ∷ l) (group_append ms ns)

pub group_length : (ms : Members) → length (group_of ms) ≡ length ms
group_length [] = refl
group_length (m ∷ ms) = ap suc (group_length ms)

pub stands : (h : History) (before : Members) (j : ℕ) (part : SessionPart) (after : Members) (receipt : Receipt) → receipt.number ≡ suc (length h) →
    receipt.place ≡ commits_in h + length before → StandsIn (h ++ group_of (before ++ (j, part) ∷ after) ∷ []) receipt (commit_in j part.log)
stands h before j part after receipt number place = record {
  before = h;
  earlier = group_of before;
  others = group_of after;
  after = [];
  is = ap (λ g. h ++ g ∷ []) (group_append before ((j, part) ∷ after));
  number_is = number;
  place_is = place ∙ ap (λ m. commits_in h + m) (sym (group_length before));
}
