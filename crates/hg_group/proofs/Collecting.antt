-- What a group's context lists is what the group writes.
use Rattle.std.proofs.Common.{◌≡◌, ℕ, zero, suc, ◌+◌, ◌<◌, Bool, true, false, List, [], ◌∷◌, ◌++◌, length, take, get_or, Option, Some, None, refl, sym, ap, ◌∙◌, subst, arith, append_assoc}
use Rattle.std.proofs.Common.{append-nil, true≢false}
use Rattle.std.specs.Prelude.{◌||◌, IsSome, IsFalse, is_some}
use Rattle.std.specs.Option.{option_or}
use Rattle.std.proofs.lemmas.List.Folds.{list_any-append}
use Rattle.hg_base.specs.declared.rid.Rid.{Rid}
use Rattle.hg_base.specs.declared.image.Image.{Image}
use Rattle.hg_base.specs.Lists.{Each}
use Rattle.hg_base.specs.History.{NoneTwice, NoNumberTwice, same_rid, is_among, image_in, group_image}
use Rattle.hg_base.proofs.HistoryFacts.{same_rid_itself}
use Rattle.hg_core.specs.Logs.{begun_in, is_in, open_in, commit_in}
use Rattle.hg_core.specs.OpenWrites.{writer_of}
use Rattle.hg_core.specs.State.{CoreState}
use Rattle.hg_core.specs.Invariant.{IsSteady}
use Rattle.hg_core.proofs.NewGroup.{commit_image, first_in, rest_in}
use Rattle.hg_core.proofs.Versions.{same_pair}
use Rattle.hg_rule.specs.declared.view.CommitPart.{CommitPart}
use Rattle.hg_rule.specs.declared.view.Part.{Part}
use Rattle.hg_rule.specs.declared.view.Part.TheVariants.{OfCommit}
use Rattle.hg_rule.specs.declared.view.View.{View}
use Rattle.hg_rule.specs.declared.view.Sizes.{Sizes}
use Rattle.hg_rule.specs.Facts.{Shown}
use Rattle.hg_rule.specs.Rules.{IsBacked}
use Rattle.hg_rule.specs.Handing.{Members, lent, who, group_of}
use Rattle.hg_queue.specs.declared.open_tx.OpenTx.{OpenTx}
use Rattle.hg_group.specs.declared.contexts.GroupContext.{GroupContext}
use Rattle.hg_group.specs.Contexts.{IsContextOf}
use Rattle.hg_group.specs.Batch.{AreTaken, all_records}
use Rattle.hg_group.proofs.Grouped.{once}

-- ---- one more record, and one more transaction

more : (i : ℕ) → suc i + 1 ≡ suc (i + 1)
more i = omega arith

pub records_next : (txs : List OpenTx) (i : ℕ) (tx : OpenTx) → tx ≡ get_or txs i tx → i < length txs → all_records (take (i + 1) txs) ≡ all_records (take i txs) ++ tx.records.list
records_next [] i tx is l = absurd (omega (arith, l))
records_next (x ∷ txs) zero tx is l = append-nil x.records.list ∙ (λ i. (sym is i).records.list)
records_next (x ∷ txs) (suc i) tx is l =
    ap (λ n. all_records (take n (x ∷ txs))) (more i) ∙ (ap (λ l. x.records.list ++ l) (records_next txs i tx is (omega (arith, l))) ∙
    sym (append_assoc x.records.list (all_records (take i txs)) tx.records.list))

-- ---- exactly what the group writes

exact_all : (r : Rid) (txs : List OpenTx) (ms : Members) → AreTaken txs ms → is_among r (all_records txs) ≡ is_some (group_image r (group_of ms))
exact_all r [] [] h = refl
exact_all r [] (m ∷ ms) h = absurd h
exact_all r (tx ∷ txs) [] h = absurd h
exact_all r (tx ∷ txs) (m ∷ ms) h = list_any-append (same_rid r) tx.records.list (all_records txs) ∙
    ((λ i. here i || exact_all r txs ms h.1 i) ∙ either (image_in r (commit_in m.0 m.1.log).images) (group_image r (group_of ms)))
  where
    here : is_among r tx.records.list ≡ is_some (image_in r (commit_in m.0 m.1.log).images)
    here = h.0.tx_is.exact r ∙ ap is_some (sym (commit_image r m.0 m.1.log h.0.may.plain))

    either : (a b : Option Image) → (is_some a || is_some b) ≡ is_some (option_or a b)
    either None b = refl
    either (Some a) b = refl

-- ---- each once

none_append : (xs ys : List Rid) → NoneTwice xs → NoneTwice ys → Each (λ r. IsFalse (is_among r ys)) xs → NoneTwice (xs ++ ys)
none_append [] ys a b e = b
none_append (x ∷ xs) ys a b e = (list_any-append (same_rid x) xs ys ∙ step (is_among x xs) (is_among x ys) a.0 e.0, none_append xs ys a.1 b e.1)
  where
    step : (p q : Bool) → p ≡ false → q ≡ false → (p || q) ≡ false
    step p q e f = grind arith

each_among : (P : Rid → Type 0) (rs : List Rid) → ((r : Rid) → is_among r rs ≡ true → P r) → Each P rs
each_among P [] f = tt
each_among P (r ∷ rs) f = (f r (ap (λ b. b || is_among r rs) (same_rid_itself r)), each_among P rs (λ q e. f q (right (same_rid q r) (is_among q rs) e)))
  where
    right : (a b : Bool) → b ≡ true → (a || b) ≡ true
    right true b e = refl
    right false b e = e

some_is : (o : Option Image) → IsSome o → (a : Image) × (o ≡ Some a)
some_is None e = absurd cc
some_is (Some a) e = (a, refl)

module _ (s : CoreState) (steady : IsSteady s) where
  -- two sessions that have a record open are one
  owner : (r : Rid) (j k : ℕ) → IsSome (open_in r (s.log j)) → IsSome (open_in r (s.log k)) → j ≡ k
  owner r j k p q =
      let a = some_is (open_in r (s.log j)) p in
      let b = some_is (open_in r (s.log k)) q in
      ap (λ x. x.0.session) (same_pair (writer_of (begun_in s.log) j, a.0) (writer_of (begun_in s.log) k, b.0) (sym (steady.open_writes_stand.owns r j a.0 a.1) ∙
      steady.open_writes_stand.owns r k b.0 b.1))

  -- who has a record of these transactions open is of them
  whose : (r : Rid) (j : ℕ) → IsSome (open_in r (s.log j)) → (txs : List OpenTx) (ms : Members) → AreTaken txs ms → Each (Shown s) (lent ms) → is_among r (all_records txs) ≡ true →
      is_in (who ms) j ≡ true
  whose r j o [] ms h k e = absurd (true≢false (sym e))
  whose r j o (tx ∷ txs) [] h k e = absurd h
  whose r j o (tx ∷ txs) (m ∷ ms) h k e = go (is_among r tx.records.list) refl (sym (list_any-append (same_rid r) tx.records.list (all_records txs)) ∙ e) (λ f. whose r j o txs ms h.1 k.1 f)
    where
      go : (b : Bool) → is_among r tx.records.list ≡ b → (b || is_among r (all_records txs)) ≡ true → (is_among r (all_records txs) ≡ true → is_in (who ms) j ≡ true) → is_in (m.0 ∷ who ms) j ≡ true
      go true q f later =
          let own : IsSome (open_in r (s.log m.0)) = subst (λ l. IsSome (open_in r l)) (sym k.0.1.0) (sym (h.0.tx_is.exact r) ∙ q) in
          subst (λ i. is_in (i ∷ who ms) j ≡ true) (owner r j m.0 o own) (first_in j (who ms))
      go false q f later = rest_in j m.0 (who ms) (later f)

  once_all : (txs : List OpenTx) (ms : Members) → AreTaken txs ms → Each (Shown s) (lent ms) → NoNumberTwice (who ms) → NoneTwice (all_records txs)
  once_all [] ms h k d = tt
  once_all (tx ∷ txs) [] h k d = absurd h
  once_all (tx ∷ txs) (m ∷ ms) h k d = none_append tx.records.list (all_records txs) h.0.tx_is.once (once_all txs ms h.1 k.1 d.1)
      (each_among (λ r. IsFalse (is_among r (all_records txs))) tx.records.list (λ r e. apart r e (is_among r (all_records txs)) refl))
    where
      apart : (r : Rid) → is_among r tx.records.list ≡ true → (b : Bool) → is_among r (all_records txs) ≡ b → b ≡ false
      apart r e false f = refl
      apart r e true f =
          let own : IsSome (open_in r (s.log m.0)) = subst (λ l. IsSome (open_in r l)) (sym k.0.1.0) (sym (h.0.tx_is.exact r) ∙ e) in
          sym (whose r m.0 own txs ms h.1 k.1 f) ∙ d.0

-- the context of a batch is that of its group
pub group_context : (z : Sizes) (n : ℕ) (v : View) (k : IsBacked z n v) (first : Part) (part : CommitPart) (ms : Members) (is : v.parts ≡ first ∷ OfCommit part ∷ lent ms)
    (txs : List OpenTx) (taken : AreTaken txs ms) (number : ℕ) (c : GroupContext)
    → c.number ≡ number → c.records.list ≡ all_records txs → IsContextOf number (group_of ms) c
group_context z n v k first part ms is txs taken number c number_is listed = record {
  number_is = number_is;
  once = subst NoneTwice (sym listed) (once_all k.state k.steady txs ms taken all.1.1 (once z n v k first part ms is));
  exact = λ r. ap (is_among r) listed ∙ exact_all r txs ms taken;
}
  where
    all : Each (Shown k.state) (first ∷ OfCommit part ∷ lent ms)
    all = subst (Each (Shown k.state)) is k.true_of.parts
