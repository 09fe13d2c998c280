-- A batch that is stamped may be published as one group.
use Rattle.std.proofs.Common.{◌≡◌, ℕ, suc, ◌<◌, Bool, true, false, List, [], ◌∷◌, length, get_or, refl, sym, ap, ◌∙◌, subst, arith}
use Rattle.std.specs.Prelude.{◌==◌, ◌&&◌, ◌||◌, IsSome, IsTrue}
use Rattle.std.proofs.lemmas.Bool.{or_left, or_right}
use Rattle.hg_base.specs.declared.rid.Rid.{Rid}
use Rattle.hg_base.specs.Lists.{Each}
use Rattle.hg_base.specs.History.{same_rid}
use Rattle.hg_core.specs.declared.phase.Phase.{Phase}
use Rattle.hg_core.specs.declared.log.LogEntry.{LogEntry}
use Rattle.hg_core.specs.Contents.{is_stamped, has_stamped}
use Rattle.hg_core.specs.Logs.{is_plain, open_in}
use Rattle.hg_core.specs.Phases.{snapshot_in}
use Rattle.hg_rule.specs.declared.view.SessionPart.{SessionPart}
use Rattle.hg_rule.specs.declared.view.CommitPart.{CommitPart}
use Rattle.hg_rule.specs.declared.view.View.{View}
use Rattle.hg_rule.specs.Holding.{beyond, commit}
use Rattle.hg_rule.specs.Handing.{Members, members, MayPublish}
use Rattle.hg_rule.proofs.Members.{each_two}
use Rattle.hg_queue.specs.declared.open_tx.OpenTx.{OpenTx}
use Rattle.hg_group.specs.Batch.{IsTaken, AreTaken, with_session, all_pairs, bare, Stamped}
use Rattle.hg_group.proofs.Recording.{among_at}
use Rattle.hg_group.proofs.Stamped.{on_way, own_pairs, stamped_append}

-- what phases and logs say
abbrev Says : (ℕ → Phase → List LogEntry → Type 0) → Members → Type 0
Says P ms = Each (λ m. P m.0 m.1.phase m.1.log) ms

says_bare : (P : ℕ → Phase → List LogEntry → Type 0) (ms : Members) → Says P ms → Says P (bare ms)
says_bare P [] h = tt
says_bare P (m ∷ ms) h = (h.0, says_bare P ms h.1)

says_back : (P : ℕ → Phase → List LogEntry → Type 0) (ms : Members) → Says P (bare ms) → Says P ms
says_back P [] h = tt
says_back P (m ∷ ms) h = (h.0, says_back P ms h.1)

says_same : (P : ℕ → Phase → List LogEntry → Type 0) (ms ns : Members) → bare ms ≡ bare ns → Says P ns → Says P ms
says_same P ms ns e h = says_back P ms (subst (Says P) (sym e) (says_bare P ns h))

bare_length : (ms : Members) → length (bare ms) ≡ length ms
bare_length [] = refl
bare_length (m ∷ ms) = ap suc (bare_length ms)

taken_length : (txs : List OpenTx) (ms : Members) → AreTaken txs ms → length txs ≡ length ms
taken_length [] [] h = refl
taken_length [] (m ∷ ms) h = absurd h
taken_length (tx ∷ txs) [] h = absurd h
taken_length (tx ∷ txs) (m ∷ ms) h = ap suc (taken_length txs ms h.1)

taken_says : (P : ℕ → Phase → List LogEntry → Type 0) (txs : List OpenTx) (ms : Members) → ((tx : OpenTx) (m : ℕ × SessionPart) → IsTaken tx m → P m.0 m.1.phase m.1.log) → AreTaken txs ms → Says P ms
taken_says P [] [] f h = tt
taken_says P [] (m ∷ ms) f h = absurd h
taken_says P (tx ∷ txs) [] f h = absurd h
taken_says P (tx ∷ txs) (m ∷ ms) f h = (f tx m h.0, taken_says P txs ms f h.1)

-- each open write was stamped
abbrev Covers : List (ℕ × Rid) → ℕ → Phase → List LogEntry → Type 0
Covers done j phase log = (r : Rid) → IsSome (open_in r log) → is_stamped j r done ≡ true

covered : (txs : List OpenTx) (ms : Members) → AreTaken txs ms → Says (Covers (all_pairs txs)) ms
covered [] [] h = tt
covered [] (m ∷ ms) h = absurd h
covered (tx ∷ txs) [] h = absurd h
covered (tx ∷ txs) (m ∷ ms) h =
    let t = h.0 in
    let j : tx.writer.session ≡ m.0 = ap (λ w. w.session) t.tx_is.writer_is in (
      (λ r some. stamped_append m.0 r (with_session tx.writer.session tx.records.list) (all_pairs txs) ∙
          or_left (is_stamped m.0 r (with_session tx.writer.session tx.records.list)) (is_stamped m.0 r (all_pairs txs))
          (ap (λ k. is_stamped m.0 r (with_session k tx.records.list)) j ∙ (own_pairs m.0 r tx.records.list ∙ (t.tx_is.exact r ∙ some)))),
      later ms (covered txs ms h.1),
    )
  where
    later : (ns : Members) → Says (Covers (all_pairs txs)) ns → Says (Covers (all_pairs (tx ∷ txs))) ns
    later [] k = tt
    later (n ∷ ns) k = (
      (λ r some. stamped_append n.0 r (with_session tx.writer.session tx.records.list) (all_pairs txs) ∙
          or_right (is_stamped n.0 r (with_session tx.writer.session tx.records.list)) (is_stamped n.0 r (all_pairs txs)) (k.0 r some)),
      later ns k.1,
    )

has_one : (j : ℕ) (r : Rid) (list : List (ℕ × Rid)) → is_stamped j r list ≡ true → has_stamped j list ≡ true
has_one j r [] e = e
has_one j r (x ∷ list) e = go (x.0 == j) e (λ k. has_one j r list k)
  where
    go : (b : Bool) → ((b && same_rid x.1 r) || is_stamped j r list) ≡ true → (is_stamped j r list ≡ true → has_stamped j list ≡ true) → (b || has_stamped j list) ≡ true
    go true k later = refl
    go false k later = later k

-- each has a record that is open
abbrev HasOpen : ℕ → Phase → List LogEntry → Type 0
HasOpen j phase log = (r : Rid) × IsSome (open_in r log)

first : Rid
first = record { table = record { 0 = 0 }; key = 0 }

one_open : (tx : OpenTx) (m : ℕ × SessionPart) → IsTaken tx m → HasOpen m.0 m.1.phase m.1.log
one_open tx m t = (get_or tx.records.list 0 first, sym (t.tx_is.exact (get_or tx.records.list 0 first)) ∙ among_at tx.records.list 0 first t.some)

pub may_all : (v w : View) (txs : List OpenTx) → AreTaken txs (members (beyond v)) → 0 < length txs → Stamped v (all_pairs txs) w → MayPublish (members (beyond w)) (commit w).stamped
may_all v w txs taken some s =
    let ms0 : Members = members (beyond v) in
    let o = on_way v w s.ms s.list s.parts in
    let list : (commit w).stamped ≡ s.list = ap (λ (p : CommitPart). p.stamped) o.commit_is in
    let opens : Says HasOpen s.ms = says_same HasOpen s.ms ms0 s.alike (taken_says HasOpen txs ms0 one_open taken) in
    let covers : Says (Covers s.list) s.ms = turned s.list (all_pairs txs) s.exact s.ms (says_same (Covers (all_pairs txs)) s.ms ms0 s.alike (covered txs ms0 taken)) in
    subst (λ (ms : Members). MayPublish ms (commit w).stamped) (sym o.members_are) (subst (λ (l : List (ℕ × Rid)). MayPublish s.ms l) (sym list) record {
      some = let a : ℕ = length s.ms in let b : ℕ = length ms0 in let n : ℕ = length txs in let e : a ≡ b = sym (bare_length s.ms) ∙ (ap length s.alike ∙ bare_length ms0) in
          let f : n ≡ b = taken_length txs ms0 taken in omega (arith, some);
      live = says_same (λ j phase log. IsSome (snapshot_in phase)) s.ms ms0 s.alike (taken_says (λ j phase log. IsSome (snapshot_in phase)) txs ms0 (λ tx m t. t.may.live) taken);
      plain = says_same (λ j phase log. IsTrue (is_plain log)) s.ms ms0 s.alike (taken_says (λ j phase log. IsTrue (is_plain log)) txs ms0 (λ tx m t. t.may.plain) taken);
      flagged = each_two (λ m. has_stamped m.0 s.list ≡ true → m.1.stamped ≡ true) (λ m. has_stamped m.0 s.list ≡ true) (λ m. m.1.stamped ≡ true) s.ms (λ m f e. f e) s.flagged
          (each_two (λ m. HasOpen m.0 m.1.phase m.1.log) (λ m. Covers s.list m.0 m.1.phase m.1.log) (λ m. has_stamped m.0 s.list ≡ true) s.ms
          (λ m h k. has_one m.0 h.0 s.list (k h.0 h.1)) opens covers);
      alone = s.alone;
      every = covers;
    })
  where
    turned : (list done : List (ℕ × Rid)) → ((j : ℕ) (r : Rid) → is_stamped j r list ≡ is_stamped j r done) → (ms : Members) → Says (Covers done) ms → Says (Covers list) ms
    turned list done f [] h = tt
    turned list done f (m ∷ ms) h = ((λ r some. f m.0 r ∙ h.0 r some), turned list done f ms h.1)
