-- A stamp of an open write that was handed over is allowed.
use Rattle.std.proofs.Common.{◌≡◌, ℕ, suc, ◌+◌, ◌<◌, ◌≤◌, Bool, true, false, List, [], ◌∷◌, length, get_or, set, ◌==◌, refl, sym, ap, ◌∙◌, subst, arith, le_refl}
use Rattle.std.proofs.Common.{append-nil}
use Rattle.std.specs.Prelude.{if◌then◌else◌, IsTrue, ◌||◌}
use Rattle.std.proofs.lemmas.Bool.Decides.{Decides-eqb, nat_tests}
use mathlib.Core.Option.{none}
use Rattle.atomic_table.specs.Table.{step, keeps, Allows}
use Rattle.hg_base.specs.declared.rid.Rid.{Rid}
use Rattle.hg_base.specs.Lists.{Each}
use Rattle.hg_core.specs.Logs.{begans, is_plain, is_in, begun_in}
use Rattle.hg_core.specs.OpenWrites.{writer_of}
use Rattle.hg_core.specs.Versions.{stamped, IsOpenBy}
use Rattle.hg_core.specs.Contents.{bucket_of, store, versions, has_stamped}
use Rattle.hg_core.specs.State.{CoreState}
use Rattle.hg_core.specs.Events.{happens, Stamp as StampIt}
use Rattle.hg_rule.specs.declared.view.SessionPart.{SessionPart}
use Rattle.hg_rule.specs.declared.view.BucketPart.{BucketPart}
use Rattle.hg_rule.specs.declared.view.CommitPart.{CommitPart}
use Rattle.hg_rule.specs.declared.view.Part.{Part}
use Rattle.hg_rule.specs.declared.view.Part.TheVariants.{OfBucket, OfCommit, Away, Lent}
use Rattle.hg_rule.specs.declared.view.Event.TheVariants as events
use Rattle.hg_rule.specs.declared.view.View.{View}
use Rattle.hg_rule.specs.declared.view.Sizes.{Sizes}
use Rattle.hg_rule.specs.Keys.{session_key, one, has, count}
use Rattle.hg_rule.specs.Facts.{Shown}
use Rattle.hg_rule.specs.Rules.{Rule}
use Rattle.hg_rule.specs.Views.{number, session, since, HasAway, then_has}
use Rattle.hg_rule.specs.Steps.{Seated}
use Rattle.hg_rule.specs.Holding.{farther, bucket_number, bucket, HasBoth, commit_behind, held}
use Rattle.hg_rule.specs.Writes.{with_stamp, stamping, listing}
use Rattle.hg_rule.specs.Handing.{Members, lent, members, who, part_of, writer_at, flag, stamps}
use Rattle.hg_rule.proofs.Counts.{away_same}
use Rattle.hg_rule.proofs.Keeps.{keep}
use Rattle.hg_rule.proofs.Registers.{loaded_words}
use Rattle.hg_rule.proofs.Owned.{Leaves, leaves_only, not_second, held_versions, stored_here, stored_else}
use Rattle.hg_rule.proofs.Evidence.{log_stays}
use Rattle.hg_rule.proofs.Members.{each_part, each_lent, there, lent_shares, flag_count, alike, unlike}
use Rattle.hg_rule.proofs.Reached.{steady, acted}

turned : (j k : ℕ) → (k == j) ≡ false → (j == k) ≡ false
turned j k e = grind (arith, nat_tests)

flags_shown : (c d : CoreState) (j : ℕ) (rid : Rid) (ms : Members) → d.phase ≡ c.phase → d.log ≡ c.log → d.stamped_list ≡ (j, rid) ∷ c.stamped_list → Each (Shown c) (lent ms) →
    Each (Shown d) (lent (flag j ms))
flags_shown c d j rid [] phase logs list h = tt
flags_shown c d j rid (m ∷ ms) phase logs list h = (go (m.0 == j) refl, flags_shown c d j rid ms phase logs list h.1)
  where
    go : (b : Bool) → (m.0 == j) ≡ b → Shown d (Lent m.0 (if b then with_stamp m.1 else m.1))
    go true q = (
      (λ i. phase i m.0) ∙ h.0.0,
      (
        (λ i. logs i m.0) ∙ h.0.1.0,
        ap (has_stamped m.0) list ∙
            ap (λ x. x || has_stamped m.0 c.stamped_list) (ap (λ n. j == n) ((Decides-eqb m.0 j).0 q) ∙ alike j),
      ),
    )
    go false q = ((λ i. phase i m.0) ∙ h.0.0, ((λ i. logs i m.0) ∙ h.0.1.0, ap (has_stamped m.0) list ∙ ap (λ x. x || has_stamped m.0 c.stamped_list) (turned j m.0 q) ∙ h.0.1.1))

stamp_leaves : (c d : CoreState) (j b o n : ℕ) (was : SessionPart) (part : BucketPart) (h : CommitPart) (rid : Rid) (ms : Members) → is_in (who ms) j ≡ true → d.phase ≡ c.phase →
    d.log ≡ c.log → d.stamped_list ≡ (j, rid) ∷ c.stamped_list
    → ((k : ℕ) → (k ≡ b → ⊥) → d.bucket k ≡ c.bucket k) → d.counters ≡ c.counters → d.history ≡ c.history → d.taken ≡ c.taken → d.pass ≡ c.pass → d.visits ≡ c.visits → c.mark ≤ d.mark
    → Leaves c d (Away o was n ∷ OfBucket b part ∷ OfCommit h ∷ lent ms)
stamp_leaves c d j b o n was part h rid ms among phase logs list bucket counters history taken pass visits more = record {
  phase = λ k away i. phase i k;
  log = λ k away i. logs i k;
  stamped = λ k away. ap (has_stamped k) list ∙ ap (λ x. x || has_stamped k c.stamped_list) (unlike j k (λ (e : k ≡ j). let x : ℕ = count (session_key k) (lent ms) in
      let z : 0 + (0 + (0 + x)) ≡ 0 = away in let l : 0 < x = there ms k (ap (is_in (who ms)) e ∙ among) in omega arith));
  bucket = λ k away. bucket k (not_second b k 0 _ away);
  counters = λ k away i. counters i k;
  history = λ away. history;
  list = λ away. absurd (omega (arith, away));
  taken = λ away. taken;
  pass = λ p away i. pass i p;
  visits = λ p away i. visits i p;
  home = λ k part n away s. away_same c d k part n (λ i. phase i k) (λ i. logs i k) more s;
}

pub may_stamp : (z : Sizes) (slots id j : ℕ) (rid : Rid) (m : Seated) → HasAway m.0 → HasBoth m.0 → farther m.0 ≡ lent (members (farther m.0)) →
    IsTrue (is_in (who (members (farther m.0))) j) → IsTrue (is_plain (part_of j (members (farther m.0))).log)
    → bucket_of z.buckets rid ≡ bucket_number m.0 → IsOpenBy (writer_at j (members (farther m.0))) (held m.0 rid)
    → Allows (Rule z) slots id m 0 (λ n. n) (stamps j rid (step slots 0 0 0 none) m)
may_stamp z slots id j rid m is both far among plain place mine t r deep at small =
    let v : View = m.0 in
    let c = r.state in
    let o : ℕ = number v in
    let b : ℕ = bucket_number v in
    let ms : Members = members (farther v) in
    let h : CommitPart = commit_behind v in
    let n : ℕ = get_or t.words 0 0 in
    let first : Part = Away o (session v) (since v) in
    let qs : List Part = first ∷ OfBucket b (bucket v) ∷ OfCommit h ∷ lent ms in
    let parts : v.parts ≡ qs = is ∙ ap (λ (l : List Part). first ∷ l) (both ∙ ap (λ (l : List Part). OfBucket b (bucket v) ∷ OfCommit h ∷ l) far) in
    let all : Each (Shown c) qs = subst (Each (Shown c)) parts (r.shown id v at).parts in
    let there : Shown c (OfBucket b (bucket v)) = all.1.0 in
    let list : Shown c (OfCommit h) = all.1.1.0 in
    let own : Shown c (Lent j (part_of j ms)) = each_part (λ k p. Shown c (Lent k p)) ms j (each_lent (Shown c) ms all.1.1.1) among in
    let place' : bucket_of c.buckets rid ≡ b = ap (λ n. bucket_of n rid) r.sized.buckets ∙ place in
    let vs : versions c.buckets c.bucket rid ≡ held v rid = held_versions c 0 z.buckets b (bucket v).content rid r.sized.buckets place there.0 in
    let w : writer_of (begun_in c.log) j ≡ writer_at j ms = (λ i. record { session = j; transaction = begans (own.1.0 i) }) in
    let mark : c.mark ≡ length h.history.list = (steady r).mark_is_length.is_length ∙ ap length list.0 in
    let next : ℕ = suc (length h.history.list) in
    let d : CoreState = happens c (StampIt j rid) in
    let part : BucketPart = stamping next (writer_at j ms) rid (bucket v) in
    let qs' : List Part = first ∷ OfBucket b part ∷ OfCommit (listing j rid h) ∷ lent (flag j ms) in
    let words = loaded_words z c t.words 0 r.words in
    let grows = log_stays c in
    let content : d.bucket b ≡ part.content = stored_here c.buckets c.bucket rid _ b (bucket v).content place' there.0 ∙ (λ i. store rid (stamped (suc (mark i)) (w i) (vs i)) (bucket v).content) in (
      then_has v qs' [] (events.Stamp j rid next),
      keeps,
      tt,
      subst (λ (ps : List Part). Rule z record { words = set t.words 0 n; homes = t.homes; views = set t.views id (then_has v ps [] (events.Stamp j rid next)) }) (append-nil qs')
          (keep z t r id v qs qs' [] [] (events.Stamp j rid next) 0 n d at (parts ∙ sym (append-nil qs)) record {
            reached = acted z c (StampIt j rid) r.reached record {
              mine = subst (λ w. IsOpenBy w (versions c.buckets c.bucket rid)) (sym w) (subst (IsOpenBy (writer_at j ms)) (sym vs) mine);
              plain = subst (λ l. IsTrue (is_plain l)) (sym own.1.0) plain;
            };
            sized = record { sessions = r.sized.sessions; tables = r.sized.tables; buckets = r.sized.buckets; quota = r.sized.quota };
            passes = refl;
            shows = record { count = words.count; mark = words.mark; registers = words.registers; masks = words.masks };
            grows = record { history = grows.history; logs = grows.logs; taken = grows.taken };
            only = leaves_only c d _ (stamp_leaves c d j b o (since v) (session v) (bucket v) h rid ms among refl refl refl
                (λ k other. stored_else c.buckets c.bucket rid _ b k place' other) refl refl refl refl refl (le_refl _));
            counts = λ k. ap (λ x. one (has k first) + (one (has k (OfBucket b part)) + (one (has k (OfCommit h)) + x))) (flag_count k j ms);
            shared = ap (λ (y : ℕ). 0 + (0 + (0 + y))) (lent_shares (flag j ms) ∙ sym (lent_shares ms));
            shown = (all.0, ((content, there.1), ((list.0, (ap (λ l. (j, rid) ∷ l) list.1.0, list.1.1)), flags_shown c d j rid ms refl refl refl all.1.1.1)));
            known = tt;
            stands = tt;
          }),
      (refl, refl),
    )
