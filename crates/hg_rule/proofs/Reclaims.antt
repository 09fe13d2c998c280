-- A pass with a whole record may take versions away in the bucket that it visits.
use Rattle.std.proofs.Common.{◌≡◌, ℕ, ◌-◌, ◌≤◌, List, [], ◌∷◌, length, get_or, refl, sym, ap, ◌∙◌, subst, le_refl}
use mathlib.Core.Option.{none}
use Rattle.atomic_table.specs.Table.{step, keeps, Allows}
use Rattle.hg_base.specs.declared.rid.Rid.{Rid}
use Rattle.hg_base.specs.declared.report.Kind.{Kind}
use Rattle.hg_core.specs.Passes.{IsWhole}
use Rattle.hg_core.specs.Contents.{bucket_of, store, versions, has_stamped}
use Rattle.hg_core.specs.Counters.{removed_more}
use Rattle.hg_core.specs.Removal.{reclaimed}
use Rattle.hg_core.specs.Visits.{IsVisiting, removing}
use Rattle.hg_core.specs.State.{CoreState}
use Rattle.hg_core.specs.Events.{happens, with_removed, Reclaim}
use Rattle.hg_core.proofs.Indices.{put_here, put_else}
use Rattle.hg_rule.specs.declared.view.BucketPart.{BucketPart}
use Rattle.hg_rule.specs.declared.view.PassPart.{PassPart}
use Rattle.hg_rule.specs.declared.view.Part.{Part}
use Rattle.hg_rule.specs.declared.view.Part.TheVariants.{OfBucket, OfPass}
use Rattle.hg_rule.specs.declared.view.Event.TheVariants as events
use Rattle.hg_rule.specs.declared.view.View.{View}
use Rattle.hg_rule.specs.declared.view.Sizes.{Sizes}
use Rattle.hg_rule.specs.Facts.{record_of, Shown}
use Rattle.hg_rule.specs.Rules.{Rule}
use Rattle.hg_rule.specs.Views.{number, pass, HasPass, then_has}
use Rattle.hg_rule.specs.Steps.{Seated}
use Rattle.hg_rule.specs.Holding.{beyond, bucket_number, bucket, HasBucket, held}
use Rattle.hg_rule.specs.Removes.{left_of, removed_of, shortening, visiting, removed}
use Rattle.hg_rule.proofs.Counts.{away_same}
use Rattle.hg_rule.proofs.Keeps.{keep}
use Rattle.hg_rule.proofs.Registers.{loaded_words}
use Rattle.hg_rule.proofs.Owned.{Leaves, leaves_only, not_first, not_second, own_second, held_versions, stored_here, stored_else}
use Rattle.hg_rule.proofs.Evidence.{own_pass, log_stays}
use Rattle.hg_rule.proofs.Works.{counters_else}
use Rattle.hg_rule.proofs.Reached.{acted}

reclaim_leaves : (c d : CoreState) (p b : ℕ) (old : PassPart) (part : BucketPart) → d.phase ≡ c.phase → d.log ≡ c.log → d.stamped_list ≡ c.stamped_list
    → ((k : ℕ) → (k ≡ b → ⊥) → d.bucket k ≡ c.bucket k) → ((k : ℕ) → (k ≡ b → ⊥) → d.counters k ≡ c.counters k) → d.history ≡ c.history → d.taken ≡ c.taken → d.pass ≡ c.pass →
    ((q : ℕ) → (q ≡ p → ⊥) → d.visits q ≡ c.visits q) → c.mark ≤ d.mark
    → Leaves c d (OfPass p old ∷ OfBucket b part ∷ [])
reclaim_leaves c d p b old part phase logs list bucket counters history taken pass visits more = record {
  phase = λ k away i. phase i k;
  log = λ k away i. logs i k;
  stamped = λ k away i. has_stamped k (list i);
  bucket = λ k away. bucket k (not_second b k 0 0 away);
  counters = λ k away. counters k (not_second b k 0 0 away);
  history = λ away. history;
  list = λ away. list;
  taken = λ away. taken;
  pass = λ p away i. pass i p;
  visits = λ q away. visits q (not_first p q _ away);
  home = λ k part n away s. away_same c d k part n (λ i. phase i k) (λ i. logs i k) more s;
}

pub reclaims : (z : Sizes) (slots id : ℕ) (rid : Rid) (kind : Kind) (m : Seated) → HasPass m.0 → IsWhole z.sessions (record_of (pass m.0)) → HasBucket m.0 →
    bucket_of z.buckets rid ≡ bucket_number m.0 → IsVisiting (bucket_number m.0) (pass m.0).visits
    → Allows (Rule z) slots id m 0 (λ n. n) (removed rid kind (step slots 0 0 0 none) m)
reclaims z slots id rid kind m is whole bucketed place here t r deep at small =
    let v : View = m.0 in
    let c = r.state in
    let p : ℕ = number v in
    let b : ℕ = bucket_number v in
    let n : ℕ = get_or t.words 0 0 in
    let own = own_pass z t r id v at is in
    let there : Shown c (OfBucket b (bucket v)) = own_second z t r id v at _ _ _ is bucketed in
    let place' : bucket_of c.buckets rid ≡ b = ap (λ n. bucket_of n rid) r.sized.buckets ∙ place in
    let vs : versions c.buckets c.bucket rid ≡ held v rid = held_versions c 0 z.buckets b (bucket v).content rid r.sized.buckets place there.0 in
    let left : reclaimed kind rid.table (c.pass p) (versions c.buckets c.bucket rid) ≡ left_of v rid kind = λ i. reclaimed kind rid.table (own.0 i) (vs i) in
    let many : length (versions c.buckets c.bucket rid) - length (reclaimed kind rid.table (c.pass p) (versions c.buckets c.bucket rid)) ≡ removed_of v rid kind = λ i. length
    (vs i) - length (left i) in
    let d : CoreState = happens c (Reclaim p kind rid) in
    let new : PassPart = visiting kind (removed_of v rid kind) (pass v) in
    let part : BucketPart = shortening rid kind (left_of v rid kind) (removed_of v rid kind) (bucket v) in
    let words = loaded_words z c t.words 0 r.words in
    let grows = log_stays c in
    let content : d.bucket b ≡ part.content = stored_here c.buckets c.bucket rid _ b (bucket v).content place' there.0 ∙ (λ i. store rid (left i) (bucket v).content) in
    let counts : d.counters b ≡ part.counters =
    (λ i. with_removed c.counters (place' i) kind (length (versions c.buckets c.bucket rid) - length (reclaimed kind rid.table (c.pass p) (versions c.buckets c.bucket rid))) b)
    ∙ (put_here c.counters b _ ∙ (λ i. record (there.1 i) { removed = removed_more kind (many i) (there.1 i).removed })) in
    let visits : d.visits p ≡ new.visits = put_here c.visits p _ ∙ (λ i. removing kind (many i) (own.1.0 i)) in (
      then_has v (OfPass p new ∷ OfBucket b part ∷ beyond v) [] (events.Reclaim p kind rid (removed_of v rid kind)),
      keeps,
      tt,
      keep z t r id v (OfPass p (pass v) ∷ OfBucket b (bucket v) ∷ []) (OfPass p new ∷ OfBucket b part ∷ []) (beyond v) [] (events.Reclaim p kind rid (removed_of v rid kind)) 0 n d at
          (is ∙ ap (λ (l : List Part). OfPass p (pass v) ∷ l) bucketed) record {
            reached = acted z c (Reclaim p kind rid) r.reached record {
              whole = subst (λ n. IsWhole n (c.pass p)) (sym r.sized.sessions) (subst (IsWhole z.sessions) (sym own.0) whole);
              here = subst (λ n. IsVisiting n (c.visits p)) (sym place') (subst (IsVisiting b) (sym own.1.0) here);
            };
            sized = record { sessions = r.sized.sessions; tables = r.sized.tables; buckets = r.sized.buckets; quota = r.sized.quota };
            passes = refl;
            shows = record { count = words.count; mark = words.mark; registers = words.registers; masks = words.masks };
            grows = record { history = grows.history; logs = grows.logs; taken = grows.taken };
            only = leaves_only c d _ (reclaim_leaves c d p b (pass v) (bucket v) refl refl refl (λ k other. stored_else c.buckets c.bucket rid _ b k place' other)
                (λ k other. counters_else c.counters _ b k _ place' other) refl refl refl
                (λ q other. put_else c.visits p q _ other) (le_refl _));
            counts = λ k. refl;
            shared = refl;
            shown = ((own.0, (visits, own.1.1)), ((content, counts), tt));
            known = tt;
            stands = tt;
          },
      (refl, refl),
    )
