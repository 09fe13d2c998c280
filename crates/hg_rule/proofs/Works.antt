-- A write, and taking it back, are allowed.
use Rattle.std.proofs.Common.{◌≡◌, ℕ, suc, ◌+◌, ◌<◌, ◌≤◌, Bool, true, false, List, [], ◌∷◌, get_or, Some, refl, sym, ap, ◌∙◌, subst, arith, le_refl}
use Rattle.std.specs.Prelude.{if◌then◌else◌, nat_le, IsSome, IsTrue, IfSome}
use mathlib.Core.Option.{none}
use Rattle.atomic_table.specs.Table.{step, keeps, Allows}
use Rattle.hg_base.specs.declared.rid.Rid.{Rid}
use Rattle.hg_base.specs.declared.image.Image.{Image}
use Rattle.hg_base.specs.declared.writer.Writer.{Writer}
use Rattle.hg_base.specs.Lists.{Each}
use Rattle.hg_base.specs.Transcript.{has}
use Rattle.hg_core.specs.declared.log.LogEntry.{LogEntry}
use Rattle.hg_core.specs.declared.log.LogEntry.TheVariants as entries
use Rattle.hg_base.specs.declared.scope.Scope.{Scope}
use Rattle.hg_core.specs.declared.phase.Phase.{Phase}
use Rattle.hg_core.specs.declared.phase.Phase.TheVariants.{Live}
use Rattle.hg_core.specs.declared.version.Stamp.{Stamp}
use Rattle.hg_core.specs.declared.version.Stamp.TheVariants.{Written, Numbered, Oldest}
use Rattle.hg_core.specs.declared.version.Version.{Version}
use Rattle.hg_core.specs.declared.visit.Counters.{Counters}
use Rattle.hg_core.specs.Logs.{wrotes, is_plain}
use Rattle.hg_core.specs.Phases.{snapshot_in}
use Rattle.hg_core.specs.Marks.{PhaseUpTo}
use Rattle.hg_core.specs.Versions.{stamp_number, first_at, pair_of, newest_at, installed, undone, IsFreeFor, IsOpenBy}
use Rattle.hg_core.specs.Contents.{bucket_of, store, versions, has_stamped}
use Rattle.hg_core.specs.Counters.{added}
use Rattle.hg_core.specs.State.{CoreState}
use Rattle.hg_core.specs.Events.{put, happens, with_made, with_undone, Install, Undo}
use Rattle.hg_core.proofs.Indices.{put_here, put_else}
use Rattle.hg_rule.specs.declared.view.SessionPart.{SessionPart}
use Rattle.hg_rule.specs.declared.view.BucketPart.{BucketPart}
use Rattle.hg_rule.specs.declared.view.Part.{Part}
use Rattle.hg_rule.specs.declared.view.Part.TheVariants.{OfSession, OfBucket}
use Rattle.hg_rule.specs.declared.view.Sight.TheVariants as sights
use Rattle.hg_rule.specs.declared.view.Event.TheVariants as events
use Rattle.hg_rule.specs.declared.view.View.{View}
use Rattle.hg_rule.specs.declared.view.Sizes.{Sizes}
use Rattle.hg_rule.specs.Facts.{EndsWith, Shown}
use Rattle.hg_rule.specs.Rules.{Rule}
use Rattle.hg_rule.specs.Views.{number, session, HasSession, then_has}
use Rattle.hg_rule.specs.Steps.{Seated}
use Rattle.hg_rule.specs.Holding.{beyond, bucket_number, bucket, HasBucket, writer, snapshot, tables, held}
use Rattle.hg_rule.specs.Writes.{with_entry, IsOwnOrSeen, installing, undoing, wrote, undid}
use Rattle.hg_rule.proofs.Lists.{starts_same, ends_same}
use Rattle.hg_rule.proofs.Counts.{away_same}
use Rattle.hg_rule.proofs.Keeps.{keep}
use Rattle.hg_rule.proofs.Registers.{loaded_words}
use Rattle.hg_rule.proofs.Owned.{Leaves, leaves_only, not_first, not_second, log_put, own_second, held_versions, stored_here, stored_else, live_is, writer_is}
use Rattle.hg_rule.proofs.Evidence.{own_session}
use Rattle.hg_rule.proofs.Reached.{steady, acted}

-- ---- what the condition of a write says at the mark

-- each version is own or seen: so nobody else has the record open, and its newest number is at or below the snapshot
free_for : (mark at : ℕ) (w : Writer) (vs : List Version) → at ≤ mark → Each (IsOwnOrSeen w at) vs → IsFreeFor mark w vs
free_for mark at w [] le h = tt
free_for mark at w (v ∷ vs) le h = go v.stamp h.0
  where
    go : (x : Stamp) → IsOwnOrSeen w at (record { stamp = x; image = v.image }) → IsFreeFor mark w (record { stamp = x; image = v.image } ∷ vs)
    go (Written by) k = k
    go (Numbered n by) k = omega (arith, k)
    go (Oldest n) k = tt

newest_seen : (mark at : ℕ) (w : Writer) (vs : List Version) → Each (IsOwnOrSeen w at) vs → IfSome (newest_at mark vs) (λ pair. pair.0 ≤ at)
newest_seen mark at w [] h = tt
newest_seen mark at w (v ∷ vs) h = go v.stamp h.0 (newest_seen mark at w vs h.1)
  where
    pick : (b : Bool) (n : ℕ) (x : Stamp) → stamp_number x ≡ Some n → n ≤ at → IfSome (newest_at mark vs) (λ pair. pair.0 ≤ at)
        → IfSome (pair_of (if b then Some (record { stamp = x; image = v.image }) else first_at mark vs)) (λ pair. pair.0 ≤ at)
    pick true n (Written by) e le rest = absurd (let z = e in cc)
    pick true n (Numbered m by) e le rest = let same : m ≡ n = (let z = e in cc) in omega (arith, le)
    pick true n (Oldest m) e le rest = let same : m ≡ n = (let z = e in cc) in omega (arith, le)
    pick false n x e le rest = rest

    go : (x : Stamp) → IsOwnOrSeen w at (record { stamp = x; image = v.image }) → IfSome (newest_at mark vs) (λ pair. pair.0 ≤ at) →
        IfSome (newest_at mark (record { stamp = x; image = v.image } ∷ vs)) (λ pair. pair.0 ≤ at)
    go (Written by) k rest = rest
    go (Numbered n by) k rest = pick (nat_le n mark) n (Numbered n by) refl k rest
    go (Oldest n) k rest = pick (nat_le n mark) n (Oldest n) refl k rest

snapshot_low : (mark : ℕ) (p : Phase) (at : ℕ) (scope : Scope) → p ≡ Live at scope → PhaseUpTo mark p → at ≤ mark
snapshot_low mark p at scope e h = subst (PhaseUpTo mark) e h

-- ---- what a write changes

entry_leaves : (c d : CoreState) (j b : ℕ) (old : SessionPart) (part : BucketPart) (log : List LogEntry) → d.phase ≡ c.phase → d.log ≡ put c.log j log → d.stamped_list ≡ c.stamped_list
    → ((k : ℕ) → (k ≡ b → ⊥) → d.bucket k ≡ c.bucket k) → ((k : ℕ) → (k ≡ b → ⊥) → d.counters k ≡ c.counters k) → d.history ≡ c.history → d.taken ≡ c.taken → d.pass ≡ c.pass →
    d.visits ≡ c.visits → c.mark ≤ d.mark
    → Leaves c d (OfSession j old ∷ OfBucket b part ∷ [])
entry_leaves c d j b old part log phase logs list bucket counters history taken pass visits more = record {
  phase = λ k away i. phase i k;
  log = λ k away. (λ i. logs i k) ∙ put_else c.log j k log (not_first j k _ away);
  stamped = λ k away. ap (has_stamped k) list;
  bucket = λ k away. bucket k (not_second b k 0 0 away);
  counters = λ k away. counters k (not_second b k 0 0 away);
  history = λ away. history;
  list = λ away. list;
  taken = λ away. taken;
  pass = λ p away i. pass i p;
  visits = λ p away i. visits i p;
  home = λ k part n away s. away_same c d k part n (λ i. phase i k) ((λ i. logs i k) ∙ put_else c.log j k log (not_first j k _ away)) more s;
}

pub counters_else : (counters : ℕ → Counters) (at b k : ℕ) (new : Counters) → at ≡ b → (k ≡ b → ⊥) → put counters at new k ≡ counters k
counters_else counters at b k new e other = put_else counters at k new (λ (s : k ≡ at). other (s ∙ e))

pub installs : (z : Sizes) (slots id : ℕ) (rid : Rid) (image : Image) (m : Seated) → HasSession m.0 → IsSome (snapshot_in (session m.0).phase) →
    IsTrue (is_plain (session m.0).log) → (session m.0).stamped ≡ false
    → HasBucket m.0 → bucket_of z.buckets rid ≡ bucket_number m.0 → IsTrue (has (tables m.0) rid.table) → rid.table.0 < z.tables → wrotes (session m.0).log < z.quota →
    Each (IsOwnOrSeen (writer m.0) (snapshot m.0)) (held m.0 rid)
    → Allows (Rule z) slots id m 0 (λ n. n) (wrote rid image (step slots 0 0 0 none) m)
installs z slots id rid image m is live plain unstamped bucketed place table low room free t r deep at small =
    let v : View = m.0 in
    let c = r.state in
    let j : ℕ = number v in
    let b : ℕ = bucket_number v in
    let n : ℕ = get_or t.words 0 0 in
    let own = own_session z t r id v at is in
    let there : Shown c (OfBucket b (bucket v)) = own_second z t r id v at _ _ _ is bucketed in
    let place' : bucket_of c.buckets rid ≡ b = ap (λ n. bucket_of n rid) r.sized.buckets ∙ place in
    let vs : versions c.buckets c.bucket rid ≡ held v rid = held_versions c 0 z.buckets b (bucket v).content rid r.sized.buckets place there.0 in
    let w = writer_is c v own.1.0 in
    let d : CoreState = happens c (Install j rid image) in
    let new : SessionPart = with_entry (entries.Wrote rid image) (session v) in
    let part : BucketPart = installing (writer v) rid image (bucket v) in
    let words = loaded_words z c t.words 0 r.words in
    let snap : snapshot v ≤ c.mark = snapshot_low c.mark (c.phase j) (snapshot v) (tables v) (own.0 ∙ live_is (session v).phase live) ((steady r).mark_is_length.sessions j) in
    let log : d.log j ≡ entries.Wrote rid image ∷ (session v).log = put_here c.log j _ ∙ ap (λ l. entries.Wrote rid image ∷ l) own.1.0 in
    let content : d.bucket b ≡ part.content = stored_here c.buckets c.bucket rid _ b (bucket v).content place' there.0 ∙ (λ i. store rid (installed (w i) image (vs i)) (bucket v).content) in
    let counts : d.counters b ≡ part.counters =
    (λ i. with_made c.counters (place' i) (added (versions c.buckets c.bucket rid)) b) ∙ (put_here c.counters b _ ∙ (λ i. record (there.1 i) { made = (there.1 i).made + added (vs i) })) in (
      then_has v (OfSession j new ∷ OfBucket b part ∷ beyond v) (sights.Heard j new.log ∷ []) (events.Install j rid image),
      keeps,
      tt,
      keep z t r id v (OfSession j (session v) ∷ OfBucket b (bucket v) ∷ []) (OfSession j new ∷ OfBucket b part ∷ []) (beyond v) (sights.Heard j new.log ∷ [])
          (events.Install j rid image) 0 n d at (is ∙ ap (λ (l : List Part). OfSession j (session v) ∷ l) bucketed) record {
            reached = acted z c (Install j rid image) r.reached (
              snapshot v,
              tables v,
              record {
                live = own.0 ∙ live_is (session v).phase live;
                table = table;
                there = subst (λ n. rid.table.0 < n) (sym r.sized.tables) low;
                plain = subst (λ l. IsTrue (is_plain l)) (sym own.1.0) plain;
                unstamped = own.1.1 ∙ unstamped;
                room = omega (arith, room, ap wrotes own.1.0, r.sized.quota);
                free = subst (λ w. IsFreeFor c.mark w (versions c.buckets c.bucket rid)) (sym w)
                    (subst (IsFreeFor c.mark (writer v)) (sym vs) (free_for c.mark (snapshot v) (writer v) (held v rid) snap free));
                newest = subst (λ l. IfSome (newest_at c.mark l) (λ pair. pair.0 ≤ snapshot v)) (sym vs) (newest_seen c.mark (snapshot v) (writer v) (held v rid) free);
              },
            );
            sized = record { sessions = r.sized.sessions; tables = r.sized.tables; buckets = r.sized.buckets; quota = r.sized.quota };
            passes = refl;
            shows = record { count = words.count; mark = words.mark; registers = words.registers; masks = words.masks };
            grows = record { history = starts_same c.history; logs = log_put c j _ (entries.Wrote rid image ∷ [], refl); taken = omega arith };
            only = leaves_only c d _ (entry_leaves c d j b (session v) (bucket v) _ refl refl refl (λ k other. stored_else c.buckets c.bucket rid _ b k place' other)
                (λ k other. counters_else c.counters _ b k _ place' other) refl refl refl refl (le_refl _));
            counts = λ k. refl;
            shared = refl;
            shown = ((own.0, (log, own.1.1)), ((content, counts), tt));
            known = (subst (λ l. EndsWith l new.log) (sym log) (ends_same new.log), tt);
            stands = tt;
          },
      (refl, refl),
    )

pub undoes : (z : Sizes) (slots id : ℕ) (rid : Rid) (m : Seated) → HasSession m.0 → (session m.0).stamped ≡ false → HasBucket m.0 → bucket_of z.buckets rid ≡ bucket_number m.0 →
    IsOpenBy (writer m.0) (held m.0 rid)
    → Allows (Rule z) slots id m 0 (λ n. n) (undid rid (step slots 0 0 0 none) m)
undoes z slots id rid m is unstamped bucketed place mine t r deep at small =
    let v : View = m.0 in
    let c = r.state in
    let j : ℕ = number v in
    let b : ℕ = bucket_number v in
    let n : ℕ = get_or t.words 0 0 in
    let own = own_session z t r id v at is in
    let there : Shown c (OfBucket b (bucket v)) = own_second z t r id v at _ _ _ is bucketed in
    let place' : bucket_of c.buckets rid ≡ b = ap (λ n. bucket_of n rid) r.sized.buckets ∙ place in
    let vs : versions c.buckets c.bucket rid ≡ held v rid = held_versions c 0 z.buckets b (bucket v).content rid r.sized.buckets place there.0 in
    let w = writer_is c v own.1.0 in
    let d : CoreState = happens c (Undo j rid) in
    let new : SessionPart = with_entry (entries.Undid rid) (session v) in
    let part : BucketPart = undoing rid (bucket v) in
    let words = loaded_words z c t.words 0 r.words in
    let log : d.log j ≡ entries.Undid rid ∷ (session v).log = put_here c.log j _ ∙ ap (λ l. entries.Undid rid ∷ l) own.1.0 in
    let content : d.bucket b ≡ part.content = stored_here c.buckets c.bucket rid _ b (bucket v).content place' there.0 ∙ (λ i. store rid (undone (vs i)) (bucket v).content) in
    let counts : d.counters b ≡ part.counters = (λ i. with_undone c.counters (place' i) b) ∙ (put_here c.counters b _ ∙ (λ i. record (there.1 i) { undone = suc (there.1 i).undone })) in (
      then_has v (OfSession j new ∷ OfBucket b part ∷ beyond v) (sights.Heard j new.log ∷ []) (events.Undo j rid),
      keeps,
      tt,
      keep z t r id v (OfSession j (session v) ∷ OfBucket b (bucket v) ∷ []) (OfSession j new ∷ OfBucket b part ∷ []) (beyond v) (sights.Heard j new.log ∷ [])
          (events.Undo j rid) 0 n d at (is ∙ ap (λ (l : List Part). OfSession j (session v) ∷ l) bucketed) record {
            reached = acted z c (Undo j rid) r.reached record {
              mine = subst (λ w. IsOpenBy w (versions c.buckets c.bucket rid)) (sym w) (subst (IsOpenBy (writer v)) (sym vs) mine);
              unstamped = own.1.1 ∙ unstamped;
            };
            sized = record { sessions = r.sized.sessions; tables = r.sized.tables; buckets = r.sized.buckets; quota = r.sized.quota };
            passes = refl;
            shows = record { count = words.count; mark = words.mark; registers = words.registers; masks = words.masks };
            grows = record { history = starts_same c.history; logs = log_put c j _ (entries.Undid rid ∷ [], refl); taken = omega arith };
            only = leaves_only c d _ (entry_leaves c d j b (session v) (bucket v) _ refl refl refl (λ k other. stored_else c.buckets c.bucket rid _ b k place' other)
                (λ k other. counters_else c.counters _ b k _ place' other) refl refl refl refl (le_refl _));
            counts = λ k. refl;
            shared = refl;
            shown = ((own.0, (log, own.1.1)), ((content, counts), tt));
            known = (subst (λ l. EndsWith l new.log) (sym log) (ends_same new.log), tt);
            stands = tt;
          },
      (refl, refl),
    )
