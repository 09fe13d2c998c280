-- What decides a write: the content held, and the mark that its look loads.
use Rattle.std.proofs.Common.{◌≡◌, ℕ, ◌*◌, ◌<◌, ◌≤◌, List, [], ◌∷◌, ◌++◌, Bool, true, false, Option, Some, None, refl, sym, ap, ◌∙◌, cond, subst, arith}
use Rattle.std.specs.Prelude.{IsTrue, IsSome, IfSome, Result, Err, nat_le, option_map, option_and_then}
use Rattle.std.specs.Option.{option_or}
use Rattle.std.proofs.lemmas.Option.{none-some}
use Rattle.std.proofs.lemmas.Bool.Decides.{nat_tests}
use Rattle.hg_base.specs.declared.rid.Rid.{Rid}
use Rattle.hg_base.specs.declared.scope.Scope.{Scope}
use Rattle.hg_base.specs.declared.image.Image.{Image}
use Rattle.hg_base.specs.declared.writer.Writer.{Writer}
use Rattle.hg_base.specs.declared.line.Answer.{Answer}
use Rattle.hg_base.specs.declared.line.Answer.TheVariants as answers
use Rattle.hg_base.specs.Lists.{Each}
use Rattle.hg_core.specs.declared.ask.Ask.TheVariants.{Write}
use Rattle.hg_core.specs.declared.log.LogEntry.{LogEntry}
use Rattle.hg_core.specs.declared.phase.Phase.{Phase}
use Rattle.hg_core.specs.declared.phase.Phase.TheVariants.{Idle, Declared, Probed, Entered, Fixed, Live}
use Rattle.hg_core.specs.declared.version.Stamp.{Stamp}
use Rattle.hg_core.specs.declared.version.Stamp.TheVariants.{Written, Numbered, Oldest}
use Rattle.hg_core.specs.declared.version.Version.{Version}
use Rattle.hg_core.specs.declared.visit.Counters.{Counters}
use Rattle.hg_core.specs.Versions.{pair_of, first_at, newest_at, is_numbered, unpublished, IsFreeFor}
use Rattle.hg_core.specs.Contents.{bucket_of, versions}
use Rattle.hg_core.specs.Events.{with_refusal}
use Rattle.hg_core.specs.Logs.{begans, begun_in, wrotes}
use Rattle.hg_core.specs.OpenWrites.{writer_of}
use Rattle.hg_core.specs.Ordered.{IsOrdered}
use Rattle.hg_core.specs.Phases.{IsSession, snapshot_in}
use Rattle.hg_base.specs.History.{same_writer}
use Rattle.hg_core.specs.Replies.{refused_over, refused_by, refusal}
use Rattle.hg_bucket.specs.declared.refusal.WriteRefusal.{WriteRefusal}
use Rattle.hg_bucket.specs.declared.refusal.WriteRefusal.TheVariants.{Open, Newer, NoMemory}
use Rattle.hg_bucket.specs.Conflicts.{holder, newer, conflict, open_by}
use Rattle.hg_bucket.specs.Conflicts as bucket_words
use Rattle.hg_bucket.specs.BucketModel.{Kept, versions_of, begins_open}
use Rattle.hg_rule.specs.declared.view.View.{View}
use Rattle.hg_rule.specs.declared.view.Sizes.{Sizes}
use Rattle.hg_rule.specs.Facts.{Shown}
use Rattle.hg_rule.specs.Rules.{IsBacked}
use Rattle.hg_rule.specs.Views.{number, session}
use Rattle.hg_rule.specs.Steps.{loaded_in}
use Rattle.hg_rule.specs.Holding.{bucket, held, writer, snapshot}
use Rattle.hg_rule.specs.Writes.{Looks, IsOwnOrSeen}
use Rattle.hg_store.specs.declared.held.Held.{Held}
use Rattle.hg_store.specs.Kept.{refusal_of}
use Rattle.hg_store.specs.Ends.{HasNoEnd}
use Rattle.hg_store.specs.Stores.{held_number, held_records, Holds}
use Rattle.hg_store.specs.Writing.{refused_at, IsCause, OwnerGoesOn}
use Rattle.hg_store.proofs.Refusing.{IsUnstamped, conflict_kept, same_opened, free_of}
use Rattle.hg_store.proofs.Changing.{open_kept}
use Rattle.hg_store.proofs.Backing.{unstamped_in, owner_goes_on, none_ends}
use Rattle.hg_store.proofs.Bounding.{made_below, newest_seen, falls_seen, behind_seen}
use Rattle.hg_store.proofs.Holding.{held_is, ordered_at}
use Rattle.hg_store.proofs.Stepping.{look_holds}

each_front : {A : Type 0} (P : A → Type 0) (xs ys : List A) → Each P (xs ++ ys) → Each P xs
each_front P [] ys e = tt
each_front P (x ∷ xs) ys e = (e.0, each_front P xs ys e.1)

pub begans_same : (r : Rid) (o : Option Answer) (log : List LogEntry) → begans (with_refusal r o log) ≡ begans log
begans_same r None log = refl
begans_same r (Some a) log = refl

wrotes_same : (r : Rid) (o : Option Answer) (log : List LogEntry) → wrotes (with_refusal r o log) ≡ wrotes log
wrotes_same r None log = refl
wrotes_same r (Some a) log = refl

pub live_is : (p : Phase) → IsSome (snapshot_in p) → (scope : Scope) × (p ≡ Live (loaded_in p) scope)
live_is Idle l = absurd (let k = l in cc)
live_is (Declared scope) l = absurd (let k = l in cc)
live_is (Probed scope f) l = absurd (let k = l in cc)
live_is (Entered scope f) l = absurd (let k = l in cc)
live_is (Fixed scope f m) l = absurd (let k = l in cc)
live_is (Live at scope) l = (scope, refl)

-- what is so at the look's mark
pub record Decided (z : Sizes) (n : ℕ) (v : View) (r : Rid) : Type 0 where
  pub ordered : IsOrdered n (held v r)
  pub unstamped : IsUnstamped n (writer v) (held v r)
  pub goes : (o : Writer) (image : Image) → unpublished n (held v r) ≡ Some (o, image) → Each (HasNoEnd o) v.sights
  pub newest : (image : Image) → unpublished n (held v r) ≡ Some (writer v, image) → IfSome (newest_at n (held v r)) (λ pair. pair.0 ≤ snapshot v)
  pub made : IsSession z.sessions (number v) → wrotes (session v).log < z.quota → (bucket v).counters.made < z.sessions * z.quota

pub decided : (z : Sizes) (n : ℕ) (v w : View) (h : Held) (r : Rid) → Holds v h → Looks v (Write r) n w → IsBacked z n w → bucket_of z.buckets r ≡ held_number h →
    (session v).stamped ≡ false → IsSome (snapshot_in (session v).phase) → Decided z n v r
decided z n v w h r hold k backed here unstamped live =
    let b = subst (IsBacked z n) k.after backed in
    let s = b.state in
    let has = (subst (λ x. Holds x h) k.after (look_holds v w h (Write r) n hold k)).has in
    let same : versions s.buckets s.bucket r ≡ held v r = held_is z n (held_number h) _ b has r here in
    let mine = b.true_of.parts.0 in
    let f : ℕ → Writer = λ x. record { session = number v; transaction = x } in
    let own : writer_of (begun_in s.log) (number v) ≡ writer v = ap f (ap begans mine.1.0 ∙ begans_same r _ (session v).log) in
    let back : (o : Option (Writer × Image)) → unpublished n (held v r) ≡ o → unpublished s.mark (versions s.buckets s.bucket r) ≡ o = λ o e. (λ i. unpublished (b.mark_is i) (same i)) ∙ e in
    let scope = live_is (session v).phase live in record {
      ordered = ordered_at z n (held_number h) _ b has r here;
      unstamped = λ image e. subst (λ vs. is_numbered vs ≡ false) same
          (subst (λ x. IsUnstamped s.mark x (versions s.buckets s.bucket r)) own (unstamped_in s b.steady (number v) r (mine.1.1 ∙ unstamped)) image (back (Some (writer v, image)) e));
      goes = λ o image e. each_front (HasNoEnd o) v.sights _ (none_ends s b.steady o (owner_goes_on s b.steady r o image (back (Some (o, image)) e)) _ b.true_of.sights);
      newest = λ image e.
          let owned = b.steady.open_writes_stand.owned r (writer v) image (back (Some (writer v, image)) e) in
          subst (λ o. IfSome o (λ (p : ℕ × Image). p.0 ≤ snapshot v)) (λ i. newest_at (b.mark_is i) (same i))
          (newest_seen s b.steady (number v) (snapshot v) scope.0 r image (mine.0 ∙ scope.1) owned.1);
      made = λ is room.
          let counted = (subst (Each (Shown s)) hold.has.1.0 b.true_of.parts.1).0.1 in
          let is_there = subst (λ m. IsSession m (number v)) (sym b.sized.sessions) is in
          let same_wrotes = ap wrotes mine.1.0 ∙ wrotes_same r _ (session v).log in
          let same_each = b.sized.quota in
          let may : wrotes (s.log (number v)) < s.quota = omega (arith, same_wrotes, same_each, room) in
          subst (λ x. x < z.sessions * z.quota) (ap (λ (c : Counters). c.made) counted)
          (subst (λ x. (s.counters (held_number h)).made < x) (λ i. b.sized.sessions i * b.sized.quota i) (made_below s b.steady (number v) (held_number h) is_there may));
    }

-- ---- a write that isn't refused

over_none : (k at : ℕ) (image : Image) → refused_over at (Some (k, image)) ≡ None → k ≤ at
over_none k at image e = go (nat_le k at) refl e
  where
    go : (b : Bool) → nat_le k at ≡ b → cond b None (Some (answers.Newer k)) ≡ None → k ≤ at
    go true s e = grind (arith, nat_tests)
    go false s e = absurd cc

pub free_seen : (n : ℕ) (w : Writer) (at : ℕ) (vs : List Version) → IsOrdered n vs → IsUnstamped n w vs →
    ((image : Image) → unpublished n vs ≡ Some (w, image) → IfSome (newest_at n vs) (λ pair. pair.0 ≤ at)) → refusal n w at vs ≡ None → Each (IsOwnOrSeen w at) vs
free_seen n w at [] o u newest none = tt
free_seen n w at (v ∷ vs) o u newest none = go v.stamp o newest none (free_of n w at (v ∷ vs) o u none)
  where
    go : (x : Stamp) → IsOrdered n (record { stamp = x; image = v.image } ∷ vs) → ((image : Image) → unpublished n (record { stamp = x; image = v.image } ∷ vs) ≡ Some (w, image) →
        IfSome (newest_at n (record { stamp = x; image = v.image } ∷ vs)) (λ pair. pair.0 ≤ at)) → refusal n w at (record { stamp = x; image = v.image } ∷ vs) ≡ None →
        IsFreeFor n w (record { stamp = x; image = v.image } ∷ vs) → Each (IsOwnOrSeen w at) (record { stamp = x; image = v.image } ∷ vs)
    go (Written by) f newest none free = (free, behind_seen w at n vs f (newest v.image (ap (λ x. Some (x, v.image)) free)))
    go (Numbered k by) f newest none free =
        let le : nat_le k n ≡ true = grind (arith, nat_tests, free) in
        let seen : k ≤ at = over_none k at v.image ((λ i. refused_by w (cond (sym le i) None (Some (by, v.image)))
        (refused_over at (pair_of (cond (sym le i) (Some (record { stamp = Numbered k by; image = v.image })) (first_at n vs))))) ∙ none) in
        (seen, falls_seen w at k vs (omega arith) f.1)
    go (Oldest k) f newest none free =
        let le : nat_le k n ≡ true = grind (arith, nat_tests, f.0) in
        let seen : k ≤ at = over_none k at v.image ((λ i. refused_over at (pair_of (cond (sym le i) (Some (record { stamp = Oldest k; image = v.image })) (first_at n vs)))) ∙ none) in
        (seen, falls_seen w at k vs (omega arith) f.1)

-- ---- as the bucket decides it

pub told_conflict : {T : Type 0} (by : Writer) (at n : ℕ) (ks : List Kept) (answer : Result T WriteRefusal) → IfSome (holder by n ks) (λ w. answer ≡ Err (open_by w)) →
    (holder by n ks ≡ None → IfSome (newer at ks) (λ m. answer ≡ Err (Newer m))) → IfSome (conflict by at n ks) (λ e. answer ≡ Err e)
told_conflict by at n ks answer a b = go (holder by n ks) (newer at ks) a b
  where
    go : (o : Option Writer) (m : Option ℕ) → IfSome o (λ w. answer ≡ Err (open_by w)) → (o ≡ None → IfSome m (λ m. answer ≡ Err (Newer m))) →
        IfSome (option_or (option_map open_by o) (option_map Newer m)) (λ e. answer ≡ Err e)
    go (Some w) m a b = a
    go None (Some m) a b = b refl
    go None None a b = tt

-- the conflict of what is kept is that of the content
pub same_conflict : (z : Sizes) (n : ℕ) (v : View) (h : Held) (r : Rid) → Holds v h → Decided z n v r → conflict (writer v) (snapshot v) n (versions_of (held_records h).records r) ≡ refused_at n v r
same_conflict z n v h r hold d = ap (conflict (writer v) (snapshot v) n) (hold.keeps.versions r) ∙ conflict_kept n (writer v) (snapshot v) (held v r) d.ordered d.unstamped

pub same_cause : (z : Sizes) (n : ℕ) (v : View) (h : Held) (r : Rid) (e : WriteRefusal) → Holds v h → Decided z n v r →
    bucket_words.IsCause (writer v) (snapshot v) n (versions_of (held_records h).records r) e → IsCause n v r e
same_cause z n v h r (Open s x) hold d k = sym (same_conflict z n v h r hold d) ∙
    ap (λ o. option_or (option_map open_by o) (option_map Newer (newer (snapshot v) (versions_of (held_records h).records r)))) k
same_cause z n v h r (Newer m) hold d k = sym (same_conflict z n v h r hold d) ∙ (λ i. option_or (option_map open_by (k.0 i)) (option_map Newer (k.1 i)))
same_cause z n v h r NoMemory hold d k = (
  sym (same_conflict z n v h r hold d) ∙ (λ i. option_or (option_map open_by (k.0 i)) (option_map Newer (k.1 i))),
  λ mine. let open_first = subst (λ ks. IsTrue (begins_open (writer v) ks)) (sym (hold.keeps.versions r)) (open_kept (writer v) (held v r) mine) in let both = sym k.2 ∙ open_first in absurd cc,
)

-- who has it open
pub opened_by : (n : ℕ) (w o : Writer) (at : ℕ) (vs : List Version) → option_and_then refusal_of (refusal n w at vs) ≡ Some (open_by o) → (image : Image) × (unpublished n vs ≡ Some (o, image))
opened_by n w o at vs e = go (unpublished n vs) refl e
  where
    none : (p : Option (ℕ × Image)) → option_and_then refusal_of (refused_over at p) ≡ Some (open_by o) → ⊥
    none None e = none-some (open_by o) e
    none (Some p) e = late (nat_le p.0 at) e
      where
        late : (b : Bool) → option_and_then refusal_of (cond b None (Some (answers.Newer p.0))) ≡ Some (open_by o) → ⊥
        late true e = none-some (open_by o) e
        late false e = cc

    go : (p : Option (Writer × Image)) → unpublished n vs ≡ p → option_and_then refusal_of (refused_by w p (refused_over at (newest_at n vs))) ≡ Some (open_by o) →
        (image : Image) × (unpublished n vs ≡ Some (o, image))
    go None k e = absurd (none (newest_at n vs) e)
    go (Some p) k e = theirs (same_writer p.0 w) e
      where
        theirs : (b : Bool) → option_and_then refusal_of (cond b None (Some (answers.OpenBy p.0))) ≡ Some (open_by o) → (image : Image) × (unpublished n vs ≡ Some (o, image))
        theirs true e = absurd (none-some (open_by o) e)
        theirs false e = let same = same_opened p.0 o e in (p.1, k ∙ ap (λ x. Some (x, p.1)) same)

pub owner_is : (z : Sizes) (n : ℕ) (v : View) (r : Rid) (e : WriteRefusal) → Decided z n v r → IsCause n v r e → OwnerGoesOn v.sights e
owner_is z n v r (Open s x) d k = let w : Writer = record { session = s; transaction = x } in let o = opened_by n (writer v) w (snapshot v) (held v r) k in d.goes w o.0 o.1
owner_is z n v r (Newer m) d k = tt
owner_is z n v r NoMemory d k = tt
