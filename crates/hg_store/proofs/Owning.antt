-- Who has a record open that is written.
use Rattle.std.proofs.Common.{◌≡◌, ℕ, suc, ◌<◌, List, [], ◌∷◌, Bool, true, false, ltb, Option, Some, None, refl, sym, ap, ◌∙◌, cond, subst, map, arith}
use Rattle.std.specs.Prelude.{IsTrue, IsFalse, IsSome, is_some, ◌==◌, nat_le, option_and_then, Result, Err, IfErr}
use Rattle.std.proofs.lemmas.Option.{none-some}
use Rattle.std.proofs.lemmas.Bool.Decides.{nat_tests}
use Rattle.hg_base.specs.declared.rid.Rid.{Rid}
use Rattle.hg_base.specs.declared.image.Image.{Image}
use Rattle.hg_base.specs.declared.writer.Writer.{Writer}
use Rattle.hg_base.specs.declared.line.Answer.{Answer}
use Rattle.hg_base.specs.declared.line.Answer.TheVariants as answers
use Rattle.hg_core.specs.declared.ask.Ask.TheVariants.{Write}
use Rattle.hg_core.specs.declared.log.LogEntry.{LogEntry}
use Rattle.hg_core.specs.declared.version.Stamp.{Stamp}
use Rattle.hg_core.specs.declared.version.Stamp.TheVariants.{Written, Numbered, Oldest}
use Rattle.hg_core.specs.declared.version.Version.{Version}
use Rattle.hg_core.specs.Versions.{newest_at, unpublished, IsOpenBy}
use Rattle.hg_core.specs.Contents.{bucket_of, versions}
use Rattle.hg_core.specs.Events.{with_refusal}
use Rattle.hg_core.specs.Logs.{begans, begun_in, open_in}
use Rattle.hg_core.specs.OpenWrites.{writer_of}
use Rattle.hg_core.specs.Phases.{IsSession}
use Rattle.hg_base.specs.History.{same_writer}
use Rattle.hg_core.specs.Replies.{refused_over, refused_by, refusal}
use Rattle.hg_core.proofs.Shows.{writer_itself, writer_same as same_writers}
use Rattle.hg_bucket.specs.declared.refusal.WriteRefusal.{WriteRefusal}
use Rattle.hg_bucket.specs.declared.refusal.WriteRefusal.TheVariants.{Open, Newer, NoMemory}
use Rattle.hg_bucket.specs.Conflicts as bucket_words
use Rattle.hg_bucket.specs.Conflicts.{open_by}
use Rattle.hg_bucket.specs.BucketModel.{versions_of, begins_open}
use Rattle.hg_base.specs.Lists.{Each}
use Rattle.hg_rule.specs.declared.view.Part.TheVariants.{OfSession, OfBucket}
use Rattle.hg_rule.specs.declared.view.View.{View}
use Rattle.hg_rule.specs.declared.view.Sizes.{Sizes}
use Rattle.hg_rule.specs.Facts.{Shown}
use Rattle.hg_rule.specs.Keys.{session_key, both, one, expected}
use Rattle.hg_rule.specs.Rules.{IsBacked}
use Rattle.hg_rule.specs.Views.{number, session, HasSession}
use Rattle.hg_rule.specs.Holding.{bucket_number, bucket, beyond, HasBucket, held, writer, snapshot}
use Rattle.hg_rule.specs.Writes.{Looks}
use Rattle.hg_rule.proofs.Found.{ltb_less}
use Rattle.hg_store.specs.declared.held.Held.{Held}
use Rattle.hg_store.specs.Kept.{kept_as, kept, refusal_of}
use Rattle.hg_store.specs.Stores.{held_number, held_records, Holds}
use Rattle.hg_store.specs.Writing.{IsCause, IsAnothers}
use Rattle.hg_store.proofs.Changing.{open_kept}
use Rattle.hg_store.proofs.Holding.{number_is, held_is}
use Rattle.hg_store.proofs.Stepping.{look_holds}
use Rattle.hg_store.proofs.Refusing.{same_opened}
use Rattle.hg_store.proofs.Deciding.{Decided, opened_by, same_cause}
use Rattle.hg_store.proofs.Storing.{writer_same_after, content_after}
use Rattle.hg_store.proofs.Mine.{mine_unstamped, mine_logged}

-- ---- whether a write adds a version

open_back : (w : Writer) (vs : List Version) → IsTrue (begins_open w (map kept vs)) → IsOpenBy w vs
open_back w [] o = absurd (let k = o in cc)
open_back w (v ∷ vs) o = go v.stamp o
  where
    go : (x : Stamp) → IsTrue (begins_open w (kept_as x v.image ∷ map kept vs)) → x ≡ Written w
    go (Written by) o = ap Written (same_writers by w o)
    go (Numbered n by) o = absurd (let k = o in cc)
    go (Oldest n) o = absurd (let k = o in cc)

open_after : (r : Rid) (o : Option Answer) (log : List LogEntry) → open_in r (with_refusal r o log) ≡ open_in r log
open_after r None log = refl
open_after r (Some a) log = refl

module _ (z : Sizes) (n : ℕ) (v w : View) (h : Held) (r : Rid) (hold : Holds v h) (k : Looks v (Write r) n w) (backed : IsBacked z n w) (own : HasSession w)
    (here : bucket_of z.buckets r ≡ held_number h) where
  now : Holds w h
  now = look_holds v w h (Write r) n hold k

  has : HasBucket w
  has = now.has.1.0 ∙ (λ i. OfBucket (sym (number_is (held_number h) w now.has) i) (bucket w) ∷ beyond w)

  at : bucket_of z.buckets r ≡ bucket_number w
  at = here ∙ sym (number_is (held_number h) w now.has)

  same_log : open_in r (session w).log ≡ open_in r (session v).log
  same_log = ap (λ (x : View). open_in r (session x).log) k.after ∙ open_after r _ (session v).log

  -- the transaction had the record open exactly where its log has an open write of it
  pub open_logged : (session v).stamped ≡ false → begins_open (writer v) (versions_of (held_records h).records r) ≡ is_some (open_in r (session v).log)
  open_logged unstamped = go (open_in r (session v).log) (begins_open (writer v) (map kept (held v r))) refl refl
    where
      bare : (session w).stamped ≡ false
      bare = ap (λ (x : View). (session x).stamped) k.after ∙ unstamped

      go : (o : Option Image) (b : Bool) → open_in r (session v).log ≡ o → begins_open (writer v) (map kept (held v r)) ≡ b →
          begins_open (writer v) (versions_of (held_records h).records r) ≡ is_some (open_in r (session v).log)
      go None false e f = ap (begins_open (writer v)) (hold.keeps.versions r) ∙ (f ∙ ap is_some (sym e))
      go None true e f =
          let mine = open_back (writer v) (held v r) f in
          let there : IsOpenBy (writer w) (held w r) = subst (λ x. IsOpenBy x (held w r)) (sym (writer_same_after n v w r k)) (subst (IsOpenBy (writer v)) (sym (content_after n v w r k)) mine) in
          let some = mine_logged z n w backed own has r at there in
          absurd (let q = ap is_some (sym (same_log ∙ e)) ∙ some in cc)
      go (Some image) b e f =
          let some : IsSome (open_in r (session w).log) = ap is_some (same_log ∙ e) in
          let there = mine_unstamped z n w backed own has r at some bare in
          let mine = subst (λ x. IsOpenBy x (held v r)) (writer_same_after n v w r k) (subst (IsOpenBy (writer w)) (content_after n v w r k) there) in
          ap (begins_open (writer v)) (hold.keeps.versions r) ∙ (open_kept (writer v) (held v r) mine ∙ ap is_some (sym e))

  -- ---- who refuses it

  apart : (o : Writer) → option_and_then refusal_of (refusal n (writer v) (snapshot v) (held v r)) ≡ Some (open_by o) → same_writer o (writer v) ≡ false
  apart o e = go (unpublished n (held v r)) e
    where
      late : (p : Option (ℕ × Image)) → option_and_then refusal_of (refused_over (snapshot v) p) ≡ Some (open_by o) → ⊥
      late None e = none-some (open_by o) e
      late (Some p) e = go (nat_le p.0 (snapshot v)) e
        where
          go : (b : Bool) → option_and_then refusal_of (cond b None (Some (answers.Newer p.0))) ≡ Some (open_by o) → ⊥
          go true e = none-some (open_by o) e
          go false e = cc

      go : (p : Option (Writer × Image)) → option_and_then refusal_of (refused_by (writer v) p (refused_over (snapshot v) (newest_at n (held v r)))) ≡ Some (open_by o) →
          same_writer o (writer v) ≡ false
      go None e = absurd (late (newest_at n (held v r)) e)
      go (Some p) e = theirs (same_writer p.0 (writer v)) refl e
        where
          theirs : (b : Bool) → same_writer p.0 (writer v) ≡ b → option_and_then refusal_of (cond b None (Some (answers.OpenBy p.0))) ≡ Some (open_by o) → same_writer o (writer v) ≡ false
          theirs true f e = absurd (none-some (open_by o) e)
          theirs false f e = let same = same_opened p.0 o e in ap (λ x. same_writer x (writer v)) (sym same) ∙ f

  pub anothers : (e : WriteRefusal) → IsCause n v r e → IsAnothers z (number v) e
  anothers (Newer m) c = tt
  anothers NoMemory c = tt
  anothers (Open s x) c = (is_there (ltb 0 o.session) (ltb o.session (suc z.sessions)) refl refl, is_other (o.session == number v) refl)
    where
      o : Writer
      o = record { session = s; transaction = x }

      out : (image : Image) × (unpublished n (held v r) ≡ Some (o, image))
      out = opened_by n (writer v) o (snapshot v) (held v r) c

      same : versions backed.state.buckets backed.state.bucket r ≡ held v r
      same = held_is z n (held_number h) w backed now.has r here ∙ content_after n v w r k

      owned : (o ≡ writer_of (begun_in backed.state.log) o.session) × (open_in r (backed.state.log o.session) ≡ Some out.0)
      owned = backed.steady.open_writes_stand.owned r o out.0 ((λ i. unpublished (backed.mark_is i) (same i)) ∙ out.1)

      none : expected z backed.used (session_key o.session) ≡ 0 → ⊥
      none e = none-some out.0 (sym (ap (open_in r) (backed.outside (session_key o.session) e).1.0) ∙ owned.1)

      is_there : (x y : Bool) → ltb 0 o.session ≡ x → ltb o.session (suc z.sessions) ≡ y → IsSession z.sessions o.session
      is_there true true p q =
          let a = ltb_less 0 o.session (subst (λ b. 0 < one b) (sym p) (omega arith)) in
          let b = ltb_less o.session (suc z.sessions) (subst (λ b. 0 < one b) (sym q) (omega arith)) in
          record { first = a; last = omega (arith, b) }
      is_there false y p q = absurd (none (λ i. one (both (p i) (q i))))
      is_there true false p q = absurd (none (λ i. one (both (p i) (q i))))

      is_other : (b : Bool) → (o.session == number v) ≡ b → IsFalse (o.session == number v)
      is_other false e = e
      is_other true e =
          let j : o.session ≡ number v = grind (arith, nat_tests, e) in
          let f : ℕ → Writer = writer_of (begun_in backed.state.log) in
          let shown : Shown backed.state (OfSession (number w) (session w)) = (subst (Each (Shown backed.state)) own backed.true_of.parts).0 in
          let there : f (number w) ≡ writer w = (λ i. record { session = number w; transaction = begans (shown.1.0 i) }) in
          let mine : o ≡ writer v = owned.0 ∙ (ap f (j ∙ sym (ap number k.after)) ∙ (there ∙ writer_same_after n v w r k)) in
          let wrong : true ≡ false = sym (writer_itself (writer v)) ∙ (ap (λ x. same_writer x (writer v)) (sym mine) ∙ apart o c) in
          absurd (let q = wrong in cc)

  pub owner_told : {S T : Type 0} (found : Result S WriteRefusal) (answer : Result T WriteRefusal) (e : WriteRefusal) → Decided z n v r → found ≡ Err e → answer ≡ Err e →
      IfErr found (bucket_words.IsCause (writer v) (snapshot v) n (versions_of (held_records h).records r)) → IfErr answer (IsAnothers z (number v))
  owner_told found answer e d is same why = subst (λ x. IfErr x (IsAnothers z (number v))) (sym same)
      (anothers e (same_cause z n v h r e hold d (subst (λ x. IfErr x (bucket_words.IsCause (writer v) (snapshot v) n (versions_of (held_records h).records r))) is why)))
