-- The answers of a write, and what it leaves.
use Rattle.std.proofs.Common.{◌≡◌, ℕ, ◌+◌, Bool, true, false, Option, Some, None, refl, sym, ap, ◌∙◌, cond, subst}
use Rattle.std.specs.Prelude.{IfSome, IfErr, OnOk, OnErr, Result, Ok, Err, nat_le, option_and_then}
use Rattle.std.proofs.lemmas.Option.{none-some}
use Rattle.hg_base.specs.declared.rid.Rid.{Rid}
use Rattle.hg_base.specs.declared.image.Image.{Image}
use Rattle.hg_base.specs.declared.writer.Writer.{Writer}
use Rattle.hg_base.specs.declared.line.Answer.{Answer}
use Rattle.hg_base.specs.declared.line.Answer.TheVariants as answers
use Rattle.hg_base.specs.Lists.{Each}
use Rattle.hg_core.specs.declared.ask.Ask.TheVariants.{Write}
use Rattle.hg_core.specs.Versions.{newest_at, unpublished, installed, IsFreeFor}
use Rattle.hg_core.specs.Ordered.{IsOrdered}
use Rattle.hg_base.specs.History.{same_writer}
use Rattle.hg_core.specs.Replies.{refused_over, refused_by, refusal}
use Rattle.hg_core.proofs.Versions.{installed_ordered}
use Rattle.hg_bucket.specs.declared.refusal.WriteRefusal.{WriteRefusal}
use Rattle.hg_bucket.specs.declared.refusal.WriteRefusal.TheVariants.{Newer}
use Rattle.hg_bucket.specs.Conflicts.{holder, newer, open_by}
use Rattle.hg_bucket.specs.Conflicts as bucket_words
use Rattle.hg_bucket.specs.BucketModel as held_words
use Rattle.hg_bucket.specs.BucketModel.{versions_of, OthersStay, begins_open}
use Rattle.hg_bucket.proofs.Refusing.{told_on}
use Rattle.hg_rule.specs.declared.view.View.{View}
use Rattle.hg_rule.specs.declared.view.Sizes.{Sizes}
use Rattle.hg_rule.specs.Views.{number, session}
use Rattle.hg_rule.specs.Holding.{bucket_number, bucket, beyond, held, writer, snapshot}
use Rattle.hg_rule.specs.Places.{HoldsBucket}
use Rattle.hg_rule.specs.Writes.{Looks, Installs, IsOwnOrSeen, installing}
use Rattle.hg_store.specs.declared.held.Held.{Held}
use Rattle.hg_store.specs.Stores.{held_number, held_records, Holds}
use Rattle.hg_store.specs.Kept.{refusal_of, Keeps}
use Rattle.hg_store.specs.Writing.{refused_at, GoOn, IsCause, OwnerGoesOn, ShowsAnswer, Writes}
use Rattle.hg_store.proofs.Keeping.{install_kept, ordered_stored}
use Rattle.hg_store.proofs.Holding.{number_is, session_holds}
use Rattle.hg_store.proofs.Deciding.{Decided, begans_same, told_conflict, same_conflict, same_cause, owner_is, free_seen}

pub same_holds : (w : View) (h h' : Held) → Holds w h → held_number h' ≡ held_number h → held_records h' ≡ held_records h → Holds w h'
same_holds w h h' hold n r = record { has = subst (λ m. HoldsBucket m w) (sym n) hold.has; keeps = subst (λ b. Keeps b (bucket w)) (sym r) hold.keeps; ordered = hold.ordered }

-- the bucket's refusal, where it refuses, is the content's
pub refusal_told : {T : Type 0} (z : Sizes) (n : ℕ) (v : View) (h : Held) (r : Rid) (answer : Result T WriteRefusal) → Holds v h → Decided z n v r
    → IfSome (holder (writer v) n (versions_of (held_records h).records r)) (λ w. answer ≡ Err (open_by w)) →
    (holder (writer v) n (versions_of (held_records h).records r) ≡ None → IfSome (newer (snapshot v) (versions_of (held_records h).records r)) (λ m. answer ≡ Err (Newer m)))
    → IfSome (refused_at n v r) (λ e. answer ≡ Err e)
refusal_told z n v h r answer hold d a b = subst (λ o. IfSome o (λ e. answer ≡ Err e)) (same_conflict z n v h r hold d)
    (told_conflict (writer v) (snapshot v) n (versions_of (held_records h).records r) answer a b)

pub refused_writes : {S T : Type 0} (z : Sizes) (n : ℕ) (v w : View) (h : Held) (r : Rid) (image : Image) (found : Result S WriteRefusal) (answer : Result T WriteRefusal)
    (e : WriteRefusal) → Holds v h → Decided z n v r → (k : Looks v (Write r) n w) → found ≡ Err e → answer ≡ Err e
    → IfSome (refused_at n v r) (λ e. found ≡ Err e) → IfErr found (bucket_words.IsCause (writer v) (snapshot v) n (versions_of (held_records h).records r)) →
    GoOn k.logs v.sights → ShowsAnswer k.logs (session v).log (number v) (snapshot v) r answer → Writes v r image answer w
refused_writes z n v w h r image found answer e hold d k is same told why goes first =
    let cause : IsCause n v r e = same_cause z n v h r e hold d (subst (λ x. IfErr x (bucket_words.IsCause (writer v) (snapshot v) n (versions_of (held_records h).records r))) is why) in record {
      mark = n;
      looked = w;
      looks = k;
      refuses = told_on (refused_at n v r) found answer e is same told;
      cause = subst (λ x. IfErr x (IsCause n v r)) (sym same) cause;
      goes_on = subst (λ x. IfErr x (OwnerGoesOn v.sights)) (sym same) (owner_is z n v r e d cause);
      stored = subst (λ x. OnOk x (Installs w r image w)) (sym same) tt;
      stays = subst (λ x. OnErr x (w ≡ w)) (sym same) refl;
      goes = goes;
      first = first;
    }

-- ---- where it is stored

not_refused : {S : Type 0} (o : Option WriteRefusal) (found : Result S WriteRefusal) (x : S) → found ≡ Ok x → IfSome o (λ e. found ≡ Err e) → o ≡ None
not_refused None found x is told = refl
not_refused (Some e) found x is told = absurd (let k = sym is ∙ told in cc)

-- so nothing refuses it
pub none_refuses : {S T : Type 0} (o : Option WriteRefusal) (found : Result S WriteRefusal) (x : S) (answer : Result T WriteRefusal) → found ≡ Ok x →
    IfSome o (λ e. found ≡ Err e) → IfSome o (λ e. answer ≡ Err e)
none_refuses o found x answer is told = subst (λ o. IfSome o (λ e. answer ≡ Err e)) (sym (not_refused o found x is told)) tt

none_refused : (n : ℕ) (w : Writer) (at : ℕ) (p : Option (Writer × Image)) (q : Option (ℕ × Image)) → option_and_then refusal_of (refused_by w p (refused_over at q)) ≡ None →
    refused_by w p (refused_over at q) ≡ None
none_refused n w at None None e = refl
none_refused n w at None (Some q) e = go (nat_le q.0 at) e
  where
    go : (b : Bool) → option_and_then refusal_of (cond b None (Some (answers.Newer q.0))) ≡ None → cond b None (Some (answers.Newer q.0)) ≡ None
    go true e = refl
    go false e = absurd (none-some (Newer q.0) (sym e))
none_refused n w at (Some p) q e = go (same_writer p.0 w) e
  where
    go : (b : Bool) → option_and_then refusal_of (cond b None (Some (answers.OpenBy p.0))) ≡ None → cond b None (Some (answers.OpenBy p.0)) ≡ None
    go true e = refl
    go false e = absurd (none-some (open_by p.0) (sym e))

pub free_at : {S : Type 0} (n : ℕ) (v : View) (r : Rid) (found : Result S WriteRefusal) (x : S) → found ≡ Ok x → IfSome (refused_at n v r) (λ e. found ≡ Err e) →
    refusal n (writer v) (snapshot v) (held v r) ≡ None
free_at n v r found x is told = none_refused n (writer v) (snapshot v) (unpublished n (held v r)) (newest_at n (held v r)) (not_refused (refused_at n v r) found x is told)

-- a newer commit that refuses is the one that the content names
pub told_newer : (o : Option Answer) (m : ℕ) → option_and_then refusal_of o ≡ Some (Newer m) → o ≡ Some (answers.Newer m)
told_newer None m e = absurd (none-some (Newer m) e)
told_newer (Some (answers.Newer n)) m e = let same : n ≡ m = cc in ap (λ y. Some (answers.Newer y)) same
told_newer (Some (answers.OpenBy x)) m e = absurd cc
told_newer (Some _) m e = absurd (none-some (Newer m) e)

pub writer_same_after : (n : ℕ) (v w : View) (r : Rid) → Looks v (Write r) n w → writer w ≡ writer v
writer_same_after n v w r k = ap writer k.after ∙ (let f : ℕ → Writer = λ t. record { session = number v; transaction = t } in
    ap f (begans_same r (refusal n (writer v) (snapshot v) (held v r)) (session v).log))

pub content_after : (n : ℕ) (v w : View) (r : Rid) → Looks v (Write r) n w → held w r ≡ held v r
content_after n v w r k = ap (λ x. held x r) k.after

pub seen_after : (z : Sizes) (n : ℕ) (v w : View) (r : Rid) → Decided z n v r → Looks v (Write r) n w → refusal n (writer v) (snapshot v) (held v r) ≡ None →
    Each (IsOwnOrSeen (writer w) (snapshot w)) (held w r)
seen_after z n v w r d k none =
    subst (λ x. Each (IsOwnOrSeen x (snapshot w)) (held w r)) (sym (writer_same_after n v w r k))
    (subst (λ x. Each (IsOwnOrSeen (writer v) (snapshot x)) (held x r)) (sym k.after) (free_seen n (writer v) (snapshot v) (held v r) d.ordered d.unstamped d.newest none))

pub install_holds : (n : ℕ) (v w : View) (h h' : Held) (r : Rid) (image : Image) → Holds v h → held_number h' ≡ held_number h → IsFreeFor n (writer v) (held v r) →
    IsOrdered n (held v r) → Installs v r image w
    → versions_of (held_records h').records r ≡ held_words.installed (writer v) image (versions_of (held_records h).records r) →
    OthersStay (held_records h).records (held_records h').records r → held_records h' ≡ record (held_records h) {
      records = (held_records h').records;
      long = (held_records h').long;
      made = (held_records h).made + cond (begins_open (writer v) (versions_of (held_records h).records r)) 0 1;
    } → Holds w h'
install_holds n v w h h' r image hold same free o step here others counters =
    subst (λ x. Holds x h') (sym step) (session_holds h' (number v) (bucket_number v) _ (installing (writer v) r image (bucket v)) (beyond v) _ _ (number_is (held_number h) v hold.has ∙ sym same)
    (install_kept n (held_records h) (held_records h') (bucket v) r image (writer v) free hold.keeps here others counters)
    (ordered_stored (bucket v).content r (installed (writer v) image (held v r)) n hold.ordered (installed_ordered n (writer v) image (held v r) free o)))
