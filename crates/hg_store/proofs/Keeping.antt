-- What a bucket keeps after one record's versions changed.
use Rattle.std.proofs.Common.{◌≡◌, ℕ, ◌+◌, ◌-◌, List, length, Bool, true, false, refl, sym, ap, ◌∙◌, cond, map, subst, arith}
use Rattle.std.specs.Prelude.{drop, if◌then◌else◌}
use Rattle.std.proofs.lemmas.List.{length-map}
use Rattle.hg_base.specs.declared.rid.Rid.{Rid}
use Rattle.hg_base.specs.declared.image.Image.{Image}
use Rattle.hg_base.specs.declared.writer.Writer.{Writer}
use Rattle.hg_base.specs.declared.report.Kind.{Kind}
use Rattle.hg_base.specs.declared.report.Kind.TheVariants.{Group, Table, Interval}
use Rattle.hg_base.specs.History.{same_rid}
use Rattle.hg_base.proofs.HistoryFacts.{same_rid_equal}
use Rattle.hg_core.specs.declared.version.Version.{Version}
use Rattle.hg_core.specs.Versions.{installed, undone, stamped, IsFreeFor}
use Rattle.hg_core.specs.Contents.{Content, look, store}
use Rattle.hg_core.specs.Counters.{removed_more}
use Rattle.hg_core.specs.Passes.{PassRecord}
use Rattle.hg_core.specs.Removal.{reclaimed}
use Rattle.hg_core.specs.Ordered.{IsOrdered}
use Rattle.hg_core.proofs.Records.{look_store, turned_rid}
use Rattle.hg_bucket.specs.BucketModel as bucket
use Rattle.hg_bucket.specs.BucketModel.{Kept, BucketModel, versions_of, OthersStay, begins_open}
use Rattle.hg_rule.specs.declared.view.BucketPart.{BucketPart}
use Rattle.hg_rule.specs.Writes.{installing, undoing, stamping}
use Rattle.hg_rule.specs.Removes.{shortening}
use Rattle.hg_store.specs.Kept.{kept, Keeps, AreOrdered}
use Rattle.hg_store.proofs.Changing.{installed_kept, added_kept, undone_kept, stamped_kept}
use Rattle.hg_store.proofs.Doing.{Does}

-- what holds of r with the new versions, and of others with their own, holds of all afterwards
at_store : (r : Rid) (vs : List Version) (content : Content) (Q : Rid → List Version → Type 0) → Q r vs → ((q : Rid) → same_rid r q ≡ false → Q q (look q content)) → (q : Rid) →
    Q q (look q (store r vs content))
at_store r vs content Q here there q = go (same_rid q r) refl
  where
    go : (b : Bool) → same_rid q r ≡ b → Q q (look q (store r vs content))
    go true e = subst (Q q) (sym (look_store q r vs content ∙ ap (λ b. if b then vs else look q content) e)) (subst (λ x. Q x vs) (sym (same_rid_equal q r e)) here)
    go false e = subst (Q q) (sym (look_store q r vs content ∙ ap (λ b. if b then vs else look q content) e)) (there q (sym (turned_rid q r) ∙ e))

pub versions_stored : (old new : BucketModel) (content : Content) (r : Rid) (vs : List Version) → ((q : Rid) → versions_of old.records q ≡ map kept (look q content)) →
    versions_of new.records r ≡ map kept vs → OthersStay old.records new.records r → (q : Rid) → versions_of new.records q ≡ map kept (look q (store r vs content))
versions_stored old new content r vs all here others = at_store r vs content (λ q ws. versions_of new.records q ≡ map kept ws) here (λ q apart. others q apart ∙ all q)

pub ordered_stored : (content : Content) (r : Rid) (vs : List Version) (mark : ℕ) → AreOrdered content → IsOrdered mark vs → AreOrdered (store r vs content)
ordered_stored content r vs mark all here = at_store r vs content (λ q ws. (m : ℕ) × IsOrdered m ws) (mark, here) (λ q apart. all q)

-- ---- by each change

pub undo_kept : (old new : BucketModel) (part : BucketPart) (r : Rid) → Keeps old part → versions_of new.records r ≡ drop 1 (versions_of old.records r) →
    OthersStay old.records new.records r → new ≡ record old { records = new.records; long = new.long; undone = old.undone + 1 } → Keeps new (undoing r part)
undo_kept old new part r k here others counters = record {
  versions = versions_stored old new part.content r (undone (look r part.content)) k.versions (here ∙ ap (drop 1) (k.versions r) ∙ undone_kept (look r part.content)) others;
  made = ap (λ (h : BucketModel). h.made) counters ∙ k.made;
  undone = (let e = ap (λ (h : BucketModel). h.undone) counters in let s = k.undone in omega arith);
  group = ap (λ (h : BucketModel). h.group) counters ∙ k.group;
  table = ap (λ (h : BucketModel). h.table) counters ∙ k.table;
  interval = ap (λ (h : BucketModel). h.interval) counters ∙ k.interval;
}

pub stamp_kept : (old new : BucketModel) (part : BucketPart) (r : Rid) (n : ℕ) (w : Writer) → Keeps old part →
    versions_of new.records r ≡ bucket.stamped w n (versions_of old.records r) → OthersStay old.records new.records r → new ≡ record old { records = new.records; long = new.long }
    → Keeps new (stamping n w r part)
stamp_kept old new part r n w k here others counters = record {
  versions = versions_stored old new part.content r (stamped n w (look r part.content)) k.versions (here ∙ ap (bucket.stamped w n) (k.versions r) ∙ stamped_kept n w (look r part.content)) others;
  made = ap (λ (h : BucketModel). h.made) counters ∙ k.made;
  undone = ap (λ (h : BucketModel). h.undone) counters ∙ k.undone;
  group = ap (λ (h : BucketModel). h.group) counters ∙ k.group;
  table = ap (λ (h : BucketModel). h.table) counters ∙ k.table;
  interval = ap (λ (h : BucketModel). h.interval) counters ∙ k.interval;
}

pub install_kept : (mark : ℕ) (old new : BucketModel) (part : BucketPart) (r : Rid) (image : Image) (w : Writer) → IsFreeFor mark w (look r part.content) → Keeps old part →
    versions_of new.records r ≡ bucket.installed w image (versions_of old.records r) → OthersStay old.records new.records r →
    new ≡ record old { records = new.records; long = new.long; made = old.made + cond (begins_open w (versions_of old.records r)) 0 1 } → Keeps new (installing w r image part)
install_kept mark old new part r image w free k here others counters = record {
  versions = versions_stored old new part.content r (installed w image (look r part.content)) k.versions (here ∙ ap (bucket.installed w image) (k.versions r) ∙
      installed_kept mark w image (look r part.content) free) others;
  made = (λ i. ap (λ (h : BucketModel). h.made) counters i) ∙ (λ i. k.made i + cond (begins_open w (k.versions r i)) 0 1) ∙
      ap (λ n. part.counters.made + n) (added_kept mark w (look r part.content) free);
  undone = ap (λ (h : BucketModel). h.undone) counters ∙ k.undone;
  group = ap (λ (h : BucketModel). h.group) counters ∙ k.group;
  table = ap (λ (h : BucketModel). h.table) counters ∙ k.table;
  interval = ap (λ (h : BucketModel). h.interval) counters ∙ k.interval;
}

pub kept_length : (vs : List Version) → length (map kept vs) ≡ length vs
kept_length vs = simp length-map

-- ---- by a reclaim, of any kind

-- with the records of another, and more in the counter of that kind
abbrev pub counted : Kind → ℕ → BucketModel → BucketModel → BucketModel
counted Group n h new = record h { records = new.records; long = new.long; group = h.group + n }
counted Table n h new = record h { records = new.records; long = new.long; table = h.table + n }
counted Interval n h new = record h { records = new.records; long = new.long; interval = h.interval + n }

keeps_counted : (kind : Kind) (gone : ℕ) (old new : BucketModel) (part : BucketPart) (content : Content) → Keeps old part →
    ((q : Rid) → versions_of new.records q ≡ map kept (look q content)) → new ≡ counted kind gone old new
    → Keeps new (record { content = content; counters = record part.counters { removed = removed_more kind gone part.counters.removed } })
keeps_counted Group gone old new part content k all counters = record {
  versions = all;
  made = ap (λ (h : BucketModel). h.made) counters ∙ k.made;
  undone = ap (λ (h : BucketModel). h.undone) counters ∙ k.undone;
  group = ap (λ (h : BucketModel). h.group) counters ∙ ap (λ n. n + gone) k.group;
  table = ap (λ (h : BucketModel). h.table) counters ∙ k.table;
  interval = ap (λ (h : BucketModel). h.interval) counters ∙ k.interval;
}
keeps_counted Table gone old new part content k all counters = record {
  versions = all;
  made = ap (λ (h : BucketModel). h.made) counters ∙ k.made;
  undone = ap (λ (h : BucketModel). h.undone) counters ∙ k.undone;
  group = ap (λ (h : BucketModel). h.group) counters ∙ k.group;
  table = ap (λ (h : BucketModel). h.table) counters ∙ ap (λ n. n + gone) k.table;
  interval = ap (λ (h : BucketModel). h.interval) counters ∙ k.interval;
}
keeps_counted Interval gone old new part content k all counters = record {
  versions = all;
  made = ap (λ (h : BucketModel). h.made) counters ∙ k.made;
  undone = ap (λ (h : BucketModel). h.undone) counters ∙ k.undone;
  group = ap (λ (h : BucketModel). h.group) counters ∙ k.group;
  table = ap (λ (h : BucketModel). h.table) counters ∙ k.table;
  interval = ap (λ (h : BucketModel). h.interval) counters ∙ ap (λ n. n + gone) k.interval;
}

-- how many went
pub gone_is : (kind : Kind) (p : PassRecord) (does : List Kept → List Kept) (mark gone : ℕ) (old new : BucketModel) (part : BucketPart) (r : Rid) → Does kind r.table p does →
    IsOrdered mark (look r part.content) → Keeps old part → versions_of new.records r ≡ does (versions_of old.records r) →
    length (versions_of new.records r) + gone ≡ length (versions_of old.records r)
    → gone ≡ length (look r part.content) - length (reclaimed kind r.table p (look r part.content))
gone_is kind p does mark gone old new part r d o k here sum =
    let vs = look r part.content in
    let ws = reclaimed kind r.table p vs in
    let after : length (versions_of new.records r) ≡ length ws = ap length (here ∙ ap does (k.versions r) ∙ d.alike mark vs o) ∙ kept_length ws in
    let before : length (versions_of old.records r) ≡ length vs = ap length (k.versions r) ∙ kept_length vs in
    omega arith

pub reclaim_kept : (kind : Kind) (p : PassRecord) (does : List Kept → List Kept) (mark gone : ℕ) (old new : BucketModel) (part : BucketPart) (r : Rid) → Does kind r.table p does →
    IsOrdered mark (look r part.content) → Keeps old part → versions_of new.records r ≡ does (versions_of old.records r) → OthersStay old.records new.records r →
    length (versions_of new.records r) + gone ≡ length (versions_of old.records r) → new ≡ counted kind gone old new
    → Keeps new (shortening r kind (reclaimed kind r.table p (look r part.content)) (length (look r part.content) - length (reclaimed kind r.table p (look r part.content))) part)
reclaim_kept kind p does mark gone old new part r d o k here others sum counters =
    let ws = reclaimed kind r.table p (look r part.content) in
    subst (λ n. Keeps new (shortening r kind ws n part)) (gone_is kind p does mark gone old new part r d o k here sum)
    (keeps_counted kind gone old new part (store r ws part.content) k (versions_stored old new part.content r ws k.versions (here ∙ ap does (k.versions r) ∙
    d.alike mark (look r part.content) o) others) counters)
