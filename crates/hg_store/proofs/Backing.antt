-- What a state that meets the invariant says of a bucket that is held.
use Rattle.std.proofs.Common.{◌≡◌, ℕ, List, [], ◌∷◌, false, Some, sym, ap, ◌∙◌}
use Rattle.std.specs.Prelude.{is_some}
use Rattle.hg_base.specs.declared.rid.Rid.{Rid}
use Rattle.hg_base.specs.declared.image.Image.{Image}
use Rattle.hg_base.specs.declared.writer.Writer.{Writer}
use Rattle.hg_base.specs.Lists.{Each}
use Rattle.hg_core.specs.Versions.{unpublished}
use Rattle.hg_core.specs.Contents.{has_stamped, versions}
use Rattle.hg_core.specs.Logs.{begun_in, has_end}
use Rattle.hg_core.specs.OpenWrites.{writer_of}
use Rattle.hg_core.specs.State.{CoreState}
use Rattle.hg_core.specs.Invariant.{IsSteady}
use Rattle.hg_core.proofs.OpenWrites.{none_stamped}
use Rattle.hg_rule.specs.declared.view.Sight.{Sight}
use Rattle.hg_rule.specs.declared.view.Sight.TheVariants.{Saw, Heard, Took, Did}
use Rattle.hg_rule.specs.Facts.{Known}
use Rattle.hg_store.specs.Ends.{HasNoEnd}
use Rattle.hg_store.proofs.Refusing.{IsUnstamped}
use Rattle.hg_store.proofs.Ending.{open_goes_on, seen_goes_on}

module _ (s : CoreState) (steady : IsSteady s) where
  pub unstamped_in : (j : ℕ) (r : Rid) → has_stamped j s.stamped_list ≡ false → IsUnstamped s.mark (writer_of (begun_in s.log) j) (versions s.buckets s.bucket r)
  unstamped_in j r none image e = steady.stamped_is_next.exact r (writer_of (begun_in s.log) j) image e ∙ none_stamped j r s.stamped_list none

  -- the transaction that has a record open goes on
  pub owner_goes_on : (r : Rid) (w : Writer) (image : Image) → unpublished s.mark (versions s.buckets s.bucket r) ≡ Some (w, image) → has_end w.transaction (s.log w.session) ≡ false
  owner_goes_on r w image e =
      let owned = steady.open_writes_stand.owned r w image e in
      let goes = open_goes_on s.buckets s.history s.log w.session r (s.log w.session) (steady.replies_answer w.session) (steady.logs_answer.judged w.session) (ap is_some owned.1) in
      ap (λ x. has_end x (s.log w.session)) (ap (λ (v : Writer). v.transaction) owned.0) ∙ goes

  pub none_ends : (w : Writer) → has_end w.transaction (s.log w.session) ≡ false → (sights : List Sight) → Each (Known s) sights → Each (HasNoEnd w) sights
  none_ends w goes [] k = tt
  none_ends w goes (x ∷ sights) k = (one x k.0, none_ends w goes sights k.1)
    where
      one : (x : Sight) → Known s x → HasNoEnd w x
      one (Saw h) k = tt
      one (Heard j log) k = λ same. seen_goes_on w.transaction k.0 log (ap (has_end w.transaction) (sym k.1) ∙ ap (λ i. has_end w.transaction (s.log i)) same ∙ goes)
      one (Took n) k = tt
      one (Did e) k = tt
