use Rattle.std.proofs.Common.{◌≡◌, List, [], ◌∷◌, map, refl, sym, ap, subst}
use Rattle.std.specs.List.{IsDistinct}
use Rattle.std.specs.Map.{keys_of}
use Rattle.hg_base.specs.declared.rid.Rid.{Rid}
use Rattle.hg_base.specs.History.{same_rid}
use Rattle.hg_bucket.proofs.Entries.{distinct}
use Rattle.hg_bucket.specs.Parts.{Recorded}
use Rattle.hg_bucket.proofs.records.Records.stand_once.Goals as goal

keys_stay : {X Y : Type 0} (f : Rid × X → Y) (es : List (Rid × X)) → keys_of (map (λ e. (e.0, f e)) es) ≡ keys_of es
keys_stay f [] = refl
keys_stay f (e ∷ es) = ap (λ ks. e.0 ∷ ks) (keys_stay f es)

pub returns : goal.returns
returns c =
    let b = c.self.inside in
    subst (λ h. IsDistinct same_rid (keys_of h)) (ap (λ (h : Recorded). h.records) c.self.view_is)
    (subst (IsDistinct same_rid) (sym (keys_stay _ b.index)) (distinct b.index c.stands_once.ensures))
