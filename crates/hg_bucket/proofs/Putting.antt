-- What becomes of a write: one that is refused, one into a chain, and one that begins a record.
use Rattle.std.proofs.Common.{◌≡◌, ℕ, ◌+◌, List, [], ◌∷◌, Bool, true, Option, Some, None, refl, sym, ap, ◌∙◌, cond, subst, not, ◌<◌, length, arith}
use Rattle.std.specs.Prelude.{IsFalse, IfSome, Result, Ok, Err}
use Rattle.hg_base.specs.declared.rid.Rid.{Rid}
use Rattle.hg_base.specs.declared.image.Image.{Image}
use Rattle.hg_base.specs.declared.writer.Writer.{Writer}
use Rattle.hg_chains.specs.Places.{Places}
use Rattle.hg_space.specs.Index.{place_of}
use Rattle.hg_space.specs.Places.{Seat}
use Rattle.hg_bucket.specs.declared.refusal.WriteRefusal.{WriteRefusal}
use Rattle.hg_bucket.specs.declared.refusal.WriteRefusal.TheVariants.{NoMemory}
use Rattle.hg_bucket.specs.BucketModel.{Kept, versions_of, begins_open, open_write, installed, OthersStay, left}
use Rattle.hg_bucket.specs.Conflicts.{conflict}
use Rattle.hg_bucket.specs.Parts.{records_of, AreWhole}
use Rattle.hg_bucket.specs.Writes.{Writes}
use Rattle.hg_bucket.proofs.Reading.{versions_there}
use Rattle.hg_bucket.proofs.Installing.{Installs}
use Rattle.hg_bucket.proofs.Refusing.{cause_of, no_conflict}

-- ---- refusals

pub told_of : (o : Option WriteRefusal) (e : WriteRefusal) → o ≡ Some e → IfSome o (λ x. Path (Result Bool WriteRefusal) (Err e) (Err x))
told_of o e is = subst (λ o. IfSome o (λ x. Path (Result Bool WriteRefusal) (Err e) (Err x))) (sym is) refl

pub told_nothing : (o : Option WriteRefusal) (answer : Result Bool WriteRefusal) → o ≡ None → IfSome o (λ x. answer ≡ Err x)
told_nothing o answer is = subst (λ o. IfSome o (λ x. answer ≡ Err x)) (sym is) tt

pub turned_down : (by : Writer) (image : Image) (snapshot mark : ℕ) (old new : List (Rid × List Kept)) (r : Rid) (e : WriteRefusal) →
    conflict by snapshot mark (versions_of old r) ≡ Some e → new ≡ old → Writes by image snapshot mark old new r (Err e)
turned_down by image snapshot mark old new r e is same = record {
  refusal = told_of (conflict by snapshot mark (versions_of old r)) e is;
  cause = cause_of by snapshot mark (versions_of old r) e is;
  stored = tt;
  others = λ q apart. ap (λ h. versions_of h q) same;
  added = tt;
  left = tt;
  refused = same;
}

pub starved : (by : Writer) (image : Image) (snapshot mark : ℕ) (old new : List (Rid × List Kept)) (r : Rid) → conflict by snapshot mark (versions_of old r) ≡ None →
    IsFalse (begins_open by (versions_of old r)) → new ≡ old → Writes by image snapshot mark old new r (Err NoMemory)
starved by image snapshot mark old new r free closed same =
    let none = no_conflict by snapshot mark (versions_of old r) free in record {
      refusal = told_nothing (conflict by snapshot mark (versions_of old r)) (Err NoMemory) free;
      cause = (none.0, none.1, closed);
      stored = tt;
      others = λ q apart. ap (λ h. versions_of h q) same;
      added = tt;
      left = tt;
      refused = same;
    }

-- ---- a version that is stored

pub stores : (by : Writer) (image : Image) (snapshot mark : ℕ) (es fs : List (Rid × ℕ)) (cs ds : Places) (places seats : List Seat) (r : Rid) (added : Bool) →
    Installs es fs cs ds places seats r by image → conflict by snapshot mark (versions_of (records_of es cs places) r) ≡ None →
    added ≡ not (begins_open by (versions_of (records_of es cs places) r)) → Writes by image snapshot mark (records_of es cs places) (records_of fs ds seats) r (Ok added)
stores by image snapshot mark es fs cs ds places seats r added i free is = record {
  refusal = told_nothing (conflict by snapshot mark (versions_of (records_of es cs places) r)) (Ok added) free;
  cause = tt;
  stored = i.here;
  others = i.others;
  added = is;
  left = i.left ∙ (λ j. left (records_of es cs places) + cond (sym is j) 1 0);
  refused = tt;
}

-- the first of a record
pub begins : (by : Writer) (image : Image) (snapshot mark : ℕ) (old new : List (Rid × List Kept)) (r : Rid) → versions_of old r ≡ [] → versions_of new r ≡ open_write by image ∷ []
    → OthersStay old new r → left new ≡ left old + 1 → Writes by image snapshot mark old new r (Ok true)
begins by image snapshot mark old new r bare here others more = record {
  refusal = told_nothing (conflict by snapshot mark (versions_of old r)) (Ok true) (ap (conflict by snapshot mark) bare);
  cause = tt;
  stored = here ∙ sym (ap (installed by image) bare);
  others = others;
  added = sym (ap (λ vs. not (begins_open by vs)) bare);
  left = more;
  refused = tt;
}

-- a record that has a place has a version
pub unplaced_of : (es : List (Rid × ℕ)) (cs : Places) (places : List Seat) (r : Rid) → AreWhole es cs places → versions_of (records_of es cs places) r ≡ [] → place_of es r ≡ None
unplaced_of es cs places r old bare = go (place_of es r) refl
  where
    go : (o : Option ℕ) → place_of es r ≡ o → o ≡ None
    go None e = refl
    go (Some p) e =
        let some : 0 < 0 = subst (λ vs. 0 < length {A = Kept} vs) (sym (versions_there es cs places r p e) ∙ bare) (old.held p tt (old.taken r p e)) in
        absurd (omega (arith, some))
