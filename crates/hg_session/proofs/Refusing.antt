-- What a call leaves that was refused for want of memory.
use Rattle.std.proofs.Common.{◌≡◌, inl, inr, ℕ, zero, suc, List, [], ◌∷◌, ◌++◌, Bool, true, false, None, refl, sym, ap, ◌∙◌, subst, append_assoc}
use Rattle.std.specs.Prelude.{is_some, Some, Result, Err, ⊤, if◌then◌else◌, ◌||◌}
use Rattle.hg_base.specs.declared.rid.Rid.{Rid}
use Rattle.hg_base.specs.declared.rid.TableId.{TableId}
use Rattle.hg_base.specs.declared.image.Image.{Image}
use Rattle.hg_base.specs.Lists.{Each}
use Rattle.hg_base.specs.History.{Write, same_rid, image_in, is_among}
use Rattle.hg_base.specs.Transcript.{only}
use Rattle.hg_base.proofs.HistoryFacts.{same_rid_equal, same_rid_itself}
use Rattle.hg_core.specs.declared.log.LogEntry.{LogEntry}
use Rattle.hg_core.specs.declared.log.LogEntry.TheVariants.{Began, Saw, Over}
use Rattle.hg_core.specs.Contents.{has_own}
use Rattle.hg_core.specs.Reading.{saws, UndoesAll}
use Rattle.hg_bucket.specs.declared.refusal.WriteRefusal.{WriteRefusal}
use Rattle.hg_bucket.specs.declared.refusal.WriteRefusal.TheVariants.{Open, Newer, NoMemory}
use Rattle.hg_rule.specs.declared.view.Sizes.{Sizes}
use Rattle.hg_rule.specs.declared.view.View.{View}
use Rattle.hg_cursor.specs.Keys.{Rows}
use Rattle.hg_session.specs.declared.answers.PutRefusal.{PutRefusal}
use Rattle.hg_session.specs.declared.answers.PutRefusal.TheVariants as put
use Rattle.hg_session.specs.Alone.{IsRefusedAlone}
use Rattle.hg_session.specs.Gains.{Gains, entries_of}
use Rattle.hg_session.specs.Refused.{IsLookAt, HasLooked, HasGivenUp, taken_back, LeavesNoWrite}
use Rattle.hg_session.specs.Replies.{refused_at}
use Rattle.hg_session.proofs.Settling.{gains_on}

-- what refuses a write is not that its table is undeclared
pub told_apart : {T : Type 0} (at : ℕ) (e : WriteRefusal) (table : TableId) (told : PutRefusal) → told ≡ refused_at at e → (r : Result T PutRefusal) → r ≡ Err told →
    r ≡ Err (put.Undeclared table) → ⊥
told_apart at (Open j x) table told is r was same = cc
told_apart at (Newer n) table told is r was same = cc
told_apart at NoMemory table told is r was same = cc

-- ---- looks

pub saws_there : (buckets : ℕ) (table : TableId) (low high : ℕ) (part : ℕ → Rows) (n : ℕ) → Each (IsLookAt table low high) (saws buckets table low high part n)
saws_there buckets table low high part zero = tt
saws_there buckets table low high part (suc n) = go (has_own buckets table low high n) (saws_there buckets table low high part n)
  where
    earlier : List LogEntry
    earlier = saws buckets table low high part n

    go : (x : Bool) → Each (IsLookAt table low high) earlier → Each (IsLookAt table low high) (if x then Saw table low high n (part n) ∷ earlier else earlier)
    go true rest = ((refl, (refl, refl)), rest)
    go false rest = rest

-- a refused write leaves the looks before it
pub looked_before : (v w : View) (rid : Rid) (image : Image) (at : ℕ) (looks : List LogEntry) → Each (IsLookAt rid.table rid.key rid.key) looks → (e : WriteRefusal) →
    Gains v (entries_of {T = ⊤} rid image (Err e) ++ looks) w → refused_at at e ≡ put.NoMemory → HasLooked rid.table rid.key rid.key v w
looked_before v w rid image at looks there (Open j x) g same = absurd (let q = same in cc)
looked_before v w rid image at looks there (Newer n) g same = absurd (let q = same in cc)
looked_before v w rid image at looks there NoMemory g same = record { looks = looks; there = there; gains = g }

-- ---- a transaction of its own

pub given_up : (v m w : View) (table : TableId) (low high at : ℕ) (besides looks : List LogEntry) → Each (IsLookAt table low high) looks →
    Gains v (looks ++ Began at (only (Some table)) ∷ []) m → Gains m (Over ∷ besides) w → HasGivenUp table low high besides v w
given_up v m w table low high at besides looks there begun over = record {
  at = at;
  looks = looks;
  there = there;
  gains = gains_on v m w (looks ++ Began at (only (Some table)) ∷ []) (Over ∷ besides) begun over (λ l. sym (append_assoc (Over ∷ besides) (looks ++ Began at (only (Some table)) ∷ []) l));
}

pub no_write : (z : Sizes) (v m w : View) (rid : Rid) (image : Image) (at : ℕ) (looks : List LogEntry) → Each (IsLookAt rid.table rid.key rid.key) looks →
    Gains v (looks ++ Began at (only (Some rid.table)) ∷ []) m → (e : PutRefusal) → IsRefusedAlone z m rid image at w e → e ≡ put.NoMemory → LeavesNoWrite None rid image v w
no_write z v m w rid image at looks there begun (put.Undeclared table) g same = absurd g
no_write z v m w rid image at looks there begun (put.Open s j x) g same = absurd (let q = same in cc)
no_write z v m w rid image at looks there begun (put.Newer s n) g same = absurd (let q = same in cc)
no_write z v m w rid image at looks there begun put.NoMemory (inl g) same = inl (given_up v m w rid.table rid.key rid.key at [] looks there begun g)
no_write z v m w rid image at looks there begun put.NoMemory (inr g) same = inr (given_up v m w rid.table rid.key rid.key at (taken_back rid image) looks there begun g)

-- ---- one write is taken back

-- a record that a transaction with one write wrote is that one
is_that : (w : Write) (r : Rid) → is_some (image_in r (w ∷ [])) ≡ true → r ≡ w.rid
is_that w r e = go (same_rid w.rid r) refl e
  where
    go : (b : Bool) → same_rid w.rid r ≡ b → is_some (if b then Some w.image else None) ≡ true → r ≡ w.rid
    go true same k = sym (same_rid_equal w.rid r same)
    go false same k = absurd (let q = k in cc)

named_first : (r : Rid) (rids : List Rid) → is_among r (r ∷ rids) ≡ true
named_first r rids = ap (λ b. b || is_among r rids) (same_rid_itself r)

pub one_undone : (w : Write) (undone : List Rid) → UndoesAll (w ∷ []) undone → undone ≡ w.rid ∷ []
one_undone w [] all = absurd (let k = all.1 w.rid ∙ ap (λ b. is_some (if b then Some w.image else None)) (same_rid_itself w.rid) in cc)
one_undone w (x ∷ []) all = ap (λ r. r ∷ []) (is_that w x (sym (all.1 x) ∙ named_first x []))
one_undone w (x ∷ y ∷ more) all =
    let first : x ≡ w.rid = is_that w x (sym (all.1 x) ∙ named_first x (y ∷ more)) in
    let among : is_among y (x ∷ y ∷ more) ≡ true = later (same_rid y x) (named_first y more) in
    let second : y ≡ w.rid = is_that w y (sym (all.1 y) ∙ among) in
    let twice : is_among x (y ∷ more) ≡ true = subst (λ r. is_among r (y ∷ more) ≡ true) (second ∙ sym first) (named_first y more) in
    absurd (let k = sym twice ∙ all.0.0 in cc)
  where
    later : (b : Bool) → is_among y (y ∷ more) ≡ true → (b || is_among y (y ∷ more)) ≡ true
    later true e = refl
    later false e = e
