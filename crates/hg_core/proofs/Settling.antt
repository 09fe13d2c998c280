-- Where all sessions rest, a pass leaves of each record its row at the mark, if it has one.
use Rattle.std.proofs.Common.{◌≡◌, ℕ, suc, ◌≤◌, List, [], ◌∷◌, length, None, Some, Bool, true, false, not, ◌||◌, inl, refl, sym, ap, ◌∙◌, subst, arith, Option}
use Rattle.std.specs.Prelude.{if◌then◌else◌, cond, nat_le, is_some, IsSome}
use Rattle.std.proofs.lemmas.Bool.Decides.{nat_tests}
use Rattle.hg_base.specs.declared.rid.Rid.{Rid}
use Rattle.hg_base.specs.declared.rid.TableId.{TableId}
use Rattle.hg_base.specs.declared.image.Image.{Image}
use Rattle.hg_base.specs.declared.writer.Writer.{Writer}
use Rattle.hg_base.specs.Lists.{Each}
use Rattle.hg_base.specs.History.{visible}
use Rattle.hg_core.specs.declared.loaded.Loaded.{Loaded}
use Rattle.hg_core.specs.declared.register.Register.TheVariants as registers
use Rattle.hg_core.specs.declared.version.Stamp.{Stamp}
use Rattle.hg_core.specs.declared.version.Stamp.TheVariants.{Written, Numbered, Oldest}
use Rattle.hg_core.specs.declared.version.Version.{Version}
use Rattle.hg_core.specs.Versions.{stamp_number, is_up_to, newest_at, unpublished, unpublished_by}
use Rattle.hg_core.specs.Contents.{versions}
use Rattle.hg_core.specs.Covered.{image_of}
use Rattle.hg_core.specs.Ordered.{Falls, IsOrdered}
use Rattle.hg_core.specs.Clean.{IsOneRow, up_to, IsCutAt}
use Rattle.hg_core.specs.Passes.{PassRecord, lower, least_entering, horizon, if_live, live_numbers, mask_has, least, group_bound, table_bound}
use Rattle.hg_core.specs.State.{CoreState}
use Rattle.hg_core.specs.Invariant.{IsSteady}
use Rattle.hg_core.specs.declared.phase.Phase.TheVariants.{Idle}
use Rattle.hg_core.specs.Phases.{snapshot_in}
use Rattle.hg_core.proofs.Begins.{none_open}

-- ---- a record that found all registers idle

idle_entering : (n : ℕ) (loaded : List (ℕ × Loaded)) → Each (λ e. e.1.register ≡ registers.Idle) loaded → least_entering n loaded ≡ n
idle_entering n [] h = refl
idle_entering n (e ∷ loaded) h = ap (lower (least_entering n loaded)) h.0 ∙ idle_entering n loaded h.1

idle_numbers : (test : _) (loaded : List (ℕ × Loaded)) → Each (λ e. e.1.register ≡ registers.Idle) loaded → live_numbers test loaded ≡ []
idle_numbers test [] h = refl
idle_numbers test (e ∷ loaded) h = ap (λ register. if_live test register e.1.mask (live_numbers test loaded)) h.0 ∙ idle_numbers test loaded h.1

pub idle_table : (pass : PassRecord) (table : TableId) → Each (λ e. e.1.register ≡ registers.Idle) pass.loaded → table_bound table pass ≡ pass.mark
idle_table pass table h = ap (least (horizon pass)) (idle_numbers (λ moved mask. not moved || mask_has table mask) pass.loaded h) ∙ idle_entering pass.mark pass.loaded h

pub idle_group : (pass : PassRecord) → Each (λ e. e.1.register ≡ registers.Idle) pass.loaded → group_bound pass ≡ pass.mark
idle_group pass h = ap (least (horizon pass)) (idle_numbers (λ moved mask. true) pass.loaded h) ∙ idle_entering pass.mark pass.loaded h

-- where all sessions rest, no write is open
pub none_unpublished : (s : CoreState) → IsSteady s → ((j : ℕ) → s.phase j ≡ Idle) → (r : Rid) → unpublished s.mark (versions s.buckets s.bucket r) ≡ None
none_unpublished s h rests r = go (unpublished s.mark (versions s.buckets s.bucket r)) refl
  where
    go : (x : Option (Writer × Image)) → unpublished s.mark (versions s.buckets s.bucket r) ≡ x → unpublished s.mark (versions s.buckets s.bucket r) ≡ None
    go None e = e
    go (Some (w, i)) e = absurd (
        let own = (h.open_writes_stand.owned r w i e).1 in
        let none = none_open s.history r (s.log w.session) (h.logs_answer.judged w.session) (h.logs_answer.reads w.session ∙ ap snapshot_in (rests w.session)) in
        cc
        )

-- ---- a record that is cut at the mark

-- behind a number at or below the mark all have one
all_up : (mark n : ℕ) (vs : List Version) → n ≤ suc mark → Falls n vs → up_to mark vs ≡ vs
all_up mark n [] le f = refl
all_up mark n (v ∷ vs) le f =
    let low : is_up_to mark (stamp_number v.stamp) ≡ true = rw f.1 (let less = f.2 in let k : nat_le f.0 mark ≡ true = grind (arith, nat_tests) in k) in
    ap (λ b. cond b (v ∷ up_to mark vs) (up_to mark vs)) low ∙ ap (λ ws. v ∷ ws) (all_up mark f.0 vs (omega (arith, le, f.2)) f.3)

-- how many versions a row leaves
abbrev pub one_if : Bool → ℕ
one_if b = if b then 1 else 0

first_alone : (v : Version) (vs : List Version) → IsOneRow (v ∷ vs) → (vs ≡ []) × IsSome v.image.row
first_alone v [] k = (refl, k)
first_alone v (w ∷ vs) k = absurd k

-- a published version at or below the mark, and what falls behind it
one_left : (mark n : ℕ) (v : Version) (vs : List Version) → stamp_number v.stamp ≡ Some n → n ≤ mark → Falls n vs → IsCutAt mark (v ∷ vs) →
    length (v ∷ vs) ≡ one_if (is_some (image_of (newest_at mark (v ∷ vs))).row)
one_left mark n v vs e le f cut =
    let low : is_up_to mark (stamp_number v.stamp) ≡ true = rw e (let k : nat_le n mark ≡ true = grind (arith, nat_tests) in k) in
    let row = first_alone v (up_to mark vs) (subst (λ b. IsOneRow (cond b (v ∷ up_to mark vs) (up_to mark vs))) low cut) in
    let none : vs ≡ [] = sym (all_up mark n vs (omega (arith, le)) f) ∙ row.0 in
    ap (λ ws. length (v ∷ ws)) none ∙ sym (ap one_if row.1) ∙ sym (ap (λ (i : Image). one_if (is_some i.row)) (seen low))
  where
    seen : is_up_to mark (stamp_number v.stamp) ≡ true → image_of (newest_at mark (v ∷ vs)) ≡ v.image
    seen low = rw (low, e) refl

left_of_ordered : (mark : ℕ) (vs : List Version) → IsOrdered mark vs → unpublished mark vs ≡ None → IsCutAt mark vs → length vs ≡ one_if (is_some (image_of (newest_at mark vs)).row)
left_of_ordered mark [] o none cut = refl
left_of_ordered mark (v ∷ vs) o none cut = go v.stamp o none cut
  where
    go : (x : Stamp) → IsOrdered mark (record { stamp = x; image = v.image } ∷ vs) → unpublished_by mark x v.image ≡ None →
        IsCutAt mark (record { stamp = x; image = v.image } ∷ vs) → length (v ∷ vs) ≡ one_if (is_some (image_of (newest_at mark (record { stamp = x; image = v.image } ∷ vs))).row)
    go (Written by) f none cut = absurd (cc)
    go (Oldest n) f none cut = one_left mark n (record { stamp = Oldest n; image = v.image }) vs refl f.0 f.1 cut
    go (Numbered n by) f none cut = by_mark (nat_le n mark) refl none
      where
        by_mark : (b : Bool) → nat_le n mark ≡ b → (let p : Writer × Image = (by, v.image) in if b then None else Some p) ≡ None →
            length (v ∷ vs) ≡ one_if (is_some (image_of (newest_at mark (record { stamp = Numbered n by; image = v.image } ∷ vs))).row)
        by_mark true q none = one_left mark n (record { stamp = Numbered n by; image = v.image }) vs refl (grind (arith, nat_tests)) f.1 cut
        by_mark false q none = absurd (cc)

pub live_left : (s : CoreState) → IsSteady s → (r : Rid) → unpublished s.mark (versions s.buckets s.bucket r) ≡ None → IsCutAt s.mark (versions s.buckets s.bucket r) →
    length (versions s.buckets s.bucket r) ≡ (if is_some (visible s.history r s.mark).row then 1 else 0)
live_left s h r none cut = left_of_ordered s.mark (versions s.buckets s.bucket r) (h.contents_are_ordered.ordered r) none cut ∙
    ap (λ (i : Image). one_if (is_some i.row)) ((h.covered r).same s.mark (inl refl))
