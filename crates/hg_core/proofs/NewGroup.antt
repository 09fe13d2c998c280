-- What a new group writes is what its sessions have open.
use Rattle.std.proofs.Common.{◌≡◌, ℕ, List, [], ◌∷◌, Option, None, Some, Bool, true, false, not, ◌||◌, ◌==◌, refl, sym, ap, ◌∙◌, subst, arith}
use Rattle.std.specs.Prelude.{if◌then◌else◌, cond, filter, IsTrue}
use Rattle.std.specs.Option.{option_or}
use Rattle.std.proofs.lemmas.Bool.Decides.{Decides-eqb, nat_tests}
use Rattle.hg_base.specs.declared.rid.Rid.{Rid}
use Rattle.hg_base.specs.declared.image.Image.{Image}
use Rattle.hg_base.specs.Lists.{Each}
use Rattle.hg_base.specs.History.{Write, same_rid, image_in, group_image}
use Rattle.hg_base.specs.Transcript.{last_images}
use Rattle.hg_base.proofs.HistoryFacts.{same_rid_equal}
use Rattle.hg_core.specs.declared.log.LogEntry.{LogEntry}
use Rattle.hg_core.specs.declared.log.LogEntry.TheVariants.{Began, Saw, Refused, Outside, Wrote, Undid, Published, Over}
use Rattle.hg_base.specs.declared.writer.Writer.{Writer}
use Rattle.hg_base.specs.History.{Group}
use Rattle.std.specs.Prelude.{option_map}
use Rattle.hg_core.specs.Logs.{is_plain, own_writes, open_in, commit_in, begun_in, new_group, is_in}
use Rattle.hg_core.specs.OpenWrites.{writer_of}
use Rattle.hg_core.specs.Ordered.{group_write}
use Rattle.hg_core.proofs.Versions.{same_pair}

-- ---- the last image of each record

image_left : (q r : Rid) (ws : List Write) → same_rid q r ≡ false → image_in r (filter (λ v. not (same_rid q v.rid)) ws) ≡ image_in r ws
image_left q r [] e = refl
image_left q r (w ∷ ws) e = go (same_rid q w.rid) refl (image_left q r ws e)
  where
    go : (b : Bool) → same_rid q w.rid ≡ b → image_in r (filter (λ v. not (same_rid q v.rid)) ws) ≡ image_in r ws →
        image_in r (cond (not b) (w ∷ filter (λ v. not (same_rid q v.rid)) ws) (filter (λ v. not (same_rid q v.rid)) ws)) ≡ image_in r (w ∷ ws)
    go true t later = let other : same_rid w.rid r ≡ false = ap (λ x. same_rid x r) (sym (same_rid_equal q w.rid t)) ∙ e in later ∙ sym (ap (λ b. if b then Some w.image else image_in r ws) other)
    go false t later = ap (λ x. if same_rid w.rid r then Some w.image else x) later

image_last : (r : Rid) (ws : List Write) → image_in r (last_images ws) ≡ image_in r ws
image_last r [] = refl
image_last r (w ∷ ws) = go (same_rid w.rid r) refl (image_last r ws)
  where
    go : (b : Bool) → same_rid w.rid r ≡ b → image_in r (last_images ws) ≡ image_in r ws →
        (if b then Some w.image else image_in r (filter (λ v. not (same_rid w.rid v.rid)) (last_images ws))) ≡ (if b then Some w.image else image_in r ws)
    go true e later = refl
    go false e later = image_left w.rid r (last_images ws) e ∙ later

-- nothing was undone or published, so each stored write is open
pub image_open : (r : Rid) (log : List LogEntry) → is_plain log ≡ true → image_in r (own_writes log) ≡ open_in r log
image_open r [] p = refl
image_open r (Began at scope ∷ log) p = refl
image_open r (Over ∷ log) p = refl
image_open r (Published n ∷ log) p = cc
image_open r (Undid q ∷ log) p = cc
image_open r (Wrote q image ∷ log) p = ap (λ x. if same_rid q r then Some image else x) (image_open r log p)
image_open r (Saw t low high b rows ∷ log) p = image_open r log p
image_open r (Refused q answer ∷ log) p = image_open r log p
image_open r (Outside t ∷ log) p = image_open r log p

pub commit_image : (r : Rid) (j : ℕ) (log : List LogEntry) → is_plain log ≡ true → image_in r (commit_in j log).images ≡ open_in r log
commit_image r j log p = image_last r (own_writes log) ∙ image_open r log p

-- ---- the group

pub first_in : (j : ℕ) (js : List ℕ) → is_in (j ∷ js) j ≡ true
first_in j js = let same : (j == j) ≡ true = grind (arith, nat_tests) in ap (λ b. b || is_in js j) same

pub rest_in : (k j : ℕ) (js : List ℕ) → is_in js k ≡ true → is_in (j ∷ js) k ≡ true
rest_in k j js m = step (j == k) (is_in js k) m
  where
    step : (a b : Bool) → b ≡ true → (a || b) ≡ true
    step a b e = grind arith

-- who writes r in the group
pub writer_in : (r : Rid) (i : Image) (log : ℕ → List LogEntry) (js : List ℕ) → Each (λ j. IsTrue (is_plain (log j))) js → group_image r (new_group log js) ≡ Some i → (j : ℕ) ×
    (is_in js j ≡ true) × (open_in r (log j) ≡ Some i)
writer_in r i log [] p e = cc
writer_in r i log (j ∷ js) p e = go (image_in r (commit_in j (log j)).images) refl e (λ k. writer_in r i log js p.1 k)
  where
    go : (x : Option Image) → image_in r (commit_in j (log j)).images ≡ x → option_or x (group_image r (new_group log js)) ≡ Some i →
        (group_image r (new_group log js) ≡ Some i → (k : ℕ) × (is_in js k ≡ true) × (open_in r (log k) ≡ Some i)) → (k : ℕ) × (is_in (j ∷ js) k ≡ true) × (open_in r (log k) ≡ Some i)
    go None w e later = let h = later e in (h.0, rest_in h.0 j js h.1, h.2)
    go (Some a) w e later = (j, first_in j js, sym (commit_image r j (log j) p.0) ∙ w ∙ e)

pub nobody_in : (r : Rid) (log : ℕ → List LogEntry) (js : List ℕ) (j : ℕ) → Each (λ j. IsTrue (is_plain (log j))) js → group_image r (new_group log js) ≡ None → is_in js j ≡ true →
    open_in r (log j) ≡ None
nobody_in r log [] j p e m = cc
nobody_in r log (k ∷ js) j p e m = go (image_in r (commit_in k (log k)).images) refl e (k == j) refl m (λ a b. nobody_in r log js j p.1 a b)
  where
    go : (x : Option Image) → image_in r (commit_in k (log k)).images ≡ x → option_or x (group_image r (new_group log js)) ≡ None → (b : Bool) → (k == j) ≡ b →
        (b || is_in js j) ≡ true → (group_image r (new_group log js) ≡ None → is_in js j ≡ true → open_in r (log j) ≡ None) → open_in r (log j) ≡ None
    go None w e true q m later = let same : k ≡ j = (Decides-eqb k j).0 q in subst (λ z. open_in r (log z) ≡ None) same (sym (commit_image r k (log k) p.0) ∙ w)
    go None w e false q m later = later e m
    go (Some a) w e b q m later = cc

-- the image of a group's write is the group's image
pub write_image : (r : Rid) (g : Group) → option_map (λ (p : Writer × Image). p.1) (group_write r g) ≡ group_image r g
write_image r [] = refl
write_image r (c ∷ cs) = go (image_in r c.images) (write_image r cs)
  where
    go : (x : Option Image) → option_map (λ (p : Writer × Image). p.1) (group_write r cs) ≡ group_image r cs
        → option_map (λ (p : Writer × Image). p.1) (option_or (option_map (λ image. (record { session = c.session; transaction = c.transaction }, image)) x) (group_write r cs)) ≡
        option_or x (group_image r cs)
    go None later = later
    go (Some a) later = refl

-- the writer of r in the group is the open transaction of its session, which has r open with that image
pub write_in : (r : Rid) (w : Writer) (i : Image) (log : ℕ → List LogEntry) (js : List ℕ) → Each (λ j. IsTrue (is_plain (log j))) js →
    group_write r (new_group log js) ≡ Some (w, i) → (w ≡ writer_of (begun_in log) w.session) × (open_in r (log w.session) ≡ Some i)
write_in r w i log [] p e = cc
write_in r w i log (j ∷ js) p e = go (image_in r (commit_in j (log j)).images) refl e (λ k. write_in r w i log js p.1 k)
  where
    go : (x : Option Image) → image_in r (commit_in j (log j)).images ≡ x → option_or (option_map (λ image. (writer_of (begun_in log) j, image)) x) (group_write r (new_group log js)) ≡ Some (w, i)
        → (group_write r (new_group log js) ≡ Some (w, i) → (w ≡ writer_of (begun_in log) w.session) × (open_in r (log w.session) ≡ Some i))
        → (w ≡ writer_of (begun_in log) w.session) × (open_in r (log w.session) ≡ Some i)
    go None q e later = later e
    go (Some a) q e later =
        let pair = same_pair (writer_of (begun_in log) j, a) (w, i) e in
        let who : writer_of (begun_in log) j ≡ w = ap (λ x. x.0) pair in
        let image : a ≡ i = ap (λ x. x.1) pair in
        let at : j ≡ w.session = ap (λ (x : Writer). x.session) who in
        (subst (λ v. v ≡ writer_of (begun_in log) v.session) who refl, subst (λ k. open_in r (log k) ≡ Some i) at (sym (commit_image r j (log j) p.0) ∙ q ∙ ap Some image))
