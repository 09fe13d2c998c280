-- What is held still answers, after each event.
use Rattle.std.proofs.Common.{◌≡◌, ℕ, suc, ◌+◌, ◌≤◌, List, [], ◌∷◌, ◌++◌, length, Option, None, Some, Bool, true, false, inl, inr, refl, sym, ap, ◌∙◌, arith}
use Rattle.std.specs.Prelude.{if◌then◌else◌, nat_le, IfSome, option_map}
use Rattle.std.proofs.lemmas.Bool.Decides.{nat_tests}
use Rattle.hg_base.specs.declared.rid.Rid.{Rid}
use Rattle.hg_base.specs.declared.rid.TableId.{TableId}
use Rattle.hg_base.specs.declared.writer.Writer.{Writer}
use Rattle.hg_base.specs.declared.image.Image.{Image}
use Rattle.hg_base.specs.Lists.{Each}
use Rattle.hg_base.specs.History.{Group, History, nothing, group_image, writes, visible}
use Rattle.hg_base.proofs.HistoryFacts.{visible_stays}
use Rattle.hg_core.specs.declared.phase.Phase.{Phase}
use Rattle.hg_core.specs.declared.phase.Phase.TheVariants.{Idle, Declared, Probed, Entered, Fixed, Live}
use Rattle.hg_core.specs.declared.version.Stamp.{Stamp}
use Rattle.hg_core.specs.declared.version.Stamp.TheVariants.{Written, Numbered, Oldest}
use Rattle.hg_core.specs.declared.version.Version.{Version}
use Rattle.hg_core.specs.Versions.{first_at, pair_of, newest_at, is_numbered, unpublished_by, unpublished}
use Rattle.hg_core.specs.Removal.{swept, cut}
use Rattle.hg_core.specs.Ordered.{Falls, IsOrdered}
use Rattle.hg_core.specs.Covered.{image_of, last_pair, Reads, IsProtected, Covers}
use Rattle.hg_core.specs.Marks.{PhaseUpTo}
use Rattle.hg_core.proofs.Versions.{same_pair}
use Rattle.hg_core.proofs.Sweep.{swept_first, cut_newest}
use Rattle.hg_base.specs.Lifetimes.{IsGuarded}
use Rattle.hg_core.proofs.Groups.{length_more}
use Rattle.hg_core.proofs.Past.{last_more, visible_last, last_bounds, writes_new, writes_old}

-- ---- protected numbers

reads_within : (table : TableId) (mark n : ℕ) (p : Phase) → PhaseUpTo mark p → Reads table p n → n ≤ mark
reads_within table mark n Idle u g = absurd g
reads_within table mark n (Declared scope) u g = absurd g
reads_within table mark n (Probed scope f) u g = absurd g
reads_within table mark n (Entered scope f) u g = absurd g
reads_within table mark n (Fixed scope f m) u g = omega (arith, u.1, g)
reads_within table mark n (Live at scope) u g = omega (arith, u, g.0)

-- they are at or below the mark
pub protected_within : (mark : ℕ) (phase : ℕ → Phase) (table : TableId) (n : ℕ) → ((j : ℕ) → PhaseUpTo mark (phase j)) → IsProtected mark phase table n → n ≤ mark
protected_within mark phase table n up g = elim g [ inl e ↦ omega (arith, e) | inr e ↦ reads_within table mark n (phase e.0) (up e.0) e.1 ]

-- ---- other phases, or the same versions at each number

pub covers_less : (mark : ℕ) (phase phase' : ℕ → Phase) (h : History) (r : Rid) (vs : List Version) →
    ((n : ℕ) → IsProtected mark phase' r.table n → IsProtected mark phase r.table n) → Covers mark phase h r vs → Covers mark phase' h r vs
covers_less mark phase phase' h r vs less c = record {
  same = λ n g. c.same n (less n g);
  newest = elim c.newest [ inl e ↦ inl e | inr e ↦ inr (e.0, (e.1.0, e.1.1, (λ n g. e.1.2 n (less n g)))) ];
}

pub covers_same : (mark : ℕ) (phase : ℕ → Phase) (h : History) (r : Rid) (vs next : List Version) → ((n : ℕ) → n ≤ mark → newest_at n next ≡ newest_at n vs) →
    ((j : ℕ) → PhaseUpTo mark (phase j)) → Covers mark phase h r vs → Covers mark phase h r next
covers_same mark phase h r vs next e up c = record {
  same = λ n g. ap image_of (e n (protected_within mark phase r.table n up g)) ∙ c.same n g;
  newest = rw (e mark (omega arith)) c.newest;
}

-- ---- a removal

abbrev pub number_is : Option (ℕ × Image) → Option ℕ
number_is x = option_map (λ (pair : ℕ × Image). pair.0) x

pair_is : (x : Option (ℕ × Image)) (d : ℕ) (i : Image) → option_map (λ (pair : ℕ × Image). pair.0) x ≡ Some d → image_of x ≡ i → x ≡ Some (d, i)
pair_is None d i e f = cc
pair_is (Some p) d i e f = let k : p.0 ≡ d = cc in λ z. Some (k z, f z)

pub covers_cut : (bound mark : ℕ) (phase : ℕ → Phase) (h : History) (r : Rid) (vs : List Version) → mark ≡ length h → ((n : ℕ) → IsProtected mark phase r.table n → bound ≤ n) →
    Covers mark phase h r vs → Covers mark phase h r (cut bound vs)
covers_cut bound mark phase h r vs m low c = record {
  same = λ n g. elim (cut_newest bound n vs (low n g)) [
    | inl e ↦ ap image_of e ∙ c.same n g
    | inr e ↦ ap image_of e.0 ∙ sym (ap image_of e.1.1) ∙ c.same n g
  ];
  newest = elim (cut_newest bound mark vs (low mark (inl refl))) [
    | inl e ↦ rw e c.newest
    | inr e ↦ elim c.newest [
      | inl q ↦
          (let last : last_pair (writes h r) ≡ Some (e.1.0, nothing) =
          pair_is (last_pair (writes h r)) e.1.0 nothing
          (sym q ∙ ap (λ x. option_map (λ (pair : ℕ × Image). pair.0) x) e.1.1)
          (sym (visible_last h r mark (omega arith)) ∙ sym (c.same mark (inl refl)) ∙ ap image_of e.1.1) in
          inr (e.0, (e.1.0, last, (λ n g. omega (arith, low n g, e.1.2)))))
      | inr q ↦ absurd (let k = e.1.1 in let l = q.0 in cc)
    ]
  ];
}

pub covers_swept : (horizon mark : ℕ) (snapshots : List ℕ) (phase : ℕ → Phase) (h : History) (r : Rid) (vs : List Version) →
    ((n : ℕ) → IsProtected mark phase r.table n → IsGuarded horizon snapshots n) → Covers mark phase h r vs → Covers mark phase h r (swept horizon snapshots None vs)
covers_swept horizon mark snapshots phase h r vs low c = record {
  same = λ n g. ap (λ v. image_of (pair_of v)) (swept_first horizon n snapshots None vs (low n g) tt) ∙ c.same n g;
  newest = rw (swept_first horizon mark snapshots None vs (low mark (inl refl)) tt) c.newest;
}

-- ---- a write

-- where the newest published number is at or below a protected one, each write is
pub none_newer : (mark : ℕ) (phase : ℕ → Phase) (h : History) (r : Rid) (vs : List Version) (n : ℕ) → Covers mark phase h r vs → IsProtected mark phase r.table n →
    IfSome (newest_at mark vs) (λ pair. pair.0 ≤ n) → Each (λ (w : ℕ × Image). w.0 ≤ n) (writes h r)
none_newer mark phase h r vs n c g low = last_bounds 1 n h r (λ p e. elim c.newest [
  | inl q ↦ below (newest_at mark vs) p.0 low (q ∙ ap (λ x. option_map (λ (pair : ℕ × Image). pair.0) x) e)
  | inr q ↦ (let d = q.1.2 n g in let same : q.1.0 ≡ p.0 = deletion q.1.0 p (sym q.1.1 ∙ e) in omega (arith, d, same))
])
  where
    below : (x : Option (ℕ × Image)) (m : ℕ) → IfSome x (λ pair. pair.0 ≤ n) → option_map (λ (pair : ℕ × Image). pair.0) x ≡ Some m → m ≤ n
    below None m s e = cc
    below (Some p) m s e = let same : p.0 ≡ m = cc in omega (arith, s, same)

    deletion : (d : ℕ) (p : ℕ × Image) → Some (d, nothing) ≡ Some p → d ≡ p.0
    deletion d p e = cc

-- ---- a group more

-- the newest version at the next number
falls_at : (b n : ℕ) (vs : List Version) → Falls b vs → b ≤ suc n → first_at (suc n) vs ≡ first_at n vs
falls_at b n [] f k = refl
falls_at b n (v ∷ vs) f k =
    let p : nat_le f.0 (suc n) ≡ true = grind (arith, nat_tests, f.2) in
    let q : nat_le f.0 n ≡ true = grind (arith, nat_tests, f.2) in
    rw (f.1, p, q)

-- what has the next number is then the newest
stamped_newest : (mark : ℕ) (vs : List Version) (w : Writer) (i : Image) → IsOrdered mark vs → unpublished mark vs ≡ Some (w, i) → is_numbered vs ≡ true → newest_at (suc mark) vs ≡ Some (suc mark, i)
stamped_newest mark [] w i f o n = cc
stamped_newest mark (v ∷ vs) w i f o n = go v.stamp f o n
  where
    go : (x : Stamp) → IsOrdered mark (record { stamp = x; image = v.image } ∷ vs) → unpublished_by mark x v.image ≡ Some (w, i) →
        is_numbered (record { stamp = x; image = v.image } ∷ vs) ≡ true → newest_at (suc mark) (record { stamp = x; image = v.image } ∷ vs) ≡ Some (suc mark, i)
    go (Written by) f o n = cc
    go (Numbered k by) f o n = by_mark (nat_le k mark) refl o
      where
        by_mark : (b : Bool) → nat_le k mark ≡ b → (let p : Writer × Image = (by, v.image) in if b then None else Some p) ≡ Some (w, i) →
            newest_at (suc mark) (record { stamp = Numbered k by; image = v.image } ∷ vs) ≡ Some (suc mark, i)
        by_mark true e o = cc
        by_mark false e o =
            let same : k ≡ suc mark = grind (arith, nat_tests, f.0) in
            let image : v.image ≡ i = ap (λ x. x.1) (same_pair (by, v.image) (w, i) o) in
            let p : nat_le k (suc mark) ≡ true = grind (arith, nat_tests) in
            rw p (λ z. Some (same z, image z))
    go (Oldest k) f o n = cc

-- where nothing has the next number, it sees what the mark sees
unstamped_newest : (mark : ℕ) (vs : List Version) → IsOrdered mark vs → ((w : Writer) (i : Image) → unpublished mark vs ≡ Some (w, i) → is_numbered vs ≡ false) →
    newest_at (suc mark) vs ≡ newest_at mark vs
unstamped_newest mark [] f o = refl
unstamped_newest mark (v ∷ vs) f o = go v.stamp f o
  where
    go : (x : Stamp) → IsOrdered mark (record { stamp = x; image = v.image } ∷ vs) →
        ((w : Writer) (i : Image) → unpublished mark (record { stamp = x; image = v.image } ∷ vs) ≡ Some (w, i) → is_numbered (record { stamp = x; image = v.image } ∷ vs) ≡ false)
        → newest_at (suc mark) (record { stamp = x; image = v.image } ∷ vs) ≡ newest_at mark (record { stamp = x; image = v.image } ∷ vs)
    go (Written by) f o = ap pair_of (falls_at (suc mark) mark vs f (omega arith))
    go (Numbered k by) f o = by_mark (nat_le k mark) refl o
      where
        by_mark : (b : Bool) → nat_le k mark ≡ b → ((w : Writer) (i : Image) → (let p : Writer × Image = (by, v.image) in if b then None else Some p) ≡ Some (w, i) → true ≡ false)
            → newest_at (suc mark) (record { stamp = Numbered k by; image = v.image } ∷ vs) ≡ newest_at mark (record { stamp = Numbered k by; image = v.image } ∷ vs)
        by_mark true e o = let p : nat_le k (suc mark) ≡ true = grind (arith, nat_tests) in rw (e, p)
        by_mark false e o = let bad : true ≡ false = o by v.image refl in cc
    go (Oldest k) f o = let p : nat_le k (suc mark) ≡ true = grind (arith, nat_tests, f.0) in let q : nat_le k mark ≡ true = grind (arith, nat_tests, f.0) in rw (p, q)

pub covers_published : (mark : ℕ) (phase : ℕ → Phase) (h : History) (g : Group) (r : Rid) (vs : List Version) → mark ≡ length h → ((j : ℕ) → PhaseUpTo mark (phase j)) → IsOrdered mark vs
    → ((i : Image) → group_image r g ≡ Some i → (w : Writer) × (unpublished mark vs ≡ Some (w, i)) × (is_numbered vs ≡ true))
    → (group_image r g ≡ None → (w : Writer) (i : Image) → unpublished mark vs ≡ Some (w, i) → is_numbered vs ≡ false)
    → Covers mark phase h r vs → Covers (suc mark) phase (h ++ g ∷ []) r vs
covers_published mark phase h g r vs m up ordered new none c = go (group_image r g) refl
  where
    within : length (h ++ g ∷ []) ≤ suc mark
    within = omega (arith, length_more h g, m)

    old : (n j : ℕ) → Reads r.table (phase j) n → image_of (newest_at n vs) ≡ visible (h ++ g ∷ []) r n
    old n j reads = c.same n (inr (j, reads)) ∙ sym (visible_stays h g r n (omega (arith, reads_within r.table mark n (phase j) (up j) reads, m)))

    go : (x : Option Image) → group_image r g ≡ x → Covers (suc mark) phase (h ++ g ∷ []) r vs
    go (Some i) e =
        let who = new i e in
        let now = stamped_newest mark vs who.0 i ordered who.1 who.2 in
        let more = writes_new h g r i e in
        let last : last_pair (writes (h ++ g ∷ []) r) ≡ Some (suc mark, i) = ap last_pair more ∙ last_more (writes h r) (1 + length h, i) ∙
        ap (λ n. Some (n, i)) (let k : 1 + length h ≡ suc mark = omega arith in k) in
        record {
          same = λ n reads. elim reads [
            | inl q ↦ rw q (ap image_of now ∙ sym (ap image_of last) ∙ sym (visible_last (h ++ g ∷ []) r (suc mark) within))
            | inr q ↦ old n q.0 q.1
          ];
          newest = inl (ap number_is now ∙ sym (ap number_is last));
        }
    go None e =
        let now = unstamped_newest mark vs ordered (none e) in
        let same : writes (h ++ g ∷ []) r ≡ writes h r = writes_old h g r e in
        record {
          same = λ n reads. elim reads [
            | inl q ↦ rw q (ap image_of now ∙ c.same mark (inl refl) ∙ visible_last h r mark (omega arith) ∙ ap (λ ws. image_of (last_pair ws)) (sym same) ∙
                sym (visible_last (h ++ g ∷ []) r (suc mark) within))
            | inr q ↦ old n q.0 q.1
          ];
          newest = elim c.newest [
            | inl q ↦ inl (ap number_is now ∙ q ∙ ap (λ ws. number_is (last_pair ws)) (sym same))
            | inr q ↦ inr (
              now ∙ q.0,
              (
                q.1.0,
                ap last_pair same ∙ q.1.1,
                (λ n reads. elim reads [
                  | inl z ↦ omega (arith, q.1.2 mark (inl refl))
                  | inr z ↦ q.1.2 n (inr z)
                ]),
              ),
            )
          ];
        }
