-- What a sweep leaves is clean and stays so, and what stays of a record through an event.
use Rattle.std.proofs.Common.{◌≡◌, ℕ, suc, ◌<◌, ◌≤◌, List, [], ◌∷◌, Option, None, Some, Bool, true, false, ◌&&◌, ◌||◌, ◌⊎◌, inl, inr, refl, sym, ap, subst, arith, not, filter}
use Rattle.std.specs.Prelude.{if◌then◌else◌, cond, nat_le, nat_lt, IsTrue, map}
use Rattle.std.proofs.lemmas.Bool.Decides.{nat_tests}
use Rattle.hg_base.specs.declared.writer.Writer.{Writer}
use Rattle.hg_base.specs.declared.image.Image.{Image}
use Rattle.hg_base.specs.declared.rid.TableId.{TableId}
use Rattle.hg_base.specs.declared.report.Kind.{Kind}
use Rattle.hg_base.specs.declared.report.Kind.TheVariants.{Group, Table, Interval}
use Rattle.hg_base.specs.declared.value.Value.{Value}
use Rattle.hg_core.specs.declared.version.Stamp.{Stamp}
use Rattle.hg_core.specs.declared.version.Stamp.TheVariants.{Written, Numbered, Oldest}
use Rattle.hg_core.specs.declared.version.Version.{Version}
use Rattle.hg_core.specs.Versions.{stamp_number, is_up_to, installed, undone, stamped, IsOpenBy}
use Rattle.hg_core.specs.Passes.{PassRecord, horizon, recorded, group_bound, table_bound}
use Rattle.hg_core.specs.Removal.{swept, oldest, cut, reclaimed}
use Rattle.hg_base.specs.Lifetimes.{is_in_use, goes, MayStay}
use Rattle.hg_core.specs.Ordered.{Falls, IsOrdered}
use Rattle.hg_core.specs.Clean.{MayAllStay, IsClean, IsCutAt, with_successors, not_gone}
use Rattle.hg_core.proofs.Cuts.{cut_reclaimed}

-- ---- clean

-- the successor has the number of the one before, or a greater one
abbrev pub IsBehind : Option ℕ → Option ℕ → Type 0
IsBehind now before = (now ≡ before) ⊎ ((a : ℕ) × (b : ℕ) × (now ≡ Some a) × (before ≡ Some b) × (b ≤ a))

between_wider : (n u w : ℕ) (snapshots : List ℕ) → u ≤ w → IsTrue (is_in_use snapshots n u) → IsTrue (is_in_use snapshots n w)
between_wider n u w [] le e = absurd (let k : false ≡ true = e in cc)
between_wider n u w (s ∷ ss) le e = go (nat_le n s && nat_lt s u) refl e (λ k. between_wider n u w ss le k)
  where
    go : (b : Bool) → (nat_le n s && nat_lt s u) ≡ b → (b || is_in_use ss n u) ≡ true → (is_in_use ss n u ≡ true → is_in_use ss n w ≡ true) → ((nat_le n s && nat_lt s w) || is_in_use ss n w) ≡ true
    go true p e later = let here : (nat_le n s && nat_lt s w) ≡ true = grind (arith, nat_tests) in ap (λ b. b || is_in_use ss n w) here
    go false p e later = or_true (nat_le n s && nat_lt s w) (is_in_use ss n w) (later e)
      where
        or_true : (a b : Bool) → b ≡ true → (a || b) ≡ true
        or_true a b e = grind arith

stays_behind : (horizon : ℕ) (snapshots : List ℕ) (now before number : Option ℕ) → IsBehind now before → MayStay horizon snapshots before number → MayStay horizon snapshots now number
stays_behind horizon snapshots now before number (inl e) m = subst (λ x. MayStay horizon snapshots x number) (sym e) m
stays_behind horizon snapshots now before None (inr q) m = subst (λ x. MayStay horizon snapshots x None) (sym q.2) tt
stays_behind horizon snapshots now before (Some n) (inr q) m =
    let was : MayStay horizon snapshots (Some q.1) (Some n) = subst (λ x. MayStay horizon snapshots x (Some n)) q.3 m in
    let is : MayStay horizon snapshots (Some q.0) (Some n) = λ le. between_wider n q.1 q.0 snapshots q.4 (was (omega (arith, le, q.4))) in
    subst (λ x. MayStay horizon snapshots x (Some n)) (sym q.2) is

-- what doesn't go may stay
goes_not : (horizon : ℕ) (snapshots : List ℕ) (successor number : Option ℕ) → goes horizon snapshots successor number ≡ false → MayStay horizon snapshots successor number
goes_not horizon snapshots None number e = tt
goes_not horizon snapshots (Some u) None e = tt
goes_not horizon snapshots (Some u) (Some n) e = λ le. go (is_in_use snapshots n u) refl le
  where
    go : (b : Bool) → is_in_use snapshots n u ≡ b → u ≤ horizon → IsTrue (is_in_use snapshots n u)
    go true q le = q
    go false q le = absurd (let k : nat_le u horizon ≡ true = grind (arith, nat_tests) in let z = rw (k, q) at e in cc)

-- behind a version that goes stands what it stood before
behind_next : (horizon : ℕ) (snapshots : List ℕ) (now before number : Option ℕ) (n b : ℕ) → goes horizon snapshots before number ≡ true → number ≡ Some n → n < b →
    ((x : ℕ) → before ≡ Some x → b ≤ x) → IsBehind now before → IsBehind now number
behind_next horizon snapshots now None number n b g e less low behind = cc
behind_next horizon snapshots now (Some x) number n b g e less low (inl p) = inr (x, n, p, e, (let k = low x refl in omega arith))
behind_next horizon snapshots now (Some x) number n b g e less low (inr q) = inr (q.0, n, q.2, e, (let k = low x refl in let same : x ≡ q.1 = (let z = q.3 in cc) in omega (arith, q.4)))

low_next : (number : Option ℕ) (n x : ℕ) → number ≡ Some n → number ≡ Some x → n ≤ x
low_next number n x e p = let same : n ≡ x = cc in omega arith

clean_swept : (horizon : ℕ) (snapshots : List ℕ) (now before : Option ℕ) (b : ℕ) (vs : List Version) → Falls b vs → ((x : ℕ) → before ≡ Some x → b ≤ x) → IsBehind now before →
    MayAllStay horizon snapshots now (swept horizon snapshots before vs)
clean_swept horizon snapshots now before b [] f low behind = tt
clean_swept horizon snapshots now before b (v ∷ vs) f low behind = go (goes horizon snapshots before (stamp_number v.stamp)) refl
    (λ now behind. clean_swept horizon snapshots now (stamp_number v.stamp) f.0 vs f.3 (λ x e. low_next (stamp_number v.stamp) f.0 x f.1 e) behind)
  where
    go : (t : Bool) → goes horizon snapshots before (stamp_number v.stamp) ≡ t →
        ((now : Option ℕ) → IsBehind now (stamp_number v.stamp) → MayAllStay horizon snapshots now (swept horizon snapshots (stamp_number v.stamp) vs)) →
        MayAllStay horizon snapshots now (if t then swept horizon snapshots (stamp_number v.stamp) vs else v ∷ swept horizon snapshots (stamp_number v.stamp) vs)
    go true e later = later now (behind_next horizon snapshots now before (stamp_number v.stamp) f.0 b e f.1 f.2 low behind)
    go false e later = (stays_behind horizon snapshots now before (stamp_number v.stamp) behind (goes_not horizon snapshots before (stamp_number v.stamp) e), later (stamp_number v.stamp) (inl refl))

-- what was clean for one horizon stays so, whatever another sweep takes
clean_still : (horizon other : ℕ) (snapshots others : List ℕ) (now before : Option ℕ) (b : ℕ) (vs : List Version) → Falls b vs → ((x : ℕ) → before ≡ Some x → b ≤ x) →
    IsBehind now before → MayAllStay horizon snapshots before vs → MayAllStay horizon snapshots now (swept other others before vs)
clean_still horizon other snapshots others now before b [] f low behind c = tt
clean_still horizon other snapshots others now before b (v ∷ vs) f low behind c = go (goes other others before (stamp_number v.stamp)) refl
    (λ now behind. clean_still horizon other snapshots others now (stamp_number v.stamp) f.0 vs f.3 (λ x e. low_next (stamp_number v.stamp) f.0 x f.1 e) behind c.1)
  where
    go : (t : Bool) → goes other others before (stamp_number v.stamp) ≡ t →
        ((now : Option ℕ) → IsBehind now (stamp_number v.stamp) → MayAllStay horizon snapshots now (swept other others (stamp_number v.stamp) vs)) →
        MayAllStay horizon snapshots now (if t then swept other others (stamp_number v.stamp) vs else v ∷ swept other others (stamp_number v.stamp) vs)
    go true e later = later now (behind_next other others now before (stamp_number v.stamp) f.0 b e f.1 f.2 low behind)
    go false e later = (stays_behind horizon snapshots now before (stamp_number v.stamp) behind c.0, later (stamp_number v.stamp) (inl refl))

clean_cut : (horizon c : ℕ) (snapshots : List ℕ) (successor : Option ℕ) (vs : List Version) → MayAllStay horizon snapshots successor vs → MayAllStay horizon snapshots successor (cut c vs)
clean_cut horizon c snapshots successor [] k = tt
clean_cut horizon c snapshots successor (v ∷ vs) k = go (is_up_to c (stamp_number v.stamp)) (clean_cut horizon c snapshots (stamp_number v.stamp) vs k.1)
  where
    left : (number : Option ℕ) (row : Option (List Value)) → MayStay horizon snapshots successor number → MayAllStay horizon snapshots successor (oldest number row)
    left None None m = tt
    left None (Some row) m = tt
    left (Some n) None m = tt
    left (Some n) (Some row) m = (m, tt)

    go : (t : Bool) → MayAllStay horizon snapshots (stamp_number v.stamp) (cut c vs) → MayAllStay horizon snapshots successor (if t then oldest (stamp_number v.stamp) v.image.row else v ∷ cut c vs)
    go true later = left (stamp_number v.stamp) v.image.row k.0
    go false later = (k.0, later)

-- a sweep leaves its record clean
pub swept_is_clean : (mark horizon : ℕ) (snapshots : List ℕ) (vs : List Version) → IsOrdered mark vs → IsClean horizon snapshots (swept horizon snapshots None vs)
swept_is_clean mark horizon snapshots [] o = tt
swept_is_clean mark horizon snapshots (v ∷ vs) o = go v.stamp o
  where
    go : (x : Stamp) → IsOrdered mark (record { stamp = x; image = v.image } ∷ vs) → IsClean horizon snapshots (record { stamp = x; image = v.image } ∷ swept horizon snapshots (stamp_number x) vs)
    go (Written by) f = (tt, clean_swept horizon snapshots None None (suc mark) vs f (λ u e. absurd (cc)) (inl refl))
    go (Numbered n by) f = (tt, clean_swept horizon snapshots (Some n) (Some n) n vs f.1 (λ x e. low_next (Some n) n x refl e) (inl refl))
    go (Oldest n) f = (tt, clean_swept horizon snapshots (Some n) (Some n) n vs f.1 (λ x e. low_next (Some n) n x refl e) (inl refl))

clean_sweep : (mark horizon other : ℕ) (snapshots others : List ℕ) (vs : List Version) → IsOrdered mark vs → IsClean horizon snapshots vs → IsClean horizon snapshots (swept other others None vs)
clean_sweep mark horizon other snapshots others [] o c = tt
clean_sweep mark horizon other snapshots others (v ∷ vs) o c = go v.stamp o c
  where
    go : (x : Stamp) → IsOrdered mark (record { stamp = x; image = v.image } ∷ vs) → IsClean horizon snapshots (record { stamp = x; image = v.image } ∷ vs) →
        IsClean horizon snapshots (record { stamp = x; image = v.image } ∷ swept other others (stamp_number x) vs)
    go (Written by) f c = (tt, clean_still horizon other snapshots others None None (suc mark) vs f (λ u e. absurd (cc)) (inl refl) c.1)
    go (Numbered n by) f c = (tt, clean_still horizon other snapshots others (Some n) (Some n) n vs f.1 (λ x e. low_next (Some n) n x refl e) (inl refl) c.1)
    go (Oldest n) f c = (tt, clean_still horizon other snapshots others (Some n) (Some n) n vs f.1 (λ x e. low_next (Some n) n x refl e) (inl refl) c.1)

clean_reclaimed : (mark horizon : ℕ) (snapshots : List ℕ) (kind : Kind) (table : TableId) (pass : PassRecord) (vs : List Version) → IsOrdered mark vs →
    IsClean horizon snapshots vs → IsClean horizon snapshots (reclaimed kind table pass vs)
clean_reclaimed mark h snapshots Group table pass vs o c = clean_cut h (group_bound pass) snapshots None vs c
clean_reclaimed mark h snapshots Table table pass vs o c = clean_cut h (table_bound table pass) snapshots None vs c
clean_reclaimed mark h snapshots Interval table pass vs o c = clean_sweep mark h (horizon pass) snapshots (recorded table pass) vs o c

-- ---- what stays of a record through an event

-- what was cut at a bound at or below the mark is cut there, and what was clean for a horizon there is clean
pub record Stays (mark : ℕ) (before after : List Version) : Type 0 where
  pub cut : (bound : ℕ) → bound ≤ mark → IsCutAt bound before → IsCutAt bound after
  pub clean : (horizon : ℕ) (snapshots : List ℕ) → horizon ≤ mark → IsClean horizon snapshots before → IsClean horizon snapshots after

pub stays_same : (mark : ℕ) (vs : List Version) → Stays mark vs vs
stays_same mark vs = record { cut = λ bound le k. k; clean = λ horizon snapshots le c. c }

pub stays_installed : (mark : ℕ) (w : Writer) (image : Image) (vs : List Version) → Stays mark vs (installed w image vs)
stays_installed mark w image [] = record { cut = λ bound le k. tt; clean = λ horizon snapshots le c. (tt, tt) }
stays_installed mark w image (v ∷ vs) = go v.stamp
  where
    go : (x : Stamp) → Stays mark (record { stamp = x; image = v.image } ∷ vs) (installed w image (record { stamp = x; image = v.image } ∷ vs))
    go (Written by) = record { cut = λ bound le k. k; clean = λ horizon snapshots le c. c }
    go (Numbered n by) = record { cut = λ bound le k. k; clean = λ horizon snapshots le c. (tt, c) }
    go (Oldest n) = record { cut = λ bound le k. k; clean = λ horizon snapshots le c. (tt, c) }

pub stays_undone : (mark : ℕ) (w : Writer) (vs : List Version) → IsOpenBy w vs → Stays mark vs (undone vs)
stays_undone mark w [] o = absurd o
stays_undone mark w (v ∷ vs) o = go v.stamp o
  where
    go : (x : Stamp) → x ≡ Written w → Stays mark (record { stamp = x; image = v.image } ∷ vs) vs
    go (Written by) o = record { cut = λ bound le k. k; clean = λ horizon snapshots le c. c.1 }
    go (Numbered n by) o = absurd (cc)
    go (Oldest n) o = absurd (cc)

pub stays_stamped : (mark : ℕ) (w : Writer) (vs : List Version) → IsOpenBy w vs → Stays mark vs (stamped (suc mark) w vs)
stays_stamped mark w [] o = absurd o
stays_stamped mark w (v ∷ vs) o = go v.stamp o
  where
    over : (horizon : ℕ) (snapshots : List ℕ) (ws : List Version) → horizon ≤ mark → MayAllStay horizon snapshots None ws → MayAllStay horizon snapshots (Some (suc mark)) ws
    over horizon snapshots [] le c = tt
    over horizon snapshots (u ∷ us) le c = (first (stamp_number u.stamp), c.1)
      where
        first : (number : Option ℕ) → MayStay horizon snapshots (Some (suc mark)) number
        first None = tt
        first (Some n) = λ reach. absurd (omega (arith, reach, le))

    go : (x : Stamp) → x ≡ Written w → Stays mark (record { stamp = x; image = v.image } ∷ vs) (record { stamp = Numbered (suc mark) w; image = v.image } ∷ vs)
    go (Written by) o = record {
      cut = λ bound le k. (let high : nat_le (suc mark) bound ≡ false = grind (arith, nat_tests) in rw high k);
      clean = λ horizon snapshots le c. (tt, over horizon snapshots vs le c.1);
    }
    go (Numbered n by) o = absurd (cc)
    go (Oldest n) o = absurd (cc)

pub stays_reclaimed : (mark top : ℕ) (kind : Kind) (table : TableId) (pass : PassRecord) (vs : List Version) → IsOrdered top vs → Stays mark vs (reclaimed kind table pass vs)
stays_reclaimed mark top kind table pass vs o = record {
  cut = λ bound le k. cut_reclaimed bound kind table pass vs k;
  clean = λ horizon snapshots le c. clean_reclaimed top horizon snapshots kind table pass vs o c;
}

-- ---- which versions go

swept_left : (horizon : ℕ) (snapshots : List ℕ) (successor : Option ℕ) (vs : List Version) →
    swept horizon snapshots successor vs ≡ map (λ (e : Option ℕ × Version). e.1) (filter (λ e. not (goes horizon snapshots e.0 (stamp_number e.1.stamp))) (with_successors successor vs))
swept_left horizon snapshots successor [] = refl
swept_left horizon snapshots successor (v ∷ vs) = go (goes horizon snapshots successor (stamp_number v.stamp)) (swept_left horizon snapshots (stamp_number v.stamp) vs)
  where
    rest : List (Option ℕ × Version)
    rest = filter (λ e. not (goes horizon snapshots e.0 (stamp_number e.1.stamp))) (with_successors (stamp_number v.stamp) vs)

    go : (t : Bool) → swept horizon snapshots (stamp_number v.stamp) vs ≡ map (λ (e : Option ℕ × Version). e.1) rest
        → (if t then swept horizon snapshots (stamp_number v.stamp) vs else v ∷ swept horizon snapshots (stamp_number v.stamp) vs) ≡ map (λ (e : Option ℕ × Version). e.1)
        (cond (not t) ((successor, v) ∷ rest) rest)
    go true later = later
    go false later = ap (λ vs. v ∷ vs) later

-- a sweep leaves what doesn't go, and nothing else
pub swept_exactly : (horizon : ℕ) (snapshots : List ℕ) (vs : List Version) → swept horizon snapshots None vs ≡ not_gone horizon snapshots vs
swept_exactly horizon snapshots vs = swept_left horizon snapshots None vs
