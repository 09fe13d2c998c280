-- Heads: the newest version of a place, and a change of it.
use Rattle.std.proofs.Common.{◌≡◌, ◌≢◌, ℕ, zero, suc, ◌<◌, List, [], ◌∷◌, ◌++◌, length, drop, set, true, false, refl, sym, ap, ◌∙◌, subst, arith, inl, inr}
use Rattle.std.specs.Prelude.{IsTrue, ◌⊎◌, if◌then◌else◌}
use Rattle.std.proofs.lemmas.Bool.{cases_eq}
use Rattle.std.proofs.lemmas.Bool.Decides.{nat_tests}
use Rattle.hg_base.specs.declared.writer.Writer.{Writer}
use Rattle.hg_base.specs.declared.image.Image.{Image}
use Rattle.hg_base.proofs.ListFacts.{false_true}
use Rattle.hg_chains.specs.declared.version.Version.{Version}
use Rattle.hg_chains.specs.declared.version.Stamp.TheVariants.{Written, Numbered}
use Rattle.hg_chains.specs.declared.node.Node.{Node}
use Rattle.hg_chains.specs.declared.node.Strand.{Strand}
use Rattle.hg_chains.specs.declared.head.State.{State}
use Rattle.hg_chains.specs.declared.head.State.TheVariants.{Empty, Open, Stamped}
use Rattle.hg_chains.specs.declared.head.Head.{Head}
use Rattle.hg_chains.specs.Versions.{NoOther, is_open_by, open_write, installed, stamped, has_writer}
use Rattle.hg_chains.specs.Strands.{head_at, first_writer, front_by, front_of, node_of, version_in, tail_of, nodes_of, versions_of, chain_of, versions, nodes_along, IsStrand, strand_of, AreStrands, NoneBehind}
use Rattle.hg_chains.proofs.Strands.{head_here, head_apart, recount}

-- ---- one version, or none

pub record Single (vs : List Version) : Type 0 where
  pub first : Version
  pub is : vs ≡ first ∷ []

single_by : (s : State) (by : Writer) (number : ℕ) (image : Image) → (s ≡ Empty) ⊎ Single (front_by s by number image)
single_by Empty by number image = inl refl
single_by Open by number image = inr (record { first = open_write by image; is = refl })
single_by Stamped by number image = inr (record { first = record { stamp = Numbered number by; image = image }; is = refl })

pub single : (h : Head) → (h.state ≡ Empty) ⊎ Single (front_of h)
single h = single_by h.state (first_writer h) h.number h.image

pub none_first : (h : Head) → h.state ≡ Empty → front_of h ≡ []
none_first h e = ap (λ s. front_by s (first_writer h) h.number h.image) e

-- ---- an open write of a transaction

same_writer : (by : Writer) (w : Writer) → has_writer by (Written w) ≡ true → w ≡ by
same_writer by w e = (λ i. record { session = same.0 i; transaction = same.1 i })
  where
    same : (w.session ≡ by.session) × (w.transaction ≡ by.transaction)
    same = (grind (arith, nat_tests), grind (arith, nat_tests))

-- a head whose newest version is an open write of that transaction
pub record Opened (by : Writer) (h : Head) : Type 0 where
  pub state : h.state ≡ Open
  pub writer : first_writer h ≡ by

opened_by : (by : Writer) (s : State) (w : Writer) (number : ℕ) (image : Image) (vs : List Version) → (s ≡ Empty → vs ≡ []) → IsTrue (is_open_by by (front_by s w number image ++ vs)) →
    (s ≡ Open) × (w ≡ by)
opened_by by Empty w number image vs none h = absurd (false_true (sym (ap (is_open_by by) (none refl)) ∙ h))
opened_by by Open w number image vs none h = (refl, same_writer by w h)
opened_by by Stamped w number image vs none h = absurd (false_true h)

pub opened : (by : Writer) (h : Head) (vs : List Version) → (h.state ≡ Empty → vs ≡ []) → IsTrue (is_open_by by (front_of h ++ vs)) → Opened by h
opened by h vs none e = let o = opened_by by h.state (first_writer h) h.number h.image vs none e in record { state = o.0; writer = o.1 }

-- the newest version, with another image
pub reimaged : (by : Writer) (image : Image) (h : Head) (vs : List Version) → Opened by h → IsTrue (is_open_by by (front_of h ++ vs)) →
    front_of (record h { image = image }) ++ vs ≡ installed by image (front_of h ++ vs)
reimaged by image h vs o is =
    (λ i. front_by (o.state i) (o.writer i) h.number image ++ vs)
    ∙ (λ i. open_write by image ∷ drop 1 (front_by (sym o.state i) (first_writer h) h.number h.image ++ vs))
    ∙ sym (ap (λ b. open_write by image ∷ (if b then drop 1 (front_of h ++ vs) else front_of h ++ vs)) is)

-- and with a number
pub renumbered : (by : Writer) (number : ℕ) (h : Head) (vs : List Version) → Opened by h → front_of (record h { state = Stamped; number = number }) ++ vs ≡ stamped by number (front_of h ++ vs)
renumbered by number h vs o =
    ap (λ (w : Writer). let v : Version = record { stamp = Numbered number w; image = h.image } in v ∷ vs) o.writer
    ∙ (λ i. stamped by number (front_by (sym o.state i) (first_writer h) h.number h.image ++ vs))

-- ---- a head is changed

-- all but the strand stays
pub strand_set : (heads : List Head) (p : ℕ) (s : Strand) → p < length heads → (q : ℕ) →
    head_at (set heads p (record (head_at heads p) { strand = s })) q ≡ record (head_at heads q) { strand = (head_at (set heads p (record (head_at heads p) { strand = s })) q).strand }
strand_set heads p s within q = go (cases_eq q p)
  where
    new : Head
    new = record (head_at heads p) { strand = s }

    here : head_at (set heads p new) p ≡ new
    here = head_here heads p new within

    go : (q ≡ p) ⊎ (q ≡ p → ⊥) → head_at (set heads p new) q ≡ record (head_at heads q) { strand = (head_at (set heads p new) q).strand }
    go (inl e) = subst (λ r. head_at (set heads p new) r ≡ record (head_at heads r) { strand = (head_at (set heads p new) r).strand }) (sym e)
        (here ∙ ap (λ (h : Head). record (head_at heads p) { strand = h.strand }) (sym here))
    go (inr apart) = let e = head_apart heads p q new apart in e ∙ ap (λ (h : Head). record (head_at heads q) { strand = h.strand }) (sym e)

pub behind_set : (heads : List Head) (p : ℕ) (h : Head) → NoneBehind heads → p < length heads → (h.state ≡ Empty → h.strand.count ≡ 0) → NoneBehind (set heads p h)
behind_set heads p h b within none q = go (cases_eq q p)
  where
    go : (q ≡ p) ⊎ (q ≡ p → ⊥) → (head_at (set heads p h) q).state ≡ Empty → (head_at (set heads p h) q).strand.count ≡ 0
    go (inl e) = subst (λ (x : Head). x.state ≡ Empty → x.strand.count ≡ 0) (sym (ap (head_at (set heads p h)) e ∙ head_here heads p h within)) none
    go (inr apart) = subst (λ (x : Head). x.state ≡ Empty → x.strand.count ≡ 0) (sym (head_apart heads p q h apart)) (b q)

-- the strand stays
pub strands_same : (heads : List Head) (nodes : List Node) (free : Strand) → AreStrands heads nodes free → (p : ℕ) (h : Head) → p < length heads → h.strand ≡ (head_at heads p).strand →
    AreStrands (set heads p h) nodes free
strands_same heads nodes free a p h within same =
    record {
      owner = a.owner;
      rank = a.rank;
      top = a.top;
      strands = strands;
      all = (let e = recount heads p h within in let all = a.all in let k = ap (λ (s : Strand). s.count) same in omega (arith, e, all, k));
      fits = a.fits;
    }
  where
    stays : (q : ℕ) → (q ≡ p) ⊎ (q ≡ p → ⊥) → (head_at (set heads p h) q).strand ≡ (head_at heads q).strand
    stays q (inl e) = ap (λ r. (head_at (set heads p h) r).strand) e ∙ ap (λ (x : Head). x.strand) (head_here heads p h within) ∙ same ∙ sym (ap (λ r. (head_at heads r).strand) e)
    stays q (inr apart) = ap (λ (x : Head). x.strand) (head_apart heads p q h apart)

    strands : (who : ℕ) → IsStrand nodes a.owner a.rank who (a.top who) (strand_of (set heads p h) free who).count (strand_of (set heads p h) free who).first
    strands zero = a.strands 0
    strands (suc q) = subst (λ (s : Strand). IsStrand nodes a.owner a.rank (suc q) (a.top (suc q)) s.count s.first) (sym (stays q (cases_eq q p))) (a.strands (suc q))

-- another version comes to a head, or none: its strand stays
pub record Swapped (heads : List Head) (nodes : List Node) (free : Strand) (p : ℕ) (h : Head) : Type 0 where
  pub strands : AreStrands (set heads p h) nodes free
  pub behind : NoneBehind (set heads p h)
  pub here : versions_of nodes (head_at (set heads p h) p) ≡ front_of h ++ tail_of nodes (head_at heads p)
  pub stay : nodes_of nodes (head_at (set heads p h) p) ≡ nodes_of nodes (head_at heads p)
  pub others : (q : ℕ) → q ≢ p → chain_of nodes (head_at (set heads p h) q) ≡ chain_of nodes (head_at heads q)

pub swapped : (heads : List Head) (nodes : List Node) (free : Strand) → AreStrands heads nodes free → NoneBehind heads → (p : ℕ) (h : Head) → p < length heads → h.strand ≡ (head_at heads p).strand →
    (h.state ≡ Empty → (head_at heads p).strand.count ≡ 0) → Swapped heads nodes free p h
swapped heads nodes free a b p h within same none =
    let now = head_here heads p h within in
    record {
      strands = strands_same heads nodes free a p h within same;
      behind = behind_set heads p h b within (λ e. ap (λ (s : Strand). s.count) same ∙ none e);
      here = ap (versions_of nodes) now ∙ ap (λ (s : Strand). front_of h ++ versions nodes s.count s.first) same;
      stay = ap (nodes_of nodes) now ∙ ap (λ (s : Strand). nodes_along nodes s.count s.first) same;
      others = λ q apart. ap (chain_of nodes) (head_apart heads p q h apart);
    }

-- ---- an open write of no other transaction

closed_by : (by : Writer) (s : State) (w : Writer) (number : ℕ) (image : Image) (vs : List Version) → NoOther by (front_by s w number image ++ vs) →
    is_open_by by (front_by s w number image ++ vs) ≡ false → s ≡ Open → ⊥
closed_by by Empty w number image vs h f e = absurd (let k = e in cc)
closed_by by Open w number image vs h f e = false_true (sym f ∙ h.0)
closed_by by Stamped w number image vs h f e = absurd (let k = e in cc)

pub closed : (by : Writer) (h : Head) (vs : List Version) → NoOther by (front_of h ++ vs) → is_open_by by (front_of h ++ vs) ≡ false → h.state ≡ Open → ⊥
closed by h vs n f e = closed_by by h.state (first_writer h) h.number h.image vs n f e

pub stamped_first : (h : Head) → h.state ≡ Stamped → front_of h ≡ version_in (node_of h) ∷ []
stamped_first h e = ap (λ s. front_by s (first_writer h) h.number h.image) e
