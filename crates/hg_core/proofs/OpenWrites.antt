-- The open writes stand, and the stamped list is exact, after each event that touches a record's versions.
use Rattle.std.proofs.Common.{◌≡◌, ℕ, suc, List, [], ◌∷◌, Option, None, Some, Bool, true, false, ◌&&◌, ◌||◌, ◌==◌, ◌⊎◌, inl, inr, refl, sym, ap, ◌∙◌, subst, arith}
use Rattle.std.specs.Prelude.{IsSome, IsTrue}
use Rattle.std.proofs.lemmas.Bool.Decides.{nat_tests}
use Rattle.hg_base.specs.declared.rid.Rid.{Rid}
use Rattle.hg_base.specs.declared.writer.Writer.{Writer}
use Rattle.hg_base.specs.declared.image.Image.{Image}
use Rattle.hg_base.specs.History.{same_rid}
use Rattle.hg_base.proofs.HistoryFacts.{same_rid_equal}
use Rattle.hg_core.specs.declared.version.Version.{Version}
use Rattle.hg_core.specs.Versions.{is_numbered, unpublished, installed, undone, stamped, IsFreeFor}
use Rattle.hg_core.specs.Contents.{Content, versions, stored, is_stamped, has_stamped}
use Rattle.hg_core.specs.OpenWrites.{writer_of, OpenWritesStand, StampedIsNext}
use Rattle.hg_core.proofs.Indices.{at_index}
use Rattle.hg_core.proofs.Records.{at_record}
use Rattle.hg_core.proofs.Versions.{same_pair, installed_unpublished, installed_unnumbered, free_owner, IsOpened}

-- ---- the stamped list

pub none_stamped : (j : ℕ) (r : Rid) (list : List (ℕ × Rid)) → has_stamped j list ≡ false → is_stamped j r list ≡ false
none_stamped j r [] e = refl
none_stamped j r (x ∷ list) e = step (x.0 == j) (same_rid x.1 r) (is_stamped j r list) (has_stamped j list) e (none_stamped j r list)
  where
    step : (a b c d : Bool) → (a || d) ≡ false → (d ≡ false → c ≡ false) → ((a && b) || c) ≡ false
    step a b c d e f = grind arith

pub stamped_has : (j : ℕ) (r : Rid) (list : List (ℕ × Rid)) → is_stamped j r list ≡ true → has_stamped j list ≡ true
stamped_has j r [] e = e
stamped_has j r (x ∷ list) e = step (x.0 == j) (same_rid x.1 r) (is_stamped j r list) (has_stamped j list) e (λ k. stamped_has j r list k)
  where
    step : (a b c d : Bool) → ((a && b) || c) ≡ true → (c ≡ true → d ≡ true) → (a || d) ≡ true
    step a b c d e f = grind arith

pub stamped_here : (j : ℕ) (r : Rid) (list : List (ℕ × Rid)) → is_stamped j r ((j, r) ∷ list) ≡ true
stamped_here j r list = grind (arith, nat_tests)

pub stamped_other : (k j : ℕ) (q r : Rid) (list : List (ℕ × Rid)) → same_rid r q ≡ false → is_stamped k q ((j, r) ∷ list) ≡ is_stamped k q list
stamped_other k j q r list e = step (j == k) (same_rid r q) (is_stamped k q list) e
  where
    step : (a b c : Bool) → b ≡ false → ((a && b) || c) ≡ c
    step a b c e = grind arith

pub stamped_cases : (k j : ℕ) (q r : Rid) (list : List (ℕ × Rid)) → is_stamped k q ((j, r) ∷ list) ≡ true → (((j == k) ≡ true) × (same_rid r q ≡ true)) ⊎ (is_stamped k q list ≡ true)
stamped_cases k j q r list e = step (j == k) (same_rid r q) (is_stamped k q list) e
  where
    step : (a b c : Bool) → ((a && b) || c) ≡ true → ((a ≡ true) × (b ≡ true)) ⊎ (c ≡ true)
    step true true c e = inl (refl, refl)
    step true false c e = inr e
    step false b c e = inr e

-- ---- open writes that change at most in one record of one session

pub record OnlyWrite (opened opened' : ℕ → Rid → Option Image) (j : ℕ) (r : Rid) (o : Option Image) : Type 0 where
  pub here : opened' j r ≡ o
  pub same : (q : Rid) → same_rid r q ≡ false → opened' j q ≡ opened j q
  pub there : (k : ℕ) → (k ≡ j → ⊥) → (q : Rid) → opened' k q ≡ opened k q

others : (opened opened' : ℕ → Rid → Option Image) (j : ℕ) (r : Rid) (o : Option Image) → OnlyWrite opened opened' j r o → (q : Rid) → same_rid r q ≡ false → (k : ℕ) → opened' k q ≡ opened k q
others opened opened' j r o f q other = at_index j (λ k. opened' k q ≡ opened k q) (f.same q other) (λ k apart. f.there k apart q)

-- the same open writes, of transactions with the same numbers
pub stand_alike : (mark : ℕ) (begun begun' : ℕ → ℕ) (opened opened' : ℕ → Rid → Option Image) (held : Rid → List Version) → ((j : ℕ) (r : Rid) → opened' j r ≡ opened j r) →
    ((j : ℕ) (r : Rid) (i : Image) → opened j r ≡ Some i → begun' j ≡ begun j) → OpenWritesStand mark begun opened held → OpenWritesStand mark begun' opened' held
stand_alike mark begun begun' opened opened' held same number h = record {
  owned = λ r w i e. let own = h.owned r w i e in (own.0 ∙ ap (λ n. writer w.session n) (sym (number w.session r i own.1)), same w.session r ∙ own.1);
  owns = λ r j i e. let was : opened j r ≡ Some i = sym (same j r) ∙ e in h.owns r j i was ∙ ap (λ n. Some (writer j n, i)) (sym (number j r i was));
}
  where
    writer : ℕ → ℕ → Writer
    writer j n = record { session = j; transaction = n }

pub next_alike : (mark : ℕ) (opened opened' : ℕ → Rid → Option Image) (held : Rid → List Version) (list : List (ℕ × Rid)) → ((j : ℕ) (r : Rid) → opened' j r ≡ opened j r) →
    StampedIsNext mark opened held list → StampedIsNext mark opened' held list
next_alike mark opened opened' held list same h = record { exact = h.exact; standing = λ j r e. subst IsSome (sym (same j r)) (h.standing j r e) }

-- ---- an install

pub stand_installed : (mark buckets : ℕ) (bucket : ℕ → Content) (begun : ℕ → ℕ) (opened opened' : ℕ → Rid → Option Image) (j : ℕ) (r : Rid) (image : Image)
    → IsFreeFor mark (writer_of begun j) (versions buckets bucket r)
    → OnlyWrite opened opened' j r (Some image)
    → OpenWritesStand mark begun opened (versions buckets bucket)
    → OpenWritesStand mark begun opened' (versions buckets (stored buckets bucket r (installed (writer_of begun j) image (versions buckets bucket r))))
stand_installed mark buckets bucket begun opened opened' j r image free f h =
    let w : Writer = writer_of begun j in
    let vs : List Version = installed w image (versions buckets bucket r) in
    record {
      owned = at_record buckets bucket r vs (λ q c. (o : Writer) (i : Image) → unpublished mark c ≡ Some (o, i) → (o ≡ writer_of begun o.session) × (opened' o.session q ≡ Some i))
          (λ o i e.
          let both = same_pair (w, image) (o, i) (sym (installed_unpublished mark w image (versions buckets bucket r)) ∙ e) in
          let mine : w ≡ o = ap (λ x. x.0) both in (
            subst (λ (x : Writer). x ≡ writer_of begun x.session) mine refl,
            subst (λ (x : Writer). opened' x.session r ≡ Some i) mine (f.here ∙ ap (λ x. Some x.1) both),
          ))
          (λ q other o i e. let own = h.owned q o i e in (own.0, others opened opened' j r (Some image) f q other o.session ∙ own.1));
      owns = at_record buckets bucket r vs (λ q c. (k : ℕ) (i : Image) → opened' k q ≡ Some i → unpublished mark c ≡ Some (writer_of begun k, i))
          (at_index j (λ k. (i : Image) → opened' k r ≡ Some i → unpublished mark vs ≡ Some (writer_of begun k, i))
          (λ i e. installed_unpublished mark w image (versions buckets bucket r) ∙ ap (λ x. Some (w, x)) (let z : Some image ≡ Some i = sym f.here ∙ e in cc))
          (λ k apart i e. absurd (apart (ap (λ x. x.session) (free_owner mark w (writer_of begun k) i (versions buckets bucket r) free (h.owns r k i (sym (f.there k apart r) ∙ e)))))))
          (λ q other k i e. h.owns q k i (sym (others opened opened' j r (Some image) f q other k) ∙ e));
    }

-- no write of the session is stamped, so none of its writes is in the list
standing_others : (mark : ℕ) (opened opened' : ℕ → Rid → Option Image) (held : Rid → List Version) (j : ℕ) (list : List (ℕ × Rid)) → has_stamped j list ≡ false →
    ((k : ℕ) → (k ≡ j → ⊥) → (q : Rid) → opened' k q ≡ opened k q) → StampedIsNext mark opened held list → (k : ℕ) (q : Rid) → IsTrue (is_stamped k q list) → IsSome (opened' k q)
standing_others mark opened opened' held j list none there h = at_index j (λ k. (q : Rid) → IsTrue (is_stamped k q list) → IsSome (opened' k q))
    (λ q e. absurd (let z = none_stamped j q list none in cc)) (λ k apart q e. subst IsSome (sym (there k apart q)) (h.standing k q e))

pub next_installed : (mark buckets : ℕ) (bucket : ℕ → Content) (begun : ℕ → ℕ) (opened opened' : ℕ → Rid → Option Image) (j : ℕ) (r : Rid) (image : Image) (list : List (ℕ × Rid))
    → has_stamped j list ≡ false
    → OnlyWrite opened opened' j r (Some image)
    → StampedIsNext mark opened (versions buckets bucket) list
    → StampedIsNext mark opened' (versions buckets (stored buckets bucket r (installed (writer_of begun j) image (versions buckets bucket r)))) list
next_installed mark buckets bucket begun opened opened' j r image list none f h =
    let w : Writer = writer_of begun j in
    let vs : List Version = installed w image (versions buckets bucket r) in
    record {
      exact = at_record buckets bucket r vs (λ q c. (o : Writer) (i : Image) → unpublished mark c ≡ Some (o, i) → is_numbered c ≡ is_stamped o.session q list)
          (λ o i e.
          let mine : w ≡ o = ap (λ x. x.0) (same_pair (w, image) (o, i) (sym (installed_unpublished mark w image (versions buckets bucket r)) ∙ e)) in
          subst (λ (x : Writer). is_numbered vs ≡ is_stamped x.session r list) mine (installed_unnumbered w image (versions buckets bucket r) ∙ sym (none_stamped j r list none)))
          (λ q other. h.exact q);
      standing = standing_others mark opened opened' (versions buckets bucket) j list none f.there h;
    }

-- ---- an undo

pub stand_undone : (mark buckets : ℕ) (bucket : ℕ → Content) (begun : ℕ → ℕ) (opened opened' : ℕ → Rid → Option Image) (j : ℕ) (r : Rid)
    → IsOpened mark (writer_of begun j) (versions buckets bucket r)
    → OnlyWrite opened opened' j r None
    → OpenWritesStand mark begun opened (versions buckets bucket)
    → OpenWritesStand mark begun opened' (versions buckets (stored buckets bucket r (undone (versions buckets bucket r))))
stand_undone mark buckets bucket begun opened opened' j r was f h =
    let vs : List Version = undone (versions buckets bucket r) in
    record {
      owned = at_record buckets bucket r vs (λ q c. (o : Writer) (i : Image) → unpublished mark c ≡ Some (o, i) → (o ≡ writer_of begun o.session) × (opened' o.session q ≡ Some i))
          (λ o i e. absurd (let z = was.none_undone in cc))
          (λ q other o i e. let own = h.owned q o i e in (own.0, others opened opened' j r None f q other o.session ∙ own.1));
      owns = at_record buckets bucket r vs (λ q c. (k : ℕ) (i : Image) → opened' k q ≡ Some i → unpublished mark c ≡ Some (writer_of begun k, i))
          (at_index j (λ k. (i : Image) → opened' k r ≡ Some i → unpublished mark vs ≡ Some (writer_of begun k, i))
          (λ i e. absurd (let z = f.here in cc))
          (λ k apart i e. absurd (apart (ap (λ x. x.0.session) (same_pair (writer_of begun k, i) (writer_of begun j, was.image) (sym (h.owns r k i (sym (f.there k apart r) ∙ e)) ∙ was.owned))))))
          (λ q other k i e. h.owns q k i (sym (others opened opened' j r None f q other k) ∙ e));
    }

pub next_undone : (mark buckets : ℕ) (bucket : ℕ → Content) (begun : ℕ → ℕ) (opened opened' : ℕ → Rid → Option Image) (j : ℕ) (r : Rid) (list : List (ℕ × Rid))
    → has_stamped j list ≡ false
    → IsOpened mark (writer_of begun j) (versions buckets bucket r)
    → OnlyWrite opened opened' j r None
    → StampedIsNext mark opened (versions buckets bucket) list
    → StampedIsNext mark opened' (versions buckets (stored buckets bucket r (undone (versions buckets bucket r)))) list
next_undone mark buckets bucket begun opened opened' j r list none was f h = record {
  exact = at_record buckets bucket r (undone (versions buckets bucket r)) (λ q c. (o : Writer) (i : Image) → unpublished mark c ≡ Some (o, i) → is_numbered c ≡ is_stamped o.session q list)
      (λ o i e. absurd (let z = was.none_undone in cc))
      (λ q other. h.exact q);
  standing = standing_others mark opened opened' (versions buckets bucket) j list none f.there h;
}

-- ---- a stamp

pub stand_stamped : (mark buckets : ℕ) (bucket : ℕ → Content) (begun : ℕ → ℕ) (opened : ℕ → Rid → Option Image) (j : ℕ) (r : Rid)
    → IsOpened mark (writer_of begun j) (versions buckets bucket r)
    → OpenWritesStand mark begun opened (versions buckets bucket)
    → OpenWritesStand mark begun opened (versions buckets (stored buckets bucket r (stamped (suc mark) (writer_of begun j) (versions buckets bucket r))))
stand_stamped mark buckets bucket begun opened j r was h =
    let vs : List Version = stamped (suc mark) (writer_of begun j) (versions buckets bucket r) in
    record {
      owned = at_record buckets bucket r vs (λ q c. (o : Writer) (i : Image) → unpublished mark c ≡ Some (o, i) → (o ≡ writer_of begun o.session) × (opened o.session q ≡ Some i))
          (λ o i e. h.owned r o i (sym was.owned_stamped ∙ e)) (λ q other. h.owned q);
      owns = at_record buckets bucket r vs (λ q c. (k : ℕ) (i : Image) → opened k q ≡ Some i → unpublished mark c ≡ Some (writer_of begun k, i))
          (λ k i e. was.owned_stamped ∙ h.owns r k i e) (λ q other. h.owns q);
    }

pub next_stamped : (mark buckets : ℕ) (bucket : ℕ → Content) (begun : ℕ → ℕ) (opened : ℕ → Rid → Option Image) (j : ℕ) (r : Rid) (list : List (ℕ × Rid))
    → IsOpened mark (writer_of begun j) (versions buckets bucket r)
    → OpenWritesStand mark begun opened (versions buckets bucket)
    → StampedIsNext mark opened (versions buckets bucket) list
    → StampedIsNext mark opened (versions buckets (stored buckets bucket r (stamped (suc mark) (writer_of begun j) (versions buckets bucket r)))) ((j, r) ∷ list)
next_stamped mark buckets bucket begun opened j r list was o h =
    let w : Writer = writer_of begun j in
    let vs : List Version = stamped (suc mark) w (versions buckets bucket r) in
    record {
      exact = at_record buckets bucket r vs (λ q c. (o : Writer) (i : Image) → unpublished mark c ≡ Some (o, i) → is_numbered c ≡ is_stamped o.session q ((j, r) ∷ list))
          (λ o i e.
          let mine : w ≡ o = ap (λ x. x.0) (same_pair (w, was.image) (o, i) (sym was.owned ∙ sym was.owned_stamped ∙ e)) in
          subst (λ (x : Writer). is_numbered vs ≡ is_stamped x.session r ((j, r) ∷ list)) mine (was.numbered_stamped ∙ sym (stamped_here j r list)))
          (λ q other o i e. h.exact q o i e ∙ sym (stamped_other o.session j q r list other));
      standing = λ k q e. elim (stamped_cases k j q r list e) [
        | inl x ↦ (let same : j ≡ k = grind (arith, nat_tests, x.0) in
            let mine : opened j r ≡ Some was.image = (o.owned r w was.image was.owned).1 in
            subst (λ z. IsSome (opened z q)) same (subst (λ z. IsSome (opened j z)) (same_rid_equal r q x.1) (subst IsSome (sym mine) refl)))
        | inr x ↦ h.standing k q x
      ];
    }
