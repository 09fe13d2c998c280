-- What a state shows of a write that is decided there: nobody else has the record open, and no newer group wrote it.
use Rattle.std.proofs.Common.{◌≡◌, ◌⊎◌, inl, inr, ℕ, ◌≤◌, List, [], ◌∷◌, Bool, true, false, ◌||◌, ◌&&◌, ◌==◌, Option, None, Some, refl, sym, ap, ◌∙◌, cond, subst, arith}
use Rattle.std.specs.Prelude.{nat_le, IsSome, IsTrue, IfSome, is_some, option_map}
use Rattle.std.specs.List.{list_any}
use Rattle.std.specs.Option.{option_or}
use Rattle.std.proofs.lemmas.Bool.Decides.{nat_tests}
use Rattle.std.proofs.lemmas.Option.{none-some}
use Rattle.hg_base.specs.declared.rid.Rid.{Rid}
use Rattle.hg_base.specs.declared.scope.Scope.{Scope}
use Rattle.hg_base.specs.declared.image.Image.{Image}
use Rattle.hg_base.specs.declared.writer.Writer.{Writer}
use Rattle.hg_base.specs.declared.line.Answer.TheVariants.{Newer, OpenBy}
use Rattle.hg_base.specs.Lists.{Each}
use Rattle.hg_base.specs.History.{Group, group_at, group_image, image_in, same_writer, writes}
use Rattle.hg_base.specs.Transcript.{has}
use Rattle.hg_core.specs.declared.log.LogEntry.{LogEntry}
use Rattle.hg_core.specs.declared.phase.Phase.TheVariants.{Live}
use Rattle.hg_core.specs.declared.version.Version.{Version}
use Rattle.hg_core.specs.Logs.{begun_in, current, is_plain, open_in}
use Rattle.hg_core.specs.Phases.{snapshot_in}
use Rattle.hg_core.specs.Versions.{newest_at, unpublished}
use Rattle.hg_core.specs.Contents.{versions}
use Rattle.hg_core.specs.OpenWrites.{writer_of}
use Rattle.hg_core.specs.Covered.{Reads}
use Rattle.hg_core.specs.Judged.{of_session}
use Rattle.hg_core.specs.Replies.{refused_by, refused_over, refusal}
use Rattle.hg_core.specs.Shown.{HasOpen, IsNewestIn, NoOtherHas}
use Rattle.hg_core.specs.State.{CoreState}
use Rattle.hg_core.specs.Invariant.{IsSteady}
use Rattle.hg_core.proofs.Covering.{none_newer}
use Rattle.hg_core.proofs.NewGroup.{image_open}
use Rattle.hg_core.proofs.Past.{last_bounds}
use Rattle.hg_core.proofs.Shows.{group_does, writer_same}
use Rattle.hg_core.proofs.Updates.{some_is}

-- ---- what is open in a log

pub is_open : (log : List LogEntry) (r : Rid) → IsTrue (is_plain log) → IsSome (current log) → IsSome (open_in r log) → HasOpen log r
is_open log r plain now some = (now, subst (λ (o : Option Image). IsSome o) (sym (image_open r log plain)) some)

pub not_open : (log : List LogEntry) (r : Rid) → IsTrue (is_plain log) → open_in r log ≡ None → HasOpen log r → ⊥
not_open log r plain none h = let z : false ≡ true = ap (λ (o : Option Image). is_some o) (sym (image_open r log plain ∙ none)) ∙ h.1 in absurd (let q = z in cc)

-- ---- what a session commits, its group does

pub some_either : (o p : Option Image) → IsSome p → IsSome (option_or o p)
some_either None p k = k
some_either (Some i) p k = refl

pub some_keeps : (o p q : Option Image) → (IsSome p → IsSome q) → IsSome (option_or o p) → IsSome (option_or o q)
some_keeps None p q f k = f k
some_keeps (Some i) p q f k = refl

-- what one session writes in a group, the group does
pub of_all : (r : Rid) (j : ℕ) (g : Group) → IsSome (group_image r (of_session j g)) → IsSome (group_image r g)
of_all r j [] e = e
of_all r j (c ∷ cs) e = go (c.session == j) e (of_all r j cs)
  where
    go : (b : Bool) → IsSome (group_image r (cond b (c ∷ of_session j cs) (of_session j cs))) → (IsSome (group_image r (of_session j cs)) → IsSome (group_image r cs)) →
        IsSome (option_or (image_in r c.images) (group_image r cs))
    go true k later = some_keeps (image_in r c.images) (group_image r (of_session j cs)) (group_image r cs) later k
    go false k later = some_either (image_in r c.images) (group_image r cs) (later k)

any_within : (n c : ℕ) (ws : List (ℕ × Image)) → list_any (λ (w : ℕ × Image). w.0 == n) ws ≡ true → Each (λ (w : ℕ × Image). w.0 ≤ c) ws → n ≤ c
any_within n c [] e most = cc
any_within n c (w ∷ ws) e most = go (w.0 == n) refl e (λ k. any_within n c ws k most.1)
  where
    go : (b : Bool) → (w.0 == n) ≡ b → (b || list_any (λ (v : ℕ × Image). v.0 == n) ws) ≡ true → (list_any (λ (v : ℕ × Image). v.0 == n) ws ≡ true → n ≤ c) → n ≤ c
    go true same t later = let m = most.0 in grind (arith, nat_tests, same, m)
    go false same t later = later t

newest_in : (s : CoreState) → IsSteady s → (r : Rid) (c : ℕ) → Each (λ (w : ℕ × Image). w.0 ≤ c) (writes s.history r) → IsNewestIn s.log r c
newest_in s h r c most k n e =
    let some = some_is (group_image r (group_at s.history n)) (of_all r k (group_at s.history n) (subst (λ g. IsSome (group_image r g)) (sym (h.logs_answer.commits n k)) e)) in
    any_within n c (writes s.history r) (group_does 1 s.history r n some.0 some.1) most

-- ---- a write that is decided in a state

apart_writers : (o w : Writer) → (o.session ≡ w.session → ⊥) → same_writer o w ≡ false
apart_writers o w other = go (o.session == w.session) refl
  where
    go : (b : Bool) → (o.session == w.session) ≡ b → (b && (o.transaction == w.transaction)) ≡ false
    go true e = absurd (other (grind (arith, nat_tests)))
    go false e = refl

module _ (s : CoreState) (h : IsSteady s) (j at : ℕ) (scope : Scope) (r : Rid) (live : s.phase j ≡ Live at scope) (table : IsTrue (has scope r.table)) where
  abbrev vs : List Version
  vs = versions s.buckets s.bucket r

  abbrev w : Writer
  w = writer_of (begun_in s.log) j

  -- another's open write refuses it
  theirs : (k : ℕ) (image : Image) → (k ≡ j → ⊥) → open_in r (s.log k) ≡ Some image → refusal s.mark w at vs ≡ Some (OpenBy (writer_of (begun_in s.log) k))
  theirs k image other e =
      let o : Writer = writer_of (begun_in s.log) k in
      let apart : same_writer o w ≡ false = apart_writers o w other in
      ap (λ p. refused_by w p (refused_over at (newest_at s.mark vs))) (h.open_writes_stand.owns r k image e) ∙ ap (λ b. cond b None (Some (OpenBy o))) apart

  no_other : ((o : Writer) → refusal s.mark w at vs ≡ Some (OpenBy o) → ⊥) → NoOtherHas s.log j r
  no_other none k other = go (open_in r (s.log k)) refl
    where
      go : (x : Option Image) → open_in r (s.log k) ≡ x → x ≡ None
      go None e = refl
      go (Some image) e = absurd (none (writer_of (begun_in s.log) k) (theirs k image other e))

  pub first_newer : (c : ℕ) → refusal s.mark w at vs ≡ Some (Newer c) → NoOtherHas s.log j r × IsNewestIn s.log r c
  first_newer c e = (
    no_other (λ o f. let k = sym e ∙ f in cc),
    newest_in s h r c (last_bounds 1 c s.history r (λ p last. elim (h.covered r).newest [
      | inl q ↦ (let same = names (unpublished s.mark vs) (newest_at s.mark vs) e in let k : Some p.0 ≡ Some c = sym (ap (option_map (λ (x : ℕ × Image). x.0)) last) ∙ sym q ∙
          same in let l : p.0 ≡ c = cc in omega (arith, l))
      | inr q ↦ (let same = names (unpublished s.mark vs) (newest_at s.mark vs) e in let k : None ≡ Some c = sym (ap (option_map (λ (x : ℕ × Image). x.0)) q.0) ∙ same in cc)
    ])),
  )
    where
      names : (o : Option (Writer × Image)) (p : Option (ℕ × Image)) → refused_by w o (refused_over at p) ≡ Some (Newer c) → option_map (λ (x : ℕ × Image). x.0) p ≡ Some c
      names None None e = absurd (none-some (Newer c) e)
      names None (Some p) e = by_size (nat_le p.0 at) e
        where
          by_size : (b : Bool) → cond b None (Some (Newer p.0)) ≡ Some (Newer c) → Some p.0 ≡ Some c
          by_size true e = absurd (none-some (Newer c) e)
          by_size false e = let l : p.0 ≡ c = cc in ap (λ n. Some n) l
      names (Some o) p e = by_owner (same_writer o.0 w) e
        where
          by_owner : (b : Bool) → cond b None (Some (OpenBy o.0)) ≡ Some (Newer c) → option_map (λ (x : ℕ × Image). x.0) p ≡ Some c
          by_owner true e = absurd (none-some (Newer c) e)
          by_owner false e = absurd cc

  pub first_stored : IsTrue (is_plain (s.log j)) → refusal s.mark w at vs ≡ None → HasOpen (s.log j) r ⊎ (NoOtherHas s.log j r × IsNewestIn s.log r at)
  first_stored plain e = go (unpublished s.mark vs) refl e
    where
      none : (o : Writer) → refusal s.mark w at vs ≡ Some (OpenBy o) → ⊥
      none o f = none-some (OpenBy o) (sym e ∙ f)

      seen : (p : Option (ℕ × Image)) → refused_over at p ≡ None → IfSome p (λ pair. pair.0 ≤ at)
      seen None k = tt
      seen (Some p) k = by_size (nat_le p.0 at) refl k
        where
          by_size : (b : Bool) → nat_le p.0 at ≡ b → cond b None (Some (Newer p.0)) ≡ None → p.0 ≤ at
          by_size true f k = grind (arith, nat_tests, f)
          by_size false f k = absurd (none-some (Newer p.0) (sym k))

      go : (o : Option (Writer × Image)) → unpublished s.mark vs ≡ o → refused_by w o (refused_over at (newest_at s.mark vs)) ≡ None →
          HasOpen (s.log j) r ⊎ (NoOtherHas s.log j r × IsNewestIn s.log r at)
      go None is k = inr (
        no_other none,
        newest_in s h r at (none_newer s.mark s.phase s.history r vs at (h.covered r)
            (inr (j, subst (λ p. Reads r.table p at) (sym live) (refl, table))) (seen (newest_at s.mark vs) k)),
      )
      go (Some o) is k = by_owner (same_writer o.0 w) refl k
        where
          by_owner : (b : Bool) → same_writer o.0 w ≡ b → cond b None (Some (OpenBy o.0)) ≡ None → HasOpen (s.log j) r ⊎ (NoOtherHas s.log j r × IsNewestIn s.log r at)
          by_owner false f k = absurd (none-some (OpenBy o.0) (sym k))
          by_owner true f k =
              let same : o.0 ≡ w = writer_same o.0 w f in
              let own : open_in r (s.log j) ≡ Some o.1 = (λ i. open_in r (s.log (sym (ap (λ (x : Writer). x.session) same) i))) ∙ (h.open_writes_stand.owned r o.0 o.1 is).1 in
              let reads : current (s.log j) ≡ snapshot_in (Live at scope) = h.logs_answer.reads j ∙ ap snapshot_in live in
              inl (is_open (s.log j) r plain (subst (λ c. IsSome c) (sym reads) refl) (ap is_some own))
