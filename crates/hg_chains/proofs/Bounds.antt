-- The first version at a bound: the newest, or one of the others.
use Rattle.std.proofs.Common.{◌≡◌, ℕ, zero, suc, ◌+◌, ◌-◌, ◌<◌, ◌≤◌, List, [], ◌∷◌, ◌++◌, length, take, true, false, not, cond, Some, None, refl, sym, ap, ◌∙◌, subst, arith, inl, inr}
use Rattle.std.specs.Prelude.{◌⊎◌, option_map, option_and_then, filter, find, nat_le}
use Rattle.std.specs.List.{slice_get}
use Rattle.std.proofs.lemmas.List.{take_all}
use Rattle.std.proofs.lemmas.List.Sums.{length-filter}
use Rattle.std.proofs.lemmas.Option.{slice_get-get_or}
use Rattle.hg_base.specs.declared.writer.Writer.{Writer}
use Rattle.hg_base.specs.declared.image.Image.{Image}
use Rattle.hg_base.proofs.ListFacts.{false_true}
use Rattle.hg_chains.specs.declared.version.Stamp.TheVariants.{Numbered}
use Rattle.hg_chains.specs.declared.version.Version.{Version}
use Rattle.hg_chains.specs.declared.head.State.{State}
use Rattle.hg_chains.specs.declared.head.State.TheVariants.{Empty, Open, Stamped}
use Rattle.hg_chains.specs.declared.head.Head.{Head}
use Rattle.hg_chains.specs.declared.cursor.Cursor.{Cursor}
use Rattle.hg_chains.specs.declared.arena.Arena.{Arena}
use Rattle.hg_chains.specs.Versions.{IsChain, begins_at_most, is_at_most, image_at}
use Rattle.hg_chains.specs.Versions.{left_by, numbered_image, oldest_at, others_at}
use Rattle.hg_chains.specs.Strands.{blank, node_at, first_writer, front_by, front_of, version_in}
use Rattle.hg_chains.specs.Arenas.{IsAt, head_in, front_in, tail_in, list_in}
use Rattle.hg_chains.proofs.Cuts.{falls_at_most, none_left, kept_first, kept_left, kept_sum}
use Rattle.hg_chains.proofs.Heads.{Single, single, none_first}
use Rattle.hg_chains.proofs.Walks.{version_here, tail_many}

-- ---- the first of the others at a bound

pub got_none : (vs : List Version) (k : ℕ) → k ≡ length vs → slice_get vs k ≡ None
got_none [] k e = refl
got_none (v ∷ vs) zero e = absurd (omega (arith, e))
got_none (v ∷ vs) (suc k) e = got_none vs k (let l : k ≡ length vs = omega (arith, e) in l)

-- where a walk has passed all versions over the bound, none is left or the first is at hand
pub none_found : (a : Arena) (place bound : ℕ) (cursor : Cursor) → IsChain (tail_in a place) → cursor.kept ≡ length (left_by bound (tail_in a place)) →
    cursor.kept ≡ (head_in a place).strand.count → find (is_at_most bound) (tail_in a place) ≡ None
none_found a place bound cursor chain kept all =
    sym (kept_first bound (tail_in a place) chain) ∙ ap (slice_get (tail_in a place)) (sym kept) ∙ got_none (tail_in a place) cursor.kept (let m = tail_many a place in
    let e : cursor.kept ≡ length (tail_in a place) = omega (arith, m, all) in e)

pub one_found : (a : Arena) (place bound : ℕ) (cursor : Cursor) → IsChain (tail_in a place) → IsAt a place cursor → cursor.kept ≡ length (left_by bound (tail_in a place)) →
    cursor.kept < (head_in a place).strand.count → find (is_at_most bound) (tail_in a place) ≡ Some (version_in (node_at a.nodes.items cursor.at))
one_found a place bound cursor chain at kept less =
    let d = version_in blank in
    sym (kept_first bound (tail_in a place) chain) ∙ ap (slice_get (tail_in a place)) (sym kept) ∙ slice_get-get_or (tail_in a place) cursor.kept d (let m = tail_many a place in
    omega (arith, m, less)) ∙ ap (λ (v : Version). Some v) (version_here a place cursor d at less)

-- fewer are left, or none is at the bound
pub kept_less : (bound : ℕ) (vs : List Version) → IsChain vs → length (left_by bound vs) ≤ length vs
kept_less bound vs chain = let e = kept_sum bound vs chain in omega (arith, e)

pub handed_out : (a : Arena) (place bound : ℕ) (cursor : Cursor) → IsChain (tail_in a place) → IsAt a place cursor → cursor.kept ≡ length (left_by bound (tail_in a place)) →
    cursor.kept < (head_in a place).strand.count → oldest_at bound (tail_in a place) ≡ Some ((node_at a.nodes.items cursor.at).number, (node_at a.nodes.items cursor.at).image)
handed_out a place bound cursor chain at kept less = ap (option_and_then numbered_image) (one_found a place bound cursor chain at kept less)

pub nothing_out : (bound : ℕ) (vs : List Version) → find (is_at_most bound) vs ≡ None → oldest_at bound vs ≡ None
nothing_out bound vs e = ap (option_and_then numbered_image) e

-- ---- what a walk over the bound has passed

pub walk_less : (a : Arena) (place bound kept : ℕ) → IsChain (tail_in a place) → kept ≡ length (left_by bound (tail_in a place)) → (kept ≡ (head_in a place).strand.count → ⊥) →
    kept < (head_in a place).strand.count
walk_less a place bound kept chain e apart = let m = tail_many a place in let l = kept_less bound (tail_in a place) chain in omega (arith, e, apart, m, l)

pub walk_left : (a : Arena) (place bound kept : ℕ) → IsChain (tail_in a place) → kept ≡ length (left_by bound (tail_in a place)) → take kept (tail_in a place) ≡ left_by bound (tail_in a place)
walk_left a place bound kept chain e = ap (λ n. take n (tail_in a place)) e ∙ kept_left bound (tail_in a place) chain

pub walk_others : (a : Arena) (place bound kept : ℕ) → IsChain (tail_in a place) → kept ≡ length (left_by bound (tail_in a place)) →
    (head_in a place).strand.count - kept - 1 ≡ others_at bound (tail_in a place)
walk_others a place bound kept chain e = let m = tail_many a place in let s = kept_sum bound (tail_in a place) chain in omega (arith, e, m, s)

-- nothing was at the bound
pub all_left : (a : Arena) (place bound kept : ℕ) → IsChain (tail_in a place) → kept ≡ length (left_by bound (tail_in a place)) → kept ≡ (head_in a place).strand.count →
    tail_in a place ≡ left_by bound (tail_in a place)
all_left a place bound kept chain e all = sym (take_all kept (tail_in a place) (let m = tail_many a place in omega (arith, m, all))) ∙ walk_left a place bound kept chain e

pub none_gone : (a : Arena) (place bound kept : ℕ) → IsChain (tail_in a place) → kept ≡ length (left_by bound (tail_in a place)) → kept ≡ (head_in a place).strand.count →
    0 ≡ others_at bound (tail_in a place)
none_gone a place bound kept chain e all = (let o = walk_others a place bound kept chain e in omega (arith, o, all))

-- ---- the newest version and the others at a bound

-- the newest version of a head is numbered at or below the bound
pub record Reached (bound : ℕ) (h : Head) : Type 0 where
  pub is : front_of h ≡ record { stamp = Numbered h.number (first_writer h); image = h.image } ∷ []
  pub low : nat_le h.number bound ≡ true

reached_by : (bound : ℕ) (s : State) (by : Writer) (number : ℕ) (image : Image) → begins_at_most bound (front_by s by number image) ≡ true →
    (front_by s by number image ≡ record { stamp = Numbered number by; image = image } ∷ []) × (nat_le number bound ≡ true)
reached_by bound Empty by number image e = absurd (false_true e)
reached_by bound Open by number image e = absurd (false_true e)
reached_by bound Stamped by number image e = (refl, e)

pub reached : (bound : ℕ) (h : Head) → begins_at_most bound (front_of h) ≡ true → Reached bound h
reached bound h e = let r = reached_by bound h.state (first_writer h) h.number h.image e in record { is = r.0; low = r.1 }

pub seen_first : (a : Arena) (place bound : ℕ) → begins_at_most bound (front_in a place) ≡ true → image_at bound (list_in a place) ≡ Some (head_in a place).image
seen_first a place bound e =
    let r = reached bound (head_in a place) e in
    ap (λ vs. image_at bound (vs ++ tail_in a place)) r.is
    ∙ ap (λ b. option_map (λ (v : Version). v.image) (cond b (Some (record { stamp = Numbered (head_in a place).number (first_writer (head_in a place)); image = (head_in a place).image }))
    (find (is_at_most bound) (tail_in a place)))) r.low

-- all are at the bound
pub record AllReached (bound : ℕ) (a : Arena) (place : ℕ) : Type 0 where
  pub left : left_by bound (list_in a place) ≡ []
  pub image : oldest_at bound (list_in a place) ≡ Some ((head_in a place).number, (head_in a place).image)
  pub gone : others_at bound (list_in a place) ≡ (head_in a place).strand.count
  pub many : length (list_in a place) ≡ (head_in a place).strand.count + 1

pub all_reached : (bound : ℕ) (a : Arena) (place : ℕ) → IsChain (list_in a place) → begins_at_most bound (front_in a place) ≡ true → AllReached bound a place
all_reached bound a place chain e =
    record {
      left = left;
      image = ap (λ vs. oldest_at bound (vs ++ tail_in a place)) r.is ∙ ap (λ b. option_and_then numbered_image (cond b (Some v) (find (is_at_most bound) (tail_in a place)))) r.low;
      gone = (let s = kept_sum bound (list_in a place) chain in let l = ap length left in let m = many in omega (arith, s, l, m));
      many = many;
    }
  where
    r : Reached bound (head_in a place)
    r = reached bound (head_in a place) e

    v : Version
    v = record { stamp = Numbered (head_in a place).number (first_writer (head_in a place)); image = (head_in a place).image }

    now : list_in a place ≡ v ∷ tail_in a place
    now = ap (λ vs. vs ++ tail_in a place) r.is

    falls : IsChain (v ∷ tail_in a place)
    falls = subst IsChain now chain

    left : left_by bound (list_in a place) ≡ []
    left = ap (left_by bound) now ∙ none_left bound (v ∷ tail_in a place) (r.low, falls_at_most bound v.stamp (tail_in a place) r.low falls.0)

    many : length (list_in a place) ≡ (head_in a place).strand.count + 1
    many = let l = ap length now in let m = tail_many a place in omega (arith, l, m)

-- the newest is over the bound, or there is none
pub record NoneReached (bound : ℕ) (a : Arena) (place : ℕ) : Type 0 where
  pub found : find (is_at_most bound) (list_in a place) ≡ find (is_at_most bound) (tail_in a place)
  pub left : left_by bound (list_in a place) ≡ front_in a place ++ left_by bound (tail_in a place)
  pub gone : others_at bound (list_in a place) ≡ others_at bound (tail_in a place)

pub none_reached : (bound : ℕ) (a : Arena) (place : ℕ) → begins_at_most bound (front_in a place) ≡ false → NoneReached bound a place
none_reached bound a place e = go (single (head_in a place))
  where
    vs : List Version
    vs = tail_in a place

    go : ((head_in a place).state ≡ Empty) ⊎ Single (front_in a place) → NoneReached bound a place
    go (inl none) =
        let f = none_first (head_in a place) none in
        record {
          found = ap (λ fs. find (is_at_most bound) (fs ++ vs)) f;
          left = ap (λ fs. left_by bound (fs ++ vs)) f ∙ sym (ap (λ fs. fs ++ left_by bound vs) f);
          gone = ap (λ fs. others_at bound (fs ++ vs)) f;
        }
    go (inr f) =
        let over : is_at_most bound f.first ≡ false = sym (ap (begins_at_most bound) f.is) ∙ e in
        record {
          found = ap (λ fs. find (is_at_most bound) (fs ++ vs)) f.is ∙ ap (λ b. cond b (Some f.first) (find (is_at_most bound) vs)) over;
          left = ap (λ fs. left_by bound (fs ++ vs)) f.is ∙ ap (λ b. cond (not b) (f.first ∷ left_by bound vs) (left_by bound vs)) over ∙
              sym (ap (λ fs. fs ++ left_by bound vs) f.is);
          gone = ap (λ fs. others_at bound (fs ++ vs)) f.is ∙ counted_out over;
        }
      where
        counted_out : is_at_most bound f.first ≡ false → others_at bound (f.first ∷ vs) ≡ others_at bound vs
        counted_out over =
            let a = length-filter (is_at_most bound) (f.first ∷ vs) in
            let b = length-filter (is_at_most bound) vs in
            let same : length (filter (is_at_most bound) (f.first ∷ vs)) ≡ length (filter (is_at_most bound) vs) = ap
            (λ t. length (cond t (f.first ∷ filter (is_at_most bound) vs) (filter (is_at_most bound) vs))) over in
            omega (arith, a, b, same)
