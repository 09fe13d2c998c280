-- A walk along a chain.
use Rattle.std.proofs.Common.{◌≡◌, ℕ, zero, suc, ◌+◌, ◌<◌, ◌≤◌, List, [], ◌∷◌, length, take, get_or, Bool, true, false, not, ◌&&◌, cond, refl, sym, ap, ◌∙◌, subst, arith}
use Rattle.std.specs.Prelude.{nat_lt}
use Rattle.std.proofs.lemmas.List.{take_more}
use Rattle.std.proofs.lemmas.Bool.Decides.{nat_tests}
use Rattle.hg_base.specs.Lists.{Each}
use Rattle.hg_base.proofs.ListFacts.{each_snoc}
use Rattle.hg_chains.specs.declared.version.Version.{Version}
use Rattle.hg_chains.specs.declared.node.Node.{Node}
use Rattle.hg_chains.specs.Versions.{IsChain, is_at_most, left_by}
use Rattle.hg_chains.specs.declared.cursor.Cursor.{Cursor}
use Rattle.hg_chains.specs.declared.arena.Arena.{Arena}
use Rattle.hg_chains.specs.Arenas.{IsArena, IsAt, IsLast, head_in, tail_in}
use Rattle.hg_chains.specs.Strands.{blank, node_at, version_in, versions, node_behind}
use Rattle.hg_chains.proofs.Cuts.{falls_at_most, none_left}
use Rattle.hg_chains.proofs.Strands.{versions_many}
use Rattle.hg_chains.proofs.Unlinks.{behind_next, walk_within}

pub version_read : (nodes : List Node) (n i k : ℕ) (d : Version) → k < n → get_or (versions nodes n i) k d ≡ version_in (node_at nodes (node_behind nodes k i))
version_read nodes zero i k d less = absurd (omega (arith, less))
version_read nodes (suc n) i zero d less = refl
version_read nodes (suc n) i (suc k) d less = version_read nodes n (node_at nodes i).next k d (omega (arith, less))

pub newer_many : (bound : ℕ) (vs : List Version) (kept : ℕ) (d : Version) → IsChain vs → kept ≤ length vs → Each (λ v. is_at_most bound v ≡ false) (take kept vs) →
    (kept < length vs → is_at_most bound (get_or vs kept d) ≡ true) → kept ≡ length (left_by bound vs)
newer_many bound [] zero d h less e f = refl
newer_many bound [] (suc k) d h less e f = absurd (omega (arith, less))
newer_many bound (v ∷ vs) zero d h less e f =
    let old : is_at_most bound v ≡ true = f (omega arith) in
    sym (ap length (none_left bound (v ∷ vs) (old, falls_at_most bound v.stamp vs old h.0)))
newer_many bound (v ∷ vs) (suc k) d h less e f =
    ap suc (newer_many bound vs k d h.1 (omega (arith, less)) e.1 (λ l. f (omega (arith, l))))
    ∙ sym (ap (λ b. length (cond (not b) (v ∷ left_by bound vs) (left_by bound vs))) e.0)

-- ---- in an arena

pub next_at : (a : Arena) (place : ℕ) (cursor : Cursor) → node_behind a.nodes.items cursor.kept (head_in a place).strand.first ≡ cursor.at →
    IsAt a place (record { kept = cursor.kept + 1; last = cursor.at; at = (node_at a.nodes.items cursor.at).next })
next_at a place cursor h =
    let more : suc cursor.kept ≡ cursor.kept + 1 = omega arith in
    record {
      at = ap (λ k. node_behind a.nodes.items k (head_in a place).strand.first) (sym more) ∙ sym (behind_next a.nodes.items cursor.kept (head_in a place).strand.first) ∙
          ap (λ i. (node_at a.nodes.items i).next) h;
      last = subst (λ k. IsLast a.nodes.items (head_in a place).strand.first k cursor.at) more h;
    }

pub at_there : (a : Arena) (place : ℕ) (cursor : Cursor) → IsArena a → IsAt a place cursor → cursor.kept < (head_in a place).strand.count → cursor.at < length a.nodes.items
at_there a place cursor s h less = walk_within a.heads.items a.nodes.items a.free s.strands place cursor.kept cursor.at less h.at

-- the version before which the walk stands
pub version_here : (a : Arena) (place : ℕ) (cursor : Cursor) (d : Version) → IsAt a place cursor → cursor.kept < (head_in a place).strand.count →
    get_or (tail_in a place) cursor.kept d ≡ version_in (node_at a.nodes.items cursor.at)
version_here a place cursor d h less =
    version_read a.nodes.items (head_in a place).strand.count (head_in a place).strand.first cursor.kept d less
    ∙ ap (λ i. version_in (node_at a.nodes.items i)) h.at

pub tail_many : (a : Arena) (place : ℕ) → length (tail_in a place) ≡ (head_in a place).strand.count
tail_many a place = versions_many a.nodes.items (head_in a place).strand.count (head_in a place).strand.first

pub newer_more : (a : Arena) (place bound : ℕ) (cursor : Cursor) → IsAt a place cursor → cursor.kept < (head_in a place).strand.count →
    is_at_most bound (version_in (node_at a.nodes.items cursor.at)) ≡ false →
    Each (λ v. is_at_most bound v ≡ false) (take cursor.kept (tail_in a place)) → Each (λ v. is_at_most bound v ≡ false) (take (cursor.kept + 1) (tail_in a place))
newer_more a place bound cursor h less newer each =
    let d = version_in blank in
    let within : cursor.kept < length (tail_in a place) = (let e = tail_many a place in omega (arith, e, less)) in
    subst (Each (λ v. is_at_most bound v ≡ false)) (sym (take_more (tail_in a place) cursor.kept d within))
    (each_snoc (λ v. is_at_most bound v ≡ false) (take cursor.kept (tail_in a place)) (get_or (tail_in a place) cursor.kept d) each
    (ap (is_at_most bound) (version_here a place cursor d h less) ∙ newer))

pub both : (k n : ℕ) (b : Bool) → (nat_lt k n && not b) ≡ true → (k < n) × (b ≡ false)
both k n true e = grind (arith, nat_tests)
both k n false e = (grind (arith, nat_tests), refl)

pub not_both : (k n : ℕ) (b : Bool) → (nat_lt k n && not b) ≡ false → k < n → b ≡ true
not_both k n true e less = refl
not_both k n false e less = grind (arith, nat_tests)

pub passed_many : (a : Arena) (place bound : ℕ) (cursor : Cursor) → IsChain (tail_in a place) → IsAt a place cursor → cursor.kept ≤ (head_in a place).strand.count →
    Each (λ v. is_at_most bound v ≡ false) (take cursor.kept (tail_in a place)) →
    (cursor.kept < (head_in a place).strand.count → is_at_most bound (version_in (node_at a.nodes.items cursor.at)) ≡ true) →
    cursor.kept ≡ length (left_by bound (tail_in a place))
passed_many a place bound cursor chain h within each old =
    let d = version_in blank in
    let e = tail_many a place in
    newer_many bound (tail_in a place) cursor.kept d chain (omega (arith, e, within)) each (λ l. let less : cursor.kept < (head_in a place).strand.count = omega (arith, e, l) in
    ap (is_at_most bound) (version_here a place cursor d h less) ∙ old less)
