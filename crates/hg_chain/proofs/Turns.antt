-- A sweep settles each version once, from the newest on.
use Rattle.std.proofs.Common.{◌≡◌, ℕ, ◌+◌, ◌<◌, ◌≤◌, List, [], ◌∷◌, ◌++◌, ◌-◌, length, Bool, true, false, Option, None, refl, ap, sym, ◌∙◌, subst, arith}
use Rattle.std.specs.Prelude.{cond}
use Rattle.hg_base.proofs.ListFacts.{append_nil}
use Rattle.hg_chains.specs.declared.version.Version.{Version}
use Rattle.hg_chains.specs.Versions.{number_in, IsChain}
use Rattle.hg_chains.specs.Sweeps.{last_number, swept, swept_away}
use Rattle.hg_base.specs.Lifetimes.{goes}
use Rattle.hg_chains.specs.Merging.{Follows}
use Rattle.hg_chains.proofs.Sweeps.{Under, under_next, under_follows, swept_from, last_after, last_of_all, swept_goes, swept_stays, swept_sum}

-- before is not settled yet, kept is what stays of the others, and both stand in items
pub record Turned (horizon : ℕ) (snapshots : List ℕ) (old items : List Version) (rest : ℕ) (up : Option ℕ) : Type 0 where
  pub before : List Version
  pub kept : List Version
  pub stand : items ≡ before ++ kept
  pub many : length before ≡ rest
  pub left : kept ++ swept_from horizon snapshots up before ≡ swept horizon snapshots old
  pub last : last_after up before ≡ last_number old
  pub under : Under up before
  pub chain : IsChain before

pub begun : (horizon : ℕ) (snapshots : List ℕ) (old : List Version) (rest : ℕ) → length old ≡ rest → IsChain old → Turned horizon snapshots old old rest None
begun horizon snapshots old rest e h = record { before = old; kept = []; stand = sym (append_nil old); many = e; left = refl; last = last_of_all old; under = tt; chain = h }

-- the same where the first of items is at hand
record Opened (horizon : ℕ) (snapshots : List ℕ) (old : List Version) (v : Version) (more : List Version) (rest : ℕ) (up : Option ℕ) : Type 0 where
  before : List Version
  kept : List Version
  stand : more ≡ before ++ kept
  many : length before + 1 ≡ rest
  left : kept ++ swept_from horizon snapshots up (v ∷ before) ≡ swept horizon snapshots old
  last : last_after up (v ∷ before) ≡ last_number old
  under : Under up (v ∷ before)
  chain : IsChain (v ∷ before)

opened : (horizon : ℕ) (snapshots : List ℕ) (old : List Version) (v : Version) (more : List Version) (rest : ℕ) (up : Option ℕ) → 0 < rest →
    Turned horizon snapshots old (v ∷ more) rest up → Opened horizon snapshots old v more rest up
opened horizon snapshots old v more rest up h t = go t.before t.stand t.many t.left t.last t.under t.chain
  where
    go : (before : List Version) → (v ∷ more) ≡ before ++ t.kept → length before ≡ rest → t.kept ++ swept_from horizon snapshots up before ≡ swept horizon snapshots old →
        last_after up before ≡ last_number old → Under up before → IsChain before → Opened horizon snapshots old v more rest up
    go [] a b c d e f = absurd (omega (arith, b, h))
    go (w ∷ ws) a b c d e f =
        let same : w ≡ v = cc in
        let others : more ≡ ws ++ t.kept = cc in
        record {
          before = ws;
          kept = t.kept;
          stand = others;
          many = omega (arith, b);
          left = subst (λ x. t.kept ++ swept_from horizon snapshots up (x ∷ ws) ≡ swept horizon snapshots old) same c;
          last = subst (λ x. last_after up (x ∷ ws) ≡ last_number old) same d;
          under = subst (λ x. Under up (x ∷ ws)) same e;
          chain = subst (λ x. IsChain (x ∷ ws)) same f;
        }

pub follows : (horizon : ℕ) (snapshots : List ℕ) (old : List Version) (v : Version) (more : List Version) (rest : ℕ) (up : Option ℕ) → 0 < rest →
    Turned horizon snapshots old (v ∷ more) rest up → Follows up (number_in v.stamp)
follows horizon snapshots old v more rest up h t = let o = opened horizon snapshots old v more rest up h t in under_follows up v o.before o.under

regroup : (xs : List Version) (v : Version) (ys : List Version) → (xs ++ v ∷ []) ++ ys ≡ xs ++ (v ∷ ys)
regroup [] v ys = refl
regroup (x ∷ xs) v ys = ap (λ zs. x ∷ zs) (regroup xs v ys)

regroup_end : (xs ys : List Version) (v : Version) → (xs ++ ys) ++ v ∷ [] ≡ xs ++ (ys ++ v ∷ [])
regroup_end [] ys v = refl
regroup_end (x ∷ xs) ys v = ap (λ zs. x ∷ zs) (regroup_end xs ys v)

turn_stays : (horizon : ℕ) (snapshots : List ℕ) (old : List Version) (v : Version) (more : List Version) (rest : ℕ) (up : Option ℕ) → 0 < rest →
    Turned horizon snapshots old (v ∷ more) rest up → goes horizon snapshots up (number_in v.stamp) ≡ false → Turned horizon snapshots old (more ++ v ∷ []) (rest - 1) (number_in v.stamp)
turn_stays horizon snapshots old v more rest up h t e =
    let o = opened horizon snapshots old v more rest up h t in
    record {
      before = o.before;
      kept = o.kept ++ v ∷ [];
      stand = ap (λ ws. ws ++ v ∷ []) o.stand ∙ regroup_end o.before o.kept v;
      many = (let m = o.many in omega (arith, m));
      left = regroup o.kept v (swept_from horizon snapshots (number_in v.stamp) o.before) ∙ ap (λ ws. o.kept ++ ws) (sym (swept_stays horizon snapshots up v o.before e)) ∙ o.left;
      last = o.last;
      under = under_next v.stamp o.before o.chain.0;
      chain = o.chain.1;
    }

turn_goes : (horizon : ℕ) (snapshots : List ℕ) (old : List Version) (v : Version) (more : List Version) (rest : ℕ) (up : Option ℕ) → 0 < rest →
    Turned horizon snapshots old (v ∷ more) rest up → goes horizon snapshots up (number_in v.stamp) ≡ true → Turned horizon snapshots old more (rest - 1) (number_in v.stamp)
turn_goes horizon snapshots old v more rest up h t e =
    let o = opened horizon snapshots old v more rest up h t in
    record {
      before = o.before;
      kept = o.kept;
      stand = o.stand;
      many = (let m = o.many in omega (arith, m));
      left = ap (λ ws. o.kept ++ ws) (sym (swept_goes horizon snapshots up v o.before e)) ∙ o.left;
      last = o.last;
      under = under_next v.stamp o.before o.chain.0;
      chain = o.chain.1;
    }

-- the version goes, or stays and comes to the end
pub turn : (horizon : ℕ) (snapshots : List ℕ) (old : List Version) (v : Version) (more items : List Version) (rest : ℕ) (up : Option ℕ) (gone : Bool) → 0 < rest →
    Turned horizon snapshots old (v ∷ more) rest up → goes horizon snapshots up (number_in v.stamp) ≡ gone → items ≡ cond gone more (more ++ v ∷ []) →
    Turned horizon snapshots old items (rest - 1) (number_in v.stamp)
turn horizon snapshots old v more items rest up true h t e is =
    subst (λ vs. Turned horizon snapshots old vs (rest - 1) (number_in v.stamp)) (sym is) (turn_goes horizon snapshots old v more rest up h t e)
turn horizon snapshots old v more items rest up false h t e is =
    subst (λ vs. Turned horizon snapshots old vs (rest - 1) (number_in v.stamp)) (sym is) (turn_stays horizon snapshots old v more rest up h t e)

-- at the end nothing is left to settle
pub ended : (horizon : ℕ) (snapshots : List ℕ) (old items : List Version) (up : Option ℕ) → Turned horizon snapshots old items 0 up → (items ≡ swept horizon snapshots old) × (up ≡ last_number old)
ended horizon snapshots old items up t = go t.before t.stand t.many t.left t.last
  where
    go : (before : List Version) → items ≡ before ++ t.kept → length before ≡ 0 → t.kept ++ swept_from horizon snapshots up before ≡ swept horizon snapshots old →
        last_after up before ≡ last_number old → (items ≡ swept horizon snapshots old) × (up ≡ last_number old)
    go [] a b c d = (a ∙ sym (append_nil t.kept) ∙ c, d)
    go (w ∷ ws) a b c d = absurd (omega (arith, b))

pub ended_length : (horizon : ℕ) (snapshots : List ℕ) (old items : List Version) (rest : ℕ) (up : Option ℕ) → rest ≤ 0 → Turned horizon snapshots old items rest up →
    length items + swept_away horizon snapshots old ≡ length old
ended_length horizon snapshots old items rest up none t =
    let same : rest ≡ 0 = omega (arith, none) in
    let e = ended horizon snapshots old items up (subst (λ r. Turned horizon snapshots old items r up) same t) in
    ap (λ ws. length ws + swept_away horizon snapshots old) e.0 ∙ swept_sum horizon snapshots None old
