-- A sweep along a chain: those in front of the walk stay, and those behind it aren't settled yet.
use Rattle.std.proofs.Common.{◌≡◌, ℕ, ◌+◌, ◌-◌, ◌<◌, ◌≤◌, List, [], ◌∷◌, ◌++◌, length, take, drop, get_or, Bool, true, false, cond, Option, refl, sym, ap, ◌∙◌, subst, arith}
use Rattle.std.proofs.lemmas.List.{take_more, drop_more, take_at, drop_at, length-take-le, length-append, length-drop, take_all, drop_all, drop-drop, append_assoc, append-nil}
use Rattle.hg_chains.specs.declared.version.Version.{Version}
use Rattle.hg_chains.specs.Versions.{number_in, IsChain}
use Rattle.hg_base.specs.Lifetimes.{goes}
use Rattle.hg_chains.specs.Merging.{Follows}
use Rattle.hg_chains.proofs.Sweeps.{Under, under_next, under_follows, swept_from, swept_away_from, last_after, swept_stays, swept_goes, swept_sum}

-- those behind the newest version, whose number is top
pub record Settled (horizon : ℕ) (snapshots : List ℕ) (top : Option ℕ) (old items : List Version) (kept rest : ℕ) (up : Option ℕ) : Type 0 where
  pub many : length items ≡ kept + rest
  pub left : take kept items ++ swept_from horizon snapshots up (drop kept items) ≡ swept_from horizon snapshots top old
  pub last : last_after up (drop kept items) ≡ last_after top old
  pub under : Under up (drop kept items)
  pub chain : IsChain (drop kept items)

pub begun : (horizon : ℕ) (snapshots : List ℕ) (top : Option ℕ) (old : List Version) (rest : ℕ) → length old ≡ rest → Under top old → IsChain old → Settled horizon snapshots top old old 0 rest top
begun horizon snapshots top old rest e u h =
    record {
      many = omega (arith, e);
      left = refl;
      last = refl;
      under = u;
      chain = h;
    }

-- ---- the version before which the walk stands

pub record Here (horizon : ℕ) (snapshots : List ℕ) (top : Option ℕ) (old items : List Version) (kept : ℕ) (up : Option ℕ) (v : Version) : Type 0 where
  pub left : take kept items ++ swept_from horizon snapshots up (v ∷ drop (kept + 1) items) ≡ swept_from horizon snapshots top old
  pub last : last_after (number_in v.stamp) (drop (kept + 1) items) ≡ last_after top old
  pub under : Under up (v ∷ drop (kept + 1) items)
  pub chain : IsChain (v ∷ drop (kept + 1) items)

pub here : (horizon : ℕ) (snapshots : List ℕ) (top : Option ℕ) (old items : List Version) (kept rest : ℕ) (up : Option ℕ) (d v : Version) → 0 < rest → get_or items kept d ≡ v →
    Settled horizon snapshots top old items kept rest up → Here horizon snapshots top old items kept up v
here horizon snapshots top old items kept rest up d v some e s =
    let m = s.many in
    let first : drop kept items ≡ v ∷ drop (kept + 1) items = drop_more items kept d (omega (arith, m, some)) ∙ ap (λ w. w ∷ drop (kept + 1) items) e in
    record {
      left = subst (λ ws. take kept items ++ swept_from horizon snapshots up ws ≡ swept_from horizon snapshots top old) first s.left;
      last = subst (λ ws. last_after up ws ≡ last_after top old) first s.last;
      under = subst (Under up) first s.under;
      chain = subst IsChain first s.chain;
    }

pub follows : (horizon : ℕ) (snapshots : List ℕ) (top : Option ℕ) (old items : List Version) (kept : ℕ) (up : Option ℕ) (v : Version) →
    Here horizon snapshots top old items kept up v → Follows up (number_in v.stamp)
follows horizon snapshots top old items kept up v h = under_follows up v (drop (kept + 1) items) h.under

pub stays : (horizon : ℕ) (snapshots : List ℕ) (top : Option ℕ) (old items : List Version) (kept rest : ℕ) (up : Option ℕ) (d v : Version) → 0 < rest → get_or items kept d ≡ v →
    Settled horizon snapshots top old items kept rest up → goes horizon snapshots up (number_in v.stamp) ≡ false → Settled horizon snapshots top old items (kept + 1) (rest - 1) (number_in v.stamp)
stays horizon snapshots top old items kept rest up d v some e s same =
    let h = here horizon snapshots top old items kept rest up d v some e s in
    let m = s.many in
    let more : take (kept + 1) items ≡ take kept items ++ v ∷ [] = take_more items kept d (omega (arith, m, some)) ∙ ap (λ w. take kept items ++ w ∷ []) e in
    record {
      many = omega (arith, m, some);
      left = ap (λ ws. ws ++ swept_from horizon snapshots (number_in v.stamp) (drop (kept + 1) items)) more ∙
          append_assoc (take kept items) (v ∷ []) (swept_from horizon snapshots (number_in v.stamp) (drop (kept + 1) items)) ∙
          ap (λ ws. take kept items ++ ws) (sym (swept_stays horizon snapshots up v (drop (kept + 1) items) same)) ∙ h.left;
      last = h.last;
      under = under_next v.stamp (drop (kept + 1) items) h.chain.0;
      chain = h.chain.1;
    }

pub leaves : (horizon : ℕ) (snapshots : List ℕ) (top : Option ℕ) (old items : List Version) (kept rest : ℕ) (up : Option ℕ) (d v : Version) → 0 < rest → get_or items kept d ≡ v →
    Settled horizon snapshots top old items kept rest up → goes horizon snapshots up (number_in v.stamp) ≡ true →
    Settled horizon snapshots top old (take kept items ++ drop (kept + 1) items) kept (rest - 1) (number_in v.stamp)
leaves horizon snapshots top old items kept rest up d v some e s gone =
    let h = here horizon snapshots top old items kept rest up d v some e s in
    let m = s.many in
    let front : length (take kept items) ≡ kept = length-take-le kept items (omega (arith, m)) in
    let t : take kept (take kept items ++ drop (kept + 1) items) ≡ take kept items = take_at (take kept items) (drop (kept + 1) items) kept front in
    let r : drop kept (take kept items ++ drop (kept + 1) items) ≡ drop (kept + 1) items = drop_at (take kept items) (drop (kept + 1) items) kept front in
    let a = length-append (take kept items) (drop (kept + 1) items) in
    let b = length-drop (kept + 1) items in
    record {
      many = omega (arith, m, some, front, a, b);
      left = (λ i. t i ++ swept_from horizon snapshots (number_in v.stamp) (r i)) ∙ ap (λ ws. take kept items ++ ws) (sym (swept_goes horizon snapshots up v (drop (kept + 1) items) gone)) ∙ h.left;
      last = ap (last_after (number_in v.stamp)) r ∙ h.last;
      under = subst (Under (number_in v.stamp)) (sym r) (under_next v.stamp (drop (kept + 1) items) h.chain.0);
      chain = subst IsChain (sym r) h.chain.1;
    }

pub record Ended (horizon : ℕ) (snapshots : List ℕ) (top : Option ℕ) (old items : List Version) (kept : ℕ) (up : Option ℕ) : Type 0 where
  pub left : items ≡ swept_from horizon snapshots top old
  pub last : up ≡ last_after top old
  pub gone : kept + swept_away_from horizon snapshots top old ≡ length old

pub ended : (horizon : ℕ) (snapshots : List ℕ) (top : Option ℕ) (old items : List Version) (kept : ℕ) (up : Option ℕ) →
    Settled horizon snapshots top old items kept 0 up → Ended horizon snapshots top old items kept up
ended horizon snapshots top old items kept up s =
    let m = s.many in
    let t : take kept items ≡ items = take_all kept items (omega (arith, m)) in
    let r : drop kept items ≡ [] = drop_all kept items (omega (arith, m)) in
    let left : items ≡ swept_from horizon snapshots top old = sym (append-nil items) ∙ (λ i. sym t i ++ swept_from horizon snapshots up (sym r i)) ∙ s.left in
    let l = ap length left in
    let sum = swept_sum horizon snapshots top old in
    record {
      left = left;
      last = sym (ap (last_after up) r) ∙ s.last;
      gone = omega (arith, m, l, sum);
    }

-- ---- several behind the walk are removed

pub one_more : {X : Type 0} (xs : List X) (kept m : ℕ) → kept ≤ length xs → take kept (take kept xs ++ drop m xs) ++ drop (kept + 1) (take kept xs ++ drop m xs) ≡ take kept xs ++ drop (m + 1) xs
one_more xs kept m within =
    let front : length (take kept xs) ≡ kept = length-take-le kept xs within in
    (λ i. take_at (take kept xs) (drop m xs) kept front i ++ dropped front i)
  where
    dropped : length (take kept xs) ≡ kept → drop (kept + 1) (take kept xs ++ drop m xs) ≡ drop (m + 1) xs
    dropped front = sym (drop-drop 1 kept (take kept xs ++ drop m xs)) ∙ ap (drop 1) (drop_at (take kept xs) (drop m xs) kept front) ∙ drop-drop 1 m xs

pub none_behind : {X : Type 0} (xs : List X) (kept m : ℕ) → length xs ≤ m → take kept xs ++ drop m xs ≡ take kept xs
none_behind xs kept m past = ap (λ ys. take kept xs ++ ys) (drop_all m xs past) ∙ append-nil (take kept xs)

-- the version goes or stays
pub next : (horizon : ℕ) (snapshots : List ℕ) (top : Option ℕ) (old items items' : List Version) (kept kept' rest : ℕ) (up : Option ℕ) (d v : Version) (gone : Bool) → 0 < rest →
    get_or items kept d ≡ v → Settled horizon snapshots top old items kept rest up → goes horizon snapshots up (number_in v.stamp) ≡ gone →
    items' ≡ cond gone (take kept items ++ drop (kept + 1) items) items → kept' ≡ kept + cond gone 0 1 → Settled horizon snapshots top old items' kept' (rest - 1) (number_in v.stamp)
next horizon snapshots top old items items' kept kept' rest up d v true some e s g a b =
    subst (λ k. Settled horizon snapshots top old items' k (rest - 1) (number_in v.stamp)) (let k : kept ≡ kept' = omega (arith, b) in k)
    (subst (λ ws. Settled horizon snapshots top old ws kept (rest - 1) (number_in v.stamp)) (sym a) (leaves horizon snapshots top old items kept rest up d v some e s g))
next horizon snapshots top old items items' kept kept' rest up d v false some e s g a b =
    subst (λ k. Settled horizon snapshots top old items' k (rest - 1) (number_in v.stamp)) (let k : kept + 1 ≡ kept' = omega (arith, b) in k)
    (subst (λ ws. Settled horizon snapshots top old ws (kept + 1) (rest - 1) (number_in v.stamp)) (sym a) (stays horizon snapshots top old items kept rest up d v some e s g))
