-- Lines that hold few versions after each interval report, with one line more.
use Rattle.std.proofs.Common.{◌≡◌, ◌⊎◌, inl, inr, ℕ, ◌<◌, ◌≤◌, List, [], ◌∷◌, ◌++◌, length, drop, refl, sym, ap, ◌∙◌, subst, arith, length-append}
use Rattle.std.specs.Prelude.{None, get_or}
use Rattle.hg_base.specs.Lists.{Each}
use Rattle.hg_base.specs.declared.line.Line.{Line}
use Rattle.hg_base.specs.declared.report.Kind.{Kind}
use Rattle.hg_base.specs.declared.report.Kind.TheVariants.{Group, Table, Interval}
use Rattle.hg_base.specs.declared.report.Sweep.{Sweep}
use Rattle.hg_base.specs.declared.statement.Record.{Record}
use Rattle.hg_base.specs.Script.{Script, replay}
use Rattle.hg_base.specs.Shape.{HasShape, report_of}
use Rattle.hg_base.specs.Sound.{all_said}
use Rattle.hg_base.specs.Transcript.{Said, said, said_from}
use Rattle.hg_core.specs.Counters.{removed_all}
use Rattle.hg_core.specs.Reading.{Follows}
use Rattle.hg_core.specs.State.{CoreState}
use Rattle.hg_core.specs.Sums.{sum_below}
use Rattle.hg_headline.specs.Few.{HoldsFew}
use Rattle.hg_headline.specs.Following.{told_removed}
use Rattle.hg_headline.specs.Met.{IsMet}
use Rattle.hg_headline.proofs.Few.{lines_hold_few}
use Rattle.hg_rule.specs.Views.{pass}
use Rattle.hg_session.specs.declared.engine.Engine.{Engine}
use Rattle.hg_session.specs.declared.session.Session.{Session}
use Rattle.hg_session.specs.Engines.{engine_sizes}
use Rattle.hg_collectors.specs.declared.collectors.Collectors.{Collectors}
use Rattle.hg_collectors.specs.Collecting.{removed_of, view_in}
use Rattle.hg_run.specs.Few.{KeepsFew, LeavesFew, LeavesFewIfSwept}
use Rattle.hg_run.proofs.Going.{Going}

-- ---- lists

-- where a list with one more is split before some entry, that is the last one, or the list is
snoc_split : {X : Type 0} (xs before after : List X) (x y : X) → xs ++ x ∷ [] ≡ before ++ y ∷ after →
    ((before ≡ xs) × (y ≡ x)) ⊎ ((less : List X) × (xs ≡ before ++ y ∷ less))
snoc_split [] [] after x y e = inl (refl, sym (ap (λ l. get_or l 0 x) e))
snoc_split [] (z ∷ before) after x y e = absurd (let n = ap length e in let m = length-append before (y ∷ after) in omega (arith, n, m))
snoc_split (w ∷ xs) [] after x y e = inr (xs, ap (λ l. get_or l 0 w ∷ xs) e)
snoc_split (w ∷ xs) (z ∷ before) after x y e = go (snoc_split xs before after x y (ap (λ l. drop 1 l) e))
  where
    head : w ≡ z
    head = ap (λ l. get_or l 0 w) e

    go : ((before ≡ xs) × (y ≡ x)) ⊎ ((less : List _) × (xs ≡ before ++ y ∷ less)) → ((z ∷ before ≡ w ∷ xs) × (y ≡ x)) ⊎ ((less : List _) × (w ∷ xs ≡ (z ∷ before) ++ y ∷ less))
    go (inl (same, last)) = inl ((λ i. sym head i ∷ same i), last)
    go (inr (less, is)) = inr (less, (λ i. head i ∷ is i))

-- the records that are still to come say nothing
said_so_far : (earlier : List Said) (done rest : List Record) (lines : List Line) → HasShape done lines → said_from earlier (done ++ rest) lines ≡ said_from earlier done lines
said_so_far earlier [] [] [] shape = refl
said_so_far earlier [] (r ∷ rest) [] shape = refl
said_so_far earlier [] rest (line ∷ lines) shape = absurd shape
said_so_far earlier (r ∷ done) rest [] shape = absurd shape
said_so_far earlier (r ∷ done) rest (line ∷ lines) shape =
    let now : Said = said earlier r line.reply in ap (λ all. now ∷ all) (said_so_far (now ∷ earlier) done rest lines shape.1)

-- ---- one line more

module _ (e : Engine) (long : ℕ) (before now : Collectors) (list : List Session) (last : ℕ) (lines : List Line) (rest : List Record) (script : Script)
    (g : Going e long before now list last lines rest script) (none : (k : Kind) → removed_of k before ≡ 0) (some : 0 < (engine_sizes e).buckets) where
  holds_few : (sweep : Sweep) → LeavesFew e list now sweep → HoldsFew (length sweep.held) (all_said replay script lines)
  holds_few sweep l =
      subst (HoldsFew (length sweep.held)) (sym (ap (λ rs. said_from [] rs lines) g.all ∙ said_so_far [] g.done rest lines g.following.shape))
      (lines_hold_few s (length sweep.held) g.done lines l.moment.steady (subst (λ n. 0 < n) (sym l.moment.sized.buckets) some) l.clean
      (subst (λ n. Each (λ (r : Record). (1 ≤ r.session) × (r.session ≤ n)) g.done) (sym l.moment.sized.sessions) g.following.within) g.following.shape follows told)
    where
      s : CoreState
      s = l.moment.state

      follows : Follows s.buckets (IsMet s.sessions) (λ j. []) (λ j. None) g.done lines s.log
      follows = subst (λ p. p) (λ i. Follows (sym l.moment.sized.buckets i) (IsMet (sym l.moment.sized.sessions i)) (λ j. []) (λ j. None) g.done lines (sym l.moment.logs i)) g.following.follows

      told : (kind : Kind) → sum_below s.passes (λ p. removed_all kind (s.visits p)) ≡ told_removed kind lines
      told kind = go s.passes l.moment.three
        where
          go : (n : ℕ) → n ≡ 3 → sum_below n (λ p. removed_all kind (s.visits p)) ≡ told_removed kind lines
          go n is =
              let sum : sum_below n (λ p. removed_all kind (s.visits p)) ≡ sum_below 3 (λ p. removed_all kind (s.visits p)) = ap (λ m. sum_below m (λ p. removed_all kind (s.visits p))) is in
              let group : removed_all kind (s.visits 0) ≡ removed_all kind (pass (view_in Group now)).visits = ap (removed_all kind) (l.moment.visits 0 (omega arith)) in
              let table : removed_all kind (s.visits 1) ≡ removed_all kind (pass (view_in Table now)).visits = ap (removed_all kind) (l.moment.visits 1 (omega arith)) in
              let interval : removed_all kind (s.visits 2) ≡ removed_all kind (pass (view_in Interval now)).visits = ap (removed_all kind) (l.moment.visits 2 (omega arith)) in
              omega (arith, sum, group, table, interval, g.told kind, none kind)

pub few_more : (e : Engine) (long : ℕ) (before now : Collectors) (list : List Session) (last : ℕ) (lines : List Line) (line : Line) (rest : List Record) (script : Script) →
    Going e long before now list last (lines ++ line ∷ []) rest script → ((k : Kind) → removed_of k before ≡ 0) → 0 < (engine_sizes e).buckets → LeavesFewIfSwept e list now line.reply →
    KeepsFew script lines → KeepsFew script (lines ++ line ∷ [])
few_more e long before now list last lines line rest script g none some few kept first after l sweep is report kind = go (snoc_split lines first after line l is)
  where
    go : ((first ≡ lines) × (l ≡ line)) ⊎ ((less : List Line) × (lines ≡ first ++ l ∷ less)) → HoldsFew (length sweep.held) (all_said replay script (first ++ l ∷ []))
    go (inl (same, this)) =
        subst (λ ls. HoldsFew (length sweep.held) (all_said replay script ls)) (λ i. sym same i ++ sym this i ∷ [])
        (holds_few e long before now list last (lines ++ line ∷ []) rest script g none some sweep (few sweep (ap (λ (x : Line). report_of x.reply) (sym this) ∙ report) kind))
    go (inr (less, split)) = kept first less l sweep split report kind

pub few_none : (script : Script) → KeepsFew script []
few_none script [] after line sweep is report kind = absurd (let n = ap length is in omega (arith, n))
few_none script (x ∷ before) after line sweep is report kind = absurd (let n = ap length is in omega (arith, n))
