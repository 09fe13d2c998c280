-- A round goes on: what a cut or a taken group adds to it, and what it leaves.
use Rattle.std.proofs.Common.{◌≡◌, ℕ, ◌+◌, List, [], ◌∷◌, ◌++◌, map, refl, ap, ◌∙◌, arith}
use Rattle.std.specs.Prelude.{max}
use Rattle.hg_base.specs.declared.report.Kind.{Kind}
use Rattle.hg_base.specs.declared.report.Report.{Report}
use Rattle.hg_base.specs.Lists.{Each}
use Rattle.hg_base.specs.Reports.{told_of, sweep_of}
use Rattle.hg_core.specs.declared.loaded.Loaded.{Loaded}
use Rattle.hg_rule.specs.declared.view.Event.{Event}
use Rattle.hg_rule.specs.declared.view.Event.TheVariants as events
use Rattle.hg_rule.specs.declared.view.Sight.{Sight}
use Rattle.hg_rule.specs.declared.view.Sight.TheVariants.{Saw, Heard, Took, Did}
use Rattle.hg_rule.specs.Rounds.{IsNoMark, IsWork, IsRound, mark_in, then_loaded, loaded_after, takes_in, gone_in, IsReportOf, round_told, seen_taken}

work_no_mark : (e : Event) → IsWork e → IsNoMark e
work_no_mark (events.Reclaim p kind rid n) h = tt
work_no_mark (events.Take p mark) h = tt
work_no_mark _ h = absurd h

work_loads_none : (e : Event) → IsWork e → (loaded : List (ℕ × Loaded)) → then_loaded e loaded ≡ loaded
work_loads_none (events.Reclaim p kind rid n) h loaded = refl
work_loads_none (events.Take p mark) h loaded = refl
work_loads_none _ h loaded = absurd h

no_marks : (es more : List Event) → Each IsNoMark es → Each IsWork more → Each IsNoMark (es ++ more)
no_marks [] [] a b = tt
no_marks [] (e ∷ more) a b = (work_no_mark e b.0, no_marks [] more tt b.1)
no_marks (e ∷ es) more a b = (a.0, no_marks es more a.1 b)

-- ---- it is a round still, with the same record

pub round_on : (p : ℕ) (es more : List Event) → IsRound p es → Each IsWork more → IsRound p (es ++ more)
round_on p [] more h w = absurd h
round_on p (events.Mark q mark ∷ es) more h w = (h.0, no_marks es more h.1 w)
round_on p (_ ∷ es) more h w = absurd h

pub mark_on : (p : ℕ) (es more : List Event) → IsRound p es → mark_in (es ++ more) ≡ mark_in es
mark_on p [] more h = absurd h
mark_on p (events.Mark q mark ∷ es) more h = refl
mark_on p (_ ∷ es) more h = absurd h

pub loaded_append : (loaded : List (ℕ × Loaded)) (es more : List Event) → loaded_after loaded (es ++ more) ≡ loaded_after (loaded_after loaded es) more
loaded_append loaded [] more = refl
loaded_append loaded (e ∷ es) more = loaded_append (then_loaded e loaded) es more

work_stays : (loaded : List (ℕ × Loaded)) (more : List Event) → Each IsWork more → loaded_after loaded more ≡ loaded
work_stays loaded [] w = refl
work_stays loaded (e ∷ more) w = ap (λ l. loaded_after l more) (work_loads_none e w.0 loaded) ∙ work_stays loaded more w.1

pub loaded_on : (es more : List Event) → Each IsWork more → loaded_after [] (es ++ more) ≡ loaded_after [] es
loaded_on es more w = loaded_append [] es more ∙ work_stays (loaded_after [] es) more w

-- ---- sums

pub gone_on : (es more : List Event) → gone_in (es ++ more) ≡ gone_in es + gone_in more
gone_on [] more = let e : gone_in more ≡ 0 + gone_in more = omega arith in e
gone_on (e ∷ es) more = go e (gone_on es more)
  where
    go : (e : Event) → gone_in (es ++ more) ≡ gone_in es + gone_in more → gone_in (e ∷ (es ++ more)) ≡ gone_in (e ∷ es) + gone_in more
    go (events.Reclaim p kind rid n) ih = omega (arith, ih)
    go _ ih = ih

pub takes_on : (es more : List Event) → takes_in (es ++ more) ≡ takes_in es + takes_in more
takes_on [] more = let e : takes_in more ≡ 0 + takes_in more = omega arith in e
takes_on (e ∷ es) more = go e (takes_on es more)
  where
    go : (e : Event) → takes_in (es ++ more) ≡ takes_in es + takes_in more → takes_in (e ∷ (es ++ more)) ≡ takes_in (e ∷ es) + takes_in more
    go (events.Take p mark) ih = omega (arith, ih)
    go _ ih = ih

-- ---- what is printed

pub told_is : (kind : Kind) (es : List Event) (report : Report) → IsReportOf kind es report → sweep_of report ≡ round_told kind es
told_is kind es report h = λ i. record { kind = h.kind_is i; mark = h.mark_is i; horizon = h.horizon_is i; removed = h.removed_is i; held = map told_of (h.entries_are i) }

-- ---- groups seen

pub taken_append : (xs ys : List Sight) → seen_taken (xs ++ ys) ≡ max (seen_taken xs) (seen_taken ys)
taken_append [] ys = let e : seen_taken ys ≡ max 0 (seen_taken ys) = omega arith in e
taken_append (x ∷ xs) ys = go x (taken_append xs ys)
  where
    go : (x : Sight) → seen_taken (xs ++ ys) ≡ max (seen_taken xs) (seen_taken ys) → seen_taken (x ∷ (xs ++ ys)) ≡ max (seen_taken (x ∷ xs)) (seen_taken ys)
    go (Saw h) ih = ih
    go (Heard j log) ih = ih
    go (Took n) ih = omega (arith, ih)
    go (Did e) ih = ih
