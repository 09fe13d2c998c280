-- What is known once all passes of an engine, and then its sessions, went to one pass.
use Rattle.std.proofs.Common.{◌≡◌, ℕ, List, refl, sym, ap, ◌∙◌, subst}
use Rattle.hg_base.specs.declared.report.Kind.{Kind}
use Rattle.hg_base.specs.declared.report.Kind.TheVariants.{Group, Table, Interval}
use Rattle.hg_core.specs.declared.log.LogEntry.{LogEntry}
use Rattle.hg_rule.specs.declared.view.View.{View}
use Rattle.hg_rule.specs.Reading.{passes_in}
use Rattle.hg_rule.specs.Views.{number, pass, pass_there, part_number, first_in}
use Rattle.hg_session.specs.declared.engine.Engine.{Engine}
use Rattle.hg_session.specs.declared.session.Session.{Session}
use Rattle.hg_session.specs.Engines.{engine_sizes}
use Rattle.hg_session.specs.Ended.{logs_in, visits_in, IsEnded}
use Rattle.hg_session.specs.Finished.{logs_of}
use Rattle.hg_session.specs.OneRun.{journals_in}
use Rattle.hg_session.specs.Passing.{journals_of, visits_of}
use Rattle.hg_session.specs.Settled.{HasHeardAll}
use Rattle.hg_rule.specs.Facts.{IsHeard}
use Rattle.hg_session.proofs.Bringing.{ended_finished, heard_finished, journals_finished, logs_finished, passes_finished, visits_finished}
use Rattle.hg_collectors.specs.declared.collectors.Collectors.{Collectors}
use Rattle.hg_run.specs.Closed.{AreAllThere, HasBrought, HasCome}
use Rattle.hg_run.specs.Collecting.{passes_of}
use Rattle.hg_collectors.specs.Collecting.{view_in}
use Rattle.hg_run.proofs.Begun.{all_come}
use Rattle.hg_collectors.proofs.Among.{by_kind}

pub brought_come : (e : Engine) (list : List Session) (collectors : Collectors) (w : View) → HasBrought e list collectors w → (kind : Kind) → HasCome (view_in kind collectors) w
brought_come e list collectors w b kind =
    let p = b.passes in
    let all = all_come (view_in Group collectors) (view_in Table collectors) (view_in Interval collectors) b.joined w w
    (p.seen Group, p.seen Table, p.seen Interval) p.did p.events b.went.kept b.went.events refl in
    by_kind (λ k. HasCome (view_in k collectors) w) all.0 all.1 all.2 kind

module _ (e : Engine) (list : List Session) (collectors : Collectors) (w : View) (a : AreAllThere e list collectors w) where
  pub there_ended : IsEnded (engine_sizes e) w
  there_ended = ended_finished e a.brought.joined w list a.brought.passes.own a.closed a.brought.passes.none a.brought.went a.many a.brought.passes.passes

  pub there_logs : logs_in w ≡ logs_of list
  there_logs = logs_finished e a.brought.joined w list a.brought.passes.own a.closed a.brought.passes.none a.brought.went

  pub there_heard : HasHeardAll (engine_sizes e) w
  there_heard j is = subst (λ (logs : ℕ → List LogEntry). IsHeard j (logs j) w.sights) (sym there_logs)
      (heard_finished e a.brought.joined w list a.brought.passes.own a.closed a.brought.passes.none a.brought.went j)

  pub there_visits : visits_in w ≡ visits_of (passes_of collectors)
  there_visits = visits_finished e a.brought.joined w list a.brought.passes.own a.closed a.brought.passes.none a.brought.went ∙ a.brought.passes.visits

  pub there_journals : journals_in w ≡ journals_of (passes_of collectors)
  there_journals = journals_finished e a.brought.joined w list a.brought.passes.own a.closed a.brought.passes.none a.brought.went ∙ a.brought.passes.journals

  -- the table collector's part is the pass's own
  pub there_own : (number w ≡ 1) × (pass w ≡ pass (view_in Table collectors))
  there_own = (
    ap part_number a.brought.went.parts ∙ a.brought.passes.stays.0,
    ap (λ ps. pass_there (first_in ps)) a.brought.went.parts ∙ a.brought.passes.stays.1,
  )

  pub there_three : passes_in w.parts ≡ 3
  there_three = passes_finished e a.brought.joined w list a.brought.passes.own a.closed a.brought.passes.none a.brought.went ∙ a.brought.passes.three
