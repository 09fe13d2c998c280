use Rattle.std.proofs.Common.{◌≡◌, ◌+◌, suc, length, refl, sym, subst, arith}
use Rattle.csv.specs.Records.{fields_of}
use Rattle.hg_talk.specs.Framing as framing
use Rattle.hg_talk.specs.declared.trouble.Stop.TheVariants as stop
use Rattle.hg_exact.specs.Conversed.{Counted, accepted, lines_of}
use Rattle.hg_exact.proofs.Due.{due_totals}
use Rattle.hg_run.specs.declared.desk.Desk.{Desk}
use Rattle.hg_run.specs.Collecting.{AreCollectors}
use Rattle.hg_run.specs.Untold.{HaveTold}
use Rattle.hg_run.proofs.Desking.{ended_now, said_quiet, stops}
use Rattle.hg_run.proofs.Stopping.{live_stopped}
use Rattle.hg_run.proofs.desk.Desk.say_totals.Goals as goal

pub returns-in_err-totals_text-clause-ended : goal.returns-in_err-totals_text-clause-ended
returns-in_err-totals_text-clause-ended g c =
    let d = c.args.self.now in
    let count = c.count_live-totals in
    stops _ _ stop.NoMemory c.from_residual.ensures.1 (λ sent answers h. ended_now _ sent answers stop.NoMemory h.due h.balanced
    (live_stopped d.engine count.new.crew.sessions.items d.last (accepted sent).records (lines_of answers) (count.ensures.live (accepted sent).records (lines_of answers) h.live))
    (subst (AreCollectors d.engine) (sym count.ensures.collectors) h.collectors) tt)

pub returns-clause-said : goal.returns-clause-said
returns-clause-said g c sent answers h =
    let d = c.args.self.now in
    let count = c.count_live-totals in
    let r = fields_of c.args.row.now in
    let place : d.place + 1 ≡ suc (length sent) = (let p = h.place in omega (arith, p)) in
    said_quiet _ sent answers (framing.Record r) (Counted count.result) (accepted sent) _ _
    (due_totals sent answers r count.result h.due c.requires.asks (count.ensures.made (accepted sent) (lines_of answers) h.live) (count.ensures.undone (accepted sent) (lines_of answers) h.live))
    refl refl count.ensures.balance h.balanced place h.knows (count.ensures.live (accepted sent).records (lines_of answers) h.live)
    (subst (λ cs. HaveTold cs (lines_of answers)) (sym count.ensures.collectors) h.told) (subst (AreCollectors d.engine) (sym count.ensures.collectors) h.collectors) h.for_all
    c.in_ok-totals_text.ensures.text
