-- The lines of a run tell the rounds that each collector made.
use Rattle.std.proofs.Common.{◌≡◌, ℕ, zero, suc, List, [], ◌∷◌, ◌++◌, length, Bool, true, false, Option, None, refl, sym, ap, ◌∙◌, subst}
use Rattle.std.specs.Prelude.{cond, filter, filter_map}
use Rattle.std.specs.List.{cons_option, flat_map}
use Rattle.std.proofs.lemmas.List.Elements.{filter_map-append}
use Rattle.hg_base.specs.declared.line.Line.{Line}
use Rattle.hg_base.specs.declared.report.Kind.{Kind}
use Rattle.hg_base.specs.declared.report.Kind.TheVariants.{Group, Table, Interval}
use Rattle.hg_base.specs.declared.report.Sweep.{Sweep}
use Rattle.hg_base.specs.declared.statement.Record.{Record}
use Rattle.hg_base.specs.Lists.{Each, numbers_from}
use Rattle.hg_base.specs.Script.{Script}
use Rattle.hg_base.specs.Shape.{report_of, same_kind}
use Rattle.hg_base.specs.Transcript.{Rest, of_session, rest_after}
use Rattle.hg_base.proofs.ListFacts.{append_nil, each_append}
use Rattle.hg_core.specs.declared.log.LogEntry.{LogEntry}
use Rattle.hg_core.specs.Logs.{own_writes}
use Rattle.hg_core.specs.Reading.{Tells, log_after}
use Rattle.hg_headline.specs.Ran.{LeavesGc}
use Rattle.hg_headline.proofs.Reports.{no_report}
use Rattle.hg_rule.specs.declared.view.Sizes.{Sizes}
use Rattle.hg_rule.specs.declared.view.View.{View}
use Rattle.hg_session.specs.declared.session.Session.{Session}
use Rattle.hg_session.specs.Finished.{logs_of}
use Rattle.hg_collectors.specs.declared.collectors.Collectors.{Collectors}
use Rattle.hg_collectors.specs.Collecting.{view_in}
use Rattle.hg_collectors.specs.Rounding.{IsRoundBy, AreRounds}
use Rattle.hg_collectors.specs.Telling.{sweep_lines, sweeps_of}
use Rattle.hg_collectors.proofs.Driving.{swept_of, told_append}
use Rattle.hg_run.specs.Driven.{HasDrivenAll}

-- ---- the lines of rounds

-- they are of session 0
outside : (n : ℕ) (sweeps : List Sweep) → Each (λ (line : Line). line.session ≡ 0) (sweep_lines n sweeps)
outside n [] = tt
outside n (sweep ∷ sweeps) = (refl, outside (suc n) sweeps)

lines_told : (n : ℕ) (sweeps : List Sweep) → filter_map (λ (line : Line). report_of line.reply) (sweep_lines n sweeps) ≡ sweeps
lines_told n [] = refl
lines_told n (sweep ∷ sweeps) = ap (λ l. sweep ∷ l) (lines_told (suc n) sweeps)

-- rounds of one kind are told as rounds of that kind alone
kinds_told : (kind k : Kind) (z : Sizes) (long : ℕ) (v w : View) (sweeps : List Sweep) → AreRounds (IsRoundBy kind z long) v sweeps w →
    filter (λ (sweep : Sweep). same_kind sweep.kind k) sweeps ≡ cond (same_kind kind k) sweeps []
kinds_told kind k z long v w [] m = go (same_kind kind k)
  where
    go : (t : Bool) → ◌≡◌ {A = List Sweep} [] (cond t [] [])
    go true = refl
    go false = refl
kinds_told kind k z long v w (sweep ∷ sweeps) (a, (m, (b, (round, rest)))) =
    subst (λ t. cond t (sweep ∷ filter (λ (s : Sweep). same_kind s.kind k) sweeps) (filter (λ (s : Sweep). same_kind s.kind k) sweeps) ≡ cond (same_kind kind k) (sweep ∷ sweeps) [])
    (sym (ap (λ (x : Kind). same_kind x k) is)) (go (same_kind kind k) (kinds_told kind k z long b w sweeps rest))
  where
    is : sweep.kind ≡ kind
    is = ap (λ (s : Sweep). s.kind) (swept_of kind z long a b sweep round).told

    go : (t : Bool) → filter (λ (s : Sweep). same_kind s.kind k) sweeps ≡ cond t sweeps [] →
        cond t (sweep ∷ filter (λ (s : Sweep). same_kind s.kind k) sweeps) (filter (λ (s : Sweep). same_kind s.kind k) sweeps) ≡ cond t (sweep ∷ sweeps) []
    go true later = ap (λ l. sweep ∷ l) later
    go false later = later

told_lines : (kind k : Kind) (z : Sizes) (long : ℕ) (v w : View) (sweeps : List Sweep) → AreRounds (IsRoundBy kind z long) v sweeps w →
    sweeps_of k (sweep_lines 1 sweeps) ≡ cond (same_kind kind k) sweeps []
told_lines kind k z long v w sweeps rounds = ap (filter (λ (s : Sweep). same_kind s.kind k)) (lines_told 1 sweeps) ∙ kinds_told kind k z long v w sweeps rounds

-- ---- sessions' lines tell of none

abbrev report : Line → Option Sweep
report line = report_of line.reply

no_reports : (buckets : ℕ) (rs : List Record) (lines : List Line) (log final : List LogEntry) (left : Option Rest) →
    Tells buckets (λ r line. LeavesGc r.statement line.reply.answer) log left rs lines final → filter_map report lines ≡ []
no_reports buckets [] [] log final left t = refl
no_reports buckets [] (line ∷ lines) log final left t = absurd t
no_reports buckets (r ∷ rs) [] log final left t = absurd t
no_reports buckets (r ∷ rs) (line ∷ lines) log final left t =
    ap (λ o. cons_option o (filter_map report lines)) (no_report buckets t.1.0 (own_writes log) r.statement line.reply.answer t.0 t.1.1.answer) ∙
    no_reports buckets rs lines (log_after buckets t.1.0 r.statement line.reply log) final (rest_after r.statement line.reply.answer left) t.1.2

flat_reports : (lines : ℕ → List Line) → ((j : ℕ) → filter_map report (lines j) ≡ []) → (i n : ℕ) → filter_map report (flat_map lines (numbers_from i n)) ≡ []
flat_reports lines none i zero = refl
flat_reports lines none i (suc n) = filter_map-append report (lines i) (flat_map lines (numbers_from (suc i) n)) ∙ (λ j. none i j ++ flat_reports lines none (suc i) n j)

-- ---- all lines

module _ (z : Sizes) (long rounds : ℕ) (script : Script) (old new : List Session) (before after : Collectors) (all : List Line)
    (d : HasDrivenAll z long rounds script.records old before all new after) where
  abbrev pub others : List Line
  others = sweep_lines 1 (d.sweeps Group) ++ (sweep_lines 1 (d.sweeps Table) ++ sweep_lines 1 (d.sweeps Interval))

  pub others_outside : Each (λ (line : Line). line.session ≡ 0) others
  others_outside = each_append (λ (line : Line). line.session ≡ 0) (sweep_lines 1 (d.sweeps Group)) _ (outside 1 (d.sweeps Group))
      (each_append (λ (line : Line). line.session ≡ 0) (sweep_lines 1 (d.sweeps Table)) _ (outside 1 (d.sweeps Table)) (outside 1 (d.sweeps Interval)))

  pub told_rounds : (k : Kind) → sweeps_of k all ≡ d.sweeps k
  told_rounds k = ap (sweeps_of k) d.told ∙ (told_append k flat (g ++ (t ++ i)) ∙
      ((λ j. flat_told j ++ (told_append k g (t ++ i) ∙ (λ j. of_kind Group j ++ (told_append k t i ∙ (λ j. of_kind Table j ++ of_kind Interval j)) j)) j) ∙ only k))
    where
      flat : List Line
      flat = flat_map d.lines (numbers_from 1 (length old))

      g : List Line
      g = sweep_lines 1 (d.sweeps Group)

      t : List Line
      t = sweep_lines 1 (d.sweeps Table)

      i : List Line
      i = sweep_lines 1 (d.sweeps Interval)

      flat_told : sweeps_of k flat ≡ []
      flat_told = ap (filter (λ (s : Sweep). same_kind s.kind k))
          (flat_reports d.lines (λ j. no_reports z.buckets (of_session j script.records) (d.lines j) (logs_of old j) (d.worked j).log None (d.worked j).tells) 1 (length old))

      of_kind : (kind : Kind) → sweeps_of k (sweep_lines 1 (d.sweeps kind)) ≡ cond (same_kind kind k) (d.sweeps kind) []
      of_kind kind = told_lines kind k z long (view_in kind before) (view_in kind after) (d.sweeps kind) (d.made kind)

      only : (k : Kind) → [] ++ (cond (same_kind Group k) (d.sweeps Group) [] ++ (cond (same_kind Table k) (d.sweeps Table) [] ++ cond (same_kind Interval k) (d.sweeps Interval) [])) ≡ d.sweeps k
      only Group = append_nil (d.sweeps Group)
      only Table = append_nil (d.sweeps Table)
      only Interval = refl
