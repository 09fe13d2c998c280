-- What lines tell of rounds.
use Rattle.std.specs.Prelude.{ℕ, suc, List, [], ◌∷◌, filter, filter_map, None}
use Rattle.std.specs.List.{cons_option}
use Rattle.hg_base.specs.declared.line.Answer.TheVariants.{Swept}
use Rattle.hg_base.specs.declared.line.Line.{Line}
use Rattle.hg_base.specs.declared.line.Reply.{Reply}
use Rattle.hg_base.specs.declared.report.Kind.{Kind}
use Rattle.hg_base.specs.declared.report.Sweep.{Sweep}
use Rattle.hg_base.specs.Shape.{same_kind, report_of}

-- the reply that reports a round
abbrev pub reply_of : Sweep → Reply
reply_of sweep = record { at = None; answer = Swept sweep; number = None }

-- the lines of a collector's rounds in a run, the first one in round n
abbrev pub sweep_lines : ℕ → List Sweep → List Line
sweep_lines n [] = []
sweep_lines n (sweep ∷ sweeps) = record { session = 0; place = n; reply = reply_of sweep } ∷ sweep_lines (suc n) sweeps

-- what a reply reports of a round of one kind of collector
abbrev pub sweeps_in : Kind → Reply → List Sweep
sweeps_in kind reply = filter (λ sweep. same_kind sweep.kind kind) (cons_option (report_of reply) [])

-- and what the lines tell of such rounds
abbrev pub sweeps_of : Kind → List Line → List Sweep
sweeps_of kind lines = filter (λ sweep. same_kind sweep.kind kind) (filter_map (λ line. report_of line.reply) lines)
