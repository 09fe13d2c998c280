-- Lines that are sound with a reader are sound alone, where no report holds its snapshot.
use Rattle.std.proofs.Common.{◌≡◌, ℕ, ◌≤◌, List, [], ◌∷◌, ◌++◌, ◌⊎◌, inl, inr, Option, Some, None, sym, ap, ◌∙◌, subst}
use Rattle.std.specs.Prelude.{drop, IfSome}
use Rattle.std.proofs.lemmas.Bool.Decides.{Decides-eqb}
use Rattle.hg_base.specs.Freshness.{IsHeld, IsReported}
use Rattle.hg_base.specs.declared.report.Told.{Told}
use Rattle.hg_base.specs.declared.report.Sweep.{Sweep}
use Rattle.hg_base.specs.declared.statement.Record.{Record}
use Rattle.hg_base.specs.declared.line.Line.{Line}
use Rattle.hg_base.specs.declared.line.Printed.{Printed}
use Rattle.hg_base.specs.declared.line.Reply.{Reply}
use Rattle.hg_base.specs.Counts.{AreTotals}
use Rattle.hg_base.specs.History.{Commit, History, IsHistory, NoLostUpdate}
use Rattle.hg_base.specs.Lists.{Each, EachAfter, onto}
use Rattle.hg_base.specs.Script.{Script, run}
use Rattle.hg_base.specs.Shape.{HasShape, report_of}
use Rattle.hg_base.specs.Sound.{IsRight, IsSound, all_said}
use Rattle.hg_base.specs.Transcript.{Said, history_of, in_order, last_of, said, said_from}
use Rattle.hg_headline.proofs.Whole.{said_says}
use Rattle.hg_headline.proofs.Words.{true_false}
use Rattle.hg_dump.specs.Reader.{IsSoundWith, lines_with, reader_of, session_lines, with_reader}
use Rattle.hg_dump.proofs.Parting.{commits_same, history_alone, said_alone, said_with, shape_alone}
use Rattle.hg_dump.proofs.Parting.{first_said as said_first, own_said as said_own, last_said as said_last}
use Rattle.hg_dump.proofs.Silent.{all_rounds, each_round}
use Rattle.hg_dump.specs.Alone.{IsReaders, IsReportedBut, IsRightBut, IsSoundBut}
use Rattle.hg_dump.specs.Reader.{IsHeldAt, IsOfOther}
use Rattle.hg_dump.proofs.Between.{right_without, totals_without}
use Rattle.hg_dump.proofs.Holding.{held_at}
use Rattle.hg_dump.proofs.Quiet.{IsCollecting, IsSilent, reader_silent, rounds_collect, rounds_same}

-- ---- the whole

replies_said : (P : Reply → Type 0) (earlier : List Said) (rs : List Record) (lines : List Line) → Each (λ (line : Line). P line.reply) lines →
    Each (λ (s : Said). P s.reply) (said_from earlier rs lines)
replies_said P earlier [] lines h = tt
replies_said P earlier (r ∷ rs) [] h = tt
replies_said P earlier (r ∷ rs) (line ∷ lines) h = (
  subst P (sym (said_says (last_of r.session earlier) r line.reply r.statement).2) h.0,
  replies_said P
      (said earlier r line.reply ∷ earlier) rs lines h.1,
)

module _ (rounds : ℕ) (script : Script) (ats : List ℕ) (printed : Printed) (s : IsSoundWith rounds script ats printed) where
  abbrev j : ℕ
  j = reader_of script

  abbrev lines : List Line
  lines = printed.lines

  abbrev shape : HasShape (in_order (run rounds) (with_reader script ats).records) (lines_with script ats lines)
  shape = s.lines.shape

  abbrev xs : List Said
  xs = said_first rounds script ats lines shape

  abbrev ys : List Said
  ys = said_own rounds script ats lines shape

  abbrev zs : List Said
  zs = said_last rounds script ats lines shape

  silent : Each (IsSilent j) ys
  silent = reader_silent j ats (onto xs [])

  collecting : Each IsCollecting zs
  collecting = rounds_collect (onto ys (onto xs [])) (all_rounds rounds) (drop (session_lines script) lines) (each_round rounds)

  abbrev all : List Said
  all = all_said (run rounds) script lines

  abbrev both : List Said
  both = all_said (run rounds) (with_reader script ats) (lines_with script ats lines)

  both_is : both ≡ xs ++ (ys ++ zs)
  both_is = said_with rounds script ats lines shape

  all_is : xs ++ zs ≡ all
  all_is = sym (said_alone rounds script ats lines shape ∙ ap (λ l. xs ++ l)
      (rounds_same (onto xs []) (onto ys (onto xs [])) (all_rounds rounds) (drop (session_lines script) lines) (each_round rounds)))

  same : history_of both ≡ history_of all
  same = history_alone rounds script ats lines shape

  own : (told : Told) → IsHeld (xs ++ (ys ++ zs)) told → IsHeldAt script ats told
  own told q = held_at rounds script ats printed s told (subst (λ l. IsHeld l told) (sym both_is) q)

  right : EachAfter (IsRightBut rounds script ats (history_of all) all) [] all
  right =
      subst (λ h. EachAfter (IsRightBut rounds script ats h all) [] all) same
      (subst (λ l. EachAfter (IsRightBut rounds script ats (history_of both) l) [] l) all_is
      (right_without rounds script ats (history_of both) xs ys zs silent collecting own (subst (λ l. EachAfter (IsRight (run rounds) (history_of both) l) [] l) both_is s.lines.right.lines)))

  pub sound_but : IsSoundBut rounds script ats printed
  sound_but = record {
    shape = shape_alone rounds script ats lines shape;
    whole = record {
      numbers = subst (λ ps. Each (λ (p : ℕ × Commit). 1 ≤ p.0) ps) (commits_same rounds script ats lines shape) s.lines.right.whole.numbers;
      history = subst IsHistory same s.lines.right.whole.history;
    };
    kept = subst NoLostUpdate same s.lines.right.kept;
    lines = right;
    totals = subst (λ h. AreTotals all h printed.totals) same
        (subst (λ l. AreTotals l (history_of both) printed.totals) all_is
        (totals_without rounds script ats (history_of both) xs ys zs silent collecting (history_of both) printed.totals (subst (λ l. AreTotals l (history_of both) printed.totals) both_is s.totals)));
  }

-- ---- where no report names the reader

abbrev NoHold : Script → Reply → Type 0
NoHold script reply = IfSome (report_of reply) (λ (sweep : Sweep). Each (IsOfOther script) sweep.held)

all_held : (script : Script) (ats : List ℕ) (said_all : List Said) (held : List Told) → Each (IsOfOther script) held →
    Each (λ (told : Told). IsHeld said_all told ⊎ IsReaders script ats told) held → Each (IsHeld said_all) held
all_held script ats said_all [] n q = tt
all_held script ats said_all (told ∷ held) n q = (go q.0, all_held script ats said_all held n.1 q.1)
  where
    go : IsHeld said_all told ⊎ IsReaders script ats told → IsHeld said_all told
    go (inl k) = k
    go (inr k) = absurd (true_false (sym ((Decides-eqb told.session (reader_of script)).1 k.session) ∙ n.0))

all_reported : (script : Script) (ats : List ℕ) (h : History) (said_all earlier : List Said) (o : Option Sweep) → IfSome o (λ (sweep : Sweep). Each (IsOfOther script) sweep.held) →
    IfSome o (IsReportedBut script ats h said_all earlier) → IfSome o (IsReported h said_all earlier)
all_reported script ats h said_all earlier None n q = tt
all_reported script ats h said_all earlier (Some sweep) n q = record {
  rising = q.rising;
  horizon = q.horizon;
  mark = q.mark;
  sessions = q.sessions;
  held = all_held script ats said_all sweep.held n q.held;
}

all_right : (rounds : ℕ) (script : Script) (ats : List ℕ) (h : History) (said_all earlier some : List Said) → Each (λ (x : Said). NoHold script x.reply) some →
    EachAfter (IsRightBut rounds script ats h said_all) earlier some → EachAfter (IsRight (run rounds) h said_all) earlier some
all_right rounds script ats h said_all earlier [] n r = tt
all_right rounds script ats h said_all earlier (x ∷ some) n r = (
  record { reply = r.0.reply; conflict = r.0.conflict; fresh = record { rising = r.0.rising; exact = tt; report = all_reported script ats h said_all earlier (report_of x.reply) n.0 r.0.report } },
  all_right rounds script ats h said_all (x ∷ earlier) some n.1 r.1,
)

pub sound_alone : (rounds : ℕ) (script : Script) (ats : List ℕ) (printed : Printed) → IsSoundWith rounds script ats printed →
    Each (λ (line : Line). NoHold script line.reply) printed.lines → IsSound (run rounds) script printed
sound_alone rounds script ats printed s none =
    let but = sound_but rounds script ats printed s in
    let all : List Said = all_said (run rounds) script printed.lines in
    record {
      lines = record {
        shape = but.shape;
        right = record {
          whole = but.whole;
          kept = but.kept;
          lines = all_right rounds script ats (history_of all) all [] all
              (replies_said (NoHold script) [] (in_order (run rounds) script.records) printed.lines none) but.lines;
        };
      };
      totals = but.totals;
    }
