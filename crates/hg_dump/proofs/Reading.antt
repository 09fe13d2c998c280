-- The reader's lines are the replies that its log gives.
use Rattle.std.proofs.Common.{◌≡◌, ℕ, List, [], ◌∷◌, Bool, true, false, Option, None, refl, sym, ap, subst}
use Rattle.std.specs.Prelude.{◌==◌, ◌&&◌, cond, ⊤}
use Rattle.std.specs.Bool.{MatchBool}
use Rattle.hg_base.specs.declared.scope.Scope.TheVariants.{All}
use Rattle.hg_base.specs.declared.statement.Record.{Record}
use Rattle.hg_base.specs.declared.statement.Statement.TheVariants.{Begin, Commit as CommitIt}
use Rattle.hg_base.specs.declared.line.Answer.TheVariants.{Begun, Ended}
use Rattle.hg_base.specs.declared.line.Line.{Line}
use Rattle.hg_base.specs.declared.line.Reply.{Reply}
use Rattle.hg_base.specs.declared.report.Kind.{Kind}
use Rattle.hg_base.specs.Lists.{Each}
use Rattle.hg_base.specs.Shape.{HasShape}
use Rattle.hg_base.specs.Transcript.{Rest, of_session}
use Rattle.hg_core.specs.declared.log.LogEntry.{LogEntry}
use Rattle.hg_core.specs.declared.log.LogEntry.TheVariants.{Began, Over}
use Rattle.hg_core.specs.Logs.{current}
use Rattle.hg_core.specs.Reading.{Tells, is_alone, log_after, log_with}
use Rattle.hg_core.proofs.Answering.{not_alone}
use Rattle.hg_core.proofs.Right.{if_any}
use Rattle.hg_headline.specs.Following.{told_removed}
use Rattle.hg_headline.specs.Ran.{LeavesGc}
use Rattle.hg_headline.proofs.Answering.{nothing_more}
use Rattle.hg_headline.proofs.Words.{same_number, true_false}
use Rattle.hg_dump.specs.Reader.{answered, asked, log_at, read_lines, read_records}

abbrev pub Leaves : Record → Line → Type 0
Leaves r line = LeavesGc r.statement line.reply.answer

pub reader_tells : (buckets j : ℕ) (ats : List ℕ) (log : List LogEntry) (left : Option Rest) → current log ≡ None →
    Tells buckets Leaves log left (read_records j ats) (read_lines j ats) (log_at ats log)
reader_tells buckets j [] log left none = refl
reader_tells buckets j (at ∷ ats) log left none =
    let out : is_alone (current log) (Begin All) ≡ false = not_alone (current log) (Begin All) refl in
    let reply : Reply = (answered j (Begun at)).reply in
    let after : Began at All ∷ log ≡ log_after buckets nothing_more (Begin All) reply log = sym (ap (λ b. log_with b buckets nothing_more (Begin All) reply log) out) in
    let rest : Tells buckets Leaves (Began at All ∷ log) None (asked j CommitIt ∷ read_records j ats) (answered j Ended ∷ read_lines j ats) (log_at ats (Over ∷ Began at All ∷ log)) =
    (tt, (nothing_more, record { at = refl; number = refl; answer = refl; scope = tt; inside = tt }, reader_tells buckets j ats (Over ∷ Began at All ∷ log) None refl, tt)) in (
      tt,
      (
        nothing_more,
        record { at = sym out; number = sym (ap (λ b. b && false) out); answer = tt; scope = if_any (current log) (λ snapshot. ⊤) (λ snapshot. tt); inside = tt },
        subst (λ (l : List LogEntry). Tells buckets Leaves l None (asked j CommitIt ∷ read_records j ats) (answered j Ended ∷ read_lines j ats) (log_at ats (Over ∷ Began at All ∷ log))) after rest,
        tt,
      ),
    )

at_session : (b : Bool) → b ≡ false → MatchBool b ⊥ ⊤
at_session true e = absurd (true_false e)
at_session false e = tt

-- they are at no collector's session
pub reader_shape : (j : ℕ) (ats : List ℕ) → (j == 0) ≡ false → HasShape (read_records j ats) (read_lines j ats)
reader_shape j [] e = tt
reader_shape j (at ∷ ats) e =
    let out : MatchBool (j == 0) ⊥ ⊤ = at_session (j == 0) e in
    (record { session = refl; place = refl; report = out }, (record { session = refl; place = refl; report = out }, reader_shape j ats e))

-- ---- whose they are

pub own_records : (j : ℕ) (ats : List ℕ) → of_session j (read_records j ats) ≡ read_records j ats
own_records j [] = refl
own_records j (at ∷ ats) =
    let here : (j == j) ≡ true = same_number j in
    (λ i. cond (here i) (asked j (Begin All) ∷ cond (here i) (asked j CommitIt ∷ own_records j ats i) (own_records j ats i))
    (cond (here i) (asked j CommitIt ∷ own_records j ats i) (own_records j ats i)))

pub no_records : (j k : ℕ) (ats : List ℕ) → (j == k) ≡ false → of_session k (read_records j ats) ≡ []
no_records j k [] e = refl
no_records j k (at ∷ ats) e =
    (λ i. cond (e i) (asked j (Begin All) ∷ cond (e i) (asked j CommitIt ∷ no_records j k ats e i) (no_records j k ats e i))
    (cond (e i) (asked j CommitIt ∷ no_records j k ats e i) (no_records j k ats e i)))

pub each_read : (P : Record → Type 0) (j : ℕ) (ats : List ℕ) → P (asked j (Begin All)) → P (asked j CommitIt) → Each P (read_records j ats)
each_read P j [] p q = tt
each_read P j (at ∷ ats) p q = (p, (q, each_read P j ats p q))

-- they report nothing
pub told_none : (kind : Kind) (j : ℕ) (ats : List ℕ) → told_removed kind (read_lines j ats) ≡ 0
told_none kind j [] = refl
told_none kind j (at ∷ ats) = told_none kind j ats
