-- Line by line, from the logs to what each line shows.
use Rattle.std.proofs.Common.{ℕ, ◌<◌, List, [], ◌∷◌, Option, sym, subst}
use Rattle.std.specs.Prelude.{if◌then◌else◌}
use Rattle.hg_base.specs.declared.rid.Rid.{Rid}
use Rattle.hg_base.specs.declared.statement.Record.{Record}
use Rattle.hg_base.specs.declared.line.Line.{Line}
use Rattle.hg_base.specs.Lists.{EachAfter, onto}
use Rattle.hg_base.specs.Script.{Mode}
use Rattle.hg_base.specs.History.{History}
use Rattle.hg_base.specs.Transcript.{Said, last_of, said, said_from}
use Rattle.hg_core.specs.declared.log.LogEntry.{LogEntry}
use Rattle.hg_core.specs.Contents.{bucket_of}
use Rattle.hg_core.specs.Judged.{Judged}
use Rattle.hg_core.specs.Replies.{AreReplied}
use Rattle.hg_core.specs.Events.{put}
use Rattle.hg_core.specs.Reading.{log_after, Follows}
use Rattle.hg_core.proofs.Indices.{by_number, put_here}
use Rattle.hg_headline.proofs.Ties.{Ties, ties_other}
use Rattle.hg_base.proofs.Resting.{ShowsRest}
use Rattle.hg_headline.proofs.LineParts.{Right, AsCollected}
use Rattle.hg_headline.proofs.Lines.{line_right}
use Rattle.hg_base.specs.Transcript.{Rest, rest_after}
use Rattle.hg_headline.proofs.Lefts.{left_step}
use Rattle.hg_headline.proofs.Whole.{OfBeginnings, follows_first, judged_less, replied_less, said_says, differs_from, IsTold, AtLine}

pub lines_told : (mode : Mode) (buckets : ℕ) (h k : History) (all_logs : ℕ → List LogEntry) (all : List Said) (P : (ℕ → List LogEntry) → Record → Line → Type 0) (Q : ℕ →
    List LogEntry → Type 0) → OfBeginnings Q → ((r : Rid) → bucket_of buckets r < buckets) →
    ((logs : ℕ → List LogEntry) (r : Record) (line : Line) → P logs r line → AsCollected mode r.session r.statement line.reply.answer) →
    (rs : List Record) (lines : List Line) (logs final : ℕ → List LogEntry) (earlier : List Said) → ((j : ℕ) → Ties j earlier (logs j)) → (left : ℕ → Option Rest) →
    ((j : ℕ) → ShowsRest j earlier (left j)) → Follows buckets P logs left rs lines final → ((j : ℕ) → Judged h (final j)) →
    ((j : ℕ) → AreReplied buckets h all_logs j (final j)) → ((j : ℕ) → Q j (final j)) →
    EachAfter (λ es now. IsTold mode h k all_logs all es now × AtLine buckets P Q es now) earlier (said_from earlier rs lines) ×
    ((j : ℕ) → Ties j (onto (said_from earlier rs lines) earlier) (final j))
lines_told mode buckets h k all_logs all P Q less places gc [] [] logs final earlier t left shown f d g q = (tt, λ j. subst (Ties j earlier) (sym (f j)) (t j))
lines_told mode buckets h k all_logs all P Q less places gc [] (line ∷ lines) logs final earlier t left shown f d g q = absurd f
lines_told mode buckets h k all_logs all P Q less places gc (r ∷ rs) [] logs final earlier t left shown f d g q = absurd f
lines_told mode buckets h k all_logs all P Q less places gc (r ∷ rs) (line ∷ lines) logs final earlier t left shown f d g q =
    let now : Said = said earlier r line.reply in
    let after : List LogEntry = log_after buckets f.1.0 r.statement line.reply (logs r.session) in
    let next : ℕ → List LogEntry = put logs r.session after in
    let judged : Judged h after = subst (Judged h) (put_here logs r.session after) (follows_first (λ j l. Judged h l) (judged_less h) buckets P rs lines next final
    (put left r.session (rest_after r.statement line.reply.answer (left r.session))) f.1.2 d r.session) in
    let replied : AreReplied buckets h all_logs r.session after = subst (AreReplied buckets h all_logs r.session) (put_here logs r.session after)
    (follows_first (AreReplied buckets h all_logs) (replied_less buckets h all_logs) buckets P rs lines next final
    (put left r.session (rest_after r.statement line.reply.answer (left r.session))) f.1.2 g r.session) in
    let right : Right h all_logs mode k all earlier now r.session after =
    line_right mode buckets h k all_logs all earlier f.1.0 (logs r.session) r.place r.session r.statement line.reply places (t r.session) f.1.1 (gc logs r line f.0) judged replied
    (left r.session) (shown r.session) f.1.3 in
    let says = said_says (last_of r.session earlier) r line.reply r.statement in
    let more = lines_told mode buckets h k all_logs all P Q less places gc rs lines next final (now ∷ earlier)
    (by_number r.session (λ i b. Ties i (now ∷ earlier) (if b then after else logs i)) right.ties
    (λ i e. ties_other i earlier now (logs i) (differs_from now.session r.session i says.0 e) (t i)))
    (put left r.session (rest_after r.statement line.reply.answer (left r.session))) (left_step earlier r line.reply left shown) f.1.2 d g q in (
      (
        (
          record { reply = right.reply; conflict = right.conflict; rising = right.rising; commit = right.commit },
          record {
            logs = logs;
            asked = r;
            line = line;
            ties = t;
            met = f.0;
            holds = follows_first Q less buckets P (r ∷ rs) (line ∷ lines) logs final left f q;
            unprinted = f.1.0;
            fits = f.1.1;
            says = says;
          },
        ),
        more.0,
      ),
      more.1,
    )
