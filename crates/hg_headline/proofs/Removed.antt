-- What the lines of a replay say that the collectors removed.
use Rattle.std.proofs.Common.{◌≡◌, List, [], ◌∷◌, refl, ap, arith}
use Rattle.std.specs.Prelude.{if◌then◌else◌, sum_by}
use Rattle.std.specs.Option.{option_map_or}
use Rattle.std.proofs.lemmas.List.Sums.{sum_by-cons}
use Rattle.hg_base.specs.declared.report.Kind.{Kind}
use Rattle.hg_base.specs.declared.statement.Record.{Record}
use Rattle.hg_base.specs.declared.line.Line.{Line}
use Rattle.hg_base.specs.declared.line.Reply.{Reply}
use Rattle.hg_base.specs.Transcript.{Said, said, said_from, last_of}
use Rattle.hg_base.specs.Shape.{HasShape, report_of, same_kind}
use Rattle.hg_base.specs.Counts.{removed_by}
use Rattle.hg_headline.specs.Following.{told_by, told_removed}
use Rattle.hg_headline.proofs.Whole.{said_says}

-- read beside their records they say the same
pub removed_said : (kind : Kind) (earlier : List Said) (rs : List Record) (lines : List Line) → HasShape rs lines → sum_by (removed_by kind) (said_from earlier rs lines) ≡ told_removed kind lines
removed_said kind earlier [] [] h = refl
removed_said kind earlier [] (line ∷ lines) h = absurd h
removed_said kind earlier (r ∷ rs) [] h = absurd h
removed_said kind earlier (r ∷ rs) (line ∷ lines) h =
    let now : Said = said earlier r line.reply in
    let one : removed_by kind now ≡ told_by kind line = ap (λ (reply : Reply). option_map_or (λ sweep. if same_kind sweep.kind kind then sweep.removed else 0) (report_of reply) 0)
    (said_says (last_of r.session earlier) r line.reply r.statement).2 in
    let rest = removed_said kind (now ∷ earlier) rs lines h.1 in
    omega (arith, one, rest, sum_by-cons (removed_by kind) now (said_from (now ∷ earlier) rs lines), sum_by-cons (told_by kind) line lines)
