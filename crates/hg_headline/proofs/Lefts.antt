-- What each session's cursor has left, after a line.
use Rattle.std.proofs.Common.{ℕ, List, ◌∷◌, Option}
use Rattle.std.specs.Prelude.{if◌then◌else◌}
use Rattle.hg_base.specs.declared.statement.Record.{Record}
use Rattle.hg_base.specs.declared.line.Reply.{Reply}
use Rattle.hg_base.specs.Transcript.{Said, Rest, last_of, said, rest_after}
use Rattle.hg_base.proofs.Resting.{ShowsRest, left_other, left_own}
use Rattle.hg_core.specs.Events.{put}
use Rattle.hg_core.proofs.Indices.{by_number}
use Rattle.hg_headline.proofs.Whole.{said_says, differs_from}

pub left_step : (earlier : List Said) (r : Record) (reply : Reply) (left : ℕ → Option Rest) → ((j : ℕ) → ShowsRest j earlier (left j)) → (j : ℕ) →
    ShowsRest j (said earlier r reply ∷ earlier) (put left r.session (rest_after r.statement reply.answer (left r.session)) j)
left_step earlier r reply left h j =
    let now : Said = said earlier r reply in
    let says = said_says (last_of r.session earlier) r reply r.statement in
    by_number r.session (λ i b. ShowsRest i (now ∷ earlier) (if b then rest_after r.statement reply.answer (left r.session) else left i))
    (left_own earlier r.place r.session reply r.statement (left r.session) (h r.session))
    (λ i e. left_other i earlier now (left i) (differs_from now.session r.session i says.0 e) (h i)) j
