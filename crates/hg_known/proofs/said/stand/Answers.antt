use Rattle.std.proofs.Common.{◌∙◌, sym, ap, arith}
use Rattle.std.specs.Prelude.{option_map}
use Rattle.hg_base.specs.Transcript.{last_of}
use Rattle.hg_known.specs.Lines.{rest_of}
use Rattle.hg_known.proofs.said.stand.Goals as goal

pub returns-in-Begin-clause-rest : goal.returns-in-Begin-clause-rest
returns-in-Begin-clause-rest c =
    λ earlier same is.
    ap (option_map rest_of) c.outside-bare.ensures.rest
    ∙ sym (is.later c.next_after-next.result (omega (arith, c.next_after-next.ensures.next (last_of c.args.asked.session earlier) (sym same))))

pub returns-in-CursorOpen-clause-rest : goal.returns-in-CursorOpen-clause-rest
returns-in-CursorOpen-clause-rest c =
    λ earlier same is.
    ap (option_map rest_of) c.outside-bare.ensures.rest
    ∙ sym (is.later c.next_after-next.result (omega (arith, c.next_after-next.ensures.next (last_of c.args.asked.session earlier) (sym same))))
