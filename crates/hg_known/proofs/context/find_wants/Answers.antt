use Rattle.std.proofs.Common.{◌≡◌, ◌<◌, ◌≤◌, ◌∙◌, ap, arith, length, get_or}
use Rattle.std.specs.Prelude.{◌&&◌}
use Rattle.std.specs.List.{list_any}
use Rattle.std.proofs.lemmas.List.{get_or_default}
use Rattle.hg_known.specs.Asked.{names_writer, tells_held}
use Rattle.hg_known.proofs.Walking.{AtLine, at_line, take_all}
use Rattle.hg_known.proofs.Asking.{any_next, no_line}
use Rattle.hg_known.proofs.context.find_wants.Goals as goal

pub loop-k-preserved : goal.loop-k-preserved
loop-k-preserved c =
    let xs = c.args.all.now in
    let k = c.loop-k.k in
    let less : k < length xs = omega (arith, c.len-k-end.ensures.same) in
    let now = get_or xs k no_line in
    let is : now ≡ get_or xs k now = get_or_default xs k no_line now less in
    let at : AtLine xs k now = at_line xs k now less is in
    let replied = c.reply-reply.ensures now is in
    record {
      numbers = any_next names_writer xs k now at c.loop-k.numbers c.names_writer-names.result c.loop-k.invariant.numbers (c.names_writer-names.ensures now replied);
      points = any_next tells_held xs k now at c.loop-k.points c.tells_held-tells.result c.loop-k.invariant.points (c.tells_held-tells.ensures now replied);
    }

pub returns : goal.returns
returns c =
    let xs = c.args.all.now in
    let over : length xs ≤ c.loop-k.k = omega (arith, c.len-k-end.ensures.same) in
    let whole = take_all xs c.loop-k.k over in
    let numbers : c.loop-k.numbers ≡ list_any names_writer xs = c.loop-k.invariant.numbers ∙ ap (list_any names_writer) whole in
    let points : c.loop-k.points ≡ list_any tells_held xs = c.loop-k.invariant.points ∙ ap (list_any tells_held) whole in
    λ i. record { stored = c.args.is_run && numbers i; numbers = numbers i; points = points i }
