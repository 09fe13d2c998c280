use Rattle.std.proofs.Common.{[], ◌∷◌, ◌++◌, add-one, length, take, ap, ◌∙◌, subst}
use Rattle.std.specs.List.{flat_map}
use Rattle.hg_base.specs.Values.{FitsValue}
use Rattle.hg_base.specs.Packed.{packed_value}
use Rattle.hg_base.proofs.Packing.{bytes_more, fit_more}
use Rattle.hg_base.proofs.packed.pack.Goals as goal

pub loop-value-init : goal.loop-value-init
loop-value-init c = (c.in_ok-push.ensures.items ∙ ap (λ bytes. bytes ++ length c.args.values.now ∷ []) c.new-bytes.ensures.items, tt)

pub loop-value-preserved : goal.loop-value-preserved
loop-value-preserved c =
    let vs = c.args.values.now in
    let i = c.loop-value.value-index in
    let v = c.value-item.result in
    let behind = c.in_ok-pack_value.ensures.bytes ∙ ap (λ bytes. bytes ++ packed_value v) c.loop-value.invariant.0 in
    let bytes = ap (λ x. length vs ∷ (flat_map packed_value (take i vs) ++ packed_value x)) c.value-item.is ∙ ap (λ bytes. length vs ∷ bytes) (bytes_more vs i v c.loop-value-test.true) in
    rw (add-one i) (behind ∙ bytes, fit_more vs i v c.loop-value-test.true c.loop-value.invariant.1 (subst FitsValue c.value-item.is c.in_ok-pack_value.ensures.fits))
