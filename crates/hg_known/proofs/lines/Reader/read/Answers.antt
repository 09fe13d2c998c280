use Rattle.std.proofs.Common.{◌≡◌, ℕ, List, ◌<◌, ◌≤◌, ◌^◌, ◌∙◌, sym, ap, subst, arith, length, take, get_or, []}
use Rattle.std.specs.Prelude.{option_map, IfSome}
use Rattle.std.specs.Map.{lookup}
use Rattle.std.specs.BTreeMap.{get, is_at}
use Rattle.std.specs.Ordering.{nat_cmp}
use Rattle.std.proofs.lemmas.List.{get_or_default}
use Rattle.hg_base.specs.Lists.{onto}
use Rattle.hg_base.specs.Transcript.{Said, said}
use Rattle.hg_base.specs.declared.statement.Record.{Record}
use Rattle.hg_known.specs.Lines.{said_of, AreLasts, AreRests, HasRest, IsRest, OpensKnown, number_of, without_rest}
use Rattle.hg_known.proofs.Reading.{all_read, known_at, reach_far, read_at, reply_at}
use Rattle.hg_known.proofs.Walking.{AtLine, at_line, earlier_at, earlier_next}
use Rattle.hg_known.proofs.lines.Reader.read.Goals as goal

pub record-requires : goal.record-requires
record-requires c =
    let ls = c.all.inside in
    let xs = c.self.inside.all.now in
    let many : length xs ≡ length ls.lines.now = sym (ap length c.all.view_is) ∙ all_read [] ls.sequence.now ls.lines.now c.all.invariant.0 in
    let here : c.self.inside.at ≡ c.args.self.now.0 = λ i. (c.self.view_is i).0 in
    let its : length xs ≡ length c.args.self.now.1 = λ i. length (c.self.view_is i).1 in
    omega (arith, many, here, its, c.requires, c.all.invariant.0)

pub read_line-requires-clause-reach : goal.read_line-requires-clause-reach
read_line-requires-clause-reach c =
    let ls = c.all.inside in
    let xs = c.self.inside.all.now in
    let k = c.self.inside.at in
    let many : length xs ≡ length ls.lines.now = sym (ap length c.all.view_is) ∙ all_read [] ls.sequence.now ls.lines.now c.all.invariant.0 in
    let here : k ≡ c.args.self.now.0 = λ i. (c.self.view_is i).0 in
    let its : length xs ≡ length c.args.self.now.1 = λ i. length (c.self.view_is i).1 in
    let most : k ≤ 2 ^ 63 = omega (arith, many, here, its, c.requires, c.all.invariant.1) in
    λ j. reach_far k (2 ^ 63) _ most (c.self.invariant.2 j)

pub read_line-requires-clause-known : goal.read_line-requires-clause-known
read_line-requires-clause-known c =
    let ls = c.all.inside in
    let xs = c.self.inside.all.now in
    let k = c.self.inside.at in
    let many : length xs ≡ length ls.lines.now = sym (ap length c.all.view_is) ∙ all_read [] ls.sequence.now ls.lines.now c.all.invariant.0 in
    let here : k ≡ c.args.self.now.0 = λ i. (c.self.view_is i).0 in
    let its : length xs ≡ length c.args.self.now.1 = λ i. length (c.self.view_is i).1 in
    let long : k < length ls.sequence.now = omega (arith, many, here, its, c.requires, c.all.invariant.0) in
    subst (λ (r : Record). OpensKnown r.statement) (sym c.in_ok-record.ensures) (known_at ls.sequence.now k c.in_ok-record.record long c.all.invariant.2)

pub overflow_add-self : goal.overflow_add-self
overflow_add-self c =
    let ls = c.all.inside in
    let xs = c.self.inside.all.now in
    let many : length xs ≡ length ls.lines.now = sym (ap length c.all.view_is) ∙ all_read [] ls.sequence.now ls.lines.now c.all.invariant.0 in
    let here : c.self.inside.at ≡ c.args.self.now.0 = λ i. (c.self.view_is i).0 in
    let its : length xs ≡ length c.args.self.now.1 = λ i. length (c.self.view_is i).1 in
    omega (arith, many, here, its, c.requires, c.all.invariant.1)

pub returns-clause-said : goal.returns-clause-said
returns-clause-said c =
    let ls = c.all.inside in
    let xs = c.self.inside.all.now in
    let k = c.self.inside.at in
    let now = said_of c.in_ok-said.said in
    let r = c.in_ok-record.record in
    let reply = c.reply-reply.result.now in
    let same = c.all.invariant.0 in
    let many : length xs ≡ length ls.lines.now = sym (ap length c.all.view_is) ∙ all_read [] ls.sequence.now ls.lines.now same in
    let here : k ≡ c.args.self.now.0 = λ i. (c.self.view_is i).0 in
    let its : length xs ≡ length c.args.self.now.1 = λ i. length (c.self.view_is i).1 in
    let less : k < length xs = omega (arith, here, its, c.requires) in
    let short : k < length ls.lines.now = omega (arith, less, many) in
    let long : k < length ls.sequence.now = omega (arith, short, same) in
    let it = get_or xs k now in
    let replied : reply ≡ it.reply = c.reply-reply.ensures it (get_or_default xs k now it less) in
    let is : get_or xs k now ≡ said (onto (take k xs) []) r reply =
    (λ i. get_or (sym c.all.view_is i) k now)
    ∙ read_at [] ls.sequence.now ls.lines.now k r reply now long short c.in_ok-record.ensures (λ line e. replied ∙ (λ i. (get_or (sym c.all.view_is i) k now).reply) ∙
    sym (reply_at [] ls.sequence.now ls.lines.now k line now same short e))
    ∙ (λ i. said (onto (take k (c.all.view_is i)) []) r reply) in
    c.in_ok-said.ensures.said (onto (take k xs) []) c.self.invariant.0 ∙ sym is ∙ (λ i. get_or (c.self.view_is i).1 (c.self.view_is i).0 now)

pub returns-clause-rest : goal.returns-clause-rest
returns-clause-rest c =
    subst (λ (p : ℕ × List Said). HasRest (onto (take p.0 p.1) []) c.in_ok-said.said) c.self.view_is
    (c.in_ok-said.ensures.rest (onto (take c.self.inside.at c.self.inside.all.now) []) c.self.invariant.0 c.self.invariant.1)

pub invariant_of-self-2 : goal.invariant_of-self-2
invariant_of-self-2 c =
    let ls = c.all.inside in
    let xs = c.self.inside.all.now in
    let k = c.self.inside.at in
    let now = said_of c.in_ok-said.said in
    let r = c.in_ok-record.record in
    let reply = c.reply-reply.result.now in
    let same = c.all.invariant.0 in
    let many : length xs ≡ length ls.lines.now = sym (ap length c.all.view_is) ∙ all_read [] ls.sequence.now ls.lines.now same in
    let here : k ≡ c.args.self.now.0 = λ i. (c.self.view_is i).0 in
    let its : length xs ≡ length c.args.self.now.1 = λ i. length (c.self.view_is i).1 in
    let less : k < length xs = omega (arith, here, its, c.requires) in
    let short : k < length ls.lines.now = omega (arith, less, many) in
    let long : k < length ls.sequence.now = omega (arith, short, same) in
    let it = get_or xs k now in
    let replied : reply ≡ it.reply = c.reply-reply.ensures it (get_or_default xs k now it less) in
    let is : get_or xs k now ≡ said (onto (take k xs) []) r reply =
    (λ i. get_or (sym c.all.view_is i) k now)
    ∙ read_at [] ls.sequence.now ls.lines.now k r reply now long short c.in_ok-record.ensures (λ line e. replied ∙ (λ i. (get_or (sym c.all.view_is i) k now).reply) ∙
    sym (reply_at [] ls.sequence.now ls.lines.now k line now same short e))
    ∙ (λ i. said (onto (take k (c.all.view_is i)) []) r reply) in
    let at : AtLine xs k now = at_line xs k now less (c.in_ok-said.ensures.said (onto (take k xs) []) c.self.invariant.0 ∙ sym is) in (
      subst (AreLasts c.read_line.new.lasts) (sym (earlier_next xs k now at)) (c.in_ok-said.ensures.lasts (earlier_at xs k) c.self.invariant.0),
      subst (AreRests c.read_line.new.lasts) (sym (earlier_next xs k now at)) (c.in_ok-said.ensures.rests (earlier_at xs k) c.self.invariant.0 c.self.invariant.1),
      c.in_ok-said.ensures.reach k c.self.invariant.2,
    )

pub invariant_of-self : goal.invariant_of-self
invariant_of-self c =
    let same : (j : ℕ) → get nat_cmp c.read_line.new.lasts j ≡ get nat_cmp c.self.inside.lasts j = λ j. ap (lookup (is_at (nat_cmp j))) c.in_err-said.ensures.refused in (
      λ j. ap (option_map without_rest) (same j) ∙ c.self.invariant.0 j,
      λ j. subst (IsRest j (onto (take c.self.inside.at c.self.inside.all.now) [])) (sym (same j)) (c.self.invariant.1 j),
      λ j. subst (λ o. IfSome o (λ l. number_of l ≤ c.self.inside.at)) (sym (same j)) (c.self.invariant.2 j),
    )
