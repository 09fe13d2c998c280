use Rattle.std.proofs.Common.{◌≡◌, ◌∙◌, ◌++◌, false, length, map, sym, ap, rules}
use Rattle.std.specs.List.{list_any}
use Rattle.std.proofs.lemmas.List.{append-nil}
use Rattle.hg_base.specs.Values.{is_text, number_of}
use Rattle.hg_records.specs.declared.packed.Packed.TheVariants.{Put}
use Rattle.hg_records.proofs.Unpacked.{no_texts, numbers_back}
use Rattle.hg_records.proofs.packed.pack_put.Goals as goal

pub returns-in-Some-clause-packed : goal.returns-in-Some-clause-packed
returns-in-Some-clause-packed c =
    let none : list_any is_text c.args.row ≡ false = ap (list_any is_text) c.in-Some.ensures.some ∙ no_texts c.in-Some.own.now in
    let first : c.len-first.result ≡ length c.args.numbers.now.items = search rules in
    let rid = c.args.rid in
    rw none (ap (λ n. Put rid.table c.len-count.result n rid.key) first ∙
    ap (λ n. Put rid.table n (length c.args.numbers.now.items) rid.key) c.len-count.ensures.same)

pub returns-in-Some-clause-numbers : goal.returns-in-Some-clause-numbers
returns-in-Some-clause-numbers c =
    let none : list_any is_text c.args.row ≡ false = ap (list_any is_text) c.in-Some.ensures.some ∙ no_texts c.in-Some.own.now in
    rw none (c.in_ok-extend_from_slice.ensures.items ∙ ap (λ ns. c.args.numbers.now.items ++ ns) (sym (ap (map number_of) c.in-Some.ensures.some ∙ numbers_back c.in-Some.own.now)))

pub returns-in-Some-clause-rows : goal.returns-in-Some-clause-rows
returns-in-Some-clause-rows c =
    let none : list_any is_text c.args.row ≡ false = ap (list_any is_text) c.in-Some.ensures.some ∙ no_texts c.in-Some.own.now in
    rw none (sym (append-nil c.args.rows.now.items))
