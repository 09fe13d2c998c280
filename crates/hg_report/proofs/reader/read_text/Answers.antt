use Rattle.std.proofs.Common.{◌≡◌, suc, [], ◌∷◌, ◌++◌, length, length-append, false, ap, refl, arith, rules}
use Rattle.std.proofs.lemmas.List.{nil_from_length}
use Rattle.std.proofs.lemmas.Bool.Decides.{nat_tests}
use Rattle.hg_records.specs.Bytes.{record_bytes}
use Rattle.hg_report.specs.Fields.{parted}
use Rattle.hg_report.proofs.Following.{is_refused}
use Rattle.hg_report.proofs.Looping.{has_taken, none_next, stood_more}
use Rattle.hg_report.proofs.Answering.{refusal_tells, text_at_end, only_at_end, refused_at_end}
use Rattle.hg_report.proofs.reader.read_text.Goals as goal

pub loop-line-init : goal.loop-line-init
loop-line-init c = record { taken = ([], c.in_ok-progress.ensures, refl, refl); many = omega arith }

pub loop-line-preserved : goal.loop-line-preserved
loop-line-preserved c =
    let inv = c.loop-line.invariant in
    let (records, runs, split, count) = inv.taken in
    let took = has_taken c.args.script.now c.loop-line.progress c.step.new.progress (parted false [] c.loop-line.rest.now) c.loop-line.rest.now c.in-Some.more.now refl
    (rw c.in-Some.is at c.in_ok-more.ensures) in
    let stood = stood_more c.args.script.now records c.loop-line.progress c.step.new.progress c.args.bytes.now c.loop-line.rest.now c.in-Some.more.now runs split took in
    record {
      taken = (records ++ took.fields ∷ [], stood.runs, stood.split, omega (arith, count, length-append records (took.fields ∷ [])));
      many = omega (arith, inv.many, ap length took.split, length-append (record_bytes took.fields) c.in-Some.more.now, took.some);
    }

pub returns-in-None-clause-refused : goal.returns-in-None-clause-refused
returns-in-None-clause-refused c =
    let rest = c.loop-line.rest.now in
    let (records, runs, split, count) = c.loop-line.invariant.taken in
    let line : suc (length records) ≡ c.loop-line.line = omega (arith, count) in
    let some : rest ≡ [] → ⊥ = search (rules, c.if-is_empty.false, c.if-is_empty.ensures) in
    refusal_tells c.args.script.now c.args.bytes.now c.loop-line.line c.refused.result c.refused.ensures
    (is_refused c.args.script.now c.requires.lawful c.args.bytes.now rest records c.loop-line.progress c.loop-line.line runs split line
    (none_next c.args.script.now c.loop-line.progress c.step.new.progress (parted false [] rest) rest refl (rw c.in-None.is at c.in_ok-more.ensures))
    (λ lines totals empty same. some empty))

pub returns-then-is_empty-clause-text : goal.returns-then-is_empty-clause-text
returns-then-is_empty-clause-text c =
    let (records, runs, split, count) = c.loop-line.invariant.taken in
    let none : c.loop-line.rest.now ≡ [] = let h = c.if-is_empty.ensures in let k = c.if-is_empty.true in let l = c.is_empty.ensures in nil_from_length _ (grind (arith, nat_tests, h, k, l)) in
    text_at_end c.args.script.now c.args.bytes.now c.loop-line.rest.now records c.loop-line.progress runs split none c.finish.result c.finish.ensures.done

pub returns-then-is_empty-clause-only : goal.returns-then-is_empty-clause-only
returns-then-is_empty-clause-only c =
    let (records, runs, split, count) = c.loop-line.invariant.taken in
    let none : c.loop-line.rest.now ≡ [] = let h = c.if-is_empty.ensures in let k = c.if-is_empty.true in let l = c.is_empty.ensures in nil_from_length _ (grind (arith, nat_tests, h, k, l)) in
    only_at_end c.args.script.now c.args.bytes.now c.loop-line.rest.now records c.loop-line.progress runs split none c.requires.lawful c.finish.result c.finish.ensures.done

pub returns-then-is_empty-clause-refused : goal.returns-then-is_empty-clause-refused
returns-then-is_empty-clause-refused c =
    let (records, runs, split, count) = c.loop-line.invariant.taken in
    let line : suc (length records) ≡ c.loop-line.line = omega (arith, count) in
    let none : c.loop-line.rest.now ≡ [] = let h = c.if-is_empty.ensures in let k = c.if-is_empty.true in let l = c.is_empty.ensures in nil_from_length _ (grind (arith, nat_tests, h, k, l)) in
    refused_at_end c.args.script.now c.args.bytes.now c.loop-line.rest.now records c.loop-line.progress runs split none c.requires.lawful c.loop-line.line line c.finish.result c.finish.ensures.refused
