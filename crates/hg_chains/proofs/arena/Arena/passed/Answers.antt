use Rattle.std.proofs.Common.{◌<◌, ◌∙◌, sym, ap, arith}
use Rattle.hg_chains.specs.declared.node.Strand.{Strand}
use Rattle.hg_chains.specs.Arenas.{head_in}
use Rattle.hg_chains.proofs.Walks.{next_at, at_there, newer_more, both, not_both, passed_many}
use Rattle.hg_chains.proofs.arena.Arena.passed.Goals as goal

pub is_newer-requires : goal.is_newer-requires
is_newer-requires g c = λ less. at_there c.args.self.now c.args.place c.loop-strand.cursor c.requires.arena c.loop-strand.invariant.at
    (let e = ap (λ (s : Strand). s.count) c.strand-strand.ensures in omega (arith, e, less))

pub pass-cursor-requires-clause-there : goal.pass-cursor-requires-clause-there
pass-cursor-requires-clause-there g c =
    let b = both c.loop-strand.cursor.kept c.strand-strand.result.count _ (sym c.is_newer.ensures ∙ c.loop-strand-test.true) in
    let less : c.loop-strand.cursor.kept < c.strand-strand.result.count = b.0 in
    at_there c.args.self.now c.args.place c.loop-strand.cursor c.requires.arena c.loop-strand.invariant.at (let e = ap (λ (s : Strand). s.count) c.strand-strand.ensures in omega (arith, e, less))

pub loop-strand-preserved : goal.loop-strand-preserved
loop-strand-preserved g c =
    let b = both c.loop-strand.cursor.kept c.strand-strand.result.count _ (sym c.is_newer.ensures ∙ c.loop-strand-test.true) in
    let less : c.loop-strand.cursor.kept < c.strand-strand.result.count = b.0 in
    let now : c.loop-strand.cursor.kept < (head_in c.args.self.now c.args.place).strand.count = (let e = ap (λ (s : Strand). s.count) c.strand-strand.ensures in omega (arith, e, less)) in
    rw c.pass-cursor.ensures
    (record {
      at = next_at c.args.self.now c.args.place c.loop-strand.cursor c.loop-strand.invariant.at.at;
      within = omega (arith, less);
      newer = newer_more c.args.self.now c.args.place c.args.bound c.loop-strand.cursor c.loop-strand.invariant.at now b.1 c.loop-strand.invariant.newer;
      cost = (let cost = c.loop-strand.invariant.cost in let tick = c.tick.ensures in omega (arith, cost, tick));
    })

pub returns-clause-kept : goal.returns-clause-kept
returns-clause-kept g c =
    passed_many c.args.self.now c.args.place c.args.bound c.loop-strand.cursor c.requires.chain c.loop-strand.invariant.at
    (let e = ap (λ (s : Strand). s.count) c.strand-strand.ensures in let w = c.loop-strand.invariant.within in omega (arith, e, w)) c.loop-strand.invariant.newer
    (λ less. not_both c.loop-strand.cursor.kept c.strand-strand.result.count _ (sym c.is_newer.ensures ∙ c.loop-strand-test.false)
    (let e = ap (λ (s : Strand). s.count) c.strand-strand.ensures in omega (arith, e, less)))
