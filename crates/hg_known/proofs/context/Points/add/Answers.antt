use Rattle.std.proofs.Common.{◌∙◌, sym}
use Rattle.hg_known.specs.Lines.{said_of}
use Rattle.hg_known.proofs.Pointing.{printed_more, declared_more, declared_same}
use Rattle.hg_known.proofs.context.Points.add.Goals as goal

pub returns-then-not-is_declared : goal.returns-then-not-is_declared
returns-then-not-is_declared c =
    λ earlier h.
    let now = said_of c.args.said.now in
    let e = sym c.snapshot_of.ensures ∙ c.in-Some.is in
    record {
      printed = printed_more c.args.self.now.printed c.insert.new.self earlier now c.in-Some.number e c.in_ok-insert.ensures.updates.0 h.printed;
      declared = declared_same c.args.self.now.declared earlier now (sym c.is_declared.ensures ∙ c.if-not-is_declared.true) h.declared;
    }

pub returns : goal.returns
returns c =
    λ earlier h.
    let now = said_of c.args.said.now in
    let e = sym c.snapshot_of.ensures ∙ c.in-Some.is in
    record {
      printed = printed_more c.args.self.now.printed c.insert.new.self earlier now c.in-Some.number e c.in_ok-insert.ensures.updates.0 h.printed;
      declared = declared_more c.args.self.now.declared c.insert-2.new.self earlier now c.in-Some.number e (sym c.is_declared.ensures ∙
          c.if-not-is_declared.false) c.in_ok-insert-2.ensures.updates.0 h.declared;
    }
