use Rattle.std.proofs.Common.{◌≡◌, Some, refl, subst, rules, ◌∙◌}
use Rattle.std.specs.Prelude.{IsTrue}
use Rattle.hg_base.specs.declared.statement.Statement.TheVariants as say
use Rattle.hg_base.specs.Transcript.{has}
use Rattle.hg_core.specs.Reading.{saws}
use Rattle.hg_core.specs.Logs.{current}
use Rattle.hg_rule.specs.Views.{session}
use Rattle.hg_session.specs.Engines.{engine_sizes}
use Rattle.hg_session.specs.Sessions.{view_of}
use Rattle.hg_session.specs.Gains.{Gains, outside_entries}
use Rattle.hg_cursor.specs.Scans.{Scans, ScansAll, ScansSome}
use Rattle.hg_session.proofs.Reading.{adds_gain, no_more_writes, inside_scope, outside_scope, not_undeclared}
use Rattle.hg_session.proofs.Replying.{undeclared_inside}
use Rattle.hg_session.proofs.Ranged.{scan_inside, all_behind}
use Rattle.hg_session.proofs.Refusing.{saws_there}
use Rattle.hg_session.proofs.scan.scan_inside.Goals as goal

pub returns-then-is_outside-clause-reply : goal.returns-then-is_outside-clause-reply
returns-then-is_outside-clause-reply g c =
    let z = engine_sizes c.args.engine.now in
    let v = view_of c.args.session.now in
    let opened : current (session v).log ≡ Some c.args.snapshot = c.requires.own.ties.opens ∙ c.requires.opened in
    let gains = subst (λ b. Gains v (outside_entries b c.args.range.table) (view_of c.is_outside.new.self)) c.if-is_outside.true c.is_outside.ensures.gains in
    undeclared_inside z v (view_of c.is_outside.new.self) c.args.snapshot (say.Scan c.args.range.table c.args.range.low c.args.range.high) c.args.range.table opened refl refl tt refl gains

pub returns-in_err-rows-clause-refused : goal.returns-in_err-rows-clause-refused
returns-in_err-rows-clause-refused g c =
    let z = engine_sizes c.args.engine.now in
    let v = view_of c.args.session.now in
    let m = view_of c.is_outside.new.self in
    let w = view_of c.scan_rows.new.session in
    let none = subst (λ b. Gains v (outside_entries b c.args.range.table) m) c.if-is_outside.false c.is_outside.ensures.gains in
    let k : ScansSome z.buckets m c.args.range.table c.args.range.low c.args.range.high w = subst (λ r. Scans z.buckets m c.args.range.table c.args.range.low c.args.range.high r w)
    c.in_err-rows.was c.scan_rows.ensures.gains in
    let es = saws z.buckets c.args.range.table c.args.range.low c.args.range.high k.part k.seen in
    λ same. record {
      looks = es;
      there = saws_there z.buckets c.args.range.table c.args.range.low c.args.range.high k.part k.seen;
      gains = all_behind v m w es none (adds_gain m w es k.adds);
    }

pub returns-clause-reply : goal.returns-clause-reply
returns-clause-reply g c =
    let z = engine_sizes c.args.engine.now in
    let v = view_of c.args.session.now in
    let m = view_of c.is_outside.new.self in
    let w = view_of c.scan_rows.new.session in
    let opened : current (session v).log ≡ Some c.args.snapshot = c.requires.own.ties.opens ∙ c.requires.opened in
    let none = subst (λ b. Gains v (outside_entries b c.args.range.table) m) c.if-is_outside.false c.is_outside.ensures.gains in
    let declared : IsTrue (has c.args.snapshot.scope c.args.range.table) = search rules in
    let k : ScansAll z.buckets m c.args.range.table c.args.range.low c.args.range.high c.in_ok-rows.rows w = subst
    (λ r. Scans z.buckets m c.args.range.table c.args.range.low c.args.range.high r w) c.in_ok-rows.was c.scan_rows.ensures.gains in
    scan_inside z v m w c.args.snapshot c.args.range.table c.args.range.low c.args.range.high c.in_ok-rows.rows opened declared none k

pub returns-in_err-rows-clause-own : goal.returns-in_err-rows-clause-own
returns-in_err-rows-clause-own g c = no_more_writes c.args.engine.now c.scan_rows.new.session c.scan_rows.ensures.own

pub returns-clause-own : goal.returns-clause-own
returns-clause-own g c = no_more_writes c.args.engine.now c.scan_rows.new.session c.scan_rows.ensures.own

pub returns-then-is_outside-clause-undeclared : goal.returns-then-is_outside-clause-undeclared
returns-then-is_outside-clause-undeclared g c = (λ _. refl, λ _. outside_scope (has c.args.snapshot.scope c.args.range.table) c.is_outside.result c.is_outside.ensures.is c.if-is_outside.true)

pub returns-then-is_outside-clause-own : goal.returns-then-is_outside-clause-own
returns-then-is_outside-clause-own g c = no_more_writes c.args.engine.now c.is_outside.new.self c.is_outside.ensures.own

pub returns-clause-undeclared : goal.returns-clause-undeclared
returns-clause-undeclared g c = not_undeclared c.args.snapshot c.args.range.table _ _ (inside_scope (has c.args.snapshot.scope c.args.range.table) c.is_outside.result c.is_outside.ensures.is c.if-is_outside.false) (λ is. let k = is in cc)

pub returns-clause-kept : goal.returns-clause-kept
returns-clause-kept g c = (
  c.scan_rows.ensures.kept.0 ∙ c.is_outside.ensures.kept.0,
  c.scan_rows.ensures.kept.2 ∙ c.is_outside.ensures.kept.2,
  c.scan_rows.ensures.kept.3 ∙ c.is_outside.ensures.kept.3,
)

pub returns-in_err-rows-clause-kept : goal.returns-in_err-rows-clause-kept
returns-in_err-rows-clause-kept g c = (
  c.scan_rows.ensures.kept.0 ∙ c.is_outside.ensures.kept.0,
  c.scan_rows.ensures.kept.2 ∙ c.is_outside.ensures.kept.2,
  c.scan_rows.ensures.kept.3 ∙ c.is_outside.ensures.kept.3,
)
