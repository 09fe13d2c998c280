use Rattle.std.proofs.Common.{◌≡◌, [], ◌∷◌, Some, refl, sym, subst, rules, ◌∙◌}
use Rattle.hg_base.specs.declared.statement.Statement.TheVariants as say
use Rattle.hg_core.specs.Reading.{saw}
use Rattle.hg_core.specs.Logs.{current}
use Rattle.hg_rule.specs.Views.{session}
use Rattle.hg_cursor.specs.Keys.{rows_at}
use Rattle.hg_session.specs.Engines.{engine_sizes}
use Rattle.hg_session.specs.Sessions.{view_of}
use Rattle.hg_session.specs.Gains.{Gains, outside_entries}
use Rattle.hg_session.proofs.Replying.{get_inside, undeclared_inside}
use Rattle.hg_session.proofs.Reading.{no_more_writes, inside_scope, outside_scope, not_undeclared}
use Rattle.hg_session.proofs.Settling.{gains_on}
use Rattle.hg_base.specs.Transcript.{has}
use Rattle.hg_session.proofs.get.get_inside.Goals as goal

pub returns-then-is_outside-clause-reply : goal.returns-then-is_outside-clause-reply
returns-then-is_outside-clause-reply g c =
    let z = engine_sizes c.args.engine.now in
    let v = view_of c.args.session.now in
    let opened : current (session v).log ≡ Some c.args.snapshot = c.requires.own.ties.opens ∙ c.requires.opened in
    let gains = subst (λ b. Gains v (outside_entries b c.args.rid.table) (view_of c.is_outside.new.self)) c.if-is_outside.true c.is_outside.ensures.gains in
    undeclared_inside z v (view_of c.is_outside.new.self) c.args.snapshot (say.Get c.args.rid) c.args.rid.table opened refl refl tt refl gains

pub returns-in_err-row-clause-refused : goal.returns-in_err-row-clause-refused
returns-in_err-row-clause-refused g c =
    let v = view_of c.args.session.now in
    let none = subst (λ b. Gains v (outside_entries b c.args.rid.table) (view_of c.is_outside.new.self)) c.if-is_outside.false c.is_outside.ensures.gains in
    λ same. record {
      looks = saw (engine_sizes c.args.engine.now).buckets c.args.rid (rows_at c.args.rid.key c.see_row.ensures.gains.0) ∷ [];
      there = ((refl, (refl, refl)), tt);
      gains = gains_on v (view_of c.is_outside.new.self) (view_of c.see_row.new.session) [] _ none c.see_row.ensures.gains.1.0 (λ l. refl);
    }

pub returns-clause-reply : goal.returns-clause-reply
returns-clause-reply g c =
    let z = engine_sizes c.args.engine.now in
    let v = view_of c.args.session.now in
    let w = view_of c.see_row.new.session in
    let opened : current (session v).log ≡ Some c.args.snapshot = c.requires.own.ties.opens ∙ c.requires.opened in
    let none = subst (λ b. Gains v (outside_entries b c.args.rid.table) (view_of c.is_outside.new.self)) c.if-is_outside.false c.is_outside.ensures.gains in
    let all = gains_on v (view_of c.is_outside.new.self) w [] _ none c.see_row.ensures.gains.1.0 (λ l. refl) in
    let row : c.in_ok-row.row ≡ c.see_row.ensures.gains.0 = search rules in
    get_inside z v w c.args.snapshot c.args.rid c.in_ok-row.row opened (subst (λ r. Gains v (saw z.buckets c.args.rid (rows_at c.args.rid.key r) ∷ []) w) (sym row) all)

pub returns-in_err-row-clause-own : goal.returns-in_err-row-clause-own
returns-in_err-row-clause-own g c = no_more_writes c.args.engine.now c.see_row.new.session c.see_row.ensures.own

pub returns-clause-own : goal.returns-clause-own
returns-clause-own g c = no_more_writes c.args.engine.now c.see_row.new.session c.see_row.ensures.own

pub returns-then-is_outside-clause-undeclared : goal.returns-then-is_outside-clause-undeclared
returns-then-is_outside-clause-undeclared g c = (λ _. refl, λ _. outside_scope (has c.args.snapshot.scope c.args.rid.table) c.is_outside.result c.is_outside.ensures.is c.if-is_outside.true)

pub returns-then-is_outside-clause-own : goal.returns-then-is_outside-clause-own
returns-then-is_outside-clause-own g c = no_more_writes c.args.engine.now c.is_outside.new.self c.is_outside.ensures.own

pub returns-clause-undeclared : goal.returns-clause-undeclared
returns-clause-undeclared g c = not_undeclared c.args.snapshot c.args.rid.table _ _ (inside_scope (has c.args.snapshot.scope c.args.rid.table) c.is_outside.result c.is_outside.ensures.is c.if-is_outside.false) (λ is. let k = is in cc)

pub returns-clause-kept : goal.returns-clause-kept
returns-clause-kept g c = (
  c.see_row.ensures.kept.0 ∙ c.is_outside.ensures.kept.0,
  c.see_row.ensures.kept.2 ∙ c.is_outside.ensures.kept.2,
  c.see_row.ensures.kept.3 ∙ c.is_outside.ensures.kept.3,
)

pub returns-in_err-row-clause-kept : goal.returns-in_err-row-clause-kept
returns-in_err-row-clause-kept g c = (
  c.see_row.ensures.kept.0 ∙ c.is_outside.ensures.kept.0,
  c.see_row.ensures.kept.2 ∙ c.is_outside.ensures.kept.2,
  c.see_row.ensures.kept.3 ∙ c.is_outside.ensures.kept.3,
)
