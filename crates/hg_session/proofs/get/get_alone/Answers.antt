use Rattle.std.proofs.Common.{◌≡◌, [], ◌∷◌, Some, None, refl, sym, subst, rules}
use Rattle.std.specs.Prelude.{OnErr, Err}
use Rattle.hg_base.specs.Transcript.{only}
use Rattle.hg_core.specs.declared.log.LogEntry.TheVariants.{Began, Over}
use Rattle.hg_core.specs.Reading.{saw}
use Rattle.hg_core.specs.Logs.{current}
use Rattle.hg_rule.specs.Views.{session}
use Rattle.hg_cursor.specs.Keys.{rows_at}
use Rattle.hg_session.specs.Engines.{engine_sizes}
use Rattle.hg_session.specs.Sessions.{view_of}
use Rattle.hg_session.specs.Gains.{Gains}
use Rattle.hg_session.specs.Refused.{HasGivenUp}
use Rattle.hg_session.proofs.Refusing.{given_up}
use Rattle.hg_session.proofs.Replying.{get_alone}
use Rattle.hg_session.proofs.Reading.{no_more_writes}
use Rattle.hg_session.proofs.Settling.{gains_on}
use Rattle.hg_session.proofs.get.get_alone.Goals as goal

pub open-snapshot-requires-clause-tables : goal.open-snapshot-requires-clause-tables
open-snapshot-requires-clause-tables g c = c.only.ensures.below (engine_sizes c.args.engine.now).tables c.requires.table

pub returns-in_err-row-clause-refused : goal.returns-in_err-row-clause-refused
returns-in_err-row-clause-refused g c =
    let rid = c.args.rid in
    let v = view_of c.args.session.now in
    let n = view_of c.see_row-row.new.session in
    let w = view_of c.end.new.self in
    let looks = saw (engine_sizes c.args.engine.now).buckets rid (rows_at rid.key c.see_row-row.ensures.gains.0) ∷ [] in
    let begun = subst (λ s. Gains v (Began c.open-snapshot.result.at s ∷ []) (view_of c.open-snapshot.new.self)) c.only.ensures.is c.open-snapshot.ensures.gains in
    let two = gains_on v (view_of c.open-snapshot.new.self) n _ looks begun c.see_row-row.ensures.gains.1.0 (λ l. refl) in
    let same : c.from_residual.result ≡ Err c.in_err-row.field-0.0 = search rules in
    subst (λ r. OnErr r (HasGivenUp rid.table rid.key rid.key [] v w)) (sym same)
    (given_up v n w rid.table rid.key rid.key c.open-snapshot.result.at [] looks ((refl, (refl, refl)), tt) two c.end.ensures.gains)

pub returns-clause-reply : goal.returns-clause-reply
returns-clause-reply g c =
    let z = engine_sizes c.args.engine.now in
    let v = view_of c.args.session.now in
    let w = view_of c.end.new.self in
    let none : current (session v).log ≡ None = search rules in
    let row : c.in_ok-row.field-0 ≡ c.see_row-row.ensures.gains.0 = search rules in
    let scope : c.open-snapshot.result.scope ≡ only (Some c.args.rid.table) = search rules in
    let opened = subst (λ s. Gains v (Began c.open-snapshot.result.at s ∷ []) (view_of c.open-snapshot.new.self)) (c.only.ensures.is) c.open-snapshot.ensures.gains in
    let two = gains_on v (view_of c.open-snapshot.new.self) (view_of c.see_row-row.new.session) _ _ opened
    (subst (λ r. Gains (view_of c.open-snapshot.new.self) (saw z.buckets c.args.rid (rows_at c.args.rid.key r) ∷ []) (view_of c.see_row-row.new.session))
    (sym row) c.see_row-row.ensures.gains.1.0) (λ l. refl) in
    let all = gains_on v (view_of c.see_row-row.new.session) w _ (Over ∷ []) two c.end.ensures.gains (λ l. refl) in
    get_alone z v w c.open-snapshot.result.at c.args.rid c.in_ok-row.field-0 none c.open-snapshot.ensures.fresh all

pub end-requires-clause-own : goal.end-requires-clause-own
end-requires-clause-own g c = no_more_writes c.args.engine.now c.see_row-row.new.session c.see_row-row.ensures.own
