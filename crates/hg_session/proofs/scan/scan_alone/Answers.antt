use Rattle.std.proofs.Common.{◌≡◌, [], ◌∷◌, Some, None, Err, sym, subst, rules, append_assoc}
use Rattle.std.specs.Prelude.{OnErr}
use Rattle.hg_base.specs.Transcript.{only}
use Rattle.hg_core.specs.declared.log.LogEntry.TheVariants.{Began}
use Rattle.hg_core.specs.Reading.{saws}
use Rattle.hg_core.specs.Logs.{current}
use Rattle.hg_rule.specs.Views.{session}
use Rattle.hg_session.specs.Engines.{engine_sizes}
use Rattle.hg_session.specs.Sessions.{view_of}
use Rattle.hg_session.specs.Gains.{Gains}
use Rattle.hg_session.specs.Refused.{HasGivenUp}
use Rattle.hg_cursor.specs.Scans.{Scans, ScansAll, ScansSome}
use Rattle.hg_session.proofs.Reading.{adds_gain, no_more_writes}
use Rattle.hg_session.proofs.Refusing.{given_up, saws_there}
use Rattle.hg_session.proofs.Ranged.{scan_alone}
use Rattle.hg_session.proofs.Settling.{gains_on}
use Rattle.hg_session.proofs.scan.scan_alone.Goals as goal

pub returns-in_err-rows-clause-refused : goal.returns-in_err-rows-clause-refused
returns-in_err-rows-clause-refused g c =
    let z = engine_sizes c.args.engine.now in
    let v = view_of c.args.session.now in
    let m = view_of c.open-snapshot.new.self in
    let n = view_of c.scan_rows-rows.new.session in
    let w = view_of c.end.new.self in
    let k : ScansSome z.buckets m c.args.range.table c.args.range.low c.args.range.high n = subst (λ r. Scans z.buckets m c.args.range.table c.args.range.low c.args.range.high r n)
    c.in_err-rows.was c.scan_rows-rows.ensures.gains in
    let es = saws z.buckets c.args.range.table c.args.range.low c.args.range.high k.part k.seen in
    let b = Began c.open-snapshot.result.at (only (Some c.args.range.table)) ∷ [] in
    let begun = subst (λ s. Gains v (Began c.open-snapshot.result.at s ∷ []) m) c.only.ensures.is c.open-snapshot.ensures.gains in
    let two = gains_on v m n b es begun (adds_gain m n es k.adds) (λ l. sym (append_assoc es b l)) in
    let same : c.from_residual.result ≡ Err c.in_err-rows.field-0.0 = search rules in
    subst (λ r. OnErr r (HasGivenUp c.args.range.table c.args.range.low c.args.range.high [] v w)) (sym same)
    (given_up v n w c.args.range.table c.args.range.low c.args.range.high c.open-snapshot.result.at [] es
    (saws_there z.buckets c.args.range.table c.args.range.low c.args.range.high k.part k.seen) two c.end.ensures.gains)

pub returns-clause-reply : goal.returns-clause-reply
returns-clause-reply g c =
    let z = engine_sizes c.args.engine.now in
    let v = view_of c.args.session.now in
    let m = view_of c.open-snapshot.new.self in
    let n = view_of c.scan_rows-rows.new.session in
    let w = view_of c.end.new.self in
    let none : current (session v).log ≡ None = search rules in
    let begun = subst (λ s. Gains v (Began c.open-snapshot.result.at s ∷ []) m) c.only.ensures.is c.open-snapshot.ensures.gains in
    let k : ScansAll z.buckets m c.args.range.table c.args.range.low c.args.range.high c.in_ok-rows.field-0 n = subst
    (λ r. Scans z.buckets m c.args.range.table c.args.range.low c.args.range.high r n) c.in_ok-rows.was c.scan_rows-rows.ensures.gains in
    scan_alone z v m n w c.open-snapshot.result.at c.args.range.table c.args.range.low c.args.range.high c.in_ok-rows.field-0 none c.open-snapshot.ensures.fresh begun k c.end.ensures.gains

pub end-requires-clause-own : goal.end-requires-clause-own
end-requires-clause-own g c = no_more_writes c.args.engine.now c.scan_rows-rows.new.session c.scan_rows-rows.ensures.own
