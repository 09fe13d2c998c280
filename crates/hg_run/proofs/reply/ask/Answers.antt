use Rattle.std.proofs.Common.{◌≡◌, Some, refl, sym, ap, ◌∙◌, subst}
use Rattle.std.specs.Prelude.{not, is_some, IfOk}
use Rattle.hg_base.specs.declared.statement.Statement.TheVariants.{Get, Put, Del, Scan, Fetch}
use Rattle.hg_base.specs.declared.line.Reply.{Reply}
use Rattle.hg_base.specs.History.{nothing}
use Rattle.hg_base.proofs.ListFacts.{if_some_keeps}
use Rattle.hg_session.specs.Engines.{engine_sizes}
use Rattle.hg_script.specs.Lawful.{MayStand}
use Rattle.hg_session.specs.Sessions.{view_of, open_of, cursor_of, is_alone}
use Rattle.hg_session.specs.Replies.{get_reply, put_reply, del_reply, scan_reply}
use Rattle.hg_run.specs.Asked.{IsAnswered, MayAsk}
use Rattle.hg_run.proofs.Cursors.{answered_fetch, any_rest, none_read, some_plain, some_write}
use Rattle.hg_run.proofs.RunningOut.{at_err, commit_out, fetch_out, none_deleted, none_got, none_put, none_scanned, on_err, read_out, write_out}
use Rattle.hg_run.proofs.Refused.{number_got, number_scanned, number_put, number_deleted}
use Rattle.hg_run.proofs.Told.{none_is, told}
use Rattle.hg_run.proofs.reply.ask.Goals as goal

pub returns-in-Get-clause-answers : goal.returns-in-Get-clause-answers
returns-in-Get-clause-answers g c =
    let z = engine_sizes c.args.engine.now in
    let old = c.args.session.now in
    let new = c.get.new.self in
    let s = Get c.in-Get.rid in
    let alone : not c.is_open-alone.result ≡ is_alone old = ap not (c.is_open-alone.ensures c.args.engine.now c.requires.own) ∙ none_is (open_of old) in
    subst (λ s. IfOk c.get_reply.result (λ reply. IsAnswered z old s reply new)) (sym c.in-Get.is)
    (told (get_reply (is_alone old) c.get.result) (λ reply. IsAnswered z old s reply new) c.get_reply.result
    (some_plain z old new s (get_reply (is_alone old) c.get.result) refl refl (none_read old s refl refl (subst (MayAsk old) c.in-Get.is c.requires.may)) c.get.ensures.cursor c.get.ensures.reply)
    (subst (λ b. IfOk c.get_reply.result (λ reply. get_reply b c.get.result ≡ Some reply)) alone c.get_reply.ensures.reply))

pub returns-in-Put-clause-answers : goal.returns-in-Put-clause-answers
returns-in-Put-clause-answers g c =
    let z = engine_sizes c.args.engine.now in
    let old = c.args.session.now in
    let new = c.put.new.self in
    let s = Put c.in-Put.rid c.in-Put.row in
    let alone : not c.is_open-alone.result ≡ is_alone old = ap not (c.is_open-alone.ensures c.args.engine.now c.requires.own) ∙ none_is (open_of old) in
    subst (λ s. IfOk c.put_reply.result (λ reply. IsAnswered z old s reply new)) (sym c.in-Put.is)
    (told (put_reply (is_alone old) c.put.result) (λ reply. IsAnswered z old s reply new) c.put_reply.result
    (some_write z old new s c.in-Put.rid (put_reply (is_alone old) c.put.result) refl refl
    (none_read old s refl refl (subst (MayAsk old) c.in-Put.is c.requires.may)) c.put.ensures.cursor c.put.ensures.reply)
    (subst (λ b. IfOk c.put_reply.result (λ reply. put_reply b c.put.result ≡ Some reply)) alone c.put_reply.ensures.reply))

pub returns-in-Del-clause-answers : goal.returns-in-Del-clause-answers
returns-in-Del-clause-answers g c =
    let z = engine_sizes c.args.engine.now in
    let old = c.args.session.now in
    let new = c.del.new.self in
    let s = Del c.in-Del.rid in
    let alone : not c.is_open-alone.result ≡ is_alone old = ap not (c.is_open-alone.ensures c.args.engine.now c.requires.own) ∙ none_is (open_of old) in
    subst (λ s. IfOk c.del_reply.result (λ reply. IsAnswered z old s reply new)) (sym c.in-Del.is)
    (told (del_reply (is_alone old) c.del.result) (λ reply. IsAnswered z old s reply new) c.del_reply.result
    (some_write z old new s c.in-Del.rid (del_reply (is_alone old) c.del.result) refl refl
    (none_read old s refl refl (subst (MayAsk old) c.in-Del.is c.requires.may)) c.del.ensures.cursor c.del.ensures.reply)
    (subst (λ b. IfOk c.del_reply.result (λ reply. del_reply b c.del.result ≡ Some reply)) alone c.del_reply.ensures.reply))

pub returns-in-Scan-clause-answers : goal.returns-in-Scan-clause-answers
returns-in-Scan-clause-answers g c =
    let z = engine_sizes c.args.engine.now in
    let old = c.args.session.now in
    let new = c.scan.new.self in
    let s = Scan c.in-Scan.table c.in-Scan.low c.in-Scan.high in
    let alone : not c.is_open-alone.result ≡ is_alone old = ap not (c.is_open-alone.ensures c.args.engine.now c.requires.own) ∙ none_is (open_of old) in
    subst (λ s. IfOk c.scan_reply.result (λ reply. IsAnswered z old s reply new)) (sym c.in-Scan.is)
    (told (scan_reply (is_alone old) c.scan.result) (λ reply. IsAnswered z old s reply new) c.scan_reply.result
    (some_plain z old new s (scan_reply (is_alone old) c.scan.result) refl refl
    (none_read old s refl refl (subst (MayAsk old) c.in-Scan.is c.requires.may)) c.scan.ensures.cursor c.scan.ensures.reply)
    (subst (λ b. IfOk c.scan_reply.result (λ reply. scan_reply b c.scan.result ≡ Some reply)) alone c.scan_reply.ensures.reply))

pub returns-in_ok-rows-in-Fetch-clause-answers : goal.returns-in_ok-rows-in-Fetch-clause-answers
returns-in_ok-rows-in-Fetch-clause-answers g c =
    let z = engine_sizes c.args.engine.now in
    let old = c.args.session.now in
    let new = c.fetch.new.self in
    let f = c.in_ok-rows-in-Fetch.ensures in
    subst (λ s. IsAnswered z old s c.inside-in-Fetch.result new) (sym c.in-Fetch.is)
    (subst (λ (reply : Reply). IsAnswered z old (Fetch c.in-Fetch.most) reply new) (sym c.inside-in-Fetch.ensures)
    (answered_fetch z old new c.in-Fetch.most c.in_ok-rows-in-Fetch.rows (subst (MayStand c.requires.may.within (is_some (cursor_of old))) c.in-Fetch.is c.requires.may.may)
    f.cursor f.answers f.moved))

pub returns-in_ok-rows-in-Fetch-clause-number : goal.returns-in_ok-rows-in-Fetch-clause-number
returns-in_ok-rows-in-Fetch-clause-number g c = let any = any_rest c.args.session.now in (c.in_ok-rows-in-Fetch.ensures.answers any.0 any.1).answers.number_is

pub returns-in-Get-clause-number : goal.returns-in-Get-clause-number
returns-in-Get-clause-number g c =
    number_got (engine_sizes c.args.engine.now) (Get c.in-Get.rid) (view_of c.args.session.now) (view_of c.get.new.self)
    (open_of c.args.session.now) c.in-Get.rid.table c.in-Get.rid.key c.in-Get.rid.key (is_alone c.args.session.now) c.get.result c.get.ensures.reply c.get.ensures.refused

pub returns-in-Put-clause-number : goal.returns-in-Put-clause-number
returns-in-Put-clause-number g c =
    number_put (engine_sizes c.args.engine.now) (Put c.in-Put.rid c.in-Put.row) (view_of c.args.session.now) (view_of c.put.new.self) (open_of c.args.session.now) c.in-Put.rid
    (record { row = Some c.in-Put.row }) (is_alone c.args.session.now) c.put.result
    (if_some_keeps (put_reply (is_alone c.args.session.now) c.put.result) _ _ (λ reply a. a.answers) c.put.ensures.reply) c.put.ensures.refused

pub returns-in-Del-clause-number : goal.returns-in-Del-clause-number
returns-in-Del-clause-number g c =
    number_deleted (engine_sizes c.args.engine.now) (Del c.in-Del.rid) (view_of c.args.session.now) (view_of c.del.new.self) (open_of c.args.session.now) c.in-Del.rid nothing
    (is_alone c.args.session.now) c.del.result
    (if_some_keeps (del_reply (is_alone c.args.session.now) c.del.result) _ _ (λ reply a. a.answers) c.del.ensures.reply) c.del.ensures.refused

pub returns-in-Scan-clause-number : goal.returns-in-Scan-clause-number
returns-in-Scan-clause-number g c =
    number_scanned (engine_sizes c.args.engine.now) (Scan c.in-Scan.table c.in-Scan.low c.in-Scan.high) (view_of c.args.session.now) (view_of c.scan.new.self)
    (open_of c.args.session.now) c.in-Scan.table c.in-Scan.low c.in-Scan.high (is_alone c.args.session.now) c.scan.result c.scan.ensures.reply c.scan.ensures.refused

pub returns-in-Get-clause-stopped : goal.returns-in-Get-clause-stopped
returns-in-Get-clause-stopped g c =
    let old = c.args.session.now in
    on_err _ _ c.get_reply.result
    (λ e. read_out (open_of old) c.in-Get.rid.table c.in-Get.rid.key c.in-Get.rid.key old c.get.new.self refl (c.get.ensures.refused (none_got _ c.get.result e))) c.get_reply.ensures.none

pub returns-in-Put-clause-stopped : goal.returns-in-Put-clause-stopped
returns-in-Put-clause-stopped g c =
    let old = c.args.session.now in
    on_err _ _ c.put_reply.result
    (λ e. write_out (open_of old) c.in-Put.rid (record { row = Some c.in-Put.row }) old c.put.new.self refl (c.put.ensures.refused (none_put _ c.put.result e))) c.put_reply.ensures.none

pub returns-in-Del-clause-stopped : goal.returns-in-Del-clause-stopped
returns-in-Del-clause-stopped g c =
    let old = c.args.session.now in
    on_err _ _ c.del_reply.result
    (λ e. write_out (open_of old) c.in-Del.rid nothing old c.del.new.self refl (c.del.ensures.refused (none_deleted _ c.del.result e))) c.del_reply.ensures.none

pub returns-in-Scan-clause-stopped : goal.returns-in-Scan-clause-stopped
returns-in-Scan-clause-stopped g c =
    let old = c.args.session.now in
    on_err _ _ c.scan_reply.result
    (λ e. read_out (open_of old) c.in-Scan.table c.in-Scan.low c.in-Scan.high old c.scan.new.self refl (c.scan.ensures.refused (none_scanned _ c.scan.result e))) c.scan_reply.ensures.none

pub returns-in_err-rows-in-Fetch-clause-stopped : goal.returns-in_err-rows-in-Fetch-clause-stopped
returns-in_err-rows-in-Fetch-clause-stopped g c = at_err _ _ (fetch_out (cursor_of c.args.session.now) c.args.session.now c.fetch.new.self c.in_err-rows-in-Fetch.ensures.refused.0)

pub returns-in_err-ended-in-Commit-clause-stopped : goal.returns-in_err-ended-in-Commit-clause-stopped
returns-in_err-ended-in-Commit-clause-stopped g c = at_err _ _ (commit_out c.args.session.now c.commit.new.self c.in_err-ended-in-Commit.ensures.refused.0)
