use Rattle.std.proofs.Common.{◌≡◌, ◌∙◌, ◌++◌, ℕ, List, [], length, take, false, refl, sym, ap, subst, append-nil, rules}
use Rattle.std.proofs.lemmas.List.{take_at}
use Rattle.std.specs.Prelude.{is_err, IsSome}
use Rattle.hg_core.specs.Phases.{snapshot_in}
use Rattle.hg_rule.specs.Facts.{StartsWith}
use Rattle.hg_rule.specs.Seats.{session_view}
use Rattle.hg_store.specs.Stores.{store_buckets}
use Rattle.hg_dump.specs.Records.{dump_text}
use Rattle.hg_dump.proofs.RowsShown.{is_the_list}
use Rattle.hg_dump.proofs.Looking.{goes_before_end, has_read, none_open, of_ok, reading_begun}
use Rattle.hg_dump.proofs.Texts.{starts_from}
use Rattle.hg_dump.proofs.exports.export.Goals as goal

pub write_all-written-requires-clause-reads : goal.write_all-written-requires-clause-reads
write_all-written-requires-clause-reads g c =
    reading_begun (session_view c.args.pass.now) (session_view c.begin-at.new.pass) c.begin-at.result.at c.requires.own.rests c.begin-at.ensures.begun

pub end-requires-clause-none : goal.end-requires-clause-none
end-requires-clause-none g c = λ rid. none_open c.begin-at.result.at (session_view c.write_all-written.new.pass) rid c.write_all-written.ensures.reads

pub returns-clause-text : goal.returns-clause-text
returns-clause-text g c =
    let fine : is_err c.write_all-written.result ≡ false = search rules in
    let m = of_ok c.write_all-written.result fine c.write_all-written.ensures.rows in
    λ h logs on. m.text ∙ ap (λ rows. c.args.into.now.items ++ dump_text c.args.tools.now.script.now rows)
    ((is_the_list c.args.tools.now.script.now.tables h c.begin-at.result.at m.rows).0
    (m.all h logs (goes_before_end (session_view c.write_all-written.new.pass) (session_view c.end.new.pass) c.write_all-written.ensures.reads.only c.end.ensures.step
    (store_buckets c.args.tools.now.store.now) h logs on)))

pub returns-clause-read : goal.returns-clause-read
returns-clause-read g c = has_read (session_view c.args.pass.now) (session_view c.begin-at.new.pass) (session_view c.write_all-written.new.pass)
    (session_view c.end.new.pass) c.begin-at.result.at c.requires.own.rests c.begin-at.ensures.begun c.write_all-written.ensures.looks c.end.ensures.step

pub returns-then-is_err-clause-read : goal.returns-then-is_err-clause-read
returns-then-is_err-clause-read g c = (
  c.begin-at.result.at,
  has_read (session_view c.args.pass.now) (session_view c.begin-at.new.pass) (session_view c.write_all-written.new.pass)
      (session_view c.end.new.pass) c.begin-at.result.at c.requires.own.rests c.begin-at.ensures.begun c.write_all-written.ensures.looks c.end.ensures.step,
)

pub returns-clause-fresh : goal.returns-clause-fresh
returns-clause-fresh g c = c.begin-at.ensures.begun.most

pub returns-clause-starts : goal.returns-clause-starts
returns-clause-starts g c = c.write_all-written.ensures.starts

cut_back : (before after : List ℕ) (n : ℕ) → n ≡ length before → StartsWith after before → take n after ≡ before
cut_back before after n long s = ap (take n) s.1 ∙ take_at before s.0 n (sym long)

pub returns-then-is_err-clause-refused : goal.returns-then-is_err-clause-refused
returns-then-is_err-clause-refused g c = c.truncate.ensures.items ∙
    cut_back c.args.into.now.items c.write_all-written.new.into.items c.len-before.result (c.len-before.ensures ∙ c.args.into.now.ok.0) c.write_all-written.ensures.starts

pub returns-then-is_err-clause-starts : goal.returns-then-is_err-clause-starts
returns-then-is_err-clause-starts g c =
    starts_from c.args.into.now.items c.truncate.new.self.items [] (returns-then-is_err-clause-refused g c ∙ sym (append-nil c.args.into.now.items))

pub end-requires-clause-live : goal.end-requires-clause-live
end-requires-clause-live g c = subst (λ phase. IsSome (snapshot_in phase)) (sym c.write_all-written.ensures.reads.live) refl
