use Rattle.std.proofs.Common.{◌≡◌, ◌∙◌, sym, ap, subst, arith}
use Rattle.std.specs.Prelude.{nat_lt, option_map, true, false}
use Rattle.std.specs.BTreeMap.{get}
use Rattle.std.specs.Ordering.{nat_cmp}
use Rattle.std.proofs.lemmas.Bool.Decides.{nat_tests}
use Rattle.std.proofs.lemmas.Result.{err_from_is_err_and}
use Rattle.hg_base.specs.Transcript.{last_of, rest_in, said}
use Rattle.hg_known.specs.Lines.{said_of, without_rest, HasRest, IsRest}
use Rattle.hg_known.proofs.Reading.{lasts_more}
use Rattle.hg_known.proofs.Rests.{rests_more, rests_same}
use Rattle.hg_known.proofs.said.read_line.Goals as goal

pub returns-clause-lasts : goal.returns-clause-lasts
returns-clause-lasts c =
    λ earlier h.
    lasts_more c.args.lasts.now c.insert.new.self earlier (said_of c.stand-now.result) c.left.result h c.left.ensures.left (grind (arith, nat_tests)) c.in_ok-insert.ensures.updates.0

pub returns-in_err-insert-clause-refused : goal.returns-in_err-insert-clause-refused
returns-in_err-insert-clause-refused c = let p = err_from_is_err_and c.from_residual.result c.from_residual.ensures.1 in rw p.1 c.in_err-insert.ensures.err

pub returns-then-now-eq0-clause-rest : goal.returns-then-now-eq0-clause-rest
returns-then-now-eq0-clause-rest c =
    λ earlier lasts rests.
    let j = c.args.asked.session in
    let last : c.copied-last.result ≡ get nat_cmp c.args.lasts.now j = c.copied-last.ensures ∙ c.get.ensures.value in
    c.stand-now.ensures.rest earlier (ap (option_map without_rest) last ∙ lasts j) (subst (IsRest j earlier) (sym last) (rests j)) ∙
    ap (λ i. rest_in i c.stand-now.result.transaction earlier) (sym c.stand-now.ensures.session)

pub returns-then-now-eq0-clause-rests : goal.returns-then-now-eq0-clause-rests
returns-then-now-eq0-clause-rests c =
    λ earlier lasts rests.
    let j = c.args.asked.session in
    let last : c.copied-last.result ≡ get nat_cmp c.args.lasts.now j = c.copied-last.ensures ∙ c.get.ensures.value in
    let is : said_of c.stand-now.result ≡ said earlier c.args.asked c.args.reply.now = c.stand-now.ensures.said (last_of j earlier) (sym (ap (option_map without_rest) last ∙ lasts j)) in
    let none : nat_lt 0 c.stand-now.result.transaction ≡ false = grind (arith, nat_tests) in
    rests_same c.args.lasts.now earlier c.args.asked c.args.reply.now (said_of c.stand-now.result) is rests none

pub returns-clause-rest : goal.returns-clause-rest
returns-clause-rest c =
    λ earlier lasts rests.
    let j = c.args.asked.session in
    let last : c.copied-last.result ≡ get nat_cmp c.args.lasts.now j = c.copied-last.ensures ∙ c.get.ensures.value in
    c.stand-now.ensures.rest earlier (ap (option_map without_rest) last ∙ lasts j) (subst (IsRest j earlier) (sym last) (rests j)) ∙
    ap (λ i. rest_in i c.stand-now.result.transaction earlier) (sym c.stand-now.ensures.session)

pub returns-clause-rests : goal.returns-clause-rests
returns-clause-rests c =
    λ earlier lasts rests.
    let j = c.args.asked.session in
    let last : c.copied-last.result ≡ get nat_cmp c.args.lasts.now j = c.copied-last.ensures ∙ c.get.ensures.value in
    let is : said_of c.stand-now.result ≡ said earlier c.args.asked c.args.reply.now = c.stand-now.ensures.said (last_of j earlier) (sym (ap (option_map without_rest) last ∙ lasts j)) in
    let rest : HasRest earlier c.stand-now.result = c.stand-now.ensures.rest earlier (ap (option_map without_rest) last ∙ lasts j) (subst (IsRest j earlier) (sym last) (rests j)) ∙
    ap (λ i. rest_in i c.stand-now.result.transaction earlier) (sym c.stand-now.ensures.session) in
    let some : nat_lt 0 c.stand-now.result.transaction ≡ true = grind (arith, nat_tests) in
    rests_more c.args.lasts.now c.insert.new.self earlier c.args.asked c.args.reply.now (said_of c.stand-now.result) c.left.result c.stand-now.result.rest is rests some rest
    c.left.ensures.rest c.in_ok-insert.ensures.updates.0

pub returns-clause-said : goal.returns-clause-said
returns-clause-said c =
    λ earlier lasts.
    let j = c.args.asked.session in
    let last : c.copied-last.result ≡ get nat_cmp c.args.lasts.now j = c.copied-last.ensures ∙ c.get.ensures.value in
    c.stand-now.ensures.said (last_of j earlier) (sym (ap (option_map without_rest) last ∙ lasts j))

pub returns-then-now-eq0-clause-said : goal.returns-then-now-eq0-clause-said
returns-then-now-eq0-clause-said c =
    λ earlier lasts.
    let j = c.args.asked.session in
    let last : c.copied-last.result ≡ get nat_cmp c.args.lasts.now j = c.copied-last.ensures ∙ c.get.ensures.value in
    c.stand-now.ensures.said (last_of j earlier) (sym (ap (option_map without_rest) last ∙ lasts j))
