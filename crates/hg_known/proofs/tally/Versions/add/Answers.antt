use Rattle.std.proofs.Common.{◌≡◌, ◌+◌, ◌∙◌, true, false, sym, ap, arith, cond, refl}
use Rattle.std.specs.Prelude.{unwrap_or, is_some, min}
use Rattle.hg_base.specs.Transcript.{committed}
use Rattle.hg_known.specs.Lines.{said_of}
use Rattle.hg_known.proofs.Firsts.{one_more, its_more}
use Rattle.hg_known.proofs.Tallying.{its_count, tallied_few, tallied_idle, tallied_going, tallied_ended}
use Rattle.hg_known.proofs.tally.Versions.add.Goals as goal

pub returns-then-not-first : goal.returns-then-not-first
returns-then-not-first c = λ earlier is opened first few. tallied_idle earlier (said_of c.args.said.now) opened c.args.self.now c.args.first is first c.if-not-first.true
    (sym c.ends-ended.ensures ∙ c.if-not-ended.true)

pub returns-then-not-ended-2 : goal.returns-then-not-ended-2
returns-then-not-ended-2 c =
    λ earlier is opened first small.
    let now = said_of c.args.said.now in
    let few = tallied_few earlier now opened c.args.self.now is in
    let before : c.unwrap_or-before.result ≡ its_count earlier now opened c.args.self.now = c.unwrap_or-before.ensures ∙ ap (λ o. unwrap_or o 0) (c.copied.ensures ∙ c.get.ensures.value) in
    tallied_going earlier now opened c.args.self.now _ c.args.first c.saturating_add.result is first (sym c.ends-ended.ensures ∙ c.if-not-ended-2.true)
    (one_more c.args.self.now.made c.from-more.result c.saturating_add-self.result _ c.args.first c.saturating_add-self.ensures c.from-more.ensures few.0 small) refl
    (one_more (its_count earlier now opened c.args.self.now) c.from-more.result c.saturating_add.result _ c.args.first (c.saturating_add.ensures ∙
    (λ i. min (before i + c.from-more.result) 18446744073709551615)) c.from-more.ensures few.2 small)
    c.in_ok-insert.ensures.updates.0

pub returns-then-is_some : goal.returns-then-is_some
returns-then-is_some c =
    λ earlier is opened first small.
    let now = said_of c.args.said.now in
    let few = tallied_few earlier now opened c.args.self.now is in
    let its = its_count earlier now opened c.args.self.now in
    let before : c.unwrap_or-before-2.result ≡ its = c.unwrap_or-before-2.ensures ∙ ap (λ o. unwrap_or o 0) c.remove.ensures.value in
    let count = one_more its c.from-more.result c.saturating_add-then-is_some.result _ c.args.first (c.saturating_add-then-is_some.ensures ∙
    (λ i. min (before i + c.from-more.result) 18446744073709551615)) c.from-more.ensures few.2 small in
    let some : is_some (committed now) ≡ true = ap is_some (sym c.committed.ensures) ∙ sym c.is_some.ensures ∙ c.if-is_some.true in
    tallied_ended earlier now opened c.args.self.now _ c.args.first is first (sym c.ends-ended.ensures ∙ c.if-not-ended-2.false)
    (one_more c.args.self.now.made c.from-more.result c.saturating_add-self.result _ c.args.first c.saturating_add-self.ensures c.from-more.ensures few.0 small)
    (its_more c.args.self.now.kept c.saturating_add-then-is_some.result c.saturating_add-self-then-is_some.result _ its c.args.first c.saturating_add-self-then-is_some.ensures count few.1 few.2 small
    ∙ sym (ap (λ d. c.args.self.now.kept + cond d (its + cond c.args.first 1 0) 0) some)) c.remove.ensures.updates.0

pub returns-else-is_some : goal.returns-else-is_some
returns-else-is_some c =
    λ earlier is opened first small.
    let now = said_of c.args.said.now in
    let few = tallied_few earlier now opened c.args.self.now is in
    let its = its_count earlier now opened c.args.self.now in
    let none : is_some (committed now) ≡ false = ap is_some (sym c.committed.ensures) ∙ sym c.is_some.ensures ∙ c.if-is_some.false in
    tallied_ended earlier now opened c.args.self.now _ c.args.first is first (sym c.ends-ended.ensures ∙ c.if-not-ended-2.false)
    (one_more c.args.self.now.made c.from-more.result c.saturating_add-self.result _ c.args.first c.saturating_add-self.ensures c.from-more.ensures few.0 small)
    (omega arith ∙ sym (ap (λ d. c.args.self.now.kept + cond d (its + cond c.args.first 1 0) 0) none)) c.remove.ensures.updates.0
