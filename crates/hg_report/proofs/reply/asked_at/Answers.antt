use Rattle.std.proofs.Common.{◌≡◌, ◌<◌, ◌+◌, ◌∙◌, ℕ, length, get_or, Some, refl, ap, sym, arith}
use Rattle.hg_base.specs.declared.statement.Record.{Record}
use Rattle.hg_base.specs.declared.statement.Statement.TheVariants.{Commit}
use Rattle.hg_base.specs.Script.{Script}
use Rattle.hg_base.specs.Text.{cursor_before}
use Rattle.hg_records.specs.Asked.{asked_by}
use Rattle.hg_script.specs.Numbered.{AreNumbered, records_before}
use Rattle.hg_report.proofs.Places.{GoOn, found, found_none, here, elsewhere}
use Rattle.hg_report.proofs.reply.asked_at.Goals as goal

go_on : (s : Script) → AreNumbered s → GoOn (records_before s + 1) s.records
go_on s h i d less = let is = h i d less in omega (arith, is)

-- what no index finds
nobody : Record
nobody = record { place = 0; session = 0; statement = Commit }

abbrev at : Script → ℕ → Record
at s i = get_or s.records i nobody

-- the record at i stands at this place
stands : (s : Script) (place i : ℕ) → AreNumbered s → i < length s.records → place ≡ records_before s + i + 1 → (at s i).place ≡ place
stands s place i h less is = let there = h i nobody less in omega (arith, there, is)

pub returns-in_default : goal.returns-in_default
returns-in_default c =
    let s = c.args.script.now in
    let none = c.in_default.ensures.none in
    rw (found_none c.args.session c.args.place (records_before s + 1) s.records (go_on s c.in_default.ensures.places) (λ i less e. none i less (omega (arith, e)))) refl

pub returns-then-by-session : goal.returns-then-by-session
returns-then-by-session c =
    let s = c.args.script.now in
    let i = c.in-Some.i in
    let h = c.in-Some.ensures in
    let it = found c.args.session c.args.place (records_before s + 1) s.records i nobody (go_on s h.places) h.found.0 (omega (arith, h.found.1)) in
    let place = stands s c.args.place i h.places h.found.0 h.found.1 in
    let said = c.asked-by.ensures nobody in
    let mine : (at s i).session ≡ c.args.session = sym (ap (λ p. p.0) said) ∙ c.if-by-session.true in
    let cursor : cursor_before s.records (at s i).session (at s i).place ≡ cursor_before s.records c.args.session c.args.place =
    ap (λ j. cursor_before s.records j (at s i).place) mine ∙ ap (cursor_before s.records c.args.session) place in
    rw (it, here c.args.session c.args.place (at s i) place mine) (ap (λ p. Some p.1) said ∙ ap (λ o. Some (asked_by o (at s i).statement)) cursor)

pub returns-else-by-session : goal.returns-else-by-session
returns-else-by-session c =
    let s = c.args.script.now in
    let i = c.in-Some.i in
    let h = c.in-Some.ensures in
    let it = found c.args.session c.args.place (records_before s + 1) s.records i nobody (go_on s h.places) h.found.0 (omega (arith, h.found.1)) in
    let said = c.asked-by.ensures nobody in
    rw (it, elsewhere c.args.session c.args.place (at s i) (λ p e. c.if-by-session.false (ap (λ p. p.0) said ∙ e))) refl
