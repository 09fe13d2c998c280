use Rattle.std.proofs.Common.{◌≡◌, ◌+◌, ◌<◌, ◌≤◌, ◌∙◌, sym, ap, subst, arith, length, get_or, false, Some}
use Rattle.std.specs.Prelude.{option_map, nat_lt}
use Rattle.std.proofs.lemmas.Bool.{ltb-true, ltb-false}
use Rattle.std.proofs.lemmas.Bool.Decides.{Decides-eqb}
use Rattle.std.proofs.lemmas.List.{get_or_default}
use Rattle.hg_base.specs.declared.report.Told.{Told}
use Rattle.hg_base.proofs.ListFacts.{false_true, cases}
use Rattle.hg_known.proofs.Walking.{at_line}
use Rattle.hg_audit.proofs.Opening.{SameUpTo, same_none, same_some, too_short, another, all_held, too_long}
use Rattle.hg_audit.proofs.freshness.are_open.Goals as goal

pub loop-j-preserved-in_default : goal.loop-j-preserved-in_default
loop-j-preserved-in_default c = record {
  within = c.loop-j.invariant.within;
  same = λ earlier before. same_none earlier c.args.held.now c.loop-j.told c.loop-j.j (sym (c.open_at.ensures earlier before) ∙
      ap (option_map (λ at. (c.loop-j.j + 1, at))) c.in_default.is) (c.loop-j.invariant.same earlier before);
}

pub returns-then-told-held : goal.returns-then-told-held
returns-then-told-held c =
    λ earlier before.
    let e = sym (c.open_at.ensures earlier before) ∙ ap (option_map (λ at. (c.loop-j.j + 1, at))) c.in-Some.is in (
      λ t. absurd (false_true t),
      λ all. absurd (too_short earlier c.args.held.now c.sessions-j-end.result (c.sessions-j-end.ensures earlier before) c.loop-j.told c.loop-j.j c.in-Some.at c.if-told-held.true
          (c.loop-j.invariant.same earlier before) (omega arith) e all),
    )

pub returns-then-not-is_point : goal.returns-then-not-is_point
returns-then-not-is_point c =
    λ earlier before.
    let held = c.args.held.now in
    let told = c.loop-j.told in
    let less : told < length held = omega arith in
    let t : Told = get_or held told (record { session = 0; number = 0; moved = false }) in
    let here = at_line held told t less (get_or_default held told (record { session = 0; number = 0; moved = false }) t less) in
    let e = sym (c.open_at.ensures earlier before) ∙ ap (option_map (λ at. (c.loop-j.j + 1, at))) c.in-Some.is in (
      λ t. absurd (false_true t),
      λ all. absurd (false_true (sym c.if-not-is_point.true ∙ c.is_point.ensures.1
          (another earlier held c.sessions-j-end.result (c.sessions-j-end.ensures earlier before) told c.loop-j.j c.in-Some.at t here (c.loop-j.invariant.same earlier before) (omega arith) e all))),
    )

pub loop-j-preserved : goal.loop-j-preserved
loop-j-preserved c =
    let held = c.args.held.now in
    let told = c.loop-j.told in
    let less : told < length held = omega arith in
    let t : Told = get_or held told (record { session = 0; number = 0; moved = false }) in
    let here = at_line held told t less (get_or_default held told (record { session = 0; number = 0; moved = false }) t less) in
    let p = c.is_point.ensures.0 c.if-not-is_point.false in
    record {
      within = omega (arith, less);
      same = λ earlier before. same_some earlier held told c.loop-j.j t here (sym (c.open_at.ensures earlier before) ∙ ap (option_map (λ at. (c.loop-j.j + 1, at))) c.in-Some.is ∙
          (λ i. Some (sym p.0 i, sym p.1 i))) (c.loop-j.invariant.same earlier before);
    }

pub returns : goal.returns
returns c =
    λ earlier before.
    let held = c.args.held.now in
    let told = c.loop-j.told in
    let most = c.sessions-j-end.result in
    let top = c.sessions-j-end.ensures earlier before in
    let done : c.loop-j.j ≡ most = omega arith in
    let same = subst (SameUpTo earlier held told) done (c.loop-j.invariant.same earlier before) in (
      λ e. let is : told ≡ length held = (Decides-eqb told (length held)).0 e in all_held earlier held most top told (omega (arith, is)) same,
      λ all. cases (nat_lt told (length held))
          (λ e.
          let less : told < length held = ltb-true told (length held) e in
          let t : Told = get_or held told (record { session = 0; number = 0; moved = false }) in
          let here = at_line held told t less (get_or_default held told (record { session = 0; number = 0; moved = false }) t less) in
          absurd (too_long earlier held most top told t here same all))
          (λ e. let over : length held ≤ told = ltb-false told (length held) e in (Decides-eqb told (length held)).1 (omega (arith, over, c.loop-j.invariant.within))),
    )
