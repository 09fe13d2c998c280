use Rattle.std.proofs.Common.{◌≡◌, length, refl, ap, ◌∙◌, arith}
use Rattle.hg_rule.specs.Rounds.{entries_of}
use Rattle.hg_tracker.proofs.TableLists.{entries_most}
use Rattle.hg_tracker.proofs.After.{keys_length}
use Rattle.hg_rounds.proofs.rounds.Rounds.rewrite.Goals as goal

pub refill-requires : goal.refill-requires
refill-requires c =
    let sessions = c.requires.room.0 in
    let part = c.requires.room.1 in
    let shown = c.requires.room.2 in
    let l = entries_most part.loaded in
    let k = keys_length part.loaded sessions shown.loaded.0 in
    let e : length c.entries.result.now ≡ length (entries_of part.loaded) = ap length (c.entries.ensures _ _ shown) in
    record { room = omega (arith, l, k, e, c.requires.room.3) }

pub returns-clause-reports : goal.returns-clause-reports
returns-clause-reports c =
    λ sessions part shown. record {
      kind_is = refl;
      mark_is = c.mark-self.ensures _ _ shown;
      horizon_is = c.horizon-self.ensures _ _ shown;
      removed_is = refl;
      entries_are = c.refill.ensures.list ∙ c.entries.ensures _ _ shown;
    }
