use Rattle.std.proofs.Common.{◌<◌, sym, ap, ◌∙◌, subst}
use Rattle.hg_rule.specs.Seats.{board_id, sizes_of}
use Rattle.hg_session.proofs.engine.Engine.over.Goals as goal

pub invariant_of-shared : goal.invariant_of-shared
invariant_of-shared c =
    let board = c.args.board in
    let same = sym c.new-3.ensures in
    record {
      store_is = c.in_ok-store.ensures.board (board_id board) c.requires.buckets.1 ∙ ap board_id same;
      groups_are = c.in-Ok.ensures.board (board_id board) c.requires.commit ∙ ap board_id same;
      sessions_are = c.in-Ok.ensures.sessions ∙ c.requires.sessions ∙ ap (λ b. (sizes_of b).sessions) same;
      buckets_are = c.in_ok-store.ensures.count ∙ c.requires.buckets.0 ∙ ap (λ b. (sizes_of b).buckets) same;
      some = subst (λ n. 0 < n) (sym c.in_ok-store.ensures.count) c.requires.some.0;
    }
