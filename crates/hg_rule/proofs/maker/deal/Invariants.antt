use Rattle.std.proofs.Common.{◌≡◌, [], drop, length}
use Rattle.hg_rule.specs.Views.{seeing}
use Rattle.hg_rule.specs.Seats.{board_id, view, IsSeatOf}
use Rattle.hg_rule.specs.New.{IsNew, EachFrom}
use Rattle.hg_rule.proofs.maker.deal.Given as goal

abbrev pub invariant-loop-i : goal.invariant-loop-i
invariant-loop-i g l = IsSeatOf (board_id l.fn.board) l.maker × (view l.maker ≡ seeing (drop l.i (view l.fn.maker).parts) [] (view l.fn.maker).events) × (length l.seats.items ≡ l.i)
    × EachFrom (λ i x. (g.T.Dealt.rest_is x ≡ g.T.Dealt.rest_for i) × IsNew (board_id l.fn.board) (g.T.Dealt.part i) (g.T.Dealt.seat_is x)) l.fn.first l.seats.items
