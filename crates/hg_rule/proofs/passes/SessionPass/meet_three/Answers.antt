use Rattle.std.proofs.Common.{◌≡◌, ℕ, ◌∙◌, length, ap, subst, sym, arith}
use Rattle.hg_rule.specs.declared.view.Part.TheVariants.{OfSession}
use Rattle.hg_rule.specs.declared.view.View.{View}
use Rattle.hg_rule.specs.Agreed.{IsMet}
use Rattle.hg_rule.specs.Rules.{IsBacked}
use Rattle.hg_rule.specs.Seats.{board_id, sizes_of, pass_view, session_view}
use Rattle.hg_rule.specs.Views.{number, session, others}
use Rattle.hg_rule.proofs.Agreements.{met}
use Rattle.hg_rule.proofs.Holders.{still_session}
use Rattle.hg_rule.proofs.Three.{HaveMetThree, have_met, still_pass}
use Rattle.hg_rule.proofs.passes.SessionPass.meet_three.Goals as goal

have : (c : goal.After-give_part-3) → HaveMetThree (session_view c.args.self.now) (pass_view c.args.first.now) (pass_view c.args.second.now) (pass_view c.args.third.now)
    (session_view c.look_at.new.pass) (session_view c.give_part-3.new.self) (pass_view c.give_part-3.new.other) (pass_view c.give_part-2.new.other) (pass_view c.give_part.new.other)
have c =
    let some : length (session_view c.args.self.now).parts ≡ _ = ap length c.requires.own.3 in
    have_met _ _ _ _ _ _ _ _ _ _ _ _ _ _ _ _ _ (omega (arith, some)) (ap length c.requires.only.0) (ap length c.requires.only.1) (ap length c.requires.only.2)
    c.take_part.ensures.view c.take_part.ensures.other c.take_part-2.ensures.view c.take_part-2.ensures.other c.take_part-3.ensures.view c.take_part-3.ensures.other c.look_at.ensures.stays
    c.give_part.ensures.view c.give_part.ensures.other c.give_part-2.ensures.view c.give_part-2.ensures.other c.give_part-3.ensures.view c.give_part-3.ensures.other

pub returns-clause-backed : goal.returns-clause-backed
returns-clause-backed c = met (sizes_of c.args.board.now) c.look_at.result _ (subst (IsBacked (sizes_of c.args.board.now) c.look_at.result) (have c).all_is c.look_at.ensures.backed)

pub returns-clause-view : goal.returns-clause-view
returns-clause-view c = (have c).view

pub returns-clause-first : goal.returns-clause-first
returns-clause-first c = (have c).first

pub returns-clause-second : goal.returns-clause-second
returns-clause-second c = (have c).second

pub returns-clause-third : goal.returns-clause-third
returns-clause-third c = (have c).third

pub returns-clause-own : goal.returns-clause-own
returns-clause-own c = still_session (board_id c.args.board.now) (sizes_of c.args.board.now) c.args.self.now c.give_part-3.new.self (others (session_view c.args.self.now)) c.requires.own c.give_part-3.ensures.own.0
    (c.give_part-3.ensures.rest ∙ c.give_part-2.ensures.rest ∙ c.give_part.ensures.rest ∙ c.look_at.ensures.own.1 ∙ c.take_part-3.ensures.rest ∙ c.take_part-2.ensures.rest ∙ c.take_part.ensures.rest)
    (ap (λ (v : View). v.parts) (have c).view ∙ c.requires.own.3)

pub returns-clause-passes : goal.returns-clause-passes
returns-clause-passes c = (
  (c.give_part-3.ensures.own.1, still_pass (pass_view c.args.first.now) (pass_view c.give_part-3.new.other) (session_view c.give_part-3.new.self) c.requires.only.0 (have c).first),
  (c.give_part-2.ensures.own.1, still_pass (pass_view c.args.second.now) (pass_view c.give_part-2.new.other) (session_view c.give_part-3.new.self) c.requires.only.1 (have c).second),
  (c.give_part.ensures.own.1, still_pass (pass_view c.args.third.now) (pass_view c.give_part.new.other) (session_view c.give_part-3.new.self) c.requires.only.2 (have c).third),
)
