use Rattle.std.proofs.Common.{◌<◌, ◌++◌, ◌∷◌, [], length, ap, sym, ◌∙◌, subst, arith, set}
use Rattle.hg_space.specs.Rosters.{lists_in, standing_at, AreStanding}
use Rattle.hg_space.proofs.RosterFacts.{entered, trimmed_same, trimmed_list, seen_apart, seen_list, nowhere_inside, always_err}
use Rattle.hg_space.proofs.roster.Roster.enter.Goals as goal

pub returns-in_err-at-clause-others : goal.returns-in_err-at-clause-others
returns-in_err-at-clause-others c = λ t apart. seen_apart (lists_in c.self.inside.lists.items) (lists_in c.append.new.lists.items) c.args.self.now t c.self.view_is (c.append.ensures.others t apart)

pub returns-in_err-at-clause-refused : goal.returns-in_err-at-clause-refused
returns-in_err-at-clause-refused c =
    let h = trimmed_same (lists_in c.append.new.lists.items) (lists_in c.self.inside.lists.items) c.in_err-at.ensures.refused ∙ c.self.view_is in
    always_err c.from_residual-in_err-at.result _ h

pub invariant_of-self-2 : goal.invariant_of-self-2
invariant_of-self-2 c =
    let ls = lists_in c.self.inside.lists.items in
    let there : c.args.place < length c.reach.new.standings.items = omega (arith, c.in_ok-reach.ensures.there) in
    let all = entered ls (lists_in c.append.new.lists.items) c.self.inside.standings.items c.reach.new.standings.items c.args.table.0
    (record { key = c.args.key; place = c.args.place }) c.self.invariant c.reach.ensures.stay
    (nowhere_inside ls c.args.self.now c.args.place c.self.view_is c.requires.new_place) there c.in_ok-at.ensures.last c.append.ensures.others in
    subst (λ n. AreStanding (lists_in c.append.new.lists.items) (set c.reach.new.standings.items c.args.place (standing_at c.args.table.0 n))) (sym c.in_ok-at.ensures.at) all

pub returns-clause-last : goal.returns-clause-last
returns-clause-last c =
    trimmed_list (lists_in c.append.new.lists.items) c.args.table.0 ∙ c.in_ok-at.ensures.last ∙
    ap (λ xs. xs ++ record { key = c.args.key; place = c.args.place } ∷ []) (seen_list (lists_in c.self.inside.lists.items) c.args.self.now c.args.table.0 c.self.view_is)

pub returns-clause-others : goal.returns-clause-others
returns-clause-others c = λ t apart. seen_apart (lists_in c.self.inside.lists.items) (lists_in c.append.new.lists.items) c.args.self.now t c.self.view_is (c.append.ensures.others t apart)
