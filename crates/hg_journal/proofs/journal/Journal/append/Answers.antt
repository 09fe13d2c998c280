use Rattle.std.proofs.Common.{rules, ◌≡◌, inl, ◌∷◌, length, sym, ◌∙◌, ap, arith, length-append}
use Rattle.hg_journal.specs.Gate.{kept, at_rest}
use Rattle.hg_journal.specs.Journal.{KeepsWithOrWithout}
use Rattle.hg_journal.proofs.Moments.{weaker}
use Rattle.hg_journal.proofs.Appends.{extending, appending, open_again, keeps_group}
use Rattle.hg_journal.proofs.journal.Journal.append.Goals as goal

-- behind the closed gate
pub returns-in_err-extend-clause-any_moment : goal.returns-in_err-extend-clause-any_moment
returns-in_err-extend-clause-any_moment g c =
    let file = g.D.Device.seen c.args.self.now.device in
    weaker g.D.Device.moment g.D.Device.left_since c.args.self.now.device c.extend.new.device _ (KeepsWithOrWithout (kept file) c.args.group.now) c.extend.ensures.any_moment
    (λ f grown. inl (extending file c.requires.open.file _ f grown))

-- and then at the gate
pub returns-in_err-replace-clause-any_moment : goal.returns-in_err-replace-clause-any_moment
returns-in_err-replace-clause-any_moment g c =
    let splits : c.args.group.now ≡ c.in-Some.first.now ∷ c.in-Some.rest.now = search rules in
    appending (g.D.Device.seen c.args.self.now.device) c.requires.open.file c.args.group.now _ _ c.args.self.now.end c.requires.open.end splits _ c.in_ok-extend.ensures.written
    g.D.Device.moment g.D.Device.left_since c.args.self.now.device c.extend.new.device c.replace.new.device _ c.requires.group c.extend.ensures.any_moment c.replace.ensures.any_moment

pub returns-clause-any_moment : goal.returns-clause-any_moment
returns-clause-any_moment g c =
    let splits : c.args.group.now ≡ c.in-Some.first.now ∷ c.in-Some.rest.now = search rules in
    appending (g.D.Device.seen c.args.self.now.device) c.requires.open.file c.args.group.now _ _ c.args.self.now.end c.requires.open.end splits _ c.in_ok-extend.ensures.written
    g.D.Device.moment g.D.Device.left_since c.args.self.now.device c.extend.new.device c.replace.new.device _ c.requires.group c.extend.ensures.any_moment c.replace.ensures.any_moment

pub returns-clause-added : goal.returns-clause-added
returns-clause-added g c =
    let splits : c.args.group.now ≡ c.in-Some.first.now ∷ c.in-Some.rest.now = search rules in
    keeps_group (g.D.Device.seen c.args.self.now.device) c.requires.open.file c.args.group.now _ _ c.args.self.now.end c.requires.open.end splits _ c.in_ok-extend.ensures.written _ c.requires.group c.in_ok-replace.ensures.written

pub returns-clause-acknowledged : goal.returns-clause-acknowledged
returns-clause-acknowledged g c =
    let splits : c.args.group.now ≡ c.in-Some.first.now ∷ c.in-Some.rest.now = search rules in
    let file = g.D.Device.seen c.args.self.now.device in
    let rests = open_again file c.requires.open.file c.args.group.now _ _ c.args.self.now.end c.requires.open.end splits _ c.in_ok-extend.ensures.written _ c.in_ok-replace.ensures.written in
    let same = returns-clause-added g c in
    record {
      file = rests ∙ ap at_rest (sym same);
      end = omega (arith, c.requires.open.end, ap length same, length-append (kept file) c.args.group.now);
      durable = c.in_ok-replace.ensures.durable;
    }
