-- What may come next in a conversation, from how a record was judged.
use Rattle.std.proofs.Common.{◌≡◌, ℕ, suc, ◌+◌, ◌≤◌, List, [], ◌∷◌, length, false, sym, ap, ◌∙◌, subst, arith}
use Rattle.std.specs.Prelude.{bytes_eq, codes}
use Rattle.std.proofs.Math.Pow.{pow_mono}
use Rattle.hg_base.specs.declared.limits.TheConstants.{MOST_TABLES}
use Rattle.hg_base.specs.declared.statement.Statement.{Statement}
use Rattle.hg_base.specs.declared.statement.Statement.TheVariants.{Begin, Get, Put, Del, Scan, CursorOpen, Fetch, CursorClose, Commit, Rollback, Gc}
use Rattle.hg_base.specs.declared.scope.Scope.{Scope}
use Rattle.hg_base.specs.declared.scope.Scope.TheVariants.{All, Declared}
use Rattle.hg_base.specs.Script.{Declaration, Script}
use Rattle.hg_core.specs.Words.{IsBelow}
use Rattle.hg_script.specs.Fields.{Fields, nth}
use Rattle.hg_script.specs.Judging.{IsJudged}
use Rattle.hg_script.specs.Lawful.{IsAccepted}
use Rattle.hg_script.specs.declared.judge.Judged.{Judged}
use Rattle.hg_script.specs.declared.judge.Judged.TheVariants as judged
use Rattle.hg_script.specs.declared.judge.Judge.{Judge}
use Rattle.hg_talk.specs.Framing.{Sent}
use Rattle.hg_exact.specs.Conversed.{Answered, accepted, asks_totals, lines_of}
use Rattle.hg_exact.proofs.Accepted.{next_accepted}
use Rattle.hg_run.specs.declared.desk.Desk.{Desk}
use Rattle.hg_run.specs.Asked.{IsOnTables}
use Rattle.hg_run.specs.Desk.{IsGoing, IsHearing}
use Rattle.hg_run.specs.Live.{MayCome}
use Rattle.hg_run.proofs.Going.{on_tables}

-- ---- a record that asks for the totals

pub asks_one : (r : Fields) (word : List ℕ) → length r ≡ 1 → word ≡ nth r 0 → bytes_eq word (codes "totals") ≡ asks_totals r
asks_one [] word one is = absurd (omega (arith, one))
asks_one (x ∷ []) word one is = ap (λ w. bytes_eq w (codes "totals")) is
asks_one (x ∷ y ∷ more) word one is = absurd (omega (arith, one))

-- ---- statements that break no rule

below_more : (n m : ℕ) (scope : Scope) → n ≤ m → IsBelow n scope → IsBelow m scope
below_more n m All most below = tt
below_more n m (Declared mask) most below = let more = pow_mono most in omega (arith, below, more)

on_more : (n m : ℕ) (s : Statement) → n ≤ m → IsOnTables n s → IsOnTables m s
on_more n m (Begin scope) most on = below_more n m scope most on
on_more n m (Get rid) most on = omega (arith, on, most)
on_more n m (Put rid row) most on = omega (arith, on, most)
on_more n m (Del rid) most on = omega (arith, on, most)
on_more n m (Scan table low high) most on = omega (arith, on, most)
on_more n m (CursorOpen table low high) most on = omega (arith, on, most)
on_more n m (Fetch k) most on = on
on_more n m CursorClose most on = tt
on_more n m Commit most on = tt
on_more n m Rollback most on = tt
on_more n m (Gc kind) most on = tt

-- a record that was judged so may come next
pub hearing_accepted : (d : Desk) (sent : List Sent) (answers : List Answered) (r : Fields) (session : ℕ) (statement : Statement) →
    IsHearing d sent answers r (judged.Asked session statement) → IsAccepted (accepted sent) session statement
hearing_accepted d sent answers r session statement h = next_accepted sent r session statement d.judge h.judged_is

-- the tables are those of the records before it
pub hearing_tables : (d : Desk) (sent : List Sent) (answers : List Answered) (r : Fields) (session : ℕ) (statement : Statement) →
    IsHearing d sent answers r (judged.Asked session statement) → d.judge.tables ≡ (accepted sent).tables
hearing_tables d sent answers r session statement h = h.judged_is.1.tables_are ∙ ap (λ (s : Script). s.tables) h.judged_is.2

pub hearing_comes : (d : Desk) (sent : List Sent) (answers : List Answered) (r : Fields) (session : ℕ) (statement : Statement) →
    IsHearing d sent answers r (judged.Asked session statement) → length d.judge.tables ≤ MOST_TABLES → MayCome d.engine d.crew.sessions.items d.last session statement
hearing_comes d sent answers r session statement h most =
    let a = hearing_accepted d sent answers r session statement h in
    let few : length (accepted sent).tables ≤ MOST_TABLES = subst (λ (t : List Declaration). length t ≤ MOST_TABLES) (hearing_tables d sent answers r session statement h) most in
    record {
      records = (accepted sent).records;
      lines = lines_of answers;
      live = h.live;
      first = a.some;
      most = subst (λ n. session ≤ n) (sym h.for_all.sessions) a.most;
      stands = a.stands;
      tables = subst (λ n. IsOnTables n statement) (sym h.for_all.tables) (on_more (length (accepted sent).tables) MOST_TABLES statement few (on_tables (accepted sent).tables statement a.fits a.widths));
    }

-- what was sent was judged so, after those before it
pub heard_as : (d : Desk) (judge : Judge) (sent : List Sent) (answers : List Answered) (r : Fields) (j : Judged) → IsGoing d sent answers → asks_totals r ≡ false →
    IsJudged (d.place + 1) (accepted sent) r j judge → IsJudged (suc (length sent)) (accepted sent) r j judge
heard_as d judge sent answers r j g other is = subst (λ p. IsJudged p (accepted sent) r j judge) (let place = g.place in omega (arith, place)) is

-- a record that was judged so is heard
pub hearing_of : (d : Desk) (judge : Judge) (sent : List Sent) (answers : List Answered) (r : Fields) (j : Judged) → IsGoing d sent answers → asks_totals r ≡ false →
    IsJudged (d.place + 1) (accepted sent) r j judge → IsHearing (record d { judge = judge }) sent answers r j
hearing_of d judge sent answers r j g other is = record {
  due = g.due;
  balanced = g.balanced;
  place = g.place;
  counts = other;
  judged_is = heard_as d judge sent answers r j g other is;
  live = g.live;
  told = g.told;
  collectors = g.collectors;
  for_all = g.for_all;
}
