-- The reader and the collectors commit nothing.
use Rattle.std.proofs.Common.{◌≡◌, ℕ, List, [], ◌∷◌, ◌++◌, map, Option, Some, None, refl, ap, ◌∙◌}
use Rattle.std.specs.Prelude.{option_map}
use Rattle.std.specs.List.{cons_option}
use Rattle.hg_base.specs.declared.report.Kind.{Kind}
use Rattle.hg_base.specs.declared.report.Kind.TheVariants as kinds
use Rattle.hg_base.specs.declared.statement.Record.{Record}
use Rattle.hg_base.specs.declared.statement.Statement.{Statement}
use Rattle.hg_base.specs.declared.statement.Statement.TheVariants.{Begin, Commit as CommitIt, Gc}
use Rattle.hg_base.specs.declared.scope.Scope.TheVariants.{All}
use Rattle.hg_base.specs.declared.line.Answer.TheVariants.{Begun, Ended}
use Rattle.hg_base.specs.declared.line.Line.{Line}
use Rattle.hg_base.specs.declared.line.Reply.{Reply}
use Rattle.hg_base.specs.History.{Commit}
use Rattle.hg_base.specs.Lists.{Each, numbers_from}
use Rattle.hg_base.specs.Transcript.{Said, commit_by, commit_of, commits_from, committed, committed_by, last_of, next_after, open_after, rounds_of, said, said_after, said_from, standing}
use Rattle.hg_base.proofs.ListFacts.{each_append}
use Rattle.hg_dump.specs.Reader.{answered, asked, read_lines, read_records}

no_commit : (earlier : List Said) (now : Said) (xs : List (ℕ × Commit)) → committed now ≡ None → cons_option (commit_of earlier now) xs ≡ xs
no_commit earlier now xs e = ap (λ o. cons_option (option_map (λ c. (c, commit_by earlier now)) o) xs) e

-- a `commit` that is answered `ended` prints no number, wherever it is
ended_none : (o : Option Said) (next : ℕ) (r : Record) (j : ℕ) → r.statement ≡ CommitIt → committed (standing o next r (answered j Ended).reply) ≡ None
ended_none None next r j e = refl
ended_none (Some opened) next r j e = ap (λ s. committed_by s Ended) e

pub reader_silent : (earlier : List Said) (j : ℕ) (ats : List ℕ) → commits_from earlier (said_from earlier (read_records j ats) (read_lines j ats)) ≡ []
reader_silent earlier j [] = refl
reader_silent earlier j (at ∷ ats) =
    let first : Said = said earlier (asked j (Begin All)) (answered j (Begun at)).reply in
    let second : Said = said (first ∷ earlier) (asked j CommitIt) (answered j Ended).reply in
    let last : Option Said = last_of j (first ∷ earlier) in
    no_commit (first ∷ earlier) second (commits_from (second ∷ first ∷ earlier) (said_from (second ∷ first ∷ earlier) (read_records j ats) (read_lines j ats)))
    (ended_none (open_after last) (next_after last) (asked j CommitIt) j refl)
    ∙ reader_silent (second ∷ first ∷ earlier) j ats

-- a collector's round
abbrev pub IsRound : Record → Type 0
IsRound r = (r.session ≡ 0) × ((kind : Kind) × (r.statement ≡ Gc kind))

round_none : (last : Option Said) (r : Record) (reply : Reply) (s : Statement) (kind : Kind) → s ≡ Gc kind → r.statement ≡ Gc kind → committed (said_after last r reply s) ≡ None
round_none last r reply s kind e f = ap (λ t. committed (said_after last r reply t)) e ∙ ap (λ t. committed_by t reply.answer) f

pub rounds_silent : (over earlier : List Said) (rs : List Record) (lines : List Line) → Each IsRound rs → commits_from over (said_from earlier rs lines) ≡ []
rounds_silent over earlier [] lines h = refl
rounds_silent over earlier (r ∷ rs) [] h = refl
rounds_silent over earlier (r ∷ rs) (line ∷ lines) h =
    let now : Said = said earlier r line.reply in
    no_commit over now (commits_from (now ∷ over) (said_from (now ∷ earlier) rs lines)) (round_none (last_of r.session earlier) r line.reply r.statement h.0.1.0 h.0.1.1 h.0.1.1)
    ∙ rounds_silent (now ∷ over) (now ∷ earlier) rs lines h.1

are_rounds : (kind : Kind) (ns : List ℕ) → Each IsRound (map (λ n. record { place = n; session = 0; statement = Gc kind }) ns)
are_rounds kind [] = tt
are_rounds kind (n ∷ ns) = ((refl, (kind, refl)), are_rounds kind ns)

-- those of the three collectors
abbrev pub all_rounds : ℕ → List Record
all_rounds rounds = rounds_of kinds.Group rounds ++ (rounds_of kinds.Table rounds ++ rounds_of kinds.Interval rounds)

pub each_round : (rounds : ℕ) → Each IsRound (all_rounds rounds)
each_round rounds =
    each_append IsRound (rounds_of kinds.Group rounds) (rounds_of kinds.Table rounds ++ rounds_of kinds.Interval rounds) (are_rounds kinds.Group (numbers_from 1 rounds))
    (each_append IsRound (rounds_of kinds.Table rounds) (rounds_of kinds.Interval rounds) (are_rounds kinds.Table (numbers_from 1 rounds)) (are_rounds kinds.Interval (numbers_from 1 rounds)))
