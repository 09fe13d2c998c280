-- Lines that are read after other lines.
use Rattle.std.proofs.Common.{◌≡◌, ℕ, List, [], ◌∷◌, ◌++◌, length, refl, sym, ap, ◌∙◌, subst, arith}
use Rattle.std.specs.Prelude.{map}
use Rattle.std.specs.List.{cons_option}
use Rattle.hg_base.specs.declared.statement.Record.{Record}
use Rattle.hg_base.specs.declared.line.Line.{Line}
use Rattle.hg_base.specs.declared.line.Reply.{Reply}
use Rattle.hg_base.specs.History.{Commit, History}
use Rattle.hg_base.specs.Lists.{Each, EachAfter, greatest, numbers_from, onto}
use Rattle.hg_base.specs.Shape.{HasShape}
use Rattle.hg_base.specs.Transcript.{Said, commit_of, commits, commits_from, group_of, history_of, last_of, said, said_from}
use Rattle.hg_base.proofs.ListFacts.{cons_option_append}
use Rattle.hg_headline.proofs.Commits.{commits_numbers}
use Rattle.hg_headline.proofs.Whole.{said_says}

-- ---- the shape of parts

pub shape_split : (rs more : List Record) (lines later : List Line) → length rs ≡ length lines → HasShape (rs ++ more) (lines ++ later) → HasShape rs lines × HasShape more later
shape_split [] more [] later e h = (tt, h)
shape_split [] more (line ∷ lines) later e h = absurd (omega (arith, e))
shape_split (r ∷ rs) more [] later e h = absurd (omega (arith, e))
shape_split (r ∷ rs) more (line ∷ lines) later e h = let rest = shape_split rs more lines later (omega (arith, e)) h.1 in ((h.0, rest.0), rest.1)

-- ---- lines after lines

pub said_append : (earlier : List Said) (rs more : List Record) (lines later : List Line) → HasShape rs lines →
    said_from earlier (rs ++ more) (lines ++ later) ≡ said_from earlier rs lines ++ said_from (onto (said_from earlier rs lines) earlier) more later
said_append earlier [] more [] later h = refl
said_append earlier [] more (line ∷ lines) later h = absurd h
said_append earlier (r ∷ rs) more [] later h = absurd h
said_append earlier (r ∷ rs) more (line ∷ lines) later h = ap (λ xs. said earlier r line.reply ∷ xs) (said_append (said earlier r line.reply ∷ earlier) rs more lines later h.1)

pub after_append : {X : Type 0} (P : List X → X → Type 0) (earlier xs ys : List X) → EachAfter P earlier (xs ++ ys) → EachAfter P earlier xs × EachAfter P (onto xs earlier) ys
after_append P earlier [] ys h = (tt, h)
after_append P earlier (x ∷ xs) ys h = let rest = after_append P (x ∷ earlier) xs ys h.1 in ((h.0, rest.0), rest.1)

pub commits_append : (earlier xs ys : List Said) → commits_from earlier (xs ++ ys) ≡ commits_from earlier xs ++ commits_from (onto xs earlier) ys
commits_append earlier [] ys = refl
commits_append earlier (x ∷ xs) ys = ap (cons_option (commit_of earlier x)) (commits_append (x ∷ earlier) xs ys) ∙
    cons_option_append (commit_of earlier x) (commits_from (x ∷ earlier) xs) (commits_from (onto xs (x ∷ earlier)) ys)

-- ---- what is said of each line

-- of the record's session and the reply
pub each_said : (P : ℕ → Reply → Type 0) (earlier : List Said) (rs : List Record) (lines : List Line) → Each (λ (s : Said). P s.session s.reply) (said_from earlier rs lines) →
    HasShape rs lines → Each (λ (line : Line). P line.session line.reply) lines
each_said P earlier [] [] h k = tt
each_said P earlier [] (line ∷ lines) h k = absurd k
each_said P earlier (r ∷ rs) [] h k = absurd k
each_said P earlier (r ∷ rs) (line ∷ lines) h k =
    let is = said_says (last_of r.session earlier) r line.reply r.statement in
    (subst (λ j. P j line.reply) (is.0 ∙ sym k.0.session) (subst (λ reply. P (said earlier r line.reply).session reply) is.2 h.0), each_said P (said earlier r line.reply ∷ earlier) rs lines h.1 k.1)

pub sessions_said : (P : ℕ → Type 0) (earlier : List Said) (rs : List Record) (lines : List Line) → Each (λ (r : Record). P r.session) rs →
    Each (λ (s : Said). P s.session) (said_from earlier rs lines)
sessions_said P earlier [] lines h = tt
sessions_said P earlier (r ∷ rs) [] h = tt
sessions_said P earlier (r ∷ rs) (line ∷ lines) h = (
  subst P (sym (said_says (last_of r.session earlier) r line.reply r.statement).0) h.0,
  sessions_said P
      (said earlier r line.reply ∷ earlier) rs lines h.1,
)

-- ---- the history is that of the commits

-- the history of commits with their numbers
abbrev pub of_commits : List (ℕ × Commit) → History
of_commits printed = map (group_of printed) (numbers_from 1 (greatest (map (λ p. p.0) printed)))

history_is : (all : List Said) → history_of all ≡ of_commits (commits all)
history_is all = ap (λ ns. map (group_of (commits all)) (numbers_from 1 (greatest ns))) (sym (commits_numbers [] all))

pub history_same : (xs ys : List Said) → commits xs ≡ commits ys → history_of xs ≡ history_of ys
history_same xs ys e = history_is xs ∙ ap of_commits e ∙ sym (history_is ys)
