-- In a replay that is known to rise commit numbers ascend.
use Rattle.std.proofs.Common.{◌≡◌, ℕ, ◌<◌, ◌≤◌, List, [], ◌∷◌, Bool, true, false, Option, Some, None, sym, subst, arith}
use Rattle.std.specs.Prelude.{◌&&◌, filter_map, is_some, if◌then◌else◌, IfSome}
use Rattle.std.specs.List.{cons_option}
use Rattle.std.specs.Option.{option_or}
use Rattle.hg_base.specs.declared.statement.Record.{Record}
use Rattle.hg_base.specs.declared.statement.Statement.{Statement}
use Rattle.hg_base.specs.declared.line.Line.{Line}
use Rattle.hg_base.specs.declared.line.Reply.{Reply}
use Rattle.hg_base.specs.Lists.{Each, EachAfter, greatest}
use Rattle.hg_base.specs.History.{History}
use Rattle.hg_base.specs.Script.{Script, replay}
use Rattle.hg_base.specs.Sound.{IsRight, LinesAreSound, all_said}
use Rattle.hg_base.specs.Transcript.{Said, committed, committed_by, greatest_commit, last_of, said, said_from, stored}
use Rattle.hg_headline.specs.Timely.{IsTimely, Rises, commit_in, reads_in}
use Rattle.hg_headline.proofs.Whole.{said_says}

abbrev pub CommitAscends : List Said → Said → Type 0
CommitAscends earlier now = IfSome (committed now) (λ c. greatest_commit earlier < c)

-- the number that a line commits is the one that its reply prints
commit_printed : (P : ℕ → Type 0) (now : Said) → is_some now.reply.number ≡ (now.alone && is_some (stored now)) → IfSome (commit_in now.statement now.reply) P → IfSome (committed now) P
commit_printed P now e h = go now.alone now.reply.number (committed_by now.statement now.reply.answer) (is_some (stored now)) e h
  where
    go : (b : Bool) (n c : Option ℕ) (x : Bool) → is_some n ≡ (b && x) → IfSome (option_or n c) P → IfSome (if b then n else c) P
    go true None c x f k = tt
    go true (Some m) c x f k = k
    go false None c x f k = k
    go false (Some m) c x f k = absurd (let bad : true ≡ false = f in cc)

most_after : (earlier : List Said) (now : Said) (top next : ℕ) → greatest_commit earlier ≤ top → top ≤ next → IfSome (committed now) (λ c. (top < c) × (c ≤ next)) →
    greatest_commit (now ∷ earlier) ≤ next
most_after earlier now top next a b h = go (committed now) h
  where
    go : (o : Option ℕ) → IfSome o (λ c. (top < c) × (c ≤ next)) → greatest (cons_option o (filter_map committed earlier)) ≤ next
    go None k = omega (arith, a, b)
    go (Some c) k = let l : c ≤ next = k.1 in omega (arith, a, b, l)

lines_ascend : (h : History) (final : List Said) (earlier : List Said) (rs : List Record) (lines : List Line) (top last : ℕ) → Rises top rs lines last →
    greatest_commit earlier ≤ top → EachAfter (IsRight replay h final) earlier (said_from earlier rs lines) → EachAfter CommitAscends earlier (said_from earlier rs lines)
lines_ascend h final earlier [] lines top last rises a right = tt
lines_ascend h final earlier (r ∷ rs) [] top last rises a right = tt
lines_ascend h final earlier (r ∷ rs) (line ∷ lines) top last rises a right =
    let now : Said = said earlier r line.reply in
    let next : ℕ = rises.0 in
    let timely : IsTimely top next r.statement line.reply = rises.1 in
    let says = said_says (last_of r.session earlier) r line.reply r.statement in
    let prints = subst (λ (p : Statement × Reply). IfSome (commit_in p.0 p.1) (λ c. (top < c) × (c ≤ next))) (λ i. (sym says.1 i, sym says.2 i))
    (both (commit_in r.statement line.reply) timely.commit) in
    let commits : IfSome (committed now) (λ c. (top < c) × (c ≤ next)) = commit_printed (λ c. (top < c) × (c ≤ next)) now right.0.reply.number prints in
    (over now commits, lines_ascend h final (now ∷ earlier) rs lines next last rises.2 (most_after earlier now top next a timely.grows commits) right.1)
  where
    both : (o : Option ℕ) → IfSome o (λ c. (top < c) × (c ≤ rises.0) × Each (λ n. n < c) (reads_in line.reply)) → IfSome o (λ c. (top < c) × (c ≤ rises.0))
    both None k = tt
    both (Some c) k = (k.0, k.1)

    over : (now : Said) → IfSome (committed now) (λ c. (top < c) × (c ≤ rises.0)) → IfSome (committed now) (λ c. greatest_commit earlier < c)
    over now k = go (committed now) k
      where
        go : (o : Option ℕ) → IfSome o (λ c. (top < c) × (c ≤ rises.0)) → IfSome o (λ c. greatest_commit earlier < c)
        go None k = tt
        go (Some c) k = let l : top < c = k.0 in omega (arith, a, l)

pub sound_ascends : (script : Script) (lines : List Line) (last : ℕ) → LinesAreSound replay script lines → Rises 0 script.records lines last → EachAfter CommitAscends [] (all_said replay script lines)
sound_ascends script lines last sound rises = lines_ascend _ _ [] script.records lines 0 last rises (omega arith) sound.right.lines
