-- The shape of a text and the history that it prints are decided by computation. Kept in step with `Shape` and `History`.
use Rattle.std.proofs.Common.{ℕ, suc, ◌≤◌, List, [], ◌∷◌, length, map}
use Rattle.std.specs.Prelude.{◌==◌}
use Rattle.std.specs.List.{list_any}
use Rattle.hg_base.specs.declared.rid.Rid.{Rid}
use Rattle.hg_base.specs.declared.statement.Statement.{Statement}
use Rattle.hg_base.specs.declared.statement.Statement.TheVariants.{Gc}
use Rattle.hg_base.specs.declared.statement.Record.{Record}
use Rattle.hg_base.specs.declared.line.Answer.{Answer}
use Rattle.hg_base.specs.declared.line.Answer.TheVariants.{Swept}
use Rattle.hg_base.specs.declared.line.Line.{Line}
use Rattle.hg_base.specs.History.{Commit, Group, History, EachGroup, NoneTwice, NoNumberTwice, IsCommit, IsGroup, NoLostUpdate, is_among, group_rids, writes}
use Rattle.hg_base.specs.Transcript.{Said, commits, history_of}
use Rattle.hg_base.specs.Shape.{same_kind, IsReportOf, IsLineOf, HasShape}
use Rattle.hg_base.specs.Sound.{IsWhole}
use Rattle.hg_decide.proofs.Decide.{Decided, decide_as, decide_true, decide_false, decide_equal, decide_below, decide_at_most, decide_always, decide_never, decide_both, decide_all3}
use Rattle.hg_decide.proofs.Decide.{decide_all4, decide_either, decide_match, decide_each}

-- ---- the shape

abbrev pub decide_report : (statement : Statement) (answer : Answer) → Decided (IsReportOf statement answer)
decide_report (Gc kind) (Swept sweep) = decide_true (same_kind sweep.kind kind)
decide_report _ _ = decide_never

abbrev pub decide_line : (r : Record) (line : Line) → Decided (IsLineOf r line)
decide_line r line = decide_as (λ p. record { session = p.0; place = p.1; report = p.2 }) (λ p. (p.session, p.place, p.report))
    (decide_all3 (decide_equal line.session r.session) (decide_equal line.place r.place) (decide_match (r.session == 0) (decide_report r.statement line.reply.answer) decide_always))

abbrev pub decide_shape : (records : List Record) (lines : List Line) → Decided (HasShape records lines)
decide_shape [] [] = decide_always
decide_shape [] (line ∷ lines) = decide_never
decide_shape (r ∷ rs) [] = decide_never
decide_shape (r ∷ rs) (line ∷ lines) = decide_both (decide_line r line) (decide_shape rs lines)

-- ---- the history

abbrev pub decide_none_twice : (rids : List Rid) → Decided (NoneTwice rids)
decide_none_twice [] = decide_always
decide_none_twice (r ∷ rids) = decide_both (decide_false (is_among r rids)) (decide_none_twice rids)

abbrev pub decide_no_number_twice : (ns : List ℕ) → Decided (NoNumberTwice ns)
decide_no_number_twice [] = decide_always
decide_no_number_twice (n ∷ ns) = decide_both (decide_false (list_any (λ m. m == n) ns)) (decide_no_number_twice ns)

abbrev pub decide_commit : (n : ℕ) (c : Commit) → Decided (IsCommit n c)
decide_commit n c = decide_as (λ p. record { some = p.0; before = p.1 }) (λ p. (p.some, p.before)) (decide_both (decide_below 0 (length c.images)) (decide_below c.at n))

abbrev pub decide_group : (n : ℕ) (group : Group) → Decided (IsGroup n group)
decide_group n group = decide_as (λ p. record { some = p.0; commits = p.1; sessions = p.2; rids = p.3 }) (λ p. (p.some, p.commits, p.sessions, p.rids))
    (decide_all4 (decide_below 0 (length group)) (decide_each (IsCommit n) (decide_commit n) group) (decide_no_number_twice (map (λ c. c.session) group)) (decide_none_twice (group_rids group)))

abbrev pub decide_each_group : (P : ℕ → Group → Type 0) → ((n : ℕ) (group : Group) → Decided (P n group)) → (n : ℕ) (h : History) → Decided (EachGroup P n h)
decide_each_group P d n [] = decide_always
decide_each_group P d n (group ∷ groups) = decide_both (d n group) (decide_each_group P d (suc n) groups)

abbrev pub decide_whole : (all : List Said) → Decided (IsWhole all)
decide_whole all = decide_as (λ p. record { numbers = p.0; history = p.1 }) (λ p. (p.numbers, p.history))
    (decide_both (decide_each (λ p. 1 ≤ p.0) (λ p. decide_at_most 1 p.0) (commits all)) (decide_each_group IsGroup decide_group 1 (history_of all)))

abbrev pub decide_no_lost_update : (h : History) → Decided (NoLostUpdate h)
decide_no_lost_update h = decide_each_group _ (λ n group. decide_each _
    (λ c. decide_each _ (λ w. decide_each _ (λ other. decide_either (decide_at_most other.0 c.at) (decide_at_most n other.0)) (writes h w.rid)) c.images) group) 1 h
