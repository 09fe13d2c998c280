-- `IsSound` is decided by computation. Kept in step with `Conflicts`, `Freshness`, `Counts` and `Sound`.
use Rattle.std.proofs.Common.{ℕ, ◌+◌, ◌<◌, ◌≤◌, List, [], length, map}
use Rattle.std.specs.Prelude.{◌==◌, filter, filter_map, not, is_some, sum_by}
use Rattle.std.specs.List.{list_any}
use Rattle.hg_base.specs.declared.rid.Rid.{Rid}
use Rattle.hg_base.specs.declared.writer.Writer.{Writer}
use Rattle.hg_base.specs.declared.statement.Statement.{Statement}
use Rattle.hg_base.specs.declared.report.Kind.TheVariants as kinds
use Rattle.hg_base.specs.declared.report.Told.{Told}
use Rattle.hg_base.specs.declared.report.Sweep.{Sweep}
use Rattle.hg_base.specs.declared.line.Answer.{Answer}
use Rattle.hg_base.specs.declared.line.Answer.TheVariants.{Newer, OpenBy, Swept}
use Rattle.hg_base.specs.declared.line.Line.{Line}
use Rattle.hg_base.specs.declared.line.Totals.{Totals}
use Rattle.hg_base.specs.declared.line.Printed.{Printed}
use Rattle.hg_base.specs.Script.{Script, Mode, replay, run}
use Rattle.hg_base.specs.History.{Write, History, image_in, does_write}
use Rattle.hg_base.specs.Transcript.{Said, is_of, ends, stored_in, numbers_in, own_writes, committed, greatest_commit, history_of, in_order}
use Rattle.hg_base.specs.Shape.{report_of}
use Rattle.hg_base.specs.Conflicts.{ShowsNewer, ShowsOpen, IsStillOpen, OnReplay, ShowsCause, ShowsConflict, target}
use Rattle.hg_base.specs.Freshness.{IsReplayed, IsExact, IsHeld, IsReported, IsFresh, snapshot_of, newer_of, known, open_snapshots, mark_of}
use Rattle.hg_base.specs.Counts.{AreTotals, first_writes, is_committed, removed_by, live}
use Rattle.hg_base.specs.Sound.{IsRight, AreRight, LinesAreSound, IsSound, all_said}
use Rattle.hg_decide.proofs.Decide.{Decided, decide_as, decide_true, decide_false, decide_equal, decide_below, decide_at_most, decide_always, decide_both, decide_all3, decide_all4}
use Rattle.hg_decide.proofs.Decide.{decide_all5, decide_match, decide_if_some, decide_each, decide_each_after, decide_ascends, decide_lists, decide_pairs, decide_some}
use Rattle.hg_decide.proofs.DecidedCommits.{decide_report, decide_shape, decide_whole, decide_no_lost_update}
use Rattle.hg_decide.proofs.DecidedReplies.{decide_reply}

-- ---- the conflicts

abbrev pub decide_newer : (h : History) (at : ℕ) (r : Rid) (c : ℕ) → Decided (ShowsNewer h at r c)
decide_newer h at r c = decide_as (λ p. record { over = p.0; within = p.1; does = p.2 }) (λ p. (p.over, p.within, p.does))
    (decide_all3 (decide_below at c) (decide_at_most c (length h)) (decide_true (does_write h c r)))

abbrev pub decide_open : (images : List Write) (numbers : List ℕ) (session : ℕ) (at : ℕ) (r : Rid) (writer : Writer) → Decided (ShowsOpen images numbers session at r writer)
decide_open images numbers session at r writer = decide_as (λ p. record { other = p.0; does = p.1; after = p.2 }) (λ p. (p.other, p.does, p.after))
    (decide_all3 (decide_false (writer.session == session)) (decide_some (image_in r images)) (decide_each (λ c. at < c) (λ c. decide_below at c) numbers))

abbrev pub decide_still_open : (earlier : List Said) (r : Rid) (writer : Writer) → Decided (IsStillOpen earlier r writer)
decide_still_open earlier r writer = decide_as (λ p. record { does = p.0; opened = p.1 }) (λ p. (p.does, p.opened))
    (decide_both (decide_some (image_in r (stored_in writer.session writer.transaction earlier))) (decide_false (list_any ends (filter (is_of writer.session writer.transaction) earlier))))

abbrev pub decide_on_replay : (mode : Mode) {P : Type 0} → Decided P → Decided (OnReplay mode P)
decide_on_replay replay d = d
decide_on_replay (run rounds) d = decide_always

abbrev pub decide_cause : (mode : Mode) (h : History) (all : List Said) (earlier : List Said) (now : Said) (r : Rid) (answer : Answer) → Decided (ShowsCause mode h all earlier now r answer)
decide_cause mode h all earlier now r (Newer c) = decide_both (decide_false (is_some (image_in r (own_writes earlier now)))) (decide_newer h now.at r c)
decide_cause mode h all earlier now r (OpenBy writer) =
    decide_all3 (decide_false (is_some (image_in r (own_writes earlier now))))
    (decide_open (stored_in writer.session writer.transaction all) (numbers_in writer.session writer.transaction all) now.session now.at r writer)
    (decide_on_replay mode (decide_still_open earlier r writer))
decide_cause mode h all earlier now r _ = decide_always

abbrev pub decide_conflict : (mode : Mode) (h : History) (all : List Said) (earlier : List Said) (now : Said) → Decided (ShowsConflict mode h all earlier now)
decide_conflict mode h all earlier now = decide_if_some (target now.statement) _ (λ r. decide_cause mode h all earlier now r now.reply.answer)

-- ---- what was known when

abbrev pub decide_replayed : (earlier : List Said) (statement : Statement) (sweep : Sweep) → Decided (IsReplayed earlier statement sweep)
decide_replayed earlier statement sweep = decide_as (λ p. record { kind = p.0; mark = p.1; horizon = p.2; held = p.3 }) (λ p. (p.kind, p.mark, p.horizon, p.held))
    (decide_all4 (decide_report statement (Swept sweep)) (decide_equal sweep.mark (greatest_commit earlier)) (decide_equal sweep.horizon sweep.mark)
    (decide_lists decide_pairs (map (λ told. (told.session, told.number)) sweep.held) (open_snapshots earlier)))

abbrev pub decide_exact : (earlier : List Said) (now : Said) → Decided (IsExact earlier now)
decide_exact earlier now = decide_as (λ p. record { snapshot = p.0; newer = p.1; report = p.2 }) (λ p. (p.snapshot, p.newer, p.report))
    (decide_all3 (decide_if_some (snapshot_of now) _ (λ s. decide_equal s (greatest_commit earlier)))
    (decide_if_some (newer_of now) _ (λ c. decide_true (list_any (λ n. n == c) (filter_map committed earlier))))
    (decide_if_some (report_of now.reply) _ (λ sweep. decide_replayed earlier now.statement sweep)))

abbrev pub decide_held : (all : List Said) (told : Told) → Decided (IsHeld all told)
decide_held all told = decide_as (λ p. record { printed = p.0; declared = p.1 }) (λ p. (p.printed, p.declared)) (decide_both (decide_true _) (decide_match told.moved (decide_true _) decide_always))

abbrev pub decide_reported : (h : History) (all : List Said) (earlier : List Said) (sweep : Sweep) → Decided (IsReported h all earlier sweep)
decide_reported h all earlier sweep = decide_as (λ p. record { rising = p.0; horizon = p.1; mark = p.2; sessions = p.3; held = p.4 }) (λ p. (p.rising, p.horizon, p.mark, p.sessions, p.held))
    (decide_all5 (decide_each (λ mark. mark ≤ sweep.mark) (λ mark. decide_at_most mark sweep.mark) (filter_map (mark_of sweep.kind) earlier))
    (decide_at_most sweep.horizon sweep.mark) (decide_at_most sweep.mark (length h))
    (decide_ascends (map (λ told. told.session) sweep.held)) (decide_each (IsHeld all) (decide_held all) sweep.held))

abbrev pub decide_fresh : (mode : Mode) (h : History) (all : List Said) (earlier : List Said) (now : Said) → Decided (IsFresh mode h all earlier now)
decide_fresh mode h all earlier now = decide_as (λ p. record { rising = p.0; exact = p.1; report = p.2 }) (λ p. (p.rising, p.exact, p.report))
    (decide_all3 (decide_if_some (snapshot_of now) _ (λ s. decide_each (λ n. n ≤ s) (λ n. decide_at_most n s) (known now.session earlier))) (decide_on_replay mode (decide_exact earlier now))
    (decide_if_some (report_of now.reply) _ (λ sweep. decide_reported h all earlier sweep)))

-- ---- the totals

abbrev pub decide_totals : (all : List Said) (h : History) (totals : Totals) → Decided (AreTotals all h totals)
decide_totals all h t = decide_as (λ p. record { made = p.0.0; undone = p.0.1; group = p.0.2; table = p.0.3; interval = p.1.0; left = p.1.1; balance = p.1.2 })
    (λ p. ((p.made, p.undone, p.group, p.table), (p.interval, p.left, p.balance)))
    (decide_both (decide_all4 (decide_equal t.made (length (first_writes all))) (decide_equal t.undone (length (filter (λ said. not (is_committed all said)) (first_writes all))))
    (decide_equal t.group (sum_by (removed_by kinds.Group) all)) (decide_at_most (sum_by (removed_by kinds.Table) all) t.table))
    (decide_all3 (decide_equal t.interval (sum_by (removed_by kinds.Interval) all)) (decide_equal t.left (length (live h))) (decide_equal t.made (t.undone + t.group + t.table + t.interval + t.left))))

-- ---- all of it

abbrev pub decide_right : (mode : Mode) (h : History) (all : List Said) (earlier : List Said) (now : Said) → Decided (IsRight mode h all earlier now)
decide_right mode h all earlier now = decide_as (λ p. record { reply = p.0; conflict = p.1; fresh = p.2 }) (λ p. (p.reply, p.conflict, p.fresh))
    (decide_all3 (decide_reply mode h earlier now) (decide_conflict mode h all earlier now) (decide_fresh mode h all earlier now))

abbrev pub decide_all_right : (mode : Mode) (all : List Said) → Decided (AreRight mode all)
decide_all_right mode all =
    let h = history_of all in
    decide_as (λ p. record { whole = p.0; kept = p.1; lines = p.2 }) (λ p. (p.whole, p.kept, p.lines))
    (decide_all3 (decide_whole all) (decide_no_lost_update h) (decide_each_after (IsRight mode h all) (decide_right mode h all) [] all))

abbrev pub decide_lines : (mode : Mode) (script : Script) (lines : List Line) → Decided (LinesAreSound mode script lines)
decide_lines mode script lines = decide_as (λ p. record { shape = p.0; right = p.1 }) (λ p. (p.shape, p.right))
    (decide_both (decide_shape (in_order mode script.records) lines) (decide_all_right mode (all_said mode script lines)))

abbrev pub decide_sound : (mode : Mode) (script : Script) (printed : Printed) → Decided (IsSound mode script printed)
decide_sound mode script printed = decide_as (λ p. record { lines = p.0; totals = p.1 }) (λ p. (p.lines, p.totals))
    (decide_both (decide_lines mode script printed.lines) (let all = all_said mode script printed.lines in decide_totals all (history_of all) printed.totals))
