-- The example: a run that a reader concurs with, and the replay of its dump.
use Rattle.std.proofs.Common.{◌≡◌, ℕ, ◌+◌, List, [], ◌∷◌, Bool, true, false, Some, None, inl, refl, sym, ap, ◌∙◌, subst, arith, pos}
use Rattle.std.specs.Prelude.{◌==◌, cond, filter, nat_le, if◌then◌else◌, option_map, Contains}
use Rattle.std.specs.List.{cons_option}
use Rattle.std.specs.Option.{option_or}
use Rattle.std.proofs.lemmas.Bool.Decides.{nat_tests}
use Rattle.hg_base.specs.declared.report.Kind.{Kind}
use Rattle.hg_base.specs.declared.report.Kind.TheVariants as kinds
use Rattle.hg_base.specs.declared.scope.Scope.TheVariants.{All}
use Rattle.hg_base.specs.declared.statement.Record.{Record}
use Rattle.hg_base.specs.declared.statement.Statement.TheVariants.{Put}
use Rattle.hg_base.specs.declared.line.Answer.TheVariants.{Stored}
use Rattle.hg_base.specs.declared.line.Line.{Line}
use Rattle.hg_base.specs.declared.value.Value.TheVariants.{Number}
use Rattle.hg_base.specs.declared.image.Image.{Image}
use Rattle.hg_base.specs.History.{last_image, same_rid, visible}
use Rattle.hg_base.specs.Script.{replay, run}
use Rattle.hg_base.specs.Shape.{HasShape}
use Rattle.hg_base.specs.Sound.{LinesAreSound}
use Rattle.hg_base.specs.Transcript.{of_session}
use Rattle.hg_base.proofs.HistoryFacts.{same_rid_equal}
use Rattle.hg_core.specs.declared.log.LogEntry.{LogEntry}
use Rattle.hg_core.specs.declared.log.LogEntry.TheVariants.{Began, Over}
use Rattle.hg_core.specs.Counters.{first_writes, undos}
use Rattle.hg_core.specs.Events.{put}
use Rattle.hg_core.specs.Logs.{current}
use Rattle.hg_core.specs.Reading.{Fits, Tells, Unprinted, log_after}
use Rattle.hg_core.proofs.Indices.{at_index, put_else, put_here}
use Rattle.hg_headline.specs.Counted.{every, made_in, undone_in}
use Rattle.hg_headline.specs.Logged.{Logged}
use Rattle.hg_headline.specs.Ran.{AreReports, LeavesGc}
use Rattle.hg_headline.specs.Worked.{asked, five, history, image, line, report, run_records, session_lines}
use Rattle.hg_headline.proofs.Growing.{logged_on, put_same}
use Rattle.hg_headline.proofs.Loops.{replayed_opened}
use Rattle.hg_headline.proofs.Replaying.{replay_sound}
use Rattle.hg_headline.proofs.Knowledge.{Next}
use Rattle.hg_headline.proofs.Singles.{replayed_commits}
use Rattle.hg_headline.proofs.Words.{true_false}
use Rattle.hg_dump.specs.Dumps.{dump_of, putting}
use Rattle.hg_dump.specs.Rows.{AreRowsAt, Kept, rows_at}
use Rattle.hg_dump.proofs.RowsShown.{is_the_list}
use Rattle.hg_dump.specs.Ran.{HasRunWith}
use Rattle.hg_dump.specs.Reader.{IsSoundWith}
use Rattle.hg_dump.specs.Worked.{holding, printed, replayed, rows, script}
use Rattle.hg_dump.proofs.Holding.{held_alone}
use Rattle.hg_dump.proofs.Runs.{sound_with}

abbrev none : ℕ → List LogEntry
none j = []

-- session 1 at a place puts 7
one_put : (place : ℕ) → Next 1 2 history none (asked place 1 (Put five (Number (pos 7) ∷ [])) ∷ []) (line place 1 (Some 0) Stored (Some 1) ∷ []) 1 None 1 [] 1 0
one_put place = replayed_commits 1 2 [] none [] [] (asked place 1 (Put five (Number (pos 7) ∷ []))) Stored (record { rid = five; image = image 7 })
    (replayed_opened 1 2 (omega arith)) (record { some = omega arith; most = omega arith }) refl refl (tt, tt)

-- ---- the run

abbrev more : ℕ → List LogEntry
more = (one_put 1).more

abbrev read : List LogEntry
read = Over ∷ Began 1 All ∷ []

abbrev logs : ℕ → List LogEntry
logs = put more 2 read

abbrev Leaves : Record → Line → Type 0
Leaves r line = LeavesGc r.statement line.reply.answer

shape : (j : ℕ) → HasShape (of_session j run_records) (session_lines j)
shape j = go (1 == j)
  where
    go : (b : Bool) → HasShape (cond b (asked 1 1 (Put five (Number (pos 7) ∷ [])) ∷ []) []) (if b then line 1 1 (Some 0) Stored (Some 1) ∷ [] else [])
    go true = (record { session = refl; place = refl; report = tt }, tt)
    go false = tt

tells : (j : ℕ) → Tells 1 Leaves [] None (of_session j run_records) (session_lines j) (more j)
tells j = let f = (one_put 1).replayed.follows in go f.1.0 f.1.1 f.1.2 (1 == j) refl
  where
    go : (u : Unprinted) → Fits 1 u [] (Put five (Number (pos 7) ∷ [])) (record { at = Some 0; answer = Stored; number = Some 1 })
        → ((k : ℕ) → more k ≡ put none 1 (log_after 1 u (Put five (Number (pos 7) ∷ [])) (record { at = Some 0; answer = Stored; number = Some 1 }) []) k)
        → (b : Bool) → (1 == j) ≡ b → Tells 1 Leaves [] None (cond b (asked 1 1 (Put five (Number (pos 7) ∷ [])) ∷ []) []) (if b then line 1 1 (Some 0) Stored (Some 1) ∷ [] else []) (more j)
    go u fits e true q = let one : 1 ≡ j = grind (arith, nat_tests) in (tt, (u, fits, ap more (sym one) ∙ e 1, tt))
    go u fits e false q = (one_put 1).gone.others j (λ same. let one : (1 == j) ≡ true = grind (arith, nat_tests, same) in true_false (sym one ∙ q))

reader_empty : more 2 ≡ []
reader_empty = (one_put 1).gone.others 2 (λ e. omega (arith, e))

logged : Logged 1 history logs
logged =
    let first : Logged 1 history (put more 2 []) = subst (λ ls. Logged 1 history ls) (sym (put_same more 2) ∙ ap (put more 2) reader_empty) (one_put 1).replayed.logged in
    let begun = logged_on 1 history more 2 (Began 1 All) [] first (omega arith) (record { within = omega arith; over = tt; alone = refl }) tt in
    logged_on 1 history more 2 Over (Began 1 All ∷ []) begun tt (record { opened = refl; none = λ r. refl }) tt

reports : (kind : Kind) → AreReports history (put logs 2 read) kind 1 (report kind ∷ [])
reports kind = record { count = refl; each = (record { kind = refl; horizon = omega arith; mark = omega arith; order = tt; met = tt }, tt); rising = (tt, tt) }

held : AreReports history (put logs 2 read) kinds.Interval 1 (holding 1 false ∷ [])
held = record { count = refl; each = (record { kind = refl; horizon = omega arith; mark = omega arith; order = tt; met = ((refl, tt), tt) }, tt); rising = (tt, tt) }

ran_with : HasRunWith 1 history logs 1 script (1 ∷ []) session_lines (report kinds.Group ∷ []) (report kinds.Table ∷ []) (holding 1 false ∷ [])
ran_with = record {
  logged = logged;
  numbered = (omega arith, tt);
  shape = shape;
  tells = λ j e. subst (λ l. Tells 1 (λ r line. LeavesGc r.statement line.reply.answer) [] None (of_session j run_records) (session_lines j) l) (sym (put_else more 2 j read e)) (tells j);
  some = omega arith;
  before = read;
  read = refl;
  later = [];
  ended = refl;
  of_group = reports kinds.Group;
  of_table = reports kinds.Table;
  of_interval = held;
}

-- no transaction is open at the end
closed : (j : ℕ) → current (logs j) ≡ None
closed j = at_index 2 (λ k. current (logs k) ≡ None) (ap current (put_here more 2 read)) (λ k e. ap current (put_else more 2 k read e) ∙ first k) j
  where
    first : (k : ℕ) → current (more k) ≡ None
    first k = at_index 1 (λ i. current (more i) ≡ None) (one_put 1).gone.opened (λ i e. ap current ((one_put 1).gone.others i e)) k

made : made_in 2 logs ≡ 1
made = let two : first_writes every (more 2) ≡ 0 = ap (first_writes every) reader_empty in let all : made_in 2 more ≡ made_in 2 none + 1 = (one_put 1).made in omega (arith, two, all)

undone : undone_in 2 logs ≡ 0
undone = let two : undos every (more 2) ≡ 0 = ap (undos every) reader_empty in let all : undone_in 2 more ≡ undone_in 2 none + 0 = (one_put 1).undone in omega (arith, two, all)

pub held_sound : IsSoundWith 1 script (1 ∷ []) (printed 1 false)
held_sound =
    sound_with 1 history logs logs 1 script (1 ∷ []) session_lines (report kinds.Group ∷ []) (report kinds.Table ∷ []) (holding 1 false ∷ []) (printed 1 false).totals ran_with
    (λ j. inl (closed j, refl))
    (record { made = sym made; undone = sym undone; group = refl; table = omega arith; interval = refl; left = refl; balance = refl })

-- ---- what is refused

pub alone_refused : LinesAreSound (run 1) script (printed 1 false).lines → ⊥
alone_refused s = true_false (sym s.right.lines.1.1.1.0.fresh.report.held.0.printed)

pub other_refused : IsSoundWith 1 script (0 ∷ []) (printed 1 false) → ⊥
other_refused s = true_false (sym ((held_alone 1 script (0 ∷ []) (printed 1 false) s).1.1.1.0.0 refl).0)

pub moved_refused : IsSoundWith 1 script (1 ∷ []) (printed 1 true) → ⊥
moved_refused s = true_false ((held_alone 1 script (1 ∷ []) (printed 1 true) s).1.1.1.0.0 refl).1

-- ---- the replay of its dump

are_rows : AreRowsAt script.tables history 1 rows
are_rows = record {
  ascend = tt;
  each = ((refl, refl), tt);
  every = λ kept declared is. shown kept (same_rid five kept.rid) refl is;
}
  where
    shown : (kept : Kept) (b : Bool) → same_rid five kept.rid ≡ b → (visible history kept.rid 1).row ≡ Some kept.row → Contains rows kept
    shown kept true e is =
        let here : five ≡ kept.rid = same_rid_equal five kept.rid e in
        let row : Some (Number (pos 7) ∷ []) ≡ Some kept.row = ap (λ r. (visible history r 1).row) here ∙ is in
        subst (λ k. Contains rows k) (λ i. record { rid = here i; row = some_row row i }) (0, omega arith, refl)
      where
        some_row : Some (Number (pos 7) ∷ []) ≡ Some kept.row → (Number (pos 7) ∷ []) ≡ kept.row
        some_row q = cc
    shown kept false e is = absurd (none_some (sym (ap (λ b. (last_image
        (filter (λ (w : ℕ × Image). nat_le w.0 1) (cons_option (option_map (λ image. (1, image)) (option_or (if b then Some (image 7) else None) None)) []))).row) e) ∙ is))
      where
        none_some : None ≡ Some kept.row → ⊥
        none_some q = cc

pub dump_rows : rows_at script.tables history 1 ≡ rows
dump_rows = sym ((is_the_list script.tables history 1 rows).0 are_rows)

pub dump_replayed : LinesAreSound replay (dump_of script history 1) replayed
dump_replayed = subst (λ (kept : List Kept). LinesAreSound replay (putting script kept) replayed) (sym dump_rows)
    (replay_sound 1 2 1 history (one_put 3).more (putting script rows) replayed (one_put 3).replayed)
