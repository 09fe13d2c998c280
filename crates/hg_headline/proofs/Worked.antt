-- The premises can be met: by a replay, statement by statement, and by a run.
use Rattle.std.proofs.Common.{◌≡◌, inl, ℕ, suc, ◌+◌, List, [], ◌∷◌, Bool, true, false, Some, None, refl, sym, ap, ◌∙◌, subst, arith}
use Rattle.std.specs.Prelude.{cond, ◌==◌, ◌||◌, ◌&&◌, if◌then◌else◌, option_map, is_some, pos, ⊤}
use Rattle.std.specs.List.{cons_option}
use Rattle.std.proofs.lemmas.Bool.Decides.{nat_tests}
use Rattle.hg_base.specs.declared.value.Value.TheVariants.{Number}
use Rattle.hg_base.specs.declared.rid.Rid.{Rid}
use Rattle.hg_base.specs.declared.scope.Snapshot.{Snapshot}
use Rattle.hg_base.specs.declared.scope.Scope.TheVariants.{All}
use Rattle.hg_base.specs.declared.report.Kind.TheVariants as kinds
use Rattle.hg_base.specs.declared.statement.Statement.TheVariants.{Begin, Put, Rollback, Gc}
use Rattle.hg_base.specs.declared.line.Answer.TheVariants.{Begun, Stored, OpenBy, Undone, Swept}
use Rattle.hg_base.specs.declared.line.Reply.{Reply}
use Rattle.hg_base.specs.History.{Write, same_rid, image_in}
use Rattle.hg_base.specs.Transcript.{said_from}
use Rattle.hg_base.specs.declared.report.Kind.{Kind}
use Rattle.hg_base.specs.Shape.{HasShape}
use Rattle.hg_core.specs.declared.log.LogEntry.{LogEntry}
use Rattle.hg_core.specs.Logs.{current, begans, own_writes, is_plain}
use Rattle.hg_core.specs.Events.{put}
use Rattle.hg_core.proofs.Right.{if_any}
use Rattle.hg_core.specs.Reading.{Unprinted, Fits, Tells, log_with, log_after, is_alone, UndoesAll}
use Rattle.hg_core.proofs.Remaining.{same_rid_sym}
use Rattle.hg_headline.specs.Logged.{Logged}
use Rattle.hg_headline.specs.Met.{live_in}
use Rattle.hg_headline.specs.Replayed.{HasReplayed}
use Rattle.hg_headline.specs.Counted.{made_in, undone_in, adding, Closes, IsCounted}
use Rattle.hg_headline.specs.Ran.{LeavesGc, AreReports, HasRun}
use Rattle.hg_headline.specs.Worked.{five, image, asked, records, line, lines, history, totals, run_records, session_lines, report}
use Rattle.hg_headline.proofs.Words.{true_false}
use Rattle.hg_headline.proofs.Growing.{put_same}
use Rattle.hg_headline.proofs.Answering.{nothing_more}
use Rattle.hg_headline.proofs.Loops.{replayed_opened, replayed_more}
use Rattle.hg_headline.proofs.Knowledge.{IsAsked, Next}
use Rattle.hg_headline.proofs.Stepping.{replayed_begin, replayed_inside, replayed_undone}
use Rattle.hg_headline.proofs.Singles.{replayed_alone, replayed_commits}

abbrev none : ℕ → List LogEntry
none j = []

abbrev written : ℕ → Write
written n = record { rid = five; image = image n }

abbrev snap : Snapshot
snap = record { at = 1; scope = All }

other : (m n : ℕ) → (m == n) ≡ false → m ≡ n → ⊥
other m n e same = grind (arith, nat_tests, e, same)

one_of : IsAsked 2 (asked 1 1 (Put five (Number (pos 7) ∷ [])))
one_of = record { some = omega arith; most = omega arith }

-- the records that are written are undone
undoes : (own : List Write) → own ≡ written 8 ∷ [] → UndoesAll own (five ∷ [])
undoes own e = ((refl, tt), λ r. go r (same_rid r five) refl (same_rid five r) refl ∙ sym (ap (λ ws. is_some (image_in r ws)) e))
  where
    go : (r : Rid) (a : Bool) → same_rid r five ≡ a → (b : Bool) → same_rid five r ≡ b → (same_rid r five || false) ≡ is_some (if same_rid five r then Some (image 8) else None)
    go r true e true f = ap (λ x. x || false) e ∙ sym (ap (λ x. is_some (if x then Some (image 8) else None)) f)
    go r false e false f = ap (λ x. x || false) e ∙ sym (ap (λ x. is_some (if x then Some (image 8) else None)) f)
    go r true e false f = absurd (true_false (sym (same_rid_sym r five e) ∙ f))
    go r false e true f = absurd (true_false (sym (same_rid_sym five r f) ∙ e))

-- what is known after each of the first five records
first : Next 1 2 history none (asked 1 1 (Put five (Number (pos 7) ∷ [])) ∷ []) (line 1 1 (Some 0) Stored (Some 1) ∷ []) 1 None 1 [] 1 0
first = replayed_commits 1 2 [] none [] [] (asked 1 1 (Put five (Number (pos 7) ∷ []))) Stored (written 7) (replayed_opened 1 2 (omega arith)) one_of refl refl (tt, tt)

of_two : first.more 2 ≡ []
of_two = first.gone.others 2 (other 2 1 refl)

second : Next 1 2 history first.more (asked 1 1 (Put five (Number (pos 7) ∷ [])) ∷ asked 2 2 (Begin All) ∷ [])
    (line 1 1 (Some 0) Stored (Some 1) ∷ line 2 2 None (Begun 1) None ∷ []) 2 (Some snap) (suc (begans (first.more 2))) [] 0 0
second = replayed_begin 1 2 history first.more (asked 1 1 (Put five (Number (pos 7) ∷ [])) ∷ []) (line 1 1 (Some 0) Stored (Some 1) ∷ []) 2 2 All first.replayed (omega arith)
    (omega arith) (ap current of_two)

third : Next 1 2 history second.more (asked 1 1 (Put five (Number (pos 7) ∷ [])) ∷ asked 2 2 (Begin All) ∷ asked 3 2 (Put five (Number (pos 8) ∷ [])) ∷ [])
    (line 1 1 (Some 0) Stored (Some 1) ∷ line 2 2 None (Begun 1) None ∷ line 3 2 None Stored None ∷ []) 2 (Some snap) (begans (second.more 2))
    (written 8 ∷ own_writes (second.more 2)) (adding (own_writes (second.more 2)) (Some (written 8))) 0
third = replayed_inside 1 2 history second.more (asked 1 1 (Put five (Number (pos 7) ∷ [])) ∷ asked 2 2 (Begin All) ∷ [])
    (line 1 1 (Some 0) Stored (Some 1) ∷ line 2 2 None (Begun 1) None ∷ []) (asked 3 2 (Put five (Number (pos 8) ∷ []))) Stored snap second.replayed
    (record { some = omega arith; most = omega arith }) second.gone.opened second.gone.plain (tt, tt)

own_of_two : own_writes (third.more 2) ≡ written 8 ∷ []
own_of_two = third.gone.writes ∙ ap (λ ws. written 8 ∷ ws) second.gone.writes

count_of_two : begans (third.more 2) ≡ 1
count_of_two = third.gone.begun ∙ second.gone.begun ∙ ap (λ l. suc (begans l)) of_two

one_closed : current (third.more 1) ≡ None
one_closed = ap current (third.gone.others 1 (other 1 2 refl) ∙ second.gone.others 1 (other 1 2 refl)) ∙ first.gone.opened

fourth : Next 1 2 history third.more (asked 1 1 (Put five (Number (pos 7) ∷ [])) ∷ asked 2 2 (Begin All) ∷ asked 3 2 (Put five (Number (pos 8) ∷ [])) ∷ asked 4 1
    (Put five (Number (pos 9) ∷ [])) ∷ [])
    (line 1 1 (Some 0) Stored (Some 1) ∷ line 2 2 None (Begun 1) None ∷ line 3 2 None Stored None ∷ line 4 1 (Some 1) (OpenBy (record { session = 2; transaction = 1 })) None ∷ [])
    1 None (suc (begans (third.more 1))) [] 0 0
fourth = replayed_alone 1 2 history third.more (asked 1 1 (Put five (Number (pos 7) ∷ [])) ∷ asked 2 2 (Begin All) ∷ asked 3 2 (Put five (Number (pos 8) ∷ [])) ∷ [])
    (line 1 1 (Some 0) Stored (Some 1) ∷ line 2 2 None (Begun 1) None ∷ line 3 2 None Stored None ∷ []) (asked 4 1 (Put five (Number (pos 9) ∷ [])))
    (OpenBy (record { session = 2; transaction = 1 })) third.replayed (record { some = omega arith; most = omega arith }) one_closed refl
    (tt, (refl, refl, third.gone.plain, record { opened = ap is_some third.gone.opened; number = count_of_two; does = subst (λ ws. is_some (image_in five ws) ≡ true) (sym own_of_two) refl }))

two_stays : fourth.more 2 ≡ third.more 2
two_stays = fourth.gone.others 2 (other 2 1 refl)

fifth : Next 1 2 history fourth.more (asked 1 1 (Put five (Number (pos 7) ∷ [])) ∷ asked 2 2 (Begin All) ∷ asked 3 2 (Put five (Number (pos 8) ∷ [])) ∷ asked 4 1
    (Put five (Number (pos 9) ∷ [])) ∷ asked 5 2 Rollback ∷ [])
    (line 1 1 (Some 0) Stored (Some 1) ∷ line 2 2 None (Begun 1) None ∷ line 3 2 None Stored None ∷ line 4 1 (Some 1) (OpenBy (record { session = 2; transaction = 1 })) None
    ∷ line 5 2 None Undone None ∷ []) 2 None (begans (fourth.more 2)) [] 0 1
fifth = replayed_undone 1 2 history fourth.more (asked 1 1 (Put five (Number (pos 7) ∷ [])) ∷ asked 2 2 (Begin All) ∷ asked 3 2 (Put five (Number (pos 8) ∷ [])) ∷ asked 4 1
    (Put five (Number (pos 9) ∷ [])) ∷ [])
    (line 1 1 (Some 0) Stored (Some 1) ∷ line 2 2 None (Begun 1) None ∷ line 3 2 None Stored None ∷ line 4 1 (Some 1) (OpenBy (record { session = 2; transaction = 1 })) None ∷ [])
    5 2 snap (five ∷ []) fourth.replayed (omega arith) (omega arith) (ap current two_stays ∙ third.gone.opened) (ap is_plain two_stays ∙ third.gone.plain)
    (undoes (own_writes (fourth.more 2)) (ap own_writes two_stays ∙ own_of_two))

third_adds : made_in 2 third.more ≡ made_in 2 second.more + 1
third_adds = third.made ∙ ap (λ ws. made_in 2 second.more + adding ws (Some (written 8))) second.gone.writes

-- what the first five records leave
record Left : Type 0 where
  logs : ℕ → List LogEntry
  replayed : HasReplayed 1 2 history logs 1 (asked 1 1 (Put five (Number (pos 7) ∷ [])) ∷ asked 2 2 (Begin All) ∷ asked 3 2 (Put five (Number (pos 8) ∷ [])) ∷ asked 4 1
      (Put five (Number (pos 9) ∷ [])) ∷ asked 5 2 Rollback ∷ [])
      (line 1 1 (Some 0) Stored (Some 1) ∷ line 2 2 None (Begun 1) None ∷ line 3 2 None Stored None ∷ line 4 1 (Some 1)
      (OpenBy (record { session = 2; transaction = 1 })) None ∷ line 5 2 None Undone None ∷ [])
  one : current (logs 1) ≡ None
  two : current (logs 2) ≡ None
  others : (j : ℕ) → (j ≡ 1 → ⊥) → (j ≡ 2 → ⊥) → current (logs j) ≡ None
  made : made_in 2 logs ≡ 2
  undone : undone_in 2 logs ≡ 1

left : Left
left = record {
  logs = fifth.more;
  replayed = fifth.replayed;
  one = ap current (fifth.gone.others 1 (other 1 2 refl)) ∙ fourth.gone.opened;
  two = fifth.gone.opened;
  others = λ j p q. ap current (fifth.gone.others j q ∙ fourth.gone.others j p ∙ third.gone.others j q ∙ second.gone.others j q ∙ first.gone.others j p);
  made = omega (arith, first.made, second.made, third_adds, fourth.made, fifth.made);
  undone = omega (arith, first.undone, second.undone, third.undone, fourth.undone, fifth.undone);
}

-- and then a collector's pass
pub record Met : Type 0 where
  pub logs : ℕ → List LogEntry
  pub replayed : HasReplayed 1 2 history logs 1 records lines
  pub closes : (j : ℕ) → Closes (logs j) (logs j)
  pub counted : IsCounted 2 history logs (said_from [] records lines) totals

pub met : Met
met =
    let l = left in
    let is : is_alone (current (l.logs 1)) (Gc kinds.Interval) ≡ false = ap (λ o. is_alone o (Gc kinds.Interval)) l.one in
    let after : (reply : Reply) → log_after 1 nothing_more (Gc kinds.Interval) reply (l.logs 1) ≡ l.logs 1 = λ reply. ap (λ b. log_with b 1 nothing_more (Gc kinds.Interval) reply (l.logs 1)) is in
    let reply : Reply = record { at = None; answer = Swept (record { kind = kinds.Interval; mark = 1; horizon = 1; removed = 0; held = [] }); number = None } in
    let same : put l.logs 1 (log_after 1 nothing_more (Gc kinds.Interval) reply (l.logs 1)) ≡ l.logs = ap (put l.logs 1) (after reply) ∙ put_same l.logs 1 in
    let live : live_in 2 l.logs ≡ [] = λ i. cons_option (option_map (λ snapshot. (1, snapshot.at)) (l.one i)) (cons_option (option_map (λ snapshot. (2, snapshot.at)) (l.two i)) []) in
    let more = replayed_more 1 2 history history l.logs 1 1 _ _ (asked 6 1 (Gc kinds.Interval)) (record { session = 1; place = 6; reply = reply }) nothing_more l.replayed
    (omega arith) (omega arith) refl refl
    (record { same = refl; horizon = refl; held = sym live; moved = tt })
    (record { at = sym is; number = sym (ap (λ b. b && false) is); answer = tt; scope = if_any (current (l.logs 1)) (λ snapshot. ⊤) (λ snapshot. tt); inside = tt })
    tt
    (record { grows = omega arith; reads = (omega arith, tt); snapshot = tt; mark = omega arith; newer = tt; commit = tt })
    (omega arith) (subst (Logged 1 history) (sym same) l.replayed.logged) in
    record {
      logs = l.logs;
      replayed = subst (λ ls. HasReplayed 1 2 history ls 1 records lines) same more;
      closes = λ j. inl (rests l j (j == 1) refl (j == 2) refl, refl);
      counted = record { made = sym l.made; undone = sym l.undone; group = refl; table = omega arith; interval = refl; left = refl; balance = refl };
    }
  where
    rests : (l : Left) (j : ℕ) (a : Bool) → (j == 1) ≡ a → (b : Bool) → (j == 2) ≡ b → current (l.logs j) ≡ None
    rests l j true e b f = let one : 1 ≡ j = grind (arith, nat_tests) in subst (λ k. current (l.logs k) ≡ None) one l.one
    rests l j false e true f = let two : 2 ≡ j = grind (arith, nat_tests) in subst (λ k. current (l.logs k) ≡ None) two l.two
    rests l j false e false f = l.others j (λ k. grind (arith, nat_tests)) (λ k. grind (arith, nat_tests))

-- ---- a run

pub record Ran : Type 0 where
  pub logs : ℕ → List LogEntry
  pub ran : HasRun 1 history logs 1 run_records session_lines (report kinds.Group ∷ []) (report kinds.Table ∷ []) (report kinds.Interval ∷ [])

reports : (logs : ℕ → List LogEntry) (kind : Kind) → AreReports history logs kind 1 (report kind ∷ [])
reports logs kind = record { count = refl; each = (record { kind = refl; horizon = omega arith; mark = omega arith; order = tt; met = tt }, tt); rising = (tt, tt) }

pub ran : Ran
ran =
    let a = replayed_commits 1 2 [] none [] [] (asked 1 1 (Put five (Number (pos 7) ∷ []))) Stored (written 7) (replayed_opened 1 2 (omega arith)) one_of refl refl (tt, tt) in
    let f = a.replayed.follows in
    record {
      logs = a.more;
      ran = record {
        logged = a.replayed.logged;
        numbered = (omega arith, tt);
        shape = λ j. shape (1 == j);
        tells = λ j. tells a.more f.1.0 f.1.1 f.1.2 j (1 == j) refl;
        of_group = reports a.more kinds.Group;
        of_table = reports a.more kinds.Table;
        of_interval = reports a.more kinds.Interval;
      };
    }
  where
    shape : (b : Bool) → HasShape (cond b (asked 1 1 (Put five (Number (pos 7) ∷ [])) ∷ []) []) (if b then line 1 1 (Some 0) Stored (Some 1) ∷ [] else [])
    shape true = (record { session = refl; place = refl; report = tt }, tt)
    shape false = tt

    tells : (more : ℕ → List LogEntry) (u : Unprinted) → Fits 1 u [] (Put five (Number (pos 7) ∷ [])) (record { at = Some 0; answer = Stored; number = Some 1 })
        → ((j : ℕ) → more j ≡ put none 1 (log_after 1 u (Put five (Number (pos 7) ∷ [])) (record { at = Some 0; answer = Stored; number = Some 1 }) []) j)
        → (j : ℕ) (b : Bool) → (1 == j) ≡ b → Tells 1 (λ r line. LeavesGc r.statement line.reply.answer) [] None (cond b (asked 1 1 (Put five (Number (pos 7) ∷ [])) ∷ []) [])
        (if b then line 1 1 (Some 0) Stored (Some 1) ∷ [] else []) (more j)
    tells more u fits e j true q = let one : 1 ≡ j = grind (arith, nat_tests) in (tt, (u, fits, ap more (sym one) ∙ e 1, tt))
    tells more u fits e j false q = let out : (j == 1) ≡ false = grind (arith, nat_tests) in
        e j ∙ ap (λ b. if b then log_after 1 u (Put five (Number (pos 7) ∷ [])) (record { at = Some 0; answer = Stored; number = Some 1 }) [] else []) out
