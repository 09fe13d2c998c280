-- The reply of each line that is right enough fits.
use Rattle.std.proofs.Common.{◌≡◌, inl, inr, ℕ, ◌<◌, ◌≤◌, ◌^◌, List, [], ◌∷◌, length, Bool, true, false, Option, Some, None, refl, sym, ap, ◌∙◌, subst, arith}
use Rattle.std.specs.Prelude.{cond, filter, if◌then◌else◌, is_some, unwrap_or, IfSome, IsSome, IsTrue, ◌==◌, ◌&&◌, ◌||◌}
use Rattle.std.specs.List.{filter_map, list_any}
use Rattle.std.specs.Bool.{MatchBool}
use Rattle.std.specs.Option.{option_map_or}
use Rattle.std.proofs.lemmas.Bool.{and_parts}
use Rattle.std.proofs.lemmas.Bool.Decides.{Decides-eqb}
use Rattle.hg_base.specs.declared.rid.Rid.{Rid}
use Rattle.hg_base.specs.declared.rid.TableId.{TableId}
use Rattle.hg_base.specs.declared.image.Image.{Image}
use Rattle.hg_base.specs.declared.statement.Statement.{Statement}
use Rattle.hg_base.specs.declared.statement.Statement.TheVariants.{Begin, Get, Put, Del, Scan, CursorOpen, Fetch, CursorClose, Commit as CommitIt, Rollback, Gc}
use Rattle.hg_base.specs.declared.line.Answer.{Answer}
use Rattle.hg_base.specs.declared.line.Answer.TheVariants.{Newer, OpenBy, Swept}
use Rattle.hg_base.specs.declared.report.Kind.{Kind}
use Rattle.hg_base.specs.declared.report.Sweep.{Sweep}
use Rattle.hg_base.specs.declared.report.Told.{Told}
use Rattle.hg_base.specs.Counts.{removed_by}
use Rattle.hg_base.specs.Freshness.{prints, snapshot_of}
use Rattle.hg_base.specs.Lists.{Each, EachAfter}
use Rattle.hg_base.specs.Script.{Mode, Script}
use Rattle.hg_base.specs.History.{History, image_in, seen}
use Rattle.hg_base.specs.Transcript.{Rest, Said, rest_in, has, is_of, own_writes, stored, stored_in, committed}
use Rattle.hg_base.specs.Transcript.{committed_by, table_of}
use Rattle.hg_base.specs.Shape.{report_of, same_kind}
use Rattle.hg_base.specs.Replies.{IsSwept, IsCollected, IsAnswer, is_written}
use Rattle.hg_base.specs.Conflicts.{ShowsCause, target}
use Rattle.hg_base.specs.Text.{Fits64, Fits32, FitsSweep, FitsReport}
use Rattle.hg_base.specs.Text.{FitsAnswer, FitsReply, IsReport, is_write}
use Rattle.hg_base.proofs.ListFacts.{false_true, each_keeps}
use Rattle.hg_script.specs.Lawful.{HasWidths}
use Rattle.hg_exact.specs.Rows.{PrintsRow, cursor_table}
use Rattle.hg_exact.proofs.Fetched.{FindsRest, IfFetch, IsRestOf}
use Rattle.hg_exact.proofs.Opens.{IsStanding, begins}
use Rattle.hg_exact.proofs.Widths.{IsPutRow, out_fits, FitsCause, begin_fits, put_fits, del_fits, get_fits, scan_fits, fetch_fits, close_fits, commit_fits, rollback_fits, either, collected_fits}
use Rattle.hg_exact.proofs.Widths.{is_reported, written, no_commit}
use Rattle.hg_exact.proofs.Few.{IsFew, PrintsWithin, kind_itself, IsBesideThem, FitsSaid, nothing_there, IsHeldFew, IsReportFew, IsRightEnough}

module _ (mode : Mode) (script : Script) (h : History) (all : List Said) (few : length h < 2 ^ 64) (short : length script.records < 2 ^ 64) (writers : Each IsFew all) where
  writer_fits : (r : Rid) (j x : ℕ) (xs : List Said) → IsSome (image_in r (stored_in j x xs)) → Each IsFew xs → Fits32 j × Fits64 x
  writer_fits r j x [] some e = absurd (false_true some)
  writer_fits r j x (s ∷ ss) some e = go (is_of j x s) refl some (λ some. writer_fits r j x ss some e.1)
    where
      go : (b : Bool) → is_of j x s ≡ b → IsSome (image_in r (filter_map stored (cond b (s ∷ filter (is_of j x) ss) (filter (is_of j x) ss)))) →
          (IsSome (image_in r (stored_in j x ss)) → Fits32 j × Fits64 x) → Fits32 j × Fits64 x
      go true is some later =
          let k = and_parts (s.session == j) (s.transaction == x) is in
          let session : s.session ≡ j = (Decides-eqb s.session j).0 k.0 in
          let transaction : s.transaction ≡ x = (Decides-eqb s.transaction x).0 k.1 in
          (subst Fits32 session e.0.0, subst Fits64 transaction e.0.1)
      go false is some later = later some

  cause_fits : (earlier : List Said) (now : Said) (r : Rid) (a : Answer) → ShowsCause mode h all earlier now r a → FitsCause a
  cause_fits earlier now r (Newer c) k = omega (arith, k.1.within, few)
  cause_fits earlier now r (OpenBy writer) k = writer_fits r writer.session writer.transaction all k.1.does writers
  cause_fits earlier now r _ k = tt

  at_fits : (now : Said) → is_some now.reply.at ≡ now.alone → now.at ≤ length h → IsStanding now → IfSome now.reply.at (λ s. Fits64 s × IsTrue (is_some (table_of now.statement)))
  at_fits now e most k = go now.reply.at refl
    where
      go : (o : Option ℕ) → now.reply.at ≡ o → IfSome o (λ s. Fits64 s × IsTrue (is_some (table_of now.statement)))
      go None is = tt
      go (Some s) is =
          let a = k.alone (sym e ∙ ap is_some is) in
          let same : now.at ≡ s = a.0 ∙ ap (λ o. unwrap_or o 0) is in
          (omega (arith, same, most, few), a.1)

  number_fits : (now : Said) → is_some now.reply.number ≡ (now.alone && is_some (stored now)) → IfSome (committed now) (λ c. c ≤ length h) →
      IfSome now.reply.number (λ c. Fits64 c × IsTrue (is_write now.reply.answer))
  number_fits now e within = go now.reply.number refl
    where
      go : (o : Option ℕ) → now.reply.number ≡ o → IfSome o (λ c. Fits64 c × IsTrue (is_write now.reply.answer))
      go None is = tt
      go (Some c) is =
          let both = and_parts now.alone (is_some (stored now)) (sym e ∙ ap is_some is) in
          let by : committed now ≡ Some c = ap (λ b. cond b now.reply.number (committed_by now.statement now.reply.answer)) both.0 ∙ is in
          let most : c ≤ length h = subst (λ o. IfSome o (λ c. c ≤ length h)) by within in
          (omega (arith, most, few), written now.statement now.reply.answer both.1)

  number_in : (now : Said) → IsStanding now → IfSome (committed now) (λ c. c ≤ length h) → IfSome (committed_by now.statement now.reply.answer) Fits64
  number_in now k within = go now.alone refl
    where
      wide : (o : Option ℕ) → IfSome o (λ c. c ≤ length h) → IfSome o Fits64
      wide None m = tt
      wide (Some c) m = omega (arith, m, few)

      go : (b : Bool) → now.alone ≡ b → IfSome (committed_by now.statement now.reply.answer) Fits64
      go true is = subst (λ o. IfSome o Fits64) (sym (no_commit now.statement now.reply.answer (k.alone is).1)) tt
      go false is = wide (committed_by now.statement now.reply.answer)
          (subst (λ o. IfSome o (λ c. c ≤ length h)) (ap (λ b. cond b now.reply.number (committed_by now.statement now.reply.answer)) is) within)

  answer_fits : (look : Rid → Image) (wrote : Bool) (cursor : Option TableId) (rest : Option Rest) (now : Said) (s : Statement) → now.statement ≡ s → IsStanding now →
      now.at ≤ length h → IsAnswer mode look wrote rest now s → IfFetch s (IsRestOf cursor rest) → IfSome (target s) (λ r. FitsCause now.reply.answer) →
      PrintsRow (IsPutRow script) cursor s now.reply.answer → HasWidths s → (IsSwept now.reply.answer → FitsReport now.reply.answer) →
      IfSome (committed_by s now.reply.answer) Fits64 → FitsAnswer script.tables cursor s now.reply.answer
  answer_fits look wrote cursor rest now (Begin scope) is k most a found cause rows wide quiet number =
      let same = k.begun (ap begins is) in
      let fits : Fits64 now.at = omega (arith, most, few) in
      begin_fits now.reply.answer a (subst Fits64 same fits)
  answer_fits look wrote cursor rest now (Get r) is k most a found cause rows wide quiet number =
      either (has now.scope r.table) (λ g. get_fits script r (look r) now.reply.answer g rows) (λ u. (out_fits script.tables r.table now.reply.answer u).0) a
  answer_fits look wrote cursor rest now (Put r row) is k most a found cause rows wide quiet number =
      either (has now.scope r.table) (λ p. put_fits r.table now.reply.answer p cause) (λ u. (out_fits script.tables r.table now.reply.answer u).1) a
  answer_fits look wrote cursor rest now (Del r) is k most a found cause rows wide quiet number =
      either (has now.scope r.table) (λ d. del_fits r.table (look r) now.reply.answer d cause) (λ u. (out_fits script.tables r.table now.reply.answer u).2) a
  answer_fits look wrote cursor rest now (Scan table low high) is k most a found cause rows wide quiet number =
      either (has now.scope table) (λ s. scan_fits script table (λ key. look (record { table = table; key = key })) low high now.reply.answer short wide.1 s rows)
      (λ u. (out_fits script.tables table now.reply.answer u).3) a
  answer_fits look wrote cursor rest now (CursorOpen table low high) is k most a found cause rows wide quiet number =
      let same = k.begun (ap begins is) in
      let fits : Fits64 now.at = omega (arith, most, few) in
      begin_fits now.reply.answer a (subst Fits64 same fits)
  answer_fits look wrote cursor rest now (Fetch n) is k most a found cause rows wide quiet number = fetch_fits script look n cursor rest now.reply.answer wide.1 found a rows
  answer_fits look wrote cursor rest now CursorClose is k most a found cause rows wide quiet number = close_fits now.reply.answer a
  answer_fits look wrote cursor rest now CommitIt is k most a found cause rows wide quiet number = commit_fits wrote now.reply.answer a number
  answer_fits look wrote cursor rest now Rollback is k most a found cause rows wide quiet number = rollback_fits now.reply.answer a
  answer_fits look wrote cursor rest now (Gc kind) is k most a found cause rows wide swept number = collected_fits mode now.session now.reply.answer a swept

  causes_fit : (earlier : List Said) (now : Said) (s : Statement) → IfSome (target s) (λ r. ShowsCause mode h all earlier now r now.reply.answer) → IfSome (target s) (λ r. FitsCause now.reply.answer)
  causes_fit earlier now (Put r row) k = cause_fits earlier now r now.reply.answer k
  causes_fit earlier now (Del r) k = cause_fits earlier now r now.reply.answer k
  causes_fit earlier now _ k = tt

  -- the snapshot that a held entry names was printed
  held_fits : (told : Told) (xs : List Said) → list_any (prints told) xs ≡ true → Each IsFew xs → Each (PrintsWithin h) xs → Fits32 told.session × Fits64 told.number
  held_fits told [] is w s = absurd (false_true is)
  held_fits told (x ∷ xs) is w s = go (prints told x) refl is (λ is. held_fits told xs is w.1 s.1)
    where
      number : (o : Option ℕ) → option_map_or (λ n. n == told.number) o false ≡ true → IfSome o (λ n. n ≤ length h) → Fits64 told.number
      number None e k = absurd (false_true e)
      number (Some n) e k = let same : n ≡ told.number = (Decides-eqb n told.number).0 e in omega (arith, same, k, few)

      go : (b : Bool) → prints told x ≡ b → (b || list_any (prints told) xs) ≡ true → (list_any (prints told) xs ≡ true → Fits32 told.session × Fits64 told.number) →
          Fits32 told.session × Fits64 told.number
      go true e is later =
          let k = and_parts (x.session == told.session) _ e in
          let session : x.session ≡ told.session = (Decides-eqb x.session told.session).0 k.0 in
          (subst Fits32 session w.0.0, number (snapshot_of x) k.1 s.0)
      go false e is later = later is

  one_held : (told : Told) → IsHeldFew h all told → Each (PrintsWithin h) all → Fits32 told.session × Fits64 told.number
  one_held told (inl k) shown = held_fits told all k writers shown
  one_held told (inr k) shown = (k.0, omega (arith, k.1, few))

  sweep_fits : (sweep : Sweep) → IsReportFew h all sweep → Each (PrintsWithin h) all → Fits64 sweep.removed → FitsSweep sweep
  sweep_fits sweep r shown gone = (
    omega (arith, r.mark, few),
    omega (arith, r.horizon, r.mark, few),
    gone,
    each_keeps (IsHeldFew h all) (λ told. Fits32 told.session × Fits64 told.number) (λ told k. one_held told k shown) sweep.held r.held,
  )

  gc_fits : (now : Said) (a : Answer) → now.reply.answer ≡ a → IsSwept a → IfSome (report_of now.reply) (IsReportFew h all) → Each (PrintsWithin h) all →
      ((k : Kind) → Fits64 (removed_by k now)) → FitsReport a
  gc_fits now (Swept sweep) is s report shown gone =
      let said : report_of now.reply ≡ Some sweep = ap (λ (a : Answer). elim a [ Swept x ↦ Some x | _ ↦ None ]) is in
      let own : removed_by sweep.kind now ≡ sweep.removed = ap (λ (o : Option Sweep). option_map_or (λ (x : Sweep). if same_kind x.kind sweep.kind then x.removed else 0) o 0) said
      ∙ ap (λ b. if b then sweep.removed else 0) (kind_itself sweep.kind) in
      sweep_fits sweep (subst (λ o. IfSome o (IsReportFew h all)) said report) shown (subst Fits64 own (gone sweep.kind))
  gc_fits now _ is s report shown gone = absurd s

  -- what was found out of a line
  pub record IsKnown (now : Said) : Type 0 where
    pub standing : IsStanding now
    pub rows : PrintsRow (IsPutRow script) (cursor_table script now) now.statement now.reply.answer
    pub number : IfSome (committed now) (λ c. c ≤ length h)
    pub gone : (k : Kind) → Fits64 (removed_by k now)
    pub beside : (now.session == 0) ≡ true → IsBesideThem now

  report_fits : (earlier : List Said) (now : Said) → Each (PrintsWithin h) all → IsRightEnough mode h all earlier now → IsKnown now → IsSwept now.reply.answer → FitsReport now.reply.answer
  report_fits earlier now shown right known s = gc_fits now now.reply.answer refl s right.report shown known.gone

  reply_fits : (earlier : List Said) (now : Said) → Each (PrintsWithin h) all → IsRightEnough mode h all earlier now → FindsRest script.records earlier now → IsKnown now →
      FitsReply script.tables (cursor_table script now) now.statement now.reply
  reply_fits earlier now shown right finds known = record {
    at = at_fits now right.reply.at right.reply.snapshot known.standing;
    answer = answer_fits _ _ (cursor_table script now) (rest_in now.session now.transaction earlier) now now.statement refl known.standing right.reply.snapshot right.reply.answer
        finds (causes_fit earlier now now.statement right.conflict) known.rows known.standing.widths
        (report_fits earlier now shown right known) (number_in now known.standing known.number);
    number = number_fits now right.reply.number known.number;
  }

  -- a report of session 0 stands alone
  stands_alone : (earlier : List Said) (now : Said) → Each (PrintsWithin h) all → IsRightEnough mode h all earlier now → IsKnown now → (now.session == 0) ≡ true → IsReport now.reply
  stands_alone earlier now shown right known e =
      let k = known.beside e in
      let answer : IsCollected mode now.session now.reply.answer = subst (IsAnswer mode (seen h (own_writes earlier now) now.at) (is_written (own_writes earlier now))
      (rest_in now.session now.transaction earlier) now) k.statement.1 right.reply.answer in record {
        at = nothing_there now.reply.at (right.reply.at ∙ k.alone);
        answer = report_fits earlier now shown right known (is_reported mode now.session now.reply.answer e answer);
        number = nothing_there now.reply.number (right.reply.number ∙ ap (λ b. b && is_some (stored now)) k.alone);
      }

  said_fits : (earlier : List Said) (now : Said) → Each (PrintsWithin h) all → IsRightEnough mode h all earlier now → FindsRest script.records earlier now → IsKnown now → FitsSaid script now
  said_fits earlier now shown right finds known = go (now.session == 0) refl
    where
      go : (b : Bool) → (now.session == 0) ≡ b → MatchBool b (IsReport now.reply) (FitsReply script.tables (cursor_table script now) now.statement now.reply)
      go true is = stands_alone earlier now shown right known is
      go false is = reply_fits earlier now shown right finds known

  pub all_fit : (earlier xs : List Said) → Each (PrintsWithin h) all → EachAfter (IsRightEnough mode h all) earlier xs → EachAfter (FindsRest script.records) earlier xs →
      Each IsKnown xs → Each (FitsSaid script) xs
  all_fit earlier [] shown right finds known = tt
  all_fit earlier (now ∷ later) shown right finds known = (said_fits earlier now shown right.0 finds.0 known.0, all_fit (now ∷ earlier) later shown right.1 finds.1 known.1)
