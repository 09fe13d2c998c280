-- Where there are few groups, the session, the transaction and the snapshot of each line have their widths.
use Rattle.std.proofs.Common.{◌≡◌, ◌⊎◌, inl, ℕ, ◌≤◌, List, [], ◌∷◌, length, Bool, true, false, Option, Some, None, refl, sym, ap, ◌∙◌, subst, arith}
use Rattle.std.specs.Prelude.{sum_by, is_none, is_some, unwrap_or, IfSome, IsTrue, ◌==◌}
use Rattle.std.specs.List.{list_any}
use Rattle.std.specs.Bool.{MatchBool}
use Rattle.std.proofs.lemmas.List.Sums.{sum_by-cons}
use Rattle.hg_base.specs.declared.rid.Rid.{Rid}
use Rattle.hg_base.specs.declared.image.Image.{Image}
use Rattle.hg_base.specs.declared.statement.Statement.{Statement}
use Rattle.hg_base.specs.declared.statement.Statement.TheVariants.{Begin, Get, Put, Del, Scan, CursorOpen, Fetch, CursorClose, Commit as CommitIt, Rollback, Gc}
use Rattle.hg_base.specs.declared.line.Answer.{Answer}
use Rattle.hg_base.specs.declared.line.Answer.TheVariants.{Begun}
use Rattle.hg_base.specs.declared.line.Totals.{Totals}
use Rattle.hg_base.specs.declared.report.Kind.{Kind}
use Rattle.hg_base.specs.declared.report.Kind.TheVariants as kinds
use Rattle.hg_base.specs.declared.report.Sweep.{Sweep}
use Rattle.hg_base.specs.declared.report.Told.{Told}
use Rattle.hg_base.specs.Counts.{AreTotals, removed_by}
use Rattle.hg_base.specs.Freshness.{IsHeld, IsReported, prints, snapshot_of}
use Rattle.hg_base.specs.Lists.{Each, EachAfter}
use Rattle.hg_base.specs.Script.{Mode, Script}
use Rattle.hg_base.specs.History.{History}
use Rattle.hg_base.specs.Transcript.{Rest, Said, has, committed}
use Rattle.hg_base.specs.Shape.{report_of, same_kind}
use Rattle.hg_base.specs.Replies.{IsGot, IsPut, IsDeleted, IsScanned, IsFetched, IsEnded, IsCommitted, IsUndone, IsSwept, IsUndeclared, IsAnswer, IsReply}
use Rattle.hg_base.specs.Conflicts.{ShowsConflict}
use Rattle.hg_base.specs.Sound.{IsRight}
use Rattle.hg_base.specs.Text.{Fits64, Fits32, FitsGc}
use Rattle.hg_base.specs.Text.{FitsReply, FitTotals, IsReport}
use Rattle.hg_base.proofs.ListFacts.{false_true, each_keeps, if_some_keeps}
use Rattle.hg_exact.specs.Rows.{cursor_table}
use Rattle.hg_exact.proofs.Opens.{IsStanding, begins}
use Rattle.hg_exact.proofs.Widths.{either, collected_fits}

-- a line's session and transaction have their widths
abbrev pub IsFew : Said → Type 0
IsFew s = Fits32 s.session × Fits64 s.transaction

-- its snapshot is one of the history
abbrev pub PrintsWithin : History → Said → Type 0
PrintsWithin h now = IfSome (snapshot_of now) (λ s. s ≤ length h)

abbrev pub CommitsWithin : History → Said → Type 0
CommitsWithin h now = IfSome (committed now) (λ c. c ≤ length h)

pub kind_itself : (k : Kind) → same_kind k k ≡ true
kind_itself kinds.Group = refl
kind_itself kinds.Table = refl
kind_itself kinds.Interval = refl

-- only a `begin` and an `open` are answered `begun`
begun_alone : (mode : Mode) (look : Rid → Image) (wrote : Bool) (rest : Option Rest) (now : Said) (s : Statement) (n : ℕ) → now.reply.answer ≡ Begun n →
    IsAnswer mode look wrote rest now s → begins s ≡ true
begun_alone mode look wrote rest now (Begin scope) n e a = refl
begun_alone mode look wrote rest now (CursorOpen table low high) n e a = refl
begun_alone mode look wrote rest now (Get r) n e a = absurd (either (has now.scope r.table) (subst (IsGot (look r)) e) (subst (IsUndeclared r.table) e) a)
begun_alone mode look wrote rest now (Put r row) n e a = absurd (either (has now.scope r.table) (subst IsPut e) (subst (IsUndeclared r.table) e) a)
begun_alone mode look wrote rest now (Del r) n e a = absurd (either (has now.scope r.table) (subst (IsDeleted (look r)) e) (subst (IsUndeclared r.table) e) a)
begun_alone mode look wrote rest now (Scan table low high) n e a =
    absurd (either (has now.scope table) (subst (IsScanned (λ key. look (record { table = table; key = key })) low high) e) (subst (IsUndeclared table) e) a)
begun_alone mode look wrote rest now (Fetch m) n e a = absurd (no_begin rest (subst (IsFetched look m rest) e a))
  where
    no_begin : (rest : Option Rest) → IsFetched look m rest (Begun n) → ⊥
    no_begin None f = f
    no_begin (Some rest) f = f
begun_alone mode look wrote rest now CursorClose n e a = absurd (subst IsEnded e a)
begun_alone mode look wrote rest now CommitIt n e a = absurd (subst (IsCommitted wrote) e a)
begun_alone mode look wrote rest now Rollback n e a = absurd (subst IsUndone e a)
begun_alone mode look wrote rest now (Gc kind) n e a = absurd (subst FitsGc e (collected_fits mode now.session now.reply.answer a (λ s. absurd (subst IsSwept e s))))

snapshot_within : (mode : Mode) (h : History) (earlier : List Said) (now : Said) → IsReply mode h earlier now → IsStanding now → PrintsWithin h now
snapshot_within mode h earlier now right stands = go now.reply.answer refl
  where
    alone : (o : Option ℕ) → now.reply.at ≡ o → IfSome o (λ s. s ≤ length h)
    alone None is = tt
    alone (Some s) is =
        let same : now.at ≡ s = (stands.alone (sym right.at ∙ ap is_some is)).0 ∙ ap (λ o. unwrap_or o 0) is in
        subst (λ n. n ≤ length h) same right.snapshot

    at : IfSome now.reply.at (λ s. s ≤ length h)
    at = alone now.reply.at refl

    go : (a : Answer) → now.reply.answer ≡ a → IfSome (elim a [ Begun s ↦ Some s | _ ↦ now.reply.at ]) (λ s. s ≤ length h)
    go (Begun n) is =
        let k = begun_alone mode _ _ _ now now.statement n is right.answer in
        let same : now.at ≡ n = stands.begun k ∙ ap (λ (a : Answer). elim a [ Begun s ↦ s | _ ↦ 0 ]) is in
        subst (λ n. n ≤ length h) same right.snapshot
    go _ is = at

-- each snapshot is one of the history
pub snapshots_within : (mode : Mode) (h : History) (earlier xs : List Said) → EachAfter (IsReply mode h) earlier xs → Each IsStanding xs → Each (PrintsWithin h) xs
snapshots_within mode h earlier [] right stand = tt
snapshots_within mode h earlier (now ∷ later) right stand = (snapshot_within mode h earlier now right.0 stand.0, snapshots_within mode h (now ∷ earlier) later right.1 stand.1)

summed : (k : Kind) (xs : List Said) → Each (λ now. removed_by k now ≤ sum_by (removed_by k) xs) xs
summed k [] = tt
summed k (x ∷ xs) =
    let s = sum_by-cons (removed_by k) x xs in (
      omega (arith, s),
      each_keeps (λ now. removed_by k now ≤ sum_by (removed_by k) xs) (λ now. removed_by k now ≤ sum_by (removed_by k) (x ∷ xs)) (λ now m. omega (arith, s, m)) xs (summed k xs),
    )

each_every : (P : Kind → Said → Type 0) (xs : List Said) → Each (P kinds.Group) xs → Each (P kinds.Table) xs → Each (P kinds.Interval) xs → Each (λ now. (k : Kind) → P k now) xs
each_every P [] a b c = tt
each_every P (x ∷ xs) a b c = (go, each_every P xs a.1 b.1 c.1)
  where
    go : (k : Kind) → P k x
    go kinds.Group = a.0
    go kinds.Table = b.0
    go kinds.Interval = c.0

pub removed_few : (all : List Said) (h : History) (t : Totals) → AreTotals all h t → FitTotals t → Each (λ now. (k : Kind) → Fits64 (removed_by k now)) all
removed_few all h t a f = each_every (λ k now. Fits64 (removed_by k now)) all
    (each_keeps (λ now. removed_by kinds.Group now ≤ sum_by (removed_by kinds.Group) all) (λ now. Fits64 (removed_by kinds.Group now)) (λ now m. let e = a.group in
    let w = f.group in omega (arith, m, e, w)) all (summed kinds.Group all))
    (each_keeps (λ now. removed_by kinds.Table now ≤ sum_by (removed_by kinds.Table) all) (λ now. Fits64 (removed_by kinds.Table now)) (λ now m. let e = a.table in
    let w = f.table in omega (arith, m, e, w)) all (summed kinds.Table all))
    (each_keeps (λ now. removed_by kinds.Interval now ≤ sum_by (removed_by kinds.Interval) all) (λ now. Fits64 (removed_by kinds.Interval now)) (λ now m. let e = a.interval in
    let w = f.interval in omega (arith, m, e, w)) all (summed kinds.Interval all))

-- a line of a collector beside the sessions
pub record IsBesideThem (now : Said) : Type 0 where
  pub alone : now.alone ≡ false
  pub statement : (kind : Kind) × (now.statement ≡ Gc kind)

-- a report of session 0 stands alone, and another reply is one to its statement
abbrev pub FitsSaid : Script → Said → Type 0
FitsSaid script now = MatchBool (now.session == 0) (IsReport now.reply) (FitsReply script.tables (cursor_table script now) now.statement now.reply)

pub nothing_there : {X : Type 0} (o : Option X) → is_some o ≡ false → is_none o ≡ true
nothing_there None e = refl
nothing_there (Some x) e = absurd (false_true (sym e))

-- what is asked of a held snapshot: it was printed, or it is of a session and a number that are few
abbrev pub IsHeldFew : History → List Said → Told → Type 0
IsHeldFew h all told = IsTrue (list_any (prints told) all) ⊎ (Fits32 told.session × (told.number ≤ length h))

-- what is asked of a report
pub record IsReportFew (h : History) (all : List Said) (sweep : Sweep) : Type 0 where
  pub horizon : sweep.horizon ≤ sweep.mark
  pub mark : sweep.mark ≤ length h
  pub held : Each (IsHeldFew h all) sweep.held

-- what is asked of a line
pub record IsRightEnough (mode : Mode) (h : History) (all : List Said) (earlier : List Said) (now : Said) : Type 0 where
  pub reply : IsReply mode h earlier now
  pub conflict : ShowsConflict mode h all earlier now
  pub report : IfSome (report_of now.reply) (IsReportFew h all)

pub enough : (mode : Mode) (h : History) (all earlier : List Said) (now : Said) → IsRight mode h all earlier now → IsRightEnough mode h all earlier now
enough mode h all earlier now r = record {
  reply = r.reply;
  conflict = r.conflict;
  report = if_some_keeps (report_of now.reply) (IsReported h all earlier) (IsReportFew h all)
      (λ sweep k. record { horizon = k.horizon; mark = k.mark; held = each_keeps (IsHeld all) (IsHeldFew h all) (λ told q. inl q.printed) sweep.held k.held }) r.fresh.report;
}
