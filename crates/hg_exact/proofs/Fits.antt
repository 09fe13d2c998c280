-- What is sound for a lawful script fits it.
use Rattle.std.proofs.Common.{◌≡◌, ℕ, ◌+◌, ◌<◌, ◌≤◌, ◌^◌, List, [], ◌∷◌, ◌++◌, length, Bool, true, false, Option, Some, None, refl, sym, ap, ◌∙◌, subst, arith, append_assoc}
use Rattle.std.specs.Prelude.{cond, find, map, MatchOption, ◌==◌, ◌&&◌}
use Rattle.std.specs.Bool.{MatchBool}
use Rattle.std.specs.Option.{option_map_or}
use Rattle.std.proofs.lemmas.Bool.Decides.{Decides-eqb, nat_tests}
use Rattle.hg_base.specs.declared.rid.TableId.{TableId}
use Rattle.hg_base.specs.declared.statement.Statement.{Statement}
use Rattle.hg_base.specs.declared.statement.Statement.TheVariants.{Begin, CursorOpen, Gc}
use Rattle.hg_base.specs.declared.statement.Record.{Record}
use Rattle.hg_base.specs.declared.line.Line.{Line}
use Rattle.hg_base.specs.declared.line.Printed.{Printed}
use Rattle.hg_base.specs.declared.line.Reply.{Reply}
use Rattle.hg_base.specs.declared.report.Kind.{Kind}
use Rattle.hg_base.specs.Counts.{AreTotals, removed_by}
use Rattle.hg_base.specs.Lists.{Each, EachAfter, Ascends, greatest}
use Rattle.hg_base.specs.Script.{Mode, Script}
use Rattle.hg_base.specs.History.{History, IsHistory}
use Rattle.hg_base.specs.Transcript.{Said, standing, next_after, open_after, said, said_from, last_of}
use Rattle.hg_base.specs.Transcript.{history_of, in_order, said_after}
use Rattle.hg_base.specs.Shape.{HasShape, IsLineOf}
use Rattle.hg_base.specs.Replies.{IsReply}
use Rattle.hg_base.specs.Sound.{IsRight, IsSound, all_said}
use Rattle.hg_base.specs.Text.{Fits64, Fits32}
use Rattle.hg_base.specs.Text.{FitsReply, FitTotals, Fits, IsFit, IsReport, asked, cursor_before}
use Rattle.hg_base.proofs.ListFacts.{not_equal, each_after_keeps, each_keeps}
use Rattle.hg_headline.proofs.Orderly.{orderly_nothing}
use Rattle.hg_headline.proofs.Whole.{said_says}
use Rattle.hg_core.specs.Answered.{is_gc}
use Rattle.hg_script.specs.Lawful.{IsLawful, IsStatement, HasWidths}
use Rattle.hg_exact.specs.Modes.{rounds_beside}
use Rattle.hg_exact.specs.Rows.{PrintsRow, cursor_table}
use Rattle.hg_exact.proofs.FitRows.{rows_put}
use Rattle.hg_exact.proofs.Counts.{lines_few, groups_few, numbers_within, transactions_few, totals_fit}
use Rattle.hg_exact.proofs.Fetched.{FindsRest, lines_find}
use Rattle.hg_exact.proofs.InOrder.{each_in_order, few_in_order, lower, stand_in_turn}
use Rattle.hg_exact.proofs.Sessions.{sessions_within}
use Rattle.hg_exact.proofs.Opens.{IsStanding, all_stand, gc_of}
use Rattle.hg_exact.proofs.Widths.{both_each, IsPutRow, all_rows}
use Rattle.hg_exact.proofs.Few.{IsFew, PrintsWithin, CommitsWithin, snapshots_within, removed_few, IsBesideThem, FitsSaid, IsRightEnough, enough}
use Rattle.hg_exact.proofs.Replies.{IsKnown, all_fit}

-- ---- the record of a line

is_asked : (before rs : List Record) (r : Record) (place session : ℕ) → place ≡ r.place → session ≡ r.session → Each (λ q. q.place < r.place) before →
    find (λ q. (q.place == place) && (q.session == session)) (before ++ r ∷ rs) ≡ Some r
is_asked [] rs r place session p s e =
    let same : (r.place == place) ≡ true = (Decides-eqb r.place place).1 (sym p) in
    let own : (r.session == session) ≡ true = (Decides-eqb r.session session).1 (sym s) in
    ap (λ b. cond (b && (r.session == session)) (Some r) (find (λ (q : Record). (q.place == place) && (q.session == session)) rs)) same
    ∙ ap (λ b. cond b (Some r) (find (λ (q : Record). (q.place == place) && (q.session == session)) rs)) own
is_asked (q ∷ qs) rs r place session p s e =
    let apart : (q.place == place) ≡ false = not_equal q.place place (omega (arith, p, e.0)) in
    ap (λ b. cond (b && (q.session == session)) (Some q) (find (λ (q : Record). (q.place == place) && (q.session == session)) (qs ++ r ∷ rs))) apart
    ∙ is_asked qs rs r place session p s e.1

-- the record is the script's at its place
record IsAsked (script : Script) (r : Record) : Type 0 where
  session : Fits32 r.session
  place : Fits64 r.place
  found : find (λ q. (q.place == r.place) && (q.session == r.session)) script.records ≡ Some r

-- a round of a collector beside the sessions
record IsRound (r : Record) : Type 0 where
  place : Fits64 r.place
  collects : is_gc r.statement ≡ true

abbrev IsOwn : Script → Record → Type 0
IsOwn script r = MatchBool (r.session == 0) (IsRound r) (IsAsked script r)

-- a line keeps its record's place
says_place : (last : Option Said) (r : Record) (reply : Reply) (s : Statement) → (said_after last r reply s).place ≡ r.place
says_place last r reply (Begin scope) = refl
says_place last r reply (CursorOpen table low high) = refl
says_place last r reply (Gc kind) = refl
says_place last r reply _ = stands (open_after last)
  where
    stands : (o : Option Said) → (standing o (next_after last) r reply).place ≡ r.place
    stands None = refl
    stands (Some opened) = refl

module _ (script : Script) (lawful : IsLawful script) where
  owned : (before rs : List Record) → script.records ≡ before ++ rs → Each (IsStatement script.tables) rs → Each (IsOwn script) rs
  owned before [] e are = tt
  owned before (r ∷ rs) e are =
      let places : Ascends (map (λ (r : Record). r.place) (before ++ r ∷ rs)) = subst (λ (rs : List Record). Ascends (map (λ (r : Record). r.place) rs)) e lawful.places in
      let some : (r.session == 0) ≡ false = grind (arith, nat_tests, are.0.some) in
      let asks : IsAsked script r = record {
        session = omega (arith, are.0.most);
        place = omega (arith, are.0.place);
        found = ap (find (λ (q : Record). (q.place == r.place) && (q.session == r.session))) e ∙ is_asked before rs r r.place r.session refl refl (lower before rs r places);
      } in (
        subst (λ b. MatchBool b (IsRound r) (IsAsked script r)) (sym some) asks,
        owned (before ++ r ∷ []) rs (e ∙ sym (append_assoc before (r ∷ []) rs)) are.1,
      )

  abbrev cursor_at : Line → Option TableId
  cursor_at line = cursor_before script.records line.session line.place

  line_fits : (r : Record) (line : Line) → IsLineOf r line → IsOwn script r →
      MatchBool (r.session == 0) (IsReport line.reply) (FitsReply script.tables (cursor_at line) r.statement line.reply) → Fits script line
  line_fits r line shape own fits = go (r.session == 0) refl own fits
    where
      go : (b : Bool) → (r.session == 0) ≡ b → MatchBool b (IsRound r) (IsAsked script r) →
          MatchBool b (IsReport line.reply) (FitsReply script.tables (cursor_at line) r.statement line.reply) → Fits script line
      go true is own fits =
          let none : r.session ≡ 0 = (Decides-eqb r.session 0).0 is in record {
            session = omega (arith, shape.session, none);
            place = subst Fits64 (sym shape.place) own.place;
            reply = subst (λ b. MatchBool b (IsReport line.reply) (MatchOption (asked script.records line) ⊥ (λ s. FitsReply script.tables (cursor_at line) s line.reply)))
                (sym (ap (λ n. n == 0) shape.session ∙ is)) fits;
          }
      go false is own fits =
          let at : (λ (q : Record). (q.place == line.place) && (q.session == line.session)) ≡ (λ (q : Record). (q.place == r.place) && (q.session == r.session)) =
          (λ i (q : Record). (q.place == shape.place i) && (q.session == shape.session i)) in
          let asks : asked script.records line ≡ Some r.statement = ap (λ test. option_map_or (λ r. Some r.statement) (find test script.records) None) at ∙
          ap (λ o. option_map_or (λ r. Some r.statement) o None) own.found in record {
            session = subst Fits32 (sym shape.session) own.session;
            place = subst Fits64 (sym shape.place) own.place;
            reply = subst (λ b. MatchBool b (IsReport line.reply) (MatchOption (asked script.records line) ⊥ (λ s. FitsReply script.tables (cursor_at line) s line.reply)))
                (sym (ap (λ n. n == 0) shape.session ∙ is))
                (subst (λ o. MatchOption o ⊥ (λ s. FitsReply script.tables (cursor_at line) s line.reply)) (sym asks) fits);
          }

  lines_fit : (rs : List Record) (lines : List Line) (earlier : List Said) → HasShape rs lines → Each (IsOwn script) rs → Each (FitsSaid script) (said_from earlier rs lines) → Each (Fits script) lines
  lines_fit [] [] earlier shape own fits = tt
  lines_fit [] (line ∷ lines) earlier shape own fits = absurd shape
  lines_fit (r ∷ rs) [] earlier shape own fits = absurd shape
  lines_fit (r ∷ rs) (line ∷ lines) earlier shape own fits =
      let says = said_says (last_of r.session earlier) r line.reply r.statement in
      let now : Said = said earlier r line.reply in
      let cursor : cursor_table script now ≡ cursor_at line = (λ i. cursor_before script.records ((says.0 ∙ sym shape.0.session) i)
      ((says_place (last_of r.session earlier) r line.reply r.statement ∙ sym shape.0.place) i)) in
      let here : MatchBool (r.session == 0) (IsReport line.reply) (FitsReply script.tables (cursor_at line) r.statement line.reply) =
      subst (λ j. MatchBool (j == 0) (IsReport line.reply) (FitsReply script.tables (cursor_at line) r.statement line.reply)) says.0
      (subst (λ s. MatchBool (now.session == 0) (IsReport line.reply) (FitsReply script.tables (cursor_at line) s line.reply)) says.1
      (subst (λ reply. MatchBool (now.session == 0) (IsReport reply) (FitsReply script.tables (cursor_at line) now.statement reply)) says.2
      (subst (λ c. MatchBool (now.session == 0) (IsReport now.reply) (FitsReply script.tables c now.statement now.reply)) cursor fits.0))) in (
        line_fits r line shape.0 own.0 here,
        lines_fit rs lines (now ∷ earlier) shape.1 own.1 fits.1,
      )

-- ---- all lines

all_of_sessions : (rs : List Record) (lines : List Line) (earlier : List Said) → Each (λ r. Fits32 r.session) rs → Each (λ s. Fits32 s.session) (said_from earlier rs lines)
all_of_sessions [] lines earlier are = tt
all_of_sessions (r ∷ rs) [] earlier are = tt
all_of_sessions (r ∷ rs) (line ∷ lines) earlier are =
    let by = (said_says (last_of r.session earlier) r line.reply r.statement).0 in
    (subst Fits32 (sym by) are.0, all_of_sessions rs lines (said earlier r line.reply ∷ earlier) are.1)

-- the lines of session 0 are reports
all_beside : (script : Script) (rs : List Record) (lines : List Line) (earlier : List Said) → Each (IsOwn script) rs →
    Each (λ now. (now.session == 0) ≡ true → IsBesideThem now) (said_from earlier rs lines)
all_beside script [] lines earlier own = tt
all_beside script (r ∷ rs) [] earlier own = tt
all_beside script (r ∷ rs) (line ∷ lines) earlier own =
    let last = last_of r.session earlier in
    let says = said_says last r line.reply r.statement in
    (go last says.0 says.1, all_beside script rs lines (said earlier r line.reply ∷ earlier) own.1)
  where
    go : (last : Option Said) → (said earlier r line.reply).session ≡ r.session → (said earlier r line.reply).statement ≡ r.statement →
        ((said earlier r line.reply).session == 0) ≡ true → IsBesideThem (said earlier r line.reply)
    go last session statement e =
        let round : IsRound r = subst (λ b. MatchBool b (IsRound r) (IsAsked script r)) (sym (ap (λ n. n == 0) session) ∙ e) own.0 in
        let k = gc_of r.statement round.collects in record {
          alone = ap (λ s. (said_after (last_of r.session earlier) r line.reply s).alone) k.1;
          statement = (k.0, statement ∙ k.1);
        }

-- what is right enough for a lawful script fits it
pub right_fits : (mode : Mode) (script : Script) (printed : Printed) → rounds_beside mode < 2 ^ 32 → IsLawful script → HasShape (in_order mode script.records) printed.lines →
    (let all : List Said = all_said mode script printed.lines in
    IsHistory (history_of all) → EachAfter (IsRightEnough mode (history_of all) all) [] all → AreTotals all (history_of all) printed.totals → IsFit script printed)
right_fits mode script printed rounds lawful shape history right counted =
    let all : List Said = all_said mode script printed.lines in
    let rs : List Record = in_order mode script.records in
    let h : History = history_of all in
    let replies : EachAfter (IsReply mode h) [] all = each_after_keeps (IsRightEnough mode h all) (IsReply mode h) (λ earlier now r. r.reply) [] all right in
    let own : Each (IsOwn script) rs = each_in_order (IsOwn script) mode script.records (owned script lawful [] script.records refl lawful.statements)
    (λ kind m k. record { place = omega (arith, k, rounds); collects = refl }) in
    let sessions : Each (λ (r : Record). Fits32 r.session) rs = each_in_order (λ r. Fits32 r.session) mode script.records
    (each_keeps (IsStatement script.tables) (λ r. Fits32 r.session) (λ r is. omega (arith, is.most)) script.records lawful.statements) (λ kind m k. omega arith) in
    let widths : Each (λ (r : Record). HasWidths r.statement) rs = each_in_order (λ r. HasWidths r.statement) mode script.records
    (each_keeps (IsStatement script.tables) (λ r. HasWidths r.statement) (λ r is. is.widths) script.records lawful.statements) (λ kind m k. tt) in
    let most = sessions_within script lawful in
    let least : greatest (map (λ (r : Record). r.session) script.records) ≤ 64 = omega (arith, most) in
    let short : length script.records < 2 ^ 64 = omega (arith, lawful.records) in
    let asks : length rs < 2 ^ 64 = few_in_order mode script.records (omega (arith, lawful.records)) least (omega (arith, rounds)) in
    let many : length all ≤ length rs = lines_few [] rs printed.lines in
    let few : length h < 2 ^ 64 = omega (arith, groups_few all history, many, asks) in
    let transactions : Each (λ (s : Said). s.transaction ≤ 0 + length rs) all = transactions_few rs printed.lines [] 0 tt in
    let writers : Each IsFew all = both_each (λ (s : Said). Fits32 s.session) (λ (s : Said). s.transaction ≤ 0 + length rs) IsFew (λ s session n. (session, omega (arith, n, asks))) all
    (all_of_sessions rs printed.lines [] sessions) transactions in
    let stands : Each IsStanding all = all_stand script.records [] rs printed.lines [] (stand_in_turn mode script.records lawful.places lawful.order) widths orderly_nothing (λ j. refl) in
    let finds : EachAfter (FindsRest script.records) [] all = lines_find mode script printed.lines lawful in
    let rows = rows_put (IsPutRow script) mode script.records all (all_rows mode script printed.lines lawful) replies finds in
    let totals : FitTotals printed.totals = totals_fit all h printed.totals counted (omega (arith, many, asks)) in
    let gone : Each (λ (now : Said). (k : Kind) → Fits64 (removed_by k now)) all = removed_few all h printed.totals counted totals in
    let beside : Each (λ (now : Said). (now.session == 0) ≡ true → IsBesideThem now) all = all_beside script rs printed.lines [] own in
    let shown : Each (PrintsWithin h) all = snapshots_within mode h [] all replies stands in
    let one : Each (λ (now : Said). IsStanding now × PrintsRow (IsPutRow script) (cursor_table script now) now.statement now.reply.answer) all = both_each IsStanding
    (λ (now : Said). PrintsRow (IsPutRow script) (cursor_table script now) now.statement now.reply.answer) (λ (now : Said). IsStanding now ×
    PrintsRow (IsPutRow script) (cursor_table script now) now.statement now.reply.answer) (λ now k rows. (k, rows)) all stands rows in
    let two : Each (λ (now : Said). CommitsWithin h now × ((k : Kind) → Fits64 (removed_by k now))) all = both_each (CommitsWithin h) (λ (now : Said). (k : Kind) →
    Fits64 (removed_by k now)) (λ (now : Said). CommitsWithin h now × ((k : Kind) → Fits64 (removed_by k now))) (λ now n g. (n, g)) all (numbers_within all) gone in
    let three : Each (λ (now : Said). IsStanding now × PrintsRow (IsPutRow script) (cursor_table script now) now.statement now.reply.answer ×
    ((now.session == 0) ≡ true → IsBesideThem now)) all = both_each _ (λ (now : Said). (now.session == 0) ≡ true → IsBesideThem now) (λ (now : Said). IsStanding now ×
    PrintsRow (IsPutRow script) (cursor_table script now) now.statement now.reply.answer × ((now.session == 0) ≡ true → IsBesideThem now)) (λ now k b. (k.0, k.1, b)) all one beside in
    let known : Each (IsKnown mode script h all few short writers) all = both_each _ (λ (now : Said). CommitsWithin h now × ((k : Kind) → Fits64 (removed_by k now)))
    (IsKnown mode script h all few short writers) (λ now k n. record { standing = k.0; rows = k.1; number = n.0; gone = n.1; beside = k.2 }) all three two in
    record {
      lines = lines_fit script lawful rs printed.lines [] shape own (all_fit mode script h all few short writers [] all shown right finds known);
      totals = totals;
    }

pub sound_fits : (mode : Mode) (script : Script) (printed : Printed) → rounds_beside mode < 2 ^ 32 → IsLawful script → IsSound mode script printed → IsFit script printed
sound_fits mode script printed rounds lawful sound =
    let all : List Said = all_said mode script printed.lines in
    right_fits mode script printed rounds lawful sound.lines.shape sound.lines.right.whole.history
    (each_after_keeps (IsRight mode (history_of all) all) (IsRightEnough mode (history_of all) all) (enough mode (history_of all) all) [] all sound.lines.right.lines) sound.totals
