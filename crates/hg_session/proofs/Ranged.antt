-- What a scan and a deletion reply.
use Rattle.std.proofs.Common.{◌≡◌, ℕ, List, [], ◌∷◌, ◌++◌, true, false, Option, Some, None, refl, sym, ap, ◌∙◌, subst, append_assoc, append-nil}
use Rattle.std.specs.Prelude.{is_some, IsTrue, IfSome}
use Rattle.hg_base.specs.declared.rid.Rid.{Rid}
use Rattle.hg_base.specs.declared.rid.TableId.{TableId}
use Rattle.hg_base.specs.declared.scope.Snapshot.{Snapshot}
use Rattle.hg_base.specs.declared.statement.Statement.TheVariants as say
use Rattle.hg_base.specs.declared.line.Answer.TheVariants as answers
use Rattle.hg_base.specs.declared.value.Value.{Value}
use Rattle.hg_base.specs.Lists.{Each}
use Rattle.hg_base.specs.History.{Write, nothing}
use Rattle.hg_base.specs.Transcript.{only, has}
use Rattle.hg_core.specs.declared.log.LogEntry.{LogEntry}
use Rattle.hg_core.specs.declared.log.LogEntry.TheVariants.{Began, Over}
use Rattle.hg_core.specs.Logs.{current}
use Rattle.hg_core.specs.Reading.{Unprinted, close, saw, saws}
use Rattle.hg_core.specs.Reading as reading
use Rattle.hg_core.proofs.Right.{of_some}
use Rattle.hg_rule.specs.declared.view.Sizes.{Sizes}
use Rattle.hg_rule.specs.declared.view.View.{View}
use Rattle.hg_rule.specs.Views.{session}
use Rattle.hg_tracker.specs.Begun.{AtMost}
use Rattle.hg_cursor.specs.Keys.{Rows}
use Rattle.hg_cursor.specs.Scans.{ScansAll}
use Rattle.hg_session.specs.Gains.{Gains}
use Rattle.hg_session.specs.Replies.{inside, Answers}
use Rattle.hg_session.proofs.Replying.{nothing_more, answers_inside, answers_alone}
use Rattle.hg_session.proofs.Putting.{Writing}
use Rattle.hg_session.proofs.Reading.{adds_gain}
use Rattle.hg_session.proofs.Settling.{gains_on}

-- ---- a scan

abbrev pub with_part : (ℕ → Rows) → Unprinted
with_part part = record { found = []; part = part; undone = []; rest = None; looked = 0 }

-- after a look that logged nothing
pub all_behind : (v m w : View) (es : List LogEntry) → Gains v [] m → Gains m es w → Gains v es w
all_behind v m w es none g = subst (λ x. Gains v x w) (append-nil es) (gains_on v m w [] es none g (λ l. ap (λ x. x ++ l) (sym (append-nil es))))

pub scan_inside : (z : Sizes) (v m w : View) (c : Snapshot) (table : TableId) (low high : ℕ) (rows : Rows) → current (session v).log ≡ Some c → IsTrue (has c.scope table) →
    Gains v [] m → ScansAll z.buckets m table low high rows w → Answers z v (say.Scan table low high) (inside (answers.Rows rows)) w
scan_inside z v m w c table low high rows e declared none k = answers_inside z v w (say.Scan table low high) (answers.Rows rows) (with_part k.part)
    (ap (λ o. reading.is_alone o (say.Scan table low high)) e) (all_behind v m w (saws z.buckets table low high k.part z.buckets) none (adds_gain m w _ k.adds)) k.joins
    (λ d q. of_some (Some d) (λ snapshot. IsTrue (has snapshot.scope table)) d refl (subst (λ o. IfSome o (λ snapshot. IsTrue (has snapshot.scope table))) (sym e ∙ q) declared)) tt tt tt tt tt

pub scan_alone : (z : Sizes) (v m n w : View) (at : ℕ) (table : TableId) (low high : ℕ) (rows : Rows) → current (session v).log ≡ None → Each (AtMost at) v.sights →
    Gains v (Began at (only (Some table)) ∷ []) m → ScansAll z.buckets m table low high rows n → Gains n (Over ∷ []) w
    → Answers z v (say.Scan table low high) (record { at = Some at; answer = answers.Rows rows; number = None }) w
scan_alone z v m n w at table low high rows e most b k o =
    let two = gains_on v m n (Began at (only (Some table)) ∷ []) (saws z.buckets table low high k.part z.buckets) b (adds_gain m n _ k.adds)
    (λ l. sym (append_assoc (saws z.buckets table low high k.part z.buckets) (Began at (only (Some table)) ∷ []) l)) in
    let all = gains_on v n w (saws z.buckets table low high k.part z.buckets ++ Began at (only (Some table)) ∷ []) (Over ∷ []) two o (λ l. refl) in
    answers_alone z v w (say.Scan table low high) (answers.Rows rows) at None (with_part k.part) e refl all refl k.joins refl refl most tt tt tt

-- ---- a deletion

abbrev pub with_found : List Value → Unprinted
with_found found = record { found = found; part = λ b. []; undone = []; rest = None; looked = 0 }

abbrev pub saw_found : Sizes → Rid → List Value → List LogEntry
saw_found z rid found = saw z.buckets rid ((rid.key, found) ∷ []) ∷ []

pub dels : (z : Sizes) (own : List Write) (rid : Rid) (found : List Value) → Writing z (say.Del rid) (with_found found) own rid nothing (saw_found z rid found) answers.Gone
dels z own rid found = record {
  access = refl;
  stores = refl;
  opened = λ w. refl;
  newer = λ n. refl;
  fits = tt;
  fits_opened = λ w. tt;
  fits_newer = λ n. tt;
  unscanned = λ scope b. tt;
  stands = λ o. tt;
  by = refl;
  by_opened = λ w. refl;
  by_newer = λ n. refl;
  at = λ at n. refl;
  at_none = refl;
  newer_none = λ at n. refl;
  number_is = λ at n. refl;
  number_none = refl;
  none_opened = λ at w. refl;
  none_newer = λ at n. refl;
  goes = λ v. tt;
}

-- a row that is there
pub found_row : (row : Option (List Value)) → true ≡ is_some row → (found : List Value) × (row ≡ Some found)
found_row None e = absurd (let k = e in cc)
found_row (Some found) e = (found, refl)

pub no_row : (row : Option (List Value)) → false ≡ is_some row → row ≡ None
no_row None e = refl
no_row (Some found) e = absurd (let k = e in cc)

pub nothing_inside : (z : Sizes) (v w : View) (c : Snapshot) (rid : Rid) → current (session v).log ≡ Some c → Gains v (saw z.buckets rid [] ∷ []) w →
    Answers z v (say.Del rid) (inside answers.Nothing) w
nothing_inside z v w c rid e g = answers_inside z v w (say.Del rid) answers.Nothing nothing_more (ap (λ o. reading.is_alone o (say.Del rid)) e) g tt (λ c e. tt) tt tt tt tt tt

pub nothing_alone : (z : Sizes) (v w : View) (at : ℕ) (rid : Rid) → current (session v).log ≡ None → Each (AtMost at) v.sights →
    Gains v (close None ++ (saw z.buckets rid [] ∷ Began at (only (Some rid.table)) ∷ [])) w → Answers z v (say.Del rid) (record { at = Some at; answer = answers.Nothing; number = None }) w
nothing_alone z v w at rid e most g = answers_alone z v w (say.Del rid) answers.Nothing at None nothing_more e refl g refl tt refl refl most tt tt tt
