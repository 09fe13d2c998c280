-- What the cursor of a fetch has left is of the table that its session's last `open` names, and ends at a number of 64 bits.
use Rattle.std.proofs.Common.{◌≡◌, ℕ, List, [], ◌∷◌, ◌++◌, Bool, true, false, Option, Some, None, refl, sym, ap, ◌∙◌, subst}
use Rattle.std.specs.Prelude.{cond, is_some, IfSome, ⊤, ◌==◌}
use Rattle.std.specs.Option.{option_or}
use Rattle.std.proofs.lemmas.Bool.Decides.{Decides-eqb}
use Rattle.hg_base.specs.declared.rid.TableId.{TableId}
use Rattle.hg_base.specs.declared.statement.Statement.{Statement}
use Rattle.hg_base.specs.declared.statement.Statement.TheVariants.{Begin, CursorOpen, Fetch}
use Rattle.hg_base.specs.declared.statement.Record.{Record}
use Rattle.hg_base.specs.declared.line.Answer.{Answer}
use Rattle.hg_base.specs.declared.line.Answer.TheVariants.{Rows}
use Rattle.hg_base.specs.declared.line.Line.{Line}
use Rattle.hg_base.specs.declared.line.Reply.{Reply}
use Rattle.hg_base.specs.Lists.{Each, EachAfter}
use Rattle.hg_base.specs.Script.{Mode, Script}
use Rattle.hg_base.specs.Sound.{all_said}
use Rattle.hg_base.specs.Text.{Fits64, cursor_before, opens}
use Rattle.hg_base.specs.Transcript.{Rest, Said, in_order, said, said_after, said_from, standing, last_of, next_after, open_after, rest_after, rest_in}
use Rattle.hg_base.proofs.ListFacts.{cases, each_keeps, false_true}
use Rattle.hg_base.proofs.Resting.{ShowsRest, left_nothing, left_other, left_own}
use Rattle.hg_core.specs.Events.{put}
use Rattle.hg_core.proofs.Indices.{at_index, put_here, put_else}
use Rattle.hg_headline.proofs.Orderly.{Orderly, orderly_nothing, orderly_step}
use Rattle.hg_headline.proofs.Whole.{said_says}
use Rattle.hg_script.specs.Lawful.{HasWidths, IsLawful, IsStatement, MayStand}
use Rattle.hg_script.specs.Rules.{is_open, is_reading}
use Rattle.hg_exact.specs.Opening.{AreOpen}
use Rattle.hg_exact.proofs.InOrder.{AreInTurn, IsOfCursor, MayCome, Stand, each_in_order, last_opened, stand_in_turn, stand_more, stand_of, stand_on}
use Rattle.hg_exact.proofs.OpenAfter.{reads_held}
use Rattle.hg_exact.proofs.Opens.{ShowsOpen, shows_more}

-- it is of that table, and its end has its width
abbrev pub IsRestOf : Option TableId → Option Rest → Type 0
IsRestOf cursor rest = IfSome rest (λ rest. (cursor ≡ Some rest.table) × Fits64 rest.high)

-- the same of what a fetch finds left
abbrev pub IfFetch : Statement → Type 0 → Type 0
IfFetch (Fetch n) P = P
IfFetch _ P = ⊤

abbrev pub FindsRest : List Record → List Said → Said → Type 0
FindsRest all earlier now = IfFetch now.statement (IsRestOf (cursor_before all now.session now.place) (rest_in now.session now.transaction earlier))

-- ---- one record

rest_more : (s : Statement) (a : Answer) (cursor : Option TableId) (rest : Option Rest) → HasWidths s → IsRestOf cursor rest → IsRestOf (option_or (opens s) cursor) (rest_after s a rest)
rest_more (Begin scope) a cursor rest wide h = tt
rest_more (CursorOpen table low high) a cursor rest wide h = (refl, wide.1)
rest_more (Fetch n) (Rows rows) cursor None wide h = tt
rest_more (Fetch n) (Rows rows) cursor (Some rest) wide h = h
rest_more (Fetch n) _ cursor rest wide h = h
rest_more _ a cursor rest wide h = h

some_is : {X : Type 0} (o : Option X) → is_some o ≡ true → (x : X) × (o ≡ Some x)
some_is None e = absurd (false_true e)
some_is (Some x) e = (x, refl)

-- a fetch stands in the transaction that is open
module _ (all before : List Record) (earlier : List Said) (r : Record) (reply : Reply) (rest : Option Rest) (shows : ShowsRest r.session earlier rest)
    (known : IsRestOf (last_opened r.session before) rest) where
  abbrev last : Option Said
  last = last_of r.session earlier

  stands_there : (o : Option Said) → open_after last ≡ o → is_some o ≡ true → last_opened r.session before ≡ cursor_before all r.session r.place →
      IsRestOf (cursor_before all r.session r.place) (rest_in r.session (standing o (next_after last) r reply).transaction earlier)
  stands_there None e some cursor = absurd (false_true some)
  stands_there (Some opened) e some cursor = subst (λ p. p) (λ i. IsRestOf (cursor i) (shows opened e i)) known

  finds : (s : Statement) (within reads : Bool) → AreOpen within reads (is_some (open_after last)) → (IfFetch s (reads ≡ true)) → IsOfCursor all (last_opened r.session before) r s →
      IfFetch s (IsRestOf (cursor_before all (said_after last r reply s).session (said_after last r reply s).place)
      (rest_in (said_after last r reply s).session (said_after last r reply s).transaction earlier))
  finds (Fetch n) within reads held may cursor = go (open_after last) refl (reads_held within reads (is_some (open_after last)) held may)
    where
      go : (o : Option Said) → open_after last ≡ o → is_some o ≡ true →
          IsRestOf (cursor_before all (standing o (next_after last) r reply).session (standing o (next_after last) r reply).place)
          (rest_in (standing o (next_after last) r reply).session (standing o (next_after last) r reply).transaction earlier)
      go None e some = absurd (false_true some)
      go (Some opened) e some = stands_there (Some opened) e some cursor
  finds _ within reads held may cursor = tt

-- ---- all lines

-- what is left of each session's cursor, and of which table
pub record AreRests (before : List Record) (earlier : List Said) (left : ℕ → Option Rest) : Type 0 where
  pub shows : (j : ℕ) → ShowsRest j earlier (left j)
  pub known : (j : ℕ) → IsRestOf (last_opened j before) (left j)

pub rests_first : AreRests [] [] (λ j. None)
rests_first = record { shows = λ j. left_nothing j; known = λ j. tt }

rests_more : (before : List Record) (earlier : List Said) (left : ℕ → Option Rest) (r : Record) (reply : Reply) → HasWidths r.statement → AreRests before earlier left →
    AreRests (before ++ r ∷ []) (said earlier r reply ∷ earlier) (put left r.session (rest_after r.statement reply.answer (left r.session)))
rests_more before earlier left r reply wide h = record {
  shows = at_index r.session (λ j. ShowsRest j (now ∷ earlier) (put left r.session after j))
      (subst (ShowsRest r.session (now ∷ earlier)) (sym (put_here left r.session after)) (left_own earlier r.place r.session reply r.statement (left r.session) (h.shows r.session)))
      (λ j z. subst (ShowsRest j (now ∷ earlier)) (sym (put_else left r.session j after z)) (left_other j earlier now (left j) (ap (λ i. i == j) by ∙ apart j z) (h.shows j)));
  known = at_index r.session (λ j. IsRestOf (last_opened j (before ++ r ∷ [])) (put left r.session after j))
      (subst (λ p. p) (λ i. IsRestOf (sym own i) (sym (put_here left r.session after) i)) (rest_more r.statement reply.answer (last_opened r.session before) (left r.session) wide (h.known r.session)))
      (λ j z. subst (λ p. p) (λ i. IsRestOf (sym (other j z) i) (sym (put_else left r.session j after z) i)) (h.known j));
}
  where
    now : Said
    now = said earlier r reply

    after : Option Rest
    after = rest_after r.statement reply.answer (left r.session)

    by : (said earlier r reply).session ≡ r.session
    by = (said_says (last_of r.session earlier) r reply r.statement).0

    apart : (j : ℕ) → (j ≡ r.session → ⊥) → (r.session == j) ≡ false
    apart j z = cases (r.session == j) (λ e. absurd (z (sym ((Decides-eqb r.session j).0 e)))) (λ e. e)

    cursor_then : (j : ℕ) → last_opened j (before ++ r ∷ []) ≡ (cond (r.session == j) (stand_on (stand_of j before) r.statement) (stand_of j before)).cursor
    cursor_then j = ap (λ (x : Stand). x.cursor) (stand_more j before r)

    own : last_opened r.session (before ++ r ∷ []) ≡ option_or (opens r.statement) (last_opened r.session before)
    own = cursor_then r.session ∙ ap (λ b. (cond b (stand_on (stand_of r.session before) r.statement) (stand_of r.session before)).cursor) ((Decides-eqb r.session r.session).1 refl)

    other : (j : ℕ) → (j ≡ r.session → ⊥) → last_opened j (before ++ r ∷ []) ≡ last_opened j before
    other j z = cursor_then j ∙ ap (λ b. (cond b (stand_on (stand_of j before) r.statement) (stand_of j before)).cursor) (apart j z)

reads_there : (all : List Record) (x : Stand) (r : Record) (s : Statement) → r.statement ≡ s → MayCome all x r → IfFetch s (x.reads ≡ true)
reads_there all x r (Fetch n) e come = subst (MayStand x.within x.reads) e come.may
reads_there all x r _ e come = tt

pub all_find : (all before rs : List Record) (lines : List Line) (earlier : List Said) (left : ℕ → Option Rest) → AreInTurn all before rs → Each (λ r. HasWidths r.statement) rs →
    ((j : ℕ) → Orderly j earlier) → ShowsOpen before earlier → AreRests before earlier left → EachAfter (FindsRest all) earlier (said_from earlier rs lines)
all_find all before [] lines earlier left turn widths orderly shows h = tt
all_find all before (r ∷ rs) [] earlier left turn widths orderly shows h = tt
all_find all before (r ∷ rs) (line ∷ lines) earlier left turn widths orderly shows h = (
  here,
  all_find all (before ++ r ∷ []) rs lines (said earlier r line.reply ∷ earlier) (put left r.session (rest_after r.statement line.reply.answer (left r.session))) turn.1 widths.1
      (orderly_step earlier r line.reply orderly)
      (shows_more before earlier r line.reply (orderly r.session) turn.0.may shows) (rests_more before earlier left r line.reply widths.0 h),
)
  where
    now : Said
    now = said earlier r line.reply

    here : FindsRest all earlier now
    here =
        subst (λ s. IfFetch s (IsRestOf (cursor_before all now.session now.place) (rest_in now.session now.transaction earlier)))
        (sym (said_says (last_of r.session earlier) r line.reply r.statement).1)
        (finds all before earlier r line.reply (left r.session) (h.shows r.session) (h.known r.session) r.statement (is_open r.session before) (is_reading r.session before) (shows r.session)
        (reads_there all (stand_of r.session before) r r.statement refl turn.0) turn.0.cursor)

-- what each fetch of a script finds left
pub lines_find : (mode : Mode) (script : Script) (lines : List Line) → IsLawful script → EachAfter (FindsRest script.records) [] (all_said mode script lines)
lines_find mode script lines lawful =
    all_find script.records [] (in_order mode script.records) lines [] (λ j. None) (stand_in_turn mode script.records lawful.places lawful.order)
    (each_in_order (λ r. HasWidths r.statement) mode script.records
    (each_keeps (IsStatement script.tables) (λ r. HasWidths r.statement) (λ r is. is.widths) script.records lawful.statements) (λ kind m k. tt))
    orderly_nothing (λ j. refl) rests_first
