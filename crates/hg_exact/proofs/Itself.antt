-- The text that is replayed says nothing of what was removed and moved, so it is sound itself.
use Rattle.std.proofs.Common.{◌≡◌, ℕ, zero, suc, List, [], ◌∷◌, map, true, false, Option, Some, None, refl, sym, ap, subst}
use Rattle.std.specs.Prelude.{filter_map, IfSome, IsTrue, ⊤}
use Rattle.std.specs.Bool.{MatchBool}
use Rattle.std.specs.List.{cons_option}
use Rattle.hg_base.specs.declared.report.Told.{Told}
use Rattle.hg_base.specs.declared.report.Sweep.{Sweep}
use Rattle.hg_base.specs.declared.statement.Record.{Record}
use Rattle.hg_base.specs.declared.statement.Statement.{Statement}
use Rattle.hg_base.specs.declared.statement.Statement.TheVariants.{Begin, CursorOpen, Gc}
use Rattle.hg_base.specs.declared.line.Answer.{Answer}
use Rattle.hg_base.specs.declared.line.Answer.TheVariants.{Swept}
use Rattle.hg_base.specs.declared.line.Reply.{Reply}
use Rattle.hg_base.specs.Lists.{Each, EachAfter, greatest, numbers_from}
use Rattle.hg_base.specs.Freshness.{is_declared}
use Rattle.hg_base.specs.Script.{Script, replay}
use Rattle.hg_base.specs.Shape.{report_of}
use Rattle.hg_base.specs.Sound.{LinesAreSound}
use Rattle.hg_base.specs.Transcript.{Said, last_of, only, open_of, said, said_from, table_of}
use Rattle.hg_headline.proofs.Whole.{said_says}
use Rattle.hg_exact.specs.State.{Open, State, mark, next, start}
use Rattle.hg_exact.specs.Answers.{answer_in, told_of}
use Rattle.hg_exact.specs.Lawful.{AreAnswered, MovesDeclared}
use Rattle.hg_exact.specs.Replayed.{inside, lines_from, number_for, plain, plain_answer, plain_reply, plain_sweep, plain_told, replayed, stands, step}
use Rattle.hg_exact.proofs.Answering.{IsPlain, answer_prints}
use Rattle.hg_exact.proofs.Sound.{replayed_sound}
use Rattle.hg_exact.proofs.Known.{is_swept, swept_not}

-- ---- a reply that is replayed is plain

held_plain : (opens : ℕ → Option Open) (n many : ℕ) → map plain_told (filter_map (λ j. told_of j (opens j)) (numbers_from n many)) ≡ filter_map (λ j. told_of j (opens j)) (numbers_from n many)
held_plain opens n zero = refl
held_plain opens n (suc many) = one (opens n) (held_plain opens (suc n) many)
  where
    one : (o : Option Open) → map plain_told (filter_map (λ j. told_of j (opens j)) (numbers_from (suc n) many)) ≡ filter_map (λ j. told_of j (opens j)) (numbers_from (suc n) many)
        → map plain_told (cons_option (told_of n o) (filter_map (λ j. told_of j (opens j)) (numbers_from (suc n) many))) ≡ cons_option (told_of n o)
        (filter_map (λ j. told_of j (opens j)) (numbers_from (suc n) many))
    one None q = q
    one (Some o) q = ap (λ l. record { session = n; number = o.at; moved = false } ∷ l) q

answer_plain : (a : Answer) → is_swept a ≡ false → plain_answer a ≡ a
answer_plain (Swept sweep) e = absurd (let bad : true ≡ false = e in cc)
answer_plain _ e = refl

plain_in : (s : State) (o : Open) (st : Statement) → IsPlain st → plain_answer (answer_in s o st) ≡ answer_in s o st
plain_in s o st p = answer_plain (answer_in s o st) (swept_not (answer_in s o st) (mark s) (answer_prints s o st p))

stands_plain : (s : State) (j : ℕ) (x : Option Open) (st : Statement) → IsPlain st → plain_reply (stands s j x st).0 ≡ (stands s j x st).0
stands_plain s j None st p =
    let o : Open = next s j (only (table_of st)) None in
    λ i. record { at = Some (mark s); answer = plain_in s o st p i; number = number_for s st (answer_in s o st) }
stands_plain s j (Some o) st p = λ i. inside (plain_in s o st p i)

step_plain : (s : State) (j : ℕ) (st : Statement) → plain_reply (step s j st).0 ≡ (step s j st).0
step_plain s j (Begin scope) = refl
step_plain s j (CursorOpen table low high) = refl
step_plain s j (Gc kind) = λ i. inside (Swept (record { kind = kind; mark = mark s; horizon = mark s; removed = 0; held = held_plain s.opened 1 s.sessions i }))
step_plain s j st = stands_plain s j (s.opened j) st tt

lines_plain : (s : State) (rs : List Record) → map plain (lines_from s rs) ≡ lines_from s rs
lines_plain s [] = refl
lines_plain s (r ∷ rs) = λ i. record { session = r.session; place = r.place; reply = step_plain s r.session r.statement i } ∷ lines_plain (step s r.session r.statement).1 rs i

-- ---- and says of nothing that it was moved

unmoved : (ts : List Told) (earlier : List Said) → map plain_told ts ≡ ts →
    Each (λ (told : Told). MatchBool told.moved (IfSome (open_of told.session earlier) (λ said. IsTrue (is_declared said.scope))) ⊤) ts
unmoved [] earlier e = tt
unmoved (t ∷ ts) earlier e = (
  subst (λ b. MatchBool b (IfSome (open_of t.session earlier) (λ said. IsTrue (is_declared said.scope))) ⊤)
      (ap (λ (x : Told). x.moved) (heads (plain_told t) t (map plain_told ts) ts e)) tt,
  unmoved ts earlier (tails (plain_told t) t (map plain_told ts) ts e),
)
  where
    heads : (x y : Told) (xs ys : List Told) → (x ∷ xs) ≡ (y ∷ ys) → x ≡ y
    heads x y xs ys f = cc

    tails : (x y : Told) (xs ys : List Told) → (x ∷ xs) ≡ (y ∷ ys) → xs ≡ ys
    tails x y xs ys f = cc

moves_none : (earlier : List Said) (a : Answer) → plain_answer a ≡ a →
    IfSome (elim a [ Swept sweep ↦ Some sweep | _ ↦ None ]) (λ sweep. Each
    (λ (told : Told). MatchBool told.moved (IfSome (open_of told.session earlier) (λ said. IsTrue (is_declared said.scope))) ⊤) sweep.held)
moves_none earlier (Swept sweep) e = unmoved sweep.held earlier (ap (λ (x : Sweep). x.held) (same (plain_sweep sweep) sweep e))
  where
    same : (x y : Sweep) → Swept x ≡ Swept y → x ≡ y
    same x y f = cc
moves_none earlier _ e = tt

pub moves_nothing : (earlier : List Said) (s : State) (rs : List Record) → EachAfter MovesDeclared earlier (said_from earlier rs (lines_from s rs))
moves_nothing earlier s [] = tt
moves_nothing earlier s (r ∷ rs) =
    let reply : Reply = (step s r.session r.statement).0 in
    let says = said_says (last_of r.session earlier) r reply r.statement in (
      subst (λ (x : Reply). IfSome (report_of x) (λ sweep. Each
          (λ (told : Told). MatchBool told.moved (IfSome (open_of told.session earlier) (λ said. IsTrue (is_declared said.scope))) ⊤) sweep.held)) (sym says.2)
          (moves_none earlier reply.answer (ap (λ (x : Reply). x.answer) (step_plain s r.session r.statement))),
      moves_nothing (said earlier r reply ∷ earlier) (step s r.session r.statement).1 rs,
    )

pub itself_sound : (script : Script) → AreAnswered (start (greatest (map (λ (r : Record). r.session) script.records))) script.records → LinesAreSound replay script (replayed script)
itself_sound script answered =
    let first : State = start (greatest (map (λ (r : Record). r.session) script.records)) in
    replayed_sound script (replayed script) (lines_plain first script.records) answered (moves_nothing [] first script.records)
