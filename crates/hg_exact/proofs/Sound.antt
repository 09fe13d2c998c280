-- Lines that are replayed, but for what their reports say was removed and moved, are sound.
use Rattle.std.proofs.Common.{◌≡◌, ℕ, ◌≤◌, List, [], ◌∷◌, ◌++◌, map, Bool, true, false, Option, Some, None, refl, sym, ap, ◌∙◌, subst, arith, append_assoc}
use Rattle.std.specs.Prelude.{◌==◌, ⊤}
use Rattle.std.specs.Bool.{MatchBool}
use Rattle.std.proofs.lemmas.Bool.Decides.{nat_tests}
use Rattle.hg_base.specs.declared.statement.Record.{Record}
use Rattle.hg_base.specs.declared.statement.Statement.{Statement}
use Rattle.hg_base.specs.declared.statement.Statement.TheVariants.{Begin, CursorOpen, Gc}
use Rattle.hg_base.specs.declared.line.Line.{Line}
use Rattle.hg_base.specs.declared.line.Reply.{Reply}
use Rattle.hg_base.specs.Lists.{Each, EachAfter, greatest, onto}
use Rattle.hg_base.specs.Script.{Script, replay}
use Rattle.hg_base.specs.Shape.{HasShape, IsLineOf, IsReportOf}
use Rattle.hg_base.specs.Sound.{AreRight, LinesAreSound, all_said}
use Rattle.hg_base.specs.Transcript.{Said, said, said_from}
use Rattle.hg_base.proofs.ListFacts.{append_nil, each_keeps}
use Rattle.hg_exact.specs.State.{Open, State, start}
use Rattle.hg_exact.specs.Lawful.{AreAnswered, MovesDeclared}
use Rattle.hg_exact.specs.Replayed.{lines_from, plain, replayed, stands, step}
use Rattle.hg_exact.proofs.Counting.{counts_nothing}
use Rattle.hg_exact.proofs.Keeping.{kept_nothing}
use Rattle.hg_exact.proofs.Standing.{shows_nothing}
use Rattle.hg_exact.proofs.Known.{Knows, given, onto_snoc}
use Rattle.hg_exact.proofs.Stepping.{step_line}

pub knows_nothing : (b : Bool) (sessions : ℕ) → Knows b [] (start sessions)
knows_nothing b sessions = record {
  history = refl;
  right = given b (record { whole = record { numbers = tt; history = tt }; kept = tt; lines = tt });
  shows = shows_nothing;
  kept = kept_nothing sessions;
  counts = counts_nothing;
  begun = λ j q e. absurd (let bad : None ≡ Some q = e in none_some q bad);
  within = tt;
}
  where
    none_some : (q : Said) → None ≡ Some q → ⊥
    none_some q e = cc

-- a step leaves as many sessions
stands_sessions : (s : State) (j : ℕ) (x : Option Open) (st : Statement) → (stands s j x st).1.sessions ≡ s.sessions
stands_sessions s j None st = refl
stands_sessions s j (Some o) st = refl

pub step_sessions : (s : State) (j : ℕ) (st : Statement) → (step s j st).1.sessions ≡ s.sessions
step_sessions s j (Begin scope) = refl
step_sessions s j (CursorOpen table low high) = refl
step_sessions s j (Gc kind) = refl
step_sessions s j st = stands_sessions s j (s.opened j) st

-- ---- line by line

cons_heads : {X : Type 0} (x y : X) (xs ys : List X) → (x ∷ xs) ≡ (y ∷ ys) → x ≡ y
cons_heads x y xs ys e = cc

cons_tails : {X : Type 0} (x y : X) (xs ys : List X) → (x ∷ xs) ≡ (y ∷ ys) → xs ≡ ys
cons_tails x y xs ys e = cc

line_is : (r : Record) (line : Line) (reply : Reply) → 1 ≤ r.session → plain line ≡ record { session = r.session; place = r.place; reply = reply } → IsLineOf r line
line_is r line reply some e = record {
  session = ap (λ (l : Line). l.session) e;
  place = ap (λ (l : Line). l.place) e;
  report = subst (λ b. MatchBool b (IsReportOf r.statement line.reply.answer) ⊤) (sym zero_not) tt;
}
  where
    zero_not : (r.session == 0) ≡ false
    zero_not = grind (arith, nat_tests)

pub lines_right : (all : List Said) (s : State) (rs : List Record) (lines : List Line) → Knows true all s → map plain lines ≡ lines_from s rs → AreAnswered s rs →
    Each (λ (r : Record). r.session ≤ s.sessions) rs → EachAfter MovesDeclared (onto all []) (said_from (onto all []) rs lines) → HasShape rs lines ×
    AreRight replay (all ++ said_from (onto all []) rs lines)
lines_right all s [] [] knows e answered within moves = (tt, subst (AreRight replay) (sym (append_nil all)) knows.right)
lines_right all s [] (line ∷ lines) knows e answered within moves = absurd (no_line (plain line) (map plain lines) e)
  where
    no_line : (l : Line) (ls : List Line) → (l ∷ ls) ≡ [] → ⊥
    no_line l ls f = cc
lines_right all s (r ∷ rs) [] knows e answered within moves = absurd (no_line _ _ e)
  where
    no_line : (l : Line) (ls : List Line) → [] ≡ (l ∷ ls) → ⊥
    no_line l ls f = cc
lines_right all s (r ∷ rs) (line ∷ lines) knows e answered within moves =
    let st : Statement = r.statement in
    let after : State = (step s r.session st).1 in
    let first = cons_heads _ _ _ _ e in
    let now : Said = said (onto all []) r line.reply in
    let next : Knows true (all ++ now ∷ []) after = step_line true all s knows r.place r.session answered.0 within.0 st answered.1 line.reply (ap (λ (l : Line). l.reply) first) moves.0 in
    let back : now ∷ onto all [] ≡ onto (all ++ now ∷ []) [] = sym (onto_snoc all [] now) in
    let later = lines_right (all ++ now ∷ []) after rs lines next (cons_tails _ _ _ _ e) answered.2
    (each_keeps (λ (q : Record). q.session ≤ s.sessions) (λ q. q.session ≤ after.sessions) (λ q k. subst (λ n. q.session ≤ n) (sym (step_sessions s r.session st)) k) rs within.1)
    (subst (λ l. EachAfter MovesDeclared l (said_from l rs lines)) back moves.1) in (
      (line_is r line (step s r.session st).0 answered.0 first, later.0),
      subst (AreRight replay) (append_assoc all (now ∷ []) (said_from (onto (all ++ now ∷ []) []) rs lines) ∙ ap (λ l. all ++ now ∷ said_from l rs lines) (sym back)) later.1,
    )

-- ---- all lines

pub each_most : (rs : List Record) (n : ℕ) → greatest (map (λ (r : Record). r.session) rs) ≤ n → Each (λ (r : Record). r.session ≤ n) rs
each_most [] n k = tt
each_most (r ∷ rs) n k = (omega (arith, k), each_most rs n (omega (arith, k)))

pub replayed_sound : (script : Script) (lines : List Line) → map plain lines ≡ replayed script →
    AreAnswered (start (greatest (map (λ (r : Record). r.session) script.records))) script.records → EachAfter MovesDeclared [] (all_said replay script lines) → LinesAreSound replay script lines
replayed_sound script lines e answered moves =
    let top : ℕ = greatest (map (λ (r : Record). r.session) script.records) in
    let is = lines_right [] (start top) script.records lines (knows_nothing true top) e answered (each_most script.records top (omega arith)) moves in
    record { shape = is.0; right = is.1 }
