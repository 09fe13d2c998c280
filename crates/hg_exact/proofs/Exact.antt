-- A sound text whose lines have their first causes is the one that is replayed.
use Rattle.std.proofs.Common.{◌≡◌, ℕ, suc, ◌≤◌, List, [], ◌∷◌, ◌++◌, map, max, true, false, Option, Some, None, refl, sym, ap, ◌∙◌, subst, arith, append_assoc}
use Rattle.std.specs.Prelude.{filter_map, nat_lt, option_map, IfSome}
use Rattle.std.proofs.lemmas.Bool.Decides.{nat_tests}
use Rattle.hg_base.specs.declared.statement.Record.{Record}
use Rattle.hg_base.specs.declared.statement.Statement.{Statement}
use Rattle.hg_base.specs.declared.statement.Statement.TheVariants.{Begin, CursorOpen, Fetch, Gc}
use Rattle.hg_base.specs.declared.line.Reply.{Reply}
use Rattle.hg_base.specs.declared.line.Line.{Line}
use Rattle.hg_base.specs.Lists.{Each, EachAfter, greatest, onto}
use Rattle.hg_base.specs.Script.{Script, replay}
use Rattle.hg_base.specs.Sound.{IsRight, LinesAreSound, all_said}
use Rattle.hg_base.specs.History.{History}
use Rattle.hg_base.specs.Transcript.{Said, commit_by, committed, history_of, greatest_commit, last_of, next_after, only, open_of}
use Rattle.hg_base.specs.Transcript.{said, said_from, standing, table_of}
use Rattle.hg_base.specs.Shape.{HasShape, IsLineOf}
use Rattle.hg_base.specs.Replies.{IsReply}
use Rattle.hg_base.specs.Conflicts.{ShowsConflict}
use Rattle.hg_base.specs.Freshness.{IsExact}
use Rattle.hg_base.proofs.Growth.{history_next_of, history_same}
use Rattle.hg_base.proofs.ListFacts.{append_nil, each_keeps}
use Rattle.hg_headline.proofs.Commits.{picked_onto}
use Rattle.hg_exact.specs.State.{Open, State, next, start}
use Rattle.hg_exact.specs.First.{IsFirst}
use Rattle.hg_exact.proofs.Numbering.{IsNext, all_next}
use Rattle.hg_exact.specs.Lawful.{AreAnswered, MayAsk}
use Rattle.hg_exact.specs.Replayed.{lines_from, plain, plain_reply, replayed, stands, step}
use Rattle.hg_exact.proofs.Answering.{IsPlain}
use Rattle.hg_exact.proofs.Standing.{last_some, open_as, opened_last}
use Rattle.hg_exact.proofs.Known.{Knows, no_said, onto_snoc, said_same}
use Rattle.hg_exact.proofs.Stepping.{step_line}
use Rattle.hg_exact.proofs.Sound.{each_most, knows_nothing, step_sessions}
use Rattle.hg_exact.proofs.Unended.{Ended, ended_nothing, ended_line, ended_beside}
use Rattle.hg_exact.proofs.ExactLines.{begun_exact, round_exact, within_exact, alone_exact}

module _ (all : List Said) (s : State) (knows : Knows false all s) (ended : Ended (onto all [])) (place j : ℕ) (h : History) (more : History) (longer : h ≡ s.history ++ more) where
  abbrev earlier : List Said
  earlier = onto all []

  abbrev asked : Statement → Record
  asked st = record { place = place; session = j; statement = st }

  -- any line
  abbrev as_line : Statement → Reply → Option Said → Said
  as_line st reply y = standing y (next_after (last_of j earlier)) (asked st) reply

  abbrev Whole : List Said → Statement → Reply → Option Open → Type 0
  Whole all' st reply x =
      let now : Said = as_line st reply (open_of j earlier) in
      MayAsk x st → IsReply replay h earlier now → ShowsConflict replay h all' earlier now → IsExact earlier now → IsNext h earlier now → plain_reply reply ≡ (stands s j x st).0

  abbrev Numbered : List Said → Statement → Reply → ℕ → Type 0
  Numbered all' st reply n =
      let now : Said = standing None n (asked st) reply in
      IsReply replay h earlier now → ShowsConflict replay h all' earlier now → IsExact earlier now → IsNext h earlier now → plain_reply reply ≡ (stands s j None st).0

  stands_exact : (all' : List Said) (st : Statement) → IsPlain st → MayAsk (s.opened j) st → (reply : Reply) →
      let now : Said = standing (open_of j earlier) (next_after (last_of j earlier)) (asked st) reply in
      IsReply replay h earlier now → ShowsConflict replay h all' earlier now → IsExact earlier now → IsNext h earlier now → plain_reply reply ≡ (stands s j (s.opened j) st).0
  stands_exact all' st plain may reply right shows exact first =
      subst (Whole all' st reply) (sym (knows.shows.opened j)) (go (open_of j earlier) refl) may right shows exact first
    where
      no_fetch : (it : Statement) → IsPlain it → MayAsk None it → MayAsk (Some (next s j (only (table_of it)) None)) it
      no_fetch (Fetch n) p m = absurd m
      no_fetch (Begin scope) p m = absurd p
      no_fetch (CursorOpen table low high) p m = absurd p
      no_fetch _ p m = tt

      go : (y : Option Said) → open_of j earlier ≡ y → MayAsk (option_map (open_as j earlier) y) st → IsReply replay h earlier (as_line st reply y) →
          ShowsConflict replay h all' earlier (as_line st reply y) → IsExact earlier (as_line st reply y) → IsNext h earlier (as_line st reply y) →
          plain_reply reply ≡ (stands s j (option_map (open_as j earlier) y) st).0
      go None g m a b c d = subst (Numbered all' st reply) (sym (knows.shows.begun j))
          (alone_exact all s knows ended place j h more longer all' g st plain (no_fetch st plain m) reply.at reply.answer reply.number) a b c d
      go (Some q) g m a b c d = within_exact all s knows ended place j h more longer all' q g st plain m reply a b c d

  pub step_exact : (all' : List Said) (st : Statement) → MayAsk (s.opened j) st → (reply : Reply) → let now : Said = said earlier (asked st) reply in
      IsReply replay h earlier now → ShowsConflict replay h all' earlier now → IsExact earlier now → IsNext h earlier now → plain_reply reply ≡ (step s j st).0
  step_exact all' (Begin scope) may reply right shows exact first =
      begun_exact all s knows ended place j h more longer reply.at reply.answer reply.number right.at right.number right.answer exact.snapshot
  step_exact all' (CursorOpen table low high) may reply right shows exact first =
      begun_exact all s knows ended place j h more longer reply.at reply.answer reply.number right.at right.number right.answer exact.snapshot
  step_exact all' (Gc kind) may reply right shows exact first =
      round_exact all s knows ended place j h more longer kind reply.at reply.answer reply.number right.at right.number right.answer exact.report
  step_exact all' st may reply right shows exact first = stands_exact all' st tt may reply right shows exact first

  -- what was ended and what is open, with the line
  some_next : nat_lt 0 (next_after (last_of j earlier)) ≡ true
  some_next = ap (nat_lt 0) (knows.shows.begun j) ∙ (let n : ℕ = s.begun j in grind (arith, nat_tests))

  none_open : (st : Statement) → ((o : Open) → MayAsk (Some o) st → ⊥) → MayAsk (s.opened j) st → (q : Said) → open_of j earlier ≡ Some q → ⊥
  none_open st never may q e = never (open_as j earlier q) (subst (λ x. MayAsk x st) (knows.shows.opened j ∙ ap (option_map (open_as j earlier)) e) may)

  pub step_ended : (st : Statement) → MayAsk (s.opened j) st → (reply : Reply) → Ended (said earlier (asked st) reply ∷ earlier)
  step_ended (Begin scope) may reply = ended_line j earlier (said earlier (asked (Begin scope)) reply) refl some_next (λ q e. absurd (none_open (Begin scope) (λ o m. m) may q e)) ended
  step_ended (CursorOpen table low high) may reply = ended_line j earlier (said earlier (asked (CursorOpen table low high)) reply) refl some_next
      (λ q e. absurd (none_open (CursorOpen table low high) (λ o m. m) may q e)) ended
  step_ended (Gc kind) may reply = ended_beside j earlier (said earlier (asked (Gc kind)) reply) refl refl refl ended
  step_ended st may reply = go (open_of j earlier) refl
    where
      go : (y : Option Said) → open_of j earlier ≡ y → Ended (standing y (next_after (last_of j earlier)) (asked st) reply ∷ earlier)
      go None e = ended_line j earlier (standing None (next_after (last_of j earlier)) (asked st) reply) refl some_next (λ q f. absurd (no_said q (sym e ∙ f))) ended
      go (Some p) e = ended_line j earlier (standing (Some p) (next_after (last_of j earlier)) (asked st) reply) refl
          (last_some j earlier p (opened_last j earlier s.begun s.opened knows.shows p e)) (λ q f. ap (λ (x : Said). x.transaction) (said_same q p (sym f ∙ e))) ended

-- ---- the history goes on

greatest_onto : (ns ms : List ℕ) → greatest (onto ns ms) ≡ max (greatest ns) (greatest ms)
greatest_onto [] ms = omega arith
greatest_onto (n ∷ ns) ms = greatest_onto ns (n ∷ ms) ∙ turned n (greatest ns) (greatest ms)
  where
    turned : (a b c : ℕ) → max b (max a c) ≡ max (max a b) c
    turned a b c = omega arith

same_mark : (all : List Said) → greatest_commit (onto all []) ≡ greatest_commit all
same_mark all = ap greatest (picked_onto committed all []) ∙ greatest_onto (filter_map committed all) [] ∙ zero_right (greatest_commit all)
  where
    zero_right : (n : ℕ) → max n 0 ≡ n
    zero_right n = omega arith

goes_on : (h : History) (all rest : List Said) → EachAfter (IsNext h) (onto all []) rest → (more : History) × (history_of (all ++ rest) ≡ history_of all ++ more)
goes_on h all [] first = ([], ap history_of (append_nil all) ∙ sym (append_nil (history_of all)))
goes_on h all (x ∷ rest) first =
    let later = goes_on h (all ++ x ∷ []) rest (subst (λ l. EachAfter (IsNext h) l rest) (sym (onto_snoc all [] x)) first.1) in
    let split : history_of (all ++ x ∷ rest) ≡ history_of (all ++ x ∷ []) ++ later.0 = ap history_of (sym (append_assoc all (x ∷ []) rest)) ∙ later.1 in
    go (committed x) refl first.0.number later.0 split
  where
    go : (o : Option ℕ) → committed x ≡ o → IfSome o (λ c. c ≡ suc (greatest_commit (onto all []))) → (k : History) → history_of (all ++ x ∷ rest) ≡ history_of (all ++ x ∷ []) ++ k
        → (more : History) × (history_of (all ++ x ∷ rest) ≡ history_of all ++ more)
    go None e f k g = (k, g ∙ ap (λ l. l ++ k) (history_same all x e))
    go (Some c) e f k g =
        let next : committed x ≡ Some (suc (greatest_commit all)) = e ∙ ap Some (f ∙ ap suc (same_mark all)) in
        ((commit_by (onto all []) x ∷ []) ∷ k, g ∙ ap (λ l. l ++ k) (history_next_of all x next) ∙ append_assoc (history_of all) ((commit_by (onto all []) x ∷ []) ∷ []) k)

-- ---- all lines

line_plain : (r : Record) (line : Line) (reply : Reply) → IsLineOf r line → plain_reply line.reply ≡ reply → plain line ≡ record { session = r.session; place = r.place; reply = reply }
line_plain r line reply is e = λ i. record { session = is.session i; place = is.place i; reply = e i }

pub lines_exact : (h : History) (final : List Said) (all : List Said) (s : State) (rs : List Record) (lines : List Line) → Knows false all s → Ended (onto all []) →
    let rest : List Said = said_from (onto all []) rs lines in h ≡ history_of (all ++ rest) → HasShape rs lines → EachAfter (IsRight replay h final) (onto all []) rest →
    EachAfter (IsNext h) (onto all []) rest → AreAnswered s rs → Each (λ (r : Record). r.session ≤ s.sessions) rs → map plain lines ≡ lines_from s rs
lines_exact h final all s [] [] knows ended is shape right first answered within = refl
lines_exact h final all s [] (line ∷ lines) knows ended is shape right first answered within = absurd shape
lines_exact h final all s (r ∷ rs) [] knows ended is shape right first answered within = absurd shape
lines_exact h final all s (r ∷ rs) (line ∷ lines) knows ended is shape right first answered within =
    let st : Statement = r.statement in
    let now : Said = said (onto all []) r line.reply in
    let after : State = (step s r.session st).1 in
    let back : now ∷ onto all [] ≡ onto (all ++ now ∷ []) [] = sym (onto_snoc all [] now) in
    let on = goes_on h all (said_from (onto all []) (r ∷ rs) (line ∷ lines)) first in
    let longer : h ≡ s.history ++ on.0 = is ∙ on.1 ∙ ap (λ k. k ++ on.0) knows.history in
    let here : plain_reply line.reply ≡ (step s r.session st).0 = step_exact all s knows ended r.place r.session h on.0 longer final st answered.1 line.reply right.0.reply
    right.0.conflict right.0.fresh.exact first.0 in
    let next : Knows false (all ++ now ∷ []) after = step_line false all s knows r.place r.session answered.0 within.0 st answered.1 line.reply here tt in
    let done : Ended (onto (all ++ now ∷ []) []) = subst Ended back (step_ended all s knows ended r.place r.session h on.0 longer st answered.1 line.reply) in
    let whole : h ≡ history_of ((all ++ now ∷ []) ++ said_from (onto (all ++ now ∷ []) []) rs lines) = is ∙
    ap history_of (sym (append_assoc all (now ∷ []) (said_from (now ∷ onto all []) rs lines)) ∙ ap (λ l. (all ++ now ∷ []) ++ said_from l rs lines) back) in
    let later = lines_exact h final (all ++ now ∷ []) after rs lines next done whole shape.1
    (subst (λ l. EachAfter (IsRight replay h final) l (said_from l rs lines)) back right.1)
    (subst (λ l. EachAfter (IsNext h) l (said_from l rs lines)) back first.1)
    answered.2
    (each_keeps (λ (q : Record). q.session ≤ s.sessions) (λ q. q.session ≤ after.sessions) (λ q k. subst (λ n. q.session ≤ n) (sym (step_sessions s r.session st)) k) rs within.1) in
    (λ i. line_plain r line (step s r.session st).0 shape.0 here i ∷ later i)

pub sound_exact : (script : Script) (lines : List Line) → LinesAreSound replay script lines →
    EachAfter (IsFirst (history_of (all_said replay script lines))) [] (all_said replay script lines) →
    AreAnswered (start (greatest (map (λ (r : Record). r.session) script.records))) script.records → map plain lines ≡ replayed script
sound_exact script lines sound first answered =
    let top : ℕ = greatest (map (λ (r : Record). r.session) script.records) in
    let all : List Said = all_said replay script lines in
    lines_exact (history_of all) all [] (start top) script.records lines (knows_nothing false top) ended_nothing refl sound.shape sound.right.lines
    (all_next all sound.right.whole first) answered (each_most script.records top (omega arith))
