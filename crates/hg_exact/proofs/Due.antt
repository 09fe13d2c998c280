-- Answers that are due, one after the other, and that they are exact where their lines are.
use Rattle.std.proofs.Common.{◌≡◌, ◌∙◌, ℕ, suc, List, [], ◌∷◌, ◌++◌, ◌≤◌, length, map, drop, arith, true, false, Some, None, refl, sym, ap, subst, append_assoc, append-nil}
use Rattle.std.proofs.lemmas.List.{map-append}
use Rattle.hg_base.specs.declared.limits.TheConstants.{MOST_SESSIONS}
use Rattle.hg_base.specs.declared.line.Line.{Line}
use Rattle.hg_base.specs.declared.line.Reply.{Reply}
use Rattle.hg_base.specs.declared.line.Totals.{Totals}
use Rattle.hg_base.specs.declared.statement.Record.{Record}
use Rattle.hg_base.specs.declared.statement.Statement.{Statement}
use Rattle.hg_base.specs.Lists.{greatest}
use Rattle.hg_base.specs.Script.{Script, replay}
use Rattle.hg_base.specs.Sound.{all_said}
use Rattle.hg_script.specs.declared.code.Code.{Code}
use Rattle.hg_script.specs.declared.judge.Judged.TheVariants as says
use Rattle.hg_script.specs.Fields.{Fields}
use Rattle.hg_script.specs.Judging.{IsJudged, Known, script_at}
use Rattle.hg_script.specs.Meaning.{nothing}
use Rattle.hg_talk.specs.Framing as talk
use Rattle.hg_talk.specs.Framing.{Sent}
use Rattle.hg_exact.specs.AnswerText.{plain_answered}
use Rattle.hg_exact.specs.Conversed.{Answered, Course, accepted, answered_from, asks_totals, conversed, counted, course_from, hears, lines_of, taken, unasked}
use Rattle.hg_exact.specs.Conversed.{Declared, Bad, TooLong, Replied, Counted}
use Rattle.hg_exact.specs.Due.{AreDue, AreSoFar, IsDue, IsOneMore, said_so_far}
use Rattle.hg_exact.specs.Replayed.{lines_from, plain, replayed}
use Rattle.hg_exact.specs.SoFar.{made_so_far, plain_totals, totals_so_far, undone_so_far}
use Rattle.hg_exact.specs.State.{start}
use Rattle.hg_exact.proofs.Conversing.{IsCounted, adds, after, answered_more, after_more, after_none, conversed_replayed, course_more, greatest_both, heard, heard_totals, lines_more, lines_next, none_dropped, place_is, rest_dropped}
use Rattle.hg_exact.proofs.FewSessions.{more_sessions}
use Rattle.hg_exact.proofs.Totals.{totals_replayed}

-- ---- one more

more_from : (c : Course) (lines : List Line) (sent : List Sent) (answers : List Answered) (x : Sent) (answer : Answered) → AreDue c lines sent answers →
    IsDue (all_said replay (course_from c sent).script (lines ++ lines_of answers)) (hears (course_from c sent) x).0 answer → AreDue c lines (sent ++ x ∷ []) (answers ++ answer ∷ [])
unfolding AreDue course_from
more_from c lines [] [] x answer so due = (subst (λ ls. IsDue (all_said replay c.script ls) (hears c x).0 answer) (append-nil lines) due, tt)
more_from c lines [] (a ∷ answers) x answer so due = absurd so
more_from c lines (y ∷ sent) [] x answer so due = absurd so
more_from c lines (y ∷ sent) (a ∷ answers) x answer so due = (
  so.0,
  more_from (hears c y).1 (lines ++ lines_of (a ∷ [])) sent answers x answer so.1
      (subst (λ ls. IsDue (all_said replay (course_from (hears c y).1 sent).script ls) (hears (course_from (hears c y).1 sent) x).0 answer)
      (ap (λ ls. lines ++ ls) (lines_next a answers) ∙ sym (append_assoc lines (lines_of (a ∷ [])) (lines_of answers))) due),
)

-- by what is heard of it
one_more : (sent : List Sent) (answers : List Answered) (x : Sent) (due answer : Answered) (script : Script) → AreSoFar sent answers → (hears (course_from unasked sent) x).0 ≡ due →
    (hears (course_from unasked sent) x).1.script ≡ script → IsDue (said_so_far sent answers) due answer → IsOneMore sent answers x answer script
one_more sent answers x due answer script so is made here = record {
  due = more_from unasked [] sent answers x answer so (subst (λ a. IsDue (said_so_far sent answers) a answer) (sym is) here);
  script_is = ap (λ (c : Course). c.script) (course_more unasked sent x) ∙ made;
}

pub due_none : AreSoFar [] [] × (accepted [] ≡ nothing)
unfolding AreDue course_from
due_none = (tt, refl)

pub due_long : (sent : List Sent) (answers : List Answered) → AreSoFar sent answers → IsOneMore sent answers talk.Long (TooLong (suc (length sent))) (accepted sent)
due_long sent answers so = one_more sent answers talk.Long (TooLong (suc (length sent))) (TooLong (suc (length sent))) (accepted sent) so (ap (λ n. TooLong (suc n)) (place_is sent)) refl refl

pub due_totals : (sent : List Sent) (answers : List Answered) (r : Fields) (t : Totals) → AreSoFar sent answers → asks_totals r ≡ true →
    t.made ≡ made_so_far (said_so_far sent answers) → t.undone ≡ undone_so_far (said_so_far sent answers) → IsOneMore sent answers (talk.Record r) (Counted t) (accepted sent)
due_totals sent answers r t so asks made undone =
    let c : Course = course_from unasked sent in
    let is = heard_totals c r asks in
    one_more sent answers (talk.Record r) (counted c).0 (Counted t) (accepted sent) so (ap (λ p. p.0) is) (ap (λ p. p.1.script) is)
    (t, refl, λ i. record { made = made i; undone = undone i; group = 0; table = 0; interval = 0; left = 0 })

bad_at : (sent : List Sent) (answers : List Answered) (r : Fields) (code : Code) (new : Known) → AreSoFar sent answers → asks_totals r ≡ false →
    IsJudged (suc (course_from unasked sent).place) (accepted sent) r (says.Broken code) new → IsOneMore sent answers (talk.Record r) (Bad (suc (course_from unasked sent).place) code) (accepted sent)
bad_at sent answers r code new so asks j =
    let c : Course = course_from unasked sent in
    let is = heard c r (Some code) asks j.0 in
    one_more sent answers (talk.Record r) (Bad (suc c.place) code) (Bad (suc c.place) code) (accepted sent) so (ap (λ p. p.0) is) (ap (λ p. p.1.script) is) refl

pub due_bad : (sent : List Sent) (answers : List Answered) (r : Fields) (code : Code) (new : Known) → AreSoFar sent answers → asks_totals r ≡ false →
    IsJudged (suc (length sent)) (accepted sent) r (says.Broken code) new → IsOneMore sent answers (talk.Record r) (Bad (suc (length sent)) code) (accepted sent)
due_bad sent answers r code new so asks =
    subst (λ n. IsJudged (suc n) (accepted sent) r (says.Broken code) new → IsOneMore sent answers (talk.Record r) (Bad (suc n) code) (accepted sent)) (place_is sent)
    (bad_at sent answers r code new so asks)

declared_at : (sent : List Sent) (answers : List Answered) (r : Fields) (new : Known) → AreSoFar sent answers → asks_totals r ≡ false →
    IsJudged (suc (course_from unasked sent).place) (accepted sent) r says.Declared new →
    IsOneMore sent answers (talk.Record r) (Declared (suc (course_from unasked sent).place)) (script_at (suc (course_from unasked sent).place) (accepted sent) r)
declared_at sent answers r new so asks j =
    let c : Course = course_from unasked sent in
    let script : Script = script_at (suc c.place) c.script r in
    let is : hears c (talk.Record r) ≡ taken c script [] = heard c r None asks j.0 ∙ ap (taken c script) (ap (drop (length c.script.records)) j.2 ∙ none_dropped c.script.records) in
    one_more sent answers (talk.Record r) (Declared (suc c.place)) (Declared (suc c.place)) script so (ap (λ p. p.0) is) (ap (λ p. p.1.script) is) refl

pub due_declared : (sent : List Sent) (answers : List Answered) (r : Fields) (new : Known) → AreSoFar sent answers → asks_totals r ≡ false →
    IsJudged (suc (length sent)) (accepted sent) r says.Declared new →
    IsOneMore sent answers (talk.Record r) (Declared (suc (length sent))) (script_at (suc (length sent)) (accepted sent) r)
due_declared sent answers r new so asks =
    subst (λ n. IsJudged (suc n) (accepted sent) r says.Declared new → IsOneMore sent answers (talk.Record r) (Declared (suc n)) (script_at (suc n) (accepted sent) r)) (place_is sent)
    (declared_at sent answers r new so asks)

replied_at : (sent : List Sent) (answers : List Answered) (r : Fields) (session : ℕ) (statement : Statement) (new : Known) (reply : Reply) → AreSoFar sent answers → asks_totals r ≡ false →
    IsJudged (suc (course_from unasked sent).place) (accepted sent) r (says.Asked session statement) new →
    IsOneMore sent answers (talk.Record r)
    (Replied (script_at (suc (course_from unasked sent).place) (accepted sent) r).tables (record { session = session; place = suc (course_from unasked sent).place; reply = reply }))
    (script_at (suc (course_from unasked sent).place) (accepted sent) r)
replied_at sent answers r session statement new reply so asks j =
    let c : Course = course_from unasked sent in
    let script : Script = script_at (suc c.place) c.script r in
    let one : Record = record { place = suc c.place; session = session; statement = statement } in
    let is : hears c (talk.Record r) ≡ taken c script (one ∷ []) =
    heard c r None asks j.0 ∙ ap (taken c script) (ap (λ (t : Script). drop (length c.script.records) t.records) j.2 ∙ rest_dropped c.script.records (one ∷ [])) in
    one_more sent answers (talk.Record r) (taken c script (one ∷ [])).0 (Replied script.tables (record { session = session; place = suc c.place; reply = reply })) script so
    (ap (λ p. p.0) is) (ap (λ p. p.1.script) is) (reply, refl)

pub due_replied : (sent : List Sent) (answers : List Answered) (r : Fields) (session : ℕ) (statement : Statement) (new : Known) (reply : Reply) → AreSoFar sent answers → asks_totals r ≡ false →
    IsJudged (suc (length sent)) (accepted sent) r (says.Asked session statement) new →
    IsOneMore sent answers (talk.Record r) (Replied (script_at (suc (length sent)) (accepted sent) r).tables (record { session = session; place = suc (length sent); reply = reply }))
    (script_at (suc (length sent)) (accepted sent) r)
due_replied sent answers r session statement new reply so asks =
    subst (λ n. IsJudged (suc n) (accepted sent) r (says.Asked session statement) new →
    IsOneMore sent answers (talk.Record r) (Replied (script_at (suc n) (accepted sent) r).tables (record { session = session; place = suc n; reply = reply })) (script_at (suc n) (accepted sent) r))
    (place_is sent) (replied_at sent answers r session statement new reply so asks)

-- ---- exact

-- the state is the one after the script's statements, each of a session that there is
record Keeps (c : Course) : Type 0 where
  pub state : c.state ≡ after (start MOST_SESSIONS) c.script.records
  pub most : greatest (map (λ (r : Record). r.session) c.script.records) ≤ MOST_SESSIONS

keeps_none : Keeps unasked
keeps_none = record { state = sym (after_none (start MOST_SESSIONS)); most = omega arith }

keeps_more : (c : Course) (x : Sent) → Keeps c → Keeps (hears c x).1
keeps_more c x k =
    let one = adds c x in
    record {
      state = one.state ∙ ap (λ s. after s one.added) k.state ∙ sym (after_more (start MOST_SESSIONS) c.script.records one.added) ∙ ap (after (start MOST_SESSIONS)) (sym one.records);
      most = subst (λ rs. greatest (map (λ (r : Record). r.session) rs) ≤ MOST_SESSIONS) (sym one.records) (greatest_both MOST_SESSIONS c.script.records one.added k.most one.most);
    }

-- an answer that is due is exact, if the lines before it and its own are
record Exact (due answer : Answered) (rest more : List Answered) : Type 0 where
  pub same : plain_answered answer ≡ due
  pub line : map plain (lines_of (answer ∷ [])) ≡ lines_of (due ∷ [])
  pub lines : map plain (lines_of more) ≡ lines_of rest

exact_same : (due answer : Answered) (rest more : List Answered) → answer ≡ due → plain_answered due ≡ due → ((a : List Answered) → lines_of (due ∷ a) ≡ lines_of a) →
    map plain (lines_of (answer ∷ more)) ≡ lines_of (due ∷ rest) → Exact due answer rest more
exact_same due answer rest more is plain_is none lines = record {
  same = ap plain_answered is ∙ plain_is;
  line = ap (λ a. map plain (lines_of (a ∷ []))) is ∙ ap (map plain) (none []) ∙ sym (none []);
  lines = ap (map plain) (sym (none more)) ∙ sym (ap (λ a. map plain (lines_of (a ∷ more))) is) ∙ lines ∙ none rest;
}

exact_one : (c : Course) (lines : List Line) (due answer : Answered) (rest more : List Answered) → IsDue (all_said replay c.script lines) due answer → IsCounted c due →
    map plain lines ≡ replayed c.script → map plain (lines_of (answer ∷ more)) ≡ lines_of (due ∷ rest) → Exact due answer rest more
exact_one c lines (Declared place) answer rest more is counts before after = exact_same (Declared place) answer rest more is refl (λ a. refl) after
exact_one c lines (Bad place code) answer rest more is counts before after = exact_same (Bad place code) answer rest more is refl (λ a. refl) after
exact_one c lines (TooLong place) answer rest more is counts before after = exact_same (TooLong place) answer rest more is refl (λ a. refl) after
exact_one c lines (Replied tables line) answer rest more is counts before after =
    let mine : Line = record { session = line.session; place = line.place; reply = is.0 } in
    let all : plain mine ∷ map plain (lines_of more) ≡ line ∷ lines_of rest = sym (ap (λ a. map plain (lines_of (a ∷ more))) is.1) ∙ after in
    let first : plain mine ≡ line = cc all in
    record {
      same = ap plain_answered is.1 ∙ ap (Replied tables) first;
      line = ap (λ a. map plain (lines_of (a ∷ []))) is.1 ∙ ap (λ l. l ∷ []) first;
      lines = cc all;
    }
exact_one c lines (Counted totals) answer rest more is counts before after = record {
  same = ap plain_answered is.1 ∙ ap Counted (is.2 ∙ totals_replayed c.script lines before ∙ sym counts);
  line = ap (λ a. map plain (lines_of (a ∷ []))) is.1;
  lines = sym (ap (λ a. map plain (lines_of (a ∷ more))) is.1) ∙ after;
}

-- the lines after one record more
lines_then : (c : Course) (x : Sent) (lines : List Line) → Keeps c → lines ≡ lines_from (start MOST_SESSIONS) c.script.records →
    lines ++ lines_of ((hears c x).0 ∷ []) ≡ lines_from (start MOST_SESSIONS) (hears c x).1.script.records
lines_then c x lines k before =
    let one = adds c x in
    ap (λ ls. ls ++ lines_of ((hears c x).0 ∷ [])) before ∙ ap (λ ls. lines_from (start MOST_SESSIONS) c.script.records ++ ls) (one.lines ∙ ap (λ s. lines_from s one.added) k.state) ∙
    sym (lines_more (start MOST_SESSIONS) c.script.records one.added) ∙ ap (lines_from (start MOST_SESSIONS)) (sym one.records)

exact_from : (c : Course) (lines : List Line) (sent : List Sent) (answers : List Answered) → Keeps c → AreDue c lines sent answers →
    map plain lines ≡ lines_from (start MOST_SESSIONS) c.script.records → map plain (lines_of answers) ≡ lines_of (answered_from c sent) → map plain_answered answers ≡ answered_from c sent
unfolding AreDue answered_from
exact_from c lines [] [] k due before later = refl
exact_from c lines [] (a ∷ answers) k due before later = absurd due
exact_from c lines (x ∷ sent) [] k due before later = absurd due
exact_from c lines (x ∷ sent) (a ∷ answers) k due before later =
    let one = adds c x in
    let here = exact_one c lines (hears c x).0 a (answered_from (hears c x).1 sent) answers due.0 one.totals (before ∙ more_sessions MOST_SESSIONS c.script.records k.most) later in
    let next : map plain (lines ++ lines_of (a ∷ [])) ≡ lines_from (start MOST_SESSIONS) (hears c x).1.script.records =
    map-append plain lines (lines_of (a ∷ [])) ∙ ap (λ ls. map plain lines ++ ls) here.line ∙ lines_then c x (map plain lines) k before in
    λ i. here.same i ∷ exact_from (hears c x).1 (lines ++ lines_of (a ∷ [])) sent answers (keeps_more c x k) due.1 next here.lines i

pub due_exact : (sent : List Sent) (answers : List Answered) → AreSoFar sent answers → map plain (lines_of answers) ≡ replayed (accepted sent) → map plain_answered answers ≡ conversed sent
due_exact sent answers so lines = exact_from unasked [] sent answers keeps_none so refl (lines ∙ sym (conversed_replayed sent))

-- ---- what is conversed is due

-- totals that are asked for are those of the lines so far
pub totals_asked : (sent : List Sent) (r : Fields) → asks_totals r ≡ true →
    conversed (sent ++ talk.Record r ∷ []) ≡ conversed sent ++ Counted (totals_so_far (said_so_far sent (conversed sent))) ∷ []
totals_asked sent r asks =
    answered_more unasked sent (talk.Record r) ∙ ap (λ p. conversed sent ++ p.0 ∷ []) (heard_totals (course_from unasked sent) r asks) ∙
    ap (λ lines. conversed sent ++ Counted (totals_so_far (all_said replay (accepted sent) lines)) ∷ []) (sym (conversed_replayed sent))

due_itself : (c : Course) (lines : List Line) (due : Answered) → IsCounted c due → lines ≡ replayed c.script → IsDue (all_said replay c.script lines) due due
due_itself c lines (Declared place) counts before = refl
due_itself c lines (Bad place code) counts before = refl
due_itself c lines (TooLong place) counts before = refl
due_itself c lines (Replied tables line) counts before = (line.reply, refl)
due_itself c lines (Counted totals) counts before = (totals, refl, ap plain_totals counts ∙ ap (λ ls. totals_so_far (all_said replay c.script ls)) (sym before))

itself_from : (c : Course) (lines : List Line) (sent : List Sent) → Keeps c → lines ≡ lines_from (start MOST_SESSIONS) c.script.records → AreDue c lines sent (answered_from c sent)
unfolding AreDue answered_from
itself_from c lines [] k before = tt
itself_from c lines (x ∷ sent) k before =
    let one = adds c x in (
      due_itself c lines (hears c x).0 one.totals (before ∙ more_sessions MOST_SESSIONS c.script.records k.most),
      itself_from (hears c x).1 (lines ++ lines_of ((hears c x).0 ∷ [])) sent (keeps_more c x k) (lines_then c x lines k before),
    )

pub due_conversed : (sent : List Sent) → AreSoFar sent (conversed sent)
due_conversed sent = itself_from unasked [] sent keeps_none refl
