-- A conversation, record by record.
use Rattle.std.proofs.Common.{◌≡◌, inl, ℕ, suc, ◌<◌, List, [], ◌∷◌, ◌++◌, length, map, take, None, refl, sym, ap, ◌∙◌, subst, arith, append-nil}
use Rattle.std.specs.Prelude.{get_or, is_some, IfErr, Result, Ok, Err}
use Rattle.std.specs.Result.{IsErrAnd}
use Rattle.std.proofs.lemmas.List.{length-map, length_push, map-append}
use Rattle.hg_base.specs.declared.statement.Statement.{Statement}
use Rattle.hg_base.specs.declared.line.Line.{Line}
use Rattle.hg_base.specs.declared.line.Reply.{Reply}
use Rattle.hg_base.specs.Lists.{Each}
use Rattle.hg_base.proofs.ListFacts.{each_snoc}
use Rattle.hg_base.specs.Script.{Script}
use Rattle.hg_script.specs.Fields.{Fields}
use Rattle.hg_script.specs.Judging.{Known, Knows, script_at}
use Rattle.hg_script.specs.declared.judge.Judged.TheVariants as judged
use Rattle.hg_session.specs.Engines.{engine_sizes}
use Rattle.hg_talk.specs.Framing.{Sent}
use Rattle.hg_talk.specs.Framing as framing
use Rattle.hg_talk.specs.declared.trouble.Stop.{Stop}
use Rattle.hg_talk.specs.declared.trouble.Stop.TheVariants as stop
use Rattle.hg_exact.specs.AnswerText.{IsBalanced, answer_text, plain_answered}
use Rattle.hg_exact.specs.Conversed.{Answered, Replied, Course, accepted, conversed, hears, lines_of, unasked}
use Rattle.hg_exact.specs.Due.{AreDue, AreSoFar, IsOneMore}
use Rattle.hg_exact.specs.Replayed.{plain, replayed}
use Rattle.hg_exact.proofs.Conversing.{conversed_first, lines_one}
use Rattle.hg_exact.proofs.Due.{due_exact, due_replied}
use Rattle.hg_run.specs.declared.crew.Crew.{Crew}
use Rattle.hg_run.specs.declared.desk.Desk.{Desk}
use Rattle.hg_run.specs.Collecting.{AreCollectors}
use Rattle.hg_run.specs.Desk.{HasEnded, IsCause, IsGoing, IsHearing, IsSaid, IsSpent}
use Rattle.hg_run.specs.ForAll.{IsForAll, IsOpenedForAll}
use Rattle.hg_run.specs.Live.{HasStopped, IsLive, left_in}
use Rattle.hg_run.specs.Untold.{HaveTold}
use Rattle.hg_headline.specs.Following.{IsFollowing}
use Rattle.hg_headline.proofs.Following.{following_opened}
use Rattle.hg_core.specs.Logs.{current}
use Rattle.hg_records.specs.Bytes.{record_bytes}
use Rattle.hg_session.specs.declared.engine.Engine.{Engine}
use Rattle.hg_session.specs.declared.session.Session.{Session}
use Rattle.hg_session.specs.Finished.{logs_of}
use Rattle.hg_session.proofs.Cursors.{no_cursor}
use Rattle.hg_collectors.specs.declared.collectors.Collectors.{Collectors}
use Rattle.hg_run.proofs.Closes.{new_logs, new_ready}
use Rattle.hg_run.proofs.Cursors.{no_cursors}
use Rattle.hg_run.proofs.Hiring.{take_whole}
use Rattle.hg_run.proofs.Going.{ready_less}
use Rattle.hg_run.proofs.Listing.{log_at}
use Rattle.hg_run.proofs.Stopping.{live_stopped}

-- ---- answers that are due

due_many : (c : Course) (lines : List Line) (sent : List Sent) (answers : List Answered) → AreDue c lines sent answers → length answers ≡ length sent
unfolding AreDue
due_many c lines [] [] due = refl
due_many c lines [] (a ∷ answers) due = absurd due
due_many c lines (x ∷ sent) [] due = absurd due
due_many c lines (x ∷ sent) (a ∷ answers) due = ap (λ n. suc n) (due_many (hears c x).1 (lines ++ lines_of (a ∷ [])) sent answers due.1)

-- ---- where no more may be said

-- nothing was lost
pub ended_now : (d : Desk) (sent : List Sent) (answers : List Answered) (why : Stop) → AreSoFar sent answers → Each IsBalanced answers →
    HasStopped d.engine d.crew.sessions.items d.last (accepted sent).records (lines_of answers) → AreCollectors d.engine d.crew.collectors → IsCause sent why →
    HasEnded d sent answers why
ended_now d sent answers why due balanced stopped collectors cause = record {
  unsaid = [];
  lost = [];
  due = subst (λ s. AreSoFar s (answers ++ [])) (sym (append-nil sent)) (subst (λ a. AreSoFar sent a) (sym (append-nil answers)) due);
  many = due_many unasked [] sent answers due;
  balanced = balanced;
  stopped = subst (λ s. HasStopped d.engine d.crew.sessions.items d.last (accepted s).records (lines_of (answers ++ []))) (sym (append-nil sent))
      (subst (λ a. HasStopped d.engine d.crew.sessions.items d.last (accepted sent).records (lines_of a)) (sym (append-nil answers)) stopped);
  collectors = collectors;
  cause = cause;
}

-- the last answer was lost
pub ended_unsaid : (d : Desk) (sent : List Sent) (answers : List Answered) (x : Sent) (a : Answered) (why : Stop) → AreSoFar sent answers → Each IsBalanced answers →
    AreSoFar (sent ++ x ∷ []) (answers ++ a ∷ []) →
    HasStopped d.engine d.crew.sessions.items d.last (accepted (sent ++ x ∷ [])).records (lines_of (answers ++ a ∷ [])) → AreCollectors d.engine d.crew.collectors → IsCause sent why →
    HasEnded d sent answers why
ended_unsaid d sent answers x a why due balanced more stopped collectors cause = record {
  unsaid = x ∷ [];
  lost = a ∷ [];
  due = more;
  many = due_many unasked [] sent answers due;
  balanced = balanced;
  stopped = stopped;
  collectors = collectors;
  cause = cause;
}

pub going_ended : (d : Desk) (sent : List Sent) (answers : List Answered) (why : Stop) → IsGoing d sent answers → IsCause sent why → HasEnded d sent answers why
going_ended d sent answers why g cause =
    ended_now d sent answers why g.due g.balanced (live_stopped d.engine d.crew.sessions.items d.last (accepted sent).records (lines_of answers) g.live) g.collectors cause

-- what was answered is what is conversed
pub ended_exact : (d : Desk) (sent : List Sent) (answers : List Answered) (why : Stop) → (h : HasEnded d sent answers why) →
    map plain (lines_of (answers ++ h.lost)) ≡ replayed (accepted (sent ++ h.unsaid)) → map plain_answered answers ≡ conversed sent
ended_exact d sent answers why h lines =
    let all : map plain_answered (answers ++ h.lost) ≡ conversed (sent ++ h.unsaid) = due_exact (sent ++ h.unsaid) (answers ++ h.lost) h.due lines in
    let first : take (length sent) (map plain_answered (answers ++ h.lost)) ≡ map plain_answered answers =
    ap (take (length sent)) (map-append plain_answered answers h.lost)
    ∙ subst (λ n. take n (map plain_answered answers ++ map plain_answered h.lost) ≡ map plain_answered answers) (length-map answers plain_answered ∙ h.many)
    (take_whole (map plain_answered answers) (map plain_answered h.lost)) in
    sym first ∙ ap (take (length sent)) all ∙ sym (conversed_first (length sent) (sent ++ h.unsaid)) ∙ ap conversed (take_whole sent h.unsaid)

-- ---- the first

-- an engine just opened
pub live_first : (e : Engine) (list : List Session) (collectors : Collectors) → IsOpenedForAll e list collectors → IsLive e list 0 [] []
live_first e list collectors o =
    let none = new_logs e (engine_sizes e).quota list o.opened.new in
    let some : 0 < length list = (let all = o.opened.all in let sessions = o.for_all.sessions in omega (arith, all, sessions)) in
    let ready = new_ready e (engine_sizes e).quota list o.opened.all some o.opened.new in
    let same : (λ j. []) ≡ logs_of list = (λ p j. sym (none j) p) in
    record {
      seen = 0;
      top = 0;
      following = subst (λ logs. IsFollowing (engine_sizes e).buckets (engine_sizes e).sessions logs 0 0 [] []) same (following_opened (engine_sizes e).buckets (engine_sizes e).sessions);
      firsts = λ caught. none;
      opened = λ j. ap (λ l. is_some (current l)) (none j);
      cursors = no_cursors list (λ j. None) (λ d k within. no_cursor e (get_or list k d) (ready.placed d k within).own (ap current (sym (log_at d list k within) ∙ none (suc k))));
      ready = ready_less e 0 (left_in (engine_sizes e) []) (λ j. (engine_sizes e).quota) list (λ j. omega arith) ready;
      saw = λ d. inl refl;
    }

-- ---- one more

-- an answer that is no line's
pub said_quiet : (d : Desk) (sent : List Sent) (answers : List Answered) (x : Sent) (a : Answered) (script : Script) (old new : List ℕ) → IsOneMore sent answers x a script →
    script.records ≡ (accepted sent).records → lines_of (a ∷ []) ≡ [] → IsBalanced a → Each IsBalanced answers → d.place ≡ suc (length sent) → Knows d.judge script →
    IsLive d.engine d.crew.sessions.items d.last (accepted sent).records (lines_of answers) → HaveTold d.crew.collectors (lines_of answers) → AreCollectors d.engine d.crew.collectors → IsForAll d.engine →
    new ≡ old ++ answer_text record_bytes a → IsSaid d sent answers x old new
said_quiet d sent answers x a script old new one records none balance balanced place knows live told collectors for_all text =
    let lines : lines_of (answers ++ a ∷ []) ≡ lines_of answers = lines_one answers a ∙ ap (λ l. lines_of answers ++ l) none ∙ append-nil (lines_of answers) in
    let kept : (accepted (sent ++ x ∷ [])).records ≡ (accepted sent).records = ap (λ (s : Script). s.records) one.script_is ∙ records in
    record {
      answer = a;
      text = text;
      going = record {
        due = one.due;
        balanced = each_snoc IsBalanced answers a balanced balance;
        place = (let one = length_push sent x in omega (arith, place, one));
        knows = subst (Knows d.judge) (sym one.script_is) knows;
        live = subst (λ r. IsLive d.engine d.crew.sessions.items d.last r (lines_of (answers ++ a ∷ []))) (sym kept)
            (subst (λ l. IsLive d.engine d.crew.sessions.items d.last (accepted sent).records l) (sym lines) live);
        told = subst (HaveTold d.crew.collectors) (sym lines) told;
        collectors = collectors;
        for_all = for_all;
      };
    }

-- the answer to a statement
module _ (d : Desk) (sent : List Sent) (answers : List Answered) (r : Fields) (session : ℕ) (statement : Statement) (reply : Reply)
    (h : IsHearing d sent answers r (judged.Asked session statement)) where
  script : Script
  script = script_at (suc (length sent)) (accepted sent) r

  line : Line
  line = record { session = session; place = suc (length sent); reply = reply }

  answer : Answered
  answer = Replied script.tables line

  one : IsOneMore sent answers (framing.Record r) answer script
  unfolding script line answer
  one = due_replied sent answers r session statement d.judge reply h.due h.counts h.judged_is

  records_more : (accepted (sent ++ framing.Record r ∷ [])).records ≡ (accepted sent).records ++ (record { place = suc (length sent); session = session; statement = statement }) ∷ []
  unfolding script
  records_more = ap (λ (s : Script). s.records) one.script_is ∙ ap (λ (s : Script). s.records) h.judged_is.2

  lines_more : lines_of (answers ++ answer ∷ []) ≡ lines_of answers ++ line ∷ []
  unfolding answer
  lines_more = lines_one answers answer

  module _ (new : Desk) (judge : new.judge ≡ d.judge)
      (live : IsLive new.engine new.crew.sessions.items new.last ((accepted sent).records ++ (record { place = suc (length sent); session = session; statement = statement }) ∷ [])
      (lines_of answers ++ (record { session = session; place = suc (length sent); reply = reply }) ∷ [])) where
    live_more : IsLive new.engine new.crew.sessions.items new.last (accepted (sent ++ framing.Record r ∷ [])).records (lines_of (answers ++ answer ∷ []))
    unfolding line
    live_more = subst (λ rs. IsLive new.engine new.crew.sessions.items new.last rs (lines_of (answers ++ answer ∷ []))) (sym records_more)
        (subst (λ ls. IsLive new.engine new.crew.sessions.items new.last ((accepted sent).records ++ (record { place = suc (length sent); session = session; statement = statement }) ∷ []) ls)
        (sym lines_more) live)

    pub reply_said : new.engine ≡ d.engine → new.place ≡ suc (length sent) → AreCollectors new.engine new.crew.collectors →
        HaveTold new.crew.collectors (lines_of answers ++ (record { session = session; place = suc (length sent); reply = reply }) ∷ []) → (old text : List ℕ) →
        text ≡ old ++ answer_text record_bytes (Replied new.judge.tables (record { session = session; place = suc (length sent); reply = reply })) → IsSaid new sent answers (framing.Record r) old text
    unfolding script line answer
    reply_said engine place collectors told old text is =
        let tables : new.judge.tables ≡ script.tables = ap (λ (k : Known). k.tables) judge ∙ h.judged_is.1.tables_are in
        record {
          answer = answer;
          text = is ∙ ap (λ t. old ++ answer_text record_bytes (Replied t line)) tables;
          going = record {
            due = one.due;
            balanced = each_snoc IsBalanced answers answer h.balanced tt;
            place = (let one = length_push sent (framing.Record r) in omega (arith, place, one));
            knows = subst (Knows new.judge) (sym one.script_is) (subst (λ j. Knows j script) (sym judge) h.judged_is.1);
            live = live_more;
            told = subst (HaveTold new.crew.collectors) (sym lines_more) told;
            collectors = collectors;
            for_all = subst IsForAll (sym engine) h.for_all;
          };
        }

    -- its text could not be made
    pub reply_lost : AreCollectors new.engine new.crew.collectors → HasEnded new sent answers stop.NoMemory
    reply_lost collectors =
        ended_unsaid new sent answers (framing.Record r) answer stop.NoMemory h.due h.balanced one.due
        (live_stopped new.engine new.crew.sessions.items new.last (accepted (sent ++ framing.Record r ∷ [])).records (lines_of (answers ++ answer ∷ [])) live_more) collectors tt

-- ---- where it stops

-- a session that has run all that it may is a cause
pub cause_spent : (sent : List Sent) (why : Stop) → (why ≡ stop.Spent → IsSpent sent) → IsCause sent why
cause_spent sent stop.NoMemory spent = tt
cause_spent sent stop.Spent spent = spent refl

-- what the exit of a `?` returns
pub stops : {T : Type 0} (r : Result T Stop) (P : Stop → Type 0) (why : Stop) → IsErrAnd r (λ s. s ≡ why) → P why → IfErr r P
stops (Ok x) P why is p = tt
stops (Err s) P why is p = subst P (sym is) p

pub if_err : {A E : Type 0} (P Q : E → Type 0) (r : Result A E) → ((e : E) → P e → Q e) → IfErr r P → IfErr r Q
if_err P Q (Ok a) f p = tt
if_err P Q (Err e) f p = f e p

-- it stops at a record, and nothing was done for it
pub going_stops : (d new : Desk) (sent : List Sent) (answers : List Answered) → IsGoing d sent answers → new.engine ≡ d.engine → new.crew ≡ d.crew → new.last ≡ d.last →
    HasEnded new sent answers stop.NoMemory
going_stops d new sent answers g engine crew last =
    ended_now new sent answers stop.NoMemory g.due g.balanced
    (subst (λ e. HasStopped e new.crew.sessions.items new.last (accepted sent).records (lines_of answers)) (sym engine)
    (subst (λ (c : Crew). HasStopped d.engine c.sessions.items new.last (accepted sent).records (lines_of answers)) (sym crew)
    (subst (λ l. HasStopped d.engine d.crew.sessions.items l (accepted sent).records (lines_of answers)) (sym last)
    (live_stopped d.engine d.crew.sessions.items d.last (accepted sent).records (lines_of answers) g.live))))
    (subst (λ e. AreCollectors e new.crew.collectors) (sym engine) (subst (λ (c : Crew). AreCollectors d.engine c.collectors) (sym crew) g.collectors)) tt
