-- A conversation, from what its host and its client leave.
use Rattle.std.proofs.Common.{◌≡◌, ◌∙◌, inl, inr, ℕ, ◌≤◌, arith, false, List, [], ◌∷◌, ◌++◌, map, Result, Ok, Err, None, refl, sym, ap, subst, append_assoc, append-nil}
use Rattle.std.proofs.lemmas.List.{map_push}
use Rattle.std.specs.Prelude.{OnOk, IfErr}
use Rattle.csv.specs.Reading.{strip_bom}
use Rattle.hg_base.specs.Faults.{Rose}
use Rattle.hg_base.specs.Lists.{Each}
use Rattle.hg_base.specs.declared.line.Totals.{Totals}
use Rattle.hg_records.specs.Bytes.{record_bytes}
use Rattle.hg_streams.specs.Status.{status_of_words}
use Rattle.hg_streams.specs.declared.status.Status.{Status}
use Rattle.hg_streams.specs.declared.status.Status.TheVariants.{Done, Usage, BadScript, ReadFault, WriteFault, TooLong, LongInput, NoMemory, Spent}
use Rattle.hg_words.specs.Live.{live_options_of}
use Rattle.hg_words.specs.declared.options.WordsRefusal.{WordsRefusal}
use Rattle.hg_words.specs.declared.options.WordsRefusal.TheVariants as refusal
use Rattle.hg_talk.specs.declared.trouble.Stop.{Stop}
use Rattle.hg_talk.specs.declared.trouble.Stop.TheVariants as stop
use Rattle.hg_talk.specs.declared.trouble.Trouble.{Trouble}
use Rattle.hg_talk.specs.declared.trouble.Trouble.TheVariants as trouble
use Rattle.hg_talk.specs.Events.{Event, WriteFailed, HasWritten, IsNewest, read_of, reads_in, written_of}
use Rattle.hg_talk.specs.Framing.{Sent, all_in, complete_in}
use Rattle.hg_talk.specs.Talking.{Exchange, HasFault, IsNotWithheld, IsOver, IsPrompt, IsStopped, LeavesHost, answers_in, asked_in, is_write}
use Rattle.hg_exact.specs.AnswerText.{AreAnswers, answer_text}
use Rattle.hg_exact.specs.Conversed.{Answered, accepted, answered_from, lines_of}
use Rattle.hg_run.specs.declared.desk.Desk.{Desk}
use Rattle.hg_run.specs.declared.talk.Talk.{Talk}
use Rattle.hg_run.specs.Conversing.{AreWritten, EndsWith, FailsBy, IsConversation, IsTold, WritesLast, status_of_trouble, totals_bytes}
use Rattle.hg_run.specs.Desk.{AreHeard, HasEnded, IsGoing, IsReady, IsSaid, IsSpent, IsThrough}
use Rattle.hg_run.specs.Serving.{IsUnlessNoMemory}
use Rattle.hg_run.proofs.Desking.{ended_unsaid, going_ended}
use Rattle.hg_run.proofs.Stopping.{live_stopped}

-- ---- one more is heard

-- the answer was made, and is among what was heard
pub ready_more : (t : Talk) (heard : List Exchange) (answers : List Answered) (x : Sent) (text : List ℕ) → AreHeard heard answers →
    IsSaid t.desk (asked_in heard) answers x [] text → t.minutes.exchanges ≡ heard ++ (record { asked = x; answer = text }) ∷ [] → IsReady t
ready_more t heard answers x text are said is =
    let e : Exchange = record { asked = x; answer = text } in
    let asked : asked_in t.minutes.exchanges ≡ asked_in heard ++ x ∷ [] = ap asked_in is ∙ map_push (λ (e : Exchange). e.asked) heard e in
    record {
      answers = answers ++ said.answer ∷ [];
      going = subst (λ s. IsGoing t.desk s (answers ++ said.answer ∷ [])) (sym asked) said.going;
      heard = ap (map (λ (e : Exchange). e.answer)) is ∙ map_push (λ (e : Exchange). e.answer) heard e
          ∙ ap (λ l. l ++ text ∷ []) are ∙ ap (λ b. map (answer_text record_bytes) answers ++ b ∷ []) said.text
          ∙ sym (map_push (answer_text record_bytes) answers said.answer);
    }

-- the answer was made, and lost
pub said_lost : (d : Desk) (sent : List Sent) (answers : List Answered) (x : Sent) (old new : List ℕ) (before : Desk) → IsGoing before sent answers → IsSaid d sent answers x old new →
    HasEnded d sent answers stop.NoMemory
said_lost d sent answers x old new before g said =
    ended_unsaid d sent answers x said.answer stop.NoMemory g.due g.balanced said.going.due
    (live_stopped d.engine d.crew.sessions.items d.last (accepted (sent ++ x ∷ [])).records (lines_of (answers ++ said.answer ∷ [])) said.going.live) said.going.collectors tt

-- ---- what a conversation leaves

-- the host may be ended
ready_through : (t : Talk) → IsReady t → (why : Stop) × IsThrough t why
ready_through t r = (stop.NoMemory, record { answers = r.answers; ended = going_ended t.desk (asked_in t.minutes.exchanges) r.answers stop.NoMemory r.going tt; heard = r.heard })

pub left_through : (t : Talk) (r : Result Unit Trouble) → OnOk r (IsReady t) → IfErr r (LeavesHost (IsReady t) (IsThrough t)) → (why : Stop) × IsThrough t why
left_through t (Ok u) ready left = ready_through t ready
left_through t (Err trouble.Read) ready left = ready_through t left
left_through t (Err trouble.Write) ready (inl r) = ready_through t r
left_through t (Err trouble.Write) ready (inr through) = through
left_through t (Err trouble.NoMemory) ready left = ready_through t left
left_through t (Err (trouble.Stopped why)) ready left = (why, left)

-- ---- writing the last

rose_before : (before mid now : ℕ) → before ≤ mid → Rose mid now → Rose before now
rose_before before mid now less rose = omega (arith, less, rose)

-- what was written in two steps
pub written_both : (old mid new : List Event) (xs ys all : List ℕ) → HasWritten old mid xs → HasWritten mid new ys → xs ++ ys ≡ all → HasWritten old new all
written_both old mid new xs ys all h more same = record {
  read = more.read ∙ h.read;
  written = more.written ∙ ap (λ z. z ++ ys) h.written ∙ append_assoc (written_of old) xs ys ∙ ap (λ z. written_of old ++ z) same;
  reads = more.reads ∙ h.reads;
}

-- only these first bytes were written
pub last_failed : (old new : List Event) (before mid now : ℕ) (all first later : List ℕ) → IsNewest WriteFailed new → before ≤ mid → Rose mid now → HasWritten old new first →
    all ≡ first ++ later → FailsBy WriteFailed new before now × ((first : List ℕ) × (left : List ℕ) × (all ≡ first ++ left) × HasWritten old new first)
last_failed old new before mid now all first later newest less rose wrote parts = (record { newest = newest; rose = rose_before before mid now less rose }, (first, later, parts, wrote))

-- the answers could not be written
pub answers_failed : (old new : List Event) (before now : ℕ) (text : List ℕ) (totals : Totals) → ((first : List ℕ) × (later : List ℕ) × (text ≡ first ++ later) × HasWritten old new first) →
    IsNewest WriteFailed new → Rose before now → WritesLast old new before now text totals WriteFault
answers_failed old new before now text totals part newest rose =
    last_failed old new before before now (text ++ totals_bytes totals) part.0 (part.1 ++ totals_bytes totals) newest (omega arith) rose part.3
    (ap (λ t. t ++ totals_bytes totals) part.2 ∙ append_assoc part.0 part.1 (totals_bytes totals))

-- the answers were written, and the totals could not be
pub totals_failed : (old mid new : List Event) (before middle now : ℕ) (text last : List ℕ) (totals : Totals) → HasWritten old mid text → last ≡ totals_bytes totals →
    ((first : List ℕ) × (later : List ℕ) × (last ≡ first ++ later) × HasWritten mid new first) → IsNewest WriteFailed new → before ≤ middle → Rose middle now →
    WritesLast old new before now text totals WriteFault
totals_failed old mid new before middle now text last totals wrote is part newest less rose =
    last_failed old new before middle now (text ++ totals_bytes totals) (text ++ part.0) part.1 newest less rose
    (written_both old mid new text part.0 (text ++ part.0) wrote part.3 refl) (ap (λ t. text ++ t) (sym is ∙ part.2) ∙ sym (append_assoc text part.0 part.1))

-- ---- the whole

none_complete : [] ≡ complete_in []
unfolding strip_bom
none_complete = refl

-- nothing was heard
pub unheard : (words : List (List ℕ)) (log : List Event) (before now : ℕ) (status : Status) → log ≡ [] → EndsWith words log before now [] [] status → IsConversation words log before now status
unfolding answered_from
unheard words log before now status none ended = record {
  heard = [];
  asked = inl (record { taken = []; rest = []; read = ap read_of none; asked = none_complete });
  prompt = subst (λ l. IsNotWithheld [] l) (sym none) tt;
  exact = record { answers = []; exact = refl; written = refl; balanced = tt };
  ended = ended;
}

-- its host had no memory
pub unheard_memory : (words : List (List ℕ)) (log : List Event) (before now : ℕ) → log ≡ [] → IsConversation words log before now NoMemory
unheard_memory words log before now none = unheard words log before now NoMemory none (ap written_of none)

-- the words ask for no conversation, or there was no memory for them
pub refused : (words : List (List ℕ)) (log : List Event) (before now : ℕ) (why : WordsRefusal) (status : Status) → status ≡ status_of_words why → log ≡ [] →
    (why ≡ refusal.Usage → live_options_of words ≡ None) → IsConversation words log before now status
refused words log before now why status is none usage = subst (IsConversation words log before now) (sym is) (by_why why usage)
  where
    by_why : (w : WordsRefusal) → (w ≡ refusal.Usage → live_options_of words ≡ None) → IsConversation words log before now (status_of_words w)
    by_why refusal.Usage u = unheard words log before now Usage none (u refl, none)
    by_why refusal.NoMemory u = unheard_memory words log before now none

-- what is still to be written was written
all_written : (old new : List Event) (heard : List Exchange) (text : List ℕ) → written_of old ++ text ≡ answers_in heard → HasWritten old new text → AreWritten new heard
all_written old new heard text so wrote = wrote.written ∙ so

-- the client ended it
module _ (words : List (List ℕ)) (log new : List Event) (before mid now : ℕ) (heard : List Exchange) (text : List ℕ) (totals : Totals) (less : before ≤ mid)
    (over : IsOver log heard text) (told : IsTold heard totals) where
  -- no more was read since
  over_ends : (status : Status) → read_of new ≡ read_of log → reads_in new ≡ reads_in log → EndsWith words new before now heard told.exact.answers status →
      IsConversation words new before now status
  over_ends status read reads ended = record {
    heard = heard;
    asked = inr (over.asked ∙ ap all_in (sym read));
    prompt = subst (λ rs. Each (λ p. IsPrompt heard p.0 p.1) rs) (sym reads) over.prompt;
    exact = told.exact;
    ended = ended;
  }

  pub over_told : (status : Status) → WritesLast log new mid now text totals status → IsConversation words new before now status
  over_told Done wrote = over_ends Done wrote.read wrote.reads (record {
    all = over.asked ∙ ap all_in (sym wrote.read);
    totals = totals;
    written = wrote.written ∙ sym (append_assoc (written_of log) text (totals_bytes totals)) ∙ ap (λ t. t ++ totals_bytes totals) over.written;
    final = told.final;
  })
  over_told NoMemory wrote = over_ends NoMemory wrote.read wrote.reads (all_written log new heard text over.written wrote)
  over_told WriteFault (fails, (first, left, parts, wrote)) = over_ends WriteFault wrote.read wrote.reads (
    record { newest = fails.newest; rose = rose_before before mid now less fails.rose },
    record {
      left = left;
      part = inr (
        totals,
        ap (λ z. z ++ left) wrote.written ∙ append_assoc (written_of log) first left ∙ ap (λ z. written_of log ++ z) (sym parts)
            ∙ sym (append_assoc (written_of log) text (totals_bytes totals)) ∙ ap (λ z. z ++ totals_bytes totals) over.written,
      );
    },
  )
  over_told Usage wrote = absurd wrote
  over_told (BadScript line code) wrote = absurd wrote
  over_told ReadFault wrote = absurd wrote
  over_told TooLong wrote = absurd wrote
  over_told LongInput wrote = absurd wrote
  over_told Spent wrote = absurd wrote

-- it was stopped
module _ (words : List (List ℕ)) (log : List Event) (before now : ℕ) (heard : List Exchange) (exact : AreAnswers record_bytes (asked_in heard) (map (λ (e : Exchange). e.answer) heard)) where
  stopped_ends : (why : Trouble) (status : Status) → IsStopped log heard why → EndsWith words log before now heard exact.answers status → IsConversation words log before now status
  stopped_ends why status s ended = record {
    heard = heard;
    asked = inl (record { taken = s.taken; rest = s.rest; read = s.talking.read; asked = s.talking.asked });
    prompt = s.talking.prompt;
    exact = exact;
    ended = ended;
  }

  -- all that was answered was written
  stopped_written : (why : Trouble) → is_write why ≡ false → IsStopped log heard why → AreWritten log heard
  stopped_written why other s = sym (append-nil (written_of log)) ∙ subst (λ t. written_of log ++ t ≡ answers_in heard) (s.written other) s.talking.written

  pub stopped_told : (t : Talk) (why : Trouble) (status : Status) → status ≡ status_of_trouble why → t.minutes.exchanges ≡ heard → IsStopped log heard why → HasFault log before now why →
      LeavesHost (IsReady t) (IsThrough t) why → IsConversation words log before now status
  stopped_told t why status is same s fault left = subst (IsConversation words log before now) (sym is) (by_why why s fault left)
    where
      by_why : (w : Trouble) → IsStopped log heard w → HasFault log before now w → LeavesHost (IsReady t) (IsThrough t) w → IsConversation words log before now (status_of_trouble w)
      by_why trouble.Read s fault left = stopped_ends trouble.Read ReadFault s (record { newest = fault.0; rose = fault.1 }, stopped_written trouble.Read refl s)
      by_why trouble.Write s fault left =
          stopped_ends trouble.Write WriteFault s (record { newest = fault.0; rose = fault.1 }, record { left = s.text; part = inl s.talking.written })
      by_why trouble.NoMemory s fault left = stopped_ends trouble.NoMemory NoMemory s (stopped_written trouble.NoMemory refl s)
      by_why (trouble.Stopped stop.NoMemory) s fault left = stopped_ends (trouble.Stopped stop.NoMemory) NoMemory s (stopped_written (trouble.Stopped stop.NoMemory) refl s)
      by_why (trouble.Stopped stop.Spent) s fault left = stopped_ends (trouble.Stopped stop.Spent) Spent s (
        subst (λ h. IsSpent (asked_in h)) same left.ended.cause,
        stopped_written (trouble.Stopped stop.Spent) refl s,
      )

-- words that are refused are a usage error, unless memory runs out
pub usage_unless_no_memory : (why : WordsRefusal) (status : Status) → status ≡ status_of_words why → IsUnlessNoMemory status Usage
usage_unless_no_memory refusal.Usage status is = inl is
usage_unless_no_memory refusal.NoMemory status is = inr is
