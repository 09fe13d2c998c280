-- A conversation, step by step: a piece is read, a byte is taken, a record is answered, answers are written.
use Rattle.std.proofs.Common.{◌≡◌, ◌∙◌, ◌⊎◌, inl, inr, ℕ, suc, ◌+◌, ◌<◌, ◌≤◌, length, drop, get_or, arith, List, [], ◌∷◌, ◌++◌, true, false, refl, sym, ap, subst, append_assoc, append-nil}
use Rattle.std.proofs.Math.Seq.{drop-cons}
use Rattle.csv.specs.Machine.{ends_at_end}
use Rattle.hg_base.specs.Faults.{Rose}
use Rattle.hg_base.specs.Lists.{Each}
use Rattle.hg_talk.specs.Events.{Event, Read, ReadFailed, HasWritten, read_of, written_of, reads_in}
use Rattle.hg_talk.specs.Framing.{Sent, all_in, complete_in, does_end, sent_of, unframed}
use Rattle.hg_talk.specs.Framer.{Kept, kept_after}
use Rattle.hg_talk.specs.Going.{IsGoing, is_own}
use Rattle.hg_talk.specs.Talking.{Exchange, HasFault, IsOver, IsPrompt, IsStopped, IsTalking, LeavesHost, answers_in, asked_in}
use Rattle.hg_talk.specs.declared.trouble.Stop.{Stop}
use Rattle.hg_talk.specs.declared.trouble.Trouble.{Trouble}
use Rattle.hg_talk.specs.declared.trouble.Trouble.TheVariants as trouble
use Rattle.hg_talk.proofs.Framing.{goes_end, goes_on, keeps_none, last_ended, sent_none}

-- ---- answers

answers_more : (heard : List Exchange) (e : Exchange) → answers_in (heard ++ e ∷ []) ≡ answers_in heard ++ e.answer
answers_more [] e = append-nil e.answer
answers_more (h ∷ heard) e = ap (λ z. h.answer ++ z) (answers_more heard e) ∙ sym (append_assoc h.answer (answers_in heard) e.answer)

asked_more : (heard : List Exchange) (e : Exchange) → asked_in (heard ++ e ∷ []) ≡ asked_in heard ++ e.asked ∷ []
asked_more [] e = refl
asked_more (h ∷ heard) e = ap (λ z. h.asked ∷ z) (asked_more heard e)

prompt_more : (heard more : List Exchange) (reads : List (List ℕ × List ℕ)) → Each (λ p. IsPrompt heard p.0 p.1) reads → Each (λ p. IsPrompt (heard ++ more) p.0 p.1) reads
prompt_more heard more [] h = tt
prompt_more heard more (p ∷ reads) h = (
  record {
    first = h.0.first;
    later = h.0.later ++ more;
    all = ap (λ z. z ++ more) h.0.all ∙ append_assoc h.0.first h.0.later more;
    asked = h.0.asked;
    answered = h.0.answered;
  },
  prompt_more heard more reads h.1,
)

-- ---- steps

-- nothing passed yet
pub going_first : (log : List Event) (heard : List Exchange) (kept : Kept) (text : List ℕ) → log ≡ [] → heard ≡ [] → kept ≡ record { mark = 0; begun = unframed.begun } → text ≡ [] →
    IsGoing log heard kept [] text
going_first log heard kept text none unheard new empty = subst (λ l. IsGoing l heard kept [] text) (sym none)
    (subst (λ h. IsGoing [] h kept [] text) (sym unheard)
    (subst (λ k. IsGoing [] [] k [] text) (sym new)
    (subst (λ t. IsGoing [] [] (record { mark = 0; begun = unframed.begun }) [] t) (sym empty) (record {
      taken = [];
      keeps = keeps_none;
      talking = record { read = refl; asked = sym sent_none; written = refl; prompt = tt };
    }))))

-- what was taken is all that was read
all_taken : (log : List Event) (heard : List Exchange) (taken text : List ℕ) → IsTalking log heard taken [] text → read_of log ≡ taken
all_taken log heard taken text t = t.read ∙ append-nil taken

-- nothing is withheld before the next read
prompt_now : (log : List Event) (heard : List Exchange) (taken : List ℕ) → IsTalking log heard taken [] [] → IsPrompt heard (read_of log) (written_of log)
prompt_now log heard taken t = record {
  first = heard;
  later = [];
  all = sym (append-nil heard);
  asked = t.asked ∙ ap complete_in (sym (all_taken log heard taken [] t));
  answered = sym (append-nil (written_of log)) ∙ t.written;
}

-- a read failed
pub stopped_read : (log after : List Event) (heard : List Exchange) (kept : Kept) (why : Trouble) → IsGoing log heard kept [] [] → after ≡ ReadFailed ∷ log → IsStopped after heard why
stopped_read log after heard kept why g is = subst (λ l. IsStopped l heard why) (sym is) (record {
  taken = g.taken;
  rest = [];
  text = [];
  talking = record {
    read = g.talking.read;
    asked = g.talking.asked;
    written = g.talking.written;
    prompt = (prompt_now log heard g.taken g.talking, g.talking.prompt);
  };
  written = λ _. refl;
})

-- a byte is taken that ends no record
pub going_byte : (log : List Event) (heard : List Exchange) (kept now : Kept) (text : List ℕ) (c : ℕ) (rest : List ℕ) → does_end kept.begun c ≡ false → now ≡ kept_after kept c →
    IsGoing log heard kept (c ∷ rest) text → IsGoing log heard now rest text
going_byte log heard kept now text c rest on is g = subst (λ n. IsGoing log heard n rest text) (sym is) (
    let next = goes_on kept g.taken c g.keeps on in record {
      taken = g.taken ++ c ∷ [];
      keeps = next.keeps;
      talking = record {
        read = g.talking.read ∙ sym (append_assoc g.taken (c ∷ []) rest);
        asked = g.talking.asked ∙ sym next.sent;
        written = g.talking.written;
        prompt = g.talking.prompt;
      };
    })

-- a byte is taken that ends a record, and that is answered
pub going_answer : (log : List Event) (heard : List Exchange) (kept : Kept) (text answer : List ℕ) (c : ℕ) (rest : List ℕ) → does_end kept.begun c ≡ true →
    IsGoing log heard kept (c ∷ rest) text →
    IsGoing log (heard ++ (record { asked = sent_of (kept_after kept c).begun.size (kept_after kept c).begun.fields; answer = answer }) ∷ [])
    (record (kept_after kept c) { begun = record (kept_after kept c).begun { fields = []; size = 0 } }) rest (text ++ answer)
going_answer log heard kept text answer c rest ends g =
    let e : Exchange = record { asked = sent_of (kept_after kept c).begun.size (kept_after kept c).begun.fields; answer = answer } in
    let next = goes_end kept g.taken c g.keeps ends in
    record {
      taken = g.taken ++ c ∷ [];
      keeps = next.keeps;
      talking = record {
        read = g.talking.read ∙ sym (append_assoc g.taken (c ∷ []) rest);
        asked = asked_more heard e ∙ ap (λ z. z ++ e.asked ∷ []) g.talking.asked ∙ sym next.sent;
        written = sym (append_assoc (written_of log) text answer) ∙ ap (λ z. z ++ answer) g.talking.written ∙ sym (answers_more heard e);
        prompt = prompt_more heard (e ∷ []) (reads_in log) g.talking.prompt;
      };
    }

-- answers are written
pub talking_wrote : (log after : List Event) (heard : List Exchange) (taken text first later rest : List ℕ) → IsTalking log heard taken rest text →
    text ≡ first ++ later → HasWritten log after first → IsTalking after heard taken rest later
talking_wrote log after heard taken text first later rest t parts w = record {
  read = w.read ∙ t.read;
  asked = t.asked;
  written = ap (λ z. z ++ later) w.written ∙ append_assoc (written_of log) first later ∙ ap (λ z. written_of log ++ z) (sym parts) ∙ t.written;
  prompt = subst (λ reads. Each (λ p. IsPrompt heard p.0 p.1) reads) (sym w.reads) t.prompt;
}

pub going_wrote : (log after : List Event) (heard : List Exchange) (kept : Kept) (text rest : List ℕ) → IsGoing log heard kept rest text → HasWritten log after text →
    IsGoing after heard kept rest []
going_wrote log after heard kept text rest g w =
    record { taken = g.taken; keeps = g.keeps; talking = talking_wrote log after heard g.taken text text [] rest g.talking (sym (append-nil text)) w }

-- ---- the end

-- it ends one, and that is answered
pub over_answered : (log : List Event) (heard : List Exchange) (kept : Kept) (text answer : List ℕ) → ends_at_end kept.begun.state ≡ true → IsGoing log heard kept [] text →
    IsOver log (heard ++ (record { asked = sent_of kept.begun.size (kept.begun.fields ++ kept.begun.field ∷ []); answer = answer }) ∷ []) (text ++ answer)
over_answered log heard kept text answer ends g =
    let e : Exchange = record { asked = sent_of kept.begun.size (kept.begun.fields ++ kept.begun.field ∷ []); answer = answer } in
    record {
      asked = asked_more heard e ∙ ap (λ z. z ++ e.asked ∷ []) g.talking.asked ∙ sym (ap all_in (all_taken log heard g.taken text g.talking) ∙ last_ended kept g.taken g.keeps ends);
      written = sym (append_assoc (written_of log) text answer) ∙ ap (λ z. z ++ answer) g.talking.written ∙ sym (answers_more heard e);
      prompt = prompt_more heard (e ∷ []) (reads_in log) g.talking.prompt;
    }

-- ---- the same, by what calls say

pub going_heard : (log : List Event) (heard new : List Exchange) (kept pushed cleared : Kept) (text into answer : List ℕ) (c : ℕ) (rest : List ℕ) (asked : Sent) →
    does_end kept.begun c ≡ true → pushed ≡ kept_after kept c → asked ≡ sent_of pushed.begun.size pushed.begun.fields →
    cleared ≡ record pushed { begun = record pushed.begun { fields = []; size = 0 } } → into ≡ text ++ answer →
    new ≡ heard ++ (record { asked = asked; answer = answer }) ∷ [] → IsGoing log heard kept (c ∷ rest) text → IsGoing log new cleared rest into
going_heard log heard new kept pushed cleared text into answer c rest asked ends push sent clear wrote told g =
    let k = kept_after kept c in
    let whole : asked ≡ sent_of k.begun.size k.begun.fields = sent ∙ ap (λ (p : Kept). sent_of p.begun.size p.begun.fields) push in
    let emptied : cleared ≡ record k { begun = record k.begun { fields = []; size = 0 } } = clear ∙ ap (λ (p : Kept). record p { begun = record p.begun { fields = []; size = 0 } }) push in
    let all : new ≡ heard ++ (record { asked = sent_of k.begun.size k.begun.fields; answer = answer }) ∷ [] = told ∙ ap (λ s. heard ++ (record { asked = s; answer = answer }) ∷ []) whole in
    subst (λ h. IsGoing log h cleared rest into) (sym all)
    (subst (λ n. IsGoing log (heard ++ (record { asked = sent_of k.begun.size k.begun.fields; answer = answer }) ∷ []) n rest into) (sym emptied)
    (subst (λ i. IsGoing log (heard ++ (record { asked = sent_of k.begun.size k.begun.fields; answer = answer }) ∷ []) (record k { begun = record k.begun { fields = []; size = 0 } }) rest i) (sym wrote)
    (going_answer log heard kept text answer c rest ends g)))

pub over_heard : (log : List Event) (heard new : List Exchange) (kept : Kept) (text into answer : List ℕ) (asked : Sent) → ends_at_end kept.begun.state ≡ true →
    asked ≡ sent_of kept.begun.size (kept.begun.fields ++ kept.begun.field ∷ []) → into ≡ text ++ answer → new ≡ heard ++ (record { asked = asked; answer = answer }) ∷ [] →
    IsGoing log heard kept [] text → IsOver log new into
over_heard log heard new kept text into answer asked ends sent wrote told g =
    let last = sent_of kept.begun.size (kept.begun.fields ++ kept.begun.field ∷ []) in
    let all : new ≡ heard ++ (record { asked = last; answer = answer }) ∷ [] = told ∙ ap (λ s. heard ++ (record { asked = s; answer = answer }) ∷ []) sent in
    subst (λ h. IsOver log h into) (sym all) (subst (λ i. IsOver log (heard ++ (record { asked = last; answer = answer }) ∷ []) i) (sym wrote) (over_answered log heard kept text answer ends g))

-- the next byte of a piece, and those after it
pub going_next : (log : List Event) (heard : List Exchange) (kept : Kept) (text piece : List ℕ) (i : ℕ) → i < length piece → IsGoing log heard kept (drop i piece) text →
    IsGoing log heard kept (get_or piece i 0 ∷ drop (i + 1) piece) text
going_next log heard kept text piece i less g =
    let plus : suc i ≡ i + 1 = omega arith in
    subst (λ r. IsGoing log heard kept r text) (drop-cons piece i 0 less ∙ ap (λ n. get_or piece i 0 ∷ drop n piece) plus) g

-- it was stopped, and nothing more was heard
pub stopped_alike : (log : List Event) (heard new : List Exchange) (why : Trouble) → new ≡ heard → IsStopped log heard why → IsStopped log new why
stopped_alike log heard new why same s = subst (λ h. IsStopped log h why) (sym same) s

-- with the answers that waited before
pub going_kept : (log : List Event) (heard : List Exchange) (kept : Kept) (text now rest : List ℕ) → now ≡ text → IsGoing log heard kept rest text → IsGoing log heard kept rest now
going_kept log heard kept text now rest same g = subst (λ w. IsGoing log heard kept rest w) (sym same) g

-- it was stopped where a write failed, or for what leaves no answer unwritten
pub stopped_writing : (log after : List Event) (heard : List Exchange) (kept : Kept) (text first later rest : List ℕ) → IsGoing log heard kept rest text → text ≡ first ++ later →
    HasWritten log after first → IsStopped after heard trouble.Write
stopped_writing log after heard kept text first later rest g parts w = record {
  taken = g.taken;
  rest = rest;
  text = later;
  talking = talking_wrote log after heard g.taken text first later rest g.talking parts w;
  written = λ no. absurd (let bad : ⊥ = cc no in bad);
}

pub stopped_whole : (log : List Event) (heard : List Exchange) (kept : Kept) (rest : List ℕ) (why : Trouble) → IsGoing log heard kept rest [] → IsStopped log heard why
stopped_whole log heard kept rest why g = record { taken = g.taken; rest = rest; text = []; talking = g.talking; written = λ _. refl }

-- ---- causes

pub rose_before : (before mid now : ℕ) → before ≤ mid → Rose mid now → Rose before now
rose_before before mid now less rose = omega (arith, less, rose)

-- a fault of a part of a call is one of the call
pub fault_before : (log : List Event) (before mid now : ℕ) (why : Trouble) → before ≤ mid → HasFault log mid now why → HasFault log before now why
fault_before log before mid now trouble.Read less h = (h.0, rose_before before mid now less h.1)
fault_before log before mid now trouble.Write less h = (h.0, rose_before before mid now less h.1)
fault_before log before mid now trouble.NoMemory less h = tt
fault_before log before mid now (trouble.Stopped why) less h = tt

-- the host is left as it was, where the last answers are written and where that fails
pub left_writing : (ready : Type 0) (stopped : Stop → Type 0) (why now : Trouble) → is_own why ≡ true → (now ≡ why) ⊎ (now ≡ trouble.Write) → LeavesHost ready stopped why →
    LeavesHost ready stopped now
left_writing ready stopped why now own (inl same) h = subst (LeavesHost ready stopped) (sym same) h
left_writing ready stopped why now own (inr write) h = subst (LeavesHost ready stopped) (sym write) (left why own h)
  where
    left : (why : Trouble) → is_own why ≡ true → LeavesHost ready stopped why → ready ⊎ ((s : Stop) × stopped s)
    left trouble.NoMemory own h = inl h
    left (trouble.Stopped s) own h = inr (s, h)
    left trouble.Read own h = inl h
    left trouble.Write own h = h
