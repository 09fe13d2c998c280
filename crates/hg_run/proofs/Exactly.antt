-- Where a source tells its bytes and does not fail, they decide the answer.
use Rattle.std.proofs.Common.{◌≡◌, ◌∙◌, ◌≤◌, ◌<◌, ℕ, List, ◌++◌, length, Option, Some, None, sym, subst, ap, refl, inl, inr, arith, length-append}
use Rattle.std.proofs.lemmas.List.{append-nil}
use Rattle.std.specs.Io.KnownBytes.{Consumes, IsAtEnd}
use Rattle.hg_base.specs.declared.limits.TheConstants.{MOST_SCRIPT_BYTES}
use Rattle.hg_base.specs.Flows.{Inflow, Outflow}
use Rattle.hg_base.specs.Sound.{IsSound}
use Rattle.hg_script.specs.declared.code.Code.{Code}
use Rattle.hg_words.specs.declared.options.Options.{Options}
use Rattle.hg_words.specs.Options.{options_of}
use Rattle.hg_script.specs.Fields.{rows_of}
use Rattle.hg_script.specs.Meaning.{refusal_of, script_of}
use Rattle.hg_streams.specs.declared.limits.TheConstants.{MOST_AUDIT_BYTES}
use Rattle.hg_streams.specs.declared.status.Status.{Status}
use Rattle.hg_streams.specs.declared.status.Status.TheVariants.{Done, Usage, BadScript, ReadFault, WriteFault, TooLong, LongInput, NoMemory, Spent}
use Rattle.hg_run.specs.Words.{AsksFor, IsMaking, IsReading, Task, audits, dumps, makes, reads, task_of}
use Rattle.hg_streams.specs.Streams.{Change, Gives, IsTooLong, ReadsAll, Took, WriteFailed}
use Rattle.hg_run.specs.Serving.{Answers, GivesLongInput, GivesLongScript, HoldsScript, IsScriptIn, Refuses, WritesAll, WritesExactly, WritesPart, Comes, IsUnlessNoMemory, most_bytes}
use Rattle.hg_run.specs.Printing.{AreExact}
use Rattle.hg_streams.specs.Parting.{AreParts}
use Rattle.hg_streams.proofs.Parted.{one_script}

-- what was read to the end is all there was
whole : (before after : Option (List ℕ)) (all bytes : List ℕ) → before ≡ Some all → Consumes before after bytes → IsAtEnd after → all ≡ bytes
whole before None all bytes told read end = absurd (rw told at read)
whole before (Some rest) all bytes told read end = let e = rw told at read in e ∙ ap (λ z. bytes ++ z) end ∙ append-nil bytes

-- no more is read than there was
no_more : (before after : Option (List ℕ)) (all bytes : List ℕ) → before ≡ Some all → Consumes before after bytes → length bytes ≤ length all
no_more before None all bytes told read = absurd (rw told at read)
no_more before (Some rest) all bytes told read = let e = rw told at read in omega (arith, ap length e, length-append bytes rest)

-- the same of a source that tells its bytes
reads_all : {most : ℕ} (source : Change Inflow) (all bytes : List ℕ) → Gives source all → ReadsAll most source bytes → all ≡ bytes
reads_all source all bytes gives whole_of = whole source.old.left source.new.left all bytes gives.told whole_of.gave.next whole_of.end.none

-- nothing is no value
none_some : {A : Type 0} (o : Option A) (x : A) → o ≡ None → o ≡ Some x → ⊥
none_some o x a b = cc (a, b)

-- the status that a refusal gives
status_of : Option (ℕ × Code) → Status
status_of (Some p) = BadScript p.0 p.1
status_of None = NoMemory

-- equal refusals give equal statuses
same_refusal : (l line : ℕ) (c code : Code) → ◌≡◌ {A = Option (ℕ × Code)} (Some (l, c)) (Some (line, code)) → BadScript l c ≡ BadScript line code
unfolding status_of
same_refusal l line c code e = ap status_of e

-- the headline, out of the cases
pub sound : (words : List (List ℕ)) (source : Change Inflow) (sink : Change Outflow) (status : Status) → Comes words source sink status → status ≡ Done → AsksFor words (λ task. WritesAll task source sink)
sound words source sink status comes done = subst (Comes words source sink) done comes

-- and of a replay, that it prints one text
pub exact : (words : List (List ℕ)) (source : Change Inflow) (sink : Change Outflow) (status : Status) → Comes words source sink status → status ≡ Done → AsksFor words (λ task. WritesExactly task source sink)
exact words source sink status comes done = let all = sound words source sink status comes done in record { options = all.options; asked = all.asked; holds = go (task_of all.options) all.holds }
  where
    go : (task : Task) → WritesAll task source sink → WritesExactly task source sink
    go (reads settings) w = λ is.
        let p = w.answers.text_for.printed in
        record {
          script = script_of (rows_of w.answers.bytes);
          is = record { bytes = w.answers.bytes; all = w.answers.all; valid = w.answers.text_for.valid; same = refl };
          printed = p.printed;
          sound = subst (λ m. IsSound m (script_of (rows_of w.answers.bytes)) p.printed) is p.sound;
          exact = subst (λ m. AreExact m (script_of (rows_of w.answers.bytes)) p.printed.lines) is p.exact;
          taken = subst (Took sink) p.same w.taken;
        }
    go (makes seed settings) w = record {
      script = w.answers.script;
      is = w.answers.made;
      printed = w.answers.printed;
      sound = w.answers.sound;
      exact = w.answers.exact;
      taken = subst (Took sink) w.answers.same w.taken;
    }
    go audits w = tt
    go (dumps settings) w = tt

-- words that are refused ask for nothing
pub usage : (words : List (List ℕ)) (source : Change Inflow) (sink : Change Outflow) (status : Status) → Comes words source sink status → status ≡ Usage → options_of words ≡ None
usage words source sink status comes done = subst (Comes words source sink) done comes

-- ---- what is asked is one thing

same_task : (words : List (List ℕ)) (P Q : Task → Type 0) (a : AsksFor words P) (b : AsksFor words Q) → task_of a.options ≡ task_of b.options
same_task words P Q a b = ap task_of (one a.options b.options (sym a.asked ∙ b.asked))
  where
    one : (a b : Options) → ◌≡◌ {A = Option Options} (Some a) (Some b) → a ≡ b
    one a b e = cc

-- words ask to read, or for a script to be made
not_both : (words : List (List ℕ)) → AsksFor words IsReading → AsksFor words IsMaking → ⊥
not_both words reading making = clash (task_of making.options) (subst IsReading (same_task words IsReading IsMaking reading making) reading.holds) making.holds
  where
    clash : (task : Task) → IsReading task → IsMaking task → ⊥
    clash (reads settings) r m = m
    clash (makes seed settings) r m = r
    clash audits r m = m
    clash (dumps settings) r m = m

-- words that ask for something are not refused
not_usage : (words : List (List ℕ)) (P : Task → Type 0) → AsksFor words P → options_of words ≡ None → ⊥
not_usage words P a none = none_some _ a.options none a.asked

-- what is known of what is asked holds wherever it is asked
same_asked : (words : List (List ℕ)) (P Q : Task → Type 0) (a : AsksFor words P) (b : AsksFor words Q) → P (task_of b.options)
same_asked words P Q a b = subst P (same_task words P Q a b) a.holds

-- a script that is made is not in the source
refuses_read : (task : Task) (source : Change Inflow) (line : ℕ) (code : Code) → Refuses task source line code → IsReading task
refuses_read (reads settings) source line code r = tt
refuses_read (makes seed settings) source line code r = r.refused.within
refuses_read audits source line code r = tt
refuses_read (dumps settings) source line code r = tt

-- nor is one that is too long
long_read : (task : Task) (source : Change Inflow) → GivesLongScript task source → IsReading task
long_read (reads settings) source l = tt
long_read (makes seed settings) source l = l
long_read audits source l = tt
long_read (dumps settings) source l = tt

input_read : (task : Task) (source : Change Inflow) → GivesLongInput task source → IsReading task
input_read (reads settings) source l = tt
input_read (makes seed settings) source l = l
input_read audits source l = tt
input_read (dumps settings) source l = tt

-- a script that is made wants no source
pub loaded : (words : List (List ℕ)) (source : Change Inflow) (sink : Change Outflow) (status : Status) → Comes words source sink status → AsksFor words IsMaking → (WriteFailed sink → ⊥) → IsUnlessNoMemory status Done
loaded words source sink status comes making steady = go status comes
  where
    go : (status : Status) → Comes words source sink status → IsUnlessNoMemory status Done
    go Done comes = inl refl
    go Usage comes = absurd (not_usage words IsMaking making comes)
    go (BadScript line code) comes = absurd (not_both words (record { options = comes.options; asked = comes.asked; holds = refuses_read (task_of comes.options) source line code comes.holds }) making)
    go ReadFault comes = absurd (not_both words (record { options = comes.options; asked = comes.asked; holds = comes.holds.0 }) making)
    go WriteFault comes = absurd (steady comes.holds.failed)
    go TooLong comes = absurd (not_both words (record { options = comes.options; asked = comes.asked; holds = long_read (task_of comes.options) source comes.holds }) making)
    go LongInput comes = absurd (not_both words (record { options = comes.options; asked = comes.asked; holds = input_read (task_of comes.options) source comes.holds }) making)
    go NoMemory comes = inr refl
    go Spent comes = absurd comes

-- ---- the script in the source is one

one_within : (task : Task) (bytes s t : List ℕ) → IsScriptIn task bytes s → IsScriptIn task bytes t → s ≡ t
one_within (reads settings) bytes s t a b = a ∙ sym b
one_within (makes seed settings) bytes s t a b = absurd a
one_within audits bytes s t a b = one_script bytes s a.0 t b.0 a.1 b.1
one_within (dumps settings) bytes s t a b = a ∙ sym b

-- what a source holds is in it
held : (task : Task) (bytes script : List ℕ) → HoldsScript task bytes script → IsScriptIn task bytes script
held (reads settings) bytes script h = h
held (makes seed settings) bytes script h = h
held audits bytes script h = h.0
held (dumps settings) bytes script h = h

-- what is answered of the source is answered of its bytes
module _ (source : Change Inflow) (bytes : List ℕ) (gives : Gives source bytes) where
  -- the script that breaks a rule is the one that is asked of
  refused_same : (task : Task) (script : List ℕ) (line : ℕ) (code : Code) → IsScriptIn task bytes script → (r : Refuses task source line code) → script ≡ r.refused.script
  refused_same task script line code within r =
      let same = reads_all source bytes r.bytes gives r.all in
      one_within task bytes script r.refused.script within (subst (λ (b : List ℕ). IsScriptIn task b r.refused.script) (sym same) r.refused.within)

  refused_in : (task : Task) (script : List ℕ) (line : ℕ) (code : Code) → IsScriptIn task bytes script → Refuses task source line code → refusal_of (rows_of script) ≡ Some (line, code)
  refused_in task script line code within r = ap (λ (s : List ℕ). refusal_of (rows_of s)) (refused_same task script line code within r) ∙ r.refused.first

  -- and is no longer than one may be
  refused_short : (task : Task) (script : List ℕ) (line : ℕ) (code : Code) → IsScriptIn task bytes script → Refuses task source line code → length script ≤ MOST_SCRIPT_BYTES
  refused_short task script line code within r = rw (refused_same task script line code within r) r.refused.short

  -- where there is an answer, the script is valid
  valid_in : (task : Task) (script text : List ℕ) → IsScriptIn task bytes script → Answers task source text → refusal_of (rows_of script) ≡ None
  valid_in (reads settings) script text within answers = ap (λ (s : List ℕ). refusal_of (rows_of s)) (within ∙ reads_all source bytes answers.bytes gives answers.all) ∙ answers.text_for.valid
  valid_in (dumps settings) script text within answers = ap (λ (s : List ℕ). refusal_of (rows_of s)) (within ∙ reads_all source bytes answers.bytes gives answers.all) ∙ answers.text_for.valid
  valid_in (makes seed settings) script text within answers = absurd within
  valid_in audits script text within answers =
      let judged = answers.text_for.on in
      let parts = subst (λ (b : List ℕ). AreParts b judged.script judged.text) (sym (reads_all source bytes answers.bytes gives answers.all)) judged.parts in
      ap (λ (s : List ℕ). refusal_of (rows_of s)) (one_script bytes script within.0 judged.script judged.text within.1 parts) ∙ judged.valid

  -- and no longer than one may be
  short_in : (task : Task) (script text : List ℕ) → IsScriptIn task bytes script → Answers task source text → length script ≤ MOST_SCRIPT_BYTES
  short_in (reads settings) script text within answers = rw (within ∙ reads_all source bytes answers.bytes gives answers.all) answers.all.short
  short_in (dumps settings) script text within answers = rw (within ∙ reads_all source bytes answers.bytes gives answers.all) answers.all.short
  short_in (makes seed settings) script text within answers = absurd within
  short_in audits script text within answers =
      let judged = answers.text_for.on in
      let parts = subst (λ (b : List ℕ). AreParts b judged.script judged.text) (sym (reads_all source bytes answers.bytes gives answers.all)) judged.parts in
      rw (one_script bytes script within.0 judged.script judged.text within.1 parts) judged.short

  -- what was read in part is no more than there was
  read_some : (most : ℕ) → IsTooLong most source → most < length bytes
  read_some most l = omega (arith, no_more source.old.left source.new.left bytes l.bytes gives.told l.gave.next, l.long)

  -- what is read of too long a script is of the one that is asked of
  long_in : (task : Task) (script : List ℕ) → IsScriptIn task bytes script → GivesLongScript task source → MOST_SCRIPT_BYTES < length script
  long_in (reads settings) script within l = rw within (read_some MOST_SCRIPT_BYTES l)
  long_in (makes seed settings) script within l = absurd l
  long_in (dumps settings) script within l = rw within (read_some MOST_SCRIPT_BYTES l)
  long_in audits script within (read, all, l) =
      let parts = subst (λ (b : List ℕ). IsScriptIn audits b l.script) (sym (reads_all source bytes read gives all)) l.within in
      rw (one_within audits bytes script l.script within parts) l.long

  -- an input that is held is not too long
  not_long_input : (task : Task) (script : List ℕ) → HoldsScript task bytes script → GivesLongInput task source → ⊥
  not_long_input (reads settings) script h l = l
  not_long_input (makes seed settings) script h l = l
  not_long_input (dumps settings) script h l = l
  not_long_input audits script h l = omega (arith, read_some MOST_AUDIT_BYTES l, h.1)

  -- an audit that answers has read no more than it may
  audit_short : (text : List ℕ) → Answers audits source text → length bytes ≤ MOST_AUDIT_BYTES
  audit_short text answers = rw (reads_all source bytes answers.bytes gives answers.all) answers.all.short

module _ (words : List (List ℕ)) (source : Change Inflow) (sink : Change Outflow) (bytes : List ℕ) where
  -- what the words ask for holds a script
  is_in : (script : List ℕ) (P : Task → Type 0) → AsksFor words (λ task. HoldsScript task bytes script) → (a : AsksFor words P) → IsScriptIn (task_of a.options) bytes script
  is_in script P within a = held (task_of a.options) bytes script (same_asked words (λ task. HoldsScript task bytes script) P within a)

  -- the input is not too long
  not_input : (script : List ℕ) → AsksFor words (λ task. HoldsScript task bytes script) → Gives source bytes → AsksFor words (λ task. GivesLongInput task source) → ⊥
  not_input script within gives a = not_long_input source bytes gives (task_of a.options) script
      (same_asked words (λ task. HoldsScript task bytes script) (λ task. GivesLongInput task source) within a) a.holds

  -- nor the script
  not_script : (script : List ℕ) → AsksFor words (λ task. HoldsScript task bytes script) → Gives source bytes → length script ≤ MOST_SCRIPT_BYTES →
      AsksFor words (λ task. GivesLongScript task source) → ⊥
  not_script script within gives short a =
      omega (arith, short, long_in source bytes gives (task_of a.options) script (is_in script (λ task. GivesLongScript task source) within a) a.holds)

  -- a valid script and no fault: all is done, or memory is wanting
  pub complete : (script : List ℕ) (status : Status) → Comes words source sink status → AsksFor words (λ task. HoldsScript task bytes script) → Gives source bytes → length script ≤ MOST_SCRIPT_BYTES
      → refusal_of (rows_of script) ≡ None → (WriteFailed sink → ⊥) → IsUnlessNoMemory status Done
  complete script Done comes within gives short valid steady = inl refl
  complete script Usage comes within gives short valid steady = absurd (not_usage words (λ task. HoldsScript task bytes script) within comes)
  complete script (BadScript line code) comes within gives short valid steady =
      let one = is_in script (λ task. Refuses task source line code) within comes in
      absurd (none_some _ (line, code) valid (refused_in source bytes gives (task_of comes.options) script line code one comes.holds))
  complete script ReadFault comes within gives short valid steady = absurd (gives.steady comes.holds.1.failed)
  complete script WriteFault comes within gives short valid steady = absurd (steady comes.holds.failed)
  complete script TooLong comes within gives short valid steady = absurd (not_script script within gives short comes)
  complete script LongInput comes within gives short valid steady = absurd (not_input script within gives comes)
  complete script NoMemory comes within gives short valid steady = inr refl
  complete script Spent comes within gives short valid steady = absurd comes

  -- a script that breaks a rule is refused, or memory is wanting
  pub bad_script : (script : List ℕ) (line : ℕ) (code : Code) (status : Status) → Comes words source sink status → AsksFor words (λ task. HoldsScript task bytes script) →
      Gives source bytes → length script ≤ MOST_SCRIPT_BYTES
      → refusal_of (rows_of script) ≡ Some (line, code) → IsUnlessNoMemory status (BadScript line code)
  bad_script script line code Done comes within gives short refused =
      let one = is_in script (λ task. WritesAll task source sink) within comes in
      absurd (none_some _ (line, code) (valid_in source bytes gives (task_of comes.options) script comes.holds.text one comes.holds.answers) refused)
  bad_script script line code Usage comes within gives short refused = absurd (not_usage words (λ task. HoldsScript task bytes script) within comes)
  bad_script script line code (BadScript l c) comes within gives short refused =
      let one = is_in script (λ task. Refuses task source l c) within comes in
      inl (same_refusal l line c code (sym (refused_in source bytes gives (task_of comes.options) script l c one comes.holds) ∙ refused))
  bad_script script line code ReadFault comes within gives short refused = absurd (gives.steady comes.holds.1.failed)
  bad_script script line code WriteFault comes within gives short refused =
      let one = is_in script (λ task. WritesPart task source sink) within comes in
      absurd (none_some _ (line, code) (valid_in source bytes gives (task_of comes.options) script comes.holds.text one comes.holds.answers) refused)
  bad_script script line code TooLong comes within gives short refused = absurd (not_script script within gives short comes)
  bad_script script line code LongInput comes within gives short refused = absurd (not_input script within gives comes)
  bad_script script line code NoMemory comes within gives short refused = inr refl
  bad_script script line code Spent comes within gives short refused = absurd comes

  -- a script with too many bytes is too long, or memory is wanting
  pub too_long : (script : List ℕ) (status : Status) → Comes words source sink status → AsksFor words (λ task. HoldsScript task bytes script) → Gives source bytes → MOST_SCRIPT_BYTES < length script
      → IsUnlessNoMemory status TooLong
  too_long script Done comes within gives long =
      let one = is_in script (λ task. WritesAll task source sink) within comes in
      absurd (omega (arith, short_in source bytes gives (task_of comes.options) script comes.holds.text one comes.holds.answers, long))
  too_long script Usage comes within gives long = absurd (not_usage words (λ task. HoldsScript task bytes script) within comes)
  too_long script (BadScript line code) comes within gives long =
      let one = is_in script (λ task. Refuses task source line code) within comes in
      absurd (omega (arith, refused_short source bytes gives (task_of comes.options) script line code one comes.holds, long))
  too_long script ReadFault comes within gives long = absurd (gives.steady comes.holds.1.failed)
  too_long script WriteFault comes within gives long =
      let one = is_in script (λ task. WritesPart task source sink) within comes in
      absurd (omega (arith, short_in source bytes gives (task_of comes.options) script comes.holds.text one comes.holds.answers, long))
  too_long script TooLong comes within gives long = inl refl
  too_long script LongInput comes within gives long = absurd (not_input script within gives comes)
  too_long script NoMemory comes within gives long = inr refl
  too_long script Spent comes within gives long = absurd comes

  -- an audit's source with too many bytes is a long input, or memory is wanting
  pub long_input : (status : Status) → Comes words source sink status → AsksFor words (λ task. task ≡ audits) → Gives source bytes → MOST_AUDIT_BYTES < length bytes
      → IsUnlessNoMemory status LongInput
  long_input Done comes asked gives long =
      let is = same_asked words (λ task. task ≡ audits) (λ task. WritesAll task source sink) asked comes in
      absurd (omega (arith, audit_short source bytes gives comes.holds.text (subst (λ (task : Task). Answers task source comes.holds.text) is comes.holds.answers), long))
  long_input Usage comes asked gives long = absurd (not_usage words (λ task. task ≡ audits) asked comes)
  long_input (BadScript line code) comes asked gives long =
      let is = same_asked words (λ task. task ≡ audits) (λ task. Refuses task source line code) asked comes in
      let all = subst (λ (task : Task). ReadsAll (most_bytes task) source comes.holds.bytes) is comes.holds.all in
      absurd (omega (arith, ap length (reads_all source bytes comes.holds.bytes gives all), all.short, long))
  long_input ReadFault comes asked gives long = absurd (gives.steady comes.holds.1.failed)
  long_input WriteFault comes asked gives long =
      let is = same_asked words (λ task. task ≡ audits) (λ task. WritesPart task source sink) asked comes in
      absurd (omega (arith, audit_short source bytes gives comes.holds.text (subst (λ (task : Task). Answers task source comes.holds.text) is comes.holds.answers), long))
  long_input TooLong comes asked gives long =
      let is = same_asked words (λ task. task ≡ audits) (λ task. GivesLongScript task source) asked comes in
      let l = subst (λ (task : Task). GivesLongScript task source) is comes.holds in
      absurd (omega (arith, ap length (reads_all source bytes l.0 gives l.1), l.1.short, long))
  long_input LongInput comes asked gives long = inl refl
  long_input NoMemory comes asked gives long = inr refl
  long_input Spent comes asked gives long = absurd comes
