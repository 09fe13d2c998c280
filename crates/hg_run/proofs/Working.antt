-- A session's worker: statement by statement.
use Rattle.std.proofs.Common.{◌≡◌, ℕ, suc, List, [], ◌∷◌, ◌++◌, length, Bool, true, false, Option, Some, None, refl, sym, ap, ◌∙◌, subst, arith, append_assoc}
use Rattle.std.specs.Prelude.{◌&&◌, is_some, Result, Ok, Err, IfOk, IfSome}
use Rattle.hg_base.specs.declared.fault.NoMemory.{NoMemory}
use Rattle.hg_base.specs.declared.report.Kind.{Kind}
use Rattle.hg_base.specs.declared.scope.Snapshot.{Snapshot}
use Rattle.hg_base.specs.declared.statement.Statement.{Statement}
use Rattle.hg_base.specs.declared.statement.Statement.TheVariants.{Gc}
use Rattle.hg_base.specs.declared.statement.Record.{Record}
use Rattle.hg_base.specs.declared.line.Answer.{Answer}
use Rattle.hg_base.specs.declared.line.Answer.TheVariants.{Beside}
use Rattle.hg_base.specs.declared.line.Reply.{Reply}
use Rattle.hg_base.specs.declared.line.Line.{Line}
use Rattle.hg_base.specs.Lists.{Each}
use Rattle.hg_base.specs.Shape.{HasShape}
use Rattle.hg_base.proofs.ListFacts.{append_nil}
use Rattle.hg_core.specs.declared.log.LogEntry.{LogEntry}
use Rattle.hg_core.specs.Logs.{current}
use Rattle.hg_base.specs.Transcript.{Rest, rest_after}
use Rattle.hg_core.specs.Reading.{Unprinted, FitsIn, FitsScope, Tells, is_alone, log_with}
use Rattle.hg_core.proofs.Answering.{not_alone}
use Rattle.hg_rule.specs.declared.view.Sizes.{Sizes}
use Rattle.hg_headline.specs.Ran.{LeavesGc}
use Rattle.hg_headline.proofs.Loops.{line_of}
use Rattle.hg_session.specs.declared.engine.Engine.{Engine}
use Rattle.hg_session.specs.Engines.{engine_sizes}
use Rattle.hg_session.specs.declared.session.Session.{Session}
use Rattle.hg_session.specs.Cursors.{HasLeft}
use Rattle.hg_session.specs.Replies.{inside}
use Rattle.hg_session.specs.Sessions.{IsOf, log_of, number_of, open_of, cursor_of}
use Rattle.hg_script.specs.Rules.{opened}
use Rattle.hg_run.specs.declared.work.Worker.{Worker}
use Rattle.hg_run.specs.Asked.{IsAnswered, MayAsk, collector_asked}
use Rattle.hg_exact.specs.Opening.{AreOpen}
use Rattle.hg_run.specs.Working.{MayFollow, IsAskedOf, IsStep, IsReady, IsHired, HasStepped, HasTaken, HasRun}
use Rattle.hg_run.proofs.Cursors.{nothing_left}
use Rattle.hg_exact.proofs.OpenAfter.{held, open_after, open_step}

-- ---- one statement

nothing_unprinted : Unprinted
nothing_unprinted = record { found = []; part = λ b. []; undone = []; rest = None; looked = 0 }

-- a `gc` is left to the collectors
beside_step : (buckets : ℕ) (rest : Option Rest) (log : List LogEntry) (s : Statement) (kind : Kind) → collector_asked s ≡ Some kind → IsStep buckets rest log s (inside Beside) log
beside_step buckets rest log (Gc k) kind e = record {
  u = nothing_unprinted;
  fits = record {
    at = sym (not_alone (current log) (Gc k) refl);
    number = number (is_alone (current log) (Gc k));
    answer = tt;
    scope = scope (current log);
    inside = no_fetch (current log);
  };
  rest_is = tt;
  leaves = tt;
  log = sym (ap (λ b. log_with b buckets nothing_unprinted (Gc k) (inside Beside) log) (not_alone (current log) (Gc k) refl));
}
  where
    no_fetch : (o : Option Snapshot) → FitsIn o (Gc k)
    no_fetch o = tt

    number : (b : Bool) → false ≡ (b && false)
    number true = refl
    number false = refl

    scope : (o : Option Snapshot) → IfSome o (λ snapshot. FitsScope snapshot.scope (Gc k) Beside)
    scope None = tt
    scope (Some snapshot) = tt
beside_step buckets rest log _ kind e = absurd (let z : Some kind ≡ None = sym e in cc)

-- which leaves the session's cursor as it was
pub beside_taken : (buckets : ℕ) (s : Session) (it : Statement) (kind : Kind) → collector_asked it ≡ Some kind → HasTaken buckets s it (inside Beside) s
beside_taken buckets s (Gc k) kind e = record { step = λ rest left. beside_step buckets rest (log_of s) (Gc k) kind e; moved = λ rest left. left; reads = refl }
beside_taken buckets s _ kind e = absurd (let z : Some kind ≡ None = sym e in cc)

leaves_none : (s : Statement) (a : Answer) → collector_asked s ≡ None → LeavesGc s a
leaves_none (Gc kind) a h = absurd (let z : Some kind ≡ None = h in cc)
leaves_none _ a h = tt

pub asked_taken : (z : Sizes) (old new : Session) (s : Statement) (result : Result Reply NoMemory) → collector_asked s ≡ None → IfOk result (λ reply. IsAnswered z old s reply new)
    → IfOk result (λ reply. HasTaken z.buckets old s reply new)
asked_taken z old new s (Ok reply) none h = record {
  step = λ rest left. (let a = h.answers rest left in record { u = a.answers.u; fits = a.answers.fits; rest_is = a.rest_is; leaves = leaves_none s reply.answer none; log = a.answers.log });
  moved = h.moved;
  reads = h.reads;
}
asked_taken z old new s (Err e) none h = tt

-- ---- one record after the other

-- The worker has run its first records, and the rest of them may come. Its session's cursor has this left. Whatever the rest is
-- answered, the lines so far and those are the lines of all.
pub record IsRunning (e : Engine) (first now : Worker) : Type 0 where
  pub ready : IsReady e now
  pub number_is : number_of now.session ≡ number_of first.session
  pub tables : now.transcript.tables ≡ first.transcript.tables
  pub willing : now.refused ≡ false
  pub rest : Option Rest
  pub left : HasLeft now.session rest
  pub shape : (more : List Line) → HasShape now.records more → HasShape first.records (now.transcript.lines ++ more)
  pub tells : (more : List Line) (final : List LogEntry) → Tells (engine_sizes e).buckets (λ r line. LeavesGc r.statement line.reply.answer) (log_of now.session) rest now.records more final →
      Tells (engine_sizes e).buckets (λ r line. LeavesGc r.statement line.reply.answer) (log_of first.session) None first.records (now.transcript.lines ++ more) final

pub running_first : (e : Engine) (w : Worker) → IsHired e w → IsRunning e w w
running_first e w h = record {
  ready = h.ready;
  number_is = refl;
  tables = refl;
  willing = h.willing;
  rest = None;
  left = nothing_left w.session None h.cursor;
  shape = λ more s. subst (HasShape w.records) (sym (none more)) s;
  tells = λ more final t. subst (λ lines. Tells (engine_sizes e).buckets (λ r line. LeavesGc r.statement line.reply.answer) (log_of w.session) None w.records lines final) (sym (none more)) t;
}
  where
    none : (more : List Line) → w.transcript.lines ++ more ≡ more
    none more = ap (λ lines. lines ++ more) h.none

pub running_more : (e : Engine) (r : Record) (first old new : Worker) → HasStepped e r old new → IsOf e new.session → number_of new.session ≡ number_of old.session →
    new.transcript.tables ≡ old.transcript.tables → new.refused ≡ old.refused → IsRunning e first old → IsRunning e first new
running_more e r first old new h own number tables refused g =
    let asked : Each (IsAskedOf (engine_sizes e).tables) (r ∷ new.records) = subst (Each (IsAskedOf (engine_sizes e).tables)) h.records g.ready.asked in
    let reads : Bool = is_some (cursor_of old.session) in
    let may : MayFollow g.ready.within reads (r ∷ new.records) = subst (MayFollow g.ready.within reads) h.records g.ready.may in
    let many : length old.records ≡ suc (length new.records) = ap (λ rs. length rs) h.records in
    let now : is_some (open_of new.session) ≡ held (is_some (open_of old.session)) r.statement = ap (λ log. is_some (current log)) step.log ∙
    open_after (engine_sizes e).buckets step.u r.statement line.reply (log_of old.session) step.fits in
    record {
      ready = record {
        own = own;
        asked = asked.1;
        within = opened g.ready.within r.statement;
        opens = subst (λ p. p) (λ i. AreOpen (opened g.ready.within r.statement) (sym h.answered.taken.reads i) (sym now i))
            (open_step r.statement g.ready.within reads (is_some (open_of old.session)) g.ready.opens may.0);
        may = subst (λ b. MayFollow (opened g.ready.within r.statement) b new.records) (sym h.answered.taken.reads) may.1;
        left = (let a = g.ready.left in let b = h.left in omega (arith, a, b, many));
      };
      number_is = number ∙ g.number_is;
      tables = tables ∙ g.tables;
      willing = refused ∙ g.willing;
      rest = rest_after r.statement line.reply.answer g.rest;
      left = h.answered.taken.moved g.rest g.left;
      shape = λ more s. subst (HasShape first.records) (joins more) (g.shape (line ∷ more) (subst (λ rs. HasShape rs (line ∷ more)) (sym h.records) (line_of r line asked.0.some refl refl, s)));
      tells = λ more final t. subst (λ lines. Tells (engine_sizes e).buckets P (log_of first.session) None first.records lines final) (joins more)
          (g.tells (line ∷ more) final (subst (λ rs. Tells (engine_sizes e).buckets P (log_of old.session) g.rest rs (line ∷ more) final) (sym h.records)
          (step.leaves, (step.u, step.fits, subst (λ log. Tells (engine_sizes e).buckets P log (rest_after r.statement line.reply.answer g.rest) new.records more final) step.log t, step.rest_is))));
    }
  where
    line : Line
    line = record { session = r.session; place = r.place; reply = h.answered.reply }

    step : IsStep (engine_sizes e).buckets g.rest (log_of old.session) r.statement h.answered.reply (log_of new.session)
    step = h.answered.taken.step g.rest g.left

    P : Record → Line → Type 0
    P q l = LeavesGc q.statement l.reply.answer

    joins : (more : List Line) → old.transcript.lines ++ (line ∷ more) ≡ new.transcript.lines ++ more
    joins more = sym (append_assoc old.transcript.lines (line ∷ []) more) ∙ ap (λ lines. lines ++ more) (sym h.answered.lines)

-- the next record may be asked
pub may_run : (e : Engine) (w : Worker) (r : Record) (rest : List Record) → IsReady e w → w.records ≡ r ∷ rest → MayAsk w.session r.statement
may_run e w r rest h is = record { within = h.within; opens = h.opens; may = (subst (MayFollow h.within (is_some (cursor_of w.session))) is h.may).0 }

pub running_last : (e : Engine) (first now : Worker) → now.records ≡ [] → IsRunning e first now → HasRun (engine_sizes e).buckets first now
running_last e first now over g = record {
  shape = subst (HasShape first.records) (append_nil now.transcript.lines) (g.shape [] (subst (λ rs. HasShape rs []) (sym over) tt));
  tells = subst (λ lines. Tells (engine_sizes e).buckets P (log_of first.session) None first.records lines (log_of now.session)) (append_nil now.transcript.lines)
      (g.tells [] (log_of now.session) (subst (λ rs. Tells (engine_sizes e).buckets P (log_of now.session) g.rest rs [] (log_of now.session)) (sym over) refl));
}
  where
    P : Record → Line → Type 0
    P r line = LeavesGc r.statement line.reply.answer
