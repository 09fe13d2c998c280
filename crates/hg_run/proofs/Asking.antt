-- Whether a statement asks for a collector.
use Rattle.std.proofs.Common.{◌≡◌, ℕ, suc, List, Bool, Option, Some, None, ap}
use Rattle.std.specs.Prelude.{Result, Ok, Err, OnOk}
use Rattle.std.specs.Option.{option_map_or}
use Rattle.hg_base.specs.declared.report.Kind.{Kind}
use Rattle.hg_base.specs.declared.report.Sweep.{Sweep}
use Rattle.hg_base.specs.declared.statement.Statement.{Statement}
use Rattle.hg_base.specs.declared.statement.Statement.TheVariants.{Begin, Get, Put, Del, Scan, CursorOpen, Fetch, CursorClose, Commit as CommitIt, Rollback, Gc}
use Rattle.hg_base.specs.declared.line.Reply.{Reply}
use Rattle.hg_base.specs.Shape.{report_of}
use Rattle.hg_base.specs.Transcript.{Rest}
use Rattle.hg_core.specs.Logs.{own_writes}
use Rattle.hg_headline.proofs.Reports.{no_report}
use Rattle.hg_session.specs.declared.engine.Engine.{Engine}
use Rattle.hg_session.specs.declared.session.Session.{Session}
use Rattle.hg_session.specs.Engines.{engine_sizes}
use Rattle.hg_session.specs.Finished.{logs_of}
use Rattle.hg_run.specs.Asked.{HasReplied, collector_asked}
use Rattle.hg_run.specs.Listed.{AreReady, one_more}
use Rattle.hg_collectors.specs.Swept.{swept_by, told_of}
use Rattle.hg_run.proofs.FreshNumbers.{leaves_gc}
use Rattle.hg_run.proofs.Going.{ready_less}
use Rattle.hg_run.proofs.Turns.{more_than}

pub gc_is : (s : Statement) (kind : Kind) → collector_asked s ≡ Some kind → s ≡ Gc kind
gc_is (Gc other) kind e = ap Gc (same other kind e)
  where
    same : (a b : Kind) → ◌≡◌ {A = Option Kind} (Some a) (Some b) → a ≡ b
    same a b e = cc
gc_is (Begin scope) kind e = absurd (let z : None ≡ Some kind = e in cc)
gc_is (Get r) kind e = absurd (let z : None ≡ Some kind = e in cc)
gc_is (Put r row) kind e = absurd (let z : None ≡ Some kind = e in cc)
gc_is (Del r) kind e = absurd (let z : None ≡ Some kind = e in cc)
gc_is (Scan t low high) kind e = absurd (let z : None ≡ Some kind = e in cc)
gc_is (CursorOpen t low high) kind e = absurd (let z : None ≡ Some kind = e in cc)
gc_is (Fetch n) kind e = absurd (let z : None ≡ Some kind = e in cc)
gc_is CursorClose kind e = absurd (let z : None ≡ Some kind = e in cc)
gc_is CommitIt kind e = absurd (let z : None ≡ Some kind = e in cc)
gc_is Rollback kind e = absurd (let z : None ≡ Some kind = e in cc)

-- the reply to another tells nothing
pub none_reported : (e : Engine) (seen : ℕ) (reads : ℕ → Bool) (rest : ℕ → Option Rest) (old : List Session) (i : ℕ) (s : Statement) (reply : Reply) (new : List Session) →
    collector_asked s ≡ None → HasReplied e seen reads rest old i s reply new → report_of reply ≡ None
none_reported e seen reads rest old i s reply new other h = no_report (engine_sizes e).buckets h.replied.u (own_writes (logs_of old (suc i))) s reply.answer
    (leaves_gc s reply.answer other) h.replied.fits.answer

pub none_told : (e : Engine) (seen : ℕ) (reads : ℕ → Bool) (rest : ℕ → Option Rest) (old : List Session) (i : ℕ) (s : Statement) (reply : Reply) (new : List Session) →
    collector_asked s ≡ None → HasReplied e seen reads rest old i s reply new → (k : Kind) → told_of k reply ≡ 0
none_told e seen reads rest old i s reply new other h k = ap (λ (o : Option Sweep). option_map_or (swept_by k) o 0) (none_reported e seen reads rest old i s reply new other h)

pub ready_fewer : (e : Engine) (i : ℕ) (left : ℕ → ℕ) (list : List Session) → AreReady e i (one_more (suc i) left) list → AreReady e i left list
ready_fewer e i left list r = ready_less e i left (one_more (suc i) left) list (λ j. more_than (suc i) j left) r

pub on_ok : {A E : Type 0} (P Q : Type 0) (result : Result A E) → (P → Q) → OnOk result P → OnOk result Q
on_ok P Q (Ok x) f h = f h
on_ok P Q (Err e) f h = tt
