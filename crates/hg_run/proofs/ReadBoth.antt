-- What a run next to a reader printed and read, where both dumps were empty before.
use Rattle.std.proofs.Common.{◌≡◌, ◌≤◌, ℕ, ◌+◌, List, [], ◌∷◌, ◌++◌, length, suc, sym, ap, ◌∙◌, subst, arith}
use Rattle.std.specs.declared.alloc.Global.{Global}
use Rattle.hg_dump.proofs.Holding.{within_alone}
use Rattle.hg_base.specs.declared.line.Line.{Line}
use Rattle.hg_base.specs.declared.line.Printed.{Printed}
use Rattle.hg_base.specs.declared.line.Totals.{Totals}
use Rattle.hg_base.specs.declared.statement.Record.{Record}
use Rattle.hg_base.specs.Lists.{Each}
use Rattle.hg_base.specs.Script.{Script, run}
use Rattle.hg_base.proofs.ListFacts.{each_keeps}
use Rattle.hg_rule.specs.declared.passes.SessionPass.{SessionPass}
use Rattle.hg_rule.specs.Seats.{session_view}
use Rattle.hg_script.specs.Lawful.{IsLawful, IsStatement}
use Rattle.hg_session.specs.declared.engine.Engine.{Engine}
use Rattle.hg_session.specs.declared.session.Session.{Session}
use Rattle.hg_session.specs.Engines.{engine_sizes}
use Rattle.hg_session.specs.Finished.{IsClosed}
use Rattle.hg_session.specs.Opened.{seated}
use Rattle.hg_dump.specs.Records.{dump_text}
use Rattle.hg_dump.specs.Rows.{rows_at}
use Rattle.hg_collectors.specs.declared.collectors.Collectors.{Collectors}
use Rattle.hg_headline.specs.OneRun.{IsOneRun}
use Rattle.hg_run.specs.Driven.{sessions_in}
use Rattle.hg_run.specs.Reader.{IsOpenedBeside, list_with}
use Rattle.hg_run.proofs.Closes.{new_logs}
use Rattle.hg_run.proofs.Readers.{read_is_closed}
use Rattle.hg_run.specs.declared.dump_text.Dumps.{Dumps}
use Rattle.hg_run.specs.Dumping.{HasReadBoth, HasRunAndRead}
use Rattle.hg_run.proofs.OneRun.{read_logs, run_one_run}
use Rattle.hg_run.proofs.Dumped.{all_read, first_text, last_closed, last_text, no_log, read_once, read_twice}
use Rattle.hg_run.proofs.WholeDump.{groups_printed, rows_printed, sound_with_reader}

module _ (buckets long rounds : ℕ) (script : Script) (lawful : IsLawful script) (e : Engine) (list : List Session) (before : Collectors) (pass : SessionPass)
    (o : IsOpenedBeside script buckets e list before pass) (alloc : Global) (was : Dumps) (empty : (was.first.items ≡ []) × (was.last.items ≡ []))
    (lines : List Line) (totals : Totals) (dumps : Dumps) (h : HasRunAndRead alloc e long rounds script list before pass was lines totals dumps) where
  abbrev printed : Printed
  printed = record { lines = lines; totals = totals }

  -- the session of the reader is closed, as all others are
  closed : IsClosed e (suc (length h.new)) (seated alloc 0 h.middle)
  closed = subst (λ m. IsClosed e (suc m) (seated alloc 0 h.middle)) (sym h.many)
      (read_is_closed e alloc (suc (length list)) dumps.at pass h.middle (last_closed script buckets e list before pass o alloc) o.may.begins h.dumped.read h.own)

  numbered : Each (λ (r : Record). 1 ≤ r.session) script.records
  numbered = each_keeps (IsStatement script.tables) (λ (r : Record). 1 ≤ r.session) (λ r s. s.some) script.records lawful.statements

  pub has_read_both : HasReadBoth (record { mode = run rounds; buckets = buckets; long = long }) script lines totals dumps
  has_read_both =
      let at : ℕ = dumps.at in
      let n : ℕ = dumps.end in
      let new = h.new in
      let after = h.after in
      let first = h.middle in
      let read = h.closed in
      let last = read.last in
      let d = h.driven in
      let once = read_once at pass first (no_log script buckets e list before pass o) h.dumped.read in
      let twice = read_twice at n first last once read.dumped.read in
      let none = new_logs e (engine_sizes e).quota list o.new in
      let sizes : (engine_sizes e).sessions ≡ 1 + sessions_in script = (let s : (engine_sizes e).sessions ≡ suc (sessions_in script) = o.opened.sessions_are in omega (arith, s)) in
      let sound = sound_with_reader e long rounds script list new before after lines totals alloc first last at n d read.closed read.began once twice none o.opened.none
      numbered o.more o.many h.many in
      let rows = rows_printed e long rounds script list new before after lines totals alloc first last at n d read.closed read.began once twice none o.opened.none numbered o.more o.many
      h.many in
      let groups = groups_printed e long rounds script list new before after lines totals alloc first last at n d read.closed read.began once twice none o.opened.none numbered
      o.more o.many h.many in
      let one : dumps.first.items ≡ was.first.items ++ dump_text script (rows_at script.tables read.closed.history at) = first_text alloc e script new after first
      was.last.items dumps.last.items totals n read closed at (session_view pass) was.first.items dumps.first.items h.dumped in
      let two : dumps.last.items ≡ was.last.items ++ dump_text script (rows_at script.tables read.closed.history n) = last_text alloc e script new after first
      was.last.items dumps.last.items totals n read closed in
      record {
        sound = sound;
        within = (within_alone rounds script (at ∷ []) printed sound).0;
        one_run = record {
          quota = (engine_sizes e).quota;
          run = subst (λ b. IsOneRun (sessions_in script) 1 b (engine_sizes e).quota long script lines totals) o.opened.buckets_are
              (run_one_run 1 long rounds script e before after list new (list_with alloc new last) lines totals sizes o.many o.opened.tables none o.opened.fresh d read.closed.run
              (λ j is. read_logs alloc new last j (let le = is.last in let m = h.many in let n = o.many in omega (arith, le, m, n))));
        };
        first = one ∙ ap (λ (l : List ℕ). l ++ dump_text script (rows_at script.tables read.closed.history at)) empty.0 ∙ ap (dump_text script) (rows at);
        end_is = all_read alloc e script new after first was.last.items dumps.last.items totals n read closed ∙ groups;
        last = two ∙ ap (λ (l : List ℕ). l ++ dump_text script (rows_at script.tables read.closed.history n)) empty.1 ∙ ap (dump_text script) (rows n);
      }
