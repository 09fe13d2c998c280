-- From an engine with one session more to the text of a dump.
use Rattle.std.proofs.Common.{◌≡◌, ℕ, suc, ◌+◌, List, [], ◌∷◌, ◌++◌, length, refl, sym, ap, ◌∙◌, subst, arith, append_assoc}
use Rattle.std.specs.Prelude.{is_some, Result, Ok, Err, IfOk}
use Rattle.std.specs.declared.alloc.Global.{Global}
use Rattle.hg_dump.proofs.Backup.{backup}
use Rattle.hg_dump.proofs.Exported.{logged_goes, reads_more}
use Rattle.hg_dump.proofs.Newest.{newest}
use Rattle.hg_dump.specs.Reader.{HasReadAll, without_looks}
use Rattle.hg_base.specs.declared.fault.NoMemory.{NoMemory}
use Rattle.hg_base.specs.declared.line.Line.{Line}
use Rattle.hg_base.specs.declared.line.Totals.{Totals}
use Rattle.hg_base.specs.declared.scope.Scope.TheVariants.{All}
use Rattle.hg_base.specs.Script.{Script}
use Rattle.hg_base.specs.Text.{IsFit, text_of}
use Rattle.hg_records.specs.Bytes.{record_bytes}
use Rattle.hg_core.specs.declared.log.LogEntry.{LogEntry}
use Rattle.hg_core.specs.declared.log.LogEntry.TheVariants.{Began, Over}
use Rattle.hg_core.specs.Logs.{begans, current, open_in, UpTo}
use Rattle.hg_cursor.specs.Logs.{GoesOn}
use Rattle.hg_dump.specs.Exports.{HasReadAt, MayExport}
use Rattle.hg_exact.proofs.PutRows.{shown_was_put}
use Rattle.hg_rule.specs.declared.passes.SessionPass.{SessionPass}
use Rattle.hg_rule.specs.declared.view.View.{View}
use Rattle.hg_rule.specs.Facts.{EndsWith}
use Rattle.hg_rule.specs.Seats.{session_view, IsSessionOf}
use Rattle.hg_rule.specs.Views.{session}
use Rattle.hg_script.specs.Lawful.{IsLawful}
use Rattle.hg_session.specs.declared.engine.Engine.{Engine}
use Rattle.hg_session.specs.declared.session.Session.{Session}
use Rattle.hg_session.specs.Engines.{engine_board_id, engine_sizes}
use Rattle.hg_session.specs.Finished.{logs_of, IsClosed}
use Rattle.hg_session.specs.Opened.{seated, IsNewOf}
use Rattle.hg_session.specs.Sessions.{pass_of}
use Rattle.hg_session.specs.Ties.{phase_at}
use Rattle.hg_dump.specs.Backup.{IsBackup}
use Rattle.hg_dump.specs.Records.{dump_text}
use Rattle.hg_dump.specs.Rows.{rows_at}
use Rattle.hg_store.proofs.Filling.{each_from_at}
use Rattle.hg_collectors.specs.declared.collectors.Collectors.{Collectors}
use Rattle.hg_run.specs.declared.dump_text.Dumps.{Dumps}
use Rattle.hg_run.specs.Dumping.{HasReadBoth, IsDumpedFor, dump_at, part_text, printed_history}
use Rattle.hg_run.specs.Words.{Settings}
use Rattle.hg_run.specs.Reader.{HasDumped, IsOpenedBeside, IsReadAndClosed, list_with}
use Rattle.hg_run.proofs.Readers.{began_within, log_in, looks_begans}
use Rattle.hg_run.proofs.Opened.{log_last}

-- ---- a new engine

new_is_closed : (e : Engine) (alloc : Global) (q j : ℕ) (s : Session) → IsNewOf e q j s → IsClosed e j (seated alloc 0 (pass_of s))
new_is_closed e alloc q j s n = record {
  own = record {
    pass = n.own.pass;
    only = n.own.only;
    ties = record {
      phase = n.own.ties.phase ∙ ap phase_at (sym n.own.ties.opens ∙ ap current n.log);
      unstamped = n.own.ties.unstamped;
      opens = ap current n.log;
      plain = n.own.ties.plain;
      written_is = record { once = tt; each = λ rid. sym (ap (λ l. is_some (open_in rid l)) n.log) };
      rests = λ none. refl;
      begun = (let most = n.own.ties.begun in omega (arith, most));
      wrote = (let most = n.own.ties.wrote in omega (arith, most));
    };
    heard = n.own.heard;
    cursor = tt;
  };
  number_is = n.number_is;
  closed = ap current n.log;
}

module _ (script : Script) (buckets : ℕ) (e : Engine) (list : List Session) (collectors : Collectors) (pass : SessionPass) (o : IsOpenedBeside script buckets e list collectors pass) where
  last_new : IsNewOf e (engine_sizes e).quota (suc (length list)) o.last
  last_new = let same : 1 + length list ≡ suc (length list) = omega arith in
      subst (λ n. IsNewOf e (engine_sizes e).quota n o.last) same (each_from_at (IsNewOf e (engine_sizes e).quota) 1 list [] o.last o.opened.new)

  pub last_closed : (alloc : Global) → IsClosed e (suc (length list)) (seated alloc 0 pass)
  last_closed alloc = subst (λ p. IsClosed e (suc (length list)) (seated alloc 0 p)) (sym o.pass_is) (new_is_closed e alloc (engine_sizes e).quota (suc (length list)) o.last last_new)

  pub no_log : log_in pass ≡ []
  no_log = ap log_in o.pass_is ∙ last_new.log

  pub may_again : (q : SessionPass) (at : ℕ) → HasReadAt at (session_view pass) (session_view q) → IsSessionOf (engine_board_id e) (engine_sizes e) q → MayExport (engine_board_id e) (engine_sizes e) q
  may_again q at r own = record {
    own = own;
    rests = r.rests;
    begins = (
        let more : begans (log_in q) ≡ suc (begans (log_in pass)) = ap begans r.log ∙ looks_begans r.entries (Began at All ∷ log_in pass) r.each in
        let none : begans (log_in pass) ≡ 0 = ap begans no_log in
        let two = o.reads in
        omega (arith, more, none, two));
  }

-- ---- what was read

pub read_once : (at : ℕ) (p q : SessionPass) → log_in p ≡ [] → HasReadAt at (session_view p) (session_view q) → HasReadAll (at ∷ []) (log_in q)
read_once at p q none r = reads_more at [] (session_view p) (session_view q) (ap without_looks none) r

pub read_twice : (at n : ℕ) (q r : SessionPass) → HasReadAll (at ∷ []) (log_in q) → HasReadAt n (session_view q) (session_view r) → HasReadAll (at ∷ n ∷ []) (log_in r)
read_twice at n q r once h = reads_more n (at ∷ []) (session_view q) (session_view r) once h

ends_before : (at : ℕ) (v w : View) → HasReadAt at v w → EndsWith (session w).log (session v).log
ends_before at v w h = (Over ∷ (h.entries ++ Began at All ∷ []), h.log ∙ ap (λ l. Over ∷ l) (sym (append_assoc h.entries (Began at All ∷ []) (session v).log)))

module _ (alloc : Global) (e : Engine) (script : Script) (list : List Session) (collectors : Collectors) (first : SessionPass) (before after : List ℕ) (totals : Totals) (n : ℕ)
    (c : IsReadAndClosed alloc e script list collectors first before after totals n) (closed : IsClosed e (suc (length list)) (seated alloc 0 first)) where
  abbrev logs : ℕ → List LogEntry
  logs = logs_of (list_with alloc list c.last)

  last_is : logs (suc (length list)) ≡ log_in c.last
  last_is = log_last list (seated alloc 0 c.last)

  goes_first : GoesOn (engine_sizes e).buckets (session_view first) c.closed.history logs
  goes_first = logged_goes (engine_sizes e).buckets (session_view first) c.closed.history logs c.closed.logged
      (subst (λ l. EndsWith l (log_in first)) (sym last_is ∙ ap logs (sym closed.number_is)) (ends_before n (session_view first) (session_view c.last) c.dumped.read))

  goes_last : GoesOn (engine_sizes e).buckets (session_view c.last) c.closed.history logs
  goes_last = logged_goes (engine_sizes e).buckets (session_view c.last) c.closed.history logs c.closed.logged
      (subst (λ l. EndsWith l (log_in c.last)) (sym last_is ∙ ap logs (sym (c.dumped.read.number_is ∙ closed.number_is))) ([], refl))

  -- what was read first, of a pass that has read nothing before
  pub first_text : (at : ℕ) (old : View) (was now : List ℕ) → HasDumped e script at old (session_view first) was now → now ≡ was ++ dump_text script (rows_at script.tables c.closed.history at)
  first_text at old was now d = d.text c.closed.history logs goes_first

  pub last_text : after ≡ before ++ dump_text script (rows_at script.tables c.closed.history n)
  last_text = c.dumped.text c.closed.history logs goes_last

  pub all_read : n ≡ length c.closed.history
  all_read =
      let least = newest (engine_sizes e).buckets n c.closed.history logs c.closed.logged c.newest in
      let up : UpTo (length c.closed.history) (Over ∷ (c.dumped.read.entries ++ Began n All ∷ log_in first)) = subst (UpTo (length c.closed.history)) (last_is ∙ c.dumped.read.log)
      (c.closed.logged.within (suc (length list))) in
      let most = began_within (length c.closed.history) n c.dumped.read.entries (log_in first) c.dumped.read.each up in
      omega (arith, least, most)

-- ---- the text

-- each row of the printed history was put, so its dump at any snapshot is a backup
backed_up : (settings : Settings) (script : Script) (lines : List Line) → IsLawful script → (at : ℕ) →
    IsBackup script (printed_history settings script lines) at (dump_at script (printed_history settings script lines) at)
backed_up settings script lines lawful at = backup script (printed_history settings script lines) at lawful (λ r row shown. shown_was_put settings.mode script lines r at row shown)

pub on_text : (settings : Settings) (script : Script) (lines : List Line) (totals : Totals) (dumps : Dumps) {T : Type 0} (r : Result T NoMemory) (items : T → List ℕ) → IsLawful script →
    HasReadBoth settings script lines totals dumps
    → IsFit script (record { lines = lines; totals = totals })
    → IfOk r (λ text. items text ≡ text_of record_bytes script (record { lines = lines; totals = totals }) ++ (part_text dumps.at dumps.first.items ++ part_text dumps.end dumps.last.items))
    → IfOk r (λ text. IsDumpedFor settings script (items text))
on_text settings script lines totals dumps (Err x) items lawful read fit told = tt
on_text settings script lines totals dumps (Ok text) items lawful read fit told = record {
  printed = record { lines = lines; totals = totals };
  at = dumps.at;
  sound = read.sound;
  fit = fit;
  within = read.within;
  one_run = read.one_run;
  same = told ∙ (λ i. text_of record_bytes script (record { lines = lines; totals = totals })
      ++ (part_text dumps.at (read.first i) ++ (ap (part_text dumps.end) read.last ∙
      ap (λ n. part_text n (dump_text script (rows_at script.tables (printed_history settings script lines) n))) read.end_is) i));
  first = backed_up settings script lines lawful dumps.at;
  last = backed_up settings script lines lawful (length (printed_history settings script lines));
}
