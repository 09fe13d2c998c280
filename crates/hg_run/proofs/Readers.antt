-- A reader that meets the pass to which all others went, reads once more, and goes there too.
use Rattle.std.proofs.Common.{◌≡◌, ℕ, suc, ◌+◌, ◌<◌, ◌≤◌, inl, inr, List, [], ◌∷◌, ◌++◌, length, refl, sym, ap, ◌∙◌, subst, arith, append_assoc, append-nil}
use Rattle.std.specs.Prelude.{is_some}
use Rattle.std.specs.declared.alloc.Global.{Global}
use Rattle.hg_base.specs.declared.report.Kind.{Kind}
use Rattle.hg_base.specs.declared.scope.Scope.TheVariants.{All}
use Rattle.hg_base.specs.Lists.{Each}
use Rattle.hg_base.specs.Script.{Script}
use Rattle.hg_core.specs.declared.log.LogEntry.{LogEntry}
use Rattle.hg_core.specs.declared.log.LogEntry.TheVariants.{Began, Saw, Refused, Outside, Wrote, Undid, Published, Over}
use Rattle.hg_core.specs.Logs.{begans, current, is_plain, open_in, wrotes, UpTo}
use Rattle.hg_core.proofs.Indices.{at_index}
use Rattle.hg_dump.specs.Exports.{HasReadAt, IsLook, IsResting, MayExport}
use Rattle.hg_rule.specs.declared.passes.SessionPass.{SessionPass}
use Rattle.hg_rule.specs.declared.view.Part.{Part}
use Rattle.hg_rule.specs.declared.view.Part.TheVariants.{OfPass, OfSession}
use Rattle.hg_rule.specs.declared.view.Sight.{Sight}
use Rattle.hg_rule.specs.declared.view.Sight.TheVariants.{Heard}
use Rattle.hg_rule.specs.declared.view.View.{View}
use Rattle.hg_rule.specs.Agreed.{IsMet}
use Rattle.hg_rule.specs.Facts.{IsAmong, StartsWith, IsHeard}
use Rattle.hg_rule.specs.Moves.{joined, meeting, merged, put_in}
use Rattle.hg_rule.specs.New.{EachFrom}
use Rattle.hg_rule.specs.Seats.{session_view, IsSessionOf}
use Rattle.hg_rule.specs.Views.{after_first, first_in, number, others, part_number, pass, pass_there, session, session_there, HasPass}
use Rattle.hg_rule.proofs.Growing.{among_later}
use Rattle.hg_rule.proofs.Lists.{each_left, each_map, starts_on, among_left}
use Rattle.hg_tracker.specs.Begun.{AtMost}
use Rattle.hg_session.specs.declared.engine.Engine.{Engine}
use Rattle.hg_session.specs.declared.session.Session.{Session}
use Rattle.hg_session.specs.Engines.{engine_board_id, engine_sizes}
use Rattle.hg_session.specs.Finished.{logs_of, parts_of, AreAmong, HaveGone, IsClosed}
use Rattle.hg_session.specs.Opened.{seated}
use Rattle.hg_session.specs.Sessions.{view_of, seen_by}
use Rattle.hg_session.proofs.Bringing.{heard_finished, one_finishes}
use Rattle.hg_session.proofs.Quiet.{logs_shown}
use Rattle.hg_collectors.specs.declared.collectors.Collectors.{Collectors}
use Rattle.hg_run.specs.Closed.{AreAllThere, HasBrought}
use Rattle.hg_collectors.specs.Collecting.{view_in}
use Rattle.hg_run.specs.Reader.{HasDumped, list_with}
use Rattle.hg_collectors.specs.Rounding.{BeganIn}
use Rattle.hg_run.proofs.Begun.{began}
use Rattle.hg_run.proofs.Brought.{brought_come, there_ended, there_logs}
use Rattle.hg_run.proofs.Hearing.{heard_at_most}
use Rattle.hg_collectors.proofs.Among.{of_among}
use Rattle.hg_run.proofs.Opened.{length_more, log_else, log_last}

abbrev pub log_in : SessionPass → List LogEntry
log_in p = (session (session_view p)).log

-- ---- lists with one more

row_more : (e : Engine) (i n : ℕ) (list : List Session) (s : Session) → n ≡ i + length list → EachFrom (IsClosed e) i list → IsClosed e n s → EachFrom (IsClosed e) i (list ++ s ∷ [])
row_more e i n [] s is r h = let same : n ≡ i = omega (arith, is) in (subst (λ m. IsClosed e m s) same h, tt)
row_more e i n (x ∷ list) s is r h = let next : n ≡ suc i + length list = omega (arith, is) in (r.0, row_more e (suc i) n list s next r.1 h)

-- the sessions of an engine and one more
row_with : (e : Engine) (list : List Session) (s : Session) → EachFrom (IsClosed e) 1 list → IsClosed e (suc (length list)) s → EachFrom (IsClosed e) 1 (list ++ s ∷ [])
row_with e list s r h = let is : suc (length list) ≡ 1 + length list = omega arith in row_more e 1 (suc (length list)) list s is r h

parts_snoc : (list : List Session) (s : Session) → parts_of (list ++ s ∷ []) ≡ (view_of s).parts ++ parts_of list
parts_snoc [] s = sym (append-nil (view_of s).parts)
parts_snoc (x ∷ list) s = ap (λ l. l ++ (view_of x).parts) (parts_snoc list s) ∙ append_assoc (view_of s).parts (parts_of list) (view_of x).parts

-- ---- what a transaction that only looks leaves of a log

pub looks_begans : (es log : List LogEntry) → Each IsLook es → begans (es ++ log) ≡ begans log
looks_begans [] log l = refl
looks_begans (Saw t low high b rows ∷ es) log l = looks_begans es log l.1
looks_begans (Began at scope ∷ es) log l = absurd l.0
looks_begans (Refused r a ∷ es) log l = absurd l.0
looks_begans (Outside t ∷ es) log l = absurd l.0
looks_begans (Wrote r i ∷ es) log l = absurd l.0
looks_begans (Undid r ∷ es) log l = absurd l.0
looks_begans (Published m ∷ es) log l = absurd l.0
looks_begans (Over ∷ es) log l = absurd l.0

looks_wrotes : (es log : List LogEntry) → Each IsLook es → wrotes (es ++ log) ≡ wrotes log
looks_wrotes [] log l = refl
looks_wrotes (Saw t low high b rows ∷ es) log l = looks_wrotes es log l.1
looks_wrotes (Began at scope ∷ es) log l = absurd l.0
looks_wrotes (Refused r a ∷ es) log l = absurd l.0
looks_wrotes (Outside t ∷ es) log l = absurd l.0
looks_wrotes (Wrote r i ∷ es) log l = absurd l.0
looks_wrotes (Undid r ∷ es) log l = absurd l.0
looks_wrotes (Published m ∷ es) log l = absurd l.0
looks_wrotes (Over ∷ es) log l = absurd l.0

up_read : (n : ℕ) (es log : List LogEntry) → Each IsLook es → UpTo n log → UpTo n (es ++ Began n All ∷ log)
up_read n [] log l u = (omega arith, u)
up_read n (Saw t low high b rows ∷ es) log l u = up_read n es log l.1 u
up_read n (Began at scope ∷ es) log l u = absurd l.0
up_read n (Refused r a ∷ es) log l u = absurd l.0
up_read n (Outside t ∷ es) log l u = absurd l.0
up_read n (Wrote r i ∷ es) log l u = absurd l.0
up_read n (Undid r ∷ es) log l u = absurd l.0
up_read n (Published m ∷ es) log l u = absurd l.0
up_read n (Over ∷ es) log l u = absurd l.0

pub began_within : (m n : ℕ) (es log : List LogEntry) → Each IsLook es → UpTo m (es ++ Began n All ∷ log) → n ≤ m
began_within m n [] log l u = u.0
began_within m n (Saw t low high b rows ∷ es) log l u = began_within m n es log l.1 u
began_within m n (Began at scope ∷ es) log l u = absurd l.0
began_within m n (Refused r a ∷ es) log l u = absurd l.0
began_within m n (Outside t ∷ es) log l u = absurd l.0
began_within m n (Wrote r i ∷ es) log l u = absurd l.0
began_within m n (Undid r ∷ es) log l u = absurd l.0
began_within m n (Published q ∷ es) log l u = absurd l.0
began_within m n (Over ∷ es) log l u = absurd l.0

-- the session of a pass that read, after it: no transaction is open
pub read_is_closed : (e : Engine) (alloc : Global) (j at : ℕ) (p q : SessionPass) → IsClosed e j (seated alloc 0 p) → begans (log_in p) < (engine_sizes e).quota →
    HasReadAt at (session_view p) (session_view q) → IsSessionOf (engine_board_id e) (engine_sizes e) q → IsClosed e j (seated alloc 0 q)
read_is_closed e alloc j at p q c begins r own = record {
  own = record {
    pass = own;
    only = r.rests.only;
    ties = record {
      phase = r.rests.idle;
      unstamped = r.rests.unstamped;
      opens = ap current r.log;
      plain = ap is_plain r.log;
      written_is = record { once = tt; each = λ rid. sym (ap (λ l. is_some (open_in rid l)) r.log) };
      rests = λ none. refl;
      begun = (let more : begans (log_in q) ≡ suc (begans (log_in p)) = ap begans r.log ∙ looks_begans r.entries (Began at All ∷ log_in p) r.each in omega (arith, more, begins));
      wrote = (let same : wrotes (log_in q) ≡ wrotes (log_in p) = ap wrotes r.log ∙ looks_wrotes r.entries (Began at All ∷ log_in p) r.each in let was = c.own.ties.wrote in omega (arith, same, was));
    };
    heard = inr r.heard;
    cursor = tt;
  };
  number_is = r.number_is ∙ c.number_is;
  closed = ap current r.log;
}

-- ---- after a meeting

resting_same : (v w : View) → w.parts ≡ v.parts → IsResting v → IsResting w
resting_same v w e r = record {
  only = e ∙ (r.only ∙ (λ i. OfSession (part_number (sym e i)) (session_there (first_in (sym e i))) ∷ []));
  idle = ap (λ (ps : List Part). (session_there (first_in ps)).phase) e ∙ r.idle;
  unstamped = ap (λ (ps : List Part). (session_there (first_in ps)).stamped) e ∙ r.unstamped;
}

pub may_still : (e : Engine) (p q : SessionPass) → (session_view q).parts ≡ (session_view p).parts → MayExport (engine_board_id e) (engine_sizes e) p →
    IsSessionOf (engine_board_id e) (engine_sizes e) q → MayExport (engine_board_id e) (engine_sizes e) q
may_still e p q same may own = record {
  own = own;
  rests = resting_same (session_view p) (session_view q) same may.rests;
  begins = subst (λ (ps : List Part). begans (session_there (first_in ps)).log < (engine_sizes e).quota) (sym same) may.begins;
}

read_from : (v w u : View) (at : ℕ) → w.parts ≡ v.parts → StartsWith w.sights v.sights → HasReadAt at w u → HasReadAt at v u
read_from v w u at same kept r = record {
  rests = r.rests;
  entries = r.entries;
  each = r.each;
  number_is = r.number_is ∙ ap part_number same;
  log = r.log ∙ ap (λ (ps : List Part). Over ∷ (r.entries ++ Began at All ∷ (session_there (first_in ps)).log)) same;
  kept = starts_on u.sights w.sights v.sights kept r.kept;
  heard = r.heard;
}

-- ---- the whole

gone_pass : (list : List Session) (v u : View) → HaveGone list v u → HasPass u
gone_pass list v u h =
    let n : number u ≡ number v = ap part_number h.parts in
    let p : pass u ≡ pass v = ap (λ (ps : List Part). pass_there (first_in ps)) h.parts in
    let o : others u ≡ parts_of list ++ others v = ap after_first h.parts in
    h.parts ∙ (λ i. OfPass (sym n i) (sym p i) ∷ sym o i)

-- it has seen more
gone_seen : (list : List Session) (v w u : View) (more : List Sight) → HaveGone list v w → u.parts ≡ w.parts → u.sights ≡ w.sights ++ more → u.events ≡ w.events → HaveGone list v u
gone_seen list v w u more h parts sights events = record {
  parts = parts ∙ h.parts;
  seen = each_map (λ s. AreAmong (seen_by s) w.sights) (λ s. AreAmong (seen_by s) u.sights) (λ s a x i. subst (IsAmong x) (sym sights) (among_left x w.sights more (a x i))) list h.seen;
  kept = starts_on u.sights w.sights v.sights h.kept (more, sights);
  events = events ∙ h.events;
}

-- one more session's part is lent
gone_joined : (list : List Session) (s : Session) (v w u : View) → HaveGone list v w → u ≡ joined w (view_of s) → HaveGone (list ++ s ∷ []) v u
gone_joined list s v w u h e =
    let sights : u.sights ≡ w.sights ++ seen_by s = ap (λ (x : View). x.sights) e in record {
      parts = ap (λ (x : View). x.parts) e ∙ (λ i. put_in (h.parts i) (view_of s).parts)
          ∙ ap (λ l. OfPass (number v) (pass v) ∷ l) (sym (append_assoc (view_of s).parts (parts_of list) (others v)) ∙ ap (λ l. l ++ others v) (sym (parts_snoc list s)));
      seen = seen_all u.sights sights list h.seen;
      kept = starts_on u.sights w.sights v.sights h.kept (seen_by s, sights);
      events = ap (λ (x : View). x.events) e ∙ h.events;
    }
  where
    seen_all : (all : List Sight) → all ≡ w.sights ++ seen_by s → (some : List Session) → Each (λ t. AreAmong (seen_by t) w.sights) some → Each (λ t. AreAmong (seen_by t) all) (some ++ s ∷ [])
    seen_all all is [] a = (λ x i. subst (IsAmong x) (sym is) (among_later x w.sights (seen_by s) i), tt)
    seen_all all is (t ∷ some) a = (λ x i. subst (IsAmong x) (sym is) (among_left x w.sights (seen_by s) (a.0 x i)), seen_all all is some a.1)

heard_in : (j : ℕ) (log : List LogEntry) (some all : List Sight) → AreAmong some all → IsHeard j log some → IsHeard j log all
heard_in j log some all a (inl none) = inl none
heard_in j log some all a (inr among) = inr (a (Heard j log) among)

heard_up : (n j : ℕ) (log : List LogEntry) (sights : List Sight) → IsHeard j log sights → Each (AtMost n) sights → UpTo n log
heard_up n j log sights (inl none) each = subst (UpTo n) (sym none) tt
heard_up n j log sights (inr among) each = of_among (AtMost n) (Heard j log) sights each among

-- p is the reader's pass before the meeting, q after it, and r after the read
module _ (e : Engine) (script : Script) (alloc : Global) (list : List Session) (collectors : Collectors) (w w1 w2 : View) (p q r : SessionPass) (at : ℕ) (before after : List ℕ)
    (b : HasBrought e list collectors w) (row : EachFrom (IsClosed e) 1 list) (many : suc (length list) ≡ (engine_sizes e).sessions)
    (may : MayExport (engine_board_id e) (engine_sizes e) p) (last : IsClosed e (suc (length list)) (seated alloc 0 p))
    (lent : w1 ≡ meeting w (session_view p)) (met : IsMet (engine_sizes e) (joined w (session_view p))) (back : session_view q ≡ meeting (session_view p) w1)
    (dumped : HasDumped e script at (session_view q) (session_view r) before after) (own : IsSessionOf (engine_board_id e) (engine_sizes e) r) (gone : w2 ≡ merged w1 (session_view r)) where
  abbrev same : (session_view q).parts ≡ (session_view p).parts
  same = ap (λ (x : View). x.parts) back

  abbrev kept : StartsWith (session_view q).sights (session_view p).sights
  kept = (w1.sights, ap (λ (x : View). x.sights) back)

  pub read_then : HasReadAt at (session_view p) (session_view r)
  read_then = read_from (session_view p) (session_view q) (session_view r) at same kept dumped.read

  pub dumped_then : HasDumped e script at (session_view p) (session_view r) before after
  dumped_then = record {
    text = dumped.text;
    fresh = each_left (AtMost at) (session_view p).sights w1.sights (subst (Each (AtMost at)) kept.1 dumped.fresh);
    read = read_then;
  }

  closed : IsClosed e (suc (length list)) (seated alloc 0 r)
  closed = read_is_closed e alloc (suc (length list)) at p r last may.begins read_then own

  pub all_there : AreAllThere e (list_with alloc list r) collectors w2
  all_there = record {
    brought = record {
      joined = b.joined;
      passes = b.passes;
      went = one_finishes b.joined w1 w2 list (seated alloc 0 r) (gone_seen list b.joined w w1 (session_view p).sights b.went (ap (λ (x : View). x.parts) lent)
          (ap (λ (x : View). x.sights) lent) (ap (λ (x : View). x.events) lent)) gone;
    };
    closed = row_with e list (seated alloc 0 r) row closed;
    many = length_more list (seated alloc 0 r) ∙ many;
  }

  -- ---- the meeting

  abbrev u : View
  u = joined w (session_view p)

  there : AreAllThere e (list_with alloc list p) collectors u
  there = record {
    brought = record { joined = b.joined; passes = b.passes; went = gone_joined list (seated alloc 0 p) b.joined w u b.went refl };
    closed = row_with e list (seated alloc 0 p) row last;
    many = length_more list (seated alloc 0 p) ∙ many;
  }

  pub began_then : (kind : Kind) → Each (BeganIn (logs_of (list_with alloc list p))) (view_in kind collectors).events
  began_then kind =
      began met.backed.state (logs_of (list_with alloc list p)) (view_in kind collectors).events
      ((λ i j. logs_shown (engine_sizes e) met.mark u met.backed (there_ended e (list_with alloc list p) collectors u there) (number u) (pass u) (others u)
      (gone_pass (list_with alloc list p) there.brought.joined u there.brought.went) j i) ∙ there_logs e (list_with alloc list p) collectors u there)
      ((brought_come e (list_with alloc list p) collectors u there.brought kind).did met.backed.state met.backed.true_of)

  -- ---- its snapshot

  heard : (k : ℕ) → IsHeard k (logs_of list k) (session_view q).sights
  heard k = heard_in k (logs_of list k) w.sights (session_view q).sights all (heard_finished e b.joined w list b.passes.own row b.passes.none b.went k)
    where
      all : AreAmong w.sights (session_view q).sights
      all x i = subst (IsAmong x) (sym kept.1) (among_later x (session_view p).sights w1.sights
          (subst (IsAmong x) (sym (ap (λ (v : View). v.sights) lent)) (among_left x w.sights (session_view p).sights i)))

  own_up : UpTo at (log_in p)
  own_up = heard_up at (number (session_view p)) (log_in p) (session_view p).sights last.own.heard dumped_then.fresh

  pub newest_then : (j : ℕ) → UpTo at (logs_of (list_with alloc list r) j)
  newest_then = at_index (suc (length list)) (λ j. UpTo at (logs_of (list_with alloc list r) j))
      (subst (UpTo at) (sym (log_last list (seated alloc 0 r))) (subst (UpTo at) (sym read_then.log) (up_read at read_then.entries (log_in p) read_then.each own_up)))
      (λ k other. subst (UpTo at) (sym (log_else list (seated alloc 0 r) k other)) (heard_at_most (logs_of list) (session_view q) at heard dumped.fresh k))
