-- A replay on one thread, statement by statement, in a transaction: what is known before a record is known after it.
use Rattle.std.proofs.Common.{◌≡◌, ℕ, suc, ◌<◌, ◌≤◌, List, [], ◌∷◌, ◌++◌, length, map, Bool, true, false, Option, Some, None, refl, sym, ap, ◌∙◌, subst, arith}
use Rattle.std.specs.Prelude.{◌||◌, ◌&&◌, if◌then◌else◌, IsTrue, IfSome, is_some, ⊤}
use Rattle.std.specs.List.{cons_option}
use Rattle.hg_base.specs.declared.rid.Rid.{Rid}
use Rattle.hg_base.specs.declared.scope.Scope.{Scope}
use Rattle.hg_base.specs.declared.scope.Snapshot.{Snapshot}
use Rattle.hg_base.specs.declared.statement.Record.{Record}
use Rattle.hg_base.specs.declared.statement.Statement.{Statement}
use Rattle.hg_base.specs.declared.statement.Statement.TheVariants.{Begin, Rollback}
use Rattle.hg_base.specs.declared.line.Answer.{Answer}
use Rattle.hg_base.specs.declared.line.Answer.TheVariants.{Begun, Undone, Newer, Swept}
use Rattle.hg_base.specs.declared.line.Reply.{Reply}
use Rattle.hg_base.specs.declared.line.Line.{Line}
use Rattle.hg_base.specs.Lists.{Each}
use Rattle.hg_base.specs.History.{History, same_rid, image_in, is_among}
use Rattle.hg_base.specs.Transcript.{stored_by, committed_by}
use Rattle.hg_base.proofs.RidOrder.{same_back as same_rid_turned}
use Rattle.hg_core.specs.declared.log.LogEntry.{LogEntry}
use Rattle.hg_core.specs.declared.log.LogEntry.TheVariants.{Began, Undid, Over}
use Rattle.hg_core.specs.Logs.{current, begans, own_writes, is_plain, open_in}
use Rattle.hg_core.specs.Events.{put}
use Rattle.hg_core.specs.Reading.{Unprinted, own_entries, is_access, is_alone, log_with, log_after, UndoesAll, FitsScope, left_after}
use Rattle.hg_core.proofs.NewGroup.{image_open}
use Rattle.hg_core.specs.Counters.{first_writes, undos}
use Rattle.hg_core.proofs.Right.{if_any, places_of}
use Rattle.hg_headline.specs.Logged.{Logged}
use Rattle.hg_headline.specs.Timely.{reads_in, IsTimely}
use Rattle.hg_headline.specs.Replayed.{HasReplayed}
use Rattle.hg_headline.specs.Answered.{MayAnswer}
use Rattle.hg_headline.specs.Counted.{every, adding}
use Rattle.hg_headline.proofs.Tallying.{made_put, undone_put, no_more, made_access, undos_access, made_undone, undos_undone}
use Rattle.hg_headline.proofs.Words.{true_false, none_of_no}
use Rattle.hg_headline.proofs.Adds.{Adds, adds_access, access_commits}
use Rattle.hg_headline.proofs.Entries.{adds_undone}
use Rattle.hg_headline.proofs.Growing.{logged_on, put_same}
use Rattle.hg_headline.proofs.Loops.{replayed_more}
use Rattle.hg_headline.proofs.OnTop.{for_open, is_open, GoesOn}
use Rattle.hg_headline.proofs.Answering.{Leaves, leaves, nothing_more}
use Rattle.hg_headline.proofs.Knowledge.{line_for, inside, Next, IsAsked, gone_put, answered_access, answered_met, IsSmall, access_in, access_rest, fits_small}

pub timely_inside : (top : ℕ) (s : Statement) (a : Answer) → committed_by s a ≡ None → IsSmall top a → IsTimely top top s (inside a)
timely_inside top s (Newer n) e k = record {
  grows = omega arith;
  reads = (k.1, tt);
  snapshot = tt;
  mark = tt;
  newer = k.0;
  commit = subst (λ o. IfSome o (λ c. (top < c) × (c ≤ top) × Each (λ m. m < c) (reads_in (inside (Newer n))))) (sym e) tt;
}
timely_inside top s (Begun n) e k = absurd k
timely_inside top s (Swept sweep) e k = absurd k
timely_inside top s a e k = record {
  grows = omega arith;
  reads = tt;
  snapshot = tt;
  mark = tt;
  newer = tt;
  commit = subst (λ o. IfSome o (λ c. (top < c) × (c ≤ top) × Each (λ m. m < c) (reads_in (inside a)))) (sym e) tt;
}

pub replayed_inside : (buckets sessions : ℕ) (h : History) (logs : ℕ → List LogEntry) (rs : List Record) (lines : List Line) (r : Record) (a : Answer) (c : Snapshot) →
    HasReplayed buckets sessions h logs (length h) rs lines → IsAsked sessions r →
    current (logs r.session) ≡ Some c → is_plain (logs r.session) ≡ true → MayAnswer h logs r.session c (own_writes (logs r.session)) r.statement a →
    Next buckets sessions h logs (rs ++ r ∷ []) (lines ++ line_for r (inside a) ∷ []) r.session (Some c) (begans (logs r.session))
    (cons_option (stored_by r.statement a) (own_writes (logs r.session))) (adding (own_writes (logs r.session)) (stored_by r.statement a)) 0
replayed_inside buckets sessions h logs rs lines r a c g asked opened plain m =
    let l : List LogEntry = logs r.session in
    let before : GoesOn buckets h logs r.session c l = record { logged = subst (Logged buckets h) (sym (put_same logs r.session)) g.logged; opened = opened } in
    let left : Leaves buckets h logs r.session c l (own_writes l) r.statement a = leaves buckets h logs r.session c l (own_writes l) r.statement a (places_of buckets g.logged.some) before plain m in
    let access : IsTrue (is_access r.statement) = answered_access h logs r.session c (own_writes l) r.statement a m in
    let adds : Adds l (own_entries buckets left.unprinted r.statement a ++ l) (stored_by r.statement a) a = adds_access buckets left.unprinted (own_writes l) r.statement a l access left.fits in
    let in_it : is_alone (current l) r.statement ≡ false = ap (λ o. is_alone o r.statement) opened in
    let after : own_entries buckets left.unprinted r.statement a ++ l ≡ log_after buckets left.unprinted r.statement (inside a) l = sym
    (ap (λ b. log_with b buckets left.unprinted r.statement (inside a) l) in_it) in
    let log : List LogEntry = log_after buckets left.unprinted r.statement (inside a) l in
    record {
      more = put logs r.session log;
      replayed = replayed_more buckets sessions h h logs (length h) (length h) rs lines r (line_for r (inside a)) left.unprinted g asked.some asked.most refl refl
          (answered_met sessions h logs r.session c (own_writes l) r.statement a m)
          (record {
            at = sym in_it;
            number = sym (ap (λ b. b && is_some (stored_by r.statement a)) in_it);
            answer = left.fits;
            scope = for_open (current l) c (λ snapshot. FitsScope snapshot.scope r.statement a) opened left.scope;
            inside = access_in (current l) r.statement access;
          })
          (access_rest r.statement left.unprinted.rest (left_after (λ j. None) rs lines r.session) access)
          (timely_inside (length h) r.statement a (access_commits r.statement a access) (fits_small buckets left.unprinted (own_writes l) h logs r.session c (own_writes l) r.statement a left.fits m))
          (omega arith) (subst (λ x. Logged buckets h (put logs r.session x)) after left.goes.logged);
      gone = gone_put logs r.session log (Some c) (begans l) (cons_option (stored_by r.statement a) (own_writes l)) (ap current (sym after) ∙ left.goes.opened)
          (ap begans (sym after) ∙ adds.count) (ap own_writes (sym after) ∙ adds.own) (ap is_plain (sym after) ∙ left.plain);
      made = made_put sessions logs r.session log (adding (own_writes l) (stored_by r.statement a)) asked.some asked.most (ap (first_writes every) (sym after) ∙
          made_access buckets left.unprinted (own_writes l) r.statement a l access left.fits);
      undone = undone_put sessions logs r.session log 0 asked.some asked.most
          (no_more _ _ (ap (undos every) (sym after) ∙ undos_access buckets left.unprinted (own_writes l) r.statement a l access left.fits));
    }

-- ---- begin

pub replayed_begin : (buckets sessions : ℕ) (h : History) (logs : ℕ → List LogEntry) (rs : List Record) (lines : List Line) (place j : ℕ) (scope : Scope) →
    HasReplayed buckets sessions h logs (length h) rs lines → 1 ≤ j → j ≤ sessions → current (logs j) ≡ None →
    let r : Record = record { place = place; session = j; statement = Begin scope } in
    Next buckets sessions h logs (rs ++ r ∷ []) (lines ++ line_for r (inside (Begun (length h))) ∷ []) j (Some (record { at = length h; scope = scope })) (suc (begans (logs j))) [] 0 0
replayed_begin buckets sessions h logs rs lines place j scope g some most none =
    let r : Record = record { place = place; session = j; statement = Begin scope } in
    let l : List LogEntry = logs j in
    let reply : Reply = inside (Begun (length h)) in
    let is : is_alone (current l) (Begin scope) ≡ false = ap (λ o. is_alone o (Begin scope)) none in
    let after : Began (length h) scope ∷ l ≡ log_after buckets nothing_more (Begin scope) reply l = sym (ap (λ b. log_with b buckets nothing_more (Begin scope) reply l) is) in
    let began : Logged buckets h (put logs j (Began (length h) scope ∷ l)) = logged_on buckets h logs j (Began (length h) scope) l
    (subst (Logged buckets h) (sym (put_same logs j)) g.logged) (omega arith) (record { within = omega arith; over = g.logged.within j; alone = none }) tt in
    record {
      more = put logs j (log_after buckets nothing_more (Begin scope) reply l);
      replayed = replayed_more buckets sessions h h logs (length h) (length h) rs lines r (line_for r reply) nothing_more g some most refl refl tt
          (record { at = sym is; number = sym (ap (λ b. b && false) is); answer = tt; scope = if_any (current l) (λ snapshot. ⊤) (λ snapshot. tt); inside = tt })
          tt
          (record { grows = omega arith; reads = (omega arith, tt); snapshot = omega arith; mark = tt; newer = tt; commit = tt })
          (omega arith) (subst (λ x. Logged buckets h (put logs j x)) after began);
      gone = gone_put logs j (log_after buckets nothing_more (Begin scope) reply l) (Some (record { at = length h; scope = scope })) (suc (begans l)) [] (ap current (sym after))
          (ap begans (sym after)) (ap own_writes (sym after)) (ap is_plain (sym after));
      made = made_put sessions logs j (log_after buckets nothing_more (Begin scope) reply l) 0 some most (no_more _ _ (ap (first_writes every) (sym after)));
      undone = undone_put sessions logs j (log_after buckets nothing_more (Begin scope) reply l) 0 some most (no_more _ _ (ap (undos every) (sym after)));
    }

-- ---- commit

pub in_transaction : (o : Option Snapshot) (c : Snapshot) (s : Statement) → o ≡ Some c → is_alone o s ≡ false
in_transaction o c s e = ap (λ x. is_alone x s) e

-- ---- rollback

pub on_undone : (buckets : ℕ) (h : History) (logs : ℕ → List LogEntry) (j : ℕ) (c : Snapshot) (l : List LogEntry) (rids : List Rid) → GoesOn buckets h logs j c l →
    GoesOn buckets h logs j c (map Undid rids ++ l)
on_undone buckets h logs j c l [] g = g
on_undone buckets h logs j c l (q ∷ rids) g =
    let k = on_undone buckets h logs j c l rids g in
    record { logged = logged_on buckets h logs j (Undid q) (map Undid rids ++ l) k.logged tt (is_open (current (map Undid rids ++ l)) c k.opened) tt; opened = k.opened }

-- what is undone isn't open
pub undone_open : (r : Rid) (rids : List Rid) (l : List LogEntry) → open_in r (map Undid rids ++ l) ≡ (if is_among r rids then None else open_in r l)
undone_open r [] l = refl
undone_open r (q ∷ rids) l = go (same_rid q r) (same_rid r q) (same_rid_turned q r) (undone_open r rids l)
  where
    go : (x z : Bool) → x ≡ z → open_in r (map Undid rids ++ l) ≡ (if is_among r rids then None else open_in r l) →
        (if x then None else open_in r (map Undid rids ++ l)) ≡ (if z || is_among r rids then None else open_in r l)
    go true true e ih = refl
    go false false e ih = ih
    go true false e ih = absurd (true_false e)
    go false true e ih = absurd (true_false (sym e))

pub none_undone : (l : List LogEntry) (undone : List Rid) → is_plain l ≡ true → UndoesAll (own_writes l) undone → (r : Rid) → open_in r (map Undid undone ++ l) ≡ None
none_undone l undone p all r = undone_open r undone l ∙ go (is_among r undone) (all.1 r)
  where
    go : (b : Bool) → b ≡ is_some (image_in r (own_writes l)) → (if b then None else open_in r l) ≡ None
    go true e = refl
    go false e = sym (image_open r l p) ∙ none_of_no (image_in r (own_writes l)) (sym e)

pub replayed_undone : (buckets sessions : ℕ) (h : History) (logs : ℕ → List LogEntry) (rs : List Record) (lines : List Line) (place j : ℕ) (c : Snapshot) (undone : List Rid) →
    HasReplayed buckets sessions h logs (length h) rs lines → 1 ≤ j → j ≤ sessions →
    current (logs j) ≡ Some c → is_plain (logs j) ≡ true → UndoesAll (own_writes (logs j)) undone →
    let r : Record = record { place = place; session = j; statement = Rollback } in
    Next buckets sessions h logs (rs ++ r ∷ []) (lines ++ line_for r (inside Undone) ∷ []) j None (begans (logs j)) [] 0 (length undone)
replayed_undone buckets sessions h logs rs lines place j c undone g some most opened plain all =
    let r : Record = record { place = place; session = j; statement = Rollback } in
    let l : List LogEntry = logs j in
    let u : Unprinted = record { found = []; part = λ b. []; undone = undone; rest = None; looked = 0 } in
    let last : List LogEntry = map Undid undone ++ l in
    let is : is_alone (current l) Rollback ≡ false = in_transaction (current l) c Rollback opened in
    let after : Over ∷ last ≡ log_after buckets u Rollback (inside Undone) l = sym (ap (λ b. log_with b buckets u Rollback (inside Undone) l) is) in
    let k : GoesOn buckets h logs j c last = on_undone buckets h logs j c l undone (record { logged = subst (Logged buckets h) (sym (put_same logs j)) g.logged; opened = opened }) in
    let ended : Logged buckets h (put logs j (Over ∷ last)) = logged_on buckets h logs j Over last k.logged tt
    (record { opened = is_open (current last) c k.opened; none = none_undone l undone plain all }) tt in
    record {
      more = put logs j (log_after buckets u Rollback (inside Undone) l);
      replayed = replayed_more buckets sessions h h logs (length h) (length h) rs lines r (line_for r (inside Undone)) u g some most refl refl tt
          (record { at = sym is; number = sym (ap (λ b. b && false) is); answer = (tt, all); scope = if_any (current l) (λ snapshot. ⊤) (λ snapshot. tt); inside = tt })
          tt
          (record { grows = omega arith; reads = tt; snapshot = tt; mark = tt; newer = tt; commit = tt })
          (omega arith) (subst (λ x. Logged buckets h (put logs j x)) after ended);
      gone = gone_put logs j (log_after buckets u Rollback (inside Undone) l) None (begans l) [] (ap current (sym after)) (ap begans (sym after) ∙ (adds_undone undone l).count)
          (ap own_writes (sym after)) (ap is_plain (sym after));
      made = made_put sessions logs j (log_after buckets u Rollback (inside Undone) l) 0 some most (no_more _ _ (ap (first_writes every) (sym after) ∙ made_undone undone l));
      undone = undone_put sessions logs j (log_after buckets u Rollback (inside Undone) l) (length undone) some most (ap (undos every) (sym after) ∙ undos_undone undone l);
    }
