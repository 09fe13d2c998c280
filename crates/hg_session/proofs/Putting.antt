-- What a write replies, in a transaction and as one of its own.
use Rattle.std.proofs.Common.{◌≡◌, inl, ℕ, ◌≤◌, List, [], ◌∷◌, ◌++◌, map, true, false, Option, Some, None, refl, sym, ap, ◌∙◌, subst, append_assoc, arith}
use Rattle.std.specs.Prelude.{is_some, IsTrue, IsFalse, IfSome, Err, ◌==◌, ◌||◌, ⊤}
use Rattle.hg_base.specs.declared.rid.Rid.{Rid}
use Rattle.hg_base.specs.declared.image.Image.{Image}
use Rattle.hg_base.specs.declared.writer.Writer.{Writer}
use Rattle.hg_base.specs.declared.scope.Snapshot.{Snapshot}
use Rattle.hg_base.specs.declared.statement.Statement.{Statement}
use Rattle.hg_base.specs.declared.statement.Statement.TheVariants as say
use Rattle.hg_base.specs.declared.line.Answer.{Answer}
use Rattle.hg_base.specs.declared.line.Answer.TheVariants as answers
use Rattle.hg_base.specs.Lists.{Each}
use Rattle.hg_base.specs.History.{Write, is_among}
use Rattle.hg_base.specs.Replies.{is_written}
use Rattle.hg_base.specs.Transcript.{only, table_of, stored_by}
use Rattle.hg_base.proofs.HistoryFacts.{same_rid_itself}
use Rattle.hg_core.specs.declared.log.LogEntry.{LogEntry}
use Rattle.hg_core.specs.declared.log.LogEntry.TheVariants.{Began, Refused, Wrote, Undid, Over}
use Rattle.hg_core.specs.Logs.{current, own_writes}
use Rattle.hg_core.specs.Phases.{IsSession}
use Rattle.hg_base.specs.declared.scope.Scope.{Scope}
use Rattle.hg_base.specs.declared.value.Value.{Value}
use Rattle.hg_core.specs.Reading.{FitsScope, FitsIn, Unprinted, own_entries, close, is_access, FitsAnswer, UndoesAll}
use Rattle.hg_core.specs.Reading as reading
use Rattle.hg_core.proofs.Right.{if_none}
use Rattle.hg_bucket.specs.declared.refusal.WriteRefusal.{WriteRefusal}
use Rattle.hg_bucket.specs.declared.refusal.WriteRefusal.TheVariants.{Open, Newer, NoMemory}
use Rattle.hg_rule.specs.declared.view.Sizes.{Sizes}
use Rattle.hg_rule.specs.declared.view.Sight.{Sight}
use Rattle.hg_rule.specs.declared.view.View.{View}
use Rattle.hg_rule.specs.Facts.{StartsWith}
use Rattle.hg_rule.specs.Views.{number, session}
use Rattle.hg_rule.proofs.Lists.{each_left}
use Rattle.hg_tracker.specs.Begun.{AtMost}
use Rattle.hg_store.specs.Ends.{HasNoEnd}
use Rattle.hg_group.specs.declared.receipt.Receipt.{Receipt}
use Rattle.hg_headline.specs.Timely.{snapshot_in, newer_in, commit_in}
use Rattle.hg_session.specs.declared.answers.PutRefusal.{PutRefusal}
use Rattle.hg_session.specs.declared.answers.PutRefusal.TheVariants as put
use Rattle.hg_session.specs.Gains.{Gains, IsAfter, IsRefusedBy, entries_of, receipt_number}
use Rattle.hg_session.specs.Replies.{inside, commit_answer, refused_at, refused_reply, IsNext, GoesOn, Answers}
use Rattle.hg_session.specs.Alone.{WritesAlone, IsRefusedAlone}
use Rattle.hg_session.proofs.Settling.{gains_on}
use Rattle.hg_session.proofs.Replying.{nothing_more, answers_inside, answers_alone}

-- ---- the end of a transaction

pub is_number : (r : Option Receipt) → is_some (receipt_number r) ≡ is_some r
is_number None = refl
is_number (Some r) = refl

next_of : (sights : List Sight) (at c : ℕ) (o : Option ℕ) → (IfSome o (λ n. n ≤ at)) → IsAfter sights at c → IsNext sights o c
next_of sights at c o le a = record { before = a.before; next = a.next; over = a.over; begun = go o le }
  where
    go : (o : Option ℕ) → IfSome o (λ n. n ≤ at) → IfSome o (λ n. n ≤ a.before)
    go None le = tt
    go (Some n) le = let b = a.begun in omega (arith, le, b)

pub commit_inside : (z : Sizes) (v w : View) (c : Snapshot) (at : ℕ) (n : Option ℕ) → current (session v).log ≡ Some c → Gains v (close n) w →
    is_some n ≡ is_written (own_writes (session v).log) → IfSome n (IsAfter v.sights at) → Answers z v say.Commit (inside (commit_answer n)) w
commit_inside z v w c at None e g wrote after = answers_inside z v w say.Commit answers.Ended nothing_more (ap (λ o. reading.is_alone o say.Commit) e) g (sym wrote) (λ c e. tt) tt tt tt tt tt
commit_inside z v w c at (Some n) e g wrote after = answers_inside z v w say.Commit (answers.Committed n) nothing_more (ap (λ o. reading.is_alone o say.Commit) e) g (sym wrote)
    (λ c e. tt) tt tt (next_of v.sights at n None tt after) tt tt

pub rollback_inside : (z : Sizes) (v w : View) (c : Snapshot) (undone : List Rid) → current (session v).log ≡ Some c → UndoesAll (own_writes (session v).log) undone →
    Gains v (Over ∷ map Undid undone) w → Answers z v say.Rollback (inside answers.Undone) w
rollback_inside z v w c undone e all g = answers_inside z v w say.Rollback answers.Undone (record { found = []; part = λ b. []; undone = undone; rest = None; looked = 0 })
    (ap (λ o. reading.is_alone o say.Rollback) e) g (tt, all) (λ c e. tt) tt tt tt tt tt

pub nothing_undone : (undone : List Rid) → UndoesAll [] undone → undone ≡ []
nothing_undone [] all = refl
nothing_undone (r ∷ undone) all = absurd (let k = sym (ap (λ b. b || is_among r undone) (same_rid_itself r)) ∙ all.1 r in cc)

after_before : (old sights : List Sight) (at c : ℕ) → StartsWith sights old → IsAfter sights at c → IsAfter old at c
after_before old sights at c k a = record { before = a.before; next = a.next; over = each_left (AtMost a.before) old k.0 (subst (Each (AtMost a.before)) k.1 a.over); begun = a.begun }

-- ---- a statement that writes one record, after what it saw: its entries and answers

pub record Writing (z : Sizes) (s : Statement) (u : Unprinted) (own : List Write) (rid : Rid) (image : Image) (seen : List LogEntry) (a : Answer) : Type 0 where
  pub access : IsTrue (is_access s)
  pub stores : own_entries z.buckets u s a ≡ Wrote rid image ∷ seen
  pub opened : (w : Writer) → own_entries z.buckets u s (answers.OpenBy w) ≡ Refused rid (answers.OpenBy w) ∷ seen
  pub newer : (n : ℕ) → own_entries z.buckets u s (answers.Newer n) ≡ Refused rid (answers.Newer n) ∷ seen
  pub fits : FitsAnswer z.buckets u own s a
  pub fits_opened : (w : Writer) → FitsAnswer z.buckets u own s (answers.OpenBy w)
  pub fits_newer : (n : ℕ) → FitsAnswer z.buckets u own s (answers.Newer n)
  pub unscanned : (scope : Scope) (b : Answer) → FitsScope scope s b
  pub stands : (o : Option Snapshot) → FitsIn o s
  pub by : is_some (stored_by s a) ≡ true
  pub by_opened : (w : Writer) → is_some (stored_by s (answers.OpenBy w)) ≡ false
  pub by_newer : (n : ℕ) → is_some (stored_by s (answers.Newer n)) ≡ false
  pub at : (at : ℕ) (n : Option ℕ) → snapshot_in (record { at = Some at; answer = a; number = n }) ≡ Some at
  pub at_none : snapshot_in (inside a) ≡ None
  pub newer_none : (at n : Option ℕ) → newer_in (record { at = at; answer = a; number = n }) ≡ None
  pub number_is : (at : Option ℕ) (n : ℕ) → commit_in s (record { at = at; answer = a; number = Some n }) ≡ Some n
  pub number_none : commit_in s (inside a) ≡ None
  pub none_opened : (at : Option ℕ) (w : Writer) → commit_in s (record { at = at; answer = answers.OpenBy w; number = None }) ≡ None
  pub none_newer : (at : Option ℕ) (n : ℕ) → commit_in s (record { at = at; answer = answers.Newer n; number = None }) ≡ None
  pub goes : (v : View) → GoesOn z v a

module _ (z : Sizes) (s : Statement) (u : Unprinted) (v w : View) (rid : Rid) (image : Image) (seen : List LogEntry) (a : Answer)
    (k : Writing z s u (own_writes (session v).log) rid image seen a) where
  inside_now : (c : Snapshot) → current (session v).log ≡ Some c → reading.is_alone (current (session v).log) s ≡ false
  inside_now c e = ap (λ o. reading.is_alone o s) e

  pub stored_inside : (c : Snapshot) → current (session v).log ≡ Some c → Gains v (Wrote rid image ∷ seen) w → Answers z v s (inside a) w
  stored_inside c e g = answers_inside z v w s a u (inside_now c e) (subst (λ es. Gains v es w) (sym k.stores) g) k.fits (λ c e. k.unscanned c.scope a)
      (k.stands (current (session v).log)) (if_none _ _ k.at_none) (if_none _ _ k.number_none) (if_none _ _ (k.newer_none None None)) (k.goes v)

  pub refused_inside : (c : Snapshot) (at : ℕ) (e : WriteRefusal) → current (session v).log ≡ Some c → Gains v (entries_of {T = ⊤} rid image (Err e) ++ seen) w →
      IsRefusedBy z v at e → IfSome (refused_reply false (refused_at at e)) (λ reply. Answers z v s reply w)
  refused_inside c at (Open j x) e g r = let o : Writer = record { session = j; transaction = x } in
      answers_inside z v w s (answers.OpenBy o) u (inside_now c e) (subst (λ es. Gains v es w) (sym (k.opened o)) g) (k.fits_opened o)
      (λ c e. k.unscanned c.scope (answers.OpenBy o)) (k.stands (current (session v).log)) tt (if_none _ _ (k.none_opened None o)) tt r
  refused_inside c at (Newer n) e g r = answers_inside z v w s (answers.Newer n) u (inside_now c e) (subst (λ es. Gains v es w) (sym (k.newer n)) g) (k.fits_newer n)
      (λ c e. k.unscanned c.scope (answers.Newer n)) (k.stands (current (session v).log)) tt (if_none _ _ (k.none_newer None n)) (omega (arith, r)) tt
  refused_inside c at NoMemory e g r = tt

  -- outside, after the begin and what was seen
  module _ (m : View) (at : ℕ) (none : current (session v).log ≡ None) (most : Each (AtMost at) v.sights) (begun : Gains v (seen ++ Began at (only (table_of s)) ∷ []) m) where
    behind : (e : LogEntry) (es : List LogEntry) → Gains m (es ++ e ∷ []) w → Gains v (es ++ ((e ∷ seen) ++ Began at (only (table_of s)) ∷ [])) w
    behind e es g = subst (λ l. Gains v l w) (append_assoc es (e ∷ []) (seen ++ Began at (only (table_of s)) ∷ []))
        (gains_on v m w (seen ++ Began at (only (table_of s)) ∷ []) (es ++ e ∷ []) begun g (λ l. sym (append_assoc (es ++ e ∷ []) (seen ++ Began at (only (table_of s)) ∷ []) l)))

    pub stored_alone : (n : Option ℕ) → WritesAlone m rid image at w n → Answers z v s (record { at = Some at; answer = a; number = n }) w
    stored_alone None g = absurd (let q = g.some in cc)
    stored_alone (Some n) g =
        let all = behind (Wrote rid image) (close (Some n)) g.gains in
        answers_alone z v w s a at (Some n) u none k.access (subst (λ es. Gains v (close (Some n) ++ (es ++ Began at (only (table_of s)) ∷ [])) w) (sym k.stores) all)
        (sym k.by) k.fits (k.at at (Some n)) (k.number_is (Some at) n) most
        (next_of v.sights at n (Some at) (omega arith) (after_before v.sights m.sights at n begun.kept g.after)) (if_none _ _ (k.newer_none (Some at) (Some n))) (k.goes v)

    goes_before : (o : Writer) → IsSession z.sessions o.session × (IsFalse (o.session == number m) × Each (HasNoEnd o) m.sights) → GoesOn z v (answers.OpenBy o)
    goes_before o g = (g.0, (subst (λ j. IsFalse (o.session == j)) begun.number_is g.1.0, each_left (HasNoEnd o) v.sights begun.kept.0 (subst (Each (HasNoEnd o)) begun.kept.1 g.1.1)))

    pub refused_alone : (e : PutRefusal) → IsRefusedAlone z m rid image at w e → IfSome (refused_reply true e) (λ reply. Answers z v s reply w)
    refused_alone (put.Undeclared table) g = absurd g
    refused_alone (put.Open at' j x) g =
        let o : Writer = record { session = j; transaction = x } in
        let all = behind (Refused rid (answers.OpenBy o)) (close None) g.1.0 in
        subst (λ n. Answers z v s (record { at = Some n; answer = answers.OpenBy o; number = None }) w) (sym g.0)
        (answers_alone z v w s (answers.OpenBy o) at None u none k.access (subst (λ es. Gains v (close None ++ (es ++ Began at (only (table_of s)) ∷ [])) w) (sym (k.opened o)) all)
        (sym (k.by_opened o)) (k.fits_opened o) refl (k.none_opened (Some at) o) most tt tt (goes_before o g.1.1))
    refused_alone (put.Newer at' n) g =
        let all = behind (Refused rid (answers.Newer n)) (close None) g.1.0 in
        let over = g.1.1 in
        subst (λ m. Answers z v s (record { at = Some m; answer = answers.Newer n; number = None }) w) (sym g.0)
        (answers_alone z v w s (answers.Newer n) at None u none k.access (subst (λ es. Gains v (close None ++ (es ++ Began at (only (table_of s)) ∷ [])) w) (sym (k.newer n)) all)
        (sym (k.by_newer n)) (k.fits_newer n) refl (k.none_newer (Some at) n) most tt (omega (arith, over)) tt)
    refused_alone put.NoMemory g = tt

-- ---- put

pub puts : (z : Sizes) (u : Unprinted) (own : List Write) (rid : Rid) (row : List Value) → Writing z (say.Put rid row) u own rid (record { row = Some row }) [] answers.Stored
puts z u own rid row = record {
  access = refl;
  stores = refl;
  opened = λ w. refl;
  newer = λ n. refl;
  fits = tt;
  fits_opened = λ w. tt;
  fits_newer = λ n. tt;
  unscanned = λ scope b. tt;
  stands = λ o. tt;
  by = refl;
  by_opened = λ w. refl;
  by_newer = λ n. refl;
  at = λ at n. refl;
  at_none = refl;
  newer_none = λ at n. refl;
  number_is = λ at n. refl;
  number_none = refl;
  none_opened = λ at w. refl;
  none_newer = λ at n. refl;
  goes = λ v. tt;
}

-- ---- a write in a transaction of its own, and its end

pub refused_over : (z : Sizes) (v m w : View) (rid : Rid) (image : Image) (at : ℕ) (e : WriteRefusal) → Gains v (entries_of {T = ⊤} rid image (Err e)) m → Gains m (Over ∷ []) w →
    IsRefusedBy z v at e → IsRefusedAlone z v rid image at w (refused_at at e)
refused_over z v m w rid image at (Open j x) a b r = (refl, (gains_on v m w _ (Over ∷ []) a b (λ l. refl), r))
refused_over z v m w rid image at (Newer n) a b r = (refl, (gains_on v m w _ (Over ∷ []) a b (λ l. refl), r))
refused_over z v m w rid image at NoMemory a b r = inl (gains_on v m w [] (Over ∷ []) a b (λ l. refl))

-- a refused write leaves no stored one
pub refused_bare : (v m : View) (rid : Rid) (image : Image) (e : WriteRefusal) → Gains v (entries_of {T = ⊤} rid image (Err e)) m → own_writes (session v).log ≡ [] → own_writes (session m).log ≡ []
refused_bare v m rid image (Open j x) a bare = ap own_writes a.log ∙ bare
refused_bare v m rid image (Newer n) a bare = ap own_writes a.log ∙ bare
refused_bare v m rid image NoMemory a bare = ap own_writes a.log ∙ bare

pub committed_alone : (v m w : View) (rid : Rid) (image : Image) (at : ℕ) (r : Option Receipt) → Gains v (Wrote rid image ∷ []) m → Gains m (close (receipt_number r)) w →
    is_some r ≡ is_written (own_writes (session m).log) → IfSome (receipt_number r) (IsAfter m.sights at) → WritesAlone v rid image at w (receipt_number r)
committed_alone v m w rid image at r a b wrote after = record {
  gains = gains_on v m w (Wrote rid image ∷ []) (close (receipt_number r)) a b (λ l. sym (append_assoc (close (receipt_number r)) (Wrote rid image ∷ []) l));
  some = is_number r ∙ (wrote ∙ ap (λ log. is_written (own_writes log)) a.log);
  after = go (receipt_number r) after;
}
  where
    go : (n : Option ℕ) → IfSome n (IsAfter m.sights at) → IfSome n (IsAfter v.sights at)
    go None h = tt
    go (Some n) h = after_before v.sights m.sights at n a.kept h
