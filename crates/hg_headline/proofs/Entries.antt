-- Each statement's line and its entries say the same.
use Rattle.std.proofs.Common.{◌≡◌, ℕ, suc, ◌<◌, ◌≤◌, ◌⊎◌, inl, inr, List, [], ◌∷◌, ◌++◌, map, Bool, true, false, Option, Some, None, refl, sym, ap, ◌∙◌, subst, arith}
use Rattle.std.specs.Prelude.{◌==◌, ◌&&◌, cond, if◌then◌else◌, IsTrue, nat_lt}
use Rattle.std.specs.List.{cons_option}
use Rattle.std.specs.Option.{option_map_or}
use Rattle.std.proofs.lemmas.Bool.Decides.{Decides-ltb}
use Rattle.std.proofs.lemmas.Bool.{or_cases}
use Rattle.hg_base.specs.declared.rid.Rid.{Rid}
use Rattle.hg_base.specs.declared.scope.Scope.{Scope}
use Rattle.hg_base.specs.declared.scope.Snapshot.{Snapshot}
use Rattle.hg_base.specs.declared.report.Kind.{Kind}
use Rattle.hg_base.specs.declared.report.Told.{Told}
use Rattle.hg_base.specs.declared.statement.Record.{Record}
use Rattle.hg_base.specs.declared.statement.Statement.{Statement}
use Rattle.hg_base.specs.declared.statement.Statement.TheVariants.{Begin, Gc, CursorOpen}
use Rattle.hg_base.specs.declared.line.Answer.{Answer}
use Rattle.hg_base.specs.declared.line.Answer.TheVariants.{Begun, Stored, Swept, Beside}
use Rattle.hg_base.specs.declared.line.Reply.{Reply}
use Rattle.hg_base.specs.Lists.{Each}
use Rattle.hg_base.specs.Transcript.{Said, last_images, stored, committed, committed_by, standing, only, table_of, stored_by, said_after, next_after, is_end}
use Rattle.hg_base.specs.Freshness.{snapshot_of, newer_of, is_declared}
use Rattle.hg_base.proofs.ListFacts.{append_nil}
use Rattle.hg_base.specs.declared.rid.TableId.{TableId}
use Rattle.hg_core.specs.declared.log.LogEntry.{LogEntry}
use Rattle.hg_core.specs.declared.log.LogEntry.TheVariants.{Began, Undid}
use Rattle.hg_core.specs.Logs.{current, begans, own_writes, published}
use Rattle.hg_core.specs.Replies.{writes_in, numbers_in}
use Rattle.hg_core.specs.Reading.{Unprinted, own_entries, is_access, close, FitsAnswer, IsGcAnswer}
use Rattle.hg_headline.specs.Gathered.{began_at}
use Rattle.hg_headline.proofs.Words.{cond_same, same_number}
use Rattle.hg_headline.proofs.Ties.{Says, Stands, StandsIn, shows_begun, made_at}
use Rattle.hg_headline.proofs.Adds.{Adds, adds_access, adds_nothing, access_answer, access_commits, access_snapshot, access_newer, access_no_end, IsAccessAnswer}
use Rattle.hg_headline.proofs.Ended.{each_present, each_none, each_some, newer_in, snapshot_in, begans_positive, close_count, close_current, says_close}

-- ---- a get, put, del or scan in a transaction

abbrev pub reply_of : Option ℕ → Answer → Option ℕ → Reply
reply_of at a number = record { at = at; answer = a; number = number }

pub says_within : (l after : List LogEntry) (opened : Said) (nxt : ℕ) (r : Record) (at : Option ℕ) (a : Answer) (number : Option ℕ) → Adds l after (stored_by r.statement a) a →
    IsAccessAnswer a → committed_by r.statement a ≡ None → at ≡ None → number ≡ None → opened.transaction ≡ begans l →
    Says r.session (standing (Some opened) nxt r (reply_of at a number)) l after
says_within l after opened nxt r at a number adds kind ends no_at no_number tr =
    let now : Said = standing (Some opened) nxt r (reply_of at a number) in
    let ends_by : committed now ≡ None = ends in
    record {
      mine = refl;
      own = λ x. adds.writes x ∙ ap (λ n. cond (n == x) (cons_option (stored now) (writes_in x l)) (writes_in x l)) (sym tr);
      numbers = λ x. adds.numbers x ∙ sym (ap (λ o. cond (now.transaction == x) (cons_option o (numbers_in x l)) (numbers_in x l)) ends_by ∙ cond_same (now.transaction == x) (numbers_in x l));
      known = λ n h.
          let k = adds.known n h in (
            k.0,
            each_present (λ m. m ≤ n) (snapshot_of now) (committed now ∷ newer_of now ∷ []) (each_none (λ m. m ≤ n) (snapshot_of now) (access_snapshot a at kind ∙ no_at))
                (each_present (λ m. m ≤ n) (committed now) (newer_of now ∷ []) (each_none (λ m. m ≤ n) (committed now) ends_by)
                (each_present (λ m. m ≤ n) (newer_of now) [] (access_newer n a k.1) tt)),
          );
      begun = λ d told k h. inr (sym (adds.begun d told.number) ∙ h);
      published = λ n. adds.made n r.session ∙ sym (ap (λ o. published n r.session l ++ made_at n o
          (record { session = now.session; transaction = now.transaction; at = now.at; images = last_images (writes_in now.transaction after) })) ends_by ∙ append_nil (published n r.session l));
    }

pub says_inside : (buckets : ℕ) (u : Unprinted) (l : List LogEntry) (opened : Said) (nxt : ℕ) (r : Record) (at : Option ℕ) (a : Answer) (number : Option ℕ) →
    IsTrue (is_access r.statement) → FitsAnswer buckets u (own_writes l) r.statement a → at ≡ None → number ≡ None → opened.transaction ≡ begans l →
    Says r.session (standing (Some opened) nxt r (reply_of at a number)) l (own_entries buckets u r.statement a ++ l)
says_inside buckets u l opened nxt r at a number e f no_at no_number tr = says_within l (own_entries buckets u r.statement a ++ l) opened nxt r at a number
    (adds_access buckets u (own_writes l) r.statement a l e f) (access_answer buckets u (own_writes l) r.statement a e f) (access_commits r.statement a e) no_at no_number tr

pub no_end_opens : (b : Bool) (s : Said) → b ≡ false → (if b then None else Some s) ≡ Some s
no_end_opens true s e = absurd (let k : true ≡ false = e in cc)
no_end_opens false s e = refl

pub some_number : (n m : ℕ) → n ≡ m → 0 < m → nat_lt 0 n ≡ true
some_number n m e h = (Decides-ltb 0 n).1 (omega (arith, e, h))

pub stands_within : (l after : List LogEntry) (c : Snapshot) (opened : Said) (nxt : ℕ) (r : Record) (at : Option ℕ) (a : Answer) (number : Option ℕ) →
    Adds l after (stored_by r.statement a) a → is_end r.statement ≡ false → current l ≡ Some c → StandsIn (Some opened) (Some c) (begans l) →
    Stands (standing (Some opened) nxt r (reply_of at a number)) after
stands_within l after c opened nxt r at a number adds goes_on cur s =
    let now : Said = standing (Some opened) nxt r (reply_of at a number) in
    record {
      some = some_number opened.transaction (begans l) s.0 (begans_positive l c cur);
      number = s.0 ∙ sym adds.count;
      standing = subst (λ o. StandsIn o (current after) (begans after)) (sym (no_end_opens (is_end r.statement) now goes_on))
          (subst (λ o. StandsIn (Some now) o (begans after)) (sym (adds.same ∙ cur)) (s.0 ∙ sym adds.count, s.1));
    }

pub stands_inside : (buckets : ℕ) (u : Unprinted) (l : List LogEntry) (c : Snapshot) (opened : Said) (nxt : ℕ) (r : Record) (at : Option ℕ) (a : Answer) (number : Option ℕ) →
    IsTrue (is_access r.statement) → FitsAnswer buckets u (own_writes l) r.statement a → current l ≡ Some c → StandsIn (Some opened) (Some c) (begans l) →
    Stands (standing (Some opened) nxt r (reply_of at a number)) (own_entries buckets u r.statement a ++ l)
stands_inside buckets u l c opened nxt r at a number e f cur s = stands_within l (own_entries buckets u r.statement a ++ l) c opened nxt r at a number
    (adds_access buckets u (own_writes l) r.statement a l e f) (access_no_end r.statement e) cur s

-- ---- and outside

-- a line that prints the snapshot
pub shows_it : (d : Bool) (told : Told) (now : Said) (s : ℕ) → told.session ≡ now.session → snapshot_of now ≡ Some s →
    ((s == told.number) && (if d then is_declared now.scope else true)) ≡ true → shows_begun d told now ≡ true
shows_it d told now s e f h =
    (λ i. ((now.session == e i) && option_map_or (λ n. n == told.number) (f i) false) && (if d then is_declared now.scope else true))
    ∙ ap (λ b. (b && (s == told.number)) && (if d then is_declared now.scope else true)) (same_number now.session) ∙ h

pub says_outside : (buckets : ℕ) (u : Unprinted) (l : List LogEntry) (r : Record) (s : ℕ) (a : Answer) (number : Option ℕ) (nxt : ℕ) → IsTrue (is_access r.statement) →
    FitsAnswer buckets u (own_writes l) r.statement a → nxt ≡ suc (begans l) →
    Says r.session (standing None nxt r (reply_of (Some s) a number)) l (close number ++ (own_entries buckets u r.statement a ++ (Began s (only (table_of r.statement)) ∷ l)))
says_outside buckets u l r s a number nxt e f tr =
    let l0 : List LogEntry = Began s (only (table_of r.statement)) ∷ l in
    let adds : Adds l0 (own_entries buckets u r.statement a ++ l0) (stored_by r.statement a) a = adds_access buckets u (own_writes l) r.statement a l0 e f in
    let kind : IsAccessAnswer a = access_answer buckets u (own_writes l) r.statement a e f in
    let now : Said = standing None nxt r (reply_of (Some s) a number) in
    let snap : snapshot_of now ≡ Some s = access_snapshot a (Some s) kind in
    let ends_by : committed now ≡ number = refl in
    says_close r.session now l (own_entries buckets u r.statement a ++ l0) number (record { at = s; scope = only (table_of r.statement) }) refl ends_by (tr ∙ sym adds.count) adds.same refl
    (λ x. adds.writes x ∙ ap (λ n. cond (n == x) (cons_option (stored now) (writes_in x l)) (writes_in x l)) (sym tr))
    adds.numbers
    (λ n h k.
    let m = adds.known n h in (
      m.0.1,
      each_present (λ i. i ≤ n) (snapshot_of now) (committed now ∷ newer_of now ∷ []) (each_some (λ i. i ≤ n) (snapshot_of now) s snap m.0.0)
          (each_present (λ i. i ≤ n) (committed now) (newer_of now ∷ []) (subst (λ o. Each (λ i. i ≤ n) (cons_option o [])) (sym ends_by) k)
          (each_present (λ i. i ≤ n) (newer_of now) [] (access_newer n a m.1) tt)),
    ))
    (λ d told k h. go d told k snap (or_cases ((s == told.number) && (if d then is_declared (only (table_of r.statement)) else true)) (began_at d told.number l) (sym (adds.begun d told.number) ∙ h)))
    (λ n. adds.made n r.session)
  where
    go : (d : Bool) (told : Told) → told.session ≡ r.session → snapshot_of (standing None nxt r (reply_of (Some s) a number)) ≡ Some s →
        (((s == told.number) && (if d then is_declared (only (table_of r.statement)) else true)) ≡ true) ⊎ (began_at d told.number l ≡ true) →
        (shows_begun d told (standing None nxt r (reply_of (Some s) a number)) ≡ true) ⊎ (began_at d told.number l ≡ true)
    go d told k snap (inl b) = inl (shows_it d told (standing None nxt r (reply_of (Some s) a number)) s k snap b)
    go d told k snap (inr b) = inr b

pub stands_outside : (buckets : ℕ) (u : Unprinted) (l : List LogEntry) (r : Record) (s : ℕ) (a : Answer) (number : Option ℕ) (nxt : ℕ) → IsTrue (is_access r.statement) →
    FitsAnswer buckets u (own_writes l) r.statement a → nxt ≡ suc (begans l) →
    Stands (standing None nxt r (reply_of (Some s) a number)) (close number ++ (own_entries buckets u r.statement a ++ (Began s (only (table_of r.statement)) ∷ l)))
stands_outside buckets u l r s a number nxt e f tr =
    let l0 : List LogEntry = Began s (only (table_of r.statement)) ∷ l in
    let adds : Adds l0 (own_entries buckets u r.statement a ++ l0) (stored_by r.statement a) a = adds_access buckets u (own_writes l) r.statement a l0 e f in
    record {
      some = some_number nxt (suc (begans l)) tr (omega arith);
      number = tr ∙ sym (close_count number (own_entries buckets u r.statement a ++ l0) ∙ adds.count);
      standing = subst (λ o. StandsIn None o (begans (close number ++ (own_entries buckets u r.statement a ++ l0)))) (sym (close_current number (own_entries buckets u r.statement a ++ l0))) tt;
    }

-- ---- begin

abbrev pub record_of : ℕ → ℕ → Statement → Record
record_of place j s = record { place = place; session = j; statement = s }

pub says_begin : (last : Option Said) (l : List LogEntry) (place j : ℕ) (scope : Scope) (at : Option ℕ) (s : ℕ) (number : Option ℕ) →
    Says j (said_after last (record_of place j (Begin scope)) (reply_of at (Begun s) number) (Begin scope)) l (Began s scope ∷ l)
says_begin last l place j scope at s number =
    let now : Said = said_after last (record_of place j (Begin scope)) (reply_of at (Begun s) number) (Begin scope) in
    let none : committed now ≡ None = refl in
    record {
      mine = refl;
      own = λ x. sym (cond_same (now.transaction == x) (writes_in x l));
      numbers = λ x. sym (ap (λ o. cond (now.transaction == x) (cons_option o (numbers_in x l)) (numbers_in x l)) none ∙ cond_same (now.transaction == x) (numbers_in x l));
      known = λ n h. (h.1, (h.0, each_present (λ m. m ≤ n) (committed now) (None ∷ []) (each_none (λ m. m ≤ n) (committed now) none) tt));
      begun = λ d told k h. go d told k (or_cases ((s == told.number) && (if d then is_declared scope else true)) (began_at d told.number l) h);
      published = λ n. sym (ap (λ o. published n j l ++ made_at n o
          (record { session = now.session; transaction = now.transaction; at = now.at; images = last_images (writes_in now.transaction (Began s scope ∷ l)) })) none ∙ append_nil (published n j l));
    }
  where
    go : (d : Bool) (told : Told) → told.session ≡ j → (((s == told.number) && (if d then is_declared scope else true)) ≡ true) ⊎ (began_at d told.number l ≡ true) →
        (shows_begun d told (said_after last (record_of place j (Begin scope)) (reply_of at (Begun s) number) (Begin scope)) ≡ true) ⊎ (began_at d told.number l ≡ true)
    go d told k (inl b) = inl (shows_it d told (said_after last (record_of place j (Begin scope)) (reply_of at (Begun s) number) (Begin scope)) s k refl b)
    go d told k (inr b) = inr b

pub stands_begin : (last : Option Said) (l : List LogEntry) (place j : ℕ) (scope : Scope) (at : Option ℕ) (s : ℕ) (number : Option ℕ) → next_after last ≡ suc (begans l) →
    Stands (said_after last (record_of place j (Begin scope)) (reply_of at (Begun s) number) (Begin scope)) (Began s scope ∷ l)
stands_begin last l place j scope at s number next = record { some = some_number (next_after last) (suc (begans l)) next (omega arith); number = next; standing = (next, (refl, refl)) }

-- ---- open

pub says_open : (last : Option Said) (l : List LogEntry) (place j : ℕ) (table : TableId) (low high : ℕ) (at : Option ℕ) (s : ℕ) (number : Option ℕ) →
    Says j (said_after last (record_of place j (CursorOpen table low high)) (reply_of at (Begun s) number) (CursorOpen table low high)) l (Began s (only (Some table)) ∷ l)
says_open last l place j table low high at s number =
    let now : Said = said_after last (record_of place j (CursorOpen table low high)) (reply_of at (Begun s) number) (CursorOpen table low high) in
    let none : committed now ≡ None = refl in
    record {
      mine = refl;
      own = λ x. sym (cond_same (now.transaction == x) (writes_in x l));
      numbers = λ x. sym (ap (λ o. cond (now.transaction == x) (cons_option o (numbers_in x l)) (numbers_in x l)) none ∙ cond_same (now.transaction == x) (numbers_in x l));
      known = λ n h. (h.1, (h.0, each_present (λ m. m ≤ n) (committed now) (None ∷ []) (each_none (λ m. m ≤ n) (committed now) none) tt));
      begun = λ d told k h. go d told k (or_cases ((s == told.number) && (if d then is_declared (only (Some table)) else true)) (began_at d told.number l) h);
      published = λ n. sym (ap (λ o. published n j l ++ made_at n o
          (record { session = now.session; transaction = now.transaction; at = now.at; images = last_images (writes_in now.transaction (Began s (only (Some table)) ∷ l)) })) none ∙
          append_nil (published n j l));
    }
  where
    go : (d : Bool) (told : Told) → told.session ≡ j → (((s == told.number) && (if d then is_declared (only (Some table)) else true)) ≡ true) ⊎ (began_at d told.number l ≡ true) →
        (shows_begun d told (said_after last (record_of place j (CursorOpen table low high)) (reply_of at (Begun s) number) (CursorOpen table low high)) ≡ true) ⊎ (began_at d told.number l ≡ true)
    go d told k (inl b) = inl (shows_it d told (said_after last (record_of place j (CursorOpen table low high)) (reply_of at (Begun s) number) (CursorOpen table low high)) s k refl b)
    go d told k (inr b) = inr b

pub stands_open : (last : Option Said) (l : List LogEntry) (place j : ℕ) (table : TableId) (low high : ℕ) (at : Option ℕ) (s : ℕ) (number : Option ℕ) → next_after last ≡ suc (begans l) →
    Stands (said_after last (record_of place j (CursorOpen table low high)) (reply_of at (Begun s) number) (CursorOpen table low high)) (Began s (only (Some table)) ∷ l)
stands_open last l place j table low high at s number next = record { some = some_number (next_after last) (suc (begans l)) next (omega arith); number = next; standing = (next, (refl, refl)) }

-- ---- commit and rollback: the end of the open transaction

pub says_end : (opened : Said) (nxt : ℕ) (l l1 : List LogEntry) (c : Snapshot) (place j : ℕ) (s : Statement) (at : Option ℕ) (a : Answer) (number o : Option ℕ) →
    stored_by s a ≡ None → snapshot_in a at ≡ None → newer_in a ≡ None → committed_by s a ≡ o → Adds l l1 None Stored → current l ≡ Some c → StandsIn (Some opened) (Some c) (begans l) →
    Says j (standing (Some opened) nxt (record_of place j s) (reply_of at a number)) l (close o ++ l1)
says_end opened nxt l l1 c place j s at a number o no_write no_snapshot no_newer ends_by adds cur st =
    let now : Said = standing (Some opened) nxt (record_of place j s) (reply_of at a number) in
    says_close j now l l1 o c refl ends_by (st.0 ∙ sym adds.count) (adds.same ∙ cur) st.1.0
    (λ x. adds.writes x ∙ cond_same (begans l == x) (writes_in x l) ∙ sym (ap (λ w. cond (now.transaction == x) (cons_option w (writes_in x l)) (writes_in x l)) no_write ∙
    cond_same (now.transaction == x) (writes_in x l)))
    adds.numbers
    (λ n h k. (
      (adds.known n h).0,
      each_present (λ i. i ≤ n) (snapshot_of now) (committed now ∷ newer_of now ∷ []) (each_none (λ i. i ≤ n) (snapshot_of now) no_snapshot)
          (each_present (λ i. i ≤ n) (committed now) (newer_of now ∷ []) (subst (λ p. Each (λ i. i ≤ n) (cons_option p [])) (sym ends_by) k)
          (each_present (λ i. i ≤ n) (newer_of now) [] (each_none (λ i. i ≤ n) (newer_of now) no_newer) tt)),
    ))
    (λ d told k h. inr (sym (adds.begun d told.number) ∙ h))
    (λ n. adds.made n j)

pub stands_end : (opened : Said) (nxt : ℕ) (l l1 : List LogEntry) (c : Snapshot) (place j : ℕ) (s : Statement) (reply : Reply) (o : Option ℕ) → is_end s ≡ true →
    Adds l l1 None Stored → current l ≡ Some c → StandsIn (Some opened) (Some c) (begans l) →
    Stands (standing (Some opened) nxt (record_of place j s) reply) (close o ++ l1)
stands_end opened nxt l l1 c place j s reply o e adds cur st =
    let now : Said = standing (Some opened) nxt (record_of place j s) reply in
    record {
      some = some_number opened.transaction (begans l) st.0 (begans_positive l c cur);
      number = st.0 ∙ sym (close_count o l1 ∙ adds.count);
      standing = subst (λ b. StandsIn (if b then None else Some now) (current (close o ++ l1)) (begans (close o ++ l1))) (sym e)
          (subst (λ q. StandsIn None q (begans (close o ++ l1))) (sym (close_current o l1)) tt);
    }

pub adds_undone : (rids : List Rid) (l : List LogEntry) → Adds l (map Undid rids ++ l) None Stored
adds_undone [] l = adds_nothing l Stored tt
adds_undone (r ∷ rids) l = let h = adds_undone rids l in record { count = h.count; same = h.same; own = h.own; writes = h.writes; numbers = h.numbers; known = h.known; begun = h.begun; made = h.made }

-- ---- gc

pub gc_snapshot : (a : Answer) (at : Option ℕ) → IsGcAnswer a → elim a [ Begun s ↦ Some s | _ ↦ at ] ≡ at
gc_snapshot (Swept sweep) at f = refl
gc_snapshot Beside at f = refl
gc_snapshot _ at f = absurd f

pub gc_newer : (a : Answer) → IsGcAnswer a → newer_in a ≡ None
gc_newer (Swept sweep) f = refl
gc_newer Beside f = refl
gc_newer _ f = absurd f

pub says_gc : (last : Option Said) (l : List LogEntry) (place j : ℕ) (kind : Kind) (at : Option ℕ) (a : Answer) (number : Option ℕ) → at ≡ None → number ≡ None → IsGcAnswer a →
    Says j (said_after last (record_of place j (Gc kind)) (reply_of at a number) (Gc kind)) l l
says_gc last l place j kind at a number no_at no_number f =
    let now : Said = said_after last (record_of place j (Gc kind)) (reply_of at a number) (Gc kind) in
    let none : committed now ≡ None = refl in
    record {
      mine = refl;
      own = λ x. sym (cond_same (now.transaction == x) (writes_in x l));
      numbers = λ x. sym (ap (λ o. cond (now.transaction == x) (cons_option o (numbers_in x l)) (numbers_in x l)) none ∙ cond_same (now.transaction == x) (numbers_in x l));
      known = λ n h. (
        h,
        each_present (λ m. m ≤ n) (snapshot_of now) (committed now ∷ newer_of now ∷ []) (each_none (λ m. m ≤ n) (snapshot_of now) (gc_snapshot a at f ∙ no_at))
            (each_present (λ m. m ≤ n) (committed now) (newer_of now ∷ []) (each_none (λ m. m ≤ n) (committed now) none)
            (each_present (λ m. m ≤ n) (newer_of now) [] (each_none (λ m. m ≤ n) (newer_of now) (gc_newer a f)) tt)),
      );
      begun = λ d told k h. inr h;
      published = λ n. sym (ap (λ o. published n j l ++ made_at n o
          (record { session = now.session; transaction = now.transaction; at = now.at; images = last_images (writes_in now.transaction l) })) none ∙ append_nil (published n j l));
    }
