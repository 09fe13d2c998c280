-- A group is published: the history, the mark and the logs of its sessions grow.
use Rattle.std.proofs.Common.{◌≡◌, ℕ, suc, ◌<◌, ◌≤◌, inl, inr, List, [], ◌∷◌, ◌++◌, length, Option, None, Some, Bool, true, false, refl, sym, ap, ◌∙◌, subst, arith, option_map}
use Rattle.std.specs.Prelude.{◌==◌, ◌||◌, if◌then◌else◌, IsSome, IsTrue}
use Rattle.std.proofs.lemmas.Bool.Decides.{Decides-eqb, nat_tests}
use Rattle.hg_base.specs.declared.rid.Rid.{Rid}
use Rattle.hg_base.specs.declared.writer.Writer.{Writer}
use Rattle.hg_base.specs.declared.image.Image.{Image}
use Rattle.hg_base.specs.Lists.{Each}
use Rattle.hg_base.specs.History.{History, group_image, writes}
use Rattle.hg_base.proofs.ListFacts.{cases}
use Rattle.hg_core.specs.declared.phase.Phase.{Phase}
use Rattle.hg_core.specs.declared.phase.Phase.TheVariants.{Idle, Declared, Probed, Entered, Fixed, Live}
use Rattle.hg_core.specs.declared.log.LogEntry.{LogEntry}
use Rattle.hg_core.specs.declared.log.LogEntry.TheVariants.{Began, Saw, Refused, Outside, Wrote, Undid, Published, Over}
use Rattle.hg_core.specs.Logs.{current, begans, wrotes, begun_in, open_in, is_plain, has_number, new_group, is_in, published_logs, UpTo}
use Rattle.hg_core.specs.Phases.{IsSession, snapshot_in, MayHaveBegun}
use Rattle.hg_core.specs.declared.version.Version.{Version}
use Rattle.hg_core.specs.Versions.{is_numbered, unpublished}
use Rattle.hg_core.specs.Contents.{versions, is_stamped}
use Rattle.hg_core.specs.OpenWrites.{writer_of}
use Rattle.hg_core.specs.Replies.{RepliesAnswer}
use Rattle.hg_core.proofs.Replies.{replies_published}
use Rattle.hg_core.specs.Covered.{MayCommit}
use Rattle.hg_core.specs.State.{CoreState}
use Rattle.hg_core.specs.Events.{happens, May, MayPublish, Publish}
use Rattle.hg_core.specs.Marks.{PhaseUpTo}
use Rattle.hg_core.specs.Judged.{Judge, Judged, FixedOver, IsNamed, LogsAnswer, UndoesOpen}
use Rattle.hg_core.specs.Invariant.{IsSteady}
use Rattle.hg_core.proofs.Groups.{wider, length_more, commits_kept}
use Rattle.hg_core.proofs.Recalls.{reach_grown}
use Rattle.hg_core.proofs.Versions.{same_pair, ordered_next, unpublished_next, unnumbered_same}
use Rattle.hg_core.proofs.Updates.{some_is, update_more, group_loses_nothing}
use Rattle.hg_core.proofs.Grouping.{history_more}
use Rattle.hg_core.proofs.Backing.{backed_published}
use Rattle.hg_core.proofs.Past.{writes_old}
use Rattle.hg_core.proofs.Covering.{covers_published}
use Rattle.hg_core.proofs.OpenWrites.{stamped_has}
use Rattle.hg_core.proofs.NewGroup.{writer_in, nobody_in, write_image, write_in}
use Rattle.hg_core.specs.Ordered.{group_write}
use Rattle.hg_core.specs.Counters.{first_writes, undos}
use Rattle.hg_core.proofs.Tallies.{counters_quiet}
use Rattle.hg_core.proofs.Visits.{visits_later}
use Rattle.hg_core.proofs.Clean.{stays_same}

phase_wider : (n m : ℕ) (p : Phase) → n ≤ m → PhaseUpTo n p → PhaseUpTo m p
phase_wider n m Idle k u = tt
phase_wider n m (Declared scope) k u = tt
phase_wider n m (Probed scope f) k u = omega (arith, u)
phase_wider n m (Entered scope f) k u = omega (arith, u)
phase_wider n m (Fixed scope f a) k u = (omega (arith, u.0), omega (arith, u.1))
phase_wider n m (Live at scope) k u = omega (arith, u)

-- what was judged over a history is so over a longer one
judge_longer : (h more : History) (e : LogEntry) (log : List LogEntry) → length h ≤ length more → Judge h e log → Judge more e log
judge_longer h more (Began at scope) log k q = record { within = (let w = q.within in omega arith); over = q.over; alone = q.alone }
judge_longer h more (Saw t low high b rows) log k q = q
judge_longer h more (Refused r answer) log k q = q
judge_longer h more (Outside t) log k q = q
judge_longer h more (Wrote r image) log k q = q
judge_longer h more (Undid r) log k q = q
judge_longer h more (Published n) log k q = q
judge_longer h more Over log k q = q

judged_longer : (h more : History) (log : List LogEntry) → length h ≤ length more → Judged h log → Judged more log
judged_longer h more [] k q = tt
judged_longer h more (e ∷ log) k q = (judge_longer h more e log k q.0, judged_longer h more log k q.1)

-- what holds of each that is listed holds of one that is in
pub each_in : (P : ℕ → Type 0) (js : List ℕ) (j : ℕ) → Each P js → is_in js j ≡ true → P j
each_in P [] j h e = absurd (let k : false ≡ true = e in cc)
each_in P (i ∷ js) j h e = cases (i == j) (λ q. subst P ((Decides-eqb i j).0 q) h.0) (λ q. each_in P js j h.1 (sym (ap (λ b. b || is_in js j) q) ∙ e))

-- a live session has fixed no number
pub over_live : (p : Phase) (log : List LogEntry) → IsSome (snapshot_in p) → FixedOver p log
over_live Idle log some = tt
over_live (Declared scope) log some = tt
over_live (Probed scope f) log some = tt
over_live (Entered scope f) log some = tt
over_live (Fixed scope f m) log some = cc
over_live (Live at scope) log some = tt

logs_published : (sessions quota : ℕ) (h : History) (phase : ℕ → Phase) (log : ℕ → List LogEntry) (list : List (ℕ × Rid)) (js : List ℕ) → LogsAnswer sessions quota h phase log →
    ((j : ℕ) → IsSome (current (log j)) → IsSession sessions j) → MayPublish log list js → LogsAnswer sessions quota (h ++ new_group log js ∷ []) phase (published_logs log js (suc (length h)))
logs_published sessions quota h phase log list js a session_of may = record {
  reads = λ j. reads_new j (is_in js j);
  room = λ j. room_new j (is_in js j);
  written = λ j. written_new j (is_in js j);
  fixed = λ j. fixed_new j (is_in js j) refl;
  within = λ j. within_new j (is_in js j);
  judged = λ j. judged_new j (is_in js j) refl;
  undone = λ j. undone_new j (is_in js j);
  commits = commits_kept h log js a.commits a.within may.distinct;
  named = λ n some last. cases (n == suc (length h))
      (λ e. let same : suc (length h) ≡ n = sym ((Decides-eqb n (suc (length h))).0 e) in subst (λ m. IsNamed sessions (published_logs log js (suc (length h))) m) same (named_new js refl))
      (λ e. let less : n ≤ length h = before n last e in let was = a.named n some less in (was.0, was.1, stays n was.0 (is_in js was.0) was.2));
}
  where
    one_more : length (h ++ new_group log js ∷ []) ≡ suc (length h)
    one_more = length_more h (new_group log js)

    before : (n : ℕ) → n ≤ length (h ++ new_group log js ∷ []) → (n == suc (length h)) ≡ false → n ≤ length h
    before n last e = let other : (n ≡ suc (length h)) → ⊥ = λ q. let t : (n == suc (length h)) ≡ true = (Decides-eqb n (suc (length h))).1 q in cc in grind (arith, nat_tests, one_more)

    stays : (n k : ℕ) (b : Bool) → IsTrue (has_number n (log k)) → IsTrue (has_number n (if b then Published (suc (length h)) ∷ log k else log k))
    stays n k true e = rw e (grind arith)
    stays n k false e = e

    has_new : (i : ℕ) (b : Bool) → b ≡ true → IsTrue (has_number (suc (length h)) (if b then Published (suc (length h)) ∷ log i else log i))
    has_new i true e = let same : (suc (length h) == suc (length h)) ≡ true = grind (arith, nat_tests) in ap (λ b. b || has_number (suc (length h)) (log i)) same
    has_new i false e = cc

    named_new : (is : List ℕ) → is ≡ js → IsNamed sessions (published_logs log js (suc (length h))) (suc (length h))
    named_new [] e = absurd (let some : 0 < length js = may.some in let none : length js ≡ 0 = sym (ap length e) in omega arith)
    named_new (i ∷ rest) e =
        let here : is_in js i ≡ true = subst (λ is. is_in is i ≡ true) e (let same : (i == i) ≡ true = grind (arith, nat_tests) in ap (λ b. b || is_in rest i) same) in
        (i, session_of i (each_in (λ k. IsSome (current (log k))) js i may.opened here), has_new i (is_in js i) here)

    longer : length h ≤ length (h ++ new_group log js ∷ [])
    longer = omega (arith, one_more)

    reads_new : (j : ℕ) (b : Bool) → current (if b then Published (suc (length h)) ∷ log j else log j) ≡ snapshot_in (phase j)
    reads_new j true = a.reads j
    reads_new j false = a.reads j

    room_new : (j : ℕ) (b : Bool) → MayHaveBegun quota (phase j) (begans (if b then Published (suc (length h)) ∷ log j else log j))
    room_new j true = a.room j
    room_new j false = a.room j

    undone_new : (j : ℕ) (b : Bool) → UndoesOpen (if b then Published (suc (length h)) ∷ log j else log j)
    undone_new j true = a.undone j
    undone_new j false = a.undone j

    written_new : (j : ℕ) (b : Bool) → wrotes (if b then Published (suc (length h)) ∷ log j else log j) ≤ quota
    written_new j true = a.written j
    written_new j false = a.written j

    fixed_new : (j : ℕ) (b : Bool) → is_in js j ≡ b → FixedOver (phase j) (if b then Published (suc (length h)) ∷ log j else log j)
    fixed_new j true e = let some : IsSome (current (log j)) = each_in (λ i. IsSome (current (log i))) js j may.opened e in over_live (phase j) _ (subst IsSome (a.reads j) some)
    fixed_new j false e = a.fixed j

    within_new : (j : ℕ) (b : Bool) → UpTo (length (h ++ new_group log js ∷ [])) (if b then Published (suc (length h)) ∷ log j else log j)
    within_new j true = (omega (arith, one_more), wider (length h) _ (log j) longer (a.within j))
    within_new j false = wider (length h) _ (log j) longer (a.within j)

    judged_new : (j : ℕ) (b : Bool) → is_in js j ≡ b → Judged (h ++ new_group log js ∷ []) (if b then Published (suc (length h)) ∷ log j else log j)
    judged_new j true e = (
      record {
        opened = each_in (λ i. IsSome (current (log i))) js j may.opened e;
        plain = each_in (λ i. IsTrue (is_plain (log i))) js j may.plain e;
      },
      judged_longer h _ (log j) longer (a.judged j),
    )
    judged_new j false e = judged_longer h _ (log j) longer (a.judged j)

pub publish_kept : (s : CoreState) (js : List ℕ) → IsSteady s → May s (Publish js) → IsSteady (happens s (Publish js))
publish_kept s js h may = record {
  mark_is_length = record {
    is_length = ap suc h.mark_is_length.is_length ∙ sym (length_more s.history (new_group s.log js));
    sessions = λ j. phase_wider s.mark (suc s.mark) (s.phase j) (omega arith) (h.mark_is_length.sessions j);
    passes = λ p. omega (arith, h.mark_is_length.passes p);
  };
  registers_agree = h.registers_agree;
  records_bound_sessions = h.records_bound_sessions;
  records_reach_logs = reach_grown s.phase s.log (published_logs s.log js (suc s.mark)) (λ k. if is_in js k then Published (suc s.mark) ∷ [] else []) s.pass
      (λ k. grows k (is_in js k)) h.records_reach_logs;
  covered = λ r. covers_published s.mark s.phase s.history (new_group s.log js) r (held r) h.mark_is_length.is_length h.mark_is_length.sessions (h.contents_are_ordered.ordered r)
      (λ i e.
      let who = writer_in r i s.log js may.plain e in
      let own = h.open_writes_stand.owns r who.0 i who.2 in
      (writer_of (begun_in s.log) who.0, own, in_group r (writer_of (begun_in s.log) who.0) i own ∙ who.1))
      (λ e w i o. in_group r w i o ∙ out_of r w i o e (is_in js w.session) refl)
      (h.covered r);
  open_writes_may_commit = λ j r i e. let was = opened_old j r i (is_in js j) refl e in commits_later r j i was.1 was.0;
  contents_are_ordered = record {
    ordered = λ r. ordered_next s.mark (held r) (h.contents_are_ordered.ordered r);
    backed = λ r. backed_published s.mark s.history (new_group s.log js) r (held r) h.mark_is_length.is_length (h.contents_are_ordered.ordered r) (written r) (h.contents_are_ordered.backed r);
  };
  contents_are_placed = h.contents_are_placed;
  visits_stay = visits_later s.passes s.buckets s.mark (suc s.mark) held held s.visits (omega arith) (λ r. stays_same s.mark (held r)) h.visits_stay;
  counters_balance = counters_quiet s.sessions s.buckets s.passes s.log (published_logs s.log js (suc s.mark)) s.bucket s.counters s.visits (λ k test. counted k test (is_in js k)) h.counters_balance;
  open_writes_stand = record {
    owned = λ r w i e.
        let was = unpublished_next s.mark (held r) w i (h.contents_are_ordered.ordered r) e in
        let own = h.open_writes_stand.owned r w i was.0 in
        let out : is_in js w.session ≡ false = sym (in_group r w i was.0) ∙ was.1 in
        (own.0 ∙ ap (λ n. writer w.session n) (sym (begun_new w.session (is_in js w.session))), opened_new w.session r out ∙ own.1);
    owns = λ r j i e.
        let was = opened_old j r i (is_in js j) refl e in
        let own = h.open_writes_stand.owns r j i was.1 in
        unnumbered_same s.mark (suc s.mark) (held r) (in_group r (writer_of (begun_in s.log) j) i own ∙ was.0) ∙ own ∙ ap (λ n. Some (writer j n, i)) (sym (begun_new j (is_in js j)));
  };
  stamped_is_next = record {
    exact = λ r w i e. (unpublished_next s.mark (held r) w i (h.contents_are_ordered.ordered r) e).1;
    standing = λ j r e. absurd (let z : false ≡ true = e in cc);
  };
  history = history_more s.history s.log s.stamped_list js h.history h.logs_answer.within may.some may.distinct may.plain may.stamped h.stamped_is_next.standing
      (λ r j k a b. let x = some_is (open_in r (s.log j)) a in let y = some_is (open_in r (s.log k)) b in one_owner r j k x.0 y.0 x.1 y.1);
  no_update_is_lost = update_more s.history (new_group s.log js) h.no_update_is_lost (group_loses_nothing s.history s.phase s.log js h.logs_answer.reads h.open_writes_may_commit may.plain);
  taken_at_most_mark = omega (arith, h.taken_at_most_mark);
  replies_answer = subst (λ n. RepliesAnswer s.buckets (s.history ++ new_group s.log js ∷ []) (published_logs s.log js (suc n))) (sym h.mark_is_length.is_length)
      (replies_published s.buckets s.history (new_group s.log js) s.log js h.logs_answer.within h.replies_answer);
  logs_answer = subst (λ n. LogsAnswer s.sessions s.quota (s.history ++ new_group s.log js ∷ []) s.phase (published_logs s.log js (suc n))) (sym h.mark_is_length.is_length)
      (logs_published s.sessions s.quota s.history s.phase s.log s.stamped_list js h.logs_answer session_of may);
}
  where
    session_of : (j : ℕ) → IsSome (current (s.log j)) → IsSession s.sessions j
    session_of j some = elim (h.registers_agree.others j) [
      | inl session ↦ session
      | inr rests ↦ (let z : IsSome (snapshot_in Idle) = subst IsSome (h.logs_answer.reads j ∙ ap snapshot_in rests) some in cc)
    ]

    held : Rid → List Version
    held = versions s.buckets s.bucket

    writer : ℕ → ℕ → Writer
    writer j n = record { session = j; transaction = n }

    -- what isn't published has a number where its session is of the group
    in_group : (r : Rid) (w : Writer) (i : Image) → unpublished s.mark (held r) ≡ Some (w, i) → is_numbered (held r) ≡ is_in js w.session
    in_group r w i e = h.stamped_is_next.exact r w i e ∙ go (is_in js w.session) refl (is_stamped w.session r s.stamped_list) refl
      where
        go : (a : Bool) → is_in js w.session ≡ a → (b : Bool) → is_stamped w.session r s.stamped_list ≡ b → b ≡ a
        go true p true q = refl
        go true p false q = absurd (let own = (h.open_writes_stand.owned r w i e).1 in let z = may.whole w.session r p (subst IsSome (sym own) refl) in cc)
        go false p true q = absurd (let z = stamped_has w.session r s.stamped_list q in let y = may.stamped w.session in cc)
        go false p false q = refl

    counted : (k : ℕ) (test : Rid → Bool) (b : Bool) → (first_writes test (if b then Published (suc s.mark) ∷ s.log k else s.log k) ≡ first_writes test (s.log k)) ×
        (undos test (if b then Published (suc s.mark) ∷ s.log k else s.log k) ≡ undos test (s.log k))
    counted k test true = (refl, refl)
    counted k test false = (refl, refl)

    begun_new : (k : ℕ) (b : Bool) → begans (if b then Published (suc s.mark) ∷ s.log k else s.log k) ≡ begans (s.log k)
    begun_new k true = refl
    begun_new k false = refl

    opened_new : (k : ℕ) (r : Rid) → is_in js k ≡ false → open_in r (published_logs s.log js (suc s.mark) k) ≡ open_in r (s.log k)
    opened_new k r e = ap (λ b. open_in r (if b then Published (suc s.mark) ∷ s.log k else s.log k)) e

    opened_old : (k : ℕ) (r : Rid) (i : Image) (b : Bool) → is_in js k ≡ b → open_in r (if b then Published (suc s.mark) ∷ s.log k else s.log k) ≡ Some i → (is_in js k ≡ false) ×
        (open_in r (s.log k) ≡ Some i)
    opened_old k r i true e o = cc
    opened_old k r i false e o = (e, o)

    -- two sessions that have a record open are one
    one_owner : (r : Rid) (j k : ℕ) (a b : Image) → open_in r (s.log j) ≡ Some a → open_in r (s.log k) ≡ Some b → j ≡ k
    one_owner r j k a b p q = ap (λ x. x.0.session) (same_pair (writer_of (begun_in s.log) j, a) (writer_of (begun_in s.log) k, b) (sym (h.open_writes_stand.owns r j a p) ∙
        h.open_writes_stand.owns r k b q))

    -- the group writes what is stamped, by its writer
    written : (r : Rid) (w : Writer) (i : Image) → unpublished s.mark (held r) ≡ Some (w, i) → is_numbered (held r) ≡ true → group_write r (new_group s.log js) ≡ Some (w, i)
    written r w i e n = go (group_write r (new_group s.log js)) refl
      where
        go : (x : Option (Writer × Image)) → group_write r (new_group s.log js) ≡ x → group_write r (new_group s.log js) ≡ Some (w, i)
        go None q = absurd (
            let own = (h.open_writes_stand.owned r w i e).1 in
            let none : group_image r (new_group s.log js) ≡ None = sym (write_image r (new_group s.log js)) ∙ ap (option_map (λ (p : Writer × Image). p.1)) q in
            let z = nobody_in r s.log js w.session may.plain none (sym (in_group r w i e) ∙ n) in
            cc
            )
        go (Some p) q =
            let z = write_in r p.0 p.1 s.log js may.plain q in
            q ∙ ap (λ v. Some (v, p.1)) z.0 ∙ sym (h.open_writes_stand.owns r p.0.session p.1 z.1) ∙ e

    -- who has open what the group doesn't write is not of the group
    out_of : (r : Rid) (w : Writer) (i : Image) → unpublished s.mark (held r) ≡ Some (w, i) → group_image r (new_group s.log js) ≡ None → (b : Bool) → is_in js w.session ≡ b → b ≡ false
    out_of r w i o e true q = absurd (let z = nobody_in r s.log js w.session may.plain e q in let y = (h.open_writes_stand.owned r w i o).1 in cc)
    out_of r w i o e false q = refl

    -- what another session has open the group doesn't write
    not_written : (r : Rid) (j : ℕ) (i : Image) → open_in r (s.log j) ≡ Some i → is_in js j ≡ false → group_image r (new_group s.log js) ≡ None
    not_written r j i o out = go (group_image r (new_group s.log js)) refl
      where
        go : (x : Option Image) → group_image r (new_group s.log js) ≡ x → group_image r (new_group s.log js) ≡ None
        go None q = q
        go (Some a) q = absurd (let z = writer_in r a s.log js may.plain q in let same : z.0 ≡ j = one_owner r z.0 j a i z.2 o in let y = z.1 in cc)

    commits_later : (r : Rid) (j : ℕ) (i : Image) → open_in r (s.log j) ≡ Some i → is_in js j ≡ false → MayCommit (s.history ++ new_group s.log js ∷ []) r (s.phase j)
    commits_later r j i o out = later (s.phase j) (h.open_writes_may_commit j r i o)
      where
        same : writes (s.history ++ new_group s.log js ∷ []) r ≡ writes s.history r
        same = writes_old s.history (new_group s.log js) r (not_written r j i o out)

        later : (p : Phase) → MayCommit s.history r p → MayCommit (s.history ++ new_group s.log js ∷ []) r p
        later Idle m = m
        later (Declared scope) m = m
        later (Probed scope f) m = m
        later (Entered scope f) m = m
        later (Fixed scope f n) m = m
        later (Live at scope) m = (m.0, subst (Each (λ (w : ℕ × Image). w.0 ≤ at)) (sym same) m.1)

    grows : (k : ℕ) (b : Bool) → (if b then Published (suc s.mark) ∷ s.log k else s.log k) ≡ (if b then Published (suc s.mark) ∷ [] else []) ++ s.log k
    grows k true = refl
    grows k false = refl
