-- A line in the open transaction is right, and what one thread knows goes on.
use Rattle.std.proofs.Common.{◌≡◌, ℕ, suc, ◌≤◌, ◌⊎◌, inl, inr, List, [], ◌∷◌, ◌++◌, Bool, true, false, Option, Some, None, refl, sym, ap, ◌∙◌, subst, arith}
use Rattle.std.specs.Prelude.{cond, filter, filter_map, if◌then◌else◌, option_map, IfSome, IsSome}
use Rattle.std.specs.List.{cons_option}
use Rattle.hg_base.specs.declared.rid.Rid.{Rid}
use Rattle.hg_base.specs.declared.image.Image.{Image}
use Rattle.hg_base.specs.declared.statement.Record.{Record}
use Rattle.hg_base.specs.declared.statement.Statement.{Statement}
use Rattle.hg_base.specs.declared.statement.Statement.TheVariants.{Begin, Get, Put, Del, Scan, CursorOpen, Fetch, CursorClose, Commit as CommitIt, Rollback, Gc}
use Rattle.hg_base.specs.declared.line.Answer.{Answer}
use Rattle.hg_base.specs.declared.line.Answer.TheVariants.{Stored, Gone, Committed, Ended}
use Rattle.hg_base.specs.Lists.{Each, onto}
use Rattle.hg_base.specs.Script.{replay}
use Rattle.hg_base.specs.History.{Write, History, image_in, same_rid, writes}
use Rattle.hg_base.specs.Transcript.{Said, commit_by, committed_by, is_end, is_of, last_images, last_of, next_after, open_after, open_of}
use Rattle.hg_base.specs.Transcript.{standing, stored, stored_by, stored_in}
use Rattle.hg_base.specs.Replies.{IsReply, is_written}
use Rattle.hg_base.specs.Conflicts.{ShowsCause, ShowsConflict, target}
use Rattle.hg_base.specs.Freshness.{IsFresh}
use Rattle.hg_base.proofs.HistoryFacts.{same_rid_equal, written_each}
use Rattle.hg_exact.specs.State.{Open, State, but, going, mark, with_group}
use Rattle.hg_exact.specs.Answers.{answer_in, newest, writers}
use Rattle.hg_exact.specs.Lawful.{MayAsk}
use Rattle.hg_exact.specs.Replayed.{inside, within}
use Rattle.hg_exact.proofs.Answering.{IsPlain, answer_prints, answered, target_by}
use Rattle.hg_exact.proofs.Causes.{cause_shown}
use Rattle.hg_exact.proofs.Counting.{AreBegun, WasBegun, are_begun, begun_more}
use Rattle.hg_exact.proofs.Keeping.{IsKept, each_newest, kept_but, kept_commit, nobody, wrote_by}
use Rattle.hg_exact.proofs.Standing.{Shows, last_by, last_some, open_as, opened_last, shows_within}
use Rattle.hg_exact.proofs.Known.{given, Knows, if_some_is, said_same, no_said, plain_line, commit_line, fresh_line, upto_line}

-- what is stored was written before, or nobody else has it open, and no newer group wrote it
abbrev pub MayStore : State → Open → Write → Type 0
MayStore s o w = IsSome (image_in w.rid o.wrote) ⊎ ((writers s w.rid ≡ []) × (newest s.history w.rid ≤ o.at))

pub may_store : (s : State) (o : Open) (st : Statement) → IsPlain st → IfSome (stored_by st (answer_in s o st)) (MayStore s o)
may_store s o (Begin scope) plain = tt
may_store s o (CursorOpen table low high) plain = tt
may_store s o (Gc kind) plain = tt
may_store s o (Put r row) plain = target_by (λ a. IfSome (stored_by (Put r row) a) (MayStore s o)) s o r (Put r row) refl tt tt (λ a is k. either a is k) (λ w ws f g. tt) (λ f g k. tt)
  where
    either : (a : Answer) → (a ≡ Stored) ⊎ (a ≡ Gone) → IsSome (image_in r o.wrote) ⊎ ((writers s r ≡ []) × (newest s.history r ≤ o.at)) → IfSome (stored_by (Put r row) a) (MayStore s o)
    either a (inl f) k = subst (λ x. IfSome (stored_by (Put r row) x) (MayStore s o)) (sym f) k
    either a (inr f) k = subst (λ x. IfSome (stored_by (Put r row) x) (MayStore s o)) (sym f) tt
may_store s o (Del r) plain = target_by (λ a. IfSome (stored_by (Del r) a) (MayStore s o)) s o r (Del r) refl tt tt (λ a is k. either a is k) (λ w ws f g. tt) (λ f g k. tt)
  where
    either : (a : Answer) → (a ≡ Stored) ⊎ (a ≡ Gone) → IsSome (image_in r o.wrote) ⊎ ((writers s r ≡ []) × (newest s.history r ≤ o.at)) → IfSome (stored_by (Del r) a) (MayStore s o)
    either a (inl f) k = subst (λ x. IfSome (stored_by (Del r) x) (MayStore s o)) (sym f) tt
    either a (inr f) k = subst (λ x. IfSome (stored_by (Del r) x) (MayStore s o)) (sym f) k
may_store s o _ plain = tt

module _ (sound : Bool) (all : List Said) (s : State) (knows : Knows sound all s) (place j : ℕ) (some : 1 ≤ j) (most : j ≤ s.sessions) where
  abbrev earlier : List Said
  earlier = onto all []

  abbrev asked : Statement → Record
  asked st = record { place = place; session = j; statement = st }

  -- ---- a line in the open transaction

  module _ (q : Said) (e : open_of j earlier ≡ Some q) where
    abbrev o : Open
    o = open_as j earlier q

    abbrev line : Statement → Said
    line st = standing (Some q) (next_after (last_of j earlier)) (asked st) (inside (answer_in s o st))

    opened_o : s.opened j ≡ Some o
    opened_o = knows.shows.opened j ∙ ap (option_map (open_as j earlier)) e

    kept_o : IsKept s.sessions s.history j o
    kept_o = subst (λ x. IfSome x (IsKept s.sessions s.history j)) opened_o (knows.kept.each j)

    line_reply : (st : Statement) → IsPlain st → MayAsk (Some o) st → IsReply replay s.history earlier (line st)
    line_reply st plain may = record { at = refl; number = refl; snapshot = kept_o.at; answer = answered s o st (line st) plain may }

    line_conflict : (st : Statement) (h : History) → h ≡ s.history → ShowsConflict replay h (all ++ line st ∷ []) earlier (line st)
    line_conflict st h same = subst (λ k. ShowsConflict replay k (all ++ line st ∷ []) earlier (line st)) (sym same) (go (target st) refl)
      where
        go : (t : Option Rid) → target st ≡ t → IfSome t (λ r. ShowsCause replay s.history (all ++ line st ∷ []) earlier (line st) r (answer_in s o st))
        go None f = tt
        go (Some r) f = cause_shown s all (line st) knows.shows o st r f refl refl (λ none. ap (λ x. image_in r (wrote_by x)) opened_o ∙ none)

    line_fresh : (st : Statement) → IsPlain st → (h : History) → IsFresh replay h (all ++ line st ∷ []) earlier (line st)
    line_fresh st plain h = fresh_line sound all s knows place j some most (line st) h (all ++ line st ∷ []) refl (answer_prints s o st plain) (inl refl)

    line_shows : (st : Statement) → Shows (line st ∷ earlier) s.begun (but s.opened j (if is_end st then None else Some (going o st (answer_in s o st))))
    line_shows st = shows_within j earlier s.begun s.opened knows.shows (line st) q refl e (last_some j earlier q (opened_last j earlier s.begun s.opened knows.shows q e)) refl refl refl refl

    line_begun : (st : Statement) → AreBegun (line st ∷ earlier)
    line_begun st = are_begun j earlier (line st) refl knows.begun (λ p f. go (is_end st) p (sym (ap open_after last) ∙ f))
      where
        last : last_of j (line st ∷ earlier) ≡ Some (line st)
        last = last_by j earlier (line st) true refl (last_some j earlier q (opened_last j earlier s.begun s.opened knows.shows q e))

        go : (b : Bool) (p : Said) → cond b None (Some (line st)) ≡ Some p → WasBegun j (line st ∷ earlier) p
        go true p f = absurd (no_said p f)
        go false p f = subst (WasBegun j (line st ∷ earlier)) (said_same (line st) p f) (begun_more j earlier (line st) q (line st) refl refl (knows.begun j q e))

    -- what the transaction writes, no other has written
    alone_writes : (x : Option Write) → IfSome x (MayStore s o) → (k : ℕ) (r : Rid) → (k ≡ j → ⊥) → IsSome (image_in r (cons_option x o.wrote)) → image_in r (wrote_by (s.opened k)) ≡ None
    alone_writes None m k r f w = knows.kept.apart j k r (λ g. f (sym g)) (subst (λ x. IsSome (image_in r (wrote_by x))) (sym opened_o) w)
    alone_writes (Some v) m k r f w = go (same_rid v.rid r) refl w
      where
        old : (i : Rid) → IsSome (image_in i o.wrote) → image_in i (wrote_by (s.opened k)) ≡ None
        old i h = knows.kept.apart j k i (λ g. f (sym g)) (subst (λ x. IsSome (image_in i (wrote_by x))) (sym opened_o) h)

        new : IsSome (image_in v.rid o.wrote) ⊎ ((writers s v.rid ≡ []) × (newest s.history v.rid ≤ o.at)) → image_in v.rid (wrote_by (s.opened k)) ≡ None
        new (inl h) = old v.rid h
        new (inr h) = nobody s v.rid knows.kept h.0 k

        go : (b : Bool) → same_rid v.rid r ≡ b → IsSome (cond b (Some v.image) (image_in r o.wrote)) → image_in r (wrote_by (s.opened k)) ≡ None
        go true g h = subst (λ i. image_in i (wrote_by (s.opened k)) ≡ None) (same_rid_equal v.rid r g) (new m)
        go false g h = old r h

    loses_none : (x : Option Write) → IfSome x (MayStore s o) → Each (λ w. Each (λ (other : ℕ × Image). other.0 ≤ o.at) (writes s.history w.rid)) (cons_option x o.wrote)
    loses_none None m = kept_o.loses
    loses_none (Some v) m = (go m, kept_o.loses)
      where
        go : IsSome (image_in v.rid o.wrote) ⊎ ((writers s v.rid ≡ []) × (newest s.history v.rid ≤ o.at)) → Each (λ (other : ℕ × Image). other.0 ≤ o.at) (writes s.history v.rid)
        go (inl h) = written_each (λ r. Each (λ (other : ℕ × Image). other.0 ≤ o.at) (writes s.history r)) o.wrote v.rid kept_o.loses h
        go (inr h) = each_newest s.history v.rid o.at h.1

    -- a statement that ends nothing
    going_line : (st : Statement) → IsPlain st → MayAsk (Some o) st → is_end st ≡ false → committed_by st (answer_in s o st) ≡ None
        → Knows sound (all ++ line st ∷ []) (record { sessions = s.sessions; history = s.history; begun = s.begun; opened = but s.opened j (Some (going o st (answer_in s o st))) })
    going_line st plain may goes none =
        let a : Answer = answer_in s o st in
        plain_line sound all s knows place j some most (line st) s.begun (but s.opened j (Some (going o st a))) refl none
        (given sound (record { reply = line_reply st plain may; conflict = line_conflict st s.history refl; fresh = line_fresh st plain s.history }))
        (upto_line sound all s knows place j some most (line st) (mark s) (omega arith) (answer_prints s o st plain) (inl refl) (if_some_is (λ n. n ≤ mark s) (committed_by st a) None none tt))
        (line_begun st)
        (subst (λ b. Shows (line st ∷ earlier) s.begun (but s.opened j (if b then None else Some (going o st a)))) goes (line_shows st))
        (kept_but s.sessions s.history s.opened j (Some (going o st a)) knows.kept
        (record { some = some; most = most; at = kept_o.at; loses = loses_none (stored_by st a) (may_store s o st plain) })
        (λ k r f w. alone_writes (stored_by st a) (may_store s o st plain) k r f w))

    -- a statement that ends it, and commits nothing
    ending_line : (st : Statement) → IsPlain st → MayAsk (Some o) st → is_end st ≡ true → committed_by st (answer_in s o st) ≡ None
        → Knows sound (all ++ line st ∷ []) (record { sessions = s.sessions; history = s.history; begun = s.begun; opened = but s.opened j None })
    ending_line st plain may over none =
        let a : Answer = answer_in s o st in
        plain_line sound all s knows place j some most (line st) s.begun (but s.opened j None) refl none
        (given sound (record { reply = line_reply st plain may; conflict = line_conflict st s.history refl; fresh = line_fresh st plain s.history }))
        (upto_line sound all s knows place j some most (line st) (mark s) (omega arith) (answer_prints s o st plain) (inl refl) (if_some_is (λ n. n ≤ mark s) (committed_by st a) None none tt))
        (line_begun st)
        (subst (λ b. Shows (line st ∷ earlier) s.begun (but s.opened j (if b then None else Some (going o st a)))) over (line_shows st))
        (kept_but s.sessions s.history s.opened j None knows.kept tt (λ k r f w. absurd (let bad : false ≡ true = w in cc)))

    abbrev Commits : Bool → Type 0
    Commits b =
        let a : Answer = (if b then Committed (suc (mark s)) else Ended) in
        Knows sound (all ++ standing (Some q) (next_after (last_of j earlier)) (asked CommitIt) (inside a) ∷ []) (within s j o CommitIt a)

    -- a commit, of a transaction that wrote or did not
    commits_line : Knows sound (all ++ line CommitIt ∷ []) (within s j o CommitIt (answer_in s o CommitIt))
    commits_line = go (is_written o.wrote) refl
      where
        go : (b : Bool) → is_written o.wrote ≡ b → Commits b
        go false f =
            let is : answer_in s o CommitIt ≡ Ended = ap (λ b. if b then Committed (suc (mark s)) else Ended) f in
            subst (λ a. Knows sound (all ++ standing (Some q) (next_after (last_of j earlier)) (asked CommitIt) (inside a) ∷ [])
            (record { sessions = s.sessions; history = s.history; begun = s.begun; opened = but s.opened j None })) is (ending_line CommitIt tt tt refl (ap (λ a. committed_by CommitIt a) is))
        go true f =
            let is : answer_in s o CommitIt ≡ Committed (suc (mark s)) = ap (λ b. if b then Committed (suc (mark s)) else Ended) f in
            subst (λ a. Knows sound (all ++ standing (Some q) (next_after (last_of j earlier)) (asked CommitIt) (inside a) ∷ [])
            (record { sessions = s.sessions; history = with_group (Some (suc (mark s))) j o s.history; begun = s.begun; opened = but s.opened j None })) is
            (commit_line sound all s knows place j some most (line CommitIt) o s.begun (but s.opened j None) refl (ap (λ a. committed_by CommitIt a) is) same_commit f kept_o.at kept_o.loses
            (line_reply CommitIt tt tt)
            (λ h. tt) (λ h. line_fresh CommitIt tt h)
            (upto_line sound all s knows place j some most (line CommitIt) (suc (mark s)) (omega arith) (answer_prints s o CommitIt tt) (inl refl)
            (if_some_is (λ n. n ≤ suc (mark s)) (committed_by CommitIt (answer_in s o CommitIt)) (Some (suc (mark s))) (ap (λ a. committed_by CommitIt a) is) (omega arith)))
            (line_begun CommitIt) (line_shows CommitIt)
            (kept_commit s.sessions s.history (record { session = j; transaction = o.transaction; at = o.at; images = last_images o.wrote }) o.wrote s.opened j refl apart knows.kept))
          where
            -- what the transaction writes with its commit is what it wrote before
            same_commit : commit_by earlier (line CommitIt) ≡ record { session = j; transaction = o.transaction; at = o.at; images = last_images o.wrote }
            same_commit = ap (λ ws. record { session = j; transaction = q.transaction; at = q.at; images = last_images ws }) (own_same (is_of j q.transaction (line CommitIt)))
              where
                own_same : (b : Bool) → filter_map stored (cond b (line CommitIt ∷ filter (is_of j q.transaction) earlier) (filter (is_of j q.transaction) earlier)) ≡ stored_in j q.transaction earlier
                own_same true = refl
                own_same false = refl

            apart : (k : ℕ) (r : Rid) → (k ≡ j → ⊥) → IsSome (image_in r (wrote_by (s.opened k))) → image_in r o.wrote ≡ None
            apart k r g w = ap (λ x. image_in r (wrote_by x)) (sym opened_o) ∙ knows.kept.apart k j r g w

    -- any statement in it
    pub within_line : (st : Statement) → IsPlain st → MayAsk (Some o) st → Knows sound (all ++ line st ∷ []) (within s j o st (answer_in s o st))
    within_line (Begin scope) plain may = absurd plain
    within_line (CursorOpen table low high) plain may = absurd plain
    within_line (Gc kind) plain may = absurd plain
    within_line CommitIt plain may = commits_line
    within_line Rollback plain may = ending_line Rollback tt tt refl refl
    within_line CursorClose plain may = ending_line CursorClose tt tt refl refl
    within_line (Get r) plain may = going_line (Get r) tt tt refl refl
    within_line (Put r row) plain may = going_line (Put r row) tt tt refl refl
    within_line (Del r) plain may = going_line (Del r) tt tt refl refl
    within_line (Scan table low high) plain may = going_line (Scan table low high) tt tt refl refl
    within_line (Fetch n) plain may = going_line (Fetch n) tt may refl refl
