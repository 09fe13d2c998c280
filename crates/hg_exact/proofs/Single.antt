-- A line that is a transaction of its own is right, and what one thread knows goes on.
use Rattle.std.proofs.Common.{◌≡◌, ℕ, suc, ◌≤◌, inl, inr, List, [], ◌∷◌, ◌++◌, Bool, true, false, Option, Some, None, refl, sym, ap, ◌∙◌, subst, arith}
use Rattle.std.specs.Prelude.{cond, filter, filter_map, is_some, if◌then◌else◌, option_map, IfSome, IsSome}
use Rattle.std.specs.List.{cons_option}
use Rattle.std.proofs.lemmas.Bool.Decides.{nat_tests}
use Rattle.hg_base.specs.declared.rid.Rid.{Rid}
use Rattle.hg_base.specs.declared.statement.Record.{Record}
use Rattle.hg_base.specs.declared.statement.Statement.{Statement}
use Rattle.hg_base.specs.declared.statement.Statement.TheVariants.{Get, Put, Del}
use Rattle.hg_base.specs.declared.line.Answer.{Answer}
use Rattle.hg_base.specs.declared.line.Answer.TheVariants.{Newer, OpenBy}
use Rattle.hg_base.specs.Lists.{onto}
use Rattle.hg_base.specs.Script.{replay}
use Rattle.hg_base.specs.History.{Write, History, image_in, same_rid, seen}
use Rattle.hg_base.specs.Transcript.{Said, Rest, commit_by, is_of, last_images, only, open_after, open_of}
use Rattle.hg_base.specs.Transcript.{rest_after, rest_in, standing, stored, stored_by, table_of}
use Rattle.hg_base.specs.Replies.{IsAnswer, IsReply, is_written}
use Rattle.hg_base.specs.Conflicts.{ShowsCause, ShowsConflict, target}
use Rattle.hg_base.specs.Freshness.{IsFresh}
use Rattle.hg_base.proofs.HistoryFacts.{same_rid_equal}
use Rattle.hg_core.proofs.Indices.{by_number}
use Rattle.hg_exact.specs.State.{Open, State, but, mark, next, with_group}
use Rattle.hg_exact.specs.Answers.{answer_in}
use Rattle.hg_exact.specs.Lawful.{MayAsk}
use Rattle.hg_exact.proofs.Answering.{IsPlain, answer_prints, answered}
use Rattle.hg_exact.proofs.Causes.{cause_shown}
use Rattle.hg_exact.proofs.Counting.{AreBegun, are_begun}
use Rattle.hg_exact.proofs.Keeping.{AreKept, each_newest, newest_most, kept_commit, nobody, not_none, wrote_by}
use Rattle.hg_exact.proofs.Standing.{Shows, is_mine, last_by, open_as, shows_alone}
use Rattle.hg_exact.proofs.Known.{given, Knows, no_said, plain_line, commit_line, fresh_line, upto_line}
use Rattle.hg_exact.proofs.Within.{MayStore, may_store}

module _ (sound : Bool) (all : List Said) (s : State) (knows : Knows sound all s) (place j : ℕ) (some : 1 ≤ j) (most : j ≤ s.sessions) where
  abbrev earlier : List Said
  earlier = onto all []

  abbrev asked : Statement → Record
  asked st = record { place = place; session = j; statement = st }

  -- ---- a line that is a transaction of its own

  module _ (e : open_of j earlier ≡ None) where
    abbrev own : Statement → Open
    own st = next s j (only (table_of st)) None

    -- where it stores this, or nothing
    abbrev single : Statement → Option Write → Said
    single st x = standing None (suc (s.begun j)) (asked st) (record { at = Some (mark s); answer = answer_in s (own st) st; number = if is_some x then Some (suc (mark s)) else None })

    opened_none : s.opened j ≡ None
    opened_none = knows.shows.opened j ∙ ap (option_map (open_as j earlier)) e

    none_before : filter (is_of j (suc (s.begun j))) earlier ≡ []
    none_before = knows.shows.fresh j (suc (s.begun j)) (omega arith)

    rest_none : (xs : List Said) → filter (is_of j (suc (s.begun j))) xs ≡ [] → rest_in j (suc (s.begun j)) xs ≡ None
    rest_none [] f = refl
    rest_none (x ∷ xs) f = go (is_of j (suc (s.begun j)) x) f (λ g. rest_none xs g)
      where
        go : (b : Bool) → cond b (x ∷ filter (is_of j (suc (s.begun j))) xs) (filter (is_of j (suc (s.begun j))) xs) ≡ [] →
            (filter (is_of j (suc (s.begun j))) xs ≡ [] → rest_in j (suc (s.begun j)) xs ≡ None) →
            (if b then rest_after x.statement x.reply.answer (rest_in j (suc (s.begun j)) xs) else rest_in j (suc (s.begun j)) xs) ≡ None
        go true g later = absurd (let bad : (x ∷ filter (is_of j (suc (s.begun j))) xs) ≡ [] = g in cc)
        go false g later = later g

    single_reply : (st : Statement) (x : Option Write) → stored_by st (answer_in s (own st) st) ≡ x → IsPlain st → MayAsk (Some (own st)) st → IsReply replay s.history earlier (single st x)
    single_reply st x f plain may = record {
      at = refl;
      number = some_number x ∙ ap is_some (sym f);
      snapshot = omega arith;
      answer = subst (λ (p : List Write × Option Rest). IsAnswer replay (seen s.history p.0 (mark s)) (is_written p.0) p.1 (single st x) st)
          (λ i. (sym (ap (filter_map stored) none_before) i, sym (rest_none earlier none_before) i)) (answered s (own st) st (single st x) plain may);
    }
      where
        some_number : (y : Option Write) → is_some (if is_some y then Some (suc (mark s)) else None) ≡ is_some y
        some_number None = refl
        some_number (Some w) = refl

    single_fresh : (st : Statement) (x : Option Write) → IsPlain st → (h : History) → IsFresh replay h (all ++ single st x ∷ []) earlier (single st x)
    single_fresh st x plain h = fresh_line sound all s knows place j some most (single st x) h (all ++ single st x ∷ []) refl (answer_prints s (own st) st plain) (inr refl)

    single_last : (st : Statement) (x : Option Write) → open_of j (single st x ∷ earlier) ≡ None
    single_last st x = ap open_after (last_by j earlier (single st x) true refl (let n : ℕ = s.begun j in grind (arith, nat_tests)))

    single_begun : (st : Statement) (x : Option Write) → AreBegun (single st x ∷ earlier)
    single_begun st x = are_begun j earlier (single st x) refl knows.begun (λ p f. absurd (no_said p (sym (single_last st x) ∙ f)))

    single_shows : (st : Statement) (x : Option Write) → Shows (single st x ∷ earlier) (but s.begun j (suc (s.begun j))) s.opened
    single_shows st x = shows_alone j earlier s.begun s.opened knows.shows (single st x) refl refl refl e

    single_conflict : (st : Statement) → ShowsConflict replay s.history (all ++ single st None ∷ []) earlier (single st None)
    single_conflict st = go (target st) refl
      where
        go : (t : Option Rid) → target st ≡ t → IfSome t (λ r. ShowsCause replay s.history (all ++ single st None ∷ []) earlier (single st None) r (answer_in s (own st) st))
        go None f = tt
        go (Some r) f = cause_shown s all (single st None) knows.shows (own st) st r f (ap (filter_map stored) none_before) refl (λ none. ap (λ x. image_in r (wrote_by x)) opened_none)

    -- a write that is stored shows no cause
    stored_cause : (st : Statement) (a : Answer) (now : Said) (h : History) (after : List Said) → is_some (stored_by st a) ≡ true → IfSome (target st) (λ r. ShowsCause replay h after earlier now r a)
    stored_cause (Put r row) (Newer c) now h after f = absurd (let bad : false ≡ true = f in cc)
    stored_cause (Put r row) (OpenBy w) now h after f = absurd (let bad : false ≡ true = f in cc)
    stored_cause (Put r row) _ now h after f = tt
    stored_cause (Del r) (Newer c) now h after f = absurd (let bad : false ≡ true = f in cc)
    stored_cause (Del r) (OpenBy w) now h after f = absurd (let bad : false ≡ true = f in cc)
    stored_cause (Del r) _ now h after f = tt
    stored_cause _ a now h after f = tt

    abbrev Goal : Statement → Option Write → Type 0
    Goal st x = Knows sound (all ++ single st x ∷ []) (record {
      sessions = s.sessions;
      history = with_group (if is_some x then Some (suc (mark s)) else None) j (record {
        transaction = suc (s.begun j);
        at = mark s;
        scope = only (table_of st);
        wrote = cons_option x [];
        rest = rest_after st (answer_in s (own st) st) None;
      }) s.history;
      begun = but s.begun j (suc (s.begun j));
      opened = s.opened;
    })

    single_plain : (st : Statement) → IsPlain st → MayAsk (Some (own st)) st → stored_by st (answer_in s (own st) st) ≡ None → Goal st None
    single_plain st plain may f =
        plain_line sound all s knows place j some most (single st None) (but s.begun j (suc (s.begun j))) s.opened refl refl
        (given sound (record { reply = single_reply st None f plain may; conflict = single_conflict st; fresh = single_fresh st None plain s.history }))
        (upto_line sound all s knows place j some most (single st None) (mark s) (omega arith) (answer_prints s (own st) st plain) (inr refl) tt)
        (single_begun st None) (single_shows st None) knows.kept

    -- nobody else has written what it writes
    nobody_writes : (w : Write) → MayStore s (own (Get w.rid)) w → (k : ℕ) → image_in w.rid (wrote_by (s.opened k)) ≡ None
    nobody_writes w (inl h) k = absurd (let bad : false ≡ true = h in cc)
    nobody_writes w (inr h) k = nobody s w.rid knows.kept h.0 k

    same_store : (st : Statement) (w : Write) → MayStore s (own st) w → MayStore s (own (Get w.rid)) w
    same_store st w m = m

    single_commit : (st : Statement) (w : Write) → IsPlain st → MayAsk (Some (own st)) st → stored_by st (answer_in s (own st) st) ≡ Some w → Goal st (Some w)
    single_commit st w plain may f =
        let o : Open = record { transaction = suc (s.begun j); at = mark s; scope = only (table_of st); wrote = w ∷ []; rest = rest_after st (answer_in s (own st) st) None } in
        commit_line sound all s knows place j some most (single st (Some w)) o (but s.begun j (suc (s.begun j))) s.opened refl refl same_commit refl (omega arith)
        (each_newest s.history w.rid (mark s) (newest_most s.history w.rid), tt)
        (single_reply st (Some w) f plain may)
        (λ h. stored_cause st (answer_in s (own st) st) (single st (Some w)) h (all ++ single st (Some w) ∷ []) (ap is_some f))
        (λ h. single_fresh st (Some w) plain h)
        (upto_line sound all s knows place j some most (single st (Some w)) (suc (mark s)) (omega arith) (answer_prints s (own st) st plain) (inr refl) (omega arith))
        (single_begun st (Some w)) (single_shows st (Some w))
        (subst (AreKept s.sessions (s.history ++ (record { session = j; transaction = suc (s.begun j); at = mark s; images = last_images (w ∷ []) } ∷ []) ∷ [])) same_opened
        (kept_commit s.sessions s.history (record { session = j; transaction = suc (s.begun j); at = mark s; images = last_images (w ∷ []) }) (w ∷ []) s.opened j refl apart knows.kept))
      where
        stored_may : (x : Option Write) → x ≡ Some w → IfSome x (MayStore s (own st)) → MayStore s (own st) w
        stored_may x g h = subst (λ y. IfSome y (MayStore s (own st))) g h

        apart : (k : ℕ) (r : Rid) → (k ≡ j → ⊥) → IsSome (image_in r (wrote_by (s.opened k))) → image_in r (w ∷ []) ≡ None
        apart k r g h = go (same_rid w.rid r) refl
          where
            go : (b : Bool) → same_rid w.rid r ≡ b → (if b then Some w.image else None) ≡ None
            go true i = absurd (not_none (image_in r (wrote_by (s.opened k))) (subst (λ y. image_in y (wrote_by (s.opened k)) ≡ None) (same_rid_equal w.rid r i)
                (nobody_writes w (same_store st w (stored_may (stored_by st (answer_in s (own st) st)) f (may_store s (own st) st plain))) k)) h)
            go false i = refl

        same_opened : but s.opened j None ≡ s.opened
        same_opened = λ i k. by_number j (λ n b. (if b then None else s.opened n) ≡ s.opened n) (sym opened_none) (λ n g. refl) k i

        mine_is : is_of j (suc (s.begun j)) (single st (Some w)) ≡ true
        mine_is = is_mine j (suc (s.begun j)) (single st (Some w)) refl refl

        same_commit : commit_by earlier (single st (Some w)) ≡ record { session = j; transaction = suc (s.begun j); at = mark s; images = last_images (w ∷ []) }
        same_commit = ap (λ ws. record { session = j; transaction = suc (s.begun j); at = mark s; images = last_images ws })
            (ap (λ b. filter_map stored (cond b (single st (Some w) ∷ filter (is_of j (suc (s.begun j))) earlier) (filter (is_of j (suc (s.begun j))) earlier))) mine_is
            ∙ ap (λ xs. cons_option (stored_by st (answer_in s (own st) st)) (filter_map stored xs)) none_before ∙ ap (λ y. cons_option y []) f)

    pub alone_line : (st : Statement) → IsPlain st → MayAsk (Some (own st)) st → Goal st (stored_by st (answer_in s (own st) st))
    alone_line st plain may = go (stored_by st (answer_in s (own st) st)) refl
      where
        go : (x : Option Write) → stored_by st (answer_in s (own st) st) ≡ x → Goal st x
        go None f = single_plain st plain may f
        go (Some w) f = single_commit st w plain may f
