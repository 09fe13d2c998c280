-- A leader's view from the batch on to its receipts.
use Rattle.std.proofs.Common.{◌≡◌, inl, ℕ, suc, ◌+◌, ◌<◌, ◌≤◌, Bool, true, false, List, [], ◌∷◌, ◌++◌, length, map, refl, sym, ap, ◌∙◌, subst, arith}
use Rattle.std.specs.Prelude.{ltb}
use Rattle.hg_base.specs.Lists.{Each}
use Rattle.hg_base.specs.History.{Group}
use Rattle.hg_core.specs.declared.log.LogEntry.TheVariants.{Published}
use Rattle.hg_core.specs.Logs.{is_in, commit_in}
use Rattle.hg_core.specs.Phases.{IsSession}
use Rattle.hg_rule.specs.declared.view.CommitPart.{CommitPart}
use Rattle.hg_rule.specs.declared.view.Part.{Part}
use Rattle.hg_rule.specs.declared.view.Part.TheVariants.{OfCommit, Away}
use Rattle.hg_rule.specs.declared.view.Sight.{Sight}
use Rattle.hg_rule.specs.declared.view.Sight.TheVariants.{Saw, Heard, Took}
use Rattle.hg_rule.specs.declared.view.View.{View}
use Rattle.hg_rule.specs.declared.view.Sizes.{Sizes}
use Rattle.hg_rule.specs.Keys.{session_key, both, one, has, count}
use Rattle.hg_rule.specs.Facts.{IsAmong, groups}
use Rattle.hg_rule.specs.Rules.{IsBacked}
use Rattle.hg_rule.specs.Views.{number, session, since, first_in, after_first, commit_there, seeing}
use Rattle.hg_rule.specs.Moves.{put_in, joined}
use Rattle.hg_rule.specs.Holding.{beyond, commit}
use Rattle.hg_rule.specs.Places.{without_commit}
use Rattle.hg_rule.specs.Writes.{with_published}
use Rattle.hg_rule.specs.Handing.{Members, members, lent, who, numbered, hears, group_of, publishing, Publishes}
use Rattle.hg_rule.proofs.Lists.{among_left}
use Rattle.hg_rule.proofs.Growing.{among_later}
use Rattle.hg_rule.proofs.Found.{inside_is}
use Rattle.hg_rule.proofs.Members.{there, each_in}
use Rattle.hg_queue.specs.declared.open_tx.OpenTx.{OpenTx}
use Rattle.hg_core.specs.Commits.{commits_in}
use Rattle.hg_group.specs.Batch.{AreTaken, Stamped, all_pairs, bare, HasGroup, HasBatch}
use Rattle.hg_group.proofs.Stamped.{members_lent, OnWay, on_way}

-- ---- the committer's part comes

pub record InHand (v w : View) (part : CommitPart) (ms : Members) : Type 0 where
  pub parts : w.parts ≡ Away (number v) (session v) (since v) ∷ OfCommit part ∷ lent ms
  pub number_is : number w ≡ number v
  pub session_is : session w ≡ session v
  pub since_is : since w ≡ since v
  pub commit_is : commit w ≡ part
  pub beyond_is : beyond w ≡ lent ms
  pub members_are : members (beyond w) ≡ ms

pub in_hand : (v u x w : View) (part : CommitPart) (ms : Members) → u.parts ≡ Away (number v) (session v) (since v) ∷ lent ms → x.parts ≡ OfCommit part ∷ [] → w ≡ joined u x → InHand v w part ms
in_hand v u x w part ms has only is =
    let all : w ≡ seeing (Away (number v) (session v) (since v) ∷ OfCommit part ∷ lent ms) (u.sights ++ x.sights) u.events = is ∙
    (λ i. seeing (put_in (has i) (only i)) (u.sights ++ x.sights) u.events) in
    subst (λ y. InHand v y part ms) (sym all) record { parts = refl; number_is = refl; session_is = refl; since_is = refl; commit_is = refl; beyond_is = refl; members_are = members_lent ms }

-- ---- whose they are

pub taken_whose : (txs : List OpenTx) (ms : Members) → AreTaken txs ms → who ms ≡ map (λ tx. tx.writer.session) txs
taken_whose [] [] h = refl
taken_whose [] (m ∷ ms) h = absurd h
taken_whose (tx ∷ txs) [] h = absurd h
taken_whose (tx ∷ txs) (m ∷ ms) h = λ i. (sym h.0.tx_is.writer_is i).session ∷ taken_whose txs ms h.1 i

sessions_in : (z : Sizes) (n : ℕ) (v : View) (k : IsBacked z n v) (first : Part) (part : CommitPart) (ms : Members) → v.parts ≡ first ∷ OfCommit part ∷ lent ms → (j : ℕ) →
    is_in (who ms) j ≡ true → IsSession z.sessions j
sessions_in z n v k first part ms is j e = inside_is z j (sure (both (ltb 0 j) (ltb j (suc z.sessions))) refl)
  where
    sure : (b : Bool) → both (ltb 0 j) (ltb j (suc z.sessions)) ≡ b → both (ltb 0 j) (ltb j (suc z.sessions)) ≡ true
    sure true q = q
    sure false q = absurd (
        let a : ℕ = count (session_key j) v.parts in
        let b : ℕ = count (session_key j) (lent ms) in
        let x : ℕ = one (has (session_key j) first) in
        let y : ℕ = one (both (ltb 0 j) (ltb j (suc z.sessions))) in
        let h1 : a ≡ x + (0 + b) = ap (count (session_key j)) is in
        let h2 : 0 < b = there ms j e in
        let h3 : a ≤ y = k.most (session_key j) in
        let h4 : y ≡ 0 = ap one q in omega arith)

all_in : (z : Sizes) (ms ns : Members) → ((j : ℕ) → is_in (who ms) j ≡ true → IsSession z.sessions j) → Each (λ m. is_in (who ms) m.0 ≡ true) ns → Each (λ j. IsSession z.sessions j) (who ns)
all_in z ms [] f h = tt
all_in z ms (n ∷ ns) f h = (f n.0 h.0, all_in z ms ns f h.1)

each_mapped : (P : ℕ → Type 0) (txs : List OpenTx) → Each P (map (λ tx. tx.writer.session) txs) → Each (λ tx. P tx.writer.session) txs
each_mapped P [] h = tt
each_mapped P (tx ∷ txs) h = (h.0, each_mapped P txs h.1)

-- ---- the group is that of the batch, whatever is stamped

bare_numbered : (n : ℕ) (ms : Members) → numbered n (bare ms) ≡ numbered n ms
bare_numbered n [] = refl
bare_numbered n (m ∷ ms) = ap (λ l. (m.0, with_published n m.1) ∷ l) (bare_numbered n ms)

bare_group : (ms : Members) → group_of (bare ms) ≡ group_of ms
bare_group [] = refl
bare_group (m ∷ ms) = ap (λ l. commit_in m.0 m.1.log ∷ l) (bare_group ms)

bare_hears : (n : ℕ) (ms : Members) → hears n (bare ms) ≡ hears n ms
bare_hears n [] = refl
bare_hears n (m ∷ ms) = ap (λ l. Heard m.0 (Published n ∷ m.1.log) ∷ l) (bare_hears n ms)

same_of : {A : Type 0} (f : Members → A) → ((ms : Members) → f (bare ms) ≡ f ms) → (ms ns : Members) → bare ms ≡ bare ns → f ms ≡ f ns
same_of f g ms ns e = sym (g ms) ∙ (ap f e ∙ g ns)

-- ---- what was seen

each_heard : (n : ℕ) (ms : Members) (before : List Sight) (after : List Sight) → Each (λ m. IsAmong (Heard m.0 (Published n ∷ m.1.log)) (before ++ (hears n ms ++ after))) ms
each_heard n [] before after = tt
each_heard n (m ∷ ms) before after = (among_later _ before _ (inl refl), turned ms (each_heard n ms (before ++ Heard m.0 (Published n ∷ m.1.log) ∷ []) after))
  where
    append_one : (xs : List Sight) (y : Sight) (ys : List Sight) → (xs ++ y ∷ []) ++ ys ≡ xs ++ y ∷ ys
    append_one [] y ys = refl
    append_one (x ∷ xs) y ys = ap (λ l. x ∷ l) (append_one xs y ys)

    turned : (ns : Members) → Each (λ k. IsAmong (Heard k.0 (Published n ∷ k.1.log)) ((before ++ Heard m.0 (Published n ∷ m.1.log) ∷ []) ++ (hears n ms ++ after))) ns →
        Each (λ k. IsAmong (Heard k.0 (Published n ∷ k.1.log)) (before ++ Heard m.0 (Published n ∷ m.1.log) ∷ (hears n ms ++ after))) ns
    turned [] h = tt
    turned (k ∷ ns) h = (subst (IsAmong (Heard k.0 (Published n ∷ k.1.log))) (append_one before (Heard m.0 (Published n ∷ m.1.log)) (hears n ms ++ after)) h.0, turned ns h.1)

-- ---- the committer's part leaves again, and nothing was done

pub has_batch : (v w u : View) (part : CommitPart) (ms : Members) (txs : List OpenTx) (z : Sizes) (mark : ℕ) → InHand v w part ms → u ≡ without_commit w → IsBacked z mark w →
    AreTaken txs ms → HasBatch z.sessions u txs
has_batch v w u part ms txs z mark o left backed taken = record {
  ms = ms;
  taken = taken;
  inside = each_mapped (IsSession z.sessions) txs (subst (Each (IsSession z.sessions)) (taken_whose txs ms taken)
      (all_in z ms ms (sessions_in z mark w backed (Away (number v) (session v) (since v)) part ms o.parts) (each_in ms)));
  parts = u_parts ∙ (λ i. Away (sym number_is i) (sym session_is i) (sym since_is i) ∷ lent ms);
}
  where
    u_parts : u.parts ≡ Away (number v) (session v) (since v) ∷ lent ms
    u_parts = ap (λ (z : View). z.parts) left ∙ ap (λ (ps : List Part). first_in ps ∷ after_first (after_first ps)) o.parts

    number_is : number u ≡ number v
    number_is = ap (λ (ps : List Part). number (seeing ps u.sights u.events)) u_parts

    session_is : session u ≡ session v
    session_is = ap (λ (ps : List Part). session (seeing ps u.sights u.events)) u_parts

    since_is : since u ≡ since v
    since_is = ap (λ (ps : List Part). since (seeing ps u.sights u.events)) u_parts

-- ---- the batch is published

module _ (v w x y u : View) (part : CommitPart) (ms : Members) (txs : List OpenTx) (n : ℕ) (o : InHand v w part ms) (s : Stamped w (all_pairs txs) x) (p : Publishes x n y)
    (left : u ≡ without_commit y) where
  q : OnWay w s.ms s.list x
  q = on_way w x s.ms s.list s.parts

  alike : bare (members (beyond x)) ≡ bare ms
  alike = ap bare q.members_are ∙ (s.alike ∙ ap bare o.members_are)

  abbrev group : Group
  group = group_of ms

  history_is : (commit x).history ≡ part.history
  history_is = ap (λ (c : CommitPart). c.history) (q.commit_is ∙ (λ i. record (o.commit_is i) { stamped = s.list }))

  parts_are : y.parts ≡ Away (number v) (session v) (since v) ∷ OfCommit (publishing (members (beyond x)) (commit x)) ∷ lent (numbered n ms)
  parts_are = ap (λ (z : View). z.parts) p.1 ∙ (λ i. Away ((q.number_is ∙ o.number_is) i) ((q.session_is ∙ o.session_is) i) ((q.since_is ∙ o.since_is) i) ∷ OfCommit
      (publishing (members (beyond x)) (commit x)) ∷ lent (same_of (numbered n) (bare_numbered n) (members (beyond x)) ms alike i))

  -- the committer's part after it
  pub after_is : (commit y).history ≡ groups (part.history.list ++ group ∷ [])
  after_is = ap (λ (ps : List Part). (commit_there (first_in (after_first ps))).history) parts_are ∙
      (λ i. groups ((history_is i).list ++ same_of group_of bare_group (members (beyond x)) ms alike i ∷ []))

  pub none_after : (commit y).stamped ≡ []
  none_after = ap (λ (ps : List Part). (commit_there (first_in (after_first ps))).stamped) parts_are

  pub taken_after : (commit y).taken ≡ part.taken
  taken_after = ap (λ (ps : List Part). (commit_there (first_in (after_first ps))).taken) parts_are ∙ ap (λ (c : CommitPart). c.taken) q.commit_is ∙ ap (λ (c : CommitPart). c.taken) o.commit_is

  pub u_parts : u.parts ≡ Away (number v) (session v) (since v) ∷ lent (numbered n ms)
  u_parts = ap (λ (z : View). z.parts) left ∙ ap (λ (ps : List Part). first_in ps ∷ after_first (after_first ps)) parts_are

  pub u_sights : u.sights ≡ (x.sights ++ (Saw (groups (part.history.list ++ group ∷ [])) ∷ hears n ms)) ++ (Saw (commit y).history ∷ Took (commit y).taken ∷ [])
  u_sights = ap (λ (z : View). z.sights) left ∙ ap (λ l. l ++ (Saw (commit y).history ∷ Took (commit y).taken ∷ []))
      (ap (λ (z : View). z.sights) p.1 ∙ (λ i. x.sights ++ (Saw (groups ((history_is i).list ++ same_of group_of bare_group (members (beyond x)) ms alike i ∷ [])) ∷ same_of
      (hears n) (bare_hears n) (members (beyond x)) ms alike i)))

  pub has_group : (z : Sizes) (mark place : ℕ) → IsBacked z mark w → AreTaken txs ms → n ≡ suc (length part.history.list) → place ≡ commits_in part.history.list → HasGroup z.sessions u txs n place
  has_group z mark place backed taken next at = record {
    ms = ms;
    history = part.history.list;
    whose = taken_whose txs ms taken;
    inside = each_mapped (IsSession z.sessions) txs (subst (Each (IsSession z.sessions)) (taken_whose txs ms taken)
        (all_in z ms ms (sessions_in z mark w backed (Away (number v) (session v) (since v)) part ms o.parts) (each_in ms)));
    parts = u_parts ∙ (λ i. Away (sym number_is i) (sym session_is i) (sym since_is i) ∷ lent (numbered n ms));
    saw = subst (IsAmong (Saw (groups (part.history.list ++ group ∷ [])))) (sym u_sights)
        (among_left _ (x.sights ++ (Saw (groups (part.history.list ++ group ∷ [])) ∷ hears n ms)) _ (among_later _ x.sights _ (inl refl)));
    heard = turned ms (each_heard n ms (x.sights ++ Saw (groups (part.history.list ++ group ∷ [])) ∷ []) (Saw (commit y).history ∷ Took (commit y).taken ∷ []));
    number_is = next;
    place_is = at;
  }
    where
      number_is : number u ≡ number v
      number_is = ap (λ (ps : List Part). number (seeing ps u.sights u.events)) u_parts

      session_is : session u ≡ session v
      session_is = ap (λ (ps : List Part). session (seeing ps u.sights u.events)) u_parts

      since_is : since u ≡ since v
      since_is = ap (λ (ps : List Part). since (seeing ps u.sights u.events)) u_parts

      regroup : (xs : List Sight) (a : Sight) (bs cs : List Sight) → (xs ++ a ∷ []) ++ (bs ++ cs) ≡ (xs ++ (a ∷ bs)) ++ cs
      regroup [] a bs cs = refl
      regroup (x ∷ xs) a bs cs = ap (λ l. x ∷ l) (regroup xs a bs cs)

      turned : (ns : Members) → Each (λ k. IsAmong (Heard k.0 (Published n ∷ k.1.log))
          ((x.sights ++ Saw (groups (part.history.list ++ group ∷ [])) ∷ []) ++ (hears n ms ++ (Saw (commit y).history ∷ Took (commit y).taken ∷ [])))) ns →
          Each (λ k. IsAmong (Heard k.0 (Published n ∷ k.1.log)) u.sights) ns
      turned [] h = tt
      turned (k ∷ ns) h = (subst (IsAmong (Heard k.0 (Published n ∷ k.1.log))) (regroup x.sights _ (hears n ms) _ ∙ sym u_sights) h.0, turned ns h.1)
