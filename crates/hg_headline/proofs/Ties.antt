-- What the lines before show of a session's log, and how a new line keeps it.
use Rattle.std.proofs.Common.{◌≡◌, ℕ, suc, ◌≤◌, ◌⊎◌, inl, inr, List, [], ◌∷◌, ◌++◌, Bool, true, false, Option, Some, None, refl, sym, ap, ◌∙◌, subst}
use Rattle.std.specs.Prelude.{◌==◌, ◌&&◌, filter, filter_map, cond, if◌then◌else◌, nat_lt, option_map}
use Rattle.std.proofs.lemmas.List.Elements.{filter_map-append}
use Rattle.std.specs.List.{list_any, cons_option, flat_map}
use Rattle.std.proofs.lemmas.Bool.{or_left, or_right}
use Rattle.hg_base.specs.declared.report.Told.{Told}
use Rattle.hg_base.specs.declared.scope.Snapshot.{Snapshot}
use Rattle.hg_base.specs.Lists.{Each, onto}
use Rattle.hg_base.specs.History.{Write, Commit}
use Rattle.hg_base.specs.Transcript.{Said, last_of, open_of, open_after, next_after, is_of, stored, stored_in, committed, commit_by, commit_of, commits_from, last_images, own_writes}
use Rattle.hg_base.specs.Transcript.{numbers_in as printed_numbers}
use Rattle.hg_base.specs.Freshness.{known, numbers_of, prints, is_declared}
use Rattle.hg_base.proofs.ListFacts.{each_append, cons_option_append, append_nil}
use Rattle.hg_core.specs.declared.log.LogEntry.{LogEntry}
use Rattle.hg_core.specs.Logs.{current, begans, published, UpTo}
use Rattle.hg_core.specs.Replies.{writes_in, numbers_in}
use Rattle.hg_headline.specs.Gathered.{began_at}
use Rattle.hg_headline.proofs.Words.{append_assoc, same_number}

-- the commits of lines, newest line first; the commits stand oldest first
abbrev pub commits_back : List Said → List (ℕ × Commit)
commits_back [] = []
commits_back (now ∷ earlier) = commits_back earlier ++ cons_option (commit_of earlier now) []

pub commits_onto : (earlier xs : List Said) → commits_back (onto xs earlier) ≡ commits_back earlier ++ commits_from earlier xs
commits_onto earlier [] = sym (append_nil (commits_back earlier))
commits_onto earlier (x ∷ xs) =
    commits_onto (x ∷ earlier) xs ∙ append_assoc (commits_back earlier) (cons_option (commit_of earlier x) []) (commits_from (x ∷ earlier) xs)
    ∙ ap (λ ys. commits_back earlier ++ ys) (sym (cons_option_append (commit_of earlier x) [] (commits_from (x ∷ earlier) xs)))

-- the commit, if it is session j's with the number n
abbrev pub pick : ℕ → ℕ → ℕ × Commit → Option Commit
pick n j p = if (p.1.session == j) && (p.0 == n) then Some p.1 else None

-- the session's open transaction, as its lines and as its log show it
abbrev pub StandsIn : Option Said → Option (Snapshot) → ℕ → Type 0
StandsIn None None x = Unit {0}
StandsIn None (Some c) x = ⊥
StandsIn (Some s) None x = ⊥
StandsIn (Some s) (Some c) x = (s.transaction ≡ x) × ((s.at ≡ c.at) × (s.scope ≡ c.scope))

-- prints that snapshot; with declared tables, where that is asked
abbrev pub shows_begun : Bool → Told → Said → Bool
shows_begun declared told said = prints told said && (if declared then is_declared said.scope else true)

pub record Ties (j : ℕ) (earlier : List Said) (log : List LogEntry) : Type 0 where
  pub next : next_after (last_of j earlier) ≡ suc (begans log)
  pub standing : StandsIn (open_of j earlier) (current log) (begans log)
  pub own : (x : ℕ) → stored_in j x earlier ≡ writes_in x log
  pub numbers : (x : ℕ) → printed_numbers j x earlier ≡ numbers_in x log
  pub known : (n : ℕ) → UpTo n log → Each (λ m. m ≤ n) (known j earlier)
  pub begun : (declared : Bool) (told : Told) → told.session ≡ j → began_at declared told.number log ≡ true → list_any (shows_begun declared told) earlier ≡ true
  pub published : (n : ℕ) → filter_map (pick n j) (commits_back earlier) ≡ published n j log

pub ties_nothing : (j : ℕ) → Ties j [] []
ties_nothing j = record { next = refl; standing = tt; own = λ x. refl; numbers = λ x. refl; known = λ n h. tt; begun = λ d t e f. absurd (let k : false ≡ true = f in cc); published = λ n. refl }

-- the commit of a line, with its number
abbrev pub numbered : Said → List Said → Option ℕ → Option (ℕ × Commit)
numbered now earlier None = None
numbered now earlier (Some c) = Some (c, commit_by earlier now)

pub commit_numbered : (earlier : List Said) (now : Said) → commit_of earlier now ≡ numbered now earlier (committed now)
commit_numbered earlier now = go (committed now)
  where
    go : (o : Option ℕ) → option_map (λ c. (c, commit_by earlier now)) o ≡ numbered now earlier o
    go None = refl
    go (Some c) = refl

-- a commit of another session is not picked
pub other_pick : (n j : ℕ) (earlier : List Said) (now : Said) (o : Option ℕ) → (now.session == j) ≡ false → filter_map (pick n j) (cons_option (numbered now earlier o) []) ≡ []
other_pick n j earlier now None e = refl
other_pick n j earlier now (Some c) e =
    let made : Commit = commit_by earlier now in
    ap (λ b. cons_option (if b && (c == n) then Some made else None) []) e

pub picks_with : (n j : ℕ) (earlier : List Said) (now : Said) → filter_map (pick n j) (commits_back (now ∷ earlier)) ≡ filter_map (pick n j) (commits_back earlier) ++ filter_map
    (pick n j) (cons_option (numbered now earlier (committed now)) [])
picks_with n j earlier now =
    filter_map-append (pick n j) (commits_back earlier) (cons_option (commit_of earlier now) [])
    ∙ ap (λ o. filter_map (pick n j) (commits_back earlier) ++ filter_map (pick n j) (cons_option o [])) (commit_numbered earlier now)

-- ---- a line of another session

pub ties_other : (j : ℕ) (earlier : List Said) (now : Said) (l : List LogEntry) → (now.session == j) ≡ false → Ties j earlier l → Ties j (now ∷ earlier) l
ties_other j earlier now l e t =
    let last : last_of j (now ∷ earlier) ≡ last_of j earlier = ap (λ b. cond (b && nat_lt 0 now.transaction) (Some now) (last_of j earlier)) e in
    record {
      next = ap next_after last ∙ t.next;
      standing = subst (λ o. StandsIn (open_after o) (current l) (begans l)) (sym last) t.standing;
      own = λ x. ap (λ b. filter_map stored (cond (b && (now.transaction == x)) (now ∷ filter (is_of j x) earlier) (filter (is_of j x) earlier))) e ∙ t.own x;
      numbers = λ x. ap (λ b. filter_map committed (cond (b && (now.transaction == x)) (now ∷ filter (is_of j x) earlier) (filter (is_of j x) earlier))) e ∙ t.numbers x;
      known = λ n h. subst (λ b. Each (λ m. m ≤ n) (flat_map numbers_of (cond b (now ∷ filter (λ said. said.session == j) earlier) (filter (λ said. said.session == j) earlier))))
          (sym e) (t.known n h);
      begun = λ d told k h. or_right (shows_begun d told now) (list_any (shows_begun d told) earlier) (t.begun d told k h);
      published = λ n. picks_with n j earlier now ∙ ap (λ xs. filter_map (pick n j) (commits_back earlier) ++ xs) (other_pick n j earlier now (committed now) e) ∙
          append_nil (filter_map (pick n j) (commits_back earlier)) ∙ t.published n;
    }

-- ---- a line of the session

-- the commit, if it has the number n
abbrev pub made_at : ℕ → Option ℕ → Commit → List Commit
made_at n None c = []
made_at n (Some m) c = if m == n then c ∷ [] else []

-- a line and its entries say the same
pub record Says (j : ℕ) (now : Said) (l : List LogEntry) (after : List LogEntry) : Type 0 where
  pub mine : now.session ≡ j
  pub own : (x : ℕ) → writes_in x after ≡ cond (now.transaction == x) (cons_option (stored now) (writes_in x l)) (writes_in x l)
  pub numbers : (x : ℕ) → numbers_in x after ≡ cond (now.transaction == x) (cons_option (committed now) (numbers_in x l)) (numbers_in x l)
  pub known : (n : ℕ) → UpTo n after → UpTo n l × Each (λ m. m ≤ n) (numbers_of now)
  pub begun : (declared : Bool) (told : Told) → told.session ≡ j → began_at declared told.number after ≡ true → (shows_begun declared told now ≡ true) ⊎ (began_at declared told.number l ≡ true)
  pub published : (n : ℕ) → published n j after ≡ published n j l ++ made_at n (committed now)
      (record { session = now.session; transaction = now.transaction; at = now.at; images = last_images (writes_in now.transaction after) })

-- and where the transaction stands then
pub record Stands (now : Said) (after : List LogEntry) : Type 0 where
  pub some : nat_lt 0 now.transaction ≡ true
  pub number : now.transaction ≡ begans after
  pub standing : StandsIn (open_after (Some now)) (current after) (begans after)

pub picked_cond : {X Y : Type 0} (f : X → Option Y) (b : Bool) (x : X) (xs : List X) → filter_map f (cond b (x ∷ xs) xs) ≡ cond b (cons_option (f x) (filter_map f xs)) (filter_map f xs)
picked_cond f true x xs = refl
picked_cond f false x xs = refl

pub own_with : {Y : Type 0} (f : Said → Option Y) (j x : ℕ) (earlier : List Said) (now : Said) → (now.session == j) ≡ true →
    filter_map f (filter (is_of j x) (now ∷ earlier)) ≡ cond (now.transaction == x) (cons_option (f now) (filter_map f (filter (is_of j x) earlier))) (filter_map f (filter (is_of j x) earlier))
own_with f j x earlier now e =
    ap (λ b. filter_map f (cond (b && (now.transaction == x)) (now ∷ filter (is_of j x) earlier) (filter (is_of j x) earlier))) e
    ∙ picked_cond f (now.transaction == x) now (filter (is_of j x) earlier)

pub made_pick : (n j : ℕ) (earlier : List Said) (now : Said) (o : Option ℕ) (ws : List Write) → (now.session == j) ≡ true → own_writes (now ∷ earlier) now ≡ ws →
    filter_map (pick n j) (cons_option (numbered now earlier o) []) ≡ made_at n o (record { session = now.session; transaction = now.transaction; at = now.at; images = last_images ws })
made_pick n j earlier now None ws e f = refl
made_pick n j earlier now (Some c) ws e f =
    let made : List Write → Commit = λ vs. record { session = now.session; transaction = now.transaction; at = now.at; images = last_images vs } in
    ap (λ b. cons_option (if b && (c == n) then Some (made (own_writes (now ∷ earlier) now)) else None) []) e
    ∙ flat (c == n) (made (own_writes (now ∷ earlier) now)) ∙ ap (λ vs. if c == n then made vs ∷ [] else []) f
  where
    flat : (b : Bool) (d : Commit) → cons_option (if b then Some d else None) [] ≡ (if b then d ∷ [] else [])
    flat true d = refl
    flat false d = refl

pub own_step : (j x : ℕ) (earlier : List Said) (now : Said) (l after : List LogEntry) → Ties j earlier l → Says j now l after →
    filter_map stored (filter (is_of j x) (now ∷ earlier)) ≡ writes_in x after
own_step j x earlier now l after t s =
    let mine : (now.session == j) ≡ true = subst (λ n. (n == j) ≡ true) (sym s.mine) (same_number j) in
    own_with stored j x earlier now mine ∙ ap (λ ws. cond (now.transaction == x) (cons_option (stored now) ws) ws) (t.own x) ∙ sym (s.own x)

pub ties_own : (j : ℕ) (earlier : List Said) (now : Said) (l after : List LogEntry) → Ties j earlier l → Says j now l after →
    next_after (last_of j (now ∷ earlier)) ≡ suc (begans after) → StandsIn (open_of j (now ∷ earlier)) (current after) (begans after) → Ties j (now ∷ earlier) after
ties_own j earlier now l after t s next standing =
    let mine : (now.session == j) ≡ true = subst (λ n. (n == j) ≡ true) (sym s.mine) (same_number j) in
    record {
      next = next;
      standing = standing;
      own = λ x. own_step j x earlier now l after t s;
      numbers = λ x. own_with committed j x earlier now mine ∙ ap (λ ns. cond (now.transaction == x) (cons_option (committed now) ns) ns) (t.numbers x) ∙ sym (s.numbers x);
      known = λ n h. subst (λ b. Each (λ m. m ≤ n) (flat_map numbers_of (cond b (now ∷ filter (λ said. said.session == j) earlier) (filter (λ said. said.session == j) earlier)))) (sym mine)
          (each_append (λ m. m ≤ n) (numbers_of now) (known j earlier) (s.known n h).1 (t.known n (s.known n h).0));
      begun = λ d told k h. go d told k (s.begun d told k h);
      published = λ n.
          picks_with n j earlier now
          ∙ ap (λ xs. xs ++ filter_map (pick n j) (cons_option (numbered now earlier (committed now)) [])) (t.published n)
          ∙ ap (λ xs. published n j l ++ xs) (made_pick n j earlier now (committed now) (writes_in now.transaction after) mine (mine_together n))
          ∙ sym (s.published n);
    }
  where
    go : (d : Bool) (told : Told) → told.session ≡ j → (shows_begun d told now ≡ true) ⊎ (began_at d told.number l ≡ true) → list_any (shows_begun d told) (now ∷ earlier) ≡ true
    go d told k (inl e) = or_left (shows_begun d told now) (list_any (shows_begun d told) earlier) e
    go d told k (inr e) = or_right (shows_begun d told now) (list_any (shows_begun d told) earlier) (t.begun d told k e)

    mine_together : ℕ → own_writes (now ∷ earlier) now ≡ writes_in now.transaction after
    mine_together n = subst (λ i. stored_in i now.transaction (now ∷ earlier) ≡ writes_in now.transaction after) (sym s.mine) (own_step j now.transaction earlier now l after t s)

pub ties_step : (j : ℕ) (earlier : List Said) (now : Said) (l after : List LogEntry) → Ties j earlier l → Says j now l after → Stands now after → Ties j (now ∷ earlier) after
ties_step j earlier now l after t s w =
    let mine : (now.session == j) ≡ true = subst (λ n. (n == j) ≡ true) (sym s.mine) (same_number j) in
    let last : last_of j (now ∷ earlier) ≡ Some now = ap (λ b. cond (b && nat_lt 0 now.transaction) (Some now) (last_of j earlier)) mine ∙ ap (λ b. cond b (Some now) (last_of j earlier)) w.some in
    ties_own j earlier now l after t s (ap next_after last ∙ ap suc w.number) (subst (λ o. StandsIn (open_after o) (current after) (begans after)) (sym last) w.standing)

-- a line that stands in no transaction leaves the log as it was
pub ties_beside : (j : ℕ) (earlier : List Said) (now : Said) (l : List LogEntry) → Ties j earlier l → Says j now l l → now.transaction ≡ 0 → Ties j (now ∷ earlier) l
ties_beside j earlier now l t s z =
    let mine : (now.session == j) ≡ true = subst (λ n. (n == j) ≡ true) (sym s.mine) (same_number j) in
    let last : last_of j (now ∷ earlier) ≡ last_of j earlier = ap (λ b. cond (b && nat_lt 0 now.transaction) (Some now) (last_of j earlier)) mine ∙
    ap (λ n. cond (nat_lt 0 n) (Some now) (last_of j earlier)) z in
    ties_own j earlier now l l t s (ap next_after last ∙ t.next) (subst (λ o. StandsIn (open_after o) (current l) (begans l)) (sym last) t.standing)
