-- A new group is one of its number: no session and no record occurs twice in it, and each commit writes something.
use Rattle.std.proofs.Common.{◌≡◌, ℕ, suc, ◌+◌, ◌<◌, ◌≤◌, List, [], ◌∷◌, ◌++◌, length, Option, None, Some, Bool, true, false, not, ◌||◌, ◌&&◌, ◌==◌, refl, sym, ap, ◌∙◌, subst, arith}
use Rattle.std.specs.Prelude.{cond, filter, map, IsSome, IfSome, IsTrue, IsFalse}
use Rattle.std.proofs.lemmas.Bool.{or_parts}
use Rattle.hg_base.specs.declared.rid.Rid.{Rid}
use Rattle.hg_base.specs.declared.image.Image.{Image}
use Rattle.hg_base.specs.declared.scope.Snapshot.{Snapshot}
use Rattle.hg_base.specs.Lists.{Each}
use Rattle.hg_base.specs.History.{Write, Commit, History, same_rid, image_in, is_among, NoneTwice, NoNumberTwice, rids_of, group_rids, IsCommit, IsGroup, IsHistory}
use Rattle.hg_base.specs.Transcript.{last_images}
use Rattle.hg_base.proofs.HistoryFacts.{same_rid_equal, same_rid_itself}
use Rattle.hg_base.proofs.Growth.{each_group_snoc as group_more}
use Rattle.hg_core.specs.declared.log.LogEntry.{LogEntry}
use Rattle.hg_core.specs.Logs.{current, snapshot_number, is_plain, own_writes, open_in, commit_in, new_group, is_in, UpTo}
use Rattle.hg_core.specs.Contents.{is_stamped, has_stamped}
use Rattle.hg_core.proofs.NewGroup.{image_open, first_in, rest_in}
use Rattle.hg_core.proofs.Replies.{current_within}
use Rattle.hg_core.proofs.Updates.{each_last, own_open}

-- ---- records of a list of writes

among_append : (r : Rid) (xs ys : List Rid) → is_among r (xs ++ ys) ≡ (is_among r xs || is_among r ys)
among_append r [] ys = refl
among_append r (x ∷ xs) ys = ap (λ b. same_rid r x || b) (among_append r xs ys) ∙ step (same_rid r x) (is_among r xs) (is_among r ys)
  where
    step : (a b c : Bool) → (a || (b || c)) ≡ ((a || b) || c)
    step true b c = refl
    step false b c = refl

none_append : (xs ys : List Rid) → NoneTwice xs → NoneTwice ys → Each (λ r. IsFalse (is_among r ys)) xs → NoneTwice (xs ++ ys)
none_append [] ys a b e = b
none_append (x ∷ xs) ys a b e = (among_append x xs ys ∙ step (is_among x xs) (is_among x ys) a.0 e.0, none_append xs ys a.1 b e.1)
  where
    step : (p q : Bool) → p ≡ false → q ≡ false → (p || q) ≡ false
    step p q e f = grind arith

-- a part of the writes has no more records
among_less : (r : Rid) (p : Write → Bool) (ws : List Write) → is_among r (rids_of ws) ≡ false → is_among r (rids_of (filter p ws)) ≡ false
among_less r p [] e = refl
among_less r p (w ∷ ws) e = go (p w) (or_parts (same_rid r w.rid) (is_among r (rids_of ws)) e) (λ k. among_less r p ws k)
  where
    go : (b : Bool) → (same_rid r w.rid ≡ false) × (is_among r (rids_of ws) ≡ false) → (is_among r (rids_of ws) ≡ false → is_among r (rids_of (filter p ws)) ≡ false) →
        is_among r (rids_of (cond b (w ∷ filter p ws) (filter p ws))) ≡ false
    go true q later = ap (λ b. b || is_among r (rids_of (filter p ws))) q.0 ∙ later q.1
    go false q later = later q.1

none_less : (p : Write → Bool) (ws : List Write) → NoneTwice (rids_of ws) → NoneTwice (rids_of (filter p ws))
none_less p [] n = tt
none_less p (w ∷ ws) n = go (p w) (none_less p ws n.1)
  where
    go : (b : Bool) → NoneTwice (rids_of (filter p ws)) → NoneTwice (rids_of (cond b (w ∷ filter p ws) (filter p ws)))
    go true later = (among_less w.rid p ws n.0, later)
    go false later = later

among_others : (q : Rid) (ws : List Write) → is_among q (rids_of (filter (λ v. not (same_rid q v.rid)) ws)) ≡ false
among_others q [] = refl
among_others q (w ∷ ws) = go (same_rid q w.rid) refl (among_others q ws)
  where
    go : (b : Bool) → same_rid q w.rid ≡ b → is_among q (rids_of (filter (λ v. not (same_rid q v.rid)) ws)) ≡ false →
        is_among q (rids_of (cond (not b) (w ∷ filter (λ v. not (same_rid q v.rid)) ws) (filter (λ v. not (same_rid q v.rid)) ws))) ≡ false
    go true e later = later
    go false e later = ap (λ b. b || is_among q (rids_of (filter (λ v. not (same_rid q v.rid)) ws))) e ∙ later

pub none_last : (ws : List Write) → NoneTwice (rids_of (last_images ws))
none_last [] = tt
none_last (w ∷ ws) = (among_others w.rid (last_images ws), none_less (λ v. not (same_rid w.rid v.rid)) (last_images ws) (none_last ws))

-- ---- records of a group

-- what holds of each that is written holds of one that is among them
among_open : (log : List LogEntry) (r : Rid) (ws : List Write) → Each (λ w. IsSome (open_in w.rid log)) ws → is_among r (rids_of ws) ≡ true → IsSome (open_in r log)
among_open log r [] e m = cc
among_open log r (w ∷ ws) e m = go (same_rid r w.rid) refl m (λ k. among_open log r ws e.1 k)
  where
    go : (b : Bool) → same_rid r w.rid ≡ b → (b || is_among r (rids_of ws)) ≡ true → (is_among r (rids_of ws) ≡ true → IsSome (open_in r log)) → IsSome (open_in r log)
    go true q m later = subst (λ x. IsSome (open_in x log)) (sym (same_rid_equal r w.rid q)) e.0
    go false q m later = later m

-- each record that a session commits it has open
commit_open : (j : ℕ) (log : List LogEntry) → is_plain log ≡ true → Each (λ w. IsSome (open_in w.rid log)) (commit_in j log).images
commit_open j log p = each_last (λ w. IsSome (open_in w.rid log)) (own_writes log) (own_open log p)

among_group : (r : Rid) (log : ℕ → List LogEntry) (js : List ℕ) → Each (λ j. IsTrue (is_plain (log j))) js → is_among r (group_rids (new_group log js)) ≡ true → (k : ℕ) ×
    (is_in js k ≡ true) × IsSome (open_in r (log k))
among_group r log [] p m = cc
among_group r log (j ∷ js) p m = go (is_among r (rids_of (commit_in j (log j)).images)) refl
    (sym (among_append r (rids_of (commit_in j (log j)).images) (group_rids (new_group log js))) ∙ m) (λ k. among_group r log js p.1 k)
  where
    go : (b : Bool) → is_among r (rids_of (commit_in j (log j)).images) ≡ b → (b || is_among r (group_rids (new_group log js))) ≡ true →
        (is_among r (group_rids (new_group log js)) ≡ true → (k : ℕ) × (is_in js k ≡ true) × IsSome (open_in r (log k))) → (k : ℕ) × (is_in (j ∷ js) k ≡ true) × IsSome (open_in r (log k))
    go true q m later = (j, first_in j js, among_open (log j) r (commit_in j (log j)).images (commit_open j (log j) p.0) q)
    go false q m later = let h = later m in (h.0, rest_in h.0 j js h.1, h.2)

each_rid : (Q : Rid → Type 0) (ws : List Write) → Each (λ w. Q w.rid) ws → Each Q (rids_of ws)
each_rid Q [] e = tt
each_rid Q (w ∷ ws) e = (e.0, each_rid Q ws e.1)

each_turned : (P Q : Write → Type 0) (ws : List Write) → ((w : Write) → P w → Q w) → Each P ws → Each Q ws
each_turned P Q [] f e = tt
each_turned P Q (w ∷ ws) f e = (f w e.0, each_turned P Q ws f e.1)

group_none_twice : (log : ℕ → List LogEntry) (js : List ℕ) → NoNumberTwice js → Each (λ j. IsTrue (is_plain (log j))) js →
    ((r : Rid) (j k : ℕ) → IsSome (open_in r (log j)) → IsSome (open_in r (log k)) → j ≡ k) → NoneTwice (group_rids (new_group log js))
group_none_twice log [] d p one = tt
group_none_twice log (j ∷ js) d p one = none_append (rids_of (commit_in j (log j)).images) (group_rids (new_group log js)) (none_last (own_writes (log j))) (group_none_twice log js d.1 p.1 one)
    (each_rid (λ r. IsFalse (is_among r (group_rids (new_group log js)))) (commit_in j (log j)).images
    (each_turned _ _ (commit_in j (log j)).images (λ w s. apart w s (is_among w.rid (group_rids (new_group log js))) refl) (commit_open j (log j) p.0)))
  where
    apart : (w : Write) → IsSome (open_in w.rid (log j)) → (b : Bool) → is_among w.rid (group_rids (new_group log js)) ≡ b → b ≡ false
    apart w s false e = refl
    apart w s true e =
        let other = among_group w.rid log js p.1 e in
        let same : other.0 ≡ j = one w.rid other.0 j other.2 s in
        let there : is_in js j ≡ true = subst (λ k. is_in js k ≡ true) same other.1 in
        let z = d.0 in cc

-- ---- the group

sessions_are : (log : ℕ → List LogEntry) (js : List ℕ) → map (λ (c : Commit). c.session) (new_group log js) ≡ js
sessions_are log [] = refl
sessions_are log (j ∷ js) = ap (λ xs. j ∷ xs) (sessions_are log js)

as_many : (log : ℕ → List LogEntry) (js : List ℕ) → length (new_group log js) ≡ length js
as_many log [] = refl
as_many log (j ∷ js) = ap suc (as_many log js)

-- a session with a stamped write has a record stamped
stamped_record : (j : ℕ) (list : List (ℕ × Rid)) → has_stamped j list ≡ true → (r : Rid) × (is_stamped j r list ≡ true)
stamped_record j [] e = cc
stamped_record j (x ∷ list) e = go (x.0 == j) refl e (λ k. stamped_record j list k)
  where
    or_right : (a b : Bool) → b ≡ true → (a || b) ≡ true
    or_right a b q = grind arith

    go : (b : Bool) → (x.0 == j) ≡ b → (b || has_stamped j list) ≡ true → (has_stamped j list ≡ true → (r : Rid) × (is_stamped j r list ≡ true)) → (r : Rid) × (is_stamped j r (x ∷ list) ≡ true)
    go true q m later = (x.1, ap (λ b. (b && same_rid x.1 x.1) || is_stamped j x.1 list) q ∙ ap (λ b. b || is_stamped j x.1 list) (same_rid_itself x.1))
    go false q m later = let h = later m in (h.0, or_right ((x.0 == j) && same_rid x.1 h.0) (is_stamped j h.0 list) h.1)

not_none : (o : Option Image) → o ≡ None → IsSome o → ⊥
not_none None e s = cc
not_none (Some image) e s = cc

writes_some : (r : Rid) (log : List LogEntry) → is_plain log ≡ true → IsSome (open_in r log) → 0 < length (last_images (own_writes log))
writes_some r log p s = go (own_writes log) (image_open r log p)
  where
    go : (ws : List Write) → image_in r ws ≡ open_in r log → 0 < length (last_images ws)
    go [] e = absurd (not_none (open_in r log) (sym e) s)
    go (w ∷ ws) e = omega arith

snapshot_within : (n : ℕ) (o : Option Snapshot) → IfSome o (λ snapshot. snapshot.at ≤ n) → snapshot_number o ≤ n
snapshot_within n None h = omega arith
snapshot_within n (Some snapshot) h = h

commits_are : (top : ℕ) (log : ℕ → List LogEntry) (js : List ℕ) → ((j : ℕ) → UpTo top (log j)) → Each (λ j. IsTrue (is_plain (log j))) js →
    ((j : ℕ) → is_in js j ≡ true → (r : Rid) × IsSome (open_in r (log j))) → Each (IsCommit (1 + top)) (new_group log js)
commits_are top log [] up p some = tt
commits_are top log (j ∷ js) up p some = (
  record {
    some = (let r = some j (first_in j js) in writes_some r.0 (log j) p.0 r.1);
    before = (let le : snapshot_number (current (log j)) ≤ top = snapshot_within top (current (log j)) (current_within top (log j) (up j)) in omega arith);
  },
  commits_are top log js up p.1 (λ k m. some k (rest_in k j js m)),
)

pub history_more : (h : History) (log : ℕ → List LogEntry) (list : List (ℕ × Rid)) (js : List ℕ) → IsHistory h → ((j : ℕ) → UpTo (length h) (log j)) → 0 < length js →
    NoNumberTwice js → Each (λ j. IsTrue (is_plain (log j))) js
    → ((j : ℕ) → has_stamped j list ≡ is_in js j)
    → ((j : ℕ) (r : Rid) → IsTrue (is_stamped j r list) → IsSome (open_in r (log j)))
    → ((r : Rid) (j k : ℕ) → IsSome (open_in r (log j)) → IsSome (open_in r (log k)) → j ≡ k)
    → IsHistory (h ++ new_group log js ∷ [])
history_more h log list js old up some distinct plain stamped standing one = group_more IsGroup 1 h (new_group log js) old (record {
  some = omega (arith, as_many log js);
  commits = commits_are (length h) log js up plain (λ j m. let r = stamped_record j list (stamped j ∙ m) in (r.0, standing j r.0 r.1));
  sessions = subst NoNumberTwice (sym (sessions_are log js)) distinct;
  rids = group_none_twice log js distinct plain one;
})
