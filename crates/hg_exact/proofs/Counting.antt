-- The numbers that the lines so far print, and the snapshots of what is open.
use Rattle.std.proofs.Common.{◌≡◌, ℕ, zero, suc, ◌<◌, ◌≤◌, List, [], ◌∷◌, map, Bool, true, false, Option, Some, None, refl, sym, ap, ◌∙◌, subst, arith}
use Rattle.std.specs.Prelude.{◌==◌, ◌&&◌, ◌||◌, cond, filter, filter_map, max, option_map, if◌then◌else◌, IfSome}
use Rattle.std.specs.List.{list_any, cons_option, flat_map}
use Rattle.std.specs.Option.{option_map_or}
use Rattle.std.proofs.lemmas.Bool.Decides.{Decides-eqb, nat_tests}
use Rattle.hg_base.specs.declared.report.Kind.{Kind}
use Rattle.hg_base.specs.declared.report.Told.{Told}
use Rattle.hg_base.specs.declared.report.Sweep.{Sweep}
use Rattle.hg_base.specs.Lists.{Each, Ascends, greatest, numbers_from}
use Rattle.hg_base.specs.Transcript.{Said, committed, greatest_commit, open_after, open_of}
use Rattle.hg_base.specs.Shape.{report_of, same_kind}
use Rattle.hg_base.specs.Freshness.{is_declared, known, mark_of, numbers_of, open_snapshot, open_snapshots, snapshot_of}
use Rattle.hg_base.proofs.ListFacts.{cases, each_append, each_keeps}
use Rattle.hg_core.proofs.Indices.{by_number}
use Rattle.hg_headline.proofs.Commits.{each_map, greatest_within}
use Rattle.hg_headline.proofs.OpenSnapshots.{last_of_none, none_named, picked_few, picked_same}
use Rattle.hg_exact.specs.State.{Open}
use Rattle.hg_exact.specs.Answers.{told_of}
use Rattle.hg_exact.specs.Replayed.{plain_told}
use Rattle.hg_exact.proofs.Keys.{ascends_cons}
use Rattle.hg_exact.proofs.Standing.{differs, last_other, open_as, opened_in}

-- ---- numbers

-- no number that a line prints is over m
abbrev pub IsUpTo : ℕ → Said → Type 0
IsUpTo m said = Each (λ n. n ≤ m) (numbers_of said) × IfSome (report_of said.reply) (λ sweep. sweep.mark ≤ m)

pub record Counts (earlier : List Said) (m : ℕ) : Type 0 where
  pub mark : greatest_commit earlier ≡ m
  pub printed : (n : ℕ) → 1 ≤ n → n ≤ m → list_any (λ k. k == n) (filter_map committed earlier) ≡ true
  pub upto : Each (IsUpTo m) earlier

pub counts_nothing : Counts [] 0
counts_nothing = record { mark = refl; printed = λ n a b. absurd (omega (arith, a, b)); upto = tt }

upto_more : (m : ℕ) (said : Said) → IsUpTo m said → IsUpTo (suc m) said
upto_more m said h = (each_keeps (λ n. n ≤ m) (λ n. n ≤ suc m) (λ n k. omega (arith, k)) (numbers_of said) h.0, go (report_of said.reply) h.1)
  where
    go : (o : Option Sweep) → IfSome o (λ sweep. sweep.mark ≤ m) → IfSome o (λ sweep. sweep.mark ≤ suc m)
    go None k = tt
    go (Some sweep) k = omega (arith, k)

pub counts_plain : (earlier : List Said) (m : ℕ) (now : Said) → Counts earlier m → committed now ≡ None → IsUpTo m now → Counts (now ∷ earlier) m
counts_plain earlier m now c e u = record {
  mark = ap (λ o. greatest (cons_option o (filter_map committed earlier))) e ∙ c.mark;
  printed = λ n a b. ap (λ o. list_any (λ k. k == n) (cons_option o (filter_map committed earlier))) e ∙ c.printed n a b;
  upto = (u, c.upto);
}

pub counts_commit : (earlier : List Said) (m : ℕ) (now : Said) → Counts earlier m → committed now ≡ Some (suc m) → IsUpTo (suc m) now → Counts (now ∷ earlier) (suc m)
counts_commit earlier m now c e u = record {
  mark = ap (λ o. greatest (cons_option o (filter_map committed earlier))) e ∙ ap (max (suc m)) c.mark ∙ larger;
  printed = λ n a b. ap (λ o. list_any (λ k. k == n) (cons_option o (filter_map committed earlier))) e ∙ cases (suc m == n)
      (λ q. ap (λ x. x || list_any (λ k. k == n) (filter_map committed earlier)) q)
      (λ q. ap (λ x. x || list_any (λ k. k == n) (filter_map committed earlier)) q ∙ c.printed n a (less n b q));
  upto = (u, each_keeps (IsUpTo m) (IsUpTo (suc m)) (upto_more m) earlier c.upto);
}
  where
    larger : max (suc m) m ≡ suc m
    larger = omega arith

    less : (n : ℕ) → n ≤ suc m → (suc m == n) ≡ false → n ≤ m
    less n b q = grind (arith, nat_tests)

pub known_upto : (j m : ℕ) (earlier : List Said) → Each (IsUpTo m) earlier → Each (λ n. n ≤ m) (known j earlier)
known_upto j m [] h = tt
known_upto j m (s ∷ ss) h = go (s.session == j) (known_upto j m ss h.1)
  where
    go : (b : Bool) → Each (λ n. n ≤ m) (known j ss) → Each (λ n. n ≤ m) (flat_map numbers_of (cond b (s ∷ filter (λ (x : Said). x.session == j) ss) (filter (λ (x : Said). x.session == j) ss)))
    go true k = each_append (λ n. n ≤ m) (numbers_of s) (known j ss) h.0.0 k
    go false k = k

pub marks_upto : (kind : Kind) (m : ℕ) (earlier : List Said) → Each (IsUpTo m) earlier → Each (λ n. n ≤ m) (filter_map (mark_of kind) earlier)
marks_upto kind m [] h = tt
marks_upto kind m (s ∷ ss) h = go (report_of s.reply) h.0.1 (marks_upto kind m ss h.1)
  where
    go : (o : Option Sweep) → IfSome o (λ sweep. sweep.mark ≤ m) → Each (λ n. n ≤ m) (filter_map (mark_of kind) ss) →
        Each (λ n. n ≤ m) (cons_option (elim o [ None ↦ None | Some sweep ↦ if same_kind sweep.kind kind then Some sweep.mark else None ]) (filter_map (mark_of kind) ss))
    go None k l = l
    go (Some sweep) k l = at (same_kind sweep.kind kind)
      where
        at : (b : Bool) → Each (λ n. n ≤ m) (cons_option (if b then Some sweep.mark else None) (filter_map (mark_of kind) ss))
        at true = (k, l)
        at false = l

-- ---- the line at which what is open was begun

-- prints that snapshot of that session; with declared tables, where that is asked
abbrev pub begins_at : ℕ → Bool → ℕ → Said → Bool
begins_at j d at said = ((said.session == j) && option_map_or (λ s. s == at) (snapshot_of said) false) && (if d then is_declared said.scope else true)

pub record WasBegun (j : ℕ) (earlier : List Said) (q : Said) : Type 0 where
  pub shown : (d : Bool) → (if d then is_declared q.scope else true) ≡ true → list_any (begins_at j d q.at) earlier ≡ true

-- each open transaction's beginning was printed
abbrev pub AreBegun : List Said → Type 0
AreBegun earlier = (j : ℕ) (q : Said) → open_of j earlier ≡ Some q → WasBegun j earlier q

or_keeps : (a b : Bool) → b ≡ true → (a || b) ≡ true
or_keeps true b e = refl
or_keeps false b e = e

pub begun_more : (j : ℕ) (earlier : List Said) (now q p : Said) → q.at ≡ p.at → q.scope ≡ p.scope → WasBegun j earlier q → WasBegun j (now ∷ earlier) p
begun_more j earlier now q p at scope b = record {
  shown = λ d k. or_keeps (begins_at j d p.at now) (list_any (begins_at j d p.at) earlier)
      (subst (λ n. list_any (begins_at j d n) earlier ≡ true) at (b.shown d (ap (λ sc. if d then is_declared sc else true) scope ∙ k)));
}

pub begun_here : (j : ℕ) (earlier : List Said) (now : Said) → now.session ≡ j → snapshot_of now ≡ Some now.at → WasBegun j (now ∷ earlier) now
begun_here j earlier now mine at = record {
  shown = λ d k. ap (λ b. b || list_any (begins_at j d now.at) earlier) (
      ap (λ n. ((n == j) && option_map_or (λ s. s == now.at) (snapshot_of now) false) && (if d then is_declared now.scope else true)) mine
      ∙ ap (λ b. (b && option_map_or (λ s. s == now.at) (snapshot_of now) false) && (if d then is_declared now.scope else true)) (same j)
      ∙ ap (λ o. option_map_or (λ s. s == now.at) o false && (if d then is_declared now.scope else true)) at
      ∙ ap (λ b. b && (if d then is_declared now.scope else true)) (same now.at)
      ∙ k);
}
  where
    same : (n : ℕ) → (n == n) ≡ true
    same n = (Decides-eqb n n).1 refl

-- ---- the snapshots of what is open

abbrev pub pair : Told → ℕ × ℕ
pair told = (told.session, told.number)

abbrev pub pair_of : ℕ → Open → ℕ × ℕ
pair_of j o = (j, o.at)

module _ (opens : ℕ → Option Open) where
  abbrev pub held_from : ℕ → ℕ → List Told
  held_from n many = filter_map (λ j. told_of j (opens j)) (numbers_from n many)

  held_over : (n many least : ℕ) → least ≤ n → Each (λ m. least ≤ m) (map (λ (t : Told). t.session) (held_from n many))
  held_over n zero least k = tt
  held_over n (suc many) least k = go (opens n) (held_over (suc n) many least (omega (arith, k)))
    where
      go : (o : Option Open) → Each (λ m. least ≤ m) (map (λ (t : Told). t.session) (held_from (suc n) many)) →
          Each (λ m. least ≤ m) (map (λ (t : Told). t.session) (cons_option (told_of n o) (held_from (suc n) many)))
      go None h = h
      go (Some o) h = (k, h)

  pub held_ascends : (n many : ℕ) → Ascends (map (λ (t : Told). t.session) (held_from n many))
  held_ascends n zero = tt
  held_ascends n (suc many) = go (opens n) (held_ascends (suc n) many) (held_over (suc n) many (suc n) (omega arith))
    where
      go : (o : Option Open) → Ascends (map (λ (t : Told). t.session) (held_from (suc n) many)) → Each (λ m. suc n ≤ m) (map (λ (t : Told). t.session) (held_from (suc n) many)) →
          Ascends (map (λ (t : Told). t.session) (cons_option (told_of n o) (held_from (suc n) many)))
      go None h k = h
      go (Some o) h k = ascends_cons n (map (λ (t : Told). t.session) (held_from (suc n) many))
          (each_keeps (λ m. suc n ≤ m) (λ m. n < m) (λ m q. q) (map (λ (t : Told). t.session) (held_from (suc n) many)) k) h

  -- of an open transaction
  abbrev pub IsOf : Told → Type 0
  IsOf told = (o : Open) × (opens told.session ≡ Some o) × (o.at ≡ told.number)

  pub held_each : (n many : ℕ) → Each IsOf (held_from n many)
  held_each n zero = tt
  held_each n (suc many) = go (opens n) refl (held_each (suc n) many)
    where
      go : (o : Option Open) → opens n ≡ o → Each IsOf (held_from (suc n) many) → Each IsOf (cons_option (told_of n o) (held_from (suc n) many))
      go None e h = h
      go (Some o) e h = ((o, e, refl), h)

  held_pairs : (n many : ℕ) → map pair (held_from n many) ≡ filter_map (λ j. option_map (pair_of j) (opens j)) (numbers_from n many)
  held_pairs n zero = refl
  held_pairs n (suc many) = go (opens n) (held_pairs (suc n) many)
    where
      go : (o : Option Open) → map pair (held_from (suc n) many) ≡ filter_map (λ j. option_map (pair_of j) (opens j)) (numbers_from (suc n) many)
          → map pair (cons_option (told_of n o) (held_from (suc n) many)) ≡ cons_option (option_map (pair_of n) o) (filter_map (λ j. option_map (pair_of j) (opens j)) (numbers_from (suc n) many))
      go None e = e
      go (Some o) e = ap (λ xs. (n, o.at) ∷ xs) e

  pub held_snapshots : (sessions : ℕ) (earlier : List Said) → ((j : ℕ) → opens j ≡ opened_in j earlier) → Each (λ (s : Said). s.session ≤ sessions) earlier →
      map pair (held_from 1 sessions) ≡ open_snapshots earlier
  held_snapshots sessions earlier is w =
      let top : ℕ = greatest (map (λ (s : Said). s.session) earlier) in
      held_pairs 1 sessions
      ∙ picked_same (λ j. option_map (pair_of j) (opens j)) (λ j. open_snapshot j (open_of j earlier)) (λ j. ap (option_map (pair_of j)) (is j) ∙ one j (open_of j earlier)) (numbers_from 1 sessions)
      ∙ picked_few (λ j. open_snapshot j (open_of j earlier)) 1 top sessions
      (greatest_within sessions (map (λ (s : Said). s.session) earlier) (each_map (λ n. n ≤ sessions) (λ (s : Said). s.session) earlier w))
      (λ j k. ap (λ o. open_snapshot j (open_after o)) (last_of_none j earlier (none_named j earlier (omega (arith, k)))))
    where
      one : (j : ℕ) (o : Option Said) → option_map (pair_of j) (option_map (open_as j earlier) o) ≡ open_snapshot j o
      one j None = refl
      one j (Some q) = refl

-- ---- what is held, as it is told

pub each_unmap : {X Y : Type 0} (P : Y → Type 0) (f : X → Y) (xs : List X) → Each P (map f xs) → Each (λ x. P (f x)) xs
each_unmap P f [] h = tt
each_unmap P f (x ∷ xs) h = (h.0, each_unmap P f xs h.1)

pub map_twice : {X Y Z : Type 0} (f : X → Y) (g : Y → Z) (xs : List X) → map g (map f xs) ≡ map (λ x. g (f x)) xs
map_twice f g [] = refl
map_twice f g (x ∷ xs) = ap (λ ys. g (f x) ∷ ys) (map_twice f g xs)

-- what is told, but for what was moved, names sessions in their order, with the snapshots of what is open
pub told_pairs : (held : List Told) → map pair held ≡ map pair (map plain_told held)
told_pairs held = sym (map_twice plain_told pair held)

pub told_sessions : (held : List Told) → map (λ (t : Told). t.session) held ≡ map (λ (t : Told). t.session) (map plain_told held)
told_sessions held = sym (map_twice plain_told (λ (t : Told). t.session) held)

-- a line of session j leaves the others' transactions open as they were
pub are_begun : (j : ℕ) (earlier : List Said) (now : Said) → now.session ≡ j → AreBegun earlier → ((q : Said) → open_of j (now ∷ earlier) ≡ Some q → WasBegun j (now ∷ earlier) q) →
    AreBegun (now ∷ earlier)
are_begun j earlier now mine before here k q = by_number j (λ i b. open_of i (now ∷ earlier) ≡ Some q → WasBegun i (now ∷ earlier) q) (here q)
    (λ i f e. begun_more i earlier now q q refl refl (before i q (sym (ap open_after (last_other i earlier now (differs now.session i (λ g. f (sym g ∙ mine))))) ∙ e))) k
