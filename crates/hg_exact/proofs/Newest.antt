-- The groups of a history that write a record, and the newest of them.
use Rattle.std.proofs.Common.{◌≡◌, ℕ, zero, suc, ◌≤◌, List, [], ◌∷◌, ◌++◌, map, Bool, true, false, Option, Some, None, refl, sym, ap, ◌∙◌, subst, arith}
use Rattle.std.specs.Prelude.{◌==◌, ◌||◌, cond, filter_map, option_map, if◌then◌else◌, is_some, IsSome, IsTrue, ◌↔◌}
use Rattle.std.specs.List.{list_any, cons_option}
use Rattle.std.specs.Option.{option_or}
use Rattle.std.proofs.lemmas.Bool.{or_parts}
use Rattle.std.proofs.lemmas.Bool.Decides.{Decides-eqb}
use Rattle.std.proofs.lemmas.List.Elements.{filter_map-append}
use Rattle.hg_base.specs.declared.rid.Rid.{Rid}
use Rattle.hg_base.specs.declared.image.Image.{Image}
use Rattle.hg_base.specs.Lists.{EachAfter, numbers_from, onto}
use Rattle.hg_base.specs.History.{Commit, Group, History, does_write, group_at, group_from, group_image, image_in, writes_from}
use Rattle.hg_base.specs.Transcript.{Said, commits, commits_from, greatest_commit, group_of, history_of}
use Rattle.hg_base.proofs.ListFacts.{append_nil}
use Rattle.hg_core.specs.declared.log.LogEntry.{LogEntry}
use Rattle.hg_core.specs.Judged.{of_session}
use Rattle.hg_core.specs.Logs.{published}
use Rattle.hg_core.proofs.Firsts.{of_all}
use Rattle.hg_core.proofs.Shows.{group_does}
use Rattle.hg_core.proofs.Updates.{some_is as some_of_yes}
use Rattle.hg_headline.specs.Logged.{Logged}
use Rattle.hg_headline.proofs.Commits.{commits_numbers, group_pick, pick_other}
use Rattle.hg_headline.proofs.Ties.{Ties, commits_back, commits_onto, pick}
use Rattle.hg_headline.proofs.Words.{same_number}
use Rattle.hg_exact.specs.First.{IsNewest}
use Rattle.hg_core.specs.Shown.{IsNewestIn}
use Rattle.hg_exact.proofs.Ascending.{CommitAscends}
use Rattle.hg_exact.proofs.Longer.{none_there, writes_over}
use Rattle.hg_exact.proofs.Numbering.{none_later}

no_test : false ≡ true → ⊥
no_test e = cc

-- ---- the groups that write a record

does_group : (first : ℕ) (h : History) (r : Rid) (n : ℕ) → list_any (λ (w : ℕ × Image). w.0 == n) (writes_from first h r) ≡ true → IsSome (group_image r (group_from first h n))
does_group first [] r n does = absurd (no_test does)
does_group first (g ∷ gs) r n does = go (first == n) refl (group_image r g) refl does (does_group (suc first) gs r n)
  where
    go : (b : Bool) → (first == n) ≡ b → (o : Option Image) → group_image r g ≡ o →
        list_any (λ (w : ℕ × Image). w.0 == n) (cons_option (option_map (λ image. (first, image)) o) (writes_from (suc first) gs r)) ≡ true →
        (list_any (λ (w : ℕ × Image). w.0 == n) (writes_from (suc first) gs r) ≡ true → IsSome (group_image r (group_from (suc first) gs n))) →
        IsSome (group_image r (if b then g else group_from (suc first) gs n))
    go true q (Some i) f e later = ap is_some f
    go true q None f e later =
        let same : first ≡ n = (Decides-eqb first n).0 q in
        absurd (no_test (sym (none_there (suc first) n (writes_from (suc first) gs r) (omega (arith, same)) (writes_over (suc first) gs r)) ∙ e))
    go false q None f e later = later e
    go false q (Some i) f e later = later (sym (ap (λ b. b || list_any (λ (w : ℕ × Image). w.0 == n) (writes_from (suc first) gs r)) q) ∙ e)

group_numbered : (f : ℕ → Group) (first many n : ℕ) (r : Rid) → IsSome (group_image r (group_from first (map f (numbers_from first many)) n)) → IsSome (group_image r (f n))
group_numbered f first zero n r e = absurd (no_test e)
group_numbered f first (suc many) n r e = go (first == n) refl e (group_numbered f (suc first) many n r)
  where
    go : (b : Bool) → (first == n) ≡ b → IsSome (group_image r (if b then f first else group_from (suc first) (map f (numbers_from (suc first) many)) n)) →
        (IsSome (group_image r (group_from (suc first) (map f (numbers_from (suc first) many)) n)) → IsSome (group_image r (f n))) → IsSome (group_image r (f n))
    go true q k later = subst (λ m. IsSome (group_image r (f m))) ((Decides-eqb first n).0 q) k
    go false q k later = later k

-- what a group writes, one of its sessions does
of_one : (r : Rid) (g : Group) → IsSome (group_image r g) → (j : ℕ) × IsSome (group_image r (of_session j g))
of_one r [] e = absurd (no_test e)
of_one r (c ∷ cs) e = go (image_in r c.images) refl e (of_one r cs)
  where
    go : (o : Option Image) → image_in r c.images ≡ o → IsSome (option_or o (group_image r cs)) → (IsSome (group_image r cs) → (j : ℕ) × IsSome (group_image r (of_session j cs))) →
        (j : ℕ) × IsSome (group_image r (of_session j (c ∷ cs)))
    go (Some i) f k rest = (
      c.session,
      subst (λ b. IsSome (group_image r (cond b (c ∷ of_session c.session cs) (of_session c.session cs)))) (sym (same_number c.session))
          (ap (λ o. is_some (option_or o (group_image r (of_session c.session cs)))) f),
    )
    go None f k rest = let later = rest k in (later.0, with_one (c.session == later.0) later.0 later.1)
      where
        with_one : (b : Bool) (j : ℕ) → IsSome (group_image r (of_session j cs)) → IsSome (group_image r (cond b (c ∷ of_session j cs) (of_session j cs)))
        with_one true j m = ap (λ o. is_some (option_or o (group_image r (of_session j cs)))) f ∙ m
        with_one false j m = m

-- no later line commits under a number that was printed
no_picks : (n j : ℕ) (ps : List (ℕ × Commit)) → list_any (λ k. k == n) (map (λ (p : ℕ × Commit). p.0) ps) ≡ false → filter_map (pick n j) ps ≡ []
no_picks n j [] e = refl
no_picks n j (p ∷ ps) e =
    let parts = or_parts (p.0 == n) (list_any (λ k. k == n) (map (λ (q : ℕ × Commit). q.0) ps)) e in
    ap (λ o. cons_option o (filter_map (pick n j) ps)) (pick_other n j p parts.0) ∙ no_picks n j ps parts.1

picked_before : (n j : ℕ) (all earlier rest : List Said) → onto all [] ≡ onto rest earlier → n ≤ greatest_commit earlier → EachAfter CommitAscends earlier rest →
    filter_map (pick n j) (commits all) ≡ filter_map (pick n j) (commits_back earlier)
picked_before n j all earlier rest is k up =
    let split : commits all ≡ commits_back earlier ++ commits_from earlier rest = sym (commits_onto [] all) ∙ ap commits_back is ∙ commits_onto earlier rest in
    let none : filter_map (pick n j) (commits_from earlier rest) ≡ [] = no_picks n j (commits_from earlier rest) (ap (list_any (λ m. m == n)) (commits_numbers earlier rest) ∙
    none_later n earlier rest k up) in
    ap (filter_map (pick n j)) split ∙ filter_map-append (pick n j) (commits_back earlier) (commits_from earlier rest)
    ∙ ap (λ cs. filter_map (pick n j) (commits_back earlier) ++ cs) none ∙ append_nil (filter_map (pick n j) (commits_back earlier))

pub is_newest : (logs : ℕ → List LogEntry) (all earlier rest : List Said) (r : Rid) (c : ℕ) → onto all [] ≡ onto rest earlier → EachAfter CommitAscends earlier rest →
    ((k : ℕ) → Ties k earlier (logs k)) → IsNewestIn logs r c → IsNewest (history_of all) earlier r c
is_newest logs all earlier rest r c is up t f n k does =
    let one = of_one r (group_of (commits all) n) (group_numbered (group_of (commits all)) 1 (greatest_commit all) n r (does_group 1 (history_of all) r n does)) in
    let same : of_session one.0 (group_of (commits all) n) ≡ published n one.0 (logs one.0) = group_pick (commits all) n one.0 ∙ picked_before n one.0 all earlier rest is k up ∙
    (t one.0).published n in
    f one.0 n (subst (λ g. IsSome (group_image r g)) same one.1)

-- ---- the groups of a history

pub newest_there : (buckets : ℕ) (h : History) (logs : ℕ → List LogEntry) (r : Rid) (c : ℕ) → Logged buckets h logs → (IsNewestIn logs r c ↔ ((n : ℕ) → IsTrue (does_write h n r) → n ≤ c))
newest_there buckets h logs r c logged = (
  λ f n does.
      let one = of_one r (group_at h n) (does_group 1 h r n does) in
      f one.0 n (subst (λ g. IsSome (group_image r g)) (logged.commits n one.0) one.1),
  λ f k n e.
      let some = some_of_yes (group_image r (group_at h n)) (of_all r k (group_at h n) (subst (λ g. IsSome (group_image r g)) (sym (logged.commits n k)) e)) in
      f n (group_does 1 h r n some.0 some.1),
)
