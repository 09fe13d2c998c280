-- The numbers that lines print, in their order: a number that is at least all commit numbers before, and below all later
-- ones, is the greatest commit number so far.
use Rattle.std.proofs.Common.{◌≡◌, ℕ, zero, suc, ◌+◌, ◌<◌, ◌≤◌, ◌⊎◌, inl, inr, List, [], ◌∷◌, length, map, Bool, true, false, Option, Some, None, refl, sym, ap, ◌∙◌, subst, arith}
use Rattle.std.specs.Prelude.{◌==◌, ◌||◌, filter_map, option_map, if◌then◌else◌, IfSome}
use Rattle.std.specs.List.{list_any, flat_map, cons_option}
use Rattle.std.proofs.lemmas.Bool.Decides.{Decides-eqb, nat_tests}
use Rattle.std.proofs.lemmas.Bool.{or_left, or_right}
use Rattle.hg_base.specs.declared.report.Kind.{Kind}
use Rattle.hg_base.specs.declared.report.Sweep.{Sweep}
use Rattle.hg_base.specs.declared.statement.Record.{Record}
use Rattle.hg_base.specs.declared.line.Line.{Line}
use Rattle.hg_base.specs.declared.line.Reply.{Reply}
use Rattle.hg_base.specs.Lists.{Each, EachAfter, onto, greatest, present}
use Rattle.hg_base.specs.History.{History, Commit, IsHistory, group_at}
use Rattle.hg_base.specs.Transcript.{Said, said, said_from, last_of, committed, commits, greatest_commit}
use Rattle.hg_base.specs.Shape.{report_of, same_kind}
use Rattle.hg_base.specs.Freshness.{mark_of}
use Rattle.hg_base.proofs.ListFacts.{cases, each_keeps, each_append, if_some_keeps}
use Rattle.hg_headline.specs.Timely.{reads_in, commit_in, mark_in, newer_in, snapshot_in, IsTimely, Rises}
use Rattle.hg_headline.proofs.Words.{true_false, any_onto, any_to_onto, each_left, each_cons, equal_both}
use Rattle.hg_headline.proofs.Commits.{Matches, picked_onto, pick_other, first_picked, commits_numbers, greatest_within, group_some, max_has, max_keeps}
use Rattle.hg_headline.proofs.Ties.{pick}
use Rattle.hg_headline.proofs.Whole.{said_says}

-- the numbers that lines read
abbrev pub all_reads : List Said → List ℕ
all_reads lines = flat_map (λ said. reads_in said.reply) lines

-- Of one line, where last is at or over all numbers of all lines.
pub record IsOrdered (last : ℕ) (earlier : List Said) (now : Said) : Type 0 where
  pub reads : Each (λ n. n ≤ last) (reads_in now.reply)
  pub snapshot : IfSome (snapshot_in now.reply) (λ s. Each (λ c. c ≤ s) (filter_map committed earlier))
  pub mark : IfSome (mark_in now.reply) (λ m. Each (λ c. c ≤ m) (filter_map committed earlier))
  pub marks : IfSome (report_of now.reply) (λ sweep. Each (λ m. m ≤ sweep.mark) (filter_map (mark_of sweep.kind) earlier))
  pub newer : IfSome (newer_in now.reply) (λ c. 0 < c)
  pub commit : IfSome (committed now) (λ c. Each (λ m. m < c) (all_reads (now ∷ earlier)))

-- ---- from the lines as they were printed

pub each_up : (top next : ℕ) (ns : List ℕ) → top ≤ next → Each (λ n. n ≤ top) ns → Each (λ n. n ≤ next) ns
each_up top next ns k h = each_keeps (λ n. n ≤ top) (λ n. n ≤ next) (λ n q. go n q) ns h
  where
    go : (n : ℕ) → n ≤ top → n ≤ next
    go n q = omega (arith, k, q)

pub each_below : (top c : ℕ) (ns : List ℕ) → top < c → Each (λ n. n ≤ top) ns → Each (λ n. n < c) ns
each_below top c ns k h = each_keeps (λ n. n ≤ top) (λ n. n < c) (λ n q. go n q) ns h
  where
    go : (n : ℕ) → n ≤ top → n < c
    go n q = omega (arith, k, q)

pub rises_up : (top last : ℕ) (rs : List Record) (lines : List Line) → Rises top rs lines last → top ≤ last
rises_up top last [] [] f = f
rises_up top last [] (line ∷ lines) f = absurd f
rises_up top last (r ∷ rs) [] f = absurd f
rises_up top last (r ∷ rs) (line ∷ lines) f = let a : top ≤ f.0 = f.1.grows in let b : f.0 ≤ last = rises_up f.0 last rs lines f.2 in omega (arith, a, b)

-- the mark of a report, where it is that collector's
abbrev pub mark_of_report : Kind → Option Sweep → Option ℕ
mark_of_report kind o = elim o [ None ↦ None | Some sweep ↦ if same_kind sweep.kind kind then Some sweep.mark else None ]

pub report_mark : (P : ℕ → Type 0) (kind : Kind) (o : Option Sweep) → IfSome (option_map (λ sweep. sweep.mark) o) P → IfSome (mark_of_report kind o) P
report_mark P kind None k = tt
report_mark P kind (Some sweep) k = go (same_kind sweep.kind kind)
  where
    go : (b : Bool) → IfSome (if b then Some sweep.mark else None) P
    go true = k
    go false = tt

pub each_present_has : (P : ℕ → Type 0) (o : Option ℕ) (xs : List (Option ℕ)) → Each P (present (o ∷ xs)) → IfSome o P × Each P (present xs)
each_present_has P None xs h = (tt, h)
each_present_has P (Some n) xs h = (h.0, h.1)

-- what holds of each number that a reply read
pub of_reads : (P : ℕ → Type 0) (reply : Reply) → Each P (reads_in reply) → IfSome (snapshot_in reply) P × IfSome (newer_in reply) P × IfSome (mark_in reply) P
of_reads P reply h =
    let a = each_present_has P (snapshot_in reply) (newer_in reply ∷ mark_in reply ∷ []) h in
    let b = each_present_has P (newer_in reply) (mark_in reply ∷ []) a.1 in
    (a.0, b.0, (each_present_has P (mark_in reply) [] b.1).0)

-- what the lines so far print, below top
pub record IsBelow (top : ℕ) (earlier : List Said) : Type 0 where
  pub commits : Each (λ c. c ≤ top) (filter_map committed earlier)
  pub reads : Each (λ n. n ≤ top) (all_reads earlier)
  pub marks : (kind : Kind) → Each (λ n. n ≤ top) (filter_map (mark_of kind) earlier)

pub below_nothing : (top : ℕ) → IsBelow top []
below_nothing top = record { commits = tt; reads = tt; marks = λ kind. tt }

pub below_more : (top next : ℕ) (earlier : List Said) (now : Said) → IsBelow top earlier → IsTimely top next now.statement now.reply →
    committed now ≡ commit_in now.statement now.reply → IsBelow next (now ∷ earlier)
below_more top next earlier now b t e = record {
  commits = each_cons (λ c. c ≤ next) (committed now) (filter_map committed earlier)
      (subst (λ o. IfSome o (λ c. c ≤ next)) (sym e) (if_some_keeps (commit_in now.statement now.reply) (λ c. (top < c) × (c ≤ next) × Each (λ n. n < c) (reads_in now.reply))
      (λ c. c ≤ next) (λ c k. k.1) t.commit))
      (each_up top next (filter_map committed earlier) t.grows b.commits);
  reads = each_append (λ n. n ≤ next) (reads_in now.reply) (all_reads earlier) t.reads (each_up top next (all_reads earlier) t.grows b.reads);
  marks = λ kind. each_cons (λ n. n ≤ next) (mark_of kind now) (filter_map (mark_of kind) earlier)
      (report_mark (λ n. n ≤ next) kind (report_of now.reply) (of_reads (λ n. n ≤ next) now.reply t.reads).2) (each_up top next (filter_map (mark_of kind) earlier) t.grows (b.marks kind));
}

-- a mark at or over top is at or over each mark before
pub over_marks : (top : ℕ) (earlier : List Said) → IsBelow top earlier → (o : Option Sweep) → IfSome (option_map (λ sweep. sweep.mark) o) (λ m. top ≤ m) →
    IfSome o (λ sweep. Each (λ m. m ≤ sweep.mark) (filter_map (mark_of sweep.kind) earlier))
over_marks top earlier b None k = tt
over_marks top earlier b (Some sweep) k = each_up top sweep.mark (filter_map (mark_of sweep.kind) earlier) k (b.marks sweep.kind)

pub line_ordered : (top next last : ℕ) (earlier : List Said) (now : Said) → IsBelow top earlier → IsTimely top next now.statement now.reply → next ≤ last →
    committed now ≡ commit_in now.statement now.reply → IsOrdered last earlier now
line_ordered top next last earlier now b t k e = record {
  reads = each_up next last (reads_in now.reply) k t.reads;
  snapshot = if_some_keeps (snapshot_in now.reply) (λ s. top ≤ s) (λ s. Each (λ c. c ≤ s) (filter_map committed earlier)) (λ s q. each_up top s (filter_map committed earlier) q b.commits) t.snapshot;
  mark = if_some_keeps (mark_in now.reply) (λ m. top ≤ m) (λ m. Each (λ c. c ≤ m) (filter_map committed earlier)) (λ m q. each_up top m (filter_map committed earlier) q b.commits) t.mark;
  marks = over_marks top earlier b (report_of now.reply) t.mark;
  newer = t.newer;
  commit = subst (λ o. IfSome o (λ c. Each (λ m. m < c) (all_reads (now ∷ earlier)))) (sym e)
      (if_some_keeps (commit_in now.statement now.reply) (λ c. (top < c) × (c ≤ next) × Each (λ n. n < c) (reads_in now.reply)) (λ c. Each (λ m. m < c) (all_reads (now ∷ earlier)))
      (λ c q. each_append (λ m. m < c) (reads_in now.reply) (all_reads earlier) q.2 (each_below top c (all_reads earlier) q.0 b.reads)) t.commit);
}

pub lines_ordered : (rs : List Record) (lines : List Line) (top last : ℕ) (earlier : List Said) → IsBelow top earlier → Rises top rs lines last →
    EachAfter (λ es now. committed now ≡ commit_in now.statement now.reply) earlier (said_from earlier rs lines) → EachAfter (IsOrdered last) earlier (said_from earlier rs lines)
lines_ordered [] lines top last earlier b f e = tt
lines_ordered (r ∷ rs) [] top last earlier b f e = tt
lines_ordered (r ∷ rs) (line ∷ lines) top last earlier b f e =
    let now : Said = said earlier r line.reply in
    let says = said_says (last_of r.session earlier) r line.reply r.statement in
    let t : IsTimely top f.0 now.statement now.reply = subst (λ p. p) (λ i. IsTimely top f.0 (sym says.1 i) (sym says.2 i)) f.1 in
    (line_ordered top f.0 last earlier now b t (rises_up f.0 last rs lines f.2) e.0, lines_ordered rs lines f.0 last (now ∷ earlier) (below_more top f.0 earlier now b t e.0) f.2 e.1)

-- ---- later commit numbers

-- a number that was read is below each commit number that is printed later
pub later_over : (last m : ℕ) (earlier rest : List Said) → ((P : ℕ → Type 0) → Each P (all_reads earlier) → P m) → EachAfter (IsOrdered last) earlier rest →
    Each (λ c. m < c) (filter_map committed rest)
later_over last m earlier [] a h = tt
later_over last m earlier (now ∷ later) a h =
    each_cons (λ c. m < c) (committed now) (filter_map committed later)
    (if_some_keeps (committed now) (λ c. Each (λ i. i < c) (all_reads (now ∷ earlier))) (λ c. m < c)
    (λ c k. a (λ i. i < c) (each_left (λ i. i < c) (reads_in now.reply) (all_reads earlier) k).1) h.0.commit)
    (later_over last m (now ∷ earlier) later (λ P k. a P (each_left P (reads_in now.reply) (all_reads earlier) k).1) h.1)

pub now_over : (last m : ℕ) (earlier : List Said) (now : Said) (later : List Said) → ((P : ℕ → Type 0) → Each P (reads_in now.reply) → P m) →
    EachAfter (IsOrdered last) earlier (now ∷ later) → Each (λ c. m < c) (filter_map committed (now ∷ later))
now_over last m earlier now later a h =
    each_cons (λ c. m < c) (committed now) (filter_map committed later)
    (if_some_keeps (committed now) (λ c. Each (λ i. i < c) (all_reads (now ∷ earlier))) (λ c. m < c)
    (λ c k. a (λ i. i < c) (each_left (λ i. i < c) (reads_in now.reply) (all_reads earlier) k).0) h.0.commit)
    (later_over last m (now ∷ earlier) later (λ P k. a P (each_left P (reads_in now.reply) (all_reads earlier) k).0) h.1)

pub none_equal : (n : ℕ) (xs : List ℕ) → Each (λ c. n < c) xs → list_any (λ m. m == n) xs ≡ false
none_equal n [] h = refl
none_equal n (x ∷ xs) h = ap (λ b. b || list_any (λ m. m == n) xs) (over x n h.0) ∙ none_equal n xs h.1
  where
    over : (m i : ℕ) → i < m → (m == i) ≡ false
    over m i k = grind (arith, nat_tests)

pub any_below : (n : ℕ) (xs : List ℕ) → list_any (λ m. m == n) xs ≡ true → n ≤ greatest xs
any_below n [] e = absurd (true_false (sym e))
any_below n (x ∷ xs) e = cases (x == n) (λ q. max_has n x (greatest xs) ((Decides-eqb x n).0 q))
    (λ q. max_keeps n x (greatest xs) (any_below n xs (sym (ap (λ b. b || list_any (λ m. m == n) xs) q) ∙ e)))

pub any_from_onto : {X : Type 0} (p : X → Bool) (xs es : List X) → list_any p xs ≡ true → list_any p (onto xs es) ≡ true
any_from_onto p [] es e = absurd (true_false (sym e))
any_from_onto p (x ∷ xs) es e = cases (p x)
    (λ q. any_to_onto p xs (x ∷ es) (or_left (p x) (list_any p es) q))
    (λ q. any_from_onto p xs (x ∷ es) (sym (ap (λ b. b || list_any p xs) q) ∙ e))

-- ---- each number up to the last is printed

pub picked_any : (n j : ℕ) (ps : List (ℕ × Commit)) → (filter_map (pick n j) ps ≡ [] → ⊥) → list_any (λ m. m == n) (map (λ p. p.0) ps) ≡ true
picked_any n j [] f = absurd (f refl)
picked_any n j (p ∷ ps) f = cases (p.0 == n)
    (λ e. or_left (p.0 == n) (list_any (λ m. m == n) (map (λ q. q.0) ps)) e)
    (λ e. or_right (p.0 == n) (list_any (λ m. m == n) (map (λ q. q.0) ps)) (picked_any n j ps (λ k. f (ap (λ o. cons_option o (filter_map (pick n j) ps)) (pick_other n j p e) ∙ k))))

-- every number up to the mark is printed, of lines newest first
abbrev pub AllPrinted : ℕ → List Said → Type 0
AllPrinted mark back = (n : ℕ) → 1 ≤ n → n ≤ mark → list_any (λ m. m == n) (filter_map committed back) ≡ true

pub all_printed : (h : History) (all : List Said) → IsHistory h → Matches h (commits all) → AllPrinted (length h) (onto all [])
all_printed h all i m zero a b = absurd (omega (arith, a))
all_printed h all i m (suc n) a b =
    let number : 1 + n ≡ suc n = omega arith in
    let at : 0 < length (group_at h (suc n)) = subst (λ k. 0 < length (group_at h k)) number (group_some 1 h n i (omega (arith, b))) in
    let some : list_any (λ k. k == suc n) (map (λ p. p.0) (commits all)) ≡ true = first_picked (group_at h (suc n)) at
    (list_any (λ k. k == suc n) (map (λ p. p.0) (commits all)) ≡ true) (λ j f. picked_any (suc n) j (commits all) (λ e. f (sym (m (suc n) j) ∙ e))) in
    ap (list_any (λ k. k == suc n)) (picked_onto committed all []) ∙
    any_from_onto (λ k. k == suc n) (filter_map committed all) [] (sym (ap (list_any (λ k. k == suc n)) (commits_numbers [] all)) ∙ some)

pub printed_before : (mark n : ℕ) (earlier rest : List Said) → AllPrinted mark (onto rest earlier) → 1 ≤ n → n ≤ mark → Each (λ c. n < c) (filter_map committed rest) →
    list_any (λ m. m == n) (filter_map committed earlier) ≡ true
printed_before mark n earlier rest w a b over = go (any_onto (λ m. m == n) (filter_map committed rest) (filter_map committed earlier)
    (sym (ap (list_any (λ m. m == n)) (picked_onto committed rest earlier)) ∙ w n a b))
  where
    go : (list_any (λ m. m == n) (filter_map committed rest) ≡ true) ⊎ (list_any (λ m. m == n) (filter_map committed earlier) ≡ true) → list_any (λ m. m == n) (filter_map committed earlier) ≡ true
    go (inl e) = absurd (true_false (sym e ∙ none_equal n (filter_map committed rest) over))
    go (inr e) = e

-- a number that is at least all printed before, and below all printed later, is the greatest before
pub is_greatest : (mark n : ℕ) (earlier rest : List Said) → AllPrinted mark (onto rest earlier) → n ≤ mark → Each (λ c. c ≤ n) (filter_map committed earlier) →
    Each (λ c. n < c) (filter_map committed rest) → n ≡ greatest_commit earlier
is_greatest mark zero earlier rest w b since over = equal_both zero (greatest_commit earlier) (omega arith) (greatest_within zero (filter_map committed earlier) since)
is_greatest mark (suc n) earlier rest w b since over =
    equal_both (suc n) (greatest_commit earlier) (any_below (suc n) (filter_map committed earlier) (printed_before mark (suc n) earlier rest w (omega arith) b over))
    (greatest_within (suc n) (filter_map committed earlier) since)
