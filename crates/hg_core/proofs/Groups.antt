-- The commits of each group are those that the logs have with its number, also after a group more.
use Rattle.std.proofs.Common.{◌≡◌, ℕ, suc, ◌+◌, ◌<◌, ◌≤◌, List, [], ◌∷◌, ◌++◌, length, Bool, true, false, refl, sym, ap, ◌∙◌, subst, arith}
use Rattle.std.specs.Prelude.{◌==◌, ◌||◌, cond, if◌then◌else◌}
use Rattle.std.proofs.lemmas.Bool.Decides.{Decides-eqb, nat_tests}
use Rattle.hg_base.specs.declared.line.Answer.{Answer}
use Rattle.hg_base.specs.declared.line.Answer.TheVariants.{Newer}
use Rattle.hg_base.specs.History.{Group, History, NoNumberTwice, group_from, group_at}
use Rattle.hg_base.proofs.ListFacts.{cases, append_nil}
use Rattle.hg_core.specs.declared.log.LogEntry.{LogEntry}
use Rattle.hg_core.specs.declared.log.LogEntry.TheVariants.{Began, Saw, Refused, Outside, Wrote, Undid, Published, Over}
use Rattle.hg_core.specs.Logs.{commit_in, published, new_group, is_in, published_logs, AnswerUpTo, UpTo}
use Rattle.hg_core.specs.Judged.{of_session}

-- ---- numbers of a log

answer_wider : (n m : ℕ) (answer : Answer) → n ≤ m → AnswerUpTo n answer → AnswerUpTo m answer
answer_wider n m (Newer c) k u = omega (arith, k, u)
answer_wider n m _ k u = tt

more : (i n m : ℕ) → n ≤ m → i ≤ n → i ≤ m
more i n m p q = omega (arith, p, q)

-- what is at or below a number is at or below a greater one
pub wider : (n m : ℕ) (log : List LogEntry) → n ≤ m → UpTo n log → UpTo m log
wider n m [] k u = tt
wider n m (Began at scope ∷ log) k u = (more at n m k u.0, wider n m log k u.1)
wider n m (Published c ∷ log) k u = (more c n m k u.0, wider n m log k u.1)
wider n m (Refused r answer ∷ log) k u = (answer_wider n m answer k u.0, wider n m log k u.1)
wider n m (Saw t low high b rows ∷ log) k u = wider n m log k u
wider n m (Outside t ∷ log) k u = wider n m log k u
wider n m (Wrote r image ∷ log) k u = wider n m log k u
wider n m (Undid r ∷ log) k u = wider n m log k u
wider n m (Over ∷ log) k u = wider n m log k u

over_not : (m n : ℕ) → m < n → (m == n) ≡ false
over_not m n h = grind (arith, nat_tests)

turned : (a b : ℕ) → (a == b) ≡ false → (b == a) ≡ false
turned a b q = grind (arith, nat_tests)

same_number : (n : ℕ) → (n == n) ≡ true
same_number n = grind (arith, nat_tests)

below : (k top n : ℕ) → k ≤ top → top < n → k < n
below k top n p q = omega (arith, p, q)

-- a log has no commit with a number over all of its numbers
published_none : (top n j : ℕ) (log : List LogEntry) → UpTo top log → top < n → published n j log ≡ []
published_none top n j [] u h = refl
published_none top n j (Published m ∷ log) u h =
    let less : m < n = below m top n u.0 h in
    (λ i. published_none top n j log u.1 h i ++ (if over_not m n less i then commit_in j log ∷ [] else []))
published_none top n j (Began at scope ∷ log) u h = published_none top n j log u.1 h
published_none top n j (Refused r answer ∷ log) u h = published_none top n j log u.1 h
published_none top n j (Saw t low high b rows ∷ log) u h = published_none top n j log u h
published_none top n j (Outside t ∷ log) u h = published_none top n j log u h
published_none top n j (Wrote r image ∷ log) u h = published_none top n j log u h
published_none top n j (Undid r ∷ log) u h = published_none top n j log u h
published_none top n j (Over ∷ log) u h = published_none top n j log u h

-- ---- a group more

pub length_more : (h : History) (g : Group) → length (h ++ g ∷ []) ≡ suc (length h)
length_more [] g = refl
length_more (f ∷ fs) g = ap suc (length_more fs g)

pub group_new : (first : ℕ) (h : History) (g : Group) → group_from first (h ++ g ∷ []) (first + length h) ≡ g
group_new first [] g = let e : (first == first + 0) ≡ true = grind (arith, nat_tests) in ap (λ b. if b then g else []) e
group_new first (f ∷ fs) g =
    let e : (first == first + suc (length fs)) ≡ false = grind (arith, nat_tests) in
    let n : first + suc (length fs) ≡ suc first + length fs = omega arith in
    ap (λ b. if b then f else group_from (suc first) (fs ++ g ∷ []) (first + suc (length fs))) e
    ∙ ap (group_from (suc first) (fs ++ g ∷ [])) n
    ∙ group_new (suc first) fs g

pub group_old : (first : ℕ) (h : History) (g : Group) (n : ℕ) → (n == first + length h) ≡ false → group_from first (h ++ g ∷ []) n ≡ group_from first h n
group_old first [] g n e = let k : (first == n) ≡ false = grind (arith, nat_tests) in ap (λ b. if b then g else []) k
group_old first (f ∷ fs) g n e =
    let k : (n == suc first + length fs) ≡ false = grind (arith, nat_tests) in
    ap (λ groups. if first == n then f else groups) (group_old (suc first) fs g n k)

no_session : (log : ℕ → List LogEntry) (js : List ℕ) (j : ℕ) → is_in js j ≡ false → of_session j (new_group log js) ≡ []
no_session log [] j e = refl
no_session log (i ∷ js) j e =
    let first : (i == j) ≡ false = left (i == j) (is_in js j) e in
    ap (λ b. cond b (commit_in i (log i) ∷ of_session j (new_group log js)) (of_session j (new_group log js))) first
    ∙ no_session log js j (right (i == j) (is_in js j) e)
  where
    left : (a b : Bool) → (a || b) ≡ false → a ≡ false
    left true b q = q
    left false b q = refl

    right : (a b : Bool) → (a || b) ≡ false → b ≡ false
    right true b q = cc
    right false b q = q

one_session : (log : ℕ → List LogEntry) (js : List ℕ) (j : ℕ) → NoNumberTwice js → of_session j (new_group log js) ≡ (if is_in js j then commit_in j (log j) ∷ [] else [])
one_session log [] j t = refl
one_session log (i ∷ js) j t = cases (i == j)
    (λ e.
    let same : i ≡ j = (Decides-eqb i j).0 e in
    ap (λ b. cond b (commit_in i (log i) ∷ of_session j (new_group log js)) (of_session j (new_group log js))) e
    ∙ ap (λ xs. commit_in i (log i) ∷ xs) (no_session log js j (subst (λ k. is_in js k ≡ false) same t.0))
    ∙ ap (λ k. commit_in k (log k) ∷ []) same
    ∙ sym (ap (λ b. if b || is_in js j then commit_in j (log j) ∷ [] else []) e))
    (λ e.
    ap (λ b. cond b (commit_in i (log i) ∷ of_session j (new_group log js)) (of_session j (new_group log js))) e
    ∙ one_session log js j t.1
    ∙ sym (ap (λ b. if b || is_in js j then commit_in j (log j) ∷ [] else []) e))

-- the commits of each group are those of the logs
abbrev pub HasCommits : History → (ℕ → List LogEntry) → Type 0
HasCommits h log = (n j : ℕ) → of_session j (group_at h n) ≡ published n j (log j)

pub commits_kept : (h : History) (log : ℕ → List LogEntry) (js : List ℕ) → HasCommits h log → ((j : ℕ) → UpTo (length h) (log j)) → NoNumberTwice js →
    HasCommits (h ++ new_group log js ∷ []) (published_logs log js (suc (length h)))
commits_kept h log js commits told distinct n j = cases (n == 1 + length h)
    (λ e.
    let same : suc (length h) ≡ n = let k : n ≡ 1 + length h = (Decides-eqb n (1 + length h)).0 e in omega arith in
    let number : 1 + length h ≡ n = omega arith in
    ap (of_session j) (subst (λ m. group_at (h ++ new_group log js ∷ []) m ≡ new_group log js) number (group_new 1 h (new_group log js))) ∙ one_session log js j distinct ∙
    subst (λ m. (if is_in js j then commit_in j (log j) ∷ [] else []) ≡ published m j (published_logs log js (suc (length h)) j)) same (new_one (is_in js j)))
    (λ e. ap (of_session j) (group_old 1 h (new_group log js) n e) ∙ commits n j ∙ old_one (is_in js j) (let k : (n == suc (length h)) ≡ false = grind (arith, nat_tests) in k))
  where
    nothing_yet : published (suc (length h)) j (log j) ≡ []
    nothing_yet = published_none (length h) (suc (length h)) j (log j) (told j) (omega arith)

    new_one : (b : Bool) → (if b then commit_in j (log j) ∷ [] else []) ≡ published (suc (length h)) j (if b then Published (suc (length h)) ∷ log j else log j)
    new_one true = sym ((λ i. nothing_yet i ++ (if same_number (suc (length h)) i then commit_in j (log j) ∷ [] else [])))
    new_one false = sym nothing_yet

    old_one : (b : Bool) → (n == suc (length h)) ≡ false → published n j (log j) ≡ published n j (if b then Published (suc (length h)) ∷ log j else log j)
    old_one true e = sym (ap (λ c. published n j (log j) ++ (if c then commit_in j (log j) ∷ [] else [])) (turned n (suc (length h)) e) ∙ append_nil (published n j (log j)))
    old_one false e = refl
