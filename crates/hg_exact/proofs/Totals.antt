-- What the totals count is the same in lines that differ in what their reports say was removed and moved.
use Rattle.std.proofs.Common.{◌≡◌, ℕ, suc, List, [], ◌∷◌, length, map, Bool, true, false, Option, Some, None, refl, sym, ap, ◌∙◌}
use Rattle.std.specs.Prelude.{◌==◌, ◌&&◌, ◌||◌, cond, filter, filter_map, is_none, is_some, not, option_map, if◌then◌else◌, nat_lt}
use Rattle.std.specs.List.{cons_option, list_any}
use Rattle.std.specs.Option.{option_map_or}
use Rattle.hg_base.specs.declared.statement.Record.{Record}
use Rattle.hg_base.specs.declared.statement.Statement.{Statement}
use Rattle.hg_base.specs.declared.statement.Statement.TheVariants.{Begin, Put, Del, CursorOpen, Commit as CommitIt, Gc}
use Rattle.hg_base.specs.declared.line.Answer.{Answer}
use Rattle.hg_base.specs.declared.line.Answer.TheVariants.{Swept}
use Rattle.hg_base.specs.declared.line.Line.{Line}
use Rattle.hg_base.specs.declared.line.Totals.{Totals}
use Rattle.hg_base.specs.declared.line.Reply.{Reply}
use Rattle.hg_base.specs.Lists.{greatest, numbers_from}
use Rattle.hg_base.specs.History.{Write, image_in}
use Rattle.hg_base.specs.Counts.{AreTotals, first_writes_from, is_committed, live}
use Rattle.hg_base.specs.Script.{Script, replay}
use Rattle.hg_base.specs.Sound.{all_said}
use Rattle.hg_base.specs.Transcript.{Said, begun, commit_by, commits_from, committed, committed_by, ends, group_of, history_of, is_of, last_images, last_of, next_after, only, open_after}
use Rattle.hg_base.specs.Transcript.{said, said_after, said_from, standing, stored, stored_by, stored_in}
use Rattle.hg_exact.specs.Replayed.{plain, plain_answer, plain_reply, replayed}
use Rattle.hg_exact.specs.SoFar.{is_rollback, is_rolled_back, made_so_far, totals_so_far, undone_so_far}

-- a line, read beside its record, without what its report says was removed and moved
abbrev pub plain_said : Said → Said
plain_said s = record { session = s.session; place = s.place; transaction = s.transaction; at = s.at; scope = s.scope; alone = s.alone; statement = s.statement; reply = plain_reply s.reply }

-- ---- one line

stored_plain : (s : Said) → stored (plain_said s) ≡ stored s
stored_plain s = go s.statement s.reply.answer
  where
    go : (st : Statement) (a : Answer) → stored_by st (plain_answer a) ≡ stored_by st a
    go (Put r row) (Swept sweep) = refl
    go (Put r row) _ = refl
    go (Del r) (Swept sweep) = refl
    go (Del r) _ = refl
    go _ a = refl

committed_plain : (s : Said) → committed (plain_said s) ≡ committed s
committed_plain s = ap (λ o. if s.alone then s.reply.number else o) (go s.statement s.reply.answer)
  where
    go : (st : Statement) (a : Answer) → committed_by st (plain_answer a) ≡ committed_by st a
    go CommitIt (Swept sweep) = refl
    go CommitIt _ = refl
    go _ a = refl

begun_plain : (reply : Reply) → begun (plain_reply reply) ≡ begun reply
begun_plain reply = go reply.answer
  where
    go : (a : Answer) → begun (record { at = None; answer = plain_answer a; number = None }) ≡ begun (record { at = None; answer = a; number = None })
    go (Swept sweep) = refl
    go _ = refl

-- ---- lists of lines

module _ {X : Type 0} (f : X → X) where
  filter_same : (p : X → Bool) → ((x : X) → p (f x) ≡ p x) → (xs : List X) → filter p (map f xs) ≡ map f (filter p xs)
  filter_same p e [] = refl
  filter_same p e (x ∷ xs) = ap (λ b. cond b (f x ∷ filter p (map f xs)) (filter p (map f xs))) (e x) ∙ go (p x) (filter_same p e xs)
    where
      go : (b : Bool) → filter p (map f xs) ≡ map f (filter p xs) → cond b (f x ∷ filter p (map f xs)) (filter p (map f xs)) ≡ map f (cond b (x ∷ filter p xs) (filter p xs))
      go true q = ap (λ l. f x ∷ l) q
      go false q = q

  picked_same : {Y : Type 0} (g : X → Option Y) → ((x : X) → g (f x) ≡ g x) → (xs : List X) → filter_map g (map f xs) ≡ filter_map g xs
  picked_same g e [] = refl
  picked_same g e (x ∷ xs) = λ i. cons_option (e x i) (picked_same g e xs i)

  any_same : (p : X → Bool) → ((x : X) → p (f x) ≡ p x) → (xs : List X) → list_any p (map f xs) ≡ list_any p xs
  any_same p e [] = refl
  any_same p e (x ∷ xs) = λ i. e x i || any_same p e xs i

stored_in_plain : (j x : ℕ) (xs : List Said) → stored_in j x (map plain_said xs) ≡ stored_in j x xs
stored_in_plain j x xs = ap (filter_map stored) (filter_same plain_said (is_of j x) (λ s. refl) xs) ∙ picked_same plain_said stored stored_plain (filter (is_of j x) xs)

commits_plain : (earlier xs : List Said) → commits_from (map plain_said earlier) (map plain_said xs) ≡ commits_from earlier xs
commits_plain earlier [] = refl
commits_plain earlier (x ∷ xs) =
    let by : commit_by (map plain_said earlier) (plain_said x) ≡ commit_by earlier x =
    (λ i. record { session = x.session; transaction = x.transaction; at = x.at; images = last_images (stored_in_plain x.session x.transaction (x ∷ earlier) i) }) in
    λ i. cons_option (option_map (λ c. (c, by i)) (committed_plain x i)) (commits_plain (x ∷ earlier) xs i)

pub history_plain : (all : List Said) → history_of (map plain_said all) ≡ history_of all
history_plain all = λ i. map (group_of (commits_plain [] all i)) (numbers_from 1 (greatest (picked_same plain_said committed committed_plain all i)))

firsts_plain : (earlier xs : List Said) → first_writes_from (map plain_said earlier) (map plain_said xs) ≡ map plain_said (first_writes_from earlier xs)
firsts_plain earlier [] = refl
firsts_plain earlier (x ∷ xs) =
    let test : option_map_or (λ (w : Write). is_none (image_in w.rid (stored_in x.session x.transaction (map plain_said earlier)))) (stored (plain_said x)) false ≡ option_map_or
    (λ (w : Write). is_none (image_in w.rid (stored_in x.session x.transaction earlier))) (stored x) false =
    (λ i. option_map_or (λ (w : Write). is_none (image_in w.rid (stored_in_plain x.session x.transaction earlier i))) (stored_plain x i) false) in
    ap (λ b. cons_option (if b then Some (plain_said x) else None) (first_writes_from (map plain_said (x ∷ earlier)) (map plain_said xs))) test
    ∙ go (option_map_or (λ (w : Write). is_none (image_in w.rid (stored_in x.session x.transaction earlier))) (stored x) false) (firsts_plain (x ∷ earlier) xs)
  where
    go : (b : Bool) → first_writes_from (map plain_said (x ∷ earlier)) (map plain_said xs) ≡ map plain_said (first_writes_from (x ∷ earlier) xs)
        → cons_option (if b then Some (plain_said x) else None) (first_writes_from (map plain_said (x ∷ earlier)) (map plain_said xs)) ≡ map plain_said
        (cons_option (if b then Some x else None) (first_writes_from (x ∷ earlier) xs))
    go true q = ap (λ l. plain_said x ∷ l) q
    go false q = q

committed_among : (all : List Said) (s : Said) → is_committed (map plain_said all) (plain_said s) ≡ is_committed all s
committed_among all s =
    ap (list_any (λ (x : Said). is_some (committed x))) (filter_same plain_said (is_of s.session s.transaction) (λ x. refl) all)
    ∙ any_same plain_said (λ (x : Said). is_some (committed x)) (λ x. ap is_some (committed_plain x)) (filter (is_of s.session s.transaction) all)

-- as many of the lines are so, where each is so exactly if it is without what its report says was removed and moved
counted_plain : (p q : Said → Bool) → ((x : Said) → p (plain_said x) ≡ q x) → (xs : List Said) → length (filter p (map plain_said xs)) ≡ length (filter q xs)
counted_plain p q e [] = refl
counted_plain p q e (x ∷ xs) = ap (λ b. length (cond b (plain_said x ∷ filter p (map plain_said xs)) (filter p (map plain_said xs)))) (e x) ∙ go (q x) (counted_plain p q e xs)
  where
    go : (b : Bool) → length (filter p (map plain_said xs)) ≡ length (filter q xs) →
        length (cond b (plain_said x ∷ filter p (map plain_said xs)) (filter p (map plain_said xs))) ≡ length (cond b (x ∷ filter q xs) (filter q xs))
    go true h = ap suc h
    go false h = h

undone_plain : (all xs : List Said) → length (filter (λ s. not (is_committed (map plain_said all) s)) (map plain_said xs)) ≡ length (filter (λ s. not (is_committed all s)) xs)
undone_plain all xs = counted_plain (λ s. not (is_committed (map plain_said all) s)) (λ s. not (is_committed all s)) (λ s. ap not (committed_among all s)) xs

rolled_among : (all : List Said) (s : Said) → is_rolled_back (map plain_said all) (plain_said s) ≡ is_rolled_back all s
rolled_among all s =
    ap (list_any (λ (x : Said). is_rollback x.statement)) (filter_same plain_said (is_of s.session s.transaction) (λ x. refl) all)
    ∙ any_same plain_said (λ (x : Said). is_rollback x.statement) (λ x. refl) (filter (is_of s.session s.transaction) all)

rolled_plain : (all xs : List Said) → length (filter (is_rolled_back (map plain_said all)) (map plain_said xs)) ≡ length (filter (is_rolled_back all) xs)
rolled_plain all xs = counted_plain (is_rolled_back (map plain_said all)) (is_rolled_back all) (rolled_among all) xs

-- ---- beside the records

last_plain : (j : ℕ) (xs : List Said) → last_of j (map plain_said xs) ≡ option_map plain_said (last_of j xs)
last_plain j [] = refl
last_plain j (x ∷ xs) = go ((x.session == j) && nat_lt 0 x.transaction) (last_plain j xs)
  where
    go : (b : Bool) → last_of j (map plain_said xs) ≡ option_map plain_said (last_of j xs) → cond b (Some (plain_said x)) (last_of j (map plain_said xs)) ≡ option_map plain_said
        (cond b (Some x) (last_of j xs))
    go true q = refl
    go false q = q

stands_plain : (last : Option Said) (n : ℕ) (r : Record) (reply : Reply) → standing (open_after (option_map plain_said last)) (next_after (option_map plain_said last)) r
    (plain_reply reply) ≡ plain_said (standing (open_after last) (next_after last) r reply)
stands_plain None n r reply = refl
stands_plain (Some q) n r reply = go (ends q)
  where
    go : (b : Bool) → standing (if b then None else Some (plain_said q)) (suc q.transaction) r (plain_reply reply) ≡ plain_said (standing (if b then None else Some q) (suc q.transaction) r reply)
    go true = refl
    go false = refl

next_plain : (last : Option Said) → next_after (option_map plain_said last) ≡ next_after last
next_plain None = refl
next_plain (Some q) = refl

after_plain : (last : Option Said) (r : Record) (reply : Reply) (st : Statement) → said_after (option_map plain_said last) r (plain_reply reply) st ≡ plain_said (said_after last r reply st)
after_plain last r reply (Begin scope) = λ i. record {
  session = r.session;
  place = r.place;
  transaction = next_plain last i;
  at = begun_plain reply i;
  scope = scope;
  alone = false;
  statement = r.statement;
  reply = plain_reply reply;
}
after_plain last r reply (CursorOpen table low high) = λ i. record {
  session = r.session;
  place = r.place;
  transaction = next_plain last i;
  at = begun_plain reply i;
  scope = only (Some table);
  alone = false;
  statement = r.statement;
  reply = plain_reply reply;
}
after_plain last r reply (Gc kind) = refl
after_plain last r reply _ = stands_plain last 0 r reply

pub said_plain : (earlier : List Said) (rs : List Record) (lines : List Line) → said_from (map plain_said earlier) rs (map plain lines) ≡ map plain_said (said_from earlier rs lines)
said_plain earlier [] lines = refl
said_plain earlier (r ∷ rs) [] = refl
said_plain earlier (r ∷ rs) (line ∷ lines) =
    let now : Said = said earlier r line.reply in
    let here : said (map plain_said earlier) r (plain_reply line.reply) ≡ plain_said now = ap (λ o. said_after o r (plain_reply line.reply) r.statement)
    (last_plain r.session earlier) ∙ after_plain (last_of r.session earlier) r line.reply r.statement in
    ap (λ x. x ∷ said_from (x ∷ map plain_said earlier) rs (map plain lines)) here ∙ ap (λ l. plain_said now ∷ l) (said_plain (now ∷ earlier) rs lines)

as_many : (xs : List Said) → length (map plain_said xs) ≡ length xs
as_many [] = refl
as_many (x ∷ xs) = ap suc (as_many xs)

-- ---- the totals

pub totals_same : (script : Script) (xs ys : List Line) (t u : Totals) → map plain xs ≡ map plain ys →
    AreTotals (all_said replay script xs) (history_of (all_said replay script xs)) t → AreTotals (all_said replay script ys) (history_of (all_said replay script ys)) u →
    (t.made ≡ u.made) × (t.undone ≡ u.undone) × (t.left ≡ u.left)
totals_same script xs ys t u e a b = (
  a.made ∙ sym (made_of all) ∙ ap (λ l. length (first_writes_from [] l)) same ∙ made_of other ∙ sym b.made,
  a.undone ∙ sym (undone_of all) ∙ ap (λ l. length (filter (λ s. not (is_committed l s)) (first_writes_from [] l))) same ∙ undone_of other ∙ sym b.undone,
  a.left ∙ ap (λ h. length (live h)) (sym (history_plain all) ∙ ap history_of same ∙ history_plain other) ∙ sym b.left,
)
  where
    all : List Said
    all = said_from [] script.records xs

    other : List Said
    other = said_from [] script.records ys

    same : map plain_said (said_from [] script.records xs) ≡ map plain_said (said_from [] script.records ys)
    same = sym (said_plain [] script.records xs) ∙ ap (said_from [] script.records) e ∙ said_plain [] script.records ys

    made_of : (l : List Said) → length (first_writes_from [] (map plain_said l)) ≡ length (first_writes_from [] l)
    made_of l = ap length (firsts_plain [] l) ∙ as_many (first_writes_from [] l)

    undone_of : (l : List Said) → length (filter (λ s. not (is_committed (map plain_said l) s)) (first_writes_from [] (map plain_said l))) ≡ length
        (filter (λ s. not (is_committed l s)) (first_writes_from [] l))
    undone_of l = ap (λ f. length (filter (λ s. not (is_committed (map plain_said l) s)) f)) (firsts_plain [] l) ∙ undone_plain l (first_writes_from [] l)

-- ---- the totals so far

pub totals_replayed : (script : Script) (lines : List Line) → map plain lines ≡ replayed script →
    totals_so_far (all_said replay script lines) ≡ totals_so_far (all_said replay script (replayed script))
totals_replayed script lines e = λ i. record { made = made i; undone = undone i; group = 0; table = 0; interval = 0; left = 0 }
  where
    all : List Said
    all = said_from [] script.records lines

    same : map plain_said (said_from [] script.records lines) ≡ said_from [] script.records (replayed script)
    same = sym (said_plain [] script.records lines) ∙ ap (said_from [] script.records) e

    made : made_so_far (said_from [] script.records lines) ≡ made_so_far (said_from [] script.records (replayed script))
    made = sym (ap length (firsts_plain [] all) ∙ as_many (first_writes_from [] all)) ∙ ap made_so_far same

    undone : undone_so_far (said_from [] script.records lines) ≡ undone_so_far (said_from [] script.records (replayed script))
    undone = sym (ap (λ f. length (filter (is_rolled_back (map plain_said all)) f)) (firsts_plain [] all) ∙ rolled_plain all (first_writes_from [] all)) ∙ ap undone_so_far same
