-- Every row that a history shows was put.
use Rattle.std.proofs.Common.{◌≡◌, ℕ, suc, List, [], ◌∷◌, Bool, true, false, Option, Some, None, refl, sym, subst, arith}
use Rattle.std.specs.Prelude.{cond, filter, map, nat_le, nat_lt, Contains, IfSome, option_map, ◌==◌}
use Rattle.std.specs.List.{filter_map}
use Rattle.std.specs.Option.{option_or}
use Rattle.hg_base.specs.declared.rid.Rid.{Rid}
use Rattle.hg_base.specs.declared.image.Image.{Image}
use Rattle.hg_base.specs.declared.statement.Statement.{Statement}
use Rattle.hg_base.specs.declared.statement.Statement.TheVariants.{Put, Del}
use Rattle.hg_base.specs.declared.statement.Record.{Record}
use Rattle.hg_base.specs.declared.line.Answer.{Answer}
use Rattle.hg_base.specs.declared.line.Answer.TheVariants.{Begun, Stored, Found, Nothing, Gone, Rows, Committed, Ended, Undone, Newer, OpenBy, Undeclared, Swept, Beside}
use Rattle.hg_base.specs.declared.line.Line.{Line}
use Rattle.hg_base.specs.declared.value.Value.{Value}
use Rattle.hg_base.specs.Lists.{Each}
use Rattle.hg_base.specs.Script.{Mode, Script}
use Rattle.hg_base.specs.History.{Write, Commit, Group, History, same_rid, image_in, group_image, writes_from, writes, last_image, visible}
use Rattle.hg_base.specs.Transcript.{Said, said, said_from, last_of, is_of, stored, stored_by, stored_in, committed, last_images, commit_by}
use Rattle.hg_base.specs.Transcript.{commits_from, commits, put_by_session, group_of, history_of, in_order}
use Rattle.hg_base.specs.Sound.{all_said}
use Rattle.hg_base.proofs.ListFacts.{each_keeps}
use Rattle.hg_base.proofs.HistoryFacts.{same_rid_equal}
use Rattle.hg_headline.proofs.Words.{each_cons}
use Rattle.hg_headline.proofs.Same.{each_filter}
use Rattle.hg_headline.proofs.Whole.{said_says}
use Rattle.hg_exact.specs.Rows.{AsksRow}
use Rattle.hg_exact.proofs.InOrder.{each_in_order}

-- ---- lists

each_picked : {X Y : Type 0} (Q : Y → Type 0) (f : X → Option Y) (xs : List X) → Each (λ x. IfSome (f x) Q) xs → Each Q (filter_map f xs)
each_picked Q f [] e = tt
each_picked Q f (x ∷ xs) e = each_cons Q (f x) (filter_map f xs) e.0 (each_picked Q f xs e.1)

each_mapped : {X Y : Type 0} (Q : Y → Type 0) (f : X → Y) (xs : List X) → ((x : X) → Q (f x)) → Each Q (map f xs)
each_mapped Q f [] h = tt
each_mapped Q f (x ∷ xs) h = (h x, each_mapped Q f xs h)

some_mapped : {X Y : Type 0} (Q : Y → Type 0) (f : X → Y) (o : Option X) → ((x : X) → Q (f x)) → IfSome (option_map f o) Q
some_mapped Q f None h = tt
some_mapped Q f (Some x) h = h x

some_kept : {X Y : Type 0} (P : X → Type 0) (Q : Y → Type 0) (f : X → Y) (o : Option X) → ((x : X) → P x → Q (f x)) → IfSome o P → IfSome (option_map f o) Q
some_kept P Q f None h s = tt
some_kept P Q f (Some x) h s = h x s

-- ---- images and writes

abbrev pub Holds : (Rid → List Value → Type 0) → Rid → Image → Type 0
Holds P r image = IfSome image.row (P r)

abbrev pub IsOne : (Rid → List Value → Type 0) → Write → Type 0
IsOne P w = IfSome w.image.row (P w.rid)

pub one_in : (P : Rid → List Value → Type 0) (r : Rid) (ws : List Write) → Each (IsOne P) ws → IfSome (image_in r ws) (Holds P r)
one_in P r [] e = tt
one_in P r (w ∷ ws) e = go (same_rid w.rid r) refl (one_in P r ws e.1)
  where
    go : (b : Bool) → same_rid w.rid r ≡ b → IfSome (image_in r ws) (Holds P r) → IfSome (cond b (Some w.image) (image_in r ws)) (Holds P r)
    go true is later = subst (λ q. IfSome w.image.row (P q)) (same_rid_equal w.rid r is) e.0
    go false is later = later

one_of_group : (P : Rid → List Value → Type 0) (r : Rid) (group : Group) → Each (λ c. Each (IsOne P) c.images) group → IfSome (group_image r group) (Holds P r)
one_of_group P r [] e = tt
one_of_group P r (c ∷ cs) e = go (image_in r c.images) (one_in P r c.images e.0) (one_of_group P r cs e.1)
  where
    go : (o : Option Image) → IfSome o (Holds P r) → IfSome (group_image r cs) (Holds P r) → IfSome (option_or o (group_image r cs)) (Holds P r)
    go None h later = later
    go (Some image) h later = h

one_written : (P : Rid → List Value → Type 0) (r : Rid) (n : ℕ) (h : History) → Each (Each (λ c. Each (IsOne P) c.images)) h → Each (λ w. Holds P r w.1) (writes_from n h r)
one_written P r n [] e = tt
one_written P r n (g ∷ gs) e =
    each_cons (λ (w : ℕ × Image). Holds P r w.1) (option_map (λ image. (n, image)) (group_image r g)) (writes_from (suc n) gs r)
    (some_kept (Holds P r) (λ (w : ℕ × Image). Holds P r w.1) (λ image. (n, image)) (group_image r g) (λ image h. h) (one_of_group P r g e.0))
    (one_written P r (suc n) gs e.1)

one_last : (P : Rid → List Value → Type 0) (r : Rid) (ws : List (ℕ × Image)) → Each (λ w. Holds P r w.1) ws → Holds P r (last_image ws)
one_last P r [] e = tt
one_last P r (w ∷ []) e = e.0
one_last P r (w ∷ v ∷ more) e = one_last P r (v ∷ more) e.1

pub one_visible : (P : Rid → List Value → Type 0) (h : History) (at : ℕ) (r : Rid) → Each (Each (λ c. Each (IsOne P) c.images)) h → Holds P r (visible h r at)
one_visible P h at r history = one_last P r (filter (λ w. nat_le w.0 at) (writes h r)) (each_filter (λ (w : ℕ × Image). Holds P r w.1) (λ w. nat_le w.0 at) (writes h r) (one_written P r 1 h history))

-- ---- what is stored

one_stored : (P : Rid → List Value → Type 0) (s : Statement) (a : Answer) → AsksRow P s → IfSome (stored_by s a) (IsOne P)
one_stored P (Put r row) Stored p = p
one_stored P (Put r row) (Begun s) p = tt
one_stored P (Put r row) (Found x) p = tt
one_stored P (Put r row) Nothing p = tt
one_stored P (Put r row) Gone p = tt
one_stored P (Put r row) (Rows x) p = tt
one_stored P (Put r row) (Committed c) p = tt
one_stored P (Put r row) Ended p = tt
one_stored P (Put r row) Undone p = tt
one_stored P (Put r row) (Newer c) p = tt
one_stored P (Put r row) (OpenBy w) p = tt
one_stored P (Put r row) (Undeclared t) p = tt
one_stored P (Put r row) (Swept s) p = tt
one_stored P (Put r row) Beside p = tt
one_stored P (Del r) Stored p = tt
one_stored P (Del r) (Begun s) p = tt
one_stored P (Del r) (Found x) p = tt
one_stored P (Del r) Nothing p = tt
one_stored P (Del r) Gone p = tt
one_stored P (Del r) (Rows x) p = tt
one_stored P (Del r) (Committed c) p = tt
one_stored P (Del r) Ended p = tt
one_stored P (Del r) Undone p = tt
one_stored P (Del r) (Newer c) p = tt
one_stored P (Del r) (OpenBy w) p = tt
one_stored P (Del r) (Undeclared t) p = tt
one_stored P (Del r) (Swept s) p = tt
one_stored P (Del r) Beside p = tt
one_stored P _ a p = tt

pub one_own : (P : Rid → List Value → Type 0) (j x : ℕ) (list : List Said) → Each (λ now. AsksRow P now.statement) list → Each (IsOne P) (stored_in j x list)
one_own P j x list e =
    each_picked (IsOne P) stored (filter (is_of j x) list) (each_keeps (λ now. AsksRow P now.statement) (λ now. IfSome (stored now) (IsOne P))
    (λ now p. one_stored P now.statement now.reply.answer p) (filter (is_of j x) list) (each_filter (λ now. AsksRow P now.statement) (is_of j x) list e))

one_last_images : (Q : Write → Type 0) (ws : List Write) → Each Q ws → Each Q (last_images ws)
one_last_images Q [] e = tt
one_last_images Q (w ∷ ws) e = (e.0, each_filter Q _ (last_images ws) (one_last_images Q ws e.1))

one_commits : (P : Rid → List Value → Type 0) (earlier all : List Said) → Each (λ now. AsksRow P now.statement) earlier → Each (λ now. AsksRow P now.statement) all →
    Each (λ p. Each (IsOne P) p.1.images) (commits_from earlier all)
one_commits P earlier [] before e = tt
one_commits P earlier (now ∷ later) before e =
    each_cons (λ (p : ℕ × Commit). Each (IsOne P) p.1.images) (option_map (λ c. (c, commit_by earlier now)) (committed now)) (commits_from (now ∷ earlier) later)
    (some_mapped (λ (p : ℕ × Commit). Each (IsOne P) p.1.images) (λ (c : ℕ). (c, commit_by earlier now)) (committed now)
    (λ c. one_last_images (IsOne P) _ (one_own P now.session now.transaction (now ∷ earlier) (e.0, before))))
    (one_commits P (now ∷ earlier) later (e.0, before) e.1)

one_put : (Q : Commit → Type 0) (c : Commit) (group : Group) → Q c → Each Q group → Each Q (put_by_session c group)
one_put Q c [] q e = (q, tt)
one_put Q c (d ∷ ds) q e = go (nat_lt d.session c.session) (one_put Q c ds q e.1)
  where
    go : (b : Bool) → Each Q (put_by_session c ds) → Each Q (cond b (d ∷ put_by_session c ds) (c ∷ d ∷ ds))
    go true later = (e.0, later)
    go false later = (q, e)

one_group : (Q : Commit → Type 0) (ps : List (ℕ × Commit)) (n : ℕ) → Each (λ p. Q p.1) ps → Each Q (group_of ps n)
one_group Q [] n e = tt
one_group Q (p ∷ ps) n e = go (p.0 == n) (one_group Q ps n e.1)
  where
    go : (b : Bool) → Each Q (group_of ps n) → Each Q (cond b (put_by_session p.1 (group_of ps n)) (group_of ps n))
    go true later = one_put Q p.1 (group_of ps n) e.0 later
    go false later = later

pub one_history : (P : Rid → List Value → Type 0) (all : List Said) → Each (λ now. AsksRow P now.statement) all → Each (Each (λ c. Each (IsOne P) c.images)) (history_of all)
one_history P all e = each_mapped (Each (λ (c : Commit). Each (IsOne P) c.images)) (group_of (commits all)) _
    (λ n. one_group (λ (c : Commit). Each (IsOne P) c.images) (commits all) n (one_commits P [] all tt e))

-- ---- the lines beside their records

pub all_ask : (P : Rid → List Value → Type 0) (earlier : List Said) (rs : List Record) (lines : List Line) → Each (λ r. AsksRow P r.statement) rs →
    Each (λ now. AsksRow P now.statement) (said_from earlier rs lines)
all_ask P earlier [] lines e = tt
all_ask P earlier (r ∷ rs) [] e = tt
all_ask P earlier (r ∷ rs) (line ∷ lines) e = (
  subst (AsksRow P) (sym (said_says (last_of r.session earlier) r line.reply r.statement).1) e.0,
  all_ask P (said earlier r line.reply ∷ earlier) rs lines e.1,
)

-- ---- a row that is shown

abbrev WasPut : List Statement → Rid → List Value → Type 0
WasPut all r row = Contains all (Put r row)

puts_itself : (all : List Statement) (s : Statement) → Contains all s → AsksRow (WasPut all) s
puts_itself all (Put r row) k = k
puts_itself all _ k = tt

all_put : (all : List Statement) (rs : List Record) → ((s : Statement) → Contains (map (λ (r : Record). r.statement) rs) s → Contains all s) → Each (λ r. AsksRow (WasPut all) r.statement) rs
all_put all [] h = tt
all_put all (r ∷ rs) h = (
  puts_itself all r.statement (h r.statement (0, omega arith, refl)),
  all_put all rs (λ s k. h s (suc k.0, (let less = k.1 in omega (arith, less)), k.2)),
)

pub shown_was_put : (mode : Mode) (script : Script) (lines : List Line) (r : Rid) (at : ℕ) (row : List Value) → (visible (history_of (all_said mode script lines)) r at).row ≡ Some row →
    Contains (map (λ q. q.statement) script.records) (Put r row)
shown_was_put mode script lines r at row shown =
    let all : List Statement = map (λ (r : Record). r.statement) script.records in
    let asks = all_ask (WasPut all) [] (in_order mode script.records) lines
    (each_in_order (λ r. AsksRow (WasPut all) r.statement) mode script.records (all_put all script.records (λ s k. k)) (λ kind m k. tt)) in
    subst (λ o. IfSome o (WasPut all r)) shown (one_visible (WasPut all) (history_of (all_said mode script lines)) at r (one_history (WasPut all) (all_said mode script lines) asks))
