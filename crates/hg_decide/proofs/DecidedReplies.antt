-- The replies are decided by computation. Kept in step with `Replies`.
use Rattle.std.proofs.Common.{◌≡◌, ℕ, suc, ◌≤◌, ◌⊎◌, inr, List, [], ◌∷◌, ◌++◌, length, map, Bool, true, false, Option, Some, None, refl, sym, ap, ◌∙◌, subst}
use Rattle.std.specs.Prelude.{◌==◌, filter, cond, IsTrue, IsFalse, is_some, ◌&&◌, ◌||◌, unwrap_or, option_map, nat_le}
use Rattle.std.specs.List.{list_any, flat_map, cons_option}
use Rattle.std.specs.Option.{option_or}
use Rattle.std.proofs.lemmas.Bool.Decides.{Decides-eqb}
use Rattle.std.proofs.lemmas.Bool.{or_parts}
use Rattle.hg_base.specs.declared.rid.Rid.{Rid}
use Rattle.hg_base.specs.declared.rid.TableId.{TableId}
use Rattle.hg_base.specs.declared.image.Image.{Image}
use Rattle.hg_base.specs.declared.scope.Scope.{Scope}
use Rattle.hg_base.specs.declared.statement.Statement.{Statement}
use Rattle.hg_base.specs.declared.statement.Statement.TheVariants.{Begin, Get, Put, Del, Scan, CursorOpen, Fetch, CursorClose, Commit as CommitIt, Rollback, Gc}
use Rattle.hg_base.specs.declared.line.Answer.{Answer}
use Rattle.hg_base.specs.declared.line.Answer.TheVariants.{Begun, Stored, Found, Nothing, Gone, Rows, Committed, Ended, Undone, Newer, OpenBy, Undeclared, Swept, Beside}
use Rattle.hg_base.specs.declared.value.Value.{Value}
use Rattle.hg_base.specs.Lists.{Each}
use Rattle.hg_base.specs.Script.{Mode, replay, run}
use Rattle.hg_base.specs.History.{Write, Group, History, image_in, group_image, rids_of, group_rids, writes_from, last_image, visible, seen, nothing}
use Rattle.hg_base.specs.Transcript.{Said, Rest, has, passed, rest_in, stored, own_writes}
use Rattle.hg_base.specs.Replies.{IsBegun, IsGot, IsPut, IsDeleted, AreRows, IsScanned, AreFirst, IsFetched, IsEnded, IsCommitted, IsUndone, IsSwept, IsBeside, IsCollected, IsUndeclared}
use Rattle.hg_base.specs.Replies.{WithinScope, IsAnswer, IsReply, is_written}
use Rattle.hg_base.proofs.ListFacts.{cases}
use Rattle.hg_decide.proofs.Decide.{Decided, decide_as, decide_true, decide_false, decide_bools, decide_equal, decide_at_most, decide_always, decide_never, decide_all3, decide_all4}
use Rattle.hg_decide.proofs.Decide.{decide_either, decide_implies, decide_match, decide_each, decide_ascends, decide_rows, decide_some, false_is_not_true}

abbrev pub decide_begun : (answer : Answer) → Decided (IsBegun answer)
decide_begun (Begun s) = decide_always
decide_begun _ = decide_never

abbrev pub decide_got : (image : Image) (answer : Answer) → Decided (IsGot image answer)
decide_got image (Found row) = decide_rows image.row (Some row)
decide_got image Nothing = decide_rows image.row None
decide_got image _ = decide_never

abbrev pub decide_put : (answer : Answer) → Decided (IsPut answer)
decide_put Stored = decide_always
decide_put (Newer c) = decide_always
decide_put (OpenBy writer) = decide_always
decide_put _ = decide_never

abbrev pub decide_deleted : (image : Image) (answer : Answer) → Decided (IsDeleted image answer)
decide_deleted image Nothing = decide_rows image.row None
decide_deleted image Gone = decide_some image.row
decide_deleted image (Newer c) = decide_some image.row
decide_deleted image (OpenBy writer) = decide_some image.row
decide_deleted image _ = decide_never

abbrev pub decide_committed : (wrote : Bool) (answer : Answer) → Decided (IsCommitted wrote answer)
decide_committed wrote (Committed c) = decide_true wrote
decide_committed wrote Ended = decide_false wrote
decide_committed wrote _ = decide_never

abbrev pub decide_undone : (answer : Answer) → Decided (IsUndone answer)
decide_undone Undone = decide_always
decide_undone _ = decide_never

abbrev pub decide_ended : (answer : Answer) → Decided (IsEnded answer)
decide_ended Ended = decide_always
decide_ended _ = decide_never

abbrev pub decide_swept : (answer : Answer) → Decided (IsSwept answer)
decide_swept (Swept sweep) = decide_always
decide_swept _ = decide_never

abbrev pub decide_beside : (answer : Answer) → Decided (IsBeside answer)
decide_beside Beside = decide_always
decide_beside _ = decide_never

abbrev pub decide_collected : (mode : Mode) (session : ℕ) (answer : Answer) → Decided (IsCollected mode session answer)
decide_collected replay session answer = decide_swept answer
decide_collected (run rounds) session answer = decide_match (session == 0) (decide_swept answer) (decide_beside answer)

abbrev pub decide_undeclared : (table : TableId) (answer : Answer) → Decided (IsUndeclared table answer)
decide_undeclared table (Undeclared other) = decide_equal other.0 table.0
decide_undeclared table _ = decide_never

abbrev pub decide_scope : (scope : Scope) (table : TableId) (answer : Answer) {Else : Type 0} → Decided Else → Decided (WithinScope scope table answer Else)
decide_scope scope table answer d = decide_match (has scope table) d (decide_undeclared table answer)

-- ---- scans: only keys that a commit or the transaction itself writes can be seen as a row

-- no record of the list has the key
abbrev pub NoneHas : ℕ → List Rid → Type 0
NoneHas key rids = IsFalse (list_any (λ r. r.key == key) rids)

pub and_none : (a b : Bool) → b ≡ false → (a && b) ≡ false
and_none true b e = e
and_none false b e = refl

pub none_left : (key : ℕ) (xs ys : List Rid) → NoneHas key (xs ++ ys) → NoneHas key xs
none_left key [] ys e = refl
none_left key (x ∷ xs) ys e = let h : (x.key == key) ≡ false = (or_parts (x.key == key) _ e).0 in rw h (none_left key xs ys (or_parts (x.key == key) _ e).1)

pub none_right : (key : ℕ) (xs ys : List Rid) → NoneHas key (xs ++ ys) → NoneHas key ys
none_right key [] ys e = e
none_right key (x ∷ xs) ys e = none_right key xs ys (or_parts (x.key == key) _ e).1

pub none_written : (r : Rid) (images : List Write) → NoneHas r.key (rids_of images) → image_in r images ≡ None
none_written r [] e = refl
none_written r (w ∷ ws) e =
    ap (λ b. cond b (Some w.image) (image_in r ws)) (and_none (w.rid.table.0 == r.table.0) (w.rid.key == r.key) (or_parts (w.rid.key == r.key) _ e).0)
    ∙ none_written r ws (or_parts (w.rid.key == r.key) _ e).1

pub none_in_group : (r : Rid) (group : Group) → NoneHas r.key (group_rids group) → group_image r group ≡ None
none_in_group r [] e = refl
none_in_group r (c ∷ cs) e =
    ap (λ o. option_or o (group_image r cs)) (none_written r c.images (none_left r.key (rids_of c.images) (group_rids cs) e))
    ∙ none_in_group r cs (none_right r.key (rids_of c.images) (group_rids cs) e)

pub none_from : (n : ℕ) (h : History) (r : Rid) → NoneHas r.key (flat_map group_rids h) → writes_from n h r ≡ []
none_from n [] r e = refl
none_from n (group ∷ groups) r e =
    ap (λ o. cons_option (option_map (λ image. (n, image)) o) (writes_from (suc n) groups r)) (none_in_group r group (none_left r.key (group_rids group) (flat_map group_rids groups) e))
    ∙ none_from (suc n) groups r (none_right r.key (group_rids group) (flat_map group_rids groups) e)

pub none_visible : (h : History) (r : Rid) (s : ℕ) → NoneHas r.key (flat_map group_rids h) → visible h r s ≡ nothing
none_visible h r s e = ap (λ ws. last_image (filter (λ w. nat_le w.0 s) ws)) (none_from 1 h r e)

-- every record that can be seen as a row is one of these
abbrev pub rids_to_see : History → List Write → List Rid
rids_to_see h own = rids_of own ++ flat_map group_rids h

pub none_seen : (h : History) (own : List Write) (at : ℕ) (r : Rid) → NoneHas r.key (rids_to_see h own) → (seen h own at r).row ≡ None
none_seen h own at r e =
    ap (λ o. (unwrap_or o (visible h r at)).row) (none_written r own (none_left r.key (rids_of own) (flat_map group_rids h) e))
    ∙ ap (λ (i : Image). i.row) (none_visible h r at (none_right r.key (rids_of own) (flat_map group_rids h) e))

pub each_has : (P : ℕ → Type 0) (rids : List Rid) (key : ℕ) → Each (λ r. P r.key) rids → list_any (λ r. r.key == key) rids ≡ true → P key
each_has P [] key h e = absurd (elim (false_is_not_true e) [ ])
each_has P (r ∷ rids) key h e = cases (r.key == key) (λ same. subst P ((Decides-eqb r.key key).0 same) h.0)
    (λ other. each_has P rids key h.1 (ap (λ b. b || list_any (λ q. q.key == key) rids) (sym other) ∙ e))

module _ (look : ℕ → Image) (low : ℕ) (high : ℕ) (rows : List (ℕ × List Value)) where
  -- a key of the range is among the rows, or not seen as one
  abbrev pub IsTold : ℕ → Type 0
  IsTold key = low ≤ key → key ≤ high → IsTrue (list_any (λ p. p.0 == key) rows) ⊎ ((look key).row ≡ None)

  pub told_outside : (rids : List Rid) → ((key : ℕ) → NoneHas key rids → (look key).row ≡ None) → Each (λ r. IsTold r.key) rids → (key : ℕ) → IsTold key
  told_outside rids outside h key = cases (list_any (λ r. r.key == key) rids) (each_has IsTold rids key h) (λ none _ _. inr (outside key none))

  pub told_each : (rids : List Rid) → ((key : ℕ) → IsTold key) → Each (λ r. IsTold r.key) rids
  told_each [] f = tt
  told_each (r ∷ rids) f = (f r.key, told_each rids f)

  abbrev pub decide_told : (key : ℕ) → Decided (IsTold key)
  decide_told key = decide_implies (decide_at_most low key) (decide_implies (decide_at_most key high) (decide_either (decide_true (list_any (λ p. p.0 == key) rows)) (decide_rows (look key).row None)))

  -- where every key that is seen as a row is one of `rids`
  abbrev pub decide_are_rows : (rids : List Rid) → ((key : ℕ) → NoneHas key rids → (look key).row ≡ None) → Decided (AreRows look low high rows)
  decide_are_rows rids outside = decide_as (λ p. record { ascend = p.0; each = p.1; every = told_outside rids outside p.2 }) (λ p. (p.ascend, p.each, told_each rids p.every))
      (decide_all3 (decide_ascends (map (λ p. p.0) rows)) (decide_each _ (λ p. decide_all3 (decide_at_most low p.0) (decide_at_most p.0 high) (decide_rows (look p.0).row (Some p.1))) rows)
      (decide_each (λ (r : Rid). IsTold r.key) (λ r. decide_told r.key) rids))

abbrev pub decide_scanned : (look : ℕ → Image) (low : ℕ) (high : ℕ) (answer : Answer) (rids : List Rid) → ((key : ℕ) → NoneHas key rids → (look key).row ≡ None) →
    Decided (IsScanned look low high answer)
decide_scanned look low high (Rows rows) rids outside = decide_are_rows look low high rows rids outside
decide_scanned look low high _ rids outside = decide_never

abbrev pub decide_first : (look : ℕ → Image) (n : ℕ) (low : ℕ) (high : ℕ) (rows : List (ℕ × List Value)) (rids : List Rid) → ((key : ℕ) → NoneHas key rids → (look key).row ≡ None)
    → Decided (AreFirst look n low high rows)
decide_first look n low high rows rids outside = decide_as (λ p. record { few = p.0; within = p.1; all = p.2 }) (λ p. (p.few, p.within, p.all))
    (decide_all3 (decide_at_most (length rows) n) (decide_at_most (passed n high rows) high) (decide_are_rows look low (passed n high rows) rows rids outside))

abbrev pub decide_fetched : (look : Rid → Image) (n : ℕ) (rest : Option Rest) (answer : Answer) (rids : List Rid) → ((r : Rid) → NoneHas r.key rids → (look r).row ≡ None) →
    Decided (IsFetched look n rest answer)
decide_fetched look n None answer rids outside = decide_never
decide_fetched look n (Some rest) (Rows rows) rids outside = decide_first (λ key. look (record { table = rest.table; key = key })) n rest.low rest.high rows rids
    (λ key none. outside (record { table = rest.table; key = key }) none)
decide_fetched look n (Some rest) _ rids outside = decide_never

-- ---- the reply

-- where every record that is seen as a row is one of `rids`
module _ (mode : Mode) (look : Rid → Image) (wrote : Bool) (rest : Option Rest) (now : Said) (rids : List Rid) (outside : (r : Rid) → NoneHas r.key rids → (look r).row ≡ None) where
  abbrev pub decide_answer : (statement : Statement) → Decided (IsAnswer mode look wrote rest now statement)
  decide_answer (Begin scope) = decide_begun now.reply.answer
  decide_answer (Get r) = decide_scope now.scope r.table now.reply.answer (decide_got (look r) now.reply.answer)
  decide_answer (Put r row) = decide_scope now.scope r.table now.reply.answer (decide_put now.reply.answer)
  decide_answer (Del r) = decide_scope now.scope r.table now.reply.answer (decide_deleted (look r) now.reply.answer)
  decide_answer (Scan table low high) = decide_scope now.scope table now.reply.answer
      (decide_scanned (λ key. look (record { table = table; key = key })) low high now.reply.answer rids (λ key none. outside (record { table = table; key = key }) none))
  decide_answer (CursorOpen table low high) = decide_begun now.reply.answer
  decide_answer (Fetch n) = decide_fetched look n rest now.reply.answer rids outside
  decide_answer CursorClose = decide_ended now.reply.answer
  decide_answer CommitIt = decide_committed wrote now.reply.answer
  decide_answer Rollback = decide_undone now.reply.answer
  decide_answer (Gc kind) = decide_collected mode now.session now.reply.answer

abbrev pub decide_reply : (mode : Mode) (h : History) (earlier : List Said) (now : Said) → Decided (IsReply mode h earlier now)
decide_reply mode h earlier now = decide_as (λ p. record { at = p.0; number = p.1; snapshot = p.2; answer = p.3 }) (λ p. (p.at, p.number, p.snapshot, p.answer))
    (decide_all4 (decide_bools (is_some now.reply.at) now.alone) (decide_bools (is_some now.reply.number) (now.alone && is_some (stored now))) (decide_at_most now.at (length h))
    (let own = own_writes earlier now in decide_answer mode (seen h own now.at) (is_written own) (rest_in now.session now.transaction earlier) now (rids_to_see h own)
    (none_seen h own now.at) now.statement))
