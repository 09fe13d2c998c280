-- What the lines so far leave to each session's next.
use Rattle.std.proofs.Common.{◌≡◌, ℕ, zero, suc, ◌<◌, ◌≤◌, List, [], ◌∷◌, ◌++◌, length, take, get_or, Bool, true, false, Option, Some, None, refl, sym, ap, ◌∙◌, arith}
use Rattle.std.specs.Prelude.{◌==◌, ◌&&◌, cond, option_map, nat_lt, map, IfSome}
use Rattle.std.specs.BTreeMap.{BTreeMap, is_at, get}
use Rattle.std.specs.Ordering.{nat_cmp}
use Rattle.hg_base.specs.Lists.{Each, onto}
use Rattle.hg_base.specs.Transcript.{Said, last_of, next_after, open_after, said, said_after, said_from, standing}
use Rattle.hg_base.specs.declared.statement.Record.{Record}
use Rattle.hg_base.specs.declared.statement.Statement.{Statement}
use Rattle.hg_base.specs.declared.statement.Statement.TheVariants.{Begin, Get, Put, Del, Scan, CursorOpen, Fetch, CursorClose, Commit, Rollback, Gc}
use Rattle.hg_base.specs.declared.line.Line.{Line}
use Rattle.hg_base.specs.declared.line.Reply.{Reply}
use Rattle.hg_base.proofs.RidOrder.{alike_numbers}
use Rattle.hg_known.specs.declared.said.Last.{Last}
use Rattle.hg_known.specs.Lines.{left_by, number_of, without_rest, AreLasts, OpensKnown}

-- a number has another entry, and no other changes
abbrev pub Puts : {X : Type 0} → BTreeMap ℕ X → BTreeMap ℕ X → ℕ → X → Type 0
Puts old new s x = (j : ℕ) → get nat_cmp new j ≡ cond (is_at (nat_cmp s) j) (Some x) (get nat_cmp old j)

pub put_at : {X : Type 0} (old new : BTreeMap ℕ X) (s : ℕ) (x : X) → Puts old new s x → (j : ℕ) → get nat_cmp new j ≡ cond (s == j) (Some x) (get nat_cmp old j)
put_at old new s x h j = h j ∙ ap (λ b. cond b (Some x) (get nat_cmp old j)) (alike_numbers s j)

pub lasts_more : (old new : BTreeMap ℕ Last) (earlier : List Said) (now : Said) (left : Last) → AreLasts old earlier → without_rest left ≡ left_by now →
    nat_lt 0 now.transaction ≡ true → Puts old new now.session left → AreLasts new (now ∷ earlier)
lasts_more old new earlier now left h is some put j = ap (option_map without_rest) (put_at old new now.session left put j) ∙ go (now.session == j)
  where
    go : (b : Bool) → option_map without_rest (cond b (Some left) (get nat_cmp old j)) ≡ option_map left_by (cond (b && nat_lt 0 now.transaction) (Some now) (last_of j earlier))
    go true = ap Some is ∙ sym (ap (λ t. option_map left_by (cond t (Some now) (last_of j earlier))) some)
    go false = h j

pub lasts_same : (old : BTreeMap ℕ Last) (earlier : List Said) (now : Said) → AreLasts old earlier → nat_lt 0 now.transaction ≡ false → AreLasts old (now ∷ earlier)
lasts_same old earlier now h none j = h j ∙ sym (ap (λ t. option_map left_by (cond t (Some now) (last_of j earlier))) (go (now.session == j)))
  where
    go : (b : Bool) → (b && nat_lt 0 now.transaction) ≡ false
    go true = none
    go false = refl

pub reach_far : (n m : ℕ) (o : Option Last) → n ≤ m → IfSome o (λ l. number_of l ≤ n) → IfSome o (λ l. number_of l ≤ m)
reach_far n m None most h = tt
reach_far n m (Some l) most h = omega (arith, most, h)

-- ---- line by line

pub known_at : (records : List Record) (k : ℕ) (d : Record) → k < length records → Each (λ r. OpensKnown r.statement) records → OpensKnown (get_or records k d).statement
known_at [] k d less h = absurd (omega (arith, less))
known_at (r ∷ rs) zero d less h = h.0
known_at (r ∷ rs) (suc k) d less h = known_at rs k d (omega (arith, less)) h.1

pub onto_push : {X : Type 0} (xs earlier : List X) (x : X) → onto (xs ++ x ∷ []) earlier ≡ x ∷ onto xs earlier
onto_push [] earlier x = refl
onto_push (y ∷ ys) earlier x = onto_push ys (y ∷ earlier) x

-- line k, read behind those before it
pub read_at : (earlier : List Said) (records : List Record) (lines : List Line) (k : ℕ) (r : Record) (reply : Reply) (d : Said) → k < length records → k < length lines →
    r ≡ get_or records k r → ((line : Line) → line ≡ get_or lines k line → reply ≡ line.reply) →
    get_or (said_from earlier records lines) k d ≡ said (onto (take k (said_from earlier records lines)) earlier) r reply
read_at earlier [] lines k r reply d less short e f = absurd (omega (arith, less))
read_at earlier (x ∷ rs) [] k r reply d less short e f = absurd (omega (arith, short))
read_at earlier (x ∷ rs) (y ∷ ls) zero r reply d less short e f = λ i. said earlier (sym e i) (sym (f y refl) i)
read_at earlier (x ∷ rs) (y ∷ ls) (suc k) r reply d less short e f = read_at (said earlier x y.reply ∷ earlier) rs ls k r reply d (omega (arith, less)) (omega (arith, short)) e f

-- a line for each record
pub all_read : (earlier : List Said) (records : List Record) (lines : List Line) → length records ≡ length lines → length (said_from earlier records lines) ≡ length lines
all_read earlier [] [] e = refl
all_read earlier [] (line ∷ lines) e = absurd (omega (arith, e))
all_read earlier (r ∷ rs) [] e = absurd (omega (arith, e))
all_read earlier (r ∷ rs) (line ∷ lines) e = ap suc (all_read (said earlier r line.reply ∷ earlier) rs lines (omega (arith, e)))

-- a line has its reply
pub standing_reply : (o : Option Said) (x : ℕ) (r : Record) (reply : Reply) → (standing o x r reply).reply ≡ reply
standing_reply None x r reply = refl
standing_reply (Some opened) x r reply = refl

pub after_reply : (last : Option Said) (r : Record) (reply : Reply) (asked : Statement) → (said_after last r reply asked).reply ≡ reply
after_reply last r reply (Begin scope) = refl
after_reply last r reply (CursorOpen table low high) = refl
after_reply last r reply (Gc kind) = refl
after_reply last r reply (Fetch n) = standing_reply (open_after last) (next_after last) r reply
after_reply last r reply CursorClose = standing_reply (open_after last) (next_after last) r reply
after_reply last r reply (Get rid) = standing_reply (open_after last) (next_after last) r reply
after_reply last r reply (Put rid row) = standing_reply (open_after last) (next_after last) r reply
after_reply last r reply (Del rid) = standing_reply (open_after last) (next_after last) r reply
after_reply last r reply (Scan table low high) = standing_reply (open_after last) (next_after last) r reply
after_reply last r reply Commit = standing_reply (open_after last) (next_after last) r reply
after_reply last r reply Rollback = standing_reply (open_after last) (next_after last) r reply

pub reply_at : (earlier : List Said) (records : List Record) (lines : List Line) (k : ℕ) (line : Line) (d : Said) → length records ≡ length lines → k < length lines →
    line ≡ get_or lines k line → line.reply ≡ (get_or (said_from earlier records lines) k d).reply
reply_at earlier [] [] k line d e less f = absurd (omega (arith, less))
reply_at earlier [] (y ∷ ls) k line d e less f = absurd (omega (arith, e))
reply_at earlier (r ∷ rs) [] k line d e less f = absurd (omega (arith, less))
reply_at earlier (r ∷ rs) (y ∷ ls) zero line d e less f = (λ i. (f i).reply) ∙ sym (after_reply (last_of r.session earlier) r y.reply r.statement)
reply_at earlier (r ∷ rs) (y ∷ ls) (suc k) line d e less f = reply_at (said earlier r y.reply ∷ earlier) rs ls k line d (omega (arith, e)) (omega (arith, less)) f

pub mapped_at : {X Y : Type 0} (f : X → Y) (xs : List X) (k : ℕ) (d : X) → get_or (map f xs) k (f d) ≡ f (get_or xs k d)
mapped_at f [] k d = refl
mapped_at f (x ∷ xs) zero d = refl
mapped_at f (x ∷ xs) (suc k) d = mapped_at f xs k d
