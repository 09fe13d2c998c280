-- Each put of a dump is stored, where its lines are those of a replay.
use Rattle.std.proofs.Common.{◌≡◌, ℕ, ◌+◌, List, [], ◌∷◌, Bool, true, false, Option, Some, None, refl, sym, ap, ◌∙◌, subst, arith, map}
use Rattle.std.specs.Prelude.{◌==◌, ◌&&◌, ◌||◌, ◌%◌, cond, filter, filter_map, is_some, nat_lt, IsSome, IsTrue}
use Rattle.std.specs.List.{list_any}
use Rattle.std.specs.Bool.{MatchBool}
use Rattle.hg_base.specs.declared.rid.Rid.{Rid}
use Rattle.hg_base.specs.declared.rid.TableId.{TableId}
use Rattle.hg_base.specs.declared.value.Value.{Value}
use Rattle.hg_base.specs.declared.statement.Record.{Record}
use Rattle.hg_base.specs.declared.statement.Statement.TheVariants.{Put}
use Rattle.hg_base.specs.declared.line.Answer.{Answer}
use Rattle.hg_base.specs.declared.line.Answer.TheVariants.{Stored, Newer, OpenBy}
use Rattle.hg_base.specs.declared.line.Line.{Line}
use Rattle.hg_base.specs.declared.line.Reply.{Reply}
use Rattle.hg_base.specs.History.{History, image_in}
use Rattle.hg_base.specs.Lists.{Each, EachAfter}
use Rattle.hg_base.specs.Replies.{IsPut, IsUndeclared}
use Rattle.hg_base.specs.Script.{replay}
use Rattle.hg_base.specs.Shape.{HasShape}
use Rattle.hg_base.specs.Sound.{IsRight}
use Rattle.hg_base.specs.Transcript.{Said, committed, ends, has, is_end, is_of, last_of, next_after, only, open_after, said, said_from, standing, stored, stored_in}
use Rattle.hg_headline.proofs.Numbers.{any_below}
use Rattle.hg_headline.proofs.Words.{true_false}
use Rattle.hg_script.specs.Numbered.{numbered}
use Rattle.hg_dump.specs.Dumps.{put_of}
use Rattle.hg_dump.specs.Rows.{Kept}
use Rattle.std.proofs.Math.Nat.{div_self}
use Rattle.std.proofs.lemmas.Nat.{pow_pos}

has_only : (table : TableId) → IsTrue (has (only (Some table)) table)
has_only table = ap (λ n. n % 2 == 1) (div_self (pow_pos table.0))

-- a transaction of its own
abbrev pub IsAlone : Said → Type 0
IsAlone said = said.alone ≡ true

-- ---- no transaction is open after it

ended : (x : Said) → IsAlone x → open_after (Some x) ≡ None
ended x e = ap (λ b. cond (b || is_end x.statement) None (Some x)) e

pub none_opened : (j : ℕ) (earlier : List Said) → Each IsAlone earlier → open_after (last_of j earlier) ≡ None
none_opened j [] h = refl
none_opened j (x ∷ earlier) h = go ((x.session == j) && nat_lt 0 x.transaction) (none_opened j earlier h.1)
  where
    go : (b : Bool) → open_after (last_of j earlier) ≡ None → open_after (cond b (Some x) (last_of j earlier)) ≡ None
    go true e = ended x h.0
    go false e = e

-- so another's write isn't open
none_open : (x j : ℕ) (r : Rid) (earlier : List Said) → Each IsAlone earlier → IsSome (image_in r (stored_in j x earlier)) → IsTrue (list_any ends (filter (is_of j x) earlier))
none_open x j r [] h some = absurd (true_false (sym some))
none_open x j r (s ∷ earlier) h some = go (is_of j x s) some (none_open x j r earlier h.1)
  where
    go : (b : Bool) → IsSome (image_in r (filter_map stored (cond b (s ∷ filter (is_of j x) earlier) (filter (is_of j x) earlier)))) →
        (IsSome (image_in r (stored_in j x earlier)) → IsTrue (list_any ends (filter (is_of j x) earlier)))
        → IsTrue (list_any ends (cond b (s ∷ filter (is_of j x) earlier) (filter (is_of j x) earlier)))
    go true some later = ap (λ b. (b || is_end s.statement) || list_any ends (filter (is_of j x) earlier)) h.0
    go false some later = later some

-- ---- one line

within : (b : Bool) (P Q : Type 0) → b ≡ true → MatchBool b P Q → P
within true P Q e m = m
within false P Q e m = absurd (true_false (sym e))

module _ (k : History) (all earlier : List Said) (next place : ℕ) (r : Rid) (row : List Value) (alone : Each IsAlone earlier) where
  abbrev asked : Record
  asked = record { place = place; session = 1; statement = Put r row }

  -- the reply to a put outside a transaction
  one_stored : (at : Option ℕ) (answer : Answer) (number : Option ℕ) → let reply : Reply = record { at = at; answer = answer; number = number } in
      IsRight replay k all earlier (standing None next asked reply) → (answer ≡ Stored) × (is_some number ≡ true)
  one_stored at answer number is = go at answer is is.reply.at (within (has (only (Some r.table)) r.table) (IsPut answer) (IsUndeclared r.table answer) (has_only r.table) is.reply.answer)
    where
      go : (at : Option ℕ) (answer : Answer) → let reply : Reply = record { at = at; answer = answer; number = number } in
          IsRight replay k all earlier (standing None next asked reply) → is_some at ≡ true → IsPut answer → (answer ≡ Stored) × (is_some number ≡ true)
      go at Stored is some p = (refl, is.reply.number)
      go (Some a) (Newer c) is some p =
          let over = is.conflict.1.over in
          let newest = is.fresh.exact.snapshot in
          let most = any_below c (filter_map committed earlier) is.fresh.exact.newer in
          absurd (omega (arith, over, newest, most))
      go None (Newer c) is some p = absurd (true_false (sym some))
      go at (OpenBy w) is some p = absurd (true_false (sym (none_open w.transaction w.session r earlier alone is.conflict.2.does) ∙ is.conflict.2.opened))
      go at _ is some p = absurd p

-- ---- all lines

abbrev pub HasStored : Line → Type 0
HasStored line = (line.reply.answer ≡ Stored) × IsSome line.reply.number

pub all_stored : (k : History) (all earlier : List Said) (place : ℕ) (rows : List Kept) (lines : List Line) → Each IsAlone earlier →
    EachAfter (IsRight replay k all) earlier (said_from earlier (numbered place (map put_of rows)) lines) → HasShape (numbered place (map put_of rows)) lines → Each HasStored lines
all_stored k all earlier place [] [] alone right shape = tt
all_stored k all earlier place [] (line ∷ lines) alone right shape = absurd shape
all_stored k all earlier place (kept ∷ rows) [] alone right shape = absurd shape
all_stored k all earlier place (kept ∷ rows) (line ∷ lines) alone right shape =
    let r : Record = record { place = place; session = 1; statement = Put kept.rid kept.row } in
    let last : Option Said = last_of 1 earlier in
    let is : standing (open_after last) (next_after last) r line.reply ≡ standing None (next_after last) r line.reply = ap (λ o. standing o (next_after last) r line.reply)
    (none_opened 1 earlier alone) in (
      one_stored k all earlier (next_after last) place kept.rid kept.row alone line.reply.at line.reply.answer line.reply.number (subst (IsRight replay k all earlier) is right.0),
      all_stored k all (said earlier r line.reply ∷ earlier) (place + 1) rows lines (ap (λ (s : Said). s.alone) is, alone) right.1 shape.1,
    )
