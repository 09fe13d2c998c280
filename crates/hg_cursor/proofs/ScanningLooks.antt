-- What a look at a range of one bucket logs, and that the rows that were copied are those.
use Rattle.std.proofs.Common.{◌≡◌, ℕ, ◌<◌, ◌≤◌, List, [], ◌∷◌, ◌++◌, Some, None, Result, Ok, Err, inl, refl, ap, ◌∙◌, subst, arith}
use Rattle.std.specs.Prelude.{OnOk}
use Rattle.hg_base.specs.declared.rid.TableId.{TableId}
use Rattle.hg_base.specs.declared.writer.Writer.{Writer}
use Rattle.hg_base.specs.declared.fault.NoMemory.{NoMemory}
use Rattle.hg_base.proofs.ListFacts.{each_keeps}
use Rattle.hg_core.specs.declared.ask.Ask.TheVariants.{Read}
use Rattle.hg_core.specs.declared.log.LogEntry.TheVariants.{Saw}
use Rattle.hg_rule.specs.declared.view.SessionPart.{SessionPart}
use Rattle.hg_rule.specs.declared.view.Part.{Part}
use Rattle.hg_rule.specs.declared.view.Sight.{Sight}
use Rattle.hg_rule.specs.declared.view.View.{View}
use Rattle.hg_rule.specs.Views.{part_number, after_first}
use Rattle.hg_rule.specs.Holding.{bucket, writer, snapshot}
use Rattle.hg_rule.specs.Writes.{log_asked, Looks}
use Rattle.hg_core.specs.Contents.{Content}
use Rattle.hg_cursor.specs.Keys.{Rows, IsOwnKey, AreOwn, IsFirstOwn, read_of}
use Rattle.hg_cursor.proofs.Keys.{own_key, unread}
use Rattle.hg_cursor.proofs.Rows.{widened}
use Rattle.hg_cursor.proofs.Uniqueness.{same_rows}
use Rattle.hg_cursor.proofs.Looking.{shown_there}
use Rattle.hg_cursor.specs.Logs.{Adds}
use Rattle.hg_cursor.specs.Scans.{AppendsAll, SeesAll}
use Rattle.hg_cursor.proofs.Trips.{first_session, Beside}

pub on_ok : {T A B : Type 0} (answer : Result T NoMemory) → (A → B) → OnOk answer A → OnOk answer B
on_ok (Ok t) f a = f a
on_ok (Err e) f a = a

module _ (count j b n : ℕ) (part : SessionPart) (old : List Sight) (table : TableId) (low high : ℕ) (u w : View) (h : Beside j part b old u) (k : Looks u (Read table low high) n w) where
  pub saw_rows : log_asked u (Read table low high) n k.rows ≡ Saw table low high b k.rows ∷ part.log
  saw_rows =
      let m = ap (λ (ps : List Part). part_number (after_first ps)) h.parts in
      let s = first_session u j part _ h.parts in
      λ i. Saw table low high (m i) k.rows ∷ (s i).log

  -- what was copied is what was logged
  pub sees : {T : Type 0} (v x : View) (by : Writer) (at : ℕ) (before after : Rows) (answer : Result T NoMemory) → AreOwn count b (bucket u).content → by ≡ writer u →
      at ≡ snapshot u → OnOk answer (AppendsAll (read_of by at table (bucket u).content) low high before after) → Adds v (Saw table low high b k.rows ∷ []) x
      → SeesAll count v table low high b before answer x after
  sees v x by at before after answer own same_by same_at copied adds = record {
    part = k.rows;
    adds = adds;
    ascend = k.shown.ascend;
    own = each_keeps (λ p. (low ≤ p.0) × (p.0 ≤ high) × ((read_of (writer u) (snapshot u) table (bucket u).content p.0).row ≡ Some p.1)) (λ p. IsOwnKey count b table p.0)
        (λ p s. own_key count b (bucket u).content table p.0 own (shown_there (writer u) (snapshot u) table (bucket u).content p.0 p.1 s.2)) k.rows k.shown.each;
    added = on_ok answer same (subst (λ m. OnOk answer (AppendsAll (read_of (writer u) m table (bucket u).content) low high before after)) same_at
        (subst (λ y. OnOk answer (AppendsAll (read_of y at table (bucket u).content) low high before after)) same_by copied));
  }
    where
      same : AppendsAll (read_of (writer u) (snapshot u) table (bucket u).content) low high before after → after ≡ before ++ k.rows
      same a = a.is ∙ ap (λ rows. before ++ rows) (same_rows (read_of (writer u) (snapshot u) table (bucket u).content) low high a.more k.rows a.rows k.shown)

-- the rows from the bucket's first key on are those of the range
pub from_first : (count b : ℕ) (content : Content) (by : Writer) (at : ℕ) (table : TableId) (low own high : ℕ) (before after : Rows) → AreOwn count b content →
    IsFirstOwn count b table low high own → AppendsAll (read_of by at table content) own high before after → AppendsAll (read_of by at table content) low high before after
from_first count b content by at table low own high before after are first a =
    let none : (k : ℕ) → low ≤ k → k < own → (read_of by at table content k).row ≡ None = λ k l less.
    let under = first.0.1 in
    unread by at table content k (λ has. let least = first.2 k l (omega (arith, less, under)) (own_key count b content table k are has) in absurd (omega (arith, least, less))) in
    let w = widened (read_of by at table content) 0 low own high before after high first.0.0 none
    (record { more = a.more; is = a.is; within = omega arith; rows = a.rows; enough = inl refl }) in
    record { more = w.more; is = w.is; rows = w.rows }
