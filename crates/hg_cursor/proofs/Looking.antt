-- What a look at a range of one bucket logs, and that the rows that were copied are the first ones of those.
use Rattle.std.proofs.Common.{◌≡◌, ℕ, ◌-◌, ◌<◌, ◌≤◌, List, [], ◌∷◌, length, Some, None, Result, Ok, Err, ap, subst, arith}
use Rattle.std.specs.Prelude.{nat_lt, IfOk, Contains}
use Rattle.std.proofs.lemmas.Bool.Decides.{nat_tests}
use Rattle.hg_base.specs.declared.rid.TableId.{TableId}
use Rattle.hg_base.specs.declared.image.Image.{Image}
use Rattle.hg_base.specs.declared.writer.Writer.{Writer}
use Rattle.hg_base.specs.declared.fault.NoMemory.{NoMemory}
use Rattle.hg_base.specs.declared.value.Value.{Value}
use Rattle.hg_base.specs.Lists.{Each}
use Rattle.hg_base.specs.Replies.{AreRows}
use Rattle.hg_base.proofs.ListFacts.{cases, none_some, each_keeps}
use Rattle.hg_core.specs.declared.ask.Ask.TheVariants.{Read}
use Rattle.hg_core.specs.declared.log.LogEntry.TheVariants.{Saw}
use Rattle.hg_core.specs.Contents.{Content, bucket_of, look}
use Rattle.hg_bucket.specs.BucketModel.{record_at}
use Rattle.hg_rule.specs.declared.view.SessionPart.{SessionPart}
use Rattle.hg_rule.specs.declared.view.Part.{Part}
use Rattle.hg_rule.specs.declared.view.Sight.{Sight}
use Rattle.hg_rule.specs.declared.view.View.{View}
use Rattle.hg_rule.specs.Views.{part_number, after_first}
use Rattle.hg_rule.specs.Holding.{bucket, writer, snapshot}
use Rattle.hg_rule.specs.Writes.{log_asked, Looks}
use Rattle.hg_cursor.specs.Firsts.{Copied}
use Rattle.hg_cursor.specs.Keys.{Rows, IsOwnKey, AreOwn, HasVersion, read_of}
use Rattle.hg_cursor.specs.Logs.{Adds}
use Rattle.hg_cursor.specs.declared.looks.Look.{Look}
use Rattle.hg_cursor.specs.Looks.{IsFirstKey, Appends, AppendsFirst, Takes, Sees}
use Rattle.hg_cursor.proofs.Keys.{own_key, unread, least_own}
use Rattle.hg_cursor.proofs.Rows.{widened}
use Rattle.hg_cursor.proofs.Uniqueness.{row_there}
use Rattle.hg_cursor.proofs.Trips.{Beside, first_session}

-- a row is of a record that has a version
pub shown_there : (by : Writer) (at : ℕ) (table : TableId) (content : Content) (key : ℕ) (row : List Value) → (read_of by at table content key).row ≡ Some row → HasVersion content table key
shown_there by at table content key row e = cases (nat_lt 0 (length (look (record_at table key) content)))
    (λ t. grind (arith, nat_tests, t))
    (λ f. absurd (none_some (read_of by at table content key).row row (unread by at table content key (λ l. grind (arith, nat_tests, f, l))) e))

-- below the first of its own keys a bucket shows nothing
pub none_below : (count : ℕ) (by : Writer) (at : ℕ) (table : TableId) (content : Content) (low own k : ℕ) → low ≤ own → own - low < count →
    AreOwn count (bucket_of count (record_at table own)) content → low ≤ k → k < own → (read_of by at table content k).row ≡ None
none_below count by at table content low own k over near are l less = unread by at table content k (λ has.
    let least = least_own count table low own k over near l (own_key count (bucket_of count (record_at table own)) content table k are has) in
    omega (arith, least, less))

-- of rows that were logged, those up to a key are there
pub takes : (shown : ℕ → Image) (n low high limit : ℕ) (part old new : Rows) (upto : ℕ) → AreRows shown low high part → limit ≤ high → Appends shown n low limit old new upto →
    Takes n limit part old new upto
takes shown n low high limit part old new upto logged below a = record {
  more = a.more;
  is = a.is;
  ascend = a.rows.ascend;
  each = each_keeps _ (λ p. Contains part p × (p.0 ≤ upto)) (λ p q. let m = q.1 in let w = a.within in
      (row_there shown low high part p logged q.0 (omega (arith, m, w, below)) q.2, q.1)) a.more a.rows.each;
  every = each_keeps _ (λ p. p.0 ≤ upto → Contains a.more p) (λ p q m. row_there shown low upto a.more p a.rows q.0 m q.2) part logged.each;
  within = a.within;
  enough = a.enough;
}

if_ok : {T : Type 0} {A B : T → Type 0} (answer : Result T NoMemory) → ((t : T) → A t → B t) → IfOk answer A → IfOk answer B
if_ok (Ok t) f a = f t a
if_ok (Err e) f a = a

module _ (count j b m : ℕ) (part : SessionPart) (old : List Sight) (l : Look) (u w : View) (h : Beside j part b old u) (k : Looks u (Read l.request.table l.request.low l.request.high) m w) where
  pub saw_rows : log_asked u (Read l.request.table l.request.low l.request.high) m k.rows ≡ Saw l.request.table l.request.low l.request.high b k.rows ∷ part.log
  saw_rows =
      let n = ap (λ (ps : List Part). part_number (after_first ps)) h.parts in
      let s = first_session u j part _ h.parts in
      λ i. Saw l.request.table l.request.low l.request.high (n i) k.rows ∷ (s i).log

  -- the rows that were copied are those that were logged
  pub sees : (v x : View) (by : Writer) (before after : Copied) (answer : Result ℕ NoMemory) → IsFirstKey count l.request.low l.own → l.limit ≤ l.request.high →
      b ≡ bucket_of count (record_at l.request.table l.own) → AreOwn count b (bucket u).content → by ≡ writer u → l.request.at ≡ snapshot u
      → after.most ≡ before.most → IfOk answer (AppendsFirst by l (bucket u).content before after) → Adds v (Saw l.request.table l.request.low l.request.high b k.rows ∷ []) x →
      Sees count l v before answer x after
  sees v x by before after answer first below here are same_by same_at same_most copied adds = record {
    part = k.rows;
    adds = subst (λ c. Adds v (Saw table low high c k.rows ∷ []) x) here adds;
    within = each_keeps _ (λ p. (low ≤ p.0) × (p.0 ≤ high)) (λ p s. (s.0, s.1)) k.rows k.shown.each;
    own = subst (λ c. Each (λ p. IsOwnKey count c table p.0) k.rows) here (each_keeps (λ p. (low ≤ p.0) × (p.0 ≤ high) × ((shown p.0).row ≡ Some p.1)) (λ p. IsOwnKey count b table p.0)
        (λ p s. own_key count b (bucket u).content table p.0 are (shown_there (writer u) (snapshot u) table (bucket u).content p.0 p.1 s.2)) k.rows k.shown.each);
    most = same_most;
    taken = if_ok answer same (subst (λ t. IfOk answer (Appends (read_of (writer u) t table (bucket u).content) n l.own l.limit before.rows after.rows)) same_at
        (subst (λ y. IfOk answer (Appends (read_of y l.request.at table (bucket u).content) n l.own l.limit before.rows after.rows)) same_by copied));
  }
    where
      table : TableId
      table = l.request.table

      low : ℕ
      low = l.request.low

      high : ℕ
      high = l.request.high

      n : ℕ
      n = before.most

      shown : ℕ → Image
      shown = read_of (writer u) (snapshot u) table (bucket u).content

      same : (upto : ℕ) → Appends shown n l.own l.limit before.rows after.rows upto → Takes n l.limit k.rows before.rows after.rows upto
      same upto a = takes shown n low high l.limit k.rows before.rows after.rows upto k.shown below
          (widened shown n low l.own l.limit before.rows after.rows upto first.0
          (λ key from less. none_below count (writer u) (snapshot u) table (bucket u).content low l.own key first.0 first.1 (subst (λ c. AreOwn count c (bucket u).content) here are) from less) a)
