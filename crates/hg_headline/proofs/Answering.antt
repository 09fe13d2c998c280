-- A right answer leaves right entries.
use Rattle.std.proofs.Common.{◌≡◌, ℕ, ◌<◌, List, [], ◌∷◌, ◌++◌, Bool, true, false, Some, None, refl, ap, ◌∙◌}
use Rattle.std.specs.Prelude.{IsSome}
use Rattle.std.specs.Bool.{MatchBool}
use Rattle.hg_base.specs.declared.rid.Rid.{Rid}
use Rattle.hg_base.specs.declared.rid.TableId.{TableId}
use Rattle.hg_base.specs.declared.scope.Snapshot.{Snapshot}
use Rattle.hg_base.specs.declared.statement.Statement.{Statement}
use Rattle.hg_base.specs.declared.statement.Statement.TheVariants.{Get, Put, Del, Scan}
use Rattle.hg_base.specs.declared.line.Answer.{Answer}
use Rattle.hg_base.specs.declared.line.Answer.TheVariants.{Stored, Found, Nothing, Gone, Rows, Newer, OpenBy, Undeclared}
use Rattle.hg_base.specs.declared.value.Value.{Value}
use Rattle.hg_base.specs.History.{Write, History, seen, nothing}
use Rattle.hg_base.specs.Transcript.{has}
use Rattle.hg_base.specs.Replies.{IsGot, IsPut, IsDeleted, IsScanned, IsUndeclared}
use Rattle.hg_core.specs.declared.log.LogEntry.{LogEntry}
use Rattle.hg_core.specs.declared.log.LogEntry.TheVariants.{Outside}
use Rattle.hg_core.specs.Logs.{own_writes, is_plain}
use Rattle.hg_core.specs.Contents.{bucket_of}
use Rattle.hg_core.specs.Reading.{Unprinted, saw, saws, own_entries, FitsAnswer, FitsScope}
use Rattle.hg_core.proofs.Updates.{some_is as some_of_yes}
use Rattle.hg_core.proofs.OwnKeys.{saws_keep}
use Rattle.hg_core.proofs.Right.{same_table}
use Rattle.hg_headline.specs.Answered.{MayRefuse, MayAnswer}
use Rattle.hg_headline.proofs.Parts.{part_of, parts_join}
use Rattle.hg_headline.proofs.OnTop.{key_row, key_nothing, GoesOn, on_saw, on_outside, on_wrote, on_refused, on_saws}

-- what a statement's entries hold besides its reply, with which they are right
pub record Leaves (buckets : ℕ) (h : History) (logs : ℕ → List LogEntry) (j : ℕ) (c : Snapshot) (l : List LogEntry) (own : List Write) (s : Statement) (a : Answer) : Type 0 where
  pub unprinted : Unprinted
  pub fits : FitsAnswer buckets unprinted own s a
  pub scope : FitsScope c.scope s a
  pub goes : GoesOn buckets h logs j c (own_entries buckets unprinted s a ++ l)
  pub plain : is_plain (own_entries buckets unprinted s a ++ l) ≡ true

abbrev pub nothing_more : Unprinted
nothing_more = record { found = []; part = λ b. []; undone = []; rest = None; looked = 0 }

pub plain_saws : (buckets : ℕ) (t : TableId) (low high : ℕ) (part : ℕ → List (ℕ × List Value)) (n : ℕ) (l : List LogEntry) → is_plain (saws buckets t low high part n ++ l) ≡ is_plain l
plain_saws buckets t low high part n l = saws_keep (λ m. is_plain m ≡ is_plain l) buckets t low high part n l (λ b rows m e. e) refl

-- a table that isn't in the scope
pub outside_table : (buckets : ℕ) (h : History) (logs : ℕ → List LogEntry) (j : ℕ) (c : Snapshot) (l : List LogEntry) (t table : TableId) → GoesOn buckets h logs j c l →
    has c.scope table ≡ false → t.0 ≡ table.0 → GoesOn buckets h logs j c (Outside t ∷ l)
outside_table buckets h logs j c l t table g s e = on_outside buckets h logs j c l t g (ap (has c.scope) (same_table t table e) ∙ s)

pub leaves_get : (buckets : ℕ) (h : History) (logs : ℕ → List LogEntry) (j : ℕ) (c : Snapshot) (l : List LogEntry) (own : List Write) (r : Rid) (a : Answer) (b : Bool) →
    GoesOn buckets h logs j c l → is_plain l ≡ true → has c.scope r.table ≡ b → MatchBool b (IsGot (seen h (own_writes l) c.at r) a) (IsUndeclared r.table a) →
    Leaves buckets h logs j c l own (Get r) a
leaves_get buckets h logs j c l own r (Found row) true g p s m = record {
  unprinted = nothing_more;
  fits = tt;
  scope = tt;
  goes = on_saw buckets h logs j c l r.table r.key r.key (bucket_of buckets r) ((r.key, row) ∷ []) g s (key_row buckets (seen h (own_writes l) c.at) r row m);
  plain = p;
}
leaves_get buckets h logs j c l own r Nothing true g p s m = record {
  unprinted = nothing_more;
  fits = tt;
  scope = tt;
  goes = on_saw buckets h logs j c l r.table r.key r.key (bucket_of buckets r) [] g s (key_nothing buckets (seen h (own_writes l) c.at) r m);
  plain = p;
}
leaves_get buckets h logs j c l own r _ true g p s m = absurd m
leaves_get buckets h logs j c l own r (Undeclared t) false g p s m = record { unprinted = nothing_more; fits = m; scope = tt; goes = outside_table buckets h logs j c l t r.table g s m; plain = p }
leaves_get buckets h logs j c l own r _ false g p s m = absurd m

pub leaves_put : (buckets : ℕ) (h : History) (logs : ℕ → List LogEntry) (j : ℕ) (c : Snapshot) (l : List LogEntry) (own : List Write) (r : Rid) (row : List Value) (a : Answer)
    (b : Bool) → GoesOn buckets h logs j c l → is_plain l ≡ true → has c.scope r.table ≡ b → MatchBool b (IsPut a) (IsUndeclared r.table a) →
    MayRefuse h logs j (own_writes l) c.at r a → Leaves buckets h logs j c l own (Put r row) a
leaves_put buckets h logs j c l own r row Stored true g p s m cause = record {
  unprinted = nothing_more;
  fits = tt;
  scope = tt;
  goes = on_wrote buckets h logs j c l r (record { row = Some row }) g s p;
  plain = p;
}
leaves_put buckets h logs j c l own r row (Newer n) true g p s m cause = record {
  unprinted = nothing_more;
  fits = tt;
  scope = tt;
  goes = on_refused buckets h logs j c l r (Newer n) g s tt refl cause;
  plain = p;
}
leaves_put buckets h logs j c l own r row (OpenBy w) true g p s m cause = record {
  unprinted = nothing_more;
  fits = tt;
  scope = tt;
  goes = on_refused buckets h logs j c l r (OpenBy w) g s tt refl cause;
  plain = p;
}
leaves_put buckets h logs j c l own r row _ true g p s m cause = absurd m
leaves_put buckets h logs j c l own r row (Undeclared t) false g p s m cause = record {
  unprinted = nothing_more;
  fits = m;
  scope = tt;
  goes = outside_table buckets h logs j c l t r.table g s m;
  plain = p;
}
leaves_put buckets h logs j c l own r row _ false g p s m cause = absurd m

-- the row that a `del` finds
pub on_found : (buckets : ℕ) (h : History) (logs : ℕ → List LogEntry) (j : ℕ) (c : Snapshot) (l : List LogEntry) (r : Rid) → GoesOn buckets h logs j c l →
    has c.scope r.table ≡ true → IsSome (seen h (own_writes l) c.at r).row → (row : List Value) × GoesOn buckets h logs j c (saw buckets r ((r.key, row) ∷ []) ∷ l)
on_found buckets h logs j c l r g s found =
    let row = some_of_yes (seen h (own_writes l) c.at r).row found in
    (row.0, on_saw buckets h logs j c l r.table r.key r.key (bucket_of buckets r) ((r.key, row.0) ∷ []) g s (key_row buckets (seen h (own_writes l) c.at) r row.0 row.1))

abbrev pub finding : List Value → Unprinted
finding row = record { found = row; part = λ b. []; undone = []; rest = None; looked = 0 }

pub leaves_del : (buckets : ℕ) (h : History) (logs : ℕ → List LogEntry) (j : ℕ) (c : Snapshot) (l : List LogEntry) (own : List Write) (r : Rid) (a : Answer) (b : Bool) →
    GoesOn buckets h logs j c l → is_plain l ≡ true → has c.scope r.table ≡ b → MatchBool b (IsDeleted (seen h (own_writes l) c.at r) a) (IsUndeclared r.table a) →
    MayRefuse h logs j (own_writes l) c.at r a → Leaves buckets h logs j c l own (Del r) a
leaves_del buckets h logs j c l own r Nothing true g p s m cause = record {
  unprinted = nothing_more;
  fits = tt;
  scope = tt;
  goes = on_saw buckets h logs j c l r.table r.key r.key (bucket_of buckets r) [] g s (key_nothing buckets (seen h (own_writes l) c.at) r m);
  plain = p;
}
leaves_del buckets h logs j c l own r Gone true g p s m cause = let f = on_found buckets h logs j c l r g s m in
    record { unprinted = finding f.0; fits = tt; scope = tt; goes = on_wrote buckets h logs j c (saw buckets r ((r.key, f.0) ∷ []) ∷ l) r nothing f.1 s p; plain = p }
leaves_del buckets h logs j c l own r (Newer n) true g p s m cause = let f = on_found buckets h logs j c l r g s m in
    record { unprinted = finding f.0; fits = tt; scope = tt; goes = on_refused buckets h logs j c (saw buckets r ((r.key, f.0) ∷ []) ∷ l) r (Newer n) f.1 s tt refl cause; plain = p }
leaves_del buckets h logs j c l own r (OpenBy w) true g p s m cause = let f = on_found buckets h logs j c l r g s m in
    record { unprinted = finding f.0; fits = tt; scope = tt; goes = on_refused buckets h logs j c (saw buckets r ((r.key, f.0) ∷ []) ∷ l) r (OpenBy w) f.1 s tt refl cause; plain = p }
leaves_del buckets h logs j c l own r _ true g p s m cause = absurd m
leaves_del buckets h logs j c l own r (Undeclared t) false g p s m cause = record {
  unprinted = nothing_more;
  fits = m;
  scope = tt;
  goes = outside_table buckets h logs j c l t r.table g s m;
  plain = p;
}
leaves_del buckets h logs j c l own r _ false g p s m cause = absurd m

pub leaves_scan : (buckets : ℕ) (h : History) (logs : ℕ → List LogEntry) (j : ℕ) (c : Snapshot) (l : List LogEntry) (own : List Write) (t : TableId) (low high : ℕ) (a : Answer)
    (b : Bool) → ((r : Rid) → bucket_of buckets r < buckets) → GoesOn buckets h logs j c l → is_plain l ≡ true → has c.scope t ≡ b →
    MatchBool b (IsScanned (λ key. seen h (own_writes l) c.at (record { table = t; key = key })) low high a) (IsUndeclared t a) → Leaves buckets h logs j c l own (Scan t low high) a
leaves_scan buckets h logs j c l own t low high (Rows rows) true places g p s m = record {
  unprinted = record { found = []; part = part_of buckets t rows; undone = []; rest = None; looked = 0 };
  fits = parts_join buckets t (λ key. seen h (own_writes l) c.at (record { table = t; key = key })) low high rows places m;
  scope = s;
  goes = on_saws buckets h logs j c l t low high rows buckets g s m;
  plain = plain_saws buckets t low high (part_of buckets t rows) buckets l ∙ p;
}
leaves_scan buckets h logs j c l own t low high _ true places g p s m = absurd m
leaves_scan buckets h logs j c l own t low high (Undeclared other) false places g p s m = record {
  unprinted = nothing_more;
  fits = m;
  scope = tt;
  goes = outside_table buckets h logs j c l other t g s m;
  plain = p;
}
leaves_scan buckets h logs j c l own t low high _ false places g p s m = absurd m

-- what a right answer leaves, whatever the transaction wrote before
pub leaves : (buckets : ℕ) (h : History) (logs : ℕ → List LogEntry) (j : ℕ) (c : Snapshot) (l : List LogEntry) (own : List Write) (s : Statement) (a : Answer) →
    ((r : Rid) → bucket_of buckets r < buckets) → GoesOn buckets h logs j c l → is_plain l ≡ true → MayAnswer h logs j c (own_writes l) s a → Leaves buckets h logs j c l own s a
leaves buckets h logs j c l own (Get r) a places g p m = leaves_get buckets h logs j c l own r a (has c.scope r.table) g p refl m
leaves buckets h logs j c l own (Put r row) a places g p m = leaves_put buckets h logs j c l own r row a (has c.scope r.table) g p refl m.0 m.1
leaves buckets h logs j c l own (Del r) a places g p m = leaves_del buckets h logs j c l own r a (has c.scope r.table) g p refl m.0 m.1
leaves buckets h logs j c l own (Scan t low high) a places g p m = leaves_scan buckets h logs j c l own t low high a (has c.scope t) places g p refl m
leaves buckets h logs j c l own _ a places g p m = absurd m
