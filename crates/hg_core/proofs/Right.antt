-- The entries of a statement say that its reply is right.
use Rattle.std.proofs.Common.{◌≡◌, ℕ, zero, suc, ◌<◌, ◌≤◌, ◌⊎◌, inl, inr, List, [], ◌∷◌, ◌++◌, length, Bool, true, false, Option, Some, None, refl, sym, ap, ◌∙◌, subst, arith, mod-lt}
use Rattle.std.specs.Prelude.{◌==◌, ◌||◌, ◌+◌, ◌*◌, ◌%◌, if◌then◌else◌, IsTrue, IsFalse, IsSome, IfSome, Contains}
use Rattle.std.specs.List.{list_any}
use Rattle.std.specs.Bool.{MatchBool}
use Rattle.std.proofs.lemmas.Bool.Decides.{Decides-eqb, nat_tests}
use Rattle.std.proofs.lemmas.Bool.{or_left, or_right}
use Rattle.hg_base.specs.declared.rid.Rid.{Rid}
use Rattle.hg_base.specs.declared.rid.TableId.{TableId}
use Rattle.hg_base.specs.declared.image.Image.{Image}
use Rattle.hg_base.specs.declared.scope.Scope.{Scope}
use Rattle.hg_base.specs.declared.scope.Snapshot.{Snapshot}
use Rattle.hg_base.specs.declared.statement.Statement.{Statement}
use Rattle.hg_base.specs.declared.statement.Statement.TheVariants.{Get, Put, Del, Scan}
use Rattle.hg_base.specs.declared.line.Answer.{Answer}
use Rattle.hg_base.specs.declared.line.Answer.TheVariants.{Stored, Found, Nothing, Gone, Rows, Newer, OpenBy, Undeclared}
use Rattle.hg_base.specs.declared.value.Value.{Value}
use Rattle.hg_base.specs.Lists.{Each}
use Rattle.hg_base.specs.Script.{Mode}
use Rattle.hg_base.specs.History.{Write, History, seen, nothing}
use Rattle.hg_base.specs.Transcript.{Said, Rest, has, passed}
use Rattle.hg_base.specs.Replies.{IsGot, IsPut, IsDeleted, IsScanned, WithinScope, IsAnswer, AreRows, AreFirst, IsFetched}
use Rattle.hg_base.proofs.ListFacts.{cases, each_at, each_keeps}
use Rattle.hg_core.specs.declared.log.LogEntry.{LogEntry}
use Rattle.hg_core.specs.declared.log.LogEntry.TheVariants.{Saw}
use Rattle.hg_core.specs.Logs.{current, own_writes}
use Rattle.hg_core.specs.Contents.{bucket_of, has_own}
use Rattle.hg_core.specs.Replies.{in_bucket, AreReplied}
use Rattle.hg_core.specs.Reading.{Unprinted, bucket_at, looks, saws, fetch_entries, Picks, IsFetchAnswer, get_entries, put_entries, del_entries, scan_entries, own_entries, is_access}
use Rattle.hg_core.specs.Reading.{IsReached, Joins, IsGetAnswer, IsDelAnswer, IsScanAnswer, FitsTable, FitsAnswer, FitsScope}
use Rattle.hg_core.proofs.OwnKeys.{reached, saws_keep}

true_false : true ≡ false → ⊥
true_false e = cc

same_number : (n : ℕ) → (n == n) ≡ true
same_number n = (Decides-eqb n n).1 refl

pub of_some : {X : Type 0} (o : Option X) (P : X → Type 0) (x : X) → o ≡ Some x → IfSome o P → P x
of_some o P x e h = subst (λ p. IfSome p P) e h

pub if_any : {X : Type 0} (o : Option X) (P : X → Type 0) → ((x : X) → P x) → IfSome o P
if_any None P f = tt
if_any (Some x) P f = f x

pub if_none : {X : Type 0} (o : Option X) (P : X → Type 0) → o ≡ None → IfSome o P
if_none o P e = subst (λ p. IfSome p P) (sym e) tt

-- each record has a bucket
pub places_of : (buckets : ℕ) → 0 < buckets → (r : Rid) → bucket_of buckets r < buckets
unfolding bucket_of
places_of buckets k r = mod-lt (r.key % buckets + 31 * r.table.0) k

pub within : (b : Bool) (P Q : Type 0) → b ≡ true → P → MatchBool b P Q
within true P Q e p = p
within false P Q e p = absurd (let k : false ≡ true = e in cc)

pub outwith : (b : Bool) (P Q : Type 0) → b ≡ false → Q → MatchBool b P Q
outwith true P Q e q = absurd (let k : true ≡ false = e in cc)
outwith false P Q e q = q

pub same_table : (t other : TableId) → t.0 ≡ other.0 → t ≡ other
same_table t other e = λ i. record { 0 = e i }

pub undeclared : (scope : Scope) (t table : TableId) (Else : Type 0) → IsFalse (has scope t) → t.0 ≡ table.0 → WithinScope scope table (Undeclared t) Else
undeclared scope t table Else h e = outwith (has scope table) _ _ (ap (has scope) (sym (same_table t table e)) ∙ h) e

-- ---- one key of a bucket

-- its own bucket shows a record
pub shown_here : (buckets : ℕ) (r : Rid) (f : Rid → Image) → in_bucket buckets (bucket_of buckets r) r.table f r.key ≡ f r
shown_here buckets r f = ap (λ b. if b then f r else nothing) (same_number (bucket_of buckets r))

-- a row that a bucket shows
pub row_here : (buckets b : ℕ) (t : TableId) (f : Rid → Image) (key : ℕ) (row : List Value) → (in_bucket buckets b t f key).row ≡ Some row → (f (record { table = t; key = key })).row ≡ Some row
row_here buckets b t f key row e = go (bucket_of buckets (record { table = t; key = key }) == b) e
  where
    go : (x : Bool) → (if x then f (record { table = t; key = key }) else nothing).row ≡ Some row → (f (record { table = t; key = key })).row ≡ Some row
    go true e = e
    go false e = absurd (let k : None ≡ Some row = e in cc)

pub seen_row : (buckets : ℕ) (r : Rid) (f : Rid → Image) (row : List Value) → AreRows (in_bucket buckets (bucket_of buckets r) r.table f) r.key r.key ((r.key, row) ∷ []) → (f r).row ≡ Some row
seen_row buckets r f row a = row_here buckets (bucket_of buckets r) r.table f r.key row a.each.0.2

pub seen_nothing : (buckets : ℕ) (r : Rid) (f : Rid → Image) → AreRows (in_bucket buckets (bucket_of buckets r) r.table f) r.key r.key [] → (f r).row ≡ None
seen_nothing buckets r f a = go (a.every r.key (omega arith) (omega arith))
  where
    go : IsTrue false ⊎ ((in_bucket buckets (bucket_of buckets r) r.table f r.key).row ≡ None) → (f r).row ≡ None
    go (inl e) = absurd (let k : false ≡ true = e in cc)
    go (inr e) = ap (λ (i : Image). i.row) (sym (shown_here buckets r f)) ∙ e

-- ---- get, put and del

pub get_right : (buckets : ℕ) (h : History) (logs : ℕ → List LogEntry) (j : ℕ) (r : Rid) (a : Answer) (l : List LogEntry) (c : Snapshot) → current l ≡ Some c →
    FitsTable r.table a (IsGetAnswer a) → AreReplied buckets h logs j (get_entries buckets r a ++ l) →
    WithinScope c.scope r.table a (IsGot (seen h (own_writes l) c.at r) a)
get_right buckets h logs j r (Found row) l c e f g = let k = of_some (current l) _ c e g.0 in within (has c.scope r.table) _ _ k.0 (seen_row buckets r (seen h (own_writes l) c.at) row k.1)
get_right buckets h logs j r Nothing l c e f g = let k = of_some (current l) _ c e g.0 in within (has c.scope r.table) _ _ k.0 (seen_nothing buckets r (seen h (own_writes l) c.at) k.1)
get_right buckets h logs j r (Undeclared t) l c e f g = undeclared c.scope t r.table (IsGot (seen h (own_writes l) c.at r) (Undeclared t)) (of_some (current l) _ c e g.0) f
get_right buckets h logs j r _ l c e f g = absurd f

pub put_right : (buckets : ℕ) (h : History) (logs : ℕ → List LogEntry) (j : ℕ) (r : Rid) (row : List Value) (a : Answer) (l : List LogEntry) (c : Snapshot) → current l ≡ Some c →
    FitsTable r.table a (IsPut a) → AreReplied buckets h logs j (put_entries r row a ++ l) →
    WithinScope c.scope r.table a (IsPut a)
put_right buckets h logs j r row Stored l c e f g = within (has c.scope r.table) _ _ (of_some (current l) _ c e g.0.0) tt
put_right buckets h logs j r row (Newer n) l c e f g = within (has c.scope r.table) _ _ (of_some (current l) _ c e g.0).0 tt
put_right buckets h logs j r row (OpenBy w) l c e f g = within (has c.scope r.table) _ _ (of_some (current l) _ c e g.0).0 tt
put_right buckets h logs j r row (Undeclared t) l c e f g = undeclared c.scope t r.table (IsPut (Undeclared t)) (of_some (current l) _ c e g.0) f
put_right buckets h logs j r row _ l c e f g = absurd f

pub is_there : (o : Option (List Value)) (row : List Value) → o ≡ Some row → IsSome o
is_there o row e = subst (λ p. IsSome p) (sym e) refl

pub del_right : (buckets : ℕ) (h : History) (logs : ℕ → List LogEntry) (j : ℕ) (found : List Value) (r : Rid) (a : Answer) (l : List LogEntry) (c : Snapshot) → current l ≡ Some c →
    FitsTable r.table a (IsDelAnswer a) → AreReplied buckets h logs j (del_entries buckets found r a ++ l) →
    WithinScope c.scope r.table a (IsDeleted (seen h (own_writes l) c.at r) a)
del_right buckets h logs j found r Nothing l c e f g = let k = of_some (current l) _ c e g.0 in within (has c.scope r.table) _ _ k.0 (seen_nothing buckets r (seen h (own_writes l) c.at) k.1)
del_right buckets h logs j found r Gone l c e f g = let k = of_some (current l) _ c e g.1.0 in
    within (has c.scope r.table) _ _ k.0 (is_there (seen h (own_writes l) c.at r).row found (seen_row buckets r (seen h (own_writes l) c.at) found k.1))
del_right buckets h logs j found r (Newer n) l c e f g = let k = of_some (current l) _ c e g.1.0 in
    within (has c.scope r.table) _ _ k.0 (is_there (seen h (own_writes l) c.at r).row found (seen_row buckets r (seen h (own_writes l) c.at) found k.1))
del_right buckets h logs j found r (OpenBy w) l c e f g = let k = of_some (current l) _ c e g.1.0 in
    within (has c.scope r.table) _ _ k.0 (is_there (seen h (own_writes l) c.at r).row found (seen_row buckets r (seen h (own_writes l) c.at) found k.1))
del_right buckets h logs j found r (Undeclared t) l c e f g = undeclared c.scope t r.table (IsDeleted (seen h (own_writes l) c.at r) (Undeclared t)) (of_some (current l) _ c e g.0) f
del_right buckets h logs j found r _ l c e f g = absurd f

-- ---- scan

-- reads leave the open transaction and its writes as they are
saws_same : (buckets : ℕ) (t : TableId) (low high : ℕ) (part : ℕ → List (ℕ × List Value)) (n : ℕ) (l : List LogEntry) →
    (current (saws buckets t low high part n ++ l) ≡ current l) × (own_writes (saws buckets t low high part n ++ l) ≡ own_writes l)
saws_same buckets t low high part n l = saws_keep (λ m. (current m ≡ current l) × (own_writes m ≡ own_writes l)) buckets t low high part n l (λ b rows m same. same) (refl, refl)

-- bucket b of a scan
abbrev pub SawPart : ℕ → History → List Write → Snapshot → TableId → ℕ → ℕ → (ℕ → List (ℕ × List Value)) → ℕ → Type 0
SawPart buckets h own c t low high part b = IsTrue (has c.scope t) × AreRows (in_bucket buckets b t (seen h own c.at)) low high (part b)

pub saws_replied : (buckets : ℕ) (h : History) (logs : ℕ → List LogEntry) (j : ℕ) (t : TableId) (low high : ℕ) (part : ℕ → List (ℕ × List Value)) (n : ℕ) (l : List LogEntry)
    (c : Snapshot) → current l ≡ Some c → AreReplied buckets h logs j (saws buckets t low high part n ++ l) → (b : ℕ) → b < n → has_own buckets t low high b ≡ true →
    SawPart buckets h (own_writes l) c t low high part b
saws_replied buckets h logs j t low high part zero l c e g b k has = absurd (omega (arith, k))
saws_replied buckets h logs j t low high part (suc n) l c e g b k has =
    cases (b == n)
    (λ same. let is : b ≡ n = (Decides-eqb b n).0 same in subst (SawPart buckets h (own_writes l) c t low high part) (sym is)
    (newest (has_own buckets t low high n) (ap (has_own buckets t low high) (sym is) ∙ has) g))
    (λ other. saws_replied buckets h logs j t low high part n l c e (older (has_own buckets t low high n) g) b (below_else b n k other) has)
  where
    AreSeen : Bool → Type 0
    AreSeen x = AreReplied buckets h logs j ((if x then Saw t low high n (part n) ∷ saws buckets t low high part n else saws buckets t low high part n) ++ l)

    newest : (x : Bool) → x ≡ true → AreSeen x → SawPart buckets h (own_writes l) c t low high part n
    newest true is g =
        let same_log = saws_same buckets t low high part n l in
        subst (λ ws. SawPart buckets h ws c t low high part n) same_log.1 (of_some (current (saws buckets t low high part n ++ l)) _ c (same_log.0 ∙ e) g.0)
    newest false is g = absurd (true_false (sym is))

    older : (x : Bool) → AreSeen x → AreReplied buckets h logs j (saws buckets t low high part n ++ l)
    older true g = g.1
    older false g = g

    below_else : (m i : ℕ) → m < suc i → (m == i) ≡ false → m < i
    below_else m i q e = grind (arith, nat_tests)

pub contains_any : {X : Type 0} (p : X → Bool) (x : X) (xs : List X) → Contains xs x → p x ≡ true → list_any p xs ≡ true
contains_any p x [] (k, within, e) h = absurd (omega (arith, within))
contains_any p x (z ∷ zs) (zero, within, e) h = or_left (p z) (list_any p zs) (ap p e ∙ h)
contains_any p x (z ∷ zs) (suc k, within, e) h = let less : k < length zs = omega (arith, within) in or_right (p z) (list_any p zs) (contains_any p x zs (k, less, e) h)

-- where one of the list passes, and all of it are among others, one of the others passes
pub any_contained : {X : Type 0} (p : X → Bool) (xs ys : List X) → Each (λ x. Contains ys x) xs → list_any p xs ≡ true → list_any p ys ≡ true
any_contained p [] ys h e = absurd (let k : false ≡ true = e in cc)
any_contained p (x ∷ xs) ys h e = cases (p x) (λ q. contains_any p x ys h.0 q) (λ q. any_contained p xs ys h.1 (sym (ap (λ b. b || list_any p xs) q) ∙ e))

-- the rows of all parts are those of the range
pub joined_rows : (buckets : ℕ) (t : TableId) (f : Rid → Image) (low high : ℕ) (part : ℕ → List (ℕ × List Value)) (rows : List (ℕ × List Value)) →
    ((r : Rid) → bucket_of buckets r < buckets) → Joins (IsReached buckets t low high) part rows → ((b : ℕ) → IsReached buckets t low high b → AreRows (in_bucket buckets b t f) low high (part b)) →
    AreRows (λ key. f (record { table = t; key = key })) low high rows
joined_rows buckets t f low high part rows places joins parts = record {
  ascend = joins.ascend;
  each = each_keeps (λ (p : ℕ × List Value). (b : ℕ) × IsReached buckets t low high b × Contains (part b) p) (λ (p : ℕ × List Value). (low ≤ p.0) × (p.0 ≤ high) ×
      ((f (record { table = t; key = p.0 })).row ≡ Some p.1)) (λ p m. one p m.0 m.1 m.2) rows joins.each;
  every = λ key lo hi.
      let b = bucket_of buckets (record { table = t; key = key }) in
      let is : IsReached buckets t low high b = (places (record { table = t; key = key }), reached buckets t low high key lo hi) in
      here key (any_contained (λ p. p.0 == key) (part b) rows (joins.every b is)) ((parts b is).every key lo hi);
}
  where
    one : (p : ℕ × List Value) (b : ℕ) → IsReached buckets t low high b → Contains (part b) p → (low ≤ p.0) × (p.0 ≤ high) × ((f (record { table = t; key = p.0 })).row ≡ Some p.1)
    one p b k c = let q = each_at (λ (p : ℕ × List Value). (low ≤ p.0) × (p.0 ≤ high) × ((in_bucket buckets b t f p.0).row ≡ Some p.1)) (part b) p (parts b k).each c in
        (q.0, q.1, row_here buckets b t f p.0 p.1 q.2)

    here : (key : ℕ) → (list_any (λ p. p.0 == key) (part (bucket_of buckets (record { table = t; key = key }))) ≡ true → list_any (λ p. p.0 == key) rows ≡ true) →
        IsTrue (list_any (λ p. p.0 == key) (part (bucket_of buckets (record { table = t; key = key })))) ⊎
        ((in_bucket buckets (bucket_of buckets (record { table = t; key = key })) t f key).row ≡ None) →
        IsTrue (list_any (λ p. p.0 == key) rows) ⊎ ((f (record { table = t; key = key })).row ≡ None)
    here key k (inl q) = inl (k q)
    here key k (inr q) = inr (ap (λ (i : Image). i.row) (sym (shown_here buckets (record { table = t; key = key }) f)) ∙ q)

pub scan_right : (buckets : ℕ) (h : History) (logs : ℕ → List LogEntry) (j : ℕ) (part : ℕ → List (ℕ × List Value)) (t : TableId) (low high : ℕ) (a : Answer) (l : List LogEntry)
    (c : Snapshot) → ((r : Rid) → bucket_of buckets r < buckets) → current l ≡ Some c → FitsTable t a (IsScanAnswer (IsReached buckets t low high) part a) →
    FitsScope c.scope (Scan t low high) a → AreReplied buckets h logs j (scan_entries buckets part t low high a ++ l) →
    WithinScope c.scope t a (IsScanned (λ key. seen h (own_writes l) c.at (record { table = t; key = key })) low high a)
scan_right buckets h logs j part t low high (Rows rows) l c places e f s g =
    let saw : (b : ℕ) → b < buckets → has_own buckets t low high b ≡ true → SawPart buckets h (own_writes l) c t low high part b = saws_replied buckets h logs j t low high part buckets l c e g in
    within (has c.scope t) _ _ s (joined_rows buckets t (seen h (own_writes l) c.at) low high part rows places f (λ b k. (saw b k.0 k.1).1))
scan_right buckets h logs j part t low high (Undeclared other) l c places e f s g = undeclared c.scope other t
    (IsScanned (λ key. seen h (own_writes l) c.at (record { table = t; key = key })) low high (Undeclared other)) (of_some (current l) _ c e g.0) f
scan_right buckets h logs j part t low high _ l c places e f s g = absurd f

-- ---- fetch

any_found : {X : Type 0} (p : X → Bool) (xs : List X) → list_any p xs ≡ true → (x : X) × Contains xs x × (p x ≡ true)
any_found {X = X} p [] e = absurd (let k : false ≡ true = e in cc)
any_found {X = X} p (x ∷ xs) e = cases (p x)
    (λ t. (x, (0, omega arith, refl), t))
    (λ f.
    let more = any_found p xs (sym (ap (λ b. b || list_any p xs) f) ∙ e) in
    (more.0, behind more.1, more.2))
  where
    behind : {y : X} → Contains xs y → Contains (x ∷ xs) y
    behind (k, l, e) = (suc k, omega (arith, l), e)

looks_keep : (buckets : ℕ) (t : TableId) (low high : ℕ) (part : ℕ → List (ℕ × List Value)) (n : ℕ) (l : List LogEntry) →
    (current (looks buckets t low high part n ++ l) ≡ current l) × (own_writes (looks buckets t low high part n ++ l) ≡ own_writes l)
looks_keep buckets t low high part zero l = (refl, refl)
looks_keep buckets t low high part (suc n) l = looks_keep buckets t low high part n l

pub looks_replied : (buckets : ℕ) (h : History) (logs : ℕ → List LogEntry) (j : ℕ) (t : TableId) (low high : ℕ) (part : ℕ → List (ℕ × List Value)) (n : ℕ) (l : List LogEntry)
    (c : Snapshot) → current l ≡ Some c → AreReplied buckets h logs j (looks buckets t low high part n ++ l) → (i : ℕ) → i < n →
    AreRows (in_bucket buckets (bucket_at buckets t low i) t (seen h (own_writes l) c.at)) low high (part i)
looks_replied buckets h logs j t low high part zero l c e g i k = absurd (omega (arith, k))
looks_replied buckets h logs j t low high part (suc n) l c e g i k = cases (i == n)
    (λ same.
    let is : i ≡ n = (Decides-eqb i n).0 same in
    let kept = looks_keep buckets t low high part n l in
    subst (λ m. AreRows (in_bucket buckets (bucket_at buckets t low m) t (seen h (own_writes l) c.at)) low high (part m)) (sym is)
    (subst (λ ws. AreRows (in_bucket buckets (bucket_at buckets t low n) t (seen h ws c.at)) low high (part n)) kept.1
    (of_some (current (looks buckets t low high part n ++ l)) _ c (kept.0 ∙ e) g.0).1))
    (λ other. looks_replied buckets h logs j t low high part n l c e g.1 i (below other))
  where
    below : (i == n) ≡ false → i < n
    below other = grind (arith, nat_tests, other, k)

-- the rows that are picked are the first of the range
pub picked_rows : (buckets n : ℕ) (t : TableId) (f : Rid → Image) (low high looked : ℕ) (part : ℕ → List (ℕ × List Value)) (rows : List (ℕ × List Value)) →
    Picks buckets n t low high looked part rows → ((i : ℕ) → i < looked → AreRows (in_bucket buckets (bucket_at buckets t low i) t f) low high (part i)) →
    AreFirst (λ key. f (record { table = t; key = key })) n low high rows
picked_rows buckets n t f low high looked part rows picks parts = record {
  few = picks.few;
  within = picks.within;
  all = record {
    ascend = picks.ascend;
    each = each_keeps (λ (p : ℕ × List Value). ((i : ℕ) × (i < looked) × Contains (part i) p) × (p.0 ≤ passed n high rows)) (λ (p : ℕ × List Value). (low ≤ p.0) ×
        (p.0 ≤ passed n high rows) × ((f (record { table = t; key = p.0 })).row ≡ Some p.1)) (λ p m. one p m.0.0 m.0.1 m.0.2 m.1) rows picks.each;
    every = λ key lo hi. let i = picks.none_left key lo hi in there key hi i.0 i.1 i.2 ((parts i.0 i.1).every key lo (let b = picks.within in omega (arith, hi, b)));
  };
}
  where
    one : (p : ℕ × List Value) (i : ℕ) → i < looked → Contains (part i) p → p.0 ≤ passed n high rows → (low ≤ p.0) × (p.0 ≤ passed n high rows) × ((f (record { table = t; key = p.0 })).row ≡ Some p.1)
    one p i k c m = let q = each_at (λ (p : ℕ × List Value). (low ≤ p.0) × (p.0 ≤ high) × ((in_bucket buckets (bucket_at buckets t low i) t f p.0).row ≡ Some p.1)) (part i) p
        (parts i k).each c in (q.0, m, row_here buckets (bucket_at buckets t low i) t f p.0 p.1 q.2)

    there : (key : ℕ) → key ≤ passed n high rows → (i : ℕ) → i < looked → bucket_of buckets (record { table = t; key = key }) ≡ bucket_at buckets t low i →
        IsTrue (list_any (λ p. p.0 == key) (part i)) ⊎ ((in_bucket buckets (bucket_at buckets t low i) t f key).row ≡ None) →
        IsTrue (list_any (λ p. p.0 == key) rows) ⊎ ((f (record { table = t; key = key })).row ≡ None)
    there key m i k own (inl q) =
        let x = any_found (λ (p : ℕ × List Value). p.0 == key) (part i) q in
        let is : x.0.0 ≡ key = (Decides-eqb x.0.0 key).0 x.2 in
        inl (contains_any (λ p. p.0 == key) x.0 rows (each_at (λ p. p.0 ≤ passed n high rows → Contains rows p) (part i) x.0 (picks.every i k) x.1 (omega (arith, is, m))) x.2)
    there key m i k own (inr q) =
        let here = subst (λ b. in_bucket buckets b t f key ≡ f (record { table = t; key = key })) own (shown_here buckets (record { table = t; key = key }) f) in
        inr (ap (λ (x : Image). x.row) (sym here) ∙ q)

pub fetch_right : (buckets : ℕ) (h : History) (logs : ℕ → List LogEntry) (j n : ℕ) (rest : Option Rest) (part : ℕ → List (ℕ × List Value)) (looked : ℕ) (a : Answer)
    (l : List LogEntry) (c : Snapshot) → current l ≡ Some c → IsFetchAnswer buckets n rest part looked a → AreReplied buckets h logs j (fetch_entries buckets rest part looked a ++ l) →
    IsFetched (seen h (own_writes l) c.at) n rest a
fetch_right buckets h logs j n (Some rest) part looked (Rows rows) l c e f g = picked_rows buckets n rest.table (seen h (own_writes l) c.at) rest.low rest.high looked part rows f
    (looks_replied buckets h logs j rest.table rest.low rest.high part looked l c e g)
fetch_right buckets h logs j n (Some rest) part looked _ l c e f g = absurd f
fetch_right buckets h logs j n None part looked a l c e f g = absurd f

-- ---- any of them

pub answer_right : (mode : Mode) (buckets : ℕ) (h : History) (logs : ℕ → List LogEntry) (wrote : Bool) (rest : Option Rest) (u : Unprinted) (j : ℕ) (own : List Write)
    (s : Statement) (now : Said) (l : List LogEntry) (c : Snapshot) → ((r : Rid) → bucket_of buckets r < buckets) → current l ≡ Some c → now.scope ≡ c.scope →
    IsTrue (is_access s) → FitsAnswer buckets u own s now.reply.answer → FitsScope c.scope s now.reply.answer → AreReplied buckets h logs j (own_entries buckets u s now.reply.answer ++ l) →
    IsAnswer mode (seen h (own_writes l) c.at) wrote rest now s
answer_right mode buckets h logs wrote rest u j own (Get r) now l c places e sc i f k g = subst
    (λ scope. WithinScope scope r.table now.reply.answer (IsGot (seen h (own_writes l) c.at r) now.reply.answer)) (sym sc) (get_right buckets h logs j r now.reply.answer l c e f g)
answer_right mode buckets h logs wrote rest u j own (Put r row) now l c places e sc i f k g = subst (λ scope. WithinScope scope r.table now.reply.answer (IsPut now.reply.answer))
    (sym sc) (put_right buckets h logs j r row now.reply.answer l c e f g)
answer_right mode buckets h logs wrote rest u j own (Del r) now l c places e sc i f k g = subst
    (λ scope. WithinScope scope r.table now.reply.answer (IsDeleted (seen h (own_writes l) c.at r) now.reply.answer)) (sym sc) (del_right buckets h logs j u.found r now.reply.answer l c e f g)
answer_right mode buckets h logs wrote rest u j own (Scan t low high) now l c places e sc i f k g = subst
    (λ scope. WithinScope scope t now.reply.answer (IsScanned (λ key. seen h (own_writes l) c.at (record { table = t; key = key })) low high now.reply.answer)) (sym sc)
    (scan_right buckets h logs j u.part t low high now.reply.answer l c places e f k g)
answer_right mode buckets h logs wrote rest u j own _ now l c places e sc i f k g = absurd (let z : false ≡ true = i in cc)
