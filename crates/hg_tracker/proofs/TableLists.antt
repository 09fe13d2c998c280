-- The lists of a gather: how long they are, and which snapshots count for a table.
use Rattle.std.proofs.Common.{◌≡◌, ℕ, zero, suc, ◌+◌, ◌<◌, ◌≤◌, Bool, true, false, Option, List, [], ◌∷◌, ◌++◌, length, map, filter, get_or}
use Rattle.std.proofs.Common.{if◌then◌else◌, not, ◌||◌, refl, sym, ap, ◌∙◌, subst, arith, take, append-nil, length-append, Vec, vec_capacity, All}
use Rattle.std.proofs.lemmas.List.{map-append}
use Rattle.std.proofs.lemmas.List.Elements.{All-push, All-same, filter_more}
use Rattle.std.specs.declared.alloc.Global.{Global}
use Rattle.hg_base.specs.declared.report.Entry.{Entry}
use Rattle.hg_core.specs.declared.loaded.Loaded.{Loaded}
use Rattle.hg_core.specs.declared.register.Register.{Register}
use Rattle.hg_core.specs.declared.register.Register.TheVariants.{Idle, Entering, Live}
use Rattle.hg_rule.specs.Rounds.{live_entry, entries_of}
use Rattle.hg_tracker.specs.Entries.{has_number, counts_for, numbers_for, common_numbers, moved_of, served}
use Rattle.hg_tracker.specs.Gathers.{AreEmpty, AreListsOf}

-- ---- lengths

picked_most : (b : Bool) (e : Entry) (table : ℕ) (es : List Entry) → length (numbers_for table es) ≤ length es →
    length (map (λ (x : Entry). x.number) (if b then e ∷ filter (counts_for table) es else filter (counts_for table) es)) ≤ suc (length es)
picked_most true e table es h = omega arith
picked_most false e table es h = omega arith

pub numbers_most : (table : ℕ) (es : List Entry) → length (numbers_for table es) ≤ length es
numbers_most table [] = omega arith
numbers_most table (e ∷ es) = picked_most (counts_for table e) e table es (numbers_most table es)

live_most : (j : ℕ) (register : Register) (mask : Option ℕ) → length (live_entry j register mask) ≤ 1
live_most j Idle mask = omega arith
live_most j (Entering f) mask = omega arith
live_most j (Live n declared moved) mask = omega arith

pub entries_most : (loaded : List (ℕ × Loaded)) → length (entries_of loaded) ≤ length loaded
entries_most [] = omega arith
entries_most (e ∷ loaded) = omega (arith, entries_most loaded, live_most e.0 e.1.register e.1.mask, length-append (entries_of loaded) (live_entry e.0 e.1.register e.1.mask))

-- ---- lists of tables

pub lists_snoc : (t : ℕ) (common : List ℕ) (ranked : List Entry) (lists : List (Vec ℕ Global)) (list : Vec ℕ Global) → AreListsOf t common ranked lists →
    served common list.items ≡ numbers_for (t + length lists) ranked → AreListsOf t common ranked (lists ++ list ∷ [])
lists_snoc t common ranked [] list h e = (e ∙ ap (λ n. numbers_for n ranked) (plain t), tt)
  where
    plain : (n : ℕ) → n + 0 ≡ n
    plain n = omega arith
lists_snoc t common ranked (l ∷ lists) list h e = (h.0, lists_snoc (suc t) common ranked lists list h.1 (e ∙ ap (λ n. numbers_for n ranked) (shift t (length lists))))
  where
    shift : (a n : ℕ) → a + suc n ≡ suc a + n
    shift a n = omega arith

pub list_at : (t : ℕ) (common : List ℕ) (ranked : List Entry) (lists : List (Vec ℕ Global)) (k : ℕ) (d : Vec ℕ Global) → k < length lists → AreListsOf t common ranked lists →
    served common (get_or lists k d).items ≡ numbers_for (t + k) ranked
list_at t common ranked [] k d l h = absurd (omega arith)
list_at t common ranked (x ∷ lists) zero d l h = h.0 ∙ ap (λ n. numbers_for n ranked) (plain t)
  where
    plain : (n : ℕ) → n ≡ n + 0
    plain n = omega arith
list_at t common ranked (x ∷ lists) (suc k) d l h = list_at (suc t) common ranked lists k d (omega arith) h.1 ∙ ap (λ n. numbers_for n ranked) (shift t k)
  where
    shift : (a n : ℕ) → suc a + n ≡ a + suc n
    shift a n = omega arith

-- ---- what a table is served

pub common_most : (es : List Entry) → length (common_numbers es) ≤ length es
common_most [] = omega arith
common_most (e ∷ es) = go e.moved (common_most es)
  where
    go : (m : Bool) → length (common_numbers es) ≤ length es → length
        (map (λ (x : Entry). x.number) (if not m then e ∷ filter (λ x. not x.moved) es else filter (λ x. not x.moved) es)) ≤ suc (length es)
    go true h = omega (arith, h)
    go false h = omega (arith, h)

pub moved_most : (es : List Entry) → length (moved_of es) ≤ length es
moved_most [] = omega arith
moved_most (e ∷ es) = go e.moved (moved_most es)
  where
    go : (m : Bool) → length (moved_of es) ≤ length es → length (if m then e ∷ moved_of es else moved_of es) ≤ suc (length es)
    go true h = omega (arith, h)
    go false h = omega (arith, h)

left_out : (c : Bool) (e : Entry) (es : List Entry) → map (λ (x : Entry). x.number) (if c then e ∷ es else es) ≡ [] → (c ≡ false) × (map (λ (x : Entry). x.number) es ≡ [])
left_out true e es h = absurd (grind (arith, h))
left_out false e es h = (refl, h)

unmoved_counts : (t : ℕ) (e : Entry) → e.moved ≡ false → counts_for t e ≡ true
unmoved_counts t e q = subst (λ m. (not m || has_number e.scope t) ≡ true) (sym q) refl

none_own : (t : ℕ) (es : List Entry) → numbers_for t (moved_of es) ≡ [] → filter (λ x. not x.moved) es ≡ filter (counts_for t) es
none_own t [] h = refl
none_own t (e ∷ es) h = go e.moved (counts_for t e) refl (unmoved_counts t e) h (none_own t es)
  where
    U : List Entry
    U = filter (λ x. not x.moved) es

    F : List Entry
    F = filter (counts_for t) es

    go : (m c : Bool) → c ≡ counts_for t e → (m ≡ false → c ≡ true) → numbers_for t (if m then e ∷ moved_of es else moved_of es) ≡ [] → (numbers_for t (moved_of es) ≡ [] → U ≡ F) →
        (if not m then e ∷ U else U) ≡ (if c then e ∷ F else F)
    go false true q k h f = ap (λ l. e ∷ l) (f h)
    go false false q k h f = absurd (let bad : false ≡ true = k refl in grind (arith, bad))
    go true c q k h f =
        let d = left_out (counts_for t e) e (filter (counts_for t) (moved_of es)) h in
        let out : false ≡ c = sym (q ∙ d.0) in
        subst (λ x. U ≡ (if x then e ∷ F else F)) out (f d.1)

-- no moved entry counts for the table
pub served_common : (t : ℕ) (es : List Entry) (own : List ℕ) → own ≡ numbers_for t (moved_of es) → length own ≡ 0 → served (common_numbers es) own ≡ numbers_for t es
served_common t es [] q l = ap (map (λ (x : Entry). x.number)) (none_own t es (sym q))
served_common t es (n ∷ own) q l = absurd (omega (arith, l))

none_common : (t : ℕ) (es : List Entry) → numbers_for t es ≡ [] → common_numbers es ≡ []
none_common t [] h = refl
none_common t (e ∷ es) h = go e.moved (unmoved_counts t e) (none_common t es)
  where
    d : (counts_for t e ≡ false) × (numbers_for t es ≡ [])
    d = left_out (counts_for t e) e (filter (counts_for t) es) h

    go : (m : Bool) → (m ≡ false → counts_for t e ≡ true) → (numbers_for t es ≡ [] → common_numbers es ≡ []) →
        map (λ (x : Entry). x.number) (if not m then e ∷ filter (λ x. not x.moved) es else filter (λ x. not x.moved) es) ≡ []
    go true k f = f d.1
    go false k f = absurd (let bad : false ≡ true = sym d.0 ∙ k refl in grind (arith, bad))

-- the list has all that count for the table
pub served_own : (t : ℕ) (es : List Entry) (own : List ℕ) → own ≡ numbers_for t es → served (common_numbers es) own ≡ numbers_for t es
served_own t es [] q = none_common t es (sym q) ∙ q
served_own t es (n ∷ own) q = q

-- where no entry was moved, none counts for a table, and no table needs a list of its own
pub none_of : (t : ℕ) (es : List Entry) → length es ≡ 0 → length (numbers_for t es) ≡ 0
none_of t [] l = refl
none_of t (e ∷ es) l = absurd (omega (arith, l))

pub none_listed : (t : ℕ) (ranked : List Entry) (lists : List (Vec ℕ Global)) → length (moved_of ranked) ≡ 0 → AreEmpty lists → AreListsOf t (common_numbers ranked) ranked lists
none_listed t ranked [] none h = tt
none_listed t ranked (list ∷ lists) none h = (
  served_common t ranked list.items (same list.items h.0 (numbers_for t (moved_of ranked)) (none_of t (moved_of ranked) none)) h.0,
  none_listed (suc t) ranked lists none h.1,
)
  where
    same : (xs : List ℕ) → length xs ≡ 0 → (ys : List ℕ) → length ys ≡ 0 → xs ≡ ys
    same [] a [] b = refl
    same [] a (y ∷ ys) b = absurd (omega (arith, b))
    same (x ∷ xs) a ys b = absurd (omega (arith, a))

pub empty_snoc : (lists : List (Vec ℕ Global)) (list : Vec ℕ Global) → AreEmpty lists → length list.items ≡ 0 → AreEmpty (lists ++ list ∷ [])
empty_snoc [] list h e = (e, tt)
empty_snoc (l ∷ lists) list h e = (h.0, empty_snoc lists list h.1 e)

-- one list more, with its room and nothing in it
pub one_list_more : (sessions n : ℕ) (lists now : List (Vec ℕ Global)) (list : Vec ℕ Global) → now ≡ lists ++ list ∷ [] → sessions ≤ vec_capacity list → list.items ≡ []
    → (length lists ≡ n) × All (λ l. sessions ≤ vec_capacity l) lists × AreEmpty lists → (length now ≡ n + 1) × All (λ l. sessions ≤ vec_capacity l) now × AreEmpty now
one_list_more sessions n lists now list e room none h = (
  omega (arith, ap length e, length-append lists (list ∷ []), h.0),
  All-same (λ l. sessions ≤ vec_capacity l) now (lists ++ list ∷ []) e (All-push (λ l. sessions ≤ vec_capacity l) lists list h.1 room),
  subst AreEmpty (sym e) (empty_snoc lists list h.2 (ap length none)),
)

-- ---- item by item

-- an entry more that a filter keeps, and one that it drops
pub keeps_next : (p : Entry → Bool) (es : List Entry) (i : ℕ) (d : Entry) → i < length es → p (get_or es i d) ≡ true → filter p (take (i + 1) es) ≡ filter p (take i es) ++ get_or es i d ∷ []
keeps_next p es i d inside kept = filter_more p es i d inside ∙ ap (λ (b : Bool). filter p (take i es) ++ (if b then get_or es i d ∷ [] else [])) kept

pub drops_next : (p : Entry → Bool) (es : List Entry) (i : ℕ) (d : Entry) → i < length es → p (get_or es i d) ≡ false → filter p (take (i + 1) es) ≡ filter p (take i es)
drops_next p es i d inside dropped = filter_more p es i d inside ∙ (ap (λ (b : Bool). filter p (take i es) ++ (if b then get_or es i d ∷ [] else [])) dropped ∙ append-nil (filter p (take i es)))

-- and their numbers
pub keeps_number : (p : Entry → Bool) (es : List Entry) (i : ℕ) (d : Entry) → i < length es → p (get_or es i d) ≡ true
    → map (λ (e : Entry). e.number) (filter p (take (i + 1) es)) ≡ map (λ (e : Entry). e.number) (filter p (take i es)) ++ (get_or es i d).number ∷ []
keeps_number p es i d inside kept = ap (map (λ (e : Entry). e.number)) (keeps_next p es i d inside kept) ∙ map-append (λ (e : Entry). e.number) (filter p (take i es)) (get_or es i d ∷ [])

-- a push that did not fail, and so appended
pub pushed : {A : Type 0} (ok failed : Bool) (now more old : List A) → now ≡ (if ok then more else old) → ok ≡ not failed → failed ≡ false → now ≡ more
pushed ok failed now more old e is went = e ∙ ap (λ (b : Bool). if b then more else old) (is ∙ ap not went)

-- what was appended comes after what was there
pub appended : {A : Type 0} (front part next : List A) (x : A) → front ≡ part → next ≡ part ++ x ∷ [] → front ++ x ∷ [] ≡ next
appended {A} front part next x e f = ap (λ (l : List A). l ++ x ∷ []) e ∙ sym f
