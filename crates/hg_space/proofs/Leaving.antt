-- A record is taken out of a list: where each other one is afterwards, and what callers see of it.
use Rattle.std.proofs.Common.{◌≡◌, ℕ, zero, suc, ◌-◌, ◌<◌, ◌≤◌, List, [], ◌∷◌, length, take, set, Bool, true, false, Option, Some, None, refl, sym, ap, ◌∙◌, subst}
use Rattle.std.proofs.Common.{arith, slice_get, inl, inr, ◌⊎◌}
use Rattle.std.specs.Prelude.{Vec, slice_index_or, nat_lt, ◌==◌, ◌↔◌, option_map}
use Rattle.std.specs.declared.alloc.Global.{Global}
use Rattle.std.specs.List.{swap_remove}
use Rattle.std.proofs.lemmas.Bool.Decides.{nat_tests}
use Rattle.std.proofs.lemmas.List.{take-take, take-set-le}
use Rattle.std.proofs.lemmas.Option.{none-some, same_Some, slice_get_within, slice_get-get_or, get_or_from_slice_get}
use Rattle.hg_space.specs.declared.roster.Listed.{Listed}
use Rattle.hg_space.specs.declared.roster.Standing.{Standing}
use Rattle.hg_space.specs.Rosters.{list_of, lists_in, trimmed, Has, StandsIn, standing_at, AreStanding, StandOnce}
use Rattle.hg_space.proofs.LinkFacts.{get_apart, get_same}
use Rattle.hg_space.proofs.RosterFacts.{trimmed_list, seen_list, seen_apart, list_read, list_set}

get_take : {X : Type 0} (n : ℕ) (xs : List X) (j : ℕ) → j < n → slice_get (take n xs) j ≡ slice_get xs j
get_take zero xs j h = absurd (omega (arith, h))
get_take (suc n) [] j h = refl
get_take (suc n) (x ∷ xs) zero h = refl
get_take (suc n) (x ∷ xs) (suc j) h = get_take n xs j (omega (arith, h))

get_take_past : {X : Type 0} (n : ℕ) (xs : List X) (j : ℕ) → n ≤ j → slice_get (take n xs) j ≡ None
get_take_past zero xs j h = refl
get_take_past (suc n) [] j h = refl
get_take_past (suc n) (x ∷ xs) zero h = absurd (omega (arith, h))
get_take_past (suc n) (x ∷ xs) (suc j) h = get_take_past n xs j (omega (arith, h))

-- the last index
abbrev pub end_of : {X : Type 0} → List X → ℕ
end_of xs = length xs - 1

-- what stands where afterwards: the last one at the index, and each other one as before
pub swapped_apart : {X : Type 0} (xs : List X) (i : ℕ) (d : X) (j : ℕ) → (j ≡ i → ⊥) → j < end_of xs → slice_get (swap_remove xs i d) j ≡ slice_get xs j
swapped_apart xs i d j apart less = get_take (end_of xs) _ j less ∙ get_apart xs i j _ apart

pub swapped_here : {X : Type 0} (xs : List X) (i : ℕ) (d : X) → i < end_of xs → slice_get (swap_remove xs i d) i ≡ slice_get xs (end_of xs)
swapped_here xs i d less =
    get_take (end_of xs) _ i less
    ∙ get_same xs i _ (slice_index_or xs (end_of xs) d) (slice_get-get_or xs i d (omega (arith, less)))
    ∙ sym (slice_get-get_or xs (end_of xs) d (omega (arith, less)))

pub swapped_past : {X : Type 0} (xs : List X) (i : ℕ) (d : X) (j : ℕ) → end_of xs ≤ j → slice_get (swap_remove xs i d) j ≡ None
swapped_past xs i d j past = get_take_past (end_of xs) _ j past

pub front_stays : {X : Type 0} (xs : List X) (i : ℕ) (d : X) → i < length xs → take i (swap_remove xs i d) ≡ take i xs
front_stays xs i d within = take-take i (end_of xs) _ (omega (arith, within)) ∙ take-set-le i xs i _ (omega arith)

-- where one stood before that stands there now
abbrev pub Stood : {X : Type 0} → List X → ℕ → ℕ → X → Type 0
Stood xs i j e = ((j ≡ i) × (i < end_of xs) × (slice_get xs (end_of xs) ≡ Some e)) ⊎ ((j ≡ i → ⊥) × (j < end_of xs) × (slice_get xs j ≡ Some e))

pub stood : {X : Type 0} (xs : List X) (i : ℕ) (d : X) (j : ℕ) (e : X) → slice_get (swap_remove xs i d) j ≡ Some e → Stood xs i j e
stood xs i d j e h = go (nat_lt j (end_of xs)) refl (j == i) refl
  where
    go : (a : Bool) → nat_lt j (end_of xs) ≡ a → (b : Bool) → (j == i) ≡ b → Stood xs i j e
    go false k b m = absurd (none-some e (sym (swapped_past xs i d j (grind (arith, nat_tests, k))) ∙ h))
    go true k true m =
        let same : j ≡ i = grind (arith, nat_tests, m) in
        let less : j < end_of xs = grind (arith, nat_tests, k) in
        let within : i < end_of xs = omega (arith, same, less) in
        inl (same, within, sym (swapped_here xs i d within) ∙ ap (slice_get (swap_remove xs i d)) (sym same) ∙ h)
    go true k false m =
        let apart : j ≡ i → ⊥ = λ same. grind (arith, nat_tests, m, same) in
        let less : j < end_of xs = grind (arith, nat_tests, k) in
        inr (apart, less, sym (swapped_apart xs i d j apart less) ∙ h)

-- a place stands once
pub stands_once : (ls : List (List Listed)) (ss : List Standing) (t u i j : ℕ) (e f : Listed) → AreStanding ls ss → slice_get (list_of ls t) i ≡ Some e →
    slice_get (list_of ls u) j ≡ Some f → e.place ≡ f.place → (t ≡ u) × (i ≡ j)
stands_once ls ss t u i j e f h there too same =
    let both : standing_at t i ≡ standing_at u j = same_Some (standing_at t i) (standing_at u j) (sym (h t i e there) ∙ ap (slice_get ss) same ∙ h u j f too) in
    (ap (λ (s : Standing). s.table.0) both, ap (λ (s : Standing). s.at) both)

pub seen_once : (ls vs : List (List Listed)) (ss : List Standing) → trimmed ls ≡ vs → AreStanding ls ss → StandOnce vs
seen_once ls vs ss view h = λ t u i j e f there too same. stands_once ls ss t u i j e f h (ap (λ xs. slice_get xs i) (seen_list ls vs t view) ∙ there)
    (ap (λ xs. slice_get xs j) (seen_list ls vs u view) ∙ too) same

-- x, which stood at i, was taken out
pub record Leaves (ls ms : List (List Listed)) (t i : ℕ) (x : Listed) : Type 0 where
  pub was : slice_get (list_of ls t) i ≡ Some x
  pub list : list_of ms t ≡ swap_remove (list_of ls t) i x
  pub others : (u : ℕ) → (u ≡ t → ⊥) → list_of ms u ≡ list_of ls u

-- where a record of the list stood before
pub stood_in : (ls ms : List (List Listed)) (t i : ℕ) (x : Listed) → Leaves ls ms t i x → (j : ℕ) (e : Listed) → slice_get (list_of ms t) j ≡ Some e → Stood (list_of ls t) i j e
stood_in ls ms t i x l j e h = stood (list_of ls t) i x j e (ap (λ xs. slice_get xs j) (sym l.list) ∙ h)

-- the standings ts tell of each record that has not moved as ss do, and of one at i that it stands there
restands : (ls ms : List (List Listed)) (ss ts : List Standing) (t i : ℕ) (x : Listed) → AreStanding ls ss → Leaves ls ms t i x
    → ((u j : ℕ) (e : Listed) → slice_get (list_of ls u) j ≡ Some e → ((u ≡ t) × (j ≡ end_of (list_of ls t)) × (i < end_of (list_of ls t)) → ⊥) → slice_get ts e.place ≡ slice_get ss e.place)
    → ((e : Listed) → slice_get (list_of ms t) i ≡ Some e → slice_get ts e.place ≡ Some (standing_at t i))
    → AreStanding ms ts
restands ls ms ss ts t i x h l apart here = λ u j e there. go u j e there (u == t) refl
  where
    at_place : (j : ℕ) (e : Listed) → slice_get (list_of ms t) j ≡ Some e → Stood (list_of ls t) i j e → slice_get ts e.place ≡ Some (standing_at t j)
    at_place j e there (inl s) = here e (ap (slice_get (list_of ms t)) (sym s.0) ∙ there) ∙ ap (λ n. Some (standing_at t n)) (sym s.0)
    at_place j e there (inr s) = apart t j e s.2 (λ k. let less = s.1 in omega (arith, k.1, less)) ∙ h t j e s.2

    go : (u j : ℕ) (e : Listed) → slice_get (list_of ms u) j ≡ Some e → (b : Bool) → (u == t) ≡ b → slice_get ts e.place ≡ Some (standing_at u j)
    go u j e there true k =
        let same : u ≡ t = grind (arith, nat_tests, k) in
        let now = ap (λ v. slice_get (list_of ms v) j) (sym same) ∙ there in
        at_place j e now (stood_in ls ms t i x l j e now) ∙ ap (λ v. Some (standing_at v j)) (sym same)
    go u j e there false k =
        let other : u ≡ t → ⊥ = λ same. grind (arith, nat_tests, k, same) in
        let was = ap (λ xs. slice_get xs j) (sym (l.others u other)) ∙ there in
        apart u j e was (λ n. other n.0) ∙ h u j e was

-- none came to the index
pub left_last : (ls ms : List (List Listed)) (ss : List Standing) (t i : ℕ) (x : Listed) → AreStanding ls ss → Leaves ls ms t i x →
    option_map (λ (e : Listed). e.place) (slice_get (list_of ms t) i) ≡ None → AreStanding ms ss
left_last ls ms ss t i x h l none = restands ls ms ss ss t i x h l (λ u j e was k. refl) (λ e there. absurd (none-some e.place (sym none ∙ ap (option_map (λ (f : Listed). f.place)) there)))

one_of : (o : Option Listed) (m : ℕ) → option_map (λ (e : Listed). e.place) o ≡ Some m → (f : Listed) × ((o ≡ Some f) × (f.place ≡ m))
one_of None m h = absurd (none-some m h)
one_of (Some f) m h = (f, (refl, same_Some f.place m h))

-- the last one came
pub record Comes (ls : List (List Listed)) (ss : List Standing) (t i m : ℕ) (f : Listed) : Type 0 where
  pub place : f.place ≡ m
  pub short : i < end_of (list_of ls t)
  pub was : slice_get (list_of ls t) (end_of (list_of ls t)) ≡ Some f
  pub stands : slice_get ss m ≡ Some (standing_at t (end_of (list_of ls t)))

comes : (ls ms : List (List Listed)) (ss : List Standing) (t i m : ℕ) (x : Listed) → AreStanding ls ss → Leaves ls ms t i x →
    option_map (λ (e : Listed). e.place) (slice_get (list_of ms t) i) ≡ Some m → (f : Listed) × ((slice_get (list_of ms t) i ≡ Some f) × Comes ls ss t i m f)
comes ls ms ss t i m x h l moved = go (one_of (slice_get (list_of ms t) i) m moved)
  where
    go : (f : Listed) × ((slice_get (list_of ms t) i ≡ Some f) × (f.place ≡ m)) → (f : Listed) × ((slice_get (list_of ms t) i ≡ Some f) × Comes ls ss t i m f)
    go f = by (stood_in ls ms t i x l i f.0 f.1.0)
      where
        by : Stood (list_of ls t) i i f.0 → (f : Listed) × ((slice_get (list_of ms t) i ≡ Some f) × Comes ls ss t i m f)
        by (inr s) = absurd (s.0 refl)
        by (inl s) = (f.0, (f.1.0, record { place = f.1.1; short = s.1; was = s.2; stands = ap (slice_get ss) (sym f.1.1) ∙ h t (end_of (list_of ls t)) f.0 s.2 }))

pub moved_within : (ls ms : List (List Listed)) (ss : List Standing) (t i m : ℕ) (x : Listed) → AreStanding ls ss → Leaves ls ms t i x →
    option_map (λ (e : Listed). e.place) (slice_get (list_of ms t) i) ≡ Some m → m < length ss
moved_within ls ms ss t i m x h l moved = let f = comes ls ms ss t i m x h l moved in slice_get_within ss m (standing_at t (end_of (list_of ls t))) f.1.1.stands

pub left_moved : (ls ms : List (List Listed)) (ss : List Standing) (t i m : ℕ) (x : Listed) (y : Standing) → AreStanding ls ss → Leaves ls ms t i x →
    option_map (λ (e : Listed). e.place) (slice_get (list_of ms t) i) ≡ Some m → y ≡ slice_index_or ss m y
    → AreStanding ms (set ss m (record { table = y.table; at = i }))
left_moved ls ms ss t i m x y h l moved read =
    restands ls ms ss (set ss m (record { table = y.table; at = i })) t i x h l
    (λ u j e was k. get_apart ss m e.place _ (λ same. let both = stands_once ls ss u t j (end_of (list_of ls t)) e f.0 h was f.1.1.was (same ∙ sym f.1.1.place) in k (both.0, both.1, f.1.1.short)))
    (λ e there.
    let one : e ≡ f.0 = same_Some e f.0 (sym there ∙ f.1.0) in
    ap (λ (z : Listed). slice_get (set ss m (record { table = y.table; at = i })) z.place) one
    ∙ ap (slice_get (set ss m (record { table = y.table; at = i }))) f.1.1.place
    ∙ get_same ss m (standing_at t (end_of (list_of ls t))) _ f.1.1.stands
    ∙ ap (λ (z : Standing). Some (record { table = z.table; at = i })) (read ∙ get_or_from_slice_get ss m (standing_at t (end_of (list_of ls t))) y f.1.1.stands))
  where
    f : (f : Listed) × ((slice_get (list_of ms t) i ≡ Some f) × Comes ls ss t i m f)
    f = comes ls ms ss t i m x h l moved

-- which records the list has afterwards
pub left_out : (ls ms : List (List Listed)) (ss : List Standing) (t i : ℕ) (x e : Listed) → AreStanding ls ss → Leaves ls ms t i x →
    Has (list_of ms t) e ↔ (Has (list_of ls t) e × (e.place ≡ x.place → ⊥))
left_out ls ms ss t i x e h l = (λ has. out has.0 (stood_in ls ms t i x l has.0 e has.1), λ k. into k.0.0 k.0.1 k.1 (k.0.0 == i) refl (nat_lt k.0.0 (end_of (list_of ls t))) refl)
  where
    xs : List Listed
    xs = list_of ls t

    apart : (j : ℕ) → slice_get xs j ≡ Some e → (j ≡ i → ⊥) → e.place ≡ x.place → ⊥
    apart j there other same = other (stands_once ls ss t t j i e x h there l.was same).1

    out : (j : ℕ) → Stood xs i j e → Has xs e × (e.place ≡ x.place → ⊥)
    out j (inl s) = let less = s.1 in ((end_of xs, s.2), apart (end_of xs) s.2 (λ k. omega (arith, less, k)))
    out j (inr s) = ((j, s.2), apart j s.2 s.0)

    into : (j : ℕ) → slice_get xs j ≡ Some e → (e.place ≡ x.place → ⊥) → (a : Bool) → (j == i) ≡ a → (b : Bool) → nat_lt j (end_of xs) ≡ b → Has (list_of ms t) e
    into j there other true k b m =
        let same : j ≡ i = grind (arith, nat_tests, k) in
        absurd (other (ap (λ (z : Listed). z.place) (same_Some e x (sym there ∙ ap (slice_get xs) same ∙ l.was))))
    into j there other false k true m =
        let other_index : j ≡ i → ⊥ = λ same. grind (arith, nat_tests, k, same) in
        let less : j < end_of xs = grind (arith, nat_tests, m) in
        (j, ap (λ ys. slice_get ys j) l.list ∙ swapped_apart xs i x j other_index less ∙ there)
    into j there other false k false m =
        let other_index : j ≡ i → ⊥ = λ same. grind (arith, nat_tests, k, same) in
        let past : end_of xs ≤ j = grind (arith, nat_tests, m) in
        let within = slice_get_within xs j e there in
        let last : j ≡ end_of xs = omega (arith, past, within) in
        let inside = slice_get_within xs i x l.was in
        let less : i < end_of xs = omega (arith, inside, last, other_index) in
        (i, ap (λ ys. slice_get ys i) l.list ∙ swapped_here xs i x less ∙ ap (slice_get xs) (sym last) ∙ there)

-- a list from which one was taken
pub taken_out : (ls : List (Vec Listed Global)) (t at : ℕ) (l v : Vec Listed Global) (x e : Listed) → t < length ls → l ≡ slice_index_or ls t l →
    v.items ≡ swap_remove l.items at x → x ≡ slice_index_or l.items at x → slice_get (list_of (lists_in ls) t) at ≡ Some e
    → list_of (lists_in (set ls t v)) t ≡ swap_remove (list_of (lists_in ls) t) at e
taken_out ls t at l v x e within read out is there =
    let was = list_read ls t l within read in
    let one : x ≡ e = is ∙ get_or_from_slice_get l.items at e x (ap (λ xs. slice_get xs at) (sym was) ∙ there) in
    list_set ls t v within ∙ out ∙ (λ i. swap_remove (sym was i) at (one i))

-- where the record of a place stands
pub standing_within : (ls : List (List Listed)) (ss : List Standing) (t place : ℕ) → AreStanding ls ss → StandsIn (list_of ls t) place → place < length ss
standing_within ls ss t place h k = slice_get_within ss place (standing_at t k.1.0.0) (ap (slice_get ss) (sym k.1.1) ∙ h t k.1.0.0 k.0 k.1.0.1)

pub found : (ls : List (List Listed)) (ss : List Standing) (t place : ℕ) (y : Standing) → AreStanding ls ss → StandsIn (list_of ls t) place → y ≡ slice_index_or ss place y →
    (x : Listed) × ((slice_get (list_of ls t) y.at ≡ Some x) × (x.place ≡ place))
found ls ss t place y h k read =
    let stands : slice_get ss place ≡ Some (standing_at t k.1.0.0) = ap (slice_get ss) (sym k.1.1) ∙ h t k.1.0.0 k.0 k.1.0.1 in
    let is : y ≡ standing_at t k.1.0.0 = read ∙ get_or_from_slice_get ss place (standing_at t k.1.0.0) y stands in
    (k.0, (ap (λ (z : Standing). slice_get (list_of ls t) z.at) is ∙ k.1.0.1, k.1.1))

-- what a caller sees of it
pub record LeavesSeen (vs ws : List (List Listed)) (t place : ℕ) : Type 0 where
  pub moved : (at : ℕ) (e : Listed) → slice_get (list_of vs t) at ≡ Some e → e.place ≡ place → list_of ws t ≡ swap_remove (list_of vs t) at e
  pub front : (at : ℕ) (e : Listed) → slice_get (list_of vs t) at ≡ Some e → e.place ≡ place → take at (list_of ws t) ≡ take at (list_of vs t)
  pub stay : (e : Listed) → Has (list_of ws t) e ↔ (Has (list_of vs t) e × (e.place ≡ place → ⊥))
  pub others : (u : ℕ) → (u ≡ t → ⊥) → list_of ws u ≡ list_of vs u

pub left_seen : (ls ms vs : List (List Listed)) (ss : List Standing) (t place i : ℕ) (x : Listed) → trimmed ls ≡ vs → AreStanding ls ss → Leaves ls ms t i x → x.place ≡ place →
    LeavesSeen vs (trimmed ms) t place
left_seen ls ms vs ss t place i x view h l is = record {
  moved = moved;
  front = λ at e there same. ap (take at) (moved at e there same) ∙ front_stays (list_of vs t) at e (slice_get_within (list_of vs t) at e there);
  stay = stay;
  others = λ u apart. seen_apart ls ms vs u view (l.others u apart);
}
  where
    moved : (at : ℕ) (e : Listed) → slice_get (list_of vs t) at ≡ Some e → e.place ≡ place → list_of (trimmed ms) t ≡ swap_remove (list_of vs t) at e
    moved at e there same =
        let was : slice_get (list_of ls t) at ≡ Some e = ap (λ xs. slice_get xs at) (seen_list ls vs t view) ∙ there in
        let once : at ≡ i = (stands_once ls ss t t at i e x h was l.was (same ∙ sym is)).1 in
        let one : e ≡ x = same_Some e x (sym was ∙ ap (slice_get (list_of ls t)) once ∙ l.was) in
        trimmed_list ms t ∙ l.list ∙ (λ k. swap_remove (seen_list ls vs t view k) (sym once k) (sym one k))

    stay : (e : Listed) → Has (list_of (trimmed ms) t) e ↔ (Has (list_of vs t) e × (e.place ≡ place → ⊥))
    stay e =
        let raw = left_out ls ms ss t i x e h l in
        let here = subst (λ ys. Has ys e ↔ (Has (list_of ls t) e × (e.place ≡ x.place → ⊥))) (sym (trimmed_list ms t)) raw in
        let there = subst (λ xs. Has (list_of (trimmed ms) t) e ↔ (Has xs e × (e.place ≡ x.place → ⊥))) (seen_list ls vs t view) here in
        subst (λ p. Has (list_of (trimmed ms) t) e ↔ (Has (list_of vs t) e × (e.place ≡ p → ⊥))) is there

-- one of that place was taken out
pub leaves : (ls ms : List (List Listed)) (ss : List Standing) (t place : ℕ) (y : Standing) → AreStanding ls ss → StandsIn (list_of ls t) place → y ≡ slice_index_or ss place y
    → ((e : Listed) → slice_get (list_of ls t) y.at ≡ Some e → list_of ms t ≡ swap_remove (list_of ls t) y.at e) → ((u : ℕ) → (u ≡ t → ⊥) → list_of ms u ≡ list_of ls u)
    → (x : Listed) × (Leaves ls ms t y.at x × (x.place ≡ place))
leaves ls ms ss t place y h k read out others =
    let x = found ls ss t place y h k read in
    (x.0, (record { was = x.1.0; list = out x.0 x.1.0; others = others }, x.1.1))
