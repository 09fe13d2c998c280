-- The lists of records that have a chain: which records a list has, and where one enters.
use Rattle.std.proofs.Common.{◌≡◌, ℕ, ◌<◌, List, [], ◌∷◌, length, slice_get, Bool, true, false, Option, Some, refl, sym, ap, ◌∙◌}
use Rattle.std.proofs.Common.{subst, arith, ◌⊎◌, inl, inr}
use Rattle.std.specs.Prelude.{◌≢◌, ◌↔◌, ◌==◌, IsTrue, IsFalse}
use Rattle.std.specs.Bool.{OnTrue, OnFalse}
use Rattle.std.proofs.lemmas.Bool.Decides.{nat_tests}
use Rattle.std.proofs.lemmas.Option.{none-some, same_Some}
use Rattle.hg_base.specs.declared.rid.Rid.{Rid}
use Rattle.hg_base.specs.declared.rid.TableId.{TableId}
use Rattle.hg_base.specs.History.{same_rid}
use Rattle.hg_base.specs.declared.image.Image.{Image}
use Rattle.hg_base.specs.declared.writer.Writer.{Writer}
use Rattle.hg_base.proofs.HistoryFacts.{same_rid_equal}
use Rattle.hg_chains.specs.declared.version.Version.{Version}
use Rattle.hg_chains.specs.Places.{Places, list_at, OthersStay as ListsStay}
use Rattle.hg_space.specs.Index.{place_of, IsIndex}
use Rattle.hg_space.specs.Places.{Seat}
use Rattle.hg_space.specs.declared.roster.Listed.{Listed}
use Rattle.hg_space.specs.Rosters.{list_of, Has, StandsIn, StandsNowhere}
use Rattle.hg_space.proofs.RosterFacts.{get_push}
use Rattle.hg_space.proofs.Entering.{get_more, get_last}
use Rattle.hg_bucket.specs.BucketModel.{record_at}
use Rattle.hg_bucket.specs.Parts.{listed, IsListed, AreListed, ListsAlike, Enters}
use Rattle.hg_chains.specs.Versions as chain
use Rattle.hg_chains.specs.Sweeps as sweeps
use Rattle.hg_bucket.proofs.Reading.{alike}
use Rattle.hg_bucket.proofs.Naming.{Comes, bare_free, unnamed}
use Rattle.hg_bucket.proofs.Seating.{each_place}

-- ---- which records a list has

-- a record of a table's list, read as a record and its place
pub of_list : (es : List (Rid × ℕ)) (cs : Places) (ls : List (List Listed)) (t : TableId) (e : Listed) → AreListed es cs ls → Has (list_of ls t.0) e →
    (place_of es (record_at t e.key) ≡ Some e.place) × (0 < length (list_at cs e.place))
of_list es cs ls t e h has = (h (record_at t e.key) e.place).0 has

-- a place without a chain stands in no list
pub nowhere : (es : List (Rid × ℕ)) (cs : Places) (ls : List (List Listed)) (p : ℕ) → AreListed es cs ls → length (list_at cs p) ≡ 0 → StandsNowhere ls p
nowhere es cs ls p h none t k =
    let long = (of_list es cs ls (record { 0 = t }) k.0 h k.1.0).1 in
    let bare : length (list_at cs k.0.place) ≡ 0 = ap (λ q. length (list_at cs q)) k.1.1 ∙ none in
    omega (arith, long, bare)

pub on_bare : (es : List (Rid × ℕ)) (cs : Places) (ls : List (List Listed)) (p : ℕ) → AreListed es cs ls → OnTrue (length (list_at cs p) == 0) (StandsNowhere ls p)
on_bare es cs ls p h = go (length (list_at cs p) == 0) refl
  where
    go : (b : Bool) → (length (list_at cs p) == 0) ≡ b → OnTrue b (StandsNowhere ls p)
    go true e = nowhere es cs ls p h (grind (arith, nat_tests, e))
    go false e = tt

-- and one with a chain stands in its table's
pub stands : (es : List (Rid × ℕ)) (cs : Places) (ls : List (List Listed)) (r : Rid) (p : ℕ) → AreListed es cs ls → place_of es r ≡ Some p → 0 < length (list_at cs p) →
    StandsIn (list_of ls r.table.0) p
stands es cs ls r p h has long = (listed r p, ((h r p).1 (has, long), refl))

pub same_records : (es : List (Rid × ℕ)) (q r : Rid) (p : ℕ) → IsIndex es → place_of es q ≡ Some p → place_of es r ≡ Some p → q ≡ r
same_records es q r p index a b = same_rid_equal q r (index.distinct q r p a b)

-- ---- nothing enters or leaves

-- as many places have a chain as before
pub chains_stay : (es : List (Rid × ℕ)) (cs ds : Places) (ls : List (List Listed)) → AreListed es cs ls → ((q : ℕ) → (0 < length (list_at cs q)) ↔ (0 < length (list_at ds q))) → AreListed es ds ls
chains_stay es cs ds ls h same r p = (λ has. let k = (h r p).0 has in (k.0, (same p).0 k.1), λ k. (h r p).1 (k.0, (same p).1 k.1))

pub chains_alike : (es : List (Rid × ℕ)) (cs ds : Places) (ls : List (List Listed)) → AreListed es cs ls → ListsAlike cs ds → AreListed es ds ls
chains_alike es cs ds ls h same = chains_stay es cs ds ls h (λ q. (λ k. subst (λ vs. 0 < length vs) (sym (same q)) k, λ k. subst (λ vs. 0 < length vs) (same q) k))

-- one that had a chain still has one
pub chain_stays : (es : List (Rid × ℕ)) (cs ds : Places) (ls : List (List Listed)) (p : ℕ) → AreListed es cs ls → ListsStay p cs ds → 0 < length (list_at cs p) →
    0 < length (list_at ds p) → AreListed es ds ls
chain_stays es cs ds ls p h stay was is = chains_stay es cs ds ls h (λ q. go q (q == p) refl)
  where
    go : (q : ℕ) (b : Bool) → (q == p) ≡ b → (0 < length (list_at cs q)) ↔ (0 < length (list_at ds q))
    go q true e = let at : q ≡ p = grind (arith, nat_tests, e) in (λ k. subst (λ n. 0 < length (list_at ds n)) (sym at) is, λ k. subst (λ n. 0 < length (list_at cs n)) (sym at) was)
    go q false e = let same = stay q (λ at. grind (arith, nat_tests, e, at)) in (λ k. subst (λ vs. 0 < length vs) (sym same) k, λ k. subst (λ vs. 0 < length vs) same k)

-- ---- which chains stay, and which have a version

pub alike_but : (cs ds : Places) (p : ℕ) → ListsStay p cs ds → list_at ds p ≡ list_at cs p → ListsAlike cs ds
alike_but cs ds p stay here q = each_place (λ n. list_at ds n ≡ list_at cs n) p q here (stay q)

pub installed_some : (by : Writer) (image : Image) (vs : List Version) → 0 < length (chain.installed by image vs)
installed_some by image [] = omega arith
installed_some by image (v ∷ vs) = omega arith

pub stamped_some : (by : Writer) (n : ℕ) (vs : List Version) → 0 < length vs → 0 < length (chain.stamped by n vs)
stamped_some by n [] h = h
stamped_some by n (v ∷ vs) h = omega arith

pub open_some : (by : Writer) (vs : List Version) → IsTrue (chain.is_open_by by vs) → 0 < length vs
open_some by [] h = absurd (let j = h in cc)
open_some by (v ∷ vs) h = omega arith

pub swept_some : (horizon : ℕ) (xs : List ℕ) (vs : List Version) → 0 < length vs → 0 < length (sweeps.swept horizon xs vs)
swept_some horizon xs [] h = h
swept_some horizon xs (v ∷ vs) h = omega arith

pub cut_some : (bound : ℕ) (vs : List Version) (newest : ℕ × Image) → Path (Option (ℕ × Image)) (Some newest) (chain.oldest_at bound vs) → 0 < length vs
cut_some bound [] newest h = absurd (none-some newest (sym h))
cut_some bound (v ∷ vs) newest h = omega arith

-- ---- one enters

in_before : (ls ms : List (List Listed)) (r : Rid) (p : ℕ) (t : ℕ) (e : Listed) → Enters ls ms r p → Has (list_of ls t) e → Has (list_of ms t) e
in_before ls ms r p t e h has = go (t == r.table.0) refl
  where
    go : (b : Bool) → (t == r.table.0) ≡ b → Has (list_of ms t) e
    go true k =
        let at : t ≡ r.table.0 = grind (arith, nat_tests, k) in (
          has.0,
          ap (λ n. slice_get (list_of ms n) has.0) at ∙ ap (λ xs. slice_get xs has.0) h.last ∙
              get_more (list_of ls r.table.0) (listed r p) e has.0 (ap (λ n. slice_get (list_of ls n) has.0) (sym at) ∙ has.1),
        )
    go false k = (has.0, ap (λ xs. slice_get xs has.0) (h.others t (λ at. grind (arith, nat_tests, k, at))) ∙ has.1)

in_after : (ls ms : List (List Listed)) (r : Rid) (p : ℕ) (t : ℕ) (e : Listed) → Enters ls ms r p → Has (list_of ms t) e → Has (list_of ls t) e ⊎ ((t ≡ r.table.0) × (e ≡ listed r p))
in_after ls ms r p t e h has = go (t == r.table.0) refl
  where
    go : (b : Bool) → (t == r.table.0) ≡ b → Has (list_of ls t) e ⊎ ((t ≡ r.table.0) × (e ≡ listed r p))
    go true k =
        let at : t ≡ r.table.0 = grind (arith, nat_tests, k) in
        by at (get_push (list_of ls r.table.0) (listed r p) e has.0 (ap (λ xs. slice_get xs has.0) (sym h.last) ∙ ap (λ n. slice_get (list_of ms n) has.0) (sym at) ∙ has.1))
      where
        by : t ≡ r.table.0 → (slice_get (list_of ls r.table.0) has.0 ≡ Some e) ⊎ ((has.0 ≡ length (list_of ls r.table.0)) × (e ≡ listed r p)) →
            Has (list_of ls t) e ⊎ ((t ≡ r.table.0) × (e ≡ listed r p))
        by at (inl there) = inl (has.0, ap (λ n. slice_get (list_of ls n) has.0) at ∙ there)
        by at (inr last) = inr (at, last.1)
    go false k = inl (has.0, ap (λ xs. slice_get xs has.0) (sym (h.others t (λ at. grind (arith, nat_tests, k, at)))) ∙ has.1)

pub entered_in : (ls ms : List (List Listed)) (r : Rid) (p : ℕ) → Enters ls ms r p → IsListed ms r p
entered_in ls ms r p h = (length (list_of ls r.table.0), ap (λ xs. slice_get xs (length (list_of ls r.table.0))) h.last ∙ get_last (list_of ls r.table.0) (listed r p))

pub entered_stands : (ls ms : List (List Listed)) (r : Rid) (p : ℕ) → Enters ls ms r p → StandsIn (list_of ms r.table.0) p
entered_stands ls ms r p h = (listed r p, (entered_in ls ms r p h, refl))

-- the chain of the record r begins at the place p, where no other record is
pub record Begins (es fs : List (Rid × ℕ)) (cs ds : Places) (r : Rid) (p : ℕ) : Type 0 where
  pub has : place_of fs r ≡ Some p
  pub others : (q : Rid) → IsFalse (same_rid r q) → place_of fs q ≡ place_of es q
  pub only : (n : ℕ) → place_of es r ≡ Some n → n ≡ p
  pub alone : (q : Rid) → place_of es q ≡ Some p → IsTrue (same_rid r q)
  pub was : length (list_at cs p) ≡ 0
  pub now : 0 < length (list_at ds p)
  pub lists : ListsStay p cs ds

pub begun : (es fs : List (Rid × ℕ)) (cs ds : Places) (ls ms : List (List Listed)) (r : Rid) (p : ℕ) → AreListed es cs ls → Begins es fs cs ds r p → Enters ls ms r p → AreListed fs ds ms
begun es fs cs ds ls ms r p old h enters q n = (λ has. into (in_after ls ms r p q.table.0 (listed q n) enters has), λ k. out (same_rid r q) refl k)
  where
    apart : (n : ℕ) → 0 < length (list_at cs n) → n ≢ p
    apart n long at = let none : length (list_at cs n) ≡ 0 = ap (λ m. length (list_at cs m)) at ∙ h.was in omega (arith, long, none)

    still : (place_of es q ≡ Some n) × (0 < length (list_at cs n)) → (b : Bool) → same_rid r q ≡ b → (place_of fs q ≡ Some n) × (0 < length (list_at ds n))
    still k false e = (h.others q e ∙ k.0, subst (λ vs. 0 < length vs) (sym (h.lists n (apart n k.1))) k.1)
    still k true e = absurd (apart n k.1 (h.only n (sym (alike es r q e) ∙ k.0)))

    into : Has (list_of ls q.table.0) (listed q n) ⊎ ((q.table.0 ≡ r.table.0) × (listed q n ≡ listed r p)) → (place_of fs q ≡ Some n) × (0 < length (list_at ds n))
    into (inl has) = still ((old q n).0 has) (same_rid r q) refl
    into (inr is) =
        let one : q ≡ r = (λ i. record { table = record { 0 = is.0 i }; key = ap (λ (e : Listed). e.key) is.1 i }) in
        let at : n ≡ p = ap (λ (e : Listed). e.place) is.1 in
        (ap (place_of fs) one ∙ h.has ∙ ap Some (sym at), subst (λ m. 0 < length (list_at ds m)) (sym at) h.now)

    out : (b : Bool) → same_rid r q ≡ b → (place_of fs q ≡ Some n) × (0 < length (list_at ds n)) → IsListed ms q n
    out true e k =
        let one : r ≡ q = same_rid_equal r q e in
        let at : p ≡ n = same_Some p n (sym h.has ∙ ap (place_of fs) one ∙ k.0) in
        subst (λ (x : Rid × ℕ). IsListed ms x.0 x.1) (λ i. (one i, at i)) (entered_in ls ms r p enters)
    out false e k =
        let there : place_of es q ≡ Some n = sym (h.others q e) ∙ k.0 in
        let other : n ≢ p = λ at. false-true (sym e ∙ h.alone q (there ∙ ap Some at)) in
        in_before ls ms r p q.table.0 (listed q n) enters ((old q n).1 (there, subst (λ vs. 0 < length vs) (h.lists n other) k.1))
      where
        false-true : false ≡ true → ⊥
        false-true k = absurd cc

-- where the record has that place before, too
pub begun_again : (es : List (Rid × ℕ)) (cs ds : Places) (ls ms : List (List Listed)) (r : Rid) (p : ℕ) → IsIndex es → AreListed es cs ls → place_of es r ≡ Some p →
    length (list_at cs p) ≡ 0 → 0 < length (list_at ds p) → ListsStay p cs ds → Enters ls ms r p → AreListed es ds ms
begun_again es cs ds ls ms r p index old has was now stay enters = begun es es cs ds ls ms r p old (record {
  has = has;
  others = λ q apart. refl;
  only = λ n k. same_Some n p (sym k ∙ has);
  alone = λ q k. index.distinct r q p has k;
  was = was;
  now = now;
  lists = stay;
}) enters

-- where its chain was empty, or else nothing
pub may_enter : (es : List (Rid × ℕ)) (cs ds : Places) (ls ms : List (List Listed)) (r : Rid) (p : ℕ) → IsIndex es → AreListed es cs ls → place_of es r ≡ Some p →
    0 < length (list_at ds p) → ListsStay p cs ds → OnTrue (length (list_at cs p) == 0) (Enters ls ms r p) → OnFalse (length (list_at cs p) == 0) (ms ≡ ls) → AreListed es ds ms
may_enter es cs ds ls ms r p index old has now stay enters listed = go (length (list_at cs p) == 0) refl enters listed
  where
    go : (b : Bool) → (length (list_at cs p) == 0) ≡ b → OnTrue b (Enters ls ms r p) → OnFalse b (ms ≡ ls) → AreListed es ds ms
    go true e h k = begun_again es cs ds ls ms r p index old has (grind (arith, nat_tests, e)) now stay h
    go false e h k = subst (AreListed es ds) (sym k) (chain_stays es cs ds ls p old stay (grind (arith, nat_tests, e)) now)

pub come_listed : (es fs : List (Rid × ℕ)) (cs ds : Places) (places seats : List Seat) (ls ms : List (List Listed)) (r : Rid) (p : ℕ) (w : Version) → AreListed es cs ls →
    Comes es fs cs ds places seats r p w → Enters ls ms r p → AreListed fs ds ms
come_listed es fs cs ds places seats ls ms r p w old h enters = begun es fs cs ds ls ms r p old (record {
  has = h.here;
  others = h.others;
  only = λ n k. absurd (none-some n (sym h.new ∙ k));
  alone = λ q k. absurd (unnamed es cs places q p p h.old h.given.was k refl);
  was = ap (λ vs. length vs) (bare_free es cs places p h.old h.given.was);
  now = subst (λ vs. 0 < length vs) (sym h.chain) (omega arith);
  lists = h.lists;
}) enters

-- a chain that was empty, so that its record has entered
pub has_entered : (ls ms : List (List Listed)) (r : Rid) (p : ℕ) (vs : List Version) → vs ≡ [] → OnTrue (length vs == 0) (Enters ls ms r p) → Enters ls ms r p
has_entered ls ms r p vs bare h = subst (λ us. OnTrue (length us == 0) (Enters ls ms r p)) bare h

-- lists that are the same in each table list the same
pub lists_alike : (es : List (Rid × ℕ)) (cs : Places) (ls ms : List (List Listed)) → AreListed es cs ls → ((t : ℕ) → list_of ms t ≡ list_of ls t) → AreListed es cs ms
lists_alike es cs ls ms h same r p = (λ k. (h r p).0 (subst (λ xs. Has xs (listed r p)) (same r.table.0) k), λ k. subst (λ xs. Has xs (listed r p)) (sym (same r.table.0)) ((h r p).1 k))
