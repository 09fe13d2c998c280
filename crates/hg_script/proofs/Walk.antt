-- The records of one session, one by one.
use Rattle.std.proofs.Common.{◌≡◌, ◌==◌, ◌<◌, ◌≤◌, ◌+◌, ◌∙◌, ℕ, suc, List, [], ◌∷◌, length, map, drop, get_or, true, refl, sym, ap, arith, add-one, drop-cons}
use Rattle.std.proofs.Math.ListN.{drop_of_length-le}
use Rattle.std.proofs.lemmas.List.{drop-drop, drop-map}
use Rattle.hg_base.proofs.ListFacts.{cases}
use Rattle.hg_base.specs.Transcript.{of_session}
use Rattle.hg_base.specs.declared.statement.Record.{Record}
use Rattle.hg_records.specs.declared.ends.TheConstants.{NOWHERE}
use Rattle.hg_records.specs.Links.{StandsAt, next_from, next_of}
use Rattle.hg_records.proofs.Links.{alike, same}

abbrev sessions : List Record → List ℕ
sessions records = map (λ (r : Record). r.session) records

-- nothing stands past the last
pub past : (j i : ℕ) (records : List Record) → length records ≤ i → of_session j (drop i records) ≡ []
past j i records over = ap (of_session j) (drop_of_length-le records over)

after : (n : ℕ) (all rs : List Record) (r : Record) → drop n all ≡ r ∷ rs → drop (n + 1) all ≡ rs
after n all rs r is = sym (drop-drop 1 n all) ∙ ap (λ xs. drop 1 xs) is

-- from where a session stands next, all of its records stand
pub skips : (j n : ℕ) (all rs : List Record) → drop n all ≡ rs → length all ≤ NOWHERE → of_session j rs ≡ of_session j (drop (next_of j n (sessions rs)) all)
skips j n all [] is most = sym (past j NOWHERE all most)
skips j n all (r ∷ rs) is most = cases (r.session == j)
    (λ e. let here : next_of j n (sessions (r ∷ rs)) ≡ n = rw e refl in rw here (ap (of_session j) (sym is)))
    (λ e. rw e (skips j (n + 1) all rs (after n all rs r is) most))

-- and there stands one of its records, if any
pub stands : (j n : ℕ) (all rs : List Record) → drop n all ≡ rs → length all ≤ NOWHERE → StandsAt j (next_of j n (sessions rs)) all
stands j n all [] is most d less = absurd (omega (arith, less, most))
stands j n all (r ∷ rs) is most d less = cases (r.session == j)
    (λ e.
    let here : next_of j n (sessions (r ∷ rs)) ≡ n = rw e refl in
    let within : n < length all = rw here at less in
    let at : r ≡ get_or all n d = ap (λ xs. get_or xs 0 d) (sym is ∙ drop-cons all n d within) in
    rw here (ap (λ (x : Record). x.session) (sym at) ∙ alike r.session j e))
    (λ e. rw e (stands j (n + 1) all rs (after n all rs r is) most d (rw e at less)))

-- the record at i, and the others from where the session stands next
pub takes : (j i m : ℕ) (all : List Record) (r : Record) → i < length all → length all ≤ NOWHERE → r ≡ get_or all i r → StandsAt j i all → m ≡ next_from (get_or all i r).session (i + 1) (sessions all)
    → (of_session j (drop i all) ≡ r ∷ of_session j (drop m all)) × StandsAt j m all
takes j i m all r less most is at next =
    let of : r.session ≡ j = ap (λ (x : Record). x.session) is ∙ at r less in
    let yes : (r.session == j) ≡ true = rw of (same j) in
    let here : drop i all ≡ r ∷ drop (i + 1) all = rw (add-one) (drop-cons all i r less ∙ ap (λ x. x ∷ drop (suc i) all) (sym is)) in
    let on : m ≡ next_of j (i + 1) (sessions (drop (i + 1) all)) =
    next ∙ ap (λ k. next_from k (i + 1) (sessions all)) (at r less) ∙ ap (next_of j (i + 1)) (drop-map (λ (x : Record). x.session) (i + 1) all) in
    rw on (ap (of_session j) here ∙ rw yes (ap (λ xs. r ∷ xs) (skips j (i + 1) all (drop (i + 1) all) refl most)), stands j (i + 1) all (drop (i + 1) all) refl most)
