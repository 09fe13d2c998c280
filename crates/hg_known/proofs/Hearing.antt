-- The numbers that sessions printed, with one line more.
use Rattle.std.proofs.Common.{◌≡◌, ℕ, List, [], ◌∷◌, ◌++◌, Bool, true, false, Option, Some, None, refl, sym, ap, ◌∙◌, arith, cond}
use Rattle.std.specs.Prelude.{◌==◌, filter, max, unwrap_or}
use Rattle.std.specs.List.{flat_map}
use Rattle.std.specs.BTreeMap.{BTreeMap, get}
use Rattle.std.specs.Ordering.{nat_cmp}
use Rattle.std.proofs.lemmas.Bool.Decides.{Decides-eqb}
use Rattle.hg_base.specs.Lists.{greatest, present}
use Rattle.hg_base.specs.Transcript.{Said, committed}
use Rattle.hg_base.specs.Freshness.{known, newer_of, numbers_of, snapshot_of}
use Rattle.hg_known.proofs.Reading.{Puts, put_at}

none_raises : (n : ℕ) → max 0 n ≡ n
none_raises n = omega arith

-- the greatest of three numbers that may be there and of others
present_raises : (a b c : Option ℕ) (ns : List ℕ) → greatest (present (a ∷ b ∷ c ∷ []) ++ ns) ≡ max (unwrap_or a 0) (max (unwrap_or b 0) (max (unwrap_or c 0) (greatest ns)))
present_raises a b c ns = first a
  where
    third : (c : Option ℕ) → greatest (present (c ∷ []) ++ ns) ≡ max (unwrap_or c 0) (greatest ns)
    third None = sym (none_raises (greatest ns))
    third (Some n) = refl

    second : (b : Option ℕ) → greatest (present (b ∷ c ∷ []) ++ ns) ≡ max (unwrap_or b 0) (max (unwrap_or c 0) (greatest ns))
    second None = third c ∙ sym (none_raises (max (unwrap_or c 0) (greatest ns)))
    second (Some n) = ap (max n) (third c)

    first : (a : Option ℕ) → greatest (present (a ∷ b ∷ c ∷ []) ++ ns) ≡ max (unwrap_or a 0) (max (unwrap_or b 0) (max (unwrap_or c 0) (greatest ns)))
    first None = second b ∙ sym (none_raises (max (unwrap_or b 0) (max (unwrap_or c 0) (greatest ns))))
    first (Some n) = ap (max n) (second b)

-- what the session's numbers are raised to
abbrev pub raised_by : Said → ℕ → ℕ
raised_by now before = max (unwrap_or (snapshot_of now) 0) (max (unwrap_or (committed now) 0) (max (unwrap_or (newer_of now) 0) before))

pub heard_more : (old new : BTreeMap ℕ ℕ) (earlier : List Said) (now : Said) (most : ℕ) → ((j : ℕ) → unwrap_or (get nat_cmp old j) 0 ≡ greatest (known j earlier)) →
    most ≡ raised_by now (unwrap_or (get nat_cmp old now.session) 0) → Puts old new now.session most →
    (j : ℕ) → unwrap_or (get nat_cmp new j) 0 ≡ greatest (known j (now ∷ earlier))
heard_more old new earlier now most h is put j = ap (λ o. unwrap_or o 0) (put_at old new now.session most put j) ∙ go (now.session == j) refl
  where
    its : List Said
    its = filter (λ said. said.session == j) earlier

    at : (now.session == j) ≡ true → most ≡ raised_by now (greatest (known j earlier))
    at same = is ∙ ap (raised_by now) (ap (λ k. unwrap_or (get nat_cmp old k) 0) ((Decides-eqb now.session j).0 same) ∙ h j)

    go : (b : Bool) → (now.session == j) ≡ b → unwrap_or (cond b (Some most) (get nat_cmp old j)) 0 ≡ greatest (flat_map numbers_of (cond b (now ∷ its) its))
    go false e = h j
    go true e = at e ∙ sym (present_raises (snapshot_of now) (committed now) (newer_of now) (flat_map numbers_of its))
