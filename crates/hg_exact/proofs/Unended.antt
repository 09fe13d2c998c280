-- A transaction that has written and was not ended is open, and which answers begin nothing.
use Rattle.std.proofs.Common.{◌≡◌, ℕ, List, [], ◌∷◌, Bool, true, false, Option, Some, None, refl, sym, ap, ◌∙◌, subst}
use Rattle.std.specs.Prelude.{◌==◌, ◌&&◌, cond, filter, filter_map, is_some, nat_lt, IfSome, IsSome, ⊤}
use Rattle.std.specs.Bool.{MatchBool}
use Rattle.std.specs.List.{list_any, cons_option}
use Rattle.std.proofs.lemmas.Bool.{or_parts}
use Rattle.std.proofs.lemmas.Bool.Decides.{Decides-eqb}
use Rattle.hg_base.specs.declared.rid.Rid.{Rid}
use Rattle.hg_base.specs.declared.rid.TableId.{TableId}
use Rattle.hg_base.specs.declared.image.Image.{Image}
use Rattle.hg_base.specs.declared.report.Told.{Told}
use Rattle.hg_base.specs.declared.statement.Statement.{Statement}
use Rattle.hg_base.specs.declared.statement.Statement.TheVariants.{Begin, Get, Put, Del, Scan, CursorOpen, Fetch, CursorClose, Commit as CommitIt, Rollback, Gc}
use Rattle.hg_base.specs.declared.line.Answer.{Answer}
use Rattle.hg_base.specs.declared.line.Answer.TheVariants.{Begun, Swept}
use Rattle.hg_base.specs.Script.{replay}
use Rattle.hg_base.specs.History.{image_in}
use Rattle.hg_base.specs.Transcript.{Said, Rest, ends, has, is_of, last_of, open_after, open_of}
use Rattle.hg_base.specs.Transcript.{stored, stored_in}
use Rattle.hg_base.specs.Replies.{IsAnswer, IsCommitted, IsDeleted, IsEnded, IsFetched, IsGot, IsPut, IsScanned, IsUndeclared, IsUndone}
use Rattle.hg_core.proofs.Indices.{at_index}
use Rattle.hg_exact.specs.Replayed.{plain, plain_answer}
use Rattle.hg_exact.proofs.Answering.{IsPlain}
use Rattle.hg_exact.proofs.Standing.{differs, is_mine, last_by, last_other, lines_other, not_session}
use Rattle.hg_exact.proofs.Known.{is_swept}

-- ---- a transaction that has written and was not ended is open

abbrev pub Ended : List Said → Type 0
Ended earlier = (k x : ℕ) (r : Rid) → IsSome (image_in r (stored_in k x earlier)) → list_any ends (filter (is_of k x) earlier) ≡ false → (q : Said) × (open_of k earlier ≡ Some q) × (q.transaction ≡ x)

pub ended_nothing : Ended []
ended_nothing k x r s e = absurd (let bad : false ≡ true = s in cc)

ended_other : (j : ℕ) (earlier : List Said) (now : Said) → now.session ≡ j → Ended earlier → (k : ℕ) → (k ≡ j → ⊥) → (x : ℕ) (r : Rid) →
    IsSome (image_in r (stored_in k x (now ∷ earlier))) → list_any ends (filter (is_of k x) (now ∷ earlier)) ≡ false → (q : Said) × (open_of k (now ∷ earlier) ≡ Some q) × (q.transaction ≡ x)
ended_other j earlier now mine h k f x r s e =
    let t : (now.session == k) ≡ false = differs now.session k (λ g. f (sym g ∙ mine)) in
    let off : is_of k x now ≡ false = not_session k x now t in
    let lines = lines_other k x earlier now off in
    let is = h k x r (subst (λ l. IsSome (image_in r (filter_map stored l))) lines s) (sym (ap (list_any ends) lines) ∙ e) in
    (is.0, ap open_after (last_other k earlier now t) ∙ is.1, is.2)

pub ended_line : (j : ℕ) (earlier : List Said) (now : Said) → now.session ≡ j → nat_lt 0 now.transaction ≡ true →
    ((q : Said) → open_of j earlier ≡ Some q → q.transaction ≡ now.transaction) → Ended earlier → Ended (now ∷ earlier)
ended_line j earlier now mine some same h k x r s e = at_index j (λ i. IsSome (image_in r (stored_in i x (now ∷ earlier))) →
    list_any ends (filter (is_of i x) (now ∷ earlier)) ≡ false → (q : Said) × (open_of i (now ∷ earlier) ≡ Some q) × (q.transaction ≡ x))
    (λ s e. go (is_of j x now) refl s e) (λ i f s e. ended_other j earlier now mine h i f x r s e) k s e
  where
    and_right : (a b : Bool) → (a && b) ≡ true → b ≡ true
    and_right true b f = f
    and_right false b f = absurd (let bad : false ≡ true = f in cc)

    go : (b : Bool) → is_of j x now ≡ b → IsSome (image_in r (filter_map stored (cond b (now ∷ filter (is_of j x) earlier) (filter (is_of j x) earlier)))) →
        list_any ends (cond b (now ∷ filter (is_of j x) earlier) (filter (is_of j x) earlier)) ≡ false → (q : Said) × (open_of j (now ∷ earlier) ≡ Some q) × (q.transaction ≡ x)
    go true f s e = (
      now,
      ap open_after (last_by j earlier now true mine some) ∙
          ap (λ b. cond b None (Some now)) (or_parts (ends now) (list_any ends (filter (is_of j x) earlier)) e).0,
      (Decides-eqb now.transaction x).0
          (and_right (now.session == j) (now.transaction == x) f),
    )
    go false f s e =
        let is = h j x r s e in
        absurd (let bad : true ≡ false = sym (is_mine j x now mine (sym (same is.0 is.1) ∙ is.2)) ∙ f in cc)

pub ended_beside : (j : ℕ) (earlier : List Said) (now : Said) → now.session ≡ j → now.transaction ≡ 0 → stored now ≡ None → Ended earlier → Ended (now ∷ earlier)
ended_beside j earlier now mine none writes_none h k x r s e = at_index j (λ i. IsSome (image_in r (stored_in i x (now ∷ earlier))) →
    list_any ends (filter (is_of i x) (now ∷ earlier)) ≡ false → (q : Said) × (open_of i (now ∷ earlier) ≡ Some q) × (q.transaction ≡ x))
    (λ s e. go (is_of j x now) s e) (λ i f s e. ended_other j earlier now mine h i f x r s e) k s e
  where
    last : last_of j (now ∷ earlier) ≡ last_of j earlier
    last = last_by j earlier now false mine (ap (nat_lt 0) none)

    same : (q : Said) × (open_of j earlier ≡ Some q) × (q.transaction ≡ x) → (q : Said) × (open_of j (now ∷ earlier) ≡ Some q) × (q.transaction ≡ x)
    same (q, f, g) = (q, ap open_after last ∙ f, g)

    go : (b : Bool) → IsSome (image_in r (filter_map stored (cond b (now ∷ filter (is_of j x) earlier) (filter (is_of j x) earlier)))) →
        list_any ends (cond b (now ∷ filter (is_of j x) earlier) (filter (is_of j x) earlier)) ≡ false → (q : Said) × (open_of j (now ∷ earlier) ≡ Some q) × (q.transaction ≡ x)
    go true s e = same (h j x r (subst (λ o. IsSome (image_in r (cons_option o (stored_in j x earlier)))) writes_none s) (or_parts (ends now) (list_any ends (filter (is_of j x) earlier)) e).1)
    go false s e = same (h j x r s e)

-- ---- answers that begin nothing

abbrev NotBegun : Answer → Type 0
NotBegun (Begun at) = ⊥
NotBegun _ = ⊤

not_begun_if : (b : Bool) (table : TableId) (P : Answer → Type 0) (a : Answer) → ((x : Answer) → P x → NotBegun x) → MatchBool b (P a) (IsUndeclared table a) → NotBegun a
not_begun_if true table P a f h = f a h
not_begun_if false table P (Begun at) f h = absurd h
not_begun_if false table P _ f h = tt

pub not_begun : (look : Rid → Image) (wrote : Bool) (rest : Option Rest) (now : Said) (st : Statement) → IsPlain st → IsAnswer replay look wrote rest now st → NotBegun now.reply.answer
not_begun look wrote rest now (Begin scope) plain h = absurd plain
not_begun look wrote rest now (CursorOpen table low high) plain h = absurd plain
not_begun look wrote rest now (Gc kind) plain h = absurd plain
not_begun look wrote rest now (Get r) plain h = not_begun_if (has now.scope r.table) r.table (IsGot (look r)) now.reply.answer one h
  where
    one : (x : Answer) → IsGot (look r) x → NotBegun x
    one (Begun at) k = absurd k
    one _ k = tt
not_begun look wrote rest now (Put r row) plain h = not_begun_if (has now.scope r.table) r.table IsPut now.reply.answer one h
  where
    one : (x : Answer) → IsPut x → NotBegun x
    one (Begun at) k = absurd k
    one _ k = tt
not_begun look wrote rest now (Del r) plain h = not_begun_if (has now.scope r.table) r.table (IsDeleted (look r)) now.reply.answer one h
  where
    one : (x : Answer) → IsDeleted (look r) x → NotBegun x
    one (Begun at) k = absurd k
    one _ k = tt
not_begun look wrote rest now (Scan table low high) plain h = not_begun_if (has now.scope table) table (IsScanned (λ key. look (record { table = table; key = key })) low high) now.reply.answer one h
  where
    one : (x : Answer) → IsScanned (λ key. look (record { table = table; key = key })) low high x → NotBegun x
    one (Begun at) k = absurd k
    one _ k = tt
not_begun look wrote rest now (Fetch n) plain h = one rest now.reply.answer h
  where
    one : (y : Option Rest) (x : Answer) → IsFetched look n y x → NotBegun x
    one None (Begun at) k = absurd k
    one (Some z) (Begun at) k = absurd k
    one y _ k = tt
not_begun look wrote rest now CursorClose plain h = one now.reply.answer h
  where
    one : (x : Answer) → IsEnded x → NotBegun x
    one (Begun at) k = absurd k
    one _ k = tt
not_begun look wrote rest now CommitIt plain h = one now.reply.answer h
  where
    one : (x : Answer) → IsCommitted wrote x → NotBegun x
    one (Begun at) k = absurd k
    one _ k = tt
not_begun look wrote rest now Rollback plain h = one now.reply.answer h
  where
    one : (x : Answer) → IsUndone x → NotBegun x
    one (Begun at) k = absurd k
    one _ k = tt

pub shown_at : (a : Answer) (at : Option ℕ) (P : ℕ → Type 0) → NotBegun a → IfSome (elim a [ Begun n ↦ Some n | _ ↦ at ]) P → IfSome at P
shown_at (Begun n) at P k h = absurd k
shown_at _ at P k h = h

pub plain_same : (a : Answer) → is_swept a ≡ false → plain_answer a ≡ a
plain_same (Swept sweep) e = absurd (let bad : true ≡ false = e in cc)
plain_same _ e = refl

pub some_is : (at : Option ℕ) (m : ℕ) → is_some at ≡ true → IfSome at (λ n. n ≡ m) → at ≡ Some m
some_is None m e h = absurd (let bad : false ≡ true = e in cc)
some_is (Some n) m e h = ap Some h

abbrev pub made : ℕ × ℕ → Told
made p = record { session = p.0; number = p.1; moved = false }
