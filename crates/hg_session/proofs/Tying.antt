-- What a session keeps, after each entry of its log.
use Rattle.std.proofs.Common.{◌≡◌, ℕ, suc, ◌+◌, ◌≤◌, List, [], ◌∷◌, ◌++◌, Bool, true, false, not, cond, Option, Some, None, refl, sym, ap, ◌∙◌, subst, arith}
use Rattle.std.specs.Prelude.{is_some, ◌||◌, Err, ⊤}
use Rattle.std.specs.List.{list_any}
use Rattle.std.proofs.Math.Bool.{or-false, or-true}
use Rattle.hg_base.specs.declared.rid.Rid.{Rid}
use Rattle.hg_base.specs.declared.image.Image.{Image}
use Rattle.hg_base.specs.declared.scope.Snapshot.{Snapshot}
use Rattle.hg_base.specs.History.{same_rid, is_among, NoneTwice}
use Rattle.hg_base.proofs.HistoryFacts.{same_rid_equal}
use Rattle.hg_core.specs.declared.phase.Phase.TheVariants.{Idle}
use Rattle.hg_core.specs.declared.log.LogEntry.{LogEntry}
use Rattle.hg_core.specs.declared.log.LogEntry.TheVariants.{Began, Saw, Refused, Outside, Wrote, Undid, Published, Over}
use Rattle.hg_core.specs.Logs.{open_in}
use Rattle.hg_base.specs.declared.line.Answer.TheVariants as answers
use Rattle.hg_base.proofs.RidOrder.{same_back as same_rid_turned}
use Rattle.hg_bucket.specs.declared.refusal.WriteRefusal.{WriteRefusal}
use Rattle.hg_bucket.specs.declared.refusal.WriteRefusal.TheVariants.{Open, Newer, NoMemory}
use Rattle.hg_rule.specs.declared.view.SessionPart.{SessionPart}
use Rattle.hg_rule.specs.Steps.{logging}
use Rattle.hg_rule.specs.Writes.{with_log, with_entry, with_published}
use Rattle.hg_session.specs.Gains.{entries_of}
use Rattle.hg_session.specs.Ties.{AreWritten, Ties}

module _ (quota : ℕ) (opened : Option Snapshot) (written : List Rid) (part : SessionPart) where
  -- one statement of those that are left
  pub ties_spent : (left less : ℕ) → left ≡ less + 1 → Ties quota opened written left 0 0 part → Ties quota opened written less 1 1 part
  ties_spent left less e t =
      let b = t.begun in
      let w = t.wrote in
      record { phase = t.phase; unstamped = t.unstamped; opens = t.opens; plain = t.plain; written_is = t.written_is; rests = t.rests; begun = omega (arith, e, b); wrote = omega (arith, e, w) }

  ties_less : (left begins writes b w : ℕ) → b ≤ begins → w ≤ writes → Ties quota opened written left begins writes part → Ties quota opened written left b w part
  ties_less left begins writes b w f g t =
      let x = t.begun in
      let y = t.wrote in
      record { phase = t.phase; unstamped = t.unstamped; opens = t.opens; plain = t.plain; written_is = t.written_is; rests = t.rests; begun = omega (arith, f, x); wrote = omega (arith, g, y) }

  -- one that neither begins nor writes
  pub ties_unbegun : (left : ℕ) → Ties quota opened written left 1 1 part → Ties quota opened written left 0 1 part
  ties_unbegun left t = ties_less left 1 1 0 1 (omega arith) (omega arith) t

  pub ties_unwritten : (left : ℕ) → Ties quota opened written left 0 1 part → Ties quota opened written left 0 0 part
  ties_unwritten left t = ties_less left 0 1 0 0 (omega arith) (omega arith) t

-- ---- entries that change nothing of this

abbrev pub IsQuiet : LogEntry → Type 0
IsQuiet (Saw table low high b rows) = ⊤
IsQuiet (Refused r answer) = ⊤
IsQuiet (Outside table) = ⊤
IsQuiet _ = ⊥

pub ties_quiet : (quota left begins writes : ℕ) (opened : Option Snapshot) (written : List Rid) (part : SessionPart) (e : LogEntry) → IsQuiet e →
    Ties quota opened written left begins writes part → Ties quota opened written left begins writes (with_entry e part)
ties_quiet quota left begins writes opened written part (Saw table low high b rows) q t = record {
  phase = t.phase;
  unstamped = t.unstamped;
  opens = t.opens;
  plain = t.plain;
  written_is = record { once = t.written_is.once; each = t.written_is.each };
  rests = t.rests;
  begun = t.begun;
  wrote = t.wrote;
}
ties_quiet quota left begins writes opened written part (Refused r answer) q t = record {
  phase = t.phase;
  unstamped = t.unstamped;
  opens = t.opens;
  plain = t.plain;
  written_is = record { once = t.written_is.once; each = t.written_is.each };
  rests = t.rests;
  begun = t.begun;
  wrote = t.wrote;
}
ties_quiet quota left begins writes opened written part (Outside table) q t = record {
  phase = t.phase;
  unstamped = t.unstamped;
  opens = t.opens;
  plain = t.plain;
  written_is = record { once = t.written_is.once; each = t.written_is.each };
  rests = t.rests;
  begun = t.begun;
  wrote = t.wrote;
}
ties_quiet quota left begins writes opened written part (Began at scope) q t = absurd q
ties_quiet quota left begins writes opened written part (Wrote r image) q t = absurd q
ties_quiet quota left begins writes opened written part (Undid r) q t = absurd q
ties_quiet quota left begins writes opened written part (Published n) q t = absurd q
ties_quiet quota left begins writes opened written part Over q t = absurd q

-- ---- lists of records

list_any-append : {A : Type 0} (f : A → Bool) (xs ys : List A) → list_any f (xs ++ ys) ≡ (list_any f xs || list_any f ys)
list_any-append f [] ys = refl
list_any-append f (x ∷ xs) ys = ap (λ b. f x || b) (list_any-append f xs ys) ∙ assoc (f x) (list_any f xs) (list_any f ys)
  where
    assoc : (a b c : Bool) → (a || (b || c)) ≡ ((a || b) || c)
    assoc true b c = refl
    assoc false b c = refl

none_twice_snoc : (rids : List Rid) (r : Rid) → NoneTwice rids → is_among r rids ≡ false → NoneTwice (rids ++ r ∷ [])
none_twice_snoc [] r h e = (refl, tt)
none_twice_snoc (q ∷ rids) r h e =
    let parts = or_parts (same_rid r q) (is_among r rids) e in (
      list_any-append (same_rid q) rids (r ∷ []) ∙ (λ i. h.0 i || ((same_rid_turned q r ∙ parts.0) i || false)),
      none_twice_snoc rids r h.1 parts.1,
    )
  where
    or_parts : (a b : Bool) → (a || b) ≡ false → (a ≡ false) × (b ≡ false)
    or_parts true b e = absurd (let k = e in cc)
    or_parts false b e = (refl, e)

among_snoc : (q r : Rid) (rids : List Rid) → is_among q (rids ++ r ∷ []) ≡ (is_among q rids || same_rid q r)
among_snoc q r rids = list_any-append (same_rid q) rids (r ∷ []) ∙ ap (λ b. is_among q rids || b) (or-false (same_rid q r))

-- a write, which adds its record to the list where none was open
abbrev pub with_written : Bool → Rid → List Rid → List Rid
with_written true r written = written ++ r ∷ []
with_written false r written = written

written_more : (r : Rid) (image : Image) (written : List Rid) (log : List LogEntry) (new : Bool) → new ≡ not (is_some (open_in r log)) → AreWritten written log →
    AreWritten (with_written new r written) (Wrote r image ∷ log)
written_more r image written log true e a = record {
  once = none_twice_snoc written r a.once (a.each r ∙ not_false (is_some (open_in r log)) (sym e));
  each = λ q. among_snoc q r written ∙ ((λ i. a.each q i || same_rid q r) ∙ go q (same_rid r q) refl (same_rid q r) (same_rid_turned q r));
}
  where
    not_false : (b : Bool) → not b ≡ true → b ≡ false
    not_false true k = absurd (let z = k in cc)
    not_false false k = refl

    go : (q : Rid) (b : Bool) → same_rid r q ≡ b → (c : Bool) → c ≡ same_rid r q → (is_some (open_in q log) || c) ≡ is_some (cond (same_rid r q) (Some image) (open_in q log))
    go q true f c g = ap (λ x. is_some (open_in q log) || x) (g ∙ f) ∙ (or-true (is_some (open_in q log)) ∙ ap (λ x. is_some (cond x (Some image) (open_in q log))) (sym f))
    go q false f c g = ap (λ x. is_some (open_in q log) || x) (g ∙ f) ∙ (or-false (is_some (open_in q log)) ∙ ap (λ x. is_some (cond x (Some image) (open_in q log))) (sym f))
written_more r image written log false e a = record {
  once = a.once;
  each = λ q. a.each q ∙ go q (same_rid r q) refl;
}
  where
    not_true : (b : Bool) → not b ≡ false → b ≡ true
    not_true true k = refl
    not_true false k = absurd (let z = k in cc)

    go : (q : Rid) (b : Bool) → same_rid r q ≡ b → is_some (open_in q log) ≡ is_some (cond (same_rid r q) (Some image) (open_in q log))
    go q false f = ap (λ x. is_some (cond x (Some image) (open_in q log))) (sym f)
    go q true f = ap (λ x. is_some (open_in x log)) (sym (same_rid_equal r q f)) ∙ (not_true (is_some (open_in r log)) (sym e) ∙ ap (λ x. is_some (cond x (Some image) (open_in q log))) (sym f))

pub ties_wrote : (quota left writes : ℕ) (opened : Snapshot) (written : List Rid) (part : SessionPart) (r : Rid) (image : Image) (new : Bool) →
    new ≡ not (is_some (open_in r part.log)) → Ties quota (Some opened) written left 0 (suc writes) part →
    Ties quota (Some opened) (with_written new r written) left 0 writes (with_entry (Wrote r image) part)
ties_wrote quota left writes opened written part r image new e t =
    let w = t.wrote in record {
      phase = t.phase;
      unstamped = t.unstamped;
      opens = t.opens;
      plain = t.plain;
      written_is = written_more r image written part.log new e t.written_is;
      rests = λ z. absurd (let q = z in cc);
      begun = t.begun;
      wrote = omega (arith, w);
    }

-- a refusal, which leaves one entry or none
pub ties_refused : (quota left begins writes : ℕ) (opened : Option Snapshot) (written : List Rid) (part : SessionPart) (r : Rid) (image : Image) (e : WriteRefusal) →
    Ties quota opened written left begins writes part → Ties quota opened written left begins writes (with_log (entries_of {T = Bool} r image (Err e) ++ part.log) part)
ties_refused quota left begins writes opened written part r image (Open j x) t = ties_quiet quota left begins writes opened written part
    (Refused r (answers.OpenBy (record { session = j; transaction = x }))) tt t
ties_refused quota left begins writes opened written part r image (Newer n) t = ties_quiet quota left begins writes opened written part (Refused r (answers.Newer n)) tt t
ties_refused quota left begins writes opened written part r image NoMemory t = t

-- ---- the end of a transaction

-- one that has no open write is over
pub ties_over : (quota left begins writes : ℕ) (opened : Option Snapshot) (written : List Rid) (part : SessionPart) → written ≡ [] →
    Ties quota opened written left begins writes part → Ties quota None written left begins writes (logging Over Idle part)
ties_over quota left begins writes opened written part none t = record {
  phase = refl;
  unstamped = t.unstamped;
  opens = refl;
  plain = refl;
  written_is = subst (λ rids. AreWritten rids (Over ∷ part.log)) (sym none) (record { once = tt; each = λ r. refl });
  rests = λ e. none;
  begun = t.begun;
  wrote = t.wrote;
}

-- one that was published is over
pub ties_committed : (quota left begins writes n : ℕ) (opened : Option Snapshot) (written : List Rid) (part : SessionPart) → Ties quota opened written left begins writes part →
    Ties quota None [] left begins writes (logging Over Idle (with_published n part))
ties_committed quota left begins writes n opened written part t = record {
  phase = refl;
  unstamped = refl;
  opens = refl;
  plain = refl;
  written_is = record { once = tt; each = λ r. refl };
  rests = λ e. refl;
  begun = t.begun;
  wrote = t.wrote;
}
