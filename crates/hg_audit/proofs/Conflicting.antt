-- What is stored and committed in all lines, in either order.
use Rattle.std.proofs.Common.{◌≡◌, ℕ, zero, suc, ◌<◌, take, List, [], ◌∷◌, Bool, true, false, Option, Some, None, refl, sym, ap, ◌∙◌, subst, cond}
use Rattle.std.specs.Prelude.{◌==◌, ◌||◌, filter, filter_map, is_some, Decides}
use Rattle.std.specs.List.{cons_option}
use Rattle.hg_base.specs.declared.rid.Rid.{Rid}
use Rattle.hg_base.specs.declared.image.Image.{Image}
use Rattle.hg_base.specs.declared.writer.Writer.{Writer}
use Rattle.hg_base.specs.Lists.{Each, onto}
use Rattle.hg_base.specs.History.{History, Write, image_in, same_rid}
use Rattle.hg_base.specs.Transcript.{Said, is_of, stored, stored_in, own_writes, committed, numbers_in}
use Rattle.hg_base.specs.declared.line.Answer.TheVariants.{Newer, OpenBy}
use Rattle.hg_base.specs.Script.{Mode, replay, run}
use Rattle.hg_base.specs.Conflicts.{OnReplay, ShowsCause, ShowsOpen, IsStillOpen}
use Rattle.hg_base.proofs.ListFacts.{false_true}
use Rattle.hg_known.specs.declared.own.Spot.{Spot}
use Rattle.hg_known.proofs.Walking.{earlier_at}
use Rattle.hg_audit.specs.declared.shape.Command.{Command}
use Rattle.hg_audit.specs.declared.shape.Command.TheVariants.{Replay, Run}
use Rattle.hg_audit.specs.Judged.{IsOf}
use Rattle.hg_audit.specs.Known.{IsPart}
use Rattle.hg_known.specs.Owned.{own_at, AreOwn}
use Rattle.hg_known.specs.Ended.{is_over, AreOpenOwn, ForgetsOver}

-- whether a list of lines stores r in that transaction
abbrev pub stores : ℕ → ℕ → Rid → List Said → Bool
stores j x r lines = is_some (image_in r (stored_in j x lines))

pub stores_cons : (j x : ℕ) (r : Rid) (s : Said) (lines : List Said) → stores j x r (s ∷ lines) ≡ (stores j x r (s ∷ []) || stores j x r lines)
stores_cons j x r s lines = go (is_of j x s) (stored s)
  where
    here : (o : Option Write) → is_some (image_in r (cons_option o (stored_in j x lines))) ≡ (is_some (image_in r (cons_option o [])) || stores j x r lines)
    here None = refl
    here (Some w) = same (same_rid w.rid r)
      where
        same : (b : Bool) → is_some (cond b (Some w.image) (image_in r (stored_in j x lines))) ≡ (is_some (cond b (Some w.image) None) || stores j x r lines)
        same true = refl
        same false = refl

    go : (b : Bool) (o : Option Write) → is_some (image_in r (filter_map stored (cond b (s ∷ filter (is_of j x) lines) (filter (is_of j x) lines)))) ≡
        (is_some (image_in r (filter_map stored (cond b (s ∷ []) []))) || stores j x r lines)
    go true o = here (stored s)
    go false o = refl

pub or_over : (a b c : Bool) → (a || (b || c)) ≡ ((b || a) || c)
or_over true true c = refl
or_over true false c = refl
or_over false true c = refl
or_over false false c = refl

pub stores_onto : (j x : ℕ) (r : Rid) (xs es : List Said) → stores j x r (onto xs es) ≡ (stores j x r xs || stores j x r es)
stores_onto j x r [] es = refl
stores_onto j x r (s ∷ xs) es =
    stores_onto j x r xs (s ∷ es) ∙ ap (λ b. stores j x r xs || b) (stores_cons j x r s es) ∙ or_over (stores j x r xs) (stores j x r (s ∷ [])) (stores j x r es)
    ∙ ap (λ b. b || stores j x r es) (sym (stores_cons j x r s xs))

pub or_false : (b : Bool) → (b || false) ≡ b
or_false true = refl
or_false false = refl

pub stores_all : (j x : ℕ) (r : Rid) (all : List Said) → stores j x r (onto all []) ≡ stores j x r all
stores_all j x r all = stores_onto j x r all [] ∙ or_false (stores j x r all)

-- ---- numbers

pub numbers_cons : (P : ℕ → Type 0) (j x : ℕ) (s : Said) (lines : List Said) → Each P (numbers_in j x (s ∷ lines)) → Each P (numbers_in j x (s ∷ [])) × Each P (numbers_in j x lines)
numbers_cons P j x s lines h = go (is_of j x s) h
  where
    here : (o : Option ℕ) → Each P (cons_option o (numbers_in j x lines)) → Each P (cons_option o []) × Each P (numbers_in j x lines)
    here None k = (tt, k)
    here (Some n) k = ((k.0, tt), k.1)

    go : (b : Bool) → Each P (filter_map committed (cond b (s ∷ filter (is_of j x) lines) (filter (is_of j x) lines))) → Each P (filter_map committed (cond b (s ∷ []) [])) ×
        Each P (numbers_in j x lines)
    go true k = here (committed s) k
    go false k = (tt, k)

pub cons_numbers : (P : ℕ → Type 0) (j x : ℕ) (s : Said) (lines : List Said) → Each P (numbers_in j x (s ∷ [])) → Each P (numbers_in j x lines) → Each P (numbers_in j x (s ∷ lines))
cons_numbers P j x s lines h k = go (is_of j x s) h
  where
    here : (o : Option ℕ) → Each P (cons_option o []) → Each P (cons_option o (numbers_in j x lines))
    here None l = k
    here (Some n) l = (l.0, k)

    go : (b : Bool) → Each P (filter_map committed (cond b (s ∷ []) [])) → Each P (filter_map committed (cond b (s ∷ filter (is_of j x) lines) (filter (is_of j x) lines)))
    go true l = here (committed s) l
    go false l = k

pub numbers_onto : (P : ℕ → Type 0) (j x : ℕ) (xs es : List Said) → Each P (numbers_in j x (onto xs es)) → Each P (numbers_in j x xs) × Each P (numbers_in j x es)
numbers_onto P j x [] es h = (tt, h)
numbers_onto P j x (s ∷ xs) es h =
    let k = numbers_onto P j x xs (s ∷ es) h in
    let l = numbers_cons P j x s es k.1 in
    (cons_numbers P j x s xs l.0 k.0, l.1)

pub onto_numbers : (P : ℕ → Type 0) (j x : ℕ) (xs es : List Said) → Each P (numbers_in j x xs) → Each P (numbers_in j x es) → Each P (numbers_in j x (onto xs es))
onto_numbers P j x [] es h k = k
onto_numbers P j x (s ∷ xs) es h k =
    let l = numbers_cons P j x s xs h in
    onto_numbers P j x xs (s ∷ es) l.1 (cons_numbers P j x s es l.0 k)

-- ---- the cause

pub some_stored : (own : List (Spot × Image)) (lines : List Said) (j x : ℕ) (r : Rid) → AreOwn own lines → is_some (own_at own j x r) ≡ stores j x r lines
some_stored own lines j x r is = ap is_some (is j x r)

pub open_shown : (own : List (Spot × Image)) (all : List Said) (session at : ℕ) (r : Rid) (w : Writer) (b n : Bool) → AreOwn own (onto all []) → (w.session == session) ≡ false →
    b ≡ is_some (own_at own w.session w.transaction r) → b ≡ true →
    Decides n (Each (λ c. at < c) (numbers_in w.session w.transaction (onto all []))) →
    Decides n (ShowsOpen (stored_in w.session w.transaction all) (numbers_in w.session w.transaction all) session at r w)
open_shown own all session at r w b n is other e f d = (
  λ t. record {
    other = other;
    does = sym (stores_all w.session w.transaction r all) ∙ sym (some_stored own (onto all []) w.session w.transaction r is) ∙ sym e ∙ f;
    after = (numbers_onto (λ c. at < c) w.session w.transaction all [] (d.0 t)).0;
  },
  λ s. d.1 (onto_numbers (λ c. at < c) w.session w.transaction all [] s.after tt),
)

pub not_stored : (own : List (Spot × Image)) (all : List Said) (session at : ℕ) (r : Rid) (w : Writer) (b : Bool) → AreOwn own (onto all []) →
    b ≡ is_some (own_at own w.session w.transaction r) → b ≡ false → ShowsOpen (stored_in w.session w.transaction all) (numbers_in w.session w.transaction all) session at r w → ⊥
not_stored own all session at r w b is e f s = false_true (sym f ∙ e ∙ some_stored own (onto all []) w.session w.transaction r is ∙ stores_all w.session w.transaction r all ∙ s.does)

-- ---- what earlier lines store

pub or_more : (a b c : Bool) → (b ≡ true → c ≡ true) → (a || b) ≡ true → (a || c) ≡ true
or_more true b c h e = refl
or_more false b c h e = h e

pub stores_front : (j x : ℕ) (r : Rid) (k : ℕ) (lines : List Said) → stores j x r (take k lines) ≡ true → stores j x r lines ≡ true
stores_front j x r zero lines e = absurd (false_true e)
stores_front j x r (suc k) [] e = e
stores_front j x r (suc k) (s ∷ lines) e = stores_cons j x r s lines ∙ or_more (stores j x r (s ∷ [])) (stores j x r (take k lines)) (stores j x r lines)
    (stores_front j x r k lines) (sym (stores_cons j x r s (take k lines)) ∙ e)

pub part_at : (lines : List Said) (k : ℕ) → IsPart (earlier_at lines k) lines
part_at lines k j x r e = stores_front j x r k lines (sym (stores_all j x r (take k lines)) ∙ e)

pub still_shown : (all earlier : List Said) (session at : ℕ) (r : Rid) (w : Writer) (n : Bool) → IsPart earlier all → (w.session == session) ≡ false → IsStillOpen earlier r w →
    Decides n (Each (λ c. at < c) (numbers_in w.session w.transaction (onto all []))) →
    Decides n (ShowsOpen (stored_in w.session w.transaction all) (numbers_in w.session w.transaction all) session at r w × IsStillOpen earlier r w)
still_shown all earlier session at r w n part other still d = (
  λ t. (
    record {
      other = other;
      does = part w.session w.transaction r still.does;
      after = (numbers_onto (λ c. at < c) w.session w.transaction all [] (d.0 t)).0;
    },
    still,
  ),
  λ s. d.1 (onto_numbers (λ c. at < c) w.session w.transaction all [] s.0.after tt),
)

-- of what is kept of open transactions alone, whether a write is open still
pub open_still : (own : List (Spot × Image)) (earlier : List Said) (r : Rid) (w : Writer) (b : Bool) → AreOpenOwn own earlier → ForgetsOver own earlier →
    b ≡ is_some (own_at own w.session w.transaction r) → Decides b (IsStillOpen earlier r w)
open_still own earlier r w b is over e = (
  λ t. go (is_over w.session w.transaction earlier) refl (sym e ∙ t),
  λ s. e ∙ ap is_some (is w.session w.transaction s.opened r) ∙ s.does,
)
  where
    go : (o : Bool) → is_over w.session w.transaction earlier ≡ o → is_some (own_at own w.session w.transaction r) ≡ true → IsStillOpen earlier r w
    go true f t = absurd (false_true (sym (ap is_some (over w.session w.transaction f r)) ∙ t))
    go false f t = record { does = sym (ap is_some (is w.session w.transaction f r)) ∙ t; opened = f }

-- ---- the cause of a refused write, by what is decided of its parts

on_run : (command : Command) (mode : Mode) → command ≡ Run → IsOf command mode → (P : Type 0) → OnReplay mode P
on_run command (run rounds) e o P = tt
on_run command replay e o P = absurd (subst (λ c. IsOf c replay) e o)

on_replay : (mode : Mode) (P : Type 0) → P → OnReplay mode P
on_replay replay P p = p
on_replay (run rounds) P p = tt

off_replay : (command : Command) (mode : Mode) → command ≡ Replay → IsOf command mode → (P : Type 0) → OnReplay mode P → P
off_replay command replay e o P p = p
off_replay command (run rounds) e o P p = absurd (subst (λ c. IsOf c (run rounds)) e o)

module _ (mode : Mode) (h : History) (all earlier : List Said) (now : Said) (r : Rid) (b : Bool) (its : b ≡ is_some (image_in r (own_writes earlier now))) where
  pub newer_own : (n : ℕ) → b ≡ true → Decides false (ShowsCause mode h all earlier now r (Newer n))
  newer_own n f = (λ t. absurd (false_true t), λ s. absurd (false_true (sym s.0 ∙ sym its ∙ f)))

  pub open_own : (w : Writer) → b ≡ true → Decides false (ShowsCause mode h all earlier now r (OpenBy w))
  open_own w f = (λ t. absurd (false_true t), λ s. absurd (false_true (sym s.0 ∙ sym its ∙ f)))

  pub open_run : (command : Command) (w : Writer) (d : Bool) → command ≡ Run → IsOf command mode → b ≡ false →
      Decides d (ShowsOpen (stored_in w.session w.transaction all) (numbers_in w.session w.transaction all) now.session now.at r w) → Decides d (ShowsCause mode h all earlier now r (OpenBy w))
  open_run command w d e o f is = (λ t. (sym its ∙ f, is.0 t, on_run command mode e o (IsStillOpen earlier r w)), λ s. is.1 s.1)

  pub open_replay : (command : Command) (w : Writer) (d : Bool) → command ≡ Replay → IsOf command mode → b ≡ false →
      Decides d (ShowsOpen (stored_in w.session w.transaction all) (numbers_in w.session w.transaction all) now.session now.at r w × IsStillOpen earlier r w) →
      Decides d (ShowsCause mode h all earlier now r (OpenBy w))
  open_replay command w d e o f is = (
    λ t. let both = is.0 t in (sym its ∙ f, both.0, on_replay mode (IsStillOpen earlier r w) both.1),
    λ s. is.1 (s.1, off_replay command mode e o (IsStillOpen earlier r w) s.2),
  )
