-- A transaction that is rolled back.
use Rattle.std.proofs.Common.{◌≡◌, ◌⊎◌, ℕ, List, [], ◌∷◌, ◌++◌, map, Bool, true, false, cond, Option, Some, None, refl, sym, ap, ◌∙◌, subst, inl, inr, arith}
use Rattle.std.specs.Prelude.{is_some, IsTrue, ◌||◌}
use Rattle.hg_base.specs.declared.rid.Rid.{Rid}
use Rattle.hg_base.specs.declared.image.Image.{Image}
use Rattle.hg_base.specs.declared.scope.Snapshot.{Snapshot}
use Rattle.hg_base.specs.History.{same_rid, is_among, NoneTwice}
use Rattle.hg_base.proofs.HistoryFacts.{same_rid_itself}
use Rattle.hg_base.proofs.RidOrder.{same_back as same_rid_turned}
use Rattle.hg_core.specs.declared.log.LogEntry.{LogEntry}
use Rattle.hg_core.specs.declared.log.LogEntry.TheVariants.{Undid, Over}
use Rattle.hg_core.specs.declared.phase.Phase.TheVariants.{Idle}
use Rattle.hg_core.specs.Logs.{begans, wrotes, is_plain, open_in, own_writes}
use Rattle.hg_core.specs.Reading.{UndoesAll}
use Rattle.hg_core.proofs.NewGroup.{image_open}
use Rattle.hg_rule.specs.declared.view.SessionPart.{SessionPart}
use Rattle.hg_rule.specs.declared.view.Part.TheVariants.{OfSession}
use Rattle.hg_rule.specs.declared.view.Sight.{Sight}
use Rattle.hg_rule.specs.declared.view.Sight.TheVariants.{Heard}
use Rattle.hg_rule.specs.declared.view.View.{View}
use Rattle.hg_rule.specs.Facts.{IsAmong}
use Rattle.hg_rule.specs.Views.{number, session, HasOnlySession}
use Rattle.hg_rule.specs.Steps.{logging, Ends}
use Rattle.hg_rule.specs.Holding.{writer}
use Rattle.hg_rule.specs.Places.{without_bucket}
use Rattle.hg_rule.specs.Writes.{with_log, Undoes}
use Rattle.hg_rule.proofs.Lists.{starts_on}
use Rattle.hg_store.specs.Stores.{Takes}
use Rattle.hg_session.specs.Ties.{AreWritten, Ties}
use Rattle.hg_session.specs.Gains.{Alone, HasUndone}
use Rattle.hg_session.proofs.Trips.{undone, departed, alone_only, ended}
use Rattle.hg_cursor.proofs.Trips.{first_number, first_session, arrived}

-- ---- what an undo leaves of a log

pub begans_undone : (rids : List Rid) (log : List LogEntry) → begans (map Undid rids ++ log) ≡ begans log
begans_undone [] log = refl
begans_undone (r ∷ rids) log = begans_undone rids log

pub wrotes_undone : (rids : List Rid) (log : List LogEntry) → wrotes (map Undid rids ++ log) ≡ wrotes log
wrotes_undone [] log = refl
wrotes_undone (r ∷ rids) log = wrotes_undone rids log

pub open_undone : (r : Rid) (rids : List Rid) (log : List LogEntry) → open_in r (map Undid rids ++ log) ≡ cond (is_among r rids) None (open_in r log)
open_undone r [] log = refl
open_undone r (q ∷ rids) log = ap (λ b. cond b None (open_in r (map Undid rids ++ log))) (same_rid_turned q r) ∙
    (ap (λ o. cond (same_rid r q) None o) (open_undone r rids log) ∙ go (same_rid r q) (is_among r rids))
  where
    go : (a b : Bool) → cond a None (cond b None (open_in r log)) ≡ cond (a || b) None (open_in r log)
    go true b = refl
    go false b = refl

-- ---- the records that are to come

pub last_apart : (xs ys : List Rid) (r : Rid) → NoneTwice ((xs ++ r ∷ []) ++ ys) → is_among r ys ≡ false
last_apart [] ys r h = h.0
last_apart (x ∷ xs) ys r h = last_apart xs ys r h.1

pub last_among : (xs ys : List Rid) (r : Rid) → is_among r ((xs ++ r ∷ []) ++ ys) ≡ true
last_among [] ys r = ap (λ b. b || is_among r ys) (same_rid_itself r)
last_among (x ∷ xs) ys r = ap (λ b. same_rid r x || b) (last_among xs ys r) ∙ go (same_rid r x)
  where
    go : (a : Bool) → (a || true) ≡ true
    go true = refl
    go false = refl

-- ---- one after the other

pub undid_none : (v : View) → HasOnlySession v → HasUndone v [] v
undid_none v only = record { alone = record { parts = only; kept = ([], sym (nil v.sights)) }; heard = inl refl }
  where
    nil : (xs : List Sight) → xs ++ [] ≡ xs
    nil [] = refl
    nil (x ∷ xs) = ap (λ l. x ∷ l) (nil xs)

pub undid_once : (v u u' w : View) (b : ℕ) (rid : Rid) → HasOnlySession v → Takes v b u → Undoes u rid u' → w ≡ without_bucket u' → HasUndone v (rid ∷ []) w
undid_once v u u' w b rid only t k e =
    let h = arrived v u b only t in
    let d = undone (number v) (session v) b v.sights rid u u' h k in record {
      alone = departed (number v) _ b v.sights u' w d.0 e;
      heard = inr (subst (IsAmong (Heard (number v) (Undid rid ∷ (session v).log))) (sym (ap (λ (x : View). x.sights) e)) d.1);
    }

pub undone_only : (v u : View) (rids : List Rid) → HasUndone v rids u → HasOnlySession u
undone_only v u rids a = alone_only u (number v) _ v.sights a.alone

pub undone_writer : (v u : View) (rids : List Rid) → HasUndone v rids u → writer u ≡ writer v
undone_writer v u rids a =
    let n = first_number u (number v) _ [] a.alone.parts in
    let s = first_session u (number v) _ [] a.alone.parts in
    (λ i. record { session = n i; transaction = (ap (λ (p : SessionPart). begans p.log) s ∙ begans_undone rids (session v).log) i })

pub undone_log : (v u : View) (rids : List Rid) → HasUndone v rids u → (session u).log ≡ map Undid rids ++ (session v).log
undone_log v u rids a = ap (λ (p : SessionPart). p.log) (first_session u (number v) _ [] a.alone.parts)

-- one more, after these
pub undone_more : (v u w : View) (rids : List Rid) (rid : Rid) → HasUndone v rids u → HasUndone u (rid ∷ []) w → HasUndone v (rid ∷ rids) w
undone_more v u w rids rid a b =
    let part : SessionPart = with_log (map Undid rids ++ (session v).log) (session v) in
    let n = first_number u (number v) part [] a.alone.parts in
    let s = first_session u (number v) part [] a.alone.parts in
    record {
      alone = record {
        parts = b.alone.parts ∙ (λ i. OfSession (n i) (with_log (Undid rid ∷ (s i).log) (s i)) ∷ []);
        kept = starts_on w.sights u.sights v.sights a.alone.kept b.alone.kept;
      };
      heard = later n s b.heard;
    }
  where
    later : number u ≡ number v → session u ≡ with_log (map Undid rids ++ (session v).log) (session v) → (rid ∷ [] ≡ []) ⊎ IsAmong (Heard (number u) (Undid rid ∷ (session u).log)) w.sights →
        (rid ∷ rids ≡ []) ⊎ IsAmong (Heard (number v) (Undid rid ∷ (map Undid rids ++ (session v).log))) w.sights
    later n s (inl none) = absurd (let k = none in cc)
    later n s (inr m) = inr (subst (λ x. IsAmong x w.sights) (λ i. Heard (n i) (Undid rid ∷ (s i).log)) m)

-- ---- all of them, and the end

pub all_undone : (written : List Rid) (log : List LogEntry) → IsTrue (is_plain log) → AreWritten written log → UndoesAll (own_writes log) written
all_undone written log plain a = (a.once, λ r. a.each r ∙ ap is_some (sym (image_open r log plain)))

pub none_open : (written : List Rid) (log : List LogEntry) (r : Rid) → AreWritten written log → open_in r (map Undid written ++ log) ≡ None
none_open written log r a = open_undone r written log ∙ go (is_among r written) (open_in r log) (a.each r)
  where
    go : (b : Bool) (o : Option Image) → b ≡ is_some o → cond b None o ≡ None
    go true o e = refl
    go false None e = refl
    go false (Some i) e = absurd (let k = e in cc)

-- the log after it
pub record RolledBack (v : View) (rids : List Rid) (w : View) : Type 0 where
  pub alone : Alone (number v) (logging Over Idle (with_log (map Undid rids ++ (session v).log) (session v))) v.sights w
  pub heard : IsAmong (Heard (number v) (Over ∷ (map Undid rids ++ (session v).log))) w.sights

pub rolled_back : (v u w : View) (rids : List Rid) → HasUndone v rids u → Ends u w → RolledBack v rids w
rolled_back v u w rids a k =
    let n = first_number u (number v) _ [] a.alone.parts in
    let s = first_session u (number v) _ [] a.alone.parts in
    let e = ended u w (undone_only v u rids a) k in record {
      alone = record {
        parts = e.0.parts ∙ (λ i. OfSession (n i) (logging Over Idle (s i)) ∷ []);
        kept = starts_on w.sights u.sights v.sights a.alone.kept e.0.kept;
      };
      heard = subst (λ x. IsAmong x w.sights) (λ i. Heard (n i) (Over ∷ (s i).log)) e.1;
    }

pub ties_rolled : (quota left begins writes : ℕ) (opened : Option Snapshot) (written rids : List Rid) (part : SessionPart) → Ties quota opened written left begins writes part →
    Ties quota None [] left begins writes (logging Over Idle (with_log (map Undid rids ++ part.log) part))
ties_rolled quota left begins writes opened written rids part t =
    let b = t.begun in
    let w = t.wrote in
    let nb = begans_undone rids part.log in
    let nw = wrotes_undone rids part.log in record {
      phase = refl;
      unstamped = t.unstamped;
      opens = refl;
      plain = refl;
      written_is = record { once = tt; each = λ r. refl };
      rests = λ e. refl;
      begun = omega (arith, b, nb);
      wrote = omega (arith, w, nw);
    }
