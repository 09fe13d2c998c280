-- A session that begins, looks and ends.
use Rattle.std.proofs.Common.{◌≡◌, ◌∙◌, ℕ, zero, suc, inl, List, [], ◌∷◌, ◌++◌, false, Option, Some, None, refl, sym, ap, subst, append_assoc}
use Rattle.std.specs.Prelude.{Result, Ok, Err, OnOk, is_err}
use Rattle.std.proofs.lemmas.Bool.{true≢false}
use Rattle.hg_base.specs.declared.fault.NoMemory.{NoMemory}
use Rattle.hg_base.specs.declared.rid.Rid.{Rid}
use Rattle.hg_base.specs.declared.rid.TableId.{TableId}
use Rattle.hg_base.specs.declared.scope.Scope.TheVariants.{All}
use Rattle.hg_base.specs.Lists.{Each}
use Rattle.hg_base.specs.History.{History, image_in}
use Rattle.hg_base.proofs.ListFacts.{each_append}
use Rattle.hg_core.specs.declared.log.LogEntry.{LogEntry}
use Rattle.hg_core.specs.declared.log.LogEntry.TheVariants.{Began, Saw, Refused, Outside, Wrote, Undid, Published, Over}
use Rattle.hg_core.specs.declared.phase.Phase.TheVariants.{Idle, Live}
use Rattle.hg_core.specs.Logs.{current, is_plain, open_in, own_writes}
use Rattle.hg_core.specs.Reading.{looks}
use Rattle.hg_core.proofs.NewGroup.{image_open}
use Rattle.hg_rule.specs.declared.view.Part.TheVariants.{OfSession}
use Rattle.hg_rule.specs.declared.view.SessionPart.{SessionPart}
use Rattle.hg_rule.specs.declared.view.View.{View}
use Rattle.hg_rule.specs.declared.view.Sight.TheVariants.{Heard}
use Rattle.hg_rule.specs.Facts.{StartsWith, IsAmong}
use Rattle.hg_rule.proofs.Growing.{among_later}
use Rattle.hg_rule.specs.Views.{after_first, number, others, session, HasOnlySession}
use Rattle.hg_rule.specs.Steps.{Ends, logging}
use Rattle.hg_rule.specs.Writes.{with_log}
use Rattle.hg_rule.proofs.Lists.{starts_on}
use Rattle.hg_tracker.specs.Begun.{HasBegun}
use Rattle.hg_cursor.specs.Cursors.{Fetches, FetchesRest, LooksAt}
use Rattle.hg_cursor.specs.Keys.{Rows}
use Rattle.hg_cursor.specs.Logs.{Adds, GoesOn, ReadsAt}
use Rattle.hg_cursor.proofs.Backing.{earlier}
use Rattle.hg_cursor.proofs.Trips.{added_number, added_session, adds_none, adds_only, first_number, first_session}
use Rattle.hg_dump.specs.Exports.{HasReadAt, IsLook, IsReading, IsResting, Looks}

-- ---- what it reads

pub reads_table : (at : ℕ) (v : View) (table : TableId) → IsReading at v → ReadsAt at table v
reads_table at v table r = record { only = r.only; scope = All; live = r.live; opens = r.opens; declared = refl; unwritten = r.unwritten; plain = r.plain; unstamped = r.unstamped }

only_parts : (v w : View) (part : SessionPart) → w.parts ≡ OfSession (number v) part ∷ [] → HasOnlySession w
only_parts v w part e = e ∙ (λ i. OfSession (sym (first_number w (number v) part [] e) i) (sym (first_session w (number v) part [] e) i) ∷ [])

no_others : (v : View) → HasOnlySession v → others v ≡ []
no_others v only = ap after_first only

-- a session that rested, and began
pub reading_begun : (v w : View) (at : ℕ) → IsResting v → HasBegun v at All w → IsReading at w
reading_begun v w at r b =
    let part = logging (Began at All) (Live at All) (session v) in
    let parts = b.parts ∙ (λ i. OfSession (number v) part ∷ no_others v r.only i) in
    let s = first_session w (number v) part [] parts in record {
      only = only_parts v w part parts;
      live = ap (λ (p : SessionPart). p.phase) s;
      opens = ap (λ (p : SessionPart). current p.log) s;
      unwritten = ap (λ (p : SessionPart). own_writes p.log) s;
      plain = ap (λ (p : SessionPart). is_plain p.log) s;
      unstamped = ap (λ (p : SessionPart). p.stamped) s ∙ r.unstamped;
    }

-- ---- looks change nothing of this

still_current : (es log : List LogEntry) → Each IsLook es → current (es ++ log) ≡ current log
still_current [] log h = refl
still_current (Saw t l k b rows ∷ es) log h = still_current es log h.1
still_current (Began at scope ∷ es) log h = absurd h.0
still_current (Refused r a ∷ es) log h = absurd h.0
still_current (Outside t ∷ es) log h = absurd h.0
still_current (Wrote r i ∷ es) log h = absurd h.0
still_current (Undid r ∷ es) log h = absurd h.0
still_current (Published n ∷ es) log h = absurd h.0
still_current (Over ∷ es) log h = absurd h.0

still_unwritten : (es log : List LogEntry) → Each IsLook es → own_writes (es ++ log) ≡ own_writes log
still_unwritten [] log h = refl
still_unwritten (Saw t l k b rows ∷ es) log h = still_unwritten es log h.1
still_unwritten (Began at scope ∷ es) log h = absurd h.0
still_unwritten (Refused r a ∷ es) log h = absurd h.0
still_unwritten (Outside t ∷ es) log h = absurd h.0
still_unwritten (Wrote r i ∷ es) log h = absurd h.0
still_unwritten (Undid r ∷ es) log h = absurd h.0
still_unwritten (Published n ∷ es) log h = absurd h.0
still_unwritten (Over ∷ es) log h = absurd h.0

still_plain : (es log : List LogEntry) → Each IsLook es → is_plain (es ++ log) ≡ is_plain log
still_plain [] log h = refl
still_plain (Saw t l k b rows ∷ es) log h = still_plain es log h.1
still_plain (Began at scope ∷ es) log h = absurd h.0
still_plain (Refused r a ∷ es) log h = absurd h.0
still_plain (Outside t ∷ es) log h = absurd h.0
still_plain (Wrote r i ∷ es) log h = absurd h.0
still_plain (Undid r ∷ es) log h = absurd h.0
still_plain (Published n ∷ es) log h = absurd h.0
still_plain (Over ∷ es) log h = absurd h.0

pub reading_on : (at : ℕ) (v w : View) → IsReading at v → Looks v w → IsReading at w
reading_on at v w r k =
    let s = added_session v w k.entries k.adds in record {
      only = adds_only v w k.entries k.adds;
      live = ap (λ (p : SessionPart). p.phase) s ∙ r.live;
      opens = ap (λ (p : SessionPart). current p.log) s ∙ still_current k.entries (session v).log k.each ∙ r.opens;
      unwritten = ap (λ (p : SessionPart). own_writes p.log) s ∙ still_unwritten k.entries (session v).log k.each ∙ r.unwritten;
      plain = ap (λ (p : SessionPart). is_plain p.log) s ∙ still_plain k.entries (session v).log k.each ∙ r.plain;
      unstamped = ap (λ (p : SessionPart). p.stamped) s ∙ r.unstamped;
    }

-- ---- looks, one after the other

are_looks : (count : ℕ) (table : TableId) (low high : ℕ) (part : ℕ → Rows) (n : ℕ) → Each IsLook (looks count table low high part n)
are_looks count table low high part zero = tt
are_looks count table low high part (suc n) = (tt, are_looks count table low high part n)

looks_none : (v : View) → HasOnlySession v → Looks v v
looks_none v only = record { entries = []; each = tt; adds = adds_none v only }

looks_at : (count : ℕ) (v : View) (table : TableId) (low high : ℕ) (w : View) → LooksAt count v table low high w → Looks v w
looks_at count v table low high w k = record { entries = looks count table low high k.part k.number; each = are_looks count table low high k.part k.number; adds = k.adds }

by_answer : (count n : ℕ) (v : View) (table : TableId) (low high : ℕ) (answer : Result Rows NoMemory) (w : View) → Fetches count n v table low high answer w → Looks v w
by_answer count n v table low high (Ok rows) w k = looks_at count v table low high w k.looked
by_answer count n v table low high (Err e) w k = looks_at count v table low high w k

-- a fetch looks
pub looks_fetched : (count n : ℕ) (v : View) (table : TableId) (rest : Option ℕ) (high : ℕ) (answer : Result Rows NoMemory) (w : View) → HasOnlySession v →
    FetchesRest count n v table rest high answer w → Looks v w
looks_fetched count n v table None high answer w only k = subst (Looks v) (sym k.1) (looks_none v only)
looks_fetched count n v table (Some low) high answer w only k = by_answer count n v table low high answer w k

pub looks_first : (at : ℕ) (v : View) → IsReading at v → Looks v v
looks_first at v r = looks_none v r.only

adds_more : (u v w : View) (es fs : List LogEntry) → Adds u es v → Adds v fs w → Adds u (fs ++ es) w
adds_more u v w es fs a b =
    let n = added_number u v es a in
    let s = added_session u v es a in record {
      parts = b.parts ∙ (λ i. OfSession (n i) (with_log (fs ++ (s i).log) (s i)) ∷ []) ∙ (λ i. OfSession (number u) (with_log (sym (append_assoc fs es (session u).log) i) (session u)) ∷ []);
      kept = starts_on w.sights v.sights u.sights a.kept b.kept;
    }

pub looks_more : (u v w : View) → Looks u v → Looks v w → Looks u w
looks_more u v w a b = record { entries = b.entries ++ a.entries; each = each_append IsLook b.entries a.entries b.each a.each; adds = adds_more u v w a.entries b.entries a.adds b.adds }

-- what goes on from a later view goes on from an earlier one
pub goes_back : (buckets : ℕ) (v w : View) (h : History) (logs : ℕ → List LogEntry) → Looks v w → GoesOn buckets w h logs → GoesOn buckets v h logs
goes_back buckets v w h logs k g = earlier buckets v w k.entries h logs k.adds g

-- ---- the end

pub none_open : (at : ℕ) (v : View) (r : Rid) → IsReading at v → open_in r (session v).log ≡ None
none_open at v r k = sym (image_open r (session v).log k.plain) ∙ ap (image_in r) k.unwritten

module _ (v w : View) (only : HasOnlySession v) (e : Ends v w) where
  ended_parts : w.parts ≡ OfSession (number v) (logging Over Idle (session v)) ∷ []
  ended_parts = ap (λ (x : View). x.parts) e ∙ (λ i. OfSession (number v) (logging Over Idle (session v)) ∷ no_others v only i)

  ended_number : number w ≡ number v
  ended_number = first_number w (number v) (logging Over Idle (session v)) [] ended_parts

  ended_session : session w ≡ logging Over Idle (session v)
  ended_session = first_session w (number v) (logging Over Idle (session v)) [] ended_parts

  pub goes_before_end : (buckets : ℕ) (h : History) (logs : ℕ → List LogEntry) → GoesOn buckets w h logs → GoesOn buckets v h logs
  goes_before_end buckets h logs g = record {
    answers = g.answers;
    later = (
      g.later.0 ++ Over ∷ [],
      ap logs (sym ended_number) ∙ g.later.1 ∙ ap (λ (p : SessionPart). g.later.0 ++ p.log) ended_session ∙ sym (append_assoc g.later.0 (Over ∷ []) (session v).log),
    );
  }

-- a session that rested, began, looked and ended
pub has_read : (u v w x : View) (at : ℕ) → IsResting u → HasBegun u at All v → Looks v w → Ends w x → HasReadAt at u x
has_read u v w x at r b k e =
    let part = logging (Began at All) (Live at All) (session u) in
    let parts = b.parts ∙ (λ i. OfSession (number u) part ∷ no_others u r.only i) in
    let begun = first_session v (number u) part [] parts in
    let looked = added_session v w k.entries k.adds in
    let only = adds_only v w k.entries k.adds in
    let ended = ended_session w x only e in
    let kept : StartsWith x.sights w.sights = (_, ap (λ (y : View). y.sights) e) in record {
      rests = record {
        only = only_parts w x (logging Over Idle (session w)) (ended_parts w x only e);
        idle = ap (λ (p : SessionPart). p.phase) ended;
        unstamped = ap (λ (p : SessionPart). p.stamped) ended ∙ ap (λ (p : SessionPart). p.stamped) looked ∙ ap (λ (p : SessionPart). p.stamped) begun ∙ r.unstamped;
      };
      entries = k.entries;
      each = k.each;
      number_is = ended_number w x only e ∙ added_number v w k.entries k.adds ∙ first_number v (number u) part [] parts;
      log = ap (λ (p : SessionPart). p.log) ended ∙ ap (λ (p : SessionPart). Over ∷ p.log) looked ∙ ap (λ (p : SessionPart). Over ∷ (k.entries ++ p.log)) begun;
      kept = starts_on x.sights w.sights u.sights (starts_on w.sights v.sights u.sights b.kept k.adds.kept) kept;
      heard = subst (λ n. IsAmong (Heard n (session x).log) x.sights) (sym (ended_number w x only e))
          (subst (λ l. IsAmong (Heard (number w) l) x.sights) (sym (ap (λ (p : SessionPart). p.log) ended))
          (subst (IsAmong (Heard (number w) (Over ∷ (session w).log))) (sym (ap (λ (y : View). y.sights) e)) (among_later (Heard (number w) (Over ∷ (session w).log)) w.sights _ (inl refl))));
    }

-- what a call that went well has made
pub of_ok : {T E P : Type 0} (r : Result T E) → is_err r ≡ false → OnOk r P → P
of_ok (Ok v) e p = p
of_ok (Err x) e p = absurd (true≢false e)

-- what follows of that
pub on_ok : {T E P Q : Type 0} (r : Result T E) → (P → Q) → OnOk r P → OnOk r Q
on_ok (Ok t) f p = f p
on_ok (Err e) f p = tt
