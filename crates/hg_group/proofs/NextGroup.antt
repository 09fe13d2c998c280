-- The oldest groups are taken, or none is.
use Rattle.std.proofs.Common.{◌≡◌, ℕ, zero, suc, ◌+◌, ◌<◌, ◌≤◌, List, [], ◌∷◌, ◌++◌, length, drop, Option, Some, None, refl, sym, ap, ◌∙◌, subst, arith, append_assoc, append-nil, length-append, inl}
use Rattle.std.proofs.lemmas.List.{map-append}
use Rattle.std.specs.Prelude.{option_to_list}
use Rattle.hg_base.specs.declared.rid.Rid.{Rid}
use Rattle.hg_base.specs.Lists.{Each}
use Rattle.hg_base.specs.History.{Group, History}
use Rattle.hg_core.specs.declared.journal.PassEntry.{PassEntry}
use Rattle.hg_core.specs.declared.journal.PassEntry.TheVariants as entries
use Rattle.hg_core.specs.State.{CoreState}
use Rattle.hg_rule.specs.declared.view.CommitPart.{CommitPart}
use Rattle.hg_rule.specs.declared.view.Part.{Part}
use Rattle.hg_rule.specs.declared.view.Part.TheVariants.{OfPass, OfCommit}
use Rattle.hg_rule.specs.declared.view.Sight.{Sight}
use Rattle.hg_rule.specs.declared.view.Event.{Event}
use Rattle.hg_rule.specs.declared.view.Event.TheVariants.{Take}
use Rattle.hg_rule.specs.declared.view.Sight.TheVariants.{Saw, Heard, Took, Did}
use Rattle.hg_rule.specs.declared.view.View.{View}
use Rattle.hg_rule.specs.declared.view.Sizes.{Sizes}
use Rattle.hg_rule.specs.Facts.{Known}
use Rattle.hg_rule.specs.Rules.{IsBacked}
use Rattle.hg_rule.specs.Views.{number, pass, others, seeing, first_in, HasPass}
use Rattle.hg_rule.specs.Moves.{joined, put_in}
use Rattle.hg_rule.specs.Holding.{commit, beyond, HasCommit}
use Rattle.hg_rule.specs.Places.{without_commit, HasFirst}
use Rattle.hg_rule.specs.Removes.{Takes, taking}
use Rattle.hg_rule.specs.Rounds.{seen_taken}
use Rattle.hg_rule.proofs.Growing.{among_later}
use Rattle.hg_rule.proofs.Rounds.{taken_append}
use Rattle.hg_queue.specs.Rids.{Rids}
use Rattle.hg_group.specs.declared.contexts.GroupContext.{GroupContext}
use Rattle.hg_group.specs.Contexts.{IsContextOf, context_of, EachContextOf, AreContexts}
use Rattle.hg_group.specs.Oldest.{IsNext, AreNext, records_of, takes_by, took_next, TakesNext, TakesOldest, TakesSome, PopsBelow, PopsNext, PopsSome}
use Rattle.hg_group.proofs.ContextFacts.{drop_length}

-- ---- contexts

as_many : (n : ℕ) (gs : List Group) (cs : List Rids) → EachContextOf n gs cs → length cs ≡ length gs
as_many n [] [] h = refl
as_many n [] (c ∷ cs) h = absurd h
as_many n (g ∷ gs) [] h = absurd h
as_many n (g ∷ gs) (c ∷ cs) h = ap suc (as_many (suc n) gs cs h.1)

pub contexts_left : (h : History) (taken : ℕ) (cs : List Rids) → taken ≤ length h → AreContexts h taken cs → taken + length cs ≡ length h
contexts_left h taken cs le are = omega (arith, drop_length taken h le, as_many (suc taken) (drop taken h) cs are)

drop_next : (k : ℕ) (h later : History) (g : Group) → drop k h ≡ g ∷ later → drop (suc k) h ≡ later
drop_next zero [] later g e = ap (drop 1) e
drop_next zero (f ∷ h) later g e = ap (drop 1) e
drop_next (suc k) [] later g e = ap (drop 1) e
drop_next (suc k) (f ∷ h) later g e = drop_next k h later g e

first_context : (n : ℕ) (gs : List Group) (c : Rids) (cs : List Rids) → EachContextOf n gs (c ∷ cs) → (g : Group) ×
    ((later : List Group) × ((gs ≡ g ∷ later) × (IsContextOf n g (context_of n c) × EachContextOf (suc n) later cs)))
first_context n [] c cs h = absurd h
first_context n (g ∷ gs) c cs h = (g, (gs, (refl, (h.0, h.1))))

pub pops : (v w : View) (bound mark : ℕ) (cs rest : List Rids) (c : Rids) → cs ≡ c ∷ rest → (commit v).taken < bound → AreContexts (commit v).history.list (commit v).taken cs → Takes v mark w
    → PopsBelow v bound (Some (context_of (suc (commit v).taken) c)) w × AreContexts (commit w).history.list (commit w).taken rest
pops v w bound mark cs rest c items below are takes =
    let h = (commit v).history.list in
    let n = (commit v).taken in
    let f = first_context (suc n) (drop n h) c rest (subst (AreContexts h n) items are) in
    let is : commit w ≡ taking (commit v) = ap commit takes.1 in (
      (below, ((f.0, ((f.1.0, f.1.1.0), f.1.1.1.0)), (mark, takes))),
      subst (λ (p : CommitPart). AreContexts p.history.list p.taken rest) (sym is) (subst (λ gs. EachContextOf (suc (suc n)) gs rest) (sym (drop_next n h f.1.0 f.0 f.1.1.0)) f.1.1.1.1),
    )

-- ---- one after the other

next_more : (n : ℕ) (h : History) (cs : List GroupContext) (c : GroupContext) → AreNext n h cs → IsNext (n + length cs) h c → AreNext n h (cs ++ c ∷ [])
next_more n h [] c are next = let e : n + 0 ≡ n = omega arith in (subst (λ m. IsNext m h c) e next, tt)
next_more n h (d ∷ cs) c are next = let e : n + suc (length cs) ≡ suc n + length cs = omega arith in (are.0, next_more (suc n) h cs c are.1 (subst (λ m. IsNext m h c) e next))

-- a group more is noted last
took_more : (n : ℕ) (cs : List GroupContext) (c : GroupContext) → took_next n cs ++ entries.Took (suc (n + length cs)) ∷ [] ≡ took_next n (cs ++ c ∷ [])
took_more n [] c = let e : n + 0 ≡ n = omega arith in ap (λ m. entries.Took (suc m) ∷ []) e
took_more n (d ∷ cs) c = let e : n + suc (length cs) ≡ suc n + length cs = omega arith in
    ap (λ (l : List PassEntry). entries.Took (suc n) ∷ l) (ap (λ m. took_next (suc n) cs ++ entries.Took (suc m) ∷ []) e ∙ took_more (suc n) cs c)

-- the view once so many were taken, when it has noted, seen and done this besides
abbrev after : View → ℕ → List PassEntry → List Sight → List Event → View
after v n notes sights events = seeing (OfPass (number v) (record (pass v) { journal = (pass v).journal ++ notes }) ∷ OfCommit (record (commit v) { taken = n }) ∷ beyond v) (v.sights ++ sights) (v.events ++ events)

pub pops_none : (v : View) (bound : ℕ) → HasPass v → HasCommit v → PopsNext v bound [] v
pops_none v bound own held = record {
  sights = [];
  marks = [];
  count = refl;
  is = let e : (commit v).taken ≡ (commit v).taken + 0 = omega arith in
      λ i. seeing ((own ∙ ap (λ l. OfPass (number v) (pass v) ∷ l) held ∙ (λ j. OfPass (number v) (record (pass v) { journal = sym (append-nil (pass v).journal) j }) ∷ OfCommit (record (commit v) { taken = e j }) ∷ beyond v)) i)
      (sym (append-nil v.sights) i) (sym (append-nil v.events) i);
  most = omega arith;
  below = omega arith;
  next = tt;
}

pub pops_more : (v u w : View) (bound : ℕ) (cs : List GroupContext) (c : GroupContext) → PopsNext v bound cs u → PopsBelow u bound (Some c) w → PopsNext v bound (cs ++ c ∷ []) w
pops_more v u w bound cs c p t =
    let n = (commit v).taken + length cs in
    let notes = took_next (commit v).taken cs in
    let x = after v n notes p.sights (takes_by (number v) p.marks) in
    let s : PopsBelow x bound (Some c) w = subst (λ y. PopsBelow y bound (Some c) w) p.is t in
    let seen = Saw (commit v).history ∷ Took (suc n) ∷ [] in
    let long : length (cs ++ c ∷ []) ≡ length cs + 1 = length-append cs (c ∷ []) in
    let many : length (p.marks ++ s.1.1.0 ∷ []) ≡ length p.marks + 1 = length-append p.marks (s.1.1.0 ∷ []) in
    let now : suc n ≡ (commit v).taken + length (cs ++ c ∷ []) = omega (arith, long) in
    let noted : ((pass v).journal ++ notes) ++ entries.Took (suc n) ∷ [] ≡ (pass v).journal ++ took_next (commit v).taken (cs ++ c ∷ []) =
    append_assoc (pass v).journal notes (entries.Took (suc n) ∷ []) ∙ ap (λ (l : List PassEntry). (pass v).journal ++ l) (took_more (commit v).taken cs c) in
    record {
      sights = p.sights ++ seen;
      marks = p.marks ++ s.1.1.0 ∷ [];
      count = omega (arith, long, many, p.count);
      is = s.1.1.1.1 ∙ (λ i. seeing (OfPass (number v) (record (pass v) { journal = noted i }) ∷ OfCommit (record (commit v) { taken = now i }) ∷ beyond v) (append_assoc v.sights p.sights seen i)
          ((append_assoc v.events (takes_by (number v) p.marks) (takes_by (number v) (s.1.1.0 ∷ [])) ∙
          ap (λ l. v.events ++ l) (sym (map-append (λ mark. Take (number v) mark) p.marks (s.1.1.0 ∷ [])))) i));
      most = omega (arith, taken_append p.sights seen, p.most, long);
      below = let less : n < bound = s.0 in omega (arith, less, long);
      next = next_more (commit v).taken (commit v).history.list cs c p.next s.1.0;
    }

-- what a further turn asks
pub record Still (v w : View) : Type 0 where
  pub held : HasCommit w
  pub history : (commit w).history ≡ (commit v).history
  pub own : HasPass w

pub still : (v w : View) (bound : ℕ) (cs : List GroupContext) → PopsNext v bound cs w → Still v w
still v w bound cs p = subst (Still v) (sym p.is) record { held = refl; history = refl; own = refl }

pub taken_still : (v w : View) (bound mark : ℕ) (cs : List GroupContext) → PopsNext v bound cs w → (commit v).taken ≤ mark → bound ≤ mark → (commit w).taken ≤ mark
taken_still v w bound mark cs p low most = let e : (commit w).taken ≡ (commit v).taken + length cs = ap (λ y. (commit y).taken) p.is in omega (arith, e, p.below, low, most)

-- the records of a context more
pub records_more : (cs : List GroupContext) (c : GroupContext) → records_of (cs ++ c ∷ []) ≡ records_of cs ++ c.records.list
records_more [] c = append-nil c.records.list
records_more (d ∷ cs) c = ap (λ l. d.records.list ++ l) (records_more cs c) ∙ sym (append_assoc d.records.list (records_of cs) c.records.list)

-- ---- what was seen

known_taken : (s : CoreState) (sights : List Sight) → Each (Known s) sights → seen_taken sights ≤ s.taken
known_taken s [] h = omega arith
known_taken s (x ∷ sights) h = go x h.0 (known_taken s sights h.1)
  where
    go : (x : Sight) → Known s x → seen_taken sights ≤ s.taken → seen_taken (x ∷ sights) ≤ s.taken
    go (Saw g) k ih = ih
    go (Heard j log) k ih = ih
    go (Took n) k ih = omega (arith, k, ih)
    go (Did e) k ih = ih

pub pass_first : (v : View) → HasPass v → HasFirst v
pass_first v own = own ∙ ap (λ (ps : List Part). first_in ps ∷ others v) (sym own)

module _ (z : Sizes) (mark : ℕ) (v seat : View) (part : CommitPart) where
  -- the committer's part is with the pass
  abbrev hand : View
  hand = seeing (OfPass (number v) (pass v) ∷ OfCommit part ∷ others v) (v.sights ++ seat.sights) v.events

  pub in_hand : (u : View) → HasPass v → seat.parts ≡ OfCommit part ∷ [] → u ≡ joined v seat → u ≡ hand
  in_hand u own only is = is ∙ (λ i. seeing (put_in (own i) (only i)) (v.sights ++ seat.sights) v.events)

  module _ (backed : IsBacked z mark hand) (own : HasPass v) where
    most : seen_taken (v.sights ++ seat.sights) ≤ part.taken
    most = let known = known_taken backed.state (v.sights ++ seat.sights) backed.true_of.sights in let same = backed.true_of.parts.1.0.1.1 in omega (arith, known, same)

    seen_before : seen_taken v.sights ≤ part.taken
    seen_before = omega (arith, most, taken_append v.sights seat.sights)

    pub next_taken : (bound : ℕ) (cs : List GroupContext) (u w : View) → PopsNext hand bound cs u → w ≡ without_commit u → TakesNext v bound cs w
    next_taken bound cs u w p is =
        let last = Saw part.history ∷ Took (part.taken + length cs) ∷ [] in
        subst (TakesNext v bound cs) (sym (is ∙ ap without_commit p.is)) record {
          before = part.taken;
          seen = seen_before;
          below = p.below;
          taken = omega (arith, most, p.most, taken_append (v.sights ++ seat.sights) p.sights, taken_append ((v.sights ++ seat.sights) ++ p.sights) last);
          history = part.history.list;
          saw = among_later (Saw part.history) ((v.sights ++ seat.sights) ++ p.sights) last (inl refl);
          next = p.next;
          marks = p.marks;
          count = p.count;
          parts = refl;
          kept = (seat.sights ++ (p.sights ++ last), append_assoc (v.sights ++ seat.sights) p.sights last ∙ append_assoc v.sights seat.sights (p.sights ++ last));
          events = refl;
        }

    -- so many were taken, and that is seen
    pub then_enough : (bound : ℕ) (u w : View) → bound ≤ (commit u).taken → w ≡ without_commit u → bound ≤ seen_taken w.sights
    then_enough bound u w le is =
        let last = Saw (commit u).history ∷ Took (commit u).taken ∷ [] in
        let e : seen_taken w.sights ≡ seen_taken (u.sights ++ last) = ap (λ (y : View). seen_taken y.sights) is in
        omega (arith, e, taken_append u.sights last, le)

    pub oldest : (bound : ℕ) (o : Option GroupContext) (u w : View) → PopsBelow hand bound o u → w ≡ without_commit u → TakesOldest v bound o w
    oldest bound None u w h is = record {
      takes = next_taken bound [] u w (subst (PopsNext hand bound []) (sym h.1) (pops_none hand bound refl refl)) is;
      enough = λ e. then_enough bound u w (subst (λ (y : View). bound ≤ (commit y).taken) (sym h.1) h.0) is;
    }
    oldest bound (Some c) u w h is = record { takes = next_taken bound (c ∷ []) u w (pops_more hand hand u bound [] c (pops_none hand bound refl refl) h) is; enough = λ e. absurd cc }

    pub some_taken : (bound : ℕ) (old new : List Rid) (o : Option GroupContext) (u w : View) → PopsSome hand bound old o new u → w ≡ without_commit u → TakesSome v bound old o new w
    some_taken bound old new o u w p is = record {
      contexts = p.contexts;
      listed = p.listed;
      takes = next_taken bound (p.contexts ++ option_to_list o) u w p.pops is;
      enough = λ e. then_enough bound u w (p.enough e) is;
    }
