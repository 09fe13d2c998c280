-- A try of one entry, and one try after the others.
use Rattle.std.proofs.Common.{◌≡◌, ℕ, zero, suc, ◌+◌, ◌<◌, List, [], ◌∷◌, ◌++◌, length, map, filter, take, drop, get_or, set, Option, Some, Bool, true, false}
use Rattle.std.proofs.Common.{if◌then◌else◌, refl, sym, ap, ◌∙◌, subst, arith, append_assoc, append-nil, length-append}
use Rattle.std.proofs.lemmas.List.{take_more}
use Rattle.std.proofs.lemmas.List.Elements.{filter-append}
use Rattle.hg_base.specs.declared.report.Entry.{Entry}
use Rattle.hg_core.specs.declared.loaded.Loaded.{Loaded}
use Rattle.hg_core.specs.declared.journal.PassEntry.TheVariants.{Tried}
use Rattle.hg_core.specs.declared.register.Register.TheVariants.{Live}
use Rattle.hg_core.specs.Passes.{found, least_entering}
use Rattle.hg_core.specs.Events.{moved_in}
use Rattle.hg_rule.specs.declared.view.PassPart.{PassPart}
use Rattle.hg_rule.specs.declared.view.Part.{Part}
use Rattle.hg_rule.specs.declared.view.Part.TheVariants.{OfPass}
use Rattle.hg_rule.specs.declared.view.Event.TheVariants.{Move}
use Rattle.hg_rule.specs.declared.view.View.{View}
use Rattle.hg_rule.specs.Views.{number, pass, others, seeing}
use Rattle.hg_rule.specs.Steps.{after_try, Moves}
use Rattle.hg_tracker.specs.declared.gathered.Gathered.{Gathered}
use Rattle.hg_tracker.specs.Tries.{is_long, tries_of, try_notes, moved_by, successes, HasTried}
use Rattle.hg_rule.specs.Rounds.{entries_of}
use Rattle.hg_tracker.specs.Entries.{down_from}
use Rattle.hg_tracker.specs.Gathers.{IsNotedOf, IsLoaded, StandsAt}
use Rattle.hg_tracker.proofs.Entries.{horizon_moved, keys_moved, IsLiveDeclared, registers_moved, entries_moved}

pub moved_pass : (v w : View) (j n : ℕ) → Moves v j n true w → ((pass w).loaded ≡ moved_in j (pass v).loaded) × ((pass w).mark ≡ (pass v).mark)
moved_pass v w j n is = (ap (λ (u : View). (pass u).loaded) is, ap (λ (u : View). (pass u).mark) is)

pub noted_moved : (n : ℕ) (v w : View) (g : Gathered) (position : ℕ) (e x : Entry) → x ≡ e → IsNotedOf (pass v).mark (pass v).loaded g →
    map (λ e. e.0) (pass v).loaded ≡ down_from n → StandsAt position e g.entries.items → Moves v e.session e.number true w
    → (g.mark ≡ (pass w).mark) × (g.horizon ≡ least_entering (pass w).mark (pass w).loaded) × (set g.entries.items position (record x { moved = true }) ≡ entries_of (pass w).loaded)
noted_moved n v w g position e x same noted keys at is =
    let after = moved_pass v w e.session e.number is in
    let at' : StandsAt position e (entries_of (pass v).loaded) = subst (StandsAt position e) noted.2 at in (
      noted.0 ∙ sym after.1,
      noted.1 ∙ (sym (horizon_moved (pass v).mark e.session (pass v).loaded) ∙ (λ i. least_entering (sym after.1 i) (sym after.0 i))),
      (λ i. set (noted.2 i) position (record (same i) { moved = true })) ∙ (sym (entries_moved n (pass v).loaded position e keys at') ∙ ap entries_of (sym after.0)),
    )

pub loaded_moved : (n : ℕ) (v w : View) (j k : ℕ) (mask : Option ℕ) → found j (pass v).loaded ≡ Some (record { register = Live k true false; mask = mask }) →
    IsLoaded n (pass v).loaded → Moves v j k true w → IsLoaded n (pass w).loaded
loaded_moved n v w j k mask there h is =
    let after = moved_pass v w j k is in
    subst (IsLoaded n) (sym after.0) (keys_moved j (pass v).loaded ∙ h.0, registers_moved j (pass v).loaded (subst IsLiveDeclared (sym there) refl) h.1)

-- ---- one try after the others

tries_snoc : (p : ℕ) (es : List Entry) (bs : List Bool) (e : Entry) (b : Bool) → length bs ≡ length es → tries_of p (es ++ e ∷ []) (bs ++ b ∷ []) ≡ tries_of p es bs ++ Move p e.session e.number b ∷ []
tries_snoc p [] [] e b l = refl
tries_snoc p [] (c ∷ bs) e b l = absurd (omega arith)
tries_snoc p (x ∷ es) [] e b l = absurd (omega arith)
tries_snoc p (x ∷ es) (c ∷ bs) e b l = ap (λ ts. Move p x.session x.number c ∷ ts) (tries_snoc p es bs e b (omega arith))

moved_snoc : (es : List Entry) (bs : List Bool) (e : Entry) (b : Bool) (loaded : List (ℕ × Loaded)) → length bs ≡ length es →
    moved_by (es ++ e ∷ []) (bs ++ b ∷ []) loaded ≡ (if b then moved_in e.session (moved_by es bs loaded) else moved_by es bs loaded)
moved_snoc [] [] e b loaded l = refl
moved_snoc [] (c ∷ bs) e b loaded l = absurd (omega arith)
moved_snoc (x ∷ es) [] e b loaded l = absurd (omega arith)
moved_snoc (x ∷ es) (c ∷ bs) e b loaded l = moved_snoc es bs e b (if c then moved_in x.session loaded else loaded) (omega arith)

successes_snoc : (bs : List Bool) (b : Bool) → successes (bs ++ b ∷ []) ≡ (if b then suc (successes bs) else successes bs)
successes_snoc [] b = refl
successes_snoc (true ∷ bs) true = ap suc (successes_snoc bs true)
successes_snoc (true ∷ bs) false = ap suc (successes_snoc bs false)
successes_snoc (false ∷ bs) b = successes_snoc bs b

notes_snoc : (es : List Entry) (bs : List Bool) (e : Entry) (b : Bool) → length bs ≡ length es → try_notes (es ++ e ∷ []) (bs ++ b ∷ []) ≡ try_notes es bs ++ Tried e.session e.number b ∷ []
notes_snoc [] [] e b l = refl
notes_snoc [] (c ∷ bs) e b l = absurd (omega arith)
notes_snoc (x ∷ es) [] e b l = absurd (omega arith)
notes_snoc (x ∷ es) (c ∷ bs) e b l = ap (λ ts. Tried x.session x.number c ∷ ts) (notes_snoc es bs e b (omega arith))

parts_tried : (b : Bool) (j k : ℕ) (w : View) (n : ℕ) (r : PassPart) (ps : List Part) → w.parts ≡ OfPass n r ∷ ps →
    after_try b j k w ≡ OfPass n (record r { loaded = if b then moved_in j r.loaded else r.loaded; journal = r.journal ++ Tried j k b ∷ [] }) ∷ ps
parts_tried true j k w n r ps e = ap (λ (qs : List Part). after_try true j k (seeing qs [] [])) e
parts_tried false j k w n r ps e = ap (λ (qs : List Part). after_try false j k (seeing qs [] [])) e

pub tried_one : (v w w' : View) (es : List Entry) (c : ℕ) (e : Entry) (b : Bool) → HasTried v es c w → Moves w e.session e.number b w' → HasTried v (es ++ e ∷ []) (if b then suc c else c) w'
tried_one v w w' es c e b h is = subst (HasTried v (es ++ e ∷ []) (if b then suc c else c)) (sym is) record {
  outcomes = h.outcomes ++ b ∷ [];
  each = let a = length-append h.outcomes (b ∷ []) in let d = length-append es (e ∷ []) in omega (arith, h.each, a, d);
  count_is = ap (λ n. if b then suc n else n) h.count_is ∙ sym (successes_snoc h.outcomes b);
  parts = parts_tried b e.session e.number w (number v) (record (pass v) { loaded = moved_by es h.outcomes (pass v).loaded; journal = (pass v).journal ++ try_notes es h.outcomes }) (others v) h.parts ∙
      (λ i. OfPass (number v) (record (pass v) { loaded = sym (moved_snoc es h.outcomes e b (pass v).loaded h.each) i; journal = notes i }) ∷ others v);
  sights = append-nil w.sights ∙ h.sights;
  events = (λ i. h.events i ++ Move (same i) e.session e.number b ∷ []) ∙ (append_assoc v.events (tries_of (number v) es h.outcomes) (Move (number v) e.session e.number b ∷ []) ∙
      ap (λ ts. v.events ++ ts) (sym (tries_snoc (number v) es h.outcomes e b h.each)));
}
  where
    same : number w ≡ number v
    same = ap (λ (ps : List Part). number (seeing ps [] [])) h.parts

    notes : ((pass v).journal ++ try_notes es h.outcomes) ++ Tried e.session e.number b ∷ [] ≡ (pass v).journal ++ try_notes (es ++ e ∷ []) (h.outcomes ++ b ∷ [])
    notes = append_assoc (pass v).journal (try_notes es h.outcomes) (Tried e.session e.number b ∷ []) ∙ ap (λ ts. (pass v).journal ++ ts) (sym (notes_snoc es h.outcomes e b h.each))

pub mark_tried : (v w : View) (es : List Entry) (c : ℕ) → HasTried v es c w → (pass w).mark ≡ (pass v).mark
mark_tried v w es c h = ap (λ (ps : List Part). (pass (seeing ps [] [])).mark) h.parts

-- the next entry comes in where it is long
long_snoc : (p : Entry → Bool) (es : List Entry) (e : Entry) (b : Bool) → p e ≡ b → filter p (es ++ e ∷ []) ≡ (if b then filter p es ++ e ∷ [] else filter p es)
long_snoc p es e true q = filter-append p es (e ∷ []) ∙ ap (λ (c : Bool). filter p es ++ (if c then e ∷ [] else [])) q
long_snoc p es e false q = filter-append p es (e ∷ []) ∙ (ap (λ (c : Bool). filter p es ++ (if c then e ∷ [] else [])) q ∙ append-nil (filter p es))

pub long_more : (p : Entry → Bool) (es : List Entry) (k : ℕ) (e : Entry) (b : Bool) → k < length es → get_or es k e ≡ e → p e ≡ b →
    filter p (take (k + 1) es) ≡ (if b then filter p (take k es) ++ e ∷ [] else filter p (take k es))
long_more p es k e b l at q = ap (filter p) (take_more es k e l ∙ ap (λ x. take k es ++ x ∷ []) at) ∙ long_snoc p (take k es) e b q

-- two lists with the same end have the same element there
pub drop_at : (k : ℕ) (xs ys : List Entry) (d : Entry) → drop k xs ≡ drop k ys → get_or xs k d ≡ get_or ys k d
drop_at k xs ys d e = head k xs ∙ (ap (λ zs. get_or zs 0 d) e ∙ sym (head k ys))
  where
    head : (k : ℕ) (zs : List Entry) → get_or zs k d ≡ get_or (drop k zs) 0 d
    head zero zs = refl
    head (suc k) [] = refl
    head (suc k) (z ∷ zs) = head k zs

pub drop_more : (k : ℕ) (xs ys : List Entry) → drop k xs ≡ drop k ys → drop (k + 1) xs ≡ drop (k + 1) ys
drop_more k xs ys e = one k xs ∙ (ap (drop 1) e ∙ sym (one k ys))
  where
    up : (k : ℕ) → k + 1 ≡ suc k
    up k = omega arith

    next : (k : ℕ) (zs : List Entry) → drop (suc k) zs ≡ drop 1 (drop k zs)
    next zero zs = refl
    next (suc k) [] = refl
    next (suc k) (z ∷ zs) = next k zs

    one : (k : ℕ) (zs : List Entry) → drop (k + 1) zs ≡ drop 1 (drop k zs)
    one k zs = ap (λ n. drop n zs) (up k) ∙ next k zs

pub next_tried : (v w w' : View) (mark long k count count' : ℕ) (es : List Entry) (e : Entry) (b : Bool) → mark ≡ (pass w).mark → k < length es → get_or es k e ≡ e →
    HasTried v (filter (is_long (pass v).mark long) (take k es)) count w
    → is_long mark long e ≡ true → Moves w e.session e.number b w' → count' ≡ (if b then suc count else count) → HasTried v (filter (is_long (pass v).mark long) (take (k + 1) es)) count' w'
next_tried v w w' mark long k count count' es e b same l at h long_is is counted =
    let test : is_long (pass v).mark long e ≡ true = ap (λ m. is_long m long e) (sym (same ∙ mark_tried v w _ count h)) ∙ long_is in
    let done : HasTried v (filter (is_long (pass v).mark long) (take k es) ++ e ∷ []) (if b then suc count else count) w' = tried_one v w w' _ count e b h is in
    subst (λ n. HasTried v (filter (is_long (pass v).mark long) (take (k + 1) es)) n w') (sym counted)
    (subst (λ l. HasTried v l (if b then suc count else count) w') (sym (long_more (is_long (pass v).mark long) es k e true l at test)) done)

pub skip_tried : (v w : View) (mark long k count : ℕ) (es : List Entry) (e : Entry) → mark ≡ (pass w).mark → k < length es → get_or es k e ≡ e →
    HasTried v (filter (is_long (pass v).mark long) (take k es)) count w
    → is_long mark long e ≡ false → HasTried v (filter (is_long (pass v).mark long) (take (k + 1) es)) count w
skip_tried v w mark long k count es e same l at h long_is =
    let test : is_long (pass v).mark long e ≡ false = ap (λ m. is_long m long e) (sym (same ∙ mark_tried v w _ count h)) ∙ long_is in
    subst (λ l. HasTried v l count w) (sym (long_more (is_long (pass v).mark long) es k e false l at test)) h
