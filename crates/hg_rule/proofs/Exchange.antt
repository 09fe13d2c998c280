-- A collector's exchange of a register is allowed: move_one.
use Rattle.std.proofs.Common.{◌≡◌, ◌≢◌, ℕ, Bool, true, false, eqb, [], ◌∷◌, get_or, set, Option, Some, None, refl, sym, ap, ◌∙◌, subst, eq-eqb, ne_eqb}
use Rattle.std.proofs.Common.{le_refl}
use mathlib.Core.Logic.{dite}
use mathlib.Core.Option.{none}
use native.Mathlib.Decide.{ℕ_discrete}
use prog.Atomic.{either}
use Rattle.atomic_table.specs.Table.{step, keeps, Allows}
use Rattle.hg_core.specs.declared.loaded.Loaded.{Loaded}
use Rattle.hg_core.specs.declared.register.Register.{Register}
use Rattle.hg_core.specs.declared.register.Register.TheVariants as registers
use Rattle.hg_core.specs.Words.{IsRegister, number_of, word_of, register_of}
use Rattle.hg_core.specs.Phases.{IsSession}
use Rattle.hg_core.specs.Passes.{PassRecord, found}
use Rattle.hg_core.specs.State.{CoreState}
use Rattle.hg_core.specs.declared.journal.PassEntry.TheVariants.{Tried}
use Rattle.hg_core.specs.Events.{moved, noting, moved_at, happens, Move, Miss}
use Rattle.hg_core.proofs.Indices.{put_here, put_else}
use Rattle.hg_rule.specs.declared.view.PassPart.{PassPart}
use Rattle.hg_rule.specs.declared.view.Part.TheVariants.{OfPass}
use Rattle.hg_rule.specs.declared.view.Event.TheVariants as events
use Rattle.hg_rule.specs.declared.view.View.{View}
use Rattle.hg_rule.specs.declared.view.Sizes.{Sizes}
use Rattle.hg_rule.specs.Words.{register_at}
use Rattle.hg_rule.specs.Rules.{HasRoom, Rule}
use Rattle.hg_rule.specs.Views.{number, pass, others, HasPass, then_has}
use Rattle.hg_rule.specs.Steps.{Seated, Moves, IsMovable, HasRegister, moving, missing}
use Rattle.hg_rule.specs.Steps.{after_try, tried}
use Rattle.hg_rule.proofs.Keeps.{keep}
use Rattle.hg_rule.proofs.Registers.{word_back, loaded_words, stored_words, register_small}
use Rattle.hg_rule.proofs.Evidence.{own_pass, one_register, log_stays}
use Rattle.hg_rule.proofs.Records.{pass_only}
use Rattle.hg_rule.proofs.Reached.{steady, acted}

pub tries : (z : Sizes) (slots id j old new n : ℕ) (mask : Option ℕ) (m : Seated) → HasRoom z → HasPass m.0 → IsSession z.sessions j
    → IsRegister (registers.Live n true false) → found j (pass m.0).loaded ≡ Some (record { register = registers.Live n true false; mask = mask })
    → old ≡ word_of (registers.Live n true false) → new ≡ word_of (registers.Live n true true)
    → Allows (Rule z) slots id m (register_at j) (λ n. either (eqb n old) new n) (tried (step slots (register_at j) old new none) m)
tries z slots id j old new n mask m room is inside few has_it was becomes t r deep at small = dite (ℕ_discrete x old)
    (λ (hit : x ≡ old).
    let from : Register = registers.Live n true false in
    let shown : c.register j ≡ from = sym (word_back (c.register j) (register_small z c j room r.sized (steady r))) ∙
    (ap register_of (sym (r.words.registers j inside) ∙ (hit ∙ was)) ∙ word_back from few) in
    let own = own_pass z t r id v at is in
    let part : PassPart = moving j k (pass v) in
    let number_is : number_of (c.register j) ≡ k = ap number_of shown ∙ same_number in
    let d : CoreState = happens c (Move p j) in
    let w = stored_words z c t.words j new (moved (c.register j)) inside (becomes ∙ ap (λ y. word_of (moved y)) (sym shown)) r.words in
    let grows = log_stays c in
    let after : View = then_has v (OfPass p part ∷ others v) [] (events.Move p j k true) in (
      after,
      keeps,
      tt,
      subst (λ (b : Bool). Rule z record { words = set t.words (register_at j) (either b new x); homes = t.homes; views = set t.views id after }) (sym (eq-eqb x old hit))
          (keep z t r id v (OfPass p (pass v) ∷ []) (OfPass p part ∷ []) (others v) [] (events.Move p j k true) (register_at j) new d at is record {
            reached = acted z c (Move p j) r.reached (n, mask, record { shown = shown; loaded = ap (λ (y : PassRecord). found j y.loaded) own.0 ∙ has_it });
            sized = record { sessions = r.sized.sessions; tables = r.sized.tables; buckets = r.sized.buckets; quota = r.sized.quota };
            passes = refl;
            shows = record { count = w.count; mark = w.mark; registers = w.registers; masks = w.masks };
            grows = record { history = grows.history; logs = grows.logs; taken = grows.taken };
            only = pass_only c d p (pass v) record {
              pass = λ q other. put_else c.pass p q _ other;
              phase = refl;
              log = refl;
              bucket = refl;
              counters = refl;
              history = refl;
              stamped = refl;
              taken = refl;
              visits = refl;
              mark = le_refl _;
            };
            counts = λ k. refl;
            shared = refl;
            shown = ((put_here c.pass p _ ∙ (λ i. moved_at (own.0 i) j (number_is i)), own.1), tt);
            known = tt;
            stands = tt;
          }),
      (
        (λ q same. subst (λ q. Moves v q k (eqb x old) after) (one_register j q same)
            (λ i. then_has v (after_try (sym (eq-eqb x old hit) i) j k v) [] (events.Move p j k (sym (eq-eqb x old hit) i)))),
        refl,
      ),
    ))
    (λ (miss : x ≢ old).
    let own = own_pass z t r id v at is in
    let part : PassPart = missing j k (pass v) in
    let d : CoreState = happens c (Miss p j k) in
    let after : View = then_has v (OfPass p part ∷ others v) [] (events.Move p j k false) in
    let w = loaded_words z c t.words (register_at j) r.words in
    let grows = log_stays c in (
      after,
      keeps,
      tt,
      subst (λ (b : Bool). Rule z record { words = set t.words (register_at j) (either b new x); homes = t.homes; views = set t.views id after }) (sym (ne_eqb x old miss))
          (keep z t r id v (OfPass p (pass v) ∷ []) (OfPass p part ∷ []) (others v) [] (events.Move p j k false) (register_at j) x d at is record {
            reached = acted z c (Miss p j k) r.reached (
              mask,
              record {
                gone = λ e. miss (r.words.registers j inside ∙ (ap word_of (e ∙ (λ i. registers.Live (sym same_number i) true false)) ∙ sym was));
                loaded = ap (λ (y : PassRecord). found j y.loaded) own.0 ∙ (has_it ∙ (λ i. Some (record { register = registers.Live (same_number i) true false; mask = mask })));
              },
            );
            sized = record { sessions = r.sized.sessions; tables = r.sized.tables; buckets = r.sized.buckets; quota = r.sized.quota };
            passes = refl;
            shows = record { count = w.count; mark = w.mark; registers = w.registers; masks = w.masks };
            grows = record { history = grows.history; logs = grows.logs; taken = grows.taken };
            only = pass_only c d p (pass v) record {
              pass = λ q other. put_else c.pass p q _ other;
              phase = refl;
              log = refl;
              bucket = refl;
              counters = refl;
              history = refl;
              stamped = refl;
              taken = refl;
              visits = refl;
              mark = le_refl _;
            };
            counts = λ k. refl;
            shared = refl;
            shown = ((put_here c.pass p _ ∙ (λ i. noting (Tried j k false) (own.0 i)), own.1), tt);
            known = tt;
            stands = tt;
          }),
      (
        (λ q same. subst (λ q. Moves v q k (eqb x old) after) (one_register j q same)
            (λ i. then_has v (after_try (sym (ne_eqb x old miss) i) j k v) [] (events.Move p j k (sym (ne_eqb x old miss) i)))),
        refl,
      ),
    ))
  where
    v : View
    v = m.0

    c : CoreState
    c = r.state

    p : ℕ
    p = number v

    x : ℕ
    x = get_or t.words (register_at j) 0

    k : ℕ
    k = number_of (register_of old)

    same_number : n ≡ k
    same_number = sym (ap number_of (ap register_of was ∙ word_back (registers.Live n true false) few))

-- a movable register, as its number
pub movable : (r : Register) → IsMovable r → (n : ℕ) × (r ≡ registers.Live n true false)
movable registers.Idle h = absurd h
movable (registers.Entering f) h = absurd h
movable (registers.Live n false moved) h = absurd h
movable (registers.Live n true true) h = absurd h
movable (registers.Live n true false) h = (n, refl)

has_register : (r : Register) (one : Option Loaded) → HasRegister r one → (mask : Option ℕ) × (one ≡ Some (record { register = r; mask = mask }))
has_register r None h = absurd h
has_register r (Some loaded) h = (loaded.mask, λ i. Some (record { register = h i; mask = loaded.mask }))

-- the same of a movable register, at the word that the call tries
pub tries_register : (z : Sizes) (slots id j i old new : ℕ) (from : Register) (m : Seated) → HasRoom z → HasPass m.0 → IsSession z.sessions j → IsMovable from → IsRegister from →
    HasRegister from (found j (pass m.0).loaded) → i ≡ register_at j → old ≡ word_of from → new ≡ word_of (moved from)
    → Allows (Rule z) slots id m i (λ n. either (eqb n old) new n) (tried (step slots i old new none) m)
tries_register z slots id j i old new from m room is inside may has_word has_it there was becomes =
    let f = movable from may in
    let e = f.1 in
    let one = has_register from (found j (pass m.0).loaded) has_it in
    subst (λ i. Allows (Rule z) slots id m i (λ n. either (eqb n old) new n) (tried (step slots i old new none) m)) (sym there)
    (tries z slots id j old new f.0 one.0 m room is inside (subst IsRegister e has_word) (one.1 ∙ ap (λ (r : Register). Some (record { register = r; mask = one.0 })) e) (was ∙
    ap word_of e) (becomes ∙ ap (λ (r : Register). word_of (moved r)) e))

-- the pass's own part stays first
pub own_tried : (moved : Bool) (v w : View) (j n : ℕ) → HasPass v → Moves v j n moved w → HasPass w
own_tried true v w j n is e = subst HasPass (sym e) refl
own_tried false v w j n is e = subst HasPass (sym e) refl
