-- What a gather, the tries and the takes note.
use Rattle.std.proofs.Common.{◌≡◌, ℕ, Bool, true, false, List, [], ◌∷◌, ◌++◌, Option, Some, None, refl, ap, ◌∙◌}
use Rattle.hg_base.specs.declared.report.Entry.{Entry}
use Rattle.hg_base.specs.Lists.{Each}
use Rattle.hg_core.specs.declared.journal.PassEntry.{PassEntry}
use Rattle.hg_core.specs.declared.journal.PassEntry.TheVariants.{Marked, Sampled, Masked, Tried, Took}
use Rattle.hg_core.specs.declared.loaded.Loaded.{Loaded}
use Rattle.hg_core.specs.declared.register.Register.{Register}
use Rattle.hg_core.specs.Events.{masked_in, moved_in}
use Rattle.hg_headline.specs.OneRun.{loaded_in}
use Rattle.hg_rule.proofs.Lists.{each_append}
use Rattle.hg_tracker.specs.Begun.{mask_note, note_of, notes_of}
use Rattle.hg_tracker.specs.Tries.{try_notes, moved_by}
use Rattle.hg_tracker.proofs.Rounds.{mask_joins}
use Rattle.hg_collectors.specs.Noted.{IsInside}
use Rattle.hg_collectors.specs.Taking.{took}

pub loaded_more : (loaded : List (ℕ × Loaded)) (xs ys : List PassEntry) → loaded_in loaded (xs ++ ys) ≡ loaded_in (loaded_in loaded xs) ys
loaded_more loaded [] ys = refl
loaded_more loaded (Marked mark ∷ xs) ys = loaded_more loaded xs ys
loaded_more loaded (Took group ∷ xs) ys = loaded_more loaded xs ys
loaded_more loaded (Sampled j register ∷ xs) ys = loaded_more ((j, record { register = register; mask = None }) ∷ loaded) xs ys
loaded_more loaded (Masked j mask ∷ xs) ys = loaded_more (masked_in j mask loaded) xs ys
loaded_more loaded (Tried j number true ∷ xs) ys = loaded_more (moved_in j loaded) xs ys
loaded_more loaded (Tried j number false ∷ xs) ys = loaded_more loaded xs ys

note_loaded : (j : ℕ) (register : Register) (mask : Option ℕ) (loaded : List (ℕ × Loaded)) → loaded_in loaded (note_of j (record { register = register; mask = mask })) ≡
    (j, record { register = register; mask = mask }) ∷ loaded
note_loaded j register None loaded = refl
note_loaded j register (Some mask) loaded = mask_joins j mask register loaded

pub notes_loaded : (loaded : List (ℕ × Loaded)) → loaded_in [] (notes_of loaded) ≡ loaded
notes_loaded [] = refl
notes_loaded (e ∷ loaded) = loaded_more [] (notes_of loaded) (note_of e.0 e.1) ∙
    (ap (λ l. loaded_in l (note_of e.0 e.1)) (notes_loaded loaded) ∙ note_loaded e.0 e.1.register e.1.mask loaded)

tries_loaded : (es : List Entry) (outcomes : List Bool) (loaded : List (ℕ × Loaded)) → loaded_in loaded (try_notes es outcomes) ≡ moved_by es outcomes loaded
tries_loaded [] outcomes loaded = refl
tries_loaded (e ∷ es) [] loaded = refl
tries_loaded (e ∷ es) (true ∷ outcomes) loaded = tries_loaded es outcomes (moved_in e.session loaded)
tries_loaded (e ∷ es) (false ∷ outcomes) loaded = tries_loaded es outcomes loaded

pub all_loaded : (loaded : List (ℕ × Loaded)) (es : List Entry) (outcomes : List Bool) → loaded_in [] (notes_of loaded ++ try_notes es outcomes) ≡ moved_by es outcomes loaded
all_loaded loaded es outcomes = loaded_more [] (notes_of loaded) (try_notes es outcomes) ∙
    (ap (λ l. loaded_in l (try_notes es outcomes)) (notes_loaded loaded) ∙ tries_loaded es outcomes loaded)

took_loaded : (loaded : List (ℕ × Loaded)) (taken : List ℕ) → loaded_in loaded (took taken) ≡ loaded
took_loaded loaded [] = refl
took_loaded loaded (n ∷ taken) = loaded_more loaded (took taken) (Took n ∷ []) ∙ took_loaded loaded taken

pub then_loaded : (loaded : List (ℕ × Loaded)) (taken : List ℕ) → loaded_in [] (notes_of loaded ++ took taken) ≡ loaded
then_loaded loaded taken = loaded_more [] (notes_of loaded) (took taken) ∙ (ap (λ l. loaded_in l (took taken)) (notes_loaded loaded) ∙ took_loaded loaded taken)

mask_inside : (j : ℕ) (mask : Option ℕ) → Each IsInside (mask_note j mask)
mask_inside j None = tt
mask_inside j (Some mask) = (tt, tt)

pub notes_inside : (loaded : List (ℕ × Loaded)) → Each IsInside (notes_of loaded)
notes_inside [] = tt
notes_inside (e ∷ loaded) = each_append IsInside (notes_of loaded) (note_of e.0 e.1) (notes_inside loaded) (tt, mask_inside e.0 e.1.mask)

pub tries_inside : (es : List Entry) (outcomes : List Bool) → Each IsInside (try_notes es outcomes)
tries_inside [] outcomes = tt
tries_inside (e ∷ es) [] = tt
tries_inside (e ∷ es) (moved ∷ outcomes) = (tt, tries_inside es outcomes)

pub took_inside : (taken : List ℕ) → Each IsInside (took taken)
took_inside [] = tt
took_inside (n ∷ taken) = each_append IsInside (took taken) (Took n ∷ []) (took_inside taken) (tt, tt)
