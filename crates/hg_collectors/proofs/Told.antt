-- What the notes of a round say of its entries, its tries and its groups.
use Rattle.std.proofs.Common.{◌≡◌, ℕ, Bool, List, [], ◌∷◌, ◌++◌, length, map, refl, sym, ap, ◌∙◌, subst, arith}
use Rattle.std.specs.Prelude.{Option, Some, None}
use Rattle.hg_base.specs.declared.report.Entry.{Entry}
use Rattle.hg_base.specs.Lists.{Each}
use Rattle.hg_base.proofs.ListFacts.{each_append}
use Rattle.hg_core.specs.declared.journal.PassEntry.{PassEntry}
use Rattle.hg_core.specs.declared.journal.PassEntry.TheVariants.{Marked, Sampled, Masked, Tried, Took}
use Rattle.hg_core.specs.declared.loaded.Loaded.{Loaded}
use Rattle.hg_core.specs.declared.register.Register.{Register}
use Rattle.hg_core.specs.declared.register.Register.TheVariants.{Idle, Entering, Live}
use Rattle.hg_headline.specs.OneRun.{loaded_in, sampled_in, tries_in, taken_in, entry_of, entries_in}
use Rattle.hg_rule.specs.Rounds.{live_entry, entries_of}
use Rattle.hg_tracker.specs.Begun.{mask_note, note_of, notes_of}
use Rattle.hg_tracker.specs.Tries.{try_notes}
use Rattle.hg_collectors.specs.Taking.{took}
use Rattle.hg_collectors.proofs.Notes.{loaded_more}

-- ---- what was loaded, in the words of the journal

pub same_entry : (j : ℕ) (register : Register) (mask : Option ℕ) → entry_of j register mask ≡ live_entry j register mask
same_entry j Idle mask = refl
same_entry j (Entering f) mask = refl
same_entry j (Live number declared moved) None = refl
same_entry j (Live number declared moved) (Some mask) = refl

pub same_entries : (loaded : List (ℕ × Loaded)) → entries_in loaded ≡ entries_of loaded
same_entries [] = refl
same_entries (e ∷ loaded) = λ i. same_entries loaded i ++ same_entry e.0 e.1.register e.1.mask i

-- before any try, what is sampled is what is loaded
pub sampled_more : (loaded : List (ℕ × Loaded)) (xs ys : List PassEntry) → sampled_in loaded (xs ++ ys) ≡ sampled_in (sampled_in loaded xs) ys
sampled_more loaded [] ys = refl
sampled_more loaded (Marked mark ∷ xs) ys = sampled_more loaded xs ys
sampled_more loaded (Sampled j register ∷ xs) ys = sampled_more (sampled_in loaded (Sampled j register ∷ [])) xs ys
sampled_more loaded (Masked j mask ∷ xs) ys = sampled_more (sampled_in loaded (Masked j mask ∷ [])) xs ys
sampled_more loaded (Tried j number moved ∷ xs) ys = sampled_more loaded xs ys
sampled_more loaded (Took group ∷ xs) ys = sampled_more loaded xs ys

pub note_sampled : (loaded : List (ℕ × Loaded)) (j : ℕ) (x : Loaded) → sampled_in loaded (note_of j x) ≡ loaded_in loaded (note_of j x)
note_sampled loaded j x = go x.mask
  where
    go : (mask : Option ℕ) → sampled_in loaded (Sampled j x.register ∷ mask_note j mask) ≡ loaded_in loaded (Sampled j x.register ∷ mask_note j mask)
    go None = refl
    go (Some mask) = refl

pub notes_sampled : (loaded : List (ℕ × Loaded)) → sampled_in [] (notes_of loaded) ≡ loaded_in [] (notes_of loaded)
notes_sampled [] = refl
notes_sampled (e ∷ loaded) = sampled_more [] (notes_of loaded) (note_of e.0 e.1) ∙ (ap (λ l. sampled_in l (note_of e.0 e.1)) (notes_sampled loaded) ∙
    (note_sampled (loaded_in [] (notes_of loaded)) e.0 e.1 ∙ sym (loaded_more [] (notes_of loaded) (note_of e.0 e.1))))

pub tries_sampled : (loaded : List (ℕ × Loaded)) (es : List Entry) (outcomes : List Bool) → sampled_in loaded (try_notes es outcomes) ≡ loaded
tries_sampled loaded [] outcomes = refl
tries_sampled loaded (e ∷ es) [] = refl
tries_sampled loaded (e ∷ es) (moved ∷ outcomes) = tries_sampled loaded es outcomes

-- ---- the tries, and the groups

pub tries_more : (xs ys : List PassEntry) → tries_in (xs ++ ys) ≡ tries_in xs ++ tries_in ys
tries_more [] ys = refl
tries_more (Marked mark ∷ xs) ys = tries_more xs ys
tries_more (Sampled j register ∷ xs) ys = tries_more xs ys
tries_more (Masked j mask ∷ xs) ys = tries_more xs ys
tries_more (Tried j number moved ∷ xs) ys = ap (λ l. (j, (number, moved)) ∷ l) (tries_more xs ys)
tries_more (Took group ∷ xs) ys = tries_more xs ys

pub mask_tries : (j : ℕ) (mask : Option ℕ) → tries_in (mask_note j mask) ≡ []
mask_tries j None = refl
mask_tries j (Some mask) = refl

pub notes_tries : (loaded : List (ℕ × Loaded)) → tries_in (notes_of loaded) ≡ []
notes_tries [] = refl
notes_tries (e ∷ loaded) = tries_more (notes_of loaded) (note_of e.0 e.1) ∙ (λ i. notes_tries loaded i ++ mask_tries e.0 e.1.mask i)

pub took_tries : (taken : List ℕ) → tries_in (took taken) ≡ []
took_tries [] = refl
took_tries (n ∷ taken) = tries_more (took taken) (Took n ∷ []) ∙ ap (λ l. l ++ []) (took_tries taken)

-- each entry is tried once
abbrev pub whose : ℕ × (ℕ × Bool) → ℕ × ℕ
whose t = (t.0, t.1.0)

abbrev pub number_of : Entry → ℕ × ℕ
number_of e = (e.session, e.number)

pub tries_are : (es : List Entry) (outcomes : List Bool) → length outcomes ≡ length es → map whose (tries_in (try_notes es outcomes)) ≡ map number_of es
tries_are [] outcomes l = refl
tries_are (e ∷ es) [] l = absurd (omega arith)
tries_are (e ∷ es) (moved ∷ outcomes) l = ap (λ ts. number_of e ∷ ts) (tries_are es outcomes (omega arith))

pub taken_more : (xs ys : List PassEntry) → taken_in (xs ++ ys) ≡ taken_in xs ++ taken_in ys
taken_more [] ys = refl
taken_more (Marked mark ∷ xs) ys = taken_more xs ys
taken_more (Sampled j register ∷ xs) ys = taken_more xs ys
taken_more (Masked j mask ∷ xs) ys = taken_more xs ys
taken_more (Tried j number moved ∷ xs) ys = taken_more xs ys
taken_more (Took group ∷ xs) ys = ap (λ l. group ∷ l) (taken_more xs ys)

pub mask_taken : (j : ℕ) (mask : Option ℕ) → taken_in (mask_note j mask) ≡ []
mask_taken j None = refl
mask_taken j (Some mask) = refl

pub notes_taken : (loaded : List (ℕ × Loaded)) → taken_in (notes_of loaded) ≡ []
notes_taken [] = refl
notes_taken (e ∷ loaded) = taken_more (notes_of loaded) (note_of e.0 e.1) ∙ (λ i. notes_taken loaded i ++ mask_taken e.0 e.1.mask i)

pub took_each : (P : ℕ → Type 0) (taken : List ℕ) → Each P taken → Each P (taken_in (took taken))
took_each P [] h = tt
took_each P (n ∷ taken) h = subst (Each P) (sym (taken_more (took taken) (Took n ∷ []))) (each_append P (taken_in (took taken)) (n ∷ []) (took_each P taken h.1) (h.0, tt))
