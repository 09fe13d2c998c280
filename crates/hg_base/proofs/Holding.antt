-- Numbers as such and packed values tell what they hold, each in one way.
use Rattle.std.proofs.Common.{◌≡◌, map, true, false, refl, sym, ◌∙◌}
use Rattle.std.proofs.lemmas.Bool.{false≢true, true≢false}
use Rattle.hg_base.specs.declared.row.Storage.{Storage}
use Rattle.hg_base.specs.declared.row.Storage.TheVariants.{One, Two, Many, Short, Long}
use Rattle.hg_base.specs.declared.value.Value.TheVariants.{Number}
use Rattle.hg_base.specs.Storage.{stored_values, stored_numbers, is_packed, IsStored}
use Rattle.hg_base.proofs.Numbers.{numbers_are_no_texts}

pub alone : (h : Storage) → is_packed h ≡ false → stored_values h ≡ map Number (stored_numbers h)
alone (One ns) e = refl
alone (Two ns) e = refl
alone (Many ns) e = refl
alone (Short bytes) e = absurd (true≢false e)
alone (Long bytes) e = absurd (true≢false e)

-- packed values are no numbers alone
pub differ : (g h : Storage) → is_packed g ≡ true → IsStored g → is_packed h ≡ false → stored_values g ≡ stored_values h → ⊥
differ (One ns) h e i f s = absurd (false≢true e)
differ (Two ns) h e i f s = absurd (false≢true e)
differ (Many ns) h e i f s = absurd (false≢true e)
differ (Short bytes) h e i f s = numbers_are_no_texts (stored_numbers h) _ i.some (sym (alone h f) ∙ sym s)
differ (Long bytes) h e i f s = numbers_are_no_texts (stored_numbers h) _ i.some (sym (alone h f) ∙ sym s)

pub differ_back : (g h : Storage) → is_packed g ≡ false → is_packed h ≡ true → IsStored h → stored_values g ≡ stored_values h → ⊥
differ_back g h e f i s = differ h g f i e (sym s)
