-- The words after a step, and what a word says.
use Rattle.std.proofs.Common.{◌≡◌, ℕ, ◌*◌, ◌^◌, ◌<◌, List, length, get_or, set, refl, sym, ◌∙◌, subst, arith, length-set, get_or-set_other, get_or-set_same, true, false}
use Rattle.std.specs.Prelude.{if◌then◌else◌}
use lib.Seq.{set-get_or}
use Rattle.std.proofs.lemmas.Bool.Decides.{nat_tests}
use Rattle.hg_core.specs.declared.register.Register.{Register}
use Rattle.hg_core.specs.declared.register.Register.TheVariants.{Idle, Entering, Live}
use Rattle.hg_core.specs.Words.{word_of, register_of, IsRegister}
use Rattle.hg_core.specs.Phases.{IsSession}
use Rattle.hg_core.specs.State.{CoreState}
use Rattle.hg_core.specs.Events.{put}
use Rattle.hg_core.specs.Invariant.{IsSteady}
use Rattle.hg_core.proofs.Indices.{by_number}
use Rattle.hg_core.proofs.Counting.{mark_most}
use Rattle.hg_core.proofs.Words.{has_word}
use Rattle.hg_rule.specs.declared.view.Sizes.{Sizes}
use Rattle.hg_rule.specs.Words.{register_at, mask_at, words_for}
use Rattle.hg_rule.specs.Rules.{IsSized, HasRoom, ShowsWords}

-- a word shows its register
pub word_back : (register : Register) → IsRegister register → register_of (word_of register) ≡ register
word_back Idle h = refl
word_back (Entering n) h = let a = h.number in grind (arith, nat_tests)
word_back (Live n false false) h = let a = h.number in grind (arith, nat_tests)
word_back (Live n false true) h = let a = h.number in grind (arith, nat_tests)
word_back (Live n true false) h = let a = h.number in grind (arith, nat_tests)
word_back (Live n true true) h = let a = h.number in grind (arith, nat_tests)

-- after a load
pub loaded_words : (z : Sizes) (s : CoreState) (ws : List ℕ) (i : ℕ) → ShowsWords z s ws → ShowsWords z s (set ws i (get_or ws i 0))
loaded_words z s ws i w = subst (ShowsWords z s) (sym (set-get_or ws i 0)) w

-- after a store in a register
pub stored_words : (z : Sizes) (s : CoreState) (ws : List ℕ) (j x : ℕ) (to : Register) → IsSession z.sessions j → x ≡ word_of to → ShowsWords z s ws →
    ShowsWords z (record s { register = put s.register j to }) (set ws (register_at j) x)
stored_words z s ws j x to inside is w = record {
  count = length-set ws (register_at j) x ∙ w.count;
  mark = get_or-set_other ws (register_at j) 0 x 0 (λ (e : 0 ≡ register_at j). let l = inside.first in omega arith) ∙ w.mark;
  registers = by_number j (λ k b. IsSession z.sessions k → get_or (set ws (register_at j) x) (register_at k) 0 ≡ word_of (if b then to else s.register k))
      (λ h. get_or-set_same ws (register_at j) x 0 (let n : ℕ = length ws in let e : n ≡ words_for z.sessions = w.count in let l = inside.last in omega arith) ∙ is)
      (λ k other h. get_or-set_other ws (register_at j) (register_at k) x 0 (λ (e : register_at k ≡ register_at j). other (omega arith)) ∙ w.registers k h);
  masks = λ k. get_or-set_other ws (register_at j) (mask_at k) x 0 (λ (e : mask_at k ≡ register_at j). omega arith) ∙ w.masks k;
}

-- after a store in a mask
pub masked_words : (z : Sizes) (s : CoreState) (ws : List ℕ) (j x mask : ℕ) → IsSession z.sessions j → x ≡ mask → ShowsWords z s ws →
    ShowsWords z (record s { mask = put s.mask j mask }) (set ws (mask_at j) x)
masked_words z s ws j x mask inside is w = record {
  count = length-set ws (mask_at j) x ∙ w.count;
  mark = get_or-set_other ws (mask_at j) 0 x 0 (λ (e : 0 ≡ mask_at j). omega arith) ∙ w.mark;
  registers = λ k h. get_or-set_other ws (mask_at j) (register_at k) x 0 (λ (e : register_at k ≡ mask_at j). omega arith) ∙ w.registers k h;
  masks = by_number j (λ k b. get_or (set ws (mask_at j) x) (mask_at k) 0 ≡ (if b then mask else s.mask k))
      (get_or-set_same ws (mask_at j) x 0 (let n : ℕ = length ws in let e : n ≡ words_for z.sessions = w.count in let l = inside.last in omega arith) ∙ is)
      (λ k other. get_or-set_other ws (mask_at j) (mask_at k) x 0 (λ (e : mask_at k ≡ mask_at j). other (omega arith)) ∙ w.masks k);
}

-- the mark, and each register, has room
pub mark_small : (z : Sizes) (s : CoreState) → HasRoom z → IsSized z s → IsSteady s → s.mark < 2 ^ 44
mark_small z s room sized h = let e : s.sessions * s.quota ≡ z.sessions * z.quota = λ i. sized.sessions i * sized.quota i in omega (arith, mark_most s h, room.begins)

pub register_small : (z : Sizes) (s : CoreState) (j : ℕ) → HasRoom z → IsSized z s → IsSteady s → IsRegister (s.register j)
register_small z s j room sized h = let e : s.sessions * s.quota ≡ z.sessions * z.quota = λ i. sized.sessions i * sized.quota i in has_word s j h (omega (arith, room.begins))
