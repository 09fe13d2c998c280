-- What a framer keeps of bytes, and of one more.
use Rattle.std.proofs.Common.{◌≡◌, ◌∙◌, ◌==◌, ℕ, zero, suc, nat_le, arith, List, [], ◌∷◌, ◌++◌, fold, Bool, true, false, refl, sym, ap, subst, inl, inr, append_assoc}
use Rattle.std.proofs.lemmas.Bool.{cases_Bool, eqb-true, leb-true, leb-false}
use Rattle.std.proofs.lemmas.List.Sums.{fold-append}
use Rattle.csv.specs.declared.parser.Action.{Action}
use Rattle.csv.specs.declared.parser.Action.TheVariants as action
use Rattle.csv.specs.declared.parser.State.TheVariants as state
use Rattle.csv.specs.Machine.{step, is_end, ends_at_end, field_after}
use Rattle.csv.specs.Reading.{default_config, strip_bom}
use Rattle.hg_talk.specs.declared.limits.TheConstants.{MOST_RECORD_BYTES}
use Rattle.hg_talk.specs.Framing.{Begun, Framed, all_in, begun_after, complete_in, does_end, framed, framed_after, none_begun, sent_of, unframed}
use Rattle.hg_talk.specs.Framer.{HasMark, Kept, Keeps, ends_mark, kept_after, mark_after, short_after, shortened}

-- ---- marks

-- no mark starts so, whatever comes after it
strip_one : (c : ℕ) (more : List ℕ) → (c == 0xEF) ≡ false → strip_bom (c ∷ more) ≡ c ∷ more
unfolding strip_bom
strip_one c [] n = refl
strip_one c (b ∷ []) n = refl
strip_one c (b ∷ d ∷ more) n = rw n refl

strip_two : (c : ℕ) (more : List ℕ) → (c == 0xBB) ≡ false → strip_bom (0xEF ∷ c ∷ more) ≡ 0xEF ∷ c ∷ more
unfolding strip_bom
strip_two c [] n = refl
strip_two c (d ∷ more) n = rw n refl

-- of three bytes it is known
strip_three : (c : ℕ) (more : List ℕ) → strip_bom (0xEF ∷ 0xBB ∷ c ∷ more) ≡ strip_bom (0xEF ∷ 0xBB ∷ c ∷ []) ++ more
unfolding strip_bom
strip_three c more = elim (cases_Bool (c == 0xBF)) [ inl y ↦ rw y refl | inr n ↦ rw n refl ]

stripped_one : (c : ℕ) → strip_bom (c ∷ []) ≡ c ∷ []
unfolding strip_bom
stripped_one c = refl

stripped_two : (c : ℕ) → strip_bom (0xEF ∷ c ∷ []) ≡ 0xEF ∷ c ∷ []
unfolding strip_bom
stripped_two c = refl

stripped_three : (c : ℕ) → (c == 0xBF) ≡ false → strip_bom (0xEF ∷ 0xBB ∷ c ∷ []) ≡ 0xEF ∷ 0xBB ∷ c ∷ []
unfolding strip_bom
stripped_three c n = rw n refl

stripped_mark : (c : ℕ) → (c == 0xBF) ≡ true → strip_bom (0xEF ∷ 0xBB ∷ c ∷ []) ≡ []
unfolding strip_bom
stripped_mark c y = rw y refl

stripped_none : strip_bom [] ≡ []
unfolding strip_bom
stripped_none = refl

-- the mark after one more byte
pub mark_next : (m : ℕ) (bytes : List ℕ) (c : ℕ) → HasMark m bytes → HasMark (mark_after m c) (bytes ++ c ∷ [])
mark_next zero bytes c h = elim (cases_Bool (c == 0xEF)) [
  | inl y ↦ rw y (ap (λ z. z ++ c ∷ []) h ∙ ap (λ z. z ∷ []) (eqb-true c 0xEF y))
  | inr n ↦ rw n (λ more. ap (λ z. strip_bom ((z ++ c ∷ []) ++ more)) h ∙ strip_one c more n ∙ sym (ap (λ z. z ++ more) (ap (λ z. strip_bom (z ++ c ∷ [])) h ∙ stripped_one c)))
]
mark_next (suc zero) bytes c h = elim (cases_Bool (c == 0xBB)) [
  | inl y ↦ rw y (ap (λ z. z ++ c ∷ []) h ∙ ap (λ z. 0xEF ∷ z ∷ []) (eqb-true c 0xBB y))
  | inr n ↦ rw n (λ more. ap (λ z. strip_bom ((z ++ c ∷ []) ++ more)) h ∙ strip_two c more n ∙ sym (ap (λ z. z ++ more) (ap (λ z. strip_bom (z ++ c ∷ [])) h ∙ stripped_two c)))
]
mark_next (suc (suc zero)) bytes c h = λ more. ap (λ z. strip_bom ((z ++ c ∷ []) ++ more)) h ∙ strip_three c more ∙ sym (ap (λ z. strip_bom (z ++ c ∷ []) ++ more) h)
mark_next (suc (suc (suc m))) bytes c h = λ more.
    ap strip_bom (append_assoc bytes (c ∷ []) more) ∙ h (c ∷ more) ∙ sym (append_assoc (strip_bom bytes) (c ∷ []) more) ∙ sym (ap (λ z. z ++ more) (h (c ∷ [])))

-- ---- one more byte

added : (bytes : List ℕ) (c : ℕ) (xs : List ℕ) → strip_bom bytes ≡ xs → strip_bom (bytes ++ c ∷ []) ≡ xs ++ c ∷ [] → framed (bytes ++ c ∷ []) ≡ framed_after (framed bytes) c
added bytes c xs old new = ap (fold framed_after unframed) new ∙ fold-append framed_after unframed xs (c ∷ []) ∙ ap (λ z. framed_after (fold framed_after unframed z) c) (sym old)

-- a byte that ends no mark is framed
pub framed_next : (m : ℕ) (bytes : List ℕ) (c : ℕ) → HasMark m bytes → ends_mark m c ≡ false → framed (bytes ++ c ∷ []) ≡ framed_after (framed bytes) c
framed_next zero bytes c h n = added bytes c [] (ap strip_bom h ∙ stripped_none) (ap (λ z. strip_bom (z ++ c ∷ [])) h ∙ stripped_one c)
framed_next (suc zero) bytes c h n = added bytes c (0xEF ∷ []) (ap strip_bom h ∙ stripped_one 0xEF) (ap (λ z. strip_bom (z ++ c ∷ [])) h ∙ stripped_two c)
framed_next (suc (suc zero)) bytes c h n = added bytes c (0xEF ∷ 0xBB ∷ []) (ap strip_bom h ∙ stripped_two 0xBB) (ap (λ z. strip_bom (z ++ c ∷ [])) h ∙ stripped_three c n)
framed_next (suc (suc (suc m))) bytes c h n = added bytes c (strip_bom bytes) refl (h (c ∷ []))

-- a mark has ended
pub record EndsMark (bytes : List ℕ) (c : ℕ) : Type 0 where
  pub before : framed bytes ≡ framed (0xEF ∷ 0xBB ∷ [])
  pub byte : c ≡ 0xBF
  pub after : framed (bytes ++ c ∷ []) ≡ unframed

pub mark_ended : (m : ℕ) (bytes : List ℕ) (c : ℕ) → HasMark m bytes → ends_mark m c ≡ true → EndsMark bytes c
mark_ended zero bytes c h y = absurd (let no : ⊥ = cc y in no)
mark_ended (suc zero) bytes c h y = absurd (let no : ⊥ = cc y in no)
mark_ended (suc (suc zero)) bytes c h y = record {
  before = ap framed h;
  byte = eqb-true c 0xBF y;
  after = ap (fold framed_after unframed) (ap (λ z. strip_bom (z ++ c ∷ [])) h ∙ stripped_mark c y);
}
mark_ended (suc (suc (suc m))) bytes c h y = absurd (let no : ⊥ = cc y in no)

-- ---- what is kept

-- the machine's state is kept
pub state_short : (b : Begun) → (shortened b).state ≡ b.state
state_short b = elim (cases_Bool (nat_le b.size MOST_RECORD_BYTES)) [ inl y ↦ rw y refl | inr n ↦ rw n refl ]

-- a record that has ended is too long or not, as it was sent
pub sent_short : (b : Begun) → sent_of (shortened b).size (shortened b).fields ≡ sent_of b.size b.fields
sent_short b = elim (cases_Bool (nat_le b.size MOST_RECORD_BYTES)) [ inl y ↦ rw y (rw y refl) | inr n ↦ rw n refl ]

pub last_short : (b : Begun) → sent_of (shortened b).size ((shortened b).fields ++ (shortened b).field ∷ []) ≡ sent_of b.size (b.fields ++ b.field ∷ [])
last_short b = elim (cases_Bool (nat_le b.size MOST_RECORD_BYTES)) [ inl y ↦ rw y (rw y refl) | inr n ↦ rw n refl ]

field_ended : (a : Action) (c : ℕ) (field : List ℕ) → is_end a ≡ true → field_after a c field ≡ []
field_ended action.EndRecord c field y = refl
field_ended action.Skip c field y = absurd (let no : ⊥ = cc y in no)
field_ended action.Copy c field y = absurd (let no : ⊥ = cc y in no)
field_ended action.EndField c field y = refl

not_less : (a b : ℕ) → nat_le a b ≡ false → nat_le (suc a) b ≡ false
not_less a b n = elim (cases_Bool (nat_le (suc a) b)) [ inl y ↦ absurd (omega (arith, leb-true (suc a) b y, leb-false a b n)) | inr m ↦ m ]

-- what is kept of a record after a byte is what is kept of it and that byte
pub short_next : (b : Begun) (c : ℕ) → short_after (shortened b) c ≡ shortened (begun_after b c)
short_next b c = elim (cases_Bool (nat_le b.size MOST_RECORD_BYTES)) [
  | inl y ↦ elim (cases_Bool (ends_at_end (step default_config b.state c).0)) [
    | inl within ↦ rw y (rw within refl)
    | inr out ↦ rw y (rw out (rw y refl))
  ]
  | inr n ↦ elim (cases_Bool (ends_at_end (step default_config b.state c).0)) [
    | inl within ↦ rw n (rw within (rw (not_less b.size MOST_RECORD_BYTES n) refl))
    | inr out ↦ rw n (rw out (rw n refl))
  ]
]

-- ---- a byte that ends no record, and one that ends one

not_both : (b : Bool) → b ≡ true → b ≡ false → ⊥
not_both true y n = let no : ⊥ = cc n in no
not_both false y n = let no : ⊥ = cc y in no

same_end : (k : Kept) (bytes : List ℕ) (c : ℕ) → Keeps k bytes → does_end (framed bytes).begun c ≡ does_end k.begun c
same_end k bytes c h = ap (λ s. is_end (step default_config s c).1) (sym (state_short (framed bytes).begun) ∙ sym (ap (λ (b : Begun). b.state) h.begun))

-- of the bytes with one more: what is kept, and what was sent
pub record Goes (k : Kept) (bytes : List ℕ) (c : ℕ) : Type 0 where
  pub keeps : Keeps (kept_after k c) (bytes ++ c ∷ [])
  pub sent : (framed (bytes ++ c ∷ [])).ended ≡ (framed bytes).ended

pub goes_on : (k : Kept) (bytes : List ℕ) (c : ℕ) → Keeps k bytes → does_end k.begun c ≡ false → Goes k bytes c
goes_on k bytes c h on = elim (cases_Bool (ends_mark k.mark c)) [
  | inl y ↦
      let e = mark_ended k.mark bytes c h.mark y in record {
        keeps = record { begun = rw y (sym (ap (λ (f : Framed). shortened f.begun) e.after)); mark = mark_next k.mark bytes c h.mark };
        sent = ap (λ (f : Framed). f.ended) e.after ∙ sym (ap (λ (f : Framed). f.ended) (e.before ∙ two));
      }
  | inr n ↦
      let next = framed_next k.mark bytes c h.mark n in
      let whole : does_end (framed bytes).begun c ≡ false = same_end k bytes c h ∙ on in
      let now : framed (bytes ++ c ∷ []) ≡ record { ended = (framed bytes).ended; begun = begun_after (framed bytes).begun c } = next ∙ rw whole refl in
      record {
        keeps = record {
          begun = rw n (ap (λ b. short_after b c) h.begun ∙ short_next (framed bytes).begun c ∙ sym (ap (λ (f : Framed). shortened f.begun) now));
          mark = mark_next k.mark bytes c h.mark;
        };
        sent = ap (λ (f : Framed). f.ended) now;
      }
]
  where
    two : framed (0xEF ∷ 0xBB ∷ []) ≡ record { ended = []; begun = record { state = state.InField; fields = []; field = 0xEF ∷ 0xBB ∷ []; size = 2 } }
    two = ap (fold framed_after unframed) (stripped_two 0xBB)

-- of the bytes with one more, that ends a record: what is kept for the next one, and what was sent
pub record Ends (k : Kept) (bytes : List ℕ) (c : ℕ) : Type 0 where
  pub keeps : Keeps (record (kept_after k c) { begun = record (kept_after k c).begun { fields = []; size = 0 } }) (bytes ++ c ∷ [])
  pub sent : (framed (bytes ++ c ∷ [])).ended ≡ (framed bytes).ended ++ sent_of (kept_after k c).begun.size (kept_after k c).begun.fields ∷ []

in_mark : (c : ℕ) → c ≡ 0xBF → does_end (framed (0xEF ∷ 0xBB ∷ [])).begun c ≡ false
in_mark c e = subst (λ d. does_end (framed (0xEF ∷ 0xBB ∷ [])).begun d ≡ false) (sym e) (ap (λ x. does_end (fold framed_after unframed x).begun 0xBF) (stripped_two 0xBB))

cleared : (b : Begun) → b.field ≡ [] → record (shortened b) { fields = []; size = 0 } ≡ shortened (none_begun b.state)
cleared b e = elim (cases_Bool (nat_le b.size MOST_RECORD_BYTES)) [ inl y ↦ rw y (ap (λ f. record { state = b.state; fields = []; field = f; size = 0 }) e) | inr n ↦ rw n refl ]

pub goes_end : (k : Kept) (bytes : List ℕ) (c : ℕ) → Keeps k bytes → does_end k.begun c ≡ true → Ends k bytes c
goes_end k bytes c h ends =
    let whole : does_end (framed bytes).begun c ≡ true = same_end k bytes c h ∙ ends in
    elim (cases_Bool (ends_mark k.mark c)) [
      | inl y ↦
          let e = mark_ended k.mark bytes c h.mark y in
          absurd (not_both _ whole (ap (λ (f : Framed). does_end f.begun c) e.before ∙ in_mark c e.byte))
      | inr n ↦
          let b = begun_after (framed bytes).begun c in
          let now : framed (bytes ++ c ∷ []) ≡ record { ended = (framed bytes).ended ++ sent_of b.size b.fields ∷ []; begun = none_begun b.state } =
          framed_next k.mark bytes c h.mark n ∙ rw whole refl in
          let kept : (kept_after k c).begun ≡ shortened b = rw n (ap (λ b. short_after b c) h.begun ∙ short_next (framed bytes).begun c) in
          let field : b.field ≡ [] = field_ended _ c _ whole in
          record {
            keeps = record {
              begun = ap (λ (b : Begun). record b { fields = []; size = 0 }) kept ∙ cleared b field ∙ sym (ap (λ (f : Framed). shortened f.begun) now);
              mark = mark_next k.mark bytes c h.mark;
            };
            sent = ap (λ (f : Framed). f.ended) now ∙ sym (ap (λ (b : Begun). (framed bytes).ended ++ sent_of b.size b.fields ∷ []) kept ∙ ap (λ s. (framed bytes).ended ++ s ∷ []) (sent_short b));
          }
    ]

-- nothing was read yet
pub keeps_none : Keeps (record { mark = 0; begun = unframed.begun }) []
keeps_none = record { begun = sym (ap (λ x. shortened (fold framed_after unframed x).begun) stripped_none); mark = refl }

pub sent_none : (framed []).ended ≡ []
sent_none = ap (λ x. (fold framed_after unframed x).ended) stripped_none

-- whether the end of the input ends a record, and which
same_last : (k : Kept) (bytes : List ℕ) → Keeps k bytes → ends_at_end (framed bytes).begun.state ≡ ends_at_end k.begun.state
same_last k bytes h = ap ends_at_end (sym (state_short (framed bytes).begun) ∙ sym (ap (λ (b : Begun). b.state) h.begun))

pub last_ended : (k : Kept) (bytes : List ℕ) → Keeps k bytes → ends_at_end k.begun.state ≡ true →
    all_in bytes ≡ complete_in bytes ++ sent_of k.begun.size (k.begun.fields ++ k.begun.field ∷ []) ∷ []
last_ended k bytes h ends =
    let whole : ends_at_end (framed bytes).begun.state ≡ true = same_last k bytes h ∙ ends in
    rw whole (ap (λ s. complete_in bytes ++ s ∷ []) (sym (last_short (framed bytes).begun) ∙ sym (ap (λ (b : Begun). sent_of b.size (b.fields ++ b.field ∷ [])) h.begun)))
