-- Where the gate of a text is.
use Rattle.std.proofs.Common.{◌≡◌, ◌≢◌, ℕ, ◌≤◌, Bool, ◌||◌, true, false, List, [], ◌∷◌, ◌++◌, length, drop, Option, Some, None, option_map, unwrap_or, if◌then◌else◌, refl, sym, ◌∙◌, ap, subst, arith, append_assoc}
use Rattle.std.proofs.lemmas.List.{append-nil}
use Rattle.std.proofs.lemmas.Bool.Decides.{nat_tests}
use Rattle.hg_journal.specs.Gate.{next, is_gate, before_gate, kept, at_rest, AreWithin, IsPlain, IsWhole, place_after, has_gate}
use Rattle.hg_journal.specs.declared.gate.Place.{Place}
use Rattle.hg_journal.specs.declared.gate.Place.TheVariants.{Start, Within, Quoted}

-- the bytes before the gate, one byte on
abbrev then_gate : Bool → ℕ → Option (List ℕ) → Option (List ℕ)
then_gate is b o = if is then Some [] else option_map (λ text. b ∷ text) o

-- where some byte comes before the gate, it is no gate
record Goes (is : Bool) (o : Option (List ℕ)) (text : List ℕ) : Type 0 where
  on : is ≡ false
  rest : o ≡ Some text

goes : (is : Bool) (b : ℕ) (o : Option (List ℕ)) (text : List ℕ) → then_gate is b o ≡ Some (b ∷ text) → Goes is o text
goes true b o text h = absurd (cc h)
goes false b None text h = absurd (cc h)
goes false b (Some u) text h = record { on = refl; rest = ap (λ (x : Option (List ℕ)). Some (drop 1 (unwrap_or x []))) h }

-- a text before a gate is followed by what follows
pub behind : (p : Place) (a q : List ℕ) → before_gate p (a ++ 10 ∷ []) ≡ Some a → before_gate p (a ++ q) ≡ option_map (λ t. a ++ t) (before_gate Start q)
behind Start [] q h = same (before_gate Start q)
  where
    same : (o : Option (List ℕ)) → o ≡ option_map (λ t. t) o
    same None = refl
    same (Some t) = refl
behind Within [] q h = absurd (cc h)
behind Quoted [] q h = absurd (cc h)
behind p (b ∷ a) q h =
    let g = goes (is_gate p b) b (before_gate (next p b) (a ++ 10 ∷ [])) a h in
    ap (λ (x : Bool). then_gate x b (before_gate (next p b) (a ++ q))) g.on
    ∙ (ap (λ (o : Option (List ℕ)). option_map (λ t. b ∷ t) o) (behind (next p b) a q g.rest) ∙ twice (before_gate Start q))
  where
    twice : (o : Option (List ℕ)) → option_map (λ t. b ∷ t) (option_map (λ t. a ++ t) o) ≡ option_map (λ t. b ∷ (a ++ t)) o
    twice None = refl
    twice (Some t) = refl

-- what a whole text and a gate keep, whatever is behind the gate
pub kept_before : (a rest : List ℕ) → IsWhole a → kept (a ++ 10 ∷ rest) ≡ a
kept_before a rest whole = ap (λ (o : Option (List ℕ)). unwrap_or o []) (behind Start a (10 ∷ rest) whole) ∙ append-nil a

-- whole texts join
pub whole_joined : (a b : List ℕ) → IsWhole a → IsWhole b → IsWhole (a ++ b)
whole_joined a b whole_a whole_b =
    rw append_assoc (behind Start a (b ++ 10 ∷ []) whole_a ∙ ap (λ (o : Option (List ℕ)). option_map (λ t. a ++ t) o) whole_b)

-- a file with a gate is a whole text, the gate, and more
pub record Parts (p : Place) (file a : List ℕ) : Type 0 where
  pub rest : List ℕ
  pub split : file ≡ a ++ 10 ∷ rest
  pub whole : before_gate p (a ++ 10 ∷ []) ≡ Some a

at_gate : (p : Place) (b : ℕ) (rest : List ℕ) → is_gate p b ≡ true → Parts p (b ∷ rest) []
at_gate Start b rest is = let ten : b ≡ 10 = grind (arith, nat_tests) in record { rest = rest; split = ap (λ (x : ℕ). x ∷ rest) ten; whole = refl }
at_gate Within b rest is = absurd (cc is)
at_gate Quoted b rest is = absurd (cc is)

pub parts : (p : Place) (file a : List ℕ) → before_gate p file ≡ Some a → Parts p file a
parts p [] a h = absurd (cc h)
parts p (b ∷ file) a h = on (λ t here. parts (next p b) file t here) (is_gate p b) refl (before_gate (next p b) file) refl h
  where
    on : ((t : List ℕ) → before_gate (next p b) file ≡ Some t → Parts (next p b) file t) → (is : Bool) → is_gate p b ≡ is → (o : Option (List ℕ)) → before_gate (next p b) file ≡ o → then_gate is b o ≡ Some a → Parts p (b ∷ file) a
    on more true is o here e =
        let none : [] ≡ a = ap (λ (x : Option (List ℕ)). unwrap_or x []) e in
        subst (λ (l : List ℕ). Parts p (b ∷ file) l) none (at_gate p b file is)
    on more false is None here e = absurd (cc e)
    on more false is (Some t) here e =
        let is_a : b ∷ t ≡ a = ap (λ (x : Option (List ℕ)). unwrap_or x []) e in
        let later = more t here in
        subst (λ (l : List ℕ). Parts p (b ∷ file) l) is_a (record {
          rest = later.rest;
          split = ap (λ (l : List ℕ). b ∷ l) later.split;
          whole = ap (λ (x : Bool). then_gate x b (before_gate (next p b) (t ++ 10 ∷ []))) is ∙ ap (λ (x : Option (List ℕ)). option_map (λ l. b ∷ l) x) later.whole;
        })

-- a file at rest keeps a whole text
pub open_whole : (file : List ℕ) → file ≡ at_rest (kept file) → IsWhole (kept file)
open_whole file rests = on (before_gate Start file) refl
  where
    on : (o : Option (List ℕ)) → before_gate Start file ≡ o → IsWhole (kept file)
    on None none =
        let empty : kept file ≡ [] = ap (λ (x : Option (List ℕ)). unwrap_or x []) none in
        subst IsWhole (sym empty) refl
    on (Some a) some =
        let is : kept file ≡ a = ap (λ (x : Option (List ℕ)). unwrap_or x []) some in
        subst IsWhole (sym is) (parts Start file a some).whole

-- one byte keeps nothing
pub kept_short : (c : List ℕ) → length c ≤ 1 → kept c ≡ []
kept_short [] short = refl
kept_short (a ∷ []) short = on (is_gate Start a)
  where
    on : (is : Bool) → unwrap_or (then_gate is a None) [] ≡ []
    on true = refl
    on false = refl
kept_short (a ∷ b ∷ c) short = absurd (omega arith)

byte_within : (p : Place) (b : ℕ) → p ≢ Quoted → b ≢ 34 → b ≢ 10 → next p b ≡ Within
byte_within Start b no_quote plain feed = grind (arith, nat_tests)
byte_within Within b no_quote plain feed = grind (arith, nat_tests)
byte_within Quoted b no_quote plain feed = absurd (no_quote refl)

no_gate_here : (p : Place) (b : ℕ) → b ≢ 10 → is_gate p b ≡ false
no_gate_here Start b feed = grind (arith, nat_tests)
no_gate_here Within b feed = refl
no_gate_here Quoted b feed = refl

within_whole : (row : List ℕ) → AreWithin row → before_gate Within (row ++ (10 ∷ []) ++ 10 ∷ []) ≡ Some (row ++ 10 ∷ [])
within_whole [] plain = refl
within_whole (b ∷ row) plain =
    ap (λ (p : Place). option_map (λ t. b ∷ t) (before_gate p (row ++ (10 ∷ []) ++ 10 ∷ []))) (byte_within Within b (λ e. cc e) plain.0 plain.1)
    ∙ ap (λ (o : Option (List ℕ)). option_map (λ t. b ∷ t) o) (within_whole row plain.2)

-- a record without quotes, with its line feed
pub plain_whole : (row : List ℕ) → IsPlain row → IsWhole (at_rest row)
plain_whole [] plain = absurd (omega (arith, plain.some))
plain_whole (b ∷ row) plain =
    ap (λ (x : Bool). then_gate x b (before_gate (next Start b) (row ++ (10 ∷ []) ++ 10 ∷ []))) (no_gate_here Start b plain.within.1)
    ∙ ap (λ (p : Place). option_map (λ t. b ∷ t) (before_gate p (row ++ (10 ∷ []) ++ 10 ∷ []))) (byte_within Start b (λ e. cc e) plain.within.0 plain.within.1)
    ∙ ap (λ (o : Option (List ℕ)). option_map (λ t. b ∷ t) o) (within_whole row plain.within.2)

neither : (a b : Bool) → a || b ≡ false → (a ≡ false) × (b ≡ false)
neither true b none = absurd (cc none)
neither false b none = (refl, none)

-- what leads to the start of a record, with no gate on the way, comes before a gate
pub led_whole : (p : Place) (text : List ℕ) → place_after p text ≡ Start → has_gate p text ≡ false → before_gate p (text ++ 10 ∷ []) ≡ Some text
led_whole p [] leads none = ap (λ (q : Place). before_gate q (10 ∷ [])) leads
led_whole p (b ∷ text) leads none =
    let both = neither (is_gate p b) (has_gate (next p b) text) none in
    ap (λ (x : Bool). then_gate x b (before_gate (next p b) (text ++ 10 ∷ []))) both.0
    ∙ ap (λ (o : Option (List ℕ)). option_map (λ t. b ∷ t) o) (led_whole (next p b) text leads both.1)
