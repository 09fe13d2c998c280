-- A record that breaks no rule keeps the script lawful.
use Rattle.std.proofs.Common.{◌≡◌, ◌<◌, ◌≤◌, ◌+◌, ℕ, Bool, true, false, ◌||◌, ◌==◌, ◌∙◌, ap, inl, inr, unwrap_or, nat_lt, List, [], ◌∷◌}
use Rattle.std.proofs.Common.{length, drop, Option, Some, None, if◌then◌else◌, refl, sym, arith, option_map, bytes_eq, codes}
use Rattle.std.proofs.lemmas.Bool.{and_parts as and-parts, or_parts}
use Rattle.std.proofs.lemmas.Bool.Decides.{nat_tests}
use Rattle.std.specs.Option.{option_map_or}
use Rattle.hg_base.specs.declared.limits.TheConstants.{MOST_RECORDS}
use Rattle.hg_base.specs.declared.statement.Record.{Record}
use Rattle.hg_base.specs.Script.{Declaration, Script}
use Rattle.hg_base.proofs.ListFacts.{cases}
use Rattle.hg_script.proofs.Names.{none-twice}
use Rattle.hg_script.proofs.Scopes.{among, scope-fits}
use Rattle.hg_script.proofs.Widths.{natural-fits, values-fit}
use Rattle.hg_script.specs.declared.code.Code.{Code}
use Rattle.hg_base.specs.declared.number.Natural.{Natural}
use Rattle.hg_script.specs.declared.word.Word.{Word}
use Rattle.hg_script.specs.declared.word.Word.TheVariants as word
use Rattle.hg_script.specs.declared.draft.Ask.TheVariants.{Begin, Get, Put, Del, Scan, CursorOpen, Fetch, CursorClose, Commit, Rollback, Gc}
use Rattle.hg_script.specs.declared.draft.Draft.TheVariants.{Version}
use Rattle.hg_base.specs.Number.{natural_of, value_of}
use Rattle.hg_script.specs.Numbered.{records_before}
use Rattle.hg_script.proofs.Numbered.{few_before}
use Rattle.hg_script.specs.Fields.{Field, Fields, is_version, nth, statement_word, word_of}
use Rattle.hg_script.specs.declared.rules.TheConstants.{MOST_FETCHED}
use Rattle.hg_script.specs.Draft.{draft_of, first_table, kind_named, kinds_at, scope_named}
use Rattle.hg_script.specs.Draft.{table_named, values_by}
use Rattle.hg_script.specs.Rules.{count_breaks}
use Rattle.hg_script.specs.Meaning.{draft_code, first_code, nothing, or_next, refusal_from, refusal_of, script_from, script_of, with_draft, with_row}
use Rattle.hg_script.specs.Meaning.{code_table, first_broken}
use Rattle.hg_script.specs.Lawful.{IsLawful}
use Rattle.hg_script.proofs.Fitting.{numbers-at, row-fits}
use Rattle.hg_script.proofs.Growth.{later, no-code, Keeps, keeps, lies, Grown, within-most, asked-more, declared-more}

no-records : (rs : List Record) (n : ℕ) → n + length rs < 1 → rs ≡ []
no-records [] n h = refl
no-records (r ∷ rs) n h = absurd (omega (arith, h))

no-tables : (ds : List Declaration) (n m : ℕ) → length ds + n + m < 1 → ds ≡ []
no-tables [] n m h = refl
no-tables (d ∷ ds) n m h = absurd (omega (arith, h))

-- the first record of all says it
version-more : (place : ℕ) (s : Script) (version : ℕ) → Grown place s → place ≡ 1 → version ≡ 2 → Grown (place + 1) (record s { version = version })
version-more place s version g first is =
    let none = no-records s.records (records_before s) (omega (arith, g.many, first)) in
    let undeclared = no-tables s.tables (if s.version == 1 then 0 else 1) (length s.records) (omega (arith, g.many, first)) in
    let few = few_before version (length s.tables) in
    let no_tables : length s.tables ≡ 0 = ap length undeclared in
    let no_records : length s.records ≡ 0 = ap length none in record {
      lawful = record {
        version = inr is;
        numbers = λ one. absurd (let two : 1 ≡ 2 = sym one ∙ is in omega (arith, two));
        most = g.lawful.most;
        records = omega (arith, few, no_tables, no_records);
        tables = g.lawful.tables;
        names = g.lawful.names;
        statements = g.lawful.statements;
        order = g.lawful.order;
        places = g.lawful.places;
      };
      many = omega (arith, few, no_tables, no_records, first);
      before = later place s.records g.before;
    }

other-word : (b : Bool) (w : Word) (rest : Option Word) → (w ≡ word.Version → ⊥) → (rest ≡ Some word.Version → ⊥) → (if b then Some w else rest) ≡ Some word.Version → ⊥
other-word true w rest h k e = h (let is : w ≡ word.Version = cc e in is)
other-word false w rest h k e = k e

-- a statement's word is not the version's
no-version : (text : Field) → statement_word text ≡ Some word.Version → ⊥
no-version text =
    other-word _ word.Begin _ (λ e. let no : ⊥ = cc e in no) (other-word _ word.Get _ (λ e. let no : ⊥ = cc e in no) (other-word _ word.Put _ (λ e. let no : ⊥ = cc e in no)
    (other-word _ word.Del _ (λ e. let no : ⊥ = cc e in no) (other-word _ word.Scan _ (λ e. let no : ⊥ = cc e in no) (other-word _ word.Commit _ (λ e. let no : ⊥ = cc e in no)
    (other-word _ word.Rollback _ (λ e. let no : ⊥ = cc e in no) (other-word _ word.Gc _ (λ e. let no : ⊥ = cc e in no) (other-word _ word.Open _ (λ e. let no : ⊥ = cc e in no)
    (other-word _ word.Fetch _ (λ e. let no : ⊥ = cc e in no) (other-word _ word.Close None (λ e. let no : ⊥ = cc e in no) (λ e. let no : ⊥ = cc e in no)))))))))))

pub first-place : (place : ℕ) (r : Fields) → word_of place r ≡ Some word.Version → place ≡ 1
first-place place r e = cases (is_version place r)
    (λ k. let at = (and-parts (place == 1) (bytes_eq (nth r 0) (codes "version")) k).0 in grind (arith, nat_tests, at))
    (λ k. absurd (other-word _ word.Table _ (λ f. let no : ⊥ = cc f in no) (no-version (nth r 1)) (rw k at e)))

-- only the version record is read as one
version-alone : (version : ℕ) (tables : List Declaration) (w : Word) (r : Fields) (d : Natural) → draft_of version tables w r ≡ Version d → w ≡ word.Version
version-alone version tables word.Version r d e = refl
version-alone version tables word.Table r d e = absurd (let no : ⊥ = cc e in no)
version-alone version tables word.Begin r d e = absurd (let no : ⊥ = cc e in no)
version-alone version tables word.Get r d e = absurd (let no : ⊥ = cc e in no)
version-alone version tables word.Put r d e = absurd (let no : ⊥ = cc e in no)
version-alone version tables word.Del r d e = absurd (let no : ⊥ = cc e in no)
version-alone version tables word.Scan r d e = absurd (let no : ⊥ = cc e in no)
version-alone version tables word.Commit r d e = absurd (let no : ⊥ = cc e in no)
version-alone version tables word.Rollback r d e = absurd (let no : ⊥ = cc e in no)
version-alone version tables word.Gc r d e = absurd (let no : ⊥ = cc e in no)
version-alone version tables word.Open r d e = absurd (let no : ⊥ = cc e in no)
version-alone version tables word.Fetch r d e = absurd (let no : ⊥ = cc e in no)
version-alone version tables word.Close r d e = absurd (let no : ⊥ = cc e in no)

-- and nothing stands before it
pub record IsFirst (place : ℕ) (s : Script) : Type 0 where
  pub first : place ≡ 1
  pub records : s.records ≡ []
  pub tables : s.tables ≡ []

pub version-first : (place : ℕ) (s : Script) (w : Word) (r : Fields) (d : Natural) → word_of place r ≡ Some w → draft_of s.version s.tables w r ≡ Version d →
    place ≡ records_before s + length s.records + 1 → IsFirst place s
version-first place s w r d is e next =
    let at : place ≡ 1 = first-place place r (is ∙ ap Some (version-alone s.version s.tables w r d e)) in record {
      first = at;
      records = no-records s.records (records_before s) (omega (arith, next, at));
      tables = no-tables s.tables (if s.version == 1 then 0 else 1) (length s.records) (omega (arith, next, at));
    }

-- a record that is not one too many
room : (place : ℕ) (b : Bool) → (nat_lt MOST_RECORDS place || b) ≡ false → place ≤ MOST_RECORDS
room place b h = within-most place (or_parts _ b h).0

by-word : (place : ℕ) (s : Script) (r : Fields) (w : Word) → Grown place s → count_breaks place s.tables (Some w) ≡ false → (w ≡ word.Version → place ≡ 1)
    → Keeps s (draft_of s.version s.tables w r) → Grown (place + 1) (with_draft place s r (draft_of s.version s.tables w r))
by-word place s r word.Version g count first k =
    let lie = lies 2 2 (natural_of (nth r 1)) k.range in
    version-more place s (value_of (natural_of (nth r 1))) g (first refl) (omega (arith, lie.some, lie.most))
by-word place s r word.Table g count first k = declared-more place s (nth r 1) (nth r 2) g (room place _ count) (or_parts _ _ count).1 k
by-word place s r word.Begin g count first k =
    asked-more place s (natural_of (nth r 0)) (Begin (scope_named s.tables (drop 2 r))) g (room place _ count) k.range k.order (scope-fits s.tables (drop 2 r) k.name) tt
by-word place s r word.Get g count first k =
    asked-more place s (natural_of (nth r 0)) (Get (table_named s.tables (nth r 2)) (natural_of (nth r 3))) g (room place _ count) k.range k.order (among s.tables (nth r 2) k.name)
    (natural-fits (nth r 3))
by-word place s r word.Put g count first k =
    asked-more place s (natural_of (nth r 0)) (Put (table_named s.tables (nth r 2)) (natural_of (nth r 3))
    (values_by s.version (kinds_at s.tables (table_named s.tables (nth r 2))) (drop 4 r))) g (room place _ count) k.range k.order (
      among s.tables (nth r 2) k.name,
      row-fits s.version (kinds_at s.tables (table_named s.tables (nth r 2))) (drop 4 r)
          (λ one. numbers-at s.tables (unwrap_or (table_named s.tables (nth r 2)) first_table).0 (g.lawful.numbers one)) k.columns k.value,
    )
    (natural-fits (nth r 3), values-fit s.version (kinds_at s.tables (table_named s.tables (nth r 2))) (drop 4 r))
by-word place s r word.Del g count first k =
    asked-more place s (natural_of (nth r 0)) (Del (table_named s.tables (nth r 2)) (natural_of (nth r 3))) g (room place _ count) k.range k.order (among s.tables (nth r 2) k.name)
    (natural-fits (nth r 3))
by-word place s r word.Scan g count first k =
    asked-more place s (natural_of (nth r 0)) (Scan (table_named s.tables (nth r 2)) (natural_of (nth r 3)) (natural_of (nth r 4))) g (room place _ count) k.range k.order
    (among s.tables (nth r 2) k.name) (natural-fits (nth r 3), natural-fits (nth r 4))
by-word place s r word.Commit g count first k = asked-more place s (natural_of (nth r 0)) Commit g (room place _ count) k.range k.order tt tt
by-word place s r word.Rollback g count first k = asked-more place s (natural_of (nth r 0)) Rollback g (room place _ count) k.range k.order tt tt
by-word place s r word.Gc g count first k = asked-more place s (natural_of (nth r 0)) (Gc (kind_named (nth r 2))) g (room place _ count) k.range k.order tt tt
by-word place s r word.Open g count first k =
    asked-more place s (natural_of (nth r 0)) (CursorOpen (table_named s.tables (nth r 2)) (natural_of (nth r 3)) (natural_of (nth r 4))) g (room place _ count) k.range k.order
    (among s.tables (nth r 2) k.name) (natural-fits (nth r 3), natural-fits (nth r 4))
by-word place s r word.Fetch g count first k =
    let lie = lies 1 MOST_FETCHED (natural_of (nth r 2)) (or_parts _ _ k.range).1 in
    asked-more place s (natural_of (nth r 0)) (Fetch (natural_of (nth r 2))) g (room place _ count) k.range k.order tt (lie.some, lie.most)
by-word place s r word.Close g count first k = asked-more place s (natural_of (nth r 0)) CursorClose g (room place _ count) k.range k.order tt tt

by-words : (place : ℕ) (s : Script) (r : Fields) (w : Option Word) → Grown place s → count_breaks place s.tables w ≡ false → (w ≡ Some word.Version → place ≡ 1)
    → first_broken (drop 1 (code_table place s r w (option_map (λ word. draft_of s.version s.tables word r) w))) ≡ None
    → Grown (place + 1) (option_map_or (with_draft place s r) (option_map (λ word. draft_of s.version s.tables word r) w) s)
unfolding draft_code
by-words place s r None g count first e = absurd (let bad : ⊥ = cc e in bad)
by-words place s r (Some w) g count first e = by-word place s r w g count (λ is. first (ap Some is)) (keeps s (draft_of s.version s.tables w r) (no-code _ _ _ e).1)

one-more : (place : ℕ) (s : Script) (r : Fields) → Grown place s → first_code place s r ≡ None → Grown (place + 1) (with_row place s r)
unfolding first_code with_row
one-more place s r g e = let k = no-code _ _ _ e in by-words place s r (word_of place r) g k.0 (first-place place r) k.1

none-first : (place : ℕ) (o : Option Code) (next : Option (ℕ × Code)) → or_next place o next ≡ None → (o ≡ None) × (next ≡ None)
none-first place None next e = (refl, e)
none-first place (Some c) next e = absurd (let bad : ⊥ = cc e in bad)

lawful-from : (place : ℕ) (s : Script) (rows : List Fields) → Grown place s → refusal_from place s rows ≡ None → IsLawful (script_from place s rows)
unfolding refusal_from script_from
lawful-from place s [] g e = g.lawful
lawful-from place s (r ∷ rs) g e =
    let k = none-first _ _ _ e in lawful-from (place + 1) (with_row place s r) rs (one-more place s r g k.0) k.1

-- the script of records that break no rule
pub lawful : (rows : List Fields) → refusal_of rows ≡ None → IsLawful (script_of rows)
lawful rows e = lawful-from 1 nothing rows (record {
  lawful = record {
    version = inl refl;
    numbers = λ one. tt;
    most = omega arith;
    records = omega arith;
    tables = tt;
    names = none-twice;
    statements = tt;
    order = tt;
    places = tt;
  };
  many = omega arith;
  before = tt;
}) e
