-- A number that stands for an option passed the parser that the command has for it, so it lies in the option's range.
use Rattle.std.proofs.Common.{◌≡◌, ◌∙◌, ◌^◌, ◌<◌, ◌≤◌, ◌&&◌, ℕ, zero, suc, Bool, true, false, sym, refl, ap, subst, Option, Some, None, inl, inr, arith, List, [], ◌∷◌, length, map, nat_lt, codes}
use Rattle.std.proofs.lemmas.List.{length-map}
use Rattle.std.proofs.lemmas.List.Elements.{All-get_or}
use Rattle.std.proofs.lemmas.Slice.Eq.{bytes_eq-Decides}
use Rattle.std.specs.Borrow.{Bor}
use Rattle.std.specs.List.{All, list_all, slice_index_or}
use Rattle.std.specs.Prelude.{cond, option_and_then, option_map, slice_get}
use Rattle.std.specs.Str.{bytes_eq}
use Rattle.std.specs.Str.Parse.{digits_value, without_leading_plus}
use Rattle.clap.specs.Facts.{args_of, groups_of, parser_of, parser_of_value, EntryPasses, PassesArg, HasReading}
use Rattle.clap.specs.Built.{IsParsedFrom, IsAuto}
use Rattle.clap.specs.Matches.{found_of, matched_of, one_text}
use Rattle.clap.specs.ValueTests.{is_numeral}
use Rattle.clap.specs.Values.{Accepts, IsUnsignedIn, read_as, reading_of}
use Rattle.clap.specs.Walk.{Rule, Text, one_of, rows_of, rule_of}
use Rattle.clap.specs.Simple.{App, app_of}
use Rattle.clap.specs.declared.builder.arg.Arg.{Arg}
use Rattle.clap.specs.declared.builder.command.Command.{Command}
use Rattle.clap.specs.declared.builder.value_parser.Reading.{Reading}
use Rattle.clap.specs.declared.builder.value_parser.Reading.TheVariants as reading
use Rattle.clap.specs.declared.builder.value_parser.ValueParser.{ValueParser}
use Rattle.clap.specs.declared.builder.value_parser.ValueParser.TheVariants as vp
use Rattle.clap.specs.declared.parser.matches.ArgMatches.{ArgMatches}
use Rattle.clap.specs.declared.parser.matches.MatchedArg.{MatchedArg}
use Rattle.clap.proofs.CallerLemmas.{entry_by_id, same_rules_by_id}
use Rattle.clap.proofs.SimpleLemmas.{plain_fields, simple_groups}
use Rattle.clap.proofs.WalkLemmas.{one_text-rows}
use Rattle.hg_words.specs.declared.options.Options.{Options}
use Rattle.hg_words.specs.declared.options.Command.{Command as Asked}
use Rattle.hg_words.specs.Line.{command_line}
use Rattle.hg_words.specs.Options.{AreWithin, command_in, named_number, number_of, options_in, options_of_all}

false_true : false ≡ true → ⊥
false_true e = cc

none_some : {X : Type 0} (x : X) → None ≡ Some x → ⊥
none_some x e = cc

apart : (a b : Text) → bytes_eq a b ≡ false → a ≡ b → ⊥
apart a b e same = false_true (sym e ∙ (bytes_eq-Decides a b).1 same)

-- ---- a list by its places

at_map : {X Y : Type 0} (f : X → Y) (xs : List X) (k : ℕ) (d : X) → slice_index_or (map f xs) k (f d) ≡ f (slice_index_or xs k d)
at_map f [] k d = refl
at_map f (x ∷ xs) zero d = refl
at_map f (x ∷ xs) (suc k) d = at_map f xs k d

rules : List Rule
rules = command_line.top.rules

-- the place of an option among the command's rules
record StandsAt (k : ℕ) (name : Text) (low high : ℕ) : Type 0 where
  within : k < 6
  here : (d : Rule) → (slice_index_or rules k d).id ≡ name
  parser : (d : Rule) → (slice_index_or rules k d).parser ≡ Some (vp.Unsigned low high)
  alone : (j : ℕ) (d : Rule) → j < 6 → bytes_eq (slice_index_or rules j d).id name ≡ true → j ≡ k
  named : name ≡ [] → ⊥
  own : (name ≡ codes "help" → ⊥) × (name ≡ codes "version" → ⊥)

module _ (old : Command) (m : ArgMatches) (app : app_of old ≡ command_line) (p : IsParsedFrom old m) where
  are : map rule_of (args_of old) ≡ rules
  unfolding rules
  are = ap (λ (a : App). a.top.rules) app

  six : length (args_of old) ≡ 6
  unfolding rules
  six = sym (length-map (args_of old) rule_of) ∙ ap length are

  rule_at : (k : ℕ) (d : Arg) → rule_of (slice_index_or (args_of old) k d) ≡ slice_index_or rules k (rule_of d)
  rule_at k d = sym (at_map rule_of (args_of old) k d) ∙ ap (λ rs. slice_index_or rs k (rule_of d)) are

  no_groups : groups_of p.built ≡ []
  no_groups =
      (p.from.same_groups (simple_groups old (ap (λ (a : App). list_of a) app))).1 ∙ (plain_fields old (ap (λ (a : App). a.top.is_plain) app)).groups
    where
      list_of : App → Bool
      list_of a = list_all (λ (r : Rule). r.is_simple) a.top.rules

  module _ (k : ℕ) (name : Text) (low high : ℕ) (stands : StandsAt k name low high) where
    id_at : (d : Arg) → (slice_index_or (args_of old) k d).id.now ≡ name
    id_at d = ap (λ (r : Rule). r.id) (rule_at k d) ∙ stands.here (rule_of d)

    parser_at : (d : Arg) → (slice_index_or (args_of old) k d).value_parser ≡ Some (vp.Unsigned low high)
    parser_at d = ap (λ (r : Rule). r.parser) (rule_at k d) ∙ stands.parser (rule_of d)

    one : (d : Arg) (j : ℕ) (e : Arg) → j < length (args_of old) → bytes_eq (slice_index_or (args_of old) j e).id.now (slice_index_or (args_of old) k d).id.now ≡ true → j ≡ k
    one d j e lt same =
        let id : (slice_index_or (args_of old) j e).id.now ≡ (slice_index_or rules j (rule_of e)).id = ap (λ (r : Rule). r.id) (rule_at j e) in
        stands.alone j (rule_of e) (omega (arith, lt, six)) (subst (λ (t : Text). bytes_eq t name ≡ true) id
        (subst (λ (t : Text). bytes_eq (slice_index_or (args_of old) j e).id.now t ≡ true) (id_at d) same))

    none_auto : (d : Arg) → IsAuto (slice_index_or (args_of old) k d) → ⊥
    none_auto d (inl h) = stands.own.0 (sym (id_at d) ∙ h)
    none_auto d (inr h) = stands.own.1 (sym (id_at d) ∙ h)

    -- an argument of the name has the option's parser
    has_parser : (j : ℕ) (x : Arg) → j < length (args_of p.built) → slice_index_or (args_of p.built) j x ≡ x → bytes_eq x.id.now name ≡ true → parser_of x ≡ vp.Unsigned low high
    has_parser j x lt at same =
        let s = same_rules_by_id old m p k x (omega (arith, stands.within, six)) (one x) (none_auto x) j x lt at (subst (λ (t : Text). bytes_eq x.id.now t ≡ true) (sym (id_at x)) same) in
        ap parser_of_value (s.parser (vp.Unsigned low high) (parser_at x))

    accepted : (v : Text) → PassesArg p.built name v → IsUnsignedIn low high v
    accepted v any = subst (λ (q : ValueParser). Accepts any.1.ignore_case q v) (has_parser any.0 any.1 any.2 any.3 any.4.0) any.4.1

    as_written : (r : Reading) → HasReading p.built name r → r ≡ reading.AsWritten
    as_written r any = sym any.4.1 ∙ ap reading_of (has_parser any.0 any.1 any.2 any.3 any.4.0)

    first_of_all : (how : Reading) (vs : List (Bor (List ℕ))) (t : Text) → how ≡ reading.AsWritten → All (λ v. PassesArg p.built name v.now) vs →
        option_map (λ s. read_as how s.now) (slice_get vs 0) ≡ Some t → IsUnsignedIn low high t
    first_of_all how [] t is all e = absurd (none_some t e)
    first_of_all how (v ∷ vs) t is all e =
        let same : Some v.now ≡ Some t = sym (ap (λ (r : Reading). Some (read_as r v.now)) is) ∙ e in
        let text : v.now ≡ t = ap (λ o. option_or_empty o) same in
        subst (IsUnsignedIn low high) text (accepted v.now (All-get_or (λ v. PassesArg p.built name v.now) (v ∷ vs) 0 v (omega arith) all))
      where
        option_or_empty : Option Text → Text
        option_or_empty None = []
        option_or_empty (Some t) = t

    passed : (t : Text) → one_text (found_of m) name ≡ Some t → IsUnsignedIn low high t
    passed t e = go (matched_of (found_of m) name) refl e
      where
        go : (o : Option MatchedArg) → matched_of (found_of m) name ≡ o →
            option_and_then (λ (a : MatchedArg). option_map (λ s. read_as a.reading s.now) (slice_get a.vals.items 0)) o ≡ Some t → IsUnsignedIn low high t
        go None is e = absurd (none_some t e)
        go (Some x) is e =
            let parsed = p.parsed (p.from.globals ∙ (plain_fields old (ap (λ (a : App). a.top.is_plain) app)).globals) in
            let got = entry_by_id (EntryPasses p.built) (found_of m).entries.items name x parsed.values is in
            let key : got.0.0.now ≡ name = (bytes_eq-Decides got.0.0.now name).0 got.2 in
            let ungrouped : got.0.1.is_group ≡ true → ⊥ = λ g. elim (got.3.3 g) [
              | inl empty ↦ stands.named (sym key ∙ empty)
              | inr lots ↦ omega (arith, lots, ap length no_groups)
            ] in
            let all : All (λ v. PassesArg p.built got.0.0.now v.now) got.0.1.vals.items = elim got.3.0 [
              | inl g ↦ absurd (ungrouped g)
              | inr vals ↦ vals
            ] in
            let how : got.0.1.reading ≡ reading.AsWritten = elim got.3.4 [
              | inl g ↦ absurd (ungrouped g)
              | inr h ↦ as_written got.0.1.reading (subst (λ (t : Text). HasReading p.built t got.0.1.reading) key h)
            ] in
            first_of_all x.reading x.vals.items t (sym (ap (λ (y : MatchedArg). y.reading) got.1) ∙ how)
            (subst (λ (y : MatchedArg). All (λ v. PassesArg p.built name v.now) y.vals.items) got.1 (subst (λ (t : Text). All (λ v. PassesArg p.built t v.now) got.0.1.vals.items) key all)) e

    is_value : (bits n : ℕ) (t : Text) → number_of bits t ≡ Some n → digits_value 10 (without_leading_plus t) ≡ n
    is_value bits n t e = go (is_numeral (without_leading_plus t) && nat_lt (digits_value 10 (without_leading_plus t)) (2 ^ bits)) e
      where
        number_or : Option ℕ → ℕ
        number_or None = 0
        number_or (Some n) = n

        go : (b : Bool) → cond b (Some (digits_value 10 (without_leading_plus t))) None ≡ Some n → digits_value 10 (without_leading_plus t) ≡ n
        go true e = ap number_or e
        go false e = absurd (none_some n e)

    in_range : (bits n : ℕ) → named_number bits name (rows_of (found_of m)) ≡ Some n → (low ≤ n) × (n ≤ high)
    in_range bits n e = go (one_of name (rows_of (found_of m))) refl e
      where
        go : (o : Option Text) → one_of name (rows_of (found_of m)) ≡ o → option_and_then (number_of bits) o ≡ Some n → (low ≤ n) × (n ≤ high)
        go None is e = absurd (none_some n e)
        go (Some t) is e =
            let k = passed t (one_text-rows (found_of m) name ∙ is) in
            let value = is_value bits n t e in
            (subst (λ n. low ≤ n) value k.2, subst (λ n. n ≤ high) value k.3)

-- ---- the four options

buckets_stand : StandsAt 2 (codes "buckets") 1 1024
unfolding rules
buckets_stand = record {
  within = omega arith;
  here = λ d. refl;
  parser = λ d. refl;
  alone = alone;
  named = apart (codes "buckets") [] refl;
  own = (apart (codes "buckets") (codes "help") refl, apart (codes "buckets") (codes "version") refl);
}
  where
    alone : (j : ℕ) (d : Rule) → j < 6 → bytes_eq (slice_index_or rules j d).id (codes "buckets") ≡ true → j ≡ 2
    alone zero d lt e = absurd (false_true e)
    alone (suc zero) d lt e = absurd (false_true e)
    alone (suc (suc zero)) d lt e = refl
    alone (suc (suc (suc zero))) d lt e = absurd (false_true e)
    alone (suc (suc (suc (suc zero)))) d lt e = absurd (false_true e)
    alone (suc (suc (suc (suc (suc zero))))) d lt e = absurd (false_true e)
    alone (suc (suc (suc (suc (suc (suc j)))))) d lt e = absurd (omega (arith, lt))

long_stands : StandsAt 3 (codes "long") 1 1048576
unfolding rules
long_stands = record {
  within = omega arith;
  here = λ d. refl;
  parser = λ d. refl;
  alone = alone;
  named = apart (codes "long") [] refl;
  own = (apart (codes "long") (codes "help") refl, apart (codes "long") (codes "version") refl);
}
  where
    alone : (j : ℕ) (d : Rule) → j < 6 → bytes_eq (slice_index_or rules j d).id (codes "long") ≡ true → j ≡ 3
    alone zero d lt e = absurd (false_true e)
    alone (suc zero) d lt e = absurd (false_true e)
    alone (suc (suc zero)) d lt e = absurd (false_true e)
    alone (suc (suc (suc zero))) d lt e = refl
    alone (suc (suc (suc (suc zero)))) d lt e = absurd (false_true e)
    alone (suc (suc (suc (suc (suc zero))))) d lt e = absurd (false_true e)
    alone (suc (suc (suc (suc (suc (suc j)))))) d lt e = absurd (omega (arith, lt))

rounds_stand : StandsAt 4 (codes "rounds") 0 1000
unfolding rules
rounds_stand = record {
  within = omega arith;
  here = λ d. refl;
  parser = λ d. refl;
  alone = alone;
  named = apart (codes "rounds") [] refl;
  own = (apart (codes "rounds") (codes "help") refl, apart (codes "rounds") (codes "version") refl);
}
  where
    alone : (j : ℕ) (d : Rule) → j < 6 → bytes_eq (slice_index_or rules j d).id (codes "rounds") ≡ true → j ≡ 4
    alone zero d lt e = absurd (false_true e)
    alone (suc zero) d lt e = absurd (false_true e)
    alone (suc (suc zero)) d lt e = absurd (false_true e)
    alone (suc (suc (suc zero))) d lt e = absurd (false_true e)
    alone (suc (suc (suc (suc zero)))) d lt e = refl
    alone (suc (suc (suc (suc (suc zero))))) d lt e = absurd (false_true e)
    alone (suc (suc (suc (suc (suc (suc j)))))) d lt e = absurd (omega (arith, lt))

sweepers_stand : StandsAt 5 (codes "sweepers") 1 16
unfolding rules
sweepers_stand = record {
  within = omega arith;
  here = λ d. refl;
  parser = λ d. refl;
  alone = alone;
  named = apart (codes "sweepers") [] refl;
  own = (apart (codes "sweepers") (codes "help") refl, apart (codes "sweepers") (codes "version") refl);
}
  where
    alone : (j : ℕ) (d : Rule) → j < 6 → bytes_eq (slice_index_or rules j d).id (codes "sweepers") ≡ true → j ≡ 5
    alone zero d lt e = absurd (false_true e)
    alone (suc zero) d lt e = absurd (false_true e)
    alone (suc (suc zero)) d lt e = absurd (false_true e)
    alone (suc (suc (suc zero))) d lt e = absurd (false_true e)
    alone (suc (suc (suc (suc zero)))) d lt e = absurd (false_true e)
    alone (suc (suc (suc (suc (suc zero))))) d lt e = refl
    alone (suc (suc (suc (suc (suc (suc j)))))) d lt e = absurd (omega (arith, lt))

-- the numbers of options that there are
record HasNumbers (buckets long rounds sweepers : Option ℕ) (options : Options) : Type 0 where
  buckets_are : buckets ≡ Some options.buckets
  long_is : long ≡ Some options.long
  rounds_are : rounds ≡ Some options.rounds
  sweepers_are : sweepers ≡ Some options.sweepers

all_there : (command : Option Asked) (buckets long rounds sweepers : Option ℕ) (options : Options) → options_of_all command buckets long rounds sweepers ≡ Some options →
    HasNumbers buckets long rounds sweepers options
all_there (Some c) (Some b) (Some l) (Some r) (Some w) options e = record {
  buckets_are = ap (λ o. option_map (λ (x : Options). x.buckets) o) e;
  long_is = ap (λ o. option_map (λ (x : Options). x.long) o) e;
  rounds_are = ap (λ o. option_map (λ (x : Options). x.rounds) o) e;
  sweepers_are = ap (λ o. option_map (λ (x : Options). x.sweepers) o) e;
}
all_there None b l r w options e = absurd (none_some options e)
all_there (Some c) None l r w options e = absurd (none_some options e)
all_there (Some c) (Some b) None r w options e = absurd (none_some options e)
all_there (Some c) (Some b) (Some l) None w options e = absurd (none_some options e)
all_there (Some c) (Some b) (Some l) (Some r) None options e = absurd (none_some options e)

pub are_within : (old : Command) (m : ArgMatches) → app_of old ≡ command_line → IsParsedFrom old m → (options : Options) → options_in (rows_of (found_of m)) ≡ Some options → AreWithin options
are_within old m app p options e =
    let rows = rows_of (found_of m) in
    let all = all_there (command_in rows) (named_number 32 (codes "buckets") rows) (named_number 64 (codes "long") rows) (named_number 32 (codes "rounds") rows)
    (named_number 32 (codes "sweepers") rows) options e in
    let buckets = in_range old m app p 2 (codes "buckets") 1 1024 buckets_stand 32 options.buckets all.buckets_are in
    let long = in_range old m app p 3 (codes "long") 1 1048576 long_stands 64 options.long all.long_is in
    let rounds = in_range old m app p 4 (codes "rounds") 0 1000 rounds_stand 32 options.rounds all.rounds_are in
    let sweepers = in_range old m app p 5 (codes "sweepers") 1 16 sweepers_stand 32 options.sweepers all.sweepers_are in
    record { some_buckets = buckets.0; most_buckets = buckets.1; some_long = long.0; most_long = long.1; most_rounds = rounds.1; some_sweepers = sweepers.0; most_sweepers = sweepers.1 }
