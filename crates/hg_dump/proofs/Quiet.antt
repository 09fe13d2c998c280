-- Lines that are in none of the lists which the definitions make of all lines.
use Rattle.std.proofs.Common.{◌≡◌, ℕ, List, [], ◌∷◌, ◌++◌, Bool, true, false, Option, Some, None, refl, sym, ap, ◌∙◌, arith}
use Rattle.std.specs.Prelude.{◌||◌, cond, filter, filter_map, sum_by}
use Rattle.std.specs.List.{cons_option, list_any}
use Rattle.std.proofs.lemmas.List.Elements.{filter-append, filter_map-append}
use Rattle.std.proofs.lemmas.List.Sums.{sum_by-cons}
use Rattle.hg_base.specs.declared.line.Answer.TheVariants.{Begun, Ended}
use Rattle.hg_base.specs.declared.scope.Scope.TheVariants.{All}
use Rattle.hg_base.specs.declared.report.Kind.{Kind}
use Rattle.hg_base.specs.declared.statement.Record.{Record}
use Rattle.hg_base.specs.declared.statement.Statement.{Statement}
use Rattle.hg_base.specs.declared.statement.Statement.TheVariants.{Begin, Commit as CommitIt, Gc}
use Rattle.hg_base.specs.declared.line.Line.{Line}
use Rattle.hg_base.specs.declared.line.Reply.{Reply}
use Rattle.hg_base.specs.Lists.{Each}
use Rattle.hg_base.specs.Shape.{report_of}
use Rattle.hg_base.specs.Transcript.{Said, committed, last_of, next_after, open_after, said, said_after, said_from, standing, stored}
use Rattle.hg_headline.proofs.Whole.{said_says}
use Rattle.hg_headline.proofs.Words.{any_append}
use Rattle.hg_dump.specs.Reader.{answered, asked, read_lines, read_records}
use Rattle.hg_dump.proofs.Silent.{IsRound}

-- ---- lines that are in none of the lists which the definitions make

-- of session j, which stores and commits nothing, and reports nothing
pub record IsSilent (j : ℕ) (s : Said) : Type 0 where
  pub session : s.session ≡ j
  pub writes : stored s ≡ None
  pub commits : committed s ≡ None
  pub reports : report_of s.reply ≡ None

module _ {X Y : Type 0} where
  -- an element that is not picked, wherever it stands
  picked_none : (f : X → Option Y) (p : X → Bool) (xs : List X) → Each (λ x. f x ≡ None) xs → filter_map f (filter p xs) ≡ []
  picked_none f p [] h = refl
  picked_none f p (x ∷ xs) h = go (p x) (picked_none f p xs h.1)
    where
      go : (b : Bool) → filter_map f (filter p xs) ≡ [] → filter_map f (cond b (x ∷ filter p xs) (filter p xs)) ≡ []
      go true e = ap (λ o. cons_option o (filter_map f (filter p xs))) h.0 ∙ e
      go false e = e

  pub picked_between : (f : X → Option Y) (p : X → Bool) (xs ys zs : List X) → Each (λ y. f y ≡ None) ys → filter_map f (filter p (xs ++ (ys ++ zs))) ≡ filter_map f (filter p (xs ++ zs))
  picked_between f p xs ys zs h =
      ap (filter_map f) (filter-append p xs (ys ++ zs)) ∙ filter_map-append f (filter p xs) (filter p (ys ++ zs))
      ∙ ap (λ l. filter_map f (filter p xs) ++ l) (ap (filter_map f) (filter-append p ys zs) ∙ filter_map-append f (filter p ys) (filter p zs) ∙
      ap (λ l. l ++ filter_map f (filter p zs)) (picked_none f p ys h))
      ∙ sym (ap (filter_map f) (filter-append p xs zs) ∙ filter_map-append f (filter p xs) (filter p zs))

-- ---- the reader's lines, and the collectors'

silent_end : (j : ℕ) (o : Option Said) (next : ℕ) → IsSilent j (standing o next (asked j CommitIt) (answered j Ended).reply)
silent_end j None next = record { session = refl; writes = refl; commits = refl; reports = refl }
silent_end j (Some opened) next = record { session = refl; writes = refl; commits = refl; reports = refl }

pub reader_silent : (j : ℕ) (ats : List ℕ) (earlier : List Said) → Each (IsSilent j) (said_from earlier (read_records j ats) (read_lines j ats))
reader_silent j [] earlier = tt
reader_silent j (at ∷ ats) earlier =
    let first : Said = said earlier (asked j (Begin All)) (answered j (Begun at)).reply in
    let last : Option Said = last_of j (first ∷ earlier) in
    (record { session = refl; writes = refl; commits = refl; reports = refl }, (silent_end j (open_after last) (next_after last), reader_silent j ats _))

-- what a collector's line is
pub record IsCollecting (s : Said) : Type 0 where
  pub session : s.session ≡ 0
  pub kind : Kind
  pub statement : s.statement ≡ Gc kind

pub rounds_collect : (earlier : List Said) (rs : List Record) (lines : List Line) → Each IsRound rs → Each IsCollecting (said_from earlier rs lines)
rounds_collect earlier [] lines h = tt
rounds_collect earlier (r ∷ rs) [] h = tt
rounds_collect earlier (r ∷ rs) (line ∷ lines) h =
    let is = said_says (last_of r.session earlier) r line.reply r.statement in
    (record { session = is.0 ∙ h.0.0; kind = h.0.1.0; statement = is.1 ∙ h.0.1.1 }, rounds_collect (said earlier r line.reply ∷ earlier) rs lines h.1)

-- it does not depend on the lines before
round_same : (r : Record) (reply : Reply) (a b : Option Said) (s : Statement) (kind : Kind) → s ≡ Gc kind → said_after a r reply s ≡ said_after b r reply s
round_same r reply a b s kind e = ap (said_after a r reply) e ∙ sym (ap (said_after b r reply) e)

pub rounds_same : (a b : List Said) (rs : List Record) (lines : List Line) → Each IsRound rs → said_from a rs lines ≡ said_from b rs lines
rounds_same a b [] lines h = refl
rounds_same a b (r ∷ rs) [] h = refl
rounds_same a b (r ∷ rs) (line ∷ lines) h =
    let here : said a r line.reply ≡ said b r line.reply = round_same r line.reply (last_of r.session a) (last_of r.session b) r.statement h.0.1.0 h.0.1.1 in
    λ i. here i ∷ rounds_same (said a r line.reply ∷ a) (said b r line.reply ∷ b) rs lines h.1 i

-- ---- lists

pub any_between : {X : Type 0} (p : X → Bool) (xs ys zs : List X) → list_any p ys ≡ false → list_any p (xs ++ (ys ++ zs)) ≡ list_any p (xs ++ zs)
any_between p xs ys zs e = any_append p xs (ys ++ zs) ∙ ap (λ b. list_any p xs || b) (any_append p ys zs ∙ ap (λ b. b || list_any p zs) e) ∙ sym (any_append p xs zs)

pub sum_none : {X : Type 0} (f : X → ℕ) (xs : List X) → Each (λ x. f x ≡ 0) xs → sum_by f xs ≡ 0
sum_none f [] h = refl
sum_none f (x ∷ xs) h = let here = h.0 in let rest = sum_none f xs h.1 in let all = sum_by-cons f x xs in omega (arith, here, rest, all)
