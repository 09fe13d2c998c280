-- What the commits of a dump's puts write, and so what their history shows at its end.
use Rattle.std.proofs.Common.{◌≡◌, ◌⊎◌, inl, inr, ℕ, zero, suc, ◌+◌, ◌<◌, ◌≤◌, List, [], ◌∷◌, length, map, Bool, true, false, Option, Some, None, refl, sym, ap, ◌∙◌, subst, arith}
use Rattle.std.specs.Prelude.{◌==◌, filter, filter_map, option_map, nat_lt, if◌then◌else◌, IfSome}
use Rattle.std.specs.List.{cons_option}
use Rattle.std.specs.Option.{option_or}
use Rattle.std.proofs.lemmas.Bool.Decides.{Decides-eqb, nat_tests}
use Rattle.hg_base.specs.declared.image.Image.{Image}
use Rattle.hg_base.specs.declared.rid.Rid.{Rid}
use Rattle.hg_base.specs.declared.statement.Record.{Record}
use Rattle.hg_base.specs.declared.statement.Statement.{Statement}
use Rattle.hg_base.specs.declared.statement.Statement.TheVariants.{Put}
use Rattle.hg_base.specs.declared.line.Answer.{Answer}
use Rattle.hg_base.specs.declared.line.Answer.TheVariants.{Stored}
use Rattle.hg_base.specs.declared.line.Line.{Line}
use Rattle.hg_base.specs.declared.line.Reply.{Reply}
use Rattle.hg_base.specs.History.{Commit, Group, History, Write, group_image, image_in, last_image, same_rid, visible, writes_from}
use Rattle.hg_base.specs.Lists.{Each, numbers_from}
use Rattle.hg_base.specs.Transcript.{Said, commit_by, commits_from, committed, group_of, is_of, last_of, own_writes, put_by_session, said, said_from, stored, stored_by}
use Rattle.hg_base.proofs.ListFacts.{cases}
use Rattle.hg_core.proofs.Past.{last_image_is, visible_last}
use Rattle.hg_core.proofs.Updates.{each_last}
use Rattle.hg_headline.proofs.Same.{each_filter}
use Rattle.hg_headline.proofs.Whole.{said_says}
use Rattle.hg_headline.proofs.Words.{same_number}
use Rattle.hg_script.specs.Numbered.{numbered}
use Rattle.hg_dump.specs.Dumps.{put_of}
use Rattle.hg_dump.specs.Rows.{Kept}

abbrev pub row_image : Kept → Image
row_image kept = record { row = Some kept.row }

-- ---- what is written to a record is one image

module _ (r : Rid) (image : Image) where
  -- a write of the record has the image
  abbrev pub Fits : Write → Type 0
  Fits w = same_rid w.rid r ≡ true → w.image ≡ image

  abbrev pub FitsRow : Kept → Type 0
  FitsRow kept = same_rid kept.rid r ≡ true → row_image kept ≡ image

  abbrev FitsSaid : Said → Type 0
  FitsSaid s = IfSome (stored s) Fits

  abbrev FitsCommit : Commit → Type 0
  FitsCommit c = Each Fits c.images

  put_fits : (kept : Kept) (answer : Answer) → FitsRow kept → IfSome (stored_by (Put kept.rid kept.row) answer) Fits
  put_fits kept Stored f = f
  put_fits kept _ f = tt

  said_fits : (kept : Kept) (place : ℕ) (earlier : List Said) (reply : Reply) → FitsRow kept → FitsSaid (said earlier (record { place = place; session = 1; statement = Put kept.rid kept.row }) reply)
  said_fits kept place earlier reply f =
      let q : Record = record { place = place; session = 1; statement = Put kept.rid kept.row } in
      let is = said_says (last_of 1 earlier) q reply q.statement in
      subst (λ (p : Statement × Reply). IfSome (stored_by p.0 p.1.answer) Fits) (λ i. (sym is.1 i, sym is.2 i)) (put_fits kept reply.answer f)

  picked_fit : (xs : List Said) → Each FitsSaid xs → Each Fits (filter_map stored xs)
  picked_fit [] h = tt
  picked_fit (x ∷ xs) h = go (stored x) h.0 (picked_fit xs h.1)
    where
      go : (o : Option Write) → IfSome o Fits → Each Fits (filter_map stored xs) → Each Fits (cons_option o (filter_map stored xs))
      go None f k = k
      go (Some w) f k = (f, k)

  commit_fits : (earlier : List Said) (now : Said) → Each FitsSaid (now ∷ earlier) → FitsCommit (commit_by earlier now)
  commit_fits earlier now h = each_last Fits (own_writes (now ∷ earlier) now)
      (picked_fit (filter (is_of now.session now.transaction) (now ∷ earlier)) (each_filter FitsSaid (is_of now.session now.transaction) (now ∷ earlier) h))

  abbrev FitsPair : ℕ × Commit → Type 0
  FitsPair p = FitsCommit p.1

  pub commits_fit : (place : ℕ) (rows : List Kept) (lines : List Line) (earlier : List Said) → Each FitsRow rows → Each FitsSaid earlier →
      Each FitsPair (commits_from earlier (said_from earlier (numbered place (map put_of rows)) lines))
  commits_fit place [] lines earlier f h = tt
  commits_fit place (kept ∷ rows) [] earlier f h = tt
  commits_fit place (kept ∷ rows) (line ∷ lines) earlier f h =
      let now : Said = said earlier (record { place = place; session = 1; statement = Put kept.rid kept.row }) line.reply in
      let both : Each FitsSaid (now ∷ earlier) = (said_fits kept place earlier line.reply f.0, h) in
      go now (committed now) (commit_fits earlier now both) (commits_fit (place + 1) rows lines (now ∷ earlier) f.1 both)
    where
      go : (now : Said) (o : Option ℕ) → FitsCommit (commit_by earlier now) → Each FitsPair (commits_from (now ∷ earlier) (said_from (now ∷ earlier) (numbered (place + 1) (map put_of rows)) lines))
          → Each FitsPair (cons_option (option_map (λ c. (c, commit_by earlier now)) o) (commits_from (now ∷ earlier) (said_from (now ∷ earlier) (numbered (place + 1) (map put_of rows)) lines)))
      go now None c k = k
      go now (Some n) c k = (c, k)

  -- ---- in groups

  group_fits : (ps : List (ℕ × Commit)) (n : ℕ) → Each FitsPair ps → Each FitsCommit (group_of ps n)
  group_fits [] n h = tt
  group_fits (p ∷ ps) n h = go (p.0 == n) (group_fits ps n h.1)
    where
      put_fit : (g : Group) → FitsCommit p.1 → Each FitsCommit g → Each FitsCommit (put_by_session p.1 g)
      put_fit [] f k = (f, tt)
      put_fit (d ∷ ds) f k = order (nat_lt d.session p.1.session) (put_fit ds f k.1)
        where
          order : (b : Bool) → Each FitsCommit (put_by_session p.1 ds) → Each FitsCommit (if b then d ∷ put_by_session p.1 ds else p.1 ∷ d ∷ ds)
          order true later = (k.0, later)
          order false later = (f, k)

      go : (b : Bool) → Each FitsCommit (group_of ps n) → Each FitsCommit (if b then put_by_session p.1 (group_of ps n) else group_of ps n)
      go true k = put_fit (group_of ps n) h.0 k
      go false k = k

  -- the record has the image, or none
  abbrev IsOnly : Option Image → Type 0
  IsOnly o = (o ≡ None) ⊎ (o ≡ Some image)

  images_only : (ws : List Write) → Each Fits ws → IsOnly (image_in r ws)
  images_only [] h = inl refl
  images_only (w ∷ ws) h = cases (same_rid w.rid r)
      (λ e. inr (ap (λ b. if b then Some w.image else image_in r ws) e ∙ ap Some (h.0 e)))
      (λ e. subst IsOnly (sym (ap (λ b. if b then Some w.image else image_in r ws) e)) (images_only ws h.1))

  group_only : (g : Group) → Each FitsCommit g → IsOnly (group_image r g)
  group_only [] h = inl refl
  group_only (c ∷ cs) h = go (image_in r c.images) (images_only c.images h.0) (group_only cs h.1)
    where
      go : (o : Option Image) → IsOnly o → IsOnly (group_image r cs) → IsOnly (option_or o (group_image r cs))
      go None e k = k
      go (Some i) e k = e

  abbrev IsImage : ℕ × Image → Type 0
  IsImage w = w.1 ≡ image

  pub writes_only : (ps : List (ℕ × Commit)) (first many : ℕ) → Each FitsPair ps → Each IsImage (writes_from first (map (group_of ps) (numbers_from first many)) r)
  writes_only ps first zero h = tt
  writes_only ps first (suc many) h = go (group_image r (group_of ps first)) (group_only (group_of ps first) (group_fits ps first h)) (writes_only ps (suc first) many h)
    where
      go : (o : Option Image) → IsOnly o → Each IsImage (writes_from (suc first) (map (group_of ps) (numbers_from (suc first) many)) r)
          → Each IsImage (cons_option (option_map (λ i. (first, i)) o) (writes_from (suc first) (map (group_of ps) (numbers_from (suc first) many)) r))
      go None e k = k
      go (Some i) (inl e) k = absurd (let bad : ⊥ = cc in bad)
      go (Some i) (inr e) k = (some_same e, k)
        where
          some_same : Some i ≡ Some image → i ≡ image
          some_same q = cc

  pub last_only : (ws : List (ℕ × Image)) → Each IsImage ws → (last_image ws ≡ image) ⊎ (ws ≡ [])
  last_only [] h = inr refl
  last_only (w ∷ []) h = inl h.0
  last_only (w ∷ v ∷ ws) h = go (last_only (v ∷ ws) h.1)
    where
      go : (last_image (v ∷ ws) ≡ image) ⊎ ((v ∷ ws) ≡ []) → (last_image (v ∷ ws) ≡ image) ⊎ ((w ∷ v ∷ ws) ≡ [])
      go (inl e) = inl e
      go (inr e) = absurd (let bad : ⊥ = cc in bad)

-- ---- what the history shows at its end

pub at_end : (h : History) (r : Rid) → visible h r (length h) ≡ last_image (writes_from 1 h r)
at_end h r = visible_last h r (length h) (omega arith) ∙ sym (last_image_is (writes_from 1 h r))

-- where nothing is written
abbrev pub from_group : List (ℕ × Commit) → Rid → ℕ → ℕ → List (ℕ × Image)
from_group ps r first many = writes_from first (map (group_of ps) (numbers_from first many)) r

first_none : (first : ℕ) (o : Option Image) (ws : List (ℕ × Image)) → cons_option (option_map (λ i. (first, i)) o) ws ≡ [] → (o ≡ None) × (ws ≡ [])
first_none first None ws q = (refl, q)
first_none first (Some i) ws q = absurd (let bad : ⊥ = cc in bad)

pub no_writes : (ps : List (ℕ × Commit)) (r : Rid) (first many : ℕ) → from_group ps r first many ≡ [] → (n : ℕ) → first ≤ n → n < first + many → group_image r (group_of ps n) ≡ None
no_writes ps r first zero e n low high = absurd (omega (arith, low, high))
no_writes ps r first (suc many) e n low high =
    let both = first_none first (group_image r (group_of ps first)) (from_group ps r (suc first) many) e in
    cases (first == n)
    (λ same. let here : first ≡ n = (Decides-eqb first n).0 same in subst (λ m. group_image r (group_of ps m) ≡ None) here both.0)
    (λ other. let more : suc first ≤ n = grind (arith, nat_tests, other, low) in no_writes ps r (suc first) many both.1 n more (omega (arith, high)))

-- what holds of each commit of the groups holds of each commit
pub in_groups : (Q : Commit → Type 0) (In : ℕ → Type 0) (ps : List (ℕ × Commit)) → ((n : ℕ) → In n → Each Q (group_of ps n)) → Each (λ p. In p.0) ps → Each (λ p. Q p.1) ps
in_groups Q In [] f h = tt
in_groups Q In (p ∷ ps) f h = (
  first_in (group_of ps p.0) (subst (λ b. Each Q (if b then put_by_session p.1 (group_of ps p.0) else group_of ps p.0)) (same_number p.0) (f p.0 h.0)),
  in_groups Q In ps (λ n i. less n (p.0 == n) (f n i)) h.1,
)
  where
    split : (g : Group) → Each Q (put_by_session p.1 g) → Q p.1 × Each Q g
    split [] k = (k.0, tt)
    split (d ∷ ds) k = order (nat_lt d.session p.1.session) k (λ q. split ds q)
      where
        order : (b : Bool) → Each Q (if b then d ∷ put_by_session p.1 ds else p.1 ∷ d ∷ ds) → (Each Q (put_by_session p.1 ds) → Q p.1 × Each Q ds) → Q p.1 × Each Q (d ∷ ds)
        order true q later = ((later q.1).0, (q.0, (later q.1).1))
        order false q later = (q.0, q.1)

    first_in : (g : Group) → Each Q (put_by_session p.1 g) → Q p.1
    first_in g k = (split g k).0

    less : (n : ℕ) (b : Bool) → Each Q (if b then put_by_session p.1 (group_of ps n) else group_of ps n) → Each Q (group_of ps n)
    less n true k = (split (group_of ps n) k).1
    less n false k = k
