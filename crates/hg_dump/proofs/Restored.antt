-- A replay of a dump shows the snapshot again.
use Rattle.std.proofs.Common.{◌≡◌, ◌⊎◌, inl, inr, ℕ, suc, ◌+◌, ◌<◌, ◌≤◌, List, [], ◌∷◌, length, map, true, Option, Some, None, refl, sym, ap, ◌∙◌, subst, arith}
use Rattle.std.specs.Prelude.{cond, filter, filter_map, if◌then◌else◌, is_some, not, option_map, Contains, IsFalse, IsTrue}
use Rattle.std.specs.List.{cons_option}
use Rattle.hg_base.specs.declared.image.Image.{Image}
use Rattle.hg_base.specs.declared.rid.Rid.{Rid}
use Rattle.hg_base.specs.declared.value.Value.{Value}
use Rattle.hg_base.specs.declared.statement.Record.{Record}
use Rattle.hg_base.specs.declared.statement.Statement.TheVariants.{Put}
use Rattle.hg_base.specs.declared.line.Answer.{Answer}
use Rattle.hg_base.specs.declared.line.Answer.TheVariants.{Stored}
use Rattle.hg_base.specs.declared.line.Line.{Line}
use Rattle.hg_base.specs.History.{Commit, History, Write, image_in, last_image, nothing, same_rid, visible}
use Rattle.hg_base.specs.Lists.{Each}
use Rattle.hg_base.specs.Script.{Script, replay}
use Rattle.hg_base.specs.Shape.{HasShape}
use Rattle.hg_base.specs.Sound.{LinesAreSound, all_said}
use Rattle.hg_base.specs.Transcript.{Said, commit_by, commits, commits_from, committed, greatest_commit, group_of, history_of, is_of, last_images, last_of, next_after, own_writes, said}
use Rattle.hg_base.specs.Transcript.{said_from, standing, stored}
use Rattle.hg_base.proofs.Growth.{commits_below}
use Rattle.hg_base.proofs.HistoryFacts.{same_rid_equal, same_rid_itself}
use Rattle.hg_base.proofs.ListFacts.{each_at, each_keeps}
use Rattle.hg_headline.proofs.Same.{no_images}
use Rattle.hg_headline.proofs.Words.{each_pairs, same_number, true_false}
use Rattle.hg_script.specs.Fields.{rows_of}
use Rattle.hg_script.specs.Lawful.{IsLawful}
use Rattle.hg_script.specs.Meaning.{script_of}
use Rattle.hg_script.specs.Numbered.{numbered, records_before}
use Rattle.hg_dump.specs.Dumps.{IsReadable, dump_of, put_of, putting}
use Rattle.hg_dump.specs.Rows.{AreRowsAt, Kept, is_declared, rows_at}
use Rattle.hg_dump.proofs.ReadBack.{same}
use Rattle.hg_dump.proofs.RowsShown.{is_the_list}
use Rattle.hg_dump.specs.Records.{dump_text}
use Rattle.hg_dump.proofs.Images.{FitsRow, at_end, commits_fit, from_group, in_groups, last_only, no_writes, row_image, writes_only}
use Rattle.hg_dump.proofs.Stored.{HasStored, IsAlone, all_stored, none_opened}

-- ---- a row that is put is in a commit

abbrev put_at : ℕ → Kept → Record
put_at place kept = record { place = place; session = 1; statement = Put kept.rid kept.row }

module _ (r : Rid) where
  abbrev Without : ℕ × Commit → Type 0
  Without p = image_in r p.1.images ≡ None

  abbrev IsOther : Kept → Type 0
  IsOther kept = same_rid kept.rid r ≡ true → ⊥

  -- the commit of a put that is stored
  commit_image : (earlier : List Said) (next place : ℕ) (kept : Kept) (at number : Option ℕ) → same_rid kept.rid r ≡ true
      → let now : Said = standing None next (put_at place kept) (record { at = at; answer = Stored; number = number }) in image_in r (commit_by earlier now).images ≡ Some (row_image kept)
  commit_image earlier next place kept at number same =
      let now : Said = standing None next (put_at place kept) (record { at = at; answer = Stored; number = number }) in
      let w : Write = record { rid = kept.rid; image = row_image kept } in
      ap (λ b. image_in r (last_images (filter_map stored (cond b (now ∷ filter (is_of 1 next) earlier) (filter (is_of 1 next) earlier))))) (same_number next)
      ∙ ap (λ b. if b then Some w.image else image_in r (filter (λ v. not (same_rid w.rid v.rid)) (last_images (own_writes earlier now)))) same

  has_commit : (earlier : List Said) (next place : ℕ) (kept : Kept) (at : Option ℕ) (answer : Answer) (number : Option ℕ) (more : List (ℕ × Commit)) → answer ≡ Stored → is_some number ≡ true
      → let now : Said = standing None next (put_at place kept) (record { at = at; answer = answer; number = number }) in
      Each Without (cons_option (option_map (λ c. (c, commit_by earlier now)) number) more) → IsOther kept × Each Without more
  has_commit earlier next place kept at answer None more e some h = absurd (true_false (sym some))
  has_commit earlier next place kept at answer (Some c) more e some h =
      let with_answer : Each Without ((c, commit_by earlier (standing None next (put_at place kept) (record { at = at; answer = Stored; number = Some c }))) ∷ more) =
      subst (λ a. Each Without ((c, commit_by earlier (standing None next (put_at place kept) (record { at = at; answer = a; number = Some c }))) ∷ more)) e h in
      (λ same. none_some (sym with_answer.0 ∙ commit_image earlier next place kept at (Some c) same), with_answer.1)
    where
      none_some : None ≡ Some (row_image kept) → ⊥
      none_some q = cc

  -- so a record that no commit writes is none of them
  none_kept : (place : ℕ) (rows : List Kept) (lines : List Line) (earlier : List Said) → Each IsAlone earlier → HasShape (numbered place (map put_of rows)) lines → Each HasStored lines
      → Each Without (commits_from earlier (said_from earlier (numbered place (map put_of rows)) lines)) → Each IsOther rows
  none_kept place [] lines earlier alone shape stored h = tt
  none_kept place (kept ∷ rows) [] earlier alone shape stored h = absurd shape
  none_kept place (kept ∷ rows) (line ∷ lines) earlier alone shape stored h =
      let last : Option Said = last_of 1 earlier in
      let now : Said = said earlier (put_at place kept) line.reply in
      let is : now ≡ standing None (next_after last) (put_at place kept) line.reply = ap (λ o. standing o (next_after last) (put_at place kept) line.reply) (none_opened 1 earlier alone) in
      let more : List (ℕ × Commit) = commits_from (now ∷ earlier) (said_from (now ∷ earlier) (numbered (place + 1) (map put_of rows)) lines) in
      let both = has_commit earlier (next_after last) place kept line.reply.at line.reply.answer line.reply.number more stored.0.0 stored.0.1
      (subst (λ (x : Said). Each Without (cons_option (option_map (λ c. (c, commit_by earlier x)) (committed x)) more)) is h) in
      (both.0, none_kept (place + 1) rows lines (now ∷ earlier) (ap (λ (x : Said). x.alone) is, alone) shape.1 stored.1 both.1)

-- ---- the whole

module _ (script : Script) (h : History) (s : ℕ) (lines : List Line) (is : LinesAreSound replay (dump_of script h s) lines) where
  abbrev rows : List Kept
  rows = rows_at script.tables h s

  abbrev place : ℕ
  place = records_before script + 1

  abbrev all : List Said
  all = all_said replay (dump_of script h s) lines

  abbrev restored : History
  restored = history_of all

  are_rows : AreRowsAt script.tables h s rows
  are_rows = (is_the_list script.tables h s rows).1 refl

  pub stored_all : Each HasStored lines
  stored_all = all_stored restored all [] place rows lines tt is.right.lines is.shape

  -- each write of a record has the image that it was given
  one_image : (r : Rid) (image : Image) → Each (FitsRow r image) rows → (visible restored r (length restored) ≡ image) ⊎ (from_group (commits all) r 1 (greatest_commit all) ≡ [])
  one_image r image f = go (last_only r image (from_group (commits all) r 1 (greatest_commit all))
      (writes_only r image (commits all) 1 (greatest_commit all) (commits_fit r image place rows lines [] f tt)))
    where
      go : (last_image (from_group (commits all) r 1 (greatest_commit all)) ≡ image) ⊎ (from_group (commits all) r 1 (greatest_commit all) ≡ []) →
          (visible restored r (length restored) ≡ image) ⊎ (from_group (commits all) r 1 (greatest_commit all) ≡ [])
      go (inl e) = inl (at_end restored r ∙ e)
      go (inr e) = inr e

  none_shown : (r : Rid) → from_group (commits all) r 1 (greatest_commit all) ≡ [] → visible restored r (length restored) ≡ nothing
  none_shown r e = at_end restored r ∙ ap last_image e

  -- and a record of the dump has a write
  not_written : (r : Rid) (kept : Kept) → Contains rows kept → same_rid kept.rid r ≡ true → from_group (commits all) r 1 (greatest_commit all) ≡ [] → ⊥
  not_written r kept there same e =
      let top : ℕ = greatest_commit all in
      let ranges : Each (λ (p : ℕ × Commit). (1 ≤ p.0) × (p.0 < suc top)) (commits all) = each_pairs (λ (p : ℕ × Commit). 1 ≤ p.0) (λ p. p.0 < suc top)
      (commits all) is.right.whole.numbers (commits_below [] all) in
      let none : Each (Without r) (commits all) = in_groups (λ c. image_in r c.images ≡ None) (λ n. (1 ≤ n) × (n < suc top)) (commits all)
      (λ n i. no_images r (group_of (commits all) n) (no_writes (commits all) r 1 top e n i.0 (let most = i.1 in omega (arith, most)))) ranges in
      each_at (IsOther r) rows kept (none_kept r place rows lines [] tt is.shape stored_all none) there same

  row_fits : (r : Rid) → Each (FitsRow r (visible h r s)) rows
  row_fits r = each_keeps _ (FitsRow r (visible h r s)) (λ kept k same. sym (ap (λ o. record { row = o }) k.1) ∙ ap (λ q. visible h q s) (same_rid_equal kept.rid r same)) rows are_rows.each

  pub shown_again : (r : Rid) → IsTrue (is_declared script.tables r) → visible restored r (length restored) ≡ visible h r s
  shown_again r declared = go (visible h r s).row refl (one_image r (visible h r s) (row_fits r))
    where
      go : (o : Option (List Value)) → (visible h r s).row ≡ o → (visible restored r (length restored) ≡ visible h r s) ⊎ (from_group (commits all) r 1 (greatest_commit all) ≡ [])
          → visible restored r (length restored) ≡ visible h r s
      go o e (inl k) = k
      go None e (inr k) = none_shown r k ∙ sym (ap (λ o. record { row = o }) e)
      go (Some row) e (inr k) = absurd (not_written r (record { rid = r; row = row }) (are_rows.every (record { rid = r; row = row }) declared e) (same_rid_itself r) k)

  pub nothing_else : (r : Rid) → IsFalse (is_declared script.tables r) → visible restored r (length restored) ≡ nothing
  nothing_else r out = go (one_image r nothing (each_keeps _ (FitsRow r nothing)
      (λ kept k same. absurd (true_false (sym k.0 ∙ ap (is_declared script.tables) (same_rid_equal kept.rid r same) ∙ out))) rows are_rows.each))
    where
      go : (visible restored r (length restored) ≡ nothing) ⊎ (from_group (commits all) r 1 (greatest_commit all) ≡ []) → visible restored r (length restored) ≡ nothing
      go (inl k) = k
      go (inr k) = none_shown r k

  pub rows_again : rows_at script.tables restored (length restored) ≡ rows
  rows_again = sym ((is_the_list script.tables restored (length restored) rows).0 (record {
    ascend = are_rows.ascend;
    each = each_keeps _ _ (λ kept k. (k.0, ap (λ (i : Image). i.row) (shown_again kept.rid k.0) ∙ k.1)) rows are_rows.each;
    every = λ kept declared shows. are_rows.every kept declared (sym (ap (λ (i : Image). i.row) (shown_again kept.rid declared)) ∙ shows);
  }))

  -- so its dump is the same
  pub again : dump_of (dump_of script h s) restored (length restored) ≡ dump_of script h s
  again = ap (putting script) rows_again

-- ---- as a text

pub text_again : (script : Script) (h : History) (s : ℕ) (lines : List Line) → IsLawful script → IsReadable script (rows_at script.tables h s)
    → let read : Script = script_of (rows_of (dump_text script (rows_at script.tables h s))) in
    LinesAreSound replay read lines → let restored : History = history_of (all_said replay read lines) in rows_at script.tables restored (length restored) ≡ rows_at script.tables h s
text_again script h s lines lawful readable sound =
    let read : Script = script_of (rows_of (dump_text script (rows_at script.tables h s))) in
    let is : read ≡ dump_of script h s = same script (rows_at script.tables h s) lawful readable in
    ap (λ d. rows_at script.tables (history_of (all_said replay d lines)) (length (history_of (all_said replay d lines)))) is ∙
    rows_again script h s lines (subst (λ d. LinesAreSound replay d lines) is sound)
