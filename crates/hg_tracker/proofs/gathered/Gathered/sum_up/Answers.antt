use Rattle.std.proofs.Common.{◌≡◌, ℕ, ◌≤◌, List, ◌++◌, length, take, drop, refl, sym, ap, ◌∙◌, subst, arith, Vec, vec_capacity, All}
use Rattle.std.proofs.Math.Seq.{take-append_seam}
use Rattle.std.proofs.lemmas.List.Sorted.{length_permutation}
use Rattle.std.specs.declared.alloc.Global.{Global}
use Rattle.std.specs.Prelude.{IsPermutation}
use Rattle.hg_base.specs.declared.report.Entry.{Entry}
use Rattle.hg_tracker.specs.Entries.{common_numbers, moved_of}
use Rattle.hg_tracker.specs.Gathers.{AreEmpty, AreListsOf}
use Rattle.hg_tracker.proofs.gathered.Gathered.sum_up.Goals as goal

wide : (a b c : ℕ) → a ≤ b → b ≤ c → a ≤ c
wide a b c h k = omega arith

-- what ranks the entries has as many
ranked_most : (entries given ranked read : List Entry) (n : ℕ) → given ≡ entries → IsPermutation given ranked → read ≡ ranked → length entries ≤ n → length read ≤ n
ranked_most entries given ranked read n e p f h =
    subst (λ k. k ≤ n) (sym (ap length f ∙ (length_permutation given ranked p ∙ ap length e))) h

-- as many lists as before are written back
written : (n : ℕ) (new old : List (Vec ℕ Global)) → length new ≡ n → take n (new ++ old) ≡ new
written n new old e = ap (λ k. take k (new ++ old)) (sym e) ∙ take-append_seam new old

pub rank-requires : goal.rank-requires
rank-requires c = record {
  room = subst (λ k. k ≤ vec_capacity c.args.self.now.ranked) (sym (ap length c.deref.ensures.value))
      (wide (length c.args.self.now.entries.items) c.args.self.now.sessions (vec_capacity c.args.self.now.ranked) c.requires.room c.requires.made.4);
}

pub fill_common-requires : goal.fill_common-requires
fill_common-requires c = record {
  room = wide (length c.deref-2.result.now) c.args.self.now.sessions (vec_capacity c.args.self.now.common)
      (ranked_most c.args.self.now.entries.items c.deref.result.now c.rank.new.ranked.items c.deref-2.result.now c.args.self.now.sessions
      c.deref.ensures.value c.rank.ensures.shuffled c.deref-2.ensures.value c.requires.room)
      c.requires.made.7;
}

pub fill_moved-requires : goal.fill_moved-requires
fill_moved-requires c = record {
  room = wide (length c.deref-3.result.now) c.args.self.now.sessions (vec_capacity c.args.self.now.moved)
      (ranked_most c.args.self.now.entries.items c.deref.result.now c.rank.new.ranked.items c.deref-3.result.now c.args.self.now.sessions
      c.deref.ensures.value c.rank.ensures.shuffled c.deref-3.ensures.value c.requires.room)
      c.requires.made.6;
}

pub fill_claimed-requires-clause-tables : goal.fill_claimed-requires-clause-tables
fill_claimed-requires-clause-tables c = subst (λ k. k ≤ 64) (sym (ap length c.as_mut_slice.ensures.value)) c.requires.made.2

pub fill_claimed-requires-clause-moved : goal.fill_claimed-requires-clause-moved
fill_claimed-requires-clause-moved c =
    c.deref-4.ensures.value ∙ (c.fill_moved.ensures.items ∙ ap moved_of (c.deref-3.ensures.value ∙ sym c.deref-5.ensures.value))

pub fill_claimed-requires-clause-room : goal.fill_claimed-requires-clause-room
fill_claimed-requires-clause-room c = (
  ranked_most c.args.self.now.entries.items c.deref.result.now c.rank.new.ranked.items c.deref-5.result.now c.args.self.now.sessions
      c.deref.ensures.value c.rank.ensures.shuffled c.deref-5.ensures.value c.requires.room,
  subst (All (λ (list : Vec ℕ Global). c.args.self.now.sessions ≤ vec_capacity list)) (sym c.as_mut_slice.ensures.value) c.requires.made.5,
)

pub fill_claimed-requires-clause-empty : goal.fill_claimed-requires-clause-empty
fill_claimed-requires-clause-empty c = λ e. subst AreEmpty (sym c.as_mut_slice.ensures.value) (c.requires.made.8 e)

pub returns-clause-noted : goal.returns-clause-noted
returns-clause-noted c = (refl, refl, refl)

pub returns-clause-lists : goal.returns-clause-lists
returns-clause-lists c =
    let new = c.fill_claimed.new.lists in
    let old = c.args.self.now.lists.items in
    let same = written c.args.self.now.lists.len new (drop (length new) old) (c.fill_claimed.ensures.room.0 ∙ c.as_mut_slice.ensures.len) in
    let ranked = c.rank.new.ranked.items in
    let common : common_numbers c.deref-5.result.now ≡ c.fill_common.new.common.items =
    ap common_numbers (c.deref-5.ensures.value ∙ sym c.deref-2.ensures.value) ∙ sym c.fill_common.ensures.items in
    subst (AreListsOf 0 c.fill_common.new.common.items ranked) (sym same) (subst (λ (l : List ℕ). AreListsOf 0 l ranked new) common
    (subst (λ (es : List Entry). AreListsOf 0 (common_numbers c.deref-5.result.now) es new) c.deref-5.ensures.value c.fill_claimed.ensures.lists))

pub returns-clause-made : goal.returns-clause-made
returns-clause-made c =
    let new = c.fill_claimed.new.lists in
    let old = c.args.self.now.lists.items in
    let n = c.args.self.now.sessions in
    let made = c.requires.made in
    let same = written c.args.self.now.lists.len new (drop (length new) old) (c.fill_claimed.ensures.room.0 ∙ c.as_mut_slice.ensures.len) in (
      refl,
      ap length same ∙ (c.fill_claimed.ensures.room.0 ∙ ap length c.as_mut_slice.ensures.value),
      made.2,
      made.3,
      wide n (vec_capacity c.args.self.now.ranked) (vec_capacity c.rank.new.ranked) made.4 c.rank.ensures.room,
      subst (All (λ (list : Vec ℕ Global). n ≤ vec_capacity list)) (sym same) c.fill_claimed.ensures.room.1,
      wide n (vec_capacity c.args.self.now.moved) (vec_capacity c.fill_moved.new.moved) made.6 c.fill_moved.ensures.room,
      wide n (vec_capacity c.args.self.now.common) (vec_capacity c.fill_common.new.common) made.7 c.fill_common.ensures.room,
      λ e. subst AreEmpty (sym same) (c.fill_claimed.ensures.empty e),
    )
