use Rattle.std.proofs.Common.{refl, subst, rules}
use Rattle.std.specs.Prelude.{nat_le}
use Rattle.std.specs.List.Sorted.{IsPermutation}
use Rattle.std.proofs.lemmas.Fn.{filter_same}
use Rattle.std.proofs.lemmas.List.Sorted.{IsNonDecreasingBy-from_sort, answers_always}
use Rattle.hg_base.specs.Transcript.{passed}
use Rattle.hg_cursor.specs.Firsts.{Copied, rows_upto, Keeps}
use Rattle.hg_cursor.proofs.Rows.{key_of}
use Rattle.hg_cursor.proofs.firsts.Firsts.into_rows.Goals as goal

pub returns : goal.returns
returns c =
    let sorted = c.sort_unstable_by_key.new.self.items in
    let kept = filter_same _ (λ p. nat_le p.0 c.args.limit) _ (λ x b f h. search rules) c.self.inside.rows.items c.retain.new.self.items c.retain.ensures.filtered in
    subst (λ (k : Copied). Keeps k.most c.args.limit (rows_upto c.args.limit k.rows) c.truncate.new.self.items (passed k.most c.args.limit c.truncate.new.self.items)) c.self.view_is (record {
      sorted = sorted;
      permutes = subst (λ xs. IsPermutation xs sorted) kept c.sort_unstable_by_key.ensures.permutation;
      order = IsNonDecreasingBy-from_sort key_of sorted (c.sort_unstable_by_key.ensures.sorted key_of (answers_always _ _ _ (λ f a r g h. search rules)));
      is = c.truncate.ensures.items;
      upto_is = refl;
    })
