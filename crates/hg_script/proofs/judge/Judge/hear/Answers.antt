use Rattle.std.proofs.Common.{◌≡◌, ◌∙◌, ℕ, min, Option, Some, None, false, true, length, sym, ap, rules}
use Rattle.std.proofs.lemmas.Result.{IfOk-weaker}
use Rattle.csv.specs.Records.{fields_of}
use Rattle.hg_base.specs.declared.limits.TheConstants.{MOST_RECORDS}
use Rattle.hg_base.specs.Script.{Script}
use Rattle.hg_script.specs.declared.word.Word.{Word}
use Rattle.hg_script.specs.declared.draft.Draft.{Draft}
use Rattle.hg_script.specs.Draft.{draft_of}
use Rattle.hg_script.specs.Fields.{word_of}
use Rattle.hg_script.specs.Judging.{Knows, code_at}
use Rattle.hg_script.specs.Meaning.{draft_code, with_draft, with_row}
use Rattle.hg_script.specs.Rules.{count_breaks, fields_breaks}
use Rattle.hg_script.proofs.Judging.{broken_count, broken_word, broken_fields, broken_after, word_alike, row_taken, judged_taken}
use Rattle.hg_script.proofs.judge.Judge.hear.Goals as goal

pub returns-then-breaks_count : goal.returns-then-breaks_count
returns-then-breaks_count c s k =
    let r = fields_of c.args.row.now in
    let word : word_of (min c.args.place MOST_RECORDS) r ≡ c.read-word.result = cc (c.read-word.ensures, c.min-at.ensures) in
    let count : count_breaks (min c.args.place MOST_RECORDS) s.tables c.read-word.result ≡ true =
    cc (c.breaks_count.ensures, c.if-breaks_count.true, c.min-at.ensures, c.tables.ensures.same, k.tables_are) in
    (broken_count (min c.args.place MOST_RECORDS) s r c.read-word.result word count, k)

pub returns-in_default : goal.returns-in_default
returns-in_default c s k =
    let r = fields_of c.args.row.now in
    let word : word_of (min c.args.place MOST_RECORDS) r ≡ c.read-word.result = cc (c.read-word.ensures, c.min-at.ensures) in
    let count : count_breaks (min c.args.place MOST_RECORDS) s.tables c.read-word.result ≡ false =
    cc (c.breaks_count.ensures, c.if-breaks_count.false, c.min-at.ensures, c.tables.ensures.same, k.tables_are) in
    (broken_word (min c.args.place MOST_RECORDS) s r c.read-word.result word count c.in_default.is, k)

pub returns-then-breaks_fields : goal.returns-then-breaks_fields
returns-then-breaks_fields c s k =
    let r = fields_of c.args.row.now in
    let word : word_of (min c.args.place MOST_RECORDS) r ≡ Some c.in-Some.word = cc (c.read-word.ensures, c.min-at.ensures, c.in-Some.is) in
    let count : count_breaks (min c.args.place MOST_RECORDS) s.tables (Some c.in-Some.word) ≡ false =
    cc (c.breaks_count.ensures, c.if-breaks_count.false, c.min-at.ensures, c.tables.ensures.same, k.tables_are, c.in-Some.is) in
    let fields : fields_breaks c.in-Some.word (length r) ≡ true = cc (c.breaks_fields.ensures, c.if-breaks_fields.true, c.len.ensures) in
    (broken_fields (min c.args.place MOST_RECORDS) s r c.in-Some.word word count fields, k)

pub returns-in-Some-code : goal.returns-in-Some-code
returns-in-Some-code c s k =
    let r = fields_of c.args.row.now in
    let word : word_of (min c.args.place MOST_RECORDS) r ≡ Some c.in-Some.word = cc (c.read-word.ensures, c.min-at.ensures, c.in-Some.is) in
    let count : count_breaks (min c.args.place MOST_RECORDS) s.tables (Some c.in-Some.word) ≡ false =
    cc (c.breaks_count.ensures, c.if-breaks_count.false, c.min-at.ensures, c.tables.ensures.same, k.tables_are, c.in-Some.is) in
    let fields : fields_breaks c.in-Some.word (length r) ≡ false = cc (c.breaks_fields.ensures, c.if-breaks_fields.false, c.len.ensures) in
    let draft : draft_of s.version s.tables c.in-Some.word r ≡ c.in_ok-draft.draft = search rules in
    let code : draft_code s c.in_ok-draft.draft ≡ Some c.in-Some-code.code = sym (c.code.ensures.code s (search rules) (search rules)) ∙ c.in-Some-code.is in
    (broken_after (min c.args.place MOST_RECORDS) s r c.in-Some.word word count fields ∙ ap (draft_code s) draft ∙ code, k)

pub returns : goal.returns
returns c s k =
    let r = fields_of c.args.row.now in
    let word : word_of (min c.args.place MOST_RECORDS) r ≡ Some c.in-Some.word = cc (c.read-word.ensures, c.min-at.ensures, c.in-Some.is) in
    let count : count_breaks (min c.args.place MOST_RECORDS) s.tables (Some c.in-Some.word) ≡ false =
    cc (c.breaks_count.ensures, c.if-breaks_count.false, c.min-at.ensures, c.tables.ensures.same, k.tables_are, c.in-Some.is) in
    let fields : fields_breaks c.in-Some.word (length r) ≡ false = cc (c.breaks_fields.ensures, c.if-breaks_fields.false, c.len.ensures) in
    let draft : draft_of s.version s.tables c.in-Some.word r ≡ c.in_ok-draft.draft = search rules in
    let code : draft_code s c.in_ok-draft.draft ≡ None = sym (c.code.ensures.code s (search rules) (search rules)) ∙ c.in_default-code.is in
    let none : code_at c.args.place s r ≡ None = broken_after (min c.args.place MOST_RECORDS) s r c.in-Some.word word count fields ∙ ap (draft_code s) draft ∙ code in
    let same : with_row c.args.place s r ≡ with_draft c.args.place s r c.in_ok-draft.draft =
    row_taken c.args.place s r c.in-Some.word (sym (word_alike c.args.place r) ∙ word) ∙ ap (with_draft c.args.place s r) draft in
    IfOk-weaker c.take.result _ _ (λ judged t. judged_taken c.args.place s r c.in_ok-draft.draft judged _ none same t) (c.take.ensures c.args.place s k (search rules))
