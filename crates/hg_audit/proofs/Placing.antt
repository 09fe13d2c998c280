-- How many records of a text the first lines have.
use Rattle.std.proofs.Common.{◌≡◌, ℕ, ◌+◌, ◌<◌, ◌≤◌, List, [], ◌∷◌, ◌++◌, length, take, sym, ap, ◌∙◌, arith}
use Rattle.std.specs.Prelude.{nat_lt}
use Rattle.std.specs.List.{flat_map}
use Rattle.std.proofs.lemmas.Bool.{ltb-true, ltb-false}
use Rattle.std.proofs.lemmas.List.{length-append}
use Rattle.std.proofs.lemmas.Grind.{flat_map-append}
use Rattle.hg_base.specs.declared.line.Line.{Line}
use Rattle.hg_base.specs.declared.line.Printed.{Printed}
use Rattle.hg_base.specs.Script.{Declaration, Script}
use Rattle.hg_base.specs.Text.{line_records, totals_records}
use Rattle.hg_base.proofs.ListFacts.{append_nil, cases}
use Rattle.hg_audit.specs.Verdict.{last_record}
use Rattle.hg_known.proofs.Walking.{AtLine, take_all}

pub records_next : (tables : List Declaration) (xs : List Line) (k : ℕ) (line : Line) → AtLine xs k line →
    length (flat_map (line_records tables) (take (k + 1) xs)) ≡ length (flat_map (line_records tables) (take k xs)) + length (line_records tables line)
records_next tables xs k line at =
    ap (λ ys. length (flat_map (line_records tables) ys)) at.up_to
    ∙ ap length (flat_map-append (line_records tables) (take k xs) (line ∷ []))
    ∙ length-append (flat_map (line_records tables) (take k xs)) (line_records tables line ++ [])
    ∙ ap (λ ys. length (flat_map (line_records tables) (take k xs)) + length ys) (append_nil (line_records tables line))

-- as many lines as there are, where fewer are there
pub same_before : (xs : List Line) (k many : ℕ) → (k ≤ many) → (k < length xs → k ≡ many) → take k xs ≡ take many xs
same_before xs k many h f = cases (nat_lt k (length xs))
    (λ e. ap (λ n. take n xs) (f (ltb-true k (length xs) e)))
    (λ e. let over : length xs ≤ k = ltb-false k (length xs) e in
    take_all xs k over ∙ sym (take_all xs many (omega (arith, over, h))))

pub last_is : (script : Script) (printed : Printed) (lines : List Line) (before at : ℕ) → printed.lines ≡ lines →
    before ≡ length (flat_map (line_records script.tables) (take (length lines) lines)) → at ≡ before + 6 → at ≡ last_record script printed
last_is script printed lines before at same e f =
    let all = ap (λ ys. length (flat_map (line_records script.tables) ys)) (take_all lines (length lines) (omega arith)) in
    let here = ap (λ ys. length (flat_map (line_records script.tables) ys)) same in
    let both = length-append (flat_map (line_records script.tables) printed.lines) (totals_records printed.totals) in
    omega (arith, all, here, both, e, f)
