use Rattle.std.proofs.Common.{◌≡◌, ◌++◌, ℕ, List, [], ◌∷◌, length, refl, sym, ap, ◌∙◌, subst, arith}
use Rattle.hg_base.specs.declared.statement.Record.{Record}
use Rattle.hg_base.specs.Script.{Script, replay}
use Rattle.hg_base.specs.Sound.{IsSound}
use Rattle.hg_exact.specs.Replayed.{replayed}
use Rattle.hg_exact.proofs.Totals.{totals_same}
use Rattle.hg_seed.specs.Generator.{AreMade, IsMade}
use Rattle.hg_run.proofs.laws.loads_print_the_same.Goals as goal

-- a seed makes one list of so many records
made_same : (seed : ℕ) (before xs ys : List Record) → length xs ≡ length ys → AreMade seed before xs → AreMade seed before ys → xs ≡ ys
made_same seed before [] [] long a b = refl
made_same seed before [] (y ∷ ys) long a b = absurd (omega (arith, long))
made_same seed before (x ∷ xs) [] long a b = absurd (omega (arith, long))
made_same seed before (x ∷ xs) (y ∷ ys) long a b =
    let first : x ≡ y = a.0 ∙ sym b.0 in
    let rest : xs ≡ ys = made_same seed (before ++ x ∷ []) xs ys (omega (arith, long)) a.1 (subst (λ r. AreMade seed (before ++ r ∷ []) ys) (sym first) b.1) in
    λ i. first i ∷ rest i

-- and one script
one_script : (seed : ℕ) (s t : Script) → IsMade seed s → IsMade seed t → s ≡ t
one_script seed s t a b =
    let version = a.version ∙ sym b.version in
    let tables = a.tables ∙ sym b.tables in
    let records = made_same seed [] s.records t.records (a.many ∙ sym b.many) a.each b.each in
    λ i. record { version = version i; tables = tables i; records = records i }

pub returns : goal.returns
returns c = λ seed a b text other p q.
    let same = one_script seed q.script p.script q.made p.made in
    totals_same p.script p.printed.lines q.printed.lines p.printed.totals q.printed.totals (p.exact ∙ ap replayed (sym same) ∙ sym q.exact)
    p.sound.totals (subst (λ s. IsSound replay s q.printed) same q.sound).totals
