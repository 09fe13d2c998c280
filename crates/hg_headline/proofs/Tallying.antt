-- What each statement of a replay adds to what the logs made and took back.
use Rattle.std.proofs.Common.{◌≡◌, ℕ, ◌+◌, ◌≤◌, List, [], ◌∷◌, ◌++◌, length, map, Bool, true, Option, Some, None, refl, sym, ap, ◌∙◌, arith}
use Rattle.std.specs.Prelude.{◌&&◌, if◌then◌else◌, IsTrue, is_some, is_none}
use Rattle.hg_base.specs.declared.rid.Rid.{Rid}
use Rattle.hg_base.specs.declared.rid.TableId.{TableId}
use Rattle.hg_base.specs.declared.image.Image.{Image}
use Rattle.hg_base.specs.declared.statement.Statement.{Statement}
use Rattle.hg_base.specs.declared.statement.Statement.TheVariants.{Get, Put, Del, Scan}
use Rattle.hg_base.specs.declared.line.Answer.{Answer}
use Rattle.hg_base.specs.declared.line.Answer.TheVariants.{Stored, Found, Nothing, Gone, Rows, Newer, OpenBy, Undeclared}
use Rattle.hg_base.specs.declared.value.Value.{Value}
use Rattle.hg_base.specs.History.{Write, image_in}
use Rattle.hg_base.specs.Transcript.{stored_by}
use Rattle.hg_core.specs.declared.log.LogEntry.{LogEntry}
use Rattle.hg_core.specs.declared.log.LogEntry.TheVariants.{Undid}
use Rattle.hg_core.specs.Logs.{begans, own_writes}
use Rattle.hg_core.specs.Events.{put}
use Rattle.hg_core.specs.Counters.{first_writes, undos}
use Rattle.hg_core.specs.Reading.{Unprinted, saws, own_entries, is_access, FitsAnswer}
use Rattle.hg_core.proofs.OwnKeys.{saws_keep}
use Rattle.hg_core.proofs.Indices.{put_here, put_else}
use Rattle.hg_core.proofs.Sums.{sum_grown}
use Rattle.hg_headline.specs.Counted.{every, made_in, undone_in, adding}
use Rattle.hg_headline.proofs.Words.{true_false}
use Rattle.hg_headline.proofs.Firsts.{one_if, first_by, first_with, first_access, first_writes_is}

-- ---- a log given anew

pub made_put : (sessions : ℕ) (logs : ℕ → List LogEntry) (j : ℕ) (l : List LogEntry) (n : ℕ) → 1 ≤ j → j ≤ sessions → first_writes every l ≡ first_writes every (logs j) + n →
    made_in sessions (put logs j l) ≡ made_in sessions logs + n
made_put sessions logs j l n some most e = sum_grown sessions j n (λ k. first_writes every (logs k)) (λ k. first_writes every (put logs j l k)) some most
    (λ k z. ap (first_writes every) (put_else logs j k l z)) (ap (first_writes every) (put_here logs j l) ∙ e)

pub undone_put : (sessions : ℕ) (logs : ℕ → List LogEntry) (j : ℕ) (l : List LogEntry) (n : ℕ) → 1 ≤ j → j ≤ sessions → undos every l ≡ undos every (logs j) + n →
    undone_in sessions (put logs j l) ≡ undone_in sessions logs + n
undone_put sessions logs j l n some most e = sum_grown sessions j n (λ k. undos every (logs k)) (λ k. undos every (put logs j l k)) some most
    (λ k z. ap (undos every) (put_else logs j k l z)) (ap (undos every) (put_here logs j l) ∙ e)

pub no_more : (m n : ℕ) → m ≡ n → m ≡ n + 0
no_more m n e = omega (arith, e)

-- ---- entries

adding_is : (test : ℕ → Bool) (x : ℕ) (own : List Write) (o : Option Write) (rest : ℕ) → test x ≡ true → first_with test x own o rest ≡ rest + adding own o
adding_is test x own None rest e = omega arith
adding_is test x own (Some w) rest e = ap (λ b. one_if (b && is_none (image_in w.rid own)) + rest) e ∙ go (image_in w.rid own)
  where
    go : (i : Option Image) → one_if (true && is_none i) + rest ≡ rest + (if is_some i then 0 else 1)
    go None = omega arith
    go (Some i) = omega arith

pub made_access : (buckets : ℕ) (u : Unprinted) (own : List Write) (s : Statement) (a : Answer) (l : List LogEntry) → IsTrue (is_access s) → FitsAnswer buckets u own s a →
    first_writes every (own_entries buckets u s a ++ l) ≡ first_writes every l + adding (own_writes l) (stored_by s a)
made_access buckets u own s a l e f =
    first_writes_is (own_entries buckets u s a ++ l) ∙ first_access (λ x. true) buckets u own s a l e f
    ∙ adding_is (λ x. true) (begans l) (own_writes l) (stored_by s a) (first_by (λ x. true) l) refl ∙ ap (λ n. n + adding (own_writes l) (stored_by s a)) (sym (first_writes_is l))

pub made_undone : (rids : List Rid) (l : List LogEntry) → first_writes every (map Undid rids ++ l) ≡ first_writes every l
made_undone [] l = refl
made_undone (r ∷ rids) l = made_undone rids l

undos_saws : (buckets : ℕ) (t : TableId) (low high : ℕ) (part : ℕ → List (ℕ × List Value)) (n : ℕ) (l : List LogEntry) → undos every (saws buckets t low high part n ++ l) ≡ undos every l
undos_saws buckets t low high part n l = saws_keep (λ m. undos every m ≡ undos every l) buckets t low high part n l (λ b rows m e. e) refl

pub undos_access : (buckets : ℕ) (u : Unprinted) (own : List Write) (s : Statement) (a : Answer) (l : List LogEntry) → IsTrue (is_access s) → FitsAnswer buckets u own s a →
    undos every (own_entries buckets u s a ++ l) ≡ undos every l
undos_access buckets u own (Get r) (Found row) l e f = refl
undos_access buckets u own (Get r) Nothing l e f = refl
undos_access buckets u own (Get r) (Undeclared t) l e f = refl
undos_access buckets u own (Get r) _ l e f = absurd f
undos_access buckets u own (Put r row) Stored l e f = refl
undos_access buckets u own (Put r row) (Newer n) l e f = refl
undos_access buckets u own (Put r row) (OpenBy w) l e f = refl
undos_access buckets u own (Put r row) (Undeclared t) l e f = refl
undos_access buckets u own (Put r row) _ l e f = absurd f
undos_access buckets u own (Del r) Nothing l e f = refl
undos_access buckets u own (Del r) Gone l e f = refl
undos_access buckets u own (Del r) (Newer n) l e f = refl
undos_access buckets u own (Del r) (OpenBy w) l e f = refl
undos_access buckets u own (Del r) (Undeclared t) l e f = refl
undos_access buckets u own (Del r) _ l e f = absurd f
undos_access buckets u own (Scan t low high) (Rows rows) l e f = undos_saws buckets t low high u.part buckets l
undos_access buckets u own (Scan t low high) (Undeclared other) l e f = refl
undos_access buckets u own (Scan t low high) _ l e f = absurd f
undos_access buckets u own _ a l e f = absurd (true_false (sym e))

pub undos_undone : (rids : List Rid) (l : List LogEntry) → undos every (map Undid rids ++ l) ≡ undos every l + length rids
undos_undone [] l = omega arith
undos_undone (r ∷ rids) l = let ih = undos_undone rids l in omega (arith, ih)
