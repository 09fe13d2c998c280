-- Two steps of a source or a sink are one.
use Rattle.std.proofs.Common.{◌≡◌, ℕ, List, [], ◌++◌, ◌∙◌, sym, ap, append_assoc}
use Rattle.std.proofs.lemmas.List.{append-nil}
use Rattle.std.proofs.KnownBytes.{Consumes-nil, Consumes-trans}
use Rattle.std.specs.Io.KnownBytes.{Consumes, Keeps}
use Rattle.hg_base.specs.Flows.{Inflow}
use Rattle.hg_streams.specs.Streams.{Gave}

-- bytes that were added in two steps
pub added_more : (a b c xs ys : List ℕ) → b ≡ a ++ xs → c ≡ b ++ ys → c ≡ a ++ (xs ++ ys)
added_more a b c xs ys p q = q ∙ ap (λ z. z ++ ys) p ∙ append_assoc a xs ys

-- what a source gave in two steps
pub gave_more : (a b c : Inflow) (xs ys : List ℕ) → Gave (record { old = a; new = b }) xs → c.given ≡ b.given ++ ys → Consumes b.left c.left ys →
    Gave (record { old = a; new = c }) (xs ++ ys)
gave_more a b c xs ys g given next = record {
  given = added_more a.given b.given c.given xs ys g.given given;
  next = Consumes-trans a.left b.left c.left xs ys g.next next;
}
