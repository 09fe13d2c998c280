-- Which sessions are in a transaction, and which have a cursor, statement by statement.
use Rattle.std.proofs.Common.{◌≡◌, ◌∙◌, ℕ, zero, suc, List, [], ◌∷◌, ◌++◌, Bool, false, get_or, replicate, fold, refl, sym, ap}
use Rattle.hg_base.specs.declared.statement.Record.{Record}
use Rattle.hg_script.specs.Rules.{opened_by, reading_by}
use Rattle.hg_script.specs.Sessions.{KnowsOpen, KnowsReading}

pub closed : (n j : ℕ) → get_or (replicate n false) j false ≡ false
closed zero j = refl
closed (suc n) zero = refl
closed (suc n) (suc j) = closed n j

pub fold-one : (f : Bool → Record → Bool) (before : Bool) (rs : List Record) (r : Record) → fold f before (rs ++ r ∷ []) ≡ f (fold f before rs) r
fold-one f before [] r = refl
fold-one f before (x ∷ rs) r = fold-one f (f before x) rs r

-- one statement more
pub notes : (old new : List Bool) (rs : List Record) (r : Record) → KnowsOpen old rs
    → ((j : ℕ) → get_or new j false ≡ opened_by j (get_or old j false) r) → KnowsOpen new (rs ++ r ∷ [])
notes old new rs r known noted j h = noted j ∙ ap (λ b. opened_by j b r) (known j h) ∙ sym (fold-one (opened_by j) false rs r)

pub reads : (old new : List Bool) (rs : List Record) (r : Record) → KnowsReading old rs
    → ((j : ℕ) → get_or new j false ≡ reading_by j (get_or old j false) r) → KnowsReading new (rs ++ r ∷ [])
reads old new rs r known noted j h = noted j ∙ ap (λ b. reading_by j b r) (known j h) ∙ sym (fold-one (reading_by j) false rs r)
