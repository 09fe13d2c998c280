use Rattle.std.proofs.Common.{◌≡◌, ◌-◌, length, sym, ap, ◌∙◌, refl, subst}
use Rattle.std.specs.Prelude.{slice_get}
use Rattle.hg_chains.specs.Landmarks.{landmarks_at, top_of}
use Rattle.hg_chains.proofs.LandmarkFacts.{top_last}
use Rattle.hg_chains.proofs.LandmarkLists.{read}
use Rattle.hg_chains.proofs.landmarks.Landmarks.top.Goals as goal

pub returns-in-Some-last : goal.returns-in-Some-last
returns-in-Some-last c =
    let list = c.in-Some.list.now in
    let look = c.in-Some.ensures.lookup in
    let here = subst (λ ls. landmarks_at ls c.args.place ≡ list.items) c.deref.ensures.value (read c.deref.result.now c.args.place list look.3.0 look.1) in
    let last = top_last list.items (length list.items - 1) c.in-Some-last.landmark.now refl
    (c.in-Some-last.ensures.value ∙ ap (λ xs. slice_get xs (length xs - 1)) c.deref-in-Some.ensures.value) in
    sym (ap top_of here ∙ last)
