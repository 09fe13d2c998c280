use Rattle.std.proofs.Common.{rules, ◌≡◌, ℕ, List, [], ◌∷◌, ◌++◌, drop, length, sym, ap, ◌∙◌, subst}
use Rattle.atomic_table.specs.declared.shared.Seat.{Seat}
use Rattle.hg_rule.specs.declared.view.View.{View}
use Rattle.hg_rule.specs.declared.view.Part.{Part}
use Rattle.hg_rule.specs.declared.view.Sizes.{Sizes}
use Rattle.hg_rule.specs.Keys.{commit_key}
use Rattle.hg_rule.specs.Facts.{new_part}
use Rattle.hg_rule.specs.Views.{seeing}
use Rattle.hg_rule.specs.Moves.{first_of, run, session_part, bucket_part, pass_part, first_view}
use Rattle.hg_rule.specs.Seats.{board_id, view}
use Rattle.hg_rule.specs.declared.passes.SessionPass.{SessionPass}
use Rattle.hg_rule.specs.declared.passes.BucketSeat.{BucketSeat}
use Rattle.hg_rule.specs.New.{EachFrom, IsNew, IsNewSession, IsNewBucket}
use Rattle.hg_rule.proofs.Opening.{run_past, each_from_map, passes_left, passes_dealt}
use Rattle.hg_rule.proofs.maker.deal_all.Goals as goal

-- what is left of a new board's parts after the first of them are dealt
parts_left : (k : ℕ) (z : Sizes) (all left : Seat ℕ View) → all.me ≡ (first_view z, []) → view left ≡ seeing (drop k (view all).parts) [] (view all).events → (view left).parts ≡ drop k (first_view z).parts
parts_left k z all left e f = ap (λ (v : View). v.parts) f ∙ ap (λ (m : View × List (ℕ × ℕ)). drop k m.0.parts) e

pub deal-requires-2-clause-parts : goal.deal-requires-2-clause-parts
deal-requires-2-clause-parts c =
    let p : List Part = run pass_part 0 3 ++ new_part commit_key ∷ [] in
    let b : List Part = run bucket_part 0 c.args.sizes.buckets ++ p in
    let e : (view c.deal.new.maker).parts ≡ drop c.args.sizes.sessions (run session_part 1 c.args.sizes.sessions ++ b) =
    parts_left c.args.sizes.sessions c.args.sizes c.args.maker c.deal.new.maker c.requires.own.1 c.in_ok-sessions.ensures.left.1 in
    (p, e ∙ run_past session_part 1 c.args.sizes.sessions b)

left_two : (c : goal.After-from-in-Ok) → ((view c.deal-2.new.maker).parts ≡ passes_left) × ((view c.deal-2.new.maker).events ≡ [])
left_two c =
    let b : List Part = run bucket_part 0 c.args.sizes.buckets ++ passes_left in
    let e : (view c.deal.new.maker).parts ≡ drop c.args.sizes.sessions (run session_part 1 c.args.sizes.sessions ++ b) =
    parts_left c.args.sizes.sessions c.args.sizes c.args.maker c.deal.new.maker c.requires.own.1 c.in_ok-sessions.ensures.left.1 in
    let f : (view c.deal-2.new.maker).parts ≡ drop c.args.sizes.buckets (view c.deal.new.maker).parts = ap (λ (v : View). v.parts) c.in-Ok.ensures.left.1 in
    let g : (view c.deal.new.maker).events ≡ [] =
    ap (λ (v : View). v.events) c.in_ok-sessions.ensures.left.1 ∙ ap (λ (m : View × List (ℕ × ℕ)). m.0.events) c.requires.own.1 in
    let h : (view c.deal-2.new.maker).events ≡ (view c.deal.new.maker).events = ap (λ (v : View). v.events) c.in-Ok.ensures.left.1 in
    (f ∙ (ap (drop c.args.sizes.buckets) (e ∙ run_past session_part 1 c.args.sizes.sessions b) ∙ run_past bucket_part 0 c.args.sizes.buckets passes_left), h ∙ g)

dealt_three : (c : goal.After-from-in-Ok) → ((view c.deal_pass-group.new.maker).parts ≡ drop 1 passes_left) ×
    ((view c.deal_pass-table.new.maker).parts ≡ drop 1 (drop 1 passes_left)) × (view c.deal_pass-interval.new.maker ≡ seeing (new_part commit_key ∷ []) [] [])
dealt_three c = passes_dealt (view c.deal-2.new.maker) (view c.deal_pass-group.new.maker) (view c.deal_pass-table.new.maker) (view c.deal_pass-interval.new.maker) (left_two c).0
    (left_two c).1 c.deal_pass-group.ensures.left.1 c.deal_pass-table.ensures.left.1 c.deal_pass-interval.ensures.left.1

pub returns-in-Ok-clause-sessions : goal.returns-in-Ok-clause-sessions
returns-in-Ok-clause-sessions c =
    let t = board_id c.args.board.now in
    let e : c.from.result ≡ c.in_ok-sessions.sessions.items = search rules in
    let all : EachFrom (λ i (x : SessionPass). ((x.number, x.begun) ≡ (i, 0)) × IsNew t (session_part i) x.seat) 1 c.in_ok-sessions.sessions.items = c.in_ok-sessions.ensures.dealt.1 in
    subst (λ l. (length l ≡ c.args.sizes.sessions) × EachFrom (IsNewSession t) 1 l) (sym e)
    (c.in_ok-sessions.ensures.dealt.0, each_from_map _ (IsNewSession t) (λ i x h. (ap (λ y. y.0) h.0, ap (λ y. y.1) h.0, h.1)) 1 c.in_ok-sessions.sessions.items all)

pub returns-in-Ok-clause-buckets : goal.returns-in-Ok-clause-buckets
returns-in-Ok-clause-buckets c =
    let t = board_id c.args.board.now in
    let e : c.from-in-Ok.result ≡ c.in-Ok.buckets.items = search rules in
    let all : EachFrom (λ i (x : BucketSeat). ((x.number, 0) ≡ (i, 0)) × IsNew t (bucket_part i) x.seat) 0 c.in-Ok.buckets.items = c.in-Ok.ensures.dealt.1 in
    subst (λ l. (length l ≡ c.args.sizes.buckets) × EachFrom (IsNewBucket t) 0 l) (sym e)
    (c.in-Ok.ensures.dealt.0, each_from_map _ (IsNewBucket t) (λ i x h. (ap (λ y. y.0) h.0, h.1)) 0 c.in-Ok.buckets.items all)

pub returns-in-Ok-clause-commit : goal.returns-in-Ok-clause-commit
returns-in-Ok-clause-commit c =
    let none : c.deal_pass-interval.new.maker.me.1 ≡ [] = c.deal_pass-interval.ensures.left.0.1 in
    (c.deal_pass-interval.ensures.left.0.0, λ i. ((dealt_three c).2 i, none i))

-- a pass of the first of these parts
at_first : (parts more : List Part) (s : Seat ℕ View) → s.me ≡ (seeing (first_of parts) [] [], []) → parts ≡ more → s.me ≡ (seeing (first_of more) [] [], [])
at_first parts more s e f = e ∙ (λ i. (seeing (first_of (f i)) [] [], []))

pub returns-in-Ok-clause-passes : goal.returns-in-Ok-clause-passes
returns-in-Ok-clause-passes c = (
  (c.deal_pass-group.ensures.dealt.0, at_first _ _ c.deal_pass-group.result.seat c.deal_pass-group.ensures.dealt.1 (left_two c).0),
  (c.deal_pass-table.ensures.dealt.0, at_first _ _ c.deal_pass-table.result.seat c.deal_pass-table.ensures.dealt.1 (dealt_three c).0),
  (c.deal_pass-interval.ensures.dealt.0, at_first _ _ c.deal_pass-interval.result.seat c.deal_pass-interval.ensures.dealt.1 (dealt_three c).1),
)
