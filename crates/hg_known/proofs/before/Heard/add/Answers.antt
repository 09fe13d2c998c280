use Rattle.std.proofs.Common.{◌≡◌, ◌∙◌, ap}
use Rattle.std.specs.Prelude.{max, unwrap_or}
use Rattle.std.specs.BTreeMap.{get}
use Rattle.std.specs.Ordering.{nat_cmp}
use Rattle.hg_base.specs.Transcript.{committed}
use Rattle.hg_base.specs.Freshness.{newer_of}
use Rattle.hg_known.specs.Lines.{said_of}
use Rattle.hg_known.proofs.Hearing.{heard_more}
use Rattle.hg_known.proofs.before.Heard.add.Goals as goal

pub returns : goal.returns
returns c =
    λ earlier heard.
    let now = said_of c.args.said.now in
    let start = unwrap_or (get nat_cmp c.args.self.now.most now.session) 0 in
    let before : c.unwrap_or-before.result ≡ start = c.unwrap_or-before.ensures ∙ ap (λ o. unwrap_or o 0) (c.copied.ensures ∙ c.get.ensures.value) in
    let one : c.raised.result ≡ max (unwrap_or (newer_of now) 0) start = c.raised.ensures ∙ (λ i. max (unwrap_or (c.newer_of.ensures i) 0) (before i)) in
    let two : c.raised-2.result ≡ max (unwrap_or (committed now) 0) (max (unwrap_or (newer_of now) 0) start) = c.raised-2.ensures ∙ (λ i. max (unwrap_or (c.committed.ensures i) 0) (one i)) in
    heard_more c.args.self.now.most c.insert.new.self earlier now c.raised-most.result heard (c.raised-most.ensures ∙
    (λ i. max (unwrap_or (c.snapshot_of.ensures i) 0) (two i))) c.in_ok-insert.ensures.updates.0
