-- What visits left stays so.
use Rattle.std.proofs.Common.{◌≡◌, ℕ, ◌<◌, ◌≤◌, List, [], ◌∷◌, Option, None, Some, ◌⊎◌, inl, inr, subst, arith}
use Rattle.std.specs.Prelude.{IfSome, if◌then◌else◌}
use Rattle.hg_base.specs.declared.rid.Rid.{Rid}
use Rattle.hg_base.specs.declared.report.Kind.{Kind}
use Rattle.hg_base.specs.Lists.{Each}
use Rattle.hg_core.specs.declared.version.Version.{Version}
use Rattle.hg_core.specs.declared.visit.Visit.{Visit}
use Rattle.hg_core.specs.Contents.{Content, versions, stored}
use Rattle.hg_core.specs.Visits.{IsVisiting, removing, StaysAsGiven, IsVisit, VisitsStay}
use Rattle.hg_core.specs.Events.{put}
use Rattle.hg_core.proofs.Indices.{by_number}
use Rattle.hg_core.proofs.Records.{at_record}
use Rattle.hg_core.proofs.Clean.{Stays, stays_same}

given_stays : (buckets b mark top : ℕ) (before after : Rid → List Version) (given : Option Content) → mark ≤ top → ((r : Rid) → Stays top (before r) (after r)) →
    IfSome given (StaysAsGiven buckets b mark before) → IfSome given (StaysAsGiven buckets b mark after)
given_stays buckets b mark top before after None le s h = tt
given_stays buckets b mark top before after (Some given) le s h = record {
  cut = λ r bound at low k. (s r).cut bound (omega (arith, le, low)) (h.cut r bound at low k);
  clean = λ r horizon snapshots at low c. (s r).clean horizon snapshots (omega (arith, le, low)) (h.clean r horizon snapshots at low c);
}

visits_each : (buckets mark top : ℕ) (before after : Rid → List Version) (vs : List Visit) → mark ≤ top → ((r : Rid) → Stays mark (before r) (after r)) →
    Each (IsVisit buckets mark before) vs → Each (IsVisit buckets top after) vs
visits_each buckets mark top before after [] le s h = tt
visits_each buckets mark top before after (v ∷ vs) le s h = (
  record { bucket = h.0.bucket; kept = omega (arith, le, h.0.kept); stays = given_stays buckets v.bucket v.mark mark before after v.given h.0.kept s h.0.stays },
  visits_each buckets mark top before after vs le s h.1,
)

-- the mark grows, or versions change so that what was cut or clean stays so
pub visits_later : (passes buckets mark top : ℕ) (before after : Rid → List Version) (visits : ℕ → List Visit) → mark ≤ top → ((r : Rid) → Stays mark (before r) (after r)) →
    VisitsStay passes buckets mark before visits → VisitsStay passes buckets top after visits
visits_later passes buckets mark top before after visits le s h = record {
  each = λ p. visits_each buckets mark top before after (visits p) le s (h.each p);
  others = h.others;
}

-- one record's versions given anew
pub stays_stored : (mark buckets : ℕ) (bucket : ℕ → Content) (r : Rid) (vs : List Version) → Stays mark (versions buckets bucket r) vs → (q : Rid) →
    Stays mark (versions buckets bucket q) (versions buckets (stored buckets bucket r vs) q)
stays_stored mark buckets bucket r vs here = at_record buckets bucket r vs (λ q c. Stays mark (versions buckets bucket q) c) here (λ q other. stays_same mark (versions buckets bucket q))

-- the newest visit of a pass changes, and is one still
pub visits_changed : (passes buckets mark : ℕ) (held : Rid → List Version) (visits : ℕ → List Visit) (p : ℕ) (vs : List Visit) → p < passes → Each (IsVisit buckets mark held) vs →
    VisitsStay passes buckets mark held visits → VisitsStay passes buckets mark held (put visits p vs)
visits_changed passes buckets mark held visits p vs less here h = record {
  each = by_number p (λ q b. Each (IsVisit buckets mark held) (if b then vs else visits q)) here (λ q other. h.each q);
  others = by_number p (λ q b. (q < passes) ⊎ ((if b then vs else visits q) ≡ [])) (inl less) (λ q other. h.others q);
}

-- who visits is a pass that there is
pub visitor : (passes buckets mark : ℕ) (held : Rid → List Version) (visits : ℕ → List Visit) (p b : ℕ) → IsVisiting b (visits p) → VisitsStay passes buckets mark held visits → p < passes
visitor passes buckets mark held visits p b here h = elim (h.others p) [ inl less ↦ less | inr none ↦ absurd (subst (IsVisiting b) none here) ]

pub removing_each : (buckets mark b n : ℕ) (held : Rid → List Version) (kind : Kind) (vs : List Visit) → IsVisiting b vs → Each (IsVisit buckets mark held) vs →
    Each (IsVisit buckets mark held) (removing kind n vs)
removing_each buckets mark b n held kind [] here h = absurd here
removing_each buckets mark b n held kind (v ∷ vs) here h = (record { bucket = h.0.bucket; kept = h.0.kept; stays = h.0.stays }, h.1)
