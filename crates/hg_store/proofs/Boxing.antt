-- A bucket that is held, with other records in its box.
use Rattle.std.proofs.Common.{◌≡◌, sym, subst}
use Rattle.hg_bucket.specs.BucketModel.{BucketModel}
use Rattle.hg_rule.specs.declared.view.View.{View}
use Rattle.hg_store.specs.declared.held.Held.{Held}
use Rattle.hg_store.specs.Stores.{held_records, Holds}

abbrev pub boxed : Held → BucketModel → Held
boxed h b = record h { bucket = record h.bucket { value = b } }

pub boxed_holds : {v : View} (h : Held) (b : BucketModel) → b ≡ held_records h → Holds v h → Holds v (boxed h b)
boxed_holds {v} h b same hold = subst (λ b. Holds v (boxed h b)) (sym same) hold
