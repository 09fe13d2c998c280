-- What a session's call answered, as a reply.
use Rattle.std.proofs.Common.{◌≡◌, Option, Some, None, refl, subst}
use Rattle.std.specs.Prelude.{Result, Ok, Err, not, is_some, is_none, IfSome, IfOk}
use Rattle.hg_base.specs.declared.line.Reply.{Reply}
use Rattle.hg_base.specs.declared.fault.NoMemory.{NoMemory}

pub none_is : {X : Type 0} (o : Option X) → not (is_some o) ≡ is_none o
none_is None = refl
none_is (Some x) = refl

-- what holds of the reply of a call holds of the one that is given
pub told : (o : Option Reply) (P : Reply → Type 0) (result : Result Reply NoMemory) → IfSome o P → IfOk result (λ reply. o ≡ Some reply) → IfOk result P
told o P (Ok reply) h e = subst (λ o. IfSome o P) e h
told o P (Err x) h e = tt
